use Rattle.std.proofs.Common.{Some, ◌≡◌, ◌++◌, [], ◌∷◌, List, Ok, refl, sym, ap, subst, ◌∙◌}
use Rattle.std.specs.Prelude.{option_map}
use Rattle.shm_model.specs.declared.acts.ShmEntry.{ShmEntry}
use Rattle.shm_model.specs.declared.acts.ShmAct.TheVariants as act
use Rattle.shm_model.specs.declared.acts.ShmAnswer.{ShmAnswer}
use Rattle.shm_model.specs.declared.acts.ShmAnswer.TheVariants as answer
use Rattle.shm_model.specs.declared.acts.ShmFault.TheVariants as fault
use Rattle.shm_model.specs.Keys.{keys_after}
use Rattle.sysv_shm.specs.Makers.{segment_of}
use Rattle.sysv_shm.specs.Shm.{ShmSeen, IsShm, AnswersAttachment}
use Rattle.sysv_shm.proofs.Answered.{Keeps}
use Rattle.sysv_shm.proofs.Questions.{others-keep, no-key-attached, attached-one}
use Rattle.sysv_shm.proofs.shm.Shm.attach.Given.{Over}
use Rattle.sysv_shm.proofs.shm.Shm.attach.Goals.{After-note-2}
use Rattle.sysv_shm.proofs.shm.Shm.attach.Goals as goal

pub invariant_of-self-in_default : goal.invariant_of-self-in_default
invariant_of-self-in_default g c =
    let look = g.M.ShmMaker.look in
    let starts = g.M.ShmMaker.starts in
    let inside = c.self.inside in
    let S = inside.entries.items in
    let lines = inside.lines.items in
    let args = c.args in
    let may =
    subst (λ (s : ShmSeen _). g.M.ShmMaker.may_attach s.maker args.user.now)
    (sym c.self.view_is) c.requires.may in
    let e : ShmEntry = record {
      process = args.process;
      act = act.Attach args.key args.place args.prot;
      answer = answer.Refused fault.NoKey;
    } in
    let kept =
    no-key-attached look starts inside.maker inside.slots S lines args.process args.key
    args.place args.prot (g.M.ShmMaker.user_of args.user.now) c.self.invariant
    (sym c.made_at.ensures ∙ c.in_default.is)
    (λ same. g.met.M.ShmMaker.apart inside.maker args.user.now may (c.requires.of ∙ same))
    c.requires.of in
    let noted : c.note.new.entries.items ≡ S ++ e ∷ [] =
    c.note.ensures ∙ ap (λ (es : List ShmEntry). es ++ e ∷ []) c.reserve.ensures.items in
    subst (λ es. IsShm look starts inside.maker inside.slots es lines) (sym noted) kept.0

pub invariant_of-self-in_err-reply : goal.invariant_of-self-in_err-reply
invariant_of-self-in_err-reply g c =
    let look = g.M.ShmMaker.look in
    let starts = g.M.ShmMaker.starts in
    let inside = c.self.inside in
    subst (λ es. IsShm look starts c.attach.new.self inside.slots es inside.lines.items)
    (sym c.reserve.ensures.items)
    (others-keep look starts inside.maker c.attach.new.self inside.slots inside.slots
    inside.entries.items inside.lines.items c.self.invariant c.attach.ensures.same.starts_same
    c.in_err-reply.ensures.err (λ k. refl))

-- the Attach that was answered keeps what always holds, and was answered as was due
kept : (g : Over) (c : After-note-2 g)
    → Keeps g.M.ShmMaker.look g.M.ShmMaker.starts c.attach.new.self c.self.inside.slots
    c.self.inside.entries.items c.self.inside.lines.items c.args.process
    (act.Attach c.args.key c.args.place c.args.prot)
    (answer.Attached c.in-Some.made.object c.in_ok-reply.reply) c.note-2.new.entries.items
kept g c =
    let look = g.M.ShmMaker.look in
    let starts = g.M.ShmMaker.starts in
    let user_of = g.M.ShmMaker.user_of in
    let inside = c.self.inside in
    let S = inside.entries.items in
    let lines = inside.lines.items in
    let args = c.args in
    let a = act.Attach args.key args.place args.prot in
    let r = answer.Attached c.in-Some.made.object c.in_ok-reply.reply in
    let may =
    subst (λ (s : ShmSeen _). g.M.ShmMaker.may_attach s.maker args.user.now)
    (sym c.self.view_is) c.requires.may in
    let new =
    attached-one look starts inside.maker c.attach.new.self inside.slots S lines args.process
    args.key args.place args.prot (user_of args.user.now) (user_of c.attach.new.user)
    c.in-Some.made c.in_ok-reply.reply c.self.invariant c.attach.ensures.same.starts_same
    (sym c.made_at.ensures ∙ c.in-Some.is)
    (λ same. g.met.M.ShmMaker.apart inside.maker args.user.now may (c.requires.of ∙ same))
    c.requires.of c.in_ok-reply.ensures.attaches in
    let noted : c.note-2.new.entries.items
    ≡ S ++ record { process = args.process; act = a; answer = r } ∷ [] =
    c.note-2.ensures
    ∙ ap (λ (es : List ShmEntry).
    es ++ record { process = args.process; act = a; answer = c.attached.result } ∷ [])
    c.reserve.ensures.items
    ∙ ap (λ (w : ShmAnswer). S ++ record { process = args.process; act = a; answer = w } ∷ [])
    c.attached.ensures in
    record {
      entries = noted;
      due = new.1;
      always = subst (λ es. IsShm look starts c.attach.new.self inside.slots es lines) (sym noted)
          new.0;
    }

pub invariant_of-self-2 : goal.invariant_of-self-2
invariant_of-self-2 g c = (kept g (goal.at.invariant_of-self-2 g c).After-note-2).always

pub returns-clause-asks : goal.returns-clause-asks
returns-clause-asks g c =
    let inside = c.self.inside in
    let S = inside.entries.items in
    let args = c.args in
    let user_of = g.M.ShmMaker.user_of in
    let k = kept g (goal.at.returns-clause-asks g c).After-note-2 in
    let has : keys_after S args.key ≡ Some (segment_of c.in-Some.made) =
    sym (c.self.invariant.table args.key)
    ∙ ap (option_map segment_of) (sym c.made_at.ensures ∙ c.in-Some.is) in
    let done = c.in_ok-reply.ensures.attaches in
    subst
    (λ (s : ShmSeen g.row.M.Denot). AnswersAttachment s
    record {
      maker = c.attach.new.self;
      slots = inside.slots;
      entries = c.note-2.new.entries.items;
      lines = inside.lines.items;
    }
    (user_of args.user.now) (user_of c.attach.new.user) args.process args.key args.place
    args.prot (Ok c.in_ok-reply.reply))
    c.self.view_is
    record {
      object = c.in-Some.made.object;
      asks = record { entries = k.entries; due = k.due };
      told = (
        segment_of c.in-Some.made,
        has,
        done.x,
        done.process,
        done.call,
        done.is_reply,
        done.same,
        done.own,
        done.room,
      );
    }
