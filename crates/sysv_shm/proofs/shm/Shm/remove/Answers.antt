use Rattle.std.proofs.Common.{◌≡◌, ◌<◌, ◌++◌, [], ◌∷◌, List, refl, sym, ap, subst, ◌∙◌}
use Rattle.shm_model.specs.declared.acts.ShmEntry.{ShmEntry}
use Rattle.shm_model.specs.declared.acts.ShmAct.TheVariants as act
use Rattle.shm_model.specs.declared.acts.ShmAnswer.TheVariants as answer
use Rattle.shm_model.specs.declared.acts.ShmFault.TheVariants as fault
use Rattle.sysv_shm.specs.Shm.{ShmSeen, IsShm, spent_by, line_room}
use Rattle.sysv_shm.proofs.Lines.{one-left}
use Rattle.sysv_shm.proofs.Questions.{others-keep, no-key-removed, removed-one, asker-other}
use Rattle.sysv_shm.proofs.Questions.{asker-room}
use Rattle.sysv_shm.proofs.shm.Shm.remove.Goals as goal

pub invariant_of-self-in_default : goal.invariant_of-self-in_default
invariant_of-self-in_default g c =
    let look = g.M.ShmMaker.look in
    let starts = g.M.ShmMaker.starts in
    let inside = c.self.inside in
    let S = inside.entries.items in
    let lines = inside.lines.items in
    let p = c.args.process in
    let may =
    subst (λ (s : ShmSeen _). spent_by p s.entries < line_room s.lines p) (sym c.self.view_is)
    c.requires.may in
    let e : ShmEntry = record {
      process = p;
      act = act.Remove c.args.key;
      answer = answer.Refused fault.NoKey;
    } in
    let kept =
    no-key-removed look starts inside.maker inside.slots S lines p c.args.key c.self.invariant
    (sym c.made_at.ensures ∙ c.in_default.is) (one-left lines S e refl may)
    (asker-other look starts inside.maker inside.slots S lines p c.self.invariant may) in
    let noted : c.note.new.entries.items ≡ S ++ e ∷ [] =
    c.note.ensures ∙ ap (λ (es : List ShmEntry). es ++ e ∷ []) c.reserve.ensures.items in
    subst (λ es. IsShm look starts inside.maker inside.slots es lines) (sym noted) kept.0

pub unmake-requires-clause-room : goal.unmake-requires-clause-room
unmake-requires-clause-room g c =
    let inside = c.self.inside in
    let p = c.args.process in
    let may =
    subst (λ (s : ShmSeen _). spent_by p s.entries < line_room s.lines p) (sym c.self.view_is)
    c.requires.may in
    asker-room g.M.ShmMaker.look g.M.ShmMaker.starts inside.maker inside.slots inside.entries.items
    inside.lines.items
    record { process = p; act = act.Remove c.args.key; answer = answer.Removed }
    c.self.invariant refl may

pub invariant_of-self-in_err-unmake : goal.invariant_of-self-in_err-unmake
invariant_of-self-in_err-unmake g c =
    let look = g.M.ShmMaker.look in
    let starts = g.M.ShmMaker.starts in
    let inside = c.self.inside in
    subst (λ es. IsShm look starts c.unmake.new.self inside.slots es inside.lines.items)
    (sym c.reserve.ensures.items)
    (others-keep look starts inside.maker c.unmake.new.self inside.slots inside.slots
    inside.entries.items inside.lines.items c.self.invariant c.unmake.ensures.same.starts_same
    c.in_err-unmake.ensures.err (λ k. refl))

pub invariant_of-self-2 : goal.invariant_of-self-2
invariant_of-self-2 g c =
    let look = g.M.ShmMaker.look in
    let starts = g.M.ShmMaker.starts in
    let inside = c.self.inside in
    let S = inside.entries.items in
    let lines = inside.lines.items in
    let p = c.args.process in
    let may =
    subst (λ (s : ShmSeen _). spent_by p s.entries < line_room s.lines p) (sym c.self.view_is)
    c.requires.may in
    let e : ShmEntry = record {
      process = p;
      act = act.Remove c.args.key;
      answer = answer.Removed;
    } in
    let kept =
    removed-one look starts inside.maker c.unmake.new.self inside.slots c.keep.new.self S lines
    p c.args.key c.in-Some.made c.self.invariant c.unmake.ensures.same.starts_same
    (sym c.made_at.ensures ∙ c.in-Some.is) (one-left lines S e refl may)
    (asker-other look starts inside.maker inside.slots S lines p c.self.invariant may)
    c.in_ok-unmake.ensures.unmakes c.keep.ensures in
    let noted : c.note-2.new.entries.items ≡ S ++ e ∷ [] =
    c.note-2.ensures ∙ ap (λ (es : List ShmEntry). es ++ e ∷ []) c.reserve.ensures.items in
    subst (λ es. IsShm look starts c.unmake.new.self c.keep.new.self es lines) (sym noted) kept.0
