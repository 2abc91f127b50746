use Rattle.std.proofs.Common.{◌≡◌, ◌<◌, ◌++◌, [], ◌∷◌, List, Result, Ok, refl, sym, ap, subst, ◌∙◌}
use Rattle.std.specs.Prelude.{IfOk}
use Rattle.shm_model.specs.declared.acts.ShmEntry.{ShmEntry}
use Rattle.shm_model.specs.declared.acts.ShmAct.TheVariants as act
use Rattle.shm_model.specs.declared.acts.ShmAnswer.{ShmAnswer}
use Rattle.shm_model.specs.declared.acts.ShmAnswer.TheVariants as answer
use Rattle.sysv_shm.specs.Slots.{kept_at}
use Rattle.sysv_shm.specs.Shm.{ShmSeen, IsShm, AnswersGet, found_answer, spent_by, line_room}
use Rattle.sysv_shm.proofs.Lines.{one-left}
use Rattle.sysv_shm.proofs.Answered.{Keeps, got-told, length_told}
use Rattle.sysv_shm.proofs.Questions.{others-keep, got-keeps, kept-same, asker-other, asker-room}
use Rattle.sysv_shm.proofs.shm.Shm.get.Given.{Over}
use Rattle.sysv_shm.proofs.shm.Shm.get.Goals.{After-note, in-Ok, in-Err}
use Rattle.sysv_shm.proofs.shm.Shm.get.Goals as goal

pub ask_get-requires-clause-room : goal.ask_get-requires-clause-room
ask_get-requires-clause-room g c =
    let inside = c.self.inside in
    let p = c.args.process in
    let may =
    subst (λ (s : ShmSeen _). spent_by p s.entries < line_room s.lines p) (sym c.self.view_is)
    c.requires.may in
    asker-room g.M.ShmMaker.look g.M.ShmMaker.starts inside.maker inside.slots inside.entries.items
    inside.lines.items
    record {
      process = p;
      act = act.Get c.args.key c.args.length c.args.how;
      answer = answer.Removed;
    }
    c.self.invariant refl may

pub invariant_of-self-in_err-got : goal.invariant_of-self-in_err-got
invariant_of-self-in_err-got g c =
    let look = g.M.ShmMaker.look in
    let starts = g.M.ShmMaker.starts in
    let inside = c.self.inside in
    subst (λ es. IsShm look starts c.ask_get.new.maker c.ask_get.new.slots es inside.lines.items)
    (sym c.reserve.ensures.items)
    (others-keep look starts inside.maker c.ask_get.new.maker inside.slots c.ask_get.new.slots
    inside.entries.items inside.lines.items c.self.invariant c.ask_get.ensures.same.starts_same
    c.in_err-got.ensures.err
    (λ k. ap (λ s. kept_at s k) c.in_err-got.ensures.kept ∙ c.prepare.ensures.same k))

-- the question that was answered keeps what always holds, and was answered as was due
kept : (g : Over) (c : After-note g)
    → Keeps g.M.ShmMaker.look g.M.ShmMaker.starts c.ask_get.new.maker c.ask_get.new.slots
    c.self.inside.entries.items c.self.inside.lines.items c.args.process
    (act.Get c.args.key c.args.length c.args.how) (found_answer c.in_ok-got.got)
    c.note.new.entries.items
kept g c =
    let look = g.M.ShmMaker.look in
    let starts = g.M.ShmMaker.starts in
    let inside = c.self.inside in
    let S = inside.entries.items in
    let lines = inside.lines.items in
    let p = c.args.process in
    let a = act.Get c.args.key c.args.length c.args.how in
    let r = found_answer c.in_ok-got.got in
    let may =
    subst (λ (s : ShmSeen _). spent_by p s.entries < line_room s.lines p) (sym c.self.view_is)
    c.requires.may in
    let was =
    kept-same look starts inside.maker inside.slots c.prepare.new.self S lines c.self.invariant
    c.prepare.ensures.same in
    let e : ShmEntry = record { process = p; act = a; answer = r } in
    let new =
    got-keeps look starts inside.maker c.ask_get.new.maker c.prepare.new.self
    c.ask_get.new.slots S lines p was c.ask_get.ensures.same.starts_same c.args.key
    c.args.length c.args.how r
    (asker-other look starts inside.maker c.prepare.new.self S lines p was may)
    (one-left lines S e refl may) c.in_ok-got.ensures.gets in
    let noted : c.note.new.entries.items ≡ S ++ e ∷ [] =
    c.note.ensures
    ∙ ap (λ (es : List ShmEntry).
    es ++ record { process = p; act = a; answer = c.get_answer.result } ∷ [])
    c.reserve.ensures.items
    ∙ ap (λ (w : ShmAnswer). S ++ record { process = p; act = a; answer = w } ∷ [])
    c.get_answer.ensures in
    record {
      entries = noted;
      due = new.1;
      always = subst (λ es. IsShm look starts c.ask_get.new.maker c.ask_get.new.slots es lines)
          (sym noted) new.0;
    }

pub invariant_of-self-2 : goal.invariant_of-self-2
invariant_of-self-2 g c = (kept g (goal.at.invariant_of-self-2 g c).After-note).always

pub returns-clause-asks : goal.returns-clause-asks
returns-clause-asks g c =
    let k = kept g (goal.at.returns-clause-asks g c).After-note in
    let told : c.match-got.result ≡ Ok (length_told c.in_ok-got.got) = elim c.match-got.branch [
      | in-Ok w ↦ w.result-is ∙ ap (λ r. Ok (length_told r)) (sym w.in-Ok.is)
      | in-Err w ↦ w.result-is ∙ ap (λ r. Ok (length_told r)) (sym w.in-Err.is)
    ] in
    subst
    (λ (s : ShmSeen g.row.M.Denot). IfOk c.match-got.result (AnswersGet s
    record {
      maker = c.ask_get.new.maker;
      slots = c.ask_get.new.slots;
      entries = c.note.new.entries.items;
      lines = c.self.inside.lines.items;
    }
    c.args.process c.args.key c.args.length c.args.how))
    c.self.view_is
    (subst
    (λ r. IfOk r (AnswersGet
    record {
      maker = c.self.inside.maker;
      slots = c.self.inside.slots;
      entries = c.self.inside.entries.items;
      lines = c.self.inside.lines.items;
    }
    record {
      maker = c.ask_get.new.maker;
      slots = c.ask_get.new.slots;
      entries = c.note.new.entries.items;
      lines = c.self.inside.lines.items;
    }
    c.args.process c.args.key c.args.length c.args.how))
    (sym told)
    (got-told _ _ c.args.process c.args.key c.args.length c.args.how c.in_ok-got.got
    record { entries = k.entries; due = k.due }))
