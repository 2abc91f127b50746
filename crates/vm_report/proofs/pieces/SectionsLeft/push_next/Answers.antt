use Rattle.std.proofs.Common.{◌≡◌, ◌∙◌, ◌≤◌, ◌<◌, ◌+◌, ◌++◌, ℕ, List, false, ap, ap₂, length, subst, sym, arith}
use Rattle.std.specs.Prelude.{if◌then◌else◌}
use Rattle.std.proofs.lemmas.List.{get_or_read}
use Rattle.vm_script.specs.vm_types.declared.call.Entry.{Entry}
use Rattle.vm_script.specs.Told.{is_born, own_lines}
use Rattle.vm_report.specs.Groups.{is_born_by}
use Rattle.vm_report.specs.Pieces.{TextLeft}
use Rattle.vm_report.specs.PiecesInside.{left_of, sections_left}
use Rattle.vm_report.specs.declared.cursors.Cursor.{Cursor}
use Rattle.vm_report.proofs.Blocks.{born_is}
use Rattle.vm_report.proofs.LeftSections.{begin_within, below_last, first_left, first_place, lines_of_process, lines_text_on, next_fewer, next_left, seen_count}
use Rattle.vm_report.proofs.pieces.SectionsLeft.push_next.Goals as goal
use Rattle.vm_report.proofs.pieces.SectionsLeft.push_next.Goals.{After-first_place-self-inside, then-born, else-born}

pub returns-then-self-lines-clause-text : goal.returns-then-self-lines-clause-text
returns-then-self-lines-clause-text c =
    let s = c.self.inside in
    let own =
    lines_of_process s.plan.now s.history.now s.births.items s.lines.items s.entries.items c.self.invariant.0 s.process c.self.invariant.1.known c.members-lines.result.now c.index.result.now c.members-lines.ensures
    c.index.ensures in
    lines_text_on s.plan.now s.history.now s.births.items s.lines.items s.entries.items c.self.invariant.0 s.process c.self.invariant.1.known c.index-runs.result.now c.index-runs.ensures
    c.members-lines.result.now own c.args.out.now.items c.push_next_lines.new.out.items
    s.line c.in_ok-self-inside.field-0-0 c.again.result c.in_ok-self-inside.field-0-1 c.in_ok-self-inside.ensures.text
    ∙ (ap (λ (p : Cursor). c.args.out.now.items ++ (sections_left s.plan.now s.history.now s.process s.line (left_of s.history.now s.entries.items s.process p)).text) c.again.ensures
    ∙ ap (λ (t : TextLeft). c.args.out.now.items ++ t.text) c.self.view_is)

-- THE NEXT SECTION, whose heading was added.
below : (c : After-first_place-self-inside) → c.self.inside.process < length c.self.inside.plan.now.parents
below c =
    let size = ap (λ (ps : List ℕ). length ps) c.parents.ensures in
    below_last c.self.inside.process (length c.self.inside.plan.now.parents) c.self.invariant.1.known (λ same. c.if-at-parents.false (same ∙ sym size))

born : (c : After-first_place-self-inside) → c.is_born_by-born.result ≡ is_born c.self.inside.plan.now c.self.inside.history.now (c.self.inside.process + 1)
born c =
    let plan = c.self.inside.plan.now in
    let p = c.self.inside.process + 1 in
    let lt = below c in
    let count = c.self.invariant.0.births_count in
    let flag = get_or_read c.self.inside.births.items p c.index-2.result.now (omega (arith, lt, count)) c.index-2.ensures false in
    c.is_born_by-born.ensures
    ∙ (ap (λ (ps : List ℕ). is_born_by ps p c.index-2.result.now) c.parents-2.ensures
    ∙ born_is plan p c.self.inside.history.now c.index-2.result.now (flag ∙ c.self.invariant.0.births_of p (omega (arith, lt))))

begins : (c : After-first_place-self-inside) → c.if-born.self ≡ (if c.is_born_by-born.result then 0 else length (own_lines c.self.inside.plan.now (c.self.inside.process + 1)))
begins c =
    let plan = c.self.inside.plan.now in
    let p = c.self.inside.process + 1 in
    let s = c.self.inside in
    let lt = below c in
    elim c.if-born.branch [
      | then-born w ↦ w.self-is ∙ sym (ap (λ b. if b then 0 else length (own_lines plan p)) w.if-born.true)
      | else-born w ↦
          let own =
          lines_of_process plan s.history.now s.births.items s.lines.items s.entries.items c.self.invariant.0 p (omega (arith, lt)) w.members.result.now w.index-else-born.result.now w.members.ensures
          w.index-else-born.ensures in
          w.self-is ∙ (seen_count w.members.result.now (own_lines plan p) own ∙ sym (ap (λ b. if b then 0 else length (own_lines plan p)) w.if-born.false))
    ]

past : (c : After-first_place-self-inside) → length (own_lines c.self.inside.plan.now c.self.inside.process) ≤ c.self.inside.line
past c =
    let s = c.self.inside in
    let own =
    lines_of_process s.plan.now s.history.now s.births.items s.lines.items s.entries.items c.self.invariant.0 s.process c.self.invariant.1.known c.members-lines.result.now c.index.result.now c.members-lines.ensures
    c.index.ensures in
    let count = seen_count c.members-lines.result.now (own_lines s.plan.now s.process) own in
    let none = c.if-self-lines.false in
    omega (arith, count, none)

pub invariant_of-self-2 : goal.invariant_of-self-2
invariant_of-self-2 c =
    let d = (goal.at.invariant_of-self-2 c).After-first_place-self-inside in
    let s = c.self.inside in
    let lt = below d in
    let begin = begin_within c.is_born_by-born.result (length (own_lines s.plan.now (s.process + 1))) c.if-born.self (begins d) in (
      c.self.invariant.0,
      first_place s.plan.now s.history.now s.births.items s.lines.items s.entries.items c.self.invariant.0 (s.process + 1) (omega (arith, lt)) c.index-3.result.now c.index-3.ensures
          c.first_place-self-inside.result c.first_place-self-inside.ensures.left c.if-born.self begin c.first_place-self-inside.ensures.whole,
    )

pub returns-clause-text : goal.returns-clause-text
returns-clause-text c =
    let d = (goal.at.returns-clause-text c).After-first_place-self-inside in
    let s = c.self.inside in
    let lt = below d in
    let left =
    first_left s.plan.now s.history.now s.births.items s.lines.items s.entries.items c.self.invariant.0 (s.process + 1) (omega (arith, lt)) c.index-3.result.now c.index-3.ensures
    c.first_place-self-inside.result c.first_place-self-inside.ensures.left in
    ap₂ (λ (o : List ℕ) (es : List Entry). o ++ (sections_left s.plan.now s.history.now (s.process + 1) c.if-born.self es).text) c.in_ok-push_heading.ensures left
    ∙ (next_left s.plan.now s.history.now s.process s.line c.if-born.self (left_of s.history.now s.entries.items s.process s.place) c.is_born_by-born.result lt (past d) (born d) (begins d) c.args.out.now.items
    ∙ ap (λ (t : TextLeft). c.args.out.now.items ++ t.text) c.self.view_is)

pub returns-clause-pieces : goal.returns-clause-pieces
returns-clause-pieces c = λ same.
    let d = (goal.at.returns-clause-pieces c).After-first_place-self-inside in
    let s = c.self.inside in
    let left = left_of s.history.now s.entries.items s.process s.place in
    subst (λ (t : TextLeft). (sections_left s.plan.now s.history.now (s.process + 1) c.if-born.self left).pieces < t.pieces) c.self.view_is
    (next_fewer s.plan.now s.history.now s.process s.line c.if-born.self left c.is_born_by-born.result (below d) (past d) (born d) (begins d))
