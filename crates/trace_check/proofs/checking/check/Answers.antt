use Rattle.std.proofs.Common.{◌≡◌, ◌-◌, [], length, take, drop, refl, subst, sym, arith}
use Rattle.std.proofs.lemmas.Result.{IfOk-weaker}
use Rattle.flat_model.specs.Flat.{Flat}
use Rattle.trace_text.specs.LineOrder.{AtEntries}
use Rattle.trace_text.specs.OpeningSeen.{opening_seen}
use Rattle.trace_text.proofs.FirstBad.{read_room}
use Rattle.trace_check.specs.Judging.{HasJudged}
use Rattle.trace_check.proofs.Checked.{may_open, unread_read}
use Rattle.trace_check.proofs.checking.check.Goals as goal

pub flat_opened-requires : goal.flat_opened-requires
flat_opened-requires c =
    let o = c.in-Ok.opening in
    let read = rw c.in-Ok.is at c.in_ok-opening.ensures.ok in
    may_open c.args.text.now (drop o.length c.args.text.now) (opening_seen o) o.entries o.lines read

pub check_entries-requires-clause-short : goal.check_entries-requires-clause-short
check_entries-requires-clause-short c =
    let text = c.args.text.now in
    let o = c.in-Ok.opening in
    let read = unread_read text (opening_seen o) o.length o.entries o.lines (rw c.in-Ok.is at c.in_ok-opening.ensures.ok) in
    let room = read_room text (take (length text - o.length) (drop o.length text)) (opening_seen o) (AtEntries o.entries) o.lines read in
    let short = c.requires.short in
    omega (arith, room, short)

pub returns : goal.returns
returns c =
    let text = c.args.text.now in
    let o = c.in-Ok.opening in
    let read = unread_read text (opening_seen o) o.length o.entries o.lines (rw c.in-Ok.is at c.in_ok-opening.ensures.ok) in
    let judged = subst (λ (F : Flat). HasJudged F [] c.new-judge.result) c.in_ok-flat_opened.ensures c.new-judge.ensures.judged in
    record { exact = IfOk-weaker c.check_entries.result _ _ (λ r h. h text (opening_seen o) read refl judged) c.check_entries.ensures }
