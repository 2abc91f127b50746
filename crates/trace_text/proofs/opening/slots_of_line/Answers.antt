use Rattle.std.proofs.Common.{◌≡◌, refl}
use Rattle.trace_text.specs.LineOrder.{AtOpening}
use Rattle.trace_text.specs.OpeningSeen.{opening_line_seen}
use Rattle.trace_text.proofs.LineTexts.{other_line}
use Rattle.trace_text.proofs.OpeningRead.{not_first, seen_opens, no_line_there}
use Rattle.trace_text.proofs.opening.slots_of_line.Goals as goal

pub returns-in_default-clause-none : goal.returns-in_default-clause-none
returns-in_default-clause-none c =
    let none = rw c.in_default.is at c.in_ok-read.ensures.none in
    no_line_there AtOpening c.args.line.now refl none

pub returns-in_default-read-clause-none : goal.returns-in_default-read-clause-none
returns-in_default-read-clause-none c =
    let read = c.in-Some.read in
    let some = rw c.in-Some.is at c.in_ok-read.ensures.some in
    other_line AtOpening (opening_line_seen read) c.args.line.now refl some.0 (seen_opens read) some.1 (not_first read c.in_default-read.not-Slots)
