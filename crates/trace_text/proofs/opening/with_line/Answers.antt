use Rattle.std.proofs.Common.{◌≡◌, None, sym}
use Rattle.trace_text.specs.LineOrder.{place_after}
use Rattle.trace_text.specs.OpeningSeen.{opening_line_seen, place_seen}
use Rattle.trace_text.proofs.LineTexts.{other_line}
use Rattle.trace_text.proofs.OpeningRead.{seen_opens, no_line_there}
use Rattle.trace_text.proofs.opening.with_line.Goals as goal

pub returns-in_default-clause-none : goal.returns-in_default-clause-none
returns-in_default-clause-none c = λ before.
    let none = rw c.in_default.is at c.in_ok-read.ensures.none in
    no_line_there (place_seen c.args.so_far) c.args.line.now before none

pub returns-in_default-2-clause-none : goal.returns-in_default-2-clause-none
returns-in_default-2-clause-none c = λ before.
    let read = c.in-Some.read in
    let some = rw c.in-Some.is at c.in_ok-read.ensures.some in
    let none = rw c.in_default-2.is at c.in_ok-next.ensures.place in
    let stop : place_after (place_seen c.args.so_far) (opening_line_seen read) ≡ None = sym none in
    other_line (place_seen c.args.so_far) (opening_line_seen read) c.args.line.now before some.0 (seen_opens read) some.1 stop
