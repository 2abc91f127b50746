use Rattle.std.proofs.Common.{◌≡◌, ◌∙◌, ◌≤◌, ◌+◌, None, length, ap, sym, not, arith, rules}
use Rattle.trace_text.specs.OpeningSeen.{place_seen, trace_seen}
use Rattle.trace_text.specs.OpeningTaken.{entries_at}
use Rattle.trace_text.proofs.FirstBad.{read_room}
use Rattle.trace_text.proofs.OpeningRead.{first_line_read, first_line_bad, next_line_read, next_line_bad, opening_read}
use Rattle.trace_text.proofs.opening.read_opening.Goals as goal

pub returns-in_default-clause-err : goal.returns-in_default-clause-err
returns-in_default-clause-err c =
    let none = rw c.in_default.is at c.in_ok-slots.ensures.none in
    first_line_bad c.args.text.now c.cut_line.result.0.now c.cut_line.result.1.now c.cut_line.ensures.line none

pub loop-left-init : goal.loop-left-init
loop-left-init c =
    let some = rw c.in-Some.is at c.in_ok-slots.ensures.some in
    first_line_read c.args.text.now c.cut_line.result.0.now c.cut_line.result.1.now c.in-Some.slots c.new-so_far.result c.cut_line.ensures.text some.0 some.1
    c.new-so_far.ensures.place c.new-so_far.ensures.trace

pub overflow_add-lines : goal.overflow_add-lines
overflow_add-lines c =
    let l = c.loop-left in
    let room = read_room c.args.text.now l.left.now (trace_seen l.so_far) (place_seen l.so_far) l.lines l.invariant in
    let short = c.requires.short in
    omega (arith, room, short)

pub loop-left-preserved : goal.loop-left-preserved
loop-left-preserved c =
    let l = c.loop-left in
    let takes = rw c.in-Some-2.is at c.in_ok-next.ensures.some in
    next_line_read c.args.text.now l.left.now c.cut_line-in-loop-left.result.0.now c.cut_line-in-loop-left.result.1.now l.so_far c.in-Some-2.next l.lines l.invariant takes
    c.cut_line-in-loop-left.ensures.text

pub loop-left-smaller : goal.loop-left-smaller
loop-left-smaller c =
    let l = c.loop-left in
    let next = c.in-Some-2.next in
    let rest = c.cut_line-in-loop-left.result.1.now in
    let takes = rw c.in-Some-2.is at c.in_ok-next.ensures.some in
    let read = next_line_read c.args.text.now l.left.now c.cut_line-in-loop-left.result.0.now rest l.so_far next l.lines l.invariant takes c.cut_line-in-loop-left.ensures.text in
    let room : l.lines + 1 + length rest ≤ length c.args.text.now = read_room c.args.text.now rest (trace_seen next) (place_seen next) (l.lines + 1) read in
    omega (arith, room)

pub returns-in_default-2-clause-err : goal.returns-in_default-2-clause-err
returns-in_default-2-clause-err c =
    let l = c.loop-left in
    let before : entries_at (place_seen l.so_far) ≡ None = first_of (search rules, cc) in
    let none = rw c.in_default-2.is at c.in_ok-next.ensures.none in
    next_line_bad c.args.text.now l.left.now c.cut_line-in-loop-left.result.0.now c.cut_line-in-loop-left.result.1.now l.so_far l.lines l.invariant before
    c.cut_line-in-loop-left.ensures.line none

pub returns : goal.returns
returns c =
    let l = c.loop-left in
    let o = c.opened.result in
    let size = c.opened.ensures.lines.1 in
    record {
      ok = opening_read c.args.text.now l.left.now l.so_far o l.lines l.invariant c.opened.ensures.trace c.opened.ensures.entries c.opened.ensures.lines.0 size;
      length = omega (arith, size);
      err = tt;
    }
