use Rattle.std.proofs.Common.{drop}
use Rattle.trace_text.specs.OpeningSeen.{opening_seen}
use Rattle.trace_check.proofs.Checked.{may_open}
use Rattle.bench_texts.proofs.traces.entries_of.Goals as goal

pub flat_opened-requires : goal.flat_opened-requires
flat_opened-requires c =
    let o = c.in-Ok.opening in
    may_open c.args.text.now (drop o.length c.args.text.now) (opening_seen o) o.entries o.lines (rw c.in-Ok.is at c.in_ok-opening.ensures.ok)
