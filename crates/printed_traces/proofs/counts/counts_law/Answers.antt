use Rattle.std.proofs.Common.{List, ap, length, subst, sym, arith}
use Rattle.std.specs.Prelude.{All}
use Rattle.std.proofs.lemmas.List.Elements.{All-cons, All-nil}
use Rattle.volume_files.specs.vm_types.declared.call.Entry.{Entry}
use Rattle.entry_list.specs.Rows.{entry_seen}
use Rattle.printed_traces.specs.Printed.{HasToldCounts}
use Rattle.printed_traces.proofs.counts.counts_law.Goals as goal

pub loop-entry-init : goal.loop-entry-init
loop-entry-init c = subst (All (λ (e : Entry). HasToldCounts e.reply)) c.all-left.ensures

pub loop-entry-preserved : goal.loop-entry-preserved
loop-entry-preserved c = λ rest.
    c.loop-entry.invariant (subst (All (λ (e : Entry). HasToldCounts e.reply)) (sym c.in-Some.ensures) (All-cons (λ (e : Entry). HasToldCounts e.reply) (entry_seen c.in-Some.entry) c.in-Some.rest c.entry_law.ensures rest))

pub loop-entry-smaller : goal.loop-entry-smaller
loop-entry-smaller c = let size = ap (λ (es : List Entry). length es) c.in-Some.ensures in omega (arith, size)

pub returns : goal.returns
returns c = c.loop-entry.invariant (subst (All (λ (e : Entry). HasToldCounts e.reply)) (sym c.in_default.ensures) (All-nil (λ (e : Entry). HasToldCounts e.reply)))
