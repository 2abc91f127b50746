use Rattle.std.proofs.Common.{◌∙◌, List, ap, false, sym, true}
use Rattle.std.specs.List.{list_any}
use Rattle.vm_script.specs.Told.{is_birth}
use Rattle.vm_script.specs.vm_types.declared.call.Entry.{Entry}
use Rattle.entry_list.specs.Rows.{entry_seen}
use Rattle.vm_report.proofs.Firsts.{birth_first, fewer-left}
use Rattle.vm_report.proofs.sections.is_forked.Goals as goal

pub loop-entry-preserved : goal.loop-entry-preserved
loop-entry-preserved c = birth_first c.args.process c.loop-entry.left c.in-Some.rest (entry_seen c.in-Some.entry) false _ c.in-Some.ensures (sym c.is_birth_at.ensures ∙ c.if-is_birth_at.false) c.loop-entry.invariant

pub loop-entry-smaller : goal.loop-entry-smaller
loop-entry-smaller c = fewer-left c.loop-entry.left c.in-Some.rest (entry_seen c.in-Some.entry) c.in-Some.ensures

pub returns-then-is_birth_at : goal.returns-then-is_birth_at
returns-then-is_birth_at c = birth_first c.args.process c.loop-entry.left c.in-Some.rest (entry_seen c.in-Some.entry) true _ c.in-Some.ensures (sym c.is_birth_at.ensures ∙ c.if-is_birth_at.true) c.loop-entry.invariant

pub returns : goal.returns
returns c = sym (ap (λ (es : List Entry). list_any (is_birth c.args.process) es) c.in_default.ensures) ∙ c.loop-entry.invariant
