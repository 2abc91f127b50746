use Rattle.std.proofs.Common.{rules, ◌≡◌, None}
use Rattle.std.specs.Prelude.{replicate}
use Rattle.hat_layer.proofs.TableLemmas.{new-table}
use Rattle.hat_layer.proofs.table.TranslationTable.new.Goals as goal

pub invariant_of-result : goal.invariant_of-result
invariant_of-result c =
    let a = c.in_ok-new.ensures in let b = c.in_ok-new-2.ensures in
    let i : c.in_ok-filled.field-0.items ≡ replicate c.args.places None = search rules in
    new-table c.in_ok-filled.field-0.items c.in_ok-new.field-0 c.in_ok-new-2.field-0 c.args.places c.args.frames i a.order a.size b.order b.size c.requires
