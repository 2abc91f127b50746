use Rattle.std.proofs.Common.{Some, None, Ok, ap, sym, ◌∙◌, arith, subst}
use Rattle.volume_format.specs.Table.{TableSeen}
use Rattle.volume_format.specs.Volume.{IsVolumeTable}
use Rattle.volume_format.specs.Writing.{encoding}
use Rattle.volume_format.proofs.ReadingLemmas.{reading-zeros, reading-told, zeros-version}
use Rattle.volume_format.proofs.SpellingLemmas.{block-spelled}
use Rattle.volume_format.proofs.VolumeLemmas.{volume-from}
use Rattle.volume_format.proofs.reading.decode.Goals as goal

pub returns-then-are_zeros-clause-exact : goal.returns-then-are_zeros-clause-exact
returns-then-are_zeros-clause-exact c =
    ap (λ (t : TableSeen). Ok t) c.new.ensures.new ∙ sym (reading-zeros c.args.block.now c.args.blocks (sym c.are_zeros.ensures ∙ c.if-are_zeros.true))

pub returns-then-are_zeros-clause-spelling : goal.returns-then-are_zeros-clause-spelling
returns-then-are_zeros-clause-spelling c = λ two.
    let none = zeros-version c.args.block.now c.requires (sym c.are_zeros.ensures ∙ c.if-are_zeros.true) in
    absurd (omega (arith, two, none))

pub returns-in-Some-clause-exact : goal.returns-in-Some-clause-exact
returns-in-Some-clause-exact c =
    sym (reading-told c.args.block.now c.args.blocks (Some c.in-Some.rule) (sym c.are_zeros.ensures ∙ c.if-are_zeros.false) (sym c.failed_rule.ensures ∙ c.in-Some.is))

pub returns-clause-exact : goal.returns-clause-exact
returns-clause-exact c =
    ap (λ (t : TableSeen). Ok t) c.in_ok-table.ensures
    ∙ sym (reading-told c.args.block.now c.args.blocks None (sym c.are_zeros.ensures ∙ c.if-are_zeros.false) (sym c.failed_rule.ensures ∙ c.in_default.is))

pub returns-clause-volume : goal.returns-clause-volume
returns-clause-volume c =
    subst IsVolumeTable (sym c.in_ok-table.ensures)
    (volume-from c.args.block.now c.args.blocks (record { whole = c.requires; bytes = λ i. omega (arith, c.type_inv.block i) }) (omega arith) (sym c.failed_rule.ensures ∙ c.in_default.is))

pub returns-clause-spelling : goal.returns-clause-spelling
returns-clause-spelling c = λ two.
    ap encoding c.in_ok-table.ensures
    ∙ block-spelled c.args.block.now c.args.blocks (record { whole = c.requires; bytes = λ i. omega (arith, c.type_inv.block i) }) two (sym c.failed_rule.ensures ∙ c.in_default.is)
