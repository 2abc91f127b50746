use Rattle.std.proofs.Common.{◌<◌, arith, refl, get_or}
use Rattle.std.proofs.lemmas.List.Elements.{All-from_get_or}
use Rattle.vm_report.specs.vm_types.Words.{IsByte}
use Rattle.trace_text.proofs.line_telling.are_bytes.Goals as goal

pub returns : goal.returns
returns c =
    let each = All-from_get_or IsByte c.args._bytes.now 0 (λ i lt. let fits = c.type_inv._bytes i in omega (arith, fits)) in
    (λ yes. each, λ all. refl)
