use Rattle.std.proofs.Common.{◌∙◌, [], ◌++◌, ap, refl, sym}
use Rattle.std.specs.List.{cons_option, flat_map}
use Rattle.std.proofs.lemmas.Grind.{flat_map-append}
use Rattle.volume_files.specs.Mounting.{specs_below}
use Rattle.volume_files.specs.Numbers.{both_numbers}
use Rattle.volume_files.specs.Opened.{volume_numbered}
use Rattle.volume_files.proofs.MountSpecs.{specs_more}
use Rattle.volume_files.proofs.numbering.disk_numbers.Goals as goal

pub loop-number-preserved : goal.loop-number-preserved
loop-number-preserved c =
    let setup = c.args.setup.now in
    let n = c.loop-number.number in
    let o = volume_numbered setup n in
    c.in_ok-push_numbered.ensures
    ∙ (ap (λ l. l ++ flat_map both_numbers (cons_option o [])) c.loop-number.invariant
    ∙ sym (ap (flat_map both_numbers) (specs_more setup n o refl) ∙ flat_map-append both_numbers (specs_below setup n) (cons_option o [])))
