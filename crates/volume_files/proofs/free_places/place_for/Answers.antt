use Rattle.std.specs.Prelude.{◌≡◌, ◌+◌, ◌-◌, false}
use Rattle.std.specs.List.{find, range_with_len}
use Rattle.std.proofs.Common.{ap, ◌∙◌, sym, arith}
use Rattle.volume_files.specs.Opened.{is_free_run}
use Rattle.volume_files.proofs.ClearLemmas.{find-step}
use Rattle.volume_files.proofs.free_places.place_for.Goals as goal

pub loop-start-preserved : goal.loop-start-preserved
loop-start-preserved c =
    let test = is_free_run c.args.blocks c.args.extents.now c.args.pages in
    let a = c.loop-start.start in
    let left : c.args.blocks - a - 1 ≡ c.args.blocks - (a + 1) = omega arith in
    let fails : test a ≡ false = sym c.is_free_run.ensures ∙ c.if-is_free_run.false in
    ap (λ k. find test (range_with_len (a + 1) k)) (sym left)
    ∙ sym (find-step test a (c.args.blocks - a) (omega (arith, c.loop-start-test.true)) fails)
    ∙ c.loop-start.invariant
