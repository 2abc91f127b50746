use Rattle.std.proofs.Common.{◌≡◌, ◌+◌, Some, None, sym, ◌∙◌}
use Rattle.volume_format.specs.Rules.{first_failed, extent_tests}
use Rattle.volume_format.proofs.TestLemmas.{rest-some, rest-none}
use Rattle.volume_format.proofs.rules.failed_in_extents.Goals as goal

pub returns-in-Some : goal.returns-in-Some
returns-in-Some c =
    let f = extent_tests c.args.block.now c.args.blocks c.args.i in
    let here : first_failed (extent_tests c.args.block.now c.args.blocks c.args.i c.loop-j.j) ≡ Some c.in-Some.rule = sym c.failed_in_extent.ensures ∙ c.in-Some.is in
    sym (c.loop-j.invariant.rest ∙ rest-some f c.loop-j.j (c.entry_number-first.result + c.entry_number.result) c.in-Some.rule c.loop-j-test.true here)

pub loop-j-preserved : goal.loop-j-preserved
loop-j-preserved c =
    let f = extent_tests c.args.block.now c.args.blocks c.args.i in
    let here : first_failed (extent_tests c.args.block.now c.args.blocks c.args.i c.loop-j.j) ≡ None = sym c.failed_in_extent.ensures ∙ c.in_default.is in
    let i = c.loop-j.invariant in
    record {
      first = i.first;
      end = i.end;
      rest = i.rest ∙ rest-none f c.loop-j.j (c.entry_number-first.result + c.entry_number.result) c.loop-j-test.true here;
    }
