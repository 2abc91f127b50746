use Rattle.std.proofs.Common.{◌≡◌, ◌+◌, ◌*◌, ◌++◌, ◌∙◌, ap, sym, arith, length, Ok}
use Rattle.std.specs.List.{flat_map}
use Rattle.vm_script.specs.Plans.{OpenPlan, empty_plan}
use Rattle.vm_script.specs.Printed.{with_statements}
use Rattle.vm_script.specs.Generated.{generated_setup, generated_block, numbers_below}
use Rattle.vm_script.proofs.Generations.{setup_made, block_more, parents_more, read}
use Rattle.vm_script.proofs.generating.generate.Goals as goal

pub loop-i-init : goal.loop-i-init
loop-i-init c =
    let e = c.in_ok-add_setup.ensures.new in
    record {
      so_far = setup_made c.args.n c.add_setup.new.growing e;
      outside = ap (λ (g : OpenPlan). g.inside) e;
      few = ap (λ (g : OpenPlan). length g.parents) e;
    }

pub loop-i-preserved : goal.loop-i-preserved
loop-i-preserved c =
    let e = c.in_ok-add_block.ensures.new in
    let i = c.loop-i.i in
    let more = parents_more c.loop-i.growing (5 + 2105 * i) c.args.n i c.loop-i.invariant.outside in
    let few = c.loop-i.invariant.few in
    let grew = more.0 in
    record {
      so_far = block_more c.args.n i c.loop-i.growing c.add_block.new.growing c.loop-i.invariant.so_far e;
      outside = ap (λ (g : OpenPlan). g.inside) e ∙ more.1;
      few = ap (λ (g : OpenPlan). length g.parents) e ∙ omega (arith, few, grew);
    }

pub returns : goal.returns
returns c =
    let n = c.args.n in
    let from = c.loop-i-test.false in
    let to = c.loop-i.auto.i-end in
    let end : c.loop-i.i ≡ 8 = omega (arith, from, to) in
    let all = c.loop-i.invariant.so_far ∙ ap (λ i. with_statements empty_plan 0 (generated_setup ++ flat_map (generated_block n) (numbers_below i))) end in
    record { exact = read n c.loop-i.growing c.ranges.n.fits all ∙ ap Ok (sym c.into_plan.ensures) }
