use Rattle.std.proofs.Common.{arith}
use Rattle.std.proofs.lemmas.Result.{on_ok_weaker}
use Rattle.vm_script.proofs.Generations.{block_made, few_in_front}
use Rattle.vm_script.proofs.generating.add_block.Goals as goal

pub add_child-requires-clause-few : goal.add_child-requires-clause-few
add_child-requires-clause-few c =
    let few = c.requires.few in
    let is = few_in_front c.args.growing.now c.add_head.new.growing c.add_word_stores.new.growing c.args.line c.args.n c.args.i c.in_ok-add_head.ensures.new c.in_ok-add_word_stores.ensures.new in
    omega (arith, few, is)

pub returns : goal.returns
returns c = record {
  new = on_ok_weaker c.add_tail.result
      (block_made c.args.growing.now c.add_head.new.growing c.add_word_stores.new.growing c.add_child.new.growing
      c.add_word_loads.new.growing c.add_end_loads.new.growing c.add_tail.new.growing c.args.line c.args.n c.args.i
      c.in_ok-add_head.ensures.new c.in_ok-add_word_stores.ensures.new c.in_ok-add_child.ensures.new c.in_ok-add_word_loads.ensures.new c.in_ok-add_end_loads.ensures.new)
      c.add_tail.ensures.new;
}
