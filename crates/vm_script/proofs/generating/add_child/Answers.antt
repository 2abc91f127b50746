use Rattle.std.proofs.lemmas.Result.{on_ok_weaker}
use Rattle.vm_script.proofs.Generations.{child_made}
use Rattle.vm_script.proofs.generating.add_child.Goals as goal

pub returns : goal.returns
returns c = record {
  new = on_ok_weaker c.end.result
      (child_made c.args.growing.now c.add.new.self c.add_end_stores.new.growing c.add_end_loads.new.growing c.end.new.self c.args.line
      c.in_ok-add.ensures.new c.in_ok-add_end_stores.ensures.new c.in_ok-add_end_loads.ensures.new)
      c.end.ensures.new;
}
