use Rattle.std.proofs.Common.{◌∙◌}
use Rattle.seg_ops.specs.core_arena.Bytes.{zeros}
use Rattle.seg_ops.specs.vm_world.World.{world_seen}
use Rattle.seg_vn.proofs.Copies.{changes-got, changes-held}
use Rattle.seg_vn.proofs.SlotsDue.{gives-new, gives-other}
use Rattle.seg_vn.proofs.copy_faults.zeros_into.Goals as goal

pub returns-in-None-clause-own : goal.returns-in-None-clause-own
returns-in-None-clause-own g c = record {
  gives = gives-new c.args.world.now.anon c.make_zero.new.world.anon c.args.world.now.maps c.make_zero.new.world.maps c.args.own.map c.args.own.place c.make_zero.result (c.requires.own.holds ∙ c.in-None.is)
      c.make_zero.ensures.made.free c.make_zero.ensures.made.once c.make_zero.ensures.anon c.make_zero.ensures.maps;
  made = c.make_zero.ensures.made;
  memory = λ spaces p q x fits owns unloaded. (c.make_zero.ensures.owned spaces p q x fits owns unloaded).memory;
  changes = λ spaces p q x fits owns unloaded free shows.
      changes-got (world_seen c.args.world.now) (world_seen c.make_zero.new.world) spaces p q c.args.own.map c.args.own.place x fits owns free zeros (λ none. shows c.in-None.is)
      (c.make_zero.ensures.owned spaces p q x fits owns unloaded);
}

pub returns-in-Some-clause-own : goal.returns-in-Some-clause-own
returns-in-Some-clause-own g c = record {
  gives = gives-other c.args.world.now.anon c.zero_slot.new.world.anon c.args.world.now.maps c.zero_slot.new.world.maps c.args.own.map c.args.own.place c.in-Some.held c.zero_slot.result (c.requires.own.holds ∙ c.in-Some.is)
      c.zero_slot.ensures.made.free c.zero_slot.ensures.made.once c.zero_slot.ensures.anon c.zero_slot.ensures.maps;
  made = c.zero_slot.ensures.made;
  memory = λ spaces p q x fits owns unloaded. (c.zero_slot.ensures.changes spaces p q x fits owns unloaded).memory;
  changes = λ spaces p q x fits owns unloaded free shows.
      changes-held (world_seen c.args.world.now) (world_seen c.zero_slot.new.world) spaces p q c.args.own.map c.args.own.place x fits owns free c.in-Some.held (c.requires.own.holds ∙ c.in-Some.is)
      (c.zero_slot.ensures.changes spaces p q x fits owns unloaded);
}
