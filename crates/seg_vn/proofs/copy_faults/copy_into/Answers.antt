use Rattle.std.proofs.Common.{◌∙◌}
use Rattle.seg_ops.specs.vm_world.World.{world_seen}
use Rattle.seg_ops.specs.Copies.{copied_bytes}
use Rattle.seg_vn.proofs.Copies.{changes-got, changes-held}
use Rattle.seg_vn.proofs.SlotsDue.{gives-new, gives-other}
use Rattle.seg_vn.proofs.copy_faults.copy_into.Goals as goal

pub returns-in-None-clause-own : goal.returns-in-None-clause-own
returns-in-None-clause-own g c = record {
  gives = gives-new c.args.world.now.anon c.make_copy.new.world.anon c.args.world.now.maps c.make_copy.new.world.maps c.args.own.map c.args.own.place c.make_copy.result (c.requires.own.holds ∙ c.in-None.is)
      c.make_copy.ensures.made.free c.make_copy.ensures.made.once c.make_copy.ensures.anon c.make_copy.ensures.maps;
  made = c.make_copy.ensures.made;
  memory = λ spaces p q x fits owns unloaded. (c.make_copy.ensures.changes spaces p q x fits owns unloaded).memory;
  changes = λ spaces p q x fits owns unloaded free shows.
      changes-got (world_seen c.args.world.now) (world_seen c.make_copy.new.world) spaces p q c.args.own.map c.args.own.place x fits owns free (copied_bytes c.args.world.now.store c.args.front) (λ none. shows c.in-None.is)
      (c.make_copy.ensures.changes spaces p q x fits owns unloaded);
}

pub returns-in-Some-clause-own : goal.returns-in-Some-clause-own
returns-in-Some-clause-own g c = record {
  gives = gives-other c.args.world.now.anon c.copy_slot.new.world.anon c.args.world.now.maps c.copy_slot.new.world.maps c.args.own.map c.args.own.place c.in-Some.held c.copy_slot.result (c.requires.own.holds ∙ c.in-Some.is)
      c.copy_slot.ensures.made.free c.copy_slot.ensures.made.once c.copy_slot.ensures.anon c.copy_slot.ensures.maps;
  made = c.copy_slot.ensures.made;
  memory = λ spaces p q x fits owns unloaded. (c.copy_slot.ensures.changes spaces p q x fits owns unloaded).memory;
  changes = λ spaces p q x fits owns unloaded free shows.
      changes-held (world_seen c.args.world.now) (world_seen c.copy_slot.new.world) spaces p q c.args.own.map c.args.own.place x fits owns free c.in-Some.held (c.requires.own.holds ∙ c.in-Some.is)
      (c.copy_slot.ensures.changes spaces p q x fits owns unloaded);
}
