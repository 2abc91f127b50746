use Rattle.std.proofs.Common.{sym, ◌∙◌}
use Rattle.seg_vn.specs.vm_world.World.{world_seen}
use Rattle.seg_vn.proofs.vm_world.ComingParts.{zero-there}
use Rattle.mmap_calls.proofs.refusals.pages_given.Goals as goal

pub holders-requires : goal.holders-requires
holders-requires g c =
    zero-there (record { world = world_seen c.args.world.now; spaces = c.requires.1.0 }) c.requires.1.2.memory c.args.number c.in-Some.map (c.requires.1.2.known c.args.number ∙ sym c.map.ensures ∙ c.in-Some.is)
