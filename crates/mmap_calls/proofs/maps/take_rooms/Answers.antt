use Rattle.std.proofs.Common.{sym, ◌∙◌}
use Rattle.seg_vn.specs.vm_world.World.{world_seen}
use Rattle.seg_vn.proofs.vm_world.ComingParts.{zero-there}
use Rattle.mmap_calls.proofs.Replaced.{named-object}
use Rattle.mmap_calls.proofs.maps.take_rooms.Goals as goal

pub check_holders-requires : goal.check_holders-requires
check_holders-requires g c = record {
  there = λ n is.
      let fits = c.requires.fits.2 in
      let o = named-object c.args.world.now.zeros c.args.map.now.request.object n (sym c.requires.mapping.held ∙ is) in
      zero-there (record { world = world_seen c.args.world.now; spaces = c.requires.fits.0 }) fits.memory o.0 n (fits.known o.0 ∙ o.2);
}
