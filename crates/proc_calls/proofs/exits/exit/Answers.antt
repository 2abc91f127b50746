use Rattle.std.proofs.Common.{◌≡◌, true, false, sym, ap, ◌∙◌, subst, arith}
use Rattle.std.specs.Prelude.{is_some}
use Rattle.seg_vn.specs.flat_model.Processes.{without_process}
use Rattle.seg_vn.specs.vm_world.Segments.{Spaces}
use Rattle.seg_vn.specs.vm_world.World.{world_seen}
use Rattle.seg_vn.specs.Clears.{ChangesSpace, SpaceFits}
use Rattle.proc_calls.proofs.Ended.{starts-first, starts-end, ended}
use Rattle.proc_calls.proofs.exits.exit.Goals as goal

pub unreachable-requires : goal.unreachable-requires
unreachable-requires g c = let z : false ≡ true = ap is_some c.in_default.ensures.found ∙ c.requires.alive in cc

pub clear-requires : goal.clear-requires
clear-requires g c =
    let here = sym c.in-Some.ensures.found in
    let order = c.requires.fits.segments.ordered c.args.process c.in-Some.space.now.parts here in
    record {
      range = omega arith;
      low = starts-first c.in-Some.space.now.parts order;
      high = starts-end c.in-Some.space.now.parts order;
      fits = (c.args.spaces.now.spaces, record { here = here; memory = c.requires.fits; known = c.requires.zeros });
    }

pub returns : goal.returns
returns g c =
    let here = sym c.in-Some.ensures.found in
    let fits : SpaceFits (world_seen c.args.world.now) c.args.world.now.zeros c.args.spaces.now.spaces c.args.process c.in-Some.space.now.parts = record { here = here; memory = c.requires.fits; known = c.requires.zeros } in
    record {
      changes = subst (λ (spaces : Spaces). ChangesSpace c.args.process (record { world = world_seen c.args.world.now; spaces = c.args.spaces.now.spaces }) (record { world = world_seen c.clear.new.world; spaces = spaces })
          c.clear.new.world.zeros (λ F. without_process F c.args.process)) (sym c.remove.ensures.spaces)
          (ended (world_seen c.args.world.now) (world_seen c.clear.new.world) c.args.world.now.zeros c.clear.new.world.zeros c.args.spaces.now.spaces c.args.process c.in-Some.space.now.parts c.clear.new.space.parts fits (c.clear.ensures.changes c.args.spaces.now.spaces fits) c.clear.ensures.pages);
      fall = c.clear.ensures.gives.fall;
      modified = c.clear.ensures.gives.modified;
      rest = c.clear.ensures.rest;
      processes = c.remove.ensures.processes;
    }
