use Rattle.std.proofs.Common.{◌≡◌, ℕ, ◌+◌, ◌-◌, ap, subst, arith}
use Rattle.std.specs.FinMap as finite
use Rattle.seg_vn.specs.flat_model.Mapping.{without_pages}
use Rattle.seg_vn.specs.vm_world.Words.{memory}
use Rattle.seg_vn.specs.vm_world.World.{world_seen}
use Rattle.seg_vn.specs.vm_world.declared.world.World.{World}
use Rattle.seg_vn.proofs.seg_ops.Modified.{modifies-tables, modifies-then}
use Rattle.seg_vn.specs.Clears.{ChangesSpace}
use Rattle.mmap_calls.proofs.Replaced.{fits-after, joined}
use Rattle.mmap_calls.proofs.unmaps.free_range.Goals as goal
use Rattle.seg_vn.proofs.vm_world.Shapes.{pages-respects}

pub clear-requires-clause-fits : goal.clear-requires-clause-fits
clear-requires-clause-fits g c =
    let spaces = c.requires.fits.0 in (
      finite.insert spaces c.args.process c.cut_ends.new.space.parts,
      fits-after c.args.process (memory c.args.world.now spaces) (world_seen c.cut_ends.new.world) spaces c.cut_ends.new.space.parts c.cut_ends.new.world.zeros (λ F. F) (c.in_ok-cut_ends.ensures.changes spaces c.requires.fits.1),
    )

pub returns-clause-done : goal.returns-clause-done
returns-clause-done g c = λ spaces fits.
    let p = c.args.process in
    let m = memory c.args.world.now spaces in
    let v = world_seen c.cut_ends.new.world in
    let w = world_seen c.clear.new.world in
    let cut = c.cut_ends.new.space.parts in
    let left = c.clear.new.space.parts in
    let cuts = c.in_ok-cut_ends.ensures.changes spaces fits in
    let here = fits-after p m v spaces cut c.cut_ends.new.world.zeros (λ F. F) cuts in
    let many : c.args.first + c.args.pages - c.args.first ≡ c.args.pages = omega arith in
    subst (λ (k : ℕ). ChangesSpace p m (memory c.clear.new.world (finite.insert spaces p left)) c.clear.new.world.zeros (λ F. without_pages F p c.args.first k)) many
    (joined p m v w spaces cut left c.cut_ends.new.world.zeros c.clear.new.world.zeros (λ F. without_pages F p c.args.first (c.args.first + c.args.pages - c.args.first)) (pages-respects p c.args.first (c.args.first + c.args.pages - c.args.first)) cuts (c.clear.ensures.changes (finite.insert spaces p cut) here))

pub returns-clause-modified : goal.returns-clause-modified
returns-clause-modified g c =
    let old = world_seen c.args.world.now in
    let cut = world_seen c.cut_ends.new.world in
    let only = c.cut_ends.ensures.world in
    modifies-then old cut (world_seen c.clear.new.world) (modifies-tables old cut (ap (λ (v : World g.row.D.Denot). v.store) only) (ap (λ (v : World g.row.D.Denot). v.hat) only)) c.clear.ensures.gives.modified
