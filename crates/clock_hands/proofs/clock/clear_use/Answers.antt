use Rattle.std.proofs.Common.{◌≡◌, false, ◌<◌, length, refl, arith}
use Rattle.seg_ops.specs.page_lock.Rows.{row_at, with_use}
use Rattle.seg_ops.specs.page_store.Steps.{with_row}
use Rattle.seg_ops.proofs.Composed.{keeps-then}
use Rattle.seg_ops.specs.vm_world.World.{world_seen}
use Rattle.seg_ops.proofs.UsedPages.{clear-keeps}
use Rattle.clock_hands.proofs.Uses.{front-clears}
use Rattle.clock_hands.proofs.clock.clear_use.Given.{Over}
use Rattle.clock_hands.proofs.clock.clear_use.Goals.{After-set_used}
use Rattle.clock_hands.proofs.clock.clear_use.Goals as goal

-- the row is the one that was, without the reference bit
stored : (g : Over) (c : After-set_used g) → c.set_used.new.self ≡ with_row c.gather_use.new.world.store c.args.frame
    (with_use (row_at c.gather_use.new.world.store.rows c.args.frame) false)
stored g c = c.set_used.ensures.new

pub returns-clause-clears : goal.returns-clause-clears
returns-clause-clears g c =
    let k = c.gather_use.ensures.keeps c.requires.fits.0 c.requires.fits.1 in
    let rows = k.memory.frames.sound.rows in
    let frames = k.frames in
    let lt : c.args.frame < length c.gather_use.new.world.store.rows = let a = c.requires.frame in omega (arith, a, rows, frames) in
    front-clears (world_seen c.args.world.now) (world_seen c.gather_use.new.world) (record (world_seen c.gather_use.new.world) { store = c.set_used.new.self }) c.args.frame lt c.gather_use.ensures.gathers refl (stored g c)

pub returns-clause-keeps : goal.returns-clause-keeps
returns-clause-keeps g c spaces fits =
    let k = c.gather_use.ensures.keeps spaces fits in
    keeps-then (world_seen c.args.world.now) (world_seen c.gather_use.new.world) (record (world_seen c.gather_use.new.world) { store = c.set_used.new.self }) spaces fits k
    (clear-keeps (world_seen c.gather_use.new.world) spaces c.set_used.new.self c.args.frame false k.memory (stored g c) c.set_used.ensures.laws)
