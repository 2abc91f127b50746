use Rattle.std.proofs.Common.{◌-◌, ℕ, Bool, cond, List, None, refl, sym, ap, ◌∙◌, arith}
use Rattle.std.specs.FinMap as finite
use Rattle.seg_ops.specs.addr_space.Space.{Part, piece_at}
use Rattle.seg_ops.proofs.addr_space.PartLists.{pages-end}
use Rattle.seg_ops.proofs.flat_model.Ranges.{get-insert_here}
use Rattle.seg_ops.specs.vm_world.World.{world_seen}
use Rattle.seg_ops.specs.vm_world.declared.segment.Segment.{Segment}
use Rattle.seg_ops.specs.vm_world.declared.world.World.{World}
use Rattle.seg_vn.proofs.ClearedSpaces.{none-goes, goes, part-leaves, none-out, none-left, range-left, part-left, next-pages, next-ranges}
use Rattle.seg_vn.proofs.GivenBack.{gives-none, gives-then}
use Rattle.seg_vn.proofs.LeftSegments.{pages-are}
use Rattle.seg_vn.proofs.clears.clear.Goals as goal

pub loop-first-init : goal.loop-first-init
loop-first-init g c = record {
  low = c.requires.range;
  high = omega arith;
  pages = λ q. sym (ap (λ (b : Bool). cond b None (piece_at c.args.space.now.parts q)) (none-out c.args.end q));
  changes = λ spaces fits. none-left (world_seen c.args.world.now) c.args.world.now.zeros spaces c.args.process c.args.space.now.parts fits c.args.end;
  gives = gives-none (world_seen c.args.world.now);
  objects = λ some. some;
  spare = omega arith;
  rest = refl;
}

pub unreachable-requires : goal.unreachable-requires
unreachable-requires g c = none-goes _ c.remove.result c.in-Some.ensures.1.1 c.remove.ensures.taken c.in_default-remove.is

pub leave-requires : goal.leave-requires
leave-requires g c =
    let s = c.requires.fits.0 in
    let now : List (Part Segment) = c.loop-first.space.parts in
    let k : ℕ = c.in-Some.first in
    let done = c.loop-first.invariant.changes s c.requires.fits.1 in
    let gone = goes now k c.remove.result c.in-Some-remove.segment c.remove.ensures.taken c.in-Some-remove.is in
    record { part = (finite.insert s c.args.process now, part-leaves (world_seen c.loop-first.world) s c.args.process now k c.in-Some-remove.segment gone done.changes.memory, done.known) }

pub loop-first-preserved : goal.loop-first-preserved
loop-first-preserved g c =
    let s = c.requires.fits.0 in
    let inv = c.loop-first.invariant in
    let old : List (Part Segment) = c.args.space.now.parts in
    let now : List (Part Segment) = c.loop-first.space.parts in
    let p : ℕ = c.args.process in
    let k : ℕ = c.in-Some.first in
    let top : ℕ = c.loop-first.top in
    let end : ℕ = c.args.end in
    let mid = world_seen c.loop-first.world in
    let new = world_seen c.leave.new.world in
    let segment : Segment = c.in-Some-remove.segment in
    let done = inv.changes s c.requires.fits.1 in
    let memory = done.changes.memory in
    let order = memory.segments.ordered p now (get-insert_here s p now) in
    let gone = goes now k c.remove.result segment c.remove.ensures.taken c.in-Some-remove.is in
    let x = gone.part in
    let leaves = part-leaves mid s p now k segment gone memory in
    let found = c.in-Some.ensures in
    let below = found.1.0 in
    let high = inv.high in
    record {
      low = found.0;
      high = omega (arith, below, high);
      pages = λ q. ap (λ (ps : List (Part Segment)). piece_at ps q) c.remove.ensures.parts ∙ next-pages old now top end k x order high below inv.pages c.requires.high found.1 gone.is q;
      changes = λ spaces fits.
          let before = inv.changes spaces fits in
          part-left (world_seen c.args.world.now) c.args.world.now.zeros spaces p old fits mid new c.loop-first.world.zeros c.leave.new.world.zeros now _ top (end - top) k segment.pages k (end - k)
          (next-ranges old now top end k x order high below inv.pages c.requires.high found.1 gone.is segment.pages (pages-are mid (finite.insert s p now) p k segment leaves)) c.remove.ensures.parts
          before (c.leave.ensures.changes (finite.insert spaces p now) (part-leaves mid spaces p now k segment gone before.changes.memory) before.known);
      gives = gives-then (world_seen c.args.world.now) mid new inv.gives c.leave.ensures.gives;
      objects = λ some. c.leave.ensures.objects (inv.objects some);
      spare = let a = inv.spare in let b = c.remove.ensures.spare in omega (arith, a, b);
      rest = c.leave.ensures.rest ∙ ap (λ (w : World g.row.D.Denot). record w { store = c.leave.new.world.store; anon = c.leave.new.world.anon; maps = c.leave.new.world.maps; hat = c.leave.new.world.hat; zeros = c.leave.new.world.zeros }) inv.rest;
    }

pub loop-first-smaller : goal.loop-first-smaller
loop-first-smaller g c = c.in-Some.ensures.1.0

pub returns : goal.returns
returns g c =
    let s = c.requires.fits.0 in
    let inv = c.loop-first.invariant in
    let old : List (Part Segment) = c.args.space.now.parts in
    let now : List (Part Segment) = c.loop-first.space.parts in
    let p : ℕ = c.args.process in
    let from : ℕ = c.args.from in
    let top : ℕ = c.loop-first.top in
    let end : ℕ = c.args.end in
    let memory = (inv.changes s c.requires.fits.1).changes.memory in
    let order = memory.segments.ordered p now (get-insert_here s p now) in
    let ended = pages-end old now from top end order inv.low inv.high inv.pages c.requires.low c.in_default.ensures in
    record {
      pages = ended;
      changes = λ spaces fits. range-left (world_seen c.args.world.now) c.args.world.now.zeros spaces p old fits _ c.loop-first.world.zeros top (end - top) from (end - from) (λ q. sym (inv.pages q) ∙ ended q) (inv.changes spaces fits);
      gives = inv.gives;
      objects = inv.objects;
      spare = inv.spare;
      rest = inv.rest;
    }
