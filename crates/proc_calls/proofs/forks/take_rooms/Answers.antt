use Rattle.std.proofs.Common.{◌+◌, ◌++◌, [], ◌∷◌, length, sym, ap, ◌∙◌, subst, arith}
use Rattle.std.proofs.lemmas.List.Elements.{All-nil, All-push}
use Rattle.seg_vn.specs.addr_space.Space.{part}
use Rattle.seg_vn.specs.vm_world.World.{world_seen}
use Rattle.seg_vn.proofs.LeftSegments.{shown-is}
use Rattle.proc_calls.specs.Pieces.{AreFewHolders, HasFewHolders, AreRoomsFor, parts_from, rooms_of}
use Rattle.proc_calls.proofs.PiecesFrom.{one-less, whole-from}
use Rattle.proc_calls.proofs.PiecesCopied.{part-of-space, rooms-more, walked-done, walked-push}
use Rattle.proc_calls.proofs.forks.take_rooms.Goals as goal

pub loop-first-init : goal.loop-first-init
loop-first-init g c =
    let parts = c.args.space.now.parts in
    let all = whole-from 1 0 parts (c.requires.fits.2.memory.segments.ordered c.requires.fits.1 parts c.requires.fits.2.here) (omega arith) in
    record {
      done = ([], sym all, subst (λ (rs : _). AreRoomsFor (rooms_of rs) []) (sym c.in_ok-rooms.ensures.items) tt, All-nil (HasFewHolders c.args.world.now.maps c.args.pieces));
      room =
          let len = c.in_ok-rooms.ensures.len in
          let capacity = c.in_ok-rooms.ensures.capacity in
          let pieces = c.requires.pieces in
          let e = ap length all in
          omega (arith, len, capacity, pieces, e);
    }

pub check_holders-requires : goal.check_holders-requires
check_holders-requires g c =
    let fits = c.requires.fits in
    let x = part c.in-Some.first c.in-Some.pages c.in-Some.segment.now in
    record { there = λ n is. (shown-is (world_seen c.args.world.now) fits.0 fits.1 x.first x.piece (part-of-space (world_seen c.args.world.now) c.args.world.now.zeros fits.0 fits.1 c.args.space.now.parts c.loop-first.from x fits.2 c.in-Some.ensures) n (sym c.shown.ensures ∙ is)).0 }

pub push_back_reserved-requires : goal.push_back_reserved-requires
push_back_reserved-requires g c =
    let x = part c.in-Some.first c.in-Some.pages c.in-Some.segment.now in
    let one = one-less c.args.space.now.parts c.loop-first.from x c.in-Some.ensures in
    let room = c.loop-first.invariant.room in
    omega (arith, one, room)

pub overflow_add-from : goal.overflow_add-from
overflow_add-from g c = let within = c.in-Some.ensures.within in omega (arith, within)

pub loop-first-preserved : goal.loop-first-preserved
loop-first-preserved g c =
    let fits = c.requires.fits in
    let parts = c.args.space.now.parts in
    let x = part c.in-Some.first c.in-Some.pages c.in-Some.segment.now in
    let next = c.in-Some.ensures in
    let d = c.loop-first.invariant.done in
    let here = part-of-space (world_seen c.args.world.now) c.args.world.now.zeros fits.0 fits.1 parts c.loop-first.from x fits.2 next in
    record {
      done = (
        d.0 ++ x ∷ [],
        walked-push parts d.0 (parts_from c.loop-first.from parts) (parts_from (x.first + x.pages) parts) x d.1 next.left,
        rooms-more c.loop-first.rooms.items c.push_back_reserved.new.self.items c.in_ok-room.room d.0 x c.push_back_reserved.ensures.items d.2 (c.in_ok-room.ensures.empty, λ own. (let roomy = c.in_ok-room.ensures.roomy own in omega (arith, roomy))),
        All-push (HasFewHolders c.args.world.now.maps c.args.pieces) d.0 x d.3 (λ n is. ((shown-is (world_seen c.args.world.now) fits.0 fits.1 x.first x.piece here n is).0, c.in_ok-check_holders.ensures n (c.shown.ensures ∙ is))),
      );
      room =
          let one = one-less parts c.loop-first.from x next in
          let room = c.loop-first.invariant.room in
          let len = c.push_back_reserved.ensures.len in
          let same = c.push_back_reserved.ensures.capacity in
          omega (arith, one, room, len, same);
    }

pub loop-first-smaller : goal.loop-first-smaller
loop-first-smaller g c =
    let next = c.in-Some.ensures in
    let behind = next.behind in
    let some = next.some in
    let within = next.within in
    omega (arith, behind, some, within)

pub returns : goal.returns
returns g c =
    let d = c.loop-first.invariant.done in
    let whole = walked-done c.args.space.now.parts d.0 (parts_from c.loop-first.from c.args.space.now.parts) d.1 c.in_default.ensures in
    record {
      rooms = subst (AreRoomsFor (rooms_of c.loop-first.rooms.items)) whole d.2;
      few = subst (AreFewHolders c.args.world.now.maps c.args.pieces) whole d.3;
    }
