use Rattle.std.proofs.Common.{◌≡◌, ◌+◌, ℕ, true, false, List, Option, length, refl, sym, ap, ◌∙◌, subst, arith}
use Rattle.std.specs.Prelude.{is_some}
use Rattle.std.specs.FinMap as finite
use Rattle.seg_vn.specs.flat_model.Refusals.{Effect}
use Rattle.seg_vn.specs.vm_world.Segments.{Spaces}
use Rattle.seg_vn.specs.vm_world.ZeroObjects.{KnowsZeros}
use Rattle.seg_vn.specs.vm_world.declared.world.World.{World}
use Rattle.seg_vn.proofs.seg_ops.Modified.{modifies-same, modifies-tables, modifies-then}
use Rattle.proc_calls.specs.Forks.{BearsChild}
use Rattle.proc_calls.specs.Pieces.{AreFewHolders}
use Rattle.seg_vn.specs.vm_world.Words.{memory}
use Rattle.seg_vn.specs.vm_world.World.{world_seen}
use Rattle.proc_calls.proofs.Forked.{bears-child, counted-first, done-due, few-numbers, forked, forking, no-lack, refusal-due}
use Rattle.proc_calls.proofs.PiecesCopied.{all-own}
use Rattle.proc_calls.proofs.forks.fork.Goals as goal

pub unreachable-requires : goal.unreachable-requires
unreachable-requires g c = let z : false ≡ true = ap is_some c.in_default.ensures ∙ c.requires.alive in cc

pub count_pieces-counts-requires : goal.count_pieces-counts-requires
count_pieces-counts-requires g c =
    let here = sym c.in-Some.ensures in
    record {
      ordered = c.requires.fits.segments.ordered c.args.process c.in-Some.space.now.parts here;
      owns = all-own (length c.args.world.now.files.files) c.args.world.now.maps c.in-Some.space.now.parts (c.requires.fits.segments.each c.args.process c.in-Some.space.now.parts here);
    }

pub lacks_swap-requires : goal.lacks_swap-requires
lacks_swap-requires g c = record { fits = (c.args.spaces.now.spaces, c.requires.fits) }

pub returns-then-lacks_swap : goal.returns-then-lacks_swap
returns-then-lacks_swap g c =
    let here = sym c.in-Some.ensures in
    let lt = c.lacks_swap.ensures.0 c.if-lacks_swap.true in
    let slots = c.count_pieces-counts.ensures.slots in
    record {
      done = record { same = refl; due = refusal-due (memory c.args.world.now c.args.spaces.now.spaces) c.args.process c.args.child c.in-Some.space.now.parts c.requires.fits here (omega (arith, lt, slots)) };
      counted = refl;
      zeros = c.requires.zeros;
      modified = modifies-same (world_seen c.args.world.now);
      err = tt;
      rest = refl;
      processes = refl;
    }

pub take_rooms-requires-clause-fits : goal.take_rooms-requires-clause-fits
take_rooms-requires-clause-fits g c = (c.args.spaces.now.spaces, c.args.process, record { here = sym c.in-Some.ensures; memory = c.requires.fits; known = c.requires.zeros })

pub copy_pieces-requires : goal.copy_pieces-requires
copy_pieces-requires g c =
    let m = memory c.args.world.now c.args.spaces.now.spaces in
    let here = sym c.in-Some.ensures in
    let parts = c.in-Some.space.now.parts in
    let taken = c.in_ok-take_numbers.ensures in
    let is = ap world_seen taken.more.1 in
    let pieces = c.count_pieces-counts.ensures.pieces in
    record {
      fits = (
        c.args.spaces.now.spaces,
        c.args.child,
        forking m (world_seen c.take_numbers.new.world) c.take_numbers.new.world.zeros c.args.process c.args.child taken.more.0 parts c.requires.fits
            (subst (λ (zs : List (Option ℕ)). KnowsZeros zs c.args.spaces.now.spaces) (sym (ap (λ (w : World g.row.D.Denot). w.zeros) taken.more.1)) c.requires.zeros) here c.requires.absent is c.in_ok-kids.kids.parts c.in_ok-kids.ensures.empty,
      );
      empty = c.in_ok-kids.ensures.empty;
      spare = let a = c.in_ok-kids.ensures.spare in omega (arith, a, pieces);
      numbers = let a = taken.free in omega (arith, a, pieces);
      rooms = c.in_ok-rooms.ensures.rooms;
      few = subst (λ (w : World g.row.D.Denot). AreFewHolders w.maps (length parts) parts) (sym taken.more.1) (few-numbers c.args.world.now.maps taken.more.0 c.count_pieces-counts.result.pieces (length parts) parts pieces c.in_ok-rooms.ensures.few);
      room =
          let le = no-lack c.lacks_swap.result (length c.args.world.now.anon.counts) (c.args.world.now.anon.reserved + c.count_pieces-counts.result.slots) c.lacks_swap.ensures c.if-lacks_swap.false in
          let slots = c.count_pieces-counts.ensures.slots in
          let reserved = ap (λ (w : World g.row.D.Denot). w.anon.reserved) taken.more.1 in
          let counts = ap (λ (w : World g.row.D.Denot). length w.anon.counts) taken.more.1 in
          omega (arith, le, slots, reserved, counts);
    }

pub insert-requires : goal.insert-requires
insert-requires g c = record { first = c.requires.number.0; last = c.requires.number.1; absent = c.requires.absent }

pub returns : goal.returns
returns g c =
    let spaces = c.args.spaces.now.spaces in
    let m = memory c.args.world.now spaces in
    let w = c.take_numbers.new.world in
    let n = c.copy_pieces.new.world in
    let here = sym c.in-Some.ensures in
    let parts = c.in-Some.space.now.parts in
    let taken = c.in_ok-take_numbers.ensures in
    let is = ap world_seen taken.more.1 in
    let copied = c.copy_pieces.ensures.copied in
    let zeros = ap (λ (v : World g.row.D.Denot). v.zeros) taken.more.1 in
    let known = subst (λ (zs : List (Option ℕ)). KnowsZeros zs spaces) (sym zeros) c.requires.zeros in
    let step = copied.2 spaces c.args.child (forking m (world_seen w) w.zeros c.args.process c.args.child taken.more.0 parts c.requires.fits known here c.requires.absent is c.in_ok-kids.kids.parts c.in_ok-kids.ensures.empty) in
    let le = no-lack c.lacks_swap.result (length c.args.world.now.anon.counts) (c.args.world.now.anon.reserved + c.count_pieces-counts.result.slots) c.lacks_swap.ensures c.if-lacks_swap.false in
    let slots = c.count_pieces-counts.ensures.slots in
    let bears = bears-child m c.args.process c.args.child parts c.requires.fits here (memory n (finite.insert spaces c.args.child c.copy_pieces.new.kids.parts)) (omega (arith, le, slots))
    (forked m (world_seen w) w.zeros c.args.process c.args.child taken.more.0 parts c.requires.fits known here c.requires.absent is c.in_ok-kids.kids.parts c.copy_pieces.new.kids.parts (world_seen n) w.zeros copied.0 c.in_ok-kids.ensures.empty copied.1 step) in
    record {
      done = record {
        bears = subst (λ (s : Spaces). BearsChild m (memory n s) c.args.process c.args.child) (sym c.insert.ensures.spaces) bears;
        due = λ born notes. ap (λ (x : Effect). x.reply) (done-due m c.args.process c.args.child parts c.requires.fits here (omega (arith, le, slots)) born notes);
      };
      counted = counted-first m (world_seen w) taken.more.0 c.args.process n.anon.counts parts here is (c.copy_pieces.ensures.counted spaces here);
      zeros = subst (KnowsZeros n.zeros) (sym c.insert.ensures.spaces) (subst (λ (zs : List (Option ℕ)). KnowsZeros zs (finite.insert spaces c.args.child c.copy_pieces.new.kids.parts)) (sym (ap (λ (v : World g.row.D.Denot). v.zeros) c.copy_pieces.ensures.rest)) step.known);
      modified = modifies-then (world_seen c.args.world.now) (world_seen w) (world_seen n) (modifies-tables (world_seen c.args.world.now) (world_seen w) (ap (λ (v : World g.row.D.Denot). v.store) taken.more.1) (ap (λ (v : World g.row.D.Denot). v.hat) taken.more.1)) c.copy_pieces.ensures.modified;
      err = tt;
      rest = c.copy_pieces.ensures.rest ∙ ap (λ (v : World g.row.D.Denot). record v { anon = n.anon; maps = n.maps; hat = n.hat }) taken.more.1;
      processes = c.insert.ensures.processes;
    }
