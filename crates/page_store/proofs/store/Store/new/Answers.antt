use Rattle.std.proofs.Common.{◌≡◌, ℕ, List, Option, Some, length, replicate, sym, ◌∙◌, ap, subst, arith, set}
use Rattle.std.specs.Prelude.{option_map}
use Rattle.block_device.specs.DiskSeen.{DiskSeen}
use Rattle.page_hash.specs.Names.{AreDistinct}
use Rattle.page_lists.specs.ListsSeen.{ListsSeen, AreApart}
use Rattle.page_store.specs.Bays.{BaySeen, home, AreNumbers, numbers_of, pairs_seen, bays_with, bay_at, bay_of, missing}
use Rattle.std.proofs.lemmas.List.{length-replicate}
use Rattle.std.proofs.Math.ListN.{length-set}
use Rattle.core_arena.specs.Bytes.{zeros}
use Rattle.page_store.specs.New.{AreHome}
use Rattle.page_store.proofs.BayLemmas.{length-placed}
use Rattle.page_store.proofs.NewLemmas.{numbers-seen, length-numbers, placed-other, none-missing, are-home, order-there, whole-set, whole-swap, whole-seen, whole-placed, sound-new}
use Rattle.page_store.proofs.StillLemmas.{new-still, new-fits}
use Rattle.page_store.proofs.store.Store.new.Goals as goal

pub place_swap-requires-clause-nine : goal.place_swap-requires-clause-nine
place_swap-requires-clause-nine g c =
    let pairs : List (ℕ × DiskSeen) = pairs_seen g.D.Disk.seen c.args.disks.items in
    let is : c.place_all.new.bays ≡ bays_with pairs (replicate 9 missing) = c.place_all.ensures ∙ ap (bays_with pairs) c.in-Ok.ensures.bays in
    ap (λ (l : List BaySeen). length l) is ∙ length-placed pairs (replicate 9 missing)

pub place_swap-requires-clause-empty : goal.place_swap-requires-clause-empty
place_swap-requires-clause-empty g c =
    let pairs : List (ℕ × DiskSeen) = pairs_seen g.D.Disk.seen c.args.disks.items in
    let is : c.place_all.new.bays ≡ bays_with pairs (replicate 9 missing) = c.place_all.ensures ∙ ap (bays_with pairs) c.in-Ok.ensures.bays in
    let numbers : AreNumbers (numbers_of pairs) = subst AreNumbers (sym (numbers-seen g.D.Disk.seen c.args.disks.items)) c.requires.numbers in
    ap (λ (l : List BaySeen). bay_at l 8) is ∙ placed-other pairs (replicate 9 missing) 8 (λ i lt q. let z = length-numbers pairs in
    let l = numbers.below i (omega (arith, lt, z)) in omega (arith, l, q)) ∙ none-missing 9 8

pub invariant_of-result : goal.invariant_of-result
invariant_of-result g c =
    let pairs : List (ℕ × DiskSeen) = pairs_seen g.D.Disk.seen c.args.disks.items in
    let swap : Option DiskSeen = option_map g.D.Disk.seen c.args.swap in
    let is : c.place_all.new.bays ≡ bays_with pairs (replicate 9 missing) = c.place_all.ensures ∙ ap (bays_with pairs) c.in-Ok.ensures.bays in
    let bays_is : c.place_swap.new.bays ≡ set (bays_with pairs (replicate 9 missing)) 8 (bay_of swap) = c.place_swap.ensures ∙ ap (λ (l : List BaySeen). set l 8 (bay_of swap)) is in
    let numbers : AreNumbers (numbers_of pairs) = subst AreNumbers (sym (numbers-seen g.D.Disk.seen c.args.disks.items)) c.requires.numbers in
    let order_is : c.in-Ok.parts.order ≡ numbers_of pairs = c.in-Ok.ensures.order ∙ ap numbers_of c.as_slice.ensures.value ∙ sym (numbers-seen g.D.Disk.seen c.args.disks.items) in
    let nine : length (set (bays_with pairs (replicate 9 missing)) 8 (bay_of swap)) ≡ 9 = length-set (bays_with pairs (replicate 9 missing)) 8 (bay_of swap)
    ∙ length-placed pairs (replicate 9 missing) in
    let law = g.met.D.Disk.has_blocks in
    let whole = whole-set (bays_with pairs (replicate 9 missing)) 8 (bay_of swap) (whole-swap swap (λ d e. whole-seen g.D.Disk.seen law c.args.swap d e))
    (whole-placed g.D.Disk.seen law c.args.disks.items (replicate 9 missing) (λ k d h. absurd (let z : missing ≡ home d = sym (none-missing 9 k) ∙ h in cc))) in
    record {
      sound = rw (c.in-Ok.ensures.core, c.in-Ok.ensures.names, c.in-Ok.ensures.lists, c.in-Ok.ensures.locks, c.new.ensures, bays_is, order_is)
          (sound-new c.in-Ok.parts.core.origin c.args.frames (set (bays_with pairs (replicate 9 missing)) 8 (bay_of swap))
          (numbers_of pairs) c.ranges.frames.fits nine whole (order-there pairs swap numbers)
          (subst AreDistinct c.in-Ok.ensures.names c.in-Ok.ensures.distinct) (subst AreApart c.in-Ok.ensures.lists c.in-Ok.ensures.apart));
      counted = rw c.in-Ok.ensures.core (length-replicate c.args.frames (Some zeros));
      listed = ap (λ (l : ListsSeen). l.frames) c.in-Ok.ensures.lists;
      pointer = let two = c.requires.frames in omega (arith, two);
    }

pub returns-clause-store : goal.returns-clause-store
returns-clause-store g c =
    let pairs : List (ℕ × DiskSeen) = pairs_seen g.D.Disk.seen c.args.disks.items in
    let swap : Option DiskSeen = option_map g.D.Disk.seen c.args.swap in
    let is : c.place_all.new.bays ≡ bays_with pairs (replicate 9 missing) = c.place_all.ensures ∙ ap (bays_with pairs) c.in-Ok.ensures.bays in
    let bays_is : c.place_swap.new.bays ≡ set (bays_with pairs (replicate 9 missing)) 8 (bay_of swap) = c.place_swap.ensures ∙ ap (λ (l : List BaySeen). set l 8 (bay_of swap)) is in
    let numbers : AreNumbers (numbers_of pairs) = subst AreNumbers (sym (numbers-seen g.D.Disk.seen c.args.disks.items)) c.requires.numbers in
    record {
      frames = c.in-Ok.ensures.core;
      names = c.in-Ok.ensures.names;
      rows = c.in-Ok.ensures.locks;
      free = ap (λ (l : ListsSeen). l.free) c.in-Ok.ensures.lists;
      cached = ap (λ (l : ListsSeen). l.cached) c.in-Ok.ensures.lists;
      clock = c.new.ensures;
      order = c.in-Ok.ensures.order ∙ ap numbers_of c.as_slice.ensures.value ∙ sym (numbers-seen g.D.Disk.seen c.args.disks.items);
      bays = subst (λ (l : List BaySeen). AreHome l pairs swap) (sym bays_is) (are-home pairs swap numbers);
    }

pub returns-clause-still : goal.returns-clause-still
returns-clause-still g c = new-still _ _ _ _ (returns-clause-store g c)

pub returns-clause-fits : goal.returns-clause-fits
returns-clause-fits g c = λ table apart. new-fits _ _ _ _ (returns-clause-store g c) table apart

pub returns-clause-sound : goal.returns-clause-sound
returns-clause-sound g c = (invariant_of-result g c).sound
