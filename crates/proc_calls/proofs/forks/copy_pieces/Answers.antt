use Rattle.std.proofs.Common.{◌≡◌, ◌+◌, ℕ, [], ◌∷◌, cond, Bool, Some, Option, List, length, refl, sym, ap, ◌∙◌, subst, arith}
use Rattle.std.specs.Prelude.{count_by, option_map, slice_index, sum_by, unwrap_or}
use Rattle.std.specs.FinMap as finite
use Rattle.std.proofs.lemmas.List.Elements.{All-head, All-tail}
use Rattle.std.proofs.lemmas.List.Sums.{sum_by-cons}
use Rattle.seg_vn.specs.addr_space.Space.{Part, part, part_at, with_new_part, IsInOrder}
use Rattle.seg_vn.proofs.addr_space.PartLemmas.{found-in, has-past}
use Rattle.seg_vn.specs.vm_world.CountsFit.{is_number, slots_for_part}
use Rattle.seg_vn.specs.vm_world.ForkSteps.{slots_held, with_cells_copied}
use Rattle.seg_vn.specs.vm_world.MemoryFits.{MemoryFits}
use Rattle.seg_vn.specs.vm_world.Words.{memory}
use Rattle.seg_vn.specs.vm_world.World.{world_seen}
use Rattle.seg_vn.specs.vm_world.declared.segment.Segment.{Segment}
use Rattle.seg_vn.specs.vm_world.declared.world.World.{World}
use Rattle.seg_vn.proofs.seg_ops.Modified.{modifies-same, modifies-then}
use Rattle.seg_vn.specs.Clears.{ChangesSpace}
use Rattle.proc_calls.specs.Pieces.{AreFewHolders, HasFewHolders, AreRoomsFor, IsForking, IsFirstFrom, IsRoomFor, parts_from, rooms_of}
use Rattle.proc_calls.proofs.PiecesFrom.{one-less, slots-less, walked-all, walked-gap, walked-none, walked-one, whole-from}
use Rattle.proc_calls.proofs.PiecesCopied.{comes-next, copied-next, copied-none, few-next, fit-next, held-same, no-part, ordered, own-next, owned_in, part-next, place_in, rooms-less, rooms-some, slots-same}
use Rattle.proc_calls.proofs.forks.copy_pieces.Given.{Over}
use Rattle.proc_calls.proofs.forks.copy_pieces.Goals.{After-take_first-room}
use Rattle.proc_calls.proofs.forks.copy_pieces.Goals as goal

pub loop-first-init : goal.loop-first-init
loop-first-init g c =
    let w = c.args.world.now in
    let f = c.requires.fits in
    let parts = c.args.space.now.parts in
    let order = ordered (world_seen w) w.zeros f.0 c.args.process f.1 parts c.args.kids.now.parts f.2 in
    let all = whole-from 1 0 parts order (omega arith) in
    let many = ap length all in
    record {
      walked = walked-none parts order;
      rooms = subst (AreRoomsFor (rooms_of c.args.rooms.items)) (sym all) c.requires.rooms;
      numbers = let r = c.requires.numbers in omega (arith, many, r);
      spare = let r = c.requires.spare in omega (arith, many, r);
      few = subst (λ (l : List (Part Segment)). AreFewHolders w.maps (length l) l) (sym all) c.requires.few;
      room = let r = c.requires.room in let e = ap (sum_by slots_for_part) all in omega (arith, e, r);
      free = λ q low. ap (λ (ks : List (Part Segment)). part_at ks q) c.requires.empty;
      places = λ n is. (is, refl);
      slots = refl;
      counts = λ slot. ap (λ (l : List (Part Segment)). slice_index w.anon.counts slot + owned_in w.maps l slot) all;
      copied = λ spaces child is. copied-none (world_seen w) w.zeros spaces c.args.process child parts c.args.kids.now.parts is;
      modified = modifies-same (world_seen w);
      rest = refl;
    }

module _ (g : Over) (c : After-take_first-room g) where
  abbrev parts : List (Part Segment)
  parts = c.args.space.now.parts

  abbrev x : Part Segment
  x = part c.in-Some.first c.in-Some.pages c.in-Some.segment.now

  next : IsFirstFrom parts c.loop-first.from x
  next = c.in-Some.ensures

  abbrev rest : List (Part Segment)
  rest = parts_from (x.first + x.pages) parts

  one : length (parts_from c.loop-first.from parts) ≡ length rest + 1
  one = one-less parts c.loop-first.from x next

  abbrev fork : IsForking (world_seen c.args.world.now) c.args.world.now.zeros c.requires.fits.0 c.args.process c.requires.fits.1 parts c.args.kids.now.parts
  fork = c.requires.fits.2

  order : IsInOrder 1 parts
  order = ordered (world_seen c.args.world.now) c.args.world.now.zeros c.requires.fits.0 c.args.process c.requires.fits.1 parts c.args.kids.now.parts fork

  size : x.pages ≡ x.piece.pages
  size = (fit-next (world_seen c.args.world.now) c.args.world.now.zeros c.requires.fits.0 c.args.process c.requires.fits.1 parts c.args.kids.now.parts fork c.loop-first.from x next).pages

  rooms : IsRoomFor (c.take_first-room.result.items, c.take_first-room.result.cap) x × AreRoomsFor (rooms_of c.take_first-room.new.rooms.items) rest
  rooms = rooms-less c.loop-first.rooms.items c.take_first-room.new.rooms.items c.take_first-room.result (parts_from c.loop-first.from parts) rest x c.take_first-room.ensures next.left c.loop-first.invariant.rooms

  fits : MemoryFits (memory c.loop-first.world (finite.insert c.requires.fits.0 c.requires.fits.1 c.loop-first.kids.parts))
  fits = (c.loop-first.invariant.copied c.requires.fits.0 c.requires.fits.1 fork).changes.memory

  few : AreFewHolders c.loop-first.world.maps (length rest + 1) (x ∷ rest)
  few = subst (AreFewHolders c.loop-first.world.maps (length rest + 1)) next.left (subst (λ (n : ℕ). AreFewHolders c.loop-first.world.maps n (parts_from c.loop-first.from parts)) one c.loop-first.invariant.few)

  slots : sum_by slots_for_part (parts_from c.loop-first.from parts) ≡ slots_for_part (part x.first x.piece.pages x.piece) + sum_by slots_for_part rest
  slots = slots-less parts c.loop-first.from x next ∙ ap (λ (n : ℕ). n + sum_by slots_for_part rest) (slots-same x.first x.pages x.piece.pages x.piece size)

pub take_first-room-requires : goal.take_first-room-requires
take_first-room-requires g c =
    let some = rooms-some c.loop-first.rooms.items (parts_from c.loop-first.from c.args.space.now.parts) (part c.in-Some.first c.in-Some.pages c.in-Some.segment.now) (parts_from (c.in-Some.first + c.in-Some.pages) c.args.space.now.parts) c.in-Some.ensures.left c.loop-first.invariant.rooms in
    let len = c.loop-first.rooms.ok.0 in
    record { some = omega (arith, some, len) }

pub dup_into-copy-requires : goal.dup_into-copy-requires
dup_into-copy-requires g c =
    let d = (goal.at.dup_into-copy-requires g c).After-take_first-room in
    let inv = c.loop-first.invariant in
    record {
      part = (finite.insert c.requires.fits.0 c.requires.fits.1 c.loop-first.kids.parts, part-next (world_seen c.args.world.now) c.args.world.now.zeros c.requires.fits.0 c.args.process c.requires.fits.1 (parts g d) c.args.kids.now.parts (fork g d) (world_seen c.loop-first.world) c.loop-first.kids.parts c.loop-first.from (x g d) (fits g d) (next g d));
      numbers = let a = one g d in let b = inv.numbers in omega (arith, a, b);
      empty = (rooms g d).0.0;
      roomy = (rooms g d).0.1;
      few = λ n is. (let h = (All-head (HasFewHolders c.loop-first.world.maps (length (rest g d) + 1)) (x g d) (rest g d) (few g d) n is).1 in omega (arith, h));
      room = let a = inv.room in let b = slots g d in omega (arith, a, b);
    }

pub insert-requires : goal.insert-requires
insert-requires g c =
    let d = (goal.at.insert-requires g c).After-take_first-room in
    let inv = c.loop-first.invariant in
    let lies = found-in 1 (parts g d) (x g d).first (x g d) (order g d) (next g d).found in
    record {
      some = (next g d).some;
      low = lies.behind;
      high = (next g d).within;
      absent = λ q low _. (let b = (next g d).behind in inv.free q (omega (arith, b, low)));
      room = let a = one g d in let b = inv.spare in omega (arith, a, b);
    }

pub overflow_add-from : goal.overflow_add-from
overflow_add-from g c = let within = c.in-Some.ensures.within in omega (arith, within)

pub loop-first-preserved : goal.loop-first-preserved
loop-first-preserved g c =
    let d = (goal.at.loop-first-preserved g c).After-take_first-room in
    let inv = c.loop-first.invariant in
    let w = c.args.world.now in
    let cur = c.loop-first.world in
    let new = c.dup_into-copy.new.world in
    let y = x g d in
    let n = next g d in
    let left = rest g d in
    let slot_sum = slots g d in
    let dup = c.dup_into-copy.ensures in
    let less = one g d in
    let numbers = dup.numbers in
    let kids = c.loop-first.kids.parts in
    record {
      walked = walked-one (parts g d) c.loop-first.from y n inv.walked;
      rooms = (rooms g d).1;
      numbers = let b = inv.numbers in omega (arith, less, numbers, b);
      spare = let a = c.insert.ensures.spare in let b = inv.spare in omega (arith, less, a, b);
      few = few-next cur.maps new.maps (length left) left dup.kept (All-tail (HasFewHolders cur.maps (length left + 1)) y left (few g d));
      room =
          let a = inv.room in
          let more = ap (λ (v : World g.row.D.Denot). v.anon.reserved) dup.rest in
          let same = dup.counted.slots in
          omega (arith, a, slot_sum, more, same);
      free = λ q low.
          let some = n.some in
          let b = n.behind in
          no-part (part_at c.insert.new.self.parts q) q
          (c.insert.ensures.pages q ∙ ap (λ (t : Bool). cond t (Some (place_in q (part y.first y.pages c.dup_into-copy.result))) (option_map (place_in q) (part_at kids q))) (has-past (part y.first y.pages c.dup_into-copy.result) q low)
          ∙ ap (option_map (place_in q)) (inv.free q (omega (arith, b, some, low))));
      places = λ m is. (let a = inv.places m is in let k = dup.kept m a.0 in (k.there, k.places ∙ a.1));
      slots = dup.counted.slots ∙ inv.slots;
      counts = λ slot.
          let a = inv.counts slot in
          let b = dup.counted.counts slot in
          let same = held-same w.maps cur.maps y.piece.own (λ m is. (inv.places m (own-next (world_seen w) w.zeros c.requires.fits.0 c.args.process c.requires.fits.1 (parts g d) c.args.kids.now.parts (fork g d) c.loop-first.from y m n is)).1) in
          let here = ap (count_by (is_number slot)) same in
          let step = ap (λ (l : List (Part Segment)). owned_in w.maps l slot) n.left ∙ sum_by-cons (λ (z : Part Segment). count_by (is_number slot) (slots_held w.maps z.piece.own)) y left in
          omega (arith, a, b, here, step);
      copied = λ spaces child is.
          let before = inv.copied spaces child is in
          let put = finite.insert spaces child kids in
          let here = part-next (world_seen w) w.zeros spaces c.args.process child (parts g d) c.args.kids.now.parts is (world_seen cur) kids c.loop-first.from y before.changes.memory n in
          let comes = comes-next (world_seen w) w.zeros spaces c.args.process child (parts g d) c.args.kids.now.parts is kids c.loop-first.from y y.piece.pages n inv.free in
          let second = dup.copied.changes put child here comes w.zeros before.known in
          let sized = subst (λ (k : ℕ). ChangesSpace child (memory cur put) (memory new (finite.insert put child (with_new_part (part y.first k c.dup_into-copy.result) kids))) w.zeros (λ F. with_cells_copied F c.args.process child y.first k)) (sym (size g d)) second in
          let done = copied-next (world_seen w) w.zeros spaces c.args.process child (parts g d) c.args.kids.now.parts is (world_seen cur) (world_seen new) kids c.loop-first.from y c.dup_into-copy.result before n.behind (walked-gap (parts g d) c.loop-first.from y (order g d) n inv.walked) sized in
          subst (λ (ks : List (Part Segment)). ChangesSpace child (memory w (finite.insert spaces child c.args.kids.now.parts)) (memory new (finite.insert spaces child ks)) w.zeros (λ F. with_cells_copied F c.args.process child 0 (y.first + y.pages))) (sym c.insert.ensures.parts) done;
      modified = modifies-then (world_seen w) (world_seen cur) (world_seen new) inv.modified dup.modified;
      rest =
          let anon = ap (λ (v : World g.row.D.Denot). v.anon) dup.rest in
          dup.rest ∙ (λ i. record cur { anon = sym anon i; maps = new.maps; hat = new.hat }) ∙ ap (λ (v : World g.row.D.Denot). record v { anon = new.anon; maps = new.maps; hat = new.hat }) inv.rest;
    }

pub loop-first-smaller : goal.loop-first-smaller
loop-first-smaller g c =
    let next = c.in-Some.ensures in
    let behind = next.behind in
    let some = next.some in
    let within = next.within in
    omega (arith, behind, some, within)

pub returns-clause-copied : goal.returns-clause-copied
returns-clause-copied g c =
    let inv = c.loop-first.invariant in
    (c.loop-first.from, walked-all c.args.space.now.parts c.loop-first.from c.in_default.ensures inv.walked, inv.copied)

pub returns-clause-counted : goal.returns-clause-counted
returns-clause-counted g c = λ spaces here.
    let inv = c.loop-first.invariant in
    let maps = c.args.world.now.maps in
    record {
      slots = inv.slots;
      counts = λ slot.
          let a = inv.counts slot in
          let none : owned_in maps (parts_from c.loop-first.from c.args.space.now.parts) slot ≡ 0 = ap (λ (l : List (Part Segment)). owned_in maps l slot) c.in_default.ensures in
          let mine = ap (λ (o : Option (List (Part Segment))). owned_in maps (unwrap_or o []) slot) here in
          omega (arith, a, none, mine);
    }
