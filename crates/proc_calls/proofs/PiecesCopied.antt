-- The pieces of a process are copied, one after another.
use Rattle.std.proofs.Common.{◌≡◌, ℕ, ◌+◌, ◌-◌, ◌<◌, ◌≤◌, cond, List, [], ◌∷◌, ◌++◌, length, Option, Some, None, refl, sym, ap, ◌∙◌, subst, arith, append-nil, append_assoc}
use Rattle.std.specs.Prelude.{All, vec_capacity, count_by, is_some, option_map, sum_by}
use Rattle.std.specs.FinMap as finite
use Rattle.std_alloc.specs.declared.vec.Vec.{Vec}
use Rattle.std.specs.Ordering.{nat_cmp}
use Rattle.std.proofs.lemmas.List.Elements.{All-weaker}
use Rattle.seg_vn.specs.addr_space.Space.{Part, part, part_at, with_new_part, IsInOrder}
use Rattle.seg_vn.proofs.addr_space.PartLists.{all-begins, found-begins}
use Rattle.seg_vn.specs.anon_map.Maps.{Map, IsMapThere, places_of}
use Rattle.seg_vn.specs.vm_types.declared.call.Kind.{Kind}
use Rattle.seg_vn.specs.vm_types.declared.call.Kind.TheVariants.{Shared, Private}
use Rattle.seg_vn.specs.flat_model.Flat.{Flat, Space}
use Rattle.seg_vn.proofs.flat_model.Ranges.{get-insert_here, get-insert_apart}
use Rattle.seg_vn.proofs.flat_model.Reserve.{put_back}
use Rattle.seg_vn.specs.vm_world.CountsFit.{OwnFits, SegmentFits, is_number, slots_for_part}
use Rattle.seg_vn.specs.vm_world.FlatMemory.{Memory, flat_memory}
use Rattle.seg_vn.specs.vm_world.ForkSteps.{slots_held, with_cells_copied}
use Rattle.seg_vn.specs.vm_world.MemoryFits.{MemoryFits}
use Rattle.seg_vn.specs.vm_world.Segments.{Spaces}
use Rattle.seg_vn.specs.vm_world.World.{World}
use Rattle.seg_vn.specs.vm_world.declared.segment.Segment.{Segment}
use Rattle.seg_vn.proofs.vm_world.ForkEvents.{fork_rule}
use Rattle.seg_vn.proofs.vm_world.KeptMaps.{own-there}
use Rattle.seg_vn.proofs.vm_world.Maps.{insert-twice}
use Rattle.seg_vn.proofs.vm_world.SegmentSteps.{segment_rule}
use Rattle.seg_vn.proofs.vm_world.SweptFlat.{space-is}
use Rattle.seg_vn.proofs.seg_ops.Composed.{keeps-same}
use Rattle.seg_vn.specs.Clears.{ChangesSpace, SpaceFits}
use Rattle.seg_vn.specs.Copied.{KeepsPlaces, MayComeAt}
use Rattle.seg_vn.specs.Cuts.{IsPartAt}
use Rattle.proc_calls.specs.Pieces.{AreFewHolders, HasFewHolders, AreRoomsFor, IsForking, IsFirstFrom, IsRoomFor, OwnsPages, rooms_of}

-- ROOMS: one more at the end
pub rooms-push : (rooms : List (List (Option ℕ) × ℕ)) (xs : List (Part Segment)) (room : List (Option ℕ) × ℕ) (x : Part Segment) → AreRoomsFor rooms xs → IsRoomFor room x → AreRoomsFor (rooms ++ room ∷ []) (xs ++ x ∷ [])
rooms-push [] [] room x has one = (one, tt)
rooms-push [] (y ∷ xs) room x has one = absurd has
rooms-push (r ∷ rooms) [] room x has one = absurd has
rooms-push (r ∷ rooms) (y ∷ xs) room x has one = (has.0, rooms-push rooms xs room x has.1 one)

rooms-of-push : {Z : Type 0} (rooms : List (Vec (Option ℕ) Z)) (room : Vec (Option ℕ) Z) → rooms_of (rooms ++ room ∷ []) ≡ rooms_of rooms ++ (room.items, vec_capacity room) ∷ []
rooms-of-push [] room = refl
rooms-of-push (r ∷ rooms) room = ap (λ (l : List (List (Option ℕ) × ℕ)). (r.items, vec_capacity r) ∷ l) (rooms-of-push rooms room)

pub rooms-more : {Z : Type 0} (old new : List (Vec (Option ℕ) Z)) (room : Vec (Option ℕ) Z) (xs : List (Part Segment)) (x : Part Segment) → new ≡ old ++ room ∷ [] → AreRoomsFor (rooms_of old) xs → IsRoomFor (room.items, vec_capacity room) x → AreRoomsFor (rooms_of new) (xs ++ x ∷ [])
rooms-more {Z} old new room xs x is has one =
    subst (λ (l : List (List (Option ℕ) × ℕ)). AreRoomsFor l (xs ++ x ∷ [])) (sym (ap (λ (l : List (Vec (Option ℕ) Z)). rooms_of l) is ∙ rooms-of-push old room)) (rooms-push (rooms_of old) xs (room.items, vec_capacity room) x has one)

-- one less at the front
pub rooms-less : {Z : Type 0} (old new : List (Vec (Option ℕ) Z)) (room : Vec (Option ℕ) Z) (left rest : List (Part Segment)) (x : Part Segment) → old ≡ room ∷ new → left ≡ x ∷ rest → AreRoomsFor (rooms_of old) left → IsRoomFor (room.items, vec_capacity room) x × AreRoomsFor (rooms_of new) rest
rooms-less {Z} old new room left rest x is next has = subst (AreRoomsFor (rooms_of (room ∷ new))) next (subst (λ (l : List (Vec (Option ℕ) Z)). AreRoomsFor (rooms_of l) left) is has)

-- as many as parts
pub rooms-none : (xs : List (Part Segment)) (x : Part Segment) (rest : List (Part Segment)) → xs ≡ x ∷ rest → AreRoomsFor [] xs → ⊥
rooms-none [] x rest is has = let z : [] ≡ x ∷ rest = is in cc
rooms-none (y ∷ ys) x rest is has = has

pub rooms-some : {Z : Type 0} (rooms : List (Vec (Option ℕ) Z)) (left : List (Part Segment)) (x : Part Segment) (rest : List (Part Segment)) → left ≡ x ∷ rest → AreRoomsFor (rooms_of rooms) left → 0 < length rooms
rooms-some [] left x rest is has = absurd (rooms-none left x rest is has)
rooms-some (r ∷ rooms) left x rest is has = omega arith

-- the parts that are walked over, with one more
pub walked-push : (ps done left rest : List (Part Segment)) (x : Part Segment) → ps ≡ done ++ left → left ≡ x ∷ rest → ps ≡ (done ++ x ∷ []) ++ rest
walked-push ps done left rest x is next = is ∙ ap (λ (l : List (Part Segment)). done ++ l) next ∙ sym (append_assoc done (x ∷ []) rest)

pub walked-done : (ps done left : List (Part Segment)) → ps ≡ done ++ left → left ≡ [] → done ≡ ps
walked-done ps done left is none = sym (is ∙ ap (λ (l : List (Part Segment)). done ++ l) none ∙ append-nil done)

pub part-of-space : (w : World) (zeros : List (Option ℕ)) (spaces : Spaces) (p : ℕ) (parts : List (Part Segment)) (from : ℕ) (x : Part Segment) → SpaceFits w zeros spaces p parts → IsFirstFrom parts from x → IsPartAt w spaces p x.first x.piece
part-of-space w zeros spaces p parts from x fits next = record { parts = parts; part = x; memory = fits.memory; here = fits.here; starts = found-begins 1 parts x.first x (fits.memory.segments.ordered p parts fits.here) next.found; piece = refl }

-- A PART that fits reserves what it owns
by_kind : (maps : List (Option Map)) (x : Part Segment) (k : Kind) → x.piece.kind ≡ k → OwnFits maps x.piece k → OwnsPages x
by_kind maps x Shared e own =
    ap (λ (k : Kind). elim k as (λ (k : Kind). ℕ) [ Private ↦ x.pages | Shared ↦ 0 ]) e ∙ sym (ap (λ (o : Option ℕ). cond (is_some o) x.pages 0) own)
by_kind maps x Private e own =
    ap (λ (k : Kind). elim k as (λ (k : Kind). ℕ) [ Private ↦ x.pages | Shared ↦ 0 ]) e ∙ sym (ap (λ (o : Option ℕ). cond (is_some o) x.pages 0) own.1)

pub all-own : (files : ℕ) (maps : List (Option Map)) (ps : List (Part Segment)) → All (SegmentFits files maps) ps → All OwnsPages ps
all-own files maps ps each = All-weaker (SegmentFits files maps) OwnsPages (λ x fit. by_kind maps x x.piece.kind refl fit.own) ps each

module _ (w : World) (zeros : List (Option ℕ)) (spaces : Spaces) (p child : ℕ) (parts start : List (Part Segment)) (f : IsForking w zeros spaces p child parts start) where
  abbrev begin : Memory
  begin = record { world = w; spaces = finite.insert spaces child start }

  pub still-here : (kids : List (Part Segment)) → finite.get (finite.insert spaces child kids) p ≡ Some parts
  still-here kids = get-insert_apart spaces child kids p f.apart ∙ f.here

  pub ordered : IsInOrder 1 parts
  ordered = f.memory.segments.ordered p parts (still-here start)

  -- NOTHING is copied yet
  pub copied-none : ChangesSpace child begin begin zeros (λ F. with_cells_copied F p child 0 0)
  copied-none = record {
    changes = segment_rule.same child begin begin (λ F. F) (λ F. with_cells_copied F p child 0 0)
        (λ born notes.
        let F : Flat = flat_memory begin born notes in
        sym (ap (λ (t : finite.FinMap nat_cmp Space). record F { spaces = t }) (put_back F child (ap is_some (space-is begin child start born notes (get-insert_here spaces child start))))))
        (segment_rule.keeps child w w begin.spaces f.memory (keeps-same w begin.spaces f.memory));
    known = f.known;
  }

  -- ONE MORE
  pub copied-next : (u v : World) (kids : List (Part Segment)) (from : ℕ) (x : Part Segment) (copy : Segment) → ChangesSpace child begin (record { world = u; spaces = finite.insert spaces child kids }) zeros (λ F. with_cells_copied F p child 0 from)
      → from ≤ x.first → ((q : ℕ) → from ≤ q → q < x.first → part_at parts q ≡ None)
      → ChangesSpace child (record { world = u; spaces = finite.insert spaces child kids }) (record { world = v; spaces = finite.insert (finite.insert spaces child kids) child (with_new_part (part x.first x.pages copy) kids) }) zeros (λ F. with_cells_copied F p child x.first x.pages)
      → ChangesSpace child begin (record { world = v; spaces = finite.insert spaces child (with_new_part (part x.first x.pages copy) kids) }) zeros (λ F. with_cells_copied F p child 0 (x.first + x.pages))
  copied-next u v kids from x copy first le gap second =
      let put = with_new_part (part x.first x.pages copy) kids in
      subst (λ (s : Spaces). ChangesSpace child begin (record { world = v; spaces = s }) zeros (λ F. with_cells_copied F p child 0 (x.first + x.pages))) (insert-twice spaces child kids put) (record {
        changes = fork_rule.joined begin (record { world = u; spaces = finite.insert spaces child kids }) (record { world = v; spaces = finite.insert (finite.insert spaces child kids) child put }) p child from x.first x.pages parts f.apart (still-here start) le gap first.changes second.changes;
        known = second.known;
      })

  -- the part that is next, and where its copy comes
  pub part-next : (u : World) (kids : List (Part Segment)) (from : ℕ) (x : Part Segment) → MemoryFits (record { world = u; spaces = finite.insert spaces child kids }) → IsFirstFrom parts from x → IsPartAt u (finite.insert spaces child kids) p x.first x.piece
  part-next u kids from x fits next = record { parts = parts; part = x; memory = fits; here = still-here kids; starts = found-begins 1 parts x.first x ordered next.found; piece = refl }

  abbrev pub comes-next : (kids : List (Part Segment)) (from : ℕ) (x : Part Segment) (n : ℕ) → IsFirstFrom parts from x → ((q : ℕ) → from ≤ q → part_at kids q ≡ None) → MayComeAt (finite.insert spaces child kids) p child x.first n
  comes-next kids from x n next free = record { kids = kids; apart = f.apart; here = get-insert_here spaces child kids; free = λ q low _. (let b = next.behind in free q (omega (arith, b, low))) }

  -- its own map was there, and it has its pages
  pub fit-next : (from : ℕ) (x : Part Segment) → IsFirstFrom parts from x → SegmentFits (length w.files.files) w.maps x
  fit-next from x next = all-begins (SegmentFits (length w.files.files) w.maps) parts x.first x (f.memory.segments.each p parts (still-here start)) (found-begins 1 parts x.first x ordered next.found)

  pub own-next : (from : ℕ) (x : Part Segment) (n : ℕ) → IsFirstFrom parts from x → x.piece.own ≡ Some n → IsMapThere w.maps n
  own-next from x n next is = (own-there w.maps x.piece x.piece.kind n (fit-next from x next).own is).0

-- HOLDERS: one at most more, of one part less
pub few-next : (old new : List (Option Map)) (more : ℕ) (xs : List (Part Segment)) → ((n : ℕ) → IsMapThere old n → KeepsPlaces old new n) → AreFewHolders old (more + 1) xs → AreFewHolders new more xs
few-next old new more xs kept few = All-weaker (HasFewHolders old (more + 1)) (HasFewHolders new more) (λ x has n is.
    let h = has n is in
    let k = kept n h.0 in
    let a = h.1 in
    let b = k.holders in
    (k.there, omega (arith, a, b))) xs few

-- COUNTS: how many places of the own maps of parts hold a slot
abbrev pub owned_in : List (Option Map) → List (Part Segment) → ℕ → ℕ
owned_in maps ps slot = sum_by (λ (x : Part Segment). count_by (is_number slot) (slots_held maps x.piece.own)) ps

pub held-same : (old new : List (Option Map)) (own : Option ℕ) → ((n : ℕ) → own ≡ Some n → places_of new n ≡ places_of old n) → slots_held new own ≡ slots_held old own
held-same old new None same = refl
held-same old new (Some n) same = same n refl

abbrev pub place_in : ℕ → Part Segment → Segment × ℕ
place_in q x = (x.piece, q - x.first)

pub no-part : (o : Option (Part Segment)) (q : ℕ) → option_map (place_in q) o ≡ None → o ≡ None
no-part None q is = refl
no-part (Some x) q is = absurd (let z : Some (place_in q x) ≡ None = is in cc)

-- what a part reserves is told by its pages
pub slots-same : (first n m : ℕ) (s : Segment) → n ≡ m → slots_for_part (part first n s) ≡ slots_for_part (part first m s)
slots-same first n m s e = ap (λ (k : ℕ). slots_for_part (part first k s)) e
