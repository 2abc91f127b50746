-- The pieces of a space as they are walked over from the front, and the rooms that are taken for their copies. Inside: no public clause cites this.
use Rattle.std.specs.Prelude.{◌≡◌, ◌≢◌, ◌<◌, ◌≤◌, ◌+◌, ◌^◌, ℕ, nat_lt, map, vec_capacity, if◌then◌else◌, [], ◌∷◌, All, List, Option, Some, None, IsSome, is_some}
use Rattle.std.specs.FinMap as finite
use Rattle.std_alloc.specs.declared.vec.Vec.{Vec}
use Rattle.seg_vn.specs.addr_space.Space.{Part, part_at}
use Rattle.seg_vn.specs.anon_map.Maps.{Map, IsMapThere, holders_of}
use Rattle.seg_vn.specs.vm_world.CountsFit.{slots_for_part}
use Rattle.seg_vn.specs.vm_world.ForkSteps.{with_cells_copied}
use Rattle.seg_vn.specs.vm_world.MemoryFits.{MemoryFits}
use Rattle.seg_vn.specs.vm_world.Segments.{Spaces}
use Rattle.seg_vn.specs.vm_world.World.{World, world_seen}
use Rattle.seg_vn.specs.vm_world.ZeroObjects.{KnowsZeros}
use Rattle.seg_vn.specs.vm_world.Words.{memory}
use Rattle.seg_vn.specs.vm_world.declared.segment.Segment.{Segment}
use Rattle.seg_vn.specs.vm_world.declared.world.World as rust
use Rattle.seg_vn.specs.Clears.{ChangesSpace}
use Rattle.proc_calls.specs.Forks.{CountsForked}

-- The parts from the first that begins at a page or behind it.
abbrev pub parts_from : ℕ → List (Part Segment) → List (Part Segment)
parts_from page [] = []
parts_from page (x ∷ xs) = if nat_lt x.first page then parts_from page xs else x ∷ xs

-- The first of these parts; the others are those behind it.
pub record IsFirstFrom (parts : List (Part Segment)) (page : ℕ) (x : Part Segment) : Type 0 where
  pub left : parts_from page parts ≡ x ∷ parts_from (x.first + x.pages) parts
  pub found : part_at parts x.first ≡ Some x
  pub behind : page ≤ x.first
  pub some : 0 < x.pages
  pub within : x.first + x.pages ≤ 0x80000

-- A part reserves a slot for each of its pages exactly where it has a map of its own.
abbrev pub OwnsPages : Part Segment → Type 0
OwnsPages x = slots_for_part x ≡ (if is_some x.piece.own then x.pages else 0)

-- The places that rooms have, and how many they have room for.
abbrev pub rooms_of : {Z : Type 0} → List (Vec (Option ℕ) Z) → List (List (Option ℕ) × ℕ)
rooms_of rooms = map (λ room. (room.items, vec_capacity room)) rooms

-- Room for the copy of a part: no place yet, and room for all of its pages where it has a map of its own.
abbrev pub IsRoomFor : List (Option ℕ) × ℕ → Part Segment → Type 0
IsRoomFor room x = (room.0 ≡ []) × (IsSome x.piece.own → x.piece.pages ≤ room.1)

-- One room for each part, in their order.
abbrev pub AreRoomsFor : List (List (Option ℕ) × ℕ) → List (Part Segment) → Type 0
AreRoomsFor [] [] = Unit {0}
AreRoomsFor (room ∷ rooms) (x ∷ xs) = IsRoomFor room x × AreRoomsFor rooms xs
AreRoomsFor [] (x ∷ xs) = ⊥
AreRoomsFor (room ∷ rooms) [] = ⊥

-- The map of a zero object that a part shows is there, and so many holders more can be counted.
abbrev pub HasFewHolders : List (Option Map) → ℕ → Part Segment → Type 0
HasFewHolders maps more x = (number : ℕ) → x.piece.shown ≡ Some number → IsMapThere maps number × (holders_of maps number + more < 2 ^ 32)

-- The maps of the zero objects that these parts show are there, and of each so many holders more
-- can be counted.
abbrev pub AreFewHolders : List (Option Map) → ℕ → List (Part Segment) → Type 0
AreFewHolders maps more parts = All (HasFewHolders maps more) parts

-- A process has these parts, and another one, whose space is being filled, those: memory fits, and the list of zero objects is right.
pub record IsForking (w : World) (zeros : List (Option ℕ)) (spaces : Spaces) (p child : ℕ) (parts kids : List (Part Segment)) : Type 0 where
  pub apart : p ≢ child
  pub here : finite.get spaces p ≡ Some parts
  pub memory : MemoryFits (record { world = w; spaces = finite.insert spaces child kids })
  pub known : KnowsZeros zeros (finite.insert spaces child kids)

-- In some spaces, for some other process whose space is being filled, memory fits and the list of
-- zero objects is right.
abbrev pub MayBeForking : {D : Type 0} → rust.World D → ℕ → List (Part Segment) → List (Part Segment) → Type 0
MayBeForking w p parts kids = (spaces : Spaces) × (child : ℕ) × IsForking (world_seen w) w.zeros spaces p child parts kids

-- Whatever the spaces and the process whose space is being filled, it has all cells of the other
-- one then, and nothing else changes in flat memory.
abbrev pub CopiesParts : {D : Type 0} → rust.World D → rust.World D → ℕ → List (Part Segment) → List (Part Segment) → List (Part Segment) → Type 0
CopiesParts old new p parts kids final =
    (end : ℕ) × ((q : ℕ) → end ≤ q → part_at parts q ≡ None)
    × ((spaces : Spaces) (child : ℕ) → IsForking (world_seen old) old.zeros spaces p child parts kids
    → ChangesSpace child (memory old (finite.insert spaces child kids)) (memory new (finite.insert spaces child final)) old.zeros (λ F. with_cells_copied F p child 0 end))

-- The slots of these parts of the process are counted once more.
abbrev pub CountsParts : {D : Type 0} → rust.World D → List ℕ → ℕ → List (Part Segment) → Type 0
CountsParts old counts p parts = (spaces : Spaces) → finite.get spaces p ≡ Some parts → CountsForked (memory old spaces) counts p
