-- What a range of pages has, counted by the parts that have its pages. A range is told by its first page and its end. Inside: no public clause cites this.
use Rattle.std.specs.Prelude.{◌≡◌, ℕ, ◌+◌, ◌-◌, ◌<◌, ◌≤◌, ◌&&◌, IsSome, Bool, min, max, nat_le, List, Option, Some, None, slice_index, sum_by, if◌then◌else◌}
use Rattle.seg_vn.specs.addr_space.Space.{Part, begins}
use Rattle.seg_vn.specs.vm_types.declared.call.Kind.TheVariants.{Private, Shared}
use Rattle.seg_vn.specs.vm_types.declared.call.Object.{Object}
use Rattle.seg_vn.specs.vm_types.declared.call.Object.TheVariants as object
use Rattle.seg_vn.specs.vm_world.CountsFit.{is_number}
use Rattle.seg_vn.specs.vm_world.declared.segment.Segment.{Segment}
use Rattle.mmap_calls.specs.declared.counts.RangeCounts.{RangeCounts}

-- No part that begins below a page has a page from another on.
abbrev pub NoneBelow : List (Part Segment) → ℕ → ℕ → Type 0
NoneBelow parts from below = (p : Part Segment) → begins parts p.first ≡ Some p → p.first < below → p.first + p.pages ≤ from

-- How many pages of a part lie in the range.
abbrev pub pages_within : ℕ → ℕ → Part Segment → ℕ
pages_within first end p = min (p.first + p.pages) end - max p.first first

-- How many slots the pages of a part in the range reserve: one each where they are private.
abbrev pub slots_within : ℕ → ℕ → Part Segment → ℕ
slots_within first end p = elim p.piece.kind [ Private ↦ pages_within first end p | Shared ↦ 0 ]

-- A piece has an own map exactly where it is private.
abbrev pub IsOwnPrivate : Segment → Type 0
IsOwnPrivate s = elim s.kind [ Private ↦ IsSome s.own | Shared ↦ s.own ≡ None ]

-- The zero object of an object, if it is one.
abbrev pub zero_in : Object → Option ℕ
zero_in (object.Zero z) = Some z
zero_in o = None

-- The part lies wholly in the range.
abbrev pub lies_within : ℕ → ℕ → Part Segment → Bool
lies_within first end p = nat_le first p.first && nat_le (p.first + p.pages) end

-- 1 for a part that lies wholly in the range and shows the zero object.
abbrev pub count_within : ℕ → ℕ → ℕ → Part Segment → ℕ
count_within first end z p = if lies_within first end p then (if is_number z (zero_in p.piece.object) then 1 else 0) else 0

-- How many pages of the range are mapped.
abbrev pub mapped_pages : List (Part Segment) → ℕ → ℕ → ℕ
mapped_pages parts first end = sum_by (pages_within first end) parts

-- How many slots the pages of the range reserve.
abbrev pub slots_of_range : List (Part Segment) → ℕ → ℕ → ℕ
slots_of_range parts first end = sum_by (slots_within first end) parts

-- How many parts that lie wholly in the range show the zero object.
abbrev pub shown_within : List (Part Segment) → ℕ → ℕ → ℕ → ℕ
shown_within parts first end z = sum_by (count_within first end z) parts

-- The counts are those of the range.
pub record CountsRange (parts : List (Part Segment)) (first end : ℕ) (c : RangeCounts) : Type 0 where
  pub pages : c.pages ≡ mapped_pages parts first end
  pub slots : c.slots ≡ slots_of_range parts first end
  pub shown : (z : ℕ) → slice_index c.shown.items z ≡ shown_within parts first end z

-- The counts are no more than the pages of a space.
pub record IsFewCounted (c : RangeCounts) : Type 0 where
  pub pages : c.pages ≤ 0x80000
  pub slots : c.slots ≤ 0x80000
  pub shown : (z : ℕ) → slice_index c.shown.items z ≤ 0x80000
