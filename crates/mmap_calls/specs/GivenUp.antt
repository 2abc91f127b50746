-- The pages of zero objects that a Map gives up. Inside: no public clause cites this.
use Rattle.std.specs.Prelude.{ℕ, zero, suc, ◌+◌, ◌==◌, Bool, false, List, Option, Some, None, length, slice_index_or, if◌then◌else◌}
use Rattle.seg_vn.specs.vm_types.declared.call.Object.{Object}
use Rattle.seg_vn.specs.vm_types.declared.call.Object.TheVariants as object
use Rattle.seg_vn.specs.addr_space.Space.{Part}
use Rattle.seg_vn.specs.anon_map.Maps.{Map, holders_of, places_of}
use Rattle.seg_vn.specs.vm_world.declared.segment.Segment.{Segment}
use Rattle.mmap_calls.specs.RangeCounts.{shown_within}

-- The object is this zero object.
abbrev pub is_zero_object : ℕ → Object → Bool
is_zero_object z (object.Zero y) = y == z
is_zero_object z o = false

-- The pages of a zero object of which so many parts lie wholly in the range: they are given up where no other part shows it, and it isn't mapped.
abbrev pub pages_given : List (Option Map) → Object → ℕ → ℕ → Option ℕ → ℕ
pages_given maps o z count None = 0
pages_given maps o z count (Some number) = if is_zero_object z o then 0 else if count == holders_of maps number then length (places_of maps number) else 0

-- The pages that are given up of the zero objects below a number, where o is mapped over the range.
abbrev pub given_up : List (Option Map) → List (Option ℕ) → List (Part Segment) → ℕ → ℕ → Object → ℕ → ℕ
given_up maps zeros parts first end o zero = 0
given_up maps zeros parts first end o (suc z) = given_up maps zeros parts first end o z + pages_given maps o z (shown_within parts first end z) (slice_index_or zeros z None)
