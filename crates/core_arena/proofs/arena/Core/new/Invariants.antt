use Rattle.std.proofs.Common.{◌≡◌, ◌-◌, ◌*◌, ◌≤◌, replicate, Some, length}
use denote.RawPtr.{◌+ₚ◌}
use Rattle.core_arena.specs.Bytes.{zeros}
use Rattle.core_arena.specs.Pages.{pages_seen}
use Rattle.core_arena.specs.Rows.{AreInPlace}
use Rattle.core_arena.proofs.arena.Core.new.Given as goal

abbrev pub invariant-loop-made : goal.invariant-loop-made
invariant-loop-made l =
    (length l.pages.items ≡ l._made)
    × (l.fn.frames ≤ l.pages.cap)
    × AreInPlace l.region.base l.pages.items
    × (pages_seen l.pages.items ≡ replicate l._made (Some zeros))
    × (l.rest.at ≡ l.region.base +ₚ l._made * 4096)
    × (l.rest.bytes ≡ replicate ((l.fn.frames - l._made) * 4096) 0)
