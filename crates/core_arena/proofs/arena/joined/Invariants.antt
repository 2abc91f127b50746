use Rattle.std.proofs.Common.{◌≡◌, ◌+◌, ◌*◌, length, vec_len}
use denote.RawPtr.{◌+ₚ◌}
use Rattle.core_arena.specs.Rows.{AreInPlace}
use Rattle.core_arena.proofs.arena.joined.Given as goal

abbrev pub invariant-loop-page : goal.invariant-loop-page
invariant-loop-page l =
    AreInPlace l.fn.region.base l.pages.items
    × (l.whole.at ≡ l.fn.region.base +ₚ length l.pages.items * 4096)
    × (length l.whole.bytes + length l.pages.items * 4096 ≡ length l.fn.pages.items * 4096)

abbrev pub decreases-loop-page : goal.decreases-loop-page
decreases-loop-page l = vec_len l.pages
