-- What a core ends as, once the bytes of a frame that is home were written. Public clauses cite this.
use Rattle.std.specs.Prelude.{ℕ, List, slice_set}
use Rattle.std.specs.Borrow.{Lends, MutBor, Fml, Array, u8}
use Rattle.std.specs.Option.{option_map}
use Rattle.core_arena.specs.Bytes.{bytes_at, slice_after_write}
use Rattle.core_arena.specs.Seen.{CoreSeen}
use Rattle.core_arena.specs.contracts.arena.Core.{the_row}

-- the frame has the bytes that were left, and nothing else changes
abbrev pub lends_home : MutBor CoreSeen → ℕ → MutBor (List ℕ) → Fml
lends_home c i r = Lends the_row (Array u8 0) c r (λ w. record c.now { frames = slice_set c.now.frames i (option_map (λ bytes. slice_after_write bytes w) (bytes_at c.now.frames i)) })
