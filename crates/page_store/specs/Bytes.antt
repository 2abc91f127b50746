-- The bytes of a page as a disk has them. Public clauses cite this.
use Rattle.std.specs.Prelude.{ℕ, ◌-◌, ◌++◌, List, take, replicate}

-- the first `valid` bytes, and zeros after them
abbrev pub clip : ℕ → List ℕ → List ℕ
clip valid bytes = take valid bytes ++ replicate (4096 - valid) 0
