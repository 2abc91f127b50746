use Rattle.std.proofs.Common.{◌≡◌, ℕ, ◌==◌, length, map, take}
use Rattle.std.specs.Prelude.{vec_len, vec_capacity}
use Rattle.vm_core.proofs.start.top_marks.Given as goal

abbrev pub invariant-loop-parent : goal.invariant-loop-parent
invariant-loop-parent l = record {
  marks : l.marks.items ≡ map (λ (n : ℕ). n == 0) (take l.parent-index l.parents);
  count : vec_len l.marks ≡ l.parent-index;
  room : vec_capacity l.marks ≡ length l.parents;
}
