-- The spaces of the processes that are alive. Public clauses cite this.
use Rattle.std.specs.Prelude.{ℕ, suc, List, [], ◌∷◌, Option, Some, None, refl}
use Rattle.std.specs.Coded.{Coded, code_by, coded×, coded_ℕ, coded_list}
use Rattle.std.specs.FinMap as finite
use Rattle.seg_ops.specs.addr_space.Space.{RangesSeen, part_code}
use Rattle.seg_ops.specs.vm_world.declared.segment.Segment.{Segment}
use Rattle.seg_ops.specs.vm_world.Segments.{Spaces}
use Rattle.seg_vn.specs.Segments.{segment_code}

-- The parts of each process's space, and the most number of a process.
pub record SpacesSeen : Type 0 where
  pub spaces : Spaces
  pub processes : ℕ

-- The spaces of a list, the first of which is that of process k.
abbrev pub spaces_from : ℕ → List (Option (RangesSeen Segment)) → Spaces
spaces_from k [] = finite.empty
spaces_from k (None ∷ rest) = spaces_from (suc k) rest
spaces_from k (Some space ∷ rest) = finite.insert (spaces_from (suc k) rest) k space.parts

-- Spaces as data, so that a model may have them as its value.
abbrev pub spaces_code : Coded SpacesSeen
spaces_code =
    code_by (Spaces × ℕ) (coded× (finite.code coded_ℕ (coded_list (part_code segment_code))) coded_ℕ)
    (λ s. (s.spaces, s.processes)) (λ p. record { spaces = p.0; processes = p.1 }) (λ _. refl)
