-- The lines of a plan get their files' numbers one by one.
use Rattle.std.proofs.Common.{◌≡◌, ℕ, zero, suc, ◌<◌, ◌+◌, List, [], ◌∷◌, ◌++◌, length, map, take, drop, refl, ap, arith}
use Rattle.std.specs.Prelude.{slice_set, slice_index_or}
use Rattle.std.proofs.lemmas.List.Edits.{map_over_more}
use Rattle.vm_script.specs.declared.plan.PlanLine.{PlanLine}
use Rattle.vm_script.specs.FileNames.{line_with_file}

any_default : (xs : List PlanLine) (i : ℕ) (d e : PlanLine) → i < length xs → slice_index_or xs i d ≡ slice_index_or xs i e
any_default [] i d e lt = absurd (omega (arith, lt))
any_default (x ∷ xs) zero d e lt = refl
any_default (x ∷ xs) (suc i) d e lt = any_default xs i d e (omega (arith, lt))

same_length : (f : PlanLine → PlanLine) (xs : List PlanLine) (i : ℕ) → length (map f (take i xs) ++ drop i xs) ≡ length xs
same_length f xs zero = refl
same_length f [] (suc i) = refl
same_length f (x ∷ xs) (suc i) = let ih = same_length f xs i in omega (arith, ih)

pub over_more : (names : List (List ℕ)) (xs ys : List PlanLine) (i : ℕ) (d : PlanLine) → i < length ys → ys ≡ map (line_with_file names) (take i xs) ++ drop i xs
    → slice_set ys i (line_with_file names (slice_index_or ys i d)) ≡ map (line_with_file names) (take (i + 1) xs) ++ drop (i + 1) xs
over_more names xs ys i d below is =
    let inside : i < length xs = omega (arith, below, ap length is, same_length (line_with_file names) xs i) in
    map_over_more (line_with_file names) xs ys i (slice_index_or ys i d) inside is (any_default ys i d (slice_index_or ys i d) below)
