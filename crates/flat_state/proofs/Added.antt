-- Flat memory that is well formed stays so with a disk, a file or a root more.
use Rattle.std.proofs.Common.{◌≡◌, ℕ, ◌||◌, Bool, true, false, [], ◌∷◌, ◌++◌, Some, None, Result, Ok, Err, refl, sym, ap, subst, ◌∙◌, inl, inr}
use Rattle.std.specs.Prelude.{OnOk, OnErr, is_some, option_and_then}
use Rattle.std.specs.Ordering.{nat_cmp}
use Rattle.std.specs.FinMap as map
use Rattle.std.specs.FinSet as set
use Rattle.std.specs.Cmp.{nat_cmp_total, unsigned_tied}
use Rattle.std.proofs.lemmas.Bool.{cases_eq, eq-eqb}
use Rattle.flat_model.specs.Flat.{Cell, File, Flat, IsFile, IsFlat, cell_at}
use Rattle.flat_state.specs.FlatState.{with_root, with_one_more_file, with_blocks}
use Rattle.flat_model.proofs.Ranges.{get-insert_here, get-insert_apart}
use Rattle.flat_model.proofs.WellFormed.{Each-All, Each-append, IsFlat-with_files}

-- a disk more
pub IsFlat-with_blocks : (F : Flat) (number blocks : ℕ) → IsFlat F → IsFlat (with_blocks F number blocks)
IsFlat-with_blocks F number blocks flat = record { pages = flat.pages; cells = flat.cells; files = flat.files; zeros = flat.zeros; born = flat.born }

-- a file more
pub IsFlat-with_one_more_file : (F : Flat) (file : File) → IsFlat F → IsFile file → IsFlat (with_one_more_file F file)
IsFlat-with_one_more_file F file flat is = IsFlat-with_files F (F.files ++ file ∷ []) flat (Each-append IsFile F.files (file ∷ []) (Each-All IsFile F.files flat.files) (is, tt))

-- a root more
pub IsFlat-with_root : (F : Flat) (p : ℕ) → IsFlat F → IsFlat (with_root F p)
IsFlat-with_root F p flat = record {
  pages = λ x q c at. flat.pages x q c (old x q c at);
  cells = λ x q c at. flat.cells x q c (old x q c at);
  files = flat.files;
  zeros = flat.zeros;
  born = λ x alive. set.contains-insert nat_cmp_total F.born p x ∙ elim (cases_eq x p) [
    | inl here ↦ ap (λ b. b || set.contains F.born x) (unsigned_tied x p ∙ eq-eqb x p here)
    | inr apart ↦ or_right _ (set.contains F.born x) (flat.born x (ap is_some (sym (get-insert_apart F.spaces p map.empty x apart)) ∙ alive))
  ];
}
  where
    or_right : (a b : Bool) → b ≡ true → (a || b) ≡ true
    or_right true b is = refl
    or_right false b is = is

    old : (x q : ℕ) (c : Cell) → cell_at (with_root F p) x q ≡ Some c → cell_at F x q ≡ Some c
    old x q c at = elim (cases_eq x p) [
      | inl here ↦ absurd (let both : None ≡ Some c = sym (map.get-empty nat_cmp q) ∙ sym (ap (option_and_then (λ space. map.get space q)) (get-insert_here F.spaces p map.empty)) ∙ ap (λ y. cell_at (with_root F p) y q) (sym here) ∙ at in cc)
      | inr apart ↦ sym (ap (option_and_then (λ space. map.get space q)) (get-insert_apart F.spaces p map.empty x apart)) ∙ at
    ]

-- what a call leaves that either is done or changes nothing
pub either_flat : {A E : Type 0} (old next new : Flat) (r : Result A E) → IsFlat old → IsFlat next → OnOk r (new ≡ next) → OnErr r (new ≡ old) → IsFlat new
either_flat old next new (Ok x) was is ok err = subst IsFlat (sym ok) is
either_flat old next new (Err e) was is ok err = subst IsFlat (sym err) was
