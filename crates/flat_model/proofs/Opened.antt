-- Flat memory as it is opened is well formed, and so is a file that is opened.
use Rattle.std.proofs.Common.{◌≡◌, ℕ, ◌-◌, ◌*◌, Bool, true, false, List, [], ◌++◌, length, replicate, Some, None, sym, ap, ◌∙◌, arith, length-append}
use Rattle.std.specs.Prelude.{All, is_some, option_and_then}
use Rattle.std.specs.Ordering.{nat_cmp}
use Rattle.std.specs.FinMap as map
use Rattle.std.proofs.lemmas.List.{length-replicate}
use Rattle.vnode_files.specs.declared.extent.Extent.{Extent}
use Rattle.flat_model.specs.Words.{IsByte, IsPage, pages_in}
use Rattle.flat_model.specs.Flat.{Cell, IsFile, IsFlat, cell_at}
use Rattle.flat_model.specs.Opening.{flat_at_opening}
use Rattle.flat_model.specs.Parts.{pages_of_bytes, file_at_opening}
use Rattle.flat_model.proofs.FileBytes.{length-pages_of_bytes, Whole-pages_of_bytes}
use Rattle.flat_model.proofs.WellFormed.{Each-All, All-Each, Each-append, Each-replicate, Bytes-pages_of_bytes, Pages-of}

-- nothing at all
pub IsFlat-opening : (slots : ℕ) → IsFlat (flat_at_opening slots map.empty [] [])
IsFlat-opening slots = record {
  pages = λ p q c at. absurd (no_cell p q c at);
  cells = λ p q c at. absurd (no_cell p q c at);
  files = All-Each IsFile [] tt;
  zeros = λ z ps at. absurd (let both : None ≡ Some ps = sym (map.get-empty nat_cmp z) ∙ at in cc);
  born = λ p alive. absurd (let both : false ≡ true = sym (ap is_some (map.get-empty nat_cmp p)) ∙ alive in cc);
}
  where
    no_cell : (p q : ℕ) (c : Cell) → cell_at (flat_at_opening slots map.empty [] []) p q ≡ Some c → ⊥
    no_cell p q c at = let both : None ≡ Some c = sym (ap (option_and_then (λ space. map.get space q)) (map.get-empty nat_cmp p)) ∙ at in cc

-- a file that has these bytes
pub IsFile-at_opening : (len disk : ℕ) (extents : List Extent) (writable : Bool) (bytes : List ℕ) → length bytes ≡ len → All IsByte bytes → IsFile (file_at_opening len disk extents writable bytes)
IsFile-at_opening len disk extents writable bytes whole each =
    let n = pages_in len in
    let zeros : List ℕ = replicate (4096 * n - len) 0 in
    let more : length zeros ≡ 4096 * n - len = length-replicate (4096 * n - len) 0 in
    let size : length (bytes ++ zeros) ≡ 4096 * n = omega (arith, length-append bytes zeros) in
    let all = Each-append IsByte bytes zeros (Each-All IsByte bytes each) (Each-replicate IsByte (4096 * n - len) 0 (omega arith)) in
    record {
      count = length-pages_of_bytes n (bytes ++ zeros);
      pages = All-Each IsPage (pages_of_bytes n (bytes ++ zeros)) (Pages-of (pages_of_bytes n (bytes ++ zeros)) (Whole-pages_of_bytes n (bytes ++ zeros) size) (Bytes-pages_of_bytes n (bytes ++ zeros) all));
    }
