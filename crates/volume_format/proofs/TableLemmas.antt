-- How many extents files have, where one is added or changed.
use Rattle.std.proofs.Common.{ℕ, ◌≡◌, ◌<◌, ◌≤◌, ◌+◌, List, [], ◌∷◌, ◌++◌, length, take, get_or, set, ap, sym, ◌∙◌, arith, length-append}
use Rattle.std.specs.List.{insert, remove}
use Rattle.std.proofs.lemmas.List.Sums.{sum_by-set, sum_by-remove, sum_by-insert}
use Rattle.std.proofs.lemmas.List.{append-nil, take_more, get_or_read}
use Rattle.std.proofs.lemmas.List.Concat.{flat_map-append, length-flat_map}
use Rattle.std.proofs.lemmas.List.Folds.{length-flat_map-take}
use Rattle.vnode_files.specs.declared.extent.Extent.{Extent}
use Rattle.vnode_files.specs.declared.vnode.FileInfo.{FileInfo}
use Rattle.volume_format.specs.Table.{all_extents, no_entry}

pub extents-set : (entries : List FileInfo) (i : ℕ) (e : FileInfo) → i < length entries
    → length (all_extents (set entries i e)) ≡ length (all_extents (remove entries i)) + length e.extents
extents-set entries i e there =
    let count : FileInfo → ℕ = λ (f : FileInfo). length f.extents in
    omega (
      arith,
      sum_by-set count entries i e no_entry there,
      sum_by-remove count entries i no_entry there,
      length-flat_map (λ (f : FileInfo). f.extents) (set entries i e),
      length-flat_map (λ (f : FileInfo). f.extents) (remove entries i),
    )

pub extents-insert : (entries : List FileInfo) (i : ℕ) (e : FileInfo) → length (all_extents (insert entries i e)) ≡ length (all_extents entries) + length e.extents
extents-insert entries i e =
    omega (
      arith,
      sum_by-insert (λ (f : FileInfo). length f.extents) entries i e,
      length-flat_map (λ (f : FileInfo). f.extents) (insert entries i e),
      length-flat_map (λ (f : FileInfo). f.extents) entries,
    )

-- The extents of the files up to one more.
pub extents-more : (entries : List FileInfo) (i : ℕ) → i < length entries → all_extents (take (i + 1) entries) ≡ all_extents (take i entries) ++ (get_or entries i no_entry).extents
extents-more entries i there =
    ap all_extents (take_more entries i no_entry there)
    ∙ flat_map-append (λ (f : FileInfo). f.extents) (take i entries) (get_or entries i no_entry ∷ [])
    ∙ ap (λ (es : List Extent). all_extents (take i entries) ++ es) (append-nil (get_or entries i no_entry).extents)

-- How many these are.
pub record Counts (entries : List FileInfo) (i : ℕ) (e : FileInfo) : Type 0 where
  pub more : length (all_extents (take (i + 1) entries)) ≡ length (all_extents (take i entries)) + length e.extents
  pub within : length (all_extents (take i entries)) + length e.extents ≤ length (all_extents entries)

pub counts : (entries : List FileInfo) (i : ℕ) (e : FileInfo) → i < length entries → e ≡ get_or entries i e → Counts entries i e
counts entries i e there is =
    let same : length e.extents ≡ length (get_or entries i no_entry).extents = ap (λ (f : FileInfo). length f.extents) (get_or_read entries i e there is no_entry) in
    record {
      more =
          ap length (extents-more entries i there) ∙ length-append (all_extents (take i entries)) (get_or entries i no_entry).extents
          ∙ ap (λ (n : ℕ). length (all_extents (take i entries)) + n) (sym same);
      within = omega (arith, same, length-flat_map-take (λ (f : FileInfo). f.extents) entries i no_entry there);
    }
