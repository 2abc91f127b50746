-- THE FILES OF THE TRIALS lie on their two disks.
use Rattle.std.proofs.Common.{◌≡◌, ℕ, zero, suc, ◌<◌, ◌≤◌, ◌==◌, Bool, true, false, List, [], ◌∷◌, length, Option, Some, None, refl, sym, ap, ◌∙◌, subst, arith}
use Rattle.std.specs.Prelude.{IsSome, is_some, slice_get, slice_index, unwrap_or, count_by, if◌then◌else◌}
use Rattle.std.specs.Ordering.{nat_cmp}
use Rattle.std.specs.FinMap as finite
use Rattle.std.specs.List.{flat_map}
use Rattle.std.specs.Option.{option_map_or}
use Rattle.std.proofs.lemmas.Bool.{ne_eqb}
use Rattle.std.proofs.lemmas.List.Elements.{All-nil, All-cons}
use Rattle.std.proofs.lemmas.List.Sums.{count_by-le-length}
use Rattle.block_device.specs.DiskSeen.{DiskSeen}
use Rattle.vnode_files.specs.declared.extent.Extent.{Extent}
use Rattle.vnode_files.specs.declared.extent.TheConstants.{MOST_EXTENTS}
use Rattle.vnode_files.specs.Files.{FilesSeen, no_files, vnode_at, block_count, extents_on}
use Rattle.vnode_files.specs.Vnode.{VnodeSeen, fresh_vnode}
use Rattle.vnode_files.specs.Grow.{has_block, extent_end}
use Rattle.vnode_files.specs.Layout.{LieOnDisk, LieOnDisks, NoneMeet}
use Rattle.seg_ops.specs.page_store.Bays.{AreNumbers, numbers_of, pairs_seen}
use Rattle.flat_model.proofs.Ranges.{get-insert_here, get-insert_apart}
use Rattle.vm_core.specs.Setup.{FilesOnDisks, ListsDisk}
use Rattle.test_acts.specs.Trials.{trial_file, trial_files, trial_disks}

abbrev none : finite.FinMap nat_cmp ℕ
none = no_files.disks

abbrev one : finite.FinMap nat_cmp ℕ
one = finite.insert none 0 16

pub first-set : finite.get trial_disks.disks 0 ≡ Some 16
first-set = get-insert_apart one 1 16 0 (λ e. absurd (omega (arith, e))) ∙ get-insert_here none 0 16

pub second-set : finite.get trial_disks.disks 1 ≡ Some 16
second-set = get-insert_here one 1 16

-- the disks that were set, with their blocks
set-disks : (number blocks : ℕ) → finite.get trial_disks.disks number ≡ Some blocks → (number < 2) × (16 ≡ blocks)
set-disks zero blocks is = (omega arith, let e : ◌≡◌ {A = Option ℕ} (Some 16) (Some blocks) = sym first-set ∙ is in cc)
set-disks (suc zero) blocks is = (omega arith, let e : ◌≡◌ {A = Option ℕ} (Some 16) (Some blocks) = sym second-set ∙ is in cc)
set-disks (suc (suc n)) blocks is = absurd (
    let e : ◌≡◌ {A = Option ℕ} None (Some blocks) =
    sym (get-insert_apart one 1 16 (suc (suc n)) (λ q. absurd (omega (arith, q))) ∙ get-insert_apart none 0 16 (suc (suc n)) (λ q. absurd (omega (arith, q))) ∙ finite.get-empty nat_cmp (suc (suc n))) ∙ is in cc)

on-disk : (disk pages : ℕ) → finite.get trial_disks.disks disk ≡ Some 16 → 1 ≤ pages → pages ≤ 15 → LieOnDisk (block_count trial_disks.disks disk) (record { start = 1; pages = pages } ∷ [])
on-disk disk pages is some few =
    subst (λ (n : ℕ). LieOnDisk n (record { start = 1; pages = pages } ∷ [])) (sym (ap (λ (o : Option ℕ). unwrap_or o 0) is))
    (record {
      some = All-cons (λ (e : Extent). 1 ≤ e.pages) _ [] some (All-nil _);
      within = All-cons (λ (e : Extent). (1 ≤ e.start) × (extent_end e ≤ 16)) _ [] (omega arith, omega (arith, few)) (All-nil _);
      gaps = tt;
    })

module _ (a b : List ℕ) where
  abbrev first_vnode : VnodeSeen
  first_vnode = fresh_vnode (trial_file a 0 8 28677 true)

  abbrev second_vnode : VnodeSeen
  second_vnode = fresh_vnode (trial_file b 1 2 4101 false)

  abbrev files : FilesSeen
  files = trial_files (trial_file a 0 8 28677 true) (trial_file b 1 2 4101 false)

  -- a disk without files has no extents
  abbrev kept : Bool → Bool → List Extent
  kept on_first on_second =
      let last = if on_second then second_vnode ∷ [] else [] in
      flat_map (λ (v : VnodeSeen). v.info.extents) (if on_first then first_vnode ∷ last else last)

  no-extents : (n : ℕ) → extents_on (suc (suc n)) files.files ≡ []
  no-extents n =
      ap (λ (b : Bool). kept b (1 == suc (suc n))) (ne_eqb 0 (suc (suc n)) (λ e. absurd (omega (arith, e))))
      ∙ ap (kept false) (ne_eqb 1 (suc (suc n)) (λ e. absurd (omega (arith, e))))

  set : (file : ℕ) → file < 2 → IsSome (finite.get files.disks (vnode_at files file).info.disk)
  set zero lt = subst (λ (o : Option ℕ). IsSome o) (sym first-set) refl
  set (suc zero) lt = subst (λ (o : Option ℕ). IsSome o) (sym second-set) refl
  set (suc (suc k)) lt = absurd (omega (arith, lt))

  abbrev lies : VnodeSeen → Type 0
  lies v = LieOnDisk (block_count trial_disks.disks v.info.disk) v.info.extents

  lie : LieOnDisks files
  lie =
      All-cons lies first_vnode (second_vnode ∷ []) (on-disk 0 8 first-set (omega arith) (omega arith))
      (All-cons lies second_vnode [] (on-disk 1 2 second-set (omega arith) (omega arith)) (All-nil lies))

  apart : (disk : ℕ) → NoneMeet (extents_on disk files.files)
  apart zero = λ block. count_by-le-length (has_block block) (record { start = 1; pages = 8 } ∷ [])
  apart (suc zero) = λ block. count_by-le-length (has_block block) (record { start = 1; pages = 2 } ∷ [])
  apart (suc (suc n)) = λ block.
      subst (λ (l : List Extent). count_by (has_block block) l ≤ 1) (sym (no-extents n)) (omega arith)

  -- each disk's table has room for them
  pub few-extents : (disk : ℕ) → length (extents_on disk files.files) ≤ MOST_EXTENTS
  few-extents zero = omega arith
  few-extents (suc zero) = omega arith
  few-extents (suc (suc n)) =
      subst (λ (l : List Extent). length l ≤ MOST_EXTENTS) (sym (no-extents n)) (omega arith)

  pub some-extent : (file : ℕ) → file < 2 → 1 ≤ length (vnode_at files file).info.extents
  some-extent zero lt = omega arith
  some-extent (suc zero) lt = omega arith
  some-extent (suc (suc k)) lt = absurd (omega (arith, lt))

  pub on-disks : {D : Type 0} (seen : D → DiskSeen) (disks : List (ℕ × D)) (d e : D) → disks ≡ (0, d) ∷ (1, e) ∷ [] → (seen d).size ≡ 16 → (seen e).size ≡ 16 → FilesOnDisks files (pairs_seen seen disks)
  on-disks seen disks d e is first second = subst (λ (l : List (ℕ × _)). FilesOnDisks files (pairs_seen seen l)) (sym is) (record {
    set = set;
    there = λ number blocks at. let s = set-disks number blocks at in lists number blocks s.0 s.1;
    all = each-set;
    small = λ number blocks at. let few = (set-disks number blocks at).1 in omega (arith, few);
    lie = lie;
    apart = apart;
    few = few-extents;
    some = some-extent;
  })
    where
      each-set : (place number : ℕ) (disk : DiskSeen) → slice_get {X = ℕ × DiskSeen} ((0, seen d) ∷ (1, seen e) ∷ []) place ≡ Some (number, disk) → IsSome (finite.get trial_disks.disks number)
      each-set zero number disk at = subst (λ (n : ℕ). IsSome (finite.get trial_disks.disks n)) (ap (λ (o : Option (ℕ × DiskSeen)). option_map_or (λ (x : ℕ × DiskSeen). x.0) o 0) at) (ap is_some first-set)
      each-set (suc zero) number disk at = subst (λ (n : ℕ). IsSome (finite.get trial_disks.disks n)) (ap (λ (o : Option (ℕ × DiskSeen)). option_map_or (λ (x : ℕ × DiskSeen). x.0) o 1) at) (ap is_some second-set)
      each-set (suc (suc k)) number disk at = absurd (let z : ◌≡◌ {A = Option (ℕ × DiskSeen)} None (Some (number, disk)) = at in cc)

      lists : (number blocks : ℕ) → number < 2 → 16 ≡ blocks → ListsDisk (pairs_seen seen ((0, d) ∷ (1, e) ∷ [])) number blocks
      lists zero blocks lt is = record { place = 0; disk = seen d; there = refl; size = first ∙ is }
      lists (suc zero) blocks lt is = record { place = 1; disk = seen e; there = refl; size = second ∙ is }
      lists (suc (suc n)) blocks lt is = absurd (omega (arith, lt))

pub is-set : (f : FilesSeen) (disk number : ℕ) → f.disks ≡ trial_disks.disks → disk ≡ number → finite.get trial_disks.disks number ≡ Some 16 → IsSome (finite.get f.disks disk)
is-set f disk number same is set = subst (λ (o : Option ℕ). IsSome o) (sym (ap (λ (m : finite.FinMap nat_cmp ℕ). finite.get m disk) same ∙ ap (finite.get trial_disks.disks) is ∙ set)) refl

-- no file needs no disk
pub none-on-disks : FilesOnDisks no_files []
none-on-disks = record {
  set = λ file lt. absurd (omega (arith, lt));
  there = λ number blocks at. absurd (let e : ◌≡◌ {A = Option ℕ} None (Some blocks) = sym (finite.get-empty nat_cmp number) ∙ at in cc);
  all = λ place number disk at. absurd (let e : ◌≡◌ {A = Option (ℕ × DiskSeen)} None (Some (number, disk)) = at in cc);
  small = λ number blocks at. absurd (let e : ◌≡◌ {A = Option ℕ} None (Some blocks) = sym (finite.get-empty nat_cmp number) ∙ at in cc);
  lie = All-nil _;
  apart = λ disk block. omega arith;
  few = λ disk. omega arith;
  some = λ file lt. absurd (omega (arith, lt));
}
