-- What the disks hold once the kernel is closed: each block of theirs is accounted for, from the start on.
use Rattle.std.proofs.Common.{◌≡◌, ◌≢◌, ℕ, zero, suc, ◌<◌, ◌≤◌, Bool, cond, List, [], ◌∷◌, length, Option, Some, refl, sym, ap, ◌∙◌, inl, inr, subst, arith}
use Rattle.std.specs.Prelude.{option_and_then, option_map, slice_get, slice_index_or}
use Rattle.std.proofs.lemmas.Bool.{eq-eqb, ne_eqb}
use Rattle.std.proofs.lemmas.List.{length-map}
use Rattle.std.proofs.lemmas.Option.{none-some, same_Some, slice_get_within}
use Rattle.volume_files.specs.block_device.DiskSeen.{DiskSeen}
use Rattle.vm_core.specs.page_hash.declared.PageName.{PageName}
use Rattle.vm_core.specs.page_store.Bays.{BaySeen, bay_at, block_of, home}
use Rattle.vm_core.specs.page_store.Notes.{no_notes}
use Rattle.vm_core.specs.page_store.Value.{content_in_bay, content_of}
use Rattle.volume_files.specs.vm_types.declared.call.Entry.{Entry}
use Rattle.volume_files.specs.flat_model.Flat.{Flat}
use Rattle.volume_files.specs.flat_model.History.{replay}
use Rattle.vm_core.specs.kernel_close.Finish.{disk_at, disks_of}
use Rattle.vm_core.specs.kernel_close.LeftMarks.{LeavesMarks, contents_by_number, disk_by_number, moment_left}
use Rattle.vm_core.specs.vm_world.DiskPlaces.{faults_in}
use Rattle.vm_core.specs.vm_world.Events.{IsSince, moment_of}
use Rattle.vm_core.specs.vm_world.FlatMemory.{flat_memory}
use Rattle.vm_core.specs.vm_world.HistoryFits.{HistoryFits}
use Rattle.vm_core.specs.vm_world.Opening.{IsOpening, no_seats}
use Rattle.vm_core.specs.vm_world.State.{KernelState}
use Rattle.vm_core.specs.vm_world.StateFits.{StateFits}
use Rattle.vm_core.specs.vm_world.World.{AllTell}
use Rattle.vm_core.specs.vm_world.mark_laws.AccountLaws.{AccountsFor}
use Rattle.vm_core.specs.vm_world.mark_laws.HeldBlocks.{HoldsHistory}
use Rattle.vm_core.specs.vm_world.mark_laws.Pages.{disk_place}
use Rattle.vm_core.proofs.kernel_close.Fills.{number-of}
use Rattle.vm_core.proofs.vm_world.OpeningFits.{opening-sure}
use Rattle.vm_core.proofs.vm_world.Places.{kept-there}
use Rattle.vm_core.proofs.mark_laws.Accounts.{accounts_rule}
use Rattle.volume_files.specs.Attached.{bare_disks}
use Rattle.volume_files.specs.Handed.{HaveTold}
use Rattle.run_kernel.specs.Played.{HoldTheHistory, KeepFirstBlocks, LeftSeen}
use Rattle.run_kernel.proofs.FileRecords.{history-left}
use Rattle.run_kernel.proofs.Returned.{Closes, all-tell, are-left, at-place, home-there, kept, long-old, number-same, within-new}

-- a disk of a list, by its number, where no other has that
found-here : (y : ℕ × DiskSeen) (ys : List (ℕ × DiskSeen)) → disk_by_number (y ∷ ys) y.0 ≡ Some y.1
found-here y ys = ap (λ (b : Bool). cond b (Some y.1) (disk_by_number ys y.0)) (eq-eqb y.0 y.0 refl)

by-number : (disks : List (ℕ × DiskSeen)) (i : ℕ) (d : ℕ × DiskSeen) → slice_get disks i ≡ Some d
    → ((j k : ℕ) → j < length disks → k < length disks → (disk_at disks j).0 ≡ (disk_at disks k).0 → j ≡ k) → disk_by_number disks d.0 ≡ Some d.1
by-number [] i d at apart = absurd (none-some d at)
by-number (x ∷ xs) zero d at apart = by_first (same_Some x d at)
  where
    by_first : x ≡ d → disk_by_number (x ∷ xs) d.0 ≡ Some d.1
    by_first same = subst (λ (y : ℕ × DiskSeen). disk_by_number (x ∷ xs) y.0 ≡ Some y.1) same (found-here x xs)
by-number (x ∷ xs) (suc i) d at apart =
    let lt = slice_get_within xs i d at in
    let far : x.0 ≢ d.0 = λ same. (let z : 0 ≡ suc i = apart 0 (suc i) (omega arith) (omega (arith, lt)) (same ∙ ap (λ (y : ℕ × DiskSeen). y.0) (sym (at-place xs i d at))) in omega (arith, z)) in
    ap (λ (b : Bool). cond b (Some x.1) (disk_by_number xs d.0)) (ne_eqb x.0 d.0 far)
    ∙ by-number xs i d at (λ j k a b same. let z = apart (suc j) (suc k) (omega (arith, a)) (omega (arith, b)) same in omega (arith, z))

module _ (F : Flat) (s t : KernelState) (l : LeftSeen) (since : IsSince s t no_seats) (before : StateFits F s no_seats) (c : Closes t l) (told : HaveTold (bare_disks l.disks) l.swap) where
  after : StateFits F t no_seats
  after = since.fits F before

  tell : AllTell t.memory.world no_notes
  tell = all-tell F s t l since before c told

  fits : HistoryFits F t.history t.pending (flat_memory t.memory t.born no_notes)
  fits = history-left F s t l since before c told

  left : LeavesMarks F t l.disks l.fault
  left = c.marks F after tell

  -- a page that a file keeps lies past block 0
  pub places-left : (name : PageName) (disk block : ℕ) → disk_place (replay F l.history.entries) name ≡ Some (disk, block) → 1 ≤ block
  places-left = subst (λ (entries : List Entry). (name : PageName) (disk block : ℕ) → disk_place (replay F entries) name ≡ Some (disk, block) → 1 ≤ block) (sym c.entries) (λ name disk block at.
      let place = kept-there t.memory t.born no_notes F t.history t.pending fits name disk block at in after.memory.files.low name place.0 block place.1)

  -- A DISK THAT CAME BACK
  module _ (i : ℕ) (d e : ℕ × DiskSeen) (given now : List (List ℕ)) (at : slice_get (disks_of s.memory.world) i ≡ Some d) (there : slice_get l.disks i ≡ Some e)
      (was : d.1.content ≡ Some given) (is : e.1.content ≡ Some now) where
    within : i < length (disks_of t.memory.world)
    within = within-new F s t l since before c i e there

    started : bay_at s.memory.world.store.bays e.0 ≡ home d.1
    started =
        let first = at-place (disks_of s.memory.world) i d at in
        let long = long-old F s t l since before c in
        let number : e.0 ≡ d.0 = (kept F s t l since before c i e there).number ∙ number-same F s t l since before c i within ∙ ap (λ (x : ℕ × DiskSeen). x.0) first in
        ap (bay_at s.memory.world.store.bays) number
        ∙ subst (λ (x : ℕ × DiskSeen). bay_at s.memory.world.store.bays x.0 ≡ home x.1) first
        (home-there s.memory.world s.memory.spaces i before.memory before.notes (let lt = within in omega (arith, lt, long)))

    found : disk_by_number l.disks e.0 ≡ Some e.1
    found = by-number l.disks i e there (λ j k a b same.
        let n = length-map l.disks (λ (it : ℕ × DiskSeen). it.0) in
        (are-left F s t l since before c).numbers.apart j k (omega (arith, a, n)) (omega (arith, b, n)) (number-of l.disks j ∙ same ∙ sym (number-of l.disks k)))

    low : e.0 < 8
    low =
        let lt = slice_get_within l.disks i e there in
        let n = length-map l.disks (λ (it : ℕ × DiskSeen). it.0) in
        subst (λ (k : ℕ). k < 8) (number-of l.disks i ∙ ap (λ (x : ℕ × DiskSeen). x.0) (at-place l.disks i e there)) ((are-left F s t l since before c).numbers.below i (omega (arith, lt, n)))

    accounts : AccountsFor F (moment_of s no_notes) (moment_left t l.disks left.marks)
    accounts = accounts_rule.and_then F (moment_of s no_notes) (moment_of t no_notes) (moment_left t l.disks left.marks) (since.accounts F before tell).1 left.accounts

    had : content_of s.memory.world.store no_notes e.0 ≡ Some given
    had = ap (λ (b : BaySeen). content_in_bay b no_notes) started ∙ was

    has : contents_by_number l.disks e.0 ≡ Some now
    has = ap (option_and_then (λ (x : DiskSeen). x.content)) found ∙ is

    held : IsOpening s → HoldsHistory F t.history e.0 e.1.faults given now
    held opens =
        accounts_rule.leaves F (moment_of s no_notes) (moment_left t l.disks left.marks) e.0 d.1.faults e.1.faults given now accounts left.fits low
        (ap (λ (b : BaySeen). faults_in b no_notes) started) (ap (option_map (λ (x : DiskSeen). x.faults)) found) (opening-sure s opens e.0) had has

    -- no file keeps block 0
    no-first : (name : PageName) → disk_place (replay F t.history) name ≢ Some (e.0, 0)
    no-first name at = let past = subst (λ (H : List Entry). disk_place (replay F H) name ≡ Some (e.0, 0) → 1 ≤ 0) c.entries (places-left name e.0 0) at in omega (arith, past)

    first : slice_index_or now 0 [] ≡ slice_index_or given 0 []
    first = elim (accounts.each e.0 0 low (λ failed. let k = accounts.kept e.0 0 failed in no-first k.0 k.1)) [
      | inl same ↦ sym (ap (λ (o : Option (List (List ℕ))). block_of o 0) has) ∙ same ∙ ap (λ (o : Option (List (List ℕ))). block_of o 0) had
      | inr page ↦ absurd (no-first page.0 page.1)
    ]

  pub first-left : KeepFirstBlocks (disks_of s.memory.world) l.disks
  first-left = first

  -- EACH DISK HOLDS THE HISTORY.
  pub held-left : IsOpening s → HoldTheHistory F l.history.entries (disks_of s.memory.world) l.disks
  held-left opens = subst (λ (H : List Entry). HoldTheHistory F H (disks_of s.memory.world) l.disks) (sym c.entries) (λ i d e given now at there was is. held i d e given now at there was is opens)
