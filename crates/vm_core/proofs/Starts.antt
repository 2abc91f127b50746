-- The state at the start is one at the opening.
use Rattle.std.proofs.Common.{◌≡◌, ◌≢◌, ℕ, zero, suc, ◌+◌, ◌<◌, ◌≤◌, ◌==◌, Bool, true, false, cond, List, [], ◌∷◌, length, map, replicate, Option, Some, None, refl, sym, ap, ◌∙◌, inl, inr, subst, arith}
use Rattle.std.specs.Prelude.{◌⊎◌, IsSome, IfSome, filter, is_some, option_map, slice_get, slice_index, slice_index_or, slice_set}
use Rattle.std.specs.Ordering.{nat_cmp}
use Rattle.std.specs.FinMap as finite
use Rattle.std.specs.FinSet as set
use Rattle.std.proofs.lemmas.Bool.{cases_eq}
use Rattle.std.proofs.lemmas.List.{length-map, length-replicate}
use Rattle.std.proofs.lemmas.Option.{slice_get-map, slice_get_within}
use Rattle.fault_entry.specs.addr_space.Space.{Part}
use Rattle.fault_entry.specs.anon_slots.Slots.{AnonSlotsSeen, unused_slots, IsSoundAnonSlots}
use Rattle.fault_entry.specs.block_device.DiskSeen.{DiskSeen}
use Rattle.fault_entry.specs.core_arena.Bytes.{zeros}
use Rattle.fault_entry.specs.flat_model.Counted.{top_count}
use Rattle.fault_entry.specs.hat_layer.declared.translation.Translation.{Translation}
use Rattle.fault_entry.specs.page_hash.declared.PageName.{PageName}
use Rattle.fault_entry.specs.page_lock.Rows.{row_at, clear_row}
use Rattle.fault_entry.specs.page_lock.declared.Row.{Row}
use Rattle.fault_entry.specs.page_store.Away.{is_disk}
use Rattle.fault_entry.specs.page_store.Bays.{BaySeen, missing, home, out, bay_at, bay_of, numbers_of, pairs_seen, AreNumbers, IsStill, no_disk}
use Rattle.fault_entry.specs.page_store.Layout.{FileBlocks, KeepsPage}
use Rattle.fault_entry.specs.page_store.New.{IsNew, AreHome}
use Rattle.fault_entry.specs.page_store.Seen.{StoreSeen, IsSoundStore}
use Rattle.fault_entry.specs.vnode_files.Files.{FilesSeen, vnode_at, block_count}
use Rattle.fault_entry.specs.vnode_files.Grow.{page_count}
use Rattle.fault_entry.specs.vnode_files.Layout.{disk_of_file}
use Rattle.fault_entry.specs.vnode_files.Vnode.{VnodeSeen, no_vnode, page_blocks, block_at, IsSoundVnode}
use Rattle.fault_entry.proofs.vnode_files.BlockLemmas.{length-page_blocks}
use Rattle.fault_entry.proofs.vnode_files.LayoutLaws.{file_layout_law}
use Rattle.fault_entry.specs.vm_world.FramesFit.{FilesFit, DisksFit}
use Rattle.fault_entry.specs.vm_world.Marks.{AreOpeningMarks}
use Rattle.fault_entry.specs.vm_world.Opening.{IsOpening}
use Rattle.fault_entry.specs.vm_world.Segments.{Spaces}
use Rattle.fault_entry.specs.vm_world.State.{KernelState, is_top}
use Rattle.fault_entry.specs.vm_world.declared.segment.Segment.{Segment}
use Rattle.fault_entry.specs.vm_world.World.{file_blocks, file_name}
use Rattle.fault_entry.specs.vm_world.ZeroObjects.{KnowsZeros}
use Rattle.fault_entry.proofs.vm_world.PageNames.{index-of}
use Rattle.fault_entry.proofs.vm_world.Spaces.{EmptySpaces, empty-zeros}
use Rattle.fault_entry.specs.vm_world.declared.sync_start.SyncStart.{SyncStart}
use Rattle.vm_core.specs.Setup.{disk_total, FilesOnDisks, ListsDisk, SwapServes, HaveCounted}
use Rattle.vm_core.specs.State.{top_space, EachHasPlaces, IsSoundKernel}

pub at-replicate : {X : Type 0} (n k : ℕ) (x : X) → slice_index_or (replicate n x) k x ≡ x
at-replicate zero k x = refl
at-replicate (suc n) zero x = refl
at-replicate (suc n) (suc k) x = at-replicate n k x

-- DISKS by their numbers.
IsIn : ℕ → List ℕ → Type 0
IsIn k [] = ⊥
IsIn k (n ∷ ns) = (k ≡ n) ⊎ IsIn k ns

-- at a place of the list
number-at : (disks : List (ℕ × DiskSeen)) (i : ℕ) (d : ℕ × DiskSeen) → i < length disks → slice_index (numbers_of disks) i ≡ (slice_index_or disks i d).0
number-at [] i d lt = absurd (omega (arith, lt))
number-at (x ∷ xs) zero d lt = refl
number-at (x ∷ xs) (suc i) d lt = number-at xs i d (omega (arith, lt))

record HasPlace (disks : List (ℕ × DiskSeen)) (number : ℕ) : Type 0 where
  place : ℕ
  within : place < length disks
  is : slice_index (numbers_of disks) place ≡ number

find-number : (disks : List (ℕ × DiskSeen)) (number : ℕ) → HasPlace disks number ⊎ ((i : ℕ) → i < length disks → slice_index (numbers_of disks) i ≢ number)
find-number [] number = inr (λ i lt. absurd (omega (arith, lt)))
find-number (x ∷ xs) number = elim (cases_eq x.0 number) [
  | inl same ↦ inl (record { place = 0; within = omega arith; is = same })
  | inr ne ↦ elim (find-number xs number) [
    | inl h ↦ inl (record { place = suc h.place; within = let w = h.within in omega (arith, w); is = h.is })
    | inr none ↦ inr (by_place ne none)
  ]
]
  where
    by_place : x.0 ≢ number → ((i : ℕ) → i < length xs → slice_index (numbers_of xs) i ≢ number) → (i : ℕ) → i < length (x ∷ xs) → slice_index (numbers_of (x ∷ xs)) i ≢ number
    by_place ne none zero lt = ne
    by_place ne none (suc i) lt = none i (omega (arith, lt))

is-in : (disks : List (ℕ × DiskSeen)) (i number : ℕ) → i < length disks → slice_index (numbers_of disks) i ≡ number → IsIn number (numbers_of disks)
unfolding IsIn
is-in [] i number lt is = absurd (omega (arith, lt))
is-in (x ∷ xs) zero number lt is = inl (sym is)
is-in (x ∷ xs) (suc i) number lt is = inr (is-in xs i number (omega (arith, lt)) is)

-- One bay less.
one-less : (bays : List BaySeen) (m : ℕ) → length (filter is_disk bays) ≤ suc (length (filter is_disk (slice_set bays m missing)))
one-less [] m = omega arith
one-less (missing ∷ bays) zero = omega arith
one-less (home d ∷ bays) zero = omega arith
one-less (out t ∷ bays) zero = omega arith
one-less (missing ∷ bays) (suc m) = one-less bays m
one-less (home d ∷ bays) (suc m) = let r = one-less bays m in omega (arith, r)
one-less (out t ∷ bays) (suc m) = let r = one-less bays m in omega (arith, r)

gone-there : (bays : List BaySeen) (m k : ℕ) → is_disk (bay_at (slice_set bays m missing) k) ≡ true → (k ≢ m) × (is_disk (bay_at bays k) ≡ true)
gone-there [] m k h = absurd (let z : false ≡ true = h in cc)
gone-there (b ∷ bays) zero zero h = absurd (let z : false ≡ true = h in cc)
gone-there (b ∷ bays) zero (suc k) h = (λ e. absurd (omega (arith, e)), h)
gone-there (b ∷ bays) (suc m) zero h = (λ e. absurd (omega (arith, e)), h)
gone-there (b ∷ bays) (suc m) (suc k) h = let r = gone-there bays m k h in (λ e. r.0 (omega (arith, e)), r.1)

no-disks : (bays : List BaySeen) → ((k : ℕ) → is_disk (bay_at bays k) ≡ true → ⊥) → length (filter is_disk bays) ≡ 0
no-disks [] none = refl
no-disks (missing ∷ bays) none = no-disks bays (λ k. none (suc k))
no-disks (home d ∷ bays) none = absurd (none 0 refl)
no-disks (out t ∷ bays) none = absurd (none 0 refl)

-- There are no more disks than numbers of them.
at-most : (numbers : List ℕ) (bays : List BaySeen) → ((k : ℕ) → is_disk (bay_at bays k) ≡ true → IsIn k numbers) → length (filter is_disk bays) ≤ length numbers
unfolding IsIn
at-most [] bays each = let z = no-disks bays each in omega (arith, z)
at-most (n ∷ ns) bays each =
    let less = one-less bays n in
    let rest = at-most ns (slice_set bays n missing) (λ k h. let r = gone-there bays n k h in elim (each k r.1) [ inl same ↦ absurd (r.0 same) | inr more ↦ more ]) in
    omega (arith, less, rest)

swap-numbers : Option DiskSeen → List ℕ → List ℕ
swap-numbers None ns = ns
swap-numbers (Some d) ns = 8 ∷ ns

-- HOW MANY DISKS there are at the start.
pub count-disks : (bays : List BaySeen) (disks : List (ℕ × DiskSeen)) (swap : Option DiskSeen) → AreHome bays disks swap → length (filter is_disk bays) ≤ disk_total disks swap
unfolding swap-numbers IsIn
count-disks bays disks swap h = by_swap swap h.swap
  where
    below : (number : ℕ) → number ≢ 8 → is_disk (bay_at bays number) ≡ true → IsIn number (numbers_of disks)
    below number ne is = elim (find-number disks number) [
      | inl p ↦ is-in disks p.place number p.within p.is
      | inr none ↦ absurd (let z : false ≡ true = sym (ap is_disk (h.others number ne none)) ∙ is in cc)
    ]

    count : length (numbers_of disks) ≡ length disks
    count = length-map disks (λ (d : ℕ × DiskSeen). d.0)

    by_swap : (o : Option DiskSeen) → bay_at bays 8 ≡ bay_of o → length (filter is_disk bays) ≤ length disks + cond (is_some o) 1 0
    by_swap None no_swap = let most = at-most (numbers_of disks) bays (λ k is. elim (cases_eq k 8) [ inl same ↦ absurd (let z : false ≡ true = sym (ap is_disk no_swap) ∙ ap (λ (i : ℕ). is_disk (bay_at bays i)) (sym same) ∙ is in cc) | inr ne ↦ below k ne is ]) in omega (arith, most, count)
    by_swap (Some d) has_swap = let most = at-most (8 ∷ numbers_of disks) bays (λ k is. elim (cases_eq k 8) [ inl same ↦ inl same | inr ne ↦ inr (below k ne is) ]) in omega (arith, most, count)

-- a disk of the list is home
pub disk-home : (bays : List BaySeen) (disks : List (ℕ × DiskSeen)) (swap : Option DiskSeen) (place number : ℕ) (disk : DiskSeen) → AreHome bays disks swap → slice_get disks place ≡ Some (number, disk) → bay_at bays number ≡ home disk
disk-home bays disks swap place number disk h at =
    let same = index-of disks place (number, disk) (number, disk) at in
    subst (λ (d : ℕ × DiskSeen). bay_at bays d.0 ≡ home d.1) same (h.each place (number, disk) (slice_get_within disks place (number, disk) at))

-- No disk's count is past the end of counts.
counts-most : (bays : List BaySeen) (disks : List (ℕ × DiskSeen)) (swap : Option DiskSeen) → AreHome bays disks swap → HaveCounted disks → IfSome swap (λ d. d.faults ≤ top_count)
    → (number : ℕ) (d : DiskSeen) → bay_at bays number ≡ home d → d.faults ≤ top_count
counts-most bays disks swap h counted swap_counted number d is = elim (cases_eq number 8) [
  | inl same ↦ by_swap swap swap_counted (sym h.swap ∙ ap (bay_at bays) (sym same) ∙ is)
  | inr ne ↦ elim (find-number disks number) [
    | inl p ↦
        let at = h.each p.place (number, d) p.within in
        let its : bay_at bays number ≡ home (slice_index_or disks p.place (number, d)).1 = ap (bay_at bays) (sym p.is ∙ number-at disks p.place (number, d) p.within) ∙ at in
        subst (λ (x : DiskSeen). x.faults ≤ top_count) (one (slice_index_or disks p.place (number, d)).1 d (sym its ∙ is)) (counted p.place (number, d) p.within)
    | inr none ↦ absurd (let z : missing ≡ home d = sym (h.others number ne none) ∙ is in cc)
  ]
]
  where
    one : (x y : DiskSeen) → home x ≡ home y → x ≡ y
    one x y e = cc

    by_swap : (o : Option DiskSeen) → IfSome o (λ x. x.faults ≤ top_count) → bay_of o ≡ home d → d.faults ≤ top_count
    by_swap None c e = absurd (let z : missing ≡ home d = e in cc)
    by_swap (Some x) c e = subst (λ (y : DiskSeen). y.faults ≤ top_count) (one x d e) c

-- FILES. What the table of places sees of a kept page is the file's.
record IsPageOf (files : FilesSeen) (name : PageName) (file : FileBlocks) (block : ℕ) : Type 0 where
  within : name.object < length files.files
  is : file ≡ file_blocks (vnode_at files name.object)
  below : name.page < page_count (vnode_at files name.object).info.extents
  at : block_at (vnode_at files name.object).info.extents name.page ≡ block

page-of : (files : FilesSeen) (name : PageName) (file : FileBlocks) (block : ℕ) → KeepsPage (map file_blocks files.files) name file block → IsPageOf files name file block
page-of files name file block k = by_file (slice_get files.files name.object) refl (sym (slice_get-map file_blocks files.files name.object) ∙ k.number)
  where
    by_file : (o : Option VnodeSeen) → slice_get files.files name.object ≡ o → option_map file_blocks o ≡ Some file → IsPageOf files name file block
    by_file None e h = absurd (let z : ◌≡◌ {A = Option FileBlocks} None (Some file) = h in cc)
    by_file (Some v) e h =
        let same : v ≡ vnode_at files name.object = sym (index-of files.files name.object no_vnode v e) in
        let its : file ≡ file_blocks (vnode_at files name.object) = (let z : file ≡ file_blocks v = (let w : Some (file_blocks v) ≡ Some file = h in cc) in z) ∙ ap file_blocks same in
        let place : slice_get (page_blocks (vnode_at files name.object).info.extents) name.page ≡ Some block = subst (λ (f : FileBlocks). slice_get f.blocks name.page ≡ Some block) its k.place in
        let lt = slice_get_within (page_blocks (vnode_at files name.object).info.extents) name.page block place in
        let count = length-page_blocks (vnode_at files name.object).info.extents in
        record {
          within = slice_get_within files.files name.object v e;
          is = its;
          below = omega (arith, lt, count);
          at = index-of (page_blocks (vnode_at files name.object).info.extents) name.page 0 block place;
        }

set-there : (files : FilesSeen) (disks : List (ℕ × DiskSeen)) (number : ℕ) → FilesOnDisks files disks → IsSome (finite.get files.disks number) → (blocks : ℕ) × (finite.get files.disks number ≡ Some blocks)
set-there files disks number f some = by_option (finite.get files.disks number) refl some
  where
    by_option : (o : Option ℕ) → finite.get files.disks number ≡ o → IsSome o → (blocks : ℕ) × (finite.get files.disks number ≡ Some blocks)
    by_option None e h = absurd (let z : false ≡ true = h in cc)
    by_option (Some b) e h = (b, e)

pub below-eight : (disks : List (ℕ × DiskSeen)) (number blocks : ℕ) → AreNumbers (numbers_of disks) → ListsDisk disks number blocks → number < 8
below-eight disks number blocks numbers d =
    let lt = slice_get_within disks d.place (number, d.disk) d.there in
    let same : slice_index (numbers_of disks) d.place ≡ number = number-at disks d.place (number, d.disk) lt ∙ ap (λ (x : ℕ × DiskSeen). x.0) (index-of disks d.place (number, d.disk) (number, d.disk) d.there) in
    let count : length (numbers_of disks) ≡ length disks = length-map disks (λ (x : ℕ × DiskSeen). x.0) in
    let low = numbers.below d.place (omega (arith, lt, count)) in
    omega (arith, low, same)

-- THE FILES FIT.
pub files-fit : (files : FilesSeen) (disks : List (ℕ × DiskSeen)) → AreNumbers (numbers_of disks) → FilesOnDisks files disks → length files.files ≤ 64 → ((f : ℕ) → f < length files.files → IsSoundVnode (vnode_at files f)) → FilesFit files
files-fit files disks numbers f few sound = record {
  small = f.small;
  each = sound;
  disjoint = record {
    few = let count = length-map files.files file_blocks in omega (arith, few, count);
    disks = λ name file block k.
        let p = page-of files name file block k in
        let there = set-there files disks (vnode_at files name.object).info.disk f (f.set name.object p.within) in
        subst (λ (x : FileBlocks). x.disk < 8) (sym p.is) (below-eight disks (vnode_at files name.object).info.disk there.0 numbers (f.there (vnode_at files name.object).info.disk there.0 there.1));
    apart = λ m n x y block k l same.
        let p = page-of files m x block k in
        let q = page-of files n y block l in
        let disk : disk_of_file files m.object ≡ disk_of_file files n.object = ap (λ (z : FileBlocks). z.disk) (sym p.is) ∙ same ∙ ap (λ (z : FileBlocks). z.disk) q.is in
        let one = file_layout_law.own files f.apart m.object n.object m.page n.page p.within q.within disk p.below q.below (p.at ∙ sym q.at) in
        ap (λ (o : ℕ). file_name o m.page) one.0 ∙ ap (λ (i : ℕ). file_name n.object i) one.1;
  };
  set = f.set;
  low = λ name file block k. let p = page-of files name file block k in let on = file_layout_law.on_disks files f.lie name.object name.page p.within p.below in subst (λ (b : ℕ). 1 ≤ b) p.at on.0;
  high = λ name file block k.
      let p = page-of files name file block k in
      let on = file_layout_law.on_disks files f.lie name.object name.page p.within p.below in
      subst (λ (x : FileBlocks). block < block_count files.disks x.disk) (sym p.is) (subst (λ (b : ℕ). b < block_count files.disks (disk_of_file files name.object)) p.at on.1);
  lie = f.lie;
  apart = f.apart;
  few = f.few;
  some = f.some;
}

-- what a list has at a place
get-within : {X : Type 0} (xs : List X) (i : ℕ) (d : X) → i < length xs → slice_get xs i ≡ Some (slice_index_or xs i d)
get-within [] i d lt = absurd (omega (arith, lt))
get-within (x ∷ xs) zero d lt = refl
get-within (x ∷ xs) (suc i) d lt = get-within xs i d (omega (arith, lt))

-- THE DISKS FIT.
pub disks-fit : (bays : List BaySeen) (files : FilesSeen) (disks : List (ℕ × DiskSeen)) (swap : Option DiskSeen) (slots : ℕ) → AreHome bays disks swap → AreNumbers (numbers_of disks) → FilesOnDisks files disks → SwapServes slots swap → DisksFit bays files.disks slots
disks-fit bays files disks swap slots h numbers f serves = record {
  numbers = λ number blocks is. below-eight disks number blocks numbers (f.there number blocks is);
  there = λ number blocks is none. let d = f.there number blocks is in let z : missing ≡ home d.disk = sym none ∙ disk-home bays disks swap d.place number d.disk h d.there in cc;
  set = λ number low there. elim (find-number disks number) [
    | inl p ↦ f.all p.place number (slice_index_or disks p.place (number, no_disk)).1 (listed p.place number p.within p.is)
    | inr none ↦ absurd (there (h.others number (omega (arith, low)) none))
  ];
  swap = λ some none. by_swap swap serves (sym h.swap ∙ none) some;
  unused = λ none. h.swap ∙ no_swap swap serves none;
  sizes = λ number d at. record {
    file = λ blocks is. let x = f.there number blocks is in ap (λ (y : DiskSeen). y.size) (one d x.disk (sym at ∙ disk-home bays disks swap x.place number x.disk h x.there)) ∙ x.size;
    swap = λ eight. swap_size swap serves d (sym h.swap ∙ ap (bay_at bays) (sym eight) ∙ at);
  };
}
  where
    one : (x y : DiskSeen) → home x ≡ home y → x ≡ y
    one x y e = cc

    -- the disk at a place of the list
    listed : (place number : ℕ) → place < length disks → slice_index (numbers_of disks) place ≡ number → slice_get disks place ≡ Some (number, (slice_index_or disks place (number, no_disk)).1)
    listed place number within is =
        let at : (slice_index_or disks place (number, no_disk)).0 ≡ number = sym (number-at disks place (number, no_disk) within) ∙ is in
        get-within disks place (number, no_disk) within ∙ ap (λ (n : ℕ). Some (n, (slice_index_or disks place (number, no_disk)).1)) at

    by_swap : (o : Option DiskSeen) → SwapServes slots o → bay_of o ≡ missing → 0 < slots → ⊥
    by_swap None none e some = omega (arith, none, some)
    by_swap (Some x) has e some = let z : home x ≡ missing = e in cc

    no_swap : (o : Option DiskSeen) → SwapServes slots o → slots ≡ 0 → bay_of o ≡ missing
    no_swap None served none = refl
    no_swap (Some x) has none = absurd (let low = has.0 in omega (arith, none, low))

    swap_size : (o : Option DiskSeen) → SwapServes slots o → (d : DiskSeen) → bay_of o ≡ home d → slots ≤ d.size
    swap_size None none d e = absurd (let z : missing ≡ home d = e in cc)
    swap_size (Some x) has d e = subst (λ (y : DiskSeen). slots ≤ y.size) (one x d e) has.1

-- THE STATE AT THE OPENING.
pub opens : (s : KernelState) (frames slots seats places : ℕ) (disks : List (ℕ × DiskSeen)) (swap : Option DiskSeen) → IsNew s.memory.world.store frames disks swap → IsSoundStore s.memory.world.store
    → ((number : ℕ) → IsStill (bay_at s.memory.world.store.bays number)) → HaveCounted disks → IfSome swap (λ d. d.faults ≤ top_count) → s.memory.world.anon ≡ unused_slots slots → IsSoundAnonSlots s.memory.world.anon → s.memory.world.maps ≡ []
    → s.memory.world.hat.frames ≡ frames → s.memory.world.hat.places ≡ replicate places None → FilesFit s.memory.world.files → DisksFit s.memory.world.store.bays s.memory.world.files.disks slots
    → ((p : ℕ) → finite.get s.memory.spaces p ≡ top_space s.parents p) → ((p : ℕ) → set.contains s.born p ≡ is_top s.parents p) → s.history ≡ [] → s.pending ≡ 0 → ((f : ℕ) → slice_index_or s.calls f None ≡ None)
    → s.syncs ≡ replicate seats None → s.plan ≡ None → AreOpeningMarks s.memory.world.files seats s.marks → IsOpening s
opens s frames slots seats places disks swap new sound still counted swap_counted anon slots_sound maps hat_frames hat files disks_fit spaces born history pending calls syncs plan marks =
    let count : length s.memory.world.anon.counts ≡ slots = ap (λ (x : AnonSlotsSeen). length x.counts) anon ∙ length-replicate slots 0 in
    record {
      memory = record {
        store = record {
          sound = sound;
          unnamed = λ frame. ap (λ (names : List (Option PageName)). slice_index_or names frame None) new.names ∙ at-replicate frames frame None;
          clear = λ frame. ap (λ (rows : List Row). row_at rows frame) new.rows ∙ at-replicate frames frame clear_row;
          uncached = new.cached;
          still = λ number seat is. subst IsStill is (still number);
          most = counts-most s.memory.world.store.bays disks swap new.bays counted swap_counted;
        };
        anon = anon ∙ ap unused_slots (sym count);
        slots = slots_sound;
        maps = maps;
        leads = hat_frames ∙ sym (ap (λ (l : List (Option (List ℕ))). length l) new.frames ∙ length-replicate frames (Some zeros));
        hat = λ place. ap (λ (l : List (Option Translation)). slice_index_or l place None) hat ∙ at-replicate places place None;
        files = files;
        disks = subst (λ (n : ℕ). DisksFit s.memory.world.store.bays s.memory.world.files.disks n) (sym count) disks_fit;
        spaces = spaces;
      };
      born = born;
      history = history;
      pending = pending;
      calls = calls;
      syncs = λ seat. ap (λ (l : List (Option SyncStart)). slice_index_or l seat None) syncs ∙ at-replicate seats seat None;
      plan = plan;
      marks = subst (λ (n : ℕ). AreOpeningMarks s.memory.world.files n s.marks) (sym (ap (λ (l : List (Option SyncStart)). length l) syncs ∙ length-replicate seats None)) marks;
    }

-- nothing is mapped, so no zero object is there
all-empty : (parents : List ℕ) (spaces : Spaces) → ((p : ℕ) → finite.get spaces p ≡ top_space parents p) → EmptySpaces spaces
all-empty parents spaces tops p parts is = by_top (is_top parents p) (sym (tops p) ∙ is)
  where
    by_top : (b : Bool) → cond b (Some []) None ≡ Some parts → parts ≡ []
    by_top true e = cc
    by_top false e = absurd (let z : ◌≡◌ {A = Option (List (Part Segment))} None (Some parts) = e in cc)

known-none : (parents : List ℕ) (spaces : Spaces) → ((p : ℕ) → finite.get spaces p ≡ top_space parents p) → KnowsZeros [] spaces
known-none parents spaces tops z = ap (λ (zs : finite.FinMap nat_cmp ℕ). finite.get zs z) (empty-zeros spaces (all-empty parents spaces tops)) ∙ finite.get-empty nat_cmp z

-- as many disks are seen as there are
pub same-total : {D : Type 0} (seen : D → DiskSeen) (disks : List (ℕ × D)) (swap : Option D) → disk_total (pairs_seen seen disks) (option_map seen swap) ≡ disk_total disks swap
same-total seen disks None = ap (λ (n : ℕ). n + 0) (length-map disks (λ disk. (disk.0, seen disk.1)))
same-total seen disks (Some d) = ap (λ (n : ℕ). n + 1) (length-map disks (λ disk. (disk.0, seen disk.1)))

-- WHAT IS KEPT of the start.
pub kept-start : (store : StoreSeen) (objects : List (Option ℕ)) (spaces : Spaces) (parents entries : List ℕ) (frames count seats : ℕ) (syncs : List (Option SyncStart)) (disks : List (ℕ × DiskSeen)) (swap : Option DiskSeen) → IsNew store frames disks swap
    → ((p : ℕ) → finite.get spaces p ≡ top_space parents p) → disk_total disks swap + 4 ≤ frames → syncs ≡ replicate seats None → length entries ≤ seats → objects ≡ [] → IsSoundKernel store objects spaces entries (length syncs)
kept-start store objects spaces parents entries frames count seats syncs disks swap new tops enough are few nothing =
    let disks_are = count-disks store.bays disks swap new.bays in
    let frames_are = ap (λ (l : List (Option (List ℕ))). length l) new.frames ∙ length-replicate frames (Some zeros) in
    let seats_are = ap (λ (l : List (Option SyncStart)). length l) are ∙ length-replicate seats None in
    record { frames = omega (arith, disks_are, frames_are, enough); known = subst (λ (l : List (Option ℕ)). KnowsZeros l spaces) (sym nothing) (known-none parents spaces tops); seated = omega (arith, seats_are, few) }

-- And each process has its places.
pub have-places : (parents entries : List ℕ) (processes seats : ℕ) (marks : List Bool) (syncs : List (Option SyncStart)) → processes ≡ length parents → marks ≡ map (λ (n : ℕ). n == 0) parents → syncs ≡ replicate seats None → length parents ≡ length entries → length entries ≤ seats
    → EachHasPlaces parents processes (length marks) (length syncs)
have-places parents entries processes seats marks syncs all are none each few =
    let marked = ap (λ (l : List Bool). length l) are ∙ length-map parents (λ (n : ℕ). n == 0) in
    let count = ap (λ (l : List (Option SyncStart)). length l) none ∙ length-replicate seats None in
    record { spaces = omega (arith, all); marks = omega (arith, marked); seats = omega (arith, each, few, count) }
