-- Pages whose marks rise, put together.
use Rattle.std.proofs.Common.{◌≡◌, ◌≢◌, ℕ, zero, suc, ◌+◌, ◌-◌, ◌<◌, ◌≤◌, Bool, true, false, cond, List, [], ◌∷◌, ◌++◌, length, Option, Some, None, refl, sym, ap, ◌∙◌, ◌⊎◌, inl, inr, subst, arith}
use Rattle.std.specs.Prelude.{min, not, option_and_then, option_map, slice_get, slice_index_or}
use Rattle.std.specs.FinMap as finite
use Rattle.std.proofs.lemmas.Bool.{cases_lt}
use Rattle.std.proofs.lemmas.Bool.Decides.{nat_tests}
use Rattle.fault_entry.specs.addr_space.Space.{Part, part_at, piece_at}
use Rattle.disk_marks.specs.Marks.{MarksSeen}
use Rattle.disk_marks.specs.Changes.{marks_emptied, marks_raised}
use Rattle.fault_entry.specs.page_hash.declared.PageName.{PageName}
use Rattle.fault_entry.specs.page_store.declared.place.Place.{Place}
use Rattle.mmap_calls.proofs.CleanRanges.{lies, spot-in}
use Rattle.fault_entry.proofs.seg_ops.StillSteps.{memory_of}
use Rattle.fault_entry.specs.seg_vn.CleanPlaces.{SharesFilePage, shared_file}
use Rattle.fault_entry.proofs.seg_vn.SharedFiles.{shown-file, shows-file, shows-none}
use Rattle.fault_entry.specs.vm_world.StateMarks.{marks_risen}
use Rattle.fault_entry.specs.vm_world.StateSyncs.{marks_all_risen}
use Rattle.fault_entry.specs.vm_world.FlatMemory.{Memory}
use Rattle.fault_entry.specs.vm_world.FramesFit.{FilesFit}
use Rattle.fault_entry.specs.vm_world.MemoryFits.{MemoryFits}
use Rattle.fault_entry.specs.vm_world.Segments.{Spaces, Spot, spot_at}
use Rattle.fault_entry.specs.vm_world.World.{World, file_name, is_unpushed, world_table}
use Rattle.fault_entry.specs.vm_world.declared.segment.Segment.{Segment}
use Rattle.fault_entry.proofs.vm_world.FlatWhole.{some-inj}
use Rattle.fault_entry.proofs.vm_world.PageNames.{file-apart, file-place, not-slot}
use Rattle.fault_entry.specs.flat_model.Space.{is_in_range}
use Rattle.fault_entry.specs.flat_model.Words.{page, pages_in}
use Rattle.fault_entry.specs.vm_types.declared.call.Call.TheVariants.{Sync}
use Rattle.fault_entry.specs.vm_world.CallSteps.{RaisesPages}
use Rattle.fault_entry.specs.vnode_files.Files.{FilesSeen, vnode_at}
use Rattle.fault_entry.specs.vnode_files.Layout.{pages_kept, disk_of_file, block_of_page}
use Rattle.fault_entry.specs.vnode_files.Vnode.{is_blank}
use Rattle.vm_core.specs.Raises.{IsPageFrom, IsSharedAt, IsSharedIn, Raises}

-- ONE PAGE OF A FILE.
module _ (w : World) (fit : FilesFit w.files) (file page : ℕ) (lt : file < length w.files.files) (low : page < pages_kept w.files file) where
  unpushed : is_unpushed w.files w.anon (file_name file page) ≡ is_blank (vnode_at w.files file) page
  unpushed = ap (λ (b : Bool). cond b (not (slice_index_or w.anon.swapped page false)) (is_blank (vnode_at w.files file) page)) (not-slot file (file-apart w.files file fit lt))

  disk-is : (world_table w (file_name file page)).disk ≡ disk_of_file w.files file
  disk-is = ap (λ (p : Place). p.disk) (file-place w.files w.anon file page lt low)

  block-is : (world_table w (file_name file page)).block ≡ block_of_page w.files file page
  block-is = ap (λ (p : Place). p.block) (file-place w.files w.anon file page lt low)

  risen-is : (m : MarksSeen) (j : ℕ) (b : Bool) → is_blank (vnode_at w.files file) page ≡ b
      → marks_risen w m (file_name file page) j
      ≡ cond b (marks_emptied m (disk_of_file w.files file) (block_of_page w.files file page) file page j) (marks_raised m (disk_of_file w.files file) (block_of_page w.files file page) j)
  risen-is m j b blank =
      ap (λ (x : Bool). cond x (marks_emptied m (world_table w (file_name file page)).disk (world_table w (file_name file page)).block file page j)
      (marks_raised m (world_table w (file_name file page)).disk (world_table w (file_name file page)).block j)) (unpushed ∙ blank)
      ∙ ap (λ (d : ℕ). cond b (marks_emptied m d (world_table w (file_name file page)).block file page j) (marks_raised m d (world_table w (file_name file page)).block j)) disk-is
      ∙ ap (λ (k : ℕ). cond b (marks_emptied m (disk_of_file w.files file) k file page j) (marks_raised m (disk_of_file w.files file) k j)) block-is

  pub blank-risen : (m : MarksSeen) (j : ℕ) → is_blank (vnode_at w.files file) page ≡ true
      → marks_emptied m (disk_of_file w.files file) (block_of_page w.files file page) file page j ≡ marks_risen w m (file_name file page) j
  blank-risen m j blank = sym (risen-is m j true blank)

  pub held-risen : (m : MarksSeen) (j : ℕ) → is_blank (vnode_at w.files file) page ≡ false
      → marks_raised m (disk_of_file w.files file) (block_of_page w.files file page) j ≡ marks_risen w m (file_name file page) j
  held-risen m j blank = sym (risen-is m j false blank)

-- PAGES PUT TOGETHER.
all-then : (w : World) (m : MarksSeen) (xs ys : List PageName) (j : ℕ) → marks_all_risen w m (xs ++ ys) j ≡ marks_all_risen w (marks_all_risen w m xs j) ys j
all-then w m [] ys j = refl
all-then w m (x ∷ xs) ys j = all-then w (marks_risen w m x j) xs ys j

got-left : (xs ys : List PageName) (i : ℕ) (x : PageName) → slice_get xs i ≡ Some x → slice_get (xs ++ ys) i ≡ Some x
got-left [] ys i x at = absurd (let z : ◌≡◌ {A = Option PageName} None (Some x) = at in cc)
got-left (z ∷ xs) ys zero x at = at
got-left (z ∷ xs) ys (suc i) x at = got-left xs ys i x at

got-right : (xs ys : List PageName) (i : ℕ) (x : PageName) → slice_get ys i ≡ Some x → (k : ℕ) × (slice_get (xs ++ ys) k ≡ Some x)
got-right [] ys i x at = (i, at)
got-right (z ∷ xs) ys i x at = let k = got-right xs ys i x at in (suc k.0, k.1)

got-either : (xs ys : List PageName) (i : ℕ) (x : PageName) → slice_get (xs ++ ys) i ≡ Some x → ((k : ℕ) × (slice_get xs k ≡ Some x)) ⊎ ((k : ℕ) × (slice_get ys k ≡ Some x))
got-either [] ys i x at = inr (i, at)
got-either (z ∷ xs) ys zero x at = inl (0, at)
got-either (z ∷ xs) ys (suc i) x at = elim (got-either xs ys i x at) [ inl k ↦ inl (suc k.0, k.1) | inr k ↦ inr k ]

got-one : (y : PageName) (i : ℕ) (x : PageName) → slice_get (y ∷ []) i ≡ Some x → x ≡ y
got-one y zero x at = some-inj x y (sym at)
got-one y (suc i) x at = absurd (let z : ◌≡◌ {A = Option PageName} None (Some x) = at in cc)

pub raises-none : (w : World) (P : PageName → Type 0) (j : ℕ) (m : MarksSeen) → ((name : PageName) → ¬ P name) → Raises w P j m m
raises-none w P j m none = record { names = []; each = λ i name at. absurd (let z : ◌≡◌ {A = Option PageName} None (Some name) = at in cc); all = λ name is. absurd (none name is); rose = refl }

pub raises-same : (w : World) (P Q : PageName → Type 0) (j : ℕ) (m n : MarksSeen) → ((name : PageName) → P name → Q name) → ((name : PageName) → Q name → P name) → Raises w P j m n → Raises w Q j m n
raises-same w P Q j m n to from r = record { names = r.names; each = λ i name at. to name (r.each i name at); all = λ name is. r.all name (from name is); rose = r.rose }

raises-one : (w : World) (name : PageName) (j : ℕ) (m n : MarksSeen) → n ≡ marks_risen w m name j → Raises w (λ (x : PageName). x ≡ name) j m n
raises-one w name j m n is = record { names = name ∷ []; each = got-one name; all = λ x same. (0, ap (λ (y : PageName). Some y) (sym same)); rose = is }

raises-then : (w : World) (P Q R : PageName → Type 0) (j : ℕ) (m n o : MarksSeen) → Raises w P j m n → Raises w Q j n o
    → ((name : PageName) → P name → R name) → ((name : PageName) → Q name → R name) → ((name : PageName) → R name → P name ⊎ Q name) → Raises w R j m o
raises-then w P Q R j m n o one other left right either = record {
  names = one.names ++ other.names;
  each = λ i name at. elim (got-either one.names other.names i name at) [
    | inl k ↦ left name (one.each k.0 name k.1)
    | inr k ↦ right name (other.each k.0 name k.1)
  ];
  all = λ name is. elim (either name is) [
    | inl p ↦ (let k = one.all name p in (k.0, got-left one.names other.names k.0 name k.1))
    | inr q ↦ (let k = other.all name q in got-right one.names other.names k.0 name k.1)
  ];
  rose = other.rose ∙ ap (λ (x : MarksSeen). marks_all_risen w x other.names j) one.rose ∙ sym (all-then w m one.names other.names j);
}

-- THE PAGES OF A FILE, one more.
pub page-more : (w : World) (file from page j : ℕ) (m n o : MarksSeen) → from ≤ page → Raises w (IsPageFrom file from page) j m n → o ≡ marks_risen w n (file_name file page) j → Raises w (IsPageFrom file from (page + 1)) j m o
page-more w file from page j m n o low r is =
    raises-then w (IsPageFrom file from page) (λ (x : PageName). x ≡ file_name file page) (IsPageFrom file from (page + 1)) j m n o r (raises-one w (file_name file page) j n o is)
    (λ name h. let lt = h.high in record { object = h.object; low = h.low; high = omega (arith, lt) })
    (λ name same. record {
      object = ap (λ (x : PageName). x.object) same;
      low = subst (λ (x : PageName). from ≤ x.page) (sym same) low;
      high = subst (λ (x : PageName). x.page < page + 1) (sym same) (omega arith);
    })
    (λ name h. elim (cases_lt name.page page) [
      | inl lt ↦ inl (record { object = h.object; low = h.low; high = lt })
      | inr past ↦ inr (let lt = h.high in let at : name.page ≡ page = omega (arith, lt, past) in λ i. record { object = h.object i; page = at i })
    ])

-- A RANGE, one piece more.
pub range-more : (m : Memory) (p first page next j : ℕ) (k n o : MarksSeen) → first ≤ page → page ≤ next → Raises m.world (IsSharedIn m p first page) j k n → Raises m.world (IsSharedIn m p page next) j n o → Raises m.world (IsSharedIn m p first next) j k o
range-more m p first page next j k n o low high one other =
    raises-then m.world (IsSharedIn m p first page) (IsSharedIn m p page next) (IsSharedIn m p first next) j k n o one other
    (λ name h. let lt = h.3 in (h.0, h.1, h.2, omega (arith, lt, high), h.4, h.5))
    (λ name h. let le = h.2 in (h.0, h.1, omega (arith, le, low), h.3, h.4, h.5))
    (λ name h. elim (cases_lt h.0 page) [
      | inl lt ↦ inl (h.0, h.1, h.2, lt, h.4, h.5)
      | inr past ↦ inr (h.0, h.1, past, h.3, h.4, h.5)
    ])

-- THE PIECE that has a page of a process: what its places show, told of the process's pages.
module _ (w : World) (spaces : Spaces) (p : ℕ) (parts : List (Part Segment)) (page : ℕ) (x : Part Segment) (fits : MemoryFits (memory_of w spaces)) (get : finite.get spaces p ≡ Some parts) (found : part_at parts page ≡ Some x) where
  module _ (to : ℕ) (within : to ≤ x.pages) where
    told : (name : PageName) → IsSharedAt w x.piece (page - x.first) to name → IsSharedIn (memory_of w spaces) p page (x.first + to) name
    told name h =
        let from = (lies w spaces p parts page x fits get found).from in
        let low = h.1 in
        let high = h.2 in
        let place : x.first + h.0 - x.first ≡ h.0 = omega arith in (
          x.first + h.0,
          (x.piece, h.0),
          omega (arith, from, low),
          omega (arith, high),
          spot-in w spaces p parts page x fits get found (x.first + h.0) (omega arith) (omega (arith, high, within)) ∙ ap (λ (k : ℕ). Some (x.piece, k)) place,
          h.3,
        )

    back : (name : PageName) → IsSharedIn (memory_of w spaces) p page (x.first + to) name → IsSharedAt w x.piece (page - x.first) to name
    back name h =
        let from = (lies w spaces p parts page x fits get found).from in
        let q = h.0 in
        let low = h.2 in
        let high = h.3 in
        let same : (x.piece, q - x.first) ≡ h.1 = some-inj (x.piece, q - x.first) h.1 (sym (spot-in w spaces p parts page x fits get found q (omega (arith, from, low)) (omega (arith, high, within))) ∙ h.4) in (
          q - x.first,
          omega (arith, from, low),
          omega (arith, from, low, high),
          subst (λ (s : Spot). SharesFilePage w s name) (sym same) h.5,
        )

    pub piece-raised : (j : ℕ) (m n : MarksSeen) → Raises w (IsSharedAt w x.piece (page - x.first) to) j m n → Raises w (IsSharedIn (memory_of w spaces) p page (x.first + to)) j m n
    piece-raised j m n r = raises-same w (IsSharedAt w x.piece (page - x.first) to) (IsSharedIn (memory_of w spaces) p page (x.first + to)) j m n told back r

-- WHERE NO PIECE has the page, it shows none.
pub none-raised : (w : World) (spaces : Spaces) (p : ℕ) (parts : List (Part Segment)) (page j : ℕ) (m : MarksSeen) → finite.get spaces p ≡ Some parts → part_at parts page ≡ None → Raises w (IsSharedIn (memory_of w spaces) p page (page + 1)) j m m
none-raised w spaces p parts page j m get none = raises-none w (IsSharedIn (memory_of w spaces) p page (page + 1)) j m (λ name h.
    let low = h.2 in
    let high = h.3 in
    let at : h.0 ≡ page = omega (arith, low, high) in
    let z : ◌≡◌ {A = Option Spot} None (Some h.1) =
    sym (ap (option_and_then (λ (ps : List (Part Segment)). piece_at ps page)) get ∙ ap (option_map (λ (r : Part Segment). (r.piece, page - r.first))) none)
    ∙ ap (spot_at spaces p) (sym at) ∙ h.4 in
    cc)

-- THE PLACES of a segment that shows a file.
module _ (w : World) (spaces : Spaces) (p q at : ℕ) (s : Segment) (fits : MemoryFits (memory_of w spaces)) (here : spot_at spaces p q ≡ Some (s, at)) where
  pub no-places : shared_file s ≡ None → (from to j : ℕ) (m : MarksSeen) → Raises w (IsSharedAt w s from to) j m m
  no-places none from to j m = raises-none w (IsSharedAt w s from to) j m (λ name h. shows-none w spaces p q at s fits here none h.0 name h.3)

  pub places-raised : (f : ℕ) → shared_file s ≡ Some f → (from to end j : ℕ) (m n : MarksSeen) → end ≡ min (pages_in (vnode_at w.files f).info.length) (s.index + to)
      → Raises w (IsPageFrom f (s.index + from) end) j m n → Raises w (IsSharedAt w s from to) j m n
  places-raised f file from to end j m n last r = raises-same w (IsPageFrom f (s.index + from) end) (IsSharedAt w s from to) j m n
      (λ name h.
      let low = h.low in
      let high = h.high in
      let back : s.index + (name.page - s.index) ≡ name.page = omega (arith, low) in
      let same : file_name f (s.index + (name.page - s.index)) ≡ name = (λ i. record { object = sym h.object i; page = back i }) in (
        name.page - s.index,
        omega (arith, low),
        omega (arith, low, high, last),
        subst (SharesFilePage w (s, name.page - s.index)) same (shows-file w spaces p q at s fits here f file (name.page - s.index) (omega (arith, back, high, last))),
      ))
      (λ name h.
      let is = shown-file w spaces p q at s fits here f file h.0 name h.3 in
      let low = h.1 in
      let high = h.2 in
      let below = is.1 in
      subst (IsPageFrom f (s.index + from) end) (sym is.0) (record { object = refl; low = omega (arith, low); high = omega (arith, high, below, last) }))
      r

-- WHAT A SYNC WANTS CLEAN is what shared mappings show of files in its range.
pub synced-raises : (m : Memory) (p a len j : ℕ) (k n : MarksSeen) → Raises m.world (IsSharedIn m p (page a) (page a + pages_in len)) j k n → RaisesPages m p (Sync a len) j k n
synced-raises m p a len j k n r = record {
  names = r.names;
  each = λ i name at. let h = r.each i name at in (h.0, h.1, in-range h.0 h.2 h.3, record { here = h.4; some = h.5.some }, h.5.shared, h.5.is, h.5.file);
  all = λ name w. r.all name (w.0, w.1, low w.0 w.2, high w.0 w.2, w.3.here, record { shared = w.4; some = w.3.some; is = w.5; file = w.6 });
  rose = r.rose;
}
  where
    in-range : (q : ℕ) → page a ≤ q → q < page a + pages_in len → is_in_range (page a) (pages_in len) q ≡ true
    in-range q le lt = grind (arith, nat_tests)

    low : (q : ℕ) → is_in_range (page a) (pages_in len) q ≡ true → page a ≤ q
    low q is = grind (arith, nat_tests)

    high : (q : ℕ) → is_in_range (page a) (pages_in len) q ≡ true → q < page a + pages_in len
    high q is = grind (arith, nat_tests)
