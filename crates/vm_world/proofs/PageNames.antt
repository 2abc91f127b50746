-- Names of pages: those of files and of slots, and where they live.
use Rattle.std.proofs.Common.{◌≡◌, ◌≢◌, ℕ, ◌<◌, ◌==◌, Bool, false, cond, List, length, map, Option, Some, None, refl, sym, ap, ◌∙◌, ◌⊎◌, inl, inr, subst, arith, zero, suc, [], ◌∷◌}
use Rattle.std.specs.Prelude.{slice_get, slice_index_or, nat_lt, option_map, IsTrue, All}
use Rattle.std.proofs.lemmas.Bool.{ltb-true, lt-ltb}
use Rattle.std.proofs.lemmas.Bool.Decides.{eqb_tells}
use Rattle.std.proofs.lemmas.List.{length-map}
use Rattle.std.proofs.lemmas.Option.{slice_get_cases, slice_get-map, slice_get_within}
use Rattle.page_store.specs.page_hash.declared.PageName.{PageName}
use Rattle.page_store.specs.Layout.{KeepsPage, page_place, slot_place}
use Rattle.page_store.proofs.LayoutLemmas.{layout_law}
use Rattle.anon_slots.specs.Slots.{AnonSlotsSeen}
use Rattle.flat_model.specs.vnode_files.declared.vnode.FileInfo.{FileInfo}
use Rattle.flat_model.specs.vnode_files.Files.{FilesSeen, vnode_at}
use Rattle.flat_model.specs.vnode_files.Grow.{page_count}
use Rattle.flat_model.specs.vnode_files.Vnode.{VnodeSeen, no_vnode, page_blocks, IsSoundVnode}
use Rattle.flat_model.proofs.vnode_files.BlockLemmas.{length-page_blocks}
use Rattle.flat_model.specs.Words.{pages_in}
use Rattle.vm_world.specs.World.{file_name, slot_name, file_blocks, page_table, is_unpushed, is_page_name}
use Rattle.vm_world.specs.FramesFit.{FilesFit}

-- the test of a name that isn't a slot's
pub not-slot : (o : ℕ) → o ≢ 64 → (o == 64) ≡ false
not-slot o far = elim (eqb_tells o 64) [ inl same ↦ absurd (far same.1) | inr apart ↦ apart.0 ]

-- the element at a place, by either way to it
pub index-of : {A : Type 0} (xs : List A) (i : ℕ) (d v : A) → slice_get xs i ≡ Some v → slice_index_or xs i d ≡ v
index-of [] i d v at = absurd (cc)
index-of (x ∷ xs) zero d v at = cc
index-of (x ∷ xs) (suc i) d v at = index-of xs i d v at

-- a file that is there, by its number
pub file-there : (files : FilesSeen) (f : ℕ) → f < length files.files → slice_get files.files f ≡ Some (vnode_at files f)
file-there files f lt = elim ((slice_get_cases files.files f).1) [
  | inl (v, inside, at, same) ↦ at ∙ ap (λ (w : VnodeSeen). Some w) (sym (index-of files.files f no_vnode v at))
  | inr (far, none) ↦ absurd (omega (arith, far, lt))
]

-- the record of a file that is there, by the list of all
pub info-there : (files : FilesSeen) (f : ℕ) (info : FileInfo) → slice_get (map (λ (v : VnodeSeen). v.info) files.files) f ≡ Some info → (f < length files.files) × ((vnode_at files f).info ≡ info)
info-there files f info is = by_file (slice_get files.files f) refl (sym (slice_get-map (λ (v : VnodeSeen). v.info) files.files f) ∙ is)
  where
    by_file : (o : Option VnodeSeen) → slice_get files.files f ≡ o → option_map (λ (v : VnodeSeen). v.info) o ≡ Some info → (f < length files.files) × ((vnode_at files f).info ≡ info)
    by_file None e is = absurd (cc)
    by_file (Some v) e is = (slice_get_within files.files f v e, ap (λ (x : VnodeSeen). x.info) (index-of files.files f no_vnode v e) ∙ (let z : ◌≡◌ {A = Option FileInfo} (Some v.info) (Some info) = is in cc))

-- a file's number is none of the swap area's
pub file-apart : (files : FilesSeen) (f : ℕ) → FilesFit files → f < length files.files → f ≢ 64
file-apart files f fit lt =
    let few = fit.disjoint.few in
    let same : length (map file_blocks files.files) ≡ length files.files = length-map files.files file_blocks in
    λ (e : f ≡ 64). omega (arith, few, same, lt, e)

-- the files as the table of places sees them
pub blocks-there : (files : FilesSeen) (f : ℕ) → f < length files.files → slice_get (map file_blocks files.files) f ≡ Some (file_blocks (vnode_at files f))
blocks-there files f lt = slice_get-map file_blocks files.files f ∙ ap (option_map file_blocks) (file-there files f lt)

-- A PAGE OF A FILE that it keeps has a block.
pub keeps-page : (files : FilesSeen) (f i : ℕ) → f < length files.files → i < page_count (vnode_at files f).info.extents
    → KeepsPage (map file_blocks files.files) (file_name f i) (file_blocks (vnode_at files f)) (slice_index_or (page_blocks (vnode_at files f).info.extents) i 0)
keeps-page files f i lt below = record {
  number = blocks-there files f lt;
  place = elim ((slice_get_cases (page_blocks (vnode_at files f).info.extents) i).1) [
    | inl (b, inside, at, same) ↦ at ∙ ap (λ (c : ℕ). Some c) (sym (index-of (page_blocks (vnode_at files f).info.extents) i 0 b at))
    | inr (far, none) ↦ absurd (let e = length-page_blocks (vnode_at files f).info.extents in omega (arith, far, below, e))
  ];
}

-- a name that is a page's: a slot's, or that of a page which a file keeps
pub page-cases : (files : FilesSeen) (anon : AnonSlotsSeen) (name : PageName) → IsTrue (is_page_name files anon name)
    → ((name.object ≡ 64) × (name.page < length anon.counts)) ⊎ ((name.object ≢ 64) × (name.object < length files.files) × (name.page < page_count (vnode_at files name.object).info.extents))
page-cases files anon name is = elim (eqb_tells name.object 64) [
  | inl same ↦ inl (same.1, ltb-true name.page (length anon.counts) (sym (ap (λ (b : Bool). cond b (nat_lt name.page (length anon.counts)) (nat_lt name.page (page_count (vnode_at files name.object).info.extents))) same.0) ∙ is))
  | inr apart ↦
      let below : name.page < page_count (vnode_at files name.object).info.extents = ltb-true name.page (page_count (vnode_at files name.object).info.extents) (sym (ap (λ (b : Bool). cond b (nat_lt name.page (length anon.counts)) (nat_lt name.page (page_count (vnode_at files name.object).info.extents))) apart.0) ∙ is) in
      inr (apart.1, there name.object name.page files.files below, below)
]
  where
    there : (f i : ℕ) (xs : List VnodeSeen) → i < page_count (slice_index_or xs f no_vnode).info.extents → f < length xs
    there f i [] lt = absurd (omega (arith, lt))
    there zero i (x ∷ xs) lt = omega arith
    there (suc f) i (x ∷ xs) lt = let more = there f i xs lt in omega (arith, more)

-- a page of a file that it keeps, and a slot, are pages
pub file-page : (files : FilesSeen) (anon : AnonSlotsSeen) (f i : ℕ) → f ≢ 64 → i < page_count (vnode_at files f).info.extents → IsTrue (is_page_name files anon (file_name f i))
file-page files anon f i far below = ap (λ (b : Bool). cond b (nat_lt i (length anon.counts)) (nat_lt i (page_count (vnode_at files f).info.extents))) (not-slot f far) ∙ lt-ltb i (page_count (vnode_at files f).info.extents) below

pub slot-page : (files : FilesSeen) (anon : AnonSlotsSeen) (s : ℕ) → s < length anon.counts → IsTrue (is_page_name files anon (slot_name s))
slot-page files anon s below = lt-ltb s (length anon.counts) below

-- a page below a file's length is one that the file keeps
pub below-kept : (v : VnodeSeen) (i : ℕ) → IsSoundVnode v → i < pages_in v.info.length → i < page_count v.info.extents
below-kept v i sound lt = let within = sound.within in omega (arith, within, lt)

-- WHERE A PAGE LIVES. A kept page of a file in its block, a slot on the swap disk.
pub file-place : (files : FilesSeen) (anon : AnonSlotsSeen) (f i : ℕ) → f < length files.files → i < page_count (vnode_at files f).info.extents
    → page_table files anon (file_name f i) ≡ page_place (file_blocks (vnode_at files f)) i (is_unpushed files anon (file_name f i)) (slice_index_or (page_blocks (vnode_at files f).info.extents) i 0)
file-place files anon f i lt below =
    (layout_law.table (map file_blocks files.files) (length anon.counts) (is_unpushed files anon)).page (file_name f i) (file_blocks (vnode_at files f)) (slice_index_or (page_blocks (vnode_at files f).info.extents) i 0) (keeps-page files f i lt below)

pub slot-place : (files : FilesSeen) (anon : AnonSlotsSeen) (s : ℕ) → FilesFit files → s < length anon.counts → page_table files anon (slot_name s) ≡ slot_place s (is_unpushed files anon (slot_name s))
slot-place files anon s fit below = (layout_law.table (map file_blocks files.files) (length anon.counts) (is_unpushed files anon)).slot fit.disjoint.few s below
