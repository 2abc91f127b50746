-- THE TABLE OF PLACES once a file got another end, and files that fit.
use Rattle.std.proofs.Common.{◌≡◌, ◌≢◌, ℕ, ◌+◌, ◌^◌, ◌<◌, ◌≤◌, ◌==◌, ◌&&◌, Bool, false, cond, List, [], ◌∷◌, length, map, Option, Some, None, refl, sym, ap, ◌∙◌, ◌⊎◌, inl, inr, subst, arith, zero, suc}
use Rattle.std.specs.Prelude.{IsTrue, IsSome, All, option_map, option_and_then, slice_get, slice_index_or, nat_lt, not, unwrap_or}
use Rattle.std.specs.FinMap as finite
use Rattle.std.specs.Ordering.{nat_cmp}
use Rattle.std.proofs.lemmas.Bool.{cases_eq, lt-ltb, le-ltb}
use Rattle.std.proofs.lemmas.Bool.Decides.{eqb_tells}
use Rattle.std.proofs.lemmas.List.{length-map}
use Rattle.std.proofs.lemmas.Option.{slice_get-map, slice_get_within, slice_get_cases}
use Rattle.seg_ops.specs.page_hash.declared.PageName.{PageName}
use Rattle.seg_ops.specs.page_store.Layout.{FileBlocks, KeepsPage, file_page_place, page_place, slot_place, own_place, is_slot}
use Rattle.seg_ops.specs.page_store.declared.place.Place.{Place}
use Rattle.seg_ops.proofs.page_store.LayoutLemmas.{place-cases}
use Rattle.seg_ops.specs.anon_slots.Slots.{AnonSlotsSeen, count_at, is_used}
use Rattle.seg_ops.specs.vnode_files.declared.extent.Extent.{Extent}
use Rattle.seg_ops.specs.vnode_files.Files.{FilesSeen, vnode_at, block_count}
use Rattle.seg_ops.specs.vnode_files.Grow.{page_count}
use Rattle.seg_ops.specs.vnode_files.Layout.{disk_of_file, block_of_page, LieOnDisks, NoFilesMeet, HaveFewExtents}
use Rattle.seg_ops.specs.vnode_files.Vnode.{VnodeSeen, no_vnode, page_blocks, block_at, is_blank, IsSoundVnode}
use Rattle.seg_ops.proofs.vnode_files.BlockLemmas.{length-page_blocks}
use Rattle.seg_ops.proofs.vnode_files.ExtentLemmas.{page_count-cons}
use Rattle.seg_ops.proofs.vnode_files.LayoutLaws.{file_layout_law}
use Rattle.seg_ops.specs.flat_model.Words.{pages_in}
use Rattle.seg_ops.specs.vm_world.FramesFit.{FilesFit}
use Rattle.seg_ops.specs.vm_world.State.{FileMode}
use Rattle.seg_ops.specs.vm_world.World.{file_blocks, file_name, is_unpushed, is_page_name, page_exists, page_table}
use Rattle.seg_ops.proofs.vm_world.PageNames.{not-slot, index-of, file-there, file-apart, file-place, page-cases, keeps-page}
use Rattle.seg_map.specs.Ends.{SetsEnd, valid_in}

-- a page that a file keeps, told by the files
record IsPageOf (files : FilesSeen) (name : PageName) (file : FileBlocks) (block : ℕ) : Type 0 where
  pub within : name.object < length files.files
  pub is : file ≡ file_blocks (vnode_at files name.object)
  pub below : name.page < page_count (vnode_at files name.object).info.extents
  pub at : block_of_page files name.object name.page ≡ block

page-of : (files : FilesSeen) (name : PageName) (file : FileBlocks) (block : ℕ) → KeepsPage (map file_blocks files.files) name file block → IsPageOf files name file block
page-of files name file block k = by_file (slice_get files.files name.object) refl (sym (slice_get-map file_blocks files.files name.object) ∙ k.number)
  where
    by_file : (o : Option VnodeSeen) → slice_get files.files name.object ≡ o → option_map file_blocks o ≡ Some file → IsPageOf files name file block
    by_file None e h = absurd (let z : ◌≡◌ {A = Option FileBlocks} None (Some file) = h in cc)
    by_file (Some v) e h =
        let same : v ≡ vnode_at files name.object = sym (index-of files.files name.object no_vnode v e) in
        let its : file ≡ file_blocks (vnode_at files name.object) = (let z : file ≡ file_blocks v = (let w : Some (file_blocks v) ≡ Some file = h in cc) in z) ∙ ap file_blocks same in
        let place : slice_get (page_blocks (vnode_at files name.object).info.extents) name.page ≡ Some block = subst (λ (f : FileBlocks). slice_get f.blocks name.page ≡ Some block) its k.place in
        let lt = slice_get_within (page_blocks (vnode_at files name.object).info.extents) name.page block place in
        let count = length-page_blocks (vnode_at files name.object).info.extents in
        record {
          within = slice_get_within files.files name.object v e;
          is = its;
          below = omega (arith, lt, count);
          at = index-of (page_blocks (vnode_at files name.object).info.extents) name.page 0 block place;
        }

-- a name with a place on a disk that a store may have is a page's
pub placed-page : (files : FilesSeen) (anon : AnonSlotsSeen) (name : PageName) → FilesFit files → (page_table files anon name).disk < 9 → IsTrue (is_page_name files anon name)
placed-page files anon name fit low = elim (place-cases (map file_blocks files.files) (length anon.counts) (is_unpushed files anon) name) [
  | inl k ↦
      let p = page-of files name k.0 k.1 k.2 in
      ap (λ (b : Bool). cond b (nat_lt name.page (length anon.counts)) (nat_lt name.page (page_count (vnode_at files name.object).info.extents))) (not-slot name.object (file-apart files name.object fit p.within)) ∙ lt-ltb name.page (page_count (vnode_at files name.object).info.extents) p.below
  | inr r ↦ elim r [
    | inr own ↦ absurd (let e = ap (λ (p : Place). p.disk) own in omega (arith, low, e))
    | inl slot ↦ by_slot slot.0 (is_slot (length anon.counts) name) refl
  ]
]
  where
    by_slot : name.object ≡ 64 → (b : Bool) → is_slot (length anon.counts) name ≡ b → IsTrue (is_page_name files anon name)
    by_slot e b b_is = elim (eqb_tells name.object 64) [
      | inr x ↦ absurd (x.1 e)
      | inl y ↦ ap (λ (c : Bool). cond c (nat_lt name.page (length anon.counts)) (nat_lt name.page (page_count (vnode_at files name.object).info.extents))) y.0 ∙ elim (lt-or name.page (length anon.counts)) [
        | inl lt ↦ lt-ltb name.page (length anon.counts) lt
        | inr le ↦ absurd (let z = past e le in omega (arith, z, low))
      ]
    ]
      where
        lt-or : (a c : ℕ) → (a < c) ⊎ (c ≤ a)
        lt-or a c = grind arith

        past : name.object ≡ 64 → length anon.counts ≤ name.page → (page_table files anon name).disk ≡ name.object + 9
        past e le = ap (λ (p : Place). p.disk) (own-past e le)
          where
            own-past : name.object ≡ 64 → length anon.counts ≤ name.page → page_table files anon name ≡ own_place name
            own-past e le =
                ap (λ (o : Option FileBlocks). unwrap_or (option_and_then (λ file. option_map (page_place file name.page (is_unpushed files anon name)) (slice_get file.blocks name.page)) o) (cond (is_slot (length anon.counts) name) (slot_place name.page (is_unpushed files anon name)) (own_place name))) (no_file e)
                ∙ ap (λ (c : Bool). cond c (slot_place name.page (is_unpushed files anon name)) (own_place name)) (no_slot le)
              where
                no_file : name.object ≡ 64 → slice_get (map file_blocks files.files) name.object ≡ None
                no_file e = elim ((slice_get_cases (map file_blocks files.files) name.object).1) [
                  | inl (v, inside, at, same) ↦ absurd (let few = fit.disjoint.few in omega (arith, inside, few, e))
                  | inr (far, none) ↦ none
                ]

                no_slot : length anon.counts ≤ name.page → is_slot (length anon.counts) name ≡ false
                no_slot le = elim (eqb_tells name.object 64) [
                  | inr x ↦ ap (λ (c : Bool). c && nat_lt name.page (length anon.counts)) x.0
                  | inl y ↦ ap (λ (c : Bool). c && nat_lt name.page (length anon.counts)) y.0 ∙ le-ltb name.page (length anon.counts) le
                ]

-- FILES THAT LIE ON THEIR DISKS, apart, fit.
pub lie-fit : (files : FilesSeen) → ((number blocks : ℕ) → finite.get files.disks number ≡ Some blocks → blocks < 2 ^ 20) → ((f : ℕ) → f < length files.files → IsSoundVnode (vnode_at files f)) → length files.files ≤ 64 → ((f : ℕ) → f < length files.files → (vnode_at files f).info.disk < 8)
    → ((f : ℕ) → f < length files.files → IsSome (finite.get files.disks (vnode_at files f).info.disk)) → LieOnDisks files → NoFilesMeet files → HaveFewExtents files → ((f : ℕ) → f < length files.files → 1 ≤ length (vnode_at files f).info.extents) → FilesFit files
lie-fit files small sound few low_disks set lie apart few_extents some = record {
  small = small;
  each = sound;
  disjoint = record {
    few = let count = length-map files.files file_blocks in omega (arith, few, count);
    disks = λ name file block k. let p = page-of files name file block k in subst (λ (x : FileBlocks). x.disk < 8) (sym p.is) (low_disks name.object p.within);
    apart = λ m n x y block k l same.
        let p = page-of files m x block k in
        let q = page-of files n y block l in
        let disk : disk_of_file files m.object ≡ disk_of_file files n.object = ap (λ (z : FileBlocks). z.disk) (sym p.is) ∙ same ∙ ap (λ (z : FileBlocks). z.disk) q.is in
        let one = file_layout_law.own files apart m.object n.object m.page n.page p.within q.within disk p.below q.below (p.at ∙ sym q.at) in
        ap (λ (o : ℕ). file_name o m.page) one.0 ∙ ap (λ (i : ℕ). file_name n.object i) one.1;
  };
  set = set;
  low = λ name file block k. let p = page-of files name file block k in let on = file_layout_law.on_disks files lie name.object name.page p.within p.below in subst (λ (b : ℕ). 1 ≤ b) p.at on.0;
  high = λ name file block k.
      let p = page-of files name file block k in
      let on = file_layout_law.on_disks files lie name.object name.page p.within p.below in
      subst (λ (x : FileBlocks). block < block_count files.disks x.disk) (sym p.is) (subst (λ (b : ℕ). b < block_count files.disks (disk_of_file files name.object)) p.at on.1);
  lie = lie;
  apart = apart;
  few = few_extents;
  some = some;
}

-- each file keeps a page, and its disk is one of 0 to 7
pub first-page-of : (files : FilesSeen) (g : ℕ) → FilesFit files → g < length files.files → 0 < page_count (vnode_at files g).info.extents
first-page-of files g fit lt = some-pages (vnode_at files g).info.extents (fit.some g lt) (fit.lie g no_vnode lt).some
  where
    some-pages : (es : List Extent) → 1 ≤ length es → All (λ (e : Extent). 1 ≤ e.pages) es → 0 < page_count es
    some-pages [] le all = absurd (omega (arith, le))
    some-pages (e ∷ es) le all = let one = all 0 e (omega arith) in let z = page_count-cons e es in omega (arith, one, z)

pub low-disk-of : (files : FilesSeen) (g : ℕ) → FilesFit files → g < length files.files → (vnode_at files g).info.disk < 8
low-disk-of files g fit lt =
    fit.disjoint.disks (file_name g 0) (file_blocks (vnode_at files g)) (slice_index_or (page_blocks (vnode_at files g).info.extents) 0 0) (keeps-page files g 0 lt (first-page-of files g fit lt))

module _ (old new : FilesSeen) (anon : AnonSlotsSeen) (f n : ℕ) (extents : List Extent) (fit : FilesFit old) (k : SetsEnd old new f n extents) where
  far : f ≢ 64
  far = file-apart old f fit k.there

  same-disk : (g : ℕ) → (vnode_at new g).info.disk ≡ (vnode_at old g).info.disk
  same-disk g = elim (cases_eq g f) [
    | inl e ↦ ap (λ (x : ℕ). (vnode_at new x).info.disk) e ∙ ap (λ (m : FileMode). m.disk) k.mode ∙ sym (ap (λ (x : ℕ). (vnode_at old x).info.disk) e)
    | inr ne ↦ ap (λ (v : VnodeSeen). v.info.disk) (k.others g ne)
  ]

  pub files-end : FilesFit new
  files-end = lie-fit new (λ number blocks is. fit.small number blocks (ap (λ (m : finite.FinMap nat_cmp ℕ). finite.get m number) (sym k.disks) ∙ is))
      (λ g lt. elim (cases_eq g f) [ inl e ↦ subst (λ (x : ℕ). IsSoundVnode (vnode_at new x)) (sym e) k.sound | inr ne ↦ subst IsSoundVnode (sym (k.others g ne)) (fit.each g (subst (λ (c : ℕ). g < c) k.count lt)) ])
      (let few = fit.disjoint.few in let c = length-map old.files file_blocks in let d = k.count in omega (arith, few, c, d))
      (λ g lt. let d = same-disk g in let low = low-disk-of old g fit (subst (λ (c : ℕ). g < c) k.count lt) in omega (arith, d, low))
      (λ g lt. subst (λ (m : finite.FinMap nat_cmp ℕ). IsSome (finite.get m (vnode_at new g).info.disk)) (sym k.disks) (subst (λ (d : ℕ). IsSome (finite.get old.disks d)) (sym (same-disk g)) (fit.set g (subst (λ (c : ℕ). g < c) k.count lt))))
      (k.layout.on_disks fit.lie) (k.layout.none_meet fit.apart) (k.layout.few fit.few)
      (λ g lt. elim (cases_eq g f) [ inl e ↦ subst (λ (x : ℕ). 1 ≤ length (vnode_at new x).info.extents) (sym e) (subst (λ (es : List Extent). 1 ≤ length es) (sym k.extents_are) k.some) | inr ne ↦ subst (λ (v : VnodeSeen). 1 ≤ length v.info.extents) (sym (k.others g ne)) (fit.some g (subst (λ (c : ℕ). g < c) k.count lt)) ])

  -- a name that isn't a page of the file has its place
  pub table-beside : (name : PageName) → name.object ≢ f → page_table new anon name ≡ page_table old anon name
  table-beside name ne =
      let v = k.others name.object ne in
      let blank : is_unpushed new anon name ≡ is_unpushed old anon name = ap (λ (x : VnodeSeen). cond (name.object == 64) (not (slice_index_or anon.swapped name.page false)) (is_blank x name.page)) v in
      let blocks : slice_get (map file_blocks new.files) name.object ≡ slice_get (map file_blocks old.files) name.object = slice_get-map file_blocks new.files name.object ∙ ap (option_map file_blocks) (there name.object ne) ∙ sym (slice_get-map file_blocks old.files name.object) in
      ap (λ (o : Option FileBlocks). unwrap_or (option_and_then (λ file. option_map (page_place file name.page (is_unpushed new anon name)) (slice_get file.blocks name.page)) o) (cond (is_slot (length anon.counts) name) (slot_place name.page (is_unpushed new anon name)) (own_place name))) blocks
      ∙ ap (λ (b : Bool). unwrap_or (file_page_place (map file_blocks old.files) name b) (cond (is_slot (length anon.counts) name) (slot_place name.page b) (own_place name))) blank
    where
      there : (g : ℕ) → g ≢ f → slice_get new.files g ≡ slice_get old.files g
      there g ne = elim (lt-or g (length old.files)) [
        | inl lt ↦ file-there new g (subst (λ (c : ℕ). g < c) (sym k.count) lt) ∙ ap (λ (v : VnodeSeen). Some v) (k.others g ne) ∙ sym (file-there old g lt)
        | inr le ↦ past new.files g (let c = k.count in omega (arith, le, c)) ∙ sym (past old.files g le)
      ]
        where
          lt-or : (a c : ℕ) → (a < c) ⊎ (c ≤ a)
          lt-or a c = grind arith

          past : (vs : List VnodeSeen) (g : ℕ) → length vs ≤ g → slice_get vs g ≡ None
          past [] g le = refl
          past (v ∷ vs) zero le = absurd (omega (arith, le))
          past (v ∷ vs) (suc g) le = past vs g (omega (arith, le))

  there-new : f < length new.files
  there-new = subst (λ (c : ℕ). f < c) (sym k.count) k.there

  -- a page that the file kept
  pub place-was : (i : ℕ) → i < page_count (vnode_at old f).info.extents → page_table old anon (file_name f i) ≡ record { disk = (vnode_at old f).info.disk; block = block_at (vnode_at old f).info.extents i; valid = valid_in (vnode_at old f).info.length i; blank = is_blank (vnode_at old f) i }
  place-was i lt = file-place old anon f i k.there lt ∙ ap (λ (b : Bool). page_place (file_blocks (vnode_at old f)) i (cond b (not (slice_index_or anon.swapped i false)) (is_blank (vnode_at old f) i)) (block_at (vnode_at old f).info.extents i)) (not-slot f far)

  pub place-now : (i : ℕ) → i < page_count extents → page_table new anon (file_name f i) ≡ record { disk = (vnode_at old f).info.disk; block = block_at extents i; valid = valid_in n i; blank = is_blank (vnode_at new f) i }
  place-now i lt =
      file-place new anon f i there-new (subst (λ (es : List Extent). i < page_count es) (sym k.extents_are) lt)
      ∙ ap (λ (b : Bool). page_place (file_blocks (vnode_at new f)) i (cond b (not (slice_index_or anon.swapped i false)) (is_blank (vnode_at new f) i)) (block_at (vnode_at new f).info.extents i)) (not-slot f far)
      ∙ (λ j. record { disk = same-disk f j; block = block_at (k.extents_are j) i; valid = valid_in (k.length_is j) i; blank = is_blank (vnode_at new f) i })

  -- names of pages, and pages that exist
  pub name-grown : (name : PageName) → IsTrue (is_page_name old anon name) → IsTrue (is_page_name new anon name)
  name-grown name is = elim (cases_eq name.object f) [
    | inr ne ↦ ap (λ (v : VnodeSeen). cond (name.object == 64) (nat_lt name.page (length anon.counts)) (nat_lt name.page (page_count v.info.extents))) (k.others name.object ne) ∙ is
    | inl e ↦ elim (page-cases old anon name is) [
      | inl s ↦ absurd (far (sym e ∙ s.0))
      | inr p ↦
          let below = p.2 in let more = k.more in
          let kept : name.page < page_count (vnode_at old f).info.extents = subst (λ (g : ℕ). name.page < page_count (vnode_at old g).info.extents) e p.2 in
          ap (λ (b : Bool). cond b (nat_lt name.page (length anon.counts)) (nat_lt name.page (page_count (vnode_at new name.object).info.extents))) (not-slot name.object p.0)
          ∙ ap (λ (g : ℕ). nat_lt name.page (page_count (vnode_at new g).info.extents)) e
          ∙ ap (λ (es : List Extent). nat_lt name.page (page_count es)) k.extents_are
          ∙ lt-ltb name.page (page_count extents) (omega (arith, kept, more))
    ]
  ]

  pub exists-end : (name : PageName) → name.object ≢ f → page_exists new anon name ≡ page_exists old anon name
  exists-end name ne = ap (λ (v : VnodeSeen). cond (name.object == 64) (is_used (count_at anon name.page)) (nat_lt name.page (pages_in v.info.length))) (k.others name.object ne)

  pub exists-now : (i : ℕ) → page_exists new anon (file_name f i) ≡ nat_lt i (pages_in n)
  exists-now i = ap (λ (b : Bool). cond b (is_used (count_at anon i)) (nat_lt i (pages_in (vnode_at new f).info.length))) (not-slot f far) ∙ ap (λ (l : ℕ). nat_lt i (pages_in l)) k.length_is

  pub exists-was : (i : ℕ) → page_exists old anon (file_name f i) ≡ nat_lt i (pages_in (vnode_at old f).info.length)
  exists-was i = ap (λ (b : Bool). cond b (is_used (count_at anon i)) (nat_lt i (pages_in (vnode_at old f).info.length))) (not-slot f far)
