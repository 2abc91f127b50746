-- LAWS OF OWN PAGES in flat memory.
use Rattle.vm_world.proofs.flat_model.Bytes.{All-slice_get as all-get}
use Rattle.std.proofs.Common.{◌≡◌, ◌≢◌, ℕ, zero, suc, ◌+◌, ◌<◌, Bool, true, false, cond, [], length, Option, Some, None, refl, sym, ap, ◌∙◌, inl, inr, subst, arith}
use Rattle.std.specs.Prelude.{option_map, slice_get, unwrap_or}
use Rattle.std.specs.Option.{option_map_or}
use Rattle.std.specs.Ordering.{nat_cmp}
use Rattle.std.specs.Cmp.{nat_cmp_total}
use Rattle.std.specs.FinMap as finite
use Rattle.std.specs.FinSet as set
use Rattle.std.proofs.lemmas.Bool.{cases_eq, cases_Bool}
use Rattle.page_store.specs.Notes.{Notes}
use Rattle.vm_world.specs.vnode_files.declared.vnode.FileInfo.{FileInfo}
use Rattle.vm_world.specs.vnode_files.Files.{vnode_at}
use Rattle.vm_world.specs.vnode_files.Vnode.{VnodeSeen, no_vnode}
use Rattle.std.proofs.lemmas.Option.{slice_get-map, slice_get-get_or}
use Rattle.vm_world.specs.flat_model.Access.{with_cell, with_space}
use Rattle.vm_world.specs.flat_model.Flat.{Cell, Space, Flat, IsFile, IsFlat, cell_at}
use Rattle.vm_world.specs.flat_model.Mapping.{cells_of}
use Rattle.vm_world.specs.flat_model.Space.{is_in_range, without_range}
use Rattle.vm_world.specs.flat_model.Words.{Page, IsPage, pages_in}
use Rattle.vm_world.proofs.flat_model.Ranges.{get-insert_here, get-insert_apart, get-without_range, in_range-is, in_range-low, in_range-high}
use Rattle.vm_world.specs.vm_types.declared.call.Kind.TheVariants.{Shared, Private}
use Rattle.vm_world.specs.FlatMemory.{Memory, flat_memory, shape_of, file_with_pages, files_with_pages, pages_from}
use Rattle.vm_world.specs.MemoryFits.{MemoryFits}
use Rattle.vm_world.specs.Pages.{page_value, contents_of}
use Rattle.vm_world.specs.World.{file_name}
use Rattle.vm_world.proofs.FilePages.{page-in, file-in}
use Rattle.vm_world.proofs.FlatWhole.{some-inj}
use Rattle.vm_world.proofs.PageNames.{not-slot, file-apart}
use Rattle.seg_ops.specs.OwnPages.{own_at_empty_place, without_own_pages, OwnPagesLaw}
use Rattle.seg_ops.specs.Slots.{with_own_page}
use Rattle.seg_ops.proofs.OwnPages.{flat-cell, flat-unheld_all}

-- a private cell gets a page
law-got : (F : Flat) (p q : ℕ) (c : Cell) (own : Page) → IsFlat F → cell_at F p q ≡ Some c → c.kind ≡ Private → IsPage own → IsFlat (with_own_page F p q own)
law-got F p q c own flat is kind page =
    subst IsFlat (sym (ap (λ (o : Option Cell). option_map_or (λ d. with_cell F p q (record d { own = Some own })) o F) is))
    (flat-cell F p q c (record c { own = Some own }) flat is (record {
      page = λ other e. subst IsPage (some-inj own other e) page;
      shared = λ shared. absurd (let z : Private ≡ Shared = sym kind ∙ shared in cc);
      zero = λ private object. refl;
    }))

-- WHAT A RANGE OF CELLS LOSES: the spaces of other processes stay, and the other cells of this one.
record LosesRange (F G : Flat) (p first n : ℕ) : Type 0 where
  pub spaces : finite.FinMap nat_cmp Space
  pub same : G ≡ record F { spaces = spaces }
  pub others : (r : ℕ) → r ≢ p → finite.get spaces r ≡ finite.get F.spaces r
  pub cells : (q : ℕ) → is_in_range first n q ≡ false → finite.get (unwrap_or (finite.get spaces p) finite.empty) q ≡ finite.get (cells_of F p) q

range-grows : (first n q : ℕ) → is_in_range first (suc n) q ≡ false → (is_in_range first n q ≡ false) × (q ≢ first + n)
range-grows first n q out = (
  elim (cases_Bool (is_in_range first n q)) [
    | inr o ↦ o
    | inl i ↦ absurd (let low = in_range-low first n q i in let high = in_range-high first n q i in let z : true ≡ false = sym (in_range-is first (suc n) q low (omega (arith, high))) ∙ out in cc)
  ],
  λ e. let z : true ≡ false = sym (in_range-is first (suc n) q (omega (arith, e)) (omega (arith, e))) ∙ out in cc,
)

loses-range : (F : Flat) (p first n : ℕ) → LosesRange F (without_own_pages F p first n) p first n
loses-range F p first zero = record { spaces = F.spaces; same = refl; others = λ r ne. refl; cells = λ q out. refl }
loses-range F p first (suc n) = by_cell (loses-range F p first n) (cell_at (without_own_pages F p first n) p (first + n)) refl
  where
    by_cell : LosesRange F (without_own_pages F p first n) p first n → (o : Option Cell) → cell_at (without_own_pages F p first n) p (first + n) ≡ o
        → LosesRange F (option_map_or (λ c. with_cell (without_own_pages F p first n) p (first + n) (record c { own = own_at_empty_place c })) o (without_own_pages F p first n)) p first (suc n)
    by_cell l None e = record { spaces = l.spaces; same = l.same; others = l.others; cells = λ q out. l.cells q (range-grows first n q out).0 }
    by_cell l (Some c) e =
        let d : Cell = record c { own = own_at_empty_place c } in
        let t : Space = finite.insert (unwrap_or (finite.get l.spaces p) finite.empty) (first + n) d in
        record {
          spaces = finite.insert l.spaces p t;
          same = ap (λ (G : Flat). with_cell G p (first + n) d) l.same;
          others = λ r ne. get-insert_apart l.spaces p t r ne ∙ l.others r ne;
          cells = λ q out.
              let o = range-grows first n q out in
              ap (λ (x : Option Space). finite.get (unwrap_or x finite.empty) q) (get-insert_here l.spaces p t) ∙ get-insert_apart (unwrap_or (finite.get l.spaces p) finite.empty) (first + n) d q o.1 ∙ l.cells q o.0;
        }

-- and the cells that go
law-removed : (F : Flat) (p first n : ℕ) → with_space (without_own_pages F p first n) p (without_range (cells_of (without_own_pages F p first n) p) first n) ≡ with_space F p (without_range (cells_of F p) first n)
law-removed F p first n =
    let l = loses-range F p first n in
    let s : Space = unwrap_or (finite.get l.spaces p) finite.empty in
    let cells : without_range s first n ≡ without_range (cells_of F p) first n =
    finite.same_map nat_cmp_total finite.nat_cmp-IsAntisymmetric _ _ (λ q. get-without_range s first n q ∙ by_range q (is_in_range first n q) refl ∙ sym (get-without_range (cells_of F p) first n q)) in
    let spaces : finite.insert l.spaces p (without_range s first n) ≡ finite.insert F.spaces p (without_range (cells_of F p) first n) =
    finite.same_map nat_cmp_total finite.nat_cmp-IsAntisymmetric _ _ (λ r. elim (cases_eq r p) [
      | inl e ↦
          ap (finite.get (finite.insert l.spaces p (without_range s first n))) e ∙ get-insert_here l.spaces p (without_range s first n) ∙ ap (λ (x : Space). Some x) cells
          ∙ sym (get-insert_here F.spaces p (without_range (cells_of F p) first n)) ∙ ap (finite.get (finite.insert F.spaces p (without_range (cells_of F p) first n))) (sym e)
      | inr ne ↦ get-insert_apart l.spaces p (without_range s first n) r ne ∙ l.others r ne ∙ sym (get-insert_apart F.spaces p (without_range (cells_of F p) first n) r ne)
    ]) in
    ap (λ (G : Flat). with_space G p (without_range (cells_of G p) first n)) l.same ∙ ap (λ x. record F { spaces = x }) spaces
  where
    by_range : (q : ℕ) (b : Bool) → is_in_range first n q ≡ b → cond (is_in_range first n q) None (finite.get (unwrap_or (finite.get (loses-range F p first n).spaces p) finite.empty) q) ≡ cond (is_in_range first n q) None (finite.get (cells_of F p) q)
    by_range q true e = ap (λ (b : Bool). cond b None (finite.get (unwrap_or (finite.get (loses-range F p first n).spaces p) finite.empty) q)) e ∙ sym (ap (λ (b : Bool). cond b None (finite.get (cells_of F p) q)) e)
    by_range q false e = ap (cond (is_in_range first n q) None) ((loses-range F p first n).cells q e)

-- A PAGE THAT A FILE HAS is one.
law-page : (m : Memory) (born : set.FinSet nat_cmp) (notes : Notes) (f index : ℕ) → MemoryFits m → IsFlat (flat_memory m born notes) → f < length m.world.files.files → index < pages_in (vnode_at m.world.files f).info.length
    → IsPage (page_value m.world notes (file_name f index))
law-page m born notes f index fits flat lt below =
    let far = file-apart m.world.files f fits.files lt in
    let contents : ℕ → ℕ → Page = (contents_of m.world notes).file in
    let info : FileInfo = (vnode_at m.world.files f).info in
    let file : IsFile (file_with_pages (contents f) info) = all-get IsFile (files_with_pages contents 0 (shape_of m).files) f (file_with_pages (contents f) info) flat.files at_file in
    let page : IsPage (contents f index) = all-get IsPage (pages_from (contents f) 0 (pages_in info.length)) index (contents f index) file.pages (at_page contents (pages_in info.length) below) in
    subst IsPage (ap (λ (b : Bool). cond b [] (page_value m.world notes (file_name f index))) (not-slot f far)) page
  where
    at_page : (contents : ℕ → ℕ → Page) (n : ℕ) → index < n → slice_get (pages_from (contents f) 0 n) index ≡ Some (contents f index)
    at_page contents n low = let z : 0 + index ≡ index = omega arith in page-in (contents f) 0 n index low ∙ ap (λ (a : ℕ). Some (contents f a)) z

    at_file : slice_get (files_with_pages (contents_of m.world notes).file 0 (shape_of m).files) f ≡ Some (file_with_pages ((contents_of m.world notes).file f) (vnode_at m.world.files f).info)
    at_file =
        let page : ℕ → ℕ → Page = (contents_of m.world notes).file in
        let z : 0 + f ≡ f = omega arith in
        file-in page 0 f (shape_of m).files
        ∙ ap (λ (j : ℕ). option_map (file_with_pages (page j)) (slice_get (shape_of m).files f)) z
        ∙ ap (option_map (file_with_pages (page f))) (slice_get-map (λ (v : VnodeSeen). v.info) m.world.files.files f ∙ ap (option_map (λ (v : VnodeSeen). v.info)) (slice_get-get_or m.world.files.files f no_vnode lt))

pub own_pages_law : OwnPagesLaw
own_pages_law = record { lost = flat-unheld_all; got = law-got; removed = law-removed; page = law-page }
