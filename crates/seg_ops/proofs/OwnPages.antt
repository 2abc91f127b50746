-- A CELL LOSES ITS OWN PAGE AND GETS ONE: flat memory stays well formed, and is as it was where the page is the same.
use Rattle.vm_world.proofs.flat_model.Stores.{cell_at-with_cell as cell-here}
use Rattle.vm_world.proofs.Maps.{insert-twice as twice}
use Rattle.std.proofs.Common.{◌≡◌, ℕ, zero, suc, ◌+◌, Option, Some, None, refl, sym, ap, ◌∙◌, inl, inr, subst}
use Rattle.std.specs.Prelude.{option_and_then, is_some, unwrap_or, IsSome}
use Rattle.std.specs.Option.{option_map_or}
use Rattle.std.specs.Ordering.{nat_cmp}
use Rattle.std.specs.Cmp.{nat_cmp_total}
use Rattle.std.specs.FinMap as finite
use Rattle.std.proofs.lemmas.Bool.{cases_eq}
use Rattle.vm_world.specs.vm_types.declared.call.Kind.{Kind}
use Rattle.vm_world.specs.vm_types.declared.call.Kind.TheVariants.{Shared, Private}
use Rattle.vm_world.specs.vm_types.declared.call.Object.{Object}
use Rattle.vm_world.specs.vm_types.declared.call.Object.TheVariants as object
use Rattle.vm_world.specs.vm_types.Pages.{IsUserPage}
use Rattle.vm_world.specs.flat_model.Access.{with_cell}
use Rattle.vm_world.specs.flat_model.Flat.{Cell, Space, Flat, IsCell, IsFlat, space_of, cell_at}
use Rattle.vm_world.specs.flat_model.Words.{Page, IsPage, zero_page}
use Rattle.vm_world.proofs.flat_model.Ranges.{get-insert_here, get-insert_apart, insert_same}
use Rattle.vm_world.proofs.flat_model.WellFormed.{IsPage-zero_page, IsFlat-with_space as flat-with_space}
use Rattle.vm_world.specs.FlatMemory.{own_without_slot}
use Rattle.vm_world.proofs.FlatWhole.{some-inj}
use Rattle.seg_ops.specs.OwnPages.{own_at_empty_place, without_own_page, without_own_pages}
use Rattle.seg_ops.specs.Slots.{with_own_page}

-- a cell without its own page is well formed
cell-unheld : (c : Cell) → IsCell c → IsCell (record c { own = own_at_empty_place c })
cell-unheld c is = record {
  page = λ own e. by_kind c.kind own e;
  shared = λ kind. ap (λ (k : Kind). elim k as (λ (a : Kind). Option Page) [ Private ↦ own_without_slot c.object | Shared ↦ None ]) kind;
  zero = λ kind ob. subst (λ (o : Option Page). IsSome o) (sym (ap (λ (k : Kind). elim k as (λ (a : Kind). Option Page) [ Private ↦ own_without_slot c.object | Shared ↦ None ]) kind ∙ ap own_without_slot ob)) refl;
}
  where
    by_object : (o : Object) (own : Page) → own_without_slot o ≡ Some own → IsPage own
    by_object object.NewZero own e = subst IsPage (some-inj zero_page own e) IsPage-zero_page
    by_object (object.File f) own e = absurd (let z : None ≡ Some own = e in cc)
    by_object (object.Zero z) own e = absurd (let z : None ≡ Some own = e in cc)

    by_kind : (k : Kind) (own : Page) → elim k as (λ (a : Kind). Option Page) [ Private ↦ own_without_slot c.object | Shared ↦ None ] ≡ Some own → IsPage own
    by_kind Private own e = by_object c.object own e
    by_kind Shared own e = absurd (let z : None ≡ Some own = e in cc)

space_is : (F : Flat) (p q : ℕ) (c : Cell) → cell_at F p q ≡ Some c → (s : Space) × (space_of F p ≡ Some s) × (finite.get s q ≡ Some c)
space_is F p q c is = by_space (space_of F p) refl is
  where
    by_space : (o : Option Space) → space_of F p ≡ o → option_and_then (λ s. finite.get s q) o ≡ Some c → (s : Space) × (space_of F p ≡ Some s) × (finite.get s q ≡ Some c)
    by_space None e is = absurd (let z : None ≡ Some c = is in cc)
    by_space (Some s) e is = (s, e, is)

-- FLAT MEMORY stays well formed with a cell in place of another.
pub flat-cell : (F : Flat) (p q : ℕ) (old new : Cell) → IsFlat F → cell_at F p q ≡ Some old → IsCell new → IsFlat (with_cell F p q new)
flat-cell F p q old new flat is whole =
    let at = space_is F p q old is in
    let same : unwrap_or (space_of F p) finite.empty ≡ at.0 = ap (λ (o : Option Space). unwrap_or o finite.empty) at.1 in
    flat-with_space F p (finite.insert (unwrap_or (space_of F p) finite.empty) q new) flat (ap is_some at.1) (λ r c there. elim (cases_eq r q) [
      | inl e ↦ (
        subst IsUserPage (sym e) (flat.pages p q old is),
        subst IsCell (some-inj new c (sym (get-insert_here (unwrap_or (space_of F p) finite.empty) q new) ∙ ap (finite.get (finite.insert (unwrap_or (space_of F p) finite.empty) q new)) (sym e) ∙ there)) whole,
      )
      | inr ne ↦
          let here : cell_at F p r ≡ Some c = ap (option_and_then (λ (s : Space). finite.get s r)) at.1 ∙ ap (λ (s : Space). finite.get s r) (sym same) ∙ sym (get-insert_apart (unwrap_or (space_of F p) finite.empty) q new r ne) ∙ there in
          (flat.pages p r c here, flat.cells p r c here)
    ])

pub flat-unheld : (F : Flat) (p q : ℕ) → IsFlat F → IsFlat (without_own_page F p q)
flat-unheld F p q flat = by_cell (cell_at F p q) refl
  where
    by_cell : (o : Option Cell) → cell_at F p q ≡ o → IsFlat (option_map_or (λ c. with_cell F p q (record c { own = own_at_empty_place c })) o F)
    by_cell None e = flat
    by_cell (Some c) e = flat-cell F p q c (record c { own = own_at_empty_place c }) flat e (cell-unheld c (flat.cells p q c e))

pub flat-unheld_all : (F : Flat) (p first n : ℕ) → IsFlat F → IsFlat (without_own_pages F p first n)
flat-unheld_all F p first zero flat = flat
flat-unheld_all F p first (suc n) flat = flat-unheld (without_own_pages F p first n) p (first + n) (flat-unheld_all F p first n flat)

pub cell-twice : (F : Flat) (p q : ℕ) (a b : Cell) → with_cell (with_cell F p q a) p q b ≡ with_cell F p q b
cell-twice F p q a b =
    let s : Space = unwrap_or (space_of F p) finite.empty in
    let t : Space = finite.insert s q a in
    let mine : unwrap_or (finite.get (finite.insert F.spaces p t) p) finite.empty ≡ t = ap (λ (o : Option Space). unwrap_or o finite.empty) (get-insert_here F.spaces p t) in
    ap (λ (x : Space). record F { spaces = finite.insert (finite.insert F.spaces p t) p (finite.insert x q b) }) mine
    ∙ ap (λ (x : Space). record F { spaces = finite.insert (finite.insert F.spaces p t) p x }) (twice s q a b)
    ∙ ap (λ x. record F { spaces = x }) (twice F.spaces p t (finite.insert s q b))

pub cell-back : (F : Flat) (p q : ℕ) (c : Cell) → cell_at F p q ≡ Some c → with_cell F p q c ≡ F
cell-back F p q c is =
    let at = space_is F p q c is in
    let same : unwrap_or (space_of F p) finite.empty ≡ at.0 = ap (λ (o : Option Space). unwrap_or o finite.empty) at.1 in
    ap (λ (x : Space). record F { spaces = finite.insert F.spaces p (finite.insert x q c) }) same
    ∙ ap (λ (x : Space). record F { spaces = finite.insert F.spaces p x }) (insert_same at.0 q c at.2)
    ∙ ap (λ x. record F { spaces = x }) (insert_same F.spaces p at.0 at.1)

-- THE PAGE THAT A CELL HAD, given back.
pub own-back : (F : Flat) (p q : ℕ) (c : Cell) (own : Page) → cell_at F p q ≡ Some c → c.own ≡ Some own → with_own_page (without_own_page F p q) p q own ≡ F
own-back F p q c own is had =
    let bare : Cell = record c { own = own_at_empty_place c } in
    ap (λ (G : Flat). with_own_page G p q own) (ap (λ (o : Option Cell). option_map_or (λ d. with_cell F p q (record d { own = own_at_empty_place d })) o F) is)
    ∙ ap (λ (o : Option Cell). option_map_or (λ d. with_cell (with_cell F p q bare) p q (record d { own = Some own })) o (with_cell F p q bare)) (cell-here F p q bare)
    ∙ cell-twice F p q bare (record c { own = Some own })
    ∙ ap (λ (o : Option Page). with_cell F p q (record c { own = o })) (sym had)
    ∙ cell-back F p q c is
