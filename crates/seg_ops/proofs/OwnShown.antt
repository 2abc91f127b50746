-- A PRIVATE CELL GETS THE PAGE THAT IT SHOWS as its own.
use Rattle.std.proofs.Common.{◌≡◌, ℕ, true, false, Option, Some, None, Ok, refl, sym, ap, ◌∙◌, subst}
use Rattle.std.specs.Prelude.{IsSome, option_and_then, slice_get}
use Rattle.std.specs.Option.{option_map_or, option_or}
use Rattle.vm_world.specs.vm_types.declared.call.Kind.{Kind}
use Rattle.vm_world.specs.vm_types.declared.call.Kind.TheVariants.{Shared, Private}
use Rattle.vm_world.specs.vm_types.Prot.{can_write}
use Rattle.vm_world.specs.flat_model.Access.{access_target, store, with_cell, with_page, with_page_stored}
use Rattle.vm_world.specs.flat_model.Refusals.{done_effect}
use Rattle.vm_world.specs.flat_model.Flat.{Cell, Flat, IsCell, IsFlat, cell_at, shown, pages_of}
use Rattle.vm_world.specs.flat_model.Words.{Page, IsPage, page, word_put}
use Rattle.vm_world.proofs.flat_model.Stores.{IsPage-shown, is_met, met_is, cell_at-with_cell as cell-here}
use Rattle.vm_world.proofs.FlatWhole.{some-inj}
use Rattle.seg_ops.specs.OwnPages.{with_shown, with_own_shown, OwnShownLaw}
use Rattle.seg_ops.specs.Slots.{with_own_page}
use Rattle.seg_ops.proofs.OwnPages.{flat-cell, cell-back, cell-twice}

-- what it is, by the cell
shown-is : (F : Flat) (p q : ℕ) (c : Cell) → cell_at F p q ≡ Some c → with_own_shown F p q ≡ with_shown F p q c (shown F c)
shown-is F p q c is = ap (λ (o : Option Cell). option_map_or (λ d. with_shown F p q d (shown F d)) o F) is

-- a private cell with a page of its own is well formed
cell-with : (c : Cell) (own : Page) → c.kind ≡ Private → IsPage own → IsCell (record c { own = Some own })
cell-with c own kind whole = record {
  page = λ other e. subst IsPage (some-inj own other e) whole;
  shared = λ shared. absurd (let z : Private ≡ Shared = sym kind ∙ shared in cc);
  zero = λ private object. refl;
}

law-whole : (F : Flat) (p q : ℕ) → IsFlat F → IsFlat (with_own_shown F p q)
law-whole F p q flat = by_cell (cell_at F p q) refl
  where
    by_kind : (c : Cell) (new : Page) (k : Kind) → cell_at F p q ≡ Some c → c.kind ≡ k → IsPage new → IsFlat (elim k [ Private ↦ with_cell F p q (record c { own = Some new }) | Shared ↦ F ])
    by_kind c new Shared at kind whole = flat
    by_kind c new Private at kind whole = flat-cell F p q c (record c { own = Some new }) flat at (cell-with c new kind whole)

    by_shown : (c : Cell) (o : Option Page) → cell_at F p q ≡ Some c → shown F c ≡ o → IsFlat (with_shown F p q c o)
    by_shown c None at is = flat
    by_shown c (Some new) at is = by_kind c new c.kind at refl (IsPage-shown F c new flat (flat.cells p q c at) is)

    by_cell : (o : Option Cell) → cell_at F p q ≡ o → IsFlat (option_map_or (λ c. with_shown F p q c (shown F c)) o F)
    by_cell None at = flat
    by_cell (Some c) at = by_shown c (shown F c) at refl

-- where it is private, and where it is shared
private-is : (F : Flat) (p q : ℕ) (c : Cell) (new : Page) → c.kind ≡ Private → with_shown F p q c (Some new) ≡ with_cell F p q (record c { own = Some new })
private-is F p q c new kind = ap (λ (k : Kind). elim k as (λ (a : Kind). Flat) [ Private ↦ with_cell F p q (record c { own = Some new }) | Shared ↦ F ]) kind

shared-is : (F : Flat) (p q : ℕ) (c : Cell) (o : Option Page) → c.kind ≡ Shared → with_shown F p q c o ≡ F
shared-is F p q c None kind = refl
shared-is F p q c (Some new) kind = ap (λ (k : Kind). elim k as (λ (a : Kind). Flat) [ Private ↦ with_cell F p q (record c { own = Some new }) | Shared ↦ F ]) kind

law-same : (F : Flat) (p q : ℕ) (c : Cell) → cell_at F p q ≡ Some c → (c.kind ≡ Private → IsSome c.own) → with_own_shown F p q ≡ F
law-same F p q c at own = shown-is F p q c at ∙ by_kind c.kind refl
  where
    by_own : (o : Option Page) → c.kind ≡ Private → c.own ≡ o → IsSome o → with_shown F p q c (shown F c) ≡ F
    by_own None kind is some = absurd (let z : false ≡ true = some in cc)
    by_own (Some new) kind is some =
        ap (λ (o : Option Page). with_shown F p q c (option_or o (option_and_then (λ pages. slice_get pages c.index) (pages_of F c.object)))) is
        ∙ private-is F p q c new kind
        ∙ ap (λ (o : Option Page). with_cell F p q (record c { own = o })) (sym is)
        ∙ cell-back F p q c at

    by_kind : (k : Kind) → c.kind ≡ k → with_shown F p q c (shown F c) ≡ F
    by_kind Shared kind = shared-is F p q c (shown F c) kind
    by_kind Private kind = by_own c.own kind refl (own kind)

law-gets : (F : Flat) (p q : ℕ) (c : Cell) (new : Page) → cell_at F p q ≡ Some c → c.kind ≡ Private → shown F c ≡ Some new → with_own_shown F p q ≡ with_own_page F p q new
law-gets F p q c new at kind shows =
    shown-is F p q c at ∙ ap (with_shown F p q c) shows ∙ private-is F p q c new kind
    ∙ sym (ap (λ (o : Option Cell). option_map_or (λ d. with_cell F p q (record d { own = Some new })) o F) at)

-- A STORE.
store-met : (F : Flat) (p a n v : ℕ) (c : Cell) (new : Page) → access_target F p can_write a n ≡ Ok (c, new) → store F p a n v ≡ done_effect (with_page_stored F p (page a) c (word_put new a n v))
store-met F p a n v c new met = rw met refl

law-stores : (F : Flat) (p a n v : ℕ) (c : Cell) (new : Page) → access_target F p can_write a n ≡ Ok (c, new) → store (with_own_shown F p (page a)) p a n v ≡ store F p a n v
law-stores F p a n v c new met = by_kind c.kind refl
  where
    by_kind : (k : Kind) → c.kind ≡ k → store (with_own_shown F p (page a)) p a n v ≡ store F p a n v
    by_kind Shared kind = ap (λ (G : Flat). store G p a n v) (law-same F p (page a) c (is_met F p can_write a n c new met).cell (λ private. absurd (let z : Shared ≡ Private = sym kind ∙ private in cc)))
    by_kind Private kind =
        let m = is_met F p can_write a n c new met in
        let d : Cell = record c { own = Some new } in
        let G : Flat = with_cell F p (page a) d in
        let bytes : Page = word_put new a n v in
        let there : access_target G p can_write a n ≡ Ok (d, new) = met_is G p can_write a n d new (record { aligned = m.aligned; cell = cell-here F p (page a) d; allowed = m.allowed; shows = refl }) in
        let stored : (H : Flat) (e : Cell) → e.kind ≡ Private → with_page_stored H p (page a) e bytes ≡ with_cell H p (page a) (record e { own = Some bytes }) =
        λ H e is. ap (λ (k : Kind). elim k as (λ (b : Kind). Flat) [ Shared ↦ with_page H e.object e.index bytes | Private ↦ with_cell H p (page a) (record e { own = Some bytes }) ]) is in
        ap (λ (H : Flat). store H p a n v) (shown-is F p (page a) c m.cell ∙ ap (with_shown F p (page a) c) m.shows ∙ private-is F p (page a) c new kind)
        ∙ store-met G p a n v d new there
        ∙ ap (λ (H : Flat). done_effect H) (stored G d kind ∙ cell-twice F p (page a) d (record c { own = Some bytes }) ∙ sym (stored F c kind))
        ∙ sym (store-met F p a n v c new met)

pub own_shown_law : OwnShownLaw
own_shown_law = record { whole = law-whole; same = law-same; gets = law-gets; stores = law-stores }
