-- A zero object that one part alone shows: no page that shows it has a translation where the part's have none, and no cell names it once they go.
use Rattle.std.proofs.Common.{◌≡◌, ℕ, Bool, true, false, cond, List, length, Option, Some, None, refl, sym, ap, ◌∙◌, inl, inr, subst}
use Rattle.std.specs.Prelude.{option_map, option_and_then, unwrap_or}
use Rattle.std.specs.FinMap as finite
use Rattle.std.specs.FinSet as set
use Rattle.std.specs.Ordering.{nat_cmp}
use Rattle.std.proofs.lemmas.Bool.{cases_Bool, cases_eq}
use Rattle.seg_ops.specs.vm_types.declared.call.Object.TheVariants as object
use Rattle.seg_ops.specs.addr_space.Space.{Part, begins}
use Rattle.seg_ops.proofs.addr_space.PartLists.{begins-first}
use Rattle.seg_ops.specs.anon_map.Maps.{holders_of}
use Rattle.seg_ops.specs.hat_layer.Pool.{translation_at}
use Rattle.seg_ops.specs.page_store.Notes.{Notes}
use Rattle.seg_ops.specs.flat_model.Access.{with_space}
use Rattle.seg_ops.specs.flat_model.Flat.{Cell, Flat, Space, cell_at, is_named, zero_of}
use Rattle.seg_ops.specs.flat_model.Mapping.{cells_of, without_pages}
use Rattle.seg_ops.specs.flat_model.Space.{is_in_range, without_range}
use Rattle.seg_ops.proofs.flat_model.Named.{named_zeros-to_cell}
use Rattle.seg_ops.proofs.flat_model.Ranges.{get-insert_here, get-insert_apart, get-without_range, in_range-is}
use Rattle.seg_ops.specs.vm_world.CountsFit.{SegmentFits, ObjectFits}
use Rattle.seg_ops.specs.vm_world.FlatMemory.{Memory, flat_memory, cell_of, zero_maps}
use Rattle.seg_ops.specs.vm_world.MemoryFits.{MemoryFits}
use Rattle.seg_ops.specs.vm_world.Pages.{contents_of}
use Rattle.seg_ops.specs.vm_world.SegmentSteps.{with_zero_object}
use Rattle.seg_ops.specs.vm_world.Segments.{Spot, spot_at}
use Rattle.seg_ops.specs.vm_world.SpaceSteps.{AreUnloaded}
use Rattle.seg_ops.specs.vm_world.declared.segment.Segment.{Segment}
use Rattle.seg_ops.proofs.vm_world.GoneParts.{part-zero}
use Rattle.seg_ops.proofs.vm_world.Maps.{cell-at}
use Rattle.seg_ops.proofs.vm_world.ShownZeros.{fits-shown, zero-shown, zero_map-of, zero-of-object}
use Rattle.seg_ops.proofs.vm_world.Spots.{IsSpotOf, spot-part}
use Rattle.seg_ops.proofs.vm_world.Unnamed.{pages-of-zero}
use Rattle.seg_ops.specs.Empties.{IsUnloadedZero}
use Rattle.seg_ops.proofs.SlotOwners.{places_law}

-- a cell outside the pages that go was one before, elsewhere or outside them
was-cell : (F : Flat) (p first n r k : ℕ) (d : Cell) → cell_at (with_space F p (without_range (cells_of F p) first n)) r k ≡ Some d → (cell_at F r k ≡ Some d) × (r ≡ p → is_in_range first n k ≡ false)
was-cell F p first n r k d is =
    let C : Space = without_range (cells_of F p) first n in
    elim (cases_eq r p) [
      | inr ne ↦ (sym (ap (option_and_then (λ (s : Space). finite.get s k)) (get-insert_apart F.spaces p C r ne)) ∙ is, λ e. absurd (ne e))
      | inl e ↦
          let here : finite.get C k ≡ Some d = sym (ap (λ (j : ℕ). option_and_then (λ (s : Space). finite.get s k) (finite.get (finite.insert F.spaces p C) j)) e ∙ ap (option_and_then (λ (s : Space). finite.get s k)) (get-insert_here F.spaces p C)) ∙ is in
          by_range e (is_in_range first n k) refl (sym (get-without_range (cells_of F p) first n k) ∙ here)
    ]
  where
    of_space : (o : Option Space) → finite.get (unwrap_or o finite.empty) k ≡ Some d → option_and_then (λ (s : Space). finite.get s k) o ≡ Some d
    of_space None is = absurd (let z : None ≡ Some d = sym (finite.get-empty nat_cmp k) ∙ is in cc)
    of_space (Some s) is = is

    by_range : r ≡ p → (b : Bool) → is_in_range first n k ≡ b → cond b None (finite.get (cells_of F p) k) ≡ Some d → (cell_at F r k ≡ Some d) × (r ≡ p → is_in_range first n k ≡ false)
    by_range e true t is = absurd (let z : None ≡ Some d = is in cc)
    by_range e false t is = (ap (λ (j : ℕ). cell_at F j k) e ∙ of_space (finite.get F.spaces p) is, λ same. t)

-- the spot of a cell that names a zero object shows its map
module _ (m : Memory) (fits : MemoryFits m) where
  abbrev files : ℕ
  files = length m.world.files.files

  shows-map : (z n r k : ℕ) (x : Spot) → finite.get (zero_maps m.spaces) z ≡ Some n → spot_at m.spaces r k ≡ Some x → x.0.object ≡ object.Zero z → x.0.shown ≡ Some n
  shows-map z n r k x is here object =
      let s : IsSpotOf (SegmentFits files m.world.maps) k x = spot-part (SegmentFits files m.world.maps) m.spaces r k x fits.segments.ordered fits.segments.each here in
      let f = subst (λ (y : Segment). ObjectFits files m.world.maps y y.object) s.piece s.fits.object in
      let own = zero-shown m.world.maps files x.0 x.0.object z object f in
      let at = fits-shown files m.world.anon m.world.maps m.spaces fits.segments z own.0 (record { process = r; page = k; spot = x; here = here; shows = zero_map-of x.0 z own.0 object own.1 }) in
      own.1 ∙ sym at ∙ is

  names-map : (born : set.FinSet nat_cmp) (notes : Notes) (z n r k : ℕ) (d : Cell) → finite.get (zero_maps m.spaces) z ≡ Some n → cell_at (flat_memory m born notes) r k ≡ Some d → zero_of d ≡ Some z
      → (x : Spot) × (spot_at m.spaces r k ≡ Some x) × (x.0.shown ≡ Some n)
  names-map born notes z n r k d is at names = by_spot (spot_at m.spaces r k) refl (sym (cell-at (contents_of m.world notes).place m.spaces r k) ∙ at)
    where
      by_spot : (o : Option Spot) → spot_at m.spaces r k ≡ o → option_map (cell_of (contents_of m.world notes).place) o ≡ Some d → (x : Spot) × (spot_at m.spaces r k ≡ Some x) × (x.0.shown ≡ Some n)
      by_spot None e d_is = absurd (let z : None ≡ Some d = d_is in cc)
      by_spot (Some x) e d_is =
          let same : cell_of (contents_of m.world notes).place x ≡ d = let z : Some (cell_of (contents_of m.world notes).place x) ≡ Some d = d_is in cc in
          (x, e, shows-map z n r k x is e (zero-of-object x.0.object z (ap zero_of same ∙ names)))

-- THE LAST PART that shows a zero object
module _ (m : Memory) (p first : ℕ) (parts : List (Part Segment)) (a : Part Segment) (fits : MemoryFits m) (is : finite.get m.spaces p ≡ Some parts) (starts : begins parts first ≡ Some a)
    (z n : ℕ) (object : a.piece.object ≡ object.Zero z) (shows : a.piece.shown ≡ Some n) where
  pub object-map : finite.get (zero_maps m.spaces) z ≡ Some n
  object-map = part-zero m.spaces p parts a fits.segments.zeros is (ap (begins parts) (begins-first parts first a starts) ∙ starts) z n object shows

  module _ (held : holders_of m.world.maps n ≡ 1) where
    pub object-unloaded : AreUnloaded m.world.hat.places p a.first a.pages → IsUnloadedZero m.world.hat.places m.spaces z n
    object-unloaded none = record {
      zero = object-map;
      unloaded = λ r k x here its.
          let l = places_law.last m p first n parts a fits is starts shows held r k x here its in
          ap (λ (j : ℕ). translation_at m.world.hat.places j k) l.0 ∙ none k l.1 l.2;
    }

    pub object-goes : (born : set.FinSet nat_cmp) (notes : Notes) (size : ℕ) → without_pages (with_zero_object (flat_memory m born notes) z size) p a.first a.pages ≡ without_pages (flat_memory m born notes) p a.first a.pages
    object-goes born notes size =
        let F : Flat = flat_memory m born notes in
        let U : Flat = with_space F p (without_range (cells_of F p) a.first a.pages) in
        pages-of-zero F p a.first a.pages z size (elim (cases_Bool (is_named U z)) [
          | inr none ↦ none
          | inl named ↦ absurd (
              let c = named_zeros-to_cell U z named in
              let w = was-cell F p a.first a.pages c.process c.page c.cell c.stands in
              let x = names-map m fits born notes z n c.process c.page c.cell object-map w.0 c.names in
              let l = places_law.last m p first n parts a fits is starts shows held c.process c.page x.0 x.1 x.2 in
              let e : true ≡ false = sym (in_range-is a.first a.pages c.page l.1 l.2) ∙ w.1 l.0 in cc)
        ])
