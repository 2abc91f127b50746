-- Flat memory is well formed where its pages are pages.
use Rattle.std.proofs.Common.{◌≡◌, ℕ, ◌<◌, ◌≤◌, Bool, cond, List, [], length, Option, Some, None, refl, sym, ap, ◌∙◌, subst, arith}
use Rattle.std.specs.Prelude.{option_map, option_and_then, slice_get, unwrap_or, All, IsSome, IsTrue}
use Rattle.std.specs.Option.{option_or}
use Rattle.std.specs.Ordering.{nat_cmp}
use Rattle.std.specs.FinMap as finite
use Rattle.std.specs.FinSet as set
use Rattle.flat_model.specs.vm_types.declared.call.Kind.{Kind}
use Rattle.flat_model.specs.vm_types.declared.call.Object.{Object}
use Rattle.flat_model.specs.vm_types.declared.call.Object.TheVariants as object
use Rattle.addr_space.specs.Space.{Part}
use Rattle.page_store.specs.page_hash.declared.PageName.{PageName}
use Rattle.page_store.specs.Notes.{Notes}
use Rattle.flat_model.specs.vnode_files.declared.vnode.FileInfo.{FileInfo}
use Rattle.flat_model.specs.vnode_files.Files.{vnode_at}
use Rattle.flat_model.specs.Words.{Page, IsPage, zero_page, pages_in}
use Rattle.flat_model.specs.Flat.{Cell, IsCell, IsFile, IsFlat}
use Rattle.flat_model.proofs.WellFormed.{IsPage-zero_page}
use Rattle.vm_world.specs.World.{World, slot_in, slot_name, file_name, is_page_name}
use Rattle.vm_world.specs.Pages.{page_value, contents_of}
use Rattle.vm_world.specs.Segments.{Segment, Spot, spot_at}
use Rattle.vm_world.specs.FlatMemory.{Memory, flat_memory, shape_of, cell_of, own_page, own_without_slot, space_with, zero_pages, zero_maps, file_with_pages}
use Rattle.vm_world.specs.CountsFit.{SegmentFits, OwnFits}
use Rattle.vm_world.specs.MemoryFits.{MemoryFits}
use Rattle.vm_world.proofs.Maps.{get-map_with, cell-at}
use Rattle.vm_world.proofs.FilePages.{length-pages_from, each-page, each-file}
use Rattle.vm_world.proofs.Counts.{held-used, used-below}
use Rattle.vm_world.proofs.PageNames.{not-slot, info-there, file-apart, file-page, slot-page, below-kept}
use Rattle.vm_world.proofs.Spots.{IsSpotOf, spot-part}

pub some-inj : {A : Type 0} (x y : A) → ◌≡◌ {A = Option A} (Some x) (Some y) → x ≡ y
some-inj x y e = cc

-- every name of a page has a page as its value
abbrev pub HasPages : World → Notes → Type 0
HasPages w notes = (name : PageName) → IsTrue (is_page_name w.files w.anon name) → IsPage (page_value w notes name)

module _ (m : Memory) (notes : Notes) (fit : MemoryFits m) (pages : HasPages m.world notes) where
  -- the page of the slot that a place holds
  held-page : (number place : ℕ) (own : Page) → (contents_of m.world notes).place number place ≡ Some own → IsPage own
  held-page number place own is = by_slot (slot_in m.world.maps number place) refl is
    where
      by_slot : (o : Option ℕ) → slot_in m.world.maps number place ≡ o → option_map (λ slot. page_value m.world notes (slot_name slot)) o ≡ Some own → IsPage own
      by_slot None e is = absurd (cc)
      by_slot (Some s) e is =
          let below = used-below m.world.anon.counts s (held-used m.world.anon m.world.maps number place s fit.counts e) in
          subst IsPage (some-inj (page_value m.world notes (slot_name s)) own is) (pages (slot_name s) (slot-page m.world.files m.world.anon s below))

  own-page : (x : Spot) (own : Page) → own_page (contents_of m.world notes).place x ≡ Some own → IsPage own
  own-page x own is = by_map x.0.own is
    where
      without : (o : Object) → own_without_slot o ≡ Some own → IsPage own
      without object.NewZero e = subst IsPage (some-inj zero_page own e) IsPage-zero_page
      without (object.File f) e = absurd (cc)
      without (object.Zero z) e = absurd (cc)

      by_held : (number : ℕ) (o : Option Page) → (contents_of m.world notes).place number x.1 ≡ o → option_or o (own_without_slot x.0.object) ≡ Some own → IsPage own
      by_held number None e is = without x.0.object is
      by_held number (Some page) e is = held-page number x.1 own (e ∙ is)

      by_map : (o : Option ℕ) → option_and_then (λ number. option_or ((contents_of m.world notes).place number x.1) (own_without_slot x.0.object)) o ≡ Some own → IsPage own
      by_map None is = absurd (cc)
      by_map (Some number) is = by_held number ((contents_of m.world notes).place number x.1) refl is

  pub cell-whole : (p q : ℕ) (x : Spot) → spot_at m.spaces p q ≡ Some x → IsCell (cell_of (contents_of m.world notes).place x)
  cell-whole p q x here =
      let held : ℕ → ℕ → Option Page = (contents_of m.world notes).place in
      let s : IsSpotOf (SegmentFits (length m.world.files.files) m.world.maps) q x = spot-part (SegmentFits (length m.world.files.files) m.world.maps) m.spaces p q x fit.segments.ordered fit.segments.each here in
      let own : OwnFits m.world.maps x.0 x.0.kind = subst (λ (y : Segment). OwnFits m.world.maps y y.kind) s.piece s.fits.own in
      record {
        page = own-page x;
        shared = λ kind. ap (option_and_then (λ number. option_or (held number x.1) (own_without_slot x.0.object))) (subst (λ (k : Kind). OwnFits m.world.maps x.0 k) kind own);
        zero = λ kind zero_object.
            let mine = subst (λ (k : Kind). OwnFits m.world.maps x.0 k) kind own in
            subst (λ (o : Option ℕ). IsSome (option_and_then (λ number. option_or (held number x.1) (own_without_slot x.0.object)) o)) (sym mine.1)
            (subst (λ (o : Object). IsSome (option_or (held mine.0 x.1) (own_without_slot o))) (sym zero_object) (some_or (held mine.0 x.1)));
      }
    where
      some_or : (o : Option Page) → IsSome (option_or o (Some zero_page))
      some_or None = refl
      some_or (Some page) = refl

  file-whole : (f : ℕ) (info : FileInfo) → slice_get (shape_of m).files f ≡ Some info → IsFile (file_with_pages ((contents_of m.world notes).file f) info)
  file-whole f info is =
      let at = info-there m.world.files f info is in
      subst (λ (i : FileInfo). IsFile (file_with_pages ((contents_of m.world notes).file f) i)) at.1 (whole at.0)
    where
      whole : f < length m.world.files.files → IsFile (file_with_pages ((contents_of m.world notes).file f) (vnode_at m.world.files f).info)
      whole lt =
          let far = file-apart m.world.files f fit.files lt in
          let n : ℕ = pages_in (vnode_at m.world.files f).info.length in
          record {
            count = length-pages_from ((contents_of m.world notes).file f) 0 n;
            pages = each-page IsPage ((contents_of m.world notes).file f) n (λ i below.
                let kept = below-kept (vnode_at m.world.files f) i (fit.files.each f lt) below in
                subst IsPage (ap (λ (b : Bool). cond b [] (page_value m.world notes (file_name f i))) (sym (not-slot f far)))
                (pages (file_name f i) (file-page m.world.files m.world.anon f i far kept)));
          }

  -- WHERE PAGES ARE PAGES, flat memory is well formed.
  pub flat-whole : (born : set.FinSet nat_cmp) → ((p : ℕ) → IsSome (finite.get m.spaces p) → IsTrue (set.contains born p)) → IsFlat (flat_memory m born notes)
  flat-whole born alive =
      let held : ℕ → ℕ → Option Page = (contents_of m.world notes).place in
      record {
        pages = λ p q c is. by_spot p q c (spot_at m.spaces p q) refl (sym (cell-at held m.spaces p q) ∙ is);
        cells = λ p q c is. by_cell p q c (spot_at m.spaces p q) refl (sym (cell-at held m.spaces p q) ∙ is);
        files = each-file IsFile (contents_of m.world notes).file (shape_of m).files file-whole;
        zeros = λ z ps is. by_zero ps (finite.get (zero_maps m.spaces) z) (sym (get-map_with (zero_pages held (shape_of m).lengths) (zero_maps m.spaces) z) ∙ is);
        born = λ p is. alive p (some_space (finite.get m.spaces p) (subst IsSome (get-map_with (space_with held) m.spaces p) is));
      }
    where
      by_spot : (p q : ℕ) (c : Cell) (o : Option Spot) → spot_at m.spaces p q ≡ o → option_map (cell_of (contents_of m.world notes).place) o ≡ Some c → (1 ≤ q) × (q ≤ 0x7ffff)
      by_spot p q c None e is = absurd (cc)
      by_spot p q c (Some x) e is =
          let s = spot-part (SegmentFits (length m.world.files.files) m.world.maps) m.spaces p q x fit.segments.ordered fit.segments.each e in
          let user = s.user in
          (user.0, let h = user.1 in omega (arith, h))

      by_cell : (p q : ℕ) (c : Cell) (o : Option Spot) → spot_at m.spaces p q ≡ o → option_map (cell_of (contents_of m.world notes).place) o ≡ Some c → IsCell c
      by_cell p q c None e is = absurd (cc)
      by_cell p q c (Some x) e is = subst IsCell (some-inj (cell_of (contents_of m.world notes).place x) c is) (cell-whole p q x e)

      zero_place : (number place : ℕ) (o : Option Page) → (contents_of m.world notes).place number place ≡ o → IsPage (unwrap_or o zero_page)
      zero_place number place None e = IsPage-zero_page
      zero_place number place (Some page) e = held-page number place page e

      by_zero : (ps : List Page) (o : Option ℕ) → option_map (zero_pages (contents_of m.world notes).place (shape_of m).lengths) o ≡ Some ps → All IsPage ps
      by_zero ps None is = absurd (cc)
      by_zero ps (Some number) is =
          subst (λ (l : List Page). All IsPage l) (some-inj (zero_pages (contents_of m.world notes).place (shape_of m).lengths number) ps is)
          (each-page IsPage (λ place. unwrap_or ((contents_of m.world notes).place number place) zero_page) ((shape_of m).lengths number) (λ i below. zero_place number i ((contents_of m.world notes).place number i) refl))

      some_space : (o : Option (List (Part Segment))) → IsSome (option_map (space_with (contents_of m.world notes).place) o) → IsSome o
      some_space None is = is
      some_space (Some parts) is = refl
