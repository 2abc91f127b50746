-- THE CHANGE of the segments of one process with their anon maps and the reservation: what is owed for memory, notes and flat memory.
use Rattle.std.proofs.Common.{◌≡◌, ◌≢◌, ℕ, ◌+◌, ◌≤◌, List, length, Option, Some, None, refl, sym, ap, ◌∙◌, inl, inr, subst, arith, slice_index_or}
use Rattle.std.specs.Prelude.{sum_by, option_map, IsTrue, All, ◌||◌}
use Rattle.std.specs.Ordering.{nat_cmp}
use Rattle.std.specs.Cmp.{nat_cmp_total}
use Rattle.std.specs.FinMap as finite
use Rattle.std.specs.FinSet as set
use Rattle.std.proofs.lemmas.Bool.{cases_eq}
use Rattle.flat_model.specs.vm_types.declared.prot.Prot.{Prot}
use Rattle.flat_model.specs.vm_types.Prot.{can_read, can_write}
use Rattle.addr_space.specs.Space.{Part, IsInOrder, piece_at}
use Rattle.addr_space.specs.Pages.{pages_of_parts}
use Rattle.addr_space.proofs.PageLaws.{get-pages_of_parts}
use Rattle.anon_map.specs.Maps.{Map, places_of, holders_of}
use Rattle.anon_slots.specs.Slots.{AnonSlotsSeen, count_at}
use Rattle.hat_layer.specs.declared.translation.Translation.{Translation}
use Rattle.page_store.specs.Notes.{Notes}
use Rattle.page_store.specs.Seen.{StoreSeen}
use Rattle.flat_model.specs.Flat.{Space, Flat, IsFlat}
use Rattle.flat_model.specs.Shapes.{without_bytes}
use Rattle.flat_model.proofs.Ranges.{same_space, get-insert_here, get-insert_apart}
use Rattle.flat_model.proofs.Sums.{total}
use Rattle.vm_world.specs.CountsFit.{CountsFit, SegmentFits, SegmentsFit, places_in, times_held, times_had, slots_for_part}
use Rattle.vm_world.specs.FlatMemory.{Memory, flat_memory, map_with, cell_of, space_with, zero_maps}
use Rattle.vm_world.specs.MemoryFits.{MemoryFits}
use Rattle.vm_world.specs.Pages.{place_contents, page_value}
use Rattle.vm_world.specs.SegmentSteps.{with_segments, ChangesSegments}
use Rattle.vm_world.specs.Segments.{Segment, Spot, Spaces, spot_at, own_slot, shown_name}
use Rattle.vm_world.specs.SpaceSteps.{Becomes}
use Rattle.vm_world.specs.TranslationsFit.{TranslationFits}
use Rattle.vm_world.specs.World.{slot_in}
use Rattle.vm_world.proofs.Counting.{used-within}
use Rattle.vm_world.proofs.KeptMaps.{KeepsMaps, kept-slot, kept-name, kept-cell}
use Rattle.vm_world.proofs.Maps.{map_with-same, get-map_with}
use Rattle.vm_world.proofs.PartSums.{sum-insert, sum-segments}
use Rattle.vm_world.proofs.ShownZeros.{IsShown, all-shown, apart-maps}
use Rattle.vm_world.proofs.Spots.{spot-in}

-- THE COUNTS fit other maps that hold each slot as often
pub counts-change : (anon : AnonSlotsSeen) (maps put : List (Option Map)) (r : ℕ) → CountsFit anon maps → ((slot : ℕ) → times_held put slot ≡ times_held maps slot) → sum_by (λ m. length (places_in m)) put ≡ r → r ≤ length anon.counts
    → CountsFit (record anon { reserved = r }) put
counts-change anon maps put r fit same places most =
    let counts : (slot : ℕ) → count_at anon slot ≡ times_held put slot = λ slot. fit.counts slot ∙ sym (same slot) in
    let used = used-within anon put counts in
    record {
      sound = record { lengths = fit.sound.lengths; used = omega (arith, used, places); reserved = most; fits = fit.sound.fits };
      counts = counts;
      places = places;
    }

-- A place shows the page that another one showed, with the same own slot, and may be used as that.
pub record ShowsAs (maps put : List (Option Map)) (x y : Spot) : Type 0 where
  pub prot : y.0.prot ≡ x.0.prot
  pub kind : y.0.kind ≡ x.0.kind
  pub own : own_slot put y ≡ own_slot maps x
  pub name : shown_name put y ≡ shown_name maps x

translation-moves : (store : StoreSeen) (anon : AnonSlotsSeen) (r : ℕ) (maps put : List (Option Map)) (old new : Spaces) (t : Translation) (l : TranslationFits store anon maps old t) (y : Spot)
    → spot_at new t.space t.page ≡ Some y → ShowsAs maps put l.spot y → TranslationFits store (record anon { reserved = r }) put new t
translation-moves store anon r maps put old new t l y here s = record {
  spot = y;
  here = here;
  name = l.name;
  shows = s.name ∙ l.shows;
  home = l.home;
  unlisted = l.unlisted;
  allowed = subst (λ (p : Prot). IsTrue (can_read p || can_write p)) (sym s.prot) l.allowed;
  writable = λ is. let may = l.writable is in record {
    prot = subst (λ (p : Prot). IsTrue (can_write p)) (sym s.prot) may.prot;
    alone = λ kind. let a = may.alone (sym s.kind ∙ kind) in (a.0, s.own ∙ a.1, a.2);
  };
}

abbrev after_change : Memory → List (Option Map) → ℕ → Spaces → Memory
after_change m put r spaces = record { world = record m.world { anon = record m.world.anon { reserved = r }; maps = put }; spaces = spaces }

-- MEMORY AND THE NOTES fit, and flat memory becomes this
pub change-memory : (m : Memory) (put : List (Option Map)) (r : ℕ) (spaces : Spaces) (p : ℕ) (f : Flat → Flat) → MemoryFits m
    → ((q : ℕ) → q ≢ p → finite.get spaces q ≡ finite.get m.spaces q)
    → CountsFit (record m.world.anon { reserved = r }) put
    → SegmentsFit (length m.world.files.files) (record m.world.anon { reserved = r }) put spaces
    → ((place : ℕ) (t : Translation) → slice_index_or m.world.hat.places place None ≡ Some t → (l : TranslationFits m.world.store m.world.anon m.world.maps m.spaces t) → (y : Spot) × (spot_at spaces t.space t.page ≡ Some y) × ShowsAs m.world.maps put l.spot y)
    → ((born : set.FinSet nat_cmp) (notes : Notes) → flat_memory (after_change m put r spaces) born notes ≡ f (flat_memory m born notes))
    → ((born : set.FinSet nat_cmp) (notes : Notes) → IsFlat (flat_memory m born notes) → Becomes f (flat_memory m born notes) (flat_memory (after_change m put r spaces) born notes))
    → ChangesSegments p m (after_change m put r spaces) f
change-memory m put r spaces p f fits others counts segments moves same flat = record {
  machine = record { core = refl; frames = refl; slots = refl; disks = refl; modes = refl; bays = refl };
  others = others;
  memory = record {
    frames = record { sound = fits.frames.sound; unkept = fits.frames.unkept; unmodified = fits.frames.unmodified; exist = fits.frames.exist };
    files = fits.files;
    disks = fits.disks;
    pool = fits.pool;
    translations = λ place t there. let l = fits.translations place t there in let y = moves place t there l in
        translation-moves m.world.store m.world.anon r m.world.maps put m.spaces spaces t l y.0 y.1 y.2;
    unpushed = fits.unpushed;
    counts = counts;
    segments = segments;
  };
  notes = λ notes nf. record { stored = nf.stored; clean = nf.clean; pushes = nf.pushes; gone = nf.gone; sizes = nf.sizes };
  tells = λ notes nf. ((λ tell. tell), (λ tell. tell));
  flat = λ born notes nf tell whole. flat born notes whole;
  shaped = λ born notes. ap without_bytes (same born notes);
}

-- SEGMENTS FIT where the parts of one process are others: what is owed is sums over these, and which zero objects are shown.
pub segments-change : (files : ℕ) (anon : AnonSlotsSeen) (maps put : List (Option Map)) (r : ℕ) (spaces : Spaces) (p : ℕ) (old new : List (Part Segment)) (Z : finite.FinMap nat_cmp ℕ) → SegmentsFit files anon maps spaces → finite.get spaces p ≡ Some old
    → IsInOrder 1 new → All (SegmentFits files put) new
    → ((q : ℕ) (ps : List (Part Segment)) → q ≢ p → finite.get spaces q ≡ Some ps → All (SegmentFits files put) ps)
    → ((n : ℕ) → holders_of put n + sum_by (λ (a : Part Segment). times_had n a.piece) old ≡ sum_by (λ (a : Part Segment). times_had n a.piece) new + holders_of maps n)
    → ((z n : ℕ) → IsShown (finite.insert spaces p new) z n → finite.get Z z ≡ Some n)
    → ((y z n : ℕ) → finite.get Z y ≡ Some n → finite.get Z z ≡ Some n → y ≡ z)
    → ((z n place slot : ℕ) → finite.get (zero_maps (finite.insert spaces p new)) z ≡ Some n → slot_in put n place ≡ Some slot → count_at anon slot ≡ 1)
    → r + sum_by slots_for_part old + total (λ number. length (places_of maps number)) (zero_maps spaces) ≡ anon.reserved + sum_by slots_for_part new + total (λ number. length (places_of put number)) (zero_maps (finite.insert spaces p new))
    → SegmentsFit files (record anon { reserved = r }) put (finite.insert spaces p new)
segments-change files anon maps put r spaces p old new Z fit is order each others holders shown apart once reserved =
    let after : Spaces = finite.insert spaces p new in
    let ordered : (q : ℕ) (ps : List (Part Segment)) → finite.get after q ≡ Some ps → IsInOrder 1 ps = λ q ps there. elim (cases_eq q p) [
      | inl same ↦ subst (IsInOrder 1) (let z : Some new ≡ Some ps = sym (get-insert_here spaces p new) ∙ ap (finite.get after) (sym same) ∙ there in let e : new ≡ ps = cc in e) order
      | inr ne ↦ fit.ordered q ps (sym (get-insert_apart spaces p new q ne) ∙ there)
    ] in
    record {
      ordered = ordered;
      each = λ q ps there. elim (cases_eq q p) [
        | inl same ↦ subst (All (SegmentFits files put)) (let z : Some new ≡ Some ps = sym (get-insert_here spaces p new) ∙ ap (finite.get after) (sym same) ∙ there in let e : new ≡ ps = cc in e) each
        | inr ne ↦ others q ps ne (sym (get-insert_apart spaces p new q ne) ∙ there)
      ];
      holders = λ n.
          let a = holders n in
          let b = sum-insert (λ (a : Part Segment). times_had n a.piece) spaces p old new is in
          let c = fit.holders n in
          let d = sum-segments (times_had n) spaces in
          let e = sum-segments (times_had n) after in
          omega (arith, a, b, c, d, e);
      zeros = all-shown after ordered Z shown;
      apart = apart-maps after ordered Z shown apart;
      once = once;
      reserved =
          let b = sum-insert slots_for_part spaces p old new is in
          let c = fit.reserved in
          omega (arith, reserved, b, c);
    }

-- FLAT SPACES with other parts of one process
pub spaces-change : (m : Memory) (put : List (Option Map)) (r p : ℕ) (new : List (Part Segment)) (S : Space) (born : set.FinSet nat_cmp) (notes : Notes)
    → ((q : ℕ) (ps : List (Part Segment)) → finite.get m.spaces q ≡ Some ps → IsInOrder 1 ps)
    → ((q : ℕ) (ps : List (Part Segment)) → q ≢ p → finite.get m.spaces q ≡ Some ps → All (λ (a : Part Segment). KeepsMaps m.world.maps put a.piece) ps)
    → ((q : ℕ) → option_map (cell_of (place_contents (page_value m.world notes) put)) (piece_at new q) ≡ finite.get S q)
    → (flat_memory (with_segments m put r p new) born notes).spaces ≡ finite.insert (flat_memory m born notes).spaces p S
spaces-change m put r p new S born notes ordered keep here =
    let held = place_contents (page_value m.world notes) put in
    let before = place_contents (page_value m.world notes) m.world.maps in
    finite.same_map nat_cmp_total finite.nat_cmp-IsAntisymmetric (map_with (space_with held) (finite.insert m.spaces p new)) (finite.insert (map_with (space_with before) m.spaces) p S) (λ q.
    get-map_with (space_with held) (finite.insert m.spaces p new) q ∙ elim (cases_eq q p) [
      | inl same ↦
          ap (λ (j : ℕ). option_map (space_with held) (finite.get (finite.insert m.spaces p new) j)) same ∙ ap (option_map (space_with held)) (get-insert_here m.spaces p new)
          ∙ ap (λ (s : Space). Some s) (same_space (space_with held new) S (λ k. get-map_with (cell_of held) (pages_of_parts new) k ∙ ap (option_map (cell_of held)) (get-pages_of_parts new k) ∙ here k))
          ∙ sym (get-insert_here (map_with (space_with before) m.spaces) p S) ∙ ap (finite.get (finite.insert (map_with (space_with before) m.spaces) p S)) (sym same)
      | inr ne ↦
          ap (option_map (space_with held)) (get-insert_apart m.spaces p new q ne) ∙ by_space q (finite.get m.spaces q) refl (λ ps is. keep q ps ne is)
          ∙ sym (get-map_with (space_with before) m.spaces q) ∙ sym (get-insert_apart (map_with (space_with before) m.spaces) p S q ne)
    ])
  where
    by_space : (q : ℕ) (o : Option (List (Part Segment))) → finite.get m.spaces q ≡ o → ((ps : List (Part Segment)) → finite.get m.spaces q ≡ Some ps → All (λ (a : Part Segment). KeepsMaps m.world.maps put a.piece) ps)
        → option_map (space_with (place_contents (page_value m.world notes) put)) o ≡ option_map (space_with (place_contents (page_value m.world notes) m.world.maps)) o
    by_space q None e keep = refl
    by_space q (Some ps) e keep = ap (λ (s : Space). Some s) (map_with-same (cell_of (place_contents (page_value m.world notes) m.world.maps)) (cell_of (place_contents (page_value m.world notes) put)) (pages_of_parts ps) (λ k x is.
        let s = spot-in (λ (a : Part Segment). KeepsMaps m.world.maps put a.piece) 1 ps k x (omega arith) (ordered q ps e) (keep ps e) (sym (get-pages_of_parts ps k) ∙ is) in
        kept-cell (page_value m.world notes) m.world.maps put x (subst (KeepsMaps m.world.maps put) s.piece s.fits)))

-- a place of a segment whose maps stay shows what it showed
pub shows-kept : (maps put : List (Option Map)) (x : Spot) → KeepsMaps maps put x.0 → ShowsAs maps put x x
shows-kept maps put x k = record { prot = refl; kind = refl; own = kept-slot maps put x k; name = kept-name maps put x k }
