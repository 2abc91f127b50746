-- What the translations of a frame say of its use, and what a hand of the clock makes of it.
use Rattle.seg_ops.proofs.hat_layer.FrameLemmas.{leads-true as leads-is}
use Rattle.seg_ops.proofs.flat_model.Starts.{or_cases as either-is}
use Rattle.seg_ops.proofs.flat_model.Ranges.{both_true as both}
use Rattle.std.proofs.Common.{◌≡◌, ◌≢◌, ℕ, zero, suc, ◌<◌, ◌==◌, ◌||◌, ◌&&◌, Bool, true, false, cond, List, [], ◌∷◌, length, Option, Some, None, refl, sym, ap, ◌∙◌, inl, inr, subst, get_or-set_same, get_or-set_other}
use Rattle.std.specs.Prelude.{◌↔◌, slice_index_or, option_map, IsSome}
use Rattle.std.specs.List.{list_any}
use Rattle.std.proofs.lemmas.Bool.{eq-eqb, eqb-true, or_left as or-left, or_right as or-right}
use Rattle.seg_ops.specs.hat_layer.Pool.{HatSeen, frame_of, leads, has_bit, bits_of, change_lead, change_frame, with_clear_bits}
use Rattle.seg_ops.specs.hat_layer.declared.translation.Translation.{Translation}
use Rattle.seg_ops.specs.page_lock.Rows.{row_at, clear_row, with_bits_added, with_use}
use Rattle.seg_ops.specs.page_lock.declared.Row.{Row}
use Rattle.seg_ops.specs.page_store.Seen.{StoreSeen, IsListedFrame}
use Rattle.seg_ops.specs.page_store.Steps.{with_row}
use Rattle.seg_ops.specs.Steps.{with_bits_gathered}
use Rattle.seg_ops.proofs.Modified.{is_modified, is_rewritten, says}
use Rattle.seg_ops.proofs.Places.{index-map}
use Rattle.seg_ops.proofs.StillSteps.{with_tables, memory_of}
use Rattle.seg_ops.specs.vm_world.MemoryFits.{MemoryFits}
use Rattle.seg_ops.specs.vm_world.Segments.{Spaces}
use Rattle.seg_ops.specs.vm_world.TranslationsFit.{HasWritten}
use Rattle.seg_ops.specs.vm_world.World.{World}
use Rattle.clock_hands.specs.Clock.{SameButBits, KeepsButBits, TouchesFrame, SameModified, SameReferenced, FrontClears, GathersUse}

-- A BIT of the translations of a frame.
record HasBit (bit : Translation → Bool) (places : List (Option Translation)) (frame : ℕ) : Type 0 where
  place : ℕ
  translation : Translation
  there : slice_index_or places place None ≡ Some translation
  leads_there : translation.frame ≡ frame
  set : bit translation ≡ true

head-has : (bit : Translation → Bool) (frame : ℕ) (o : Option Translation) (os : List (Option Translation)) → has_bit bit frame o ≡ true → HasBit bit (o ∷ os) frame
head-has bit frame None os h = absurd (let z : false ≡ true = h in cc)
head-has bit frame (Some t) os h = let b = both (t.frame == frame) (bit t) h in record { place = 0; translation = t; there = refl; leads_there = eqb-true t.frame frame b.0; set = b.1 }

tail-has : (bit : Translation → Bool) (frame : ℕ) (o : Option Translation) (os : List (Option Translation)) → HasBit bit os frame → HasBit bit (o ∷ os) frame
tail-has bit frame o os h = record { place = suc h.place; translation = h.translation; there = h.there; leads_there = h.leads_there; set = h.set }

any-has : (bit : Translation → Bool) (frame : ℕ) (places : List (Option Translation)) → list_any (has_bit bit frame) places ≡ true → HasBit bit places frame
any-has bit frame [] h = absurd (let z : false ≡ true = h in cc)
any-has bit frame (o ∷ os) h = by_head (has_bit bit frame o) refl h (λ r. tail-has bit frame o os (any-has bit frame os r))
  where
    by_head : (b : Bool) → has_bit bit frame o ≡ b → (b || list_any (has_bit bit frame) os) ≡ true → (list_any (has_bit bit frame) os ≡ true → HasBit bit (o ∷ os) frame) → HasBit bit (o ∷ os) frame
    by_head true e h more = head-has bit frame o os e
    by_head false e h more = more h

here-has : (bit : Translation → Bool) (frame : ℕ) (t : Translation) → t.frame ≡ frame → bit t ≡ true → has_bit bit frame (Some t) ≡ true
here-has bit frame t to set = ap (λ (b : Bool). b && bit t) (eq-eqb t.frame frame to) ∙ set

has-any : (bit : Translation → Bool) (frame : ℕ) (places : List (Option Translation)) (k : ℕ) (t : Translation) → slice_index_or places k None ≡ Some t → t.frame ≡ frame → bit t ≡ true → list_any (has_bit bit frame) places ≡ true
has-any bit frame [] k t at to set = absurd (let z : ◌≡◌ {A = Option Translation} None (Some t) = at in cc)
has-any bit frame (o ∷ os) zero t at to set = or-left (has_bit bit frame o) (list_any (has_bit bit frame) os) (ap (has_bit bit frame) at ∙ here-has bit frame t to set)
has-any bit frame (o ∷ os) (suc k) t at to set = or-right (has_bit bit frame o) (list_any (has_bit bit frame) os) (has-any bit frame os k t at to set)

cleared-one : (frame : ℕ) (o : Option Translation) (t : Translation) (b : Bool) → leads frame o ≡ b → cond b (option_map with_clear_bits o) o ≡ Some t → t.frame ≡ frame → (t.referenced ≡ false) × (t.modified ≡ false)
cleared-one frame None t true e at to = absurd (let z : ◌≡◌ {A = Option Translation} None (Some t) = at in cc)
cleared-one frame (Some u) t true e at to =
    let same : with_clear_bits u ≡ t = let z : ◌≡◌ {A = Option Translation} (Some (with_clear_bits u)) (Some t) = at in cc in
    (ap (λ (x : Translation). x.referenced) (sym same), ap (λ (x : Translation). x.modified) (sym same))
cleared-one frame None t false e at to = absurd (let z : ◌≡◌ {A = Option Translation} None (Some t) = at in cc)
cleared-one frame (Some u) t false e at to =
    let same : u ≡ t = let z : ◌≡◌ {A = Option Translation} (Some u) (Some t) = at in cc in
    absurd (let z : true ≡ false = sym (leads-is frame u (ap (λ (x : Translation). x.frame) same ∙ to)) ∙ e in cc)

pub keeps-same : (o : Option Translation) → KeepsButBits o o
keeps-same None = tt
keeps-same (Some t) = (refl, refl, refl, refl)

keeps-one : (o : Option Translation) (b : Bool) → KeepsButBits o (cond b (option_map with_clear_bits o) o)
keeps-one None true = tt
keeps-one None false = tt
keeps-one (Some t) true = (refl, refl, refl, refl)
keeps-one (Some t) false = (refl, refl, refl, refl)

loaded-one : (o : Option Translation) (b : Bool) → IsSome o → IsSome (cond b (option_map with_clear_bits o) o)
loaded-one None b h = absurd (let z : false ≡ true = h in cc)
loaded-one (Some t) true h = refl
loaded-one (Some t) false h = refl

elsewhere-one : (frame : ℕ) (o : Option Translation) (b : Bool) → leads frame o ≡ b → frame_of o ≢ Some frame → cond b (option_map with_clear_bits o) o ≡ o
elsewhere-one frame None true e ne = refl
elsewhere-one frame o false e ne = refl
elsewhere-one frame (Some t) true e ne = absurd (ne (ap (λ (k : ℕ). Some k) (eqb-true t.frame frame e)))

keeps-then : (a b c : Option Translation) → KeepsButBits a b → KeepsButBits b c → KeepsButBits a c
keeps-then a b None h k = tt
keeps-then a None (Some u) h k = absurd k
keeps-then None (Some t) (Some u) h k = absurd h
keeps-then (Some s) (Some t) (Some u) h k = (k.0 ∙ h.0, k.1 ∙ h.1, k.2 ∙ h.2, k.3 ∙ h.3)

-- NOTHING WAS DONE.
pub touches-none : (w : World) (frame : ℕ) → TouchesFrame w w frame
touches-none w frame = record {
  store = refl;
  row = record { holder = refl; keeps = refl; gone = refl; snapshot = refl; source = refl };
  rewritten = ((λ m. m), (λ m. m));
  others = λ k ne. refl;
  places = λ place. keeps-same (slice_index_or w.hat.places place None);
  leads = λ place ne. refl;
  tables = refl;
}

-- ONE AFTER ANOTHER.
pub touches-then : (u v w : World) (frame : ℕ) → TouchesFrame u v frame → TouchesFrame v w frame → TouchesFrame u w frame
touches-then u v w frame a b = record {
  store = b.store ∙ ap (λ (s : StoreSeen). record s { rows = w.store.rows; cached = w.store.cached }) a.store;
  row = record {
    holder = b.row.holder ∙ a.row.holder;
    keeps = b.row.keeps ∙ a.row.keeps;
    gone = b.row.gone ∙ a.row.gone;
    snapshot = b.row.snapshot ∙ a.row.snapshot;
    source = b.row.source ∙ a.row.source;
  };
  rewritten = ((λ m. a.rewritten.0 (b.rewritten.0 m)), (λ m. b.rewritten.1 (a.rewritten.1 m)));
  others = λ k ne. b.others k ne ∙ a.others k ne;
  places = λ place. keeps-then (slice_index_or u.hat.places place None) (slice_index_or v.hat.places place None) (slice_index_or w.hat.places place None) (a.places place) (b.places place);
  leads = λ place ne. let same = a.leads place ne in b.leads place (λ e. ne (sym (ap frame_of same) ∙ e)) ∙ same;
  tables = b.tables ∙ ap (λ (x : World). record x { store = w.store; hat = w.hat }) a.tables;
}

-- THE BITS ARE GATHERED.
module _ (w : World) (new : StoreSeen) (hat : HatSeen) (frame : ℕ) (lt : frame < length w.store.rows) (is : new ≡ with_bits_gathered w.store frame (bits_of frame w.hat.places)) (places : hat.places ≡ change_frame frame with_clear_bits w.hat.places) where
  abbrev told : Bool × Bool
  told = bits_of frame w.hat.places

  abbrev was : Row
  was = row_at w.store.rows frame

  row : row_at new.rows frame ≡ with_bits_added was told.0 told.1
  row = ap (λ (s : StoreSeen). row_at s.rows frame) is ∙ get_or-set_same w.store.rows frame (with_bits_added was told.0 told.1) clear_row lt

  at : (place : ℕ) → slice_index_or hat.places place None ≡ change_lead frame with_clear_bits (slice_index_or w.hat.places place None)
  at place = ap (λ (ps : List (Option Translation)). slice_index_or ps place None) places ∙ index-map (change_lead frame with_clear_bits) w.hat.places place refl

  clear : (place : ℕ) (t : Translation) → slice_index_or hat.places place None ≡ Some t → t.frame ≡ frame → (t.referenced ≡ false) × (t.modified ≡ false)
  clear place t here to = cleared-one frame (slice_index_or w.hat.places place None) t (leads frame (slice_index_or w.hat.places place None)) refl (sym (at place) ∙ here) to

  -- what is said of the page by a bit to which what was told of stores is added
  same-said : (bit : Row → Bool) → bit (with_bits_added was told.0 told.1) ≡ (bit was || told.1) → says bit new hat.places frame ↔ says bit w.store w.hat.places frame
  same-said bit adds = (
    (λ m. elim m [
      | inl r ↦ elim (either-is (bit was) told.1 (sym (ap bit row ∙ adds) ∙ r)) [
        | inl old ↦ inl old
        | inr said ↦ let h = any-has (λ t. t.modified) frame w.hat.places said in inr (record { place = h.place; translation = h.translation; there = h.there; leads = h.leads_there; modified = h.set })
      ]
      | inr x ↦ absurd (let z : true ≡ false = sym x.modified ∙ (clear x.place x.translation x.there x.leads).1 in cc)
    ]),
    (λ m. elim m [
      | inl old ↦ inl (ap bit row ∙ adds ∙ or-left (bit was) told.1 old)
      | inr x ↦ inl (ap bit row ∙ adds ∙ or-right (bit was) told.1 (has-any (λ t. t.modified) frame w.hat.places x.place x.translation x.there x.leads x.modified))
    ]),
  )

  same-referenced : SameReferenced w (with_tables w new hat) frame
  same-referenced = (
    (λ m. elim m [
      | inl r ↦ elim (either-is was.referenced told.0 (sym (ap (λ (x : Row). x.referenced) row) ∙ r)) [
        | inl old ↦ inl old
        | inr said ↦ let h = any-has (λ t. t.referenced) frame w.hat.places said in inr (record { place = h.place; translation = h.translation; there = h.there; leads = h.leads_there; referenced = h.set })
      ]
      | inr x ↦ absurd (let z : true ≡ false = sym x.referenced ∙ (clear x.place x.translation x.there x.leads).0 in cc)
    ]),
    (λ m. elim m [
      | inl old ↦ inl (ap (λ (x : Row). x.referenced) row ∙ or-left was.referenced told.0 old)
      | inr x ↦ inl (ap (λ (x : Row). x.referenced) row ∙ or-right was.referenced told.0 (has-any (λ t. t.referenced) frame w.hat.places x.place x.translation x.there x.leads x.referenced))
    ]),
  )

  pub gathers-use : GathersUse w (with_tables w new hat) frame
  gathers-use = record {
    touches = record {
      store = subst (λ (s : StoreSeen). s ≡ record w.store { rows = s.rows; cached = s.cached }) (sym is) refl;
      row = subst (λ (r : Row). SameButBits was r) (sym row) (record { holder = refl; keeps = refl; gone = refl; snapshot = refl; source = refl });
      rewritten = same-said is_rewritten refl;
      others = λ k ne. ap (λ (s : StoreSeen). row_at s.rows k) is ∙ get_or-set_other w.store.rows frame k (with_bits_added was told.0 told.1) clear_row ne;
      places = λ place. subst (λ (o : Option Translation). KeepsButBits (slice_index_or w.hat.places place None) o) (sym (at place)) (keeps-one (slice_index_or w.hat.places place None) (leads frame (slice_index_or w.hat.places place None)));
      leads = λ place ne. at place ∙ elsewhere-one frame (slice_index_or w.hat.places place None) (leads frame (slice_index_or w.hat.places place None)) refl ne;
      tables = refl;
    };
    modified = same-said is_modified refl;
    referenced = same-referenced;
    loaded = λ place some. subst (λ (o : Option Translation). IsSome o) (sym (at place)) (loaded-one (slice_index_or w.hat.places place None) (leads frame (slice_index_or w.hat.places place None)) some);
    cached = ap (λ (s : StoreSeen). s.cached) is;
    clear = clear;
  }

-- A FRAME ON A LIST has no translation.
pub gathers-none : (w : World) (spaces : Spaces) (frame : ℕ) → MemoryFits (memory_of w spaces) → IsListedFrame w.store frame → GathersUse w w frame
gathers-none w spaces frame fits listed = record {
  touches = touches-none w frame;
  modified = ((λ m. m), (λ m. m));
  referenced = ((λ m. m), (λ m. m));
  loaded = λ place some. some;
  cached = refl;
  clear = λ place t there to. absurd ((fits.translations place t there).unlisted (subst (λ (k : ℕ). IsListedFrame w.store k) (sym to) listed));
}

-- THE FRONT HAND: the row's reference bit is cleared, once the bits are gathered.
pub front-clears : (w u v : World) (frame : ℕ) → frame < length u.store.rows → GathersUse w u frame → v ≡ record u { store = v.store } → v.store ≡ with_row u.store frame (with_use (row_at u.store.rows frame) false) → FrontClears w v frame
front-clears w u v frame lt g rest store =
    let now : Row = with_use (row_at u.store.rows frame) false in
    let row : row_at v.store.rows frame ≡ now = ap (λ (s : StoreSeen). row_at s.rows frame) store ∙ get_or-set_same u.store.rows frame now clear_row lt in
    let places : v.hat.places ≡ u.hat.places = ap (λ (x : World). x.hat.places) rest in
    let same : (bit : Row → Bool) → bit now ≡ bit (row_at u.store.rows frame) → says bit v.store v.hat.places frame ↔ says bit u.store u.hat.places frame = λ bit kept. (
      (λ m. elim m [ inl set ↦ inl (sym (ap bit row ∙ kept) ∙ set) | inr x ↦ inr (subst (λ (ps : List (Option Translation)). HasWritten ps frame) places x) ]),
      (λ m. elim m [ inl set ↦ inl (ap bit row ∙ kept ∙ set) | inr x ↦ inr (subst (λ (ps : List (Option Translation)). HasWritten ps frame) (sym places) x) ]),
    ) in
    let step : TouchesFrame u v frame = record {
      store = subst (λ (s : StoreSeen). s ≡ record u.store { rows = s.rows; cached = s.cached }) (sym store) refl;
      row = subst (λ (r : Row). SameButBits (row_at u.store.rows frame) r) (sym row) (record { holder = refl; keeps = refl; gone = refl; snapshot = refl; source = refl });
      rewritten = same is_rewritten refl;
      others = λ k ne. ap (λ (s : StoreSeen). row_at s.rows k) store ∙ get_or-set_other u.store.rows frame k now clear_row ne;
      places = λ place. subst (λ (ps : List (Option Translation)). KeepsButBits (slice_index_or u.hat.places place None) (slice_index_or ps place None)) (sym places) (keeps-same (slice_index_or u.hat.places place None));
      leads = λ place ne. ap (λ (ps : List (Option Translation)). slice_index_or ps place None) places;
      tables = rest ∙ ap (λ (h : HatSeen). record u { store = v.store; hat = h }) (sym (ap (λ (x : World). x.hat) rest));
    } in
    record {
      touches = touches-then w u v frame g.touches step;
      cleared = λ r. elim r [
        | inl set ↦ (let z : true ≡ false = sym set ∙ ap (λ (x : Row). x.referenced) row in cc)
        | inr x ↦ (let z : true ≡ false = sym x.referenced ∙ (g.clear x.place x.translation (sym (ap (λ (ps : List (Option Translation)). slice_index_or ps x.place None) places) ∙ x.there) x.leads).0 in cc)
      ];
      modified = ((λ m. g.modified.0 ((same is_modified refl).0 m)), (λ m. (same is_modified refl).1 (g.modified.1 m)));
      loaded = λ place some. subst (λ (ps : List (Option Translation)). IsSome (slice_index_or ps place None)) (sym places) (g.loaded place some);
      cached = ap (λ (s : StoreSeen). s.cached) store ∙ g.cached;
    }
