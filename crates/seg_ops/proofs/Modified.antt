-- Bits that are gathered and translations that are dropped make no page modified, and none count as rewritten.
use Rattle.vm_world.proofs.flat_model.Ranges.{both_true as both}
use Rattle.vm_world.proofs.flat_model.Starts.{or_cases as or-parts}
use Rattle.std.proofs.Common.{◌≡◌, ℕ, suc, ◌==◌, Bool, true, false, List, [], ◌∷◌, Option, Some, None, refl, sym, ap, ◌∙◌, ◌⊎◌, inl, inr, subst, slice_index_or}
use Rattle.std.specs.Prelude.{◌||◌}
use Rattle.std.specs.List.{list_any}
use Rattle.std.proofs.lemmas.Bool.{cases_Bool, eqb-true}
use Rattle.page_store.specs.page_lock.Rows.{row_at}
use Rattle.page_store.specs.page_lock.declared.Row.{Row}
use Rattle.page_store.specs.Laws.{SameResidence}
use Rattle.page_store.specs.Seen.{StoreSeen, residence}
use Rattle.page_store.specs.declared.residence.Residence.TheVariants.{Home}
use Rattle.vm_world.specs.hat_layer.declared.translation.Translation.{Translation}
use Rattle.vm_world.specs.hat_layer.Pool.{HatSeen, leads, has_bit, bits_of, change_lead, drop_lead, change_frame, drop_frame, with_clear_bits}
use Rattle.vm_world.specs.Serving.{ModifiesNone, PageBit, SaysNone}
use Rattle.vm_world.specs.TranslationsFit.{HasWritten, IsModified, IsRewritten}
use Rattle.vm_world.specs.World.{World}
use Rattle.seg_ops.specs.Steps.{with_bits_gathered}
use Rattle.seg_ops.proofs.Places.{index-map, changed-from, was-kept}
use Rattle.seg_ops.proofs.Gathers.{added, row-gathered}
use Rattle.seg_ops.proofs.StillSteps.{with_tables}

-- a place of the pool that passes a test, where some place does
record Passes (W : Option Translation → Bool) (places : List (Option Translation)) : Type 0 where
  place : ℕ
  translation : Translation
  there : slice_index_or places place None ≡ Some translation
  passes : W (Some translation) ≡ true

more-passes : (W : Option Translation → Bool) (o : Option Translation) (os : List (Option Translation)) → Passes W os → Passes W (o ∷ os)
more-passes W o os p = record { place = suc p.place; translation = p.translation; there = p.there; passes = p.passes }

some-passes : (W : Option Translation → Bool) (places : List (Option Translation)) → W None ≡ false → list_any W places ≡ true → Passes W places
some-passes W [] none h = absurd (let z : false ≡ true = h in cc)
some-passes W (None ∷ os) none h = more-passes W None os (some-passes W os none (sym (ap (λ (b : Bool). b || list_any W os) none) ∙ h))
some-passes W (Some t ∷ os) none h = elim (or-parts (W (Some t)) (list_any W os) h) [
  | inl here ↦ record { place = 0; translation = t; there = refl; passes = here }
  | inr more ↦ more-passes W (Some t) os (some-passes W os none more)
]

-- what a frame's translations told, one of them says
told-written : (places : List (Option Translation)) (frame : ℕ) → (bits_of frame places).1 ≡ true → HasWritten places frame
told-written places frame h =
    let p = some-passes (has_bit (λ (t : Translation). t.modified) frame) places refl h in
    let tests = both (p.translation.frame == frame) p.translation.modified p.passes in
    record { place = p.place; translation = p.translation; there = p.there; leads = eqb-true p.translation.frame frame tests.0; modified = tests.1 }

-- what says so after bits were cleared, or translations dropped, said so before
uncleared : (places : List (Option Translation)) (frame k : ℕ) → HasWritten (change_frame frame with_clear_bits places) k → HasWritten places k
uncleared places frame k w =
    let from = changed-from (leads frame (slice_index_or places w.place None)) with_clear_bits (slice_index_or places w.place None) w.translation (sym (index-map (change_lead frame with_clear_bits) places w.place refl) ∙ w.there) in
    elim from.2 [
      | inl e ↦ record { place = w.place; translation = w.translation; there = from.1 ∙ ap (λ (t : Translation). Some t) (sym e); leads = w.leads; modified = w.modified }
      | inr e ↦ absurd (let z : true ≡ false = sym w.modified ∙ ap (λ (t : Translation). t.modified) e in cc)
    ]

undropped : (places : List (Option Translation)) (frame k : ℕ) → HasWritten (drop_frame frame places) k → HasWritten places k
undropped places frame k w =
    let was = was-kept frame (slice_index_or places w.place None) w.translation (leads frame (slice_index_or places w.place None)) refl (sym (index-map (drop_lead frame) places w.place refl) ∙ w.there) in
    record { place = w.place; translation = w.translation; there = was.0; leads = w.leads; modified = w.modified }

-- What a page says by a bit of its row, or a translation that was written. What is told of translations is added to it; both bits are so.
abbrev pub says : (Row → Bool) → PageBit
says bit store places frame = (bit (row_at store.rows frame) ≡ true) ⊎ HasWritten places frame

abbrev pub Adds : (Row → Bool) → Type 0
Adds bit = (row : Row) (told : Bool × Bool) → bit (added row told) ≡ (bit row || told.1)

abbrev pub is_modified : Row → Bool
is_modified row = row.modified

abbrev pub is_rewritten : Row → Bool
is_rewritten row = row.rewritten

module _ (bit : Row → Bool) (adds : Adds bit) where
  -- a row that says so, said so before, or was told
  pub row-was : (s : StoreSeen) (frame : ℕ) (told : Bool × Bool) (k : ℕ) → bit (row_at (with_bits_gathered s frame told).rows k) ≡ true → (bit (row_at s.rows k) ≡ true) ⊎ ((k ≡ frame) × (told.1 ≡ true))
  row-was s frame told k h = elim (row-gathered s frame told k) [
    | inl e ↦ inl (sym (ap bit e) ∙ h)
    | inr e ↦ elim (or-parts (bit (row_at s.rows k)) told.1 (sym (adds (row_at s.rows k) told) ∙ sym (ap bit e.1) ∙ h)) [ inl was ↦ inl was | inr is ↦ inr (e.0, is) ]
  ]

  -- bits of a frame are gathered
  sync-says : (w : World) (new : StoreSeen) (hat : HatSeen) (frame : ℕ) → hat.places ≡ change_frame frame with_clear_bits w.hat.places → new ≡ with_bits_gathered w.store frame (bits_of frame w.hat.places) → SameResidence w.store new
      → SaysNone (says bit) w (with_tables w new hat)
  sync-says w new hat frame places is stay = λ name k home m. (
    sym (stay name) ∙ home,
    elim m [
      | inl r ↦ elim (row-was w.store frame (bits_of frame w.hat.places) k (ap (λ (s : StoreSeen). bit (row_at s.rows k)) (sym is) ∙ r)) [
        | inl was ↦ inl was
        | inr told ↦ inr (subst (HasWritten w.hat.places) (sym told.0) (told-written w.hat.places frame told.1))
      ]
      | inr x ↦ inr (uncleared w.hat.places frame k (subst (λ (ps : List (Option Translation)). HasWritten ps k) places x))
    ],
  )

module _ (bit : Row → Bool) where
  -- a page's translations are dropped
  evict-says : (w : World) (new : StoreSeen) (hat : HatSeen) (frame : ℕ) (cached : List ℕ) → hat.places ≡ drop_frame frame w.hat.places → new ≡ record w.store { cached = cached } → SameResidence w.store new
      → SaysNone (says bit) w (with_tables w new hat)
  evict-says w new hat frame cached places is stay = λ name k home m. (
    sym (stay name) ∙ home,
    elim m [
      | inl r ↦ inl (ap (λ (s : StoreSeen). bit (row_at s.rows k)) (sym is) ∙ r)
      | inr x ↦ inr (undropped w.hat.places frame k (subst (λ (ps : List (Option Translation)). HasWritten ps k) places x))
    ],
  )

  tables-says : (u v : World) → v.store ≡ u.store → v.hat ≡ u.hat → SaysNone (says bit) u v
  tables-says u v store hat = λ name k home m. (
    subst (λ (s : StoreSeen). residence s name ≡ Home k) store home,
    subst (λ (s : StoreSeen). says bit s u.hat.places k) store (subst (λ (h : HatSeen). says bit v.store h.places k) hat m),
  )

-- THE STEPS: bits of a frame are gathered, and its translations dropped; nothing, or no frame and translation; and one step after another.
pub sync-modifies : (w : World) (new : StoreSeen) (hat : HatSeen) (frame : ℕ) → hat.places ≡ change_frame frame with_clear_bits w.hat.places → new ≡ with_bits_gathered w.store frame (bits_of frame w.hat.places) → SameResidence w.store new
    → ModifiesNone w (with_tables w new hat)
sync-modifies w new hat frame places is stay = record {
  modified = sync-says is_modified (λ row told. refl) w new hat frame places is stay;
  rewritten = sync-says is_rewritten (λ row told. refl) w new hat frame places is stay;
}

pub evict-modifies : (w : World) (new : StoreSeen) (hat : HatSeen) (frame : ℕ) (cached : List ℕ) → hat.places ≡ drop_frame frame w.hat.places → new ≡ record w.store { cached = cached } → SameResidence w.store new
    → ModifiesNone w (with_tables w new hat)
evict-modifies w new hat frame cached places is stay = record {
  modified = evict-says is_modified w new hat frame cached places is stay;
  rewritten = evict-says is_rewritten w new hat frame cached places is stay;
}

pub modifies-same : (w : World) → ModifiesNone w w
modifies-same w = record { modified = λ name k home m. (home, m); rewritten = λ name k home m. (home, m) }

pub modifies-tables : (u v : World) → v.store ≡ u.store → v.hat ≡ u.hat → ModifiesNone u v
modifies-tables u v store hat = record { modified = tables-says is_modified u v store hat; rewritten = tables-says is_rewritten u v store hat }

says-then : (bit : PageBit) (u v w : World) → SaysNone bit u v → SaysNone bit v w → SaysNone bit u w
says-then bit u v w first second = λ name k home m. let mid = second name k home m in first name k mid.0 mid.1

pub modifies-then : (u v w : World) → ModifiesNone u v → ModifiesNone v w → ModifiesNone u w
modifies-then u v w first second = record {
  modified = says-then IsModified u v w first.modified second.modified;
  rewritten = says-then IsRewritten u v w first.rewritten second.rewritten;
}

-- THE SAME ROWS and translations, with pages where they were: as where the bytes of a page alone change.
pub rows-modify : (w : World) (new : StoreSeen) → new.rows ≡ w.store.rows → SameResidence w.store new → ModifiesNone w (record w { store = new })
rows-modify w new rows stay = record { modified = rows-say is_modified; rewritten = rows-say is_rewritten }
  where
    rows-say : (bit : Row → Bool) → SaysNone (says bit) w (record w { store = new })
    rows-say bit = λ n k home m. (
      sym (stay n) ∙ home,
      elim m [ inl r ↦ inl (ap (λ (rows : List Row). bit (row_at rows k)) (sym rows) ∙ r) | inr x ↦ inr x ],
    )
