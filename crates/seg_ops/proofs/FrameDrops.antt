-- The translations of a page are dropped before its own frame goes out: what they said, the page says.
use Rattle.std.proofs.Common.{◌≡◌, ◌≢◌, ℕ, ◌<◌, true, List, length, Option, Some, None, refl, sym, ap, ◌∙◌, ◌⊎◌, inl, inr, subst, get_or-set_same}
use Rattle.std.specs.Option.{option_or}
use Rattle.std.specs.Prelude.{◌||◌}
use Rattle.std.proofs.lemmas.Bool.{eq-eqb, or_left as or-left, or_right as or-right}
use Rattle.page_store.specs.page_lock.Rows.{row_at, clear_row, with_bits_added}
use Rattle.page_store.specs.page_lock.declared.Row.{Row}
use Rattle.page_store.specs.Laws.{StaysInPlace}
use Rattle.page_store.specs.Moves.{is_only}
use Rattle.page_store.specs.Seen.{StoreSeen, IsListedFrame}
use Rattle.page_store.specs.Steps.{next_frame}
use Rattle.vm_world.specs.hat_layer.declared.translation.Translation.{Translation}
use Rattle.vm_world.specs.hat_layer.Pool.{HatSeen, IsSingleValued, bits_of, drop_frame, with_clear_bits, has_bit}
use Rattle.vm_world.specs.MemoryFits.{MemoryFits}
use Rattle.vm_world.specs.Segments.{Spaces}
use Rattle.vm_world.specs.TranslationsFit.{TranslationFits, TranslationsFit, HasWritten, IsModified}
use Rattle.vm_world.specs.World.{World}
use Rattle.seg_ops.specs.Flights.{IsUnloaded, places_pushed}
use Rattle.vm_world.specs.Words.{KeepsPages}
use Rattle.seg_ops.specs.Steps.{with_bits_gathered}
use Rattle.seg_ops.proofs.Fills.{next-listed}
use Rattle.seg_ops.proofs.Places.{any-place, each-drop_frame, each-change_frame, written-gone}
use Rattle.seg_ops.proofs.StillSteps.{with_tables, memory_of}
use Rattle.seg_ops.proofs.Syncs.{gather-keeps}

-- DROPPED, with their bits in the page.
pub unload-keeps : (w : World) (spaces : Spaces) (new : StoreSeen) (hat : HatSeen) (frame : ℕ) → MemoryFits (memory_of w spaces) → frame < length w.store.frames → ¬ IsListedFrame w.store frame
    → hat.places ≡ drop_frame frame w.hat.places → hat.frames ≡ w.hat.frames → IsSingleValued hat.places
    → new ≡ with_bits_gathered w.store frame (bits_of frame w.hat.places) → StaysInPlace w.store new (is_only (Some frame))
    → KeepsPages w (with_tables w new hat) spaces
unload-keeps w spaces new hat frame f lt unlisted places frames single is laws =
    gather-keeps w spaces new hat frame f lt unlisted frames single is laws
    (λ k x. subst (λ (ps : List (Option Translation)). ((frame ≡ k) × ((bits_of frame w.hat.places).1 ≡ true)) ⊎ HasWritten ps k) (sym places) (written-gone w.hat.places frame k x))
    (λ store fit. subst (λ (ps : List (Option Translation)). TranslationsFit store w.anon w.maps spaces ps) (sym places)
    (λ i t is. (each-drop_frame (TranslationFits store w.anon w.maps spaces) frame w.hat.places fit i t is).0))

-- a listed frame has no translation
pub listed-unloaded : (w : World) (spaces : Spaces) (frame : ℕ) → MemoryFits (memory_of w spaces) → IsListedFrame w.store frame → IsUnloaded w.hat.places frame
listed-unloaded w spaces frame f listed place t is e = (f.translations place t is).unlisted (subst (λ (k : ℕ). IsListedFrame w.store k) (sym e) listed)

-- THE FRAME THAT GOES OUT has none: the next one is listed, and the translations of the page's own were dropped.
pub sent-unloaded : (w : World) (spaces : Spaces) (places : List (Option Translation)) (own frame : ℕ) → MemoryFits (memory_of w spaces) → places ≡ places_pushed (next_frame w.store) (Some own) w.hat.places
    → option_or (next_frame w.store) (Some own) ≡ Some frame → IsUnloaded places frame
sent-unloaded w spaces places own frame f is out = subst (λ (ps : List (Option Translation)). IsUnloaded ps frame) (sym is) (by_next (next_frame w.store) refl out)
  where
    by_next : (o : Option ℕ) → next_frame w.store ≡ o → option_or o (Some own) ≡ Some frame → IsUnloaded (places_pushed o (Some own) w.hat.places) frame
    by_next None next e =
        let same : own ≡ frame = let z : Some own ≡ Some frame = e in cc in
        subst (λ (k : ℕ). IsUnloaded (drop_frame own w.hat.places) k) same (λ place t at. (each-drop_frame (λ x. Unit {0}) own w.hat.places (λ k u x. tt) place t at).1)
    by_next (Some copy) next e =
        let same : copy ≡ frame = let z : Some copy ≡ Some frame = e in cc in
        each-change_frame (λ t. t.frame ≢ frame) own with_clear_bits w.hat.places (λ t apart. apart)
        (listed-unloaded w spaces frame f (next-listed w.store frame (next ∙ ap (λ (k : ℕ). Some k) same)))

-- WHAT WAS GATHERED: the row of a modified page says so.
pub gathered-modified : (store : StoreSeen) (places : List (Option Translation)) (frame : ℕ) → frame < length store.rows → IsModified store places frame → (row_at (with_bits_gathered store frame (bits_of frame places)).rows frame).modified ≡ true
gathered-modified store places frame lt m =
    ap (λ (r : Row). r.modified) (get_or-set_same store.rows frame (with_bits_added (row_at store.rows frame) (bits_of frame places).0 (bits_of frame places).1) clear_row lt)
    ∙ elim m [
      | inl r ↦ or-left (row_at store.rows frame).modified (bits_of frame places).1 r
      | inr x ↦ or-right (row_at store.rows frame).modified (bits_of frame places).1 (any-place (has_bit (λ t. t.modified) frame) places x.place x.translation x.there (rw (eq-eqb x.translation.frame frame x.leads, x.modified) refl))
    ]
