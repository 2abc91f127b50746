-- The bits of a frame's translations are gathered, and the translations stay.
use Rattle.std.proofs.Common.{◌≡◌, ◌≢◌, ℕ, ◌<◌, Bool, true, false, cond, List, length, Option, Some, None, refl, sym, ap, ◌∙◌, ◌⊎◌, inl, inr, subst, slice_index_or}
use Rattle.std.specs.Prelude.{option_map}
use Rattle.std.proofs.lemmas.Bool.{eq-eqb}
use Rattle.page_store.specs.Laws.{StaysInPlace}
use Rattle.page_store.specs.Moves.{is_only}
use Rattle.page_store.specs.Seen.{StoreSeen, IsListedFrame}
use Rattle.vm_world.specs.hat_layer.declared.translation.Translation.{Translation}
use Rattle.vm_world.specs.hat_layer.Pool.{HatSeen, IsSingleValued, leads, with_clear_bits, change_lead, change_frame, bits_of}
use Rattle.vm_world.specs.MemoryFits.{MemoryFits}
use Rattle.vm_world.specs.Segments.{Spaces}
use Rattle.vm_world.specs.TranslationsFit.{TranslationFits, TranslationsFit, HasWritten}
use Rattle.vm_world.specs.World.{World, world_table}
use Rattle.vm_world.specs.Words.{KeepsPages}
use Rattle.seg_ops.specs.Steps.{IsUnwritten, with_bits_gathered}
use Rattle.seg_ops.proofs.Places.{index-map, each-change_frame, written-clear}
use Rattle.seg_ops.proofs.StillSteps.{with_tables, memory_of, translation-kept, step-keeps}
use Rattle.seg_ops.proofs.Gathers.{keeps-gathered}

fits-clear : (w : World) (store : StoreSeen) (spaces : Spaces) (t : Translation) → TranslationFits store w.anon w.maps spaces t → TranslationFits store w.anon w.maps spaces (with_clear_bits t)
fits-clear w store spaces t l = record { spot = l.spot; here = l.here; name = l.name; shows = l.shows; home = l.home; unlisted = l.unlisted; allowed = l.allowed; writable = l.writable }

was-cleared : (frame : ℕ) (o : Option Translation) (t : Translation) (b : Bool) → leads frame o ≡ b → cond b (option_map with_clear_bits o) o ≡ Some t → (t.frame ≢ frame) ⊎ (t.modified ≡ false)
was-cleared frame None t true is e = absurd (cc)
was-cleared frame None t false is e = absurd (cc)
was-cleared frame (Some u) t true is e = inr (let z : Some (with_clear_bits u) ≡ Some t = e in ap (λ (x : Translation). x.modified) (some-same (with_clear_bits u) t z))
  where
    some-same : (x y : Translation) → ◌≡◌ {A = Option Translation} (Some x) (Some y) → y ≡ x
    some-same x y e = cc
was-cleared frame (Some u) t false is e = inl (λ to. let same : u ≡ t = let z : Some u ≡ Some t = e in cc in let there : leads frame (Some u) ≡ true = eq-eqb u.frame frame (ap (λ (x : Translation). x.frame) same ∙ to) in let z : true ≡ false = sym there ∙ is in cc)

pub sync-unwritten : (places : List (Option Translation)) (frame : ℕ) → IsUnwritten (change_frame frame with_clear_bits places) frame
sync-unwritten places frame k t is to = elim (was-cleared frame (slice_index_or places k None) t (leads frame (slice_index_or places k None)) refl (sym (index-map (change_lead frame with_clear_bits) places k refl) ∙ is)) [
  | inl apart ↦ absurd (apart to)
  | inr clear ↦ clear
]

-- BITS ARE GATHERED from translations that stay, or that are dropped: what they said, they say still or the page does.
pub gather-keeps : (w : World) (spaces : Spaces) (new : StoreSeen) (hat : HatSeen) (frame : ℕ) → MemoryFits (memory_of w spaces) → frame < length w.store.frames → ¬ IsListedFrame w.store frame
    → hat.frames ≡ w.hat.frames → IsSingleValued hat.places → new ≡ with_bits_gathered w.store frame (bits_of frame w.hat.places) → StaysInPlace w.store new (is_only (Some frame))
    → ((k : ℕ) → HasWritten w.hat.places k → ((frame ≡ k) × ((bits_of frame w.hat.places).1 ≡ true)) ⊎ HasWritten hat.places k)
    → ((store : StoreSeen) → TranslationsFit store w.anon w.maps spaces w.hat.places → TranslationsFit store w.anon w.maps spaces hat.places)
    → KeepsPages w (with_tables w new hat) spaces
gather-keeps w spaces new hat frame f lt unlisted frames single is laws told fit =
    let bits = bits_of frame w.hat.places in
    let done = with_bits_gathered w.store frame bits in
    let calm : StaysInPlace w.store done (is_only (Some frame)) = subst (λ (s : StoreSeen). StaysInPlace w.store s (is_only (Some frame))) is laws in
    subst (λ (s : StoreSeen). KeepsPages w (with_tables w s hat) spaces) (sym is)
    (step-keeps w spaces done hat f (keeps-gathered w.store w.files w.anon w.hat.places hat.places frame bits f.frames lt unlisted calm told) frames single
    (fit done (λ i t at. translation-kept w.store done w.anon w.maps spaces t calm.residence (λ h. h) (f.translations i t at)))
    (λ notes nf. calm.values notes (world_table w) nf.stored))

pub sync-keeps : (w : World) (spaces : Spaces) (new : StoreSeen) (hat : HatSeen) (frame : ℕ) → MemoryFits (memory_of w spaces) → frame < length w.store.frames → ¬ IsListedFrame w.store frame
    → hat.places ≡ change_frame frame with_clear_bits w.hat.places → hat.frames ≡ w.hat.frames → IsSingleValued hat.places
    → new ≡ with_bits_gathered w.store frame (bits_of frame w.hat.places) → StaysInPlace w.store new (is_only (Some frame))
    → KeepsPages w (with_tables w new hat) spaces
sync-keeps w spaces new hat frame f lt unlisted places frames single is laws =
    gather-keeps w spaces new hat frame f lt unlisted frames single is laws
    (λ k x. subst (λ (ps : List (Option Translation)). ((frame ≡ k) × ((bits_of frame w.hat.places).1 ≡ true)) ⊎ HasWritten ps k) (sym places) (written-clear w.hat.places frame k x))
    (λ store fit. subst (λ (ps : List (Option Translation)). TranslationsFit store w.anon w.maps spaces ps) (sym places)
    (each-change_frame (TranslationFits store w.anon w.maps spaces) frame with_clear_bits w.hat.places (λ t l. fits-clear w store spaces t l) fit))
