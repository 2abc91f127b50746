-- A translation is loaded, and the bits of the one that had to give way are gathered into its page.
use Rattle.std.proofs.Common.{◌≡◌, ◌≢◌, ℕ, ◌<◌, Bool, true, false, cond, List, length, Option, Some, None, refl, sym, ap, ◌∙◌, ◌⊎◌, inl, inr, subst, slice_index_or, slice_set}
use Rattle.std.specs.Prelude.{option_map, IfSome}
use Rattle.page_store.specs.Laws.{StaysInPlace}
use Rattle.page_store.specs.Moves.{is_only}
use Rattle.page_store.specs.Seen.{StoreSeen, IsListedFrame}
use Rattle.vm_world.specs.hat_layer.declared.translation.Translation.{Translation}
use Rattle.vm_world.specs.hat_layer.declared.translation.Dropped.{Dropped}
use Rattle.vm_world.specs.hat_layer.Pool.{HatSeen, IsSingleValued, told_of}
use Rattle.vm_world.specs.MemoryFits.{MemoryFits}
use Rattle.vm_world.specs.Segments.{Spaces}
use Rattle.vm_world.specs.TranslationsFit.{TranslationFits, TranslationsFit, HasWritten}
use Rattle.vm_world.specs.World.{World, world_table}
use Rattle.vm_world.specs.Words.{KeepsPages}
use Rattle.seg_ops.specs.Steps.{with_bits_gathered, with_dropped_gathered}
use Rattle.seg_ops.proofs.Places.{index-set, each-set}
use Rattle.seg_ops.proofs.StillSteps.{KeepsFrames, with_tables, memory_of, translation-kept, step-keeps, keeps-store, values-same, fits-within}
use Rattle.seg_ops.proofs.Gathers.{keeps-gathered}

-- what was written, is written still, or was said by the translation that gave way
written-set : (places : List (Option Translation)) (place : ℕ) (new : Translation) (k : ℕ) → HasWritten places k
    → ((t : Translation) × (slice_index_or places place None ≡ Some t) × (t.frame ≡ k) × (t.modified ≡ true)) ⊎ HasWritten (slice_set places place (Some new)) k
written-set places place new k w = elim (index-set places place (Some new) w.place None) [
  | inl e ↦ inr (record { place = w.place; translation = w.translation; there = e ∙ w.there; leads = w.leads; modified = w.modified })
  | inr e ↦ inl (w.translation, ap (λ (i : ℕ). slice_index_or places i None) (sym e.0) ∙ w.there, w.leads, w.modified)
]

-- what gives way leads to a frame that is there
pub dropped-within : (w : World) (spaces : Spaces) (place : ℕ) (was : Option Translation) (o : Option Dropped) → MemoryFits (memory_of w spaces) → slice_index_or w.hat.places place None ≡ was → o ≡ option_map told_of was
    → IfSome o (λ d. d.frame < length w.store.frames)
dropped-within w spaces place was o f is e = subst (λ (x : Option Dropped). IfSome x (λ d. d.frame < length w.store.frames)) (sym e) (by_was was is)
  where
    by_was : (x : Option Translation) → slice_index_or w.hat.places place None ≡ x → IfSome (option_map told_of x) (λ d. d.frame < length w.store.frames)
    by_was None at = tt
    by_was (Some t) at = fits-within w.store w.anon w.maps spaces t f.frames.sound (f.translations place t at)

install-none : (w : World) (spaces : Spaces) (hat : HatSeen) (place : ℕ) (loaded : Translation) → MemoryFits (memory_of w spaces) → TranslationFits w.store w.anon w.maps spaces loaded
    → slice_index_or w.hat.places place None ≡ None → hat.places ≡ slice_set w.hat.places place (Some loaded) → hat.frames ≡ w.hat.frames → IsSingleValued hat.places → KeepsPages w (with_tables w w.store hat) spaces
install-none w spaces hat place loaded f leads was places frames single =
    step-keeps w spaces w.store hat f
    (keeps-store w.store w.hat.places hat.places w.files w.anon f.frames (λ k x. subst (λ (ps : List (Option Translation)). HasWritten ps k) (sym places) (elim (written-set w.hat.places place loaded k x) [
      | inl e ↦ absurd (let z : None ≡ Some e.0 = sym was ∙ e.1 in cc)
      | inr y ↦ y
    ])))
    frames single
    (subst (λ (ps : List (Option Translation)). TranslationsFit w.store w.anon w.maps spaces ps) (sym places) (each-set (TranslationFits w.store w.anon w.maps spaces) w.hat.places place loaded leads f.translations))
    (λ notes nf. values-same w.store notes (world_table w) nf.stored)

install-some : (w : World) (spaces : Spaces) (hat : HatSeen) (place : ℕ) (loaded t : Translation) → MemoryFits (memory_of w spaces) → TranslationFits w.store w.anon w.maps spaces loaded
    → slice_index_or w.hat.places place None ≡ Some t → hat.places ≡ slice_set w.hat.places place (Some loaded) → hat.frames ≡ w.hat.frames → IsSingleValued hat.places
    → StaysInPlace w.store (with_bits_gathered w.store t.frame (t.referenced, t.modified)) (is_only (Some t.frame))
    → KeepsPages w (with_tables w (with_bits_gathered w.store t.frame (t.referenced, t.modified)) hat) spaces
install-some w spaces hat place loaded t f leads was places frames single laws =
    let told : Bool × Bool = (t.referenced, t.modified) in
    let done = with_bits_gathered w.store t.frame told in
    let fit = f.translations place t was in
    step-keeps w spaces done hat f
    (keeps-gathered w.store w.files w.anon w.hat.places hat.places t.frame told f.frames (fits-within w.store w.anon w.maps spaces t f.frames.sound fit) fit.unlisted laws
    (λ k x. elim (written-set w.hat.places place loaded k x) [
      | inl e ↦ inl (let same : e.0 ≡ t = let z : Some e.0 ≡ Some t = sym e.1 ∙ was in cc in (ap (λ (u : Translation). u.frame) (sym same) ∙ e.2, ap (λ (u : Translation). u.modified) (sym same) ∙ e.3))
      | inr y ↦ inr (subst (λ (ps : List (Option Translation)). HasWritten ps k) (sym places) y)
    ]))
    frames single
    (subst (λ (ps : List (Option Translation)). TranslationsFit done w.anon w.maps spaces ps) (sym places)
    (each-set (TranslationFits done w.anon w.maps spaces) w.hat.places place loaded (translation-kept w.store done w.anon w.maps spaces loaded laws.residence (λ h. h) leads)
    (λ i u at. translation-kept w.store done w.anon w.maps spaces u laws.residence (λ h. h) (f.translations i u at))))
    (λ notes nf. laws.values notes (world_table w) nf.stored)

-- WHAT GIVES WAY TO A TRANSLATION has its bits gathered.
pub install-keeps : (w : World) (spaces : Spaces) (new : StoreSeen) (hat : HatSeen) (place : ℕ) (loaded : Translation) (was : Option Translation) → MemoryFits (memory_of w spaces) → TranslationFits w.store w.anon w.maps spaces loaded
    → slice_index_or w.hat.places place None ≡ was → hat.places ≡ slice_set w.hat.places place (Some loaded) → hat.frames ≡ w.hat.frames → IsSingleValued hat.places
    → new ≡ with_dropped_gathered w.store (option_map told_of was) → IfSome (option_map told_of was) (λ d. StaysInPlace w.store new (is_only (Some d.frame)))
    → KeepsPages w (with_tables w new hat) spaces
install-keeps w spaces new hat place loaded None f leads was places frames single step laws =
    subst (λ (s : StoreSeen). KeepsPages w (with_tables w s hat) spaces) (sym step) (install-none w spaces hat place loaded f leads was places frames single)
install-keeps w spaces new hat place loaded (Some t) f leads was places frames single step laws =
    subst (λ (s : StoreSeen). KeepsPages w (with_tables w s hat) spaces) (sym step)
    (install-some w spaces hat place loaded t f leads was places frames single (subst (λ (s : StoreSeen). StaysInPlace w.store s (is_only (Some t.frame))) step laws))
