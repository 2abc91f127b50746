-- A translation is dropped, and its bits are gathered into its page.
use Rattle.vm_world.proofs.flat_model.Ranges.{both_true as both-parts}
use Rattle.std.proofs.Common.{◌≡◌, ◌≢◌, ℕ, ◌<◌, Bool, true, false, cond, List, length, Option, Some, None, refl, sym, ap, ◌∙◌, ◌⊎◌, inl, inr, subst, slice_index_or}
use Rattle.std.specs.Prelude.{option_map, IfSome, ◌&&◌, ◌==◌}
use Rattle.std.proofs.lemmas.Bool.{cases_Bool, eqb-true}
use Rattle.page_store.specs.Laws.{StaysInPlace}
use Rattle.page_store.specs.Moves.{is_only}
use Rattle.page_store.specs.Seen.{StoreSeen, IsListedFrame}
use Rattle.vm_world.specs.hat_layer.declared.translation.Translation.{Translation}
use Rattle.vm_world.specs.hat_layer.declared.translation.Dropped.{Dropped}
use Rattle.vm_world.specs.hat_layer.Pool.{HatSeen, IsSingleValued, translation_at, holds, told_of, drop_page, drop_at}
use Rattle.vm_world.specs.MemoryFits.{MemoryFits}
use Rattle.vm_world.specs.Segments.{Spaces}
use Rattle.vm_world.specs.TranslationsFit.{TranslationFits, TranslationsFit, HasWritten}
use Rattle.vm_world.specs.World.{World, world_table}
use Rattle.vm_world.specs.Words.{KeepsPages}
use Rattle.seg_ops.specs.Steps.{with_bits_gathered, with_dropped_gathered}
use Rattle.seg_ops.proofs.Places.{Each, index-map, stands-at}
use Rattle.seg_ops.proofs.StillSteps.{KeepsFrames, with_tables, memory_of, translation-kept, step-keeps, keeps-store, values-same, fits-within}
use Rattle.seg_ops.proofs.Gathers.{keeps-gathered}
use Rattle.vm_world.proofs.Loaded.{loaded-at, holds-own}

held-is : (t : Translation) (space page : ℕ) → holds space page (Some t) ≡ true → (t.space ≡ space) × (t.page ≡ page)
held-is t space page h = let b = both-parts (t.space == space) (t.page == page) h in (eqb-true t.space space b.0, eqb-true t.page page b.1)

-- what is left after a drop was there
pub kept-of : (b : Bool) (o : Option Translation) (t : Translation) → cond b None o ≡ Some t → o ≡ Some t
kept-of true o t e = absurd (let z : None ≡ Some t = e in cc)
kept-of false o t e = e

pub each-drop_at : (P : Translation → Type 0) (space page : ℕ) (places : List (Option Translation)) → Each P places → Each P (drop_at space page places)
each-drop_at P space page places each k t there =
    each k t (kept-of (holds space page (slice_index_or places k None)) (slice_index_or places k None) t (sym (index-map (drop_page space page) places k refl) ∙ there))

-- what was written is written still, or said by the page's own translation
written-drop_at : (places : List (Option Translation)) (space page k : ℕ) → HasWritten places k
    → ((t : Translation) × (place : ℕ) × (slice_index_or places place None ≡ Some t) × (holds space page (Some t) ≡ true) × (t.frame ≡ k) × (t.modified ≡ true)) ⊎ HasWritten (drop_at space page places) k
written-drop_at places space page k w = elim (cases_Bool (holds space page (Some w.translation))) [
  | inl own ↦ inl (w.translation, w.place, w.there, own, w.leads, w.modified)
  | inr other ↦ inr (record {
    place = w.place;
    translation = w.translation;
    there = index-map (drop_page space page) places w.place refl ∙ ap (drop_page space page) w.there ∙ ap (λ (b : Bool). cond b None (Some w.translation)) other;
    leads = w.leads;
    modified = w.modified;
  })
]

pub holds-at : (t : Translation) (space page : ℕ) → t.space ≡ space → t.page ≡ page → holds space page (Some t) ≡ true
holds-at t space page a b = let x = sym a in let y = sym b in (λ i. holds (x i) (y i) (Some t)) ∙ holds-own t

-- the translation of a page that stands somewhere is the one that is found
pub found-own : (places : List (Option Translation)) (space page : ℕ) (t u : Translation) (place : ℕ) → IsSingleValued places → translation_at places space page ≡ Some t → slice_index_or places place None ≡ Some u → holds space page (Some u) ≡ true → u ≡ t
found-own places space page t u place single is there own =
    let s = stands-at places space page t is in
    let mine : holds space page (slice_index_or places s.place None) ≡ true = ap (holds space page) s.there ∙ holds-at t space page s.space_is s.page_is in
    let same : s.place ≡ place = single s.place place space page mine (ap (holds space page) there ∙ own) in
    let both : Some t ≡ Some u = sym s.there ∙ ap (λ (i : ℕ). slice_index_or places i None) same ∙ there in cc

-- WHAT IS TOLD of a dropped translation leads to a frame that is there
pub unloaded-within : (w : World) (spaces : Spaces) (space page : ℕ) (o : Option Dropped) → MemoryFits (memory_of w spaces) → o ≡ option_map told_of (translation_at w.hat.places space page) → IfSome o (λ d. d.frame < length w.store.frames)
unloaded-within w spaces space page o f e = subst (λ (x : Option Dropped). IfSome x (λ d. d.frame < length w.store.frames)) (sym e) (by_was (translation_at w.hat.places space page) refl)
  where
    by_was : (x : Option Translation) → translation_at w.hat.places space page ≡ x → IfSome (option_map told_of x) (λ d. d.frame < length w.store.frames)
    by_was None is = tt
    by_was (Some t) is = let s = stands-at w.hat.places space page t is in fits-within w.store w.anon w.maps spaces t f.frames.sound (f.translations s.place t s.there)

drop-none : (w : World) (spaces : Spaces) (hat : HatSeen) (space page : ℕ) → MemoryFits (memory_of w spaces) → translation_at w.hat.places space page ≡ None → hat.places ≡ drop_at space page w.hat.places → hat.frames ≡ w.hat.frames → IsSingleValued hat.places
    → KeepsPages w (with_tables w w.store hat) spaces
drop-none w spaces hat space page f was places frames single =
    step-keeps w spaces w.store hat f
    (keeps-store w.store w.hat.places hat.places w.files w.anon f.frames (λ k x. subst (λ (ps : List (Option Translation)). HasWritten ps k) (sym places) (elim (written-drop_at w.hat.places space page k x) [
      | inl e ↦ absurd (not-there e.0 e.1 e.2 e.3)
      | inr y ↦ y
    ])))
    frames single
    (subst (λ (ps : List (Option Translation)). TranslationsFit w.store w.anon w.maps spaces ps) (sym places) (each-drop_at (TranslationFits w.store w.anon w.maps spaces) space page w.hat.places f.translations))
    (λ notes nf. values-same w.store notes (world_table w) nf.stored)
  where
    not-there : (t : Translation) (place : ℕ) → slice_index_or w.hat.places place None ≡ Some t → holds space page (Some t) ≡ true → ⊥
    not-there t place there own = loaded-at w.hat.places place t there (let e = held-is t space page own in (λ i. translation_at w.hat.places (e.0 i) (e.1 i)) ∙ was)

drop-some : (w : World) (spaces : Spaces) (hat : HatSeen) (space page : ℕ) (t : Translation) → MemoryFits (memory_of w spaces) → translation_at w.hat.places space page ≡ Some t → hat.places ≡ drop_at space page w.hat.places → hat.frames ≡ w.hat.frames → IsSingleValued hat.places
    → StaysInPlace w.store (with_bits_gathered w.store t.frame (t.referenced, t.modified)) (is_only (Some t.frame))
    → KeepsPages w (with_tables w (with_bits_gathered w.store t.frame (t.referenced, t.modified)) hat) spaces
drop-some w spaces hat space page t f was places frames single laws =
    let told : Bool × Bool = (t.referenced, t.modified) in
    let done = with_bits_gathered w.store t.frame told in
    let s = stands-at w.hat.places space page t was in
    let fit = f.translations s.place t s.there in
    step-keeps w spaces done hat f
    (keeps-gathered w.store w.files w.anon w.hat.places hat.places t.frame told f.frames (fits-within w.store w.anon w.maps spaces t f.frames.sound fit) fit.unlisted laws
    (λ k x. elim (written-drop_at w.hat.places space page k x) [
      | inl e ↦ inl (let same : e.0 ≡ t = found-own w.hat.places space page t e.0 e.1 f.pool.single was e.2 e.3 in (ap (λ (u : Translation). u.frame) (sym same) ∙ e.4, ap (λ (u : Translation). u.modified) (sym same) ∙ e.5))
      | inr y ↦ inr (subst (λ (ps : List (Option Translation)). HasWritten ps k) (sym places) y)
    ]))
    frames single
    (subst (λ (ps : List (Option Translation)). TranslationsFit done w.anon w.maps spaces ps) (sym places)
    (each-drop_at (TranslationFits done w.anon w.maps spaces) space page w.hat.places (λ i u at. translation-kept w.store done w.anon w.maps spaces u laws.residence (λ h. h) (f.translations i u at))))
    (λ notes nf. laws.values notes (world_table w) nf.stored)

-- A TRANSLATION IS DROPPED.
pub drop-keeps : (w : World) (spaces : Spaces) (new : StoreSeen) (hat : HatSeen) (space page : ℕ) (was : Option Translation) → MemoryFits (memory_of w spaces) → translation_at w.hat.places space page ≡ was → hat.places ≡ drop_at space page w.hat.places
    → hat.frames ≡ w.hat.frames → IsSingleValued hat.places
    → new ≡ with_dropped_gathered w.store (option_map told_of was) → IfSome (option_map told_of was) (λ d. StaysInPlace w.store new (is_only (Some d.frame)))
    → KeepsPages w (with_tables w new hat) spaces
drop-keeps w spaces new hat space page None f is places frames single step laws =
    subst (λ (s : StoreSeen). KeepsPages w (with_tables w s hat) spaces) (sym step) (drop-none w spaces hat space page f is places frames single)
drop-keeps w spaces new hat space page (Some t) f is places frames single step laws =
    subst (λ (s : StoreSeen). KeepsPages w (with_tables w s hat) spaces) (sym step)
    (drop-some w spaces hat space page t f is places frames single (subst (λ (s : StoreSeen). StaysInPlace w.store s (is_only (Some t.frame))) step laws))

-- after it the page has none
pub drop-gone : (places : List (Option Translation)) (space page : ℕ) (new : Option Translation) → new ≡ drop_page space page (translation_at places space page) → new ≡ None
drop-gone places space page new e = e ∙ by_was (translation_at places space page) refl
  where
    by_was : (o : Option Translation) → translation_at places space page ≡ o → drop_page space page o ≡ None
    by_was None is = refl
    by_was (Some t) is = let s = stands-at places space page t is in ap (λ (b : Bool). cond b None (Some t)) (holds-at t space page s.space_is s.page_is)
