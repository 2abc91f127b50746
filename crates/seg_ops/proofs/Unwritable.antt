-- A translation loses the right to write.
use Rattle.std.proofs.Common.{◌≡◌, ◌≢◌, ℕ, Bool, true, false, cond, List, Option, Some, None, refl, sym, ap, ◌∙◌, inl, inr, subst, slice_index_or}
use Rattle.std.specs.Prelude.{option_map}
use Rattle.std.proofs.lemmas.Bool.{cases_Bool}
use Rattle.page_store.specs.page_lock.declared.Row.{Row}
use Rattle.vm_world.specs.hat_layer.declared.translation.Translation.{Translation}
use Rattle.vm_world.specs.hat_layer.Pool.{HatSeen, IsSingleValued, change_at, change_page, holds, without_write}
use Rattle.vm_world.specs.MemoryFits.{MemoryFits}
use Rattle.vm_world.specs.Segments.{Spaces}
use Rattle.vm_world.specs.TranslationsFit.{TranslationFits, TranslationsFit, HasWritten}
use Rattle.vm_world.specs.Serving.{ModifiesNone, SaysNone}
use Rattle.vm_world.specs.World.{World, world_table}
use Rattle.vm_world.proofs.Loaded.{holds-own}
use Rattle.vm_world.specs.Words.{KeepsPages}
use Rattle.seg_ops.specs.Writers.{HasNoWriter, WasWriter, WritersStay}
use Rattle.seg_ops.proofs.Modified.{is_modified, is_rewritten, says}
use Rattle.seg_ops.proofs.Places.{each-change_at, index-map}
use Rattle.seg_ops.proofs.StillSteps.{with_tables, memory_of, step-keeps, keeps-store, values-same}
use Rattle.seg_ops.proofs.Unloads.{holds-at}

-- what a place has, it had, or had with the right to write
data Came (space page : ℕ) (o : Option Translation) (t : Translation) : Type 0 where
  kept : o ≡ Some t → holds space page o ≡ false → Came space page o t
  lost : (u : Translation) → o ≡ Some u → t ≡ without_write u → Came space page o t

came-by : (space page : ℕ) (o : Option Translation) (t : Translation) (b : Bool) → holds space page o ≡ b → cond b (option_map without_write o) o ≡ Some t → Came space page o t
came-by space page None t true h e = absurd (let z : None ≡ Some t = e in cc)
came-by space page (Some u) t true h e = lost u refl (let z : Some (without_write u) ≡ Some t = e in let s : without_write u ≡ t = cc in sym s)
came-by space page o t false h e = kept e h

came : (places : List (Option Translation)) (space page place : ℕ) (t : Translation) → slice_index_or (change_at space page without_write places) place None ≡ Some t → Came space page (slice_index_or places place None) t
came places space page place t is =
    came-by space page (slice_index_or places place None) t (holds space page (slice_index_or places place None)) refl (sym (index-map (change_page space page without_write) places place refl) ∙ is)

lost-right : (t u : Translation) → t ≡ without_write u → t.writable ≡ false
lost-right t u e = ap (λ (x : Translation). x.writable) e

pub no-writer : (old new : List (Option Translation)) (space page : ℕ) → new ≡ change_at space page without_write old → HasNoWriter new space page
no-writer old new space page e place t is a b = by_case (slice_index_or old place None) (came old space page place t (ap (λ (ps : List (Option Translation)). slice_index_or ps place None) (sym e) ∙ is))
  where
    by_case : (o : Option Translation) → Came space page o t → t.writable ≡ false
    by_case o (kept was not) = absurd (let h : holds space page (Some t) ≡ true = holds-at t space page a b in let z : true ≡ false = sym h ∙ ap (holds space page) (sym was) ∙ not in cc)
    by_case o (lost u was s) = lost-right t u s

pub writers-stay : (old new : List (Option Translation)) (space page : ℕ) → new ≡ change_at space page without_write old → WritersStay old new
writers-stay old new space page e place t is writes = by_case (slice_index_or old place None) refl (came old space page place t (ap (λ (ps : List (Option Translation)). slice_index_or ps place None) (sym e) ∙ is))
  where
    by_case : (o : Option Translation) → slice_index_or old place None ≡ o → Came space page o t → WasWriter old t
    by_case o at (kept was not) = record { place = place; was = t; there = at ∙ was; space = refl; page = refl; writable = refl }
    by_case o at (lost u was s) = absurd (let z : false ≡ true = sym (lost-right t u s) ∙ writes in cc)

turned : (b : Bool) (u : Translation) → (x : Translation) × (cond b (option_map without_write (Some u)) (Some u) ≡ Some x) × (x.frame ≡ u.frame) × (x.modified ≡ u.modified)
turned true u = (without_write u, refl, refl, refl)
turned false u = (u, refl, refl, refl)

written : (places : List (Option Translation)) (space page frame : ℕ) → HasWritten places frame → HasWritten (change_at space page without_write places) frame
written places space page frame w =
    let r = turned (holds space page (Some w.translation)) w.translation in
    record {
      place = w.place;
      translation = r.0;
      there = index-map (change_page space page without_write) places w.place refl ∙ ap (change_page space page without_write) w.there ∙ r.1;
      leads = r.2 ∙ w.leads;
      modified = r.3 ∙ w.modified;
    }

-- no page is modified by it: what says so kept its bits
unwritten : (places : List (Option Translation)) (space page frame : ℕ) → HasWritten (change_at space page without_write places) frame → HasWritten places frame
unwritten places space page frame w = by_case (slice_index_or places w.place None) refl (came places space page w.place w.translation w.there)
  where
    by_case : (o : Option Translation) → slice_index_or places w.place None ≡ o → Came space page o w.translation → HasWritten places frame
    by_case o at (kept was not) = record { place = w.place; translation = w.translation; there = at ∙ was; leads = w.leads; modified = w.modified }
    by_case o at (lost u was s) = record { place = w.place; translation = u; there = at ∙ was; leads = sym (ap (λ (x : Translation). x.frame) s) ∙ w.leads; modified = sym (ap (λ (x : Translation). x.modified) s) ∙ w.modified }

pub protect-modifies : (w : World) (hat : HatSeen) (space page : ℕ) → hat.places ≡ change_at space page without_write w.hat.places → ModifiesNone w (with_tables w w.store hat)
protect-modifies w hat space page places = record { modified = protect-says is_modified; rewritten = protect-says is_rewritten }
  where
    protect-says : (bit : Row → Bool) → SaysNone (says bit) w (with_tables w w.store hat)
    protect-says bit = λ name k home m. (home, elim m [ inl row ↦ inl row | inr said ↦ inr (unwritten w.hat.places space page k (subst (λ (ps : List (Option Translation)). HasWritten ps k) places said)) ])

fits-without : (w : World) (spaces : Spaces) (t : Translation) → TranslationFits w.store w.anon w.maps spaces t → TranslationFits w.store w.anon w.maps spaces (without_write t)
fits-without w spaces t l = record { spot = l.spot; here = l.here; name = l.name; shows = l.shows; home = l.home; unlisted = l.unlisted; allowed = l.allowed; writable = λ is. absurd (let z : false ≡ true = is in cc) }

pub protect-keeps : (w : World) (spaces : Spaces) (hat : HatSeen) (space page : ℕ) → MemoryFits (memory_of w spaces) → hat.places ≡ change_at space page without_write w.hat.places → hat.frames ≡ w.hat.frames → IsSingleValued hat.places
    → KeepsPages w (with_tables w w.store hat) spaces
protect-keeps w spaces hat space page f places frames single =
    step-keeps w spaces w.store hat f
    (keeps-store w.store w.hat.places hat.places w.files w.anon f.frames (λ k x. subst (λ (ps : List (Option Translation)). HasWritten ps k) (sym places) (written w.hat.places space page k x)))
    frames single
    (subst (λ (ps : List (Option Translation)). TranslationsFit w.store w.anon w.maps spaces ps) (sym places)
    (each-change_at (TranslationFits w.store w.anon w.maps spaces) space page without_write w.hat.places (λ t l. fits-without w spaces t l) f.translations))
    (λ notes nf. values-same w.store notes (world_table w) nf.stored)
