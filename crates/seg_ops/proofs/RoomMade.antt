-- Room that is made, in no step and in two.
use Rattle.std.proofs.Common.{◌≡◌, ℕ, List, [], ◌∷◌, ◌++◌, Bool, refl, ap, ◌∙◌, inl, inr}
use Rattle.page_store.specs.page_lists.ListsSeen.{first_listed}
use Rattle.page_store.specs.Seen.{StoreSeen}
use Rattle.page_store.specs.Steps.{next_frame}
use Rattle.vm_world.specs.World.{world_seen}
use Rattle.vm_world.specs.declared.world.World as rust
use Rattle.seg_ops.specs.Rooms.{ListsOneMore, MakesRoom, SameLists}
use Rattle.seg_ops.specs.Steps.{with_bits_gathered}
use Rattle.seg_ops.proofs.Composed.{keeps-then, keeps-same}
use Rattle.seg_ops.proofs.Modified.{modifies-then, modifies-same}

pub room-same : {D : Type 0} (w : rust.World D) → MakesRoom w w
room-same w = record {
  rest = refl;
  stay = λ name. refl;
  names = refl;
  frames = refl;
  modified = modifies-same (world_seen w);
  keeps = λ spaces fits. keeps-same (world_seen w) spaces fits;
}

pub room-then : {D : Type 0} (u v w : rust.World D) → MakesRoom u v → MakesRoom v w → MakesRoom u w
room-then {D} u v w first second = record {
  rest = second.rest ∙ ap (λ (x : rust.World D). record x { store = w.store; hat = w.hat }) first.rest;
  stay = λ name. second.stay name ∙ first.stay name;
  names = second.names ∙ first.names;
  frames = second.frames ∙ first.frames;
  modified = modifies-then (world_seen u) (world_seen v) (world_seen w) first.modified second.modified;
  keeps = λ spaces fits.
      let mid = first.keeps spaces fits in
      keeps-then (world_seen u) (world_seen v) (world_seen w) spaces fits mid (second.keeps spaces mid.memory);
}

-- THE LISTS: as they were, and then with one frame more.
pub lists-then : (s mid new : StoreSeen) → SameLists s mid → ListsOneMore mid new → ListsOneMore s new
lists-then s mid new (free, cached) (then, inl same) = (then ∙ free, inl (same ∙ cached))
lists-then s mid new (free, cached) (then, inr (frame, is)) = (then ∙ free, inr (frame, is ∙ ap (λ (l : List ℕ). l ++ frame ∷ []) cached))

pub lists-both : (s mid new : StoreSeen) → SameLists s mid → SameLists mid new → SameLists s new
lists-both s mid new (free, cached) (then_free, then_cached) = (then_free ∙ free, then_cached ∙ cached)

-- The frame that is taken next is the same.
pub same-next : (s new : StoreSeen) → SameLists s new → next_frame new ≡ next_frame s
same-next s new (free, cached) = ap (λ (l : List ℕ). first_listed l new.cached) free ∙ ap (λ (l : List ℕ). first_listed s.free l) cached

-- As they were, where bits alone are gathered.
pub lists-gathered : (s new : StoreSeen) (frame : ℕ) (told : Bool × Bool) → new ≡ with_bits_gathered s frame told → SameLists s new
lists-gathered s new frame told is = (ap (λ (x : StoreSeen). x.free) is, ap (λ (x : StoreSeen). x.cached) is)
