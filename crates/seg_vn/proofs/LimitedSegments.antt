-- Translations that let no more than a protection, and a segment that has it.
use Rattle.std.proofs.lemmas.Bool.{or_left as or-left}
use Rattle.std.proofs.Common.{◌≡◌, ℕ, ◌+◌, ◌-◌, ◌<◌, ◌≤◌, true, false, List, Option, Some, None, refl, sym, ap, ◌∙◌, subst, slice_index_or}
use Rattle.std.specs.Prelude.{◌||◌}
use Rattle.std.specs.FinMap as finite
use Rattle.seg_ops.specs.vm_types.declared.prot.Prot.{Prot}
use Rattle.seg_ops.specs.vm_types.Prot.{can_read, can_write, is_within}
use Rattle.seg_ops.specs.addr_space.Space.{Part, part, with_new_piece}
use Rattle.seg_ops.proofs.addr_space.PartLemmas.{has-within}
use Rattle.seg_ops.proofs.addr_space.PartLists.{begins-first}
use Rattle.seg_ops.specs.hat_layer.Pool.{translation_at}
use Rattle.seg_ops.specs.hat_layer.declared.translation.Translation.{Translation}
use Rattle.seg_ops.specs.vm_world.FlatMemory.{Memory}
use Rattle.seg_ops.specs.vm_world.ProtectSteps.{MayHaveProt, with_part_prot, with_segment_prot, with_range_prot}
use Rattle.seg_ops.specs.vm_world.Segments.{Spaces}
use Rattle.seg_ops.specs.vm_world.SpaceSteps.{AreUnloaded}
use Rattle.seg_ops.specs.vm_world.World.{World}
use Rattle.seg_ops.specs.vm_world.ZeroObjects.{KnowsZeros}
use Rattle.seg_ops.specs.vm_world.declared.segment.Segment.{Segment}
use Rattle.seg_ops.proofs.vm_world.Loaded.{loaded-at}
use Rattle.seg_ops.proofs.vm_world.ProtectedParts.{part-protected, zeros-now}
use Rattle.seg_ops.proofs.vm_world.KnownZeros.{known-same}
use Rattle.seg_ops.proofs.vm_world.SegmentSteps.{segment_rule}
use Rattle.seg_ops.proofs.vm_world.Shapes.{prots-respects}
use Rattle.seg_ops.specs.vm_world.Words.{KeepsPages}
use Rattle.seg_ops.specs.Writers.{HasNoWriter}
use Rattle.seg_vn.specs.Clears.{ChangesSpace}
use Rattle.seg_vn.specs.Cuts.{IsPartAt}
use Rattle.seg_vn.specs.Protections.{AreLimited}
use Rattle.seg_vn.proofs.LeftSegments.{pages-are}

pub limited-read : (places : List (Option Translation)) (space first n : ℕ) (prot : Prot) → can_read prot ≡ true → ((q : ℕ) → first ≤ q → q < first + n → HasNoWriter places space q) → AreLimited places space first n prot
limited-read places space first n prot may none = record {
  allowed = λ place t there a b c. or-left (can_read prot) (can_write prot) may;
  writable = λ place t there a b c writes. absurd (let z : false ≡ true = sym (none t.page b c place t there a refl) ∙ writes in cc);
}

pub limited-none : (places : List (Option Translation)) (space first n : ℕ) (prot : Prot) → AreUnloaded places space first n → AreLimited places space first n prot
limited-none places space first n prot none = record {
  allowed = λ place t there a b c. absurd (gone place t there a b c);
  writable = λ place t there a b c writes. absurd (gone place t there a b c);
}
  where
    gone : (place : ℕ) (t : Translation) → slice_index_or places place None ≡ Some t → t.space ≡ space → first ≤ t.page → t.page < first + n → ⊥
    gone place t there a b c = loaded-at places place t there (ap (λ (k : ℕ). translation_at places k t.page) a ∙ none t.page b c)

pub prot-changes : (w v : World) (zeros : List (Option ℕ)) (spaces : Spaces) (p first : ℕ) (s now : Segment) (prot : Prot) (c : IsPartAt w spaces p first s) → is_within prot s.max ≡ true → KeepsPages w v spaces → AreLimited v.hat.places p first s.pages prot → now ≡ with_segment_prot prot s
    → KnowsZeros zeros spaces → ChangesSpace p (record { world = w; spaces = spaces }) (record { world = v; spaces = finite.insert spaces p (with_new_piece first now c.parts) }) zeros (λ F. with_range_prot F p first s.pages prot)
prot-changes w v zeros spaces p first s now prot c within keeps limited is knows =
    let m : Memory = record { world = w; spaces = spaces } in
    let n : Memory = record { world = v; spaces = spaces } in
    let at = begins-first c.parts first c.part c.starts in
    let size = pages-are w spaces p first s c in
    let x : Part Segment = part first s.pages s in
    let whole : c.part ≡ x = λ i. part (at i) (size i) (c.piece i) in
    let first_step = segment_rule.keeps p w v spaces c.memory keeps in
    let may : MayHaveProt n p x prot = record {
      within = within;
      allowed = λ place t there a h. (let k = has-within x t.page h in limited.allowed place t there a k.from k.below);
      writable = λ place t there a h writes. (let k = has-within x t.page h in limited.writable place t there a k.from k.below writes);
    } in
    let found = c.starts ∙ ap (λ (y : Part Segment). Some y) whole in
    let done = part-protected n p c.parts x prot first_step.memory c.here found may in
    let both = segment_rule.joined p m n (with_part_prot n p c.parts x prot) (λ F. F) (λ F. with_range_prot F p first s.pages prot) (prots-respects p first s.pages prot) first_step done in
    let known = known-same zeros spaces (finite.insert spaces p (with_new_piece first (with_segment_prot prot s) c.parts)) (zeros-now n p c.parts x prot first_step.memory c.here found may) knows in
    subst (λ (t : Segment). ChangesSpace p m (record { world = v; spaces = finite.insert spaces p (with_new_piece first t c.parts) }) zeros (λ F. with_range_prot F p first s.pages prot)) (sym is) (record { changes = both; known = known })
