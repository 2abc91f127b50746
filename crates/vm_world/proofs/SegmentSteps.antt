-- Changes of one process's segments.
use Rattle.std.proofs.Common.{◌≡◌, ℕ, false, List, Some, refl, sym, ◌∙◌, subst}
use Rattle.std.specs.FinMap as finite
use Rattle.addr_space.specs.Space.{Part, begins}
use Rattle.addr_space.proofs.PartLists.{begins-first}
use Rattle.flat_model.specs.Flat.{Flat, IsFlat}
use Rattle.flat_model.specs.Mapping.{without_pages}
use Rattle.flat_model.proofs.ClearedTails.{cleared_tails_law}
use Rattle.vm_world.specs.FlatMemory.{Memory, flat_memory}
use Rattle.vm_world.specs.MemoryFits.{MemoryFits}
use Rattle.vm_world.specs.SegmentSteps.{MayLeave, with_part_gone, ChangesSegments, SegmentRule}
use Rattle.vm_world.specs.Segments.{Segment, Spaces}
use Rattle.vm_world.specs.World.{World}
use Rattle.vm_world.specs.WorldSteps.{stays, WorldStep}
use Rattle.vm_world.proofs.Changes.{machine-kept, becomes-then, becomes-same}
use Rattle.vm_world.proofs.ComingParts.{part-come, zero-part-come}
use Rattle.vm_world.proofs.CutParts.{part-cut}
use Rattle.vm_world.proofs.FrameRule.{frame_law}
use Rattle.vm_world.proofs.GoneParts.{part-gone}
use Rattle.vm_world.proofs.LeftProcesses.{process-left}
use Rattle.vm_world.proofs.MoreNumbers.{more-numbers}
use Rattle.vm_world.proofs.Shapes.{tables-shape}

rule-remove : (m : Memory) (p first : ℕ) (parts : List (Part Segment)) (x : Part Segment) → MemoryFits m → finite.get m.spaces p ≡ Some parts → begins parts first ≡ Some x → MayLeave m p x
    → ChangesSegments p m (with_part_gone m p parts x) (λ F. without_pages F p x.first x.pages)
rule-remove m p first parts x fits is found may = part-gone m p parts x fits is (subst (λ (k : ℕ). begins parts k ≡ Some x) (sym (begins-first parts first x found)) found) may

-- A STEP OF THE WORLD that keeps all pages
rule-keeps : (p : ℕ) (old new : World) (spaces : Spaces) → MemoryFits (record { world = old; spaces = spaces }) → WorldStep old new spaces stays (λ name. false)
    → ChangesSegments p (record { world = old; spaces = spaces }) (record { world = new; spaces = spaces }) (λ F. F)
rule-keeps p old new spaces fits step = record {
  machine = machine-kept old new step.core step.frames step.tables step.bays;
  others = λ q ne. refl;
  memory = step.memory;
  notes = λ notes nf. step.notes notes tt nf;
  tells = λ notes nf. step.tells notes tt nf;
  flat = λ born notes nf tell whole.
      let F : Flat = flat_memory (record { world = old; spaces = spaces }) born notes in
      let e : flat_memory (record { world = new; spaces = spaces }) born notes ≡ F = frame_law.flat old new spaces stays (λ name. false) born notes fits step tt nf tell whole ∙ cleared_tails_law.none F in
      (e, subst IsFlat (sym e) whole);
  shaped = λ born notes. tables-shape old new spaces born notes notes step.tables;
}

pub segment_rule : SegmentRule
segment_rule = record {
  cut = part-cut;
  remove = rule-remove;
  put = part-come;
  put_zero = zero-part-come;
  leave = process-left;
  numbers = λ m p more fits. more-numbers m more fits p;
  keeps = rule-keeps;
  joined = becomes-then;
  same = becomes-same;
}
