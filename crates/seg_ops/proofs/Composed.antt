-- One step that keeps all pages after another.
use Rattle.std.proofs.Common.{◌≡◌, ℕ, true, false, Option, Some, None, refl}
use Rattle.std.specs.Prelude.{IsSome}
use Rattle.vm_world.specs.MemoryFits.{MemoryFits}
use Rattle.vm_world.specs.Segments.{Spaces}
use Rattle.vm_world.specs.World.{World}
use Rattle.vm_world.specs.WorldSteps.{stays}
use Rattle.vm_world.proofs.FrameRule.{frame_law}
use Rattle.vm_world.specs.Words.{KeepsPages}
use Rattle.seg_ops.proofs.StillSteps.{memory_of}

pub keeps-then : (u v w : World) (spaces : Spaces) → MemoryFits (memory_of u spaces) → KeepsPages u v spaces → KeepsPages v w spaces → KeepsPages u w spaces
keeps-then u v w spaces f first second = frame_law.joined u v w spaces stays (λ name. false) (λ name. false) f first second

-- nothing was done
pub keeps-same : (w : World) (spaces : Spaces) → MemoryFits (memory_of w spaces) → KeepsPages w w spaces
keeps-same w spaces f = record {
  tables = record { maps = refl; counts = refl; reserved = refl; disks = refl; infos = refl };
  core = refl;
  frames = refl;
  bays = refl;
  memory = f;
  notes = λ notes trip nf. nf;
  tells = λ notes trip nf. ((λ tell. tell), (λ tell. tell));
  whole = λ notes name trip nf tell exists cut. absurd (let z : false ≡ true = cut in cc);
  pages = λ notes name trip nf tell is. refl;
}
