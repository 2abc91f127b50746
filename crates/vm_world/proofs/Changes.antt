-- Changes of memory: one after another, and one that is said by another function.
use Rattle.std.proofs.Common.{◌≡◌, ℕ, length, ap, ◌∙◌}
use Rattle.std.specs.Ordering.{nat_cmp}
use Rattle.std.specs.FinSet as set
use Rattle.page_store.specs.Notes.{Notes}
use Rattle.flat_model.specs.Flat.{Flat, IsFlat}
use Rattle.flat_model.specs.Shapes.{RespectsShape, without_bytes}
use Rattle.vm_world.specs.CallSteps.{KeepsMachine, TurnsMemory}
use Rattle.vm_world.specs.FlatMemory.{Memory, flat_memory}
use Rattle.vm_world.specs.NotesFit.{NotesFit}
use Rattle.vm_world.specs.SegmentSteps.{ChangesSegments}
use Rattle.vm_world.specs.SpaceSteps.{Becomes}
use Rattle.vm_world.specs.World.{World, core_of, AllTell}
use Rattle.vm_world.specs.WorldSteps.{KeepsTables}
use Rattle.vm_world.proofs.Callers.{same-modes}

-- what keeps the tables keeps the machine
pub machine-kept : (u v : World) → core_of v.store ≡ core_of u.store → length v.store.frames ≡ length u.store.frames → KeepsTables u v → v.store.bays ≡ u.store.bays → KeepsMachine u v
machine-kept u v core frames tables bays = record { core = core; frames = frames; slots = ap length tables.counts; disks = tables.disks; modes = same-modes u v tables; bays = bays }

pub machine-then : (u v w : World) → KeepsMachine u v → KeepsMachine v w → KeepsMachine u w
machine-then u v w a b = record {
  core = b.core ∙ a.core;
  frames = b.frames ∙ a.frames;
  slots = b.slots ∙ a.slots;
  disks = b.disks ∙ a.disks;
  modes = b.modes ∙ a.modes;
  bays = b.bays ∙ a.bays;
}

-- one change after another, where the first leaves flat memory well formed and the second respects its shape
pub changes-then : (p : ℕ) (u v w : Memory) (first second : Flat → Flat) (one two both : Flat → Flat → Type 0) → RespectsShape second
    → ((born : set.FinSet nat_cmp) (notes : Notes) → NotesFit u.world notes → AllTell u.world notes → IsFlat (flat_memory u born notes) → one (flat_memory u born notes) (flat_memory v born notes) → IsFlat (flat_memory v born notes))
    → ((F G H : Flat) → one F G → two G H → both F H) → TurnsMemory p u v first one → TurnsMemory p v w second two → TurnsMemory p u w (λ F. second (first F)) both
changes-then p u v w first second one two both respects whole join a b = record {
  machine = machine-then u.world v.world w.world a.machine b.machine;
  others = λ q far. b.others q far ∙ a.others q far;
  memory = b.memory;
  notes = λ notes nf. b.notes notes (a.notes notes nf);
  tells = λ notes nf. let x = a.tells notes nf in let y = b.tells notes (a.notes notes nf) in ((λ tell. y.0 (x.0 tell)), (λ tell. x.1 (y.1 tell)));
  flat = λ born notes nf tell is.
      let x = a.flat born notes nf tell is in
      join (flat_memory u born notes) (flat_memory v born notes) (flat_memory w born notes) x (b.flat born notes (a.notes notes nf) ((a.tells notes nf).0 tell) (whole born notes nf tell is x));
  shaped = λ born notes. b.shaped born notes ∙ respects (flat_memory v born notes) (first (flat_memory u born notes)) (a.shaped born notes);
}

pub becomes-then : (p : ℕ) (u v w : Memory) (first second : Flat → Flat) → RespectsShape second → ChangesSegments p u v first → ChangesSegments p v w second → ChangesSegments p u w (λ F. second (first F))
becomes-then p u v w first second respects =
    changes-then p u v w first second (Becomes first) (Becomes second) (Becomes (λ F. second (first F))) respects (λ born notes nf tell is x. x.1) (λ F G H x y. (y.0 ∙ ap second x.0, y.1))

pub becomes-same : (p : ℕ) (u v : Memory) (f g : Flat → Flat) → ((born : set.FinSet nat_cmp) (notes : Notes) → f (flat_memory u born notes) ≡ g (flat_memory u born notes)) → ChangesSegments p u v f → ChangesSegments p u v g
becomes-same p u v f g same c = record {
  machine = c.machine;
  others = c.others;
  memory = c.memory;
  notes = c.notes;
  tells = c.tells;
  flat = λ born notes nf tell is. let x = c.flat born notes nf tell is in (x.0 ∙ same born notes, x.1);
  shaped = λ born notes. c.shaped born notes ∙ ap without_bytes (same born notes);
}
