-- Frames that are taken for other pages. Public clauses cite this.
use Rattle.std.specs.Prelude.{ℕ, Option, IfSome}
use Rattle.page_store.specs.page_hash.Names.{is_name}
use Rattle.page_store.specs.Notes.{Note, Notes}
use Rattle.page_store.specs.Steps.{next_name}
use Rattle.vm_world.specs.flat_model.Flat.{Flat}
use Rattle.vm_world.specs.flat_model.Step.{tails_cleared}
use Rattle.vm_world.specs.NotesFit.{NotesFit}
use Rattle.vm_world.specs.Segments.{Spaces}
use Rattle.vm_world.specs.Serving.{LosesFrame}
use Rattle.vm_world.specs.StateSteps.{PendsTails}
use Rattle.vm_world.specs.Words.{Fits}
use Rattle.vm_world.specs.World.{world_seen}
use Rattle.vm_world.specs.WorldSteps.{WorldStep, stays, leaves, tails_lost}
use Rattle.vm_world.specs.declared.world.World as rust

-- THE NEXT FRAME IS TAKEN: the page that it held, if it held one, loses it; and where that was a file's last page, the file's tail is pending.
pub record TakesNextFrame {D : Type 0} (old new : rust.World D) : Type 0 where
  pub lost : IfSome (next_name old.store) (λ name. LosesFrame (world_seen old) (world_seen new) name)
  pub tails : PendsTails (world_seen old) (is_name (next_name old.store)) old.pending new.pending

-- Flat memory as the next frame is taken: where the page that it held was a file's last one, that file's tail is zeros.
abbrev pub next_cleared : {D : Type 0} → rust.World D → Flat → Flat
next_cleared w F = tails_cleared F (tails_lost (world_seen w) (is_name (next_name w.store)))

-- Each page keeps its value, but that the one which held the next frame is cut at its valid bytes.
abbrev pub KeepsButNext : {D : Type 0} → rust.World D → rust.World D → Type 0
KeepsButNext old new = (spaces : Spaces) → Fits old spaces → WorldStep (world_seen old) (world_seen new) spaces stays (is_name (next_name old.store))

-- As a flight with this note goes out with a seat, each page keeps its value, but that the one
-- which held the next frame is cut at its valid bytes.
abbrev pub SendsButNext : {D : Type 0} → rust.World D → rust.World D → ℕ → Note → Type 0
SendsButNext old new seat note = (spaces : Spaces) (notes : Notes) → Fits old spaces → NotesFit (world_seen old) notes
    → WorldStep (world_seen old) (world_seen new) spaces (leaves seat note) (is_name (next_name old.store))
