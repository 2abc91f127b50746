-- The state at the opening fits.
use Rattle.flat_model.proofs.Frames.{or_nothing as or-false}
use Rattle.std.proofs.Common.{◌≡◌, ℕ, Bool, true, false, List, [], length, Option, Some, None, refl, sym, ap, ◌∙◌, subst, arith}
use Rattle.std.specs.Prelude.{is_some, if◌then◌else◌, IsSome, IsTrue, IsFalse}
use Rattle.std.specs.FinMap as finite
use Rattle.std.specs.FinSet as set
use Rattle.page_store.specs.Notes.{no_notes}
use Rattle.page_store.specs.Value.{content_of}
use Rattle.addr_space.specs.Space.{Part}
use Rattle.flat_model.specs.vnode_files.Files.{vnode_at}
use Rattle.vm_world.specs.World.{AllTell}
use Rattle.vm_world.specs.Segments.{Segment}
use Rattle.vm_world.specs.FlatMemory.{flat_memory}
use Rattle.vm_world.specs.State.{KernelState, is_top}
use Rattle.vm_world.specs.StateFits.{StateFits}
use Rattle.vm_world.specs.HistoryFits.{HistoryFits, RoomsFit, BirthsFit, has_left}
use Rattle.flat_model.specs.vm_types.declared.call.Entry.{Entry}
use Rattle.vm_world.specs.Opening.{IsOpening, OpeningLaw, no_seats}
use Rattle.vm_world.proofs.FlatWhole.{flat-whole}
use Rattle.std.proofs.lemmas.List.{length-replicate}
use Rattle.mark_laws.specs.disk_marks.declared.marks.Pushing.{Pushing}
use Rattle.mark_laws.specs.MarksFit.{MarksFit}
use Rattle.vm_world.specs.MarksOf.{FailuresOf}
use Rattle.vm_world.specs.Marks.{HasNoPage, mark_row, opening_row}
use Rattle.flat_model.specs.vnode_files.Vnode.{is_blank}
use Rattle.mark_laws.specs.disk_marks.declared.marks.Mark.{Mark}
use Rattle.mark_laws.specs.disk_marks.declared.marks.Mark.TheVariants.{Held, Blank, Unsure}
use Rattle.mark_laws.specs.disk_marks.declared.marks.MarkRow.{MarkRow}
use Rattle.mark_laws.specs.AccountLaws.{IsUnsure}
use Rattle.vm_world.proofs.OpeningRows.{opening-marks}
use Rattle.vm_world.proofs.Openings.{opening-memory, opening-notes, opening-pages, opening-history, opening-faults, opening-calls}

-- No mark names a failure: the row of a page's block is one at the opening, and where no page has the block it is unused.
never-unsure : (blank : Bool) (j before after : ℕ) → (opening_row blank).mark ≡ Unsure j before after → ⊥
never-unsure true j before after is = let z : ◌≡◌ {A = Mark} (Blank 0) (Unsure j before after) = is in cc
never-unsure false j before after is = let z : ◌≡◌ {A = Mark} (Held 0) (Unsure j before after) = is in cc

pub opening-sure : (s : KernelState) → IsOpening s → (disk block : ℕ) → ¬ IsUnsure s.marks disk block
opening-sure s o disk block unsure = never-unsure true unsure.0 unsure.1 unsure.2 (sym (ap (λ (r : MarkRow). r.mark) (o.marks.free disk block free)) ∙ unsure.3)
  where
    free : HasNoPage s.memory.world.files disk block
    free file page within below on its =
        never-unsure (is_blank (vnode_at s.memory.world.files file) page) unsure.0 unsure.1 unsure.2
        (ap (λ (r : MarkRow). r.mark) (sym (o.marks.pages file page within below) ∙ (λ i. mark_row s.marks (on i) (its i))) ∙ unsure.3)

opening-failures : (s : KernelState) → IsOpening s → FailuresOf s no_seats s.marks
opening-failures s o disk block j before after is = absurd (opening-sure s o disk block (j, before, after, is))

-- THE OPENING.
opening-fits : (s : KernelState) → IsOpening s → StateFits (flat_memory s.memory s.born no_notes) s no_seats
opening-fits s o = record {
  memory = opening-memory s.memory s.parents o.memory;
  notes = opening-notes s.memory s.parents o.memory;
  replays = replays;
  faults = opening-faults s o;
  calls = opening-calls s o;
  rooms = subst (λ (h : List Entry). RoomsFit h s.parents s.entries) (sym o.history) (record { made = λ p. omega arith; forks = λ k child e is _. absurd (cc) });
  births = subst (λ (h : List Entry). BirthsFit h s.parents s.memory.spaces s.born) (sym o.history) (record { lived = λ p. o.born p ∙ or-false (is_top s.parents p); alive = alive; stays = stays });
  plans = record {
    plan = λ kept is. absurd (let z : None ≡ Some kept = sym o.plan ∙ is in cc);
    planned = λ kept of is _. absurd (let z : None ≡ Some kept = sym o.plan ∙ is in cc);
    sent = λ seat sent of is _. absurd (cc);
  };
  marks = λ tell. subst (λ (H : List Entry). MarksFit (flat_memory s.memory s.born no_notes) H (content_of s.memory.world.store no_notes) no_notes s.marks) (sym o.history)
      (opening-marks s s.marks (length s.syncs) o o.marks tell (replays tell));
  failures = opening-failures s o;
  pushes = ap (λ (ps : List (Option Pushing)). length ps) o.marks.pushes ∙ length-replicate (length s.syncs) None;
}
  where
    by_top : (b : Bool) (parts : Option (List (Part Segment))) → parts ≡ (if b then Some [] else None) → IsSome parts → b ≡ true
    by_top true parts e is = refl
    by_top false parts e is = sym (ap is_some e) ∙ is

    alive : (p : ℕ) → IsSome (finite.get s.memory.spaces p) → IsTrue (set.contains s.born p)
    alive p is = o.born p ∙ by_top (is_top s.parents p) (finite.get s.memory.spaces p) (o.memory.spaces p) is

    there : (b : Bool) (parts : Option (List (Part Segment))) → parts ≡ (if b then Some [] else None) → b ≡ true → IsSome parts
    there true parts is top = ap is_some is
    there false parts is top = absurd (let z : false ≡ true = top in cc)

    stays : (p : ℕ) → IsTrue (set.contains s.born p) → IsFalse (has_left p []) → IsSome (finite.get s.memory.spaces p)
    stays p born here = there (is_top s.parents p) (finite.get s.memory.spaces p) (o.memory.spaces p) (sym (o.born p) ∙ born)

    replays : AllTell s.memory.world no_notes → HistoryFits (flat_memory s.memory s.born no_notes) s.history s.pending (flat_memory s.memory s.born no_notes)
    replays tell = opening-history (flat_memory s.memory s.born no_notes) s.history s.pending
        (flat-whole s.memory no_notes (opening-memory s.memory s.parents o.memory) (opening-pages s.memory s.parents o.memory tell) s.born alive) o.history o.pending

pub opening_law : OpeningLaw
opening_law = record { fits = opening-fits }
