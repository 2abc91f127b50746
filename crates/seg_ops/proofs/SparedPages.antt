-- A PAGE THAT GIVES ITS FRAME to its copy: when it can, and that it still can once room was looked for elsewhere.
use Rattle.std.proofs.Common.{◌≡◌, ℕ, Bool, true, false, List, [], ◌∷◌, ◌++◌, Option, Some, None, refl, sym, ap, ◌∙◌, inl, inr, subst}
use Rattle.std.specs.Prelude.{◌↔◌, is_some, not, Contains}
use Rattle.std.proofs.lemmas.Bool.{cases_Bool}
use Rattle.page_store.specs.page_hash.declared.PageName.{PageName}
use Rattle.page_store.specs.page_lists.ListsSeen.{first_listed}
use Rattle.page_store.specs.page_lock.Rows.{row_at}
use Rattle.page_store.specs.Bays.{BaySeen, bay_at}
use Rattle.page_store.specs.Bays as bay
use Rattle.page_store.specs.Seen.{StoreSeen, IsListedFrame, residence}
use Rattle.page_store.specs.Steps.{next_frame}
use Rattle.page_store.specs.Waits.{Waits, holder_in}
use Rattle.page_store.specs.declared.plan.Hold.{Hold}
use Rattle.page_store.specs.declared.plan.Hold.TheVariants.{Page, Disk, File}
use Rattle.page_store.specs.declared.residence.Residence.TheVariants.{Home}
use Rattle.page_store.proofs.QueryLemmas.{home-is, home-some}
use Rattle.vm_world.specs.MemoryFits.{MemoryFits}
use Rattle.vm_world.specs.Segments.{Spaces}
use Rattle.vm_world.specs.Serving.{ModifiesNone}
use Rattle.vm_world.specs.TranslationsFit.{IsModified}
use Rattle.vm_world.specs.Words.{Fits}
use Rattle.vm_world.specs.World.{World, world_seen, world_table, page_table}
use Rattle.vm_world.specs.declared.world.World as rust
use Rattle.seg_ops.specs.Copies.{IsDiskHome}
use Rattle.seg_ops.specs.Rooms.{MakesRoom, SameLists}
use Rattle.seg_ops.specs.Steps.{IsUnwritten}
use Rattle.seg_ops.proofs.Evictions.{not-modified, unlocked}
use Rattle.seg_ops.proofs.StillSteps.{memory_of}

-- nothing is waited for where a page is home, exactly if its disk is
pub waits-home : (w : World) (spaces : Spaces) (name : PageName) (frame : ℕ) (o : Option Hold) → MemoryFits (memory_of w spaces) → residence w.store name ≡ Home frame → Waits w.store name (world_table w name).disk o → (is_some o ≡ false) ↔ IsDiskHome w name
waits-home w spaces name frame None f home waits = (λ t. waits.0, λ d. refl)
waits-home w spaces name frame (Some (Page seat)) f home waits = absurd
    (let held : None ≡ Some seat = sym (unlocked w spaces frame f (home-some w.store name frame home)) ∙ sym (ap (λ (o : Option ℕ). holder_in o w.store) (home-is w.store name frame home).found) ∙ waits in cc)
waits-home w spaces name frame (Some (Disk seat)) f home waits = (λ t. absurd (let z : true ≡ false = t in cc), λ d. absurd (let z : bay.home d.0 ≡ bay.out seat = sym d.1 ∙ waits in cc))
waits-home w spaces name frame (Some (File seat)) f home waits = absurd waits

-- room that is made leaves the disks where they are
pub room-disk : {D : Type 0} (u v : rust.World D) (spaces : Spaces) (name : PageName) → Fits u spaces → MakesRoom u v
    → bay_at v.store.bays (world_table (world_seen v) name).disk ≡ bay_at u.store.bays (world_table (world_seen u) name).disk
room-disk {D} u v spaces name fits makes =
    ap (λ (bs : List BaySeen). bay_at bs (world_table (world_seen v) name).disk) (makes.keeps spaces fits).bays
    ∙ ap (λ (x : rust.World D). bay_at u.store.bays (page_table x.files x.anon name).disk) makes.rest

pub disk-then : {D : Type 0} (u v : rust.World D) (spaces : Spaces) (name : PageName) → Fits u spaces → MakesRoom u v → IsDiskHome (world_seen u) name ↔ IsDiskHome (world_seen v) name
disk-then u v spaces name fits makes = (λ d. (d.0, room-disk u v spaces name fits makes ∙ d.1), λ d. (d.0, sym (room-disk u v spaces name fits makes) ∙ d.1))

-- a page that isn't modified still isn't, after steps that make none so
pub still-clean : (u v : World) (name : PageName) (frame : ℕ) → residence v.store name ≡ Home frame → ModifiesNone u v → (row_at u.store.rows frame).modified ≡ false → IsUnwritten u.hat.places frame
    → ((row_at v.store.rows frame).modified ≡ false) × IsUnwritten v.hat.places frame
still-clean u v name frame home none clear unwritten =
    let was : ¬ IsModified v.store v.hat.places frame = λ m. not-modified u.store u.hat.places frame clear unwritten (none.modified name frame home m).1 in (
      elim (cases_Bool (row_at v.store.rows frame).modified) [ inl t ↦ absurd (was (inl t)) | inr free ↦ free ],
      λ place t there leads. elim (cases_Bool t.modified) [ inl m ↦ absurd (was (inr (record { place = place; translation = t; there = there; leads = leads; modified = m }))) | inr free ↦ free ],
    )

-- THE LISTS: those that stayed have the same frames; and a frame that is put on the cache list where none could be taken is the next one.
pub same-listed : (s new : StoreSeen) (frame : ℕ) → SameLists s new → IsListedFrame new frame → IsListedFrame s frame
same-listed s new frame (free, cached) l = elim l [
  | inl h ↦ inl (subst (λ (fs : List ℕ). Contains fs frame) free h)
  | inr h ↦ inr (subst (λ (fs : List ℕ). Contains fs frame) cached h)
]

pub next-evicted : (s new : StoreSeen) (frame : ℕ) → next_frame s ≡ None → new ≡ record s { cached = s.cached ++ frame ∷ [] } → next_frame new ≡ Some frame
next-evicted s new frame none is = ap next_frame is ∙ by_lists s.free s.cached none
  where
    by_lists : (free cached : List ℕ) → first_listed free cached ≡ None → first_listed free (cached ++ frame ∷ []) ≡ Some frame
    by_lists [] [] e = refl
    by_lists [] (x ∷ xs) e = absurd (cc)
    by_lists (x ∷ xs) cached e = absurd (cc)
