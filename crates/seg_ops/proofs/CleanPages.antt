-- Pages that are clean, and what is answered where one isn't.
use Rattle.std.proofs.Common.{◌≡◌, ◌≢◌, ℕ, ◌+◌, ◌<◌, ◌≤◌, Bool, true, false, cond, length, Some, refl, sym, ap, ◌∙◌, inl, inr, subst, arith}
use Rattle.std.specs.Prelude.{IsTrue, nat_lt}
use Rattle.std.proofs.lemmas.Bool.{cases_eq, lt-ltb}
use Rattle.vm_world.specs.anon_slots.Slots.{AnonSlotsSeen, count_at, is_used}
use Rattle.vm_world.specs.vnode_files.Files.{FilesSeen, vnode_at}
use Rattle.vm_world.specs.flat_model.Words.{pages_in}
use Rattle.page_store.specs.page_hash.declared.PageName.{PageName}
use Rattle.page_store.specs.page_lock.Rows.{row_at}
use Rattle.page_store.specs.Laws.{SameResidence}
use Rattle.page_store.specs.Seen.{StoreSeen, IsListedFrame, residence}
use Rattle.page_store.specs.declared.plan.Hold.TheVariants as hold
use Rattle.page_store.specs.declared.plan.Plan.TheVariants as plan
use Rattle.page_store.specs.declared.residence.Residence.TheVariants.{Home, Moving}
use Rattle.vm_world.specs.FramesFit.{FilesFit}
use Rattle.vm_world.specs.MemoryFits.{MemoryFits}
use Rattle.vm_world.specs.Segments.{Spaces}
use Rattle.vm_world.specs.Serving.{ModifiesNone}
use Rattle.vm_world.specs.TranslationsFit.{IsModified}
use Rattle.vm_world.specs.Wants.{IsDirtyPage, IsCleanPage}
use Rattle.vm_world.specs.World.{World, file_name, page_exists}
use Rattle.vm_world.proofs.PageNames.{file-apart, not-slot}
use Rattle.vm_world.specs.declared.wants.Wants.{Wants}
use Rattle.vm_world.specs.declared.wants.Wants.TheVariants as wants
use Rattle.seg_ops.specs.CleanSteps.{CleansPage, NeedsPush}
use Rattle.seg_ops.specs.Plans.{IsAsked}
use Rattle.seg_ops.specs.Steps.{IsUnwritten}
use Rattle.seg_ops.proofs.Disks.{home-free}
use Rattle.seg_ops.proofs.StillSteps.{memory_of}

-- a home page isn't moving, and is in one frame
home-still : (s : StoreSeen) (name : PageName) (frame t : ℕ) → residence s name ≡ Home frame → residence s name ≢ Moving t
home-still s name frame t home moving = let z : Home frame ≡ Moving t = sym home ∙ moving in cc

home-once : (s : StoreSeen) (name : PageName) (frame other : ℕ) → residence s name ≡ Home frame → residence s name ≡ Home other → other ≡ frame
home-once s name frame other home also = let z : Home other ≡ Home frame = sym also ∙ home in cc

-- one on a list isn't modified
pub listed-clean : (w : World) (spaces : Spaces) (name : PageName) (frame : ℕ) → MemoryFits (memory_of w spaces) → residence w.store name ≡ Home frame → IsListedFrame w.store frame → IsCleanPage w name
listed-clean w spaces name frame f home listed = record {
  unmodified = λ other also modified. none other (home-once w.store name frame other home also) modified;
  still = λ t. home-still w.store name frame t home;
}
  where
    none : (other : ℕ) → other ≡ frame → IsModified w.store w.hat.places other → ⊥
    none other same (inl row) = let z : true ≡ false = sym row ∙ ap (λ (k : ℕ). (row_at w.store.rows k).modified) same ∙ f.frames.unmodified frame listed in cc
    none other same (inr h) = (f.translations h.place h.translation h.there).unlisted (subst (λ (k : ℕ). IsListedFrame w.store k) (sym (h.leads ∙ same)) listed)

-- nor is one whose bits were gathered and aren't set
pub unset-clean : (w : World) (name : PageName) (frame : ℕ) → residence w.store name ≡ Home frame → (row_at w.store.rows frame).modified ≡ false → IsUnwritten w.hat.places frame → IsCleanPage w name
unset-clean w name frame home unset unwritten = record {
  unmodified = λ other also modified. none other (home-once w.store name frame other home also) modified;
  still = λ t. home-still w.store name frame t home;
}
  where
    none : (other : ℕ) → other ≡ frame → IsModified w.store w.hat.places other → ⊥
    none other same (inl row) = let z : true ≡ false = sym row ∙ ap (λ (k : ℕ). (row_at w.store.rows k).modified) same ∙ unset in cc
    none other same (inr h) = let z : true ≡ false = sym h.modified ∙ unwritten h.place h.translation h.there (h.leads ∙ same) in cc

-- ONE THAT IS CLEAN stays so where pages stay and none becomes modified
pub still-clean : (u v : World) (name : PageName) → SameResidence u.store v.store → ModifiesNone u v → IsCleanPage u name → IsCleanPage v name
still-clean u v name stay none clean = record {
  unmodified = λ frame home modified. let was = none.modified name frame home modified in clean.unmodified frame was.0 was.1;
  still = λ t moving. clean.still t (sym (stay name) ∙ moving);
}

-- ITS PUSH
pub cleans-page : (w : World) (spaces : Spaces) (name : PageName) (frame : ℕ) (answer : Wants) → MemoryFits (memory_of w spaces) → residence w.store name ≡ Home frame → (row_at w.store.rows frame).modified ≡ true → IsAsked w (plan.Push name) answer → CleansPage (memory_of w spaces) name (Some answer)
cleans-page w spaces name frame (wants.Transfer p) f home set asked =
    let dirty : IsDirtyPage w name = record { frame = frame; home = home; modified = inl set } in
    subst (λ q. NeedsPush (memory_of w spaces) name q) (sym asked.0) (record { is = refl; ready = asked.1; may = λ of wants. (dirty, inl wants) })
cleans-page w spaces name frame (wants.Seat (hold.Page seat)) f home set asked = absurd (home-free w spaces name frame seat f home asked)
cleans-page w spaces name frame (wants.Seat (hold.Disk seat)) f home set asked = λ calls of wants.
    let dirty : IsDirtyPage w name = record { frame = frame; home = home; modified = inl set } in
    (plan.Push name, (dirty, inl wants), asked)
cleans-page w spaces name frame (wants.Seat (hold.File seat)) f home set asked = absurd asked

-- A PAGE OF A FILE below the file's end exists
pub file-exists : (files : FilesSeen) (anon : AnonSlotsSeen) (file page : ℕ) → FilesFit files → file < length files.files → page < pages_in (vnode_at files file).info.length → IsTrue (page_exists files anon (file_name file page))
file-exists files anon file page fit lt below =
    ap (λ (b : Bool). cond b (is_used (count_at anon page)) (nat_lt page (pages_in (vnode_at files file).info.length))) (not-slot file (file-apart files file fit lt)) ∙ lt-ltb page (pages_in (vnode_at files file).info.length) below

-- ALL SO FAR, and one more that is looked at: they are clean after that look
pub all-clean : (u v : World) (file from page : ℕ) → SameResidence u.store v.store → ModifiesNone u v → ((k : ℕ) → from ≤ k → k < page → IsCleanPage u (file_name file k)) → IsCleanPage v (file_name file page)
    → (k : ℕ) → from ≤ k → k < page + 1 → IsCleanPage v (file_name file k)
all-clean u v file from page stay none so_far this k low high = elim (cases_eq k page) [
  | inl same ↦ subst (λ (n : ℕ). IsCleanPage v (file_name file n)) (sym same) this
  | inr apart ↦ still-clean u v (file_name file k) stay none (so_far k low (omega (arith, high, apart)))
]
