-- WHAT MUST COME FIRST of a call on a file: a page that it wants, and that isn't home.
use Rattle.std.proofs.Common.{◌≡◌, ◌≢◌, ℕ, ◌%◌, ◌<◌, List, Option, Some, None, refl, sym, ap, ◌∙◌, inl, inr, subst}
use Rattle.std.specs.Prelude.{IsSome, option_map}
use Rattle.seg_ops.specs.page_hash.Names.{find}
use Rattle.seg_ops.specs.page_hash.declared.PageName.{PageName}
use Rattle.seg_ops.specs.vm_types.Parts.{file_of_call}
use Rattle.seg_ops.specs.vm_types.declared.call.Call.{Call}
use Rattle.seg_ops.specs.vm_types.declared.call.Reply.TheVariants as reply
use Rattle.seg_ops.specs.vnode_files.Files.{FilesSeen, vnode_at}
use Rattle.seg_ops.specs.flat_model.Words.{page}
use Rattle.seg_ops.specs.vm_world.FileCalls.{file_refusal}
use Rattle.seg_ops.specs.vm_world.MemoryFits.{MemoryFits}
use Rattle.seg_ops.specs.vm_world.Plans.{IsRefusal}
use Rattle.seg_ops.specs.vm_world.Segments.{Spaces}
use Rattle.seg_ops.specs.vm_world.Serving.{AreReplaced, KeepsWanted, ModifiesNone, TakesFrames}
use Rattle.seg_ops.specs.vm_world.Wants.{GrowthWants, IsGapPage, WantsHome}
use Rattle.seg_ops.specs.vm_world.World.{World, file_name, is_unpushed}
use Rattle.seg_ops.specs.vm_world.declared.wants.Wants.{Wants}
use Rattle.seg_ops.specs.vm_world.declared.wants.Wants.TheVariants.{Transfer, Seat}
use Rattle.seg_ops.proofs.vm_world.FileCalls.{file_calls_law}
use Rattle.seg_ops.specs.Plans.{FetchesPage}
use Rattle.seg_ops.proofs.StillSteps.{memory_of}
use Rattle.seg_map.specs.Served.{ServesWant}

-- the old last page of a file that gets longer, and that it is wanted, by the files, the slots and the names alone
pub gap-as : (u v : World) (f n : ℕ) (name : PageName) → v.files ≡ u.files → IsGapPage u f n name → IsGapPage v f n name
gap-as u v f n name files gap = record {
  longer = subst (λ (fs : FilesSeen). (vnode_at fs f).info.length < n) (sym files) gap.longer;
  tail = subst (λ (fs : FilesSeen). (vnode_at fs f).info.length % 4096 ≢ 0) (sym files) gap.tail;
  last = gap.last ∙ ap (λ (fs : FilesSeen). file_name f (page (vnode_at fs f).info.length)) (sym files);
}

pub growth-as : (u v : World) (f n : ℕ) (name : PageName) → v.files ≡ u.files → v.anon ≡ u.anon → v.store.names ≡ u.store.names → GrowthWants u f n name → GrowthWants v f n name
growth-as u v f n name files anon names wants = record {
  gap = gap-as u v f n name files wants.gap;
  held = elim wants.held [
    | inl pushed ↦ inl ((λ j. is_unpushed (files j) (anon j) name) ∙ pushed)
    | inr held ↦ inr (subst (λ (ns : List (Option PageName)). IsSome (find ns name)) (sym names) held)
  ];
}

-- no errno is due to a call that isn't refused
pub none-due : (w : World) (spaces : Spaces) (p f : ℕ) (call : Call) → MemoryFits (memory_of w spaces) → file_of_call call ≡ Some f → file_refusal w.files call ≡ None → IsRefusal (memory_of w spaces) p call None
none-due w spaces p f call fits of served = λ born notes. file_calls_law.due p call f (memory_of w spaces) fits of born notes ∙ ap (option_map reply.Refused) served

-- THE PAGE IS FETCHED, or somebody is waited for, and each page that the call wants and that was home is there, on no list.
pub waits : (old new : World) (spaces : Spaces) (pending more p f : ℕ) (call : Call) (name : PageName) (want : Wants) (first : TakesFrames (memory_of old spaces) new pending more) → MemoryFits (memory_of old spaces)
    → file_of_call call ≡ Some f → file_refusal old.files call ≡ None → new.files ≡ old.files → AreReplaced old new first.cut → ModifiesNone old new → WantsHome (memory_of new spaces) p call name
    → KeepsWanted (memory_of old spaces) (memory_of new spaces) p call → FetchesPage (memory_of new spaces) name want → ServesWant (memory_of old spaces) (memory_of new spaces) pending more p call want
waits old new spaces pending more p f call name (Transfer plan) first fits of served files replaced none wants kept needs = record {
  first = first;
  replaced = replaced;
  spaces = refl;
  runs = record { may = needs.may (p, call) wants; ready = needs.ready; frame = needs.frame };
  fault = file_calls_law.faults p call f (memory_of new spaces) first.step.memory of (ap (λ (fs : FilesSeen). file_refusal fs call) files ∙ served);
  refusal = none-due old spaces p f call fits of served;
  wanted = kept;
  files = λ k at. files;
  modified = none;
}
waits old new spaces pending more p f call name (Seat h) first fits of served files replaced none wants kept needs = λ calls. record {
  first = first;
  replaced = replaced;
  spaces = refl;
  holds = needs calls (p, call) wants;
  refusal = λ file. none-due old spaces p f call fits of served;
  modified = none;
}
