-- A CALL ON A FILE THAT IS REFUSED, and one that waits for the seat which has the file's call.
use Rattle.std.proofs.Common.{◌≡◌, ◌≢◌, ℕ, List, [], Option, Some, None, refl, ap, ◌∙◌, inr}
use Rattle.std.specs.Prelude.{option_map, Err}
use Rattle.seg_vn.specs.page_store.declared.plan.Hold.TheVariants as hold
use Rattle.seg_vn.specs.vm_types.Parts.{file_of_call}
use Rattle.seg_vn.specs.vm_types.declared.call.Call.{Call}
use Rattle.seg_vn.specs.vm_types.declared.call.Errno.{Errno}
use Rattle.seg_vn.specs.vm_types.declared.call.Reply.{Reply}
use Rattle.seg_vn.specs.vm_types.declared.call.Reply.TheVariants as reply
use Rattle.seg_vn.specs.vm_world.FileCalls.{file_refusal}
use Rattle.seg_vn.specs.vm_world.MemoryFits.{MemoryFits}
use Rattle.seg_vn.specs.vm_world.Segments.{Spaces}
use Rattle.seg_vn.specs.vm_world.Serving.{ServesBusy, ServesDone}
use Rattle.seg_vn.specs.vm_world.World.{World}
use Rattle.seg_vn.specs.vm_world.declared.wants.Wants.{Wants}
use Rattle.seg_vn.specs.vm_world.declared.wants.Wants.TheVariants.{Seat}
use Rattle.seg_vn.specs.vm_world.FlatMemory.{Memory}
use Rattle.seg_vn.proofs.vm_world.FileCalls.{file_calls_law}
use Rattle.seg_vn.proofs.seg_ops.Composed.{keeps-same}
use Rattle.seg_vn.proofs.seg_ops.StillSteps.{memory_of}
use Rattle.seg_vn.proofs.home_pages.Takes.{takes-none}
use Rattle.seg_vn.proofs.home_pages.Replacements.{none-replaced}
use Rattle.file_calls.specs.Calls.{ServesCall}
use Rattle.file_calls.specs.Locks.{IsAnothers}

-- it is done at once, and changes nothing
pub refused : (w : World) (spaces : Spaces) (pending p f : ℕ) (call : Call) (e : Errno) → MemoryFits (memory_of w spaces) → file_of_call call ≡ Some f → file_refusal w.files call ≡ Some e
    → ServesDone (memory_of w spaces) (memory_of w spaces) pending pending p call (reply.Refused e)
refused w spaces pending p f call e fits of due = record {
  mid = w;
  first = takes-none w w spaces pending (keeps-same w spaces fits);
  acts = λ cleared. file_calls_law.refused p cleared call e (memory_of w spaces) fits due;
  replaced = none-replaced w w;
  refusal = λ born notes. file_calls_law.due p call f (memory_of w spaces) fits of born notes ∙ ap (option_map reply.Refused) due;
  modified = record { modified = λ n frame home m. inr (home, m); rewritten = λ n frame home m. inr (home, m) };
  clean = λ from n is wants. absurd (let z : reply.Refused e ≡ reply.Synced from = is in cc);
}

-- the file's call is another seat's
pub held : (w : World) (spaces : Spaces) (pending p seat t : ℕ) (calls : List (Option ℕ)) (call : Call) → MemoryFits (memory_of w spaces) → IsAnothers calls seat call t
    → ServesBusy (memory_of w spaces) (memory_of w spaces) pending pending calls p call (hold.File t)
held w spaces pending p seat t calls call fits a = record {
  first = takes-none w w spaces pending (keeps-same w spaces fits);
  replaced = none-replaced w w;
  spaces = refl;
  holds = (a.file, a.of, a.held);
  refusal = λ file. absurd file;
  modified = record { modified = λ n frame home m. (home, m); rewritten = λ n frame home m. (home, m) };
}

-- what is answered whatever seats have the files' calls is no wait for one of these
pub no-wait : (old new : Memory) (pending more p t : ℕ) (call : Call) → ServesCall old new pending more p call (Err (Seat (hold.File t))) → ⊥
no-wait old new pending more p t call busy = let z : ◌≡◌ {A = Option ℕ} None (Some t) = (busy []).holds.2 in cc
