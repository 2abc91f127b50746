-- What an answer to a call leaves of the marks. Public clauses cite this.
use Rattle.std.specs.Prelude.{◌≡◌, ◌<◌, ◌≤◌, ℕ, length, nat_lt, if◌then◌else◌}
use Rattle.fault_entry.specs.seg_vn.declared.attempt.Attempt.{Attempt}
use Rattle.fault_entry.specs.seg_vn.declared.attempt.Attempt.TheVariants.{Done, Need, Busy}
use Rattle.fault_entry.specs.vm_types.Pages.{pages_in}
use Rattle.fault_entry.specs.vm_types.declared.call.Call.{Call}
use Rattle.fault_entry.specs.vm_types.declared.call.Call.TheVariants.{Truncate}
use Rattle.fault_entry.specs.vm_types.declared.call.Reply.TheVariants as reply
use Rattle.fault_entry.specs.vnode_files.Files.{FilesSeen, vnode_at}
use Rattle.fault_entry.specs.vnode_files.Layout.{pages_kept}
use Rattle.fault_entry.specs.vm_world.CallSteps.{MarksAfterReply}
use Rattle.fault_entry.specs.vm_world.FlatMemory.{Memory}
use Rattle.fault_entry.specs.vm_world.Marks.{MarksSeen}
use Rattle.fault_entry.specs.vm_world.State.{KernelState}
use Rattle.mark_laws.specs.Cuts.{marks_shortened}

-- The state with other marks.
abbrev pub with_marks : KernelState → MarksSeen → KernelState
with_marks s m = record s { marks = m }

-- What the answer does to the marks, where memory was this and is this then, and there were so many entries: done, as its reply says; and nothing where a
-- transfer must come first, or somebody is waited for.
abbrev pub MarksAfterAnswer : Memory → Memory → ℕ → Call → Attempt → ℕ → MarksSeen → MarksSeen → Type 0
MarksAfterAnswer old new p call (Done reply) entries m n = MarksAfterReply old new p call reply entries m n
MarksAfterAnswer old new p call (Need plan) entries m n = n ≡ m
MarksAfterAnswer old new p call (Busy h) entries m n = n ≡ m

-- WHAT A CALL DOES TO THE MARKS: a Sync that is done raises those of the pages that it wants clean, to the entries that there were; a Truncate that is done
-- and makes its file shorter takes those of its pages back; no other answer changes any.
abbrev pub MarksAfterCall : KernelState → KernelState → ℕ → Call → Attempt → Type 0
MarksAfterCall old new p call a = MarksAfterAnswer old.memory new.memory p call a (length old.history) old.marks new.marks

-- How long the file of a Truncate is; 0 of any other call.
abbrev pub length_before : FilesSeen → Call → ℕ
length_before files (Truncate f len) = (vnode_at files f).info.length
length_before files call = 0

-- Where a Truncate is done of a file that had so many bytes, more than now, the file is there and keeps the pages of all of them.
abbrev pub HadPages : FilesSeen → Call → Attempt → ℕ → Type 0
HadPages files (Truncate f len) (Done reply.Done) before = len < before → (f < length files.files) × (pages_in before ≤ pages_kept files f)
HadPages files call a before = Unit {0}

-- The marks once it was, with so many entries.
abbrev pub marks_cut_from : FilesSeen → Call → Attempt → ℕ → ℕ → MarksSeen → MarksSeen
marks_cut_from files (Truncate f len) (Done reply.Done) before j m =
    let info = (vnode_at files f).info in
    if nat_lt len before then marks_shortened m f info.disk info.extents before len j else m
marks_cut_from files call a before j m = m
