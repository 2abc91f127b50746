-- What answers leave of the marks.
use Rattle.std.proofs.Common.{◌≡◌, ℕ, suc, ◌<◌, ◌≤◌, Bool, true, false, cond, List, [], length, Option, refl, sym, ap, ◌∙◌, subst}
use Rattle.std.specs.Prelude.{IsSome, nat_lt}
use Rattle.std.proofs.lemmas.Bool.{lt-ltb, ltb-true}
use Rattle.fault_entry.specs.seg_vn.Serves.{Serves}
use Rattle.fault_entry.specs.seg_vn.declared.attempt.Attempt.{Attempt}
use Rattle.fault_entry.specs.seg_vn.declared.attempt.Attempt.TheVariants.{Done, Need, Busy}
use Rattle.fault_entry.specs.vm_types.Pages.{pages_in}
use Rattle.fault_entry.specs.vm_types.Parts.{file_of_call}
use Rattle.fault_entry.specs.vm_types.declared.call.Call.{Call}
use Rattle.fault_entry.specs.vm_types.declared.call.Call.TheVariants.{Sync, Truncate}
use Rattle.fault_entry.specs.vm_types.declared.call.Reply.TheVariants as reply
use Rattle.fault_entry.specs.vnode_files.Files.{vnode_at}
use Rattle.fault_entry.specs.vnode_files.Layout.{pages_kept}
use Rattle.fault_entry.specs.vm_world.FlatMemory.{Memory}
use Rattle.fault_entry.specs.vm_world.FramesFit.{FilesFit}
use Rattle.fault_entry.specs.vm_world.Marks.{MarksSeen}
use Rattle.fault_entry.specs.vm_world.State.{KernelState}
use Rattle.mark_laws.specs.Cuts.{marks_cut, marks_shortened}
use Rattle.vm_core.specs.Answered.{HadPages, MarksAfterAnswer, length_before, marks_cut_from, with_marks}
use Rattle.vm_core.proofs.CutFiles.{cut-there, cut-pages, cut-disk, cut-blocks}

-- A CALL ON A FILE. The file of a Truncate that is done had the pages of its old length, and keeps them.
pub had-pages : (old new : Memory) (pending more : ℕ) (calls : List (Option ℕ)) (p : ℕ) (call : Call) (a : Attempt) (before : ℕ) → FilesFit old.world.files → Serves old new pending more calls p call a → before ≡ length_before old.world.files call
    → HadPages new.world.files call a before
had-pages old new pending more calls p (Truncate f len) (Done reply.Done) before fits serves is = λ less.
    let short : len < (vnode_at old.world.files f).info.length = subst (λ (n : ℕ). len < n) is less in (
      cut-there old new pending more p f len fits serves short,
      subst (λ (n : ℕ). pages_in n ≤ pages_kept new.world.files f) (sym is) (cut-pages old new pending more p f len fits serves short),
    )
had-pages old new pending more calls p call a before fits serves is = tt

-- What the answer leaves of the marks is what is due.
module _ (old new : Memory) (pending more p f len j : ℕ) (m : MarksSeen) (fits : FilesFit old.world.files) (serves : Serves old new pending more [] p (Truncate f len) (Done reply.Done)) where
  shortened : len < (vnode_at old.world.files f).info.length
      → marks_shortened m f (vnode_at new.world.files f).info.disk (vnode_at new.world.files f).info.extents (vnode_at old.world.files f).info.length len j
      ≡ marks_shortened m f (vnode_at old.world.files f).info.disk (vnode_at old.world.files f).info.extents (vnode_at old.world.files f).info.length len j
  shortened less =
      let disk = cut-disk old new pending more p f len fits serves less in
      let blocks = cut-blocks old new pending more p f len fits serves less in
      λ i. marks_cut m f (disk i) (pages_in len) j (blocks i)

  due : (before : ℕ) → before ≡ (vnode_at old.world.files f).info.length
      → cond (nat_lt len before) (marks_shortened m f (vnode_at new.world.files f).info.disk (vnode_at new.world.files f).info.extents before len j) m
      ≡ cond (nat_lt len (vnode_at old.world.files f).info.length) (marks_shortened m f (vnode_at old.world.files f).info.disk (vnode_at old.world.files f).info.extents (vnode_at old.world.files f).info.length len j) m
  due before is =
      ap (λ (n : ℕ). cond (nat_lt len n) (marks_shortened m f (vnode_at new.world.files f).info.disk (vnode_at new.world.files f).info.extents n len j) m) is
      ∙ by_test (nat_lt len (vnode_at old.world.files f).info.length) refl
    where
      by_test : (b : Bool) → nat_lt len (vnode_at old.world.files f).info.length ≡ b
          → cond b (marks_shortened m f (vnode_at new.world.files f).info.disk (vnode_at new.world.files f).info.extents (vnode_at old.world.files f).info.length len j) m
          ≡ cond b (marks_shortened m f (vnode_at old.world.files f).info.disk (vnode_at old.world.files f).info.extents (vnode_at old.world.files f).info.length len j) m
      by_test true e = shortened (ltb-true len (vnode_at old.world.files f).info.length e)
      by_test false e = refl

pub cut-due : (old new : Memory) (pending more : ℕ) (calls : List (Option ℕ)) (p : ℕ) (call : Call) (a : Attempt) (before j : ℕ) (m : MarksSeen) → IsSome (file_of_call call) → FilesFit old.world.files → Serves old new pending more calls p call a
    → before ≡ length_before old.world.files call → MarksAfterAnswer old new p call a j m (marks_cut_from new.world.files call a before (suc j) m)
cut-due old new pending more calls p (Sync addr len) a before j m of fits serves is = absurd (let z : false ≡ true = of in cc)
cut-due old new pending more calls p (Truncate f len) (Done reply.Done) before j m of fits serves is = due old new pending more p f len (suc j) m fits serves before is
cut-due old new pending more calls p call (Need plan) before j m of fits serves is = refl
cut-due old new pending more calls p call (Busy h) before j m of fits serves is = refl
cut-due old new pending more calls p call (Done r) before j m of fits serves is = refl

-- THE STATE once a file was cut.
pub cut-done : (v s : KernelState) (m : MarksSeen) (call : Call) (a : Attempt) (f len before n : ℕ) → v ≡ s → call ≡ Truncate f len → a ≡ Done reply.Done → len < before → n ≡ suc (length v.history)
    → m ≡ marks_shortened v.marks f (vnode_at v.memory.world.files f).info.disk (vnode_at v.memory.world.files f).info.extents before len n
    → record v { marks = m } ≡ with_marks s (marks_cut_from s.memory.world.files call a before (suc (length s.history)) s.marks)
cut-done v s m call a f len before n same is done less count left =
    let info = (vnode_at v.memory.world.files f).info in
    let now = marks_shortened v.marks f info.disk info.extents before len (suc (length v.history)) in
    let made : m ≡ now = left ∙ ap (marks_shortened v.marks f info.disk info.extents before len) count in
    let due : now ≡ marks_cut_from v.memory.world.files call a before (suc (length v.history)) v.marks =
    ap (λ (b : Bool). cond b now v.marks) (sym (lt-ltb len before less)) ∙ ap (λ (x : Call × Attempt). marks_cut_from v.memory.world.files x.0 x.1 before (suc (length v.history)) v.marks) {x = (Truncate f len, Done reply.Done)} {y = (call, a)} (λ i. (sym is i, sym done i)) in
    ap (λ (x : MarksSeen). record v { marks = x }) (made ∙ due) ∙ ap (λ (x : KernelState). record x { marks = marks_cut_from x.memory.world.files call a before (suc (length x.history)) x.marks }) same
