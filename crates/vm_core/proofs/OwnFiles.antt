-- CALLS ON FILES at their seats: whose calls of files are between two parts.
use Rattle.fault_entry.proofs.flat_model.Opens.{next_of_file as next-file}
use Rattle.std.proofs.Common.{◌≡◌, ℕ, suc, ◌+◌, ◌<◌, true, false, cond, List, length, map, Option, Some, None, refl, sym, ap, ◌∙◌, inl, inr, subst, arith}
use Rattle.std.specs.Prelude.{IsFalse, IsSomeAnd, MatchOption, is_some, option_map, slice_index_or, slice_set}
use Rattle.std.specs.FinSet as set
use Rattle.std.specs.Option.{option_map_or}
use Rattle.std.proofs.lemmas.Bool.{cases_eq}
use Rattle.std.proofs.lemmas.List.{length-map}
use Rattle.fault_entry.specs.flat_model.OpenLaws.{last_entry, IsOpenPart, FollowsOn, MayFollow}
use Rattle.fault_entry.specs.vm_types.Parts.{next_part, ends_call, file_of_call, part_file}
use Rattle.fault_entry.specs.vm_types.declared.call.Call.{Call}
use Rattle.fault_entry.specs.vm_types.declared.call.Call.TheVariants.{Read, Write}
use Rattle.fault_entry.specs.vm_types.declared.call.Entry.{Entry}
use Rattle.fault_entry.specs.vm_types.declared.call.Reply.{Reply}
use Rattle.fault_entry.specs.vm_types.declared.call.Reply.TheVariants as reply
use Rattle.fault_entry.specs.vm_world.FileCalls.{file_refusal}
use Rattle.fault_entry.specs.vm_world.FileLocks.{locks_after}
use Rattle.fault_entry.specs.vm_world.FlatMemory.{Memory}
use Rattle.fault_entry.specs.vm_world.MemoryFits.{MemoryFits}
use Rattle.fault_entry.specs.vm_world.Plans.{IsRefusal, refusal_in}
use Rattle.fault_entry.specs.vnode_files.Files.{FilesSeen}
use Rattle.fault_entry.specs.page_store.Notes.{no_notes}
use Rattle.fault_entry.specs.vm_world.World.{file_blocks}
use Rattle.fault_entry.proofs.vm_world.FileCalls.{file_calls_law}
use Rattle.fault_entry.specs.vm_world.EntryLaws.{LocksAfter, MayUseFile}
use Rattle.fault_entry.specs.vm_world.HistoryFits.{CallsFit}
use Rattle.fault_entry.specs.vm_world.ServingLaws.{done_entry}
use Rattle.fault_entry.proofs.vm_world.FileLocks.{file_locks_law}
use Rattle.file_calls.specs.Locks.{IsAnothers}
use Rattle.fault_entry.specs.vm_world.declared.sync_start.SyncStart.{SyncStart}

-- What a seat has between two parts is the file of its next call.
pub own-part : (H : List Entry) (calls : List (Option ℕ)) (syncs : List (Option SyncStart)) (seat p cleared f : ℕ) (call : Call) (r : Reply) → CallsFit H calls syncs → p ≡ suc seat → MayFollow H (done_entry p call r cleared) → slice_index_or calls f None ≡ Some seat
    → part_file call ≡ Some f
own-part H calls syncs seat p cleared f call r fit is follows had = of-last (last_entry p H) (subst (λ (q : ℕ). IsSomeAnd (last_entry q H) (IsOpenPart f)) (sym is) ((fit.files f seat).0 had)) follows
  where
    of-last : (o : Option Entry) → IsSomeAnd o (IsOpenPart f) → MatchOption o (Unit {0}) (λ d. FollowsOn d (done_entry p call r cleared)) → part_file call ≡ Some f
    of-last None here next = absurd here
    of-last (Some d) here (inl ended) = absurd (let z : true ≡ false = sym ended ∙ here.1 in cc)
    of-last (Some d) here (inr next) = next-file d.call d.reply next.0 call next.1 ∙ here.0

-- WHOSE CALLS OF FILES ARE BETWEEN TWO PARTS after a call that is done: as its reply says, where no other seat has its file.
pub locks-done : (H : List Entry) (calls : List (Option ℕ)) (syncs : List (Option SyncStart)) (seat p cleared : ℕ) (call : Call) (r : Reply) → CallsFit H calls syncs → p ≡ suc seat → MayFollow H (done_entry p call r cleared)
    → ((f t : ℕ) → part_file call ≡ Some f → slice_index_or calls f None ≡ Some t → t ≡ seat) → ((f : ℕ) → part_file call ≡ Some f → IsFalse (ends_call call r) → f < length calls)
    → LocksAfter (done_entry p call r cleared) calls (locks_after seat call r calls)
locks-done H calls syncs seat p cleared call r fit is follows free within =
    subst (λ (q : ℕ). LocksAfter (done_entry q call r cleared) calls (locks_after seat call r calls)) (sym is)
    (file_locks_law.after H calls syncs seat cleared call r fit (subst (λ (q : ℕ). MayFollow H (done_entry q call r cleared)) is follows) free within)

-- and as they were, where it is no part
pub locks-same : (H : List Entry) (calls : List (Option ℕ)) (syncs : List (Option SyncStart)) (seat p cleared : ℕ) (call : Call) (r : Reply) → CallsFit H calls syncs → p ≡ suc seat → MayFollow H (done_entry p call r cleared) → part_file call ≡ None
    → LocksAfter (done_entry p call r cleared) calls calls
locks-same H calls syncs seat p cleared call r fit is follows none =
    let never : (f : ℕ) → part_file call ≡ Some f → ⊥ = λ f e. let z : ◌≡◌ {A = Option ℕ} None (Some f) = sym none ∙ e in cc in
    subst (LocksAfter (done_entry p call r cleared) calls) (ap (λ (o : Option ℕ). option_map_or (λ f. slice_set calls f (cond (ends_call call r) None (Some seat))) o calls) none)
    (locks-done H calls syncs seat p cleared call r fit is follows (λ f t e. absurd (never f e)) (λ f e. absurd (never f e)))

-- A CALL ON A FILE goes with the lock of its file, where no other seat has it.
pub part-of : (call : Call) (f : ℕ) → part_file call ≡ Some f → file_of_call call ≡ Some f
part-of (Read file offset len) f is = is
part-of (Write file offset line rest) f is = is
part-of call f is = absurd (let z : ◌≡◌ {A = Option ℕ} None (Some f) = is in cc)

-- the seat that has the file of a call is this one, where no other has it
pub own-holder : (calls : List (Option ℕ)) (seat f t : ℕ) (call : Call) → ((k : ℕ) → IsAnothers calls seat call k → ⊥) → file_of_call call ≡ Some f → slice_index_or calls f None ≡ Some t → t ≡ seat
own-holder calls seat f t call free of held = elim (cases_eq t seat) [ inl same ↦ same | inr other ↦ absurd (free t (record { file = f; of = of; held = held; other = other })) ]

pub may-use : (H : List Entry) (calls : List (Option ℕ)) (syncs : List (Option SyncStart)) (seat p cleared : ℕ) (call : Call) (r : Reply) → CallsFit H calls syncs → p ≡ suc seat → MayFollow H (done_entry p call r cleared) → ((k : ℕ) → IsAnothers calls seat call k → ⊥)
    → MayUseFile (done_entry p call r cleared) seat calls
may-use H calls syncs seat p cleared call r fit is follows free f t of held =
    let mine = own-holder calls seat f t call free of held in
    inl (mine, ap is_some (own-part H calls syncs seat p cleared f call r fit is follows (held ∙ ap (λ (k : ℕ). Some k) mine)))

-- A PART THAT DOESN'T END ITS CALL was refused nothing, so that its file is there, and has its place.
open-unrefused : (call : Call) (r : Reply) → IsFalse (ends_call call r) → refusal_in r ≡ None
unfolding next_part
open-unrefused (Read file offset len) (reply.Signal x) open-part = absurd (let z : true ≡ false = open-part in cc)
open-unrefused (Write file offset line rest) (reply.Signal x) open-part = absurd (let z : true ≡ false = open-part in cc)
open-unrefused (Read file offset len) (reply.Refused x) open-part = absurd (let z : true ≡ false = open-part in cc)
open-unrefused (Write file offset line rest) (reply.Refused x) open-part = absurd (let z : true ≡ false = open-part in cc)
open-unrefused (Read file offset len) r open-part = refl
open-unrefused (Write file offset line rest) r open-part = refl
open-unrefused call r open-part = absurd (let z : true ≡ false = open-part in cc)

there-is : (files : FilesSeen) (call : Call) (f : ℕ) → part_file call ≡ Some f → file_refusal files call ≡ None → f < length files.files
there-is files (Read g offset len) f is served = let same : g ≡ f = cc in subst (λ (k : ℕ). k < length files.files) same (let lt : g < length files.files = grind arith in lt)
there-is files (Write g offset line rest) f is served = let same : g ≡ f = cc in subst (λ (k : ℕ). k < length files.files) same (file_calls_law.room files g (offset + length line) served).there
there-is files call f is served = absurd (let z : ◌≡◌ {A = Option ℕ} None (Some f) = is in cc)

none-mapped : {A B : Type 0} (f : A → B) (o : Option A) → option_map f o ≡ None → o ≡ None
none-mapped f None is = refl
none-mapped f (Some x) is = absurd (let z : Some (f x) ≡ None = is in cc)

pub has-place : (m : Memory) (p f : ℕ) (call : Call) (r : Reply) → MemoryFits m → IsRefusal m p call (refusal_in r) → part_file call ≡ Some f → IsFalse (ends_call call r) → f < 64
has-place m p f call r fits refusal is open-part =
    let due = file_calls_law.due p call f m fits (part-of call f is) in
    let none : option_map reply.Refused (file_refusal m.world.files call) ≡ None = sym (due (set.empty) no_notes) ∙ refusal (set.empty) no_notes ∙ open-unrefused call r open-part in
    let lt = there-is m.world.files call f is (none-mapped reply.Refused (file_refusal m.world.files call) none) in
    let few = fits.files.disjoint.few in
    let same : length (map file_blocks m.world.files.files) ≡ length m.world.files.files = length-map m.world.files.files file_blocks in
    omega (arith, lt, few, same)
