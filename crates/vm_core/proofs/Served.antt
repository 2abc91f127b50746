-- A call that is served becomes an event.
use Rattle.std.proofs.Common.{◌≡◌, ◌≢◌, ℕ, zero, suc, ◌-◌, ◌<◌, ◌≤◌, ◌||◌, Bool, true, false, cond, List, [], length, Option, Some, None, refl, sym, ap, ◌∙◌, inl, inr, ◌⊎◌, subst, arith, get_or-set_same, get_or-set_other, length-set}
use Rattle.std.specs.Prelude.{Result, Ok, Err, IfOk, OnErr, IfSome, IfNone, ◌↔◌, filter, slice_index_or, slice_set, IsSome, is_some}
use Rattle.std.proofs.lemmas.Bool.{cases_eq}
use Rattle.std.proofs.lemmas.List.{get_or_past}
use Rattle.std.proofs.lemmas.Bool.Decides.{eqb_tells}
use Rattle.fault_entry.specs.anon_slots.Slots.{AnonSlotsSeen, count_at}
use Rattle.fault_entry.specs.core_arena.Bytes.{bytes_at}
use Rattle.fault_entry.specs.flat_model.Births.{is_birth, is_done}
use Rattle.fault_entry.specs.flat_model.Flat.{Flat}
use Rattle.fault_entry.specs.flat_model.History.{IsStart}
use Rattle.fault_entry.specs.flat_model.Told.{entries_of}
use Rattle.fault_entry.specs.flat_model.Words.{page}
use Rattle.fault_entry.specs.page_store.Away.{is_disk}
use Rattle.fault_entry.specs.page_store.Bays.{BaySeen}
use Rattle.fault_entry.specs.page_store.Notes.{Notes}
use Rattle.fault_entry.specs.page_store.Seen.{StoreSeen, IsSoundStore}
use Rattle.fault_entry.specs.page_store.StoreFits.{StoreFits}
use Rattle.fault_entry.specs.page_store.Table.{PlaceTable}
use Rattle.fault_entry.specs.page_store.declared.plan.Hold.{Hold}
use Rattle.fault_entry.specs.page_store.declared.plan.Hold.TheVariants as hold
use Rattle.fault_entry.specs.page_store.declared.plan.Plan.{Plan}
use Rattle.fault_entry.proofs.page_store.AwayLemmas.{away_law}
use Rattle.fault_entry.specs.vm_types.Parts.{part_file, file_of_call}
use Rattle.fault_entry.specs.vm_types.WellFormed.{IsWellFormed}
use Rattle.fault_entry.specs.vm_types.declared.call.Call.{Call}
use Rattle.fault_entry.specs.vm_types.declared.call.Call.TheVariants.{Load, Store, Map, Unmap, Protect, Sync, Read, Write, Truncate, Exit, Fork}
use Rattle.fault_entry.specs.vm_types.declared.call.Entry.{Entry}
use Rattle.fault_entry.specs.vm_types.declared.call.Reply.{Reply}
use Rattle.fault_entry.specs.vm_types.declared.call.Reply.TheVariants as reply
use Rattle.fault_entry.specs.vm_types.declared.call.Reply.TheVariants.{Synced}
use Rattle.fault_entry.specs.vm_world.CallSteps.{StaysAlive, MarksAfterReply, with_entry_marked}
use Rattle.fault_entry.specs.vm_world.EntryLaws.{LocksAfter, StartsAfter, MayUseFile}
use Rattle.fault_entry.specs.vm_world.Events.{IsEvent, CanTry, MayBear}
use Rattle.fault_entry.specs.Answers.{attempt_of}
use Rattle.fault_entry.specs.declared.answers.Answer.{Answer}
use Rattle.fault_entry.specs.vm_world.FlatMemory.{Memory}
use Rattle.fault_entry.specs.vm_world.Marks.{MarksSeen}
use Rattle.fault_entry.specs.vm_world.Segments.{Spaces}
use Rattle.fault_entry.specs.vm_world.Serving.{ServesDone, ServesNeed, ServesBusy}
use Rattle.fault_entry.specs.vm_world.ServingLaws.{done_entry, after_need, after_wait, IsOfAnother}
use Rattle.fault_entry.specs.vm_world.State.{KernelState, Seats, seat_of, room_of}
use Rattle.fault_entry.specs.vm_world.StateFits.{StateFits}
use Rattle.fault_entry.specs.vm_world.SyncSteps.{start_of, starts_begun, with_call_begun}
use Rattle.fault_entry.specs.vm_world.Wants.{HoldsUp, accessed_page}
use Rattle.fault_entry.specs.vm_world.Words as words
use Rattle.fault_entry.specs.vm_world.World.{World}
use Rattle.fault_entry.specs.vm_world.declared.world.World as rust
use Rattle.fault_entry.specs.vm_world.ZeroObjects.{KnowsZeros}
use Rattle.fault_entry.proofs.vm_world.KeptStarts.{start_rule}
use Rattle.fault_entry.proofs.vm_world.Servings.{serving_law}
use Rattle.fault_entry.proofs.vm_world.Told.{event_law}
use Rattle.mmap_calls.specs.Calls as mmap
use Rattle.proc_calls.specs.Ends as procs
use Rattle.fault_entry.specs.Accesses.{IsAccess, IsHitWhereDone, IsShownWhereDone, MayBeAnswered, SlotsWhereDone, is_store}
use Rattle.fault_entry.specs.seg_vn.Serves.{Serves, IsPlainReply}
use Rattle.fault_entry.proofs.seg_vn.HomeFrames.{home-beside}
use Rattle.file_calls.specs.Calls.{IsFileAnswer, IsFileReply}
use Rattle.file_calls.specs.Locks.{IsAnothers, locks_answered}
use Rattle.fault_entry.specs.vm_world.declared.sync_start.SyncStart.{SyncStart}
use Rattle.vm_core.specs.Answered.{MarksAfterAnswer, MarksAfterCall, with_marks}
use Rattle.vm_core.specs.SeatSteps.{AnswersTry}
use Rattle.vm_core.specs.Calls.{IsOnOwnSpace, ConcernsMappings, IsDone, IsNeeded, IsBusy, IsOwnReply, IsShownAfterCall, SlotsAfterCall, IsHitAfterCall, TakesMemory, AnswersCall, with_memory, with_served, after_answer}
use Rattle.vm_core.specs.Fits.{FitsAt}
use Rattle.vm_core.specs.State.{IsSoundKernel}
use Rattle.vm_core.proofs.MarksKept.{answered-marks}
use Rattle.vm_core.proofs.OwnFiles.{has-place, locks-done, locks-same, may-use, own-holder, part-of}
use Rattle.fault_entry.specs.seg_vn.declared.attempt.Attempt.{Attempt}
use Rattle.fault_entry.specs.seg_vn.declared.attempt.Attempt.TheVariants.{Done, Need, Busy}

-- THE CALLS ON A PROCESS'S OWN SPACE are of no file, and none is a Fork.
pub record IsOfNoFile (call : Call) : Type 0 where
  pub file : file_of_call call ≡ None
  pub part : part_file call ≡ None
  pub plain : (child : ℕ) → call ≢ Fork child

pub served-is : (call : Call) → IsOnOwnSpace call → IsOfNoFile call
served-is (Load a n) h = record { file = refl; part = refl; plain = λ child e. let z : Load a n ≡ Fork child = e in cc }
served-is (Store a n v) h = record { file = refl; part = refl; plain = λ child e. let z : Store a n v ≡ Fork child = e in cc }
served-is (Map place len prot kind obj offset) h = record { file = refl; part = refl; plain = λ child e. let z : Map place len prot kind obj offset ≡ Fork child = e in cc }
served-is (Unmap a len) h = record { file = refl; part = refl; plain = λ child e. let z : Unmap a len ≡ Fork child = e in cc }
served-is (Protect a len prot) h = record { file = refl; part = refl; plain = λ child e. let z : Protect a len prot ≡ Fork child = e in cc }
served-is (Sync a len) h = record { file = refl; part = refl; plain = λ child e. let z : Sync a len ≡ Fork child = e in cc }
served-is Exit h = record { file = refl; part = refl; plain = λ child e. let z : Exit ≡ Fork child = e in cc }
served-is call h = absurd h

-- A call that is no Fork bears nobody.
either : (b : Bool) → cond b false false ≡ false
either true = refl
either false = refl

bears-nobody : (call : Call) → ((child : ℕ) → call ≢ Fork child) → (q p cleared : ℕ) (r : Reply) → is_birth q (done_entry p call r cleared) ≡ false
bears-nobody (Fork child) plain q p cleared r = absurd (plain child refl)
bears-nobody call plain q p cleared r = either (is_done r)

-- An access is on the process's own space.
pub access-own : (call : Call) → IsAccess call → IsOnOwnSpace call
access-own (Load a n) h = tt
access-own (Store a n v) h = tt
access-own call h = absurd h

pub access-formed : (call : Call) → IsAccess call → IsWellFormed call
access-formed (Load a n) h = h
access-formed (Store a n v) h = h
access-formed call h = absurd h

pub no-access : (call : Call) → ((a n : ℕ) → call ≢ Load a n) → ((a n v : ℕ) → call ≢ Store a n v) → ¬ IsAccess call
no-access (Load a n) load store h = load a n refl
no-access (Store a n v) load store h = store a n v refl
no-access call load store h = h

pub not-load : (call : Call) → IsWellFormed call → ¬ IsAccess call → (a n : ℕ) → call ≢ Load a n
not-load call formed other a n is = other (subst IsAccess (sym is) (subst IsWellFormed is formed))

pub not-store : (call : Call) → IsWellFormed call → ¬ IsAccess call → (a n v : ℕ) → call ≢ Store a n v
not-store call formed other a n v is = other (subst IsAccess (sym is) (subst IsWellFormed is formed))

-- What is none, no Fork and no call on a file concerns mappings, which are on it too; and where it is neither the exit nor a Sync, it changes those of a process that goes on.
pub concerns-mappings : (call : Call) → ((a n : ℕ) → call ≢ Load a n) → ((a n v : ℕ) → call ≢ Store a n v) → ((child : ℕ) → call ≢ Fork child) → ((file offset len : ℕ) → call ≢ Read file offset len)
    → ((file offset : ℕ) (line : List ℕ) (rest : ℕ) → call ≢ Write file offset line rest) → ((file len : ℕ) → call ≢ Truncate file len) → ConcernsMappings call
concerns-mappings (Load a n) load store fork read write cut = absurd (load a n refl)
concerns-mappings (Store a n v) load store fork read write cut = absurd (store a n v refl)
concerns-mappings (Fork child) load store fork read write cut = absurd (fork child refl)
concerns-mappings (Read file offset len) load store fork read write cut = absurd (read file offset len refl)
concerns-mappings (Write file offset line rest) load store fork read write cut = absurd (write file offset line rest refl)
concerns-mappings (Truncate file len) load store fork read write cut = absurd (cut file len refl)
concerns-mappings call load store fork read write cut = tt

pub own-mappings : (call : Call) → ConcernsMappings call → IsOnOwnSpace call
own-mappings (Load a n) h = absurd h
own-mappings (Store a n v) h = absurd h
own-mappings call h = h

pub no-exit : (call : Call) → ConcernsMappings call → call ≢ Exit → ((a len : ℕ) → call ≢ Sync a len) → mmap.ChangesMappings call
no-exit Exit h exit sync = absurd (exit refl)
no-exit (Sync a len) h exit sync = absurd (sync a len refl)
no-exit call h exit sync = h

-- THE STARTS OF SYNCS after a call that is done, which bears nobody.
pub starts-dropped : (syncs : List (Option SyncStart)) (seat : ℕ) (e : Entry) → e.process ≡ suc seat → seat < length syncs → ((q : ℕ) → is_birth q e ≡ false) → StartsAfter e syncs (slice_set syncs seat None)
starts-dropped syncs seat e is lt bears t b has = elim (cases_eq t seat) [
  | inl same ↦ absurd (let z : ◌≡◌ {A = Option SyncStart} None (Some b) = sym (ap (λ (k : ℕ). slice_index_or (slice_set syncs seat None) k None) same ∙ get_or-set_same syncs seat None None lt) ∙ has in cc)
  | inr ne ↦ (
    elim (eqb_tells e.process (suc t)) [ inl y ↦ absurd (ne (let z : suc t ≡ suc seat = sym y.1 ∙ is in omega (arith, z))) | inr n ↦ ap (λ (x : Bool). x || is_birth (suc t) e) n.0 ∙ bears (suc t) ],
    sym (get_or-set_other syncs seat t None None ne) ∙ has,
  )
]

-- A process's seat.
pub seat-is : (s : KernelState) (seat p : ℕ) (call : Call) → CanTry s seat p call → p ≡ suc seat
seat-is s seat p call try = by_process p try.own try.room
  where
    by_process : (p : ℕ) → seat_of p ≡ seat → length (entries_of s.history p) < room_of s.entries p → p ≡ suc seat
    by_process zero own room = absurd (let z : length (entries_of s.history 0) < 0 = room in omega (arith, z))
    by_process (suc q) own room = ap suc own

-- THE SEAT of a process that may make an entry is one of the seats.
pub seat-below : (entries : List ℕ) (p seat n seats : ℕ) → n < room_of entries p → seat_of p ≡ seat → length entries ≤ seats → seat < seats
seat-below entries zero seat n seats room own le = absurd (let z : n < 0 = room in omega (arith, z))
seat-below entries (suc q) seat n seats room own le = elim (split q (length entries)) [
  | inl lt ↦ let mine : q ≡ seat = own in omega (arith, lt, le, mine)
  | inr past ↦ absurd (let none = get_or_past entries q 0 past in omega (arith, room, none))
]
  where
    split : (a b : ℕ) → (a < b) ⊎ (b ≤ a)
    split a b = grind arith

-- A CALL HAS BEGUN: it may be tried still.
bears-begun : (s : KernelState) (seat p : ℕ) (call : Call) → MayBear s p call → MayBear (with_call_begun s seat call) p call
bears-begun s seat p (Fork child) bears = bears
bears-begun s seat p call bears = search

try-begun : (s : KernelState) (seat p : ℕ) (call : Call) → CanTry s seat p call → CanTry (with_call_begun s seat call) seat p call
try-begun s seat p call try = record { own = try.own; alive = try.alive; room = try.room; follows = try.follows; bears = bears-begun s seat p call try.bears }

count-begun : (call : Call) (seat start : ℕ) (syncs : List (Option SyncStart)) → length (starts_begun call seat start syncs) ≡ length syncs
count-begun (Sync a len) seat start syncs = length-set syncs seat (Some (record { from = start; addr = a; length = len }))
count-begun call seat start syncs = refl

-- WHAT THE FILES' CALLS LET AN ANSWER BE, these being the seats that have them then: a call is done where its file is free, or its own and the call a part, and its entry leaves the seats so; a file's call
-- is waited for where it is another seat's.
abbrev pub FilesLet : KernelState → List (Option ℕ) → ℕ → ℕ → Call → Attempt → Type 0
FilesLet s calls seat p call (Done reply) = MayUseFile (done_entry p call reply 0) seat s.calls × ((cleared : ℕ) → LocksAfter (done_entry p call reply cleared) s.calls calls)
FilesLet s calls seat p call (Need plan) = calls ≡ s.calls
FilesLet s calls seat p call (Busy h) = IsOfAnother seat h × (calls ≡ s.calls)

-- DONE.
module _ (opening : Flat) (s : KernelState) (seats : Seats) (fit : StateFits opening s seats) (m : Memory) (calls : List (Option ℕ)) (seat p more : ℕ) (call : Call) (plain : (child : ℕ) → call ≢ Fork child) (try : CanTry s seat p call) (lt : seat < length s.syncs) where
  abbrev pub made : Reply → MarksSeen → KernelState
  made reply n = with_entry_marked (record s { memory = m }) (done_entry p call reply more) calls (slice_set s.syncs seat None) n

  p-is : p ≡ suc seat
  p-is = seat-is s seat p call try

  starts : (reply : Reply) → StartsAfter (done_entry p call reply more) s.syncs (slice_set s.syncs seat None)
  starts reply = starts-dropped s.syncs seat (done_entry p call reply more) p-is lt (λ q. bears-nobody call plain q p more reply)

  -- a Sync began where it says
  began : (reply : Reply) (from : ℕ) → IsOwnReply s p call (Done reply) → reply ≡ Synced from → IsStart s.history (length s.history) p from
  began reply from own is =
      subst (λ (k : ℕ). IsStart s.history (length s.history) p k) (sym (own.1 from is ∙ ap (λ (k : ℕ). start_of s k call) try.own))
      (subst (λ (k : ℕ). IsStart s.history (length s.history) k (start_of s seat call)) (sym p-is) (start_rule.began opening s seats seat call fit))

  pub done-event : (reply : Reply) (n : MarksSeen) → IsWellFormed call → ServesDone s.memory m s.pending more p call reply → FilesLet s calls seat p call (Done reply) → StaysAlive m p call → IsOwnReply s p call (Done reply)
      → MarksAfterReply s.memory m p call reply (length s.history) s.marks n → IsEvent seat s None (made reply n) None
  done-event reply n formed serves lets alive own marks = serving_law.done s m seat p more call reply calls (slice_set s.syncs seat None) n try serves alive (record {
    formed = formed;
    plain = plain;
    own = own.0;
    sync = λ from is. began reply from own is;
    file = lets.0;
  }) (lets.1 more) (starts reply) (length-set s.syncs seat None) marks

  pub done-answer : (reply : Reply) (n : MarksSeen) → ServesDone s.memory m s.pending more p call reply → FilesLet s calls seat p call (Done reply) → IsOwnReply s p call (Done reply) → IsDone s (made reply n) p call reply
  done-answer reply n serves lets own = record {
    mid = serves.mid;
    cleared = more;
    adds = record { history = refl; pending = refl; locks = lets.1 more; starts = starts reply };
    no_error = own.0;
    refusal = serves.refusal;
    start = own.1;
    clean = serves.clean;
    takes = serves.first;
    replaced = serves.replaced;
    modified = serves.modified;
    bays = (serves.acts more).machine.bays ∙ serves.first.step.bays;
    plan = refl;
  }

  -- the call has begun
  begun-event : IsEvent seat s None (with_call_begun s seat call) None
  begun-event = start_rule.begins s seat None call lt

  -- A TRANSFER IS NEEDED.
  pub need-event : (plan : Plan) → ServesNeed s.memory m s.pending more p call plan → IsEvent seat s None (after_need (with_call_begun s seat call) m more seat p call plan) None
  need-event plan serves =
      event_law.joined seat s (with_call_begun s seat call) (after_need (with_call_begun s seat call) m more seat p call plan) None None None begun-event
      (serving_law.need (with_call_begun s seat call) m seat p more call plan (try-begun s seat p call try) (let count = count-begun call seat (start_of s seat call) s.syncs in omega (arith, lt, count)) serves)

  pub need-answer : (plan : Plan) → ServesNeed s.memory m s.pending more p call plan → IsNeeded s (after_need (with_call_begun s seat call) m more seat p call plan) seat p call plan
  need-answer plan serves = record {
    kept = refl;
    may = serves.runs.may;
    refusal = serves.refusal;
    wanted = serves.wanted;
    files = serves.files;
    began = record { takes = serves.first; replaced = serves.replaced; modified = serves.modified; spaces = serves.spaces; none = record { history = refl; calls = refl }; starts = refl };
  }

  -- SOMEBODY IS WAITED FOR.
  pub wait-event : (h : Hold) → ServesBusy s.memory m s.pending more s.calls p call h → IsEvent seat s None (after_wait (with_call_begun s seat call) m more) None
  wait-event h serves =
      event_law.joined seat s (with_call_begun s seat call) (after_wait (with_call_begun s seat call) m more) None None None begun-event
      (serving_law.busy (with_call_begun s seat call) m seat p more call h serves)

  pub wait-answer : (h : Hold) → seats seat ≡ None → ServesBusy s.memory m s.pending more s.calls p call h → IsOfAnother seat h → IsBusy s (after_wait (with_call_begun s seat call) m more) seat p call h
  wait-answer h idle serves another = record {
    holds = serving_law.another opening s seats m seat p more call h fit idle try serves another;
    refusal = serves.refusal;
    plan = refl;
    began = record { takes = serves.first; replaced = serves.replaced; modified = serves.modified; spaces = serves.spaces; none = record { history = refl; calls = refl }; starts = refl };
  }

-- WHAT IS CONCLUDED of an answer, and that it is an event.
pub record Concludes (s t : KernelState) (seat p : ℕ) (call : Call) (a : Attempt) : Type 0 where
  pub answers : AnswersCall s t seat p call a
  pub event : IsEvent seat s None t None

pub concludes : (opening : Flat) (s : KernelState) (seats : Seats) (m : Memory) (calls : List (Option ℕ)) (n : MarksSeen) (seat p more : ℕ) (call : Call) (a : Attempt) → StateFits opening s seats → seats seat ≡ None → ((child : ℕ) → call ≢ Fork child) → CanTry s seat p call → IsWellFormed call
    → Serves s.memory m s.pending more s.calls p call a → FilesLet s calls seat p call a → StaysAlive m p call → IsOwnReply s p call a → MarksAfterAnswer s.memory m p call a (length s.history) s.marks n → seat < length s.syncs
    → Concludes s (after_answer (with_marks (with_served s m more calls) n) seat p call a) seat p call a
concludes opening s seats m calls n seat p more call (Done reply) fit idle plain try formed serves lets alive own marks lt =
    let p_is = seat-is s seat p call try in
    let place : p - 1 ≡ seat = omega (arith, p_is) in
    let same : after_answer (with_marks (with_served s m more calls) n) seat p call (Done reply) ≡ with_entry_marked (record s { memory = m }) (done_entry p call reply more) calls (slice_set s.syncs seat None) n =
    ap (λ (k : ℕ). with_entry_marked (record s { memory = m }) (done_entry p call reply more) calls (slice_set s.syncs k None) n) place in
    subst (λ (t : KernelState). Concludes s t seat p call (Done reply)) (sym same) (record {
      answers = done-answer opening s seats fit m calls seat p more call plain try lt reply n serves lets own;
      event = done-event opening s seats fit m calls seat p more call plain try lt reply n formed serves lets alive own marks;
    })
concludes opening s seats m calls n seat p more call (Need plan) fit idle plain try formed serves lets alive own marks lt =
    subst (λ (x : List (Option ℕ) × MarksSeen). Concludes s (after_answer (with_marks (with_served s m more x.0) x.1) seat p call (Need plan)) seat p call (Need plan)) {x = (s.calls, s.marks)} {y = (calls, n)} (λ i. (sym lets i, sym marks i)) (record {
      answers = need-answer opening s seats fit m s.calls seat p more call plain try lt plan serves;
      event = need-event opening s seats fit m s.calls seat p more call plain try lt plan serves;
    })
concludes opening s seats m calls n seat p more call (Busy h) fit idle plain try formed serves lets alive own marks lt =
    subst (λ (x : List (Option ℕ) × MarksSeen). Concludes s (after_answer (with_marks (with_served s m more x.0) x.1) seat p call (Busy h)) seat p call (Busy h)) {x = (s.calls, s.marks)} {y = (calls, n)} (λ i. (sym lets.1 i, sym marks i)) (record {
      answers = wait-answer opening s seats fit m s.calls seat p more call plain try lt h idle serves lets.0;
      event = wait-event opening s seats fit m s.calls seat p more call plain try lt h serves;
    })

-- WHAT THE FILES' CALLS LET a call on the process's own space be answered: they stay as they are.
no-file : (m : Memory) (calls : List (Option ℕ)) (seat p : ℕ) (call : Call) (h : Hold) → IsOfNoFile call → HoldsUp m calls p call h → IsOfAnother seat h
no-file m calls seat p call (hold.Page t) of cause = tt
no-file m calls seat p call (hold.Disk t) of cause = tt
no-file m calls seat p call (hold.File t) of cause = absurd (let z : ◌≡◌ {A = Option ℕ} None (Some cause.0) = sym of.file ∙ cause.1 in cc)

own-lets : (opening : Flat) (s : KernelState) (seats : Seats) (m : Memory) (seat p more : ℕ) (call : Call) (a : Attempt) → StateFits opening s seats → IsOfNoFile call → CanTry s seat p call → Serves s.memory m s.pending more s.calls p call a → FilesLet s s.calls seat p call a
own-lets opening s seats m seat p more call (Done reply) fit of try serves = (
  (λ f t is. absurd (let z : ◌≡◌ {A = Option ℕ} None (Some f) = sym of.file ∙ is in cc)),
  (λ cleared. locks-same s.history s.calls s.syncs seat p cleared call reply fit.calls (seat-is s seat p call try) (try.follows reply cleared) of.part),
)
own-lets opening s seats m seat p more call (Need plan) fit of try serves = refl
own-lets opening s seats m seat p more call (Busy h) fit of try serves = (no-file m s.calls seat p call h of serves.holds, refl)

-- AND A CALL ON A FILE: it is done where no other seat has its file, and its entry makes the file the seat's or nobody's.
pub file-lets : (opening : Flat) (s : KernelState) (seats : Seats) (m : Memory) (seat p more : ℕ) (call : Call) (a : Attempt) → StateFits opening s seats → CanTry s seat p call → Serves s.memory m s.pending more s.calls p call a
    → ((t : ℕ) → (a ≡ Busy (hold.File t)) ↔ IsAnothers s.calls seat call t) → length s.calls ≡ 64 → FilesLet s (locks_answered seat call a s.calls) seat p call a
file-lets opening s seats m seat p more call (Done reply) fit try serves waits places =
    let free : (k : ℕ) → IsAnothers s.calls seat call k → ⊥ = λ k another. let z : Done reply ≡ Busy (hold.File k) = (waits k).1 another in cc in
    let is = seat-is s seat p call try in (
      may-use s.history s.calls s.syncs seat p 0 call reply fit.calls is (try.follows reply 0) free,
      (λ cleared. locks-done s.history s.calls s.syncs seat p cleared call reply fit.calls is (try.follows reply cleared) (λ f t of held. own-holder s.calls seat f t call free (part-of call f of) held)
          (λ f of goes. let lt = has-place s.memory p f call reply fit.memory serves.refusal of goes in omega (arith, lt, places))),
    )
file-lets opening s seats m seat p more call (Need plan) fit try serves waits places = refl
file-lets opening s seats m seat p more call (Busy (hold.Page t)) fit try serves waits places = (tt, refl)
file-lets opening s seats m seat p more call (Busy (hold.Disk t)) fit try serves waits places = (tt, refl)
file-lets opening s seats m seat p more call (Busy (hold.File t)) fit try serves waits places = (((waits t).0 refl).other, refl)

-- BESIDE ANY FRAME ANOTHER IS HOME, whatever is away.
pub home-frame : (store : StoreSeen) (zeros : List (Option ℕ)) (spaces : Spaces) (entries : List ℕ) (seats : ℕ) (notes : Notes) (table : PlaceTable) → IsSoundKernel store zeros spaces entries seats → IsSoundStore store → StoreFits store notes table
    → (beside : ℕ) → (frame : ℕ) × (frame ≢ beside) × IsSome (bytes_at store.frames frame)
home-frame store zeros spaces entries seats notes table k sound fits beside = let few = away_law.disks store notes table sound fits in let enough = k.frames in home-beside store.frames beside (omega (arith, few, enough))

-- WHAT IS KEPT after a call was served.
pub kept-moved : (old new : Memory) (zeros after : List (Option ℕ)) (entries : List ℕ) (seats : ℕ) → IsSoundKernel old.world.store zeros old.spaces entries seats → KnowsZeros after new.spaces → new.world.store.bays ≡ old.world.store.bays → length new.world.store.frames ≡ length old.world.store.frames
    → IsSoundKernel new.world.store after new.spaces entries seats
kept-moved old new zeros after entries seats k known bays frames =
    let disks = ap (λ (b : List BaySeen). length (filter is_disk b)) bays in
    let was = k.frames in
    record { frames = omega (arith, disks, frames, was); known = known; seated = k.seated }

pub kept-served : (old new : Memory) (zeros after : List (Option ℕ)) (pending more : ℕ) (calls : List (Option ℕ)) (p : ℕ) (call : Call) (a : Attempt) (entries : List ℕ) (seats : ℕ) → IsSoundKernel old.world.store zeros old.spaces entries seats → KnowsZeros after new.spaces → Serves old new pending more calls p call a
    → IsSoundKernel new.world.store after new.spaces entries seats
kept-served old new zeros after pending more calls p call (Done reply) entries seats k known s = let m = (s.acts 0).machine in kept-moved old new zeros after entries seats k known (m.bays ∙ s.first.step.bays) (m.frames ∙ s.first.step.frames)
kept-served old new zeros after pending more calls p call (Need plan) entries seats k known s = kept-moved old new zeros after entries seats k known s.first.step.bays s.first.step.frames
kept-served old new zeros after pending more calls p call (Busy h) entries seats k known s = kept-moved old new zeros after entries seats k known s.first.step.bays s.first.step.frames

-- A reply of an access is its own.
pub plain-own : (s : KernelState) (p : ℕ) (call : Call) (r : Reply) → IsPlainReply r → IsOwnReply s p call (Done r)
plain-own s p call (reply.Io disk before after) h = absurd h
plain-own s p call (reply.Synced from) h = absurd h
plain-own s p call reply.Done h = (refl, λ b e. absurd (let z : reply.Done ≡ reply.Synced b = e in cc))
plain-own s p call (reply.Word n) h = (refl, λ b e. absurd (let z : reply.Word n ≡ reply.Synced b = e in cc))
plain-own s p call (reply.Mapped n) h = (refl, λ b e. absurd (let z : reply.Mapped n ≡ reply.Synced b = e in cc))
plain-own s p call (reply.Bytes l) h = (refl, λ b e. absurd (let z : reply.Bytes l ≡ reply.Synced b = e in cc))
plain-own s p call (reply.Signal x) h = (refl, λ b e. absurd (let z : reply.Signal x ≡ reply.Synced b = e in cc))
plain-own s p call (reply.Refused x) h = (refl, λ b e. absurd (let z : reply.Refused x ≡ reply.Synced b = e in cc))

synced-is : (b k : ℕ) → reply.Synced b ≡ reply.Synced k → k ≡ b
synced-is b k e = let z : reply.Synced b ≡ reply.Synced k = e in cc

pub own-reply : (s : KernelState) (m : Memory) (p : ℕ) (call : Call) (a : Attempt) → MayBeAnswered m p call a → IsOwnReply s p call a
own-reply s m p call (Done r) may = plain-own s p call r may
own-reply s m p call (Need plan) may = tt
own-reply s m p call (Busy h) may = tt

at-once-own : (s : KernelState) (p : ℕ) (call : Call) (a : Attempt) → mmap.IsDoneAtOnce a → IsOwnReply s p call a
at-once-own s p call (Done r) may = plain-own s p call r may
at-once-own s p call (Need plan) may = absurd may
at-once-own s p call (Busy h) may = absurd may

-- So is that of a call that changes mappings.
pub changing-is : (call : Call) → mmap.ChangesMappings call → mmap.IsMappingCall call
changing-is (Map place len prot kind o offset) is = tt
changing-is (Unmap addr len) is = tt
changing-is (Protect addr len prot) is = tt
changing-is call is = absurd is

pub mapped-own : (s : KernelState) (p from : ℕ) (call : Call) (a : Attempt) → mmap.ChangesMappings call → mmap.IsMappingAnswer call from a → IsOwnReply s p call a
mapped-own s p from (Map place len prot kind o offset) a is may = at-once-own s p (Map place len prot kind o offset) a may
mapped-own s p from (Unmap addr len) a is may = at-once-own s p (Unmap addr len) a may
mapped-own s p from (Protect addr len prot) a is may = at-once-own s p (Protect addr len prot) a may
mapped-own s p from call a is may = absurd is

-- So is a Sync's.
pub synced-own : (s : KernelState) (p from : ℕ) (call : Call) (a : Attempt) → from ≡ start_of s (seat_of p) call → mmap.IsSyncAnswer from a → IsOwnReply s p call a
synced-own s p from call (Done (reply.Synced b)) is may = (refl, λ k e. synced-is b k e ∙ may ∙ is)
synced-own s p from call (Done (reply.Io disk before after)) is may = absurd may
synced-own s p from call (Done reply.Done) is may = plain-own s p call reply.Done may
synced-own s p from call (Done (reply.Word n)) is may = plain-own s p call (reply.Word n) may
synced-own s p from call (Done (reply.Mapped n)) is may = plain-own s p call (reply.Mapped n) may
synced-own s p from call (Done (reply.Bytes l)) is may = plain-own s p call (reply.Bytes l) may
synced-own s p from call (Done (reply.Signal x)) is may = plain-own s p call (reply.Signal x) may
synced-own s p from call (Done (reply.Refused x)) is may = plain-own s p call (reply.Refused x) may
synced-own s p from call (Need plan) is may = tt
synced-own s p from call (Busy h) is may = tt

pub exited-own : (s : KernelState) (p : ℕ) (call : Call) (a : Attempt) → procs.IsExitDone a → IsOwnReply s p call a
exited-own s p call (Done r) may = plain-own s p call r may
exited-own s p call (Need plan) may = absurd may
exited-own s p call (Busy h) may = absurd may

-- THE MECHANISMS. What holds of an access at its page holds after the call.
pub access-shown : (m : Memory) (p : ℕ) (call : Call) (a : Attempt) → ((q : ℕ) → accessed_page call ≡ Some q → IsShownWhereDone m p q a) → IsShownAfterCall m p call a
access-shown m p (Load addr n) a shown = shown (page addr) refl
access-shown m p (Store addr n v) a shown = shown (page addr) refl
access-shown m p call a shown = tt

pub access-slots : (old : Memory) (new : World) (p : ℕ) (call : Call) (a : Attempt) → IsAccess call → ((q : ℕ) → accessed_page call ≡ Some q → SlotsWhereDone old new p q (is_store call) a) → SlotsAfterCall old new p call a
access-slots old new p (Load addr n) a access slots = slots (page addr) refl
access-slots old new p (Store addr n v) a access slots = slots (page addr) refl
access-slots old new p call a access slots = absurd access

pub access-hit : (old : Memory) (new : World) (p : ℕ) (call : Call) (a : Attempt) → IsAccess call → ((q : ℕ) → accessed_page call ≡ Some q → IsHitWhereDone old new p q (is_store call) a) → IsHitAfterCall old new p call a
access-hit old new p (Load addr n) a access hit = hit (page addr) refl
access-hit old new p (Store addr n v) a access hit = hit (page addr) refl
access-hit old new p call a access hit = absurd access

-- A call that changes mappings leaves no translation to be told, makes no slot, and may be answered want of memory.
pub record AfterMapping (old : Memory) (new : Memory) (p : ℕ) (call : Call) (a : Attempt) : Type 0 where
  pub shown : IsShownAfterCall new p call a
  pub slots : SlotsAfterCall old new.world p call a
  pub hit : IsHitAfterCall old new.world p call a

pub after-mapping : (old new : Memory) (p : ℕ) (call : Call) (a : Attempt) → mmap.ChangesMappings call → ((slot : ℕ) → count_at new.world.anon slot ≤ count_at old.world.anon slot) → AfterMapping old new p call a
after-mapping old new p (Map place len prot kind o offset) a is fall = record { shown = tt; slots = fall; hit = tt }
after-mapping old new p (Unmap addr len) a is fall = record { shown = tt; slots = fall; hit = tt }
after-mapping old new p (Protect addr len prot) a is fall = record { shown = tt; slots = fall; hit = tt }
after-mapping old new p call a is fall = absurd is

pub mapping-memory : (call : Call) → mmap.ChangesMappings call → TakesMemory call
mapping-memory (Map place len prot kind o offset) is = tt
mapping-memory (Unmap addr len) is = tt
mapping-memory (Protect addr len prot) is = tt
mapping-memory call is = absurd is

pub file-kind : (call : Call) → ((f : ℕ) × (offset : ℕ) × (len : ℕ) × (call ≡ Read f offset len)) ⊎ ((f : ℕ) × (offset : ℕ) × (line : List ℕ) × (rest : ℕ) × (call ≡ Write f offset line rest)) ⊎ ((f : ℕ) × (len : ℕ) × (call ≡ Truncate f len)) → IsSome (file_of_call call)
file-kind call (inl is) = ap (λ (x : Call). is_some (file_of_call x)) is.3
file-kind call (inr (inl is)) = ap (λ (x : Call). is_some (file_of_call x)) is.4
file-kind call (inr (inr is)) = ap (λ (x : Call). is_some (file_of_call x)) is.2

-- A call on a file is no Fork, leaves no translation to be told, makes no slot, and its process goes on.
pub file-plain : (call : Call) → IsSome (file_of_call call) → (child : ℕ) → call ≢ Fork child
file-plain call of child e = let z : false ≡ true = ap (λ (x : Call). is_some (file_of_call x)) (sym e) ∙ of in cc

file-own : (s : KernelState) (p : ℕ) (call : Call) (r : Reply) → IsFileReply r call → IsOwnReply s p call (Done r)
file-own s p call (reply.Io disk before after) h = absurd h
file-own s p call (reply.Synced from) h = absurd h
file-own s p call r h = plain-own s p call r tt

pub file-answered : (s : KernelState) (p : ℕ) (call : Call) (a : Attempt) → IsFileAnswer a call → IsOwnReply s p call a
file-answered s p call (Done r) h = file-own s p call r h
file-answered s p call (Need plan) h = tt
file-answered s p call (Busy hold) h = tt

pub after-file : (old new : Memory) (p : ℕ) (call : Call) (a : Attempt) → IsSome (file_of_call call) → new.world.anon ≡ old.world.anon → AfterMapping old new p call a
after-file old new p (Read file offset len) a of same = record { shown = tt; slots = λ slot. let e = ap (λ (x : AnonSlotsSeen). count_at x slot) same in omega (arith, e); hit = tt }
after-file old new p (Write file offset line rest) a of same = record { shown = tt; slots = λ slot. let e = ap (λ (x : AnonSlotsSeen). count_at x slot) same in omega (arith, e); hit = tt }
after-file old new p (Truncate file len) a of same = record { shown = tt; slots = λ slot. let e = ap (λ (x : AnonSlotsSeen). count_at x slot) same in omega (arith, e); hit = tt }
after-file old new p call a of same = absurd (let z : false ≡ true = of in cc)

-- What a Sync leaves of the state, where the seats' starts stay.
pub synced-rest : (v s : KernelState) (m : Memory) (pending : ℕ) (syncs : List (Option SyncStart)) → v ≡ s → syncs ≡ v.syncs → record (with_memory v m pending) { syncs = syncs } ≡ with_memory s m pending
synced-rest v s m pending syncs is same = ap (λ (l : List (Option SyncStart)). record (with_memory v m pending) { syncs = l }) same ∙ ap (λ (x : KernelState). with_memory x m pending) is

-- Where no mark changed, and what a call does to them that is neither a Sync nor a Truncate.
pub same-marks : (s t : KernelState) → t ≡ with_memory s t.memory t.pending → t ≡ with_marks (with_memory s t.memory t.pending) t.marks
same-marks s t is = is ∙ ap (with_marks (with_memory s t.memory t.pending)) (sym (ap (λ (x : KernelState). x.marks) is))

pub plain-marks : (old new : Memory) (p : ℕ) (call : Call) (a : Attempt) (entries : ℕ) (m n : MarksSeen) → ((addr len : ℕ) → call ≢ Sync addr len) → ((f len : ℕ) → call ≢ Truncate f len) → n ≡ m → MarksAfterAnswer old new p call a entries m n
plain-marks old new p call (Need plan) entries m n sync cut same = same
plain-marks old new p call (Busy h) entries m n sync cut same = same
plain-marks old new p (Sync addr len) (Done r) entries m n sync cut same = absurd (sync addr len refl)
plain-marks old new p (Truncate f len) (Done r) entries m n sync cut same = absurd (cut f len refl)
plain-marks old new p call (Done r) entries m n sync cut same = same

-- a load and a store are neither
pub access-plain : (call : Call) → IsAccess call → ((addr len : ℕ) → call ≢ Sync addr len) × ((f len : ℕ) → call ≢ Truncate f len)
access-plain (Load a n) h = ((λ addr len e. let z : Load a n ≡ Sync addr len = e in cc), (λ f len e. let z : Load a n ≡ Truncate f len = e in cc))
access-plain (Store a n v) h = ((λ addr len e. let z : Store a n v ≡ Sync addr len = e in cc), (λ f len e. let z : Store a n v ≡ Truncate f len = e in cc))
access-plain call h = absurd h

-- What is left of the state once marks rose, or a file was cut.
pub marked-rest : (s t u : KernelState) → t ≡ with_memory s t.memory t.pending → u ≡ with_marks t u.marks → u ≡ with_marks (with_memory s u.memory u.pending) u.marks
marked-rest s t u rest is =
    is ∙ ap (λ (x : KernelState). with_marks x u.marks) rest
    ∙ (λ i. with_marks (with_memory s (sym (ap (λ (x : KernelState). x.memory) is) i) (sym (ap (λ (x : KernelState). x.pending) is) i)) u.marks)

pub marked-served : (s t u : KernelState) (calls : List (Option ℕ)) → t ≡ with_served s t.memory t.pending calls → u ≡ with_marks t u.marks → u ≡ with_marks (with_served s u.memory u.pending calls) u.marks
marked-served s t u calls rest is =
    is ∙ ap (λ (x : KernelState). with_marks x u.marks) rest
    ∙ (λ i. with_marks (with_served s (sym (ap (λ (x : KernelState). x.memory) is) i) (sym (ap (λ (x : KernelState). x.pending) is) i) calls) u.marks)

-- What is concluded changes no memory.
pub concluded-memory : (s : KernelState) (seat p : ℕ) (call : Call) (a : Attempt) → (after_answer s seat p call a).memory ≡ s.memory
concluded-memory s seat p call (Done reply) = refl
concluded-memory s seat p call (Need plan) = refl
concluded-memory s seat p call (Busy h) = refl

-- WHAT A CALL WAS SERVED, before it is concluded.
pub record WasServed (s mid : KernelState) (p : ℕ) (call : Call) (a : Attempt) : Type 0 where
  pub serves : Serves s.memory mid.memory s.pending mid.pending s.calls p call a
  pub shown : IsShownAfterCall mid.memory p call a
  pub slots : SlotsAfterCall s.memory mid.memory.world p call a
  pub hit : IsHitAfterCall s.memory mid.memory.world p call a
  pub own : IsOwnReply s p call a
  pub alive : StaysAlive mid.memory p call
  pub marks : MarksAfterCall s mid p call a

-- Where a call is of no file, it waits for none.
pub none-waits : (calls : List (Option ℕ)) (seat t : ℕ) (call : Call) → file_of_call call ≡ None → IsAnothers calls seat call t → ⊥
none-waits calls seat t call none another = let z : ◌≡◌ {A = Option ℕ} None (Some another.file) = sym none ∙ another.of in cc

-- What a call that was tried comes to, where these seats have the files' calls then.
tries : (seat p : ℕ) (s mid t : KernelState) (calls : List (Option ℕ)) (call : Call) (a : Attempt) (fits : FitsAt s seat None) → ((child : ℕ) → call ≢ Fork child) → CanTry s seat p call → IsWellFormed call → WasServed s mid p call a → FilesLet s calls seat p call a
    → mid ≡ with_marks (with_served s mid.memory mid.pending calls) mid.marks → t ≡ after_answer mid seat p call a → seat < length mid.syncs → AnswersTry s t seat p call a
tries seat p s mid t calls call a fits plain may formed w lets rest new seated =
    let memory : t.memory ≡ mid.memory = ap (λ (x : KernelState). x.memory) new ∙ concluded-memory mid seat p call a in
    let marks : t.marks ≡ mid.marks = ap (λ (x : KernelState). x.marks) new ∙ answered-marks mid seat p call a in
    let c = subst (λ (x : KernelState). Concludes s x seat p call a) (sym (new ∙ ap (λ (x : KernelState). after_answer x seat p call a) rest))
    (concludes fits.0 s fits.1 mid.memory calls mid.marks seat p mid.pending call a fits.2 fits.3 plain may formed w.serves lets w.alive w.own w.marks (subst (λ (x : KernelState). seat < length x.syncs) rest seated)) in
    record {
      answers = c.answers;
      shown = subst (λ (m : Memory). IsShownAfterCall m p call a) (sym memory) w.shown;
      slots = subst (λ (m : Memory). SlotsAfterCall s.memory m.world p call a) (sym memory) w.slots;
      hit = subst (λ (m : Memory). IsHitAfterCall s.memory m.world p call a) (sym memory) w.hit;
      event = c.event;
      marks = subst (λ (x : Memory × MarksSeen). MarksAfterAnswer s.memory x.0 p call a (length s.history) s.marks x.1) {x = (mid.memory, mid.marks)} {y = (t.memory, t.marks)} (λ i. (sym memory i, sym marks i)) w.marks;
    }

-- On the process's own space, and on a file.
pub tries-own : (seat p : ℕ) (s mid t : KernelState) (call : Call) (a : Attempt) → FitsAt s seat None → IsOnOwnSpace call → CanTry s seat p call → IsWellFormed call → WasServed s mid p call a → mid ≡ with_marks (with_memory s mid.memory mid.pending) mid.marks → t ≡ after_answer mid seat p call a
    → seat < length mid.syncs → AnswersTry s t seat p call a
tries-own seat p s mid t call a fits served may formed w rest new seated =
    let of = served-is call served in
    tries seat p s mid t s.calls call a fits of.plain may formed w (own-lets fits.0 s fits.1 mid.memory seat p mid.pending call a fits.2 of may w.serves) rest new seated

pub tries-file : (seat p : ℕ) (s mid t : KernelState) (call : Call) (a : Attempt) → FitsAt s seat None → IsSome (file_of_call call) → CanTry s seat p call → IsWellFormed call → WasServed s mid p call a → ((t : ℕ) → (a ≡ Busy (hold.File t)) ↔ IsAnothers s.calls seat call t)
    → length s.calls ≡ 64 → mid ≡ with_marks (with_served s mid.memory mid.pending (locks_answered seat call a s.calls)) mid.marks → t ≡ after_answer mid seat p call a → seat < length mid.syncs → AnswersTry s t seat p call a
tries-file seat p s mid t call a fits of may formed w waits places rest new seated =
    tries seat p s mid t (locks_answered seat call a s.calls) call a fits (file-plain call of) may formed w (file-lets fits.0 s fits.1 mid.memory seat p mid.pending call a fits.2 may w.serves waits places) rest new seated

-- ANSWERS THAT MAY BE WANT OF MEMORY.
pub ok-then : {E : Type 0} (P Q : Attempt → Type 0) (r : Result Attempt E) → ((a : Attempt) → P a → Q a) → IfOk r P → IfOk r Q
ok-then P Q (Ok a) f h = f a h
ok-then P Q (Err e) f h = h

pub ok-always : {E : Type 0} (P : Attempt → Type 0) (r : Result Attempt E) → ((a : Attempt) → P a) → IfOk r P
ok-always P (Ok a) f = f a
ok-always P (Err e) f = tt

pub err-then : {E : Type 0} (P Q : Type 0) (r : Result Attempt E) → (P → Q) → OnErr r P → OnErr r Q
err-then P Q (Ok a) f h = h
err-then P Q (Err e) f h = f h

pub kept-result : {E : Type 0} (old new : Memory) (zeros after : List (Option ℕ)) (pending more : ℕ) (calls : List (Option ℕ)) (p : ℕ) (call : Call) (r : Result Attempt E) (entries : List ℕ) (seats : ℕ) → IsSoundKernel old.world.store zeros old.spaces entries seats → KnowsZeros after new.spaces → IfOk r (λ a. Serves old new pending more calls p call a)
    → OnErr r (new ≡ old) → IsSoundKernel new.world.store after new.spaces entries seats
kept-result old new zeros after pending more calls p call (Ok a) entries seats k known serves same = kept-served old new zeros after pending more calls p call a entries seats k known serves
kept-result old new zeros after pending more calls p call (Err e) entries seats k known serves same = kept-moved old new zeros after entries seats k known (ap (λ (m : Memory). m.world.store.bays) same) (ap (λ (m : Memory). length m.world.store.frames) same)

-- Of a hit that was looked for.
pub kept-hit : {D : Type 0} (w v : rust.World D) (spaces : Spaces) (p : ℕ) (call : Call) (r : Option Answer) (entries : List ℕ) (seats : ℕ) → IsSoundKernel w.store w.zeros spaces entries seats → KnowsZeros v.zeros spaces
    → IfSome r (λ a. (calls : List (Option ℕ)) → Serves (words.memory w spaces) (words.memory v spaces) w.pending v.pending calls p call (attempt_of a)) → IfNone r (v ≡ w) → IsSoundKernel v.store v.zeros spaces entries seats
kept-hit w v spaces p call (Some a) entries seats k known serves none = kept-served (words.memory w spaces) (words.memory v spaces) w.zeros v.zeros w.pending v.pending [] p call (attempt_of a) entries seats k known (serves [])
kept-hit w v spaces p call None entries seats k known serves none = subst (λ x. IsSoundKernel x.store x.zeros spaces entries seats) (sym none) k

-- Nothing changed.
pub same-again : (s t : KernelState) (m : Memory) (pending : ℕ) → s ≡ t → m ≡ s.memory → pending ≡ s.pending → with_memory s m pending ≡ t
same-again s t m pending same memory tails = ap (λ (x : Memory). with_memory s x pending) memory ∙ ap (λ (n : ℕ). with_memory s s.memory n) tails ∙ same
