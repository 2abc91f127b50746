-- A flight comes back to the state.
use Rattle.fault_entry.proofs.vm_world.FileLocks.{past-set, past-index, split}
use Rattle.std.proofs.Common.{◌≡◌, ◌≢◌, ℕ, zero, suc, ◌-◌, ◌<◌, ◌≤◌, ◌==◌, ◌&&◌, ◌||◌, Bool, true, false, cond, not, List, [], ◌∷◌, length, Option, Some, None, refl, sym, ap, ◌∙◌, inl, inr, subst, arith, get_or-set_same, get_or-set_other}
use Rattle.std.specs.Prelude.{◌↔◌, filter, slice_index_or, slice_set, option_map, MatchBool}
use Rattle.std.specs.Option.{option_map_or}
use Rattle.std.proofs.lemmas.Bool.{cases_eq}
use Rattle.std.proofs.lemmas.Bool.Decides.{eqb_tells}
use Rattle.disk_marks.specs.Changes.{marks_written, marks_spoiled}
use Rattle.fault_entry.specs.flat_model.Counted.{top_count}
use Rattle.fault_entry.specs.flat_model.Flat.{Flat}
use Rattle.fault_entry.specs.flat_model.OpenLaws.{IsOpenPart, MayFollow}
use Rattle.fault_entry.specs.flat_model.Step.{is_bit_set}
use Rattle.fault_entry.specs.flat_model.Told.{entries_of}
use Rattle.fault_entry.specs.page_hash.Names.{name_at}
use Rattle.fault_entry.specs.page_hash.declared.PageName.{PageName}
use Rattle.fault_entry.specs.page_lock.Rows.{row_at}
use Rattle.fault_entry.specs.page_store.Away.{is_disk, disk_count}
use Rattle.fault_entry.specs.page_store.Bays.{BaySeen, missing, home, out, bay_at}
use Rattle.fault_entry.specs.page_store.Flight.{FlightSeen, Progress, fresh, done, failed, IsPerformed}
use Rattle.fault_entry.specs.page_store.Notes.{Note, Notes}
use Rattle.fault_entry.specs.page_store.Out.{IsFlightOf}
use Rattle.fault_entry.specs.page_store.Seen.{StoreSeen, own_frame}
use Rattle.fault_entry.specs.page_store.Steps.{after_end, with_flight_landed, with_pair_settled, is_lost}
use Rattle.fault_entry.specs.page_store.Transfers.{EndsTransfer}
use Rattle.fault_entry.specs.vm_types.Parts.{next_part, ends_call, part_file}
use Rattle.fault_entry.specs.vm_types.declared.call.Call.{Call}
use Rattle.fault_entry.specs.vm_types.declared.call.Call.TheVariants.{Read, Write}
use Rattle.fault_entry.specs.vm_types.declared.call.Entry.{Entry}
use Rattle.fault_entry.specs.vm_types.declared.call.Reply.{Reply}
use Rattle.fault_entry.specs.vm_types.declared.call.Reply.TheVariants.{Io}
use Rattle.fault_entry.specs.vm_world.EntryLaws.{LocksAfter, StartsAfter}
use Rattle.fault_entry.specs.vm_world.Events.{IsEvent}
use Rattle.fault_entry.specs.vm_world.Failures.{io_entry, with_entry_made}
use Rattle.fault_entry.specs.vm_world.HistoryFits.{CallsFit}
use Rattle.fault_entry.specs.vm_world.Marks.{MarksSeen}
use Rattle.fault_entry.specs.vm_world.MarksOf.{marks_ended}
use Rattle.fault_entry.specs.vm_world.MemoryFits.{MemoryFits}
use Rattle.fault_entry.specs.vm_world.NotesFit.{NotesFit}
use Rattle.fault_entry.specs.vm_world.Segments.{Spaces}
use Rattle.fault_entry.specs.vm_world.State.{KernelState, Seats, Sent, Caller, notes_of, seat_of, room_of}
use Rattle.fault_entry.specs.vm_world.StateFits.{StateFits, CallerFits}
use Rattle.fault_entry.specs.vm_world.StateSteps.{after_step, after_return, PendsTails, ComesBack}
use Rattle.fault_entry.specs.vm_world.World.{World}
use Rattle.fault_entry.specs.vm_world.WorldSteps.{WorldStep, returns}
use Rattle.fault_entry.specs.vm_world.ZeroObjects.{KnowsZeros}
use Rattle.fault_entry.proofs.vm_world.Failures.{failure_rule}
use Rattle.fault_entry.proofs.vm_world.StateSteps.{state_rule}
use Rattle.fault_entry.specs.vm_world.declared.sync_start.SyncStart.{SyncStart}
use Rattle.vm_core.specs.Flights.{IsBack, AddsEntry}
use Rattle.file_calls.specs.Locks.{calls_without, without_seat}
use Rattle.mark_laws.specs.MarkLaws.{marks_by}
use Rattle.vm_core.specs.Marks.{marks_after_push, marks_landed}
use Rattle.vm_core.specs.State.{with_next_entry, IsSoundKernel}
use Rattle.vm_core.proofs.OwnFiles.{own-part}

-- THE LOCK OF THE FILE. Whose call of a file is between two parts, once a seat's call of one file is over.
other-seat : (seat t : ℕ) (o : Option ℕ) → t ≢ seat → (without_seat seat o ≡ Some t) ↔ (o ≡ Some t)
other-seat seat t None ne = ((λ h. h), (λ h. h))
other-seat seat t (Some x) ne = by_test (x == seat) refl
  where
    by_test : (b : Bool) → (x == seat) ≡ b → (cond b None (Some x) ≡ Some t) ↔ (Some x ≡ Some t)
    by_test true e = ((λ h. absurd (cc)), (λ h. absurd (let same : x ≡ t = cc in ne (sym same ∙ elim (eqb_tells x seat) [ inl y ↦ y.1 | inr n ↦ absurd (let z : true ≡ false = sym e ∙ n.0 in cc) ]))))
    by_test false e = ((λ h. h), (λ h. h))

never-seat : (seat : ℕ) (o : Option ℕ) → without_seat seat o ≢ Some seat
never-seat seat None h = let z : ◌≡◌ {A = Option ℕ} None (Some seat) = h in cc
never-seat seat (Some x) h = by_test (x == seat) refl h
  where
    by_test : (b : Bool) → (x == seat) ≡ b → cond b None (Some x) ≡ Some seat → ⊥
    by_test true e h = let z : ◌≡◌ {A = Option ℕ} None (Some seat) = h in cc
    by_test false e h = elim (eqb_tells x seat) [ inl y ↦ (let z : true ≡ false = sym y.0 ∙ e in cc) | inr n ↦ n.1 (let z : Some x ≡ Some seat = h in cc) ]

-- at the file itself
at-file : (seat f : ℕ) (calls : List (Option ℕ)) → slice_index_or (calls_without seat (Some f) calls) f None ≡ without_seat seat (slice_index_or calls f None)
at-file seat f calls = elim (split f (length calls)) [
  | inl lt ↦ get_or-set_same calls f (without_seat seat (slice_index_or calls f None)) None lt
  | inr le ↦ past-set calls f (without_seat seat (slice_index_or calls f None)) le ∙ sym (ap (without_seat seat) (past-index calls f le))
]

others-stay : (seat f t : ℕ) (o : Option ℕ) (calls : List (Option ℕ)) → t ≢ seat → (slice_index_or (calls_without seat o calls) f None ≡ Some t) ↔ (slice_index_or calls f None ≡ Some t)
others-stay seat f t None calls ne = ((λ h. h), (λ h. h))
others-stay seat f t (Some g) calls ne = elim (cases_eq f g) [
  | inl same ↦
      let at : slice_index_or (calls_without seat (Some g) calls) f None ≡ without_seat seat (slice_index_or calls f None) = subst (λ (k : ℕ). slice_index_or (calls_without seat (Some g) calls) k None ≡ without_seat seat (slice_index_or calls k None)) (sym same) (at-file seat g calls) in
      let by = other-seat seat t (slice_index_or calls f None) ne in ((λ h. by.0 (sym at ∙ h)), (λ h. at ∙ by.1 h))
  | inr far ↦
      let at : slice_index_or (calls_without seat (Some g) calls) f None ≡ slice_index_or calls f None = get_or-set_other calls g f (without_seat seat (slice_index_or calls g None)) None far in
      ((λ h. sym at ∙ h), (λ h. at ∙ h))
]

-- the seat has a file's lock then only where it had it, and not that file's
seat-had : (seat f : ℕ) (o : Option ℕ) (calls : List (Option ℕ)) → slice_index_or (calls_without seat o calls) f None ≡ Some seat → (slice_index_or calls f None ≡ Some seat) × (o ≢ Some f)
seat-had seat f None calls h = (h, λ e. let z : ◌≡◌ {A = Option ℕ} None (Some f) = e in cc)
seat-had seat f (Some g) calls h = elim (cases_eq f g) [
  | inl same ↦ absurd (never-seat seat (slice_index_or calls g None) (sym (at-file seat g calls) ∙ ap (λ (k : ℕ). slice_index_or (calls_without seat (Some g) calls) k None) (sym same) ∙ h))
  | inr far ↦ (sym (get_or-set_other calls g f (without_seat seat (slice_index_or calls g None)) None far) ∙ h, λ e. far (let z : Some g ≡ Some f = e in cc))
]

io-ends : (call : Call) (disk before after : ℕ) → ends_call call (Io disk before after) ≡ true
unfolding next_part
io-ends (Read file offset len) disk before after = refl
io-ends (Write file offset line rest) disk before after = refl
io-ends call disk before after = refl

-- THE LOCKS AFTER A DEVICE ERROR.
pub locks-after : (H : List Entry) (calls : List (Option ℕ)) (syncs : List (Option SyncStart)) (seat p disk before after cleared : ℕ) (call : Call) → CallsFit H calls syncs → p ≡ suc seat → MayFollow H (io_entry p call disk before after cleared)
    → LocksAfter (io_entry p call disk before after cleared) calls (calls_without seat (part_file call) calls)
locks-after H calls syncs seat p disk before after cleared call fit is follows f t = by_seat (p == suc t) refl
  where
    e : Entry
    e = io_entry p call disk before after cleared

    by_seat : (b : Bool) → (p == suc t) ≡ b → (slice_index_or (calls_without seat (part_file call) calls) f None ≡ Some t) ↔ MatchBool b (IsOpenPart f (io_entry p call disk before after cleared)) (slice_index_or calls f None ≡ Some t)
    by_seat true own = (
      (λ h. absurd (
          let mine : t ≡ seat = elim (eqb_tells p (suc t)) [ inl y ↦ (let z : suc t ≡ suc seat = sym y.1 ∙ is in omega (arith, z)) | inr n ↦ absurd (let z : true ≡ false = sym own ∙ n.0 in cc) ] in
          let had = seat-had seat f (part_file call) calls (h ∙ ap (λ (k : ℕ). Some k) mine) in
          had.1 (own-part H calls syncs seat p cleared f call (Io disk before after) fit is follows had.0))),
      (λ h. absurd (let z : true ≡ false = sym (io-ends call disk before after) ∙ h.1 in cc)),
    )
    by_seat false other = others-stay seat f t (part_file call) calls
        (λ same. absurd (elim (eqb_tells p (suc t)) [ inl y ↦ (let z : true ≡ false = sym y.0 ∙ other in cc) | inr n ↦ n.1 (is ∙ ap suc (sym same)) ]))

-- THE STARTS OF SYNCS AFTER A DEVICE ERROR.
pub starts-after : (syncs : List (Option SyncStart)) (seat p disk before after cleared : ℕ) (call : Call) → p ≡ suc seat → seat < length syncs
    → StartsAfter (io_entry p call disk before after cleared) syncs (slice_set syncs seat None)
starts-after syncs seat p disk before after cleared call is lt t b has = elim (cases_eq t seat) [
  | inl same ↦ absurd (let z : ◌≡◌ {A = Option SyncStart} None (Some b) = sym (ap (λ (k : ℕ). slice_index_or (slice_set syncs seat None) k None) same ∙ get_or-set_same syncs seat None None lt) ∙ has in cc)
  | inr ne ↦ (
    elim (eqb_tells p (suc t)) [ inl y ↦ absurd (ne (let z : suc t ≡ suc seat = sym y.1 ∙ is in omega (arith, z))) | inr n ↦ ap (λ (x : Bool). x || false) n.0 ],
    sym (get_or-set_other syncs seat t None None ne) ∙ has,
  )
]

-- A DISK LEAVES OR COMES HOME: there are as many as before.
one-disk : (b : BaySeen) (bays : List BaySeen) → is_disk b ≡ true → length (filter is_disk (b ∷ bays)) ≡ suc (length (filter is_disk bays))
one-disk missing bays is = absurd (let z : false ≡ true = is in cc)
one-disk (home d) bays is = refl
one-disk (out t) bays is = refl

same-disks : (bays : List BaySeen) (number : ℕ) (b : BaySeen) → is_disk (bay_at bays number) ≡ true → is_disk b ≡ true → length (filter is_disk (slice_set bays number b)) ≡ length (filter is_disk bays)
same-disks [] number b was is = absurd (let z : false ≡ true = was in cc)
same-disks (x ∷ bays) zero b was is = one-disk b bays is ∙ sym (one-disk x bays was)
same-disks (missing ∷ bays) (suc number) b was is = same-disks bays number b was is
same-disks (home d ∷ bays) (suc number) b was is = ap suc (same-disks bays number b was is)
same-disks (out t ∷ bays) (suc number) b was is = ap suc (same-disks bays number b was is)

pub disks-kept : (old new : StoreSeen) (number : ℕ) (before after : BaySeen) → bay_at old.bays number ≡ before → is_disk before ≡ true → is_disk after ≡ true → new.bays ≡ slice_set old.bays number after → disk_count new ≡ disk_count old
disks-kept old new number before after at was is moved = ap (λ (bays : List BaySeen). length (filter is_disk bays)) moved ∙ same-disks old.bays number after (ap is_disk at ∙ was) is

landed-bays : (s : StoreSeen) (f : FlightSeen) (lost : Bool) → (with_flight_landed s f lost).bays ≡ slice_set s.bays f.number (home f.disk)
landed-bays s f true = refl
landed-bays s f false = refl

-- WHAT IS KEPT after a flight came back.
pub kept-ended : (old new : StoreSeen) (f : FlightSeen) (zeros after : List (Option ℕ)) (spaces : Spaces) (entries : List ℕ) (seats : ℕ) → IsSoundKernel old zeros spaces entries seats → after ≡ zeros → IsFlightOf old f → new ≡ after_end old f → EndsTransfer old new f → IsSoundKernel new after spaces entries seats
kept-ended old new f zeros after spaces entries seats k same flight is laws =
    let disks = disks-kept old new f.number (out f.seat) (home f.disk) flight.out.bay refl refl (ap (λ (x : StoreSeen). x.bays) is ∙ landed-bays (with_pair_settled old f) f (is_lost f.writes f.outcome (row_at (with_pair_settled old f).rows f.frame).gone)) in
    let frames = laws.touches.frames in
    let was = k.frames in
    record { frames = omega (arith, disks, frames, was); known = subst (λ (l : List (Option ℕ)). KnowsZeros l spaces) (sym same) k.known; seated = k.seated }

-- THE FLIGHT is one that is out.
pub note-here : (seats : Seats) (seat : ℕ) (sent : Sent) → seats seat ≡ Some sent → notes_of seats seat ≡ Some sent.note
note-here seats seat sent is = ap (option_map (λ (x : Sent). x.note)) is

pub flight-out : (opening : Flat) (s : KernelState) (seats : Seats) (seat : ℕ) (sent : Sent) (f : FlightSeen) → StateFits opening s seats → seats seat ≡ Some sent → IsPerformed sent.note f → IsFlightOf s.memory.world.store f
flight-out opening s seats seat sent f fit is p =
    let a = fit.notes.stored.each_note seat sent.note (note-here seats seat sent is) in
    let mine : f.seat ≡ seat = p.seat ∙ a.mine in
    record {
      origin = p.origin ∙ a.origin;
      out = record {
        bay = ap (bay_at s.memory.world.store.bays) p.number ∙ a.out.bay ∙ ap out (sym mine);
        holder = ap (λ (k : ℕ). (row_at s.memory.world.store.rows k).holder) p.frame ∙ a.out.holder ∙ ap (λ (k : ℕ). Some k) (sym mine);
        page = λ there. ap (λ (k : ℕ). name_at s.memory.world.store.names (own_frame s.memory.world.store k)) p.frame ∙ a.out.page (ap (λ (k : ℕ). (row_at s.memory.world.store.rows k).gone) (sym p.frame) ∙ there) ∙ ap (λ (n : PageName). Some n) (sym p.name);
        read = λ reads. ap (λ (k : ℕ). (row_at s.memory.world.store.rows k).source) p.frame ∙ a.out.read (sym p.direction ∙ reads);
      };
    }

-- The world's step as the flight comes back that a note is performed by.
abbrev pub ComesHome : KernelState → World → FlightSeen → Type 0
ComesHome s new f =
    (notes : Notes) (note : Note) → MemoryFits s.memory → NotesFit s.memory.world notes → notes f.seat ≡ Some note → IsPerformed note f → WorldStep s.memory.world new s.memory.spaces (returns f.seat note) (λ name. false)

-- THE STATE WHOSE MARKS are as the push left them: what is said of it as the flight lands, is said of the state before.
abbrev pub marked : KernelState → ℕ → FlightSeen → KernelState
marked s seat f = record s { marks = marks_landed s.marks seat f (length s.history) }

pub marked-lands : (s u v : KernelState) (seat : ℕ) (f : FlightSeen) → u ≡ marked s seat f → v ≡ after_step u v.memory.world u.pending → v ≡ after_step (marked s seat f) v.memory.world s.pending
marked-lands s u v seat f is lands = lands ∙ ap (λ (x : KernelState). after_step x v.memory.world x.pending) is

pub marked-steps : (s u : KernelState) (new : World) (seat : ℕ) (f : FlightSeen) → u ≡ marked s seat f → ComesHome u new f → ComesHome s new f
marked-steps s u new seat f is step = subst (λ (x : KernelState). ComesHome x new f) is step

-- EVENTS. What comes back is the flight of the seat's note.
module _ (s : KernelState) (new : World) (seat : ℕ) (f : FlightSeen) (step : ComesHome s new f)
    (disk : bay_at new.store.bays f.number ≡ home f.disk) (top : f.disk.faults ≤ top_count) where
  mine : (opening : Flat) (seats : Seats) (sent : Sent) → StateFits opening s seats → seats seat ≡ Some sent → IsPerformed sent.note f → f.seat ≡ seat
  mine opening seats sent fit is p = p.seat ∙ (fit.notes.stored.each_note seat sent.note (note-here seats seat sent is)).mine

  world-step : (opening : Flat) (seats : Seats) (sent : Sent) → StateFits opening s seats → seats seat ≡ Some sent → IsPerformed sent.note f → WorldStep s.memory.world new s.memory.spaces (returns seat sent.note) (λ name. false)
  world-step opening seats sent fit is p =
      let own = mine opening seats sent fit is p in
      subst (λ (k : ℕ). WorldStep s.memory.world new s.memory.spaces (returns k sent.note) (λ name. false)) own
      (step (notes_of seats) sent.note fit.memory fit.notes (subst (λ (k : ℕ). notes_of seats k ≡ Some sent.note) (sym own) (note-here seats seat sent is)) p)

  pends : PendsTails s.memory.world (λ name. false) s.pending s.pending
  pends = record { bits = λ g lt. or-false (is_bit_set s.pending g); below = λ h. h }
    where
      or-false : (b : Bool) → b ≡ (b || false)
      or-false true = refl
      or-false false = refl

  comes : (sent : Sent) → IsPerformed sent.note f → ComesBack sent.note f new
  comes sent p = record { performed = p; disk = ap (bay_at new.store.bays) (sym p.number) ∙ disk; most = top }

  -- the marks as they are left are as the note says
  ended-landed : (sent : Sent) → IsPerformed sent.note f → marks_ended s.marks seat sent.note (length s.history) f ≡ marks_landed s.marks seat f (length s.history)
  ended-landed sent p =
      ap (λ (x : Bool × ℕ). cond (x.0 && not (x.1 == 64)) (marks_by s.marks seat sent.note (length s.history) f f.outcome) s.marks) (λ i. (sym p.direction i, (sym p.name i).object))
      ∙ by_test (f.writes && not (f.name.object == 64))
    where
      by_outcome : (o : Progress) → marks_by s.marks seat sent.note (length s.history) f o ≡ marks_after_push s.marks seat f f.block (length s.history) o
      by_outcome fresh = refl
      by_outcome done = ap (λ (x : ℕ × ℕ). marks_written s.marks seat x.0 x.1) (λ i. (sym p.number i, sym p.block i))
      by_outcome failed = ap (λ (x : ℕ × ℕ). marks_spoiled s.marks seat x.0 x.1 (length s.history) f.before f.disk.faults) (λ i. (sym p.number i, sym p.block i))

      by_test : (b : Bool) → cond b (marks_by s.marks seat sent.note (length s.history) f f.outcome) s.marks
          ≡ option_map_or (λ (page : PageName × ℕ). marks_after_push s.marks seat f page.1 (length s.history) f.outcome) (cond b (Some (f.name, f.block)) None) s.marks
      by_test true = by_outcome f.outcome
      by_test false = refl

  -- the state as the flight leaves it
  abbrev pub landed : KernelState
  landed = record (after_step s new s.pending) { marks = marks_landed s.marks seat f (length s.history) }

  returned : (sent : Sent) → IsPerformed sent.note f → after_return s new s.pending seat sent.note f ≡ landed
  returned sent p = ap (λ (m : MarksSeen). record (after_step s new s.pending) { marks = m }) (ended-landed sent p)

  -- without an entry
  quiet-at : (opening : Flat) (seats : Seats) (sent : Sent) → StateFits opening s seats → seats seat ≡ Some sent → IsPerformed sent.note f → IsEvent seat s (Some sent) landed None
  quiet-at opening seats sent fit is p =
      subst (λ (x : KernelState). IsEvent seat s (Some sent) x None) (returned sent p)
      (state_rule.ends s new (λ name. false) s.pending seat sent f (world-step opening seats sent fit is p) pends (comes sent p))

  pub quiet-end : (opening : Flat) (seats : Seats) (mine : Sent) → StateFits opening s seats → seats seat ≡ Some mine → IsPerformed mine.note f
      → (sent : Sent) → IsPerformed sent.note f → IsEvent seat s (Some sent) landed None
  quiet-end opening seats own fit is p sent q = record {
    fits = λ o x here fits. (quiet-at o x sent fits here q).fits o x here fits;
    fixed = (quiet-at opening seats own fit is p).fixed;
    disks = λ o x here fits. (quiet-at o x sent fits here q).disks o x here fits;
    accounts = λ o x here fits. (quiet-at o x sent fits here q).accounts o x here fits;
    grown = (quiet-at opening seats own fit is p).grown;
    follows = (quiet-at opening seats own fit is p).follows;
  }

  -- with the entry of its error
  failed-at : (opening : Flat) (seats : Seats) (sent : Sent) (q : ℕ) (call : Call) (calls : List (Option ℕ)) (syncs : List (Option SyncStart)) → StateFits opening s seats → seats seat ≡ Some sent → IsPerformed sent.note f → sent.of ≡ Some (q, call) → f.outcome ≡ failed
      → LocksAfter (io_entry q call f.number f.before f.disk.faults s.pending) s.calls calls → StartsAfter (io_entry q call f.number f.before f.disk.faults s.pending) s.syncs syncs → length syncs ≡ length s.syncs
      → IsEvent seat s (Some sent) (with_entry_made landed (io_entry q call f.number f.before f.disk.faults s.pending) calls syncs) None
  failed-at opening seats sent q call calls syncs fit is p for_call bad locks starts count =
      subst (λ (x : KernelState). IsEvent seat s (Some sent) (with_entry_made x (io_entry q call f.number f.before f.disk.faults s.pending) calls syncs) None) (returned sent p)
      (failure_rule.fails s new (λ name. false) s.pending seat q call sent f calls syncs (world-step opening seats sent fit is p) pends for_call (fit.plans.sent seat sent (q, call) is for_call).own (comes sent p) bad locks starts count)

  pub failed-end : (opening : Flat) (seats : Seats) (own : Sent) (q : ℕ) (call : Call) (calls : List (Option ℕ)) (syncs : List (Option SyncStart)) → StateFits opening s seats → seats seat ≡ Some own → IsBack own f (Some (q, call)) → f.outcome ≡ failed
      → LocksAfter (io_entry q call f.number f.before f.disk.faults s.pending) s.calls calls → StartsAfter (io_entry q call f.number f.before f.disk.faults s.pending) s.syncs syncs → length syncs ≡ length s.syncs
      → (sent : Sent) → IsBack sent f (Some (q, call)) → IsEvent seat s (Some sent) (with_entry_made landed (io_entry q call f.number f.before f.disk.faults s.pending) calls syncs) None
  failed-end opening seats own q call calls syncs fit is b bad locks starts count sent c = record {
    fits = λ o x here fits. (failed-at o x sent q call calls syncs fits here c.performed c.same bad locks starts count).fits o x here fits;
    fixed = (failed-at opening seats own q call calls syncs fit is b.performed b.same bad locks starts count).fixed;
    disks = λ o x here fits. (failed-at o x sent q call calls syncs fits here c.performed c.same bad locks starts count).disks o x here fits;
    accounts = λ o x here fits. (failed-at o x sent q call calls syncs fits here c.performed c.same bad locks starts count).accounts o x here fits;
    grown = (failed-at opening seats own q call calls syncs fit is b.performed b.same bad locks starts count).grown;
    follows = (failed-at opening seats own q call calls syncs fit is b.performed b.same bad locks starts count).follows;
  }

-- THE STATE WITH THE ENTRY, once the file was released and the entry added.
pub ended : (s u v w : KernelState) (new : World) (seat p : ℕ) (call : Call) (reply : Reply) → u ≡ after_step s new s.pending → v ≡ record u { calls = calls_without seat (part_file call) u.calls }
    → w ≡ with_next_entry v (record { process = p; call = call; reply = reply; cleared = v.pending })
    → w ≡ with_entry_made (after_step s new s.pending) (record { process = p; call = call; reply = reply; cleared = s.pending }) (calls_without seat (part_file call) s.calls) (slice_set s.syncs (p - 1) None)
ended s u v w new seat p call reply at_u at_v at_w =
    at_w ∙ ap (λ (x : KernelState). with_next_entry x (record { process = p; call = call; reply = reply; cleared = x.pending })) (at_v ∙ ap (λ (x : KernelState). record x { calls = calls_without seat (part_file call) x.calls }) at_u)

pub added : (s w : KernelState) (seat : ℕ) (f : FlightSeen) (new : World) (e : Entry) (calls : List (Option ℕ)) (syncs : List (Option SyncStart)) → w ≡ with_entry_made (after_step (marked s seat f) new s.pending) e calls syncs → LocksAfter e s.calls calls → StartsAfter e s.syncs syncs → AddsEntry s w e
added s w seat f new e calls syncs is locks starts = subst (λ (x : KernelState). AddsEntry s x e) (sym is) (record { history = refl; pending = refl; locks = locks; starts = starts })

-- a process's seat
pub own-seat : (F : Flat) (H : List Entry) (entries : List ℕ) (seat : ℕ) (of : Caller) → CallerFits F H entries seat of → of.0 ≡ suc seat
own-seat F H entries seat of c = by_process of.0 c.own c.room
  where
    by_process : (p : ℕ) → seat_of p ≡ seat → length (entries_of H p) < room_of entries p → p ≡ suc seat
    by_process zero own room = absurd (let z : length (entries_of H 0) < 0 = room in omega (arith, z))
    by_process (suc q) own room = ap suc own
