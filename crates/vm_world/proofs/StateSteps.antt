-- A step of the world is an event.
use Rattle.page_store.proofs.TransferLemmas.{home-within as home-below, out-within as out-below}
use Rattle.std.proofs.Common.{◌≡◌, ◌≢◌, ℕ, ◌<◌, ◌≤◌, ◌==◌, ◌^◌, Bool, true, false, cond, List, [], ◌++◌, length, Option, Some, None, refl, sym, ap, ◌∙◌, inl, inr, subst, arith}
use Rattle.std.specs.Prelude.{◌&&◌, not, option_map, slice_set, All, IsSome, is_some}
use Rattle.std.proofs.lemmas.Bool.{cases_eq}
use Rattle.std.proofs.lemmas.Bool.Decides.{eqb_tells}
use Rattle.std.proofs.lemmas.List.{append-nil, length-map, length-set, get_or-set_same, get_or-set_other}
use Rattle.std.proofs.lemmas.List.Elements.{All-nil}
use Rattle.flat_model.specs.vm_types.declared.call.Entry.{Entry}
use Rattle.page_store.specs.block_device.DiskSeen.{DiskSeen}
use Rattle.page_store.specs.page_hash.declared.PageName.{PageName}
use Rattle.page_store.specs.Bays.{BaySeen, missing, home, out, bay_at, block_of}
use Rattle.page_store.specs.Flight.{FlightSeen, Progress, fresh, done, failed}
use Rattle.page_store.specs.Notes.{Note, Notes, with_note}
use Rattle.page_store.specs.Value.{content_of, content_in_bay}
use Rattle.mark_laws.specs.disk_marks.Changes.{marks_begun}
use Rattle.mark_laws.specs.MarkLaws.{marks_by}
use Rattle.mark_laws.specs.MarksFit.{PushesFile, MarksFit, FailuresFit}
use Rattle.mark_laws.proofs.Failing.{failures_rule}
use Rattle.mark_laws.specs.AccountLaws.{TellsNoMore}
use Rattle.mark_laws.proofs.Accounts.{accounts_rule}
use Rattle.flat_model.specs.vnode_files.Vnode.{VnodeSeen}
use Rattle.flat_model.specs.Counted.{top_count}
use Rattle.flat_model.specs.Flat.{Flat, IsFlat}
use Rattle.flat_model.specs.History.{replay}
use Rattle.flat_model.specs.Step.{is_bit_set}
use Rattle.vm_world.specs.World.{World, AllTell}
use Rattle.vm_world.specs.Pages.{contents_of}
use Rattle.vm_world.specs.FlatMemory.{flat_memory, shape_of}
use Rattle.vm_world.specs.DiskPlaces.{FixedOfDisk, HasCounted, SameDisks, disk_fixed, faults_in, seen_in, seen_of_note}
use Rattle.vm_world.specs.HistoryFits.{HistoryFits, FaultsFit}
use Rattle.vm_world.specs.Marks.{MarksSeen}
use Rattle.vm_world.specs.MarksOf.{MarksOf, FailuresOf, MaySend, marks_left, marks_ended}
use Rattle.vm_world.specs.MemoryFits.{MemoryFits}
use Rattle.vm_world.specs.NotesFit.{NotesFit}
use Rattle.vm_world.specs.Plans.{CanRunPlan, MayMeetFault}
use Rattle.vm_world.specs.State.{KernelState, Seats, Sent, Caller, KeptPlan, notes_of, with_sent, fixed_of, seat_of}
use Rattle.vm_world.specs.StateFits.{StateFits, CallerFits, PlanFits}
use Rattle.vm_world.specs.Events.{IsEvent, KeepsAccounts, CanTry, moment_of}
use Rattle.vm_world.specs.StateMarks.{PagesFit}
use Rattle.vm_world.specs.StateSteps.{after_step, after_leaving, after_return, PendsTails, ComesBack, StateRule}
use Rattle.vm_world.specs.WorldSteps.{Trip, stays, leaves, returns, HasTrip, notes_after, WorldStep, tails_lost}
use Rattle.flat_model.proofs.WellFormed.{IsFlat-tails_cleared}
use Rattle.vm_world.proofs.Entries.{entry-tails, length-cleared}
use Rattle.vm_world.proofs.Shapes.{follows-kept}
use Rattle.vm_world.proofs.FilePages.{length-files_with_pages}
use Rattle.vm_world.proofs.FrameRule.{frame-flat}
use Rattle.vm_world.proofs.FlatWhole.{some-inj}
use Rattle.vm_world.proofs.Callers.{caller-kept, same-modes}
use Rattle.vm_world.proofs.MayFails.{alive-flat}
use Rattle.vm_world.proofs.Contents.{content-leaves}
use Rattle.vm_world.proofs.Moving.{performed-tells, state_marks_rule}
use Rattle.vm_world.proofs.Failed.{state_failures_rule}
use Rattle.vm_world.proofs.AccountsReturned.{accounts-return}
use Rattle.vm_world.proofs.BlockAccounts.{keeps-accounts}
use Rattle.vm_world.proofs.PageNames.{not-slot}

-- the notes of seats one of which has something else outside
notes-with : (seats : Seats) (seat : ℕ) (sent : Option Sent) → notes_of (with_sent seats seat sent) ≡ with_note (notes_of seats) seat (option_map (λ (s : Sent). s.note) sent)
notes-with seats seat sent = λ i k. by_seat (k == seat) k i
  where
    by_seat : (b : Bool) (k : ℕ) → option_map (λ (s : Sent). s.note) (cond b sent (seats k)) ≡ cond b (option_map (λ (s : Sent). s.note) sent) (option_map (λ (s : Sent). s.note) (seats k))
    by_seat true k = refl
    by_seat false k = refl

-- a seat that has what it had
pub same-seats : (seats : Seats) (seat : ℕ) (sent : Option Sent) → seats seat ≡ sent → with_sent seats seat sent ≡ seats
same-seats seats seat sent is = λ i k. by_seat k i
  where
    by_seat : (k : ℕ) → cond (k == seat) sent (seats k) ≡ seats k
    by_seat k = elim (eqb_tells k seat) [
      | inl y ↦ ap (λ (b : Bool). cond b sent (seats k)) y.0 ∙ sym is ∙ ap seats (sym y.1)
      | inr n ↦ ap (λ (b : Bool). cond b sent (seats k)) n.0
    ]

-- what another seat has
other-seat : (seats : Seats) (seat k : ℕ) (sent : Option Sent) → k ≢ seat → with_sent seats seat sent k ≡ seats k
other-seat seats seat k sent far = elim (eqb_tells k seat) [ inl y ↦ absurd (far y.1) | inr n ↦ ap (λ (b : Bool). cond b sent (seats k)) n.0 ]

pub this-seat : (seats : Seats) (seat : ℕ) (sent : Option Sent) → with_sent seats seat sent seat ≡ sent
this-seat seats seat sent = elim (eqb_tells seat seat) [ inl y ↦ ap (λ (b : Bool). cond b sent (seats seat)) y.0 | inr n ↦ absurd (n.1 refl) ]

-- what never changes of the disk of a number, wherever it is
abbrev pub disk_there : KernelState → Seats → ℕ → Option FixedOfDisk
disk_there s seats number = seen_in disk_fixed (bay_at s.memory.world.store.bays number) (notes_of seats)

-- no disk moves
pub disks-still : (s t : KernelState) (seat : ℕ) (sent : Option Sent) → t.memory.world.store.bays ≡ s.memory.world.store.bays → (seats : Seats) → seats seat ≡ sent
    → SameDisks s.memory.world.store.bays (notes_of seats) t.memory.world.store.bays (notes_of (with_sent seats seat sent))
disks-still s t seat sent bays seats is number =
    ap (λ (x : Seats). disk_there t x number) (same-seats seats seat sent is) ∙ ap (λ (b : List BaySeen). seen_in disk_fixed (bay_at b number) (notes_of seats)) bays

-- .. and each block is accounted for: no entry cuts a block off, and no mark tells of another failure
pub accounts-still : (opening : Flat) (s t : KernelState) (seat : ℕ) (sent : Option Sent) (added : List Entry) → t.history ≡ s.history ++ added → TellsNoMore s.marks t.marks → t.memory.world.store.bays ≡ s.memory.world.store.bays
    → (seats : Seats) → seats seat ≡ sent → (AllTell t.memory.world (notes_of seats) → AllTell s.memory.world (notes_of seats)) → KeepsAccounts opening s (notes_of seats) t (notes_of (with_sent seats seat sent))
accounts-still opening s t seat sent added long less bays seats is tells =
    subst (λ (x : Seats). KeepsAccounts opening s (notes_of seats) t (notes_of x)) (sym (same-seats seats seat sent is))
    (keeps-accounts opening s t (notes_of seats) (notes_of seats) (λ tell. (
      tells tell,
      accounts_rule.still opening (moment_of s (notes_of seats)) (moment_of t (notes_of seats)) added long
          (λ disk block low. ap (λ (b : List BaySeen). block_of (content_in_bay (bay_at b disk) (notes_of seats)) block) bays)
          (λ disk count at. (count, ap (λ (b : List BaySeen). faults_in (bay_at b disk) (notes_of seats)) bays ∙ at, omega arith)) less,
    )))

no-more : (m : MarksSeen) → TellsNoMore m m
no-more m disk block is = is

module _ (s : KernelState) (new : World) (trip : Trip) (cut : PageName → Bool) (pending : ℕ) (step : WorldStep s.memory.world new s.memory.spaces trip cut) (tails : PendsTails s.memory.world cut s.pending pending) where
  fixed-same : fixed_of (after_step s new pending) ≡ fixed_of s
  fixed-same = λ i. record {
    core = step.core i;
    frames = step.frames i;
    slots = length (step.tables.counts i);
    disks = step.tables.disks i;
    files = same-modes s.memory.world new step.tables i;
    seats = length s.syncs;
    parents = s.parents;
    entries = s.entries;
  }

  pub caller-step : (before after : Notes) (seat : ℕ) (of : Caller) → CallerFits (flat_memory s.memory s.born before) s.history s.entries seat of → CallerFits (flat_memory (after_step s new pending).memory s.born after) s.history s.entries seat of
  caller-step before after seat of c = caller-kept s.memory (record s.memory { world = new }) s.born s.born before after s.history s.entries seat of refl (same-modes s.memory.world new step.tables) c

  -- the history leaves as many files as there are
  files : (opening : Flat) (notes : Notes) → HistoryFits opening s.history s.pending (flat_memory s.memory s.born notes) → length (flat_memory s.memory s.born notes).files ≡ length s.memory.world.files.files
      → length (replay opening s.history).files ≡ length s.memory.world.files.files
  files opening notes h count = sym (length-cleared (is_bit_set s.pending) (replay opening s.history).files) ∙ sym (ap (λ (F : Flat). length F.files) h.shows) ∙ count

  history-kept : (opening : Flat) (notes : Notes) → MemoryFits s.memory → HasTrip trip notes → NotesFit s.memory.world notes
      → (AllTell s.memory.world notes → HistoryFits opening s.history s.pending (flat_memory s.memory s.born notes))
      → AllTell new (notes_after trip notes) → HistoryFits opening s.history pending (flat_memory (after_step s new pending).memory s.born (notes_after trip notes))
  history-kept opening notes fits has nf replays tell =
      let old = (step.tells notes has nf).1 tell in
      let h = replays old in
      let whole : IsFlat (flat_memory s.memory s.born notes) = subst IsFlat (sym h.shows) (IsFlat-tails_cleared (replay opening s.history) (is_bit_set s.pending) h.whole) in
      let count : length (flat_memory s.memory s.born notes).files ≡ length s.memory.world.files.files = length-files_with_pages (contents_of s.memory.world notes).file 0 (shape_of s.memory).files ∙ length-map s.memory.world.files.files (λ (v : VnodeSeen). v.info) in
      subst (λ (F : Flat). HistoryFits opening s.history pending F)
      (sym (frame-flat s.memory.world new s.memory.spaces trip cut s.born notes fits step has nf old whole))
      (entry-tails opening s.history s.pending pending (flat_memory s.memory s.born notes) (tails_lost s.memory.world cut) h
      (λ f lt. tails.bits f (omega (arith, lt, count))) (subst (λ (n : ℕ). pending < 2 ^ n) (sym count) (tails.below (subst (λ (n : ℕ). s.pending < 2 ^ n) (files opening notes h count) h.bits))))

  -- the state after the step, with no plan and these marks
  event-state : (opening : Flat) (seats seats' : Seats) (m : MarksSeen) → notes_of seats' ≡ notes_after trip (notes_of seats) → HasTrip trip (notes_of seats)
      → FaultsFit s.history new.store.bays (notes_after trip (notes_of seats))
      → MarksOf opening (after_step s new pending) seats' m → FailuresOf (after_step s new pending) seats' m → length m.pushes ≡ length s.marks.pushes
      → ((k : ℕ) (sent : Sent) (of : Caller) → seats' k ≡ Some sent → sent.of ≡ Some of → CallerFits (flat_memory s.memory s.born (notes_of seats)) s.history s.entries k of)
      → StateFits opening s seats → StateFits opening (record (after_step s new pending) { marks = m }) seats'
  event-state opening seats seats' m same has faults told counts pushes callers fit = record {
    memory = step.memory;
    notes = subst (λ (n : Notes). NotesFit new n) (sym same) (step.notes (notes_of seats) has fit.notes);
    replays = subst (λ (n : Notes). AllTell new n → HistoryFits opening s.history pending (flat_memory (after_step s new pending).memory s.born n)) (sym same)
        (history-kept opening (notes_of seats) fit.memory has fit.notes fit.replays);
    faults = subst (λ (n : Notes). FaultsFit s.history new.store.bays n) (sym same) faults;
    calls = fit.calls;
    rooms = fit.rooms;
    births = fit.births;
    plans = record {
      plan = λ kept is. absurd (let z : ◌≡◌ {A = Option KeptPlan} None (Some kept) = is in cc);
      planned = λ kept of is _. absurd (let z : ◌≡◌ {A = Option KeptPlan} None (Some kept) = is in cc);
      sent = λ k sent of is for_call. caller-step (notes_of seats) (notes_of seats') k of (callers k sent of is for_call);
    };
    marks = told;
    failures = counts;
    pushes = pushes ∙ fit.pushes;
  }

-- WHERE THE DISKS STAY, and the history and the marks, the marks stay true.
pub marks-stay : (opening : Flat) (s t : KernelState) (seats : Seats) → t.history ≡ s.history → t.memory.world.store.bays ≡ s.memory.world.store.bays
    → (AllTell t.memory.world (notes_of seats) → AllTell s.memory.world (notes_of seats)) → (m : MarksSeen) → MarksOf opening s seats m → MarksOf opening t seats m
marks-stay opening s t seats history bays tells m told tell =
    subst (λ (H : List Entry). MarksFit opening H (content_of t.memory.world.store (notes_of seats)) (notes_of seats) m) (sym history)
    (subst (λ (b : List BaySeen). MarksFit opening s.history (λ disk. content_in_bay (bay_at b disk) (notes_of seats)) (notes_of seats) m) (sym bays) (told (tells tell)))

pub failures-stay : (s t : KernelState) (seats : Seats) → t.memory.world.store.bays ≡ s.memory.world.store.bays → (m : MarksSeen) → FailuresOf s seats m → FailuresOf t seats m
failures-stay s t seats bays m counts = subst (λ (b : List BaySeen). FailuresFit (λ disk. faults_in (bay_at b disk) (notes_of seats)) m) (sym bays) counts

-- what the marks stand on
pub pages-fit : (opening : Flat) (s : KernelState) (seats : Seats) → StateFits opening s seats → PagesFit opening s seats
pages-fit opening s seats fit = record { memory = fit.memory; notes = fit.notes; replays = fit.replays }

pub no-entries : (H : List Entry) (seat : ℕ) → (added : List Entry) × (H ≡ H ++ added) × All (λ (e : Entry). seat_of e.process ≡ seat) added
no-entries H seat = ([], sym (append-nil H), All-nil (λ (e : Entry). seat_of e.process ≡ seat))

-- NOTHING LEAVES.
calm-state : (s : KernelState) (new : World) (cut : PageName → Bool) (pending : ℕ) → WorldStep s.memory.world new s.memory.spaces stays cut → PendsTails s.memory.world cut s.pending pending → (opening : Flat) (seats : Seats) → StateFits opening s seats → StateFits opening (after_step s new pending) seats
calm-state s new cut pending step tails opening seats fit =
    event-state s new stays cut pending step tails opening seats seats s.marks refl tt (subst (λ (b : List BaySeen). FaultsFit s.history b (notes_of seats)) (sym step.bays) fit.faults)
    (marks-stay opening s (after_step s new pending) seats refl step.bays (λ tell. (step.tells (notes_of seats) tt fit.notes).1 tell) s.marks fit.marks)
    (failures-stay s (after_step s new pending) seats step.bays s.marks fit.failures) refl (λ k x of at for_call. fit.plans.sent k x of at for_call) fit

pub rule-calm : (s : KernelState) (new : World) (cut : PageName → Bool) (pending seat : ℕ) (sent : Option Sent) → WorldStep s.memory.world new s.memory.spaces stays cut → PendsTails s.memory.world cut s.pending pending → IsEvent seat s sent (after_step s new pending) sent
rule-calm s new cut pending seat sent step tails = record {
  fits = λ opening seats is fit. subst (λ (x : Seats). StateFits opening (after_step s new pending) x) (sym (same-seats seats seat sent is)) (calm-state s new cut pending step tails opening seats fit);
  fixed = fixed-same s new stays cut pending step tails;
  disks = λ opening seats is fit. disks-still s (after_step s new pending) seat sent step.bays seats is;
  grown = no-entries s.history seat;
  follows = λ opening was. follows-kept opening s new pending step.tables was;
  accounts = λ opening seats is fit. accounts-still opening s (after_step s new pending) seat sent [] (sym (append-nil s.history)) (no-more s.marks) step.bays seats is (λ tell. (step.tells (notes_of seats) tt fit.notes).1 tell);
}

-- A PLAN IS KEPT.
pub rule-plans : (s : KernelState) (new : World) (cut : PageName → Bool) (pending : ℕ) (kept : KeptPlan) → WorldStep s.memory.world new s.memory.spaces stays cut → PendsTails s.memory.world cut s.pending pending → CanRunPlan (record s.memory { world = new }) kept.of kept.plan → kept.seat < length s.syncs
    → ((of : Caller) → kept.of ≡ Some of → CanTry s kept.seat of.0 of.1 × MayMeetFault (record s.memory { world = new }) of.0 of.1) → IsEvent kept.seat s None (record (after_step s new pending) { plan = Some kept }) None
rule-plans s new cut pending kept step tails runs seated may = record {
  fits = λ opening seats is fit. subst (λ (x : Seats). StateFits opening (record (after_step s new pending) { plan = Some kept }) x) (sym (same-seats seats kept.seat None is)) (state opening seats is fit);
  fixed = fixed-same s new stays cut pending step tails;
  disks = λ opening seats is fit. disks-still s (record (after_step s new pending) { plan = Some kept }) kept.seat None step.bays seats is;
  grown = no-entries s.history kept.seat;
  follows = λ opening was. let f = follows-kept opening s new pending step.tables was in record { shape = f.shape; refusals = f.refusals };
  accounts = λ opening seats is fit.
      accounts-still opening s (record (after_step s new pending) { plan = Some kept }) kept.seat None [] (sym (append-nil s.history)) (no-more s.marks) step.bays seats is (λ tell. (step.tells (notes_of seats) tt fit.notes).1 tell);
}
  where
    caller : (notes : Notes) (of : Caller) → kept.of ≡ Some of → CallerFits (flat_memory (record s.memory { world = new }) s.born notes) s.history s.entries kept.seat of
    caller notes of is = let m = may of is in record {
      own = m.0.own;
      alive = (alive-flat (shape_of (record s.memory { world = new })) s.born (contents_of new notes) of.0).1 m.0.alive;
      room = m.0.room;
      fails = m.1 s.born notes;
      follows = m.0.follows;
    }

    state : (opening : Flat) (seats : Seats) → seats kept.seat ≡ None → StateFits opening s seats → StateFits opening (record (after_step s new pending) { plan = Some kept }) seats
    state opening seats is fit =
        let calm = calm-state s new cut pending step tails opening seats fit in
        record {
          memory = calm.memory;
          notes = calm.notes;
          replays = calm.replays;
          faults = calm.faults;
          calls = calm.calls;
          rooms = calm.rooms;
          births = calm.births;
          plans = record {
            plan = λ k at. subst (λ (x : KeptPlan). PlanFits (record (after_step s new pending) { plan = Some kept }) seats x) (some-inj kept k at) (record { may = runs.may; ready = runs.ready; frame = runs.frame; seated = seated; idle = is });
            planned = λ k of at for_call. subst (λ (x : KeptPlan). CallerFits (flat_memory (record s.memory { world = new }) s.born (notes_of seats)) s.history s.entries x.seat of) (some-inj kept k at)
                (caller (notes_of seats) of (ap (λ (x : KeptPlan). x.of) (some-inj kept k at) ∙ for_call));
            sent = calm.plans.sent;
          };
          marks = calm.marks;
          failures = calm.failures;
          pushes = calm.pushes;
        }

-- what is seen of the disks as one leaves: the note has it
module _ {X : Type 0} (seen : DiskSeen → X) (bays new : List BaySeen) (notes : Notes) (seat : ℕ) (note : Note) (idle : notes seat ≡ None) (noted : (k t : ℕ) → bay_at bays k ≡ out t → IsSome (notes t))
    (was : bay_at bays note.number ≡ home note.disk) (set : new ≡ slice_set bays note.number (out seat)) where
  this-note : (m : Option Note) → with_note notes seat m seat ≡ m
  this-note m = elim (eqb_tells seat seat) [ inl y ↦ ap (λ (b : Bool). cond b m (notes seat)) y.0 | inr n ↦ absurd (n.1 refl) ]

  other-bay : (k : ℕ) (b : BaySeen) → bay_at bays k ≡ b → seen_in seen b (with_note notes seat (Some note)) ≡ seen_in seen b notes
  other-bay k missing e = refl
  other-bay k (home d) e = refl
  other-bay k (out t) e = ap (seen_of_note seen) (elim (eqb_tells t seat) [
    | inl y ↦ absurd (let z : IsSome (notes t) = noted k t e in let z' : ◌≡◌ {A = Bool} false true = sym (ap is_some (ap notes y.1 ∙ idle)) ∙ z in cc)
    | inr n ↦ ap (λ (b : Bool). cond b (Some note) (notes t)) n.0
  ])

  seen-leaves : (disk : ℕ) → seen_in seen (bay_at new disk) (with_note notes seat (Some note)) ≡ seen_in seen (bay_at bays disk) notes
  seen-leaves disk = ap (λ (b : List BaySeen). seen_in seen (bay_at b disk) (with_note notes seat (Some note))) set ∙ elim (cases_eq disk note.number) [
    | inl e ↦
        subst (λ (k : ℕ). seen_in seen (bay_at (slice_set bays note.number (out seat)) k) (with_note notes seat (Some note)) ≡ seen_in seen (bay_at bays k) notes) (sym e)
        (ap (λ (b : BaySeen). seen_in seen b (with_note notes seat (Some note))) (get_or-set_same bays note.number (out seat) missing (home-below bays note.number note.disk was)) ∙ ap (seen_of_note seen) (this-note (Some note)) ∙ sym (ap (λ (b : BaySeen). seen_in seen b notes) was))
    | inr ne ↦ ap (λ (b : BaySeen). seen_in seen b (with_note notes seat (Some note))) (get_or-set_other bays note.number disk (out seat) missing ne) ∙ other-bay disk (bay_at bays disk) refl
  ]

-- a disk that is there counted so many faults still, where its count is the same
same-count : (bays new : List BaySeen) (before after : Notes) (disk least : ℕ) → faults_in (bay_at new disk) after ≡ faults_in (bay_at bays disk) before → HasCounted bays before disk least → HasCounted new after disk least
same-count bays new before after disk least same h = record { count = h.count; there = same ∙ h.there; enough = h.enough }

-- the counts of faults as a disk leaves
faults-leave : (H : List Entry) (bays new : List BaySeen) (notes : Notes) (seat : ℕ) (note : Note) → notes seat ≡ None → ((k t : ℕ) → bay_at bays k ≡ out t → IsSome (notes t)) → bay_at bays note.number ≡ home note.disk → new ≡ slice_set bays note.number (out seat)
    → FaultsFit H bays notes → FaultsFit H new (with_note notes seat (Some note))
faults-leave H bays new notes seat note idle noted was set f = record {
  counted = f.counted;
  reached = λ k e disk before after at is. same-count bays new notes (with_note notes seat (Some note)) disk after (same disk) (f.reached k e disk before after at is);
  most = λ disk count has. f.most disk count (sym (same disk) ∙ has);
}
  where
    same : (disk : ℕ) → faults_in (bay_at new disk) (with_note notes seat (Some note)) ≡ faults_in (bay_at bays disk) notes
    same = seen-leaves (λ disk. disk.faults) bays new notes seat note idle noted was set

-- A FLIGHT LEAVES.
rule-begins : (s : KernelState) (new : World) (cut : PageName → Bool) (pending seat : ℕ) (sent : Sent) (kept : KeptPlan) → WorldStep s.memory.world new s.memory.spaces (leaves seat sent.note) cut → PendsTails s.memory.world cut s.pending pending
    → s.plan ≡ Some kept → kept.seat ≡ seat → kept.of ≡ sent.of → MaySend s.memory.world sent.note → IsEvent seat s None (after_leaving s new pending seat sent.note) (Some sent)
rule-begins s new cut pending seat sent kept step tails plan mine of_is sends = record {
  fits = λ opening seats is fit.
      let idle : notes_of seats seat ≡ None = ap (option_map (λ (x : Sent). x.note)) is in
      event-state s new (leaves seat sent.note) cut pending step tails opening seats (with_sent seats seat (Some sent)) (after_leaving s new pending seat sent.note).marks (notes-with seats seat (Some sent)) idle
      (faults-leave s.history s.memory.world.store.bays new.store.bays (notes_of seats) seat sent.note idle (noted opening seats fit) step.bays.0 step.bays.1 fit.faults)
      (marks-left opening seats is fit) (failures-left opening seats is fit) (pushes-left sent.note.writes (sent.note.name.object == 64))
      (λ k x of at for_call. elim (cases_eq k seat) [
        | inl e ↦
            let same : sent ≡ x = some-inj sent x (sym (this-seat seats seat (Some sent)) ∙ ap (with_sent seats seat (Some sent)) (sym e) ∙ at) in
            subst (λ (j : ℕ). CallerFits (flat_memory s.memory s.born (notes_of seats)) s.history s.entries j of) (mine ∙ sym e)
            (fit.plans.planned kept of plan (of_is ∙ ap (λ (y : Sent). y.of) same ∙ for_call))
        | inr ne ↦ fit.plans.sent k x of (sym (other-seat seats seat k (Some sent) ne) ∙ at) for_call
      ]) fit;
  fixed = fixed-same s new (leaves seat sent.note) cut pending step tails;
  disks = λ opening seats is fit number.
      let idle : notes_of seats seat ≡ None = ap (option_map (λ (x : Sent). x.note)) is in
      ap (λ (n : Notes). seen_in disk_fixed (bay_at new.store.bays number) n) (notes-with seats seat (Some sent))
      ∙ seen-leaves disk_fixed s.memory.world.store.bays new.store.bays (notes_of seats) seat sent.note idle (noted opening seats fit) step.bays.0 step.bays.1 number;
  grown = no-entries s.history seat;
  follows = λ opening was. let f = follows-kept opening s new pending step.tables was in record { shape = f.shape; refusals = f.refusals };
  accounts = λ opening seats is fit.
      let idle : notes_of seats seat ≡ None = ap (option_map (λ (x : Sent). x.note)) is in
      subst (λ (n : Notes). KeepsAccounts opening s (notes_of seats) (after_leaving s new pending seat sent.note) n) (sym (notes-with seats seat (Some sent)))
      (keeps-accounts opening s (after_leaving s new pending seat sent.note) (notes_of seats) (with_note (notes_of seats) seat (Some sent.note)) (λ tell. (
        (step.tells (notes_of seats) idle fit.notes).1 tell,
        accounts_rule.still opening (moment_of s (notes_of seats)) (moment_of (after_leaving s new pending seat sent.note) (with_note (notes_of seats) seat (Some sent.note))) [] (sym (append-nil s.history))
            (λ disk block low. ap (λ (c : Option (List (List ℕ))). block_of c block)
            (content-leaves s.memory.world.store.bays new.store.bays (notes_of seats) seat sent.note idle (noted opening seats fit) step.bays.0 step.bays.1 (home-below s.memory.world.store.bays sent.note.number sent.note.disk step.bays.0) disk))
            (λ disk count at. (count, seen-leaves (λ (d : DiskSeen). d.faults) s.memory.world.store.bays new.store.bays (notes_of seats) seat sent.note idle (noted opening seats fit) step.bays.0 step.bays.1 disk ∙ at, omega arith))
            (begins-no-more sent.note.writes (sent.note.name.object == 64)),
      )));
}
  where
    noted : (opening : Flat) (seats : Seats) → StateFits opening s seats → (k t : ℕ) → bay_at s.memory.world.store.bays k ≡ out t → IsSome (notes_of seats t)
    noted opening seats fit k t at = let b = fit.notes.stored.each_bay k t at in ap is_some b.1

    begins-no-more : (writes slot : Bool) → TellsNoMore s.marks (cond (writes && not slot) (marks_begun s.marks seat sent.note.name.object sent.note.name.page (length s.history)) s.marks)
    begins-no-more false slot = no-more s.marks
    begins-no-more true true = no-more s.marks
    begins-no-more true false = accounts_rule.begins s.marks seat sent.note.name.object sent.note.name.page (length s.history)

    pushes-left : (writes slot : Bool) → length (cond (writes && not slot) (marks_begun s.marks seat sent.note.name.object sent.note.name.page (length s.history)) s.marks).pushes ≡ length s.marks.pushes
    pushes-left false slot = refl
    pushes-left true true = refl
    pushes-left true false = length-set s.marks.pushes seat (Some (record { file = sent.note.name.object; page = sent.note.name.page; from = length s.history; whole = true }))

    slot-is : (o : ℕ) → o ≡ 64 → (o == 64) ≡ true
    slot-is o e = elim (eqb_tells o 64) [ inl same ↦ same.0 | inr ne ↦ absurd (ne.1 e) ]

    -- the marks as it leaves: those of a push of a file's page, or of any other transfer
    marks-left : (opening : Flat) (seats : Seats) → seats seat ≡ None → StateFits opening s seats → MarksOf opening (after_step s new pending) (with_sent seats seat (Some sent)) (marks_left s.marks seat sent.note (length s.history))
    marks-left opening seats is fit = by_write sent.note.writes (sent.note.name.object == 64) refl refl
      where
        aside : ¬ PushesFile sent.note → MarksOf opening (after_step s new pending) (with_sent seats seat (Some sent)) s.marks
        aside none = state_marks_rule.leaves opening s new cut pending seat seats sent s.marks (pages-fit opening s seats fit) fit.marks is step none

        seated : seat < length s.marks.pushes
        seated = let low = subst (λ (k : ℕ). k < length s.syncs) mine (fit.plans.plan kept plan).seated in let n = fit.pushes in omega (arith, low, n)

        by_write : (a b : Bool) → sent.note.writes ≡ a → (sent.note.name.object == 64) ≡ b → MarksOf opening (after_step s new pending) (with_sent seats seat (Some sent)) (cond (a && not b) (marks_begun s.marks seat sent.note.name.object sent.note.name.page (length s.history)) s.marks)
        by_write false b x y = aside (λ p. let z : false ≡ true = sym x ∙ p.writes in cc)
        by_write true true x y = aside (λ p. let z : false ≡ true = sym (not-slot sent.note.name.object p.far) ∙ y in cc)
        by_write true false x y = elim sends [
          | inl send ↦ state_marks_rule.begins opening s new cut pending seat seats sent s.marks (pages-fit opening s seats fit) fit.marks is seated step send
          | inr none ↦ absurd (none (record { writes = x; far = λ e. let z : false ≡ true = sym y ∙ slot-is sent.note.name.object e in cc }))
        ]

    failures-left : (opening : Flat) (seats : Seats) → seats seat ≡ None → StateFits opening s seats → FailuresOf (after_step s new pending) (with_sent seats seat (Some sent)) (marks_left s.marks seat sent.note (length s.history))
    failures-left opening seats is fit = by_write sent.note.writes (sent.note.name.object == 64)
      where
        counts : FailuresOf (after_step s new pending) (with_sent seats seat (Some sent)) s.marks
        counts = state_failures_rule.leaves opening s new cut pending seat seats sent s.marks (pages-fit opening s seats fit) fit.failures is step

        by_write : (a b : Bool) → FailuresOf (after_step s new pending) (with_sent seats seat (Some sent)) (cond (a && not b) (marks_begun s.marks seat sent.note.name.object sent.note.name.page (length s.history)) s.marks)
        by_write false b = counts
        by_write true true = counts
        by_write true false = failures_rule.begins (λ disk. faults_in (bay_at new.store.bays disk) (notes_of (with_sent seats seat (Some sent)))) s.marks seat sent.note.name.object sent.note.name.page (length s.history) counts

-- what is seen of the disks as one comes back
module _ {X : Type 0} (seen : DiskSeen → X) (bays new : List BaySeen) (notes : Notes) (seat : ℕ) (note : Note) (d : DiskSeen) (noted : notes seat ≡ Some note) (one : (k : ℕ) → bay_at bays k ≡ out seat → k ≡ note.number)
    (was : bay_at bays note.number ≡ out seat) (set : new ≡ slice_set bays note.number (home d)) where
  seen-noted : (disk : ℕ) → disk ≡ note.number → seen_in seen (bay_at bays disk) notes ≡ Some (seen note.disk)
  seen-noted disk here = ap (λ (k : ℕ). seen_in seen (bay_at bays k) notes) here ∙ ap (λ (b : BaySeen). seen_in seen b notes) was ∙ ap (seen_of_note seen) noted

  seen-back : (disk : ℕ) → disk ≡ note.number → seen_in seen (bay_at new disk) (with_note notes seat None) ≡ Some (seen d)
  seen-back disk here =
      let at : bay_at new disk ≡ home d = ap (λ (b : List BaySeen). bay_at b disk) set ∙ ap (λ (k : ℕ). bay_at (slice_set bays note.number (home d)) k) here ∙ get_or-set_same bays note.number (home d) missing (out-below bays note.number seat was) in
      ap (λ (b : BaySeen). seen_in seen b (with_note notes seat None)) at

  apart-bay : (k : ℕ) (b : BaySeen) → k ≢ note.number → bay_at bays k ≡ b → seen_in seen b (with_note notes seat None) ≡ seen_in seen b notes
  apart-bay k missing ne e = refl
  apart-bay k (home x) ne e = refl
  apart-bay k (out t) ne e = ap (seen_of_note seen) (elim (eqb_tells t seat) [
    | inl y ↦ absurd (ne (one k (e ∙ ap out y.1)))
    | inr n ↦ ap (λ (b : Bool). cond b None (notes t)) n.0
  ])

  seen-apart : (disk : ℕ) → disk ≢ note.number → seen_in seen (bay_at new disk) (with_note notes seat None) ≡ seen_in seen (bay_at bays disk) notes
  seen-apart disk ne = ap (λ (b : List BaySeen). seen_in seen (bay_at b disk) (with_note notes seat None)) set
      ∙ ap (λ (b : BaySeen). seen_in seen b (with_note notes seat None)) (get_or-set_other bays note.number disk (home d) missing ne) ∙ apart-bay disk (bay_at bays disk) ne refl

  -- all that stays of a disk is as it was
  seen-returns : seen d ≡ seen note.disk → (disk : ℕ) → seen_in seen (bay_at new disk) (with_note notes seat None) ≡ seen_in seen (bay_at bays disk) notes
  seen-returns same disk = elim (cases_eq disk note.number) [
    | inl here ↦ seen-back disk here ∙ ap Some same ∙ sym (seen-noted disk here)
    | inr ne ↦ seen-apart disk ne
  ]

-- the counts of faults as a disk comes back
faults-return : (H : List Entry) (bays new : List BaySeen) (notes : Notes) (seat : ℕ) (note : Note) (d : DiskSeen) → notes seat ≡ Some note → ((k : ℕ) → bay_at bays k ≡ out seat → k ≡ note.number) → bay_at bays note.number ≡ out seat → new ≡ slice_set bays note.number (home d)
    → note.disk.faults ≤ d.faults → d.faults ≤ top_count → FaultsFit H bays notes → FaultsFit H new (with_note notes seat None)
faults-return H bays new notes seat note d noted one was set more top f = record {
  counted = f.counted;
  reached = λ k e disk before after at is. elim (cases_eq disk note.number) [
    | inl here ↦
        let r = f.reached k e disk before after at is in
        let enough = r.enough in
        let same : r.count ≡ note.disk.faults = some-inj r.count note.disk.faults (sym r.there ∙ old-count disk here) in
        record { count = d.faults; there = back disk here; enough = omega (arith, enough, same, more) }
    | inr ne ↦ same-count bays new notes (with_note notes seat None) disk after (same disk ne) (f.reached k e disk before after at is)
  ];
  most = λ disk count has. elim (cases_eq disk note.number) [
    | inl here ↦ let now = some-inj d.faults count (sym (back disk here) ∙ has) in omega (arith, now, top)
    | inr ne ↦ f.most disk count (sym (same disk ne) ∙ has)
  ];
}
  where
    old-count : (disk : ℕ) → disk ≡ note.number → faults_in (bay_at bays disk) notes ≡ Some note.disk.faults
    old-count = seen-noted (λ disk. disk.faults) bays new notes seat note d noted one was set

    back : (disk : ℕ) → disk ≡ note.number → faults_in (bay_at new disk) (with_note notes seat None) ≡ Some d.faults
    back = seen-back (λ disk. disk.faults) bays new notes seat note d noted one was set

    same : (disk : ℕ) → disk ≢ note.number → faults_in (bay_at new disk) (with_note notes seat None) ≡ faults_in (bay_at bays disk) notes
    same = seen-apart (λ disk. disk.faults) bays new notes seat note d noted one was set

-- as many pushes are kept, or none, as there were
pushes-by : (m : MarksSeen) (seat : ℕ) (note : Note) (entries : ℕ) (f : FlightSeen) (o : Progress) → length (marks_by m seat note entries f o).pushes ≡ length m.pushes
pushes-by m seat note entries f fresh = refl
pushes-by m seat note entries f done = length-set m.pushes seat None
pushes-by m seat note entries f failed = length-set m.pushes seat None

pushes-ended : (m : MarksSeen) (seat : ℕ) (note : Note) (entries : ℕ) (f : FlightSeen) → length (marks_ended m seat note entries f).pushes ≡ length m.pushes
pushes-ended m seat note entries f = by_write note.writes (note.name.object == 64)
  where
    by_write : (a b : Bool) → length (cond (a && not b) (marks_by m seat note entries f f.outcome) m).pushes ≡ length m.pushes
    by_write false b = refl
    by_write true true = refl
    by_write true false = pushes-by m seat note entries f f.outcome

-- A FLIGHT COMES BACK.
pub rule-ends : (s : KernelState) (new : World) (cut : PageName → Bool) (pending seat : ℕ) (sent : Sent) (f : FlightSeen) → WorldStep s.memory.world new s.memory.spaces (returns seat sent.note) cut → PendsTails s.memory.world cut s.pending pending → ComesBack sent.note f new → IsEvent seat s (Some sent) (after_return s new pending seat sent.note f) None
rule-ends s new cut pending seat sent f step tails comes = record {
  fits = λ opening seats is fit.
      let noted : notes_of seats seat ≡ Some sent.note = ap (option_map (λ (x : Sent). x.note)) is in
      event-state s new (returns seat sent.note) cut pending step tails opening seats (with_sent seats seat None) (after_return s new pending seat sent.note f).marks (notes-with seats seat None) noted
      (faults-return s.history s.memory.world.store.bays new.store.bays (notes_of seats) seat sent.note step.bays.1.0 noted (λ k at. one-disk opening seats fit noted k at) step.bays.0 step.bays.1.1 later most fit.faults)
      (state_marks_rule.ends opening s new cut pending seat seats sent f s.marks (pages-fit opening s seats fit) fit.marks is step comes)
      (state_failures_rule.ends opening s new cut pending seat seats sent f s.marks (pages-fit opening s seats fit) fit.failures is step comes)
      (pushes-ended s.marks seat sent.note (length s.history) f)
      (λ k x of at for_call. elim (cases_eq k seat) [
        | inl e ↦ absurd (let z : ◌≡◌ {A = Option Sent} None (Some x) = sym (this-seat seats seat None) ∙ ap (with_sent seats seat None) (sym e) ∙ at in cc)
        | inr ne ↦ fit.plans.sent k x of (sym (other-seat seats seat k None ne) ∙ at) for_call
      ]) fit;
  fixed = fixed-same s new (returns seat sent.note) cut pending step tails;
  disks = λ opening seats is fit number.
      let noted : notes_of seats seat ≡ Some sent.note = ap (option_map (λ (x : Sent). x.note)) is in
      ap (λ (n : Notes). seen_in disk_fixed (bay_at new.store.bays number) n) (notes-with seats seat None)
      ∙ seen-returns disk_fixed s.memory.world.store.bays new.store.bays (notes_of seats) seat sent.note step.bays.1.0 noted (λ k at. one-disk opening seats fit noted k at) step.bays.0 step.bays.1.1 unchanged number;
  grown = no-entries s.history seat;
  follows = λ opening was. let f = follows-kept opening s new pending step.tables was in record { shape = f.shape; refusals = f.refusals };
  accounts = λ opening seats is fit. keeps-accounts opening s (after_return s new pending seat sent.note f) (notes_of seats) (notes_of (with_sent seats seat None))
      (accounts-return opening s new cut pending seat seats sent f (pages-fit opening s seats fit) fit.marks is step comes fit.failures);
}
  where
    home-inj : (x y : DiskSeen) → home x ≡ home y → x ≡ y
    home-inj x y is = cc

    -- the disk that comes home is the flight's
    same : step.bays.1.0 ≡ f.disk
    same = home-inj step.bays.1.0 f.disk (
        sym (get_or-set_same s.memory.world.store.bays sent.note.number (home step.bays.1.0) missing (out-below s.memory.world.store.bays sent.note.number seat step.bays.0))
        ∙ sym (ap (λ (b : List BaySeen). bay_at b sent.note.number) step.bays.1.1) ∙ comes.disk)

    later : sent.note.disk.faults ≤ step.bays.1.0.faults
    later = subst (λ (d : DiskSeen). sent.note.disk.faults ≤ d.faults) (sym same) comes.performed.later

    most : step.bays.1.0.faults ≤ top_count
    most = subst (λ (d : DiskSeen). d.faults ≤ top_count) (sym same) comes.most

    unchanged : disk_fixed step.bays.1.0 ≡ disk_fixed sent.note.disk
    unchanged = ap disk_fixed same ∙ (λ i. record { size = comes.performed.size i; kind = comes.performed.kind i; tells = performed-tells sent.note f comes.performed i })

    one-disk : (opening : Flat) (seats : Seats) → StateFits opening s seats → notes_of seats seat ≡ Some sent.note → (k : ℕ) → bay_at s.memory.world.store.bays k ≡ out seat → k ≡ sent.note.number
    one-disk opening seats fit noted k at =
        let b = fit.notes.stored.each_bay k seat at in
        let same : b.0 ≡ sent.note = some-inj b.0 sent.note (sym b.1 ∙ noted) in
        sym b.2 ∙ ap (λ (n : Note). n.number) same

pub state_rule : StateRule
state_rule = record { calm = rule-calm; plans = rule-plans; begins = rule-begins; ends = rule-ends }
