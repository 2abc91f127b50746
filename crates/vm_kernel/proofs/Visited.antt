-- What a visit leaves of a seat.
use Rattle.std.proofs.Common.{◌≡◌, ℕ, suc, ◌<◌, ◌≤◌, ◌+◌, ◌^◌, true, false, List, [], ◌∷◌, ◌++◌, Option, Some, None, Result, Ok, Err, refl, ap, sym, ◌∙◌, subst, arith, if◌then◌else◌, eqb, eq-eqb, le_refl, ◌⊎◌, inl, inr}
use Rattle.std.specs.Prelude.{All, IfSome, IsFalse, IsTrue, is_some}
use Rattle.std.proofs.lemmas.List.{append-nil}
use Rattle.std.proofs.lemmas.List.Elements.{filter-append, All-nil, All-cons}
use mathlib.Core.List.{IsPrefix}
use Rattle.kernel_lock.specs.Seats.{IsEntered, HasTried, after_enter, after_leave, after_refusal, after_tells, part_of, entries_by, empties}
use Rattle.kernel_lock.proofs.Begun.{prefix_more, prefix_self}
use Rattle.vm_core.specs.Calls.{TakesMemory}
use Rattle.vm_core.specs.fault_entry.Accesses.{IsAccess}
use Rattle.vm_core.specs.fault_entry.declared.answers.Answer.{Answer}
use Rattle.vm_core.specs.fault_entry.declared.answers.Answer.TheVariants as answer
use Rattle.vm_core.specs.flat_model.History.{is_io}
use Rattle.vm_core.specs.page_store.declared.plan.Hold.{Hold}
use Rattle.vm_core.specs.page_store.declared.plan.Hold.TheVariants as hold
use Rattle.vm_core.specs.vm_types.declared.call.Call.{Call}
use Rattle.vm_core.specs.vm_types.declared.call.Call.TheVariants.{Load, Store, Map, Unmap, Protect, Sync, Read, Write, Truncate, Fork, Exit}
use Rattle.vm_core.specs.vm_types.declared.call.Entry.{Entry}
use Rattle.vm_core.specs.vm_types.declared.call.Reply.{Reply}
use Rattle.vm_core.specs.vm_types.declared.call.Reply.TheVariants as reply
use Rattle.vm_core.specs.vm_world.ServingLaws.{done_entry}
use Rattle.vm_core.specs.vm_world.State.{KernelState, Sent, seat_of}
use Rattle.vm_kernel.specs.Callers.{SeatSeen, CallerSeen, IsIdle}
use Rattle.vm_kernel.specs.Notes.{InHand, IsSentFor}
use Rattle.vm_kernel.specs.Since.{seat_of_entry, history_of, IsSinceOpening}
use Rattle.vm_kernel.specs.Steps.{EndsFlight, IsNoteFor, IsForNone, tried_of}
use Rattle.vm_kernel.specs.Tells.{TellsTry, files_of, files_of_end, files_of_error}
use Rattle.vm_kernel.specs.Turns.{CallerGoesOn, TriesOnce, IsOneTurn, MovesHands, IsQuick, IsTurn, IsFirstHalf, IsCallDone, LacksMemory, HasMet, HasCauseFor, ShowsError, IsForCall, caller_at, quick_of, turn_of_try, turn_of_end, why_of}
use Rattle.vm_kernel.specs.Visits.{GoesOut, LeavesTelling, LeavesEnd, LeavesHand, Visit}
use Rattle.vm_kernel.specs.declared.sent.SentFlight.{SentFlight}
use Rattle.vm_kernel.specs.declared.turn.Turn.{Turn}
use Rattle.vm_kernel.specs.declared.turn.Turn.TheVariants.{Done, Again}
use Rattle.vm_kernel.specs.declared.turn.Why.{Why}
use Rattle.vm_kernel.specs.declared.turn.Why.TheVariants.{LockHeld, PageBusy, DiskOut, FileBusy, Moved}
use Rattle.vm_kernel.specs.declared.steps.Tried.{Tried}
use Rattle.vm_kernel.specs.declared.steps.Tried.TheVariants as tried
use Rattle.vm_kernel.proofs.Telling.{EndTells, HasGoneWell, TryTells, end-tells, hand-same, try-tells, well-then}

-- all entries of one seat
all-of : (k : ℕ) (es : List Entry) → All (λ (e : Entry). seat_of_entry e ≡ k) es → entries_by seat_of_entry k es ≡ es
all-of k [] all = refl
all-of k (e ∷ es) all =
    let here : seat_of_entry e ≡ k = all 0 e (omega arith) in
    let on : eqb (seat_of_entry e) k ≡ true = eq-eqb (seat_of_entry e) k here in
    rw on (ap (λ z. e ∷ z) (all-of k es (λ i d lt. all (suc i) d (omega (arith, lt)))))

-- FROM OUTSIDE TO OUTSIDE
pub visited : (opening : KernelState) (n : ℕ) (c b d : SeatSeen) (s t : KernelState) (m : Option Sent) (added : List Entry) (changes files : ℕ) → IsEntered seat_of_entry history_of IsSinceOpening opening n (part_of c) s
    → HasTried (after_enter c s) b → GoesOut b s t m changes files d → t.history ≡ s.history ++ added → All (λ (e : Entry). seat_of_entry e ≡ c.number) added → Visit c t m added changes files d
visited opening n c b d s t m added changes files came tries out longer by =
    let e : d ≡ after_tells changes files (after_leave seat_of_entry history_of (record (after_enter c s) { refused = tries.0; refused_by = tries.1 }) t m) =
    out.new ∙ ap (λ (v : SeatSeen). after_tells changes files (after_leave seat_of_entry history_of v t m)) tries.3 in
    let up = tries.2 in
    let own : entries_by seat_of_entry c.number t.history ≡ c.own ++ added =
    ap (entries_by seat_of_entry c.number) longer ∙ filter-append (λ (x : Entry). eqb (seat_of_entry x) c.number) s.history added
    ∙ ap (λ (l : List Entry). l ++ entries_by seat_of_entry c.number added) came.holds.2 ∙ ap (λ (l : List Entry). c.own ++ l) (all-of c.number added by) in
    record {
      lock = ap (λ v. v.lock) e;
      opening = ap (λ v. v.opening) e;
      seats = ap (λ v. v.seats) e;
      number = ap (λ v. v.number) e;
      outside = ap (λ v. v.inside) e;
      noted = ap (λ v. v.note) e;
      state = ap (λ v. v.state) e;
      own = ap (λ v. v.own) e ∙ own;
      seen = subst (IsPrefix c.seen) (sym (ap (λ v. v.seen) e ∙ longer)) (prefix_more c.seen s.history added came.holds.1);
      whole = subst (λ (v : SeatSeen). entries_by seat_of_entry v.number v.seen ≡ v.own) (sym e) refl;
      refused = subst (λ (v : SeatSeen). c.refused ≤ v.refused) (sym e) up;
      leaves = ap (λ v. v.leaves) e;
      told = ap (λ v. v.told) e;
      told_files = ap (λ v. v.told_files) e;
      emptied = ap (λ v. v.emptied) e;
      last = ap (λ v. v.last_emptied) e;
    }

emptied-up : (n m : Option Sent) (k : ℕ) → k ≤ (if empties n m then k + 1 else k)
emptied-up None m k = le_refl k
emptied-up (Some x) None k = omega arith
emptied-up (Some x) (Some y) k = le_refl k

-- A note that was emptied was told of.
pub tells-home : (n m : Option Sent) (k : ℕ) → (if empties n m then k + 1 else k) ≤ k + 1
tells-home None m k = omega arith
tells-home (Some x) None k = omega arith
tells-home (Some x) (Some y) k = omega arith

pub tells-none : (n m : Option Sent) (k changes : ℕ) → n ≡ None → (if empties n m then k + 1 else k) ≤ k + changes
tells-none None m k changes is = omega arith
tells-none (Some x) m k changes is = absurd (cc (is))

module _ (c d : SeatSeen) (t : KernelState) (m : Option Sent) (added : List Entry) (p : ℕ) {changes files : ℕ} (visit : Visit c t m added changes files d) where
  pub idle-then : {D : Type 0} (old new : Option (SentFlight D)) → IsIdle c p old → InHand new m → IsIdle d p new
  idle-then old new was hand = record {
    outside = visit.outside;
    low = subst (λ (k : ℕ). k < 2 ^ 32) (sym visit.number) was.low;
    own = visit.whole;
    named = subst (λ (k : ℕ). (p ≡ 0) ⊎ (p ≡ suc k)) (sym visit.number) was.named;
    hand = subst (λ (o : Option Sent). InHand new o) (sym visit.noted) hand;
  }

  pub goes-then : (if empties c.note m then c.emptied + 1 else c.emptied) ≤ c.emptied + changes → CallerGoesOn (caller_at c p) (caller_at d p)
  goes-then home = record {
    process = refl;
    number = visit.number;
    seen = visit.seen;
    own = visit.whole;
    refused = visit.refused;
    leaves = let is = visit.leaves in omega (arith, is);
    emptied = subst (λ (k : ℕ). c.emptied ≤ k) (sym visit.emptied) (emptied-up c.note m c.emptied);
    told =
        let some : d.emptied ≤ c.emptied + changes = subst (λ (k : ℕ). k ≤ c.emptied + changes) (sym visit.emptied) home in
        let is = visit.told in omega (arith, some, is);
    told_files = let is = visit.told_files in omega (arith, is);
  }

-- A REFUSED TRY
module _ (c d : SeatSeen) (by : ℕ) (p : ℕ) (is : d ≡ after_refusal c by) where
  pub idle-refused : {D : Type 0} (sent : Option (SentFlight D)) → IsIdle c p sent → IsIdle d p sent
  idle-refused sent was = subst (λ (v : SeatSeen). IsIdle v p sent) (sym is) (record { outside = was.outside; low = was.low; own = was.own; named = was.named; hand = was.hand })

  pub goes-refused : entries_by seat_of_entry c.number c.seen ≡ c.own → CallerGoesOn (caller_at c p) (caller_at d p)
  goes-refused own = subst (λ (v : SeatSeen). CallerGoesOn (caller_at c p) (caller_at v p)) (sym is) (record {
    process = refl;
    number = refl;
    seen = prefix_self c.seen;
    own = own;
    refused = omega arith;
    leaves = le_refl c.leaves;
    emptied = le_refl c.emptied;
    told = le_refl (c.told + c.emptied);
    told_files = le_refl c.told_files;
  })

  pub turn-refused : (call : Call) → IsForCall p call c.note → IsTurn (caller_at c p) call (caller_at d p) (Again LockHeld)
  turn-refused call hand = subst (λ (v : SeatSeen). IsTurn (caller_at c p) call (caller_at v p) (Again LockHeld)) (sym is) (refl, hand, omega arith)

-- A TRY
plain-reply : (c : CallerSeen) (call : Call) (d : CallerSeen) (r : Reply) → IsFalse (is_io r) → ShowsError c call d r
plain-reply c call d reply.Done plain = tt
plain-reply c call d (reply.Word w) plain = tt
plain-reply c call d (reply.Mapped a) plain = tt
plain-reply c call d (reply.Bytes l) plain = tt
plain-reply c call d (reply.Synced n) plain = tt
plain-reply c call d (reply.Signal s) plain = tt
plain-reply c call d (reply.Refused e) plain = tt
plain-reply c call d (reply.Io disk before after) plain = absurd (let z : true ≡ false = plain in cc (z))

met : (c : CallerSeen) (call : Call) (d : CallerSeen) (h : Hold) → HasMet c call d h → HasCauseFor c call d (why_of h)
met c call d (hold.Page t) has = has
met c call d (hold.Disk t) has = has
met c call d (hold.File t) has = has

for-none : (p : ℕ) (call : Call) (o : Option Sent) → o ≡ None → IsForCall p call o
for-none p call o is = subst (IsForCall p call) (sym is) tt

takes-no-access : (call : Call) → TakesMemory call → IsAccess call → ⊥
takes-no-access (Load a n) takes is = takes
takes-no-access (Store a n v) takes is = takes
takes-no-access (Map place len prot kind object offset) takes is = is
takes-no-access (Unmap a len) takes is = is
takes-no-access (Protect a len prot) takes is = is
takes-no-access (Sync a len) takes is = is
takes-no-access (Read file offset len) takes is = is
takes-no-access (Write file offset line rest) takes is = is
takes-no-access (Truncate file len) takes is = is
takes-no-access (Fork child) takes is = is
takes-no-access Exit takes is = is

-- What a try comes to, from outside to outside.
pub record Comes {E : Type 0} (c : SeatSeen) (p : ℕ) (call : Call) (d : SeatSeen) (note : Option Sent) (result : Result Tried E) : Type 0 where
  pub state : KernelState
  pub added : List Entry
  pub changes : ℕ
  pub files : ℕ
  pub visit : Visit c state note added changes files d
  pub home : (if empties c.note note then c.emptied + 1 else c.emptied) ≤ c.emptied + changes
  pub half : IsFirstHalf (caller_at c p) call (caller_at d p) (turn_of_try result)

module _ (opening : KernelState) (n : ℕ) (c b d : SeatSeen) (s : KernelState) (p : ℕ) (call : Call) (note : Option Sent) (came : IsEntered seat_of_entry history_of IsSinceOpening opening n (part_of c) s)
    (in' : HasTried (after_enter c s) b) (named : p ≡ suc c.number) (free : c.note ≡ None) (changes files : ℕ) where
  none-added : (t : KernelState) → t.history ≡ s.history → GoesOut b s t note changes files d → Visit c t note [] changes files d
  none-added t same out = visited opening n c b d s t note [] changes files came in' out (same ∙ sym (append-nil s.history)) (All-nil (λ (e : Entry). seat_of_entry e ≡ c.number))

  home-then : (if empties c.note note then c.emptied + 1 else c.emptied) ≤ c.emptied + changes
  home-then = tells-none c.note note c.emptied changes free

  told-then : d.told ≡ c.told + changes → (changes ≡ 1) ⊎ (IsAccess call × (changes ≡ 0)) → IsAccess call ⊎ (c.told < d.told)
  told-then is (inl one) = inr (omega (arith, is, one))
  told-then is (inr none) = inl none.0

  lacking-told : TakesMemory call → d.told ≡ c.told + changes → (changes ≡ 1) ⊎ (IsAccess call × (changes ≡ 0)) → c.told < d.told
  lacking-told takes is (inl one) = omega (arith, is, one)
  lacking-told takes is (inr none) = absurd (takes-no-access call takes none.0)

  told-comes : {E : Type 0} (t : KernelState) (result : Result Tried E) → TellsTry call result changes files → GoesOut b s t note changes files d → TryTells s t p call note result → Comes c p call d note result
  told-comes t (Ok (tried.Done r)) tells out ((cleared, longer), plain, none) =
      let e = done_entry p call r cleared in
      let visit = visited opening n c b d s t note (e ∷ []) changes files came in' out longer (All-cons (λ (x : Entry). seat_of_entry x ≡ c.number) e [] (ap seat_of named) (All-nil (λ (x : Entry). seat_of_entry x ≡ c.number))) in
      record {
        state = t;
        added = e ∷ [];
        changes = changes;
        files = files;
        visit = visit;
        home = home-then;
        half = record {
          entry = (cleared, visit.own);
          free = visit.noted ∙ none;
          error = plain-reply (caller_at c p) call (caller_at d p) r plain;
          told = record {
            change = told-then visit.told tells.1;
            file = let is = visit.told_files in let exact = tells.0 in omega (arith, is, exact);
          };
        };
      }
  told-comes t (Ok tried.Out) tells out (same, for') =
      let visit = none-added t same out in
      record { state = t; added = []; changes = changes; files = files; visit = visit; home = home-then; half = (visit.own ∙ append-nil c.own, subst (IsNoteFor p call) (sym visit.noted) for') }
  told-comes t (Ok (tried.Busy h)) tells out (same, holds, none) =
      let visit = none-added t same out in
      record {
        state = t;
        added = [];
        changes = changes;
        files = files;
        visit = visit;
        home = home-then;
        half = (
          visit.own ∙ append-nil c.own,
          for-none p call d.note (visit.noted ∙ none),
          met (caller_at c p) call (caller_at d p) h (record {
            leaves = let is = visit.leaves in omega (arith, is);
            state = t;
            left = visit.state;
            holds = holds;
            other = λ same'. holds.other (same' ∙ sym (ap seat_of named));
            free = visit.noted ∙ none;
          }),
        );
      }
  told-comes t (Err e) tells out (same, takes, none) =
      let visit = none-added t same out in
      record {
        state = t;
        added = [];
        changes = changes;
        files = files;
        visit = visit;
        home = home-then;
        half = record { takes = takes; none = visit.own ∙ append-nil c.own; free = visit.noted ∙ none; told = lacking-told takes visit.told tells.1 };
      }

  pub tried-comes : {E : Type 0} (result : Result Tried E) → TellsTry call result changes files → LeavesTelling changes files b s p call d note result → Comes c p call d note result
  tried-comes result tells (t, out, tries) = told-comes t result tells out (try-tells s t b.number p call note result tries)

-- of a load or a store
for-note : (p : ℕ) (call : Call) (o : Option Sent) → IsNoteFor p call o → IsForCall p call o
for-note p call None for' = absurd for'
for-note p call (Some note) for' = for'

pub quick-comes : (c : CallerSeen) (call : Call) (d : CallerSeen) (a : Answer) → IsFirstHalf {E = Unit {0}} c call d (turn_of_try (Ok (tried_of a))) → IsQuick c call d (quick_of a)
quick-comes c call d (answer.Word w) half = half
quick-comes c call d answer.Stored half = half
quick-comes c call d (answer.Signal s) half = half
quick-comes c call d (answer.Need plan) half = (half.0, for-note c.process call d.seat.note half.1)
quick-comes c call d (answer.Busy h) half = (half.0, half.1)

-- THE END OF A TRANSFER
pub record Ends (c : SeatSeen) (p : ℕ) (call : Call) (d : SeatSeen) (result : Option Reply) : Type 0 where
  pub state : KernelState
  pub added : List Entry
  pub files : ℕ
  pub visit : Visit c state None added 1 files d
  pub turn : IsTurn (caller_at c p) call (caller_at d p) (turn_of_end result)

pub error-told : (b d : SeatSeen) (s : KernelState) (note : Sent) (result : Option Reply) → LeavesEnd b s note d result → IfSome result (λ (r : Reply). IsTrue (is_io r))
error-told b d s note None left = tt
error-told b d s note (Some r) (t, out, ends) = let told = end-tells s t b.number note (Some r) ends in subst (λ (x : Reply). IsTrue (is_io x)) (sym told.6) refl

some-emptied : (o : Option Sent) (note : Sent) (k : ℕ) → o ≡ Some note → k < (if empties o None then k + 1 else k)
some-emptied None note k is = absurd (cc (is))
some-emptied (Some x) note k is = omega arith

last-emptied : (o last : Option Sent) (note : Sent) → o ≡ Some note → (if empties o None then o else last) ≡ Some note
last-emptied None last note is = absurd (cc (is))
last-emptied (Some x) last note is = is

module _ (opening : KernelState) (n : ℕ) (c b d : SeatSeen) (s : KernelState) (p : ℕ) (call : Call) (note : Sent) (came : IsEntered seat_of_entry history_of IsSinceOpening opening n (part_of c) s)
    (in' : HasTried (after_enter c s) b) (named : p ≡ suc c.number) (noted : c.note ≡ Some note) (for' : note.of ≡ Some (p, call)) where
  told-ends : (t : KernelState) (result : Option Reply) → GoesOut b s t None 1 (files_of_end note.of result) d → EndTells s t note result → (result ≡ None → HasGoneWell t note) → Ends c p call d result
  told-ends t None out same gone =
      let well = gone refl in
      let visit = visited opening n c b d s t None [] 1 0 came in' out (same ∙ sym (append-nil s.history)) (All-nil (λ (e : Entry). seat_of_entry e ≡ c.number)) in
      record {
        state = t;
        added = [];
        files = 0;
        visit = visit;
        turn = (
          visit.own ∙ append-nil c.own,
          for-none p call d.note visit.noted,
          record {
            emptied = subst (λ (k : ℕ). c.emptied < k) (sym visit.emptied) (some-emptied c.note note c.emptied noted);
            note = note;
            last = visit.last ∙ last-emptied c.note c.last_emptied note noted;
            of = for';
            back = well.back;
            performed = well.performed;
            well = well.well;
            state = t;
            left = visit.state;
            home = well.home;
            free = visit.noted;
          },
        );
      }
  told-ends t (Some r) out (of, is, (cleared, longer), disk, before, after, io, error) gone =
      let mine : of ≡ (p, call) = cc (is, for') in
      let longer' : t.history ≡ s.history ++ done_entry p call r cleared ∷ [] = longer ∙ ap (λ (o : ℕ × Call). s.history ++ done_entry o.0 o.1 r cleared ∷ []) mine in
      let e = done_entry p call r cleared in
      let files = files_of_error r note.of in
      let visit = visited opening n c b d s t None (e ∷ []) 1 files came in' out longer' (All-cons (λ (x : Entry). seat_of_entry x ≡ c.number) e [] (ap seat_of named) (All-nil (λ (x : Entry). seat_of_entry x ≡ c.number))) in
      record {
        state = t;
        added = e ∷ [];
        files = files;
        visit = visit;
        turn = record {
          entry = (cleared, visit.own);
          free = visit.noted;
          error = subst (ShowsError (caller_at c p) call (caller_at d p)) (sym io) (record {
            risen = error.risen;
            emptied = subst (λ (k : ℕ). c.emptied < k) (sym visit.emptied) (some-emptied c.note note c.emptied noted);
            note = note;
            last = visit.last ∙ last-emptied c.note c.last_emptied note noted;
            of = for';
            number = error.number;
            counted = error.counted;
            state = t;
            left = visit.state;
            seen = error.seen;
            home = error.home;
            count = error.count;
          });
          told = record {
            change = inr (let is = visit.told in omega (arith, is));
            file = let same : files ≡ files_of call r = ap (files_of_error r) for' in let is = visit.told_files in omega (arith, is, same);
          };
        };
      }

  pub ended-comes : (result : Option Reply) → LeavesEnd b s note d result → Ends c p call d result
  ended-comes result (t, out, ends) =
      told-ends t result out (end-tells s t b.number note result ends) (λ none. well-then s t b.number note (p, call) for' (subst (EndsFlight s t b.number note) none ends))

-- A TURN THAT BEGAN EARLIER
module _ (v m d : SeatSeen) (p : ℕ) (call : Call) (goes : CallerGoesOn (caller_at v p) (caller_at m p)) where
  told-up : v.told ≤ m.told
  told-up = let home = goes.told in let up = goes.emptied in omega (arith, home, up)

  met-later : (h : Hold) → HasMet (caller_at m p) call (caller_at d p) h → HasMet (caller_at v p) call (caller_at d p) h
  met-later h has = record {
    leaves = let a = has.leaves in let b = goes.leaves in omega (arith, a, b);
    state = has.state;
    left = has.left;
    holds = has.holds;
    other = λ same. has.other (same ∙ sym goes.number);
    free = has.free;
  }

  cause-later : (why : Why) → HasCauseFor (caller_at m p) call (caller_at d p) why → HasCauseFor (caller_at v p) call (caller_at d p) why
  cause-later LockHeld has = let b = goes.refused in omega (arith, has, b)
  cause-later (PageBusy t) has = met-later (hold.Page t) has
  cause-later (DiskOut t) has = met-later (hold.Disk t) has
  cause-later (FileBusy t) has = met-later (hold.File t) has
  cause-later Moved has = record { emptied = let a = has.emptied in let b = goes.emptied in omega (arith, a, b); note = has.note; last = has.last; of = has.of; back = has.back; performed = has.performed; well = has.well; state = has.state; left = has.left; home = has.home; free = has.free }

  error-later : (r : Reply) → ShowsError (caller_at m p) call (caller_at d p) r → ShowsError (caller_at v p) call (caller_at d p) r
  error-later reply.Done has = tt
  error-later (reply.Word w) has = tt
  error-later (reply.Mapped a) has = tt
  error-later (reply.Bytes l) has = tt
  error-later (reply.Synced n) has = tt
  error-later (reply.Signal s) has = tt
  error-later (reply.Refused e) has = tt
  error-later (reply.Io disk before after) has = record {
    risen = has.risen;
    emptied = let a = has.emptied in let b = goes.emptied in omega (arith, a, b);
    note = has.note;
    last = has.last;
    of = has.of;
    number = has.number;
    counted = has.counted;
    state = has.state;
    left = has.left;
    seen = has.seen;
    home = has.home;
    count = has.count;
  }

  pub done-later : (r : Reply) → m.own ≡ v.own → IsCallDone (caller_at m p) call (caller_at d p) r → IsCallDone (caller_at v p) call (caller_at d p) r
  done-later r own has = record {
    entry = (has.entry.0, has.entry.1 ∙ ap (λ (l : List Entry). l ++ done_entry p call r has.entry.0 ∷ []) own);
    free = has.free;
    error = error-later r has.error;
    told = record {
      change = elim has.told.change [
        | inl access ↦ inl access
        | inr more ↦ inr (let up = told-up in omega (arith, more, up))
      ];
      file = let some = has.told.file in let up = goes.told_files in omega (arith, some, up);
    };
  }

  pub turn-later : (turn : Turn) → m.own ≡ v.own → IsTurn (caller_at m p) call (caller_at d p) turn → IsTurn (caller_at v p) call (caller_at d p) turn
  turn-later (Done r) own has = done-later r own has
  turn-later (Again why) own has = (has.0 ∙ own, has.1, cause-later why has.2)

  pub refused-later : m.own ≡ v.own → LacksMemory (caller_at m p) call (caller_at d p) → LacksMemory (caller_at v p) call (caller_at d p)
  refused-later own has = record { takes = has.takes; none = has.none ∙ own; free = has.free; told = let more = has.told in let up = told-up in omega (arith, more, up) }

-- WHAT IS IN HAND
pub no-note : {D : Type 0} (sent : Option (SentFlight D)) (o : Option Sent) → sent ≡ None → InHand sent o → o ≡ None
no-note None None is hand = refl
no-note None (Some n) is hand = absurd hand
no-note (Some x) o is hand = absurd (cc (is))

pub none-noted : {D : Type 0} (sent : Option (SentFlight D)) (o : Option Sent) → is_some sent ≡ false → InHand sent o → (sent ≡ None) × (o ≡ None)
none-noted None None is hand = (refl, refl)
none-noted None (Some n) is hand = absurd hand
none-noted (Some x) o is hand = absurd (let z : true ≡ false = is in cc (z))

pub note-for : (p : ℕ) (call : Call) (o : Option Sent) → IsNoteFor p call o → (note : Sent) × (o ≡ Some note) × (note.of ≡ Some (p, call))
note-for p call None for' = absurd for'
note-for p call (Some note) for' = (note, refl, for')

pub hand-for : {D : Type 0} (sent : Option (SentFlight D)) (o : Option Sent) (p : ℕ) (call : Call) → is_some sent ≡ true → InHand sent o → IsForCall p call o → IsNoteFor p call o
hand-for None o p call is hand for' = absurd (let z : false ≡ true = is in cc (z))
hand-for (Some x) None p call is hand for' = absurd hand
hand-for (Some x) (Some n) p call is hand for' = for'

pub sent-for-none : {D : Type 0} (x : SentFlight D) (sent : Option (SentFlight D)) (o : Option Sent) → sent ≡ Some x → InHand sent o → IsForNone o → IsSentFor x None
sent-for-none x None o is hand for' = absurd (cc (is))
sent-for-none x (Some y) None is hand for' = absurd hand
sent-for-none x (Some y) (Some n) is hand for' = let same = sym for' ∙ hand.same in cc (same, is)

pub noted-for : (p : ℕ) (call : Call) (o : Option Sent) → (o ≡ None → ⊥) → IsForCall p call o → IsNoteFor p call o
noted-for p call None some for' = absurd (some refl)
noted-for p call (Some note) some for' = for'

pub half-out : {E : Type 0} (c : CallerSeen) (call : Call) (d : CallerSeen) (r : Option Turn) (whole : Result (Option Turn) E) → whole ≡ Ok r → r ≡ None → IsFirstHalf c call d whole → (d.seat.own ≡ c.seat.own) × IsNoteFor c.process call d.seat.note
half-out c call d r (Ok None) is none half = half
half-out c call d r (Ok (Some t)) is none half = absurd (cc (is, none))
half-out c call d r (Err e) is none half = absurd (cc (is))

pub entered-so : (c b : SeatSeen) (s : KernelState) → b ≡ after_enter c s → HasTried (after_enter c s) b
entered-so c b s is = (c.refused, c.refused_by, le_refl c.refused, is)

-- A MOVE OF A HAND
pub record ComesHand (c : SeatSeen) (d : SeatSeen) (note : Option Sent) (changes : ℕ) : Type 0 where
  pub state : KernelState
  pub visit : Visit c state note [] changes 0 d

module _ (opening : KernelState) (n : ℕ) (c b d : SeatSeen) (s : KernelState) (came : IsEntered seat_of_entry history_of IsSinceOpening opening n (part_of c) s) (in' : HasTried (after_enter c s) b) where
  pub hand-comes : (note : Option Sent) → LeavesHand b s d note → ComesHand c d note 0
  hand-comes note (t, out, moved) = let same = hand-same s t b.number note moved in record {
    state = t;
    visit = visited opening n c b d s t note [] 0 0 came in' out (same ∙ sym (append-nil s.history)) (All-nil (λ (e : Entry). seat_of_entry e ≡ c.number));
  }

  told-lands : (t : KernelState) (note : Sent) (result : Option Reply) → note.of ≡ None → GoesOut b s t None 1 (files_of_end note.of result) d → EndTells s t note result → ComesHand c d None 1
  told-lands t note None of out same = record {
    state = t;
    visit = visited opening n c b d s t None [] 1 0 came in' out (same ∙ sym (append-nil s.history)) (All-nil (λ (e : Entry). seat_of_entry e ≡ c.number));
  }
  told-lands t note (Some r) of out ends = absurd (let z : ◌≡◌ {A = Option (ℕ × Call)} None (Some ends.0) = sym of ∙ ends.1 in cc (z))

  pub landed-comes : (note : Sent) (result : Option Reply) → note.of ≡ None → LeavesEnd b s note d result → ComesHand c d None 1
  landed-comes note result of (t, out, ends) = told-lands t note result of out (end-tells s t b.number note result ends)

-- a note that wasn't there isn't emptied
pub none-emptied : (n m : Option Sent) (k : ℕ) → n ≡ None → (if empties n m then k + 1 else k) ≡ k
none-emptied None m k is = refl
none-emptied (Some x) m k is = absurd (cc (is))

-- one that was is
pub one-emptied : (n : Option Sent) (note : Sent) (k : ℕ) → n ≡ Some note → (if empties n None then k + 1 else k) ≡ k + 1
one-emptied None note k is = absurd (cc (is))
one-emptied (Some x) note k is = refl

pub stays-home : (c : CallerSeen) → MovesHands c 0 0 c
stays-home c = record { leaves = omega arith; emptied = omega arith; told = omega arith }

pub lands-home : (c d : SeatSeen) (p : ℕ) (note : Sent) → c.note ≡ Some note → ComesHand c d None 1 → MovesHands (caller_at c p) 0 1 (caller_at d p)
lands-home c d p note noted came = record {
  leaves = let is = came.visit.leaves in omega (arith, is);
  emptied = came.visit.emptied ∙ one-emptied c.note note c.emptied noted;
  told = came.visit.told;
}

pub moved-once : (c d : SeatSeen) (e : CallerSeen) (p pushes : ℕ) (note : Option Sent) → c.note ≡ None → ComesHand c d note 0 → MovesHands (caller_at d p) 0 pushes e → MovesHands (caller_at c p) 1 pushes e
moved-once c d e p pushes note none came home =
    let none' : d.emptied ≡ c.emptied = came.visit.emptied ∙ none-emptied c.note note c.emptied none in record {
      leaves = let is = came.visit.leaves in let on = home.leaves in omega (arith, is, on);
      emptied = let on = home.emptied in omega (arith, none', on);
      told = let is = came.visit.told in let on = home.told in omega (arith, is, on);
    }

pub moved-on : (c m d : CallerSeen) (i a b : ℕ) → MovesHands c i a m → MovesHands m 1 b d → MovesHands c (i + 1) (a + b) d
moved-on c m d i a b first then' = record {
  leaves = let x = first.leaves in let y = then'.leaves in omega (arith, x, y);
  emptied = let x = first.emptied in let y = then'.emptied in omega (arith, x, y);
  told = let x = first.told in let y = then'.told in omega (arith, x, y);
}

pub in-hand : {D : Type 0} (x : SentFlight D) (o : Option Sent) → InHand (Some x) o → (note : Sent) × (o ≡ Some note) × InHand (Some x) (Some note)
in-hand x None hand = absurd hand
in-hand x (Some note) hand = (note, refl, hand)

-- A turn whose try began a transfer, and then tried the lock again.
pub tried-round : (c m d : CallerSeen) (call : Call) → c.seat.note ≡ None → TriesOnce c m → m.seat.emptied ≡ c.seat.emptied → IsNoteFor c.process call m.seat.note
    → TriesOnce m d → (d.seat.emptied ≡ m.seat.emptied + 1) ⊎ (d.seat.note ≡ m.seat.note) → IsOneTurn c d
tried-round c m d call none first same for' second ended = inr (record {
  none = none;
  tries = omega (arith, first, second);
  transfer = elim ended [
    | inl more ↦ inl (more ∙ ap (λ (k : ℕ). k + 1) same)
    | inr kept ↦ inr (ap is_some (kept ∙ (note-for c.process call m.seat.note for').1))
  ];
})

-- the seat that went in
pub tried-number : (c b : SeatSeen) (s : KernelState) → HasTried (after_enter c s) b → b.number ≡ c.number
tried-number c b s tried = ap (λ v. v.number) tried.3
