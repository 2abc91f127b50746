-- Events at rest and one after another, and what a seat is told of the state.
use Rattle.std.proofs.Common.{◌≡◌, ℕ, zero, suc, ◌<◌, ◌==◌, Bool, true, false, cond, List, [], ◌++◌, length, Option, Some, None, replicate, refl, sym, ap, ◌∙◌, ◌⊎◌, inl, inr, append_assoc, subst}
use Rattle.std.specs.Prelude.{option_map, IsSome, IsSomeAnd, slice_set, slice_index_or}
use Rattle.std.proofs.lemmas.Bool.Decides.{eqb_tells}
use Rattle.std.proofs.lemmas.List.{append-nil, get_or-set_same, get_or-set_other}
use Rattle.std.proofs.lemmas.List.Elements.{All-append}
use Rattle.page_store.specs.core_arena.Bytes.{bytes_at}
use Rattle.flat_model.specs.vm_types.declared.call.Call.{Call}
use Rattle.flat_model.specs.vm_types.declared.call.Entry.{Entry}
use Rattle.page_store.specs.page_hash.Names.{find}
use Rattle.page_store.specs.page_hash.declared.PageName.{PageName}
use Rattle.page_store.specs.page_lock.Rows.{row_at}
use Rattle.page_store.specs.Bays.{out, bay_at}
use Rattle.page_store.specs.Notes.{Note}
use Rattle.page_store.specs.Seen.{StoreSeen, residence, residence_in, residence_of}
use Rattle.page_store.specs.declared.plan.Hold.{Hold}
use Rattle.page_store.specs.declared.plan.Hold.TheVariants as hold
use Rattle.page_store.specs.declared.residence.Residence.TheVariants.{Moving}
use Rattle.flat_model.specs.Flat.{Flat}
use Rattle.flat_model.specs.OpenLaws.{last_entry, IsOpenPart}
use Rattle.vm_world.specs.EventLaws.{EventLaw}
use Rattle.vm_world.specs.Events.{IsEvent, IsSince, KeepsAccounts, moment_of}
use Rattle.vm_world.specs.Opening.{no_seats}
use Rattle.vm_world.specs.State.{KernelState, KeptPlan, Seats, Sent, notes_of, seat_of, seats_of, with_sent}
use Rattle.vm_world.specs.StateFits.{StateFits}
use Rattle.vm_world.specs.Wants.{HoldsUp, seat_in}
use Rattle.vm_world.proofs.StateSteps.{no-entries, same-seats, this-seat, disk_there, disks-still, accounts-still}
use Rattle.vm_world.proofs.BlockAccounts.{accounts-then, at-rest}

-- a page that is moving has a frame whose lock the seat holds
moving : (s : StoreSeen) (name : PageName) (seat : ℕ) → residence s name ≡ Moving seat → (frame : ℕ) × ((row_at s.rows frame).holder ≡ Some seat)
moving s name seat is = by_find (find s.names name) is
  where
    by_row : (frame : ℕ) (bytes : Option (List ℕ)) (holder : Option ℕ) → (row_at s.rows frame).holder ≡ holder → residence_of bytes holder frame ≡ Moving seat → (row_at s.rows frame).holder ≡ Some seat
    by_row frame (Some b) holder e r = absurd (cc)
    by_row frame None None e r = absurd (cc)
    by_row frame None (Some t) e r = e ∙ ap (λ (k : ℕ). Some k) (let z : Moving t ≡ Moving seat = r in let same : t ≡ seat = cc in same)

    by_find : (o : Option ℕ) → residence_in o s ≡ Moving seat → (frame : ℕ) × ((row_at s.rows frame).holder ≡ Some seat)
    by_find None r = absurd (cc)
    by_find (Some frame) r = (frame, by_row frame (bytes_at s.frames frame) (row_at s.rows frame).holder refl r)

-- a seat with a note has something outside
has-sent : (seats : Seats) (seat : ℕ) (note : Note) → notes_of seats seat ≡ Some note → IsSome (seats seat)
has-sent seats seat note is = by_sent (seats seat) is
  where
    by_sent : (o : Option Sent) → option_map (λ (s : Sent). s.note) o ≡ Some note → IsSome o
    by_sent None e = absurd (cc)
    by_sent (Some s) e = refl

-- the seat that has a frame's lock, that a page is moving with, or that has a disk out, has something outside
pub lock-sent : (opening : Flat) (s : KernelState) (seats : Seats) (frame t : ℕ) → StateFits opening s seats → (row_at s.memory.world.store.rows frame).holder ≡ Some t → IsSome (seats t)
lock-sent opening s seats frame t fit is = let n = fit.notes.stored.each_frame frame t is in has-sent seats t n.0 n.1

pub moving-sent : (opening : Flat) (s : KernelState) (seats : Seats) (name : PageName) (t : ℕ) → StateFits opening s seats → residence s.memory.world.store name ≡ Moving t → IsSome (seats t)
moving-sent opening s seats name t fit is = let held = moving s.memory.world.store name t is in lock-sent opening s seats held.0 t fit held.1

pub disk-sent : (opening : Flat) (s : KernelState) (seats : Seats) (disk t : ℕ) → StateFits opening s seats → bay_at s.memory.world.store.bays disk ≡ out t → IsSome (seats t)
disk-sent opening s seats disk t fit is = let n = fit.notes.stored.each_bay disk t is in has-sent seats t n.0 n.1

tells-holds : (opening : Flat) (s : KernelState) (seats : Seats) (p : ℕ) (call : Call) (h : Hold) → StateFits opening s seats → HoldsUp s.memory s.calls p call h → IsSome (seats (seat_in h)) ⊎ ((f : ℕ) × IsSomeAnd (last_entry (suc (seat_in h)) s.history) (IsOpenPart f))
tells-holds opening s seats p call (hold.Page t) fit cause = inl (moving-sent opening s seats cause.0 t fit cause.2)
tells-holds opening s seats p call (hold.Disk t) fit cause = inl (disk-sent opening s seats _ t fit cause.2)
tells-holds opening s seats p call (hold.File t) fit cause = inr (cause.0, (fit.calls.files cause.0 t).0 cause.2)

same-list : (sents : List (Option Sent)) (seat : ℕ) (sent : Option Sent) → seat < length sents → with_sent (seats_of sents) seat sent ≡ seats_of (slice_set sents seat sent)
same-list sents seat sent lt = λ i k. at k i
  where
    at : (k : ℕ) → cond (k == seat) sent (slice_index_or sents k None) ≡ slice_index_or (slice_set sents seat sent) k None
    at k = elim (eqb_tells k seat) [
      | inl y ↦ ap (λ (b : Bool). cond b sent (slice_index_or sents k None)) y.0 ∙ sym (ap (λ (j : ℕ). slice_index_or (slice_set sents seat sent) j None) y.1 ∙ get_or-set_same sents seat sent None lt)
      | inr n ↦ ap (λ (b : Bool). cond b sent (slice_index_or sents k None)) n.0 ∙ sym (get_or-set_other sents seat k sent None n.1)
    ]

none-out : (n k : ℕ) → slice_index_or (replicate {A = Option Sent} n None) k None ≡ None
none-out zero k = refl
none-out (suc n) zero = refl
none-out (suc n) (suc k) = none-out n k

-- WHAT EVENTS KEEP
opens : (s : KernelState) → (F : Flat) × StateFits F s no_seats → IsSince s s no_seats
opens s fits = record { starts = fits; fits = λ F fit. fit; fixed = refl; disks = λ number. refl; follows = λ F was. was; accounts = λ F fit. at-rest F s (notes_of no_seats) }

since : (opening s t : KernelState) (seats : Seats) (seat : ℕ) (before after : Option Sent) → IsSince opening s seats → seats seat ≡ before → IsEvent seat s before t after → IsSince opening t (with_sent seats seat after)
since opening s t seats seat before after was at event = record {
  starts = was.starts;
  fits = λ F fit. event.fits F seats at (was.fits F fit);
  fixed = event.fixed ∙ was.fixed;
  disks = λ number. event.disks was.starts.0 seats at (was.fits was.starts.0 was.starts.1) number ∙ was.disks number;
  follows = λ F has. event.follows F (was.follows F has);
  accounts = λ F fit tell. let late = event.accounts F seats at (was.fits F fit) tell in let early = was.accounts F fit late.0 in (early.0, late.1 (moment_of opening (notes_of no_seats)) early.1);
}

-- NOTHING CHANGES.
rests : (seat : ℕ) (s : KernelState) (sent : Option Sent) → IsEvent seat s sent s sent
rests seat s sent = record {
  fits = λ opening seats is fit. subst (λ (x : Seats). StateFits opening s x) (sym (same-seats seats seat sent is)) fit;
  fixed = refl;
  disks = λ opening seats is fit. disks-still s s seat sent refl seats is;
  grown = no-entries s.history seat;
  follows = λ opening was. record { shape = was.shape; refusals = was.refusals };
  accounts = λ opening seats is fit. accounts-still opening s s seat sent [] (sym (append-nil s.history)) (λ disk block is. is) refl seats is (λ tell. tell);
}

-- a seat that has one thing outside and then another
sent-twice : (seats : Seats) (seat : ℕ) (mid after : Option Sent) → with_sent (with_sent seats seat mid) seat after ≡ with_sent seats seat after
sent-twice seats seat mid after = λ i k. by_seat (k == seat) k i
  where
    by_seat : (b : Bool) (k : ℕ) → cond b after (cond b mid (seats k)) ≡ cond b after (seats k)
    by_seat true k = refl
    by_seat false k = refl

-- ONE EVENT AFTER ANOTHER.
pub event-then : (seat : ℕ) (s t u : KernelState) (before mid after : Option Sent) → IsEvent seat s before t mid → IsEvent seat t mid u after → IsEvent seat s before u after
event-then seat s t u before mid after a b = record {
  fits = λ opening seats is fit. subst (λ (x : Seats). StateFits opening u x) (sent-twice seats seat mid after) (b.fits opening (with_sent seats seat mid) (this-seat seats seat mid) (a.fits opening seats is fit));
  fixed = b.fixed ∙ a.fixed;
  disks = λ opening seats is fit number.
      let later = b.disks opening (with_sent seats seat mid) (this-seat seats seat mid) (a.fits opening seats is fit) number in
      subst (λ (x : Seats). disk_there u x number ≡ disk_there t (with_sent seats seat mid) number) (sent-twice seats seat mid after) later ∙ a.disks opening seats is fit number;
  grown = (
    a.grown.0 ++ b.grown.0,
    b.grown.1 ∙ ap (λ (H : List Entry). H ++ b.grown.0) a.grown.1 ∙ append_assoc s.history a.grown.0 b.grown.0,
    All-append (λ (e : Entry). seat_of e.process ≡ seat) a.grown.0 b.grown.0 a.grown.2 b.grown.2,
  );
  follows = λ opening was. b.follows opening (a.follows opening was);
  accounts = λ opening seats is fit. accounts-then opening s t u (notes_of seats) (notes_of (with_sent seats seat mid)) (notes_of (with_sent seats seat after)) (a.accounts opening seats is fit)
      (subst (λ (x : Seats). KeepsAccounts opening t (notes_of (with_sent seats seat mid)) u (notes_of x)) (sent-twice seats seat mid after) (b.accounts opening (with_sent seats seat mid) (this-seat seats seat mid) (a.fits opening seats is fit)));
}

-- A PLAN IS FORGOTTEN.
pub forgets-plan : (seat : ℕ) (s : KernelState) (sent : Option Sent) → IsEvent seat s sent (record s { plan = None }) sent
forgets-plan seat s sent = record {
  fits = λ opening seats is fit. subst (λ (x : Seats). StateFits opening (record s { plan = None }) x) (sym (same-seats seats seat sent is)) (record {
    memory = fit.memory;
    notes = fit.notes;
    replays = fit.replays;
    faults = fit.faults;
    calls = fit.calls;
    rooms = fit.rooms;
    births = fit.births;
    plans = record {
      plan = λ kept at. absurd (let z : ◌≡◌ {A = Option KeptPlan} None (Some kept) = at in cc);
      planned = λ kept of at _. absurd (let z : ◌≡◌ {A = Option KeptPlan} None (Some kept) = at in cc);
      sent = fit.plans.sent;
    };
    marks = fit.marks;
    failures = fit.failures;
    pushes = fit.pushes;
  });
  fixed = refl;
  disks = λ opening seats is fit. disks-still s (record s { plan = None }) seat sent refl seats is;
  grown = no-entries s.history seat;
  follows = λ opening was. record { shape = was.shape; refusals = was.refusals };
  accounts = λ opening seats is fit. accounts-still opening s (record s { plan = None }) seat sent [] (sym (append-nil s.history)) (λ disk block is. is) refl seats is (λ tell. tell);
}

pub event_law : EventLaw
event_law = record {
  rests = rests;
  joined = event-then;
  forgets = forgets-plan;
  holds = λ opening s seats p call h fit may. tells-holds opening s seats p call h fit may.cause;
  counted = λ opening s seats k e disk before after fit at is. fit.faults.reached k e disk before after at is;
  opens = opens;
  since = since;
  none = λ n i k. none-out n k i;
  list = same-list;
}
