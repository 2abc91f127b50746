-- THAT A LANE MAY TRY ITS NEXT CALL, and may go on after every turn.
use Rattle.std.proofs.Common.{add-one, ◌≡◌, ◌≢◌, ℕ, suc, ◌==◌, ◌+◌, ◌-◌, ◌<◌, ◌≤◌, Bool, true, false, cond, List, [], ◌∷◌, ◌++◌, length, Option, Some, None, refl, sym, ap, ◌∙◌, ◌⊎◌, inl, inr, subst, arith}
use Rattle.std.specs.Prelude.{IsSomeAnd, IsTrue, MatchOption, is_none, ◌||◌, if◌then◌else◌}
use Rattle.std.specs.List.{list_any}
use Rattle.std.proofs.lemmas.Bool.{cases_Bool}
use Rattle.std.proofs.lemmas.Bool.Decides.{nat_tests}
use Rattle.std.proofs.lemmas.List.{append-nil, length-append}
use Rattle.std.proofs.lemmas.Option.{slice_get_within}
use Rattle.fault_entry.specs.vm_types.Pages.{line_rest}
use Rattle.fault_entry.specs.vm_types.Parts.{next_part, ends_call, is_short, part_file}
use Rattle.fault_entry.specs.vm_types.declared.call.Call.{Call}
use Rattle.fault_entry.specs.vm_types.declared.call.Call.TheVariants.{Load, Store, Map, Unmap, Protect, Sync, Read, Write, Truncate, Fork, Exit}
use Rattle.fault_entry.specs.vm_types.declared.call.Entry.{Entry}
use Rattle.fault_entry.specs.vm_types.declared.call.Reply.{Reply}
use Rattle.fault_entry.specs.vm_types.declared.call.Reply.TheVariants as reply
use Rattle.fault_entry.specs.vm_types.declared.call.Reply.TheVariants.{Bytes}
use Rattle.fault_entry.specs.flat_model.Births.{is_birth}
use Rattle.fault_entry.specs.flat_model.OpenLaws.{last_entry, FollowsOn, IsOpenPart}
use Rattle.fault_entry.specs.flat_model.Told.{entries_of}
use Rattle.fault_entry.proofs.flat_model.Opens.{last_entry-push}
use Rattle.fault_entry.proofs.flat_model.Replays.{entries_of-append}
use Rattle.fault_entry.proofs.page_store.FrameLaws.{eq-far as is-other, eq-same}
use Rattle.fault_entry.specs.vm_world.Events.{CanTry, MayBear}
use Rattle.fault_entry.specs.vm_world.HistoryFits.{has_left, is_exit, is_exit_of}
use Rattle.fault_entry.specs.vm_world.SeatLaws.{IsKnownAlive}
use Rattle.fault_entry.specs.vm_world.State.{KernelState, Sent, is_top, room_of, seat_of}
use Rattle.fault_entry.proofs.vm_world.SeatRules.{seat_law}
use Rattle.vm_core.specs.Fits.{FitsAt}
use Rattle.lane_driver.specs.Lanes.{LaneSeen, AreLaneCalls, IsLaneCall, LiesInOneLine, MayMakeCalls, calls_left, lane_process, next_call}
use Rattle.lane_driver.proofs.Adds.{AddsOne, TurnAdds}
use Rattle.lane_driver.proofs.Driven.{one-other, one-own}

-- A CALL THAT LIES IN ONE LINE is done with one entry, whatever is answered to it.
short-read : (a b : Bool) (next : Option Call) → (a ≡ false → b ≡ true) → IsTrue (is_none (cond a None (cond b None next)))
short-read true b next last = refl
short-read false true next last = refl
short-read false false next last = absurd (let z : false ≡ true = last refl in cc)

line-read : (offset len n : ℕ) → len ≤ line_rest offset → is_short offset len n ≡ false → (len - n == 0) ≡ true
line-read offset len n le whole = grind (arith, nat_tests)

pub one-entry : (call : Call) (r : Reply) → LiesInOneLine call → IsTrue (ends_call call r)
unfolding next_part
one-entry (Read file offset len) (Bytes line) lies = short-read (is_short offset len (length line)) ((len - length line) == 0) _ (line-read offset len (length line) lies)
one-entry (Write file offset line rest) reply.Done lies = subst (λ (n : ℕ). IsTrue (is_none (next_part (Write file offset line n) reply.Done []))) (sym lies) refl
one-entry (Load a n) r lies = refl
one-entry (Store a n v) r lies = refl
one-entry (Map place len prot kind object offset) r lies = refl
one-entry (Unmap a len) r lies = refl
one-entry (Protect a len prot) r lies = refl
one-entry (Sync a len) r lies = refl
one-entry (Truncate file len) r lies = refl
one-entry (Fork child) r lies = refl
one-entry Exit r lies = refl
one-entry (Read file offset len) r lies = refl
one-entry (Write file offset line rest) r lies = refl

-- an entry ends its call, or is a part that another one follows
ended-or-open : (d : Entry) → IsTrue (ends_call d.call d.reply) ⊎ ((f : ℕ) × IsOpenPart f d)
ended-or-open d = by_call d.call refl
  where
    undone : (f : ℕ) → part_file d.call ≡ Some f → IsTrue (ends_call d.call d.reply) ⊎ ((g : ℕ) × IsOpenPart g d)
    undone f of = elim (cases_Bool (ends_call d.call d.reply)) [ inl ends ↦ inl ends | inr goes ↦ inr (f, (of, goes)) ]

    ended : (c : Call) → d.call ≡ c → ((r : Reply) → IsTrue (ends_call c r)) → IsTrue (ends_call d.call d.reply) ⊎ ((g : ℕ) × IsOpenPart g d)
    ended c is all = inl (subst (λ (x : Call). IsTrue (ends_call x d.reply)) (sym is) (all d.reply))

    by_call : (c : Call) → d.call ≡ c → IsTrue (ends_call d.call d.reply) ⊎ ((g : ℕ) × IsOpenPart g d)
    by_call (Read file offset len) is = undone file (ap part_file is)
    by_call (Write file offset line rest) is = undone file (ap part_file is)
    by_call (Load a n) is = ended (Load a n) is (λ r. one-entry (Load a n) r tt)
    by_call (Store a n v) is = ended (Store a n v) is (λ r. one-entry (Store a n v) r tt)
    by_call (Map place len prot kind object offset) is = ended (Map place len prot kind object offset) is (λ r. one-entry (Map place len prot kind object offset) r tt)
    by_call (Unmap a len) is = ended (Unmap a len) is (λ r. one-entry (Unmap a len) r tt)
    by_call (Protect a len prot) is = ended (Protect a len prot) is (λ r. one-entry (Protect a len prot) r tt)
    by_call (Sync a len) is = ended (Sync a len) is (λ r. one-entry (Sync a len) r tt)
    by_call (Truncate file len) is = ended (Truncate file len) is (λ r. one-entry (Truncate file len) r tt)
    by_call (Fork child) is = ended (Fork child) is (λ r. one-entry (Fork child) r tt)
    by_call Exit is = ended Exit is (λ r. one-entry Exit r tt)

-- behind a process's last entry, where it is no open part, any entry may come
follows-any : (last : Option Entry) (e : Entry) → ((f : ℕ) → ¬ IsSomeAnd last (IsOpenPart f)) → MatchOption last (Unit {0}) (λ d. FollowsOn d e)
follows-any None e whole = tt
follows-any (Some d) e whole = elim (ended-or-open d) [ inl ends ↦ inl ends | inr more ↦ absurd (whole more.0 more.1) ]

pub bears-none : (s : KernelState) (p : ℕ) (call : Call) → ((child : ℕ) → call ≢ Fork child) → MayBear s p call
bears-none s p (Fork child) plain = absurd (plain child refl)
bears-none s p call plain = tt

left-some : (lane : LaneSeen) (call : Call) → next_call lane ≡ Some call → 1 ≤ calls_left lane
left-some lane call at = let lt = slice_get_within lane.calls lane.done call at in omega (arith, lt)

-- THE TRY
pub may-try : (s : KernelState) (lane : LaneSeen) (call : Call) (sent : Option Sent) → FitsAt s lane.seat sent → MayMakeCalls s lane → next_call lane ≡ Some call → IsLaneCall call → CanTry s lane.seat (lane_process lane) call
may-try s lane call sent fits may at is =
    let left = left-some lane call at in
    let room = may.room in
    record {
      own = ap seat_of (add-one lane.seat);
      alive = seat_law.known fits.0 s fits.1 s.history [] (lane_process lane) fits.2 (sym (append-nil s.history)) (may.alive left);
      room = omega (arith, left, room);
      follows = λ r cleared. follows-any (last_entry (lane_process lane) s.history) (record { process = lane_process lane; call = call; reply = r; cleared = cleared }) may.whole;
      bears = bears-none s (lane_process lane) call is.plain;
    }

-- AFTER A TURN
any-one : (t : Entry → Bool) (H : List Entry) (e : Entry) → list_any t H ≡ false → t e ≡ false → list_any t (H ++ e ∷ []) ≡ false
any-one t [] e none not = ap (λ (b : Bool). b || false) not
any-one t (d ∷ H) e none not = by_first (t d) none (λ rest. any-one t H e rest not)
  where
    by_first : (b : Bool) → (b || list_any t H) ≡ false → (list_any t H ≡ false → list_any t (H ++ e ∷ []) ≡ false) → (b || list_any t (H ++ e ∷ [])) ≡ false
    by_first true none rest = none
    by_first false none rest = rest none

pub last-one : (H : List Entry) (e : Entry) (p : ℕ) → e.process ≡ p → last_entry p (H ++ e ∷ []) ≡ Some e
last-one H e p is = last_entry-push H e p ∙ ap (λ (b : Bool). if b then Some e else last_entry p H) (subst (λ (n : ℕ). (e.process == n) ≡ true) is (eq-same e.process))

pub last-other : (H : List Entry) (e : Entry) (p : ℕ) → e.process ≢ p → last_entry p (H ++ e ∷ []) ≡ last_entry p H
last-other H e p is = last_entry-push H e p ∙ ap (λ (b : Bool). if b then Some e else last_entry p H) (is-other e.process p is)

-- an entry that ends its call is no open part
pub no-open : (f : ℕ) (e : Entry) → IsTrue (ends_call e.call e.reply) → ¬ IsOpenPart f e
no-open f e ends part = let z : true ≡ false = sym ends ∙ part.1 in cc

-- the same history, parents and rooms
may-same : (s t : KernelState) (lane new : LaneSeen) → t.history ≡ s.history → t.parents ≡ s.parents → t.entries ≡ s.entries → new.seat ≡ lane.seat → calls_left new ≡ calls_left lane → MayMakeCalls s lane → MayMakeCalls t new
may-same s t lane new history parents entries seat left may = record {
  whole = λ f. subst (λ (k : ℕ). ¬ IsSomeAnd (last_entry (k + 1) t.history) (IsOpenPart f)) (sym seat) (subst (λ (H : List Entry). ¬ IsSomeAnd (last_entry (lane_process lane) H) (IsOpenPart f)) (sym history) (may.whole f));
  room = subst (λ (k : ℕ). length (entries_of t.history (k + 1)) + calls_left new ≤ room_of t.entries (k + 1)) (sym seat)
      (subst (λ (n : ℕ). length (entries_of t.history (lane_process lane)) + n ≤ room_of t.entries (lane_process lane)) (sym left)
      (subst (λ (H : List Entry). length (entries_of H (lane_process lane)) + calls_left lane ≤ room_of t.entries (lane_process lane)) (sym history)
      (subst (λ (es : List ℕ). length (entries_of s.history (lane_process lane)) + calls_left lane ≤ room_of es (lane_process lane)) (sym entries) may.room)));
  alive = λ some. subst (λ (k : ℕ). IsKnownAlive t.parents t.history (entries_of t.history (k + 1)) (k + 1)) (sym seat)
      (subst (λ (ps : List ℕ). IsKnownAlive ps t.history (entries_of t.history (lane_process lane)) (lane_process lane)) (sym parents)
      (subst (λ (H : List Entry). IsKnownAlive s.parents H (entries_of H (lane_process lane)) (lane_process lane)) (sym history) (may.alive (subst (λ (n : ℕ). 1 ≤ n) left some))));
}

-- an entry of another process
may-other : (s t : KernelState) (lane : LaneSeen) (e : Entry) → t.history ≡ s.history ++ e ∷ [] → t.parents ≡ s.parents → t.entries ≡ s.entries → e.process ≢ lane_process lane → MayMakeCalls s lane → MayMakeCalls t lane
may-other s t lane e history parents entries far may =
    let p = lane_process lane in
    let own : entries_of t.history p ≡ entries_of s.history p = ap (λ (H : List Entry). entries_of H p) history ∙ entries_of-append s.history (e ∷ []) p ∙ ap (λ (es : List Entry). entries_of s.history p ++ es) (one-other e p far) ∙ append-nil (entries_of s.history p) in
    record {
      whole = λ f. subst (λ (o : Option Entry). ¬ IsSomeAnd o (IsOpenPart f)) (sym (ap (last_entry p) history ∙ last-other s.history e p far)) (may.whole f);
      room = subst (λ (es : List Entry). length es + calls_left lane ≤ room_of t.entries p) (sym own) (subst (λ (es : List ℕ). length (entries_of s.history p) + calls_left lane ≤ room_of es p) (sym entries) may.room);
      alive = λ some. subst (λ (es : List Entry). IsKnownAlive t.parents t.history es p) (sym own)
          (subst (λ (ps : List ℕ). IsKnownAlive ps t.history (entries_of s.history p) p) (sym parents)
          (subst (λ (H : List Entry). IsKnownAlive s.parents H (entries_of s.history p) p) (sym history) (seat_law.longer s.parents s.history (e ∷ []) (entries_of s.history p) p (may.alive some))));
    }

-- the lane's own entry
may-own : (s t : KernelState) (lane new : LaneSeen) (call : Call) → AreLaneCalls lane.calls → next_call lane ≡ Some call → AddsOne s t (lane_process lane) call → t.parents ≡ s.parents → t.entries ≡ s.entries
    → new.seat ≡ lane.seat → new.calls ≡ lane.calls → new.done ≡ suc lane.done → MayMakeCalls s lane → MayMakeCalls t new
may-own s t lane new call calls at one parents entries seat same done may =
    let p = lane_process lane in
    let e = one.entry in
    let own : entries_of t.history p ≡ entries_of s.history p ++ e ∷ [] = ap (λ (H : List Entry). entries_of H p) one.history ∙ entries_of-append s.history (e ∷ []) p ∙ ap (λ (es : List Entry). entries_of s.history p ++ es) (one-own e p one.process) in
    let left = left-some lane call at in
    let count = ap (λ (cs : List Call). length cs) same in
    let more = ap (λ (es : List Entry). length es) own ∙ length-append (entries_of s.history p) (e ∷ []) in
    let room = subst (λ (es : List ℕ). length (entries_of s.history p) + calls_left lane ≤ room_of es p) (sym entries) may.room in
    record {
      whole = λ f. subst (λ (k : ℕ). ¬ IsSomeAnd (last_entry (k + 1) t.history) (IsOpenPart f)) (sym seat)
          (subst (λ (o : Option Entry). ¬ IsSomeAnd o (IsOpenPart f)) (sym (ap (last_entry p) one.history ∙ last-one s.history e p one.process)) (no-open f e one.ends));
      room = subst (λ (k : ℕ). length (entries_of t.history (k + 1)) + calls_left new ≤ room_of t.entries (k + 1)) (sym seat) (omega (arith, more, left, count, done, room));
      alive = λ some. subst (λ (k : ℕ). IsKnownAlive t.parents t.history (entries_of t.history (k + 1)) (k + 1)) (sym seat)
          (subst (λ (ps : List ℕ). IsKnownAlive ps t.history (entries_of t.history p) p) (sym parents) (record {
            born = subst (λ (H : List Entry). (is_top s.parents p || list_any (is_birth p) H) ≡ true) (sym one.history) (seat_law.longer s.parents s.history (e ∷ []) (entries_of s.history p) p (may.alive left)).born;
            here = subst (λ (es : List Entry). has_left p es ≡ false) (sym own) (any-one (is_exit_of p) (entries_of s.history p) e (may.alive left).here (stays (λ exit.
                let last = calls.last lane.done (at ∙ ap (λ (c : Call). Some c) (sym one.is ∙ exit)) in omega (arith, last, count, done, some))));
          }));
    }
  where
    exit-is : (c : Call) → c ≢ Exit → is_exit c ≡ false
    exit-is Exit other = absurd (other refl)
    exit-is c other = refl

    stays : one.entry.call ≢ Exit → is_exit_of (lane_process lane) one.entry ≡ false
    stays other = by_process (one.entry.process == lane_process lane)
      where
        by_process : (b : Bool) → (if b then is_exit one.entry.call else false) ≡ false
        by_process true = exit-is one.entry.call other
        by_process false = refl

-- THE LANE whose turn it was, and every other one.
pub may-after : (s t : KernelState) (lane new : LaneSeen) → TurnAdds s t lane new → AreLaneCalls lane.calls → t.parents ≡ s.parents → t.entries ≡ s.entries → MayMakeCalls s lane → MayMakeCalls t new
may-after s t lane new adds calls parents entries may = elim adds.adds [
  | inl none ↦ may-same s t lane new none.1 parents entries (ap (λ (l : LaneSeen). l.seat) adds.is)
      (ap calls_left adds.is ∙ ap (λ (b : Bool). length lane.calls - (if b then suc lane.done else lane.done)) none.0) may
  | inr one ↦ may-own s t lane new one.1.0 calls one.1.1 one.1.2 parents entries (ap (λ (l : LaneSeen). l.seat) adds.is) (ap (λ (l : LaneSeen). l.calls) adds.is)
      (ap (λ (l : LaneSeen). l.done) adds.is ∙ ap (λ (b : Bool). if b then suc lane.done else lane.done) one.0) may
]

pub may-beside : (s t : KernelState) (lane new one : LaneSeen) → TurnAdds s t lane new → one.seat ≢ lane.seat → t.parents ≡ s.parents → t.entries ≡ s.entries → MayMakeCalls s one → MayMakeCalls t one
may-beside s t lane new one adds far parents entries may = elim adds.adds [
  | inl none ↦ may-same s t one one none.1 parents entries refl refl may
  | inr more ↦ let own = more.1.2.process in may-other s t one more.1.2.entry more.1.2.history parents entries (λ e. far (omega (arith, e, own))) may
]
