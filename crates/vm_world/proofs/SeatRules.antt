-- What a seat knows of its process, and what holds where no seat has anything outside.
use Rattle.std.proofs.Common.{◌≡◌, ◌≢◌, ℕ, zero, suc, ◌<◌, ◌==◌, Bool, true, false, cond, List, [], ◌∷◌, ◌++◌, length, Option, Some, None, refl, sym, ap, ◌∙◌, inl, inr, subst, arith}
use Rattle.std.specs.Prelude.{fold, slice_get, is_some, is_none, IsSome, IsTrue, IsFalse, MatchOption, ◌||◌, if◌then◌else◌}
use Rattle.std.specs.Option.{option_map_or}
use Rattle.std.specs.List.{list_any}
use Rattle.std.specs.FinMap as finite
use Rattle.std.specs.FinSet as set
use Rattle.std.proofs.lemmas.Bool.{cases_Bool}
use Rattle.std.proofs.lemmas.Bool.Decides.{eqb_tells}
use Rattle.std.proofs.lemmas.List.{length-append}
use Rattle.page_store.specs.core_arena.Bytes.{bytes_at}
use Rattle.flat_model.specs.vm_types.declared.call.Call.{Call}
use Rattle.flat_model.specs.vm_types.declared.call.Call.TheVariants.{Fork}
use Rattle.flat_model.specs.vm_types.declared.call.Entry.{Entry}
use Rattle.page_store.specs.page_lock.Rows.{row_at}
use Rattle.flat_model.specs.Births.{is_birth, AreBorn}
use Rattle.flat_model.specs.Flat.{Flat, Space, space_of}
use Rattle.flat_model.specs.History.{replay, Steps}
use Rattle.flat_model.specs.OpenLaws.{FollowsOn}
use Rattle.flat_model.specs.Step.{IsStep, IsUnborn, step}
use Rattle.flat_model.specs.Told.{entries_of}
use Rattle.flat_model.proofs.BirthTests.{is_birth-is}
use Rattle.flat_model.proofs.Frames.{StepFrame-step}
use Rattle.flat_model.proofs.Lives.{AreBorn-step, AreBorn-replay}
use Rattle.flat_model.proofs.Replays.{replay-append, Steps-split, entries_of-append}
use Rattle.vm_world.specs.Events.{CanTry, MayBear}
use Rattle.vm_world.specs.FlatMemory.{shape_of}
use Rattle.vm_world.specs.HistoryFits.{is_exit, is_exit_of}
use Rattle.vm_world.specs.Pages.{contents_of}
use Rattle.vm_world.specs.SeatLaws.{IsNewChild, MayComeNext, IsKnownAlive, HasSeen, IsAtRest, SeatLaw}
use Rattle.vm_world.specs.State.{KernelState, Seats, Sent, notes_of, seat_of, is_top, room_of}
use Rattle.vm_world.specs.StateFits.{StateFits}
use Rattle.vm_world.specs.World.{AllTell}
use Rattle.vm_world.proofs.MayFails.{alive-flat}
use Rattle.vm_world.proofs.Told.{disk-sent, lock-sent}

-- THE ENTRIES OF A PROCESS
abbrev latest : ℕ → Option Entry → Entry → Option Entry
latest p last e = if e.process == p then Some e else last

-- the last entry of a process is the last of its own
last-from : (p : ℕ) (H : List Entry) (o : Option Entry) → fold (latest p) o (entries_of H p) ≡ fold (latest p) o H
last-from p [] o = refl
last-from p (e ∷ H) o = elim (cases_Bool (e.process == p)) [
  | inl own ↦
      ap (λ (b : Bool). fold (latest p) o (cond b (e ∷ entries_of H p) (entries_of H p))) own
      ∙ ap (λ (b : Bool). fold (latest p) (cond b (Some e) o) (entries_of H p)) own ∙ last-from p H (Some e)
      ∙ sym (ap (λ (b : Bool). fold (latest p) (cond b (Some e) o) H) own)
  | inr other ↦
      ap (λ (b : Bool). fold (latest p) o (cond b (e ∷ entries_of H p) (entries_of H p))) other ∙ last-from p H o
      ∙ sym (ap (λ (b : Bool). fold (latest p) (cond b (Some e) o) H) other)
]

-- a test that only entries of a process pass
any-own : (t : Entry → Bool) (p : ℕ) (H : List Entry) → ((k : ℕ) (e : Entry) → slice_get H k ≡ Some e → t e ≡ true → e.process ≡ p) → list_any t (entries_of H p) ≡ list_any t H
any-own t p [] only = refl
any-own t p (e ∷ H) only =
    let rest = any-own t p H (λ k d at. only (suc k) d at) in
    elim (eqb_tells e.process p) [
      | inl own ↦ ap (λ (b : Bool). list_any t (cond b (e ∷ entries_of H p) (entries_of H p))) own.0 ∙ ap (λ (b : Bool). t e || b) rest
      | inr other ↦
          let none : t e ≡ false = elim (cases_Bool (t e)) [ inl passed ↦ absurd (other.1 (only 0 e refl passed)) | inr failed ↦ failed ] in
          ap (λ (b : Bool). list_any t (cond b (e ∷ entries_of H p) (entries_of H p))) other.0 ∙ rest ∙ sym (ap (λ (b : Bool). b || list_any t H) none)
    ]

any-front : (t : Entry → Bool) (H K : List Entry) → list_any t H ≡ true → list_any t (H ++ K) ≡ true
any-front t [] K is = absurd (let z : false ≡ true = is in cc)
any-front t (e ∷ H) K is = first (any-front t H K) (t e) is
  where
    first : (list_any t H ≡ true → list_any t (H ++ K) ≡ true) → (b : Bool) → (b || list_any t H) ≡ true → (b || list_any t (H ++ K)) ≡ true
    first rest true is = refl
    first rest false is = rest is

-- A SEAT MAY TRY
no-root : (p : ℕ) (n : ℕ) (entries : List ℕ) → n < room_of entries p → (p == 0) ≡ false
no-root zero n entries room = absurd (omega (arith, room))
no-root (suc q) n entries room = elim (eqb_tells (suc q) 0) [ inl y ↦ absurd (let e = y.1 in omega (arith, e)) | inr x ↦ x.0 ]

bears-new : (opening : Flat) (s : KernelState) (seats : Seats) (p n : ℕ) (call : Call) → StateFits opening s seats → n < room_of s.entries p → IsNewChild s.parents (entries_of s.history p) p call → MayBear s p call
bears-new opening s seats p n (Fork child) fit room new =
    let forks : (k : ℕ) (e : Entry) → slice_get s.history k ≡ Some e → is_birth child e ≡ true → e.process ≡ p =
    λ k e at is. same-some e.process p (sym (fit.rooms.forks k child e at ((is_birth-is child e).0 is).0) ∙ new.0) in (
      new.0,
      fit.births.lived child ∙ ap (λ (o : Option ℕ). option_map_or (λ parent. parent == 0) o false || list_any (is_birth child) s.history) new.0
          ∙ ap (λ (b : Bool). b || list_any (is_birth child) s.history) (no-root p n s.entries room) ∙ sym (any-own (is_birth child) p s.history forks) ∙ new.1,
    )
  where
    same-some : (x y : ℕ) → ◌≡◌ {A = Option ℕ} (Some x) (Some y) → x ≡ y
    same-some x y is = cc
bears-new opening s seats p n call fit room new = search

can-try : (opening : Flat) (s : KernelState) (seats : Seats) (seat p : ℕ) (call : Call) → StateFits opening s seats → seat_of p ≡ seat → IsSome (finite.get s.memory.spaces p) → MayComeNext s.parents s.entries (entries_of s.history p) p call → CanTry s seat p call
can-try opening s seats seat p call fit own alive next = record {
  own = own;
  alive = alive;
  room = next.room;
  follows = λ reply cleared. subst (λ (o : Option Entry). MatchOption o (Unit {0}) (λ d. FollowsOn d (record { process = p; call = call; reply = reply; cleared = cleared }))) (last-from p s.history None) (next.follows reply cleared);
  bears = bears-new opening s seats p (length (entries_of s.history p)) call fit next.room next.bears;
}

-- A PROCESS IS ALIVE until its Exit
known-alive : (opening : Flat) (s : KernelState) (seats : Seats) (seen later : List Entry) (p : ℕ) → StateFits opening s seats → s.history ≡ seen ++ later → IsKnownAlive s.parents seen (entries_of s.history p) p → IsSome (finite.get s.memory.spaces p)
known-alive opening s seats seen later p fit is known = fit.births.stays p born (sym (any-own (is_exit_of p) p s.history (λ k e at exit. of-process e exit)) ∙ known.here)
  where
    of-process : (e : Entry) → is_exit_of p e ≡ true → e.process ≡ p
    of-process e exit = elim (eqb_tells e.process p) [
      | inl own ↦ own.1
      | inr other ↦ absurd (let z : false ≡ true = sym (ap (λ (b : Bool). if b then is_exit e.call else false) other.0) ∙ exit in cc)
    ]

    longer : (a : Bool) (H K : List Entry) → (a || list_any (is_birth p) H) ≡ true → (a || list_any (is_birth p) (H ++ K)) ≡ true
    longer true H K is = refl
    longer false H K is = any-front (is_birth p) H K is

    born : IsTrue (set.contains s.born p)
    born = fit.births.lived p ∙ ap (λ (H : List Entry). is_top s.parents p || list_any (is_birth p) H) is ∙ longer (is_top s.parents p) seen later known.born

-- what is known of a process outlasts more that is seen
longer-alive : (parents : List ℕ) (seen later own : List Entry) (p : ℕ) → IsKnownAlive parents seen own p → IsKnownAlive parents (seen ++ later) own p
longer-alive parents seen later own p known = record { born = by_top (is_top parents p) known.born; here = known.here }
  where
    by_top : (a : Bool) → (a || list_any (is_birth p) seen) ≡ true → (a || list_any (is_birth p) (seen ++ later)) ≡ true
    by_top true born = refl
    by_top false born = any-front (is_birth p) seen later born

-- A PROCESS STAYS ALIVE while others act
alive-step : (F : Flat) (e : Entry) (p : ℕ) → AreBorn F → IsStep F e → e.process ≢ p → IsSome (space_of F p) → IsSome (space_of (step F e) p)
alive-step F e p born st other alive =
    let none : is_birth p e ≡ false = elim (cases_Bool (is_birth p e)) [
      | inl birth ↦ absurd (let unborn : IsFalse (set.contains F.born p) = subst (λ (c : Call). IsUnborn F c) ((is_birth-is p e).0 birth).0 st.unborn in let z : true ≡ false = sym (born p alive) ∙ unborn in cc)
      | inr no_birth ↦ no_birth
    ] in
    subst (λ (o : Option Space). IsSome o) (sym ((StepFrame-step F e born st).spaces p (λ is. other (sym is)) none)) alive

alive-replay : (F : Flat) (K : List Entry) (p : ℕ) → AreBorn F → Steps F K → length (entries_of K p) ≡ 0 → IsSome (space_of F p) → IsSome (space_of (replay F K) p)
alive-replay F [] p born steps none alive = alive
alive-replay F (e ∷ K) p born steps none alive = elim (eqb_tells e.process p) [
  | inl own ↦ absurd (let some : length (entries_of (e ∷ K) p) ≡ suc (length (entries_of K p)) = ap (λ (b : Bool). length (cond b (e ∷ entries_of K p) (entries_of K p))) own.0 in omega (arith, some, none))
  | inr other ↦
      let rest : length (entries_of K p) ≡ 0 = sym (ap (λ (b : Bool). length (cond b (e ∷ entries_of K p) (entries_of K p))) other.0) ∙ none in
      alive-replay (step F e) K p (AreBorn-step F e born steps.0) steps.1 rest (alive-step F e p born steps.0 other.1 alive)
]

lives : (opening : Flat) (s : KernelState) (seats : Seats) (seen : List Entry) (p : ℕ) → StateFits opening s seats → AllTell s.memory.world (notes_of seats) → AreBorn opening → HasSeen s.history seen p → IsSome (space_of (replay opening seen) p) → IsSome (finite.get s.memory.spaces p)
lives opening s seats seen p fit tell born has alive =
    let h = fit.replays tell in
    let later = has.rest.0 in
    let both = Steps-split opening seen later (subst (λ (H : List Entry). Steps opening H) has.rest.1 h.legal.steps) in
    let joined = ap (λ (es : List Entry). length es) (sym has.own ∙ ap (λ (H : List Entry). entries_of H p) has.rest.1 ∙ entries_of-append seen later p) in
    let sum = length-append (entries_of seen p) (entries_of later p) in
    let none : length (entries_of later p) ≡ 0 = omega (arith, joined, sum) in
    let after : IsSome (space_of (replay (replay opening seen) later) p) = alive-replay (replay opening seen) later p (AreBorn-replay opening seen born both.0) both.1 none alive in
    let last : IsSome (space_of (replay opening s.history) p) = subst (λ (F : Flat). IsSome (space_of F p)) (sym (ap (replay opening) has.rest.1 ∙ replay-append opening seen later)) after in
    (alive-flat (shape_of s.memory) s.born (contents_of s.memory.world (notes_of seats)) p).0 (subst (λ (F : Flat). IsSome (space_of F p)) (sym h.shows) last)

-- NOTHING IS OUTSIDE
still : (opening : Flat) (s : KernelState) (seats : Seats) → StateFits opening s seats → ((k : ℕ) → seats k ≡ None) → IsAtRest s.memory.world.store
still opening s seats fit none = record {
  disks = λ number seat is. no-sent (seats seat) (none seat) (disk-sent opening s seats number seat fit is);
  unlocked = unlocked;
  home = λ frame lt. is-home (bytes_at s.memory.world.store.frames frame) ((fit.memory.frames.sound.each frame lt).away ∙ ap is_some (unlocked frame));
}
  where
    no-sent : (o : Option Sent) → o ≡ None → IsSome o → ⊥
    no-sent o is some = let z : false ≡ true = sym (ap is_some is) ∙ some in cc

    unlocked : (frame : ℕ) → (row_at s.memory.world.store.rows frame).holder ≡ None
    unlocked frame = by_holder (row_at s.memory.world.store.rows frame).holder refl
      where
        by_holder : (o : Option ℕ) → (row_at s.memory.world.store.rows frame).holder ≡ o → o ≡ None
        by_holder None is = refl
        by_holder (Some t) is = absurd (no-sent (seats t) (none t) (lock-sent opening s seats frame t fit is))

    is-home : (o : Option (List ℕ)) → is_none o ≡ false → IsSome o
    is-home None is = absurd (let z : true ≡ false = is in cc)
    is-home (Some b) is = refl

pub seat_law : SeatLaw
seat_law = record { can_try = can-try; known = known-alive; longer = longer-alive; lives = lives; still = still }
