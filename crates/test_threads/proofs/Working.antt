-- WHAT A CALLER GOES ON WITH: what is known of it holds after each of its calls.
use Rattle.std.proofs.Common.{◌≡◌, ℕ, ◌+◌, ◌-◌, ◌<◌, ◌≤◌, ◌==◌, Bool, true, false, cond, List, [], ◌∷◌, ◌++◌, length, Option, Some, None, refl, sym, ap, ◌∙◌, ◌||◌, inl, subst, arith}
use Rattle.std.specs.Prelude.{IsTrue, IsFalse, MatchOption, if◌then◌else◌}
use Rattle.std.specs.List.{list_any, filter}
use Rattle.std.specs.Option.{option_map_or}
use Rattle.std.proofs.lemmas.Bool.{eq-eqb, or_from, or_left, or_right}
use Rattle.std.proofs.lemmas.List.{length-append}
use Rattle.std.proofs.lemmas.List.Folds.{list_any-append}
use mathlib.Core.List.{IsPrefix}
use Rattle.kernel_lock.specs.Seats.{newcomer}
use Rattle.vm_core.specs.flat_model.Births.{is_birth, is_done, is_fork_of}
use Rattle.vm_core.specs.flat_model.OpenLaws.{last_entry, FollowsOn, MayFollow}
use Rattle.flat_model.proofs.Opens.{last_entry-push}
use Rattle.vm_core.specs.vm_types.Parts.{next_part, ends_call}
use Rattle.vm_core.specs.vm_types.WellFormed.{IsWellFormed}
use Rattle.vm_core.specs.vm_types.declared.call.Call.{Call}
use Rattle.vm_core.specs.vm_types.declared.call.Call.TheVariants.{Load, Store, Map, Unmap, Protect, Fork}
use Rattle.vm_core.specs.vm_types.declared.call.Entry.{Entry}
use Rattle.vm_core.specs.vm_types.declared.call.Reply.{Reply}
use Rattle.vm_core.specs.vm_types.declared.call.Reply.TheVariants.{Done}
use Rattle.vm_core.specs.vm_world.HistoryFits.{has_left, is_exit_of, is_exit}
use Rattle.vm_core.specs.vm_world.SeatLaws.{IsKnownAlive, IsNewChild}
use Rattle.vm_core.specs.vm_world.ServingLaws.{done_entry}
use Rattle.vm_core.specs.vm_world.State.{KernelState, Sent, is_top, process_parent, room_of}
use Rattle.vm_kernel.specs.Callers.{KernelSeen, CallerSeen, IsCallerOf}
use Rattle.vm_kernel.specs.Since.{seat_of_entry}
use Rattle.vm_kernel.specs.Turns.{MayCall, CallerGoesOn, HasSeenMore, IsTurn, IsCallDone, LacksMemory, IsForCall, SeesBirth}
use Rattle.vm_kernel.specs.declared.turn.Turn.TheVariants.{Again}
use Rattle.vm_kernel.specs.declared.turn.Why.{Why}
use Rattle.test_threads.specs.Workers.{IsTurnCall, IsForLast, IsWorking}

-- LISTS THAT GROW
any-kept : (t g : Entry → Bool) (H : List Entry) → list_any t (filter g H) ≡ true → list_any t H ≡ true
any-kept t g [] is = is
any-kept t g (e ∷ H) is = by_kept (g e) (any-kept t g H) is
  where
    by_first : (b : Bool) → (list_any t (filter g H) ≡ true → list_any t H ≡ true) → (b || list_any t (filter g H)) ≡ true → (b || list_any t H) ≡ true
    by_first true rest some = refl
    by_first false rest some = rest some

    by_kept : (b : Bool) → (list_any t (filter g H) ≡ true → list_any t H ≡ true) → list_any t (cond b (e ∷ filter g H) (filter g H)) ≡ true → (t e || list_any t H) ≡ true
    by_kept true rest some = by_first (t e) rest some
    by_kept false rest some = or_right (t e) (list_any t H) (rest some)

any-longer : (t : Entry → Bool) (H K : List Entry) → IsPrefix H K → list_any t H ≡ true → list_any t K ≡ true
any-longer t H K begins is = subst (λ (l : List Entry). list_any t l ≡ true) begins.1 (list_any-append t H begins.0 ∙ or_left (list_any t H) (list_any t begins.0) is)

top-or-seen : (top : Bool) (t : Entry → Bool) (H K : List Entry) → IsPrefix H K → IsTrue (top || list_any t H) → IsTrue (top || list_any t K)
top-or-seen true t H K begins born = refl
top-or-seen false t H K begins born = any-longer t H K begins born

none-more : (t : Entry → Bool) (H : List Entry) (e : Entry) → list_any t H ≡ false → list_any t (e ∷ []) ≡ false → list_any t (H ++ e ∷ []) ≡ false
none-more t H e none other = list_any-append t H (e ∷ []) ∙ or_from (list_any t H) (list_any t (e ∷ [])) none other

-- WHAT A TEST'S CALL IS
-- a call behind which its process may make any other
record IsWhole (call : Call) : Type 0 where
  pub ends : (reply : Reply) → IsTrue (ends_call call reply)
  pub stays : is_exit call ≡ false

whole-turn : (call : Call) → IsTurnCall call → IsWhole call
unfolding next_part
whole-turn (Load a n) is = record { ends = λ reply. refl; stays = refl }
whole-turn (Store a n v) is = record { ends = λ reply. refl; stays = refl }
whole-turn (Map place len prot kind object offset) is = record { ends = λ reply. refl; stays = refl }
whole-turn (Unmap a len) is = record { ends = λ reply. refl; stays = refl }
whole-turn (Protect a len prot) is = record { ends = λ reply. refl; stays = refl }
whole-turn call is = absurd is

whole-fork : (child : ℕ) → IsWhole (Fork child)
unfolding next_part
whole-fork child = record { ends = λ reply. refl; stays = refl }

turn-bears : (parents : List ℕ) (own : List Entry) (p : ℕ) (call : Call) → IsTurnCall call → IsNewChild parents own p call
turn-bears parents own p (Fork child) is = absurd is
turn-bears parents own p call is = tt

turn-no-fork : (p : ℕ) (call : Call) → IsTurnCall call → is_fork_of p call ≡ false
turn-no-fork p (Load a n) is = refl
turn-no-fork p (Store a n v) is = refl
turn-no-fork p (Map place len prot kind object offset) is = refl
turn-no-fork p (Unmap a len) is = refl
turn-no-fork p (Protect a len prot) is = refl
turn-no-fork p call is = absurd is

if-false : (b c : Bool) → c ≡ false → ((if b then c else false) || false) ≡ false
if-false true c is = or_from c false is refl
if-false false c is = refl

stays-here : (H : List Entry) (p n : ℕ) (call : Call) (reply : Reply) (cleared : ℕ) → IsWhole call → IsFalse (has_left p H) → IsFalse (has_left p (H ++ done_entry n call reply cleared ∷ []))
stays-here H p n call reply cleared whole here =
    none-more (is_exit_of p) H (done_entry n call reply cleared) here (if-false (n == p) (is_exit call) whole.stays)

stays-childless : (H : List Entry) (child n : ℕ) (call : Call) (reply : Reply) (cleared : ℕ) → IsTurnCall call → IsFalse (list_any (is_birth child) H)
    → IsFalse (list_any (is_birth child) (H ++ done_entry n call reply cleared ∷ []))
stays-childless H child n call reply cleared is none =
    none-more (is_birth child) H (done_entry n call reply cleared) none (if-false (is_done reply) (is_fork_of child call) (turn-no-fork child call is))

follows-next : (H : List Entry) (n : ℕ) (call : Call) (reply : Reply) (cleared : ℕ) → IsWhole call → ((e : Entry) → MayFollow H e) → (e : Entry) → MayFollow (H ++ done_entry n call reply cleared ∷ []) e
follows-next H n call reply cleared whole follows e =
    subst (λ (o : Option Entry). MatchOption o (Unit {0}) (λ x. FollowsOn x e)) (sym (last_entry-push H (done_entry n call reply cleared) e.process)) (by_process (n == e.process))
  where
    by_process : (b : Bool) → MatchOption (if b then Some (done_entry n call reply cleared) else last_entry e.process H) (Unit {0}) (λ x. FollowsOn x e)
    by_process true = inl (whole.ends reply)
    by_process false = follows e

pub for-last : (p : ℕ) (call : Call) (note : Option Sent) → IsTurnCall call → IsForCall p call note → IsForLast p (Some call) note
for-last p call None turn is = tt
for-last p call (Some note) turn is = (is, turn)

pub for-free : (p : ℕ) (last : Option Call) (o : Option Sent) → o ≡ None → IsForLast p last o
for-free p last o none = subst (IsForLast p last) (sym none) tt

-- BEFORE ITS FIRST CALL
pub working-new : (k : KernelSeen) (c : CallerSeen) (seat p q n : ℕ) → c ≡ record { seat = newcomer k seat; process = p } → process_parent k.opening.parents p ≡ Some q → n ≤ room_of k.opening.entries p
    → IsCallerOf k c × IsWorking k.opening c p q n (q == 0) false None
working-new k c seat p q n is parent room = subst (λ (x : CallerSeen). IsCallerOf k x × IsWorking k.opening x p q n (q == 0) false None) (sym is) ((refl, refl, refl), new)
  where
    top : is_top k.opening.parents p ≡ (q == 0)
    top = ap (λ (o : Option ℕ). option_map_or (λ x. x == 0) o false) parent

    new : IsWorking k.opening (record { seat = newcomer k seat; process = p }) p q n (q == 0) false None
    new = record {
      process = refl;
      parent = parent;
      born = λ here. or_left (is_top k.opening.parents p) false (top ∙ here);
      here = refl;
      left = omega (arith, room);
      follows = λ e. tt;
      childless = λ none child. refl;
      hand = tt;
    }

-- WHAT IS IN HAND is for the call that was tried last
pub hand-none : (p : ℕ) (call : Call) (last : Option Call) (o : Option Sent) → last ≡ None → IsForLast p last o → IsForCall p call o
hand-none p call None None is hand = tt
hand-none p call None (Some note) is hand = absurd hand
hand-none p call (Some last) o is hand = absurd (cc (is))

pub hand-last : (p : ℕ) (call : Call) (last : Option Call) (o : Option Sent) → last ≡ Some call → IsForLast p last o → IsForCall p call o
hand-last p call last o is hand = of o (subst (λ (l : Option Call). IsForLast p l o) is hand)
  where
    of : (o : Option Sent) → IsForLast p (Some call) o → IsForCall p call o
    of None h = tt
    of (Some note) h = h.0

pub hand-kind : (p : ℕ) (call : Call) (last : Option Call) (o : Option Sent) → last ≡ Some call → IsForLast p last o → ¬ (o ≡ None) → IsTurnCall call
hand-kind p call last o is hand some = of o (subst (λ (l : Option Call). IsForLast p l o) is hand) some
  where
    of : (o : Option Sent) → IsForLast p (Some call) o → ¬ (o ≡ None) → IsTurnCall call
    of None h full = absurd (full refl)
    of (Some note) h full = h.1

module _ (k : KernelSeen) (c d : CallerSeen) (p q n : ℕ) (alive forked : Bool) (last : Option Call) (is : IsWorking k.opening c p q n alive forked last) (goes : CallerGoesOn c d) where
  born-later : alive ≡ true → IsTrue (is_top k.opening.parents p || list_any (is_birth p) d.seat.seen)
  born-later here = top-or-seen (is_top k.opening.parents p) (is_birth p) c.seat.seen d.seat.seen goes.seen (is.born here)

  -- with no entry more
  pub working-still : (last' : Option Call) → d.seat.own ≡ c.seat.own → IsForLast p last' d.seat.note → IsWorking k.opening d p q n alive forked last'
  working-still last' own hand = record {
    process = goes.process ∙ is.process;
    parent = is.parent;
    born = born-later;
    here = subst (λ (H : List Entry). IsFalse (has_left p H)) (sym own) is.here;
    left = subst (λ (H : List Entry). length H + n ≤ room_of k.opening.entries p) (sym own) is.left;
    follows = λ e. subst (λ (H : List Entry). MayFollow H e) (sym own) (is.follows e);
    childless = λ none child. subst (λ (H : List Entry). IsFalse (list_any (is_birth child) H)) (sym own) (is.childless none child);
    hand = hand;
  }

  -- with one more
  working-more : length c.seat.own < room_of k.opening.entries c.process → (call : Call) (reply : Reply) (cleared : ℕ) (forked' : Bool) (last' : Option Call) → IsWhole call
      → (forked' ≡ false → (child : ℕ) → IsFalse (list_any (is_birth child) (c.seat.own ++ done_entry c.process call reply cleared ∷ [])))
      → d.seat.own ≡ c.seat.own ++ done_entry c.process call reply cleared ∷ [] → d.seat.note ≡ None → IsWorking k.opening d p q (n - 1) alive forked' last'
  working-more some call reply cleared forked' last' whole childless own free = record {
    process = goes.process ∙ is.process;
    parent = is.parent;
    born = born-later;
    here = subst (λ (H : List Entry). IsFalse (has_left p H)) (sym own) (stays-here c.seat.own p c.process call reply cleared whole is.here);
    left =
        let long : length d.seat.own ≡ length c.seat.own + 1 = ap length own ∙ length-append c.seat.own (done_entry c.process call reply cleared ∷ []) in
        let was = is.left in
        let more : length c.seat.own < room_of k.opening.entries p = subst (λ (x : ℕ). length c.seat.own < room_of k.opening.entries x) is.process some in
        omega (arith, long, was, more);
    follows = λ e. subst (λ (H : List Entry). MayFollow H e) (sym own) (follows-next c.seat.own c.process call reply cleared whole is.follows e);
    childless = λ none child. subst (λ (H : List Entry). IsFalse (list_any (is_birth child) H)) (sym own) (childless none child);
    hand = for-free p last' d.seat.note free;
  }

  pub working-done : (call : Call) (reply : Reply) (last' : Option Call) → MayCall k c call → IsTurnCall call → IsCallDone c call d reply → IsWorking k.opening d p q (n - 1) alive forked last'
  working-done call reply last' may turn done =
      working-more may.next.room call reply done.entry.0 forked last' (whole-turn call turn) (λ none child. stays-childless c.seat.own child c.process call reply done.entry.0 turn (is.childless none child)) done.entry.1 done.free

  pub working-forked : (child : ℕ) (reply : Reply) (forked' : Bool) (last' : Option Call) → MayCall k c (Fork child) → forked ≡ false → (forked' ≡ false → is_done reply ≡ false) → IsCallDone c (Fork child) d reply
      → IsWorking k.opening d p q (n - 1) alive forked' last'
  working-forked child reply forked' last' may never unless done =
      working-more may.next.room (Fork child) reply done.entry.0 forked' last' (whole-fork child)
      (λ none other. none-more (is_birth other) c.seat.own (done_entry c.process (Fork child) reply done.entry.0) (is.childless never other)
      (subst (λ (b : Bool). ((if b then child == other else false) || false) ≡ false) (sym (unless none)) refl))
      done.entry.1 done.free

  -- A WORKER after its call was done; after a turn that came to no reply; and where memory was lacking
  pub works-done : (m : ℕ) (call : Call) (reply : Reply) → m ≡ n - 1 → MayCall k c call → IsTurnCall call → IsCallDone c call d reply → IsWorking k.opening d p q m alive forked (Some call)
  works-done m call reply fewer may turn done =
      subst (λ (x : ℕ). IsWorking k.opening d p q x alive forked (Some call)) (sym fewer) (working-done call reply (Some call) may turn done)

  pub works-again : (call : Call) (why : Why) → IsTurnCall call → IsTurn c call d (Again why) → IsWorking k.opening d p q n alive forked (Some call)
  works-again call why turn again =
      working-still (Some call) again.0 (for-last p call d.seat.note turn (subst (λ (x : ℕ). IsForCall x call d.seat.note) is.process again.1))

  pub works-lacking : (call : Call) (last' : Option Call) → LacksMemory c call d → IsWorking k.opening d p q n alive forked last'
  works-lacking call last' lacks = working-still last' lacks.none (for-free p last' d.seat.note lacks.free)

  -- after its Fork was done
  pub works-forked : (m child : ℕ) (reply : Reply) (born : Bool) → m ≡ n - 1 → born ≡ is_done reply → MayCall k c (Fork child) → forked ≡ false → IsCallDone c (Fork child) d reply
      → IsWorking k.opening d p q m alive born last
  works-forked m child reply born fewer told may never done =
      subst (λ (x : ℕ). IsWorking k.opening d p q x alive born last) (sym fewer) (working-forked child reply born last may never (λ none. sym told ∙ none) done)

-- WHAT IT MAY DO
module _ (k : KernelSeen) (c : CallerSeen) (p q n : ℕ) (alive forked : Bool) (last : Option Call) (is : IsWorking k.opening c p q n alive forked last) (lives : alive ≡ true) (some : 0 < n) where
  has-room : length c.seat.own < room_of k.opening.entries c.process
  has-room = subst (λ (x : ℕ). length c.seat.own < room_of k.opening.entries x) (sym is.process) (let left = is.left in omega (arith, left, some))

  alive-now : IsKnownAlive k.opening.parents c.seat.seen c.seat.own c.process
  alive-now = subst (IsKnownAlive k.opening.parents c.seat.seen c.seat.own) (sym is.process) (record { born = is.born lives; here = is.here })

  pub may-turn : (call : Call) → IsTurnCall call → IsWellFormed call → IsForCall p call c.seat.note → MayCall k c call
  may-turn call turn formed hand = record {
    formed = formed;
    alive = alive-now;
    next = record { room = has-room; follows = λ reply cleared. is.follows (done_entry c.process call reply cleared); bears = turn-bears k.opening.parents c.seat.own c.process call turn };
    hand = subst (λ (x : ℕ). IsForCall x call c.seat.note) (sym is.process) hand;
  }

  pub may-fork : (child : ℕ) → process_parent k.opening.parents child ≡ Some p → forked ≡ false → IsWellFormed (Fork child) → c.seat.note ≡ None → MayCall k c (Fork child)
  may-fork child parent none formed free = record {
    formed = formed;
    alive = alive-now;
    next = record { room = has-room; follows = λ reply cleared. is.follows (done_entry c.process (Fork child) reply cleared); bears = (parent ∙ ap (λ (x : ℕ). Some x) (sym is.process), is.childless none child) };
    hand = subst (IsForCall c.process (Fork child)) (sym free) tt;
  }

  -- a child's worker names its parent
  pub may-bear : (e : CallerSeen) (p' q' n' : ℕ) (alive' forked' : Bool) (last' : Option Call) → IsWorking k.opening e p' q' n' alive' forked' last' → q' ≡ p → forked ≡ false → IsWellFormed (Fork p') → c.seat.note ≡ None
      → MayCall k c (Fork e.process)
  may-bear e p' q' n' alive' forked' last' child mine none formed free =
      subst (λ (x : ℕ). MayCall k c (Fork x)) (sym child.process) (may-fork p' (child.parent ∙ ap (λ (x : ℕ). Some x) mine) none formed free)

-- A CHILD THAT WAS BORN
-- has seen its birth
pub sees-birth : (c d : CallerSeen) (child : ℕ) → IsCallDone c (Fork child) d Done → CallerGoesOn c d → IsTrue (list_any (is_birth child) d.seat.seen)
sees-birth c d child done goes = any-kept (is_birth child) (λ e. seat_of_entry e == d.seat.number) d.seat.seen (subst (λ (H : List Entry). list_any (is_birth child) H ≡ true) (sym (goes.own ∙ done.entry.1)) own)
  where
    born : list_any (is_birth child) (done_entry c.process (Fork child) Done done.entry.0 ∷ []) ≡ true
    born = or_left (child == child) false (eq-eqb child child refl)

    own : list_any (is_birth child) (c.seat.own ++ done_entry c.process (Fork child) Done done.entry.0 ∷ []) ≡ true
    own = list_any-append (is_birth child) c.seat.own (done_entry c.process (Fork child) Done done.entry.0 ∷ []) ∙ or_right (list_any (is_birth child) c.seat.own) _ born

-- A worker that has seen more
module _ (k : KernelSeen) (c d : CallerSeen) (p q n : ℕ) (alive forked : Bool) (last : Option Call) (is : IsWorking k.opening c p q n alive forked last) (more : HasSeenMore c d) where
  more-own : d.seat.own ≡ c.seat.own
  more-own = ap (λ (x : CallerSeen). x.seat.own) more.rest

  -- is as alive as it was, or alive by what it has seen
  working-as : (alive' : Bool) → (alive' ≡ true → IsTrue (is_top k.opening.parents p || list_any (is_birth p) d.seat.seen)) → IsWorking k.opening d p q n alive' forked last
  working-as alive' born = record {
    process = ap (λ (x : CallerSeen). x.process) more.rest ∙ is.process;
    parent = is.parent;
    born = born;
    here = subst (λ (H : List Entry). IsFalse (has_left p H)) (sym more-own) is.here;
    left = subst (λ (H : List Entry). length H + n ≤ room_of k.opening.entries p) (sym more-own) is.left;
    follows = λ e. subst (λ (H : List Entry). MayFollow H e) (sym more-own) (is.follows e);
    childless = λ none child. subst (λ (H : List Entry). IsFalse (list_any (is_birth child) H)) (sym more-own) (is.childless none child);
    hand = subst (IsForLast p last) (sym (ap (λ (x : CallerSeen). x.seat.note) more.rest)) is.hand;
  }

  pub works-seen : IsWorking k.opening d p q n alive forked last
  works-seen = working-as alive (λ here. top-or-seen (is_top k.opening.parents p) (is_birth p) c.seat.seen d.seat.seen more.seen (is.born here))

  works-born : (parent : CallerSeen) → IsPrefix parent.seat.seen d.seat.seen → IsTrue (list_any (is_birth p) parent.seat.seen) → IsWorking k.opening d p q n true forked last
  works-born parent begins birth =
      working-as true (λ here. or_right (is_top k.opening.parents p) (list_any (is_birth p) d.seat.seen) (any-longer (is_birth p) parent.seat.seen d.seat.seen begins birth))

-- nothing is known of a process that may not have been born
dormant : (o : KernelState) (c : CallerSeen) (p q n : ℕ) (alive forked : Bool) (last : Option Call) → IsWorking o c p q n alive forked last → IsWorking o c p q n false forked last
dormant o c p q n alive forked last is = record {
  process = is.process;
  parent = is.parent;
  born = λ here. absurd (let z : false ≡ true = here in cc (z));
  here = is.here;
  left = is.left;
  follows = is.follows;
  childless = is.childless;
  hand = is.hand;
}

done-call : (c : CallerSeen) (child : ℕ) (d : CallerSeen) (r : Reply) → is_done r ≡ true → IsCallDone c (Fork child) d r → IsCallDone c (Fork child) d Done
done-call c child d Done is done = done
done-call c child d r is done = absurd (cc (is))

-- THE CHILD of a Fork that was done, whether it was born or not
pub works-child : (k : KernelSeen) (c d before parent : CallerSeen) (p q n : ℕ) (alive forked : Bool) (last : Option Call) (reply : Reply) (born : Bool) → IsWorking k.opening c p q n alive forked last
    → born ≡ is_done reply → IsCallDone before (Fork c.process) parent reply → CallerGoesOn before parent → SeesBirth (is_done reply) parent c d → IsWorking k.opening d p q n born forked last
works-child k c d before parent p q n alive forked last reply born is told done goes sees =
    by_born born told (subst (λ (b : Bool). SeesBirth b parent c d) (sym told) sees)
  where
    by_born : (b : Bool) → b ≡ is_done reply → SeesBirth b parent c d → IsWorking k.opening d p q n b forked last
    by_born true told' see =
        works-born k c d p q n alive forked last is see.0 parent see.1
        (subst (λ (x : ℕ). IsTrue (list_any (is_birth x) parent.seat.seen)) is.process
        (sees-birth before parent c.process (done-call before c.process parent reply (sym told') done) goes))
    by_born false told' see = subst (λ (x : CallerSeen). IsWorking k.opening x p q n false forked last) (sym see) (dormant k.opening c p q n alive forked last is)

pub sees-number : (born : Bool) (parent c d : CallerSeen) → SeesBirth born parent c d → d.seat.number ≡ c.seat.number
sees-number true parent c d sees = ap (λ (x : CallerSeen). x.seat.number) sees.0.rest
sees-number false parent c d sees = ap (λ (x : CallerSeen). x.seat.number) sees
