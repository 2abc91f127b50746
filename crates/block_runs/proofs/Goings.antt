-- A block may make each of its lines.
use Rattle.std.proofs.Common.{◌≡◌, ℕ, zero, suc, ◌+◌, ◌≤◌, ◌==◌, ◌||◌, Bool, true, false, List, [], ◌∷◌, ◌++◌, length, Some, refl, sym, ap, ◌∙◌, subst, length-append, append-nil, arith}
use Rattle.std.specs.Prelude.{IsTrue, IsFalse}
use Rattle.std.specs.Option.{option_map_or}
use Rattle.std.specs.List.{list_any}
use Rattle.std.proofs.lemmas.List.Elements.{filter-append}
use Rattle.std.proofs.lemmas.List.Folds.{list_any-append}
use Rattle.std.proofs.lemmas.List.Sums.{sum_by-append, sum_by-cons}
use mathlib.Core.List.{IsPrefix}
use Rattle.vm_script.specs.vm_types.declared.call.Entry.{Entry}
use Rattle.vm_script.specs.flat_model.Told.{entries_of}
use Rattle.vm_script.specs.flat_model.Births.{is_birth}
use Rattle.vm_script.specs.declared.plan.PlanAct.{PlanAct}
use Rattle.vm_script.specs.declared.plan.PlanLine.{PlanLine}
use Rattle.vm_script.specs.Told.{parent_of}
use Rattle.vm_script.specs.Counts.{parts, entry_count}
use Rattle.vm_core.specs.vm_world.HistoryFits.{has_left, is_exit_of}
use Rattle.vm_core.specs.vm_world.SeatLaws.{IsKnownAlive}
use Rattle.vm_core.specs.vm_world.State.{process_parent, is_top, room_of}
use Rattle.vm_kernel.specs.Callers.{KernelSeen, CallerSeen}
use Rattle.block_runs.specs.Callers.{tree, rooms, SeesMore}
use Rattle.block_runs.specs.Conditions.{IsFitAct, AreFit, EndsLast, MayMakeLines, MayGo, MayMakeLine}
use Rattle.block_runs.specs.Lines.{own_of}
use Rattle.block_runs.proofs.Lists.{each_front, each_back, any_longer}
use Rattle.block_runs.proofs.NextLines.{is_own}

-- LINES IN FRONT AND BEHIND

count_append : (q : ℕ) (xs ys : List PlanLine) → entry_count (own_of q (xs ++ ys)) ≡ entry_count (own_of q xs) + entry_count (own_of q ys)
count_append q xs ys = ap entry_count (filter-append (λ (l : PlanLine). l.process == q) xs ys) ∙ sum_by-append (λ (l : PlanLine). parts l.act) (own_of q xs) (own_of q ys)

pub fit_front : (kernel : KernelSeen) (xs ys : List PlanLine) → AreFit kernel (xs ++ ys) → AreFit kernel xs
fit_front kernel xs ys fit = record {
  room = λ q. let r = fit.room q in omega (arith, r, count_append q xs ys);
  acts = each_front (λ (l : PlanLine). IsFitAct l.act) xs ys fit.acts;
}

pub fit_back : (kernel : KernelSeen) (xs ys : List PlanLine) → AreFit kernel (xs ++ ys) → AreFit kernel ys
fit_back kernel xs ys fit = record {
  room = λ q. let r = fit.room q in omega (arith, r, count_append q xs ys);
  acts = each_back (λ (l : PlanLine). IsFitAct l.act) xs ys fit.acts;
}

pub fit_behind : (kernel : KernelSeen) (left behind : List PlanLine) (l : PlanLine) → left ≡ l ∷ behind → AreFit kernel left → AreFit kernel behind
fit_behind kernel left behind l is fit = fit_back kernel (l ∷ []) behind (subst (AreFit kernel) is fit)

-- WHERE LINES ARE LEFT

pub may_go : (kernel : KernelSeen) (p : ℕ) (S : List Entry) (next : ℕ) (left : List PlanLine) → MayMakeLines kernel p S next left → MayGo kernel p S next left
may_go kernel p S next [] may = tt
may_go kernel p S next (l ∷ left) may = may

pub may_on : (kernel : KernelSeen) (p : ℕ) (S : List Entry) (next : ℕ) (left : List PlanLine) → (left ≡ [] → ⊥) → MayGo kernel p S next left → MayMakeLines kernel p S next left
may_on kernel p S next [] some may = absurd (some refl)
may_on kernel p S next (l ∷ left) some may = may

pub may_at : (kernel : KernelSeen) (p : ℕ) (S : List Entry) (next : ℕ) (left behind : List PlanLine) (l : PlanLine) → left ≡ l ∷ behind → MayGo kernel p S next left → MayMakeLines kernel p S next (l ∷ behind)
may_at kernel p S next left behind l is may = subst (MayGo kernel p S next) is may

-- what a process knows that has seen more
longer : (kernel : KernelSeen) (p : ℕ) (S T own : List Entry) → IsPrefix S T → IsKnownAlive (tree kernel) S own p → IsTrue (is_top (tree kernel) p || list_any (is_birth p) T)
longer kernel p S T own le alive = by_top (is_top (tree kernel) p) alive.born
  where
    by_top : (b : Bool) → (b || list_any (is_birth p) S) ≡ true → (b || list_any (is_birth p) T) ≡ true
    by_top true h = refl
    by_top false h = any_longer (is_birth p) S T le h

neither : (f : Entry → Bool) (xs ys : List Entry) → list_any f xs ≡ false → list_any f ys ≡ false → list_any f (xs ++ ys) ≡ false
neither f xs ys a b = list_any-append f xs ys ∙ (ap (λ z. z || list_any f ys) a ∙ b)

-- What the entries of a line are behind those of a process, as far as its next lines go.
pub record AreMade (p next : ℕ) (own es : List Entry) (a : PlanAct) : Type 0 where
  pub few : length es ≤ parts a
  pub bears : (c : ℕ) → next ≤ c → IsFalse (list_any (is_birth c) es)
  pub stays : IsFalse (has_left p es)
  pub ends : EndsLast p (own ++ es)

-- behind a line, with these lines left of the process's own
pub went_on : (kernel : KernelSeen) (p next after : ℕ) (S T es : List Entry) (l : PlanLine) (behind more : List PlanLine) → MayMakeLines kernel p S next (l ∷ behind) → l.process ≡ p → own_of p behind ≡ own_of p more → next ≤ after
    → IsPrefix S T → entries_of T p ≡ entries_of S p ++ es → AreMade p after (entries_of S p) es l.act → MayMakeLines kernel p T after more
went_on kernel p next after S T es l behind more may own same up le grown made = record {
  alive = record {
    born = longer kernel p S T (entries_of S p) le may.alive;
    here = subst (λ xs. has_left p xs ≡ false) (sym grown) (left_none (entries_of S p) may.alive.here);
  };
  room =
      let r : length (entries_of S p) + entry_count (l ∷ own_of p more) ≤ room_of (rooms kernel) p = subst (λ ls. length (entries_of S p) + entry_count ls ≤ room_of (rooms kernel) p) (is_own p l behind own ∙ ap (λ ls. l ∷ ls) same) may.room in
      let e : entry_count (l ∷ own_of p more) ≡ parts l.act + entry_count (own_of p more) = sum_by-cons (λ (x : PlanLine). parts x.act) l (own_of p more) in
      let long : length (entries_of T p) ≡ length (entries_of S p) + length es = ap length grown ∙ length-append (entries_of S p) es in
      let few = made.few in
      omega (arith, r, e, long, few);
  ends = subst (EndsLast p) (sym grown) made.ends;
  bears = λ c from. subst (λ xs. list_any (is_birth c) xs ≡ false) (sym grown) (neither (is_birth c) (entries_of S p) es (may.bears c (omega (arith, from, up))) (made.bears c from));
}
  where
    left_none : (own : List Entry) → has_left p own ≡ false → has_left p (own ++ es) ≡ false
    left_none own here = neither (is_exit_of p) own es here made.stays

-- the caller has seen more, and made nothing
pub may_seen : (kernel : KernelSeen) (next : ℕ) (left : List PlanLine) (v w : CallerSeen) → SeesMore v w [] → MayGo kernel v.process v.seat.seen next left → MayGo kernel w.process w.seat.seen next left
may_seen kernel next [] v w more may = tt
may_seen kernel next (l ∷ left) v w more may = subst (λ q. MayMakeLines kernel q w.seat.seen next (l ∷ left)) (sym more.process) (record {
  alive = record {
    born = longer kernel v.process v.seat.seen w.seat.seen (entries_of v.seat.seen v.process) more.begun may.alive;
    here = subst (λ xs. has_left v.process xs ≡ false) same may.alive.here;
  };
  room = subst (λ xs. length xs + entry_count (own_of v.process (l ∷ left)) ≤ room_of (rooms kernel) v.process) same may.room;
  ends = subst (EndsLast v.process) same may.ends;
  bears = λ c from. subst (λ xs. list_any (is_birth c) xs ≡ false) same (may.bears c from);
})
  where
    same : entries_of v.seat.seen v.process ≡ entries_of w.seat.seen v.process
    same = sym (more.own ∙ append-nil (entries_of v.seat.seen v.process))

-- a process that is known to be alive, and made no entry, may make its first line
begins : (kernel : KernelSeen) (p : ℕ) (S : List Entry) (next : ℕ) (lines : List PlanLine) → IsTrue (is_top (tree kernel) p || list_any (is_birth p) S) → entries_of S p ≡ [] → AreFit kernel lines → MayMakeLines kernel p S next lines
begins kernel p S next lines born none fit = record {
  alive = record { born = born; here = ap (has_left p) none };
  room = let e : length (entries_of S p) ≡ 0 = ap (λ (xs : List Entry). length xs) none in let r = fit.room p in omega (arith, r, e);
  ends = subst (EndsLast p) (sym none) tt;
  bears = λ d from. ap (list_any (is_birth d)) none;
}

-- a child that was born may
pub child_begins : (kernel : KernelSeen) (c : ℕ) (S : List Entry) (lines : List PlanLine) → list_any (is_birth c) S ≡ true → entries_of S c ≡ [] → AreFit kernel lines → MayMakeLines kernel c S (c + 1) lines
child_begins kernel c S lines born none fit = begins kernel c S (c + 1) lines (ap (λ z. is_top (tree kernel) c || z) born ∙ or_true (is_top (tree kernel) c)) none fit
  where
    or_true : (b : Bool) → (b || true) ≡ true
    or_true true = refl
    or_true false = refl

pub same_parents : (parents : List ℕ) (p : ℕ) → process_parent parents p ≡ parent_of parents p
same_parents parents zero = refl
same_parents parents (suc i) = refl

-- a top block may
pub top_begins : (kernel : KernelSeen) (p : ℕ) (S : List Entry) (next : ℕ) (lines : List PlanLine) → parent_of (tree kernel) p ≡ Some 0 → entries_of S p ≡ [] → AreFit kernel lines → MayMakeLines kernel p S next lines
top_begins kernel p S next lines top none fit =
    begins kernel p S next lines (ap (λ z. z || list_any (is_birth p) S) (ap (λ o. option_map_or (λ (parent : ℕ). parent == 0) o false) (same_parents (tree kernel) p ∙ top))) none fit

-- the next line may be made
pub may_make : (kernel : KernelSeen) (v : CallerSeen) (next : ℕ) (l : PlanLine) (left behind : List PlanLine) → left ≡ l ∷ behind → l.process ≡ v.process → AreFit kernel left → MayGo kernel v.process v.seat.seen next left → MayMakeLine kernel v l
may_make kernel v next l left behind is own fit may =
    let here = may_at kernel v.process v.seat.seen next left behind l is may in
    record {
      fit = (subst (AreFit kernel) is fit).acts.0;
      alive = here.alive;
      room =
          let r : length (entries_of v.seat.seen v.process) + entry_count (l ∷ own_of v.process behind) ≤ room_of (rooms kernel) v.process = subst (λ ls. length (entries_of v.seat.seen v.process) + entry_count ls ≤ room_of (rooms kernel) v.process) (is_own v.process l behind own) here.room in
          let e : entry_count (l ∷ own_of v.process behind) ≡ parts l.act + entry_count (own_of v.process behind) = sum_by-cons (λ (x : PlanLine). parts x.act) l (own_of v.process behind) in
          omega (arith, r, e);
      ends = here.ends;
    }
