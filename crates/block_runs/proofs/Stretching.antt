-- A block goes through a stretch of its lines.
use Rattle.std.proofs.Common.{◌≡◌, ℕ, zero, suc, ◌+◌, ◌-◌, ◌==◌, ◌≤◌, ◌<◌, Bool, true, false, List, [], ◌∷◌, ◌++◌, length, Some, refl, sym, ap, ◌∙◌, subst, cond, ◌||◌, eq-eqb, append_assoc, length-append, arith, rules, tests, ⊎_elim, inl, inr}
use Rattle.std.specs.List.{list_any}
use Rattle.std.specs.Prelude.{filter, drop, slice_index_or, slice_set}
use Rattle.std.proofs.lemmas.Bool.{cases_Bool, false≢true}
use Rattle.std.proofs.lemmas.List.Elements.{filter-append}
use Rattle.std.proofs.lemmas.List.Folds.{list_any-append}
use mathlib.Core.List.{IsPrefix}
use Rattle.vm_script.specs.vm_types.declared.call.Call.TheVariants as call
use Rattle.vm_script.specs.vm_types.declared.call.Reply.{Reply}
use Rattle.vm_script.specs.vm_types.declared.call.Entry.{Entry}
use Rattle.vm_script.specs.flat_model.Told.{entries_of}
use Rattle.vm_script.specs.flat_model.Births.{is_birth, is_done, is_fork_of}
use Rattle.vm_script.specs.declared.plan.PlanAct.{PlanAct}
use Rattle.vm_script.specs.declared.plan.PlanAct.TheVariants as act
use Rattle.vm_script.specs.declared.plan.PlanLine.{PlanLine}
use Rattle.vm_script.specs.Blocks.{IsProcessBlock}
use Rattle.vm_script.specs.Counts.{parts}
use Rattle.vm_script.specs.Told.{parent_of}
use Rattle.vm_script.proofs.Ranges.{within}
use Rattle.vm_script.proofs.Tellings.{prefix_trans}
use Rattle.vm_kernel.specs.Callers.{KernelSeen, CallerSeen, IsCallerOf}
use Rattle.block_runs.specs.Callers.{tree, IsCaller, SeesMore, HasMade}
use Rattle.block_runs.specs.Conditions.{AreFit, MayMakeLines, MayGo}
use Rattle.block_runs.specs.Running.{RunsOn}
use Rattle.vm_kernel.specs.Turns.{MayCall, CallerGoesOn, IsCallDone}
use Rattle.block_runs.specs.Rows.{AreNumbered, Agree, IsFresh, AreFresh, MayBeOver, IsOnWay, IsChildBorn, StretchEnds, IsStretch, EndsAtWait, MakesLine, FirstSeesMore}
use Rattle.block_runs.specs.Lines.{own_of, from_own, is_end, ends_in, ForksNext, NextIs, StandsAt, IsCallLine, step_of}
use Rattle.block_runs.specs.declared.lines.Step.TheVariants as step
use Rattle.block_runs.proofs.Lists.{any_longer, prefix_none, prefix_refl, each_front, each_back, each_weaker, numbered_back}
use Rattle.block_runs.proofs.NextLines.{Next, next_line, none_left, is_own, not_own, outside_own, parted_at, block_ends}
use Rattle.block_runs.proofs.Runs.{runs_nothing, runs_then, runs_more, runs_line, runs_refused, unborn, fork_of}
use Rattle.block_runs.proofs.Goings.{fit_front, fit_back, fit_behind, may_go, may_at, may_make, may_seen, went_on, child_begins, same_parents}
use Rattle.block_runs.proofs.KernelCalls.{call_made, may_call}
use Rattle.block_runs.proofs.Spelled.{line_made, fork_made}

-- The block p made lines, and these are left.
pub record Went (seen : ℕ → List Entry) (p : ℕ) (S T : List Entry) (lines left : List PlanLine) : Type 0 where
  pub made : List PlanLine
  pub front : made ++ own_of p left ≡ own_of p lines
  pub runs : RunsOn seen p S T made

-- A block goes on through a stretch: none of the blocks that it came to was born.
pub record GoesOn (kernel : KernelSeen) (v0 v : CallerSeen) (lines left : List PlanLine) (row : List CallerSeen) (next0 next : ℕ) : Type 0 where
  pub passed : List PlanLine
  pub whole : lines ≡ passed ++ left
  pub caller : IsCaller kernel v
  pub fit : AreFit kernel left
  pub may : MayGo kernel v.process v.seat.seen next left
  pub process : v.process ≡ v0.process
  pub begun : IsPrefix v0.seat.seen v.seat.seen
  pub ran : List CallerSeen
  pub idle : List CallerSeen
  pub cut : row ≡ ran ++ idle
  pub count : next0 + length ran ≡ next
  pub below : v0.process < next
  pub stands : StandsAt (tree kernel) v0.process next left (next0 + length row)
  pub shorter : length left ≤ length lines
  pub others : (q : ℕ) → next ≤ q → own_of q left ≡ own_of q lines
  pub did : (seen : ℕ → List Entry) → Agree seen ran → Went seen v0.process v0.seat.seen v.seat.seen lines left

pub go_start : (kernel : KernelSeen) (v : CallerSeen) (lines : List PlanLine) (row : List CallerSeen) (next : ℕ) → IsOnWay kernel lines v row next → GoesOn kernel v v lines lines row next next
go_start kernel v lines row next way = record {
  passed = [];
  whole = refl;
  caller = way.caller;
  fit = way.fit;
  may = may_go kernel v.process v.seat.seen next lines way.may;
  process = refl;
  begun = prefix_refl v.seat.seen;
  ran = [];
  idle = row;
  cut = refl;
  count = omega arith;
  below = way.below;
  stands = inr way.block;
  shorter = omega arith;
  others = λ q from. refl;
  did = λ seen agree. record { made = []; front = refl; runs = runs_nothing seen v.process v.seat.seen };
}

pub go_ends : (kernel : KernelSeen) (v0 v : CallerSeen) (lines left : List PlanLine) (row : List CallerSeen) (next0 next : ℕ) (whole : Bool) → IsOnWay kernel lines v0 row next0 → GoesOn kernel v0 v lines left row next0 next
    → StretchEnds kernel whole v0 v lines left row row next0 next
go_ends kernel v0 v lines left row next0 next whole way g =
    let fresh : AreFresh (g.ran ++ g.idle) = subst AreFresh g.cut way.fresh in
    let ran = each_front IsFresh g.ran g.idle fresh in
    record {
      caller = g.caller;
      fit = g.fit;
      may = λ w. g.may;
      process = g.process;
      begun = g.begun;
      ran = g.ran;
      idle = g.idle;
      row = g.cut;
      counted = refl;
      numbered = way.numbered;
      count = g.count;
      fresh = each_back IsFresh g.ran g.idle fresh;
      stands = λ w. g.stands;
      shorter = g.shorter;
      others = g.others;
      did = λ seen agree. let went = g.did seen agree in record {
        made = went.made;
        front = went.front;
        runs = went.runs;
        over = each_weaker IsFresh (MayBeOver seen whole lines) g.ran (λ c is. inl is) ran;
        met = each_weaker IsFresh (λ (c : CallerSeen). IsPrefix c.seat.seen v.seat.seen) g.ran (λ c is. prefix_none c.seat.seen v.seat.seen is) ran;
      };
    }

-- the lines that are left are those behind the ones that were passed
drop_front : (xs ys : List PlanLine) (n k : ℕ) → n ≡ length xs + k → drop n (xs ++ ys) ≡ drop k ys
drop_front [] ys n k is = ap (λ i. drop i ys) (omega (arith, is))
drop_front (x ∷ xs) ys zero k is = absurd (omega (arith, is))
drop_front (x ∷ xs) ys (suc n) k is = drop_front xs ys n k (omega (arith, is))

pub left_behind : (lines passed left : List PlanLine) (k : ℕ) → lines ≡ passed ++ left → drop (length lines - length left + k) lines ≡ drop k left
left_behind lines passed left k is =
    let size : length lines ≡ length passed + length left = ap (λ (ls : List PlanLine). length ls) is ∙ length-append passed left in
    ap (λ ls. drop (length lines - length left + k) ls) is ∙ drop_front passed left (length lines - length left + k) k (omega (arith, size))

pub left_now : (lines passed left : List PlanLine) → lines ≡ passed ++ left → drop (length lines - length left) lines ≡ left
left_now lines passed left is = ap (λ n. drop n lines) (omega arith) ∙ left_behind lines passed left 0 is

-- what a stretch answers that ends here
pub go_stretch : (kernel : KernelSeen) (v0 v : CallerSeen) (lines left : List PlanLine) (row row' : List CallerSeen) (next0 next : ℕ) (whole : Bool) → IsOnWay kernel lines v0 row next0 → GoesOn kernel v0 v lines left row next0 next → row' ≡ row
    → (whole ≡ true → EndsAtWait left) → IsStretch kernel (record { passed = length lines - length left; next = next; whole = whole }) v0 v lines row row' next0
go_stretch kernel v0 v lines left row row' next0 next whole way g same wait =
    let now = left_now lines g.passed left g.whole in
    subst (λ vs. IsStretch kernel (record { passed = length lines - length left; next = next; whole = whole }) v0 v lines row vs next0) (sym same) (record {
      ends = subst (λ ls. StretchEnds kernel whole v0 v lines ls row row next0 next) (sym now) (go_ends kernel v0 v lines left row next0 next whole way g);
      wait = λ w. subst EndsAtWait (sym now) (wait w);
      passed = omega arith;
    })

pub go_more : (kernel : KernelSeen) (v0 v w : CallerSeen) (lines left : List PlanLine) (row : List CallerSeen) (next0 next : ℕ) → GoesOn kernel v0 v lines left row next0 next → SeesMore v w [] → IsCaller kernel w → GoesOn kernel v0 w lines left row next0 next
go_more kernel v0 v w lines left row next0 next g more caller = record {
  passed = g.passed;
  whole = g.whole;
  caller = caller;
  fit = g.fit;
  may = may_seen kernel next left v w more g.may;
  process = more.process ∙ g.process;
  begun = prefix_trans v0.seat.seen v.seat.seen w.seat.seen g.begun more.begun;
  ran = g.ran;
  idle = g.idle;
  cut = g.cut;
  count = g.count;
  below = g.below;
  stands = g.stands;
  shorter = g.shorter;
  others = g.others;
  did = λ seen agree. let went = g.did seen agree in record {
    made = went.made;
    front = went.front;
    runs = runs_more seen v0.process v0.seat.seen v.seat.seen w.seat.seen went.made went.runs more.begun (subst (λ p. entries_of w.seat.seen p ≡ entries_of v.seat.seen p ++ []) g.process more.own);
  };
}

-- a block that stands at a line
pub at_line : (parents : List ℕ) (p n m : ℕ) (left behind : List PlanLine) (l : PlanLine) → StandsAt parents p n left m → left ≡ l ∷ behind → Next parents p n m l behind
at_line parents p n m left behind l stands is = ⊎_elim (λ none. absurd (none_left l behind (sym none.0 ∙ is))) (λ block. next_line parents p n m left behind l block is) stands

line_stands : (parents : List ℕ) (p n m : ℕ) (rest : List PlanLine) (a : PlanAct) → IsCallLine a → NextIs parents p n m rest a → StandsAt parents p n rest m
line_stands parents p n m rest (act.Call (call.Fork child)) line next = absurd line
line_stands parents p n m rest (act.Call call.Exit) line next = inl next
line_stands parents p n m rest (act.Call (call.Load a size)) line next = inr next
line_stands parents p n m rest (act.Call (call.Store a size v)) line next = inr next
line_stands parents p n m rest (act.Call (call.Map at len prot kind object offset)) line next = inr next
line_stands parents p n m rest (act.Call (call.Unmap a len)) line next = inr next
line_stands parents p n m rest (act.Call (call.Protect a len prot)) line next = inr next
line_stands parents p n m rest (act.Call (call.Sync a len)) line next = inr next
line_stands parents p n m rest (act.Call (call.Read file offset len)) line next = inr next
line_stands parents p n m rest (act.Call (call.Write file offset bytes left)) line next = inr next
line_stands parents p n m rest (act.Call (call.Truncate file len)) line next = inr next
line_stands parents p n m rest (act.Named name made) line next = inr next
line_stands parents p n m rest (act.Write name file offset bytes) line next = inr next
line_stands parents p n m rest act.Wait line next = absurd line

pub own_first : (p : ℕ) (made lines left behind more : List PlanLine) (l : PlanLine) → left ≡ l ∷ behind → l.process ≡ p → own_of p behind ≡ own_of p more → made ++ own_of p left ≡ own_of p lines → (made ++ l ∷ []) ++ own_of p more ≡ own_of p lines
own_first p made lines left behind more l is own same front =
    append_assoc made (l ∷ []) (own_of p more)
    ∙ (ap (λ ls. made ++ l ∷ ls) (sym same)
    ∙ (ap (λ ls. made ++ ls) (sym (ap (own_of p) is ∙ is_own p l behind own)) ∙ front))

-- the block's end is its last line
ends_none : (parents : List ℕ) (p n m : ℕ) (rest : List PlanLine) (a : PlanAct) → NextIs parents p n m rest a → is_end a ≡ true → rest ≡ []
ends_none parents p n m rest (act.Call call.Exit) next is = next.0
ends_none parents p n m rest (act.Call (call.Fork child)) next is = absurd (false≢true is)
ends_none parents p n m rest (act.Call (call.Load a size)) next is = absurd (false≢true is)
ends_none parents p n m rest (act.Call (call.Store a size v)) next is = absurd (false≢true is)
ends_none parents p n m rest (act.Call (call.Map at len prot kind object offset)) next is = absurd (false≢true is)
ends_none parents p n m rest (act.Call (call.Unmap a len)) next is = absurd (false≢true is)
ends_none parents p n m rest (act.Call (call.Protect a len prot)) next is = absurd (false≢true is)
ends_none parents p n m rest (act.Call (call.Sync a len)) next is = absurd (false≢true is)
ends_none parents p n m rest (act.Call (call.Read file offset len)) next is = absurd (false≢true is)
ends_none parents p n m rest (act.Call (call.Write file offset bytes left)) next is = absurd (false≢true is)
ends_none parents p n m rest (act.Call (call.Truncate file len)) next is = absurd (false≢true is)
ends_none parents p n m rest (act.Named name made) next is = absurd (false≢true is)
ends_none parents p n m rest (act.Write name file offset bytes) next is = absurd (false≢true is)
ends_none parents p n m rest act.Wait next is = absurd (false≢true is)

-- a line was made
pub go_line : (kernel : KernelSeen) (v0 v w : CallerSeen) (lines left behind : List PlanLine) (l : PlanLine) (row : List CallerSeen) (next0 next : ℕ) → GoesOn kernel v0 v lines left row next0 next
    → left ≡ l ∷ behind → IsCallLine l.act → MakesLine v w l → IsCaller kernel w → GoesOn kernel v0 w lines behind row next0 next
go_line kernel v0 v w lines left behind l row next0 next g is line made caller =
    let here = at_line (tree kernel) v0.process next (next0 + length row) left behind l g.stands is in
    record {
      passed = g.passed ++ l ∷ [];
      whole = g.whole ∙ (ap (λ ls. g.passed ++ ls) is ∙ sym (append_assoc g.passed (l ∷ []) behind));
      caller = caller;
      fit = fit_behind kernel left behind l is g.fit;
      may = may_behind behind (ends_none (tree kernel) v0.process next (next0 + length row) behind l.act here.next) (may_at kernel v.process v.seat.seen next left behind l is g.may) (subst (AreFit kernel) is g.fit);
      process = made.more.process ∙ g.process;
      begun = prefix_trans v0.seat.seen v.seat.seen w.seat.seen g.begun made.more.begun;
      ran = g.ran;
      idle = g.idle;
      cut = g.cut;
      count = g.count;
      below = g.below;
      stands = line_stands (tree kernel) v0.process next (next0 + length row) behind l.act line here.next;
      shorter = let a = g.shorter in let b : length left ≡ length (l ∷ behind) = ap length is in omega (arith, a, b);
      others = λ q from. let below = g.below in sym (ap (own_of q) is ∙ not_own q l behind (λ e. let o = here.own in omega (arith, e, o, below, from))) ∙ g.others q from;
      did = λ seen agree. let went = g.did seen agree in record {
        made = went.made ++ l ∷ [];
        front = own_first v0.process went.made lines left behind behind l is here.own refl went.front;
        runs = runs_then seen v0.process v0.seat.seen v.seat.seen w.seat.seen went.made (l ∷ []) went.runs (runs_line seen v0.process v w l g.process line made);
      };
    }
  where
    may_behind : (behind : List PlanLine) → (is_end l.act ≡ true → behind ≡ []) → MayMakeLines kernel v.process v.seat.seen next (l ∷ behind) → AreFit kernel (l ∷ behind) → MayGo kernel w.process w.seat.seen next behind
    may_behind [] last may fit = tt
    may_behind (m ∷ more) last may fit = subst (λ q. MayMakeLines kernel q w.seat.seen next (m ∷ more)) (sym made.more.process)
        (went_on kernel v.process next next v.seat.seen w.seat.seen made.es l (m ∷ more) (m ∷ more) may own_line refl (omega arith) made.more.begun made.more.own
        (line_made v.process next v.seat.seen w.seat.seen made.es made.more.own (λ c from. made.bears c) l.act line fit.acts.0 (not_last (is_end l.act) refl) made.own))
      where
        own_line : l.process ≡ v.process
        own_line = (at_line (tree kernel) v0.process next (next0 + length row) left behind l g.stands is).own ∙ sym g.process

        not_last : (b : Bool) → is_end l.act ≡ b → is_end l.act ≡ false
        not_last true e = absurd (none_left m more (sym (last e)))
        not_last false e = e

-- A row cut in two.
pub record Cut (k : ℕ) (row : List CallerSeen) : Type 0 where
  pub front : List CallerSeen
  pub back : List CallerSeen
  pub is : row ≡ front ++ back
  pub long : length front ≡ k

pub cut_at : (k : ℕ) (row : List CallerSeen) → k ≤ length row → Cut k row
cut_at zero row fits = record { front = []; back = row; is = refl; long = refl }
cut_at (suc k) [] fits = absurd (omega (arith, fits))
cut_at (suc k) (v ∷ row) fits =
    let c = cut_at k row (omega (arith, fits)) in
    record { front = v ∷ c.front; back = c.back; is = ap (λ vs. v ∷ vs) c.is; long = ap suc c.long }

-- What is known where a block of p stands at a fork: the lines of the child and those behind it, and the row.
pub record AtFork (parents : List ℕ) (p n m : ℕ) (behind inside others : List PlanLine) (after : ℕ) : Type 0 where
  pub whole : behind ≡ inside ++ others
  pub inside_is : IsProcessBlock parents n (n + 1) inside after
  pub others_are : IsProcessBlock parents p after others m
  pub some : n < after
  pub fits : after ≤ m
  pub count : n + ends_in inside ≡ after
  pub none : own_of p inside ≡ []

pub at_fork : (parents : List ℕ) (p n m c : ℕ) (behind inside others : List PlanLine) → p < n → ForksNext parents p n m behind c → inside ++ others ≡ behind → others ≡ from_own p behind → AtFork parents p n m behind inside others (n + ends_in inside)
at_fork parents p n m c behind inside others below f whole from =
    let parts = parted_at parents p n f.next m f.child f.others inside others below f.inside f.behind (whole ∙ f.is) (from ∙ ap (from_own p) f.is) in
    let block : IsProcessBlock parents n (n + 1) inside f.next = subst (λ ls. IsProcessBlock parents n (n + 1) ls f.next) (sym parts.front) f.inside in
    let ended = block_ends parents n (n + 1) f.next inside block in
    let count : n + ends_in inside ≡ f.next = omega (arith, ended) in
    let up = (within parents n (n + 1) f.next inside block).up in
    let on = (within parents p f.next m f.others f.behind).up in
    record {
      whole = sym whole;
      inside_is = subst (λ k. IsProcessBlock parents n (n + 1) inside k) (sym count) block;
      others_are = subst (λ k. IsProcessBlock parents p k others m) (sym count) (subst (λ ls. IsProcessBlock parents p f.next ls m) (sym parts.back) f.behind);
      some = omega (arith, count, up);
      fits = omega (arith, count, on);
      count = refl;
      none = outside_own parents n (n + 1) f.next p inside block (λ same. omega (arith, same, below)) (λ a b. omega (arith, a, below));
    }

pub own_behind : (p : ℕ) (behind inside others : List PlanLine) → behind ≡ inside ++ others → own_of p inside ≡ [] → own_of p behind ≡ own_of p others
own_behind p behind inside others whole none = ap (own_of p) whole ∙ (filter-append (λ (l : PlanLine). l.process == p) inside others ∙ ap (λ ls. ls ++ own_of p others) none)

first_fresh : (kernel : KernelSeen) (seen : ℕ → List Entry) (n k : ℕ) (vs ws : List CallerSeen) → length vs ≡ k → 0 < k → Agree seen vs → AreNumbered kernel n (vs ++ ws) → AreFresh (vs ++ ws) → seen n ≡ []
first_fresh kernel seen n k [] ws long some agree numbered fresh = absurd (omega (arith, long, some))
first_fresh kernel seen n k (v ∷ vs) ws long some agree numbered fresh = ap seen (sym numbered.0.0) ∙ (agree.0 ∙ fresh.0)

-- the lines up to the child's end are passed
pub fork_lines : (passed left behind inside others lines : List PlanLine) (l : PlanLine) → lines ≡ passed ++ left → left ≡ l ∷ behind → behind ≡ inside ++ others → lines ≡ (passed ++ l ∷ inside) ++ others
fork_lines passed left behind inside others lines l cut is whole = cut ∙ (ap (λ ls. passed ++ ls) (is ∙ ap (λ ls. l ∷ ls) whole) ∙ sym (append_assoc passed (l ∷ inside) others))

-- behind a fork the parent may go on
fork_on : (kernel : KernelSeen) (v w : CallerSeen) (next after : ℕ) (left behind inside others : List PlanLine) (l : PlanLine) {r : Reply} → IsCaller kernel v → left ≡ l ∷ behind → l.process ≡ v.process → l.act ≡ act.Call (call.Fork next)
    → behind ≡ inside ++ others → own_of v.process inside ≡ [] → next ≤ after → MayGo kernel v.process v.seat.seen next left → (made : HasMade v w (call.Fork next) r)
    → ((c : ℕ) → after ≤ c → list_any (is_birth c) (made.entry ∷ []) ≡ false) → MayMakeLines kernel w.process w.seat.seen after others
fork_on kernel v w next after left behind inside others l caller is own line whole none up may made bears =
    subst (λ q. MayMakeLines kernel q w.seat.seen after others) (sym made.more.process)
    (went_on kernel v.process next after v.seat.seen w.seat.seen (made.entry ∷ []) l behind others (may_at kernel v.process v.seat.seen next left behind l is may) own (own_behind v.process behind inside others whole none) up made.more.begun made.more.own
    (fork_made v.process after next v.seat.seen w.seat.seen made.entry l.act line made.is_call made.more.own bears))

-- a fork was refused: the child's block is passed over
pub go_refused : (kernel : KernelSeen) (v0 v w : CallerSeen) (lines left behind inside others : List PlanLine) (l : PlanLine) (row : List CallerSeen) (next0 next after : ℕ) (r : Reply) → IsOnWay kernel lines v0 row next0 → GoesOn kernel v0 v lines left row next0 next
    → left ≡ l ∷ behind → l.process ≡ v0.process → l.act ≡ act.Call (call.Fork next) → AtFork (tree kernel) v0.process next (next0 + length row) behind inside others after
    → HasMade v w (call.Fork next) r → IsCaller kernel w → is_done r ≡ false → GoesOn kernel v0 w lines others row next0 after
go_refused kernel v0 v w lines left behind inside others l row next0 next after r way g is own line f made caller else =
    let count = g.count in
    let fits = f.fits in
    let some = f.some in
    let long : length row ≡ length g.ran + length g.idle = ap length g.cut ∙ length-append g.ran g.idle in
    let k : ℕ = after - next in
    let c = cut_at k g.idle (omega (arith, long, fits, count)) in
    let here : row ≡ (g.ran ++ c.front) ++ c.back = g.cut ∙ (ap (λ vs. g.ran ++ vs) c.is ∙ sym (append_assoc g.ran c.front c.back)) in
    let front = c.long in
    let numbered : AreNumbered kernel next (c.front ++ c.back) = subst (AreNumbered kernel next) c.is (numbered_back kernel next0 next g.ran g.idle count (subst (AreNumbered kernel next0) g.cut way.numbered)) in
    let fresh : AreFresh (c.front ++ c.back) = subst AreFresh c.is (each_back IsFresh g.ran g.idle (subst AreFresh g.cut way.fresh)) in
    record {
      passed = g.passed ++ l ∷ inside;
      whole = fork_lines g.passed left behind inside others lines l g.whole is f.whole;
      caller = caller;
      fit = fit_back kernel inside others (subst (AreFit kernel) f.whole (fit_behind kernel left behind l is g.fit));
      may = may_go kernel w.process w.seat.seen after others
          (fork_on kernel v w next after left behind inside others l g.caller is (own ∙ sym g.process) line f.whole (subst (λ q. own_of q inside ≡ []) (sym g.process) f.none) (omega (arith, some)) g.may made
          (λ c from. unborn c made.entry (ap is_done made.is_reply ∙ else)));
      process = made.more.process ∙ g.process;
      begun = prefix_trans v0.seat.seen v.seat.seen w.seat.seen g.begun made.more.begun;
      ran = g.ran ++ c.front;
      idle = c.back;
      cut = here;
      count = let e = length-append g.ran c.front in omega (arith, e, front, count, some);
      below = let b = g.below in omega (arith, b, some);
      stands = inr f.others_are;
      shorter =
          let a = g.shorter in
          let b : length left ≡ length (l ∷ behind) = ap length is in
          let d : length behind ≡ length (inside ++ others) = ap length f.whole in omega (arith, a, b, d, length-append inside others);
      others = λ q from.
          let below = g.below in
          let some = f.some in
          sym (ap (own_of q) is
          ∙ (not_own q l behind (λ e. omega (arith, e, own, below, from, some))
          ∙ own_behind q behind inside others f.whole (outside_own (tree kernel) next (next + 1) after q inside f.inside_is (λ e. omega (arith, e, from, some)) (λ a b. omega (arith, b, from)))))
          ∙ g.others q (omega (arith, from, some));
      did = λ seen agree.
          let went = g.did seen (each_front (λ (v : CallerSeen). seen v.process ≡ v.seat.seen) g.ran c.front agree) in
          let none : seen next ≡ [] = first_fresh kernel seen next k c.front c.back front (omega (arith, some)) (each_back (λ (v : CallerSeen). seen v.process ≡ v.seat.seen) g.ran c.front agree) numbered fresh in
          record {
            made = went.made ++ l ∷ [];
            front = own_first v0.process went.made lines left behind others l is own (own_behind v0.process behind inside others f.whole f.none) went.front;
            runs = runs_then seen v0.process v0.seat.seen v.seat.seen w.seat.seen went.made (l ∷ []) went.runs (runs_refused seen v0.process v w l next r g.process line made else none);
          };
    }

-- The line is a fork of the next block.
pub record IsForkHere (parents : List ℕ) (p n m : ℕ) (l : PlanLine) (behind inside others : List PlanLine) : Type 0 where
  pub own : l.process ≡ p
  pub act : l.act ≡ act.Call (call.Fork n)
  pub parent : parent_of parents n ≡ Some p
  pub at : AtFork parents p n m behind inside others (n + ends_in inside)

pub fork_here : (kernel : KernelSeen) (v0 v : CallerSeen) (lines left behind inside others : List PlanLine) (l : PlanLine) (row : List CallerSeen) (next0 next c : ℕ) → GoesOn kernel v0 v lines left row next0 next
    → left ≡ l ∷ behind → l.act ≡ act.Call (call.Fork c) → inside ++ others ≡ behind → others ≡ from_own l.process behind → IsForkHere (tree kernel) v0.process next (next0 + length row) l behind inside others
fork_here kernel v0 v lines left behind inside others l row next0 next c g is line whole from =
    let here = at_line (tree kernel) v0.process next (next0 + length row) left behind l g.stands is in
    let f : ForksNext (tree kernel) v0.process next (next0 + length row) behind c = subst (NextIs (tree kernel) v0.process next (next0 + length row) behind) line here.next in
    record {
      own = here.own;
      act = line ∙ ap (λ k. act.Call (call.Fork k)) f.number;
      parent = f.parent;
      at = at_fork (tree kernel) v0.process next (next0 + length row) c behind inside others g.below f whole (from ∙ ap (λ q. from_own q behind) here.own);
    }

-- The callers that stand behind those of the blocks that a stretch came to.
pub record Ahead (kernel : KernelSeen) (next : ℕ) (later : List CallerSeen) : Type 0 where
  pub child : CallerSeen
  pub rest : List CallerSeen
  pub is : later ≡ child ∷ rest
  pub number : child.process ≡ next
  pub unused : child.seat.seen ≡ []
  pub caller : IsCaller kernel child
  pub numbered : AreNumbered kernel next later
  pub fresh : AreFresh rest

pub ahead : (kernel : KernelSeen) (v0 v : CallerSeen) (lines left behind inside others : List PlanLine) (l : PlanLine) (row front later : List CallerSeen) (next0 next : ℕ) → IsOnWay kernel lines v0 row next0 → GoesOn kernel v0 v lines left row next0 next
    → IsForkHere (tree kernel) v0.process next (next0 + length row) l behind inside others → row ≡ front ++ later → next0 + length front ≡ next → Ahead kernel next later
ahead kernel v0 v lines left behind inside others l row front later next0 next way g f cut at =
    let size : length row ≡ length front + length later = ap length cut ∙ length-append front later in
    let fits = f.at.fits in
    let some = f.at.some in
    first_of later (omega (arith, size, fits, some, at)) (numbered_back kernel next0 next front later at (subst (AreNumbered kernel next0) cut way.numbered)) (each_back IsFresh front later (subst AreFresh cut way.fresh))
  where
    first_of : (vs : List CallerSeen) → 0 < length vs → AreNumbered kernel next vs → AreFresh vs → Ahead kernel next vs
    first_of [] some numbered fresh = absurd (omega (arith, some))
    first_of (d ∷ ds) some numbered fresh = record { child = d; rest = ds; is = refl; number = numbered.0.0; unused = fresh.0; caller = numbered.0.1; numbered = numbered; fresh = fresh.1 }

pub line_of : (a : PlanAct) → step_of a ≡ step.Line → IsCallLine a
line_of (act.Call (call.Fork child)) is = absurd (cc is)
line_of (act.Call call.Exit) is = tt
line_of (act.Call (call.Load a size)) is = tt
line_of (act.Call (call.Store a size v)) is = tt
line_of (act.Call (call.Map at len prot kind object offset)) is = tt
line_of (act.Call (call.Unmap a len)) is = tt
line_of (act.Call (call.Protect a len prot)) is = tt
line_of (act.Call (call.Sync a len)) is = tt
line_of (act.Call (call.Read file offset len)) is = tt
line_of (act.Call (call.Write file offset bytes left)) is = tt
line_of (act.Call (call.Truncate file len)) is = tt
line_of (act.Named name made) is = tt
line_of (act.Write name file offset bytes) is = tt
line_of act.Wait is = absurd (cc is)

pub fork_of_step : (a : PlanAct) → step_of a ≡ step.Fork → (c : ℕ) × (a ≡ act.Call (call.Fork c))
fork_of_step (act.Call (call.Fork child)) is = (child, refl)
fork_of_step (act.Call call.Exit) is = absurd (cc is)
fork_of_step (act.Call (call.Load a size)) is = absurd (cc is)
fork_of_step (act.Call (call.Store a size v)) is = absurd (cc is)
fork_of_step (act.Call (call.Map at len prot kind object offset)) is = absurd (cc is)
fork_of_step (act.Call (call.Unmap a len)) is = absurd (cc is)
fork_of_step (act.Call (call.Protect a len prot)) is = absurd (cc is)
fork_of_step (act.Call (call.Sync a len)) is = absurd (cc is)
fork_of_step (act.Call (call.Read file offset len)) is = absurd (cc is)
fork_of_step (act.Call (call.Write file offset bytes left)) is = absurd (cc is)
fork_of_step (act.Call (call.Truncate file len)) is = absurd (cc is)
fork_of_step (act.Named name made) is = absurd (cc is)
fork_of_step (act.Write name file offset bytes) is = absurd (cc is)
fork_of_step act.Wait is = absurd (cc is)

pub wait_of : (a : PlanAct) → step_of a ≡ step.Wait → a ≡ act.Wait
wait_of (act.Call (call.Fork child)) is = absurd (cc is)
wait_of (act.Call call.Exit) is = absurd (cc is)
wait_of (act.Call (call.Load a size)) is = absurd (cc is)
wait_of (act.Call (call.Store a size v)) is = absurd (cc is)
wait_of (act.Call (call.Map at len prot kind object offset)) is = absurd (cc is)
wait_of (act.Call (call.Unmap a len)) is = absurd (cc is)
wait_of (act.Call (call.Protect a len prot)) is = absurd (cc is)
wait_of (act.Call (call.Sync a len)) is = absurd (cc is)
wait_of (act.Call (call.Read file offset len)) is = absurd (cc is)
wait_of (act.Call (call.Write file offset bytes left)) is = absurd (cc is)
wait_of (act.Call (call.Truncate file len)) is = absurd (cc is)
wait_of (act.Named name made) is = absurd (cc is)
wait_of (act.Write name file offset bytes) is = absurd (cc is)
wait_of act.Wait is = refl

-- the first caller of the row was used
pub set_first : (later : List CallerSeen) (child : CallerSeen) (rest : List CallerSeen) (d new : CallerSeen) → later ≡ child ∷ rest → (slice_index_or later 0 d ≡ child) × (slice_set later 0 new ≡ new ∷ rest)
set_first later child rest d new is = (ap (λ vs. slice_index_or vs 0 d) is, ap (λ vs. slice_set vs 0 new) is)

-- it is as it was
pub same_first : (later : List CallerSeen) (child : CallerSeen) (rest : List CallerSeen) (d new : CallerSeen) → later ≡ child ∷ rest → new ≡ slice_index_or later 0 d → slice_set later 0 new ≡ later
same_first later child rest d new is same = let used = set_first later child rest d new is in used.1 ∙ (ap (λ v. v ∷ rest) (same ∙ used.0) ∙ sym is)

-- a row that has a first caller
pub record HasFirst (row : List CallerSeen) : Type 0 where
  pub first : CallerSeen
  pub rest : List CallerSeen
  pub is : row ≡ first ∷ rest

pub has_first : (vs ws : List CallerSeen) → FirstSeesMore vs ws → HasFirst ws
has_first (v ∷ vs) (w ∷ ws) more = record { first = w; rest = ws; is = refl }
has_first [] ws more = absurd more
has_first (v ∷ vs) [] more = absurd more

any_filter : (f g : Entry → Bool) (xs : List Entry) → list_any f (filter g xs) ≡ true → list_any f xs ≡ true
any_filter f g [] any = any
any_filter f g (x ∷ xs) any = let ih = any_filter f g xs in grind (rules, tests, ih)

-- the fork bore the child
pub born_seen : (v w : CallerSeen) (c : ℕ) (r : Reply) → HasMade v w (call.Fork c) r → is_done r ≡ true → list_any (is_birth c) w.seat.seen ≡ true
born_seen v w c r made done =
    let e = made.entry in
    let yes' : is_birth c e ≡ true = ap (λ b. cond b (is_fork_of c e.call) false) (ap is_done made.is_reply ∙ done) ∙ (ap (is_fork_of c) made.is_call ∙ eq-eqb c c refl) in
    let last : list_any (is_birth c) (e ∷ []) ≡ true = ap (λ b. b || false) yes' in
    let own : list_any (is_birth c) (entries_of w.seat.seen v.process) ≡ true = ap (list_any (is_birth c)) made.more.own ∙ (list_any-append (is_birth c) (entries_of v.seat.seen v.process) (e ∷ []) ∙ (ap (λ b. list_any (is_birth c) (entries_of v.seat.seen v.process) || b) last ∙ or_true (list_any (is_birth c) (entries_of v.seat.seen v.process)))) in
    any_filter (is_birth c) (λ x. x.process == v.process) w.seat.seen own
  where
    or_true : (b : Bool) → (b || true) ≡ true
    or_true true = refl
    or_true false = refl

-- a child was born, and its block may run beside the lines behind the fork
pub forked : (kernel : KernelSeen) (v0 v w : CallerSeen) (lines left behind inside others : List PlanLine) (l : PlanLine) (row front later : List CallerSeen) (next0 next : ℕ) (r : Reply) → IsOnWay kernel lines v0 row next0 → GoesOn kernel v0 v lines left row next0 next
    → IsForkHere (tree kernel) v0.process next (next0 + length row) l behind inside others → row ≡ front ++ later → next0 + length front ≡ next → (a : Ahead kernel next later) → (new : CallerSeen)
    → left ≡ l ∷ behind → SeesMore a.child new [] → IsCaller kernel new → IsPrefix w.seat.seen new.seat.seen → HasMade v w (call.Fork next) r → IsCaller kernel w → is_done r ≡ true → IsChildBorn kernel inside others w (new ∷ a.rest) next (next + ends_in inside)
forked kernel v0 v w lines left behind inside others l row front later next0 next r way g f cut at a new is more child saw made caller done =
    let size : length row ≡ length front + length later = ap length cut ∙ length-append front later in
    let long : length later ≡ length (a.child ∷ a.rest) = ap length a.is in
    let same : w.process ≡ v0.process = made.more.process ∙ g.process in
    let few = way.few in
    let below = g.below in
    let number : new.process ≡ next = more.process ∙ a.number in
    let fit : AreFit kernel (inside ++ others) = subst (AreFit kernel) f.at.whole (fit_behind kernel left behind l is g.fit) in
    let none : entries_of new.seat.seen new.process ≡ [] = ap (entries_of new.seat.seen) more.process ∙ (more.own ∙ ap (λ s. entries_of s a.child.process ++ []) a.unused) in
    let born : list_any (is_birth new.process) new.seat.seen ≡ true = subst (λ k. list_any (is_birth k) new.seat.seen ≡ true) (sym number) (any_longer (is_birth next) w.seat.seen new.seat.seen saw (born_seen v w next r made done)) in
    let some = f.at.some in
    record {
      child = new;
      rest = a.rest;
      is = refl;
      caller = caller;
      numbered = ((number, child), (subst (AreNumbered kernel next) a.is a.numbered).1);
      fresh = a.fresh;
      none = none;
      born = born;
      inside_is = f.at.inside_is;
      others_are = subst (λ m. IsProcessBlock (tree kernel) w.process (next + ends_in inside) others m) (omega (arith, size, long, at)) (subst (λ q. IsProcessBlock (tree kernel) q (next + ends_in inside) others (next0 + length row)) (sym same) f.at.others_are);
      few = omega (arith, few, size, long, at);
      below = omega (arith, below, same);
      inside_fit = fit_front kernel inside others fit;
      others_fit = fit_back kernel inside others fit;
      child_may = child_begins kernel new.process new.seat.seen inside born none (fit_front kernel inside others fit);
      may =
          fork_on kernel v w next (next + ends_in inside) left behind inside others l g.caller is (f.own ∙ sym g.process) f.act f.at.whole (subst (λ q. own_of q inside ≡ []) (sym g.process) f.at.none) (omega (arith, some)) g.may made
          (λ c from. ⊎_elim (λ any. absurd (let e = fork_of c next made.entry made.is_call any in omega (arith, e, from, some))) (λ no. no) (cases_Bool (list_any (is_birth c) (made.entry ∷ []))));
    }

-- the fork may be made
pub may_fork : (kernel : KernelSeen) (v0 v : CallerSeen) (lines left behind inside others : List PlanLine) (l : PlanLine) (row : List CallerSeen) (next0 next : ℕ) → IsOnWay kernel lines v0 row next0 → GoesOn kernel v0 v lines left row next0 next
    → left ≡ l ∷ behind → IsForkHere (tree kernel) v0.process next (next0 + length row) l behind inside others → MayCall kernel v (call.Fork next)
may_fork kernel v0 v lines left behind inside others l row next0 next way g is f =
    let own : l.process ≡ v.process = f.own ∙ sym g.process in
    let may = may_make kernel v next l left behind is own g.fit g.may in
    let here = may_at kernel v.process v.seat.seen next left behind l is g.may in
    let one : parts l.act ≡ 1 = ap parts f.act in
    let room = may.room in
    let few = way.few in
    let some = f.at.some in
    let fits = f.at.fits in
    may_call kernel v (call.Fork next) g.caller (omega (arith, few, some, fits)) may.alive (omega (arith, room, one)) may.ends
    (same_parents (tree kernel) next ∙ (f.parent ∙ ap Some (sym g.process)), here.bears next (omega arith))

-- what a fork made
pub record Forked (kernel : KernelSeen) (v w : CallerSeen) (next : ℕ) (r : Reply) : Type 0 where
  pub made : HasMade v w (call.Fork next) r
  pub caller : IsCaller kernel w

pub fork_done : (kernel : KernelSeen) (v w : CallerSeen) (child next : ℕ) (r : Reply) → child ≡ next → IsCaller kernel v → IsCallerOf kernel w → CallerGoesOn v w → IsCallDone v (call.Fork child) w r → Forked kernel v w next r
fork_done kernel v w child next r is caller of goes done =
    let m = call_made kernel v w (call.Fork child) r caller of goes done in
    record { made = subst (λ k. HasMade v w (call.Fork k) r) is m.0; caller = m.1 }
