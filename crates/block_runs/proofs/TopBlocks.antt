-- Top blocks side by side.
use Rattle.std.proofs.Common.{◌≡◌, ℕ, ◌+◌, ◌≤◌, ◌<◌, Bool, true, List, [], ◌∷◌, ◌++◌, length, Some, refl, sym, ap, ◌∙◌, subst, append-nil, length-append, arith, ⊎_elim, inl, inr}
use Rattle.std.specs.List.{AllByRecursion}
use Rattle.vm_script.specs.vm_types.declared.call.Entry.{Entry}
use Rattle.vm_script.specs.flat_model.Told.{entries_of}
use Rattle.vm_script.specs.declared.plan.PlanLine.{PlanLine}
use Rattle.vm_script.specs.Told.{parent_of}
use Rattle.vm_script.specs.Blocks.{IsProcessBlock, AreProcessBlocks}
use Rattle.vm_script.proofs.Ranges.{within}
use Rattle.vm_kernel.specs.Callers.{KernelSeen, CallerSeen}
use Rattle.block_runs.specs.Callers.{tree}
use Rattle.block_runs.specs.Conditions.{AreFit}
use Rattle.block_runs.specs.Rows.{AreNumbered, IsFresh, AreFresh, IsOver, AreOver, RowIsOver, IsBlockReady, BlockEnds, IsClosing, HasForker, AreBlocksReady, AllEnd}
use Rattle.block_runs.specs.Lines.{own_of, behind_end, ends_in}
use Rattle.block_runs.proofs.Lists.{each_front, each_back, each_append, same_front, numbered_append, numbered_front, numbered_back}
use Rattle.block_runs.proofs.NextLines.{behind_block, first_top, no_tops, tops_up, tops_own, inner_parent, block_ends, outside_own}
use Rattle.block_runs.proofs.Goings.{fit_front, fit_back, top_begins}
use Rattle.block_runs.proofs.Stretching.{own_behind}
use Rattle.block_runs.proofs.Joining.{over_among, own_before}

-- The lines of the first top block and those behind it, as they were cut.
pub record AtTop (parents : List ℕ) (n m : ℕ) (first others : List PlanLine) (after : ℕ) : Type 0 where
  pub parent : parent_of parents n ≡ Some 0
  pub whole : IsProcessBlock parents n (n + 1) first after
  pub more : AreProcessBlocks parents after others m
  pub some : n < after
  pub fits : after ≤ m

pub at_top : (parents : List ℕ) (n m : ℕ) (lines first others : List PlanLine) → AreProcessBlocks parents n lines m → (lines ≡ [] → ⊥) → first ++ others ≡ lines → others ≡ behind_end n lines → AtTop parents n m first others (n + ends_in first)
at_top parents n m lines first others blocks some whole behind =
    let t = first_top parents n m lines blocks some in
    let back : others ≡ t.rest = behind ∙ (ap (behind_end n) t.is ∙ behind_block parents n (n + 1) t.next t.own t.rest (omega arith) t.whole) in
    let front : first ≡ t.own = same_front first t.own t.rest (ap (λ ls. first ++ ls) (sym back) ∙ (whole ∙ t.is)) in
    let ended = block_ends parents n (n + 1) t.next t.own t.whole in
    let count : t.next ≡ n + ends_in first = let e : ends_in first ≡ ends_in t.own = ap ends_in front in omega (arith, ended, e) in
    let up = (within parents n (n + 1) t.next t.own t.whole).up in
    let on = tops_up parents t.next m t.rest t.more in
    record {
      parent = t.parent;
      whole = subst (λ k. IsProcessBlock parents n (n + 1) first k) count (subst (λ ls. IsProcessBlock parents n (n + 1) ls t.next) (sym front) t.whole);
      more = subst (λ k. AreProcessBlocks parents k others m) count (subst (λ ls. AreProcessBlocks parents t.next ls m) (sym back) t.more);
      some = omega (arith, up, count);
      fits = omega (arith, on, count);
    }

pub top_first : (kernel : KernelSeen) (lines first others : List PlanLine) (row : List CallerSeen) (next after : ℕ) → AreBlocksReady kernel lines row next → first ++ others ≡ lines → AtTop (tree kernel) next (next + length row) first others after
    → (own later : List CallerSeen) → row ≡ own ++ later → next + length own ≡ after → IsBlockReady kernel first own
top_first kernel lines first others row next after r whole t [] later is long = absurd (let some = t.some in omega (arith, some, long))
top_first kernel lines first others row next after r whole t (d ∷ ds) later is long =
    let numbered : AreNumbered kernel next (d ∷ (ds ++ later)) = subst (AreNumbered kernel next) is r.numbered in
    let fresh : AreFresh (d ∷ (ds ++ later)) = subst AreFresh is r.fresh in
    let same : d.process ≡ next = numbered.0.0 in
    let few = r.few in
    let size : length row ≡ length (d ∷ ds) + length later = ap length is ∙ length-append (d ∷ ds) later in
    record {
      first = d;
      caller = numbered.0.1;
      fit = fit_front kernel first others (subst (AreFit kernel) (sym whole) r.fit);
      may = top_begins kernel d.process d.seat.seen (d.process + 1) first (ap (parent_of (tree kernel)) same ∙ t.parent) (ap (λ s. entries_of s d.process) fresh.0) (fit_front kernel first others (subst (AreFit kernel) (sym whole) r.fit));
      rest = ds;
      is = refl;
      numbered = subst (λ n. AreNumbered kernel (n + 1) ds) (sym same) (numbered_front kernel (next + 1) ds later numbered.1);
      fresh = each_front IsFresh ds later fresh.1;
      none = ap (λ s. entries_of s d.process) fresh.0;
      block = subst (λ m. IsProcessBlock (tree kernel) d.process (d.process + 1) first m) (omega (arith, long, same)) (subst (λ n. IsProcessBlock (tree kernel) n (n + 1) first after) (sym same) t.whole);
      few = omega (arith, few, same, size);
    }

pub top_others : (kernel : KernelSeen) (lines first others : List PlanLine) (row : List CallerSeen) (next after : ℕ) → AreBlocksReady kernel lines row next → first ++ others ≡ lines → AtTop (tree kernel) next (next + length row) first others after
    → (own later : List CallerSeen) → row ≡ own ++ later → next + length own ≡ after → AreBlocksReady kernel others later after
top_others kernel lines first others row next after r whole t own later is long =
    let few = r.few in
    let some = r.some in
    let up = t.some in
    let size : length row ≡ length own + length later = ap length is ∙ length-append own later in
    record {
      numbered = numbered_back kernel next after own later long (subst (AreNumbered kernel next) is r.numbered);
      fresh = each_back IsFresh own later (subst AreFresh is r.fresh);
      blocks = subst (λ m. AreProcessBlocks (tree kernel) after others m) (omega (arith, size, long)) t.more;
      few = omega (arith, few, size, long);
      some = omega (arith, some, up);
      fit = fit_back kernel first others (subst (AreFit kernel) (sym whole) r.fit);
    }

-- the descendants of a top block
inner_closing : (kernel : KernelSeen) (parents : List ℕ) (seen : ℕ → List Entry) (whole : Bool) (lines : List PlanLine) (n : ℕ) (vs : List CallerSeen) → AreNumbered kernel n vs → ((q : ℕ) → n ≤ q → q < n + length vs → HasForker parents q)
    → AreOver seen whole lines vs → AllByRecursion (IsClosing parents seen whole lines) vs
inner_closing kernel parents seen whole lines n [] numbered forker over = tt
inner_closing kernel parents seen whole lines n (v ∷ vs) numbered forker over = (
  ⊎_elim (λ fresh. inl (fresh, let e = numbered.0.0 in forker v.process (omega (arith, e)) (omega (arith, e)))) (λ o. inr (o.0, inr o.1)) over.0,
  inner_closing kernel parents seen whole lines (n + 1) vs numbered.1 (λ q from to. forker q (omega (arith, from)) (omega (arith, to))) over.1,
)

one_among : (seen : ℕ → List Entry) (b whole : Bool) (lines more : List PlanLine) (v : CallerSeen) → (whole ≡ true → b ≡ true) → own_of v.process lines ≡ own_of v.process more → IsOver seen b lines v → IsOver seen whole more v
one_among seen b whole lines more v all here o = record { made = o.made; left = o.left; front = o.front ∙ here; all = λ w. o.all (all w); run = o.run }

closing_among : (kernel : KernelSeen) (parents : List ℕ) (seen : ℕ → List Entry) (b whole : Bool) (lines more : List PlanLine) (n : ℕ) (vs : List CallerSeen) → (whole ≡ true → b ≡ true) → AreNumbered kernel n vs
    → ((q : ℕ) → n ≤ q → own_of q lines ≡ own_of q more) → AllByRecursion (IsClosing parents seen b lines) vs → AllByRecursion (IsClosing parents seen whole more) vs
closing_among kernel parents seen b whole lines more n [] all numbered same closing = tt
closing_among kernel parents seen b whole lines more n (v ∷ vs) all numbered same closing = (
  ⊎_elim (λ fresh. inl fresh) (λ o. inr (one_among seen b whole lines more v all (let e = numbered.0.0 in same v.process (omega (arith, e))) o.0, o.1)) closing.0,
  closing_among kernel parents seen b whole lines more (n + 1) vs all numbered.1 (λ q from. same q (omega (arith, from))) closing.1,
)

pub tops_end : (kernel : KernelSeen) (lines first others : List PlanLine) (row : List CallerSeen) (next after : ℕ) → AreBlocksReady kernel lines row next → first ++ others ≡ lines → AtTop (tree kernel) next (next + length row) first others after
    → (own later own' later' : List CallerSeen) → row ≡ own ++ later → next + length own ≡ after → (one two whole : Bool) → BlockEnds kernel one first own own' → AllEnd kernel two others later later'
    → (whole ≡ true → one ≡ true) → (whole ≡ true → two ≡ true) → AllEnd kernel whole lines row (own' ++ later')
tops_end kernel lines first others row next after r is t own later own' later' cut long one two whole ends rest all1 all2 =
    let size : length row ≡ length own + length later = ap length cut ∙ length-append own later in
    let counted1 = ends.counted in
    let counted2 = rest.counted in
    let numbered : AreNumbered kernel next own' = ends.numbered next (numbered_front kernel next own later (subst (AreNumbered kernel next) cut r.numbered)) in
    let numbered' : AreNumbered kernel after later' = rest.numbered after (numbered_back kernel next after own later long (subst (AreNumbered kernel next) cut r.numbered)) in
    record {
      numbered = λ n old.
          let old' : AreNumbered kernel n (own ++ later) = subst (AreNumbered kernel n) cut old in
          numbered_append kernel n (n + length own) own' later' (omega (arith, counted1)) (ends.numbered n (numbered_front kernel n own later old')) (rest.numbered (n + length own) (numbered_back kernel n (n + length own) own later refl old'));
      counted = omega (arith, size, counted1, counted2, length-append own' later');
      closing = λ seen agree.
          let over = ends.over seen (each_front (λ (c : CallerSeen). seen c.process ≡ c.seat.seen) own' later' agree) in
          each_append (IsClosing (tree kernel) seen whole lines) own' later'
          (first_closing seen own' numbered (omega (arith, counted1, long)) over)
          (closing_among kernel (tree kernel) seen two whole others lines after later' all2 numbered'
          (λ q from. sym (own_behind q lines first others (sym is) (outside_own (tree kernel) next (next + 1) after q first t.whole (λ e. let up = t.some in omega (arith, e, from, up)) (λ a b. omega (arith, b, from)))))
          (rest.closing seen (each_back (λ (c : CallerSeen). seen c.process ≡ c.seat.seen) own' later' agree)));
    }
  where
    here : (q : ℕ) → q < after → own_of q first ≡ own_of q lines
    here q to = own_before q first others (tops_own (tree kernel) after (next + length row) q others t.more to) ∙ ap (own_of q) is

    first_closing : (seen : ℕ → List Entry) (vs : List CallerSeen) → AreNumbered kernel next vs → next + length vs ≡ after → RowIsOver seen one first vs → AllByRecursion (IsClosing (tree kernel) seen whole lines) vs
    first_closing seen [] numbered size over = absurd over
    first_closing seen (v ∷ vs) numbered size over = (
      inr (one_among seen one whole first lines v all1 (let e = numbered.0.0 in here v.process (omega (arith, e, size))) over.0, inl (ap (parent_of (tree kernel)) numbered.0.0 ∙ t.parent)),
      inner_closing kernel (tree kernel) seen whole lines (next + 1) vs numbered.1
          (λ q from to. inner_parent (tree kernel) next (next + 1) after q first r.some (omega arith) from (omega (arith, to, size)) t.whole)
          (over_among kernel seen one whole first lines (next + 1) vs all1 numbered.1 (λ q from to. here q (omega (arith, to, size))) over.1),
    )

pub tops_none : (kernel : KernelSeen) (lines : List PlanLine) (row : List CallerSeen) (next : ℕ) → AreBlocksReady kernel lines row next → lines ≡ [] → AllEnd kernel true lines row row
tops_none kernel lines row next r none =
    let same = no_tops (tree kernel) next (next + length row) lines r.blocks none in
    record {
      numbered = λ n old. old;
      counted = refl;
      closing = λ seen agree. empty seen row (omega (arith, same));
    }
  where
    empty : (seen : ℕ → List Entry) (vs : List CallerSeen) → length vs ≡ 0 → AllByRecursion (IsClosing (tree kernel) seen true lines) vs
    empty seen [] long = tt
    empty seen (v ∷ vs) long = absurd (omega (arith, long))

-- the first block is the only one
pub tops_one : (kernel : KernelSeen) (lines first others : List PlanLine) (row : List CallerSeen) (next after : ℕ) → AreBlocksReady kernel lines row next → first ++ others ≡ lines → AtTop (tree kernel) next (next + length row) first others after
    → (own later own' : List CallerSeen) → row ≡ own ++ later → next + length own ≡ after → (whole : Bool) → others ≡ [] → BlockEnds kernel whole first own own' → AllEnd kernel whole lines row (own' ++ later)
tops_one kernel lines first others row next after r is t own later own' cut long whole none ends =
    tops_end kernel lines first others row next after r is t own later own' later cut long whole true whole ends
    (tops_none kernel others later after (top_others kernel lines first others row next after r is t own later cut long) none) (λ w. w) (λ w. refl)

module _ (kernel : KernelSeen) (lines first others : List PlanLine) (row : List CallerSeen) (next after : ℕ) (r : AreBlocksReady kernel lines row next) (is : first ++ others ≡ lines) (t : AtTop (tree kernel) next (next + length row) first others after) (none : others ≡ []) where
  all_own : next + length row ≡ after
  all_own = sym (no_tops (tree kernel) after (next + length row) others t.more none)

  pub only_ready : IsBlockReady kernel first row
  only_ready = top_first kernel lines first others row next after r is t row [] (sym (append-nil row)) all_own

  pub only_ends : (own' : List CallerSeen) (whole : Bool) → BlockEnds kernel whole first row own' → AllEnd kernel whole lines row own'
  only_ends own' whole ends = subst (λ vs. AllEnd kernel whole lines row vs) (append-nil own') (tops_one kernel lines first others row next after r is t row [] own' (sym (append-nil row)) all_own whole none ends)
