-- A block goes from stretch to stretch.
use Rattle.std.proofs.Common.{◌≡◌, ℕ, suc, ◌+◌, ◌==◌, ◌≤◌, ◌<◌, ◌^◌, Bool, true, false, List, [], ◌∷◌, ◌++◌, length, refl, sym, ap, ◌∙◌, subst, append_assoc, append-nil, length-append, arith, ⊎_elim, inl, inr}
use Rattle.std.proofs.lemmas.Bool.{false≢true, eqb-true}
use mathlib.Core.List.{IsPrefix}
use Rattle.vm_script.specs.vm_types.declared.call.Entry.{Entry}
use Rattle.vm_script.specs.flat_model.Told.{entries_of}
use Rattle.vm_script.specs.declared.plan.PlanAct.TheVariants as act
use Rattle.vm_script.specs.declared.plan.PlanLine.{PlanLine}
use Rattle.vm_script.specs.Blocks.{IsProcessBlock}
use Rattle.vm_script.proofs.Tellings.{prefix_trans}
use Rattle.vm_kernel.specs.Callers.{KernelSeen, CallerSeen}
use Rattle.block_runs.specs.Callers.{tree, IsCaller}
use Rattle.block_runs.specs.Conditions.{AreFit, MayMakeLines, MayGo}
use Rattle.block_runs.specs.Running.{HasRun, RunsOn}
use Rattle.block_runs.specs.Rows.{AreNumbered, Agree, IsFresh, AreFresh, MayBeOver, AreOver, AreMet, RowIsOver, IsBlockReady, IsOnWay, StretchEnds, BlockEnds}
use Rattle.block_runs.specs.Lines.{first_process, own_of, NextIs, StandsAt}
use Rattle.block_runs.proofs.Lists.{prefix_none, prefix_refl, each_front, each_back, each_append, each_weaker, same_parts, numbered_append, numbered_front, numbered_back}
use Rattle.block_runs.proofs.NextLines.{first_is, is_own, not_own}
use Rattle.block_runs.proofs.Runs.{run_nothing, run_on, run_wait}
use Rattle.block_runs.proofs.Goings.{fit_behind, may_go, may_on, may_at, went_on}
use Rattle.block_runs.proofs.Spelled.{wait_made}
use Rattle.block_runs.proofs.Stretching.{at_line}
use Rattle.block_runs.proofs.Joining.{over_among}
pub use Rattle.vm_script.proofs.GivenDisks.{not_false}
pub use Rattle.vm_script.proofs.Scripts.{not_true}

-- The block p has come so far: its lines up to these are made, and the blocks that it came to are over.
pub record HasCome (seen : ℕ → List Entry) (p : ℕ) (S : List Entry) (lines left : List PlanLine) (ran : List CallerSeen) : Type 0 where
  pub made : List PlanLine
  pub front : made ++ own_of p left ≡ own_of p lines
  pub run : HasRun seen p S made
  pub over : AreOver seen true lines ran
  pub met : AreMet S ran

-- A block between two stretches.
pub record Between (kernel : KernelSeen) (v0 v : CallerSeen) (lines left : List PlanLine) (row : List CallerSeen) (first next size : ℕ) : Type 0 where
  pub caller : IsCaller kernel v
  pub fit : AreFit kernel left
  pub may : MayGo kernel v.process v.seat.seen next left
  pub process : v.process ≡ v0.process
  pub begun : IsPrefix v0.seat.seen v.seat.seen
  pub is_first : first ≡ v0.process + 1
  pub sized : length row ≡ size
  pub few : first + size < 2 ^ 32
  pub numbered : AreNumbered kernel first row
  pub ran : List CallerSeen
  pub idle : List CallerSeen
  pub cut : row ≡ ran ++ idle
  pub fresh : AreFresh idle
  pub count : first + length ran ≡ next
  pub stands : StandsAt (tree kernel) v0.process next left (first + size)
  pub shorter : length left ≤ length lines
  pub others : (q : ℕ) → next ≤ q → own_of q left ≡ own_of q lines
  pub did : (seen : ℕ → List Entry) → Agree seen ran → HasCome seen v0.process v.seat.seen lines left ran

pub between_start : (kernel : KernelSeen) (v : CallerSeen) (lines : List PlanLine) (row : List CallerSeen) (rest : List CallerSeen) → IsBlockReady kernel lines row → row ≡ v ∷ rest → Between kernel v v lines lines rest (v.process + 1) (v.process + 1) (length rest)
between_start kernel v lines row rest ready is =
    let head : ready.first ≡ v = cc (sym ready.is ∙ is) in
    let tail : ready.rest ≡ rest = cc (sym ready.is ∙ is) in
    let few = ready.few in
    let e : ready.first.process ≡ v.process = ap (λ (c : CallerSeen). c.process) head in
    let long : length ready.rest ≡ length rest = ap length tail in
    record {
      caller = subst (IsCaller kernel) head ready.caller;
      fit = ready.fit;
      may = may_go kernel v.process v.seat.seen (v.process + 1) lines (subst (λ (c : CallerSeen). MayMakeLines kernel c.process c.seat.seen (c.process + 1) lines) head ready.may);
      process = refl;
      begun = prefix_refl v.seat.seen;
      is_first = refl;
      sized = refl;
      few = omega (arith, few, e, long);
      numbered = subst (AreNumbered kernel (v.process + 1)) tail (subst (λ n. AreNumbered kernel (n + 1) ready.rest) e ready.numbered);
      ran = [];
      idle = rest;
      cut = refl;
      fresh = subst AreFresh tail ready.fresh;
      count = omega arith;
      stands = inr (subst (λ k. IsProcessBlock (tree kernel) v.process (v.process + 1) lines (v.process + 1 + k)) long (subst (λ n. IsProcessBlock (tree kernel) n (n + 1) lines (n + 1 + length ready.rest)) e ready.block));
      shorter = omega arith;
      others = λ q from. refl;
      did = λ seen agree. record {
        made = [];
        front = refl;
        run = run_nothing seen v.process v.seat.seen (subst (λ (c : CallerSeen). entries_of c.seat.seen c.process ≡ []) head ready.none);
        over = tt;
        met = tt;
      };
    }

pub between_first : (kernel : KernelSeen) (v : CallerSeen) (lines : List PlanLine) (row rest : List CallerSeen) (number : ℕ) → IsBlockReady kernel lines row → row ≡ v ∷ rest → number ≡ first_process lines
    → Between kernel v v lines lines rest (number + 1) (number + 1) (length rest)
between_first kernel v lines row rest number ready is at =
    let head : ready.first ≡ v = cc (sym ready.is ∙ is) in
    let same : v.process ≡ number = ap (λ (c : CallerSeen). c.process) (sym head) ∙ (sym (first_is (tree kernel) ready.first.process (ready.first.process + 1) (ready.first.process + 1 + length ready.rest) lines ready.block) ∙ sym at) in
    subst (λ n. Between kernel v v lines lines rest (n + 1) (n + 1) (length rest)) same (between_start kernel v lines row rest ready is)

-- lines are left: the next stretch may begin
pub between_way : (kernel : KernelSeen) (v0 v : CallerSeen) (lines left : List PlanLine) (row : List CallerSeen) (first next size : ℕ) → Between kernel v0 v lines left row first next size → (left ≡ [] → ⊥)
    → (front later : List CallerSeen) → row ≡ front ++ later → first + length front ≡ next → IsOnWay kernel left v later next
between_way kernel v0 v lines left row first next size b some front later cut at =
    let count = b.count in
    let parts = same_parts front b.ran later b.idle (omega (arith, at, count)) (sym cut ∙ b.cut) in
    let few = b.few in
    let is_first = b.is_first in
    let sized = b.sized in
    let size_is : length row ≡ length front + length later = ap length cut ∙ length-append front later in
    let m : first + size ≡ next + length later = omega (arith, size_is, sized, at) in
    record {
      caller = b.caller;
      fit = b.fit;
      may = may_on kernel v.process v.seat.seen next left some b.may;
      numbered = numbered_back kernel first next front later at (subst (AreNumbered kernel first) cut b.numbered);
      fresh = subst AreFresh (sym parts.1) b.fresh;
      block = ⊎_elim (λ none. absurd (some none.0)) (λ block. subst (λ k. IsProcessBlock (tree kernel) v.process next left k) m (subst (λ q. IsProcessBlock (tree kernel) q next left (first + size)) (sym b.process) block)) b.stands;
      few = omega (arith, few, m);
      below = let e = b.process in omega (arith, e, is_first, count);
    }

module _ (kernel : KernelSeen) (v0 v w : CallerSeen) (lines left left' : List PlanLine) (row front later later' : List CallerSeen) (first next next' size : ℕ) (whole : Bool) (b : Between kernel v0 v lines left row first next size)
    (cut : row ≡ front ++ later) (at : first + length front ≡ next) (ends : StretchEnds kernel whole v w left left' later later' next next') where
  -- The block as it stands behind a stretch.
  record After : Type 0 where
    process : w.process ≡ v0.process
    begun : IsPrefix v0.seat.seen w.seat.seen
    numbered : AreNumbered kernel first (front ++ later')
    sized : length (front ++ later') ≡ size
    count : first + length (front ++ ends.ran) ≡ next'
    up : next ≤ next'
    others : (q : ℕ) → next' ≤ q → own_of q left' ≡ own_of q lines

  after : After
  after =
      let count = ends.count in
      let counted = ends.counted in
      let sized = b.sized in
      let size_is : length row ≡ length front + length later = ap length cut ∙ length-append front later in
      record {
        process = ends.process ∙ b.process;
        begun = prefix_trans v0.seat.seen v.seat.seen w.seat.seen b.begun ends.begun;
        numbered = numbered_append kernel first next front later' at (numbered_front kernel first front later (subst (AreNumbered kernel first) cut b.numbered)) ends.numbered;
        sized = omega (arith, size_is, sized, counted, length-append front later');
        count = omega (arith, count, at, length-append front ends.ran);
        up = omega (arith, count);
        others = λ q from. ends.others q from ∙ b.others q (omega (arith, from, count));
      }

  front_is : front ≡ b.ran
  front_is = (same_parts front b.ran later b.idle (let c = b.count in omega (arith, at, c)) (sym cut ∙ b.cut)).0

  -- what the block did, to the end of the stretch
  record Did (seen : ℕ → List Entry) : Type 0 where
    made : List PlanLine
    put : made ++ own_of v0.process left' ≡ own_of v0.process lines
    run : HasRun seen v0.process w.seat.seen made
    over : AreOver seen whole lines (front ++ ends.ran)
    met : AreMet w.seat.seen (front ++ ends.ran)

  did : (seen : ℕ → List Entry) → Agree seen (front ++ ends.ran) → Did seen
  did seen agree =
      let p = v0.process in
      let a = after in
      let count = ends.count in
      let came = b.did seen (subst (Agree seen) front_is (each_front (λ (c : CallerSeen). seen c.process ≡ c.seat.seen) front ends.ran agree)) in
      let went = ends.did seen (each_back (λ (c : CallerSeen). seen c.process ≡ c.seat.seen) front ends.ran agree) in
      let same = b.process in
      let over1 : AreOver seen true lines front = subst (AreOver seen true lines) (sym front_is) came.over in
      let met1 : AreMet v.seat.seen front = subst (AreMet v.seat.seen) (sym front_is) came.met in
      record {
        made = came.made ++ went.made;
        put = append_assoc came.made went.made (own_of p left') ∙ (ap (λ ls. came.made ++ ls) (subst (λ q. went.made ++ own_of q left' ≡ own_of q left) same went.front) ∙ came.front);
        run = run_on seen p v.seat.seen w.seat.seen came.made went.made came.run (subst (λ q. RunsOn seen q v.seat.seen w.seat.seen went.made) same went.runs);
        over = each_append (MayBeOver seen whole lines) front ends.ran
            (over_among kernel seen true whole lines lines first front (λ z. refl) (numbered_front kernel first front later' a.numbered) (λ q from to. refl) over1)
            (over_among kernel seen whole whole left lines next ends.ran (λ z. z) (numbered_front kernel next ends.ran ends.idle (subst (AreNumbered kernel next) ends.row ends.numbered)) (λ q from to. b.others q from) went.over);
        met = each_append (λ (c : CallerSeen). IsPrefix c.seat.seen w.seat.seen) front ends.ran
            (each_weaker (λ (c : CallerSeen). IsPrefix c.seat.seen v.seat.seen) (λ (c : CallerSeen). IsPrefix c.seat.seen w.seat.seen) front (λ c m. prefix_trans c.seat.seen v.seat.seen w.seat.seen m ends.begun) met1)
            went.met;
      }

  -- the block is over where the stretch is its last
  pub block_over : (whole ≡ true → left' ≡ []) → (seen : ℕ → List Entry) → Agree seen (w ∷ (front ++ later')) → RowIsOver seen whole lines (w ∷ (front ++ later'))
  block_over last seen agree =
      let p = v0.process in
      let a = after in
      let row_is : front ++ later' ≡ (front ++ ends.ran) ++ ends.idle = ap (λ vs. front ++ vs) ends.row ∙ sym (append_assoc front ends.ran ends.idle) in
      let agree1 : Agree seen (front ++ ends.ran) = each_front (λ (c : CallerSeen). seen c.process ≡ c.seat.seen) (front ++ ends.ran) ends.idle (subst (Agree seen) row_is agree.1) in
      let d = did seen agree1 in (
        record {
          made = d.made;
          left = own_of p left';
          front = d.put ∙ ap (λ q. own_of q lines) (sym a.process);
          all = λ w'. ap (own_of p) (last w');
          run = subst (λ q. HasRun seen q w.seat.seen d.made) (sym a.process) d.run;
        },
        subst (AreOver seen whole lines) (sym row_is)
            (each_append (MayBeOver seen whole lines) (front ++ ends.ran) ends.idle d.over (each_weaker IsFresh (MayBeOver seen whole lines) ends.idle (λ c z. inl z) ends.fresh)),
        subst (AreMet w.seat.seen) (sym row_is)
            (each_append (λ (c : CallerSeen). IsPrefix c.seat.seen w.seat.seen) (front ++ ends.ran) ends.idle d.met (each_weaker IsFresh (λ (c : CallerSeen). IsPrefix c.seat.seen w.seat.seen) ends.idle (λ c z. prefix_none c.seat.seen w.seat.seen z) ends.fresh)),
      )

  pub row_numbered : AreNumbered kernel first (front ++ later')
  row_numbered = after.numbered

  pub row_sized : length (front ++ later') ≡ size
  row_sized = after.sized

  pub row_begun : (w.process ≡ v0.process) × IsPrefix v0.seat.seen w.seat.seen
  row_begun = (after.process, after.begun)

  pub ends_block : (old rest0 : List CallerSeen) → old ≡ v0 ∷ rest0 → size ≡ length rest0 → (whole ≡ true → left' ≡ []) → BlockEnds kernel whole lines old (w ∷ (front ++ later'))
  ends_block old rest0 is sized last = subst (λ vs. BlockEnds kernel whole lines vs (w ∷ (front ++ later'))) (sym is) (record {
    numbered = λ n numbered. ((after.process ∙ numbered.0.0, ends.caller), subst (λ k. AreNumbered kernel k (front ++ later')) (let i = b.is_first in let e = numbered.0.0 in omega (arith, i, e)) after.numbered);
    counted = let s = after.sized in omega (arith, s, sized);
    first = (after.process, after.begun);
    over = λ seen agree. block_over last seen agree;
  })

  -- behind the last line
  pub between_end : whole ≡ true → left' ≡ [] → Between kernel v0 w lines [] (front ++ later') first next' size
  between_end is none =
      let a = after in
      let few = b.few in
      let st = ends.stands is in
      record {
        caller = ends.caller;
        fit = subst (AreFit kernel) none ends.fit;
        may = tt;
        process = a.process;
        begun = a.begun;
        is_first = b.is_first;
        sized = a.sized;
        few = few;
        numbered = a.numbered;
        ran = front ++ ends.ran;
        idle = ends.idle;
        cut = ap (λ vs. front ++ vs) ends.row ∙ sym (append_assoc front ends.ran ends.idle);
        fresh = ends.fresh;
        count = a.count;
        stands = subst (λ ls. StandsAt (tree kernel) v0.process next' ls (first + size)) none (stood st);
        shorter = omega arith;
        others = λ q from. subst (λ ls. own_of q ls ≡ own_of q lines) none (a.others q from);
        did = λ seen agree. let d = did seen agree in record {
          made = d.made;
          front = subst (λ ls. d.made ++ own_of v0.process ls ≡ own_of v0.process lines) none d.put;
          run = d.run;
          over = subst (λ x. AreOver seen x lines (front ++ ends.ran)) is d.over;
          met = d.met;
        };
      }
    where
      stood : StandsAt (tree kernel) v.process next' left' (next + length later') → StandsAt (tree kernel) v0.process next' left' (first + size)
      stood st = subst (λ k. StandsAt (tree kernel) v0.process next' left' k) (let s = after.sized in omega (arith, s, at, length-append front later')) (subst (λ q. StandsAt (tree kernel) q next' left' (next + length later')) b.process st)

  -- behind a wait
  pub between_wait : (l : PlanLine) (behind : List PlanLine) → whole ≡ true → left' ≡ l ∷ behind → l.act ≡ act.Wait → Between kernel v0 w lines behind (front ++ later') first next' size
  between_wait l behind is line wait =
      let a = after in
      let here = at_line (tree kernel) v0.process next' (first + size) left' behind l (stood (ends.stands is)) line in
      let block : IsProcessBlock (tree kernel) v0.process next' behind (first + size) = subst (NextIs (tree kernel) v0.process next' (first + size) behind) wait here.next in
      let low : v0.process < next' = let i = b.is_first in let c = b.count in let u = a.up in omega (arith, i, c, u) in
      let may = may_at kernel w.process w.seat.seen next' left' behind l line (ends.may is) in
      record {
        caller = ends.caller;
        fit = fit_behind kernel left' behind l line ends.fit;
        may = may_go kernel w.process w.seat.seen next' behind
            (went_on kernel w.process next' next' w.seat.seen w.seat.seen [] l behind behind may (here.own ∙ sym a.process) refl (omega arith) (prefix_refl w.seat.seen) (sym (append-nil (entries_of w.seat.seen w.process)))
            (wait_made w.process next' w.seat.seen l.act may.ends));
        process = a.process;
        begun = a.begun;
        is_first = b.is_first;
        sized = a.sized;
        few = b.few;
        numbered = a.numbered;
        ran = front ++ ends.ran;
        idle = ends.idle;
        cut = ap (λ vs. front ++ vs) ends.row ∙ sym (append_assoc front ends.ran ends.idle);
        fresh = ends.fresh;
        count = a.count;
        stands = inr block;
        shorter =
            let x = b.shorter in
            let y = ends.shorter in
            let z : length left' ≡ length (l ∷ behind) = ap length line in omega (arith, x, y, z);
        others = λ q from. sym (ap (own_of q) line ∙ not_own q l behind (λ e. let o = here.own in omega (arith, e, o, low, from))) ∙ a.others q from;
        did = λ seen agree. let d = did seen agree in record {
          made = d.made ++ l ∷ [];
          front = append_assoc d.made (l ∷ []) (own_of v0.process behind) ∙ (ap (λ ls. d.made ++ ls) (sym (ap (own_of v0.process) line ∙ is_own v0.process l behind here.own)) ∙ d.put);
          run = run_wait seen v0.process w.seat.seen d.made l d.run wait;
          over = subst (λ x. AreOver seen x lines (front ++ ends.ran)) is d.over;
          met = d.met;
        };
      }
    where
      stood : StandsAt (tree kernel) v.process next' left' (next + length later') → StandsAt (tree kernel) v0.process next' left' (first + size)
      stood st = subst (λ k. StandsAt (tree kernel) v0.process next' left' k) (let s = after.sized in omega (arith, s, at, length-append front later')) (subst (λ q. StandsAt (tree kernel) q next' left' (next + length later')) b.process st)

-- the block is behind its last line
pub between_over : (kernel : KernelSeen) (v0 v : CallerSeen) (lines : List PlanLine) (row : List CallerSeen) (first next size : ℕ) → Between kernel v0 v lines [] row first next size → (seen : ℕ → List Entry) → Agree seen (v ∷ row) → RowIsOver seen true lines (v ∷ row)
between_over kernel v0 v lines row first next size b seen agree =
    let p = v0.process in
    let d = b.did seen (each_front (λ (c : CallerSeen). seen c.process ≡ c.seat.seen) b.ran b.idle (subst (Agree seen) b.cut agree.1)) in (
      record {
        made = d.made;
        left = [];
        front = d.front ∙ ap (λ q. own_of q lines) (sym b.process);
        all = λ w. refl;
        run = subst (λ q. HasRun seen q v.seat.seen d.made) (sym b.process) d.run;
      },
      subst (AreOver seen true lines) (sym b.cut) (each_append (MayBeOver seen true lines) b.ran b.idle d.over (each_weaker IsFresh (MayBeOver seen true lines) b.idle (λ c z. inl z) b.fresh)),
      subst (AreMet v.seat.seen) (sym b.cut) (each_append (λ (c : CallerSeen). IsPrefix c.seat.seen v.seat.seen) b.ran b.idle d.met (each_weaker IsFresh (λ (c : CallerSeen). IsPrefix c.seat.seen v.seat.seen) b.idle (λ c z. prefix_none c.seat.seen v.seat.seen z) b.fresh)),
    )

pub between_ends : (kernel : KernelSeen) (v0 v : CallerSeen) (lines : List PlanLine) (row : List CallerSeen) (first next size : ℕ) → Between kernel v0 v lines [] row first next size
    → (old rest0 : List CallerSeen) → old ≡ v0 ∷ rest0 → size ≡ length rest0 → BlockEnds kernel true lines old (v ∷ row)
between_ends kernel v0 v lines row first next size b old rest0 is sized = subst (λ vs. BlockEnds kernel true lines vs (v ∷ row)) (sym is) (record {
  numbered = λ n numbered. ((b.process ∙ numbered.0.0, b.caller), subst (λ k. AreNumbered kernel k row) (let i = b.is_first in let e = numbered.0.0 in omega (arith, i, e)) b.numbered);
  counted = let s = b.sized in omega (arith, s, sized);
  first = (b.process, b.begun);
  over = between_over kernel v0 v lines row first next size b;
})

pub not_empty : (xs : List PlanLine) (b : Bool) → b ≡ false → b ≡ (length xs == 0) → xs ≡ [] → ⊥
not_empty xs b none is e = false≢true (sym none ∙ (is ∙ ap (λ (ys : List PlanLine). length ys == 0) e))

pub is_none : (xs : List PlanLine) → length xs ≡ 0 → xs ≡ []
is_none [] e = refl
is_none (x ∷ xs) e = absurd (omega (arith, e))

pub empty_none : (xs : List PlanLine) (b : Bool) → b ≡ true → b ≡ (length xs == 0) → xs ≡ []
empty_none [] b empty is = refl
empty_none (x ∷ xs) b empty is = absurd (let e : (suc (length xs) == 0) ≡ true = sym is ∙ empty in let z : suc (length xs) ≡ 0 = eqb-true (suc (length xs)) 0 e in omega (arith, z))
