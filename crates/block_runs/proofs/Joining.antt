-- A child's block and its parent's lines, side by side.
use Rattle.std.proofs.Common.{◌≡◌, ℕ, ◌+◌, ◌-◌, ◌==◌, ◌≤◌, ◌<◌, Bool, true, List, [], ◌∷◌, ◌++◌, length, refl, sym, ap, ◌∙◌, subst, append_assoc, append-nil, length-append, arith, ⊎_elim, inl, inr}
use Rattle.std.specs.Prelude.{drop}
use Rattle.std.specs.List.{list_any}
use Rattle.std.proofs.lemmas.List.Elements.{filter-append}
use mathlib.Core.List.{IsPrefix}
use Rattle.vm_script.specs.vm_types.declared.call.Call.TheVariants as call
use Rattle.vm_script.specs.vm_types.declared.call.Reply.{Reply}
use Rattle.vm_script.specs.vm_types.declared.call.Entry.{Entry}
use Rattle.vm_script.specs.flat_model.Told.{entries_of}
use Rattle.vm_script.specs.flat_model.Births.{is_birth}
use Rattle.vm_script.specs.declared.plan.PlanAct.TheVariants as act
use Rattle.vm_script.specs.declared.plan.PlanLine.{PlanLine}
use Rattle.vm_script.specs.Blocks.{IsProcessBlock}
use Rattle.vm_script.proofs.Ranges.{within}
use Rattle.vm_script.proofs.Tellings.{prefix_trans}
use Rattle.vm_kernel.specs.Callers.{KernelSeen, CallerSeen, IsCallerOf}
use Rattle.block_runs.specs.Callers.{tree, IsCaller, SeesMore, HasMade}
use Rattle.block_runs.specs.Conditions.{MayMakeLines}
use Rattle.block_runs.specs.Running.{RunsOn}
use Rattle.block_runs.specs.declared.blocks.Stretch.{Stretch}
use Rattle.vm_kernel.specs.Turns.{HasSeenMore}
use Rattle.block_runs.specs.Rows.{AreNumbered, Agree, IsFresh, AreFresh, IsOver, MayBeOver, AreOver, AreMet, RowIsOver, FirstSeesMore, IsBlockReady, IsOnWay, IsChildBorn, StretchEnds, IsStretch, EndsAtWait, BlockEnds, HaveMet, BothEnd}
use Rattle.block_runs.specs.Lines.{own_of, ends_in, StandsAt}
use Rattle.block_runs.proofs.Lists.{any_longer, prefix_none, each_front, each_back, each_append, each_weaker, same_parts, numbered_append, numbered_front, numbered_back}
use Rattle.block_runs.proofs.NextLines.{outside_own, not_own, is_own}
use Rattle.block_runs.proofs.Runs.{runs_more, runs_then, runs_fork}
use Rattle.block_runs.proofs.Goings.{may_seen}
use Rattle.block_runs.proofs.Stretching.{GoesOn, AtFork, IsForkHere, own_behind, has_first, fork_lines, left_behind}
use Rattle.block_runs.proofs.KernelCalls.{told_more}

-- the child's part of the row
pub both_child : (kernel : KernelSeen) (inside others : List PlanLine) (v : CallerSeen) (row : List CallerSeen) (next after : ℕ) → IsChildBorn kernel inside others v row next after
    → (front back : List CallerSeen) → row ≡ front ++ back → next + length front ≡ after → IsBlockReady kernel inside front
both_child kernel inside others v row next after h [] back is long = absurd (let up = (within (tree kernel) next (next + 1) after inside h.inside_is).up in omega (arith, up, long))
both_child kernel inside others v row next after h (d ∷ ds) back is long =
    let e : h.child ∷ h.rest ≡ d ∷ (ds ++ back) = sym h.is ∙ is in
    let head : h.child ≡ d = cc e in
    let tail : h.rest ≡ ds ++ back = cc e in
    let numbered : AreNumbered kernel next (d ∷ (ds ++ back)) = subst (AreNumbered kernel next) is h.numbered in
    let same : d.process ≡ next = numbered.0.0 in
    let few = h.few in
    let size : length row ≡ length (d ∷ ds) + length back = ap length is ∙ length-append (d ∷ ds) back in
    record {
      first = d;
      rest = ds;
      is = refl;
      caller = numbered.0.1;
      fit = h.inside_fit;
      may = subst (λ (c : CallerSeen). MayMakeLines kernel c.process c.seat.seen (c.process + 1) inside) head h.child_may;
      numbered = subst (λ n. AreNumbered kernel (n + 1) ds) (sym same) (numbered_front kernel (next + 1) ds back numbered.1);
      fresh = each_front IsFresh ds back (subst AreFresh tail h.fresh);
      none = subst (λ (c : CallerSeen). entries_of c.seat.seen c.process ≡ []) head h.none;
      block = subst (λ m. IsProcessBlock (tree kernel) d.process (d.process + 1) inside m) (omega (arith, long, same)) (subst (λ n. IsProcessBlock (tree kernel) n (n + 1) inside after) (sym same) h.inside_is);
      few = omega (arith, few, same, size);
    }

-- the parent's part of the row
pub both_parent : (kernel : KernelSeen) (inside others : List PlanLine) (v : CallerSeen) (row : List CallerSeen) (next after : ℕ) → IsChildBorn kernel inside others v row next after
    → (front back : List CallerSeen) → row ≡ front ++ back → next + length front ≡ after → IsOnWay kernel others v back after
both_parent kernel inside others v row next after h [] back is long = absurd (let up = (within (tree kernel) next (next + 1) after inside h.inside_is).up in omega (arith, up, long))
both_parent kernel inside others v row next after h (d ∷ ds) back is long =
    let e : h.child ∷ h.rest ≡ d ∷ (ds ++ back) = sym h.is ∙ is in
    let tail : h.rest ≡ ds ++ back = cc e in
    let few = h.few in
    let below = h.below in
    let size : length row ≡ length (d ∷ ds) + length back = ap length is ∙ length-append (d ∷ ds) back in
    record {
      caller = h.caller;
      fit = h.others_fit;
      may = h.may;
      numbered = numbered_back kernel next after (d ∷ ds) back long (subst (AreNumbered kernel next) is h.numbered);
      fresh = each_back IsFresh ds back (subst AreFresh tail h.fresh);
      block = subst (λ m. IsProcessBlock (tree kernel) v.process after others m) (omega (arith, size, long)) h.others_are;
      few = omega (arith, few, size, long);
      below = omega (arith, below, long);
    }

-- blocks that are over, among more lines
pub over_among : (kernel : KernelSeen) (seen : ℕ → List Entry) (b whole : Bool) (lines more : List PlanLine) (n : ℕ) (vs : List CallerSeen) → (whole ≡ true → b ≡ true) → AreNumbered kernel n vs
    → ((q : ℕ) → n ≤ q → q < n + length vs → own_of q lines ≡ own_of q more) → AreOver seen b lines vs → AreOver seen whole more vs
over_among kernel seen b whole lines more n [] all numbered same over = tt
over_among kernel seen b whole lines more n (v ∷ vs) all numbered same over =
    let here : own_of v.process lines ≡ own_of v.process more = let e = numbered.0.0 in same v.process (omega (arith, e)) (omega (arith, e)) in (
      ⊎_elim (λ fresh. inl fresh) (λ o. inr (one_over v here o.0, o.1)) over.0,
      over_among kernel seen b whole lines more (n + 1) vs all numbered.1 (λ q from to. same q (omega (arith, from)) (omega (arith, to))) over.1,
    )
  where
    one_over : (v : CallerSeen) → own_of v.process lines ≡ own_of v.process more → IsOver seen b lines v → IsOver seen whole more v
    one_over v here o = record { made = o.made; left = o.left; front = o.front ∙ here; all = λ w. o.all (all w); run = o.run }

pub own_before : (q : ℕ) (inside others : List PlanLine) → own_of q others ≡ [] → own_of q inside ≡ own_of q (inside ++ others)
own_before q inside others none = sym (filter-append (λ (l : PlanLine). l.process == q) inside others ∙ (ap (λ ls. own_of q inside ++ ls) none ∙ append-nil (own_of q inside)))

module _ (kernel : KernelSeen) (inside others left : List PlanLine) (v x y : CallerSeen) (row : List CallerSeen) (next after after2 : ℕ) (h : IsChildBorn kernel inside others v row next after)
    (front back front' back' : List CallerSeen) (is : row ≡ front ++ back) (long : next + length front ≡ after)
    (ended stretched whole : Bool) (numbered : (n : ℕ) → AreNumbered kernel n front → AreNumbered kernel n front') (counted : length front' ≡ length front) (first : FirstSeesMore front front')
    (over : (seen : ℕ → List Entry) → Agree seen front' → RowIsOver seen ended inside front') (ends : StretchEnds kernel stretched v x others left back back' after after2)
    (more : SeesMore x y []) (caller : IsCaller kernel y) (one : whole ≡ true → ended ≡ true) (two : whole ≡ true → stretched ≡ true) where
  -- the child and its parent's stretch, behind the meeting
  pub both_end : (d : CallerSeen) (ds : List CallerSeen) → front' ≡ d ∷ ds → IsPrefix d.seat.seen y.seat.seen → HaveMet kernel whole v y inside others left row (front' ++ back') next after2
  both_end d ds is' met =
      let p = v.process in
      let up = (within (tree kernel) next (next + 1) after inside h.inside_is).up in
      let below = h.below in
      let all_numbered : AreNumbered kernel next front' = numbered next (numbered_front kernel next front back (subst (AreNumbered kernel next) is h.numbered)) in
      let first_is : d.process ≡ next = (subst (AreNumbered kernel next) is' all_numbered).0.0 in
      let size : length row ≡ length front + length back = ap length is ∙ length-append front back in
      let counted2 = ends.counted in
      let count2 = ends.count in
      let size' = length-append front' back' in
      let none : own_of p inside ≡ [] = outside_own (tree kernel) next (next + 1) after p inside h.inside_is (λ e. omega (arith, e, below)) (λ a b. omega (arith, a, below)) in
      let in_front : (q : ℕ) → next ≤ q → q < next + length front' → own_of q inside ≡ own_of q (inside ++ others) =
      λ q from to. own_before q inside others (outside_own (tree kernel) p after (next + length row) q others h.others_are (λ e. omega (arith, e, below, from)) (λ a b. omega (arith, a, to, counted, long))) in
      let in_back : (q : ℕ) → after ≤ q → own_of q others ≡ own_of q (inside ++ others) =
      λ q from. sym (own_behind q (inside ++ others) inside others refl (outside_own (tree kernel) next (next + 1) after q inside h.inside_is (λ e. omega (arith, e, from, up)) (λ a b. omega (arith, b, from)))) in
      let le : IsPrefix x.seat.seen y.seat.seen = more.begun in
      record {
        ends = record {
          caller = caller;
          fit = ends.fit;
          may = λ w. may_seen kernel after2 left x y more (ends.may (two w));
          process = more.process ∙ ends.process;
          begun = prefix_trans v.seat.seen x.seat.seen y.seat.seen ends.begun more.begun;
          ran = front' ++ ends.ran;
          idle = ends.idle;
          row = ap (λ vs. front' ++ vs) ends.row ∙ sym (append_assoc front' ends.ran ends.idle);
          counted = omega (arith, size', size, counted, counted2);
          numbered = numbered_append kernel next after front' back' (omega (arith, counted, long)) all_numbered ends.numbered;
          count = omega (arith, count2, counted, long, length-append front' ends.ran);
          fresh = ends.fresh;
          stands = λ w. subst (λ m. StandsAt (tree kernel) p after2 left m) (omega (arith, size', counted, long)) (ends.stands (two w));
          shorter = let s = ends.shorter in omega (arith, s, length-append inside others);
          others = λ q from. ends.others q from ∙ in_back q (omega (arith, from, count2));
          did = λ seen agree.
              let agree' : Agree seen front' = each_front (λ (c : CallerSeen). seen c.process ≡ c.seat.seen) front' ends.ran agree in
              let row_over : RowIsOver seen ended inside (d ∷ ds) = subst (RowIsOver seen ended inside) is' (over seen agree') in
              let went = ends.did seen (each_back (λ (c : CallerSeen). seen c.process ≡ c.seat.seen) front' ends.ran agree) in
              let born : list_any (is_birth d.process) d.seat.seen ≡ true = born_first front is front' first is' in
              let child : MayBeOver seen ended inside d = inr (row_over.0, born) in
              let over' : AreOver seen ended inside front' = subst (AreOver seen ended inside) (sym is') (child, row_over.1) in
              record {
                made = went.made;
                front = went.front ∙ sym (own_behind p (inside ++ others) inside others refl none);
                runs = runs_more seen p v.seat.seen x.seat.seen y.seat.seen went.made went.runs le (subst (λ q. entries_of y.seat.seen q ≡ entries_of x.seat.seen q ++ []) ends.process more.own);
                over = each_append (MayBeOver seen whole (inside ++ others)) front' ends.ran
                    (over_among kernel seen ended whole inside (inside ++ others) next front' one all_numbered in_front over')
                    (over_among kernel seen stretched whole others (inside ++ others) after ends.ran two (numbered_front kernel after ends.ran ends.idle (subst (AreNumbered kernel after) ends.row ends.numbered)) (λ q from to. in_back q from) went.over);
                met = each_append (λ (c : CallerSeen). IsPrefix c.seat.seen y.seat.seen) front' ends.ran
                    (subst (AreMet y.seat.seen) (sym is') (met, each_weaker (λ (c : CallerSeen). IsPrefix c.seat.seen d.seat.seen) (λ (c : CallerSeen). IsPrefix c.seat.seen y.seat.seen) ds (λ c m. prefix_trans c.seat.seen d.seat.seen y.seat.seen m met) row_over.2))
                    (each_weaker (λ (c : CallerSeen). IsPrefix c.seat.seen x.seat.seen) (λ (c : CallerSeen). IsPrefix c.seat.seen y.seat.seen) ends.ran (λ c m. prefix_trans c.seat.seen x.seat.seen y.seat.seen m le) went.met);
              };
        };
        child = λ seen agree.
            let at : seen next ≡ d.seat.seen = ap seen (sym first_is) ∙ (subst (Agree seen) is' (each_front (λ (c : CallerSeen). seen c.process ≡ c.seat.seen) front' ends.ran agree)).0 in
            (subst (λ s. IsPrefix s y.seat.seen) (sym at) met, subst (λ s. list_any (is_birth next) s ≡ true) (sym at) (subst (λ n. list_any (is_birth n) d.seat.seen ≡ true) first_is (born_first front is front' first is')));
      }
    where
      born_first : (front : List CallerSeen) → row ≡ front ++ back → (front' : List CallerSeen) → FirstSeesMore front front' → front' ≡ d ∷ ds → list_any (is_birth d.process) d.seat.seen ≡ true
      born_first (c ∷ cs) is (e ∷ es) more is' =
          let head : h.child ≡ c = cc (sym h.is ∙ is) in
          let head' : e ≡ d = cc is' in
          subst (λ (z : CallerSeen). list_any (is_birth z.process) z.seat.seen ≡ true) head'
          (any_longer (is_birth e.process) c.seat.seen e.seat.seen more.1 (subst (λ q. list_any (is_birth q) c.seat.seen ≡ true) (sym more.0) (subst (λ (z : CallerSeen). list_any (is_birth z.process) z.seat.seen ≡ true) head h.born)))
      born_first [] is front' more is' = absurd more
      born_first (c ∷ cs) is [] more is' = absurd more

-- a child was born at a fork, ran beside the lines behind it, and was met
pub go_fork : (kernel : KernelSeen) (whole : Bool) (v0 v w x : CallerSeen) (lines left behind inside others left' : List PlanLine) (l : PlanLine) (row front later later' : List CallerSeen) (next0 next after after2 : ℕ) (r : Reply)
    → IsOnWay kernel lines v0 row next0 → GoesOn kernel v0 v lines left row next0 next
    → left ≡ l ∷ behind → l.process ≡ v0.process → l.act ≡ act.Call (call.Fork next) → AtFork (tree kernel) v0.process next (next0 + length row) behind inside others after
    → HasMade v w (call.Fork next) r → next0 + length front ≡ next → row ≡ front ++ later → length later' ≡ length later
    → (later1 : List CallerSeen) → length later1 ≡ length later → HaveMet kernel whole w x inside others left' later1 later' next after2 → StretchEnds kernel whole v0 x lines left' row (front ++ later') next0 after2
go_fork kernel whole v0 v w x lines left behind inside others left' l row front later later' next0 next after after2 r way g is own line f made at cut sized later1 sized1 both =
    let p = v0.process in
    let ends = both.ends in
    let count = g.count in
    let parts = same_parts front g.ran later g.idle (omega (arith, at, count)) (sym cut ∙ g.cut) in
    let size : length row ≡ length front + length later = ap length cut ∙ length-append front later in
    let size' = length-append front later' in
    let same_process : w.process ≡ p = made.more.process ∙ g.process in
    let fresh : AreFresh front = each_front IsFresh front later (subst AreFresh cut way.fresh) in
    let below = g.below in
    let counted = ends.count in
    let here : (q : ℕ) → next ≤ q → own_of q (inside ++ others) ≡ own_of q lines =
    λ q from. sym (ap (own_of q) is ∙ (not_own q l behind (λ e. omega (arith, e, own, below, from)) ∙ ap (own_of q) f.whole)) ∙ g.others q from in
    record {
      caller = ends.caller;
      fit = ends.fit;
      may = ends.may;
      process = ends.process ∙ same_process;
      begun = prefix_trans v0.seat.seen w.seat.seen x.seat.seen (prefix_trans v0.seat.seen v.seat.seen w.seat.seen g.begun made.more.begun) ends.begun;
      ran = front ++ ends.ran;
      idle = ends.idle;
      row = ap (λ vs. front ++ vs) ends.row ∙ sym (append_assoc front ends.ran ends.idle);
      counted = omega (arith, size, size', sized);
      numbered = numbered_append kernel next0 next front later' at (numbered_front kernel next0 front later (subst (AreNumbered kernel next0) cut way.numbered)) ends.numbered;
      count = omega (arith, counted, at, length-append front ends.ran);
      fresh = ends.fresh;
      stands = λ w'. subst (λ q. StandsAt (tree kernel) q after2 left' (next0 + length (front ++ later'))) same_process (subst (λ m. StandsAt (tree kernel) w.process after2 left' m) (omega (arith, at, size')) (ends.stands w'));
      shorter =
          let a = g.shorter in
          let b : length left ≡ length (l ∷ behind) = ap length is in
          let c : length behind ≡ length (inside ++ others) = ap length f.whole in
          let d = ends.shorter in omega (arith, a, b, c, d);
      others = λ q from. ends.others q from ∙ here q (omega (arith, from, counted));
      did = λ seen agree.
          let agree1 : Agree seen front = each_front (λ (c : CallerSeen). seen c.process ≡ c.seat.seen) front ends.ran agree in
          let agree2 = each_back (λ (c : CallerSeen). seen c.process ≡ c.seat.seen) front ends.ran agree in
          let went = g.did seen (subst (Agree seen) parts.0 agree1) in
          let on = ends.did seen agree2 in
          let child = both.child seen agree2 in
          let runs : RunsOn seen p w.seat.seen x.seat.seen on.made = subst (λ q. RunsOn seen q w.seat.seen x.seat.seen on.made) same_process on.runs in
          let le : IsPrefix w.seat.seen x.seat.seen = on.runs.begun in
          record {
            made = went.made ++ l ∷ on.made;
            front =
                append_assoc went.made (l ∷ on.made) (own_of p left')
                ∙ (ap (λ ls. went.made ++ l ∷ ls) (subst (λ q. on.made ++ own_of q left' ≡ own_of q (inside ++ others)) same_process on.front)
                ∙ (ap (λ ls. went.made ++ l ∷ ls) (sym (ap (own_of p) f.whole))
                ∙ (ap (λ ls. went.made ++ ls) (sym (ap (own_of p) is ∙ is_own p l behind own)) ∙ went.front)));
            runs = runs_then seen p v0.seat.seen v.seat.seen x.seat.seen went.made (l ∷ on.made) went.runs (runs_fork seen p v w x.seat.seen l next r on.made g.process line made runs child.0 child.1);
            over = each_append (MayBeOver seen whole lines) front ends.ran
                (each_weaker IsFresh (MayBeOver seen whole lines) front (λ c z. inl z) fresh)
                (over_among kernel seen whole whole (inside ++ others) lines next ends.ran (λ z. z) (numbered_front kernel next ends.ran ends.idle (subst (AreNumbered kernel next) ends.row ends.numbered)) (λ q from to. here q from) on.over);
            met = each_append (λ (c : CallerSeen). IsPrefix c.seat.seen x.seat.seen) front ends.ran
                (each_weaker IsFresh (λ (c : CallerSeen). IsPrefix c.seat.seen x.seat.seen) front (λ c z. prefix_none c.seat.seen x.seat.seen z) fresh)
                on.met;
          };
    }

-- The child's caller is the first of its part of the row.
pub record FirstAfter (kernel : KernelSeen) (ran : List CallerSeen) : Type 0 where
  pub child : CallerSeen
  pub rest : List CallerSeen
  pub is : ran ≡ child ∷ rest
  pub caller : IsCaller kernel child

pub first_after : (kernel : KernelSeen) (ended : Bool) (inside others : List PlanLine) (v : CallerSeen) (row : List CallerSeen) (next after : ℕ) → IsChildBorn kernel inside others v row next after
    → (front back ran : List CallerSeen) → row ≡ front ++ back → BlockEnds kernel ended inside front ran → FirstAfter kernel ran
first_after kernel ended inside others v row next after h front back ran is ends =
    let f = has_first front ran ends.first in
    let numbered : AreNumbered kernel next ran = ends.numbered next (numbered_front kernel next front back (subst (AreNumbered kernel next) is h.numbered)) in
    record { child = f.first; rest = f.rest; is = f.is; caller = (subst (AreNumbered kernel next) f.is numbered).0.1 }

-- the child and its parent's stretch are over, and they met
pub both_met : (kernel : KernelSeen) (inside others : List PlanLine) (v : CallerSeen) (row : List CallerSeen) (next after : ℕ) (h : IsChildBorn kernel inside others v row next after) (front back ran left : List CallerSeen)
    → row ≡ front ++ back → next + length front ≡ after → (ended : Bool) (s : Stretch) (x : CallerSeen) → BlockEnds kernel ended inside front ran → IsStretch kernel s v x others back left after → (f : FirstAfter kernel ran)
    → (y : CallerSeen) (whole : Bool) → HasSeenMore x y → IsCallerOf kernel y → IsPrefix f.child.seat.seen y.seat.seen → (whole ≡ true → ended ≡ true) → (whole ≡ true → s.whole ≡ true)
    → BothEnd kernel (record { passed = s.passed; next = s.next; whole = whole }) v y inside others row (ran ++ left) next
both_met kernel inside others v row next after h front back ran left is long ended s x child p f y whole told of met one two =
    let more = told_more kernel x y p.ends.caller of told in
    record {
      met = both_end kernel inside others (drop s.passed others) v x y row next after s.next h front back ran left is long ended s.whole whole child.numbered child.counted child.first child.over p.ends more.0 more.1 one two f.child f.rest f.is met;
      wait = λ w. p.wait (two w);
      passed = p.passed;
    }

-- what a stretch answers at a fork that was done
pub fork_stretch : (kernel : KernelSeen) (s : Stretch) (v0 v w x : CallerSeen) (lines left behind inside others : List PlanLine) (l : PlanLine) (row front later later1 later' : List CallerSeen) (next0 next : ℕ) (r : Reply)
    → IsOnWay kernel lines v0 row next0 → GoesOn kernel v0 v lines left row next0 next → left ≡ l ∷ behind → IsForkHere (tree kernel) v0.process next (next0 + length row) l behind inside others
    → HasMade v w (call.Fork next) r → next0 + length front ≡ next → row ≡ front ++ later → length later1 ≡ length later → BothEnd kernel s w x inside others later1 later' next
    → IsStretch kernel (record { passed = length lines - length others + s.passed; next = s.next; whole = s.whole }) v0 x lines row (front ++ later') next0
fork_stretch kernel s v0 v w x lines left behind inside others l row front later later1 later' next0 next r way g is f made at cut sized1 both =
    let cut_lines = fork_lines g.passed left behind inside others lines l g.whole is f.at.whole in
    let same = left_behind lines (g.passed ++ l ∷ inside) others s.passed cut_lines in
    let size : length lines ≡ length (g.passed ++ l ∷ inside) + length others = ap (λ (ls : List PlanLine). length ls) cut_lines ∙ length-append (g.passed ++ l ∷ inside) others in
    let counted : length later' ≡ length later = both.met.ends.counted ∙ sized1 in
    record {
      ends = subst (λ ls. StretchEnds kernel s.whole v0 x lines ls row (front ++ later') next0 s.next) (sym same)
          (go_fork kernel s.whole v0 v w x lines left behind inside others (drop s.passed others) l row front later later' next0 next (next + ends_in inside) s.next r way g is f.own f.act f.at made at cut counted later1 sized1 both.met);
      wait = λ w. subst EndsAtWait (sym same) (both.wait w);
      passed = let k = both.passed in omega (arith, k, size);
    }
