-- The blocks of a plan nest, and each of its lines may be run.
use Rattle.vm_script.proofs.Scripts.{not_true as not_zero}
use Rattle.std.proofs.Common.{◌≡◌, ℕ, zero, suc, ◌≤◌, ◌<◌, ◌^◌, ◌+◌, ◌==◌, Bool, true, false, not, List, [], ◌∷◌, ◌++◌, length, Some, Result, Ok, Err}
use Rattle.std.proofs.Common.{refl, sym, ap, ◌∙◌, subst, append_assoc, append-nil, arith, rules, tests, length-append}
use Rattle.std.specs.Prelude.{All, slice_get, slice_index_or, nat_lt, if◌then◌else◌}
use Rattle.std.specs.List.{list_all}
use Rattle.std.proofs.lemmas.Bool.{false≢true, eqb-true}
use Rattle.std.proofs.lemmas.Bool.Decides.{nat_tests}
use Rattle.std.proofs.lemmas.List.Elements.{All-nil, All-cons}
use Rattle.flat_model.specs.vm_types.declared.call.Call.{Call}
use Rattle.flat_model.specs.vm_types.declared.call.Call.TheVariants as call
use Rattle.flat_model.specs.vm_types.declared.call.Object.TheVariants as object
use Rattle.flat_model.specs.vm_types.WellFormed.{IsNumber, IsWellFormed}
use Rattle.vm_script.specs.declared.fault.ScriptKind.{ScriptKind}
use Rattle.vm_script.specs.declared.fault.ScriptKind.TheVariants as fault
use Rattle.vm_script.specs.declared.fault.ScriptFault.{ScriptFault}
use Rattle.vm_script.specs.declared.plan.PlanAct.{PlanAct}
use Rattle.vm_script.specs.declared.plan.PlanAct.TheVariants as act
use Rattle.vm_script.specs.declared.plan.PlanLine.{PlanLine}
use Rattle.vm_script.specs.declared.statement.Statement.{Statement}
use Rattle.vm_script.specs.declared.statement.Statement.TheVariants as says
use Rattle.vm_script.specs.PlanSeen.{PlanSeen}
use Rattle.vm_script.specs.Lines.{is_plain, fields, lines}
use Rattle.vm_script.specs.Statements.{statement, unknown_file}
use Rattle.vm_script.specs.Plans.{OpenPlan, empty_plan, plan_seen, enclosing_block, with_line, with_new_block, without_block, with_statement, spot_of, plan_from, plan_of}
use Rattle.vm_script.specs.Blocks.{IsInner, IsProcessBlock, ends, goes_on, forks, AreProcessBlocks, over, block}
use Rattle.vm_script.specs.Told.{parent_of}
use Rattle.vm_script.specs.Printed.{IsPlainCall, IsNamedCall, IsPlanAct}
use Rattle.vm_script.specs.Sound.{IsSoundAct, IsSoundPlan, IsOfNoFile, IsOfNamedFile}
use Rattle.vm_script.proofs.Placed.{IsPlaced, placed}

-- what follows a place in a plan, where the block p is opened innermost
data Completes (parents : List ℕ) : ℕ → ℕ → List PlanLine → ℕ → Type 0 where
  tops : (n m : ℕ) (rest : List PlanLine) → AreProcessBlocks parents n rest m → Completes parents 0 n rest m
  closes : (i n k m : ℕ) (own rest : List PlanLine) → IsProcessBlock parents (suc i) n own k
      → Completes parents (enclosing_block parents (suc i)) k rest m → Completes parents (suc i) n (own ++ rest) m

top_of : (parents : List ℕ) (n : ℕ) (rest : List PlanLine) (m : ℕ) → Completes parents 0 n rest m → AreProcessBlocks parents n rest m
top_of parents n rest m (tops _ _ _ h) = h

pub plus_one : (n : ℕ) → n + 1 ≡ suc n
plus_one n = omega arith

record Closed (parents : List ℕ) (i n : ℕ) (all : List PlanLine) (m : ℕ) : Type 0 where
  own : List PlanLine
  rest : List PlanLine
  k : ℕ
  is : own ++ rest ≡ all
  body : IsProcessBlock parents (suc i) n own k
  after : Completes parents (enclosing_block parents (suc i)) k rest m

closed : (parents : List ℕ) (i n : ℕ) (rest : List PlanLine) (m : ℕ) → Completes parents (suc i) n rest m → Closed parents i n rest m
closed parents i n rest m (closes _ _ k _ own more body after) = record { own = own; rest = more; k = k; is = refl; body = body; after = after }

open_block : (parents : List ℕ) (i n m : ℕ) (all : List PlanLine) → Closed parents i n all m → Completes parents (suc i) n all m
open_block parents i n m all c = subst (λ xs. Completes parents (suc i) n xs m) c.is (closes i n c.k m c.own c.rest c.body c.after)

-- what is known of a plan that grows
record IsOpen (g : OpenPlan) : Type 0 where
  inside : g.inside ≤ length g.parents
  before : (i : ℕ) → slice_index_or g.parents i 0 ≤ i

more_before : (xs : List ℕ) (p k : ℕ) → ((i : ℕ) → slice_index_or xs i 0 ≤ k + i) → p ≤ k + length xs → (i : ℕ) → slice_index_or (xs ++ p ∷ []) i 0 ≤ k + i
more_before [] p k all le zero = omega (arith, le)
more_before [] p k all le (suc i) = omega arith
more_before (x ∷ xs) p k all le zero = all zero
more_before (x ∷ xs) p k all le (suc i) =
    let rest : (j : ℕ) → slice_index_or xs j 0 ≤ suc k + j = λ j. let h = all (suc j) in omega (arith, h) in
    let ih = more_before xs p (suc k) rest (omega (arith, le)) i in
    omega (arith, ih)

outside_le : (g : OpenPlan) → IsOpen g → enclosing_block g.parents g.inside ≤ length g.parents
outside_le g opened = from g.inside opened.inside
  where
    from : (p : ℕ) → p ≤ length g.parents → enclosing_block g.parents p ≤ length g.parents
    from zero le = omega arith
    from (suc i) le = let h = opened.before i in omega (arith, h, le)

still_block : (g : OpenPlan) (p : ℕ) → IsOpen g → p ≤ length g.parents → IsOpen (with_new_block g p)
still_block g p opened le = record {
  inside = omega (arith, length-append g.parents (p ∷ []));
  before = λ i. let h = more_before g.parents p 0 (λ j. let b = opened.before j in omega (arith, b)) (omega (arith, le)) i in omega (arith, h);
}

still_open : (g : OpenPlan) (n : ℕ) (s : Statement) → IsOpen g → IsOpen (with_statement g n s)
still_open g n says.Nothing opened = opened
still_open g n (says.Setup a) opened = record { inside = opened.inside; before = opened.before }
still_open g n says.Process opened = still_block g 0 opened (omega arith)
still_open g n says.Fork opened = still_block (with_line g n (act.Call (call.Fork (length g.parents + 1)))) g.inside (record { inside = opened.inside; before = opened.before }) opened.inside
still_open g n says.End opened = record { inside = outside_le g opened; before = opened.before }
still_open g n (says.Own a) opened = record { inside = opened.inside; before = opened.before }

index_front : (xs ys : List ℕ) (i : ℕ) → i < length xs → slice_index_or (xs ++ ys) i 0 ≡ slice_index_or xs i 0
index_front [] ys i lt = absurd (omega (arith, lt))
index_front (x ∷ xs) ys zero lt = refl
index_front (x ∷ xs) ys (suc i) lt = index_front xs ys i (omega (arith, lt))

outside_front : (xs ys : List ℕ) (p : ℕ) → p ≤ length xs → enclosing_block (xs ++ ys) p ≡ enclosing_block xs p
outside_front xs ys zero le = refl
outside_front xs ys (suc i) le = index_front xs ys i (omega (arith, le))

get_at : (xs ys : List ℕ) (p : ℕ) → slice_get ((xs ++ p ∷ []) ++ ys) (length xs) ≡ Some p
get_at [] ys p = refl
get_at (x ∷ xs) ys p = get_at xs ys p

index_at : (xs ys : List ℕ) (p : ℕ) → slice_index_or ((xs ++ p ∷ []) ++ ys) (length xs) 0 ≡ p
index_at [] ys p = refl
index_at (x ∷ xs) ys p = index_at xs ys p

-- What the lines that are still to come make of a plan.
record Rest (g : OpenPlan) (plan : PlanSeen) (most : ℕ) : Type 0 where
  rest : List PlanLine
  more : List ℕ
  is_lines : g.lines ++ rest ≡ plan.lines
  is_parents : g.parents ++ more ≡ plan.parents
  completes : Completes plan.parents g.inside (length g.parents + 1) rest (length plan.parents + 1)
  acts : All (λ l. IsSoundAct l.act) rest
  few_lines : length rest ≤ most
  few_blocks : length more ≤ most

plain_call : (c : Call) → IsPlainCall c → IsWellFormed c × IsOfNoFile c
plain_call (call.Load a n) h = (h, tt)
plain_call (call.Store a n v) h = ((h.0, h.1, h.3), tt)
plain_call (call.Map at len prot kind object.NewZero offset) h = ((h.0, h.1, h.2, tt, h.3), tt)
plain_call (call.Map at len prot kind (object.File file) offset) h = absurd h
plain_call (call.Map at len prot kind (object.Zero z) offset) h = absurd h
plain_call (call.Unmap a len) h = (h, tt)
plain_call (call.Protect a len prot) h = (h, tt)
plain_call (call.Sync a len) h = (h, tt)
plain_call (call.Read file offset len) h = absurd h
plain_call (call.Write file offset line rest) h = absurd h
plain_call (call.Truncate file len) h = absurd h
plain_call (call.Fork c) h = absurd h
plain_call call.Exit h = absurd h

unknown_file_is : (file : ℕ) → file ≡ unknown_file → IsNumber file
unknown_file_is file e = omega (arith, e)

named_call : (c : Call) → IsNamedCall c → IsWellFormed c × IsOfNamedFile c
named_call (call.Load a n) h = absurd h
named_call (call.Store a n v) h = absurd h
named_call (call.Map at len prot kind object.NewZero offset) h = absurd h
named_call (call.Map at len prot kind (object.File file) offset) h = ((h.0, h.1, h.2, unknown_file_is file h.3, h.4), tt)
named_call (call.Map at len prot kind (object.Zero z) offset) h = absurd h
named_call (call.Unmap a len) h = absurd h
named_call (call.Protect a len prot) h = absurd h
named_call (call.Sync a len) h = absurd h
named_call (call.Read file offset len) h = ((unknown_file_is file h.0, h.1, let le = h.3 in omega (arith, le), h.2), tt)
named_call (call.Write file offset line rest) h = absurd h
named_call (call.Truncate file len) h = ((unknown_file_is file h.0, h.1), tt)
named_call (call.Fork c) h = absurd h
named_call call.Exit h = absurd h

sound_act : (a : PlanAct) → IsPlanAct a → IsSoundAct a
sound_act (act.Call c) h = plain_call c h
sound_act (act.Named name c) h = named_call c h.1
sound_act (act.Write name file offset bytes) h = (unknown_file_is file h.1, h.2, h.3)
sound_act act.Wait h = tt

inner_act : (a : PlanAct) → IsPlanAct a → IsInner a
inner_act (act.Call (call.Load a n)) h = tt
inner_act (act.Call (call.Store a n v)) h = tt
inner_act (act.Call (call.Map at len prot kind object offset)) h = tt
inner_act (act.Call (call.Unmap a len)) h = tt
inner_act (act.Call (call.Protect a len prot)) h = tt
inner_act (act.Call (call.Sync a len)) h = tt
inner_act (act.Call (call.Read file offset len)) h = tt
inner_act (act.Call (call.Write file offset line rest)) h = tt
inner_act (act.Call (call.Truncate file len)) h = tt
inner_act (act.Call (call.Fork c)) h = absurd h
inner_act (act.Call call.Exit) h = absurd h
inner_act (act.Named name c) h = tt
inner_act (act.Write name file offset bytes) h = tt
inner_act act.Wait h = tt

-- a line more of the innermost block
with_own : (parents : List ℕ) (p n m line : ℕ) (a : PlanAct) (rest : List PlanLine) → (p == 0) ≡ false → IsInner a → Completes parents p n rest m
    → Completes parents p n (record { line = line; process = p; act = a } ∷ rest) m
with_own parents zero n m line a rest inside inner c = absurd (false≢true (sym inside))
with_own parents (suc i) n m line a rest inside inner c =
    let k = closed parents i n rest m c in
    open_block parents i n m _
    (record {
      own = record { line = line; process = suc i; act = a } ∷ k.own;
      rest = k.rest;
      k = k.k;
      is = ap (λ xs. record { line = line; process = suc i; act = a } ∷ xs) k.is;
      body = goes_on (suc i) n k.k line a k.own inner k.body;
      after = k.after;
    })

with_end : (parents : List ℕ) (p n m line : ℕ) (rest : List PlanLine) → (p == 0) ≡ false → Completes parents (enclosing_block parents p) n rest m
    → Completes parents p n (record { line = line; process = p; act = act.Call call.Exit } ∷ rest) m
with_end parents zero n m line rest inside c = absurd (false≢true (sym inside))
with_end parents (suc i) n m line rest inside c =
    closes i n n m (record { line = line; process = suc i; act = act.Call call.Exit } ∷ []) rest (ends (suc i) n line) c

with_top : (parents : List ℕ) (i m : ℕ) (rest : List PlanLine) → parent_of parents (suc i) ≡ Some 0 → enclosing_block parents (suc i) ≡ 0
    → Completes parents (suc i) (suc i + 1) rest m → Completes parents 0 (suc i) rest m
with_top parents i m rest top out c =
    let k = closed parents i (suc i + 1) rest m c in
    let after = top_of parents k.k k.rest m (subst (λ p. Completes parents p k.k k.rest m) out k.after) in
    subst (λ xs. Completes parents 0 (suc i) xs m) k.is (tops (suc i) m (k.own ++ k.rest) (block (suc i) k.k m k.own k.rest top k.body after))

with_fork : (parents : List ℕ) (p i m line : ℕ) (rest : List PlanLine) → (p == 0) ≡ false → parent_of parents (suc i) ≡ Some p → enclosing_block parents (suc i) ≡ p
    → Completes parents (suc i) (suc i + 1) rest m → Completes parents p (suc i) (record { line = line; process = p; act = act.Call (call.Fork (suc i)) } ∷ rest) m
with_fork parents zero i m line rest inside is out c = absurd (false≢true (sym inside))
with_fork parents (suc j) i m line rest inside is out c =
    let k = closed parents i (suc i + 1) rest m c in
    let h = closed parents j k.k k.rest m (subst (λ p. Completes parents p k.k k.rest m) out k.after) in
    let l : PlanLine = record { line = line; process = suc j; act = act.Call (call.Fork (suc i)) } in
    open_block parents j (suc i) m (l ∷ rest) (record {
      own = l ∷ (k.own ++ h.own);
      rest = h.rest;
      k = h.k;
      is = ap (λ xs. l ∷ xs) (append_assoc k.own h.own h.rest ∙ (ap (λ xs. k.own ++ xs) h.is ∙ k.is));
      body = forks (suc j) (suc i) k.k h.k line k.own h.own is k.body h.body;
      after = h.after;
    })

not_inside : (b : Bool) → not (not b) ≡ true → b ≡ true
not_inside true e = refl
not_inside false e = absurd (false≢true e)

module _ (g : OpenPlan) (n : ℕ) (plan : PlanSeen) (most : ℕ) (opened : IsOpen g) (few : length g.parents + 1 < 2 ^ 32) where
  line_first : (l : PlanLine) (rest : List PlanLine) → (g.lines ++ l ∷ []) ++ rest ≡ plan.lines → g.lines ++ l ∷ rest ≡ plan.lines
  line_first l rest e = sym (append_assoc g.lines (l ∷ []) rest) ∙ e

  step_own : (a : PlanAct) → (g.inside == 0) ≡ false → IsPlanAct a → Rest (with_line g n a) plan most → Rest g plan (suc most)
  step_own a inside is r = record {
    rest = record { line = n; process = g.inside; act = a } ∷ r.rest;
    more = r.more;
    is_lines = line_first (record { line = n; process = g.inside; act = a }) r.rest r.is_lines;
    is_parents = r.is_parents;
    completes = with_own plan.parents g.inside (length g.parents + 1) (length plan.parents + 1) n a r.rest inside (inner_act a is) r.completes;
    acts = All-cons (λ (l : PlanLine). IsSoundAct l.act) _ _ (sound_act a is) r.acts;
    few_lines = let le = r.few_lines in omega (arith, le);
    few_blocks = let le = r.few_blocks in omega (arith, le);
  }

  step_end : (g.inside == 0) ≡ false → Rest (without_block (with_line g n (act.Call call.Exit))) plan most → Rest g plan (suc most)
  step_end inside r = record {
    rest = record { line = n; process = g.inside; act = act.Call call.Exit } ∷ r.rest;
    more = r.more;
    is_lines = line_first (record { line = n; process = g.inside; act = act.Call call.Exit }) r.rest r.is_lines;
    is_parents = r.is_parents;
    completes = with_end plan.parents g.inside (length g.parents + 1) (length plan.parents + 1) n r.rest inside
        (subst (λ p. Completes plan.parents p (length g.parents + 1) r.rest (length plan.parents + 1))
        (sym (ap (λ ps. enclosing_block ps g.inside) (sym r.is_parents) ∙ outside_front g.parents r.more g.inside opened.inside)) r.completes);
    acts = All-cons (λ (l : PlanLine). IsSoundAct l.act) _ _ (tt, tt) r.acts;
    few_lines = let le = r.few_lines in omega (arith, le);
    few_blocks = let le = r.few_blocks in omega (arith, le);
  }

  -- the block that begins has the next number, and this parent
  begun : (p : ℕ) (more : List ℕ) (rest : List PlanLine) → (g.parents ++ p ∷ []) ++ more ≡ plan.parents
      → Completes plan.parents (length g.parents + 1) (length (g.parents ++ p ∷ []) + 1) rest (length plan.parents + 1)
      → (parent_of plan.parents (suc (length g.parents)) ≡ Some p) × (enclosing_block plan.parents (suc (length g.parents)) ≡ p)
      × Completes plan.parents (suc (length g.parents)) (suc (length g.parents) + 1) rest (length plan.parents + 1)
  begun p more rest is c = (
    ap (λ ps. slice_get ps (length g.parents)) (sym is) ∙ get_at g.parents more p,
    ap (λ ps. slice_index_or ps (length g.parents) 0) (sym is) ∙ index_at g.parents more p,
    subst (λ k. Completes plan.parents (suc (length g.parents)) k rest (length plan.parents + 1)) (omega (arith, length-append g.parents (p ∷ [])))
        (subst (λ k. Completes plan.parents k (length (g.parents ++ p ∷ []) + 1) rest (length plan.parents + 1)) (plus_one (length g.parents)) c),
  )

  step_process : (g.inside == 0) ≡ true → Rest (with_new_block g 0) plan most → Rest g plan (suc most)
  step_process outside_blocks r =
      let b = begun 0 r.more r.rest r.is_parents r.completes in
      let none : g.inside ≡ 0 = eqb-true g.inside 0 outside_blocks in
      record {
        rest = r.rest;
        more = 0 ∷ r.more;
        is_lines = r.is_lines;
        is_parents = sym (append_assoc g.parents (0 ∷ []) r.more) ∙ r.is_parents;
        completes = subst (λ p. Completes plan.parents p (length g.parents + 1) r.rest (length plan.parents + 1)) (sym none)
            (subst (λ k. Completes plan.parents 0 k r.rest (length plan.parents + 1)) (sym (plus_one (length g.parents)))
            (with_top plan.parents (length g.parents) (length plan.parents + 1) r.rest b.0 b.1 b.2));
        acts = r.acts;
        few_lines = let le = r.few_lines in omega (arith, le);
        few_blocks = let le = r.few_blocks in omega (arith, le);
      }

  step_fork : (g.inside == 0) ≡ false → Rest (with_new_block (with_line g n (act.Call (call.Fork (length g.parents + 1)))) g.inside) plan most → Rest g plan (suc most)
  step_fork inside r =
      let b = begun g.inside r.more r.rest r.is_parents r.completes in
      let made = with_fork plan.parents g.inside (length g.parents) (length plan.parents + 1) n r.rest inside b.0 b.1 b.2 in
      record {
        rest = record { line = n; process = g.inside; act = act.Call (call.Fork (length g.parents + 1)) } ∷ r.rest;
        more = g.inside ∷ r.more;
        is_lines = line_first (record { line = n; process = g.inside; act = act.Call (call.Fork (length g.parents + 1)) }) r.rest r.is_lines;
        is_parents = sym (append_assoc g.parents (g.inside ∷ []) r.more) ∙ r.is_parents;
        completes =
            subst
            (λ k. Completes plan.parents g.inside k (record { line = n; process = g.inside; act = act.Call (call.Fork k) } ∷ r.rest)
            (length plan.parents + 1))
            (sym (plus_one (length g.parents))) made;
        acts = All-cons (λ (l : PlanLine). IsSoundAct l.act) _ _ (few, tt) r.acts;
        few_lines = let le = r.few_lines in omega (arith, le);
        few_blocks = let le = r.few_blocks in omega (arith, le);
      }

  step : (s : Statement) → IsPlaced (spot_of g) s → Rest (with_statement g n s) plan most → Rest g plan (suc most)
  step says.Nothing is r =
      record {
        rest = r.rest;
        more = r.more;
        is_lines = r.is_lines;
        is_parents = r.is_parents;
        completes = r.completes;
        acts = r.acts;
        few_lines = let le = r.few_lines in omega (arith, le);
        few_blocks = let le = r.few_blocks in omega (arith, le);
      }
  step (says.Setup a) is r =
      record {
        rest = r.rest;
        more = r.more;
        is_lines = r.is_lines;
        is_parents = r.is_parents;
        completes = r.completes;
        acts = r.acts;
        few_lines = let le = r.few_lines in omega (arith, le);
        few_blocks = let le = r.few_blocks in omega (arith, le);
      }
  step says.Process is r = step_process (not_inside (g.inside == 0) is.0) r
  step says.Fork is r = step_fork (not_zero (g.inside == 0) is.0) r
  step says.End is r = step_end (not_zero (g.inside == 0) is.0) r
  step (says.Own a) is r = step_own a (not_zero (g.inside == 0) is.0) is.1 r

pub few_more : (g : OpenPlan) (n : ℕ) (s : Statement) → length (with_statement g n s).parents ≤ length g.parents + 1
few_more g n says.Nothing = omega arith
few_more g n (says.Setup a) = omega arith
few_more g n says.Process = omega (arith, length-append g.parents (0 ∷ []))
few_more g n says.Fork = omega (arith, length-append g.parents (g.inside ∷ []))
few_more g n says.End = omega arith
few_more g n (says.Own a) = omega arith

abbrev pub whole_plan : Bool → OpenPlan → ℕ → Result PlanSeen ScriptFault
whole_plan b g n = if b then Ok (plan_seen g) else Err (record { line = n + 1; kind = fault.Place })

abbrev pub next_plan : Result Statement ScriptKind → OpenPlan → ℕ → List (List ℕ) → Result PlanSeen ScriptFault
next_plan r g n ls = elim r [ Ok s ↦ plan_from (n + 1) (with_statement g (n + 1) s) ls | Err kind ↦ Err (record { line = n + 1; kind = kind }) ]

abbrev pub short_plan : Bool → List ℕ → Result PlanSeen ScriptFault
short_plan b text = if b then Err (record { line = 0; kind = fault.Long }) else plan_from 0 empty_plan (lines text)

nests_from : (ls : List (List ℕ)) (n : ℕ) (g : OpenPlan) (plan : PlanSeen) → IsOpen g → length g.parents + length ls ≤ 1048576 → plan_from n g ls ≡ Ok plan → Rest g plan (length ls)
nests_from [] n g plan opened few e = at (g.inside == 0) refl e
  where
    at : (b : Bool) → (g.inside == 0) ≡ b → whole_plan b g n ≡ Ok plan → Rest g plan 0
    at true is e =
        let same : plan_seen g ≡ plan = cc e in
        subst (λ pl. Rest g pl 0) same (record {
          rest = [];
          more = [];
          is_lines = append-nil g.lines;
          is_parents = append-nil g.parents;
          completes = subst (λ p. Completes g.parents p (length g.parents + 1) [] (length g.parents + 1)) (sym (eqb-true g.inside 0 is)) (tops _ _ [] (over (length g.parents + 1)));
          acts = All-nil (λ (l : PlanLine). IsSoundAct l.act);
          few_lines = omega arith;
          few_blocks = omega arith;
        })
    at false is e = absurd (cc e)
nests_from (l ∷ ls) n g plan opened few e =
    at (λ s le. nests_from ls (n + 1) (with_statement g (n + 1) s) plan (still_open g (n + 1) s opened) le) (statement (spot_of g) (list_all is_plain l) (fields l)) refl e
  where
    at : ((s : Statement) → length (with_statement g (n + 1) s).parents + length ls ≤ 1048576
        → plan_from (n + 1) (with_statement g (n + 1) s) ls ≡ Ok plan → Rest (with_statement g (n + 1) s) plan (length ls))
        → (r : Result Statement ScriptKind) → statement (spot_of g) (list_all is_plain l) (fields l) ≡ r
        → next_plan r g n ls ≡ Ok plan → Rest g plan (suc (length ls))
    at again (Ok s) is e =
        step g (n + 1) plan (length ls) opened (omega (arith, few)) s (placed (spot_of g) (list_all is_plain l) (fields l) s is)
        (again s (omega (arith, few, few_more g (n + 1) s)) e)
    at again (Err k) is e = absurd (cc e)

pub few_of_text : (text : List ℕ) → length (lines text) ≤ length text
few_of_text [] = omega arith
few_of_text (b ∷ text) = let ih = few_of_text text in grind (rules, tests, arith, ih)

pub sound : (text : List ℕ) (plan : PlanSeen) → plan_of text ≡ Ok plan → IsSoundPlan plan
sound text plan e = at (nat_lt 1048576 (length text)) refl e
  where
    at : (b : Bool) → nat_lt 1048576 (length text) ≡ b → short_plan b text ≡ Ok plan → IsSoundPlan plan
    at true is e = absurd (cc e)
    at false is e =
        let short : length text ≤ 1048576 = grind (arith, nat_tests, is) in
        let le = few_of_text text in
        let r = nests_from (lines text) 0 empty_plan plan (record { inside = omega arith; before = λ i. omega arith }) (omega (arith, short, le)) e in
        record {
          nests = subst (λ ls. AreProcessBlocks plan.parents 1 ls (length plan.parents + 1)) r.is_lines (top_of plan.parents 1 r.rest (length plan.parents + 1) r.completes);
          acts = subst (All (λ (l : PlanLine). IsSoundAct l.act)) r.is_lines r.acts;
          few_lines = let n = r.few_lines in omega (arith, n, le, short, ap length r.is_lines);
          few_blocks = let n = r.few_blocks in omega (arith, n, le, short, ap length r.is_parents);
        }
