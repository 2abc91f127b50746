-- The lines of a block, one by one.
use Rattle.std.proofs.Common.{◌≡◌, ℕ, suc, ◌+◌, ◌-◌, ◌&&◌, ◌==◌, ◌≤◌, ◌<◌, Bool, true, false, List, [], ◌∷◌, ◌++◌, length, Some, refl, sym, ap, ◌∙◌, subst, cond, arith, ⊎_elim, append_assoc, length-append, eq-eqb}
use Rattle.std.specs.Prelude.{All}
use Rattle.std.proofs.lemmas.Bool.{cases_lt, cases_eq, ne_eqb}
use Rattle.std.proofs.lemmas.List.Elements.{All-head, All-tail, filter-append}
use Rattle.vm_script.specs.vm_types.declared.call.Call.TheVariants as call
use Rattle.vm_script.specs.declared.plan.PlanAct.{PlanAct}
use Rattle.vm_script.specs.declared.plan.PlanAct.TheVariants as act
use Rattle.vm_script.specs.declared.plan.PlanLine.{PlanLine}
use Rattle.vm_script.specs.Told.{parent_of}
use Rattle.vm_script.specs.Blocks.{IsInner, IsProcessBlock, ends, goes_on, forks, AreProcessBlocks, over, block, IsWithin}
use Rattle.vm_script.proofs.Ranges.{outside_own as far_own, within}
pub use Rattle.vm_script.proofs.Ranges.{not_own}
use Rattle.block_runs.specs.Lines.{own_of, first_process, from_own, behind_end, is_end, one_if, ends_in, NextIs}
use Rattle.block_runs.proofs.Lists.{same_front, same_parts}

inner_next : (parents : List ℕ) (p n m : ℕ) (rest : List PlanLine) (a : PlanAct) → IsInner a → IsProcessBlock parents p n rest m → NextIs parents p n m rest a
inner_next parents p n m rest (act.Call (call.Fork child)) inner more = absurd inner
inner_next parents p n m rest (act.Call call.Exit) inner more = absurd inner
inner_next parents p n m rest (act.Call (call.Load a size)) inner more = more
inner_next parents p n m rest (act.Call (call.Store a size v)) inner more = more
inner_next parents p n m rest (act.Call (call.Map at len prot kind object offset)) inner more = more
inner_next parents p n m rest (act.Call (call.Unmap a len)) inner more = more
inner_next parents p n m rest (act.Call (call.Protect a len prot)) inner more = more
inner_next parents p n m rest (act.Call (call.Sync a len)) inner more = more
inner_next parents p n m rest (act.Call (call.Read file offset len)) inner more = more
inner_next parents p n m rest (act.Call (call.Write file offset bytes left)) inner more = more
inner_next parents p n m rest (act.Call (call.Truncate file len)) inner more = more
inner_next parents p n m rest (act.Named name made) inner more = more
inner_next parents p n m rest (act.Write name file offset bytes) inner more = more
inner_next parents p n m rest act.Wait inner more = more

pub record Next (parents : List ℕ) (p n m : ℕ) (l : PlanLine) (rest : List PlanLine) : Type 0 where
  pub own : l.process ≡ p
  pub next : NextIs parents p n m rest l.act

pub none_left : (l : PlanLine) (rest : List PlanLine) → [] ≡ l ∷ rest → ⊥
none_left l rest is = cc is

-- what stands behind a block's line
pub next_line : (parents : List ℕ) (p n m : ℕ) (lines rest : List PlanLine) (l : PlanLine) → IsProcessBlock parents p n lines m → lines ≡ l ∷ rest → Next parents p n m l rest
next_line parents p n m lines rest l (ends _ _ line) is =
    let first : record { line = line; process = p; act = act.Call call.Exit } ≡ l = cc is in
    let behind : [] ≡ rest = cc is in
    subst (λ k. Next parents p n n k rest) first (record { own = refl; next = (sym behind, refl) })
next_line parents p n m lines rest l (goes_on _ _ _ line a more inner body) is =
    let first : record { line = line; process = p; act = a } ≡ l = cc is in
    let behind : more ≡ rest = cc is in
    subst (λ k. Next parents p n m k rest) first (record { own = refl; next = inner_next parents p n m rest a inner (subst (λ ls. IsProcessBlock parents p n ls m) behind body) })
next_line parents p n m lines rest l (forks _ _ k _ line child others parent inside body) is =
    let first : record { line = line; process = p; act = act.Call (call.Fork n) } ≡ l = cc is in
    let behind : child ++ others ≡ rest = cc is in
    subst (λ k. Next parents p n m k rest) first (record { own = refl; next = record { number = refl; next = k; child = child; others = others; is = sym behind; parent = parent; inside = inside; behind = body } })

-- the first line of a block is its own
pub first_is : (parents : List ℕ) (p n m : ℕ) (lines : List PlanLine) → IsProcessBlock parents p n lines m → first_process lines ≡ p
first_is parents p n m lines (ends _ _ line) = refl
first_is parents p n m lines (goes_on _ _ _ line a more inner body) = refl
first_is parents p n m lines (forks _ _ k _ line child others parent inside body) = refl

-- a block has a line of its own first
pub first_own : (parents : List ℕ) (p n m : ℕ) (lines : List PlanLine) → IsProcessBlock parents p n lines m → from_own p lines ≡ lines
first_own parents p n m lines (ends _ _ line) = let l : PlanLine = record { line = line; process = p; act = act.Call call.Exit } in ap (λ b. cond b (l ∷ []) (from_own p [])) (eq-eqb p p refl)
first_own parents p n m lines (goes_on _ _ _ line a more inner body) = let l : PlanLine = record { line = line; process = p; act = a } in ap (λ b. cond b (l ∷ more) (from_own p more)) (eq-eqb p p refl)
first_own parents p n m lines (forks _ _ k _ line child others parent inside body) = let l : PlanLine = record { line = line; process = p; act = act.Call (call.Fork n) } in ap (λ b. cond b (l ∷ (child ++ others)) (from_own p (child ++ others))) (eq-eqb p p refl)

-- lines that aren't p's are passed over
from_behind : (p : ℕ) (P : PlanLine → Type 0) (xs ys : List PlanLine) → All P xs → ((l : PlanLine) → P l → l.process ≡ p → ⊥) → from_own p (xs ++ ys) ≡ from_own p ys
from_behind p P [] ys all else = refl
from_behind p P (x ∷ xs) ys all else =
    ap (λ b. cond b (x ∷ (xs ++ ys)) (from_own p (xs ++ ys))) (ne_eqb x.process p (else x (All-head P x xs all))) ∙ from_behind p P xs ys (All-tail P x xs all) else

pub is_own : (p : ℕ) (l : PlanLine) (lines : List PlanLine) → l.process ≡ p → own_of p (l ∷ lines) ≡ l ∷ own_of p lines
is_own p l lines is = ap (λ b. cond b (l ∷ own_of p lines) (own_of p lines)) (eq-eqb l.process p is)

-- none of a block's lines is of a process outside
pub outside_own : (parents : List ℕ) (q n m p : ℕ) (lines : List PlanLine) → IsProcessBlock parents q n lines m → (q ≡ p → ⊥) → (n ≤ p → p < m → ⊥) → own_of p lines ≡ []
outside_own parents q n m p lines body else far = far_own q n m p lines (within parents q n m lines body).all else far

-- the parted lines are the child's and those behind them
pub record Parted (child others xs ys : List PlanLine) : Type 0 where
  pub front : xs ≡ child
  pub back : ys ≡ others

pub parted_at : (parents : List ℕ) (p n k m : ℕ) (child others front back : List PlanLine) → p < n → IsProcessBlock parents n (n + 1) child k → IsProcessBlock parents p k others m
    → front ++ back ≡ child ++ others → back ≡ from_own p (child ++ others) → Parted child others front back
parted_at parents p n k m child others front back below inside behind whole from =
    let same : back ≡ others = from
    ∙ (from_behind p (IsWithin n (n + 1) k) child others (within parents n (n + 1) k child inside).all
    (λ l h is. ⊎_elim (λ own. omega (arith, own, is, below)) (λ r. let a = r.0 in omega (arith, a, is, below)) h)
    ∙ first_own parents p k m others behind) in
    record { front = same_front front child others (ap (λ z. front ++ z) (sym same) ∙ whole); back = same }

pub inner_end : (a : PlanAct) → IsInner a → is_end a ≡ false
inner_end (act.Call (call.Fork child)) inner = absurd inner
inner_end (act.Call call.Exit) inner = absurd inner
inner_end (act.Call (call.Load a size)) inner = refl
inner_end (act.Call (call.Store a size v)) inner = refl
inner_end (act.Call (call.Map at len prot kind object offset)) inner = refl
inner_end (act.Call (call.Unmap a len)) inner = refl
inner_end (act.Call (call.Protect a len prot)) inner = refl
inner_end (act.Call (call.Sync a len)) inner = refl
inner_end (act.Call (call.Read file offset len)) inner = refl
inner_end (act.Call (call.Write file offset bytes left)) inner = refl
inner_end (act.Call (call.Truncate file len)) inner = refl
inner_end (act.Named name made) inner = refl
inner_end (act.Write name file offset bytes) inner = refl
inner_end act.Wait inner = refl

ends_append : (xs ys : List PlanLine) → ends_in (xs ++ ys) ≡ ends_in xs + ends_in ys
ends_append [] ys = omega arith
ends_append (x ∷ xs) ys = let ih = ends_append xs ys in omega (arith, ih)

-- each block has one end
pub block_ends : (parents : List ℕ) (p n m : ℕ) (lines : List PlanLine) → IsProcessBlock parents p n lines m → n + ends_in lines ≡ m + 1
block_ends parents p n m lines (ends _ _ line) = omega arith
block_ends parents p n m lines (goes_on _ _ _ line a more inner body) =
    let ih = block_ends parents p n m more body in
    let none : one_if (is_end a) ≡ 0 = ap one_if (inner_end a inner) in omega (arith, ih, none)
block_ends parents p n m lines (forks _ _ k _ line child others parent inside body) =
    let one = block_ends parents n (n + 1) k child inside in
    let two = block_ends parents p k m others body in
    let sum = ends_append child others in omega (arith, one, two, sum)

-- one line more is passed over
pub parted_more : (p : ℕ) (lines left rest : List PlanLine) (l : PlanLine) → left ≡ l ∷ rest → (l.process ≡ p → ⊥) → length left ≤ length lines → from_own p left ≡ from_own p lines → (front : List PlanLine) → front ++ left ≡ lines
    → (length rest ≤ length lines) × (from_own p rest ≡ from_own p lines) × ((front ++ l ∷ []) ++ rest ≡ lines)
parted_more p lines left rest l is else short from front cut = (
  let e : length left ≡ length (l ∷ rest) = ap length is in omega (arith, e, short),
  sym (ap (from_own p) is ∙ ap (λ b. cond b (l ∷ rest) (from_own p rest)) (ne_eqb l.process p else)) ∙ from,
  append_assoc front (l ∷ []) rest ∙ (ap (λ ls. front ++ ls) (sym is) ∙ cut),
)

both_false : (b : Bool) → (b && false) ≡ false
both_false true = refl
both_false false = refl

skip : (p : ℕ) (l : PlanLine) (rest : List PlanLine) → ((l.process == p) && is_end l.act) ≡ false → behind_end p (l ∷ rest) ≡ behind_end p rest
skip p l rest not = ap (λ b. cond b rest (behind_end p rest)) not

skip_others : (p : ℕ) (P : PlanLine → Type 0) (xs ys : List PlanLine) → All P xs → ((l : PlanLine) → P l → l.process ≡ p → ⊥) → behind_end p (xs ++ ys) ≡ behind_end p ys
skip_others p P [] ys all else = refl
skip_others p P (x ∷ xs) ys all else =
    skip p x (xs ++ ys) (ap (λ b. b && is_end x.act) (ne_eqb x.process p (else x (All-head P x xs all)))) ∙ skip_others p P xs ys (All-tail P x xs all) else

-- behind a block stand the lines behind its end
pub behind_block : (parents : List ℕ) (p n m : ℕ) (lines rest : List PlanLine) → p < n → IsProcessBlock parents p n lines m → behind_end p (lines ++ rest) ≡ rest
behind_block parents p n m lines rest below (ends _ _ line) = ap (λ b. cond (b && true) rest (behind_end p rest)) (eq-eqb p p refl)
behind_block parents p n m lines rest below (goes_on _ _ _ line a more inner body) =
    skip p (record { line = line; process = p; act = a }) (more ++ rest) (ap (λ b. (p == p) && b) (inner_end a inner) ∙ both_false (p == p)) ∙ behind_block parents p n m more rest below body
behind_block parents p n m lines rest below (forks _ _ k _ line child others parent inside body) =
    let c = within parents n (n + 1) k child inside in
    let up = c.up in
    skip p (record { line = line; process = p; act = act.Call (call.Fork n) }) ((child ++ others) ++ rest) (both_false (p == p))
    ∙ (ap (behind_end p) (append_assoc child others rest)
    ∙ (skip_others p (IsWithin n (n + 1) k) child (others ++ rest) c.all (λ l h is. ⊎_elim (λ own. omega (arith, own, is, below)) (λ r. let a = r.0 in omega (arith, a, is, below)) h)
    ∙ behind_block parents p k m others rest (omega (arith, below, up)) body))

-- The first of some top blocks.
pub record FirstTop (parents : List ℕ) (n m : ℕ) (lines : List PlanLine) : Type 0 where
  pub own : List PlanLine
  pub rest : List PlanLine
  pub next : ℕ
  pub is : lines ≡ own ++ rest
  pub parent : parent_of parents n ≡ Some 0
  pub whole : IsProcessBlock parents n (n + 1) own next
  pub more : AreProcessBlocks parents next rest m

pub first_top : (parents : List ℕ) (n m : ℕ) (lines : List PlanLine) → AreProcessBlocks parents n lines m → (lines ≡ [] → ⊥) → FirstTop parents n m lines
first_top parents n m lines (over _) some = absurd (some refl)
first_top parents n m lines (block _ k _ own rest parent whole more) some = record { own = own; rest = rest; next = k; is = refl; parent = parent; whole = whole; more = more }

pub no_tops : (parents : List ℕ) (n m : ℕ) (lines : List PlanLine) → AreProcessBlocks parents n lines m → lines ≡ [] → n ≡ m
no_tops parents n m lines (over _) none = refl
no_tops parents n m lines (block _ k _ own rest parent whole more) none = absurd (filled n (n + 1) k own whole none)
  where
    filled : (p i j : ℕ) (own : List PlanLine) → IsProcessBlock parents p i own j → own ++ rest ≡ [] → ⊥
    filled p i j own (ends _ _ line) e = cc e
    filled p i j own (goes_on _ _ _ line a lines inner body) e = cc e
    filled p i j own (forks _ _ q _ line child others parent inside body) e = cc e

pub tops_up : (parents : List ℕ) (n m : ℕ) (lines : List PlanLine) → AreProcessBlocks parents n lines m → n ≤ m
tops_up parents n m lines (over _) = omega arith
tops_up parents n m lines (block _ k _ own rest parent whole more) =
    let up = (within parents n (n + 1) k own whole).up in
    let on = tops_up parents k m rest more in omega (arith, up, on)

-- none of top blocks' lines is of a block with a lower number
pub tops_own : (parents : List ℕ) (n m q : ℕ) (lines : List PlanLine) → AreProcessBlocks parents n lines m → q < n → own_of q lines ≡ []
tops_own parents n m q lines (over _) below = refl
tops_own parents n m q lines (block _ k _ own rest parent whole more) below =
    let up = (within parents n (n + 1) k own whole).up in
    filter-append (λ (l : PlanLine). l.process == q) own rest
    ∙ (ap (λ ls. ls ++ own_of q rest) (outside_own parents n (n + 1) k q own whole (λ e. omega (arith, e, below)) (λ a b. omega (arith, a, below)))
    ∙ tops_own parents k m q rest more (omega (arith, below, up)))

-- the parent of a block that begins in another
pub inner_parent : (parents : List ℕ) (p n m c : ℕ) (lines : List PlanLine) → 1 ≤ p → p < n → n ≤ c → c < m → IsProcessBlock parents p n lines m → (r : ℕ) × (parent_of parents c ≡ Some (suc r))
inner_parent parents p n m c lines some lt from to (ends _ _ line) = absurd (omega (arith, from, to))
inner_parent parents p n m c lines some lt from to (goes_on _ _ _ line a more inner body) = inner_parent parents p n m c more some lt from to body
inner_parent parents p n m c lines some lt from to (forks _ _ k _ line child others is inside body) =
    let up = (within parents n (n + 1) k child inside).up in
    ⊎_elim
    (λ same. (p - 1, ap (parent_of parents) (sym same) ∙ (is ∙ ap Some (let e : p ≡ suc (p - 1) = omega (arith, some) in e))))
    (λ else. ⊎_elim
    (λ low. inner_parent parents n (n + 1) k c child (omega (arith, some, lt)) (omega arith) (above n c from else) low inside)
    (λ high. inner_parent parents p k m c others some (omega (arith, lt, up)) high to body)
    (cases_lt c k))
    (cases_eq n c)
  where
    above : (n p : ℕ) → n ≤ p → (n ≡ p → ⊥) → n + 1 ≤ p
    above n p le else = ⊎_elim (λ lt. omega (arith, lt)) (λ ge. absurd (else (omega (arith, le, ge)))) (cases_lt n p)

pub block_some : (parents : List ℕ) (p n m : ℕ) (lines : List PlanLine) → IsProcessBlock parents p n lines m → 1 ≤ length lines
block_some parents p n m lines (ends _ _ line) = omega arith
block_some parents p n m lines (goes_on _ _ _ line a more inner body) = omega arith
block_some parents p n m lines (forks _ _ k _ line child others parent inside body) = omega arith

-- one line more is passed over, which isn't the end
pub ended_more : (p : ℕ) (lines left rest : List PlanLine) (l : PlanLine) → left ≡ l ∷ rest → ((l.process == p) && is_end l.act) ≡ false → length left ≤ length lines → behind_end p left ≡ behind_end p lines → (front : List PlanLine) → front ++ left ≡ lines
    → (length rest ≤ length lines) × (behind_end p rest ≡ behind_end p lines) × ((front ++ l ∷ []) ++ rest ≡ lines)
ended_more p lines left rest l is not short from front cut = (
  let e : length left ≡ length (l ∷ rest) = ap length is in omega (arith, e, short),
  sym (ap (behind_end p) is ∙ skip p l rest not) ∙ from,
  append_assoc front (l ∷ []) rest ∙ (ap (λ ls. front ++ ls) (sym is) ∙ cut),
)

-- the end was found
pub ended_here : (p : ℕ) (lines left rest xs ys : List PlanLine) (l : PlanLine) → left ≡ l ∷ rest → ((l.process == p) && is_end l.act) ≡ true → behind_end p left ≡ behind_end p lines → (front : List PlanLine) → front ++ left ≡ lines
    → lines ≡ xs ++ ys → length xs + length rest ≡ length lines → ys ≡ behind_end p lines
ended_here p lines left rest xs ys l is yes' from front cut whole long =
    let e : (front ++ l ∷ []) ++ rest ≡ lines = append_assoc front (l ∷ []) rest ∙ (ap (λ ls. front ++ ls) (sym is) ∙ cut) in
    let size : length lines ≡ length (front ++ l ∷ []) + length rest = sym (ap length e) ∙ length-append (front ++ l ∷ []) rest in
    let parts = same_parts xs (front ++ l ∷ []) ys rest (omega (arith, long, size)) (sym whole ∙ sym e) in
    parts.1 ∙ (sym (ap (behind_end p) is ∙ ap (λ b. cond b rest (behind_end p rest)) yes') ∙ from)

-- no end was found
pub ended_none : (p : ℕ) (lines left xs ys : List PlanLine) → length left ≡ 0 → behind_end p left ≡ behind_end p lines → lines ≡ xs ++ ys → length xs ≡ length lines → ys ≡ behind_end p lines
ended_none p lines [] xs ys none from whole long = no_more ys (omega (arith, ap length whole, length-append xs ys, long)) ∙ from
  where
    no_more : (zs : List PlanLine) → length zs ≡ 0 → zs ≡ []
    no_more [] e = refl
    no_more (z ∷ zs) e = absurd (omega (arith, e))
ended_none p lines (l ∷ left) xs ys none from whole long = absurd (omega (arith, none))
