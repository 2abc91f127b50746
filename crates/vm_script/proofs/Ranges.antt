-- The lines of a block stand together.
use Rattle.std.proofs.Common.{◌≡◌, ℕ, zero, suc, ◌≤◌, ◌<◌, ◌+◌, ◌==◌, List, [], ◌∷◌, ◌++◌, length, Some, refl, sym, ap, ◌∙◌, subst, append_assoc, append-nil, arith, cond, ⊎_elim, inl, inr}
use Rattle.std.specs.Prelude.{All, filter}
use Rattle.std.proofs.lemmas.Bool.{cases_Bool, cases_lt, cases_eq, eqb-true}
use Rattle.std.proofs.lemmas.List.Elements.{All-nil, All-cons, All-append, All-head, All-tail, All-weaker, filter-append}
use Rattle.std.proofs.lemmas.Option.{slice_get_within}
use Rattle.flat_model.specs.vm_types.declared.call.Call.TheVariants as call
use Rattle.std.proofs.lemmas.Option.{same_Some}
use Rattle.vm_script.specs.declared.plan.PlanAct.{PlanAct}
use Rattle.vm_script.specs.declared.plan.PlanAct.TheVariants as act
use Rattle.vm_script.specs.declared.plan.PlanLine.{PlanLine}
use Rattle.vm_script.specs.PlanSeen.{PlanSeen}
use Rattle.vm_script.specs.Blocks.{IsInner, IsProcessBlock, ends, goes_on, forks, AreProcessBlocks, over, block, Nests, IsWithin, IsForkOfParent, StandsTogether}
use Rattle.vm_script.specs.Told.{parent_of}

-- the lines of a process
abbrev pub own_of : ℕ → List PlanLine → List PlanLine
own_of p lines = filter (λ l. l.process == p) lines

-- all lines of a block are its own or of blocks that begin in it
pub record IsWhole (p n m : ℕ) (lines : List PlanLine) : Type 0 where
  pub up : n ≤ m
  pub all : All (IsWithin p n m) lines

deeper : (p n k m : ℕ) (l : PlanLine) → n < k → k ≤ m → IsWithin n (n + 1) k l → IsWithin p n m l
deeper p n k m l lt le h = ⊎_elim (λ own. inr (omega (arith, own), omega (arith, own, lt, le))) (λ r. let a = r.0 in let b = r.1 in inr (omega (arith, a), omega (arith, b, le))) h

later : (p n k m : ℕ) (l : PlanLine) → n ≤ k → IsWithin p k m l → IsWithin p n m l
later p n k m l le h = ⊎_elim (λ own. inl own) (λ r. let a = r.0 in inr (omega (arith, a, le), r.1)) h

pub within : (parents : List ℕ) (p n m : ℕ) (lines : List PlanLine) → IsProcessBlock parents p n lines m → IsWhole p n m lines
within parents p n m lines (ends _ _ line) = record { up = omega arith; all = All-cons (IsWithin p n n) _ [] (inl refl) (All-nil (IsWithin p n n)) }
within parents p n m lines (goes_on _ _ _ line a rest inner more) =
    let h = within parents p n m rest more in
    record { up = h.up; all = All-cons (IsWithin p n m) _ rest (inl refl) h.all }
within parents p n m lines (forks _ _ k _ line child rest is inside more) =
    let c = within parents n (n + 1) k child inside in
    let h = within parents p k m rest more in
    let up = c.up in
    let on = h.up in
    record {
      up = omega (arith, up, on);
      all = All-cons (IsWithin p n m) _ (child ++ rest) (inl refl)
          (All-append (IsWithin p n m) child rest
          (All-weaker (IsWithin n (n + 1) k) (IsWithin p n m) (λ l. deeper p n k m l (omega (arith, up)) on) child c.all)
          (All-weaker (IsWithin p k m) (IsWithin p n m) (λ l. later p n k m l (omega (arith, up))) rest h.all));
    }

-- where no line is p's
pub none_own : (p : ℕ) (P : PlanLine → Type 0) (lines : List PlanLine) → All P lines → ((l : PlanLine) → P l → l.process ≡ p → ⊥) → own_of p lines ≡ []
none_own p P [] all else = refl
none_own p P (l ∷ lines) all else =
    let rest = none_own p P lines (All-tail P l lines all) else in
    ⊎_elim (λ yes. absurd (else l (All-head P l lines all) (eqb-true l.process p yes)))
    (λ not. ap (λ b. cond b (l ∷ own_of p lines) (own_of p lines)) not ∙ rest)
    (cases_Bool (l.process == p))

pub not_own : (p : ℕ) (l : PlanLine) (lines : List PlanLine) → (l.process ≡ p → ⊥) → own_of p (l ∷ lines) ≡ own_of p lines
not_own p l lines else =
    ⊎_elim (λ yes. absurd (else (eqb-true l.process p yes)))
    (λ not. ap (λ b. cond b (l ∷ own_of p lines) (own_of p lines)) not)
    (cases_Bool (l.process == p))

-- the block p among these lines
record Found (parents : List ℕ) (p : ℕ) (lines : List PlanLine) : Type 0 where
  before : List PlanLine
  block : List PlanLine
  behind : List PlanLine
  next : ℕ
  is : before ++ (block ++ behind) ≡ lines
  whole : IsProcessBlock parents p (p + 1) block next
  own : own_of p lines ≡ own_of p block

all_of : (parents : List ℕ) (p k : ℕ) (lines : List PlanLine) → IsProcessBlock parents p (p + 1) lines k → Found parents p lines
all_of parents p k lines whole = record { before = []; block = lines; behind = []; next = k; is = append-nil lines; whole = whole; own = refl }

behind_line : (parents : List ℕ) (p : ℕ) (l : PlanLine) (lines : List PlanLine) → (l.process ≡ p → ⊥) → Found parents p lines → Found parents p (l ∷ lines)
behind_line parents p l lines else f = record {
  before = l ∷ f.before;
  block = f.block;
  behind = f.behind;
  next = f.next;
  is = ap (λ xs. l ∷ xs) f.is;
  whole = f.whole;
  own = not_own p l lines else ∙ f.own;
}

in_front : (parents : List ℕ) (p : ℕ) (xs ys : List PlanLine) → own_of p ys ≡ [] → Found parents p xs → Found parents p (xs ++ ys)
in_front parents p xs ys none f = record {
  before = f.before;
  block = f.block;
  behind = f.behind ++ ys;
  next = f.next;
  is = ap (λ zs. f.before ++ zs) (sym (append_assoc f.block f.behind ys)) ∙ (sym (append_assoc f.before (f.block ++ f.behind) ys) ∙ ap (λ zs. zs ++ ys) f.is);
  whole = f.whole;
  own = filter-append (λ (l : PlanLine). l.process == p) xs ys ∙ (ap (λ zs. own_of p xs ++ zs) none ∙ (append-nil (own_of p xs) ∙ f.own));
}

behind_all : (parents : List ℕ) (p : ℕ) (xs ys : List PlanLine) → own_of p xs ≡ [] → Found parents p ys → Found parents p (xs ++ ys)
behind_all parents p xs ys none f = record {
  before = xs ++ f.before;
  block = f.block;
  behind = f.behind;
  next = f.next;
  is = append_assoc xs f.before (f.block ++ f.behind) ∙ ap (λ zs. xs ++ zs) f.is;
  whole = f.whole;
  own = filter-append (λ (l : PlanLine). l.process == p) xs ys ∙ (ap (λ zs. zs ++ own_of p ys) none ∙ f.own);
}

-- none of these lines is p's, by the numbers
pub outside_own : (q n m p : ℕ) (lines : List PlanLine) → All (IsWithin q n m) lines → (q ≡ p → ⊥) → (n ≤ p → p < m → ⊥) → own_of p lines ≡ []
outside_own q n m p lines all else far = none_own p (IsWithin q n m) lines all
    (λ l h is. ⊎_elim (λ own. else (sym own ∙ is)) (λ r. let a = r.0 in let b = r.1 in far (omega (arith, a, is)) (omega (arith, b, is))) h)

-- behind the block n and its descendants, numbered below k, stand the rest of the lines
split_found : (parents : List ℕ) (n k m p : ℕ) (child rest : List PlanLine) → n ≤ p → p < m → IsProcessBlock parents n (n + 1) child k
    → (n < p → p < k → Found parents p child) → (k ≤ p → Found parents p rest) → (p < k → own_of p rest ≡ []) → Found parents p (child ++ rest)
split_found parents n k m p child rest from to whole inner outer none =
    let c = within parents n (n + 1) k child whole in
    let up = c.up in
    ⊎_elim
    (λ same. in_front parents p child rest (none (omega (arith, same, up))) (subst (λ q. Found parents q child) same (all_of parents n k child whole)))
    (λ else. ⊎_elim
    (λ low. in_front parents p child rest (none low) (inner (above n p from else) low))
    (λ high. behind_all parents p child rest (outside_own n (n + 1) k p child c.all else (λ a b. omega (arith, b, high))) (outer high))
    (cases_lt p k))
    (cases_eq n p)
  where
    above : (n p : ℕ) → n ≤ p → (n ≡ p → ⊥) → n < p
    above n p le else = ⊎_elim (λ lt. lt) (λ ge. absurd (else (omega (arith, le, ge)))) (cases_lt n p)

find_inside : (parents : List ℕ) (q n m p : ℕ) (lines : List PlanLine) → q < n → n ≤ p → p < m → IsProcessBlock parents q n lines m → Found parents p lines
find_inside parents q n m p lines lt from to (ends _ _ line) = absurd (omega (arith, from, to))
find_inside parents q n m p lines lt from to (goes_on _ _ _ line a rest inner more) =
    behind_line parents p _ rest (λ is. omega (arith, is, lt, from)) (find_inside parents q n m p rest lt from to more)
find_inside parents q n m p lines lt from to (forks _ _ k _ line child rest is inside more) =
    let c = within parents n (n + 1) k child inside in
    let h = within parents q k m rest more in
    let up = c.up in
    behind_line parents p _ (child ++ rest) (λ is. omega (arith, is, lt, from))
    (split_found parents n k m p child rest from to inside
    (λ low high. find_inside parents n (n + 1) k p child (omega arith) (omega (arith, low)) high inside)
    (λ high. find_inside parents q k m p rest (omega (arith, lt, up)) high to more)
    (λ low. outside_own q k m p rest h.all (λ same. omega (arith, same, lt, from)) (λ a b. omega (arith, a, low))))

-- the same of top blocks: none of their lines is of another block
record AreWhole (n m : ℕ) (lines : List PlanLine) : Type 0 where
  up : n ≤ m
  all : All (λ l. (n ≤ l.process) × (l.process < m)) lines

tops_within : (parents : List ℕ) (n m : ℕ) (lines : List PlanLine) → AreProcessBlocks parents n lines m → AreWhole n m lines
tops_within parents n m lines (over _) = record { up = omega arith; all = All-nil (λ l. (n ≤ l.process) × (l.process < n)) }
tops_within parents n m lines (block _ k _ own rest is whole more) =
    let c = within parents n (n + 1) k own whole in
    let h = tops_within parents k m rest more in
    let up = c.up in
    let on = h.up in
    record {
      up = omega (arith, up, on);
      all = All-append (λ l. (n ≤ l.process) × (l.process < m)) own rest
          (All-weaker (IsWithin n (n + 1) k) (λ l. (n ≤ l.process) × (l.process < m))
          (λ l h. ⊎_elim (λ e. (omega (arith, e), omega (arith, e, up, on)))
          (λ r. let a = r.0 in let b = r.1 in (omega (arith, a), omega (arith, b, on))) h)
          own c.all)
          (All-weaker (λ l. (k ≤ l.process) × (l.process < m)) (λ l. (n ≤ l.process) × (l.process < m)) (λ l r. let a = r.0 in (omega (arith, a, up), r.1)) rest h.all);
    }

find_top : (parents : List ℕ) (n m p : ℕ) (lines : List PlanLine) → n ≤ p → p < m → AreProcessBlocks parents n lines m → Found parents p lines
find_top parents n m p lines from to (over _) = absurd (omega (arith, from, to))
find_top parents n m p lines from to (block _ k _ own rest is whole more) =
    let h = tops_within parents k m rest more in
    split_found parents n k m p own rest from to whole
    (λ low high. find_inside parents n (n + 1) k p own (omega arith) (omega (arith, low)) high whole)
    (λ high. find_top parents k m p rest high to more)
    (λ low. none_own p (λ l. (k ≤ l.process) × (l.process < m)) rest h.all (λ l r is. let a = r.0 in omega (arith, a, is, low)))

pub together : (plan : PlanSeen) (p : ℕ) → Nests plan → 1 ≤ p → p ≤ length plan.parents → StandsTogether plan p
together plan p nests from to =
    let f = find_top plan.parents 1 (length plan.parents + 1) p plan.lines from (omega (arith, to)) nests in
    record { before = f.before; block = f.block; behind = f.behind; next = f.next; is = f.is; whole = f.whole; own = f.own }

-- a block has a parent with a lower number, 0 for a top block
record HasParent (parents : List ℕ) (c : ℕ) : Type 0 where
  parent : ℕ
  is : parent_of parents c ≡ Some parent
  lower : parent < c

parents_inside : (parents : List ℕ) (q n m c : ℕ) (lines : List PlanLine) → q < n → n ≤ c → c < m → IsProcessBlock parents q n lines m → HasParent parents c
parents_inside parents q n m c lines lt from to (ends _ _ line) = absurd (omega (arith, from, to))
parents_inside parents q n m c lines lt from to (goes_on _ _ _ line a rest inner more) = parents_inside parents q n m c rest lt from to more
parents_inside parents q n m c lines lt from to (forks _ _ k _ line child rest is inside more) =
    let h = within parents n (n + 1) k child inside in
    let up = h.up in
    ⊎_elim
    (λ same. subst (HasParent parents) same (record { parent = q; is = is; lower = lt }))
    (λ else. ⊎_elim
    (λ low. parents_inside parents n (n + 1) k c child (omega arith) (above n c from else) low inside)
    (λ high. parents_inside parents q k m c rest (omega (arith, lt, up)) high to more)
    (cases_lt c k))
    (cases_eq n c)
  where
    above : (n p : ℕ) → n ≤ p → (n ≡ p → ⊥) → n + 1 ≤ p
    above n p le else = ⊎_elim (λ lt. omega (arith, lt)) (λ ge. absurd (else (omega (arith, le, ge)))) (cases_lt n p)

parents_top : (parents : List ℕ) (n m c : ℕ) (lines : List PlanLine) → 1 ≤ n → n ≤ c → c < m → AreProcessBlocks parents n lines m → HasParent parents c
parents_top parents n m c lines some from to (over _) = absurd (omega (arith, from, to))
parents_top parents n m c lines some from to (block _ k _ own rest is whole more) =
    let h = within parents n (n + 1) k own whole in
    let up = h.up in
    ⊎_elim
    (λ same. subst (HasParent parents) same (record { parent = 0; is = is; lower = omega (arith, some) }))
    (λ else. ⊎_elim
    (λ low. parents_inside parents n (n + 1) k c own (omega arith) (above n c from else) low whole)
    (λ high. parents_top parents k m c rest (omega (arith, some, up)) high to more)
    (cases_lt c k))
    (cases_eq n c)
  where
    above : (n p : ℕ) → n ≤ p → (n ≡ p → ⊥) → n + 1 ≤ p
    above n p le else = ⊎_elim (λ lt. omega (arith, lt)) (λ ge. absurd (else (omega (arith, le, ge)))) (cases_lt n p)

pub lower_parent : (plan : PlanSeen) (c p : ℕ) → Nests plan → parent_of plan.parents c ≡ Some p → p < c
lower_parent plan zero p nests is = absurd (cc is)
lower_parent plan (suc i) p nests is =
    let low = slice_get_within plan.parents i p is in
    let h = parents_top plan.parents 1 (length plan.parents + 1) (suc i) plan.lines (omega arith) (omega arith) (omega (arith, low)) nests in
    let lower = h.lower in
    let same = same_Some h.parent p (sym h.is ∙ is) in
    omega (arith, lower, same)

no_fork : (parents : List ℕ) (p line : ℕ) (a : PlanAct) → IsInner a → IsForkOfParent parents (record { line = line; process = p; act = a })
no_fork parents p line (act.Call (call.Fork child)) inner c is = absurd inner
no_fork parents p line (act.Call call.Exit) inner c is = absurd inner
no_fork parents p line (act.Call (call.Load a n)) inner c is = absurd (cc is)
no_fork parents p line (act.Call (call.Store a n v)) inner c is = absurd (cc is)
no_fork parents p line (act.Call (call.Map at len prot kind object offset)) inner c is = absurd (cc is)
no_fork parents p line (act.Call (call.Unmap a len)) inner c is = absurd (cc is)
no_fork parents p line (act.Call (call.Protect a len prot)) inner c is = absurd (cc is)
no_fork parents p line (act.Call (call.Sync a len)) inner c is = absurd (cc is)
no_fork parents p line (act.Call (call.Read file offset len)) inner c is = absurd (cc is)
no_fork parents p line (act.Call (call.Write file offset bytes rest)) inner c is = absurd (cc is)
no_fork parents p line (act.Call (call.Truncate file len)) inner c is = absurd (cc is)
no_fork parents p line (act.Named name made) inner c is = absurd (cc is)
no_fork parents p line (act.Write name file offset bytes) inner c is = absurd (cc is)
no_fork parents p line act.Wait inner c is = absurd (cc is)

is_fork : (parents : List ℕ) (p n line : ℕ) → parent_of parents n ≡ Some p → IsForkOfParent parents (record { line = line; process = p; act = act.Call (call.Fork n) })
is_fork parents p n line is c e = let same : n ≡ c = cc e in ap (parent_of parents) (sym same) ∙ is

is_exit : (parents : List ℕ) (p line : ℕ) → IsForkOfParent parents (record { line = line; process = p; act = act.Call call.Exit })
is_exit parents p line c is = absurd (cc is)

forks_inside : (parents : List ℕ) (q n m : ℕ) (lines : List PlanLine) → IsProcessBlock parents q n lines m → All (IsForkOfParent parents) lines
forks_inside parents q n m lines (ends _ _ line) = All-cons (IsForkOfParent parents) _ [] (is_exit parents q line) (All-nil (IsForkOfParent parents))
forks_inside parents q n m lines (goes_on _ _ _ line a rest inner more) =
    All-cons (IsForkOfParent parents) _ rest (no_fork parents q line a inner) (forks_inside parents q n m rest more)
forks_inside parents q n m lines (forks _ _ k _ line child rest is inside more) =
    All-cons (IsForkOfParent parents) _ (child ++ rest) (is_fork parents q n line is)
    (All-append (IsForkOfParent parents) child rest (forks_inside parents n (n + 1) k child inside) (forks_inside parents q k m rest more))

pub forks_of_parents : (parents : List ℕ) (n m : ℕ) (lines : List PlanLine) → AreProcessBlocks parents n lines m → All (IsForkOfParent parents) lines
forks_of_parents parents n m lines (over _) = All-nil (IsForkOfParent parents)
forks_of_parents parents n m lines (block _ k _ own rest is whole more) =
    All-append (IsForkOfParent parents) own rest (forks_inside parents n (n + 1) k own whole) (forks_of_parents parents k m rest more)
