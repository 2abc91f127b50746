-- The history of a closed kernel tells the plan.
use Rattle.std.proofs.Common.{◌≡◌, ℕ, zero, suc, ◌+◌, ◌-◌, ◌==◌, ◌||◌, ◌≤◌, ◌<◌, Bool, true, false, List, [], ◌∷◌, ◌++◌, length, Option, Some, None, refl, sym, ap, ◌∙◌, subst, cond, append-nil, arith, ⊎_elim, ◌⊎◌, inl, inr, eq-eqb}
use Rattle.std.specs.List.{list_any, AllByRecursion}
use Rattle.std.proofs.lemmas.Bool.{false≢true, cases_Bool, cases_eq, cases_lt, ne_eqb}
use Rattle.std.proofs.lemmas.Option.{slice_get_within}
use mathlib.Core.List.{IsPrefix}
use Rattle.vm_script.specs.vm_types.declared.call.Entry.{Entry}
use Rattle.vm_script.specs.flat_model.Told.{entries_of}
use Rattle.vm_script.specs.flat_model.Births.{is_birth}
use Rattle.vm_script.specs.declared.plan.PlanLine.{PlanLine}
use Rattle.vm_script.specs.PlanSeen.{PlanSeen}
use Rattle.vm_script.specs.Told.{Spell, Told, ToldFront, own_lines, parent_of, is_born, is_born_of}
use Rattle.vm_script.specs.Ended.{KeepsTree, Ended, Known, AllEnded}
use Rattle.vm_script.proofs.Tellings.{tells, front}
use Rattle.vm_kernel.specs.Callers.{KernelSeen, CallerSeen}
use Rattle.block_runs.specs.Callers.{tree}
use Rattle.block_runs.specs.Running.{HasRun}
use Rattle.block_runs.specs.Rows.{AreNumbered, Agree, IsFresh, HasForker, IsClosing, AreBlocksReady, AllEnd}
use Rattle.block_runs.specs.Closing.{IsKept, IsClosedRow}
use Rattle.block_runs.proofs.Lists.{any_longer}

-- What the callers of a row have seen.
abbrev pub seen_of : List CallerSeen → ℕ → List Entry
seen_of [] q = []
seen_of (v ∷ vs) q = cond (v.process == q) v.seat.seen (seen_of vs q)

agree_in : (kernel : KernelSeen) (seen : ℕ → List Entry) (n : ℕ) (vs : List CallerSeen) → AreNumbered kernel n vs → ((q : ℕ) → n ≤ q → seen q ≡ seen_of vs q) → Agree seen vs
agree_in kernel seen n [] numbered same = tt
agree_in kernel seen n (v ∷ vs) numbered same = (
  same v.process (let e = numbered.0.0 in omega (arith, e)) ∙ ap (λ b. cond b v.seat.seen (seen_of vs v.process)) (eq-eqb v.process v.process refl),
  agree_in kernel seen (n + 1) vs numbered.1 (λ q from. same q (omega (arith, from)) ∙ ap (λ b. cond b v.seat.seen (seen_of vs q)) (ne_eqb v.process q (λ e. let f = numbered.0.0 in omega (arith, e, f, from)))),
)

pub agrees : (kernel : KernelSeen) (n : ℕ) (vs : List CallerSeen) → AreNumbered kernel n vs → Agree (seen_of vs) vs
agrees kernel n vs numbered = agree_in kernel (seen_of vs) n vs numbered (λ q from. refl)

-- a birth is an entry of the child's parent
birth_at : (plan : PlanSeen) (H : List Entry) (c r : ℕ) → KeepsTree plan H → parent_of plan.parents c ≡ Some r → list_any (is_birth c) H ≡ true → list_any (is_birth c) (entries_of H r) ≡ true
birth_at plan [] c r tree is any = any
birth_at plan (e ∷ H) c r tree is any =
    ⊎_elim
    (λ born.
    let same : e.process ≡ r = cc (tree.0 c born, is) in
    ap (λ b. list_any (is_birth c) (cond b (e ∷ entries_of H r) (entries_of H r))) (eq-eqb e.process r same) ∙ ap (λ b. b || list_any (is_birth c) (entries_of H r)) born)
    (λ not.
    let rest : list_any (is_birth c) H ≡ true = sym (ap (λ b. b || list_any (is_birth c) H) not) ∙ any in
    onto (e.process == r) (birth_at plan H c r tree.1 is rest))
    (cases_Bool (is_birth c e))
  where
    onto : (b : Bool) → list_any (is_birth c) (entries_of H r) ≡ true → list_any (is_birth c) (cond b (e ∷ entries_of H r) (entries_of H r)) ≡ true
    onto true more = ap (λ z. is_birth c e || z) more ∙ or_true (is_birth c e)
      where
        or_true : (b : Bool) → (b || true) ≡ true
        or_true true = refl
        or_true false = refl
    onto false more = more

birth_parent : (plan : PlanSeen) (H : List Entry) (c : ℕ) → KeepsTree plan H → list_any (is_birth c) H ≡ true → (r : ℕ) × (parent_of plan.parents c ≡ Some r)
birth_parent plan [] c tree any = absurd (false≢true any)
birth_parent plan (e ∷ H) c tree any =
    ⊎_elim (λ born. (e.process, tree.0 c born)) (λ not. birth_parent plan H c tree.1 (sym (ap (λ b. b || list_any (is_birth c) H) not) ∙ any)) (cases_Bool (is_birth c e))

some_none : (r : ℕ) → Some r ≡ None → ⊥
some_none r is = cc is

in_range : (plan : PlanSeen) (p r : ℕ) → parent_of plan.parents p ≡ Some r → (1 ≤ p) × (p < 1 + length plan.parents)
in_range plan zero r is = absurd (cc is)
in_range plan (suc i) r is = let low = slice_get_within plan.parents i r is in (omega arith, omega (arith, low))

pub record Found (P : CallerSeen → Type 0) (p : ℕ) : Type 0 where
  pub caller : CallerSeen
  pub is : caller.process ≡ p
  pub has : P caller

find : (kernel : KernelSeen) (P : CallerSeen → Type 0) (n : ℕ) (vs : List CallerSeen) (p : ℕ) → AreNumbered kernel n vs → n ≤ p → p < n + length vs → AllByRecursion P vs → Found P p
find kernel P n [] p numbered from to all = absurd (omega (arith, from, to))
find kernel P n (v ∷ vs) p numbered from to all =
    ⊎_elim
    (λ same. record { caller = v; is = numbered.0.0 ∙ same; has = all.0 })
    (λ else. find kernel P (n + 1) vs p numbered.1 (above n p from else) (omega (arith, to)) all.1)
    (cases_eq n p)
  where
    above : (n p : ℕ) → n ≤ p → (n ≡ p → ⊥) → n + 1 ≤ p
    above n p le else = ⊎_elim (λ lt. omega (arith, lt)) (λ ge. absurd (else (omega (arith, le, ge)))) (cases_lt n p)

-- What is known of one caller in the end.
pub record Has (plan : PlanSeen) (H : List Entry) (seen : ℕ → List Entry) (whole : Bool) (v : CallerSeen) : Type 0 where
  pub closing : IsClosing plan.parents seen whole plan.lines v
  pub kept : IsKept H v
  pub agree : seen v.process ≡ v.seat.seen

has_all : (plan : PlanSeen) (H : List Entry) (seen : ℕ → List Entry) (whole : Bool) (vs : List CallerSeen) → AllByRecursion (IsClosing plan.parents seen whole plan.lines) vs → AllByRecursion (IsKept H) vs → Agree seen vs → AllByRecursion (Has plan H seen whole) vs
has_all plan H seen whole [] closing kept agree = tt
has_all plan H seen whole (v ∷ vs) closing kept agree = (record { closing = closing.0; kept = kept.0; agree = agree.0 }, has_all plan H seen whole vs closing.1 kept.1 agree.1)

-- The lines that a caller's block made.
abbrev pub made_in : (parents : List ℕ) (seen : ℕ → List Entry) (whole : Bool) (lines : List PlanLine) (v : CallerSeen) → IsClosing parents seen whole lines v → List PlanLine
made_in parents seen whole lines v (inl fresh) = []
made_in parents seen whole lines v (inr over) = over.0.made

abbrev pub made_of : (plan : PlanSeen) (H : List Entry) (seen : ℕ → List Entry) (whole : Bool) (vs : List CallerSeen) → AllByRecursion (Has plan H seen whole) vs → ℕ → List PlanLine
made_of plan H seen whole [] all q = []
made_of plan H seen whole (v ∷ vs) all q = cond (v.process == q) (made_in plan.parents seen whole plan.lines v all.0.closing) (made_of plan H seen whole vs all.1 q)

module _ (kernel : KernelSeen) (plan : PlanSeen) (H : List Entry) (seen : ℕ → List Entry) (whole : Bool) (row : List CallerSeen) (numbered : AreNumbered kernel 1 row) (long : length row ≡ length plan.parents) (closed : IsClosedRow plan H row) (all : AllByRecursion (Has plan H seen whole) row) where
  -- a birth that the history has was seen by parent and child
  bore : (r c : ℕ) → list_any (is_birth c) (entries_of H r) ≡ true → IsPrefix (seen c) (seen r) × (list_any (is_birth c) (seen c) ≡ true)
  bore r c any = elim (parent_of plan.parents r) as (λ o. parent_of plan.parents r ≡ o → IsPrefix (seen c) (seen r) × (list_any (is_birth c) (seen c) ≡ true)) [
    | None ↦ λ none. absurd (false≢true (sym (ap (list_any (is_birth c)) (closed.others r none)) ∙ any))
    | Some k ↦ λ is.
        let range = in_range plan r k is in
        let f = find kernel (Has plan H seen whole) 1 row r numbered range.0 (let to = range.1 in omega (arith, to, long)) all in
        bore_of f.caller f.is f.has
  ] refl
    where
      bore_of : (v : CallerSeen) → v.process ≡ r → Has plan H seen whole v → IsPrefix (seen c) (seen r) × (list_any (is_birth c) (seen c) ≡ true)
      bore_of v is h =
          let own : list_any (is_birth c) (entries_of v.seat.seen v.process) ≡ true = ap (list_any (is_birth c)) (h.kept.own ∙ ap (entries_of H) is) ∙ any in
          let at : v.seat.seen ≡ seen r = sym h.agree ∙ ap seen is in
          ⊎_elim
          (λ fresh. absurd (false≢true (sym (ap (λ s. list_any (is_birth c) (entries_of s v.process)) fresh.0) ∙ own)))
          (λ over. let z = over.0.run.bore c own in (subst (IsPrefix (seen c)) at z.0, z.1))
          h.closing

  -- What is known of the block p in the end.
  record Settled (p : ℕ) (made : List PlanLine) : Type 0 where
    known : Known H seen p
    silent : is_born plan H p ≡ false → entries_of H p ≡ []
    ended : is_born plan H p ≡ true → Ended plan H seen p made
    front : is_born plan H p ≡ true → IsPrefix made (own_lines plan p)
    every : is_born plan H p ≡ true → whole ≡ true → made ≡ own_lines plan p

  birth_in : (c r : ℕ) → parent_of plan.parents c ≡ Some (suc r) → is_born plan H c ≡ true → list_any (is_birth c) H ≡ true
  birth_in c r is born = sym (ap (λ o. is_born_of o c H) is) ∙ born

  settle : (v : CallerSeen) (i : ℕ) → v.process ≡ suc i → (h : Has plan H seen whole v) → Settled v.process (made_in plan.parents seen whole plan.lines v h.closing)
  settle v i number h = by_case h.closing
    where
      p : ℕ
      p = v.process

      known : Known H seen v.process
      known = record { begun = subst (λ s. IsPrefix s H) (sym h.agree) h.kept.begun; own = ap (λ s. entries_of s v.process) h.agree ∙ h.kept.own }

      unborn : IsFresh v × HasForker plan.parents v.process → is_born plan H v.process ≡ true → ⊥
      unborn fresh born =
          let any = birth_at plan H v.process (suc fresh.1.0) closed.tree fresh.1.1 (birth_in v.process fresh.1.0 fresh.1.1 born) in
          false≢true (sym (ap (list_any (is_birth v.process)) (h.agree ∙ fresh.0)) ∙ (bore (suc fresh.1.0) v.process any).1)

      joined : (c : ℕ) → parent_of plan.parents c ≡ Some v.process → is_born plan H c ≡ true → IsPrefix (seen c) (seen v.process)
      joined c is born =
          let at : parent_of plan.parents c ≡ Some (suc i) = is ∙ ap Some number in
          (bore v.process c (birth_at plan H c v.process closed.tree is (birth_in c i at born))).0

      ended : (made : List PlanLine) → HasRun seen v.process v.seat.seen made → Ended plan H seen v.process made
      ended made run = record {
        own = subst (λ s. Spell made (entries_of s v.process)) (sym h.agree) run.own;
        waits = λ before after wait is w. let met = run.waits before after wait is w in record {
          cut = met.cut;
          begun = subst (IsPrefix met.cut) (sym h.agree) met.begun;
          own = met.own;
          children = λ c forks born. met.children c forks;
        };
        joined = joined;
      }

      was_born : ((parent_of plan.parents v.process ≡ Some 0) ⊎ (list_any (is_birth v.process) v.seat.seen ≡ true)) → is_born plan H v.process ≡ false → ⊥
      was_born (inl top) not = false≢true (sym not ∙ ap (λ o. is_born_of o v.process H) top)
      was_born (inr any) not = by_parent (parent_of plan.parents v.process) refl
        where
          by_parent : (o : Option ℕ) → parent_of plan.parents v.process ≡ o → ⊥
          by_parent None is = let r = birth_parent plan H v.process closed.tree (any_longer (is_birth v.process) v.seat.seen H h.kept.begun any) in some_none r.0 (sym r.1 ∙ is)
          by_parent (Some zero) is = false≢true (sym not ∙ ap (λ o. is_born_of o v.process H) is)
          by_parent (Some (suc r)) is = false≢true (sym not ∙ (ap (λ o. is_born_of o v.process H) is ∙ any_longer (is_birth v.process) v.seat.seen H h.kept.begun any))

      by_case : (c : IsClosing plan.parents seen whole plan.lines v) → Settled v.process (made_in plan.parents seen whole plan.lines v c)
      by_case (inl fresh) = record {
        known = known;
        silent = λ not. sym h.kept.own ∙ ap (λ s. entries_of s v.process) fresh.0;
        ended = λ born. absurd (unborn fresh born);
        front = λ born. absurd (unborn fresh born);
        every = λ born w. absurd (unborn fresh born);
      }
      by_case (inr over) = record {
        known = known;
        silent = λ not. absurd (was_born over.1 not);
        ended = λ born. ended over.0.made over.0.run;
        front = λ born. (over.0.left, over.0.front);
        every = λ born w. sym (append-nil over.0.made) ∙ (ap (λ ls. over.0.made ++ ls) (sym (over.0.all w)) ∙ over.0.front);
      }

  look : (n : ℕ) (vs : List CallerSeen) (hs : AllByRecursion (Has plan H seen whole) vs) (p : ℕ) → 1 ≤ n → AreNumbered kernel n vs → n ≤ p → p < n + length vs → Settled p (made_of plan H seen whole vs hs p)
  look n [] hs p some numbered from to = absurd (omega (arith, from, to))
  look n (v ∷ vs) hs p some numbered from to =
      ⊎_elim
      (λ same.
      let e : v.process ≡ p = numbered.0.0 ∙ same in
      let i : v.process ≡ suc (n - 1) = let z = numbered.0.0 in omega (arith, z, some) in
      subst (λ b. Settled p (cond b (made_in plan.parents seen whole plan.lines v hs.0.closing) (made_of plan H seen whole vs hs.1 p))) (sym (eq-eqb v.process p e)) (subst (λ q. Settled q (made_in plan.parents seen whole plan.lines v hs.0.closing)) e (settle v (n - 1) i hs.0)))
      (λ else.
      subst (λ b. Settled p (cond b (made_in plan.parents seen whole plan.lines v hs.0.closing) (made_of plan H seen whole vs hs.1 p))) (sym (ne_eqb v.process p (λ e. else (sym numbered.0.0 ∙ e))))
      (look (n + 1) vs hs.1 p (omega (arith, some)) numbered.1 (above n p from else) (omega (arith, to))))
      (cases_eq n p)
    where
      above : (n p : ℕ) → n ≤ p → (n ≡ p → ⊥) → n + 1 ≤ p
      above n p le else = ⊎_elim (λ lt. omega (arith, lt)) (λ ge. absurd (else (omega (arith, le, ge)))) (cases_lt n p)

  lines_of : ℕ → List PlanLine
  lines_of p = made_of plan H seen whole row all p

  settled : (p k : ℕ) → parent_of plan.parents p ≡ Some k → Settled p (made_of plan H seen whole row all p)
  settled p k is = let range = in_range plan p k is in look 1 row all p (omega arith) numbered range.0 (let to = range.1 in omega (arith, to, long))

  -- of each block that was born
  born_settled : (p : ℕ) → is_born plan H p ≡ true → Settled p (made_of plan H seen whole row all p)
  born_settled p born = elim (parent_of plan.parents p) as (λ o. parent_of plan.parents p ≡ o → Settled p (made_of plan H seen whole row all p)) [
    | None ↦ λ none. absurd (false≢true (sym (ap (λ o. is_born_of o p H) none) ∙ born))
    | Some k ↦ λ is. settled p k is
  ] refl

  silent : (p : ℕ) → is_born plan H p ≡ false → entries_of H p ≡ []
  silent p not = elim (parent_of plan.parents p) as (λ o. parent_of plan.parents p ≡ o → entries_of H p ≡ []) [
    | None ↦ λ none. closed.others p none
    | Some k ↦ λ is. (settled p k is).silent not
  ] refl

  pub all_ended : (lines : ℕ → List PlanLine) → ((p : ℕ) → is_born plan H p ≡ true → made_of plan H seen whole row all p ≡ lines p) → AllEnded plan H seen lines
  all_ended lines same = record {
    tree = closed.tree;
    known = λ p born. (born_settled p born).known;
    ended = λ p born. subst (Ended plan H seen p) (same p born) ((born_settled p born).ended born);
    silent = silent;
  }

  pub made_front : (p : ℕ) → is_born plan H p ≡ true → IsPrefix (made_of plan H seen whole row all p) (own_lines plan p)
  made_front p born = (born_settled p born).front born

  pub made_every : whole ≡ true → (p : ℕ) → is_born plan H p ≡ true → made_of plan H seen whole row all p ≡ own_lines plan p
  made_every w p born = (born_settled p born).every born w

pub told_front : (kernel : KernelSeen) (plan : PlanSeen) (H : List Entry) (old new : List CallerSeen) (whole : Bool) → tree kernel ≡ plan.parents → AreBlocksReady kernel plan.lines old 1 → length old ≡ length plan.parents
    → AllEnd kernel whole plan.lines old new → IsClosedRow plan H new → ToldFront plan H
told_front kernel plan H old new whole same ready long ends closed =
    let numbered = ends.numbered 1 ready.numbered in
    let seen = seen_of new in
    let agree = agrees kernel 1 new numbered in
    let hs = has_all plan H seen whole new (subst (λ ps. AllByRecursion (IsClosing ps seen whole plan.lines) new) same (ends.closing seen agree)) closed.kept agree in
    let sized : length new ≡ length plan.parents = ends.counted ∙ long in
    front plan H seen (made_of plan H seen whole new hs) (all_ended kernel plan H seen whole new numbered sized closed hs (made_of plan H seen whole new hs) (λ p born. refl))
    (made_front kernel plan H seen whole new numbered sized closed hs)

pub told : (kernel : KernelSeen) (plan : PlanSeen) (H : List Entry) (old new : List CallerSeen) → tree kernel ≡ plan.parents → AreBlocksReady kernel plan.lines old 1 → length old ≡ length plan.parents → AllEnd kernel true plan.lines old new
    → IsClosedRow plan H new → Told plan H
told kernel plan H old new same ready long ends closed =
    let numbered = ends.numbered 1 ready.numbered in
    let seen = seen_of new in
    let agree = agrees kernel 1 new numbered in
    let hs = has_all plan H seen true new (subst (λ ps. AllByRecursion (IsClosing ps seen true plan.lines) new) same (ends.closing seen agree)) closed.kept agree in
    let sized : length new ≡ length plan.parents = ends.counted ∙ long in
    tells plan H seen (own_lines plan) (all_ended kernel plan H seen true new numbered sized closed hs (own_lines plan) (made_every kernel plan H seen true new numbered sized closed hs refl))
