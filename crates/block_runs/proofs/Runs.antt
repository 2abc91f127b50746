-- A block's lines run one after another.
use Rattle.std.proofs.Common.{◌≡◌, ℕ, ◌||◌, Bool, true, false, List, [], ◌∷◌, ◌++◌, None, refl, sym, ap, ◌∙◌, subst, cond, append_assoc, append-nil, ⊎_elim, ◌⊎◌, inl, inr}
use Rattle.std.specs.Prelude.{MatchOption, drop, length}
use Rattle.std.specs.List.{list_any, AllByRecursion}
use Rattle.std.proofs.lemmas.Bool.{cases_Bool, eqb-true, false≢true}
use Rattle.std.proofs.lemmas.List.Folds.{list_any-append}
use mathlib.Core.List.{IsPrefix}
use Rattle.vm_script.specs.vm_types.declared.call.Call.{Call}
use Rattle.vm_script.specs.vm_types.declared.call.Call.TheVariants as call
use Rattle.vm_script.specs.vm_types.declared.call.Reply.{Reply}
use Rattle.vm_script.specs.vm_types.declared.call.Entry.{Entry}
use Rattle.vm_script.specs.vm_types.Parts.{next_part, part_bytes, part_file}
use Rattle.vm_script.specs.flat_model.Told.{entries_of, Spells, SpellsAll}
use Rattle.vm_script.specs.flat_model.Births.{is_birth, is_done, is_fork_of}
use Rattle.vm_script.specs.declared.plan.PlanAct.{PlanAct}
use Rattle.vm_script.specs.declared.plan.PlanAct.TheVariants as act
use Rattle.vm_script.specs.declared.plan.PlanLine.{PlanLine}
use Rattle.vm_script.specs.Told.{Spell, Forks, calls_of}
use Rattle.vm_script.proofs.Tellings.{prefix_trans}
use Rattle.vm_script.proofs.Runs.{Spell-append}
use Rattle.vm_kernel.specs.Callers.{KernelSeen, CallerSeen}
use Rattle.block_runs.specs.Callers.{tree, IsCaller, HasMade}
use Rattle.block_runs.specs.Running.{HasMetChildren, HasRun, RunsOn, IsNoWait}
use Rattle.block_runs.specs.Rows.{MakesLine}
use Rattle.block_runs.specs.Lines.{IsCallLine}
use Rattle.block_runs.proofs.Lists.{prefix_refl, prefix_none, each_append}

pub forks_parts : (xs ys : List PlanLine) (c : ℕ) → Forks (xs ++ ys) c → Forks xs c ⊎ Forks ys c
forks_parts [] ys c f = inr f
forks_parts (x ∷ xs) ys c f = ⊎_elim (λ here. inl (inl here)) (λ there. ⊎_elim (λ a. inl (inr a)) (λ b. inr b) (forks_parts xs ys c there)) f

pub any_parts : {A : Type 0} (f : A → Bool) (xs ys : List A) → list_any f (xs ++ ys) ≡ true → (list_any f xs ≡ true) ⊎ (list_any f ys ≡ true)
any_parts f xs ys any =
    ⊎_elim (λ yes. inl yes)
    (λ not. inr (sym (ap (λ b. b || list_any f ys) not) ∙ (sym (list_any-append f xs ys) ∙ any)))
    (cases_Bool (list_any f xs))

module _ (seen : ℕ → List Entry) (p : ℕ) where
  pub runs_nothing : (S : List Entry) → RunsOn seen p S S []
  runs_nothing S = record {
    begun = prefix_refl S;
    es = [];
    grown = sym (append-nil (entries_of S p));
    own = refl;
    plain = tt;
    children = λ c f. absurd f;
    bore = λ c b. absurd (false≢true b);
  }

  pub runs_then : (S T U : List Entry) (xs ys : List PlanLine) → RunsOn seen p S T xs → RunsOn seen p T U ys → RunsOn seen p S U (xs ++ ys)
  runs_then S T U xs ys a b = record {
    begun = prefix_trans S T U a.begun b.begun;
    es = a.es ++ b.es;
    grown = b.grown ∙ (ap (λ es. es ++ b.es) a.grown ∙ append_assoc (entries_of S p) a.es b.es);
    own = Spell-append xs ys a.es b.es a.own b.own;
    plain = each_append IsNoWait xs ys a.plain b.plain;
    children = λ c f. ⊎_elim (λ one. prefix_trans (seen c) T U (a.children c one) b.begun) (λ two. b.children c two) (forks_parts xs ys c f);
    bore = λ c any. ⊎_elim (λ one. let z = a.bore c one in (prefix_trans (seen c) T U z.0 b.begun, z.1)) (λ two. b.bore c two) (any_parts (is_birth c) a.es b.es any);
  }

  -- the caller has seen more, and made nothing
  pub runs_more : (S T U : List Entry) (xs : List PlanLine) → RunsOn seen p S T xs → IsPrefix T U → entries_of U p ≡ entries_of T p ++ [] → RunsOn seen p S U xs
  runs_more S T U xs a le same = record {
    begun = prefix_trans S T U a.begun le;
    es = a.es;
    grown = same ∙ (append-nil (entries_of T p) ∙ a.grown);
    own = a.own;
    plain = a.plain;
    children = λ c f. prefix_trans (seen c) T U (a.children c f) le;
    bore = λ c any. let z = a.bore c any in (prefix_trans (seen c) T U z.0 le, z.1);
  }

  no_fork : (l : PlanLine) (a : PlanAct) (c : ℕ) → IsCallLine a → a ≡ act.Call (call.Fork c) → ⊥
  no_fork l a c is e = subst IsCallLine e is

  no_wait : (a : PlanAct) → IsCallLine a → a ≡ act.Wait → ⊥
  no_wait a is e = subst IsCallLine e is

  pub runs_line : (v w : CallerSeen) (l : PlanLine) → v.process ≡ p → IsCallLine l.act → MakesLine v w l → RunsOn seen p v.seat.seen w.seat.seen (l ∷ [])
  runs_line v w l is line made = record {
    begun = made.more.begun;
    es = made.es;
    grown = subst (λ q. entries_of w.seat.seen q ≡ entries_of v.seat.seen q ++ made.es) is made.more.own;
    own = made.own;
    plain = (no_wait l.act line, tt);
    children = λ c f. absurd (⊎_elim (λ here. no_fork l l.act c line here) (λ none. none) f);
    bore = λ c any. absurd (false≢true (sym (made.bears c) ∙ any));
  }

fork_next : (c : ℕ) (r : Reply) → next_part (call.Fork c) r [] ≡ None
unfolding next_part
fork_next c r = refl

-- one entry spells a fork
pub fork_alone : (c : ℕ) (e : Entry) → e.call ≡ call.Fork c → Spells (call.Fork c) [] (e ∷ [])
fork_alone c e same = (same, subst (λ o. MatchOption o (◌≡◌ {A = List Entry} [] []) (λ (next : Call). Spells next (drop (length (part_bytes next)) []) [])) (sym (fork_next c e.reply)) refl)

pub fork_spelled : (l : PlanLine) (c : ℕ) (e : Entry) → l.act ≡ act.Call (call.Fork c) → e.call ≡ call.Fork c → Spell (l ∷ []) (e ∷ [])
fork_spelled l c e is same = subst (λ a. SpellsAll (calls_of a ++ []) (e ∷ [])) (sym is) (e ∷ [], [], refl, fork_alone c e same, refl)

fork_plain : (l : PlanLine) (c : ℕ) → l.act ≡ act.Call (call.Fork c) → IsNoWait l
fork_plain l c is wait = cc (is, wait)

-- a fork that wasn't done bears nobody
pub unborn : (c : ℕ) (e : Entry) → is_done e.reply ≡ false → list_any (is_birth c) (e ∷ []) ≡ false
unborn c e else = ap (λ b. cond b (is_fork_of c e.call) false || false) else

pub fork_of : (c n : ℕ) (e : Entry) → e.call ≡ call.Fork n → list_any (is_birth c) (e ∷ []) ≡ true → c ≡ n
fork_of c n e is any =
    ⊎_elim
    (λ yes. let at : is_fork_of c e.call ≡ true = subst (λ b. (cond b (is_fork_of c e.call) false || false) ≡ true → is_fork_of c e.call ≡ true) (sym yes) (or_false (is_fork_of c e.call)) any in
    sym (eqb-true n c (sym (ap (is_fork_of c) is) ∙ at)))
    (λ not. absurd (false≢true (sym (ap (λ b. cond b (is_fork_of c e.call) false || false) not) ∙ any)))
    (cases_Bool (is_done e.reply))
  where
    or_false : (b : Bool) → (b || false) ≡ true → b ≡ true
    or_false true h = refl
    or_false false h = h

module _ (seen : ℕ → List Entry) (p : ℕ) where
  -- a fork that was refused: the child has seen nothing
  pub runs_refused : (v w : CallerSeen) (l : PlanLine) (c : ℕ) (r : Reply) → v.process ≡ p → l.act ≡ act.Call (call.Fork c) → HasMade v w (call.Fork c) r → is_done r ≡ false → seen c ≡ [] → RunsOn seen p v.seat.seen w.seat.seen (l ∷ [])
  runs_refused v w l c r is line made else none = record {
    begun = made.more.begun;
    es = made.entry ∷ [];
    grown = subst (λ q. entries_of w.seat.seen q ≡ entries_of v.seat.seen q ++ made.entry ∷ []) is made.more.own;
    own = fork_spelled l c made.entry line made.is_call;
    plain = (fork_plain l c line, tt);
    children = λ d f. ⊎_elim (λ here. let same : c ≡ d = cc (here, line) in prefix_none (seen d) w.seat.seen (sym (ap seen same) ∙ none)) (λ no. absurd no) f;
    bore = λ d any. absurd (false≢true (sym (unborn d made.entry (ap is_done made.is_reply ∙ else)) ∙ any));
  }

  -- a fork that was done, with the lines behind it, where the child was met
  pub runs_fork : (v w : CallerSeen) (T : List Entry) (l : PlanLine) (c : ℕ) (r : Reply) (lines : List PlanLine) → v.process ≡ p → l.act ≡ act.Call (call.Fork c) → HasMade v w (call.Fork c) r
      → RunsOn seen p w.seat.seen T lines → IsPrefix (seen c) T → list_any (is_birth c) (seen c) ≡ true → RunsOn seen p v.seat.seen T (l ∷ lines)
  runs_fork v w T l c r lines is line made on met born = record {
    begun = prefix_trans v.seat.seen w.seat.seen T made.more.begun on.begun;
    es = made.entry ∷ on.es;
    grown = on.grown ∙ (ap (λ es. es ++ on.es) (subst (λ q. entries_of w.seat.seen q ≡ entries_of v.seat.seen q ++ made.entry ∷ []) is made.more.own) ∙ append_assoc (entries_of v.seat.seen p) (made.entry ∷ []) on.es);
    own = Spell-append (l ∷ []) lines (made.entry ∷ []) on.es (fork_spelled l c made.entry line made.is_call) on.own;
    plain = (fork_plain l c line, on.plain);
    children = λ d f. ⊎_elim (λ here. let same : c ≡ d = cc (here, line) in subst (λ k. IsPrefix (seen k) T) same met) (λ there. on.children d there) f;
    bore = λ d any. ⊎_elim (λ one. subst (λ k. IsPrefix (seen k) T × (list_any (is_birth k) (seen k) ≡ true)) (sym (fork_of d c made.entry made.is_call one)) (met, born)) (λ two. on.bore d two) (any_parts (is_birth d) (made.entry ∷ []) on.es any);
  }

not_none : {A : Type 0} (xs : List A) (y : A) (ys : List A) → [] ≡ xs ++ y ∷ ys → ⊥
not_none [] y ys e = cc e
not_none (x ∷ xs) y ys e = cc e

-- a place in two lists is in the one or in the other
split_place : (xs ys before after : List PlanLine) (w : PlanLine) → xs ++ ys ≡ before ++ w ∷ after
    → ((more : List PlanLine) × (xs ≡ before ++ w ∷ more)) ⊎ ((mid : List PlanLine) × (before ≡ xs ++ mid) × (ys ≡ mid ++ w ∷ after))
split_place [] ys before after w e = inr (before, refl, e)
split_place (x ∷ xs) ys [] after w e = inl (xs, cc e)
split_place (x ∷ xs) ys (b ∷ before) after w e =
    let tails : xs ++ ys ≡ before ++ w ∷ after = cc e in
    let heads : x ≡ b = cc e in
    ⊎_elim (λ h. inl (h.0, ap (λ z. x ∷ z) h.1 ∙ ap (λ z. z ∷ (before ++ w ∷ h.0)) heads))
    (λ h. inr (h.0, ap (λ z. b ∷ z) h.1 ∙ ap (λ z. z ∷ (xs ++ h.0)) (sym heads), h.2))
    (split_place xs ys before after w tails)

plain_at : (mid after : List PlanLine) (w : PlanLine) → AllByRecursion IsNoWait (mid ++ w ∷ after) → IsNoWait w
plain_at [] after w all = all.0
plain_at (m ∷ mid) after w all = plain_at mid after w all.1

one_at : (l w : PlanLine) (mid after : List PlanLine) → l ∷ [] ≡ mid ++ w ∷ after → mid ≡ []
one_at l w [] after e = refl
one_at l w (m ∷ mid) after e = absurd (not_none mid w after (cc e))

module _ (seen : ℕ → List Entry) (p : ℕ) where
  pub run_nothing : (S : List Entry) → entries_of S p ≡ [] → HasRun seen p S []
  run_nothing S none = record {
    own = none;
    waits = λ before after wait is w. absurd (not_none before wait after is);
    children = λ c f. absurd f;
    bore = λ c b. absurd (false≢true (sym (ap (list_any (is_birth c)) none) ∙ b));
  }

  -- the block ran on for a stretch
  pub run_on : (S T : List Entry) (xs ys : List PlanLine) → HasRun seen p S xs → RunsOn seen p S T ys → HasRun seen p T (xs ++ ys)
  run_on S T xs ys run on = record {
    own = subst (Spell (xs ++ ys)) (sym on.grown) (Spell-append xs ys (entries_of S p) on.es run.own on.own);
    waits = λ before after wait is w. ⊎_elim
        (λ h. let met = run.waits before h.0 wait h.1 w in record { cut = met.cut; begun = prefix_trans met.cut S T met.begun on.begun; own = met.own; children = met.children })
        (λ h. absurd (plain_at h.0 after wait (subst (AllByRecursion IsNoWait) h.2 on.plain) w))
        (split_place xs ys before after wait is);
    children = λ c f. ⊎_elim (λ one. prefix_trans (seen c) S T (run.children c one) on.begun) (λ two. on.children c two) (forks_parts xs ys c f);
    bore = λ c any. ⊎_elim (λ one. let z = run.bore c one in (prefix_trans (seen c) S T z.0 on.begun, z.1)) (λ two. on.bore c two) (any_parts (is_birth c) (entries_of S p) on.es (sym (ap (list_any (is_birth c)) on.grown) ∙ any));
  }

  wait_spelled : (l : PlanLine) → l.act ≡ act.Wait → Spell (l ∷ []) []
  wait_spelled l is = subst (λ a. SpellsAll (calls_of a ++ []) []) (sym is) refl

  wait_forks : (l : PlanLine) (c : ℕ) → l.act ≡ act.Wait → Forks (l ∷ []) c → ⊥
  wait_forks l c is f = ⊎_elim (λ here. cc (here, is)) (λ no. no) f

  -- the block is past a wait
  pub run_wait : (S : List Entry) (xs : List PlanLine) (l : PlanLine) → HasRun seen p S xs → l.act ≡ act.Wait → HasRun seen p S (xs ++ l ∷ [])
  run_wait S xs l run is_wait = record {
    own = subst (Spell (xs ++ l ∷ [])) (append-nil (entries_of S p)) (Spell-append xs (l ∷ []) (entries_of S p) [] run.own (wait_spelled l is_wait));
    waits = λ before after wait is w. ⊎_elim
        (λ h. run.waits before h.0 wait h.1 w)
        (λ h. subst (HasMetChildren seen p S) (sym (h.1 ∙ (ap (λ m. xs ++ m) (one_at l wait h.0 after h.2) ∙ append-nil xs))) record { cut = S; begun = prefix_refl S; own = run.own; children = run.children })
        (split_place xs (l ∷ []) before after wait is);
    children = λ c f. ⊎_elim (λ one. run.children c one) (λ two. absurd (wait_forks l c is_wait two)) (forks_parts xs (l ∷ []) c f);
    bore = run.bore;
  }

pub no_next : (c : Call) (r : Reply) (bs : List ℕ) → part_file c ≡ None → next_part c r bs ≡ None
unfolding next_part
no_next (call.Load a n) r bs none = refl
no_next (call.Store a n v) r bs none = refl
no_next (call.Map at len prot kind object offset) r bs none = refl
no_next (call.Unmap a len) r bs none = refl
no_next (call.Protect a len prot) r bs none = refl
no_next (call.Sync a len) r bs none = refl
no_next (call.Read file offset len) r bs none = absurd (cc none)
no_next (call.Write file offset bytes left) r bs none = absurd (cc none)
no_next (call.Truncate file len) r bs none = refl
no_next (call.Fork child) r bs none = refl
no_next call.Exit r bs none = refl

no_birth : (d : ℕ) (c : Call) → IsCallLine (act.Call c) → is_fork_of d c ≡ false
no_birth d (call.Load a n) line = refl
no_birth d (call.Store a n v) line = refl
no_birth d (call.Map at len prot kind object offset) line = refl
no_birth d (call.Unmap a len) line = refl
no_birth d (call.Protect a len prot) line = refl
no_birth d (call.Sync a len) line = refl
no_birth d (call.Read file offset len) line = refl
no_birth d (call.Write file offset bytes left) line = refl
no_birth d (call.Truncate file len) line = refl
no_birth d (call.Fork child) line = absurd line
no_birth d call.Exit line = refl

-- an entry that is no fork's bears nobody
pub bears_none : (d : ℕ) (e : Entry) (c : Call) → e.call ≡ c → IsCallLine (act.Call c) → list_any (is_birth d) (e ∷ []) ≡ false
bears_none d e c is line =
    ⊎_elim (λ done. ap (λ b. b || false) (ap (λ b. cond b (is_fork_of d e.call) false) done ∙ (ap (is_fork_of d) is ∙ no_birth d c line)))
    (λ not. unborn d e not)
    (cases_Bool (is_done e.reply))
