-- What the history of a kernel that was closed has of the plan: its calls are well formed, and its entries not many.
use Rattle.std.proofs.Common.{◌≡◌, ℕ, zero, suc, ◌-◌, ◌<◌, ◌≤◌, ◌==◌, Bool, true, false, cond, List, [], ◌∷◌, ◌++◌, length, refl, sym, ap, ◌∙◌, inl, inr, subst, arith, eq-eqb}
use Rattle.std.specs.Prelude.{All, drop, filter, flat_map, slice_index, slice_set, sum_by}
use Rattle.std.proofs.lemmas.Bool.{cases_Bool, cases_eq, cases_lt, ne_eqb}
use Rattle.std.proofs.lemmas.List.{get_or-set_same, get_or-set_other}
use Rattle.std.proofs.lemmas.List.Elements.{All-nil, All-cons, All-append, All-head, All-tail, All-drop}
use Rattle.std.proofs.lemmas.List.Sums.{sum_by-set}
use Rattle.volume_files.specs.vm_types.declared.call.Call.{Call}
use Rattle.volume_files.specs.vm_types.declared.call.Entry.{Entry}
use Rattle.volume_files.specs.vm_types.Parts.{HasRest, first_write, part_bytes}
use Rattle.volume_files.specs.vm_types.WellFormed.{IsWellFormed}
use Rattle.volume_files.specs.vm_types.Words.{IsByte}
use Rattle.volume_files.specs.flat_model.Told.{Spells, SpellsAll, entries_of}
use Rattle.volume_files.specs.vm_script.declared.plan.PlanAct.{PlanAct}
use Rattle.volume_files.specs.vm_script.declared.plan.PlanAct.TheVariants as act
use Rattle.volume_files.specs.vm_script.declared.plan.PlanLine.{PlanLine}
use Rattle.volume_files.specs.vm_script.PlanSeen.{PlanSeen}
use Rattle.volume_files.specs.vm_script.Sound.{IsSoundAct}
use Rattle.volume_files.specs.vm_script.Told.{Spell, ToldFront, calls_of, is_born}
use Rattle.vm_core.specs.vm_world.State.{room_of}
use Rattle.plan_runs.proofs.FitLines.{first-formed, named-rest, no-rest, spelled-formed}

abbrev IsFormed : Entry → Type 0
IsFormed e = IsWellFormed e.call

abbrev IsSound : PlanLine → Type 0
IsSound l = IsSoundAct l.act

-- THE ENTRIES that spell sound lines
lines-formed : (lines : List PlanLine) (es : List Entry) → All IsSound lines → Spell lines es → All IsFormed es
lines-formed [] es sound spells = subst (All IsFormed) (sym spells) (All-nil IsFormed)
lines-formed (l ∷ lines) es sound spells =
    by_act (λ xs s. lines-formed lines xs (All-tail IsSound l lines sound) s) l.act (All-head IsSound l lines sound) spells
  where
    both : ((xs : List Entry) → Spell lines xs → All IsFormed xs) → (c : Call) (bytes : List ℕ) → IsWellFormed c → HasRest c bytes → All IsByte bytes
        → (front : List Entry) × (rest : List Entry) × (es ≡ front ++ rest) × Spells c bytes front × SpellsAll (flat_map (λ (k : PlanLine). calls_of k.act) lines) rest → All IsFormed es
    both later c bytes formed rest each s = subst (All IsFormed) (sym s.2) (All-append IsFormed s.0 s.1 (spelled-formed c bytes s.0 formed rest each s.3) (later s.1 s.4))

    by_act : ((xs : List Entry) → Spell lines xs → All IsFormed xs) → (a : PlanAct) → IsSoundAct a
        → SpellsAll (calls_of a ++ flat_map (λ (k : PlanLine). calls_of k.act) lines) es → All IsFormed es
    by_act later (act.Call c) is s = both later c [] is.0 (no-rest c is.1) (All-nil IsByte) s
    by_act later (act.Named name c) is s = both later c [] is.0 (named-rest c is.1).0 (All-nil IsByte) s
    by_act later (act.Write name file offset bytes) is s =
        let first : Call = first_write file offset bytes in
        let most = is.2.1 in
        let formed = first-formed file offset bytes is.0 is.1 is.2.0 (omega (arith, most)) is.2.2 in
        both later first (drop (length (part_bytes first)) bytes) formed.0 formed.1 (All-drop IsByte (length (part_bytes first)) bytes is.2.2) s
    by_act later act.Wait is s = later es s

-- what holds of each process's entries holds of all
by-owner : (P : Entry → Type 0) (H : List Entry) → ((p : ℕ) → All P (entries_of H p)) → All P H
by-owner P [] each = All-nil P
by-owner P (e ∷ H) each =
    All-cons P e H
    (All-head P e (entries_of H e.process) (subst (All P) (ap (λ (b : Bool). cond b (e ∷ entries_of H e.process) (entries_of H e.process)) (eq-eqb e.process e.process refl)) (each e.process)))
    (by-owner P H (λ p. by_test p (e.process == p) (each p)))
  where
    by_test : (p : ℕ) (b : Bool) → All P (cond b (e ∷ entries_of H p) (entries_of H p)) → All P (entries_of H p)
    by_test p true all = All-tail P e (entries_of H p) all
    by_test p false all = all

-- lines that pass a test, and a front of lines
all-filter : (P : PlanLine → Type 0) (f : PlanLine → Bool) (lines : List PlanLine) → All P lines → All P (filter f lines)
all-filter P f [] all = All-nil P
all-filter P f (l ∷ lines) all = by_test (all-filter P f lines (All-tail P l lines all)) (f l)
  where
    by_test : All P (filter f lines) → (b : Bool) → All P (cond b (l ∷ filter f lines) (filter f lines))
    by_test rest true = All-cons P l (filter f lines) (All-head P l lines all) rest
    by_test rest false = rest

pub all-front : (P : PlanLine → Type 0) (front rest : List PlanLine) → All P (front ++ rest) → All P front
all-front P [] rest all = All-nil P
all-front P (l ∷ front) rest all = All-cons P l front (All-head P l (front ++ rest) all) (all-front P front rest (All-tail P l (front ++ rest) all))

-- EACH CALL IS WELL FORMED
pub all-formed : (plan : PlanSeen) (H : List Entry) → All (λ (l : PlanLine). IsSoundAct l.act) plan.lines → ToldFront plan H → All (λ (e : Entry). IsWellFormed e.call) H
all-formed plan H sound told = by-owner IsFormed H own
  where
    own : (p : ℕ) → All IsFormed (entries_of H p)
    own p = elim (cases_Bool (is_born plan H p)) [
      | inl born ↦
          let front = told.front p born in
          lines-formed (told.lines_of p) (entries_of H p)
          (all-front IsSound (told.lines_of p) front.0 (subst (All IsSound) (sym front.1) (all-filter IsSound (λ (l : PlanLine). l.process == p) plan.lines sound)))
          (told.tells.own p born)
      | inr unborn ↦ subst (All IsFormed) (sym (told.tells.others p unborn)) (All-nil IsFormed)
    ]

-- NOT MANY ENTRIES: no process has more than its room
pub few-entries : (H : List Entry) (rooms : List ℕ) → ((p : ℕ) → length (entries_of H p) ≤ room_of rooms p) → length H ≤ sum_by (λ n. n) rooms
few-entries [] rooms made = omega arith
few-entries (e ∷ H) rooms made = by_process (few-entries H) e.process refl
  where
    counted : (p : ℕ) → e.process ≡ p → length (entries_of (e ∷ H) p) ≡ suc (length (entries_of H p))
    counted p is = ap (λ (b : Bool). length (cond b (e ∷ entries_of H p) (entries_of H p))) (eq-eqb e.process p is)

    uncounted : (p : ℕ) → ¬ (e.process ≡ p) → length (entries_of (e ∷ H) p) ≡ length (entries_of H p)
    uncounted p other = ap (λ (b : Bool). length (cond b (e ∷ entries_of H p) (entries_of H p))) (ne_eqb e.process p other)

    past : (k : ℕ) (xs : List ℕ) → length xs ≤ k → slice_index xs k ≡ 0
    past k [] le = refl
    past zero (x ∷ xs) le = absurd (omega (arith, le))
    past (suc k) (x ∷ xs) le = past k xs (omega (arith, le))

    less : (p : ℕ) → e.process ≡ suc p → p < length rooms → (q : ℕ) → length (entries_of H q) ≤ room_of (slice_set rooms p (slice_index rooms p - 1)) q
    less p is lt zero = let most = made 0 in let same = uncounted 0 (λ z. let s : suc p ≡ 0 = sym is ∙ z in omega (arith, s)) in omega (arith, most, same)
    less p is lt (suc q) = elim (cases_eq q p) [
      | inl same ↦
          let some = counted (suc q) (is ∙ ap suc (sym same)) in
          let most = made (suc q) in
          let at : slice_index (slice_set rooms p (slice_index rooms p - 1)) q ≡ slice_index rooms p - 1 =
          ap (slice_index (slice_set rooms p (slice_index rooms p - 1))) same ∙ get_or-set_same rooms p (slice_index rooms p - 1) 0 lt in
          let room : slice_index rooms q ≡ slice_index rooms p = ap (slice_index rooms) same in
          omega (arith, some, most, at, room)
      | inr other ↦
          let most = made (suc q) in
          let same = uncounted (suc q) (λ z. other (let s : suc q ≡ suc p = sym z ∙ is in omega (arith, s))) in
          let at : slice_index (slice_set rooms p (slice_index rooms p - 1)) q ≡ slice_index rooms q = get_or-set_other rooms p q (slice_index rooms p - 1) 0 other in
          omega (arith, most, same, at)
    ]

    by_process : ((left : List ℕ) → ((p : ℕ) → length (entries_of H p) ≤ room_of left p) → length H ≤ sum_by (λ n. n) left) → (p : ℕ) → e.process ≡ p → length (e ∷ H) ≤ sum_by (λ n. n) rooms
    by_process later zero is = let some = counted 0 is in let most = made 0 in absurd (omega (arith, some, most))
    by_process later (suc p) is =
        let some = counted (suc p) is in
        let most = made (suc p) in
        let old = slice_index rooms p in
        elim (cases_lt p (length rooms)) [
          | inl lt ↦
              let set = sum_by-set (λ n. n) rooms p (old - 1) 0 lt in
              let rest = later (slice_set rooms p (old - 1)) (less p is lt) in
              omega (arith, some, most, set, rest)
          | inr ge ↦ let none = past p rooms ge in absurd (omega (arith, some, most, none))
        ]
