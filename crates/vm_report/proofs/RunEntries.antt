-- Runs of a history, and the entries that they are.
use Rattle.std.proofs.Common.{◌≡◌, ℕ, suc, ◌<◌, ◌≤◌, ◌+◌, ◌^◌, ◌==◌, Bool, true, false, cond, List, [], ◌∷◌, ◌++◌, length, take, drop, get_or, refl, sym, ap, ◌∙◌, subst, append_assoc, append-nil, arith, ⊎_elim}
use Rattle.std.specs.Prelude.{All, Some, None, slice_get}
use Rattle.std.proofs.lemmas.Option.{get_or_from_slice_get, none-some, slice_get-get_or, slice_get_within}
use Rattle.std.proofs.lemmas.Bool.{cases_lt, eqb-true}
use Rattle.std.proofs.lemmas.List.{drop-append-le, drop-drop, drop_all, drop_more, get_or-drop, length-drop, take-append-le, take_more}
use Rattle.std.proofs.Math.Seq.{take-append_seam}
use Rattle.std.proofs.lemmas.List.Elements.{All-append, All-cons, All-drop, All-get_or, All-nil, All-take}
use Rattle.vm_script.specs.vm_types.declared.call.Entry.{Entry}
use Rattle.vm_script.specs.vm_types.Parts.{ends_call}
use Rattle.vm_script.specs.vm_types.WellFormed.{IsWellFormed}
use Rattle.vm_report.specs.PiecesInside.{IsLeftOf}
use Rattle.vm_report.specs.Report.{call_length}
use Rattle.vm_report.specs.Runs.{AreWithin, entries_left, run_seen, runs_seen}
use Rattle.vm_report.specs.declared.cursors.Cursor.{Cursor}
use Rattle.vm_report.specs.declared.runs.Run.{Run}

abbrev Ends : ℕ → Run → Type 0
Ends n r = r.first + r.count ≤ n

pub runs-append : (H : List Entry) (xs ys : List Run) → runs_seen H (xs ++ ys) ≡ runs_seen H xs ++ runs_seen H ys
runs-append H [] ys = refl
runs-append H (r ∷ rs) ys = ap (λ (t : List Entry). run_seen H r ++ t) (runs-append H rs ys) ∙ sym (append_assoc (run_seen H r) (runs_seen H rs) (runs_seen H ys))

-- a run with one entry more
run-more : (H : List Entry) (first count : ℕ) (e : Entry) → first + count < length H → e ≡ get_or H (first + count) e
    → take (count + 1) (drop first H) ≡ take count (drop first H) ++ e ∷ []
run-more H first count e lt is =
    let size = length-drop first H in
    take_more (drop first H) count e (omega (arith, size, lt)) ∙ ap (λ (x : Entry). take count (drop first H) ++ x ∷ []) (get_or-drop first H count e ∙ sym is)

-- the last run, alone
last-alone : (H : List Entry) (done : List Run) (r : Run) → runs_seen H (done ++ r ∷ []) ≡ runs_seen H done ++ run_seen H r
last-alone H done r = runs-append H done (r ∷ []) ∙ ap (λ (t : List Entry). runs_seen H done ++ t) (append-nil (run_seen H r))

-- the last run grew by an entry
pub runs-grown : (H : List Entry) (done : List Run) (first count : ℕ) (e : Entry) → first + count < length H → e ≡ get_or H (first + count) e
    → runs_seen H (done ++ (record { first = first; count = count + 1 }) ∷ []) ≡ runs_seen H (done ++ (record { first = first; count = count }) ∷ []) ++ e ∷ []
runs-grown H done first count e lt is =
    last-alone H done (record { first = first; count = count + 1 })
    ∙ ap (λ (t : List Entry). runs_seen H done ++ t) (run-more H first count e lt is)
    ∙ sym (append_assoc (runs_seen H done) (take count (drop first H)) (e ∷ []))
    ∙ ap (λ (t : List Entry). t ++ e ∷ []) (sym (last-alone H done (record { first = first; count = count })))

-- a run of one entry came behind
pub runs-begun : (H : List Entry) (rs : List Run) (i : ℕ) (e : Entry) → i < length H → e ≡ get_or H i e → runs_seen H (rs ++ (record { first = i; count = 1 }) ∷ []) ≡ runs_seen H rs ++ e ∷ []
runs-begun H rs i e lt is =
    let none : i + 0 ≡ i = omega arith in
    last-alone H rs (record { first = i; count = 1 })
    ∙ ap (λ (t : List Entry). runs_seen H rs ++ t) (run-more H i 0 e (omega (arith, lt)) (is ∙ ap (λ (k : ℕ). get_or H k e) (sym none)))

-- what is left where a run begins, and behind the last run
pub run-next : (H : List Entry) (rs : List Run) (next : ℕ) (r : Run) → next < length rs → r ≡ get_or rs next r → runs_seen H (drop next rs) ≡ run_seen H r ++ runs_seen H (drop (next + 1) rs)
run-next H rs next r lt is = ap (λ (xs : List Run). runs_seen H xs) (drop_more rs next r lt ∙ ap (λ (x : Run). x ∷ drop (next + 1) rs) (sym is))

-- a front of what is left is passed
pub front-passed : {A : Type 0} (n : ℕ) (front behind rest : List A) → n ≤ length front → rest ≡ drop n front → rest ++ behind ≡ drop n (front ++ behind)
front-passed n front behind rest le is = ap (λ t. t ++ behind) is ∙ sym (drop-append-le n front behind le)

-- the first of the entries that are left
pub left-first : (H : List Entry) (rs : List Run) (at : Cursor) (e : Entry) (more : List Entry) → at.front ≡ e ∷ more → entries_left H rs at ≡ e ∷ (more ++ runs_seen H (drop at.next rs))
left-first H rs at e more is = ap (λ (es : List Entry). es ++ runs_seen H (drop at.next rs)) is

-- A LATER PLACE in a process's entries.
module _ (H : List Entry) (rs : List Run) (from : Cursor) where
  pub left-same : (from.front ≡ [] → entries_left H rs from ≡ []) → IsLeftOf H rs from from
  left-same whole = record { passed = (0, refl); whole = whole }

  pub left-on : (at to : Cursor) (n : ℕ) → IsLeftOf H rs from at → entries_left H rs to ≡ drop n (entries_left H rs at) → (to.front ≡ [] → entries_left H rs to ≡ []) → IsLeftOf H rs from to
  left-on at to n left is whole = record {
    passed = (left.passed.0 + n, is ∙ (ap (λ (es : List Entry). drop n es) left.passed.1 ∙ drop-drop n left.passed.0 (entries_left H rs from)));
    whole = whole;
  }

  pub left-few : (at : Cursor) → IsLeftOf H rs from at → length (entries_left H rs from) < 2 ^ 32 → length (entries_left H rs at) < 2 ^ 32
  left-few at left few =
      let same = ap (λ (es : List Entry). length es) left.passed.1 in
      let size = length-drop left.passed.0 (entries_left H rs from) in
      omega (arith, same, size, few)

  pub left-well : (at : Cursor) → IsLeftOf H rs from at → All (λ (e : Entry). IsWellFormed e.call) (entries_left H rs from) → All (λ (e : Entry). IsWellFormed e.call) (entries_left H rs at)
  left-well at left well = subst (All (λ (e : Entry). IsWellFormed e.call)) (sym left.passed.1) (All-drop (λ (e : Entry). IsWellFormed e.call) left.passed.0 (entries_left H rs from) well)

-- RUNS WITHIN so many entries stay within as one begins or grows.
pub within-begun : (n : ℕ) (rs : List Run) (r : Run) → Ends n r → AreWithin n rs → AreWithin n (rs ++ r ∷ [])
within-begun n rs r le all = All-append (Ends n) rs (r ∷ []) all (All-cons (Ends n) r [] le (All-nil (Ends n)))

pub within-grown : (n : ℕ) (done : List Run) (old new : Run) → Ends n new → AreWithin n (done ++ old ∷ []) → AreWithin n (done ++ new ∷ [])
within-grown n done old new le all =
    within-begun n done new le (subst (All (Ends n)) (take-append_seam done (old ∷ [])) (All-take (Ends n) (length done) (done ++ old ∷ []) all))

pub empty_is : (es : List Entry) (b : Bool) → b ≡ true → b ≡ (length es == 0) → es ≡ []
empty_is [] b empty is = refl
empty_is (e ∷ es) b empty is = absurd (let z = eqb-true (suc (length es)) 0 (sym is ∙ empty) in omega (arith, z))

-- WHERE A RUN ENDS: the next one begins what is left; behind the last one nothing is.
pub next-left : (H : List Entry) (rs : List Run) (next : ℕ) (r : Run) (front entries : List Entry) → front ≡ [] → slice_get rs next ≡ Some r → entries ≡ run_seen H r
    → entries ++ runs_seen H (drop (next + 1) rs) ≡ front ++ runs_seen H (drop next rs)
next-left H rs next r front entries none got is =
    ap (λ (es : List Entry). es ++ runs_seen H (drop (next + 1) rs)) is
    ∙ (sym (run-next H rs next r (slice_get_within rs next r got) (sym (get_or_from_slice_get rs next r r got)))
    ∙ ap (λ (es : List Entry). es ++ runs_seen H (drop next rs)) (sym none))

get_none : (rs : List Run) (i : ℕ) → slice_get rs i ≡ None → length rs ≤ i
get_none rs i none =
    let empty : Run = record { first = 0; count = 0 } in
    ⊎_elim (λ lt. absurd (none-some (get_or rs i empty) (sym none ∙ slice_get-get_or rs i empty lt))) (λ past. past) (cases_lt i (length rs))

pub run-within : (n : ℕ) (rs : List Run) (next : ℕ) (r : Run) → AreWithin n rs → slice_get rs next ≡ Some r → r.first + r.count ≤ n
run-within n rs next r all got = subst (Ends n) (get_or_from_slice_get rs next r r got) (All-get_or (Ends n) rs next r (slice_get_within rs next r got) all)

pub none-left : (H : List Entry) (rs : List Run) (next : ℕ) (front : List Entry) → front ≡ [] → slice_get rs next ≡ None → front ++ runs_seen H (drop next rs) ≡ []
none-left H rs next front none past =
    ap (λ (es : List Entry). es ++ runs_seen H (drop next rs)) none ∙ ap (λ (xs : List Run). runs_seen H xs) (drop_all next rs (get_none rs next past))

-- A CALL'S ENTRIES, one by one: the first of those that are left is taken, and ends the call or not.
module _ (left : List Entry) (e : Entry) (more next : List Entry) (is : left ≡ e ∷ more) (on : next ≡ drop 1 left) where
  next-is : more ≡ next
  next-is = sym (on ∙ ap (λ (es : List Entry). drop 1 es) is)

  length-is : (b : Bool) → b ≡ ends_call e.call e.reply → call_length left ≡ cond b 1 (suc (call_length next))
  length-is b ends = ap call_length is ∙ (ap (λ t. cond t 1 (suc (call_length more))) (sym ends) ∙ ap (λ (es : List Entry). cond b 1 (suc (call_length es))) next-is)

  taken-is : (b : Bool) → b ≡ ends_call e.call e.reply → take (call_length left) left ≡ take (cond b 1 (suc (call_length next))) (e ∷ next)
  taken-is b ends = ap (λ n. take n left) (length-is b ends) ∙ ap (λ (es : List Entry). take (cond b 1 (suc (call_length next))) es) (is ∙ ap (λ (es : List Entry). e ∷ es) next-is)

  behind-is : (b : Bool) → b ≡ ends_call e.call e.reply → drop (call_length left) left ≡ drop (cond b 1 (suc (call_length next))) (e ∷ next)
  behind-is b ends = ap (λ n. drop n left) (length-is b ends) ∙ ap (λ (es : List Entry). drop (cond b 1 (suc (call_length next))) es) (is ∙ ap (λ (es : List Entry). e ∷ es) next-is)

  module _ (call grown all : List Entry) (pushed : grown ≡ call ++ e ∷ []) where
    pub taken-more : false ≡ ends_call e.call e.reply → call ++ take (call_length left) left ≡ all → grown ++ take (call_length next) next ≡ all
    taken-more ends before =
        ap (λ (es : List Entry). es ++ take (call_length next) next) pushed
        ∙ (append_assoc call (e ∷ []) (take (call_length next) next) ∙ (ap (λ (es : List Entry). call ++ es) (sym (taken-is false ends)) ∙ before))

    pub taken-last : true ≡ ends_call e.call e.reply → call ++ take (call_length left) left ≡ all → grown ≡ all
    taken-last ends before = pushed ∙ (ap (λ (es : List Entry). call ++ es) (sym (taken-is true ends)) ∙ before)

  pub behind-more : (all : List Entry) → false ≡ ends_call e.call e.reply → drop (call_length left) left ≡ all → drop (call_length next) next ≡ all
  behind-more all ends before = sym (behind-is false ends) ∙ before

  pub behind-last : (all : List Entry) → true ≡ ends_call e.call e.reply → drop (call_length left) left ≡ all → next ≡ all
  behind-last all ends before = sym (behind-is true ends) ∙ before

-- nothing is left of the entries: the call is done
pub taken-none : (left call all : List Entry) → left ≡ [] → call ++ take (call_length left) left ≡ all → call ≡ all
taken-none left call all none before = sym (append-nil call) ∙ (ap (λ (es : List Entry). call ++ es) (sym (ap (λ (es : List Entry). take (call_length es) es) none)) ∙ before)

pub behind-none : (left all : List Entry) → left ≡ [] → drop (call_length left) left ≡ all → left ≡ all
behind-none left all none before = none ∙ (sym (ap (λ (es : List Entry). drop (call_length es) es) none) ∙ before)

-- a call that ends in the front of what is left
pub call-in-front : (front behind : List Entry) (count : ℕ) → count ≤ length front → ((rest : List Entry) → count ≡ call_length (front ++ rest))
    → (take count front ≡ take (call_length (front ++ behind)) (front ++ behind)) × (drop count (front ++ behind) ≡ drop (call_length (front ++ behind)) (front ++ behind))
call-in-front front behind count le made = (
  sym (ap (λ n. take n (front ++ behind)) (sym (made behind)) ∙ take-append-le count front behind le),
  ap (λ n. drop n (front ++ behind)) (made behind),
)
