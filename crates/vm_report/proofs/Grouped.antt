-- Members by their process: the groups so far and the members still to come, one by one.
use Rattle.std.proofs.Common.{◌≡◌, ℕ, zero, suc, ◌<◌, ◌+◌, ◌==◌, List, [], ◌∷◌, ◌++◌, length, drop, map, replicate, get_or, refl, sym, ap, ◌∙◌, subst, cond, Bool, ◌≤◌, arith, ⊎_elim, append_assoc, append-nil}
use Rattle.std.specs.Prelude.{All, filter, slice_set, slice_index_or}
use Rattle.std.proofs.lemmas.Bool.{cases_Bool, eq-eqb, eqb-true, ne_eqb}
use Rattle.std.proofs.lemmas.List.{get_or-map, get_or-replicate, get_or-set_same, get_or-set_other, length-set, drop_more, map-set}
use Rattle.std.proofs.lemmas.List.Elements.{All-cons, All-nil, All-replicate, filter-append}
use Rattle.vm_script.specs.flat_model.Told.{entries_of}
use Rattle.vm_script.specs.vm_types.declared.call.Entry.{Entry}
use Rattle.vm_report.specs.Groups.{with_member}
use Rattle.vm_report.specs.Runs.{AreWithin, no_runs, runs_seen}
use Rattle.vm_report.specs.declared.runs.Run.{Run}
use Rattle.vm_report.proofs.Births.{differs}

pub member_length : {A : Type 0} (groups next : List (List A)) (p : ℕ) (x : A) → next ≡ with_member groups p x → length next ≡ length groups
member_length groups next p x is = ap (λ gs. length gs) is ∙ length-set groups p (slice_index_or groups p [] ++ x ∷ [])

member_more : {A : Type 0} (key : A → ℕ) (groups : List (List A)) (x : A) (rest : List A) (p : ℕ) → p < length groups
    → slice_index_or (with_member groups (key x) x) p [] ++ filter (λ y. key y == p) rest
    ≡ slice_index_or groups p [] ++ filter (λ y. key y == p) (x ∷ rest)
member_more key groups x rest p lt =
    let old = slice_index_or groups p [] in
    let more = filter (λ y. key y == p) rest in
    ⊎_elim
    (λ yes.
    ap (λ g. g ++ more)
    (subst (λ q. slice_index_or (slice_set groups q (slice_index_or groups q [] ++ x ∷ [])) p [] ≡ old ++ x ∷ []) (sym (eqb-true (key x) p yes))
    (get_or-set_same groups p (old ++ x ∷ []) [] lt))
    ∙ (append_assoc old (x ∷ []) more ∙ sym (ap (λ b. old ++ cond b (x ∷ more) more) yes)))
    (λ non.
    ap (λ g. g ++ more) (get_or-set_other groups (key x) p (slice_index_or groups (key x) [] ++ x ∷ []) [] (differs (key x) p non))
    ∙ sym (ap (λ b. old ++ cond b (x ∷ more) more) non))
    (cases_Bool (key x == p))

pub member_on : {A : Type 0} (key : A → ℕ) (groups next : List (List A)) (xs all : List A) (i : ℕ) (x : A) (p : ℕ)
    → i < length xs → x ≡ get_or xs i x → next ≡ with_member groups (key x) x → p < length groups
    → slice_index_or groups p [] ++ filter (λ y. key y == p) (drop i xs) ≡ all
    → slice_index_or next p [] ++ filter (λ y. key y == p) (drop (i + 1) xs) ≡ all
member_on key groups next xs all i x p at is more lt before =
    ap (λ gs. slice_index_or gs p [] ++ filter (λ y. key y == p) (drop (i + 1) xs)) more
    ∙ (member_more key groups x (drop (i + 1) xs) p lt
    ∙ (ap (λ ys. slice_index_or groups p [] ++ filter (λ y. key y == p) ys) (ap (λ y. y ∷ drop (i + 1) xs) is ∙ sym (drop_more xs i x at)) ∙ before))

-- an entry's number comes into the runs of its process
pub entry-added : (H : List Entry) (groups : List (List Run)) (p : ℕ) (old new : List Run) (e : Entry) → p < length groups → old ≡ get_or groups p old → runs_seen H new ≡ runs_seen H old ++ e ∷ []
    → map (runs_seen H) (slice_set groups p new) ≡ with_member (map (runs_seen H) groups) p e
entry-added H groups p old new e lt at more =
    map-set (runs_seen H) groups p new
    ∙ ap (λ (es : List Entry). slice_set (map (runs_seen H) groups) p es) (more ∙ ap (λ (es : List Entry). es ++ e ∷ []) (ap (runs_seen H) at ∙ sym (get_or-map (runs_seen H) groups p old [] lt)))

-- no process has entries yet
pub runs-none : (H : List Entry) (n : ℕ) → map (runs_seen H) (replicate n no_runs) ≡ replicate n []
runs-none H zero = refl
runs-none H (suc n) = ap (λ (gs : List (List Entry)). [] ∷ gs) (runs-none H n)

pub none_yet : (H : List Entry) (n p : ℕ) (groups : List (List Run)) → groups ≡ replicate n no_runs → p < n → slice_index_or (map (runs_seen H) groups) p [] ≡ []
none_yet H n p groups is lt =
    ap (λ (gs : List (List Run)). slice_index_or (map (runs_seen H) gs) p []) is
    ∙ (ap (λ (gs : List (List Entry)). slice_index_or gs p []) (runs-none H n) ∙ get_or-replicate n p [] [] lt)

pub none_within : (size n : ℕ) (groups : List (List Run)) → groups ≡ replicate n no_runs → All (AreWithin size) groups
none_within size n groups is =
    subst (All (AreWithin size)) (sym is)
    (All-replicate (AreWithin size) n no_runs
    (All-cons (λ (r : Run). r.first + r.count ≤ size) (record { first = 0; count = 0 }) [] (omega arith) (All-nil (λ (r : Run). r.first + r.count ≤ size))))

-- an entry that was looked at, whose it is
pub own_on : (H : List Entry) (p i : ℕ) (e : Entry) (before after all : List Entry) → i < length H → e ≡ get_or H i e → after ≡ before ++ entries_of (e ∷ []) p
    → before ++ entries_of (drop i H) p ≡ all → after ++ entries_of (drop (i + 1) H) p ≡ all
own_on H p i e before after all lt is more was =
    let rest = entries_of (drop (i + 1) H) p in
    let opened : entries_of (drop i H) p ≡ entries_of (e ∷ []) p ++ rest =
    ap (λ (es : List Entry). entries_of es p) (drop_more H i e lt ∙ ap (λ (x : Entry). x ∷ drop (i + 1) H) (sym is)) ∙ filter-append (λ (x : Entry). x.process == p) (e ∷ []) (drop (i + 1) H) in
    ap (λ (es : List Entry). es ++ rest) more ∙ (append_assoc before (entries_of (e ∷ []) p) rest ∙ (ap (λ (es : List Entry). before ++ es) (sym opened) ∙ was))

-- an entry's process is p, or another
pub own_yes : (e : Entry) (p : ℕ) (before after : List Entry) → e.process ≡ p → after ≡ before ++ e ∷ [] → after ≡ before ++ entries_of (e ∷ []) p
own_yes e p before after own is = is ∙ ap (λ (b : Bool). before ++ cond b (e ∷ []) []) (sym (eq-eqb e.process p own))

pub own_no : (e : Entry) (p : ℕ) (before : List Entry) → (e.process ≡ p → ⊥) → before ≡ before ++ entries_of (e ∷ []) p
own_no e p before other = sym (append-nil before) ∙ ap (λ (b : Bool). before ++ cond b (e ∷ []) []) (sym (ne_eqb e.process p other))
