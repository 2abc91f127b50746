-- Extents that are read one by one.
use Rattle.std.proofs.Common.{◌≡◌, ℕ, ◌≤◌, ◌<◌, ◌-◌, List, [], ◌∷◌, ◌++◌, length, map, take, drop, get_or, Option, Some, None, refl, sym, ap, ◌∙◌, append_assoc, append-nil, arith}
use Rattle.std.specs.List.{slice_split}
use Rattle.std.proofs.lemmas.List.{take_all}
use Rattle.trace_text.specs.EntryReading.{◌>>=◌}
use Rattle.trace_text.specs.OpeningReading.{is_comma, extent_in, extents_of_parts, extents_in}

-- those that were read, and behind them those of the parts that are left
pub with_read : List (ℕ × ℕ) → Option (List (ℕ × ℕ)) → Option (List (ℕ × ℕ))
with_read done more = more >>= λ xs. Some (done ++ xs)

pub nothing_read : (more : Option (List (ℕ × ℕ))) → with_read [] more ≡ more
unfolding with_read
nothing_read None = refl
nothing_read (Some xs) = refl

one_read : (done : List (ℕ × ℕ)) (x : ℕ × ℕ) (more : Option (List (ℕ × ℕ)))
    → with_read done (more >>= λ xs. Some (x ∷ xs)) ≡ with_read (done ++ x ∷ []) more
unfolding with_read
one_read done x None = refl
one_read done x (Some xs) = ap Some (sym (append_assoc done (x ∷ []) xs))

pub next_read : (done : List (ℕ × ℕ)) (w : List ℕ) (ws : List (List ℕ)) (x : ℕ × ℕ) → extent_in w ≡ Some x
    → with_read (done ++ x ∷ []) (extents_of_parts ws) ≡ with_read done (extents_of_parts (w ∷ ws))
unfolding extents_of_parts
next_read done w ws x is = sym (ap (λ o. with_read done (o >>= λ y. extents_of_parts ws >>= λ xs. Some (y ∷ xs))) is ∙ one_read done x (extents_of_parts ws))

pub none_read : (done : List (ℕ × ℕ)) (w : List ℕ) (ws : List (List ℕ)) → extent_in w ≡ None → with_read done (extents_of_parts (w ∷ ws)) ≡ None
unfolding with_read extents_of_parts
none_read done w ws is = ap (λ o. (o >>= λ y. extents_of_parts ws >>= λ xs. Some (y ∷ xs)) >>= λ xs. Some (done ++ xs)) is

pub all_read : (done : List (ℕ × ℕ)) → with_read done (extents_of_parts []) ≡ Some done
unfolding with_read extents_of_parts
all_read done = ap Some (append-nil done)

pub none_extents : (w : List ℕ) → length w ≡ 0 → extents_in w ≡ Some []
unfolding extents_in
none_extents [] none = refl
none_extents (b ∷ w) none = absurd (omega (arith, none))

pub some_extents : (w : List ℕ) → 1 ≤ length w → extents_in w ≡ extents_of_parts (slice_split is_comma w)
unfolding extents_in
some_extents [] some = absurd (omega (arith, some))
some_extents (b ∷ w) some = refl

-- the next part, as a pattern takes it off
pub more_read : {A : Type 0} (v : A → List ℕ) (left : List A) (d : A) (done : List (ℕ × ℕ)) (x : ℕ × ℕ) (all : Option (List (ℕ × ℕ))) → 1 ≤ length left
    → extent_in (v (get_or left 0 d)) ≡ Some x → with_read done (extents_of_parts (map v left)) ≡ all
    → with_read (done ++ x ∷ []) (extents_of_parts (map v (take (length left - 1) (drop 1 left)))) ≡ all
more_read v [] d done x all some is so_far = absurd (omega (arith, some))
more_read v (a ∷ rest) d done x all some is so_far =
    let behind = take_all (length (a ∷ rest) - 1) rest (omega arith) in
    ap (λ ws. with_read (done ++ x ∷ []) (extents_of_parts (map v ws))) behind ∙ (next_read done (v a) (map v rest) x is ∙ so_far)

pub read_all : {A : Type 0} (v : A → List ℕ) (left : List A) (done : List (ℕ × ℕ)) (all : Option (List (ℕ × ℕ))) → length left < 1
    → with_read done (extents_of_parts (map v left)) ≡ all → Some done ≡ all
read_all v [] done all none so_far = sym (all_read done) ∙ so_far
read_all v (a ∷ left) done all none so_far = absurd (omega (arith, none))
