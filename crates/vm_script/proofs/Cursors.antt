-- A line's fields, one by one.
use Rattle.std.proofs.Common.{◌≡◌, ℕ, ◌+◌, ◌==◌, Bool, true, false, ◌&&◌, List, [], ◌∷◌, ◌++◌, length, take, drop, refl, sym, ap, ◌∙◌, arith, rules, tests}
use Rattle.std.proofs.Common.{not, nat_eq, slice_index_or, zero, suc, ap₂, append_assoc}
use Rattle.std.specs.Prelude.{◌≤◌, ◌<◌, filter}
use Rattle.std.specs.List.{list_all, slice_split}
use Rattle.std.proofs.lemmas.Bool.{false≢true, not-true}
use Rattle.vm_script.specs.Lines.{is_graphic, is_space, is_plain, isnt_empty, fields}
use Rattle.vm_script.specs.Cursor.{ends_field, first_line, after_line, after_spaces, after_graphic, field_of, after_field}

pub after_both : (xs : List ℕ) → after_field (after_graphic xs) ≡ after_field xs
after_both [] = refl
after_both (b ∷ xs) = let ih = after_both xs in grind (rules, tests, arith, ih)

-- a row of graphic bytes in front is passed
pub graphic_row : (n : ℕ) (xs : List ℕ) → list_all is_graphic (take n xs) ≡ true → after_graphic (drop n xs) ≡ after_graphic xs
graphic_row zero xs all = refl
graphic_row (suc n) [] all = refl
graphic_row (suc n) (b ∷ xs) all = let ih = graphic_row n xs in grind (rules, tests, arith, ih, all)

pub length_field : (xs : List ℕ) → length (field_of xs) + length (after_field xs) ≡ length xs
length_field [] = refl
length_field (b ∷ xs) = let ih = length_field xs in grind (rules, tests, arith, ih)

pub take_field : (xs : List ℕ) → take (length (field_of xs)) xs ≡ field_of xs
take_field [] = refl
take_field (b ∷ xs) = let ih = take_field xs in grind (rules, tests, arith, ih)

pub after_le : (xs : List ℕ) → length (after_field xs) ≤ length xs
after_le xs = let h = length_field xs in omega (arith, h)

pub length_graphic : (xs : List ℕ) → length (after_field xs) ≤ length (after_graphic xs)
length_graphic [] = omega arith
length_graphic (b ∷ xs) = let ih = length_graphic xs in let le = after_le xs in grind (rules, tests, arith, ih, le)

pub graphic_field : (xs : List ℕ) → (length (after_graphic xs) == length (after_field xs)) ≡ list_all is_graphic (field_of xs)
graphic_field [] = refl
graphic_field (b ∷ xs) = let ih = graphic_field xs in let le = after_le xs in grind (rules, tests, arith, ih, le)

pub line_spaces : (xs : List ℕ) → after_line (after_spaces xs) ≡ after_line xs
line_spaces [] = refl
line_spaces (b ∷ xs) = let ih = line_spaces xs in grind (rules, tests, arith, ih)

pub line_field : (xs : List ℕ) → after_line (after_field xs) ≡ after_line xs
line_field [] = refl
line_field (b ∷ xs) = let ih = line_field xs in grind (rules, tests, arith, ih)

pub spaces_twice : (xs : List ℕ) → after_spaces (after_spaces xs) ≡ after_spaces xs
spaces_twice [] = refl
spaces_twice (b ∷ xs) = let ih = spaces_twice xs in grind (rules, tests, arith, ih)

pub spaces_le : (xs : List ℕ) → length (after_spaces xs) ≤ length xs
spaces_le [] = omega arith
spaces_le (b ∷ xs) = let ih = spaces_le xs in grind (rules, tests, arith, ih)

pub plain_spaces : (xs : List ℕ) → list_all is_plain (first_line (after_spaces xs)) ≡ list_all is_plain (first_line xs)
plain_spaces [] = refl
plain_spaces (b ∷ xs) = let ih = plain_spaces xs in grind (rules, tests, arith, ih)

pub plain_line : (xs : List ℕ) → list_all is_plain (first_line xs) ≡ (list_all is_graphic (field_of xs) && list_all is_plain (first_line (after_field xs)))
plain_line [] = refl
plain_line (b ∷ xs) = let ih = plain_line xs in grind (rules, tests, arith, ih)

-- a text that begins with a field goes on shorter behind it
pub shorter : (b : ℕ) (xs : List ℕ) → ends_field b ≡ false → length (after_spaces (after_field (b ∷ xs))) < length (b ∷ xs)
shorter b xs ends = let le = after_le xs in let more = spaces_le (after_field xs) in grind (rules, tests, arith, ends, le, more)

pub fields_spaces : (xs : List ℕ) → fields (first_line (after_spaces xs)) ≡ fields (first_line xs)
fields_spaces [] = refl
fields_spaces (b ∷ xs) = let ih = fields_spaces xs in grind (rules, tests, arith, ih)

-- the pieces of a line behind its first
abbrev pub more_pieces : List ℕ → List (List ℕ)
more_pieces [] = []
more_pieces (b ∷ line) = slice_split is_space line

pub split_front : (xs : List ℕ) → slice_split is_space (first_line xs) ≡ field_of xs ∷ more_pieces (first_line (after_field xs))
split_front [] = refl
split_front (b ∷ xs) = let ih = split_front xs in grind (rules, tests, arith, ih)

pub behind_field : (xs : List ℕ) → filter isnt_empty (more_pieces (first_line (after_field xs))) ≡ fields (first_line (after_field xs))
behind_field [] = refl
behind_field (b ∷ xs) = let ih = behind_field xs in grind (rules, tests, arith, ih)

pub one_field : (b : ℕ) (xs : List ℕ) → ends_field b ≡ false → fields (first_line (b ∷ xs)) ≡ field_of (b ∷ xs) ∷ fields (first_line (after_field (b ∷ xs)))
one_field b xs ends = ap (filter isnt_empty) (split_front (b ∷ xs)) ∙ (begins ∙ ap (λ fs. field_of (b ∷ xs) ∷ fs) (behind_field (b ∷ xs)))
  where
    begins : filter isnt_empty (field_of (b ∷ xs) ∷ more_pieces (first_line (after_field (b ∷ xs)))) ≡ field_of (b ∷ xs) ∷ filter isnt_empty (more_pieces (first_line (after_field (b ∷ xs))))
    begins = rw ends refl

abbrev pub starts_field : List ℕ → Bool
starts_field [] = false
starts_field (b ∷ xs) = not (ends_field b)

pub starts : (xs : List ℕ) (b : ℕ) → 1 ≤ length xs → after_spaces xs ≡ xs → b ≡ slice_index_or xs 0 0 → nat_eq b 10 ≡ false → starts_field xs ≡ true
starts [] b some skipped is feed = absurd (omega (arith, some))
starts (a ∷ xs) b some skipped is feed = let le = spaces_le xs in let lens = ap length skipped in grind (rules, tests, arith, le, lens, is, feed)

pub fields_next : (xs : List ℕ) → starts_field xs ≡ true → fields (first_line xs) ≡ field_of xs ∷ fields (first_line (after_field xs))
fields_next [] h = absurd (false≢true h)
fields_next (b ∷ xs) h = one_field b xs (not-true (ends_field b) h)

pub shorter_next : (xs : List ℕ) → starts_field xs ≡ true → length (after_spaces (after_field xs)) < length xs
shorter_next [] h = absurd (false≢true h)
shorter_next (b ∷ xs) h = shorter b xs (not-true (ends_field b) h)

-- where the first n are kept of a front, the first n of the whole stay
pub take_front : {A : Type 0} (n : ℕ) (xs ys : List A) → take n (take n xs ++ ys) ≡ take n (xs ++ ys)
take_front zero xs ys = refl
take_front (suc n) [] ys = refl
take_front (suc n) (x ∷ xs) ys = ap (λ zs. x ∷ zs) (take_front n xs ys)

pub full_front : {A : Type 0} (n : ℕ) (xs ys : List A) → n ≤ length xs → length xs ≤ n → xs ≡ take n (xs ++ ys)
full_front zero [] ys le ge = refl
full_front zero (x ∷ xs) ys le ge = absurd (omega (arith, ge))
full_front (suc n) [] ys le ge = absurd (omega (arith, le))
full_front (suc n) (x ∷ xs) ys le ge = ap (λ zs. x ∷ zs) (full_front n xs ys (omega (arith, le)) (omega (arith, ge)))

-- one field more was read
pub fields_step : (items new : List (List ℕ)) (word xs ys : List ℕ) (all : List (List ℕ)) → new ≡ take 8 (items ++ word ∷ [])
    → word ≡ field_of xs → starts_field xs ≡ true → ys ≡ after_spaces (after_field xs)
    → take 8 (items ++ fields (first_line xs)) ≡ all → take 8 (new ++ fields (first_line ys)) ≡ all
fields_step items new word xs ys all put is begins left before =
    let behind : fields (first_line ys) ≡ fields (first_line (after_field xs)) = ap (λ l. fields (first_line l)) left ∙ fields_spaces (after_field xs) in
    ap₂ (λ a b. take 8 (a ++ b)) put behind
    ∙ (take_front 8 (items ++ word ∷ []) (fields (first_line (after_field xs)))
    ∙ (ap (take 8) (append_assoc items (word ∷ []) (fields (first_line (after_field xs))))
    ∙ (ap (λ w. take 8 (items ++ w ∷ fields (first_line (after_field xs)))) is
    ∙ (ap (λ fs. take 8 (items ++ fs)) (sym (fields_next xs begins)) ∙ before))))

plain_moves : (p g r : Bool) → ((p && g) && r) ≡ (p && (g && r))
plain_moves true g r = refl
plain_moves false g r = refl

pub plain_step : (p g q : Bool) (xs ys : List ℕ) (all : Bool) → q ≡ (p && g) → g ≡ list_all is_graphic (field_of xs) → ys ≡ after_spaces (after_field xs)
    → (p && list_all is_plain (first_line xs)) ≡ all → (q && list_all is_plain (first_line ys)) ≡ all
plain_step p g q xs ys all both is left before =
    ap₂ (λ a b. a && b) both (ap (λ l. list_all is_plain (first_line l)) left ∙ plain_spaces (after_field xs))
    ∙ (plain_moves p g (list_all is_plain (first_line (after_field xs)))
    ∙ (ap (λ a. p && (a && list_all is_plain (first_line (after_field xs)))) is ∙ (ap (λ a. p && a) (sym (plain_line xs)) ∙ before)))
