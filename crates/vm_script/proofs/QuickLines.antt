-- A line whose fields stand one space apart is read as it is by its fields.
use Rattle.std.proofs.Common.{◌≡◌, ℕ, ◌≤◌, ◌<◌, ◌^◌, ◌+◌, ◌*◌, ◌==◌, Bool, true, false, not, ◌&&◌, List, [], ◌∷◌, ◌++◌, length, take, drop}
use Rattle.std.proofs.Common.{slice_index_or, Some, None, Ok, refl, sym, ap, ap₂, ◌∙◌, subst, append_assoc, arith, rules, tests, ⊎_elim}
use Rattle.std.proofs.Common.{length-append}
use Rattle.std.specs.Prelude.{codes, nat_le, nat_lt, if◌then◌else◌}
use Rattle.std.specs.List.{list_all}
use Rattle.std.proofs.lemmas.Bool.Decides.{nat_tests}
use Rattle.std.proofs.lemmas.List.{length-take-le, take-append-drop}
use Rattle.std.proofs.lemmas.List.Folds.{list_all_more}
use Rattle.std.proofs.lemmas.List.Sums.{fold_more}
use Rattle.flat_model.specs.vm_types.declared.call.Call.{Call}
use Rattle.flat_model.specs.vm_types.declared.call.Call.TheVariants as call
use Rattle.flat_model.specs.vm_types.Words.{IsWordSize}
use Rattle.vm_script.specs.declared.plan.PlanAct.TheVariants as act
use Rattle.vm_script.specs.declared.statement.Statement.TheVariants as says
use Rattle.vm_script.specs.declared.statement.LineSpot.{LineSpot}
use Rattle.vm_script.specs.Lines.{is_graphic, is_plain, isnt_empty, fields, lines}
use Rattle.vm_script.specs.Fields.{is_digit, is_hex_digit, digit_value, value_of_digits, digits_at, number_of_field}
use Rattle.vm_script.specs.Statements.{statement, word_statement, load_line, store_line, size}
use Rattle.vm_script.specs.Printed.{line_of_fields}
use Rattle.vm_script.specs.Plans.{OpenPlan, with_line, with_statement, spot_of, plan_from}
use Rattle.vm_script.specs.Quick.{none, more, BeginsWithDigits, BeginsWithNumber, BeginsWithCall}
use Rattle.vm_script.specs.ReadLines.{ReadsLine}
use Rattle.vm_script.proofs.Printing.{all_implies, no_prefix, fields_joined, plain_joined, lines_joined}

isnt_empty_number : (word : List ℕ) (n : ℕ) → number_of_field word ≡ Some n → isnt_empty word ≡ true
unfolding number_of_field digits_at
isnt_empty_number [] n is = absurd (cc is)
isnt_empty_number (b ∷ word) n is = refl

-- digits of a value below 2^32
pub digits_are : (base most n : ℕ) (p : ℕ → Bool) (ds : List ℕ) → 1 ≤ length ds → length ds ≤ most → list_all p ds ≡ true → n ≡ value_of_digits base ds → n < 2 ^ 32 → digits_at base most p ds ≡ Some n
unfolding digits_at
digits_are base most n p ds some few right value small = rw (right, sym value) (tests_of (length ds) some few)
  where
    tests_of : (k : ℕ) → 1 ≤ k → k ≤ most → (if nat_le 1 k && nat_le k most && true && nat_lt n (2 ^ 32) then Some n else None) ≡ Some n
    tests_of k low high = grind (rules, tests, arith, nat_tests, low, high, small)

-- one digit more
pub value_more : (base : ℕ) (text : List ℕ) (i v : ℕ) → i < length text → v ≡ value_of_digits base (take i text)
    → base * v + digit_value (slice_index_or text i 0) ≡ value_of_digits base (take (i + 1) text)
value_more base text i v lt is = ap (λ a. base * a + digit_value (slice_index_or text i 0)) is ∙ sym (fold_more (λ a b. base * a + digit_value b) 0 text i 0 lt)

pub right_more : (p : ℕ → Bool) (text : List ℕ) (i : ℕ) → i < length text → list_all p (take i text) ≡ true → p (slice_index_or text i 0) ≡ true → list_all p (take (i + 1) text) ≡ true
right_more p text i lt all one = list_all_more p text i 0 lt ∙ rw (all, one) refl

-- the digits in front of a text
pub digits_begin : (base most n i : ℕ) (p : ℕ → Bool) (text rest : List ℕ) → 1 ≤ i → i ≤ most → i ≤ length text
    → list_all p (take i text) ≡ true → n ≡ value_of_digits base (take i text) → n < 2 ^ 32 → rest ≡ drop i text
    → BeginsWithDigits base most p text n rest
digits_begin base most n i p text rest some few within right value small is =
    let count : length (take i text) ≡ i = length-take-le i text within in
    record {
      digits = take i text;
      is = sym (ap (λ r. take i text ++ r) is ∙ take-append-drop i text);
      right = right;
      number = digits_are base most n p (take i text) (omega (arith, count, some)) (omega (arith, count, few)) right value small;
    }

pub decimal_begins : (text rest : List ℕ) (n : ℕ) → BeginsWithDigits 10 10 is_digit text n rest → BeginsWithNumber text n rest
unfolding number_of_field
decimal_begins text rest n d = record {
  word = d.digits;
  is = d.is;
  graphic = all_implies is_digit is_graphic (λ b is. grind (rules, tests, arith, nat_tests, is)) d.digits d.right;
  some = isnt_empty_number d.digits n number;
  number = number;
}
  where
    number : number_of_field d.digits ≡ Some n
    number = rw (no_prefix d.digits d.right) d.number

pub hexadecimal_begins : (text digits rest : List ℕ) (n : ℕ) → text ≡ codes "0x" ++ digits → BeginsWithDigits 16 8 is_hex_digit digits n rest → BeginsWithNumber text n rest
unfolding number_of_field
hexadecimal_begins text digits rest n is d = record {
  word = 48 ∷ 120 ∷ d.digits;
  is = is ∙ ap (λ t. 48 ∷ 120 ∷ t) d.is;
  graphic = all_implies is_hex_digit is_graphic (λ b is. grind (rules, tests, arith, nat_tests, is)) d.digits d.right;
  some = refl;
  number = number;
}
  where
    number : number_of_field (48 ∷ 120 ∷ d.digits) ≡ Some n
    number = d.number

-- the digits 1, 2 and 4, which begin a size
abbrev pub IsSizeDigit : ℕ → ℕ → Type 0
IsSizeDigit b n = (b ≡ 48 + n) × IsWordSize n

digit_number : (b n : ℕ) → IsSizeDigit b n → (number_of_field (b ∷ []) ≡ Some n) × (is_graphic b ≡ true)
unfolding number_of_field digits_at
digit_number b n d = subst (λ a. (number_of_field (a ∷ []) ≡ Some n) × (is_graphic a ≡ true)) (sym d.0)
    (⊎_elim (λ e. subst (λ m. (number_of_field ((48 + m) ∷ []) ≡ Some m) × (is_graphic (48 + m) ≡ true)) (sym e) (refl, refl))
    (λ h. ⊎_elim
    (λ e. subst (λ m. (number_of_field ((48 + m) ∷ []) ≡ Some m) × (is_graphic (48 + m) ≡ true)) (sym e) (refl, refl))
    (λ e. subst (λ m. (number_of_field ((48 + m) ∷ []) ≡ Some m) × (is_graphic (48 + m) ≡ true)) (sym e) (refl, refl))
    h)
    d.1)

pub digit_begins : (text rest : List ℕ) (b n : ℕ) → text ≡ b ∷ rest → IsSizeDigit b n → BeginsWithNumber text n rest
digit_begins text rest b n is digit = record {
  word = b ∷ [];
  is = is;
  graphic = ap (λ t. t && true) (digit_number b n digit).1;
  some = refl;
  number = (digit_number b n digit).0;
}

size_of : (w : List ℕ) (n : ℕ) → number_of_field w ≡ Some n → IsWordSize n → size w ≡ Ok n
unfolding size
size_of w n is sized = ⊎_elim (λ e. at n 1 e is) (λ h. ⊎_elim (λ e. at2 n e is) (λ e. at4 n e is) h) sized
  where
    at : (n k : ℕ) → n ≡ 1 → number_of_field w ≡ Some n → size w ≡ Ok n
    at n k e is = subst (λ m. number_of_field w ≡ Some m → size w ≡ Ok m) (sym e) (λ h. rw h refl) is

    at2 : (n : ℕ) → n ≡ 2 → number_of_field w ≡ Some n → size w ≡ Ok n
    at2 n e is = subst (λ m. number_of_field w ≡ Some m → size w ≡ Ok m) (sym e) (λ h. rw h refl) is

    at4 : (n : ℕ) → n ≡ 4 → number_of_field w ≡ Some n → size w ≡ Ok n
    at4 n e is = subst (λ m. number_of_field w ≡ Some m → size w ≡ Ok m) (sym e) (λ h. rw h refl) is

load_said : (spot : LineSpot) (a s : List ℕ) (addr n : ℕ) → spot.inside ≡ true → number_of_field a ≡ Some addr → number_of_field s ≡ Some n → IsWordSize n
    → statement spot true (codes "load" ∷ a ∷ s ∷ []) ≡ Ok (says.Own (act.Call (call.Load addr n)))
unfolding statement word_statement load_line
load_said spot a s addr n inside h k sized = rw (inside, h, size_of s n k sized) refl

store_said : (spot : LineSpot) (a s v : List ℕ) (addr n value : ℕ) → spot.inside ≡ true → number_of_field a ≡ Some addr
    → number_of_field s ≡ Some n → IsWordSize n → number_of_field v ≡ Some value → nat_lt value (2 ^ (8 * n)) ≡ true
    → statement spot true (codes "store" ∷ a ∷ s ∷ v ∷ []) ≡ Ok (says.Own (act.Call (call.Store addr n value)))
unfolding statement word_statement store_line
store_said spot a s v addr n value inside h k sized l fits = rw (inside, h, size_of s n k sized, l, fits) refl

-- two fields behind a word and one space each, up to the line feed
pub load_begins : (text args r1 r2 r3 rest : List ℕ) (addr n : ℕ) → text ≡ codes "load " ++ args → BeginsWithNumber args addr r1
    → r1 ≡ 32 ∷ r2 → BeginsWithNumber r2 n r3 → IsWordSize n → r3 ≡ 10 ∷ rest
    → BeginsWithCall text (call.Load addr n) rest
load_begins text args r1 r2 r3 rest addr n is a e1 s sized e3 = record {
  fs = codes "load" ∷ a.word ∷ s.word ∷ [];
  is = is ∙ ap (λ t. codes "load " ++ t) (a.is ∙ (ap (λ t. a.word ++ t) (e1 ∙ ap (λ t. 32 ∷ t) (s.is ∙ ap (λ t. s.word ++ t) e3)) ∙ sym (append_assoc a.word (32 ∷ s.word) (10 ∷ rest))));
  words = more refl refl (more a.graphic a.some (more s.graphic s.some none));
  makes = λ spot inside. load_said spot a.word s.word addr n inside a.number s.number sized;
}

pub store_begins : (text args r1 r2 r3 r4 r5 rest : List ℕ) (addr n value : ℕ) → text ≡ codes "store " ++ args
    → BeginsWithNumber args addr r1 → r1 ≡ 32 ∷ r2 → BeginsWithNumber r2 n r3 → IsWordSize n → r3 ≡ 32 ∷ r4 → BeginsWithNumber r4 value r5
    → r5 ≡ 10 ∷ rest
    → nat_lt value (2 ^ (8 * n)) ≡ true → BeginsWithCall text (call.Store addr n value) rest
store_begins text args r1 r2 r3 r4 r5 rest addr n value is a e1 s sized e3 v e5 fits = record {
  fs = codes "store" ∷ a.word ∷ s.word ∷ v.word ∷ [];
  is =
      let tail : r4 ≡ v.word ++ 10 ∷ rest = v.is ∙ ap (λ t. v.word ++ t) e5 in
      let middle : r2 ≡ (s.word ++ 32 ∷ v.word) ++ 10 ∷ rest = s.is ∙ (ap (λ t. s.word ++ t) (e3 ∙ ap (λ t. 32 ∷ t) tail) ∙ sym (append_assoc s.word (32 ∷ v.word) (10 ∷ rest))) in
      is ∙ ap (λ t. codes "store " ++ t) (a.is ∙ (ap (λ t. a.word ++ t) (e1 ∙ ap (λ t. 32 ∷ t) middle) ∙ sym (append_assoc a.word (32 ∷ (s.word ++ 32 ∷ v.word)) (10 ∷ rest))));
  words = more refl refl (more a.graphic a.some (more s.graphic s.some (more v.graphic v.some none)));
  makes = λ spot inside. store_said spot a.word s.word v.word addr n value inside a.number s.number sized v.number fits;
}

-- the line in front is read as its call
pub quick_line : (n : ℕ) (g : OpenPlan) (text rest : List ℕ) (c : Call) → (g.inside == 0) ≡ false → BeginsWithCall text c rest
    → plan_from n g (lines text) ≡ plan_from (n + 1) (with_statement g (n + 1) (says.Own (act.Call c))) (lines rest)
quick_line n g text rest c inside b =
    ap (λ t. plan_from n g (lines t)) b.is
    ∙ (ap (plan_from n g) (lines_joined (line_of_fields b.fs) rest (plain_joined b.fs b.words))
    ∙ rw (said, plan_from) refl)
  where
    said : statement (spot_of g) (list_all is_plain (line_of_fields b.fs)) (fields (line_of_fields b.fs)) ≡ Ok (says.Own (act.Call c))
    said = ap₂ (λ p fs. statement (spot_of g) p fs) (plain_joined b.fs b.words) (fields_joined b.fs b.words) ∙ b.makes (spot_of g) (ap not inside)

-- the plan has grown by the call of the line in front
pub reads_quick : (n : ℕ) (g h : OpenPlan) (text rest : List ℕ) (c : Call) → (g.inside == 0) ≡ false → BeginsWithCall text c rest → h ≡ with_line g (n + 1) (act.Call c) → ReadsLine n g h text rest
reads_quick n g h text rest c inside b grew = record {
  plan = quick_line n g text rest c inside b ∙ ap (λ (k : OpenPlan). plan_from (n + 1) k (lines rest)) (sym grew);
  shorter = omega (arith, ap length b.is, length-append (line_of_fields b.fs) (10 ∷ rest));
  few = omega (arith, ap (λ (k : OpenPlan). length k.parents) grew);
}
