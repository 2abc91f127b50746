-- The generated script, piece by piece.
use Rattle.vm_script.proofs.Nesting.{plus_one}
use Rattle.std.proofs.Common.{◌≡◌, ℕ, zero, suc, ◌≤◌, ◌<◌, ◌+◌, ◌*◌, ◌==◌, Bool, true, false, not, ◌&&◌, List, [], ◌∷◌, ◌++◌, length, map, refl, sym}
use Rattle.std.proofs.Common.{ap, ap₂, ◌∙◌, subst, append_assoc, append-nil, arith, rules, tests, lit<, inr, length-append, Ok}
use Rattle.std.specs.Prelude.{All, codes, decimal}
use Rattle.std.specs.List.{list_all, flat_map}
use Rattle.std.proofs.lemmas.Bool.{false≢true}
use Rattle.std.proofs.lemmas.Bool.Decides.{nat_tests}
use Rattle.std.proofs.lemmas.Fmt.{length-decimal-le}
use Rattle.std.proofs.lemmas.List.{map-append, length-map}
use Rattle.std.proofs.lemmas.List.Concat.{flat_map-append}
use Rattle.std.proofs.lemmas.List.Elements.{All-nil, All-cons, All-append, All-head, All-tail, All-weaker}
use Rattle.flat_model.specs.vm_types.declared.call.Call.TheVariants as call
use Rattle.flat_model.specs.vm_types.WellFormed.{IsNumber}
use Rattle.flat_model.specs.vm_types.Words.{IsByte}
use Rattle.vm_script.specs.declared.statement.Statement.{Statement}
use Rattle.vm_script.specs.declared.statement.Statement.TheVariants as says
use Rattle.vm_script.specs.Plans.{OpenPlan, empty_plan, plan_seen, plan_of, enclosing_block, with_statement}
use Rattle.vm_script.specs.Printed.{IsStatement, with_statements, StandRight, IsScript, line_of_fields, statement_fields, script_text}
use Rattle.vm_script.specs.Generated.{numbers_below, call_line, word_address, page_end, word_store, word_load, end_store, end_load, word_stores}
use Rattle.vm_script.specs.Generated.{word_loads, end_stores, end_loads, file_write, file_store, file_load, generated_setup, block_head, block_tail}
use Rattle.vm_script.specs.Generated.{child_block, generated_block, generated_script, generated_text}
use Rattle.vm_script.proofs.Scripts.{parsed}

pub numbers-more : (k : ℕ) → numbers_below (k + 1) ≡ numbers_below k ++ k ∷ []
unfolding numbers_below
numbers-more k = ap numbers_below (plus_one k)

length-numbers : (n : ℕ) → length (numbers_below n) ≡ n
unfolding numbers_below
length-numbers zero = refl
length-numbers (suc n) = let ih = length-numbers n in omega (arith, ih, length-append (numbers_below n) (n ∷ []))

pub count_of : (f : ℕ → Statement) (n : ℕ) → length (map f (numbers_below n)) ≡ n
count_of f n = length-map (numbers_below n) f ∙ length-numbers n

with-append : (g : OpenPlan) (n : ℕ) (xs ys : List Statement) → with_statements g n (xs ++ ys) ≡ with_statements (with_statements g n xs) (n + length xs) ys
with-append g n [] ys = ap (λ k. with_statements g k ys) (omega arith)
with-append g n (x ∷ xs) ys =
    with-append (with_statement g (n + 1) x) (n + 1) xs ys
    ∙ ap (λ k. with_statements (with_statements (with_statement g (n + 1) x) (n + 1) xs) k ys) (omega arith)

-- one piece behind another
pub joined : (g : OpenPlan) (n k : ℕ) (xs ys : List Statement) (g1 g2 : OpenPlan) → g1 ≡ with_statements g n xs → k ≡ n + length xs → g2 ≡ with_statements g1 k ys → g2 ≡ with_statements g n (xs ++ ys)
joined g n k xs ys g1 g2 first place second =
    second ∙ (ap₂ (λ (h : OpenPlan) (m : ℕ). with_statements h m ys) first place ∙ sym (with-append g n xs ys))

-- one line more of a loop
pub pushed : (g : OpenPlan) (n k : ℕ) (f : ℕ → Statement) (g1 g2 : OpenPlan) → g1 ≡ with_statements g n (map f (numbers_below k))
    → g2 ≡ with_statement g1 (n + k + 1) (f k) → g2 ≡ with_statements g n (map f (numbers_below (k + 1)))
pushed g n k f g1 g2 first second =
    joined g n (n + k) (map f (numbers_below k)) (f k ∷ []) g1 g2 first (let c = count_of f k in omega (arith, c)) second
    ∙ ap (with_statements g n) (sym (ap (map f) (numbers-more k) ∙ map-append f (numbers_below k) (k ∷ [])))

pub none_yet : (g : OpenPlan) (n : ℕ) (f : ℕ → Statement) → g ≡ with_statements g n (map f (numbers_below 0))
unfolding numbers_below
none_yet g n f = refl

-- where all is said of the numbers below m
all_map : (P : Statement → Type 0) (f : ℕ → Statement) (m : ℕ) → ((k : ℕ) → k < m → P (f k)) → All P (map f (numbers_below m))
unfolding numbers_below
all_map P f zero each = All-nil P
all_map P f (suc m) each = subst (All P) (sym (map-append f (numbers_below m) (m ∷ [])))
    (All-append P (map f (numbers_below m)) (f m ∷ []) (all_map P f m (λ k lt. each k (omega (arith, lt)))) (All-cons P (f m) [] (each m (omega arith)) (All-nil P)))

all_blocks : (P : Statement → Type 0) (f : ℕ → List Statement) (m : ℕ) → ((k : ℕ) → k < m → All P (f k)) → All P (flat_map f (numbers_below m))
unfolding numbers_below
all_blocks P f zero each = All-nil P
all_blocks P f (suc m) each = subst (All P) (sym (flat_map-append f (numbers_below m) (m ∷ [])))
    (All-append P (flat_map f (numbers_below m)) (flat_map f (m ∷ [])) (all_blocks P f m (λ k lt. each k (omega (arith, lt))))
    (All-append P (f m) [] (each m (omega arith)) (All-nil P)))

-- a statement that a line may say, short enough
record IsGood (s : Statement) : Type 0 where
  is : IsStatement s
  short : length (line_of_fields (statement_fields s)) ≤ 61

ten : (n : ℕ) → IsNumber n → length (decimal n) ≤ 10
ten n is = length-decimal-le 10 n (lit< tt) (omega (arith, is)) (omega (arith, is))

three : (x y z : List ℕ) → length (line_of_fields (x ∷ y ∷ z ∷ [])) ≡ length x + length y + length z + 2
three x y z = omega (arith, length-append x (32 ∷ (y ++ 32 ∷ z)), length-append y (32 ∷ z))

two : (x y : List ℕ) → length (line_of_fields (x ∷ y ∷ [])) ≡ length x + length y + 1
two x y = omega (arith, length-append x (32 ∷ y))

four : (w x y z : List ℕ) → length (line_of_fields (w ∷ x ∷ y ∷ z ∷ [])) ≡ length w + length x + length y + length z + 3
four w x y z = let t = three x y z in omega (arith, t, length-append w (32 ∷ line_of_fields (x ∷ y ∷ z ∷ [])))

five : (v w x y z : List ℕ) → length (line_of_fields (v ∷ w ∷ x ∷ y ∷ z ∷ [])) ≡ length v + length w + length x + length y + length z + 4
five v w x y z = let t = four w x y z in omega (arith, t, length-append v (32 ∷ line_of_fields (w ∷ x ∷ y ∷ z ∷ [])))

six : (u v w x y z : List ℕ) → length (line_of_fields (u ∷ v ∷ w ∷ x ∷ y ∷ z ∷ [])) ≡ length u + length v + length w + length x + length y + length z + 5
six u v w x y z = let t = five v w x y z in omega (arith, t, length-append u (32 ∷ line_of_fields (v ∷ w ∷ x ∷ y ∷ z ∷ [])))

seven : (t u v w x y z : List ℕ) → length (line_of_fields (t ∷ u ∷ v ∷ w ∷ x ∷ y ∷ z ∷ [])) ≡ length t + length u + length v + length w + length x + length y + length z + 6
seven t u v w x y z = let s = six u v w x y z in omega (arith, s, length-append t (32 ∷ line_of_fields (u ∷ v ∷ w ∷ x ∷ y ∷ z ∷ [])))

good_load : (a : ℕ) → IsNumber a → IsGood (call_line (call.Load a 4))
good_load a is = record {
  is = (is, inr (inr refl));
  short = let la = ten a is in let lb = ten 4 (lit< tt) in let t = three (codes "load") (decimal a) (decimal 4) in omega (arith, la, lb, t);
}

good_store : (a v : ℕ) → IsNumber a → IsNumber v → IsGood (call_line (call.Store a 4 v))
good_store a v is js = record {
  is = (is, inr (inr refl), js, js);
  short = let la = ten a is in let lb = ten 4 (lit< tt) in let lv = ten v js in let t = four (codes "store") (decimal a) (decimal 4) (decimal v) in omega (arith, la, lb, lv, t);
}

-- the same of a list written out
abbrev AllGood : List Statement → Type 0
AllGood [] = Unit {0}
AllGood (s ∷ ss) = IsGood s × AllGood ss

all_good : (ss : List Statement) → AllGood ss → All IsGood ss
all_good [] g = All-nil IsGood
all_good (s ∷ ss) g = All-cons IsGood s ss g.0 (all_good ss g.1)

good_setup : All IsGood generated_setup
good_setup =
    all_good generated_setup (
      (record { is = lit< tt; short = let a = ten 24 (lit< tt) in let t = two (codes "frames") (decimal 24) in omega (arith, a, t) }),
      (
        (record { is = lit< tt; short = let a = ten 512 (lit< tt) in let t = two (codes "swap") (decimal 512) in omega (arith, a, t) }),
        (
          (record { is = lit< tt; short = let a = ten 64 (lit< tt) in let t = two (codes "translations") (decimal 64) in omega (arith, a, t) }),
          (
            (record {
              is = (lit< tt, lit< tt);
              short = let a = ten 0 (lit< tt) in let b = ten 16 (lit< tt) in
                  let t = four (codes "disk") (decimal 0) (codes "blank") (decimal 16) in omega (arith, a, b, t);
            }),
            (
              (record {
                is = (refl, lit< tt, lit< tt, omega arith, All-nil IsByte);
                short = let a = ten 0 (lit< tt) in let b = ten 8 (lit< tt) in
                    let t = six (codes "file") (codes "f") (codes "rw") (decimal 0) (decimal 8) (codes "-") in omega (arith, a, b, t);
              }),
              tt,
            ),
          ),
        ),
      ),
    )

good_head : All IsGood block_head
good_head =
    all_good block_head (
      (record { is = tt; short = omega arith }),
      (
        (record {
          is = (lit< tt, lit< tt, lit< tt, lit< tt);
          short = let a = ten 1048576 (lit< tt) in let b = ten 131072 (lit< tt) in let d = ten 0 (lit< tt) in
              let t = seven (codes "map") (decimal 1048576) (decimal 131072) (codes "rw") (codes "private") (codes "zero") (decimal 0) in
              omega (arith, a, b, d, t);
        }),
        (
          (record {
            is = (refl, (lit< tt, lit< tt, lit< tt, refl, lit< tt));
            short = let a = ten 4194304 (lit< tt) in let b = ten 32768 (lit< tt) in let d = ten 0 (lit< tt) in
                let t = seven (codes "map") (decimal 4194304) (decimal 32768) (codes "rw") (codes "shared") (codes "f") (decimal 0) in
                omega (arith, a, b, d, t);
          }),
          tt,
        ),
      ),
    )

good_tail : (n i : ℕ) → IsNumber n → i < 8 → All IsGood (block_tail n i)
good_tail n i is lt =
    all_good (block_tail n i) (
      (record {
        is = (refl, refl, omega (arith, lt), (omega arith, omega arith, All-cons IsByte 0 [] (lit< tt) (All-nil IsByte)));
        short = let a = ten (4096 * i + 4095) (omega (arith, lt)) in
            let t = four (codes "write") (codes "f") (decimal (4096 * i + 4095)) (48 ∷ 48 ∷ []) in omega (arith, a, t);
      }),
      (
        (good_store (4194304 + 4096 * i) n (omega (arith, lt)) is),
        (
          (good_load (4194304 + 4096 * i) (omega (arith, lt))),
          (
            (record { is = tt; short = omega arith }),
            tt,
          ),
        ),
      ),
    )

word_number : (n k : ℕ) → k < 1000 → IsNumber (word_address n k)
word_number n k lt = omega (arith, lt)

good_child : All IsGood child_block
good_child =
    All-append IsGood (says.Fork ∷ [] ++ end_stores 32 ++ end_loads 32) (says.End ∷ [])
    (All-append IsGood (says.Fork ∷ [] ++ end_stores 32) (end_loads 32)
    (All-append IsGood (says.Fork ∷ []) (end_stores 32) (All-cons IsGood says.Fork [] (record { is = tt; short = omega arith }) (All-nil IsGood))
    (all_map IsGood end_store 32 (λ j lt. good_store (page_end j) 1 (omega (arith, lt)) (lit< tt))))
    (all_map IsGood end_load 32 (λ j lt. good_load (page_end j) (omega (arith, lt)))))
    (All-cons IsGood says.End [] (record { is = tt; short = omega arith }) (All-nil IsGood))

good_block : (n i : ℕ) → IsNumber n → i < 8 → All IsGood (generated_block n i)
good_block n i is lt =
    All-append IsGood (block_head ++ word_stores n i 1000 ++ child_block ++ word_loads n 1000 ++ end_loads 32) (block_tail n i)
    (All-append IsGood (block_head ++ word_stores n i 1000 ++ child_block ++ word_loads n 1000) (end_loads 32)
    (All-append IsGood (block_head ++ word_stores n i 1000 ++ child_block) (word_loads n 1000)
    (All-append IsGood (block_head ++ word_stores n i 1000) child_block
    (All-append IsGood block_head (word_stores n i 1000) good_head
    (all_map IsGood (word_store n i) 1000 (λ k low. good_store (word_address n k) (k + i) (word_number n k low) (omega (arith, low, lt)))))
    good_child)
    (all_map IsGood (word_load n) 1000 (λ k low. good_load (word_address n k) (word_number n k low))))
    (all_map IsGood end_load 32 (λ j low. good_load (page_end j) (omega (arith, low)))))
    (good_tail n i is lt)

good : (n : ℕ) → IsNumber n → All IsGood (generated_script n)
good n is = All-append IsGood generated_setup (flat_map (generated_block n) (numbers_below 8)) good_setup (all_blocks IsGood (generated_block n) 8 (λ i lt. good_block n i is lt))

-- its text is short
text_short : (ss : List Statement) → All IsGood ss → length (script_text ss) ≤ 62 * length ss
text_short [] all = omega arith
text_short (s ∷ ss) all =
    let line = line_of_fields (statement_fields s) in
    let one = (All-head IsGood s ss all).short in
    let more = text_short ss (All-tail IsGood s ss all) in
    omega (arith, one, more, length-append (line ++ 10 ∷ []) (script_text ss), length-append line (10 ∷ []))

stores_count : (n i : ℕ) → length (word_stores n i 1000) ≡ 1000
stores_count n i = count_of (word_store n i) 1000

loads_count : (n : ℕ) → length (word_loads n 1000) ≡ 1000
loads_count n = count_of (word_load n) 1000

ends_count : length (end_loads 32) ≡ 32
ends_count = count_of end_load 32

end_stores_count : length (end_stores 32) ≡ 32
end_stores_count = count_of end_store 32

pub child_count : length child_block ≡ 66
child_count =
    omega (
      arith,
      length-append (says.Fork ∷ [] ++ end_stores 32 ++ end_loads 32) (says.End ∷ []),
      length-append (says.Fork ∷ [] ++ end_stores 32) (end_loads 32),
      length-append (says.Fork ∷ []) (end_stores 32),
      ends_count,
      end_stores_count,
    )

pub block_count : (n i : ℕ) → length (generated_block n i) ≡ 2105
block_count n i =
    let a = length-append (block_head ++ word_stores n i 1000 ++ child_block ++ word_loads n 1000 ++ end_loads 32) (block_tail n i) in
    let b = length-append (block_head ++ word_stores n i 1000 ++ child_block ++ word_loads n 1000) (end_loads 32) in
    let c = length-append (block_head ++ word_stores n i 1000 ++ child_block) (word_loads n 1000) in
    let d = length-append (block_head ++ word_stores n i 1000) child_block in
    let e = length-append block_head (word_stores n i 1000) in
    omega (arith, a, b, c, d, e, stores_count n i, loads_count n, ends_count, child_count)

pub blocks_count : (n m : ℕ) → length (flat_map (generated_block n) (numbers_below m)) ≡ 2105 * m
unfolding numbers_below
blocks_count n zero = refl
blocks_count n (suc m) =
    let ih = blocks_count n m in
    let one = block_count n m in
    let split = ap length (flat_map-append (generated_block n) (numbers_below m) (m ∷ [])) in
    omega (arith, ih, one, split, length-append (flat_map (generated_block n) (numbers_below m)) (flat_map (generated_block n) (m ∷ [])), length-append (generated_block n m) [])

-- a line of the innermost block
abbrev keeps : Statement → Bool
keeps (says.Own a) = true
keeps s = false

stand-append : (g : OpenPlan) (n : ℕ) (xs ys : List Statement) → StandRight g n xs → StandRight (with_statements g n xs) (n + length xs) ys → StandRight g n (xs ++ ys)
stand-append g n [] ys a b = subst (λ k. StandRight g k ys) (omega arith) b
stand-append g n (x ∷ xs) ys a b =
    (a.0, stand-append (with_statement g (n + 1) x) (n + 1) xs ys a.1 (subst (λ k. StandRight (with_statements (with_statement g (n + 1) x) (n + 1) xs) k ys) (omega arith) b))

-- where a plan stands: the block that is open and the parents
record At (g : OpenPlan) (inside : ℕ) (parents : List ℕ) : Type 0 where
  inside_is : g.inside ≡ inside
  parents_are : g.parents ≡ parents

own_after : (xs : List Statement) → list_all keeps xs ≡ true → (g : OpenPlan) (n p : ℕ) (ps : List ℕ) → At g p ps → At (with_statements g n xs) p ps
own_after [] all g n p ps at = at
own_after (says.Own a ∷ xs) all g n p ps at = own_after xs all (with_statement g (n + 1) (says.Own a)) (n + 1) p ps (record { inside_is = at.inside_is; parents_are = at.parents_are })
own_after (says.Nothing ∷ xs) all g n p ps at = absurd (false≢true all)
own_after (says.Setup a ∷ xs) all g n p ps at = absurd (false≢true all)
own_after (says.Process ∷ xs) all g n p ps at = absurd (false≢true all)
own_after (says.Fork ∷ xs) all g n p ps at = absurd (false≢true all)
own_after (says.End ∷ xs) all g n p ps at = absurd (false≢true all)

inside_true : (g : OpenPlan) (p : ℕ) → g.inside ≡ suc p → not (g.inside == 0) ≡ true
inside_true g p e = ap (λ k. not (k == 0)) e ∙ some_true p
  where
    some_true : (p : ℕ) → not (suc p == 0) ≡ true
    some_true p = grind (rules, tests, arith, nat_tests)

own_stand : (xs : List Statement) → list_all keeps xs ≡ true → (g : OpenPlan) (n p : ℕ) → g.inside ≡ suc p → StandRight g n xs
own_stand [] all g n p e = tt
own_stand (says.Own a ∷ xs) all g n p e = (inside_true g p e, own_stand xs all (with_statement g (n + 1) (says.Own a)) (n + 1) p e)
own_stand (says.Nothing ∷ xs) all g n p e = absurd (false≢true all)
own_stand (says.Setup a ∷ xs) all g n p e = absurd (false≢true all)
own_stand (says.Process ∷ xs) all g n p e = absurd (false≢true all)
own_stand (says.Fork ∷ xs) all g n p e = absurd (false≢true all)
own_stand (says.End ∷ xs) all g n p e = absurd (false≢true all)

keeps_append : (xs ys : List Statement) → list_all keeps xs ≡ true → list_all keeps ys ≡ true → list_all keeps (xs ++ ys) ≡ true
keeps_append [] ys a b = b
keeps_append (says.Own c ∷ xs) ys a b = keeps_append xs ys a b
keeps_append (says.Nothing ∷ xs) ys a b = absurd (false≢true a)
keeps_append (says.Setup c ∷ xs) ys a b = absurd (false≢true a)
keeps_append (says.Process ∷ xs) ys a b = absurd (false≢true a)
keeps_append (says.Fork ∷ xs) ys a b = absurd (false≢true a)
keeps_append (says.End ∷ xs) ys a b = absurd (false≢true a)

keeps_map : (f : ℕ → Statement) (m : ℕ) → ((k : ℕ) → keeps (f k) ≡ true) → list_all keeps (map f (numbers_below m)) ≡ true
unfolding numbers_below
keeps_map f zero each = refl
keeps_map f (suc m) each = subst (λ xs. list_all keeps xs ≡ true) (sym (map-append f (numbers_below m) (m ∷ [])))
    (keeps_append (map f (numbers_below m)) (f m ∷ []) (keeps_map f m each) (ap (λ b. b && true) (each m)))

-- a piece of a script: it stands right, and leads from one place to another
record Piece (g : OpenPlan) (n : ℕ) (xs : List Statement) (p : ℕ) (ps : List ℕ) : Type 0 where
  stand : StandRight g n xs
  after : At (with_statements g n xs) p ps

own_piece : (xs : List Statement) → list_all keeps xs ≡ true → (g : OpenPlan) (n p : ℕ) (ps : List ℕ) → At g (suc p) ps → Piece g n xs (suc p) ps
own_piece xs all g n p ps at = record { stand = own_stand xs all g n p at.inside_is; after = own_after xs all g n (suc p) ps at }

then_piece : (g : OpenPlan) (n : ℕ) (xs ys : List Statement) (p q : ℕ) (ps qs : List ℕ) → Piece g n xs p ps → Piece (with_statements g n xs) (n + length xs) ys q qs → Piece g n (xs ++ ys) q qs
then_piece g n xs ys p q ps qs a b = record {
  stand = stand-append g n xs ys a.stand b.stand;
  after = subst (λ h. At h q qs) (sym (with-append g n xs ys)) b.after;
}

outside_last : (qs : List ℕ) (p : ℕ) → enclosing_block (qs ++ p ∷ []) (suc (length qs)) ≡ p
outside_last [] p = refl
outside_last (q ∷ qs) p = outside_last qs p

outside_inner : (qs : List ℕ) (p : ℕ) (ys : List ℕ) → enclosing_block ((qs ++ p ∷ []) ++ ys) (suc (length qs)) ≡ p
outside_inner [] p ys = refl
outside_inner (q ∷ qs) p ys = outside_inner qs p ys

fork_piece : (g : OpenPlan) (n p : ℕ) (ps : List ℕ) → At g (suc p) ps → Piece g n (says.Fork ∷ []) (suc (length ps)) (ps ++ suc p ∷ [])
fork_piece g n p ps at = record {
  stand = (inside_true g p at.inside_is, tt);
  after = record { inside_is = ap (λ qs. length qs + 1) at.parents_are ∙ plus_one (length ps); parents_are = ap₂ (λ qs q. qs ++ q ∷ []) at.parents_are at.inside_is };
}

end_piece : (g : OpenPlan) (n p : ℕ) (ps : List ℕ) → At g (suc p) ps → Piece g n (says.End ∷ []) (enclosing_block ps (suc p)) ps
end_piece g n p ps at = record {
  stand = (inside_true g p at.inside_is, tt);
  after = record { inside_is = ap₂ enclosing_block at.parents_are at.inside_is; parents_are = at.parents_are };
}

process_piece : (g : OpenPlan) (n : ℕ) (ps : List ℕ) → At g 0 ps → Piece g n (says.Process ∷ []) (suc (length ps)) (ps ++ 0 ∷ [])
process_piece g n ps at = record {
  stand = (ap (λ k. not (not (k == 0))) at.inside_is, tt);
  after = record { inside_is = ap (λ qs. length qs + 1) at.parents_are ∙ plus_one (length ps); parents_are = ap (λ qs. qs ++ 0 ∷ []) at.parents_are };
}

child_piece : (g : OpenPlan) (n p : ℕ) (ps : List ℕ) → At g (suc p) ps → Piece g n child_block (suc p) (ps ++ suc p ∷ [])
child_piece g n p ps at =
    let qs = ps ++ suc p ∷ [] in
    let a = fork_piece g n p ps at in
    let b = then_piece g n (says.Fork ∷ []) (end_stores 32) (suc (length ps)) (suc (length ps)) qs qs a (own_piece (end_stores 32) (keeps_map end_store 32 (λ j. refl)) _ _ (length ps) qs a.after) in
    let d = then_piece g n (says.Fork ∷ [] ++ end_stores 32) (end_loads 32) (suc (length ps)) (suc (length ps)) qs qs b
    (own_piece (end_loads 32) (keeps_map end_load 32 (λ j. refl)) _ _ (length ps) qs b.after) in
    let e = then_piece g n (says.Fork ∷ [] ++ end_stores 32 ++ end_loads 32) (says.End ∷ []) (suc (length ps)) (enclosing_block qs (suc (length ps))) qs qs d (end_piece _ _ (length ps) qs d.after) in
    subst (λ k. Piece g n child_block k qs) (outside_last ps (suc p)) e

head_piece : (g : OpenPlan) (n : ℕ) (ps : List ℕ) → At g 0 ps → Piece g n block_head (suc (length ps)) (ps ++ 0 ∷ [])
head_piece g n ps at =
    let a = process_piece g n ps at in
    then_piece g n (says.Process ∷ []) _ (suc (length ps)) (suc (length ps)) (ps ++ 0 ∷ []) (ps ++ 0 ∷ []) a (own_piece _ refl _ _ (length ps) (ps ++ 0 ∷ []) a.after)

block_piece : (g : OpenPlan) (l n i : ℕ) (ps : List ℕ) → At g 0 ps → Piece g l (generated_block n i) 0 ((ps ++ 0 ∷ []) ++ suc (length ps) ∷ [])
block_piece g l n i ps at =
    let p = length ps in
    let qs = ps ++ 0 ∷ [] in
    let rs = qs ++ suc p ∷ [] in
    let a = head_piece g l ps at in
    let b = then_piece g l block_head (word_stores n i 1000) (suc p) (suc p) qs qs a (own_piece (word_stores n i 1000) (keeps_map (word_store n i) 1000 (λ k. refl)) _ _ p qs a.after) in
    let d = then_piece g l (block_head ++ word_stores n i 1000) child_block (suc p) (suc p) qs rs b (child_piece _ _ p qs b.after) in
    let e = then_piece g l (block_head ++ word_stores n i 1000 ++ child_block) (word_loads n 1000) (suc p) (suc p) rs rs d
    (own_piece (word_loads n 1000) (keeps_map (word_load n) 1000 (λ k. refl)) _ _ p rs d.after) in
    let f = then_piece g l (block_head ++ word_stores n i 1000 ++ child_block ++ word_loads n 1000) (end_loads 32) (suc p) (suc p) rs rs e
    (own_piece (end_loads 32) (keeps_map end_load 32 (λ k. refl)) _ _ p rs e.after) in
    let t = then_piece g l (block_head ++ word_stores n i 1000 ++ child_block ++ word_loads n 1000 ++ end_loads 32) (block_tail n i) (suc p)
    0 rs rs f (tail_piece _ _ p rs f.after (outside_inner ps 0 (suc p ∷ []))) in
    t
  where
    tail_piece : (h : OpenPlan) (k p : ℕ) (rs : List ℕ) → At h (suc p) rs → enclosing_block rs (suc p) ≡ 0 → Piece h k (block_tail n i) 0 rs
    tail_piece h k p rs at out =
        let xs = file_write i ∷ file_store n i ∷ file_load i ∷ [] in
        let a = own_piece xs refl h k p rs at in
        let last = subst (λ q. Piece (with_statements h k xs) (k + 3) (says.End ∷ []) q rs) out (end_piece (with_statements h k xs) (k + 3) p rs a.after) in
        then_piece h k xs (says.End ∷ []) (suc p) 0 rs rs a last

pub parents_more : (g : OpenPlan) (l n i : ℕ) → g.inside ≡ 0
    → (length (with_statements g l (generated_block n i)).parents ≡ length g.parents + 2)
    × ((with_statements g l (generated_block n i)).inside ≡ 0)
parents_more g l n i none =
    let b = block_piece g l n i g.parents (record { inside_is = none; parents_are = refl }) in
    (ap length b.after.parents_are ∙ (let a = length-append (g.parents ++ 0 ∷ []) (suc (length g.parents) ∷ []) in let c = length-append g.parents (0 ∷ []) in omega (arith, a, c)), b.after.inside_is)

record Stands (g : OpenPlan) (n : ℕ) (xs : List Statement) : Type 0 where
  stand : StandRight g n xs
  outside_all : (with_statements g n xs).inside ≡ 0

blocks_stand : (g : OpenPlan) (l n m : ℕ) → g.inside ≡ 0 → Stands g l (flat_map (generated_block n) (numbers_below m))
unfolding numbers_below
blocks_stand g l n zero none = record { stand = tt; outside_all = none }
blocks_stand g l n (suc m) none =
    let a = blocks_stand g l n m none in
    let xs = flat_map (generated_block n) (numbers_below m) in
    let h = with_statements g l xs in
    let b = block_piece h (l + length xs) n m h.parents (record { inside_is = a.outside_all; parents_are = refl }) in
    let is : flat_map (generated_block n) (numbers_below (suc m)) ≡ xs ++ generated_block n m =
    flat_map-append (generated_block n) (numbers_below m) (m ∷ []) ∙ ap (λ ys. xs ++ ys) (append-nil (generated_block n m)) in
    subst (Stands g l) (sym is) (record {
      stand = stand-append g l xs (generated_block n m) a.stand b.stand;
      outside_all = ap (λ (k : OpenPlan). k.inside) (with-append g l xs (generated_block n m)) ∙ b.after.inside_is;
    })

pub is_script : (n : ℕ) → IsNumber n → IsScript (generated_script n) empty_plan
is_script n is =
    let setup : OpenPlan = with_statements empty_plan 0 generated_setup in
    let rest = flat_map (generated_block n) (numbers_below 8) in
    let all = good n is in
    let b = blocks_stand setup 5 n 8 refl in
    let count : length (generated_script n) ≡ 16845 = omega (arith, length-append generated_setup rest, blocks_count n 8) in
    record {
      is = All-weaker IsGood IsStatement (λ s g. g.is) (generated_script n) all;
      stand = stand-append empty_plan 0 generated_setup rest (refl, (refl, (refl, (refl, (refl, tt))))) b.stand;
      whole = ap (λ (k : OpenPlan). k.inside) (with-append empty_plan 0 generated_setup rest) ∙ b.outside_all;
      short = let t = text_short (generated_script n) all in omega (arith, t, count);
    }

-- what the plan of all blocks is read from
pub read : (n : ℕ) (g : OpenPlan) → IsNumber n → g ≡ with_statements empty_plan 0 (generated_script n) → plan_of (generated_text n) ≡ Ok (plan_seen g)
read n g is e = parsed (generated_script n) (is_script n is) ∙ ap (λ (h : OpenPlan). Ok (plan_seen h)) (sym e)

pub block_more : (n m : ℕ) (g g2 : OpenPlan)
    → g ≡ with_statements empty_plan 0 (generated_setup ++ flat_map (generated_block n) (numbers_below m))
    → g2 ≡ with_statements g (5 + 2105 * m) (generated_block n m)
    → g2 ≡ with_statements empty_plan 0 (generated_setup ++ flat_map (generated_block n) (numbers_below (m + 1)))
block_more n m g g2 first second =
    let xs = flat_map (generated_block n) (numbers_below m) in
    let count : length (generated_setup ++ xs) ≡ 5 + 2105 * m = let b = blocks_count n m in omega (arith, length-append generated_setup xs, b) in
    let is : flat_map (generated_block n) (numbers_below (m + 1)) ≡ xs ++ generated_block n m =
    ap (flat_map (generated_block n)) (numbers-more m) ∙ (flat_map-append (generated_block n) (numbers_below m) (m ∷ []) ∙ ap (λ ys. xs ++ ys) (append-nil (generated_block n m))) in
    joined empty_plan 0 (5 + 2105 * m) (generated_setup ++ xs) (generated_block n m) g g2 first (omega (arith, count)) second
    ∙ ap (with_statements empty_plan 0) (append_assoc generated_setup xs (generated_block n m) ∙ ap (λ ys. generated_setup ++ ys) (sym is))

pub child_made : (g g1 g2 g3 g4 : OpenPlan) (n : ℕ) → g1 ≡ with_statement g (n + 1) says.Fork
    → g2 ≡ with_statements g1 (n + 1) (end_stores 32) → g3 ≡ with_statements g2 (n + 33) (end_loads 32)
    → g4 ≡ with_statement g3 (n + 65 + 1) says.End
    → g4 ≡ with_statements g n child_block
child_made g g1 g2 g3 g4 n a b d e =
    let two = length-append (says.Fork ∷ []) (end_stores 32) in
    let three = length-append (says.Fork ∷ [] ++ end_stores 32) (end_loads 32) in
    let p = joined g n (n + 1) (says.Fork ∷ []) (end_stores 32) g1 g2 a (omega arith) b in
    let q = joined g n (n + 33) (says.Fork ∷ [] ++ end_stores 32) (end_loads 32) g2 g3 p (omega (arith, two, end_stores_count)) d in
    joined g n (n + 65) (says.Fork ∷ [] ++ end_stores 32 ++ end_loads 32) (says.End ∷ []) g3 g4 q (omega (arith, two, three, end_stores_count, ends_count)) e

-- the pieces of a block, each with the line where it begins
pub block_made : (g g1 g2 g3 g4 g5 g6 : OpenPlan) (l n i : ℕ) → g1 ≡ with_statements g l block_head
    → g2 ≡ with_statements g1 (l + 3) (word_stores n i 1000) → g3 ≡ with_statements g2 (l + 1003) child_block
    → g4 ≡ with_statements g3 (l + 1069) (word_loads n 1000) → g5 ≡ with_statements g4 (l + 2069) (end_loads 32)
    → g6 ≡ with_statements g5 (l + 2101) (block_tail n i) → g6 ≡ with_statements g l (generated_block n i)
block_made g g1 g2 g3 g4 g5 g6 l n i a b d e f h =
    let head = block_head in
    let stored = head ++ word_stores n i 1000 in
    let forked = stored ++ child_block in
    let loaded = forked ++ word_loads n 1000 in
    let ended = loaded ++ end_loads 32 in
    let two = length-append head (word_stores n i 1000) in
    let three = length-append stored child_block in
    let four = length-append forked (word_loads n 1000) in
    let five = length-append loaded (end_loads 32) in
    let p = joined g l (l + 3) head (word_stores n i 1000) g1 g2 a (omega arith) b in
    let q = joined g l (l + 1003) stored child_block g2 g3 p (omega (arith, two, stores_count n i)) d in
    let r = joined g l (l + 1069) forked (word_loads n 1000) g3 g4 q (omega (arith, two, three, stores_count n i, child_count)) e in
    let s = joined g l (l + 2069) loaded (end_loads 32) g4 g5 r (omega (arith, two, three, four, stores_count n i, child_count, loads_count n)) f in
    joined g l (l + 2101) ended (block_tail n i) g5 g6 s (omega (arith, two, three, four, five, stores_count n i, child_count, loads_count n, ends_count)) h

pub few_in_front : (g g1 g2 : OpenPlan) (l n i : ℕ) → g1 ≡ with_statements g l block_head → g2 ≡ with_statements g1 (l + 3) (word_stores n i 1000) → length g2.parents ≡ length g.parents + 1
few_in_front g g1 g2 l n i first second =
    let same = own_after (word_stores n i 1000) (keeps_map (word_store n i) 1000 (λ k. refl)) g1 (l + 3) g1.inside g1.parents (record { inside_is = refl; parents_are = refl }) in
    ap (λ (h : OpenPlan). length h.parents) second ∙ (ap length same.parents_are ∙ (ap (λ (h : OpenPlan). length h.parents) first ∙ length-append g.parents (0 ∷ [])))

pub setup_made : (n : ℕ) (g : OpenPlan) → g ≡ with_statements empty_plan 0 generated_setup → g ≡ with_statements empty_plan 0 (generated_setup ++ flat_map (generated_block n) (numbers_below 0))
unfolding numbers_below
setup_made n g e = e
