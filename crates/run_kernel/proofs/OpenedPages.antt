-- The pages of a file as it is opened: those of its blocks, up to its length, and zeros behind them.
use Rattle.std.proofs.Common.{◌≡◌, ℕ, zero, suc, ◌+◌, ◌-◌, ◌*◌, ◌<◌, ◌≤◌, min, List, [], ◌∷◌, ◌++◌, length, take, drop, replicate, refl, sym, ap, ◌∙◌, inl, inr, append_assoc, arith, length-append}
use Rattle.std.specs.Prelude.{slice_index_or}
use Rattle.std.specs.List.{concat}
use Rattle.std.proofs.Math.Seq.{take-append-add}
use Rattle.std.proofs.lemmas.Bool.{cases_lt}
use Rattle.std.proofs.lemmas.List.{length-take, length-replicate, take_all, take_at, drop_at, take-append-le, append-nil, replicate-append-replicate}
use Rattle.vm_core.specs.page_store.Bytes.{clip}
use Rattle.volume_files.specs.flat_model.Parts.{pages_of_bytes}
use Rattle.volume_files.specs.flat_model.Words.{Page}
use Rattle.volume_files.proofs.flat_model.FileBytes.{Whole}
use Rattle.vm_core.specs.vm_world.FlatMemory.{pages_from}

-- pages by number
pages-shift : (f : ℕ → Page) (k n : ℕ) → pages_from f (suc k) n ≡ pages_from (λ i. f (suc i)) k n
pages-shift f k zero = refl
pages-shift f k (suc n) = ap (λ (ps : List Page). f (suc k) ∷ ps) (pages-shift f (suc k) n)

pages-agree-from : (f g : ℕ → Page) (k n : ℕ) → ((i : ℕ) → i < n → f (k + i) ≡ g (k + i)) → pages_from f k n ≡ pages_from g k n
pages-agree-from f g k zero same = refl
pages-agree-from f g k (suc n) same =
    let here : f k ≡ g k = (let e : k + 0 ≡ k = omega arith in ap f (sym e) ∙ same 0 (omega arith) ∙ ap g e) in
    ap (λ (p : Page). p ∷ pages_from f (suc k) n) here
    ∙ ap (λ (ps : List Page). g k ∷ ps) (pages-agree-from f g (suc k) n (λ i lt. let e : suc k + i ≡ k + suc i = omega arith in ap f e ∙ same (suc i) (omega (arith, lt)) ∙ ap g (sym e)))

pub pages-agree : (f g : ℕ → Page) (n : ℕ) → ((i : ℕ) → i < n → f i ≡ g i) → pages_from f 0 n ≡ pages_from g 0 n
pages-agree f g n same = pages-agree-from f g 0 n (λ i lt. let e : 0 + i ≡ i = omega arith in ap f e ∙ same i lt ∙ ap g (sym e))

-- so many bytes of a page and of those behind it, and zeros to the end of the pages
abbrev filled : ℕ → ℕ → List ℕ → List ℕ
filled len n bytes = take len bytes ++ replicate (4096 * n - len) 0

-- the first page of these
record Cut (len m : ℕ) (q rest : List ℕ) : Type 0 where
  first : take 4096 (filled len (suc m) (q ++ rest)) ≡ clip (min len 4096) q
  others : drop 4096 (filled len (suc m) (q ++ rest)) ≡ filled (len - 4096) m rest

cut : (len m : ℕ) (q rest : List ℕ) → length q ≡ 4096 → Cut len m q rest
cut len m q rest whole = elim (cases_lt 4096 len) [
  | inl long ↦
      let back : 4096 * suc m - len ≡ 4096 * m - (len - 4096) = omega (arith, long) in
      let at : len ≡ length q + (len - 4096) = omega (arith, long, whole) in
      let is : filled len (suc m) (q ++ rest) ≡ q ++ filled (len - 4096) m rest =
      ap (λ (xs : List ℕ). xs ++ replicate (4096 * suc m - len) 0) (ap (λ (n : ℕ). take n (q ++ rest)) at ∙ take-append-add q rest (len - 4096))
      ∙ append_assoc q (take (len - 4096) rest) (replicate (4096 * suc m - len) 0)
      ∙ ap (λ (n : ℕ). q ++ (take (len - 4096) rest ++ replicate n 0)) back in
      let most : min len 4096 ≡ 4096 = omega (arith, long) in
      record {
        first = ap (take 4096) is ∙ take_at q (filled (len - 4096) m rest) 4096 whole
            ∙ sym (ap (λ (n : ℕ). clip n q) most ∙ ap (λ (xs : List ℕ). xs ++ []) (take_all 4096 q (omega (arith, whole))) ∙ append-nil q);
        others = ap (drop 4096) is ∙ drop_at q (filled (len - 4096) m rest) 4096 whole;
      }
  | inr short ↦
      let split : 4096 * suc m - len ≡ (4096 - len) + 4096 * m = omega (arith, short) in
      let front : List ℕ = take len q ++ replicate (4096 - len) 0 in
      let is : filled len (suc m) (q ++ rest) ≡ front ++ replicate (4096 * m) 0 =
      ap (λ (xs : List ℕ). xs ++ replicate (4096 * suc m - len) 0) (take-append-le len q rest (omega (arith, short, whole)))
      ∙ ap (λ (xs : List ℕ). take len q ++ xs) (ap (λ (n : ℕ). replicate n 0) split ∙ sym (replicate-append-replicate (4096 - len) (4096 * m) 0))
      ∙ sym (append_assoc (take len q) (replicate (4096 - len) 0) (replicate (4096 * m) 0)) in
      let size : length front ≡ 4096 = (let a = length-append (take len q) (replicate (4096 - len) 0) in let b = length-take len q in
      let c = length-replicate {A = ℕ} (4096 - len) 0 in omega (arith, a, b, c, short, whole)) in
      let most : min len 4096 ≡ len = omega (arith, short) in
      let none : len - 4096 ≡ 0 = omega (arith, short) in
      let whole-rest : 4096 * m ≡ 4096 * m - 0 = omega arith in
      record {
        first = ap (take 4096) is ∙ take_at front (replicate (4096 * m) 0) 4096 size ∙ sym (ap (λ (n : ℕ). clip n q) most);
        others = ap (drop 4096) is ∙ drop_at front (replicate (4096 * m) 0) 4096 size ∙ ap (λ (n : ℕ). replicate n 0) whole-rest ∙ sym (ap (λ (n : ℕ). filled n m rest) none);
      }
]

-- THE PAGES of whole blocks, up to a length.
pub opened-pages : (qs : List Page) (len n : ℕ) → Whole qs → n ≤ length qs
    → pages_of_bytes n (take len (concat qs) ++ replicate (4096 * n - len) 0) ≡ pages_from (λ (i : ℕ). clip (min (len - i * 4096) 4096) (slice_index_or qs i [])) 0 n
opened-pages qs len zero whole few = refl
opened-pages [] len (suc m) whole few = absurd (omega (arith, few))
opened-pages (q ∷ qs) len (suc m) whole few =
    let c = cut len m q (concat qs) whole.0 in
    let most : min len 4096 ≡ min (len - 0 * 4096) 4096 = omega arith in
    ap (λ (p : Page). p ∷ pages_of_bytes m (drop 4096 (filled len (suc m) (q ++ concat qs)))) (c.first ∙ ap (λ (n : ℕ). clip n q) most)
    ∙ ap (λ (bytes : List ℕ). clip (min (len - 0 * 4096) 4096) q ∷ pages_of_bytes m bytes) c.others
    ∙ ap (λ (ps : List Page). clip (min (len - 0 * 4096) 4096) q ∷ ps)
    (opened-pages qs (len - 4096) m whole.1 (omega (arith, few))
    ∙ pages-agree (λ (i : ℕ). clip (min ((len - 4096) - i * 4096) 4096) (slice_index_or qs i [])) (λ (i : ℕ). clip (min (len - suc i * 4096) 4096) (slice_index_or qs i [])) m
    (λ i lt. let e : (len - 4096) - i * 4096 ≡ len - suc i * 4096 = omega arith in ap (λ (n : ℕ). clip (min n 4096) (slice_index_or qs i [])) e)
    ∙ sym (pages-shift (λ (i : ℕ). clip (min (len - i * 4096) 4096) (slice_index_or (q ∷ qs) i [])) 0 m))
