-- What follows of the words that marks are made of.
use Rattle.std.proofs.Common.{◌≡◌, ℕ, zero, suc, ◌≤◌, ◌+◌, ◌-◌, List, [], ◌∷◌, ◌++◌, length, take, replicate, Option, Some, None, refl, sym, ap, ◌∙◌, arith}
use Rattle.std.specs.Prelude.{slice_index_or, slice_get, IfSome}
use Rattle.std.specs.Option.{option_map_or}
use Rattle.std.proofs.lemmas.List.{take_all, length-take, append_assoc}
use Rattle.std.proofs.Math.Seq.{take-append-add}
use Rattle.flat_model.specs.vm_types.Pages.{bytes_before}
use Rattle.flat_model.specs.vm_types.declared.call.Entry.{Entry}
use Rattle.flat_model.specs.Flat.{Flat, File}
use Rattle.flat_model.specs.History.{replay}
use Rattle.page_store.specs.page_hash.declared.PageName.{PageName}
use Rattle.page_store.specs.Bytes.{clip}
use Rattle.disk_marks.specs.declared.marks.Mark.TheVariants.{Held, Blank, Unsure}
use Rattle.mark_laws.specs.Pages.{after_first, bytes_there}

-- the numbers of equal marks
pub held-inj : (j k : ℕ) → Held j ≡ Held k → j ≡ k
held-inj j k e = cc

pub blank-inj : (j k : ℕ) → Blank j ≡ Blank k → j ≡ k
blank-inj j k e = cc

pub unsure-inj : (a b c d e f : ℕ) → Unsure a b c ≡ Unsure d e f → (a ≡ d) × (b ≡ e) × (c ≡ f)
unsure-inj a b c d e f is = (cc, cc, cc)

-- at most the bytes of a page lie before the file's end
pub few-bytes : (F : Flat) (name : PageName) → bytes_there F name ≤ 4096
few-bytes F name = by_file (slice_get F.files name.object)
  where
    by_file : (o : Option File) → option_map_or (λ (file : File). bytes_before file.len name.page) o 0 ≤ 4096
    by_file None = omega arith
    by_file (Some file) = omega arith

-- a page that ends early, cut there or later
pub clip-later : (n k : ℕ) (bytes : List ℕ) → n ≤ k → k ≤ 4096 → length bytes ≡ 4096 → clip k (clip n bytes) ≡ clip n bytes
clip-later n k bytes le low whole =
    let count : length (take n bytes) ≡ n = let e = length-take n bytes in omega (arith, e, low, le, whole) in
    let sum : k ≡ length (take n bytes) + (k - n) = omega (arith, count, le) in
    let rest : (k - n) + (4096 - k) ≡ 4096 - n = omega (arith, le, low) in
    ap (λ (j : ℕ). take j (clip n bytes) ++ replicate (4096 - k) 0) sum
    ∙ ap (λ (l : List ℕ). l ++ replicate (4096 - k) 0) (take-append-add (take n bytes) (replicate (4096 - n) 0) (k - n))
    ∙ ap (λ (j : ℕ). (take n bytes ++ take (k - n) (replicate j 0)) ++ replicate (4096 - k) 0) (sym rest)
    ∙ ap (λ (l : List ℕ). (take n bytes ++ l) ++ replicate (4096 - k) 0) (take-zeros (k - n) (4096 - k))
    ∙ append_assoc (take n bytes) (replicate (k - n) 0) (replicate (4096 - k) 0)
    ∙ ap (λ (l : List ℕ). take n bytes ++ l) (zeros-more (k - n) (4096 - k) ∙ ap (λ (j : ℕ). replicate j 0) rest)
  where
    take-zeros : (a b : ℕ) → take a (replicate {A = ℕ} (a + b) 0) ≡ replicate a 0
    take-zeros zero b = refl
    take-zeros (suc a) b = let e : suc a + b ≡ suc (a + b) = omega arith in ap (λ (j : ℕ). take (suc a) (replicate {A = ℕ} j 0)) e ∙ ap (λ (l : List ℕ). 0 ∷ l) (take-zeros a b)

    zeros-more : (a b : ℕ) → replicate {A = ℕ} a 0 ++ replicate b 0 ≡ replicate (a + b) 0
    zeros-more zero b = let e : b ≡ 0 + b = omega arith in ap (λ (j : ℕ). replicate {A = ℕ} j 0) e
    zeros-more (suc a) b = let e : suc (a + b) ≡ suc a + b = omega arith in ap (λ (l : List ℕ). 0 ∷ l) (zeros-more a b) ∙ ap (λ (j : ℕ). replicate {A = ℕ} j 0) e

-- what follows for a told block
pub told-map : (P Q : List ℕ → Type 0) → ((bytes : List ℕ) → P bytes → Q bytes) → (block : ℕ) (c : Option (List (List ℕ))) → IfSome c (λ blocks. P (slice_index_or blocks block []))
    → IfSome c (λ blocks. Q (slice_index_or blocks block []))
told-map P Q f block None is = tt
told-map P Q f block (Some blocks) is = f (slice_index_or blocks block []) is

-- flat memory after all entries
pub all-entries : (opening : Flat) (H : List Entry) → after_first opening H (length H) ≡ replay opening H
all-entries opening H = ap (replay opening) (take_all (length H) H (omega arith))
