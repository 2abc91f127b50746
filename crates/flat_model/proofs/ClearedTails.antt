-- Which tails become zeros.
use Rattle.std.proofs.Common.{◌≡◌, ℕ, zero, suc, ◌-◌, ◌<◌, ◌||◌, Bool, true, false, List, [], ◌∷◌, ◌++◌, length, take, replicate, refl, sym, ap, ◌∙◌, inl, inr, arith}
use Rattle.std.specs.Prelude.{option_map, slice_get, All, if◌then◌else◌}
use Rattle.std.proofs.lemmas.Bool.{cases_lt}
use Rattle.std.proofs.lemmas.List.{length-take, take_all, take_at, append-nil}
use Rattle.flat_model.specs.Words.{Page}
use Rattle.flat_model.specs.Flat.{File, Flat, IsFile}
use Rattle.flat_model.specs.Parts.{without_tail}
use Rattle.flat_model.specs.Step.{files_cleared}
use Rattle.flat_model.specs.LineLaws.{page_front}
use Rattle.flat_model.specs.TailLaws.{ClearedTails}
use Rattle.flat_model.proofs.FileBytes.{Whole, Whole-pages}
use Rattle.flat_model.proofs.Lines.{fronts, length-page_front, without_tail-fronts}

pub files_cleared-at : (test : ℕ → Bool) (fs : List File) (f : ℕ) → slice_get (files_cleared test fs) f ≡ option_map (λ file. if test f then without_tail file else file) (slice_get fs f)
files_cleared-at test [] f = refl
files_cleared-at test (file ∷ fs) zero = refl
files_cleared-at test (file ∷ fs) (suc f) = files_cleared-at (λ k. test (suc k)) fs f

files_alike : (s t : ℕ → Bool) (fs : List File) → ((f : ℕ) → f < length fs → s f ≡ t f) → files_cleared s fs ≡ files_cleared t fs
files_alike s t [] alike = refl
files_alike s t (file ∷ fs) alike =
    let first = ap (λ b. if b then without_tail file else file) (alike 0 (omega arith)) in
    let rest = files_alike (λ k. s (suc k)) (λ k. t (suc k)) fs (λ f lt. alike (suc f) (omega arith)) in
    λ i. first i ∷ rest i

pub files_none : (fs : List File) → files_cleared (λ f. false) fs ≡ fs
files_none [] = refl
files_none (file ∷ fs) = ap (λ (gs : List File). file ∷ gs) (files_none fs)

page_front-twice : (n : ℕ) (p : Page) → length p ≡ 4096 → page_front n (page_front n p) ≡ page_front n p
page_front-twice n p size =
    let zs : List ℕ = replicate (4096 - n) 0 in
    elim (cases_lt n 4096) [
      | inl low ↦ ap (λ (b : List ℕ). b ++ zs) (take_at (take n p) zs n (omega (arith, length-take n p)))
      | inr high ↦
          let none : 4096 - n ≡ 0 = omega arith in
          ap (λ (b : List ℕ). b ++ zs) (take_all n (page_front n p) (omega (arith, length-page_front n p size)))
          ∙ ap (λ (k : ℕ). page_front n p ++ replicate k 0) none ∙ append-nil (page_front n p)
    ]

fronts-twice : (len : ℕ) (ps : List Page) → Whole ps → fronts len (fronts len ps) ≡ fronts len ps
fronts-twice len [] whole = refl
fronts-twice len (p ∷ ps) whole = let first = page_front-twice len p whole.0 in let rest = fronts-twice (len - 4096) ps whole.1 in λ i. first i ∷ rest i

Whole-fronts : (len : ℕ) (ps : List Page) → Whole ps → Whole (fronts len ps)
Whole-fronts len [] whole = tt
Whole-fronts len (p ∷ ps) whole = (length-page_front len p whole.0, Whole-fronts (len - 4096) ps whole.1)

pub without_tail-twice : (file : File) → IsFile file → without_tail (without_tail file) ≡ without_tail file
without_tail-twice file is =
    let whole = Whole-pages file.pages is.pages in
    let once = without_tail-fronts file whole in
    ap without_tail once ∙ without_tail-fronts (record file { pages = fronts file.len file.pages }) (Whole-fronts file.len file.pages whole)
    ∙ ap (λ (ps : List Page). record file { pages = ps }) (fronts-twice file.len file.pages whole) ∙ sym once

either : (a b : Bool) (file : File) → IsFile file → (if b then without_tail (if a then without_tail file else file) else (if a then without_tail file else file)) ≡ (if a || b then without_tail file else file)
either true true file is = without_tail-twice file is
either true false file is = refl
either false true file is = refl
either false false file is = refl

files_twice : (s t : ℕ → Bool) (fs : List File) → All IsFile fs → files_cleared t (files_cleared s fs) ≡ files_cleared (λ f. s f || t f) fs
files_twice s t [] all = refl
files_twice s t (file ∷ fs) all =
    let first = either (s 0) (t 0) file (all 0 file (omega arith)) in
    let rest = files_twice (λ k. s (suc k)) (λ k. t (suc k)) fs (λ k d lt. all (suc k) d (omega arith)) in
    λ i. first i ∷ rest i

with_files : Flat → List File → Flat
with_files F fs = record F { files = fs }

pub cleared_tails_law : ClearedTails
unfolding with_files
cleared_tails_law = record {
  each = λ F test f. files_cleared-at test F.files f;
  alike = λ F s t alike. ap (with_files F) (files_alike s t F.files alike);
  none = λ F. ap (with_files F) (files_none F.files);
  twice = λ F s t all. ap (with_files F) (files_twice s t F.files all);
}
