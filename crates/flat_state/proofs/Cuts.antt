-- Pages of bytes, one more at a time.
use Rattle.std.proofs.Common.{◌≡◌, ℕ, zero, suc, ◌+◌, List, [], ◌∷◌, ◌++◌, map, refl, ap, ◌∙◌, arith}
use Rattle.std.specs.Prelude.{◌*◌, take, drop}
use Rattle.std.proofs.lemmas.List.{drop-drop}
use Rattle.flat_model.specs.Flat.{File, Flat}
use Rattle.flat_model.specs.Parts.{pages_of_bytes}

pub map_push : {X Y : Type 0} (f : X → Y) (xs : List X) (x : X) → map f (xs ++ x ∷ []) ≡ map f xs ++ f x ∷ []
map_push f [] x = refl
map_push f (y ∷ ys) x = ap (λ zs. f y ∷ zs) (map_push f ys x)

-- one page more
cut_suc : (n : ℕ) (bytes : List ℕ) → pages_of_bytes (suc n) bytes ≡ pages_of_bytes n bytes ++ take 4096 (drop (4096 * n) bytes) ∷ []
cut_suc zero bytes = refl
cut_suc (suc n) bytes =
    let at : 4096 + 4096 * n ≡ 4096 * suc n = omega arith in
    ap (λ ps. take 4096 bytes ∷ ps) (cut_suc n (drop 4096 bytes) ∙ ap (λ (d : List ℕ). pages_of_bytes n (drop 4096 bytes) ++ take 4096 d ∷ []) (drop-drop (4096 * n) 4096 bytes ∙ ap (λ (k : ℕ). drop k bytes) at))

pub cut_next : (n : ℕ) (bytes : List ℕ) → pages_of_bytes (n + 1) bytes ≡ pages_of_bytes n bytes ++ take 4096 (drop (4096 * n) bytes) ∷ []
cut_next n bytes = let at : n + 1 ≡ suc n = omega arith in ap (λ (k : ℕ). pages_of_bytes k bytes) at ∙ cut_suc n bytes

abbrev pub with_files : Flat → List File → Flat
with_files F fs = record F { files = fs }
