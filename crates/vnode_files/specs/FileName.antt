-- The name of a file: its bytes, and zeros up to the end of the array. Inside: no public clause cites this.
use Rattle.std.specs.Prelude.{ℕ, ◌≡◌, ◌≤◌, ◌-◌, List, ◌++◌, length, take, drop, replicate}
use Rattle.std.proofs.Common.{ap, ◌∙◌, sym, arith, length-append}
use Rattle.std.proofs.Math.Seq.{drop-append_seam}
use Rattle.std.proofs.lemmas.List.{take-append-drop, length-take, length-drop, length-replicate, drop-replicate}
use Rattle.vnode_files.specs.declared.name.FileName.TheInside.{Inside}

-- the bytes that count
abbrev pub name_bytes : Inside → List ℕ
name_bytes n = take n.len n.bytes

-- an array of 16 bytes of which at least one counts, and all behind those that count are zeros
pub record IsName (n : Inside) : Type 0 where
  pub whole : length n.bytes ≡ 16
  pub some : 1 ≤ n.len
  pub short : n.len ≤ 16
  pub zeros : drop n.len n.bytes ≡ replicate (16 - n.len) 0

-- the fields that stand for a list
abbrev pub name_fields : List ℕ → Inside
name_fields xs = record { len = length xs; bytes = xs ++ replicate (16 - length xs) 0 }

-- the fields made of the bytes that count in a name are that name again
pub name_fields-name_bytes : (n : Inside) → IsName n → name_fields (name_bytes n) ≡ n
name_fields-name_bytes n h =
    let len : length (take n.len n.bytes) ≡ n.len = omega (arith, length-take n.len n.bytes, h.whole, h.short) in
    let bytes : take n.len n.bytes ++ replicate (16 - length (take n.len n.bytes)) 0 ≡ n.bytes =
    ap (λ m. take n.len n.bytes ++ replicate (16 - m) 0) len ∙ ap (λ (z : List ℕ). take n.len n.bytes ++ z) (sym h.zeros) ∙ take-append-drop n.len n.bytes in
    λ i. record { len = len i; bytes = bytes i }
