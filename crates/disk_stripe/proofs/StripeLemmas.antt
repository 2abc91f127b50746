-- A transfer of the disk where a block lies is one of the stripe.
use Rattle.std.proofs.Common.{ℕ, ◌≡◌, ◌≢◌, ◌+◌, ◌<◌, ◌/◌, ◌%◌, ◌∙◌, ap, sym, subst, refl, inl, inr, arith, List, [], length, get_or, set, Option, Some, None}
use Rattle.std.specs.Prelude.{◌&&◌, Result, if◌then◌else◌}
use Rattle.std.proofs.lemmas.Bool.{cases_eq}
use Rattle.std.proofs.lemmas.List.{ext_get_or, length-set, get_or-set_same, get_or-set_other}
use Rattle.std.proofs.lemmas.Result.{on_ok_weaker, on_err_weaker}
use Rattle.block_device.specs.DiskSeen.{DiskKind, DiskSeen, HasBlocks, Reads, Writes, Shows, failures_told, with_block}
use Rattle.block_device.specs.Joins.{content_of_both, count_sum, kind_of_both}
use Rattle.block_device.proofs.SumLemmas.{first_risen, second_risen, first_cause, second_cause, first_told, second_told}
use Rattle.disk_stripe.specs.StripeBlocks.{parity, stripe_block-even, stripe_block-odd, length-stripe_blocks, get_or-stripe_blocks}
use Rattle.disk_stripe.specs.StripeSeen.{stripe_block, stripe_blocks, stripe_seen, stripe_seen_by, ReadsOne, WritesOne}

-- ---- blocks

-- a block of the first disk is written
even_block : (xs ys : List (List ℕ)) (n i : ℕ) (bytes : List ℕ) → length xs ≡ length ys → n % 2 ≡ 0 → n < length xs + length ys → i < length xs + length ys → get_or (set (stripe_blocks xs ys) n bytes) i [] ≡ stripe_block (set xs (n / 2) bytes) ys i
even_block xs ys n i bytes equal even inside within =
    elim (cases_eq i n) [
      | inl same ↦
          let there : n < length (stripe_blocks xs ys) = omega (arith, inside, length-stripe_blocks xs ys) in
          let half : n / 2 < length xs = omega (arith, even, inside, equal) in
          ap (λ k. get_or (set (stripe_blocks xs ys) n bytes) k []) same ∙ get_or-set_same (stripe_blocks xs ys) n bytes [] there
          ∙ sym (get_or-set_same xs (n / 2) bytes [] half) ∙ sym (stripe_block-even (set xs (n / 2) bytes) ys n even) ∙ ap (stripe_block (set xs (n / 2) bytes) ys) (sym same)
      | inr differ ↦
          get_or-set_other (stripe_blocks xs ys) n i bytes [] differ ∙ get_or-stripe_blocks xs ys i within
          ∙ elim (parity i) [
            | inl even_i ↦
                let apart : i / 2 ≢ n / 2 = λ equal_halves. differ (omega (arith, even, even_i, equal_halves)) in
                stripe_block-even xs ys i even_i ∙ sym (get_or-set_other xs (n / 2) (i / 2) bytes [] apart) ∙ sym (stripe_block-even (set xs (n / 2) bytes) ys i even_i)
            | inr odd_i ↦ stripe_block-odd xs ys i odd_i ∙ sym (stripe_block-odd (set xs (n / 2) bytes) ys i odd_i)
          ]
    ]

pub stripe_blocks-set_even : (xs ys : List (List ℕ)) (n : ℕ) (bytes : List ℕ) → length xs ≡ length ys → n % 2 ≡ 0 → n < length xs + length ys → stripe_blocks (set xs (n / 2) bytes) ys ≡ set (stripe_blocks xs ys) n bytes
stripe_blocks-set_even xs ys n bytes equal even inside =
    let size : length (stripe_blocks (set xs (n / 2) bytes) ys) ≡ length xs + length ys = omega (arith, length-stripe_blocks (set xs (n / 2) bytes) ys, length-set xs (n / 2) bytes) in
    let size_set : length (set (stripe_blocks xs ys) n bytes) ≡ length xs + length ys = omega (arith, length-set (stripe_blocks xs ys) n bytes, length-stripe_blocks xs ys) in
    ext_get_or [] (stripe_blocks (set xs (n / 2) bytes) ys) (set (stripe_blocks xs ys) n bytes) (omega (arith, size, size_set))
    (λ i within.
    let within_both : i < length xs + length ys = omega (arith, within, size) in
    let within_set : i < length (set xs (n / 2) bytes) + length ys = omega (arith, within_both, length-set xs (n / 2) bytes) in
    get_or-stripe_blocks (set xs (n / 2) bytes) ys i within_set ∙ sym (even_block xs ys n i bytes equal even inside within_both))

-- a block of the second disk is written
odd_block : (xs ys : List (List ℕ)) (n i : ℕ) (bytes : List ℕ) → length xs ≡ length ys → n % 2 ≡ 1 → n < length xs + length ys → i < length xs + length ys → get_or (set (stripe_blocks xs ys) n bytes) i [] ≡ stripe_block xs (set ys (n / 2) bytes) i
odd_block xs ys n i bytes equal odd inside within =
    elim (cases_eq i n) [
      | inl same ↦
          let there : n < length (stripe_blocks xs ys) = omega (arith, inside, length-stripe_blocks xs ys) in
          let half : n / 2 < length ys = omega (arith, odd, inside, equal) in
          ap (λ k. get_or (set (stripe_blocks xs ys) n bytes) k []) same ∙ get_or-set_same (stripe_blocks xs ys) n bytes [] there
          ∙ sym (get_or-set_same ys (n / 2) bytes [] half) ∙ sym (stripe_block-odd xs (set ys (n / 2) bytes) n odd) ∙ ap (stripe_block xs (set ys (n / 2) bytes)) (sym same)
      | inr differ ↦
          get_or-set_other (stripe_blocks xs ys) n i bytes [] differ ∙ get_or-stripe_blocks xs ys i within
          ∙ elim (parity i) [
            | inl even_i ↦ stripe_block-even xs ys i even_i ∙ sym (stripe_block-even xs (set ys (n / 2) bytes) i even_i)
            | inr odd_i ↦
                let apart : i / 2 ≢ n / 2 = λ equal_halves. differ (omega (arith, odd, odd_i, equal_halves)) in
                stripe_block-odd xs ys i odd_i ∙ sym (get_or-set_other ys (n / 2) (i / 2) bytes [] apart) ∙ sym (stripe_block-odd xs (set ys (n / 2) bytes) i odd_i)
          ]
    ]

pub stripe_blocks-set_odd : (xs ys : List (List ℕ)) (n : ℕ) (bytes : List ℕ) → length xs ≡ length ys → n % 2 ≡ 1 → n < length xs + length ys → stripe_blocks xs (set ys (n / 2) bytes) ≡ set (stripe_blocks xs ys) n bytes
stripe_blocks-set_odd xs ys n bytes equal odd inside =
    let size : length (stripe_blocks xs (set ys (n / 2) bytes)) ≡ length xs + length ys = omega (arith, length-stripe_blocks xs (set ys (n / 2) bytes), length-set ys (n / 2) bytes) in
    let size_set : length (set (stripe_blocks xs ys) n bytes) ≡ length xs + length ys = omega (arith, length-set (stripe_blocks xs ys) n bytes, length-stripe_blocks xs ys) in
    ext_get_or [] (stripe_blocks xs (set ys (n / 2) bytes)) (set (stripe_blocks xs ys) n bytes) (omega (arith, size, size_set))
    (λ i within.
    let within_both : i < length xs + length ys = omega (arith, within, size) in
    let within_set : i < length xs + length (set ys (n / 2) bytes) = omega (arith, within_both, length-set ys (n / 2) bytes) in
    get_or-stripe_blocks xs (set ys (n / 2) bytes) i within_set ∙ sym (odd_block xs ys n i bytes equal odd inside within_both))

-- ---- told content

shows_even : (x y : Option (List (List ℕ))) (size n : ℕ) (into : List ℕ) → HasBlocks x size → HasBlocks y size → n % 2 ≡ 0 → n < size + size → Shows x (n / 2) into → Shows (content_of_both stripe_blocks x y) n into
shows_even None y size n into hx hy even inside shows = tt
shows_even (Some xs) None size n into hx hy even inside shows = tt
shows_even (Some xs) (Some ys) size n into hx hy even inside shows =
    let within : n < length xs + length ys = omega (arith, inside, hx.0, hy.0) in
    shows ∙ sym (stripe_block-even xs ys n even) ∙ sym (get_or-stripe_blocks xs ys n within)

shows_odd : (x y : Option (List (List ℕ))) (size n : ℕ) (into : List ℕ) → HasBlocks x size → HasBlocks y size → n % 2 ≡ 1 → n < size + size → Shows y (n / 2) into → Shows (content_of_both stripe_blocks x y) n into
shows_odd None y size n into hx hy odd inside shows = tt
shows_odd (Some xs) None size n into hx hy odd inside shows = tt
shows_odd (Some xs) (Some ys) size n into hx hy odd inside shows =
    let within : n < length xs + length ys = omega (arith, inside, hx.0, hy.0) in
    shows ∙ sym (stripe_block-odd xs ys n odd) ∙ sym (get_or-stripe_blocks xs ys n within)

put_even : (x y : Option (List (List ℕ))) (size n : ℕ) (bytes : List ℕ) → HasBlocks x size → HasBlocks y size → n % 2 ≡ 0 → n < size + size → content_of_both stripe_blocks (with_block x (n / 2) bytes) y ≡ with_block (content_of_both stripe_blocks x y) n bytes
put_even None y size n bytes hx hy even inside = refl
put_even (Some xs) None size n bytes hx hy even inside = refl
put_even (Some xs) (Some ys) size n bytes hx hy even inside =
    ap (λ (all : List (List ℕ)). Some all) (stripe_blocks-set_even xs ys n bytes (omega (arith, hx.0, hy.0)) even (omega (arith, inside, hx.0, hy.0)))

put_odd : (x y : Option (List (List ℕ))) (size n : ℕ) (bytes : List ℕ) → HasBlocks x size → HasBlocks y size → n % 2 ≡ 1 → n < size + size → content_of_both stripe_blocks x (with_block y (n / 2) bytes) ≡ with_block (content_of_both stripe_blocks x y) n bytes
put_odd None y size n bytes hx hy odd inside = refl
put_odd (Some xs) None size n bytes hx hy odd inside = refl
put_odd (Some xs) (Some ys) size n bytes hx hy odd inside =
    ap (λ (all : List (List ℕ)). Some all) (stripe_blocks-set_odd xs ys n bytes (omega (arith, hx.0, hy.0)) odd (omega (arith, inside, hx.0, hy.0)))

-- ---- counts

-- One disk tells as many failures as before, and so does the stripe.
first_tells : (a b new : DiskSeen) → new.kind ≡ a.kind → failures_told new ≡ failures_told a → failures_told (stripe_seen new b) ≡ failures_told (stripe_seen a b)
first_tells a b new kind same =
    ap (λ (k : DiskKind). if k.exact && b.kind.exact then count_sum new.faults b.faults else 0) kind
    ∙ first_told a.kind.exact b.kind.exact a.faults new.faults b.faults (sym (ap (λ (k : DiskKind). if k.exact then new.faults else 0) kind) ∙ same)

second_tells : (a b new : DiskSeen) → new.kind ≡ b.kind → failures_told new ≡ failures_told b → failures_told (stripe_seen a new) ≡ failures_told (stripe_seen a b)
second_tells a b new kind same =
    ap (λ (k : DiskKind). if a.kind.exact && k.exact then count_sum a.faults new.faults else 0) kind
    ∙ second_told a.kind.exact b.kind.exact b.faults new.faults a.faults (sym (ap (λ (k : DiskKind). if k.exact then new.faults else 0) kind) ∙ same)

-- ---- transfers

module _ {E : Type 0} (a b new : DiskSeen) (n : ℕ) (bytes : List ℕ) (r : Result (Unit {0}) E) (on_a : HasBlocks a.content a.size) (second : HasBlocks b.content b.size) (equal : a.size ≡ b.size) (within : n < a.size + b.size) where
  on_b : HasBlocks b.content a.size
  on_b = subst (HasBlocks b.content) (sym equal) second

  inside : n < a.size + a.size
  inside = omega (arith, within, equal)

  pub even_reads : n % 2 ≡ 0 → Reads a new (n / 2) bytes r → Reads (stripe_seen a b) (stripe_seen new b) n bytes r
  even_reads even it = record {
    gives = on_ok_weaker r (shows_even a.content b.content a.size n bytes on_a on_b even inside) it.gives;
    content = ap (λ x. content_of_both stripe_blocks x b.content) it.content;
    size = ap (λ k. k + b.size) it.size;
    kind = ap (λ k. kind_of_both k b.kind) it.kind;
    steady = on_ok_weaker r (first_tells a b new it.kind) it.steady;
    calls = first_risen a.calls new.calls b.calls b.calls it.calls (omega arith);
    cause = first_cause a.faults new.faults b.faults b.faults r it.cause (omega arith);
  }

  pub even_writes : n % 2 ≡ 0 → Writes a new (n / 2) bytes r → Writes (stripe_seen a b) (stripe_seen new b) n bytes r
  even_writes even it = record {
    written = on_ok_weaker r (λ is. ap (λ x. content_of_both stripe_blocks x b.content) is ∙ put_even a.content b.content a.size n bytes on_a on_b even inside) it.written;
    spoiled = on_err_weaker r (λ (some, block, is). (some, block, ap (λ x. content_of_both stripe_blocks x b.content) is ∙ put_even a.content b.content a.size n some on_a on_b even inside)) it.spoiled;
    size = ap (λ k. k + b.size) it.size;
    kind = ap (λ k. kind_of_both k b.kind) it.kind;
    steady = on_ok_weaker r (first_tells a b new it.kind) it.steady;
    calls = first_risen a.calls new.calls b.calls b.calls it.calls (omega arith);
    cause = first_cause a.faults new.faults b.faults b.faults r it.cause (omega arith);
  }

module _ {E : Type 0} (a b new : DiskSeen) (n : ℕ) (bytes : List ℕ) (r : Result (Unit {0}) E) (on_a : HasBlocks a.content a.size) (second : HasBlocks b.content b.size) (equal : a.size ≡ b.size) (within : n < a.size + b.size) where
  also_b : HasBlocks b.content a.size
  also_b = subst (HasBlocks b.content) (sym equal) second

  there : n < a.size + a.size
  there = omega (arith, within, equal)

  pub odd_reads : n % 2 ≡ 1 → Reads b new (n / 2) bytes r → Reads (stripe_seen a b) (stripe_seen a new) n bytes r
  odd_reads odd it = record {
    gives = on_ok_weaker r (shows_odd a.content b.content a.size n bytes on_a also_b odd there) it.gives;
    content = ap (content_of_both stripe_blocks a.content) it.content;
    size = ap (λ k. a.size + k) it.size;
    kind = ap (kind_of_both a.kind) it.kind;
    steady = on_ok_weaker r (second_tells a b new it.kind) it.steady;
    calls = second_risen a.calls a.calls b.calls new.calls (omega arith) it.calls;
    cause = second_cause a.faults a.faults b.faults new.faults r (omega arith) it.cause;
  }

  pub odd_writes : n % 2 ≡ 1 → Writes b new (n / 2) bytes r → Writes (stripe_seen a b) (stripe_seen a new) n bytes r
  odd_writes odd it = record {
    written = on_ok_weaker r (λ is. ap (content_of_both stripe_blocks a.content) is ∙ put_odd a.content b.content a.size n bytes on_a also_b odd there) it.written;
    spoiled = on_err_weaker r (λ (some, block, is). (some, block, ap (content_of_both stripe_blocks a.content) is ∙ put_odd a.content b.content a.size n some on_a also_b odd there)) it.spoiled;
    size = ap (λ k. a.size + k) it.size;
    kind = ap (kind_of_both a.kind) it.kind;
    steady = on_ok_weaker r (second_tells a b new it.kind) it.steady;
    calls = second_risen a.calls a.calls b.calls new.calls (omega arith) it.calls;
    cause = second_cause a.faults a.faults b.faults new.faults r (omega arith) it.cause;
  }

-- ---- one disk is asked

module _ {D E : Type 0} (seen : D → DiskSeen) (old new : D × D) (n : ℕ) (bytes : List ℕ) (r : Result (Unit {0}) E) (first : HasBlocks (seen old.0).content (seen old.0).size) (second : HasBlocks (seen old.1).content (seen old.1).size) (equal : (seen old.0).size ≡ (seen old.1).size) (within : n < (seen old.0).size + (seen old.1).size) where
  pub one_reads : ReadsOne seen old new n bytes r → Reads (stripe_seen_by seen old) (stripe_seen_by seen new) n bytes r
  one_reads one =
      elim (parity n) [
        | inl even ↦
            let it = one.even even in
            subst (λ (d : D). Reads (stripe_seen_by seen old) (stripe_seen (seen new.0) (seen d)) n bytes r) (sym it.1)
            (even_reads (seen old.0) (seen old.1) (seen new.0) n bytes r first second equal within even it.0)
        | inr odd ↦
            let it = one.odd odd in
            subst (λ (d : D). Reads (stripe_seen_by seen old) (stripe_seen (seen d) (seen new.1)) n bytes r) (sym it.1)
            (odd_reads (seen old.0) (seen old.1) (seen new.1) n bytes r first second equal within odd it.0)
      ]

  pub one_writes : WritesOne seen old new n bytes r → Writes (stripe_seen_by seen old) (stripe_seen_by seen new) n bytes r
  one_writes one =
      elim (parity n) [
        | inl even ↦
            let it = one.even even in
            subst (λ (d : D). Writes (stripe_seen_by seen old) (stripe_seen (seen new.0) (seen d)) n bytes r) (sym it.1)
            (even_writes (seen old.0) (seen old.1) (seen new.0) n bytes r first second equal within even it.0)
        | inr odd ↦
            let it = one.odd odd in
            subst (λ (d : D). Writes (stripe_seen_by seen old) (stripe_seen (seen d) (seen new.1)) n bytes r) (sym it.1)
            (odd_writes (seen old.0) (seen old.1) (seen new.1) n bytes r first second equal within odd it.0)
      ]
