-- What the disks of a mirror do is what the mirror does.
use Rattle.std.proofs.Common.{ℕ, ◌≡◌, ◌≢◌, ◌<◌, ◌∙◌, ap, sym, subst, refl, inl, inr, arith, Bool, true, false, List, [], length, get_or, set, Option, Some, None}
use Rattle.std.specs.Prelude.{◌||◌, ◌&&◌, if◌then◌else◌, Result, Ok, Err, is_ok, is_err, OnErr}
use Rattle.std.specs.Result.{result_or}
use Rattle.std.proofs.lemmas.Bool.{cases_eq}
use Rattle.std.proofs.lemmas.List.{ext_get_or, length-set, get_or-set_same, get_or-set_other}
use Rattle.std.proofs.lemmas.Result.{on_ok_weaker}
use Rattle.block_device.specs.DiskSeen.{DiskSeen, HasBlocks, Reads, Writes, Shows, with_block}
use Rattle.block_device.specs.declared.disk.Failed.{Failed}
use Rattle.block_device.specs.Joins.{content_of_both}
use Rattle.block_device.proofs.SumLemmas.{first_risen, second_risen, sums_risen, first_cause, second_cause}
use Rattle.disk_mirror.specs.MirrorBlocks.{true_or_false, mirror_block-fresh, mirror_block-stale, length-mirror_blocks, get_or-mirror_blocks}
use Rattle.disk_mirror.specs.MirrorSeen.{MirrorSeen, is_fresh, kind_of_mirror, mirror_block, mirror_blocks, mirror_disk, mirror_seen, HasFreshSide, SameWhereFresh, ReadsFirst, WritesEach}

-- ---- blocks

module _ (marks : List Bool) (xs ys : List (List ℕ)) (n : ℕ) (p q : List ℕ) (long_a : length marks ≡ length xs) (long_b : length marks ≡ length ys) (inside : n < length marks) where
  at_block : (mark : Bool) → mirror_block (set marks n mark) (set xs n p) (set ys n q) n ≡ (if mark then p else q)
  at_block true =
      let there : n < length xs = omega (arith, inside, long_a) in
      mirror_block-fresh (set marks n true) (set xs n p) (set ys n q) n (get_or-set_same marks n true false inside) ∙ get_or-set_same xs n p [] there
  at_block false =
      let there : n < length ys = omega (arith, inside, long_b) in
      mirror_block-stale (set marks n false) (set xs n p) (set ys n q) n (get_or-set_same marks n false false inside) ∙ get_or-set_same ys n q [] there

  at_other : (mark : Bool) (i : ℕ) → i ≢ n → mirror_block (set marks n mark) (set xs n p) (set ys n q) i ≡ mirror_block marks xs ys i
  at_other mark i differ =
      let kept : is_fresh (set marks n mark) i ≡ is_fresh marks i = get_or-set_other marks n i mark false differ in
      elim (true_or_false (is_fresh marks i)) [
        | inl fresh ↦ mirror_block-fresh (set marks n mark) (set xs n p) (set ys n q) i (kept ∙ fresh) ∙ get_or-set_other xs n i p [] differ ∙ sym (mirror_block-fresh marks xs ys i fresh)
        | inr stale ↦ mirror_block-stale (set marks n mark) (set xs n p) (set ys n q) i (kept ∙ stale) ∙ get_or-set_other ys n i q [] differ ∙ sym (mirror_block-stale marks xs ys i stale)
      ]

  -- one block was put on both, and marked
  mirror_blocks-set : (mark : Bool) → mirror_blocks (set marks n mark) (set xs n p) (set ys n q) ≡ set (mirror_blocks marks xs ys) n (if mark then p else q)
  mirror_blocks-set mark =
      let size : length (mirror_blocks (set marks n mark) (set xs n p) (set ys n q)) ≡ length marks = length-mirror_blocks (set marks n mark) (set xs n p) (set ys n q) ∙ length-set marks n mark in
      let whole : length (set (mirror_blocks marks xs ys) n (if mark then p else q)) ≡ length marks = length-set (mirror_blocks marks xs ys) n (if mark then p else q) ∙ length-mirror_blocks marks xs ys in
      ext_get_or [] (mirror_blocks (set marks n mark) (set xs n p) (set ys n q)) (set (mirror_blocks marks xs ys) n (if mark then p else q)) (size ∙ sym whole)
      (λ i within.
      let in_marks : i < length marks = omega (arith, within, size) in
      let in_set : i < length (set marks n mark) = omega (arith, in_marks, length-set marks n mark) in
      let there : n < length (mirror_blocks marks xs ys) = omega (arith, inside, length-mirror_blocks marks xs ys) in
      get_or-mirror_blocks (set marks n mark) (set xs n p) (set ys n q) i in_set
      ∙ elim (cases_eq i n) [
        | inl same ↦
            ap (mirror_block (set marks n mark) (set xs n p) (set ys n q)) same ∙ at_block mark
            ∙ sym (ap (λ at. get_or (set (mirror_blocks marks xs ys) n (if mark then p else q)) at []) same ∙ get_or-set_same (mirror_blocks marks xs ys) n (if mark then p else q) [] there)
        | inr differ ↦
            at_other mark i differ ∙ sym (get_or-mirror_blocks marks xs ys i in_marks) ∙ sym (get_or-set_other (mirror_blocks marks xs ys) n i (if mark then p else q) [] differ)
      ])

-- ---- told content

put_both : (x y : Option (List (List ℕ))) (size n : ℕ) (marks : List Bool) (mark : Bool) (p q : List ℕ) → HasBlocks x size → HasBlocks y size → length marks ≡ size → n < size → content_of_both (mirror_blocks (set marks n mark)) (with_block x n p) (with_block y n q) ≡ with_block (content_of_both (mirror_blocks marks) x y) n (if mark then p else q)
put_both None y size n marks mark p q hx hy long inside = refl
put_both (Some xs) None size n marks mark p q hx hy long inside = refl
put_both (Some xs) (Some ys) size n marks mark p q hx hy long inside =
    ap (λ (all : List (List ℕ)). Some all) (mirror_blocks-set marks xs ys n p q (long ∙ sym hx.0) (long ∙ sym hy.0) (omega (arith, inside, long)) mark)

shows_first : (x y : Option (List (List ℕ))) (size n : ℕ) (marks : List Bool) (into : List ℕ) → length marks ≡ size → n < size → is_fresh marks n ≡ true → Shows x n into → Shows (content_of_both (mirror_blocks marks) x y) n into
shows_first None y size n marks into long inside fresh shows = tt
shows_first (Some xs) None size n marks into long inside fresh shows = tt
shows_first (Some xs) (Some ys) size n marks into long inside fresh shows =
    let within : n < length marks = omega (arith, inside, long) in
    shows ∙ sym (mirror_block-fresh marks xs ys n fresh) ∙ sym (get_or-mirror_blocks marks xs ys n within)

shows_second : (x y : Option (List (List ℕ))) (size n : ℕ) (marks : List Bool) (into : List ℕ) → length marks ≡ size → n < size → is_fresh marks n ≡ false → Shows y n into → Shows (content_of_both (mirror_blocks marks) x y) n into
shows_second None y size n marks into long inside stale shows = tt
shows_second (Some xs) None size n marks into long inside stale shows = tt
shows_second (Some xs) (Some ys) size n marks into long inside stale shows =
    let within : n < length marks = omega (arith, inside, long) in
    shows ∙ sym (mirror_block-stale marks xs ys n stale) ∙ sym (get_or-mirror_blocks marks xs ys n within)

-- The second shows what the first does, where the block is fresh on both.
shows_either : (x y : Option (List (List ℕ))) (size n : ℕ) (marks others : List Bool) (into : List ℕ) → length marks ≡ size → n < size → is_fresh marks n ≡ true → is_fresh others n ≡ true → SameWhereFresh marks others x y → Shows y n into → Shows (content_of_both (mirror_blocks marks) x y) n into
shows_either None y size n marks others into long inside fresh also same shows = tt
shows_either (Some xs) None size n marks others into long inside fresh also same shows = tt
shows_either (Some xs) (Some ys) size n marks others into long inside fresh also same shows =
    shows_first (Some xs) (Some ys) size n marks into long inside fresh (shows ∙ sym (same xs refl ys refl n fresh also))

-- ---- reads

module _ {E : Type 0} (a b : DiskSeen) (n : ℕ) (marks others : List Bool) (long : length marks ≡ a.size) (inside : n < a.size) where
  -- The first was read.
  pub first_reads : (new : DiskSeen) (into : List ℕ) (r : Result (Unit {0}) E) → is_fresh marks n ≡ true → Reads a new n into r → Reads (mirror_disk marks a b) (mirror_disk marks new b) n into r
  first_reads new into r fresh it = record {
    gives = on_ok_weaker r (shows_first a.content b.content a.size n marks into long inside fresh) it.gives;
    content = ap (λ x. content_of_both (mirror_blocks marks) x b.content) it.content;
    size = it.size;
    kind = ap (λ k. kind_of_mirror k b.kind) it.kind;
    steady = on_ok_weaker r (λ _. refl) it.steady;
    calls = first_risen a.calls new.calls b.calls b.calls it.calls (omega arith);
    cause = first_cause a.faults new.faults b.faults b.faults r it.cause (omega arith);
  }

  -- The second was read, where the block isn't fresh on the first.
  pub second_reads : (new : DiskSeen) (into : List ℕ) (r : Result (Unit {0}) E) → is_fresh marks n ≡ false → Reads b new n into r → Reads (mirror_disk marks a b) (mirror_disk marks a new) n into r
  second_reads new into r stale it = record {
    gives = on_ok_weaker r (shows_second a.content b.content a.size n marks into long inside stale) it.gives;
    content = ap (content_of_both (mirror_blocks marks) a.content) it.content;
    size = refl;
    kind = ap (kind_of_mirror a.kind) it.kind;
    steady = on_ok_weaker r (λ _. refl) it.steady;
    calls = second_risen a.calls a.calls b.calls new.calls (omega arith) it.calls;
    cause = second_cause a.faults a.faults b.faults new.faults r (omega arith) it.cause;
  }

  -- The second was read after the first, where the block is fresh on both.
  pub both_read : (new next : DiskSeen) (some into : List ℕ) (r s : Result (Unit {0}) E) → is_fresh marks n ≡ true → is_fresh others n ≡ true → SameWhereFresh marks others a.content b.content → Reads a new n some r → Reads b next n into s → Reads (mirror_disk marks a b) (mirror_disk marks new next) n into s
  both_read new next some into r s fresh also same one other = record {
    gives = on_ok_weaker s (shows_either a.content b.content a.size n marks others into long inside fresh also same) other.gives;
    content = ap (λ x. content_of_both (mirror_blocks marks) x next.content) one.content ∙ ap (content_of_both (mirror_blocks marks) a.content) other.content;
    size = one.size;
    kind = ap (λ k. kind_of_mirror k next.kind) one.kind ∙ ap (kind_of_mirror a.kind) other.kind;
    steady = on_ok_weaker s (λ _. refl) other.steady;
    calls = sums_risen a.calls new.calls b.calls next.calls one.calls other.calls;
    cause = second_cause a.faults new.faults b.faults next.faults s one.cause.later other.cause;
  }

module _ {D : Type 0} (seen : D → DiskSeen) (old mid : MirrorSeen D) (n : ℕ) (into : List ℕ) (long : length old.fresh_a ≡ (seen old.a).size) (inside : n < (seen old.a).size) where
  -- A read of the first, or none, as it is seen of the mirror where nothing else changed.
  as_first : (answer : Result (Unit {0}) Failed) → mid.b ≡ old.b → mid.fresh_a ≡ old.fresh_a → Reads (mirror_seen seen old) (mirror_disk old.fresh_a (seen mid.a) (seen old.b)) n into answer → Reads (mirror_seen seen old) (mirror_seen seen mid) n into answer
  as_first answer b marks it =
      subst (λ fresh. Reads (mirror_seen seen old) (mirror_disk fresh (seen mid.a) (seen mid.b)) n into answer) (sym marks)
      (subst (λ (d : D). Reads (mirror_seen seen old) (mirror_disk old.fresh_a (seen mid.a) (seen d)) n into answer) (sym b) it)

  -- The first gave the block.
  pub given_reads : ReadsFirst seen old mid n into true → Reads {E = Failed} (mirror_seen seen old) (mirror_seen seen mid) n into (Ok tt)
  given_reads first =
      elim (true_or_false (is_fresh old.fresh_a n)) [
        | inl fresh ↦ as_first (Ok tt) first.b first.marks_a (first_reads (seen old.a) (seen old.b) n old.fresh_a old.fresh_b long inside (seen mid.a) into (Ok tt) fresh (first.reads fresh))
        | inr stale ↦ absurd (cc (first.none stale))
      ]

  -- The first failed, and the block isn't fresh on the second.
  pub failed_reads : HasFreshSide old.fresh_a old.fresh_b → is_fresh old.fresh_b n ≡ false → ReadsFirst seen old mid n into false → Reads {E = Failed} (mirror_seen seen old) (mirror_seen seen mid) n into (Err (record {}))
  failed_reads somewhere none first =
      elim (true_or_false (is_fresh old.fresh_a n)) [
        | inl fresh ↦ as_first (Err (record {})) first.b first.marks_a (first_reads (seen old.a) (seen old.b) n old.fresh_a old.fresh_b long inside (seen mid.a) into (Err (record {})) fresh (first.reads fresh))
        | inr stale ↦ let within : n < length old.fresh_a = omega (arith, long, inside) in absurd (cc (somewhere n within stale, none))
      ]

  -- The first didn't give the block, and the second was asked.
  pub then_reads : (next : D) (got : List ℕ) (r : Result (Unit {0}) Failed) → is_fresh old.fresh_b n ≡ true → SameWhereFresh old.fresh_a old.fresh_b (seen old.a).content (seen old.b).content → ReadsFirst seen old mid n into false → Reads (seen mid.b) (seen next) n got r → Reads (mirror_seen seen old) (mirror_disk mid.fresh_a (seen mid.a) (seen next)) n got r
  then_reads next got r also same first it =
      let other : Reads (seen old.b) (seen next) n got r = subst (λ (d : D). Reads (seen d) (seen next) n got r) first.b it in
      subst (λ fresh. Reads (mirror_seen seen old) (mirror_disk fresh (seen mid.a) (seen next)) n got r) (sym first.marks_a)
      (elim (true_or_false (is_fresh old.fresh_a n)) [
        | inl fresh ↦ both_read (seen old.a) (seen old.b) n old.fresh_a old.fresh_b long inside (seen mid.a) (seen next) into got (Err (record {})) r fresh also same (first.reads fresh) other
        | inr stale ↦
            subst (λ (d : D). Reads (mirror_seen seen old) (mirror_disk old.fresh_a (seen d) (seen next)) n got r) (sym (first.stale stale))
            (second_reads (seen old.a) (seen old.b) n old.fresh_a old.fresh_b long inside (seen next) got r stale other)
      ])

-- ---- writes

module _ (a b new next : DiskSeen) (n : ℕ) (from : List ℕ) (marks : List Bool) (on_a : HasBlocks a.content a.size) (second : HasBlocks b.content b.size) (equal : a.size ≡ b.size) (long : length marks ≡ a.size) (inside : n < a.size) where
  on_b : HasBlocks b.content a.size
  on_b = subst (HasBlocks b.content) (sym equal) second

  put : (mark : Bool) (p q : List ℕ) → new.content ≡ with_block a.content n p → next.content ≡ with_block b.content n q → (mirror_disk (set marks n mark) new next).content ≡ with_block (mirror_disk marks a b).content n (if mark then p else q)
  put mark p q one other =
      ap (λ x. content_of_both (mirror_blocks (set marks n mark)) x next.content) one
      ∙ ap (content_of_both (mirror_blocks (set marks n mark)) (with_block a.content n p)) other
      ∙ put_both a.content b.content a.size n marks mark p q on_a on_b long inside

  -- Both were written.
  pub both_write : {E : Type 0} (r s : Result (Unit {0}) E) → Writes a new n from r → Writes b next n from s → Writes (mirror_disk marks a b) (mirror_disk (set marks n (is_ok r || is_err s)) new next) n from (result_or r s)
  both_write (Ok u) (Ok v) one other = record {
    written = put true from from one.written other.written;
    spoiled = tt;
    size = one.size;
    kind = ap (λ k. kind_of_mirror k next.kind) one.kind ∙ ap (kind_of_mirror a.kind) other.kind;
    steady = refl;
    calls = sums_risen a.calls new.calls b.calls next.calls one.calls other.calls;
    cause = first_cause a.faults new.faults b.faults next.faults (Ok u) one.cause other.cause.later;
  }
  both_write (Ok u) (Err e) one other = record {
    written = put true from other.spoiled.0 one.written other.spoiled.2;
    spoiled = tt;
    size = one.size;
    kind = ap (λ k. kind_of_mirror k next.kind) one.kind ∙ ap (kind_of_mirror a.kind) other.kind;
    steady = refl;
    calls = sums_risen a.calls new.calls b.calls next.calls one.calls other.calls;
    cause = first_cause a.faults new.faults b.faults next.faults (Ok u) one.cause other.cause.later;
  }
  both_write (Err e) (Ok v) one other = record {
    written = put false one.spoiled.0 from one.spoiled.2 other.written;
    spoiled = tt;
    size = one.size;
    kind = ap (λ k. kind_of_mirror k next.kind) one.kind ∙ ap (kind_of_mirror a.kind) other.kind;
    steady = refl;
    calls = sums_risen a.calls new.calls b.calls next.calls one.calls other.calls;
    cause = second_cause a.faults new.faults b.faults next.faults (Ok v) one.cause.later other.cause;
  }
  both_write (Err e) (Err f) one other = record {
    written = tt;
    spoiled = (one.spoiled.0, one.spoiled.1, put true one.spoiled.0 other.spoiled.0 one.spoiled.2 other.spoiled.2);
    size = one.size;
    kind = ap (λ k. kind_of_mirror k next.kind) one.kind ∙ ap (kind_of_mirror a.kind) other.kind;
    steady = tt;
    calls = sums_risen a.calls new.calls b.calls next.calls one.calls other.calls;
    cause = second_cause a.faults new.faults b.faults next.faults (Err f) one.cause.later other.cause;
  }

-- ---- answers

-- An answer that failed where another did says the same of a write.
pub writes_as : {E : Type 0} (old new : DiskSeen) (n : ℕ) (from : List ℕ) (answer other : Result (Unit {0}) E) → is_err answer ≡ is_err other → Writes old new n from other → Writes old new n from answer
writes_as old new n from (Ok u) (Ok v) same it = record { written = it.written; spoiled = tt; size = it.size; kind = it.kind; steady = it.steady; calls = it.calls; cause = record { later = it.cause.later; failed = tt } }
writes_as old new n from (Err e) (Err f) same it = record { written = tt; spoiled = it.spoiled; size = it.size; kind = it.kind; steady = tt; calls = it.calls; cause = record { later = it.cause.later; failed = it.cause.failed } }
writes_as old new n from (Ok u) (Err f) same it = absurd (cc)
writes_as old new n from (Err e) (Ok v) same it = absurd (cc)

pub answer_or : {E : Type 0} (r s : Result (Unit {0}) E) → is_err (result_or r s) ≡ (is_err r && is_err s)
answer_or (Ok x) s = refl
answer_or (Err x) s = refl

-- Where the answer is a failure, each of both failed.
pub first_failed : {E : Type 0} (P : Type 0) (r s answer : Result (Unit {0}) E) → is_err answer ≡ (is_err r && is_err s) → OnErr r P → OnErr answer P
first_failed P r s (Ok u) both p = tt
first_failed P (Ok x) s (Err e) both p = absurd (cc)
first_failed P (Err x) s (Err e) both p = p

pub second_failed : {E : Type 0} (P : Type 0) (r s answer : Result (Unit {0}) E) → is_err answer ≡ (is_err r && is_err s) → OnErr s P → OnErr answer P
second_failed P r s (Ok u) both p = tt
second_failed P (Ok x) s (Err e) both p = absurd (cc)
second_failed P (Err x) (Ok y) (Err e) both p = absurd (cc)
second_failed P (Err x) (Err y) (Err e) both p = p

-- Both were asked to write a block, and this was answered.
pub each_writes : {D : Type 0} (seen : D → DiskSeen) (old new : MirrorSeen D) (n : ℕ) (from : List ℕ) (r s answer : Result (Unit {0}) Failed) → HasBlocks (seen old.a).content (seen old.a).size → HasBlocks (seen old.b).content (seen old.b).size → (seen old.a).size ≡ (seen old.b).size → length old.fresh_a ≡ (seen old.a).size → n < (seen old.a).size
    → is_err answer ≡ (is_err r && is_err s) → WritesEach seen old new n from r s → Writes (mirror_seen seen old) (mirror_seen seen new) n from answer
each_writes seen old new n from r s answer first second equal long inside is each =
    subst (λ fresh. Writes (mirror_seen seen old) (mirror_disk fresh (seen new.a) (seen new.b)) n from answer) (sym each.marks_a)
    (writes_as (mirror_seen seen old) (mirror_disk (set old.fresh_a n (is_ok r || is_err s)) (seen new.a) (seen new.b)) n from answer (result_or r s) (is ∙ sym (answer_or r s))
    (both_write (seen old.a) (seen old.b) (seen new.a) (seen new.b) n from old.fresh_a first second equal long inside r s each.wrote_a each.wrote_b))
