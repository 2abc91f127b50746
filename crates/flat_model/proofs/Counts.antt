-- Counts of faults, entry by entry.
use Rattle.std.proofs.Common.{◌≡◌, ℕ, zero, suc, ◌≤◌, ◌⊎◌, Bool, true, false, List, [], ◌∷◌, ◌++◌, length, Some, refl, sym, ap, subst, ◌∙◌, inl, inr, append_assoc, arith}
use Rattle.std.specs.Prelude.{◌==◌, slice_get, fold, if◌then◌else◌}
use Rattle.std.proofs.lemmas.Bool.{eq-eqb, eqb-true}
use Rattle.std.proofs.lemmas.Option.{slice_get_within}
use Rattle.std.proofs.lemmas.List.{append-nil}
use Rattle.std.proofs.lemmas.List.Sums.{fold-append}
use Rattle.vm_types.specs.declared.call.Reply.{Reply}
use Rattle.vm_types.specs.declared.call.Reply.TheVariants as reply
use Rattle.vm_types.specs.declared.call.Entry.{Entry}
use Rattle.flat_model.specs.Counted.{IsCountedRise, Counted}
use Rattle.flat_model.specs.CountLaws.{count_after, last_count, IsNextCount, CountedHistories}
use Rattle.flat_model.proofs.Histories.{slice_get-front, slice_get-pushed, slice_get-cases}
use Rattle.flat_model.proofs.Replays.{on_front}

pub last_count-push : (H : List Entry) (e : Entry) (disk : ℕ) → last_count disk (H ++ e ∷ []) ≡ count_after disk (last_count disk H) e
last_count-push H e disk = fold-append (count_after disk) 0 H (e ∷ [])

-- a count that rose isn't less than before
pub risen_up : (before after : ℕ) → IsCountedRise before after → before ≤ after
risen_up before after (inl lt) = omega arith
risen_up before after (inr top) = let b = top.0 in let a = top.1 in omega arith

Counted-front : (H : List Entry) (e : Entry) → Counted (H ++ e ∷ []) → Counted H
Counted-front H e counted = record {
  risen = λ k d disk before after at io. counted.risen k d disk before after (slice_get-front H e k (slice_get_within H k d at) ∙ at) io;
  ordered = λ j k c d disk b after before a lt at_j at_k io_j io_k. counted.ordered j k c d disk b after before a lt (slice_get-front H e j (slice_get_within H j c at_j) ∙ at_j) (slice_get-front H e k (slice_get_within H k d at_k) ∙ at_k) io_j io_k;
}

pub Counted-of_front : (H K : List Entry) → Counted (H ++ K) → Counted H
Counted-of_front H K counted = on_front Counted Counted-front H K counted

-- what an entry's count is, by its reply
count_here : (disk last before after : ℕ) (r : Reply) → r ≡ reply.Io disk before after → (elim r as (λ x. ℕ) [ reply.Io d b a ↦ (if d == disk then a else last) | x ↦ last ]) ≡ after
count_here disk last before after r io = rw (io, eq-eqb disk disk refl) refl

-- the count of a disk of which an entry is no device error stays
count_cases : (disk last : ℕ) (e : Entry) → (count_after disk last e ≡ last) ⊎ ((before : ℕ) × (after : ℕ) × (e.reply ≡ reply.Io disk before after) × (count_after disk last e ≡ after))
count_cases disk last e = by_reply e.reply
  where
    by_disk : (d before after : ℕ) (b : Bool) → (d == disk) ≡ b → ((if d == disk then after else last) ≡ last) ⊎ ((x : ℕ) × (y : ℕ) × (reply.Io d before after ≡ reply.Io disk x y) × ((if d == disk then after else last) ≡ y))
    by_disk d before after true is = inr (before, after, ap (λ k. reply.Io k before after) (eqb-true d disk is), rw is refl)
    by_disk d before after false is = inl (rw is refl)

    by_reply : (r : Reply) → ((elim r as (λ x. ℕ) [ reply.Io d b a ↦ (if d == disk then a else last) | x ↦ last ]) ≡ last) ⊎ ((x : ℕ) × (y : ℕ) × (r ≡ reply.Io disk x y) × ((elim r as (λ x. ℕ) [ reply.Io d b a ↦ (if d == disk then a else last) | x ↦ last ]) ≡ y))
    by_reply (reply.Io d before after) = by_disk d before after (d == disk) refl
    by_reply r = inl refl

-- no device error of the history names more than the last one of its disk
abbrev IsAbove : List Entry → Type 0
IsAbove H = (k : ℕ) (e : Entry) (disk before after : ℕ) → slice_get H k ≡ Some e → e.reply ≡ reply.Io disk before after → after ≤ last_count disk H

above-push : (H : List Entry) (e : Entry) → IsAbove H → Counted (H ++ e ∷ []) → IsAbove (H ++ e ∷ [])
above-push H e above counted k d disk before after at io = elim (slice_get-cases H e d k at) [
  | inl h ↦ elim (count_cases disk (last_count disk H) e) [
    | inl stays ↦ let old = above k d disk before after h.1 io in let new = last_count-push H e disk ∙ stays in omega (arith, old, new)
    | inr c ↦
        let low = counted.ordered k (length H) d e disk before after c.0 c.1 h.0 at (slice_get-pushed H e) io c.2 in
        let up = risen_up c.0 c.1 (counted.risen (length H) e disk c.0 c.1 (slice_get-pushed H e) c.2) in
        let new = last_count-push H e disk ∙ c.3 in
        omega (arith, low, up, new)
  ]
  | inr h ↦
      let here = ap (λ (x : Entry). x.reply) h.1 ∙ io in
      let new = last_count-push H e disk ∙ count_here disk (last_count disk H) before after e.reply here in
      omega (arith, new)
]

above_from : (G K : List Entry) → IsAbove G → Counted (G ++ K) → IsAbove (G ++ K)
above_from G [] above counted = subst IsAbove (sym (append-nil G)) above
above_from G (e ∷ K) above counted =
    let joined = append_assoc G (e ∷ []) K in
    let whole = subst Counted (sym joined) counted in
    subst IsAbove joined (above_from (G ++ e ∷ []) K (above-push G e above (Counted-of_front (G ++ e ∷ []) K whole)) whole)

pub last_count-above : (H : List Entry) (k : ℕ) (e : Entry) (disk before after : ℕ) → Counted H → slice_get H k ≡ Some e → e.reply ≡ reply.Io disk before after → after ≤ last_count disk H
last_count-above H k e disk before after counted at io = above_from [] H (λ k e disk before after at io. absurd cc) counted k e disk before after at io

-- what no device error of the disk passes the last one doesn't pass
low_from : (disk c n : ℕ) (H : List Entry) → n ≤ c → ((k : ℕ) (e : Entry) (before after : ℕ) → slice_get H k ≡ Some e → e.reply ≡ reply.Io disk before after → after ≤ c) → fold (count_after disk) n H ≤ c
low_from disk c n [] le each = le
low_from disk c n (e ∷ H) le each = low_from disk c (count_after disk n e) H (elim (count_cases disk n e) [ inl stays ↦ omega (arith, stays) | inr r ↦ let low = each zero e r.0 r.1 refl r.2 in omega (arith, low, r.3) ]) (λ k d before after at io. each (suc k) d before after at io)

abbrev NextBy : List Entry → Reply → Type 0
NextBy H r = elim r as (λ x. Type 0) [ reply.Io disk before after ↦ IsCountedRise before after × (last_count disk H ≤ before) | x ↦ Unit {0} ]

next_by : (H : List Entry) (r : Reply) → ((disk before after : ℕ) → r ≡ reply.Io disk before after → IsCountedRise before after × (last_count disk H ≤ before)) → NextBy H r
next_by H (reply.Io disk before after) is = is disk before after refl
next_by H r is = tt

by_next : (H : List Entry) (r : Reply) (disk before after : ℕ) → NextBy H r → r ≡ reply.Io disk before after → IsCountedRise before after × (last_count disk H ≤ before)
by_next H r disk before after next is = subst (NextBy H) is next

Counted-next : (H : List Entry) (e : Entry) → Counted (H ++ e ∷ []) → IsNextCount H e
Counted-next H e counted = next_by H e.reply (λ disk before after io. (
  counted.risen (length H) e disk before after (slice_get-pushed H e) io,
  low_from disk before 0 H (omega arith) (λ k d b a at is. let within = slice_get_within H k d at in counted.ordered k (length H) d e disk b a before after within (slice_get-front H e k within ∙ at) (slice_get-pushed H e) is io),
))

Counted-push : (H : List Entry) (e : Entry) → Counted H → IsNextCount H e → Counted (H ++ e ∷ [])
Counted-push H e counted next = record {
  risen = λ k d disk before after at io. elim (slice_get-cases H e d k at) [
    | inl h ↦ counted.risen k d disk before after h.1 io
    | inr h ↦ (by_next H e.reply disk before after next (ap (λ (x : Entry). x.reply) h.1 ∙ io)).0
  ];
  ordered = λ j k c d disk b after before a lt at_j at_k io_j io_k. elim (slice_get-cases H e d k at_k) [
    | inl h ↦
        let below = h.0 in
        counted.ordered j k c d disk b after before a lt (sym (slice_get-front H e j (omega arith)) ∙ at_j) h.1 io_j io_k
    | inr h ↦
        let at_end = h.0 in
        let low = (by_next H e.reply disk before a next (ap (λ (x : Entry). x.reply) h.1 ∙ io_k)).1 in
        let above = last_count-above H j c disk b after counted (sym (slice_get-front H e j (omega arith)) ∙ at_j) io_j in
        omega (arith, low, above)
  ];
}

pub counted_histories_law : CountedHistories
counted_histories_law = record {
  one_more = λ H e. (λ counted. (Counted-front H e counted, Counted-next H e counted), λ both. Counted-push H e both.0 both.1);
  front = Counted-of_front;
  pushed = last_count-push;
  above = last_count-above;
}
