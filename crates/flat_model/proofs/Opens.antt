-- Whose call of a file is between two parts.
use Rattle.std.proofs.Common.{◌≡◌, ℕ, ◌+◌, ◌-◌, ◌⊎◌, Bool, true, false, ◌&&◌, not, List, [], ◌∷◌, ◌++◌, length, Option, Some, None, refl, sym, ap, subst, ◌∙◌, inl, inr, append_assoc}
use Rattle.std.specs.Prelude.{◌==◌, ◌↔◌, MatchOption, MatchBool, IsSomeAnd, IsTrue, if◌then◌else◌}
use Rattle.std.proofs.lemmas.Bool.{eq-eqb, eqb-true}
use Rattle.std.proofs.lemmas.List.{append-nil, same_from_push}
use Rattle.std.proofs.lemmas.List.Sums.{fold_push}
use Rattle.vm_types.specs.declared.call.Call.{Call}
use Rattle.vm_types.specs.declared.call.Call.TheVariants.{Read, Write}
use Rattle.vm_types.specs.declared.call.Reply.{Reply}
use Rattle.vm_types.specs.declared.call.Reply.TheVariants as reply
use Rattle.vm_types.specs.declared.call.Entry.{Entry}
use Rattle.vm_types.specs.Parts.{next_part, part_file, file_of_call, is_part, ends_call, is_short, is_past_numbers, first_write}
use Rattle.flat_model.specs.History.{KeepsParts, is_of_file, is_io, is_aside, IsNextOwn}
use Rattle.flat_model.specs.HistoryLaws.{open_after, open_from, open_call, IsNextPart}
use Rattle.flat_model.specs.OpenLaws.{last_entry, IsOpenPart, FollowsOn, MayFollow, EndsCalls, OpenCalls}
use Rattle.flat_model.proofs.Histories.{KeepsParts-front, file_of_call-is, is_of_file-is, part_is_call, part_or_last, ends_call-io, meets, next_holder, io_aside as io_of_aside}
use Rattle.flat_model.proofs.Replays.{on_front}
use Rattle.flat_model.proofs.Frames.{there, the_one}

pub last_entry-push : (H : List Entry) (e : Entry) (p : ℕ) → last_entry p (H ++ e ∷ []) ≡ (if e.process == p then Some e else last_entry p H)
last_entry-push H e p = fold_push (λ last d. if d.process == p then Some d else last) None H e

open_from-push : (f : ℕ) (holder : Option ℕ) (H : List Entry) (e : Entry) → open_from f holder (H ++ e ∷ []) ≡ open_after f (open_from f holder H) e
open_from-push f holder [] e = refl
open_from-push f holder (d ∷ H) e = open_from-push f (open_after f holder d) H e

-- THE PREMISE, ENTRY BY ENTRY
EndsCalls-front : (H : List Entry) (e : Entry) → EndsCalls (H ++ e ∷ []) → EndsCalls H × MayFollow H e
EndsCalls-front H e ends = (λ front rest d is. ends front (rest ++ e ∷ []) d (ap (λ (K : List Entry). K ++ e ∷ []) is ∙ append_assoc front (d ∷ rest) (e ∷ [])), ends H [] e refl)

-- the last of a list
last_of : (rest : List Entry) → (rest ≡ []) ⊎ ((front : List Entry) × (x : Entry) × (rest ≡ front ++ x ∷ []))
last_of [] = inl refl
last_of (d ∷ rest) = elim (last_of rest) [
  | inl none ↦ inr ([], d, ap (λ (K : List Entry). d ∷ K) none)
  | inr some ↦ inr (d ∷ some.0, some.1, ap (λ (K : List Entry). d ∷ K) some.2)
]

EndsCalls-push : (H : List Entry) (e : Entry) → EndsCalls H → MayFollow H e → EndsCalls (H ++ e ∷ [])
EndsCalls-push H e ends may front rest d is = elim (last_of rest) [
  | inl none ↦
      let same = same_from_push H front e d (is ∙ ap (λ (K : List Entry). front ++ d ∷ K) none) in
      subst (λ (K : List Entry). MayFollow K d) same.0 (subst (MayFollow H) same.1 may)
  | inr some ↦
      let joined : front ++ d ∷ rest ≡ (front ++ d ∷ some.0) ++ some.1 ∷ [] = ap (λ (K : List Entry). front ++ d ∷ K) some.2 ∙ sym (append_assoc front (d ∷ some.0) (some.1 ∷ [])) in
      ends front some.0 d (same_from_push H (front ++ d ∷ some.0) e some.1 (is ∙ joined)).0
]

-- NEXT PARTS
pub chosen : (a b c : Bool) (x n : Call) → (if a then None else if b then None else if c then None else Some x) ≡ Some n → x ≡ n
chosen true b c x n is = absurd cc
chosen false true c x n is = absurd cc
chosen false false true x n is = absurd cc
chosen false false false x n is = cc

pub chosen_two : (b c : Bool) (x n : Call) → (if b then None else if c then None else Some x) ≡ Some n → x ≡ n
chosen_two true c x n is = absurd cc
chosen_two false true x n is = absurd cc
chosen_two false false x n is = cc

-- the next part of a call is a part of its file
pub next_of_file : (c : Call) (r : Reply) (bytes : List ℕ) (n : Call) → next_part c r bytes ≡ Some n → part_file n ≡ part_file c
unfolding next_part
next_of_file (Read file offset len) (reply.Bytes line) bytes n is =
    let same : Read file (offset + length line) (len - length line) ≡ n = chosen (is_short offset len (length line)) (len - length line == 0) (is_past_numbers (offset + length line)) (Read file (offset + length line) (len - length line)) n is in
    ap part_file (sym same)
next_of_file (Write file offset line rest) reply.Done bytes n is =
    let same : first_write file (offset + length line) bytes ≡ n = chosen_two (rest == 0) (is_past_numbers (offset + length line)) (first_write file (offset + length line) bytes) n is in
    ap part_file (sym same)
next_of_file (Read file offset len) r bytes n is = absurd cc
next_of_file (Write file offset line rest) r bytes n is = absurd cc
next_of_file c r bytes n is = absurd cc

-- what follows an open part of a file is a part of it
follows_open : (f : ℕ) (d e : Entry) → IsOpenPart f d → FollowsOn d e → part_file e.call ≡ Some f
follows_open f d e still (inl ended) = absurd (let both = sym ended ∙ still.1 in cc)
follows_open f d e still (inr next) = next_of_file d.call d.reply next.0 e.call next.1 ∙ still.0

-- THE HOLDER
abbrev ByLast : ℕ → List Entry → Type 0
ByLast f H = (p : ℕ) → (open_call f H ≡ Some p) ↔ IsSomeAnd (last_entry p H) (IsOpenPart f)

may_follow : (H : List Entry) (e d : Entry) (p : ℕ) → e.process ≡ p → last_entry p H ≡ Some d → MayFollow H e → FollowsOn d e
may_follow H e d p mine last may = by_last (last_entry e.process H) (ap (λ q. last_entry q H) mine ∙ last) may
  where
    by_last : (o : Option Entry) → o ≡ Some d → MatchOption o (Unit {0}) (λ x. FollowsOn x e) → FollowsOn d e
    by_last None is m = absurd cc
    by_last (Some x) is m = subst (λ (y : Entry). FollowsOn y e) (let same : x ≡ d = cc in same) m

-- p's last entry is another process's no more than before
last_other : (H : List Entry) (e : Entry) (p : ℕ) → (e.process == p) ≡ false → last_entry p (H ++ e ∷ []) ≡ last_entry p H
last_other H e p other = last_entry-push H e p ∙ ap (λ b. if b then Some e else last_entry p H) other

last_own : (H : List Entry) (e : Entry) (p : ℕ) → (e.process == p) ≡ true → last_entry p (H ++ e ∷ []) ≡ Some e
last_own H e p mine = last_entry-push H e p ∙ ap (λ b. if b then Some e else last_entry p H) mine

-- who held the file isn't the entry's process, where the entry is none of the file's
not_of_file : (f : ℕ) (H : List Entry) (e : Entry) (p : ℕ) → ByLast f H → MayFollow H e → e.process ≡ p → open_call f H ≡ Some p → is_of_file f e ≡ true
not_of_file f H e p by may mine still =
    let d = the_one (last_entry p H) (IsOpenPart f) ((by p).0 still) in
    is_of_file-is f e (part_is_call e.call f (follows_open f d.0 e d.2 (may_follow H e d.0 p mine d.1 may)))

some_same : (p q : ℕ) (o : Option ℕ) → o ≡ Some p → o ≡ Some q → p ≡ q
some_same p q o one two = let both : Some p ≡ Some q = sym one ∙ two in cc

apart_of_aside : (a b : Bool) → (a && not b) ≡ true → b ≡ false
apart_of_aside true true is = absurd cc
apart_of_aside true false is = refl
apart_of_aside false b is = absurd cc

-- an entry that leaves the holder
kept_holder : (f : ℕ) (H : List Entry) (e : Entry) (p : ℕ) → ByLast f H → open_after f (open_call f H) e ≡ open_call f H → ((e.process == p) ≡ true → open_call f H ≡ Some p → ⊥) → ((e.process == p) ≡ true → IsOpenPart f e → ⊥) → (open_call f (H ++ e ∷ []) ≡ Some p) ↔ IsSomeAnd (last_entry p (H ++ e ∷ [])) (IsOpenPart f)
kept_holder f H e p by same no_holder no_part = elim (e.process == p) as (λ b. (e.process == p) ≡ b → (open_call f (H ++ e ∷ []) ≡ Some p) ↔ IsSomeAnd (last_entry p (H ++ e ∷ [])) (IsOpenPart f)) [
  | true ↦ λ mine. (
    λ still. absurd (no_holder mine (sym same ∙ sym (open_from-push f None H e) ∙ still)),
    λ last. absurd (no_part mine (subst (λ (o : Option Entry). IsSomeAnd o (IsOpenPart f)) (last_own H e p mine) last)),
  )
  | false ↦ λ other. (
    λ still. subst (λ (o : Option Entry). IsSomeAnd o (IsOpenPart f)) (sym (last_other H e p other)) ((by p).0 (sym same ∙ sym (open_from-push f None H e) ∙ still)),
    λ last. open_from-push f None H e ∙ same ∙ (by p).1 (subst (λ (o : Option Entry). IsSomeAnd o (IsOpenPart f)) (last_other H e p other) last),
  )
] refl

holder_is : (b : Bool) (x p : ℕ) → (if b then None else Some x) ≡ Some p → (b ≡ false) × (x ≡ p)
holder_is true x p is = absurd cc
holder_is false x p is = (refl, cc)

open_here : (f : ℕ) (e : Entry) → is_of_file f e ≡ true → ends_call e.call e.reply ≡ false → IsOpenPart f e
open_here f e of_f goes = elim (part_or_last e.call e.reply f (file_of_call-is f e of_f)) [
  | inl part ↦ (part, goes)
  | inr last ↦ absurd (let both = sym last.1 ∙ goes in cc)
]

-- an entry that takes the file over, or gives it back
next_owner : (f : ℕ) (H : List Entry) (e : Entry) (p : ℕ) → ByLast f H → is_of_file f e ≡ true → open_after f (open_call f H) e ≡ next_holder e → ((q : ℕ) → open_call f H ≡ Some q → e.process ≡ q) → (open_call f (H ++ e ∷ []) ≡ Some p) ↔ IsSomeAnd (last_entry p (H ++ e ∷ [])) (IsOpenPart f)
next_owner f H e p by of_f new own = (
  λ still.
      let r = holder_is (ends_call e.call e.reply) e.process p (sym new ∙ sym (open_from-push f None H e) ∙ still) in
      there (last_entry p (H ++ e ∷ [])) e (IsOpenPart f) (last_own H e p (eq-eqb e.process p r.1)) (open_here f e of_f r.0),
  λ last. elim (e.process == p) as (λ b. (e.process == p) ≡ b → open_call f (H ++ e ∷ []) ≡ Some p) [
    | true ↦ λ mine.
        let still = subst (λ (o : Option Entry). IsSomeAnd o (IsOpenPart f)) (last_own H e p mine) last in
        open_from-push f None H e ∙ new ∙ ap (λ b. if b then None else Some e.process) still.1 ∙ ap (λ q. Some q) (eqb-true e.process p mine)
    | false ↦ λ other.
        let held = (by p).1 (subst (λ (o : Option Entry). IsSomeAnd o (IsOpenPart f)) (last_other H e p other) last) in
        absurd (let both = sym (eq-eqb e.process p (own p held)) ∙ other in cc)
  ] refl,
)

-- who is next is the holder, if it isn't aside
own_next : (H : List Entry) (e : Entry) (f q : ℕ) → IsNextPart H e → is_of_file f e ≡ true → is_aside q e ≡ false → open_call f H ≡ Some q → e.process ≡ q
own_next H e f q next of_f beside still = by_file (file_of_call e.call) (file_of_call-is f e of_f) next
  where
    own : (b : Bool) → b ≡ true → MatchBool b ((e.process ≡ q) × IsTrue (is_part e.call)) (Unit {0}) → e.process ≡ q
    own true is h = h.0
    own false is h = absurd cc

    taken : (a b : Bool) → a ≡ true → b ≡ false → (a && not b) ≡ true
    taken a b is other = rw (is, other) refl

    by_holder : (o : Option ℕ) → o ≡ Some q → MatchOption o (Unit {0}) (λ p. IsNextOwn f p (e ∷ [])) → e.process ≡ q
    by_holder None is h = absurd cc
    by_holder (Some p) is h = let same : p ≡ q = cc in own (is_of_file f e && not (is_aside q e)) (taken (is_of_file f e) (is_aside q e) of_f beside) (subst (λ (x : ℕ). IsNextOwn f x (e ∷ [])) same h)

    by_file : (o : Option ℕ) → o ≡ Some f → MatchOption o (Unit {0}) (λ g. MatchOption (open_call g H) (Unit {0}) (λ p. IsNextOwn g p (e ∷ []))) → e.process ≡ q
    by_file None is h = absurd cc
    by_file (Some g) is h = let same : g ≡ f = cc in by_holder (open_call f H) still (subst (λ (x : ℕ). MatchOption (open_call x H) (Unit {0}) (λ p. IsNextOwn x p (e ∷ []))) same h)

by_last-push : (f : ℕ) (H : List Entry) (e : Entry) → ByLast f H → IsNextPart H e → MayFollow H e → ByLast f (H ++ e ∷ [])
by_last-push f H e by next may p = elim (meets f (open_call f H) e) [
  | inl m ↦ kept_holder f H e p by m.1
      (λ mine still. absurd (let both = sym (not_of_file f H e p by may (eqb-true e.process p mine) still) ∙ m.0 in cc))
      (λ mine part. absurd (let both = sym (is_of_file-is f e (part_is_call e.call f part.0)) ∙ m.0 in cc))
  | inr (inl m) ↦ kept_holder f H e p by m.4
      (λ mine still.
      let same : m.1 ≡ p = some_same m.1 p (open_call f H) m.2 still in
      absurd (let both = sym mine ∙ ap (λ q. e.process == q) (sym same) ∙ apart_of_aside (is_io e.reply) (e.process == m.1) m.3 in cc))
      (λ mine part. absurd (let both = sym (ends_call-io e (io_of_aside (is_io e.reply) (not (e.process == m.1)) m.3)) ∙ part.1 in cc))
  | inr (inr m) ↦ next_owner f H e p by m.0 m.1 (λ q still. own_next H e f q next m.0 (m.2 q still) still)
]

none_first : (f p : ℕ) → (open_call f [] ≡ Some p) ↔ IsSomeAnd (last_entry p []) (IsOpenPart f)
none_first f p = (λ is. absurd cc, λ is. absurd is)

by_last_from : (f : ℕ) (G K : List Entry) → ByLast f G → KeepsParts (G ++ K) → EndsCalls (G ++ K) → ByLast f (G ++ K)
by_last_from f G [] by keeps ends = subst (ByLast f) (sym (append-nil G)) by
by_last_from f G (e ∷ K) by keeps ends =
    let joined = append_assoc G (e ∷ []) K in
    let keeps_all = subst KeepsParts (sym joined) keeps in
    let ends_all = subst EndsCalls (sym joined) ends in
    let first = on_front KeepsParts (λ H d is. (KeepsParts-front H d is).0) (G ++ e ∷ []) K keeps_all in
    let first_ends = on_front EndsCalls (λ H d is. (EndsCalls-front H d is).0) (G ++ e ∷ []) K ends_all in
    subst (ByLast f) joined (by_last_from f (G ++ e ∷ []) K (by_last-push f G e by (KeepsParts-front G e first).1 (EndsCalls-front G e first_ends).1) keeps_all ends_all)

pub open_call-by_last : (H : List Entry) (f p : ℕ) → KeepsParts H → EndsCalls H → (open_call f H ≡ Some p) ↔ IsSomeAnd (last_entry p H) (IsOpenPart f)
open_call-by_last H f p keeps ends = by_last_from f [] H (none_first f) keeps ends p

pub open_calls_law : OpenCalls
open_calls_law = record {
  by_last = open_call-by_last;
  one_more = λ H e. (EndsCalls-front H e, λ both. EndsCalls-push H e both.0 both.1);
  last = last_entry-push;
}
