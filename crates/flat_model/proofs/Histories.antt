-- Histories with one entry more.
use Rattle.std.proofs.Common.{◌≡◌, ℕ, zero, suc, ◌<◌, ◌⊎◌, Bool, true, false, not, ◌&&◌, List, [], ◌∷◌, ◌++◌, length, Option, Some, None, refl, sym, ap, subst, ◌∙◌, inl, inr, arith}
use Rattle.std.specs.Prelude.{◌==◌, slice_get, is_none, IsTrue, MatchOption, MatchBool, if◌then◌else◌}
use Rattle.std.proofs.lemmas.Bool.{eqb-true, eq-eqb, and_left as other_part}
use Rattle.std.proofs.lemmas.Option.{slice_get_within}
use Rattle.vm_types.specs.declared.call.Call.{Call}
use Rattle.vm_types.specs.declared.call.Call.TheVariants.{Load, Store, Map, Unmap, Protect, Sync, Read, Write, Truncate, Fork, Exit}
use Rattle.vm_types.specs.declared.call.Reply.{Reply}
use Rattle.vm_types.specs.declared.call.Reply.TheVariants as reply
use Rattle.vm_types.specs.declared.call.Entry.{Entry}
use Rattle.vm_types.specs.Parts.{next_part, part_file, file_of_call, is_part, ends_call}
use Rattle.flat_model.specs.Flat.{Flat}
use Rattle.flat_model.specs.Step.{IsStep, step}
use Rattle.flat_model.specs.History.{replay, Steps, Legal, IsStart, IsSyncStart, is_of_file, is_io, is_aside, IsNextOwn, IsUnbroken, KeepsParts}
use Rattle.flat_model.specs.HistoryLaws.{open_after, open_from, open_call, IsNextPart, IsNext, OneMore}

pub replay-push : (F : Flat) (H : List Entry) (e : Entry) → replay F (H ++ e ∷ []) ≡ step (replay F H) e
replay-push F [] e = refl
replay-push F (d ∷ H) e = replay-push (step F d) H e

pub Steps-push : (F : Flat) (H : List Entry) (e : Entry) → Steps F H → IsStep (replay F H) e → Steps F (H ++ e ∷ [])
Steps-push F [] e steps is = (is, tt)
Steps-push F (d ∷ H) e steps is = (steps.0, Steps-push (step F d) H e steps.1 is)

pub Steps-front : (F : Flat) (H : List Entry) (e : Entry) → Steps F (H ++ e ∷ []) → Steps F H × IsStep (replay F H) e
Steps-front F [] e steps = (tt, steps.0)
Steps-front F (d ∷ H) e steps = let r = Steps-front (step F d) H e steps.1 in ((steps.0, r.0), r.1)

pub slice_get-front : {A : Type 0} (xs : List A) (x : A) (i : ℕ) → i < length xs → slice_get (xs ++ x ∷ []) i ≡ slice_get xs i
slice_get-front [] x i lt = absurd (omega arith)
slice_get-front (y ∷ xs) x zero lt = refl
slice_get-front (y ∷ xs) x (suc i) lt = slice_get-front xs x i (omega arith)

pub slice_get-pushed : {A : Type 0} (xs : List A) (x : A) → slice_get (xs ++ x ∷ []) (length xs) ≡ Some x
slice_get-pushed [] x = refl
slice_get-pushed (y ∷ xs) x = slice_get-pushed xs x

-- what stands in a list with one more is what stood there, or the new one
pub slice_get-cases : {A : Type 0} (xs : List A) (x y : A) (i : ℕ) → slice_get (xs ++ x ∷ []) i ≡ Some y → ((i < length xs) × (slice_get xs i ≡ Some y)) ⊎ ((i ≡ length xs) × (x ≡ y))
slice_get-cases [] x y zero is = inr (refl, cc)
slice_get-cases [] x y (suc i) is = absurd cc
slice_get-cases (z ∷ xs) x y zero is = inl (omega arith, is)
slice_get-cases (z ∷ xs) x y (suc i) is = elim (slice_get-cases xs x y i is) [ inl h ↦ inl (omega (arith, h.0), h.1) | inr h ↦ inr (omega (arith, h.0), h.1) ]

IsStart-alike : (H K : List Entry) (k p b : ℕ) → ((j : ℕ) → j < k → slice_get K j ≡ slice_get H j) → IsStart H k p b → IsStart K k p b
IsStart-alike H K k p b alike is = (is.0, λ j d lt at mine. is.1 j d lt (sym (alike j lt) ∙ at) mine)

-- what a reply says of where a Sync began
abbrev StartsBy : List Entry → ℕ → ℕ → Reply → Type 0
StartsBy H k p (reply.Synced b) = IsStart H k p b
StartsBy H k p r = Unit {0}

IsSyncStart-alike : (H K : List Entry) (k p : ℕ) (r : Reply) → ((j : ℕ) → j < k → slice_get K j ≡ slice_get H j) → StartsBy H k p r → StartsBy K k p r
IsSyncStart-alike H K k p (reply.Synced b) alike is = IsStart-alike H K k p b alike is
IsSyncStart-alike H K k p r alike is = tt

abbrev Syncs : List Entry → Type 0
Syncs H = (k : ℕ) (e : Entry) → slice_get H k ≡ Some e → IsSyncStart H k e

Syncs-push : (H : List Entry) (e : Entry) → Syncs H → IsSyncStart H (length H) e → Syncs (H ++ e ∷ [])
Syncs-push H e syncs is k d at = elim (slice_get-cases H e d k at) [
  | inl h ↦ IsSyncStart-alike H (H ++ e ∷ []) k d.process d.reply (λ j lt. slice_get-front H e j (omega (arith, h.0))) (syncs k d h.1)
  | inr h ↦ subst (λ (x : Entry). IsSyncStart (H ++ e ∷ []) k x) h.1 (subst (λ (i : ℕ). IsSyncStart (H ++ e ∷ []) i e) (sym h.0) (IsSyncStart-alike H (H ++ e ∷ []) (length H) e.process e.reply (λ j lt. slice_get-front H e j lt) is))
]

Syncs-front : (H : List Entry) (e : Entry) → Syncs (H ++ e ∷ []) → Syncs H × IsSyncStart H (length H) e
Syncs-front H e syncs = (
  λ k d at. let within = slice_get_within H k d at in IsSyncStart-alike (H ++ e ∷ []) H k d.process d.reply (λ j lt. sym (slice_get-front H e j (omega arith))) (syncs k d (slice_get-front H e k within ∙ at)),
  IsSyncStart-alike (H ++ e ∷ []) H (length H) e.process e.reply (λ j lt. sym (slice_get-front H e j lt)) (syncs (length H) e (slice_get-pushed H e)),
)

-- choices that are known
when_true : (b : Bool) (P Q : Type 0) → b ≡ true → MatchBool b P Q → P
when_true true P Q is h = h
when_true false P Q is h = absurd cc

of_true : (b : Bool) (P Q : Type 0) → b ≡ true → P → MatchBool b P Q
of_true true P Q is h = h
of_true false P Q is h = absurd cc

when_false : (b : Bool) (P Q : Type 0) → b ≡ false → MatchBool b P Q → Q
when_false true P Q is h = absurd cc
when_false false P Q is h = h

of_false : (b : Bool) (P Q : Type 0) → b ≡ false → Q → MatchBool b P Q
of_false true P Q is h = absurd cc
of_false false P Q is h = h

when_some : {A : Type 0} (o : Option A) (x : A) (Q : A → Type 0) → o ≡ Some x → MatchOption o (Unit {0}) Q → Q x
when_some None x Q is h = absurd cc
when_some (Some y) x Q is h = let same : y ≡ x = cc in subst Q same h

of_some : {A : Type 0} (o : Option A) (x : A) (Q : A → Type 0) → o ≡ Some x → Q x → MatchOption o (Unit {0}) Q
of_some None x Q is h = tt
of_some (Some y) x Q is h = let same : y ≡ x = cc in subst Q (sym same) h

of_none : {A : Type 0} (o : Option A) (Q : A → Type 0) → o ≡ None → MatchOption o (Unit {0}) Q
of_none None Q is = tt
of_none (Some y) Q is = absurd cc

part_named : (f : ℕ) (o : Option ℕ) → (elim o as (λ x. Bool) [ Some g ↦ f == g | None ↦ false ]) ≡ true → o ≡ Some f
part_named f None is = absurd cc
part_named f (Some g) is = ap (λ k. Some k) (sym (eqb-true f g is))

-- a call of f is f's
pub file_of_call-is : (f : ℕ) (e : Entry) → is_of_file f e ≡ true → file_of_call e.call ≡ Some f
file_of_call-is f e is = part_named f (file_of_call e.call) is

named_part : (f : ℕ) (o : Option ℕ) → o ≡ Some f → (elim o as (λ x. Bool) [ Some g ↦ f == g | None ↦ false ]) ≡ true
named_part f None is = absurd cc
named_part f (Some g) is = eq-eqb f g (let same : g ≡ f = cc in sym same)

pub is_of_file-is : (f : ℕ) (e : Entry) → file_of_call e.call ≡ Some f → is_of_file f e ≡ true
is_of_file-is f e is = named_part f (file_of_call e.call) is

-- a part of f is a call of f
pub part_is_call : (c : Call) (f : ℕ) → part_file c ≡ Some f → file_of_call c ≡ Some f
part_is_call (Read file offset len) f is = is
part_is_call (Write file offset line rest) f is = is
part_is_call (Truncate file len) f is = absurd cc
part_is_call (Load addr size) f is = absurd cc
part_is_call (Store addr size value) f is = absurd cc
part_is_call (Map place len prot kind object offset) f is = absurd cc
part_is_call (Unmap addr len) f is = absurd cc
part_is_call (Protect addr len prot) f is = absurd cc
part_is_call (Sync addr len) f is = absurd cc
part_is_call (Fork child) f is = absurd cc
part_is_call Exit f is = absurd cc

-- a call of f is a part of f, or it is no part and ends with its one entry
pub part_or_last : (c : Call) (r : Reply) (f : ℕ) → file_of_call c ≡ Some f → (part_file c ≡ Some f) ⊎ ((part_file c ≡ None) × (ends_call c r ≡ true))
unfolding next_part
part_or_last (Read file offset len) r f is = inl is
part_or_last (Write file offset line rest) r f is = inl is
part_or_last (Truncate file len) r f is = inr (refl, refl)
part_or_last (Load addr size) r f is = absurd cc
part_or_last (Store addr size value) r f is = absurd cc
part_or_last (Map place len prot kind object offset) r f is = absurd cc
part_or_last (Unmap addr len) r f is = absurd cc
part_or_last (Protect addr len prot) r f is = absurd cc
part_or_last (Sync addr len) r f is = absurd cc
part_or_last (Fork child) r f is = absurd cc
part_or_last Exit r f is = absurd cc

io_last : (c : Call) (r : Reply) (bytes : List ℕ) → is_io r ≡ true → is_none (next_part c r bytes) ≡ true
unfolding next_part
io_last (Read file offset len) (reply.Io disk before after) bytes is = refl
io_last (Write file offset line rest) (reply.Io disk before after) bytes is = refl
io_last c (reply.Io disk before after) bytes is = refl
io_last c r bytes is = absurd cc

-- a part that met Io ends its call
pub ends_call-io : (e : Entry) → is_io e.reply ≡ true → ends_call e.call e.reply ≡ true
ends_call-io e is = io_last e.call e.reply [] is

-- the entry is a part of p's
abbrev IsOwnPart : ℕ → Entry → Type 0
IsOwnPart p d = (d.process ≡ p) × IsTrue (is_part d.call)

-- who holds the file has its next part
abbrev Held : ℕ → Option ℕ → List Entry → Type 0
Held f holder H = MatchOption holder (Unit {0}) (λ p. IsNextOwn f p H)

-- the parts of one file stay together
abbrev KeepsOf : ℕ → List Entry → Type 0
KeepsOf f [] = Unit {0}
KeepsOf f (e ∷ H) = MatchBool (is_of_file f e) (IsUnbroken e H) (Unit {0}) × KeepsOf f H

abbrev Kept : ℕ → Option ℕ → List Entry → Type 0
Kept f holder H = Held f holder H × KeepsOf f H

held_nothing : (f : ℕ) (holder : Option ℕ) → Held f holder []
held_nothing f None = tt
held_nothing f (Some p) = tt

keeps_unit : (b : Bool) → MatchBool b (Unit {0}) (Unit {0})
keeps_unit true = tt
keeps_unit false = tt

is_kept_last : (o : Option ℕ) (b : Bool) → MatchOption o (Unit {0}) (λ f. MatchBool b (Unit {0}) (Unit {0}))
is_kept_last None b = tt
is_kept_last (Some f) b = keeps_unit b

on_last : (b : Bool) (P : Type 0) → P → MatchBool b P (Unit {0})
on_last true P h = h
on_last false P h = tt

-- who holds the file behind a part that isn't aside
abbrev pub next_holder : Entry → Option ℕ
next_holder e = if ends_call e.call e.reply then None else Some e.process

held_next : (f : ℕ) (b : Bool) (p : ℕ) (H : List Entry) → MatchBool b (Unit {0}) (IsNextOwn f p H) → Held f (if b then None else Some p) H
held_next f true p H h = tt
held_next f false p H h = h

next_held : (f : ℕ) (b : Bool) (p : ℕ) (H : List Entry) → Held f (if b then None else Some p) H → MatchBool b (Unit {0}) (IsNextOwn f p H)
next_held f true p H h = tt
next_held f false p H h = h

ended_free : (f : ℕ) (b : Bool) (p : ℕ) (X : List Entry) → b ≡ true → Held f (if b then None else Some p) X
ended_free f true p X is = tt
ended_free f false p X is = absurd cc

kept_of : (f : ℕ) (e : Entry) (H : List Entry) → is_of_file f e ≡ true → IsUnbroken e H → Held f (next_holder e) H
kept_of f e H is h = elim (part_or_last e.call e.reply f (file_of_call-is f e is)) [
  | inl part ↦ held_next f (ends_call e.call e.reply) e.process H (when_some (part_file e.call) f (λ g. MatchBool (ends_call e.call e.reply) (Unit {0}) (IsNextOwn g e.process H)) part h)
  | inr last ↦ ended_free f (ends_call e.call e.reply) e.process H last.1
]

of_kept : (f : ℕ) (e : Entry) (H : List Entry) → is_of_file f e ≡ true → Held f (next_holder e) H → IsUnbroken e H
of_kept f e H is h = elim (part_or_last e.call e.reply f (file_of_call-is f e is)) [
  | inl part ↦ of_some (part_file e.call) f (λ g. MatchBool (ends_call e.call e.reply) (Unit {0}) (IsNextOwn g e.process H)) part (next_held f (ends_call e.call e.reply) e.process H h)
  | inr last ↦ of_none (part_file e.call) (λ g. MatchBool (ends_call e.call e.reply) (Unit {0}) (IsNextOwn g e.process H)) last.0
]

pub io_aside : (a b : Bool) → (a && b) ≡ true → a ≡ true
io_aside true b is = refl
io_aside false b is = is

taken : (a b : Bool) → a ≡ true → b ≡ false → (a && not b) ≡ true
taken a b is other = rw (is, other) refl

passed : (a b : Bool) → b ≡ true → (a && not b) ≡ false
passed true b is = rw is refl
passed false b is = refl

-- the three ways in which an entry meets a file: it is no call of it, it stands aside, or it is the next call
abbrev pub Meets : ℕ → Option ℕ → Entry → Type 0
Meets f holder e = ((is_of_file f e ≡ false) × (open_after f holder e ≡ holder)) ⊎ ((is_of_file f e ≡ true) × (p : ℕ) × (holder ≡ Some p) × (is_aside p e ≡ true) × (open_after f holder e ≡ holder)) ⊎ ((is_of_file f e ≡ true) × (open_after f holder e ≡ next_holder e) × ((p : ℕ) → holder ≡ Some p → is_aside p e ≡ false))

pub meets : (f : ℕ) (holder : Option ℕ) (e : Entry) → Meets f holder e
meets f holder e = by_part (is_of_file f e) refl
  where
    by_aside : (o : Option ℕ) → holder ≡ o → is_of_file f e ≡ true → Meets f holder e
    by_aside None none is = inr (inr (is, rw (none, is) refl, λ p some. absurd (let both : None ≡ Some p = sym none ∙ some in cc)))
    by_aside (Some p) some is = elim (is_aside p e) as (λ b. is_aside p e ≡ b → Meets f holder e) [
      | true ↦ λ aside. inr (inl (is, p, some, aside, rw (some, is, aside) refl))
      | false ↦ λ aside. inr (inr (is, rw (some, is, aside) refl, λ q other. let same : p ≡ q = let both : Some p ≡ Some q = sym some ∙ other in cc in ap (λ k. is_aside k e) (sym same) ∙ aside))
    ] refl

    by_part : (b : Bool) → is_of_file f e ≡ b → Meets f holder e
    by_part false is = inl (is, rw is refl)
    by_part true is = by_aside holder refl is

held_skip : (f : ℕ) (holder : Option ℕ) (d : Entry) (X : List Entry) → ((p : ℕ) → holder ≡ Some p → (is_of_file f d && not (is_aside p d)) ≡ false) → Held f holder (d ∷ X) → Held f holder X
held_skip f None d X skips h = tt
held_skip f (Some p) d X skips h = when_false (is_of_file f d && not (is_aside p d)) (IsOwnPart p d) (IsNextOwn f p X) (skips p refl) h

skip_held : (f : ℕ) (holder : Option ℕ) (d : Entry) (X : List Entry) → ((p : ℕ) → holder ≡ Some p → (is_of_file f d && not (is_aside p d)) ≡ false) → Held f holder X → Held f holder (d ∷ X)
skip_held f None d X skips h = tt
skip_held f (Some p) d X skips h = of_false (is_of_file f d && not (is_aside p d)) (IsOwnPart p d) (IsNextOwn f p X) (skips p refl) h

held_take : (f : ℕ) (holder : Option ℕ) (d : Entry) (X Y : List Entry) → ((p : ℕ) → holder ≡ Some p → (is_of_file f d && not (is_aside p d)) ≡ true) → Held f holder (d ∷ X) → Held f holder (d ∷ Y)
held_take f None d X Y takes h = tt
held_take f (Some p) d X Y takes h = of_true (is_of_file f d && not (is_aside p d)) (IsOwnPart p d) (IsNextOwn f p Y) (takes p refl) (when_true (is_of_file f d && not (is_aside p d)) (IsOwnPart p d) (IsNextOwn f p X) (takes p refl) h)

aside_passed : (f : ℕ) (holder : Option ℕ) (d : Entry) (p : ℕ) → holder ≡ Some p → is_aside p d ≡ true → (q : ℕ) → holder ≡ Some q → (is_of_file f d && not (is_aside q d)) ≡ false
aside_passed f holder d p some aside q other = passed (is_of_file f d) (is_aside q d) (let same : p ≡ q = let both : Some p ≡ Some q = sym some ∙ other in cc in ap (λ k. is_aside k d) (sym same) ∙ aside)

-- an entry in front: it is the holder's, if the file is held, and the rest is kept with the holder behind it
kept_rest : (f : ℕ) (holder : Option ℕ) (d : Entry) (X : List Entry) → Kept f holder (d ∷ X) → Held f holder (d ∷ []) × Kept f (open_after f holder d) X
kept_rest f holder d X kept = elim (meets f holder d) [
  | inl m ↦
      let skips = λ (p : ℕ) (some : holder ≡ Some p). other_part (is_of_file f d) (not (is_aside p d)) m.0 in
      (skip_held f holder d [] skips (held_nothing f holder), subst (λ (o : Option ℕ). Kept f o X) (sym m.1) (held_skip f holder d X skips kept.0, kept.1.1))
  | inr (inl m) ↦
      let skips = aside_passed f holder d m.1 m.2 m.3 in
      (skip_held f holder d [] skips (held_nothing f holder), subst (λ (o : Option ℕ). Kept f o X) (sym m.4) (held_skip f holder d X skips kept.0, kept.1.1))
  | inr (inr m) ↦
      let takes = λ (p : ℕ) (some : holder ≡ Some p). taken (is_of_file f d) (is_aside p d) m.0 (m.2 p some) in
      (held_take f holder d X [] takes kept.0, subst (λ (o : Option ℕ). Kept f o X) (sym m.1) (kept_of f d X m.0 (when_true (is_of_file f d) (IsUnbroken d X) (Unit {0}) m.0 kept.1.0), kept.1.1))
]

rest_kept : (f : ℕ) (holder : Option ℕ) (d : Entry) (X : List Entry) → Held f holder (d ∷ []) → Kept f (open_after f holder d) X → Kept f holder (d ∷ X)
rest_kept f holder d X first rest = elim (meets f holder d) [
  | inl m ↦
      let skips = λ (p : ℕ) (some : holder ≡ Some p). other_part (is_of_file f d) (not (is_aside p d)) m.0 in
      let kept = subst (λ (o : Option ℕ). Kept f o X) m.1 rest in
      (skip_held f holder d X skips kept.0, (of_false (is_of_file f d) (IsUnbroken d X) (Unit {0}) m.0 tt, kept.1))
  | inr (inl m) ↦
      let skips = aside_passed f holder d m.1 m.2 m.3 in
      let kept = subst (λ (o : Option ℕ). Kept f o X) m.4 rest in
      let ends = ends_call-io d (io_aside (is_io d.reply) (not (d.process == m.1)) m.3) in
      (skip_held f holder d X skips kept.0, (of_true (is_of_file f d) (IsUnbroken d X) (Unit {0}) m.0 (of_kept f d X m.0 (ended_free f (ends_call d.call d.reply) d.process X ends)), kept.1))
  | inr (inr m) ↦
      let takes = λ (p : ℕ) (some : holder ≡ Some p). taken (is_of_file f d) (is_aside p d) m.0 (m.2 p some) in
      let kept = subst (λ (o : Option ℕ). Kept f o X) m.1 rest in
      (held_take f holder d [] X takes first, (of_true (is_of_file f d) (IsUnbroken d X) (Unit {0}) m.0 (of_kept f d X m.0 kept.0), kept.1))
]

kept_last : (f : ℕ) (holder : Option ℕ) (e : Entry) → Held f holder (e ∷ []) → Kept f holder (e ∷ [])
kept_last f holder e next = (next, (on_last (is_of_file f e) (IsUnbroken e []) (is_kept_last (part_file e.call) (ends_call e.call e.reply)), tt))

kept_push : (f : ℕ) (holder : Option ℕ) (H : List Entry) (e : Entry) → Kept f holder H → Held f (open_from f holder H) (e ∷ []) → Kept f holder (H ++ e ∷ [])
kept_push f holder [] e kept next = kept_last f holder e next
kept_push f holder (d ∷ H) e kept next = let r = kept_rest f holder d H kept in rest_kept f holder d (H ++ e ∷ []) r.0 (kept_push f (open_after f holder d) H e r.1 next)

kept_front : (f : ℕ) (holder : Option ℕ) (H : List Entry) (e : Entry) → Kept f holder (H ++ e ∷ []) → Kept f holder H × Held f (open_from f holder H) (e ∷ [])
kept_front f holder [] e kept = ((held_nothing f holder, tt), kept.0)
kept_front f holder (d ∷ H) e kept =
    let r = kept_rest f holder d (H ++ e ∷ []) kept in
    let rest = kept_front f (open_after f holder d) H e r.1 in
    (rest_kept f holder d H r.0 rest.0, rest.1)

-- all files' parts stay together exactly where each file's do
keeps_each : (f : ℕ) (H : List Entry) → KeepsParts H → KeepsOf f H
keeps_each f [] keeps = tt
keeps_each f (d ∷ H) keeps = (on_last (is_of_file f d) (IsUnbroken d H) keeps.0, keeps_each f H keeps.1)

kept_by_file : (d : Entry) (H : List Entry) (o : Option ℕ) → part_file d.call ≡ o → ((f : ℕ) → MatchBool (is_of_file f d) (IsUnbroken d H) (Unit {0})) → IsUnbroken d H
kept_by_file d H None none each = of_none (part_file d.call) (λ f. MatchBool (ends_call d.call d.reply) (Unit {0}) (IsNextOwn f d.process H)) none
kept_by_file d H (Some f) some each = when_true (is_of_file f d) (IsUnbroken d H) (Unit {0}) (is_of_file-is f d (part_is_call d.call f some)) (each f)

each_keeps : (H : List Entry) → ((f : ℕ) → KeepsOf f H) → KeepsParts H
each_keeps [] each = tt
each_keeps (d ∷ H) each = (kept_by_file d H (part_file d.call) refl (λ f. (each f).0), each_keeps H (λ f. (each f).1))

next_of_file : (H : List Entry) (e : Entry) (f : ℕ) → ((g : ℕ) → file_of_call e.call ≡ Some g → Held g (open_call g H) (e ∷ [])) → Held f (open_call f H) (e ∷ [])
next_of_file H e f next = elim (is_of_file f e) as (λ b. is_of_file f e ≡ b → Held f (open_call f H) (e ∷ [])) [
  | true ↦ λ is. next f (file_of_call-is f e is)
  | false ↦ λ is. skip_held f (open_call f H) e [] (λ p some. other_part (is_of_file f e) (not (is_aside p e)) is) (held_nothing f (open_call f H))
] refl

by_file : (H : List Entry) (e : Entry) (o : Option ℕ) → file_of_call e.call ≡ o → ((g : ℕ) → file_of_call e.call ≡ Some g → Held g (open_call g H) (e ∷ [])) → IsNextPart H e
by_file H e None none next = of_none (file_of_call e.call) (λ f. Held f (open_call f H) (e ∷ [])) none
by_file H e (Some g) some next = of_some (file_of_call e.call) g (λ f. Held f (open_call f H) (e ∷ [])) some (next g some)

pub KeepsParts-push : (H : List Entry) (e : Entry) → KeepsParts H → IsNextPart H e → KeepsParts (H ++ e ∷ [])
KeepsParts-push H e keeps next = each_keeps (H ++ e ∷ []) (λ f. (kept_push f None H e (tt, keeps_each f H keeps) (next_of_file H e f (λ g some. when_some (file_of_call e.call) g (λ f. Held f (open_call f H) (e ∷ [])) some next))).1)

pub KeepsParts-front : (H : List Entry) (e : Entry) → KeepsParts (H ++ e ∷ []) → KeepsParts H × IsNextPart H e
KeepsParts-front H e keeps =
    let each = λ (f : ℕ). kept_front f None H e (tt, keeps_each f (H ++ e ∷ []) keeps) in
    (each_keeps H (λ f. (each f).0.1), by_file H e (file_of_call e.call) refl (λ g some. (each g).1))

pub Legal-push : (F : Flat) (H : List Entry) (e : Entry) → Legal F H → IsNext F H e → Legal F (H ++ e ∷ [])
Legal-push F H e legal next = record { steps = Steps-push F H e legal.steps next.step; syncs = Syncs-push H e legal.syncs next.sync; parts = KeepsParts-push H e legal.parts next.part }

pub Legal-front : (F : Flat) (H : List Entry) (e : Entry) → Legal F (H ++ e ∷ []) → Legal F H × IsNext F H e
Legal-front F H e legal =
    let steps = Steps-front F H e legal.steps in
    let syncs = Syncs-front H e legal.syncs in
    let parts = KeepsParts-front H e legal.parts in
    (record { steps = steps.0; syncs = syncs.0; parts = parts.0 }, record { step = steps.1; sync = syncs.1; part = parts.1 })

pub one_more_law : OneMore
one_more_law = record { replayed = replay-push; legal = λ F H e. (Legal-front F H e, λ both. Legal-push F H e both.0 both.1) }
