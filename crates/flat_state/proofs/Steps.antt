-- When an entry is a step, by the parts that the plain form tests, and the tails of files by tests on their numbers.
use Rattle.std.proofs.Common.{◌≡◌, ℕ, zero, suc, ◌+◌, ◌-◌, ◌/◌, ◌%◌, ◌<◌, Bool, true, false, ◌&&◌, ◌||◌, List, [], ◌∷◌, refl, sym, ap, subst, ◌∙◌, inl, inr, arith}
use Rattle.std.specs.Prelude.{◌↔◌, ◌==◌, nat_le, IsTrue, IsFalse, IfOk, OnErr, Result, Ok, Err, if◌then◌else◌}
use Rattle.std.proofs.lemmas.Bool.{cases_eq, cases_lt, eqb-true, eq-eqb, le-leb, leb-true}
use Rattle.flat_model.specs.vm_types.declared.call.Call.{Call}
use Rattle.flat_model.specs.vm_types.declared.call.Call.TheVariants.{Load, Store, Map, Unmap, Protect, Sync, Read, Write, Truncate, Fork, Exit}
use Rattle.flat_model.specs.vm_types.declared.call.Entry.{Entry}
use Rattle.flat_model.specs.vm_types.WellFormed.{IsWellFormed}
use Rattle.flat_model.specs.Flat.{File, Flat, IsFlat}
use Rattle.flat_model.specs.Access.{with_change_at}
use Rattle.flat_model.specs.Parts.{without_tail}
use Rattle.flat_model.specs.vm_types.declared.call.Reply.{Reply}
use Rattle.flat_model.specs.vm_types.declared.call.Reply.TheVariants as reply
use Rattle.flat_model.specs.Step.{is_bit_set, files_cleared, tails_cleared, effect, MayFail, without_start, IsDue, IsUnborn, IsStep, step}
use Rattle.flat_state.specs.FlatState.{MayStep, is_bit_set_from, IsDueReply}
use Rattle.flat_model.proofs.WellFormed.{IsFlat-step}

pub not_le : (a b : ℕ) → b < a → nat_le a b ≡ false
not_le a b lt = elim (nat_le a b) as (λ t. nat_le a b ≡ t → t ≡ false) [ true ↦ λ is. absurd (omega (arith, leb-true a b is, lt)) | false ↦ λ is. refl ] refl

not_eq : (a b : ℕ) → (a ≡ b → ⊥) → (a == b) ≡ false
not_eq a b apart = elim (a == b) as (λ t. (a == b) ≡ t → t ≡ false) [ true ↦ λ is. absurd (apart (eqb-true a b is)) | false ↦ λ is. refl ] refl

next_eq : (a b : ℕ) → (a == b) ≡ (suc a == suc b)
next_eq a b = elim (cases_eq a b) [
  | inl same ↦ eq-eqb a b same ∙ sym (eq-eqb (suc a) (suc b) (ap suc same))
  | inr apart ↦ not_eq a b apart ∙ sym (not_eq (suc a) (suc b) (λ same. apart (omega arith)))
]

-- no file passes the test
cleared_none : (test : ℕ → Bool) (files : List File) → ((f : ℕ) → test f ≡ false) → files_cleared test files ≡ files
cleared_none test [] none = refl
cleared_none test (file ∷ files) none = rw (none 0) (ap (λ fs. file ∷ fs) (cleared_none (λ f. test (suc f)) files (λ f. none (suc f))))

-- tests that answer alike clear the same tails
pub cleared_alike : (s t : ℕ → Bool) (files : List File) → ((f : ℕ) → s f ≡ t f) → files_cleared s files ≡ files_cleared t files
cleared_alike s t [] alike = refl
cleared_alike s t (file ∷ files) alike = rw (alike 0) (ap (λ fs. (if t 0 then without_tail file else file) ∷ fs) (cleared_alike (λ f. s (suc f)) (λ f. t (suc f)) files (λ f. alike (suc f))))

pub tails_alike : (F : Flat) (s t : ℕ → Bool) → ((f : ℕ) → s f ≡ t f) → tails_cleared F s ≡ tails_cleared F t
tails_alike F s t alike = ap (λ fs. record F { files = fs }) (cleared_alike s t F.files alike)

-- one more file, and then the others
cleared_one : (t : ℕ → Bool) (files : List File) (n : ℕ) → t n ≡ false → ((f : ℕ) → f < n → t f ≡ false) → files_cleared t (with_change_at without_tail files n) ≡ files_cleared (λ f. (f == n) || t f) files
cleared_one t [] n here below = refl
cleared_one t (file ∷ files) zero here below = rw here (ap (λ fs. without_tail file ∷ fs) (cleared_alike (λ f. t (suc f)) (λ f. (suc f == 0) || t (suc f)) files (λ f. ap (λ b. b || t (suc f)) (sym (not_eq (suc f) 0 (omega arith))))))
cleared_one t (file ∷ files) (suc n) here below =
    rw (below 0 (omega arith), not_eq 0 (suc n) (omega arith))
    (ap (λ fs. file ∷ fs) (cleared_one (λ f. t (suc f)) files n here (λ f lt. below (suc f) (omega arith))
    ∙ cleared_alike (λ f. (f == n) || t (suc f)) (λ f. (suc f == suc n) || t (suc f)) files (λ f. ap (λ b. b || t (suc f)) (next_eq f n))))

pub tails_one : (F : Flat) (t : ℕ → Bool) (n : ℕ) → t n ≡ false → ((f : ℕ) → f < n → t f ≡ false) → tails_cleared (record F { files = with_change_at without_tail F.files n }) t ≡ tails_cleared F (λ f. (f == n) || t f)
tails_one F t n here below = ap (λ fs. record F { files = fs }) (cleared_one t F.files n here below)

-- no bit of 0 is set
bit-none : (f : ℕ) → is_bit_set 0 f ≡ false
bit-none zero = refl
bit-none (suc f) = bit-none f

pub bit_from-none : (n f : ℕ) → is_bit_set_from n 0 f ≡ false
bit_from-none n f = rw (bit-none (f - n)) (and_false (nat_le n f))
  where
    and_false : (b : Bool) → (b && false) ≡ false
    and_false true = refl
    and_false false = refl

-- the bits from 0 on are all
pub bit_from-all : (mask f : ℕ) → is_bit_set_from 0 mask f ≡ is_bit_set mask f
bit_from-all mask f = let same : f - 0 ≡ f = omega arith in rw (le-leb 0 f (omega arith), same) refl

-- the bits from n on are bit n and those behind it
pub bit_from-next : (n mask f : ℕ) → is_bit_set_from n mask f ≡ (((f == n) && (mask % 2 == 1)) || is_bit_set_from (n + 1) (mask / 2) f)
bit_from-next n mask f = elim (cases_lt f n) [
  | inl below ↦ rw (not_le n f below, not_le (n + 1) f (omega arith), not_eq f n (omega arith)) refl
  | inr above ↦ elim (cases_eq f n) [
    | inl here ↦ let none : f - n ≡ 0 = omega arith in rw (le-leb n f above, not_le (n + 1) f (omega arith), eq-eqb f n here, none) (sym (or_false (mask % 2 == 1)))
    | inr apart ↦ let more : f - n ≡ suc (f - (n + 1)) = omega arith in rw (le-leb n f above, le-leb (n + 1) f (omega arith), not_eq f n apart, more) refl
  ]
]
  where
    or_false : (b : Bool) → (b || false) ≡ b
    or_false true = refl
    or_false false = refl

-- an entry that may be a step is one where its reply is due
pub step_is : (F : Flat) (e : Entry) → MayStep F e → (IsDue (tails_cleared F (is_bit_set e.cleared)) e ↔ IsStep F e)
step_is F e may = (λ due. record { files = may.files; alive = may.alive; unborn = may.unborn; due = due }, λ h. h.due)

-- what an answer says, said of what is alike
pub exact_of : {E : Type 0} (A B : Type 0) (r : Result Bool E) → IfOk r (λ b. IsTrue b ↔ A) → (A ↔ B) → IfOk r (λ b. IsTrue b ↔ B)
exact_of A B (Ok b) h same = (λ t. same.0 (h.0 t), λ x. h.1 (same.1 x))
exact_of A B (Err e) h same = tt

pub next_of : {E : Type 0} (x y z : Flat) (r : Result Bool E) → IfOk r (λ b. IsTrue b → x ≡ y) → y ≡ z → IfOk r (λ b. IsTrue b → x ≡ z)
next_of x y z (Ok b) h same = λ t. h t ∙ same
next_of x y z (Err e) h same = tt

-- a reply is due where it is the one that the call answers, or says that a transfer failed where one may have
pub due_by : (F : Flat) (e : Entry) (may : Type 0) (due : Reply) → (may ↔ MayFail F e.process e.call) → (effect F e.process e.call).reply ≡ due → (IsDueReply e.reply may due ↔ IsDue F e)
due_by F e may due fails is = by_reply e.reply
  where
    answers : (r : Reply) → (due ≡ without_start r) ↔ ((effect F e.process e.call).reply ≡ without_start r)
    answers r = (λ h. is ∙ h, λ h. sym is ∙ h)

    by_reply : (r : Reply) → IsDueReply r may due ↔ IsDue F (record e { reply = r })
    by_reply (reply.Io disk before after) = fails
    by_reply reply.Done = answers reply.Done
    by_reply (reply.Word w) = answers (reply.Word w)
    by_reply (reply.Mapped a) = answers (reply.Mapped a)
    by_reply (reply.Bytes line) = answers (reply.Bytes line)
    by_reply (reply.Synced from) = answers (reply.Synced from)
    by_reply (reply.Signal s) = answers (reply.Signal s)
    by_reply (reply.Refused errno) = answers (reply.Refused errno)

-- what an answer decides, by another way to say it
pub decided : (b : Bool) (A B : Type 0) → IsTrue b ↔ A → A ↔ B → IsTrue b ↔ B
decided b A B h same = (λ t. same.0 (h.0 t), λ x. h.1 (same.1 x))

-- one file's tail becomes zeros, and then those of the files behind it whose bits are set
pub bits_next : (F : Flat) (n mask : ℕ) → mask % 2 ≡ 1 → tails_cleared (record F { files = with_change_at without_tail F.files n }) (is_bit_set_from (n + 1) (mask / 2)) ≡ tails_cleared F (is_bit_set_from n mask)
bits_next F n mask odd =
    tails_one F (is_bit_set_from (n + 1) (mask / 2)) n (behind n (omega arith)) (λ f lt. behind f (omega arith))
    ∙ tails_alike F (λ f. (f == n) || is_bit_set_from (n + 1) (mask / 2) f) (is_bit_set_from n mask) (λ f. sym (bit_from-next n mask f ∙ ap (λ b. b || is_bit_set_from (n + 1) (mask / 2) f) (ap (λ b. (f == n) && b) (eq-eqb (mask % 2) 1 odd) ∙ and_true (f == n))))
  where
    behind : (f : ℕ) → f < n + 1 → is_bit_set_from (n + 1) (mask / 2) f ≡ false
    behind f lt = ap (λ b. b && is_bit_set (mask / 2) (f - (n + 1))) (not_le (n + 1) f lt)

    and_true : (b : Bool) → (b && true) ≡ b
    and_true true = refl
    and_true false = refl

-- no bit from n on where the first isn't set, but those behind it
pub bits_skip : (F : Flat) (n mask : ℕ) → mask % 2 ≡ 0 → tails_cleared F (is_bit_set_from (n + 1) (mask / 2)) ≡ tails_cleared F (is_bit_set_from n mask)
bits_skip F n mask even = tails_alike F (is_bit_set_from (n + 1) (mask / 2)) (is_bit_set_from n mask) (λ f. sym (bit_from-next n mask f ∙ ap (λ b. b || is_bit_set_from (n + 1) (mask / 2) f) (ap (λ b. (f == n) && b) (not_eq (mask % 2) 1 (omega arith)) ∙ and_false (f == n))))
  where
    and_false : (b : Bool) → (b && false) ≡ false
    and_false true = refl
    and_false false = refl

-- no bit at all
pub bits_none : (F : Flat) (n : ℕ) → F ≡ tails_cleared F (is_bit_set_from n 0)
bits_none F n = sym (ap (λ fs. record F { files = fs }) (cleared_none (is_bit_set_from n 0) F.files (bit_from-none n)))

-- the bits from 0 on
pub bits_all : (F : Flat) (mask : ℕ) → tails_cleared F (is_bit_set_from 0 mask) ≡ tails_cleared F (is_bit_set mask)
bits_all F mask = tails_alike F (is_bit_set_from 0 mask) (is_bit_set mask) (bit_from-all mask)

-- what a step that may not be one leaves is well formed
pub step_flat : {E : Type 0} (F G : Flat) (e : Entry) (r : Result Bool E) → IsFlat F → IsWellFormed e.call → IfOk r (λ is. IsTrue is ↔ IsStep F e) → IfOk r (λ is. IsTrue is → G ≡ step F e) → IfOk r (λ is. IsFalse is → G ≡ F) → OnErr r (G ≡ F) → IsFlat G
step_flat F G e (Ok true) flat well exact next stays err = subst IsFlat (sym (next refl)) (IsFlat-step F e flat well (exact.0 refl))
step_flat F G e (Ok false) flat well exact next stays err = subst IsFlat (sym (stays refl)) flat
step_flat F G e (Err x) flat well exact next stays err = subst IsFlat (sym err) flat

-- a result that is known to be good or bad
pub exact_at : {E : Type 0} (A B : Type 0) (r : Result Bool E) (b : Bool) → r ≡ Ok b → IsTrue b ↔ A → A ↔ B → IfOk r (λ x. IsTrue x ↔ B)
exact_at {E} A B r b is h same = subst (λ (s : Result Bool E). IfOk s (λ x. IsTrue x ↔ B)) (sym is) (decided b A B h same)

pub next_at : {E : Type 0} (x y z : Flat) (r : Result Bool E) (b : Bool) → r ≡ Ok b → (IsTrue b → x ≡ y) → y ≡ z → IfOk r (λ d. IsTrue d → x ≡ z)
next_at {E} x y z r b is h same = subst (λ (s : Result Bool E). IfOk s (λ d. IsTrue d → x ≡ z)) (sym is) (λ t. h t ∙ same)

pub if_ok_err : {A E : Type 0} (r : Result A E) (e : E) (P : A → Type 0) → r ≡ Err e → IfOk r P
if_ok_err {A} {E} r e P is = subst (λ (s : Result A E). IfOk s P) (sym is) tt

-- a reply is due to the same flat memory
pub due_along : (F G : Flat) (e : Entry) → F ≡ G → IsDue F e ↔ IsDue G e
due_along F G e same = (subst (λ (H : Flat). IsDue H e) same, subst (λ (H : Flat). IsDue H e) (sym same))

-- who was born doesn't hang on the files
pub unborn_over : (F : Flat) (files : List File) (call : Call) → IsUnborn F call → IsUnborn (record F { files = files }) call
unborn_over F files (Load a n) h = tt
unborn_over F files (Store a n v) h = tt
unborn_over F files (Map place len prot kind object offset) h = tt
unborn_over F files (Unmap a len) h = tt
unborn_over F files (Protect a len prot) h = tt
unborn_over F files (Sync a len) h = tt
unborn_over F files (Read file offset len) h = tt
unborn_over F files (Write file offset line rest) h = tt
unborn_over F files (Truncate file len) h = tt
unborn_over F files (Fork child) h = h
unborn_over F files Exit h = tt
