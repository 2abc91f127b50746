-- Which processes a history's forks made, entry by entry.
use Rattle.vm_script.proofs.flat_model.Named.{or_assoc as or_moves}
use Rattle.vm_script.proofs.Flags.{or_false}
use Rattle.std.proofs.Common.{◌≡◌, ℕ, ◌<◌, ◌+◌, ◌==◌, Bool, true, false, ◌||◌, List, ◌∷◌, length, drop, get_or, refl, sym, ap, ◌∙◌, subst, cond, ⊎_elim, eq-eqb}
use Rattle.std.specs.Prelude.{slice_set, slice_index_or}
use Rattle.std.specs.List.{list_any}
use Rattle.std.proofs.lemmas.Bool.{false≢true, cases_Bool, eqb-true}
use Rattle.std.proofs.lemmas.List.{get_or-set_same, get_or-set_other, length-set, drop_more}
use Rattle.vm_script.specs.vm_types.declared.call.Call.{Call}
use Rattle.vm_script.specs.vm_types.declared.call.Call.TheVariants as call
use Rattle.vm_script.specs.vm_types.declared.call.Entry.{Entry}
use Rattle.vm_script.specs.vm_types.declared.call.Reply.{Reply}
use Rattle.vm_script.specs.vm_types.declared.call.Reply.TheVariants as reply
use Rattle.vm_script.specs.Told.{is_birth, is_fork_of, is_done}
use Rattle.vm_report.specs.Groups.{with_birth, birth_flag}

pub differs : (a b : ℕ) → (a == b) ≡ false → b ≡ a → ⊥
differs a b no_eq e = false≢true (sym no_eq ∙ eq-eqb a b (sym e))

or_true : (b : Bool) → (b || true) ≡ true
or_true true = refl
or_true false = refl

unborn : (bs : List Bool) (p : ℕ) → slice_index_or bs p false ≡ (slice_index_or bs p false || false)
unborn bs p = sym (or_false (slice_index_or bs p false))

unforked : (bs : List Bool) (done : Bool) (p : ℕ) → slice_index_or bs p false ≡ (slice_index_or bs p false || cond done false false)
unforked bs true p = unborn bs p
unforked bs false p = unborn bs p

birth_here : (bs : List Bool) (c : Call) (r : Reply) (p : ℕ) → p < length bs
    → slice_index_or (birth_flag bs c r) p false ≡ (slice_index_or bs p false || cond (is_done r) (is_fork_of p c) false)
birth_here bs (call.Fork child) reply.Done p lt =
    ⊎_elim
    (λ yes. subst (λ q. slice_index_or (slice_set bs q true) p false ≡ (slice_index_or bs p false || (q == p))) (sym (eqb-true child p yes))
    (get_or-set_same bs p true false lt ∙ sym (ap (λ b. slice_index_or bs p false || b) (eq-eqb p p refl) ∙ or_true (slice_index_or bs p false))))
    (λ non. get_or-set_other bs child p true false (differs child p non) ∙ sym (ap (λ b. slice_index_or bs p false || b) non ∙ or_false (slice_index_or bs p false)))
    (cases_Bool (child == p))
birth_here bs (call.Load a n) r p lt = unforked bs (is_done r) p
birth_here bs (call.Store a n v) r p lt = unforked bs (is_done r) p
birth_here bs (call.Map at len prot kind object offset) r p lt = unforked bs (is_done r) p
birth_here bs (call.Unmap a len) r p lt = unforked bs (is_done r) p
birth_here bs (call.Protect a len prot) r p lt = unforked bs (is_done r) p
birth_here bs (call.Sync a len) r p lt = unforked bs (is_done r) p
birth_here bs (call.Read file offset len) r p lt = unforked bs (is_done r) p
birth_here bs (call.Write file offset line rest) r p lt = unforked bs (is_done r) p
birth_here bs (call.Truncate file len) r p lt = unforked bs (is_done r) p
birth_here bs call.Exit r p lt = unforked bs (is_done r) p
birth_here bs (call.Fork child) (reply.Word v) p lt = unborn bs p
birth_here bs (call.Fork child) (reply.Mapped a) p lt = unborn bs p
birth_here bs (call.Fork child) (reply.Bytes line) p lt = unborn bs p
birth_here bs (call.Fork child) (reply.Synced from) p lt = unborn bs p
birth_here bs (call.Fork child) (reply.Signal s) p lt = unborn bs p
birth_here bs (call.Fork child) (reply.Refused e) p lt = unborn bs p
birth_here bs (call.Fork child) (reply.Io disk before after) p lt = unborn bs p

flag_length : (bs : List Bool) (c : Call) (r : Reply) → length (birth_flag bs c r) ≡ length bs
flag_length bs (call.Fork child) reply.Done = length-set bs child true
flag_length bs (call.Load a n) r = refl
flag_length bs (call.Store a n v) r = refl
flag_length bs (call.Map at len prot kind object offset) r = refl
flag_length bs (call.Unmap a len) r = refl
flag_length bs (call.Protect a len prot) r = refl
flag_length bs (call.Sync a len) r = refl
flag_length bs (call.Read file offset len) r = refl
flag_length bs (call.Write file offset line rest) r = refl
flag_length bs (call.Truncate file len) r = refl
flag_length bs call.Exit r = refl
flag_length bs (call.Fork child) (reply.Word v) = refl
flag_length bs (call.Fork child) (reply.Mapped a) = refl
flag_length bs (call.Fork child) (reply.Bytes line) = refl
flag_length bs (call.Fork child) (reply.Synced from) = refl
flag_length bs (call.Fork child) (reply.Signal s) = refl
flag_length bs (call.Fork child) (reply.Refused e) = refl
flag_length bs (call.Fork child) (reply.Io disk before after) = refl

-- The flags so far and the births still to come, one entry on.
birth_more : (bs next : List Bool) (e : Entry) (rest : List Entry) (all : Bool) (p : ℕ) → next ≡ with_birth bs e → p < length bs
    → (slice_index_or bs p false || list_any (is_birth p) (e ∷ rest)) ≡ all → (slice_index_or next p false || list_any (is_birth p) rest) ≡ all
birth_more bs next e rest all p is lt before =
    ap (λ (g : List Bool). slice_index_or g p false || list_any (is_birth p) rest) is
    ∙ (ap (λ b. b || list_any (is_birth p) rest) (birth_here bs e.call e.reply p lt)
    ∙ (or_moves (slice_index_or bs p false) (is_birth p e) (list_any (is_birth p) rest) ∙ before))

pub birth_length : (bs next : List Bool) (e : Entry) → next ≡ with_birth bs e → length next ≡ length bs
birth_length bs next e is = ap (λ (g : List Bool). length g) is ∙ flag_length bs e.call e.reply

pub birth_on : (bs next : List Bool) (H : List Entry) (all : Bool) (i : ℕ) (e : Entry) (p : ℕ) → i < length H → e ≡ get_or H i e → next ≡ with_birth bs e → p < length bs
    → (slice_index_or bs p false || list_any (is_birth p) (drop i H)) ≡ all → (slice_index_or next p false || list_any (is_birth p) (drop (i + 1) H)) ≡ all
birth_on bs next H all i e p at is more lt before =
    birth_more bs next e (drop (i + 1) H) all p more lt
    (ap (λ (ys : List Entry). slice_index_or bs p false || list_any (is_birth p) ys) (ap (λ y. y ∷ drop (i + 1) H) is ∙ sym (drop_more H i e at)) ∙ before)
