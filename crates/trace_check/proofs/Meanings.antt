-- What a text stands for is one, and so is its answer.
use Rattle.std.proofs.Common.{◌≡◌, ℕ, ◌≤◌, ◌<◌, ◌+◌, List, ◌++◌, length, take, drop, Result, Ok, Err, inl, inr, refl, sym, subst, ap, ◌∙◌, append_assoc, arith}
use Rattle.std.proofs.lemmas.Bool.{cases_order}
use Rattle.std.proofs.lemmas.List.{take-take, take-append-drop}
use Rattle.flat_model.specs.vm_types.declared.call.Entry.{Entry}
use Rattle.flat_model.specs.Flat.{Flat}
use Rattle.trace_text.specs.Traces.{Trace, trace_text}
use Rattle.trace_text.specs.TraceForm.{IsTrace}
use Rattle.trace_text.specs.TraceLines.{fed_lines}
use Rattle.trace_text.specs.BadLines.{BeginTrace, IsBadBehind, IsFirstBadLine}
use Rattle.trace_check.specs.declared.verdict.Verdict.{Verdict}
use Rattle.trace_check.specs.declared.verdict.Verdict.TheVariants as verdict
use Rattle.trace_check.specs.declared.verdict.TraceFault.{TraceFault}
use Rattle.trace_check.specs.Checks.{IsTextFor, flat_of_trace, IsChecked}
use Rattle.trace_check.specs.Verdicts.{IsFirstIllegal, IsVerdict}
use Rattle.trace_check.proofs.Seen.{legal_front}

abbrev pub OneTrace : Type 0
OneTrace = (t u : Trace) → IsTrace t → IsTrace u → trace_text t ≡ trace_text u → t ≡ u

abbrev pub OneMeaning : Type 0
OneMeaning = (text : List ℕ) (F G : Flat) (H K : List Entry) → IsTextFor text F H → IsTextFor text G K → (F ≡ G) × (H ≡ K)

pub one_meaning : OneTrace → OneMeaning
one_meaning one text F G H K a b =
    let same = one a.trace b.trace a.is b.is (sym a.print ∙ b.print) in
    (a.flat ∙ (ap (λ (t : Trace). flat_of_trace t) same ∙ sym b.flat), a.history ∙ (ap (λ (t : Trace). t.history) same ∙ sym b.history))

-- verdicts
one_first : (F : Flat) (H : List Entry) (j k : ℕ) → IsFirstIllegal F H j → IsFirstIllegal F H k → j ≡ k
one_first F H j k a b = elim (cases_order j k) [
  | inl same ↦ same
  | inr apart ↦ elim apart [ inl less ↦ absurd (a.illegal (b.first j less)) | inr more ↦ absurd (b.illegal (a.first k more)) ]
]

one_verdict : (F : Flat) (H : List Entry) (v w : Verdict) → IsVerdict F H v → IsVerdict F H w → v ≡ w
one_verdict F H (verdict.Legal n) (verdict.Legal m) a b = ap (λ (k : ℕ). verdict.Legal k) (a.1 ∙ sym b.1)
one_verdict F H (verdict.Legal n) (verdict.First k) a b = absurd (b.illegal (legal_front F H (k + 1) a.0))
one_verdict F H (verdict.First j) (verdict.Legal n) a b = absurd (a.illegal (legal_front F H (j + 1) b.0))
one_verdict F H (verdict.First j) (verdict.First k) a b = ap (λ (n : ℕ). verdict.First n) (one_first F H j k a b)

-- a trace's text has no bad line
pub no_bad_line : (text : List ℕ) (F : Flat) (H : List Entry) (line : ℕ) → IsTextFor text F H → ¬ IsFirstBadLine text line
no_bad_line text F H line stands = λ bad.
    let k = bad.0 in
    let lines = ap fed_lines (sym stands.print) ∙ sym (take-append-drop (k + 1) (fed_lines text)) in
    elim bad.2.bad [
      | inl early ↦ early.1 (stands.trace, stands.is, drop (k + 1) (fed_lines text), lines)
      | inr late ↦ late.1 (stands.trace, stands.is, stands.print)
    ]

-- fewer lines begin a trace where more do
fewer_begin : (ls : List (List ℕ)) (j k : ℕ) → j ≤ k → BeginTrace (take k ls) → BeginTrace (take j ls)
fewer_begin ls j k le begun =
    let front = take-take j k ls le in
    let lines = begun.3 ∙ (ap (λ (xs : List (List ℕ)). xs ++ begun.2) (sym (take-append-drop j (take k ls)) ∙ ap (λ (xs : List (List ℕ)). xs ++ drop j (take k ls)) front)
    ∙ append_assoc (take j ls) (drop j (take k ls)) begun.2) in
    (begun.0, begun.1, drop j (take k ls) ++ begun.2, lines)

not_later : (text : List ℕ) (j k : ℕ) → IsBadBehind text j → IsBadBehind text k → j < k → ⊥
not_later text j k a b less = elim a.bad [
  | inl early ↦ early.1 (fewer_begin (fed_lines text) (j + 1) k (omega (arith, less)) b.good)
  | inr late ↦ elim b.bad [
    | inl inside ↦ (let all = late.0 in let in_lines = inside.0 in absurd (omega (arith, all, in_lines, less)))
    | inr whole ↦ (let all = late.0 in let too = whole.0 in absurd (omega (arith, all, too, less)))
  ]
]

one_bad_line : (text : List ℕ) (m n : ℕ) → IsFirstBadLine text m → IsFirstBadLine text n → m ≡ n
one_bad_line text m n a b = elim (cases_order a.0 b.0) [
  | inl same ↦ a.1 ∙ (ap (λ k. k + 1) same ∙ sym b.1)
  | inr apart ↦ elim apart [ inl less ↦ absurd (not_later text a.0 b.0 a.2 b.2 less) | inr more ↦ absurd (not_later text b.0 a.0 b.2 a.2 more) ]
]

fault_at : ℕ → TraceFault
fault_at line = record { line = line }

pub one_answer : OneMeaning → (text : List ℕ) (a b : Result Verdict TraceFault) → IsChecked text a → IsChecked text b → a ≡ b
unfolding fault_at
one_answer one text (Ok v) (Ok w) a b =
    let same = one text b.0 a.0 b.1 a.1 b.2 a.2 in
    let here = subst (λ (F : Flat). IsVerdict F b.1 w) same.0 b.3 in
    let there = subst (λ (H : List Entry). IsVerdict a.0 H w) same.1 here in
    ap (λ (x : Verdict). Ok x) (one_verdict a.0 a.1 v w a.3 there)
one_answer one text (Ok v) (Err g) a b = absurd (no_bad_line text a.0 a.1 g.line a.2 b)
one_answer one text (Err f) (Ok w) a b = absurd (no_bad_line text b.0 b.1 f.line b.2 a)
one_answer one text (Err f) (Err g) a b = ap (λ (line : ℕ). Err (fault_at line)) (one_bad_line text f.line g.line a b)
