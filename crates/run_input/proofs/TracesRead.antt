-- The source's bytes as a trace: what is answered to the bytes that were read is the answer to all of them.
use Rattle.std.proofs.Common.{◌≡◌, ◌∙◌, ℕ, ◌≤◌, ◌<◌, List, [], ◌++◌, length, Option, Some, None, refl, sym, ap, subst, append-nil, length-append, arith}
use Rattle.std.specs.Prelude.{IfSome}
use Rattle.std.proofs.lemmas.Option.{same_Some}
use Rattle.volume_files.specs.block_device.StreamSeen.{Came}
use Rattle.run_endings.specs.declared.ending.TraceAnswer.{TraceAnswer}
use Rattle.run_endings.specs.declared.ending.TraceAnswer.TheVariants as answer
use Rattle.run_input.specs.TraceChecks.{AnswersText, KeepsAnswers}

module _ (told bytes more : List ℕ) (is : told ≡ bytes ++ more) (ended : length bytes < 16777217 → more ≡ []) where
  all-read : length bytes ≤ 16777216 → told ≡ bytes
  all-read short = is ∙ (ap (λ xs. bytes ++ xs) (ended (omega (arith, short))) ∙ append-nil bytes)

  keeps-one : (a : TraceAnswer) → AnswersText bytes a → AnswersText told a
  keeps-one (answer.Verdict v) h = subst (λ (x : List ℕ). AnswersText x (answer.Verdict v)) (sym (all-read h.0)) h
  keeps-one (answer.Fault f) h = subst (λ (x : List ℕ). AnswersText x (answer.Fault f)) (sym (all-read h.0)) h
  keeps-one answer.Long h =
      let size = ap (λ (x : List ℕ). length x) is ∙ length-append bytes more in
      omega (arith, size, h)

pub keeps-answers : (rest after : Option (List ℕ)) (bytes : List ℕ) → Came rest bytes after → (length bytes < 16777217 → IfSome after (λ more. more ≡ [])) → KeepsAnswers rest bytes
keeps-answers None after bytes came ended = (bytes, tt, λ a h. h)
keeps-answers (Some told) None bytes came ended = absurd cc
keeps-answers (Some told) (Some more) bytes came ended = (told, refl, keeps-one told bytes more (same_Some told (bytes ++ more) came) ended)
