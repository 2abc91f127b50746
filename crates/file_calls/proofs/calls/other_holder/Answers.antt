use Rattle.std.proofs.Common.{◌≡◌, ℕ, Option, Some, None, sym, ap, ◌∙◌}
use Rattle.std.specs.Prelude.{slice_index_or}
use Rattle.file_calls.proofs.calls.other_holder.Goals as goal

pub returns-in-Some : goal.returns-in-Some
returns-in-Some c = λ t. (
  (λ is. let h = (c.other_than.ensures t).0 is in record { file = c.in-Some.file; of = sym c.in-Some.ensures; held = sym c.seat.ensures ∙ h.0; other = h.1 }),
  (λ a.
      let same : c.in-Some.file ≡ a.file = (let z : ◌≡◌ {A = Option ℕ} (Some c.in-Some.file) (Some a.file) = c.in-Some.ensures ∙ a.of in cc) in
      (c.other_than.ensures t).1 (c.seat.ensures ∙ ap (λ (k : ℕ). slice_index_or c.args.locks.now k None) same ∙ a.held, a.other)),
)
