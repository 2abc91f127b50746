-- Which tails become zeros. Public clauses cite this.
use Rattle.std.specs.Prelude.{ℕ, ◌≡◌, ◌<◌, ◌||◌, Bool, false, length, option_map, slice_get, All, if◌then◌else◌}
use Rattle.flat_model.specs.Flat.{Flat, IsFile}
use Rattle.flat_model.specs.Parts.{without_tail}
use Rattle.flat_model.specs.Step.{tails_cleared}

-- The tail of file f becomes zeros exactly where f passes the test, and each other file stays as it was. Tests that agree on the files do the same; one that no file passes does nothing; and one after another they do what either does.
pub record ClearedTails : Type 0 where
  pub each : (F : Flat) (test : ℕ → Bool) (f : ℕ) → slice_get (tails_cleared F test).files f ≡ option_map (λ file. if test f then without_tail file else file) (slice_get F.files f)
  pub alike : (F : Flat) (s t : ℕ → Bool) → ((f : ℕ) → f < length F.files → s f ≡ t f) → tails_cleared F s ≡ tails_cleared F t
  pub none : (F : Flat) → tails_cleared F (λ f. false) ≡ F
  pub twice : (F : Flat) (s t : ℕ → Bool) → All IsFile F.files → tails_cleared (tails_cleared F s) t ≡ tails_cleared F (λ f. s f || t f)
