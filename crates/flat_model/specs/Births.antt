-- The test of a birth, and its laws. Public clauses cite this.
use Rattle.std.specs.Prelude.{ℕ, ◌≡◌, ◌==◌, ◌↔◌, ◌||◌, ◌++◌, Bool, true, false, List, ◌∷◌, All, None, IsSome, IsTrue, if◌then◌else◌}
use Rattle.std.specs.List.{list_any}
use Rattle.std.specs.FinSet as set
use Rattle.vm_types.specs.declared.call.Call.{Call}
use Rattle.vm_types.specs.declared.call.Call.TheVariants.{Fork, Exit}
use Rattle.vm_types.specs.declared.call.Reply.{Reply}
use Rattle.vm_types.specs.declared.call.Reply.TheVariants.{Done}
use Rattle.vm_types.specs.declared.call.Entry.{Entry}
use Rattle.flat_model.specs.Flat.{Flat, space_of}
use Rattle.flat_model.specs.Step.{IsStep, step}
use Rattle.flat_model.specs.History.{replay, Steps, IsBirth}

-- The reply says that the call was done, and nothing else.
abbrev pub is_done : Reply → Bool
is_done Done = true
is_done r = false

-- The call is a Fork whose child is this process.
abbrev pub is_fork_of : ℕ → Call → Bool
is_fork_of p (Fork child) = child == p
is_fork_of p call = false

-- The entry is the Fork that made the process.
abbrev pub is_birth : ℕ → Entry → Bool
is_birth p e = if is_done e.reply then is_fork_of p e.call else false

-- Who is alive was born.
abbrev pub AreBorn : Flat → Type 0
AreBorn F = (p : ℕ) → IsSome (space_of F p) → IsTrue (set.contains F.born p)

-- After a history those were born who were before it, and those whose birth it has. Who is alive was born, stays so. Who was born and isn't alive never is again; so who has exited makes no further entry.
pub record Births : Type 0 where
  pub birth : (p : ℕ) (e : Entry) → IsTrue (is_birth p e) ↔ IsBirth p e
  pub born : (F : Flat) (H : List Entry) (p : ℕ) → AreBorn F → Steps F H → set.contains (replay F H).born p ≡ (set.contains F.born p || list_any (is_birth p) H)
  pub alive : (F : Flat) (H : List Entry) → AreBorn F → Steps F H → AreBorn (replay F H)
  pub never_again : (F : Flat) (H : List Entry) (p : ℕ) → AreBorn F → Steps F H → IsTrue (set.contains F.born p) → space_of F p ≡ None → space_of (replay F H) p ≡ None
  pub exited : (F : Flat) (e : Entry) → IsStep F e → e.call ≡ Exit → space_of (step F e) e.process ≡ None
  pub no_more : (F : Flat) (H K : List Entry) (e : Entry) → AreBorn F → Steps F (H ++ e ∷ K) → e.call ≡ Exit → All (λ d. d.process ≡ e.process → ⊥) K
