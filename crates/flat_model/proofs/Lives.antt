-- Who is born and who is alive, over a history.
use Rattle.flat_model.proofs.Named.{or_assoc}
use Rattle.std.proofs.Common.{◌≡◌, ℕ, ◌||◌, Bool, true, false, List, [], ◌∷◌, ◌++◌, None, refl, sym, ap, subst, ◌∙◌, inl, inr}
use Rattle.std.specs.Prelude.{All, IsTrue, is_some}
use Rattle.std.specs.List.{list_any}
use Rattle.std.specs.FinSet as set
use Rattle.std.proofs.lemmas.Bool.{cases_eq, or_left as or_first, or_right as or_second}
use Rattle.vm_types.specs.declared.call.Call.{Call}
use Rattle.vm_types.specs.declared.call.Call.TheVariants.{Exit}
use Rattle.vm_types.specs.declared.call.Entry.{Entry}
use Rattle.vm_types.specs.declared.call.Reply.{Reply}
use Rattle.vm_types.specs.declared.call.Reply.TheVariants as reply
use Rattle.flat_model.specs.Flat.{Flat, space_of}
use Rattle.flat_model.specs.Step.{IsUnborn, IsDue, IsStep, after_act, step, is_bit_set, tails_cleared}
use Rattle.flat_model.specs.History.{replay, Steps}
use Rattle.flat_model.specs.Births.{is_birth, AreBorn, Births}
use Rattle.flat_model.proofs.Ranges.{get-remove_here}
use Rattle.flat_model.proofs.Replays.{Steps-split}
use Rattle.flat_model.proofs.BirthTests.{is_birth-is}
use Rattle.flat_model.proofs.Frames.{StepFrame-step}
use Rattle.flat_model.proofs.WellFormed.{Each, All-Each}

-- who is alive was born, also after a step
pub AreBorn-step : (F : Flat) (e : Entry) → AreBorn F → IsStep F e → AreBorn (step F e)
AreBorn-step F e born is p alive =
    let frame = StepFrame-step F e born is in
    frame.born p ∙ elim (cases_eq p e.process) [
      | inl mine ↦ or_first (set.contains F.born p) (is_birth p e) (ap (set.contains F.born) mine ∙ born e.process is.alive)
      | inr other ↦ elim (is_birth p e) as (λ b. is_birth p e ≡ b → (set.contains F.born p || is_birth p e) ≡ true) [
        | true ↦ λ yes. or_second (set.contains F.born p) (is_birth p e) yes
        | false ↦ λ no_birth. or_first (set.contains F.born p) (is_birth p e) (born p (ap is_some (sym (frame.spaces p other no_birth)) ∙ alive))
      ] refl
    ]

pub AreBorn-replay : (F : Flat) (H : List Entry) → AreBorn F → Steps F H → AreBorn (replay F H)
AreBorn-replay F [] born steps = born
AreBorn-replay F (e ∷ H) born steps = AreBorn-replay (step F e) H (AreBorn-step F e born steps.0) steps.1

pub born-replay : (F : Flat) (H : List Entry) (p : ℕ) → AreBorn F → Steps F H → set.contains (replay F H).born p ≡ (set.contains F.born p || list_any (is_birth p) H)
born-replay F [] p born steps = or_nothing (set.contains F.born p)
  where
    or_nothing : (b : Bool) → b ≡ (b || false)
    or_nothing true = refl
    or_nothing false = refl
born-replay F (e ∷ H) p born steps =
    born-replay (step F e) H p (AreBorn-step F e born steps.0) steps.1 ∙ ap (λ b. b || list_any (is_birth p) H) ((StepFrame-step F e born steps.0).born p)
    ∙ or_assoc (set.contains F.born p) (is_birth p e) (list_any (is_birth p) H)

-- who was born and isn't alive does nothing, and isn't born again
pub gone-step : (F : Flat) (e : Entry) (p : ℕ) → AreBorn F → IsStep F e → IsTrue (set.contains F.born p) → space_of F p ≡ None → (e.process ≡ p → ⊥) × IsTrue (set.contains (step F e).born p) × (space_of (step F e) p ≡ None)
gone-step F e p born is was none =
    let frame = StepFrame-step F e born is in
    let other : e.process ≡ p → ⊥ = λ same. absurd (let gone = ap is_some (ap (space_of F) same ∙ none) in let both : true ≡ false = sym is.alive ∙ gone in cc) in
    let unborn : is_birth p e ≡ false = elim (is_birth p e) as (λ b. is_birth p e ≡ b → b ≡ false) [
      | true ↦ λ yes. absurd (let birth = (is_birth-is p e).0 yes in let never : set.contains F.born p ≡ false = subst (λ (c : Call). IsUnborn F c) birth.0 is.unborn in let both = sym was ∙ never in cc)
      | false ↦ λ no_birth. refl
    ] refl in
    (other, frame.born p ∙ or_first (set.contains F.born p) (is_birth p e) was, frame.spaces p (λ same. other (sym same)) unborn ∙ none)

pub gone-replay : (F : Flat) (H : List Entry) (p : ℕ) → AreBorn F → Steps F H → IsTrue (set.contains F.born p) → space_of F p ≡ None → space_of (replay F H) p ≡ None
gone-replay F [] p born steps was none = none
gone-replay F (e ∷ H) p born steps was none = let r = gone-step F e p born steps.0 was none in gone-replay (step F e) H p (AreBorn-step F e born steps.0) steps.1 r.1 r.2

none_of : (F : Flat) (K : List Entry) (p : ℕ) → AreBorn F → Steps F K → IsTrue (set.contains F.born p) → space_of F p ≡ None → Each (λ d. d.process ≡ p → ⊥) K
none_of F [] p born steps was none = tt
none_of F (e ∷ K) p born steps was none = let r = gone-step F e p born steps.0 was none in (r.0, none_of (step F e) K p (AreBorn-step F e born steps.0) steps.1 r.1 r.2)

exit_acted : (G : Flat) (p : ℕ) (call : Call) (cleared : ℕ) (r : Reply) → call ≡ Exit → IsDue G (record { process = p; call = call; reply = r; cleared = cleared }) → space_of (after_act G (record { process = p; call = call; reply = r; cleared = cleared })) p ≡ None
exit_acted G p Exit cleared (reply.Io disk before after) is due = absurd due
exit_acted G p Exit cleared r is due = get-remove_here G.spaces p
exit_acted G p call cleared r is due = absurd cc

pub exited-step : (F : Flat) (e : Entry) → IsStep F e → e.call ≡ Exit → space_of (step F e) e.process ≡ None
exited-step F e is exit = exit_acted (tails_cleared F (is_bit_set e.cleared)) e.process e.call e.cleared e.reply exit is.due

pub no_more : (F : Flat) (H K : List Entry) (e : Entry) → AreBorn F → Steps F (H ++ e ∷ K) → e.call ≡ Exit → All (λ d. d.process ≡ e.process → ⊥) K
no_more F H K e born steps exit =
    let parts = Steps-split F H (e ∷ K) steps in
    let G = replay F H in
    let alive = AreBorn-replay F H born parts.0 in
    let was = (StepFrame-step G e alive parts.1.0).born e.process ∙ or_first (set.contains G.born e.process) (is_birth e.process e) (alive e.process parts.1.0.alive) in
    All-Each (λ d. d.process ≡ e.process → ⊥) K (none_of (step G e) K e.process (AreBorn-step G e alive parts.1.0) parts.1.1 was (exited-step G e parts.1.0 exit))

pub births_law : Births
births_law = record { birth = is_birth-is; born = born-replay; alive = AreBorn-replay; never_again = gone-replay; exited = exited-step; no_more = no_more }
