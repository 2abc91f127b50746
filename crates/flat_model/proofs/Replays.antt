-- Histories that are joined.
use Rattle.std.proofs.Common.{◌≡◌, ℕ, List, [], ◌∷◌, ◌++◌, refl, sym, subst, append_assoc}
use Rattle.std.specs.Prelude.{◌==◌}
use Rattle.std.proofs.lemmas.List.{append-nil}
use Rattle.std.proofs.lemmas.List.Elements.{filter-append}
use Rattle.vm_types.specs.declared.call.Entry.{Entry}
use Rattle.flat_model.specs.Flat.{Flat}
use Rattle.flat_model.specs.Step.{step}
use Rattle.flat_model.specs.History.{replay, Steps, Legal}
use Rattle.flat_model.specs.Told.{entries_of}
use Rattle.flat_model.specs.ReplayLaws.{JoinedHistories}
use Rattle.flat_model.proofs.Histories.{Legal-front}

pub replay-append : (F : Flat) (H K : List Entry) → replay F (H ++ K) ≡ replay (replay F H) K
replay-append F [] K = refl
replay-append F (e ∷ H) K = replay-append (step F e) H K

pub Steps-append : (F : Flat) (H K : List Entry) → Steps F H → Steps (replay F H) K → Steps F (H ++ K)
Steps-append F [] K front rest = rest
Steps-append F (e ∷ H) K front rest = (front.0, Steps-append (step F e) H K front.1 rest)

pub Steps-split : (F : Flat) (H K : List Entry) → Steps F (H ++ K) → Steps F H × Steps (replay F H) K
Steps-split F [] K steps = (tt, steps)
Steps-split F (e ∷ H) K steps = let r = Steps-split (step F e) H K steps.1 in ((steps.0, r.0), r.1)

-- a property that one entry less keeps is that of each front
pub on_front : (P : List Entry → Type 0) → ((H : List Entry) (e : Entry) → P (H ++ e ∷ []) → P H) → (H K : List Entry) → P (H ++ K) → P H
on_front P less H [] is = subst P (append-nil H) is
on_front P less H (e ∷ K) is = less H e (on_front P less (H ++ e ∷ []) K (subst P (sym (append_assoc H (e ∷ []) K)) is))

pub Legal-of_front : (F : Flat) (H K : List Entry) → Legal F (H ++ K) → Legal F H
Legal-of_front F H K legal = on_front (Legal F) (λ G e is. (Legal-front F G e is).0) H K legal

pub entries_of-append : (H K : List Entry) (p : ℕ) → entries_of (H ++ K) p ≡ entries_of H p ++ entries_of K p
entries_of-append H K p = filter-append (λ e. e.process == p) H K

pub joined_histories_law : JoinedHistories
joined_histories_law = record { replayed = replay-append; steps = λ F H K. (Steps-split F H K, λ both. Steps-append F H K both.0 both.1); front = Legal-of_front; entries = entries_of-append }
