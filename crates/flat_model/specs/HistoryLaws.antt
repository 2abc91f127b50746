-- Laws of steps and histories. Public clauses cite this.
use Rattle.std.specs.Prelude.{ℕ, ◌≡◌, ◌↔◌, ◌++◌, List, [], ◌∷◌, length, Option, Some, None, MatchOption, false, if◌then◌else◌}
use Rattle.std.specs.Option.{option_map_or}
use Rattle.vm_types.specs.declared.call.Entry.{Entry}
use Rattle.vm_types.specs.declared.call.Reply.{Reply}
use Rattle.vm_types.specs.declared.call.Reply.TheVariants as reply
use Rattle.vm_types.specs.Parts.{file_of_call, ends_call}
use Rattle.flat_model.specs.Flat.{Flat}
use Rattle.flat_model.specs.Step.{IsStep, step, is_bit_set, tails_cleared}
use Rattle.flat_model.specs.History.{replay, Legal, IsSyncStart, is_of_file, is_aside, IsNextOwn}

-- The reply says that the call wasn't done: a signal, a refusal, or a transfer that failed.
abbrev pub IsNoAction : Reply → Type 0
IsNoAction (reply.Signal s) = Unit {0}
IsNoAction (reply.Refused e) = Unit {0}
IsNoAction (reply.Io disk before after) = Unit {0}
IsNoAction r = ⊥

-- A step whose call wasn't done changes nothing but the tails that it names.
pub record Quiet : Type 0 where
  pub unchanged : (F : Flat) (e : Entry) → IsStep F e → IsNoAction e.reply → step F e ≡ tails_cleared F (is_bit_set e.cleared)

-- The process whose call of a file is between two parts, if there is one, after an entry more.
abbrev pub open_after : ℕ → Option ℕ → Entry → Option ℕ
open_after f holder e = if is_of_file f e then (if option_map_or (λ p. is_aside p e) holder false then holder else (if ends_call e.call e.reply then None else Some e.process)) else holder

-- The process whose call of a file is between two parts after these entries, if there is one;
-- before them it was the holder, if there was one.
abbrev pub open_from : ℕ → Option ℕ → List Entry → Option ℕ
open_from f holder [] = holder
open_from f holder (e ∷ H) = open_from f (open_after f holder e) H

-- The process whose call of a file is between two parts after a history.
abbrev pub open_call : ℕ → List Entry → Option ℕ
open_call f H = open_from f None H

-- The entry may be the next one of its file: where a call is between two parts, it is a part of that call's process, or another process's
-- call that met Io.
abbrev pub IsNextPart : List Entry → Entry → Type 0
IsNextPart H e = MatchOption (file_of_call e.call) (Unit {0}) (λ f. MatchOption (open_call f H) (Unit {0}) (λ p. IsNextOwn f p (e ∷ [])))

-- The entry may come behind the history.
pub record IsNext (F : Flat) (H : List Entry) (e : Entry) : Type 0 where
  pub step : IsStep (replay F H) e
  pub sync : IsSyncStart H (length H) e
  pub part : IsNextPart H e

-- A history with an entry more is legal exactly where the history is and the entry may come behind it, and flat memory after it is a step from what it was before.
pub record OneMore : Type 0 where
  pub replayed : (F : Flat) (H : List Entry) (e : Entry) → replay F (H ++ e ∷ []) ≡ step (replay F H) e
  pub legal : (F : Flat) (H : List Entry) (e : Entry) → Legal F (H ++ e ∷ []) ↔ (Legal F H × IsNext F H e)
