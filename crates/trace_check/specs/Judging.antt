-- What the judge of a history keeps. Inside: no public clause cites this.
use Rattle.std.specs.Prelude.{ℕ, ◌≡◌, List, [], ◌∷◌, ◌++◌, length, MatchOption, unwrap_or}
use Rattle.std.specs.BTreeMap.{get}
use Rattle.std.specs.Ordering.{nat_cmp}
use Rattle.flat_model.specs.vm_types.declared.call.Entry.{Entry}
use Rattle.flat_model.specs.Flat.{Flat}
use Rattle.flat_model.specs.History.{replay, Legal}
use Rattle.flat_model.specs.HistoryLaws.{open_call}
use Rattle.flat_model.specs.SyncLaws.{first_start}
use Rattle.trace_text.specs.vm_report.Trace.{entry_text}
use Rattle.trace_text.specs.EntryForm.{IsTracedEntry}
use Rattle.trace_check.specs.declared.judge.Judge.{Judge}
use Rattle.trace_check.specs.Verdicts.{IsFirstIllegal}

-- The judge has seen this history from this flat memory on, and it is legal: it keeps flat memory after it, whose call of each file is between two
-- parts, and for each process the first position at which a Sync of it may have begun.
pub record HasTaken (F : Flat) (H : List Entry) (judge : Judge) : Type 0 where
  pub legal : Legal F H
  pub flat : judge.flat ≡ replay F H
  pub count : judge.count ≡ length H
  pub holders : (f : ℕ) → get nat_cmp judge.holders f ≡ open_call f H
  pub starts : (p : ℕ) → unwrap_or (get nat_cmp judge.starts p) 0 ≡ first_start p H

-- The judge has seen the history, or found its first entry with which it isn't legal.
abbrev pub HasJudged : Flat → List Entry → Judge → Type 0
HasJudged F H judge = MatchOption judge.first (HasTaken F H judge) (IsFirstIllegal F H)

-- The line is an entry's, which the judge took.
pub record TakesEntry (line : List ℕ) (old new : Judge) : Type 0 where
  pub entry : Entry
  pub may : IsTracedEntry entry
  pub text : line ≡ entry_text entry
  pub judged : (F : Flat) (H : List Entry) → HasJudged F H old → HasJudged F (H ++ entry ∷ []) new
