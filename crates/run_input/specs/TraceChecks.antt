-- How a trace was checked in place of a script. Public clauses cite this.
use Rattle.std.specs.Prelude.{ℕ, ◌≡◌, ◌≤◌, ◌<◌, true, List, [], length, Option, Some, IfSome, Ok, Err}
use Rattle.volume_files.specs.block_device.Counts.{HasRisen}
use Rattle.volume_files.specs.block_device.StreamSeen.{SinkSeen}
use Rattle.trace_check.specs.Checks.{IsChecked}
use Rattle.command_line.specs.declared.options.Options.{Options}
use Rattle.command_line.specs.declared.saying.Saying.TheVariants as says
use Rattle.command_line.specs.Sayings.{saying_of}
use Rattle.run_endings.specs.declared.ending.Ending.{Ending}
use Rattle.run_endings.specs.declared.ending.Ending.TheVariants as ending
use Rattle.run_endings.specs.declared.ending.TraceAnswer.{TraceAnswer}
use Rattle.run_endings.specs.declared.ending.TraceAnswer.TheVariants as answer
use Rattle.run_endings.specs.declared.ending.TraceEnd.TheVariants as ends
use Rattle.run_input.specs.Asked.{Given}
use Rattle.run_endings.specs.Ending.{answer_text}
use Rattle.volume_files.specs.stored_files.Texts.{Wrote, WroteOn, WrotePart}

-- The most bytes that a trace may have.
abbrev pub most_trace_bytes : ℕ
most_trace_bytes = 16777216

-- What a text is, as a trace: one that stands for a history, with its verdict; one with a first bad line; or one that is too long.
abbrev pub AnswersText : List ℕ → TraceAnswer → Type 0
AnswersText text (answer.Verdict v) = (length text ≤ most_trace_bytes) × IsChecked text (Ok v)
AnswersText text (answer.Fault f) = (length text ≤ most_trace_bytes) × IsChecked text (Err f)
AnswersText text answer.Long = most_trace_bytes < length text

-- The source's bytes, where it tells them, are a text with this answer; where it doesn't, some text has it.
abbrev pub AnswersSource : Option (List ℕ) → TraceAnswer → Type 0
AnswersSource rest a = (text : List ℕ) × IfSome rest (λ told. told ≡ text) × AnswersText text a

-- What is answered to these bytes is the answer to the source's.
abbrev pub KeepsAnswers : Option (List ℕ) → List ℕ → Type 0
KeepsAnswers rest bytes = (text : List ℕ) × IfSome rest (λ told. told ≡ text) × ((a : TraceAnswer) → AnswersText bytes a → AnswersText text a)

-- The line of an answer was written: of a verdict whole, of a fault as far as the sink took it.
abbrev pub WroteAnswer : SinkSeen → SinkSeen → TraceAnswer → Type 0
WroteAnswer old new (answer.Verdict v) = Wrote old new (answer_text (answer.Verdict v))
WroteAnswer old new a = WroteOn old new [] (answer_text a)

-- The sink failed in the line of a verdict.
abbrev pub StopsInAnswer : SinkSeen → SinkSeen → TraceAnswer → Type 0
StopsInAnswer old new (answer.Verdict v) = HasRisen old.faults new.faults × WrotePart old new (answer_text (answer.Verdict v))
StopsInAnswer old new a = ⊥

-- How the telling of an answer ends: it is told, or the sink failed in a verdict, or memory lacked for the line.
abbrev pub TellsAnswer : TraceAnswer → SinkSeen → SinkSeen → Ending → Type 0
TellsAnswer a old new (ending.Checked (ends.Told b)) = (b ≡ a) × WroteAnswer old new a
TellsAnswer a old new (ending.Checked ends.Sink) = StopsInAnswer old new a
TellsAnswer a old new ending.Memory = Wrote old new []
TellsAnswer a old new how = ⊥

-- A CHECK WAS ASKED FOR, and this is the answer.
pub record WasChecked (g : Given) (a : TraceAnswer) : Type 0 where
  pub options : Options
  pub words : saying_of g.words ≡ Some (says.Options options)
  pub check : options.check ≡ true
  pub source : AnswersSource g.rest a
