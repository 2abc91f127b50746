-- What is said unless the source failed.
use Rattle.std.proofs.Common.{◌≡◌, refl}
use Rattle.std.specs.Prelude.{◌≢◌, Result, Ok, Err}
use Rattle.run_endings.specs.declared.ending.Ending.{Ending}
use Rattle.run_endings.specs.declared.ending.Ending.TheVariants as ending
use Rattle.run_endings.specs.Ending.{IsQuiet}
use Rattle.run_endings.specs.declared.ending.TraceAnswer.{TraceAnswer}
use Rattle.volume_files.specs.block_device.StreamSeen.{SinkSeen}
use Rattle.run_input.specs.Reading.{UnlessUnread}
use Rattle.run_input.specs.TraceChecks.{TellsAnswer}
use Rattle.run_input.specs.Inquired.{TellsInquiry}
use Rattle.command_line.specs.declared.inquiry.Inquiry.{Inquiry}

-- whatever a call answered that doesn't read
pub said-anyway : (T : Type 0) {P : Type 0} (r : Result T Ending) → P → UnlessUnread r P
said-anyway T (Ok x) p = p
said-anyway T (Err ending.NotRead) p = tt
said-anyway T (Err ending.Whole) p = p
said-anyway T (Err ending.Usage) p = p
said-anyway T (Err (ending.NoScript x)) p = p
said-anyway T (Err (ending.Refused x)) p = p
said-anyway T (Err ending.OpeningSink) p = p
said-anyway T (Err ending.Sink) p = p
said-anyway T (Err (ending.Opening x)) p = p
said-anyway T (Err (ending.Closing x)) p = p
said-anyway T (Err (ending.Showing x)) p = p
said-anyway T (Err (ending.Checked x)) p = p
said-anyway T (Err (ending.Informed x)) p = p
said-anyway T (Err ending.Memory) p = p

-- where it ended otherwise
pub unless-not-read : (T : Type 0) {P : Type 0} (how : Ending) → how ≢ ending.NotRead → UnlessUnread {T = T} (Err how) P → P
unless-not-read T ending.NotRead other p = absurd (other refl)
unless-not-read T ending.Whole other p = p
unless-not-read T ending.Memory other p = p
unless-not-read T ending.Usage other p = p
unless-not-read T (ending.NoScript x) other p = p
unless-not-read T (ending.Refused x) other p = p
unless-not-read T ending.OpeningSink other p = p
unless-not-read T ending.Sink other p = p
unless-not-read T (ending.Opening x) other p = p
unless-not-read T (ending.Closing x) other p = p
unless-not-read T (ending.Showing x) other p = p
unless-not-read T (ending.Checked x) other p = p
unless-not-read T (ending.Informed x) other p = p

-- an answer is no whole report
pub quiet-answer : (a : TraceAnswer) (k0 k1 : SinkSeen) (how : Ending) → TellsAnswer a k0 k1 how → IsQuiet how → how ≡ ending.Memory
quiet-answer a k0 k1 ending.Memory tells q = refl
quiet-answer a k0 k1 ending.Whole tells q = absurd tells
quiet-answer a k0 k1 ending.Usage tells q = absurd q
quiet-answer a k0 k1 (ending.NoScript x) tells q = absurd q
quiet-answer a k0 k1 (ending.Refused x) tells q = absurd q
quiet-answer a k0 k1 ending.NotRead tells q = absurd q
quiet-answer a k0 k1 ending.OpeningSink tells q = absurd q
quiet-answer a k0 k1 ending.Sink tells q = absurd q
quiet-answer a k0 k1 (ending.Opening x) tells q = absurd q
quiet-answer a k0 k1 (ending.Closing x) tells q = absurd q
quiet-answer a k0 k1 (ending.Showing x) tells q = absurd q
quiet-answer a k0 k1 (ending.Checked x) tells q = absurd q
quiet-answer a k0 k1 (ending.Informed x) tells q = absurd q

-- what is asked about the program itself is no whole report
pub loud-inquiry : (p : Inquiry) (k0 k1 : SinkSeen) (how : Ending) → TellsInquiry p k0 k1 how → IsQuiet how → ⊥
loud-inquiry p k0 k1 (ending.Informed x) tells q = q
loud-inquiry p k0 k1 ending.Memory tells q = tells
loud-inquiry p k0 k1 ending.Whole tells q = tells
loud-inquiry p k0 k1 ending.Usage tells q = q
loud-inquiry p k0 k1 (ending.NoScript x) tells q = q
loud-inquiry p k0 k1 (ending.Refused x) tells q = q
loud-inquiry p k0 k1 ending.NotRead tells q = q
loud-inquiry p k0 k1 ending.OpeningSink tells q = q
loud-inquiry p k0 k1 ending.Sink tells q = q
loud-inquiry p k0 k1 (ending.Opening x) tells q = q
loud-inquiry p k0 k1 (ending.Closing x) tells q = q
loud-inquiry p k0 k1 (ending.Showing x) tells q = q
loud-inquiry p k0 k1 (ending.Checked x) tells q = q
