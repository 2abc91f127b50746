-- Want of memory hides no failure: what is said unless the sink or a disk failed, where memory lacked.
use Rattle.std.proofs.Common.{◌≡◌, List, ℕ, refl, subst}
use Rattle.std.specs.Prelude.{Result, Ok, Err}
use Rattle.volume_files.specs.block_device.StreamSeen.{SinkSeen}
use Rattle.volume_files.specs.block_device.declared.disk_fault.DiskFault.{DiskFault}
use Rattle.volume_files.specs.stored_files.declared.showing.ShowStop.{ShowStop}
use Rattle.volume_files.specs.stored_files.declared.showing.ShowStop.TheVariants as show
use Rattle.volume_files.specs.stored_files.Uncut.{UnlessCut}
use Rattle.run_endings.specs.declared.ending.Ending.{Ending}
use Rattle.run_endings.specs.declared.ending.Ending.TheVariants as ending
use Rattle.run_endings.specs.Ending.{IsQuiet}
use Rattle.run_report.specs.ReportEnds.{MiddleStops, UnlessEnded, showing_stop}

pub where-ended : (T : Type 0) {P : Type 0} (how : Ending) → how ≡ ending.Memory → UnlessEnded {T = T} (Err how) P → P
where-ended T {P} how memory p = subst (λ (e : Ending). UnlessEnded {T = T} (Err e) P) memory p

pub unless-ended : {P Q : Type 0} (r : Result (Unit {0}) Ending) → (P → Q) → UnlessEnded r P → UnlessEnded r Q
unless-ended (Ok x) f p = f p
unless-ended (Err ending.NotRead) f p = tt
unless-ended (Err ending.Whole) f p = tt
unless-ended (Err ending.Usage) f p = tt
unless-ended (Err (ending.NoScript x)) f p = tt
unless-ended (Err (ending.Refused x)) f p = tt
unless-ended (Err ending.OpeningSink) f p = tt
unless-ended (Err ending.Sink) f p = tt
unless-ended (Err (ending.Opening x)) f p = tt
unless-ended (Err (ending.Closing x)) f p = tt
unless-ended (Err (ending.Showing x)) f p = tt
unless-ended (Err (ending.Checked x)) f p = tt
unless-ended (Err (ending.Informed x)) f p = tt
unless-ended (Err ending.Memory) f p = f p

pub where-shown : {P : Type 0} (s : ShowStop DiskFault) → showing_stop s ≡ ending.Memory → UnlessCut {T = Unit {0}} (Err s) P → P
where-shown show.Memory memory p = p
where-shown show.Sink memory p = absurd (let z : ◌≡◌ {A = Ending} ending.Sink ending.Memory = memory in cc)
where-shown (show.Fault f) memory p = absurd (let z : ◌≡◌ {A = Ending} (ending.Showing f) ending.Memory = memory in cc)

-- what stopped wrote no whole report
pub quiet-middle : (text : List ℕ) (k0 k1 : SinkSeen) (how : Ending) → IsQuiet how → MiddleStops text k0 k1 how → how ≡ ending.Memory
quiet-middle text k0 k1 ending.Memory q stops = refl
quiet-middle text k0 k1 ending.Whole q stops = absurd stops
quiet-middle text k0 k1 ending.Usage q stops = absurd q
quiet-middle text k0 k1 (ending.NoScript x) q stops = absurd q
quiet-middle text k0 k1 (ending.Refused x) q stops = absurd q
quiet-middle text k0 k1 ending.NotRead q stops = absurd q
quiet-middle text k0 k1 ending.OpeningSink q stops = absurd q
quiet-middle text k0 k1 ending.Sink q stops = absurd q
quiet-middle text k0 k1 (ending.Opening x) q stops = absurd q
quiet-middle text k0 k1 (ending.Closing x) q stops = absurd q
quiet-middle text k0 k1 (ending.Showing x) q stops = absurd q
quiet-middle text k0 k1 (ending.Checked x) q stops = absurd q
quiet-middle text k0 k1 (ending.Informed x) q stops = absurd q

pub quiet-shown : (s : ShowStop DiskFault) → IsQuiet (showing_stop s) → showing_stop s ≡ ending.Memory
quiet-shown show.Memory q = refl
quiet-shown show.Sink q = absurd q
quiet-shown (show.Fault f) q = absurd q
