-- Why nothing was opened, or a trace stopped in its opening part.
use Rattle.std.proofs.Common.{◌≡◌, List, ℕ, refl, subst, sym}
use Rattle.std.specs.Prelude.{Err}
use Rattle.command_line.specs.declared.options.Options.{Options}
use Rattle.volume_files.specs.block_device.DiskSeen.{DiskSeen}
use Rattle.volume_files.specs.block_device.OpenSeen.{OpenFaultSeen}
use Rattle.volume_files.specs.block_device.StreamSeen.{SinkSeen}
use Rattle.volume_files.specs.stored_files.declared.showing.ShowStop.{ShowStop}
use Rattle.volume_files.specs.stored_files.declared.showing.ShowStop.TheVariants as show
use Rattle.volume_files.specs.declared.stops.OpenStop.{OpenStop}
use Rattle.volume_files.specs.declared.stops.OpenStop.TheVariants as halt
use Rattle.volume_files.specs.vm_script.PlanSeen.{PlanSeen}
use Rattle.volume_files.specs.stored_files.Uncut.{UnlessCut}
use Rattle.volume_files.specs.Opened.{OpenedFile}
use Rattle.volume_files.specs.Unfailed.{UnlessRack}
use Rattle.run_endings.specs.declared.ending.Ending.{Ending}
use Rattle.run_endings.specs.declared.ending.Ending.TheVariants as ending
use Rattle.run_report.specs.ReportEnds.{UnlessEnded}
use Rattle.run_opening.specs.Ready.{TraceStops, opening_stop}
use Rattle.run_endings.specs.Ending.{IsQuiet, ending_of}
use Rattle.run_outcome.specs.Run.{UnlessRacked}

-- why nothing was opened
pub racked-of : (P : Type 0) (why : OpenStop) → UnlessRack why P → UnlessRacked (ending_of why) P
racked-of P halt.Memory p = p
racked-of P (halt.Refused r) p = p
racked-of P (halt.Failed f) p = p

-- a trace that stopped wrote no whole report
pub quiet-trace : (o : Options) (plan : PlanSeen) (files : List OpenedFile) (bytes : ℕ → List ℕ) (k0 k1 : SinkSeen) (old new : List (ℕ × DiskSeen)) (how : Ending) → IsQuiet how
    → TraceStops o plan files bytes k0 k1 old new how → how ≡ ending.Memory
quiet-trace o plan files bytes k0 k1 old new ending.Memory q t = refl
quiet-trace o plan files bytes k0 k1 old new ending.Whole q t = absurd t
quiet-trace o plan files bytes k0 k1 old new ending.Usage q t = absurd q
quiet-trace o plan files bytes k0 k1 old new (ending.NoScript x) q t = absurd q
quiet-trace o plan files bytes k0 k1 old new (ending.Refused x) q t = absurd q
quiet-trace o plan files bytes k0 k1 old new ending.NotRead q t = absurd q
quiet-trace o plan files bytes k0 k1 old new ending.OpeningSink q t = absurd q
quiet-trace o plan files bytes k0 k1 old new ending.Sink q t = absurd q
quiet-trace o plan files bytes k0 k1 old new (ending.Opening x) q t = absurd q
quiet-trace o plan files bytes k0 k1 old new (ending.Closing x) q t = absurd q
quiet-trace o plan files bytes k0 k1 old new (ending.Showing x) q t = absurd q
quiet-trace o plan files bytes k0 k1 old new (ending.Checked x) q t = absurd q
quiet-trace o plan files bytes k0 k1 old new (ending.Informed x) q t = absurd q

-- a trace that stopped
pub unless-opening : {P Q : Type 0} (s : ShowStop OpenFaultSeen) (how : Ending) → how ≡ opening_stop s → (P → Q) → UnlessCut {T = Unit {0}} (Err s) P → UnlessEnded {T = Unit {0}} (Err how) Q
unless-opening {P} {Q} s how is f p = subst (λ (e : Ending). UnlessEnded {T = Unit {0}} (Err e) Q) (sym is) (by s p)
  where
    by : (s : ShowStop OpenFaultSeen) → UnlessCut {T = Unit {0}} (Err s) P → UnlessEnded {T = Unit {0}} (Err (opening_stop s)) Q
    by show.Memory p = f p
    by show.Sink p = tt
    by (show.Fault x) p = tt
