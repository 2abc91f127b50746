-- How the last line of a run is printed. Inside: no clause of `run` cites this.
use Rattle.std.specs.Prelude.{◌≡◌, ◌≢◌, ◌⊎◌, []}
use Rattle.volume_files.specs.block_device.StreamSeen.{SinkSeen}
use Rattle.run_endings.specs.declared.ending.Ending.{Ending}
use Rattle.run_endings.specs.declared.ending.Ending.TheVariants as ending
use Rattle.run_endings.specs.Ending.{last_line_of}
use Rattle.volume_files.specs.stored_files.Texts.{WroteOn}

-- The last line was printed as far as the sink took it, and the run ends as it was to, without a
-- line no fault counted; or memory lacked for the line, and the sink wasn't called.
abbrev pub IsConcluded : Ending → SinkSeen → SinkSeen → Ending → Type 0
IsConcluded was old new how =
    ((how ≡ was) × WroteOn old new [] (last_line_of was) × (last_line_of was ≡ [] → new.faults ≡ old.faults))
    ⊎ ((how ≡ ending.Memory) × (new ≡ old) × (last_line_of was ≢ []))
