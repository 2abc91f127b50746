-- A run that stopped before its last line. Inside: no clause of `run` cites this.
use Rattle.std.specs.Prelude.{ℕ, ◌≡◌, ◌≤◌, ◌+◌, map, Option, option_map}
use Rattle.volume_files.specs.block_device.DiskSeen.{DiskSeen}
use Rattle.volume_files.specs.block_device.StreamSeen.{SinkSeen}
use Rattle.run_outcome.specs.declared.stop.Stop.{Stop}
use Rattle.run_endings.specs.declared.fault.RunFault.{RunFault}
use Rattle.run_input.specs.Asked.{Given}
use Rattle.run_outcome.specs.Ended.{stop_end}
use Rattle.volume_files.specs.Handed.{member_count}
use Rattle.run_outcome.specs.Run.{CaseOf, FailsOnce, Outside, wrote_before}

-- A run that stopped ends in the case of its ending, whatever its status and fault will be.
abbrev pub HasCase : Given → Outside → {D : Type 0} → (D → DiskSeen) → Stop D → Type 0
HasCase g o seen s = (st : ℕ) (ft : Option RunFault) → CaseOf g o (wrote_before o) (record (stop_end seen s) { status = st; fault = ft }) s.ending

-- A RUN STOPPED, and its last line is to be printed: it ends in the case of its ending, by its first failure; each disk that was attached is
-- handed back; and the sink's count didn't fall.
pub record HasStopped (g : Given) (o : Outside) {D : Type 0} (seen : D → DiskSeen) (s : Stop D) : Type 0 where
  pub ends : HasCase g o seen s
  pub once : FailsOnce o s.ending
  pub back : o.attached_new ≡ o.attached_old + member_count (map seen s.disks.items) (option_map seen s.swap)
  pub later : o.sink_old.faults ≤ o.sink_new.faults

-- What the outside has seen, once the sink is another.
abbrev pub with_sink : Outside → SinkSeen → Outside
with_sink o k = record o { sink_new = k }
