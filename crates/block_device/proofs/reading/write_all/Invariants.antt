use Rattle.std.proofs.Common.{◌≡◌, ◌≤◌, ◌-◌, length, take}
use Rattle.block_device.specs.StreamSeen.{text_with_more}
use Rattle.block_device.proofs.reading.write_all.Given as goal

abbrev pub invariant-loop-done : goal.invariant-loop-done
invariant-loop-done g l = record {
  within : l.done ≤ length l.text;
  text : (g.K.Sink.seen l.sink).written ≡ text_with_more (g.K.Sink.seen l.fn.sink).written (take l.done l.text);
  steady : (g.K.Sink.seen l.sink).faults ≡ (g.K.Sink.seen l.fn.sink).faults;
}

abbrev pub decreases-loop-done : goal.decreases-loop-done
decreases-loop-done g l = length l.text - l.done
