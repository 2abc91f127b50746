use Rattle.std.proofs.Common.{ap, map, subst, sym}
use Rattle.std.specs.Prelude.{string_bytes}
use Rattle.volume_files.specs.block_device.RackSeen.{RackSeen}
use Rattle.volume_files.specs.block_device.StreamSeen.{SinkSeen}
use Rattle.run_input.specs.Asked.{given_of}
use Rattle.run_outcome.specs.Ended.{end_of}
use Rattle.run_outcome.specs.Members.{WasRun}
use Rattle.run_outcome.specs.Run.{outside_of}
use Rattle.vm_run.proofs.running.run.Goals as goal

-- on threads: nothing but the source was called before
pub returns-in-Err : goal.returns-in-Err
returns-in-Err g c =
    let given = given_of (map string_bytes c.args.words.now) (g.S.Source.seen c.args.script.now) (g.R.Rack.seen c.args.rack.now) in
    let old = g.S.Source.seen c.args.script.now in
    let new = g.S.Source.seen c.run_alone.new.script in
    let rack = g.R.Rack.seen c.run_on_threads.new.rack in
    let sink = g.K.Sink.seen c.run_on_threads.new.out in
    let end = end_of g.R.D.Disk.seen c.run_on_threads.result in
    let e = c.in-Err.ensures in
    subst (λ (r : RackSeen). WasRun given (outside_of old new r rack (g.K.Sink.seen c.args.out.now) sink) end) e.rack
    (subst (λ (k : SinkSeen). WasRun given (outside_of old new (g.R.Rack.seen c.run_alone.new.rack) rack k sink) end) e.sink
    (c.run_on_threads.ensures given old new (sym (ap (λ (r : RackSeen). r.holds) e.rack)) e.asked e.source))
