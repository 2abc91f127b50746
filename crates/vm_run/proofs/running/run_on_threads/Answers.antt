use Rattle.std.proofs.Common.{◌∙◌, ap, arith, map, refl, subst, sym}
use Rattle.std.specs.Prelude.{None, Ok, option_map}
use Rattle.volume_files.specs.block_device.StreamSeen.{SourceSeen}
use Rattle.volume_files.specs.joined_disk.JoinedSeen.{joined_seen}
use Rattle.volume_files.specs.Numbers.{disk_numbers}
use Rattle.run_input.specs.Asked.{Asked, WasAsked}
use Rattle.run_outcome.specs.Stopped.{HasStopped, with_sink}
use Rattle.run_outcome.specs.Ended.{end_of}
use Rattle.run_outcome.specs.Members.{with_text}
use Rattle.run_outcome.specs.Run.{outside_of}
use Rattle.run_endings.specs.declared.ending.Ending.TheVariants.{Memory}
use Rattle.volume_files.specs.volume_disks.Singles.{single_seen}
use Rattle.run_outcome.proofs.CameBack.{few-outcome}
use Rattle.run_outcome.proofs.EarlyEnds.{bare-back, stopped-asking}
use Rattle.run_outcome.proofs.LastLines.{racked-anyway}
use Rattle.run_outcome.proofs.PrintedTraces.{prints-trace}
use Rattle.run_outcome.proofs.RunsHanded.{hands-none, was-run}
use Rattle.run_outcome.proofs.TextsTold.{asked-told, one-asked-told}
use Rattle.vm_run.proofs.running.run_on_threads.Goals as goal

pub hand_members-requires-clause-few : goal.hand_members-requires-clause-few
hand_members-requires-clause-few g c =
    let asked = c.read.invariant.asked in
    let given = record asked.0 { holds = (g.R.Rack.seen c.args.rack.now).holds } in
    let source : SourceSeen = record { rest = None; faults = 0 } in
    let o = outside_of source source (g.R.Rack.seen c.args.rack.now) (g.R.Rack.seen c.run_blocks-stop.new.rack) (g.K.Sink.seen c.args.out.now) (g.K.Sink.seen c.conclude.new.out) in
    few-outcome (joined_seen (single_seen g.R.D.Disk.seen)) given o c.conclude.result (c.conclude.ensures.ends given o (c.run_blocks-stop.ensures given source source refl asked.1 refl))

pub returns-in-Ok : goal.returns-in-Ok
returns-in-Ok g c = λ given before after is asked steady.
    let t = asked-told given _ (subst (λ (read : Asked). WasAsked given (Ok read)) (sym c.read.view_is) asked) in
    let told = with_text given t.0 in
    let o = outside_of before after (g.R.Rack.seen c.args.rack.now) (g.R.Rack.seen c.run_blocks-stop.new.rack) (g.K.Sink.seen c.args.out.now) (g.K.Sink.seen c.conclude.new.out) in
    let ends = c.conclude.ensures.ends told o (c.run_blocks-stop.ensures told before after is t.2 steady) in
    was-run (prints-trace c.one_answer_law.ensures) given o t.0 t.1 (end_of (joined_seen (single_seen g.R.D.Disk.seen)) c.conclude.result) (end_of g.R.D.Disk.seen c.hand_members.result)
    ends (c.hand_members.ensures given o t.0 ends (λ other was. c.in-Ok.ensures.numbers ∙ ap (λ (what : Asked). disk_numbers what.plan.setup) (one-asked-told given t.0 _ other t.2 was)))

-- memory lacked before a disk was attached
pub returns-in-Err : goal.returns-in-Err
returns-in-Err g c = λ given before after is asked steady.
    let t = asked-told given _ (subst (λ (read : Asked). WasAsked given (Ok read)) (sym c.read.view_is) asked) in
    let told = with_text given t.0 in
    let seen = g.R.D.Disk.seen in
    let rack = g.R.Rack.seen c.args.rack.now in
    let sink = g.K.Sink.seen c.args.out.now in
    let o = outside_of before after rack rack sink (g.K.Sink.seen c.conclude-in-Err.new.out) in
    let stopped : HasStopped told (with_sink o sink) seen c.bare_stop.result = record {
      ends = λ st ft. stopped-asking st ft told _ sink refl refl seen c.bare_stop.result Memory c.bare_stop.ensures.ending c.bare_stop.ensures.entries
          c.bare_stop.ensures.counts c.bare_stop.ensures.disks c.bare_stop.ensures.swap tt;
      once = record { source = λ other. steady; rack = racked-anyway c.bare_stop.result.ending refl; sink = λ quiet. refl };
      back = bare-back seen c.bare_stop.result rack.attached c.bare_stop.ensures.disks c.bare_stop.ensures.swap;
      later = omega arith;
    } in
    let end = end_of seen c.conclude-in-Err.result in
    was-run (prints-trace c.one_answer_law.ensures) given o t.0 t.1 end end (c.conclude-in-Err.ensures.ends told o stopped)
    (hands-none told end (ap (λ v. map seen v.items) c.conclude-in-Err.ensures.disks ∙ ap (map seen) c.bare_stop.ensures.disks) (ap (option_map seen) (c.conclude-in-Err.ensures.swap ∙ c.bare_stop.ensures.swap)))
