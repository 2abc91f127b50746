use Rattle.std.proofs.Common.{map, refl}
use Rattle.std.specs.Prelude.{option_map}
use Rattle.run_outcome.proofs.LastLines.{ends-so}
use Rattle.run_outcome.proofs.concluding.conclude.Goals as goal

pub returns-clause-ends : goal.returns-clause-ends
returns-clause-ends g c = λ given o stopped.
    let seen = g.D.Disk.seen in
    let how = c.tell_ending-ending.ensures.told in
    let stop = c.args.stop in
    ends-so given o.source_old o.source_new o.rack_old o.rack_new o.attached_old o.attached_new o.sink_old (g.K.Sink.seen c.args.out.now) (g.K.Sink.seen c.tell_ending-ending.new.out)
    stopped.later c.tell_ending-ending.ensures.later stop.history stop.history (map seen stop.disks.items) (map seen stop.disks.items) (option_map seen stop.swap) (option_map seen stop.swap) refl refl refl
    stop.ending c.tell_ending-ending.result _ _ stopped.ends stopped.once how c.status.ensures c.into_fault.ensures stopped.back
