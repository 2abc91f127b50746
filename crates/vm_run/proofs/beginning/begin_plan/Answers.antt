use Rattle.std.proofs.Common.{◌≡◌, ap, arith, length, map, refl, sym}
use Rattle.std.specs.Prelude.{option_map}
use Rattle.std.proofs.lemmas.List.{length-map}
use Rattle.volume_files.specs.joined_disk.JoinedSeen.{joined_seen}
use Rattle.volume_files.specs.Attached.{ArePlaced, attached_seen}
use Rattle.volume_files.specs.Handed.{members_of, swap_members}
use Rattle.run_opening.specs.Ready.{IsReady}
use Rattle.volume_files.specs.volume_disks.Singles.{single_seen}
use Rattle.run_opening.proofs.ReadyPlans.{placed-as}
use Rattle.vm_run.proofs.RunReady.{start-lacks}
use Rattle.run_outcome.proofs.LastLines.{racked-anyway}
use Rattle.vm_run.proofs.beginning.begin_plan.Given.{Over}
use Rattle.vm_run.proofs.beginning.begin_plan.Goals as goal
use Rattle.vm_run.proofs.beginning.begin_plan.Goals.{In-Ok}

-- it is ready, of some words and source
ready : (g : Over) (c : In-Ok g) → IsReady (record c.requires.may.asked.0 { holds = (g.R.Rack.seen c.args.rack.now).holds }) (g.K.Sink.seen c.args.out.now) (g.K.Sink.seen c.ready_plan.new.out)
    (record { options = c.args.options; plan = c.args.plan }) c.in-Ok.ensures.ready.1 c.in-Ok.ensures.ready.2 (attached_seen (joined_seen (single_seen g.R.D.Disk.seen)) c.in-Ok.ready.placed.attached) c.in-Ok.ready.placed.files
    c.in-Ok.ready.plan
ready g c = c.in-Ok.ensures.ready.3 (record c.requires.may.asked.0 { holds = (g.R.Rack.seen c.args.rack.now).holds }) refl c.requires.may.asked.1

placed : (g : Over) (c : In-Ok g) → ArePlaced c.in-Ok.ready.plan (g.R.Rack.seen c.args.rack.now).holds c.in-Ok.ensures.ready.1 (attached_seen (joined_seen (single_seen g.R.D.Disk.seen)) c.in-Ok.ready.placed.attached) c.in-Ok.ready.placed.files
placed g c =
    let rd = ready g c in
    placed-as c.in-Ok.ready.plan c.args.plan (g.R.Rack.seen c.args.rack.now).holds c.in-Ok.ensures.ready.1 (attached_seen (joined_seen (single_seen g.R.D.Disk.seen)) c.in-Ok.ready.placed.attached) c.in-Ok.ready.placed.files rd.numbered rd.placed

pub start-requires-clause-placed : goal.start-requires-clause-placed
start-requires-clause-placed g c = ((g.R.Rack.seen c.args.rack.now).holds, c.in-Ok.ensures.ready.1, placed g (goal.at.start-requires-clause-placed g c).In-Ok)

pub start-requires-clause-rules : goal.start-requires-clause-rules
start-requires-clause-rules g c = (ready g (goal.at.start-requires-clause-rules g c).In-Ok).rules

pub start-requires-clause-sound : goal.start-requires-clause-sound
start-requires-clause-sound g c = (ready g (goal.at.start-requires-clause-sound g c).In-Ok).playable.sound

pub returns-in-Ok-start-clause-begun : goal.returns-in-Ok-start-clause-begun
returns-in-Ok-start-clause-begun g c =
    let at = (goal.at.returns-in-Ok-start-clause-begun g c).In-Ok in
    let rd = ready g at in
    let r = c.in-Ok.ensures.ready in
    let s = c.in-Ok.ensures.served in
    let a = attached_seen (joined_seen (single_seen g.R.D.Disk.seen)) c.in-Ok.ready.placed.attached in
    let long : length a.disks ≡ length c.in-Ok.ready.placed.attached.disks.items = length-map c.in-Ok.ready.placed.attached.disks.items _ in
    let room = c.in-Ok-start.ensures.room in (
      sym r.0,
      r.1,
      r.2,
      a,
      c.in-Ok.ready.placed.files,
      record {
        ready = r.3;
        started = c.in-Ok-start.ensures.ok (g.R.Rack.seen c.args.rack.now).holds r.1 (placed g at);
        numbered = rd.numbered;
        playable = rd.playable;
        uncounted = c.in-Ok.ensures.uncounted;
        attached = c.in-Ok.ensures.kept;
        rack = s.0;
        sink = s.1;
      },
      omega (arith, long, room),
    )

pub returns-in-Err-clause-stopped : goal.returns-in-Err-clause-stopped
returns-in-Err-clause-stopped g c = λ given before after is asked steady.
    record {
      ends = λ st ft. c.in-Err.ensures.err given _ is asked refl refl refl refl st ft;
      once = record { source = λ other. steady; rack = c.in-Err.ensures.racked; sink = c.in-Err.ensures.lacks };
      back = c.in-Err.ensures.back;
      later = c.ready_plan.ensures.sink;
    }

pub returns-in-Err-start-clause-stopped : goal.returns-in-Err-start-clause-stopped
returns-in-Err-start-clause-stopped g c = λ given before after is asked steady.
    let seen = joined_seen (single_seen g.R.D.Disk.seen) in
    let r = c.in-Ok.ensures.ready in
    let served = c.in-Ok.ensures.served in
    let stop = c.in-Err-start.stop in
    let e = c.in-Err-start.ensures in
    let disks = ap members_of e.same.0 in
    let swap = ap swap_members e.same.1 in
    let kept = c.in-Ok.ensures.kept in
    record {
      ends = λ st ft. start-lacks st ft given _ (record { options = c.args.options; plan = c.args.plan }) r.1 r.2 (attached_seen seen c.in-Ok.ready.placed.attached) c.in-Ok.ready.placed.files c.in-Ok.ready.plan
          (g.K.Sink.seen c.ready_plan.new.out) (r.3 given is asked) refl c.in-Ok.ensures.uncounted stop.history (map seen stop.disks.items) (option_map seen stop.swap) stop.ending e.entries e.counts e.memory e.same.0 e.same.1;
      once = record { source = λ other. steady; rack = racked-anyway stop.ending served.0; sink = λ quiet. served.1 };
      back = omega (arith, kept, disks, swap);
      later = c.ready_plan.ensures.sink;
    }
