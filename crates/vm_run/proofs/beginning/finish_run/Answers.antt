use Rattle.std.proofs.Common.{◌≡◌, ◌∙◌, ap, arith, length, map, refl, subst, sym}
use Rattle.std.specs.Prelude.{All, None, option_map}
use Rattle.std.proofs.lemmas.List.{length-map}
use Rattle.vm_core.specs.page_store.Bays.{pairs_seen}
use Rattle.volume_files.specs.vm_script.Told.{Told, ToldFront}
use Rattle.volume_files.specs.vm_types.declared.call.Entry.{Entry}
use Rattle.printed_traces.specs.Printed.{HasToldCounts}
use Rattle.volume_files.specs.Handed.{kinds_of}
use Rattle.volume_files.proofs.DiskCounts.{members-kinds}
use Rattle.run_outcome.proofs.LastLines.{racked-anyway}
use Rattle.run_opening.specs.Ready.{IsReady}
use Rattle.run_kernel.specs.Played.{KernelLeaves, left_seen}
use Rattle.volume_files.specs.Opened.{opening_flat}
use Rattle.volume_files.specs.stored_files.Written.{disk_sizes}
use Rattle.run_kernel.proofs.Leaves.{played-still}
use Rattle.run_kernel.proofs.Returned.{swap-still}
use Rattle.vm_run.proofs.RunReady.{first-left, names-left, ready-ends}
use Rattle.run_kernel.proofs.StartRules.{right-amounts}
use Rattle.vm_run.proofs.beginning.finish_run.Given.{Over}
use Rattle.vm_run.proofs.beginning.finish_run.Goals as goal
use Rattle.vm_run.proofs.beginning.finish_run.Goals.{After-end_run-arg-1}

pub close_kernel-played-requires : goal.close_kernel-played-requires
close_kernel-played-requires g c =
    let q = c.requires.run in
    record { still = played-still c.args.plan.now (opening_flat c.args.plan.now (disk_sizes q.7.disks) q.5) q.7.disks q.7.swap q.8 q.9 c.args.state c.args.is_whole q.10.begun.started q.10.played }

-- what the kernel left
left : (g : Over) (c : After-end_run-arg-1 g) → KernelLeaves (opening_flat c.args.plan.now (disk_sizes c.requires.run.7.disks) c.requires.run.5) c.requires.run.9 (left_seen g.D.Disk.seen c.close_kernel-played.result.finished)
left g c = let q = c.requires.run in c.close_kernel-played.ensures.left c.args.plan.now _ _ _ _ q.9 q.10.begun.started q.10.played

is-ready : (g : Over) (c : After-end_run-arg-1 g) → let q = c.requires.run in IsReady q.0 q.3 (g.K.Sink.seen c.args.out.now) q.4 q.5 q.6 q.7 q.8 c.args.plan.now
is-ready g c = let q = c.requires.run in q.10.begun.ready q.0 q.11 q.12

pub end_run-requires-clause-few : goal.end_run-requires-clause-few
end_run-requires-clause-few g c = (left g c).few

pub end_run-requires-clause-few_blocks : goal.end_run-requires-clause-few_blocks
end_run-requires-clause-few_blocks g c = let most = (right-amounts c.args.plan.now (is-ready g c).rules).processes in omega (arith, most)

pub end_run-requires-clause-well_formed : goal.end_run-requires-clause-well_formed
end_run-requires-clause-well_formed g c = (left g c).formed

pub end_run-requires-clause-lie : goal.end_run-requires-clause-lie
end_run-requires-clause-lie g c = (left g c).lie

pub end_run-requires-clause-extents : goal.end_run-requires-clause-extents
end_run-requires-clause-extents g c = (left g c).extents

pub end_run-requires-clause-disks : goal.end_run-requires-clause-disks
end_run-requires-clause-disks g c = (left g c).have

pub end_run-requires-clause-names : goal.end_run-requires-clause-names
end_run-requires-clause-names g c =
    let q = c.requires.run in
    names-left c.args.plan.now q.4.plan q.0.holds q.5 q.7 q.8 (is-ready g c).placed q.9 (left_seen g.D.Disk.seen c.close_kernel-played.result.finished) q.10.begun.started.placed (left g c).modes

pub end_run-requires-clause-some : goal.end_run-requires-clause-some
end_run-requires-clause-some g c =
    let q = c.requires.run in
    first-left 0 None q.0 (record { source_old = 0; source_new = 0; rack_old = 0; rack_new = 0; attached_old = 0; attached_new = 0; sink_old = q.3; sink_new = q.3 }) q.4 q.5 q.6 q.7 q.8 c.args.plan.now
    (g.K.Sink.seen c.args.out.now) (is-ready g c) q.9 (left_seen g.D.Disk.seen c.close_kernel-played.result.finished) q.10.begun.started (left g c)

pub end_run-requires-clause-room : goal.end_run-requires-clause-room
end_run-requires-clause-room g c =
    let q = c.requires.run in
    let disks = c.close_kernel-played.result.finished.disks.items in
    let room = q.13 in
    let count = (left g c).disks.count ∙ ap length q.10.begun.started.racked in
    let new : length (pairs_seen g.D.Disk.seen disks) ≡ length disks = length-map disks _ in
    omega (arith, room, count, new)

pub returns : goal.returns
returns g c = λ given before after r0 r1 k0 what files bytes a made start opt run is asked steady.
    let plan = c.args.plan.now in
    let seen = g.D.Disk.seen in
    let k1 = g.K.Sink.seen c.args.out.now in
    let done = c.close_kernel-played.result in
    let l = left_seen seen done.finished in
    let started = run.begun.started in
    let leaves = c.close_kernel-played.ensures.left plan _ _ _ _ start started run.played in
    let history = c.close_kernel-played.ensures.history in
    let e = c.end_run.ensures.ends in
    let stop = c.end_run.result in
    let still = run.begun.sink in
    let later = c.end_run.ensures.later in
    let disks = members-kinds (pairs_seen seen done.finished.disks.items) a.disks (leaves.disks.kinds ∙ ap kinds_of started.racked) in
    let swap = swap-still a.swap _ _ l started.swapped leaves in
    let count = c.end_run.ensures.count in
    let attached = run.begun.attached in
    record {
      ends = λ st ft.
          ready-ends st ft given _ what files bytes a made plan k1 (run.begun.ready given is asked) c.args.options.now opt start l started leaves (omega (arith, still))
          (subst (All (λ (x : Entry). HasToldCounts x.reply)) c.entries.ensures c.counts_law.ensures) done.is_whole
          (λ all. subst (Told plan) (sym history) (run.played.told (sym c.close_kernel-played.ensures.whole ∙ all))) (subst (ToldFront plan) (sym history) run.played.front)
          e.0 stop.ending (g.K.Sink.seen c.end_run.new.out) refl e.2 stop.history (map seen stop.disks.items) (option_map seen stop.swap) c.end_run.ensures.history e.1 (ap (option_map seen) c.end_run.ensures.swap);
      once = record { source = λ other. steady; rack = racked-anyway stop.ending run.begun.rack; sink = λ quiet. c.end_run.ensures.hides quiet ∙ still };
      back = omega (arith, attached, count, disks, swap);
      later = omega (arith, still, later);
    }
