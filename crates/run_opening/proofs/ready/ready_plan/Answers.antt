use Rattle.std.proofs.Common.{◌≡◌, arith, rules, ◌+◌, ◌∙◌, ℕ, ap, refl, subst, sym}
use Rattle.std.specs.Prelude.{map, option_map}
use Rattle.volume_files.proofs.DiskCounts.{count-as, count-read}
use Rattle.volume_files.specs.Attached.{ArePlaced, StopsEarly, attached_seen}
use Rattle.volume_files.specs.joined_disk.JoinedSeen.{joined_seen}
use Rattle.volume_files.specs.volume_disks.Singles.{single_seen}
use Rattle.run_endings.specs.Ending.{IsQuiet}
use Rattle.run_endings.specs.declared.ending.Ending.{Ending}
use Rattle.run_outcome.specs.Run.{UnlessRacked}
use Rattle.run_outcome.proofs.LastLines.{racked-anyway}
use Rattle.run_outcome.proofs.EarlyEnds.{never-risen, risen-outside, stopped-early}
use Rattle.run_opening.proofs.ReadyPlans.{is-ready, numbered-playable, placed-as}
use Rattle.run_kernel.proofs.StartRules.{right-amounts}
use Rattle.run_opening.proofs.Traced.{stopped-tracing}
use Rattle.run_report.proofs.Unfailing.{where-ended}
use Rattle.run_opening.proofs.Unopened.{quiet-trace, racked-of}
use Rattle.run_opening.proofs.ready.ready_plan.Goals as goal

pub returns-in-Err-clause-err : goal.returns-in-Err-clause-err
returns-in-Err-clause-err g c = λ given o is asked before after sink0 sink1 st ft.
    let old = (g.R.Rack.seen c.args.rack.now).faults in
    let new = (g.R.Rack.seen c.attach.new.rack).faults in
    let u = c.stop_unopened.ensures in
    stopped-early st ft given o (record { options = c.args.options; plan = c.args.plan }) asked old new (risen-outside old new o before after)
    (g.K.Sink.seen c.args.out.now) sink0 sink1 (joined_seen (single_seen g.R.D.Disk.seen))
    c.in-Err.back c.stop_unopened.result (record { ending = u.ending; entries = u.entries; counts = u.counts; disks = u.disks; swap = u.swap })
    (subst (λ h. StopsEarly c.args.plan h old new (joined_seen (single_seen g.R.D.Disk.seen)) c.in-Err.back) (sym is) c.in-Err.ensures.err)
    c.in-Err.ensures.lacked

pub place-requires-clause-sound : goal.place-requires-clause-sound
place-requires-clause-sound g c = c.setup_law.ensures.setup c.requires.read.spelled.0 c.args.plan c.requires.read.spelled.1

pub returns-in-Err-place-clause-err : goal.returns-in-Err-place-clause-err
returns-in-Err-place-clause-err g c = λ given o is asked before after sink0 sink1 st ft.
    let u = c.stop_unopened-in-Err-place.ensures in
    stopped-early st ft given o (record { options = c.args.options; plan = c.args.plan }) asked 0 0 never-risen (g.K.Sink.seen c.args.out.now) sink0 sink1 (joined_seen (single_seen g.R.D.Disk.seen)) c.in-Err-place.back
    c.stop_unopened-in-Err-place.result (record { ending = u.ending; entries = u.entries; counts = u.counts; disks = u.disks; swap = u.swap })
    (subst (λ h. StopsEarly c.args.plan h 0 0 (joined_seen (single_seen g.R.D.Disk.seen)) c.in-Err-place.back) (sym is)
    (c.in-Err-place.ensures.err (g.R.Rack.seen c.args.rack.now).holds 0 c.in-Ok.ensures.ok))
    (c.in-Err-place.ensures.lacked c.in-Ok.ensures.uncounted)

pub traced-requires-clause-placed : goal.traced-requires-clause-placed
traced-requires-clause-placed g c =
    let holds = (g.R.Rack.seen c.args.rack.now).holds in
    let p = c.in-Ok-place.ensures.ok holds c.in-Ok.ensures.ok in (
      holds,
      p.0,
      placed-as c.place.new.plan c.args.plan holds p.0 (attached_seen (joined_seen (single_seen g.R.D.Disk.seen)) c.in-Ok-place.placed.attached) c.in-Ok-place.placed.files p.2 p.1,
    )

pub traced-requires-clause-few_blocks : goal.traced-requires-clause-few_blocks
traced-requires-clause-few_blocks g c =
    let most = (right-amounts c.place.new.plan c.in-Ok-place.ensures.rules).processes in
    omega (arith, most)

pub returns-in-Ok-traced-clause-ready : goal.returns-in-Ok-traced-clause-ready
returns-in-Ok-traced-clause-ready g c =
    let holds = (g.R.Rack.seen c.args.rack.now).holds in
    let seen = (joined_seen (single_seen g.R.D.Disk.seen)) in
    let a = attached_seen seen c.in-Ok-place.placed.attached in
    let made = c.in-Ok-place.placed.files in
    let p = c.in-Ok-place.ensures.ok holds c.in-Ok.ensures.ok in
    let t = c.in-Ok-traced.ensures.shows holds p.0 (placed-as c.place.new.plan c.args.plan holds p.0 a made p.2 p.1) in (
      refl,
      p.0,
      t.0,
      λ given is asked. is-ready given (g.K.Sink.seen c.args.out.now) (g.K.Sink.seen c.traced.new.out)
          (record { options = c.args.options; plan = c.args.plan }) p.0 t.0 asked a (attached_seen seen c.traced.new.placed.attached) made c.traced.new.placed.files
          (subst (λ h. ArePlaced c.args.plan h p.0 a made) (sym is) p.1) t.1 c.in-Ok-traced.ensures.disks
          (search rules) c.in-Ok-traced.ensures.files c.place.new.plan p.2 c.in-Ok-place.ensures.rules
          (numbered-playable c.args.plan c.place.new.plan holds p.0 a made p.1 p.2 c.requires.read.playable) t.2,
    )

pub returns-in-Ok-traced-clause-numbered : goal.returns-in-Ok-traced-clause-numbered
returns-in-Ok-traced-clause-numbered g c = let p = c.in-Ok-place.ensures.ok (g.R.Rack.seen c.args.rack.now).holds c.in-Ok.ensures.ok in (p.0, p.2)

pub returns-in-Err-traced-clause-err : goal.returns-in-Err-traced-clause-err
returns-in-Err-traced-clause-err g c = λ given o is asked before after sink0 sink1 st ft.
    let holds = (g.R.Rack.seen c.args.rack.now).holds in
    let seen = (joined_seen (single_seen g.R.D.Disk.seen)) in
    let a = attached_seen seen c.in-Ok-place.placed.attached in
    let made = c.in-Ok-place.placed.files in
    let p = c.in-Ok-place.ensures.ok holds c.in-Ok.ensures.ok in
    let t = c.in-Err-traced.ensures.shows holds p.0 (placed-as c.place.new.plan c.args.plan holds p.0 a made p.2 p.1) in
    let b = c.traced.new.placed.attached in
    stopped-tracing st ft given o (record { options = c.args.options; plan = c.args.plan }) p.0 t.0 asked a (attached_seen seen b) made
    (subst (λ h. ArePlaced c.args.plan h p.0 a made) (sym is) p.1) t.1
    c.in-Err-traced.ensures.disks (search rules) (g.K.Sink.seen c.args.out.now)
    (g.K.Sink.seen c.traced.new.out) sink0 sink1 c.place.new.plan p.2 c.in-Err-traced.ending t.2
    (λ m. where-ended (Unit {0}) c.in-Err-traced.ending m c.in-Err-traced.ensures.failures (c.in-Ok-place.ensures.uncounted c.in-Ok.ensures.uncounted))
    seen b.disks.items b.swap refl refl
    c.stop_untraced.result c.stop_untraced.ensures.ending c.stop_untraced.ensures.entries c.stop_untraced.ensures.counts c.stop_untraced.ensures.disks c.stop_untraced.ensures.swap

pub returns-in-Err-clause-back : goal.returns-in-Err-clause-back
returns-in-Err-clause-back g c =
    let seen = (joined_seen (single_seen g.R.D.Disk.seen)) in
    let u = c.stop_unopened.ensures in
    c.in-Err.ensures.back
    ∙ ap (λ (n : ℕ). (g.R.Rack.seen c.args.rack.now).attached + n) (sym (count-as (λ v. map seen v.items) (option_map seen) _ _ _ _ u.disks u.swap))

pub returns-in-Err-place-clause-back : goal.returns-in-Err-place-clause-back
returns-in-Err-place-clause-back g c =
    let seen = (joined_seen (single_seen g.R.D.Disk.seen)) in
    let u = c.stop_unopened-in-Err-place.ensures in
    let same = count-as (λ v. map seen v.items) (option_map seen) _ _ _ _ u.disks u.swap in
    c.in-Ok.ensures.kept ∙ ap (λ (n : ℕ). (g.R.Rack.seen c.args.rack.now).attached + n) (sym (same ∙ c.in-Err-place.ensures.back))

pub returns-in-Ok-traced-clause-kept : goal.returns-in-Ok-traced-clause-kept
returns-in-Ok-traced-clause-kept g c =
    let old = c.in-Ok-place.placed.attached in
    let new = c.traced.new.placed.attached in
    let same = count-read (joined_seen (single_seen g.R.D.Disk.seen)) old.disks.items new.disks.items old.swap new.swap c.in-Ok-traced.ensures.disks c.in-Ok-traced.ensures.swap in
    c.in-Ok.ensures.kept ∙ ap (λ (n : ℕ). (g.R.Rack.seen c.args.rack.now).attached + n) (sym (same ∙ c.in-Ok-place.ensures.kept))

pub returns-in-Err-traced-clause-back : goal.returns-in-Err-traced-clause-back
returns-in-Err-traced-clause-back g c =
    let old = c.in-Ok-place.placed.attached in
    let new = c.traced.new.placed.attached in
    let same = count-read (joined_seen (single_seen g.R.D.Disk.seen)) old.disks.items new.disks.items old.swap new.swap c.in-Err-traced.ensures.disks c.in-Err-traced.ensures.swap in
    c.in-Ok.ensures.kept ∙ ap (λ (n : ℕ). (g.R.Rack.seen c.args.rack.now).attached + n) (sym (c.stop_untraced.ensures.count ∙ same ∙ c.in-Ok-place.ensures.kept))

pub returns-in-Ok-traced-clause-uncounted : goal.returns-in-Ok-traced-clause-uncounted
returns-in-Ok-traced-clause-uncounted g c = c.in-Ok-traced.ensures.failures (c.in-Ok-place.ensures.uncounted c.in-Ok.ensures.uncounted)

-- the rack counted a fault only where that ended the run
pub returns-in-Err-clause-racked : goal.returns-in-Err-clause-racked
returns-in-Err-clause-racked g c =
    subst (λ (e : Ending). UnlessRacked e ((g.R.Rack.seen c.attach.new.rack).faults ≡ (g.R.Rack.seen c.args.rack.now).faults)) (sym c.stop_unopened.ensures.ending)
    (racked-of ((g.R.Rack.seen c.attach.new.rack).faults ≡ (g.R.Rack.seen c.args.rack.now).faults) c.in-Err.back.why c.in-Err.ensures.rack)

pub returns-in-Err-place-clause-racked : goal.returns-in-Err-place-clause-racked
returns-in-Err-place-clause-racked g c = racked-anyway c.stop_unopened-in-Err-place.result.ending c.in-Ok.ensures.steady

pub returns-in-Err-traced-clause-racked : goal.returns-in-Err-traced-clause-racked
returns-in-Err-traced-clause-racked g c = racked-anyway c.stop_untraced.result.ending c.in-Ok.ensures.steady

-- the sink counted none where memory lacked
pub returns-in-Err-clause-lacks : goal.returns-in-Err-clause-lacks
returns-in-Err-clause-lacks g c = λ quiet. refl

pub returns-in-Err-place-clause-lacks : goal.returns-in-Err-place-clause-lacks
returns-in-Err-place-clause-lacks g c = λ quiet. refl

pub returns-in-Err-traced-clause-lacks : goal.returns-in-Err-traced-clause-lacks
returns-in-Err-traced-clause-lacks g c = λ quiet.
    let holds = (g.R.Rack.seen c.args.rack.now).holds in
    let a = attached_seen (joined_seen (single_seen g.R.D.Disk.seen)) c.in-Ok-place.placed.attached in
    let made = c.in-Ok-place.placed.files in
    let p = c.in-Ok-place.ensures.ok holds c.in-Ok.ensures.ok in
    let t = c.in-Err-traced.ensures.shows holds p.0 (placed-as c.place.new.plan c.args.plan holds p.0 a made p.2 p.1) in
    let how = c.in-Err-traced.ending in
    let k0 = g.K.Sink.seen c.args.out.now in
    let k1 = g.K.Sink.seen c.traced.new.out in
    let new = (attached_seen (joined_seen (single_seen g.R.D.Disk.seen)) c.traced.new.placed.attached).disks in
    where-ended (Unit {0}) how (quiet-trace c.args.options c.place.new.plan p.0 t.0 k0 k1 a.disks new how (subst IsQuiet c.stop_untraced.ensures.ending quiet) t.2) c.in-Err-traced.ensures.steady
