use Rattle.std.proofs.Common.{rules, ℕ, ◌<◌, ◌≡◌, ◌∙◌, arith, subst, Some}
use Rattle.std.specs.Prelude.{Err, IfErr}
use Rattle.std.proofs.lemmas.Result.{err_from_is_err_and}
use Rattle.volume_disks.specs.declared.volume_spec.VolumeSpec.{VolumeSpec}
use Rattle.volume_files.specs.Attached.{AreMounted}
use Rattle.volume_files.specs.Mounting.{HaltsNumber, Halts, specs_below, volumes_seen}
use Rattle.volume_files.specs.Opened.{volume_numbered}
use Rattle.volume_disks.specs.Singles.{single_seen}
use Rattle.volume_files.proofs.JoinedNumbers.{holds_as}
use Rattle.volume_files.proofs.MountDisks.{HoldsAs}
use Rattle.volume_files.proofs.MountEnds.{err_then}
use Rattle.volume_files.proofs.MountStops.{mount_step, halted}
use Rattle.volume_files.proofs.Unfailing.{unless-failed, unless-rack}
use Rattle.volume_files.proofs.mounting.mount_all.Goals as goal

pub returns-in_err-mount_numbered-clause-err : goal.returns-in_err-mount_numbered-clause-err
returns-in_err-mount_numbered-clause-err g c = λ holds same.
    let inv = c.loop-number.invariant in
    let n = c.loop-number.number in
    let lt : n < 8 = c.loop-number-test.true in
    let old = (g.R.Rack.seen c.args.rack.now).faults in
    let mid = g.R.Rack.seen c.loop-number.rack in
    let new = (g.R.Rack.seen c.mount_numbered.new.rack).faults in
    let front = volumes_seen (single_seen g.R.D.Disk.seen) c.loop-number.disks.items in
    let disks = volumes_seen (single_seen g.R.D.Disk.seen) c.mount_numbered.new.disks.items in
    let agree : (v : VolumeSpec) → volume_numbered c.args.setup.now n ≡ Some v → HoldsAs mid.holds holds v =
    λ v is. holds_as c.args.setup.now n v mid.holds holds c.requires.right c.requires.joins lt is (λ s other low. inv.others s other ∙ same s low) in
    let how : IfErr c.from_residual.result (HaltsNumber c.args.setup.now n mid.holds mid.faults new front disks) = search rules in
    err_then c.from_residual.result (HaltsNumber c.args.setup.now n mid.holds mid.faults new front disks) (Halts c.args.setup.now holds old new disks)
    (λ e h. halted c.args.setup.now n mid.holds holds old mid.faults new front disks c.loop-number.tables.items e lt agree inv.later (inv.mounted holds same) h) how

pub loop-number-preserved : goal.loop-number-preserved
loop-number-preserved g c =
    let inv = c.loop-number.invariant in
    let n = c.loop-number.number in
    let lt : n < 8 = c.loop-number-test.true in
    let m = c.mount_numbered.ensures in
    let mid = g.R.Rack.seen c.loop-number.rack in
    record {
      mounted = λ holds same. mount_step c.args.setup.now n mid.holds holds (volumes_seen (single_seen g.R.D.Disk.seen) c.loop-number.disks.items)
          (volumes_seen (single_seen g.R.D.Disk.seen) c.mount_numbered.new.disks.items) c.loop-number.tables.items c.mount_numbered.new.tables.items
          (λ v is. holds_as c.args.setup.now n v mid.holds holds c.requires.right c.requires.joins lt is (λ s other low. inv.others s other ∙ same s low))
          (inv.mounted holds same) c.in_ok-mount_numbered.ensures.ok;
      others = λ s other. m.others s (other n (omega arith)) ∙ inv.others s (λ k below. other k (omega (arith, below)));
      later = omega (arith, inv.later, m.later);
      steady = c.in_ok-mount_numbered.ensures.steady ∙ inv.steady;
      uncounted = c.in_ok-mount_numbered.ensures.uncounted inv.uncounted;
      count = omega (arith, inv.count, m.count);
      few_disks = omega (arith, inv.few_disks, c.in_ok-mount_numbered.ensures.disks);
      few_tables = omega (arith, inv.few_tables, m.tables);
      disks_room = omega (arith, inv.disks_room, m.room);
      tables_room = omega (arith, inv.tables_room, m.tables_room);
    }

pub returns-in_err-mount_numbered-clause-steady : goal.returns-in_err-mount_numbered-clause-steady
returns-in_err-mount_numbered-clause-steady g c =
    let p = err_from_is_err_and c.from_residual.result c.from_residual.ensures.1 in
    rw (p.1, p.2) (unless-rack c.in_err-mount_numbered.field-0.0 (λ same. same ∙ c.loop-number.invariant.steady) c.in_err-mount_numbered.ensures.steady)

pub returns-in_err-mount_numbered-clause-uncounted : goal.returns-in_err-mount_numbered-clause-uncounted
returns-in_err-mount_numbered-clause-uncounted g c =
    let p = err_from_is_err_and c.from_residual.result c.from_residual.ensures.1 in
    rw (p.1, p.2) (unless-failed {T = Unit {0}} (Err c.in_err-mount_numbered.field-0.0) (λ more. more c.loop-number.invariant.uncounted) c.in_err-mount_numbered.ensures.uncounted)

pub returns-clause-ok : goal.returns-clause-ok
returns-clause-ok g c = λ holds same.
    let all : c.loop-number.number ≡ 8 = omega (arith, c.loop-number.auto.number-end, c.loop-number-test.false) in
    subst (λ (n : ℕ). AreMounted holds (specs_below c.args.setup.now n) (volumes_seen (single_seen g.R.D.Disk.seen) c.loop-number.disks.items) c.loop-number.tables.items) all
    (c.loop-number.invariant.mounted holds same)
