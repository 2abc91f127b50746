use Rattle.std.proofs.Common.{◌≡◌, ◌<◌, [], None, List, map, option_map, ap, ◌∙◌, refl, subst, sym}
use Rattle.std.specs.Prelude.{Err, IfOk, IfErr, OnOk, Option, Result}
use Rattle.std.proofs.lemmas.List.Elements.{All-nil}
use Rattle.block_device.specs.DiskSeen.{DiskSeen, failures_told}
use Rattle.block_device.specs.declared.numbered.NumberedDisk.{NumberedDisk}
use Rattle.joined_disk.specs.JoinedSeen.{joined_seen}
use Rattle.vm_report.specs.vm_script.declared.plan.SetupLine.{SetupLine}
use Rattle.vm_report.specs.vm_script.declared.rules.Amounts.{Amounts}
use Rattle.vm_report.specs.vm_script.Rules.{amounts_of, broken_join, has_wrong_disk}
use Rattle.volume_files.specs.declared.stops.OpenStop.{OpenStop}
use Rattle.volume_files.specs.Attached.{AreMounted}
use Rattle.stored_files.specs.Written.{numbered_seen}
use Rattle.volume_files.specs.Handed.{IsSwapAsGiven, IsSwapFor}
use Rattle.volume_files.specs.Mounting.{Halts}
use Rattle.volume_files.specs.Opened.{setup_volumes}
use Rattle.volume_files.specs.Unfailed.{UnlessRack}
use Rattle.volume_disks.specs.Singles.{single_seen}
use Rattle.volume_files.proofs.MountEnds.{early, stopped_later, swap_stopped}
use Rattle.volume_files.proofs.Unfailing.{bare-none, handed-none, swap-racked, swap-told, unless-rack, where-lacked}
use Rattle.volume_files.proofs.attaching.attach_within.Goals as goal

pub mount_all-requires-clause-right : goal.mount_all-requires-clause-right
mount_all-requires-clause-right g c = λ κs lives. ap has_wrong_disk c.setup-2.ensures ∙ c.requires.right

pub mount_all-requires-clause-joins : goal.mount_all-requires-clause-joins
mount_all-requires-clause-joins g c = λ κs lives. ap broken_join c.setup-2.ensures ∙ c.requires.joins

pub returns-in-Err-mount_all-clause-err : goal.returns-in-Err-mount_all-clause-err
returns-in-Err-mount_all-clause-err g c =
    let seen = joined_seen (single_seen g.R.D.Disk.seen) in
    let plan = c.args.plan.now in
    let first = g.R.Rack.seen c.args.rack.now in
    let mid = g.R.Rack.seen c.attach_swap.new.rack in
    let new = g.R.Rack.seen c.mount_all.new.rack in
    let disks = map (numbered_seen seen) c.mount_all.new.disks.items in
    let how = c.in-Err-mount_all.how in
    let swap = option_map (λ (d : NumberedDisk _). seen d.disk) c.in-Ok.swap in
    let stops : IfErr c.mount_all.result (Halts c.setup-2.result.now first.holds mid.faults new.faults disks) = c.mount_all.ensures.err first.holds c.attach_swap.ensures.same in
    let here : Halts c.setup-2.result.now first.holds mid.faults new.faults disks how =
    subst (λ (r : Result (Unit {0}) OpenStop). IfErr r (Halts c.setup-2.result.now first.holds mid.faults new.faults disks)) c.in-Err-mount_all.is stops in
    let halts : Halts plan.setup first.holds mid.faults new.faults disks how =
    subst (λ (ls : List SetupLine). Halts ls first.holds mid.faults new.faults disks how) c.setup-2.ensures here in
    let slots : c.amounts_of.result.slots ≡ (amounts_of plan.setup).slots = ap (λ (a : Amounts). a.slots) (c.amounts_of.ensures ∙ ap amounts_of c.setup.ensures) in
    let given : IsSwapFor c.amounts_of.result.slots swap =
    subst (λ (r : Result (Option (NumberedDisk _)) OpenStop). IfOk r (λ o. IsSwapFor c.amounts_of.result.slots (option_map (λ (d : NumberedDisk _). seen d.disk) o)))
    c.in-Ok.is c.attach_swap.ensures.ok in
    let swaps : IsSwapFor (amounts_of plan.setup).slots swap = subst (λ n. IsSwapFor n swap) slots given in
    let made : IsSwapAsGiven c.amounts_of.result.slots swap =
    subst (λ (r : Result (Option (NumberedDisk _)) OpenStop). IfOk r (λ o. IsSwapAsGiven c.amounts_of.result.slots (option_map (λ (d : NumberedDisk _). seen d.disk) o)))
    c.in-Ok.is c.attach_swap.ensures.blank in
    let blank : IsSwapAsGiven (amounts_of plan.setup).slots swap = subst (λ n. IsSwapAsGiven n swap) slots made in
    let e = c.hand_back-in-Err-mount_all.ensures in
    early seen plan first.holds first.faults new.faults c.hand_back-in-Err-mount_all.result c.mount_all.new.disks.items c.in-Ok.swap how e.why e.disks e.swap
    (stopped_later plan first.holds first.faults mid.faults new.faults swap disks how c.attach_swap.ensures.later swaps blank halts)

pub returns-in-Ok-mount_all-clause-ok : goal.returns-in-Ok-mount_all-clause-ok
returns-in-Ok-mount_all-clause-ok g c =
    let seen = joined_seen (single_seen g.R.D.Disk.seen) in
    let plan = c.args.plan.now in
    let holds = (g.R.Rack.seen c.args.rack.now).holds in
    let disks = map (numbered_seen seen) c.mount_all.new.disks.items in
    let tables = c.mount_all.new.tables.items in
    let swap = option_map (λ (d : NumberedDisk _). seen d.disk) c.in-Ok.swap in
    let there : AreMounted holds (setup_volumes c.setup-2.result.now) disks tables =
    subst (λ (r : Result (Unit {0}) OpenStop). OnOk r (AreMounted holds (setup_volumes c.setup-2.result.now) disks tables)) c.in-Ok-mount_all.is (c.mount_all.ensures.ok holds c.attach_swap.ensures.same) in
    let slots : c.amounts_of.result.slots ≡ (amounts_of plan.setup).slots = ap (λ (a : Amounts). a.slots) (c.amounts_of.ensures ∙ ap amounts_of c.setup.ensures) in
    record {
      mounted = subst (λ (ls : List SetupLine). AreMounted holds (setup_volumes ls) disks tables) c.setup-2.ensures there;
      swap = subst (λ n. IsSwapFor n swap) slots c.in-Ok.ensures.ok;
      blank = subst (λ n. IsSwapAsGiven n swap) slots c.in-Ok.ensures.blank;
    }

-- the swap disk wasn't attached
pub returns-in-Err-clause-err : goal.returns-in-Err-clause-err
returns-in-Err-clause-err g c =
    let seen = joined_seen (single_seen g.R.D.Disk.seen) in
    let plan = c.args.plan.now in
    let first = g.R.Rack.seen c.args.rack.now in
    let new = g.R.Rack.seen c.attach_swap.new.rack in
    let slots : c.amounts_of.result.slots ≡ (amounts_of plan.setup).slots = ap (λ (a : Amounts). a.slots) (c.amounts_of.ensures ∙ ap amounts_of c.setup.ensures) in
    let some : 0 < (amounts_of plan.setup).slots = subst (λ n. 0 < n) slots c.in-Err.ensures.slots in
    let e = c.hand_back.ensures in
    early seen plan first.holds first.faults new.faults c.hand_back.result [] None c.in-Err.how e.why (e.disks ∙ ap (map (λ (d : NumberedDisk _). d.disk)) c.requires.disks.0)
    (e.swap ∙ ap (option_map (λ (d : NumberedDisk _). d.disk)) c.requires.swap) (swap_stopped plan first.holds first.faults new.faults c.in-Err.how some c.in-Err.ensures.err)

pub returns-in-Err-clause-lacked : goal.returns-in-Err-clause-lacked
returns-in-Err-clause-lacked g c = λ memory.
    let seen = joined_seen (single_seen g.R.D.Disk.seen) in
    let e = c.hand_back.ensures in
    handed-none seen [] None c.hand_back.result.disks.items c.hand_back.result.swap (e.disks ∙ ap (map (λ (d : NumberedDisk _). d.disk)) c.requires.disks.0)
    (e.swap ∙ ap (option_map (λ (d : NumberedDisk _). d.disk)) c.requires.swap) (record { each = All-nil (λ (d : DiskSeen). failures_told d ≡ 0); last = tt })

pub returns-in-Ok-mount_all-clause-uncounted : goal.returns-in-Ok-mount_all-clause-uncounted
returns-in-Ok-mount_all-clause-uncounted g c =
    record { each = bare-none (map (numbered_seen (joined_seen (single_seen g.R.D.Disk.seen))) c.mount_all.new.disks.items) c.in-Ok-mount_all.ensures.uncounted; last = swap-told _ c.in-Ok.ensures.unfailed }

pub returns-in-Err-mount_all-clause-lacked : goal.returns-in-Err-mount_all-clause-lacked
returns-in-Err-mount_all-clause-lacked g c = λ memory.
    let seen = joined_seen (single_seen g.R.D.Disk.seen) in
    let e = c.hand_back-in-Err-mount_all.ensures in
    let disks = c.mount_all.new.disks.items in
    let none = where-lacked {T = Unit {0}} (Err c.in-Err-mount_all.how) c.in-Err-mount_all.how refl (sym e.why ∙ memory) c.in-Err-mount_all.ensures.uncounted in
    handed-none seen disks c.in-Ok.swap c.hand_back-in-Err-mount_all.result.disks.items c.hand_back-in-Err-mount_all.result.swap e.disks e.swap
    (record { each = bare-none (map (numbered_seen seen) disks) none; last = swap-told _ c.in-Ok.ensures.unfailed })

-- the rack counted a fault only where it failed
pub returns-in-Err-clause-rack : goal.returns-in-Err-clause-rack
returns-in-Err-clause-rack g c =
    let old = (g.R.Rack.seen c.args.rack.now).faults in
    let new = (g.R.Rack.seen c.attach_swap.new.rack).faults in
    subst (λ (w : OpenStop). UnlessRack w (new ≡ old)) (sym c.hand_back.ensures.why)
    (swap-racked (new ≡ old) 8 old new c.in-Err.how c.attach_swap.result c.in-Err.is c.in-Err.ensures.err c.attach_swap.ensures.steady)

pub returns-in-Err-mount_all-clause-rack : goal.returns-in-Err-mount_all-clause-rack
returns-in-Err-mount_all-clause-rack g c =
    let old = (g.R.Rack.seen c.args.rack.now).faults in
    let new = (g.R.Rack.seen c.mount_all.new.rack).faults in
    subst (λ (w : OpenStop). UnlessRack w (new ≡ old)) (sym c.hand_back-in-Err-mount_all.ensures.why)
    (unless-rack c.in-Err-mount_all.how (λ same. same ∙ c.in-Ok.ensures.steady) c.in-Err-mount_all.ensures.steady)
