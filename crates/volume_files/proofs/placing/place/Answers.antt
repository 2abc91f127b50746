use Rattle.std.specs.Prelude.{ℕ, ◌≡◌, List, length, map, option_map, None}
use Rattle.std.proofs.Common.{Vec, arith, sym, ap, ◌∙◌, subst}
use Rattle.std.specs.Vec.{with_items}
use Rattle.block_device.specs.DiskSeen.{DiskSeen}
use Rattle.block_device.specs.declared.numbered.NumberedDisk.{NumberedDisk}
use Rattle.volume_format.specs.Table.{TableSeen}
use Rattle.vm_report.specs.vm_script.PlanSeen.{PlanSeen}
use Rattle.vm_report.specs.vm_script.Rules.{broken_rule}
use Rattle.vm_report.specs.vm_script.FileNames.{with_files}
use Rattle.volume_files.specs.Attached.{AreMounted, ArePlaced, bare_disks}
use Rattle.stored_files.specs.Written.{numbered_seen}
use Rattle.volume_files.specs.Handed.{AreUncounted, members_of}
use Rattle.stored_files.specs.Uncut.{counts_of}
use Rattle.volume_files.specs.Opened.{setup_volumes}
use Rattle.volume_files.specs.Placing.{Distinct, PlaceStopped, PlacesFiles, RemainThere, attached_numbers, found_files, names_made, placing_read}
use Rattle.volume_files.proofs.DiskCounts.{members-remain}
use Rattle.volume_files.proofs.AllPlaced.{distinct-attached, placed-all}
use Rattle.volume_files.proofs.FileLineLemmas.{names-opened}
use Rattle.volume_files.proofs.FoundLemmas.{all-blocks}
use Rattle.volume_files.proofs.LawLemmas.{placeable-lines}
use Rattle.volume_files.proofs.PlanLemmas.{rules-named}
use Rattle.volume_files.proofs.StopLemmas.{stops-early, items-written}
use Rattle.volume_files.proofs.Unfailing.{handed-none, unwritten, zero-still}
use Rattle.volume_files.proofs.placing.place.Goals as goal

pub number_files-requires-clause-mounted : goal.number_files-requires-clause-mounted
number_files-requires-clause-mounted g c =
    let a = c.requires.attached in
    let specs = setup_volumes c.args.plan.now.setup in (
      a.0,
      specs,
      subst (λ (ds : List (NumberedDisk _)). AreMounted a.0 specs (map (numbered_seen g.D.Disk.seen) ds) c.deref.result.now) (sym c.deref_mut.ensures.value)
          (subst (λ (ts : List TableSeen). AreMounted a.0 specs (map (numbered_seen g.D.Disk.seen) c.args.attached.disks.items) ts) (sym c.deref.ensures.value) a.1.mounted),
    )

pub number_files-requires-clause-distinct : goal.number_files-requires-clause-distinct
number_files-requires-clause-distinct g c =
    let a = c.requires.attached in
    subst (λ (ds : List (NumberedDisk _)). Distinct (attached_numbers ds)) (sym c.deref_mut.ensures.value)
    (distinct-attached g.D.Disk.seen c.args.plan.now a.0 c.args.attached.disks.items c.args.attached.tables.items a.1.mounted)

pub number_files-requires-clause-placeable : goal.number_files-requires-clause-placeable
number_files-requires-clause-placeable g c = placeable-lines c.args.plan.now c.requires.rules c.requires.sound

pub returns-in-Ok-clause-ok : goal.returns-in-Ok-clause-ok
returns-in-Ok-clause-ok g c = λ holds a.
    let seen = g.D.Disk.seen in
    let plan = c.args.plan.now in
    let old = c.deref_mut.result.now in
    let new = c.number_files.new.disks in
    let ts = c.args.attached.tables.items in
    let files = c.in-Ok.files in
    let m : AreMounted holds (setup_volumes plan.setup) (map (numbered_seen seen) old) ts =
    subst (λ (ds : List (NumberedDisk _)). AreMounted holds (setup_volumes plan.setup) (map (numbered_seen seen) ds) ts) (sym c.deref_mut.ensures.value) a.mounted in
    let placed = subst (λ (xs : List TableSeen). PlacesFiles seen plan.setup old xs new files) c.deref.ensures.value c.in-Ok.ensures.ok in
    let remain = c.number_files.ensures.remain in
    let written : (with_items c.args.attached.disks new).items ≡ new =
    items-written c.args.attached.disks new (remain.count ∙ ap (λ (ds : List (NumberedDisk _)). length ds) c.deref_mut.ensures.value) in
    let all = placed-all seen plan holds old new ts (option_map (λ (d : NumberedDisk _). seen d.disk) c.args.attached.swap) files (λ d. g.met.D.Disk.has_blocks d.disk)
    c.requires.rules c.requires.sound m a.swap a.blank remain c.in-Ok.ensures.sound c.in-Ok.ensures.few placed in (
      placed.opened,
      subst (λ (ds : List (NumberedDisk _)). ArePlaced plan holds placed.opened
          (record { disks = map (numbered_seen seen) ds; tables = ts; swap = option_map (λ (d : NumberedDisk _). seen d.disk) c.args.attached.swap }) files) (sym written) all,
      c.in-Ok.ensures.plan ∙ ap (λ (ns : List (List ℕ)). with_files ns plan) (names-opened files placed.opened placed.has),
    )

pub returns-in-Ok-clause-rooms : goal.returns-in-Ok-clause-rooms
returns-in-Ok-clause-rooms g c =
    let count : length c.number_files.new.disks ≡ length c.args.attached.disks.items =
    c.number_files.ensures.remain.count ∙ ap (λ (ds : List (NumberedDisk _)). length ds) c.deref_mut.ensures.value in
    let same : length (with_items c.args.attached.disks c.number_files.new.disks).items ≡ length c.number_files.new.disks =
    ap (λ (ds : List (NumberedDisk _)). length ds) (items-written c.args.attached.disks c.number_files.new.disks count) in
    record {
      no_numbered = c.requires.rooms.no_numbered;
      numbered = omega (arith, same, count, c.requires.rooms.numbered);
      none_back = c.requires.rooms.none_back;
      back = omega (arith, same, count, c.requires.rooms.back);
    }

pub returns-in-Ok-clause-rules : goal.returns-in-Ok-clause-rules
returns-in-Ok-clause-rules g c =
    subst (λ (p : PlanSeen). broken_rule p ≡ None) (sym c.in-Ok.ensures.plan) (rules-named (names_made c.in-Ok.files) c.args.plan.now c.requires.rules)

pub hand_back-requires-clause-room : goal.hand_back-requires-clause-room
hand_back-requires-clause-room g c =
    let count : length c.number_files.new.disks ≡ length c.args.attached.disks.items =
    c.number_files.ensures.remain.count ∙ ap (λ (ds : List (NumberedDisk _)). length ds) c.deref_mut.ensures.value in
    let same : length (with_items c.args.attached.disks c.number_files.new.disks).items ≡ length c.number_files.new.disks =
    ap (λ (ds : List (NumberedDisk _)). length ds) (items-written c.args.attached.disks c.number_files.new.disks count) in
    omega (arith, same, count, c.requires.rooms.back)

pub returns-in-Err-clause-err : goal.returns-in-Err-clause-err
returns-in-Err-clause-err g c = λ holds count a.
    let seen = g.D.Disk.seen in
    let plan = c.args.plan.now in
    let old = c.deref_mut.result.now in
    let new = c.number_files.new.disks in
    let ts = c.args.attached.tables.items in
    let m : AreMounted holds (setup_volumes plan.setup) (map (numbered_seen seen) old) ts =
    subst (λ (ds : List (NumberedDisk _)). AreMounted holds (setup_volumes plan.setup) (map (numbered_seen seen) ds) ts) (sym c.deref_mut.ensures.value) a.mounted in
    let remain = c.number_files.ensures.remain in
    let same : length new ≡ length c.args.attached.disks.items = remain.count ∙ ap (λ (ds : List (NumberedDisk _)). length ds) c.deref_mut.ensures.value in
    let written : (with_items c.args.attached.disks new).items ≡ new = items-written c.args.attached.disks new same in
    let stopped = subst (λ (xs : List TableSeen). PlaceStopped seen (length (found_files (map (numbered_seen seen) old) xs))
    (placing_read seen old xs plan.setup) old new c.in-Err.how) c.deref.ensures.value c.in-Err.ensures.stop in
    stops-early seen plan holds old new ts c.args.attached.swap count c.in-Err.how c.hand_back.result (c.hand_back.ensures.why ∙ c.open_stop.ensures)
    (c.hand_back.ensures.disks ∙ ap (map (λ (d : NumberedDisk _). d.disk)) written) c.hand_back.ensures.swap (all-blocks seen old (λ d. g.met.D.Disk.has_blocks d.disk)) m a.swap a.blank remain stopped

-- as many disks as were attached
still : {D Z : Type 0} (seen : D → DiskSeen) (v : Vec (NumberedDisk D) Z) (old new : List (NumberedDisk D)) → old ≡ v.items → RemainThere seen old new
    → members_of (bare_disks (map (numbered_seen seen) (with_items v new).items)) ≡ members_of (bare_disks (map (numbered_seen seen) v.items))
still {D} seen v old new was remain =
    let f : List (NumberedDisk D) → ℕ = λ ds. members_of (bare_disks (map (numbered_seen seen) ds)) in
    ap f (items-written v new (remain.count ∙ ap (λ (ds : List (NumberedDisk D)). length ds) was)) ∙ members-remain seen old new remain ∙ ap f was

pub returns-in-Ok-clause-kept : goal.returns-in-Ok-clause-kept
returns-in-Ok-clause-kept g c =
    let same = still g.D.Disk.seen c.args.attached.disks c.deref_mut.result.now c.number_files.new.disks c.deref_mut.ensures.value c.number_files.ensures.remain in
    omega (arith, same)

pub returns-in-Err-clause-back : goal.returns-in-Err-clause-back
returns-in-Err-clause-back g c =
    let same = still g.D.Disk.seen c.args.attached.disks c.deref_mut.result.now c.number_files.new.disks c.deref_mut.ensures.value c.number_files.ensures.remain in
    c.hand_back.ensures.count ∙ omega (arith, same)

pub returns-in-Ok-clause-uncounted : goal.returns-in-Ok-clause-uncounted
returns-in-Ok-clause-uncounted g c = λ none.
    let f = numbered_seen g.D.Disk.seen in
    let new = c.number_files.new.disks in
    let was = c.deref_mut.ensures.value in
    let written : (with_items c.args.attached.disks new).items ≡ new =
    items-written c.args.attached.disks new (c.number_files.ensures.remain.count ∙ ap (λ (ds : List (NumberedDisk _)). length ds) was) in
    let same = c.in-Ok.ensures.failures ∙ ap (λ (ds : List (NumberedDisk _)). counts_of (map f ds)) was in
    subst (λ (ds : List (NumberedDisk _)). AreUncounted (bare_disks (map f ds)) (option_map (λ (d : NumberedDisk _). g.D.Disk.seen d.disk) c.args.attached.swap)) (sym written)
    (record { each = zero-still (map f c.args.attached.disks.items) (map f new) same none.each; last = none.last })

pub returns-in-Err-clause-lacked : goal.returns-in-Err-clause-lacked
returns-in-Err-clause-lacked g c = λ none memory.
    let seen = g.D.Disk.seen in
    let new = c.number_files.new.disks in
    let was = c.deref_mut.ensures.value in
    let written : (with_items c.args.attached.disks new).items ≡ new =
    items-written c.args.attached.disks new (c.number_files.ensures.remain.count ∙ ap (λ (ds : List (NumberedDisk _)). length ds) was) in
    let same = unwritten seen _ _ c.deref_mut.result.now new c.in-Err.how (sym (c.hand_back.ensures.why ∙ c.open_stop.ensures) ∙ memory) c.in-Err.ensures.stop ∙ was in
    handed-none seen c.args.attached.disks.items c.args.attached.swap c.hand_back.result.disks.items c.hand_back.result.swap
    (c.hand_back.ensures.disks ∙ ap (map (λ (d : NumberedDisk _). d.disk)) (written ∙ same)) c.hand_back.ensures.swap none
