use Rattle.std.proofs.Common.{◌≤◌, ℕ, ◌+◌, List, length, get_or, sym, subst, arith, rules}
use Rattle.std.proofs.lemmas.Grind.{common_steps}
use Rattle.std.proofs.lemmas.List.{length-map, map-set}
use Rattle.block_device.specs.DiskSeen.{DiskSeen}
use Rattle.stored_files.specs.Written.{paired_seen}
use Rattle.stored_files.specs.Written.{infos_made}
use Rattle.stored_files.specs.Written.{WriteTables, IsTableStop}
use Rattle.stored_files.specs.DiskTables.{TablesSoFar}
use Rattle.stored_files.proofs.ShownFiles.{there_or}
use Rattle.stored_files.proofs.TablesWritten.{tables_begin, tables_write, tables_step, tables_stop, tables_done, size_there, some_there}
use Rattle.stored_files.proofs.closing.write_tables.Goals as goal

pub loop-place-init : goal.loop-place-init
loop-place-init g c = tables_begin (infos_made c.args.files.now) (paired_seen g.D.Disk.seen c.args.disks.now)

pub write_table-requires-clause-number : goal.write_table-requires-clause-number
write_table-requires-clause-number g c =
    let seen = g.D.Disk.seen in
    let place = c.loop-place.place in
    let d = get_or c.loop-place.disks place c.index-disks-place.result in
    size_there c.args.files.now (paired_seen seen c.args.disks.now) (paired_seen seen c.loop-place.disks) place (d.0, seen d.1) c.requires.disks c.loop-place.invariant.writes
    (there_or (λ disk. (disk.0, seen disk.1)) c.loop-place.disks place c.index-disks-place.result (omega (arith, c.loop-place-test.true, c.loop-place.auto.disks)))

pub write_table-requires-clause-some : goal.write_table-requires-clause-some
write_table-requires-clause-some g c =
    let seen = g.D.Disk.seen in
    let place = c.loop-place.place in
    let d = get_or c.loop-place.disks place c.index-disks-place.result in
    some_there (paired_seen seen c.args.disks.now) (paired_seen seen c.loop-place.disks) place (d.0, seen d.1) c.requires.some c.loop-place.invariant.writes
    (there_or (λ disk. (disk.0, seen disk.1)) c.loop-place.disks place c.index-disks-place.result (omega (arith, c.loop-place-test.true, c.loop-place.auto.disks)))

pub loop-place-preserved : goal.loop-place-preserved
loop-place-preserved g c =
    let seen = g.D.Disk.seen in
    let infos = infos_made c.args.files.now in
    let place = c.loop-place.place in
    let d = get_or c.loop-place.disks place c.index-disks-place.result in
    let e = c.write_table.new.disk in
    let old = paired_seen seen c.args.disks.now in
    let at = there_or (λ disk. (disk.0, seen disk.1)) c.loop-place.disks place c.index-disks-place.result (omega (arith, c.loop-place-test.true, c.loop-place.auto.disks)) in
    subst (λ (ds : List (ℕ × DiskSeen)). TablesSoFar infos (place + 1) old ds) (sym (map-set (λ disk. (disk.0, seen disk.1)) c.loop-place.disks place e))
    (tables_step infos place old (paired_seen seen c.loop-place.disks) (d.0, seen d.1)
    (e.0, seen e.1) at c.in_ok-write_table.ensures.number c.in_ok-write_table.ensures.keeps c.loop-place.invariant c.in_ok-write_table.ensures.says c.in_ok-write_table.ensures.steady)

pub returns-in_err-write_table-clause-keeps : goal.returns-in_err-write_table-clause-keeps
returns-in_err-write_table-clause-keeps g c =
    let seen = g.D.Disk.seen in
    let infos = infos_made c.args.files.now in
    let place = c.loop-place.place in
    let d = get_or c.loop-place.disks place c.index-disks-place.result in
    let e = c.write_table.new.disk in
    let old = paired_seen seen c.args.disks.now in
    let at = there_or (λ disk. (disk.0, seen disk.1)) c.loop-place.disks place c.index-disks-place.result (omega (arith, c.loop-place-test.true, c.loop-place.auto.disks)) in
    subst (λ (ds : List (ℕ × DiskSeen)). WriteTables old ds) (sym (map-set (λ disk. (disk.0, seen disk.1)) c.loop-place.disks place e))
    (tables_write infos place old (paired_seen seen c.loop-place.disks) (d.0, seen d.1)
    (e.0, seen e.1) at c.in_err-write_table.ensures.number c.in_err-write_table.ensures.keeps c.loop-place.invariant)

pub returns-in_err-write_table-clause-stop : goal.returns-in_err-write_table-clause-stop
returns-in_err-write_table-clause-stop g c =
    let seen = g.D.Disk.seen in
    let infos = infos_made c.args.files.now in
    let place = c.loop-place.place in
    let d = get_or c.loop-place.disks place c.index-disks-place.result in
    let e = c.write_table.new.disk in
    let old = paired_seen seen c.args.disks.now in
    let at = there_or (λ disk. (disk.0, seen disk.1)) c.loop-place.disks place c.index-disks-place.result (omega (arith, c.loop-place-test.true, c.loop-place.auto.disks)) in
    let stop = subst (λ (ds : List (ℕ × DiskSeen)). IsTableStop infos old ds c.in_err-write_table.field-0.0) (sym (map-set (λ disk. (disk.0, seen disk.1)) c.loop-place.disks place e))
    (tables_stop infos place old (paired_seen seen c.loop-place.disks) (d.0, seen d.1)
    (e.0, seen e.1) at c.in_err-write_table.ensures.number c.in_err-write_table.ensures.keeps c.loop-place.invariant c.in_err-write_table.field-0.0 c.in_err-write_table.ensures.stop) in
    first_of (search (rules, stop), grind (arith, common_steps, stop))

pub returns-clause-tables : goal.returns-clause-tables
returns-clause-tables g c =
    let seen = g.D.Disk.seen in
    let past : length (paired_seen seen c.loop-place.disks) ≤ c.loop-place.place =
    omega (arith, c.loop-place-test.false, c.loop-place.auto.disks, length-map {B = ℕ × DiskSeen} c.loop-place.disks (λ disk. (disk.0, seen disk.1))) in
    tables_done (infos_made c.args.files.now) c.loop-place.place (paired_seen seen c.args.disks.now) (paired_seen seen c.loop-place.disks) c.loop-place.invariant past

pub returns-clause-uncounted : goal.returns-clause-uncounted
returns-clause-uncounted g c = c.loop-place.invariant.uncounted
