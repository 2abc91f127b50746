use Rattle.std.specs.Prelude.{ℕ, ◌≡◌, ◌≤◌, List, [], length, map, Ok, Result}
use Rattle.std.specs.Ordering.{nat_cmp}
use Rattle.std.specs.FinMap as finite
use Rattle.std.proofs.Common.{arith, sym, ap, ◌∙◌, subst, refl}
use Rattle.std.proofs.lemmas.List.{length-map}
use Rattle.std.proofs.lemmas.Result.{err_from_is_err_and}
use Rattle.volume_format.specs.vnode_files.Files.{FilesSeen, block_count}
use Rattle.volume_files.specs.declared.stops.Refusal.{Refusal}
use Rattle.stored_files.specs.Written.{numbered_seen}
use Rattle.volume_files.specs.Opened.{OpenedFile, with_line_files, mounted_infos}
use Rattle.volume_files.specs.Handed.{SpareBlock}
use Rattle.volume_files.specs.Placing.{KeepThere, Gave, HasOpened, LieRight, Stopped, WroteEach, attached_numbers, found_files, line_files, sizes_by_number}
use Rattle.volume_files.proofs.FileLineLemmas.{length-made}
use Rattle.volume_files.proofs.PlaceLemmas.{mounted-opened, length-found, few-taken, stop-mounting, stop-lines, mounted-lies, lines-given, stop-writing}
use Rattle.volume_files.proofs.PlacedLemmas.{mounted-volumes, mounted-addable}
use Rattle.volume_files.proofs.placing.place_files.Goals as goal

pub mount-requires-clause-count : goal.mount-requires-clause-count
mount-requires-clause-count g c =
    let m = c.requires.mounted in
    (mounted-volumes m.0 m.1 (map (numbered_seen g.D.Disk.seen) c.args.disks.now) c.args.tables.now m.2).1 ∙ length-map c.args.disks.now (numbered_seen g.D.Disk.seen)

pub mount-requires-clause-addable : goal.mount-requires-clause-addable
mount-requires-clause-addable g c =
    let m = c.requires.mounted in
    mounted-addable c.args.tables.now (mounted-volumes m.0 m.1 (map (numbered_seen g.D.Disk.seen) c.args.disks.now) c.args.tables.now m.2).0

pub returns-in_err-files-clause-stop : goal.returns-in_err-files-clause-stop
returns-in_err-files-clause-stop g c =
    let seen = g.D.Disk.seen in
    let old = c.args.disks.now in
    let ts = c.args.tables.now in
    let p = err_from_is_err_and c.from_residual.result c.from_residual.ensures.1 in
    rw (p.1, p.2) (stop-mounting seen (block_count (finite.from_entries (sizes_by_number seen old))) (found_files (map (numbered_seen seen) old) ts) c.args.setup.now old
    (length (mounted_infos (attached_numbers old) ts)) c.in_err-files.field-0.0 (sym (length-found seen old ts)) c.in_err-files.ensures.stop)

pub add_lines-requires-clause-lie : goal.add_lines-requires-clause-lie
add_lines-requires-clause-lie g c =
    let m = c.requires.mounted in
    subst LieRight (sym c.in_ok-files.ensures.ok) (mounted-lies g.D.Disk.seen m.0 m.1 c.args.disks.now c.args.tables.now m.2 c.requires.distinct)

pub returns-in_err-add_lines-clause-stop : goal.returns-in_err-add_lines-clause-stop
returns-in_err-add_lines-clause-stop g c =
    let seen = g.D.Disk.seen in
    let old = c.args.disks.now in
    let ts = c.args.tables.now in
    let files = c.in_ok-files.files in
    let found = found_files (map (numbered_seen seen) old) ts in
    let none : FilesSeen = record { disks = finite.from_entries (sizes_by_number seen old); files = [] } in
    let opened : HasOpened files found = mounted-opened seen old ts none files refl c.in_ok-files.ensures.ok in
    let few : length found ≤ 64 = omega (arith, c.count-first.ensures.few, length-made files found opened) in
    let disks : files.disks ≡ finite.from_entries (sizes_by_number seen old) = ap (λ (s : FilesSeen). s.disks) c.in_ok-files.ensures.ok in
    let stopped : Stopped (with_line_files (block_count (finite.from_entries (sizes_by_number seen old))) (Ok found) c.args.setup.now) c.in_err-add_lines.field-0.0 =
    subst (λ (t : finite.FinMap nat_cmp ℕ). Stopped (with_line_files (block_count t) (Ok found) c.args.setup.now) c.in_err-add_lines.field-0.0) disks
    (c.in_err-add_lines.ensures.placed found opened) in
    let p = err_from_is_err_and c.from_residual-in_err-add_lines.result c.from_residual-in_err-add_lines.ensures.1 in
    rw (p.1, p.2) (stop-lines seen (block_count (finite.from_entries (sizes_by_number seen old))) found c.args.setup.now old c.in_err-add_lines.field-0.0 few stopped)

pub write_lines-requires-clause-count : goal.write_lines-requires-clause-count
write_lines-requires-clause-count g c =
    let seen = g.D.Disk.seen in
    let m = c.requires.mounted in
    let none : FilesSeen = record { disks = finite.from_entries (sizes_by_number seen c.args.disks.now); files = [] } in
    let opened = mounted-opened seen c.args.disks.now c.args.tables.now none c.in_ok-files.files refl c.in_ok-files.ensures.ok in
    (lines-given seen m.0 m.1 c.args.disks.now c.args.tables.now c.args.setup.now c.in_ok-files.files c.add_lines.new.files c.count-first.result m.2 c.requires.distinct c.requires.placeable
    c.in_ok-files.ensures.ok c.count-first.ensures.count c.count-first.ensures.few
    (c.in_ok-add_lines.ensures.placed (found_files (map (numbered_seen seen) c.args.disks.now) c.args.tables.now) opened)).count

pub write_lines-requires-clause-places : goal.write_lines-requires-clause-places
write_lines-requires-clause-places g c =
    let seen = g.D.Disk.seen in
    let m = c.requires.mounted in
    let none : FilesSeen = record { disks = finite.from_entries (sizes_by_number seen c.args.disks.now); files = [] } in
    let opened = mounted-opened seen c.args.disks.now c.args.tables.now none c.in_ok-files.files refl c.in_ok-files.ensures.ok in
    (lines-given seen m.0 m.1 c.args.disks.now c.args.tables.now c.args.setup.now c.in_ok-files.files c.add_lines.new.files c.count-first.result m.2 c.requires.distinct c.requires.placeable
    c.in_ok-files.ensures.ok c.count-first.ensures.count c.count-first.ensures.few
    (c.in_ok-add_lines.ensures.placed (found_files (map (numbered_seen seen) c.args.disks.now) c.args.tables.now) opened)).places

-- a page that wasn't written breaks no rule
pub returns-in_err-write_lines-clause-stop : goal.returns-in_err-write_lines-clause-stop
returns-in_err-write_lines-clause-stop g c =
    let seen = g.D.Disk.seen in
    let old = c.args.disks.now in
    let found = found_files (map (numbered_seen seen) old) c.args.tables.now in
    let none : FilesSeen = record { disks = finite.from_entries (sizes_by_number seen old); files = [] } in
    let opened = mounted-opened seen old c.args.tables.now none c.in_ok-files.files refl c.in_ok-files.ensures.ok in
    let few : length found ≤ 64 = omega (arith, c.count-first.ensures.few, length-made c.in_ok-files.files found opened) in
    let count : c.count-first.result ≡ length found = c.count-first.ensures.count ∙ length-made c.in_ok-files.files found opened in
    let disks : c.in_ok-files.files.disks ≡ finite.from_entries (sizes_by_number seen old) = ap (λ (s : FilesSeen). s.disks) c.in_ok-files.ensures.ok in
    let gave : Gave c.add_lines.new.files (with_line_files (block_count (finite.from_entries (sizes_by_number seen old))) (Ok found) c.args.setup.now) =
    subst (λ (t : finite.FinMap nat_cmp ℕ). Gave c.add_lines.new.files (with_line_files (block_count t) (Ok found) c.args.setup.now)) disks (c.in_ok-add_lines.ensures.placed found opened) in
    let p = err_from_is_err_and c.from_residual-in_err-write_lines.result c.from_residual-in_err-write_lines.ensures.1 in
    rw (p.1, p.2) (stop-writing seen (block_count (finite.from_entries (sizes_by_number seen old))) found c.args.setup.now old c.write_lines.new.disks
    c.add_lines.new.files c.in_err-write_lines.field-0.0
    few gave c.in_err-write_lines.ensures.fault
    (subst (λ n. KeepThere seen (SpareBlock (line_files c.add_lines.new.files n c.args.setup.now)) old c.write_lines.new.disks) count c.write_lines.ensures.keep))

pub returns-clause-ok : goal.returns-clause-ok
returns-clause-ok g c =
    let seen = g.D.Disk.seen in
    let m = c.requires.mounted in
    let found = found_files (map (numbered_seen seen) c.args.disks.now) c.args.tables.now in
    let none : FilesSeen = record { disks = finite.from_entries (sizes_by_number seen c.args.disks.now); files = [] } in
    let opened = mounted-opened seen c.args.disks.now c.args.tables.now none c.in_ok-files.files refl c.in_ok-files.ensures.ok in
    let give = lines-given seen m.0 m.1 c.args.disks.now c.args.tables.now c.args.setup.now c.in_ok-files.files c.add_lines.new.files c.count-first.result m.2 c.requires.distinct c.requires.placeable
    c.in_ok-files.ensures.ok c.count-first.ensures.count c.count-first.ensures.few
    (c.in_ok-add_lines.ensures.placed (found_files (map (numbered_seen seen) c.args.disks.now) c.args.tables.now) opened) in
    let count : c.count-first.result ≡ length found = c.count-first.ensures.count ∙ length-made c.in_ok-files.files found opened in
    let few : length found ≤ 64 = omega (arith, count, c.count-first.ensures.few, c.count-first.ensures.count) in
    record {
      opened = give.after;
      read = ap (λ (r : Result (List OpenedFile) Refusal). with_line_files
          (block_count (finite.from_entries (sizes_by_number seen c.args.disks.now))) r c.args.setup.now) (few-taken found few) ∙ give.read;
      has = give.has;
      lie = c.in_ok-add_lines.ensures.lie;
      disks = c.in_ok-add_lines.ensures.disks ∙ ap (λ (s : FilesSeen). s.disks) c.in_ok-files.ensures.ok;
      wrote = subst (λ n. WroteEach seen (line_files c.add_lines.new.files n c.args.setup.now) c.args.disks.now c.write_lines.new.disks) count c.in_ok-write_lines.ensures.ok;
      keep = subst (λ n. KeepThere seen (SpareBlock (line_files c.add_lines.new.files n c.args.setup.now)) c.args.disks.now c.write_lines.new.disks) count c.write_lines.ensures.keep;
    }
