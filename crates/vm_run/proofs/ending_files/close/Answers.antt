use Rattle.std.proofs.Common.{arith, inl, refl, rules}
use Rattle.std.proofs.lemmas.Grind.{common_steps}
use Rattle.vm_core.specs.page_store.Bays.{pairs_seen}
use Rattle.volume_files.proofs.DiskLists.{writes-refl}
use Rattle.run_report.proofs.Endings.{lacks-closed, no-tables, tables-to}
use Rattle.volume_files.proofs.stored_files.WrittenTexts.{wrote_nothing}
use Rattle.volume_files.specs.stored_files.Written.{infos_made}
use Rattle.vm_run.proofs.KeptTables.{lacks-kept}
use Rattle.vm_run.proofs.ending_files.close.Goals as goal

pub returns-then-is_some-clause-ends : goal.returns-then-is_some-clause-ends
returns-then-is_some-clause-ends g c =
    lacks-closed c.args.is_whole _ _ _ _ _ _ _ _ _ _ (search rules) (λ some. refl)
    (record {
      memory = refl;
      writes = writes-refl (pairs_seen g.D.Disk.seen c.args.finished.now.disks.items);
      tables = inl (0, no-tables _ (pairs_seen g.D.Disk.seen c.args.finished.now.disks.items));
      wrote = wrote_nothing (g.K.Sink.seen c.args.out.now);
    })

pub returns-then-not-is_whole-clause-ends : goal.returns-then-not-is_whole-clause-ends
returns-then-not-is_whole-clause-ends g c =
    lacks-closed c.args.is_whole _ _ _ _ _ _ _ _ _ _ (search rules) (λ some. first_of (search (rules, some), grind (arith, common_steps, some)))
    (lacks-kept (infos_made c.args.finished.now.files) _ _ (pairs_seen g.D.Disk.seen c.as_mut_slice.result.now) (pairs_seen g.D.Disk.seen c.write_tables.new.disks) _ _ _ refl
    (tables-to _ _ _ c.write_tables.ensures.keeps c.write_tables.result c.write_tables.ensures.tables c.write_tables.ensures.uncounted c.write_tables.ensures.stop)
    (first_of (search rules, grind (arith, common_steps))) (first_of (search rules, grind (arith, common_steps)))
    (first_of (search rules, grind (arith, common_steps))) (first_of (search rules, grind (arith, common_steps))))
