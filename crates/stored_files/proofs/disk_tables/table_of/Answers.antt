use Rattle.std.proofs.Common.{arith}
use Rattle.stored_files.proofs.TableFiles.{table_begin, table_done}
use Rattle.stored_files.proofs.disk_tables.table_of.Goals as goal

pub loop-file-init : goal.loop-file-init
loop-file-init c = table_begin c.args.files.now c.args.disk c.args.blocks c.new-table.result c.requires.number c.new-table.ensures.new c.new-table.ensures.volume

pub returns-clause-table : goal.returns-clause-table
returns-clause-table c = table_done c.args.files.now c.args.disk c.args.blocks c.loop-file.file c.loop-file.table c.loop-file.invariant c.requires.number
    (omega (arith, c.loop-file-test.false, c.count-file-end.ensures.count))
