use Rattle.std.proofs.Common.{arith}
use Rattle.stored_files.proofs.disk_tables.table_entry.Goals as goal

pub returns-clause-number : goal.returns-clause-number
returns-clause-number c = omega (arith, c.length_of-length.type_inv, c.length_of-length.ensures)
