use Rattle.stored_files.proofs.closing.write_table.Goals as goal

pub write_block-requires-clause-block : goal.write_block-requires-clause-block
write_block-requires-clause-block g c = c.requires.some
