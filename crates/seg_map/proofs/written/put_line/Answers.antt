use Rattle.std.proofs.Common.{◌+◌, ◌%◌, ◌≤◌, ℕ, List, length, sym, ap, subst}
use Rattle.seg_ops.specs.flat_model.Words.{page}
use Rattle.seg_ops.proofs.flat_model.Lines.{line-in_page}
use Rattle.seg_ops.specs.vm_world.FileSteps.{ChangesFile}
use Rattle.seg_ops.specs.vm_world.Words.{memory}
use Rattle.seg_map.specs.Puts.{with_bytes_in}
use Rattle.seg_map.proofs.written.put_line.Goals as goal

pub put-requires-clause-within : goal.put-requires-clause-within
put-requires-clause-within g c =
    subst (λ (bs : List ℕ). c.args.offset % 4096 + length bs ≤ 4096) (sym c.bytes.ensures.bytes) (line-in_page c.args.offset (length c.args.line.now) c.requires.line.inside)

pub returns-clause-puts : goal.returns-clause-puts
returns-clause-puts g c = λ spaces fits.
    subst (λ (bs : List ℕ). ChangesFile c.args.file (memory c.args.world.now spaces) (memory c.put.new.world spaces) (with_bytes_in (page c.args.offset) (c.args.offset % 4096) bs)) c.bytes.ensures.bytes (c.put.ensures.puts spaces fits)

pub returns-clause-names : goal.returns-clause-names
returns-clause-names g c = ap (λ s. s.names) c.put.ensures.store
