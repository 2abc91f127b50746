use Rattle.std.proofs.Common.{map, take, arith}
use Rattle.trace_text.specs.OpeningSeen.{traced_file_seen}
use Rattle.trace_check.specs.Checks.{file_of_trace}
use Rattle.trace_check.proofs.Openings.{files_none, files_all, file_more, disk_there}
use Rattle.trace_check.proofs.opened.add_files.Goals as goal

pub loop-file-init : goal.loop-file-init
loop-file-init c = files_none c.args.flat.now

pub add_file-requires : goal.add_file-requires
add_file-requires c =
    let files = c.args.files.now in
    let i = c.loop-file.file-index in
    disk_there c.args.flat.now c.loop-file.flat files (map file_of_trace (map traced_file_seen (take i files))) i c.file-item.result c.loop-file.invariant (omega arith)
    c.file-item.is c.requires

pub loop-file-preserved : goal.loop-file-preserved
loop-file-preserved c =
    file_more c.args.flat.now c.loop-file.flat c.add_file.new.flat c.args.files.now c.loop-file.file-index c.file-item.result (omega arith) c.file-item.is
    c.loop-file.invariant c.in_ok-add_file.ensures

pub returns : goal.returns
returns c = files_all c.args.flat.now c.loop-file.flat c.args.files.now c.loop-file.file-index (omega arith) c.loop-file.invariant
