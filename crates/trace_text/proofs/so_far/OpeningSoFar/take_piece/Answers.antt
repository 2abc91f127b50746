use Rattle.std.proofs.Common.{List, [], ◌∷◌, ◌++◌, map, sym, ap, ◌∙◌}
use Rattle.trace_text.specs.declared.so_far.OpeningSoFar.{OpeningSoFar}
use Rattle.trace_text.specs.declared.so_far.Stage.{Stage}
use Rattle.trace_text.specs.Traces.{TracedFile, Trace}
use Rattle.trace_text.specs.LinesRead.{put_in_last}
use Rattle.trace_text.specs.OpeningSeen.{traced_file_seen, files_seen}
use Rattle.trace_text.proofs.LinesTelling.{put_last}
use Rattle.trace_text.proofs.OpeningRead.{piece_seen}
use Rattle.trace_text.proofs.so_far.OpeningSoFar.take_piece.Goals as goal

trace_with : OpeningSoFar → List TracedFile → Trace
trace_with w files = record { slots = w.slots; disks = w.disks.items; roots = w.roots.items; files = files; history = [] }

pub returns-clause-trace : goal.returns-clause-trace
unfolding trace_with
returns-clause-trace c =
    let old = c.in-InFile.file in
    let new = c.in_ok-with_piece.field-0 in
    let before = map traced_file_seen c.in-InFile.before.items in
    let offset = c.args.offset in
    let bytes = c.args.bytes.now in
    let file = piece_seen old new offset bytes c.in_ok-with_piece.ensures.head c.in_ok-with_piece.ensures.bytes in
    ap (λ (files : List TracedFile). trace_with c.args.self files)
    (ap (λ (g : TracedFile). before ++ g ∷ []) file
    ∙ (sym (put_last before (traced_file_seen old) offset bytes)
    ∙ sym (ap (λ (s : Stage). put_in_last offset bytes (files_seen s)) c.in-InFile.is)))
