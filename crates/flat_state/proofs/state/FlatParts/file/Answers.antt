use Rattle.std.proofs.Common.{◌∙◌, ap, map, ◌++◌, ◌∷◌, []}
use Rattle.flat_model.specs.Flat.{File, Flat}
use Rattle.flat_model.specs.Parts.{file_at_opening}
use Rattle.flat_state.specs.Cells.{flat_file, extents_of}
use Rattle.flat_state.specs.FlatState.{flat_of, with_one_more_file}
use Rattle.flat_state.proofs.Cuts.{map_push, with_files}
use Rattle.flat_state.proofs.state.FlatParts.file.Goals as goal

pub returns-clause-ok : goal.returns-clause-ok
returns-clause-ok c =
    let old = c.self.inside.files.items in
    let file = file_at_opening c.args.len c.args.disk (extents_of c.args.extents.now) c.args.writable c.args.bytes.now in
    ap (with_files (flat_of c.self.inside)) (ap (map flat_file) c.in_ok-push.ensures.items ∙ map_push flat_file old c.in_ok-file.file ∙ ap (λ (f : File). map flat_file old ++ f ∷ []) c.in_ok-file.ensures)
    ∙ ap (λ (F : Flat). with_one_more_file F file) c.self.view_is
