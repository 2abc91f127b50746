use Rattle.std.proofs.Common.{◌∙◌, List, ap}
use Rattle.flat_model.specs.Words.{Page}
use Rattle.flat_state.specs.Cells.{flat_file}
use Rattle.flat_state.proofs.FilePages.{file-of_length}
use Rattle.flat_state.proofs.files.FileState.set_length.Goals as goal

pub returns-clause-ok : goal.returns-clause-ok
returns-clause-ok c =
    let old = record (flat_file c.args.self.now) { extents = c.args.extents.items } in
    ap (λ (ps : List Page). record old { len = c.args.length; pages = ps }) c.in_ok-resize.ensures.ok ∙ file-of_length c.args.length old
