use Rattle.std.proofs.Common.{◌+◌, List, map, length, sym, ap, ◌∙◌, rules, arith}
use Rattle.std.specs.Prelude.{slice_set}
use Rattle.flat_model.specs.Flat.{File, Flat}
use Rattle.flat_model.specs.Parts.{with_part}
use Rattle.flat_state.specs.Cells.{flat_file}
use Rattle.flat_state.specs.FlatState.{flat_of}
use Rattle.flat_state.proofs.Trees.{length_map}
use Rattle.flat_state.proofs.FilePages.{set-alike, on_err}
use Rattle.flat_state.proofs.FileSteps.{room-within, file-of_flat, file-changed}
use Rattle.flat_state.proofs.state.FlatParts.write_part.Goals as goal

pub write-requires : goal.write-requires
write-requires c =
    let whole = file-of_flat c.args.self.now c.self.inside.files.items c.args.number c.in-Some.file.now c.requires.flat (ap (λ (F : Flat). F.files) (sym c.self.view_is)) (search rules) (search rules) in
    record { whole = whole; one_line = c.requires.one_line }

pub returns-clause-ok : goal.returns-clause-ok
returns-clause-ok c =
    let files = c.self.inside.files.items in
    let new = c.write.new.self in
    ap (λ (F : Flat). record F { files = map flat_file (slice_set files c.args.number new) }) c.self.view_is
    ∙ file-changed c.args.self.now files c.args.number (c.args.offset + length c.args.line.now) c.args.extents.items c.in-Some.file.now new (with_part c.args.offset c.args.line.now) (ap (λ (F : Flat). F.files) (sym c.self.view_is)) (search rules) (search rules) c.requires.room c.in_ok-write.ensures.ok

pub returns-in_err-write-clause-err : goal.returns-in_err-write-clause-err
returns-in_err-write-clause-err c =
    on_err _ (ap (λ (fs : List File). record (flat_of c.self.inside) { files = fs }) (set-alike flat_file c.self.inside.files.items c.args.number c.in-Some.file.now c.write.new.self (search rules) (search rules) c.in_err-write.ensures.err) ∙ c.self.view_is)

pub returns-in_default-clause-ok : goal.returns-in_default-clause-ok
returns-in_default-clause-ok c =
    let within = room-within c.args.self.now c.args.number (c.args.offset + length c.args.line.now) c.args.extents.items c.requires.room in
    let size = length_map flat_file c.self.inside.files.items in
    let same = ap (λ (F : Flat). length F.files) c.self.view_is in
    absurd (let some = c.in_default.ensures.variant.1 (omega arith) in cc)
