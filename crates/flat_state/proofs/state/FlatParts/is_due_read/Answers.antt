use Rattle.std.proofs.Common.{◌∙◌, true, ap, sym, subst, rules, refl}
use Rattle.std.specs.Prelude.{IsTrue}
use Rattle.flat_model.specs.vm_types.declared.call.Call.{Call}
use Rattle.flat_model.specs.vm_types.declared.call.Reply.TheVariants as reply
use Rattle.flat_model.specs.Flat.{Flat}
use Rattle.flat_state.specs.Cells.{flat_file}
use Rattle.flat_model.specs.Step.{effect, MayFail}
use Rattle.flat_state.proofs.FileSteps.{file-of_flat, file-found, read-due, read-may_fail}
use Rattle.flat_state.proofs.Steps.{due_by, decided}
use Rattle.flat_state.proofs.state.FlatParts.is_due_read.Goals as goal

pub read_line-line-requires : goal.read_line-line-requires
read_line-line-requires c = file-of_flat c.args.self.now c.self.inside.files.items c.args.file c.in-Some.file.now c.requires.flat (ap (λ (F : Flat). F.files) (sym c.self.view_is)) (search rules) (search rules)

pub returns : goal.returns
returns c =
    let F = c.args.self.now in
    let e = c.args.entry.now in
    let file = flat_file c.in-Some.file.now in
    let found = file-found F c.self.inside.files.items c.args.file c.in-Some.file.now (ap (λ (G : Flat). G.files) (sym c.self.view_is)) (search rules) (search rules) in
    let line = ap (λ (x : Call). (effect F e.process x).reply) c.requires.call ∙ read-due F c.args.file c.args.offset c.args.length file found ∙ ap reply.Bytes (sym c.read_line-line.ensures) in
    let may = subst (MayFail F e.process) (sym c.requires.call) (read-may_fail F c.args.file file found) in
    record { exact = decided c.is_due-2.result _ _ c.is_due-2.ensures (due_by F e (IsTrue true) (reply.Bytes c.read_line-line.result) (λ t. may, λ h. refl) line) }
