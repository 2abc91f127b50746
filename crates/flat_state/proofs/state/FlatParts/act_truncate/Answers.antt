use Rattle.std.proofs.Common.{◌≡◌, ◌∙◌, true, ap, sym, subst, refl, Ok}
use Rattle.std.specs.Prelude.{IsTrue}
use Rattle.std.specs.Result.{result_map_both}
use Rattle.flat_model.specs.vm_types.declared.call.Call.{Call}
use Rattle.flat_model.specs.vm_types.declared.call.Reply.TheVariants as reply
use Rattle.flat_model.specs.Parts.{room_for, with_file_at, file_of_length}
use Rattle.flat_model.specs.Step.{effect, MayFail}
use Rattle.flat_state.proofs.FileSteps.{extents_got, room-writable, room-done}
use Rattle.flat_state.proofs.Steps.{due_by}
use Rattle.flat_state.proofs.state.FlatParts.act_truncate.Goals as goal

pub returns-else-not-is_io-clause-exact : goal.returns-else-not-is_io-clause-exact
returns-else-not-is_io-clause-exact c =
    let F = c.args.self.now in
    let e = c.args.entry.now in
    let n = c.args.file in
    let room : extents_got (room_for F n c.args.length) ≡ Ok c.in-Ok.extents.items = sym c.in_ok-extents.ensures ∙ ap (result_map_both (λ v. v.items) (λ x. x)) c.in-Ok.is in
    let may = subst (MayFail F e.process) (sym c.requires.call) (room-writable F n c.args.length c.in-Ok.extents.items room) in
    let is_done = ap (λ (x : Call). (effect F e.process x).reply) c.requires.call ∙ room-done F n c.args.length c.in-Ok.extents.items (λ f. with_file_at F n (file_of_length c.args.length f)) room in
    (λ t. (due_by F e (IsTrue true) reply.Done (λ t'. may, λ h. refl) is_done).0 (c.is_due-2.ensures.0 c.if-not-is_due.false), λ h. refl)
