-- Pages of slots that were never pushed.
use Rattle.std.proofs.Common.{◌≡◌, ◌==◌, Bool, true, false, cond, sym, ap, ◌∙◌, not, slice_index_or}
use Rattle.std.proofs.lemmas.Bool.{eqb-true, not-true}
use Rattle.seg_ops.specs.page_hash.declared.PageName.{PageName}
use Rattle.seg_ops.specs.anon_slots.Slots.{AnonSlotsSeen}
use Rattle.seg_ops.specs.vnode_files.Files.{FilesSeen, vnode_at}
use Rattle.seg_ops.specs.vnode_files.Vnode.{is_blank}
use Rattle.seg_ops.specs.vm_world.Serving.{IsUnpushedSlot}
use Rattle.seg_ops.specs.vm_world.World.{is_unpushed}

-- a page that was never pushed, and isn't a file's
pub unpushed-slot : (files : FilesSeen) (anon : AnonSlotsSeen) (name : PageName) → (name.object == 64) ≡ true → is_unpushed files anon name ≡ true → IsUnpushedSlot anon name
unpushed-slot files anon name is blank =
    let object = eqb-true name.object 64 is in
    let pushed : Bool = slice_index_or anon.swapped name.page false in (
      name.page,
      (λ i. record { object = object i; page = name.page }),
      not-true pushed (sym (ap (λ (b : Bool). cond b (not pushed) (is_blank (vnode_at files name.object) name.page)) is) ∙ blank),
    )
