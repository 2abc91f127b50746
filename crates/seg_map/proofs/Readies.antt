-- THE OLD LAST PAGE OF A FILE that is to get longer: what is wanted of it, and when it is ready.
use Rattle.std.proofs.Common.{◌≡◌, ◌≢◌, ℕ, Bool, false, cond, ap, inl, slice_index_or}
use Rattle.std.specs.Prelude.{IsFalse, not}
use Rattle.seg_ops.specs.page_hash.declared.PageName.{PageName}
use Rattle.seg_ops.specs.vnode_files.Files.{vnode_at}
use Rattle.seg_ops.specs.vnode_files.Vnode.{is_blank}
use Rattle.seg_ops.specs.vm_world.Wants.{GrowthWants}
use Rattle.seg_ops.specs.vm_world.World.{World, file_name, is_unpushed}
use Rattle.seg_ops.proofs.vm_world.PageNames.{not-slot}
use Rattle.seg_ops.specs.vm_world.Wants.{IsGapPage}

-- a page that was pushed is wanted
pub pushed-wants : (w : World) (f n : ℕ) (name : PageName) → IsGapPage w f n name → IsFalse (is_unpushed w.files w.anon name) → GrowthWants w f n name
pushed-wants w f n name gap pushed = record { gap = gap; held = inl pushed }

-- whether a page of a file was never pushed
pub unpushed-is : (w : World) (f i : ℕ) → f ≢ 64 → is_unpushed w.files w.anon (file_name f i) ≡ is_blank (vnode_at w.files f) i
unpushed-is w f i far = ap (λ (b : Bool). cond b (not (slice_index_or w.anon.swapped i false)) (is_blank (vnode_at w.files f) i)) (not-slot f far)
