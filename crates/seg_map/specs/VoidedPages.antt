-- The pages of a file past an end, given up one after another. Inside: no public clause cites this.
use Rattle.std.specs.Prelude.{◌≡◌, ◌<◌, ◌≤◌, ℕ, map}
use Rattle.seg_ops.specs.page_hash.declared.PageName.{PageName}
use Rattle.seg_ops.specs.page_store.Seen.{residence}
use Rattle.seg_ops.specs.page_store.declared.residence.Residence.TheVariants.{Absent}
use Rattle.seg_ops.specs.vnode_files.Vnode.{VnodeSeen}
use Rattle.seg_ops.specs.flat_model.Words.{pages_in}
use Rattle.seg_ops.specs.vm_world.FlatMemory.{Memory}
use Rattle.seg_ops.specs.vm_world.World.{file_name}
use Rattle.seg_map.specs.Shorter.{LosesPast}

-- The file lost its pages from an end up to a place, which are absent; its record and those of the others stay, and every other page is where it was.
pub record VoidsUpTo (old new : Memory) (f end upto : ℕ) : Type 0 where
  pub loses : LosesPast old new f end
  pub disks : new.world.files.disks ≡ old.world.files.disks
  pub infos : map (λ (v : VnodeSeen). v.info) new.world.files.files ≡ map (λ (v : VnodeSeen). v.info) old.world.files.files
  pub absent : (i : ℕ) → pages_in end ≤ i → i < upto → residence new.world.store (file_name f i) ≡ Absent
  pub stay : (name : PageName) → (name.object ≡ f → name.page < pages_in end) → residence new.world.store name ≡ residence old.world.store name
