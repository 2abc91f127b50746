-- Pages of a file that are given up. Public clauses cite this.
use Rattle.std.specs.Prelude.{◌≡◌, ◌≢◌, ◌⊎◌, ◌<◌, ℕ, true, Some, None, length, map, slice_index_or}
use Rattle.seg_ops.specs.page_hash.Names.{name_at}
use Rattle.seg_ops.specs.page_hash.declared.PageName.{PageName}
use Rattle.seg_ops.specs.page_store.Seen.{StoreSeen}
use Rattle.seg_ops.specs.hat_layer.Pool.{HatSeen, IsSingleValued}
use Rattle.seg_ops.specs.hat_layer.declared.translation.Translation.{Translation}
use Rattle.seg_ops.specs.vm_world.TranslationsFit.{HasWritten}
use Rattle.seg_ops.specs.vnode_files.Files.{FilesSeen, vnode_at, with_vnode}
use Rattle.seg_ops.specs.vnode_files.Vnode.{VnodeSeen, IsSoundVnode, is_blank, with_blank}
use Rattle.seg_ops.specs.flat_model.Access.{with_change_at}
use Rattle.seg_ops.specs.flat_model.Flat.{File}
use Rattle.seg_ops.specs.flat_model.Words.{zero_page}

-- The files, with a page of one that counts as never written.
abbrev pub files_voided : FilesSeen → ℕ → ℕ → FilesSeen
files_voided files f i = with_vnode files f (with_blank (vnode_at files f) i true)

-- A file with a page of zeros.
abbrev pub with_page_void : ℕ → File → File
with_page_void i file = record file { pages = with_change_at (λ old. zero_page) file.pages i }

-- The files have the same records and one page more that is blank.
pub record VoidsPage (old new : FilesSeen) (f i : ℕ) : Type 0 where
  pub disks : new.disks ≡ old.disks
  pub infos : map (λ (v : VnodeSeen). v.info) new.files ≡ map (λ (v : VnodeSeen). v.info) old.files
  pub sound : (g : ℕ) → g < length new.files → IsSoundVnode (vnode_at new g)
  pub here : is_blank (vnode_at new f) i ≡ true
  pub others : (g j : ℕ) → ((g ≡ f) → j ≢ i) → is_blank (vnode_at new g) j ≡ is_blank (vnode_at old g) j

-- What is left of the translations: none that leads to the page.
pub record DropsPage (store : StoreSeen) (old new : HatSeen) (n : PageName) : Type 0 where
  pub frames : new.frames ≡ old.frames
  pub single : IsSingleValued new.places
  pub kept : (place : ℕ) (t : Translation) → slice_index_or new.places place None ≡ Some t → (slice_index_or old.places place None ≡ Some t) × (name_at store.names t.frame ≢ Some n)
  pub written : (k : ℕ) → HasWritten old.places k → (name_at store.names k ≡ Some n) ⊎ HasWritten new.places k
