-- A file that grew, with some of its pages blank. Inside: no public clause cites this.
use Rattle.std.specs.Prelude.{◌≡◌, ◌≢◌, ◌<◌, ◌≤◌, ℕ, true, List, length}
use Rattle.seg_ops.specs.vnode_files.declared.extent.Extent.{Extent}
use Rattle.seg_ops.specs.vnode_files.Files.{FilesSeen, vnode_at}
use Rattle.seg_ops.specs.vnode_files.Grow.{page_count}
use Rattle.seg_ops.specs.vnode_files.Layout.{KeepsLayout}
use Rattle.seg_ops.specs.vnode_files.Vnode.{is_blank}

-- One file has these extents; its pages below one place are blank where they were, and those from there up to another are blank.
pub record BlanksUpTo (old new : FilesSeen) (f : ℕ) (extents : List Extent) (from to : ℕ) : Type 0 where
  pub disks : new.disks ≡ old.disks
  pub count : length new.files ≡ length old.files
  pub others : (k : ℕ) → k ≢ f → vnode_at new k ≡ vnode_at old k
  pub info : (vnode_at new f).info ≡ record (vnode_at old f).info { extents = extents }
  pub bits : length (vnode_at new f).blanks ≡ page_count extents
  pub below : (i : ℕ) → i < from → is_blank (vnode_at new f) i ≡ is_blank (vnode_at old f) i
  pub blank : (i : ℕ) → from ≤ i → i < to → is_blank (vnode_at new f) i ≡ true
  pub layout : KeepsLayout old new
