-- The room that files keep so that they grow without taking memory. Inside: no public clause cites this.
use Rattle.std.specs.Prelude.{ℕ, ◌≡◌, ◌<◌, ◌≤◌, ◌+◌, ◌-◌, true, List, [], ◌∷◌, length, drop, take, slice_set, IsSome, slice_index_or, All, None}
use Rattle.std.specs.List.{IsDistinct, last_or, list_any}
use Rattle.std.specs.Option.{option_map_or}
use Rattle.std.specs.Ordering.{nat_cmp}
use Rattle.std.specs.FinMap as map
use Rattle.std.proofs.Common.{eqb}
use Rattle.vnode_files.specs.declared.extent.Extent.{Extent}
use Rattle.vnode_files.specs.declared.vnode.Savepoint.{Savepoint}
use Rattle.vnode_files.specs.declared.extent.TheConstants.{MOST_EXTENTS}
use Rattle.vnode_files.specs.Grow.{page_count}
use Rattle.vnode_files.specs.Vnode.{VnodeSeen, IsSoundVnode, page_blocks}
use Rattle.vnode_files.specs.Files.{block_count}

-- For each extent the pages up to its end, those before the first one included.
abbrev pub page_ends : ℕ → List Extent → List ℕ
page_ends before [] = []
page_ends before (e ∷ es) = (before + e.pages) ∷ page_ends (before + e.pages) es

-- A file that is sound, beside its page ends, with room for as many of these as the files of a disk have extents.
pub record HasPageEnds (v : VnodeSeen) (ends : List ℕ) (capacity : ℕ) : Type 0 where
  pub sound : IsSoundVnode v
  pub indexed : ends ≡ page_ends 0 v.info.extents
  pub room : MOST_EXTENTS ≤ capacity

-- A file, with the pages that it had as it began, and the pages for which it has room.
pub record RoomyVnode : Type 0 where
  pub seen : VnodeSeen
  pub opened : ℕ
  pub room : ℕ

-- The blocks that a file took since it began.
abbrev pub grown_blocks : RoomyVnode → List ℕ
grown_blocks v = drop v.opened (page_blocks v.seen.info.extents)

-- The blocks that a file took since it began differ and are below its disk's blocks, and there is room for all of these.
pub record IsRoomy (blocks : ℕ) (v : RoomyVnode) : Type 0 where
  pub distinct : IsDistinct eqb (grown_blocks v)
  pub below : (b : ℕ) → list_any (eqb b) (grown_blocks v) ≡ true → b < blocks
  pub room : v.opened + blocks ≤ v.room

-- The vnodes of files: few enough, each on a disk that was set, and with room for all blocks of that disk.
pub record IsSoundFiles (disks : map.FinMap nat_cmp ℕ) (vnodes : List RoomyVnode) : Type 0 where
  pub few : length vnodes ≤ 64
  pub set : All (λ v. IsSome (map.get disks v.seen.info.disk)) vnodes
  pub roomy : All (λ v. IsRoomy (block_count disks v.seen.info.disk) v) vnodes

-- Extents cut back to so many, the last of them to so many pages.
abbrev pub cut_extents : List Extent → ℕ → ℕ → List Extent
cut_extents extents count pages =
    let last = slice_index_or extents (count - 1) (record { start = 0; pages = 0 }) in
    slice_set (take count extents) (count - 1) (record last { pages = pages })

-- Where a file stands before it grows.
abbrev pub savepoint_of : VnodeSeen → Savepoint
savepoint_of v = record {
  extents = length v.info.extents;
  last = option_map_or (λ e. e.pages) (last_or None v.info.extents) 0;
  pages = page_count v.info.extents;
}

-- A file brought back to where it stood.
abbrev pub cut_vnode : VnodeSeen → Savepoint → VnodeSeen
cut_vnode v to = record {
  info = record v.info { extents = cut_extents v.info.extents to.extents to.last };
  blanks = take to.pages v.blanks;
}
