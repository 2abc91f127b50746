-- A file as a record: where its pages lie, and which of them were never written. Public clauses cite this.
use Rattle.std.specs.Prelude.{ℕ, ◌≡◌, ◌<◌, ◌≤◌, ◌-◌, ◌*◌, ◌^◌, Bool, false, true, List, [], ◌++◌, length, nat_le, map, replicate, slice_index, slice_index_or, slice_set, All}
use Rattle.std.specs.List.{flat_map, range_with_len}
use Rattle.vnode_files.specs.declared.extent.Extent.{Extent}
use Rattle.vnode_files.specs.declared.vnode.FileInfo.{FileInfo}
use Rattle.vnode_files.specs.Grow.{extent_end, page_count}

-- The blocks of extents, one for each page, in the order of the pages.
abbrev pub page_blocks : List Extent → List ℕ
page_blocks extents = flat_map (λ e. range_with_len e.start e.pages) extents

-- The block of a page.
abbrev pub block_at : List Extent → ℕ → ℕ
block_at extents page = slice_index (page_blocks extents) page

-- A file: its record, and for each page that it keeps whether it is blank, that is, was never written.
pub record VnodeSeen : Type 0 where
  pub info : FileInfo
  pub blanks : List Bool

-- The record and the blank pages agree: there is a bit for each page, pages and blocks have numbers below 2 ^ 32, and the length is at most the
-- bytes of the pages.
pub record IsSoundVnode (v : VnodeSeen) : Type 0 where
  pub bits : length v.blanks ≡ page_count v.info.extents
  pub pages : page_count v.info.extents < 2 ^ 32
  pub blocks : All (λ e. extent_end e ≤ 2 ^ 32) v.info.extents
  pub within : v.info.length ≤ page_count v.info.extents * 4096

-- A file as it begins: its pages at or past its length are blank.
abbrev pub fresh_vnode : FileInfo → VnodeSeen
fresh_vnode info = record {
  info = info;
  blanks = map (λ page. nat_le info.length (page * 4096)) (range_with_len 0 (page_count info.extents));
}

-- A file that stands for none: it has no name, no pages and no disk.
abbrev pub no_vnode : VnodeSeen
no_vnode = record { info = record { name = []; disk = 0; extents = []; length = 0; writable = false }; blanks = [] }

-- Whether a page of a file is blank; a file has no page past those that it keeps.
abbrev pub is_blank : VnodeSeen → ℕ → Bool
is_blank v page = slice_index_or v.blanks page false

-- A file with one of its pages marked as blank, or as written.
abbrev pub with_blank : VnodeSeen → ℕ → Bool → VnodeSeen
with_blank v page blank = record v { blanks = slice_set v.blanks page blank }

-- A file with another length in bytes; its extents and blank pages stay.
abbrev pub with_length : VnodeSeen → ℕ → VnodeSeen
with_length v bytes = record v { info = record v.info { length = bytes } }

-- A file with more extents, or longer ones: the pages that this adds are blank.
abbrev pub with_extents : VnodeSeen → List Extent → VnodeSeen
with_extents v extents = record {
  info = record v.info { extents = extents };
  blanks = v.blanks ++ replicate (page_count extents - page_count v.info.extents) true;
}
