-- Cells that lose their own page or get one, in flat memory. Public clauses cite this.
use Rattle.std.specs.Prelude.{◌≡◌, ◌<◌, ◌+◌, ℕ, zero, suc, length, Option, Some, None, IsSome, Ok}
use Rattle.std.specs.Option.{option_map_or}
use Rattle.std.specs.Ordering.{nat_cmp}
use Rattle.std.specs.FinSet as set
use Rattle.page_store.specs.Notes.{Notes}
use Rattle.vm_world.specs.vnode_files.Files.{vnode_at}
use Rattle.vm_world.specs.flat_model.Access.{access_target, store, with_cell, with_space}
use Rattle.vm_world.specs.flat_model.Flat.{Cell, Flat, IsFlat, cell_at, shown}
use Rattle.vm_world.specs.flat_model.Mapping.{cells_of}
use Rattle.vm_world.specs.flat_model.Space.{without_range}
use Rattle.vm_world.specs.flat_model.Words.{Page, IsPage, page, pages_in}
use Rattle.vm_world.specs.vm_types.declared.call.Kind.TheVariants.{Shared, Private}
use Rattle.vm_world.specs.vm_types.Prot.{can_write}
use Rattle.vm_world.specs.FlatMemory.{Memory, flat_memory, own_without_slot}
use Rattle.vm_world.specs.MemoryFits.{MemoryFits}
use Rattle.vm_world.specs.Pages.{page_value}
use Rattle.vm_world.specs.World.{file_name}
use Rattle.seg_ops.specs.Slots.{with_own_page}

-- What a cell has as its own where its place holds no slot: a private one of new zero memory has zeros, and any other nothing.
abbrev pub own_at_empty_place : Cell → Option Page
own_at_empty_place c = elim c.kind [ Private ↦ own_without_slot c.object | Shared ↦ None ]

-- Flat memory where the cell at a page of a process has lost its own page.
abbrev pub without_own_page : Flat → ℕ → ℕ → Flat
without_own_page F p q = option_map_or (λ c. with_cell F p q (record c { own = own_at_empty_place c })) (cell_at F p q) F

-- Flat memory where the cells at n pages of a process, from the first on, have lost their own pages.
abbrev pub without_own_pages : Flat → ℕ → ℕ → ℕ → Flat
without_own_pages F p first zero = F
without_own_pages F p first (suc n) = without_own_page (without_own_pages F p first n) p (first + n)

-- Flat memory stays well formed as cells lose their own pages, and as a private cell gets one. Cells that go anyway may lose their own pages first. And a
-- page that a file has is one.
pub record OwnPagesLaw : Type 0 where
  pub lost : (F : Flat) (p first n : ℕ) → IsFlat F → IsFlat (without_own_pages F p first n)
  pub got : (F : Flat) (p q : ℕ) (c : Cell) (own : Page) → IsFlat F → cell_at F p q ≡ Some c → c.kind ≡ Private → IsPage own → IsFlat (with_own_page F p q own)
  pub removed : (F : Flat) (p first n : ℕ) → with_space (without_own_pages F p first n) p (without_range (cells_of (without_own_pages F p first n) p) first n)
      ≡ with_space F p (without_range (cells_of F p) first n)
  pub page : (m : Memory) (born : set.FinSet nat_cmp) (notes : Notes) (f index : ℕ) → MemoryFits m → IsFlat (flat_memory m born notes) → f < length m.world.files.files
      → index < pages_in (vnode_at m.world.files f).info.length → IsPage (page_value m.world notes (file_name f index))

-- Flat memory where a cell that shows this page has it as its own, if it is private.
abbrev pub with_shown : Flat → ℕ → ℕ → Cell → Option Page → Flat
with_shown F p q c None = F
with_shown F p q c (Some new) = elim c.kind [ Private ↦ with_cell F p q (record c { own = Some new }) | Shared ↦ F ]

-- Flat memory where the cell at a page of a process has the page that it shows as its own, if it is private.
abbrev pub with_own_shown : Flat → ℕ → ℕ → Flat
with_own_shown F p q = option_map_or (λ c. with_shown F p q c (shown F c)) (cell_at F p q) F

-- Flat memory stays well formed as a private cell gets the page that it shows. It is as it was where the cell has a page of its own, or is shared. And a
-- store that meets a page does the same afterwards.
pub record OwnShownLaw : Type 0 where
  pub whole : (F : Flat) (p q : ℕ) → IsFlat F → IsFlat (with_own_shown F p q)
  pub same : (F : Flat) (p q : ℕ) (c : Cell) → cell_at F p q ≡ Some c → (c.kind ≡ Private → IsSome c.own) → with_own_shown F p q ≡ F
  pub gets : (F : Flat) (p q : ℕ) (c : Cell) (new : Page) → cell_at F p q ≡ Some c → c.kind ≡ Private → shown F c ≡ Some new → with_own_shown F p q ≡ with_own_page F p q new
  pub stores : (F : Flat) (p a n v : ℕ) (c : Cell) (new : Page) → access_target F p can_write a n ≡ Ok (c, new) → store (with_own_shown F p (page a)) p a n v ≡ store F p a n v
