-- Flat memory of segments that change: its cells, its zero objects, and that it stays well formed.
use Rattle.flat_model.proofs.WellFormed.{kept_one as kept-pages}
use Rattle.std.proofs.Common.{◌≡◌, ℕ, Bool, true, false, cond, List, length, Option, Some, None, sym, ap, ◌∙◌, slice_index_or}
use Rattle.std.specs.Prelude.{option_map, option_and_then, unwrap_or}
use Rattle.std.specs.Ordering.{nat_cmp}
use Rattle.std.specs.FinMap as finite
use Rattle.std.specs.FinSet as set
use Rattle.addr_space.specs.Space.{Part, piece_at}
use Rattle.anon_map.specs.Maps.{Map, places_of}
use Rattle.page_store.specs.page_hash.declared.PageName.{PageName}
use Rattle.page_store.specs.Notes.{Notes}
use Rattle.flat_model.specs.Access.{with_space}
use Rattle.flat_model.specs.Flat.{Cell, Space, Flat, IsFlat, space_of, is_named, names_zero, without_unnamed}
use Rattle.flat_model.specs.Mapping.{cells_of}
use Rattle.flat_model.specs.Space.{is_in_range, without_range}
use Rattle.flat_model.specs.Words.{Page, zero_page}
use Rattle.flat_model.proofs.Ranges.{get-retain_keys, get-without_range}
use Rattle.vm_world.specs.CountsFit.{SegmentsFit}
use Rattle.vm_world.specs.FlatMemory.{Memory, flat_memory, cell_of, space_with, zero_maps, zero_pages, pages_from}
use Rattle.vm_world.specs.Pages.{contents_of, place_contents, page_value}
use Rattle.vm_world.specs.SegmentSteps.{with_segments}
use Rattle.vm_world.specs.Segments.{Segment}
use Rattle.vm_world.specs.World.{slot_name}
use Rattle.vm_world.proofs.FlatSpaces.{Standing}
use Rattle.vm_world.proofs.Maps.{get-map_with, get-space_with}
use Rattle.vm_world.proofs.ShownZeros.{zeros-are}

-- THE CELLS of a process are those of its parts
pub space-is : (m : Memory) (p : ℕ) (parts : List (Part Segment)) (born : set.FinSet nat_cmp) (notes : Notes) → finite.get m.spaces p ≡ Some parts
    → space_of (flat_memory m born notes) p ≡ Some (space_with (contents_of m.world notes).place parts)
space-is m p parts born notes is = get-map_with (space_with (contents_of m.world notes).place) m.spaces p ∙ ap (option_map (space_with (contents_of m.world notes).place)) is

pub cells-are : (m : Memory) (p : ℕ) (parts : List (Part Segment)) (born : set.FinSet nat_cmp) (notes : Notes) → finite.get m.spaces p ≡ Some parts
    → cells_of (flat_memory m born notes) p ≡ space_with (contents_of m.world notes).place parts
cells-are m p parts born notes is = ap (λ (o : Option Space). unwrap_or o finite.empty) (space-is m p parts born notes is)

pub cell-is : (m : Memory) (p : ℕ) (parts : List (Part Segment)) (born : set.FinSet nat_cmp) (notes : Notes) (q : ℕ) → finite.get m.spaces p ≡ Some parts
    → finite.get (cells_of (flat_memory m born notes) p) q ≡ option_map (cell_of (place_contents (page_value m.world notes) m.world.maps)) (piece_at parts q)
cell-is m p parts born notes q is = ap (λ (s : Space). finite.get s q) (cells-are m p parts born notes is) ∙ get-space_with (contents_of m.world notes).place parts q

-- the pages of a zero object whose map has the places that it had
pub zero-pages-same : (page : PageName → Page) (maps put : List (Option Map)) (n : ℕ) → places_of put n ≡ places_of maps n
    → zero_pages (place_contents page put) (λ number. length (places_of put number)) n ≡ zero_pages (place_contents page maps) (λ number. length (places_of maps number)) n
zero-pages-same page maps put n e = ap (λ (ps : List (Option ℕ)). pages_from (λ place. unwrap_or (option_map (λ slot. page (slot_name slot)) (slice_index_or ps place None)) zero_page) 0 (length ps)) e

-- the cells of a process stand where they do, and so do some of them
pub cells-stand : (F : Flat) (p : ℕ) (s : Space) → IsFlat F → space_of F p ≡ Some s → Standing s
cells-stand F p s flat is q c here =
    let e = ap (λ (o : Option Space). option_and_then (λ (space : Space). finite.get space q) o) is ∙ here in
    (flat.pages p q c e, flat.cells p q c e)

-- FLAT MEMORY with these spaces, and of any zero objects those that are named then
pub swept-flat : (m : Memory) (put : List (Option Map)) (r p : ℕ) (new : List (Part Segment)) (born : set.FinSet nat_cmp) (notes : Notes) (Z : finite.FinMap nat_cmp (List Page)) (S : Space)
    → SegmentsFit (length m.world.files.files) (record m.world.anon { reserved = r }) put (finite.insert m.spaces p new)
    → (flat_memory (with_segments m put r p new) born notes).spaces ≡ finite.insert (flat_memory m born notes).spaces p S
    → ((z n : ℕ) → finite.get (zero_maps (finite.insert m.spaces p new)) z ≡ Some n → finite.get Z z ≡ Some (zero_pages (place_contents (page_value m.world notes) put) (λ number. length (places_of put number)) n))
    → flat_memory (with_segments m put r p new) born notes ≡ without_unnamed (with_space (record (flat_memory m born notes) { zeros = Z }) p S)
swept-flat m put r p new born notes Z S fit spaces pages =
    let F : Flat = flat_memory m born notes in
    let n : Memory = with_segments m put r p new in
    let G : Flat = flat_memory n born notes in
    let z : G.zeros ≡ finite.retain_keys Z (names_zero (finite.insert F.spaces p S)) = zeros-are n born (contents_of n.world notes) fit Z pages ∙ ap (λ (s : finite.FinMap nat_cmp Space). finite.retain_keys Z (names_zero s)) spaces in
    λ i. record { slots = F.slots; disks = F.disks; files = F.files; zeros = z i; spaces = spaces i; born = born }
