-- THE SHAPE of flat memory is told by the tables, whatever disks tell; and what changes of memory do to it.
use Rattle.std.proofs.Common.{◌≡◌, ℕ, zero, suc, ◌+◌, List, [], ◌∷◌, ◌++◌, length, map, replicate, Option, Some, None, refl, sym, ap, subst, ◌∙◌}
use Rattle.std.specs.Prelude.{IsFalse, option_and_then, option_map, unwrap_or}
use Rattle.std.specs.Option.{option_map_or, option_or}
use Rattle.std.specs.Ordering.{nat_cmp}
use Rattle.std.specs.FinMap as finite
use Rattle.std.specs.FinSet as set
use Rattle.flat_model.specs.vm_types.declared.call.Call.{Call}
use Rattle.flat_model.specs.vm_types.declared.call.Entry.{Entry}
use Rattle.flat_model.specs.vm_types.declared.call.Reply.{Reply}
use Rattle.flat_model.specs.vm_types.declared.prot.Prot.{Prot}
use Rattle.flat_model.specs.vnode_files.declared.vnode.FileInfo.{FileInfo}
use Rattle.addr_space.specs.Space.{Part}
use Rattle.addr_space.specs.Pages.{pages_of_parts}
use Rattle.anon_map.specs.Maps.{Map, places_of}
use Rattle.page_store.specs.page_hash.declared.PageName.{PageName}
use Rattle.page_store.specs.Notes.{Notes, no_notes}
use Rattle.flat_model.specs.Access.{with_space}
use Rattle.flat_model.specs.Flat.{Cell, Flat, Space}
use Rattle.flat_model.specs.History.{is_io, replay}
use Rattle.flat_model.specs.Mapping.{cells_of, without_pages}
use Rattle.flat_model.specs.Processes.{without_process}
use Rattle.flat_model.specs.Shapes.{RefusesAsDue, RespectsShape, SameShape, blank_cell, blank_file, blank_pages, blank_space, map_with, without_bytes}
use Rattle.flat_model.specs.Space.{with_cells}
use Rattle.flat_model.specs.Step.{after_act}
use Rattle.flat_model.specs.Words.{Page, pages_in, zero_page}
use Rattle.flat_model.proofs.Histories.{one_more_law}
use Rattle.flat_model.proofs.ShapeSteps.{keeps_shape_law, new-cells-same, pages-same, process-same, prots-same}
use Rattle.flat_model.proofs.Shapes.{blank-zeros, same-cells, same-space, same-unnamed}
use Rattle.flat_model.proofs.Values.{get-map_with, map-insert, map_with-same, map_with-twice}
use Rattle.vm_world.specs.Events.{FollowsHistory}
use Rattle.vm_world.specs.FlatMemory.{Memory, Shape, cell_of, file_with_pages, files_with_pages, flat_memory, flat_shaped, own_without_slot, shape_of, space_with, zero_maps, zero_pages}
use Rattle.vm_world.specs.ForkSteps.{cells_copied, with_cells_copied}
use Rattle.vm_world.specs.Plans.{IsRefusal, refusal_in}
use Rattle.vm_world.specs.ProtectSteps.{with_range_prot}
use Rattle.vm_world.specs.Pages.{Contents, contents_by, contents_of, page_value, place_contents}
use Rattle.vm_world.specs.SegmentSteps.{with_new_cells, with_zero_object}
use Rattle.vm_world.specs.Segments.{Segment, Spot, Spaces}
use Rattle.vm_world.specs.State.{KernelState}
use Rattle.vm_world.specs.StateSteps.{after_step}
use Rattle.vm_world.specs.World.{World, slot_in, slot_name}
use Rattle.vm_world.specs.WorldSteps.{KeepsTables}
use Rattle.vm_world.proofs.FilePages.{length-pages_from}

-- the page there, with zeros in it
abbrev blank : Option Page → Option Page
blank o = option_map (λ (page : Page). zero_page) o

own-alike : (a b w : Option Page) → blank a ≡ blank b → blank (option_or a w) ≡ blank (option_or b w)
own-alike None None w same = refl
own-alike None (Some y) w same = absurd (let z : None ≡ Some zero_page = same in cc)
own-alike (Some x) None w same = absurd (let z : Some zero_page ≡ None = same in cc)
own-alike (Some x) (Some y) w same = refl

-- WHAT PLACES HOLD doesn't show, but for whether they do
module _ (c d : ℕ → ℕ → Option Page) (alike : (number i : ℕ) → blank (c number i) ≡ blank (d number i)) where
  cell-alike : (x : Spot) → blank_cell (cell_of c x) ≡ blank_cell (cell_of d x)
  cell-alike x = λ i. record { prot = x.0.prot; max = x.0.max; kind = x.0.kind; object = x.0.object; index = x.0.index + x.1; own = by_own x.0.own i }
    where
      by_own : (o : Option ℕ) → blank (option_and_then (λ number. option_or (c number x.1) (own_without_slot x.0.object)) o) ≡ blank (option_and_then (λ number. option_or (d number x.1) (own_without_slot x.0.object)) o)
      by_own None = refl
      by_own (Some number) = own-alike (c number x.1) (d number x.1) (own_without_slot x.0.object) (alike number x.1)

  space-alike : (parts : List (Part Segment)) → blank_space (space_with c parts) ≡ blank_space (space_with d parts)
  space-alike parts =
      map_with-twice (cell_of c) blank_cell (λ x. blank_cell (cell_of c x)) (pages_of_parts parts) (λ x. refl)
      ∙ map_with-same (λ x. blank_cell (cell_of d x)) (λ x. blank_cell (cell_of c x)) (pages_of_parts parts) (λ q x is. cell-alike x)
      ∙ sym (map_with-twice (cell_of d) blank_cell (λ x. blank_cell (cell_of d x)) (pages_of_parts parts) (λ x. refl))

  spaces-alike : (spaces : Spaces) → map_with blank_space (map_with (space_with c) spaces) ≡ map_with blank_space (map_with (space_with d) spaces)
  spaces-alike spaces =
      map_with-twice (space_with c) blank_space (λ parts. blank_space (space_with c parts)) spaces (λ parts. refl)
      ∙ map_with-same (λ parts. blank_space (space_with d parts)) (λ parts. blank_space (space_with c parts)) spaces (λ q parts is. space-alike parts)
      ∙ sym (map_with-twice (space_with d) blank_space (λ parts. blank_space (space_with d parts)) spaces (λ parts. refl))

zeros-bare : (held : ℕ → ℕ → Option Page) (lengths : ℕ → ℕ) (zeros : finite.FinMap nat_cmp ℕ) → map_with blank_pages (map_with (zero_pages held lengths) zeros) ≡ map_with (λ number. replicate (lengths number) zero_page) zeros
zeros-bare held lengths zeros = map_with-twice (zero_pages held lengths) blank_pages (λ number. replicate (lengths number) zero_page) zeros (λ number.
    ap (λ (n : ℕ). replicate n zero_page) (length-pages_from (λ place. unwrap_or (held number place) zero_page) 0 (lengths number)))

pub file-alike : (page other : ℕ → Page) (info : FileInfo) → blank_file (file_with_pages page info) ≡ blank_file (file_with_pages other info)
file-alike page other info =
    let count = length-pages_from page 0 (pages_in info.length) ∙ sym (length-pages_from other 0 (pages_in info.length)) in
    λ i. record { len = info.length; disk = info.disk; extents = info.extents; writable = info.writable; pages = replicate (count i) zero_page }

files-alike : (page other : ℕ → ℕ → Page) (k : ℕ) (infos : List FileInfo) → map blank_file (files_with_pages page k infos) ≡ map blank_file (files_with_pages other k infos)
files-alike page other k [] = refl
files-alike page other k (info ∷ infos) = λ i. file-alike (page k) (other k) info i ∷ files-alike page other (suc k) infos i

pub contents-alike : (s : Shape) (born : set.FinSet nat_cmp) (c d : Contents) → ((number i : ℕ) → blank (c.place number i) ≡ blank (d.place number i)) → SameShape (flat_shaped s born c) (flat_shaped s born d)
contents-alike s born c d alike =
    let zeros = λ (zs : finite.FinMap nat_cmp ℕ). zeros-bare c.place s.lengths zs ∙ sym (zeros-bare d.place s.lengths zs) in
    λ i. record {
      slots = s.slots;
      disks = s.disks;
      files = files-alike c.file d.file 0 s.files i;
      zeros = zeros (zero_maps s.spaces) i;
      spaces = spaces-alike c.place d.place alike s.spaces i;
      born = born;
    }

-- where the same places hold slots
pub held-alike : (page other : PageName → Page) (o : Option ℕ) → blank (option_map (λ slot. page (slot_name slot)) o) ≡ blank (option_map (λ slot. other (slot_name slot)) o)
held-alike page other None = refl
held-alike page other (Some slot) = refl

pub maps-alike : (s : Shape) (born : set.FinSet nat_cmp) (page other : PageName → Page) (maps : List (Option Map)) → SameShape (flat_shaped s born (contents_by page maps)) (flat_shaped s born (contents_by other maps))
maps-alike s born page other maps = contents-alike s born (contents_by page maps) (contents_by other maps) (λ number i. held-alike page other (slot_in maps number i))

places-alike : (u v : Memory) (a b : Notes) → v.world.maps ≡ u.world.maps → (number i : ℕ) → blank ((contents_of v.world b).place number i) ≡ blank ((contents_of u.world a).place number i)
places-alike u v a b maps number i =
    ap (λ (ms : List (Option Map)). blank (place_contents (page_value v.world b) ms number i)) maps ∙ held-alike (page_value v.world b) (page_value u.world a) (slot_in u.world.maps number i)

-- MEMORIES of one shape, whatever their pages are
pub memory-shape : (u v : Memory) (born : set.FinSet nat_cmp) (a b : Notes) → shape_of v ≡ shape_of u → v.world.maps ≡ u.world.maps → SameShape (flat_memory v born b) (flat_memory u born a)
memory-shape u v born a b shape maps =
    ap (λ (s : Shape). without_bytes (flat_shaped s born (contents_of v.world b))) shape
    ∙ contents-alike (shape_of u) born (contents_of v.world b) (contents_of u.world a) (places-alike u v a b maps)

-- and of one shape but for files
pub memory-files : (u v : Memory) (born : set.FinSet nat_cmp) (a b : Notes) → length v.world.anon.counts ≡ length u.world.anon.counts → v.world.files.disks ≡ u.world.files.disks → v.spaces ≡ u.spaces → v.world.maps ≡ u.world.maps
    → SameShape (flat_memory v born b) (record (flat_memory u born a) { files = (flat_memory v born b).files })
memory-files u v born a b slots disks spaces maps =
    let shape : Shape = record (shape_of u) { files = (shape_of v).files } in
    let same : shape_of v ≡ shape = λ i. record { slots = slots i; disks = disks i; files = (shape_of v).files; lengths = λ number. length (places_of (maps i) number); spaces = spaces i } in
    ap (λ (s : Shape). without_bytes (flat_shaped s born (contents_of v.world b))) same
    ∙ contents-alike shape born (contents_of v.world b) (record { file = (contents_of v.world b).file; place = (contents_of u.world a).place }) (places-alike u v a b maps)

pub tables-shape : (old new : World) (spaces : Spaces) (born : set.FinSet nat_cmp) (a b : Notes) → KeepsTables old new → SameShape (flat_memory (record { world = new; spaces = spaces }) born b) (flat_memory (record { world = old; spaces = spaces }) born a)
tables-shape old new spaces born a b tables = memory-shape (record { world = old; spaces = spaces }) (record { world = new; spaces = spaces }) born a b
    (λ i. record { slots = length (tables.counts i); disks = tables.disks i; files = tables.infos i; lengths = λ number. length (places_of (tables.maps i) number); spaces = spaces }) tables.maps

-- WHAT RESPECTS SHAPES
pub same-respects : RespectsShape (λ F. F)
same-respects F G same = same

pub pages-respects : (p first n : ℕ) → RespectsShape (λ F. without_pages F p first n)
pages-respects p first n F G same = pages-same F G p first n same

pub prots-respects : (p first n : ℕ) (prot : Prot) → RespectsShape (λ F. with_range_prot F p first n prot)
prots-respects p first n prot F G same = prots-same F G p first n prot same

pub process-respects : (p : ℕ) → RespectsShape (λ F. without_process F p)
process-respects p F G same = process-same F G p same

pub cells-respects : (p first n : ℕ) (cell : ℕ → Cell) → RespectsShape (λ F. with_new_cells F p first n cell)
cells-respects p first n cell F G same = same-unnamed (with_space F p (with_cells (cells_of F p) first n cell)) (with_space G p (with_cells (cells_of G p) first n cell))
    (same-space F G p (with_cells (cells_of F p) first n cell) (with_cells (cells_of G p) first n cell) same (new-cells-same (cells_of F p) (cells_of G p) first n cell cell (same-cells F G p same) (λ i. refl)))

zero-blank : (F : Flat) (z n : ℕ) → without_bytes (with_zero_object F z n) ≡ with_zero_object (without_bytes F) z n
zero-blank F z n =
    let zeros = map-insert blank_pages F.zeros z (replicate n zero_page) ∙ ap (finite.insert (map_with blank_pages F.zeros) z) (blank-zeros n) in
    λ i. record (without_bytes F) { zeros = zeros i }

pub zero-respects : (z n : ℕ) → RespectsShape (λ F. with_zero_object F z n)
zero-respects z n F G same = zero-blank F z n ∙ ap (λ (H : Flat). with_zero_object H z n) same ∙ sym (zero-blank G z n)

copied-blank : (to from : Space) (first n : ℕ) → blank_space (cells_copied to from first n) ≡ cells_copied (blank_space to) (blank_space from) first n
copied-blank to from first zero = refl
copied-blank to from first (suc n) =
    let T = cells_copied to from first n in
    let U = cells_copied (blank_space to) (blank_space from) first n in
    by_cell T U (finite.get from (first + n)) (copied-blank to from first n)
    ∙ ap (λ (o : Option Cell). option_map_or (λ c. finite.insert U (first + n) c) o U) (sym (get-map_with blank_cell from (first + n)))
  where
    by_cell : (T U : Space) (o : Option Cell) → blank_space T ≡ U → blank_space (option_map_or (λ c. finite.insert T (first + n) c) o T) ≡ option_map_or (λ c. finite.insert U (first + n) c) (option_map blank_cell o) U
    by_cell T U None same = same
    by_cell T U (Some c) same = map-insert blank_cell T (first + n) c ∙ ap (λ (t : Space). finite.insert t (first + n) (blank_cell c)) same

pub copied-respects : (p child first n : ℕ) → RespectsShape (λ F. with_cells_copied F p child first n)
copied-respects p child first n F G same = same-space F G child (cells_copied (cells_of F child) (cells_of F p) first n) (cells_copied (cells_of G child) (cells_of G p) first n) same
    (copied-blank (cells_of F child) (cells_of F p) first n ∙ (λ i. cells_copied (same-cells F G child same i) (same-cells F G p same i) first n) ∙ sym (copied-blank (cells_of G child) (cells_of G p) first n))

-- WHAT IS DUE is told by the tables
pub refusal-kept : (old new : World) (spaces : Spaces) (p : ℕ) (call : Call) (refusal : Option Reply) → KeepsTables old new → IsRefusal (record { world = old; spaces = spaces }) p call refusal → IsRefusal (record { world = new; spaces = spaces }) p call refusal
refusal-kept old new spaces p call refusal tables due born notes =
    keeps_shape_law.refusal (flat_memory (record { world = new; spaces = spaces }) born notes) (flat_memory (record { world = old; spaces = spaces }) born notes) p call (tables-shape old new spaces born notes notes tables) ∙ due born notes

-- A STATE follows its history
pub follows-kept : (opening : Flat) (s : KernelState) (new : World) (pending : ℕ) → KeepsTables s.memory.world new → FollowsHistory opening s → FollowsHistory opening (after_step s new pending)
follows-kept opening s new pending tables was = record { shape = λ notes. tables-shape s.memory.world new s.memory.spaces s.born notes notes tables ∙ was.shape notes; refusals = was.refusals }

-- with an entry more
pub follows-entry : (opening : Flat) (s t : KernelState) (e : Entry) → t.history ≡ s.history ++ e ∷ [] → ((notes : Notes) → SameShape (flat_memory t.memory t.born notes) (after_act (flat_memory s.memory s.born notes) e))
    → (IsFalse (is_io e.reply) → IsRefusal s.memory e.process e.call (refusal_in e.reply)) → FollowsHistory opening s → FollowsHistory opening t
follows-entry opening s t e is done due was = record {
  shape = λ notes.
      done notes ∙ keeps_shape_law.steps (flat_memory s.memory s.born notes) (replay opening s.history) e (was.shape notes)
      ∙ ap without_bytes (sym (ap (replay opening) is ∙ one_more_law.replayed opening s.history e));
  refusals = subst (RefusesAsDue opening) (sym is) (keeps_shape_law.one_more opening s.history e was.refusals (λ own.
      sym (keeps_shape_law.refusal (flat_memory s.memory s.born no_notes) (replay opening s.history) e.process e.call (was.shape no_notes)) ∙ due own s.born no_notes));
}
