-- Map, Unmap, Protect and Sync. Public clauses cite this.
use Rattle.std.specs.Prelude.{ℕ, ◌+◌, ◌*◌, ◌%◌, ◌==◌, Bool, true, false, not, ◌&&◌, ◌||◌, List, [], ◌∷◌, replicate, Option, Some, None, is_some, Result, Ok, ok_or, slice_get, nat_le, unwrap_or, if◌then◌else◌}
use Rattle.std.specs.Option.{option_map_or}
use Rattle.std.specs.FinMap as map
use Rattle.std.specs.Ordering.{nat_cmp}
use Rattle.vm_types.specs.declared.prot.Prot.{Prot}
use Rattle.vm_types.specs.declared.call.Kind.{Kind}
use Rattle.vm_types.specs.declared.call.Kind.TheVariants.{Shared, Private}
use Rattle.vm_types.specs.declared.call.Object.{Object}
use Rattle.vm_types.specs.declared.call.Object.TheVariants as object
use Rattle.vm_types.specs.declared.call.Place.{Place}
use Rattle.vm_types.specs.declared.call.Place.TheVariants.{At, Any}
use Rattle.vm_types.specs.declared.call.Errno.{Errno}
use Rattle.vm_types.specs.declared.call.Errno.TheVariants as errno
use Rattle.vm_types.specs.declared.call.Reply.TheVariants as reply
pub use Rattle.vm_types.specs.Pages.{is_range}
use Rattle.vm_types.specs.Prot.{is_within}
use Rattle.flat_model.specs.Words.{Page, zero_page, page, pages_in, page_size}
use Rattle.flat_model.specs.Flat.{Cell, Flat, Space, space_of, pages_of, named_zeros_in, without_unnamed, reserved}
use Rattle.flat_model.specs.Space.{all_pages, without_range, with_cells, with_prots, lowest_gap}
use Rattle.flat_model.specs.Access.{with_space}
use Rattle.flat_model.specs.Refusals.{◌>>=◌, ◌>>◌, check, Effect, or_refused, done_effect}

-- The cells of a process, none for one that isn't alive.
abbrev pub cells_of : Flat → ℕ → Space
cells_of F p = unwrap_or (space_of F p) map.empty

-- What a Map asks for.
pub record Request : Type 0 where
  pub place : Place
  pub len : ℕ
  pub prot : Prot
  pub kind : Kind
  pub object : Object
  pub offset : ℕ

-- A place fits a length: an address that begins a valid range, or any where the length isn't 0.
abbrev pub is_place : Place → ℕ → Bool
is_place (At a) len = is_range a len
is_place Any len = not (len == 0)

-- The object is new zero memory.
abbrev pub is_new_zero : Object → Bool
is_new_zero object.NewZero = true
is_new_zero o = false

-- A request is valid where its place is, its offset begins a page, and new zero memory has the offset 0.
abbrev pub is_valid : Request → Bool
is_valid r = is_place r.place r.len && (r.offset % page_size == 0) && (not (is_new_zero r.object) || (r.offset == 0))

-- There is such a file or zero object; new zero memory can always be asked for.
abbrev pub is_there : Flat → Object → Bool
is_there F o = is_new_zero o || is_some (pages_of F o)

-- The protection that allows reads alone.
abbrev pub prot_read : Prot
prot_read = record { 0 = 1 }

-- The protection that allows reads and writes.
abbrev pub prot_read_write : Prot
prot_read_write = record { 0 = 3 }

-- The most that may be done: a shared mapping of a file that can't be written may only be read, and all else may be read and written.
abbrev pub max_of : Flat → Kind → Object → Prot
max_of F Shared (object.File f) = option_map_or (λ file. if file.writable then prot_read_write else prot_read) (slice_get F.files f) prot_read_write
max_of F kind o = prot_read_write

-- Flat memory without the cells that a mapping at an address replaces.
abbrev pub without_replaced : Flat → ℕ → Place → ℕ → Flat
without_replaced F p (At a) n = with_space F p (without_range (cells_of F p) (page a) n)
without_replaced F p Any n = F

-- The first page of the range: the one asked for, or else the lowest gap that fits.
abbrev pub first_page : Space → Place → ℕ → Option ℕ
first_page space (At a) n = Some (page a)
first_page space Any n = lowest_gap space n

-- The least number from k on that isn't in a rising list.
abbrev pub least_from : ℕ → List ℕ → ℕ
least_from k [] = k
least_from k (z ∷ zs) = if z == k then least_from (k + 1) zs else k

-- Numbers as a set.
abbrev pub set_of : List ℕ → map.FinMap nat_cmp (Unit {0})
set_of [] = map.empty
set_of (z ∷ zs) = map.insert (set_of zs) z tt

-- The least number that no cell of these spaces names.
abbrev pub new_number_in : map.FinMap nat_cmp Space → ℕ
new_number_in spaces = least_from 0 (map.keys (set_of (named_zeros_in spaces)))

-- The number of a new zero object: the least that no cell names.
abbrev pub new_number : Flat → ℕ
new_number G = new_number_in G.spaces

-- The object that the cells of a new mapping name: shared new zero memory makes a zero object.
abbrev pub object_for : Flat → Kind → Object → Object
object_for G Shared object.NewZero = object.Zero (new_number G)
object_for G kind o = o

-- The own page of the cells of a new mapping: of private new zero memory a page of zeros, else none.
abbrev pub own_for : Kind → Object → Option Page
own_for Private object.NewZero = Some zero_page
own_for kind o = None

-- Cell i of a new mapping.
abbrev pub new_cell : Flat → Flat → Request → ℕ → Cell
new_cell F G r i = record { prot = r.prot; max = max_of F r.kind r.object; kind = r.kind; object = object_for G r.kind r.object; index = page r.offset + i; own = own_for r.kind r.object }

-- Flat memory with the zero object of n pages that shared new zero memory makes.
abbrev pub with_object : Flat → Kind → Object → ℕ → Flat
with_object G Shared object.NewZero n = record G { zeros = map.insert G.zeros (new_number G) (replicate n zero_page) }
with_object G kind o n = G

-- Flat memory F with the new mapping from a page on.
abbrev pub with_mapping : Flat → ℕ → Request → ℕ → Flat
with_mapping F p r first =
    let n = pages_in r.len in
    let G = without_replaced F p r.place n in
    without_unnamed (with_space (with_object G r.kind r.object n) p (with_cells (cells_of G p) first n (new_cell F G r)))

-- The first page of a Map and flat memory with it, or the first refusal that is due: Invalid; NoObject; Access where more is asked for than the most that may be done; TooLarge past 65,536 cells; NoRoom without a gap; NoSwap where more would be reserved than there are slots.
unfoldable pub map_result : Flat → ℕ → Request → Result (ℕ × Flat) Errno
map_result F p r = do
  let n = pages_in r.len
  let space = cells_of (without_replaced F p r.place n) p
  check (is_valid r) errno.Invalid
  check (is_there F r.object) errno.NoObject
  check (is_within r.prot (max_of F r.kind r.object)) errno.Access
  check (nat_le (map.len space + n) 65536) errno.TooLarge
  first ← ok_or (first_page space r.place n) errno.NoRoom
  let new = with_mapping F p r first
  check (nat_le (reserved new) F.slots) errno.NoSwap
  Ok (first, new)

-- A Map answers its first address.
abbrev pub map_pages : Flat → ℕ → Request → Effect
map_pages F p r = or_refused F (λ m. record { reply = reply.Mapped (page_size * m.0); after = m.1 }) (map_result F p r)

-- Flat memory without the cells of n pages of a process.
abbrev pub without_pages : Flat → ℕ → ℕ → ℕ → Flat
without_pages F p first n = without_unnamed (with_space F p (without_range (cells_of F p) first n))

-- An Unmap takes the cells of a valid range away, if there are any.
abbrev pub unmap : Flat → ℕ → ℕ → ℕ → Effect
unmap F p a len = or_refused F (λ _. done_effect (without_pages F p (page a) (pages_in len))) (check (is_range a len) errno.Invalid)

-- Each page of the range has a cell.
abbrev pub are_mapped : Space → ℕ → ℕ → Bool
are_mapped space first n = all_pages (λ q. is_some (map.get space q)) first n

-- The range may be spoken of: it is valid, and each page of it has a cell.
unfoldable pub valid_range : Flat → ℕ → ℕ → ℕ → Result (Unit {0}) Errno
valid_range F p a len = do
  check (is_range a len) errno.Invalid
  check (are_mapped (cells_of F p) (page a) (pages_in len)) errno.NotMapped

-- Each cell of the range may have the protection.
abbrev pub may_have : Space → ℕ → ℕ → Prot → Bool
may_have space first n prot = all_pages (λ q. option_map_or (λ c. is_within prot c.max) (map.get space q) true) first n

-- A Protect is refused where the range may not be spoken of, and Access where some cell may not have the protection. Else it changes the protections of the range.
abbrev pub protect : Flat → ℕ → ℕ → ℕ → Prot → Effect
protect F p a len prot = or_refused F (λ _. done_effect (with_space F p (with_prots (cells_of F p) (page a) (pages_in len) prot)))
    (valid_range F p a len >> check (may_have (cells_of F p) (page a) (pages_in len) prot) errno.Access)

-- A Sync changes nothing. Its reply says where in the history it began, which flat memory doesn't know: here the number is 0.
abbrev pub sync : Flat → ℕ → ℕ → ℕ → Effect
sync F p a len = or_refused F (λ _. record { reply = reply.Synced 0; after = F }) (valid_range F p a len)
