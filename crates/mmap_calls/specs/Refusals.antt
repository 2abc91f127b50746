-- What a Map at an address asks for, the refusal that is due to it, as it is told from pieces and counts, and what its reply leaves. Inside: no public clause
-- cites this.
use Rattle.std.specs.Prelude.{if◌then◌else◌, Bool, Err, List, None, Ok, Option, Result, Some, is_some, length, nat_le, nat_lt, not, slice_index_or, true, ℕ, ◌+◌, ◌-◌, ◌<◌, ◌≤◌, ◌≡◌}
use Rattle.std.specs.Ordering.{nat_cmp}
use Rattle.seg_vn.specs.addr_space.Space.{Part, page_total}
use Rattle.seg_vn.specs.vnode_files.Files.{vnode_at}
use Rattle.seg_vn.specs.page_store.Notes.{Notes}
use Rattle.seg_vn.specs.vm_types.declared.call.Call.{Call}
use Rattle.seg_vn.specs.vm_types.declared.call.Call.TheVariants.{Map}
use Rattle.seg_vn.specs.vm_types.declared.call.Errno.{Errno}
use Rattle.seg_vn.specs.vm_types.declared.call.Kind.{Kind}
use Rattle.seg_vn.specs.vm_types.declared.call.Kind.TheVariants.{Private, Shared}
use Rattle.seg_vn.specs.vm_types.declared.call.Object.{Object}
use Rattle.seg_vn.specs.vm_types.declared.call.Place.{Place}
use Rattle.seg_vn.specs.vm_types.declared.call.Place.TheVariants.{At, Any}
use Rattle.seg_vn.specs.vm_types.declared.prot.Prot.{Prot}
use Rattle.seg_vn.specs.vm_types.WellFormed.{IsNumber}
use Rattle.seg_vn.specs.flat_model.Flat.{Flat}
use Rattle.seg_vn.specs.flat_model.Mapping.{Request, is_valid, map_result, prot_read, prot_read_write, with_mapping}
use Rattle.seg_vn.specs.flat_model.Words.{page, pages_in}
use Rattle.seg_vn.specs.vm_world.FlatMemory.{Memory, flat_memory}
use Rattle.seg_vn.specs.vm_world.Segments.{Spaces}
use Rattle.seg_vn.specs.vm_world.Words.{memory}
use Rattle.seg_vn.specs.vm_world.World.{World, world_seen}
use Rattle.seg_vn.specs.vm_world.declared.world.World as rust
use Rattle.seg_vn.specs.Clears.{SpaceFits}
use Rattle.seg_vn.specs.vm_world.declared.segment.Segment.{Segment}
use Rattle.mmap_calls.specs.declared.refusals.MapRequest.{MapRequest}
use Rattle.mmap_calls.specs.declared.refusals.NewMapping.{NewMapping}
use Rattle.seg_vn.specs.vm_types.Prot.{is_within}
use Rattle.mmap_calls.specs.GivenUp.{given_up}
use Rattle.mmap_calls.specs.RangeCounts.{mapped_pages, slots_of_range}
use Rattle.std.specs.FinSet as set
use Rattle.seg_vn.specs.vm_types.declared.call.Errno.TheVariants as errno
use Rattle.seg_vn.specs.vm_types.declared.call.Object.TheVariants as object

-- What a Map at an address asks for.
abbrev pub map_request : MapRequest → Request
map_request m = record { place = At m.addr; len = m.length; prot = m.prot; kind = m.kind; object = m.object; offset = m.offset }

-- The call of a Map at an address.
abbrev pub map_call : MapRequest → Call
map_call m = Map (At m.addr) m.length m.prot m.kind m.object m.offset

-- What a Map at the lowest gap asks for, whatever the address.
abbrev pub any_request : MapRequest → Request
any_request m = record { place = Any; len = m.length; prot = m.prot; kind = m.kind; object = m.object; offset = m.offset }

-- The call of a Map at the lowest gap, whatever the address.
abbrev pub map_any_call : MapRequest → Call
map_any_call m = Map Any m.length m.prot m.kind m.object m.offset

-- The call of a Map at a place, whatever the address.
abbrev pub placed_call : Place → MapRequest → Call
placed_call place m = Map place m.length m.prot m.kind m.object m.offset

-- The numbers of a Map are below 2^32.
pub record IsMapRequest (m : MapRequest) : Type 0 where
  pub addr : IsNumber m.addr
  pub length : IsNumber m.length
  pub offset : IsNumber m.offset

-- The object is there: such a file, or a zero object that is listed; new zero memory always is.
abbrev pub is_object_there : World → List (Option ℕ) → Object → Bool
is_object_there w zeros (object.File f) = nat_lt f (length w.files.files)
is_object_there w zeros (object.Zero z) = is_some (slice_index_or zeros z None)
is_object_there w zeros object.NewZero = true

-- The most that may be done with a mapping: a shared one of a file that can't be written may only be read.
abbrev pub most_allowed : World → Kind → Object → Prot
most_allowed w Shared (object.File f) = if (vnode_at w.files f).info.writable then prot_read_write else prot_read
most_allowed w kind o = prot_read_write

-- The map of the zero object that an object is, if it is one.
abbrev pub map_of_object : List (Option ℕ) → Object → Option ℕ
map_of_object zeros (object.Zero z) = slice_index_or zeros z None
map_of_object zeros o = None

-- How many slots a mapping of so many pages reserves: one for each page that is private, or of a new zero object.
abbrev pub slots_for_pages : Kind → Object → ℕ → ℕ
slots_for_pages Private o n = n
slots_for_pages Shared object.NewZero n = n
slots_for_pages Shared o n = 0

-- How many slots the mapping of a request that was worked out reserves.
abbrev pub slots_for_map : NewMapping → ℕ
slots_for_map m = slots_for_pages m.request.kind m.request.object m.pages

-- The request asks for a range, an object that is there, and no more than may be done with it; and what is worked out from it is right.
pub record IsNewMapping (w : World) (zeros : List (Option ℕ)) (m : NewMapping) : Type 0 where
  pub valid : is_valid (map_request m.request) ≡ true
  pub there : is_object_there w zeros m.request.object ≡ true
  pub within : is_within m.request.prot m.max ≡ true
  pub low : 1 ≤ m.first
  pub some : 0 < m.pages
  pub high : m.first + m.pages ≤ 0x80000
  pub first : m.first ≡ page m.request.addr
  pub pages : m.pages ≡ pages_in m.request.length
  pub max : m.max ≡ most_allowed w m.request.kind m.request.object
  pub held : m.held ≡ map_of_object zeros m.request.object

-- The request asks for what may be mapped in this world, and what is worked out from it is right.
abbrev pub IsMappingOf : {D : Type 0} → rust.World D → NewMapping → Type 0
IsMappingOf w m = IsNewMapping (world_seen w) w.zeros m

-- What a Map comes to in flat memory: this refusal, or its first page and the new mapping.
abbrev pub map_outcome : Flat → ℕ → MapRequest → Option Errno → Result (ℕ × Flat) Errno
map_outcome F p m None = Ok (page m.addr, with_mapping F p (map_request m) (page m.addr))
map_outcome F p m (Some e) = Err e

-- THE REFUSAL that is due to a Map, if one is, whatever is outside.
abbrev pub IsMapRefusal : Memory → ℕ → MapRequest → Option Errno → Type 0
IsMapRefusal memory p m refused = (born : set.FinSet nat_cmp) (notes : Notes) → map_result (flat_memory memory born notes) p (map_request m) ≡ map_outcome (flat_memory memory born notes) p m refused

-- The refusal that is due to a Map in the world, if one is, whatever the spaces in which a process
-- is alive with these parts.
abbrev pub IsRefused : {D : Type 0} → rust.World D → List (Part Segment) → MapRequest → Option Errno → Type 0
IsRefused w parts m refused = (spaces : Spaces) (p : ℕ) → SpaceFits (world_seen w) w.zeros spaces p parts → IsMapRefusal (memory w spaces) p m refused

-- How many pages are mapped with the new mapping, in the place of what its range has.
abbrev pub pages_after : List (Part Segment) → MapRequest → ℕ
pages_after parts m = page_total parts - mapped_pages parts (page m.addr) (page m.addr + pages_in m.length) + pages_in m.length

-- How many slots are reserved with the new mapping: those of its range, and of the zero objects
-- that its range alone shows, are given up.
abbrev pub reserved_after : World → List (Option ℕ) → List (Part Segment) → MapRequest → ℕ
reserved_after w zeros parts m =
    w.anon.reserved - slots_of_range parts (page m.addr) (page m.addr + pages_in m.length) - given_up w.maps zeros parts (page m.addr) (page m.addr + pages_in m.length) m.object (length zeros) + slots_for_pages m.kind m.object (pages_in m.length)

-- The refusal that is due to a Map, told from pieces and counts: the first whose test fails, in this order.
abbrev pub refusal_of : World → List (Option ℕ) → List (Part Segment) → MapRequest → Option Errno
refusal_of w zeros parts m =
    if not (is_valid (map_request m)) then Some errno.Invalid
    else if not (is_object_there w zeros m.object) then Some errno.NoObject
    else if not (is_within m.prot (most_allowed w m.kind m.object)) then Some errno.Access
    else if not (nat_le (pages_after parts m) 65536) then Some errno.TooLarge
    else if not (nat_le (reserved_after w zeros parts m) (length w.anon.counts)) then Some errno.NoSwap
    else None

-- A Map at the lowest gap is refused with this errno, whatever the spaces in which a process is
-- alive with these parts.
abbrev pub IsGapless : {D : Type 0} → rust.World D → List (Part Segment) → MapRequest → Errno → Type 0
IsGapless w parts m e =
    (spaces : Spaces) (p : ℕ) → SpaceFits (world_seen w) w.zeros spaces p parts → (born : set.FinSet nat_cmp) (notes : Notes) → map_result (flat_memory (memory w spaces) born notes) p (any_request m) ≡ Err e
