-- What a Map needs, in the parts in which the plain form finds it. Inside: no public clause cites this.
use Rattle.std.specs.Prelude.{ℕ, ◌+◌, ◌-◌, List, replicate, Option, Some, None, Result, ok_or, nat_le, if◌then◌else◌}
use Rattle.std.specs.Ordering.{nat_cmp}
use Rattle.std.specs.FinMap as map
use Rattle.flat_model.specs.vm_types.declared.call.Call.{Call}
use Rattle.flat_model.specs.vm_types.declared.call.Call.TheVariants.{Map}
use Rattle.flat_model.specs.vm_types.declared.call.Kind.{Kind}
use Rattle.flat_model.specs.vm_types.declared.call.Kind.TheVariants.{Shared}
use Rattle.flat_model.specs.vm_types.declared.call.Object.{Object}
use Rattle.flat_model.specs.vm_types.declared.call.Object.TheVariants as object
use Rattle.flat_model.specs.vm_types.declared.call.Place.{Place}
use Rattle.flat_model.specs.vm_types.declared.call.Errno.{Errno}
use Rattle.flat_model.specs.vm_types.declared.call.Errno.TheVariants as errno
use Rattle.flat_model.specs.vm_types.Prot.{is_within}
use Rattle.flat_state.specs.declared.map_call.MapCall.{MapCall}
use Rattle.flat_model.specs.Words.{Page, zero_page, page}
use Rattle.flat_model.specs.Flat.{Cell, Flat, Space}
pub use Rattle.flat_model.specs.Flat.{reserved_by}
pub use Rattle.flat_model.specs.Mapping.{new_number_in}
use Rattle.flat_model.specs.Mapping.{Request, is_valid, is_there, max_of, own_for, first_page, new_number_in}
use Rattle.flat_model.specs.Refusals.{◌>>◌, check}

-- The request of a Map.
abbrev pub request_of : MapCall → Request
request_of m = record { place = m.place; len = m.length; prot = m.prot; kind = m.kind; object = m.object; offset = m.offset }

-- The call of a Map.
abbrev pub call_of : MapCall → Call
call_of m = Map m.place m.length m.prot m.kind m.object m.offset

-- The refusals of a Map that come before any cell is looked at, in their order.
abbrev pub request_check : Flat → Request → Result (Unit {0}) Errno
request_check F r = check (is_valid r) errno.Invalid >> (check (is_there F r.object) errno.NoObject >> check (is_within r.prot (max_of F r.kind r.object)) errno.Access)

-- The first of n pages in a space whose range is free, or the refusal: too many cells, or no gap.
abbrev pub range_start : Space → Place → ℕ → Result ℕ Errno
range_start space place n = check (nat_le (map.len space + n) 65536) errno.TooLarge >> ok_or (first_page space place n) errno.NoRoom

-- The number of the zero object that a Map makes beside these spaces, if it makes one.
abbrev pub made_in : map.FinMap nat_cmp Space → Kind → Object → Option ℕ
made_in spaces Shared object.NewZero = Some (new_number_in spaces)
made_in spaces kind o = None

-- The object that new cells name: the zero object that was made, or else the one asked for.
abbrev pub object_with : Option ℕ → Object → Object
object_with None o = o
object_with (Some z) o = object.Zero z

-- Zero objects and the one of n pages that was made, if one was.
abbrev pub with_new_zeros : map.FinMap nat_cmp (List Page) → Option ℕ → ℕ → map.FinMap nat_cmp (List Page)
with_new_zeros zeros None n = zeros
with_new_zeros zeros (Some z) n = map.insert zeros z (replicate n zero_page)

-- Flat memory with other spaces and zero objects.
abbrev pub with_parts : Flat → map.FinMap nat_cmp Space → map.FinMap nat_cmp (List Page) → Flat
with_parts F spaces zeros = record F { spaces = spaces; zeros = zeros }

-- How many slots are left of some, where there are so many.
abbrev pub slots_left : ℕ → ℕ → Option ℕ
slots_left slots n = if nat_le n slots then Some (slots - n) else None

-- The cell of a mapping at its first page.
abbrev pub first_cell : Flat → Request → Option ℕ → Cell
first_cell F r made = record { prot = r.prot; max = max_of F r.kind r.object; kind = r.kind; object = object_with made r.object; index = page r.offset; own = own_for r.kind r.object }
