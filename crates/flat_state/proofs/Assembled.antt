-- A Map put together from its parts.
use Rattle.std.proofs.Common.{◌≡◌, ℕ, ◌+◌, Bool, true, false, List, Option, Result, Ok, Err, refl, sym, ap, ◌∙◌}
use Rattle.std.specs.Prelude.{◌/◌, nat_le, is_some, IsSome, ok_or, unwrap_or}
use Rattle.std.specs.Ordering.{nat_cmp}
use Rattle.std.specs.FinMap as map
use Rattle.flat_model.specs.vm_types.declared.call.Errno.{Errno}
use Rattle.flat_model.specs.vm_types.declared.call.Errno.TheVariants as errno
use Rattle.flat_model.specs.vm_types.declared.call.Place.{Place}
use Rattle.flat_model.specs.vm_types.declared.call.Place.TheVariants.{At, Any}
use Rattle.flat_model.specs.vm_types.declared.call.Kind.{Kind}
use Rattle.flat_model.specs.vm_types.declared.call.Kind.TheVariants.{Shared, Private}
use Rattle.flat_model.specs.vm_types.declared.call.Object.{Object}
use Rattle.flat_model.specs.vm_types.declared.call.Object.TheVariants as object
use Rattle.flat_model.specs.vm_types.Prot.{is_within}
use Rattle.flat_model.specs.Words.{Page, page, pages_in}
use Rattle.flat_model.specs.Flat.{Cell, Flat, Space, space_of, without_unnamed, reserved}
use Rattle.flat_model.specs.Refusals.{◌>>=◌, ◌>>◌, check}
use Rattle.flat_model.specs.Access.{with_space}
use Rattle.flat_model.specs.Space.{with_cells, without_range}
use Rattle.flat_model.specs.Spaces.{names_zero}
use Rattle.flat_state.specs.Cells.{with_index}
use Rattle.flat_model.specs.Mapping.{Request, cells_of, is_valid, is_there, max_of, own_for, without_replaced, first_page, object_for, new_cell, with_object, with_mapping, map_result}
use Rattle.flat_state.specs.Mapped.{request_check, range_start, made_in, object_with, with_new_zeros, with_parts, first_cell, reserved_by}
use Rattle.flat_model.proofs.Ranges.{get-insert_here}
use Rattle.flat_model.proofs.Reserve.{reserved-without_unnamed}

abbrev pub Spaces : Type 0
Spaces = map.FinMap nat_cmp Space

abbrev pub Zeros : Type 0
Zeros = map.FinMap nat_cmp (List Page)

-- a Map clears spaces alone
cleared_is : (F : Flat) (p : ℕ) (place : Place) (n : ℕ) → without_replaced F p place n ≡ record F { spaces = (without_replaced F p place n).spaces }
cleared_is F p (At a) n = refl
cleared_is F p Any n = refl

-- a process stays alive
pub cleared_alive : (F : Flat) (p : ℕ) (place : Place) (n : ℕ) → IsSome (space_of F p) → IsSome (map.get (without_replaced F p place n).spaces p)
cleared_alive F p (At a) n alive = ap is_some (get-insert_here F.spaces p (without_range (cells_of F p) (page a) n))
cleared_alive F p Any n alive = alive

object_is : (G : Flat) (k : Kind) (o : Object) → object_for G k o ≡ object_with (made_in G.spaces k o) o
object_is G Shared (object.File f) = refl
object_is G Shared object.NewZero = refl
object_is G Shared (object.Zero z) = refl
object_is G Private (object.File f) = refl
object_is G Private object.NewZero = refl
object_is G Private (object.Zero z) = refl

with_object_is : (G : Flat) (k : Kind) (o : Object) (n : ℕ) → with_object G k o n ≡ record G { zeros = with_new_zeros G.zeros (made_in G.spaces k o) n }
with_object_is G Shared (object.File f) n = refl
with_object_is G Shared object.NewZero n = refl
with_object_is G Shared (object.Zero z) n = refl
with_object_is G Private (object.File f) n = refl
with_object_is G Private object.NewZero n = refl
with_object_is G Private (object.Zero z) n = refl

-- a Map over flat memory whose range is free
abbrev mapped_over : Flat → Flat → ℕ → Request → ℕ → Flat
mapped_over F G p r first = without_unnamed (with_space (with_object G r.kind r.object (pages_in r.len)) p (with_cells (cells_of G p) first (pages_in r.len) (new_cell F G r)))

-- the spaces and the zero objects with a mapping
abbrev pub spaces_with : Flat → Spaces → ℕ → Request → ℕ → Spaces
spaces_with F S p r first = map.insert S p (with_cells (unwrap_or (map.get S p) map.empty) first (pages_in r.len) (λ i. with_index (first_cell F r (made_in S r.kind r.object)) i))

abbrev pub zeros_with : Flat → Spaces → ℕ → Request → ℕ → Zeros
zeros_with F S p r first = map.retain_keys (with_new_zeros F.zeros (made_in S r.kind r.object) (pages_in r.len)) (names_zero (spaces_with F S p r first))

cell_by : Flat → Request → Object → ℕ → Cell
cell_by F r o i = record { prot = r.prot; max = max_of F r.kind r.object; kind = r.kind; object = o; index = r.offset / 4096 + i; own = own_for r.kind r.object }

over_is : (F : Flat) (S : Spaces) (p : ℕ) (r : Request) (first : ℕ) → mapped_over F (record F { spaces = S }) p r first ≡ with_parts F (spaces_with F S p r first) (zeros_with F S p r first)
unfolding cell_by
over_is F S p r first =
    let G : Flat = record F { spaces = S } in
    let n = pages_in r.len in
    ap (λ (H : Flat). without_unnamed (with_space H p (with_cells (cells_of G p) first n (new_cell F G r)))) (with_object_is G r.kind r.object n)
    ∙ ap (λ (o : Object). without_unnamed (with_space (record G { zeros = with_new_zeros F.zeros (made_in S r.kind r.object) n }) p (with_cells (cells_of G p) first n (cell_by F r o)))) (object_is G r.kind r.object)

-- flat memory with a mapping, by its parts
pub mapped_at_is : (F : Flat) (p : ℕ) (r : Request) (first : ℕ) → with_mapping F p r first ≡ with_parts F (spaces_with F (without_replaced F p r.place (pages_in r.len)).spaces p r first) (zeros_with F (without_replaced F p r.place (pages_in r.len)).spaces p r first)
mapped_at_is F p r first =
    ap (λ (G : Flat). mapped_over F G p r first) (cleared_is F p r.place (pages_in r.len))
    ∙ over_is F (without_replaced F p r.place (pages_in r.len)).spaces p r first

-- what a mapping reserves, by its parts
pub reserved_is : (F : Flat) (p : ℕ) (r : Request) (first : ℕ) (spaces : Spaces) (zeros : Zeros) → with_parts F spaces zeros ≡ with_mapping F p r first → reserved (with_mapping F p r first) ≡ reserved_by spaces zeros
reserved_is F p r first spaces zeros is =
    let G = without_replaced F p r.place (pages_in r.len) in
    let U = with_space (with_object G r.kind r.object (pages_in r.len)) p (with_cells (cells_of G p) first (pages_in r.len) (new_cell F G r)) in
    reserved-without_unnamed U ∙ sym (ap (λ (W : Flat). reserved_by W.spaces W.zeros) is)

abbrev Answer : Type 0
Answer = Result (ℕ × Flat) Errno

-- the tests of a Map in three parts
in_parts : (a b c d : Bool) (o : Option ℕ) (last : ℕ → Answer) → (check a errno.Invalid >> (check b errno.NoObject >> (check c errno.Access >> (check d errno.TooLarge >> (ok_or o errno.NoRoom >>= last))))) ≡ ((check a errno.Invalid >> (check b errno.NoObject >> check c errno.Access)) >> ((check d errno.TooLarge >> ok_or o errno.NoRoom) >>= last))
in_parts false b c d o last = refl
in_parts true false c d o last = refl
in_parts true true false d o last = refl
in_parts true true true false o last = refl
in_parts true true true true o last = refl

-- the last test of a Map
abbrev last : Flat → ℕ → Request → ℕ → Answer
last F p r first = check (nat_le (reserved (with_mapping F p r first)) F.slots) errno.NoSwap >> Ok (first, with_mapping F p r first)

abbrev pub placed_for : Flat → ℕ → Request → Result ℕ Errno
placed_for F p r = range_start (cells_of (without_replaced F p r.place (pages_in r.len)) p) r.place (pages_in r.len)

mapped_is : (F : Flat) (p : ℕ) (r : Request) → map_result F p r ≡ (request_check F r >> (placed_for F p r >>= last F p r))
unfolding map_result
mapped_is F p r =
    let n = pages_in r.len in
    let space = cells_of (without_replaced F p r.place n) p in
    in_parts (is_valid r) (is_there F r.object) (is_within r.prot (max_of F r.kind r.object)) (nat_le (map.len space + n) 65536) (first_page space r.place n) (last F p r)

-- a Map that is refused before any cell is looked at
pub mapped_unasked : (F : Flat) (p : ℕ) (r : Request) (e : Errno) → request_check F r ≡ Err e → map_result F p r ≡ Err e
mapped_unasked F p r e is = mapped_is F p r ∙ ap (λ (a : Result (Unit {0}) Errno). a >> (placed_for F p r >>= last F p r)) is

-- a Map that has no place
pub mapped_unplaced : (F : Flat) (p : ℕ) (r : Request) (e : Errno) → request_check F r ≡ Ok tt → placed_for F p r ≡ Err e → map_result F p r ≡ Err e
mapped_unplaced F p r e ok is =
    mapped_is F p r ∙ ap (λ (a : Result (Unit {0}) Errno). a >> (placed_for F p r >>= last F p r)) ok
    ∙ ap (λ (a : Result ℕ Errno). a >>= last F p r) is

mapped_last : (F : Flat) (p : ℕ) (r : Request) (first : ℕ) → request_check F r ≡ Ok tt → placed_for F p r ≡ Ok first → map_result F p r ≡ last F p r first
mapped_last F p r first ok is =
    mapped_is F p r ∙ ap (λ (a : Result (Unit {0}) Errno). a >> (placed_for F p r >>= last F p r)) ok
    ∙ ap (λ (a : Result ℕ Errno). a >>= last F p r) is

-- a Map for which there are too few slots
pub mapped_unbacked : (F : Flat) (p : ℕ) (r : Request) (first : ℕ) → request_check F r ≡ Ok tt → placed_for F p r ≡ Ok first → nat_le (reserved (with_mapping F p r first)) F.slots ≡ false → map_result F p r ≡ Err errno.NoSwap
mapped_unbacked F p r first ok is few = mapped_last F p r first ok is ∙ ap (λ b. check b errno.NoSwap >> Ok (first, with_mapping F p r first)) few

-- a Map that isn't refused
pub mapped_done : (F : Flat) (p : ℕ) (r : Request) (first : ℕ) → request_check F r ≡ Ok tt → placed_for F p r ≡ Ok first → nat_le (reserved (with_mapping F p r first)) F.slots ≡ true → map_result F p r ≡ Ok (first, with_mapping F p r first)
mapped_done F p r first ok is enough = mapped_last F p r first ok is ∙ ap (λ b. check b errno.NoSwap >> Ok (first, with_mapping F p r first)) enough

-- the parts of a mapping, put together
pub assembled : (F : Flat) (p : ℕ) (r : Request) (first : ℕ) (C : Spaces) (made : Option ℕ) (cell : Cell) (zeros : Zeros) (n : ℕ) (new : Spaces) (kept : Zeros)
    → C ≡ (without_replaced F p r.place (pages_in r.len)).spaces → made ≡ made_in C r.kind r.object → cell ≡ first_cell F r made → n ≡ pages_in r.len → zeros ≡ with_new_zeros F.zeros made n
    → new ≡ map.insert C p (with_cells (unwrap_or (map.get C p) map.empty) first n (λ i. with_index cell i)) → kept ≡ map.retain_keys zeros (names_zero new) → with_parts F new kept ≡ with_mapping F p r first
assembled F p r first C made cell zeros n new kept cleared made_is cell_is count zeros_are new_is kept_is =
    let S = (without_replaced F p r.place (pages_in r.len)).spaces in
    let number : made ≡ made_in S r.kind r.object = made_is ∙ ap (λ (s : Spaces). made_in s r.kind r.object) cleared in
    let first_is : cell ≡ first_cell F r (made_in S r.kind r.object) = cell_is ∙ ap (first_cell F r) number in
    let spaces : new ≡ spaces_with F S p r first =
    new_is ∙ ap (λ (s : Spaces). map.insert s p (with_cells (unwrap_or (map.get s p) map.empty) first n (λ i. with_index cell i))) cleared
    ∙ ap (λ (k : ℕ). map.insert S p (with_cells (unwrap_or (map.get S p) map.empty) first k (λ i. with_index cell i))) count
    ∙ ap (λ (x : Cell). map.insert S p (with_cells (unwrap_or (map.get S p) map.empty) first (pages_in r.len) (λ i. with_index x i))) first_is in
    let all : zeros ≡ with_new_zeros F.zeros (made_in S r.kind r.object) (pages_in r.len) = zeros_are ∙ ap (λ (m : Option ℕ). with_new_zeros F.zeros m n) number ∙ ap (λ (k : ℕ). with_new_zeros F.zeros (made_in S r.kind r.object) k) count in
    let stay : kept ≡ zeros_with F S p r first =
    kept_is ∙ ap (λ (z : Zeros). map.retain_keys z (names_zero new)) all
    ∙ ap (λ (s : Spaces). map.retain_keys (with_new_zeros F.zeros (made_in S r.kind r.object) (pages_in r.len)) (names_zero s)) spaces in
    ap (λ (s : Spaces). with_parts F s kept) spaces ∙ ap (λ (z : Zeros). with_parts F (spaces_with F S p r first) z) stay ∙ sym (mapped_at_is F p r first)
