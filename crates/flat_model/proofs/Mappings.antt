-- What a Map that isn't refused leaves.
use Rattle.flat_model.proofs.Stores.{need_ok, ok_or_ok, pair_ok}
use Rattle.std.proofs.Common.{◌≡◌, ℕ, ◌+◌, ◌-◌, Bool, true, false, cond, Option, Some, None, Result, Ok, refl, sym, ap, subst, ◌∙◌}
use Rattle.std.specs.Prelude.{nat_le, ok_or, option_and_then, unwrap_or}
use Rattle.std.specs.FinMap as map
use Rattle.std.proofs.lemmas.Bool.{leb-true}
use Rattle.vm_types.specs.declared.call.Errno.{Errno}
use Rattle.vm_types.specs.declared.call.Errno.TheVariants as errno
use Rattle.vm_types.specs.declared.call.Place.{Place}
use Rattle.vm_types.specs.declared.call.Place.TheVariants.{At, Any}
use Rattle.vm_types.specs.declared.call.Kind.{Kind}
use Rattle.vm_types.specs.declared.call.Kind.TheVariants.{Shared, Private}
use Rattle.vm_types.specs.declared.call.Object.{Object}
use Rattle.vm_types.specs.declared.call.Object.TheVariants as object
use Rattle.vm_types.specs.Prot.{is_within}
use Rattle.flat_model.specs.Words.{page, pages_in}
use Rattle.flat_model.specs.Flat.{Cell, Flat, Space, space_of, cell_at, reserved}
use Rattle.flat_model.specs.Refusals.{◌>>=◌, ◌>>◌, check}
use Rattle.flat_model.specs.Access.{with_space}
use Rattle.flat_model.specs.Space.{is_in_range, without_range, with_cells, lowest_gap}
use Rattle.flat_model.specs.Mapping.{Request, cells_of, is_valid, is_there, max_of, without_replaced, first_page, new_cell, with_object, with_mapping, map_result}
use Rattle.flat_model.specs.MapLaws.{MapsRange, MapThenUnmap}
use Rattle.flat_model.proofs.Ranges.{get-insert_here, get-insert_apart, get-with_cells, with_cells-without_range, without_range-with_cells}

-- what a Map that isn't refused passed
pub record Mapped (F : Flat) (p : ℕ) (r : Request) (first : ℕ) (G : Flat) : Type 0 where
  pub valid : is_valid r ≡ true
  pub there : is_there F r.object ≡ true
  pub allowed : is_within r.prot (max_of F r.kind r.object) ≡ true
  pub few : nat_le (map.len (cells_of (without_replaced F p r.place (pages_in r.len)) p) + pages_in r.len) 65536 ≡ true
  pub first_is : first_page (cells_of (without_replaced F p r.place (pages_in r.len)) p) r.place (pages_in r.len) ≡ Some first
  pub backed : nat_le (reserved G) F.slots ≡ true
  pub after : G ≡ with_mapping F p r first

abbrev Answer : Type 0
Answer = Result (ℕ × Flat) Errno

pub mapped-map_result : (F : Flat) (p : ℕ) (r : Request) (first : ℕ) (G : Flat) → map_result F p r ≡ Ok (first, G) → Mapped F p r first G
unfolding map_result
mapped-map_result F p r first G is =
    let n = pages_in r.len in
    let space = cells_of (without_replaced F p r.place n) p in
    let last : ℕ → Answer = λ x. check (nat_le (reserved (with_mapping F p r x)) F.slots) errno.NoSwap >> Ok (x, with_mapping F p r x) in
    let fifth : Answer = ok_or (first_page space r.place n) errno.NoRoom >>= last in
    let fourth : Answer = check (nat_le (map.len space + n) 65536) errno.TooLarge >> fifth in
    let third : Answer = check (is_within r.prot (max_of F r.kind r.object)) errno.Access >> fourth in
    let second : Answer = check (is_there F r.object) errno.NoObject >> third in
    let a = need_ok (is_valid r) errno.Invalid second (first, G) is in
    let b = need_ok (is_there F r.object) errno.NoObject third (first, G) a.1 in
    let c = need_ok (is_within r.prot (max_of F r.kind r.object)) errno.Access fourth (first, G) b.1 in
    let d = need_ok (nat_le (map.len space + n) 65536) errno.TooLarge fifth (first, G) c.1 in
    let e = ok_or_ok (first_page space r.place n) errno.NoRoom last (first, G) d.1 in
    let f = need_ok (nat_le (reserved (with_mapping F p r e.0)) F.slots) errno.NoSwap (Ok (e.0, with_mapping F p r e.0)) (first, G) e.2 in
    let both = pair_ok e.0 first (with_mapping F p r e.0) G f.1 in
    record {
      valid = a.0;
      there = b.0;
      allowed = c.0;
      few = d.0;
      first_is = e.1 ∙ ap (λ x. Some x) both.0;
      backed = subst (λ (H : Flat). nat_le (reserved H) F.slots ≡ true) both.1 f.0;
      after = sym both.1 ∙ ap (with_mapping F p r) both.0;
    }

pub spaces-with_object : (G : Flat) (k : Kind) (o : Object) (n : ℕ) → (with_object G k o n).spaces ≡ G.spaces
spaces-with_object G Shared (object.File f) n = refl
spaces-with_object G Shared object.NewZero n = refl
spaces-with_object G Shared (object.Zero z) n = refl
spaces-with_object G Private o n = refl

-- the spaces that a Map leaves
pub spaces-with_mapping : (F : Flat) (p : ℕ) (r : Request) (first : ℕ) → (with_mapping F p r first).spaces ≡ map.insert (without_replaced F p r.place (pages_in r.len)).spaces p (with_cells (cells_of (without_replaced F p r.place (pages_in r.len)) p) first (pages_in r.len) (new_cell F (without_replaced F p r.place (pages_in r.len)) r))
spaces-with_mapping F p r first = ap (λ spaces. map.insert spaces p (with_cells (cells_of (without_replaced F p r.place (pages_in r.len)) p) first (pages_in r.len) (new_cell F (without_replaced F p r.place (pages_in r.len)) r))) (spaces-with_object (without_replaced F p r.place (pages_in r.len)) r.kind r.object (pages_in r.len))

-- a process's cell is the one of its cells
pub get-cells_of : (F : Flat) (p q : ℕ) → cell_at F p q ≡ map.get (cells_of F p) q
get-cells_of F p q = by_space (space_of F p)
  where
    by_space : (o : Option Space) → option_and_then (λ space. map.get space q) o ≡ map.get (unwrap_or o map.empty) q
    by_space None = sym (map.get-empty _ q)
    by_space (Some space) = refl

pub cells_of-with_space : (F : Flat) (p : ℕ) (s : Space) → cells_of (with_space F p s) p ≡ s
cells_of-with_space F p s = ap (λ o. unwrap_or o map.empty) (get-insert_here F.spaces p s)

pub cells_of-with_mapping : (F : Flat) (p : ℕ) (r : Request) (first : ℕ) → cells_of (with_mapping F p r first) p ≡ with_cells (cells_of (without_replaced F p r.place (pages_in r.len)) p) first (pages_in r.len) (new_cell F (without_replaced F p r.place (pages_in r.len)) r)
cells_of-with_mapping F p r first = ap (λ spaces. unwrap_or (map.get spaces p) map.empty) (spaces-with_mapping F p r first) ∙ ap (λ o. unwrap_or o map.empty) (get-insert_here (without_replaced F p r.place (pages_in r.len)).spaces p (with_cells (cells_of (without_replaced F p r.place (pages_in r.len)) p) first (pages_in r.len) (new_cell F (without_replaced F p r.place (pages_in r.len)) r)))

cleared_others : (F : Flat) (p : ℕ) (place : Place) (n x : ℕ) → (x ≡ p → ⊥) → space_of (without_replaced F p place n) x ≡ space_of F x
cleared_others F p (At a) n x apart = get-insert_apart F.spaces p (without_range (cells_of F p) (page a) n) x apart
cleared_others F p Any n x apart = refl

-- new cells over a space whose range was or wasn't cleared
cells_over : (F : Flat) (p : ℕ) (place : Place) (n first : ℕ) (cell : ℕ → Cell) → first_page (cells_of (without_replaced F p place n) p) place n ≡ Some first → with_cells (cells_of (without_replaced F p place n) p) first n cell ≡ with_cells (cells_of F p) first n cell
cells_over F p (At a) n first cell is =
    let at : page a ≡ first = cc in
    ap (λ s. with_cells s first n cell) (cells_of-with_space F p (without_range (cells_of F p) (page a) n) ∙ ap (λ k. without_range (cells_of F p) k n) at) ∙ with_cells-without_range (cells_of F p) first n cell
cells_over F p Any n first cell is = refl

-- the cells of the process after a Map
pub cells_of-map_result : (F : Flat) (p : ℕ) (r : Request) (first : ℕ) (G : Flat) → Mapped F p r first G → cells_of G p ≡ with_cells (cells_of F p) first (pages_in r.len) (new_cell F (without_replaced F p r.place (pages_in r.len)) r)
cells_of-map_result F p r first G m =
    ap (λ H. cells_of H p) m.after ∙ cells_of-with_mapping F p r first
    ∙ cells_over F p r.place (pages_in r.len) first (new_cell F (without_replaced F p r.place (pages_in r.len)) r) m.first_is

placed_at : (F : Flat) (p : ℕ) (place : Place) (n first a : ℕ) → first_page (cells_of (without_replaced F p place n) p) place n ≡ Some first → place ≡ At a → first ≡ page a
placed_at F p (At b) n first a is at = let same : b ≡ a = cc in let here : page b ≡ first = cc in sym here ∙ ap page same
placed_at F p Any n first a is at = absurd cc

placed_any : (F : Flat) (p : ℕ) (place : Place) (n first : ℕ) → first_page (cells_of (without_replaced F p place n) p) place n ≡ Some first → place ≡ Any → lowest_gap (cells_of F p) n ≡ Some first
placed_any F p (At b) n first is any = absurd cc
placed_any F p Any n first is any = is

pub maps_range : (F : Flat) (p : ℕ) (r : Request) (first : ℕ) (G : Flat) → map_result F p r ≡ Ok (first, G) → MapsRange F p r first G
maps_range F p r first G is =
    let m = mapped-map_result F p r first G is in
    let n = pages_in r.len in
    let cell = new_cell F (without_replaced F p r.place n) r in
    record {
      at_place = λ a at. placed_at F p r.place n first a m.first_is at;
      lowest = λ any. placed_any F p r.place n first m.first_is any;
      cells = λ q. get-cells_of G p q ∙ ap (λ s. map.get s q) (cells_of-map_result F p r first G m) ∙ get-with_cells (cells_of F p) first n cell q ∙ ap (cond (is_in_range first n q) (Some (cell (q - first)))) (sym (get-cells_of F p q));
      others = λ x apart. ap (λ H. space_of H x) m.after ∙ ap (λ spaces. map.get spaces x) (spaces-with_mapping F p r first) ∙ get-insert_apart (without_replaced F p r.place n).spaces p (with_cells (cells_of (without_replaced F p r.place n) p) first n cell) x apart ∙ cleared_others F p r.place n x apart;
      backed = leb-true (reserved G) F.slots m.backed;
      unmapped_again = cells_of-with_space G p (without_range (cells_of G p) first n) ∙ ap (λ s. without_range s first n) (cells_of-map_result F p r first G m) ∙ without_range-with_cells (cells_of F p) first n cell;
    }

pub map_then_unmap_law : MapThenUnmap
map_then_unmap_law = record { maps = maps_range }
