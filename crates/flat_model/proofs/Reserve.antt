-- What is reserved after each call.
use Rattle.std.proofs.Common.{◌≡◌, ℕ, ◌+◌, ◌-◌, ◌<◌, ◌≤◌, Bool, true, false, cond, not, ◌&&◌, ◌||◌, List, [], length, replicate, Option, Some, None, Ok, refl, sym, ap, ◌∙◌, inl, inr, arith, eqb}
use Rattle.std.specs.Prelude.{◌==◌, option_and_then, unwrap_or, flat_map, filter_map, is_some, IsFalse, IsSome}
use Rattle.std.specs.List.{list_any}
use Rattle.std.specs.Ordering.{nat_cmp}
use Rattle.std.specs.Cmp.{nat_cmp_total}
use Rattle.std.specs.FinMap as map
use Rattle.std.specs.FinSet as set
use Rattle.std.proofs.lemmas.Bool.{cases_eq, eqb-true, eq-eqb, or_left as or_first, or_right as or_second}
use Rattle.std.proofs.lemmas.List.{length-replicate}
use Rattle.vm_types.specs.declared.call.Kind.{Kind}
use Rattle.vm_types.specs.declared.call.Kind.TheVariants.{Shared, Private}
use Rattle.vm_types.specs.declared.call.Object.{Object}
use Rattle.vm_types.specs.declared.call.Object.TheVariants as object
use Rattle.vm_types.specs.declared.call.Place.{Place}
use Rattle.vm_types.specs.declared.call.Place.TheVariants.{At, Any}
use Rattle.flat_model.specs.Words.{Page, page, pages_in, zero_page}
use Rattle.flat_model.specs.Flat.{Cell, Flat, Space, space_of, cell_at, zero_of, is_named, without_unnamed, slots_for, private_cells, reserved}
use Rattle.flat_model.specs.Access.{with_space}
use Rattle.flat_model.specs.Space.{is_in_range, without_range, with_cells}
use Rattle.flat_model.specs.Mapping.{Request, cells_of, is_valid, is_place, is_there, without_replaced, first_page, new_number, new_cell, object_for, with_object, with_mapping, map_result, without_pages}
use Rattle.flat_model.specs.Processes.{with_child, without_process}
use Rattle.flat_model.specs.Births.{AreBorn}
use Rattle.flat_model.specs.ReserveLaws.{IsPlaced, zero_pages_gone, private_cells_at, zero_pages_back}
use Rattle.flat_model.proofs.Ranges.{get-insert, get-insert_here, get-insert_apart, get-remove_here, get-remove_apart, get-retain_keys, insert_same, get-with_cells, get-without_range, with_cells-without_range, without_range-free, in_range-is, in_range-low, in_range-high, shadowed as over, both_true}
use Rattle.flat_model.proofs.Sums.{total, total-insert, total-insert_over, total-remove, total-retain_keys, total-without_range, total-with_cells, sum_to, sum_to-same}
use Rattle.flat_model.proofs.Gap.{gap-free}
use Rattle.flat_model.proofs.Named.{named_zeros-from_cell, named_zeros-to_cell, new_number-new}
use Rattle.flat_model.proofs.Mappings.{mapped-map_result, get-cells_of, spaces-with_mapping, cells_of-with_space}

same_maps : {X : Type 0} (m n : map.FinMap nat_cmp X) → ((q : ℕ) → map.get m q ≡ map.get n q) → m ≡ n
same_maps m n alike = map.same_map nat_cmp_total map.nat_cmp-IsAntisymmetric m n alike

pub same_tests : (a b : Bool) → (a ≡ true → b ≡ true) → (b ≡ true → a ≡ true) → a ≡ b
same_tests true b to from = sym (to refl)
same_tests false true to from = from refl
same_tests false false to from = refl

-- what is kept by tests that agree
pub retain-alike : {X : Type 0} (m : map.FinMap nat_cmp X) (s t : ℕ → Bool) → ((z : ℕ) → s z ≡ t z) → map.retain_keys m s ≡ map.retain_keys m t
retain-alike m s t alike = same_maps _ _ (λ q. get-retain_keys m s q ∙ ap (λ b. cond b (map.get m q) None) (alike q) ∙ sym (get-retain_keys m t q))

narrower : {X : Type 0} (a b : Bool) (x : Option X) → (a ≡ true → b ≡ true) → cond a (cond b x None) None ≡ cond a x None
narrower true b x to = ap (λ c. cond c x None) (to refl)
narrower false b x to = refl

-- what is kept of what was kept by a wider test
retain-retain : {X : Type 0} (m : map.FinMap nat_cmp X) (s t : ℕ → Bool) → ((z : ℕ) → s z ≡ true → t z ≡ true) → map.retain_keys (map.retain_keys m t) s ≡ map.retain_keys m s
retain-retain m s t to = same_maps _ _ (λ q.
    get-retain_keys (map.retain_keys m t) s q ∙ ap (λ o. cond (s q) o None) (get-retain_keys m t q) ∙ narrower (s q) (t q) (map.get m q) (to q) ∙ sym (get-retain_keys m s q))

-- zero objects that are gone reserve nothing
pub reserved-without_unnamed : (F : Flat) → reserved (without_unnamed F) ≡ reserved F
reserved-without_unnamed F = ap (λ m. total private_cells F.spaces + total length m) (retain-retain F.zeros (is_named F) (is_named F) (λ z is. is))

was_some : (o : Option Space) → IsSome o → o ≡ Some (unwrap_or o map.empty)
was_some None is = absurd cc
was_some (Some space) is = refl

-- the space of who is alive, put back
pub put_back : (F : Flat) (p : ℕ) → IsSome (space_of F p) → map.insert F.spaces p (cells_of F p) ≡ F.spaces
put_back F p alive = insert_same F.spaces p (cells_of F p) (was_some (space_of F p) alive)

-- another space of a process brings its private cells and takes the old ones' away
pub private-with_space : (F : Flat) (p : ℕ) (s : Space) → IsSome (space_of F p) → total private_cells (map.insert F.spaces p s) + private_cells (cells_of F p) ≡ private_cells s + total private_cells F.spaces
private-with_space F p s alive = total-insert_over private_cells F.spaces p s (cells_of F p) (put_back F p alive)

free_without : (s : Space) (first n q : ℕ) → first ≤ q → q < first + n → map.get (without_range s first n) q ≡ None
free_without s first n q low high = get-without_range s first n q ∙ ap (λ b. cond b None (map.get s q)) (in_range-is first n q low high)

-- new cells bring what they reserve to a range that was taken out
private-with_cells : (s : Space) (first n : ℕ) (cell : ℕ → Cell) → private_cells (with_cells s first n cell) ≡ sum_to (λ i. slots_for (cell i)) n + private_cells (without_range s first n)
private-with_cells s first n cell = ap private_cells (sym (with_cells-without_range s first n cell)) ∙ total-with_cells slots_for (without_range s first n) first n cell (free_without s first n)

pub cell_at-here : (F : Flat) (p q : ℕ) (s : Space) → cell_at (with_space F p s) p q ≡ map.get s q
cell_at-here F p q s = ap (option_and_then (λ space. map.get space q)) (get-insert_here F.spaces p s)

pub cell_at-other : (F : Flat) (p x q : ℕ) (s : Space) → (x ≡ p → ⊥) → cell_at (with_space F p s) x q ≡ cell_at F x q
cell_at-other F p x q s apart = ap (option_and_then (λ space. map.get space q)) (get-insert_apart F.spaces p s x apart)

-- a name that comes from old cells or from new ones
pub names_from : (F : Flat) (p first n z : ℕ) (s : Space) (cell : ℕ → Cell) (P : Type 0) → is_named (with_space F p (with_cells s first n cell)) z ≡ true → ((i : ℕ) → zero_of (cell i) ≡ Some z → P) → (is_named (with_space F p (without_range s first n)) z ≡ true → P) → P
names_from F p first n z s cell P is new old =
    let m = named_zeros-to_cell (with_space F p (with_cells s first n cell)) z is in
    elim (cases_eq m.process p) [
      | inl here ↦
          let at : map.get (with_cells s first n cell) m.page ≡ Some m.cell = sym (cell_at-here F p m.page (with_cells s first n cell)) ∙ ap (λ x. cell_at (with_space F p (with_cells s first n cell)) x m.page) (sym here) ∙ m.stands in
          elim (is_in_range first n m.page) as (λ b. is_in_range first n m.page ≡ b → P) [
            | true ↦ λ inside.
                let same : cell (m.page - first) ≡ m.cell = let both : Some (cell (m.page - first)) ≡ Some m.cell = sym (ap (λ b. cond b (Some (cell (m.page - first))) (map.get s m.page)) inside) ∙ sym (get-with_cells s first n cell m.page) ∙ at in cc in
                new (m.page - first) (ap zero_of same ∙ m.names)
            | false ↦ λ outside.
                let kept : map.get (without_range s first n) m.page ≡ Some m.cell = get-without_range s first n m.page ∙ ap (λ b. cond b None (map.get s m.page)) outside ∙ sym (ap (λ b. cond b (Some (cell (m.page - first))) (map.get s m.page)) outside) ∙ sym (get-with_cells s first n cell m.page) ∙ at in
                old (named_zeros-from_cell (with_space F p (without_range s first n)) p m.page z m.cell (cell_at-here F p m.page (without_range s first n) ∙ kept) m.names)
          ] refl
      | inr apart ↦ old (named_zeros-from_cell (with_space F p (without_range s first n)) m.process m.page z m.cell (cell_at-other F p m.process m.page (without_range s first n) apart ∙ sym (cell_at-other F p m.process m.page (with_cells s first n cell) apart) ∙ m.stands) m.names)
    ]

hidden : (b : Bool) (x y z : Option Cell) → cond b None x ≡ y → is_some y ≡ true → cond b z x ≡ y
hidden true x y z is some = absurd (let e = ap is_some is in cc)
hidden false x y z is some = is

-- a name of old cells stays a name
names_stay : (F : Flat) (p first n z : ℕ) (s : Space) (cell : ℕ → Cell) → is_named (with_space F p (without_range s first n)) z ≡ true → is_named (with_space F p (with_cells s first n cell)) z ≡ true
names_stay F p first n z s cell is =
    let m = named_zeros-to_cell (with_space F p (without_range s first n)) z is in
    elim (cases_eq m.process p) [
      | inl here ↦
          let at : map.get (without_range s first n) m.page ≡ Some m.cell = sym (cell_at-here F p m.page (without_range s first n)) ∙ ap (λ x. cell_at (with_space F p (without_range s first n)) x m.page) (sym here) ∙ m.stands in
          let stays = get-with_cells s first n cell m.page ∙ hidden (is_in_range first n m.page) (map.get s m.page) (Some m.cell) (Some (cell (m.page - first))) (sym (get-without_range s first n m.page) ∙ at) refl in
          named_zeros-from_cell (with_space F p (with_cells s first n cell)) p m.page z m.cell (cell_at-here F p m.page (with_cells s first n cell) ∙ stays) m.names
      | inr apart ↦ named_zeros-from_cell (with_space F p (with_cells s first n cell)) m.process m.page z m.cell (cell_at-other F p m.process m.page (with_cells s first n cell) apart ∙ sym (cell_at-other F p m.process m.page (without_range s first n) apart) ∙ m.stands) m.names
    ]

-- new cells that name what is named anyway name nothing more
named_zeros-same : (F : Flat) (p first n : ℕ) (s : Space) (cell : ℕ → Cell) → ((i z : ℕ) → zero_of (cell i) ≡ Some z → is_named (with_space F p (without_range s first n)) z ≡ true) → (z : ℕ) → is_named (with_space F p (with_cells s first n cell)) z ≡ is_named (with_space F p (without_range s first n)) z
named_zeros-same F p first n s cell each z = same_tests _ _ (λ is. names_from F p first n z s cell (is_named (with_space F p (without_range s first n)) z ≡ true) is (λ i. each i z) (λ old. old)) (names_stay F p first n z s cell)

or_cases : (a b : Bool) (P : Type 0) → (a || b) ≡ true → (a ≡ true → P) → (b ≡ true → P) → P
or_cases true b P is left right = left refl
or_cases false b P is left right = right is

-- new cells that all name k add that name
named_zeros-more : (F : Flat) (p first n k : ℕ) (s : Space) (cell : ℕ → Cell) → 1 ≤ n → ((i : ℕ) → zero_of (cell i) ≡ Some k) → (z : ℕ) → is_named (with_space F p (with_cells s first n cell)) z ≡ ((z == k) || is_named (with_space F p (without_range s first n)) z)
named_zeros-more F p first n k s cell some each z = same_tests _ _
    (λ is. names_from F p first n z s cell (((z == k) || is_named (with_space F p (without_range s first n)) z) ≡ true) is
    (λ i at. or_first (z == k) _ (eq-eqb z k (let both : Some z ≡ Some k = sym at ∙ each i in cc)))
    (or_second (z == k) (is_named (with_space F p (without_range s first n)) z)))
    (λ is. or_cases (z == k) (is_named (with_space F p (without_range s first n)) z) (is_named (with_space F p (with_cells s first n cell)) z ≡ true) is
    (λ same.
    let inside = in_range-is first n first (omega arith) (omega arith) in
    let stands : map.get (with_cells s first n cell) first ≡ Some (cell (first - first)) = get-with_cells s first n cell first ∙ ap (λ b. cond b (Some (cell (first - first))) (map.get s first)) inside in
    named_zeros-from_cell (with_space F p (with_cells s first n cell)) p first z (cell (first - first)) (cell_at-here F p first (with_cells s first n cell) ∙ stands) (each (first - first) ∙ ap (λ x. Some x) (sym (eqb-true z k same))))
    (names_stay F p first n z s cell))

insert_twice : {X : Type 0} (m : map.FinMap nat_cmp X) (k : ℕ) (v w : X) → map.insert (map.insert m k v) k w ≡ map.insert m k w
insert_twice m k v w = same_maps _ _ (λ q. get-insert (map.insert m k v) k w q ∙ ap (cond (eqb q k) (Some w)) (get-insert m k v q) ∙ over (eqb q k) (Some w) (Some v) (map.get m q) ∙ sym (get-insert m k w q))

-- the spaces without the range that a Map takes
cleared_spaces : (F : Flat) (p : ℕ) (place : Place) (n first : ℕ) → IsSome (space_of F p) → first_page (cells_of (without_replaced F p place n) p) place n ≡ Some first → (without_replaced F p place n).spaces ≡ map.insert F.spaces p (without_range (cells_of F p) first n)
cleared_spaces F p (At a) n first alive is = let at : page a ≡ first = cc in ap (λ k. map.insert F.spaces p (without_range (cells_of F p) k n)) at
cleared_spaces F p Any n first alive is =
    sym (ap (map.insert F.spaces p) (without_range-free (cells_of F p) first n (λ q inside. gap-free (cells_of F p) n first is q (in_range-low first n q inside) (in_range-high first n q inside))) ∙ put_back F p alive)

pub zeros_cleared : (F : Flat) (p : ℕ) (place : Place) (n : ℕ) → (without_replaced F p place n).zeros ≡ F.zeros
zeros_cleared F p (At a) n = refl
zeros_cleared F p Any n = refl

-- names depend on the spaces alone
pub named_by_spaces : (F G : Flat) (z : ℕ) → F.spaces ≡ G.spaces → is_named F z ≡ is_named G z
named_by_spaces F G z same = ap (λ spaces. list_any (λ y. z == y) (flat_map (λ space. filter_map zero_of (map.values space)) (map.values spaces))) same

-- what a Map leaves before zero objects go
abbrev pub unswept : Flat → ℕ → Request → ℕ → Flat
unswept F p r first = with_space (with_object (without_replaced F p r.place (pages_in r.len)) r.kind r.object (pages_in r.len)) p (with_cells (cells_of (without_replaced F p r.place (pages_in r.len)) p) first (pages_in r.len) (new_cell F (without_replaced F p r.place (pages_in r.len)) r))

-- the parts of a Map: F with the range taken out, and the new cells
abbrev pub taken_out : Flat → ℕ → Request → ℕ → Flat
taken_out F p r first = with_space F p (without_range (cells_of F p) first (pages_in r.len))

abbrev pub asked_cell : Flat → ℕ → Request → ℕ → Cell
asked_cell F p r = new_cell F (without_replaced F p r.place (pages_in r.len)) r

abbrev pub put_in : Flat → ℕ → Request → ℕ → Flat
put_in F p r first = with_space F p (with_cells (cells_of F p) first (pages_in r.len) (asked_cell F p r))

with_cells_taken : (F : Flat) (p : ℕ) (n first : ℕ) (cell : ℕ → Cell) (C : Flat) → C.spaces ≡ map.insert F.spaces p (without_range (cells_of F p) first n) → map.insert C.spaces p (with_cells (cells_of C p) first n cell) ≡ map.insert F.spaces p (with_cells (cells_of F p) first n cell)
with_cells_taken F p n first cell C same =
    ap (λ spaces. map.insert spaces p (with_cells (unwrap_or (map.get spaces p) map.empty) first n cell)) same
    ∙ ap (λ s. map.insert (map.insert F.spaces p (without_range (cells_of F p) first n)) p (with_cells s first n cell)) (cells_of-with_space F p (without_range (cells_of F p) first n))
    ∙ insert_twice F.spaces p (without_range (cells_of F p) first n) (with_cells (without_range (cells_of F p) first n) first n cell)
    ∙ ap (map.insert F.spaces p) (with_cells-without_range (cells_of F p) first n cell)

-- the range of a Map begins here
abbrev pub Begins : Flat → ℕ → Request → ℕ → Type 0
Begins F p r first = first_page (cells_of (without_replaced F p r.place (pages_in r.len)) p) r.place (pages_in r.len) ≡ Some first

pub spaces_put_in : (F : Flat) (p : ℕ) (r : Request) (first : ℕ) → IsSome (space_of F p) → Begins F p r first → (unswept F p r first).spaces ≡ (put_in F p r first).spaces
spaces_put_in F p r first alive is =
    spaces-with_mapping F p r first
    ∙ with_cells_taken F p (pages_in r.len) first (asked_cell F p r) (without_replaced F p r.place (pages_in r.len)) (cleared_spaces F p r.place (pages_in r.len) first alive is)

-- the private cells of a Map
private_put_in : (F : Flat) (p : ℕ) (r : Request) (first : ℕ) → IsSome (space_of F p) → total private_cells (put_in F p r first).spaces ≡ sum_to (λ i. slots_for (asked_cell F p r i)) (pages_in r.len) + total private_cells (taken_out F p r first).spaces
private_put_in F p r first alive =
    let new = private-with_space F p (with_cells (cells_of F p) first (pages_in r.len) (asked_cell F p r)) alive in
    let old = private-with_space F p (without_range (cells_of F p) first (pages_in r.len)) alive in
    let cells = private-with_cells (cells_of F p) first (pages_in r.len) (asked_cell F p r) in
    omega arith

reserved_put_in : (F : Flat) (p : ℕ) (r : Request) (first : ℕ) → IsSome (space_of F p) → Begins F p r first → reserved (with_mapping F p r first) ≡ sum_to (λ i. slots_for (asked_cell F p r i)) (pages_in r.len) + total private_cells (taken_out F p r first).spaces + total length (map.retain_keys (unswept F p r first).zeros (is_named (put_in F p r first)))
reserved_put_in F p r first alive is =
    let spaces = spaces_put_in F p r first alive is in
    let names = retain-alike (unswept F p r first).zeros (is_named (unswept F p r first)) (is_named (put_in F p r first)) (λ z. named_by_spaces (unswept F p r first) (put_in F p r first) z spaces) in
    reserved-without_unnamed (unswept F p r first)
    ∙ ap (λ s. total private_cells s + total length (map.retain_keys (unswept F p r first).zeros (is_named (unswept F p r first)))) spaces
    ∙ ap (λ z. total private_cells (put_in F p r first).spaces + total length z) names
    ∙ ap (λ k. k + total length (map.retain_keys (unswept F p r first).zeros (is_named (put_in F p r first)))) (private_put_in F p r first alive)

reserved_taken_out : (F : Flat) (p : ℕ) (r : Request) (first : ℕ) → reserved (without_pages F p first (pages_in r.len)) ≡ total private_cells (taken_out F p r first).spaces + total length (map.retain_keys F.zeros (is_named (taken_out F p r first)))
reserved_taken_out F p r first = reserved-without_unnamed (taken_out F p r first)

not_zero : (len : ℕ) → not (len == 0) ≡ true → 1 ≤ pages_in len
not_zero len is = elim (cases_eq len 0) [ inl none ↦ absurd (let e = sym (ap not (eq-eqb len 0 none)) ∙ is in cc) | inr apart ↦ omega (arith, apart) ]

place_some : (place : Place) (len : ℕ) → is_place place len ≡ true → 1 ≤ pages_in len
place_some (At a) len is =
    let front = both_true _ _ is in
    let middle = both_true _ _ front.0 in
    not_zero len (both_true _ _ middle.0).1
place_some Any len is = not_zero len is

-- a valid mapping has a page
pub some_pages : (r : Request) → is_valid r ≡ true → 1 ≤ pages_in r.len
some_pages r valid = place_some r.place r.len (both_true _ _ (both_true _ _ valid).0).0

-- a mapping that makes no zero object and names none that isn't named adds its private cells
reserved_same_names : (F : Flat) (p : ℕ) (r : Request) (first : ℕ) → IsSome (space_of F p) → Begins F p r first → (unswept F p r first).zeros ≡ F.zeros → ((i z : ℕ) → zero_of (asked_cell F p r i) ≡ Some z → is_named (taken_out F p r first) z ≡ true)
    → reserved (with_mapping F p r first) ≡ sum_to (λ i. slots_for (asked_cell F p r i)) (pages_in r.len) + reserved (without_pages F p first (pages_in r.len))
reserved_same_names F p r first alive is zeros each =
    let kept = ap (λ z. map.retain_keys z (is_named (put_in F p r first))) zeros ∙ retain-alike F.zeros (is_named (put_in F p r first)) (is_named (taken_out F p r first)) (named_zeros-same F p first (pages_in r.len) (cells_of F p) (asked_cell F p r) each) in
    let all = reserved_put_in F p r first alive is in
    let rest = reserved_taken_out F p r first in
    let zero_parts = ap (total length) kept in
    omega arith

both_passed : {X : Type 0} (a b : Bool) (v : X) (x : Option X) → (a ≡ true → x ≡ Some v) → cond (a || b) x None ≡ cond a (Some v) (cond b x None)
both_passed true b v x is = is refl
both_passed false b v x is = refl

-- what is kept of a map by a test that one key more passes
retain-more : {X : Type 0} (m : map.FinMap nat_cmp X) (k : ℕ) (v : X) (s t : ℕ → Bool) → map.get m k ≡ Some v → ((z : ℕ) → t z ≡ ((z == k) || s z)) → map.retain_keys m t ≡ map.insert (map.retain_keys m s) k v
retain-more m k v s t at is = same_maps _ _ (λ q.
    get-retain_keys m t q ∙ ap (λ b. cond b (map.get m q) None) (is q) ∙ both_passed (q == k) (s q) v (map.get m q) (λ same. ap (map.get m) (eqb-true q k same) ∙ at)
    ∙ ap (cond (q == k) (Some v)) (sym (get-retain_keys m s q)) ∙ sym (get-insert (map.retain_keys m s) k v q))

-- a mapping that makes no zero object and names one that isn't named any more adds its private cells and the object's pages
reserved_name_back : (F : Flat) (p : ℕ) (r : Request) (first k : ℕ) (pages : List Page) → IsSome (space_of F p) → is_valid r ≡ true → Begins F p r first → (unswept F p r first).zeros ≡ F.zeros → map.get F.zeros k ≡ Some pages → is_named (taken_out F p r first) k ≡ false → ((i : ℕ) → zero_of (asked_cell F p r i) ≡ Some k)
    → reserved (with_mapping F p r first) ≡ sum_to (λ i. slots_for (asked_cell F p r i)) (pages_in r.len) + reserved (without_pages F p first (pages_in r.len)) + length pages
reserved_name_back F p r first k pages alive valid is zeros there unnamed each =
    let more = named_zeros-more F p first (pages_in r.len) k (cells_of F p) (asked_cell F p r) (some_pages r valid) each in
    let kept = ap (λ z. map.retain_keys z (is_named (put_in F p r first))) zeros ∙ retain-more F.zeros k pages (is_named (taken_out F p r first)) (is_named (put_in F p r first)) there more in
    let absent : map.get (map.retain_keys F.zeros (is_named (taken_out F p r first))) k ≡ None = get-retain_keys F.zeros (is_named (taken_out F p r first)) k ∙ ap (λ b. cond b (map.get F.zeros k) None) unnamed in
    let zero_parts = ap (total length) kept ∙ total-insert length (map.retain_keys F.zeros (is_named (taken_out F p r first))) k pages absent in
    let all = reserved_put_in F p r first alive is in
    let rest = reserved_taken_out F p r first in
    omega arith

names_object : (F C : Flat) (r : Request) (i z : ℕ) (k : Kind) (o : Object) (P : ℕ → Type 0) → (k ≡ Shared → o ≡ object.NewZero → ⊥) → ((y : ℕ) → o ≡ object.Zero y → P y) → (elim (object_for C k o) as (λ x. Option ℕ) [ object.Zero y ↦ Some y | object.File f ↦ None | object.NewZero ↦ None ]) ≡ Some z → P z
names_object F C r i z Shared (object.File f) P never each is = absurd cc
names_object F C r i z Shared object.NewZero P never each is = absurd (never refl refl)
names_object F C r i z Shared (object.Zero y) P never each is = let same : y ≡ z = cc in each z (ap (λ x. object.Zero x) same)
names_object F C r i z Private (object.File f) P never each is = absurd cc
names_object F C r i z Private object.NewZero P never each is = absurd cc
names_object F C r i z Private (object.Zero y) P never each is = let same : y ≡ z = cc in each z (ap (λ x. object.Zero x) same)

zeros_object : (C : Flat) (k : Kind) (o : Object) (n : ℕ) → (k ≡ Shared → o ≡ object.NewZero → ⊥) → (with_object C k o n).zeros ≡ C.zeros
zeros_object C Shared (object.File f) n never = refl
zeros_object C Shared object.NewZero n never = absurd (never refl refl)
zeros_object C Shared (object.Zero z) n never = refl
zeros_object C Private o n never = refl

slots_of_kind : (k : Kind) → (k ≡ Private → (elim k as (λ x. ℕ) [ Private ↦ 1 | Shared ↦ 0 ]) ≡ 1) × (k ≡ Shared → (elim k as (λ x. ℕ) [ Private ↦ 1 | Shared ↦ 0 ]) ≡ 0)
slots_of_kind Shared = (λ is. absurd cc, λ is. refl)
slots_of_kind Private = (λ is. refl, λ is. absurd cc)

object_for-zero : (C : Flat) (k : Kind) (o : Object) (z : ℕ) → o ≡ object.Zero z → (elim (object_for C k o) as (λ x. Option ℕ) [ object.Zero y ↦ Some y | object.File f ↦ None | object.NewZero ↦ None ]) ≡ Some z
object_for-zero C Shared (object.Zero y) z is = let same : y ≡ z = cc in ap (λ k. Some k) same
object_for-zero C Shared (object.File f) z is = absurd cc
object_for-zero C Shared object.NewZero z is = absurd cc
object_for-zero C Private (object.Zero y) z is = let same : y ≡ z = cc in ap (λ k. Some k) same
object_for-zero C Private (object.File f) z is = absurd cc
object_for-zero C Private object.NewZero z is = absurd cc

pub zero_there : (F : Flat) (z : ℕ) → is_there F (object.Zero z) ≡ true → (pages : List Page) × (map.get F.zeros z ≡ Some pages)
zero_there F z is = by_zero (map.get F.zeros z) is
  where
    by_zero : (o : Option (List Page)) → is_some o ≡ true → (pages : List Page) × (o ≡ Some pages)
    by_zero None is = absurd cc
    by_zero (Some pages) is = (pages, refl)

-- what a mapping that makes no zero object reserves
reserved_plain : (F : Flat) (p : ℕ) (r : Request) (first : ℕ) → IsSome (space_of F p) → IsPlaced F p r first → (r.kind ≡ Shared → r.object ≡ object.NewZero → ⊥)
    → reserved (with_mapping F p r first) ≡ sum_to (λ i. slots_for (asked_cell F p r i)) (pages_in r.len) + reserved (without_pages F p first (pages_in r.len)) + zero_pages_back F (without_pages F p first (pages_in r.len)) r.object
reserved_plain F p r first alive spot never = by_object r.object refl
  where
    zeros_are : (unswept F p r first).zeros ≡ F.zeros
    zeros_are = let C = without_replaced F p r.place (pages_in r.len) in zeros_object C r.kind r.object (pages_in r.len) never ∙ zeros_cleared F p r.place (pages_in r.len)

    sum : ℕ
    sum = sum_to (λ i. slots_for (asked_cell F p r i)) (pages_in r.len) + reserved (without_pages F p first (pages_in r.len))

    none_back : ((z : ℕ) → r.object ≡ object.Zero z → is_named (taken_out F p r first) z ≡ true) → reserved (with_mapping F p r first) ≡ sum + 0
    none_back each =
        let C = without_replaced F p r.place (pages_in r.len) in
        let same = reserved_same_names F p r first alive spot.begin zeros_are (λ i z at. names_object F C r i z r.kind r.object (λ y. is_named (taken_out F p r first) y ≡ true) never each at) in
        omega (arith, same)

    by_name : (z : ℕ) (b : Bool) → r.object ≡ object.Zero z → is_named (without_pages F p first (pages_in r.len)) z ≡ b → reserved (with_mapping F p r first) ≡ sum + cond b 0 (length (unwrap_or (map.get F.zeros z) []))
    by_name z true is names = none_back (λ y at. let same : z ≡ y = let both : object.Zero z ≡ object.Zero y = sym is ∙ at in cc in ap (is_named (taken_out F p r first)) (sym same) ∙ names)
    by_name z false is names =
        let C = without_replaced F p r.place (pages_in r.len) in
        let pages = zero_there F z (ap (is_there F) (sym is) ∙ spot.there) in
        reserved_name_back F p r first z pages.0 alive spot.valid spot.begin zeros_are pages.1 names (λ i. object_for-zero C r.kind r.object z is)
        ∙ ap (λ (o : Option (List Page)). sum + length (unwrap_or o [])) (sym pages.1)

    by_object : (o : Object) → r.object ≡ o → reserved (with_mapping F p r first) ≡ sum + zero_pages_back F (without_pages F p first (pages_in r.len)) o
    by_object (object.Zero z) is = by_name z (is_named (without_pages F p first (pages_in r.len)) z) is refl
    by_object (object.File f) is = none_back (λ z at. absurd (let both = sym is ∙ at in cc))
    by_object object.NewZero is = none_back (λ z at. absurd (let both = sym is ∙ at in cc))

pub reserved-private_map : (F : Flat) (p : ℕ) (r : Request) (first : ℕ) → IsSome (space_of F p) → IsPlaced F p r first → r.kind ≡ Private → reserved (with_mapping F p r first) ≡ reserved (without_pages F p first (pages_in r.len)) + pages_in r.len + zero_pages_back F (without_pages F p first (pages_in r.len)) r.object
reserved-private_map F p r first alive spot private =
    let sum = reserved_plain F p r first alive spot (λ shared _. absurd (let both : Private ≡ Shared = sym private ∙ shared in cc)) in
    let pages = (sum_to-same (λ i. slots_for (asked_cell F p r i)) 1 (pages_in r.len) (λ i. (slots_of_kind r.kind).0 private)).0 refl in
    omega arith

pub reserved-shared_map : (F : Flat) (p : ℕ) (r : Request) (first : ℕ) → IsSome (space_of F p) → IsPlaced F p r first → r.kind ≡ Shared → (r.object ≡ object.NewZero → ⊥) → reserved (with_mapping F p r first) ≡ reserved (without_pages F p first (pages_in r.len)) + zero_pages_back F (without_pages F p first (pages_in r.len)) r.object
reserved-shared_map F p r first alive spot shared never =
    let sum = reserved_plain F p r first alive spot (λ _ new. never new) in
    let none = (sum_to-same (λ i. slots_for (asked_cell F p r i)) 0 (pages_in r.len) (λ i. (slots_of_kind r.kind).1 shared)).1 refl in
    omega arith

shed : {X : Type 0} (a b : Bool) (v : X) (y : Option X) → cond (a || b) (cond a (Some v) y) None ≡ cond a (Some v) (cond b y None)
shed true b v y = refl
shed false true v y = refl
shed false false v y = refl

-- what is kept of a map with k put in, by a test that k and the rest pass
pub retain-insert : {X : Type 0} (m : map.FinMap nat_cmp X) (k : ℕ) (v : X) (s t : ℕ → Bool) → ((z : ℕ) → t z ≡ ((z == k) || s z)) → map.retain_keys (map.insert m k v) t ≡ map.insert (map.retain_keys m s) k v
retain-insert m k v s t is = same_maps _ _ (λ q.
    get-retain_keys (map.insert m k v) t q ∙ ap (λ b. cond b (map.get (map.insert m k v) q) None) (is q) ∙ ap (λ o. cond ((q == k) || s q) o None) (get-insert m k v q)
    ∙ shed (q == k) (s q) v (map.get m q) ∙ ap (cond (q == k) (Some v)) (sym (get-retain_keys m s q)) ∙ sym (get-insert (map.retain_keys m s) k v q))

names_new : (F C : Flat) (r : Request) (k : Kind) (o : Object) → k ≡ Shared → o ≡ object.NewZero → (elim (object_for C k o) as (λ x. Option ℕ) [ object.Zero y ↦ Some y | object.File f ↦ None | object.NewZero ↦ None ]) ≡ Some (new_number C)
names_new F C r Shared object.NewZero shared new = refl
names_new F C r Shared (object.File f) shared new = absurd cc
names_new F C r Shared (object.Zero z) shared new = absurd cc
names_new F C r Private o shared new = absurd cc

zeros_new : (C : Flat) (k : Kind) (o : Object) (n : ℕ) → k ≡ Shared → o ≡ object.NewZero → (with_object C k o n).zeros ≡ map.insert C.zeros (new_number C) (replicate n zero_page)
zeros_new C Shared object.NewZero n shared new = refl
zeros_new C Shared (object.File f) n shared new = absurd cc
zeros_new C Shared (object.Zero z) n shared new = absurd cc
zeros_new C Private o n shared new = absurd cc

pub reserved-new_zero_map : (F : Flat) (p : ℕ) (r : Request) (first : ℕ) → IsSome (space_of F p) → IsPlaced F p r first → r.kind ≡ Shared → r.object ≡ object.NewZero → reserved (with_mapping F p r first) ≡ reserved (without_pages F p first (pages_in r.len)) + pages_in r.len
reserved-new_zero_map F p r first alive spot shared new =
    let C = without_replaced F p r.place (pages_in r.len) in
    let k = new_number C in
    let pages : List Page = replicate (pages_in r.len) zero_page in
    let zeros = zeros_new C r.kind r.object (pages_in r.len) shared new ∙ ap (λ z. map.insert z k pages) (zeros_cleared F p r.place (pages_in r.len)) in
    let more = named_zeros-more F p first (pages_in r.len) k (cells_of F p) (asked_cell F p r) (some_pages r spot.valid) (λ i. names_new F C r r.kind r.object shared new) in
    let kept = ap (λ z. map.retain_keys z (is_named (put_in F p r first))) zeros ∙ retain-insert F.zeros k pages (is_named (taken_out F p r first)) (is_named (put_in F p r first)) more in
    let unnamed : is_named (taken_out F p r first) k ≡ false = sym (named_by_spaces C (taken_out F p r first) k (cleared_spaces F p r.place (pages_in r.len) first alive spot.begin)) ∙ new_number-new C in
    let absent : map.get (map.retain_keys F.zeros (is_named (taken_out F p r first))) k ≡ None = get-retain_keys F.zeros (is_named (taken_out F p r first)) k ∙ ap (λ b. cond b (map.get F.zeros k) None) unnamed in
    let zero_parts : total length (map.retain_keys (unswept F p r first).zeros (is_named (put_in F p r first))) ≡ length pages + total length (map.retain_keys F.zeros (is_named (taken_out F p r first))) = ap (total length) kept ∙ total-insert length (map.retain_keys F.zeros (is_named (taken_out F p r first))) k pages absent in
    let size : length pages ≡ pages_in r.len = length-replicate (pages_in r.len) zero_page in
    let all = reserved_put_in F p r first alive spot.begin in
    let rest = reserved_taken_out F p r first in
    let none = (sum_to-same (λ i. slots_for (asked_cell F p r i)) 0 (pages_in r.len) (λ i. (slots_of_kind r.kind).1 shared)).1 refl in
    omega arith

pub names_before : (F : Flat) (p first n z : ℕ) → IsSome (space_of F p) → is_named (with_space F p (without_range (cells_of F p) first n)) z ≡ true → is_named F z ≡ true
names_before F p first n z alive is =
    let m = named_zeros-to_cell (with_space F p (without_range (cells_of F p) first n)) z is in
    elim (cases_eq m.process p) [
      | inl here ↦
          let at : map.get (without_range (cells_of F p) first n) m.page ≡ Some m.cell = sym (cell_at-here F p m.page (without_range (cells_of F p) first n)) ∙ ap (λ x. cell_at (with_space F p (without_range (cells_of F p) first n)) x m.page) (sym here) ∙ m.stands in
          let old : map.get (cells_of F p) m.page ≡ Some m.cell = shown_through (is_in_range first n m.page) (map.get (cells_of F p) m.page) m.cell (sym (get-without_range (cells_of F p) first n m.page) ∙ at) in
          named_zeros-from_cell F p m.page z m.cell (get-cells_of F p m.page ∙ old) m.names
      | inr apart ↦ named_zeros-from_cell F m.process m.page z m.cell (sym (cell_at-other F p m.process m.page (without_range (cells_of F p) first n) apart) ∙ m.stands) m.names
    ]
  where
    shown_through : (b : Bool) (x : Option Cell) (c : Cell) → cond b None x ≡ Some c → x ≡ Some c
    shown_through true x c is = absurd cc
    shown_through false x c is = is

pub reserved-unmap : (F : Flat) (p first n : ℕ) → IsSome (space_of F p) → reserved (without_pages F p first n) + private_cells_at F p first n + zero_pages_gone F (without_pages F p first n) ≡ reserved F
reserved-unmap F p first n alive =
    let U = with_space F p (without_range (cells_of F p) first n) in
    let spaces = private-with_space F p (without_range (cells_of F p) first n) alive in
    let cells = total-without_range slots_for (cells_of F p) first n in
    let zeros = total-retain_keys length (without_unnamed F).zeros (is_named U) in
    let kept = ap (total length) (retain-retain F.zeros (is_named U) (is_named F) (λ z is. names_before F p first n z alive is)) in
    let swept_out : reserved (without_pages F p first n) ≡ reserved U = reserved-without_unnamed U in
    omega arith

not_alive : (F : Flat) (child : ℕ) (o : Option Space) → space_of F child ≡ o → AreBorn F → IsFalse (set.contains F.born child) → space_of F child ≡ None
not_alive F child None is born unborn = is
not_alive F child (Some space) is born unborn = absurd (let was = born child (ap is_some is) in let both : true ≡ false = sym was ∙ unborn in cc)

pub forked_names : (F : Flat) (p child z : ℕ) → space_of F child ≡ None → is_named (with_child F p child) z ≡ is_named F z
forked_names F p child z none = same_tests _ _
    (λ is.
    let m = named_zeros-to_cell (with_child F p child) z is in
    elim (cases_eq m.process child) [
      | inl here ↦ named_zeros-from_cell F p m.page z m.cell (get-cells_of F p m.page ∙ sym (cell_at-here F child m.page (cells_of F p)) ∙ ap (λ x. cell_at (with_space F child (cells_of F p)) x m.page) (sym here) ∙ m.stands) m.names
      | inr apart ↦ named_zeros-from_cell F m.process m.page z m.cell (sym (cell_at-other F child m.process m.page (cells_of F p) apart) ∙ m.stands) m.names
    ])
    (λ is.
    let m = named_zeros-to_cell F z is in
    elim (cases_eq m.process child) [
      | inl here ↦ absurd (let both : None ≡ Some m.cell = sym (ap (option_and_then (λ space. map.get space m.page)) none) ∙ ap (λ x. cell_at F x m.page) (sym here) ∙ m.stands in cc)
      | inr apart ↦ named_zeros-from_cell (with_child F p child) m.process m.page z m.cell (cell_at-other F child m.process m.page (cells_of F p) apart ∙ m.stands) m.names
    ])

pub reserved-fork : (F : Flat) (p child : ℕ) → AreBorn F → IsSome (space_of F p) → IsFalse (set.contains F.born child) → reserved (with_child F p child) ≡ reserved F + private_cells (cells_of F p)
reserved-fork F p child born alive unborn =
    let none = not_alive F child (space_of F child) refl born unborn in
    let cells = total-insert private_cells F.spaces child (cells_of F p) none in
    let zeros = ap (total length) (retain-alike F.zeros (is_named (with_child F p child)) (is_named F) (λ z. forked_names F p child z none)) in
    omega arith

pub names_before_exit : (F : Flat) (p z : ℕ) → is_named (record F { spaces = map.remove F.spaces p }) z ≡ true → is_named F z ≡ true
names_before_exit F p z is =
    let E = record F { spaces = map.remove F.spaces p } in
    let m = named_zeros-to_cell E z is in
    elim (cases_eq m.process p) [
      | inl here ↦ absurd (let gone = ap (option_and_then (λ space. map.get space m.page)) (ap (map.get (map.remove F.spaces p)) here ∙ get-remove_here F.spaces p) in let both : None ≡ Some m.cell = sym gone ∙ m.stands in cc)
      | inr apart ↦ named_zeros-from_cell F m.process m.page z m.cell (sym (ap (option_and_then (λ space. map.get space m.page)) (get-remove_apart F.spaces p m.process apart)) ∙ m.stands) m.names
    ]

pub reserved-exit : (F : Flat) (p : ℕ) → IsSome (space_of F p) → reserved (without_process F p) + private_cells (cells_of F p) + zero_pages_gone F (without_process F p) ≡ reserved F
reserved-exit F p alive =
    let E = record F { spaces = map.remove F.spaces p } in
    let cells = total-remove private_cells F.spaces p (cells_of F p) (put_back F p alive) in
    let zeros = total-retain_keys length (without_unnamed F).zeros (is_named E) in
    let kept = ap (total length) (retain-retain F.zeros (is_named E) (is_named F) (λ z is. names_before_exit F p z is)) in
    let swept_out : reserved (without_process F p) ≡ reserved E = reserved-without_unnamed E in
    omega arith

pub placed-map_result : (F : Flat) (p : ℕ) (r : Request) (first : ℕ) (G : Flat) → map_result F p r ≡ Ok (first, G) → IsPlaced F p r first × (G ≡ with_mapping F p r first)
placed-map_result F p r first G is = let m = mapped-map_result F p r first G is in (record { valid = m.valid; there = m.there; begin = m.first_is }, m.after)
