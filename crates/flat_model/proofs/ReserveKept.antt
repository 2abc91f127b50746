-- Which calls keep the reservation.
use Rattle.flat_model.proofs.WellFormed.{by_signal, by_refusal}
use Rattle.std.proofs.Common.{◌≡◌, ℕ, ◌+◌, ◌<◌, ◌||◌, Bool, true, false, cond, List, [], ◌∷◌, map, length, Option, Some, None, Result, Ok, Err, refl, sym, ap, subst, ◌∙◌, inl, inr, arith}
use Rattle.std.specs.Prelude.{◌==◌, option_map, unwrap_or, slice_set, sum_by, IsSome}
use Rattle.std.specs.Ordering.{nat_cmp}
use Rattle.std.specs.FinMap as finite
use Rattle.std.proofs.lemmas.Bool.{cases_eq, cases_lt, eqb-true}
use Rattle.std.proofs.lemmas.List.{length-set}
use Rattle.std.proofs.lemmas.List.Sums.{sum_by-cons}
use Rattle.vm_types.specs.declared.prot.Prot.{Prot}
use Rattle.vm_types.specs.declared.call.Call.{Call}
use Rattle.vm_types.specs.declared.call.Call.TheVariants.{Load, Store, Map, Unmap, Protect, Sync, Read, Write, Truncate, Fork, Exit}
use Rattle.vm_types.specs.declared.call.Kind.{Kind}
use Rattle.vm_types.specs.declared.call.Kind.TheVariants.{Shared, Private}
use Rattle.vm_types.specs.declared.call.Object.{Object}
use Rattle.vm_types.specs.declared.call.Object.TheVariants as object
use Rattle.vm_types.specs.declared.call.Errno.{Errno}
use Rattle.vm_types.specs.declared.call.Errno.TheVariants as errno
use Rattle.vm_types.specs.declared.call.Reply.TheVariants as reply
use Rattle.vm_types.specs.declared.call.Signal.{Signal}
use Rattle.vm_types.specs.Prot.{can_read, can_write}
use Rattle.flat_model.specs.Words.{Page, page, pages_in, word_at, word_put}
use Rattle.flat_model.specs.Flat.{Cell, Flat, Space, space_of, cell_at, zero_of, is_named, slots_for, private_cells, reserved}
use Rattle.flat_model.specs.Refusals.{◌>>◌, check, Effect, or_signal, or_refused, done_effect}
use Rattle.flat_model.specs.Access.{access_target, with_page, with_space, with_cell, with_page_stored}
use Rattle.flat_model.specs.Space.{is_in_range, with_prots}
use Rattle.flat_model.specs.Mapping.{cells_of, valid_range, may_have}
use Rattle.flat_model.specs.Parts.{read_line, file_of_length, with_part, with_file_at, existing_file, room_for}
use Rattle.flat_model.specs.Step.{effect}
use Rattle.flat_model.specs.ReserveLaws.{KeepsReservation, Reservation}
use Rattle.flat_model.proofs.Entries.{Above, Above-entries, find_rest, find_below, first_found}
use Rattle.flat_model.proofs.Ranges.{get-insert, get-insert_here, get-insert_apart, get-retain_keys, get-with_prots}
use Rattle.flat_model.proofs.Sums.{total, total-insert}
use Rattle.flat_model.proofs.Named.{named_zeros-from_cell, named_zeros-to_cell}
use Rattle.flat_model.proofs.Mappings.{get-cells_of}
use Rattle.flat_model.proofs.Stores.{is_met}
use Rattle.flat_model.proofs.Reserve.{same_tests, retain-alike, retain-insert, private-with_space, cell_at-here, cell_at-other, reserved-unmap, reserved-private_map, reserved-new_zero_map, reserved-shared_map, placed-map_result, reserved-fork, reserved-exit}

-- SUMS OF ALIKE MAPS
none_some : {X Y : Type 0} (f : X → Y) (o : Option X) (v : X) → o ≡ None → option_map f o ≡ Some (f v) → ⊥
none_some f None v none is = cc
none_some f (Some x) v none is = cc

weight : {X : Type 0} (f : X → ℕ) (o : Option X) (v : X) → option_map f o ≡ Some (f v) → (x : X) × (o ≡ Some x) × (f x ≡ f v)
weight f None v is = absurd cc
weight f (Some x) v is = (x, refl, cc)

sum_alike : {X : Type 0} (f : X → ℕ) (a : ℕ) (es ds : List (ℕ × X)) → Above a es → Above a ds → ((q : ℕ) → option_map f (finite.find nat_cmp q es) ≡ option_map f (finite.find nat_cmp q ds)) → sum_by f (map (λ e. e.1) es) ≡ sum_by f (map (λ e. e.1) ds)
sum_alike f a [] [] left right alike = refl
sum_alike f a [] (d ∷ ds) left right alike = absurd (none_some f (finite.find nat_cmp d.0 []) d.1 refl (alike d.0 ∙ ap (option_map f) (first_found d ds)))
sum_alike f a (e ∷ es) [] left right alike = absurd (none_some f (finite.find nat_cmp e.0 []) e.1 refl (sym (alike e.0) ∙ ap (option_map f) (first_found e es)))
sum_alike f a (e ∷ es) (d ∷ ds) left right alike =
    let here : option_map f (finite.find nat_cmp e.0 (d ∷ ds)) ≡ Some (f e.1) = sym (alike e.0) ∙ ap (option_map f) (first_found e es) in
    let there : option_map f (finite.find nat_cmp d.0 (e ∷ es)) ≡ Some (f d.1) = alike d.0 ∙ ap (option_map f) (first_found d ds) in
    elim (cases_lt e.0 d.0) [
      | inl less ↦ absurd (none_some f (finite.find nat_cmp e.0 (d ∷ ds)) e.1 (find_below e.0 d.0 (d ∷ ds) less (omega arith, right.1)) here)
      | inr le ↦ elim (cases_lt d.0 e.0) [
        | inl less ↦ absurd (none_some f (finite.find nat_cmp d.0 (e ∷ es)) d.1 (find_below d.0 e.0 (e ∷ es) less (omega arith, left.1)) there)
        | inr back ↦
            let same : e.0 ≡ d.0 = omega arith in
            let value : f d.1 ≡ f e.1 = let both : Some (f d.1) ≡ Some (f e.1) = ap (option_map f) (sym (first_found d ds)) ∙ ap (λ k. option_map f (finite.find nat_cmp k (d ∷ ds))) (sym same) ∙ here in cc in
            let rest = sum_alike f (e.0 + 1) es ds left.1 (subst (λ (k : ℕ). Above (k + 1) ds) (sym same) right.1) (λ q. elim (cases_eq q e.0) [
              | inl at ↦
                  let low : e.0 < e.0 + 1 = omega arith in
                  ap (λ k. option_map f (finite.find nat_cmp k es)) at ∙ ap (option_map f) (find_below e.0 (e.0 + 1) es low left.1)
                  ∙ sym (ap (λ k. option_map f (finite.find nat_cmp k ds)) at ∙ ap (option_map f) (find_below e.0 (e.0 + 1) ds low (subst (λ (k : ℕ). Above (k + 1) ds) (sym same) right.1)))
              | inr apart ↦ ap (option_map f) (sym (find_rest q e es apart)) ∙ alike q ∙ ap (option_map f) (find_rest q d ds (λ is. apart (is ∙ sym same)))
            ]) in
            omega (arith, sum_by-cons f e.1 (map (λ e. e.1) es), sum_by-cons f d.1 (map (λ e. e.1) ds), rest, value)
      ]
    ]

-- the sum over a map's values is told by what f gives at each key
pub total-alike : {X : Type 0} (f : X → ℕ) (m n : finite.FinMap nat_cmp X) → ((q : ℕ) → option_map f (finite.get m q) ≡ option_map f (finite.get n q)) → total f m ≡ total f n
total-alike f m n alike = sum_alike f 0 (finite.entries m) (finite.entries n) (Above-entries m) (Above-entries n) (λ q. ap (option_map f) (sym (finite.get-entries m q)) ∙ alike q ∙ ap (option_map f) (finite.get-entries n q))

-- ALIKE CELLS
-- the same kinds of cells with the same objects at the same pages
abbrev pub Alike : Space → Space → Type 0
Alike s t = ((q : ℕ) → option_map (λ c. c.kind) (finite.get s q) ≡ option_map (λ c. c.kind) (finite.get t q)) × ((q : ℕ) → option_map (λ c. c.object) (finite.get s q) ≡ option_map (λ c. c.object) (finite.get t q))

kind_slots : (o : Option Cell) → option_map slots_for o ≡ option_map (λ (k : Kind). elim k as (λ x. ℕ) [ Private ↦ 1 | Shared ↦ 0 ]) (option_map (λ c. c.kind) o)
kind_slots None = refl
kind_slots (Some c) = refl

object_names : (o : Option Cell) (p : Option Object) (c : Cell) (z : ℕ) → o ≡ Some c → option_map (λ c. c.object) o ≡ p → zero_of c ≡ Some z → p ≡ Some (object.Zero z)
object_names None p c z is same names = absurd cc
object_names (Some d) p c z is same names = sym same ∙ ap (λ (x : Cell). Some x.object) (let e : d ≡ c = cc in e) ∙ ap (λ o. Some o) (the_zero c.object names)
  where
    the_zero : (o : Object) → (elim o as (λ x. Option ℕ) [ object.Zero y ↦ Some y | object.File f ↦ None | object.NewZero ↦ None ]) ≡ Some z → o ≡ object.Zero z
    the_zero (object.Zero y) is = ap (λ k. object.Zero k) (let e : y ≡ z = cc in e)
    the_zero (object.File f) is = absurd cc
    the_zero object.NewZero is = absurd cc

names_object : (o : Option Cell) (z : ℕ) → option_map (λ c. c.object) o ≡ Some (object.Zero z) → (c : Cell) × (o ≡ Some c) × (zero_of c ≡ Some z)
names_object None z is = absurd cc
names_object (Some c) z is = let same : c.object ≡ object.Zero z = cc in (c, refl, ap (λ (o : Object). elim o as (λ x. Option ℕ) [ object.Zero y ↦ Some y | object.File f ↦ None | object.NewZero ↦ None ]) same)

names_moved : (F G : Flat) (p z : ℕ) (s t : Space) → ((q : ℕ) → cell_at F p q ≡ finite.get s q) → ((q : ℕ) → cell_at G p q ≡ finite.get t q) → ((x q : ℕ) → (x ≡ p → ⊥) → cell_at G x q ≡ cell_at F x q) → ((q : ℕ) → option_map (λ c. c.object) (finite.get t q) ≡ option_map (λ c. c.object) (finite.get s q)) → is_named F z ≡ true → is_named G z ≡ true
names_moved F G p z s t in_F in_G others objects is =
    let m = named_zeros-to_cell F z is in
    elim (cases_eq m.process p) [
      | inl here ↦
          let at : finite.get s m.page ≡ Some m.cell = sym (in_F m.page) ∙ ap (λ x. cell_at F x m.page) (sym here) ∙ m.stands in
          let new = names_object (finite.get t m.page) z (objects m.page ∙ object_names (finite.get s m.page) (option_map (λ c. c.object) (finite.get s m.page)) m.cell z at refl m.names) in
          named_zeros-from_cell G p m.page z new.0 (in_G m.page ∙ new.1) new.2
      | inr apart ↦ named_zeros-from_cell G m.process m.page z m.cell (others m.process m.page apart ∙ m.stands) m.names
    ]

-- a space with alike cells names the same
pub named-alike : (F : Flat) (p : ℕ) (s : Space) → Alike s (cells_of F p) → (z : ℕ) → is_named (with_space F p s) z ≡ is_named F z
named-alike F p s alike z = same_tests _ _
    (names_moved (with_space F p s) F p z s (cells_of F p) (λ q. cell_at-here F p q s) (get-cells_of F p) (λ x q apart. sym (cell_at-other F p x q s apart)) (λ q. sym (alike.1 q)))
    (names_moved F (with_space F p s) p z (cells_of F p) s (get-cells_of F p) (λ q. cell_at-here F p q s) (λ x q apart. cell_at-other F p x q s apart) alike.1)

-- a space with alike cells reserves the same
pub reserved-alike : (F : Flat) (p : ℕ) (s : Space) → IsSome (space_of F p) → Alike s (cells_of F p) → reserved (with_space F p s) ≡ reserved F
reserved-alike F p s alive alike =
    let cells : private_cells s ≡ private_cells (cells_of F p) = total-alike slots_for s (cells_of F p) (λ q. kind_slots (finite.get s q) ∙ ap (option_map (λ (k : Kind). elim k as (λ x. ℕ) [ Private ↦ 1 | Shared ↦ 0 ])) (alike.0 q) ∙ sym (kind_slots (finite.get (cells_of F p) q))) in
    let spaces = private-with_space F p s alive in
    let names = retain-alike F.zeros (is_named (with_space F p s)) (is_named F) (named-alike F p s alike) in
    let zeros = ap (total length) names in
    omega arith

-- OBJECTS
length_there : (t m : Bool) (o : Option (List Page)) (v w : List Page) → o ≡ Some w → length v ≡ length w → option_map (λ ps. length ps) (cond t (cond m (Some v) o) None) ≡ option_map (λ ps. length ps) (cond t o None)
length_there false m o v w is same = refl
length_there true false o v w is same = refl
length_there true true o v w is same = ap (λ n. Some n) same ∙ sym (ap (option_map (λ ps. length ps)) is)

zeros_put : (m : finite.FinMap nat_cmp (List Page)) (z : ℕ) (t : ℕ → Bool) (i : ℕ) (new : Page) (o : Option (List Page)) → finite.get m z ≡ o → total length (finite.retain_keys (finite.insert m z (slice_set (unwrap_or o []) i new)) t) ≡ total length (finite.retain_keys m t)
zeros_put m z t i new (Some pages) is =
    let v = slice_set pages i new in
    total-alike (λ ps. length ps) (finite.retain_keys (finite.insert m z v) t) (finite.retain_keys m t) (λ q.
    ap (option_map (λ ps. length ps)) (get-retain_keys (finite.insert m z v) t q ∙ ap (λ o. cond (t q) o None) (get-insert m z v q))
    ∙ at_key q (q == z) refl ∙ ap (option_map (λ ps. length ps)) (sym (get-retain_keys m t q)))
  where
    at_key : (q : ℕ) (b : Bool) → (q == z) ≡ b → option_map (λ ps. length ps) (cond (t q) (cond b (Some (slice_set pages i new)) (finite.get m q)) None) ≡ option_map (λ ps. length ps) (cond (t q) (finite.get m q) None)
    at_key q false apart = refl
    at_key q true here = length_there (t q) true (finite.get m q) (slice_set pages i new) pages (ap (finite.get m) (eqb-true q z here) ∙ is) (length-set pages i new)
zeros_put m z t i new None is = elim (t z) as (λ b. t z ≡ b → total length (finite.retain_keys (finite.insert m z (slice_set [] i new)) t) ≡ total length (finite.retain_keys m t)) [
  | true ↦ λ names.
      let kept = retain-insert m z (slice_set [] i new) t t (λ y. passes y (y == z) refl names) in
      let absent : finite.get (finite.retain_keys m t) z ≡ None = get-retain_keys m t z ∙ ap (λ o. cond (t z) o None) is ∙ nothing (t z) in
      let all = ap (total length) kept ∙ total-insert length (finite.retain_keys m t) z (slice_set [] i new) absent in
      let empty : length (slice_set [] i new) ≡ 0 = length-set [] i new in
      omega arith
  | false ↦ λ unnamed. total-alike (λ ps. length ps) (finite.retain_keys (finite.insert m z (slice_set [] i new)) t) (finite.retain_keys m t) (λ q.
      ap (option_map (λ ps. length ps)) (get-retain_keys (finite.insert m z (slice_set [] i new)) t q ∙ ap (λ o. cond (t q) o None) (get-insert m z (slice_set [] i new) q) ∙ hidden q (q == z) refl unnamed ∙ sym (get-retain_keys m t q)))
] refl
  where
    passes : (y : ℕ) (b : Bool) → (y == z) ≡ b → t z ≡ true → t y ≡ (b || t y)
    passes y true here names = ap t (eqb-true y z here) ∙ names
    passes y false apart names = refl

    nothing : (b : Bool) → ◌≡◌ {A = Option (List Page)} (cond b None None) None
    nothing true = refl
    nothing false = refl

    hidden : (q : ℕ) (b : Bool) → (q == z) ≡ b → t z ≡ false → cond (t q) (cond b (Some (slice_set [] i new)) (finite.get m q)) None ≡ cond (t q) (finite.get m q) None
    hidden q true here unnamed = rw (ap t (eqb-true q z here) ∙ unnamed) refl
    hidden q false apart unnamed = refl

pub reserved-with_page : (F : Flat) (o : Object) (i : ℕ) (new : Page) → reserved (with_page F o i new) ≡ reserved F
reserved-with_page F (object.File f) i new = refl
reserved-with_page F (object.Zero z) i new = ap (λ n. total private_cells F.spaces + n) (zeros_put F.zeros z (is_named F) i new (finite.get F.zeros z) refl)
reserved-with_page F object.NewZero i new = refl

pub alike_cell : (F : Flat) (p q : ℕ) (old new : Cell) → cell_at F p q ≡ Some old → new.kind ≡ old.kind → new.object ≡ old.object → Alike (finite.insert (cells_of F p) q new) (cells_of F p)
alike_cell F p q old new at kind object = (
  λ r. elim (cases_eq r q) [
    | inl here ↦ ap (λ k. option_map (λ c. c.kind) (finite.get (finite.insert (cells_of F p) q new) k)) here ∙ ap (option_map (λ c. c.kind)) (get-insert_here (cells_of F p) q new) ∙ ap (λ k. Some k) kind ∙ sym (ap (λ k. option_map (λ c. c.kind) (finite.get (cells_of F p) k)) here ∙ ap (option_map (λ c. c.kind)) (sym (get-cells_of F p q) ∙ at))
    | inr apart ↦ ap (option_map (λ c. c.kind)) (get-insert_apart (cells_of F p) q new r apart)
  ],
  λ r. elim (cases_eq r q) [
    | inl here ↦ ap (λ k. option_map (λ c. c.object) (finite.get (finite.insert (cells_of F p) q new) k)) here ∙ ap (option_map (λ c. c.object)) (get-insert_here (cells_of F p) q new) ∙ ap (λ k. Some k) object ∙ sym (ap (λ k. option_map (λ c. c.object) (finite.get (cells_of F p) k)) here ∙ ap (option_map (λ c. c.object)) (sym (get-cells_of F p q) ∙ at))
    | inr apart ↦ ap (option_map (λ c. c.object)) (get-insert_apart (cells_of F p) q new r apart)
  ],
)

reserved-with_cell : (F : Flat) (p q : ℕ) (old new : Cell) → IsSome (space_of F p) → cell_at F p q ≡ Some old → new.kind ≡ old.kind → new.object ≡ old.object → reserved (with_cell F p q new) ≡ reserved F
reserved-with_cell F p q old new alive at kind object = reserved-alike F p (finite.insert (cells_of F p) q new) alive (alike_cell F p q old new at kind object)

reserved-with_page_stored : (F : Flat) (p q : ℕ) (c : Cell) (new : Page) → IsSome (space_of F p) → cell_at F p q ≡ Some c → reserved (with_page_stored F p q c new) ≡ reserved F
reserved-with_page_stored F p q c new alive at = elim c.kind as (λ k. reserved (elim k as (λ x. Flat) [ Shared ↦ with_page F c.object c.index new | Private ↦ with_cell F p q (record c { own = Some new }) ]) ≡ reserved F) [
  | Shared ↦ reserved-with_page F c.object c.index new
  | Private ↦ reserved-with_cell F p q c (record c { own = Some new }) alive at refl refl
]

kept_kind : (b : Bool) (prot : Prot) (o : Option Cell) → option_map (λ c. c.kind) (option_map (λ c. cond b (record c { prot = prot }) c) o) ≡ option_map (λ c. c.kind) o
kept_kind b prot None = refl
kept_kind true prot (Some c) = refl
kept_kind false prot (Some c) = refl

kept_object : (b : Bool) (prot : Prot) (o : Option Cell) → option_map (λ c. c.object) (option_map (λ c. cond b (record c { prot = prot }) c) o) ≡ option_map (λ c. c.object) o
kept_object b prot None = refl
kept_object true prot (Some c) = refl
kept_object false prot (Some c) = refl

pub alike_prots : (F : Flat) (p first n : ℕ) (prot : Prot) → Alike (with_prots (cells_of F p) first n prot) (cells_of F p)
alike_prots F p first n prot = (
  λ q. ap (option_map (λ c. c.kind)) (get-with_prots (cells_of F p) first n prot q) ∙ kept_kind (is_in_range first n q) prot (finite.get (cells_of F p) q),
  λ q. ap (option_map (λ c. c.object)) (get-with_prots (cells_of F p) first n prot q) ∙ kept_object (is_in_range first n q) prot (finite.get (cells_of F p) q),
)

pub reserved-with_prots : (F : Flat) (p first n : ℕ) (prot : Prot) → IsSome (space_of F p) → reserved (with_space F p (with_prots (cells_of F p) first n prot)) ≡ reserved F
reserved-with_prots F p first n prot alive = reserved-alike F p (with_prots (cells_of F p) first n prot) alive (alike_prots F p first n prot)

pub reserved-others : (F : Flat) (p : ℕ) (call : Call) → IsSome (space_of F p) → KeepsReservation call → reserved (effect F p call).after ≡ reserved F
reserved-others F p (Load a n) alive keeps = by_signal (λ G. reserved G ≡ reserved F) F (λ m. record { reply = reply.Word (word_at m.1 a n); after = F }) (access_target F p can_read a n) refl (λ m is. refl)
reserved-others F p (Store a n v) alive keeps = by_signal (λ G. reserved G ≡ reserved F) F (λ m. done_effect (with_page_stored F p (page a) m.0 (word_put m.1 a n v))) (access_target F p can_write a n) refl (λ m is. reserved-with_page_stored F p (page a) m.0 (word_put m.1 a n v) alive (is_met F p can_write a n m.0 m.1 is).cell)
reserved-others F p (Map place len prot kind object offset) alive keeps = absurd keeps
reserved-others F p (Unmap a len) alive keeps = absurd keeps
reserved-others F p (Protect a len prot) alive keeps =
    by_refusal (λ G. reserved G ≡ reserved F) F (λ x. done_effect (with_space F p (with_prots (cells_of F p) (page a) (pages_in len) prot))) (valid_range F p a len >> check (may_have (cells_of F p) (page a) (pages_in len) prot) errno.Access) refl (λ x is. reserved-with_prots F p (page a) (pages_in len) prot alive)
reserved-others F p (Sync a len) alive keeps = by_refusal (λ G. reserved G ≡ reserved F) F (λ x. record { reply = reply.Synced 0; after = F }) (valid_range F p a len) refl (λ x is. refl)
reserved-others F p (Read file offset len) alive keeps = by_refusal (λ G. reserved G ≡ reserved F) F (λ x. record { reply = reply.Bytes (read_line x offset len); after = F }) (existing_file F file) refl (λ x is. refl)
reserved-others F p (Write file offset line rest) alive keeps = by_refusal (λ G. reserved G ≡ reserved F) F (λ x. done_effect (with_file_at F file (with_part offset line x))) (room_for F file (offset + length line)) refl (λ x is. refl)
reserved-others F p (Truncate file len) alive keeps = by_refusal (λ G. reserved G ≡ reserved F) F (λ x. done_effect (with_file_at F file (file_of_length len x))) (room_for F file len) refl (λ x is. refl)
reserved-others F p (Fork child) alive keeps = absurd keeps
reserved-others F p Exit alive keeps = absurd keeps

pub reservation_law : Reservation
reservation_law = record { unmap = reserved-unmap; private_map = reserved-private_map; new_zero_map = reserved-new_zero_map; shared_map = reserved-shared_map; has_place = placed-map_result; fork = reserved-fork; exit = reserved-exit; others = reserved-others; tails = λ F test. refl }
