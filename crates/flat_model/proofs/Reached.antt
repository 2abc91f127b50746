-- Flat memory that a history reaches.
use Rattle.flat_model.proofs.WellFormed.{by_refusal}
use Rattle.flat_model.proofs.WellFormed.{by_signal}
use Rattle.vnode_files.proofs.GrowLemmas.{some_of}
use Rattle.std.proofs.Common.{◌≡◌, ℕ, ◌+◌, ◌*◌, ◌<◌, ◌≤◌, ◌||◌, Bool, true, false, cond, List, [], ◌∷◌, length, map, Option, Some, None, Result, Ok, Err, refl, sym, ap, subst, ◌∙◌, inl, inr, arith}
use Rattle.std.specs.Prelude.{nat_le, is_some, IsSome, option_and_then, sum_by}
use Rattle.std.specs.Ordering.{nat_cmp, is_eq, eq_by_cmp}
use Rattle.std.specs.List.{list_any}
use Rattle.std.specs.Cmp.{nat_cmp_total}
use Rattle.std.specs.FinMap as finite
use Rattle.std.specs.FinSet as set
use Rattle.std.proofs.lemmas.Bool.{cases_eq, leb-true}
use Rattle.vm_types.specs.declared.call.Call.{Call}
use Rattle.vm_types.specs.declared.call.Call.TheVariants.{Load, Store, Map, Unmap, Protect, Sync, Read, Write, Truncate, Fork, Exit}
use Rattle.vm_types.specs.declared.call.Entry.{Entry}
use Rattle.vm_types.specs.declared.call.Reply.{Reply}
use Rattle.vm_types.specs.declared.call.Reply.TheVariants as reply
use Rattle.vm_types.specs.declared.call.Errno.{Errno}
use Rattle.vm_types.specs.declared.call.Errno.TheVariants as errno
use Rattle.vm_types.specs.declared.call.Signal.{Signal}
use Rattle.vm_types.specs.declared.call.Kind.{Kind}
use Rattle.vm_types.specs.declared.call.Kind.TheVariants.{Shared, Private}
use Rattle.vm_types.specs.declared.call.Object.{Object}
use Rattle.vm_types.specs.declared.call.Object.TheVariants as object
use Rattle.vm_types.specs.Prot.{can_read, can_write}
use Rattle.vm_types.specs.Pages.{is_range}
use Rattle.flat_model.specs.Words.{Page, page, pages_in, word_at, word_put}
use Rattle.flat_model.specs.Flat.{Cell, File, Flat, Space, space_of, cell_at, is_named, without_unnamed, slots_for, reserved, private_cells}
use Rattle.flat_model.specs.Opening.{flat_at_opening}
use Rattle.flat_model.specs.Refusals.{◌>>◌, check, Effect, or_signal, or_refused, done_effect}
use Rattle.flat_model.specs.Access.{access_target, with_page, with_space, with_cell, with_page_stored}
use Rattle.flat_model.specs.Space.{without_range, with_prots}
use Rattle.flat_model.specs.Mapping.{Request, cells_of, is_there, without_replaced, new_number, new_cell, object_for, with_object, map_result, without_pages, valid_range, may_have}
use Rattle.flat_model.specs.Parts.{read_line, with_part, file_of_length, with_file_at, existing_file, room_for}
use Rattle.flat_model.specs.Processes.{with_child, without_process}
use Rattle.flat_model.specs.Step.{effect, after_act, step, is_bit_set, tails_cleared, IsUnborn, IsStep}
use Rattle.flat_model.specs.History.{replay, Steps}
use Rattle.flat_model.specs.Births.{AreBorn}
use Rattle.flat_model.specs.ReserveLaws.{KeepsReservation}
use Rattle.flat_model.specs.ReachedLaws.{IsReached, StaysReached}
use Rattle.flat_model.proofs.Ranges.{get-insert_here, get-insert_apart}
use Rattle.flat_model.proofs.Stores.{is_met}
use Rattle.flat_model.proofs.Named.{named_zeros-from_cell, named_zeros-to_cell, get-without_unnamed}
use Rattle.flat_model.proofs.Entries.{Above, Above-entries, find_rest, find_below, first_found}
use Rattle.flat_model.proofs.Sums.{total}
use Rattle.std.proofs.lemmas.List.Sums.{sum_by-cons}
use Rattle.flat_model.proofs.Mappings.{mapped-map_result}
use Rattle.flat_model.proofs.Reserve.{unswept, put_in, names_from, names_before, names_before_exit, forked_names, spaces_put_in, named_by_spaces, zeros_cleared, reserved-unmap, reserved-fork, reserved-exit}
use Rattle.flat_model.proofs.ReserveKept.{named-alike, alike_cell, alike_prots, reserved-others}
use Rattle.flat_model.proofs.Frames.{StepFrame-step, child_none}
use Rattle.flat_model.proofs.Lives.{AreBorn-step}

-- zero objects are there exactly where they are named
abbrev NamedAlone : Flat → Type 0
NamedAlone F = (z : ℕ) → is_some (finite.get F.zeros z) ≡ is_named F z

tests_same : (a b : Bool) → (b ≡ true → a ≡ true) → (a ≡ true → b ≡ true) → a ≡ b
tests_same true true from to = refl
tests_same true false from to = sym (to refl)
tests_same false true from to = from refl
tests_same false false from to = refl

-- what is left where those go that no cell names
swept_alone : (G : Flat) → ((z : ℕ) → is_named G z ≡ true → is_some (finite.get G.zeros z) ≡ true) → NamedAlone (without_unnamed G)
swept_alone G there z = ap is_some (get-without_unnamed G z) ∙ by_name (is_named G z) refl
  where
    by_name : (b : Bool) → is_named G z ≡ b → is_some (cond b (finite.get G.zeros z) None) ≡ is_named G z
    by_name true is = there z is ∙ sym is
    by_name false is = sym is

unmapped_alone : (F : Flat) (p first n : ℕ) → NamedAlone F → IsSome (space_of F p) → NamedAlone (without_pages F p first n)
unmapped_alone F p first n alone alive = swept_alone (with_space F p (without_range (cells_of F p) first n)) (λ z is. alone z ∙ names_before F p first n z alive is)

exited_alone : (F : Flat) (p : ℕ) → NamedAlone F → NamedAlone (without_process F p)
exited_alone F p alone = swept_alone (record F { spaces = finite.remove F.spaces p }) (λ z is. alone z ∙ names_before_exit F p z is)

forked_alone : (F : Flat) (p child : ℕ) → NamedAlone F → space_of F child ≡ None → NamedAlone (with_child F p child)
forked_alone F p child alone none z = alone z ∙ sym (forked_names F p child z none)

-- A MAP
stays_there : (C : Flat) (k : Kind) (o : Object) (n z : ℕ) → is_some (finite.get C.zeros z) ≡ true → is_some (finite.get (with_object C k o n).zeros z) ≡ true
stays_there C Shared (object.File f) n z is = is
stays_there C Shared object.NewZero n z is = put_there (with_object C Shared object.NewZero n).zeros z refl
  where
    put_there : (m : finite.FinMap nat_cmp (List Page)) (y : ℕ) → m ≡ (with_object C Shared object.NewZero n).zeros → is_some (finite.get (with_object C Shared object.NewZero n).zeros z) ≡ true
    put_there m y same = elim (cases_eq z (new_number C)) [
      | inl here ↦ ap (λ k. is_some (finite.get (with_object C Shared object.NewZero n).zeros k)) here ∙ ap is_some (get-insert_here C.zeros (new_number C) _)
      | inr apart ↦ ap is_some (get-insert_apart C.zeros (new_number C) _ z apart) ∙ is
    ]
stays_there C Shared (object.Zero y) n z is = is
stays_there C Private o n z is = is

named_there : (F C : Flat) (k : Kind) (o : Object) (n z : ℕ) → C.zeros ≡ F.zeros → is_there F o ≡ true → (elim (object_for C k o) as (λ x. Option ℕ) [ object.Zero y ↦ Some y | object.File f ↦ None | object.NewZero ↦ None ]) ≡ Some z → is_some (finite.get (with_object C k o n).zeros z) ≡ true
named_there F C Shared (object.File f) n z same there is = absurd cc
named_there F C Shared object.NewZero n z same there is = let here : new_number C ≡ z = cc in ap (λ k. is_some (finite.get (with_object C Shared object.NewZero n).zeros k)) (sym here) ∙ ap is_some (get-insert_here C.zeros (new_number C) _)
named_there F C Shared (object.Zero y) n z same there is = let here : y ≡ z = cc in ap (λ k. is_some (finite.get C.zeros k)) (sym here) ∙ ap (λ m. is_some (finite.get m y)) same ∙ there
named_there F C Private (object.File f) n z same there is = absurd cc
named_there F C Private object.NewZero n z same there is = absurd cc
named_there F C Private (object.Zero y) n z same there is = let here : y ≡ z = cc in ap (λ k. is_some (finite.get C.zeros k)) (sym here) ∙ ap (λ m. is_some (finite.get m y)) same ∙ there

mapped_alone : (F : Flat) (p : ℕ) (r : Request) (first : ℕ) (G : Flat) → NamedAlone F → IsSome (space_of F p) → map_result F p r ≡ Ok (first, G) → NamedAlone G
mapped_alone F p r first G alone alive is =
    let m = mapped-map_result F p r first G is in
    let n = pages_in r.len in
    let C = without_replaced F p r.place n in
    let cell = new_cell F C r in
    let zeros = zeros_cleared F p r.place n in
    subst NamedAlone (sym m.after) (swept_alone (unswept F p r first) (λ z named_it.
    names_from F p first n z (cells_of F p) cell (is_some (finite.get (unswept F p r first).zeros z) ≡ true)
    (sym (named_by_spaces (unswept F p r first) (put_in F p r first) z (spaces_put_in F p r first alive m.first_is)) ∙ named_it)
    (λ i at. named_there F C r.kind r.object n z zeros m.there at)
    (λ old. stays_there C r.kind r.object n z (ap (λ m. is_some (finite.get m z)) zeros ∙ alone z ∙ names_before F p first n z alive old))))

-- A STORE
page_alone : (F : Flat) (p q : ℕ) (c : Cell) (new : Page) → NamedAlone F → cell_at F p q ≡ Some c → NamedAlone (with_page F c.object c.index new)
page_alone F p q c new alone at = by_object c.object refl
  where
    by_object : (o : Object) → c.object ≡ o → NamedAlone (with_page F o c.index new)
    by_object (object.File f) is z = alone z
    by_object (object.Zero y) is z = elim (cases_eq z y) [
      | inl here ↦
          let names_it : is_named F y ≡ true = named_zeros-from_cell F p q y c at (ap (λ (o : Object). elim o as (λ x. Option ℕ) [ object.Zero k ↦ Some k | object.File f ↦ None | object.NewZero ↦ None ]) is) in
          ap (λ k. is_some (finite.get (with_page F (object.Zero y) c.index new).zeros k)) here ∙ ap is_some (get-insert_here F.zeros y _) ∙ sym names_it ∙ ap (is_named F) (sym here)
      | inr apart ↦ ap is_some (get-insert_apart F.zeros y _ z apart) ∙ alone z
    ]
    by_object object.NewZero is z = alone z

stored_alone : (F : Flat) (p q : ℕ) (c : Cell) (new : Page) → NamedAlone F → IsSome (space_of F p) → cell_at F p q ≡ Some c → NamedAlone (with_page_stored F p q c new)
stored_alone F p q c new alone alive at = elim c.kind as (λ k. NamedAlone (elim k as (λ x. Flat) [ Shared ↦ with_page F c.object c.index new | Private ↦ with_cell F p q (record c { own = Some new }) ])) [
  | Shared ↦ page_alone F p q c new alone at
  | Private ↦ λ z. alone z ∙ sym (named-alike F p (finite.insert (cells_of F p) q (record c { own = Some new })) (alike_cell F p q c (record c { own = Some new }) at refl refl) z)
]

effect_alone : (F : Flat) (p : ℕ) (call : Call) → NamedAlone F → IsSome (space_of F p) → ((child : ℕ) → call ≡ Fork child → space_of F child ≡ None) → NamedAlone (effect F p call).after
effect_alone F p (Load a n) alone alive unborn = by_signal NamedAlone F (λ m. record { reply = reply.Word (word_at m.1 a n); after = F }) (access_target F p can_read a n) alone (λ m is. alone)
effect_alone F p (Store a n v) alone alive unborn = by_signal NamedAlone F (λ m. done_effect (with_page_stored F p (page a) m.0 (word_put m.1 a n v))) (access_target F p can_write a n) alone (λ m is. stored_alone F p (page a) m.0 (word_put m.1 a n v) alone alive (is_met F p can_write a n m.0 m.1 is).cell)
effect_alone F p (Map place len prot kind object offset) alone alive unborn =
    let r : Request = record { place = place; len = len; prot = prot; kind = kind; object = object; offset = offset } in
    by_refusal NamedAlone F (λ m. record { reply = reply.Mapped (4096 * m.0); after = m.1 }) (map_result F p r) alone (λ m is. mapped_alone F p r m.0 m.1 alone alive is)
effect_alone F p (Unmap a len) alone alive unborn = by_refusal NamedAlone F (λ x. done_effect (without_pages F p (page a) (pages_in len))) (check (is_range a len) errno.Invalid) alone (λ x is. unmapped_alone F p (page a) (pages_in len) alone alive)
effect_alone F p (Protect a len prot) alone alive unborn =
    by_refusal NamedAlone F (λ x. done_effect (with_space F p (with_prots (cells_of F p) (page a) (pages_in len) prot))) (valid_range F p a len >> check (may_have (cells_of F p) (page a) (pages_in len) prot) errno.Access) alone
    (λ x is z. alone z ∙ sym (named-alike F p (with_prots (cells_of F p) (page a) (pages_in len) prot) (alike_prots F p (page a) (pages_in len) prot) z))
effect_alone F p (Sync a len) alone alive unborn = by_refusal NamedAlone F (λ x. record { reply = reply.Synced 0; after = F }) (valid_range F p a len) alone (λ x is. alone)
effect_alone F p (Read file offset len) alone alive unborn = by_refusal NamedAlone F (λ x. record { reply = reply.Bytes (read_line x offset len); after = F }) (existing_file F file) alone (λ x is. alone)
effect_alone F p (Write file offset line rest) alone alive unborn = by_refusal NamedAlone F (λ x. done_effect (with_file_at F file (with_part offset line x))) (room_for F file (offset + length line)) alone (λ x is. alone)
effect_alone F p (Truncate file len) alone alive unborn = by_refusal NamedAlone F (λ x. done_effect (with_file_at F file (file_of_length len x))) (room_for F file len) alone (λ x is. alone)
effect_alone F p (Fork child) alone alive unborn = by_refusal NamedAlone F (λ x. done_effect (with_child F p child)) (check (nat_le (reserved F + private_cells (cells_of F p)) F.slots) errno.NoSwap) alone (λ x is. forked_alone F p child alone (unborn child refl))
effect_alone F p Exit alone alive unborn = exited_alone F p alone

checked : (b : Bool) (e : Errno) (x : Unit {0}) → check b e ≡ Ok x → b ≡ true
checked true e x is = refl
checked false e x is = absurd cc

kept_backed : (F : Flat) (p : ℕ) (call : Call) → reserved F ≤ F.slots → IsSome (space_of F p) → KeepsReservation call → reserved (effect F p call).after ≤ F.slots
kept_backed F p call backed alive keeps = let same = reserved-others F p call alive keeps in omega (arith, same, backed)

effect_backed : (F : Flat) (p : ℕ) (call : Call) → AreBorn F → reserved F ≤ F.slots → IsSome (space_of F p) → IsUnborn F call → reserved (effect F p call).after ≤ F.slots
effect_backed F p (Map place len prot kind object offset) born backed alive unborn =
    let r : Request = record { place = place; len = len; prot = prot; kind = kind; object = object; offset = offset } in
    by_refusal (λ G. reserved G ≤ F.slots) F (λ m. record { reply = reply.Mapped (4096 * m.0); after = m.1 }) (map_result F p r) backed (λ m is. leb-true (reserved m.1) F.slots (mapped-map_result F p r m.0 m.1 is).backed)
effect_backed F p (Unmap a len) born backed alive unborn = by_refusal (λ G. reserved G ≤ F.slots) F (λ x. done_effect (without_pages F p (page a) (pages_in len))) (check (is_range a len) errno.Invalid) backed (λ x is. let sum = reserved-unmap F p (page a) (pages_in len) alive in omega (arith, sum, backed))
effect_backed F p (Fork child) born backed alive unborn =
    by_refusal (λ G. reserved G ≤ F.slots) F (λ x. done_effect (with_child F p child)) (check (nat_le (reserved F + private_cells (cells_of F p)) F.slots) errno.NoSwap) backed
    (λ x is. let sum = reserved-fork F p child born alive unborn in let fits = leb-true (reserved F + private_cells (cells_of F p)) F.slots (checked (nat_le (reserved F + private_cells (cells_of F p)) F.slots) errno.NoSwap x is) in omega (arith, sum, fits))
effect_backed F p Exit born backed alive unborn = let sum = reserved-exit F p alive in omega (arith, sum, backed)
effect_backed F p (Load a n) born backed alive unborn = kept_backed F p (Load a n) backed alive tt
effect_backed F p (Store a n v) born backed alive unborn = kept_backed F p (Store a n v) backed alive tt
effect_backed F p (Protect a len prot) born backed alive unborn = kept_backed F p (Protect a len prot) backed alive tt
effect_backed F p (Sync a len) born backed alive unborn = kept_backed F p (Sync a len) backed alive tt
effect_backed F p (Read file offset len) born backed alive unborn = kept_backed F p (Read file offset len) backed alive tt
effect_backed F p (Write file offset line rest) born backed alive unborn = kept_backed F p (Write file offset line rest) backed alive tt
effect_backed F p (Truncate file len) born backed alive unborn = kept_backed F p (Truncate file len) backed alive tt

-- A STEP
abbrev Holds : Flat → ℕ → Type 0
Holds G slots = NamedAlone G × (reserved G ≤ slots)

after_holds : (G : Flat) (p : ℕ) (call : Call) (cleared : ℕ) (r : Reply) → Holds G G.slots → Holds (effect G p call).after G.slots → Holds (after_act G (record { process = p; call = call; reply = r; cleared = cleared })) G.slots
after_holds G p call cleared (reply.Io disk before after) old new = old
after_holds G p call cleared r old new = new

pub IsReached-step : (F : Flat) (e : Entry) → IsReached F → IsStep F e → IsReached (step F e)
IsReached-step F e reached is =
    let G = tails_cleared F (is_bit_set e.cleared) in
    let unborn = unborn_in e.call is.unborn in
    let old : Holds G G.slots = (reached.zeros, reached.backed) in
    let new : Holds (effect G e.process e.call).after G.slots = (effect_alone G e.process e.call reached.zeros is.alive (child_none G e.call reached.born unborn), effect_backed G e.process e.call reached.born reached.backed is.alive unborn) in
    let both = after_holds G e.process e.call e.cleared e.reply old new in
    let slots = (StepFrame-step F e reached.born is).slots in
    record { born = AreBorn-step F e reached.born is; zeros = both.0; backed = subst (λ (n : ℕ). reserved (step F e) ≤ n) (sym slots) both.1 }
  where
    unborn_in : (call : Call) → IsUnborn F call → IsUnborn (tails_cleared F (is_bit_set e.cleared)) call
    unborn_in (Fork child) h = h
    unborn_in c h = tt

pub IsReached-replay : (F : Flat) (H : List Entry) → IsReached F → Steps F H → IsReached (replay F H)
IsReached-replay F [] reached steps = reached
IsReached-replay F (e ∷ H) reached steps = IsReached-replay (step F e) H (IsReached-step F e reached steps.0) steps.1

-- THE OPENING
empty_found : (roots : List ℕ) (p : ℕ) (space : Space) → finite.find nat_cmp p (map (λ r. (r, finite.empty)) roots) ≡ Some space → (space ≡ finite.empty) × (list_any (eq_by_cmp nat_cmp p) roots ≡ true)
empty_found [] p space is = absurd cc
empty_found (r ∷ roots) p space is = elim (is_eq (nat_cmp p r)) as (λ b. cond b (Some finite.empty) (finite.find nat_cmp p (map (λ r. (r, finite.empty)) roots)) ≡ Some space → (space ≡ finite.empty) × ((b || list_any (eq_by_cmp nat_cmp p) roots) ≡ true)) [
  | true ↦ λ here. (let same : finite.empty ≡ space = cc in sym same, refl)
  | false ↦ λ rest. empty_found roots p space rest
] is

space_empty : (slots : ℕ) (disks : finite.FinMap nat_cmp ℕ) (files : List File) (roots : List ℕ) (p : ℕ) (space : Space) → space_of (flat_at_opening slots disks files roots) p ≡ Some space → (space ≡ finite.empty) × (list_any (eq_by_cmp nat_cmp p) roots ≡ true)
space_empty slots disks files roots p space is = empty_found roots p space (sym (finite.get-from_entries nat_cmp_total (map (λ r. (r, finite.empty)) roots) p) ∙ is)

opening_none : (slots : ℕ) (disks : finite.FinMap nat_cmp ℕ) (files : List File) (roots : List ℕ) (p q : ℕ) (c : Cell) → cell_at (flat_at_opening slots disks files roots) p q ≡ Some c → ⊥
opening_none slots disks files roots p q c at = by_space (space_of F p) refl at
  where
    F : Flat
    F = flat_at_opening slots disks files roots

    by_space : (o : Option Space) → space_of F p ≡ o → option_and_then (λ space. finite.get space q) o ≡ Some c → ⊥
    by_space None is found = absurd cc
    by_space (Some space) is found = absurd (let none = ap (λ s. finite.get s q) (space_empty slots disks files roots p space is).0 ∙ finite.get-empty nat_cmp q in let both : None ≡ Some c = sym none ∙ found in cc)

opening_unnamed : (slots : ℕ) (disks : finite.FinMap nat_cmp ℕ) (files : List File) (roots : List ℕ) (z : ℕ) → is_named (flat_at_opening slots disks files roots) z ≡ false
opening_unnamed slots disks files roots z = elim (is_named F z) as (λ b. is_named F z ≡ b → b ≡ false) [
  | true ↦ λ is. absurd (let m = named_zeros-to_cell F z is in opening_none slots disks files roots m.process m.page m.cell m.stands)
  | false ↦ λ is. refl
] refl
  where
    F : Flat
    F = flat_at_opening slots disks files roots

-- values that each count nothing
sum_none : {X : Type 0} (f : X → ℕ) (a : ℕ) (es : List (ℕ × X)) → Above a es → ((q : ℕ) (v : X) → finite.find nat_cmp q es ≡ Some v → f v ≡ 0) → sum_by f (map (λ e. e.1) es) ≡ 0
sum_none f a [] above each = refl
sum_none f a (e ∷ es) above each =
    let first = each e.0 e.1 (first_found e es) in
    let rest = sum_none f (e.0 + 1) es above.1 (λ q v found. each q v (find_rest q e es (λ same. absurd (let low : q < e.0 + 1 = omega arith in let none = find_below q (e.0 + 1) es low above.1 in let both : None ≡ Some v = sym none ∙ found in cc)) ∙ found)) in
    omega (arith, sum_by-cons f e.1 (map (λ e. e.1) es), first, rest)

total-none : {X : Type 0} (f : X → ℕ) (m : finite.FinMap nat_cmp X) → ((q : ℕ) (v : X) → finite.get m q ≡ Some v → f v ≡ 0) → total f m ≡ 0
total-none f m each = sum_none f 0 (finite.entries m) (Above-entries m) (λ q v found. each q v (finite.get-entries m q ∙ found))

pub IsReached-opening : (slots : ℕ) (disks : finite.FinMap nat_cmp ℕ) (files : List File) (roots : List ℕ) → IsReached (flat_at_opening slots disks files roots)
IsReached-opening slots disks files roots =
    let F = flat_at_opening slots disks files roots in
    let no_cells = total-none private_cells F.spaces (λ p space is.
    ap private_cells (space_empty slots disks files roots p space is).0 ∙ total-none slots_for finite.empty (λ q c found. absurd (let both : None ≡ Some c = sym (finite.get-empty nat_cmp q) ∙ found in cc))) in
    let no_zeros = total-none (λ ps. length ps) (without_unnamed F).zeros (λ z ps is. absurd (let both : None ≡ Some ps = sym (get-without_unnamed F z ∙ ap (λ b. cond b (finite.get F.zeros z) None) (opening_unnamed slots disks files roots z)) ∙ is in cc)) in
    record {
      born = λ p alive. let s = some_of (space_of F p) alive in set.contains-from_list nat_cmp_total roots p ∙ (space_empty slots disks files roots p s.0 s.1).1;
      zeros = λ z. ap is_some (finite.get-empty nat_cmp z) ∙ sym (opening_unnamed slots disks files roots z);
      backed = omega (arith, no_cells, no_zeros);
    }

pub stays_reached_law : StaysReached
stays_reached_law = record { opening = IsReached-opening; after_step = IsReached-step; after_history = IsReached-replay }
