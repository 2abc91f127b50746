-- Laws of the reservation of slots. Public clauses cite this.
use Rattle.std.specs.Prelude.{ℕ, ◌≡◌, ◌+◌, Bool, [], length, sum_by, not, Some, Ok, IsSome, IsTrue, IsFalse, unwrap_or, if◌then◌else◌}
use Rattle.std.specs.FinMap as map
use Rattle.std.specs.FinSet as set
use Rattle.vm_types.specs.declared.call.Call.{Call}
use Rattle.vm_types.specs.declared.call.Call.TheVariants.{Map, Unmap, Fork, Exit}
use Rattle.vm_types.specs.declared.call.Kind.TheVariants.{Shared, Private}
use Rattle.vm_types.specs.declared.call.Object.{Object}
use Rattle.vm_types.specs.declared.call.Object.TheVariants.{NewZero, Zero}
use Rattle.flat_model.specs.Words.{pages_in}
use Rattle.flat_model.specs.Flat.{Flat, space_of, private_cells, is_named, without_unnamed, reserved}
use Rattle.flat_model.specs.Space.{is_in_range}
use Rattle.flat_model.specs.Mapping.{Request, cells_of, is_valid, is_there, without_replaced, first_page, with_mapping, map_result, without_pages}
use Rattle.flat_model.specs.Processes.{with_child, without_process}
use Rattle.flat_model.specs.Step.{effect, tails_cleared}
use Rattle.flat_model.specs.Births.{AreBorn}

-- A Map's range has its place, whether or not there are slots for it: the request is valid, its object is there, and the range begins at this page.
pub record IsPlaced (F : Flat) (p : ℕ) (r : Request) (first : ℕ) : Type 0 where
  pub valid : IsTrue (is_valid r)
  pub there : IsTrue (is_there F r.object)
  pub begin : first_page (cells_of (without_replaced F p r.place (pages_in r.len)) p) r.place (pages_in r.len) ≡ Some first

-- How many private cells p has at n pages.
abbrev pub private_cells_at : Flat → ℕ → ℕ → ℕ → ℕ
private_cells_at F p first n = private_cells (map.retain_keys (cells_of F p) (is_in_range first n))

-- What the zero objects reserve that cells of F name and no cell of G.
abbrev pub zero_pages_gone : Flat → Flat → ℕ
zero_pages_gone F G = sum_by length (map.values (map.retain_keys (without_unnamed F).zeros (λ z. not (is_named G z))))

-- What a mapping's object reserves anew: the pages of the zero object that it names, where no cell of U names it.
abbrev pub zero_pages_back : Flat → Flat → Object → ℕ
zero_pages_back F U (Zero z) = if is_named U z then 0 else length (unwrap_or (map.get F.zeros z) [])
zero_pages_back F U o = 0

-- The call is none of those that may change the reservation.
abbrev pub KeepsReservation : Call → Type 0
KeepsReservation (Map place len prot kind object offset) = ⊥
KeepsReservation (Unmap a len) = ⊥
KeepsReservation (Fork child) = ⊥
KeepsReservation Exit = ⊥
KeepsReservation call = Unit {0}

-- What is reserved after each call of who is alive. An Unmap gives back its private cells and the pages of the zero objects that no cell names any more; an Exit does so for a whole space. A Map that has its place reserves, beside what stays when its range is out: a private one its pages, new shared zero memory its pages, and each of the others the pages of its zero object where no cell names that any more. A Map that isn't refused had its place, and left what is said of it. A Fork reserves the parent's private cells once more. No other call changes the reservation, and no tail.
pub record Reservation : Type 0 where
  pub unmap : (F : Flat) (p first n : ℕ) → IsSome (space_of F p) → reserved (without_pages F p first n) + private_cells_at F p first n + zero_pages_gone F (without_pages F p first n) ≡ reserved F
  pub private_map : (F : Flat) (p : ℕ) (r : Request) (first : ℕ) → IsSome (space_of F p) → IsPlaced F p r first → r.kind ≡ Private → reserved (with_mapping F p r first) ≡ reserved (without_pages F p first (pages_in r.len)) + pages_in r.len + zero_pages_back F (without_pages F p first (pages_in r.len)) r.object
  pub new_zero_map : (F : Flat) (p : ℕ) (r : Request) (first : ℕ) → IsSome (space_of F p) → IsPlaced F p r first → r.kind ≡ Shared → r.object ≡ NewZero → reserved (with_mapping F p r first) ≡ reserved (without_pages F p first (pages_in r.len)) + pages_in r.len
  pub shared_map : (F : Flat) (p : ℕ) (r : Request) (first : ℕ) → IsSome (space_of F p) → IsPlaced F p r first → r.kind ≡ Shared → (r.object ≡ NewZero → ⊥) → reserved (with_mapping F p r first) ≡ reserved (without_pages F p first (pages_in r.len)) + zero_pages_back F (without_pages F p first (pages_in r.len)) r.object
  pub has_place : (F : Flat) (p : ℕ) (r : Request) (first : ℕ) (G : Flat) → map_result F p r ≡ Ok (first, G) → IsPlaced F p r first × (G ≡ with_mapping F p r first)
  pub fork : (F : Flat) (p child : ℕ) → AreBorn F → IsSome (space_of F p) → IsFalse (set.contains F.born child) → reserved (with_child F p child) ≡ reserved F + private_cells (cells_of F p)
  pub exit : (F : Flat) (p : ℕ) → IsSome (space_of F p) → reserved (without_process F p) + private_cells (cells_of F p) + zero_pages_gone F (without_process F p) ≡ reserved F
  pub others : (F : Flat) (p : ℕ) (call : Call) → IsSome (space_of F p) → KeepsReservation call → reserved (effect F p call).after ≡ reserved F
  pub tails : (F : Flat) (test : ℕ → Bool) → reserved (tails_cleared F test) ≡ reserved F
