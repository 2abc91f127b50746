-- The entries of each process, summed over its lines.
use Rattle.std.proofs.Common.{◌≡◌, ◌≢◌, ℕ, zero, suc, ◌+◌, ◌-◌, ◌<◌, ◌≤◌, ◌==◌, Bool, true, false, cond, List, [], ◌∷◌, length, take, replicate, refl, sym, ap, ◌∙◌, inl, inr, subst, arith, add-zero, zero-add, length-set}
use Rattle.std.specs.Prelude.{◌^◌, slice_index, slice_index_or, slice_set, filter, sum_by, All}
use Rattle.std.proofs.lemmas.Bool.{cases_eq, eq-eqb, ne_eqb, cases_lt}
use Rattle.std.proofs.lemmas.List.{get_or-set_same, get_or-set_other}
use Rattle.std.proofs.lemmas.List.Elements.{All-nil, All-append, All-weaker, All-head, All-tail}
use Rattle.std.proofs.lemmas.List.Sums.{sum_by-cons, sum_by-set, sum_by_more, sum_by_more_le_part}
use Rattle.volume_files.specs.vm_script.declared.plan.PlanLine.{PlanLine}
use Rattle.volume_files.specs.vm_script.Blocks.{AreProcessBlocks, over, block, IsWithin, Nests}
use Rattle.volume_files.specs.vm_script.Counts.{parts, entry_count}
use Rattle.volume_files.specs.vm_script.PlanSeen.{PlanSeen}
use Rattle.volume_files.specs.vm_script.Told.{own_lines}
use Rattle.vm_core.specs.vm_world.State.{room_of}
use Rattle.volume_files.proofs.vm_script.Ranges.{within}
use Rattle.run_kernel.specs.Played.{HasRoomForPlan}

-- the lines of blocks that nest are those of processes from n on and below m
record AreOf (n m : ℕ) (lines : List PlanLine) : Type 0 where
  up : n ≤ m
  all : All (λ (l : PlanLine). (n ≤ l.process) × (l.process < m)) lines

blocks-of : (parents : List ℕ) (n m : ℕ) (lines : List PlanLine) → AreProcessBlocks parents n lines m → AreOf n m lines
blocks-of parents n m lines (over _) = record { up = omega arith; all = All-nil (λ (l : PlanLine). (n ≤ l.process) × (l.process < n)) }
blocks-of parents n m lines (block _ k _ own rest is whole more) =
    let c = within parents n (n + 1) k own whole in
    let h = blocks-of parents k m rest more in
    let up = c.up in
    let on = h.up in
    record {
      up = omega (arith, up, on);
      all = All-append (λ (l : PlanLine). (n ≤ l.process) × (l.process < m)) own rest
          (All-weaker (IsWithin n (n + 1) k) (λ (l : PlanLine). (n ≤ l.process) × (l.process < m))
          (λ l h. elim h [ inl e ↦ (omega (arith, e), omega (arith, e, up, on)) | inr r ↦ (let a = r.0 in let b = r.1 in (omega (arith, a), omega (arith, b, on))) ]) own c.all)
          (All-weaker (λ (l : PlanLine). (k ≤ l.process) × (l.process < m)) (λ (l : PlanLine). (n ≤ l.process) × (l.process < m)) (λ l r. let a = r.0 in (omega (arith, a, up), r.1)) rest h.all);
    }

-- each line is one of a process of the plan
abbrev pub IsOwned : ℕ → PlanLine → Type 0
IsOwned count l = (1 ≤ l.process) × (l.process ≤ count)

pub owned : (plan : PlanSeen) → Nests plan → All (IsOwned (length plan.parents)) plan.lines
owned plan nests =
    All-weaker (λ (l : PlanLine). (1 ≤ l.process) × (l.process < length plan.parents + 1)) (IsOwned (length plan.parents)) (λ l h. let b = h.1 in (h.0, omega (arith, b))) plan.lines
    (blocks-of plan.parents 1 (length plan.parents + 1) plan.lines nests).all

-- the entries of a line, as far as they are a process's
abbrev pub part_of : ℕ → PlanLine → ℕ
part_of p l = cond (l.process == p) (parts l.act) 0

own-entries : (p : ℕ) (lines : List PlanLine) → entry_count (filter (λ (l : PlanLine). l.process == p) lines) ≡ sum_by (part_of p) lines
own-entries p [] = refl
own-entries p (l ∷ lines) = by_test (l.process == p) (own-entries p lines) ∙ sym (sum_by-cons (part_of p) l lines)
  where
    by_test : (b : Bool) → entry_count (filter (λ (k : PlanLine). k.process == p) lines) ≡ sum_by (part_of p) lines
        → entry_count (cond b (l ∷ filter (λ (k : PlanLine). k.process == p) lines) (filter (λ (k : PlanLine). k.process == p) lines)) ≡ cond b (parts l.act) 0 + sum_by (part_of p) lines
    by_test true rest = sum_by-cons (λ (k : PlanLine). parts k.act) l (filter (λ (k : PlanLine). k.process == p) lines) ∙ ap (λ (n : ℕ). parts l.act + n) rest
    by_test false rest = rest ∙ sym (zero-add (sum_by (part_of p) lines))

-- no process past these has a line
none-own : (p count : ℕ) (lines : List PlanLine) → ¬ ((1 ≤ p) × (p ≤ count)) → All (IsOwned count) lines → sum_by (part_of p) lines ≡ 0
none-own p count [] far all = refl
none-own p count (l ∷ lines) far all =
    let head : IsOwned count l = All-head (IsOwned count) l lines all in
    let apart : l.process ≢ p = λ e. far (subst (λ (q : ℕ). (1 ≤ q) × (q ≤ count)) e head) in
    sum_by-cons (part_of p) l lines ∙ ap (λ (b : Bool). cond b (parts l.act) 0 + sum_by (part_of p) lines) (ne_eqb l.process p apart)
    ∙ zero-add (sum_by (part_of p) lines) ∙ none-own p count lines far (All-tail (IsOwned count) l lines all)

-- THE ROOMS: of each process the entries of its lines among these.
abbrev pub HaveRooms : List PlanLine → List ℕ → Type 0
HaveRooms lines rooms = (p : ℕ) → p < length rooms → slice_index rooms p ≡ sum_by (part_of (suc p)) lines

pub rooms-none : (count : ℕ) → HaveRooms [] (replicate count 0)
rooms-none zero p lt = absurd (omega (arith, lt))
rooms-none (suc count) zero lt = refl
rooms-none (suc count) (suc p) lt = zeros count p
  where
    zeros : (n k : ℕ) → slice_index (replicate n 0) k ≡ 0
    zeros zero k = refl
    zeros (suc n) zero = refl
    zeros (suc n) (suc k) = zeros n k

-- a line of the plan is one of a process that has a room
pub item-owned : (plan : PlanSeen) (lines : List PlanLine) (rooms : List ℕ) (i : ℕ) (l : PlanLine) → Nests plan → lines ≡ plan.lines
    → length rooms ≡ length plan.parents → i < length lines → l ≡ slice_index_or lines i l → IsOwned (length rooms) l
item-owned plan lines rooms i l nests same count lt at =
    let all : All (IsOwned (length plan.parents)) lines = subst (All (IsOwned (length plan.parents))) (sym same) (owned plan nests) in
    subst (λ (n : ℕ). IsOwned n l) (sym count) (subst (IsOwned (length plan.parents)) (sym at) (all i l lt))

-- the part of a line's own process is all of it
own-part : (l : PlanLine) → 1 ≤ l.process → part_of (suc (l.process - 1)) l ≡ parts l.act
own-part l low = ap (λ (b : Bool). cond b (parts l.act) 0) (eq-eqb l.process (suc (l.process - 1)) (omega arith))

pub room-fits : (lines : List PlanLine) (rooms : List ℕ) (i : ℕ) (l : PlanLine) → i < length lines → slice_index_or lines i l ≡ l → IsOwned (length rooms) l
    → HaveRooms (take i lines) rooms → entry_count lines ≤ 1048576
    → slice_index rooms (l.process - 1) + parts l.act < 2 ^ 32
room-fits lines rooms i l lt at own have few =
    let low = own.0 in
    let high = own.1 in
    let p = suc (l.process - 1) in
    let here = have (l.process - 1) (omega (arith, low, high)) in
    let sum = sum_by_more_le_part (part_of p) (λ (k : PlanLine). parts k.act) lines i l lt (λ k. by_test (k.process == p) k) in
    let same : parts (slice_index_or lines i l).act ≡ parts l.act = ap (λ (k : PlanLine). parts k.act) at in
    omega (arith, here, sum, same, few)
  where
    by_test : (b : Bool) (k : PlanLine) → cond b (parts k.act) 0 ≤ parts k.act
    by_test true k = omega arith
    by_test false k = omega arith

pub rooms-more : (lines : List PlanLine) (rooms : List ℕ) (i : ℕ) (l : PlanLine) → i < length lines → slice_index_or lines i l ≡ l → IsOwned (length rooms) l → HaveRooms (take i lines) rooms
    → HaveRooms (take (i + 1) lines) (slice_set rooms (l.process - 1) (slice_index rooms (l.process - 1) + parts l.act))
rooms-more lines rooms i l lt at own have p below =
    let low = own.0 in
    let high = own.1 in
    let place = l.process - 1 in
    let value = slice_index rooms place + parts l.act in
    let count : length (slice_set rooms place value) ≡ length rooms = length-set rooms place value in
    let in' : place < length rooms = omega (arith, low, high) in
    let sum = sum_by_more (part_of (suc p)) lines i l lt in
    elim (cases_eq p place) [
      | inl e ↦
          let here = have place in' in
          subst (λ (k : ℕ). slice_index (slice_set rooms place value) k ≡ sum_by (part_of (suc k)) (take (i + 1) lines)) (sym e)
          (get_or-set_same rooms place value 0 in' ∙ ap (λ (n : ℕ). n + parts l.act) here
          ∙ sym (sum_by_more (part_of (suc place)) lines i l lt ∙ ap (λ (n : ℕ). sum_by (part_of (suc place)) (take i lines) + n) (ap (part_of (suc place)) at ∙ own-part l low)))
      | inr ne ↦
          let other : l.process ≢ suc p = λ e. ne (omega (arith, e)) in
          get_or-set_other rooms place p value 0 ne ∙ have p (omega (arith, below, count))
          ∙ sym (sum ∙ ap (λ (n : ℕ). sum_by (part_of (suc p)) (take i lines) + n)
          (ap (part_of (suc p)) at ∙ ap (λ (b : Bool). cond b (parts l.act) 0) (ne_eqb l.process (suc p) other)) ∙ add-zero (sum_by (part_of (suc p)) (take i lines)))
    ]

-- a line's entries more in all
pub total-more : (lines : List PlanLine) (rooms : List ℕ) (i : ℕ) (l : PlanLine) → i < length lines → slice_index_or lines i l ≡ l → IsOwned (length rooms) l
    → sum_by (λ n. n) rooms ≡ entry_count (take i lines)
    → sum_by (λ n. n) (slice_set rooms (l.process - 1) (slice_index rooms (l.process - 1) + parts l.act)) ≡ entry_count (take (i + 1) lines)
total-more lines rooms i l lt at own total =
    let low = own.0 in
    let high = own.1 in
    let place = l.process - 1 in
    let old = slice_index rooms place in
    let set = sum_by-set (λ n. n) rooms place (old + parts l.act) 0 (omega (arith, low, high)) in
    let more = sum_by_more (λ (k : PlanLine). parts k.act) lines i l lt ∙ ap (λ (k : PlanLine). entry_count (take i lines) + parts k.act) at in
    omega (arith, set, more, total)

pub rooms-all : (plan : PlanSeen) (rooms : List ℕ) → Nests plan → length rooms ≡ length plan.parents → HaveRooms plan.lines rooms → sum_by (λ n. n) rooms ≡ entry_count plan.lines
    → entry_count plan.lines ≤ 1048576 → HasRoomForPlan plan rooms
rooms-all plan rooms nests count have total few = record { each = each; all = omega (arith, total, few) }
  where
    each : (p : ℕ) → entry_count (own_lines plan p) ≤ room_of rooms p
    each zero = let none = own-entries 0 plan.lines ∙ none-own 0 (length plan.parents) plan.lines (λ h. absurd (let a = h.0 in omega (arith, a))) (owned plan nests) in omega (arith, none)
    each (suc p) = elim (cases_lt p (length rooms)) [
      | inl lt ↦ let here = own-entries (suc p) plan.lines ∙ sym (have p lt) in omega (arith, here)
      | inr ge ↦
          let none = own-entries (suc p) plan.lines ∙ none-own (suc p) (length plan.parents) plan.lines (λ h. absurd (let a = h.1 in omega (arith, a, count, ge))) (owned plan nests) in
          omega (arith, none)
    ]
