-- A Map at the lowest gap is one at the gap's address; and where there is no gap, it is refused.
use Rattle.std.proofs.Common.{◌≡◌, ℕ, ◌+◌, ◌-◌, ◌*◌, ◌<◌, ◌≤◌, Bool, true, false, not, List, Option, Some, None, refl, sym, ap, ◌∙◌, arith}
use Rattle.std.specs.Prelude.{if◌then◌else◌, is_some, nat_le, IsSome, Result, Ok, Err, ok_or, ◌==◌, ◌%◌, option_map}
use Rattle.std.specs.FinMap as finite
use Rattle.std.specs.FinSet as set
use Rattle.std.specs.Ordering.{nat_cmp}
use Rattle.std.proofs.lemmas.Bool.{and_from, and_parts, le-leb}
use Rattle.std.proofs.Math.Nat.{mul-div_cancel_left}
use Rattle.seg_vn.specs.addr_space.Space.{Part, FindsGap, page_total, part_at, piece_at}
use Rattle.seg_vn.specs.page_store.Notes.{Notes}
use Rattle.seg_vn.specs.vm_types.declared.call.Errno.{Errno}
use Rattle.seg_vn.specs.vm_types.declared.call.Errno.TheVariants as errno
use Rattle.seg_vn.specs.vm_types.declared.call.Place.TheVariants.{At}
use Rattle.seg_vn.specs.vm_types.declared.call.Reply.{Reply}
use Rattle.seg_vn.specs.vm_types.declared.call.Reply.TheVariants as reply
use Rattle.seg_vn.specs.vm_types.Prot.{is_within}
use Rattle.seg_vn.specs.flat_model.Access.{with_space}
use Rattle.seg_vn.specs.flat_model.Flat.{Cell, Flat, space_of, reserved}
use Rattle.seg_vn.specs.flat_model.Mapping.{cells_of, is_there, is_valid, map_result, max_of, with_mapping, without_replaced}
use Rattle.seg_vn.specs.flat_model.Refusals.{◌>>=◌, ◌>>◌, Effect, check, or_refused}
use Rattle.seg_vn.specs.flat_model.Space.{lowest_gap, without_range}
use Rattle.seg_vn.specs.flat_model.Step.{effect}
use Rattle.seg_vn.specs.flat_model.Words.{page, pages_in}
use Rattle.seg_vn.proofs.flat_model.Reserve.{some_pages}
use Rattle.seg_vn.specs.vm_world.FlatMemory.{Memory, flat_memory, cell_of}
use Rattle.seg_vn.specs.vm_world.Pages.{place_contents, page_value}
use Rattle.seg_vn.specs.vm_world.Segments.{Spot}
use Rattle.seg_vn.specs.vm_world.declared.segment.Segment.{Segment}
use Rattle.seg_vn.proofs.vm_world.LowestGaps.{gap_rule, nothing-replaced}
use Rattle.seg_vn.proofs.vm_world.SegmentCells.{segment_cells}
use Rattle.seg_vn.proofs.vm_world.SegmentSteps.{segment_rule}
use Rattle.seg_vn.proofs.vm_world.SweptFlat.{cell-is, space-is}
use Rattle.seg_vn.specs.Clears.{SpaceFits}
use Rattle.mmap_calls.specs.declared.refusals.MapRequest.{MapRequest}
use Rattle.mmap_calls.specs.Answers.{AnswersAtOnce}
use Rattle.mmap_calls.specs.Refusals.{any_request, is_object_there, map_any_call, map_call, map_request, most_allowed}
use Rattle.mmap_calls.proofs.MapResults.{most-seen, there-seen}

-- the tests of a Map with the gap that it finds, one after another
abbrev tested_in : {X : Type 0} → Bool → Bool → Bool → Bool → Option ℕ → (ℕ → Result X Errno) → Result X Errno
tested_in valid there within few gap rest = do
  check valid errno.Invalid
  check there errno.NoObject
  check within errno.Access
  check few errno.TooLarge
  first ← ok_or gap errno.NoRoom
  rest first

-- the last test, and what a Map comes to
abbrev backed_by : ℕ → Flat → ℕ → Result (ℕ × Flat) Errno
backed_by slots new first = do
  check (nat_le (reserved new) slots) errno.NoSwap
  Ok (first, new)

any-tested : (F : Flat) (p : ℕ) (q : MapRequest) → map_result F p (any_request q)
    ≡ tested_in (is_valid (any_request q)) (is_there F q.object) (is_within q.prot (max_of F q.kind q.object)) (nat_le (finite.len (cells_of F p) + pages_in q.length) 65536) (lowest_gap (cells_of F p) (pages_in q.length)) (λ first. backed_by F.slots (with_mapping F p (any_request q) first) first)
unfolding map_result
any-tested F p q = refl

at-tested : (F : Flat) (p : ℕ) (q : MapRequest) → map_result F p (map_request q)
    ≡ tested_in (is_valid (map_request q)) (is_there F q.object) (is_within q.prot (max_of F q.kind q.object)) (nat_le (finite.len (cells_of (without_replaced F p (At q.addr) (pages_in q.length)) p) + pages_in q.length) 65536) (Some (page q.addr)) (λ first. backed_by F.slots (with_mapping F p (map_request q) first) first)
unfolding map_result
at-tested F p q = refl

-- the same request at an address
abbrev pub placed_at : MapRequest → ℕ → MapRequest
placed_at q addr = record q { addr = addr }

-- IN A GAP it is that at the gap's address
valid-placed : (q : MapRequest) (first : ℕ) → is_valid (any_request q) ≡ true → 1 ≤ first → first + pages_in q.length ≤ 0x80000 → is_valid (map_request (placed_at q (4096 * first))) ≡ true
valid-placed q first valid low high =
    let outer = and_parts _ _ valid in
    let inner = and_parts _ _ outer.0 in
    let at : page (4096 * first) ≡ first = mul-div_cancel_left first (omega arith) in
    let begins : ((4096 * first) % 4096 == 0) ≡ true = ap (λ (k : ℕ). k == 0) (let z : (4096 * first) % 4096 ≡ 0 = omega arith in z) in
    let above : nat_le 1 (page (4096 * first)) ≡ true = ap (nat_le 1) at ∙ le-leb 1 first low in
    let below : nat_le (page (4096 * first) + pages_in q.length) 0x80000 ≡ true = ap (λ (k : ℕ). nat_le (k + pages_in q.length) 0x80000) at ∙ le-leb (first + pages_in q.length) 0x80000 high in
    and_from _ _ (and_from _ _ (and_from _ _ (and_from _ _ (and_from _ _ begins inner.0) above) below) inner.1) outer.1

any-placed : (F : Flat) (p first : ℕ) (q : MapRequest) → IsSome (space_of F p) → is_valid (any_request q) ≡ true → 1 ≤ first → first + pages_in q.length ≤ 0x80000 → lowest_gap (cells_of F p) (pages_in q.length) ≡ Some first
    → ((k : ℕ) → first ≤ k → k < first + pages_in q.length → finite.get (cells_of F p) k ≡ None) → map_result F p (any_request q) ≡ map_result F p (map_request (placed_at q (4096 * first)))
any-placed F p first q alive valid low high gap free =
    let n : ℕ = pages_in q.length in
    let b : MapRequest = placed_at q (4096 * first) in
    let at : page (4096 * first) ≡ first = mul-div_cancel_left first (omega arith) in
    let none : without_replaced F p (At (4096 * first)) n ≡ F = ap (λ (k : ℕ). with_space F p (without_range (cells_of F p) k n)) at ∙ nothing-replaced F p first n alive free in
    let v = valid ∙ sym (valid-placed q first valid low high) in
    let t : Bool = is_there F q.object in
    let w : Bool = is_within q.prot (max_of F q.kind q.object) in
    let maps : with_mapping F p (any_request q) first ≡ with_mapping F p (map_request b) first = gap_rule.mapping F p first (any_request q) alive refl free in
    any-tested F p q
    ∙ (λ i. tested_in (v i) t w (nat_le (finite.len (cells_of (sym none i) p) + n) 65536) (gap i) (λ k. backed_by F.slots (with_mapping F p (any_request q) k) k))
    ∙ (λ i. tested_in (is_valid (map_request b)) t w (nat_le (finite.len (cells_of (without_replaced F p (At (4096 * first)) n) p) + n) 65536) (Some first) (λ k. backed_by F.slots (maps i) first))
    ∙ (λ i. tested_in (is_valid (map_request b)) t w (nat_le (finite.len (cells_of (without_replaced F p (At (4096 * first)) n) p) + n) 65536) (Some (sym at i)) (λ k. backed_by F.slots (with_mapping F p (map_request b) k) k))
    ∙ sym (at-tested F p b)

none-cell : (cell : Spot → Cell) (parts : List (Part Segment)) (k : ℕ) → part_at parts k ≡ None → option_map cell (piece_at parts k) ≡ None
none-cell cell parts k is = ap (λ (o : Option (Part Segment)). option_map cell (option_map {U = Spot} (λ (x : Part Segment). (x.piece, k - x.first)) o)) is

module _ (m : Memory) (p : ℕ) (parts : List (Part Segment)) (zeros : List (Option ℕ)) (fits : SpaceFits m.world zeros m.spaces p parts) (q : MapRequest) where
  module _ (first : ℕ) (valid : is_valid (any_request q) ≡ true) (finds : FindsGap parts (pages_in q.length) (Some first)) (born : set.FinSet nat_cmp) (notes : Notes) where
    abbrev F : Flat
    F = flat_memory m born notes

    as-placed : effect F p (map_any_call q) ≡ effect F p (map_call (placed_at q (4096 * first)))
    as-placed = ap (or_refused F (λ (x : ℕ × Flat). record { reply = reply.Mapped (4096 * x.0); after = x.1 }))
        (any-placed F p first q (ap is_some (space-is m p parts born notes fits.here)) valid finds.0.low finds.0.within (gap_rule.gap m p (pages_in q.length) parts (Some first) born notes fits.memory fits.here (some_pages (any_request q) valid) finds)
        (λ k low high. cell-is m p parts born notes k fits.here ∙ none-cell (cell_of (place_contents (page_value m.world notes) m.world.maps)) parts k (finds.0.free k low high)))

  -- what is answered there is answered to it
  pub gap-answers : (first : ℕ) (new : Memory) (r : Reply) → is_valid (any_request q) ≡ true → FindsGap parts (pages_in q.length) (Some first) → AnswersAtOnce p m new (map_call (placed_at q (4096 * first))) r → AnswersAtOnce p m new (map_any_call q) r
  gap-answers first new r valid finds a = record {
    changes = segment_rule.same p m new (λ F. (effect F p (map_call (placed_at q (4096 * first)))).after) (λ F. (effect F p (map_any_call q)).after) (λ born notes. sym (ap (λ (x : Effect). x.after) (as-placed first valid finds born notes))) a.changes;
    plain = a.plain;
    due = λ born notes. ap (λ (x : Effect). x.reply) (as-placed first valid finds born notes) ∙ a.due born notes;
    modified = a.modified;
  }

  -- WITHOUT A GAP it is refused, by what doesn't look at the gap first
  abbrev pub gapless_by : Bool → Bool → Bool → Errno
  gapless_by there within few = if there then (if within then (if few then errno.NoRoom else errno.TooLarge) else errno.Access) else errno.NoObject

  pub gapless : is_valid (any_request q) ≡ true → FindsGap parts (pages_in q.length) None → (t w l : Bool) → is_object_there m.world zeros q.object ≡ t → is_within q.prot (most_allowed m.world q.kind q.object) ≡ w → nat_le (page_total parts + pages_in q.length) 65536 ≡ l
      → (born : set.FinSet nat_cmp) (notes : Notes) → map_result (flat_memory m born notes) p (any_request q) ≡ Err (gapless_by t w l)
  gapless valid finds t w l there within few born notes =
      let G : Flat = flat_memory m born notes in
      let n : ℕ = pages_in q.length in
      let seen = there-seen m born notes zeros p parts fits q.object ∙ there in
      let count = segment_cells.count m p parts born notes fits.memory fits.here in
      let gap = gap_rule.gap m p n parts None born notes fits.memory fits.here (some_pages (any_request q) valid) finds in
      any-tested G p q
      ∙ (λ i. tested_in (valid i) (seen i) (is_within q.prot (max_of G q.kind q.object)) (nat_le (finite.len (cells_of G p) + n) 65536) (gap i) (λ k. backed_by G.slots (with_mapping G p (any_request q) k) k))
      ∙ by_there t there G (finite.len (cells_of G p)) count (most-seen m born notes zeros q.kind q.object)
    where
      by_there : (t : Bool) → is_object_there m.world zeros q.object ≡ t → (G : Flat) (count : ℕ) → count ≡ page_total parts → (is_object_there m.world zeros q.object ≡ true → max_of G q.kind q.object ≡ most_allowed m.world q.kind q.object)
          → tested_in true t (is_within q.prot (max_of G q.kind q.object)) (nat_le (count + pages_in q.length) 65536) None (λ k. backed_by G.slots (with_mapping G p (any_request q) k) k) ≡ Err (gapless_by t w l)
      by_there false there G count is most = refl
      by_there true there G count is most =
          (λ i. tested_in true true (is_within q.prot (most there i)) (nat_le (is i + pages_in q.length) 65536) None (λ k. backed_by G.slots (with_mapping G p (any_request q) k) k))
          ∙ by_rest (is_within q.prot (most_allowed m.world q.kind q.object)) (nat_le (page_total parts + pages_in q.length) 65536) within few
        where
          by_rest : (u k : Bool) → u ≡ w → k ≡ l → tested_in true true u k None (λ k. backed_by G.slots (with_mapping G p (any_request q) k) k) ≡ Err (gapless_by true w l)
          by_rest false k e d = ap (λ (b : Bool). Err (gapless_by true b l)) e
          by_rest true false e d = (λ i. Err (gapless_by true (e i) (d i)))
          by_rest true true e d = (λ i. Err (gapless_by true (e i) (d i)))

-- A Map that is refused so, in flat memory
pub refused-any : (F : Flat) (p : ℕ) (q : MapRequest) (e : Errno) → map_result F p (any_request q) ≡ Err e → effect F p (map_any_call q) ≡ record { reply = reply.Refused e; after = F }
refused-any F p q e is = ap (or_refused F (λ (x : ℕ × Flat). record { reply = reply.Mapped (4096 * x.0); after = x.1 })) is

pub invalid-any : (F : Flat) (p : ℕ) (q : MapRequest) → is_valid (any_request q) ≡ false → map_result F p (any_request q) ≡ Err errno.Invalid
invalid-any F p q not = any-tested F p q ∙ (λ i. tested_in (not i) (is_there F q.object) (is_within q.prot (max_of F q.kind q.object)) (nat_le (finite.len (cells_of F p) + pages_in q.length) 65536) (lowest_gap (cells_of F p) (pages_in q.length)) (λ first. backed_by F.slots (with_mapping F p (any_request q) first) first))
