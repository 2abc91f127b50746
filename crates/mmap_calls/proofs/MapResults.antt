-- What a Map comes to in flat memory, by the refusal that is due.
use Rattle.seg_vn.proofs.flat_model.Ranges.{both_true as both}
use Rattle.std.proofs.Common.{◌≡◌, ℕ, zero, suc, ◌+◌, ◌-◌, ◌≤◌, Bool, true, false, cond, not, List, [], ◌∷◌, length, map, Option, Some, None, refl, sym, ap, ◌∙◌, inl, inr, subst, arith}
use Rattle.std.specs.Prelude.{option_map, is_some, nat_le, nat_lt, IsSome, Result, Ok, Err, slice_get, slice_index_or}
use Rattle.std.specs.Option.{option_map_or}
use Rattle.std.specs.FinMap as finite
use Rattle.std.specs.FinSet as set
use Rattle.std.specs.Ordering.{nat_cmp}
use Rattle.std.proofs.lemmas.Bool.{cases_lt, lt-ltb, le-ltb, leb-true}
use Rattle.seg_vn.specs.addr_space.Space.{Part, part, page_total, LiesFrom}
use Rattle.seg_vn.specs.page_store.Notes.{Notes, no_notes}
use Rattle.seg_vn.specs.vnode_files.declared.vnode.FileInfo.{FileInfo}
use Rattle.seg_vn.specs.vnode_files.Vnode.{VnodeSeen}
use Rattle.seg_vn.specs.vm_types.declared.call.Errno.{Errno}
use Rattle.seg_vn.specs.vm_types.declared.call.Errno.TheVariants as errno
use Rattle.seg_vn.specs.vm_types.declared.call.Kind.{Kind}
use Rattle.seg_vn.specs.vm_types.declared.call.Kind.TheVariants.{Shared, Private}
use Rattle.seg_vn.specs.vm_types.declared.call.Object.{Object}
use Rattle.seg_vn.specs.vm_types.declared.call.Object.TheVariants as object
use Rattle.seg_vn.specs.vm_types.declared.call.Place.TheVariants.{At}
use Rattle.seg_vn.specs.vm_types.Prot.{is_within}
use Rattle.seg_vn.specs.flat_model.Flat.{Flat, Space, space_of, reserved, slots_for}
use Rattle.seg_vn.specs.flat_model.Flat as flat
use Rattle.seg_vn.specs.flat_model.Mapping.{Request, cells_of, is_valid, is_there, max_of, without_replaced, with_mapping, without_pages, map_result, prot_read, prot_read_write}
use Rattle.seg_vn.specs.flat_model.Refusals.{◌>>◌, check}
use Rattle.seg_vn.specs.flat_model.ReserveLaws.{IsPlaced, zero_pages_gone, zero_pages_back}
use Rattle.seg_vn.specs.flat_model.Space.{without_range}
use Rattle.seg_vn.specs.flat_model.Words.{page, pages_in}
use Rattle.seg_vn.proofs.flat_model.Mappings.{cells_of-with_space}
use Rattle.seg_vn.proofs.flat_model.Reserve.{some_pages, reserved-shared_map, reserved-private_map, reserved-new_zero_map, reserved-unmap}
use Rattle.seg_vn.proofs.flat_model.Sums.{total, total-without_range}
use Rattle.seg_vn.specs.vm_world.FlatMemory.{Memory, flat_memory, file_with_pages, space_with}
use Rattle.seg_vn.specs.vm_world.Pages.{contents_of}
use Rattle.seg_vn.specs.vm_world.declared.segment.Segment.{Segment}
use Rattle.seg_vn.proofs.vm_world.FilePages.{file-in}
use Rattle.seg_vn.proofs.vm_world.Maps.{get-map_with}
use Rattle.seg_vn.proofs.vm_world.PageNames.{info-there}
use Rattle.seg_vn.proofs.vm_world.SegmentCells.{segment_cells, some-mapped}
use Rattle.seg_vn.specs.Clears.{SpaceFits}
use Rattle.mmap_calls.specs.declared.refusals.MapRequest.{MapRequest}
use Rattle.mmap_calls.specs.GivenUp.{given_up}
use Rattle.mmap_calls.specs.RangeCounts.{mapped_pages, slots_of_range}
use Rattle.mmap_calls.specs.Refusals.{IsMapRefusal, is_object_there, map_outcome, map_request, most_allowed, pages_after, refusal_of, reserved_after, slots_for_pages}
use Rattle.mmap_calls.proofs.Counted.{left-cells, left-slots}
use Rattle.mmap_calls.proofs.ZerosGone.{gone-given}

-- the tests of a Map, one after another, and the refusal that they come to
abbrev tested : {X : Type 0} → Bool → Bool → Bool → Bool → Bool → X → Result X Errno
tested valid there within few backed new = do
  check valid errno.Invalid
  check there errno.NoObject
  check within errno.Access
  check few errno.TooLarge
  check backed errno.NoSwap
  Ok new

abbrev pub refusal_by : Bool → Bool → Bool → Bool → Bool → Option Errno
refusal_by v t w l b = cond (not v) (Some errno.Invalid) (cond (not t) (Some errno.NoObject) (cond (not w) (Some errno.Access) (cond (not l) (Some errno.TooLarge) (cond (not b) (Some errno.NoSwap) None))))

pub placed : (q : MapRequest) (s : Segment) → is_valid (map_request q) ≡ true → LiesFrom 1 (part (page q.addr) (pages_in q.length) s)
placed q s valid =
    let range = (both _ _ (both _ _ valid).0).0 in
    let ends = both _ _ range in
    let low = leb-true 1 (page q.addr) (both _ _ ends.0).1 in
    let high = leb-true (page q.addr + pages_in q.length) 0x80000 ends.1 in
    let some = some_pages (map_request q) valid in
    record { behind = low; some = some; within = high }

-- what a call comes to: it is refused, or gives this
abbrev pub outcome : {X : Type 0} → X → Option Errno → Result X Errno
outcome new None = Ok new
outcome new (Some e) = Err e

tested-is : {X : Type 0} (v t w l b : Bool) (new : X) → tested v t w l b new ≡ outcome new (refusal_by v t w l b)
tested-is false t w l b new = refl
tested-is true false w l b new = refl
tested-is true true false l b new = refl
tested-is true true true false b new = refl
tested-is true true true true false new = refl
tested-is true true true true true new = refl

-- what comes later counts only where all before is passed
same-due : (v t w u l b c : Bool) → (t ≡ true → w ≡ u) → (v ≡ true → t ≡ true → b ≡ c) → refusal_by v t w l b ≡ refusal_by v t u l c
same-due false t w u l b c most back = refl
same-due true false w u l b c most back = refl
same-due true true w u l b c most back = ap (λ (x : Bool). refusal_by true true x l b) (most refl) ∙ ap (refusal_by true true u l) (back refl refl)

map-tested : (F : Flat) (p a : ℕ) (r : Request) → r.place ≡ At a → map_result F p r
    ≡ tested (is_valid r) (is_there F r.object) (is_within r.prot (max_of F r.kind r.object)) (nat_le (finite.len (cells_of (without_replaced F p r.place (pages_in r.len)) p) + pages_in r.len) 65536)
    (nat_le (reserved (with_mapping F p r (page a))) F.slots) (page a, with_mapping F p r (page a))
unfolding map_result
map-tested F p a r place = rw place refl

-- where no refusal is due, each test is passed
pub record Passes (v t w l b : Bool) : Type 0 where
  pub valid : v ≡ true
  pub there : t ≡ true
  pub within : w ≡ true
  pub few : l ≡ true
  pub backed : b ≡ true

pub passes : (v t w l b : Bool) → refusal_by v t w l b ≡ None → Passes v t w l b
passes false t w l b none = absurd (let z : Some errno.Invalid ≡ None = none in cc)
passes true false w l b none = absurd (let z : Some errno.NoObject ≡ None = none in cc)
passes true true false l b none = absurd (let z : Some errno.Access ≡ None = none in cc)
passes true true true false b none = absurd (let z : Some errno.TooLarge ≡ None = none in cc)
passes true true true true false none = absurd (let z : Some errno.NoSwap ≡ None = none in cc)
passes true true true true true none = record { valid = refl; there = refl; within = refl; few = refl; backed = refl }

-- the files of flat memory
seen-info : (xs : List VnodeSeen) (f : ℕ) → is_some (slice_get (map (λ (v : VnodeSeen). v.info) xs) f) ≡ nat_lt f (length xs)
seen-info [] f = sym (le-ltb f 0 (omega arith))
seen-info (x ∷ xs) zero = sym (lt-ltb 0 (suc (length xs)) (omega arith))
seen-info (x ∷ xs) (suc f) = seen-info xs f ∙ by_test (nat_lt f (length xs)) refl
  where
    by_test : (b : Bool) → nat_lt f (length xs) ≡ b → b ≡ nat_lt (suc f) (suc (length xs))
    by_test b is = sym is ∙ elim (cases_lt f (length xs)) [
      | inl lt ↦ lt-ltb f (length xs) lt ∙ sym (lt-ltb (suc f) (suc (length xs)) (omega (arith, lt)))
      | inr ge ↦ le-ltb f (length xs) ge ∙ sym (le-ltb (suc f) (suc (length xs)) (omega (arith, ge)))
    ]

module _ (m : Memory) (born : set.FinSet nat_cmp) (notes : Notes) where
  file-seen : (f : ℕ) → slice_get (flat_memory m born notes).files f ≡ option_map (file_with_pages ((contents_of m.world notes).file f)) (slice_get (map (λ (v : VnodeSeen). v.info) m.world.files.files) f)
  file-seen f = file-in (contents_of m.world notes).file 0 f (map (λ (v : VnodeSeen). v.info) m.world.files.files)
      ∙ (let e : 0 + f ≡ f = omega arith in ap (λ (j : ℕ). option_map (file_with_pages ((contents_of m.world notes).file j)) (slice_get (map (λ (v : VnodeSeen). v.info) m.world.files.files) f)) e)

  pub there-seen : (zeros : List (Option ℕ)) (p : ℕ) (parts : List (Part Segment)) → SpaceFits m.world zeros m.spaces p parts → (o : Object) → is_there (flat_memory m born notes) o ≡ is_object_there m.world zeros o
  there-seen zeros p parts fits (object.File f) =
      some-mapped (λ (file : flat.File). file.pages) (slice_get (flat_memory m born notes).files f) ∙ ap (λ (o : Option flat.File). is_some o) (file-seen f)
      ∙ some-mapped (file_with_pages ((contents_of m.world notes).file f)) (slice_get (map (λ (v : VnodeSeen). v.info) m.world.files.files) f) ∙ seen-info m.world.files.files f
  there-seen zeros p parts fits object.NewZero = refl
  there-seen zeros p parts fits (object.Zero z) = segment_cells.there m born notes z fits.memory ∙ ap (λ (o : Option ℕ). is_some o) (fits.known z)

  most-of-file : (f : ℕ) → nat_lt f (length m.world.files.files) ≡ true → max_of (flat_memory m born notes) Shared (object.File f) ≡ most_allowed m.world Shared (object.File f)
  most-of-file f lt = ap (λ (o : Option flat.File). option_map_or (λ (file : flat.File). cond file.writable prot_read_write prot_read) o prot_read_write) (file-seen f)
      ∙ by_info (slice_get (map (λ (v : VnodeSeen). v.info) m.world.files.files) f) refl
    where
      by_info : (o : Option FileInfo) → slice_get (map (λ (v : VnodeSeen). v.info) m.world.files.files) f ≡ o
          → option_map_or (λ (file : flat.File). cond file.writable prot_read_write prot_read) (option_map (file_with_pages ((contents_of m.world notes).file f)) o) prot_read_write ≡ most_allowed m.world Shared (object.File f)
      by_info None e = absurd (let z : false ≡ true = sym (ap (λ (o : Option FileInfo). is_some o) e) ∙ seen-info m.world.files.files f ∙ lt in cc)
      by_info (Some info) e = ap (λ (i : FileInfo). cond i.writable prot_read_write prot_read) (sym (info-there m.world.files f info e).1)

  pub most-seen : (zeros : List (Option ℕ)) (kind : Kind) (o : Object) → is_object_there m.world zeros o ≡ true → max_of (flat_memory m born notes) kind o ≡ most_allowed m.world kind o
  most-seen zeros Shared (object.File f) there = most-of-file f there
  most-seen zeros Shared (object.Zero z) there = refl
  most-seen zeros Shared object.NewZero there = refl
  most-seen zeros Private o there = refl

-- WHAT IS RESERVED with the new mapping
reserved-with : (F : Flat) (p : ℕ) (r : Request) (first : ℕ) (kind : Kind) → IsSome (space_of F p) → IsPlaced F p r first → r.kind ≡ kind
    → reserved (with_mapping F p r first) ≡ reserved (without_pages F p first (pages_in r.len)) + slots_for_pages kind r.object (pages_in r.len) + zero_pages_back F (without_pages F p first (pages_in r.len)) r.object
reserved-with F p r first Private alive placed is = reserved-private_map F p r first alive placed is
reserved-with F p r first Shared alive placed is = by_object r.object refl
  where
    by_object : (o : Object) → r.object ≡ o → reserved (with_mapping F p r first) ≡ reserved (without_pages F p first (pages_in r.len)) + slots_for_pages Shared o (pages_in r.len) + zero_pages_back F (without_pages F p first (pages_in r.len)) o
    by_object object.NewZero e = let new = reserved-new_zero_map F p r first alive placed is e in omega (arith, new)
    by_object (object.File f) e =
        let new = reserved-shared_map F p r first alive placed is (λ n. let z = sym e ∙ n in cc) in
        let back = ap (zero_pages_back F (without_pages F p first (pages_in r.len))) e in
        omega (arith, new, back)
    by_object (object.Zero z) e =
        let new = reserved-shared_map F p r first alive placed is (λ n. let z = sym e ∙ n in cc) in
        let back = ap (zero_pages_back F (without_pages F p first (pages_in r.len))) e in
        omega (arith, new, back)

outcome-is : (F : Flat) (p : ℕ) (q : MapRequest) (r : Option Errno) → outcome (page q.addr, with_mapping F p (map_request q) (page q.addr)) r ≡ map_outcome F p q r
outcome-is F p q None = refl
outcome-is F p q (Some e) = refl

module _ (m : Memory) (born : set.FinSet nat_cmp) (notes : Notes) (p : ℕ) (parts : List (Part Segment)) (zeros : List (Option ℕ)) (fits : SpaceFits m.world zeros m.spaces p parts) where
  pub alive-here : IsSome (space_of (flat_memory m born notes) p)
  alive-here = ap is_some (get-map_with (space_with (contents_of m.world notes).place) m.spaces p ∙ ap (option_map (space_with (contents_of m.world notes).place)) fits.here)

  -- the slots of the private pages of a range are given up with it, and those of the zero objects that it alone shows
  pub given-all : (first n : ℕ) → reserved (without_pages (flat_memory m born notes) p first n) + slots_of_range parts first (first + n) + zero_pages_gone (flat_memory m born notes) (without_pages (flat_memory m born notes) p first n) ≡ m.world.anon.reserved
  given-all first n =
      let F : Flat = flat_memory m born notes in
      let gone = reserved-unmap F p first n alive-here in
      let all = segment_cells.reserved m born notes fits.memory in
      let left = left-slots (contents_of m.world notes).place parts (fits.memory.segments.ordered p parts fits.here) first n in
      let halves = total-without_range slots_for (cells_of F p) first n in
      let cells = segment_cells.cells m p parts born notes fits.memory fits.here in
      let out = ap (λ (s : Space). total slots_for (without_range s first n)) cells in
      let whole = ap (λ (s : Space). total slots_for s) cells in
      omega (arith, gone, all, left, halves, out, whole)

  listed-there : (o : Object) → is_object_there m.world zeros o ≡ true → (z : ℕ) → o ≡ object.Zero z → is_some (slice_index_or zeros z None) ≡ true
  listed-there (object.File f) there z e = absurd (let k = e in cc)
  listed-there object.NewZero there z e = absurd (let k = e in cc)
  listed-there (object.Zero y) there z e = let same : y ≡ z = cc in ap (λ (k : ℕ). is_some (slice_index_or zeros k None)) (sym same) ∙ there

  pub given-within : (first n : ℕ) (o : Object) → is_object_there m.world zeros o ≡ true → slots_of_range parts first (first + n) + given_up m.world.maps zeros parts first (first + n) o (length zeros) ≤ m.world.anon.reserved
  given-within first n o there =
      let all = given-all first n in
      let gone = gone-given m born notes p parts zeros fits first n o (listed-there o there) in
      omega (arith, all, gone)

  -- what is mapped of a range is no more than all
  pub mapped-within : (first n : ℕ) → mapped_pages parts first (first + n) ≤ page_total parts
  mapped-within first n =
      let cells = segment_cells.cells m p parts born notes fits.memory fits.here in
      let count = ap (λ (s : Space). finite.len s) (sym cells) ∙ segment_cells.count m p parts born notes fits.memory fits.here in
      let left = left-cells (contents_of m.world notes).place parts (fits.memory.segments.ordered p parts fits.here) first n in
      omega (arith, count, left)

  left-here : (a n : ℕ) → finite.len (cells_of (without_replaced (flat_memory m born notes) p (At a) n) p) ≡ page_total parts - mapped_pages parts (page a) (page a + n)
  left-here a n =
      let F : Flat = flat_memory m born notes in
      let cells = segment_cells.cells m p parts born notes fits.memory fits.here in
      let count = ap (λ (s : Space). finite.len s) (sym cells) ∙ segment_cells.count m p parts born notes fits.memory fits.here in
      let same = cells_of-with_space F p (without_range (cells_of F p) (page a) n) ∙ ap (λ (s : Space). without_range s (page a) n) cells in
      let len = ap (λ (s : Space). finite.len s) same in
      let left = left-cells (contents_of m.world notes).place parts (fits.memory.segments.ordered p parts fits.here) (page a) n in
      omega (arith, count, len, left)

  backed-here : (q : MapRequest) → is_valid (map_request q) ≡ true → is_object_there m.world zeros q.object ≡ true → reserved (with_mapping (flat_memory m born notes) p (map_request q) (page q.addr)) ≡ reserved_after m.world zeros parts q
  backed-here q valid there =
      let F : Flat = flat_memory m born notes in
      let placed : IsPlaced F p (map_request q) (page q.addr) = record { valid = valid; there = there-seen m born notes zeros p parts fits q.object ∙ there; begin = refl } in
      let new = reserved-with F p (map_request q) (page q.addr) q.kind alive-here placed refl in
      let all = given-all (page q.addr) (pages_in q.length) in
      let gone = gone-given m born notes p parts zeros fits (page q.addr) (pages_in q.length) q.object (listed-there q.object there) in
      omega (arith, new, all, gone)

  -- THE RESULT of a Map: the refusal that is due, or the new mapping.
  pub results : (q : MapRequest) → map_result (flat_memory m born notes) p (map_request q) ≡ map_outcome (flat_memory m born notes) p q (refusal_of m.world zeros parts q)
  results q =
      let F : Flat = flat_memory m born notes in
      let new : ℕ × Flat = (page q.addr, with_mapping F p (map_request q) (page q.addr)) in
      let v : Bool = is_valid (map_request q) in
      let t : Bool = is_object_there m.world zeros q.object in
      let u : Bool = is_within q.prot (max_of F q.kind q.object) in
      let l : Bool = nat_le (pages_after parts q) 65536 in
      let c : Bool = nat_le (reserved (with_mapping F p (map_request q) (page q.addr))) F.slots in
      map-tested F p q.addr (map_request q) refl
      ∙ ap (λ (b : Bool). tested v b u (nat_le (finite.len (cells_of (without_replaced F p (At q.addr) (pages_in q.length)) p) + pages_in q.length) 65536) c new) (there-seen m born notes zeros p parts fits q.object)
      ∙ ap (λ (n : ℕ). tested v t u (nat_le (n + pages_in q.length) 65536) c new) (left-here q.addr (pages_in q.length))
      ∙ tested-is v t u l c new
      ∙ ap (outcome new) (sym (same-due v t (is_within q.prot (most_allowed m.world q.kind q.object)) u l _ c (λ there. ap (is_within q.prot) (sym (most-seen m born notes zeros q.kind q.object there)))
      (λ valid there. ap (λ (n : ℕ). nat_le n F.slots) (sym (backed-here q valid there)))))
      ∙ outcome-is F p q (refusal_of m.world zeros parts q)

-- THE REFUSAL is the one that is told from pieces and counts
pub refusal-is : (m : Memory) (p : ℕ) (parts : List (Part Segment)) (zeros : List (Option ℕ)) → SpaceFits m.world zeros m.spaces p parts → (q : MapRequest) → IsMapRefusal m p q (refusal_of m.world zeros parts q)
refusal-is m p parts zeros fits q born notes = results m born notes p parts zeros fits q

-- told by its tests
pub refusal-told : (m : Memory) (p : ℕ) (parts : List (Part Segment)) (zeros : List (Option ℕ)) → SpaceFits m.world zeros m.spaces p parts → (q : MapRequest) (v t w l b : Bool) → is_valid (map_request q) ≡ v → is_object_there m.world zeros q.object ≡ t
    → is_within q.prot (most_allowed m.world q.kind q.object) ≡ w → nat_le (pages_after parts q) 65536 ≡ l → nat_le (reserved_after m.world zeros parts q) (length m.world.anon.counts) ≡ b → IsMapRefusal m p q (refusal_by v t w l b)
refusal-told m p parts zeros fits q v t w l b valid there within few backed =
    subst (λ (r : Option Errno). IsMapRefusal m p q r) (λ i. refusal_by (valid i) (there i) (within i) (few i) (backed i)) (refusal-is m p parts zeros fits q)

-- and where none is due, each test is passed
pub passed : (m : Memory) (p : ℕ) (parts : List (Part Segment)) (zeros : List (Option ℕ)) → SpaceFits m.world zeros m.spaces p parts → (q : MapRequest) → IsMapRefusal m p q None
    → Passes (is_valid (map_request q)) (is_object_there m.world zeros q.object) (is_within q.prot (most_allowed m.world q.kind q.object)) (nat_le (pages_after parts q) 65536) (nat_le (reserved_after m.world zeros parts q) (length m.world.anon.counts))
passed m p parts zeros fits q none = passes _ _ _ _ _ (by_due (refusal_of m.world zeros parts q) (sym (none set.empty no_notes) ∙ results m set.empty no_notes p parts zeros fits q))
  where
    by_due : (r : Option Errno) → map_outcome (flat_memory m set.empty no_notes) p q None ≡ map_outcome (flat_memory m set.empty no_notes) p q r → r ≡ None
    by_due None e = refl
    by_due (Some x) e = absurd (let k = e in cc)
