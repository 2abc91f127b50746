-- What one entry leaves of the segments that live.
use Rattle.std.proofs.Common.{◌≡◌, ℕ, ◌+◌, ◌*◌, ◌-◌, ◌<◌, ◌≤◌, Bool, true, false, cond, Option}
use Rattle.std.proofs.Common.{Some, None, Result, Ok, Err, refl, sym, ap, subst, subst₂, ◌∙◌, arith}
use Rattle.std.proofs.Common.{add-zero, le_refl, true≢false}
use Rattle.std.specs.Prelude.{◌==◌, is_some, IsSome, IsSomeAnd, IsFalse, if◌then◌else◌}
use Rattle.std.specs.FinMap as map
use Rattle.std.proofs.lemmas.Bool.{eqb-true}
use Rattle.flat_model.specs.vm_types.declared.call.Call.{Call}
use Rattle.flat_model.specs.vm_types.declared.call.Call.TheVariants.{Unmap}
use Rattle.flat_model.specs.vm_types.declared.call.Entry.{Entry}
use Rattle.flat_model.specs.vm_types.declared.call.Errno.{Errno}
use Rattle.flat_model.specs.vm_types.declared.call.Kind.TheVariants.{Shared}
use Rattle.flat_model.specs.vm_types.declared.call.Object.{Object}
use Rattle.flat_model.specs.vm_types.declared.call.Object.TheVariants as object
use Rattle.flat_model.specs.vm_types.declared.call.Place.TheVariants.{Any}
use Rattle.flat_model.specs.vm_types.declared.call.Reply.TheVariants as reply
use Rattle.flat_model.specs.vm_types.Pages.{page, pages_in, page_size}
use Rattle.flat_model.specs.Flat.{Cell, Flat, cell_at, zero_of, is_named}
use Rattle.flat_model.specs.Space.{is_in_range}
use Rattle.flat_model.specs.Mapping.{Request, new_number, map_result, new_cell}
use Rattle.flat_model.specs.Refusals.{or_refused}
use Rattle.flat_model.specs.Step.{IsStep, step, tails_cleared, is_bit_set}
use Rattle.flat_model.specs.FrameLaws.{MapsSame, StepFrame, LeavesCell, takes}
use Rattle.flat_model.specs.ReachedLaws.{IsReached}
use Rattle.flat_model.proofs.Frames.{there, the_one}
use Rattle.flat_model.proofs.Mappings.{maps_range}
use Rattle.flat_model.proofs.Named.{named_zeros-from_cell, new_number-new}
use Rattle.flat_model.proofs.Ranges.{in_range-is, in_range-low, in_range-high}
use Rattle.shm_model.specs.Keys.{ShmSegment, Keys, with_key, whole_pages}
use Rattle.shm_model.specs.Tied.{Places, NameObject, make_call, no_access}
use Rattle.shm_model.specs.TiedLaws.{IsKeptSegment, SegmentsLive}

-- a cell that names an object
pub zero-is : (c : Cell) (z : ℕ) → c.object ≡ object.Zero z → zero_of c ≡ Some z
zero-is c z is = subst (λ (o : Object).
    elim o [ object.Zero y ↦ Some y | object.File f ↦ None | object.NewZero ↦ None ] ≡ Some z)
    (sym is) refl

pub is-some : {X : Type 0} (o : Option X) → is_some o ≡ true → IsSome o
is-some None is = absurd cc
is-some (Some x) is = search

-- an object that a cell names is there
pub is-there : (G : Flat) (p q z : ℕ) → IsReached G
    → IsSomeAnd (cell_at G p q) (λ c. c.object ≡ object.Zero z) → IsSome (map.get G.zeros z)
is-there G p q z reached named =
    let c = the_one (cell_at G p q) (λ c. c.object ≡ object.Zero z) named in
    is-some (map.get G.zeros z)
    (reached.zeros z ∙ named_zeros-from_cell G p q z c.0 c.1 (zero-is c.0 z c.2))

zero_inj : (y z : ℕ) → object.Zero y ≡ object.Zero z → y ≡ z
zero_inj y z same = cc

pub first-named : (G : Flat) (p first n z : ℕ) → 1 ≤ n → NameObject G p first n z
    → IsSomeAnd (cell_at G p (first + 0)) (λ c. c.object ≡ object.Zero z)
first-named G p first n z some named = named 0 (omega (arith, some))

module _ (keeper : ℕ) where
  -- a cell that an entry leaves names what it named
  pub named-then : (F G : Flat) (x : Entry) (q z : ℕ) → StepFrame F x G → LeavesCell x keeper q
      → IsSomeAnd (cell_at F keeper q) (λ c. c.object ≡ object.Zero z)
      → IsSomeAnd (cell_at G keeper q) (λ c. c.object ≡ object.Zero z)
  named-then F G x q z frame leaves named =
      let c = the_one (cell_at F keeper q) (λ c. c.object ≡ object.Zero z) named in
      let d = the_one (cell_at G keeper q) (MapsSame c.0) (frame.cells keeper q c.0 c.1 leaves) in
      there (cell_at G keeper q) d.0 (λ c. c.object ≡ object.Zero z) d.1 (d.2.object ∙ c.2)

  abbrev pub Leaves : Entry → ℕ → ℕ → Type 0
  Leaves x first n = (i : ℕ) → i < n → LeavesCell x keeper (first + i)

  -- a segment whose cells an entry leaves is kept
  pub kept-then : (F G : Flat) (x : Entry) (at : ℕ) (seg : ShmSegment) → StepFrame F x G → IsReached G
      → Leaves x (page at) (pages_in seg.len) → IsKeptSegment keeper F at seg → IsKeptSegment keeper G at seg
  kept-then F G x at seg frame reached leaves kept =
      let named : NameObject G keeper (page at) (pages_in seg.len) seg.object =
      λ i low. named-then F G x (page at + i) seg.object frame (leaves i low)
      (kept.named i low) in
      record {
        named = named;
        some = kept.some;
        there = is-there G keeper (page at + 0) seg.object reached
            (first-named G keeper (page at) (pages_in seg.len) seg.object kept.some named);
      }

  -- all segments that keys have afterwards were there before, and their cells are left
  pub live-then : (F G : Flat) (x : Entry) (T U : Keys) (at bt : Places) → StepFrame F x G
      → IsReached G
      → ((key : ℕ) (seg : ShmSegment) → U key ≡ Some seg → (T key ≡ Some seg) × (bt key ≡ at key)
      × Leaves x (page (at key)) (pages_in seg.len))
      → SegmentsLive keeper F T at → SegmentsLive keeper G U bt
  live-then F G x T U at bt frame reached was live = record {
    kept = λ key seg is. let w = was key seg is in
        subst (λ a. IsKeptSegment keeper G a seg) (sym w.1)
        (kept-then F G x (at key) seg frame reached w.2 (live.kept key seg w.0));
    apart = λ k l s t s_is t_is same. live.apart k l s t (was k s s_is).0 (was l t t_is).0 same;
  }

  -- an entry of somebody else leaves all of the keeper's cells
  pub others-leave : (x : Entry) (first n : ℕ) → (x.process ≡ keeper → ⊥) → Leaves x first n
  others-leave x first n other i low own = absurd (other (sym own))

  -- so does a Map that takes the place of nothing
  pub make-leaves : (x : Entry) (len first n : ℕ) → x.call ≡ make_call len → Leaves x first n
  make-leaves x len first n is i low own =
      subst (λ (c : Call). IsFalse (takes c (first + i))) (sym is) search

  -- an Unmap of one segment leaves the cells of each other
  pub unmap-leaves : (F : Flat) (x : Entry) (T : Keys) (at : Places) (key l : ℕ) (s t : ShmSegment)
      → SegmentsLive keeper F T at → T key ≡ Some s → T l ≡ Some t → (l ≡ key → ⊥) → x.call
      ≡ Unmap (at key) s.len → Leaves x (page (at l)) (pages_in t.len)
  unmap-leaves F x T at key l s t live s_is t_is other is i low own =
      subst (λ (c : Call). IsFalse (takes c (page (at l) + i))) (sym is)
      (by_test (is_in_range (page (at key)) (pages_in s.len) (page (at l) + i)) refl)
    where
      by_test : (b : Bool) → is_in_range (page (at key)) (pages_in s.len) (page (at l) + i) ≡ b
          → IsFalse b
      by_test false inside = search
      by_test true inside =
          let q = page (at l) + i in
          let low_end = in_range-low (page (at key)) (pages_in s.len) q inside in
          let high_end = in_range-high (page (at key)) (pages_in s.len) q inside in
          let j = q - page (at key) in
          let below : j < pages_in s.len = omega (arith, low_end, high_end) in
          let here : page (at key) + j ≡ q = omega (arith, low_end) in
          let one = the_one (cell_at F keeper q) (λ c. c.object ≡ object.Zero t.object)
          ((live.kept l t t_is).named i low) in
          let two = the_one (cell_at F keeper q) (λ c. c.object ≡ object.Zero s.object)
          (subst (λ n. IsSomeAnd (cell_at F keeper n) (λ c. c.object ≡ object.Zero s.object))
          here ((live.kept key s s_is).named j below)) in
          let same_cell : one.0 ≡ two.0 = cc in
          let same : one.0.object ≡ object.Zero s.object =
          subst (λ (c : Cell). c.object ≡ object.Zero s.object) (sym same_cell) two.2 in
          let same_object : t.object ≡ s.object = zero_inj t.object s.object (sym one.2 ∙ same) in
          absurd (other (live.apart l key t s t_is s_is same_object))

-- what a length of whole pages takes
pub whole-is : (len : ℕ) → pages_in (whole_pages len) ≡ pages_in len
whole-is len = omega arith

pub page-is : (n : ℕ) → page (page_size * n) ≡ n
page-is n = omega arith

pub some-pages : (len : ℕ) → 1 ≤ len → 1 ≤ pages_in len
some-pages len some = omega (arith, some)

mapped_inj : (a b : ℕ) → reply.Mapped a ≡ reply.Mapped b → a ≡ b
mapped_inj a b same = cc

some_inj : (c d : Cell) → Some c ≡ Some d → c ≡ d
some_inj c d same = cc

-- the entry by which the keeper makes a segment
abbrev pub made_entry : ℕ → ℕ → ℕ → ℕ → Entry
made_entry keeper len a cleared =
    record { process = keeper; call = make_call len; reply = reply.Mapped a; cleared = cleared }

-- a new object's number is one that no cell named
pub new-object : (keeper : ℕ) (F : Flat) (len a cleared z : ℕ)
    → IsStep F (made_entry keeper len a cleared) → 1 ≤ len
    → IsSomeAnd (cell_at (step F (made_entry keeper len a cleared)) keeper (page a + 0))
    (λ c. c.object ≡ object.Zero z)
    → IsFalse (is_named F z)
new-object keeper F len a cleared z is_step some named =
    by_result (map_result G keeper r) refl is_step.due
  where
    G : Flat
    G = tails_cleared F (is_bit_set cleared)

    r : Request
    r = record {
      place = Any;
      len = len;
      prot = no_access;
      kind = Shared;
      object =
          object.NewZero;
      offset = 0;
    }

    by_result : (m : Result (ℕ × Flat) Errno) → map_result G keeper r ≡ m
        → (or_refused G (λ n. record { reply = reply.Mapped (page_size * n.0); after = n.1 })
        m).reply ≡ reply.Mapped a → IsFalse (is_named F z)
    by_result (Err e) is due = absurd cc
    by_result (Ok m) is due =
        let n = pages_in len in
        let range = maps_range G keeper r m.0 m.1 is in
        let a_is : page_size * m.0 ≡ a = mapped_inj (page_size * m.0) a due in
        let first_is : page a + 0 ≡ m.0 = add-zero (page a) ∙ ap page (sym a_is) ∙ page-is m.0 in
        let after_is : step F (made_entry keeper len a cleared) ≡ m.1 =
        ap (λ (x : Result (ℕ × Flat) Errno).
        (or_refused G (λ n. record { reply = reply.Mapped (page_size * n.0); after = n.1 })
        x).after) is in
        let inside : is_in_range m.0 n m.0 ≡ true =
        in_range-is m.0 n m.0 (le_refl m.0) (omega (arith, some-pages len some)) in
        let here : cell_at m.1 keeper m.0 ≡ Some (new_cell G G r (m.0 - m.0)) = range.cells m.0
        ∙ ap (λ b. cond b (Some (new_cell G G r (m.0 - m.0))) (cell_at G keeper m.0)) inside in
        let there_too : IsSomeAnd (cell_at m.1 keeper m.0) (λ c. c.object ≡ object.Zero z) =
        subst₂ (λ (K : Flat) (q : ℕ). IsSomeAnd (cell_at K keeper q)
        (λ c. c.object ≡ object.Zero z)) after_is first_is named in
        let c = the_one (cell_at m.1 keeper m.0) (λ c. c.object ≡ object.Zero z) there_too in
        let same : new_cell G G r (m.0 - m.0) ≡ c.0 =
        some_inj (new_cell G G r (m.0 - m.0)) c.0 (sym here ∙ c.1) in
        let number : new_number G ≡ z =
        zero_inj (new_number G) z (ap (λ (d : Cell). d.object) same ∙ c.2) in
        subst (λ y. IsFalse (is_named G y)) number (new_number-new G)

-- a segment that the keeper makes lives beside the others
pub live-made : (keeper : ℕ) (F : Flat) (T : Keys) (at : Places) (key len a cleared z : ℕ)
    → IsReached F → StepFrame F (made_entry keeper len a cleared)
    (step F (made_entry keeper len a cleared))
    → IsReached (step F (made_entry keeper len a cleared))
    → IsStep F (made_entry keeper len a cleared) → 1 ≤ len → T key ≡ None
    → NameObject (step F (made_entry keeper len a cleared)) keeper (page a)
    (pages_in (whole_pages len)) z
    → SegmentsLive keeper F T at
    → SegmentsLive keeper (step F (made_entry keeper len a cleared))
    (with_key T key (Some record { object = z; len = whole_pages len }))
    (λ k. if k == key then a else at k)
live-made keeper F T at key len a cleared z was frame reached is_step some none named live =
    record {
      kept = λ k seg is. by_key k seg (k == key) refl is;
      apart = λ k l s t s_is t_is same. two_keys k l s t (k == key) refl (l == key) refl s_is t_is same;
    }
  where
    x : Entry
    x = made_entry keeper len a cleared

    G : Flat
    G = step F x

    made : ShmSegment
    made = record { object = z; len = whole_pages len }

    pages : 1 ≤ pages_in (whole_pages len)
    pages = subst (λ n. 1 ≤ n) (sym (whole-is len)) (some-pages len some)

    first : IsSomeAnd (cell_at G keeper (page a + 0)) (λ c. c.object ≡ object.Zero z)
    first = first-named G keeper (page a) (pages_in (whole_pages len)) z pages named

    new : IsKeptSegment keeper G a made
    new = record {
      named = named;
      some = pages;
      there =
          is-there G keeper (page a + 0) z reached first;
    }

    by_key : (k : ℕ) (seg : ShmSegment) (b : Bool) → (k == key) ≡ b → cond b (Some made) (T k)
        ≡ Some seg → IsKeptSegment keeper G (cond b a (at k)) seg
    by_key k seg true b_is is =
        subst (λ (s : ShmSegment). IsKeptSegment keeper G a s) (let same : made ≡ seg = cc in same) new
    by_key k seg false b_is is =
        kept-then keeper F G x (at k) seg frame reached
        (make-leaves keeper x len (page (at k)) (pages_in seg.len) refl) (live.kept k seg is)

    -- no other key's object has the new number
    other : (l : ℕ) (t : ShmSegment) → T l ≡ Some t → t.object ≡ z → ⊥
    other l t t_is same =
        let old = live.kept l t t_is in
        let c = the_one (cell_at F keeper (page (at l) + 0)) (λ c. c.object ≡ object.Zero t.object)
        (first-named F keeper (page (at l)) (pages_in t.len) t.object old.some old.named) in
        let is : is_named F t.object ≡ true =
        named_zeros-from_cell F keeper (page (at l) + 0) t.object c.0 c.1
        (zero-is c.0 t.object c.2) in
        let isnt : is_named F z ≡ false = new-object keeper F len a cleared z is_step some first in
        let same_test : is_named F t.object ≡ is_named F z = ap (is_named F) same in
        true≢false (sym is ∙ same_test ∙ isnt)

    two_keys : (k l : ℕ) (s t : ShmSegment) (b : Bool) → (k == key) ≡ b → (d : Bool) → (l == key) ≡ d
        → cond b (Some made) (T k) ≡ Some s → cond d (Some made) (T l) ≡ Some t → s.object
        ≡ t.object → k ≡ l
    two_keys k l s t true k_is true l_is s_is t_is same = let one : k ≡ key = eqb-true k key k_is in
        let two : l ≡ key = eqb-true l key l_is in one ∙ sym two
    two_keys k l s t true k_is false l_is s_is t_is same = let made_is : made ≡ s = cc in
        absurd (other l t t_is (sym same ∙ ap (λ (m : ShmSegment). m.object) (sym made_is)))
    two_keys k l s t false k_is true l_is s_is t_is same = let made_is : made ≡ t = cc in
        absurd (other k s s_is (same ∙ ap (λ (m : ShmSegment). m.object) (sym made_is)))
    two_keys k l s t false k_is false l_is s_is t_is same = live.apart k l s t s_is t_is same
