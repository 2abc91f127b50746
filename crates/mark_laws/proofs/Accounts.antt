-- Blocks are accounted for.
use Rattle.std.proofs.Common.{◌≡◌, ◌≢◌, ◌⊎◌, ℕ, zero, suc, ◌<◌, ◌≤◌, ◌+◌, ◌++◌, List, [], ◌∷◌, length, min, Option, Some, None, Bool, true, false, refl, sym, ap, ◌∙◌, inl, inr, subst, arith}
use Rattle.std.specs.Prelude.{slice_index_or, slice_set, IfSome, ◌==◌, if◌then◌else◌}
use Rattle.std.specs.List.{Contains}
use Rattle.std.proofs.lemmas.Bool.{cases_eq}
use Rattle.std.proofs.lemmas.Bool.Decides.{eqb_tells}
use Rattle.std.proofs.lemmas.Option.{same_Some}
use Rattle.disk_marks.specs.declared.marks.Mark.{Mark}
use Rattle.std.proofs.lemmas.List.{length-append, append_assoc, append-nil, get_or-set_other}
use Rattle.std.proofs.lemmas.List.Elements.{Contains-append_left, Contains-append_right, Contains-append_cases}
use Rattle.flat_model.specs.vm_types.declared.call.Entry.{Entry}
use Rattle.flat_model.specs.Counted.{top_count}
use Rattle.flat_model.specs.Flat.{Flat}
use Rattle.flat_model.specs.History.{replay}
use Rattle.flat_model.specs.Step.{step}
use Rattle.flat_model.proofs.Replays.{replay-append}
use Rattle.page_store.specs.block_device.DiskSeen.{with_block}
use Rattle.page_store.specs.page_hash.declared.PageName.{PageName}
use Rattle.page_store.specs.Bays.{block_of}
use Rattle.page_store.specs.Bytes.{clip}
use Rattle.page_store.specs.Flight.{FlightSeen, Progress, fresh, done, failed, IsWritten as WroteBlock}
use Rattle.page_store.specs.Notes.{Note, Notes, no_notes}
use Rattle.disk_marks.specs.declared.marks.Mark.TheVariants.{Held, Blank, Unsure}
use Rattle.disk_marks.specs.declared.marks.MarkRow.{MarkRow}
use Rattle.disk_marks.specs.declared.marks.Pushing.{Pushing}
use Rattle.disk_marks.specs.Marks.{MarksSeen, HasRow, unused_row, mark_row, push_of, with_mark_row}
use Rattle.disk_marks.specs.Changes.{row_written, row_spoiled, row_raised, marks_taken, marks_unpushed}
use Rattle.mark_laws.specs.Cuts.{rows_cut}
use Rattle.disk_marks.proofs.Rows.{row-other, row-same}
use Rattle.mark_laws.specs.AccountLaws.{Moment, IsUnsure, TellsNoMore, HasItsPage, AccountsFor, PushCameBack, AccountsLaw}
use Rattle.mark_laws.specs.FailureLaws.{CountOn}
use Rattle.mark_laws.specs.MarkLaws.{marks_by}
use Rattle.mark_laws.specs.MarksFit.{BlockFits, DiskContents, PushesFile, MarksFit}
use Rattle.mark_laws.specs.HeldBlocks.{HoldsFront, HoldsHistory}
use Rattle.mark_laws.specs.Syncs.{HasSynced, entries_in}
use Rattle.mark_laws.specs.Pages.{ArePageOf, disk_place}
use Rattle.mark_laws.proofs.Along.{step-place}
use Rattle.mark_laws.proofs.Origins.{page-on}

-- a file keeps its blocks
pub places-on : (F : Flat) (K : List Entry) (name : PageName) (disk block : ℕ) → disk_place F name ≡ Some (disk, block) → disk_place (replay F K) name ≡ Some (disk, block)
places-on F [] name disk block at = at
places-on F (e ∷ K) name disk block at = places-on (step F e) K name disk block (step-place F e name disk block at)

place-later : (F : Flat) (H K : List Entry) (name : PageName) (disk block : ℕ) → disk_place (replay F H) name ≡ Some (disk, block) → disk_place (replay F (H ++ K)) name ≡ Some (disk, block)
place-later F H K name disk block at = ap (λ (G : Flat). disk_place G name) (replay-append F H K) ∙ places-on (replay F H) K name disk block at

module _ (F : Flat) (s t u : Moment) (a : AccountsFor F s t) (b : AccountsFor F t u) where
  grown : (added : List Entry) × (u.history ≡ s.history ++ added)
  grown = (a.grown.0 ++ b.grown.0, b.grown.1 ∙ ap (λ (H : List Entry). H ++ b.grown.0) a.grown.1 ∙ append_assoc s.history a.grown.0 b.grown.0)

  counts : (disk count : ℕ) → disk < 8 → s.faults disk ≡ Some count → (more : ℕ) × (u.faults disk ≡ Some more) × (count ≤ more)
  counts disk count low is =
      let x = a.counts disk count low is in
      let y = b.counts disk x.0 low x.1 in
      let p = x.2 in let q = y.2 in
      (y.0, y.1, omega (arith, p, q))

  few : (disk before after : ℕ) → disk < 8 → s.faults disk ≡ Some before → u.faults disk ≡ Some after → min (length (b.failed disk ++ a.failed disk) + before) top_count ≤ after
  few disk before after low had has =
      let x = a.counts disk before low had in
      let p = a.few disk before x.0 low had x.1 in
      let q = b.few disk x.0 after low x.1 has in
      let long = length-append (b.failed disk) (a.failed disk) in
      omega (arith, p, q, long)

  later-place : (name : PageName) (disk block : ℕ) → disk_place (replay F t.history) name ≡ Some (disk, block) → disk_place (replay F u.history) name ≡ Some (disk, block)
  later-place name disk block at = subst (λ (H : List Entry). disk_place (replay F H) name ≡ Some (disk, block)) (sym b.grown.1) (place-later F t.history b.grown.0 name disk block at)

  kept : (disk block : ℕ) → Contains (b.failed disk ++ a.failed disk) block → (name : PageName) × (disk_place (replay F u.history) name ≡ Some (disk, block))
  kept disk block c = by_either (Contains-append_cases (b.failed disk) (a.failed disk) block c)
    where
      by_either : Contains (b.failed disk) block ⊎ Contains (a.failed disk) block → (name : PageName) × (disk_place (replay F u.history) name ≡ Some (disk, block))
      by_either (inl x) = b.kept disk block x
      by_either (inr x) = let k = a.kept disk block x in (k.0, later-place k.0 disk block k.1)

  each : (disk block : ℕ) → disk < 8 → ¬ Contains (b.failed disk ++ a.failed disk) block → (block_of (u.contents disk) block ≡ block_of (s.contents disk) block) ⊎ HasItsPage F u disk block
  each disk block low none = by_last (b.each disk block low (λ c. none (Contains-append_left (b.failed disk) (a.failed disk) block c)))
    where
      by_first : block_of (u.contents disk) block ≡ block_of (t.contents disk) block → (block_of (t.contents disk) block ≡ block_of (s.contents disk) block) ⊎ HasItsPage F t disk block
          → (block_of (u.contents disk) block ≡ block_of (s.contents disk) block) ⊎ HasItsPage F u disk block
      by_first same (inl old) = inl (same ∙ old)
      by_first same (inr page) = inr (
        page.0,
        later-place page.0 disk block page.1,
        subst (λ (H : List Entry). ArePageOf F H page.0 (block_of (u.contents disk) block)) (sym b.grown.1)
            (page-on F t.history b.grown.0 page.0 (block_of (u.contents disk) block) (subst (λ (bytes : List ℕ). ArePageOf F t.history page.0 bytes) (sym same) page.2)),
      )

      by_last : (block_of (u.contents disk) block ≡ block_of (t.contents disk) block) ⊎ HasItsPage F u disk block
          → (block_of (u.contents disk) block ≡ block_of (s.contents disk) block) ⊎ HasItsPage F u disk block
      by_last (inr page) = inr page
      by_last (inl same) = by_first same (a.each disk block low (λ c. none (Contains-append_right (b.failed disk) (a.failed disk) block c)))

  unsure : (disk block : ℕ) → IsUnsure u.marks disk block → Contains (b.failed disk ++ a.failed disk) block ⊎ IsUnsure s.marks disk block
  unsure disk block is = by_last (b.unsure disk block is)
    where
      by_first : Contains (a.failed disk) block ⊎ IsUnsure s.marks disk block → Contains (b.failed disk ++ a.failed disk) block ⊎ IsUnsure s.marks disk block
      by_first (inl c) = inl (Contains-append_right (b.failed disk) (a.failed disk) block c)
      by_first (inr was) = inr was

      by_last : Contains (b.failed disk) block ⊎ IsUnsure t.marks disk block → Contains (b.failed disk ++ a.failed disk) block ⊎ IsUnsure s.marks disk block
      by_last (inl c) = inl (Contains-append_left (b.failed disk) (a.failed disk) block c)
      by_last (inr was) = by_first (a.unsure disk block was)

  both : AccountsFor F s u
  both = record { grown = grown; counts = counts; failed = λ disk. b.failed disk ++ a.failed disk; few = few; kept = kept; each = each; unsure = unsure }

none-some : {A : Type 0} (x : A) → None ≡ Some x → ⊥
none-some x is = cc

-- a block once one was written
block-other : (c : Option (List (List ℕ))) (i k : ℕ) (bytes : List ℕ) → k ≢ i → block_of (with_block c i bytes) k ≡ block_of c k
block-other None i k bytes ne = refl
block-other (Some blocks) i k bytes ne = get_or-set_other blocks i k bytes [] ne

block-here : (c : Option (List (List ℕ))) (i : ℕ) (bytes : List ℕ) → (block_of (with_block c i bytes) i ≡ bytes) ⊎ (block_of (with_block c i bytes) i ≡ block_of c i)
block-here None i bytes = inr refl
block-here (Some blocks) i bytes = in-list blocks i
  where
    in-list : (xs : List (List ℕ)) (k : ℕ) → (block_of (with_block (Some xs) k bytes) k ≡ bytes) ⊎ (block_of (with_block (Some xs) k bytes) k ≡ block_of (Some xs) k)
    in-list [] k = inr refl
    in-list (x ∷ xs) zero = inl refl
    in-list (x ∷ xs) (suc k) = in-list xs k

-- A PUSH ENDS
module _ (opening : Flat) (H : List Entry) (old new : DiskContents) (before after : ℕ → Option ℕ) (notes : Notes) (m : MarksSeen) (seat : ℕ) (note : Note) (f : FlightSeen)
    (fit : MarksFit opening H old notes m) (noted : notes seat ≡ Some note) (pushes : PushesFile note) (back : PushCameBack note f old new before after) where
  place : disk_place (replay opening H) note.name ≡ Some (note.number, note.block)
  place = fit.places seat note noted pushes.writes pushes.far

  row : HasRow m note.number note.block
  row = fit.there note.name note.number note.block place

  sent : ArePageOf opening H note.name (clip note.valid note.bytes)
  sent = fit.origin seat note noted pushes.writes pushes.far

  abbrev s : Moment
  s = record { history = H; contents = old; faults = before; marks = m }

  abbrev t : MarksSeen → Moment
  t marks = record { history = H; contents = new; faults = after; marks = marks }

  at-or-not : (d b : ℕ) → ((d ≡ note.number) × (b ≡ note.block)) ⊎ (((d ≡ note.number) → (b ≡ note.block) → ⊥))
  at-or-not d b = elim (cases_eq d note.number) [
    | inr ne ↦ inr (λ e g. ne e)
    | inl e ↦ elim (cases_eq b note.block) [ inl g ↦ inl (e, g) | inr ne ↦ inr (λ x g. ne g) ]
  ]

  grown-none : (added : List Entry) × (H ≡ H ++ added)
  grown-none = ([], sym (append-nil H))

  counted : CountOn before after
  counted disk count is = elim (cases_eq disk note.number) [
    | inl e ↦
        let same : note.disk.faults ≡ count = same_Some note.disk.faults count (sym back.had ∙ ap before (sym e) ∙ is) in
        let later = back.performed.later in
        (f.disk.faults, ap after e ∙ back.has, omega (arith, same, later))
    | inr ne ↦ (count, back.counts disk ne ∙ is, omega arith)
  ]

  -- another block
  others : (bytes : List ℕ) → f.disk.content ≡ with_block note.disk.content note.block bytes → (d b : ℕ) → ((d ≡ note.number) → (b ≡ note.block) → ⊥) → block_of (new d) b ≡ block_of (old d) b
  others bytes wrote d b far = elim (cases_eq d note.number) [
    | inr ne ↦ ap (λ (c : Option (List (List ℕ))). block_of c b) (back.others d ne)
    | inl e ↦
        ap (λ (k : ℕ). block_of (new k) b) e
        ∙ ap (λ (c : Option (List (List ℕ))). block_of c b) (back.is ∙ wrote)
        ∙ block-other note.disk.content note.block b bytes (λ g. far e g)
        ∙ ap (λ (c : Option (List (List ℕ))). block_of c b) (sym back.was)
        ∙ ap (λ (k : ℕ). block_of (old k) b) (sym e)
  ]

  -- .. and the one that was written
  written : (bytes : List ℕ) → f.disk.content ≡ with_block note.disk.content note.block bytes
      → (block_of (new note.number) note.block ≡ bytes) ⊎ (block_of (new note.number) note.block ≡ block_of (old note.number) note.block)
  written bytes wrote = by_here (block-here note.disk.content note.block bytes)
    where
      now : block_of (new note.number) note.block ≡ block_of (with_block note.disk.content note.block bytes) note.block
      now = ap (λ (c : Option (List (List ℕ))). block_of c note.block) (back.is ∙ wrote)

      by_here : (block_of (with_block note.disk.content note.block bytes) note.block ≡ bytes) ⊎ (block_of (with_block note.disk.content note.block bytes) note.block ≡ block_of note.disk.content note.block)
          → (block_of (new note.number) note.block ≡ bytes) ⊎ (block_of (new note.number) note.block ≡ block_of (old note.number) note.block)
      by_here (inl e) = inl (now ∙ e)
      by_here (inr e) = inr (now ∙ e ∙ ap (λ (c : Option (List (List ℕ))). block_of c note.block) (sym back.was))

  -- of no other block a write failed
  sure-other : (x : MarkRow) (d b : ℕ) → ((d ≡ note.number) → (b ≡ note.block) → ⊥) → IsUnsure (with_mark_row m note.number note.block x) d b → IsUnsure m d b
  sure-other x d b far is = (is.0, is.1, is.2, sym (ap (λ (r : MarkRow). r.mark) (row-other m note.number note.block d b x row far)) ∙ is.3)

  -- it went well
  well : f.disk.content ≡ with_block note.disk.content note.block (clip note.valid note.bytes) → AccountsFor opening s (t (marks_by m seat note (length H) f done))
  well wrote = record {
    grown = grown-none;
    counts = λ d x low. counted d x;
    failed = λ d. [];
    few = λ d x y low had has. let c = counted d x had in let same : c.0 ≡ y = same_Some c.0 y (sym c.1 ∙ has) in let le = c.2 in omega (arith, same, le);
    kept = λ d b c. absurd (let lt = c.1 in omega (arith, lt));
    each = λ d b low none. elim (at-or-not d b) [
      | inr far ↦ inl (others (clip note.valid note.bytes) wrote d b far)
      | inl here ↦ subst (λ (x : ℕ × ℕ). (block_of (new x.0) x.1 ≡ block_of (old x.0) x.1) ⊎ HasItsPage opening (t (marks_by m seat note (length H) f done)) x.0 x.1)
          (λ i. (sym here.0 i, sym here.1 i)) (by_here (written (clip note.valid note.bytes) wrote))
    ];
    unsure = λ d b is. inr (elim (at-or-not d b) [
      | inr far ↦ sure-other (row_written (push_of m seat) (mark_row m note.number note.block)) d b far is
      | inl here ↦ subst (λ (x : ℕ × ℕ). IsUnsure (with_mark_row m note.number note.block (row_written (push_of m seat) (mark_row m note.number note.block))) x.0 x.1 → IsUnsure m x.0 x.1)
          (λ i. (sym here.0 i, sym here.1 i)) (sure-here (push_of m seat)) is
    ]);
  }
    where
      by_here : (block_of (new note.number) note.block ≡ clip note.valid note.bytes) ⊎ (block_of (new note.number) note.block ≡ block_of (old note.number) note.block)
          → (block_of (new note.number) note.block ≡ block_of (old note.number) note.block) ⊎ HasItsPage opening (t (marks_by m seat note (length H) f done)) note.number note.block
      by_here (inl is) = inr (note.name, place, subst (λ (bytes : List ℕ). ArePageOf opening H note.name bytes) (sym is) sent)
      by_here (inr same) = inl same

      sure-here : (p : Option Pushing) → IsUnsure (with_mark_row m note.number note.block (row_written p (mark_row m note.number note.block))) note.number note.block → IsUnsure m note.number note.block
      sure-here None is = (is.0, is.1, is.2, sym (ap (λ (r : MarkRow). r.mark) (row-same m note.number note.block (mark_row m note.number note.block) row)) ∙ is.3)
      sure-here (Some push) is = absurd (let z : Held push.from ≡ Unsure is.0 is.1 is.2 =
          sym (ap (λ (r : MarkRow). r.mark) (row-same m note.number note.block (record { mark = Held push.from; pushed = push.whole }) row)) ∙ is.3 in cc)

  -- it failed
  abbrev failed_here : ℕ → List ℕ
  failed_here d = if d == note.number then note.block ∷ [] else []

  failed-here : (d : ℕ) → d ≡ note.number → failed_here d ≡ note.block ∷ []
  failed-here d e = ap (λ (q : Bool). if q then note.block ∷ [] else []) is
    where
      is : (d == note.number) ≡ true
      is = elim (eqb_tells d note.number) [ inl same ↦ same.0 | inr ne ↦ absurd (ne.1 e) ]

  failed-there : (d : ℕ) → d ≢ note.number → failed_here d ≡ []
  failed-there d ne = ap (λ (q : Bool). if q then note.block ∷ [] else []) is
    where
      is : (d == note.number) ≡ false
      is = elim (eqb_tells d note.number) [ inl same ↦ absurd (ne same.1) | inr other ↦ other.0 ]

  inside : (d b : ℕ) → (d ≡ note.number) × (b ≡ note.block) → Contains (failed_here d) b
  inside d b here = subst (λ (bs : List ℕ). Contains bs b) (sym (failed-here d here.0)) (0, omega arith, sym here.1)

  only : (b : ℕ) → Contains (note.block ∷ []) b → b ≡ note.block
  only b c = by_place c.0 c.1 c.2
    where
      by_place : (k : ℕ) → k < 1 → slice_index_or (note.block ∷ []) k b ≡ b → b ≡ note.block
      by_place zero lt same = sym same
      by_place (suc k) lt same = absurd (omega (arith, lt))

  badly : f.outcome ≡ failed → (bytes : List ℕ) → f.disk.content ≡ with_block note.disk.content note.block bytes → AccountsFor opening s (t (marks_by m seat note (length H) f failed))
  badly outcome bytes wrote = record {
    grown = grown-none;
    counts = λ d x low. counted d x;
    failed = failed_here;
    few = λ d x y low had has. elim (cases_eq d note.number) [
      | inl e ↦ subst (λ (bs : List ℕ). min (length bs + x) top_count ≤ y) (sym (failed-here d e))
          (let risen = back.performed.risen outcome in
          let one : note.disk.faults ≡ x = same_Some note.disk.faults x (sym back.had ∙ ap before (sym e) ∙ had) in
          let two : f.disk.faults ≡ y = same_Some f.disk.faults y (sym back.has ∙ ap after (sym e) ∙ has) in
          omega (arith, risen, one, two))
      | inr ne ↦ subst (λ (bs : List ℕ). min (length bs + x) top_count ≤ y) (sym (failed-there d ne))
          (let same : x ≡ y = same_Some x y (sym had ∙ sym (back.counts d ne) ∙ has) in omega (arith, same))
    ];
    kept = λ d b c. elim (cases_eq d note.number) [
      | inl e ↦ (note.name, place ∙ (λ i. Some (sym e i, sym (only b (subst (λ (bs : List ℕ). Contains bs b) (failed-here d e) c)) i)))
      | inr ne ↦ absurd (let z = subst (λ (bs : List ℕ). Contains bs b) (failed-there d ne) c in let lt = z.1 in omega (arith, lt))
    ];
    each = λ d b low none. elim (at-or-not d b) [
      | inr far ↦ inl (others bytes wrote d b far)
      | inl here ↦ absurd (none (inside d b here))
    ];
    unsure = λ d b is. elim (at-or-not d b) [
      | inr far ↦ inr (sure-other (row_spoiled (length H) f.before f.disk.faults) d b far is)
      | inl here ↦ inl (inside d b here)
    ];
  }

  by-outcome : (o : Progress) → f.outcome ≡ o → WroteBlock note f o → AccountsFor opening s (t (marks_by m seat note (length H) f o))
  by-outcome fresh e wrote = absurd wrote
  by-outcome done e wrote = well wrote
  by-outcome failed e wrote = badly e wrote.0 wrote.2

  ended : AccountsFor opening s (t (marks_by m seat note (length H) f f.outcome))
  ended = by-outcome f.outcome refl (back.performed.written pushes.writes)

-- NOTHING HAPPENED to blocks
quiet : (F : Flat) (s t : Moment) → (added : List Entry) → t.history ≡ s.history ++ added
    → ((disk block : ℕ) → disk < 8 → block_of (t.contents disk) block ≡ block_of (s.contents disk) block) → CountOn s.faults t.faults
    → ((disk block : ℕ) → IsUnsure t.marks disk block → IsUnsure s.marks disk block) → AccountsFor F s t
quiet F s t added long same counts sure = record {
  grown = (added, long);
  counts = λ disk x low. counts disk x;
  failed = λ disk. [];
  few = λ disk x y low had has. let c = counts disk x had in let e : c.0 ≡ y = same_Some c.0 y (sym c.1 ∙ has) in let le = c.2 in omega (arith, e, le);
  kept = λ disk block c. absurd (let lt = c.1 in omega (arith, lt));
  each = λ disk block low none. inl (same disk block low);
  unsure = λ disk block is. inr (sure disk block is);
}

-- WHAT IS LEFT of a disk
module _ (F : Flat) (s t : Moment) (number before faults : ℕ) (given now : List (List ℕ)) (a : AccountsFor F s t) (fit : MarksFit F t.history t.contents no_notes t.marks)
    (low : number < 8) (had : s.faults number ≡ Some before) (counted : t.faults number ≡ Some faults) (sure : (block : ℕ) → ¬ IsUnsure s.marks number block)
    (was : s.contents number ≡ Some given) (is : t.contents number ≡ Some now) where
  here : (block : ℕ) → block_of (t.contents number) block ≡ slice_index_or now block []
  here block = ap (λ (c : Option (List (List ℕ))). block_of c block) is

  there : (block : ℕ) → block_of (s.contents number) block ≡ slice_index_or given block []
  there block = ap (λ (c : Option (List (List ℕ))). block_of c block) was

  front : (name : PageName) (block : ℕ) → disk_place (replay F t.history) name ≡ Some (number, block) → ¬ Contains (a.failed number) block → HoldsFront F t.history name (slice_index_or now block [])
  front name block at none = by_mark (mark_row t.marks number block).mark refl
    where
      fits : BlockFits F t.history name (mark_row t.marks number block) (slice_index_or now block [])
      fits = subst (λ (o : Option (List (List ℕ))). IfSome o (λ blocks. BlockFits F t.history name (mark_row t.marks number block) (slice_index_or blocks block []))) is
          (fit.blocks name number block at (λ w. absurd (none-some w.1 w.2)))

      made : (j : ℕ) → entries_in (mark_row t.marks number block).mark ≡ j → j ≤ length t.history
      made j e = subst (λ (n : ℕ). n ≤ length t.history) e (fit.early name number block at)

      reaches : (j : ℕ) → entries_in (mark_row t.marks number block).mark ≡ j → (k b : ℕ) → HasSynced F t.history k b name → b ≤ j
      reaches j e k b has = subst (λ (n : ℕ). b ≤ n) e (fit.synced k b name number block has at).since

      by_mark : (x : Mark) → (mark_row t.marks number block).mark ≡ x → HoldsFront F t.history name (slice_index_or now block [])
      by_mark (Held j) e = record { entries = j; made = made j (ap entries_in e); holds = inl (fits.held j e).same; synced = reaches j (ap entries_in e) }
      by_mark (Blank j) e = record { entries = j; made = made j (ap entries_in e); holds = inr (fit.blanks name number block j at e); synced = reaches j (ap entries_in e) }
      by_mark (Unsure j low high) e = absurd (by_either (a.unsure number block (j, low, high, e)))
        where
          by_either : ¬ (Contains (a.failed number) block ⊎ IsUnsure s.marks number block)
          by_either (inl c) = none c
          by_either (inr u) = sure block u

  left : HoldsHistory F t.history number faults given now
  left = record {
    failed = a.failed number;
    few = let few = a.few number before faults low had counted in omega (arith, few);
    kept = a.kept number;
    each = λ block ne none. by_each block (a.each number block low none);
    fronts = front;
  }
    where
      by_each : (block : ℕ) → (block_of (t.contents number) block ≡ block_of (s.contents number) block) ⊎ HasItsPage F t number block
          → (slice_index_or now block [] ≡ slice_index_or given block [])
          ⊎ ((name : PageName) × (disk_place (replay F t.history) name ≡ Some (number, block)) × ArePageOf F t.history name (slice_index_or now block []))
      by_each block (inl same) = inl (sym (here block) ∙ same ∙ there block)
      by_each block (inr page) = inr (page.0, page.1, subst (λ (bytes : List ℕ). ArePageOf F t.history page.0 bytes) (here block) page.2)

-- NO MARK TELLS OF MORE FAILURES
set-at : {A : Type 0} (xs : List A) (i k : ℕ) (x d : A) → ((k ≡ i) × (slice_index_or (slice_set xs i x) k d ≡ x)) ⊎ (slice_index_or (slice_set xs i x) k d ≡ slice_index_or xs k d)
set-at [] i k x d = inr refl
set-at (y ∷ xs) zero zero x d = inl (refl, refl)
set-at (y ∷ xs) zero (suc k) x d = inr refl
set-at (y ∷ xs) (suc i) zero x d = inr refl
set-at (y ∷ xs) (suc i) (suc k) x d = elim (set-at xs i k x d) [ inl e ↦ inl (ap suc e.0, e.1) | inr same ↦ inr same ]

row-at : (m : MarksSeen) (disk block d b : ℕ) (x : MarkRow)
    → ((d ≡ disk) × (b ≡ block) × (mark_row (with_mark_row m disk block x) d b ≡ x)) ⊎ (mark_row (with_mark_row m disk block x) d b ≡ mark_row m d b)
row-at m disk block d b x = elim (set-at m.rows disk d (slice_set (slice_index_or m.rows disk []) block x) []) [
  | inl e ↦ elim (set-at (slice_index_or m.rows disk []) block b x unused_row) [
    | inl f ↦ inl (e.0, f.0, ap (λ (rows : List MarkRow). slice_index_or rows b unused_row) e.1 ∙ f.1)
    | inr same ↦ inr (ap (λ (rows : List MarkRow). slice_index_or rows b unused_row) e.1 ∙ same ∙ ap (λ (k : ℕ). slice_index_or (slice_index_or m.rows k []) b unused_row) (sym e.0))
  ]
  | inr same ↦ inr (ap (λ (rows : List MarkRow). slice_index_or rows b unused_row) same)
]

-- another row, which tells of no failure, or of that which the row told
tells-row : (m : MarksSeen) (disk block : ℕ) (x : MarkRow) → ((j low high : ℕ) → x.mark ≡ Unsure j low high → (mark_row m disk block).mark ≡ Unsure j low high) → TellsNoMore m (with_mark_row m disk block x)
tells-row m disk block x less d b is = elim (row-at m disk block d b x) [
  | inl e ↦ (
    is.0,
    is.1,
    is.2,
    ap (λ (k : ℕ). (mark_row m k b).mark) e.0 ∙ ap (λ (k : ℕ). (mark_row m disk k).mark) e.1
        ∙ less is.0 is.1 is.2 (sym (ap (λ (r : MarkRow). r.mark) e.2) ∙ is.3),
  )
  | inr same ↦ (is.0, is.1, is.2, sym (ap (λ (r : MarkRow). r.mark) same) ∙ is.3)
]

tells-raised : (m : MarksSeen) (disk block i : ℕ) → TellsNoMore m (with_mark_row m disk block (row_raised i (mark_row m disk block)))
tells-raised m disk block i = tells-row m disk block (row_raised i (mark_row m disk block)) (λ j low high is. absurd (let z : Held i ≡ Unsure j low high = is in cc))

tells-taken : (m : MarksSeen) (disk block i : ℕ) → TellsNoMore m (marks_taken m disk block i)
tells-taken m disk block i = tells-row m disk block (record { mark = Blank i; pushed = false }) (λ j low high is. absurd (let z : Blank i ≡ Unsure j low high = is in cc))

tells-unpushed : (m : MarksSeen) (disk block : ℕ) → TellsNoMore m (marks_unpushed m disk block)
tells-unpushed m disk block = tells-row m disk block (record (mark_row m disk block) { pushed = false }) (λ j low high is. is)

tells-cut : (disk pages j : ℕ) (blocks : List ℕ) (m : MarksSeen) → TellsNoMore m (rows_cut disk pages j blocks m)
tells-cut disk pages j [] m d b is = is
tells-cut disk zero j (x ∷ xs) m d b is = tells-taken m disk x j d b (tells-cut disk zero j xs (marks_taken m disk x j) d b is)
tells-cut disk (suc pages) j (x ∷ xs) m d b is = tells-unpushed m disk x d b (tells-cut disk pages j xs (marks_unpushed m disk x) d b is)

pub accounts_rule : AccountsLaw
accounts_rule = record {
  ends = λ opening H old new before after notes m seat note f fit noted pushes back. ended opening H old new before after notes m seat note f fit noted pushes back;
  still = quiet;
  and_then = λ F s t u a b. both F s t u a b;
  leaves = λ F s t number before faults given now a fit low had counted sure was is. left F s t number before faults given now a fit low had counted sure was is;
  begins = λ m seat file page from d b is. is;
  raised = λ m disk block j. tells-raised m disk block j;
  emptied = λ m disk block file page j d b is. tells-taken m disk block j d b is;
  cut = λ m f disk pages j blocks d b is. tells-cut disk pages j blocks m d b is;
}
