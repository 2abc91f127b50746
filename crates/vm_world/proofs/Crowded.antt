-- The state of two processes fits.
use Rattle.std.proofs.Common.{◌≡◌, ◌≢◌, ℕ, zero, suc, ◌+◌, ◌<◌, ◌≤◌, ◌^◌, ◌-◌, ◌*◌, ◌==◌, min, Bool, true, false, cond, List, [], ◌∷◌, ◌++◌, length, map, drop, Option, Some, None, refl, sym, ap, ◌∙◌, ◌⊎◌, inl, inr, subst, arith}
use Rattle.std.specs.Prelude.{option_map, slice_index_or, slice_index, slice_get, All, MatchOption, IsSome, IsSomeAnd, IsTrue, IsFalse, sum_by, count_by, flat_map, filter_map, is_some, is_none, unwrap_or, ◌||◌, MatchBool, nat_lt, nat_le, if◌then◌else◌}
use Rattle.std.specs.Ordering.{nat_cmp}
use Rattle.std.specs.Cmp.{nat_cmp_total, unsigned_tied}
use Rattle.std.specs.List.{list_any, concat}
use Rattle.std.specs.FinMap as finite
use Rattle.std.specs.FinSet as set
use Rattle.std.proofs.lemmas.Bool.{cases_eq}
use Rattle.std.proofs.lemmas.Bool.Decides.{eqb_tells}
use Rattle.std.proofs.lemmas.List.{length-take, length-append}
use Rattle.std.proofs.lemmas.List.Elements.{All-nil, All-cons}
use Rattle.std.proofs.lemmas.List.Sums.{sum_by-cons, count_by-le-length}
use Rattle.flat_model.specs.vm_types.declared.call.Call.TheVariants.{Read, Fork}
use Rattle.flat_model.specs.vm_types.declared.call.Entry.{Entry}
use Rattle.flat_model.specs.vm_types.declared.call.Reply.TheVariants.{Bytes, Io, Done}
use Rattle.flat_model.specs.vm_types.Parts.{ends_call, next_part}
use Rattle.flat_model.specs.vnode_files.Files.{vnode_at, extents_on, block_count}
use Rattle.flat_model.specs.vnode_files.Grow.{has_block, extent_end, page_count}
use Rattle.flat_model.specs.vnode_files.Layout.{LieOnDisk}
use Rattle.flat_model.specs.vnode_files.Vnode.{VnodeSeen, IsSoundVnode}
use Rattle.flat_model.specs.vnode_files.declared.extent.Extent.{Extent}
use Rattle.addr_space.specs.Space.{Part, IsInOrder, has}
use Rattle.anon_map.specs.Maps.{Map, places_of, holders_of}
use Rattle.page_store.specs.block_device.DiskSeen.{DiskSeen, IsBlock, AreBlocks, HasBlocks}
use Rattle.page_store.specs.core_arena.Bytes.{bytes_at}
use Rattle.page_store.specs.page_hash.Names.{name_at}
use Rattle.page_store.specs.page_hash.declared.PageName.{PageName}
use Rattle.page_store.proofs.page_lists.ListLemmas.{Contains-none}
use Rattle.page_store.specs.page_lock.Rows.{row_at}
use Rattle.page_store.specs.Bays.{BaySeen, missing, home, out, bay_at}
use Rattle.page_store.specs.Layout.{FileBlocks}
use Rattle.page_store.specs.Notes.{Note}
use Rattle.page_store.specs.declared.plan.Plan.TheVariants.{Push}
use Rattle.page_store.specs.Seen.{IsSoundStore, FrameAgrees, IsListedFrame, IsGone}
use Rattle.page_store.specs.StoreFits.{StoreFits, NoteAgrees}
use Rattle.page_store.proofs.LayoutLemmas.{layout_law}
use Rattle.flat_model.specs.Counted.{top_count}
use Rattle.flat_model.specs.Flat.{File, Flat, IsFile, IsFlat, Space, private_cells, reserved}
use Rattle.flat_model.specs.Mapping.{cells_of}
use Rattle.flat_model.specs.Processes.{fork, with_child}
use Rattle.flat_model.specs.Refusals.{Effect, check, done_effect, or_refused}
use Rattle.flat_model.specs.vm_types.declared.call.Errno.TheVariants as errno
use Rattle.flat_model.specs.History.{Legal, IsBirth, IsStart, IsSyncStart, IsNextOwn, replay}
use Rattle.flat_model.specs.OpenLaws.{last_entry, FollowsOn, IsOpenPart, MayFollow}
use Rattle.flat_model.specs.Births.{is_birth}
use Rattle.flat_model.specs.Parts.{read_line, without_tail, file_bytes}
use Rattle.flat_model.specs.Step.{step, after_act, is_bit_set, tails_cleared, IsDue, IsStep}
use Rattle.flat_model.specs.Told.{entries_of}
use Rattle.flat_model.specs.Words.{Page, IsPage}
use Rattle.flat_model.proofs.Ranges.{get-insert_here, get-insert_apart}
use Rattle.vm_world.specs.World.{file_blocks, file_name, slot_name, world_table, is_unpushed, page_exists}
use Rattle.vm_world.specs.Pages.{Contents, page_value, contents_of}
use Rattle.vm_world.specs.Segments.{Segment, segments_of, zero_map}
use Rattle.vm_world.specs.FlatMemory.{flat_memory, zero_maps, zero_pages, map_with, file_with_pages, space_with, cell_of}
use Rattle.vm_world.specs.FramesFit.{FilesFit, HasSize}
use Rattle.vm_world.specs.CountsFit.{CountsFit, SegmentsFit, SegmentFits, ShowsZero, is_number, places_in, times_held, times_had, reserved_pages, slots_for_part}
use Rattle.vm_world.specs.MemoryFits.{MemoryFits}
use Rattle.vm_world.specs.NotesFit.{NotesFit, PushFits, MayWriteGone}
use Rattle.vm_world.specs.State.{Sent, Caller, KeptPlan, notes_of, process_parent, is_top, room_of}
use Rattle.vm_world.specs.StateFits.{StateFits, PlanFits}
use Rattle.vm_world.specs.DiskPlaces.{faults_in}
use Rattle.vm_world.specs.HistoryFits.{HistoryFits, FaultsFit, CallsFit, RoomsFit, BirthsFit, has_left}
use Rattle.vm_world.specs.Crowded.{crowded_part, crowded_parent, crowded_spaces, crowded_maps, crowded_slots, crowded_info, crowded_other, crowded_files, crowded_disk, crowded_store, crowded_hat, crowded_memory, crowded_snapshot, crowded_gone, crowded_seats, crowded_file, crowded_birth, crowded_read, crowded_history, crowded_start, crowded_state, crowded_opening, CrowdedLaw}
use Rattle.vm_world.specs.declared.sync_start.SyncStart.{SyncStart}
use Rattle.vm_world.proofs.Counting.{adds, adds-other}
use Rattle.vm_world.proofs.CrowdedMarks.{crowded-marks, never-failed}
use Rattle.vm_world.proofs.CutFiles.{cut-file}
use Rattle.vm_world.specs.WorldSteps.{cut_page}
use Rattle.vm_world.proofs.FlatWhole.{HasPages, some-inj, flat-whole}
use Rattle.vm_world.proofs.Maps.{get-map_with, get-space_with, map-insert}
use Rattle.vm_world.proofs.Openings.{none-pending}
use Rattle.vm_world.proofs.PageNames.{page-cases}
use Rattle.vm_world.proofs.Reserves.{private-parts, reserved_law}
use Rattle.vm_world.proofs.Spaces.{map-empty, entries-empty}
use Rattle.vm_world.proofs.StoredPages.{IsPage-clip, IsPage-zeros}

-- ---- two numbers with a value each

two-entries : {X : Type 0} (p q : ℕ) (v w : X) → finite.put nat_cmp q w ((p, v) ∷ []) ≡ (p, v) ∷ (q, w) ∷ [] → finite.entries (finite.insert (finite.insert (finite.empty {X = X} {R = nat_cmp}) p v) q w) ≡ (p, v) ∷ (q, w) ∷ []
two-entries {X} p q v w put =
    finite.entries-insert nat_cmp_total (finite.insert finite.empty p v) q w
    ∙ ap (finite.put nat_cmp q w) (finite.entries-insert nat_cmp_total finite.empty p v ∙ ap (finite.put nat_cmp p v) (entries-empty {X = X})) ∙ put

two-get : {X : Type 0} (p q : ℕ) (v w : X) (k : ℕ) (x : X) → finite.get (finite.insert (finite.insert (finite.empty {X = X} {R = nat_cmp}) p v) q w) k ≡ Some x → ((k ≡ p) × (v ≡ x)) ⊎ ((k ≡ q) × (w ≡ x))
two-get {X} p q v w k x is = elim (cases_eq k q) [
  | inl e ↦ inr (e, some-inj w x (sym (get-insert_here (finite.insert (finite.empty {X = X} {R = nat_cmp}) p v) q w) ∙ ap (finite.get (finite.insert (finite.insert (finite.empty {X = X} {R = nat_cmp}) p v) q w)) (sym e) ∙ is))
  | inr ne ↦
      let first : finite.get (finite.insert (finite.empty {X = X} {R = nat_cmp}) p v) k ≡ Some x = sym (get-insert_apart (finite.insert (finite.empty {X = X} {R = nat_cmp}) p v) q w k ne) ∙ is in
      elim (cases_eq k p) [
        | inl e ↦ inl (e, some-inj v x (sym (get-insert_here (finite.empty {X = X} {R = nat_cmp}) p v) ∙ ap (finite.get (finite.insert (finite.empty {X = X} {R = nat_cmp}) p v)) (sym e) ∙ first))
        | inr apart ↦ absurd (let z : ◌≡◌ {A = Option X} None (Some x) = sym (get-insert_apart (finite.empty {X = X} {R = nat_cmp}) p v k apart ∙ finite.get-empty nat_cmp k) ∙ first in cc)
      ]
]

two-first : {X : Type 0} (p q : ℕ) (v w : X) → p ≢ q → finite.get (finite.insert (finite.insert (finite.empty {X = X} {R = nat_cmp}) p v) q w) p ≡ Some v
two-first {X} p q v w ne = get-insert_apart (finite.insert (finite.empty {X = X} {R = nat_cmp}) p v) q w p ne ∙ get-insert_here (finite.empty {X = X} {R = nat_cmp}) p v

two-second : {X : Type 0} (p q : ℕ) (v w : X) → finite.get (finite.insert (finite.insert (finite.empty {X = X} {R = nat_cmp}) p v) q w) q ≡ Some w
two-second {X} p q v w = get-insert_here (finite.insert (finite.empty {X = X} {R = nat_cmp}) p v) q w

-- ---- segments and counts

abbrev segment : ℕ → Segment
segment own = (crowded_part own).piece

entries-are : finite.entries crowded_spaces ≡ (1, crowded_part 0 ∷ []) ∷ (2, crowded_part 1 ∷ []) ∷ []
entries-are = two-entries 1 2 (crowded_part 0 ∷ []) (crowded_part 1 ∷ []) refl

segments-are : segments_of crowded_spaces ≡ segment 0 ∷ segment 1 ∷ []
segments-are = ap (λ (es : List (ℕ × List (Part Segment))). flat_map (λ (ps : List (Part Segment)). map (λ (x : Part Segment). x.piece) ps) (map (λ e. e.1) es)) entries-are

zeros-are : zero_maps crowded_spaces ≡ finite.empty
zeros-are =
    ap (λ (es : List (ℕ × List (Part Segment))). finite.from_entries (flat_map (λ (ps : List (Part Segment)). filter_map (λ (x : Part Segment). zero_map x.piece) ps) (map (λ e. e.1) es))) entries-are
    ∙ map-empty (finite.from_entries []) (λ q. finite.get-from_entries nat_cmp_total [] q)

no-zero : (z number : ℕ) → finite.get (zero_maps crowded_spaces) z ≡ Some number → ⊥
no-zero z number is = let e : None ≡ Some number = sym (finite.get-empty nat_cmp z) ∙ sym (ap (λ (zs : finite.FinMap nat_cmp ℕ). finite.get zs z) zeros-are) ∙ is in cc

reserved-are : reserved_pages crowded_maps crowded_spaces ≡ 2
reserved-are =
    let a : sum_by (λ parts. sum_by slots_for_part parts) (finite.values crowded_spaces) ≡ 2 = ap (λ (es : List (ℕ × List (Part Segment))). sum_by (λ parts. sum_by slots_for_part parts) (map (λ e. e.1) es)) entries-are in
    let b : sum_by (λ number. length (places_of crowded_maps number)) (finite.values (zero_maps crowded_spaces)) ≡ 0 =
    ap (λ (zs : finite.FinMap nat_cmp ℕ). sum_by (λ number. length (places_of crowded_maps number)) (finite.values zs)) zeros-are
    ∙ ap (λ (es : List (ℕ × ℕ)). sum_by (λ number. length (places_of crowded_maps number)) (map (λ e. e.1) es)) entries-empty in
    omega (arith, a, b)

-- and of the parent alone
parent-entries : finite.entries crowded_parent ≡ (1, crowded_part 0 ∷ []) ∷ []
parent-entries = finite.entries-insert nat_cmp_total finite.empty 1 (crowded_part 0 ∷ []) ∙ ap (finite.put nat_cmp 1 (crowded_part 0 ∷ [])) (entries-empty {X = List (Part Segment)})

parent-zeros : zero_maps crowded_parent ≡ finite.empty
parent-zeros =
    ap (λ (es : List (ℕ × List (Part Segment))). finite.from_entries (flat_map (λ (ps : List (Part Segment)). filter_map (λ (x : Part Segment). zero_map x.piece) ps) (map (λ e. e.1) es))) parent-entries
    ∙ map-empty (finite.from_entries []) (λ q. finite.get-from_entries nat_cmp_total [] q)

parent-reserved : reserved_pages crowded_maps crowded_parent ≡ 1
parent-reserved =
    let a : sum_by (λ parts. sum_by slots_for_part parts) (finite.values crowded_parent) ≡ 1 = ap (λ (es : List (ℕ × List (Part Segment))). sum_by (λ parts. sum_by slots_for_part parts) (map (λ e. e.1) es)) parent-entries in
    let b : sum_by (λ number. length (places_of crowded_maps number)) (finite.values (zero_maps crowded_parent)) ≡ 0 =
    ap (λ (zs : finite.FinMap nat_cmp ℕ). sum_by (λ number. length (places_of crowded_maps number)) (finite.values zs)) parent-zeros
    ∙ ap (λ (es : List (ℕ × ℕ)). sum_by (λ number. length (places_of crowded_maps number)) (map (λ e. e.1) es)) entries-empty in
    omega (arith, a, b)

parent-part : finite.get crowded_parent 1 ≡ Some (crowded_part 0 ∷ [])
parent-part = get-insert_here finite.empty 1 (crowded_part 0 ∷ [])

part-ordered : (own : ℕ) → IsInOrder 1 (crowded_part own ∷ [])
part-ordered own = (record { behind = omega arith; some = omega arith; within = omega arith }, tt)

parent-ordered : (p : ℕ) (parts : List (Part Segment)) → finite.get crowded_parent p ≡ Some parts → IsInOrder 1 parts
parent-ordered p parts is = elim (cases_eq p 1) [
  | inl e ↦ subst (λ (ps : List (Part Segment)). IsInOrder 1 ps) (some-inj (crowded_part 0 ∷ []) parts (sym parent-part ∙ ap (finite.get crowded_parent) (sym e) ∙ is)) (part-ordered 0)
  | inr ne ↦ absurd (let z : ◌≡◌ {A = Option (List (Part Segment))} None (Some parts) = sym (get-insert_apart finite.empty 1 (crowded_part 0 ∷ []) p ne ∙ finite.get-empty nat_cmp p) ∙ is in cc)
]

counts-fit : CountsFit crowded_slots crowded_maps
counts-fit = record {
  sound = record { lengths = refl; used = omega arith; reserved = omega arith; fits = omega arith };
  counts = λ s. sym (times s ∙ count s);
  places = refl;
}
  where
    times : (s : ℕ) → times_held crowded_maps s ≡ adds s (Some 0) + adds s (Some 0)
    times s =
        let a = sum_by-cons (λ (x : Option Map). count_by (is_number s) (places_in x)) (Some (record { places = Some 0 ∷ []; holders = 1 })) (Some (record { places = Some 0 ∷ []; holders = 1 }) ∷ []) in
        let b = sum_by-cons (λ (x : Option Map). count_by (is_number s) (places_in x)) (Some (record { places = Some 0 ∷ []; holders = 1 })) [] in
        let c = sum_by-cons (adds s) (Some 0) [] in
        omega (arith, a, b, c)

    count : (s : ℕ) → adds s (Some 0) + adds s (Some 0) ≡ slice_index (2 ∷ 0 ∷ []) s
    count zero = refl
    count (suc zero) = refl
    count (suc (suc s)) = let x = adds-other (suc (suc s)) 0 (omega arith) in omega (arith, x)

part-fits : (own : ℕ) → IsSome (slice_index_or crowded_maps own None) → length (places_of crowded_maps own) ≡ 1 → holders_of crowded_maps own ≡ 1 → SegmentFits 2 crowded_maps (crowded_part own)
part-fits own there long held = record { pages = refl; end = omega arith; within = refl; object = (refl, refl); own = (own, refl, there, long, held) }

segments-fit : SegmentsFit 2 crowded_slots crowded_maps crowded_spaces
segments-fit = record {
  ordered = λ p parts is. elim (spaces-are p parts is) [
    | inl x ↦ subst (λ (ps : List (Part Segment)). IsInOrder 1 ps) x.1 (part-ordered 0)
    | inr y ↦ subst (λ (ps : List (Part Segment)). IsInOrder 1 ps) y.1 (part-ordered 1)
  ];
  each = λ p parts is. elim (spaces-are p parts is) [
    | inl x ↦ subst (λ (ps : List (Part Segment)). All (SegmentFits 2 crowded_maps) ps) x.1 (All-cons (SegmentFits 2 crowded_maps) (crowded_part 0) [] (part-fits 0 refl refl refl) (All-nil (SegmentFits 2 crowded_maps)))
    | inr y ↦ subst (λ (ps : List (Part Segment)). All (SegmentFits 2 crowded_maps) ps) y.1 (All-cons (SegmentFits 2 crowded_maps) (crowded_part 1) [] (part-fits 1 refl refl refl) (All-nil (SegmentFits 2 crowded_maps)))
  ];
  holders = λ number. holders number ∙ sym (ap (sum_by (times_had number)) segments-are);
  zeros = subst (λ (ss : List Segment). All (ShowsZero (zero_maps crowded_spaces)) ss) (sym segments-are)
      (All-cons (ShowsZero (zero_maps crowded_spaces)) (segment 0) (segment 1 ∷ []) (λ z number is. absurd (cc))
      (All-cons (ShowsZero (zero_maps crowded_spaces)) (segment 1) [] (λ z number is. absurd (cc)) (All-nil (ShowsZero (zero_maps crowded_spaces)))));
  apart = λ y z number is _. absurd (no-zero y number is);
  once = λ y number place slot is _. absurd (no-zero y number is);
  reserved = reserved-are;
}
  where
    spaces-are : (p : ℕ) (parts : List (Part Segment)) → finite.get crowded_spaces p ≡ Some parts → ((p ≡ 1) × (crowded_part 0 ∷ [] ≡ parts)) ⊎ ((p ≡ 2) × (crowded_part 1 ∷ [] ≡ parts))
    spaces-are = two-get 1 2 (crowded_part 0 ∷ []) (crowded_part 1 ∷ [])

    holders : (number : ℕ) → holders_of crowded_maps number ≡ sum_by (times_had number) (segment 0 ∷ segment 1 ∷ [])
    holders zero = refl
    holders (suc zero) = refl
    holders (suc (suc number)) =
        let y = adds-other (suc (suc number)) 0 (omega arith) in
        let z = adds-other (suc (suc number)) 1 (omega arith) in
        let a = sum_by-cons (times_had (suc (suc number))) (segment 0) (segment 1 ∷ []) in
        let b = sum_by-cons (times_had (suc (suc number))) (segment 1) [] in
        omega (arith, a, b, y, z)

-- ---- files

abbrev vnode-0 : VnodeSeen
vnode-0 = record { info = crowded_info; blanks = false ∷ false ∷ [] }

abbrev vnode-1 : VnodeSeen
vnode-1 = record { info = crowded_other; blanks = false ∷ [] }

abbrev extent-0 : Extent
extent-0 = record { start = 1; pages = 2 }

abbrev extent-1 : Extent
extent-1 = record { start = 1; pages = 1 }

-- File n lies on disk n, and page n of a file in block n + 1.
keeps-is : (o p : ℕ) (f : FileBlocks) (b : ℕ) → slice_get (map file_blocks crowded_files.files) o ≡ Some f → slice_get f.blocks p ≡ Some b → (f.disk ≡ o) × ((b ≡ p + 1) × (p + o < 2))
keeps-is zero p f b is at =
    let same : file_blocks vnode-0 ≡ f = some-inj (file_blocks vnode-0) f is in
    (ap (λ (g : FileBlocks). g.disk) (sym same), first p (ap (λ (g : FileBlocks). slice_get g.blocks p) same ∙ at))
  where
    first : (p : ℕ) → slice_get (1 ∷ 2 ∷ []) p ≡ Some b → (b ≡ p + 1) × (p + 0 < 2)
    first zero at = (sym (some-inj 1 b at), omega arith)
    first (suc zero) at = (sym (some-inj 2 b at), omega arith)
    first (suc (suc p)) at = absurd (cc)
keeps-is (suc zero) p f b is at =
    let same : file_blocks vnode-1 ≡ f = some-inj (file_blocks vnode-1) f is in
    (ap (λ (g : FileBlocks). g.disk) (sym same), other p (ap (λ (g : FileBlocks). slice_get g.blocks p) same ∙ at))
  where
    other : (p : ℕ) → slice_get (1 ∷ []) p ≡ Some b → (b ≡ p + 1) × (p + 1 < 2)
    other zero at = (sym (some-inj 1 b at), omega arith)
    other (suc p) at = absurd (cc)
keeps-is (suc (suc o)) p f b is at = absurd (cc)

size-0 : finite.get crowded_files.disks 0 ≡ Some 3
size-0 = two-first 0 1 3 2 (omega arith)

size-1 : finite.get crowded_files.disks 1 ≡ Some 2
size-1 = two-second 0 1 3 2

size-is : (number blocks : ℕ) → finite.get crowded_files.disks number ≡ Some blocks → ((number ≡ 0) × (3 ≡ blocks)) ⊎ ((number ≡ 1) × (2 ≡ blocks))
size-is = two-get 0 1 3 2

-- on each disk there is one extent at most
extents-few : (disk : ℕ) → length (extents_on disk crowded_files.files) ≤ 1
extents-few zero = omega arith
extents-few (suc zero) = omega arith
extents-few (suc (suc disk)) = subst (λ (n : ℕ). n ≤ 1) (sym (none (suc (suc disk)) (apart 0 (omega arith)) (apart 1 (omega arith)))) (omega arith)
  where
    apart : (file : ℕ) → file < 2 → (file == suc (suc disk)) ≡ false
    apart file low = elim (eqb_tells file (suc (suc disk))) [ inl y ↦ absurd (let e = y.1 in omega (arith, e, low)) | inr n ↦ n.0 ]

    none : (n : ℕ) → (0 == n) ≡ false → (1 == n) ≡ false → length (extents_on n crowded_files.files) ≡ 0
    none n a b =
        ap (λ (x : Bool). length (flat_map (λ (v : VnodeSeen). v.info.extents) (cond x (vnode-0 ∷ cond (1 == n) (vnode-1 ∷ []) []) (cond (1 == n) (vnode-1 ∷ []) [])))) a
        ∙ ap (λ (x : Bool). length (flat_map (λ (v : VnodeSeen). v.info.extents) (cond x (vnode-1 ∷ []) []))) b

file-fits : FilesFit crowded_files
file-fits = record {
  small = λ number blocks is. elim (size-is number blocks is) [ inl x ↦ let e = x.1 in omega (arith, e) | inr y ↦ let e = y.1 in omega (arith, e) ];
  each = each;
  disjoint = record {
    few = omega arith;
    disks = λ n f b k. let at = keeps-is n.object n.page f b k.number k.place in let a = at.0 in let c = at.1.1 in omega (arith, a, c);
    apart = λ m n f g b k l same.
        let x = keeps-is m.object m.page f b k.number k.place in
        let y = keeps-is n.object n.page g b l.number l.place in
        let x0 = x.0 in let x1 = x.1.0 in let y0 = y.0 in let y1 = y.1.0 in
        let object : m.object ≡ n.object = omega (arith, x0, y0, same) in
        let page : m.page ≡ n.page = omega (arith, x1, y1) in
        λ i. record { object = object i; page = page i };
  };
  set = set;
  low = λ n f b k. let at = keeps-is n.object n.page f b k.number k.place in let a = at.1.0 in omega (arith, a);
  high = λ n f b k. high n f b (keeps-is n.object n.page f b k.number k.place);
  lie = All-cons (λ (v : VnodeSeen). LieOnDisk (block_count crowded_files.disks v.info.disk) v.info.extents) vnode-0 (vnode-1 ∷ [])
      (subst (λ (n : ℕ). LieOnDisk n (extent-0 ∷ [])) (sym (ap (λ (o : Option ℕ). unwrap_or o 0) size-0)) (lies 3 2 extent-0 (omega arith) (omega arith) (omega arith)))
      (All-cons (λ (v : VnodeSeen). LieOnDisk (block_count crowded_files.disks v.info.disk) v.info.extents) vnode-1 []
      (subst (λ (n : ℕ). LieOnDisk n (extent-1 ∷ [])) (sym (ap (λ (o : Option ℕ). unwrap_or o 0) size-1)) (lies 2 1 extent-1 (omega arith) (omega arith) (omega arith)))
      (All-nil (λ (v : VnodeSeen). LieOnDisk (block_count crowded_files.disks v.info.disk) v.info.extents)));
  apart = λ disk b. let most = count_by-le-length (has_block b) (extents_on disk crowded_files.files) in let few = extents-few disk in omega (arith, most, few);
  few = λ disk. let few = extents-few disk in omega (arith, few);
  some = some;
}
  where
    each : (file : ℕ) → file < 2 → IsSoundVnode (vnode_at crowded_files file)
    each zero lt = record { bits = refl; pages = omega arith; blocks = All-cons (λ (e : Extent). extent_end e ≤ 2 ^ 32) extent-0 [] (omega arith) (All-nil (λ (e : Extent). extent_end e ≤ 2 ^ 32)); within = omega arith }
    each (suc zero) lt = record { bits = refl; pages = omega arith; blocks = All-cons (λ (e : Extent). extent_end e ≤ 2 ^ 32) extent-1 [] (omega arith) (All-nil (λ (e : Extent). extent_end e ≤ 2 ^ 32)); within = omega arith }
    each (suc (suc file)) lt = absurd (omega (arith, lt))

    set : (file : ℕ) → file < 2 → IsSome (finite.get crowded_files.disks (vnode_at crowded_files file).info.disk)
    set zero lt = ap is_some size-0
    set (suc zero) lt = ap is_some size-1
    set (suc (suc file)) lt = absurd (omega (arith, lt))

    some : (file : ℕ) → file < 2 → 1 ≤ length (vnode_at crowded_files file).info.extents
    some zero lt = omega arith
    some (suc zero) lt = omega arith
    some (suc (suc file)) lt = absurd (omega (arith, lt))

    high : (n : PageName) (f : FileBlocks) (b : ℕ) → (f.disk ≡ n.object) × ((b ≡ n.page + 1) × (n.page + n.object < 2)) → b < block_count crowded_files.disks f.disk
    high n f b at = subst (λ (k : ℕ). b < block_count crowded_files.disks k) (sym at.0) (by_file n.object n.page at.1.1 at.1.0)
      where
        by_file : (o p : ℕ) → p + o < 2 → b ≡ p + 1 → b < block_count crowded_files.disks o
        by_file zero p lt e = subst (λ (o : Option ℕ). b < unwrap_or o 0) (sym size-0) (omega (arith, lt, e))
        by_file (suc zero) p lt e = subst (λ (o : Option ℕ). b < unwrap_or o 0) (sym size-1) (omega (arith, lt, e))
        by_file (suc (suc o)) p lt e = absurd (omega (arith, lt))

    lies : (blocks pages : ℕ) (e : Extent) → 1 ≤ e.pages → 1 ≤ e.start → extent_end e ≤ blocks → LieOnDisk blocks (e ∷ [])
    lies blocks pages e long past end = record {
      some = All-cons (λ (x : Extent). 1 ≤ x.pages) e [] long (All-nil (λ (x : Extent). 1 ≤ x.pages));
      within = All-cons (λ (x : Extent). (1 ≤ x.start) × (extent_end x ≤ blocks)) e [] (past, end) (All-nil (λ (x : Extent). (1 ≤ x.start) × (extent_end x ≤ blocks)));
      gaps = tt;
    }

-- a part of 64 bytes of a read of 100 doesn't end it
open-part : (xs : List ℕ) → length xs ≡ 64 → ends_call (Read 0 0 100) (Bytes xs) ≡ false
unfolding next_part
open-part xs long = ap (λ (n : ℕ). is_none (if nat_lt n 64 then None else if (100 - n) == 0 then None else if nat_le (2 ^ 32) (0 + n) then None else Some (Read 0 (0 + n) (100 - n)))) long

-- a Fork is one entry
birth-ends : ends_call (Fork 2) Done ≡ true
unfolding next_part
birth-ends = refl

-- The first part of a read of 100 bytes has 64, where the file has them.
line-size : (file : File) → 64 ≤ file.len → 64 ≤ length (concat file.pages) → length (read_line file 0 100) ≡ 64
line-size file low long =
    let a : length (read_line file 0 100) ≡ min 64 (length (drop 0 (file_bytes file))) = length-take 64 (drop 0 (file_bytes file)) in
    let b : length (drop 0 (file_bytes file)) ≡ length (file_bytes file) = refl in
    let c : length (file_bytes file) ≡ min file.len (length (concat file.pages)) = length-take file.len (concat file.pages) in
    omega (arith, a, b, c, low, long)

-- ---- the store

module _ (page : Page) (whole : IsPage page) where
  size-of : (b : List ℕ) → ◌≡◌ {A = Option (List ℕ)} (Some page) (Some b) → length b ≡ 4096
  size-of b e = ap (λ (x : List ℕ). length x) (sym (some-inj page b e)) ∙ whole.whole

  name-is : (k : ℕ) (n : PageName) → name_at (crowded_store page).names k ≡ Some n → ((k ≡ 0) × (n ≡ file_name 0 0)) ⊎ ((k ≡ 1) × (n ≡ file_name 1 0))
  name-is zero n is = inl (refl, sym (some-inj (file_name 0 0) n is))
  name-is (suc zero) n is = inr (refl, sym (some-inj (file_name 1 0) n is))
  name-is (suc (suc zero)) n is = absurd (cc)
  name-is (suc (suc (suc zero))) n is = absurd (cc)
  name-is (suc (suc (suc (suc k)))) n is = absurd (cc)

  snapshot-is : (k copy : ℕ) → (row_at (crowded_store page).rows k).snapshot ≡ Some copy → (k ≡ 1) × (copy ≡ 2)
  snapshot-is zero copy is = absurd (cc)
  snapshot-is (suc zero) copy is = (refl, sym (some-inj 2 copy is))
  snapshot-is (suc (suc zero)) copy is = absurd (cc)
  snapshot-is (suc (suc (suc zero))) copy is = absurd (cc)
  snapshot-is (suc (suc (suc (suc k)))) copy is = absurd (cc)

  source-is : (k own : ℕ) → (row_at (crowded_store page).rows k).source ≡ Some own → (k ≡ 2) × (own ≡ 1)
  source-is zero own is = absurd (cc)
  source-is (suc zero) own is = absurd (cc)
  source-is (suc (suc zero)) own is = (refl, sym (some-inj 1 own is))
  source-is (suc (suc (suc zero))) own is = absurd (cc)
  source-is (suc (suc (suc (suc k)))) own is = absurd (cc)

  holder-is : (k seat : ℕ) → (row_at (crowded_store page).rows k).holder ≡ Some seat → ((k ≡ 2) × (seat ≡ 1)) ⊎ ((k ≡ 3) × (seat ≡ 2))
  holder-is zero seat is = absurd (cc)
  holder-is (suc zero) seat is = absurd (cc)
  holder-is (suc (suc zero)) seat is = inl (refl, sym (some-inj 1 seat is))
  holder-is (suc (suc (suc zero))) seat is = inr (refl, sym (some-inj 2 seat is))
  holder-is (suc (suc (suc (suc k)))) seat is = absurd (cc)

  agrees : (k : ℕ) → k < 4 → FrameAgrees (bytes_at (crowded_store page).frames k) (name_at (crowded_store page).names k) (row_at (crowded_store page).rows k)
  agrees zero lt = record { size = size-of; away = refl; unnamed = refl; torn = λ g. absurd (cc) }
  agrees (suc zero) lt = record { size = size-of; away = refl; unnamed = refl; torn = λ g. absurd (cc) }
  agrees (suc (suc zero)) lt = record { size = λ b e. absurd (cc); away = refl; unnamed = refl; torn = λ g. absurd (cc) }
  agrees (suc (suc (suc zero))) lt = record { size = λ b e. absurd (cc); away = refl; unnamed = refl; torn = λ g. refl }
  agrees (suc (suc (suc (suc k)))) lt = absurd (omega (arith, lt))

  abbrev disk-0 : DiskSeen
  disk-0 = crowded_disk (page ∷ page ∷ page ∷ []) 3

  abbrev BayIs : ℕ → BaySeen → Type 0
  BayIs number bay = (bay ≡ missing) ⊎ (((number ≡ 0) × (bay ≡ home disk-0)) ⊎ (((number ≡ 1) × (bay ≡ out 1)) ⊎ ((number ≡ 8) × (bay ≡ out 2))))

  bay-is : (number : ℕ) → BayIs number (bay_at (crowded_store page).bays number)
  bay-is zero = inr (inl (refl, refl))
  bay-is (suc zero) = inr (inr (inl (refl, refl)))
  bay-is (suc (suc zero)) = inl refl
  bay-is (suc (suc (suc zero))) = inl refl
  bay-is (suc (suc (suc (suc zero)))) = inl refl
  bay-is (suc (suc (suc (suc (suc zero))))) = inl refl
  bay-is (suc (suc (suc (suc (suc (suc zero)))))) = inl refl
  bay-is (suc (suc (suc (suc (suc (suc (suc zero))))))) = inl refl
  bay-is (suc (suc (suc (suc (suc (suc (suc (suc zero)))))))) = inr (inr (inr (refl, refl)))
  bay-is (suc (suc (suc (suc (suc (suc (suc (suc (suc k))))))))) = inl refl

  home-is : (number : ℕ) (d : DiskSeen) → bay_at (crowded_store page).bays number ≡ home d → (number ≡ 0) × (disk-0 ≡ d)
  home-is number d is = elim (bay-is number) [
    | inl m ↦ absurd (let z : missing ≡ home d = sym m ∙ is in cc)
    | inr (inl h) ↦ (h.0, let z : home disk-0 ≡ home d = sym h.1 ∙ is in cc)
    | inr (inr (inl o)) ↦ absurd (let z : out 1 ≡ home d = sym o.1 ∙ is in cc)
    | inr (inr (inr o)) ↦ absurd (let z : out 2 ≡ home d = sym o.1 ∙ is in cc)
  ]

  out-is : (number seat : ℕ) → bay_at (crowded_store page).bays number ≡ out seat → ((number ≡ 1) × (seat ≡ 1)) ⊎ ((number ≡ 8) × (seat ≡ 2))
  out-is number seat is = elim (bay-is number) [
    | inl m ↦ absurd (let z : missing ≡ out seat = sym m ∙ is in cc)
    | inr (inl h) ↦ absurd (let z : home disk-0 ≡ out seat = sym h.1 ∙ is in cc)
    | inr (inr (inl o)) ↦ inl (o.0, let z : out 1 ≡ out seat = sym o.1 ∙ is in let e : 1 ≡ seat = cc in sym e)
    | inr (inr (inr o)) ↦ inr (o.0, let z : out 2 ≡ out seat = sym o.1 ∙ is in let e : 2 ≡ seat = cc in sym e)
  ]

  low-is : (number : ℕ) → number < 8 → bay_at (crowded_store page).bays number ≢ missing → (number ≡ 0) ⊎ (number ≡ 1)
  low-is number low there = elim (bay-is number) [
    | inl m ↦ absurd (there m)
    | inr (inl h) ↦ inl h.0
    | inr (inr (inl o)) ↦ inr o.0
    | inr (inr (inr o)) ↦ let at = o.0 in absurd (omega (arith, low, at))
  ]

  unlisted : (k : ℕ) → ¬ IsListedFrame (crowded_store page) k
  unlisted k l = elim l [ inl a ↦ Contains-none k a | inr b ↦ Contains-none k b ]

  page-block : IsBlock page
  page-block = (whole.whole, λ at. byte at (grind arith))
    where
      past : (xs : List ℕ) (at : ℕ) → length xs ≤ at → slice_index xs at ≡ 0
      past [] at le = refl
      past (x ∷ xs) zero le = absurd (omega (arith, le))
      past (x ∷ xs) (suc at) le = past xs at (omega (arith, le))

      byte : (at : ℕ) → (at < length page) ⊎ (length page ≤ at) → slice_index page at < 256
      byte at c = elim c [
        | inl lt ↦ whole.bytes at 0 lt
        | inr le ↦ let z = past page at le in omega (arith, z)
      ]

  two-blocks : HasBlocks (Some (page ∷ page ∷ [])) 2
  two-blocks = (refl, blocks)
    where
      blocks : AreBlocks (page ∷ page ∷ [])
      blocks zero lt = page-block
      blocks (suc zero) lt = page-block
      blocks (suc (suc k)) lt = absurd (omega (arith, lt))

  three-blocks : HasBlocks disk-0.content disk-0.size
  three-blocks = (refl, blocks)
    where
      blocks : AreBlocks (page ∷ page ∷ page ∷ [])
      blocks zero lt = page-block
      blocks (suc zero) lt = page-block
      blocks (suc (suc zero)) lt = page-block
      blocks (suc (suc (suc k))) lt = absurd (omega (arith, lt))

  sound : IsSoundStore (crowded_store page)
  sound = record {
    few = omega arith;
    names = refl;
    rows = refl;
    hands = refl;
    bays = refl;
    order = record { numbers = record { below = below; apart = apart }; there = there; all = all };
    distinct = λ i j n a b. elim (name-is i n a) [
      | inl x ↦ elim (name-is j n b) [ inl y ↦ x.0 ∙ sym y.0 | inr y ↦ absurd (let z : ◌≡◌ {A = ℕ} 0 1 = ap (λ (n : PageName). n.object) (sym x.1 ∙ y.1) in omega (arith, z)) ]
      | inr x ↦ elim (name-is j n b) [ inl y ↦ absurd (let z : ◌≡◌ {A = ℕ} 1 0 = ap (λ (n : PageName). n.object) (sym x.1 ∙ y.1) in omega (arith, z)) | inr y ↦ x.0 ∙ sym y.0 ]
    ];
    lists = record { once_free = tt; once_cached = tt; one_list = λ f a b. absurd (Contains-none f a); below_free = λ f a. absurd (Contains-none f a); below_cached = λ f a. absurd (Contains-none f a) };
    each = agrees;
    paired = record {
      source = λ own copy is. let s = snapshot-is own copy is in ap (λ (k : ℕ). (row_at (crowded_store page).rows k).source) s.1 ∙ ap (λ (k : ℕ). Some k) (sym s.0);
      snapshot = λ own copy is. let s = source-is copy own is in ap (λ (k : ℕ). (row_at (crowded_store page).rows k).snapshot) s.1 ∙ ap (λ (k : ℕ). Some k) (sym s.0);
      home = λ own copy is. subst (λ (k : ℕ). IsSome (bytes_at (crowded_store page).frames k)) (sym (snapshot-is own copy is).0) refl;
      named = λ own copy is. subst (λ (k : ℕ). IsSome (name_at (crowded_store page).names k)) (sym (snapshot-is own copy is).0) refl;
      unlisted = λ own copy is. unlisted own;
    };
    listed = λ k l. absurd (unlisted k l);
    unnamed = λ k l. absurd (Contains-none k l);
    spare = λ k there none. absurd (spare k there none);
    whole = λ number d is. subst (λ (e : DiskSeen). HasBlocks e.content e.size) (home-is number d is).1 three-blocks;
  }
    where
      below : (i : ℕ) → i < 2 → slice_index (0 ∷ 1 ∷ []) i < 8
      below zero lt = omega arith
      below (suc zero) lt = omega arith
      below (suc (suc i)) lt = absurd (omega (arith, lt))

      number : (i : ℕ) → i < 2 → slice_index (0 ∷ 1 ∷ []) i ≡ i
      number zero lt = refl
      number (suc zero) lt = refl
      number (suc (suc i)) lt = absurd (omega (arith, lt))

      apart : (i j : ℕ) → i < 2 → j < 2 → slice_index (0 ∷ 1 ∷ []) i ≡ slice_index (0 ∷ 1 ∷ []) j → i ≡ j
      apart i j a b same = sym (number i a) ∙ same ∙ number j b

      there : (i : ℕ) → i < 2 → bay_at (crowded_store page).bays (slice_index (0 ∷ 1 ∷ []) i) ≢ missing
      there zero lt m = cc
      there (suc zero) lt m = cc
      there (suc (suc i)) lt m = omega (arith, lt)

      all : (n : ℕ) → n < 8 → bay_at (crowded_store page).bays n ≢ missing → (i : ℕ) × (i < 2) × (slice_index (0 ∷ 1 ∷ []) i ≡ n)
      all n low is = elim (low-is n low is) [ inl e ↦ (0, omega arith, sym e) | inr e ↦ (1, omega arith, sym e) ]

      spare : (k : ℕ) → IsSome (bytes_at (crowded_store page).frames k) → name_at (crowded_store page).names k ≡ None → ⊥
      spare zero there none = cc
      spare (suc zero) there none = cc
      spare (suc (suc zero)) there none = cc
      spare (suc (suc (suc zero))) there none = cc
      spare (suc (suc (suc (suc k)))) there none = cc

  modified-is : (k : ℕ) (n : PageName) → name_at (crowded_store page).names k ≡ Some n → (row_at (crowded_store page).rows k).modified ≡ true
  modified-is k n is = elim (name-is k n is) [
    | inl x ↦ ap (λ (k : ℕ). (row_at (crowded_store page).rows k).modified) x.0
    | inr y ↦ ap (λ (k : ℕ). (row_at (crowded_store page).rows k).modified) y.0
  ]

  pub memory-fits : MemoryFits (crowded_memory page)
  memory-fits = record {
    frames = record {
      sound = sound;
      unkept = keeps;
      unmodified = λ k l. absurd (unlisted k l);
      exist = λ k n is. elim (name-is k n is) [
        | inl x ↦ subst (λ (m : PageName). IsTrue (page_exists crowded_files crowded_slots m)) (sym x.1) refl
        | inr x ↦ subst (λ (m : PageName). IsTrue (page_exists crowded_files crowded_slots m)) (sym x.1) refl
      ];
    };
    files = file-fits;
    disks = record {
      numbers = λ number blocks is. elim (size-is number blocks is) [ inl x ↦ let e = x.0 in omega (arith, e) | inr y ↦ let e = y.0 in omega (arith, e) ];
      there = λ number blocks is. elim (size-is number blocks is) [
        | inl x ↦ subst (λ (k : ℕ). bay_at (crowded_store page).bays k ≢ missing) (sym x.0) (λ m. cc)
        | inr y ↦ subst (λ (k : ℕ). bay_at (crowded_store page).bays k ≢ missing) (sym y.0) (λ m. cc)
      ];
      set = λ number low there. elim (low-is number low there) [
        | inl e ↦ subst (λ (k : ℕ). IsSome (finite.get crowded_files.disks k)) (sym e) (ap is_some size-0)
        | inr e ↦ subst (λ (k : ℕ). IsSome (finite.get crowded_files.disks k)) (sym e) (ap is_some size-1)
      ];
      swap = λ lt m. (let z : out 2 ≡ missing = m in cc);
      unused = λ none. absurd (omega (arith, none));
      sizes = λ number d is. let h = home-is number d is in
          subst (λ (e : DiskSeen). HasSize crowded_files.disks 2 number e.size) h.1 (record {
            file = λ blocks at. elim (size-is number blocks at) [ inl x ↦ x.1 | inr y ↦ let a = y.0 in let b = h.0 in absurd (omega (arith, a, b)) ];
            swap = λ e. let b = h.0 in absurd (omega (arith, e, b));
          });
    };
    pool = record { leads = refl; single = λ i j space q a _. absurd (cc) };
    translations = λ place t is. absurd (cc);
    unpushed = λ k s name unpushed there. inl (modified-is k (slot_name s) name);
    counts = counts-fit;
    segments = segments-fit;
  }
    where
      keeps : (k : ℕ) → (row_at (crowded_store page).rows k).keeps ≡ 0
      keeps zero = refl
      keeps (suc zero) = refl
      keeps (suc (suc zero)) = refl
      keeps (suc (suc (suc zero))) = refl
      keeps (suc (suc (suc (suc k)))) = refl

  -- ---- what the seats have outside

  sent-is : (seat : ℕ) (note : Note) → notes_of (crowded_seats page) seat ≡ Some note → ((seat ≡ 1) × (note ≡ crowded_snapshot page)) ⊎ ((seat ≡ 2) × (note ≡ crowded_gone page))
  sent-is zero note is = absurd (cc)
  sent-is (suc zero) note is = inl (refl, sym (some-inj (crowded_snapshot page) note is))
  sent-is (suc (suc zero)) note is = inr (refl, sym (some-inj (crowded_gone page) note is))
  sent-is (suc (suc (suc seat))) note is = absurd (cc)

  -- what holds of each of the two holds of every note
  of-each : (P : ℕ → Note → Type 0) → P 1 (crowded_snapshot page) → P 2 (crowded_gone page) → (seat : ℕ) (note : Note) → notes_of (crowded_seats page) seat ≡ Some note → P seat note
  of-each P one two seat note is = elim (sent-is seat note is) [
    | inl x ↦ subst (λ (k : ℕ). P k note) (sym x.0) (subst (λ (n : Note). P 1 n) (sym x.1) one)
    | inr y ↦ subst (λ (k : ℕ). P k note) (sym y.0) (subst (λ (n : Note). P 2 n) (sym y.1) two)
  ]

  stored : StoreFits (crowded_store page) (notes_of (crowded_seats page)) (world_table (crowded_memory page).world)
  stored = record {
    apart = (layout_law.table (map file_blocks crowded_files.files) 2 (is_unpushed crowded_files crowded_slots)).apart file-fits.disjoint;
    each_note = of-each (λ seat note. NoteAgrees (crowded_store page) (world_table (crowded_memory page).world) seat note)
        (record { mine = refl; origin = refl; out = record { bay = refl; holder = refl; page = λ g. refl; read = λ w. absurd (cc) }; away = refl; disk = refl; block = refl; read = λ w. absurd (cc); whole = two-blocks; bytes = whole.whole })
        (record { mine = refl; origin = refl; out = record { bay = refl; holder = refl; page = λ g. absurd (cc); read = λ w. absurd (cc) }; away = refl; disk = refl; block = refl; read = λ w. absurd (cc); whole = two-blocks; bytes = whole.whole });
    each_frame = λ frame seat is. elim (holder-is frame seat is) [
      | inl x ↦ (crowded_snapshot page, ap (notes_of (crowded_seats page)) x.1, sym x.0)
      | inr y ↦ (crowded_gone page, ap (notes_of (crowded_seats page)) y.1, sym y.0)
    ];
    each_bay = λ number seat is. elim (out-is number seat is) [
      | inl x ↦ (crowded_snapshot page, ap (notes_of (crowded_seats page)) x.1, sym x.0)
      | inr y ↦ (crowded_gone page, ap (notes_of (crowded_seats page)) y.1, sym y.0)
    ];
    each_cached = λ frame n on _. absurd (Contains-none frame on);
  }

  notes-fit : NotesFit (crowded_memory page).world (notes_of (crowded_seats page))
  notes-fit = record {
    stored = stored;
    clean = λ frame name is there. inl (inl (modified-is frame name is));
    pushes = of-each (λ seat note. note.writes ≡ true → ¬ IsGone (crowded_store page) note.frame → PushFits (crowded_store page) crowded_hat.places (world_table (crowded_memory page).world) note)
        (λ writes here. record { pushed = refl; same = inl (inl refl) })
        (λ writes here. absurd (here refl));
    gone = of-each (λ seat note. note.writes ≡ true → IsGone (crowded_store page) note.frame → MayWriteGone (crowded_store page) crowded_files crowded_slots note.name)
        (λ writes gone. absurd (cc))
        (λ writes gone. inr (inl refl));
    sizes = of-each (λ seat note. HasSize crowded_files.disks 2 note.number note.disk.size)
        (record { file = λ blocks at. elim (size-is 1 blocks at) [ inl x ↦ let a = x.0 in absurd (omega (arith, a)) | inr y ↦ y.1 ]; swap = λ e. absurd (omega (arith, e)) })
        (record { file = λ blocks at. elim (size-is 8 blocks at) [ inl x ↦ let a = x.0 in absurd (omega (arith, a)) | inr y ↦ let a = y.0 in absurd (omega (arith, a)) ]; swap = λ e. omega arith });
  }

  -- ---- flat memory

  pages-are : HasPages (crowded_memory page).world (notes_of (crowded_seats page))
  pages-are name is = elim (page-cases crowded_files crowded_slots name is) [
    | inl s ↦ subst (λ (n : PageName). IsPage (page_value (crowded_memory page).world (notes_of (crowded_seats page)) n)) (λ i. record { object = sym s.0 i; page = name.page }) (slot name.page s.1)
    | inr f ↦ file name.object name.page f.1 f.2
  ]
    where
      slot : (k : ℕ) → k < 2 → IsPage (page_value (crowded_memory page).world (notes_of (crowded_seats page)) (slot_name k))
      slot zero lt = IsPage-clip 4096 page (omega arith) page-block
      slot (suc zero) lt = IsPage-zeros
      slot (suc (suc k)) lt = absurd (omega (arith, lt))

      file : (o k : ℕ) → o < 2 → k < page_count (vnode_at crowded_files o).info.extents → IsPage (page_value (crowded_memory page).world (notes_of (crowded_seats page)) (file_name o k))
      file zero zero there lt = whole
      file zero (suc zero) there lt = IsPage-clip 904 page (omega arith) page-block
      file zero (suc (suc k)) there lt = absurd (omega (arith, lt))
      file (suc zero) zero there lt = whole
      file (suc zero) (suc k) there lt = absurd (omega (arith, lt))
      file (suc (suc o)) k there lt = absurd (omega (arith, there))

  abbrev now : Flat
  now = flat_memory (crowded_memory page) (crowded_state page).born (notes_of (crowded_seats page))

  born-is : (p : ℕ) → set.contains (crowded_state page).born p ≡ (p == 2 || (p == 1 || false))
  born-is p =
      set.contains-insert nat_cmp_total (set.insert set.empty 1) 2 p
      ∙ ap (λ (b : Bool). b || set.contains (set.insert (set.empty {R = nat_cmp}) 1) p) (unsigned_tied p 2)
      ∙ ap (λ (b : Bool). p == 2 || b) (set.contains-insert nat_cmp_total set.empty 1 p ∙ ap (λ (b : Bool). b || set.contains (set.empty {R = nat_cmp}) p) (unsigned_tied p 1) ∙ ap (λ (b : Bool). p == 1 || b) (set.contains-empty nat_cmp p))

  -- processes 1 and 2 are alive, and no other
  living : (p : ℕ) → ((p ≡ 1) ⊎ (p ≡ 2)) ⊎ ((p == 2 || (p == 1 || false)) ≡ false)
  living p = elim (eqb_tells p 2) [
    | inl y ↦ inl (inr y.1)
    | inr n ↦ elim (eqb_tells p 1) [
      | inl y ↦ inl (inl y.1)
      | inr m ↦ inr (ap (λ (b : Bool). b || (p == 1 || false)) n.0 ∙ ap (λ (b : Bool). b || false) m.0)
    ]
  ]

  alive-1 : finite.get crowded_spaces 1 ≡ Some (crowded_part 0 ∷ [])
  alive-1 = two-first 1 2 (crowded_part 0 ∷ []) (crowded_part 1 ∷ []) (omega arith)

  alive-2 : finite.get crowded_spaces 2 ≡ Some (crowded_part 1 ∷ [])
  alive-2 = two-second 1 2 (crowded_part 0 ∷ []) (crowded_part 1 ∷ [])

  alive : (p : ℕ) → IsSome (finite.get crowded_spaces p) → IsTrue (set.contains (crowded_state page).born p)
  alive p is =
      let some = some-of (finite.get crowded_spaces p) is in
      elim (two-get 1 2 (crowded_part 0 ∷ []) (crowded_part 1 ∷ []) p some.0 some.1) [
        | inl x ↦ born-is p ∙ ap (λ (k : ℕ). k == 2 || (k == 1 || false)) x.0
        | inr y ↦ born-is p ∙ ap (λ (k : ℕ). k == 2 || (k == 1 || false)) y.0
      ]
    where
      some-of : {X : Type 0} (o : Option X) → IsSome o → (x : X) × (o ≡ Some x)
      some-of None is = absurd (cc)
      some-of (Some x) is = (x, refl)

  stays : (p : ℕ) → IsTrue (set.contains (crowded_state page).born p) → IsFalse (has_left p (crowded_history page)) → IsSome (finite.get crowded_spaces p)
  stays p born here = elim (living p) [
    | inl (inl e) ↦ subst (λ (k : ℕ). IsSome (finite.get crowded_spaces k)) (sym e) (ap is_some alive-1)
    | inl (inr e) ↦ subst (λ (k : ℕ). IsSome (finite.get crowded_spaces k)) (sym e) (ap is_some alive-2)
    | inr none ↦ absurd (let z : false ≡ true = sym none ∙ sym (born-is p) ∙ born in cc)
  ]

  now-flat : IsFlat now
  now-flat = flat-whole (crowded_memory page) (notes_of (crowded_seats page)) memory-fits pages-are (crowded_state page).born alive

  -- file 0 with its tail cleared is what memory has of it now
  cut : file_with_pages ((contents_of (crowded_memory page).world (notes_of (crowded_seats page))).file 0) crowded_info ≡ without_tail (crowded_file page)
  cut = cut-file (λ index. page) ((contents_of (crowded_memory page).world (notes_of (crowded_seats page))).file 0) crowded_info (λ index. index == 1) (λ index lt. whole.whole) each
    where
      each : (i : ℕ) → i < 2 → (contents_of (crowded_memory page).world (notes_of (crowded_seats page))).file 0 i ≡ cut_page (i == 1) (min (5000 - i * 4096) 4096) page
      each zero lt = refl
      each (suc zero) lt = refl
      each (suc (suc i)) lt = absurd (omega (arith, lt))

  -- ---- the birth

  abbrev contents : Contents
  contents = contents_of (crowded_memory page).world (notes_of (crowded_seats page))

  abbrev after_birth : Flat
  after_birth = record now { files = crowded_file page ∷ file_with_pages (λ index. page) crowded_other ∷ [] }

  born-flat : IsFlat after_birth
  born-flat = record {
    pages = now-flat.pages;
    cells = now-flat.cells;
    files = All-cons IsFile (crowded_file page) (file_with_pages (λ index. page) crowded_other ∷ [])
        (record { count = refl; pages = All-cons IsPage page (page ∷ []) whole (All-cons IsPage page [] whole (All-nil IsPage)) })
        (All-cons IsFile (file_with_pages (λ index. page) crowded_other) [] (record { count = refl; pages = All-cons IsPage page [] whole (All-nil IsPage) }) (All-nil IsFile));
    zeros = now-flat.zeros;
    born = now-flat.born;
  }

  -- both parts show the slot
  same-space : space_with contents.place (crowded_part 0 ∷ []) ≡ space_with contents.place (crowded_part 1 ∷ [])
  same-space = finite.same_map nat_cmp_total finite.nat_cmp-IsAntisymmetric _ _ (λ q.
      get-space_with contents.place (crowded_part 0 ∷ []) q ∙ same q (has (crowded_part 0) q) ∙ sym (get-space_with contents.place (crowded_part 1 ∷ []) q))
    where
      same : (q : ℕ) (b : Bool) → option_map (cell_of contents.place) (option_map (λ (x : Part Segment). (x.piece, q - x.first)) (cond b (Some (crowded_part 0)) None))
          ≡ option_map (cell_of contents.place) (option_map (λ (x : Part Segment). (x.piece, q - x.first)) (cond b (Some (crowded_part 1)) None))
      same q true = refl
      same q false = refl

  parent-space : cells_of (crowded_opening page) 1 ≡ space_with contents.place (crowded_part 0 ∷ [])
  parent-space = ap (λ (o : Option Space). unwrap_or o finite.empty) (get-map_with (space_with contents.place) crowded_parent 1 ∙ ap (option_map (space_with contents.place)) parent-part)

  enough-slots : nat_le (reserved (crowded_opening page) + private_cells (cells_of (crowded_opening page) 1)) 2 ≡ true
  enough-slots =
      let a : reserved (crowded_opening page) ≡ 1 =
      reserved_law.pages (record (crowded_memory page) { spaces = crowded_parent }) (set.insert set.empty 1) contents parent-ordered ∙ parent-reserved in
      let b : private_cells (cells_of (crowded_opening page) 1) ≡ 1 = ap private_cells parent-space ∙ private-parts contents.place (crowded_part 0 ∷ []) (part-ordered 0) in
      let both : reserved (crowded_opening page) + private_cells (cells_of (crowded_opening page) 1) ≡ 2 = omega (arith, a, b) in
      ap (λ (n : ℕ). nat_le n 2) both

  forks : fork (crowded_opening page) 1 2 ≡ done_effect (with_child (crowded_opening page) 1 2)
  forks = ap (λ (b : Bool). or_refused (crowded_opening page) (λ (x : Unit {0}). done_effect (with_child (crowded_opening page) 1 2)) (check b errno.NoSwap)) enough-slots

  bears : with_child (crowded_opening page) 1 2 ≡ after_birth
  bears =
      ap (λ (zs : finite.FinMap nat_cmp ℕ). record (with_child (crowded_opening page) 1 2) { zeros = map_with (zero_pages contents.place (λ number. length (places_of crowded_maps number))) zs }) (parent-zeros ∙ sym zeros-are)
      ∙ ap (λ (spaces : finite.FinMap nat_cmp Space). record after_birth { spaces = spaces })
      (ap (finite.insert (map_with (space_with contents.place) crowded_parent) 2) (parent-space ∙ same-space) ∙ sym (map-insert (space_with contents.place) crowded_parent 2 (crowded_part 1 ∷ [])))

  -- ---- the history

  abbrev line : List ℕ
  line = read_line (crowded_file page) 0 100

  two-long : 64 ≤ length (concat (page ∷ page ∷ []))
  two-long =
      let a : length (concat (page ∷ page ∷ [])) ≡ length page + length (page ++ []) = length-append page (page ++ []) in
      let b = whole.whole in
      omega (arith, a, b)

  line-long : length line ≡ 64
  line-long = line-size (crowded_file page) (omega arith) two-long

  unended : ends_call (Read 0 0 100) (Bytes line) ≡ false
  unended = open-part line line-long

  entry-is : (k : ℕ) (e : Entry) → slice_get (crowded_history page) k ≡ Some e → ((k ≡ 0) × (e ≡ crowded_birth)) ⊎ ((k ≡ 1) × (e ≡ crowded_read page))
  entry-is zero e is = inl (refl, sym (some-inj crowded_birth e is))
  entry-is (suc zero) e is = inr (refl, sym (some-inj (crowded_read page) e is))
  entry-is (suc (suc k)) e is = absurd (cc)

  born : step (crowded_opening page) crowded_birth ≡ after_birth
  born = ap (λ (F : Flat). after_act F crowded_birth) (none-pending (crowded_opening page)) ∙ ap (λ (x : Effect). x.after) forks ∙ bears

  stepped : step after_birth (crowded_read page) ≡ after_birth
  stepped = ap (λ (F : Flat). after_act F (crowded_read page)) (none-pending after_birth)

  replayed : replay (crowded_opening page) (crowded_history page) ≡ after_birth
  replayed = ap (λ (F : Flat). step F (crowded_read page)) born ∙ stepped

  birth-step : IsStep (crowded_opening page) crowded_birth
  birth-step = record {
    files = omega arith;
    alive = ap is_some (get-map_with (space_with contents.place) crowded_parent 1 ∙ ap (option_map (space_with contents.place)) parent-part);
    unborn = set.contains-insert nat_cmp_total set.empty 1 2 ∙ ap (λ (b : Bool). b || set.contains (set.empty {R = nat_cmp}) 2) (unsigned_tied 2 1) ∙ set.contains-empty nat_cmp 2;
    due = subst (λ (F : Flat). IsDue F crowded_birth) (sym (none-pending (crowded_opening page))) (ap (λ (x : Effect). x.reply) forks);
  }

  read-step : IsStep after_birth (crowded_read page)
  read-step = record {
    files = omega arith;
    alive = ap is_some (get-map_with (space_with contents.place) crowded_spaces 1 ∙ ap (option_map (space_with contents.place)) alive-1);
    unborn = tt;
    due = subst (λ (F : Flat). IsDue F (crowded_read page)) (sym (none-pending after_birth)) refl;
  }

  legal : Legal (crowded_opening page) (crowded_history page)
  legal = record {
    steps = (birth-step, (subst (λ (F : Flat). IsStep F (crowded_read page)) (sym born) read-step, tt));
    syncs = λ k e is. elim (entry-is k e is) [
      | inl x ↦ subst (λ (d : Entry). IsSyncStart (crowded_history page) k d) (sym x.1) tt
      | inr y ↦ subst (λ (d : Entry). IsSyncStart (crowded_history page) k d) (sym y.1) tt
    ];
    parts = (tt, (subst (λ (b : Bool). MatchBool b (Unit {0}) (IsNextOwn 0 1 [])) (sym unended) tt, tt));
  }

  history-fits : HistoryFits (crowded_opening page) (crowded_history page) 1 now
  history-fits = record {
    legal = legal;
    whole = subst IsFlat (sym replayed) born-flat;
    shows = ap (λ (f : File). record now { files = f ∷ file_with_pages (λ index. page) crowded_other ∷ [] }) cut ∙ sym (ap (λ (F : Flat). tails_cleared F (is_bit_set 1)) replayed);
    bits = subst (λ (F : Flat). 1 < 2 ^ length F.files) (sym replayed) (omega arith);
  }

  faults-fit : FaultsFit (crowded_history page) (crowded_store page).bays (notes_of (crowded_seats page))
  faults-fit = record {
    counted = record {
      risen = λ k e disk before after at is. absurd (no-fault k e disk before after at is);
      ordered = λ j k d e disk b after before a lt at _ is _. absurd (no-fault j d disk b after at is);
    };
    reached = λ k e disk before after at is. absurd (no-fault k e disk before after at is);
    most = λ disk count is. elim (bay-is disk) [
      | inl m ↦ absurd (let z : ◌≡◌ {A = Option ℕ} None (Some count) = seen disk missing m count is in cc)
      | inr (inl h) ↦ none count (seen disk (home disk-0) h.1 count is)
      | inr (inr (inl o)) ↦ none count (seen disk (out 1) o.1 count is)
      | inr (inr (inr o)) ↦ none count (seen disk (out 2) o.1 count is)
    ];
  }
    where
      no-fault : (k : ℕ) (e : Entry) (disk before after : ℕ) → slice_get (crowded_history page) k ≡ Some e → e.reply ≡ Io disk before after → ⊥
      no-fault k e disk before after at is = elim (entry-is k e at) [
        | inl x ↦ let z : Done ≡ Io disk before after = ap (λ (d : Entry). d.reply) (sym x.1) ∙ is in cc
        | inr y ↦ let z : Bytes line ≡ Io disk before after = ap (λ (d : Entry). d.reply) (sym y.1) ∙ is in cc
      ]

      seen : (disk : ℕ) (b : BaySeen) → bay_at (crowded_store page).bays disk ≡ b → (count : ℕ) → faults_in (bay_at (crowded_store page).bays disk) (notes_of (crowded_seats page)) ≡ Some count → faults_in b (notes_of (crowded_seats page)) ≡ Some count
      seen disk b e count is = sym (ap (λ (x : BaySeen). faults_in x (notes_of (crowded_seats page))) e) ∙ is

      none : (count : ℕ) → ◌≡◌ {A = Option ℕ} (Some 0) (Some count) → count ≤ top_count
      none count is = subst (λ (n : ℕ). n ≤ top_count) (some-inj 0 count is) (omega arith)

  -- the last entry of process 1 is the read, and no other has one
  last-is : (p : ℕ) → last_entry p (crowded_history page) ≡ cond (1 == p) (Some (crowded_read page)) (cond (1 == p) (Some crowded_birth) None)
  last-is p = refl

  calls-fit : CallsFit (crowded_history page) (Some 0 ∷ None ∷ []) (None ∷ Some crowded_start ∷ None ∷ None ∷ [])
  calls-fit = record { ends = ends; files = λ f seat. (to f seat, from f seat); starts = starts }
    where
      ends : (front rest : List Entry) (e : Entry) → crowded_history page ≡ front ++ e ∷ rest → MayFollow front e
      ends [] rest e is = tt
      ends (x ∷ []) rest e is =
          let first : crowded_birth ≡ x = ap (λ (H : List Entry). head_or H x) is in
          subst (λ (d : Entry). MayFollow (d ∷ []) e) first (may (1 == e.process))
        where
          head_or : List Entry → Entry → Entry
          head_or [] d = d
          head_or (d ∷ H) x = d

          may : (b : Bool) → MatchOption (cond b (Some crowded_birth) None) (Unit {0}) (λ d. FollowsOn d e)
          may true = inl birth-ends
          may false = tt
      ends (x ∷ y ∷ front) rest e is = absurd (no-more front rest e is)
        where
          no-more : (front rest : List Entry) (e : Entry) → crowded_birth ∷ crowded_read page ∷ [] ≡ x ∷ y ∷ front ++ e ∷ rest → ⊥
          no-more front rest e is =
              let long : 2 ≡ suc (suc (length (front ++ e ∷ rest))) = ap (λ (H : List Entry). length H) is in
              let more : length (front ++ e ∷ rest) ≡ length front + suc (length rest) = length-append front (e ∷ rest) in
              omega (arith, long, more)

      to : (f seat : ℕ) → slice_index_or (Some 0 ∷ None ∷ []) f None ≡ Some seat → IsSomeAnd (last_entry (suc seat) (crowded_history page)) (IsOpenPart f)
      to zero seat is = subst (λ (k : ℕ). IsSomeAnd (last_entry (suc k) (crowded_history page)) (IsOpenPart 0)) (some-inj 0 seat is) (refl, unended)
      to (suc zero) seat is = absurd (cc)
      to (suc (suc f)) seat is = absurd (cc)

      from : (f seat : ℕ) → IsSomeAnd (last_entry (suc seat) (crowded_history page)) (IsOpenPart f) → slice_index_or (Some 0 ∷ None ∷ []) f None ≡ Some seat
      from f zero is = subst (λ (k : ℕ). ◌≡◌ {A = Option ℕ} (slice_index_or (Some 0 ∷ None ∷ []) k None) (Some 0)) (some-inj 0 f is.0) refl
      from f (suc seat) is = absurd (subst (λ (o : Option Entry). IsSomeAnd o (IsOpenPart f)) (ap (λ (b : Bool). cond b (Some (crowded_read page)) (cond b (Some crowded_birth) None)) apart) is)
        where
          apart : (1 == suc (suc seat)) ≡ false
          apart = elim (eqb_tells 1 (suc (suc seat))) [ inl y ↦ absurd (let e = y.1 in omega (arith, e)) | inr n ↦ n.0 ]

      -- the birth stands before it, and the process has no entry
      begun : (j : ℕ) (d : Entry) → j < 2 → slice_get (crowded_history page) j ≡ Some d → (d.process ≡ 2) ⊎ IsBirth 2 d → j < 1
      begun j d lt at of = elim (entry-is j d at) [
        | inl x ↦ let first = x.0 in omega (arith, first)
        | inr y ↦ absurd (elim of [
          | inl own ↦ let z : 1 ≡ 2 = ap (λ (e : Entry). e.process) (sym y.1) ∙ own in omega (arith, z)
          | inr birth ↦ let z : Read 0 0 100 ≡ Fork 2 = ap (λ (e : Entry). e.call) (sym y.1) ∙ birth.0 in cc
        ])
      ]

      starts : (seat : ℕ) (b : SyncStart) → slice_index_or (None ∷ Some crowded_start ∷ None ∷ None ∷ []) seat None ≡ Some b → IsStart (crowded_history page) 2 (suc seat) b.from
      starts zero b is = absurd (cc)
      starts (suc zero) b is = subst (λ (x : SyncStart). IsStart (crowded_history page) 2 2 x.from) (some-inj crowded_start b is) (omega arith, begun)
      starts (suc (suc zero)) b is = absurd (cc)
      starts (suc (suc (suc zero))) b is = absurd (cc)
      starts (suc (suc (suc (suc seat)))) b is = absurd (cc)

  rooms-fit : RoomsFit (crowded_history page) (0 ∷ 1 ∷ []) (9 ∷ 9 ∷ [])
  rooms-fit = record { made = made; forks = borne }
    where
      made : (p : ℕ) → length (entries_of (crowded_history page) p) ≤ room_of (9 ∷ 9 ∷ []) p
      made p = elim (eqb_tells 1 p) [
        | inl y ↦ subst (λ (k : ℕ). length (entries_of (crowded_history page) k) ≤ room_of (9 ∷ 9 ∷ []) k) y.1 (omega arith)
        | inr n ↦ let z : length (entries_of (crowded_history page) p) ≡ 0 =
            ap (λ (b : Bool). length (cond b (crowded_birth ∷ cond b (crowded_read page ∷ []) []) (cond b (crowded_read page ∷ []) []))) n.0 in omega (arith, z)
      ]

      number : (a b : ℕ) → Fork a ≡ Fork b → a ≡ b
      number a b e = cc

      borne : (k child : ℕ) (e : Entry) → slice_get (crowded_history page) k ≡ Some e → e.call ≡ Fork child → process_parent (0 ∷ 1 ∷ []) child ≡ Some e.process
      borne k child e at is = elim (entry-is k e at) [
        | inl x ↦ subst (λ (d : Entry). process_parent (0 ∷ 1 ∷ []) child ≡ Some d.process) (sym x.1)
            (subst (λ (n : ℕ). process_parent (0 ∷ 1 ∷ []) n ≡ Some 1) (number 2 child (ap (λ (d : Entry). d.call) (sym x.1) ∙ is)) refl)
        | inr y ↦ absurd (let z : Read 0 0 100 ≡ Fork child = ap (λ (d : Entry). d.call) (sym y.1) ∙ is in cc)
      ]

  births-fit : BirthsFit (crowded_history page) (0 ∷ 1 ∷ []) crowded_spaces (crowded_state page).born
  births-fit = record { lived = λ p. born-is p ∙ tops p; alive = alive; stays = stays }
    where
      apart : (p : ℕ) → (2 == suc (suc (suc p))) ≡ false
      apart p = elim (eqb_tells 2 (suc (suc (suc p)))) [ inl y ↦ absurd (let e = y.1 in omega (arith, e)) | inr n ↦ n.0 ]

      tops : (p : ℕ) → (p == 2 || (p == 1 || false)) ≡ (is_top (0 ∷ 1 ∷ []) p || list_any (is_birth p) (crowded_history page))
      tops zero = refl
      tops (suc zero) = refl
      tops (suc (suc zero)) = refl
      tops (suc (suc (suc p))) = elim (living (suc (suc (suc p)))) [
        | inl (inl e) ↦ absurd (omega (arith, e))
        | inl (inr e) ↦ absurd (omega (arith, e))
        | inr none ↦ none ∙ sym (ap (λ (b : Bool). b || false) (apart p))
      ]

  plan-fits : PlanFits (crowded_state page) (crowded_seats page) (record { seat = 3; plan = Push (file_name 0 0); of = None })
  plan-fits = record {
    may = record { frame = 0; home = refl; modified = inl refl };
    ready = ((disk-0, refl), refl);
    frame = λ reads. absurd (cc);
    seated = omega arith;
    idle = refl;
  }

  fits : StateFits (crowded_opening page) (crowded_state page) (crowded_seats page)
  fits = record {
    memory = memory-fits;
    notes = notes-fit;
    replays = λ tell. history-fits;
    faults = faults-fit;
    calls = calls-fit;
    rooms = rooms-fit;
    births = births-fit;
    plans = record {
      plan = λ kept is. subst (PlanFits (crowded_state page) (crowded_seats page)) (some-inj (record { seat = 3; plan = Push (file_name 0 0); of = None }) kept is) plan-fits;
      planned = λ kept of is for_call. absurd (no-caller kept of is for_call);
      sent = λ seat sent of is for_call. absurd (none-sent seat sent of is for_call);
    };
    marks = λ tell. crowded-marks page size-is birth-step (subst (λ (F : Flat). IsStep F (crowded_read page)) (sym born) read-step);
    failures = λ disk block j before after is. absurd (never-failed disk block j before after is);
    pushes = refl;
  }
    where
      no-caller : (kept : KeptPlan) (of : Caller) → (crowded_state page).plan ≡ Some kept → kept.of ≡ Some of → ⊥
      no-caller kept of is for_call = let z : ◌≡◌ {A = Option Caller} None (Some of) = ap (λ (x : KeptPlan). x.of) (some-inj (record { seat = 3; plan = Push (file_name 0 0); of = None }) kept is) ∙ for_call in cc

      none-sent : (seat : ℕ) (sent : Sent) (of : Caller) → crowded_seats page seat ≡ Some sent → sent.of ≡ Some of → ⊥
      none-sent zero sent of is for_call = cc
      none-sent (suc zero) sent of is for_call = let z : ◌≡◌ {A = Option Caller} None (Some of) = ap (λ (x : Sent). x.of) (some-inj (record { note = crowded_snapshot page; of = None }) sent is) ∙ for_call in cc
      none-sent (suc (suc zero)) sent of is for_call = let z : ◌≡◌ {A = Option Caller} None (Some of) = ap (λ (x : Sent). x.of) (some-inj (record { note = crowded_gone page; of = None }) sent is) ∙ for_call in cc
      none-sent (suc (suc (suc seat))) sent of is for_call = cc

pub crowded_law : CrowdedLaw
crowded_law = record { fits = fits }
