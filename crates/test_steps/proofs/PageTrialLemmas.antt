-- THE WORLD OF THE TRIALS fits: idle frames, no slot, map or translation, and a file of three pages, which one process shows.
use Rattle.test_steps.proofs.SlotTrialLemmas.{replicated}
use Rattle.std.proofs.Common.{◌≡◌, ◌≢◌, ℕ, zero, suc, ◌+◌, ◌<◌, ◌≤◌, ◌==◌, Bool, true, false, cond, List, [], ◌∷◌, ◌++◌, length, map, Option, Some, None, refl, sym, ap, ◌∙◌, inl, inr, subst, arith}
use Rattle.std.specs.Prelude.{All, Result, Ok, Err, IsSome, is_some, slice_get, slice_index_or, sum_by, flat_map, filter_map, option_and_then, replicate, slice_index, unwrap_or, if◌then◌else◌}
use Rattle.std.specs.Ordering.{nat_cmp}
use Rattle.std.specs.Cmp.{nat_cmp_total}
use Rattle.std.specs.FinMap as finite
use Rattle.std.proofs.Math.Path.{fun_ext}
use Rattle.std.proofs.lemmas.Bool.{cases_eq}
use Rattle.std.proofs.lemmas.List.Elements.{All-nil, All-cons}
use Rattle.std.proofs.lemmas.List.Sums.{sum_by-cons, count_by-le-length}
use Rattle.addr_space.specs.Space.{Part, IsInOrder, piece_at}
use Rattle.anon_map.specs.Maps.{Map, places_of}
use Rattle.anon_slots.specs.Slots.{AnonSlotsSeen, IsSoundAnonSlots, unused_slots}
use Rattle.block_device.specs.DiskSeen.{DiskSeen}
use Rattle.flat_model.proofs.Ranges.{get-insert_here, get-insert_apart}
use Rattle.hat_layer.specs.declared.translation.Translation.{Translation}
use Rattle.seg_ops.specs.page_hash.Names.{name_at}
use Rattle.seg_ops.specs.page_hash.declared.PageName.{PageName}
use Rattle.page_lock.specs.Rows.{row_at, clear_row}
use Rattle.page_lock.specs.declared.Row.{Row}
use Rattle.seg_ops.specs.page_store.Bays.{BaySeen, missing, home, out, bay_at, IsStill}
use Rattle.seg_ops.specs.page_store.Layout.{FileBlocks, KeepsPage}
use Rattle.seg_ops.specs.page_store.New.{IsNew}
use Rattle.seg_ops.specs.page_store.Flight.{FlightSeen, IsPerformed, note_of}
use Rattle.seg_ops.specs.page_store.Notes.{Note, Notes, no_notes, with_note}
use Rattle.seg_ops.specs.page_store.Out.{IsFlightOf}
use Rattle.seg_ops.specs.page_store.declared.plan.Plan.{Plan}
use Rattle.seg_ops.proofs.page_store.TransferLemmas.{with_note-same, with_note-other}
use Rattle.seg_ops.specs.page_store.Seen.{StoreSeen, IsSoundStore}
use Rattle.vnode_files.specs.declared.extent.Extent.{Extent}
use Rattle.vnode_files.specs.declared.vnode.FileInfo.{FileInfo}
use Rattle.vnode_files.specs.Files.{FilesSeen, no_files, vnode_at, block_count, with_disk, with_next_file, with_vnode}
use Rattle.vnode_files.specs.Grow.{has_block, extent_end}
use Rattle.vnode_files.specs.Layout.{LieOnDisk, NoneMeet}
use Rattle.vnode_files.specs.Vnode.{VnodeSeen, IsSoundVnode, fresh_vnode, page_blocks, with_blank}
use Rattle.seg_ops.specs.vm_world.declared.segment.Segment.{Segment}
use Rattle.seg_ops.specs.vm_world.CountsFit.{SegmentsFit, SegmentFits, ShowsZero, times_had, reserved_pages, slots_for_part}
use Rattle.seg_ops.specs.vm_world.FlatMemory.{Memory, zero_maps}
use Rattle.seg_ops.specs.vm_world.FramesFit.{FilesFit, DisksFit}
use Rattle.seg_ops.specs.vm_world.MemoryFits.{MemoryFits}
use Rattle.seg_ops.specs.vm_world.NotesFit.{NotesFit}
use Rattle.seg_ops.specs.vm_world.Opening.{IsIdleStore, IsOpeningMemory}
use Rattle.seg_ops.specs.vm_world.Segments.{Spaces, segments_of, spot_at, zero_map}
use Rattle.seg_ops.specs.vm_world.State.{is_top}
use Rattle.seg_ops.specs.vm_world.World.{World, file_blocks, file_name}
use Rattle.seg_ops.specs.vm_world.WorldSteps.{WorldStep, leaves, returns, stays}
use Rattle.seg_ops.proofs.vm_world.Openings.{opening-memory, opening-notes}
use Rattle.seg_ops.proofs.vm_world.Spaces.{map-empty, entries-empty}
use Rattle.seg_ops.specs.Flights.{BeginsFor}
use Rattle.seg_ops.specs.Steps.{MayShow, WritesWord}
use Rattle.flat_model.specs.Flat.{File}
use Rattle.vm_types.specs.declared.call.Call.{Call}
use Rattle.vm_types.specs.declared.call.Reply.{Reply}
use Rattle.seg_ops.specs.vm_world.FileSteps.{ChangesFile}
use Rattle.seg_ops.specs.vm_world.declared.wants.Wants.{Wants}
use Rattle.seg_ops.specs.vm_world.declared.wants.Wants.TheVariants.{Transfer, Seat}
use Rattle.seg_map.specs.Served.{ServesReply}
use Rattle.test_steps.specs.PageTrials.{trial_segment, trial_part, trial_spaces, IsTrial, IsTrialFile, IsTrialIn, IsTrialOut, IsTrialOutIn}

-- THE PROCESS
trial-entries : finite.entries trial_spaces ≡ (1, trial_part ∷ []) ∷ []
trial-entries = finite.entries-insert nat_cmp_total finite.empty 1 (trial_part ∷ []) ∙ ap (finite.put nat_cmp 1 (trial_part ∷ [])) (entries-empty {X = List (Part Segment)})

trial-get : (p : ℕ) (parts : List (Part Segment)) → finite.get trial_spaces p ≡ Some parts → (p ≡ 1) × (trial_part ∷ [] ≡ parts)
trial-get p parts is = elim (cases_eq p 1) [
  | inl e ↦ (e, let z : ◌≡◌ {A = Option (List (Part Segment))} (Some (trial_part ∷ [])) (Some parts) = sym (get-insert_here (finite.empty {X = List (Part Segment)} {R = nat_cmp}) 1 (trial_part ∷ [])) ∙ ap (finite.get trial_spaces) (sym e) ∙ is in cc)
  | inr ne ↦ absurd (let z : ◌≡◌ {A = Option (List (Part Segment))} None (Some parts) = sym (get-insert_apart (finite.empty {X = List (Part Segment)} {R = nat_cmp}) 1 (trial_part ∷ []) p ne ∙ finite.get-empty nat_cmp p) ∙ is in cc)
]

trial-segments : segments_of trial_spaces ≡ trial_segment ∷ []
trial-segments = ap (λ (es : List (ℕ × List (Part Segment))). flat_map (λ (ps : List (Part Segment)). map (λ (x : Part Segment). x.piece) ps) (map (λ e. e.1) es)) trial-entries

trial-zeros : zero_maps trial_spaces ≡ finite.empty
trial-zeros =
    ap (λ (es : List (ℕ × List (Part Segment))). finite.from_entries (flat_map (λ (ps : List (Part Segment)). filter_map (λ (x : Part Segment). zero_map x.piece) ps) (map (λ e. e.1) es))) trial-entries
    ∙ map-empty (finite.from_entries []) (λ q. finite.get-from_entries nat_cmp_total [] q)

trial-reserved : reserved_pages [] trial_spaces ≡ 0
trial-reserved =
    let a : sum_by (λ parts. sum_by slots_for_part parts) (finite.values trial_spaces) ≡ 0 = ap (λ (es : List (ℕ × List (Part Segment))). sum_by (λ parts. sum_by slots_for_part parts) (map (λ e. e.1) es)) trial-entries in
    let b : sum_by (λ number. length (places_of [] number)) (finite.values (zero_maps trial_spaces)) ≡ 0 =
    ap (λ (zs : finite.FinMap nat_cmp ℕ). sum_by (λ number. length (places_of [] number)) (finite.values zs)) trial-zeros
    ∙ ap (λ (es : List (ℕ × ℕ)). sum_by (λ number. length (places_of [] number)) (map (λ e. e.1) es)) entries-empty in
    omega (arith, a, b)

trial-part-fits : SegmentFits 1 [] trial_part
trial-part-fits = record { pages = refl; end = omega arith; within = refl; object = (omega arith, refl); own = refl }

trial-segments-fit : SegmentsFit 1 (unused_slots 0) [] trial_spaces
trial-segments-fit = record {
  ordered = λ p parts is. subst (λ (ps : List (Part Segment)). IsInOrder 1 ps) (trial-get p parts is).1 (record { behind = omega arith; some = omega arith; within = omega arith }, tt);
  each = λ p parts is. subst (λ (ps : List (Part Segment)). All (SegmentFits 1 []) ps) (trial-get p parts is).1 (All-cons (SegmentFits 1 []) trial_part [] trial-part-fits (All-nil (SegmentFits 1 [])));
  holders = λ number. sym (ap (sum_by (times_had number)) trial-segments ∙ sum_by-cons (times_had number) trial_segment []);
  zeros = subst (λ (ss : List Segment). All (ShowsZero (zero_maps trial_spaces)) ss) (sym trial-segments) (All-cons (ShowsZero (zero_maps trial_spaces)) trial_segment [] (λ z number is. absurd (cc)) (All-nil (ShowsZero (zero_maps trial_spaces))));
  apart = λ y z number is _. absurd (let e : None ≡ Some number = sym (finite.get-empty nat_cmp y) ∙ sym (ap (λ (zs : finite.FinMap nat_cmp ℕ). finite.get zs y) trial-zeros) ∙ is in cc);
  once = λ y number place slot is _. absurd (let e : None ≡ Some number = sym (finite.get-empty nat_cmp y) ∙ sym (ap (λ (zs : finite.FinMap nat_cmp ℕ). finite.get zs y) trial-zeros) ∙ is in cc);
  reserved = trial-reserved;
}

-- its page after a page of the file
pub trial-spot : (page : ℕ) → page < 3 → spot_at trial_spaces 1 (page + 1) ≡ Some (trial_segment, page)
trial-spot page lt = ap (λ (o : Option (List (Part Segment))). option_and_then (λ parts. piece_at parts (page + 1)) o) (get-insert_here (finite.empty {X = List (Part Segment)} {R = nat_cmp}) 1 (trial_part ∷ [])) ∙ by_page page lt
  where
    by_page : (q : ℕ) → q < 3 → piece_at (trial_part ∷ []) (q + 1) ≡ Some (trial_segment, q)
    by_page zero low = refl
    by_page (suc zero) low = refl
    by_page (suc (suc zero)) low = refl
    by_page (suc (suc (suc q))) low = absurd (omega (arith, low))

-- THE FILE
abbrev pub trial_files : VnodeSeen → FilesSeen
trial_files v = record { disks = finite.insert finite.empty 0 4; files = v ∷ [] }

one-disk : (number blocks : ℕ) → finite.get (finite.insert (finite.empty {X = ℕ} {R = nat_cmp}) 0 4) number ≡ Some blocks → (number ≡ 0) × (4 ≡ blocks)
one-disk number blocks is = elim (cases_eq number 0) [
  | inl e ↦ (e, let z : ◌≡◌ {A = Option ℕ} (Some 4) (Some blocks) = sym (get-insert_here (finite.empty {X = ℕ} {R = nat_cmp}) 0 4) ∙ ap (finite.get (finite.insert (finite.empty {X = ℕ} {R = nat_cmp}) 0 4)) (sym e) ∙ is in cc)
  | inr ne ↦ absurd (let z : ◌≡◌ {A = Option ℕ} None (Some blocks) = sym (get-insert_apart (finite.empty {X = ℕ} {R = nat_cmp}) 0 4 number ne ∙ finite.get-empty nat_cmp number) ∙ is in cc)
]

abbrev trial_extent : Extent
trial_extent = record { start = 1; pages = 3 }

-- what is known of a page that the file keeps
record Keeps (v : VnodeSeen) (n : PageName) (f : FileBlocks) (block : ℕ) : Type 0 where
  pub object : n.object ≡ 0
  pub file : file_blocks v ≡ f
  pub low : n.page < 3
  pub place : block ≡ n.page + 1

module _ (v : VnodeSeen) (file : IsTrialFile v.info) (sound : IsSoundVnode v) where
  block-of : (i b : ℕ) → slice_get (1 ∷ 2 ∷ 3 ∷ []) i ≡ Some b → (i < 3) × (b ≡ i + 1)
  block-of zero b is = (omega arith, let z : Some 1 ≡ Some b = is in let e : 1 ≡ b = cc in sym e)
  block-of (suc zero) b is = (omega arith, let z : Some 2 ≡ Some b = is in let e : 2 ≡ b = cc in sym e)
  block-of (suc (suc zero)) b is = (omega arith, let z : Some 3 ≡ Some b = is in let e : 3 ≡ b = cc in sym e)
  block-of (suc (suc (suc i))) b is = absurd (let z : None ≡ Some b = is in cc)

  file-of : (i : ℕ) (f : FileBlocks) → slice_get (file_blocks v ∷ []) i ≡ Some f → (i ≡ 0) × (file_blocks v ≡ f)
  file-of zero f is = (refl, let z : Some (file_blocks v) ≡ Some f = is in cc)
  file-of (suc i) f is = absurd (let z : None ≡ Some f = is in cc)

  keeps : (n : PageName) (f : FileBlocks) (b : ℕ) → KeepsPage (map file_blocks (v ∷ [])) n f b → Keeps v n f b
  keeps n f b k =
      let at = file-of n.object f k.number in
      let blocks : f.blocks ≡ 1 ∷ 2 ∷ 3 ∷ [] = ap (λ (x : FileBlocks). x.blocks) (sym at.1) ∙ ap page_blocks file.extents in
      let place = block-of n.page b (ap (λ (bs : List ℕ). slice_get bs n.page) (sym blocks) ∙ k.place) in
      record { object = at.0; file = at.1; low = place.0; place = place.1 }

  disk-of : (f : FileBlocks) → file_blocks v ≡ f → f.disk ≡ 0
  disk-of f e = ap (λ (x : FileBlocks). x.disk) (sym e) ∙ file.disk

  only : (f : ℕ) → f < 1 → f ≡ 0
  only f lt = omega (arith, lt)

  four : (disk : ℕ) → disk ≡ 0 → block_count (trial_files v).disks disk ≡ 4
  four disk e = ap (λ (o : Option ℕ). unwrap_or o 0) (ap (finite.get (trial_files v).disks) e ∙ get-insert_here (finite.empty {X = ℕ} {R = nat_cmp}) 0 4)

  lies : LieOnDisk (block_count (trial_files v).disks v.info.disk) v.info.extents
  lies =
      subst (λ (blocks : ℕ). LieOnDisk blocks v.info.extents) (sym (four v.info.disk file.disk))
      (subst (λ (es : List Extent). LieOnDisk 4 es) (sym file.extents) (record {
        some = All-cons (λ (e : Extent). 1 ≤ e.pages) trial_extent [] (omega arith) (All-nil (λ (e : Extent). 1 ≤ e.pages));
        within = All-cons (λ (e : Extent). (1 ≤ e.start) × (extent_end e ≤ 4)) trial_extent [] (omega arith, omega arith) (All-nil (λ (e : Extent). (1 ≤ e.start) × (extent_end e ≤ 4)));
        gaps = tt;
      }))

  on-disk : (there : Bool) → flat_map (λ (w : VnodeSeen). w.info.extents) (cond there (v ∷ []) []) ≡ cond there (trial_extent ∷ []) []
  on-disk true = ap (λ (es : List Extent). es ++ []) file.extents
  on-disk false = refl

  one-apart : (there : Bool) → NoneMeet (cond there (trial_extent ∷ []) [])
  one-apart true b = count_by-le-length (has_block b) (trial_extent ∷ [])
  one-apart false b = omega arith

  one-few : (there : Bool) → length (cond there (trial_extent ∷ []) []) ≤ 252
  one-few true = omega arith
  one-few false = omega arith

  pub trial-files : FilesFit (trial_files v)
  trial-files = record {
    small = λ number blocks is. let e = (one-disk number blocks is).1 in omega (arith, e);
    each = λ f lt. subst (λ (i : ℕ). IsSoundVnode (vnode_at (trial_files v) i)) (sym (only f lt)) sound;
    disjoint = record {
      few = omega arith;
      disks = λ n f b k. let e = disk-of f (keeps n f b k).file in omega (arith, e);
      apart = λ m n f g b k l _.
          let a = keeps m f b k in
          let c = keeps n g b l in
          let page : m.page ≡ n.page = (let x = a.place in let y = c.place in omega (arith, x, y)) in
          λ i. record { object = (a.object ∙ sym c.object) i; page = page i };
    };
    set = λ f lt. subst (λ (o : Option ℕ). IsSome o) (sym (ap (λ (i : ℕ). finite.get (trial_files v).disks (vnode_at (trial_files v) i).info.disk) (only f lt) ∙ ap (finite.get (trial_files v).disks) file.disk ∙ get-insert_here (finite.empty {X = ℕ} {R = nat_cmp}) 0 4)) refl;
    low = λ n f b k. let e = (keeps n f b k).place in omega (arith, e);
    high = λ n f b k.
        let a = keeps n f b k in
        let low = a.low in
        let e = a.place in
        subst (λ (c : ℕ). b < c) (sym (four f.disk (disk-of f a.file))) (omega (arith, low, e));
    lie = All-cons (λ (w : VnodeSeen). LieOnDisk (block_count (trial_files v).disks w.info.disk) w.info.extents) v [] lies (All-nil (λ (w : VnodeSeen). LieOnDisk (block_count (trial_files v).disks w.info.disk) w.info.extents));
    apart = λ disk. subst NoneMeet (sym (on-disk (v.info.disk == disk))) (one-apart (v.info.disk == disk));
    few = λ disk. subst (λ (es : List Extent). length es ≤ 252) (sym (on-disk (v.info.disk == disk))) (one-few (v.info.disk == disk));
    some = λ f lt. subst (λ (i : ℕ). 1 ≤ length (vnode_at (trial_files v) i).info.extents) (sym (only f lt)) (subst (λ (es : List Extent). 1 ≤ length es) (sym file.extents) (omega arith));
  }

still-not : (b : BaySeen) (seat : ℕ) → IsStill b → b ≡ out seat → ⊥
still-not missing seat s e = cc
still-not (home d) seat s e = cc
still-not (out t) seat s e = s

module _ (s : StoreSeen) (d : DiskSeen) (new : IsNew s 2 ((0, d) ∷ []) None) where
  bay-zero : bay_at s.bays 0 ≡ home d
  bay-zero = new.bays.each 0 (0, d) (omega arith)

  bay-other : (k : ℕ) → k ≢ 0 → bay_at s.bays k ≡ missing
  bay-other k ne = elim (cases_eq k 8) [
    | inl e ↦ ap (bay_at s.bays) e ∙ new.bays.swap
    | inr far ↦ new.bays.others k far (λ i lt e. ne (sym e ∙ by_number i lt))
  ]
    where
      by_number : (i : ℕ) → i < 1 → slice_index (0 ∷ []) i ≡ 0
      by_number zero lt = refl
      by_number (suc i) lt = absurd (omega (arith, lt))

  home-is-zero : (k : ℕ) (x : DiskSeen) → bay_at s.bays k ≡ home x → (k ≡ 0) × (d ≡ x)
  home-is-zero k x is = elim (cases_eq k 0) [
    | inl e ↦ (e, let z : home d ≡ home x = sym bay-zero ∙ ap (bay_at s.bays) (sym e) ∙ is in cc)
    | inr ne ↦ absurd (let z : missing ≡ home x = sym (bay-other k ne) ∙ is in cc)
  ]

  pub trial-store : IsSoundStore s → ((number : ℕ) → IsStill (bay_at s.bays number)) → d.faults ≡ 0 → IsIdleStore s
  trial-store sound still faults = record {
    sound = sound;
    unnamed = λ k. ap (λ (names : List (Option PageName)). name_at names k) new.names ∙ replicated 2 None k;
    clear = λ k. ap (λ (rows : List Row). row_at rows k) new.rows ∙ replicated 2 clear_row k;
    uncached = new.cached;
    still = λ number seat e. still-not (bay_at s.bays number) seat (still number) e;
    most = λ number x is. let e = ap (λ (y : DiskSeen). y.faults) (home-is-zero number x is).1 in omega (arith, e, faults);
  }

  pub trial-disks : d.size ≡ 4 → DisksFit s.bays (finite.insert (finite.empty {X = ℕ} {R = nat_cmp}) 0 4) 0
  trial-disks size = record {
    numbers = λ number blocks is. let e = (one-disk number blocks is).0 in omega (arith, e);
    there = λ number blocks is e. let z : home d ≡ missing = sym bay-zero ∙ ap (bay_at s.bays) (sym (one-disk number blocks is).0) ∙ e in cc;
    set = λ number low there. elim (cases_eq number 0) [
      | inl e ↦ ap is_some (ap (finite.get (finite.insert (finite.empty {X = ℕ} {R = nat_cmp}) 0 4)) e ∙ get-insert_here (finite.empty {X = ℕ} {R = nat_cmp}) 0 4)
      | inr ne ↦ absurd (there (bay-other number ne))
    ];
    swap = λ some. absurd (omega (arith, some));
    unused = λ none. new.bays.swap;
    sizes = λ number x is.
        let h = home-is-zero number x is in
        record {
          file = λ blocks at. ap (λ (y : DiskSeen). y.size) (sym h.1) ∙ size ∙ (one-disk number blocks at).1;
          swap = λ e. omega arith;
        };
  }

-- THE WORLD
pub record IsFresh (w : World) : Type 0 where
  pub store : IsIdleStore w.store
  pub anon : w.anon ≡ unused_slots 0
  pub slots : IsSoundAnonSlots w.anon
  pub maps : w.maps ≡ []
  pub leads : w.hat.frames ≡ length w.store.frames
  pub hat : (place : ℕ) → slice_index_or w.hat.places place None ≡ None
  pub files : FilesFit w.files
  pub one : length w.files.files ≡ 1
  pub disks : DisksFit w.store.bays w.files.disks 0

no-top : (p : ℕ) → is_top [] p ≡ false
no-top zero = refl
no-top (suc p) = refl

pub trial-fits : (w : World) → IsFresh w → IsTrial w
trial-fits w f = record {
  memory = record {
    frames = kept.frames;
    files = kept.files;
    disks = kept.disks;
    pool = kept.pool;
    translations = λ i t is. absurd (let z : None ≡ Some t = sym (f.hat i) ∙ is in cc);
    unpushed = kept.unpushed;
    counts = kept.counts;
    segments = subst (λ (n : ℕ). SegmentsFit n w.anon w.maps trial_spaces) (sym f.one)
        (subst (λ (a : AnonSlotsSeen). SegmentsFit 1 a w.maps trial_spaces) (sym f.anon) (subst (λ (m : List (Option Map)). SegmentsFit 1 (unused_slots 0) m trial_spaces) (sym f.maps) trial-segments-fit));
  };
  notes = opening-notes m [] o;
}
  where
    m : Memory
    m = record { world = w; spaces = finite.empty }

    none : length w.anon.counts ≡ 0
    none = ap (λ (a : AnonSlotsSeen). length a.counts) f.anon

    o : IsOpeningMemory m []
    o = record {
      store = f.store;
      anon = f.anon ∙ ap unused_slots (sym none);
      slots = f.slots;
      maps = f.maps;
      leads = f.leads;
      hat = f.hat;
      files = f.files;
      disks = subst (λ (n : ℕ). DisksFit w.store.bays w.files.disks n) (sym none) f.disks;
      spaces = λ p. finite.get-empty nat_cmp p ∙ sym (ap (λ (b : Bool). if b then Some [] else None) (no-top p));
    }

    kept : MemoryFits m
    kept = opening-memory m [] o

-- the files as they are made
abbrev pub trial_vnode : FileInfo → VnodeSeen
trial_vnode info = with_blank (with_blank (fresh_vnode info) 0 true) 1 true

pub trial-disk-set : (files : FilesSeen) (disk : ℕ) → files ≡ with_disk no_files 0 4 → disk ≡ 0 → IsSome (finite.get files.disks disk)
trial-disk-set files disk e zero_is = subst (λ (o : Option ℕ). IsSome o) (sym (ap (λ (f : FilesSeen). finite.get f.disks disk) e ∙ ap (finite.get (with_disk no_files 0 4).disks) zero_is ∙ get-insert_here (finite.empty {X = ℕ} {R = nat_cmp}) 0 4)) refl

pub trial-files-are : (a b c d : FilesSeen) (info : FileInfo) → a ≡ with_disk no_files 0 4 → b ≡ with_next_file a (fresh_vnode info) → c ≡ with_vnode b 0 (with_blank (vnode_at b 0) 0 true) → d ≡ with_vnode c 0 (with_blank (vnode_at c 0) 1 true)
    → d ≡ trial_files (trial_vnode info)
trial-files-are a b c d info disk add first second =
    second ∙ ap (λ (f : FilesSeen). with_vnode f 0 (with_blank (vnode_at f 0) 1 true)) (first ∙ ap (λ (f : FilesSeen). with_vnode f 0 (with_blank (vnode_at f 0) 0 true)) (add ∙ ap (λ (f : FilesSeen). with_next_file f (fresh_vnode info)) disk))

pub trial-hat : (places : List (Option Translation)) → places ≡ replicate 2 None → (place : ℕ) → slice_index_or places place None ≡ None
trial-hat places e place = ap (λ (ps : List (Option Translation)). slice_index_or ps place None) e ∙ replicated 2 None place

-- A STEP leaves a world that fits.
pub trial-step : (u v : World) (cut : PageName → Bool) → IsTrial u → WorldStep u v trial_spaces stays cut → IsTrial v
trial-step u v cut t step = record { memory = step.memory; notes = step.notes no_notes tt t.notes }

pub trial-put : (u v : World) (p a n x : ℕ) → IsTrial u → WritesWord u v trial_spaces p a n x → IsTrial v
trial-put u v p a n x t w = record { memory = w.2.memory; notes = w.2.notes no_notes t.notes }

-- the process may show each page of the file
pub trial-show : (w : World) (page : ℕ) (name : PageName) → page < 3 → name ≡ record { object = 0; page = page } → MayShow w trial_spaces 1 (page + 1) name true
trial-show w page name lt is =
    let plain : 0 + page ≡ page = omega arith in
    record {
      spot = (trial_segment, page);
      here = trial-spot page lt;
      shows = ap (λ (k : ℕ). Some (file_name 0 k)) plain ∙ sym (ap (λ (n : PageName). Some n) is);
      allowed = refl;
      in_place = λ writable. record { prot = refl; alone = λ kind. absurd (cc) };
    }

-- A TRANSFER goes out and comes back: nothing is out then.
note-back : (seat : ℕ) (x : Option Note) → with_note (with_note no_notes seat x) seat None ≡ no_notes
note-back seat x = fun_ext (λ t. elim (cases_eq t seat) [
  | inl e ↦ ap (λ (k : ℕ). with_note (with_note no_notes seat x) seat None k) e ∙ with_note-same (with_note no_notes seat x) seat None
  | inr ne ↦ with_note-other (with_note no_notes seat x) seat t None ne ∙ with_note-other no_notes seat t x ne
])

-- what goes out with a plan
pub trial-leaves : (spaces : Spaces) (u v : World) (seat : ℕ) (plan : Plan) (f : FlightSeen) (cut : PageName → Bool) → IsTrialIn spaces u → BeginsFor u seat plan f → IsFlightOf v.store f → WorldStep u v spaces (leaves seat (note_of f)) cut → IsTrialOutIn spaces v f
trial-leaves spaces u v seat plan f cut t begins is step = record {
  out = is;
  outcome = begins.begins.outcome;
  memory = step.memory;
  notes = subst (λ (k : ℕ). NotesFit v (with_note no_notes k (Some (note_of f)))) (sym begins.begins.seat) (step.notes no_notes refl t.notes);
}

pub trial-out : (u v : World) (seat : ℕ) (plan : Plan) (f : FlightSeen) (cut : PageName → Bool) → IsTrial u → BeginsFor u seat plan f → IsFlightOf v.store f → WorldStep u v trial_spaces (leaves seat (note_of f)) cut → IsTrialOut v f
trial-out = trial-leaves trial_spaces

-- it was made, and comes back
pub trial-returns : (spaces : Spaces) (v w : World) (f g : FlightSeen) → IsTrialOutIn spaces v f → IsPerformed (note_of f) g
    → ((notes : Notes) (note : Note) → MemoryFits (record { world = v; spaces = spaces }) → NotesFit v notes → notes g.seat ≡ Some note → IsPerformed note g → WorldStep v w spaces (returns g.seat note) (λ name. false)) → IsTrialIn spaces w
trial-returns spaces v w f g t performed step =
    let notes : Notes = with_note no_notes f.seat (Some (note_of f)) in
    let mine : notes g.seat ≡ Some (note_of f) = ap notes performed.seat ∙ with_note-same no_notes f.seat (Some (note_of f)) in
    let back = step notes (note_of f) t.memory t.notes mine performed in
    record {
      memory = back.memory;
      notes = subst (λ (ns : Notes). NotesFit w ns) (ap (λ (k : ℕ). with_note notes k None) performed.seat ∙ note-back f.seat (Some (note_of f))) (back.notes notes mine t.notes);
    }

pub trial-back : (v w : World) (f g : FlightSeen) → IsTrialOut v f → IsPerformed (note_of f) g
    → ((spaces : Spaces) (notes : Notes) (note : Note) → MemoryFits (record { world = v; spaces = spaces }) → NotesFit v notes → notes g.seat ≡ Some note → IsPerformed note g → WorldStep v w spaces (returns g.seat note) (λ name. false)) → IsTrial w
trial-back v w f g t performed step = trial-returns trial_spaces v w f g t performed (step trial_spaces)

-- A CHANGE OF A FILE leaves a world that fits, and so does an answer to a call on it.
pub trial-changes : (u v : World) (f : ℕ) (g : File → File) → IsTrial u → ChangesFile f (record { world = u; spaces = trial_spaces }) (record { world = v; spaces = trial_spaces }) g → IsTrial v
trial-changes u v f g t c = record { memory = c.memory; notes = c.notes no_notes t.notes }

pub trial-served : (u v : World) (pending more p : ℕ) (call : Call) (reply : Reply) (result : Result Unit Wants) → IsTrial u
    → ServesReply reply (record { world = u; spaces = trial_spaces }) (record { world = v; spaces = trial_spaces }) pending more p call result → IsTrial v
trial-served u v pending more p call reply (Ok done) t d = let a = d.acts 0 in record { memory = a.memory; notes = a.notes no_notes (d.first.step.notes no_notes tt t.notes) }
trial-served u v pending more p call reply (Err (Transfer plan)) t d = record { memory = d.first.step.memory; notes = d.first.step.notes no_notes tt t.notes }
trial-served u v pending more p call reply (Err (Seat h)) t d = let b = d [] in record { memory = b.first.step.memory; notes = b.first.step.notes no_notes tt t.notes }
