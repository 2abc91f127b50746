-- The busy state fits.
use Rattle.std.proofs.Common.{◌≡◌, ◌≢◌, ℕ, zero, suc, ◌+◌, ◌<◌, ◌≤◌, ◌==◌, Bool, true, false, cond, List, [], ◌∷◌, ◌++◌, length, map, Option, Some, None, refl, sym, ap, ◌∙◌, ◌⊎◌, inl, inr, subst, arith}
use Rattle.std.specs.Prelude.{option_map, option_and_then, slice_index_or, slice_index, All, IsSome, IsTrue, IsFalse, sum_by, count_by, flat_map, filter_map, is_some, unwrap_or, ◌||◌}
use Rattle.std.specs.Ordering.{nat_cmp}
use Rattle.std.specs.Cmp.{nat_cmp_total, unsigned_tied}
use Rattle.std.specs.List.{list_any}
use Rattle.flat_model.specs.Births.{is_birth}
use Rattle.flat_model.specs.Counted.{top_count}
use Rattle.flat_model.specs.vm_types.declared.call.Entry.{Entry}
use Rattle.vm_world.specs.Pages.{page_value}
use Rattle.std.specs.FinMap as finite
use Rattle.std.specs.FinSet as set
use Rattle.std.proofs.lemmas.Bool.{cases_eq}
use Rattle.std.proofs.lemmas.Bool.Decides.{eqb_tells}
use Rattle.std.proofs.lemmas.List.Elements.{All-nil, All-cons}
use Rattle.std.proofs.lemmas.List.Sums.{sum_by-cons}
use Rattle.addr_space.specs.Space.{Part, IsInOrder, piece_at}
use Rattle.anon_map.specs.Maps.{Map, places_of, holders_of}
use Rattle.flat_model.specs.vnode_files.Files.{no_files, block_count}
use Rattle.page_store.specs.block_device.DiskSeen.{DiskSeen, IsBlock, AreBlocks, HasBlocks}
use Rattle.page_store.specs.core_arena.Bytes.{bytes_at}
use Rattle.page_store.specs.page_hash.Names.{name_at}
use Rattle.page_store.specs.page_hash.declared.PageName.{PageName}
use Rattle.page_store.proofs.page_lists.ListLemmas.{Contains-none}
use Rattle.page_store.specs.page_lock.Rows.{row_at}
use Rattle.page_store.specs.Bays.{BaySeen, missing, home, out, bay_at}
use Rattle.page_store.specs.Layout.{AreDisjoint, KeepsPage, FileBlocks}
use Rattle.page_store.specs.Notes.{Note}
use Rattle.page_store.specs.Seen.{IsSoundStore, FrameAgrees, IsListedFrame}
use Rattle.page_store.specs.StoreFits.{StoreFits, NoteAgrees}
use Rattle.page_store.proofs.LayoutLemmas.{layout_law}
use Rattle.hat_layer.specs.Pool.{IsSingleValued}
use Rattle.mark_laws.specs.disk_marks.declared.marks.Mark.{Mark}
use Rattle.mark_laws.specs.disk_marks.declared.marks.Mark.TheVariants.{Blank, Unsure}
use Rattle.hat_layer.specs.declared.translation.Translation.{Translation}
use Rattle.flat_model.specs.Words.{Page, IsPage}
use Rattle.flat_model.proofs.Ranges.{get-insert_here, get-insert_apart}
use Rattle.vm_world.specs.World.{file_blocks, slot_name, world_table, is_unpushed, page_exists}
use Rattle.vm_world.specs.Segments.{Segment, segments_of, spot_at, zero_map}
use Rattle.vm_world.specs.FlatMemory.{flat_memory, zero_maps}
use Rattle.vm_world.specs.FramesFit.{HasSize}
use Rattle.vm_world.specs.CountsFit.{CountsFit, SegmentsFit, SegmentFits, ShowsZero, is_number, places_in, times_held, times_had, reserved_pages, slots_for_part}
use Rattle.vm_world.specs.TranslationsFit.{TranslationFits, HasWritten}
use Rattle.vm_world.specs.MemoryFits.{MemoryFits}
use Rattle.vm_world.specs.NotesFit.{NotesFit, PushFits}
use Rattle.vm_world.specs.State.{Sent, Caller, notes_of, is_top}
use Rattle.vm_world.specs.StateFits.{StateFits}
use Rattle.vm_world.specs.DiskPlaces.{faults_in}
use Rattle.vm_world.specs.HistoryFits.{has_left}
use Rattle.vm_world.specs.Busy.{busy_segment, busy_part, busy_spaces, busy_maps, busy_slots, busy_store, busy_hat, busy_memory, busy_disk, busy_note, busy_seats, busy_state, BusyLaw}
use Rattle.vm_world.proofs.Counting.{adds, adds-other}
use Rattle.vm_world.proofs.FlatWhole.{HasPages, some-inj, flat-whole}
use Rattle.vm_world.proofs.Openings.{opening-history}
use Rattle.vm_world.proofs.PageNames.{page-cases}
use Rattle.vm_world.proofs.Spaces.{map-empty, entries-empty}
use Rattle.vm_world.proofs.StoredPages.{IsPage-clip}

-- the one process
one-entries : {X : Type 0} (p : ℕ) (v : X) → finite.entries (finite.insert (finite.empty {X = X} {R = nat_cmp}) p v) ≡ (p, v) ∷ []
one-entries {X} p v = finite.entries-insert nat_cmp_total finite.empty p v ∙ ap (finite.put nat_cmp p v) (entries-empty {X = X})

busy-get : (p : ℕ) (parts : List (Part Segment)) → finite.get busy_spaces p ≡ Some parts → (p ≡ 1) × (busy_part ∷ [] ≡ parts)
busy-get p parts is = elim (cases_eq p 1) [
  | inl e ↦ (e, let z : ◌≡◌ {A = Option (List (Part Segment))} (Some (busy_part ∷ [])) (Some parts) = sym (get-insert_here (finite.empty {X = List (Part Segment)} {R = nat_cmp}) 1 (busy_part ∷ [])) ∙ ap (finite.get busy_spaces) (sym e) ∙ is in cc)
  | inr ne ↦ absurd (let z : ◌≡◌ {A = Option (List (Part Segment))} None (Some parts) = sym (get-insert_apart (finite.empty {X = List (Part Segment)} {R = nat_cmp}) 1 (busy_part ∷ []) p ne ∙ finite.get-empty nat_cmp p) ∙ is in cc)
]

busy-segments : segments_of busy_spaces ≡ busy_segment ∷ []
busy-segments = ap (λ (es : List (ℕ × List (Part Segment))). flat_map (λ (ps : List (Part Segment)). map (λ (x : Part Segment). x.piece) ps) (map (λ e. e.1) es)) (one-entries 1 (busy_part ∷ []))

busy-zeros : zero_maps busy_spaces ≡ finite.empty
busy-zeros =
    ap (λ (es : List (ℕ × List (Part Segment))). finite.from_entries (flat_map (λ (ps : List (Part Segment)). filter_map (λ (x : Part Segment). zero_map x.piece) ps) (map (λ e. e.1) es))) (one-entries 1 (busy_part ∷ []))
    ∙ map-empty (finite.from_entries []) (λ q. finite.get-from_entries nat_cmp_total [] q)

busy-reserved : reserved_pages busy_maps busy_spaces ≡ 3
busy-reserved =
    let a : sum_by (λ parts. sum_by slots_for_part parts) (finite.values busy_spaces) ≡ 3 = ap (λ (es : List (ℕ × List (Part Segment))). sum_by (λ parts. sum_by slots_for_part parts) (map (λ e. e.1) es)) (one-entries 1 (busy_part ∷ [])) in
    let b : sum_by (λ number. length (places_of busy_maps number)) (finite.values (zero_maps busy_spaces)) ≡ 0 =
    ap (λ (zs : finite.FinMap nat_cmp ℕ). sum_by (λ number. length (places_of busy_maps number)) (finite.values zs)) busy-zeros
    ∙ ap (λ (es : List (ℕ × ℕ)). sum_by (λ number. length (places_of busy_maps number)) (map (λ e. e.1) es)) entries-empty in
    omega (arith, a, b)

-- counts
busy-counts : CountsFit busy_slots busy_maps
busy-counts = record {
  sound = record { lengths = refl; used = omega arith; reserved = omega arith; fits = omega arith };
  counts = λ s. sym (times s ∙ count s);
  places = refl;
}
  where
    times : (s : ℕ) → times_held busy_maps s ≡ adds s (Some 0) + (adds s (Some 1) + adds s (Some 2))
    times s =
        let a = sum_by-cons (λ (x : Option Map). count_by (is_number s) (places_in x)) (Some (record { places = Some 0 ∷ Some 1 ∷ Some 2 ∷ []; holders = 1 })) [] in
        let b = sum_by-cons (adds s) (Some 0) (Some 1 ∷ Some 2 ∷ []) in
        let c = sum_by-cons (adds s) (Some 1) (Some 2 ∷ []) in
        let d = sum_by-cons (adds s) (Some 2) [] in
        omega (arith, a, b, c, d)

    count : (s : ℕ) → adds s (Some 0) + (adds s (Some 1) + adds s (Some 2)) ≡ slice_index (1 ∷ 1 ∷ 1 ∷ []) s
    count zero = refl
    count (suc zero) = refl
    count (suc (suc zero)) = refl
    count (suc (suc (suc s))) =
        let x = adds-other (suc (suc (suc s))) 0 (omega arith) in
        let y = adds-other (suc (suc (suc s))) 1 (omega arith) in
        let z = adds-other (suc (suc (suc s))) 2 (omega arith) in
        omega (arith, x, y, z)

busy-part-fits : SegmentFits 0 busy_maps busy_part
busy-part-fits = record { pages = refl; end = omega arith; within = refl; object = (refl, refl); own = (0, refl, refl, refl, refl) }

busy-segments-fit : SegmentsFit 0 busy_slots busy_maps busy_spaces
busy-segments-fit = record {
  ordered = λ p parts is. subst (λ (ps : List (Part Segment)). IsInOrder 1 ps) (busy-get p parts is).1 (record { behind = omega arith; some = omega arith; within = omega arith }, tt);
  each = λ p parts is. subst (λ (ps : List (Part Segment)). All (SegmentFits 0 busy_maps) ps) (busy-get p parts is).1 (All-cons (SegmentFits 0 busy_maps) busy_part [] busy-part-fits (All-nil (SegmentFits 0 busy_maps)));
  holders = λ number. holders number ∙ sym (ap (sum_by (times_had number)) busy-segments);
  zeros = subst (λ (ss : List Segment). All (ShowsZero (zero_maps busy_spaces)) ss) (sym busy-segments) (All-cons (ShowsZero (zero_maps busy_spaces)) busy_segment [] (λ z number is. absurd (cc)) (All-nil (ShowsZero (zero_maps busy_spaces))));
  apart = λ y z number is _. absurd (let e : None ≡ Some number = sym (finite.get-empty nat_cmp y) ∙ sym (ap (λ (zs : finite.FinMap nat_cmp ℕ). finite.get zs y) busy-zeros) ∙ is in cc);
  once = λ y number place slot is _. absurd (let e : None ≡ Some number = sym (finite.get-empty nat_cmp y) ∙ sym (ap (λ (zs : finite.FinMap nat_cmp ℕ). finite.get zs y) busy-zeros) ∙ is in cc);
  reserved = busy-reserved;
}
  where
    holders : (number : ℕ) → holders_of busy_maps number ≡ sum_by (times_had number) (busy_segment ∷ [])
    holders zero = refl
    holders (suc number) =
        let z = adds-other (suc number) 0 (omega arith) in
        let b = sum_by-cons (times_had (suc number)) busy_segment [] in
        omega (arith, b, z)

module _ (page : Page) (whole : IsPage page) where
  size-of : (b : List ℕ) → ◌≡◌ {A = Option (List ℕ)} (Some page) (Some b) → length b ≡ 4096
  size-of b e = ap (λ (x : List ℕ). length x) (sym (some-inj page b e)) ∙ whole.whole

  names-below : (k : ℕ) (n : PageName) → name_at (busy_store page).names k ≡ Some n → ((k ≡ 0) × (n ≡ slot_name 2)) ⊎ ((k ≡ 1) × (n ≡ slot_name 1))
  names-below zero n is = inl (refl, sym (some-inj (slot_name 2) n is))
  names-below (suc zero) n is = inr (refl, sym (some-inj (slot_name 1) n is))
  names-below (suc (suc k)) n is = absurd (cc)

  no-source : (k own : ℕ) → (row_at (busy_store page).rows k).source ≡ Some own → ⊥
  no-source zero own is = cc
  no-source (suc zero) own is = cc
  no-source (suc (suc k)) own is = cc

  no-snapshot : (k copy : ℕ) → (row_at (busy_store page).rows k).snapshot ≡ Some copy → ⊥
  no-snapshot zero copy is = cc
  no-snapshot (suc zero) copy is = cc
  no-snapshot (suc (suc k)) copy is = cc

  agrees : (k : ℕ) → k < 2 → FrameAgrees (bytes_at (busy_store page).frames k) (name_at (busy_store page).names k) (row_at (busy_store page).rows k)
  agrees zero lt = record { size = size-of; away = refl; unnamed = refl; torn = λ g. absurd (cc) }
  agrees (suc zero) lt = record { size = λ b e. absurd (cc); away = refl; unnamed = refl; torn = λ g. absurd (cc) }
  agrees (suc (suc k)) lt = absurd (omega (arith, lt))

  bay-is : (number : ℕ) → (bay_at (busy_store page).bays number ≡ missing) ⊎ ((number ≡ 8) × (bay_at (busy_store page).bays number ≡ out 1))
  bay-is zero = inl refl
  bay-is (suc zero) = inl refl
  bay-is (suc (suc zero)) = inl refl
  bay-is (suc (suc (suc zero))) = inl refl
  bay-is (suc (suc (suc (suc zero)))) = inl refl
  bay-is (suc (suc (suc (suc (suc zero))))) = inl refl
  bay-is (suc (suc (suc (suc (suc (suc zero)))))) = inl refl
  bay-is (suc (suc (suc (suc (suc (suc (suc zero))))))) = inl refl
  bay-is (suc (suc (suc (suc (suc (suc (suc (suc zero)))))))) = inr (refl, refl)
  bay-is (suc (suc (suc (suc (suc (suc (suc (suc (suc k))))))))) = inl refl

  no-home : (number : ℕ) (d : DiskSeen) → bay_at (busy_store page).bays number ≡ home d → ⊥
  no-home number d is = elim (bay-is number) [
    | inl m ↦ let z : missing ≡ home d = sym m ∙ is in cc
    | inr o ↦ let z : out 1 ≡ home d = sym o.1 ∙ is in cc
  ]

  unlisted : (k : ℕ) → ¬ IsListedFrame (busy_store page) k
  unlisted k l = elim l [ inl a ↦ Contains-none k a | inr b ↦ Contains-none k b ]

  -- no disk of a file is there
  few-bays : (number : ℕ) → number < 8 → bay_at (busy_store page).bays number ≡ missing
  few-bays number low = elim (bay-is number) [ inl m ↦ m | inr o ↦ let at = o.0 in absurd (omega (arith, low, at)) ]

  busy-sound : IsSoundStore (busy_store page)
  busy-sound = record {
    few = omega arith;
    names = refl;
    rows = refl;
    hands = refl;
    bays = refl;
    order = record { numbers = record { below = λ i lt. absurd (omega (arith, lt)); apart = λ i j lt _ _. absurd (omega (arith, lt)) }; there = λ i lt. absurd (omega (arith, lt)); all = λ number low is. absurd (is (few-bays number low)) };
    distinct = λ i j n a b. elim (names-below i n a) [
      | inl x ↦ elim (names-below j n b) [ inl y ↦ x.0 ∙ sym y.0 | inr y ↦ absurd (let z : ◌≡◌ {A = ℕ} 2 1 = ap (λ (n : PageName). n.page) (sym x.1 ∙ y.1) in omega (arith, z)) ]
      | inr x ↦ elim (names-below j n b) [ inl y ↦ absurd (let z : ◌≡◌ {A = ℕ} 1 2 = ap (λ (n : PageName). n.page) (sym x.1 ∙ y.1) in omega (arith, z)) | inr y ↦ x.0 ∙ sym y.0 ]
    ];
    lists = record { once_free = tt; once_cached = tt; one_list = λ f a b. absurd (Contains-none f a); below_free = λ f a. absurd (Contains-none f a); below_cached = λ f a. absurd (Contains-none f a) };
    each = agrees;
    paired = record {
      source = λ own copy is. absurd (no-snapshot own copy is);
      snapshot = λ own copy is. absurd (no-source copy own is);
      home = λ own copy is. absurd (no-snapshot own copy is);
      named = λ own copy is. absurd (no-snapshot own copy is);
      unlisted = λ own copy is. absurd (no-snapshot own copy is);
    };
    listed = λ k l. absurd (unlisted k l);
    unnamed = λ k l. absurd (Contains-none k l);
    spare = λ k there none. absurd (spare k there none);
    whole = λ number d is. absurd (no-home number d is);
  }
    where
      spare : (k : ℕ) → IsSome (bytes_at (busy_store page).frames k) → name_at (busy_store page).names k ≡ None → ⊥
      spare zero there none = cc
      spare (suc zero) there none = cc
      spare (suc (suc k)) there none = cc

  written : HasWritten busy_hat.places 0
  written = record { place = 0; translation = record { space = 1; page = 3; frame = 0; writable = true; referenced = true; modified = true }; there = refl; leads = refl; modified = refl }

  busy-spot : spot_at busy_spaces 1 3 ≡ Some (busy_segment, 2)
  busy-spot = ap (λ (o : Option (List (Part Segment))). option_and_then (λ parts. piece_at parts 3) o) (get-insert_here (finite.empty {X = List (Part Segment)} {R = nat_cmp}) 1 (busy_part ∷ []))

  leads : (place : ℕ) (t : Translation) → slice_index_or busy_hat.places place None ≡ Some t → TranslationFits (busy_store page) busy_slots busy_maps busy_spaces t
  leads zero t is = subst (λ (x : Translation). TranslationFits (busy_store page) busy_slots busy_maps busy_spaces x) (some-inj (record { space = 1; page = 3; frame = 0; writable = true; referenced = true; modified = true }) t is) (record {
    spot = (busy_segment, 2);
    here = busy-spot;
    name = slot_name 2;
    shows = refl;
    home = refl;
    unlisted = unlisted 0;
    allowed = refl;
    writable = λ w. record { prot = refl; alone = λ kind. (2, refl, refl) };
  })
  leads (suc place) t is = absurd (cc)

  pub busy-fits-memory : MemoryFits (busy_memory page)
  busy-fits-memory = record {
    frames = record {
      sound = busy-sound;
      unkept = keeps;
      unmodified = λ k l. absurd (unlisted k l);
      exist = λ k n is. elim (names-below k n is) [
        | inl x ↦ subst (λ (m : PageName). IsTrue (page_exists no_files busy_slots m)) (sym x.1) refl
        | inr x ↦ subst (λ (m : PageName). IsTrue (page_exists no_files busy_slots m)) (sym x.1) refl
      ];
    };
    files = record {
      small = λ number blocks is. absurd (no-disk number blocks is);
      each = λ f lt. absurd (omega (arith, lt));
      disjoint = disjoint;
      set = λ f lt. absurd (omega (arith, lt));
      low = λ n f b k. absurd (no-file n f b k);
      high = λ n f b k. absurd (no-file n f b k);
      lie = λ k d lt. absurd (omega (arith, lt));
      apart = λ disk b. omega arith;
      few = λ disk. omega arith;
      some = λ f lt. absurd (omega (arith, lt));
    };
    disks = record {
      numbers = λ number blocks is. absurd (no-disk number blocks is);
      there = λ number blocks is. absurd (no-disk number blocks is);
      set = λ number low there. absurd (there (few-bays number low));
      swap = λ lt m. (let z : out 1 ≡ missing = m in cc);
      unused = λ none. absurd (omega (arith, none));
      sizes = λ number d is. absurd (no-home number d is);
    };
    pool = record { leads = refl; single = single };
    translations = leads;
    unpushed = λ k s name unpushed there. elim (names-below k (slot_name s) name) [
      | inl x ↦ inr (subst (λ (f : ℕ). HasWritten busy_hat.places f) (sym x.0) written)
      | inr x ↦ absurd (let z : true ≡ false = ap (λ (n : PageName). slice_index_or busy_slots.swapped n.page false) (sym x.1) ∙ unpushed in cc)
    ];
    counts = busy-counts;
    segments = busy-segments-fit;
  }
    where
      keeps : (k : ℕ) → (row_at (busy_store page).rows k).keeps ≡ 0
      keeps zero = refl
      keeps (suc zero) = refl
      keeps (suc (suc k)) = refl

      no-file : (n : PageName) (f : FileBlocks) (b : ℕ) → KeepsPage (map file_blocks no_files.files) n f b → ⊥
      no-file n f b k = let z : None ≡ Some f = k.number in cc

      disjoint : AreDisjoint (map file_blocks no_files.files)
      disjoint = record { few = omega arith; disks = λ n f b k. absurd (no-file n f b k); apart = λ m n f g b k _ _. absurd (no-file m f b k) }

      no-disk : (number blocks : ℕ) → finite.get no_files.disks number ≡ Some blocks → ⊥
      no-disk number blocks is = let z : None ≡ Some blocks = sym (finite.get-empty nat_cmp number) ∙ is in cc

      single : IsSingleValued busy_hat.places
      single zero zero space q a b = refl
      single zero (suc j) space q a b = absurd (cc)
      single (suc i) j space q a b = absurd (cc)

  -- what a seat has outside is seat 1's
  sent-is : (seat : ℕ) (note : Note) → notes_of (busy_seats page) seat ≡ Some note → (seat ≡ 1) × (note ≡ busy_note page)
  sent-is seat note is = elim (eqb_tells seat 1) [
    | inl y ↦ (y.1, sym (some-inj (busy_note page) note (sym (ap (λ (b : Bool). option_map (λ (s : Sent). s.note) (cond b (Some (record { note = busy_note page; of = None })) None)) y.0) ∙ is)))
    | inr n ↦ absurd (let z : ◌≡◌ {A = Option Note} None (Some note) = sym (ap (λ (b : Bool). option_map (λ (s : Sent). s.note) (cond b (Some (record { note = busy_note page; of = None })) None)) n.0) ∙ is in cc)
  ]

  page-block : IsBlock page
  page-block = (whole.whole, λ at. byte at (below at))
    where
      below : (at : ℕ) → (at < length page) ⊎ (length page ≤ at)
      below at = grind arith

      past : (xs : List ℕ) (at : ℕ) → length xs ≤ at → slice_index xs at ≡ 0
      past [] at le = refl
      past (x ∷ xs) zero le = absurd (omega (arith, le))
      past (x ∷ xs) (suc at) le = past xs at (omega (arith, le))

      byte : (at : ℕ) → (at < length page) ⊎ (length page ≤ at) → slice_index page at < 256
      byte at c = elim c [
        | inl lt ↦ whole.bytes at 0 lt
        | inr le ↦ let z = past page at le in omega (arith, z)
      ]

  disk-whole : HasBlocks (busy_disk page).content (busy_disk page).size
  disk-whole = (refl, blocks)
    where
      blocks : AreBlocks (page ∷ page ∷ page ∷ [])
      blocks zero lt = page-block
      blocks (suc zero) lt = page-block
      blocks (suc (suc zero)) lt = page-block
      blocks (suc (suc (suc k))) lt = absurd (omega (arith, lt))

  agrees-note : NoteAgrees (busy_store page) (world_table (busy_memory page).world) 1 (busy_note page)
  agrees-note = record {
    mine = refl;
    origin = refl;
    out = record { bay = refl; holder = refl; page = λ g. refl; read = λ w. absurd (cc) };
    away = refl;
    disk = refl;
    block = refl;
    read = λ w. absurd (cc);
    whole = disk-whole;
    bytes = whole.whole;
  }

  holder-is : (k seat : ℕ) → (row_at (busy_store page).rows k).holder ≡ Some seat → (k ≡ 1) × (seat ≡ 1)
  holder-is zero seat is = absurd (cc)
  holder-is (suc zero) seat is = (refl, sym (some-inj 1 seat is))
  holder-is (suc (suc k)) seat is = absurd (cc)

  busy-stored : StoreFits (busy_store page) (notes_of (busy_seats page)) (world_table (busy_memory page).world)
  busy-stored = record {
    apart = (layout_law.table (map file_blocks no_files.files) 3 (is_unpushed no_files busy_slots)).apart busy-fits-memory.files.disjoint;
    each_note = λ seat note is. let s = sent-is seat note is in
        subst (λ (k : ℕ). NoteAgrees (busy_store page) (world_table (busy_memory page).world) k note) (sym s.0)
        (subst (λ (n : Note). NoteAgrees (busy_store page) (world_table (busy_memory page).world) 1 n) (sym s.1) agrees-note);
    each_frame = λ frame seat is. let h = holder-is frame seat is in
        (busy_note page, ap (notes_of (busy_seats page)) h.1, sym h.0);
    each_bay = λ number seat is. elim (bay-is number) [
      | inl m ↦ absurd (let z : missing ≡ out seat = sym m ∙ is in cc)
      | inr o ↦ (busy_note page, ap (notes_of (busy_seats page)) (let z : out 1 ≡ out seat = sym o.1 ∙ is in let e : 1 ≡ seat = cc in sym e), sym o.0)
    ];
    each_cached = λ frame n on _. absurd (Contains-none frame on);
  }

  busy-fits-notes : NotesFit (busy_memory page).world (notes_of (busy_seats page))
  busy-fits-notes = record {
    stored = busy-stored;
    clean = λ frame name is there. elim (names-below frame name is) [
      | inl x ↦ inl (inr (subst (λ (f : ℕ). HasWritten busy_hat.places f) (sym x.0) written))
      | inr x ↦ absurd (let z : IsSome (bytes_at (busy_store page).frames 1) = subst (λ (f : ℕ). IsSome (bytes_at (busy_store page).frames f)) x.0 there in cc)
    ];
    pushes = λ seat note is writes here. subst (λ (n : Note). PushFits (busy_store page) busy_hat.places (world_table (busy_memory page).world) n) (sym (sent-is seat note is).1)
        (record { pushed = refl; same = inr (record { valid = refl; bytes = λ bytes at. absurd (cc) }) });
    gone = λ seat note is writes gone. absurd (let z : false ≡ true = ap (λ (n : Note). (row_at (busy_store page).rows n.frame).gone) (sym (sent-is seat note is).1) ∙ gone in cc);
    sizes = λ seat note is. subst (λ (n : Note). HasSize no_files.disks 3 n.number n.disk.size) (sym (sent-is seat note is).1)
        (record { file = λ blocks at. absurd (let z : None ≡ Some blocks = sym (finite.get-empty nat_cmp 8) ∙ at in cc); swap = λ e. omega arith });
  }

  -- the three slots have the page
  busy-pages : HasPages (busy_memory page).world (notes_of (busy_seats page))
  busy-pages name is = elim (page-cases no_files busy_slots name is) [
    | inl s ↦ subst (λ (n : PageName). IsPage (page_value (busy_memory page).world (notes_of (busy_seats page)) n)) (λ i. record { object = sym s.0 i; page = name.page }) (slot name.page s.1)
    | inr f ↦ absurd (let lt = f.1 in omega (arith, lt))
  ]
    where
      slot : (k : ℕ) → k < 3 → IsPage (page_value (busy_memory page).world (notes_of (busy_seats page)) (slot_name k))
      slot zero lt = IsPage-clip 4096 page (omega arith) page-block
      slot (suc zero) lt = whole
      slot (suc (suc zero)) lt = whole
      slot (suc (suc (suc k))) lt = absurd (omega (arith, lt))

  born-is : (p : ℕ) → set.contains (busy_state page).born p ≡ (p == 1 || false)
  born-is p = set.contains-insert nat_cmp_total set.empty 1 p ∙ ap (λ (b : Bool). b || set.contains (set.empty {R = nat_cmp}) p) (unsigned_tied p 1) ∙ ap (λ (b : Bool). p == 1 || b) (set.contains-empty nat_cmp p)

  alive : (p : ℕ) → IsSome (finite.get busy_spaces p) → IsTrue (set.contains (busy_state page).born p)
  alive p is = elim (cases_eq p 1) [
    | inl e ↦ born-is p ∙ ap (λ (k : ℕ). k == 1 || false) e
    | inr ne ↦
        let none : ◌≡◌ {A = Option (List (Part Segment))} (finite.get busy_spaces p) None = get-insert_apart (finite.empty {X = List (Part Segment)} {R = nat_cmp}) 1 (busy_part ∷ []) p ne ∙ finite.get-empty nat_cmp p in
        absurd (let z : false ≡ true = sym (ap (λ (o : Option (List (Part Segment))). is_some o) none) ∙ is in cc)
  ]

  stays : (p : ℕ) → IsTrue (set.contains (busy_state page).born p) → IsFalse (has_left p []) → IsSome (finite.get busy_spaces p)
  stays p born here = elim (eqb_tells p 1) [
    | inl y ↦ subst (λ (k : ℕ). IsSome (finite.get busy_spaces k)) (sym y.1) (ap is_some (get-insert_here (finite.empty {X = List (Part Segment)} {R = nat_cmp}) 1 (busy_part ∷ [])))
    | inr n ↦ absurd (let z : false ≡ true = sym (ap (λ (b : Bool). b || false) n.0) ∙ sym (born-is p) ∙ born in cc)
  ]

  busy-fits : StateFits (flat_memory (busy_memory page) (busy_state page).born (notes_of (busy_seats page))) (busy_state page) (busy_seats page)
  busy-fits = record {
    memory = busy-fits-memory;
    notes = busy-fits-notes;
    replays = λ tell. opening-history (flat_memory (busy_memory page) (busy_state page).born (notes_of (busy_seats page))) [] 0 (flat-whole (busy_memory page) (notes_of (busy_seats page)) busy-fits-memory busy-pages (busy_state page).born alive) refl refl;
    faults = record {
      counted = record { risen = λ k e disk before after is _. absurd (cc); ordered = λ j k d e disk b after before a lt is _ _ _. absurd (cc) };
      reached = λ k e disk before after is _. absurd (cc);
      most = λ disk count is. elim (bay-is disk) [
        | inl m ↦ absurd (let z : ◌≡◌ {A = Option ℕ} None (Some count) = sym (ap (λ (b : BaySeen). faults_in b (notes_of (busy_seats page))) m) ∙ is in cc)
        | inr o ↦ let z : ◌≡◌ {A = Option ℕ} (Some 0) (Some count) = sym (ap (λ (b : BaySeen). faults_in b (notes_of (busy_seats page))) o.1) ∙ is in
            subst (λ (n : ℕ). n ≤ top_count) (some-inj 0 count z) (omega arith)
      ];
    };
    calls = record {
      ends = λ front rest e is. absurd (no-entry front rest e is);
      files = λ f seat. ((λ is. absurd (cc)), (λ is. absurd is));
      starts = λ seat b is. absurd (cc);
    };
    rooms = record { made = λ p. omega arith; forks = λ k child e is _. absurd (cc) };
    births = record { lived = lived; alive = alive; stays = stays };
    plans = record {
      plan = λ kept is. absurd (cc);
      planned = λ kept of is _. absurd (cc);
      sent = λ seat sent of is for_call. absurd (no-caller seat sent of is for_call);
    };
    marks = λ tell. record {
      there = λ name disk block at. absurd (cc);
      early = λ name disk block at. absurd (cc);
      blocks = λ name disk block at. absurd (cc);
      blanks = λ name disk block j at. absurd (cc);
      places = λ seat note is writes far. absurd (no-file seat note is far);
      sent = λ seat note is writes far. absurd (no-file seat note is far);
      origin = λ seat note is writes far. absurd (no-file seat note is far);
      out = λ seat push is. absurd (cc);
      synced = λ k b name disk block syn at. absurd (cc);
      later = λ k b seat name push syn is. absurd (cc);
      kept = λ f file at. absurd (cc);
      rows = λ disk block lt. absurd (let none : finite.get (finite.empty {X = ℕ} {R = nat_cmp}) disk ≡ None = finite.get-empty nat_cmp disk in let zero : block_count finite.empty disk ≡ 0 = ap (λ (o : Option ℕ). unwrap_or o 0) none in omega (arith, lt, zero));
      free = λ disk block none. refl;
      inside = λ seat push is. absurd (cc);
    };
    failures = λ disk block j before after is. absurd (let z : ◌≡◌ {A = Mark} (Blank 0) (Unsure j before after) = is in cc);
    pushes = refl;
  }
    where
      no-entry : (front rest : List Entry) (e : Entry) → [] ≡ front ++ e ∷ rest → ⊥
      no-entry [] rest e is = cc
      no-entry (x ∷ front) rest e is = cc

      -- its transfer is of a slot
      no-file : (seat : ℕ) (note : Note) → notes_of (busy_seats page) seat ≡ Some note → note.name.object ≢ 64 → ⊥
      no-file seat note is far = by_seat (seat == 1) is
        where
          by_seat : (b : Bool) → option_map (λ (x : Sent). x.note) (cond b (Some (record { note = busy_note page; of = None })) None) ≡ Some note → ⊥
          by_seat true e = far (sym (ap (λ (n : Note). n.name.object) (some-inj (busy_note page) note e)))
          by_seat false e = cc

      no-caller : (seat : ℕ) (sent : Sent) (of : Caller) → busy_seats page seat ≡ Some sent → sent.of ≡ Some of → ⊥
      no-caller seat sent of is for_call = by_seat (seat == 1) is
        where
          by_seat : (b : Bool) → cond b (Some (record { note = busy_note page; of = None })) None ≡ Some sent → ⊥
          by_seat true e = let s : record { note = busy_note page; of = None } ≡ sent = some-inj (record { note = busy_note page; of = None }) sent e in let z : ◌≡◌ {A = Option Caller} None (Some of) = ap (λ (x : Sent). x.of) s ∙ for_call in cc
          by_seat false e = cc

      top-one : (p : ℕ) → (p == 1 || false) ≡ (is_top (0 ∷ []) p || false)
      top-one zero = refl
      top-one (suc zero) = refl
      top-one (suc (suc p)) =
          let apart : (suc (suc p) == 1) ≡ false = elim (eqb_tells (suc (suc p)) 1) [ inl y ↦ absurd (let e = y.1 in omega (arith, e)) | inr n ↦ n.0 ] in
          ap (λ (b : Bool). b || false) apart

      lived : (p : ℕ) → set.contains (busy_state page).born p ≡ (is_top (0 ∷ []) p || list_any (is_birth p) [])
      lived p = set.contains-insert nat_cmp_total set.empty 1 p ∙ ap (λ (b : Bool). b || set.contains (set.empty {R = nat_cmp}) p) (unsigned_tied p 1) ∙ ap (λ (b : Bool). p == 1 || b) (set.contains-empty nat_cmp p) ∙ top-one p

pub busy_law : BusyLaw
busy_law = record { fits = busy-fits }
