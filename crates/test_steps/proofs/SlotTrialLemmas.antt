-- THE WORLD OF THE SLOTS' TRIAL fits: idle frames, and two maps that hold one slot, whose page is in swap.
use Rattle.std.proofs.Common.{◌≡◌, ◌≢◌, ℕ, zero, suc, ◌+◌, ◌-◌, ◌*◌, ◌<◌, ◌≤◌, Bool, true, false, List, [], ◌∷◌, length, map, replicate, Option, Some, None, refl, sym, ap, ◌∙◌, inl, inr, subst, arith, slice_index, slice_index_or}
use Rattle.std.specs.Prelude.{All, is_some, option_map, sum_by, flat_map, filter_map, option_and_then, Contains}
use Rattle.std.specs.Ordering.{nat_cmp}
use Rattle.std.specs.Cmp.{nat_cmp_total}
use Rattle.std.specs.FinMap as finite
use Rattle.std.proofs.lemmas.Bool.{cases_eq}
use Rattle.std.proofs.lemmas.List.Elements.{All-nil, All-cons}
use Rattle.std.proofs.lemmas.List.Sums.{sum_by-cons}
use Rattle.addr_space.specs.Space.{Part, IsInOrder, part_at, piece_at, with_new_part}
use Rattle.anon_map.specs.Maps.{Map, IsUnused, holders_of, places_of}
use Rattle.anon_slots.specs.Slots.{AnonSlotsSeen}
use Rattle.block_device.specs.DiskSeen.{DiskSeen}
use Rattle.flat_model.proofs.Ranges.{get-insert_here, get-insert_apart}
use Rattle.hat_layer.specs.Pool as pool
use Rattle.hat_layer.specs.declared.translation.Translation.{Translation}
use Rattle.seg_ops.specs.page_hash.Names.{name_at}
use Rattle.seg_ops.specs.page_hash.declared.PageName.{PageName}
use Rattle.page_lists.proofs.ListLemmas.{Contains-none}
use Rattle.page_lock.specs.Rows.{row_at, clear_row}
use Rattle.page_lock.specs.declared.Row.{Row}
use Rattle.seg_ops.specs.page_store.Bays.{BaySeen, missing, home, out, bay_at, IsStill}
use Rattle.seg_ops.specs.page_store.Layout.{FileBlocks, KeepsPage}
use Rattle.core_arena.specs.Bytes.{zeros}
use Rattle.seg_ops.specs.page_store.New.{IsNew}
use Rattle.seg_ops.specs.page_store.Notes.{no_notes}
use Rattle.seg_ops.specs.page_store.Seen.{StoreSeen, IsSoundStore}
use Rattle.seg_ops.proofs.page_store.LayoutLemmas.{layout_law}
use Rattle.vnode_files.specs.Files.{no_files, FilesSeen}
use Rattle.seg_ops.specs.vm_world.declared.segment.Segment.{Segment}
use Rattle.seg_ops.specs.vm_world.CountsFit.{CountsFit, SegmentsFit, SegmentFits, ShowsZero, places_in, times_held, times_had, reserved_pages, slots_for_part}
use Rattle.seg_ops.specs.vm_world.FlatMemory.{zero_maps}
use Rattle.seg_ops.specs.vm_world.FramesFit.{FilesFit, DisksFit}
use Rattle.seg_ops.specs.vm_world.SegmentSteps.{MayMakeZero, ChangesSegments, segment_cell, with_new_cells, with_zero_object, with_zero_part}
use Rattle.seg_ops.specs.vm_world.Segments.{segments_of, spot_at, zero_map}
use Rattle.seg_ops.specs.vm_world.World.{World, file_blocks, is_unpushed, slot_name}
use Rattle.seg_ops.proofs.vm_world.Counting.{adds, adds-other}
use Rattle.seg_ops.proofs.vm_world.SegmentSteps.{segment_rule}
use Rattle.seg_ops.proofs.vm_world.Spaces.{map-empty, entries-empty}
use Rattle.flat_model.specs.Flat.{Flat}
use Rattle.seg_ops.specs.vm_world.CallSteps.{TurnsMemory}
use Rattle.seg_ops.specs.Empties.{IsUnloadedZero, OwnsPlaces}
use Rattle.seg_ops.specs.Slots.{OwnsAlone}
use Rattle.test_steps.specs.SlotTrials.{holding_segment, holding_page, holding_part, holding_spaces, holding_map, holding_maps, holding_slots, HoldsOne, object_segment, object_part, object_spaces}
use Rattle.test_steps.specs.PageTrials.{IsTrialIn}
use Rattle.seg_ops.proofs.SlotOwners.{places_law}
use Rattle.seg_ops.proofs.StillSteps.{memory_of}

-- THE PROCESS
abbrev holding_parts : List (Part Segment)
holding_parts = holding_part 0 ∷ holding_part 1 ∷ []

holding-entries : finite.entries holding_spaces ≡ (1, holding_parts) ∷ []
holding-entries = finite.entries-insert nat_cmp_total finite.empty 1 holding_parts ∙ ap (finite.put nat_cmp 1 holding_parts) (entries-empty {X = List (Part Segment)})

holding-get : (p : ℕ) (parts : List (Part Segment)) → finite.get holding_spaces p ≡ Some parts → (p ≡ 1) × (holding_parts ≡ parts)
holding-get p parts is = elim (cases_eq p 1) [
  | inl e ↦ (e, let z : ◌≡◌ {A = Option (List (Part Segment))} (Some holding_parts) (Some parts) = sym (get-insert_here (finite.empty {X = List (Part Segment)} {R = nat_cmp}) 1 holding_parts) ∙ ap (finite.get holding_spaces) (sym e) ∙ is in cc)
  | inr ne ↦ absurd (let z : ◌≡◌ {A = Option (List (Part Segment))} None (Some parts) = sym (get-insert_apart (finite.empty {X = List (Part Segment)} {R = nat_cmp}) 1 holding_parts p ne ∙ finite.get-empty nat_cmp p) ∙ is in cc)
]

holding-segments : segments_of holding_spaces ≡ holding_segment 0 ∷ holding_segment 1 ∷ []
holding-segments = ap (λ (es : List (ℕ × List (Part Segment))). flat_map (λ (ps : List (Part Segment)). map (λ (x : Part Segment). x.piece) ps) (map (λ e. e.1) es)) holding-entries

holding-zeros : zero_maps holding_spaces ≡ finite.empty
holding-zeros =
    ap (λ (es : List (ℕ × List (Part Segment))). finite.from_entries (flat_map (λ (ps : List (Part Segment)). filter_map (λ (x : Part Segment). zero_map x.piece) ps) (map (λ e. e.1) es))) holding-entries
    ∙ map-empty (finite.from_entries []) (λ q. finite.get-from_entries nat_cmp_total [] q)

holding-reserved : reserved_pages holding_maps holding_spaces ≡ 4
holding-reserved =
    let a : sum_by (λ parts. sum_by slots_for_part parts) (finite.values holding_spaces) ≡ 4 = ap (λ (es : List (ℕ × List (Part Segment))). sum_by (λ parts. sum_by slots_for_part parts) (map (λ e. e.1) es)) holding-entries in
    let b : sum_by (λ number. length (places_of holding_maps number)) (finite.values (zero_maps holding_spaces)) ≡ 0 =
    ap (λ (zs : finite.FinMap nat_cmp ℕ). sum_by (λ number. length (places_of holding_maps number)) (finite.values zs)) holding-zeros
    ∙ ap (λ (es : List (ℕ × ℕ)). sum_by (λ number. length (places_of holding_maps number)) (map (λ e. e.1) es)) entries-empty in
    omega (arith, a, b)

-- THE COUNTS
pub replicated : {X : Type 0} (n : ℕ) (x : X) (k : ℕ) → slice_index_or (replicate n x) k x ≡ x
replicated zero x k = refl
replicated (suc n) x zero = refl
replicated (suc n) x (suc k) = replicated n x k

holding-counts : (pushed : Bool) (anon : AnonSlotsSeen) → HoldsOne pushed anon → CountsFit anon holding_maps
holding-counts pushed anon h = record {
  sound = h.sound;
  counts = λ s. ap (λ (a : AnonSlotsSeen). slice_index a.counts s) h.are ∙ sym (times s ∙ count s);
  places = sym (ap (λ (a : AnonSlotsSeen). a.reserved) h.are);
}
  where
    times : (s : ℕ) → times_held holding_maps s ≡ adds s (Some 0) + adds s (Some 0)
    times s =
        let a = sum_by-cons (λ (x : Option Map). sum_by (adds s) (places_in x)) holding_map (holding_map ∷ []) in
        let b = sum_by-cons (λ (x : Option Map). sum_by (adds s) (places_in x)) holding_map [] in
        let c = sum_by-cons (adds s) (Some 0) (None ∷ []) in
        let d = sum_by-cons (adds s) None [] in
        omega (arith, a, b, c, d)

    count : (s : ℕ) → adds s (Some 0) + adds s (Some 0) ≡ slice_index (2 ∷ replicate 6 0) s
    count zero = refl
    count (suc s) = let x = adds-other (suc s) 0 (omega arith) in let y = replicated {X = ℕ} 6 0 s in omega (arith, x, y)

-- THE SEGMENTS
holding-part_fits : (m : ℕ) → m < 2 → SegmentFits 0 holding_maps (holding_part m)
holding-part_fits zero lt = record { pages = refl; end = omega arith; within = refl; object = (refl, refl); own = (0, refl, refl, refl, refl) }
holding-part_fits (suc zero) lt = record { pages = refl; end = omega arith; within = refl; object = (refl, refl); own = (1, refl, refl, refl, refl) }
holding-part_fits (suc (suc m)) lt = absurd (omega (arith, lt))

holding-fit : (pushed : Bool) (anon : AnonSlotsSeen) → HoldsOne pushed anon → SegmentsFit 0 anon holding_maps holding_spaces
holding-fit pushed anon h = record {
  ordered = λ p parts is. subst (λ (ps : List (Part Segment)). IsInOrder 1 ps) (holding-get p parts is).1
      (record { behind = omega arith; some = omega arith; within = omega arith }, (record { behind = omega arith; some = omega arith; within = omega arith }, tt));
  each = λ p parts is. subst (λ (ps : List (Part Segment)). All (SegmentFits 0 holding_maps) ps) (holding-get p parts is).1
      (All-cons (SegmentFits 0 holding_maps) (holding_part 0) (holding_part 1 ∷ []) (holding-part_fits 0 (omega arith)) (All-cons (SegmentFits 0 holding_maps) (holding_part 1) [] (holding-part_fits 1 (omega arith)) (All-nil (SegmentFits 0 holding_maps))));
  holders = λ number. holders number ∙ sym (ap (sum_by (times_had number)) holding-segments);
  zeros = subst (λ (ss : List Segment). All (ShowsZero (zero_maps holding_spaces)) ss) (sym holding-segments)
      (All-cons (ShowsZero (zero_maps holding_spaces)) (holding_segment 0) (holding_segment 1 ∷ []) (λ z number is. absurd (cc)) (All-cons (ShowsZero (zero_maps holding_spaces)) (holding_segment 1) [] (λ z number is. absurd (cc)) (All-nil (ShowsZero (zero_maps holding_spaces)))));
  apart = λ y z number is _. absurd (let e : None ≡ Some number = sym (finite.get-empty nat_cmp y) ∙ sym (ap (λ (zs : finite.FinMap nat_cmp ℕ). finite.get zs y) holding-zeros) ∙ is in cc);
  once = λ y number place slot is _. absurd (let e : None ≡ Some number = sym (finite.get-empty nat_cmp y) ∙ sym (ap (λ (zs : finite.FinMap nat_cmp ℕ). finite.get zs y) holding-zeros) ∙ is in cc);
  reserved = holding-reserved ∙ sym (ap (λ (a : AnonSlotsSeen). a.reserved) h.are);
}
  where
    holders : (number : ℕ) → holders_of holding_maps number ≡ sum_by (times_had number) (holding_segment 0 ∷ holding_segment 1 ∷ [])
    holders zero = refl
    holders (suc zero) = refl
    holders (suc (suc number)) =
        let y = adds-other (suc (suc number)) 0 (omega arith) in
        let z = adds-other (suc (suc number)) 1 (omega arith) in
        let a = sum_by-cons (times_had (suc (suc number))) (holding_segment 0) (holding_segment 1 ∷ []) in
        let b = sum_by-cons (times_had (suc (suc number))) (holding_segment 1) [] in
        omega (arith, a, b, y, z)

-- THE STORE, with the swap disk alone
counted : {X : Type 0} (n : ℕ) (x : X) → length (replicate n x) ≡ n
counted zero x = refl
counted (suc n) x = ap suc (counted n x)

pub bay-other : (frames : ℕ) (s : StoreSeen) (d : DiskSeen) → IsNew s frames [] (Some d) → (k : ℕ) → k ≢ 8 → bay_at s.bays k ≡ missing
bay-other frames s d new k ne = new.bays.others k ne (λ i lt e. omega (arith, lt))

swap-disks : (frames : ℕ) (s : StoreSeen) (d : DiskSeen) → IsNew s frames [] (Some d) → d.size ≡ 7 → DisksFit s.bays no_files.disks 7
swap-disks frames s d new size = record {
  numbers = λ number blocks is. absurd (none number blocks is);
  there = λ number blocks is. absurd (none number blocks is);
  set = λ number low there. absurd (there (bay-other frames s d new number (omega (arith, low))));
  swap = λ some e. let z : home d ≡ missing = sym new.bays.swap ∙ e in cc;
  unused = λ zeroed. absurd (omega (arith, zeroed));
  sizes = λ number x is. record {
    file = λ blocks at. absurd (none number blocks at);
    swap = λ e. let z : home d ≡ home x = sym new.bays.swap ∙ ap (bay_at s.bays) (sym e) ∙ is in let w = ap size_in z in omega (arith, w, size);
  };
}
  where
    none : (number blocks : ℕ) → finite.get (finite.empty {X = ℕ} {R = nat_cmp}) number ≡ Some blocks → ⊥
    none number blocks is = let z : None ≡ Some blocks = sym (finite.get-empty nat_cmp number) ∙ is in cc

    size_in : BaySeen → ℕ
    size_in missing = 0
    size_in (home y) = y.size
    size_in other = 0

no-files : FilesFit no_files
no-files = record {
  small = λ number blocks is. absurd (let z : None ≡ Some blocks = sym (finite.get-empty nat_cmp number) ∙ is in cc);
  each = λ f lt. absurd (omega (arith, lt));
  disjoint = record { few = omega arith; disks = λ n f b k. absurd (none n f b k); apart = λ m n f g b k l _. absurd (none m f b k) };
  set = λ f lt. absurd (omega (arith, lt));
  low = λ n f b k. absurd (none n f b k);
  high = λ n f b k. absurd (none n f b k);
  lie = λ k d lt. absurd (omega (arith, lt));
  apart = λ disk b. omega arith;
  few = λ disk. omega arith;
  some = λ f lt. absurd (omega (arith, lt));
}
  where
    none : (n : PageName) (f : FileBlocks) (b : ℕ) → KeepsPage [] n f b → ⊥
    none n f b k = let z : None ≡ Some f = k.number in cc

-- THE WORLD
pub record HoldsFresh (frames : ℕ) (pushed : Bool) (w : World) : Type 0 where
  pub disk : DiskSeen
  pub store : IsNew w.store frames [] (Some disk)
  pub sound : IsSoundStore w.store
  pub still : (number : ℕ) → IsStill (bay_at w.store.bays number)
  pub size : disk.size ≡ 7
  pub anon : HoldsOne pushed w.anon
  pub maps : w.maps ≡ holding_maps
  pub leads : w.hat.frames ≡ frames
  pub places : ℕ
  pub hat : w.hat.places ≡ replicate places None
  pub files : w.files ≡ no_files

module _ (frames : ℕ) (pushed : Bool) (w : World) (h : HoldsFresh frames pushed w) where
  unnamed : (k : ℕ) (n : PageName) → name_at w.store.names k ≡ Some n → ⊥
  unnamed k n is = let z : None ≡ Some n = sym (ap (λ (names : List (Option PageName)). name_at names k) h.store.names ∙ replicated frames None k) ∙ is in cc

  clear : (k : ℕ) → row_at w.store.rows k ≡ clear_row
  clear k = ap (λ (rows : List Row). row_at rows k) h.store.rows ∙ replicated frames clear_row k

  unloaded : (k : ℕ) → slice_index_or w.hat.places k None ≡ None
  unloaded k = ap (λ (places : List (Option Translation)). slice_index_or places k None) h.hat ∙ replicated h.places None k

  slots-seven : length w.anon.counts ≡ 7
  slots-seven = ap (λ (a : AnonSlotsSeen). length a.counts) h.anon.are

  pub holding-trial : IsTrialIn holding_spaces w
  holding-trial = record {
    memory = record {
      frames = record {
        sound = h.sound;
        unkept = λ k. ap (λ (r : Row). r.keeps) (clear k);
        unmodified = λ k on. ap (λ (r : Row). r.modified) (clear k);
        exist = λ k n is. absurd (unnamed k n is);
      };
      files = subst FilesFit (sym h.files) no-files;
      disks = subst (λ (f : FilesSeen). DisksFit w.store.bays f.disks (length w.anon.counts)) (sym h.files) (subst (λ (c : ℕ). DisksFit w.store.bays no_files.disks c) (sym slots-seven) (swap-disks frames w.store h.disk h.store h.size));
      pool = record {
        leads = h.leads ∙ sym (ap (λ (fs : List (Option (List ℕ))). length fs) h.store.frames ∙ counted frames (Some zeros));
        single = λ i j space page is _. absurd (let z : false ≡ true = sym (ap (pool.holds space page) (unloaded i)) ∙ is in cc);
      };
      translations = λ k t is. absurd (let z : None ≡ Some t = sym (unloaded k) ∙ is in cc);
      unpushed = λ k s is _ _. absurd (unnamed k (slot_name s) is);
      counts = subst (λ (ms : List (Option Map)). CountsFit w.anon ms) (sym h.maps) (holding-counts pushed w.anon h.anon);
      segments = subst (λ (n : ℕ). SegmentsFit n w.anon w.maps holding_spaces) (sym (ap (λ (f : FilesSeen). length f.files) h.files)) (subst (λ (ms : List (Option Map)). SegmentsFit 0 w.anon ms holding_spaces) (sym h.maps) (holding-fit pushed w.anon h.anon));
    };
    notes = record {
      stored = record {
        apart = (layout_law.table (map file_blocks w.files.files) (length w.anon.counts) (is_unpushed w.files w.anon)).apart (subst FilesFit (sym h.files) no-files).disjoint;
        each_note = λ seat note is. absurd (cc);
        each_frame = λ k seat is. absurd (let z : None ≡ Some seat = sym (ap (λ (r : Row). r.holder) (clear k)) ∙ is in cc);
        each_bay = λ number seat is. absurd (still-not number seat is);
        each_cached = λ k n on is. absurd (Contains-none k (subst (λ (l : List ℕ). Contains l k) h.store.cached on));
      };
      clean = λ k n is _. absurd (unnamed k n is);
      pushes = λ seat note is _ _. absurd (cc);
      gone = λ seat note is _ _. absurd (cc);
      sizes = λ seat note is. absurd (cc);
    };
  }
    where
      still-not : (number seat : ℕ) → bay_at w.store.bays number ≡ out seat → ⊥
      still-not number seat is = subst IsStill is (h.still number)

-- WHOSE PLACE IT IS.
pub holding-spot : (m i : ℕ) → m < 2 → i < 2 → spot_at holding_spaces 1 (holding_page m i) ≡ Some (holding_segment m, i)
holding-spot m i low lt = ap (λ (o : Option (List (Part Segment))). option_and_then (λ parts. piece_at parts (holding_page m i)) o) (get-insert_here (finite.empty {X = List (Part Segment)} {R = nat_cmp}) 1 holding_parts) ∙ by_page m i low lt
  where
    by_page : (m i : ℕ) → m < 2 → i < 2 → piece_at holding_parts (holding_page m i) ≡ Some (holding_segment m, i)
    by_page zero zero low lt = refl
    by_page zero (suc zero) low lt = refl
    by_page (suc zero) zero low lt = refl
    by_page (suc zero) (suc zero) low lt = refl
    by_page zero (suc (suc i)) low lt = absurd (omega (arith, lt))
    by_page (suc zero) (suc (suc i)) low lt = absurd (omega (arith, lt))
    by_page (suc (suc m)) i low lt = absurd (omega (arith, low))

pub holding-owns : (w : World) (m i : ℕ) → IsTrialIn holding_spaces w → m < 2 → i < 2 → OwnsAlone holding_spaces 1 (holding_page m i) m i (holding_segment m, i)
holding-owns w m i t low lt = places_law.alone (memory_of w holding_spaces) 1 (holding_page m i) m (holding_segment m, i) t.memory (holding-spot m i low lt) refl

-- a place is one of them where its page has no translation
pub holding-unloaded : {X Y : Type 0} (f : X → Y) (o : Option X) (found : Option Y) → found ≡ option_map f o → is_some found ≡ false → o ≡ None
holding-unloaded f None found e none = refl
holding-unloaded f (Some x) found e none = absurd (let z : true ≡ false = sym (ap (λ r. is_some r) e) ∙ none in cc)

-- A CHANGE OF MEMORY leaves a world that fits.
pub holding-changes : {after : Flat → Flat} {means : Flat → Flat → Type 0} (p : ℕ) (u v : World) → IsTrialIn holding_spaces u → TurnsMemory p (memory_of u holding_spaces) (memory_of v holding_spaces) after means → IsTrialIn holding_spaces v
holding-changes p u v t c = record { memory = c.memory; notes = c.notes no_notes t.notes }

-- the places of a map
pub holding-places : (w : World) (m : ℕ) → m < 2 → ((i : ℕ) → i < 2 → pool.translation_at w.hat.places 1 (holding_page m i) ≡ None) → OwnsPlaces w.hat.places holding_spaces 1 (2 * m + 1) m 0 2
holding-places w m low none = record {
  segment = holding_segment m;
  own = refl;
  here = λ j lt. let z : 0 + j ≡ j = omega arith in holding-spot m j low lt ∙ ap (λ (i : ℕ). Some (holding_segment m, i)) (sym z);
  unloaded = λ q from below.
      let e : 2 * m + 1 + (q - (2 * m + 1)) ≡ q = omega (arith, from) in
      ap (λ (a : ℕ). pool.translation_at w.hat.places 1 a) (sym e) ∙ none (q - (2 * m + 1)) (omega (arith, from, below));
}

-- both pages
pub holding-both : (w : World) (m : ℕ) → pool.translation_at w.hat.places 1 (holding_page m 0) ≡ None → pool.translation_at w.hat.places 1 (holding_page m 1) ≡ None → (i : ℕ) → i < 2 → pool.translation_at w.hat.places 1 (holding_page m i) ≡ None
holding-both w m a b zero lt = a
holding-both w m a b (suc zero) lt = b
holding-both w m a b (suc (suc i)) lt = absurd (omega (arith, lt))

-- THE PROCESS SHOWS AN OBJECT of zeros too.
abbrev object_parts : List (Part Segment)
object_parts = with_new_part object_part holding_parts

-- its three pages
object-page : (P : ℕ → Type 0) → P 5 → P 6 → P 7 → (q : ℕ) → 5 ≤ q → q < 5 + 3 → P q
object-page P a b c q low high = elim (cases_eq q 5) [
  | inl e ↦ subst P (sym e) a
  | inr x ↦ elim (cases_eq q 6) [ inl e ↦ subst P (sym e) b | inr y ↦ let e : 7 ≡ q = omega (arith, low, high, x, y) in subst P e c ]
]

-- the map that comes is the third
pub object-number : (number : ℕ) → IsUnused holding_maps number → number ≡ 2
object-number zero unused = absurd (let z : holding_map ≡ None = unused.absent in cc)
object-number (suc zero) unused = absurd (let z : holding_map ≡ None = unused.absent in cc)
object-number (suc (suc number)) unused = let next = unused.next in omega (arith, next)

pub object-trial : (w : World) → IsTrialIn holding_spaces w → w.anon ≡ holding_slots true → w.maps ≡ holding_maps → IsTrialIn object_spaces (with_zero_part (memory_of w holding_spaces) 1 holding_parts object_part).world
object-trial w t slots maps = record { memory = comes.memory; notes = comes.notes no_notes t.notes }
  where
    free : (q : ℕ) → 5 ≤ q → q < 5 + 3 → part_at holding_parts q ≡ None
    free q low high = object-page (λ q. part_at holding_parts q ≡ None) refl refl refl q low high

    size : length (holding_slots true).counts ≡ 7
    size = refl

    may : MayMakeZero (memory_of w holding_spaces) holding_parts object_part 0 2
    may = record {
      place = record { placed = record { behind = omega arith; some = omega arith; within = omega arith }; pages = refl; end = omega arith; within = refl; free = free };
      shared = refl;
      object = refl;
      own = refl;
      shown = refl;
      unnamed = ap (λ (zs : finite.FinMap nat_cmp ℕ). finite.get zs 0) holding-zeros ∙ finite.get-empty nat_cmp 0;
      unused = subst (λ (ms : List (Option Map)). IsUnused ms 2) (sym maps) (record { absent = refl; next = omega arith });
      room = subst (λ (a : AnonSlotsSeen). a.reserved + 3 ≤ length a.counts) (sym slots) (omega (arith, size));
    }

    comes : ChangesSegments 1 (memory_of w holding_spaces) (with_zero_part (memory_of w holding_spaces) 1 holding_parts object_part) (λ F. with_new_cells (with_zero_object F 0 3) 1 5 3 (segment_cell object_segment))
    comes = segment_rule.put_zero (memory_of w holding_spaces) 1 holding_parts object_part 0 2 t.memory (get-insert_here (finite.empty {X = List (Part Segment)} {R = nat_cmp}) 1 holding_parts) may

object-entries : finite.entries object_spaces ≡ (1, object_parts) ∷ []
object-entries = finite.entries-insert nat_cmp_total holding_spaces 1 object_parts ∙ ap (finite.put nat_cmp 1 object_parts) holding-entries

pub object-zero : finite.get (zero_maps object_spaces) 0 ≡ Some 2
object-zero =
    ap (λ (es : List (ℕ × List (Part Segment))). finite.get {R = nat_cmp} (finite.from_entries (flat_map (λ (ps : List (Part Segment)). filter_map (λ (x : Part Segment). zero_map x.piece) ps) (map (λ e. e.1) es))) 0) object-entries
    ∙ finite.get-from_entries nat_cmp_total ((0, 2) ∷ []) 0

-- no page shows it with a translation, where its own three have none
pub object-unloaded : (w : World) → IsTrialIn object_spaces w → pool.translation_at w.hat.places 1 5 ≡ None → pool.translation_at w.hat.places 1 6 ≡ None → pool.translation_at w.hat.places 1 7 ≡ None → IsUnloadedZero w.hat.places object_spaces 0 2
object-unloaded w t first second third = record {
  zero = object-zero;
  unloaded = λ p q x is shows.
      let at = places_law.last (memory_of w object_spaces) 1 5 2 object_parts object_part t.memory (get-insert_here holding_spaces 1 object_parts) refl refl held p q x is shows in
      ap (λ (a : ℕ). pool.translation_at w.hat.places a q) at.0 ∙ object-page (λ k. pool.translation_at w.hat.places 1 k ≡ None) first second third q at.1 at.2;
}
  where
    held : holders_of w.maps 2 ≡ 1
    held =
        t.memory.segments.holders 2
        ∙ ap (λ (es : List (ℕ × List (Part Segment))). sum_by (times_had 2) (flat_map (λ (ps : List (Part Segment)). map (λ (x : Part Segment). x.piece) ps) (map (λ e. e.1) es))) object-entries

pub object-changes : {after : Flat → Flat} {means : Flat → Flat → Type 0} (p : ℕ) (u v : World) → IsTrialIn object_spaces u → TurnsMemory p (memory_of u object_spaces) (memory_of v object_spaces) after means → IsTrialIn object_spaces v
object-changes p u v t c = record { memory = c.memory; notes = c.notes no_notes t.notes }
