-- What the opening has, from which its state fits.
use Rattle.std.proofs.Common.{◌≡◌, ℕ, zero, suc, ◌-◌, ◌*◌, ◌<◌, ◌≤◌, ◌^◌, min, Bool, true, false, cond, List, [], ◌∷◌, ◌++◌, length, map, replicate, Option, Some, None, refl, sym, ap, ◌∙◌, inl, inr, subst, arith}
use Rattle.std.specs.Prelude.{option_map, slice_index_or, slice_index, unwrap_or, All, IsSome, sum_by, Contains}
use Rattle.std.specs.Ordering.{nat_cmp}
use Rattle.std.specs.FinMap as finite
use Rattle.std.proofs.lemmas.List.Elements.{All-nil}
use Rattle.std.proofs.lemmas.Nat.{pow_pos}
use Rattle.page_store.proofs.page_lists.ListLemmas.{Contains-none}
use Rattle.page_store.specs.block_device.DiskSeen.{DiskSeen, IsBlock, AreBlocks, HasBlocks}
use Rattle.page_store.specs.page_hash.Names.{name_at, find}
use Rattle.page_store.specs.page_hash.declared.PageName.{PageName}
use Rattle.page_store.specs.page_lock.declared.Row.{Row}
use Rattle.page_store.specs.Bays.{BaySeen, missing, home, out, bay_at}
use Rattle.page_store.specs.Notes.{no_notes}
use Rattle.page_store.specs.StoreFits.{StoreFits}
use Rattle.page_store.specs.Value.{value, backing_value, value_in, content_in_bay, content_of}
use Rattle.page_store.specs.declared.place.Place.{Place}
use Rattle.page_store.proofs.LayoutLemmas.{layout_law}
use Rattle.anon_slots.specs.Slots.{AnonSlotsSeen, count_at}
use Rattle.anon_map.specs.Maps.{Map, holders_of}
use Rattle.page_store.specs.Layout.{slot_place}
use Rattle.flat_model.specs.vnode_files.Vnode.{VnodeSeen}
use Rattle.addr_space.specs.Space.{Part, IsInOrder}
use Rattle.hat_layer.specs.Pool.{holds}
use Rattle.flat_model.specs.vnode_files.Files.{vnode_at, block_count}
use Rattle.flat_model.specs.vnode_files.Vnode.{page_blocks}
use Rattle.flat_model.specs.Words.{IsPage}
use Rattle.flat_model.specs.Flat.{Flat, IsFlat}
use Rattle.flat_model.specs.Step.{is_bit_set, tails_cleared}
use Rattle.flat_model.proofs.ClearedTails.{cleared_tails_law}
use Rattle.vm_world.specs.World.{file_blocks, slot_name, is_unpushed, world_table, AllTell}
use Rattle.vm_world.specs.Segments.{Segment}
use Rattle.vm_world.specs.FlatMemory.{Memory, zero_maps}
use Rattle.vm_world.specs.CountsFit.{SegmentsFit, SegmentFits, CountsFit, ShowsZero, places_in, times_had, times_held}
use Rattle.vm_world.specs.MemoryFits.{MemoryFits}
use Rattle.vm_world.specs.NotesFit.{NotesFit}
use Rattle.vm_world.specs.State.{KernelState, is_top}
use Rattle.vm_world.specs.DiskPlaces.{faults_in}
use Rattle.vm_world.specs.HistoryFits.{HistoryFits, FaultsFit, CallsFit}
use Rattle.flat_model.specs.vm_types.declared.call.Entry.{Entry}
use Rattle.flat_model.specs.Counted.{top_count}
use Rattle.vm_world.specs.Opening.{IsOpeningMemory, IsOpening}
use Rattle.vm_world.proofs.FlatWhole.{HasPages, some-inj}
use Rattle.vm_world.proofs.PageNames.{page-cases, keeps-page, file-place, slot-place}
use Rattle.vm_world.proofs.Spaces.{EmptySpaces, empty-segments, empty-zeros, empty-reserved}
use Rattle.vm_world.proofs.StoredPages.{IsPage-stored}

pub unnamed-find : (names : List (Option PageName)) (n : PageName) → ((k : ℕ) → name_at names k ≡ None) → find names n ≡ None
unnamed-find [] n none = refl
unnamed-find (Some x ∷ more) n none = absurd (let z = none 0 in cc)
unnamed-find (None ∷ more) n none = ap (option_map suc) (unnamed-find more n (λ k. none (suc k)))

zero-at : (n k : ℕ) → slice_index (replicate n 0) k ≡ 0
zero-at zero k = refl
zero-at (suc n) zero = refl
zero-at (suc n) (suc k) = zero-at n k

module _ (m : Memory) (parents : List ℕ) (o : IsOpeningMemory m parents) where
  opening-stored : StoreFits m.world.store no_notes (world_table m.world)
  opening-stored = record {
    apart = (layout_law.table (map file_blocks m.world.files.files) (length m.world.anon.counts) (is_unpushed m.world.files m.world.anon)).apart o.files.disjoint;
    each_note = λ seat note is. absurd (cc);
    each_frame = λ frame seat is. absurd (let z : None ≡ Some seat = sym (ap (λ (r : Row). r.holder) (o.store.clear frame)) ∙ is in cc);
    each_bay = λ number seat is. absurd (o.store.still number seat is);
    each_cached = λ frame n on is. absurd (Contains-none frame (subst (λ (l : List ℕ). Contains l frame) o.store.uncached on));
  }

  empty-spaces : EmptySpaces m.spaces
  empty-spaces p parts is = by_top (is_top parents p) (sym (o.spaces p) ∙ is)
    where
      by_top : (b : Bool) → cond b (Some []) None ≡ Some parts → parts ≡ []
      by_top true e = let z : ◌≡◌ {A = Option (List (Part Segment))} (Some []) (Some parts) = e in cc
      by_top false e = absurd (let z : ◌≡◌ {A = Option (List (Part Segment))} None (Some parts) = e in cc)

  opening-segments : SegmentsFit (length m.world.files.files) m.world.anon m.world.maps m.spaces
  opening-segments = record {
    ordered = λ p parts is. subst (λ (ps : List (Part Segment)). IsInOrder 1 ps) (sym (empty-spaces p parts is)) tt;
    each = λ p parts is. subst (λ (ps : List (Part Segment)). All (SegmentFits (length m.world.files.files) m.world.maps) ps) (sym (empty-spaces p parts is)) (All-nil (SegmentFits (length m.world.files.files) m.world.maps));
    holders = λ number. ap (λ (ms : List (Option Map)). holders_of ms number) o.maps ∙ no_holders number ∙ sym (ap (sum_by (times_had number)) (empty-segments m.spaces empty-spaces));
    zeros = subst (λ (ss : List Segment). All (ShowsZero (zero_maps m.spaces)) ss) (sym (empty-segments m.spaces empty-spaces)) (All-nil (ShowsZero (zero_maps m.spaces)));
    apart = λ y z number is _. absurd (let e : None ≡ Some number = sym (finite.get-empty nat_cmp y) ∙ sym (ap (λ (zs : finite.FinMap nat_cmp ℕ). finite.get zs y) (empty-zeros m.spaces empty-spaces)) ∙ is in cc);
    once = λ y number place slot is _. absurd (let e : None ≡ Some number = sym (finite.get-empty nat_cmp y) ∙ sym (ap (λ (zs : finite.FinMap nat_cmp ℕ). finite.get zs y) (empty-zeros m.spaces empty-spaces)) ∙ is in cc);
    reserved = empty-reserved m.world.maps m.spaces empty-spaces ∙ sym (ap (λ (a : AnonSlotsSeen). a.reserved) o.anon);
  }
    where
      no_holders : (number : ℕ) → holders_of [] number ≡ 0
      no_holders number = refl

  opening-counts : CountsFit m.world.anon m.world.maps
  opening-counts = record {
    sound = o.slots;
    counts = λ slot. ap (λ (a : AnonSlotsSeen). count_at a slot) o.anon ∙ zero-at (length m.world.anon.counts) slot ∙ sym (ap (λ (ms : List (Option Map)). times_held ms slot) o.maps);
    places = ap (λ (ms : List (Option Map)). sum_by (λ x. length (places_in x)) ms) o.maps ∙ sym (ap (λ (a : AnonSlotsSeen). a.reserved) o.anon);
  }

  no-holds : (place space page : ℕ) → holds space page (slice_index_or m.world.hat.places place None) ≡ false
  no-holds place space page = ap (holds space page) (o.hat place)

  pub opening-memory : MemoryFits m
  opening-memory = record {
    frames = record {
      sound = o.store.sound;
      unkept = λ frame. ap (λ (r : Row). r.keeps) (o.store.clear frame);
      unmodified = λ frame on. ap (λ (r : Row). r.modified) (o.store.clear frame);
      exist = λ frame name is. absurd (let z : None ≡ Some name = sym (o.store.unnamed frame) ∙ is in cc);
    };
    files = o.files;
    disks = o.disks;
    pool = record { leads = o.leads; single = λ i j space page is _. absurd (let z : false ≡ true = sym (no-holds i space page) ∙ is in cc) };
    translations = λ place t is. absurd (let z : None ≡ Some t = sym (o.hat place) ∙ is in cc);
    unpushed = λ frame slot is _ _. absurd (let z : None ≡ Some (slot_name slot) = sym (o.store.unnamed frame) ∙ is in cc);
    counts = opening-counts;
    segments = opening-segments;
  }

  pub opening-notes : NotesFit m.world no_notes
  opening-notes = record {
    stored = opening-stored;
    clean = λ frame name is _. absurd (let z : None ≡ Some name = sym (o.store.unnamed frame) ∙ is in cc);
    pushes = λ seat note is _ _. absurd (cc);
    gone = λ seat note is _ _. absurd (cc);
    sizes = λ seat note is. absurd (cc);
  }

  -- what no frame holds has the value that its disk has
  value-backing_value : (name : PageName) → value m.world.store no_notes (world_table m.world) name ≡ backing_value m.world.store no_notes (world_table m.world name)
  value-backing_value name = ap (λ (f : Option ℕ). value_in f m.world.store no_notes (world_table m.world name)) (unnamed-find m.world.store.names name o.store.unnamed)

  -- a block of a disk that tells is a block
  told-block : (number block : ℕ) (blocks : List (List ℕ)) → ((d : DiskSeen) → bay_at m.world.store.bays number ≡ home d → block < d.size) → content_of m.world.store no_notes number ≡ Some blocks → IsBlock (slice_index_or blocks block [])
  told-block number block blocks within is = by_bay (bay_at m.world.store.bays number) refl is
    where
      by_bay : (b : BaySeen) → bay_at m.world.store.bays number ≡ b → content_in_bay b no_notes ≡ Some blocks → IsBlock (slice_index_or blocks block [])
      by_bay missing e is = absurd (cc)
      by_bay (out seat) e is = absurd (o.store.still number seat e)
      by_bay (home d) e is =
          let whole : HasBlocks d.content d.size = o.store.sound.whole number d e in
          let at : (length blocks ≡ d.size) × AreBlocks blocks = subst (λ (c : Option (List (List ℕ))). HasBlocks c d.size) is whole in
          let lt = within d e in
          let len = at.0 in
          at.1 block (omega (arith, lt, len))

  pub opening-pages : AllTell m.world no_notes → HasPages m.world no_notes
  opening-pages tell name is = subst IsPage (sym (ap (λ (b : Bool). cond b (value m.world.store no_notes (world_table m.world) name) []) is ∙ value-backing_value name)) (elim (page-cases m.world.files m.world.anon name is) [
    | inl s ↦
        let same : slot_name name.page ≡ name = λ i. record { object = sym s.0 i; page = name.page } in
        let place : world_table m.world name ≡ slot_place name.page (is_unpushed m.world.files m.world.anon (slot_name name.page)) =
        ap (world_table m.world) (sym same) ∙ slot-place m.world.files m.world.anon name.page o.files s.1 in
        let low = s.1 in
        IsPage-stored m.world.store no_notes (world_table m.world name) (subst (λ (x : Place). x.valid ≤ 4096) (sym place) (omega arith)) (tell name is)
        (λ blocks told. subst (λ (x : Place). IsBlock (slice_index_or blocks x.block [])) (sym place)
        (told-block 8 name.page blocks (λ d at. let size = (o.disks.sizes 8 d at).swap refl in omega (arith, size, low)) (ap (λ (x : Place). content_of m.world.store no_notes x.disk) (sym place) ∙ told)))
    | inr f ↦
        let v : VnodeSeen = vnode_at m.world.files name.object in
        let place = file-place m.world.files m.world.anon name.object name.page f.1 f.2 in
        let keeps = keeps-page m.world.files name.object name.page f.1 f.2 in
        let most : min (v.info.length - name.page * 4096) 4096 ≤ 4096 = omega arith in
        IsPage-stored m.world.store no_notes (world_table m.world name) (subst (λ (x : Place). x.valid ≤ 4096) (sym place) most) (tell name is)
        (λ blocks told. subst (λ (x : Place). IsBlock (slice_index_or blocks x.block [])) (sym place)
        (told-block v.info.disk (slice_index_or (page_blocks v.info.extents) name.page 0) blocks (λ d at. in_size v.info.disk d (slice_index_or (page_blocks v.info.extents) name.page 0) at (o.files.set name.object f.1) (o.files.high name (file_blocks v) (slice_index_or (page_blocks v.info.extents) name.page 0) keeps))
        (ap (λ (x : Place). content_of m.world.store no_notes x.disk) (sym place) ∙ told)))
  ])
    where
      in_size : (number : ℕ) (d : DiskSeen) (block : ℕ) → bay_at m.world.store.bays number ≡ home d → IsSome (finite.get m.world.files.disks number) → block < block_count m.world.files.disks number → block < d.size
      in_size number d block at set below = by_count (finite.get m.world.files.disks number) refl set below
        where
          by_count : (c : Option ℕ) → finite.get m.world.files.disks number ≡ c → IsSome c → block < unwrap_or c 0 → block < d.size
          by_count None e set below = absurd (omega (arith, below))
          by_count (Some blocks) e set below = let size = (o.disks.sizes number d at).file blocks e in omega (arith, size, below)

bit-zero : (f : ℕ) → is_bit_set 0 f ≡ false
bit-zero zero = refl
bit-zero (suc f) = bit-zero f

pub above-zero : (n : ℕ) → 0 < 2 ^ n
above-zero n = pow_pos n

-- no tail is pending where the mask is 0
pub none-pending : (F : Flat) → tails_cleared F (is_bit_set 0) ≡ F
none-pending F = cleared_tails_law.alike F (is_bit_set 0) (λ f. false) (λ f lt. bit-zero f) ∙ cleared_tails_law.none F

pub opening-history : (F : Flat) (H : List Entry) (pending : ℕ) → IsFlat F → H ≡ [] → pending ≡ 0 → HistoryFits F H pending F
opening-history F H pending whole empty none = subst (λ (h : List Entry). HistoryFits F h pending F) (sym empty) (subst (λ (n : ℕ). HistoryFits F [] n F) (sym none) (record {
  legal = record { steps = tt; syncs = λ k e is. absurd (cc); parts = tt };
  whole = whole;
  shows = sym (none-pending F);
  bits = above-zero (length F.files);
}))

pub opening-faults : (s : KernelState) → IsOpening s → FaultsFit s.history s.memory.world.store.bays no_notes
opening-faults s o = subst (λ (h : List Entry). FaultsFit h s.memory.world.store.bays no_notes) (sym o.history) (record {
  counted = record { risen = λ k e disk before after is _. absurd (cc); ordered = λ j k d e disk b after before a lt is _ _ _. absurd (cc) };
  reached = λ k e disk before after is _. absurd (cc);
  most = λ disk count is. by_bay disk count (bay_at s.memory.world.store.bays disk) refl is;
})
  where
    by_bay : (disk count : ℕ) (b : BaySeen) → bay_at s.memory.world.store.bays disk ≡ b → faults_in b no_notes ≡ Some count → count ≤ top_count
    by_bay disk count missing e is = absurd (cc)
    by_bay disk count (out seat) e is = absurd (cc)
    by_bay disk count (home d) e is = subst (λ (n : ℕ). n ≤ top_count) (some-inj d.faults count is) (o.memory.store.most disk d e)

pub opening-calls : (s : KernelState) → IsOpening s → CallsFit s.history s.calls s.syncs
opening-calls s o = subst (λ (h : List Entry). CallsFit h s.calls s.syncs) (sym o.history) (record {
  ends = λ front rest e is. absurd (no_entry front rest e is);
  files = λ f seat. ((λ is. absurd (let z : None ≡ Some seat = sym (o.calls f) ∙ is in cc)), (λ is. absurd is));
  starts = λ seat b is. absurd (let z : None ≡ Some b = sym (o.syncs seat) ∙ is in cc);
})
  where
    no_entry : (front rest : List Entry) (e : Entry) → [] ≡ front ++ e ∷ rest → ⊥
    no_entry [] rest e is = cc
    no_entry (x ∷ front) rest e is = cc
