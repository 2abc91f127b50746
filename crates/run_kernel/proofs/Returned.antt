-- The disks that come back from a kernel that is closed.
use Rattle.vm_core.proofs.page_store.TransferLemmas.{home-within as home-below}
use Rattle.std.proofs.Common.{◌≡◌, ◌≢◌, ℕ, zero, suc, ◌<◌, ◌≤◌, List, [], ◌∷◌, length, Option, Some, None, refl, sym, ap, ◌∙◌, ◌⊎◌, inl, inr, subst, arith}
use Rattle.std.specs.Prelude.{All, IfSome, IfNone, IsSome, IsTrue, MatchOption, is_some, option_map, slice_get, slice_index, slice_index_or}
use Rattle.std.specs.Ordering.{nat_cmp}
use Rattle.std.specs.FinMap as finite
use Rattle.std.proofs.lemmas.List.{length-map}
use Rattle.std.proofs.lemmas.Bool.{cases_eq}
use Rattle.std.proofs.lemmas.Option.{none-some, slice_get_within, slice_get-get_or}
use Rattle.volume_files.specs.block_device.DiskSeen.{DiskSeen, HasBlocks}
use Rattle.volume_files.specs.block_device.declared.disk_fault.DiskFault.{DiskFault}
use Rattle.vm_core.specs.page_hash.declared.PageName.{PageName}
use Rattle.vm_core.specs.page_store.Bays.{BaySeen, missing, home, out, bay_at, bay_of, disk_in, home_faults, no_disk, IsStill}
use Rattle.vm_core.specs.page_store.Notes.{no_notes}
use Rattle.vm_core.specs.page_store.declared.place.Place.{Place}
use Rattle.vm_core.specs.page_store.Value.{tells, content_in_bay}
use Rattle.volume_files.specs.vm_types.declared.call.Entry.{Entry}
use Rattle.volume_files.specs.vm_types.declared.call.Reply.TheVariants.{Io}
use Rattle.volume_files.specs.vnode_files.Files.{FilesSeen, vnode_at}
use Rattle.volume_files.specs.vnode_files.Layout.{disk_of_file}
use Rattle.volume_files.specs.vnode_files.Grow.{page_count}
use Rattle.volume_files.specs.vnode_files.Vnode.{VnodeSeen, IsSoundVnode, no_vnode}
use Rattle.volume_files.specs.flat_model.Flat.{Flat}
use Rattle.vm_core.specs.vm_world.DiskPlaces.{FixedOfDisk, disk_fixed, faults_in, seen_in}
use Rattle.vm_core.specs.vm_world.Events.{IsSince}
use Rattle.vm_core.specs.vm_world.MemoryFits.{MemoryFits}
use Rattle.vm_core.specs.vm_world.NotesFit.{NotesFit}
use Rattle.vm_core.specs.vm_world.Opening.{no_seats}
use Rattle.vm_core.specs.vm_world.Segments.{Spaces}
use Rattle.vm_core.specs.vm_world.State.{KernelState, Fixed}
use Rattle.vm_core.specs.vm_world.StateFits.{StateFits}
use Rattle.vm_core.specs.vm_world.World.{World, AllTell, world_table, slot_name}
use Rattle.vm_core.proofs.vm_world.PageNames.{index-of, page-cases, file-place, slot-place}
use Rattle.vm_core.proofs.vm_world.StateSteps.{disk_there}
use Rattle.vm_core.proofs.vm_world.FlatWhole.{some-inj}
use Rattle.vm_core.proofs.vm_world.Told.{event_law}
use Rattle.vm_core.specs.kernel_close.Closing.{AreDisksOf}
use Rattle.vm_core.specs.kernel_close.Finish.{disk_at, disks_of, HoldAllFiles, IsLastFault, LeaveAllPages, KeepsDisk, KeepDisks, KeepsOtherBlocks, KeepRecords}
use Rattle.vm_core.specs.kernel_close.LeftMarks.{LeavesMarks}
use Rattle.vm_core.proofs.kernel_close.Fills.{are-kept, number-of}
use Rattle.vm_core.proofs.kernel_close.Finishes.{still, disk-in-order, are-disks}
use Rattle.volume_files.specs.Attached.{bare_disks}
use Rattle.volume_files.specs.Handed.{HaveTold, IsSwapFor, swap_members}
use Rattle.run_kernel.specs.Played.{LeftSeen, IsDiskOf, DisksCameBack, IsClosingFault, KernelLeaves, SwapCameBack}
use Rattle.volume_files.specs.stored_files.Written.{HaveDisks}
use Rattle.volume_files.proofs.DiskCounts.{same-maps}

-- What a kernel in this state leaves as it is closed.
pub record Closes (t : KernelState) (l : LeftSeen) : Type 0 where
  pub entries : l.history.entries ≡ t.history
  pub counts : (disk : ℕ) → slice_index_or l.history.faults disk None ≡ home_faults (bay_at t.memory.world.store.bays disk)
  pub closed : IfNone l.fault (AllTell t.memory.world no_notes → HoldAllFiles t.memory.world l.disks)
  pub fault : IfSome l.fault (IsLastFault (disks_of t.memory.world) l.disks)
  pub left : IfSome l.fault (λ fault. AllTell t.memory.world no_notes → LeaveAllPages t.memory.world (disks_of t.memory.world) l.disks fault.disk)
  pub marks : (F : Flat) → StateFits F t no_seats → AllTell t.memory.world no_notes → LeavesMarks F t l.disks l.fault
  pub disks : KeepDisks t.memory.world.files (disks_of t.memory.world) l.disks
  pub swap : MatchOption l.swap (bay_at t.memory.world.store.bays 8 ≡ missing) (λ disk. bay_at t.memory.world.store.bays 8 ≡ home disk)
  pub files : KeepRecords t.memory.world.files l.files
  pub whole : (i : ℕ) → HasBlocks (disk_at l.disks i).1.content (disk_at l.disks i).1.size
  pub sound : All IsSoundVnode l.files.files
  pub few : length l.files.files ≤ 64

-- A DISK THAT IS LISTED is home.
pub home-there : (w : World) (spaces : Spaces) (i : ℕ) → MemoryFits (record { world = w; spaces = spaces }) → NotesFit w no_notes → i < length (disks_of w)
    → bay_at w.store.bays (disk_at (disks_of w) i).0 ≡ home (disk_at (disks_of w) i).1
home-there w spaces i fits nf lt =
    let long = length-map {B = ℕ × DiskSeen} w.store.order (λ (number : ℕ). (number, disk_in (bay_at w.store.bays number))) in
    let low : i < length w.store.order = omega (arith, lt, long) in
    let at = disk-in-order w.store.bays w.store.order i low in
    let number : ℕ = slice_index w.store.order i in
    subst (λ (d : ℕ × DiskSeen). bay_at w.store.bays d.0 ≡ home d.1) (sym at) (by_bay (bay_at w.store.bays number) (still w nf number) (fits.frames.sound.order.there i low))
  where
    by_bay : (b : BaySeen) → IsStill b → b ≢ missing → b ≡ home (disk_in b)
    by_bay missing is there = absurd (there refl)
    by_bay (home d) is there = refl
    by_bay (out seat) is there = absurd is

-- the element at a place
pub at-place : (L : List (ℕ × DiskSeen)) (i : ℕ) (d : ℕ × DiskSeen) → slice_get L i ≡ Some d → disk_at L i ≡ d
at-place L i d at = index-of L i (0, no_disk) d at

get-place : (L : List (ℕ × DiskSeen)) (i : ℕ) → i < length L → slice_get L i ≡ Some (disk_at L i)
get-place L i lt = slice_get-get_or L i (0, no_disk) lt

-- a swap disk that came back with its size serves the slots as it did
swap-back : (slots : ℕ) (old new : Option DiskSeen) → SwapCameBack (bay_of old) new → IsSwapFor slots old → IsSwapFor slots new
swap-back slots None None same serves = serves
swap-back slots None (Some d) same serves = absurd (none-some (disk_fixed d) (sym same))
swap-back slots (Some x) None same serves = absurd (none-some (disk_fixed x) same)
swap-back slots (Some x) (Some d) same serves =
    let fixed = some-inj (disk_fixed d) (disk_fixed x) same in
    (serves.0, ap (λ (f : FixedOfDisk). f.size) fixed ∙ serves.1, ap (λ (f : FixedOfDisk). f.kind.members) fixed ∙ serves.2)

pub swap-serves-still : (slots : ℕ) (swap : Option DiskSeen) (F : Flat) (s : KernelState) (l : LeftSeen) → bay_at s.memory.world.store.bays 8 ≡ bay_of swap → KernelLeaves F s l
    → IsSwapFor slots swap → IsSwapFor slots l.swap
swap-serves-still slots swap F s l at left serves = swap-back slots swap l.swap (subst (λ (b : BaySeen). SwapCameBack b l.swap) at left.swap) serves

-- and it is as many disks
swap-as-many : (old new : Option DiskSeen) → SwapCameBack (bay_of old) new → swap_members new ≡ swap_members old
swap-as-many None None same = refl
swap-as-many None (Some d) same = absurd (none-some (disk_fixed d) (sym same))
swap-as-many (Some x) None same = absurd (none-some (disk_fixed x) same)
swap-as-many (Some x) (Some d) same = ap (λ (f : FixedOfDisk). f.kind.members) (some-inj (disk_fixed d) (disk_fixed x) same)

pub swap-still : (swap : Option DiskSeen) (F : Flat) (s : KernelState) (l : LeftSeen) → bay_at s.memory.world.store.bays 8 ≡ bay_of swap → KernelLeaves F s l → swap_members l.swap ≡ swap_members swap
swap-still swap F s l at left = swap-as-many swap l.swap (subst (λ (b : BaySeen). SwapCameBack b l.swap) at left.swap)

module _ (F : Flat) (s t : KernelState) (l : LeftSeen) (since : IsSince s t no_seats) (before : StateFits F s no_seats) (c : Closes t l) where
  after : StateFits F t no_seats
  after = since.fits F before

  abbrev old : List (ℕ × DiskSeen)
  old = disks_of t.memory.world

  abbrev start : List (ℕ × DiskSeen)
  start = disks_of s.memory.world

  order-same : t.memory.world.store.order ≡ s.memory.world.store.order
  order-same = ap (λ (f : Fixed). f.core.order) since.fixed

  files-same : t.memory.world.files.disks ≡ s.memory.world.files.disks
  files-same = ap (λ (f : Fixed). f.disks) since.fixed

  slots-same : length t.memory.world.anon.counts ≡ length s.memory.world.anon.counts
  slots-same = ap (λ (f : Fixed). f.slots) since.fixed

  pub long-old : length old ≡ length start
  long-old =
      let a = length-map {B = ℕ × DiskSeen} t.memory.world.store.order (λ (number : ℕ). (number, disk_in (bay_at t.memory.world.store.bays number))) in
      let b = length-map {B = ℕ × DiskSeen} s.memory.world.store.order (λ (number : ℕ). (number, disk_in (bay_at s.memory.world.store.bays number))) in
      let e = ap (λ (o : List ℕ). length o) order-same in
      a ∙ e ∙ sym b

  long-new : length l.disks ≡ length old
  long-new = c.disks.count

  pub number-same : (i : ℕ) → i < length old → (disk_at old i).0 ≡ (disk_at start i).0
  number-same i lt =
      let a = length-map {B = ℕ × DiskSeen} t.memory.world.store.order (λ (number : ℕ). (number, disk_in (bay_at t.memory.world.store.bays number))) in
      let b = length-map {B = ℕ × DiskSeen} s.memory.world.store.order (λ (number : ℕ). (number, disk_in (bay_at s.memory.world.store.bays number))) in
      let x : i < length t.memory.world.store.order = omega (arith, lt, a) in
      let y : i < length s.memory.world.store.order = let e = long-old in omega (arith, lt, b, e) in
      ap (λ (d : ℕ × DiskSeen). d.0) (disk-in-order t.memory.world.store.bays t.memory.world.store.order i x)
      ∙ ap (λ (o : List ℕ). slice_index o i) order-same ∙ sym (ap (λ (d : ℕ × DiskSeen). d.0) (disk-in-order s.memory.world.store.bays s.memory.world.store.order i y))

  pub home-after : (i : ℕ) → i < length old → bay_at t.memory.world.store.bays (disk_at old i).0 ≡ home (disk_at old i).1
  home-after i lt = home-there t.memory.world t.memory.spaces i after.memory after.notes lt

  -- a disk that came back, and what it was as the kernel was closed
  pub within-new : (i : ℕ) (d : ℕ × DiskSeen) → slice_get l.disks i ≡ Some d → i < length old
  within-new i d at = let lt = slice_get_within l.disks i d at in let e = long-new in omega (arith, lt, e)

  pub kept : (i : ℕ) (d : ℕ × DiskSeen) → slice_get l.disks i ≡ Some d → KeepsDisk t.memory.world.files (disk_at old i) d
  kept i d at = subst (KeepsDisk t.memory.world.files (disk_at old i)) (at-place l.disks i d at) (c.disks.each i (within-new i d at))

  -- THE COUNTS
  pub counts-left : (i : ℕ) (d : ℕ × DiskSeen) → slice_get l.disks i ≡ Some d → (count : ℕ) × (slice_index_or l.history.faults d.0 None ≡ Some count) × (count ≤ d.1.faults)
  counts-left i d at =
      let k = kept i d at in
      let here = home-after i (within-new i d at) in (
        (disk_at old i).1.faults,
        ap (λ (n : ℕ). slice_index_or l.history.faults n None) k.number ∙ c.counts (disk_at old i).0 ∙ ap home_faults here,
        k.faults,
      )

  -- THE SWAP DISK comes back as it was
  swap-home : (d : DiskSeen) → bay_at t.memory.world.store.bays 8 ≡ home d → l.swap ≡ Some d
  swap-home d here = by_swap l.swap c.swap
    where
      by_swap : (o : Option DiskSeen) → MatchOption o (bay_at t.memory.world.store.bays 8 ≡ missing) (λ disk. bay_at t.memory.world.store.bays 8 ≡ home disk) → o ≡ Some d
      by_swap None none = absurd (let z : missing ≡ home d = sym none ∙ here in cc)
      by_swap (Some x) is = let z : home x ≡ home d = sym is ∙ here in let e : x ≡ d = cc in ap Some e

  -- A DISK THAT IS HOME comes back, with its count at least
  comes-back : (number : ℕ) (d : DiskSeen) → bay_at t.memory.world.store.bays number ≡ home d → (x : DiskSeen) × IsDiskOf l.disks l.swap number x × (d.faults ≤ x.faults)
  comes-back number d here = elim (cases_eq number 8) [
    | inl eight ↦ (d, inr (eight, swap-home d (ap (bay_at t.memory.world.store.bays) (sym eight) ∙ here)), omega arith)
    | inr other ↦
        let below = home-below t.memory.world.store.bays number d here in
        let nine = after.memory.frames.sound.bays in
        let there : bay_at t.memory.world.store.bays number ≢ missing = λ none. let z : missing ≡ home d = sym none ∙ here in cc in
        let listed = after.memory.frames.sound.order.all number (omega (arith, below, nine, other)) there in
        let i = listed.0 in
        let long = length-map {B = ℕ × DiskSeen} t.memory.world.store.order (λ (n : ℕ). (n, disk_in (bay_at t.memory.world.store.bays n))) in
        let low : i < length old = let lt = listed.1 in omega (arith, long, lt) in
        let number-is : (disk_at old i).0 ≡ number = ap (λ (x : ℕ × DiskSeen). x.0) (disk-in-order t.memory.world.store.bays t.memory.world.store.order i listed.1) ∙ listed.2 in
        let same : (disk_at old i).1 ≡ d = home-same (disk_at old i).1 d (sym (home-after i low) ∙ ap (bay_at t.memory.world.store.bays) number-is ∙ here) in
        let k = c.disks.each i low in
        let more = k.faults in
        let count = ap (λ (x : DiskSeen). x.faults) same in (
          (disk_at l.disks i).1,
          inl (
            i,
            get-place l.disks i (let e = long-new in omega (arith, low, e)) ∙ ap (λ (n : ℕ). Some (n, (disk_at l.disks i).1))
                (k.number ∙ number-is),
          ),
          omega (arith, more, count),
        )
  ]
    where
      home-same : (x y : DiskSeen) → home x ≡ home y → x ≡ y
      home-same x y is = cc

  pub reached-left : (k : ℕ) (e : Entry) (number low high : ℕ) → slice_get l.history.entries k ≡ Some e → e.reply ≡ Io number low high
      → (count : ℕ) × (slice_index_or l.history.faults number None ≡ Some count) × (high ≤ count) × ((d : DiskSeen) × IsDiskOf l.disks l.swap number d × (count ≤ d.faults))
  reached-left k e number low high at reply =
      let r = event_law.counted F t no_seats k e number low high after (sym (ap (λ (H : List Entry). slice_get H k) c.entries) ∙ at) reply in
      by_bay (bay_at t.memory.world.store.bays number) refl r.count r.there r.enough
    where
      by_bay : (b : BaySeen) → bay_at t.memory.world.store.bays number ≡ b → (count : ℕ) → faults_in b no_notes ≡ Some count → high ≤ count
          → (told : ℕ) × (slice_index_or l.history.faults number None ≡ Some told) × (high ≤ told) × ((d : DiskSeen) × IsDiskOf l.disks l.swap number d × (told ≤ d.faults))
      by_bay missing is count there enough = absurd (cc)
      by_bay (out seat) is count there enough = absurd (cc)
      by_bay (home d) is count there enough =
          let same : d.faults ≡ count = some-inj d.faults count there in
          (d.faults, c.counts number ∙ ap home_faults is, omega (arith, same, enough), comes-back number d is)

  -- the swap disk's count
  pub swap-count : slice_index_or l.history.faults 8 None ≡ option_map (λ (d : DiskSeen). d.faults) l.swap
  swap-count = c.counts 8 ∙ by_swap l.swap c.swap
    where
      by_swap : (o : Option DiskSeen) → MatchOption o (bay_at t.memory.world.store.bays 8 ≡ missing) (λ disk. bay_at t.memory.world.store.bays 8 ≡ home disk)
          → home_faults (bay_at t.memory.world.store.bays 8) ≡ option_map (λ (d : DiskSeen). d.faults) o
      by_swap None none = ap home_faults none
      by_swap (Some d) is = ap home_faults is

  -- THE FAULT
  pub fault-left : IfSome l.fault (IsClosingFault l)
  fault-left = by_fault l.fault c.fault
    where
      by_fault : (o : Option DiskFault) → IfSome o (IsLastFault old l.disks) → IfSome o (IsClosingFault l)
      by_fault None last = tt
      by_fault (Some f) last =
          let i = last.0 in
          let lt = last.1 in
          let since = last.2 in
          record {
            disk = disk_at l.disks i;
            there = (i, get-place l.disks i (let e = long-new in omega (arith, lt, e)));
            count = (disk_at old i).1.faults;
            told = ap (λ (n : ℕ). slice_index_or l.history.faults n None) since.disk ∙ c.counts (disk_at old i).0 ∙ ap home_faults (home-after i lt);
            fault = record { number = since.disk ∙ sym (c.disks.each i lt).number; risen = f.risen; since = since.since; last = since.after };
          }

  -- THE SIZES, where the disks were the files'
  size-same : (files : FilesSeen) → HaveDisks files start → s.memory.world.files ≡ files → (i : ℕ) → i < length old → (disk_at old i).1.size ≡ (disk_at start i).1.size
  size-same files have placed i lt =
      let inside : i < length start = let e = long-old in omega (arith, lt, e) in
      let set : finite.get files.disks (disk_at start i).0 ≡ Some (disk_at start i).1.size = have.sizes i (disk_at start i) (get-place start i inside) in
      (after.memory.disks.sizes (disk_at old i).0 (disk_at old i).1 (home-after i lt)).file (disk_at start i).1.size
      (ap (λ (m : finite.FinMap nat_cmp ℕ). finite.get m (disk_at old i).0) (files-same ∙ ap (λ (g : FilesSeen). g.disks) placed) ∙ ap (finite.get files.disks) (number-same i lt) ∙ set)

  -- THE KINDS, which no event changes, and whether a disk tells
  home-before : (i : ℕ) → i < length start → bay_at s.memory.world.store.bays (disk_at start i).0 ≡ home (disk_at start i).1
  home-before i lt = home-there s.memory.world s.memory.spaces i before.memory before.notes lt

  fixed-same : (i : ℕ) → i < length old → disk_fixed (disk_at old i).1 ≡ disk_fixed (disk_at start i).1
  fixed-same i lt =
      let inside : i < length start = let e = long-old in omega (arith, lt, e) in
      let now : disk_there t no_seats (disk_at old i).0 ≡ Some (disk_fixed (disk_at old i).1) = ap (λ (b : BaySeen). seen_in disk_fixed b no_notes) (home-after i lt) in
      let was : disk_there s no_seats (disk_at start i).0 ≡ Some (disk_fixed (disk_at start i).1) = ap (λ (b : BaySeen). seen_in disk_fixed b no_notes) (home-before i inside) in
      some-inj (disk_fixed (disk_at old i).1) (disk_fixed (disk_at start i).1) (sym now ∙ since.disks (disk_at old i).0 ∙ ap (disk_there s no_seats) (number-same i lt) ∙ was)

  told-before : (a b : Option (List (List ℕ))) (number : ℕ) → KeepsOtherBlocks t.memory.world.files number a b → IsSome b → IsSome a
  told-before None None number keeps some = some
  told-before None (Some y) number keeps some = absurd keeps
  told-before (Some x) b number keeps some = refl

  kind-same : (i : ℕ) → i < length old → (disk_at old i).1.kind ≡ (disk_at start i).1.kind
  kind-same i lt = ap (λ (f : FixedOfDisk). f.kind) (fixed-same i lt)

  pub disks-left : (files : FilesSeen) → HaveDisks files start → s.memory.world.files ≡ files → DisksCameBack start l.disks
  disks-left files have placed = record {
    count = long-new ∙ long-old;
    numbers = same-maps (λ (d : ℕ × DiskSeen). d.0) (λ (d : ℕ × DiskSeen). d.0) l.disks start (long-new ∙ long-old) (λ i d e at is.
        (kept i d at).number ∙ number-same i (within-new i d at) ∙ ap (λ (x : ℕ × DiskSeen). x.0) (at-place start i e is));
    sizes = same-maps (λ (d : ℕ × DiskSeen). d.1.size) (λ (d : ℕ × DiskSeen). d.1.size) l.disks start (long-new ∙ long-old) (λ i d e at is.
        (kept i d at).size ∙ size-same files have placed i (within-new i d at) ∙ ap (λ (x : ℕ × DiskSeen). x.1.size) (at-place start i e is));
    kinds = same-maps (λ (d : ℕ × DiskSeen). d.1.kind) (λ (d : ℕ × DiskSeen). d.1.kind) l.disks start (long-new ∙ long-old) (λ i d e at is.
        (kept i d at).kind ∙ kind-same i (within-new i d at) ∙ ap (λ (x : ℕ × DiskSeen). x.1.kind) (at-place start i e is));
    told = λ i d e at is some.
        let was = told-before (disk_at old i).1.content e.1.content (disk_at old i).0 (kept i e is).blocks some in
        subst (λ (x : ℕ × DiskSeen). IsSome x.1.content) (at-place start i d at) (sym (ap (λ (f : FixedOfDisk). f.tells) (fixed-same i (within-new i e is))) ∙ was);
  }

  -- THE SWAP DISK has its size
  pub swap-left : SwapCameBack (bay_at s.memory.world.store.bays 8) l.swap
  swap-left = by_swap l.swap c.swap ∙ since.disks 8
    where
      by_swap : (o : Option DiskSeen) → MatchOption o (bay_at t.memory.world.store.bays 8 ≡ missing) (λ disk. bay_at t.memory.world.store.bays 8 ≡ home disk)
          → option_map disk_fixed o ≡ disk_there t no_seats 8
      by_swap None none = sym (ap (λ (b : BaySeen). seen_in disk_fixed b no_notes) none)
      by_swap (Some d) here = sym (ap (λ (b : BaySeen). seen_in disk_fixed b no_notes) here)

  -- THE DISKS OF THE FILES
  pub are-left : AreDisksOf l.files l.disks
  are-left = are-kept t.memory.world.files l.files old l.disks c.files (λ f lt. c.sound f no_vnode lt) c.disks (are-disks t.memory.world t.memory.spaces after.memory after.notes)

  pub have-left : (files : FilesSeen) → HaveDisks files start → s.memory.world.files ≡ files → HaveDisks l.files l.disks
  have-left files have placed = record {
    there = λ k v at.
        let lt = slice_get_within l.files.files k v at in
        let is = are-left.there k lt in
        let number : (disk_at l.disks is.0).0 ≡ v.info.disk = is.2 ∙ ap (λ (x : VnodeSeen). x.info.disk) (index-of l.files.files k no_vnode v at) in
        (is.0, (disk_at l.disks is.0).1, get-place l.disks is.0 is.1 ∙ ap (λ (n : ℕ). Some (n, (disk_at l.disks is.0).1)) number);
    sizes = λ i d at.
        let lt = within-new i d at in
        let inside : i < length start = let e = long-old in omega (arith, lt, e) in
        ap (λ (m : finite.FinMap nat_cmp ℕ). finite.get m d.0) (c.files.disks ∙ files-same ∙ ap (λ (g : FilesSeen). g.disks) placed)
        ∙ ap (finite.get files.disks) ((kept i d at).number ∙ number-same i lt) ∙ have.sizes i (disk_at start i) (get-place start i inside)
        ∙ ap (λ (n : ℕ). Some n) (sym ((kept i d at).size ∙ size-same files have placed i lt));
    numbers = λ i j d e at is same.
        let n = length-map l.disks (λ (disk : ℕ × DiskSeen). disk.0) in
        let x = slice_get_within l.disks i d at in
        let y = slice_get_within l.disks j e is in
        are-left.numbers.apart i j (omega (arith, x, n)) (omega (arith, y, n))
        (number-of l.disks i ∙ ap (λ (z : ℕ × DiskSeen). z.0) (at-place l.disks i d at) ∙ same ∙ sym (number-of l.disks j ∙ ap (λ (z : ℕ × DiskSeen). z.0) (at-place l.disks j e is)));
  }

  -- ALL TELL, where the disks that came back do
  pub all-tell : HaveTold (bare_disks l.disks) l.swap → AllTell t.memory.world no_notes
  all-tell told name is = by_name (page-cases t.memory.world.files t.memory.world.anon name is)
    where
      in-bay : (number : ℕ) (d : DiskSeen) → bay_at t.memory.world.store.bays number ≡ home d → IsSome d.content → IsTrue (tells t.memory.world.store no_notes number)
      in-bay number d here some = ap (λ (b : BaySeen). is_some (content_in_bay b no_notes)) here ∙ some

      by_swap : (o : Option DiskSeen) → IfSome o (λ d. IsSome d.content)
          → MatchOption o (bay_at t.memory.world.store.bays 8 ≡ missing) (λ disk. bay_at t.memory.world.store.bays 8 ≡ home disk)
          → bay_at t.memory.world.store.bays 8 ≢ missing → IsTrue (tells t.memory.world.store no_notes 8)
      by_swap None tell here there = absurd (there here)
      by_swap (Some d) tell here there = in-bay 8 d here tell

      by_name : ((name.object ≡ 64) × (name.page < length t.memory.world.anon.counts)) ⊎
          ((name.object ≢ 64) × (name.object < length t.memory.world.files.files)
          × (name.page < page_count (vnode_at t.memory.world.files name.object).info.extents)) → IsTrue (tells t.memory.world.store no_notes (world_table t.memory.world name).disk)
      by_name (inl slot) =
          let same : name ≡ slot_name name.page = ap (λ (o : ℕ). record { object = o; page = name.page }) slot.0 in
          let disk : (world_table t.memory.world name).disk ≡ 8 = ap (λ (n : PageName). (world_table t.memory.world n).disk) same
          ∙ ap (λ (p : Place). p.disk) (slot-place t.memory.world.files t.memory.world.anon name.page after.memory.files slot.1) in
          let some : 0 < length t.memory.world.anon.counts = let lt = slot.1 in omega (arith, lt) in
          subst (λ (n : ℕ). IsTrue (tells t.memory.world.store no_notes n)) (sym disk) (by_swap l.swap told.last c.swap (after.memory.disks.swap some))
      by_name (inr page) =
          let disk : (world_table t.memory.world name).disk ≡ disk_of_file t.memory.world.files name.object = ap (λ (p : Place). p.disk)
          (file-place t.memory.world.files t.memory.world.anon name.object name.page page.1 page.2) in
          let at = (are-disks t.memory.world t.memory.spaces after.memory after.notes).there name.object page.1 in
          let i = at.0 in
          let lt = at.1 in
          let inside : i < length l.disks = let e = long-new in omega (arith, lt, e) in
          let long = length-map l.disks (λ (d : ℕ × DiskSeen). d.1) in
          let tell : IsSome (disk_at l.disks i).1.content = subst (λ (d : DiskSeen). IsSome d.content) (bare-at l.disks i inside) (told.each i no_disk (omega (arith, inside, long))) in
          subst (λ (n : ℕ). IsTrue (tells t.memory.world.store no_notes n)) (at.2 ∙ sym disk)
          (in-bay (disk_at old i).0 (disk_at old i).1 (home-after i lt) (told-before (disk_at old i).1.content (disk_at l.disks i).1.content (disk_at old i).0 (c.disks.each i lt).blocks tell))
        where
          bare-at : (L : List (ℕ × DiskSeen)) (i : ℕ) → i < length L → slice_index_or (bare_disks L) i no_disk ≡ (disk_at L i).1
          bare-at [] i lt = absurd (omega (arith, lt))
          bare-at (d ∷ L) zero lt = refl
          bare-at (d ∷ L) (suc i) lt = bare-at L i (omega (arith, lt))
