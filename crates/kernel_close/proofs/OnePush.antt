-- A page of a file goes out and comes back, while no seat has anything else outside.
use Rattle.seg_ops.proofs.SlotMemory.{home-value_bytes as value-home}
use Rattle.seg_ops.proofs.page_store.EndLemmas.{written_done as written-done}
use Rattle.seg_ops.proofs.page_store.Returning.{other_block as block-other, one_block as written-some}
use Rattle.std.proofs.Common.{◌≡◌, ◌≢◌, ℕ, ◌<◌, ◌≤◌, ◌==◌, Bool, true, false, cond, List, length, Option, Some, None, refl, sym, ap, ◌∙◌, inl, inr, subst, arith, get_or-set_other}
use Rattle.std.specs.Prelude.{IsSome}
use Rattle.std.specs.FinMap as finite
use Rattle.std.proofs.lemmas.Bool.{cases_eq}
use Rattle.seg_ops.specs.block_device.DiskSeen.{with_block}
use Rattle.seg_ops.specs.block_device.declared.disk_fault.DiskFault.{DiskFault}
use Rattle.seg_ops.specs.core_arena.Bytes.{zeros}
use Rattle.seg_ops.specs.page_hash.declared.PageName.{PageName}
use Rattle.seg_ops.specs.page_store.Bays.{BaySeen, missing, home, out, bay_at, block_of, disk_in}
use Rattle.seg_ops.specs.page_store.Bytes.{clip}
use Rattle.seg_ops.specs.page_store.Flight.{FlightSeen, done, note_of, IsPerformed}
use Rattle.seg_ops.specs.page_store.Notes.{Note, Notes, no_notes, with_note}
use Rattle.seg_ops.specs.page_store.Value.{content_in_bay}
use Rattle.seg_ops.specs.page_store.declared.place.Place.{Place}
use Rattle.seg_ops.specs.page_store.declared.plan.Plan.TheVariants.{Push}
use Rattle.seg_ops.specs.page_store.declared.residence.Residence.TheVariants.{Home}
use Rattle.seg_ops.specs.page_store.Seen.{residence}
use Rattle.seg_ops.proofs.page_store.TransferLemmas.{is-or-not}
use Rattle.seg_ops.specs.vnode_files.Files.{FilesSeen, vnode_at}
use Rattle.seg_ops.specs.vnode_files.Layout.{disk_of_file, block_of_page}
use Rattle.seg_ops.specs.vnode_files.Vnode.{is_blank}
use Rattle.seg_ops.specs.flat_model.Words.{Page}
use Rattle.seg_ops.specs.vm_world.MemoryFits.{MemoryFits}
use Rattle.seg_ops.specs.vm_world.NotesFit.{NotesFit}
use Rattle.seg_ops.specs.vm_world.Pages.{page_value}
use Rattle.seg_ops.specs.vm_world.Segments.{Spaces}
use Rattle.seg_ops.specs.vm_world.World.{World, StoreCore, world_table, AllTell}
use Rattle.seg_ops.specs.vm_world.WorldSteps.{WorldStep, leaves, returns, cut_page}
use Rattle.seg_ops.proofs.vm_world.Clips.{clip-twice}
use Rattle.seg_ops.proofs.vm_world.FrameRule.{memory_of, exists-same}
use Rattle.seg_ops.specs.Flights.{BeginsFor}
use Rattle.seg_ops.specs.Marks.{files_pushed}
use Rattle.seg_ops.proofs.StillSteps.{value-is}
use Rattle.kernel_close.specs.Finish.{IsFilePage, bytes_of_page, KeepsDisk, KeepRecords}
use Rattle.kernel_close.specs.Closing.{KeepsBay, PushesPages, IsStored, StoresPages, IsFaultOfBays, FailsToPush, GoOrStay, HasPageAndZeros, block_on, no_page, page_on_disk}
use Rattle.kernel_close.proofs.Records.{disk-kept, block-kept, bytes-kept}
use Rattle.kernel_close.proofs.Fills.{with_page_filled, blank-other, blank-now, stored-same, block-now, one-page, other-blocks-written}
use Rattle.kernel_close.proofs.Pushes.{records-of, bay-refl, no-slot, page-exists, page-is, place-is, valid-is}

none-left : (b : Bool) (x : Note) → cond b None (cond b (Some x) None) ≡ None
none-left true x = refl
none-left false x = refl

-- what a seat took out is back
pub note-back : (note : Note) → with_note (with_note no_notes 0 (Some note)) 0 None ≡ no_notes
note-back note = λ i seat. none-left (seat == 0) note i

cut-clip : (c : Bool) (v n : ℕ) (page : Page) → v ≡ n → n ≤ 4096 → (c ≡ true → length page ≡ 4096) → clip n (cut_page c v page) ≡ clip n page
cut-clip false v n page same low whole = refl
cut-clip true v n page same low whole = ap (λ (m : ℕ). clip n (clip m page)) same ∙ clip-twice n page low (whole refl)

-- A page goes out with a flight, which is performed and comes back.
pub record IsPush (u v w : World) (name : PageName) (f e : FlightSeen) : Type 0 where
  pub begins : BeginsFor u 0 (Push name) f
  pub cut : PageName → Bool
  pub leaves : (spaces : Spaces) (notes : Notes) → MemoryFits (memory_of u spaces) → NotesFit u notes → WorldStep u v spaces (leaves 0 (note_of f)) cut
  pub files : v.files ≡ files_pushed u.files name
  pub performed : IsPerformed (note_of f) e
  pub returns : (spaces : Spaces) (notes : Notes) (note : Note) → MemoryFits (memory_of v spaces) → NotesFit v notes → notes e.seat ≡ Some note → IsPerformed note e → WorldStep v w spaces (returns e.seat note) (λ n. false)
  pub rest : w.files ≡ v.files
  pub disk : bay_at w.store.bays e.number ≡ home e.disk

module _ (u v w : World) (spaces : Spaces) (name : PageName) (f e : FlightSeen) (fits : MemoryFits (memory_of u spaces)) (nf : NotesFit u no_notes) (p : IsFilePage u.files name) (x : IsPush u v w name f e) where
  abbrev N : Notes
  N = with_note no_notes 0 (Some (note_of f))

  first : WorldStep u v spaces (leaves 0 (note_of f)) x.cut
  first = x.leaves spaces no_notes fits nf

  nf1 : NotesFit v N
  nf1 = first.notes no_notes refl nf

  performed : IsPerformed (note_of f) e
  performed = x.performed

  seat : e.seat ≡ 0
  seat = performed.seat ∙ x.begins.begins.seat

  second : WorldStep v w spaces (returns 0 (note_of f)) (λ n. false)
  second = subst (λ (t : ℕ). WorldStep v w spaces (returns t (note_of f)) (λ n. false)) seat (x.returns spaces N (note_of f) first.memory nf1 (ap N seat) performed)

  number : f.number ≡ disk_of_file u.files name.object
  number = x.begins.begins.number ∙ ap (λ (l : Place). l.disk) (place-is u name fits.files p)

  block : f.block ≡ block_of_page u.files name.object name.page
  block = x.begins.begins.block ∙ ap (λ (l : Place). l.block) (place-is u name fits.files p)

  valid : f.valid ≡ bytes_of_page u.files name
  valid = x.begins.begins.valid ∙ valid-is u name fits.files p

  writes : f.writes ≡ true
  writes = x.begins.begins.writes

  files : v.files ≡ with_page_filled u.files name.object name.page
  files = x.files ∙ ap (λ (b : Bool). cond b u.files (with_page_filled u.files name.object name.page)) (no-slot u name fits.files p)

  tell1 : AllTell u no_notes → AllTell v N
  tell1 tell = (first.tells no_notes refl nf).0 tell

  -- every page keeps what it has of its file
  pub value-kept : AllTell u no_notes → (n : PageName) → IsFilePage u.files n → clip (bytes_of_page u.files n) (page_value w no_notes n) ≡ clip (bytes_of_page u.files n) (page_value u no_notes n)
  value-kept tell n page =
      let exists = page-exists u n fits.files page in
      let later = exists-same u v n first.tables ∙ exists in
      let low : bytes_of_page u.files n ≤ 4096 = omega arith in
      let back : page_value w no_notes n ≡ page_value v N n = subst (λ (m : Notes). page_value w m n ≡ page_value v N n) (note-back (note_of f)) (second.pages N n refl nf1 (tell1 tell) later) in
      ap (clip (bytes_of_page u.files n)) (back ∙ first.pages no_notes n refl nf tell exists)
      ∙ cut-clip (x.cut n) (world_table u n).valid (bytes_of_page u.files n) (page_value u no_notes n) (valid-is u n fits.files page) low (λ c. first.whole no_notes n refl nf tell exists c)

  other-bay : (k : ℕ) → k ≢ f.number → bay_at w.store.bays k ≡ bay_at u.store.bays k
  other-bay k ne =
      ap (λ (l : List BaySeen). bay_at l k) second.bays.1.1 ∙ get_or-set_other v.store.bays f.number k (home second.bays.1.0) missing ne
      ∙ ap (λ (l : List BaySeen). bay_at l k) first.bays.1 ∙ get_or-set_other u.store.bays f.number k (out 0) missing ne

  new-bay : bay_at w.store.bays f.number ≡ home e.disk
  new-bay = ap (bay_at w.store.bays) (sym performed.number) ∙ x.disk

  -- its disk keeps what isn't this page
  disk-keeps : KeepsDisk u.files (f.number, f.disk) (f.number, e.disk)
  disk-keeps =
      let some = written-some (note_of f) e e.outcome (performed.written writes) in
      record {
        number = refl;
        size = performed.size;
        kind = performed.kind;
        faults = performed.later;
        blocks = other-blocks-written u.files f.number f.block some.0 f.disk.content e.disk.content (record { name = name; page = p; on_disk = sym number; in_block = sym block }) some.1;
      }

  low-number : f.number < 8
  low-number = by_blocks (finite.get u.files.disks (disk_of_file u.files name.object)) refl (fits.files.set name.object p.file)
    where
      by_blocks : (o : Option ℕ) → finite.get u.files.disks (disk_of_file u.files name.object) ≡ o → IsSome o → f.number < 8
      by_blocks None e some = absurd (cc)
      by_blocks (Some blocks) e some = subst (λ (n : ℕ). n < 8) (sym number) (fits.disks.numbers (disk_of_file u.files name.object) blocks e)

  -- THE PUSH keeps what it should.
  pub push-pushes : PushesPages u w spaces
  push-pushes = record {
    tables = record {
      maps = second.tables.maps ∙ first.tables.maps;
      counts = second.tables.counts ∙ first.tables.counts;
      reserved = second.tables.reserved ∙ first.tables.reserved;
      disks = second.tables.disks ∙ first.tables.disks;
      infos = second.tables.infos ∙ first.tables.infos;
    };
    order = ap (λ (k : StoreCore). k.order) (second.core ∙ first.core);
    swap = let low = low-number in other-bay 8 (λ same. omega (arith, low, same));
    disks = λ k. elim (cases_eq k f.number) [
      | inl is ↦ subst (λ (j : ℕ). KeepsBay u.files j (bay_at u.store.bays j) (bay_at w.store.bays j)) (sym is)
          (subst (λ (b : BaySeen). KeepsBay u.files f.number b (bay_at w.store.bays f.number)) (sym first.bays.0) (e.disk, new-bay, disk-keeps))
      | inr ne ↦ subst (KeepsBay u.files k (bay_at u.store.bays k)) (sym (other-bay k ne)) (bay-refl u.files k (bay_at u.store.bays k))
    ];
    memory = second.memory;
    notes = subst (NotesFit w) (note-back (note_of f)) (second.notes N refl nf1);
    tells = λ tell. subst (AllTell w) (note-back (note_of f)) ((second.tells N refl nf1).0 (tell1 tell));
    values = value-kept;
  }

  filled : w.files ≡ with_page_filled u.files name.object name.page
  filled = x.rest ∙ files

  kept : KeepRecords u.files w.files
  kept = records-of u w push-pushes.tables

  -- the block of a page that isn't the one that was pushed
  other-block : (n : PageName) → n ≢ name → IsFilePage u.files n
      → block_of (disk_in (bay_at w.store.bays (disk_of_file u.files n.object))).content (block_of_page u.files n.object n.page) ≡ block_on u n
  other-block n ne page =
      let D : ℕ = disk_of_file u.files n.object in
      let b : ℕ = block_of_page u.files n.object n.page in
      elim (cases_eq D f.number) [
        | inl is ↦
            let some = written-some (note_of f) e e.outcome (performed.written writes) in
            let far : b ≢ f.block = λ same. ne (one-page u.files n name fits.files page p (is ∙ number) (same ∙ block)) in
            ap (λ (j : ℕ). block_of (disk_in (bay_at w.store.bays j)).content b) is ∙ ap (λ (y : BaySeen). block_of (disk_in y).content b) new-bay
            ∙ ap (λ (o : Option (List (List ℕ))). block_of o b) some.1 ∙ block-other f.disk.content f.block b some.0 far
            ∙ sym (ap (λ (j : ℕ). block_of (disk_in (bay_at u.store.bays j)).content b) is ∙ ap (λ (y : BaySeen). block_of (disk_in y).content b) first.bays.0)
        | inr apart ↦ ap (λ (y : BaySeen). block_of (disk_in y).content b) (other-bay D apart)
      ]

  -- a page that was stored, and isn't the one that was pushed
  other-stored : (n : PageName) → n ≢ name → IsFilePage u.files n
      → page_on_disk w.files (disk_in (bay_at w.store.bays (disk_of_file u.files n.object))) n ≡ page_on_disk u.files (disk_in (bay_at u.store.bays (disk_of_file u.files n.object))) n
  other-stored n ne page =
      let D : ℕ = disk_of_file u.files n.object in
      let blank = ap (λ (G : FilesSeen). is_blank (vnode_at G n.object) n.page) filled ∙ blank-other u.files name.object name.page n ne in
      stored-same u.files w.files (disk_in (bay_at u.store.bays D)) (disk_in (bay_at w.store.bays D)) n kept blank (other-block n ne page)

  -- a block, by the records that the files keep
  on-same : (n : PageName) → block_on w n ≡ block_of (disk_in (bay_at w.store.bays (disk_of_file u.files n.object))).content (block_of_page u.files n.object n.page)
  on-same n = λ i. block_of (disk_in (bay_at w.store.bays (disk-kept u.files w.files kept n.object i))).content (block-kept u.files w.files kept n i)

  other-stays : (n : PageName) → n ≢ name → IsFilePage u.files n → block_on w n ≡ block_on u n
  other-stays n ne page = on-same n ∙ other-block n ne page

  was-stored : AllTell u no_notes → (n : PageName) → n ≢ name → IsFilePage u.files n → IsStored u n → IsStored w n
  was-stored tell n ne page was =
      let d = disk-kept u.files w.files kept n.object in
      let m = bytes-kept u.files w.files kept n in
      subst (λ (k : ℕ). clip k (page_on_disk w.files (disk_in (bay_at w.store.bays (disk_of_file w.files n.object))) n) ≡ clip k (page_value w no_notes n)) (sym m)
      (ap (λ (j : ℕ). clip (bytes_of_page u.files n) (page_on_disk w.files (disk_in (bay_at w.store.bays j)) n)) d
      ∙ ap (clip (bytes_of_page u.files n)) (other-stored n ne page) ∙ was ∙ sym (value-kept tell n page))

  -- the page that was pushed
  module _ (is : e.outcome ≡ done) (frame : ℕ) (homed : residence u.store name ≡ Home frame) where
    abbrev B : ℕ
    B = block_of_page u.files name.object name.page

    abbrev n : ℕ
    n = bytes_of_page u.files name

    whole : length f.bytes ≡ 4096
    whole = ap (λ (l : List ℕ). length l) (sym (performed.kept writes)) ∙ performed.bytes

    told : AllTell u no_notes → IsSome f.disk.content
    told tell =
        subst IsSome (ap (λ (b : BaySeen). content_in_bay b no_notes) (ap (bay_at u.store.bays) (ap (λ (x : Place). x.disk) (place-is u name fits.files p) ∙ sym number) ∙ first.bays.0))
        (tell name (page-is u name fits.files p))

    now-block : AllTell u no_notes → block_of e.disk.content B ≡ clip f.valid f.bytes
    now-block tell =
        ap (λ (o : Option (List (List ℕ))). block_of o B) (written-done (note_of f) e e.outcome is (performed.written writes)) ∙ ap (block_of (with_block f.disk.content f.block (clip f.valid f.bytes))) (sym block)
        ∙ block-now f.disk.content f.block f.disk.size (clip f.valid f.bytes) (told tell) (fits.frames.sound.whole f.number f.disk first.bays.0) performed.within

    now-place : AllTell u no_notes → page_on_disk w.files (disk_in (bay_at w.store.bays (disk_of_file w.files name.object))) name ≡ clip n f.bytes
    now-place tell =
        let low : n ≤ 4096 = omega arith in
        ap (λ (b : Bool). cond b zeros (clip (bytes_of_page w.files name) (block_of (disk_in (bay_at w.store.bays (disk_of_file w.files name.object))).content (block_of_page w.files name.object name.page))))
        (ap (λ (G : FilesSeen). is_blank (vnode_at G name.object) name.page) filled ∙ blank-now u.files name.object name.page p.file)
        ∙ ap (λ (k : ℕ). clip k (block_of (disk_in (bay_at w.store.bays (disk_of_file w.files name.object))).content (block_of_page w.files name.object name.page))) (bytes-kept u.files w.files kept name)
        ∙ ap (λ (k : ℕ). clip n (block_of (disk_in (bay_at w.store.bays (disk_of_file w.files name.object))).content k)) (block-kept u.files w.files kept name)
        ∙ ap (λ (b : BaySeen). clip n (block_of (disk_in b).content B)) (ap (bay_at w.store.bays) (disk-kept u.files w.files kept name.object ∙ sym number) ∙ new-bay)
        ∙ ap (clip n) (now-block tell) ∙ ap (λ (k : ℕ). clip n (clip k f.bytes)) valid ∙ clip-twice n f.bytes low whole

    now-stored : AllTell u no_notes → IsStored w name
    now-stored tell =
        let low : n ≤ 4096 = omega arith in
        let value : page_value u no_notes name ≡ f.bytes = value-is u no_notes name (page-is u name fits.files p) ∙ value-home u.store no_notes (world_table u) name frame homed ∙ sym x.begins.bytes in
        subst (λ (k : ℕ). clip k (page_on_disk w.files (disk_in (bay_at w.store.bays (disk_of_file w.files name.object))) name) ≡ clip k (page_value w no_notes name)) (sym (bytes-kept u.files w.files kept name))
        (ap (clip n) (now-place tell) ∙ clip-twice n f.bytes low whole ∙ ap (clip n) (sym value) ∙ sym (value-kept tell name p))

    -- its block: the page as far as the file goes, with zeros after it
    brought : AllTell u no_notes → block_on w name ≡ clip n f.bytes
    brought tell =
        on-same name ∙ ap (λ (b : BaySeen). block_of (disk_in b).content B) (ap (bay_at w.store.bays) (sym number) ∙ new-bay) ∙ now-block tell
        ∙ ap (λ (k : ℕ). clip k f.bytes) valid

    now-went : AllTell u no_notes → HasPageAndZeros u name (block_on w name)
    now-went tell =
        let low : n ≤ 4096 = omega arith in
        let twice : clip n (block_on w name) ≡ clip n f.bytes = ap (clip n) (brought tell) ∙ clip-twice n f.bytes low whole in
        let value : page_value u no_notes name ≡ f.bytes = value-is u no_notes name (page-is u name fits.files p) ∙ value-home u.store no_notes (world_table u) name frame homed ∙ sym x.begins.bytes in
        record { page = twice ∙ sym (ap (clip n) value); rest = brought tell ∙ sym twice }

    -- IT BRINGS THE PAGE to its block, and leaves every other block of a page.
    pub push-goes : GoOrStay u w no_page
    push-goes tell other page = elim (is-or-not other name) [
      | inl same ↦ inr (inl (subst (λ (m : PageName). HasPageAndZeros u m (block_on w m)) (sym same) (now-went tell)))
      | inr ne ↦ inr (inr (other-stays other ne page))
    ]

    -- IT STORES THE PAGE, and leaves those that were stored.
    pub push-stores : StoresPages u w (λ (other : PageName). other ≡ name)
    push-stores tell other page or = elim (is-or-not other name) [
      | inl same ↦ subst (IsStored w) (sym same) (now-stored tell)
      | inr ne ↦ elim or [ inl was ↦ was-stored tell other ne page was | inr same ↦ absurd (ne same) ]
    ]

  -- its fault, where it failed
  push-fault : (fault : DiskFault) → fault.disk ≡ e.number → fault.before ≡ e.before → fault.after ≡ e.disk.faults → IsFaultOfBays u.store.bays w.store.bays fault
  push-fault fault of before after =
      let same : fault.disk ≡ f.number = of ∙ performed.number in
      record {
        before = f.disk;
        after = e.disk;
        low = subst (λ (k : ℕ). k < 8) (sym same) low-number;
        was = ap (bay_at u.store.bays) same ∙ first.bays.0;
        is = ap (bay_at w.store.bays) same ∙ new-bay;
        since = record { disk = refl; since = let a = before in let b = performed.before in omega (arith, a, b); after = after };
      }

  -- its fault, and the block that it spoiled
  pub push-fails : (fault : DiskFault) → fault.disk ≡ e.number → fault.before ≡ e.before → fault.after ≡ e.disk.faults → FailsToPush u w fault
  push-fails fault of before after = record {
    cause = push-fault fault of before after;
    block = f.block;
    others = λ tell other page. elim (is-or-not other name) [
      | inl same ↦ inl (
        ap (λ (m : PageName). disk_of_file u.files m.object) same ∙ sym number ∙ sym (of ∙ performed.number),
        ap (λ (m : PageName). block_of_page u.files m.object m.page) same ∙ sym block,
      )
      | inr ne ↦ inr (inr (other-stays other ne page))
    ];
  }
