-- What is left of a world: the disks that come out hold the files.
use Rattle.seg_ops.proofs.FillSteps.{some-of as some-blocks}
use Rattle.seg_ops.proofs.Fills.{clip-zeros}
use Rattle.std.proofs.Common.{◌≡◌, ◌⊎◌, ℕ, zero, suc, ◌<◌, ◌≤◌, Bool, true, false, cond, List, [], ◌∷◌, length, Option, Some, None, Result, Ok, Err, refl, sym, ap, ◌∙◌, inl, inr, subst, arith}
use Rattle.std.specs.Prelude.{slice_index, slice_index_or, IsSome, IsTrue, IfSome, IfNone, IfErr, OnOk, MatchResult}
use Rattle.std.specs.Result.{IsOk}
use Rattle.std.specs.FinMap as finite
use Rattle.std.proofs.lemmas.List.{length-map}
use Rattle.seg_ops.specs.block_device.DiskSeen.{DiskSeen, HasBlocks}
use Rattle.seg_ops.specs.block_device.Faults.{IsFaultSince}
use Rattle.seg_ops.specs.block_device.declared.disk_fault.DiskFault.{DiskFault}
use Rattle.seg_ops.specs.core_arena.Bytes.{zeros}
use Rattle.seg_ops.specs.page_hash.declared.PageName.{PageName}
use Rattle.seg_ops.specs.page_store.Bays.{BaySeen, missing, home, out, bay_at, block_of, disk_in, disks_in, no_disk, numbers_of, AreNumbers, IsStill}
use Rattle.seg_ops.specs.page_store.Bytes.{clip}
use Rattle.seg_ops.specs.page_store.Notes.{Note, no_notes}
use Rattle.seg_ops.specs.page_store.Waits.{Waits, holder_in}
use Rattle.seg_ops.proofs.page_store.QueryLemmas.{home-is}
use Rattle.seg_ops.specs.vnode_files.Files.{FilesSeen, vnode_at}
use Rattle.seg_ops.specs.vnode_files.Layout.{disk_of_file, block_of_page}
use Rattle.seg_ops.specs.vnode_files.Vnode.{is_blank}
use Rattle.seg_ops.specs.vm_world.MemoryFits.{MemoryFits}
use Rattle.seg_ops.specs.vm_world.NotesFit.{NotesFit}
use Rattle.seg_ops.specs.vm_world.Pages.{page_value}
use Rattle.seg_ops.specs.vm_world.Segments.{Spaces}
use Rattle.seg_ops.specs.vm_world.Wants.{IsDirtyPage}
use Rattle.seg_ops.specs.vm_world.World.{World, world_table, AllTell}
use Rattle.seg_ops.proofs.vm_world.Clips.{clip-twice}
use Rattle.seg_ops.proofs.vm_world.FrameRule.{memory_of}
use Rattle.seg_ops.proofs.Disks.{lives-on, dirty-exists}
use Rattle.seg_ops.proofs.Evictions.{unlocked}
use Rattle.kernel_close.specs.Finish.{IsFilePage, bytes_of_page, disk_at, disks_of, HoldsPage, HoldAllFiles, LeaveAllPages, KeepsOtherBlocks, KeepsDisk, KeepDisks, KeepRecords, IsLastFault, HaveNoBlankPage}
use Rattle.kernel_close.specs.Closing.{KeepsBay, PushesPages, StoresPages, IsFaultOfBays, FailsToPush, GoOrStay, GoesOrStays, HasPageAndZeros, IsWrittenOrKept, IsSpoiled, WriteAllPages, block_on, no_page, AreDisksOf, page_on_disk, WritesBlanks, FillsPages, ZeroedOrStays, ZeroedOrStay, FailsToFill}
use Rattle.kernel_close.proofs.Records.{records-back, records-then, page-kept, disk-kept, block-kept, bytes-kept, lies-back, keeps-disk-refl, keep-disks-then}
use Rattle.kernel_close.proofs.Fills.{block-within, fault-then}
use Rattle.kernel_close.proofs.Pushes.{records-of}

-- WHERE NO SEAT HAS ANYTHING OUTSIDE no disk is out
pub still : (w : World) → NotesFit w no_notes → (number : ℕ) → IsStill (bay_at w.store.bays number)
still w nf number = by_bay (bay_at w.store.bays number) refl
  where
    by_bay : (b : BaySeen) → bay_at w.store.bays number ≡ b → IsStill b
    by_bay missing e = tt
    by_bay (home d) e = tt
    by_bay (out seat) e = let has = nf.stored.each_bay number seat e in let z : ◌≡◌ {A = Option Note} None (Some has.0) = has.1 in absurd (cc)

pub home-of : (b : BaySeen) → IsStill b → (b ≡ missing → ⊥) → b ≡ home (disk_in b)
home-of missing s there = absurd (there refl)
home-of (home d) s there = refl
home-of (out seat) s there = absurd s

pub missing-or-home : (b : BaySeen) → IsStill b → (b ≡ missing) ⊎ (b ≡ home (disk_in b))
missing-or-home missing s = inl refl
missing-or-home (home d) s = inr refl
missing-or-home (out seat) s = absurd s

-- and a page that is home can be pushed
pub ready-to-push : (w : World) (spaces : Spaces) (name : PageName) → MemoryFits (memory_of w spaces) → NotesFit w no_notes → IsDirtyPage w name → Waits w.store name (world_table w name).disk None
ready-to-push w spaces name fits nf dirty =
    let number : ℕ = (world_table w name).disk in
    let at = home-is w.store name dirty.frame dirty.home in
    let there = (lives-on w spaces name fits (dirty-exists w spaces name fits dirty)).there in (
      (disk_in (bay_at w.store.bays number), home-of (bay_at w.store.bays number) (still w nf number) there),
      ap (λ (o : Option ℕ). holder_in o w.store) at.found ∙ unlocked w spaces dirty.frame fits (subst (λ (b : Option (List ℕ)). IsSome b) (sym at.there) refl),
    )

-- THE DISKS OF A WORLD, in their order
pub disk-in-order : (bays : List BaySeen) (order : List ℕ) (i : ℕ) → i < length order → disk_at (disks_in bays order) i ≡ (slice_index order i, disk_in (bay_at bays (slice_index order i)))
disk-in-order bays [] i lt = absurd (omega (arith, lt))
disk-in-order bays (n ∷ ns) zero lt = refl
disk-in-order bays (n ∷ ns) (suc i) lt = disk-in-order bays ns i (omega (arith, lt))

numbers-in-order : (bays : List BaySeen) (order : List ℕ) → numbers_of (disks_in bays order) ≡ order
numbers-in-order bays [] = refl
numbers-in-order bays (n ∷ ns) = ap (λ (l : List ℕ). n ∷ l) (numbers-in-order bays ns)

length-in-order : (bays : List BaySeen) (order : List ℕ) → length (disks_in bays order) ≡ length order
length-in-order bays order = length-map order (λ number. (number, disk_in (bay_at bays number)))

pub are-disks : (w : World) (spaces : Spaces) → MemoryFits (memory_of w spaces) → NotesFit w no_notes → AreDisksOf w.files (disks_of w)
are-disks w spaces fits nf =
    let order = fits.frames.sound.order in
    let long = length-in-order w.store.bays w.store.order in
    record {
      fits = fits.files;
      numbers = subst AreNumbers (sym (numbers-in-order w.store.bays w.store.order)) order.numbers;
      there = λ f lt.
          let set = some-blocks (finite.get w.files.disks (disk_of_file w.files f)) (fits.files.set f lt) in
          let at = order.all (disk_of_file w.files f) (fits.disks.numbers (disk_of_file w.files f) set.0 set.1) (fits.disks.there (disk_of_file w.files f) set.0 set.1) in
          let low = at.1 in
          (at.0, omega (arith, low, long), ap (λ (d : ℕ × DiskSeen). d.0) (disk-in-order w.store.bays w.store.order at.0 at.1) ∙ at.2);
      sizes = λ i blocks lt is.
          let low : i < length w.store.order = omega (arith, lt, long) in
          let at = disk-in-order w.store.bays w.store.order i low in
          let number : ℕ = slice_index w.store.order i in
          ap (λ (d : ℕ × DiskSeen). d.1.size) at
          ∙ (fits.disks.sizes number (disk_in (bay_at w.store.bays number)) (home-of (bay_at w.store.bays number) (still w nf number) (order.there i low))).file blocks (ap (λ (d : ℕ × DiskSeen). finite.get w.files.disks d.0) (sym at) ∙ is);
    }

-- pushes keep what isn't a page
bay-disk : (F : FilesSeen) (number : ℕ) (a b : BaySeen) → KeepsBay F number a b → KeepsDisk F (number, disk_in a) (number, disk_in b)
bay-disk F number missing b k = subst (λ (x : BaySeen). KeepsDisk F (number, no_disk) (number, disk_in x)) (sym k) (keeps-disk-refl F (number, no_disk))
bay-disk F number (home d) b k = subst (λ (x : BaySeen). KeepsDisk F (number, d) (number, disk_in x)) (sym k.1) k.2
bay-disk F number (out seat) b k = subst (λ (x : BaySeen). KeepsDisk F (number, no_disk) (number, disk_in x)) (sym k) (keeps-disk-refl F (number, no_disk))

pub push-disks : (u v : World) (spaces : Spaces) → PushesPages u v spaces → KeepDisks u.files (disks_of u) (disks_of v)
push-disks u v spaces p =
    subst (λ (order : List ℕ). KeepDisks u.files (disks_of u) (disks_in v.store.bays order)) (sym p.order)
    (record {
      count = length-in-order v.store.bays u.store.order ∙ sym (length-in-order u.store.bays u.store.order);
      each = λ i lt.
          let long = length-in-order u.store.bays u.store.order in
          let low : i < length u.store.order = omega (arith, lt, long) in
          subst (λ (d : ℕ × DiskSeen). KeepsDisk u.files d (disk_at (disks_in v.store.bays u.store.order) i)) (sym (disk-in-order u.store.bays u.store.order i low))
          (subst (λ (d : ℕ × DiskSeen). KeepsDisk u.files (slice_index u.store.order i, disk_in (bay_at u.store.bays (slice_index u.store.order i))) d) (sym (disk-in-order v.store.bays u.store.order i low))
          (bay-disk u.files (slice_index u.store.order i) (bay_at u.store.bays (slice_index u.store.order i)) (bay_at v.store.bays (slice_index u.store.order i)) (p.disks (slice_index u.store.order i))));
    })

-- a disk that is home, by its number in their order
disk-numbered : (bays : List BaySeen) (order : List ℕ) (i number : ℕ) (d : DiskSeen) → i < length order → slice_index order i ≡ number → bay_at bays number ≡ home d → disk_at (disks_in bays order) i ≡ (number, d)
disk-numbered bays order i number d lt is here = disk-in-order bays order i lt ∙ ap (λ (k : ℕ). (k, disk_in (bay_at bays k))) is ∙ ap (λ (b : BaySeen). (number, disk_in b)) here

-- the fault of a push is that of a disk which comes out
pub push-last : (u v : World) (spaces : Spaces) (fault : DiskFault) → MemoryFits (memory_of u spaces) → PushesPages u v spaces → IsFaultOfBays u.store.bays v.store.bays fault → IsLastFault (disks_of u) (disks_of v) fault
push-last u v spaces fault fits p f =
    let here : bay_at u.store.bays fault.disk ≡ missing → ⊥ = λ e. let z : home f.before ≡ missing = sym f.was ∙ e in cc in
    let at = fits.frames.sound.order.all fault.disk f.low here in
    let low = at.1 in
    let long = length-in-order u.store.bays u.store.order in
    let old = disk-numbered u.store.bays u.store.order at.0 fault.disk f.before at.1 at.2 f.was in
    let new : disk_at (disks_of v) at.0 ≡ (fault.disk, f.after) =
    ap (λ (o : List ℕ). disk_at (disks_in v.store.bays o) at.0) p.order ∙ disk-numbered v.store.bays u.store.order at.0 fault.disk f.after at.1 at.2 f.is in (
      at.0,
      omega (arith, low, long),
      subst (λ (d : ℕ × DiskSeen). IsFaultSince d.0 d.1.faults (disk_at (disks_of v) at.0).1 fault) (sym old) (subst (λ (d : ℕ × DiskSeen). IsFaultSince fault.disk f.before.faults d.1 fault) (sym new) f.since),
    )

told-back : (F : FilesSeen) (disk : ℕ) (a b : Option (List (List ℕ))) → KeepsOtherBlocks F disk a b → IsSome b → IsSome a
told-back F disk None None k some = some
told-back F disk None (Some b) k some = absurd k
told-back F disk (Some a) b k some = refl

-- the disk of a page of a file, in their order, and the page's block there
disk-of-page : (w : World) (i : ℕ) (name : PageName) → i < length (disks_of w) → disk_of_file w.files name.object ≡ (disk_at (disks_of w) i).0 → (disk_at (disks_of w) i).1 ≡ disk_in (bay_at w.store.bays (disk_of_file w.files name.object))
disk-of-page w i name lt on =
    let long = length-in-order w.store.bays w.store.order in
    let at = disk-in-order w.store.bays w.store.order i (omega (arith, lt, long)) in
    ap (λ (d : ℕ × DiskSeen). d.1) at ∙ ap (λ (j : ℕ). disk_in (bay_at w.store.bays j)) (sym (ap (λ (d : ℕ × DiskSeen). d.0) at) ∙ sym on)

block-in-order : (w : World) (i : ℕ) (name : PageName) → i < length (disks_of w) → disk_of_file w.files name.object ≡ (disk_at (disks_of w) i).0 → block_on w name ≡ block_of (disk_at (disks_of w) i).1.content (block_of_page w.files name.object name.page)
block-in-order w i name lt on = ap (λ (d : DiskSeen). block_of d.content (block_of_page w.files name.object name.page)) (sym (disk-of-page w i name lt on))

-- WHAT THE BLOCKS OF PAGES HAVE: each its page, with zeros after it, or what it had.
both-told : (a b : Option (List (List ℕ))) (P : List (List ℕ) → List (List ℕ) → Type 0) → ((x y : List (List ℕ)) → a ≡ Some x → b ≡ Some y → P x y) → IfSome a (λ x. IfSome b (λ y. P x y))
both-told None b P h = tt
both-told (Some x) None P h = tt
both-told (Some x) (Some y) P h = h x y refl refl

both-map : (a b : Option (List (List ℕ))) (P Q : List (List ℕ) → List (List ℕ) → Type 0) → ((x y : List (List ℕ)) → P x y → Q x y) → IfSome a (λ x. IfSome b (λ y. P x y)) → IfSome a (λ x. IfSome b (λ y. Q x y))
both-map None b P Q then h = tt
both-map (Some x) None P Q then h = tt
both-map (Some x) (Some y) P Q then h = then x y h

written-or-kept : (u v : World) (name : PageName) (old new : List (List ℕ)) → block_on u name ≡ slice_index_or old (block_of_page u.files name.object name.page) [] → block_on v name ≡ slice_index_or new (block_of_page u.files name.object name.page) []
    → GoesOrStays u v name → IsWrittenOrKept u old new name
written-or-kept u v name old new was is way = elim way [
  | inl went ↦ inl (subst (HasPageAndZeros u name) is went)
  | inr stayed ↦ inr (sym is ∙ stayed ∙ was)
]

spoiled-back : (F G : FilesSeen) (fault : Option DiskFault) (block : ℕ) (name : PageName) → KeepRecords F G → IsSpoiled G fault block name → IsSpoiled F fault block name
spoiled-back F G None block name k spoiled = spoiled
spoiled-back F G (Some f) block name k spoiled = lies-back F G f.disk block name k spoiled

module _ (u v : World) (spaces : Spaces) (p : PushesPages u v spaces) (tell : AllTell u no_notes) where
  abbrev K : KeepRecords u.files v.files
  K = records-of u v p.tables

  -- a disk's place after the pushes
  stays-within : (i : ℕ) → i < length (disks_of u) → i < length (disks_of v)
  stays-within i lt = let long = (push-disks u v spaces p).count in omega (arith, lt, long)

  stays-on : (i : ℕ) (name : PageName) → i < length (disks_of u) → disk_of_file u.files name.object ≡ (disk_at (disks_of u) i).0 → disk_of_file v.files name.object ≡ (disk_at (disks_of v) i).0
  stays-on i name lt on = disk-kept u.files v.files K name.object ∙ on ∙ sym ((push-disks u v spaces p).each i lt).number

  module _ (i : ℕ) (lt : i < length (disks_of u)) (name : PageName) (page : IsFilePage u.files name) (on : disk_of_file u.files name.object ≡ (disk_at (disks_of u) i).0) where
    abbrev at-block : ℕ
    at-block = block_of_page u.files name.object name.page

    abbrev in-file : ℕ
    in-file = bytes_of_page u.files name

    was-told : (old : List (List ℕ)) → (disk_at (disks_of u) i).1.content ≡ Some old → block_on u name ≡ slice_index_or old at-block []
    was-told old is = block-in-order u i name lt on ∙ ap (λ (o : Option (List (List ℕ))). block_of o at-block) is

    -- the block after the pushes, by its number among the files that were there
    between : block_on v name ≡ block_of (disk_at (disks_of v) i).1.content at-block
    between = block-in-order v i name (stays-within i lt) (stays-on i name lt on) ∙ ap (block_of (disk_at (disks_of v) i).1.content) (block-kept u.files v.files K name)

    -- zeros that came to a blank page, which showed zeros
    zeros-written : (e : DiskSeen) (new : List (List ℕ)) → StoresPages u v (λ (m : PageName). Unit {0}) → e.content ≡ Some new → IsTrue (is_blank (vnode_at v.files name.object) name.page)
        → block_of e.content (block_of_page v.files name.object name.page) ≡ zeros → HasPageAndZeros u name (slice_index_or new at-block [])
    zeros-written e new stores is blank zeroed =
        let D : DiskSeen = disk_in (bay_at v.store.bays (disk_of_file v.files name.object)) in
        let low : in-file ≤ 4096 = omega arith in
        let here : slice_index_or new at-block [] ≡ zeros = sym (ap (λ (o : Option (List (List ℕ))). block_of o at-block) is) ∙ subst (λ (m : ℕ). block_of e.content m ≡ zeros) (block-kept u.files v.files K name) zeroed in
        record {
          page = ap (clip in-file) here
              ∙ ap (clip in-file) (sym (ap (λ (x : Bool). cond x zeros (clip (bytes_of_page v.files name) (block_of D.content (block_of_page v.files name.object name.page)))) blank))
              ∙ subst (λ (m : ℕ). clip m (page_on_disk v.files D name) ≡ clip m (page_value v no_notes name)) (bytes-kept u.files v.files K name) (stores tell name page (inr tt))
              ∙ p.values tell name page;
          rest = here ∙ sym (ap (clip in-file) here ∙ clip-zeros in-file low);
        }

    zeroed-written : (old new : List (List ℕ)) (e : DiskSeen) → GoOrStay u v no_page → StoresPages u v (λ (m : PageName). Unit {0}) → (disk_at (disks_of u) i).1.content ≡ Some old → e.content ≡ Some new
        → ZeroedOrStays v.files (disk_at (disks_of v) i).1 e name → IsWrittenOrKept u old new name
    zeroed-written old new e goes stores was is way = elim way [
      | inl blanked ↦ inl (zeros-written e new stores is blanked.0 blanked.1)
      | inr stays ↦
          let same : block_of e.content at-block ≡ block_of (disk_at (disks_of v) i).1.content at-block = subst (λ (m : ℕ). block_of e.content m ≡ block_of (disk_at (disks_of v) i).1.content m) (block-kept u.files v.files K name) stays in
          elim (goes tell name page) [
            | inl none ↦ absurd none
            | inr went ↦ written-or-kept u v name old new (was-told old was) (between ∙ sym same ∙ ap (λ (o : Option (List (List ℕ))). block_of o at-block) is) went
          ]
    ]

  -- where a push failed, and no disk was written any more
  written-by-push : (fault : DiskFault) → FailsToPush u v fault → WriteAllPages u (disks_of u) (disks_of v) (Some fault)
  written-by-push fault f = (
    f.block,
    λ i lt. both-told (disk_at (disks_of u) i).1.content (disk_at (disks_of v) i).1.content _ (λ old new was is name page on. elim (f.others tell name page) [
      | inl lies ↦ inl lies
      | inr way ↦ inr (written-or-kept u v name old new (was-told i lt name page on old was) (between i lt name page on ∙ ap (λ (o : Option (List (List ℕ))). block_of o (block_of_page u.files name.object name.page)) is) way)
    ]),
  )

  -- where zeros were written, behind all pushes, and failed or didn't
  written-by-fill : (M : List (ℕ × DiskSeen)) (fault : Option DiskFault) (block : ℕ) → GoOrStay u v no_page → StoresPages u v (λ (m : PageName). Unit {0}) → KeepDisks v.files (disks_of v) M
      → ZeroedOrStay v.files (disks_of v) M (IsSpoiled v.files fault block) → WriteAllPages u (disks_of u) M fault
  written-by-fill M fault block goes stores keeps zeroed = (
    block,
    λ i lt. both-told (disk_at (disks_of u) i).1.content (disk_at M i).1.content _ (λ old new was is name page on.
        let within = stays-within i lt in
        let told = told-back v.files (disk_at (disks_of v) i).0 (disk_at (disks_of v) i).1.content (disk_at M i).1.content (keeps.each i within).blocks (subst IsSome (sym is) refl) in
        elim (zeroed i name within (page-kept u.files v.files K name page) (stays-on i name lt on) told) [
          | inl spoiled ↦ inl (spoiled-back u.files v.files fault block name K spoiled)
          | inr way ↦ inr (zeroed-written i lt name page on old new (disk_at M i).1 goes stores was is way)
        ]),
  )

-- after a fault no more is said of where zeros stand
pub left-of-written : (w : World) (old new : List (ℕ × DiskSeen)) (fault : DiskFault) → WriteAllPages w old new (Some fault) → LeaveAllPages w old new fault.disk
left-of-written w old new fault h = (
  h.0,
  λ i lt. both-map (disk_at old i).1.content (disk_at new i).1.content _ _ (λ was now pages name page on. elim (pages name page on) [
    | inl lies ↦ inl lies
    | inr (inl written) ↦ inr (inl written.page)
    | inr (inr same) ↦ inr (inr same)
  ]) (h.1 i lt),
)

-- ALL FILES ARE HELD.
module _ (u v : World) (spaces : Spaces) (G : FilesSeen) (M : List (ℕ × DiskSeen)) (fits : MemoryFits (memory_of v spaces)) (p : PushesPages u v spaces) (stores : StoresPages u v (λ (n : PageName). Unit {0}))
    (w : WritesBlanks v.files (disks_of v) G M) (fills : FillsPages v.files (disks_of v) G M (λ (n : PageName). Unit {0})) (whole : (i : ℕ) → HasBlocks (disk_at M i).1.content (disk_at M i).1.size) where
  module _ (tell : AllTell u no_notes) (i : ℕ) (lt : i < length M) (blocks : List (List ℕ)) (is : (disk_at M i).1.content ≡ Some blocks) (name : PageName) (page : IsFilePage u.files name) (on : disk_of_file u.files name.object ≡ (disk_at M i).0) where
    k : KeepRecords u.files v.files
    k = records-of u v p.tables

    page1 : IsFilePage v.files name
    page1 = page-kept u.files v.files k name page

    abbrev n : ℕ
    n = bytes_of_page u.files name

    abbrev b : ℕ
    b = block_of_page u.files name.object name.page

    within : i < length (disks_of v)
    within = let long = w.disks.count in omega (arith, lt, long)

    on1 : disk_of_file v.files name.object ≡ (disk_at (disks_of v) i).0
    on1 = disk-kept u.files v.files k name.object ∙ on ∙ (w.disks.each i within).number

    told : IsSome (disk_at (disks_of v) i).1.content
    told = told-back v.files (disk_at (disks_of v) i).0 (disk_at (disks_of v) i).1.content (disk_at M i).1.content (w.disks.each i within).blocks (subst IsSome (sym is) refl)

    -- the block, on the disk that comes out
    full : length (slice_index_or blocks b []) ≡ 4096
    full =
        let ks = records-then u.files v.files G k w.records in
        let low = block-within G M i name w.are lt (page-kept u.files G ks name page) (disk-kept u.files G ks name.object ∙ on) in
        let same = block-kept u.files G ks name in
        let h = subst (λ (o : Option (List (List ℕ))). HasBlocks o (disk_at M i).1.size) is (whole i) in
        let size = h.0 in
        (h.1 b (omega (arith, low, same, size))).0

    placed : page_on_disk G (disk_at M i).1 name ≡ clip n (slice_index_or blocks b [])
    placed =
        let ks = records-then u.files v.files G k w.records in
        ap (λ (x : Bool). cond x zeros (clip (bytes_of_page G name) (block_of (disk_at M i).1.content (block_of_page G name.object name.page)))) (fills.filled name page1 (inr tt))
        ∙ ap (λ (m : ℕ). clip m (block_of (disk_at M i).1.content (block_of_page G name.object name.page))) (bytes-kept u.files G ks name)
        ∙ ap (λ (m : ℕ). clip n (block_of (disk_at M i).1.content m)) (block-kept u.files G ks name)
        ∙ ap (λ (o : Option (List (List ℕ))). clip n (block_of o b)) is

    pub held-page : HoldsPage u.files blocks name (page_value u no_notes name)
    held-page =
        let low : n ≤ 4096 = omega arith in
        sym (clip-twice n (slice_index_or blocks b []) low full)
        ∙ ap (clip n) (sym placed ∙ fills.stored i name within page1 on1 told ∙ ap (λ (d : DiskSeen). page_on_disk v.files d name) (disk-of-page v i name within on1))
        ∙ subst (λ (m : ℕ). clip m (page_on_disk v.files (disk_in (bay_at v.store.bays (disk_of_file v.files name.object))) name) ≡ clip m (page_value v no_notes name)) (bytes-kept u.files v.files k name) (stores tell name page (inr tt))
        ∙ p.values tell name page

  pub all-held : AllTell u no_notes → HoldAllFiles u M
  all-held tell i lt = by_content (disk_at M i).1.content refl
    where
      by_content : (o : Option (List (List ℕ))) → (disk_at M i).1.content ≡ o → IfSome o (λ blocks. (name : PageName) → IsFilePage u.files name → disk_of_file u.files name.object ≡ (disk_at M i).0 → HoldsPage u.files blocks name (page_value u no_notes name))
      by_content None e = tt
      by_content (Some blocks) e = λ name page on. held-page tell i lt blocks e name page on

  pub none-blank : HaveNoBlankPage G
  none-blank name page = fills.filled name (page-kept G v.files (records-back v.files G w.records) name page) (inr tt)

-- what is said of an answer, from what was said of it
pub none-then : {T : Type 0} (o : Option T) (P Q : Type 0) → (P → Q) → IfNone o P → IfNone o Q
none-then None P Q then h = then h
none-then (Some x) P Q then h = tt

pub some-then : {T : Type 0} (o : Option T) (P Q : T → Type 0) → ((x : T) → P x → Q x) → IfSome o P → IfSome o Q
some-then None P Q then h = tt
some-then (Some x) P Q then h = then x h

pub ok-then : {T E : Type 0} (r : Result T E) (P : Type 0) → OnOk r P → IsOk r → P
ok-then (Ok x) P h ok = h
ok-then (Err e) P h ok = absurd (let z : false ≡ true = ok in cc)

-- the first fault: of a push, and then no disk was written any more, or of a page of zeros
pub first-fault : {D : Type 0} (u v : World) (spaces : Spaces) (pushed : Result (Unit {0}) DiskFault) (seen : List (ℕ × D) → List (ℕ × DiskSeen)) (xs ys : List (ℕ × D)) (fault : DiskFault) → MemoryFits (memory_of u spaces) → PushesPages u v spaces
    → seen xs ≡ disks_of v → IfErr pushed (FailsToPush u v) → MatchResult pushed (λ _. FailsToFill v.files (seen xs) (seen ys) fault) (λ first. (fault ≡ first) × (ys ≡ xs)) → IsLastFault (disks_of u) (seen ys) fault
first-fault u v spaces (Ok x) seen xs ys fault fits p same push f =
    fault-then u.files (disks_of u) (disks_of v) (seen ys) fault (push-disks u v spaces p) (subst (λ (l : List (ℕ × DiskSeen)). IsLastFault l (seen ys) fault) same f.cause)
first-fault u v spaces (Err first) seen xs ys fault fits p same push f =
    subst (λ (l : List (ℕ × DiskSeen)). IsLastFault (disks_of u) l fault) (sym (ap seen f.1 ∙ same))
    (push-last u v spaces fault fits p (subst (IsFaultOfBays u.store.bays v.store.bays) (sym f.0) push.cause))

pub first-written : {D : Type 0} (u v : World) (spaces : Spaces) (pushed : Result (Unit {0}) DiskFault) (G : FilesSeen) (seen : List (ℕ × D) → List (ℕ × DiskSeen)) (xs ys : List (ℕ × D)) (fault : Option DiskFault) → PushesPages u v spaces
    → seen xs ≡ disks_of v → OnOk pushed (StoresPages u v (λ (n : PageName). Unit {0})) → OnOk pushed (GoOrStay u v no_page) → IfErr pushed (FailsToPush u v) → KeepDisks v.files (disks_of v) (seen ys)
    → IfNone fault (IsOk pushed × FillsPages v.files (seen xs) G (seen ys) (λ (n : PageName). Unit {0})) → IfNone fault (ZeroedOrStay v.files (seen xs) (seen ys) no_page)
    → IfSome fault (λ f. MatchResult pushed (λ _. FailsToFill v.files (seen xs) (seen ys) f) (λ first. (f ≡ first) × (ys ≡ xs))) → AllTell u no_notes → WriteAllPages u (disks_of u) (seen ys) fault
first-written u v spaces (Ok x) G seen xs ys None p same stores goes push keeps fills zeroed f tell =
    written-by-fill u v spaces p tell (seen ys) None 0 goes stores keeps
    (λ i name lt page on told. elim (subst (λ (l : List (ℕ × DiskSeen)). ZeroedOrStay v.files l (seen ys) no_page) same zeroed i name lt page on told) [ inl none ↦ absurd none | inr way ↦ inr way ])
first-written u v spaces (Ok x) G seen xs ys (Some fault) p same stores goes push keeps fills zeroed f tell =
    let fails = subst (λ (l : List (ℕ × DiskSeen)). FailsToFill v.files l (seen ys) fault) same f in
    written-by-fill u v spaces p tell (seen ys) (Some fault) fails.block goes stores keeps fails.others
first-written u v spaces (Err first) G seen xs ys None p same stores goes push keeps fills zeroed f tell = absurd (let z : false ≡ true = fills.0 in cc)
first-written u v spaces (Err first) G seen xs ys (Some fault) p same stores goes push keeps fills zeroed f tell =
    subst (λ (l : List (ℕ × DiskSeen)). WriteAllPages u (disks_of u) l (Some fault)) (sym (ap seen f.1 ∙ same)) (written-by-push u v spaces p tell fault (subst (FailsToPush u v) (sym f.0) push))

left-then : (u : World) (L : List (ℕ × DiskSeen)) (fault : Option DiskFault) → (AllTell u no_notes → WriteAllPages u (disks_of u) L fault) → IfSome fault (λ f. AllTell u no_notes → LeaveAllPages u (disks_of u) L f.disk)
left-then u L None written = tt
left-then u L (Some f) written = λ tell. left-of-written u (disks_of u) L f (written tell)

-- ALL THAT IS SAID of what is left.
pub record IsFinished (u : World) (G : FilesSeen) (L : List (ℕ × DiskSeen)) (fault : Option DiskFault) : Type 0 where
  pub closed : IfNone fault (AllTell u no_notes → HoldAllFiles u L)
  pub filled : IfNone fault (HaveNoBlankPage G)
  pub last : IfSome fault (IsLastFault (disks_of u) L)
  pub written : AllTell u no_notes → WriteAllPages u (disks_of u) L fault
  pub left : IfSome fault (λ f. AllTell u no_notes → LeaveAllPages u (disks_of u) L f.disk)
  pub disks : KeepDisks u.files (disks_of u) L
  pub files : KeepRecords u.files G

pub finishes : {D : Type 0} (seen : List (ℕ × D) → List (ℕ × DiskSeen)) (u v : World) (spaces : Spaces) (pushed : Result (Unit {0}) DiskFault) (G : FilesSeen) (xs ys : List (ℕ × D)) (fault : Option DiskFault)
    → ((i : ℕ) → HasBlocks (disk_at (seen ys) i).1.content (disk_at (seen ys) i).1.size) → MemoryFits (memory_of u spaces) → PushesPages u v spaces → seen xs ≡ disks_of v
    → OnOk pushed (StoresPages u v (λ (n : PageName). Unit {0})) → OnOk pushed (GoOrStay u v no_page) → IfErr pushed (FailsToPush u v) → WritesBlanks v.files (seen xs) G (seen ys)
    → IfNone fault (IsOk pushed × FillsPages v.files (seen xs) G (seen ys) (λ (n : PageName). Unit {0}))
    → IfNone fault (ZeroedOrStay v.files (seen xs) (seen ys) no_page)
    → IfSome fault (λ f. MatchResult pushed (λ _. FailsToFill v.files (seen xs) (seen ys) f) (λ first. (f ≡ first) × (ys ≡ xs))) → IsFinished u G (seen ys) fault
finishes seen u v spaces pushed G xs ys fault whole fits p same stores goes push writes fills zeroed faults =
    let w : WritesBlanks v.files (disks_of v) G (seen ys) = subst (λ (l : List (ℕ × DiskSeen)). WritesBlanks v.files l G (seen ys)) same writes in
    let written = first-written u v spaces pushed G seen xs ys fault p same stores goes push w.disks fills zeroed faults in
    record {
      closed = none-then fault _ _ (λ ok. all-held u v spaces G (seen ys) p.memory p (ok-then pushed _ stores ok.0) w (subst (λ (l : List (ℕ × DiskSeen)). FillsPages v.files l G (seen ys) (λ (n : PageName). Unit {0})) same ok.1) whole) fills;
      filled = none-then fault _ _ (λ ok. none-blank u v spaces G (seen ys) p.memory p (ok-then pushed _ stores ok.0) w (subst (λ (l : List (ℕ × DiskSeen)). FillsPages v.files l G (seen ys) (λ (n : PageName). Unit {0})) same ok.1) whole) fills;
      last = some-then fault _ _ (λ f is. first-fault u v spaces pushed seen xs ys f fits p same push is) faults;
      written = written;
      left = left-then u (seen ys) fault written;
      disks = keep-disks-then u.files v.files (disks_of u) (disks_of v) (seen ys) (records-of u v p.tables) (push-disks u v spaces p) w.disks;
      files = records-then u.files v.files G (records-of u v p.tables) w.records;
    }
