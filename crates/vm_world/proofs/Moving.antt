-- The marks of a state as transfers begin and end.
use Rattle.std.proofs.Common.{◌≡◌, ◌≢◌, ℕ, ◌<◌, ◌+◌, ◌==◌, Bool, true, false, cond, List, [], length, map, Option, Some, None, refl, sym, ap, ◌∙◌, inl, inr, subst, arith}
use Rattle.std.specs.Prelude.{option_map, is_some, IsTrue, ◌&&◌, not}
use Rattle.std.proofs.lemmas.Bool.{cases_Bool, cases_eq}
use Rattle.std.proofs.lemmas.Bool.Decides.{eqb_tells}
use Rattle.std.proofs.lemmas.List.{get_or-set_other}
use Rattle.std.proofs.lemmas.Option.{slice_get_within}
use Rattle.flat_model.specs.Flat.{Flat}
use Rattle.flat_model.specs.History.{replay}
use Rattle.page_store.specs.block_device.DiskSeen.{with_block}
use Rattle.page_store.specs.page_hash.declared.PageName.{PageName}
use Rattle.page_store.proofs.page_hash.NameLaws.{find-some}
use Rattle.page_store.specs.page_lock.Rows.{row_at}
use Rattle.page_store.specs.Bays.{BaySeen, out, bay_at, block_of}
use Rattle.page_store.specs.Bytes.{clip}
use Rattle.page_store.specs.Flight.{FlightSeen, Progress, fresh, done, failed, IsWritten, IsPerformed}
use Rattle.page_store.specs.Notes.{Note, Notes, with_note}
use Rattle.page_store.specs.StoreFits.{NoteAgrees}
use Rattle.page_store.specs.Value.{content_of, content_in_bay, value, value_in, frame_value, note_of_holder, backing_value}
use Rattle.page_store.specs.declared.place.Place.{Place}
use Rattle.page_store.proofs.LayoutLemmas.{place-cases}
use Rattle.page_store.proofs.TransferLemmas.{home-within}
use Rattle.mark_laws.specs.disk_marks.Marks.{MarksSeen}
use Rattle.mark_laws.specs.disk_marks.Changes.{marks_begun}
use Rattle.mark_laws.specs.Pages.{bytes_there, disk_place, HavePlacesApart}
use Rattle.mark_laws.specs.MarksFit.{PushesFile, MarksFit}
use Rattle.mark_laws.specs.MarkLaws.{SendsPage, LeavesBlocks, HasAlone, marks_by}
use Rattle.mark_laws.proofs.Ending.{marks_rule}
use Rattle.vm_world.specs.FlatMemory.{flat_memory}
use Rattle.vm_world.specs.HistoryFits.{HistoryFits}
use Rattle.vm_world.specs.Pages.{page_value}
use Rattle.vm_world.specs.State.{KernelState, Seats, Sent, notes_of, with_sent}
use Rattle.vm_world.specs.StateSteps.{after_step, ComesBack}
use Rattle.flat_model.specs.vnode_files.Files.{vnode_at}
use Rattle.vm_world.specs.World.{World, world_table, page_exists, is_unpushed, file_blocks, AllTell}
use Rattle.vm_world.specs.WorldSteps.{WorldStep, leaves, returns}
use Rattle.vm_world.proofs.FlatWhole.{some-inj}
use Rattle.vm_world.proofs.PageNames.{not-slot}
use Rattle.vm_world.specs.MarksOf.{MarksOf, SendsFrame, marks_ended}
use Rattle.vm_world.specs.StateMarks.{PagesFit, StateMarksLaw}
use Rattle.mark_laws.proofs.Along.{before-some}
use Rattle.vm_world.proofs.Places.{real, below, ends-there, place-there, valid-there, shows-there, places-apart, place-low}
use Rattle.vm_world.proofs.Contents.{content-leaves, content-noted, content-apart}

-- the notes of the seats as one has a transfer outside, and as it has none any more
pub notes-leave : (seats : Seats) (seat : ℕ) (sent : Sent) → notes_of (with_sent seats seat (Some sent)) ≡ with_note (notes_of seats) seat (Some sent.note)
notes-leave seats seat sent = λ i k. by_seat (k == seat) k i
  where
    by_seat : (b : Bool) (k : ℕ) → option_map (λ (s : Sent). s.note) (cond b (Some sent) (seats k)) ≡ cond b (Some sent.note) (option_map (λ (s : Sent). s.note) (seats k))
    by_seat true k = refl
    by_seat false k = refl

pub notes-return : (seats : Seats) (seat : ℕ) → notes_of (with_sent seats seat None) ≡ with_note (notes_of seats) seat None
notes-return seats seat = λ i k. by_seat (k == seat) k i
  where
    by_seat : (b : Bool) (k : ℕ) → option_map (λ (s : Sent). s.note) (cond b None (seats k)) ≡ cond b None (option_map (λ (s : Sent). s.note) (seats k))
    by_seat true k = refl
    by_seat false k = refl

-- a disk tells after its transfer where it told before it
pub performed-tells : (note : Note) (f : FlightSeen) → IsPerformed note f → is_some f.disk.content ≡ is_some note.disk.content
performed-tells note f performed = elim (cases_Bool note.writes) [
  | inl writes ↦ by_outcome f.outcome (performed.written writes)
  | inr reads ↦ ap (λ (c : Option (List (List ℕ))). is_some c) (performed.unchanged reads)
]
  where
    some-block : (c : Option (List (List ℕ))) (block : ℕ) (x : List ℕ) → is_some (with_block c block x) ≡ is_some c
    some-block None block x = refl
    some-block (Some blocks) block x = refl

    by_outcome : (p : Progress) → IsWritten note f p → is_some f.disk.content ≡ is_some note.disk.content
    by_outcome fresh w = absurd w
    by_outcome done w = ap (λ (c : Option (List (List ℕ))). is_some c) w ∙ some-block note.disk.content note.block (clip note.valid note.bytes)
    by_outcome failed w = ap (λ (c : Option (List (List ℕ))). is_some c) w.2 ∙ some-block note.disk.content note.block w.0

module _ (opening : Flat) (s : KernelState) (new : World) (cut : PageName → Bool) (pending seat : ℕ) (seats : Seats) (sent : Sent) (m : MarksSeen) (fit : PagesFit opening s seats) (marks : MarksOf opening s seats m) where
  abbrev w : World
  w = s.memory.world

  abbrev notes : Notes
  notes = notes_of seats

  -- A TRANSFER LEAVES: what the disks have stays.
  module _ (idle : seats seat ≡ None) (step : WorldStep s.memory.world new s.memory.spaces (leaves seat sent.note) cut) where
    no-note : notes_of seats seat ≡ None
    no-note = ap (option_map (λ (x : Sent). x.note)) idle

    contents-same : content_of new.store (with_note notes seat (Some sent.note)) ≡ content_of w.store notes
    contents-same = λ i k. content-leaves w.store.bays new.store.bays notes seat sent.note no-note
        (λ j t at. let b = fit.notes.stored.each_bay j t at in ap is_some b.1) step.bays.0 step.bays.1 (home-within w.store.bays sent.note.number sent.note.disk step.bays.0) k i

    moved : (x : MarksSeen) → (AllTell w notes → MarksFit opening s.history (content_of w.store notes) (with_note notes seat (Some sent.note)) x)
        → MarksOf opening (after_step s new pending) (with_sent seats seat (Some sent)) x
    moved x is = subst (λ (n : Notes). AllTell new n → MarksFit opening s.history (content_of new.store n) n x) (sym (notes-leave seats seat sent))
        (λ tell. subst (λ (c : ℕ → Option (List (List ℕ))). MarksFit opening s.history c (with_note notes seat (Some sent.note)) x) (sym contents-same)
        (is ((step.tells notes no-note fit.notes).1 tell)))

    pub marks-leave : ¬ PushesFile sent.note → MarksOf opening (after_step s new pending) (with_sent seats seat (Some sent)) m
    marks-leave aside = moved m (λ tell. marks_rule.leaves opening s.history (content_of w.store notes) notes m seat sent.note (marks tell) no-note aside)

    pub marks-begin : seat < length m.pushes → SendsFrame s.memory.world sent.note
        → MarksOf opening (after_step s new pending) (with_sent seats seat (Some sent)) (marks_begun m seat sent.note.name.object sent.note.name.page (length s.history))
    marks-begin room sends = moved (marks_begun m seat sent.note.name.object sent.note.name.page (length s.history)) (λ tell.
        marks_rule.begins opening s.history (content_of w.store notes) notes m seat sent.note (marks tell) no-note room (sends-page (fit.replays tell)))
      where
        exists : IsTrue (page_exists s.memory.world.files s.memory.world.anon sent.note.name)
        exists = fit.memory.frames.exist sends.frame sent.note.name sends.holds

        sends-page : HistoryFits opening s.history s.pending (flat_memory s.memory s.born (notes_of seats)) → SendsPage (replay opening s.history) sent.note
        sends-page h =
            let end : sent.note.valid ≡ bytes_there (replay opening s.history) sent.note.name = sym sends.valid ∙ valid-there s.memory s.born notes opening s.history s.pending h sent.note.name fit.memory.files sends.pushes.far exists in
            record {
              pushes = sends.pushes;
              place = place-there s.memory s.born notes opening s.history s.pending h sent.note.name fit.memory.files sends.pushes.far exists ∙ (λ i. Some (sends.disk i, sends.block i));
              inside = let low = below s.memory s.born notes opening s.history s.pending h sent.note.name fit.memory.files sends.pushes.far exists in
                  subst (λ (n : ℕ). 0 < n) (sym (ends-there s.memory s.born notes opening s.history s.pending h sent.note.name fit.memory.files sends.pushes.far exists)) (before-some (vnode_at s.memory.world.files sent.note.name.object).info.length sent.note.name.page low);
              valid = end;
              page = ap (λ (n : ℕ). clip n sent.note.bytes) end
                  ∙ ap (clip (bytes_there (replay opening s.history) sent.note.name)) (sym shows)
                  ∙ sym (shows-there s.memory s.born notes opening s.history s.pending h sent.note.name fit.memory.files sends.pushes.far exists);
            }
          where
            shows : page_value w notes sent.note.name ≡ sent.note.bytes
            shows = ap (λ (b : Bool). cond b (value w.store notes (world_table w) sent.note.name) []) (real s.memory s.born notes opening s.history s.pending h sent.note.name fit.memory.files sends.pushes.far exists)
                ∙ ap (λ (f : Option ℕ). value_in f w.store notes (world_table w sent.note.name)) (find-some w.store.names sent.note.name sends.frame fit.memory.frames.sound.distinct sends.holds)
                ∙ ap (λ (b : Option (List ℕ)). frame_value b (note_of_holder (row_at w.store.rows sends.frame).holder notes) (backing_value w.store notes (world_table w sent.note.name))) sends.bytes

  -- A TRANSFER COMES BACK.
  module _ (f : FlightSeen) (is_sent : seats seat ≡ Some sent) (step : WorldStep s.memory.world new s.memory.spaces (returns seat sent.note) cut) (back : ComesBack sent.note f new) where
    noted : notes_of seats seat ≡ Some sent.note
    noted = ap (option_map (λ (x : Sent). x.note)) is_sent

    agrees : NoteAgrees s.memory.world.store (world_table s.memory.world) seat sent.note
    agrees = fit.notes.stored.each_note seat sent.note noted

    one : (k : ℕ) → bay_at s.memory.world.store.bays k ≡ out seat → k ≡ sent.note.number
    one k at =
        let b = fit.notes.stored.each_bay k seat at in
        let same : b.0 ≡ sent.note = some-inj b.0 sent.note (sym b.1 ∙ noted) in
        sym b.2 ∙ ap (λ (n : Note). n.number) same

    abbrev now : ℕ → Option (List (List ℕ))
    now k = content_in_bay (bay_at new.store.bays k) (with_note (notes_of seats) seat None)

    abbrev was : ℕ → Option (List (List ℕ))
    was k = content_in_bay (bay_at s.memory.world.store.bays k) (notes_of seats)

    pub here : now sent.note.number ≡ f.disk.content
    here = ap (λ (b : BaySeen). content_in_bay b (with_note (notes_of seats) seat None)) back.disk

    pub there : was sent.note.number ≡ sent.note.disk.content
    there = content-noted w.store.bays new.store.bays notes seat sent.note step.bays.1.0 noted one step.bays.0 step.bays.1.1

    pub elsewhere : (k : ℕ) → k ≢ sent.note.number → now k ≡ was k
    elsewhere k ne = content-apart w.store.bays new.store.bays notes seat sent.note step.bays.1.0 noted one step.bays.0 step.bays.1.1 k ne

    -- what became of the disk
    pub other-block : (block : ℕ) → (sent.note.writes ≡ true → block ≢ sent.note.block) → block_of f.disk.content block ≡ block_of sent.note.disk.content block
    other-block block far = elim (cases_Bool sent.note.writes) [
      | inl writes ↦ by_outcome f.outcome (back.performed.written writes) (far writes)
      | inr reads ↦ ap (λ (c : Option (List (List ℕ))). block_of c block) (back.performed.unchanged reads)
    ]
      where
        set-other : (c : Option (List (List ℕ))) (x : List ℕ) → block ≢ sent.note.block → block_of (with_block c sent.note.block x) block ≡ block_of c block
        set-other None x ne = refl
        set-other (Some blocks) x ne = get_or-set_other blocks sent.note.block block x [] ne

        by_outcome : (p : Progress) → IsWritten sent.note f p → block ≢ sent.note.block → block_of f.disk.content block ≡ block_of sent.note.disk.content block
        by_outcome fresh w ne = absurd w
        by_outcome done w ne = ap (λ (c : Option (List (List ℕ))). block_of c block) w ∙ set-other sent.note.disk.content (clip sent.note.valid sent.note.bytes) ne
        by_outcome failed w ne = ap (λ (c : Option (List (List ℕ))). block_of c block) w.2 ∙ set-other sent.note.disk.content w.0 ne

    -- a slot's page is on no disk of files
    pub swap-far : sent.note.name.object ≡ 64 → (disk : ℕ) → disk < 8 → disk ≢ sent.note.number
    swap-far slot disk low same =
        let at = agrees.disk in
        elim (place-cases (map file_blocks s.memory.world.files.files) (length s.memory.world.anon.counts) (is_unpushed s.memory.world.files s.memory.world.anon) sent.note.name) [
          | inl k ↦
              let few = fit.memory.files.disjoint.few in
              let lt = slice_get_within (map file_blocks s.memory.world.files.files) sent.note.name.object k.0 k.2.number in
              omega (arith, few, lt, slot)
          | inr r ↦ elim r [
            | inl p ↦ let e : (world_table s.memory.world sent.note.name).disk ≡ 8 = ap (λ (x : Place). x.disk) p.1 in omega (arith, e, at, low, same)
            | inr p ↦ let e : (world_table s.memory.world sent.note.name).disk ≡ sent.note.name.object + 9 = ap (λ (x : Place). x.disk) p in omega (arith, e, at, low, same)
          ]
        ]

    alone : HasAlone (notes_of seats) seat sent.note
    alone k other is ne same =
        let a = (fit.notes.stored.each_note k other is).out.bay in
        let e : out k ≡ out seat = sym a ∙ ap (bay_at s.memory.world.store.bays) same ∙ agrees.out.bay in
        ne (out-inj k seat e)
      where
        out-inj : (x y : ℕ) → out x ≡ out y → x ≡ y
        out-inj x y e = cc

    module _ (tell : AllTell s.memory.world (notes_of seats)) where
      h : HistoryFits opening s.history s.pending (flat_memory s.memory s.born (notes_of seats))
      h = fit.replays tell

      have : MarksFit opening s.history was (notes_of seats) m
      have = marks tell

      apart : HavePlacesApart (replay opening s.history)
      apart = places-apart s.memory s.born notes opening s.history s.pending h fit.memory.files

      low : (name : PageName) (disk block : ℕ) → disk_place (replay opening s.history) name ≡ Some (disk, block) → (name.object ≢ 64) × (disk < 8)
      low name disk block at = place-low s.memory s.born notes opening s.history s.pending h fit.memory.files name disk block at

      blocks-left : LeavesBlocks (replay opening s.history) sent.note was now
      blocks-left = record {
        tells = λ disk. elim (cases_eq disk sent.note.number) [
          | inl e ↦ subst (λ (k : ℕ). is_some (now k) ≡ is_some (was k)) (sym e) (ap (λ (c : Option (List (List ℕ))). is_some c) here ∙ performed-tells sent.note f back.performed ∙ sym (ap (λ (c : Option (List (List ℕ))). is_some c) there))
          | inr ne ↦ ap (λ (c : Option (List (List ℕ))). is_some c) (elsewhere disk ne)
        ];
        others = λ name disk block at other. elim (cases_eq disk sent.note.number) [
          | inl e ↦ subst (λ (k : ℕ). block_of (now k) block ≡ block_of (was k) block) (sym e)
              (ap (λ (c : Option (List (List ℕ))). block_of c block) here
              ∙ other-block block (λ writes same. elim (cases_eq sent.note.name.object 64) [
                | inl slot ↦ swap-far slot disk (low name disk block at).1 e
                | inr far ↦ other writes (apart name sent.note.name disk block at (have.places seat sent.note noted writes far ∙ (λ i. Some (sym e i, sym same i))))
              ])
              ∙ sym (ap (λ (c : Option (List (List ℕ))). block_of c block) there))
          | inr ne ↦ ap (λ (c : Option (List (List ℕ))). block_of c block) (elsewhere disk ne)
        ];
      }

      aside : ¬ PushesFile sent.note → MarksFit opening s.history now (with_note (notes_of seats) seat None) m
      aside none = marks_rule.returns opening s.history was now notes m seat sent.note have noted none blocks-left (λ name disk block at. (low name disk block at).0)

      by_write : (a b : Bool) → sent.note.writes ≡ a → (sent.note.name.object == 64) ≡ b → MarksFit opening s.history now (with_note (notes_of seats) seat None) (cond (a && not b) (marks_by m seat sent.note (length s.history) f f.outcome) m)
      by_write false b x y = aside (λ p. let z : false ≡ true = sym x ∙ p.writes in cc)
      by_write true true x y = aside (λ p. let z : false ≡ true = sym (not-slot sent.note.name.object p.far) ∙ y in cc)
      by_write true false x y = marks_rule.ends opening s.history was now notes m seat sent.note f have h.legal apart noted alone
          (record { writes = x; far = λ e. let z : false ≡ true = sym y ∙ slot-is sent.note.name.object e in cc }) agrees.bytes back.performed blocks-left here
        where
          slot-is : (o : ℕ) → o ≡ 64 → (o == 64) ≡ true
          slot-is o e = elim (eqb_tells o 64) [ inl same ↦ same.0 | inr ne ↦ absurd (ne.1 e) ]

      ended : MarksFit opening s.history now (with_note (notes_of seats) seat None) (marks_ended m seat sent.note (length s.history) f)
      ended = by_write sent.note.writes (sent.note.name.object == 64) refl refl

    pub marks-end : MarksOf opening (after_step s new pending) (with_sent seats seat None) (marks_ended m seat sent.note (length s.history) f)
    marks-end = subst (λ (n : Notes). AllTell new n → MarksFit opening s.history (content_of new.store n) n (marks_ended m seat sent.note (length s.history) f)) (sym (notes-return seats seat))
        (λ tell. ended ((step.tells notes noted fit.notes).1 tell))

pub state_marks_rule : StateMarksLaw
state_marks_rule = record {
  begins = λ opening s new cut pending seat seats sent m fit marks idle room step sends. marks-begin opening s new cut pending seat seats sent m fit marks idle step room sends;
  leaves = λ opening s new cut pending seat seats sent m fit marks idle step aside. marks-leave opening s new cut pending seat seats sent m fit marks idle step aside;
  ends = λ opening s new cut pending seat seats sent f m fit marks is step back. marks-end opening s new cut pending seat seats sent m fit marks f is step back;
}
