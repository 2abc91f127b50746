-- A FLIGHT COMES BACK: every page that exists keeps its value. The step of the world.
use Rattle.std.proofs.Common.{◌≡◌, ◌≢◌, ℕ, true, false, List, Option, Some, None, refl, sym, ap, ◌∙◌, ◌⊎◌, inl, inr, subst, slice_set}
use Rattle.std.specs.Prelude.{IsTrue, IsSome, is_some, is_none, ◌↔◌}
use Rattle.std.proofs.lemmas.Bool.{cases_Bool}
use Rattle.page_store.specs.core_arena.Bytes.{bytes_at}
use Rattle.page_store.specs.page_hash.Names.{find, name_at}
use Rattle.page_store.specs.page_hash.declared.PageName.{PageName}
use Rattle.page_store.proofs.page_hash.NameLaws.{find-at, find-none}
use Rattle.page_store.specs.page_lock.Rows.{row_at}
use Rattle.page_store.specs.Bays.{home, out, bay_at}
use Rattle.page_store.specs.Flight.{FlightSeen, fresh}
use Rattle.page_store.specs.Moves.{SameDisksTell}
use Rattle.page_store.specs.Notes.{Note, Notes, with_note}
use Rattle.page_store.specs.Seen.{StoreSeen, IsGone, own_frame, residence}
use Rattle.page_store.specs.Value.{value}
use Rattle.page_store.specs.declared.residence.Residence.TheVariants.{Home}
use Rattle.page_store.proofs.Agree.{own-self}
use Rattle.page_store.proofs.FrameLaws.{agrees-at, named-ungone, named-unsourced, some-or-none}
use Rattle.page_store.proofs.QueryLemmas.{found-row, residence-home}
use Rattle.page_store.proofs.TransferLemmas.{is-or-not}
use Rattle.vm_world.specs.MemoryFits.{MemoryFits}
use Rattle.vm_world.specs.NotesFit.{NotesFit}
use Rattle.vm_world.specs.Segments.{Spaces}
use Rattle.vm_world.specs.World.{World, world_table, page_exists, is_page_name, is_unpushed, AllTell}
use Rattle.vm_world.specs.WorldSteps.{WorldStep, returns}
use Rattle.vm_world.proofs.FrameRule.{exists-page}
use Rattle.seg_ops.proofs.Fills.{blank-is}
use Rattle.seg_ops.proofs.FillSteps.{absent-zeros}
use Rattle.seg_ops.proofs.Lands.{Lands, was-named}
use Rattle.seg_ops.proofs.LandsMemory.{Noted, lands-memory}
use Rattle.seg_ops.proofs.LandsNotes.{lands-notes}
use Rattle.seg_ops.proofs.StillSteps.{with_tables, memory_of, value-is}

-- A FRAME THAT IS AWAY with the name of a gone page that is pushed: there is none, as its seat would have the disk too.
away-unnamed : (w : World) (new : StoreSeen) (f : FlightSeen) (notes : Notes) (note : Note) (g : ℕ) → Lands w.store new f → Noted w f notes note → IsGone w.store note.frame → find w.store.names note.name ≡ Some g → bytes_at w.store.frames g ≡ None → ⊥
away-unnamed w new f notes note g c k gone found away =
    let s = w.store in
    let held = find-at s.names note.name g found in
    let agrees = agrees-at s c.sound g (found-row s note.name g c.sound found) in
    let live = named-ungone (bytes_at s.frames g) (name_at s.names g) (row_at s.rows g) agrees note.name held in
    let unsourced = named-unsourced (bytes_at s.frames g) (name_at s.names g) (row_at s.rows g) agrees note.name held in
    let seat = some-or-none (row_at s.rows g).holder in
    elim seat [
      | inl none ↦ let z : true ≡ false = sym (ap (λ (b : Option (List ℕ)). is_none b) away) ∙ agrees.away ∙ ap (λ (o : Option ℕ). is_some o) none in cc
      | inr t ↦
          let its = k.fit.stored.each_frame g t.0 t.1 in
          let x = its.0 in
          let theirs = k.fit.stored.each_note t.0 x its.1 in
          let mine = k.fit.stored.each_note f.seat note k.mine in
          let its_live : (row_at s.rows x.frame).gone ≡ false = ap (λ (i : ℕ). (row_at s.rows i).gone) its.2 ∙ live in
          let own : own_frame s x.frame ≡ g = ap (own_frame s) its.2 ∙ own-self s g unsourced in
          let name : x.name ≡ note.name = let z : Some x.name ≡ Some note.name = sym (theirs.out.page its_live) ∙ ap (name_at s.names) own ∙ held in cc in
          let number : x.number ≡ note.number = sym theirs.disk ∙ ap (λ (n : PageName). (world_table w n).disk) name ∙ mine.disk in
          let same_seat : t.0 ≡ f.seat = let z : out t.0 ≡ out f.seat = sym theirs.out.bay ∙ ap (bay_at s.bays) number ∙ mine.out.bay in cc in
          let same : x ≡ note = let z : Some x ≡ Some note = sym its.1 ∙ ap notes same_seat ∙ k.mine in cc in
          let z : true ≡ false = sym gone ∙ ap (λ (y : Note). (row_at s.rows y.frame).gone) (sym same) ∙ its_live in cc
    ]

-- each page that exists keeps its value
page-lands : (w : World) (spaces : Spaces) (new : StoreSeen) (f : FlightSeen) (notes : Notes) (note : Note) (n : PageName) → MemoryFits (memory_of w spaces) → Lands w.store new f → Noted w f notes note → AllTell w notes → IsTrue (page_exists w.files w.anon n)
    → value new (with_note notes f.seat None) (world_table w) n ≡ value w.store notes (world_table w) n
page-lands w spaces new f notes note n fits c k tell exists = elim (cases_Bool note.writes) [
  | inr reads ↦ kept (λ writes same. absurd (let z : true ≡ false = sym writes ∙ reads in cc))
  | inl writes ↦ elim (cases_Bool (row_at w.store.rows note.frame).gone) [
    | inr live ↦ kept (λ w_is same. inl live)
    | inl gone ↦ elim (is-or-not n note.name) [
      | inr ne ↦ kept (λ w_is same. absurd (ne same))
      | inl same ↦ elim (k.fit.gone f.seat note k.mine writes gone) [
        | inr b ↦ elim b [
          | inl none ↦ absurd (let z : true ≡ false = sym exists ∙ ap (page_exists w.files w.anon) same ∙ none in cc)
          | inr anew ↦ kept (λ w_is e. inr (anew.0, ap (residence w.store) same ∙ anew.1))
        ]
        | inl blank ↦ by_frame gone same blank.0 (find w.store.names note.name) refl
      ]
    ]
  ]
]
  where
    real : IsTrue (is_page_name w.files w.anon n)
    real = exists-page w n fits.files exists

    kept : (note.writes ≡ true → n ≡ note.name → ((row_at w.store.rows note.frame).gone ≡ false) ⊎ ((frame : ℕ) × (residence w.store n ≡ Home frame))) → value new (with_note notes f.seat None) (world_table w) n ≡ value w.store notes (world_table w) n
    kept there = (c.laws.values notes note (world_table w) k.fit.stored k.mine k.performed).values n (λ reads. tell n real) there

    by_frame : IsGone w.store note.frame → n ≡ note.name → IsTrue (is_unpushed w.files w.anon note.name) → (o : Option ℕ) → find w.store.names note.name ≡ o → value new (with_note notes f.seat None) (world_table w) n ≡ value w.store notes (world_table w) n
    by_frame gone same blank (Some g) found = elim (some-or-none (bytes_at w.store.frames g)) [
      | inl away ↦ absurd (away-unnamed w new f notes note g c k gone found away)
      | inr b ↦ kept (λ w_is e. inr (g, ap (residence w.store) same ∙ residence-home w.store note.name g c.sound.distinct (find-at w.store.names note.name g found) (subst (λ (x : Option (List ℕ)). IsSome x) (sym b.1) refl)))
    ]
    by_frame gone same blank None none =
        let zero : (world_table w n).blank ≡ true = blank-is w n fits.files real ∙ ap (is_unpushed w.files w.anon) same ∙ blank in
        let was : find w.store.names n ≡ None = ap (find w.store.names) same ∙ none in
        let now : find new.names n ≡ None = elim (some-or-none (find new.names n)) [
          | inl free ↦ free
          | inr g ↦ absurd (find-none w.store.names n g.0 was (was-named w.store new f g.0 n c (find-at new.names n g.0 g.1)))
        ] in
        absent-zeros new (with_note notes f.seat None) (world_table w) n now zero ∙ sym (absent-zeros w.store notes (world_table w) n was zero)

-- THE STEP.
pub lands-step : (w : World) (spaces : Spaces) (new : StoreSeen) (f : FlightSeen) (notes : Notes) (note : Note) → MemoryFits (memory_of w spaces) → Lands w.store new f → Noted w f notes note → f.outcome ≢ fresh → WorldStep w (with_tables w new w.hat) spaces (returns f.seat note) (λ name. false)
lands-step w spaces new f notes note fits c k started = record {
  tables = record { maps = refl; counts = refl; reserved = refl; disks = refl; infos = refl };
  core = λ i. record { origin = c.frame.origin i; order = c.frame.order i };
  frames = c.laws.touches.frames;
  bays = (ap (bay_at w.store.bays) (sym k.performed.number) ∙ c.out.out.bay, (f.disk, c.frame.bays ∙ ap (λ (n : ℕ). slice_set w.store.bays n (home f.disk)) k.performed.number));
  memory = lands-memory w spaces new f notes note fits c k;
  notes = λ others trip nf. lands-notes w new f others note c (noted others trip nf) started;
  tells = λ others trip nf. tell-lands others (c.laws.values others note (world_table w) nf.stored trip k.performed).alike;
  whole = λ others name trip nf tell exists cut. absurd (let z : false ≡ true = cut in cc);
  pages = λ others name trip nf tell exists.
      let is = exists-page w name fits.files exists in
      value-is (with_tables w new w.hat) (with_note others f.seat None) name is ∙ page-lands w spaces new f others note name fits c (noted others trip nf) tell exists ∙ sym (value-is w others name is);
}
  where
    noted : (others : Notes) → others f.seat ≡ Some note → NotesFit w others → Noted w f others note
    noted others trip nf = record { fit = nf; mine = trip; performed = k.performed }

    tell-lands : (others : Notes) → SameDisksTell w.store others new (with_note others f.seat None) → AllTell w others ↔ AllTell (with_tables w new w.hat) (with_note others f.seat None)
    tell-lands others alike = ((λ tell n is. alike (world_table w n).disk ∙ tell n is), (λ tell n is. sym (alike (world_table w n).disk) ∙ tell n is))
