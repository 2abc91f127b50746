-- A FLIGHT COMES BACK: the notes fit then without its seat's, and the disks tell where they told.
use Rattle.std.proofs.Common.{◌≡◌, ◌≢◌, ℕ, Bool, true, false, List, Option, Some, None, refl, sym, ap, ◌∙◌, ◌⊎◌, inl, inr, subst}
use Rattle.std.specs.Prelude.{IsTrue, IsSome, is_some, unwrap_or}
use Rattle.std.proofs.lemmas.Bool.{cases_eq, cases_Bool}
use Rattle.page_store.specs.core_arena.Bytes.{bytes_at}
use Rattle.page_store.specs.page_hash.Names.{name_at}
use Rattle.page_store.specs.page_hash.declared.PageName.{PageName}
use Rattle.page_store.specs.page_lock.Rows.{row_at}
use Rattle.page_store.specs.Flight.{FlightSeen, Progress, fresh, done, failed}
use Rattle.page_store.specs.Notes.{Note, Notes, with_note}
use Rattle.page_store.specs.Seen.{StoreSeen, own_frame, residence}
use Rattle.page_store.specs.StoreFits.{IsClean}
use Rattle.page_store.specs.Transfers.{EndsValues, was_rewritten, is_rewritten_in}
use Rattle.page_store.specs.declared.residence.Residence.TheVariants.{Home, Absent}
use Rattle.page_store.proofs.Agree.{own-far, own-other}
use Rattle.page_store.proofs.FrameLaws.{copy-apart, some-or-none}
use Rattle.page_store.proofs.QueryLemmas.{residence-home}
use Rattle.page_store.proofs.TransferLemmas.{with_note-same, with_note-other}
use Rattle.vm_world.specs.NotesFit.{NotesFit, PushFits}
use Rattle.vm_world.specs.TranslationsFit.{HasWritten, IsModified}
use Rattle.vm_world.specs.World.{World, world_table}
use Rattle.seg_ops.proofs.Lands.{Lands, was-named, home-stays, own-or-aside}
use Rattle.seg_ops.proofs.LandsMemory.{Noted, ungone-note, page-pushed, page-named, modified-aside}
use Rattle.seg_ops.proofs.StillSteps.{KeepsRow, with_tables}

-- THE NOTE OF ANOTHER SEAT: its frame is another.
pub record IsAnother (w : World) (f : FlightSeen) (notes : Notes) (t : ℕ) (x : Note) : Type 0 where
  pub seat : t ≢ f.seat
  pub noted : notes t ≡ Some x
  pub apart : x.frame ≢ f.frame

pub is-another : (w : World) (new : StoreSeen) (f : FlightSeen) (notes : Notes) (note : Note) (t : ℕ) (x : Note) → Lands w.store new f → Noted w f notes note → with_note notes f.seat None t ≡ Some x → IsAnother w f notes t x
is-another w new f notes note t x c k is = elim (cases_eq t f.seat) [
  | inl e ↦ absurd (let z : None ≡ Some x = sym (with_note-same notes f.seat None) ∙ ap (with_note notes f.seat None) (sym e) ∙ is in cc)
  | inr ne ↦
      let at : notes t ≡ Some x = sym (with_note-other notes f.seat t None ne) ∙ is in
      let held = (k.fit.stored.each_note t x at).out.holder in
      record {
        seat = ne;
        noted = at;
        apart = λ e. ne (let z : Some t ≡ Some f.seat = sym held ∙ ap (λ (i : ℕ). (row_at w.store.rows i).holder) e ∙ c.out.out.holder in cc);
      }
]

-- a push of another seat
source-kept : (old new : StoreSeen) (o : Option ℕ) (note : ℕ) → KeepsRow (row_at old.rows (unwrap_or o note)) (row_at new.rows (unwrap_or o note)) → is_rewritten_in o old ≡ true → is_rewritten_in o new ≡ true
source-kept old new None note k h = absurd (let z : false ≡ true = h in cc)
source-kept old new (Some own) note k h = k.rewritten h

push-lands : (w : World) (new : StoreSeen) (f : FlightSeen) (notes : Notes) (t : ℕ) (x : Note) → Lands w.store new f → IsAnother w f notes t x → PushFits w.store w.hat.places (world_table w) x → PushFits new w.hat.places (world_table w) x
push-lands w new f notes t x c a p =
    let source : (row_at new.rows x.frame).source ≡ (row_at w.store.rows x.frame).source = (c.aside x.frame a.apart).row.source in
    let own : own_frame new x.frame ≡ own_frame w.store x.frame = ap (λ (o : Option ℕ). unwrap_or o x.frame) source in
    let kept = c.aside (own_frame w.store x.frame) (own-far w.store x.frame f.frame c.sound a.apart c.single) in
    record {
      pushed = p.pushed;
      same = elim p.same [
        | inl r ↦ inl (elim r [
          | inl was ↦ inl (ap (λ (o : Option ℕ). is_rewritten_in o new) source ∙ source-kept w.store new (row_at w.store.rows x.frame).source x.frame kept.row was)
          | inr y ↦ inr (subst (λ (i : ℕ). HasWritten w.hat.places i) (sym own) y)
        ])
        | inr sent ↦ inr (record { valid = sent.valid; bytes = λ b h. sent.bytes b (sym kept.bytes ∙ ap (bytes_at new.frames) (sym own) ∙ h) })
      ];
    }

-- THE FLIGHT'S PAGE, at home in its own frame: modified, or clean.
outcome-is : (o : Progress) → o ≢ fresh → (o ≡ done) ⊎ (o ≡ failed)
outcome-is fresh ne = absurd (ne refl)
outcome-is done ne = inl refl
outcome-is failed ne = inr refl

-- after a transfer that was done, a page that has the bytes and the valid bytes of the note is clean
clean-done : (w : World) (new : StoreSeen) (f : FlightSeen) (notes : Notes) (note : Note) → Lands w.store new f → Noted w f notes note → (row_at w.store.rows f.frame).gone ≡ false → f.outcome ≡ done
    → (world_table w note.name).valid ≡ note.valid → bytes_at new.frames (own_frame w.store f.frame) ≡ Some f.bytes
    → IsClean new (with_note notes f.seat None) (world_table w) (own_frame w.store f.frame) note.name
clean-done w new f notes note c k live ended valid here =
    let agrees = k.fit.stored.each_note f.seat note k.mine in
    let blank = page-pushed w f notes note k live in
    c.laws.clean notes note (world_table w) (world_table w) k.fit.stored k.mine k.performed live ended here
    (λ i. record { disk = agrees.disk i; block = agrees.block i; valid = valid i; blank = blank i })

-- the bytes that are home beside a snapshot, or come home
here-now : (w : World) (new : StoreSeen) (f : FlightSeen) (note : Note) (o : Option ℕ) → Lands w.store new f → (row_at w.store.rows f.frame).source ≡ o → f.bytes ≡ note.bytes
    → ((b : List ℕ) → bytes_at w.store.frames (own_frame w.store f.frame) ≡ Some b → b ≡ note.bytes) → bytes_at new.frames (own_frame w.store f.frame) ≡ Some f.bytes
here-now w new f note None c source kept same = c.laws.bytes source
here-now w new f note (Some own) c source kept same =
    let is = own-other w.store f.frame own source in
    let home = some-or-none (bytes_at w.store.frames own) in
    elim home [
      | inl none ↦ absurd (let z : true ≡ false = sym (c.sound.paired.home own f.frame (c.sound.paired.snapshot own f.frame source)) ∙ ap (λ (b : Option (List ℕ)). is_some b) none in cc)
      | inr b ↦
          let far : own ≢ f.frame = copy-apart w.store c.sound own f.frame source in
          ap (bytes_at new.frames) is ∙ (c.aside own far).bytes ∙ b.1 ∙ ap (λ (x : List ℕ). Some x) (same b.0 (ap (bytes_at w.store.frames) is ∙ b.1) ∙ sym kept)
    ]

own-page : (w : World) (new : StoreSeen) (f : FlightSeen) (notes : Notes) (note : Note) (there : IsSome (bytes_at new.frames (own_frame w.store f.frame))) → Lands w.store new f → Noted w f notes note → f.outcome ≢ fresh → (row_at w.store.rows f.frame).gone ≡ false
    → name_at new.names (own_frame w.store f.frame) ≡ Some note.name
    → IsModified new w.hat.places (own_frame w.store f.frame) ⊎ IsClean new (with_note notes f.seat None) (world_table w) (own_frame w.store f.frame) note.name
own-page w new f notes note there c k started live named = elim (outcome-is f.outcome started) [
  | inl ended ↦ elim (cases_Bool note.writes) [
    | inl writes ↦ pushed ended writes (k.fit.pushes f.seat note k.mine writes (λ gone. let z : true ≡ false = sym gone ∙ ungone-note w f notes note k live in cc))
    | inr reads ↦
        let f_reads : f.writes ≡ false = k.performed.direction ∙ reads in
        let agrees = (k.fit.stored.each_note f.seat note k.mine).read reads (ungone-note w f notes note k live) in
        inr (clean-done w new f notes note c k live ended agrees.0 (c.laws.bytes (c.out.out.read f_reads)))
  ]
  | inr lost ↦ elim (cases_Bool note.writes) [
    | inl writes ↦ inl (inl (c.laws.failed_write live lost (k.performed.direction ∙ writes)).bit)
    | inr reads ↦
        let absent : residence new f.name ≡ Absent = c.laws.failed_read live lost (k.performed.direction ∙ reads) in
        let home : residence new note.name ≡ Home (own_frame w.store f.frame) = residence-home new note.name (own_frame w.store f.frame) c.laws.sound.distinct named there in
        absurd (let z : Absent ≡ Home (own_frame w.store f.frame) = sym absent ∙ ap (residence new) k.performed.name ∙ home in cc)
  ]
]
  where
    pushed : f.outcome ≡ done → note.writes ≡ true → PushFits w.store w.hat.places (world_table w) note
        → IsModified new w.hat.places (own_frame w.store f.frame) ⊎ IsClean new (with_note notes f.seat None) (world_table w) (own_frame w.store f.frame) note.name
    pushed ended writes p = elim p.same [
      | inl r ↦ inl (elim r [
        | inl was ↦ inl ((c.laws.success live ended).bit ∙ ap (was_rewritten w.store) k.performed.frame ∙ was)
        | inr x ↦ inr (subst (λ (i : ℕ). HasWritten w.hat.places i) (ap (own_frame w.store) (sym k.performed.frame)) x)
      ])
      | inr sent ↦ inr (clean-done w new f notes note c k live ended sent.valid
          (here-now w new f note (row_at w.store.rows f.frame).source c refl (k.performed.kept writes) (λ b h. sent.bytes b (ap (λ (i : ℕ). bytes_at w.store.frames (own_frame w.store i)) (sym k.performed.frame) ∙ h))))
    ]

-- a clean page of another frame stays clean
clean-aside : (w : World) (new : StoreSeen) (f : FlightSeen) (notes : Notes) (note : Note) (j : ℕ) (n : PageName) → Lands w.store new f → Noted w f notes note → EndsValues w.store notes new (with_note notes f.seat None) (world_table w) note
    → j ≢ f.frame → IsClean w.store notes (world_table w) j n → IsClean new (with_note notes f.seat None) (world_table w) j n
clean-aside w new f notes note j n c k ends far is = record {
  same = λ tell b h.
      is.same (subst (λ (x : Bool). IsTrue x) (ends.alike (world_table w n).disk) tell) b (sym (c.aside j far).bytes ∙ h)
      ∙ sym (ends.stored n (λ blank writes e. let z : true ≡ false = sym (is.unwritten f.seat note k.mine writes (sym e)).1 ∙ blank in cc));
  unwritten = λ t x at writes same.
      let a = is-another w new f notes note t x c k at in
      let u = is.unwritten t x a.noted writes same in
      ((c.aside x.frame a.apart).row.gone ∙ u.0, u.1);
}

-- THE NOTES, without the seat's.
pub lands-notes : (w : World) (new : StoreSeen) (f : FlightSeen) (notes : Notes) (note : Note) → Lands w.store new f → Noted w f notes note → f.outcome ≢ fresh → NotesFit (with_tables w new w.hat) (with_note notes f.seat None)
lands-notes w new f notes note c k started =
    let ends = c.laws.values notes note (world_table w) k.fit.stored k.mine k.performed in
    record {
      stored = ends.fits;
      clean = λ j n h there.
          let was = was-named w.store new f j n c h in
          elim (own-or-aside w.store new f j n c h) [
            | inl own ↦ own-clean j n own.0 own.1 h there
            | inr far ↦ elim (k.fit.clean j n was (subst (λ (b : Option (List ℕ)). IsSome b) (c.aside j far.0).bytes there)) [
              | inl m ↦ inl (modified-aside w.store new f w.hat.places j c far.0 far.1 m)
              | inr is ↦ inr (clean-aside w new f notes note j n c k ends far.0 is)
            ]
          ];
      pushes = λ t x at writes there.
          let a = is-another w new f notes note t x c k at in
          push-lands w new f notes t x c a (k.fit.pushes t x a.noted writes (λ gone. there ((c.aside x.frame a.apart).row.gone ∙ gone)));
      gone = λ t x at writes gone.
          let a = is-another w new f notes note t x c k at in
          elim (k.fit.gone t x a.noted writes (sym (c.aside x.frame a.apart).row.gone ∙ gone)) [
            | inl blank ↦ inl blank
            | inr b ↦ elim b [
              | inl none ↦ inr (inl none)
              | inr anew ↦ inr (inr (anew.0, home-stays w.store new f x.name anew.0 c anew.1))
            ]
          ];
      sizes = λ t x at. k.fit.sizes t x (is-another w new f notes note t x c k at).noted;
    }
  where
    own-clean : (j : ℕ) (n : PageName) → j ≡ own_frame w.store f.frame → (row_at w.store.rows f.frame).gone ≡ false → name_at new.names j ≡ Some n → IsSome (bytes_at new.frames j)
        → IsModified new w.hat.places j ⊎ IsClean new (with_note notes f.seat None) (world_table w) j n
    own-clean j n e live h there =
        let here : name_at new.names (own_frame w.store f.frame) ≡ Some n = ap (name_at new.names) (sym e) ∙ h in
        let same = page-named w new f notes note n c k live (was-named w.store new f (own_frame w.store f.frame) n c here) in
        subst (λ (i : ℕ). IsModified new w.hat.places i ⊎ IsClean new (with_note notes f.seat None) (world_table w) i n) (sym e)
        (subst (λ (m : PageName). IsModified new w.hat.places (own_frame w.store f.frame) ⊎ IsClean new (with_note notes f.seat None) (world_table w) (own_frame w.store f.frame) m) (sym same)
        (own-page w new f notes note (subst (λ (i : ℕ). IsSome (bytes_at new.frames i)) e there) c k started live (here ∙ ap (λ (m : PageName). Some m) same)))
