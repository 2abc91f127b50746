-- WHAT GOES OUT, by the store's call: a frame that is read into, a snapshot, or the page's own frame.
use Rattle.std.proofs.Common.{◌≡◌, ◌≢◌, ℕ, ◌<◌, true, false, List, [], length, Option, Some, None, refl, sym, ap, ◌∙◌, inl, inr, subst, arith, slice_set, get_or-set_same, get_or-set_other, length-set}
use Rattle.std.specs.Option.{option_or}
use Rattle.std.specs.Prelude.{IsTrue, IsSome, unwrap_or}
use Rattle.std.proofs.lemmas.Bool.{cases_eq}
use Rattle.page_store.specs.core_arena.Bytes.{bytes_at}
use Rattle.page_store.specs.block_device.DiskSeen.{DiskSeen}
use Rattle.page_store.specs.page_hash.Names.{name_at, find, is_name}
use Rattle.page_store.specs.page_hash.declared.PageName.{PageName}
use Rattle.page_store.specs.page_lock.Rows.{row_at, clear_row}
use Rattle.page_store.specs.page_lock.declared.Row.{Row}
use Rattle.page_store.specs.Bays.{home, bay_at}
use Rattle.page_store.specs.Flight.{FlightSeen, note_of}
use Rattle.page_store.specs.Parts.{rows_without}
use Rattle.page_store.specs.Seen.{StoreSeen, IsSoundStore, IsListedFrame, own_frame, residence, residence_in}
use Rattle.page_store.specs.Steps.{next_frame, next_name, at_frame, home_bytes, held_row, with_read_begun, with_snapshot_sent, with_page_sent, with_push_begun, without_snapshot}
use Rattle.page_store.specs.Notes.{Notes}
use Rattle.page_store.specs.Transfers.{BeginsTransfer, CanBegin, LivesAt, after_begin, frame_out, frame_shown, is_push}
use Rattle.page_store.specs.Waits.{plan_page}
use Rattle.page_store.specs.declared.plan.Plan.{Plan}
use Rattle.page_store.specs.declared.plan.Plan.TheVariants.{Read, Push}
use Rattle.page_store.specs.declared.residence.Residence.TheVariants.{Home}
use Rattle.page_store.proofs.FillLemmas.{taken-home, taken-within, taken-name, taken-row, taken-snapshot}
use Rattle.page_store.proofs.QueryLemmas.{home-is, found-within}
use Rattle.page_store.proofs.TakeLemmas.{first-listed, rest-free, rest-cached}
use Rattle.vm_world.specs.MemoryFits.{MemoryFits}
use Rattle.vm_world.specs.NotesFit.{NotesFit}
use Rattle.vm_world.specs.Segments.{Spaces}
use Rattle.vm_world.specs.TranslationsFit.{IsModified}
use Rattle.vm_world.specs.World.{World, world_table, is_unpushed, page_exists}
use Rattle.vm_world.specs.WorldSteps.{WorldStep, leaves}
use Rattle.seg_ops.specs.Flights.{CanSend, IsUnloaded}
use Rattle.seg_ops.proofs.Evictions.{snapshot-noted}
use Rattle.vm_world.proofs.FrameRule.{exists-page}
use Rattle.seg_ops.proofs.Disks.{dirty-exists}
use Rattle.seg_ops.proofs.Fills.{held-by, blank-is}
use Rattle.seg_ops.proofs.Marks.{modified-unlisted}
use Rattle.seg_ops.proofs.Sends.{SendsNote, stayed, home-not-out, sends-step}
use Rattle.seg_ops.proofs.StillSteps.{memory_of, with_tables}
use Rattle.seg_ops.proofs.Sent.{Sends, KeepsFrame}

-- a frame whose row is the same, and which is on no list that it wasn't on
same-frame : (old new : StoreSeen) (name : PageName) (k : ℕ) → bytes_at new.frames k ≡ bytes_at old.frames k → name_at new.names k ≡ name_at old.names k → row_at new.rows k ≡ row_at old.rows k → (IsListedFrame new k → IsListedFrame old k) → KeepsFrame old new name k
same-frame old new name k bytes named row listed = record {
  bytes = bytes;
  name = named;
  keeps = ap (λ (r : Row). r.keeps) row;
  modified = ap (λ (r : Row). r.modified) row;
  gone = ap (λ (r : Row). r.gone) row;
  source = ap (λ (r : Row). r.source) row;
  rewritten = λ ne. ap (λ (r : Row). r.rewritten) row;
  listed = listed;
}

one-some : (a b : PageName) → Some a ≡ Some b → b ≡ a
one-some a b e = cc

-- A READ: the next frame, under the page's name.
sends-read : (s : StoreSeen) (f : FlightSeen) → IsSoundStore s → next_frame s ≡ Some f.frame → bay_at s.bays f.number ≡ home f.disk → BeginsTransfer s (with_read_begun s f.frame f.name f.seat f.number) (Read f.name) f.name f
    → Sends s (with_read_begun s f.frame f.name f.seat f.number) f.seat (note_of f)
sends-read s f sound next was laws =
    let new = with_read_begun s f.frame f.name f.seat f.number in
    let row = get_or-set_same s.rows f.frame (held_row clear_row f.seat) clear_row (taken-row s f.frame sound next) in
    record {
      sound = laws.sound;
      core = refl;
      frames = length-set s.frames f.frame None;
      was = was;
      bays = refl;
      filled = taken-home s f.frame sound next;
      held = inl (first-listed s.free s.cached f.frame next);
      single = taken-snapshot s f.frame sound next;
      away = get_or-set_same s.frames f.frame None None (taken-within s f.frame sound next);
      keeps = ap (λ (r : Row). r.keeps) row;
      ungone = laws.ungone;
      unlisted = laws.unlisted;
      named = λ n h. one-some f.name n (sym (get_or-set_same s.names f.frame (Some f.name) None (taken-name s f.frame sound next)) ∙ h);
      others = λ k ne. same-frame s new f.name k (get_or-set_other s.frames f.frame k None None ne) (get_or-set_other s.names f.frame k (Some f.name) None ne) (get_or-set_other s.rows f.frame k (held_row clear_row f.seat) clear_row ne)
          (λ l. elim l [ inl h ↦ inl ((rest-free s.free s.cached f.frame next k ne).0 h) | inr h ↦ inr ((rest-cached s.free s.cached f.frame next k ne).0 h) ]);
    }

-- A PUSH FROM A SNAPSHOT: the next frame, under no name; the page stays home beside it.
sends-copy : (s : StoreSeen) (f : FlightSeen) (own : ℕ) → IsSoundStore s → next_frame s ≡ Some f.frame → residence s f.name ≡ Home own → ¬ IsListedFrame s own → bay_at s.bays f.number ≡ home f.disk
    → BeginsTransfer s (with_snapshot_sent s own f.frame f.seat f.number) (Push f.name) f.name f → Sends s (with_snapshot_sent s own f.frame f.seat f.number) f.seat (note_of f)
sends-copy s f own sound next at unlisted was laws =
    let new = with_snapshot_sent s own f.frame f.seat f.number in
    let apart : f.frame ≢ own = λ e. unlisted (subst (λ (i : ℕ). IsListedFrame s i) e (first-listed s.free s.cached f.frame next)) in
    let lt : own < length s.rows = let a = found-within s f.name own sound (home-is s f.name own at).found in let b = sound.rows in omega (arith, a, b) in
    let held : Row = record clear_row { holder = Some f.seat; source = Some own } in
    let kept : Row = record (row_at s.rows own) { snapshot = Some f.frame; rewritten = false } in
    let inner = slice_set s.rows f.frame held in
    let row : row_at new.rows f.frame ≡ held = get_or-set_other inner own f.frame kept clear_row apart ∙ get_or-set_same s.rows f.frame held clear_row (taken-row s f.frame sound next) in
    let own_row : row_at new.rows own ≡ kept = get_or-set_same inner own kept clear_row (let e = length-set s.rows f.frame held in omega (arith, e, lt)) in
    let listed : (k : ℕ) → k ≢ f.frame → IsListedFrame new k → IsListedFrame s k =
    λ k ne l. elim l [ inl h ↦ inl ((rest-free s.free s.cached f.frame next k ne).0 h) | inr h ↦ inr ((rest-cached s.free s.cached f.frame next k ne).0 h) ] in
    record {
      sound = laws.sound;
      core = refl;
      frames = length-set s.frames f.frame None;
      was = was;
      bays = refl;
      filled = taken-home s f.frame sound next;
      held = inl (first-listed s.free s.cached f.frame next);
      single = taken-snapshot s f.frame sound next;
      away = get_or-set_same s.frames f.frame None None (taken-within s f.frame sound next);
      keeps = ap (λ (r : Row). r.keeps) row;
      ungone = laws.ungone;
      unlisted = laws.unlisted;
      named = λ n h. absurd (let z : None ≡ Some n = sym (get_or-set_same s.names f.frame None None (taken-name s f.frame sound next)) ∙ h in cc);
      others = λ k ne. elim (cases_eq k own) [
        | inl e ↦ subst (λ (i : ℕ). KeepsFrame s new f.name i) (sym e) (record {
          bytes = get_or-set_other s.frames f.frame own None None (λ q. apart (sym q));
          name = get_or-set_other s.names f.frame own None None (λ q. apart (sym q));
          keeps = ap (λ (r : Row). r.keeps) own_row;
          modified = ap (λ (r : Row). r.modified) own_row;
          gone = ap (λ (r : Row). r.gone) own_row;
          source = ap (λ (r : Row). r.source) own_row;
          rewritten = λ far. absurd (far (held-by s f.name own at));
          listed = listed own (λ q. apart (sym q));
        })
        | inr far ↦ same-frame s new f.name k (get_or-set_other s.frames f.frame k None None ne) (get_or-set_other s.names f.frame k None None ne)
            (get_or-set_other inner own k kept clear_row far ∙ get_or-set_other s.rows f.frame k held clear_row ne) (listed k ne)
      ];
    }

-- A PUSH FROM THE PAGE'S OWN FRAME.
sends-own : (s : StoreSeen) (f : FlightSeen) → IsSoundStore s → ((k : ℕ) → (row_at s.rows k).keeps ≡ 0) → residence s f.name ≡ Home f.frame → (row_at s.rows f.frame).snapshot ≡ None → bay_at s.bays f.number ≡ home f.disk
    → BeginsTransfer s (with_page_sent s f.frame f.seat f.number) (Push f.name) f.name f → Sends s (with_page_sent s f.frame f.seat f.number) f.seat (note_of f)
sends-own s f sound unkept at single was laws =
    let new = with_page_sent s f.frame f.seat f.number in
    let is = home-is s f.name f.frame at in
    let lt = found-within s f.name f.frame sound is.found in
    let row : row_at new.rows f.frame ≡ held_row (row_at s.rows f.frame) f.seat = get_or-set_same s.rows f.frame (held_row (row_at s.rows f.frame) f.seat) clear_row (let b = sound.rows in omega (arith, lt, b)) in
    record {
      sound = laws.sound;
      core = refl;
      frames = length-set s.frames f.frame None;
      was = was;
      bays = refl;
      filled = subst (λ (b : Option (List ℕ)). IsSome b) (sym is.there) refl;
      held = inr (held-by s f.name f.frame at);
      single = single;
      away = get_or-set_same s.frames f.frame None None lt;
      keeps = ap (λ (r : Row). r.keeps) row ∙ unkept f.frame;
      ungone = laws.ungone;
      unlisted = laws.unlisted;
      named = λ n h. one-some f.name n (sym (held-by s f.name f.frame at) ∙ h);
      others = λ k ne. same-frame s new f.name k (get_or-set_other s.frames f.frame k None None ne) refl (get_or-set_other s.rows f.frame k (held_row (row_at s.rows f.frame) f.seat) clear_row ne) (λ l. l);
    }

-- THE STORE'S CALL, of a read.
pub sends-of-read : (s new : StoreSeen) (f : FlightSeen) → IsSoundStore s → next_frame s ≡ Some f.frame → bay_at s.bays f.number ≡ home f.disk → new ≡ after_begin (Read f.name) s f.seat f.number → BeginsTransfer s new (Read f.name) f.name f → Sends s new f.seat (note_of f)
sends-of-read s new f sound next was step laws =
    let is : new ≡ with_read_begun s f.frame f.name f.seat f.number = step ∙ ap (λ (o : Option ℕ). at_frame o s (λ frame. with_read_begun s frame f.name f.seat f.number)) next in
    subst (λ (x : StoreSeen). Sends s x f.seat (note_of f)) (sym is) (sends-read s f sound next was (subst (λ (x : StoreSeen). BeginsTransfer s x (Read f.name) f.name f) is laws))

-- The same of a push, whose page has no snapshot away.
pub sends-of-push : (s new : StoreSeen) (f : FlightSeen) (own : ℕ) → IsSoundStore s → ((k : ℕ) → (row_at s.rows k).keeps ≡ 0) → residence s f.name ≡ Home own → ¬ IsListedFrame s own → (row_at s.rows own).snapshot ≡ None → bay_at s.bays f.number ≡ home f.disk
    → option_or (next_frame s) (find s.names f.name) ≡ Some f.frame → new ≡ after_begin (Push f.name) s f.seat f.number → BeginsTransfer s new (Push f.name) f.name f → Sends s new f.seat (note_of f)
sends-of-push s new f own sound unkept at unlisted single was out step laws =
    by_next (next_frame s) refl (ap (λ (o : Option ℕ). option_or (next_frame s) o) (sym found) ∙ out)
  where
    found : find s.names f.name ≡ Some own
    found = (home-is s f.name own at).found

    sent : new ≡ with_push_begun s own (next_frame s) f.seat f.number
    sent = step ∙ ap (λ (o : Option ℕ). at_frame o s (λ k. with_push_begun (without_snapshot s k) k (next_frame s) f.seat f.number)) found
        ∙ ap (λ (o : Option ℕ). with_push_begun (record s { rows = rows_without o s.rows own }) own (next_frame s) f.seat f.number) single

    by_next : (o : Option ℕ) → next_frame s ≡ o → option_or (next_frame s) (Some own) ≡ Some f.frame → Sends s new f.seat (note_of f)
    by_next None e q =
        let same : own ≡ f.frame = let z : Some own ≡ Some f.frame = sym (ap (λ (o : Option ℕ). option_or o (Some own)) e) ∙ q in cc in
        let is : new ≡ with_page_sent s f.frame f.seat f.number = sent ∙ ap (λ (o : Option ℕ). with_push_begun s own o f.seat f.number) e ∙ ap (λ (k : ℕ). with_page_sent s k f.seat f.number) same in
        subst (λ (x : StoreSeen). Sends s x f.seat (note_of f)) (sym is)
        (sends-own s f sound unkept (subst (λ (k : ℕ). residence s f.name ≡ Home k) same at) (ap (λ (k : ℕ). (row_at s.rows k).snapshot) (sym same) ∙ single) was
        (subst (λ (x : StoreSeen). BeginsTransfer s x (Push f.name) f.name f) is laws))
    by_next (Some frame) e q =
        let same : frame ≡ f.frame = let z : Some frame ≡ Some f.frame = sym (ap (λ (o : Option ℕ). option_or o (Some own)) e) ∙ q in cc in
        let is : new ≡ with_snapshot_sent s own f.frame f.seat f.number = sent ∙ ap (λ (o : Option ℕ). with_push_begun s own o f.seat f.number) e ∙ ap (λ (k : ℕ). with_snapshot_sent s own k f.seat f.number) same in
        subst (λ (x : StoreSeen). Sends s x f.seat (note_of f)) (sym is)
        (sends-copy s f own sound (e ∙ ap (λ (k : ℕ). Some k) same) at unlisted was (subst (λ (x : StoreSeen). BeginsTransfer s x (Push f.name) f.name f) is laws))

-- WHAT THE NOTE HAS, of a push.
pub push-note : (w : World) (new : StoreSeen) (f : FlightSeen) (own : ℕ) → IsSoundStore w.store → Sends w.store new f.seat (note_of f) → residence w.store f.name ≡ Home own → IsModified w.store w.hat.places own
    → (world_table w f.name).disk ≡ f.number → (world_table w f.name).valid ≡ f.valid → (world_table w f.name).blank ≡ false → f.bytes ≡ home_bytes w.store (find w.store.names f.name)
    → BeginsTransfer w.store new (Push f.name) f.name f → SendsNote w new f.seat (note_of f)
push-note w new f own sound s at modified disk valid pushed bytes laws = record {
  disk = disk;
  valid = λ writes. valid;
  pushed = λ writes. pushed;
  dirty = λ writes k h. subst (λ (i : ℕ). IsModified w.store w.hat.places i) (sound.distinct own k f.name (held-by w.store f.name own at) h) modified;
  bytes = λ writes b is.
      let apart = stayed w.store new f.seat (note_of f) (own_frame new f.frame) s (subst (λ (x : Option (List ℕ)). IsSome x) (sym is) refl) in
      let kept = s.others (own_frame new f.frame) apart in
      let same : own_frame new f.frame ≡ own = sound.distinct (own_frame new f.frame) own f.name (sym kept.name ∙ laws.out.out.page laws.ungone) (held-by w.store f.name own at) in
      let was : bytes_at w.store.frames own ≡ Some b = ap (λ (k : ℕ). bytes_at w.store.frames k) (sym same) ∙ sym kept.bytes ∙ is in
      sym (bytes ∙ ap (λ (o : Option ℕ). home_bytes w.store o) (home-is w.store f.name own at).found ∙ ap (λ (o : Option (List ℕ)). unwrap_or o []) was);
}

-- The same of a read, which writes nothing.
pub read-note : (w : World) (new : StoreSeen) (f : FlightSeen) → f.writes ≡ false → (world_table w f.name).disk ≡ f.number → SendsNote w new f.seat (note_of f)
read-note w new f reads disk = record {
  disk = disk;
  valid = λ writes. absurd (let z : true ≡ false = sym writes ∙ reads in cc);
  pushed = λ writes. absurd (let z : true ≡ false = sym writes ∙ reads in cc);
  dirty = λ writes k h. absurd (let z : true ≡ false = sym writes ∙ reads in cc);
  bytes = λ writes b is. absurd (let z : true ≡ false = sym writes ∙ reads in cc);
}

-- A page whose disk is home has no snapshot away: its note has the disk.
unsnapped : (w : World) (notes : Notes) (name : PageName) (own number : ℕ) (d : DiskSeen) (o : Option ℕ) → IsSoundStore w.store → NotesFit w notes → residence w.store name ≡ Home own → (world_table w name).disk ≡ number → bay_at w.store.bays number ≡ home d
    → (row_at w.store.rows own).snapshot ≡ o → o ≡ None
unsnapped w notes name own number d None sound nf at disk bay e = refl
unsnapped w notes name own number d (Some copy) sound nf at disk bay e =
    let x = snapshot-noted w notes own copy sound nf e in
    let agrees = nf.stored.each_note x.seat x.note x.is in
    let named : x.note.name ≡ name = one-some name x.note.name (sym (held-by w.store name own at) ∙ x.named) in
    let same : x.note.number ≡ number = sym agrees.disk ∙ ap (λ (n : PageName). (world_table w n).disk) named ∙ disk in
    absurd (home-not-out d x.seat (sym bay ∙ ap (bay_at w.store.bays) (sym same) ∙ agrees.out.bay))

-- A plan that can be sent can begin; its page exists, and isn't blank.
pub can-begin : (w : World) (spaces : Spaces) (plan : Plan) → MemoryFits (memory_of w spaces) → CanSend w plan → CanBegin plan w.store
can-begin w spaces (Read name) f can = (can.1, ap (λ (o : Option ℕ). residence_in o w.store) can.0.absent)
can-begin w spaces (Push name) f can = (can.0.frame, can.0.home, modified-unlisted w spaces can.0.frame f can.0.modified)

pub can-exist : (w : World) (spaces : Spaces) (plan : Plan) → MemoryFits (memory_of w spaces) → CanSend w plan → IsTrue (page_exists w.files w.anon (plan_page plan))
can-exist w spaces (Read name) f can = can.0.exists
can-exist w spaces (Push name) f can = dirty-exists w spaces name f can.0

can-blank : (w : World) (spaces : Spaces) (plan : Plan) → MemoryFits (memory_of w spaces) → CanSend w plan → (world_table w (plan_page plan)).blank ≡ false
can-blank w spaces plan f can = blank-is w (plan_page plan) f.files (exists-page w (plan_page plan) f.files (can-exist w spaces plan f can)) ∙ by_plan plan can
  where
    by_plan : (p : Plan) → CanSend w p → is_unpushed w.files w.anon (plan_page p) ≡ false
    by_plan (Read name) can = can.0.pushed
    by_plan (Push name) can = can.1

-- What the store's call of a plan gives.
pub record Begun (w : World) (new : StoreSeen) (plan : Plan) (f : FlightSeen) : Type 0 where
  pub name : f.name ≡ plan_page plan
  pub writes : f.writes ≡ is_push plan
  pub was : bay_at w.store.bays f.number ≡ home f.disk
  pub disk : (world_table w (plan_page plan)).disk ≡ f.number
  pub block : (world_table w (plan_page plan)).block ≡ f.block
  pub valid : (world_table w (plan_page plan)).valid ≡ f.valid
  pub frame : frame_out plan w.store ≡ Some f.frame
  pub bytes : f.bytes ≡ home_bytes w.store (frame_shown plan w.store)
  pub step : new ≡ after_begin plan w.store f.seat f.number
  pub laws : BeginsTransfer w.store new plan (plan_page plan) f

-- THE FLIGHT OF A PLAN goes out.
sends-plan : (w : World) (spaces : Spaces) (notes : Notes) (new : StoreSeen) (plan : Plan) (f : FlightSeen) → MemoryFits (memory_of w spaces) → NotesFit w notes → CanSend w plan → (world_table w (plan_page plan)).blank ≡ false → Begun w new plan f
    → Sends w.store new f.seat (note_of f) × SendsNote w new f.seat (note_of f)
sends-plan w spaces notes new (Read name) f fit nf can pushed b = (
  sends-of-read w.store new f fit.frames.sound b.frame b.was (subst (λ (n : PageName). new ≡ after_begin (Read n) w.store f.seat f.number) (sym b.name) b.step) (subst (λ (n : PageName). BeginsTransfer w.store new (Read n) n f) (sym b.name) b.laws),
  read-note w new f b.writes (ap (λ (n : PageName). (world_table w n).disk) b.name ∙ b.disk),
)
sends-plan w spaces notes new (Push name) f fit nf can pushed b =
    let at : residence w.store f.name ≡ Home can.0.frame = ap (residence w.store) b.name ∙ can.0.home in
    let disk : (world_table w f.name).disk ≡ f.number = ap (λ (n : PageName). (world_table w n).disk) b.name ∙ b.disk in
    let step : new ≡ after_begin (Push f.name) w.store f.seat f.number = subst (λ (n : PageName). new ≡ after_begin (Push n) w.store f.seat f.number) (sym b.name) b.step in
    let laws : BeginsTransfer w.store new (Push f.name) f.name f = subst (λ (n : PageName). BeginsTransfer w.store new (Push n) n f) (sym b.name) b.laws in
    let s = sends-of-push w.store new f can.0.frame fit.frames.sound fit.frames.unkept at (modified-unlisted w spaces can.0.frame fit can.0.modified)
    (unsnapped w notes f.name can.0.frame f.number f.disk (row_at w.store.rows can.0.frame).snapshot fit.frames.sound nf at disk b.was refl) b.was
    (ap (λ (n : PageName). option_or (next_frame w.store) (find w.store.names n)) b.name ∙ b.frame) step laws in (
      s,
      push-note w new f can.0.frame fit.frames.sound s at can.0.modified disk (ap (λ (n : PageName). (world_table w n).valid) b.name ∙ b.valid) (ap (λ (n : PageName). (world_table w n).blank) b.name ∙ pushed)
          (b.bytes ∙ ap (λ (n : PageName). home_bytes w.store (find w.store.names n)) (sym b.name)) laws,
    )

-- the table has the plan's page where the flight goes
lives-there : (w : World) (new : StoreSeen) (plan : Plan) (f : FlightSeen) → (world_table w (plan_page plan)).blank ≡ false → Begun w new plan f → LivesAt plan (world_table w) f.number f.block f.valid
lives-there w new (Read name) f pushed b = λ i. record { disk = b.disk i; block = b.block i; valid = b.valid i; blank = pushed i }
lives-there w new (Push name) f pushed b = (b.disk, b.block)

pub begins-step : (w : World) (spaces : Spaces) (noted : Notes) (new : StoreSeen) (plan : Plan) (f : FlightSeen) → MemoryFits (memory_of w spaces) → NotesFit w noted → CanSend w plan → IsUnloaded w.hat.places f.frame → Begun w new plan f
    → WorldStep w (with_tables w new w.hat) spaces (leaves f.seat (note_of f)) (is_name (next_name w.store))
begins-step w spaces noted new plan f fit nf can unloaded b =
    let pushed = can-blank w spaces plan fit can in
    let s = sends-plan w spaces noted new plan f fit nf can pushed b in
    sends-step w spaces new f.seat (note_of f) fit s.0 s.1 (ap (λ (n : PageName). page_exists w.files w.anon n) b.name ∙ can-exist w spaces plan fit can) unloaded
    (λ notes nf idle. b.laws.values notes (world_table w) nf.stored idle (lives-there w new plan f pushed b))
