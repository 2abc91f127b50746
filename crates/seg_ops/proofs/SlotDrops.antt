-- THE ONE PLACE THAT HOLDS A SLOT IS EMPTIED, and the slot's page is given up: memory and the notes fit, and each other page keeps its value.
use Rattle.std.proofs.Common.{◌≡◌, ◌≢◌, ℕ, ◌+◌, Bool, true, false, cond, List, [], length, Option, Some, None, refl, sym, ap, ◌∙◌, inl, inr, subst, arith, slice_index_or}
use Rattle.std.specs.Prelude.{IsTrue, IsFalse, IsSome, unwrap_or, option_map, option_and_then}
use Rattle.std.specs.Option.{option_or}
use Rattle.std.proofs.lemmas.Bool.{cases_Bool}
use Rattle.page_store.specs.core_arena.Bytes.{bytes_at}
use Rattle.page_store.specs.page_hash.Names.{name_at}
use Rattle.page_store.specs.page_hash.declared.PageName.{PageName}
use Rattle.page_store.proofs.page_hash.NameLaws.{find-none}
use Rattle.page_store.specs.page_lock.Rows.{row_at}
use Rattle.page_store.specs.page_lock.declared.Row.{Row}
use Rattle.page_store.specs.Bays.{BaySeen}
use Rattle.page_store.specs.Notes.{Note, Notes}
use Rattle.page_store.specs.Seen.{StoreSeen, IsListedFrame, IsGone, own_frame}
use Rattle.page_store.specs.StoreFits.{StoreFits}
use Rattle.page_store.specs.Table.{PlaceTable}
use Rattle.page_store.specs.Transfers.{is_rewritten_in}
use Rattle.page_store.specs.Value.{value, backing_value, tells}
use Rattle.page_store.specs.declared.place.Place.{Place}
use Rattle.page_store.proofs.QueryLemmas.{absent-is}
use Rattle.vm_world.specs.anon_map.Maps.{Map}
use Rattle.vm_world.specs.anon_slots.Slots.{AnonSlotsSeen, count_at}
use Rattle.vm_world.specs.hat_layer.declared.translation.Translation.{Translation}
use Rattle.vm_world.specs.vm_types.declared.call.Object.{Object}
use Rattle.vm_world.specs.vm_types.declared.call.Object.TheVariants as object
use Rattle.vm_world.specs.CountsFit.{ObjectFits}
use Rattle.vm_world.specs.FramesFit.{DisksFit, HasSize}
use Rattle.vm_world.specs.MemoryFits.{MemoryFits}
use Rattle.vm_world.specs.NotesFit.{NotesFit, CleanFit, PushFits, MayWriteGone}
use Rattle.vm_world.specs.Segments.{Spot, Spaces, spot_at, own_slot, object_name, shown_name}
use Rattle.vm_world.specs.TranslationsFit.{HasWritten, IsModified}
use Rattle.vm_world.specs.World.{World, slot_in, slot_name, is_unpushed, is_page_name, page_exists, page_table, world_table, AllTell}
use Rattle.vm_world.proofs.Counts.{only-place}
use Rattle.vm_world.proofs.PageNames.{file-apart}
use Rattle.seg_ops.specs.Empties.{LeavesSlot, EmptiesPlace}
use Rattle.seg_ops.proofs.Fills.{Elsewhere, held-by, rewritten-same}
use Rattle.seg_ops.proofs.GivenUp.{GivesUp}
use Rattle.seg_ops.proofs.Marks.{cases-name}
use Rattle.seg_ops.proofs.SlotLeaves.{exists-else, table-left, page-name-left, IsUnloadedPlace, left-once, left-shown, left-writable}
use Rattle.seg_ops.proofs.SlotMemory.{with_slot, used-lt, segments-set}
use Rattle.seg_ops.proofs.SlotOwners.{object-fits}
use Rattle.seg_ops.proofs.StillSteps.{memory_of}

module _ (w : World) (spaces : Spaces) (new : StoreSeen) (anon : AnonSlotsSeen) (put : List (Option Map)) (m i s : ℕ) (f : MemoryFits (memory_of w spaces)) (k : LeavesSlot w.anon anon w.maps put m i s) (one : count_at w.anon s ≡ 1) (g : GivesUp w.store new (slot_name s)) (unloaded : IsUnloadedPlace w.hat.places spaces m i) where
  -- the slot's page doesn't exist any more, and every other page does if it did
  missing : IsFalse (page_exists w.files anon (slot_name s))
  missing = by_exists (page_exists w.files anon (slot_name s)) refl
    where
      by_exists : (b : Bool) → page_exists w.files anon (slot_name s) ≡ b → b ≡ false
      by_exists false e = refl
      by_exists true e = absurd (let used = used-lt (count_at anon s) e in let less = k.less in omega (arith, used, less, one))

  other : (n : PageName) → n ≢ slot_name s → page_exists w.files anon n ≡ page_exists w.files w.anon n
  other = exists-else w.files w.anon anon w.maps put m i s k

  table : page_table w.files anon ≡ world_table w
  table = table-left w.files w.anon anon w.maps put m i s k

  unnamed : (j : ℕ) → name_at new.names j ≢ Some (slot_name s)
  unnamed j h = find-none new.names (slot_name s) j (absent-is new (slot_name s) g.laws.sound g.laws.absent) h

  -- a name that a frame holds then
  held : (j : ℕ) (n : PageName) → name_at new.names j ≡ Some n → (n ≢ slot_name s) × (name_at w.store.names j ≡ Some n) × Elsewhere w.store new j
  held j n h =
      let far : n ≢ slot_name s = λ e. unnamed j (h ∙ ap (λ (a : PageName). Some a) e) in
      elim (g.each j) [
        | inl up ↦ absurd (let z : None ≡ Some n = sym up.unnamed ∙ h in cc)
        | inr e ↦ (far, sym e.name ∙ h, e)
      ]

  -- a frame of another page is elsewhere
  apart : (j : ℕ) (n : PageName) → name_at w.store.names j ≡ Some n → n ≢ slot_name s → Elsewhere w.store new j
  apart j n h far = elim (g.each j) [ inr e ↦ e | inl up ↦ absurd (far (up.only_one n h)) ]

  listed : (j : ℕ) → IsListedFrame new j → (row_at new.rows j).modified ≡ false
  listed j l = elim (g.each j) [
    | inl up ↦ up.home (subst (λ (b : Option (List ℕ)). IsSome b) (g.bytes j) (g.laws.sound.listed j l))
    | inr e ↦ ap (λ (r : Row). r.modified) e.row ∙ f.frames.unmodified j (e.listed l)
  ]

  still-modified : (j : ℕ) → Elsewhere w.store new j → IsModified w.store w.hat.places j → IsModified new w.hat.places j
  still-modified j e m = elim m [ inl r ↦ inl (ap (λ (a : Row). a.modified) e.row ∙ r) | inr h ↦ inr h ]

  -- a page that is shown elsewhere isn't the slot's
  shown-apart : (j : ℕ) (t : Translation) → slice_index_or w.hat.places j None ≡ Some t → (y : Spot) (n : PageName) → spot_at spaces t.space t.page ≡ Some y → shown_name w.maps y ≡ Some n → n ≢ slot_name s
  shown-apart j t is y n here shows e = by_own (own_slot w.maps y) refl (shows ∙ ap (λ (a : PageName). Some a) e)
    where
      only_here : (number place : ℕ) → slot_in w.maps number place ≡ Some s → (number ≡ m) × (place ≡ i)
      only_here number place at_place = only-place s w.maps m i number place (sym (f.counts.counts s) ∙ one) k.held at_place

      own_place : (o : Option ℕ) → y.0.own ≡ o → option_and_then (λ number. slot_in w.maps number y.1) o ≡ Some s → ⊥
      own_place None own at_place = let z : None ≡ Some s = at_place in cc
      own_place (Some number) own at_place = let both = only_here number y.1 at_place in unloaded.own j t y is here (own ∙ ap (λ (b : ℕ). Some b) both.0) both.1

      page_is : (a : ℕ) → ◌≡◌ {A = Option PageName} (Some (slot_name a)) (Some (slot_name s)) → a ≡ s
      page_is a d = ap (λ (b : Option PageName). (unwrap_or b (slot_name 0)).page) d

      by_shown : (o : Option ℕ) → y.0.shown ≡ o → option_and_then (λ number. option_map slot_name (slot_in w.maps number (y.0.index + y.1))) o ≡ Some (slot_name s) → ⊥
      by_shown None d at_place = let z : None ≡ Some (slot_name s) = at_place in cc
      by_shown (Some number) d at_place = by_slot (slot_in w.maps number (y.0.index + y.1)) refl at_place
        where
          by_slot : (o : Option ℕ) → slot_in w.maps number (y.0.index + y.1) ≡ o → option_map slot_name o ≡ Some (slot_name s) → ⊥
          by_slot None a b = let z : None ≡ Some (slot_name s) = b in cc
          by_slot (Some c) a b =
              let both = only_here number (y.0.index + y.1) (a ∙ ap (λ (v : ℕ). Some v) (page_is c b)) in
              unloaded.shown j t y is here (d ∙ ap (λ (v : ℕ). Some v) both.0)

      by_object : (ob : Object) → ObjectFits (length w.files.files) w.maps y.0 ob → object_name w.maps y.0.shown (y.0.index + y.1) ob ≡ Some (slot_name s) → ⊥
      by_object (object.File b) fit at_place = file-apart w.files b f.files fit.0 (ap (λ (a : Option PageName). (unwrap_or a (slot_name 0)).object) at_place)
      by_object object.NewZero fit at_place = let z : None ≡ Some (slot_name s) = at_place in cc
      by_object (object.Zero z) fit at_place = by_shown y.0.shown refl at_place

      by_own : (o : Option ℕ) → own_slot w.maps y ≡ o → option_or (option_map slot_name o) (object_name w.maps y.0.shown (y.0.index + y.1) y.0.object) ≡ Some (slot_name s) → ⊥
      by_own (Some a) d at_place = own_place y.0.own refl (d ∙ ap (λ (b : ℕ). Some b) (page_is a at_place))
      by_own None d at_place = by_object y.0.object (object-fits (memory_of w spaces) t.space t.page y f here) at_place

  dropped-memory : MemoryFits (memory_of (with_slot w new anon put) spaces)
  dropped-memory = record {
    frames = record {
      sound = g.laws.sound;
      unkept = λ j. elim (g.each j) [ inl up ↦ up.keeps (f.frames.unkept j) | inr e ↦ ap (λ (r : Row). r.keeps) e.row ∙ f.frames.unkept j ];
      unmodified = listed;
      exist = λ j n h. let e = held j n h in other n e.0 ∙ f.frames.exist j n e.1;
    };
    files = f.files;
    disks = subst (λ (c : ℕ). DisksFit new.bays w.files.disks c) (sym k.slots) (subst (λ (b : List BaySeen). DisksFit b w.files.disks (length w.anon.counts)) (sym g.laws.outside.bays) f.disks);
    pool = record { leads = f.pool.leads ∙ sym g.laws.touches.frames; single = f.pool.single };
    translations = λ j t is.
        let l = f.translations j t is in
        let far = shown-apart j t is l.spot l.name l.here l.shows in
        let stays = left-shown w spaces anon put m i s k unloaded j t is l.spot l.name l.here l.shows in
        let there = apart t.frame l.name (held-by w.store l.name t.frame l.home) far in
        record {
          spot = l.spot;
          here = l.here;
          name = l.name;
          shows = stays.shows;
          home = g.laws.stay l.name far ∙ l.home;
          unlisted = λ h. l.unlisted (there.listed h);
          allowed = l.allowed;
          writable = λ h. left-writable w anon put m i s l.spot f.counts k (unloaded.own j t l.spot is l.here) stays.own (l.writable h);
        };
    unpushed = λ j a h unpushed home.
        let e = held j (slot_name a) h in
        still-modified j e.2 (f.unpushed j a e.1 (ap (λ swapped. slice_index_or swapped a false) (sym k.swapped) ∙ unpushed) (subst (λ (b : Option (List ℕ)). IsSome b) e.2.bytes home));
    counts = k.counts;
    segments = segments-set w spaces anon put m i None f k.within k.set k.reserved (λ number place t held was. left-once w.anon anon w.maps put m i s number place t f.counts k held was);
  }

  backing_value-same : (notes : Notes) (p : Place) → backing_value new notes p ≡ backing_value w.store notes p
  backing_value-same notes p = ap (λ (b : List BaySeen). backing_value (record w.store { bays = b }) notes p) g.laws.outside.bays

  tells-same : (notes : Notes) (number : ℕ) → tells new notes number ≡ tells w.store notes number
  tells-same notes number = ap (λ (b : List BaySeen). tells (record w.store { bays = b }) notes number) g.laws.outside.bays

  -- a page that was gone still is, and one that is gone now was the slot's, or was gone before
  gone-still : (notes : Notes) (seat : ℕ) (note : Note) → NotesFit w notes → notes seat ≡ Some note → IsGone w.store note.frame → IsGone new note.frame
  gone-still notes seat note nf is gone = elim (g.each note.frame) [
    | inl up ↦ up.away (nf.stored.each_note seat note is).away
    | inr e ↦ ap (λ (r : Row). r.gone) e.row ∙ gone
  ]

  gone-mine : (notes : Notes) (seat : ℕ) (note : Note) → NotesFit w notes → notes seat ≡ Some note → IsGone new note.frame → (row_at w.store.rows note.frame).gone ≡ false → note.name ≡ slot_name s
  gone-mine notes seat note nf is gone there = elim (g.each note.frame) [
    | inl up ↦ let z : Some note.name ≡ Some (slot_name s) = sym ((nf.stored.each_note seat note is).out.page there) ∙ up.own in cc
    | inr e ↦ absurd (let z : true ≡ false = sym gone ∙ ap (λ (r : Row). r.gone) e.row ∙ there in cc)
  ]

  push : (notes : Notes) (seat : ℕ) (note : Note) → NotesFit w notes → notes seat ≡ Some note → ¬ IsGone new note.frame → (row_at w.store.rows note.frame).gone ≡ false → PushFits w.store w.hat.places (world_table w) note → PushFits new w.hat.places (world_table w) note
  push notes seat note nf is stands there fit = elim (g.each note.frame) [
    | inl up ↦ absurd (stands (up.away (nf.stored.each_note seat note is).away))
    | inr e ↦
        let name_is = (nf.stored.each_note seat note is).out.page there in
        let far : note.name ≢ slot_name s = λ d. stands ((g.mine note.frame (name_is ∙ ap (λ (a : PageName). Some a) d)).away (nf.stored.each_note seat note is).away) in
        let source : (row_at new.rows note.frame).source ≡ (row_at w.store.rows note.frame).source = ap (λ (r : Row). r.source) e.row in
        let own : own_frame new note.frame ≡ own_frame w.store note.frame = ap (λ (o : Option ℕ). unwrap_or o note.frame) source in
        let beside = apart (own_frame w.store note.frame) note.name name_is far in
        record {
          pushed = fit.pushed;
          same = elim fit.same [
            | inl r ↦ inl (elim r [
              | inl was ↦ inl (ap (λ (o : Option ℕ). is_rewritten_in o new) source ∙ rewritten-same w.store new (row_at w.store.rows note.frame).source note.frame beside.row ∙ was)
              | inr h ↦ inr (subst (λ (a : ℕ). HasWritten w.hat.places a) (sym own) h)
            ])
            | inr sent ↦ inr (record { valid = sent.valid; bytes = λ b h. sent.bytes b (sym beside.bytes ∙ ap (λ (a : ℕ). bytes_at new.frames a) (sym own) ∙ h) })
          ];
        }
  ]

  may-gone : (n : PageName) → MayWriteGone w.store w.files w.anon n → MayWriteGone new w.files anon n
  may-gone n (inl a) = inl (ap (λ swapped. is_unpushed w.files (record anon { swapped = swapped }) n) k.swapped ∙ a.0, a.1)
  may-gone n (inr b) = elim (cases-name (slot_name s) n) [
    | inl e ↦ inr (inl (ap (page_exists w.files anon) e ∙ missing))
    | inr ne ↦ elim b [ inl c ↦ inr (inl (other n ne ∙ c)) | inr d ↦ inr (inr (d.0, g.laws.stay n ne ∙ d.1)) ]
  ]

  clean-fits : (notes : Notes) → NotesFit w notes → CleanFit new w.hat.places (world_table w) notes
  clean-fits notes nf j n name_is there =
      let e = held j n name_is in
      elim (nf.clean j n e.1 (subst (λ (b : Option (List ℕ)). IsSome b) e.2.bytes there)) [
        | inl a ↦ inl (still-modified j e.2 a)
        | inr c ↦ inr (record {
          same = λ tell b h. c.same (subst (λ (a : Bool). IsTrue a) (tells-same notes (world_table w n).disk) tell) b (sym e.2.bytes ∙ h) ∙ sym (backing_value-same notes (world_table w n));
          unwritten = λ seat note is writes same. let u = c.unwritten seat note is writes same in (gone-still notes seat note nf is u.0, u.1);
        })
      ]

  dropped-notes : (notes : Notes) → NotesFit w notes → NotesFit (with_slot w new anon put) notes
  dropped-notes notes nf = record {
    stored = subst (λ (t : PlaceTable). StoreFits new notes t) (sym table) (g.laws.others notes (world_table w) nf.stored).fits;
    clean = subst (λ (t : PlaceTable). CleanFit new w.hat.places t notes) (sym table) (clean-fits notes nf);
    pushes = λ seat note is writes stands. subst (λ (t : PlaceTable). PushFits new w.hat.places t note) (sym table) (elim (cases_Bool (row_at w.store.rows note.frame).gone) [
      | inl gone ↦ absurd (stands (gone-still notes seat note nf is gone))
      | inr there ↦ push notes seat note nf is stands there (nf.pushes seat note is writes (λ gone. stands (gone-still notes seat note nf is gone)))
    ]);
    gone = λ seat note is writes gone. elim (cases_Bool (row_at w.store.rows note.frame).gone) [
      | inl before ↦ may-gone note.name (nf.gone seat note is writes before)
      | inr there ↦ inr (inl (ap (page_exists w.files anon) (gone-mine notes seat note nf is gone there) ∙ missing))
    ];
    sizes = λ seat note is. subst (λ (c : ℕ). HasSize w.files.disks c note.number note.disk.size) (sym k.slots) (nf.sizes seat note is);
  }

  page-same : (n : PageName) → is_page_name w.files anon n ≡ is_page_name w.files w.anon n
  page-same = page-name-left w.files w.anon anon w.maps put m i s k

  -- WHAT HOLDS OF THE WORLD then.
  pub dropped-place : EmptiesPlace w (with_slot w new anon put) spaces m i s
  dropped-place = record {
    slot = k;
    files = refl;
    hat = refl;
    core = g.core;
    frames = g.laws.touches.frames;
    bays = g.laws.outside.bays;
    memory = dropped-memory;
    notes = dropped-notes;
    tells = λ notes nf. (
      (λ tell n real. ap (λ (t : PlaceTable). tells new notes (t n).disk) table ∙ tells-same notes (world_table w n).disk ∙ tell n (sym (page-same n) ∙ real)),
      (λ tell n real. sym (tells-same notes (world_table w n).disk) ∙ sym (ap (λ (t : PlaceTable). tells new notes (t n).disk) table) ∙ tell n (page-same n ∙ real)),
    );
    pages = λ notes n nf tell exists.
        let far : n ≢ slot_name s = λ e. let z : true ≡ false = sym (exists e) ∙ ap (page_exists w.files anon) e ∙ missing in cc in
        (λ j. cond (page-same n j) (value new notes (table j) n) []) ∙ by_page notes n nf tell far (is_page_name w.files w.anon n) refl;
  }
    where
      by_page : (notes : Notes) (n : PageName) → NotesFit w notes → AllTell w notes → n ≢ slot_name s → (b : Bool) → is_page_name w.files w.anon n ≡ b → cond b (value new notes (world_table w) n) [] ≡ cond b (value w.store notes (world_table w) n) []
      by_page notes n nf tell far false e = refl
      by_page notes n nf tell far true e = (g.laws.others notes (world_table w) nf.stored).values n far (tell n e)
