-- A SLOT THAT IS MADE for a place, with its page in a frame that is taken: the notes fit.
use Rattle.std.proofs.Common.{◌≡◌, ◌≢◌, ℕ, Bool, true, false, List, Option, Some, refl, sym, ap, ◌∙◌, inl, inr, subst}
use Rattle.std.specs.Prelude.{IsTrue, IsSome}
use Rattle.std.proofs.lemmas.Bool.{cases_eq}
use Rattle.page_store.specs.page_hash.declared.PageName.{PageName}
use Rattle.page_store.specs.page_lock.Rows.{row_at}
use Rattle.page_store.specs.page_lock.declared.Row.{Row}
use Rattle.page_store.specs.Bays.{BaySeen}
use Rattle.page_store.specs.Bytes.{clip}
use Rattle.page_store.specs.Notes.{Note, Notes}
use Rattle.page_store.specs.Seen.{StoreSeen, IsGone, residence}
use Rattle.page_store.specs.StoreFits.{StoreFits}
use Rattle.page_store.specs.Value.{backing_value, tells}
use Rattle.page_store.specs.declared.place.Place.{Place}
use Rattle.page_store.specs.declared.residence.Residence.TheVariants.{Home}
use Rattle.vm_world.specs.anon_map.Maps.{Map}
use Rattle.vm_world.specs.anon_slots.Slots.{AnonSlotsSeen}
use Rattle.vm_world.specs.FramesFit.{HasSize}
use Rattle.vm_world.specs.MemoryFits.{MemoryFits}
use Rattle.vm_world.specs.NotesFit.{NotesFit}
use Rattle.vm_world.specs.Segments.{Spaces}
use Rattle.vm_world.specs.World.{World, slot_name, page_table, world_table}
use Rattle.seg_ops.specs.Slots.{MakesSlot}
use Rattle.seg_ops.proofs.Fills.{TakesFor, next-listed, named, stays-home, modified-elsewhere, elsewhere, note-apart, push-stays, was-taken}
use Rattle.seg_ops.proofs.Marks.{cases-name}
use Rattle.seg_ops.proofs.SlotMemory.{with_slot, free-unnamed, missing-made}
use Rattle.seg_ops.proofs.SlotTables.{IsUnnamed, unpushed-else, table-else}
use Rattle.seg_ops.proofs.StillSteps.{memory_of}

pub made-notes : (w : World) (spaces : Spaces) (new : StoreSeen) (anon : AnonSlotsSeen) (put : List (Option Map)) (m i s frame : ℕ) (notes : Notes) → MemoryFits (memory_of w spaces) → MakesSlot w.anon anon w.maps put m i s → TakesFor w.store new (slot_name s) frame → (row_at new.rows frame).modified ≡ true
    → StoreFits new notes (page_table w.files anon) → NotesFit w notes → NotesFit (with_slot w new anon put) notes
made-notes w spaces new anon put m i s frame notes f k t dirty fits nf = record {
  stored = fits;
  clean = λ j n name_is there. elim (named w.store new (slot_name s) frame j n t name_is) [
    | inl e ↦ inl (inl (ap (λ (b : ℕ). (row_at new.rows b).modified) e.0 ∙ dirty))
    | inr e ↦ elim (nf.clean j n e.1 (subst (λ (b : Option (List ℕ)). IsSome b) (elsewhere w.store new (slot_name s) frame j t e.0).bytes there)) [
      | inl x ↦ inl (modified-elsewhere w.store new w.hat.places (slot_name s) frame j t e.0 x)
      | inr c ↦
          let place : page_table w.files anon n ≡ world_table w n = table-else w anon put m i s n k (λ d. unnamed j (e.1 ∙ ap (λ (x : PageName). Some x) d)) in
          inr (record {
            same = λ tell b h. subst (λ (p : Place). clip p.valid b ≡ backing_value new notes p) (sym place)
                (c.same (subst (λ (x : Bool). IsTrue x) (tells-same n) (subst (λ (p : Place). IsTrue (tells new notes p.disk)) place tell)) b (sym (elsewhere w.store new (slot_name s) frame j t e.0).bytes ∙ h) ∙ sym (stored-same (world_table w n)));
            unwritten = λ seat note is writes same.
                let u = c.unwritten seat note is writes same in
                (gone-same seat note is ∙ u.0, ap (λ (p : Place). p.blank) place ∙ u.1);
          })
    ]
  ];
  pushes = λ seat note is writes there.
      let out = (nf.stored.each_note seat note is).out in
      let stands : ¬ IsGone w.store note.frame = λ gone. there (gone-same seat note is ∙ gone) in
      let p = push-stays w spaces new (slot_name s) frame seat notes note f t nf.stored is (nf.pushes seat note is writes stands) in
      let place : page_table w.files anon note.name ≡ world_table w note.name = table-else w anon put m i s note.name k (λ d. unnamed _ (out.page (not-gone (row_at w.store.rows note.frame).gone stands) ∙ ap (λ (x : PageName). Some x) d)) in
      record {
        pushed = ap (λ (x : Place). x.blank) place ∙ p.pushed;
        same = elim p.same [ inl r ↦ inl r | inr sent ↦ inr (record { valid = ap (λ (x : Place). x.valid) place ∙ sent.valid; bytes = sent.bytes }) ];
      };
  gone = λ seat note is writes gone. elim (nf.gone seat note is writes (sym (gone-same seat note is) ∙ gone)) [
    | inl a ↦ inl (unpushed-else w anon put m i s note.name k (file-apart note.name a.1) ∙ a.0, a.1)
    | inr b ↦ elim b [
      | inl c ↦ elim (cases-name (slot_name s) note.name) [
        | inl e ↦ inr (inr (frame, ap (λ (x : PageName). residence new x) e ∙ t.home))
        | inr ne ↦ inr (inl (missing-made w.files w.anon anon w.maps put m i s note.name k ne c))
      ]
      | inr d ↦ elim (cases_eq d.0 frame) [
        | inr ne ↦ inr (inr (d.0, stays-home w.store new (slot_name s) note.name frame d.0 f.frames.sound t ne d.1))
        | inl e ↦
            let a = was-taken w spaces frame seat notes note f (next-listed w.store frame t.next) nf is writes (subst (λ (j : ℕ). residence w.store note.name ≡ Home j) e d.1) in
            inl (unpushed-else w anon put m i s note.name k (file-apart note.name a.1) ∙ a.0, a.1)
      ]
    ]
  ];
  sizes = λ seat note is. subst (λ (c : ℕ). HasSize w.files.disks c note.number note.disk.size) (sym k.slots) (nf.sizes seat note is);
}
  where
    unnamed : IsUnnamed w.store (slot_name s)
    unnamed = free-unnamed w s f.frames k.free

    not-gone : (b : Bool) → ¬ (b ≡ true) → b ≡ false
    not-gone true h = absurd (h refl)
    not-gone false h = refl

    file-apart : (n : PageName) → n.object ≢ 64 → n ≢ slot_name s
    file-apart n ne e = ne (ap (λ (x : PageName). x.object) e)

    gone-same : (seat : ℕ) (note : Note) → notes seat ≡ Some note → (row_at new.rows note.frame).gone ≡ (row_at w.store.rows note.frame).gone
    gone-same seat note is = ap (λ (r : Row). r.gone) (elsewhere w.store new (slot_name s) frame note.frame t (note-apart w spaces new (slot_name s) frame seat notes note f t nf.stored is)).row

    stored-same : (p : Place) → backing_value new notes p ≡ backing_value w.store notes p
    stored-same p = ap (λ (b : List BaySeen). backing_value (record w.store { bays = b }) notes p) t.laws.outside.bays

    tells-same : (n : PageName) → tells new notes (world_table w n).disk ≡ tells w.store notes (world_table w n).disk
    tells-same n = ap (λ (b : List BaySeen). tells (record w.store { bays = b }) notes (world_table w n).disk) t.laws.outside.bays
