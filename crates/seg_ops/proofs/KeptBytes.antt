-- WHAT A PAGE HAS once the next frame is taken, that was home before.
use Rattle.std.proofs.Common.{◌≡◌, ℕ, Bool, true, false, List, Option, Some, None, refl, sym, ap, ◌∙◌, inl, inr, subst, cond}
use Rattle.std.specs.Prelude.{IsTrue, is_some}
use Rattle.std.proofs.lemmas.Bool.{cases_Bool}
use Rattle.page_store.specs.core_arena.Bytes.{zeros}
use Rattle.page_store.specs.page_hash.Names.{name_at, find, is_name}
use Rattle.page_store.specs.page_hash.declared.PageName.{PageName}
use Rattle.page_store.proofs.page_hash.NameLaws.{is_name-true, is_name-same}
use Rattle.page_store.specs.Bays.{BaySeen, bay_at, block_of}
use Rattle.page_store.specs.Bays as bay
use Rattle.page_store.specs.Bytes.{clip}
use Rattle.page_store.specs.Notes.{Notes}
use Rattle.page_store.specs.Seen.{StoreSeen, IsSoundStore, IsListedFrame, residence}
use Rattle.page_store.specs.Steps.{next_frame, next_name, name_in, front_bytes, home_bytes}
use Rattle.page_store.specs.Value.{content_of, content_in_bay, tells, value_in}
use Rattle.page_store.specs.declared.residence.Residence.TheVariants.{Home, Absent}
use Rattle.page_store.proofs.FillLemmas.{front-whole, taken-value}
use Rattle.page_store.proofs.QueryLemmas.{absent-is, home-is, home-some}
use Rattle.vm_world.specs.MemoryFits.{MemoryFits}
use Rattle.vm_world.specs.NotesFit.{NotesFit}
use Rattle.vm_world.specs.Pages.{page_value}
use Rattle.vm_world.specs.Segments.{Spaces}
use Rattle.vm_world.specs.World.{World, world_table}
use Rattle.vm_world.specs.WorldSteps.{cut_page}
use Rattle.vm_world.proofs.FrameRule.{exists-page}
use Rattle.seg_ops.specs.Copies.{HasBytes, IsDiskHome, bytes_kept}
use Rattle.seg_ops.proofs.Fills.{held-by, next-listed}
use Rattle.seg_ops.proofs.SlotMemory.{home-value_bytes}
use Rattle.seg_ops.proofs.StillSteps.{with_tables, memory_of, value-is}

module _ (w : World) (spaces : Spaces) (name : PageName) (frame : ℕ) (f : MemoryFits (memory_of w spaces)) (home : residence w.store name ≡ Home frame) where
  held : name_at w.store.names frame ≡ Some name
  held = held-by w.store name frame home

  -- it has the bytes of its frame, whatever the notes are
  pub home-has : (notes : Notes) → page_value w notes name ≡ home_bytes w.store (find w.store.names name)
  home-has notes = value-is w notes name (exists-page w name f.files (f.frames.exist frame name held)) ∙ home-value_bytes w.store notes (world_table w) name frame home

  -- they are its frame's, all of them
  pub whole-front : front_bytes w.store.frames frame 4096 ≡ home_bytes w.store (find w.store.names name)
  whole-front = front-whole w.store frame f.frames.sound (home-some w.store name frame home) ∙ ap (λ (o : Option ℕ). home_bytes w.store o) (sym (home-is w.store name frame home).found)

  -- where its frame is on no list, that isn't the next one
  unlisted-next : ¬ IsListedFrame w.store frame → is_name (next_name w.store) name ≡ false
  unlisted-next unlisted = elim (cases_Bool (is_name (next_name w.store) name)) [
    | inl is ↦ absurd (by_next (next_frame w.store) refl (is_name-true (next_name w.store) name is))
    | inr free ↦ free
  ]
    where
      by_next : (o : Option ℕ) → next_frame w.store ≡ o → next_name w.store ≡ Some name → ⊥
      by_next None e h = absurd (let z : None ≡ Some name = sym (ap (name_in w.store.names) e) ∙ h in cc)
      by_next (Some k) e h =
          let same : frame ≡ k = f.frames.sound.distinct frame k name held (sym (ap (name_in w.store.names) e) ∙ h) in
          unlisted (subst (λ (j : ℕ). IsListedFrame w.store j) (sym same) (next-listed w.store k e))

  pub uncut : is_name (next_name w.store) name ≡ false → bytes_kept w name ≡ home_bytes w.store (find w.store.names name)
  uncut is = ap (λ (b : Bool). cut_page b (world_table w name).valid (home_bytes w.store (find w.store.names name))) is

  pub unlisted-kept : ¬ IsListedFrame w.store frame → bytes_kept w name ≡ home_bytes w.store (find w.store.names name)
  unlisted-kept unlisted = uncut (unlisted-next unlisted)

  pub unlisted-has : ¬ IsListedFrame w.store frame → HasBytes w name (bytes_kept w name)
  unlisted-has unlisted = λ notes nf tell. home-has notes ∙ sym (unlisted-kept unlisted)

  -- ITS FRAME WAS THE NEXT ONE: its disk, which is home, has what its frame had, up to its valid bytes.
  pub lost-has : (known : Notes) (new : StoreSeen) → NotesFit w known → next_frame w.store ≡ Some frame → IsDiskHome w name → IsSoundStore new → new.bays ≡ w.store.bays → residence new name ≡ Absent → HasBytes (with_tables w new w.hat) name (bytes_kept w name)
  lost-has known new nf next (disk, at) sound bays absent = λ notes now tell.
      let is = exists-page w name f.files (f.frames.exist frame name held) in
      let place = world_table w name in
      let there : bay_at new.bays place.disk ≡ bay.home disk = ap (λ (bs : List BaySeen). bay_at bs place.disk) bays ∙ at in
      let after : content_of new notes place.disk ≡ disk.content = ap (λ (b : BaySeen). content_in_bay b notes) there in
      let before : content_of w.store known place.disk ≡ disk.content = ap (λ (b : BaySeen). content_in_bay b known) at in
      let told : IsTrue (tells w.store known place.disk) = ap (λ (c : Option (List (List ℕ))). is_some c) (before ∙ sym after) ∙ tell name is in
      let own : is_name (next_name w.store) name ≡ true = ap (λ (o : Option PageName). is_name o name) (ap (name_in w.store.names) next ∙ held) ∙ is_name-same name in
      value-is (with_tables w new w.hat) notes name is
      ∙ ap (λ (o : Option ℕ). value_in o new notes place) (absent-is new name sound absent)
      ∙ ap (λ (c : Option (List (List ℕ))). cond place.blank zeros (clip place.valid (block_of c place.block))) (after ∙ sym before)
      ∙ taken-value w.store frame f.frames.sound next known (world_table w) name nf.stored held told
      ∙ ap (λ (b : List ℕ). clip place.valid b) (home-value_bytes w.store known (world_table w) name frame home)
      ∙ sym (ap (λ (b : Bool). cut_page b place.valid (home_bytes w.store (find w.store.names name))) own)
