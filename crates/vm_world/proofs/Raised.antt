-- The mark of a page rises as a Sync answers.
use Rattle.flat_model.proofs.Bytes.{All-slice_get as all-get}
use Rattle.std.proofs.Common.{◌≡◌, ◌≢◌, ℕ, ◌<◌, ◌+◌, ◌-◌, Bool, true, false, cond, List, [], length, map, take, replicate, Option, Some, None, refl, sym, ap, ◌∙◌, ◌⊎◌, inl, inr, subst, arith}
use Rattle.std.specs.Prelude.{slice_index_or, slice_get, option_map, is_some, is_none, IfSome, IsTrue, IsSome}
use Rattle.std.proofs.lemmas.List.{length-append, length-take, length-replicate}
use Rattle.std.proofs.lemmas.Option.{slice_get-map}
use Rattle.flat_model.specs.vm_types.Pages.{pages_in}
use Rattle.page_store.specs.core_arena.Bytes.{bytes_at, zeros}
use Rattle.page_store.specs.page_hash.Names.{find, name_at}
use Rattle.page_store.specs.page_hash.declared.PageName.{PageName}
use Rattle.page_store.proofs.page_hash.NameLaws.{find-some, find-at}
use Rattle.page_store.specs.page_lock.Rows.{row_at}
use Rattle.page_store.specs.Bays.{block_of}
use Rattle.page_store.specs.Bytes.{clip}
use Rattle.page_store.specs.Layout.{page_place}
use Rattle.page_store.specs.Notes.{Notes}
use Rattle.page_store.specs.Seen.{residence, residence_in, residence_of}
use Rattle.page_store.specs.StoreFits.{IsClean}
use Rattle.page_store.specs.Value.{content_of, value, value_in, frame_value, note_of_holder, backing_value}
use Rattle.page_store.specs.declared.place.Place.{Place}
use Rattle.page_store.specs.declared.residence.Residence.TheVariants.{Home}
use Rattle.page_store.proofs.EndLemmas.{clip-twice}
use Rattle.page_store.proofs.QueryLemmas.{home-is, found-within}
use Rattle.flat_model.specs.vnode_files.Files.{vnode_at}
use Rattle.flat_model.specs.vnode_files.Grow.{page_count}
use Rattle.flat_model.specs.vnode_files.Vnode.{VnodeSeen, page_blocks}
use Rattle.flat_model.specs.Flat.{Flat, IsFlat, IsFile}
use Rattle.flat_model.specs.History.{replay}
use Rattle.flat_model.specs.Step.{is_bit_set}
use Rattle.flat_model.specs.Words.{IsPage}
use Rattle.flat_model.proofs.WellFormed.{IsFlat-tails_cleared}
use Rattle.vm_world.specs.FlatMemory.{flat_memory, pages_from, file_with_pages}
use Rattle.vm_world.specs.HistoryFits.{HistoryFits}
use Rattle.vm_world.specs.NotesFit.{MayWriteGone}
use Rattle.vm_world.specs.Pages.{page_value, contents_of}
use Rattle.vm_world.specs.State.{KernelState, Seats, notes_of}
use Rattle.vm_world.specs.World.{World, world_table, page_exists, is_page_name, is_unpushed, file_blocks, AllTell}
use Rattle.mark_laws.specs.disk_marks.declared.marks.Pushing.{Pushing}
use Rattle.mark_laws.specs.disk_marks.Marks.{MarksSeen, push_of}
use Rattle.mark_laws.specs.disk_marks.Changes.{marks_raised, marks_emptied}
use Rattle.mark_laws.specs.Pages.{bytes_there, page_there, disk_place, HavePlacesApart}
use Rattle.mark_laws.specs.MarksFit.{pushed_page, IsBeingWritten, MarksFit}
use Rattle.mark_laws.proofs.Rising.{raises_rule}
use Rattle.mark_laws.proofs.Words.{few-bytes}
use Rattle.vm_world.specs.MarksOf.{MarksOf}
use Rattle.vm_world.specs.StateMarks.{PagesFit, MayRise, StateRaiseLaw, marks_risen}
use Rattle.vm_world.proofs.FilePages.{page-in, file-in}
use Rattle.vm_world.proofs.KeptStarts.{start_rule}
use Rattle.vm_world.proofs.PageNames.{not-slot, file-there}
use Rattle.vm_world.proofs.Places.{real, below, kept, table-place, place-there, valid-there, shows-there, places-apart}
use Rattle.vm_world.proofs.OpeningRows.{zeros-there}

-- a test doesn't pass and fail
not-both : (b : Bool) → b ≡ true → b ≡ false → ⊥
not-both true y n = let z : true ≡ false = n in cc
not-both false y n = let z : false ≡ true = y in cc

module _ (opening : Flat) (s : KernelState) (seats : Seats) (m : MarksSeen) (name : PageName) (fit : PagesFit opening s seats) (marks : MarksOf opening s seats m) (may : MayRise s.memory.world name) (tell : AllTell s.memory.world (notes_of seats)) where
  abbrev w : World
  w = s.memory.world

  abbrev notes : Notes
  notes = notes_of seats

  h : HistoryFits opening s.history s.pending (flat_memory s.memory s.born notes)
  h = fit.replays tell

  is-page : IsTrue (is_page_name w.files w.anon name)
  is-page = real s.memory s.born notes opening s.history s.pending h name fit.memory.files may.far may.exists

  low : name.page < pages_in (vnode_at w.files name.object).info.length
  low = below s.memory s.born notes opening s.history s.pending h name fit.memory.files may.far may.exists

  keeps : (name.object < length w.files.files) × (name.page < page_count (vnode_at w.files name.object).info.extents)
  keeps = kept s.memory s.born notes opening s.history s.pending h name fit.memory.files may.far may.exists

  place : world_table w name ≡ page_place (file_blocks (vnode_at w.files name.object)) name.page (is_unpushed w.files w.anon name) (slice_index_or (page_blocks (vnode_at w.files name.object).info.extents) name.page 0)
  place = table-place s.memory s.born notes opening s.history s.pending h name fit.memory.files may.far may.exists

  at : disk_place (replay opening s.history) name ≡ Some ((world_table w name).disk, (world_table w name).block)
  at = place-there s.memory s.born notes opening s.history s.pending h name fit.memory.files may.far may.exists

  valid : (world_table w name).valid ≡ bytes_there (replay opening s.history) name
  valid = valid-there s.memory s.born notes opening s.history s.pending h name fit.memory.files may.far may.exists

  shows : page_there (replay opening s.history) name ≡ clip (bytes_there (replay opening s.history) name) (page_value w notes name)
  shows = shows-there s.memory s.born notes opening s.history s.pending h name fit.memory.files may.far may.exists

  -- a frame that has the page is home, and clean
  clean : (frame : ℕ) → name_at w.store.names frame ≡ Some name → IsSome (bytes_at w.store.frames frame) → IsClean w.store notes (world_table w) frame name
  clean frame holds here = elim (fit.notes.clean frame name holds here) [
    | inl modified ↦ absurd (may.clean.unmodified frame (home_of (bytes_at w.store.frames frame) refl here) modified)
    | inr is ↦ is
  ]
    where
      home_of : (b : Option (List ℕ)) → bytes_at w.store.frames frame ≡ b → IsSome b → residence w.store name ≡ Home frame
      home_of None e some = absurd (let z : false ≡ true = some in cc)
      home_of (Some bytes) e some = ap (λ (o : Option ℕ). residence_in o w.store) (find-some w.store.names name frame fit.memory.frames.sound.distinct holds) ∙ ap (λ (b : Option (List ℕ)). residence_of b (row_at w.store.rows frame).holder frame) e

  -- NOBODY WRITES IT, where it isn't blank.
  unwritten : is_unpushed w.files w.anon name ≡ false → ¬ IsBeingWritten notes name
  unwritten pushed x =
      elim (subst (MayWriteGone w.store w.files w.anon) x.4 (fit.notes.gone x.0 x.1 x.2 x.3 (start_rule.unwritten s.memory notes name fit.memory fit.notes may.clean x.0 x.1 x.2 x.3 x.4))) [
        | inl b ↦ not-both (is_unpushed w.files w.anon name) b.0 pushed
        | inr r ↦ elim r [
          | inl none ↦ not-both (page_exists w.files w.anon name) may.exists none
          | inr at_home ↦
              let i = home-is w.store name at_home.0 at_home.1 in
              let c = clean at_home.0 (find-at w.store.names name at_home.0 i.found) (ap is_some i.there) in
              not-both (world_table w name).blank ((c.unwritten x.0 x.1 x.2 x.3 x.4).1) (ap (λ (p : Place). p.blank) place ∙ pushed)
        ]
      ]

  -- the value of the page, up to the file's end, is what its place has
  backed : (page_value w notes name ≡ backing_value w.store notes (world_table w name))
      ⊎ (clip (bytes_there (replay opening s.history) name) (page_value w notes name) ≡ backing_value w.store notes (world_table w name))
  backed = by_found (find w.store.names name) refl
    where
      by_value : (o : Option ℕ) → find w.store.names name ≡ o → page_value w notes name ≡ value_in o w.store notes (world_table w name)
      by_value o e = ap (λ (b : Bool). cond b (value w.store notes (world_table w) name) []) is-page ∙ ap (λ (f : Option ℕ). value_in f w.store notes (world_table w name)) e

      by_found : (o : Option ℕ) → find w.store.names name ≡ o
          → (page_value w notes name ≡ backing_value w.store notes (world_table w name))
          ⊎ (clip (bytes_there (replay opening s.history) name) (page_value w notes name) ≡ backing_value w.store notes (world_table w name))
      by_found None e = inl (by_value None e)
      by_found (Some frame) e = by_bytes (bytes_at w.store.frames frame) refl
        where
          by_bytes : (b : Option (List ℕ)) → bytes_at w.store.frames frame ≡ b
              → (page_value w notes name ≡ backing_value w.store notes (world_table w name))
              ⊎ (clip (bytes_there (replay opening s.history) name) (page_value w notes name) ≡ backing_value w.store notes (world_table w name))
          by_bytes (Some bytes) c =
              let is = clean frame (find-at w.store.names name frame e) (ap is_some c) in
              inr (ap (clip (bytes_there (replay opening s.history) name)) (by_value (Some frame) e ∙ ap (λ (b : Option (List ℕ)). frame_value b (note_of_holder (row_at w.store.rows frame).holder notes) (backing_value w.store notes (world_table w name))) c)
              ∙ ap (λ (n : ℕ). clip n bytes) (sym valid) ∙ is.same (tell name is-page) bytes c)
          by_bytes None c = absurd (moving (row_at w.store.rows frame).holder refl)
            where
              moving : (t : Option ℕ) → (row_at w.store.rows frame).holder ≡ t → ⊥
              moving (Some t) held = may.clean.still t (ap (λ (o : Option ℕ). residence_in o w.store) e ∙ ap (λ (b : Option (List ℕ)). residence_of b (row_at w.store.rows frame).holder frame) c ∙ ap (λ (o : Option ℕ). residence_of None o frame) held)
              moving None free =
                  let lt = found-within w.store name frame fit.memory.frames.sound e in
                  not-both true refl (ap is_none (sym c) ∙ (fit.memory.frames.sound.each frame lt).away ∙ ap is_some free)

  info-there : slice_get (map (λ (v : VnodeSeen). v.info) w.files.files) name.object ≡ Some (vnode_at w.files name.object).info
  info-there = slice_get-map (λ (v : VnodeSeen). v.info) w.files.files name.object ∙ ap (option_map (λ (v : VnodeSeen). v.info)) (file-there w.files name.object keeps.0)

  -- the page is whole
  whole : length (page_value w notes name) ≡ 4096
  whole =
      let flat : IsFlat (flat_memory s.memory s.born notes) = subst IsFlat (sym h.shows) (IsFlat-tails_cleared (replay opening s.history) (is_bit_set s.pending) h.whole) in
      let z : 0 + name.object ≡ name.object = omega arith in
      let file : slice_get (flat_memory s.memory s.born notes).files name.object ≡ Some (file_with_pages ((contents_of w notes).file name.object) (vnode_at w.files name.object).info) =
      file-in (contents_of w notes).file 0 name.object (map (λ (v : VnodeSeen). v.info) w.files.files)
      ∙ ap (λ (j : ℕ). option_map (file_with_pages ((contents_of w notes).file j)) (slice_get (map (λ (v : VnodeSeen). v.info) w.files.files) name.object)) z
      ∙ ap (option_map (file_with_pages ((contents_of w notes).file name.object))) info-there in
      let is : IsFile (file_with_pages ((contents_of w notes).file name.object) (vnode_at w.files name.object).info) = all-get IsFile (flat_memory s.memory s.born notes).files name.object (file_with_pages ((contents_of w notes).file name.object) (vnode_at w.files name.object).info) flat.files file in
      let y : 0 + name.page ≡ name.page = omega arith in
      let here : slice_get (pages_from ((contents_of w notes).file name.object) 0 (pages_in (vnode_at w.files name.object).info.length)) name.page ≡ Some (page_value w notes name) =
      page-in ((contents_of w notes).file name.object) 0 (pages_in (vnode_at w.files name.object).info.length) name.page low
      ∙ ap (λ (j : ℕ). Some ((contents_of w notes).file name.object j)) y
      ∙ ap (λ (b : Bool). Some (cond b [] (page_value w notes name))) (not-slot name.object may.far) in
      (all-get IsPage (pages_from ((contents_of w notes).file name.object) 0 (pages_in (vnode_at w.files name.object).info.length)) name.page (page_value w notes name) is.pages here).whole

  -- a page that isn't blank: its block has it
  has-block : is_unpushed w.files w.anon name ≡ false → (blocks : List (List ℕ)) → content_of w.store notes (world_table w name).disk ≡ Some blocks
      → clip (bytes_there (replay opening s.history) name) (slice_index_or blocks (world_table w name).block []) ≡ page_there (replay opening s.history) name
  has-block pushed blocks told = elim backed [
    | inl is ↦
        let same : page_value w notes name ≡ clip (bytes_there (replay opening s.history) name) (slice_index_or blocks (world_table w name).block []) = is ∙ value in
        let count : length (clip (bytes_there (replay opening s.history) name) (slice_index_or blocks (world_table w name).block [])) ≡ 4096 = sym (ap length same) ∙ whole in
        let a = length-append (take (bytes_there (replay opening s.history) name) (slice_index_or blocks (world_table w name).block [])) (replicate (4096 - bytes_there (replay opening s.history) name) 0) in
        let b = length-take (bytes_there (replay opening s.history) name) (slice_index_or blocks (world_table w name).block []) in
        let c = length-replicate {A = ℕ} (4096 - bytes_there (replay opening s.history) name) 0 in
        let most = few-bytes (replay opening s.history) name in
        sym (shows ∙ ap (clip (bytes_there (replay opening s.history) name)) same ∙ clip-twice (bytes_there (replay opening s.history) name) (slice_index_or blocks (world_table w name).block []) (omega (arith, count, a, b, c, most)))
    | inr is ↦ sym (shows ∙ is ∙ value)
  ]
    where
      value : backing_value w.store notes (world_table w name) ≡ clip (bytes_there (replay opening s.history) name) (slice_index_or blocks (world_table w name).block [])
      value = ap (λ (b : Bool). cond b zeros (clip (world_table w name).valid (block_of (content_of w.store notes (world_table w name).disk) (world_table w name).block))) (ap (λ (p : Place). p.blank) place ∙ pushed)
          ∙ ap (λ (c : Option (List (List ℕ))). clip (world_table w name).valid (block_of c (world_table w name).block)) told
          ∙ ap (λ (n : ℕ). clip n (slice_index_or blocks (world_table w name).block [])) valid

  -- a blank page is zeros
  is-zeros : is_unpushed w.files w.anon name ≡ true → page_there (replay opening s.history) name ≡ zeros
  is-zeros blank = elim backed [
    | inl is ↦ shows ∙ ap (clip (bytes_there (replay opening s.history) name)) (is ∙ value) ∙ zeros-there (replay opening s.history) name
    | inr is ↦ shows ∙ is ∙ value
  ]
    where
      value : backing_value w.store notes (world_table w name) ≡ zeros
      value = ap (λ (b : Bool). cond b zeros (clip (world_table w name).valid (block_of (content_of w.store notes (world_table w name).disk) (world_table w name).block))) (ap (λ (p : Place). p.blank) place ∙ blank)

  apart : HavePlacesApart (replay opening s.history)
  apart = places-apart s.memory s.born notes opening s.history s.pending h fit.memory.files

  -- THE MARK RISES.
  abbrev emptied : MarksSeen
  emptied = marks_emptied m (world_table s.memory.world name).disk (world_table s.memory.world name).block name.object name.page (length s.history)

  abbrev held : MarksSeen
  held = marks_raised m (world_table s.memory.world name).disk (world_table s.memory.world name).block (length s.history)

  pub raised : MarksFit opening s.history (content_of w.store notes) notes (marks_risen w m name (length s.history))
  raised = by_blank (is_unpushed w.files w.anon name) refl
    where
      told : (o : Option (List (List ℕ))) → content_of w.store notes (world_table w name).disk ≡ o → is_unpushed w.files w.anon name ≡ false
          → IfSome o (λ blocks. clip (bytes_there (replay opening s.history) name) (slice_index_or blocks (world_table w name).block []) ≡ page_there (replay opening s.history) name)
      told None e pushed = tt
      told (Some blocks) e pushed = has-block pushed blocks e

      by_blank : (b : Bool) → is_unpushed w.files w.anon name ≡ b → MarksFit opening s.history (content_of w.store notes) notes (cond b emptied held)
      by_blank true e = raises_rule.blank opening s.history (content_of w.store notes) notes m name (world_table w name).disk (world_table w name).block (marks tell) h.legal apart at (is-zeros e)
      by_blank false e = raises_rule.held opening s.history (content_of w.store notes) notes m name (world_table w name).disk (world_table w name).block (marks tell) h.legal apart at (unwritten e)
          (told (content_of w.store notes (world_table w name).disk) refl e)

  -- No push of it is kept.
  pub none-out : (seat : ℕ) (push : Pushing) → push_of (marks_risen w m name (length s.history)) seat ≡ Some push → pushed_page push ≢ name
  none-out seat push = by_blank (is_unpushed w.files w.anon name) refl
    where
      by_blank : (b : Bool) → is_unpushed w.files w.anon name ≡ b → push_of (cond b emptied held) seat ≡ Some push → pushed_page push ≢ name
      by_blank true e is = raises_rule.still m name (world_table w name).disk (world_table w name).block (length s.history) seat push is
      by_blank false e is = λ named.
          let o = (marks tell).out seat push is in
          unwritten e (seat, o.note, o.there, o.pushes.writes, o.name ∙ named)

pub state_raise_rule : StateRaiseLaw
state_raise_rule = record {
  raises = λ opening s seats m name fit marks may tell. raised opening s seats m name fit marks may tell;
  still = λ opening s seats m name fit marks may tell seat push is. none-out opening s seats m name fit marks may tell seat push is;
}
