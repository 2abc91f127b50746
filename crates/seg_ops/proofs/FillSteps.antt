-- A PAGE OF ZEROS is made: the step, and the cut of the name that the taken frame held.
use Rattle.seg_ops.proofs.Shows.{of-frame as of-next}
use Rattle.std.proofs.Common.{◌≡◌, ◌≢◌, ℕ, ◌<◌, ◌==◌, Bool, true, false, cond, List, length, Option, Some, None, refl, sym, ap, ◌∙◌, inl, inr, subst, get_or-set_same}
use Rattle.std.specs.Prelude.{IsTrue, IsSome, IfSome}
use Rattle.std.proofs.lemmas.Bool.{cases_Bool, eq-eqb}
use Rattle.page_store.specs.core_arena.Bytes.{bytes_at, zeros}
use Rattle.page_store.specs.page_hash.Names.{name_at, find, is_name}
use Rattle.page_store.specs.page_hash.declared.PageName.{PageName}
use Rattle.page_store.proofs.page_hash.NameLaws.{find-some, find-none, is_name-true, is_name-same}
use Rattle.page_store.specs.page_lock.Rows.{row_at}
use Rattle.page_store.specs.Bays.{block_of}
use Rattle.page_store.specs.Bytes.{clip}
use Rattle.page_store.specs.Laws.{FillsPage}
use Rattle.page_store.specs.Moves.{after_taking, FillsFrame}
use Rattle.page_store.specs.Notes.{Notes}
use Rattle.page_store.specs.Seen.{StoreSeen, IsListedFrame, residence}
use Rattle.page_store.specs.Steps.{next_frame, next_name, name_in, after_fill, at_frame, with_frame_filled, fresh_row}
use Rattle.page_store.specs.StoreFits.{StoreFits}
use Rattle.page_store.specs.Table.{PlaceTable}
use Rattle.page_store.specs.Value.{value, value_in, frame_value, note_of_holder, backing_value, content_of}
use Rattle.page_store.specs.declared.residence.Residence.TheVariants.{Home, Absent}
use Rattle.page_store.proofs.QueryLemmas.{absent-is, some-within}
use Rattle.vm_world.specs.flat_model.Words.{Page}
use Rattle.vm_world.specs.MemoryFits.{MemoryFits}
use Rattle.vm_world.specs.Pages.{page_value}
use Rattle.vm_world.specs.Segments.{Spaces}
use Rattle.vm_world.specs.World.{World, core_of, world_table, is_unpushed, page_exists}
use Rattle.vm_world.specs.WorldSteps.{WorldStep, stays, cut_page}
use Rattle.vm_world.proofs.FrameRule.{exists-page, valid-within}
use Rattle.seg_ops.proofs.StillSteps.{with_tables, memory_of, tell-kept, value-is}
use Rattle.seg_ops.proofs.Fills.{TakesFor, next-listed, fill-memory, fill-notes, blank-is}

pub some-of : (o : Option ℕ) → IsSome o → (x : ℕ) × (o ≡ Some x)
some-of None h = absurd (let z : false ≡ true = h in cc)
some-of (Some x) h = (x, refl)

-- the store's call, as it is used here
pub takes-page : (w : World) (spaces : Spaces) (new : StoreSeen) (name : PageName) (frame : ℕ) (page : List ℕ) (modified : Bool) (given : Notes → PlaceTable → List ℕ) → MemoryFits (memory_of w spaces) → next_frame w.store ≡ Some frame → residence w.store name ≡ Absent
    → new ≡ after_fill w.store name page modified → FillsPage w.store new name modified given → TakesFor w.store new name frame
takes-page w spaces new name frame page modified given f next absent step laws =
    let lt : frame < length w.store.frames = some-within w.store.frames frame (f.frames.sound.listed frame (next-listed w.store frame next)) in
    let done : new ≡ with_frame_filled w.store frame name page modified = step ∙ ap (λ (o : Option ℕ). at_frame o w.store (λ g. with_frame_filled w.store g name page modified)) next in
    record {
      page = page;
      modified = modified;
      given = given;
      next = next;
      core = ap core_of done;
      absent = absent;
      bytes = ap (λ (s : StoreSeen). bytes_at s.frames frame) done ∙ get_or-set_same w.store.frames frame (Some page) None lt;
      home = of-next (next_frame w.store) frame (λ g. residence new name ≡ Home g) next laws.home;
      row = of-next (next_frame w.store) frame (λ g. row_at new.rows g ≡ fresh_row modified) next laws.row;
      unlisted = of-next (next_frame w.store) frame (λ g. ¬ IsListedFrame new g) next laws.unlisted;
      laws = laws;
    }

-- What the store's call says of a page of zeros: a slot's is modified.
pub record TakesZeros (w : World) (new : StoreSeen) (name : PageName) (frame : ℕ) : Type 0 where
  pub takes : TakesFor w.store new name frame
  pub swap : name.object ≡ 64 → takes.modified ≡ true
  pub zeroed : bytes_at new.frames frame ≡ Some zeros
  pub values : (notes : Notes) (table : PlaceTable) → StoreFits w.store notes table → FillsFrame w.store notes new notes table name zeros

pub takes-for : (w : World) (spaces : Spaces) (new : StoreSeen) (name : PageName) (frame : ℕ) → MemoryFits (memory_of w spaces) → next_frame w.store ≡ Some frame → residence w.store name ≡ Absent
    → new ≡ after_fill w.store name zeros (name.object == 64) → FillsPage w.store new name (name.object == 64) (λ notes table. zeros) → TakesZeros w new name frame
unfolding takes-page
takes-for w spaces new name frame f next absent step laws =
    let lt : frame < length w.store.frames = some-within w.store.frames frame (f.frames.sound.listed frame (next-listed w.store frame next)) in
    let done : new ≡ with_frame_filled w.store frame name zeros (name.object == 64) = step ∙ ap (λ (o : Option ℕ). at_frame o w.store (λ g. with_frame_filled w.store g name zeros (name.object == 64))) next in
    record {
      takes = takes-page w spaces new name frame zeros (name.object == 64) (λ notes table. zeros) f next absent step laws;
      swap = λ is. eq-eqb name.object 64 is;
      zeroed = ap (λ (s : StoreSeen). bytes_at s.frames frame) done ∙ get_or-set_same w.store.frames frame (Some zeros) None lt;
      values = laws.values;
    }

-- the value of a blank page that no frame holds
pub absent-zeros : (s : StoreSeen) (notes : Notes) (table : PlaceTable) (n : PageName) → find s.names n ≡ None → (table n).blank ≡ true → value s notes table n ≡ zeros
absent-zeros s notes table n none blank = ap (λ (o : Option ℕ). value_in o s notes (table n)) none ∙ ap (λ (b : Bool). cond b zeros (clip (table n).valid (block_of (content_of s notes (table n).disk) (table n).block))) blank

pub home-value : (s : StoreSeen) (notes : Notes) (table : PlaceTable) (n : PageName) (frame : ℕ) (b : Option (List ℕ)) → find s.names n ≡ Some frame → bytes_at s.frames frame ≡ b → IsSome b → (bytes : List ℕ) × (b ≡ Some bytes) × (value s notes table n ≡ bytes)
home-value s notes table n frame None at is there = absurd (let z : false ≡ true = there in cc)
home-value s notes table n frame (Some bytes) at is there = (bytes, refl, ap (λ (o : Option ℕ). value_in o s notes (table n)) at ∙ ap (λ (x : Option (List ℕ)). frame_value x (note_of_holder (row_at s.rows frame).holder notes) (backing_value s notes (table n))) is)

-- the page of the frame that is taken next is whole
pub next-whole : (w : World) (spaces : Spaces) (notes : Notes) (n : PageName) → MemoryFits (memory_of w spaces) → IsTrue (is_name (next_name w.store) n) → length (page_value w notes n) ≡ 4096
next-whole w spaces notes n f cut = by_next (next_frame w.store) refl cut
  where
    by_next : (o : Option ℕ) → next_frame w.store ≡ o → is_name (next_name w.store) n ≡ true → length (page_value w notes n) ≡ 4096
    by_next None e cut = absurd (let z : false ≡ true = sym (ap (λ (o : Option ℕ). is_name (name_in w.store.names o) n) e) ∙ cut in cc)
    by_next (Some frame) e cut =
        let at : name_at w.store.names frame ≡ Some n = sym (ap (name_in w.store.names) e) ∙ is_name-true (next_name w.store) n cut in
        let is = exists-page w n f.files (f.frames.exist frame n at) in
        let home = f.frames.sound.listed frame (next-listed w.store frame e) in
        let v = home-value w.store notes (world_table w) n frame (bytes_at w.store.frames frame) (find-some w.store.names n frame f.frames.sound.distinct at) refl home in
        ap (λ (b : Page). length b) (value-is w notes n is ∙ v.2) ∙ (f.frames.sound.each frame (some-within w.store.frames frame home)).size v.0 v.1

pub fill-step : (w : World) (spaces : Spaces) (new : StoreSeen) (name : PageName) (frame : ℕ) → MemoryFits (memory_of w spaces) → TakesZeros w new name frame → IsTrue (page_exists w.files w.anon name) → IsTrue (is_unpushed w.files w.anon name)
    → WorldStep w (with_tables w new w.hat) spaces stays (is_name (next_name w.store))
fill-step w spaces new name frame f z exists unpushed =
    let k = z.takes in
    let real = exists-page w name f.files exists in
    let blank : (world_table w name).blank ≡ true = blank-is w name f.files real ∙ unpushed in
    let valid = valid-within w name f.files real in
    let taken : next_name w.store ≡ name_at w.store.names frame = ap (name_in w.store.names) k.next in
    let none : find w.store.names name ≡ None = absent-is w.store name f.frames.sound k.absent in
    let not_taken : is_name (next_name w.store) name ≡ false = elim (cases_Bool (is_name (next_name w.store) name)) [
      | inl is ↦ absurd (find-none w.store.names name frame none (sym taken ∙ is_name-true (next_name w.store) name is))
      | inr free ↦ free
    ] in
    record {
      tables = record { maps = refl; counts = refl; reserved = refl; disks = refl; infos = refl };
      core = k.core;
      frames = k.laws.touches.frames;
      bays = k.laws.outside.bays;
      memory = fill-memory w spaces new name frame f k exists z.swap;
      notes = λ notes trip nf. fill-notes w spaces new name frame notes f k z.zeroed blank valid (z.values notes (world_table w) nf.stored).fits nf;
      tells = λ notes trip nf. tell-kept w new w.hat notes (z.values notes (world_table w) nf.stored).alike;
      whole = λ notes n trip nf tell exists cut. next-whole w spaces notes n f cut;
      pages = λ notes n trip nf tell there.
          let is = exists-page w n f.files there in
          let call = z.values notes (world_table w) nf.stored in
          elim (cases_Bool (is_name (Some name) n)) [
            | inl same ↦
                let e : name ≡ n = let z : Some name ≡ Some n = is_name-true (Some name) n same in cc in
                value-is (with_tables w new w.hat) notes n is ∙ ap (λ (m : PageName). value new notes (world_table w) m) (sym e) ∙ call.filled ∙ sym (absent-zeros w.store notes (world_table w) name none blank)
                ∙ ap (λ (m : PageName). value w.store notes (world_table w) m) e ∙ sym (value-is w notes n is)
                ∙ sym (ap (λ (b : Bool). cut_page b (world_table w n).valid (page_value w notes n)) (ap (is_name (next_name w.store)) (sym e) ∙ not_taken))
            | inr other ↦
                let ne : n ≢ name = λ e. let z : true ≡ false = sym (is_name-same name) ∙ ap (is_name (Some name)) (sym e) ∙ other in cc in
                value-is (with_tables w new w.hat) notes n is ∙ call.others n ne (tell n is) ∙ ap (after_taking (next_name w.store) n (world_table w n)) (sym (value-is w notes n is))
          ];
    }
