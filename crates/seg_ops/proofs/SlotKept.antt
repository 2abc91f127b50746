-- A PLACE THAT IS EMPTIED while other places hold its slot: memory and the notes fit, and each page keeps its value.
use Rattle.std.proofs.Common.{◌≡◌, ℕ, ◌<◌, cond, List, [], Option, None, refl, sym, ap, ◌∙◌, inl, inr, subst, arith, slice_index_or}
use Rattle.std.specs.Prelude.{IsTrue, IsFalse, true, false}
use Rattle.page_store.specs.page_hash.declared.PageName.{PageName}
use Rattle.page_store.specs.Notes.{Notes}
use Rattle.page_store.specs.StoreFits.{StoreFits}
use Rattle.page_store.specs.Table.{PlaceTable}
use Rattle.page_store.specs.Value.{value, tells}
use Rattle.vm_world.specs.anon_map.Maps.{Map}
use Rattle.vm_world.specs.anon_slots.Slots.{AnonSlotsSeen, count_at}
use Rattle.vm_world.specs.FramesFit.{DisksFit, HasSize}
use Rattle.vm_world.specs.MemoryFits.{MemoryFits}
use Rattle.vm_world.specs.NotesFit.{NotesFit, CleanFit, PushFits}
use Rattle.vm_world.specs.Segments.{Spaces}
use Rattle.vm_world.specs.World.{World, slot_name, is_unpushed, page_exists, page_table, world_table}
use Rattle.seg_ops.specs.Empties.{LeavesSlot, EmptiesPlace}
use Rattle.seg_ops.proofs.Marks.{cases-name}
use Rattle.seg_ops.proofs.SlotLeaves.{exists-else, table-left, page-name-left, IsUnloadedPlace, left-once, left-shown, left-writable}
use Rattle.seg_ops.proofs.SlotMemory.{with_slot, lt-used, segments-set}
use Rattle.seg_ops.proofs.StillSteps.{memory_of}

module _ (w : World) (spaces : Spaces) (anon : AnonSlotsSeen) (put : List (Option Map)) (m i s : ℕ) (f : MemoryFits (memory_of w spaces)) (k : LeavesSlot w.anon anon w.maps put m i s) (more : 1 < count_at w.anon s) (unloaded : IsUnloadedPlace w.hat.places spaces m i) where
  -- what existed still exists
  still : (n : PageName) → IsTrue (page_exists w.files w.anon n) → IsTrue (page_exists w.files anon n)
  still n exists = elim (cases-name (slot_name s) n) [
    | inr ne ↦ exists-else w.files w.anon anon w.maps put m i s k n ne ∙ exists
    | inl e ↦ ap (page_exists w.files anon) e ∙ lt-used (count_at anon s) (let less = k.less in omega (arith, less, more))
  ]

  missing : (n : PageName) → IsFalse (page_exists w.files w.anon n) → IsFalse (page_exists w.files anon n)
  missing n gone = elim (cases-name (slot_name s) n) [
    | inr ne ↦ exists-else w.files w.anon anon w.maps put m i s k n ne ∙ gone
    | inl e ↦ absurd (let z : false ≡ true = sym gone ∙ ap (page_exists w.files w.anon) e ∙ lt-used (count_at w.anon s) (omega (arith, more)) in cc)
  ]

  table : page_table w.files anon ≡ world_table w
  table = table-left w.files w.anon anon w.maps put m i s k

  kept-memory : MemoryFits (memory_of (with_slot w w.store anon put) spaces)
  kept-memory = record {
    frames = record { sound = f.frames.sound; unkept = f.frames.unkept; unmodified = f.frames.unmodified; exist = λ j n h. still n (f.frames.exist j n h) };
    files = f.files;
    disks = subst (λ (c : ℕ). DisksFit w.store.bays w.files.disks c) (sym k.slots) f.disks;
    pool = f.pool;
    translations = λ j t is.
        let l = f.translations j t is in
        let stays = left-shown w spaces anon put m i s k unloaded j t is l.spot l.name l.here l.shows in
        record {
          spot = l.spot;
          here = l.here;
          name = l.name;
          shows = stays.shows;
          home = l.home;
          unlisted = l.unlisted;
          allowed = l.allowed;
          writable = λ h. left-writable w anon put m i s l.spot f.counts k (unloaded.own j t l.spot is l.here) stays.own (l.writable h);
        };
    unpushed = λ j a h unpushed home. f.unpushed j a h (ap (λ swapped. slice_index_or swapped a false) (sym k.swapped) ∙ unpushed) home;
    counts = k.counts;
    segments = segments-set w spaces anon put m i None f k.within k.set k.reserved (λ number place t held was. left-once w.anon anon w.maps put m i s number place t f.counts k held was);
  }

  kept-notes : (notes : Notes) → NotesFit w notes → NotesFit (with_slot w w.store anon put) notes
  kept-notes notes nf = record {
    stored = subst (λ (t : PlaceTable). StoreFits w.store notes t) (sym table) nf.stored;
    clean = subst (λ (t : PlaceTable). CleanFit w.store w.hat.places t notes) (sym table) nf.clean;
    pushes = λ seat note is writes there. subst (λ (t : PlaceTable). PushFits w.store w.hat.places t note) (sym table) (nf.pushes seat note is writes there);
    gone = λ seat note is writes gone. elim (nf.gone seat note is writes gone) [
      | inl a ↦ inl (ap (λ swapped. is_unpushed w.files (record anon { swapped = swapped }) note.name) k.swapped ∙ a.0, a.1)
      | inr b ↦ inr (elim b [ inl c ↦ inl (missing note.name c) | inr d ↦ inr d ])
    ];
    sizes = λ seat note is. subst (λ (c : ℕ). HasSize w.files.disks c note.number note.disk.size) (sym k.slots) (nf.sizes seat note is);
  }

  -- WHAT HOLDS OF THE WORLD then.
  pub kept-place : EmptiesPlace w (with_slot w w.store anon put) spaces m i s
  kept-place = record {
    slot = k;
    files = refl;
    hat = refl;
    core = refl;
    frames = refl;
    bays = refl;
    memory = kept-memory;
    notes = kept-notes;
    tells = λ notes nf. (
      (λ tell n real. ap (λ (t : PlaceTable). tells w.store notes (t n).disk) table ∙ tell n (sym (page-name-left w.files w.anon anon w.maps put m i s k n) ∙ real)),
      (λ tell n real. sym (ap (λ (t : PlaceTable). tells w.store notes (t n).disk) table) ∙ tell n (page-name-left w.files w.anon anon w.maps put m i s k n ∙ real)),
    );
    pages = λ notes n nf tell exists. λ j. cond (page-name-left w.files w.anon anon w.maps put m i s k n j) (value w.store notes (table j) n) [];
  }
