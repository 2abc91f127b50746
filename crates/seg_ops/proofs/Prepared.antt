-- A PAGE IS READY TO BE PUSHED: its translations' bits are in it, and it counts as pushed; what the flight has is said of the world before.
use Rattle.std.proofs.Common.{◌≡◌, ℕ, ◌<◌, List, length, Option, Some, None, refl, sym, ap, ◌∙◌, subst, arith, inl}
use Rattle.std.specs.Option.{option_or}
use Rattle.std.specs.Prelude.{IsSome, IfSome, ◌||◌, ◌^◌, ◌-◌}
use Rattle.std.proofs.lemmas.List.{length-map}
use Rattle.page_store.specs.core_arena.Bytes.{bytes_at}
use Rattle.page_store.specs.page_hash.Names.{AreDistinct, find, is_name, name_at}
use Rattle.page_store.specs.page_hash.declared.PageName.{PageName}
use Rattle.page_store.specs.page_lock.Rows.{row_at}
use Rattle.page_store.specs.Bays.{bay_at}
use Rattle.page_store.specs.Flight.{FlightSeen}
use Rattle.page_store.specs.Seen.{StoreSeen, residence}
use Rattle.page_store.specs.Steps.{at_frame, home_bytes, next_frame, next_name}
use Rattle.page_store.specs.Waits.{Waits, holder_in}
use Rattle.page_store.specs.declared.plan.Plan.TheVariants.{Push}
use Rattle.page_store.specs.declared.residence.Residence.TheVariants.{Home}
use Rattle.page_store.proofs.QueryLemmas.{home-is, found-within, residence-home}
use Rattle.vm_world.specs.anon_slots.Slots.{AnonSlotsSeen}
use Rattle.vm_world.specs.hat_layer.declared.translation.Translation.{Translation}
use Rattle.vm_world.specs.hat_layer.Pool.{bits_of}
use Rattle.vm_world.specs.flat_model.Step.{is_bit_set}
use Rattle.vm_world.specs.flat_model.Words.{pages_in}
use Rattle.vm_world.specs.vnode_files.declared.vnode.FileInfo.{FileInfo}
use Rattle.vm_world.specs.vnode_files.Files.{FilesSeen}
use Rattle.vm_world.specs.vnode_files.Vnode.{VnodeSeen}
use Rattle.vm_world.specs.MemoryFits.{MemoryFits}
use Rattle.vm_world.specs.Segments.{Spaces}
use Rattle.vm_world.specs.Serving.{LosesFrame}
use Rattle.vm_world.specs.StateSteps.{PendsTails}
use Rattle.vm_world.specs.TranslationsFit.{IsModified}
use Rattle.vm_world.specs.Wants.{IsDirtyPage}
use Rattle.vm_world.specs.World.{World, file_name, page_table, world_table}
use Rattle.vm_world.specs.WorldSteps.{KeepsTables}
use Rattle.vm_world.proofs.FrameRule.{info-same}
use Rattle.seg_ops.specs.Flights.{BeginsFor, IsUnloaded, places_pushed, store_synced}
use Rattle.seg_ops.specs.Marks.{files_pushed, slots_pushed}
use Rattle.seg_ops.specs.Steps.{with_bits_gathered}
use Rattle.seg_ops.proofs.Disks.{dirty-exists}
use Rattle.seg_ops.proofs.Evictions.{unlocked}
use Rattle.seg_ops.proofs.Fills.{held-by}
use Rattle.seg_ops.proofs.Marks.{SameSpot, table-spot}
use Rattle.seg_ops.proofs.Pushed.{marks-pushed}
use Rattle.seg_ops.proofs.StillSteps.{memory_of}
use Rattle.seg_ops.proofs.FrameDrops.{gathered-modified, sent-unloaded}

-- the frame of a page that is home and modified
pub dirty-found : (w : World) (name : PageName) (d : IsDirtyPage w name) → find w.store.names name ≡ Some d.frame
dirty-found w name d = (home-is w.store name d.frame d.home).found

pub dirty-within : (w : World) (spaces : Spaces) (name : PageName) → MemoryFits (memory_of w spaces) → (d : IsDirtyPage w name) → d.frame < length w.store.frames
dirty-within w spaces name f d = found-within w.store name d.frame f.frames.sound (dirty-found w name d)

-- What was done before the push.
pub record Prepared (w mid : World) (name : PageName) : Type 0 where
  pub dirty : IsDirtyPage w name
  pub store : mid.store ≡ store_synced w name
  pub files : mid.files ≡ files_pushed w.files name
  pub anon : mid.anon ≡ slots_pushed w.anon name
  pub tables : KeepsTables w mid

-- the store's rows alone changed
pub synced : (w mid : World) (name : PageName) (p : Prepared w mid name) → mid.store ≡ with_bits_gathered w.store p.dirty.frame (bits_of p.dirty.frame w.hat.places)
synced w mid name p = p.store ∙ ap (λ (o : Option ℕ). at_frame o w.store (λ frame. with_bits_gathered w.store frame (bits_of frame w.hat.places))) (dirty-found w name p.dirty)

-- the page's place, but that it isn't blank
pub same-spot : (w mid : World) (spaces : Spaces) (name : PageName) → MemoryFits (memory_of w spaces) → Prepared w mid name → SameSpot (world_table mid name) (world_table w name)
same-spot w mid spaces name f p =
    subst (λ (a : AnonSlotsSeen). SameSpot (page_table mid.files a name) (world_table w name)) (sym p.anon)
    (subst (λ (fs : FilesSeen). SameSpot (page_table fs (slots_pushed w.anon name) name) (world_table w name)) (sym p.files)
    (table-spot w (files_pushed w.files name) (slots_pushed w.anon name) name (marks-pushed w spaces name f (dirty-exists w spaces name f p.dirty)) name))

-- nobody holds a page that is home
pub prepared-ready : (w mid : World) (spaces : Spaces) (name : PageName) → MemoryFits (memory_of w spaces) → MemoryFits (memory_of mid spaces) → Prepared w mid name → IsDirtyPage mid name
    → Waits w.store name (world_table w name).disk None → Waits mid.store name (world_table mid name).disk None
prepared-ready w mid spaces name f g p d waits = (
  (waits.0.0, ap (bay_at mid.store.bays) (same-spot w mid spaces name f p).disk ∙ ap (λ (s : StoreSeen). bay_at s.bays (world_table w name).disk) (synced w mid name p) ∙ waits.0.1),
  ap (λ (o : Option ℕ). holder_in o mid.store) (dirty-found mid name d)
      ∙ unlocked mid spaces d.frame g (subst (λ (b : Option (List ℕ)). IsSome b) (sym (home-is mid.store name d.frame d.home).there) refl),
)

-- THE FLIGHT, said of the world before.
pub prepared-flight : (w mid : World) (spaces : Spaces) (name : PageName) (seat : ℕ) (f : FlightSeen) → MemoryFits (memory_of w spaces) → Prepared w mid name → BeginsFor mid seat (Push name) f → BeginsFor w seat (Push name) f
prepared-flight w mid spaces name seat f fit p b =
    let spot = same-spot w mid spaces name fit p in
    let is = synced w mid name p in
    record {
      begins = record {
        seat = b.begins.seat;
        number = b.begins.number ∙ spot.disk;
        disk = sym (ap (bay_at mid.store.bays) spot.disk ∙ ap (λ (s : StoreSeen). bay_at s.bays (world_table w name).disk) is) ∙ b.begins.disk;
        writes = b.begins.writes;
        name = b.begins.name;
        block = b.begins.block ∙ spot.block;
        valid = b.begins.valid ∙ spot.valid;
        origin = b.begins.origin ∙ ap (λ (s : StoreSeen). s.origin) is;
        outcome = b.begins.outcome;
      };
      frame = sym (ap (λ (s : StoreSeen). option_or (next_frame s) (find s.names name)) is) ∙ b.frame;
      bytes = b.bytes ∙ ap (λ (s : StoreSeen). home_bytes s (find s.names name)) is;
    }

-- TAILS, said of the world before: files keep their lengths.
pub prepared-pends : (w mid : World) (name : PageName) (pending more now : ℕ) → Prepared w mid name → now ≡ pending → PendsTails mid (is_name (next_name mid.store)) now more → PendsTails w (is_name (next_name w.store)) pending more
prepared-pends w mid name pending more now k same before =
    let p = subst (λ (n : ℕ). PendsTails mid (is_name (next_name w.store)) n more) same
    (subst (λ (o : Option PageName). PendsTails mid (is_name o) now more) (ap next_name (synced w mid name k)) before) in
    let count : length mid.files.files ≡ length w.files.files = sym (length-map mid.files.files (λ (v : VnodeSeen). v.info)) ∙ ap length k.tables.infos ∙ length-map w.files.files (λ (v : VnodeSeen). v.info) in
    record {
      bits = λ f lt. p.bits f (subst (λ (n : ℕ). f < n) (sym count) lt) ∙ ap (λ (i : FileInfo). is_bit_set pending f || is_name (next_name w.store) (file_name f (pages_in i.length - 1))) (info-same w mid f k.tables);
      below = λ few. subst (λ (n : ℕ). more < 2 ^ n) count (p.below (subst (λ (n : ℕ). pending < 2 ^ n) (sym count) few));
    }

-- NO TRANSLATION leads to the frame that goes out
pub prepared-unloaded : (w mid : World) (spaces : Spaces) (name : PageName) → MemoryFits (memory_of w spaces) → Prepared w mid name → mid.hat.places ≡ places_pushed (next_frame w.store) (find w.store.names name) w.hat.places
    → (frame : ℕ) → option_or (next_frame mid.store) (find mid.store.names name) ≡ Some frame → IsUnloaded mid.hat.places frame
prepared-unloaded w mid spaces name f p places frame out =
    sent-unloaded w spaces mid.hat.places p.dirty.frame frame f (places ∙ ap (λ (o : Option ℕ). places_pushed (next_frame w.store) o w.hat.places) (dirty-found w name p.dirty))
    (sym (ap (λ (s : StoreSeen). option_or (next_frame s) (find s.names name)) (synced w mid name p) ∙ ap (option_or (next_frame w.store)) (dirty-found w name p.dirty)) ∙ out)

-- the name that lost its frame, said of the world before
pub prepared-took : (w mid new : World) (name : PageName) → Prepared w mid name → IfSome (next_name mid.store) (λ n. LosesFrame mid new n) → IfSome (next_name w.store) (λ n. LosesFrame w new n)
prepared-took w mid new name p took = by_name (next_name w.store) (subst (λ (o : Option PageName). IfSome o (λ n. LosesFrame mid new n)) (ap next_name (synced w mid name p)) took)
  where
    by_name : (o : Option PageName) → IfSome o (λ n. LosesFrame mid new n) → IfSome o (λ n. LosesFrame w new n)
    by_name None took = tt
    by_name (Some n) took = record { frame = took.frame; held = sym (ap (λ (s : StoreSeen). name_at s.names took.frame) (synced w mid name p)) ∙ took.held; taken = took.taken }

-- the page is modified still, and home
pub gathered-dirty : (w mid : World) (spaces : Spaces) (name : PageName) → MemoryFits (memory_of w spaces) → (d : IsDirtyPage w name) → mid.store ≡ with_bits_gathered w.store d.frame (bits_of d.frame w.hat.places) → IsDirtyPage mid name
gathered-dirty w mid spaces name f d is = record {
  frame = d.frame;
  home = residence-home mid.store name d.frame (subst AreDistinct (sym (ap (λ (s : StoreSeen). s.names) is)) f.frames.sound.distinct)
      (ap (λ (s : StoreSeen). name_at s.names d.frame) is ∙ held-by w.store name d.frame d.home)
      (subst (λ (b : Option (List ℕ)). IsSome b) (sym (ap (λ (s : StoreSeen). bytes_at s.frames d.frame) is ∙ (home-is w.store name d.frame d.home).there)) refl);
  modified = inl (ap (λ (s : StoreSeen). (row_at s.rows d.frame).modified) is
      ∙ gathered-modified w.store w.hat.places d.frame (let a = dirty-within w spaces name f d in let b = f.frames.sound.rows in omega (arith, a, b)) d.modified);
}

-- what else of the world changes tells nothing of it
pub dirty-same : (w v : World) (name : PageName) → v.store ≡ w.store → v.hat.places ≡ w.hat.places → IsDirtyPage w name → IsDirtyPage v name
dirty-same w v name store places d = record {
  frame = d.frame;
  home = ap (λ (s : StoreSeen). residence s name) store ∙ d.home;
  modified = subst (λ (s : StoreSeen). IsModified s v.hat.places d.frame) (sym store) (subst (λ (ps : List (Option Translation)). IsModified w.store ps d.frame) (sym places) d.modified);
}

-- a page is home in one frame
pub one-frame : (w : World) (name : PageName) (frame : ℕ) → (d : IsDirtyPage w name) → residence w.store name ≡ Home frame → d.frame ≡ frame
one-frame w name frame d home = let z : Some d.frame ≡ Some frame = sym (dirty-found w name d) ∙ (home-is w.store name frame home).found in cc
