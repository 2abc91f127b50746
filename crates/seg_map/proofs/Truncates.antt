-- WHAT IS ANSWERED TO A TRUNCATE: it is done, or the page that it wants comes home first.
use Rattle.std.proofs.Common.{◌≡◌, ◌≢◌, ℕ, ◌-◌, ◌%◌, ◌<◌, List, length, Some, None, refl, sym, ap, ◌∙◌, ◌⊎◌, inl, inr, subst, arith}
use Rattle.seg_ops.specs.page_hash.declared.PageName.{PageName}
use Rattle.seg_ops.specs.page_store.Seen.{residence}
use Rattle.seg_ops.specs.page_store.declared.plan.Hold.TheVariants as hold
use Rattle.seg_ops.specs.page_store.declared.residence.Residence.TheVariants.{Home, Moving}
use Rattle.seg_ops.specs.vm_types.declared.call.Call.TheVariants.{Truncate}
use Rattle.seg_ops.specs.vm_types.declared.call.Reply.TheVariants as reply
use Rattle.seg_ops.specs.vnode_files.declared.extent.Extent.{Extent}
use Rattle.seg_ops.specs.vnode_files.Files.{FilesSeen, vnode_at, growth_of}
use Rattle.seg_ops.specs.flat_model.Parts.{file_of_length, with_extents_of}
use Rattle.seg_ops.specs.flat_model.Words.{page, pages_in}
use Rattle.seg_ops.specs.vm_world.FileCalls.{room_refusal}
use Rattle.seg_ops.specs.vm_world.FileSteps.{ChangesFile}
use Rattle.seg_ops.specs.vm_world.MemoryFits.{MemoryFits}
use Rattle.seg_ops.specs.vm_world.Plans.{IsRefusal}
use Rattle.seg_ops.specs.vm_world.Segments.{Spaces}
use Rattle.seg_ops.specs.vm_world.Serving.{ModifiesNone, ModifiesOnly, ServesDone}
use Rattle.seg_ops.specs.vm_world.Wants.{GrowthWants, HasRoomFor, IsCutPage, IsGapPage, WantsHome}
use Rattle.seg_ops.specs.vm_world.Words.{KeepsPages}
use Rattle.seg_ops.specs.vm_world.World.{World, file_name}
use Rattle.seg_ops.specs.vm_world.declared.wants.Wants.{Wants}
use Rattle.seg_ops.specs.vm_world.declared.wants.Wants.TheVariants.{Seat}
use Rattle.seg_ops.proofs.Modified.{modifies-same}
use Rattle.seg_ops.proofs.vm_world.FileCalls.{file_calls_law}
use Rattle.seg_ops.specs.Plans.{FetchesPage}
use Rattle.seg_ops.proofs.Composed.{keeps-same}
use Rattle.seg_ops.proofs.vnode_files.GrowLemmas.{some_of}
use Rattle.seg_ops.proofs.NewlyModified.{none-then}
use Rattle.seg_ops.proofs.StillSteps.{memory_of}
use Rattle.home_pages.proofs.Takes.{takes-none}
use Rattle.home_pages.proofs.Replacements.{none-replaced}
use Rattle.seg_map.specs.Served.{ServesWant}
use Rattle.seg_map.proofs.Waits.{growth-as, none-due, waits}

module _ (old : World) (spaces : Spaces) (pending p f n : ℕ) (fits : MemoryFits (memory_of old spaces)) (served : room_refusal old.files f n ≡ None) where
  room : HasRoomFor old.files f n
  room = file_calls_law.room old.files f n served

  due-none : IsRefusal (memory_of old spaces) p (Truncate f n) None
  due-none = none-due old spaces p f (Truncate f n) fits refl served

  -- IT IS DONE, after a step that keeps all pages.
  pub done : (u new : World) → KeepsPages old u spaces → ModifiesNone old u → u.files ≡ old.files
      → ((extents : List Extent) → growth_of u.files f (pages_in n) ≡ Some extents → ChangesFile f (memory_of u spaces) (memory_of new spaces) (λ file. file_of_length n (with_extents_of extents file)))
      → ModifiesOnly (λ name. IsGapPage old f n name ⊎ IsCutPage old f n name) u new → ServesDone (memory_of old spaces) (memory_of new spaces) pending pending p (Truncate f n) reply.Done
  done u new keeps none files changes only =
      let g = some_of (growth_of old.files f (pages_in n)) room.room in
      let grown : growth_of u.files f (pages_in n) ≡ Some g.0 = ap (λ (fs : FilesSeen). growth_of fs f (pages_in n)) files ∙ g.1 in
      record {
        mid = u;
        first = takes-none old u spaces pending keeps;
        acts = λ cleared. file_calls_law.truncated p f n cleared g.0 (memory_of u spaces) (memory_of new spaces) keeps.memory (ap (λ (fs : FilesSeen). room_refusal fs f n) files ∙ served) grown (changes g.0 grown);
        replaced = none-replaced old new;
        refusal = due-none;
        modified = none-then (λ name. IsGapPage old f n name ⊎ IsCutPage old f n name) old u new none only;
        clean = λ from name is wants. absurd (let z : reply.Done ≡ reply.Synced from = is in cc);
      }

  module _ (new : World) (name : PageName) (keeps : KeepsPages old new spaces) (none : ModifiesNone old new) (files : new.files ≡ old.files) (anon : new.anon ≡ old.anon) (names : new.store.names ≡ old.store.names) (wants : GrowthWants old f n name) where
    same-length : (vnode_at new.files f).info.length ≡ (vnode_at old.files f).info.length
    same-length = ap (λ (fs : FilesSeen). (vnode_at fs f).info.length) files

    -- the old last page is wanted still
    wants-still : WantsHome (memory_of new spaces) p (Truncate f n) name
    wants-still = (
      subst (λ (fs : FilesSeen). HasRoomFor fs f n) (sym files) room,
      inl (growth-as old new f n name files anon names wants),
    )

    -- and no other page is
    only-wanted : (m : PageName) → WantsHome (memory_of new spaces) p (Truncate f n) m → m ≡ name
    only-wanted m w = elim w.1 [
      | inl g ↦ g.gap.last ∙ ap (λ (l : ℕ). file_name f (page l)) same-length ∙ sym wants.gap.last
      | inr c ↦ absurd (let less = c.cut.shorter in let more = wants.gap.longer in let e = same-length in omega (arith, less, more, e))
    ]

    -- WHAT MUST COME FIRST is that the page, which isn't home, comes home.
    pub fetches : (want : Wants) → ((frame : ℕ) → residence old.store name ≢ Home frame) → FetchesPage (memory_of new spaces) name want → ServesWant (memory_of old spaces) (memory_of new spaces) pending pending p (Truncate f n) want
    fetches want away needs =
        waits old new spaces pending pending p f (Truncate f n) name want (takes-none old new spaces pending keeps) fits refl served files (none-replaced old new) none wants-still
        (λ m frame w home. absurd (away frame (ap (residence old.store) (sym (only-wanted m w)) ∙ home))) needs

  -- THE NEW LAST PAGE IS MOVING.
  pub tail-moves : (seat : ℕ) → n < (vnode_at old.files f).info.length → n % 4096 ≢ 0 → residence old.store (file_name f (page n)) ≡ Moving seat
      → ServesWant (memory_of old spaces) (memory_of old spaces) pending pending p (Truncate f n) (Seat (hold.Page seat))
  tail-moves seat less tail moving = λ calls. record {
    first = takes-none old old spaces pending (keeps-same old spaces fits);
    replaced = none-replaced old old;
    spaces = refl;
    holds = (file_name f (page n), inl (room, inr (record { cut = record { shorter = less; tail = tail; last = refl }; away = (seat, moving) })), moving);
    refusal = λ file. due-none;
    modified = modifies-same old;
  }
