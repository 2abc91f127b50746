-- The files by the history, and as they are.
use Rattle.std.proofs.Common.{◌≡◌, ℕ, ◌<◌, Bool, true, false, cond, length, map, Option, Some, None, refl, sym, ap, ◌∙◌, subst}
use Rattle.std.specs.Prelude.{slice_get, option_map}
use Rattle.std.proofs.lemmas.Option.{slice_get-map}
use Rattle.flat_model.specs.vnode_files.Files.{FilesSeen, vnode_at}
use Rattle.flat_model.specs.vnode_files.Vnode.{VnodeSeen}
use Rattle.flat_model.specs.vnode_files.declared.vnode.FileInfo.{FileInfo}
use Rattle.flat_model.specs.Flat.{Flat, File}
use Rattle.flat_model.specs.History.{replay}
use Rattle.flat_model.specs.Parts.{without_tail}
use Rattle.flat_model.specs.Step.{is_bit_set}
use Rattle.flat_model.specs.Words.{Page}
use Rattle.page_store.specs.Notes.{Notes}
use Rattle.vm_world.specs.FlatMemory.{flat_memory, file_with_pages}
use Rattle.vm_world.specs.HistoryFits.{HistoryFits}
use Rattle.vm_world.specs.Pages.{contents_of}
use Rattle.vm_world.specs.State.{KernelState, Seats, notes_of}
use Rattle.vm_world.specs.World.{AllTell}
use Rattle.vm_world.proofs.FlatWhole.{some-inj}
use Rattle.vm_world.proofs.PageNames.{info-there, file-there}
use Rattle.vm_world.specs.StateMarks.{PagesFit}
use Rattle.vm_world.proofs.Places.{cleared}

-- what isn't a page's bytes of a file, by its record
pub record HasInfo (old : File) (info : FileInfo) : Type 0 where
  pub len : old.len ≡ info.length
  pub on : old.disk ≡ info.disk
  pub extents : old.extents ≡ info.extents

by-info : (page : ℕ → Page) (b : Bool) (o : Option File) (p : Option FileInfo) → option_map (λ (file : File). cond b (without_tail file) file) o ≡ option_map (file_with_pages page) p
    → (old : File) → o ≡ Some old → (info : FileInfo) × (p ≡ Some info) × HasInfo old info
by-info page b None p is old e = absurd (let z : ◌≡◌ {A = Option File} None (Some old) = e in cc)
by-info page b (Some file) None is old e = absurd (let z : ◌≡◌ {A = Option File} (Some (cond b (without_tail file) file)) None = is in cc)
by-info page true (Some file) (Some info) is old e =
    let same = some-inj (without_tail file) (file_with_pages page info) is in
    let own = some-inj file old e in (
      info,
      refl,
      record {
        len = sym (ap (λ (x : File). x.len) own) ∙ ap (λ (x : File). x.len) same;
        on = sym (ap (λ (x : File). x.disk) own) ∙ ap (λ (x : File). x.disk) same;
        extents = sym (ap (λ (x : File). x.extents) own) ∙ ap (λ (x : File). x.extents) same;
      },
    )
by-info page false (Some file) (Some info) is old e =
    let same = some-inj file (file_with_pages page info) is in
    let own = some-inj file old e in (
      info,
      refl,
      record {
        len = sym (ap (λ (x : File). x.len) own) ∙ ap (λ (x : File). x.len) same;
        on = sym (ap (λ (x : File). x.disk) own) ∙ ap (λ (x : File). x.disk) same;
        extents = sym (ap (λ (x : File). x.extents) own) ∙ ap (λ (x : File). x.extents) same;
      },
    )

some-file : (page : ℕ → Page) (b : Bool) (o : Option File) (info : FileInfo) → option_map (λ (file : File). cond b (without_tail file) file) o ≡ Some (file_with_pages page info) → (old : File) × (o ≡ Some old)
some-file page b None info is = absurd (let z : ◌≡◌ {A = Option File} None (Some (file_with_pages page info)) = is in cc)
some-file page b (Some file) info is = (file, refl)

module _ (opening : Flat) (s : KernelState) (seats : Seats) (fit : PagesFit opening s seats) (told : AllTell s.memory.world (notes_of seats)) where
  abbrev F : Flat
  F = replay opening s.history

  abbrev notes : Notes
  notes = notes_of seats

  abbrev files : FilesSeen
  files = s.memory.world.files

  h : HistoryFits opening s.history s.pending (flat_memory s.memory s.born (notes_of seats))
  h = fit.replays told

  -- a file by the history is the one that is there
  pub info-of : (f : ℕ) (old : File) → slice_get (replay opening s.history).files f ≡ Some old → (f < length s.memory.world.files.files) × HasInfo old (vnode_at s.memory.world.files f).info
  info-of f old at =
      let i = by-info ((contents_of s.memory.world notes).file f) (is_bit_set s.pending f) (slice_get F.files f) (slice_get (map (λ (v : VnodeSeen). v.info) files.files) f)
      (cleared s.memory s.born notes opening s.history s.pending h f) old at in
      let t = info-there files f i.0 i.1 in
      (t.0, subst (HasInfo old) (sym t.1) i.2)

  pub file-of : (f : ℕ) → f < length s.memory.world.files.files → (old : File) × (slice_get (replay opening s.history).files f ≡ Some old)
  file-of f lt = some-file ((contents_of s.memory.world notes).file f) (is_bit_set s.pending f) (slice_get F.files f) (vnode_at files f).info
      (cleared s.memory s.born notes opening s.history s.pending h f
      ∙ ap (option_map (file_with_pages ((contents_of s.memory.world notes).file f))) (slice_get-map (λ (v : VnodeSeen). v.info) files.files f ∙ ap (option_map (λ (v : VnodeSeen). v.info)) (file-there files f lt)))
