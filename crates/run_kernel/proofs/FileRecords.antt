-- The records of files that come back, and whether their disks told at the start.
use Rattle.std.proofs.Common.{◌≡◌, ℕ, suc, ◌<◌, ◌≤◌, List, [], ◌∷◌, length, map, refl, sym, ap, ◌∙◌, subst, arith}
use Rattle.std.proofs.lemmas.List.{get_or-map, length-map}
use Rattle.vm_core.specs.page_store.Notes.{no_notes}
use Rattle.volume_files.specs.vm_types.declared.call.Entry.{Entry}
use Rattle.volume_files.specs.vnode_files.declared.vnode.FileInfo.{FileInfo}
use Rattle.volume_files.specs.vnode_files.Files.{FilesSeen, vnode_at}
use Rattle.volume_files.specs.vnode_files.Vnode.{VnodeSeen, no_vnode}
use Rattle.volume_files.specs.volume_format.Table.{no_entry}
use Rattle.volume_files.specs.flat_model.Flat.{File, Flat}
use Rattle.volume_files.specs.flat_model.History.{Legal, replay}
use Rattle.volume_files.specs.flat_model.Shapes.{blank_file}
use Rattle.volume_files.specs.flat_model.Words.{Page}
use Rattle.vm_core.specs.vm_world.Events.{FollowsHistory, IsSince}
use Rattle.vm_core.specs.vm_world.FlatMemory.{files_with_pages, flat_memory}
use Rattle.vm_core.specs.vm_world.HistoryFits.{HistoryFits}
use Rattle.vm_core.specs.vm_world.Opening.{no_seats}
use Rattle.vm_core.specs.vm_world.Pages.{contents_of}
use Rattle.vm_core.specs.vm_world.State.{FileMode, Fixed, KernelState, mode_of}
use Rattle.vm_core.specs.vm_world.StateFits.{StateFits}
use Rattle.volume_files.specs.Attached.{bare_disks}
use Rattle.volume_files.specs.stored_files.Closed.{info_at, info_in_flat, infos_in_flat}
use Rattle.volume_files.specs.Handed.{HaveTold}
use Rattle.run_kernel.specs.Played.{LeftSeen}
use Rattle.volume_files.specs.stored_files.Written.{infos_made, HaveExtents, LieWell}
use Rattle.run_kernel.proofs.Returned.{Closes, all-tell, are-left}

-- what of a file never changes, by its record
abbrev mode_in : FileInfo → FileMode
mode_in i = record { name = i.name; disk = i.disk; writable = i.writable }

modes-by : (vs : List VnodeSeen) → map mode_of vs ≡ map mode_in (map (λ (v : VnodeSeen). v.info) vs)
modes-by [] = refl
modes-by (v ∷ vs) = ap (λ (ms : List FileMode). mode_of v ∷ ms) (modes-by vs)

names-by : (vs : List VnodeSeen) → map (λ (v : VnodeSeen). v.info.name) vs ≡ map (λ (i : FileInfo). i.name) (map (λ (v : VnodeSeen). v.info) vs)
names-by [] = refl
names-by (v ∷ vs) = ap (λ (ns : List (List ℕ)). v.info.name ∷ ns) (names-by vs)

-- flat memory has the records of the files
in-flat : (page : ℕ → ℕ → Page) (k : ℕ) (infos : List FileInfo) → infos_in_flat (map (λ (i : FileInfo). i.name) infos) (files_with_pages page k infos) ≡ infos
in-flat page k [] = refl
in-flat page k (info ∷ infos) = ap (λ (is : List FileInfo). info ∷ is) (in-flat page (suc k) infos)

-- bytes are in no record
infos-blank : (names : List (List ℕ)) (files : List File) → infos_in_flat names (map blank_file files) ≡ infos_in_flat names files
infos-blank [] files = refl
infos-blank (name ∷ names) [] = refl
infos-blank (name ∷ names) (file ∷ files) = ap (λ (is : List FileInfo). info_in_flat name file ∷ is) (infos-blank names files)

-- the record of a file among all
pub record-at : (files : FilesSeen) (k : ℕ) → k < length files.files → info_at (map (λ (v : VnodeSeen). v.info) files.files) k ≡ (vnode_at files k).info
record-at files k lt = get_or-map (λ (v : VnodeSeen). v.info) files.files k no_vnode no_entry lt

module _ (F : Flat) (s t : KernelState) (l : LeftSeen) (since : IsSince s t no_seats) (before : StateFits F s no_seats) (c : Closes t l) where
  pub modes-left : map mode_of l.files.files ≡ map mode_of s.memory.world.files.files
  modes-left =
      modes-by l.files.files ∙ ap (map mode_in) c.files.infos ∙ sym (modes-by t.memory.world.files.files) ∙ ap (λ (f : Fixed). f.files) since.fixed

  pub lie-left : LieWell l.files
  lie-left =
      let fits = (are-left F s t l since before c).fits in
      record { few_files = c.few; sound = c.sound; on_disks = fits.lie; apart = fits.apart; few = fits.few }

  pub extents-left : HaveExtents (infos_made l.files)
  extents-left k lt =
      let count = length-map l.files.files (λ (v : VnodeSeen). v.info) in
      let low : k < length l.files.files = omega (arith, count, lt) in
      subst (λ (i : FileInfo). 1 ≤ length i.extents) (sym (record-at l.files k low)) ((are-left F s t l since before c).fits.some k low)

  pub history-left : HaveTold (bare_disks l.disks) l.swap → HistoryFits F t.history t.pending (flat_memory t.memory t.born no_notes)
  history-left told = (since.fits F before).replays (all-tell F s t l since before c told)

  pub legal-left : HaveTold (bare_disks l.disks) l.swap → Legal F l.history.entries
  legal-left told = subst (Legal F) (sym c.entries) (history-left told).legal

  pub infos-left : FollowsHistory F t → infos_made l.files ≡ infos_in_flat (map (λ (v : VnodeSeen). v.info.name) l.files.files) (replay F l.history.entries).files
  infos-left follows =
      let names = map (λ (v : VnodeSeen). v.info.name) l.files.files in
      let made = map (λ (v : VnodeSeen). v.info) t.memory.world.files.files in
      let page = (contents_of t.memory.world no_notes).file in
      c.files.infos
      ∙ sym (in-flat page 0 made)
      ∙ sym (ap (λ (ns : List (List ℕ)). infos_in_flat ns (files_with_pages page 0 made)) (names-by l.files.files ∙ ap (map (λ (i : FileInfo). i.name)) c.files.infos))
      ∙ sym (infos-blank names (files_with_pages page 0 made))
      ∙ ap (λ (G : Flat). infos_in_flat names G.files) (follows.shape no_notes)
      ∙ infos-blank names (replay F t.history).files
      ∙ ap (λ (H : List Entry). infos_in_flat names (replay F H).files) (sym c.entries)
