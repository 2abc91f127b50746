-- A Sync that answers.
use Rattle.std.proofs.Common.{◌≡◌, ◌≢◌, ℕ, zero, suc, ◌+◌, ◌<◌, ◌≤◌, Bool, true, false, cond, List, [], ◌∷◌, ◌++◌, length, Option, Some, None, refl, sym, ap, ◌∙◌, ◌⊎◌, inl, inr, subst, arith}
use Rattle.std.specs.Prelude.{IsSome, is_some, nat_lt, option_and_then, option_map, slice_get}
use Rattle.std.specs.Option.{option_or}
use Rattle.std.proofs.lemmas.Bool.{lt-ltb, or_right}
use Rattle.std.proofs.lemmas.List.{take-append-le}
use Rattle.std.proofs.lemmas.Option.{slice_get_within}
use Rattle.flat_model.specs.vm_types.Pages.{pages_in}
use Rattle.flat_model.specs.vm_types.declared.call.Call.{Call}
use Rattle.flat_model.specs.vm_types.declared.call.Call.TheVariants.{Sync}
use Rattle.flat_model.specs.vm_types.declared.call.Entry.{Entry}
use Rattle.flat_model.specs.vm_types.declared.call.Kind.{Kind}
use Rattle.flat_model.specs.vm_types.declared.call.Kind.TheVariants.{Shared}
use Rattle.flat_model.specs.vm_types.declared.call.Object.TheVariants as object
use Rattle.flat_model.specs.vnode_files.Files.{vnode_at}
use Rattle.flat_model.specs.Flat.{Cell, File, Flat, IsFile, cell_at, cell_in}
use Rattle.flat_model.specs.History.{replay}
use Rattle.flat_model.specs.Words.{Page}
use Rattle.flat_model.proofs.Bytes.{All-slice_get as all-get}
use Rattle.flat_model.proofs.Histories.{slice_get-cases}
use Rattle.page_store.specs.page_hash.declared.PageName.{PageName}
use Rattle.page_store.specs.Bays.{bay_at}
use Rattle.mark_laws.specs.disk_marks.declared.marks.Mark.{Mark}
use Rattle.mark_laws.specs.disk_marks.declared.marks.Mark.TheVariants.{Held, Blank, Unsure}
use Rattle.mark_laws.specs.disk_marks.declared.marks.MarkRow.{MarkRow}
use Rattle.mark_laws.specs.disk_marks.declared.marks.Pushing.{Pushing}
use Rattle.mark_laws.specs.disk_marks.Marks.{MarksSeen, mark_row, push_of}
use Rattle.mark_laws.specs.disk_marks.Changes.{row_raised, marks_raised, marks_taken, marks_emptied}
use Rattle.mark_laws.specs.EntryLaws.{ReachesNext}
use Rattle.mark_laws.specs.MarksFit.{FailuresFit, pushed_page}
use Rattle.mark_laws.specs.Pages.{after_first, disk_place, HavePlacesApart}
use Rattle.mark_laws.specs.Syncs.{HasSynced, ReachesDisk}
use Rattle.mark_laws.proofs.Cutting.{row_taken}
use Rattle.mark_laws.proofs.Dropping.{left-push}
use Rattle.mark_laws.proofs.Failing.{failures_rule}
use Rattle.mark_laws.proofs.Spots.{by-name}
use Rattle.mark_laws.proofs.Words.{all-entries}
use Rattle.vm_world.specs.CountsFit.{OwnFits, SegmentFits}
use Rattle.vm_world.specs.DiskPlaces.{faults_in}
use Rattle.vm_world.specs.FlatMemory.{cell_of, flat_memory}
use Rattle.vm_world.specs.HistoryFits.{HistoryFits}
use Rattle.vm_world.specs.Pages.{contents_of}
use Rattle.vm_world.specs.Segments.{Segment, Spot, own_slot, spot_at, object_name}
use Rattle.vm_world.specs.State.{KernelState, Seats, notes_of}
use Rattle.vm_world.specs.Wants.{WantsClean, object_has}
use Rattle.vm_world.specs.World.{World, AllTell, file_name, is_unpushed, slot_in, world_table, slot_name}
use Rattle.vm_world.proofs.Maps.{cell-at}
use Rattle.vm_world.proofs.PageNames.{file-apart}
use Rattle.vm_world.proofs.Spots.{IsSpotOf, spot-part}
use Rattle.vm_world.specs.MarksOf.{MarksOf}
use Rattle.vm_world.specs.StateMarks.{PagesFit, MayRise, marks_risen}
use Rattle.vm_world.specs.StateSyncs.{MayAllRise, StateSyncLaw, marks_all_risen}
use Rattle.vm_world.proofs.Answered.{state_entries_rule}
use Rattle.vm_world.proofs.FilesNow.{info-of}
use Rattle.vm_world.proofs.Places.{place-there, places-apart}
use Rattle.vm_world.proofs.Raised.{state_raise_rule}

-- ALL RISE
module _ (opening : Flat) (s : KernelState) (seats : Seats) (fit : PagesFit opening s seats) where
  raised-all : (names : List PageName) (m : MarksSeen) → MarksOf opening s seats m → MayAllRise s.memory.world names
      → MarksOf opening s seats (marks_all_risen s.memory.world m names (length s.history))
  raised-all [] m marks may = marks
  raised-all (name ∷ names) m marks may =
      raised-all names (marks_risen s.memory.world m name (length s.history)) (state_raise_rule.raises opening s seats m name fit marks (may 0 name refl)) (λ i. may (suc i))

  module _ (tell : AllTell s.memory.world (notes_of seats)) where
    abbrev w : World
    w = s.memory.world

    abbrev j : ℕ
    j = length s.history

    h : HistoryFits opening s.history s.pending (flat_memory s.memory s.born (notes_of seats))
    h = fit.replays tell

    apart : HavePlacesApart (replay opening s.history)
    apart = places-apart s.memory s.born (notes_of seats) opening s.history s.pending h fit.memory.files

    -- a page was raised: its mark names as many entries, and no push of it is kept
    record IsRaised (m : MarksSeen) (name : PageName) : Type 0 where
      marks : (disk block : ℕ) → disk_place (replay opening s.history) name ≡ Some (disk, block) → ((mark_row m disk block).mark ≡ Held (length s.history)) ⊎ ((mark_row m disk block).mark ≡ Blank (length s.history))
      still : (seat : ℕ) (push : Pushing) → push_of m seat ≡ Some push → pushed_page push ≢ name

    -- one more rises
    module _ (m : MarksSeen) (name : PageName) (marks : MarksOf opening s seats m) (may : MayRise s.memory.world name) where
      at : disk_place (replay opening s.history) name ≡ Some ((world_table s.memory.world name).disk, (world_table s.memory.world name).block)
      at = place-there s.memory s.born (notes_of seats) opening s.history s.pending h name fit.memory.files may.far may.exists

      row-is : (P : MarkRow → Type 0) (n : PageName) (disk block : ℕ) → disk_place (replay opening s.history) n ≡ Some (disk, block)
          → (n ≡ name → P (row_taken (length s.history)) × P (row_raised (length s.history) (mark_row m (world_table s.memory.world name).disk (world_table s.memory.world name).block)))
          → (n ≢ name → P (mark_row m disk block)) → P (mark_row (marks_risen s.memory.world m name (length s.history)) disk block)
      row-is P n disk block a now was = by_blank (is_unpushed w.files w.anon name)
        where
          by_blank : (b : Bool) → P (mark_row (cond b (marks_emptied m (world_table w name).disk (world_table w name).block name.object name.page j) (marks_raised m (world_table w name).disk (world_table w name).block j)) disk block)
          by_blank true = by-name (replay opening s.history) apart m name (world_table w name).disk (world_table w name).block at ((marks tell).there name (world_table w name).disk (world_table w name).block at)
              (row_taken j) P n disk block a (λ e. (now e).0) was
          by_blank false = by-name (replay opening s.history) apart m name (world_table w name).disk (world_table w name).block at ((marks tell).there name (world_table w name).disk (world_table w name).block at)
              (row_raised j (mark_row m (world_table w name).disk (world_table w name).block)) P n disk block a (λ e. (now e).1) was

      push-was : (seat : ℕ) (push : Pushing) → push_of (marks_risen s.memory.world m name (length s.history)) seat ≡ Some push → push_of m seat ≡ Some push
      push-was seat push = by_blank (is_unpushed w.files w.anon name)
        where
          by_blank : (b : Bool) → push_of (cond b (marks_emptied m (world_table w name).disk (world_table w name).block name.object name.page j) (marks_raised m (world_table w name).disk (world_table w name).block j)) seat ≡ Some push → push_of m seat ≡ Some push
          by_blank true is = (left-push (marks_taken m (world_table w name).disk (world_table w name).block j) name seat push is).0
          by_blank false is = is

      rises : IsRaised (marks_risen s.memory.world m name (length s.history)) name
      rises = record {
        marks = λ disk block a. row-is (λ (r : MarkRow). (r.mark ≡ Held j) ⊎ (r.mark ≡ Blank j)) name disk block a (λ _. (inr refl, inl refl)) (λ other. absurd (other refl));
        still = λ seat push is. state_raise_rule.still opening s seats m name fit marks may tell seat push is;
      }

      stays : (n : PageName) → IsRaised m n → IsRaised (marks_risen s.memory.world m name (length s.history)) n
      stays n is = record {
        marks = λ disk block a. row-is (λ (r : MarkRow). (r.mark ≡ Held j) ⊎ (r.mark ≡ Blank j)) n disk block a (λ _. (inr refl, inl refl)) (λ _. is.marks disk block a);
        still = λ seat push out. is.still seat push (push-was seat push out);
      }

    all-stay : (names : List PageName) (m : MarksSeen) (n : PageName) → MarksOf opening s seats m → MayAllRise s.memory.world names → IsRaised m n → IsRaised (marks_all_risen s.memory.world m names (length s.history)) n
    all-stay [] m n marks may is = is
    all-stay (name ∷ names) m n marks may is =
        all-stay names (marks_risen s.memory.world m name (length s.history)) n (state_raise_rule.raises opening s seats m name fit marks (may 0 name refl)) (λ i. may (suc i)) (stays m name marks (may 0 name refl) n is)

    each-rises : (names : List PageName) (m : MarksSeen) (i : ℕ) (n : PageName) → MarksOf opening s seats m → MayAllRise s.memory.world names → slice_get names i ≡ Some n
        → IsRaised (marks_all_risen s.memory.world m names (length s.history)) n
    each-rises [] m i n marks may is = absurd (let z : ◌≡◌ {A = Option PageName} None (Some n) = is in cc)
    each-rises (name ∷ names) m zero n marks may is =
        let same : name ≡ n = (let z : ◌≡◌ {A = Option PageName} (Some name) (Some n) = is in cc) in
        subst (IsRaised (marks_all_risen s.memory.world m (name ∷ names) (length s.history))) same
        (all-stay names (marks_risen s.memory.world m name (length s.history)) name (state_raise_rule.raises opening s seats m name fit marks (may 0 name refl)) (λ i. may (suc i)) (rises m name marks (may 0 name refl)))
    each-rises (name ∷ names) m (suc i) n marks may is =
        each-rises names (marks_risen s.memory.world m name (length s.history)) i n (state_raise_rule.raises opening s seats m name fit marks (may 0 name refl)) (λ k. may (suc k)) is

    -- WHAT A SYNC WANTS CLEAN: each page of a file that a shared cell of its range shows
    module _ (e : Entry) (b : ℕ) (name : PageName) (syn : HasSynced opening (s.history ++ e ∷ []) (length s.history) b name) where
      mine : e ≡ syn.entry
      mine = elim (slice_get-cases s.history e syn.entry (length s.history) syn.at) [
        | inl k ↦ absurd (let lt = k.0 in omega (arith, lt))
        | inr k ↦ k.1
      ]

      first : after_first opening (s.history ++ e ∷ []) (length s.history) ≡ replay opening s.history
      first = ap (replay opening) (take-append-le (length s.history) s.history (e ∷ []) (omega arith)) ∙ all-entries opening s.history

      abbrev held : ℕ → ℕ → Option Page
      held = (contents_of w (notes_of seats)).place

      cells : option_map (cell_of held) (spot_at s.memory.spaces e.process syn.q) ≡ Some syn.cell
      cells = sym (cell-at held s.memory.spaces e.process syn.q)
          ∙ ap (λ (F : Flat). cell_in F.spaces e.process syn.q) h.shows
          ∙ ap (λ (p : ℕ). cell_at (replay opening s.history) p syn.q) (ap (λ (x : Entry). x.process) mine)
          ∙ sym (ap (λ (F : Flat). cell_at F syn.entry.process syn.q) first)
          ∙ syn.here

      -- the file has the page
      there : (o : Option File) → slice_get (replay opening s.history).files name.object ≡ o → IsSome (option_and_then (λ (file : File). slice_get file.pages name.page) o)
          → (name.object < length w.files.files) × (name.page < pages_in (vnode_at w.files name.object).info.length)
      there None is some = absurd (let z : false ≡ true = some in cc)
      there (Some file) is some = by_page (slice_get file.pages name.page) refl some
        where
          by_page : (o : Option Page) → slice_get file.pages name.page ≡ o → IsSome o → (name.object < length w.files.files) × (name.page < pages_in (vnode_at w.files name.object).info.length)
          by_page None at z = absurd (let y : false ≡ true = z in cc)
          by_page (Some page) at z =
              let lt = slice_get_within file.pages name.page page at in
              let sound : IsFile file = all-get IsFile (replay opening s.history).files name.object file h.whole.files is in
              let count = sound.count in
              let info = info-of opening s seats fit tell name.object file is in
              let len : pages_in file.len ≡ pages_in (vnode_at w.files name.object).info.length = ap pages_in info.1.len in
              (info.0, omega (arith, lt, count, len))

      shown : (name.object < length w.files.files) × (name.page < pages_in (vnode_at w.files name.object).info.length)
      shown = there (slice_get (replay opening s.history).files name.object) refl
          (subst (λ (F : Flat). IsSome (option_and_then (λ (file : File). slice_get file.pages name.page) (slice_get F.files name.object))) first syn.shows)

      by_spot : (o : Option Spot) → spot_at s.memory.spaces e.process syn.q ≡ o → option_map (cell_of held) o ≡ Some syn.cell → WantsClean s.memory e.process (Sync syn.addr syn.len) name
      by_spot None is c = absurd (let z : ◌≡◌ {A = Option Cell} None (Some syn.cell) = c in cc)
      by_spot (Some x) is c =
          let cell : cell_of held x ≡ syn.cell = (let z : ◌≡◌ {A = Option Cell} (Some (cell_of held x)) (Some syn.cell) = c in cc) in
          let kind : x.0.kind ≡ Shared = ap (λ (y : Cell). y.kind) cell ∙ syn.shared in
          let of : x.0.object ≡ object.File name.object = ap (λ (y : Cell). y.object) cell ∙ syn.file in
          let index : x.0.index + x.1 ≡ name.page = ap (λ (y : Cell). y.index) cell ∙ syn.index in
          let part : IsSpotOf (SegmentFits (length w.files.files) w.maps) syn.q x = spot-part (SegmentFits (length w.files.files) w.maps) s.memory.spaces e.process syn.q x fit.memory.segments.ordered fit.memory.segments.each is in
          let fits : OwnFits w.maps x.0 x.0.kind = subst (λ (y : Segment). OwnFits w.maps y y.kind) part.piece part.fits.own in
          let own : x.0.own ≡ None = subst (λ (k : Kind). OwnFits w.maps x.0 k) kind fits in
          let none : own_slot w.maps x ≡ None = ap (option_and_then (λ (number : ℕ). slot_in w.maps number x.1)) own in
          let shows : object_has w x.0.shown (x.0.index + x.1) x.0.object ≡ true =
          ap (object_has w x.0.shown (x.0.index + x.1)) of
          ∙ ap (λ (i : ℕ). nat_lt i (pages_in (vnode_at w.files name.object).info.length)) index
          ∙ lt-ltb name.page (pages_in (vnode_at w.files name.object).info.length) shown.1 in (
            syn.q,
            x,
            syn.within,
            record { here = is; some = or_right (is_some (own_slot w.maps x)) (object_has w x.0.shown (x.0.index + x.1) x.0.object) shows },
            kind,
            ap (λ (o : Option ℕ). option_or (option_map slot_name o) (object_name w.maps x.0.shown (x.0.index + x.1) x.0.object)) none
                ∙ ap (object_name w.maps x.0.shown (x.0.index + x.1)) of
                ∙ ap (λ (i : ℕ). Some (file_name name.object i)) index,
            file-apart w.files name.object fit.memory.files shown.0,
          )

      pub wants : WantsClean s.memory e.process e.call name
      wants = subst (λ (c : Call). WantsClean s.memory e.process c name) (sym (ap (λ (x : Entry). x.call) mine ∙ syn.call)) (by_spot (spot_at s.memory.spaces e.process syn.q) refl cells)

    -- so the marks reach it
    reaches : (e : Entry) (b : ℕ) (m : MarksSeen) (name : PageName) → b ≤ length s.history → IsRaised m name → ReachesNext opening s.history e m b name
    reaches e b m name early is = record {
      marks = λ disk block a. by_mark (mark_row m disk block).mark (is.marks disk block a);
      still = is.still;
    }
      where
        by_mark : (x : Mark) → (x ≡ Held (length s.history)) ⊎ (x ≡ Blank (length s.history)) → ReachesDisk (length s.history) b x
        by_mark x (inl e) = subst (ReachesDisk (length s.history) b) (sym e) (record { since = early; later = λ i y z u. absurd (let v : Held (length s.history) ≡ Unsure i y z = u in cc) })
        by_mark x (inr e) = subst (ReachesDisk (length s.history) b) (sym e) (record { since = early; later = λ i y z u. absurd (let v : Blank (length s.history) ≡ Unsure i y z = u in cc) })

-- THE FAILURES STAY
fails-one : (w : World) (faults : ℕ → Option ℕ) (m : MarksSeen) (name : PageName) (j : ℕ) → FailuresFit faults m → FailuresFit faults (marks_risen w m name j)
fails-one w faults m name j is = by_blank (is_unpushed w.files w.anon name)
  where
    by_blank : (b : Bool) → FailuresFit faults (cond b (marks_emptied m (world_table w name).disk (world_table w name).block name.object name.page j) (marks_raised m (world_table w name).disk (world_table w name).block j))
    by_blank true = failures_rule.emptied faults m (world_table w name).disk (world_table w name).block name.object name.page j is
    by_blank false = failures_rule.raised faults m (world_table w name).disk (world_table w name).block j is

fails-all : (w : World) (faults : ℕ → Option ℕ) (names : List PageName) (m : MarksSeen) (j : ℕ) → FailuresFit faults m → FailuresFit faults (marks_all_risen w m names j)
fails-all w faults [] m j is = is
fails-all w faults (name ∷ names) m j is = fails-all w faults names (marks_risen w m name j) j (fails-one w faults m name j is)

pub state_sync_rule : StateSyncLaw
state_sync_rule = record {
  raised = λ opening s seats m names fit marks may. raised-all opening s seats fit names m marks may;
  answers = λ opening s new e seats m b names fit marks makes replied early may wanted.
      state_entries_rule.syncs opening s new e seats (marks_all_risen s.memory.world m names (length s.history)) b fit (raised-all opening s seats fit names m marks may) makes replied
      (λ told name syn.
      let is = wanted name (wants opening s seats fit told e b name syn) in
      reaches opening s seats fit told e b (marks_all_risen s.memory.world m names (length s.history)) name early (each-rises opening s seats fit told names m is.0 name marks may is.1));
  failures = λ s seats m names j is. fails-all s.memory.world (λ disk. faults_in (bay_at s.memory.world.store.bays disk) (notes_of seats)) names m j is;
}
