-- The marks of a state with an entry more.
use Rattle.std.proofs.Common.{◌≡◌, ◌≢◌, ℕ, zero, suc, ◌<◌, ◌≤◌, Bool, true, false, cond, List, [], ◌∷◌, ◌++◌, length, Option, refl, sym, ap, ◌∙◌, inl, inr, subst, arith}
use Rattle.std.specs.Prelude.{slice_index_or, nat_lt, take}
use Rattle.std.proofs.lemmas.Bool.{cases_Bool, ltb-true, ltb-false}
use Rattle.flat_model.specs.vm_types.declared.call.Call.{Call}
use Rattle.flat_model.specs.vm_types.declared.call.Call.TheVariants.{Load, Store, Map, Unmap, Protect, Sync, Read, Write, Truncate, Fork, Exit}
use Rattle.flat_model.specs.vm_types.declared.call.Entry.{Entry}
use Rattle.flat_model.specs.vm_types.declared.call.Reply.{Reply}
use Rattle.flat_model.specs.vm_types.declared.call.Reply.TheVariants as reply
use Rattle.flat_model.specs.vnode_files.Files.{FilesSeen, vnode_at}
use Rattle.flat_model.specs.vnode_files.Vnode.{VnodeSeen, no_vnode, page_blocks}
use Rattle.flat_model.specs.vm_types.Pages.{pages_in}
use Rattle.flat_model.specs.vnode_files.declared.extent.Extent.{Extent}
use Rattle.flat_model.specs.vnode_files.declared.vnode.FileInfo.{FileInfo}
use Rattle.flat_model.specs.Flat.{Flat, File}
use Rattle.flat_model.specs.History.{replay}
use Rattle.flat_model.specs.Step.{IsStep}
use Rattle.flat_model.proofs.Histories.{Steps-front, slice_get-cases}
use Rattle.page_store.specs.page_hash.declared.PageName.{PageName}
use Rattle.page_store.specs.Bays.{BaySeen, bay_at}
use Rattle.page_store.specs.Notes.{Notes}
use Rattle.page_store.specs.Value.{content_of, content_in_bay}
use Rattle.mark_laws.specs.disk_marks.Marks.{MarksSeen}
use Rattle.mark_laws.specs.Cuts.{CutsFile, marks_shortened}
use Rattle.mark_laws.specs.MarksFit.{MarksFit, FailuresFit}
use Rattle.mark_laws.specs.EntryLaws.{ReachesNext}
use Rattle.mark_laws.specs.Pages.{HavePlacesApart}
use Rattle.mark_laws.specs.Syncs.{HasSynced}
use Rattle.mark_laws.proofs.Failing.{failures_rule}
use Rattle.mark_laws.proofs.Shortened.{entries_rule}
use Rattle.mark_laws.proofs.Shortenings.{cuts_rule}
use Rattle.vm_world.specs.DiskPlaces.{faults_in}
use Rattle.vm_world.specs.FlatMemory.{flat_memory}
use Rattle.vm_world.specs.HistoryFits.{HistoryFits}
use Rattle.vm_world.specs.State.{KernelState, Seats, notes_of}
use Rattle.vm_world.specs.World.{AllTell}
use Rattle.vm_world.specs.MarksOf.{MarksOf}
use Rattle.vm_world.specs.StateMarks.{PagesFit}
use Rattle.vm_world.specs.StateEntries.{marks_answered, MakesEntry, StateEntriesLaw}
use Rattle.vm_world.proofs.FilesNow.{info-of, file-of}
use Rattle.vm_world.proofs.Places.{places-apart}

-- a file that isn't there has no bytes
no-length : (xs : List VnodeSeen) (f : ℕ) → length xs ≤ f → slice_index_or xs f no_vnode ≡ no_vnode
no-length [] f le = refl
no-length (x ∷ xs) zero le = absurd (omega (arith, le))
no-length (x ∷ xs) (suc f) le = no-length xs f (omega (arith, le))

module _ (opening : Flat) (s new : KernelState) (e : Entry) (seats : Seats) (m : MarksSeen) (fit : PagesFit opening s seats) (marks : MarksOf opening s seats m) (makes : MakesEntry opening s e new seats)
    (tell : AllTell new.memory.world (notes_of seats)) where
  abbrev F : Flat
  F = replay opening s.history

  abbrev notes : Notes
  notes = notes_of seats

  abbrev files : FilesSeen
  files = s.memory.world.files

  abbrev j : ℕ
  j = suc (length s.history)

  told : AllTell s.memory.world (notes_of seats)
  told = makes.tells tell

  h : HistoryFits opening s.history s.pending (flat_memory s.memory s.born (notes_of seats))
  h = fit.replays told

  have : MarksFit opening s.history (content_of s.memory.world.store notes) notes m
  have = marks told

  is : IsStep (replay opening s.history) e
  is = (Steps-front opening s.history e (makes.legal tell).steps).1

  apart : HavePlacesApart (replay opening s.history)
  apart = places-apart s.memory s.born notes opening s.history s.pending h fit.memory.files

  abbrev Fits : MarksSeen → Type 0
  Fits n = MarksFit opening (s.history ++ e ∷ []) (content_of s.memory.world.store notes) notes n

  same-contents : content_of new.memory.world.store notes ≡ content_of s.memory.world.store notes
  same-contents = λ i k. content_in_bay (bay_at (makes.bays i) k) notes

  -- what fits with the entry fits the state then
  carry : (n : MarksSeen) → Fits n → MarksFit opening new.history (content_of new.memory.world.store (notes_of seats)) (notes_of seats) n
  carry n fits = subst (λ (H : List Entry). MarksFit opening H (content_of new.memory.world.store notes) notes n) (sym makes.history)
      (subst (λ (c : ℕ → Option (List (List ℕ))). MarksFit opening (s.history ++ e ∷ []) c notes n) (sym same-contents) fits)

  -- A SYNC THAT ANSWERS cuts no file
  pub marks-sync : (b : ℕ) → e.reply ≡ reply.Synced b
      → ((name : PageName) → HasSynced opening (s.history ++ e ∷ []) (length s.history) b name → ReachesNext opening s.history e m b name)
      → MarksFit opening new.history (content_of new.memory.world.store (notes_of seats)) (notes_of seats) m
  marks-sync b replied reaches = carry m (entries_rule.syncs opening s.history e (content_of s.memory.world.store notes) notes m have
      (λ c. let o = cuts_rule.only F e is c in let z : reply.Synced b ≡ reply.Done = sym replied ∙ o.done in cc)
      (λ other name syn. elim (slice_get-cases s.history e syn.entry (length s.history) syn.at) [
        | inl h ↦ absurd (let lt = h.0 in omega (arith, lt))
        | inr h ↦
            let start : b ≡ other = (let z : reply.Synced b ≡ reply.Synced other = sym replied ∙ ap (λ (x : Entry). x.reply) h.1 ∙ syn.reply in cc) in
            subst (λ (k : ℕ). ReachesNext opening s.history e m k name) start
            (reaches name (subst (λ (k : ℕ). HasSynced opening (s.history ++ e ∷ []) (length s.history) k name) (sym start) syn))
      ]))

  -- ANY OTHER ENTRY
  module _ (plain : (b : ℕ) → e.reply ≢ reply.Synced b) where
    uncut : ¬ CutsFile (replay opening s.history) e → Fits m
    uncut none = entries_rule.plain opening s.history e (content_of s.memory.world.store notes) notes m have none plain

    not-cut : ((f len : ℕ) → e.call ≢ Truncate f len) → Fits m
    not-cut other = uncut (λ c. let o = cuts_rule.only F e is c in other c.f c.new.len o.call)

    not-done : e.reply ≢ reply.Done → Fits m
    not-done other = uncut (λ c. let o = cuts_rule.only F e is c in other o.done)

    -- A TRUNCATE THAT IS DONE
    module _ (f len : ℕ) (call : e.call ≡ Truncate f len) (done : e.reply ≡ reply.Done) where
      abbrev info : FileInfo
      info = (vnode_at files f).info

      shortened : nat_lt len info.length ≡ true → Fits (marks_shortened m f info.disk info.extents info.length len j)
      shortened less =
          let lt = ltb-true len info.length less in
          let old = file-of opening s seats fit told f (there lt) in
          let i = (info-of opening s seats fit told f old.0 old.1).1 in
          let c = cuts_rule.cuts F e f old.0 len is (record { call = call; done = done; was = old.1; less = let size = i.len in omega (arith, lt, size) }) in
          subst (λ (x : ℕ). Fits (marks_shortened m f info.disk info.extents x len j)) i.len
          (subst (λ (x : List Extent). Fits (marks_shortened m f info.disk x old.0.len len j)) i.extents
          (subst (λ (x : ℕ). Fits (marks_shortened m f x old.0.extents old.0.len len j)) i.on
          (subst (λ (x : ℕ). Fits (marks_shortened m f old.0.disk old.0.extents old.0.len x j)) c.3
          (subst (λ (x : File). Fits (marks_shortened m f x.disk x.extents x.len c.0.new.len j)) c.2
          (subst (λ (x : ℕ). Fits (marks_shortened m x c.0.old.disk c.0.old.extents c.0.old.len c.0.new.len j)) c.1
          (entries_rule.cuts opening s.history e (content_of s.memory.world.store notes) notes m have h.legal apart c.0))))))
        where
          there : len < info.length → f < length files.files
          there lt = elim (cases_Bool (nat_lt f (length files.files))) [
            | inl y ↦ ltb-true f (length files.files) y
            | inr n ↦
                let none : info.length ≡ 0 = ap (λ (v : VnodeSeen). v.info.length) (no-length files.files f (ltb-false f (length files.files) n)) in
                absurd (omega (arith, lt, none))
          ]

      kept : nat_lt len info.length ≡ false → Fits m
      kept more = uncut (λ c.
          let o = cuts_rule.only F e is c in
          let same : Truncate f len ≡ Truncate c.f c.new.len = sym call ∙ o.call in
          let own : c.f ≡ f = cc in
          let size : c.new.len ≡ len = cc in
          let i = (info-of opening s seats fit told c.f c.old c.was).1.len in
          let length_is : c.old.len ≡ info.length = i ∙ ap (λ (k : ℕ). (vnode_at files k).info.length) own in
          let le = ltb-false len info.length more in
          let less = c.less in
          absurd (omega (arith, size, length_is, le, less)))

      answered : Fits (marks_answered files (Truncate f len) reply.Done j m)
      answered = by_length (nat_lt len info.length) refl
        where
          by_length : (b : Bool) → nat_lt len info.length ≡ b → Fits (cond b (marks_shortened m f info.disk info.extents info.length len j) m)
          by_length true y = shortened y
          by_length false n = kept n

    by_call : (call : Call) (r : Reply) → e.call ≡ call → e.reply ≡ r → Fits (marks_answered files call r j m)
    by_call (Load a n) r c d = not-cut (λ f len z. let y : Load a n ≡ Truncate f len = sym c ∙ z in cc)
    by_call (Store a n v) r c d = not-cut (λ f len z. let y : Store a n v ≡ Truncate f len = sym c ∙ z in cc)
    by_call (Map place size prot kind object offset) r c d = not-cut (λ f len z. let y : Map place size prot kind object offset ≡ Truncate f len = sym c ∙ z in cc)
    by_call (Unmap a size) r c d = not-cut (λ f len z. let y : Unmap a size ≡ Truncate f len = sym c ∙ z in cc)
    by_call (Protect a size prot) r c d = not-cut (λ f len z. let y : Protect a size prot ≡ Truncate f len = sym c ∙ z in cc)
    by_call (Sync a size) r c d = not-cut (λ f len z. let y : Sync a size ≡ Truncate f len = sym c ∙ z in cc)
    by_call (Read file offset size) r c d = not-cut (λ f len z. let y : Read file offset size ≡ Truncate f len = sym c ∙ z in cc)
    by_call (Write file offset line rest) r c d = not-cut (λ f len z. let y : Write file offset line rest ≡ Truncate f len = sym c ∙ z in cc)
    by_call (Fork child) r c d = not-cut (λ f len z. let y : Fork child ≡ Truncate f len = sym c ∙ z in cc)
    by_call Exit r c d = not-cut (λ f len z. let y : Exit ≡ Truncate f len = sym c ∙ z in cc)
    by_call (Truncate file len) reply.Done c d = answered file len c d
    by_call (Truncate file len) (reply.Io disk before after) c d = not-done (λ z. let y : reply.Io disk before after ≡ reply.Done = sym d ∙ z in cc)
    by_call (Truncate file len) (reply.Word w) c d = not-done (λ z. let y : reply.Word w ≡ reply.Done = sym d ∙ z in cc)
    by_call (Truncate file len) (reply.Mapped a) c d = not-done (λ z. let y : reply.Mapped a ≡ reply.Done = sym d ∙ z in cc)
    by_call (Truncate file len) (reply.Synced b) c d = not-done (λ z. let y : reply.Synced b ≡ reply.Done = sym d ∙ z in cc)
    by_call (Truncate file len) (reply.Bytes line) c d = not-done (λ z. let y : reply.Bytes line ≡ reply.Done = sym d ∙ z in cc)
    by_call (Truncate file len) (reply.Signal x) c d = not-done (λ z. let y : reply.Signal x ≡ reply.Done = sym d ∙ z in cc)
    by_call (Truncate file len) (reply.Refused n) c d = not-done (λ z. let y : reply.Refused n ≡ reply.Done = sym d ∙ z in cc)

    pub marks-answer : MarksFit opening new.history (content_of new.memory.world.store (notes_of seats)) (notes_of seats) (marks_answered s.memory.world.files e.call e.reply (suc (length s.history)) m)
    marks-answer = carry (marks_answered files e.call e.reply j m) (by_call e.call e.reply refl refl)

-- THE FAILURES STAY: a cut names no other
fails : (fs : FilesSeen) (faults : ℕ → Option ℕ) (call : Call) (r : Reply) (j : ℕ) (m : MarksSeen) → FailuresFit faults m → FailuresFit faults (marks_answered fs call r j m)
fails fs faults (Load a n) r j m is = is
fails fs faults (Store a n v) r j m is = is
fails fs faults (Map place size prot kind object offset) r j m is = is
fails fs faults (Unmap a size) r j m is = is
fails fs faults (Protect a size prot) r j m is = is
fails fs faults (Sync a size) r j m is = is
fails fs faults (Read file offset size) r j m is = is
fails fs faults (Write file offset line rest) r j m is = is
fails fs faults (Fork child) r j m is = is
fails fs faults Exit r j m is = is
fails fs faults (Truncate f len) (reply.Io disk before after) j m is = is
fails fs faults (Truncate f len) (reply.Word w) j m is = is
fails fs faults (Truncate f len) (reply.Mapped a) j m is = is
fails fs faults (Truncate f len) (reply.Synced b) j m is = is
fails fs faults (Truncate f len) (reply.Bytes line) j m is = is
fails fs faults (Truncate f len) (reply.Signal x) j m is = is
fails fs faults (Truncate f len) (reply.Refused n) j m is = is
fails fs faults (Truncate f len) reply.Done j m is = by_length (nat_lt len (vnode_at fs f).info.length)
  where
    by_length : (b : Bool) → FailuresFit faults (cond b (marks_shortened m f (vnode_at fs f).info.disk (vnode_at fs f).info.extents (vnode_at fs f).info.length len j) m)
    by_length true = failures_rule.cut faults m f (vnode_at fs f).info.disk (pages_in len) j (take (pages_in (vnode_at fs f).info.length) (page_blocks (vnode_at fs f).info.extents)) is
    by_length false = is

pub state_entries_rule : StateEntriesLaw
state_entries_rule = record {
  answers = λ opening s new e seats m fit marks makes plain tell. marks-answer opening s new e seats m fit marks makes tell plain;
  syncs = λ opening s new e seats m b fit marks makes replied reaches tell. marks-sync opening s new e seats m fit marks makes tell b replied (reaches (makes.tells tell));
  failures = λ opening s new e seats m is makes.
      subst (λ (b : List BaySeen). FailuresFit (λ disk. faults_in (bay_at b disk) (notes_of seats)) (marks_answered s.memory.world.files e.call e.reply (suc (length s.history)) m)) (sym makes.bays)
      (fails s.memory.world.files (λ disk. faults_in (bay_at s.memory.world.store.bays disk) (notes_of seats)) e.call e.reply (suc (length s.history)) m is);
}
