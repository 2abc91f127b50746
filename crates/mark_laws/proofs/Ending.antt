-- Transfers that end.
use Rattle.std.proofs.Common.{◌≡◌, ◌≢◌, ℕ, ◌<◌, ◌≤◌, true, false, List, [], length, Option, Some, None, refl, sym, ap, ◌∙◌, inl, inr, subst, arith}
use Rattle.std.specs.Prelude.{IfSome, slice_index_or}
use Rattle.std.proofs.lemmas.Bool.{cases_eq}
use Rattle.std.proofs.lemmas.List.{get_or-set_same, length-set}
use Rattle.std.proofs.lemmas.Option.{same_Some, slice_get_within}
use Rattle.flat_model.specs.vm_types.declared.call.Entry.{Entry}
use Rattle.flat_model.specs.vm_types.declared.call.Reply.{Reply}
use Rattle.flat_model.specs.vm_types.declared.call.Reply.TheVariants.{Synced}
use Rattle.flat_model.specs.Flat.{Flat}
use Rattle.flat_model.specs.History.{replay, Legal, IsStart}
use Rattle.page_store.specs.block_device.DiskSeen.{with_block, HasBlocks}
use Rattle.page_store.specs.core_arena.Bytes.{zeros}
use Rattle.page_store.specs.page_hash.declared.PageName.{PageName}
use Rattle.page_store.specs.Bytes.{clip}
use Rattle.page_store.specs.Flight.{FlightSeen, Progress, fresh, done, failed, IsPerformed, IsWritten as WroteBlock}
use Rattle.page_store.specs.Notes.{Note, Notes, with_note}
use Rattle.disk_marks.specs.declared.marks.Mark.TheVariants.{Held, Blank, Unsure}
use Rattle.disk_marks.specs.declared.marks.MarkRow.{MarkRow}
use Rattle.disk_marks.specs.declared.marks.Pushing.{Pushing}
use Rattle.disk_marks.specs.Marks.{MarksSeen, HasRow, mark_row, push_of, with_mark_row, with_push}
use Rattle.disk_marks.specs.Changes.{row_written, row_spoiled, marks_written, marks_spoiled}
use Rattle.mark_laws.specs.Pages.{after_first, bytes_there, page_there, disk_place, HasPage, HavePlacesApart}
use Rattle.mark_laws.specs.Syncs.{entries_in, HasSynced, ReachesDisk}
use Rattle.mark_laws.specs.MarksFit.{DiskContents, OfBlock, PushesFile, IsBeingWritten, BlockFits, SentFits, MarksFit}
use Rattle.mark_laws.specs.MarkLaws.{LeavesBlocks, HasAlone, MarksLaw, marks_by}
use Rattle.page_store.proofs.TransferLemmas.{with_note-same, with_note-other}
use Rattle.disk_marks.proofs.Rows.{row-other, row-there, push-other, push-left}
use Rattle.mark_laws.proofs.Rows.{told-alike, told-all}
use Rattle.mark_laws.proofs.Words.{held-inj, unsure-inj, few-bytes, clip-later}
use Rattle.mark_laws.proofs.Spots.{by-name, block-here}
use Rattle.mark_laws.proofs.Beginning.{begins-push, leaves-aside}

-- where a Sync may have begun, by its reply
abbrev StartsBy : List Entry → ℕ → ℕ → Reply → Type 0
StartsBy H k p (Synced b) = IsStart H k p b
StartsBy H k p r = Unit {0}

-- a Sync that answered began no later than it answered
pub starts-first : (opening : Flat) (H : List Entry) → Legal opening H → (k b : ℕ) (name : PageName) → HasSynced opening H k b name → b ≤ k
starts-first opening H legal k b name s = by_reply s.entry.reply s.reply (legal.syncs k s.entry s.at)
  where
    by_reply : (r : Reply) → r ≡ Synced b → StartsBy H k s.entry.process r → b ≤ k
    by_reply r is st = (subst (StartsBy H k s.entry.process) is st).0

module _ (opening : Flat) (H : List Entry) (old new : DiskContents) (notes : Notes) (m : MarksSeen) (seat : ℕ) (note : Note) (fit : MarksFit opening H old notes m)
    (noted : notes seat ≡ Some note) (same : LeavesBlocks (replay opening H) note old new) where
  left : (k : ℕ) (other : Note) → with_note notes seat None k ≡ Some other → (k ≢ seat) × (notes k ≡ Some other)
  left k other is = elim (cases_eq k seat) [
    | inl e ↦ absurd (let z : ◌≡◌ {A = Option Note} None (Some other) = sym (with_note-same notes seat None) ∙ ap (with_note notes seat None) (sym e) ∙ is in cc)
    | inr ne ↦ (ne, sym (with_note-other notes seat k None ne) ∙ is)
  ]

  -- another page that isn't being written then wasn't before
  free-before : (name : PageName) → (note.writes ≡ true → name ≢ note.name) → ¬ IsBeingWritten (with_note notes seat None) name → ¬ IsBeingWritten notes name
  free-before name other free w = elim (cases_eq w.0 seat) [
    | inl e ↦
        let one : note ≡ w.1 = same_Some note w.1 (sym noted ∙ ap notes (sym e) ∙ w.2) in
        other (ap (λ (n : Note). n.writes) one ∙ w.3) (sym (ap (λ (n : Note). n.name) one ∙ w.4))
    | inr ne ↦ free (w.0, w.1, with_note-other notes seat w.0 None ne ∙ w.2, w.3, w.4)
  ]

  kept-block : (name : PageName) (disk block : ℕ) → disk_place (replay opening H) name ≡ Some (disk, block) → (note.writes ≡ true → name ≢ note.name) → ¬ IsBeingWritten (with_note notes seat None) name
      → OfBlock new disk block (BlockFits opening H name (mark_row m disk block))
  kept-block name disk block at other free =
      told-alike (BlockFits opening H name (mark_row m disk block)) block (old disk) (new disk) (same.tells disk) (same.others name disk block at other) (fit.blocks name disk block at (free-before name other free))

  -- IT READ, or wrote no file's page.
  pub returns-aside : ¬ PushesFile note → ((name : PageName) (disk block : ℕ) → disk_place (replay opening H) name ≡ Some (disk, block) → name.object ≢ 64) → MarksFit opening H new (with_note notes seat None) m
  returns-aside aside files = record {
    kept = fit.kept;
    rows = fit.rows;
    free = fit.free;
    there = fit.there;
    early = fit.early;
    blocks = λ name disk block at free.
        kept-block name disk block at (λ writes is. aside (record { writes = writes; far = λ o. files name disk block at (ap (λ (n : PageName). n.object) is ∙ o) })) free;
    blanks = fit.blanks;
    places = λ k other is writes far. fit.places k other (left k other is).1 writes far;
    sent = λ k other is writes far. fit.sent k other (left k other is).1 writes far;
    origin = λ k other is writes far. fit.origin k other (left k other is).1 writes far;
    out = λ t push is.
        let o = fit.out t push is in
        record {
          note = o.note;
          there = with_note-other notes seat t None (λ e. aside (subst PushesFile (same_Some o.note note (sym o.there ∙ ap notes e ∙ noted)) o.pushes)) ∙ o.there;
          pushes = o.pushes;
          name = o.name;
        };
    inside = fit.inside;
    synced = fit.synced;
    later = fit.later;
  }

  -- It wrote the page of a file, and the block has this row then.
  module _ (pushes : PushesFile note) (apart : HavePlacesApart (replay opening H)) (alone : HasAlone notes seat note) (legal : Legal opening H) where
    place : disk_place (replay opening H) note.name ≡ Some (note.number, note.block)
    place = fit.places seat note noted pushes.writes pushes.far

    has : HasRow m note.number note.block
    has = fit.there note.name note.number note.block place

    abbrev with-row : MarkRow → MarksSeen
    with-row row = with_push (with_mark_row m note.number note.block row) seat None

    came-with : (row : MarkRow) → entries_in row.mark ≤ length H
        → OfBlock new note.number note.block (BlockFits opening H note.name row)
        → ((j : ℕ) → row.mark ≡ Blank j → page_there (after_first opening H j) note.name ≡ zeros)
        → ((k b : ℕ) → HasSynced opening H k b note.name → ReachesDisk k b row.mark)
        → MarksFit opening H new (with_note notes seat None) (with-row row)
    came-with row early block blanks reaches = record {
      kept = fit.kept;
      rows = λ disk b lt. row-there m note.number note.block disk b row (fit.rows disk b lt);
      free = λ disk b none.
          row-other m note.number note.block disk b row has (λ x y. none note.name (place ∙ (λ i. Some (sym x i, sym y i)))) ∙ fit.free disk b none;
      there = λ name disk b at. row-there m note.number note.block disk b row (fit.there name disk b at);
      early = λ name disk b at. by_name (λ (r : MarkRow). entries_in r.mark ≤ length H) name disk b at (λ _. early) (λ _. fit.early name disk b at);
      blocks = λ name disk b at free. by_name (λ (r : MarkRow). OfBlock new disk b (BlockFits opening H name r)) name disk b at
          (λ e. block-here (replay opening H) apart m note.name note.number note.block place has row new (λ (n : PageName). BlockFits opening H n row) name disk b at e block)
          (λ ne. kept-block name disk b at (λ _. ne) free);
      blanks = λ name disk b j at. by_name (λ (r : MarkRow). r.mark ≡ Blank j → page_there (after_first opening H j) name ≡ zeros) name disk b at
          (λ e is. ap (page_there (after_first opening H j)) e ∙ blanks j is) (λ _. fit.blanks name disk b j at);
      places = λ k other is w f. fit.places k other (left k other is).1 w f;
      sent = λ k other is w f.
          let l = left k other is in
          subst (λ (r : MarkRow). SentFits opening H r other (push_of (with-row row) k)) (sym (row-other m note.number note.block other.number other.block row has (λ one _. alone k other l.1 l.0 one)))
          (subst (λ (p : Option Pushing). SentFits opening H (mark_row m other.number other.block) other p) (sym (push-other (with_mark_row m note.number note.block row) seat k None l.0))
          (fit.sent k other l.1 w f));
      origin = λ k other is w f. fit.origin k other (left k other is).1 w f;
      out = λ t push is.
          let l = push-left (with_mark_row m note.number note.block row) seat t push is in
          let o = fit.out t push l.1 in
          record { note = o.note; there = with_note-other notes seat t None l.0 ∙ o.there; pushes = o.pushes; name = o.name };
      inside = λ t push is. fit.inside t push (push-left (with_mark_row m note.number note.block row) seat t push is).1;
      synced = λ k b name disk bl syn at. by_name (λ (r : MarkRow). ReachesDisk k b r.mark) name disk bl at
          (λ e. reaches k b (subst (λ (n : PageName). HasSynced opening H k b n) e syn)) (λ _. fit.synced k b name disk bl syn at);
      later = λ k b t name push syn is named. fit.later k b t name push syn (push-left (with_mark_row m note.number note.block row) seat t push is).1 named;
    }
      where
        by_name : (P : MarkRow → Type 0) (n : PageName) (d c : ℕ) → disk_place (replay opening H) n ≡ Some (d, c) → (n ≡ note.name → P row) → (n ≢ note.name → P (mark_row m d c))
            → P (mark_row (with_mark_row m note.number note.block row) d c)
        by_name = by-name (replay opening H) apart m note.name note.number note.block place has row

    -- A PUSH ENDED WELL. Its block has the page as it was sent; where that page was taken away since, the mark stays.
    module _ (whole : length note.bytes ≡ 4096) (low : note.valid ≤ 4096) (written : OfBlock new note.number note.block (λ bytes. bytes ≡ clip note.valid note.bytes)) where
      told : (P : List ℕ → Type 0) → P (clip note.valid note.bytes) → OfBlock new note.number note.block P
      told P is = by_now (new note.number) written
        where
          by_now : (o : Option (List (List ℕ))) → IfSome o (λ blocks. slice_index_or blocks note.block [] ≡ clip note.valid note.bytes) → IfSome o (λ blocks. P (slice_index_or blocks note.block []))
          by_now None w = tt
          by_now (Some blocks) w = subst P (sym w) is

      by_push : (p : Option Pushing) → push_of m seat ≡ p → SentFits opening H (mark_row m note.number note.block) note p
          → MarksFit opening H new (with_note notes seat None) (with-row (row_written p (mark_row m note.number note.block)))
      by_push (Some push) e s = came-with (record { mark = Held push.from; pushed = push.whole }) s.early
          (told (λ (block : List ℕ). BlockFits opening H note.name (record { mark = Held push.from; pushed = push.whole }) block) (record {
            held = λ j is. subst (λ (k : ℕ). HasPage (after_first opening H k) note.name push.whole (clip note.valid note.bytes)) (held-inj push.from j is) (record {
              same = ap (λ (n : ℕ). clip n (clip note.valid note.bytes)) (sym s.valid) ∙ clip-later note.valid note.valid note.bytes (omega arith) low whole ∙ s.page;
              rest = λ _. s.page;
            });
            zeros = λ is. sym (clip-later note.valid (bytes_there (replay opening H) note.name) note.bytes (s.whole is) (few-bytes (replay opening H) note.name) whole);
          }))
          (λ j is. absurd (let z : Held push.from ≡ Blank j = is in cc))
          (λ k b syn. let after = fit.later k b seat note.name push syn e s.name in let first = starts-first opening H legal k b note.name syn in record {
            since = omega (arith, after, first);
            later = λ j before after is. absurd (let z : Held push.from ≡ Unsure j before after = is in cc);
          })
      by_push None e s = came-with (mark_row m note.number note.block) (fit.early note.name note.number note.block place)
          (told (λ (block : List ℕ). BlockFits opening H note.name (mark_row m note.number note.block) block) (record {
            held = λ j is. absurd (s.unheld j is);
            zeros = λ is. absurd (let z : false ≡ true = sym s.unpushed ∙ is in cc);
          }))
          (λ j is. fit.blanks note.name note.number note.block j place is)
          (λ k b syn. fit.synced k b note.name note.number note.block syn place)

      came-written : MarksFit opening H new (with_note notes seat None) (marks_written m seat note.number note.block)
      came-written = by_push (push_of m seat) refl (fit.sent seat note noted pushes.writes pushes.far)

    -- A PUSH FAILED: nothing is sure of its block.
    came-spoiled : (before after : ℕ) → MarksFit opening H new (with_note notes seat None) (marks_spoiled m seat note.number note.block (length H) before after)
    came-spoiled before after = came-with (row_spoiled (length H) before after) (omega arith)
        (told-all (BlockFits opening H note.name (row_spoiled (length H) before after)) note.block (new note.number) (λ blocks is. record {
          held = λ j e. absurd (let z : Unsure (length H) before after ≡ Held j = e in cc);
          zeros = λ e. absurd (let z : false ≡ true = e in cc);
        }))
        (λ j e. absurd (let z : Unsure (length H) before after ≡ Blank j = e in cc))
        (λ k b syn. let lt = slice_get_within H k syn.entry syn.at in let first = starts-first opening H legal k b note.name syn in record {
          since = omega (arith, lt, first);
          later = λ j x y e. let n : length H ≡ j = (unsure-inj (length H) before after j x y e).0 in omega (arith, lt, n);
        })

    -- A PUSH ENDS, however it went.
    module _ (f : FlightSeen) (whole : length note.bytes ≡ 4096) (performed : IsPerformed note f) (there : new note.number ≡ f.disk.content) where
      blocks-of : (c : Option (List (List ℕ))) (size : ℕ) → HasBlocks (with_block c note.block (clip note.valid note.bytes)) size → note.block < size
          → IfSome (with_block c note.block (clip note.valid note.bytes)) (λ blocks. slice_index_or blocks note.block [] ≡ clip note.valid note.bytes)
      blocks-of None size has within = tt
      blocks-of (Some blocks) size has within =
          get_or-set_same blocks note.block (clip note.valid note.bytes) [] (let n = has.0 in let e = length-set blocks note.block (clip note.valid note.bytes) in omega (arith, n, within, e))

      by_outcome : (o : Progress) → WroteBlock note f o → MarksFit opening H new (with_note notes seat None) (marks_by m seat note (length H) f o)
      by_outcome fresh w = absurd w
      by_outcome done w = came-written whole performed.valid_within
          (subst (λ (c : Option (List (List ℕ))). IfSome c (λ blocks. slice_index_or blocks note.block [] ≡ clip note.valid note.bytes)) (sym (there ∙ w))
          (blocks-of note.disk.content f.disk.size (subst (λ (c : Option (List (List ℕ))). HasBlocks c f.disk.size) w performed.whole) (let n = performed.size in let lt = performed.within in omega (arith, n, lt))))
      by_outcome failed w = came-spoiled f.before f.disk.faults

      pub ends-push : MarksFit opening H new (with_note notes seat None) (marks_by m seat note (length H) f f.outcome)
      ends-push = by_outcome f.outcome (performed.written pushes.writes)

pub marks_rule : MarksLaw
marks_rule = record {
  begins = λ opening H contents notes m seat note fit idle room sends. begins-push opening H contents notes m seat note fit idle room sends;
  leaves = λ opening H contents notes m seat note fit idle aside. leaves-aside opening H contents notes m seat note fit idle aside;
  ends = λ opening H old new notes m seat note f fit legal apart noted alone pushes whole performed same there.
      ends-push opening H old new notes m seat note fit noted same pushes apart alone legal f whole performed there;
  returns = λ opening H old new notes m seat note fit noted aside same files. returns-aside opening H old new notes m seat note fit noted same aside files;
}
