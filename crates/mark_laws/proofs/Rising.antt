-- The mark of a page rises.
use Rattle.std.proofs.Common.{◌≡◌, ◌≢◌, ℕ, ◌≤◌, true, false, List, [], length, Option, Some, None, refl, sym, ap, ◌∙◌, subst, arith}
use Rattle.std.specs.Prelude.{IfSome, slice_index_or}
use Rattle.std.proofs.lemmas.Option.{slice_get_within}
use Rattle.flat_model.specs.vm_types.declared.call.Entry.{Entry}
use Rattle.flat_model.specs.Flat.{Flat}
use Rattle.flat_model.specs.History.{replay, Legal}
use Rattle.page_store.specs.core_arena.Bytes.{zeros}
use Rattle.page_store.specs.page_hash.declared.PageName.{PageName}
use Rattle.page_store.specs.Bytes.{clip}
use Rattle.page_store.specs.Notes.{Note, Notes}
use Rattle.disk_marks.specs.declared.marks.Mark.TheVariants.{Held, Blank, Unsure}
use Rattle.disk_marks.specs.declared.marks.MarkRow.{MarkRow}
use Rattle.disk_marks.specs.declared.marks.Pushing.{Pushing}
use Rattle.disk_marks.specs.Marks.{MarksSeen, HasRow, mark_row, push_of, with_mark_row}
use Rattle.disk_marks.specs.Changes.{row_raised, marks_raised, marks_taken, marks_emptied}
use Rattle.mark_laws.specs.Pages.{after_first, bytes_there, page_there, disk_place, HasPage, HavePlacesApart}
use Rattle.mark_laws.specs.Syncs.{entries_in, HasSynced, ReachesDisk}
use Rattle.mark_laws.specs.MarksFit.{DiskContents, OfBlock, IsBeingWritten, BlockFits, IsDropped, SentFits, MarksFit}
use Rattle.mark_laws.specs.RaiseLaws.{RaisesLaw}
use Rattle.disk_marks.proofs.Rows.{row-other, row-there}
use Rattle.mark_laws.proofs.Cutting.{row_taken}
use Rattle.mark_laws.proofs.Dropping.{drops, left-push}
use Rattle.mark_laws.proofs.Rows.{told-all}
use Rattle.mark_laws.proofs.Words.{held-inj, blank-inj, all-entries}
use Rattle.mark_laws.proofs.Spots.{at-place, by-name, block-here}
use Rattle.mark_laws.proofs.Ending.{starts-first}

module _ (opening : Flat) (H : List Entry) (contents : DiskContents) (notes : Notes) (m : MarksSeen) (name : PageName) (disk block : ℕ) (fit : MarksFit opening H contents notes m) (legal : Legal opening H)
    (apart : HavePlacesApart (replay opening H)) (at : disk_place (replay opening H) name ≡ Some (disk, block)) where
  rises : (row : MarkRow) → entries_in row.mark ≡ length H
      → (¬ IsBeingWritten notes name → OfBlock contents disk block (BlockFits opening H name row))
      → ((j : ℕ) → row.mark ≡ Blank j → page_there (after_first opening H j) name ≡ zeros)
      → ((j x y : ℕ) → row.mark ≢ Unsure j x y)
      → ((seat : ℕ) (note : Note) → notes seat ≡ Some note → note.writes ≡ true → note.name ≡ name → IsDropped (mark_row m disk block) → IsDropped row)
      → MarksFit opening H contents notes (with_mark_row m disk block row)
  rises row new fits blanks sure dropped = record {
    kept = fit.kept;
    rows = λ d c lt. row-there m disk block d c row (fit.rows d c lt);
    free = λ d c none. row-other m disk block d c row has (λ x y. none name (at ∙ (λ i. Some (sym x i, sym y i)))) ∙ fit.free d c none;
    there = λ n d c a. row-there m disk block d c row (fit.there n d c a);
    early = λ n d c a. by_name (λ (r : MarkRow). entries_in r.mark ≤ length H) n d c a (λ _. omega (arith, new)) (λ _. fit.early n d c a);
    blocks = λ n d c a free. by_name (λ (r : MarkRow). OfBlock contents d c (BlockFits opening H n r)) n d c a
        (λ e. block-here (replay opening H) apart m name disk block at has row contents (λ (y : PageName). BlockFits opening H y row) n d c a e (fits (subst (λ (y : PageName). ¬ IsBeingWritten notes y) e free)))
        (λ _. fit.blocks n d c a free);
    blanks = λ n d c j a. by_name (λ (r : MarkRow). r.mark ≡ Blank j → page_there (after_first opening H j) n ≡ zeros) n d c a
        (λ e is. ap (page_there (after_first opening H j)) e ∙ blanks j is) (λ _. fit.blanks n d c j a);
    places = fit.places;
    sent = λ k note is writes far.
        let a = fit.places k note is writes far in
        by_name (λ (r : MarkRow). SentFits opening H r note (push_of m k)) note.name note.number note.block a
        (λ e. let here = at-place (replay opening H) apart m name disk block at has row note.name note.number note.block a e in
        drop k note (push_of m k) is writes e
        (subst (λ (y : ℕ). SentFits opening H (mark_row m y block) note (push_of m k)) here.0 (subst (λ (y : ℕ). SentFits opening H (mark_row m note.number y) note (push_of m k)) here.1 (fit.sent k note is writes far))))
        (λ _. fit.sent k note is writes far);
    origin = fit.origin;
    out = fit.out;
    inside = fit.inside;
    synced = λ k b n d c syn a. by_name (λ (r : MarkRow). ReachesDisk k b r.mark) n d c a
        (λ e. let s = subst (λ (y : PageName). HasSynced opening H k b y) e syn in
        let lt = slice_get_within H k s.entry s.at in let first = starts-first opening H legal k b name s in record {
          since = omega (arith, new, lt, first);
          later = λ j x y is. absurd (sure j x y is);
        }) (λ _. fit.synced k b n d c syn a);
    later = fit.later;
  }
    where
      has : HasRow m disk block
      has = fit.there name disk block at

      by_name : (P : MarkRow → Type 0) (n : PageName) (d c : ℕ) → disk_place (replay opening H) n ≡ Some (d, c) → (n ≡ name → P row) → (n ≢ name → P (mark_row m d c))
          → P (mark_row (with_mark_row m disk block row) d c)
      by_name = by-name (replay opening H) apart m name disk block at has row

      drop : (k : ℕ) (note : Note) (p : Option Pushing) → notes k ≡ Some note → note.writes ≡ true → note.name ≡ name → SentFits opening H (mark_row m disk block) note p → SentFits opening H row note p
      drop k note None is writes e s = dropped k note is writes e s
      drop k note (Some push) is writes e s = s

  -- A page that isn't being written: its block has it.
  pub raised-held : ¬ IsBeingWritten notes name → OfBlock contents disk block (λ bytes. clip (bytes_there (replay opening H) name) bytes ≡ page_there (replay opening H) name)
      → MarksFit opening H contents notes (marks_raised m disk block (length H))
  raised-held unwritten same = rises (row_raised (length H) (mark_row m disk block)) refl
      (λ free. told-both (contents disk) (fit.blocks name disk block at free) same)
      (λ j is. absurd (let z : Held (length H) ≡ Blank j = is in cc))
      (λ j x y is. let z : Held (length H) ≡ Unsure j x y = is in cc)
      (λ k note is writes e s. absurd (unwritten (k, note, is, writes, e)))
    where
      told-both : (o : Option (List (List ℕ))) → IfSome o (λ blocks. BlockFits opening H name (mark_row m disk block) (slice_index_or blocks block []))
          → IfSome o (λ blocks. clip (bytes_there (replay opening H) name) (slice_index_or blocks block []) ≡ page_there (replay opening H) name)
          → IfSome o (λ blocks. BlockFits opening H name (row_raised (length H) (mark_row m disk block)) (slice_index_or blocks block []))
      told-both None f s = tt
      told-both (Some blocks) f s = record {
        held = λ j is. subst (λ (F : Flat). HasPage F name (mark_row m disk block).pushed (slice_index_or blocks block [])) (sym (all-entries opening H) ∙ ap (after_first opening H) (held-inj (length H) j is)) (record {
          same = s;
          rest = λ p. f.zeros p ∙ s;
        });
        zeros = f.zeros;
      }

  -- A page that is zeros; its pushes are dropped.
  module _ (is_zeros : page_there (replay opening H) name ≡ zeros) where
    dropped : IsDropped (row_taken (length H))
    dropped = record { unheld = λ j z. let y : Blank (length H) ≡ Held j = z in cc; unpushed = refl }

    taken : MarksFit opening H contents notes (marks_taken m disk block (length H))
    taken = rises (row_taken (length H)) refl
        (λ free. told-all (BlockFits opening H name (row_taken (length H))) block (contents disk) (λ blocks _. record {
          held = λ j is. absurd (let z : Blank (length H) ≡ Held j = is in cc);
          zeros = λ z. absurd (let y : false ≡ true = z in cc);
        }))
        (λ j is. ap (λ (k : ℕ). page_there (after_first opening H k) name) (sym (blank-inj (length H) j is)) ∙ ap (λ (F : Flat). page_there F name) (all-entries opening H) ∙ is_zeros)
        (λ j x y is. let z : Blank (length H) ≡ Unsure j x y = is in cc)
        (λ k note is writes e s. dropped)

    pub raised-blank : MarksFit opening H contents notes (marks_emptied m disk block name.object name.page (length H))
    raised-blank = drops opening H contents notes (marks_taken m disk block (length H)) name taken
        (λ d c a. by-name (replay opening H) apart m name disk block at (fit.there name disk block at) (row_taken (length H)) IsDropped name d c a (λ _. dropped) (λ other. absurd (other refl)))

pub raises_rule : RaisesLaw
raises_rule = record {
  held = λ opening H contents notes m name disk block fit legal apart at unwritten same. raised-held opening H contents notes m name disk block fit legal apart at unwritten same;
  blank = λ opening H contents notes m name disk block fit legal apart at is_zeros. raised-blank opening H contents notes m name disk block fit legal apart at is_zeros;
  still = λ m name disk block j seat push is. (left-push (marks_taken m disk block j) name seat push is).1;
}
