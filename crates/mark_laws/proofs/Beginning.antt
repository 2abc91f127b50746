-- Transfers that begin.
use Rattle.std.proofs.Common.{◌≡◌, ◌≢◌, ℕ, ◌<◌, true, List, length, Option, Some, None, refl, sym, ap, ◌∙◌, inl, inr, subst, arith}
use Rattle.std.proofs.lemmas.Bool.{cases_eq}
use Rattle.std.proofs.lemmas.Option.{same_Some, slice_get_within}
use Rattle.flat_model.specs.vm_types.declared.call.Entry.{Entry}
use Rattle.flat_model.specs.Flat.{Flat}
use Rattle.flat_model.specs.History.{replay}
use Rattle.page_store.specs.page_hash.declared.PageName.{PageName}
use Rattle.page_store.specs.Bytes.{clip}
use Rattle.page_store.specs.Notes.{Note, Notes, with_note}
use Rattle.disk_marks.specs.declared.marks.Pushing.{Pushing}
use Rattle.disk_marks.specs.Marks.{MarksSeen, mark_row, push_of}
use Rattle.disk_marks.specs.Changes.{marks_begun}
use Rattle.mark_laws.specs.Pages.{ArePageOf, bytes_there, page_there, disk_place}
use Rattle.mark_laws.specs.MarksFit.{DiskContents, PushesFile, IsOutWith, IsBeingWritten, IsSentPage, SentFits, MarksFit, pushed_page}
use Rattle.mark_laws.specs.MarkLaws.{SendsPage}
use Rattle.page_store.proofs.TransferLemmas.{with_note-same, with_note-other}
use Rattle.disk_marks.proofs.Rows.{push-same, push-other}
use Rattle.mark_laws.proofs.Words.{all-entries}

module _ (opening : Flat) (H : List Entry) (contents : DiskContents) (notes : Notes) (m : MarksSeen) (seat : ℕ) (note : Note) (fit : MarksFit opening H contents notes m) (idle : notes seat ≡ None) where
  mine : (k : ℕ) (other : Note) → k ≡ seat → with_note notes seat (Some note) k ≡ Some other → note ≡ other
  mine k other e is = same_Some note other (sym (with_note-same notes seat (Some note)) ∙ ap (with_note notes seat (Some note)) (sym e) ∙ is)

  still : (name : PageName) → IsBeingWritten notes name → IsBeingWritten (with_note notes seat (Some note)) name
  still name w = (w.0, w.1, with_note-other notes seat w.0 (Some note) (λ e. absurd (let z : ◌≡◌ {A = Option Note} None (Some w.1) = sym idle ∙ ap notes (sym e) ∙ w.2 in cc)) ∙ w.2, w.3, w.4)

  -- A PUSH OF A FILE'S PAGE BEGINS: its bytes are those of the page as it is.
  module _ (room : seat < length m.pushes) (sends : SendsPage (replay opening H) note) where
    abbrev begin : Pushing
    begin = record { file = note.name.object; page = note.name.page; from = length H; whole = true }

    abbrev begun : MarksSeen
    begun = marks_begun m seat note.name.object note.name.page (length H)

    sent-page : IsSentPage opening H note begin
    sent-page = record {
      name = refl;
      early = omega arith;
      page = sends.page ∙ sym (ap (λ (F : Flat). page_there F note.name) (all-entries opening H));
      valid = sends.valid ∙ sym (ap (λ (F : Flat). bytes_there F note.name) (all-entries opening H));
      whole = λ _. let v = sends.valid in omega (arith, v);
    }

    own-page : ArePageOf opening H note.name (clip note.valid note.bytes)
    own-page = record {
      entries = length H;
      made = omega arith;
      inside = subst (λ (F : Flat). 0 < bytes_there F note.name) (sym (all-entries opening H)) sends.inside;
      same = sends.page ∙ sym (ap (λ (F : Flat). page_there F note.name) (all-entries opening H));
    }

    is-begin : (t : ℕ) (push : Pushing) → t ≡ seat → push_of (marks_begun m seat note.name.object note.name.page (length H)) t ≡ Some push → begin ≡ push
    is-begin t push e is = same_Some begin push (sym (push-same m seat (Some begin) room) ∙ ap (push_of begun) (sym e) ∙ is)

    pub begins-push : MarksFit opening H contents (with_note notes seat (Some note)) begun
    begins-push = record {
      kept = fit.kept;
      rows = fit.rows;
      free = fit.free;
      there = fit.there;
      early = fit.early;
      blocks = λ name disk block at free. fit.blocks name disk block at (λ w. free (still name w));
      blanks = fit.blanks;
      places = λ k other is writes far. elim (cases_eq k seat) [
        | inl e ↦ subst (λ (n : Note). disk_place (replay opening H) n.name ≡ Some (n.number, n.block)) (mine k other e is) sends.place
        | inr ne ↦ fit.places k other (sym (with_note-other notes seat k (Some note) ne) ∙ is) writes far
      ];
      sent = λ k other is writes far. elim (cases_eq k seat) [
        | inl e ↦
            subst (λ (p : Option Pushing). SentFits opening H (mark_row m other.number other.block) other p) (sym (ap (push_of begun) e ∙ push-same m seat (Some begin) room))
            (subst (λ (n : Note). IsSentPage opening H n begin) (mine k other e is) sent-page)
        | inr ne ↦
            subst (λ (p : Option Pushing). SentFits opening H (mark_row m other.number other.block) other p) (sym (push-other m seat k (Some begin) ne))
            (fit.sent k other (sym (with_note-other notes seat k (Some note) ne) ∙ is) writes far)
      ];
      origin = λ k other is writes far. elim (cases_eq k seat) [
        | inl e ↦ subst (λ (n : Note). ArePageOf opening H n.name (clip n.valid n.bytes)) (mine k other e is) own-page
        | inr ne ↦ fit.origin k other (sym (with_note-other notes seat k (Some note) ne) ∙ is) writes far
      ];
      out = λ t push is. elim (cases_eq t seat) [
        | inl e ↦ subst (λ (p : Pushing). IsOutWith (with_note notes seat (Some note)) t p) (is-begin t push e is) (record {
          note = note;
          there = ap (with_note notes seat (Some note)) e ∙ with_note-same notes seat (Some note);
          pushes = sends.pushes;
          name = refl;
        })
        | inr ne ↦
            let o = fit.out t push (sym (push-other m seat t (Some begin) ne) ∙ is) in
            record { note = o.note; there = with_note-other notes seat t (Some note) ne ∙ o.there; pushes = o.pushes; name = o.name }
      ];
      inside = λ t push is. elim (cases_eq t seat) [
        | inl e ↦ subst (λ (p : Pushing). 0 < bytes_there (replay opening H) (pushed_page p)) (is-begin t push e is) sends.inside
        | inr ne ↦ fit.inside t push (sym (push-other m seat t (Some begin) ne) ∙ is)
      ];
      synced = fit.synced;
      later = λ k b t name push synced is named. elim (cases_eq t seat) [
        | inl e ↦ subst (λ (p : Pushing). k < p.from) (is-begin t push e is) (slice_get_within H k synced.entry synced.at)
        | inr ne ↦ fit.later k b t name push synced (sym (push-other m seat t (Some begin) ne) ∙ is) named
      ];
    }

  -- ANY OTHER TRANSFER BEGINS.
  pub leaves-aside : ¬ PushesFile note → MarksFit opening H contents (with_note notes seat (Some note)) m
  leaves-aside aside = record {
    kept = fit.kept;
    rows = fit.rows;
    free = fit.free;
    there = fit.there;
    early = fit.early;
    blocks = λ name disk block at free. fit.blocks name disk block at (λ w. free (still name w));
    blanks = fit.blanks;
    places = λ k other is writes far. fit.places k other (before k other is writes far) writes far;
    sent = λ k other is writes far. fit.sent k other (before k other is writes far) writes far;
    origin = λ k other is writes far. fit.origin k other (before k other is writes far) writes far;
    out = λ t push is.
        let o = fit.out t push is in
        record {
          note = o.note;
          there = with_note-other notes seat t (Some note) (λ e. absurd (let z : ◌≡◌ {A = Option Note} None (Some o.note) = sym idle ∙ ap notes (sym e) ∙ o.there in cc)) ∙ o.there;
          pushes = o.pushes;
          name = o.name;
        };
    inside = fit.inside;
    synced = fit.synced;
    later = fit.later;
  }
    where
      before : (k : ℕ) (other : Note) → with_note notes seat (Some note) k ≡ Some other → other.writes ≡ true → other.name.object ≢ 64 → notes k ≡ Some other
      before k other is writes far = elim (cases_eq k seat) [
        | inl e ↦ absurd (aside (subst PushesFile (sym (mine k other e is)) (record { writes = writes; far = far })))
        | inr ne ↦ sym (with_note-other notes seat k (Some note) ne) ∙ is
      ]
