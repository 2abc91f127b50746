-- What stays where the table of places changes.
use Rattle.std.proofs.Common.{◌≡◌, ℕ, Bool, true, false, cond, List, Option, Some, None, refl, sym, ◌∙◌, ap, subst}
use Rattle.std.specs.Prelude.{IsTrue}
use Rattle.core_arena.specs.Bytes.{bytes_at}
use Rattle.page_hash.specs.Names.{find}
use Rattle.page_hash.specs.declared.PageName.{PageName}
use Rattle.page_lock.specs.Rows.{row_at}
use Rattle.page_store.specs.Bytes.{clip}
use Rattle.page_store.specs.StoreFits.{StoreFits, NoteAgrees, IsClean}
use Rattle.page_store.specs.Notes.{Note, Notes}
use Rattle.page_store.specs.Seen.{StoreSeen, residence, residence_in, residence_of}
use Rattle.page_store.specs.Table.{PlaceTable}
use Rattle.page_store.specs.TableLaws.{HasNotePlace, MayReplaceTable, TableLaw}
use Rattle.page_store.specs.Value.{value, value_in, frame_value, note_of_holder, backing_value, tells}
use Rattle.page_store.specs.declared.place.Place.{Place}
use Rattle.page_store.specs.declared.residence.Residence.{Residence}
use Rattle.page_store.specs.declared.residence.Residence.TheVariants.{Home, Moving, Absent}
use Rattle.page_store.proofs.QueryLemmas.{home-is}

agrees_still : (s : StoreSeen) (old new : PlaceTable) (seat : ℕ) (note : Note) → NoteAgrees s old seat note → HasNotePlace s new note → NoteAgrees s new seat note
agrees_still s old new seat note was has = record {
  mine = was.mine;
  origin = was.origin;
  out = was.out;
  away = was.away;
  disk = has.disk;
  block = has.block;
  read = has.read;
  whole = was.whole;
  bytes = was.bytes;
}

pub fits-table : (s : StoreSeen) (notes : Notes) (old new : PlaceTable) → StoreFits s notes old → MayReplaceTable s notes new → StoreFits s notes new
fits-table s notes old new fits may = record {
  apart = may.apart;
  each_note = λ seat note is. agrees_still s old new seat note (fits.each_note seat note is) (may.each_note seat note is);
  each_frame = fits.each_frame;
  each_bay = fits.each_bay;
  each_cached = may.cached;
}

pub value-same : (s : StoreSeen) (notes : Notes) (old new : PlaceTable) (n : PageName) → new n ≡ old n → value s notes new n ≡ value s notes old n
value-same s notes old new n is = ap (λ (p : Place). value_in (find s.names n) s notes p) is

value_home : (s : StoreSeen) (notes : Notes) (frame : ℕ) (bytes : List ℕ) (p q : Place) (o : Option ℕ) → o ≡ Some frame → bytes_at s.frames frame ≡ Some bytes
    → value_in o s notes p ≡ value_in o s notes q
value_home s notes frame bytes p q o found there =
    let at : (r : Place) → value_in o s notes r ≡ bytes = λ r.
    ap (λ (x : Option ℕ). value_in x s notes r) found ∙ ap (λ (b : Option (List ℕ)). frame_value b (note_of_holder (row_at s.rows frame).holder notes) (backing_value s notes r)) there in
    at p ∙ sym (at q)

pub value-home : (s : StoreSeen) (notes : Notes) (old new : PlaceTable) (n : PageName) (frame : ℕ) → residence s n ≡ Home frame → value s notes new n ≡ value s notes old n
value-home s notes old new n frame r = let i = home-is s n frame r in value_home s notes frame i.bytes (new n) (old n) (find s.names n) i.found i.there

-- the note's bytes are the value of a page that a note writes
held_note : (b : Option (List ℕ)) (h : Option ℕ) (frame seat : ℕ) (notes : Notes) (note : Note) (x y : List ℕ) → residence_of b h frame ≡ Moving seat
    → notes seat ≡ Some note → note.writes ≡ true → frame_value b (note_of_holder h notes) x ≡ frame_value b (note_of_holder h notes) y
held_note (Some bytes) h frame seat notes note x y r is w = refl
held_note None None frame seat notes note x y r is w = absurd (cc)
held_note None (Some t) frame seat notes note x y r is w =
    let same : t ≡ seat = cc in
    let at : notes t ≡ Some note = ap notes same ∙ is in
    let gives : (z : List ℕ) → frame_value None (notes t) z ≡ note.bytes = λ z. ap (λ (o : Option Note). frame_value None o z) at ∙ ap (λ (b : Bool). cond b note.bytes z) w in
    gives x ∙ sym (gives y)

value_written : (s : StoreSeen) (notes : Notes) (seat : ℕ) (note : Note) (p q : Place) (o : Option ℕ) → residence_in o s ≡ Moving seat → notes seat ≡ Some note
    → note.writes ≡ true → value_in o s notes p ≡ value_in o s notes q
value_written s notes seat note p q None r is w = absurd (cc)
value_written s notes seat note p q (Some frame) r is w = held_note (bytes_at s.frames frame) (row_at s.rows frame).holder frame seat notes note
    (backing_value s notes p) (backing_value s notes q) r is w

pub value-written : (s : StoreSeen) (notes : Notes) (old new : PlaceTable) (n : PageName) (seat : ℕ) (note : Note) → residence s n ≡ Moving seat
    → notes seat ≡ Some note → note.writes ≡ true → value s notes new n ≡ value s notes old n
value-written s notes old new n seat note r is w = value_written s notes seat note (new n) (old n) (find s.names n) r is w

pub clean-same : (s : StoreSeen) (notes : Notes) (old new : PlaceTable) (frame : ℕ) (n : PageName) → new n ≡ old n → IsClean s notes old frame n → IsClean s notes new frame n
clean-same s notes old new frame n is was = record {
  same = subst (λ (p : Place). IsTrue (tells s notes p.disk) → (bytes : List ℕ) → bytes_at s.frames frame ≡ Some bytes → clip p.valid bytes ≡ backing_value s notes p) (sym is) was.same;
  unwritten = λ seat note at w named. let u = was.unwritten seat note at w named in (u.0, ap (λ (p : Place). p.blank) is ∙ u.1);
}

pub table_law : TableLaw
table_law = record { fits = fits-table; same = value-same; home = value-home; written = value-written; clean = clean-same }
