-- Rows, as more is kept beside them.
use Rattle.std.proofs.Common.{◌≡◌, ◌++◌, ℕ, List, [], ◌∷◌, ◌∙◌, length, refl, ap}
use Rattle.std.proofs.lemmas.List.{get_or_append_left, length-map, map_push}
use Rattle.std.proofs.Math.Seq.{get_or-append_seam}
use Rattle.std.proofs.lemmas.List.Elements.{All-head, All-tail}
use Rattle.entry_list.specs.vm_types.declared.call.Entry.{Entry}
use Rattle.entry_list.specs.declared.row.ReadPart.{ReadPart}
use Rattle.entry_list.specs.declared.row.Row.{Row}
use Rattle.entry_list.specs.declared.row.Row.TheVariants as row
use Rattle.entry_list.specs.Rows.{absent_entry, absent_part, part_entry, row_entry, row_entries, IsRowWithin, AreRowsWithin}

-- a row more stands for its entry
pub rows_push : (whole : List Entry) (reads : List ReadPart) (rows : List Row) (r : Row)
    → row_entries whole reads (rows ++ r ∷ []) ≡ row_entries whole reads rows ++ row_entry whole reads r ∷ []
rows_push whole reads rows r = map_push (row_entry whole reads) rows r

pub rows_count : (whole : List Entry) (reads : List ReadPart) (rows : List Row) → length (row_entries whole reads rows) ≡ length rows
rows_count whole reads rows = length-map rows (row_entry whole reads)

-- what is kept beside rows
module _ (whole : List Entry) (reads : List ReadPart) where
  -- rows stand for the same over others that give each of them the same
  rows_same : (whole-2 : List Entry) (reads-2 : List ReadPart)
      → ((r : Row) → IsRowWithin (length whole) (length reads) r → row_entry whole-2 reads-2 r ≡ row_entry whole reads r)
      → (rows : List Row) → AreRowsWithin (length whole) (length reads) rows → row_entries whole-2 reads-2 rows ≡ row_entries whole reads rows
  rows_same whole-2 reads-2 same [] h = refl
  rows_same whole-2 reads-2 same (r ∷ rs) h =
      ap (λ (x : Entry). x ∷ row_entries whole-2 reads-2 rs) (same r (All-head (IsRowWithin (length whole) (length reads)) r rs h))
      ∙ ap (λ (xs : List Entry). row_entry whole reads r ∷ xs)
      (rows_same whole-2 reads-2 same rs (All-tail (IsRowWithin (length whole) (length reads)) r rs h))

  row_kept_whole : (e : Entry) (r : Row) → IsRowWithin (length whole) (length reads) r → row_entry (whole ++ e ∷ []) reads r ≡ row_entry whole reads r
  row_kept_whole e (row.Load process addr size word) h = refl
  row_kept_whole e (row.Store process addr size value) h = refl
  row_kept_whole e (row.Read process place) h = refl
  row_kept_whole e (row.Whole place) h = get_or_append_left whole (e ∷ []) absent_entry place h

  row_kept_read : (p : ReadPart) (r : Row) → IsRowWithin (length whole) (length reads) r → row_entry whole (reads ++ p ∷ []) r ≡ row_entry whole reads r
  row_kept_read p (row.Load process addr size word) h = refl
  row_kept_read p (row.Store process addr size value) h = refl
  row_kept_read p (row.Read process place) h = ap (part_entry process) (get_or_append_left reads (p ∷ []) absent_part place h)
  row_kept_read p (row.Whole place) h = refl

  -- an entry more that is kept whole, and its row
  pub rows_push_whole : (rows : List Row) (e : Entry) → AreRowsWithin (length whole) (length reads) rows
      → row_entries (whole ++ e ∷ []) reads (rows ++ row.Whole (length whole) ∷ []) ≡ row_entries whole reads rows ++ e ∷ []
  rows_push_whole rows e h =
      rows_push (whole ++ e ∷ []) reads rows (row.Whole (length whole))
      ∙ ap (λ (xs : List Entry). xs ++ row_entry (whole ++ e ∷ []) reads (row.Whole (length whole)) ∷ [])
      (rows_same (whole ++ e ∷ []) reads (row_kept_whole e) rows h)
      ∙ ap (λ (x : Entry). row_entries whole reads rows ++ x ∷ []) (get_or-append_seam whole e [] absent_entry)

  -- a part more of a read, and its row
  pub rows_push_read : (rows : List Row) (process : ℕ) (p : ReadPart) → AreRowsWithin (length whole) (length reads) rows
      → row_entries whole (reads ++ p ∷ []) (rows ++ row.Read process (length reads) ∷ []) ≡ row_entries whole reads rows ++ part_entry process p ∷ []
  rows_push_read rows process p h =
      rows_push whole (reads ++ p ∷ []) rows (row.Read process (length reads))
      ∙ ap (λ (xs : List Entry). xs ++ row_entry whole (reads ++ p ∷ []) (row.Read process (length reads)) ∷ [])
      (rows_same whole (reads ++ p ∷ []) (row_kept_read p) rows h)
      ∙ ap (λ (x : ReadPart). row_entries whole reads rows ++ part_entry process x ∷ []) (get_or-append_seam reads p [] absent_part)
