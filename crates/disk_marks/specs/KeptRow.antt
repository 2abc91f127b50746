-- A row as it is kept. Inside: no public clause cites this.
use Rattle.std.specs.Prelude.{ℕ, ◌≡◌, Bool}
use Rattle.std.proofs.Common.{sym}
use Rattle.disk_marks.specs.declared.marks.Mark.{Mark}
use Rattle.disk_marks.specs.declared.marks.Mark.TheVariants.{Held, Blank, Unsure}
use Rattle.disk_marks.specs.declared.marks.MarkRow.{MarkRow}
use Rattle.disk_marks.specs.declared.row.Kind.{Kind}
use Rattle.disk_marks.specs.declared.row.Kind.TheVariants as kind
use Rattle.disk_marks.specs.declared.row.Row.TheInside.{Inside}

-- the mark of a kind, with so many entries and these counts
abbrev pub mark_of : Kind → ℕ → ℕ → ℕ → Mark
mark_of kind.Held j before after = Held j
mark_of kind.Blank j before after = Blank j
mark_of kind.Unsure j before after = Unsure j before after

-- the row that the fields stand for
abbrev pub row_of : Inside → MarkRow
row_of r = record { mark = mark_of r.kind r.entries r.before r.after; pushed = r.pushed }

-- the counts are 0 where the mark names none
abbrev pub HasCounts : Kind → ℕ → ℕ → Type 0
HasCounts kind.Unsure before after = Unit {0}
HasCounts k before after = (before ≡ 0) × (after ≡ 0)

-- the fields that stand for a mark with the bit beside it
abbrev pub fields_of : Mark → Bool → Inside
fields_of (Held j) pushed = record { before = 0; after = 0; entries = j; kind = kind.Held; pushed = pushed }
fields_of (Blank j) pushed = record { before = 0; after = 0; entries = j; kind = kind.Blank; pushed = pushed }
fields_of (Unsure j before after) pushed = record { before = before; after = after; entries = j; kind = kind.Unsure; pushed = pushed }

-- the fields that stand for a row
abbrev pub row_fields : MarkRow → Inside
row_fields row = fields_of row.mark row.pushed

-- the fields made of a kept row are its own, where the counts are 0 if the mark names none
pub row_fields-row_of : (r : Inside) → HasCounts r.kind r.before r.after → row_fields (row_of r) ≡ r
row_fields-row_of r h = by_kind r.kind h
  where
    by_kind : (k : Kind) → HasCounts k r.before r.after
        → fields_of (mark_of k r.entries r.before r.after) r.pushed ≡ record { before = r.before; after = r.after; entries = r.entries; kind = k; pushed = r.pushed }
    by_kind kind.Held h = λ i. record { before = sym h.0 i; after = sym h.1 i; entries = r.entries; kind = kind.Held; pushed = r.pushed }
    by_kind kind.Blank h = λ i. record { before = sym h.0 i; after = sym h.1 i; entries = r.entries; kind = kind.Blank; pushed = r.pushed }
    by_kind kind.Unsure h = λ i. record { before = r.before; after = r.after; entries = r.entries; kind = kind.Unsure; pushed = r.pushed }
