-- What each call on pages at home does, beside its exact new store: one record a call. Public clauses cite this.
use Rattle.std.specs.Prelude.{◌≡◌, ◌≢◌, ℕ, Bool, List, Option, Some, None, IfSome}
use Rattle.core_arena.specs.Bytes.{bytes_with_piece}
use Rattle.page_hash.specs.Names.{find, name_at}
use Rattle.page_hash.specs.declared.PageName.{PageName}
use Rattle.page_lock.specs.Rows.{row_at}
use Rattle.page_store.specs.StoreFits.{StoreFits, IsClean}
use Rattle.page_store.specs.Moves.{KeepsValues, KeepsOtherValues, FillsFrame, Touches, is_only, family_of}
use Rattle.page_store.specs.Flight.{FlightSeen}
use Rattle.page_store.specs.Notes.{Notes}
use Rattle.page_store.specs.Out.{IsFlightOf}
use Rattle.page_store.specs.Seen.{StoreSeen, IsSoundStore, IsListedFrame, residence}
use Rattle.page_store.specs.Steps.{next_frame, next_name, fresh_row}
use Rattle.page_store.specs.Table.{PlaceTable}
use Rattle.page_store.specs.Value.{value}
use Rattle.page_store.specs.declared.residence.Residence.TheVariants as at

-- every page is where it was
abbrev pub SameResidence : StoreSeen → StoreSeen → Type 0
SameResidence old new = (n : PageName) → residence new n ≡ residence old n

-- no disk moves, and every flight that is out stays out
pub record SameFlights (old new : StoreSeen) : Type 0 where
  pub bays : new.bays ≡ old.bays
  pub flights : (f : FlightSeen) → IsFlightOf old f → IsFlightOf new f

-- A call that moves no page and changes no value.
pub record StaysInPlace (old new : StoreSeen) (touched : ℕ → Bool) : Type 0 where
  pub sound : IsSoundStore new
  pub touches : Touches old new touched
  pub residence : SameResidence old new
  pub outside : SameFlights old new
  pub values : (notes : Notes) (table : PlaceTable) → StoreFits old notes table → KeepsValues old notes new notes table

-- A frame goes on the cache list: no value changes where its page is clean.
pub record Releases (old new : StoreSeen) (frame : ℕ) : Type 0 where
  pub sound : IsSoundStore new
  pub touches : Touches old new (is_only (Some frame))
  pub residence : SameResidence old new
  pub outside : SameFlights old new
  pub values : (notes : Notes) (table : PlaceTable) → StoreFits old notes table
      → ((n : PageName) → name_at old.names frame ≡ Some n → IsClean old notes table frame n)
      → KeepsValues old notes new notes table

-- A piece is written over the page of a name.
pub record Pokes (old new : StoreSeen) (name : PageName) (at : ℕ) (piece : List ℕ) : Type 0 where
  pub sound : IsSoundStore new
  pub touches : Touches old new (is_only (find old.names name))
  pub residence : SameResidence old new
  pub outside : SameFlights old new
  pub value : (notes : Notes) (table : PlaceTable) → value new notes table name ≡ bytes_with_piece (value old notes table name) at piece
  pub others : (notes : Notes) (table : PlaceTable) → StoreFits old notes table → KeepsOtherValues old notes new notes table name

-- The next frame is taken for a name, which is home there with these bytes; the name that the frame held is absent.
pub record FillsPage (old new : StoreSeen) (name : PageName) (modified : Bool) (bytes : Notes → PlaceTable → List ℕ) : Type 0 where
  pub sound : IsSoundStore new
  pub touches : Touches old new (is_only (next_frame old))
  pub home : IfSome (next_frame old) (λ frame. residence new name ≡ at.Home frame)
  pub unlisted : IfSome (next_frame old) (λ frame. ¬ IsListedFrame new frame)
  pub row : IfSome (next_frame old) (λ frame. row_at new.rows frame ≡ fresh_row modified)
  pub outside : SameFlights old new
  pub lost : (n : PageName) → next_name old ≡ Some n → residence new n ≡ at.Absent
  pub stay : (n : PageName) → n ≢ name → next_name old ≢ Some n → residence new n ≡ residence old n
  pub values : (notes : Notes) (table : PlaceTable) → StoreFits old notes table
      → FillsFrame old notes new notes table name (bytes notes table)

-- A name is given up: no frame holds it, and no other page moves.
pub record Aborts (old new : StoreSeen) (name : PageName) : Type 0 where
  pub sound : IsSoundStore new
  pub touches : Touches old new (family_of old (find old.names name))
  pub outside : SameFlights old new
  pub absent : residence new name ≡ at.Absent
  pub stay : (n : PageName) → n ≢ name → residence new n ≡ residence old n
  pub others : (notes : Notes) (table : PlaceTable) → StoreFits old notes table → KeepsOtherValues old notes new notes table name
