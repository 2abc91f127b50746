-- What a seat has outside a store. Public clauses cite this.
use Rattle.std.specs.Prelude.{◌≡◌, ◌≢◌, ℕ, Bool, false, Some, None}
use Rattle.page_hash.specs.Names.{name_at}
use Rattle.page_hash.specs.declared.PageName.{PageName}
use Rattle.page_lock.specs.Rows.{row_at}
use Rattle.page_store.specs.Bays.{out, bay_at}
use Rattle.page_store.specs.Flight.{FlightSeen}
use Rattle.page_store.specs.Seen.{StoreSeen, own_frame}

-- The seat has the disk, and the frame's lock; where the page isn't gone, its own frame holds the name; and a frame into
-- which a page is read is that page's own.
pub record HasOut (s : StoreSeen) (seat number frame : ℕ) (writes : Bool) (name : PageName) : Type 0 where
  pub bay : bay_at s.bays number ≡ out seat
  pub holder : (row_at s.rows frame).holder ≡ Some seat
  pub page : (row_at s.rows frame).gone ≡ false → name_at s.names (own_frame s frame) ≡ Some name
  pub read : writes ≡ false → (row_at s.rows frame).source ≡ None

-- A flight of this store that is out: its frame is of the store's core, and its seat has that frame and the disk.
pub record IsFlightOf (s : StoreSeen) (f : FlightSeen) : Type 0 where
  pub origin : f.origin ≡ s.origin
  pub out : HasOut s f.seat f.number f.frame f.writes f.name

-- every disk but one is where it was
abbrev pub DisksElsewhere : StoreSeen → StoreSeen → ℕ → Type 0
DisksElsewhere old new number = (k : ℕ) → k ≢ number → bay_at new.bays k ≡ bay_at old.bays k
