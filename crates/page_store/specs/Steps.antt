-- What the calls make of a store. Public clauses cite this.
use Rattle.std.specs.Prelude.{ℕ, ◌++◌, [], ◌∷◌, Bool, true, false, if◌then◌else◌, List, Option, Some, None, unwrap_or, slice_set}
use Rattle.core_arena.specs.Bytes.{bytes_at, bytes_with_piece}
use Rattle.page_hash.specs.Names.{name_at, find}
use Rattle.page_hash.specs.declared.PageName.{PageName}
use Rattle.page_lists.specs.ListsSeen.{first_listed, without_frame}
use Rattle.page_lock.specs.Rows.{row_at, clear_row, with_bits}
use Rattle.page_lock.specs.declared.Row.{Row}
use Rattle.page_store.specs.Bays.{home, out}
use Rattle.page_store.specs.Bytes.{clip}
use Rattle.page_store.specs.Flight.{FlightSeen, Progress, fresh, done, failed}
use Rattle.page_store.specs.Parts.{rows_paired, rows_parted, rows_forsaken, rows_settled}
use Rattle.page_store.specs.Seen.{StoreSeen}

-- the frame that is taken next
abbrev pub next_frame : StoreSeen → Option ℕ
next_frame s = first_listed s.free s.cached

-- what a frame holds, if there is a frame
abbrev pub name_in : List (Option PageName) → Option ℕ → Option PageName
name_in names None = None
name_in names (Some frame) = name_at names frame

-- the name that the next frame holds
abbrev pub next_name : StoreSeen → Option PageName
next_name s = name_in s.names (next_frame s)

-- the free list once the next frame was taken
abbrev pub rest_free : List ℕ → List ℕ
rest_free [] = []
rest_free (frame ∷ more) = more

-- the cache list once the next frame was taken, which comes off it where no frame is free
abbrev pub rest_cached : List ℕ → List ℕ → List ℕ
rest_cached [] [] = []
rest_cached [] (frame ∷ more) = more
rest_cached (frame ∷ more) cached = cached

-- the row of a frame that is taken for a page
abbrev pub fresh_row : Bool → Row
fresh_row modified = with_bits clear_row false modified

-- the row of a page that comes back: nobody holds it
abbrev pub landed_row : Row → Bool → Row
landed_row row dirty = with_bits (record row { holder = None; gone = false }) row.referenced dirty

-- the row of a frame that is taken by a seat
abbrev pub held_row : Row → ℕ → Row
held_row row seat = record row { holder = Some seat }

-- the row of one frame is another
abbrev pub with_row : StoreSeen → ℕ → Row → StoreSeen
with_row s frame row = record s { rows = slice_set s.rows frame row }

-- a piece is written over a page at home, which is modified then where `mark` is true
abbrev pub with_piece : StoreSeen → ℕ → ℕ → List ℕ → Bool → StoreSeen
with_piece s frame at from mark = record s {
  frames = slice_set s.frames frame (Some (bytes_with_piece (unwrap_or (bytes_at s.frames frame) []) at from));
  rows = if mark then slice_set s.rows frame (with_bits (row_at s.rows frame) (row_at s.rows frame).referenced true) else s.rows;
}

-- the store after a call on a frame; where there is no frame, nothing changes
abbrev pub at_frame : Option ℕ → StoreSeen → (ℕ → StoreSeen) → StoreSeen
at_frame None s after = s
at_frame (Some frame) s after = after frame

-- the store after a piece was written over the page of a name, where a frame holds the name
abbrev pub after_poke : StoreSeen → PageName → ℕ → List ℕ → Bool → StoreSeen
after_poke s name at from mark = at_frame (find s.names name) s (λ frame. with_piece s frame at from mark)

-- a frame is taken for a name, with these bytes
abbrev pub with_frame_filled : StoreSeen → ℕ → PageName → List ℕ → Bool → StoreSeen
with_frame_filled s frame name bytes modified = record s {
  frames = slice_set s.frames frame (Some bytes);
  names = slice_set s.names frame (Some name);
  rows = slice_set s.rows frame (fresh_row modified);
  free = rest_free s.free;
  cached = rest_cached s.free s.cached;
}

-- the store after the next frame was taken for a name, with these bytes, where there is one
abbrev pub after_fill : StoreSeen → PageName → List ℕ → Bool → StoreSeen
after_fill s name bytes modified = at_frame (next_frame s) s (λ frame. with_frame_filled s frame name bytes modified)

-- the bytes of a page that is home
abbrev pub home_bytes : StoreSeen → Option ℕ → List ℕ
home_bytes s None = []
home_bytes s (Some frame) = unwrap_or (bytes_at s.frames frame) []

-- the first bytes of a frame that is home, and zeros after them
abbrev pub front_bytes : List (Option (List ℕ)) → ℕ → ℕ → List ℕ
front_bytes frames frame valid = clip valid (unwrap_or (bytes_at frames frame) [])

-- a page and its snapshot part: the snapshot's page is gone, and the page has this modified bit
abbrev pub with_pair_parted : StoreSeen → ℕ → ℕ → Bool → StoreSeen
with_pair_parted s own copy modified = record s { rows = rows_parted s.rows own copy modified }

-- the snapshot of a page, where one is away, is gone
abbrev pub without_snapshot : StoreSeen → ℕ → StoreSeen
without_snapshot s own = record s { rows = rows_forsaken s.rows own }

-- a frame and a disk go out with a seat, to be written
abbrev pub with_page_sent : StoreSeen → ℕ → ℕ → ℕ → StoreSeen
with_page_sent s frame seat number = record s {
  frames = slice_set s.frames frame None;
  rows = slice_set s.rows frame (held_row (row_at s.rows frame) seat);
  bays = slice_set s.bays number (out seat);
}

-- a frame is taken as a snapshot of a page, and goes out with a disk and a seat, to be written; the page stays where it is
abbrev pub with_snapshot_sent : StoreSeen → ℕ → ℕ → ℕ → ℕ → StoreSeen
with_snapshot_sent s own frame seat number = record s {
  frames = slice_set s.frames frame None;
  names = slice_set s.names frame None;
  rows = rows_paired s.rows own frame seat;
  free = rest_free s.free;
  cached = rest_cached s.free s.cached;
  bays = slice_set s.bays number (out seat);
}

-- a page is pushed: from a snapshot exactly where a frame is available
abbrev pub with_push_begun : StoreSeen → ℕ → Option ℕ → ℕ → ℕ → StoreSeen
with_push_begun s own None seat number = with_page_sent s own seat number
with_push_begun s own (Some frame) seat number = with_snapshot_sent s own frame seat number

-- a frame is taken for a name, and goes out with a disk and a seat, to be read
abbrev pub with_read_begun : StoreSeen → ℕ → PageName → ℕ → ℕ → StoreSeen
with_read_begun s frame name seat number = record s {
  frames = slice_set s.frames frame None;
  names = slice_set s.names frame (Some name);
  rows = slice_set s.rows frame (held_row clear_row seat);
  free = rest_free s.free;
  cached = rest_cached s.free s.cached;
  bays = slice_set s.bays number (out seat);
}

-- a frame that comes back is free where its page is gone, or was to be read and that failed
abbrev pub is_lost : Bool → Progress → Bool → Bool
is_lost writes outcome true = true
is_lost true outcome false = false
is_lost false done false = false
is_lost false fresh false = true
is_lost false failed false = true

-- the transfer failed, so that a page that was to be written is modified
abbrev pub is_dirty : Progress → Bool
is_dirty done = false
is_dirty fresh = true
is_dirty failed = true

-- a flight comes back: the page is home under its name; one that is lost leaves its frame free
abbrev pub with_flight_landed : StoreSeen → FlightSeen → Bool → StoreSeen
with_flight_landed s f false = record s {
  frames = slice_set s.frames f.frame (Some f.bytes);
  rows = slice_set s.rows f.frame (landed_row (row_at s.rows f.frame) (is_dirty f.outcome));
  bays = slice_set s.bays f.number (home f.disk);
}
with_flight_landed s f true = record s {
  frames = slice_set s.frames f.frame (Some f.bytes);
  names = slice_set s.names f.frame None;
  rows = slice_set s.rows f.frame clear_row;
  free = s.free ++ f.frame ∷ [];
  bays = slice_set s.bays f.number (home f.disk);
}

-- the page of a flight that comes back as a snapshot is parted from it
abbrev pub with_pair_settled : StoreSeen → FlightSeen → StoreSeen
with_pair_settled s f = record s { rows = rows_settled (row_at s.rows f.frame).source s.rows f.frame (is_dirty f.outcome) }

-- the store after a flight came back, and the page that it is a snapshot of was parted from it
abbrev pub after_end : StoreSeen → FlightSeen → StoreSeen
after_end s f = with_flight_landed (with_pair_settled s f) f (is_lost f.writes f.outcome (row_at (with_pair_settled s f).rows f.frame).gone)

-- a page is given up: one that is moving is gone, and the frame of one that is home is free
abbrev pub with_page_given_up : StoreSeen → ℕ → Option (List ℕ) → StoreSeen
with_page_given_up s frame None = record s {
  names = slice_set s.names frame None;
  rows = slice_set s.rows frame (record (row_at s.rows frame) { gone = true });
}
with_page_given_up s frame (Some bytes) = record s {
  names = slice_set s.names frame None;
  rows = slice_set s.rows frame clear_row;
  cached = without_frame s.cached frame;
  free = s.free ++ frame ∷ [];
}

-- a name is given up, and the snapshot of its page, where one is away, is gone
abbrev pub after_abort : StoreSeen → PageName → StoreSeen
after_abort s name = at_frame (find s.names name) s (λ frame. with_page_given_up (without_snapshot s frame) frame (bytes_at s.frames frame))

-- a frame is taken off the cache list
abbrev pub after_reclaim : StoreSeen → PageName → StoreSeen
after_reclaim s name = at_frame (find s.names name) s (λ frame. record s { cached = without_frame s.cached frame })
