-- What callers see of a store, and what holds of every store. Public clauses cite this.
use Rattle.std.specs.Prelude.{◌≡◌, ◌≢◌, ℕ, ◌<◌, ◌^◌, ◌⊎◌, ◌&&◌, ◌||◌, true, List, Option, Some, None, IsSome, length, is_some, is_none, slice_index, unwrap_or, Contains}
use Rattle.block_device.specs.DiskSeen.{DiskSeen, HasBlocks}
use Rattle.core_arena.specs.Bytes.{bytes_at}
use Rattle.core_arena.specs.Seen.{CoreSeen}
use Rattle.page_clock.specs.Seen.{ClockSeen}
use Rattle.page_hash.specs.Names.{find, name_at, AreDistinct}
use Rattle.page_hash.specs.declared.PageName.{PageName}
use Rattle.page_lists.specs.ListsSeen.{ListsSeen, AreApart}
use Rattle.page_lock.specs.Rows.{row_at}
use Rattle.page_lock.specs.declared.Row.{Row}
use Rattle.page_store.specs.Bays.{BaySeen, missing, home, bay_at, AreNumbers}
use Rattle.page_store.specs.declared.residence.Residence.{Residence}
use Rattle.page_store.specs.declared.residence.Residence.TheVariants.{Home, Moving, Absent}

-- A store: the core that its frames come from; by frame the bytes (None where it is away), the name that it holds and its
-- row of lock, keeps, bits and snapshot; the free list and the cache list; where each disk is, by number, with 8 for the
-- swap disk; the numbers of the other disks in the order in which they came; and the clock.
pub record StoreSeen : Type 0 where
  pub origin : ℕ
  pub frames : List (Option (List ℕ))
  pub names : List (Option PageName)
  pub rows : List Row
  pub free : List ℕ
  pub cached : List ℕ
  pub bays : List BaySeen
  pub order : List ℕ
  pub clock : ClockSeen

-- the store that these parts make
abbrev pub store_of : CoreSeen → List (Option PageName) → ListsSeen → List Row → ClockSeen → List BaySeen → List ℕ → StoreSeen
store_of core names lists rows clock bays order = record {
  origin = core.origin;
  frames = core.frames;
  names = names;
  rows = rows;
  free = lists.free;
  cached = lists.cached;
  bays = bays;
  order = order;
  clock = clock;
}

-- the lists of a store
abbrev pub lists_seen : StoreSeen → ListsSeen
lists_seen s = record { frames = length s.frames; free = s.free; cached = s.cached }

-- a frame is on the free list or on the cache list
abbrev pub IsListedFrame : StoreSeen → ℕ → Type 0
IsListedFrame s frame = Contains s.free frame ⊎ Contains s.cached frame

-- the page that a frame has, which is away, was given up meanwhile
abbrev pub IsGone : StoreSeen → ℕ → Type 0
IsGone s frame = (row_at s.rows frame).gone ≡ true

-- the own frame of the page that a frame has: another one where this frame has a snapshot of it
abbrev pub own_frame : StoreSeen → ℕ → ℕ
own_frame s frame = unwrap_or (row_at s.rows frame).source frame

-- A frame has 4096 bytes; it is away exactly where a seat holds its lock; one that is held has no name exactly where its
-- page is gone or it has a snapshot, and not both.
pub record FrameAgrees (bytes : Option (List ℕ)) (name : Option PageName) (row : Row) : Type 0 where
  pub size : (b : List ℕ) → bytes ≡ Some b → length b ≡ 4096
  pub away : is_none bytes ≡ is_some row.holder
  pub unnamed : (is_some row.holder && is_none name) ≡ (row.gone || is_some row.source)
  pub torn : row.gone ≡ true → row.source ≡ None

-- A page and its snapshot know each other, and a page of which a snapshot is away is home, on no list.
pub record ArePaired (s : StoreSeen) : Type 0 where
  pub source : (own copy : ℕ) → (row_at s.rows own).snapshot ≡ Some copy → (row_at s.rows copy).source ≡ Some own
  pub snapshot : (own copy : ℕ) → (row_at s.rows copy).source ≡ Some own → (row_at s.rows own).snapshot ≡ Some copy
  pub home : (own copy : ℕ) → (row_at s.rows own).snapshot ≡ Some copy → IsSome (bytes_at s.frames own)
  pub named : (own copy : ℕ) → (row_at s.rows own).snapshot ≡ Some copy → IsSome (name_at s.names own)
  pub unlisted : (own copy : ℕ) → (row_at s.rows own).snapshot ≡ Some copy → ¬ IsListedFrame s own

-- the disks of these numbers are there, and no other below 8
pub record IsOrder (bays : List BaySeen) (order : List ℕ) : Type 0 where
  pub numbers : AreNumbers order
  pub there : (i : ℕ) → i < length order → bay_at bays (slice_index order i) ≢ missing
  pub all : (number : ℕ) → number < 8 → bay_at bays number ≢ missing → (i : ℕ) × (i < length order) × (slice_index order i ≡ number)

-- What holds of every store: the parts have as many frames, no two frames hold one name, each frame agrees with its name
-- and row, pages and snapshots are paired, no frame is on two lists, a listed frame is home, the home frames without a name
-- are the free ones, and a disk that tells has whole blocks.
pub record IsSoundStore (s : StoreSeen) : Type 0 where
  pub few : length s.frames < 2 ^ 32
  pub names : length s.names ≡ length s.frames
  pub rows : length s.rows ≡ length s.frames
  pub hands : s.clock.frames ≡ length s.frames
  pub bays : length s.bays ≡ 9
  pub order : IsOrder s.bays s.order
  pub distinct : AreDistinct s.names
  pub lists : AreApart (lists_seen s)
  pub each : (k : ℕ) → k < length s.frames → FrameAgrees (bytes_at s.frames k) (name_at s.names k) (row_at s.rows k)
  pub paired : ArePaired s
  pub listed : (k : ℕ) → IsListedFrame s k → IsSome (bytes_at s.frames k)
  pub unnamed : (k : ℕ) → Contains s.free k → name_at s.names k ≡ None
  pub spare : (k : ℕ) → IsSome (bytes_at s.frames k) → name_at s.names k ≡ None → Contains s.free k
  pub whole : (number : ℕ) (d : DiskSeen) → bay_at s.bays number ≡ home d → HasBlocks d.content d.size

-- where the name is that a frame holds, by the frame's bytes and the seat that holds its lock
abbrev pub residence_of : Option (List ℕ) → Option ℕ → ℕ → Residence
residence_of (Some bytes) holder frame = Home frame
residence_of None (Some seat) frame = Moving seat
residence_of None None frame = Absent

-- where the name is that this frame holds; absent where there is no frame
abbrev pub residence_in : Option ℕ → StoreSeen → Residence
residence_in None s = Absent
residence_in (Some frame) s = residence_of (bytes_at s.frames frame) (row_at s.rows frame).holder frame

-- where a name is: with a home frame, with the seat that has its frame, or nowhere
abbrev pub residence : StoreSeen → PageName → Residence
residence s name = residence_in (find s.names name) s

-- what the parts of a store keep beside what is seen: the counts of frames agree
pub record IsWhole (frames hand : ℕ) (core : CoreSeen) (names : List (Option PageName)) (lists : ListsSeen) (rows : List Row) (clock : ClockSeen) (bays : List BaySeen) (order : List ℕ) : Type 0 where
  pub sound : IsSoundStore (store_of core names lists rows clock bays order)
  pub counted : length core.frames ≡ frames
  pub listed : lists.frames ≡ frames
  pub pointer : hand < frames
