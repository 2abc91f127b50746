-- Room that is made for another page. Public clauses cite this.
use Rattle.std.specs.Prelude.{◌≡◌, ◌≢◌, ◌⊎◌, ℕ, ◌||◌, ◌++◌, ◌∷◌, [], Bool, Option, Some, None, IsSome}
use Rattle.page_store.specs.core_arena.Bytes.{bytes_at}
use Rattle.vm_world.specs.hat_layer.Pool.{bits_of}
use Rattle.page_store.specs.page_hash.declared.PageName.{PageName}
use Rattle.page_store.specs.page_lock.Rows.{row_at}
use Rattle.page_store.specs.Laws.{SameResidence}
use Rattle.page_store.specs.Seen.{StoreSeen, IsListedFrame, residence}
use Rattle.page_store.specs.Steps.{next_frame}
use Rattle.page_store.specs.Waits.{IsVictim}
use Rattle.page_store.specs.declared.residence.Residence.TheVariants.{Home, Absent}
use Rattle.seg_ops.specs.Steps.{IsUnwritten}
use Rattle.vm_world.specs.Serving.{ModifiesNone}
use Rattle.vm_world.specs.Wants.{IsDirtyPage}
use Rattle.vm_world.specs.Words.{OnlyStoreAndHat, KeepsEveryPage}
use Rattle.vm_world.specs.World.{World, world_seen}
use Rattle.vm_world.specs.declared.world.World as rust

-- A frame at least holds bytes, another than this one where one is given.
abbrev pub OneIsHomeBut : StoreSeen → Option ℕ → Type 0
OneIsHomeBut s beside = (frame : ℕ) × (beside ≢ Some frame) × IsSome (bytes_at s.frames frame)

-- The frame that is chosen is one whose page can give way, another than this where one is given; and none is chosen exactly where there is no other.
abbrev pub ChoosesBeside : StoreSeen → Option ℕ → Option ℕ → Type 0
ChoosesBeside s beside None = (frame : ℕ) → beside ≢ Some frame → IsVictim s frame → ⊥
ChoosesBeside s beside (Some frame) = (beside ≢ Some frame) × IsVictim s frame

-- The page in a frame, another than this where one is given, can give way, and its row says whether it is modified.
pub record CanGiveWay {D : Type 0} (w : rust.World D) (beside : Option ℕ) (frame : ℕ) : Type 0 where
  pub other : beside ≢ Some frame
  pub victim : IsVictim w.store frame
  pub unwritten : IsUnwritten w.hat.places frame

-- The page in a frame was used: its bit or that of a translation says so.
abbrev pub was_used : World → ℕ → Bool
was_used w frame = (row_at w.store.rows frame).referenced || (bits_of frame w.hat.places).0

-- ROOM IS MADE: bits are gathered, translations dropped and frames listed, and nothing else. Every page stays where it is and what it is, in the frame
-- that it has, and none becomes modified, or comes to count as rewritten.
pub record MakesRoom {D : Type 0} (old new : rust.World D) : Type 0 where
  pub rest : OnlyStoreAndHat old new
  pub stay : SameResidence old.store new.store
  pub names : new.store.names ≡ old.store.names
  pub frames : new.store.frames ≡ old.store.frames
  pub modified : ModifiesNone (world_seen old) (world_seen new)
  pub keeps : KeepsEveryPage old new

-- A frame can be taken; or none can, and this page, which is modified, is to be pushed first.
abbrev pub HasRoomUnless : {D : Type 0} → rust.World D → Option PageName → Type 0
HasRoomUnless w None = IsSome (next_frame w.store)
HasRoomUnless w (Some name) = (next_frame w.store ≡ None) × IsDirtyPage (world_seen w) name

-- Each page that is home in a frame on no list is there.
abbrev pub KeepsUnlisted : StoreSeen → StoreSeen → Type 0
KeepsUnlisted old new = (page : PageName) (frame : ℕ) → residence old page ≡ Home frame → ¬ IsListedFrame old frame → residence new page ≡ Home frame

-- Each page that was absent is absent still.
abbrev pub KeepsAbsent : StoreSeen → StoreSeen → Type 0
KeepsAbsent old new = (page : PageName) → residence old page ≡ Absent → residence new page ≡ Absent

-- No frame comes on a list.
abbrev pub ListsNoMore : StoreSeen → StoreSeen → Type 0
ListsNoMore old new = (frame : ℕ) → IsListedFrame new frame → IsListedFrame old frame

-- The lists are as they were.
abbrev pub SameLists : StoreSeen → StoreSeen → Type 0
SameLists old new = (new.free ≡ old.free) × (new.cached ≡ old.cached)

-- The lists are as they were, but that one frame more may be last on the cache list.
abbrev pub ListsOneMore : StoreSeen → StoreSeen → Type 0
ListsOneMore old new = (new.free ≡ old.free) × ((new.cached ≡ old.cached) ⊎ ((frame : ℕ) × (new.cached ≡ old.cached ++ frame ∷ [])))
