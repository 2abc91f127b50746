-- What the steps do to the world. Public clauses cite this.
use Rattle.std.specs.Prelude.{◌≡◌, ◌≢◌, ◌↔◌, length, ℕ, ◌||◌, Bool, true, false, List, Option, Some, None, IsTrue, slice_index_or}
use Rattle.page_store.specs.page_hash.declared.PageName.{PageName}
use Rattle.page_store.specs.page_lock.Rows.{row_at, with_bits_added}
use Rattle.page_store.specs.Notes.{Notes}
use Rattle.page_store.specs.Seen.{StoreSeen}
use Rattle.page_store.specs.Steps.{with_row}
use Rattle.vm_world.specs.hat_layer.Pool.{HatSeen, bits_of, dropped_by_load, fresh_translation, holds, is_of, translation_at}
use Rattle.vm_world.specs.hat_layer.declared.translation.Translation.{Translation}
use Rattle.vm_world.specs.hat_layer.declared.translation.Dropped.{Dropped}
use Rattle.vm_world.specs.flat_model.Words.{page, word_at, word_put}
use Rattle.vm_world.specs.MemoryFits.{MemoryFits}
use Rattle.vm_world.specs.NotesFit.{NotesFit}
use Rattle.vm_world.specs.Pages.{page_value}
use Rattle.vm_world.specs.Segments.{Spot, Spaces, spot_at, shown_name}
use Rattle.vm_world.specs.vm_types.Prot.{can_read, can_write}
use Rattle.vm_world.specs.TranslationsFit.{MayWriteInPlace}
use Rattle.vm_world.specs.Words.{Fits, KeepsPages}
use Rattle.vm_world.specs.World.{World, world_seen, core_of, is_page_name, AllTell}
use Rattle.vm_world.specs.WorldSteps.{KeepsTables}
use Rattle.vm_world.specs.declared.world.World as rust

-- the store once bits that were told of a frame's translations, referenced and modified, were gathered into its page: it counts as rewritten only where
-- they told of a store
abbrev pub with_bits_gathered : StoreSeen → ℕ → Bool × Bool → StoreSeen
with_bits_gathered s frame told =
    with_row s frame (with_bits_added (row_at s.rows frame) told.0 told.1)

-- the store once the bits of a frame's translations are in its page
abbrev pub store_gathered : {D : Type 0} → rust.World D → ℕ → StoreSeen
store_gathered w frame = with_bits_gathered w.store frame (bits_of frame w.hat.places)

-- the store once the bits of a translation that had to give way, if one had to, are in its page
abbrev pub with_dropped_gathered : StoreSeen → Option Dropped → StoreSeen
with_dropped_gathered s None = s
with_dropped_gathered s (Some d) = with_bits_gathered s d.frame (d.referenced, d.modified)

-- A translation is loaded: every other one is as it was, but the one that gave way.
abbrev pub KeepsOtherTranslations : HatSeen → HatSeen → ℕ → ℕ → ℕ → Bool → Type 0
KeepsOtherTranslations old new space page frame writable = (s p : ℕ) → is_of s p (fresh_translation space page frame writable) ≡ false → holds s p (dropped_by_load old space page) ≡ false
    → translation_at new.places s p ≡ translation_at old.places s p

-- The page of a process has this new translation.
abbrev pub IsLoaded : {D : Type 0} → rust.World D → ℕ → ℕ → ℕ → Bool → Type 0
IsLoaded w space page frame writable = translation_at w.hat.places space page ≡ Some (fresh_translation space page frame writable)

-- No translation of the frame says that it was written.
abbrev pub IsUnwritten : List (Option Translation) → ℕ → Type 0
IsUnwritten places frame = (place : ℕ) (t : Translation) → slice_index_or places place None ≡ Some t → t.frame ≡ frame → t.modified ≡ false

-- What an address of a process shows: the page of this name.
pub record ShowsName (w : World) (spaces : Spaces) (p q : ℕ) (name : PageName) : Type 0 where
  pub spot : Spot
  pub here : spot_at spaces p q ≡ Some spot
  pub shows : shown_name w.maps spot ≡ Some name
  pub is_page : IsTrue (is_page_name w.files w.anon name)

-- The word is that of the page which the address shows.
abbrev pub ReadsWord : World → Spaces → ℕ → ℕ → ℕ → ℕ → Type 0
ReadsWord w spaces p a n word = (name : PageName) × ShowsName w spaces p (page a) name × ((notes : Notes) → word ≡ word_at (page_value w notes name) a n)

-- The page of a name has the word at the address, and every other page the value that it had; memory and the notes fit as before.
pub record PutsWord (old new : World) (spaces : Spaces) (a n v : ℕ) (name : PageName) : Type 0 where
  pub tables : KeepsTables old new
  pub core : core_of new.store ≡ core_of old.store
  pub frames : length new.store.frames ≡ length old.store.frames
  pub bays : new.store.bays ≡ old.store.bays
  pub memory : MemoryFits (record { world = new; spaces = spaces })
  pub notes : (notes : Notes) → NotesFit old notes → NotesFit new notes
  pub tells : (notes : Notes) → NotesFit old notes → AllTell old notes ↔ AllTell new notes
  pub written : (notes : Notes) → page_value new notes name ≡ word_put (page_value old notes name) a n v
  pub others : (notes : Notes) (m : PageName) → NotesFit old notes → AllTell old notes → m ≢ name → IsTrue (is_page_name old.files old.anon m)
      → page_value new notes m ≡ page_value old notes m

-- The page that the address shows gets the word.
abbrev pub WritesWord : World → World → Spaces → ℕ → ℕ → ℕ → ℕ → Type 0
WritesWord old new spaces p a n v = (name : PageName) × ShowsName old spaces p (page a) name × PutsWord old new spaces a n v name

-- A place of a process that may be read or written shows the page of a name; and a writable translation is loaded only where the page may be written
-- where it is.
pub record MayShow (w : World) (spaces : Spaces) (p q : ℕ) (name : PageName) (writable : Bool) : Type 0 where
  pub spot : Spot
  pub here : spot_at spaces p q ≡ Some spot
  pub shows : shown_name w.maps spot ≡ Some name
  pub allowed : IsTrue (can_read spot.0.prot || can_write spot.0.prot)
  pub in_place : writable ≡ true → MayWriteInPlace w.anon w.maps spot

-- Where a place may show the page of a name, no page changes.
abbrev pub KeepsWhereShown : {D : Type 0} → rust.World D → rust.World D → ℕ → ℕ → PageName → Bool → Type 0
KeepsWhereShown old new p q name writable = (spaces : Spaces) → Fits old spaces → MayShow (world_seen old) spaces p q name writable → KeepsPages (world_seen old) (world_seen new) spaces
