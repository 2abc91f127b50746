-- What a store through a shared cell changes. Public clauses cite this.
use Rattle.std.specs.Prelude.{ℕ, ◌≡◌, length, Option, Some, None, IsSomeAnd, option_map, option_and_then, slice_get}
use Rattle.vm_types.specs.declared.call.Kind.TheVariants.{Shared}
use Rattle.vm_types.specs.declared.call.Object.{Object}
use Rattle.vm_types.specs.declared.call.Reply.TheVariants.{Done}
use Rattle.flat_model.specs.Words.{Page, page, word_put}
use Rattle.flat_model.specs.Flat.{Cell, File, Flat, cell_at, pages_of}
use Rattle.flat_model.specs.Access.{store}
use Rattle.flat_model.specs.FrameLaws.{KeepsMode}

-- A page of an object, where it has that page.
abbrev pub object_page : Flat → Object → ℕ → Option Page
object_page F o i = option_and_then (λ pages. slice_get pages i) (pages_of F o)

-- The file is as it was but for what its pages hold.
pub record KeepsLength (old new : File) : Type 0 where
  pub len : new.len ≡ old.len
  pub extents : new.extents ≡ old.extents
  pub mode : KeepsMode old new

-- Flat memory G is F with another page at an index of an object, and is F in all else.
pub record ChangesOnePage (F : Flat) (o : Object) (i : ℕ) (new : Page) (G : Flat) : Type 0 where
  pub changed : object_page G o i ≡ Some new
  pub beside : (j : ℕ) → (j ≡ i → ⊥) → object_page G o j ≡ object_page F o j
  pub others : (x : Object) (j : ℕ) → (x ≡ o → ⊥) → object_page G x j ≡ object_page F x j
  pub counts : (x : Object) → option_map length (pages_of G x) ≡ option_map length (pages_of F x)
  pub files : length G.files ≡ length F.files
  pub lengths : (f : ℕ) (file : File) → slice_get F.files f ≡ Some file → IsSomeAnd (slice_get G.files f) (KeepsLength file)
  pub slots : G.slots ≡ F.slots
  pub disks : G.disks ≡ F.disks
  pub spaces : G.spaces ≡ F.spaces
  pub born : G.born ≡ F.born

-- A store that is done through a shared cell, which has no page of its own, puts its word into the page of the object that the cell stands for. Nothing else changes.
pub record SharedStore : Type 0 where
  pub one_page : (F : Flat) (p a n v : ℕ) (c : Cell) → (store F p a n v).reply ≡ Done → cell_at F p (page a) ≡ Some c → c.kind ≡ Shared → c.own ≡ None → IsSomeAnd (object_page F c.object c.index) (λ old. ChangesOnePage F c.object c.index (word_put old a n v) (store F p a n v).after)
