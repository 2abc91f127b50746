-- Loads and stores. Public clauses cite this.
use Rattle.std.specs.Prelude.{ℕ, zero, suc, ◌%◌, ◌==◌, Bool, List, [], ◌∷◌, slice_set, Some, Result, Ok, ok_or, unwrap_or}
use Rattle.std.specs.FinMap as map
use Rattle.vm_types.specs.declared.prot.Prot.{Prot}
use Rattle.vm_types.specs.declared.call.Kind.TheVariants.{Shared, Private}
use Rattle.vm_types.specs.declared.call.Object.{Object}
use Rattle.vm_types.specs.declared.call.Object.TheVariants as object
use Rattle.vm_types.specs.declared.call.Signal.{Signal}
use Rattle.vm_types.specs.declared.call.Signal.TheVariants as signal
use Rattle.vm_types.specs.declared.call.Reply.TheVariants as reply
use Rattle.vm_types.specs.Prot.{can_read, can_write}
use Rattle.flat_model.specs.Words.{Page, page, word_at, word_put}
use Rattle.flat_model.specs.Flat.{Cell, File, Flat, Space, cell_at, shown}
use Rattle.flat_model.specs.Spaces.{with_cell_in}
use Rattle.flat_model.specs.Refusals.{◌>>=◌, ◌>>◌, check, Effect, or_signal, done_effect}

-- The cell and the page that an access of n bytes reaches, or the first signal that is due: Align where n doesn't divide the address, NoMap where there is no cell, Prot where the cell doesn't let it, Past where the cell shows nothing.
unfoldable pub access_target : Flat → ℕ → (Prot → Bool) → ℕ → ℕ → Result (Cell × Page) Signal
access_target F p may a n = do
  check (a % n == 0) signal.Align
  cell ← ok_or (cell_at F p (page a)) signal.NoMap
  check (may cell.prot) signal.Prot
  bytes ← ok_or (shown F cell) signal.Past
  Ok (cell, bytes)

-- A load answers the signal that is due, and else the word of the page shown. Nothing changes.
abbrev pub load : Flat → ℕ → ℕ → ℕ → Effect
load F p a n = or_signal F (λ m. record { reply = reply.Word (word_at m.1 a n); after = F }) (access_target F p can_read a n)

-- The list with the element at a place changed.
abbrev pub with_change_at : {A : Type 0} → (A → A) → List A → ℕ → List A
with_change_at f [] i = []
with_change_at f (x ∷ xs) zero = f x ∷ xs
with_change_at f (x ∷ xs) (suc i) = x ∷ with_change_at f xs i

-- The file with another page at an index.
abbrev pub file_with_page : ℕ → Page → File → File
file_with_page i new file = record file { pages = slice_set file.pages i new }

-- Flat memory with another page at an index of an object.
abbrev pub with_page : Flat → Object → ℕ → Page → Flat
with_page F (object.File f) i new = record F { files = with_change_at (file_with_page i new) F.files f }
with_page F (object.Zero z) i new = record F { zeros = map.insert F.zeros z (slice_set (unwrap_or (map.get F.zeros z) []) i new) }
with_page F object.NewZero i new = F

-- Flat memory with another space of a process.
abbrev pub with_space : Flat → ℕ → Space → Flat
with_space F p space = record F { spaces = map.insert F.spaces p space }

-- Flat memory with a cell at a page of a process.
abbrev pub with_cell : Flat → ℕ → ℕ → Cell → Flat
with_cell F p q c = record F { spaces = with_cell_in F.spaces p q c }

-- A new page of a shared cell goes to its object. Of a private cell it becomes the cell's own.
abbrev pub with_page_stored : Flat → ℕ → ℕ → Cell → Page → Flat
with_page_stored F p q c new = elim c.kind [ Shared ↦ with_page F c.object c.index new | Private ↦ with_cell F p q (record c { own = Some new }) ]

-- A store answers the signal that is due, and else Done: the bytes are replaced in the page shown.
abbrev pub store : Flat → ℕ → ℕ → ℕ → ℕ → Effect
store F p a n v = or_signal F (λ m. done_effect (with_page_stored F p (page a) m.0 (word_put m.1 a n v))) (access_target F p can_write a n)
