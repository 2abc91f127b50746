-- Which histories are legal, and what flat memory is after one. Public clauses cite this.
use Rattle.std.specs.Prelude.{ℕ, ◌≡◌, ◌≤◌, ◌<◌, ◌⊎◌, ◌==◌, Bool, false, not, ◌&&◌, List, [], ◌∷◌, Some, None, slice_get, MatchOption, MatchBool, IsTrue}
use Rattle.vm_types.specs.declared.call.Call.TheVariants.{Fork}
use Rattle.vm_types.specs.declared.call.Reply.TheVariants as reply
use Rattle.vm_types.specs.declared.call.Entry.{Entry}
use Rattle.vm_types.specs.Parts.{part_file, file_of_call, is_part, ends_call}
pub use Rattle.vm_types.specs.Replies.{is_io}
use Rattle.flat_model.specs.Flat.{Flat}
use Rattle.flat_model.specs.Step.{IsStep, step}

-- Flat memory after a history that began with F.
abbrev pub replay : Flat → List Entry → Flat
replay F [] = F
replay F (e ∷ H) = replay (step F e) H

-- Each entry is a step of flat memory as the entries before it left it.
abbrev pub Steps : Flat → List Entry → Type 0
Steps F [] = Unit {0}
Steps F (e ∷ H) = IsStep F e × Steps (step F e) H

-- The entry is the Fork that made a process.
abbrev pub IsBirth : ℕ → Entry → Type 0
IsBirth p e = (e.call ≡ Fork p) × (e.reply ≡ reply.Done)

-- A Sync of p at position k may have begun at b: b isn't after k, and each earlier entry of p, and the Fork that made p, stand before position b.
abbrev pub IsStart : List Entry → ℕ → ℕ → ℕ → Type 0
IsStart H k p b = (b ≤ k) × ((j : ℕ) (d : Entry) → j < k → slice_get H j ≡ Some d → (d.process ≡ p) ⊎ IsBirth p d → j < b)

-- If the entry at position k is a Sync that says where it began, it may have begun there.
abbrev pub IsSyncStart : List Entry → ℕ → Entry → Type 0
IsSyncStart H k e = elim e.reply [ reply.Synced b ↦ IsStart H k e.process b | r ↦ Unit {0} ]

-- The entry's call is of the file: a part of it, or a Truncate of it.
abbrev pub is_of_file : ℕ → Entry → Bool
is_of_file f e = elim (file_of_call e.call) [ Some g ↦ f == g | None ↦ false ]

-- A call of f by another process that met Io; it stands between the parts of a call as if it weren't there.
abbrev pub is_aside : ℕ → Entry → Bool
is_aside p e = is_io e.reply && not (e.process == p)

-- The next part or Truncate of f, those aside left out, is a part of p's, if there is one.
abbrev pub IsNextOwn : ℕ → ℕ → List Entry → Type 0
IsNextOwn f p [] = Unit {0}
IsNextOwn f p (e ∷ H) = MatchBool (is_of_file f e && not (is_aside p e)) ((e.process ≡ p) × IsTrue (is_part e.call)) (IsNextOwn f p H)

-- If the entry is a part that doesn't end its call, then the next part or Truncate of that file is a part of its process.
abbrev pub IsUnbroken : Entry → List Entry → Type 0
IsUnbroken e H = MatchOption (part_file e.call) (Unit {0}) (λ f. MatchBool (ends_call e.call e.reply) (Unit {0}) (IsNextOwn f e.process H))

-- No call of a file comes between the parts of another call of that file.
abbrev pub KeepsParts : List Entry → Type 0
KeepsParts [] = Unit {0}
KeepsParts (e ∷ H) = IsUnbroken e H × KeepsParts H

-- A history is legal where its entries are steps, its Syncs began behind what their processes had done before, and the parts of a call stay together.
pub record Legal (F : Flat) (H : List Entry) : Type 0 where
  pub steps : Steps F H
  pub syncs : (k : ℕ) (e : Entry) → slice_get H k ≡ Some e → IsSyncStart H k e
  pub parts : KeepsParts H
