-- Flat memory stays well formed with another space of a process, and without a process.
use Rattle.flat_model.proofs.WellFormed.{kept_one as kept-one}
use Rattle.std.proofs.Common.{◌≡◌, ℕ, Bool, true, false, cond, Option, Some, None, sym, ap, ◌∙◌, inl, inr}
use Rattle.std.specs.Prelude.{option_and_then, is_some, IsSome}
use Rattle.std.specs.FinMap as finite
use Rattle.std.specs.FinSet as set
use Rattle.std.proofs.lemmas.Bool.{cases_eq}
use Rattle.flat_model.specs.vm_types.Pages.{IsUserPage}
use Rattle.flat_model.specs.Access.{with_space}
use Rattle.flat_model.specs.Flat.{Cell, Space, Flat, IsCell, IsFlat, space_of, cell_at, is_named}
use Rattle.flat_model.specs.Processes.{without_process}
use Rattle.flat_model.proofs.Ranges.{get-insert_here, get-insert_apart, get-remove_here, get-remove_apart, get-retain_keys}

-- all cells of a space may stand where they do
abbrev pub Standing : Space → Type 0
Standing s = (q : ℕ) (c : Cell) → finite.get s q ≡ Some c → IsUserPage q × IsCell c
