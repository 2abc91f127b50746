use Rattle.std.proofs.Common.{rules, ◌≡◌, ◌∙◌, ap, Option, Some, None, refl}
use Rattle.flat_model.specs.Words.{Page}
use Rattle.std.specs.FinMap as map
use Rattle.flat_state.specs.declared.cells.CellState.{CellState}
use Rattle.flat_state.specs.contracts.cells.CellStateClone.TheImpl.{ghosts}
use Rattle.flat_state.specs.Cells.{flat_cell}
use Rattle.flat_state.proofs.Trees.{mapped_clone}
use Rattle.flat_state.proofs.cells.Cells.copied.Goals as goal

abbrev cell_with : CellState → Option Page → CellState
cell_with c own = record c { own = own }

-- a copy has the same page of its own
own_alike : (v w : CellState) (own new : Option Page) → ghosts.is_clone (cell_with v own) (cell_with w new) → new ≡ own
own_alike v w None None h = refl
own_alike v w None (Some y) h = absurd h.1.1.1.1.1
own_alike v w (Some x) None h = absurd h.1.1.1.1.1
own_alike v w (Some x) (Some y) h = ap (λ i. Some i) h.1.1.1.1.1

cell_alike : (v w : CellState) → ghosts.is_clone v w → flat_cell w ≡ flat_cell v
cell_alike v w h =
    let prot : w.prot ≡ v.prot = h.0 in
    let max : w.max ≡ v.max = h.1.0 in
    let kind : w.kind ≡ v.kind = h.1.1.0 in
    let object : w.object ≡ v.object = h.1.1.1.0 in
    let index : w.index ≡ v.index = h.1.1.1.1.0 in
    let own = own_alike v w v.own w.own h in
    λ i. record { prot = prot i; max = max i; kind = kind i; object = object i; index = index i; own = own i }

pub returns : goal.returns
returns c = ap map.from_entries (mapped_clone flat_cell _ _ (λ x y h. search rules) cell_alike c.self.inside.cells.entries _ c.in_ok-clone.ensures.cases) ∙ c.self.view_is
