use Rattle.std.proofs.Common.{◌≡◌, ℕ, ◌-◌, List, length, map, sym, ap, ◌∙◌, arith}
use Rattle.std.specs.Prelude.{slice_set}
use Rattle.flat_model.specs.Words.{Page}
use Rattle.flat_state.specs.Cells.{flat_file}
use Rattle.flat_state.proofs.Trees.{map_set, set_past}
use Rattle.flat_state.proofs.FilePages.{length-items, items_of}
use Rattle.flat_state.proofs.files.FileState.set_last_page.Goals as goal

pub returns-then-count-ne0 : goal.returns-then-count-ne0
returns-then-count-ne0 c =
    let old = flat_file c.args.self.now in
    let v = c.args.self.now.pages.items in
    let at : c.len-count.result - 1 ≡ length (map items_of v) - 1 = omega (arith, c.len-count.ensures, c.args.self.now.pages.ok.0, length-items v) in
    ap (λ (qs : List Page). record old { pages = qs }) (map_set items_of v (c.len-count.result - 1) c.args.page ∙ ap (λ (k : ℕ). slice_set (map items_of v) k c.args.page.items) at)

pub returns-else-count-ne0 : goal.returns-else-count-ne0
returns-else-count-ne0 c =
    let old = flat_file c.args.self.now in
    let v = c.args.self.now.pages.items in
    ap (λ (qs : List Page). record old { pages = qs }) (sym (set_past (map items_of v) (length (map items_of v) - 1) c.args.page.items (omega (arith, c.len-count.ensures, c.if-count-ne0.false, c.args.self.now.pages.ok.0, length-items v))))
