use Rattle.std.proofs.Common.{◌≡◌, ℕ, ◌-◌, ◌*◌, List, [], length, replicate, get_or, map, sym, ap, ◌∙◌}
use Rattle.std.specs.Prelude.{slice_set}
use Rattle.flat_model.specs.Words.{Page}
use Rattle.flat_state.specs.Cells.{flat_file}
use Rattle.flat_model.specs.Parts.{pages_with_bytes}
use Rattle.flat_state.proofs.FilePages.{last-back, length-items, items_of}
use Rattle.flat_state.proofs.files.FileState.clear_tail.Goals as goal

pub returns-clause-page : goal.returns-clause-page
returns-clause-page c =
    let old = flat_file c.args.self.now in
    let ps = map items_of c.args.self.now.pages.items in
    let size = length-items c.args.self.now.pages.items in
    let page : c.in_ok-page.page.items ≡ get_or ps (length ps - 1) [] = c.in_ok-page.ensures ∙ ap (λ (k : ℕ). get_or ps (k - 1) []) (sym size) in
    let cleared : map items_of c.clear_tail.new.pages.items ≡ pages_with_bytes ps old.len (replicate (4096 * length ps - old.len) 0) = c.clear_tail.ensures ∙ ap (λ (k : ℕ). pages_with_bytes ps old.len (replicate (4096 * k - old.len) 0)) (sym size) in
    ap (λ (qs : List Page). record old { pages = slice_set qs (length qs - 1) c.in_ok-page.page.items }) cleared
    ∙ ap (λ (p : Page). let qs = pages_with_bytes ps old.len (replicate (4096 * length ps - old.len) 0) in record old { pages = slice_set qs (length qs - 1) p }) page
    ∙ ap (λ (qs : List Page). record old { pages = qs }) (last-back ps old.len c.requires.pages c.requires.count)
