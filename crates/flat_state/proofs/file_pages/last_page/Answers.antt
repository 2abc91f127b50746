use Rattle.std.proofs.Common.{◌≡◌, ℕ, ◌-◌, ◌<◌, ◌++◌, List, [], length, get_or, map, sym, ap, ◌∙◌, arith}
use Rattle.flat_state.proofs.FilePages.{get_or-items, items_of}
use Rattle.flat_state.proofs.file_pages.last_page.Goals as goal

pub returns : goal.returns
returns c =
    let v = c.args.pages.now.items in
    let page = c.index.result.now in
    let size = c.args.pages.now.ok.0 in
    let at : c.len-count.result - 1 ≡ length v - 1 = omega (arith, c.len-count.ensures) in
    let lt : c.len-count.result - 1 < length v = omega (arith, c.len-count.ensures, c.if-count-eq0.false) in
    c.in_ok-extend_from_slice.ensures.items ∙ ap (λ (ys : List ℕ). ys ++ c.deref.result.now) c.new-page.ensures.items ∙ c.deref.ensures.value
    ∙ sym (get_or-items v (c.len-count.result - 1) page lt c.index.ensures)
    ∙ ap (λ (k : ℕ). get_or (map items_of v) k []) at
