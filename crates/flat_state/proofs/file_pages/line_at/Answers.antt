use Rattle.std.proofs.Common.{◌≡◌, ℕ, ◌-◌, ◌/◌, ◌%◌, ◌<◌, List, [], length, take, drop, get_or, min, map, sym, ap, ◌∙◌, arith}
use Rattle.std.specs.List.{concat}
use Rattle.flat_model.specs.vm_types.Pages.{line_rest}
use Rattle.flat_state.proofs.FilePages.{length-items, get_or-items, page-size, line-of, line-past, items_of}
use Rattle.flat_state.proofs.file_pages.line_at.Goals as goal
use Rattle.flat_state.proofs.file_pages.line_at.Goals.{After-deref}

within : (c : After-deref) → c.args.offset / 4096 < length c.args.pages.now.items
within c = omega (arith, c.requires.count, c.saturating_sub-left.ensures, c.if-left-eq0.false)

pub piece-requires-clause-inside : goal.piece-requires-clause-inside
piece-requires-clause-inside c =
    let size = page-size c.args.pages.now.items (c.args.offset / 4096) c.index.result.now c.requires.whole (within (goal.at.piece-requires-clause-inside c).After-deref) c.index.ensures in
    omega (arith, c.deref.ensures.len, c.min-count.ensures, c.min.ensures, c.line_rest.ensures.rest)

pub returns : goal.returns
returns c =
    let ps = map items_of c.args.pages.now.items in
    let lt = within (goal.at.returns c).After-deref in
    let page : get_or ps (c.args.offset / 4096) [] ≡ c.deref.result.now = get_or-items c.args.pages.now.items (c.args.offset / 4096) c.index.result.now lt c.index.ensures ∙ sym c.deref.ensures.value in
    let count : c.min-count.result ≡ min (min c.args.asked (line_rest c.args.offset)) (c.args.len - c.args.offset) =
    c.min-count.ensures ∙ ap (λ (k : ℕ). min k c.saturating_sub-left.result) (c.min.ensures ∙ ap (λ (k : ℕ). min c.args.asked k) c.line_rest.ensures.rest) ∙ ap (λ (k : ℕ). min (min c.args.asked (line_rest c.args.offset)) k) c.saturating_sub-left.ensures in
    c.piece.ensures
    ∙ ap (λ (k : ℕ). take k (drop (c.args.offset % 4096) c.deref.result.now)) count
    ∙ ap (λ (p : List ℕ). take (min (min c.args.asked (line_rest c.args.offset)) (c.args.len - c.args.offset)) (drop (c.args.offset % 4096) p)) (sym page)
    ∙ line-of ps c.args.len c.args.offset c.args.asked (line_rest c.args.offset) c.requires.whole (length-items c.args.pages.now.items ∙ c.requires.count) (omega (arith, c.saturating_sub-left.ensures, c.if-left-eq0.false)) (omega arith)

pub returns-then-left-eq0 : goal.returns-then-left-eq0
returns-then-left-eq0 c = c.new.ensures ∙ line-past (concat (map items_of c.args.pages.now.items)) c.args.len c.args.offset (min c.args.asked (line_rest c.args.offset)) (omega (arith, c.saturating_sub-left.ensures, c.if-left-eq0.true))
