use Rattle.std.proofs.Common.{◌≡◌, ℕ, ◌-◌, ◌++◌, List, length, replicate, min, map, sym, ap, subst, ◌∙◌, arith}
use Rattle.std.specs.Prelude.{All}
use Rattle.flat_model.specs.Words.{Page, IsPage, zero_page, pages_in}
use Rattle.flat_model.specs.Parts.{pages_with_bytes}
use Rattle.flat_state.proofs.FilePages.{longer-pages, All-zeros, length-items, map-append, items_of}
use Rattle.flat_state.proofs.file_pages.lengthen.Goals as goal
use Rattle.flat_state.proofs.file_pages.lengthen.Goals.{In_ok-append}

grown : (c : In_ok-append) → map items_of c.append.new.self.items ≡ map items_of c.args.pages.now.items ++ replicate (pages_in c.args.end - length (map items_of c.args.pages.now.items)) zero_page
grown c =
    let ps = c.args.pages.now.items in
    let count : c.saturating_sub-missing.result ≡ pages_in c.args.end - length (map items_of ps) = omega (arith, c.saturating_sub-missing.ensures, c.pages_in.ensures.count, c.len.ensures, length-items ps, c.args.pages.now.ok.0) in
    ap (map items_of) c.in_ok-append.ensures.items ∙ map-append items_of ps c.in_ok-more.more.items
    ∙ ap (λ (more : List Page). map items_of ps ++ more) (c.in_ok-more.ensures ∙ ap (λ (k : ℕ). replicate k zero_page) count)

pub clear-requires-clause-whole : goal.clear-requires-clause-whole
clear-requires-clause-whole c = subst (All IsPage) (sym (grown (goal.at.clear-requires-clause-whole c).In_ok-append)) (All-zeros (map items_of c.args.pages.now.items) (pages_in c.args.end - length (map items_of c.args.pages.now.items)) c.requires.whole)

pub returns-clause-ok : goal.returns-clause-ok
returns-clause-ok c =
    let ps = map items_of c.args.pages.now.items in
    let size = length-items c.args.pages.now.items in
    let more : List Page = replicate (pages_in c.args.end - length ps) zero_page in
    let zeros : c.min.result ≡ min (c.args.end - c.args.len) c.tail_of.result = c.min.ensures ∙ ap (λ (k : ℕ). min k c.tail_of.result) c.saturating_sub.ensures in
    c.clear.ensures
    ∙ ap (λ (qs : List Page). pages_with_bytes qs c.args.len (replicate c.min.result 0)) (grown (goal.at.returns-clause-ok c).In_ok-append)
    ∙ ap (λ (k : ℕ). pages_with_bytes (ps ++ more) c.args.len (replicate k 0)) zeros
    ∙ longer-pages ps c.args.len c.args.end c.tail_of.result c.requires.whole (size ∙ c.requires.count) c.tail_of.ensures
    ∙ ap (λ (n : ℕ). pages_with_bytes (ps ++ replicate (pages_in c.args.end - n) zero_page) c.args.len (replicate (c.args.end - c.args.len) 0)) size
