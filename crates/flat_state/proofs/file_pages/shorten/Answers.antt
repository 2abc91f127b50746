use Rattle.std.proofs.Common.{◌≡◌, ℕ, ◌-◌, ◌*◌, List, length, replicate, take, map, sym, ap, subst, ◌∙◌, arith}
use Rattle.std.specs.Prelude.{All}
use Rattle.std.proofs.lemmas.List.{length-take}
use Rattle.std.proofs.lemmas.List.Elements.{All-take}
use Rattle.flat_model.specs.Words.{Page, IsPage, pages_in}
use Rattle.flat_model.specs.Parts.{pages_with_bytes}
use Rattle.flat_state.proofs.FilePages.{truncated-items, length-items, items_of}
use Rattle.flat_state.proofs.file_pages.shorten.Goals as goal
use Rattle.flat_state.proofs.file_pages.shorten.Goals.{After-truncate}

kept : (c : After-truncate) → map items_of c.truncate.new.self.items ≡ take (pages_in c.args.new) (map items_of c.args.pages.now.items)
kept c = truncated-items c.args.pages.now.items c.truncate.new.self.items (pages_in c.args.new) (c.truncate.ensures.items ∙ ap (λ (n : ℕ). take n c.args.pages.now.items) c.pages_in.ensures.count)

pub clear_tail-requires : goal.clear_tail-requires
clear_tail-requires c =
    let ps = map items_of c.args.pages.now.items in
    let t = kept (goal.at.clear_tail-requires c).After-truncate in
    let size = length-items c.truncate.new.self.items in
    let old = length-items c.args.pages.now.items in
    let same = ap length t in
    record {
      whole = subst (All IsPage) (sym t) (All-take IsPage (pages_in c.args.new) ps c.requires.whole);
      count = omega (arith, length-take (pages_in c.args.new) ps, c.requires.enough);
    }

pub returns : goal.returns
returns c =
    let t = kept (goal.at.returns c).After-truncate in
    let size = length-items c.truncate.new.self.items in
    c.clear_tail.ensures
    ∙ ap (λ (n : ℕ). pages_with_bytes (map items_of c.truncate.new.self.items) c.args.new (replicate (4096 * n - c.args.new) 0)) (sym size)
    ∙ ap (λ (qs : List Page). pages_with_bytes qs c.args.new (replicate (4096 * length qs - c.args.new) 0)) t
