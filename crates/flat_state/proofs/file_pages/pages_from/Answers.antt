use Rattle.std.proofs.Common.{◌*◌, ◌-◌, ◌<◌, ◌++◌, List, [], ◌∷◌, length, replicate, map, sym, ap, ◌∙◌, arith}
use Rattle.flat_model.specs.Words.{Page, pages_in}
use Rattle.flat_model.specs.Parts.{pages_of_bytes}
use Rattle.flat_state.proofs.Cuts.{cut_next, map_push}
use Rattle.flat_state.proofs.FilePages.{page-of_rest, items_of}
use Rattle.flat_state.proofs.file_pages.pages_from.Goals as goal

pub loop-i-preserved : goal.loop-i-preserved
loop-i-preserved c =
    let xs = c.args.bytes.now in
    let whole = xs ++ replicate (4096 * pages_in (length xs) - length xs) 0 in
    let lt : c.loop-i.i < pages_in (length xs) = omega (arith, c.pages_in-i-end.ensures.count) in
    ap (map items_of) c.in_ok-push.ensures.items ∙ map_push items_of c.loop-i.pages.items c.in_ok-page_from.field-0
    ∙ ap (λ (ps : List Page). ps ++ items_of c.in_ok-page_from.field-0 ∷ []) c.loop-i.invariant
    ∙ ap (λ (p : Page). pages_of_bytes c.loop-i.i whole ++ p ∷ []) (c.in_ok-page_from.ensures ∙ page-of_rest xs c.loop-i.i lt)
    ∙ sym (cut_next c.loop-i.i whole)
