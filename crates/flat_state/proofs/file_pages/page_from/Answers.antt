use Rattle.std.proofs.Common.{◌≡◌, ℕ, ◌-◌, ◌++◌, List, length, take, drop, replicate, ap, ◌∙◌, arith}
use Rattle.std.proofs.lemmas.List.{take_all, length-take, length-drop}
use Rattle.flat_state.proofs.FilePages.{page-of_bytes}
use Rattle.flat_state.proofs.file_pages.page_from.Goals as goal

pub returns : goal.returns
returns c =
    let xs = drop c.args.at c.args.bytes.now in
    let rest = take (length c.args.bytes.now - c.args.at) xs in
    let size = length-drop c.args.at c.args.bytes.now in
    let rest_is : rest ≡ xs = take_all (length c.args.bytes.now - c.args.at) xs (omega arith) in
    let all = c.extend_from_slice.new.self in
    let got : all.items ≡ take c.min.result rest = c.in_ok-extend_from_slice.ensures.items ∙ ap (λ (ys : List ℕ). ys ++ take c.min.result rest) c.in_ok-page.ensures.items in
    c.in_ok-resize.ensures.items ∙ ap (λ (n : ℕ). take 4096 all.items ++ replicate (4096 - n) 0) all.ok.0 ∙ ap (λ (ys : List ℕ). take 4096 ys ++ replicate (4096 - length ys) 0) (got ∙ ap (take c.min.result) rest_is)
    ∙ page-of_bytes xs c.min.result (omega (arith, c.min.ensures, length-take (length c.args.bytes.now - c.args.at) xs))
