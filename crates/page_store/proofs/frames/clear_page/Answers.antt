use Rattle.std.proofs.Common.{ℕ, List, ◌++◌, ◌∙◌, ap, drop, replicate}
use Rattle.std.proofs.lemmas.List.{length-replicate, replicate-append-replicate, take_at}
use Rattle.page_store.specs.Bytes.{clip}
use Rattle.page_store.proofs.frames.clear_page.Goals as goal

pub returns : goal.returns
returns c =
    c.cut_at.ensures
    ∙ ap (λ (page : List ℕ). clip 2048 page) c.clear_front.ensures.front
    ∙ ap (λ (front : List ℕ). front ++ replicate 2048 0) (take_at (replicate 2048 0) (drop 2048 c.args.page.now) 2048 (length-replicate {A = ℕ} 2048 0))
    ∙ replicate-append-replicate 2048 2048 0
