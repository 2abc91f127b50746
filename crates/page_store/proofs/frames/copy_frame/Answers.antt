use Rattle.std.proofs.Common.{◌≡◌, ℕ, List, Option, Some, None, ◌∙◌, ap, sym, set}
use Rattle.std.proofs.lemmas.List.{set-get_or, set-set}
use Rattle.core_arena.specs.Bytes.{bytes_at}
use Rattle.core_arena.specs.Seen.{CoreSeen}
use Rattle.page_store.proofs.frames.copy_frame.Goals as goal

pub returns-then-from-to : goal.returns-then-from-to
returns-then-from-to c =
    let frames = c.args.core.now.frames in
    c.put.ensures.new
    ∙ ap (λ (v : CoreSeen). record v { frames = set v.frames c.take_copy-frame.result.number (Some c.take_copy-frame.result.bytes) }) c.take_copy-frame.ensures.new
    ∙ ap (λ (k : ℕ). record c.args.core.now { frames = set (set frames c.args.to None) k (Some c.take_copy-frame.result.bytes) }) c.take_copy-frame.ensures.number
    ∙ ap (λ (o : Option (List ℕ)). record c.args.core.now { frames = set (set frames c.args.to None) c.args.to o }) (sym c.take_copy-frame.ensures.bytes)
    ∙ ap (λ (fs : List (Option (List ℕ))). record c.args.core.now { frames = fs }) (set-set frames c.args.to None (bytes_at frames c.args.from))
