use Rattle.std.proofs.Common.{◌≡◌, ℕ, List, Option, None, ◌∙◌, ap, sym, subst, set}
use Rattle.std.specs.Prelude.{IsSome, option_map}
use Rattle.std.proofs.lemmas.List.{get_or-set_same, set-set}
use Rattle.core_arena.specs.Bytes.{bytes_at}
use Rattle.core_arena.specs.Seen.{CoreSeen}
use Rattle.page_store.specs.Bytes.{clip}
use Rattle.page_store.proofs.QueryLemmas.{some-within}
use Rattle.page_store.proofs.frames.copy_front.Goals.{After-copy_frame}
use Rattle.page_store.proofs.frames.copy_front.Goals as goal

-- the frame has the other one's bytes
copied : (c : After-copy_frame) → bytes_at c.copy_frame.new.core.frames c.args.to ≡ bytes_at c.args.core.now.frames c.args.from
copied c = ap (λ (v : CoreSeen). bytes_at v.frames c.args.to) c.copy_frame.ensures ∙ get_or-set_same c.args.core.now.frames c.args.to (bytes_at c.args.core.now.frames c.args.from) None (some-within c.args.core.now.frames c.args.to c.requires.to)

pub clear_end-requires-clause-home : goal.clear_end-requires-clause-home
clear_end-requires-clause-home c = subst IsSome (sym (copied (goal.at.clear_end-requires-clause-home c).After-copy_frame)) c.requires.from

pub returns : goal.returns
returns c =
    let frames = c.args.core.now.frames in
    c.clear_end.ensures
    ∙ ap (λ (o : Option (List ℕ)). record c.copy_frame.new.core { frames = set c.copy_frame.new.core.frames c.args.to (option_map (clip c.args.valid) o) }) (copied (goal.at.returns c).After-copy_frame)
    ∙ ap (λ (v : CoreSeen). record v { frames = set v.frames c.args.to (option_map (clip c.args.valid) (bytes_at frames c.args.from)) }) c.copy_frame.ensures
    ∙ ap (λ (fs : List (Option (List ℕ))). record c.args.core.now { frames = fs }) (set-set frames c.args.to (bytes_at frames c.args.from) (option_map (clip c.args.valid) (bytes_at frames c.args.from)))
