use Rattle.std.proofs.Common.{◌≡◌, arith, ◌∙◌, ap, ℕ}
use Rattle.std.specs.List.{range_with_len}
use Rattle.page_lists.specs.Lists.{AreSoundLists}
use Rattle.page_lists.proofs.ListsLemmas.{range-ends, range-pushed, lists-new}
use Rattle.page_lists.proofs.PageLists.new.Goals as goal
use Rattle.page_lists.proofs.PageLists.new.Goals.{After-loop-frame}

pub push_back-requires-clause-absent : goal.push_back-requires-clause-absent
push_back-requires-clause-absent c = range-ends c.loop-frame.free c.args.frames c.loop-frame.frame c.loop-frame.invariant.free

pub loop-frame-preserved : goal.loop-frame-preserved
loop-frame-preserved c = record {
  free = range-pushed c.loop-frame.free c.push_back.new.self c.args.frames c.loop-frame.frame c.loop-frame.invariant.free c.push_back.ensures.new;
  cached = c.loop-frame.invariant.cached;
}

whole : (c : After-loop-frame) → AreSoundLists c.loop-frame.free c.in_ok-cached.cached
whole c =
    let all : c.loop-frame.frame ≡ c.args.frames = omega arith in
    lists-new c.loop-frame.free c.in_ok-cached.cached c.args.frames (c.loop-frame.invariant.free ∙ ap
    (λ (n : ℕ). record { frames = c.args.frames; order = range_with_len 0 n }) all) c.loop-frame.invariant.cached

pub invariant_of-result : goal.invariant_of-result
invariant_of-result c = whole (goal.at.invariant_of-result c).After-loop-frame

pub returns-clause-apart : goal.returns-clause-apart
returns-clause-apart c = (whole (goal.at.returns-clause-apart c).After-loop-frame).apart
