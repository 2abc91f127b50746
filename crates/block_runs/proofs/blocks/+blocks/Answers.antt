use Rattle.std.proofs.Common.{rules, arith, ◌≡◌, ◌+◌, ◌++◌, true, false, [], ◌∷◌, length, refl, sym, ap, ◌∙◌, subst}
use Rattle.std.specs.Prelude.{drop, slice_set, slice_index_or}
use Rattle.std.proofs.lemmas.Bool.{false≢true}
use Rattle.vm_script.specs.declared.plan.PlanAct.TheVariants as act
use Rattle.vm_script.proofs.Ranges as Ranges
use Rattle.vm_kernel.specs.Callers.{CallerSeen, IsCallerOf}
use Rattle.vm_kernel.specs.Turns.{MayCall, SeesBirth}
use Rattle.block_runs.specs.declared.blocks.Stretch.{Stretch}
use Rattle.block_runs.specs.Rows.{IsChildBorn, IsStretch, BothEnd, BlockEnds, EndsAtWait}
use Rattle.block_runs.proofs.KernelCalls.{call_lacked, told_more}
use Rattle.block_runs.proofs.Goings.{may_make}
use Rattle.block_runs.proofs.NextLines.{first_is}
use Rattle.block_runs.proofs.Stretching.{GoesOn, go_start, go_stretch, go_more, go_line, go_refused, fork_here, fork_done, may_fork, ahead, forked, fork_of_step, line_of, wait_of, set_first, same_first, at_line}
use Rattle.block_runs.proofs.Joining.{both_child, both_parent, first_after, both_met, fork_stretch}
use Rattle.block_runs.proofs.Over.{Between, between_first, between_way, between_end, between_wait, between_ends, ends_block, not_empty, is_none, empty_none, not_true, not_false}
use Rattle.block_runs.specs.Lines.{ends_in}
use Rattle.vm_script.specs.flat_model.Births.{is_done}
use Rattle.vm_script.specs.vm_types.declared.call.Call.TheVariants as call
use mathlib.Core.List.{IsPrefix}
use Rattle.block_runs.proofs.blocks.+blocks.Goals as goal

pub run_block-loop-left-init : goal.run_block-loop-left-init
run_block-loop-left-init g t c =
    between_first (g.K.Calls.kernel c.args.kernel.now) c.in-Some.caller.now c.args.lines.now c.args.row.now c.in-Some.rest.now c.first_process-first.result c.requires c.in-Some.ensures.cases.0 c.first_process-first.ensures

pub run_block-overflow_add-first : goal.run_block-overflow_add-first
run_block-overflow_add-first g t c =
    let e = c.first_process-first.ensures in
    let few = c.requires.few in
    let first = first_is (g.K.Calls.kernel c.args.kernel.now).opening.parents c.requires.first.process (c.requires.first.process + 1) (c.requires.first.process + 1 + length c.requires.rest) c.args.lines.now c.requires.block in
    omega (arith, e, few, first)

pub run_block-run_stretch-stretch-requires-after_bounds : goal.run_block-run_stretch-stretch-requires-after_bounds
run_block-run_stretch-stretch-requires-after_bounds g t c κs within =
    let h = c.loop-left.invariant in
    let cut = c.split_at_mut-later.ensures in
    let at : c.first_process-first.result + 1 + length c.split_at_mut-later.result.0.now ≡ c.loop-left.next = let a = cut.front_len in let b = h.count in omega (arith, a, b) in
    between_way (g.K.Calls.kernel c.args.kernel.now) c.in-Some.caller.now c.loop-left.caller c.args.lines.now c.loop-left.left.now c.loop-left.rest (c.first_process-first.result + 1) c.loop-left.next (length c.in-Some.rest.now) h
    (not_empty c.loop-left.left.now c.is_empty.result c.loop-left-test.true c.is_empty.ensures) c.split_at_mut-later.result.0.now c.split_at_mut-later.result.1.now cut.value at

pub run_block-returns-then-not-stretch : goal.run_block-returns-then-not-stretch
run_block-returns-then-not-stretch g t c =
    let h = c.loop-left.invariant in
    let cut = c.split_at_mut-later.ensures in
    let at : c.first_process-first.result + 1 + length c.split_at_mut-later.result.0.now ≡ c.loop-left.next = let a = cut.front_len in let b = h.count in omega (arith, a, b) in
    let no' : c.run_stretch-stretch.result.whole ≡ false = not_true c.run_stretch-stretch.result.whole c.if-not-stretch.true in
    let over = ends_block (g.K.Calls.kernel c.args.kernel.now) c.in-Some.caller.now c.loop-left.caller c.run_stretch-stretch.new.caller c.args.lines.now c.loop-left.left.now (drop c.run_stretch-stretch.result.passed c.loop-left.left.now) c.loop-left.rest c.split_at_mut-later.result.0.now c.split_at_mut-later.result.1.now c.run_stretch-stretch.new.rest (c.first_process-first.result + 1) c.loop-left.next c.run_stretch-stretch.result.next (length c.in-Some.rest.now) c.run_stretch-stretch.result.whole h cut.value at c.run_stretch-stretch.ensures.ends
    c.args.row.now c.in-Some.rest.now c.in-Some.ensures.cases.0 refl (λ is. absurd (false≢true (sym no' ∙ is))) in
    subst (λ b. BlockEnds (g.K.Calls.kernel c.args.kernel.now) b c.args.lines.now c.args.row.now (c.run_stretch-stretch.new.caller ∷ (c.split_at_mut-later.result.0.now ++ c.run_stretch-stretch.new.rest))) no' over

pub run_block-loop-left-preserved-in-None : goal.run_block-loop-left-preserved-in-None
run_block-loop-left-preserved-in-None g t c =
    let h = c.loop-left.invariant in
    let cut = c.split_at_mut-later.ensures in
    let at : c.first_process-first.result + 1 + length c.split_at_mut-later.result.0.now ≡ c.loop-left.next = let a = cut.front_len in let b = h.count in omega (arith, a, b) in
    let none : c.split_at.result.1.now ≡ [] = is_none c.split_at.result.1.now c.in-None.ensures.cases in
    subst (λ ls. Between (g.K.Calls.kernel c.args.kernel.now) c.in-Some.caller.now c.run_stretch-stretch.new.caller c.args.lines.now ls (c.split_at_mut-later.result.0.now ++ c.run_stretch-stretch.new.rest) (c.first_process-first.result + 1) c.run_stretch-stretch.result.next (length c.in-Some.rest.now)) (sym none)
    (between_end (g.K.Calls.kernel c.args.kernel.now) c.in-Some.caller.now c.loop-left.caller c.run_stretch-stretch.new.caller c.args.lines.now c.loop-left.left.now (drop c.run_stretch-stretch.result.passed c.loop-left.left.now) c.loop-left.rest c.split_at_mut-later.result.0.now c.split_at_mut-later.result.1.now c.run_stretch-stretch.new.rest (c.first_process-first.result + 1) c.loop-left.next c.run_stretch-stretch.result.next (length c.in-Some.rest.now) c.run_stretch-stretch.result.whole h cut.value at c.run_stretch-stretch.ensures.ends
    (not_false c.run_stretch-stretch.result.whole c.if-not-stretch.false) (sym c.split_at.ensures.back ∙ none))

pub run_block-loop-left-preserved : goal.run_block-loop-left-preserved
run_block-loop-left-preserved g t c =
    let h = c.loop-left.invariant in
    let cut = c.split_at_mut-later.ensures in
    let at : c.first_process-first.result + 1 + length c.split_at_mut-later.result.0.now ≡ c.loop-left.next = let a = cut.front_len in let b = h.count in omega (arith, a, b) in
    let line = sym c.split_at.ensures.back ∙ c.in-Some-split_first.ensures.cases.0 in
    let wait : c.in-Some-split_first._wait.now.act ≡ act.Wait = subst EndsAtWait line (c.run_stretch-stretch.ensures.wait (not_false c.run_stretch-stretch.result.whole c.if-not-stretch.false)) in
    between_wait (g.K.Calls.kernel c.args.kernel.now) c.in-Some.caller.now c.loop-left.caller c.run_stretch-stretch.new.caller c.args.lines.now c.loop-left.left.now (drop c.run_stretch-stretch.result.passed c.loop-left.left.now) c.loop-left.rest c.split_at_mut-later.result.0.now c.split_at_mut-later.result.1.now c.run_stretch-stretch.new.rest (c.first_process-first.result + 1) c.loop-left.next c.run_stretch-stretch.result.next (length c.in-Some.rest.now) c.run_stretch-stretch.result.whole h cut.value at c.run_stretch-stretch.ensures.ends
    c.in-Some-split_first._wait.now c.in-Some-split_first.behind.now (not_false c.run_stretch-stretch.result.whole c.if-not-stretch.false) line wait

pub run_block-returns : goal.run_block-returns
run_block-returns g t c =
    let none : c.loop-left.left.now ≡ [] = empty_none c.loop-left.left.now c.is_empty.result c.loop-left-test.false c.is_empty.ensures in
    between_ends (g.K.Calls.kernel c.args.kernel.now) c.in-Some.caller.now c.loop-left.caller c.args.lines.now c.loop-left.rest (c.first_process-first.result + 1) c.loop-left.next (length c.in-Some.rest.now)
    (subst (λ ls. Between (g.K.Calls.kernel c.args.kernel.now) c.in-Some.caller.now c.loop-left.caller c.args.lines.now ls c.loop-left.rest (c.first_process-first.result + 1) c.loop-left.next (length c.in-Some.rest.now)) none c.loop-left.invariant)
    c.args.row.now c.in-Some.rest.now c.in-Some.ensures.cases.0 refl

pub run_both-overflow_sub-after : goal.run_both-overflow_sub-after
run_both-overflow_sub-after g t c =
    let up = (Ranges.within (g.K.Calls.kernel c.args.kernel.now).opening.parents c.args.next (c.args.next + 1) c.args.after c.args.inside.now c.requires.inside_is).up in
    omega (arith, up)

pub run_both-split_at_mut-child-requires : goal.run_both-split_at_mut-child-requires
run_both-split_at_mut-child-requires g t c =
    let up = (Ranges.within (g.K.Calls.kernel c.args.kernel.now).opening.parents c.args.caller.now.process c.args.after (c.args.next + length c.args.rest.now) c.args.others.now c.requires.others_are).up in
    omega (arith, up)

pub run_both-join_mut-ended-requires-after_bounds : goal.run_both-join_mut-ended-requires-after_bounds
run_both-join_mut-ended-requires-after_bounds g t c κs within =
    let up = (Ranges.within (g.K.Calls.kernel c.args.kernel.now).opening.parents c.args.next (c.args.next + 1) c.args.after c.args.inside.now c.requires.inside_is).up in
    let cut = c.split_at_mut-child.ensures in
    let front = c.split_at_mut-child.result.0.now in
    let back = c.split_at_mut-child.result.1.now in
    let long : c.args.next + length front ≡ c.args.after = let a = cut.front_len in omega (arith, a, up) in
    let child = both_child (g.K.Calls.kernel c.args.kernel.now) c.args.inside.now c.args.others.now c.args.caller.now c.args.rest.now c.args.next c.args.after c.requires front back cut.value long in
    let parent = both_parent (g.K.Calls.kernel c.args.kernel.now) c.args.inside.now c.args.others.now c.args.caller.now c.args.rest.now c.args.next c.args.after c.requires front back cut.value long in
    search (rules, c.requires-raw.1.1.1.0, c.requires-raw.1.1.1.1.0, c.requires-raw.1.1.1.1.1.0, c.requires-raw.1.1.1.1.1.1)

pub run_both-wait_for-requires : goal.run_both-wait_for-requires
run_both-wait_for-requires g t c =
    let up = (Ranges.within (g.K.Calls.kernel c.args.kernel.now).opening.parents c.args.next (c.args.next + 1) c.args.after c.args.inside.now c.requires.inside_is).up in
    let cut = c.split_at_mut-child.ensures in
    let front = c.split_at_mut-child.result.0.now in
    let back = c.split_at_mut-child.result.1.now in
    let long : c.args.next + length front ≡ c.args.after = let a = cut.front_len in omega (arith, a, up) in
    let front' = c.child-1.given.0 in
    let back' = c.later-1.given.0 in
    let x = c.caller-1.given.0 in
    let child-is : c.child-1.given.0 ≡ c.join_mut-ended.new.f.4.now = search rules in
    let later-is : c.later-1.given.0 ≡ c.join_mut-ended.new.g.5.now = search rules in
    let caller-is : c.caller-1.given.0 ≡ c.join_mut-ended.new.g.4.now = search rules in
    let child : BlockEnds (g.K.Calls.kernel c.args.kernel.now) c.join_mut-ended.result.0 c.args.inside.now front front' =
    subst (λ vs. BlockEnds (g.K.Calls.kernel c.args.kernel.now) c.join_mut-ended.result.0 c.args.inside.now front vs) (sym child-is) c.join_mut-ended.ensures.0.met.1 in
    let parent : IsStretch (g.K.Calls.kernel c.args.kernel.now) c.join_mut-ended.result.1 c.args.caller.now x c.args.others.now back back' c.args.after =
    subst (λ v. IsStretch (g.K.Calls.kernel c.args.kernel.now) c.join_mut-ended.result.1 c.args.caller.now v c.args.others.now back back' c.args.after) (sym caller-is)
    (subst (λ vs. IsStretch (g.K.Calls.kernel c.args.kernel.now) c.join_mut-ended.result.1 c.args.caller.now c.join_mut-ended.new.g.4.now c.args.others.now back vs c.args.after) (sym later-is) c.join_mut-ended.ensures.1.met.1) in
    let f = first_after (g.K.Calls.kernel c.args.kernel.now) c.join_mut-ended.result.0 c.args.inside.now c.args.others.now c.args.caller.now c.args.rest.now c.args.next c.args.after c.requires front back front' cut.value child in
    let used = set_first front' f.child f.rest c.index-child-0.result f.child f.is in
    record { callers = (subst (λ (v : CallerSeen). IsCallerOf (g.K.Calls.kernel c.args.kernel.now) v) (sym used.0) f.caller.of, parent.ends.caller.of) }

pub run_both-returns : goal.run_both-returns
run_both-returns g t c =
    let up = (Ranges.within (g.K.Calls.kernel c.args.kernel.now).opening.parents c.args.next (c.args.next + 1) c.args.after c.args.inside.now c.requires.inside_is).up in
    let cut = c.split_at_mut-child.ensures in
    let front = c.split_at_mut-child.result.0.now in
    let back = c.split_at_mut-child.result.1.now in
    let long : c.args.next + length front ≡ c.args.after = let a = cut.front_len in omega (arith, a, up) in
    let front' = c.child-1.given.0 in
    let back' = c.later-1.given.0 in
    let x = c.caller-1.given.0 in
    let child-is : c.child-1.given.0 ≡ c.join_mut-ended.new.f.4.now = search rules in
    let later-is : c.later-1.given.0 ≡ c.join_mut-ended.new.g.5.now = search rules in
    let caller-is : c.caller-1.given.0 ≡ c.join_mut-ended.new.g.4.now = search rules in
    let child : BlockEnds (g.K.Calls.kernel c.args.kernel.now) c.join_mut-ended.result.0 c.args.inside.now front front' =
    subst (λ vs. BlockEnds (g.K.Calls.kernel c.args.kernel.now) c.join_mut-ended.result.0 c.args.inside.now front vs) (sym child-is) c.join_mut-ended.ensures.0.met.1 in
    let parent : IsStretch (g.K.Calls.kernel c.args.kernel.now) c.join_mut-ended.result.1 c.args.caller.now x c.args.others.now back back' c.args.after =
    subst (λ v. IsStretch (g.K.Calls.kernel c.args.kernel.now) c.join_mut-ended.result.1 c.args.caller.now v c.args.others.now back back' c.args.after) (sym caller-is)
    (subst (λ vs. IsStretch (g.K.Calls.kernel c.args.kernel.now) c.join_mut-ended.result.1 c.args.caller.now c.join_mut-ended.new.g.4.now c.args.others.now back vs c.args.after) (sym later-is) c.join_mut-ended.ensures.1.met.1) in
    let f = first_after (g.K.Calls.kernel c.args.kernel.now) c.join_mut-ended.result.0 c.args.inside.now c.args.others.now c.args.caller.now c.args.rest.now c.args.next c.args.after c.requires front back front' cut.value child in
    let used = set_first front' f.child f.rest c.index-child-0.result c.wait_for.new.child f.is in
    let met = c.wait_for.ensures in
    let saw : IsPrefix f.child.seat.seen c.wait_for.new.parent.seat.seen = subst (λ (v : CallerSeen). IsPrefix v.seat.seen c.wait_for.new.parent.seat.seen) used.0 met.seen in
    let s : Stretch = record { passed = c.join_mut-ended.result.1.passed; next = c.join_mut-ended.result.1.next; whole = c.both.result } in
    subst (λ vs. BothEnd (g.K.Calls.kernel c.args.kernel.now) s c.args.caller.now c.wait_for.new.parent c.args.inside.now c.args.others.now c.args.rest.now (vs ++ back') c.args.next)
    (sym (same_first front' f.child f.rest c.index-child-0.result c.wait_for.new.child f.is met.child))
    (both_met (g.K.Calls.kernel c.args.kernel.now) c.args.inside.now c.args.others.now c.args.caller.now c.args.rest.now c.args.next c.args.after c.requires front back front' back' cut.value long c.join_mut-ended.result.0 c.join_mut-ended.result.1 x child parent f c.wait_for.new.parent c.both.result met.parent met.callers.1 saw c.both.ensures.one c.both.ensures.two)

pub run_stretch-loop-line-init : goal.run_stretch-loop-line-init
run_stretch-loop-line-init g t c =
    record { rest = refl; on = go_start (g.K.Calls.kernel c.args.kernel.now) c.args.caller.now c.args.lines.now c.args.rest.now c.args.next c.requires }

pub run_stretch-returns-then-load : goal.run_stretch-returns-then-load
run_stretch-returns-then-load g t c =
    go_stretch (g.K.Calls.kernel c.args.kernel.now) c.args.caller.now c.loop-line.caller c.args.lines.now c.loop-line.left.now c.args.rest.now c.loop-line.rest c.args.next c.loop-line.next false c.requires c.loop-line.invariant.on c.loop-line.invariant.rest
    (λ w. absurd (false≢true w))

pub run_stretch-returns-in-Wait : goal.run_stretch-returns-in-Wait
run_stretch-returns-in-Wait g t c =
    let wait = wait_of c.in-Some.line.now.act (sym c.step_of.ensures ∙ c.in-Wait.is) in
    go_stretch (g.K.Calls.kernel c.args.kernel.now) c.args.caller.now c.loop-line.caller c.args.lines.now c.loop-line.left.now c.args.rest.now c.loop-line.rest c.args.next c.loop-line.next true c.requires c.loop-line.invariant.on c.loop-line.invariant.rest
    (λ w. subst EndsAtWait (sym c.in-Some.ensures.cases.0) wait)

pub run_stretch-ends_in-requires : goal.run_stretch-ends_in-requires
run_stretch-ends_in-requires g t c =
    let h = c.loop-line.invariant in
    let here = fork_of_step c.in-Some.line.now.act (sym c.step_of.ensures ∙ c.in-Fork.is) in
    let f = fork_here (g.K.Calls.kernel c.args.kernel.now) c.args.caller.now c.loop-line.caller c.args.lines.now c.loop-line.left.now c.in-Some.behind.now c.parted.result.0.now c.parted.result.1.now c.in-Some.line.now c.args.rest.now c.args.next c.loop-line.next here.0 h.on c.in-Some.ensures.cases.0 here.1 c.parted.ensures.whole c.parted.ensures.from in
    let fits = f.at.fits in
    let few = c.requires.few in
    omega (arith, fits, few)

pub run_stretch-overflow_add-after : goal.run_stretch-overflow_add-after
run_stretch-overflow_add-after g t c =
    let h = c.loop-line.invariant in
    let here = fork_of_step c.in-Some.line.now.act (sym c.step_of.ensures ∙ c.in-Fork.is) in
    let f = fork_here (g.K.Calls.kernel c.args.kernel.now) c.args.caller.now c.loop-line.caller c.args.lines.now c.loop-line.left.now c.in-Some.behind.now c.parted.result.0.now c.parted.result.1.now c.in-Some.line.now c.args.rest.now c.args.next c.loop-line.next here.0 h.on c.in-Some.ensures.cases.0 here.1 c.parted.ensures.whole c.parted.ensures.from in
    let fits = f.at.fits in
    let few = c.requires.few in
    let e = c.ends_in.ensures in omega (arith, fits, few, e)

pub run_stretch-bounds-later-0 : goal.run_stretch-bounds-later-0
run_stretch-bounds-later-0 g t c =
    let h = c.loop-line.invariant in
    let here = fork_of_step c.in-Some.line.now.act (sym c.step_of.ensures ∙ c.in-Fork.is) in
    let f = fork_here (g.K.Calls.kernel c.args.kernel.now) c.args.caller.now c.loop-line.caller c.args.lines.now c.loop-line.left.now c.in-Some.behind.now c.parted.result.0.now c.parted.result.1.now c.in-Some.line.now c.args.rest.now c.args.next c.loop-line.next here.0 h.on c.in-Some.ensures.cases.0 here.1 c.parted.ensures.whole c.parted.ensures.from in
    let fits = f.at.fits in
    let few = c.requires.few in
    let count = h.on.count in
    let front = c.split_at_mut-later.result.0.now in
    let later = c.split_at_mut-later.result.1.now in
    let at : c.args.next + length front ≡ c.loop-line.next = let a = c.split_at_mut-later.ensures.front_len in omega (arith, a, count) in
    let cut : c.args.rest.now ≡ front ++ later = sym h.rest ∙ c.split_at_mut-later.ensures.value in
    let a = ahead (g.K.Calls.kernel c.args.kernel.now) c.args.caller.now c.loop-line.caller c.args.lines.now c.loop-line.left.now c.in-Some.behind.now c.parted.result.0.now c.parted.result.1.now c.in-Some.line.now c.args.rest.now front later c.args.next c.loop-line.next c.requires h.on f cut at in
    let long : length later ≡ length (a.child ∷ a.rest) = ap length a.is in omega (arith, long)

pub run_stretch-fork-requires-clause-callers : goal.run_stretch-fork-requires-clause-callers
run_stretch-fork-requires-clause-callers g t c =
    let h = c.loop-line.invariant in
    let here = fork_of_step c.in-Some.line.now.act (sym c.step_of.ensures ∙ c.in-Fork.is) in
    let f = fork_here (g.K.Calls.kernel c.args.kernel.now) c.args.caller.now c.loop-line.caller c.args.lines.now c.loop-line.left.now c.in-Some.behind.now c.parted.result.0.now c.parted.result.1.now c.in-Some.line.now c.args.rest.now c.args.next c.loop-line.next here.0 h.on c.in-Some.ensures.cases.0 here.1 c.parted.ensures.whole c.parted.ensures.from in
    let fits = f.at.fits in
    let few = c.requires.few in
    let count = h.on.count in
    let front = c.split_at_mut-later.result.0.now in
    let later = c.split_at_mut-later.result.1.now in
    let at : c.args.next + length front ≡ c.loop-line.next = let a = c.split_at_mut-later.ensures.front_len in omega (arith, a, count) in
    let cut : c.args.rest.now ≡ front ++ later = sym h.rest ∙ c.split_at_mut-later.ensures.value in
    let a = ahead (g.K.Calls.kernel c.args.kernel.now) c.args.caller.now c.loop-line.caller c.args.lines.now c.loop-line.left.now c.in-Some.behind.now c.parted.result.0.now c.parted.result.1.now c.in-Some.line.now c.args.rest.now front later c.args.next c.loop-line.next c.requires h.on f cut at in
    let used = set_first later a.child a.rest c.index-later-0.result a.child a.is in
    (h.on.caller.of, subst (λ (v : CallerSeen). IsCallerOf (g.K.Calls.kernel c.args.kernel.now) v) (sym used.0) a.caller.of)

pub run_stretch-fork-requires-clause-may : goal.run_stretch-fork-requires-clause-may
run_stretch-fork-requires-clause-may g t c =
    let h = c.loop-line.invariant in
    let here = fork_of_step c.in-Some.line.now.act (sym c.step_of.ensures ∙ c.in-Fork.is) in
    let f = fork_here (g.K.Calls.kernel c.args.kernel.now) c.args.caller.now c.loop-line.caller c.args.lines.now c.loop-line.left.now c.in-Some.behind.now c.parted.result.0.now c.parted.result.1.now c.in-Some.line.now c.args.rest.now c.args.next c.loop-line.next here.0 h.on c.in-Some.ensures.cases.0 here.1 c.parted.ensures.whole c.parted.ensures.from in
    let fits = f.at.fits in
    let few = c.requires.few in
    let count = h.on.count in
    let front = c.split_at_mut-later.result.0.now in
    let later = c.split_at_mut-later.result.1.now in
    let at : c.args.next + length front ≡ c.loop-line.next = let a = c.split_at_mut-later.ensures.front_len in omega (arith, a, count) in
    let cut : c.args.rest.now ≡ front ++ later = sym h.rest ∙ c.split_at_mut-later.ensures.value in
    let a = ahead (g.K.Calls.kernel c.args.kernel.now) c.args.caller.now c.loop-line.caller c.args.lines.now c.loop-line.left.now c.in-Some.behind.now c.parted.result.0.now c.parted.result.1.now c.in-Some.line.now c.args.rest.now front later c.args.next c.loop-line.next c.requires h.on f cut at in
    let used = set_first later a.child a.rest c.index-later-0.result a.child a.is in
    subst (λ k. MayCall (g.K.Calls.kernel c.args.kernel.now) c.loop-line.caller (call.Fork k)) (sym (ap (λ (v : CallerSeen). v.process) used.0 ∙ a.number))
    (may_fork (g.K.Calls.kernel c.args.kernel.now) c.args.caller.now c.loop-line.caller c.args.lines.now c.loop-line.left.now c.in-Some.behind.now c.parted.result.0.now c.parted.result.1.now c.in-Some.line.now c.args.rest.now c.args.next c.loop-line.next c.requires h.on c.in-Some.ensures.cases.0 f)

pub run_stretch-returns-in-Err : goal.run_stretch-returns-in-Err
run_stretch-returns-in-Err g t c =
    let h = c.loop-line.invariant in
    let here = fork_of_step c.in-Some.line.now.act (sym c.step_of.ensures ∙ c.in-Fork.is) in
    let f = fork_here (g.K.Calls.kernel c.args.kernel.now) c.args.caller.now c.loop-line.caller c.args.lines.now c.loop-line.left.now c.in-Some.behind.now c.parted.result.0.now c.parted.result.1.now c.in-Some.line.now c.args.rest.now c.args.next c.loop-line.next here.0 h.on c.in-Some.ensures.cases.0 here.1 c.parted.ensures.whole c.parted.ensures.from in
    let fits = f.at.fits in
    let few = c.requires.few in
    let count = h.on.count in
    let front = c.split_at_mut-later.result.0.now in
    let later = c.split_at_mut-later.result.1.now in
    let at : c.args.next + length front ≡ c.loop-line.next = let a = c.split_at_mut-later.ensures.front_len in omega (arith, a, count) in
    let cut : c.args.rest.now ≡ front ++ later = sym h.rest ∙ c.split_at_mut-later.ensures.value in
    let a = ahead (g.K.Calls.kernel c.args.kernel.now) c.args.caller.now c.loop-line.caller c.args.lines.now c.loop-line.left.now c.in-Some.behind.now c.parted.result.0.now c.parted.result.1.now c.in-Some.line.now c.args.rest.now front later c.args.next c.loop-line.next c.requires h.on f cut at in
    let err = c.in-Err.ensures in
    let lacked = call_lacked (g.K.Calls.kernel c.args.kernel.now) c.loop-line.caller c.fork.new.parent _ h.on.caller err.callers.0 err.goes err.err in
    let row = ap (λ vs. front ++ vs) (same_first later a.child a.rest c.index-later-0.result c.fork.new.child a.is err.unborn) ∙ sym cut in
    go_stretch (g.K.Calls.kernel c.args.kernel.now) c.args.caller.now c.fork.new.parent c.args.lines.now c.loop-line.left.now c.args.rest.now (front ++ slice_set later 0 c.fork.new.child) c.args.next c.loop-line.next false c.requires (go_more (g.K.Calls.kernel c.args.kernel.now) c.args.caller.now c.loop-line.caller c.fork.new.parent c.args.lines.now c.loop-line.left.now c.args.rest.now c.args.next c.loop-line.next h.on lacked.0 lacked.1) row
    (λ w. absurd (false≢true w))

pub run_stretch-run_both-on-requires-after_bounds : goal.run_stretch-run_both-on-requires-after_bounds
run_stretch-run_both-on-requires-after_bounds g t c κs within =
    let h = c.loop-line.invariant in
    let here = fork_of_step c.in-Some.line.now.act (sym c.step_of.ensures ∙ c.in-Fork.is) in
    let f = fork_here (g.K.Calls.kernel c.args.kernel.now) c.args.caller.now c.loop-line.caller c.args.lines.now c.loop-line.left.now c.in-Some.behind.now c.parted.result.0.now c.parted.result.1.now c.in-Some.line.now c.args.rest.now c.args.next c.loop-line.next here.0 h.on c.in-Some.ensures.cases.0 here.1 c.parted.ensures.whole c.parted.ensures.from in
    let fits = f.at.fits in
    let few = c.requires.few in
    let count = h.on.count in
    let front = c.split_at_mut-later.result.0.now in
    let later = c.split_at_mut-later.result.1.now in
    let at : c.args.next + length front ≡ c.loop-line.next = let a = c.split_at_mut-later.ensures.front_len in omega (arith, a, count) in
    let cut : c.args.rest.now ≡ front ++ later = sym h.rest ∙ c.split_at_mut-later.ensures.value in
    let a = ahead (g.K.Calls.kernel c.args.kernel.now) c.args.caller.now c.loop-line.caller c.args.lines.now c.loop-line.left.now c.in-Some.behind.now c.parted.result.0.now c.parted.result.1.now c.in-Some.line.now c.args.rest.now front later c.args.next c.loop-line.next c.requires h.on f cut at in
    let used = set_first later a.child a.rest c.index-later-0.result c.fork.new.child a.is in
    let ok = c.in-Ok.ensures in
    let made = fork_done (g.K.Calls.kernel c.args.kernel.now) c.loop-line.caller c.fork.new.parent _ c.loop-line.next c.in-Ok.reply (ap (λ (v : CallerSeen). v.process) used.0 ∙ a.number) h.on.caller ok.callers.0 ok.goes ok.done in
    let done : is_done c.in-Ok.reply ≡ true = sym c.is_done.ensures ∙ c.if-is_done.true in
    let born = subst (λ v. SeesBirth true c.fork.new.parent v c.fork.new.child) used.0 (subst (λ b. SeesBirth b c.fork.new.parent (slice_index_or later 0 c.index-later-0.result) c.fork.new.child) done ok.child) in
    let saw = told_more (g.K.Calls.kernel c.args.kernel.now) a.child c.fork.new.child a.caller ok.callers.1 born.0 in
    let ready = forked (g.K.Calls.kernel c.args.kernel.now) c.args.caller.now c.loop-line.caller c.fork.new.parent c.args.lines.now c.loop-line.left.now c.in-Some.behind.now c.parted.result.0.now c.parted.result.1.now c.in-Some.line.now c.args.rest.now front later c.args.next c.loop-line.next c.in-Ok.reply c.requires h.on f cut at a c.fork.new.child
    c.in-Some.ensures.cases.0 saw.0 saw.1 born.1 made.made made.caller done in
    subst (λ n. IsChildBorn (g.K.Calls.kernel c.args.kernel.now) c.parted.result.0.now c.parted.result.1.now c.fork.new.parent (slice_set later 0 c.fork.new.child) c.loop-line.next (c.loop-line.next + n)) (sym c.ends_in.ensures)
    (subst (λ vs. IsChildBorn (g.K.Calls.kernel c.args.kernel.now) c.parted.result.0.now c.parted.result.1.now c.fork.new.parent vs c.loop-line.next (c.loop-line.next + ends_in c.parted.result.0.now)) (sym used.1) ready)

pub run_stretch-returns-then-is_done : goal.run_stretch-returns-then-is_done
run_stretch-returns-then-is_done g t c =
    let h = c.loop-line.invariant in
    let here = fork_of_step c.in-Some.line.now.act (sym c.step_of.ensures ∙ c.in-Fork.is) in
    let f = fork_here (g.K.Calls.kernel c.args.kernel.now) c.args.caller.now c.loop-line.caller c.args.lines.now c.loop-line.left.now c.in-Some.behind.now c.parted.result.0.now c.parted.result.1.now c.in-Some.line.now c.args.rest.now c.args.next c.loop-line.next here.0 h.on c.in-Some.ensures.cases.0 here.1 c.parted.ensures.whole c.parted.ensures.from in
    let fits = f.at.fits in
    let few = c.requires.few in
    let count = h.on.count in
    let front = c.split_at_mut-later.result.0.now in
    let later = c.split_at_mut-later.result.1.now in
    let at : c.args.next + length front ≡ c.loop-line.next = let a = c.split_at_mut-later.ensures.front_len in omega (arith, a, count) in
    let cut : c.args.rest.now ≡ front ++ later = sym h.rest ∙ c.split_at_mut-later.ensures.value in
    let a = ahead (g.K.Calls.kernel c.args.kernel.now) c.args.caller.now c.loop-line.caller c.args.lines.now c.loop-line.left.now c.in-Some.behind.now c.parted.result.0.now c.parted.result.1.now c.in-Some.line.now c.args.rest.now front later c.args.next c.loop-line.next c.requires h.on f cut at in
    let used = set_first later a.child a.rest c.index-later-0.result c.fork.new.child a.is in
    let ok = c.in-Ok.ensures in
    let made = fork_done (g.K.Calls.kernel c.args.kernel.now) c.loop-line.caller c.fork.new.parent _ c.loop-line.next c.in-Ok.reply (ap (λ (v : CallerSeen). v.process) used.0 ∙ a.number) h.on.caller ok.callers.0 ok.goes ok.done in
    let later1 = slice_set later 0 c.fork.new.child in
    let sized1 : length later1 ≡ length later = ap length used.1 ∙ sym (ap length a.is) in
    fork_stretch (g.K.Calls.kernel c.args.kernel.now) c.run_both-on.result c.args.caller.now c.loop-line.caller c.fork.new.parent c.run_both-on.new.caller c.args.lines.now c.loop-line.left.now c.in-Some.behind.now c.parted.result.0.now c.parted.result.1.now c.in-Some.line.now c.args.rest.now front later later1 c.run_both-on.new.rest c.args.next c.loop-line.next
    c.in-Ok.reply c.requires h.on c.in-Some.ensures.cases.0 f made.made at cut sized1 c.run_both-on.ensures

pub run_stretch-loop-line-preserved-in-Ok : goal.run_stretch-loop-line-preserved-in-Ok
run_stretch-loop-line-preserved-in-Ok g t c =
    let h = c.loop-line.invariant in
    let here = fork_of_step c.in-Some.line.now.act (sym c.step_of.ensures ∙ c.in-Fork.is) in
    let f = fork_here (g.K.Calls.kernel c.args.kernel.now) c.args.caller.now c.loop-line.caller c.args.lines.now c.loop-line.left.now c.in-Some.behind.now c.parted.result.0.now c.parted.result.1.now c.in-Some.line.now c.args.rest.now c.args.next c.loop-line.next here.0 h.on c.in-Some.ensures.cases.0 here.1 c.parted.ensures.whole c.parted.ensures.from in
    let fits = f.at.fits in
    let few = c.requires.few in
    let count = h.on.count in
    let front = c.split_at_mut-later.result.0.now in
    let later = c.split_at_mut-later.result.1.now in
    let at : c.args.next + length front ≡ c.loop-line.next = let a = c.split_at_mut-later.ensures.front_len in omega (arith, a, count) in
    let cut : c.args.rest.now ≡ front ++ later = sym h.rest ∙ c.split_at_mut-later.ensures.value in
    let a = ahead (g.K.Calls.kernel c.args.kernel.now) c.args.caller.now c.loop-line.caller c.args.lines.now c.loop-line.left.now c.in-Some.behind.now c.parted.result.0.now c.parted.result.1.now c.in-Some.line.now c.args.rest.now front later c.args.next c.loop-line.next c.requires h.on f cut at in
    let used = set_first later a.child a.rest c.index-later-0.result c.fork.new.child a.is in
    let ok = c.in-Ok.ensures in
    let made = fork_done (g.K.Calls.kernel c.args.kernel.now) c.loop-line.caller c.fork.new.parent _ c.loop-line.next c.in-Ok.reply (ap (λ (v : CallerSeen). v.process) used.0 ∙ a.number) h.on.caller ok.callers.0 ok.goes ok.done in
    let else : is_done c.in-Ok.reply ≡ false = sym c.is_done.ensures ∙ c.if-is_done.false in
    let same = subst (λ b. SeesBirth b c.fork.new.parent (slice_index_or later 0 c.index-later-0.result) c.fork.new.child) else ok.child in
    record {
      rest = ap (λ vs. front ++ vs) (same_first later a.child a.rest c.index-later-0.result c.fork.new.child a.is same) ∙ sym cut;
      on = subst (λ n. GoesOn (g.K.Calls.kernel c.args.kernel.now) c.args.caller.now c.fork.new.parent c.args.lines.now c.parted.result.1.now c.args.rest.now c.args.next (c.loop-line.next + n)) (sym c.ends_in.ensures)
          (go_refused (g.K.Calls.kernel c.args.kernel.now) c.args.caller.now c.loop-line.caller c.fork.new.parent c.args.lines.now c.loop-line.left.now c.in-Some.behind.now c.parted.result.0.now c.parted.result.1.now c.in-Some.line.now c.args.rest.now c.args.next c.loop-line.next (c.loop-line.next + ends_in c.parted.result.0.now) c.in-Ok.reply c.requires h.on
          c.in-Some.ensures.cases.0 f.own f.act f.at made.made made.caller else);
    }

pub run_stretch-make_line-requires-clause-line : goal.run_stretch-make_line-requires-clause-line
run_stretch-make_line-requires-clause-line g t c =
    line_of c.in-Some.line.now.act (sym c.step_of.ensures ∙ c.in-Line.is)

pub run_stretch-make_line-requires-clause-may : goal.run_stretch-make_line-requires-clause-may
run_stretch-make_line-requires-clause-may g t c =
    let h = c.loop-line.invariant in
    let here = at_line (g.K.Calls.kernel c.args.kernel.now).opening.parents c.args.caller.now.process c.loop-line.next (c.args.next + length c.args.rest.now) c.loop-line.left.now c.in-Some.behind.now c.in-Some.line.now h.on.stands c.in-Some.ensures.cases.0 in
    may_make (g.K.Calls.kernel c.args.kernel.now) c.loop-line.caller c.loop-line.next c.in-Some.line.now c.loop-line.left.now c.in-Some.behind.now c.in-Some.ensures.cases.0 (here.own ∙ sym h.on.process) h.on.fit h.on.may

pub run_stretch-returns-in-Err-make_line : goal.run_stretch-returns-in-Err-make_line
run_stretch-returns-in-Err-make_line g t c =
    let h = c.loop-line.invariant in
    go_stretch (g.K.Calls.kernel c.args.kernel.now) c.args.caller.now c.make_line.new.caller c.args.lines.now c.loop-line.left.now c.args.rest.now c.loop-line.rest c.args.next c.loop-line.next false c.requires (go_more (g.K.Calls.kernel c.args.kernel.now) c.args.caller.now c.loop-line.caller c.make_line.new.caller c.args.lines.now c.loop-line.left.now c.args.rest.now c.args.next c.loop-line.next h.on c.in-Err-make_line.ensures.err c.in-Err-make_line.ensures.caller) h.rest
    (λ w. absurd (false≢true w))

pub run_stretch-loop-line-preserved : goal.run_stretch-loop-line-preserved
run_stretch-loop-line-preserved g t c =
    let h = c.loop-line.invariant in
    record {
      rest = h.rest;
      on = go_line (g.K.Calls.kernel c.args.kernel.now) c.args.caller.now c.loop-line.caller c.make_line.new.caller c.args.lines.now c.loop-line.left.now c.in-Some.behind.now c.in-Some.line.now c.args.rest.now c.args.next c.loop-line.next h.on c.in-Some.ensures.cases.0
          (line_of c.in-Some.line.now.act (sym c.step_of.ensures ∙ c.in-Line.is)) c.in-Ok-make_line.ensures.made c.in-Ok-make_line.ensures.caller;
    }

pub run_stretch-returns : goal.run_stretch-returns
run_stretch-returns g t c =
    go_stretch (g.K.Calls.kernel c.args.kernel.now) c.args.caller.now c.loop-line.caller c.args.lines.now c.loop-line.left.now c.args.rest.now c.loop-line.rest c.args.next c.loop-line.next true c.requires c.loop-line.invariant.on c.loop-line.invariant.rest
    (λ w. subst EndsAtWait (sym (is_none c.loop-line.left.now c.in_default.ensures.cases)) tt)
