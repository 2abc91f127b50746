use Rattle.std.proofs.Common.{◌≡◌, ℕ, ◌*◌, Some, None, sym, ◌∙◌, subst, arith}
use Rattle.std.specs.FinMap as finite
use Rattle.std.proofs.lemmas.Result.{IfOk-weaker}
use Rattle.seg_vn.specs.addr_space.Space.{FindsGap}
use Rattle.seg_vn.specs.vm_types.declared.call.Errno.TheVariants as errno
use Rattle.seg_vn.specs.vm_world.Words.{memory}
use Rattle.mmap_calls.specs.Answers.{AnswersAtOnce}
use Rattle.mmap_calls.specs.Refusals.{map_any_call, map_call}
use Rattle.mmap_calls.proofs.AtOnce.{refused-at-once}
use Rattle.mmap_calls.proofs.CutPlaces.{same-space}
use Rattle.mmap_calls.proofs.GapMaps.{gap-answers, invalid-any, placed_at, refused-any}
use Rattle.mmap_calls.proofs.gaps.map_any.Goals as goal

pub returns-then-not-is_valid_anywhere-clause-done : goal.returns-then-not-is_valid_anywhere-clause-done
returns-then-not-is_valid_anywhere-clause-done g c = λ spaces fits.
    let m = memory c.args.world.now spaces in
    let p = c.args.process in
    let not = sym c.is_valid_anywhere.ensures ∙ c.if-not-is_valid_anywhere.true in (
      refused-at-once m p c.args.space.now.parts c.args.world.now.zeros (map_any_call c.args.request.now) errno.Invalid fits (λ born notes. refused-any _ p c.args.request.now errno.Invalid (invalid-any _ p c.args.request.now not)),
      (same-space m.world c.args.world.now.zeros spaces p c.args.space.now.parts fits).known,
    )

pub refusal_without_gap-errno-requires-clause-valid : goal.refusal_without_gap-errno-requires-clause-valid
refusal_without_gap-errno-requires-clause-valid g c = sym c.is_valid_anywhere.ensures ∙ c.if-not-is_valid_anywhere.false

pub refusal_without_gap-errno-requires-clause-none : goal.refusal_without_gap-errno-requires-clause-none
refusal_without_gap-errno-requires-clause-none g c = subst (λ (n : ℕ). FindsGap c.args.space.now.parts n None) c.pages_in.ensures.pages c.in_default.ensures

pub returns-in_default-clause-done : goal.returns-in_default-clause-done
returns-in_default-clause-done g c = λ spaces fits.
    let m = memory c.args.world.now spaces in
    let p = c.args.process in
    let e = c.refusal_without_gap-errno.result in (
      refused-at-once m p c.args.space.now.parts c.args.world.now.zeros (map_any_call c.args.request.now) e fits (λ born notes. refused-any _ p c.args.request.now e (c.refusal_without_gap-errno.ensures spaces p fits born notes)),
      (same-space m.world c.args.world.now.zeros spaces p c.args.space.now.parts fits).known,
    )

pub overflow_mul-placed : goal.overflow_mul-placed
overflow_mul-placed g c = let high = c.in-Some.ensures.0.high in omega (arith, high)

pub map-requires-clause-request : goal.map-requires-clause-request
map-requires-clause-request g c = let high = c.in-Some.ensures.0.high in record { addr = omega (arith, high); length = c.requires.request.length; offset = c.requires.request.offset }

pub returns-clause-done : goal.returns-clause-done
returns-clause-done g c = IfOk-weaker c.map.result _ _ (λ reply h spaces fits.
    let m = memory c.args.world.now spaces in
    let p = c.args.process in
    let first = c.in-Some.first in
    let valid = sym c.is_valid_anywhere.ensures ∙ c.if-not-is_valid_anywhere.false in
    let finds = subst (λ (n : ℕ). FindsGap c.args.space.now.parts n (Some first)) c.pages_in.ensures.pages c.in-Some.ensures in
    let a = h spaces fits in
    let same : first * 4096 ≡ 4096 * first = omega arith in
    let at = subst (λ (k : ℕ). AnswersAtOnce p m (memory c.map.new.world (finite.insert spaces p c.map.new.space.parts)) (map_call (placed_at c.args.request.now k)) reply) same a.0 in
    (gap-answers m p c.args.space.now.parts c.args.world.now.zeros fits c.args.request.now first _ reply valid finds at, a.1)) c.map.ensures.done
