use Rattle.std.proofs.Common.{◌≡◌, true, false, Some, refl, ap, sym, ◌∙◌}
use Rattle.std.proofs.lemmas.Option.{slice_get-get_or}
use Rattle.fault_entry.specs.vm_types.declared.call.Call.{Call}
use Rattle.lane_driver.proofs.FirstCalls.{all-calls, is-last, not-calls, one-more}
use Rattle.lane_driver.proofs.calls.are_lane_calls.Goals as goal

pub loop-place-preserved : goal.loop-place-preserved
loop-place-preserved c =
    let calls = c.args.calls.now in
    let n = c.loop-place.place in
    let x = c.index-calls-place.result in
    let told = c.is_lane_call_at.ensures.0 c.if-not-is_lane_call_at.false in
    one-more calls n x c.loop-place.invariant (slice_get-get_or calls n x c.loop-place-test.true ∙ ap (λ (call : Call). Some call) (sym c.index-calls-place.is)) (told.0, λ exit. is-last n _ (told.1 exit))

-- the call at which the look ended
pub returns-then-not-is_lane_call_at : goal.returns-then-not-is_lane_call_at
returns-then-not-is_lane_call_at c =
    let calls = c.args.calls.now in
    let n = c.loop-place.place in
    let x = c.index-calls-place.result in
    let there = slice_get-get_or calls n x c.loop-place-test.true ∙ ap (λ (call : Call). Some call) (sym c.index-calls-place.is) in (
      (λ yes. absurd (let z : false ≡ true = yes in cc (z))),
      (λ all. absurd (let told = c.is_lane_call_at.ensures.1 (not-calls calls n _ there all) in let no = c.if-not-is_lane_call_at.true in cc (told, no))),
    )

pub returns : goal.returns
returns c = ((λ yes. all-calls c.args.calls.now c.loop-place.place c.loop-place-test.false c.loop-place.invariant), (λ all. refl))
