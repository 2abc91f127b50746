-- Counted calls.
use Rattle.std.proofs.Common.{◌≡◌, ◌≤◌, Bool, true, false, ap, ◌∙◌, arith}
use Rattle.std.specs.Prelude.{if◌then◌else◌}
use Rattle.block_device.specs.Counts.{HasRisen}
use Rattle.block_device.specs.MemSeen.{CallsSeen, one_more, after_call}

pub calls_risen : (old new : CallsSeen) (failed : Bool) → new ≡ after_call old failed → HasRisen old.calls new.calls
calls_risen old new failed is = let calls : new.calls ≡ one_more old.calls = ap (λ c. c.calls) is in omega (arith, calls)

pub faults_risen : (old new : CallsSeen) (failed : Bool) → new ≡ after_call old failed → failed ≡ true → HasRisen old.faults new.faults
faults_risen old new failed is failing =
    let faults : new.faults ≡ one_more old.faults = ap (λ c. c.faults) is ∙ ap (λ b. if b then one_more old.faults else old.faults) failing in
    omega (arith, faults)

pub faults_later : (old new : CallsSeen) (failed : Bool) → new ≡ after_call old failed → failed ≡ true → old.faults ≤ new.faults
faults_later old new failed is failing =
    let faults : new.faults ≡ one_more old.faults = ap (λ c. c.faults) is ∙ ap (λ b. if b then one_more old.faults else old.faults) failing in
    omega (arith, faults)

pub faults_same : (old new : CallsSeen) (failed : Bool) → new ≡ after_call old failed → failed ≡ false → new.faults ≡ old.faults
faults_same old new failed is passing = ap (λ c. c.faults) is ∙ ap (λ b. if b then one_more old.faults else old.faults) passing
