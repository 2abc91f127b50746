use Rattle.std.proofs.Common.{◌≡◌, ℕ, Option, Some, None, refl, ap, ◌∙◌, subst}
use Rattle.std.specs.Prelude.{Err, Result}
use Rattle.seg_vn.specs.page_store.declared.plan.Hold.{Hold}
use Rattle.seg_vn.specs.page_store.declared.plan.Hold.TheVariants as hold
use Rattle.seg_vn.specs.vm_types.declared.call.Reply.{Reply}
use Rattle.seg_vn.specs.vm_world.Segments.{Spaces}
use Rattle.seg_vn.specs.vm_world.Words.{memory, Fits}
use Rattle.seg_vn.specs.vm_world.World.{world_seen}
use Rattle.seg_vn.specs.vm_world.declared.wants.Wants.{Wants}
use Rattle.seg_vn.specs.vm_world.declared.wants.Wants.TheVariants.{Seat}
use Rattle.seg_vn.specs.declared.attempt.Attempt.TheVariants.{Done, Need, Busy}
use Rattle.file_calls.specs.Calls.{ServesCall}
use Rattle.file_calls.specs.Locks.{IsAnothers}
use Rattle.file_calls.proofs.Refusals.{held, no-wait}
use Rattle.file_calls.proofs.calls.attempt.Given.{Over}
use Rattle.file_calls.proofs.calls.attempt.Goals.{After-serve}
use Rattle.file_calls.proofs.calls.attempt.Goals as goal

-- ANOTHER SEAT HAS THE FILE.
pub returns-in-Some-clause-serves : goal.returns-in-Some-clause-serves
returns-in-Some-clause-serves g c = λ spaces p fits.
    held (world_seen c.args.world.now) spaces c.args.world.now.pending p c.args.seat c.in-Some.other c.args.locks.now c.args.call.now fits ((c.in-Some.ensures c.in-Some.other).0 refl)

pub returns-in-Some-clause-waits : goal.returns-in-Some-clause-waits
returns-in-Some-clause-waits g c = λ t. (
  (λ is. let same : c.in-Some.other ≡ t = cc in (c.in-Some.ensures t).0 (ap (λ (k : ℕ). Some k) same)),
  (λ h. ap (λ (k : ℕ). Busy (hold.File k)) (let z : ◌≡◌ {A = Option ℕ} (Some c.in-Some.other) (Some t) = (c.in-Some.ensures t).1 h in cc)),
)

-- NONE HAS IT.
none-has : (g : Over) (c : After-serve g) (t : ℕ) → IsAnothers c.args.locks.now c.args.seat c.args.call.now t → ⊥
none-has g c t h = let z : ◌≡◌ {A = Option ℕ} None (Some t) = (c.in_default.ensures t).1 h in cc

-- what is served, where that is known
serves-as : (g : Over) (c : After-serve g) (spaces : Spaces) (p : ℕ) (r : Result Reply Wants) → c.serve.result ≡ r → Fits c.args.world.now spaces
    → ServesCall (memory c.args.world.now spaces) (memory c.serve.new.world spaces) c.args.world.now.pending c.serve.new.world.pending p c.args.call.now r
serves-as g c spaces p r is fits =
    subst (ServesCall (memory c.args.world.now spaces) (memory c.serve.new.world spaces) c.args.world.now.pending c.serve.new.world.pending p c.args.call.now) is (c.serve.ensures.serves spaces p fits)

pub returns-in-Ok-clause-waits : goal.returns-in-Ok-clause-waits
returns-in-Ok-clause-waits g c = λ t. (
  (λ is. absurd (let z : Done c.in-Ok.reply ≡ Busy (hold.File t) = is in cc)),
  (λ h. absurd (none-has g (goal.at.returns-in-Ok-clause-waits g c).After-serve t h)),
)

pub returns-in-Err-Transfer-clause-serves : goal.returns-in-Err-Transfer-clause-serves
returns-in-Err-Transfer-clause-serves g c = λ spaces p fits. serves-as g (goal.at.returns-in-Err-Transfer-clause-serves g c).After-serve spaces p _ (c.in-Err-Transfer.is ∙ ap (λ (w : Wants). Err w) c.in-Err-Transfer.field-0-is) fits

pub returns-in-Err-Transfer-clause-waits : goal.returns-in-Err-Transfer-clause-waits
returns-in-Err-Transfer-clause-waits g c = λ t. (
  (λ is. absurd (let z : Need c.in-Err-Transfer.plan ≡ Busy (hold.File t) = is in cc)),
  (λ h. absurd (none-has g (goal.at.returns-in-Err-Transfer-clause-waits g c).After-serve t h)),
)

pub returns-in-Err-Seat-clause-serves : goal.returns-in-Err-Seat-clause-serves
returns-in-Err-Seat-clause-serves g c = λ spaces p fits. serves-as g (goal.at.returns-in-Err-Seat-clause-serves g c).After-serve spaces p _ (c.in-Err-Seat.is ∙ ap (λ (w : Wants). Err w) c.in-Err-Seat.field-0-is) fits c.args.locks.now

pub returns-in-Err-Seat-clause-waits : goal.returns-in-Err-Seat-clause-waits
returns-in-Err-Seat-clause-waits g c = λ t. (
  (λ is. absurd (
      let f = c.requires.fits in
      let same : c.in-Err-Seat.hold ≡ hold.File t = (let z : Busy c.in-Err-Seat.hold ≡ Busy (hold.File t) = is in cc) in
      no-wait (memory c.args.world.now f.0) (memory c.serve.new.world f.0) c.args.world.now.pending c.serve.new.world.pending 0 t c.args.call.now
      (serves-as g (goal.at.returns-in-Err-Seat-clause-waits g c).After-serve f.0 0 (Err (Seat (hold.File t))) (c.in-Err-Seat.is ∙ ap (λ (w : Wants). Err w) c.in-Err-Seat.field-0-is ∙ ap (λ (h : Hold). Err (Seat h)) same) f.1))),
  (λ h. absurd (none-has g (goal.at.returns-in-Err-Seat-clause-waits g c).After-serve t h)),
)
