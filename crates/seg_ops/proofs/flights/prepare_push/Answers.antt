use Rattle.std.proofs.Common.{ℕ, Option, Some, sym, ap, ◌∙◌, subst}
use Rattle.page_store.specs.Seen.{IsListedFrame}
use Rattle.page_store.specs.Steps.{at_frame, next_frame}
use Rattle.vm_world.specs.hat_layer.Pool.{bits_of}
use Rattle.vm_world.specs.Wants.{IsDirtyPage}
use Rattle.vm_world.specs.World.{world_seen}
use Rattle.seg_ops.specs.Flights.{places_pushed}
use Rattle.seg_ops.specs.Steps.{with_bits_gathered}
use Rattle.seg_ops.proofs.Composed.{keeps-then}
use Rattle.seg_ops.proofs.Marks.{modified-unlisted}
use Rattle.seg_ops.proofs.Prepared.{dirty-found, gathered-dirty, dirty-same, one-frame}
use Rattle.seg_ops.proofs.flights.prepare_push.Given.{Over}
use Rattle.seg_ops.proofs.flights.prepare_push.Goals.{After-gather_for_push, After-mark_pushed}
use Rattle.seg_ops.proofs.flights.prepare_push.Goals as goal

pub gather_for_push-requires-clause-unlisted : goal.gather_for_push-requires-clause-unlisted
gather_for_push-requires-clause-unlisted g c =
    subst (λ (k : ℕ). ¬ IsListedFrame c.args.world.now.store k) (one-frame (world_seen c.args.world.now) c.args.name c.in-Home.frame c.requires.dirty (sym c.in-Home.ensures.residence))
    (modified-unlisted (world_seen c.args.world.now) c.requires.fits.0 c.requires.dirty.frame c.requires.fits.1 c.requires.dirty.modified)

-- what was gathered: the page is modified still
gathered : (g : Over) (c : After-gather_for_push g) → IsDirtyPage (world_seen c.gather_for_push.new.world) c.args.name
gathered g c =
    let w = world_seen c.args.world.now in
    let mid = world_seen c.gather_for_push.new.world in
    let same = one-frame w c.args.name c.in-Home.frame c.requires.dirty (sym c.in-Home.ensures.residence) in
    gathered-dirty w mid c.requires.fits.0 c.args.name c.requires.fits.1 c.requires.dirty
    (c.gather_for_push.ensures.store ∙ ap (λ (k : ℕ). with_bits_gathered w.store k (bits_of k w.hat.places)) (sym same))

pub mark_pushed-requires-clause-dirty : goal.mark_pushed-requires-clause-dirty
mark_pushed-requires-clause-dirty g c = gathered g (goal.at.mark_pushed-requires-clause-dirty g c).After-gather_for_push

pub mark_pushed-requires-clause-fits : goal.mark_pushed-requires-clause-fits
mark_pushed-requires-clause-fits g c = (c.requires.fits.0, (c.gather_for_push.ensures.keeps c.requires.fits.0 c.requires.fits.1).memory)

pub returns-clause-store : goal.returns-clause-store
returns-clause-store g c =
    let w = world_seen c.args.world.now in
    let same = one-frame w c.args.name c.in-Home.frame c.requires.dirty (sym c.in-Home.ensures.residence) in
    ap (λ v. v.store) c.mark_pushed.ensures.rest ∙ c.gather_for_push.ensures.store
    ∙ sym (ap (λ (o : Option ℕ). at_frame o w.store (λ frame. with_bits_gathered w.store frame (bits_of frame w.hat.places))) (dirty-found w c.args.name c.requires.dirty ∙ ap (λ (k : ℕ). Some k) same))

pub returns-clause-places : goal.returns-clause-places
returns-clause-places g c =
    let w = world_seen c.args.world.now in
    let same = one-frame w c.args.name c.in-Home.frame c.requires.dirty (sym c.in-Home.ensures.residence) in
    ap (λ v. v.hat.places) c.mark_pushed.ensures.rest ∙ c.gather_for_push.ensures.places
    ∙ sym (ap (λ (o : Option ℕ). places_pushed (next_frame w.store) o w.hat.places) (dirty-found w c.args.name c.requires.dirty ∙ ap (λ (k : ℕ). Some k) same))

pub returns-clause-ready : goal.returns-clause-ready
returns-clause-ready g c = (
  dirty-same (world_seen c.gather_for_push.new.world) (world_seen c.mark_pushed.new.world) c.args.name (ap (λ v. v.store) c.mark_pushed.ensures.rest) (ap (λ v. v.hat.places) c.mark_pushed.ensures.rest) (gathered g (goal.at.returns-clause-ready g c).After-gather_for_push),
  c.mark_pushed.ensures.pushed,
)

pub returns-clause-keeps : goal.returns-clause-keeps
returns-clause-keeps g c = λ spaces fits.
    let first = c.gather_for_push.ensures.keeps spaces fits in
    keeps-then (world_seen c.args.world.now) (world_seen c.gather_for_push.new.world) (world_seen c.mark_pushed.new.world) spaces fits first (c.mark_pushed.ensures.keeps spaces first.memory)
