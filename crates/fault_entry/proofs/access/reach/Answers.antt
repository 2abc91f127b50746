use Rattle.std.proofs.Common.{◌≡◌, ℕ, ◌-◌, List, Option, Some, sym, ap, ◌∙◌, subst}
use Rattle.std.specs.Prelude.{IsSome}
use Rattle.seg_vn.specs.core_arena.Bytes.{bytes_at}
use Rattle.std.specs.FinMap as finite
use Rattle.seg_vn.specs.addr_space.Space.{part}
use Rattle.seg_vn.specs.vm_types.declared.call.Signal.TheVariants as signal
use Rattle.seg_vn.specs.flat_model.Words.{page}
use Rattle.seg_vn.specs.vm_world.Segments.{Spot, Spaces, spot_at}
use Rattle.seg_vn.specs.vm_world.World.{world_seen}
use Rattle.seg_vn.proofs.seg_ops.StillSteps.{memory_of}
use Rattle.fault_entry.specs.Reaching.{may_access, ServesAccess}
use Rattle.seg_vn.specs.hat_layer.Pool.{frame_for}
use Rattle.fault_entry.specs.declared.access.AccessStep.TheVariants as access
use Rattle.fault_entry.proofs.Found.{spot-found, spot-none, found-low}
use Rattle.fault_entry.proofs.Reached.{goes-there, align-access, unmapped-access, refused-access, hit-access}
use Rattle.fault_entry.proofs.access.reach.Given.{Over}
use Rattle.fault_entry.proofs.access.reach.Goals.{After-may_access}
use Rattle.fault_entry.proofs.access.reach.Goals as goal

pub returns-then-addr-size-ne0-clause-serves : goal.returns-then-addr-size-ne0-clause-serves
returns-then-addr-size-ne0-clause-serves g c = λ spaces fits get.
    align-access (world_seen c.args.world.now) spaces c.args.world.now.pending c.args.process c.args.addr c.args.size c.args.write fits c.if-addr-size-ne0.true

pub returns-in_default-clause-serves : goal.returns-in_default-clause-serves
returns-in_default-clause-serves g c = λ spaces fits get.
    unmapped-access (world_seen c.args.world.now) spaces c.args.world.now.pending c.args.process c.args.addr c.args.size c.args.write fits c.if-addr-size-ne0.false
    (spot-none spaces c.args.process (page c.args.addr) c.args.space.now.parts get c.in_default.ensures.found)

-- the place of the page, and what its protection says
abbrev spot : (g : Over) (c : After-may_access g) → Spot
spot g c = (c.in-Some.segment.now, page c.args.addr - c.in-Some.first)

here : (g : Over) (c : After-may_access g) (spaces : Spaces) → finite.get spaces c.args.process ≡ Some c.args.space.now.parts → spot_at spaces c.args.process (page c.args.addr) ≡ Some (spot g c)
here g c spaces get = spot-found spaces c.args.process (page c.args.addr) c.in-Some.first c.in-Some._pages c.in-Some.segment.now c.args.space.now.parts get c.in-Some.ensures.found

allowed : (g : Over) (c : After-may_access g) → c.may_access.result ≡ may_access c.args.write c.in-Some.segment.now.prot
allowed g c = c.may_access.ensures ∙ ap (may_access c.args.write) c.prot.ensures

pub returns-then-not-may_access-clause-serves : goal.returns-then-not-may_access-clause-serves
returns-then-not-may_access-clause-serves g c = λ spaces fits get.
    let at = (goal.at.returns-then-not-may_access-clause-serves g c).After-may_access in
    refused-access (world_seen c.args.world.now) spaces c.args.world.now.pending c.args.process c.args.addr c.args.size c.args.write fits (spot g at) c.if-addr-size-ne0.false
    (here g at spaces get) (sym (allowed g at) ∙ c.if-not-may_access.true)

pub returns-in-Some-frame_for-clause-serves : goal.returns-in-Some-frame_for-clause-serves
returns-in-Some-frame_for-clause-serves g c = λ spaces fits get.
    let at = (goal.at.returns-in-Some-frame_for-clause-serves g c).After-may_access in
    let old = world_seen c.args.world.now in
    let new = world_seen c.frame_for.new.world in
    let pending : c.frame_for.new.world.pending ≡ c.args.world.now.pending = ap (λ v. v.pending) c.frame_for.ensures.rest in
    subst (λ (k : ℕ). ServesAccess (memory_of old spaces) (memory_of new spaces) c.args.world.now.pending k c.args.process c.args.addr c.args.size c.args.write (access.Reached c.in-Some-frame_for.frame)) (sym pending)
    (hit-access old spaces c.args.world.now.pending c.args.process c.args.addr c.args.size c.args.write fits new (spot g at) c.in-Some-frame_for.frame c.if-addr-size-ne0.false
    (here g at spaces get) (sym (allowed g at) ∙ c.if-not-may_access.false) (c.frame_for.ensures.keeps spaces fits) (ap world_seen c.frame_for.ensures.rest) c.in-Some-frame_for.ensures.places c.in-Some-frame_for.ensures.noted c.in-Some-frame_for.ensures.modified (sym c.frame_for.ensures.frame ∙ c.in-Some-frame_for.is))

pub fault_in-requires-clause-low : goal.fault_in-requires-clause-low
fault_in-requires-clause-low g c = found-low c.args.space.now.parts (page c.args.addr) (part c.in-Some.first c.in-Some._pages c.in-Some.segment.now) c.in-Some.ensures.found

pub fault_in-requires-clause-allowed : goal.fault_in-requires-clause-allowed
fault_in-requires-clause-allowed g c =
    let at = (goal.at.fault_in-requires-clause-allowed g c).After-may_access in
    sym (allowed g at) ∙ c.if-not-may_access.false

-- no translation lets the access
pub fault_in-requires-clause-missed : goal.fault_in-requires-clause-missed
fault_in-requires-clause-missed g c = λ lets.
    goes-there (world_seen c.frame_for.new.world) c.args.process (page c.args.addr) c.args.write c.frame_for.result lets
    (subst (λ v. c.frame_for.result ≡ frame_for v.hat.places c.args.process (page c.args.addr) c.args.write) (sym c.in_default-frame_for.ensures.none) c.frame_for.ensures.frame) c.in_default-frame_for.is

pub fault_in-requires-clause-home : goal.fault_in-requires-clause-home
fault_in-requires-clause-home g c = λ beside.
    let h = c.requires.home beside in
    (h.0, h.1, subst (λ (frames : List (Option (List ℕ))). IsSome (bytes_at frames h.0)) (sym (ap (λ v. v.store.frames) c.frame_for.ensures.rest)) h.2)

pub fault_in-requires-clause-fits : goal.fault_in-requires-clause-fits
fault_in-requires-clause-fits g c =
    let at = (goal.at.fault_in-requires-clause-fits g c).After-may_access in
    (c.requires.fits.0, (c.frame_for.ensures.keeps c.requires.fits.0 c.requires.fits.1).memory, here g at c.requires.fits.0 c.requires.fits.2)

-- where no access was noted, what is served from then on is served from the start
pub returns-clause-serves : goal.returns-clause-serves
returns-clause-serves g c = λ spaces fits get.
    let at = (goal.at.returns-clause-serves g c).After-may_access in
    subst (λ v. ServesAccess (memory_of (world_seen v) spaces) (memory_of (world_seen c.fault_in.new.world) spaces) v.pending c.fault_in.new.world.pending c.args.process c.args.addr c.args.size c.args.write c.fault_in.result) c.in_default-frame_for.ensures.none
    (c.fault_in.ensures.serves spaces c.args.size (c.frame_for.ensures.keeps spaces fits).memory (here g at spaces get) c.if-addr-size-ne0.false)
