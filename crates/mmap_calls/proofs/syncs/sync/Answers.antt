use Rattle.std.proofs.Common.{◌≡◌, ◌+◌, ℕ, true, false, sym, ap, ◌∙◌, subst}
use Rattle.seg_vn.specs.vm_types.declared.call.Call.TheVariants.{Sync}
use Rattle.seg_vn.specs.vm_types.declared.call.Errno.TheVariants as errno
use Rattle.seg_vn.specs.vm_types.declared.call.Reply.TheVariants as reply
use Rattle.seg_vn.specs.flat_model.Mapping.{is_range}
use Rattle.seg_vn.specs.flat_model.Words.{page, pages_in}
use Rattle.seg_vn.specs.vm_world.Words.{memory}
use Rattle.seg_vn.specs.vm_world.World.{world_seen}
use Rattle.seg_vn.specs.vm_world.declared.world.World.{World}
use Rattle.seg_vn.proofs.seg_ops.Composed.{keeps-same}
use Rattle.seg_vn.proofs.seg_ops.Modified.{modifies-same}
use Rattle.seg_vn.proofs.seg_ops.RoomMade.{room-same}
use Rattle.seg_vn.specs.Serves.{Serves}
use Rattle.seg_vn.specs.declared.attempt.Attempt.{Attempt}
use Rattle.seg_vn.specs.declared.attempt.Attempt.TheVariants.{Done}
use Rattle.mmap_calls.specs.Calls.{IsSyncAnswer}
use Rattle.mmap_calls.specs.Protections.{AreMapped}
use Rattle.mmap_calls.specs.SyncRanges.{CleansRange}
use Rattle.mmap_calls.proofs.SyncAnswers.{done-sync, first-sync, range-invalid, range-unmapped, range-valid, refused-sync, wanting-answer}
use Rattle.mmap_calls.proofs.syncs.sync.Given.{Over}
use Rattle.mmap_calls.proofs.syncs.sync.Goals.{After-are_mapped, After-clean_round}
use Rattle.mmap_calls.proofs.syncs.sync.Goals as goal

-- the range
abbrev range : (g : Over) (c : After-are_mapped g) → ◌≡◌ {A = ℕ × ℕ} (c.page_of-first.result, c.pages_in.result) (page c.args.addr, pages_in c.args.length)
range g c = λ i. (c.page_of-first.ensures i, c.pages_in.ensures.pages i)

is-range : (g : Over) (c : After-are_mapped g) → is_range c.args.addr c.args.length ≡ true
is-range g c = sym c.is_range.ensures.range ∙ c.if-not-is_range.false

mapped-as : (g : Over) (c : After-are_mapped g) → AreMapped c.in-Some.space.now.parts c.page_of-first.result (c.page_of-first.result + c.pages_in.result) → AreMapped c.in-Some.space.now.parts (page c.args.addr) (page c.args.addr + pages_in c.args.length)
mapped-as g c all = subst (λ (r : ℕ × ℕ). AreMapped c.in-Some.space.now.parts r.0 (r.0 + r.1)) (range g c) all

mapped-back : (g : Over) (c : After-are_mapped g) → AreMapped c.in-Some.space.now.parts (page c.args.addr) (page c.args.addr + pages_in c.args.length) → AreMapped c.in-Some.space.now.parts c.page_of-first.result (c.page_of-first.result + c.pages_in.result)
mapped-back g c all = subst (λ (r : ℕ × ℕ). AreMapped c.in-Some.space.now.parts r.0 (r.0 + r.1)) (sym (range g c)) all

pub returns-then-not-is_range-clause-serves : goal.returns-then-not-is_range-clause-serves
returns-then-not-is_range-clause-serves g c = λ calls.
    let w = world_seen c.args.world.now in
    let spaces = c.args.spaces.now.spaces in
    refused-sync w w spaces c.args.world.now.pending c.args.process c.args.addr c.args.length (keeps-same w spaces c.requires.fits) (modifies-same w) errno.Invalid
    (range-invalid spaces c.args.process c.args.addr c.args.length c.in-Some.space.now.parts (sym c.in-Some.ensures) (sym c.is_range.ensures.range ∙ c.if-not-is_range.true))

pub returns-then-not-is_range-clause-makes : goal.returns-then-not-is_range-clause-makes
returns-then-not-is_range-clause-makes g c = room-same c.args.world.now

pub returns-then-not-are_mapped-clause-serves : goal.returns-then-not-are_mapped-clause-serves
returns-then-not-are_mapped-clause-serves g c = λ calls.
    let d = (goal.at.returns-then-not-are_mapped-clause-serves g c).After-are_mapped in
    let w = world_seen c.args.world.now in
    let spaces = c.args.spaces.now.spaces in
    refused-sync w w spaces c.args.world.now.pending c.args.process c.args.addr c.args.length (keeps-same w spaces c.requires.fits) (modifies-same w) errno.NotMapped
    (range-unmapped spaces c.args.process c.args.addr c.args.length c.in-Some.space.now.parts (sym c.in-Some.ensures) (is-range g d) (λ all. (let z : true ≡ false = sym (c.are_mapped.ensures.1 (mapped-back g d all)) ∙ c.if-not-are_mapped.true in cc)))

pub returns-then-not-are_mapped-clause-makes : goal.returns-then-not-are_mapped-clause-makes
returns-then-not-are_mapped-clause-makes g c = room-same c.args.world.now

pub clean_round-requires-clause-mapped : goal.clean_round-requires-clause-mapped
clean_round-requires-clause-mapped g c = c.are_mapped.ensures.0 c.if-not-are_mapped.false

pub clean_round-requires-clause-fits : goal.clean_round-requires-clause-fits
clean_round-requires-clause-fits g c = (c.args.spaces.now.spaces, c.args.process, record { memory = c.requires.fits; here = sym c.in-Some.ensures })

-- what is answered after the round, over the tails as they were
module _ (g : Over) (c : After-clean_round g) (at : After-are_mapped g) where
  found-in : CleansRange (memory c.clean_round.new.world c.args.spaces.now.spaces) c.args.process (page c.args.addr) (page c.args.addr + pages_in c.args.length) c.clean_round.result
  found-in =
      subst (λ (r : ℕ × ℕ). CleansRange (memory c.clean_round.new.world c.args.spaces.now.spaces) c.args.process r.0 (r.0 + r.1) c.clean_round.result) (λ i. (c.page_of-first.ensures i, c.pages_in.ensures.pages i))
      (c.clean_round.ensures.cleans c.args.spaces.now.spaces c.args.process (record { memory = c.requires.fits; here = sym c.in-Some.ensures }))

pub returns-in-None-clause-serves : goal.returns-in-None-clause-serves
returns-in-None-clause-serves g c = λ calls.
    let d = (goal.at.returns-in-None-clause-serves g c).After-are_mapped in
    let e = (goal.at.returns-in-None-clause-serves g c).After-clean_round in
    let old = world_seen c.args.world.now in
    let new = world_seen c.clean_round.new.world in
    let spaces = c.args.spaces.now.spaces in
    let p = c.args.process in
    let pending = ap (λ (w : World g.row.D.Denot). w.pending) {y = record c.args.world.now { store = c.clean_round.new.world.store; hat = c.clean_round.new.world.hat }} c.clean_round.ensures.makes.rest in
    let all = mapped-as g d (c.are_mapped.ensures.0 c.if-not-are_mapped.false) in
    let clean = subst (CleansRange (memory c.clean_round.new.world spaces) p (page c.args.addr) (page c.args.addr + pages_in c.args.length)) c.in-None.is (found-in g e d) in
    subst (λ (n : ℕ). Serves (memory c.args.world.now spaces) (memory c.clean_round.new.world spaces) c.args.world.now.pending n calls p (Sync c.args.addr c.args.length) (Done (reply.Synced c.args.from))) (sym pending)
    (done-sync old new spaces c.args.world.now.pending p c.args.addr c.args.length (c.clean_round.ensures.makes.keeps spaces c.requires.fits) c.clean_round.ensures.makes.modified
    (range-valid spaces p c.args.addr c.args.length c.in-Some.space.now.parts (sym c.in-Some.ensures) (is-range g d) all) c.args.from clean)

pub returns-in-None-clause-makes : goal.returns-in-None-clause-makes
returns-in-None-clause-makes g c = c.clean_round.ensures.makes

pub returns-in-Some-clean_round-clause-serves : goal.returns-in-Some-clean_round-clause-serves
returns-in-Some-clean_round-clause-serves g c = λ calls.
    let d = (goal.at.returns-in-Some-clean_round-clause-serves g c).After-are_mapped in
    let e = (goal.at.returns-in-Some-clean_round-clause-serves g c).After-clean_round in
    let r = c.in-Some-clean_round in
    let old = world_seen c.args.world.now in
    let new = world_seen c.clean_round.new.world in
    let spaces = c.args.spaces.now.spaces in
    let p = c.args.process in
    let pending = ap (λ (w : World g.row.D.Denot). w.pending) {y = record c.args.world.now { store = c.clean_round.new.world.store; hat = c.clean_round.new.world.hat }} c.clean_round.ensures.makes.rest in
    let all = mapped-as g d (c.are_mapped.ensures.0 c.if-not-are_mapped.false) in
    let first = subst (CleansRange (memory c.clean_round.new.world spaces) p (page c.args.addr) (page c.args.addr + pages_in c.args.length)) r.is (found-in g e d) in
    subst (λ (n : ℕ). Serves (memory c.args.world.now spaces) (memory c.clean_round.new.world spaces) c.args.world.now.pending n calls p (Sync c.args.addr c.args.length) c.wanting.result) (sym pending)
    (subst (λ (a : Attempt). Serves (memory c.args.world.now spaces) (memory c.clean_round.new.world spaces) c.args.world.now.pending c.args.world.now.pending calls p (Sync c.args.addr c.args.length) a) (sym c.wanting.ensures)
    (first-sync old new spaces c.args.world.now.pending p c.args.addr c.args.length (c.clean_round.ensures.makes.keeps spaces c.requires.fits) c.clean_round.ensures.makes.modified
    (range-valid spaces p c.args.addr c.args.length c.in-Some.space.now.parts (sym c.in-Some.ensures) (is-range g d) all) calls r.wants r.page first.0 first.1 first.2))

pub returns-in-Some-clean_round-clause-answer : goal.returns-in-Some-clean_round-clause-answer
returns-in-Some-clean_round-clause-answer g c = subst (IsSyncAnswer c.args.from) (sym c.wanting.ensures) (wanting-answer c.args.from c.in-Some-clean_round.wants)

pub returns-in-Some-clean_round-clause-makes : goal.returns-in-Some-clean_round-clause-makes
returns-in-Some-clean_round-clause-makes g c = c.clean_round.ensures.makes
