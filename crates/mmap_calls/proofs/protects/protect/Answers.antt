use Rattle.std.proofs.Common.{◌≡◌, ℕ, ◌+◌, ◌-◌, Bool, true, false, Option, refl, sym, ap, ◌∙◌, subst, arith}
use Rattle.std.specs.Prelude.{IsSome}
use Rattle.std.specs.FinMap as finite
use Rattle.seg_vn.specs.anon_slots.Slots.{AnonSlotsSeen, count_at}
use Rattle.seg_vn.specs.vm_types.declared.call.Call.TheVariants.{Protect}
use Rattle.seg_vn.specs.vm_types.declared.call.Errno.TheVariants as errno
use Rattle.seg_vn.specs.vm_types.declared.prot.Prot.{Prot}
use Rattle.seg_vn.specs.flat_model.Flat.{Flat, Space}
use Rattle.seg_vn.specs.flat_model.Mapping.{is_range, are_mapped, cells_of, may_have, valid_range}
use Rattle.seg_vn.specs.flat_model.Refusals.{◌>>◌, Effect, check, done_effect, or_refused}
use Rattle.seg_vn.specs.flat_model.Step.{effect}
use Rattle.seg_vn.specs.flat_model.Words.{page, pages_in}
use Rattle.seg_vn.specs.vm_world.FlatMemory.{Memory, flat_memory}
use Rattle.seg_vn.specs.vm_world.ProtectSteps.{with_range_prot}
use Rattle.seg_vn.specs.vm_world.Words.{memory}
use Rattle.seg_vn.specs.vm_world.World.{world_seen}
use Rattle.seg_vn.specs.vm_world.declared.world.World.{World}
use Rattle.seg_vn.specs.Clears.{ChangesSpace}
use Rattle.mmap_calls.specs.Protections.{AreMapped, MayHave, lets}
use Rattle.seg_vn.proofs.seg_ops.Modified.{modifies-tables, modifies-then}
use Rattle.mmap_calls.proofs.AtOnce.{done-at-once, refused-at-once}
use Rattle.mmap_calls.proofs.CutPlaces.{same-space}
use Rattle.mmap_calls.proofs.RangeProtections.{lets-false, lets-true, mapped-false, mapped-true}
use Rattle.mmap_calls.proofs.Replaced.{fits-after, joined}
use Rattle.mmap_calls.proofs.protects.protect.Given.{Over}
use Rattle.mmap_calls.proofs.protects.protect.Goals.{After-are_mapped, After-may_have}
use Rattle.mmap_calls.proofs.protects.protect.Goals as goal
use Rattle.seg_vn.proofs.vm_world.Shapes.{prots-respects}

-- what a Protect does, by its three tests
abbrev tested : Flat → ℕ → ℕ → ℕ → Prot → Bool → Bool → Bool → Effect
tested F p a len prot range mapped may =
    or_refused F (λ _. done_effect (with_range_prot F p (page a) (pages_in len) prot)) ((check range errno.Invalid >> check mapped errno.NotMapped) >> check may errno.Access)

by-tests : (F : Flat) (p a len : ℕ) (prot : Prot) (b c d : Bool) → is_range a len ≡ b → are_mapped (cells_of F p) (page a) (pages_in len) ≡ c → may_have (cells_of F p) (page a) (pages_in len) prot ≡ d → effect F p (Protect a len prot) ≡ tested F p a len prot b c d
unfolding valid_range
by-tests F p a len prot b c d range mapped may = λ i. tested F p a len prot (range i) (mapped i) (may i)

-- the pages of the range
ranged : (g : Over) (c : After-are_mapped g) → is_range c.args.addr c.args.length ≡ true
ranged g c = sym c.is_range.ensures.range ∙ c.if-not-is_range.false

mapped-as : (g : Over) (c : After-are_mapped g) (C : Space) (b : Bool) → are_mapped C c.page_of-first.result c.pages_in.result ≡ b → are_mapped C (page c.args.addr) (pages_in c.args.length) ≡ b
mapped-as g c C b is = (λ i. are_mapped C (sym c.page_of-first.ensures i) (sym c.pages_in.ensures.pages i)) ∙ is

may-as : (g : Over) (c : After-are_mapped g) (C : Space) (b : Bool) → may_have C c.page_of-first.result c.pages_in.result c.args.prot ≡ b → may_have C (page c.args.addr) (pages_in c.args.length) c.args.prot ≡ b
may-as g c C b is = (λ i. may_have C (sym c.page_of-first.ensures i) (sym c.pages_in.ensures.pages i) c.args.prot) ∙ is

pub returns-then-not-is_range-clause-done : goal.returns-then-not-is_range-clause-done
returns-then-not-is_range-clause-done g c = λ spaces fits.
    let p = c.args.process in
    let m : Memory = memory c.args.world.now spaces in
    let not : is_range c.args.addr c.args.length ≡ false = sym c.is_range.ensures.range ∙ c.if-not-is_range.true in (
      refused-at-once m p c.args.space.now.parts c.args.world.now.zeros (Protect c.args.addr c.args.length c.args.prot) errno.Invalid fits (λ born notes. by-tests (flat_memory m born notes) p c.args.addr c.args.length c.args.prot false _ _ not refl refl),
      (same-space m.world c.args.world.now.zeros spaces p c.args.space.now.parts fits).known,
    )

pub returns-then-not-are_mapped-clause-done : goal.returns-then-not-are_mapped-clause-done
returns-then-not-are_mapped-clause-done g c = λ spaces fits.
    let d = (goal.at.returns-then-not-are_mapped-clause-done g c).After-are_mapped in
    let p = c.args.process in
    let m : Memory = memory c.args.world.now spaces in
    let not : AreMapped c.args.space.now.parts c.page_of-first.result (c.page_of-first.result + c.pages_in.result) → ⊥ = λ all. (let z : true ≡ false = sym (c.are_mapped.ensures.1 all) ∙ c.if-not-are_mapped.true in cc) in (
      refused-at-once m p c.args.space.now.parts c.args.world.now.zeros (Protect c.args.addr c.args.length c.args.prot) errno.NotMapped fits
          (λ born notes. by-tests (flat_memory m born notes) p c.args.addr c.args.length c.args.prot true false _ (ranged g d)
          (mapped-as g d (cells_of (flat_memory m born notes) p) false (mapped-false m p c.args.space.now.parts fits.here born notes c.page_of-first.result c.pages_in.result not)) refl),
      (same-space m.world c.args.world.now.zeros spaces p c.args.space.now.parts fits).known,
    )

all-mapped : (g : Over) (c : After-may_have g) → AreMapped c.args.space.now.parts c.page_of-first.result (c.page_of-first.result + c.pages_in.result)
all-mapped g c = c.are_mapped.ensures.0 c.if-not-are_mapped.false

pub may_have-requires : goal.may_have-requires
may_have-requires g c = record { mapped = c.are_mapped.ensures.0 c.if-not-are_mapped.false }

pub returns-then-not-may_have-clause-done : goal.returns-then-not-may_have-clause-done
returns-then-not-may_have-clause-done g c = λ spaces fits.
    let e = (goal.at.returns-then-not-may_have-clause-done g c).After-are_mapped in
    let d = (goal.at.returns-then-not-may_have-clause-done g c).After-may_have in
    let p = c.args.process in
    let m : Memory = memory c.args.world.now spaces in
    let not : MayHave c.args.space.now.parts c.page_of-first.result (c.page_of-first.result + c.pages_in.result) c.args.prot → ⊥ = λ all. (let z : true ≡ false = sym (c.may_have.ensures.1 all) ∙ c.if-not-may_have.true in cc) in (
      refused-at-once m p c.args.space.now.parts c.args.world.now.zeros (Protect c.args.addr c.args.length c.args.prot) errno.Access fits
          (λ born notes. by-tests (flat_memory m born notes) p c.args.addr c.args.length c.args.prot true true false (ranged g e)
          (mapped-as g e (cells_of (flat_memory m born notes) p) true (mapped-true m p c.args.space.now.parts fits.here born notes c.page_of-first.result c.pages_in.result (all-mapped g d)))
          (may-as g e (cells_of (flat_memory m born notes) p) false (lets-false m p c.args.space.now.parts fits.here born notes c.page_of-first.result c.pages_in.result c.args.prot not))),
      (same-space m.world c.args.world.now.zeros spaces p c.args.space.now.parts fits).known,
    )

pub set_range-requires-clause-mapped : goal.set_range-requires-clause-mapped
set_range-requires-clause-mapped g c = λ q low high. subst (λ (o : Option Prot). IsSome o) (sym (c.in_ok-cut_ends.ensures.most q)) (all-mapped g (goal.at.set_range-requires-clause-mapped g c).After-may_have q low high)

pub set_range-requires-clause-may : goal.set_range-requires-clause-may
set_range-requires-clause-may g c = λ q low high. ap (lets c.args.prot) (c.in_ok-cut_ends.ensures.most q) ∙ c.may_have.ensures.0 c.if-not-may_have.false q low high

pub set_range-requires-clause-fits : goal.set_range-requires-clause-fits
set_range-requires-clause-fits g c =
    let spaces = c.requires.fits.0 in (
      finite.insert spaces c.args.process c.cut_ends.new.space.parts,
      fits-after c.args.process (memory c.args.world.now spaces) (world_seen c.cut_ends.new.world) spaces c.cut_ends.new.space.parts c.cut_ends.new.world.zeros (λ F. F) (c.in_ok-cut_ends.ensures.changes spaces c.requires.fits.1),
    )

pub returns-clause-fall : goal.returns-clause-fall
returns-clause-fall g c = λ slot.
    let same : c.set_range.new.world.anon ≡ c.args.world.now.anon = ap (λ (w : World g.row.D.Denot). w.anon) c.set_range.ensures.rest ∙ ap (λ (w : World g.row.D.Denot). w.anon) c.cut_ends.ensures.world in
    let e = ap (λ (a : AnonSlotsSeen). count_at a slot) same in
    omega (arith, e)

pub returns-clause-done : goal.returns-clause-done
returns-clause-done g c = λ spaces fits.
    let e = (goal.at.returns-clause-done g c).After-are_mapped in
    let d = (goal.at.returns-clause-done g c).After-may_have in
    let p = c.args.process in
    let m : Memory = memory c.args.world.now spaces in
    let cut = c.cut_ends.new.space.parts in
    let left = c.set_range.new.space.parts in
    let new : Memory = memory c.set_range.new.world (finite.insert spaces p left) in
    let first : ℕ = c.page_of-first.result in
    let end : ℕ = c.page_of-first.result + c.pages_in.result in
    let cuts = c.in_ok-cut_ends.ensures.changes spaces fits in
    let here = fits-after p m (world_seen c.cut_ends.new.world) spaces cut c.cut_ends.new.world.zeros (λ F. F) cuts in
    let raw = joined p m (world_seen c.cut_ends.new.world) (world_seen c.set_range.new.world) spaces cut left c.cut_ends.new.world.zeros c.set_range.new.world.zeros (λ F. with_range_prot F p first (end - first) c.args.prot) (prots-respects p first (end - first) c.args.prot) cuts (c.set_range.ensures.changes (finite.insert spaces p cut) here) in
    let many : end - first ≡ c.pages_in.result = omega arith in
    let pages : end - first ≡ pages_in c.args.length = many ∙ c.pages_in.ensures.pages in
    let done : ChangesSpace p m new c.set_range.new.world.zeros (λ F. with_range_prot F p (page c.args.addr) (pages_in c.args.length) c.args.prot) =
    subst (λ (k : ℕ). ChangesSpace p m new c.set_range.new.world.zeros (λ F. with_range_prot F p k (pages_in c.args.length) c.args.prot)) c.page_of-first.ensures
    (subst (λ (n : ℕ). ChangesSpace p m new c.set_range.new.world.zeros (λ F. with_range_prot F p first n c.args.prot)) pages raw) in (
      done-at-once m new p (Protect c.args.addr c.args.length c.args.prot) (λ F. with_range_prot F p (page c.args.addr) (pages_in c.args.length) c.args.prot) c.set_range.new.world.zeros
          (λ born notes. by-tests (flat_memory m born notes) p c.args.addr c.args.length c.args.prot true true true (ranged g e)
          (mapped-as g e (cells_of (flat_memory m born notes) p) true (mapped-true m p c.args.space.now.parts fits.here born notes first c.pages_in.result (all-mapped g d)))
          (may-as g e (cells_of (flat_memory m born notes) p) true (lets-true m p c.args.space.now.parts fits.here born notes first c.pages_in.result c.args.prot (c.may_have.ensures.0 c.if-not-may_have.false)))) done
          (modifies-then (world_seen c.args.world.now) (world_seen c.cut_ends.new.world) (world_seen c.set_range.new.world)
          (modifies-tables (world_seen c.args.world.now) (world_seen c.cut_ends.new.world) (ap (λ (w : World g.row.D.Denot). w.store) c.cut_ends.ensures.world) (ap (λ (w : World g.row.D.Denot). w.hat) c.cut_ends.ensures.world)) c.set_range.ensures.modified),
      done.known,
    )
