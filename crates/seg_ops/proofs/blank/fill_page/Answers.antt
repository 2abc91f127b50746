use Rattle.seg_ops.proofs.Shows.{of-frame as of-next}
use Rattle.std.proofs.Common.{◌≡◌, ◌≢◌, ℕ, ◌==◌, Bool, true, refl, sym, ap, ◌∙◌, subst}
use Rattle.std.specs.Prelude.{IfSome}
use Rattle.page_store.specs.core_arena.Bytes.{zeros}
use Rattle.page_store.specs.page_hash.Names.{is_name}
use Rattle.page_store.specs.Seen.{StoreSeen, IsListedFrame}
use Rattle.page_store.specs.page_lock.Rows.{row_at}
use Rattle.page_store.specs.Steps.{next_frame, next_name, after_fill, fresh_row}
use Rattle.vm_world.specs.Serving.{ModifiesOnly}
use Rattle.vm_world.specs.World.{World, world_seen, file_name}
use Rattle.vm_world.specs.WorldSteps.{WorldStep, stays}
use Rattle.vm_world.proofs.PageNames.{file-apart, not-slot}
use Rattle.seg_ops.proofs.FillSteps.{TakesZeros, some-of, takes-for, fill-step}
use Rattle.seg_ops.proofs.Fills.{TakesFor}
use Rattle.seg_ops.proofs.NewlyModified.{fill-modifies-where}
use Rattle.seg_ops.proofs.Pending.{loses, next-there, pends-next}
use Rattle.seg_ops.proofs.blank.fill_page.Given.{Over}
use Rattle.seg_ops.proofs.blank.fill_page.Goals.{After-pend_tail}
use Rattle.seg_ops.proofs.blank.fill_page.Goals as goal

pub pend_tail-requires-clause-exists : goal.pend_tail-requires-clause-exists
pend_tail-requires-clause-exists g c = next-there (world_seen c.args.world.now) c.requires.fits.0 c.next_name-lost.result c.requires.fits.1 c.next_name-lost.ensures

-- What was taken, for whom.
record Filled (g : Over) (c : After-pend_tail g) : Type 0 where
  pub frame : ℕ
  pub store : c.pend_tail.new.world.store ≡ c.fill_zero.new.self
  pub takes : TakesZeros (world_seen c.args.world.now) c.fill_zero.new.self c.args.name frame

is : (g : Over) (c : After-pend_tail g) → Filled g c
is g c =
    let w = world_seen c.args.world.now in
    let fits = c.requires.fits.1 in
    let next = some-of (next_frame w.store) c.requires.available in
    record {
      frame = next.0;
      store = ap (λ v. v.store) c.pend_tail.ensures.rest;
      takes = takes-for w c.requires.fits.0 c.fill_zero.new.self c.args.name next.0 fits next.1 c.requires.absent c.fill_zero.ensures.new c.fill_zero.ensures.laws;
    }

pub returns-clause-store : goal.returns-clause-store
returns-clause-store g c = (is g (goal.at.returns-clause-store g c).After-pend_tail).store ∙ c.fill_zero.ensures.new

pub returns-clause-unlisted : goal.returns-clause-unlisted
returns-clause-unlisted g c =
    subst (λ (s : StoreSeen). IfSome (next_frame c.args.world.now.store) (λ frame. ¬ IsListedFrame s frame)) (sym (is g (goal.at.returns-clause-unlisted g c).After-pend_tail).store) c.fill_zero.ensures.laws.unlisted

pub returns-clause-taken : goal.returns-clause-taken
returns-clause-taken g c =
    let w = world_seen c.args.world.now in
    let i = is g (goal.at.returns-clause-taken g c).After-pend_tail in
    let taken = subst (λ (s : StoreSeen). TakesFor c.args.world.now.store s c.args.name i.frame) (sym i.store) i.takes.takes in
    record {
      lost = loses w (world_seen c.pend_tail.new.world) taken.laws.sound taken.laws.lost;
      tails = pends-next w c.args.world.now.pending c.pend_tail.new.world.pending c.next_name-lost.result c.next_name-lost.ensures (record { bits = c.pend_tail.ensures.pends.bits; below = c.pend_tail.ensures.pends.below });
    }

pub returns-clause-modified : goal.returns-clause-modified
returns-clause-modified g c =
    let w = world_seen c.args.world.now in
    let i = is g (goal.at.returns-clause-modified g c).After-pend_tail in
    let slots : Bool = c.args.name.object == 64 in
    subst (λ (v : World). ModifiesOnly (λ n. (n ≡ c.args.name) × (slots ≡ true)) w v) (sym (ap world_seen c.pend_tail.ensures.rest))
    (fill-modifies-where w (record w { store = c.fill_zero.new.self }) c.args.name slots (λ notes table. zeros) c.fill_zero.ensures.laws refl c.requires.fits.0 i.frame c.requires.fits.1 i.takes.takes.next i.takes.takes.home
    (of-next (next_frame w.store) i.frame (λ frame. row_at c.fill_zero.new.self.rows frame ≡ fresh_row slots) i.takes.takes.next c.fill_zero.ensures.laws.row))

pub returns-clause-pages : goal.returns-clause-pages
returns-clause-pages g c = λ spaces fits.
    let w = world_seen c.args.world.now in
    let i = is g (goal.at.returns-clause-pages g c).After-pend_tail in
    subst (λ (v : World). WorldStep w v spaces stays (is_name (next_name w.store))) (sym (ap world_seen c.pend_tail.ensures.rest))
    (fill-step w spaces c.fill_zero.new.self c.args.name i.frame fits i.takes c.requires.exists c.requires.blank)
