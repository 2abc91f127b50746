use Rattle.std.proofs.Common.{◌≡◌, sym, ap, ◌∙◌, subst}
use Rattle.std.specs.Prelude.{IfSome}
use Rattle.page_store.specs.page_hash.Names.{is_name}
use Rattle.page_store.specs.Seen.{StoreSeen, IsListedFrame, residence}
use Rattle.page_store.specs.Steps.{next_frame, next_name}
use Rattle.vm_world.specs.MemoryFits.{MemoryFits}
use Rattle.vm_world.specs.Segments.{Spaces}
use Rattle.vm_world.specs.Serving.{LosesFrame, ModifiesNone}
use Rattle.vm_world.specs.World.{World, world_seen}
use Rattle.vm_world.specs.WorldSteps.{WorldStep, stays}
use Rattle.seg_ops.specs.Copies.{HasBytes, bytes_kept}
use Rattle.seg_ops.proofs.FreedFrames.{IsFreed, freed}
use Rattle.seg_ops.proofs.NewlyModified.{freed-modifies}
use Rattle.seg_ops.proofs.Pending.{next-there, pends-next}
use Rattle.seg_ops.proofs.StillSteps.{memory_of}
use Rattle.seg_ops.proofs.frees.free_next.Given.{Over}
use Rattle.seg_ops.proofs.frees.free_next.Goals.{After-pend_tail}
use Rattle.seg_ops.proofs.frees.free_next.Goals as goal

pub pend_tail-requires-clause-exists : goal.pend_tail-requires-clause-exists
pend_tail-requires-clause-exists g c = next-there (world_seen c.args.world.now) c.requires.fits.0 c.next_name-lost.result c.requires.fits.1 c.next_name-lost.ensures

is : (g : Over) (c : After-pend_tail g) (spaces : Spaces) → MemoryFits (memory_of (world_seen c.args.world.now) spaces) → IsFreed (world_seen c.args.world.now) c.give_up.new.store spaces
is g c spaces fits = freed (world_seen c.args.world.now) spaces c.give_up.new.store c.next_name-lost.result fits c.next_name-lost.ensures c.give_up.ensures.new c.give_up.ensures.laws

store : (g : Over) (c : After-pend_tail g) → c.pend_tail.new.world.store ≡ c.give_up.new.store
store g c = ap (λ v. v.store) c.pend_tail.ensures.rest

pub returns-clause-same : goal.returns-clause-same
returns-clause-same g c =
    let at = (goal.at.returns-clause-same g c).After-pend_tail in
    ap next_frame (store g at) ∙ (is g at c.requires.fits.0 c.requires.fits.1).same

pub returns-clause-free : goal.returns-clause-free
returns-clause-free g c =
    let at = (goal.at.returns-clause-free g c).After-pend_tail in
    ap next_name (store g at) ∙ (is g at c.requires.fits.0 c.requires.fits.1).free

pub returns-clause-taken : goal.returns-clause-taken
returns-clause-taken g c =
    let w = world_seen c.args.world.now in
    let at = (goal.at.returns-clause-taken g c).After-pend_tail in
    record {
      lost = subst (λ (v : World). IfSome (next_name w.store) (λ name. LosesFrame w v name)) (sym (ap world_seen c.pend_tail.ensures.rest)) (is g at c.requires.fits.0 c.requires.fits.1).took;
      tails = pends-next w c.args.world.now.pending c.pend_tail.new.world.pending c.next_name-lost.result c.next_name-lost.ensures (record { bits = c.pend_tail.ensures.pends.bits; below = c.pend_tail.ensures.pends.below });
    }

pub returns-clause-pages : goal.returns-clause-pages
returns-clause-pages g c = λ spaces fits.
    let at = (goal.at.returns-clause-pages g c).After-pend_tail in
    subst (λ (v : World). WorldStep (world_seen c.args.world.now) v spaces stays (is_name (next_name c.args.world.now.store))) (sym (ap world_seen c.pend_tail.ensures.rest)) (is g at spaces fits).step

pub returns-clause-modified : goal.returns-clause-modified
returns-clause-modified g c =
    let w = world_seen c.args.world.now in
    subst (λ (v : World). ModifiesNone w v) (sym (ap world_seen c.pend_tail.ensures.rest)) (freed-modifies w c.requires.fits.0 c.give_up.new.store c.next_name-lost.result c.requires.fits.1 c.next_name-lost.ensures c.give_up.ensures.new c.give_up.ensures.laws)

pub returns-clause-homes : goal.returns-clause-homes
returns-clause-homes g c = λ page frame home unlisted.
    let at = (goal.at.returns-clause-homes g c).After-pend_tail in
    ap (λ (s : StoreSeen). residence s page) (store g at) ∙ (is g at c.requires.fits.0 c.requires.fits.1).homes page frame home unlisted

pub returns-clause-lists : goal.returns-clause-lists
returns-clause-lists g c = λ frame l.
    let at = (goal.at.returns-clause-lists g c).After-pend_tail in
    (is g at c.requires.fits.0 c.requires.fits.1).lists frame (subst (λ (s : StoreSeen). IsListedFrame s frame) (store g at) l)

pub returns-clause-absent : goal.returns-clause-absent
returns-clause-absent g c = λ page none.
    let at = (goal.at.returns-clause-absent g c).After-pend_tail in
    ap (λ (s : StoreSeen). residence s page) (store g at) ∙ (is g at c.requires.fits.0 c.requires.fits.1).absent page none

pub returns-clause-bytes : goal.returns-clause-bytes
returns-clause-bytes g c = λ known page frame home later.
    let w = world_seen c.args.world.now in
    let at = (goal.at.returns-clause-bytes g c).After-pend_tail in
    subst (λ (v : World). HasBytes v page (bytes_kept w page)) (sym (ap world_seen c.pend_tail.ensures.rest)) ((is g at c.requires.fits.0 c.requires.fits.1).bytes known.0 page frame known.1 home later)
