use Rattle.std.proofs.Common.{◌≡◌, ◌+◌, ◌<◌, ℕ, length, vec_len, ap, ◌∙◌, arith}
use Rattle.std.specs.Prelude.{slice_index_or, None}
use Rattle.std.specs.FinSet as set
use Rattle.std.proofs.lemmas.Grind.{get_or_default_zero}
use Rattle.seg_vn.specs.page_store.Notes.{no_notes}
use Rattle.seg_vn.specs.vm_world.FlatMemory.{Memory}
use Rattle.seg_vn.specs.vm_world.World.{world_seen}
use Rattle.mmap_calls.specs.GivenUp.{pages_given}
use Rattle.mmap_calls.proofs.ZerosGone.{given-more, given-next}
use Rattle.mmap_calls.proofs.MapResults.{given-within}
use Rattle.mmap_calls.proofs.refusals.given_up.Goals as goal

-- the number that is looked at, and what is given up with it
within : (g : _) (c : goal.After-pages_given-up g) → c.loop-number.number < length c.args.shown.now.items
within g c =
    let end = c.len-number-end.ensures in
    let test = c.loop-number-test.true in
    let len : vec_len c.args.shown.now ≡ length c.args.shown.now.items = c.args.shown.now.ok.0 in
    omega (arith, end, test, len)

pub loop-number-preserved : goal.loop-number-preserved
loop-number-preserved g c =
    let count = c.index.ensures ∙ get_or_default_zero c.args.shown.now.items c.loop-number.number c.index.result.now (within g c) ∙ c.requires.shown c.loop-number.number in
    let given = c.pages_given-up.ensures ∙ ap (λ (k : ℕ). pages_given c.args.world.now.maps c.args.map.now.request.object c.loop-number.number k (slice_index_or c.args.world.now.zeros c.loop-number.number None)) count in
    let next = given-next c.args.world.now.maps c.args.world.now.zeros c.args.space.now.parts c.args.map.now.first (c.args.map.now.first + c.args.map.now.pages) c.args.map.now.request.object c.loop-number.number in
    let inv = c.loop-number.invariant in
    omega (arith, given, next, inv)

pub overflow_add-up : goal.overflow_add-up
overflow_add-up g c =
    let m : Memory = record { world = world_seen c.args.world.now; spaces = c.requires.fits.0 } in
    let all = given-within m set.empty no_notes c.requires.fits.1 c.args.space.now.parts c.args.world.now.zeros c.requires.fits.2 c.args.map.now.first c.args.map.now.pages c.args.map.now.request.object c.requires.mapping.there in
    let sound = c.requires.fits.2.memory.counts.sound.fits in
    let few = c.requires.fits.2.memory.counts.sound.reserved in
    let len = c.requires.len in
    let lt = within g c in
    let more = given-more c.args.world.now.maps c.args.world.now.zeros c.args.space.now.parts c.args.map.now.first (c.args.map.now.first + c.args.map.now.pages) c.args.map.now.request.object (c.loop-number.number + 1) (length c.args.world.now.zeros) (omega (arith, lt, len)) in
    let count = c.index.ensures ∙ get_or_default_zero c.args.shown.now.items c.loop-number.number c.index.result.now lt ∙ c.requires.shown c.loop-number.number in
    let given = c.pages_given-up.ensures ∙ ap (λ (k : ℕ). pages_given c.args.world.now.maps c.args.map.now.request.object c.loop-number.number k (slice_index_or c.args.world.now.zeros c.loop-number.number None)) count in
    let next = given-next c.args.world.now.maps c.args.world.now.zeros c.args.space.now.parts c.args.map.now.first (c.args.map.now.first + c.args.map.now.pages) c.args.map.now.request.object c.loop-number.number in
    let inv = c.loop-number.invariant in
    omega (arith, all, sound, few, more, given, next, inv)
