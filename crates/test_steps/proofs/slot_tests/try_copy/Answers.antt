use Rattle.std.proofs.Common.{◌≡◌, true, false, sym, ◌∙◌, subst}
use Rattle.seg_ops.specs.flat_model.Words.{Page}
use Rattle.seg_ops.specs.page_hash.declared.PageName.{PageName}
use Rattle.seg_ops.specs.vm_world.World.{world_seen}
use Rattle.seg_ops.specs.Copies.{HasBytes, copied_bytes}
use Rattle.seg_ops.proofs.KeptBytes.{unlisted-has}
use Rattle.test_steps.specs.SlotTrials.{holding_page, holding_segment, holding_spaces}
use Rattle.test_steps.proofs.SlotTrialLemmas.{holding-changes}
use Rattle.test_steps.proofs.slot_tests.try_copy.Goals as goal

pub copy_slot-requires-clause-owned : goal.copy_slot-requires-clause-owned
copy_slot-requires-clause-owned c =
    let place = c.is_place.ensures c.if-not-is_place.false in
    (holding_spaces, 1, holding_page c.args.map 0, (holding_segment c.args.map, 0), c.requires.fits.memory, place.owns, place.unloaded)

pub copy_slot-requires-clause-bytes : goal.copy_slot-requires-clause-bytes
copy_slot-requires-clause-bytes c =
    let w = world_seen c.args.world.now in
    let name = c.page_of_slot-name.result in
    let home = sym c.resident.ensures.residence ∙ c.in-Home.is in
    let has = unlisted-has w holding_spaces name c.in-Home.frame c.requires.fits.memory home (λ l. let z : false ≡ true = sym c.if-listed.false ∙ c.listed.ensures.1 l in cc) in
    let bytes = copied_bytes w.store c.front_kept-front.result in
    subst (λ (n : PageName). HasBytes w n bytes) c.page_of_slot-name.ensures (subst (λ (b : Page). HasBytes w name b) (sym c.front_kept-front.ensures.bytes) has)

pub returns-else-listed : goal.returns-else-listed
returns-else-listed c =
    let place = c.is_place.ensures c.if-not-is_place.false in
    record { fits = holding-changes 1 (world_seen c.args.world.now) (world_seen c.copy_slot.new.world) c.requires.fits (c.copy_slot.ensures.changes holding_spaces 1 (holding_page c.args.map 0) (holding_segment c.args.map, 0) c.requires.fits.memory place.owns place.unloaded) }
