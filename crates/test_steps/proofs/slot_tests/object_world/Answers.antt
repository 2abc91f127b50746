use Rattle.std.proofs.Common.{◌≡◌, ◌+◌, ℕ, List, Option, None, replicate, sym, ap, ◌∙◌, subst}
use Rattle.anon_map.specs.Maps.{Map, IsUnused, fresh_map, with_map}
use Rattle.anon_slots.specs.Slots.{AnonSlotsSeen}
use Rattle.seg_ops.specs.vm_world.World.{world_seen}
use Rattle.test_steps.specs.SlotTrials.{object_spaces}
use Rattle.test_steps.specs.PageTrials.{IsTrialIn}
use Rattle.test_steps.proofs.SlotTrialLemmas.{object-number, object-trial}
use Rattle.test_steps.proofs.slot_tests.object_world.Goals as goal

pub returns : goal.returns
returns c =
    let w = world_seen c.in_ok-world.world in
    let fit = c.in_ok-world.ensures in
    let number = c.in_ok-make.field-0 in
    let third : number ≡ 2 = object-number number (subst (λ (ms : List (Option Map)). IsUnused ms number) fit.maps c.in_ok-make.ensures.unused) in
    let maps : c.make.new.self ≡ with_map w.maps 2 (fresh_map (replicate 3 None)) = c.in_ok-make.ensures.made ∙ ap (λ (n : ℕ). with_map w.maps n (fresh_map (replicate 3 None))) third in
    subst (λ (a : AnonSlotsSeen). IsTrialIn object_spaces (record w { anon = a; maps = c.make.new.self })) (sym c.in-Ok.ensures.ok)
    (subst (λ (ms : List (Option Map)). IsTrialIn object_spaces (record w { anon = record w.anon { reserved = w.anon.reserved + 3 }; maps = ms })) (sym maps) (object-trial w fit.fits fit.anon fit.maps))
