use Rattle.std.proofs.Common.{◌≡◌, ◌+◌, ◌<◌, ◌^◌, List, length, Option, Some, sym, ap, ◌∙◌, subst, arith}
use Rattle.std.specs.Prelude.{is_some}
use Rattle.seg_ops.specs.anon_map.Maps.{IsMapThere, places_of}
use Rattle.seg_ops.specs.anon_slots.Slots.{count_at}
use Rattle.seg_ops.specs.hat_layer.declared.translation.Translation.{Translation}
use Rattle.seg_ops.specs.vm_world.CountsFit.{slots_for_part}
use Rattle.seg_ops.specs.vm_world.ForkSteps.{maps_copied}
use Rattle.seg_ops.specs.vm_world.World.{world_seen}
use Rattle.seg_ops.specs.vm_world.declared.world.World.{World}
use Rattle.seg_ops.proofs.Modified.{modifies-same, modifies-tables, modifies-then}
use Rattle.seg_vn.specs.Copied.{HasNoWriters}
use Rattle.seg_vn.proofs.CopiedSegments.{count-few, no-writers, slots-none, slots-own}
use Rattle.seg_vn.proofs.LeftSegments.{own-is, part-within}
use Rattle.seg_vn.proofs.dups.copy_own.Goals as goal

pub returns-in_err-map-clause-rest : goal.returns-in_err-map-clause-rest
returns-in_err-map-clause-rest g c =
    let w = c.args.world.now in
    let r = c.requires.part in
    let z = slots-none (world_seen w) r.0 c.args.space c.args.first c.args.segment r.1 c.in_err-map.was in
    let e : w.anon.reserved ≡ w.anon.reserved + slots_for_part (record { first = c.args.first; pages = c.args.segment.pages; piece = c.args.segment }) = omega (arith, z) in
    λ i. record w { anon = record w.anon { reserved = e i } }

pub protect_places-requires-clause-there : goal.protect_places-requires-clause-there
protect_places-requires-clause-there g c = let r = c.requires.part in (own-is (world_seen c.args.world.now) r.0 c.args.space c.args.first c.args.segment r.1 c.in_ok-map.map c.in_ok-map.was).0

pub protect_places-requires-clause-within : goal.protect_places-requires-clause-within
protect_places-requires-clause-within g c =
    let r = c.requires.part in
    let size = (own-is (world_seen c.args.world.now) r.0 c.args.space c.args.first c.args.segment r.1 c.in_ok-map.map c.in_ok-map.was).2 in
    let within = part-within (world_seen c.args.world.now) r.0 c.args.space c.args.first c.args.segment r.1 in
    omega (arith, size, within)

pub copy_map-requires-clause-there : goal.copy_map-requires-clause-there
copy_map-requires-clause-there g c =
    let r = c.requires.part in
    subst (λ (v : World g.row.D.Denot). IsMapThere v.maps c.in_ok-map.map) (sym c.protect_places.ensures.rest) (own-is (world_seen c.args.world.now) r.0 c.args.space c.args.first c.args.segment r.1 c.in_ok-map.map c.in_ok-map.was).0

pub copy_map-requires-clause-roomy : goal.copy_map-requires-clause-roomy
copy_map-requires-clause-roomy g c =
    let r = c.requires.part in
    let size = (own-is (world_seen c.args.world.now) r.0 c.args.space c.args.first c.args.segment r.1 c.in_ok-map.map c.in_ok-map.was).2 in
    let same = ap (λ (v : World g.row.D.Denot). length (places_of v.maps c.in_ok-map.map)) c.protect_places.ensures.rest in
    let roomy = c.requires.roomy (ap is_some c.in_ok-map.was) in
    omega (arith, size, same, roomy)

pub copy_map-requires-clause-few : goal.copy_map-requires-clause-few
copy_map-requires-clause-few g c = λ s.
    let w = c.args.world.now in
    let r = c.requires.part in
    let slots = slots-own (world_seen w) r.0 c.args.space c.args.first c.args.segment r.1 c.in_ok-map.map c.in_ok-map.was in
    let room = c.requires.room in
    subst (λ (v : World g.row.D.Denot). count_at v.anon s + length (places_of v.maps c.in_ok-map.map) < 2 ^ 32) (sym c.protect_places.ensures.rest)
    (count-few w.anon w.maps (length (places_of w.maps c.in_ok-map.map)) s r.1.memory.counts (omega (arith, slots, room)))

pub copy_map-requires-clause-room : goal.copy_map-requires-clause-room
copy_map-requires-clause-room g c =
    let w = c.args.world.now in
    let r = c.requires.part in
    let slots = slots-own (world_seen w) r.0 c.args.space c.args.first c.args.segment r.1 c.in_ok-map.map c.in_ok-map.was in
    let room = c.requires.room in
    let same = ap (λ (v : World g.row.D.Denot). v.anon.reserved + length (places_of v.maps c.in_ok-map.map)) c.protect_places.ensures.rest in
    let many = ap (λ (v : World g.row.D.Denot). length v.anon.counts) c.protect_places.ensures.rest in
    omega (arith, slots, room, same, many)

pub returns-clause-writers : goal.returns-clause-writers
returns-clause-writers g c = λ spaces part.
    subst (λ (ps : List (Option Translation)). HasNoWriters ps spaces c.args.segment.own) (sym (ap (λ (v : World g.row.D.Denot). v.hat.places) c.copy_map.ensures.new))
    (no-writers (world_seen c.args.world.now) (world_seen c.protect_places.new.world) spaces c.args.space c.args.first c.in_ok-map.map c.args.segment part (c.protect_places.ensures.keeps spaces part.memory).memory
    (ap (λ (v : World g.row.D.Denot). v.maps) c.protect_places.ensures.rest) c.in_ok-map.was c.protect_places.ensures.none)

pub returns-clause-rest : goal.returns-clause-rest
returns-clause-rest g c =
    let w = c.args.world.now in
    let n = c.copy_map.new.world in
    let map = c.in_ok-map.map in
    let r = c.requires.part in
    let slots = slots-own (world_seen w) r.0 c.args.space c.args.first c.args.segment r.1 map c.in_ok-map.was in
    let e : n ≡ record w { anon = record w.anon { counts = n.anon.counts; reserved = w.anon.reserved + length (places_of w.maps map) }; maps = maps_copied w.maps (Some map) c.copy_map.result; hat = c.protect_places.new.world.hat } =
    c.copy_map.ensures.new
    ∙ ap (λ (v : World g.row.D.Denot). record v { anon = record v.anon { counts = n.anon.counts; reserved = v.anon.reserved + length (places_of v.maps map) }; maps = maps_copied v.maps (Some map) c.copy_map.result }) c.protect_places.ensures.rest in
    let maps = ap (λ (v : World g.row.D.Denot). v.maps) e in
    let hat = ap (λ (v : World g.row.D.Denot). v.hat) e in
    e ∙ (λ i. record w { anon = record w.anon { counts = n.anon.counts; reserved = w.anon.reserved + sym slots i }; maps = sym maps i; hat = sym hat i })

pub returns-in_err-map-clause-modified : goal.returns-in_err-map-clause-modified
returns-in_err-map-clause-modified g c = modifies-same (world_seen c.args.world.now)

pub returns-clause-modified : goal.returns-clause-modified
returns-clause-modified g c =
    let v = c.protect_places.new.world in
    let n = c.copy_map.new.world in
    modifies-then (world_seen c.args.world.now) (world_seen v) (world_seen n) c.protect_places.ensures.modified
    (modifies-tables (world_seen v) (world_seen n) (ap (λ (w : World g.row.D.Denot). w.store) c.copy_map.ensures.new) (ap (λ (w : World g.row.D.Denot). w.hat) c.copy_map.ensures.new))
