use Rattle.std.proofs.Common.{◌≡◌, ◌+◌, ◌-◌, ◌<◌, ◌^◌, List, Option, Some, None, sym, ap, ◌∙◌, subst, arith}
use Rattle.std.specs.Prelude.{IsSome}
use Rattle.seg_ops.specs.anon_map.Maps.{Map, IsMapThere, IsUnused, holders_of}
use Rattle.seg_ops.specs.vm_world.CountsFit.{slots_for_part}
use Rattle.seg_ops.specs.vm_world.ForkSteps.{CountsMore, copied_piece, maps_copied, slots_held}
use Rattle.seg_ops.specs.vm_world.MapSteps.{maps_held}
use Rattle.seg_ops.specs.vm_world.World.{world_seen}
use Rattle.seg_ops.specs.vm_world.declared.segment.Segment.{Segment}
use Rattle.seg_ops.specs.vm_world.declared.world.World.{World}
use Rattle.seg_ops.proofs.vm_world.KeptMaps.{same-holders, same-there}
use Rattle.seg_ops.proofs.Modified.{modifies-tables, modifies-then}
use Rattle.seg_vn.specs.Cuts.{IsPartAt}
use Rattle.seg_vn.specs.Copied.{HasNoWriters, KeepsPlaces}
use Rattle.seg_vn.proofs.CopiedSegments.{copied-else, copied-keeps, copy-changes}
use Rattle.seg_vn.proofs.LeftSegments.{shown-is}
use Rattle.seg_vn.proofs.segment.VnSeg.dup_into.Goals as goal

pub copy_own-own-requires-clause-part : goal.copy_own-own-requires-clause-part
copy_own-own-requires-clause-part g c = let r = c.requires.part in (r.0, subst (λ (s : Segment). IsPartAt (world_seen c.args.world.now) r.0 c.args.space c.args.first s) (sym c.self.view_is) r.1)

pub hold_shown-requires : goal.hold_shown-requires
hold_shown-requires g c = record {
  there = λ map is.
      let r = c.requires.part in
      let k = c.copy_own-own.ensures.copied in
      let shown : c.args.self.now.shown ≡ Some map = ap (λ (s : Segment). s.shown) (sym c.self.view_is) ∙ is in
      let there = (shown-is (world_seen c.args.world.now) r.0 c.args.space c.args.first c.args.self.now r.1 map shown).0 in
      let few = c.requires.few map shown in
      let same = copied-else c.args.world.now.maps c.self.inside.segment.own k.0 map k.2 there in
      let put = maps_copied c.args.world.now.maps c.self.inside.segment.own k.0 in
      let held = same-holders c.args.world.now.maps put map same in
      subst (λ (ms : _). IsMapThere ms map × (holders_of ms map < 2 ^ 32 - 1)) (sym k.3) (same-there c.args.world.now.maps put map same there, omega (arith, held, few));
}

pub returns-clause-copied : goal.returns-clause-copied
returns-clause-copied g c =
    let w = c.args.world.now in
    let u = c.copy_own-own.new.world in
    let n = c.hold_shown.new.world in
    let k = c.copy_own-own.ensures.copied in
    let s = c.self.inside.segment in
    let whole : c.args.self.now ≡ s = sym c.self.view_is in
    let rest : n ≡ record w { anon = record w.anon { counts = u.anon.counts; reserved = w.anon.reserved + slots_for_part (record { first = c.args.first; pages = s.pages; piece = s }) }; maps = maps_held (maps_copied w.maps s.own k.0) s.shown; hat = u.hat } =
    c.hold_shown.ensures.held ∙ ap (λ (v : World g.row.D.Denot). record v { maps = maps_held v.maps s.shown }) c.copy_own-own.ensures.rest
    ∙ (λ i. record w { anon = record w.anon { counts = u.anon.counts; reserved = w.anon.reserved + slots_for_part (record { first = c.args.first; pages = s.pages; piece = s }) }; maps = maps_held (k.3 i) s.shown; hat = u.hat }) in
    record {
      number = k.0;
      is = (λ i. record s { own = k.1 i }) ∙ ap (copied_piece k.0) (sym whole);
      changes = λ spaces child part at zeros knows.
          let part_s = subst (λ (t : Segment). IsPartAt (world_seen w) spaces c.args.space c.args.first t) whole part in
          copy-changes (world_seen w) (world_seen n) spaces c.args.space child c.args.first k.0 c.args.self.now _ u.hat u.anon.counts part at zeros knows
          (c.copy_own-own.ensures.keeps spaces part.memory)
          (subst (λ (t : Segment). HasNoWriters u.hat.places spaces t.own) (sym whole) (c.copy_own-own.ensures.writers spaces part_s))
          (subst (λ (t : Segment). IsSome t.own → IsUnused w.maps k.0) (sym whole) k.2)
          (subst (λ (t : Segment). CountsMore w.anon.counts u.anon.counts (slots_held w.maps t.own)) (sym whole) c.copy_own-own.ensures.more)
          (subst (λ (t : Segment). t.own ≡ None → u.anon.counts ≡ w.anon.counts) (sym whole) c.copy_own-own.ensures.alike)
          c.requires.room
          (ap world_seen rest ∙ ap (λ (t : Segment). record (world_seen w) { anon = record w.anon { counts = u.anon.counts; reserved = w.anon.reserved + slots_for_part (record { first = c.args.first; pages = t.pages; piece = t }) }; maps = maps_held (maps_copied w.maps t.own k.0) t.shown; hat = u.hat }) (sym whole))
          ((λ i. record s { own = k.1 i }) ∙ ap (copied_piece k.0) (sym whole));
    }

pub returns-clause-kept : goal.returns-clause-kept
returns-clause-kept g c n there =
    let w = c.args.world.now in
    let r = c.requires.part in
    let k = c.copy_own-own.ensures.copied in
    let s = c.self.inside.segment in
    let maps = ap (λ (v : World g.row.D.Denot). v.maps) c.hold_shown.ensures.held ∙ ap (λ (ms : List (Option Map)). maps_held ms s.shown) k.3 in
    subst (λ (ms : List (Option Map)). KeepsPlaces w.maps ms n) (sym maps)
    (copied-keeps w.maps s.own s.shown k.0 n k.2 (λ m is. (shown-is (world_seen w) r.0 c.args.space c.args.first c.args.self.now r.1 m (ap (λ (t : Segment). t.shown) (sym c.self.view_is) ∙ is)).0) there)

pub returns-clause-modified : goal.returns-clause-modified
returns-clause-modified g c =
    let u = c.copy_own-own.new.world in
    let n = c.hold_shown.new.world in
    modifies-then (world_seen c.args.world.now) (world_seen u) (world_seen n) c.copy_own-own.ensures.modified
    (modifies-tables (world_seen u) (world_seen n) (ap (λ (w : World g.row.D.Denot). w.store) c.hold_shown.ensures.held) (ap (λ (w : World g.row.D.Denot). w.hat) c.hold_shown.ensures.held))
