use Rattle.std.proofs.Common.{◌≡◌, ℕ, ◌<◌, ◌≤◌, ◌-◌, ◌+◌, ◌^◌, List, length, Option, Some, None, refl, sym, ap, ◌∙◌, subst, arith}
use Rattle.std.specs.Prelude.{IsSome, is_some, option_map}
use Rattle.seg_ops.specs.anon_map.Maps.{Map, IsMapThere, IsUnused, holders_of, places_of}
use Rattle.seg_ops.specs.vm_world.MapSteps.{maps_cut, maps_held}
use Rattle.seg_ops.specs.vm_world.SegmentSteps.{upper_pages}
use Rattle.seg_ops.specs.vm_world.SpaceSteps.{first_pages}
use Rattle.seg_ops.specs.vm_world.World.{world_seen}
use Rattle.seg_ops.specs.vm_world.declared.segment.Segment.{Segment}
use Rattle.seg_ops.specs.vm_world.declared.world.World.{World}
use Rattle.seg_vn.proofs.CutSegments.{cut-held, most-held, still-long, cut-changes}
use Rattle.seg_vn.proofs.segment.VnSeg.cut_into.Goals as goal

pub cut_own-own-requires-clause-there : goal.cut_own-own-requires-clause-there
cut_own-own-requires-clause-there g c map is =
    let own : c.args.self.now.own ≡ Some map = ap (λ (s : Segment). s.own) (sym c.self.view_is) ∙ is in
    let owes = c.requires.may.own map own in
    let size = owes.1 in
    let below = c.requires.below in
    let room = c.requires.roomy (ap is_some own) in
    (owes.0, owes.2, omega (arith, size, below), omega (arith, size, room))

pub hold_shown-requires : goal.hold_shown-requires
hold_shown-requires g c = record {
  there = λ map is.
      let k = c.cut_own-own.ensures.cut in
      let whole = sym c.self.view_is in
      let owes = c.requires.may.shown map (ap (λ (s : Segment). s.shown) whole ∙ is) in
      let few = owes.1 in
      let held = cut-held c.args.world.now.maps c.self.inside.segment.own k.0 c.args.at map (λ n own. (c.requires.may.own n (ap (λ (s : Segment). s.own) whole ∙ own)).0) k.2 owes.0 in
      let same = held.1 in
      subst (λ (v : World g.row.D.Denot). IsMapThere v.maps map × (holders_of v.maps map < 2 ^ 32 - 1)) (sym k.3) (held.0, omega (arith, same, few));
}

pub returns-clause-cut : goal.returns-clause-cut
returns-clause-cut g c =
    let k = c.cut_own-own.ensures.cut in
    let whole = sym c.self.view_is in
    let upper = (λ i. record c.self.inside.segment { pages = c.self.inside.segment.pages - c.args.at; index = c.self.inside.segment.index + c.args.at; own = k.1 i }) ∙ ap (λ (s : Segment). upper_pages c.args.at k.0 s) (sym whole) in
    record {
      first = ap (λ (s : Segment). first_pages c.args.at s) (sym whole);
      later = (k.0, upper);
      changes = λ spaces p page part.
          cut-changes (world_seen c.args.world.now) spaces p page c.args.at c.args.self.now part k.0 (λ some. k.2 (subst (λ (s : Segment). IsSome s.own) whole some)) (world_seen c.hold_shown.new.world) _ _
          (ap world_seen (c.hold_shown.ensures.held ∙ ap (λ (v : World g.row.D.Denot). record v { maps = maps_held v.maps c.self.inside.segment.shown }) k.3)
          ∙ ap (λ (s : Segment). record (world_seen c.args.world.now) { maps = maps_held (maps_cut c.args.world.now.maps s.own k.0 c.args.at) s.shown }) (sym whole))
          (ap (λ (s : Segment). first_pages c.args.at s) (sym whole)) upper;
    }

new-own : (maps : List (Option Map)) (own result : Option ℕ) (number : ℕ) → result ≡ option_map (λ (map : ℕ). number) own → (IsSome own → IsUnused maps number) → (n : ℕ) → result ≡ Some n → IsUnused maps n
new-own maps None result number same unused n is = absurd (let z : None ≡ Some n = sym same ∙ is in cc)
new-own maps (Some map) result number same unused n is = subst (IsUnused maps) (let z : Some number ≡ Some n = sym same ∙ is in let e : number ≡ n = cc in e) (unused refl)

pub returns-clause-unused : goal.returns-clause-unused
returns-clause-unused g c n is = new-own c.args.world.now.maps c.self.inside.segment.own c.cut_own-own.result c.cut_own-own.ensures.cut.0 c.cut_own-own.ensures.cut.1 c.cut_own-own.ensures.cut.2 n is

pub returns-clause-held : goal.returns-clause-held
returns-clause-held g c n =
    let k = c.cut_own-own.ensures.cut in
    let s = c.self.inside.segment in
    let whole = sym c.self.view_is in
    let held = most-held c.args.world.now.maps s.own s.shown k.0 c.args.at (λ m is. (c.requires.may.own m (ap (λ (t : Segment). t.own) whole ∙ is)).0) k.2 (λ m is. (c.requires.may.shown m (ap (λ (t : Segment). t.shown) whole ∙ is)).0) n in
    let maps = ap (λ (v : World g.row.D.Denot). v.maps) (c.hold_shown.ensures.held ∙ ap (λ (v : World g.row.D.Denot). record v { maps = maps_held v.maps s.shown }) k.3) in
    subst (λ (ms : List (Option Map)). holders_of ms n ≤ holders_of c.args.world.now.maps n + 1) (sym maps) held

pub returns-clause-lengths : goal.returns-clause-lengths
returns-clause-lengths g c n ne there =
    let k = c.cut_own-own.ensures.cut in
    let s = c.self.inside.segment in
    let whole = sym c.self.view_is in
    let maps = ap (λ (v : World g.row.D.Denot). v.maps) (c.hold_shown.ensures.held ∙ ap (λ (v : World g.row.D.Denot). record v { maps = maps_held v.maps s.shown }) k.3) in
    ap (λ (ms : List (Option Map)). length (places_of ms n)) maps
    ∙ still-long c.args.world.now.maps s.own s.shown k.0 c.args.at (λ m is. (c.requires.may.own m (ap (λ (t : Segment). t.own) whole ∙ is)).0) k.2 (λ m is. (c.requires.may.shown m (ap (λ (t : Segment). t.shown) whole ∙ is)).0) n
    (λ is. ne (ap (λ (t : Segment). t.own) whole ∙ is)) there
