use Rattle.std.proofs.Common.{◌≡◌, ℕ, ◌+◌, ◌<◌, false, Option, Some, None, length, refl, sym, ap, ◌∙◌, inl, inr, subst}
use Rattle.std.specs.Prelude.{nat_lt, option_map, option_and_then}
use Rattle.std.specs.Option.{option_map_or}
use Rattle.std.proofs.lemmas.Bool.{lt-ltb}
use Rattle.seg_ops.specs.anon_map.Maps.{IsMapThere, places_of}
use Rattle.seg_ops.specs.vm_types.declared.call.Object.{Object}
use Rattle.seg_ops.specs.vm_types.declared.call.Object.TheVariants as object
use Rattle.seg_ops.proofs.vm_world.FlatWhole.{some-inj}
use Rattle.seg_ops.specs.vm_world.Segments.{Spot, object_name}
use Rattle.seg_ops.specs.vm_world.Wants.{object_has}
use Rattle.seg_ops.specs.vm_world.World.{world_seen, slot_in, slot_name}
use Rattle.seg_ops.proofs.SlotOwners.{places_law}
use Rattle.seg_ops.proofs.StillSteps.{memory_of}
use Rattle.seg_vn.proofs.FaultPlaces.{own-there, file-at, new-private, private-has, zero-at, zero-map-at}
use Rattle.seg_vn.proofs.segment.VnSeg.object_page.Goals as goal

pub info-requires : goal.info-requires
info-requires g c = let o = c.requires.fits in file-at (world_seen c.args.world.now) o.0 o.1 o.2 (c.args.self.now, c.args.at) o.3 o.4 c.in-File.file (sym c.object-object.ensures.object ∙ c.in-File.is)

pub unreachable-requires : goal.unreachable-requires
unreachable-requires g c =
    let o = c.requires.fits in
    let w = world_seen c.args.world.now in
    let x : Spot = (c.args.self.now, c.args.at) in
    let own = private-has w o.0 o.1 o.2 x o.3 o.4 (new-private w o.0 o.1 o.2 x o.3 o.4 (sym c.object-object.ensures.object ∙ c.in-NewZero.is)) in
    c.in_default.not-Some own.0 (c.own.ensures ∙ own.1)

pub unreachable-requires-in_default-shown : goal.unreachable-requires-in_default-shown
unreachable-requires-in_default-shown g c =
    let o = c.requires.fits in
    let zero = zero-at (world_seen c.args.world.now) o.0 o.1 o.2 (c.args.self.now, c.args.at) o.3 o.4 c.in-Zero.field-0 (sym c.object-object.ensures.object ∙ c.in-Zero.is) in
    c.in_default-shown.not-Some zero.0 (c.shown.ensures ∙ zero.1)

pub pages-requires : goal.pages-requires
pages-requires g c =
    let o = c.requires.fits in
    let zero = zero-at (world_seen c.args.world.now) o.0 o.1 o.2 (c.args.self.now, c.args.at) o.3 o.4 c.in-Zero.field-0 (sym c.object-object.ensures.object ∙ c.in-Zero.is) in
    subst (λ (n : ℕ). IsMapThere c.args.world.now.maps n) (some-inj zero.0 c.in-Some-shown.map (sym zero.1 ∙ sym c.shown.ensures ∙ c.in-Some-shown.is)) zero.2

pub returns-in-Some : goal.returns-in-Some
returns-in-Some g c = record {
  shows = λ spaces p q fits here.
      let w = world_seen c.args.world.now in
      let x : Spot = (c.args.self.now, c.args.at) in
      let new : x.0.object ≡ object.NewZero = sym c.object-object.ensures.object ∙ c.in-NewZero.is in
      let own : x.0.own ≡ Some c.in-Some.map = sym c.own.ensures ∙ c.in-Some.is in
      let there = own-there w spaces p q x fits here c.in-Some.map own in
      record {
        none = ap (λ (ob : Object). object_name w.maps x.0.shown (x.0.index + x.1) ob) new;
        has = ap (λ (ob : Object). object_has w x.0.shown (x.0.index + x.1) ob) new;
        there = there.0;
        within = there.1;
        empty = sym (ap (option_and_then (λ (n : ℕ). slot_in w.maps n x.1)) own) ∙ c.requires.empty;
        zero = places_law.zeros (memory_of w spaces) p q c.in-Some.map x fits here own new;
        new = inl (new, own, refl);
      };
}

pub returns-in-None : goal.returns-in-None
returns-in-None g c = record {
  shows = λ spaces p q fits here.
      let w = world_seen c.args.world.now in
      let x : Spot = (c.args.self.now, c.args.at) in
      let z = c.in-Zero.field-0 in
      let m = c.in-Some-shown.map in
      let i = c.object-object.result.1 in
      let zero : x.0.object ≡ object.Zero z = sym c.object-object.ensures.object ∙ c.in-Zero.is in
      let shown : x.0.shown ≡ Some m = sym c.shown.ensures ∙ c.in-Some-shown.is in
      let at : i ≡ x.0.index + x.1 = c.object-object.ensures.index in
      let empty : slot_in w.maps m i ≡ None = sym c.get.ensures ∙ c.in-None.is in
      let within : i < length (places_of w.maps m) = subst (λ (n : ℕ). i < n) c.pages.ensures c.if-index-pages.false in
      let the = zero-at w spaces p q x fits here z zero in
      record {
        none = ap (λ (ob : Object). object_name w.maps x.0.shown (x.0.index + x.1) ob) zero
            ∙ ap (λ (k : ℕ). option_and_then (λ number. option_map slot_name (slot_in w.maps number k)) x.0.shown) (sym at)
            ∙ ap (option_and_then (λ number. option_map slot_name (slot_in w.maps number i))) shown
            ∙ ap (option_map slot_name) empty;
        has = ap (λ (ob : Object). object_has w x.0.shown (x.0.index + x.1) ob) zero
            ∙ ap (λ (k : ℕ). option_map_or (λ number. nat_lt k (length (places_of w.maps number))) x.0.shown false) (sym at)
            ∙ ap (λ (o : Option ℕ). option_map_or (λ number. nat_lt i (length (places_of w.maps number))) o false) shown
            ∙ lt-ltb i (length (places_of w.maps m)) within;
        there = subst (λ (n : ℕ). IsMapThere w.maps n) (some-inj the.0 m (sym the.1 ∙ shown)) the.2;
        within = within;
        empty = empty;
        zero = places_law.shown (memory_of w spaces) z m i fits (zero-map-at w spaces p q x fits here z m zero shown);
        new = inr (shown, sym at, z, zero);
      };
}
