use Rattle.vnode_files.proofs.FindLemmas.{find-passes}
use Rattle.std.proofs.Common.{◌≡◌, ◌+◌, Some, sym, ◌∙◌, arith, inl, inr}
use Rattle.std.specs.List.{find}
use Rattle.std.proofs.lemmas.Bool.{cases_lt}
use Rattle.volume_format.specs.Table.{all_extents}
use Rattle.volume_format.proofs.PlaceLemmas.{in_way-from, free-from, no-place}
use Rattle.volume_format.specs.Place.{is_in_way}
use Rattle.volume_format.proofs.table.least_place.Goals as goal

pub loop-start-smaller : goal.loop-start-smaller
loop-start-smaller c =
    let way = in_way-from c.loop-start.start (c.loop-start.start + c.args.pages) c.in-Some.extent
    (find-passes (is_in_way c.loop-start.start (c.loop-start.start + c.args.pages)) (all_extents c.args.entries.now) c.in-Some.extent (sym c.extent_in_way.ensures ∙ c.in-Some.is)) in
    omega (arith, way.high)

pub loop-start-preserved : goal.loop-start-preserved
loop-start-preserved c =
    let entries = all_extents c.args.entries.now in
    let end = c.loop-start.start + c.args.pages in
    let found : find (is_in_way c.loop-start.start end) entries ≡ Some c.in-Some.extent = sym c.extent_in_way.ensures ∙ c.in-Some.is in
    let way = in_way-from c.loop-start.start end c.in-Some.extent (find-passes (is_in_way c.loop-start.start end) entries c.in-Some.extent found) in
    record {
      first = omega (arith, way.high);
      small = omega arith;
      none = λ before below place. elim (cases_lt before c.loop-start.start) [
        | inl earlier ↦ c.loop-start.invariant.none before earlier place
        | inr later ↦ no-place c.args.blocks entries c.args.pages c.loop-start.start c.in-Some.extent found before later below place
      ];
    }

pub returns-in-None : goal.returns-in-None
returns-in-None c =
    let free = free-from (all_extents c.args.entries.now) c.loop-start.start (c.loop-start.start + c.args.pages) (sym c.extent_in_way.ensures ∙ c.in-None.is) in
    (record { first = c.loop-start.invariant.first; within = c.loop-start-test.true; free = free }, c.loop-start.invariant.none)

pub returns : goal.returns
returns c = λ start place. elim (cases_lt start c.loop-start.start) [
  | inl earlier ↦ c.loop-start.invariant.none start earlier place
  | inr later ↦ omega (arith, place.within, c.loop-start-test.false)
]
