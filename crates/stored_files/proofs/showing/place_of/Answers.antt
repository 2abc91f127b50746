use Rattle.std.proofs.Common.{ℕ, map, refl, ap, ◌∙◌, sym, arith, inl, inr}
use Rattle.std.specs.Prelude.{Some, slice_get}
use Rattle.std.proofs.lemmas.Bool.{cases_eq}
use Rattle.std.proofs.lemmas.List.{length-map}
use Rattle.std.proofs.lemmas.Option.{slice_get_within}
use Rattle.block_device.specs.DiskSeen.{DiskSeen}
use Rattle.stored_files.proofs.ShownFiles.{element_seen, element_there}
use Rattle.stored_files.proofs.showing.place_of.Goals as goal

pub loop-place-preserved : goal.loop-place-preserved
loop-place-preserved g c = λ k d low at is.
    let f = g.P.PageDisk.numbered in
    let x = c.index-disks-place.result in
    elim (cases_eq k c.loop-place.place) [
      | inl same ↦
          let here = element_seen f c.args.disks.now c.loop-place.place x d (ap (slice_get (map f c.args.disks.now)) (sym same) ∙ at) in
          c.if-found-number.false (c.number-found.ensures ∙ ap (λ (e : ℕ × DiskSeen). e.0) (ap f c.index-disks-place.is ∙ here) ∙ is)
      | inr other ↦ c.loop-place.invariant k d (omega (arith, low, other)) at is
    ]

pub returns-then-found-number-clause-there : goal.returns-then-found-number-clause-there
returns-then-found-number-clause-there g c =
    let f = g.P.PageDisk.numbered in
    let x = c.index-disks-place.result in
    let number = sym c.number-found.ensures ∙ c.if-found-number.true in
    ((f x).1, element_there f c.args.disks.now c.loop-place.place x c.loop-place-test.true c.index-disks-place.is ∙ ap (λ (n : ℕ). Some (n, (f x).1)) number)

pub unreachable-requires : goal.unreachable-requires
unreachable-requires g c =
    let f = g.P.PageDisk.numbered in
    let i = c.requires.0 in
    let d : ℕ × DiskSeen = (c.args.number, c.requires.1) in
    let inside = slice_get_within (map f c.args.disks.now) i d c.requires.2 in
    c.loop-place.invariant i d (omega (arith, inside, c.loop-place-test.false, length-map c.args.disks.now f)) c.requires.2 refl
