use Rattle.std.proofs.Common.{◌+◌, true, false, refl, sym, ap, ◌∙◌, arith}
use Rattle.std.proofs.lemmas.Bool.{lt-leb, le-leb}
use Rattle.seg_vn.specs.addr_space.Space.{page_total}
use Rattle.seg_vn.proofs.addr_space.Totals.{total-within}
use Rattle.seg_vn.specs.flat_model.Words.{pages_in}
use Rattle.seg_vn.specs.vm_types.Prot.{is_within}
use Rattle.seg_vn.specs.vm_world.Words.{memory}
use Rattle.mmap_calls.proofs.GapMaps.{gapless}
use Rattle.mmap_calls.proofs.refusals.refusal_without_gap.Goals as goal

pub returns-then-not-is_object_there : goal.returns-then-not-is_object_there
returns-then-not-is_object_there g c = λ spaces p fits.
    gapless (memory c.args.world.now spaces) p c.args.space.now.parts c.args.world.now.zeros fits c.args.request.now c.requires.valid c.requires.none false _ _ (sym c.is_object_there.ensures ∙ c.if-not-is_object_there.true) refl refl

pub returns-then-not-is_within : goal.returns-then-not-is_within
returns-then-not-is_within g c = λ spaces p fits.
    gapless (memory c.args.world.now spaces) p c.args.space.now.parts c.args.world.now.zeros fits c.args.request.now c.requires.valid c.requires.none true false _ (sym c.is_object_there.ensures ∙ c.if-not-is_object_there.false)
    (ap (is_within c.args.request.now.prot) (sym c.most_allowed-max.ensures) ∙ sym c.is_within.ensures ∙ c.if-not-is_within.true) refl

pub overflow_add-total : goal.overflow_add-total
overflow_add-total g c =
    let few = total-within 1 c.args.space.now.parts c.pages.ensures.ordered in
    let total = c.pages.ensures.total in
    let len = c.requires.request.length in
    let n = c.pages_in.ensures.pages in
    omega (arith, few, total, len, n)

pub returns-then-total-gt-MOST_PAGES : goal.returns-then-total-gt-MOST_PAGES
returns-then-total-gt-MOST_PAGES g c = λ spaces p fits.
    let more = c.if-total-gt-MOST_PAGES.true in
    let total = c.pages.ensures.total in
    let n = c.pages_in.ensures.pages in
    gapless (memory c.args.world.now spaces) p c.args.space.now.parts c.args.world.now.zeros fits c.args.request.now c.requires.valid c.requires.none true true false (sym c.is_object_there.ensures ∙ c.if-not-is_object_there.false)
    (ap (is_within c.args.request.now.prot) (sym c.most_allowed-max.ensures) ∙ sym c.is_within.ensures ∙ c.if-not-is_within.false)
    (lt-leb (page_total c.args.space.now.parts + pages_in c.args.request.now.length) 65536 (omega (arith, more, total, n)))

pub returns : goal.returns
returns g c = λ spaces p fits.
    let few = c.if-total-gt-MOST_PAGES.false in
    let total = c.pages.ensures.total in
    let n = c.pages_in.ensures.pages in
    gapless (memory c.args.world.now spaces) p c.args.space.now.parts c.args.world.now.zeros fits c.args.request.now c.requires.valid c.requires.none true true true (sym c.is_object_there.ensures ∙ c.if-not-is_object_there.false)
    (ap (is_within c.args.request.now.prot) (sym c.most_allowed-max.ensures) ∙ sym c.is_within.ensures ∙ c.if-not-is_within.false)
    (le-leb (page_total c.args.space.now.parts + pages_in c.args.request.now.length) 65536 (omega (arith, few, total, n)))
