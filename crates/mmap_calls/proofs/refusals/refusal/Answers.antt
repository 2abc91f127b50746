use Rattle.std.proofs.Common.{◌≡◌, ◌≤◌, ◌+◌, ◌-◌, ℕ, true, false, length, refl, sym, ap, ◌∙◌, arith}
use Rattle.std.specs.FinSet as set
use Rattle.std.proofs.lemmas.Bool.{le-leb, lt-leb}
use Rattle.seg_vn.specs.addr_space.Space.{page_total}
use Rattle.seg_vn.proofs.addr_space.Totals.{total-within}
use Rattle.seg_vn.specs.flat_model.Words.{page, pages_in}
use Rattle.seg_vn.specs.page_store.Notes.{no_notes}
use Rattle.seg_vn.specs.vm_types.Prot.{is_within}
use Rattle.seg_vn.specs.vm_world.FlatMemory.{Memory}
use Rattle.seg_vn.specs.vm_world.World.{world_seen}
use Rattle.mmap_calls.specs.GivenUp.{given_up}
use Rattle.mmap_calls.specs.RangeCounts.{mapped_pages, slots_of_range}
use Rattle.mmap_calls.specs.Refusals.{most_allowed, pages_after, reserved_after, slots_for_pages}
use Rattle.mmap_calls.proofs.MapResults.{given-within, mapped-within, refusal-told}
use Rattle.mmap_calls.proofs.refusals.refusal.Given.{Over}
use Rattle.mmap_calls.proofs.refusals.refusal.Goals.{In_ok-counts}
use Rattle.mmap_calls.proofs.refusals.refusal.Goals as goal

-- what is mapped of the range, and what it reserves and gives up, is no more than all
module _ (g : Over) (c : In_ok-counts g) where
  abbrev m : Memory
  m = record { world = world_seen c.args.world.now; spaces = c.requires.fits.0 }

  first : c.args.map.now.first ≡ page c.args.map.now.request.addr
  first = c.requires.mapping.first

  many : c.args.map.now.pages ≡ pages_in c.args.map.now.request.length
  many = c.requires.mapping.pages

  mapped : c.in_ok-counts.counts.pages ≤ page_total c.args.space.now.parts
  mapped = let all = mapped-within m set.empty no_notes c.requires.fits.1 c.args.space.now.parts c.args.world.now.zeros c.requires.fits.2 c.args.map.now.first c.args.map.now.pages in let is = c.in_ok-counts.ensures.counts.pages in omega (arith, all, is)

  given : c.in_ok-counts.counts.slots + given_up c.args.world.now.maps c.args.world.now.zeros c.args.space.now.parts c.args.map.now.first (c.args.map.now.first + c.args.map.now.pages) c.args.map.now.request.object (length c.args.world.now.zeros) ≤ c.args.world.now.anon.reserved
  given =
      let all = given-within m set.empty no_notes c.requires.fits.1 c.args.space.now.parts c.args.world.now.zeros c.requires.fits.2 c.args.map.now.first c.args.map.now.pages c.args.map.now.request.object c.requires.mapping.there in
      let is = c.in_ok-counts.ensures.counts.slots in
      omega (arith, all, is)

  -- the two numbers that are tested
  total-after : pages_after c.args.space.now.parts c.args.map.now.request ≡ page_total c.args.space.now.parts - c.in_ok-counts.counts.pages + c.args.map.now.pages
  total-after = sym ((λ i. page_total c.args.space.now.parts - c.in_ok-counts.ensures.counts.pages i + c.args.map.now.pages) ∙ (λ i. page_total c.args.space.now.parts - mapped_pages c.args.space.now.parts (first i) (first i + many i) + many i))

  within : is_within c.args.map.now.request.prot (most_allowed (world_seen c.args.world.now) c.args.map.now.request.kind c.args.map.now.request.object) ≡ true
  within = ap (is_within c.args.map.now.request.prot) (sym c.requires.mapping.max) ∙ c.requires.mapping.within

  reserved-after : (up : ℕ) → up ≡ given_up c.args.world.now.maps c.args.world.now.zeros c.args.space.now.parts c.args.map.now.first (c.args.map.now.first + c.args.map.now.pages) c.args.map.now.request.object (length c.args.world.now.zeros)
      → reserved_after (world_seen c.args.world.now) c.args.world.now.zeros c.args.space.now.parts c.args.map.now.request
      ≡ c.args.world.now.anon.reserved - c.in_ok-counts.counts.slots - up + slots_for_pages c.args.map.now.request.kind c.args.map.now.request.object c.args.map.now.pages
  reserved-after up is =
      sym ((λ i. c.args.world.now.anon.reserved - c.in_ok-counts.ensures.counts.slots i - is i + slots_for_pages c.args.map.now.request.kind c.args.map.now.request.object c.args.map.now.pages)
      ∙ (λ i. c.args.world.now.anon.reserved - slots_of_range c.args.space.now.parts (first i) (first i + many i) - given_up c.args.world.now.maps c.args.world.now.zeros c.args.space.now.parts (first i) (first i + many i) c.args.map.now.request.object (length c.args.world.now.zeros)
      + slots_for_pages c.args.map.now.request.kind c.args.map.now.request.object (many i)))

pub overflow_sub-pages : goal.overflow_sub-pages
overflow_sub-pages g c =
    let few = mapped g (goal.at.overflow_sub-pages g c).In_ok-counts in
    let total = c.pages.ensures.total in
    omega (arith, few, total)

pub overflow_add-pages : goal.overflow_add-pages
overflow_add-pages g c =
    let few = total-within 1 c.args.space.now.parts c.pages.ensures.ordered in
    let total = c.pages.ensures.total in
    let high = c.requires.mapping.high in
    omega (arith, few, total, high)

pub returns-then-pages-counts-gt-MOST_PAGES : goal.returns-then-pages-counts-gt-MOST_PAGES
returns-then-pages-counts-gt-MOST_PAGES g c = λ spaces process fits.
    let d = (goal.at.returns-then-pages-counts-gt-MOST_PAGES g c).In_ok-counts in
    let more = c.if-pages-counts-gt-MOST_PAGES.true in
    let after = total-after g d in
    let total = c.pages.ensures.total in
    refusal-told (record { world = world_seen c.args.world.now; spaces = spaces }) process c.args.space.now.parts c.args.world.now.zeros fits c.args.map.now.request true true true false _ c.requires.mapping.valid c.requires.mapping.there (within g d)
    (lt-leb (pages_after c.args.space.now.parts c.args.map.now.request) 65536 (omega (arith, more, after, total))) refl

pub overflow_sub-kept : goal.overflow_sub-kept
overflow_sub-kept g c =
    let few = given g (goal.at.overflow_sub-kept g c).In_ok-counts in
    let value = c.reserved.ensures.value in
    omega (arith, few, value)

pub overflow_sub-kept-2 : goal.overflow_sub-kept-2
overflow_sub-kept-2 g c =
    let few = given g (goal.at.overflow_sub-kept-2 g c).In_ok-counts in
    let value = c.reserved.ensures.value in
    let up = c.given_up-up.ensures in
    omega (arith, few, value, up)

pub returns-then-from : goal.returns-then-from
returns-then-from g c = λ spaces process fits.
    let d = (goal.at.returns-then-from g c).In_ok-counts in
    let low = c.if-pages-counts-gt-MOST_PAGES.false in
    let after = total-after g d in
    let total = c.pages.ensures.total in
    let more = c.if-from.true in
    let value = c.reserved.ensures.value in
    let kept = reserved-after g d c.given_up-up.result c.given_up-up.ensures in
    let wanted = c.slots_for_pages-wanted.ensures in
    let slots = c.slots.ensures in
    refusal-told (record { world = world_seen c.args.world.now; spaces = spaces }) process c.args.space.now.parts c.args.world.now.zeros fits c.args.map.now.request true true true true false c.requires.mapping.valid c.requires.mapping.there (within g d)
    (le-leb (pages_after c.args.space.now.parts c.args.map.now.request) 65536 (omega (arith, low, after, total)))
    (lt-leb (reserved_after (world_seen c.args.world.now) c.args.world.now.zeros c.args.space.now.parts c.args.map.now.request) (length c.args.world.now.anon.counts) (omega (arith, more, value, kept, wanted, slots)))

pub returns : goal.returns
returns g c = λ spaces process fits.
    let d = (goal.at.returns g c).In_ok-counts in
    let low = c.if-pages-counts-gt-MOST_PAGES.false in
    let after = total-after g d in
    let total = c.pages.ensures.total in
    let few = c.if-from.false in
    let value = c.reserved.ensures.value in
    let kept = reserved-after g d c.given_up-up.result c.given_up-up.ensures in
    let wanted = c.slots_for_pages-wanted.ensures in
    let slots = c.slots.ensures in
    refusal-told (record { world = world_seen c.args.world.now; spaces = spaces }) process c.args.space.now.parts c.args.world.now.zeros fits c.args.map.now.request true true true true true c.requires.mapping.valid c.requires.mapping.there (within g d)
    (le-leb (pages_after c.args.space.now.parts c.args.map.now.request) 65536 (omega (arith, low, after, total)))
    (le-leb (reserved_after (world_seen c.args.world.now) c.args.world.now.zeros c.args.space.now.parts c.args.map.now.request) (length c.args.world.now.anon.counts) (omega (arith, few, value, kept, wanted, slots)))
