use Rattle.std.proofs.Common.{◌≡◌, ◌≤◌, ◌+◌, ℕ, List, length, get_or, sym, ap, ◌∙◌, arith}
use Rattle.std.proofs.lemmas.List.{length-replicate}
use Rattle.seg_vn.specs.addr_space.Space.{Part, IsInOrder, part}
use Rattle.seg_vn.proofs.addr_space.Totals.{total-within}
use Rattle.seg_vn.specs.vm_world.declared.segment.Segment.{Segment}
use Rattle.seg_vn.specs.vm_world.World.{world_seen}
use Rattle.mmap_calls.specs.RangeCounts.{count_within, pages_within, slots_within}
use Rattle.mmap_calls.proofs.PartsFrom.{sum_from, from-end, from-step, from-all, from-few}
use Rattle.mmap_calls.proofs.Owns.{OwnsPages, owns}
use Rattle.mmap_calls.proofs.Walked.{HasFew, pages-within, slots-within, objects-within, none-counted}
use Rattle.mmap_calls.proofs.counts.count_range.Goals as goal
use Rattle.mmap_calls.proofs.counts.count_range.Given.{Over}
use Rattle.mmap_calls.proofs.counts.count_range.Goals.{In-Some}

module _ (g : Over) (c : In-Some g) where
  abbrev parts : List (Part Segment)
  parts = c.args.space.now.parts

  abbrev here : Part Segment
  here = part c.in-Some.begin c.in-Some.pages c.in-Some.segment.now

  of-part : OwnsPages c.args.world.now.zeros here
  of-part = owns (world_seen c.args.world.now) c.args.world.now.zeros c.requires.fits.0 c.requires.fits.1 parts c.in-Some.begin here c.requires.fits.2 c.in-Some.ensures.1

  few-counted : (f : Part Segment → ℕ) → HasFew c.args.first c.args.end f → sum_from f parts c.loop-begin.below ≤ 0x80000
  few-counted f has =
      let order = (c.requires.fits.2.memory.segments.ordered c.requires.fits.1 c.args.space.now.parts c.requires.fits.2.here) in
      let few = from-few f c.loop-begin.below parts has.few 1 order in
      let all = total-within 1 parts order in
      omega (arith, few, all)

  next : (f : Part Segment → ℕ) → sum_from f parts c.in-Some.begin ≡ f here + sum_from f parts c.loop-begin.below
  next f = from-step f 1 c.in-Some.begin c.loop-begin.below parts here (c.requires.fits.2.memory.segments.ordered c.requires.fits.1 parts c.requires.fits.2.here) c.in-Some.ensures.0.0 c.in-Some.ensures.1 c.in-Some.ensures.0.2

pub loop-begin-init : goal.loop-begin-init
loop-begin-init g c =
    let parts : List (Part Segment) = c.args.space.now.parts in
    let order : IsInOrder 1 parts = c.requires.fits.2.memory.segments.ordered c.requires.fits.1 parts c.requires.fits.2.here in
    record {
      high = omega arith;
      pages = sym (from-end (pages_within c.args.first c.args.end) c.args.end parts (pages-within c.args.first c.args.end).past 1 order);
      slots = sym (from-end (slots_within c.args.first c.args.end) c.args.end parts (slots-within c.args.first c.args.end).past 1 order);
      shown = λ z. ap (λ (xs : List ℕ). get_or xs z 0) c.in_ok-tally.ensures.counts ∙ none-counted (length c.args.world.now.zeros) z
          ∙ sym (from-end (count_within c.args.first c.args.end z) c.args.end parts (objects-within c.args.first c.args.end z).past 1 order);
      len = ap length c.in_ok-tally.ensures.counts ∙ length-replicate (length c.args.world.now.zeros) 0;
    }

pub count_piece-requires : goal.count_piece-requires
count_piece-requires g c =
    let d = (goal.at.count_piece-requires g c).In-Some in
    let part = of-part g d in
    let some = part.some in
    let within = part.within in
    let below = c.in-Some.ensures.0.0 in
    let high = c.loop-begin.invariant.high in
    let inv = c.loop-begin.invariant in
    record {
      here = (omega (arith, below, high), c.in-Some.ensures.2, omega (arith, within));
      range = c.requires.range;
      some = let same = part.pages in omega (arith, some, same);
      own = part.own;
      listed = λ z is. let lt = part.listed z is in let len = inv.len in omega (arith, lt, len);
      few = record {
        pages = let e = inv.pages in let few = few-counted g d (pages_within c.args.first c.args.end) (pages-within c.args.first c.args.end) in omega (arith, e, few);
        slots = let e = inv.slots in let few = few-counted g d (slots_within c.args.first c.args.end) (slots-within c.args.first c.args.end) in omega (arith, e, few);
        shown = λ z. let e = inv.shown z in let few = few-counted g d (count_within c.args.first c.args.end z) (objects-within c.args.first c.args.end z) in omega (arith, e, few);
      };
    }

pub loop-begin-preserved : goal.loop-begin-preserved
loop-begin-preserved g c =
    let d = (goal.at.loop-begin-preserved g c).In-Some in
    let inv = c.loop-begin.invariant in
    record {
      high = let below = c.in-Some.ensures.0.0 in let high = inv.high in omega (arith, below, high);
      pages = let a = c.count_piece.ensures.pages in let b = inv.pages in let n = next g d (pages_within c.args.first c.args.end) in omega (arith, a, b, n);
      slots = let a = c.count_piece.ensures.slots in let b = inv.slots in let n = next g d (slots_within c.args.first c.args.end) in omega (arith, a, b, n);
      shown = λ z. let a = c.count_piece.ensures.shown z in let b = inv.shown z in let n = next g d (count_within c.args.first c.args.end z) in omega (arith, a, b, n);
      len = c.count_piece.ensures.len ∙ inv.len;
    }

pub loop-begin-smaller : goal.loop-begin-smaller
loop-begin-smaller g c = c.in-Some.ensures.0.0

pub returns-clause-counts : goal.returns-clause-counts
returns-clause-counts g c =
    let inv = c.loop-begin.invariant in
    let order = (c.requires.fits.2.memory.segments.ordered c.requires.fits.1 c.args.space.now.parts c.requires.fits.2.here) in
    let whole = λ (f : Part Segment → ℕ) (has : HasFew c.args.first c.args.end f). from-all f 1 c.loop-begin.below c.args.space.now.parts order (λ p some is lt. has.before p some (c.in_default.ensures p is lt)) in
    record {
      pages = inv.pages ∙ whole (pages_within c.args.first c.args.end) (pages-within c.args.first c.args.end);
      slots = inv.slots ∙ whole (slots_within c.args.first c.args.end) (slots-within c.args.first c.args.end);
      shown = λ z. inv.shown z ∙ whole (count_within c.args.first c.args.end z) (objects-within c.args.first c.args.end z);
    }
