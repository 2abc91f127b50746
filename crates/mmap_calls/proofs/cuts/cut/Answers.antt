use Rattle.std.proofs.Common.{◌≡◌, ℕ, ◌+◌, List, Option, sym, ap, ◌∙◌, subst, arith}
use Rattle.std.specs.Prelude.{option_map}
use Rattle.std.specs.FinMap as finite
use Rattle.seg_vn.specs.addr_space.Space.{Part, part, piece_at}
use Rattle.seg_vn.specs.vm_world.SegmentSteps.{ChangesSegments, parts_cut}
use Rattle.seg_vn.specs.vm_world.World.{world_seen}
use Rattle.seg_vn.specs.vm_world.ZeroObjects.{KnowsZeros}
use Rattle.seg_vn.specs.vm_world.declared.segment.Segment.{Segment}
use Rattle.seg_vn.specs.vm_world.declared.world.World.{World}
use Rattle.seg_vn.proofs.vm_world.ComingParts.{zero-there}
use Rattle.seg_vn.specs.Clears.{StartsAt}
use Rattle.seg_vn.proofs.CutSegments.{may-be-cut}
use Rattle.mmap_calls.specs.Looks.{kind_and_object}
use Rattle.mmap_calls.specs.Protections.{most_at}
use Rattle.mmap_calls.specs.Rooms.{HasRoomAt}
use Rattle.mmap_calls.proofs.CutPlaces.{Across, across, same-piece, cut-part, room-here, few-here, cut-is, across-with, own-apart, starts-cut, starts-kept, look-kept, most-kept, room-kept, cut-known, same-space}
use Rattle.mmap_calls.proofs.cuts.cut.Goals.{In-Some-find_mut, After-split_at}
use Rattle.mmap_calls.proofs.cuts.cut.Given.{Over}
use Rattle.mmap_calls.proofs.cuts.cut.Goals as goal

pub returns-in_default-clause-changes : goal.returns-in_default-clause-changes
returns-in_default-clause-changes g c = λ spaces fits. same-space (world_seen c.args.world.now) c.args.world.now.zeros spaces c.args.process c.args.space.now.parts fits

pub returns-then-first-page-clause-changes : goal.returns-then-first-page-clause-changes
returns-then-first-page-clause-changes g c = λ spaces fits. same-space (world_seen c.args.world.now) c.args.world.now.zeros spaces c.args.process c.args.space.now.parts fits

-- the part that goes across
abbrev the_part : (g : Over) (c : In-Some-find_mut g) → Part Segment
the_part g c = part c.in-Some.first c.in-Some._pages c.in-Some._segment.now

x : (g : Over) (c : In-Some-find_mut g) → Across c.args.page (the_part g c)
x g c = across (world_seen c.args.world.now) c.args.world.now.zeros c.requires.fits.0 c.args.process c.args.space.now.parts c.args.page (the_part g c) c.requires.fits.1 c.in-Some.ensures.found c.if-first-page.false

lent : (g : Over) (c : In-Some-find_mut g) → c.in-Some._segment.now ≡ c.in-Some-find_mut.segment.now
lent g c = same-piece c.args.space.now.parts c.args.page (the_part g c) c.in-Some-find_mut.segment.now c.in-Some.ensures.found c.in-Some-find_mut.ensures.found

pub overflow_sub-page : goal.overflow_sub-page
overflow_sub-page g c = let low = (x g (goal.at.overflow_sub-page g c).In-Some-find_mut).low in omega (arith, low)

pub cut_into-upper-requires-clause-some : goal.cut_into-upper-requires-clause-some
cut_into-upper-requires-clause-some g c = let low = (x g (goal.at.cut_into-upper-requires-clause-some g c).In-Some-find_mut).low in omega (arith, low)

pub cut_into-upper-requires-clause-below : goal.cut_into-upper-requires-clause-below
cut_into-upper-requires-clause-below g c =
    let d = (goal.at.cut_into-upper-requires-clause-below g c).In-Some-find_mut in
    let a = x g d in
    let low = a.low in
    let high = a.high in
    let pages = a.pages in
    let same = ap (λ (s : Segment). s.pages) (lent g d) in
    omega (arith, low, high, pages, same)

pub cut_into-upper-requires-clause-may : goal.cut_into-upper-requires-clause-may
cut_into-upper-requires-clause-may g c =
    let d = (goal.at.cut_into-upper-requires-clause-may g c).In-Some-find_mut in
    may-be-cut (world_seen c.args.world.now) c.requires.fits.0 c.args.process c.args.page _ c.in-Some-find_mut.segment.now
    (cut-part (world_seen c.args.world.now) c.args.world.now.zeros c.requires.fits.0 c.args.process c.args.space.now.parts c.args.page (the_part g d) c.in-Some-find_mut.segment.now c.requires.fits.1 c.in-Some.ensures.found (x g d).low (lent g d))
    (λ n is. (let few = few-here _ _ (c.requires.room.0 + 1) c.args.world.now.maps c.args.space.now.parts c.args.page (the_part g d) c.in-Some-find_mut.segment.now c.requires.room.1 c.in-Some.ensures.found (lent g d) n is in omega (arith, few)))

pub cut_into-upper-requires-clause-roomy : goal.cut_into-upper-requires-clause-roomy
cut_into-upper-requires-clause-roomy g c =
    let d = (goal.at.cut_into-upper-requires-clause-roomy g c).In-Some-find_mut in
    room-here _ _ (c.requires.room.0 + 1) c.args.world.now.maps c.args.space.now.parts c.args.page (the_part g d) c.in-Some-find_mut.segment.now c.requires.room.1 c.in-Some.ensures.found (lent g d)

pub split_at-requires-clause-across : goal.split_at-requires-clause-across
split_at-requires-clause-across g c =
    let d = (goal.at.split_at-requires-clause-across g c).In-Some-find_mut in
    across-with c.args.space.now.parts c.args.page (the_part g d) c.cut_into-upper.new.self c.in-Some.ensures.found (x g d).low

is : (g : Over) (c : After-split_at g) → c.split_at.new.self.parts ≡ parts_cut c.args.page c.cut_into-upper.ensures.cut.later.0 (part c.in-Some.first c.in-Some._pages c.in-Some._segment.now) c.args.space.now.parts
is g c = cut-is c.split_at.new.self.parts c.args.space.now.parts c.args.page c.cut_into-upper.ensures.cut.later.0 (part c.in-Some.first c.in-Some._pages c.in-Some._segment.now) c.cut_into-upper.new.self c.cut_into-upper.result c.in-Some-find_mut.segment.now c.split_at.ensures.parts c.cut_into-upper.ensures.cut.first
    c.cut_into-upper.ensures.cut.later.1 (same-piece c.args.space.now.parts c.args.page (part c.in-Some.first c.in-Some._pages c.in-Some._segment.now) c.in-Some-find_mut.segment.now c.in-Some.ensures.found c.in-Some-find_mut.ensures.found)

pub returns-clause-starts : goal.returns-clause-starts
returns-clause-starts g c =
    let d = (goal.at.returns-clause-starts g c).In-Some-find_mut in
    subst (λ (ps : List (Part Segment)). StartsAt ps c.args.page) (sym (is g (goal.at.returns-clause-starts g c).After-split_at))
    (starts-cut c.args.page c.cut_into-upper.ensures.cut.later.0 c.args.space.now.parts (the_part g d) c.find.ensures.ordered c.in-Some.ensures.found (x g d))

pub returns-clause-kept : goal.returns-clause-kept
returns-clause-kept g c = λ q start.
    let d = (goal.at.returns-clause-kept g c).In-Some-find_mut in
    subst (λ (ps : List (Part Segment)). StartsAt ps q) (sym (is g (goal.at.returns-clause-kept g c).After-split_at))
    (starts-kept c.args.page c.cut_into-upper.ensures.cut.later.0 c.args.space.now.parts (the_part g d) c.find.ensures.ordered c.in-Some.ensures.found (x g d) q start)

pub returns-clause-rooms : goal.returns-clause-rooms
returns-clause-rooms g c = λ items roomy more q le has.
    let d = (goal.at.returns-clause-rooms g c).In-Some-find_mut in
    subst (λ (ps : List (Part Segment)). HasRoomAt items roomy more c.cut_into-upper.new.world.maps ps q) (sym (is g (goal.at.returns-clause-rooms g c).After-split_at))
    (room-kept c.args.page c.cut_into-upper.ensures.cut.later.0 c.args.space.now.parts (the_part g d) c.find.ensures.ordered c.in-Some.ensures.found (x g d) items roomy more c.args.world.now.maps c.cut_into-upper.new.world.maps q le c.cut_into-upper.ensures.held has)

pub returns-clause-shows : goal.returns-clause-shows
returns-clause-shows g c = λ q.
    let d = (goal.at.returns-clause-shows g c).In-Some-find_mut in
    ap (λ (ps : List (Part Segment)). option_map kind_and_object (piece_at ps q)) (is g (goal.at.returns-clause-shows g c).After-split_at)
    ∙ look-kept c.args.page c.cut_into-upper.ensures.cut.later.0 c.args.space.now.parts (the_part g d) c.find.ensures.ordered c.in-Some.ensures.found (x g d) q

pub returns-clause-most : goal.returns-clause-most
returns-clause-most g c = λ q.
    let d = (goal.at.returns-clause-most g c).In-Some-find_mut in
    ap (λ (ps : List (Part Segment)). most_at ps q) (is g (goal.at.returns-clause-most g c).After-split_at)
    ∙ most-kept c.args.page c.cut_into-upper.ensures.cut.later.0 c.args.space.now.parts (the_part g d) c.find.ensures.ordered c.in-Some.ensures.found (x g d) q

pub returns-clause-lengths : goal.returns-clause-lengths
returns-clause-lengths g c = λ z n there.
    let d = (goal.at.returns-clause-lengths g c).In-Some-find_mut in
    let fits = c.requires.fits.1 in
    c.cut_into-upper.ensures.lengths n
    (λ own. own-apart (world_seen c.args.world.now) c.args.world.now.zeros c.requires.fits.0 c.args.process c.args.space.now.parts c.args.page (the_part g d) z n fits c.in-Some.ensures.found there (ap (λ (s : Segment). s.own) (lent g d) ∙ own))
    (zero-there (record { world = world_seen c.args.world.now; spaces = c.requires.fits.0 }) fits.memory z n (fits.known z ∙ there))

pub returns-clause-changes : goal.returns-clause-changes
returns-clause-changes g c = λ spaces fits.
    let d = (goal.at.returns-clause-changes g c).In-Some-find_mut in
    let y : Part Segment = the_part g d in
    let part = cut-part (world_seen c.args.world.now) c.args.world.now.zeros spaces c.args.process c.args.space.now.parts c.args.page y c.in-Some-find_mut.segment.now fits c.in-Some.ensures.found (x g d).low (lent g d) in
    let whole = c.cut_into-upper.ensures.cut.changes spaces c.args.process c.args.page part in
    let same : c.cut_into-upper.new.world.zeros ≡ c.args.world.now.zeros = ap (λ (w : World g.row.D.Denot). w.zeros) {y = record c.args.world.now { maps = c.cut_into-upper.new.world.maps }} c.cut_into-upper.ensures.rest in
    record {
      known = subst (λ (zs : List (Option ℕ)). KnowsZeros zs (finite.insert spaces c.args.process c.split_at.new.self.parts)) (sym same)
          (subst (λ (ps : List (Part Segment)). KnowsZeros c.args.world.now.zeros (finite.insert spaces c.args.process ps)) (sym (is g (goal.at.returns-clause-changes g c).After-split_at))
          (cut-known (world_seen c.args.world.now) c.args.world.now.zeros spaces c.args.process c.args.space.now.parts c.args.page c.cut_into-upper.ensures.cut.later.0 y c.cut_into-upper.result c.in-Some-find_mut.segment.now fits c.in-Some.ensures.found (x g d).low (lent g d)
          c.cut_into-upper.ensures.cut.later.1 c.cut_into-upper.ensures.unused));
      changes = subst (λ (ps : List (Part Segment)). ChangesSegments c.args.process (record { world = world_seen c.args.world.now; spaces = spaces }) (record { world = world_seen c.cut_into-upper.new.world; spaces = finite.insert spaces c.args.process ps }) (λ F. F))
          (sym c.split_at.ensures.parts) whole;
    }
