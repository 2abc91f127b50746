use Rattle.std.proofs.Common.{◌≡◌, ◌<◌, ◌≤◌, length, refl, sym, ap, ◌∙◌, subst}
use Rattle.std.specs.Prelude.{IsSome}
use Rattle.seg_ops.specs.flat_model.Words.{pages_in}
use Rattle.seg_ops.specs.vnode_files.Files.{FilesSeen, vnode_at, growth_of}
use Rattle.seg_ops.specs.vm_world.Wants.{IsGapPage}
use Rattle.seg_ops.specs.vm_world.World.{world_seen}
use Rattle.seg_ops.proofs.Modified.{modifies-tables}
use Rattle.seg_ops.proofs.NewlyModified.{then-none}
use Rattle.seg_map.specs.Ends.{SetsEnd}
use Rattle.seg_map.proofs.longer.make_longer.Given.{Over}
use Rattle.seg_map.proofs.longer.make_longer.Goals.{After-put_gap}
use Rattle.seg_map.proofs.longer.make_longer.Goals as goal

-- the records stay while zeros are put
same-files : (g : Over) (c : After-put_gap g) → c.put_gap.new.world.files ≡ c.args.world.now.files
same-files g c = ap (λ w. w.files) c.put_gap.ensures.rest

pub set_end-requires-clause-file : goal.set_end-requires-clause-file
set_end-requires-clause-file g c = subst (λ (s : FilesSeen). c.args.file < length s.files) (sym (same-files g (goal.at.set_end-requires-clause-file g c).After-put_gap)) c.requires.file

pub set_end-requires-clause-room : goal.set_end-requires-clause-room
set_end-requires-clause-room g c = subst (λ (s : FilesSeen). IsSome (growth_of s c.args.file (pages_in c.args.end))) (sym (same-files g (goal.at.set_end-requires-clause-room g c).After-put_gap)) c.requires.room

pub set_end-requires-clause-some : goal.set_end-requires-clause-some
set_end-requires-clause-some g c =
    subst (λ (s : FilesSeen). 1 ≤ length (vnode_at s c.args.file).info.extents) (sym (same-files g (goal.at.set_end-requires-clause-some g c).After-put_gap)) (c.requires.fits.1.files.some c.args.file c.requires.file)

pub returns-clause-longer : goal.returns-clause-longer
returns-clause-longer g c = λ spaces fits extents grown.
    c.put_gap.ensures.may spaces fits c.set_end.new.files extents
    (c.set_end.ensures.sets extents (ap (λ (s : FilesSeen). growth_of s c.args.file (pages_in c.args.end)) (ap (λ w. w.files) c.put_gap.ensures.rest) ∙ grown))

pub returns-clause-sets : goal.returns-clause-sets
returns-clause-sets g c = λ extents grown.
    let same = ap (λ w. w.files) c.put_gap.ensures.rest in
    subst (λ (s : FilesSeen). SetsEnd s c.set_end.new.files c.args.file c.args.end extents) same
    (c.set_end.ensures.sets extents (ap (λ (s : FilesSeen). growth_of s c.args.file (pages_in c.args.end)) same ∙ grown))

-- the end is set behind it, which no page sees
pub returns-clause-modified : goal.returns-clause-modified
returns-clause-modified g c =
    let old = world_seen c.args.world.now in
    let mid = world_seen c.put_gap.new.world in
    let new = record mid { files = c.set_end.new.files } in
    then-none (IsGapPage old c.args.file c.args.end) old mid new c.put_gap.ensures.modified (modifies-tables mid new refl refl)
