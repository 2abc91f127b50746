use Rattle.std.proofs.Common.{◌≡◌, ◌<◌, ◌≤◌, List, length, Option, refl, sym, ap, ◌∙◌, subst, arith}
use Rattle.std.specs.Prelude.{IsSome}
use Rattle.seg_ops.specs.page_hash.declared.PageName.{PageName}
use Rattle.seg_ops.specs.flat_model.Words.{pages_in}
use Rattle.seg_ops.specs.vnode_files.declared.extent.Extent.{Extent}
use Rattle.seg_ops.specs.vnode_files.declared.vnode.FileInfo.{FileInfo}
use Rattle.seg_ops.specs.vnode_files.Files.{FilesSeen, vnode_at, growth_of}
use Rattle.seg_ops.specs.vnode_files.Grow.{page_count}
use Rattle.seg_ops.specs.vm_world.Wants.{IsCutPage}
use Rattle.seg_ops.specs.vm_world.World.{world_seen}
use Rattle.seg_ops.proofs.Modified.{modifies-tables}
use Rattle.seg_ops.proofs.NewlyModified.{none-then, only-as, then-none}
use Rattle.seg_ops.proofs.StillSteps.{memory_of}
use Rattle.seg_map.specs.VoidedPages.{VoidsUpTo}
use Rattle.seg_map.proofs.Shortens.{infos-count, info-of, none-held, own-growth, rest-shorter, shortens}
use Rattle.seg_map.proofs.shorter.make_shorter.Given.{Over}
use Rattle.seg_map.proofs.shorter.make_shorter.Goals.{After-void_pages}
use Rattle.seg_map.proofs.shorter.make_shorter.Goals as goal

-- what the pages past the end came to, in some spaces
voids : (g : Over) (c : After-void_pages g) → VoidsUpTo (memory_of (world_seen c.args.world.now) c.requires.fits.0) (memory_of (world_seen c.void_pages.new.world) c.requires.fits.0) c.args.file c.args.end (pages_in (vnode_at c.args.world.now.files c.args.file).info.length)
voids g c = c.void_pages.ensures.voids c.requires.fits.0 c.requires.fits.1

info : (g : Over) (c : After-void_pages g) → (vnode_at c.void_pages.new.world.files c.args.file).info ≡ (vnode_at c.args.world.now.files c.args.file).info
info g c = info-of c.args.world.now.files c.void_pages.new.world.files c.args.file c.requires.file (voids g c).infos

there : (g : Over) (c : After-void_pages g) → c.args.file < length c.void_pages.new.world.files.files
there g c = let count = infos-count c.args.world.now.files c.void_pages.new.world.files (voids g c).infos in let lt = c.requires.file in omega (arith, count, lt)

less : (g : Over) (c : After-void_pages g) → c.args.end < (vnode_at c.void_pages.new.world.files c.args.file).info.length
less g c = subst (λ (i : FileInfo). c.args.end < i.length) (sym (info g c)) c.requires.shorter

pub put_tail-requires-clause-file : goal.put_tail-requires-clause-file
put_tail-requires-clause-file g c = there g (goal.at.put_tail-requires-clause-file g c).After-void_pages

pub put_tail-requires-clause-shorter : goal.put_tail-requires-clause-shorter
put_tail-requires-clause-shorter g c = less g (goal.at.put_tail-requires-clause-shorter g c).After-void_pages

pub put_tail-requires-clause-still : goal.put_tail-requires-clause-still
put_tail-requires-clause-still g c = λ name cut seat moving.
    let d = (goal.at.put_tail-requires-clause-still g c).After-void_pages in
    let low : name.page < pages_in c.args.end = subst (λ (n : PageName). n.page < pages_in c.args.end) (sym cut.last) (let t = cut.tail in omega (arith, t)) in
    c.requires.still name (record { shorter = c.requires.shorter; tail = cut.tail; last = cut.last }) seat (sym ((voids g d).stay name (λ same. low)) ∙ moving)

pub put_tail-requires-clause-none : goal.put_tail-requires-clause-none
put_tail-requires-clause-none g c =
    let d = (goal.at.put_tail-requires-clause-none g c).After-void_pages in
    none-held (memory_of (world_seen c.args.world.now) c.requires.fits.0) (world_seen c.void_pages.new.world) c.requires.fits.0 c.args.file c.args.end (pages_in (vnode_at c.args.world.now.files c.args.file).info.length) c.requires.file refl (voids g d)

pub put_tail-requires-clause-fits : goal.put_tail-requires-clause-fits
put_tail-requires-clause-fits g c = (c.requires.fits.0, (voids g (goal.at.put_tail-requires-clause-fits g c).After-void_pages).loses.changes.memory)

pub set_end-requires-clause-file : goal.set_end-requires-clause-file
set_end-requires-clause-file g c = subst (λ (s : FilesSeen). c.args.file < length s.files) (sym (ap (λ w. w.files) c.put_tail.ensures.rest)) (there g (goal.at.set_end-requires-clause-file g c).After-void_pages)

pub set_end-requires-clause-room : goal.set_end-requires-clause-room
set_end-requires-clause-room g c =
    let d = (goal.at.set_end-requires-clause-room g c).After-void_pages in
    let kept : pages_in c.args.end ≤ page_count (vnode_at c.void_pages.new.world.files c.args.file).info.extents =
    subst (λ (i : FileInfo). pages_in c.args.end ≤ page_count i.extents) (sym (info g d)) (let w = (c.requires.fits.1.files.each c.args.file c.requires.file).within in let lt = c.requires.shorter in omega (arith, w, lt)) in
    subst (λ (s : FilesSeen). IsSome (growth_of s c.args.file (pages_in c.args.end))) (sym (ap (λ w. w.files) c.put_tail.ensures.rest))
    (subst (λ (o : Option (List Extent)). IsSome o) (sym (own-growth c.void_pages.new.world.files c.args.file (pages_in c.args.end) kept)) refl)

pub set_end-requires-clause-some : goal.set_end-requires-clause-some
set_end-requires-clause-some g c =
    let d = (goal.at.set_end-requires-clause-some g c).After-void_pages in
    subst (λ (s : FilesSeen). 1 ≤ length (vnode_at s c.args.file).info.extents) (sym (ap (λ w. w.files) c.put_tail.ensures.rest))
    (subst (λ (i : FileInfo). 1 ≤ length i.extents) (sym (info g d)) (c.requires.fits.1.files.some c.args.file c.requires.file))

pub returns-clause-shorter : goal.returns-clause-shorter
returns-clause-shorter g c = λ spaces fits.
    let b = c.void_pages.ensures.voids spaces fits in
    shortens (memory_of (world_seen c.args.world.now) spaces) (world_seen c.void_pages.new.world) (world_seen c.put_tail.new.world) c.set_end.new.files spaces c.args.file c.args.end
    (pages_in (vnode_at c.args.world.now.files c.args.file).info.length) fits c.requires.file c.requires.shorter b (c.put_tail.ensures.may spaces b.loses.changes.memory) (ap (λ w. w.files) c.put_tail.ensures.rest) c.set_end.ensures.sets

pub returns-clause-rest : goal.returns-clause-rest
returns-clause-rest g c = rest-shorter c.args.world.now c.void_pages.new.world c.put_tail.new.world c.set_end.new.files c.void_pages.ensures.rest c.put_tail.ensures.rest

pub returns-clause-modified : goal.returns-clause-modified
returns-clause-modified g c =
    let old = world_seen c.args.world.now in
    let mid = world_seen c.void_pages.new.world in
    let cut = world_seen c.put_tail.new.world in
    let new = record cut { files = c.set_end.new.files } in
    none-then (IsCutPage old c.args.file c.args.end) old mid new c.void_pages.ensures.modified
    (only-as (IsCutPage mid c.args.file c.args.end) (IsCutPage old c.args.file c.args.end) mid new (λ name is. record { shorter = c.requires.shorter; tail = is.tail; last = is.last })
    (then-none (IsCutPage mid c.args.file c.args.end) mid cut new c.put_tail.ensures.modified (modifies-tables cut new refl refl)))
