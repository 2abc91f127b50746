use Rattle.std.proofs.Common.{◌≡◌, ◌≤◌, ◌+◌, ◌-◌, ℕ, Some, None, sym, ap, ◌∙◌, subst, arith}
use Rattle.std.specs.Prelude.{min}
use Rattle.seg_ops.specs.vnode_files.Files.{FilesSeen, vnode_at}
use Rattle.seg_ops.specs.flat_model.Words.{pages_in}
use Rattle.seg_ops.specs.vm_world.World.{world_seen}
use Rattle.seg_ops.specs.vm_world.Words.{memory}
use Rattle.seg_ops.specs.CleanSteps.{CleansPages}
use Rattle.seg_vn.specs.CleanPlaces.{CleansPlaces}
use Rattle.seg_ops.proofs.RoomMade.{room-same}
use Rattle.seg_vn.proofs.SharedFiles.{file-below, places-clean, places-cleaned, shows-none}
use Rattle.seg_vn.proofs.segment.VnSeg.clean_places.Given.{Over}
use Rattle.seg_vn.proofs.segment.VnSeg.clean_places.Goals.{After-clean_pages}
use Rattle.seg_vn.proofs.segment.VnSeg.clean_places.Goals as goal

pub returns-in_default-clause-cleans : goal.returns-in_default-clause-cleans
returns-in_default-clause-cleans g c = λ spaces p q at fits here k name low high shows.
    absurd (shows-none (world_seen c.args.world.now) spaces p q at c.args.self.now fits here (sym c.in_default.ensures) k name shows)

pub returns-in_default-clause-makes : goal.returns-in_default-clause-makes
returns-in_default-clause-makes g c = room-same c.args.world.now

pub info-requires : goal.info-requires
info-requires g c = let f = c.requires.fits in file-below (world_seen c.args.world.now) f.0 f.1 f.2 f.3 c.args.self.now f.4 f.5 c.in-Some.file (sym c.in-Some.ensures)

pub clean_pages-requires-clause-file : goal.clean_pages-requires-clause-file
clean_pages-requires-clause-file g c = let f = c.requires.fits in file-below (world_seen c.args.world.now) f.0 f.1 f.2 f.3 c.args.self.now f.4 f.5 c.in-Some.file (sym c.in-Some.ensures)

pub clean_pages-requires-clause-exist : goal.clean_pages-requires-clause-exist
clean_pages-requires-clause-exist g c =
    let least = c.min-end.ensures in
    let pages : c.pages_in.result ≡ pages_in (vnode_at c.args.world.now.files c.in-Some.file).info.length = c.pages_in.ensures.pages ∙ ap (λ v. pages_in v.length) c.info.ensures.info in
    omega (arith, least, pages)

pub clean_pages-requires-clause-fits : goal.clean_pages-requires-clause-fits
clean_pages-requires-clause-fits g c = (c.requires.fits.0, c.requires.fits.4)

pub overflow_sub-result : goal.overflow_sub-result
overflow_sub-result g c = let low = (c.in-Some-clean_pages.ensures.cleans c.requires.fits.0 c.requires.fits.4).0 in omega (arith, low)

-- the last page that is looked at, in the world after
last : (g : Over) (c : After-clean_pages g) → c.min-end.result ≡ min (pages_in (vnode_at c.clean_pages.new.world.files c.in-Some.file).info.length) (c.args.self.now.index + c.args.to)
last g c =
    let length = c.pages_in.ensures.pages ∙ ap (λ v. pages_in v.length) c.info.ensures.info ∙ sym (ap (λ w. pages_in (vnode_at w.files c.in-Some.file).info.length) c.clean_pages.ensures.makes.rest) in
    c.min-end.ensures ∙ ap (λ (n : ℕ). min n (c.index-index.result + c.args.to)) length ∙ ap (λ (n : ℕ). min (pages_in (vnode_at c.clean_pages.new.world.files c.in-Some.file).info.length) (n + c.args.to)) c.index-index.ensures.index

pub returns-in-None-clause-cleans : goal.returns-in-None-clause-cleans
returns-in-None-clause-cleans g c = λ spaces p q at fits here.
    let d = (goal.at.returns-in-None-clause-cleans g c).After-clean_pages in
    let first = subst (λ (n : ℕ). CleansPages (memory c.clean_pages.new.world spaces) c.in-Some.file (n + c.args.from) c.min-end.result None) c.index-index.ensures.index (c.in-None.ensures.cleans spaces fits) in
    places-clean (world_seen c.clean_pages.new.world) spaces p q at c.args.self.now (c.clean_pages.ensures.makes.keeps spaces fits).memory here c.in-Some.file (sym c.in-Some.ensures) c.args.from c.args.to c.min-end.result (last g d) first

pub returns-in-Some-clean_pages-clause-cleans : goal.returns-in-Some-clean_pages-clause-cleans
returns-in-Some-clean_pages-clause-cleans g c = λ spaces p q at fits here.
    let d = (goal.at.returns-in-Some-clean_pages-clause-cleans g c).After-clean_pages in
    let r = c.in-Some-clean_pages in
    let first = subst (λ (n : ℕ). CleansPages (memory c.clean_pages.new.world spaces) c.in-Some.file (n + c.args.from) c.min-end.result (Some (r.page, r.wants))) c.index-index.ensures.index (r.ensures.cleans spaces fits) in
    subst (λ (n : ℕ). CleansPlaces (memory c.clean_pages.new.world spaces) c.args.self.now c.args.from c.args.to (Some (r.page - n, r.wants))) (sym c.index-index.ensures.index)
    (places-cleaned (world_seen c.clean_pages.new.world) spaces p q at c.args.self.now (c.clean_pages.ensures.makes.keeps spaces fits).memory here c.in-Some.file (sym c.in-Some.ensures) c.args.from c.args.to c.min-end.result (last g d) r.page r.wants first)
