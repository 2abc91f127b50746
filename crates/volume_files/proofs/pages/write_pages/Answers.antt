use Rattle.std.specs.Prelude.{◌≡◌, ◌≤◌, ◌+◌, List, ℕ, length}
use Rattle.std.proofs.Common.{ap, ◌∙◌, sym, subst, arith}
use Rattle.std.proofs.lemmas.Grind.{common_steps}
use Rattle.std.proofs.lemmas.List.{drop_all}
use Rattle.vm_report.specs.flat_model.Words.{pages_in}
use Rattle.volume_files.specs.Placing.{with_block_pages, filled_pages}
use Rattle.volume_files.specs.Handed.{LiesBeside}
use Rattle.volume_files.proofs.PageLemmas.{length-filled}
use Rattle.volume_files.proofs.SparedBlocks.{not-inside, told-left, told-written}
use Rattle.volume_files.proofs.pages.write_pages.Goals as goal

pub overflow_cast-page : goal.overflow_cast-page
overflow_cast-page g c =
    let count : c.div_ceil-page-end.result ≡ pages_in (length c.args.bytes.now) = first_of (omega (arith, c.div_ceil-page-end.ensures), grind (arith, common_steps)) in
    omega (arith, count, c.requires.fits, c.loop-page-test.true)

pub overflow_add-start : goal.overflow_add-start
overflow_add-start g c =
    let count : c.div_ceil-page-end.result ≡ pages_in (length c.args.bytes.now) = first_of (omega (arith, c.div_ceil-page-end.ensures), grind (arith, common_steps)) in
    omega (arith, count, c.requires.fits, c.loop-page-test.true)

pub returns-clause-ok : goal.returns-clause-ok
returns-clause-ok g c =
    let count : c.div_ceil-page-end.result ≡ pages_in (length c.args.bytes.now) = first_of (omega (arith, c.div_ceil-page-end.ensures), grind (arith, common_steps)) in
    let past : length (filled_pages c.args.bytes.now) ≤ c.loop-page.page = omega (arith, count, length-filled c.args.bytes.now, c.loop-page-test.false) in
    ap (λ (ps : List (List ℕ)). with_block_pages (g.D.Disk.seen c.loop-page.disk.disk).content (c.args.start + c.loop-page.page) ps)
    (sym (drop_all c.loop-page.page (filled_pages c.args.bytes.now) past))
    ∙ c.loop-page.invariant.rest

pub returns-clause-keeps : goal.returns-clause-keeps
returns-clause-keeps g c = λ block out.
    let pages = filled_pages c.args.bytes.now in
    told-left (g.D.Disk.seen c.args.disk.now.disk).content (g.D.Disk.seen c.loop-page.disk.disk).content c.args.start c.loop-page.page pages block c.loop-page.invariant.rest
    (subst (λ (n : ℕ). LiesBeside c.args.start n block) (sym (length-filled c.args.bytes.now)) out)

pub returns-in_err-write-clause-keeps : goal.returns-in_err-write-clause-keeps
returns-in_err-write-clause-keeps g c = λ block out.
    let count : c.div_ceil-page-end.result ≡ pages_in (length c.args.bytes.now) = first_of (omega (arith, c.div_ceil-page-end.ensures), grind (arith, common_steps)) in
    let pages = filled_pages c.args.bytes.now in
    told-written (g.D.Disk.seen c.loop-page.disk.disk) (g.D.Disk.seen c.write.new.self.disk) _ _ c.write.result c.write.ensures.writes block
    (not-inside c.args.start (pages_in (length c.args.bytes.now)) _ block (omega arith) (omega (arith, count, c.loop-page-test.true)) out)
    ∙ told-left (g.D.Disk.seen c.args.disk.now.disk).content (g.D.Disk.seen c.loop-page.disk.disk).content c.args.start c.loop-page.page pages block c.loop-page.invariant.rest
    (subst (λ (n : ℕ). LiesBeside c.args.start n block) (sym (length-filled c.args.bytes.now)) out)
