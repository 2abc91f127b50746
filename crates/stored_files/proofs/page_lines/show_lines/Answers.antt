use Rattle.std.proofs.Common.{◌<◌, ◌≤◌, ◌∙◌, ap, arith, refl, rules}
use Rattle.std.specs.Prelude.{Err}
use Rattle.std.proofs.lemmas.Grind.{common_steps}
use Rattle.std.proofs.lemmas.Result.{err_from_is_err_and}
use Rattle.stored_files.proofs.Uncut.{unless-cut}
use Rattle.vm_report.specs.vm_types.Pages.{pages_in}
use Rattle.volume_format.specs.vnode_files.declared.vnode.FileInfo.{FileInfo}
use Rattle.stored_files.specs.Showing.{shown_info}
use Rattle.stored_files.proofs.ShownPages.{lies_still, looks_then, lines_begin, lines_step, lines_stop, lines_done}
use Rattle.stored_files.proofs.page_lines.show_lines.Goals as goal

pub loop-page-init : goal.loop-page-init
loop-page-init g c =
    let d0 = g.P.PageDisk.numbered c.args.disk.now in
    record {
      so_far = lines_begin c.args.files.now c.args.file d0 (g.K.Sink.seen c.args.out.now) c.requires (g.met.P.PageDisk.has_blocks c.args.disk.now);
      steady = refl;
      failures = refl;
    }

pub show_page-requires-clause-lies : goal.show_page-requires-clause-lies
show_page-requires-clause-lies g c =
    lies_still c.args.files.now c.args.file (g.P.PageDisk.numbered c.args.disk.now) (g.P.PageDisk.numbered c.loop-page.disk) c.requires c.loop-page.invariant.so_far.looks

pub show_page-requires-clause-page : goal.show_page-requires-clause-page
show_page-requires-clause-page g c =
    let same = ap (λ (x : FileInfo). pages_in x.length) c.info.ensures.info in
    omega (arith, c.loop-page-test.true, c.pages_in-pages.ensures.pages, same)

pub loop-page-preserved : goal.loop-page-preserved
loop-page-preserved g c =
    let info = shown_info c.args.files.now c.args.file in
    let same = ap (λ (x : FileInfo). pages_in x.length) c.info.ensures.info in
    let low : c.loop-page.page < pages_in info.length = omega (arith, c.loop-page-test.true, c.pages_in-pages.ensures.pages, same) in
    let shown = c.in_ok-show_page.ensures.shown in
    record {
      so_far = lines_step info c.loop-page.page (g.K.Sink.seen c.args.out.now) (g.K.Sink.seen c.loop-page.out) (g.K.Sink.seen c.show_page.new.out)
          (g.P.PageDisk.numbered c.args.disk.now) (g.P.PageDisk.numbered c.loop-page.disk) (g.P.PageDisk.numbered c.show_page.new.disk)
          low c.loop-page.invariant.so_far shown.0 shown.1 shown.2 c.in_ok-show_page.ensures.looks c.in_ok-show_page.ensures.later;
      steady = c.in_ok-show_page.ensures.steady ∙ c.loop-page.invariant.steady;
      failures = c.in_ok-show_page.ensures.failures ∙ c.loop-page.invariant.failures;
    }

pub returns-in_err-show_page-clause-shown : goal.returns-in_err-show_page-clause-shown
returns-in_err-show_page-clause-shown g c =
    let info = shown_info c.args.files.now c.args.file in
    let same = ap (λ (x : FileInfo). pages_in x.length) c.info.ensures.info in
    let low : c.loop-page.page < pages_in info.length = omega (arith, c.loop-page-test.true, c.pages_in-pages.ensures.pages, same) in
    let stop = lines_stop info c.loop-page.page (g.K.Sink.seen c.args.out.now) (g.K.Sink.seen c.loop-page.out) (g.K.Sink.seen c.show_page.new.out)
    (g.P.PageDisk.numbered c.args.disk.now) (g.P.PageDisk.numbered c.loop-page.disk) (g.P.PageDisk.numbered c.show_page.new.disk)
    low c.loop-page.invariant.so_far g.P.PageDisk.counts c.in_err-show_page.field-0.0 c.in_err-show_page.ensures.shown c.in_err-show_page.ensures.looks in
    first_of (search (rules, stop), grind (arith, common_steps, stop))

pub returns-in_err-show_page-clause-looks : goal.returns-in_err-show_page-clause-looks
returns-in_err-show_page-clause-looks g c =
    looks_then (g.P.PageDisk.numbered c.args.disk.now) (g.P.PageDisk.numbered c.loop-page.disk)
    (g.P.PageDisk.numbered c.show_page.new.disk) c.loop-page.invariant.so_far.looks c.in_err-show_page.ensures.looks

pub returns-clause-shown : goal.returns-clause-shown
returns-clause-shown g c =
    let info = shown_info c.args.files.now c.args.file in
    let same = ap (λ (x : FileInfo). pages_in x.length) c.info.ensures.info in
    let past : pages_in info.length ≤ c.loop-page.page = omega (arith, c.loop-page-test.false, c.pages_in-pages.ensures.pages, same) in
    lines_done info c.loop-page.page (g.K.Sink.seen c.args.out.now) (g.K.Sink.seen c.loop-page.out) (g.P.PageDisk.numbered c.args.disk.now)
    (g.P.PageDisk.numbered c.loop-page.disk) c.loop-page.invariant.so_far past g.P.PageDisk.counts

pub returns-in_err-show_page-clause-steady : goal.returns-in_err-show_page-clause-steady
returns-in_err-show_page-clause-steady g c =
    let p = err_from_is_err_and c.from_residual.result c.from_residual.ensures.1 in
    rw (p.1, p.2) (unless-cut {T = Unit {0}} (Err c.in_err-show_page.field-0.0) (λ same. same ∙ c.loop-page.invariant.steady) c.in_err-show_page.ensures.steady)

pub returns-in_err-show_page-clause-failures : goal.returns-in_err-show_page-clause-failures
returns-in_err-show_page-clause-failures g c =
    let p = err_from_is_err_and c.from_residual.result c.from_residual.ensures.1 in
    rw (p.1, p.2) (unless-cut {T = Unit {0}} (Err c.in_err-show_page.field-0.0) (λ same. same ∙ c.loop-page.invariant.failures) c.in_err-show_page.ensures.failures)
