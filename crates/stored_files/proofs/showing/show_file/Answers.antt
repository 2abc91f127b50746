use Rattle.std.proofs.Common.{◌∙◌, subst, arith, rules}
use Rattle.std.specs.Prelude.{Err}
use Rattle.std.proofs.lemmas.Grind.{common_steps}
use Rattle.volume_format.specs.vnode_files.declared.vnode.FileInfo.{FileInfo}
use Rattle.stored_files.specs.Texts.{Wrote, heading_text}
use Rattle.stored_files.specs.Showing.{shown_info, IsHeadingShown}
use Rattle.stored_files.proofs.ShownPages.{looks_same}
use Rattle.stored_files.proofs.ShownFiles.{heading_stop, file_shown}
use Rattle.stored_files.proofs.Uncut.{unless-cut}
use Rattle.stored_files.proofs.showing.show_file.Goals as goal

pub returns-in_err-show_heading-clause-shown : goal.returns-in_err-show_heading-clause-shown
returns-in_err-show_heading-clause-shown g c =
    let k0 = g.K.Sink.seen c.args.out.now in
    let k1 = g.K.Sink.seen c.show_heading.new.out in
    let d = g.P.PageDisk.numbered c.args.disk.now in
    let e = c.in_err-show_heading.field-0.0 in
    let shown = subst (λ (x : FileInfo). IsHeadingShown (heading_text c.args.heading c.args.file x) k0 k1 (Err e)) c.info.ensures.info c.in_err-show_heading.ensures.shown in
    let stop = heading_stop c.args.heading c.args.files.now c.args.file k0 k1 d c.requires (g.met.P.PageDisk.has_blocks c.args.disk.now) g.P.PageDisk.counts e shown in
    first_of (search (rules, stop), grind (arith, common_steps, stop))

pub returns-in_err-show_heading-clause-looks : goal.returns-in_err-show_heading-clause-looks
returns-in_err-show_heading-clause-looks g c = looks_same (g.P.PageDisk.numbered c.args.disk.now)

pub returns-clause-shown : goal.returns-clause-shown
returns-clause-shown g c =
    let k0 = g.K.Sink.seen c.args.out.now in
    let k1 = g.K.Sink.seen c.show_heading.new.out in
    let wrote = subst (λ (x : FileInfo). Wrote k0 k1 (heading_text c.args.heading c.args.file x)) c.info.ensures.info c.in_ok-show_heading.ensures.shown in
    file_shown c.args.heading c.args.file (shown_info c.args.files.now c.args.file) k0 k1 (g.K.Sink.seen c.show_lines.new.out)
    (g.P.PageDisk.numbered c.args.disk.now) (g.P.PageDisk.numbered c.show_lines.new.disk) wrote c.in_ok-show_heading.ensures.later g.P.PageDisk.counts c.show_lines.result c.show_lines.ensures.shown

pub returns-clause-steady : goal.returns-clause-steady
returns-clause-steady g c = unless-cut c.show_lines.result (λ same. same ∙ c.in_ok-show_heading.ensures.steady) c.show_lines.ensures.steady
