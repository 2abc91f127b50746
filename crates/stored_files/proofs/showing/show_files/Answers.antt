use Rattle.std.specs.Prelude.{Err}
use Rattle.std.proofs.Common.{◌≤◌, ◌<◌, ◌∙◌, map, length, arith, refl, rules}
use Rattle.std.proofs.lemmas.Grind.{common_steps}
use Rattle.std.proofs.lemmas.List.{length-map}
use Rattle.std.proofs.lemmas.Result.{err_from_is_err_and}
use Rattle.stored_files.proofs.Uncut.{unless-cut}
use Rattle.volume_format.specs.vnode_files.Vnode.{VnodeSeen}
use Rattle.stored_files.specs.Written.{infos_made}
use Rattle.stored_files.specs.Showing.{shown_info}
use Rattle.stored_files.proofs.ShownSections.{all_have_blocks, have_still, files_begin, files_step, files_read, files_stop, files_done, info_there}
use Rattle.stored_files.proofs.showing.show_files.Goals as goal

pub loop-file-init : goal.loop-file-init
loop-file-init g c =
    let f = g.P.PageDisk.numbered in
    record {
      so_far = files_begin c.args.heading c.args.files.now (map f c.args.disks.now) (g.K.Sink.seen c.args.out.now) c.requires.lie c.requires.disks (all_have_blocks f g.met.P.PageDisk.has_blocks c.args.disks.now);
      steady = refl;
      failures = refl;
    }

pub show_file_among-requires-clause-disks : goal.show_file_among-requires-clause-disks
show_file_among-requires-clause-disks g c =
    let f = g.P.PageDisk.numbered in
    have_still c.args.files.now (map f c.args.disks.now) (map f c.loop-file.disks) c.requires.disks c.loop-file.invariant.so_far.reads

pub loop-file-preserved : goal.loop-file-preserved
loop-file-preserved g c =
    let f = g.P.PageDisk.numbered in
    let file = c.loop-file.file in
    let low : file < length c.args.files.now.files = omega (arith, c.loop-file-test.true, c.count-file-end.ensures.count) in
    record {
      so_far = files_step c.args.heading (infos_made c.args.files.now) file (shown_info c.args.files.now file) (g.K.Sink.seen c.args.out.now)
          (g.K.Sink.seen c.loop-file.out) (g.K.Sink.seen c.show_file_among.new.out)
          (map f c.args.disks.now) (map f c.loop-file.disks) (map f c.show_file_among.new.disks) (info_there c.args.files.now file low) c.loop-file.invariant.so_far
          g.P.PageDisk.counts c.in_ok-show_file_among.ensures.shown c.in_ok-show_file_among.ensures.disks c.in_ok-show_file_among.ensures.later;
      steady = c.in_ok-show_file_among.ensures.steady ∙ c.loop-file.invariant.steady;
      failures = c.in_ok-show_file_among.ensures.failures ∙ c.loop-file.invariant.failures;
    }

pub returns-in_err-show_file_among-clause-shows : goal.returns-in_err-show_file_among-clause-shows
returns-in_err-show_file_among-clause-shows g c =
    let f = g.P.PageDisk.numbered in
    let file = c.loop-file.file in
    let low : file < length c.args.files.now.files = omega (arith, c.loop-file-test.true, c.count-file-end.ensures.count) in
    let stop = files_stop c.args.heading (infos_made c.args.files.now) file (shown_info c.args.files.now file) (g.K.Sink.seen c.args.out.now)
    (g.K.Sink.seen c.loop-file.out) (g.K.Sink.seen c.show_file_among.new.out)
    (map f c.args.disks.now) (map f c.loop-file.disks) (map f c.show_file_among.new.disks) (info_there c.args.files.now file low) c.loop-file.invariant.so_far
    g.P.PageDisk.counts c.in_err-show_file_among.field-0.0 c.in_err-show_file_among.ensures.shown c.in_err-show_file_among.ensures.disks in
    first_of (search (rules, stop), grind (arith, common_steps, stop))

pub returns-in_err-show_file_among-clause-disks : goal.returns-in_err-show_file_among-clause-disks
returns-in_err-show_file_among-clause-disks g c =
    let f = g.P.PageDisk.numbered in
    let file = c.loop-file.file in
    let low : file < length c.args.files.now.files = omega (arith, c.loop-file-test.true, c.count-file-end.ensures.count) in
    files_read c.args.heading (infos_made c.args.files.now) file (shown_info c.args.files.now file) (g.K.Sink.seen c.args.out.now)
    (g.K.Sink.seen c.loop-file.out) (g.K.Sink.seen c.show_file_among.new.out)
    (map f c.args.disks.now) (map f c.loop-file.disks) (map f c.show_file_among.new.disks) (info_there c.args.files.now file low) c.loop-file.invariant.so_far c.in_err-show_file_among.ensures.disks

pub returns-clause-shows : goal.returns-clause-shows
returns-clause-shows g c =
    let f = g.P.PageDisk.numbered in
    let infos = infos_made c.args.files.now in
    let past : length infos ≤ c.loop-file.file = omega (arith, c.loop-file-test.false, c.count-file-end.ensures.count, length-map c.args.files.now.files (λ (v : VnodeSeen). v.info)) in
    files_done c.args.heading infos c.loop-file.file (g.K.Sink.seen c.args.out.now) (g.K.Sink.seen c.loop-file.out) (map f c.args.disks.now)
    (map f c.loop-file.disks) c.loop-file.invariant.so_far past g.P.PageDisk.counts

pub returns-in_err-show_file_among-clause-steady : goal.returns-in_err-show_file_among-clause-steady
returns-in_err-show_file_among-clause-steady g c =
    let p = err_from_is_err_and c.from_residual.result c.from_residual.ensures.1 in
    rw (p.1, p.2) (unless-cut {T = Unit {0}} (Err c.in_err-show_file_among.field-0.0) (λ same. same ∙ c.loop-file.invariant.steady) c.in_err-show_file_among.ensures.steady)

pub returns-in_err-show_file_among-clause-failures : goal.returns-in_err-show_file_among-clause-failures
returns-in_err-show_file_among-clause-failures g c =
    let p = err_from_is_err_and c.from_residual.result c.from_residual.ensures.1 in
    rw (p.1, p.2) (unless-cut {T = Unit {0}} (Err c.in_err-show_file_among.field-0.0) (λ same. same ∙ c.loop-file.invariant.failures) c.in_err-show_file_among.ensures.failures)
