use Rattle.std.proofs.Common.{◌∙◌, map, arith, rules}
use Rattle.std.proofs.lemmas.Grind.{common_steps}
use Rattle.stored_files.specs.Written.{numbered_seen}
use Rattle.stored_files.specs.Written.{infos_made}
use Rattle.stored_files.proofs.ShownSections.{all_have_blocks, bytes-of-disks}
use Rattle.stored_files.proofs.ShownFiles.{reads_same}
use Rattle.stored_files.proofs.TraceTexts.{trace_shown, front_stop}
use Rattle.stored_files.proofs.Uncut.{unless-cut}
use Rattle.stored_files.proofs.tracing.trace_opening.Goals as goal

pub returns-in_err-show_front-clause-shows : goal.returns-in_err-show_front-clause-shows
returns-in_err-show_front-clause-shows g c =
    let f = numbered_seen g.D.Disk.seen in
    let ds = map f c.args.disks.now in
    let bytes = bytes-of-disks c.args.files.now ds c.requires.lie c.requires.disks (all_have_blocks f (λ d. g.met.D.Disk.has_blocks d.disk) c.args.disks.now) in
    let stop = front_stop c.args.plan.now (infos_made c.args.files.now) bytes.0 (g.K.Sink.seen c.args.out.now)
    (g.K.Sink.seen c.show_front.new.out) ds c.in_err-show_front.field-0.0 c.in_err-show_front.ensures.shown in
    first_of (search (rules, bytes, stop), grind (arith, common_steps, bytes, stop))

pub returns-in_err-show_front-clause-disks : goal.returns-in_err-show_front-clause-disks
returns-in_err-show_front-clause-disks g c = reads_same (map (numbered_seen g.D.Disk.seen) c.args.disks.now)

pub returns-clause-shows : goal.returns-clause-shows
returns-clause-shows g c =
    let f = numbered_seen g.D.Disk.seen in
    let shown = c.show_files.ensures.shows in (
      shown.0,
      shown.1,
      trace_shown c.args.plan.now (infos_made c.args.files.now) shown.0 (g.K.Sink.seen c.args.out.now) (g.K.Sink.seen c.show_front.new.out) (g.K.Sink.seen c.show_files.new.out)
          (map f c.args.disks.now) (map f c.show_files.new.disks) c.in_ok-show_front.ensures.shown c.in_ok-show_front.ensures.later c.show_files.result shown.2,
    )

pub returns-clause-steady : goal.returns-clause-steady
returns-clause-steady g c = unless-cut c.show_files.result (λ same. same ∙ c.in_ok-show_front.ensures.steady) c.show_files.ensures.steady
