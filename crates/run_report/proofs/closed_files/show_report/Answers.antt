use Rattle.std.proofs.Common.{◌≡◌, ◌∙◌, ℕ, refl, sym, subst, true, false}
use Rattle.std.specs.Prelude.{is_some}
use Rattle.page_store.specs.Bays.{pairs_seen}
use Rattle.run_endings.specs.Ending.{IsQuiet}
use Rattle.run_endings.specs.declared.ending.Ending.{Ending}
use Rattle.run_report.specs.ReportEnds.{ShowEnds}
use Rattle.volume_files.specs.stored_files.Written.{infos_made}
use Rattle.run_report.specs.AskedTexts.{middle_text}
use Rattle.run_report.proofs.Unfailing.{quiet-middle, quiet-shown, where-ended, where-shown}
use Rattle.run_report.proofs.closed_files.show_report.Goals as goal
use Rattle.run_report.proofs.Endings.{middle-stopped, without-files, files-stopped}
use Rattle.volume_files.proofs.stored_files.ShownSections.{all_have_blocks, bytes-of-disks}

pub returns-in-Err-clause-ends : goal.returns-in-Err-clause-ends
returns-in-Err-clause-ends g c =
    let disks = pairs_seen g.D.Disk.seen c.args.disks.now in
    let b = bytes-of-disks c.args.files.now disks c.requires.lie c.requires.disks
    (all_have_blocks (λ (d : ℕ × g.row.D.Denot). (d.0, g.D.Disk.seen d.1)) (λ d. g.met.D.Disk.has_blocks d.1) c.args.disks.now) in
    middle-stopped c.args.options.now c.args.plan.now c.args.history.now (infos_made c.args.files.now) (g.K.Sink.seen c.args.out.now)
    (g.K.Sink.seen c.write_middle.new.out) disks disks b.0 b.1 c.in-Err.ending c.in-Err.ensures.stop

pub returns-then-is_some-clause-ends : goal.returns-then-is_some-clause-ends
returns-then-is_some-clause-ends g c =
    let disks = pairs_seen g.D.Disk.seen c.args.disks.now in
    let b = bytes-of-disks c.args.files.now disks c.requires.lie c.requires.disks
    (all_have_blocks (λ (d : ℕ × g.row.D.Denot). (d.0, g.D.Disk.seen d.1)) (λ d. g.met.D.Disk.has_blocks d.1) c.args.disks.now) in
    let made : is_some c.args.options.now.make ≡ true = sym c.is_some.ensures ∙ c.if-is_some.true in (
      b.0,
      b.1,
      without-files c.args.options.now.make (g.K.Sink.seen c.args.out.now) (g.K.Sink.seen c.write_middle.new.out)
          (middle_text c.args.options.now c.args.plan.now c.args.history.now) (infos_made c.args.files.now) b.0 made c.in_default.ensures.ok,
    )

pub returns-in-Err-show_files-clause-ends : goal.returns-in-Err-show_files-clause-ends
returns-in-Err-show_files-clause-ends g c =
    let s = c.in-Err-show_files.ensures.shows in
    let none : is_some c.args.options.now.make ≡ false = sym c.is_some.ensures ∙ c.if-is_some.false in
    let disks = pairs_seen g.D.Disk.seen c.args.disks.now in
    let new = pairs_seen g.D.Disk.seen c.show_files.new.disks in
    subst (λ (x : Ending). ShowEnds c.args.options.now c.args.plan.now c.args.history.now (infos_made c.args.files.now) (g.K.Sink.seen c.args.out.now)
    (g.K.Sink.seen c.show_files.new.out) disks new x) (sym c.showing_stop.ensures)
    (files-stopped c.args.options.now c.args.plan.now c.args.history.now (infos_made c.args.files.now) s.0 (g.K.Sink.seen c.args.out.now)
    (g.K.Sink.seen c.write_middle.new.out) (g.K.Sink.seen c.show_files.new.out) disks new s.1 none c.write_middle.ensures.later c.in_default.ensures.ok
    c.in-Err-show_files.stop s.2)

pub returns-in-Err-clause-hides : goal.returns-in-Err-clause-hides
returns-in-Err-clause-hides g c = λ quiet.
    where-ended (Unit {0}) c.in-Err.ending
    (quiet-middle (middle_text c.args.options.now c.args.plan.now c.args.history.now) (g.K.Sink.seen c.args.out.now) (g.K.Sink.seen c.write_middle.new.out) c.in-Err.ending quiet c.in-Err.ensures.stop)
    c.in-Err.ensures.steady

pub returns-in-Err-show_files-clause-hides : goal.returns-in-Err-show_files-clause-hides
returns-in-Err-show_files-clause-hides g c = λ quiet.
    where-shown c.in-Err-show_files.stop (quiet-shown c.in-Err-show_files.stop (subst IsQuiet c.showing_stop.ensures quiet)) c.in-Err-show_files.ensures.steady ∙ c.in_default.ensures.steady

pub returns-then-is_some-clause-hides : goal.returns-then-is_some-clause-hides
returns-then-is_some-clause-hides g c = λ quiet. c.in_default.ensures.steady

pub returns-in-Ok-clause-hides : goal.returns-in-Ok-clause-hides
returns-in-Ok-clause-hides g c = λ quiet. c.in-Ok.ensures.steady ∙ c.in_default.ensures.steady

pub returns-in-Err-show_files-clause-uncounted : goal.returns-in-Err-show_files-clause-uncounted
returns-in-Err-show_files-clause-uncounted g c = λ quiet.
    where-shown c.in-Err-show_files.stop (quiet-shown c.in-Err-show_files.stop (subst IsQuiet c.showing_stop.ensures quiet)) c.in-Err-show_files.ensures.failures

pub returns-in-Err-clause-uncounted : goal.returns-in-Err-clause-uncounted
returns-in-Err-clause-uncounted g c = λ quiet. refl

pub returns-then-is_some-clause-uncounted : goal.returns-then-is_some-clause-uncounted
returns-then-is_some-clause-uncounted g c = λ quiet. refl

pub returns-in-Ok-clause-uncounted : goal.returns-in-Ok-clause-uncounted
returns-in-Ok-clause-uncounted g c = λ quiet. c.in-Ok.ensures.failures
