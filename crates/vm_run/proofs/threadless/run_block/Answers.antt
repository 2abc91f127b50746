use Rattle.std.proofs.Common.{◌∙◌, ap, refl, sym}
use Rattle.volume_files.specs.Opened.{names_of, opening_flat}
use Rattle.volume_files.specs.stored_files.Written.{disk_sizes}
use Rattle.run_input.specs.Alone.{is_alone}
use Rattle.run_input.proofs.PlayablePlans.{alone-named}
use Rattle.vm_run.proofs.threadless.run_block.Goals as goal

pub play_alone-state-requires-clause-alone : goal.play_alone-state-requires-clause-alone
play_alone-state-requires-clause-alone g c =
    let b = c.in-Ok.ensures.begun in ap is_alone b.5.numbered ∙ alone-named (names_of b.1) c.args.plan ∙ c.requires.alone

pub play_alone-state-requires-clause-playable : goal.play_alone-state-requires-clause-playable
play_alone-state-requires-clause-playable g c = c.in-Ok.ensures.begun.5.playable

pub play_alone-state-requires-clause-started : goal.play_alone-state-requires-clause-started
play_alone-state-requires-clause-started g c =
    let b = c.in-Ok.ensures.begun in
    (opening_flat c.in-Ok.field-0.plan (disk_sizes b.3.disks) b.1, b.3.disks, b.3.swap, b.4, b.5.started)

pub finish_run-requires-clause-run : goal.finish_run-requires-clause-run
finish_run-requires-clause-run g c =
    let b = c.in-Ok.ensures.begun in
    let asked = c.requires.may.asked in
    let r0 = g.R.Rack.seen c.args.rack.now in (
      record asked.0 { holds = r0.holds },
      r0,
      g.R.Rack.seen c.begin_plan.new.rack,
      g.K.Sink.seen c.args.out.now,
      record { options = c.args.options; plan = c.args.plan },
      b.1,
      b.2,
      b.3,
      b.4,
      c.in-Ok.field-0.state,
      record { begun = b.5; played = c.play_alone-state.ensures.played },
      refl,
      asked.1,
      b.6,
    )

pub returns-in-Ok : goal.returns-in-Ok
returns-in-Ok g c = λ given before after is asked steady.
    let b = c.in-Ok.ensures.begun in
    c.finish_run.ensures given before after (g.R.Rack.seen c.args.rack.now) (g.R.Rack.seen c.begin_plan.new.rack) (g.K.Sink.seen c.args.out.now) (record { options = c.args.options; plan = c.args.plan }) b.1 b.2 b.3 b.4 c.in-Ok.field-0.state
    (sym b.0) (record { begun = b.5; played = c.play_alone-state.ensures.played }) is asked steady
