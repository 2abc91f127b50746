use Rattle.std.proofs.Common.{◌∙◌, ap, arith, map, refl, subst, sym}
use Rattle.std.specs.Prelude.{option_map, string_bytes}
use Rattle.std.specs.Prelude.{◌==◌}
use Rattle.std.proofs.lemmas.Bool.{and_parts}
use Rattle.run_input.specs.Alone.{is_alone}
use Rattle.run_input.specs.Asked.{given_of}
use Rattle.run_outcome.specs.Stopped.{HasStopped, with_sink}
use Rattle.run_outcome.specs.Ended.{end_of}
use Rattle.run_outcome.specs.Members.{with_text}
use Rattle.run_outcome.specs.Run.{outside_of}
use Rattle.run_input.specs.declared.reading.Request.{Request}
use Rattle.run_outcome.proofs.EarlyEnds.{bare-back, stopped-asking, stopped-checking, stopped-informing}
use Rattle.run_outcome.proofs.PrintedTraces.{prints-trace}
use Rattle.run_outcome.proofs.RunsHanded.{hands-none, was-run}
use Rattle.run_outcome.proofs.TextsTold.{checked-told, inquired-told, stops-told}
use Rattle.run_endings.specs.Ending.{IsQuiet}
use Rattle.run_outcome.proofs.LastLines.{racked-anyway}
use Rattle.run_input.proofs.Unread.{loud-inquiry, quiet-answer, unless-not-read}
use Rattle.vm_run.proofs.threadless.run_alone.Goals as goal

pub run_whole-requires-clause-may : goal.run_whole-requires-clause-may
run_whole-requires-clause-may g c = λ lifetimes outlives.
    let asks = rw c.in-Ok-Run.field-0-is at (c.in-Ok-Run.ensures.asks (g.R.Rack.seen c.args.rack.now).holds) in
    record { asked = (given_of (map string_bytes c.args.words.now) (g.S.Source.seen c.args.script.now) (g.R.Rack.seen c.args.rack.now), asks.0); read = asks.1 }

pub run_whole-requires-clause-alone : goal.run_whole-requires-clause-alone
run_whole-requires-clause-alone g c = λ lifetimes outlives.
    (and_parts (c.in-Ok-Run.options.pageout == 0) (is_alone c.in-Ok-Run.plan) (sym c.needs_no_thread.ensures ∙ c.if-needs_no_thread.true)).1

pub returns-then-needs_no_thread-clause-ends : goal.returns-then-needs_no_thread-clause-ends
returns-then-needs_no_thread-clause-ends g c =
    let given = given_of (map string_bytes c.args.words.now) (g.S.Source.seen c.args.script.now) (g.R.Rack.seen c.args.rack.now) in
    let asks = rw c.in-Ok-Run.field-0-is at (c.in-Ok-Run.ensures.asks given.holds) in
    c.run_whole.ensures given (g.S.Source.seen c.args.script.now) (g.S.Source.seen c.ask.new.script) refl asks.0 c.in-Ok-Run.ensures.steady

pub returns-in-Ok-Check-clause-ends : goal.returns-in-Ok-Check-clause-ends
returns-in-Ok-Check-clause-ends g c =
    let given = given_of (map string_bytes c.args.words.now) (g.S.Source.seen c.args.script.now) (g.R.Rack.seen c.args.rack.now) in
    let seen = g.R.D.Disk.seen in
    let rack = g.R.Rack.seen c.args.rack.now in
    let t = checked-told given c.in-Ok-Check.answer (rw c.in-Ok-Check.field-0-is at (c.in-Ok-Check.ensures.asks given.holds)) in
    let told = with_text given t.0 in
    let o = outside_of (g.S.Source.seen c.args.script.now) (g.S.Source.seen c.ask.new.script) rack rack (g.K.Sink.seen c.args.out.now) (g.K.Sink.seen c.conclude.new.out) in
    let stopped : HasStopped told (with_sink o (g.K.Sink.seen c.tell_answer-ending.new.out)) seen c.bare_stop.result = record {
      ends = λ st ft. stopped-checking st ft told _ c.in-Ok-Check.answer (g.K.Sink.seen c.args.out.now) (g.K.Sink.seen c.tell_answer-ending.new.out) refl refl t.2
          seen c.bare_stop.result c.tell_answer-ending.result c.bare_stop.ensures.ending c.bare_stop.ensures.entries
          c.bare_stop.ensures.counts c.bare_stop.ensures.disks c.bare_stop.ensures.swap c.tell_answer-ending.ensures.told;
      once = record {
        source = λ other. c.in-Ok-Check.ensures.steady;
        rack = racked-anyway c.bare_stop.result.ending refl;
        sink = λ quiet. c.tell_answer-ending.ensures.lacks (quiet-answer c.in-Ok-Check.answer (g.K.Sink.seen c.args.out.now) (g.K.Sink.seen c.tell_answer-ending.new.out) c.tell_answer-ending.result c.tell_answer-ending.ensures.told (subst IsQuiet c.bare_stop.ensures.ending quiet));
      };
      back = bare-back seen c.bare_stop.result rack.attached c.bare_stop.ensures.disks c.bare_stop.ensures.swap;
      later = c.tell_answer-ending.ensures.later;
    } in
    let end = end_of seen c.conclude.result in
    was-run (prints-trace c.one_answer_law.ensures) given o t.0 t.1 end end (c.conclude.ensures.ends told o stopped)
    (hands-none told end (ap (λ v. map seen v.items) c.conclude.ensures.disks ∙ ap (map seen) c.bare_stop.ensures.disks) (ap (option_map seen) (c.conclude.ensures.swap ∙ c.bare_stop.ensures.swap)))

pub returns-in-Ok-Ask-clause-ends : goal.returns-in-Ok-Ask-clause-ends
returns-in-Ok-Ask-clause-ends g c =
    let given = given_of (map string_bytes c.args.words.now) (g.S.Source.seen c.args.script.now) (g.R.Rack.seen c.args.rack.now) in
    let seen = g.R.D.Disk.seen in
    let rack = g.R.Rack.seen c.args.rack.now in
    let sink = g.K.Sink.seen c.args.out.now in
    let after = g.K.Sink.seen c.tell_inquiry-ending.new.out in
    let t = inquired-told given c.in-Ok-Ask.inquiry (rw c.in-Ok-Ask.field-0-is at (c.in-Ok-Ask.ensures.asks given.holds)) in
    let told = with_text given t.0 in
    let o = outside_of (g.S.Source.seen c.args.script.now) (g.S.Source.seen c.ask.new.script) rack rack sink (g.K.Sink.seen c.conclude-in-Ok-Ask.new.out) in
    let stopped : HasStopped told (with_sink o after) seen c.bare_stop-in-Ok-Ask.result = record {
      ends = λ st ft. stopped-informing st ft told _ c.in-Ok-Ask.inquiry sink after refl refl t.2
          seen c.bare_stop-in-Ok-Ask.result c.tell_inquiry-ending.result c.bare_stop-in-Ok-Ask.ensures.ending c.bare_stop-in-Ok-Ask.ensures.entries
          c.bare_stop-in-Ok-Ask.ensures.counts c.bare_stop-in-Ok-Ask.ensures.disks c.bare_stop-in-Ok-Ask.ensures.swap c.tell_inquiry-ending.ensures.told;
      once = record {
        source = λ other. c.in-Ok-Ask.ensures.steady;
        rack = racked-anyway c.bare_stop-in-Ok-Ask.result.ending refl;
        sink = λ quiet. absurd (loud-inquiry c.in-Ok-Ask.inquiry sink after c.tell_inquiry-ending.result c.tell_inquiry-ending.ensures.told (subst IsQuiet c.bare_stop-in-Ok-Ask.ensures.ending quiet));
      };
      back = bare-back seen c.bare_stop-in-Ok-Ask.result rack.attached c.bare_stop-in-Ok-Ask.ensures.disks c.bare_stop-in-Ok-Ask.ensures.swap;
      later = c.tell_inquiry-ending.ensures.later;
    } in
    let end = end_of seen c.conclude-in-Ok-Ask.result in
    was-run (prints-trace c.one_answer_law.ensures) given o t.0 t.1 end end (c.conclude-in-Ok-Ask.ensures.ends told o stopped)
    (hands-none told end (ap (λ v. map seen v.items) c.conclude-in-Ok-Ask.ensures.disks ∙ ap (map seen) c.bare_stop-in-Ok-Ask.ensures.disks) (ap (option_map seen) (c.conclude-in-Ok-Ask.ensures.swap ∙ c.bare_stop-in-Ok-Ask.ensures.swap)))

pub returns-in-Err-clause-ends : goal.returns-in-Err-clause-ends
returns-in-Err-clause-ends g c =
    let given = given_of (map string_bytes c.args.words.now) (g.S.Source.seen c.args.script.now) (g.R.Rack.seen c.args.rack.now) in
    let seen = g.R.D.Disk.seen in
    let rack = g.R.Rack.seen c.args.rack.now in
    let sink = g.K.Sink.seen c.args.out.now in
    let old = g.S.Source.seen c.args.script.now in
    let new = g.S.Source.seen c.ask.new.script in
    let t = stops-told given old.faults new.faults c.in-Err.ending (c.in-Err.ensures.asks given.holds) in
    let told = with_text given t.0 in
    let o = outside_of old new rack rack sink (g.K.Sink.seen c.conclude-in-Err.new.out) in
    let stopped : HasStopped told (with_sink o sink) seen c.bare_stop-in-Err.result = record {
      ends = λ st ft. stopped-asking st ft told _ sink refl refl seen c.bare_stop-in-Err.result c.in-Err.ending c.bare_stop-in-Err.ensures.ending c.bare_stop-in-Err.ensures.entries
          c.bare_stop-in-Err.ensures.counts c.bare_stop-in-Err.ensures.disks c.bare_stop-in-Err.ensures.swap t.2;
      once = record {
        source = λ other. unless-not-read Request c.in-Err.ending (λ is. other (c.bare_stop-in-Err.ensures.ending ∙ is)) c.in-Err.ensures.steady;
        rack = racked-anyway c.bare_stop-in-Err.result.ending refl;
        sink = λ quiet. refl;
      };
      back = bare-back seen c.bare_stop-in-Err.result rack.attached c.bare_stop-in-Err.ensures.disks c.bare_stop-in-Err.ensures.swap;
      later = omega arith;
    } in
    let end = end_of seen c.conclude-in-Err.result in
    was-run (prints-trace c.one_answer_law.ensures) given o t.0 t.1 end end (c.conclude-in-Err.ensures.ends told o stopped)
    (hands-none told end (ap (λ v. map seen v.items) c.conclude-in-Err.ensures.disks ∙ ap (map seen) c.bare_stop-in-Err.ensures.disks) (ap (option_map seen) (c.conclude-in-Err.ensures.swap ∙ c.bare_stop-in-Err.ensures.swap)))

-- it is handed back
pub returns-else-needs_no_thread-clause-asked : goal.returns-else-needs_no_thread-clause-asked
returns-else-needs_no_thread-clause-asked g c = (rw c.in-Ok-Run.field-0-is at (c.in-Ok-Run.ensures.asks (g.R.Rack.seen c.args.rack.now).holds)).0

pub invariant_of-result : goal.invariant_of-result
invariant_of-result g c =
    let asks = rw c.in-Ok-Run.field-0-is at (c.in-Ok-Run.ensures.asks (g.R.Rack.seen c.args.rack.now).holds) in
    record { asked = (given_of (map string_bytes c.args.words.now) (g.S.Source.seen c.args.script.now) (g.R.Rack.seen c.args.rack.now), asks.0); read = asks.1 }
