-- A run's end once its last line was printed, or memory lacked for the line.
use Rattle.std.proofs.Common.{◌≡◌, ◌⊎◌, ℕ, ◌+◌, ◌≤◌, List, [], ◌++◌, refl, sym, ap, ◌∙◌, subst, arith, inl, inr}
use Rattle.std.specs.Prelude.{IfSome, Option, None, Some}
use Rattle.std.proofs.Math.Seq.{take-nil}
use Rattle.volume_files.specs.block_device.Counts.{HasRisen}
use Rattle.volume_files.specs.block_device.DiskSeen.{DiskSeen}
use Rattle.volume_files.specs.block_device.StreamSeen.{SinkSeen, text_with_more}
use Rattle.vm_core.specs.kernel_close.Finish.{HistorySeen}
use Rattle.run_endings.specs.declared.ending.Ending.{Ending}
use Rattle.run_endings.specs.declared.ending.Ending.TheVariants as ending
use Rattle.volume_files.specs.stored_files.declared.showing.Heading.TheVariants.{Report}
use Rattle.run_input.specs.Asked.{Given}
use Rattle.run_endings.specs.declared.fault.RunFault.{RunFault}
use Rattle.run_endings.specs.declared.ending.TraceAnswer.{TraceAnswer}
use Rattle.run_endings.specs.declared.ending.TraceAnswer.TheVariants as answer
use Rattle.run_endings.specs.declared.ending.TraceEnd.TheVariants as ends
use Rattle.run_endings.specs.declared.inquiry_end.InquiryEnd.TheVariants as inquired
use Rattle.run_input.specs.TraceChecks.{StopsInAnswer, WroteAnswer}
use Rattle.command_line.specs.Inquiries.{inquiry_text}
use Rattle.run_endings.specs.Ending.{IsQuiet, answer_text, fault_of, last_line_of, status_of}
use Rattle.run_outcome.specs.Ended.{End}
use Rattle.volume_files.specs.Handed.{member_count}
use Rattle.run_endings.specs.LastLine.{IsConcluded}
use Rattle.run_outcome.specs.Run.{CaseOf, RunEnds, EndsBare, EndsTold, FailsOnce, LacksLine, Outside, UnlessRacked, middle_of, opening_of, opening_part, report_of, whole_text, wrote_all, wrote_before}
use Rattle.volume_files.specs.stored_files.Texts.{WroteOn, sections_before}
use Rattle.volume_files.proofs.stored_files.WrittenTexts.{appended_nothing}
use Rattle.run_outcome.proofs.Sinks.{on_behind, still_front, still_part, still_wrote}

-- the whole report, and want of memory, have no last line
no-line : (how : Ending) → IsQuiet how → last_line_of how ≡ []
no-line ending.Whole q = refl
no-line ending.Memory q = refl
no-line ending.Usage q = absurd q
no-line (ending.NoScript x) q = absurd q
no-line (ending.Refused x) q = absurd q
no-line ending.NotRead q = absurd q
no-line ending.OpeningSink q = absurd q
no-line ending.Sink q = absurd q
no-line (ending.Opening x) q = absurd q
no-line (ending.Closing x) q = absurd q
no-line (ending.Showing x) q = absurd q
no-line (ending.Checked x) q = absurd q
no-line (ending.Informed x) q = absurd q

-- whichever way it ended
pub racked-anyway : {P : Type 0} (how : Ending) → P → UnlessRacked how P
racked-anyway {P} (ending.Opening f) p = by f.counts
  where
    by : (c : Option (ℕ × ℕ)) → IfSome c (λ counts. P)
    by None = tt
    by (Some c) = p
racked-anyway ending.Whole p = p
racked-anyway ending.Memory p = p
racked-anyway ending.Usage p = p
racked-anyway (ending.NoScript x) p = p
racked-anyway (ending.Refused x) p = p
racked-anyway ending.NotRead p = p
racked-anyway ending.OpeningSink p = p
racked-anyway ending.Sink p = p
racked-anyway (ending.Closing x) p = p
racked-anyway (ending.Showing x) p = p
racked-anyway (ending.Checked x) p = p
racked-anyway (ending.Informed x) p = p

-- ---- the sink

-- a line of nothing
silent : (k1 k2 : SinkSeen) → WroteOn k1 k2 [] [] → k2.written ≡ k1.written
silent k1 k2 taken = elim taken [
  | inl all ↦ all ∙ sym (appended_nothing k1.written)
  | inr part ↦ part.1.1 ∙ ap (text_with_more k1.written) (take-nil part.1.0) ∙ sym (appended_nothing k1.written)
]

risen-after : (a b c : ℕ) → HasRisen a b → b ≤ c → HasRisen a c
risen-after a b c risen le = omega (arith, risen, le)

still-on : (k0 k1 k2 : SinkSeen) (a b : List ℕ) → WroteOn k0 k1 a b → k1.faults ≤ k2.faults → k2.written ≡ k1.written → WroteOn k0 k2 a b
still-on k0 k1 k2 a b on later same = elim on [
  | inl all ↦ inl (still_wrote k0 k1 k2 (a ++ b) all same)
  | inr part ↦ inr (risen-after k0.faults k1.faults k2.faults part.0 later, still_front k0 k1 k2 a b part.1 same)
]

module _ (g : Given) (s0 s1 r0 r1 n0 n1 : ℕ) (k0 k1 k2 : SinkSeen) (e : End) (first : k0.faults ≤ k1.faults) (later : k1.faults ≤ k2.faults) where
  -- what the outside has seen, up to a sink
  abbrev pub outside : SinkSeen → Outside
  outside k = record { source_old = s0; source_new = s1; rack_old = r0; rack_new = r1; attached_old = n0; attached_new = n1; sink_old = k0; sink_new = k }

  bare-line : (how : Ending) → EndsBare (wrote_before (outside k1)) how e → WroteOn k1 k2 [] (last_line_of how) → EndsBare (wrote_all (outside k2)) how e
  bare-line how b w = record { none = b.none; history = b.history; wrote = on_behind k0 k1 k2 [] (last_line_of how) first b.wrote w }

  -- an answer to a trace, behind which nothing was printed
  answer-still : (a : TraceAnswer) → WroteAnswer k0 k1 a → k2.written ≡ k1.written → WroteAnswer k0 k2 a
  answer-still (answer.Verdict v) wrote same = still_wrote k0 k1 k2 (answer_text (answer.Verdict v)) wrote same
  answer-still (answer.Fault f) on same = still-on k0 k1 k2 [] (answer_text (answer.Fault f)) on later same
  answer-still answer.Long on same = still-on k0 k1 k2 [] (answer_text answer.Long) on later same

  stops-still : (a : TraceAnswer) → StopsInAnswer k0 k1 a → k2.written ≡ k1.written → StopsInAnswer k0 k2 a
  stops-still (answer.Verdict v) stops same =
      (risen-after k0.faults k1.faults k2.faults stops.0 later, still_part k0 k1 k2 [] (answer_text (answer.Verdict v)) stops.1 same)
  stops-still (answer.Fault f) stops same = absurd stops
  stops-still answer.Long stops same = absurd stops

  -- the last line was printed, as far as the sink took it
  line-told : (how : Ending) → CaseOf g (outside k1) (wrote_before (outside k1)) e how → WroteOn k1 k2 [] (last_line_of how) → CaseOf g (outside k2) (wrote_all (outside k2)) e how
  line-told ending.Whole c w = record { course = c.course; shown = c.shown; wrote = still_wrote k0 k1 k2 (whole_text c.course e) c.wrote (silent k1 k2 w) }
  line-told ending.Usage c w = (c.0, bare-line ending.Usage c.1 w)
  line-told (ending.NoScript f) c w = (c.0, bare-line (ending.NoScript f) c.1 w)
  line-told (ending.Refused r) (inl c) w = inl (c.0, bare-line (ending.Refused r) c.1 w)
  line-told (ending.Refused r) (inr c) w = inr (record {
    what = c.what;
    asked = c.asked;
    history = c.history;
    cause = c.cause;
    wrote = on_behind k0 k1 k2 [] (last_line_of (ending.Refused r)) first c.wrote w;
  })
  line-told ending.NotRead c w = (c.0, bare-line ending.NotRead c.1 w)
  line-told ending.OpeningSink c w = record {
    what = c.what;
    files = c.files;
    bytes = c.bytes;
    opened = c.opened;
    written = c.written;
    history = c.history;
    read = c.read;
    cause = risen-after k0.faults k1.faults k2.faults c.cause later;
    wrote = still_part k0 k1 k2 [] (opening_part c.what c.files e.disks c.bytes) c.wrote (silent k1 k2 w);
  }
  line-told ending.Sink c w = record {
    course = c.course;
    shown = c.shown;
    cause = risen-after k0.faults k1.faults k2.faults c.cause later;
    wrote = still_part k0 k1 k2 (opening_of c.course e) (report_of c.course e) c.wrote (silent k1 k2 w);
  }
  line-told (ending.Opening f) (inl c) w = inl (record {
    what = c.what;
    asked = c.asked;
    history = c.history;
    cause = c.cause;
    stopped = c.stopped;
    wrote = on_behind k0 k1 k2 [] (last_line_of (ending.Opening f)) first c.wrote w;
  })
  line-told (ending.Opening f) (inr c) w = inr (record {
    what = c.what;
    files = c.files;
    text = c.text;
    opened = c.opened;
    written = c.written;
    history = c.history;
    cause = c.cause;
    before = c.before;
    wrote = on_behind k0 k1 k2 c.text (last_line_of (ending.Opening f)) first c.wrote w;
  })
  line-told (ending.Closing f) c w = record {
    course = c.course;
    runs = c.runs;
    cause = c.cause;
    tables = c.tables;
    wrote = still-on k0 k1 k2 _ _ c.wrote later (silent k1 k2 w);
  }
  line-told (ending.Showing f) c w = record {
    course = c.course;
    file = c.file;
    page = c.page;
    shown = c.shown;
    cause = c.cause;
    place = c.place;
    none = c.none;
    wrote = on_behind k0 k1 k2 (opening_of c.course e ++ (middle_of c.course e ++ sections_before Report c.course.infos c.course.shown c.file c.page))
        (last_line_of (ending.Showing f)) first c.wrote w;
  }
  line-told ending.Memory (inl c) w = inl (record { none = c.none; history = c.history; wrote = still_wrote k0 k1 k2 [] c.wrote (silent k1 k2 w) })
  line-told ending.Memory (inr (inl c)) w = inr (inl (record {
    what = c.what;
    asked = c.asked;
    handed = c.handed;
    counted = c.counted;
    history = c.history;
    wrote = still_wrote k0 k1 k2 [] c.wrote (silent k1 k2 w);
  }))
  line-told ending.Memory (inr (inr (inl c))) w = inr (inr (inl (record {
    what = c.what;
    files = c.files;
    bytes = c.bytes;
    opened = c.opened;
    written = c.written;
    counted = c.counted;
    history = c.history;
    read = c.read;
    wrote = still_front k0 k1 k2 [] (opening_part c.what c.files e.disks c.bytes) c.wrote (silent k1 k2 w);
  })))
  line-told ending.Memory (inr (inr (inr c))) w = inr (inr (inr (record {
    course = c.course;
    begun = c.begun;
    told = c.told;
    left = c.left;
    wrote = elim c.wrote [
      | inl opening ↦ inl (still_wrote k0 k1 k2 (opening_of c.course e) opening (silent k1 k2 w))
      | inr shown ↦ inr (shown.0, still_front k0 k1 k2 (opening_of c.course e) (report_of c.course e) shown.1 (silent k1 k2 w))
    ];
  })))
  line-told (ending.Checked (ends.Told a)) c w = record { answer = c.answer; none = c.none; history = c.history; wrote = answer-still a c.wrote (silent k1 k2 w) }
  line-told (ending.Checked ends.Sink) c w =
      (c.0, record { answer = c.1.answer; none = c.1.none; history = c.1.history; wrote = stops-still c.0 c.1.wrote (silent k1 k2 w) })
  line-told (ending.Informed (inquired.Told q)) c w = record { asked = c.asked; none = c.none; history = c.history; wrote = still_wrote k0 k1 k2 (inquiry_text q) c.wrote (silent k1 k2 w) }
  line-told (ending.Informed (inquired.Sink q)) c w = record {
    asked = c.asked;
    none = c.none;
    history = c.history;
    wrote = (risen-after k0.faults k1.faults k2.faults c.wrote.0 later, still_part k0 k1 k2 [] (inquiry_text q) c.wrote.1 (silent k1 k2 w));
  }

  -- the run's end, whichever it is
  pub last-line : (was how : Ending) → CaseOf g (outside k1) (wrote_before (outside k1)) e was → FailsOnce (outside k1) was → IsConcluded was k1 k2 how
      → EndsTold g (outside k2) e how ⊎ LacksLine g (outside k2) e how
  last-line was how c once (inl told) = inl (record {
    case = subst (CaseOf g (outside k2) (wrote_all (outside k2)) e) (sym told.0) (line-told was c told.1);
    once = record {
      source = λ other. once.source (λ is. other (told.0 ∙ is));
      rack = subst (λ (x : Ending). UnlessRacked x (r1 ≡ r0)) (sym told.0) once.rack;
      sink = λ quiet. let q = subst IsQuiet told.0 quiet in told.2 (no-line was q) ∙ once.sink q;
    };
  })
  last-line was how c once (inr lacks) = inr (record {
    memory = lacks.0;
    stopped = was;
    line = lacks.2;
    case = subst (λ (k : SinkSeen). CaseOf g (outside k) (wrote_before (outside k)) e was) (sym lacks.1) c;
    once = record { source = once.source; rack = once.rack; sink = λ quiet. absurd (lacks.2 (no-line was quiet)) };
  })

-- ends with the same history and disks
pub end-same : (st : ℕ) (ft : Option RunFault) (H H-new : HistorySeen) (d d-new : List DiskSeen) (w w-new : Option DiskSeen) → H-new ≡ H → d-new ≡ d → w-new ≡ w
    → ◌≡◌ {A = End} (record { status = st; fault = ft; history = H; disks = d; swap = w }) (record { status = st; fault = ft; history = H-new; disks = d-new; swap = w-new })
end-same st ft H H-new d d-new w w-new a b c = rw (a, b, c) refl

-- THE RUN ENDED in one of the ways
module _ (g : Given) (s0 s1 r0 r1 n0 n1 : ℕ) (k0 k1 k2 : SinkSeen) (first : k0.faults ≤ k1.faults) (later : k1.faults ≤ k2.faults) where
  abbrev seen : SinkSeen → Outside
  seen = outside g s0 s1 r0 r1 n0 n1 k0 k1 k2 (record { status = 0; fault = None; history = record { entries = []; faults = [] }; disks = []; swap = None }) first later

  pub ends-so : (H H-new : HistorySeen) (d d-new : List DiskSeen) (w w-new : Option DiskSeen) → H-new ≡ H → d-new ≡ d → w-new ≡ w → (was how : Ending) (st : ℕ) (ft : Option RunFault)
      → ((x : ℕ) (y : Option RunFault) → CaseOf g (seen k1) (wrote_before (seen k1)) (record { status = x; fault = y; history = H; disks = d; swap = w }) was)
      → FailsOnce (seen k1) was
      → IsConcluded was k1 k2 how → st ≡ status_of how → ft ≡ fault_of how → n1 ≡ n0 + member_count d-new w-new
      → RunEnds g (seen k2) (record { status = st; fault = ft; history = H-new; disks = d-new; swap = w-new })
  ends-so H H-new d d-new w w-new a b c was how st ft case once concluded status fault back = record {
    how = how;
    status = status;
    fault = fault;
    back = back;
    case = subst (λ (e : End). EndsTold g (seen k2) e how ⊎ LacksLine g (seen k2) e how) (end-same st ft H H-new d d-new w w-new a b c)
        (last-line g s0 s1 r0 r1 n0 n1 k0 k1 k2 (record { status = st; fault = ft; history = H; disks = d; swap = w }) first later was how (case st ft) once concluded);
  }
