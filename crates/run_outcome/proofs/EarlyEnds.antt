-- A run that stops before its trace: the rack, a disk or memory failed, or a rule is broken.
use Rattle.std.proofs.Common.{◌≡◌, ℕ, List, [], refl, sym, ap, ◌∙◌, subst, arith, inl, inr, map}
use Rattle.std.specs.Prelude.{◌+◌, MatchOption, Option, Some, None, Ok, option_map}
use Rattle.volume_files.specs.block_device.Counts.{HasRisen}
use Rattle.volume_files.specs.block_device.DiskSeen.{DiskSeen}
use Rattle.volume_files.specs.block_device.OpenSeen.{OpenFaultSeen}
use Rattle.volume_files.specs.block_device.StreamSeen.{SinkSeen}
use Rattle.vm_core.specs.kernel_close.Finish.{HistorySeen}
use Rattle.run_endings.specs.declared.ending.Ending.{Ending}
use Rattle.run_endings.specs.declared.ending.Ending.TheVariants as ending
use Rattle.run_outcome.specs.declared.stop.Stop.{Stop}
use Rattle.run_endings.specs.declared.ending.TraceAnswer.{TraceAnswer}
use Rattle.run_endings.specs.declared.ending.TraceEnd.TheVariants as ends
use Rattle.run_endings.specs.declared.inquiry_end.InquiryEnd.TheVariants as inquired
use Rattle.run_input.specs.TraceChecks.{TellsAnswer, WasChecked, WroteAnswer}
use Rattle.run_input.specs.Inquired.{TellsInquiry, WasInquired}
use Rattle.command_line.specs.declared.inquiry.Inquiry.{Inquiry}
use Rattle.volume_files.specs.declared.stops.HandedBack.{HandedBack}
use Rattle.volume_files.specs.declared.stops.OpenStop.{OpenStop}
use Rattle.volume_files.specs.declared.stops.OpenStop.TheVariants as halt
use Rattle.run_endings.specs.Ending.{ending_of}
use Rattle.run_endings.specs.declared.fault.RunFault.{RunFault}
use Rattle.run_input.specs.Asked.{Given, Asked, WasAsked}
use Rattle.volume_files.specs.Attached.{StopCause, StopsEarly}
use Rattle.run_input.specs.Reading.{AskStops}
use Rattle.run_outcome.specs.Ended.{End, stop_end}
use Rattle.volume_files.specs.Handed.{AreUncounted, HasOpeningCause, IsCountedBy, member_count}
use Rattle.run_outcome.specs.Run.{CaseOf, EndsBare, Outside, wrote_before}
use Rattle.volume_files.specs.stored_files.Texts.{Wrote}
use Rattle.volume_files.proofs.stored_files.WrittenTexts.{wrote_nothing}

-- A run that stopped since its files weren't opened.
pub record IsUnopened {D : Type 0} (back : HandedBack D) (s : Stop D) : Type 0 where
  pub ending : s.ending ≡ ending_of back.why
  pub entries : s.history.entries ≡ []
  pub counts : s.history.faults ≡ []
  pub disks : s.disks ≡ back.disks
  pub swap : s.swap ≡ back.swap

module _ (st : ℕ) (ft : Option RunFault) (g : Given) (o : Outside) (nothing : Wrote o.sink_old o.sink_new []) where
  -- nothing can be run
  bare-end : (H : HistorySeen) (disks : List DiskSeen) (swap : Option DiskSeen) (how : Ending) → H.entries ≡ [] → H.faults ≡ [] → disks ≡ [] → swap ≡ None
      → EndsBare (wrote_before o) how (record { status = st; fault = ft; history = H; disks = disks; swap = swap })
  bare-end H disks swap how entries counts none last = record {
    none = record { no_disk = none; no_swap = last };
    history = record { entries = entries; counts = counts };
    wrote = nothing;
  }

  pub asked-stop : (H : HistorySeen) (disks : List DiskSeen) (swap : Option DiskSeen) (how : Ending) → H.entries ≡ [] → H.faults ≡ [] → disks ≡ [] → swap ≡ None
      → AskStops g o.source_old o.source_new how → CaseOf g o (wrote_before o) (record { status = st; fault = ft; history = H; disks = disks; swap = swap }) how
  asked-stop H disks swap ending.Usage entries counts none last a = (a, bare-end H disks swap ending.Usage entries counts none last)
  asked-stop H disks swap (ending.NoScript f) entries counts none last a = (a, bare-end H disks swap (ending.NoScript f) entries counts none last)
  asked-stop H disks swap (ending.Refused r) entries counts none last a = inl (a, bare-end H disks swap (ending.Refused r) entries counts none last)
  asked-stop H disks swap ending.NotRead entries counts none last a = (a, bare-end H disks swap ending.NotRead entries counts none last)
  asked-stop H disks swap ending.Memory entries counts none last a = inl (record {
    none = record { no_disk = none; no_swap = last };
    history = record { entries = entries; counts = counts };
    wrote = nothing;
  })
  asked-stop H disks swap ending.Whole entries counts none last a = absurd a
  asked-stop H disks swap ending.OpeningSink entries counts none last a = absurd a
  asked-stop H disks swap ending.Sink entries counts none last a = absurd a
  asked-stop H disks swap (ending.Opening f) entries counts none last a = absurd a
  asked-stop H disks swap (ending.Closing f) entries counts none last a = absurd a
  asked-stop H disks swap (ending.Showing f) entries counts none last a = absurd a
  asked-stop H disks swap (ending.Checked t) entries counts none last a = absurd a
  asked-stop H disks swap (ending.Informed t) entries counts none last a = absurd a

  module _ (what : Asked) (asked : WasAsked g (Ok what)) (old new : ℕ) (risen : HasRisen old new → HasRisen o.rack_old o.rack_new) where
    same-cause : (disks : List DiskSeen) (swap : Option DiskSeen) (f : OpenFaultSeen) → HasOpeningCause what.plan disks swap old new f
        → HasOpeningCause what.plan disks swap o.rack_old o.rack_new f
    same-cause disks swap f h = by f.counts h
      where
        by : (counts : Option (ℕ × ℕ)) → MatchOption counts (HasRisen old new) (λ c. IsCountedBy what.plan disks swap f.disk c.0 c.1)
            → MatchOption counts (HasRisen o.rack_old o.rack_new) (λ c. IsCountedBy what.plan disks swap f.disk c.0 c.1)
        by None k = risen k
        by (Some c) k = k

    early-case : (H : HistorySeen) (disks : List DiskSeen) (swap : Option DiskSeen) (how : OpenStop) → H.entries ≡ [] → H.faults ≡ []
        → StopCause what.plan g.holds old new disks swap how → (how ≡ halt.Memory → AreUncounted disks swap) → CaseOf g o (wrote_before o) (record { status = st; fault = ft; history = H; disks = disks; swap = swap }) (ending_of how)
    early-case H disks swap (halt.Refused r) entries counts cause none = inr (record {
      what = what;
      asked = asked;
      history = record { entries = entries; counts = counts };
      cause = cause;
      wrote = nothing;
    })
    early-case H disks swap (halt.Failed f) entries counts cause none = elim cause [
      | inl c ↦ inl (record {
        what = what;
        asked = asked;
        history = record { entries = entries; counts = counts };
        cause = same-cause disks swap f c.0;
        stopped = c.1;
        wrote = nothing;
      })
      | inr c ↦ inr (record {
        what = what;
        files = c.files;
        text = [];
        opened = record { asked = asked; handed = c.handed; given = c.given; opened = c.opened };
        written = c.written;
        history = record { entries = entries; counts = counts };
        cause = c.cause;
        before = inl refl;
        wrote = nothing;
      })
    ]
    early-case H disks swap halt.Memory entries counts cause none = inr (inl (record {
      what = what;
      asked = asked;
      handed = cause;
      counted = none refl;
      history = record { entries = entries; counts = counts };
      wrote = nothing;
    }))

    pub early : {D : Type 0} (seen : D → DiskSeen) (back : HandedBack D) (s : Stop D) → IsUnopened back s → StopsEarly what.plan g.holds old new seen back
        → (back.why ≡ halt.Memory → AreUncounted (map seen back.disks.items) (option_map seen back.swap)) → CaseOf g o (wrote_before o) (record (stop_end seen s) { status = st; fault = ft }) s.ending
    early seen back s u h none =
        let disks : map seen s.disks.items ≡ map seen back.disks.items = ap (λ v. map seen v.items) u.disks in
        let swap : option_map seen s.swap ≡ option_map seen back.swap = ap (option_map seen) u.swap in
        rw (u.ending, disks, swap) (early-case s.history (map seen back.disks.items) (option_map seen back.swap) back.why u.entries u.counts h none)

-- a run that stopped before its trace, whose sink took nothing
pub stopped-early : (st : ℕ) (ft : Option RunFault) (g : Given) (o : Outside) (what : Asked) → WasAsked g (Ok what) → (old new : ℕ)
    → (HasRisen old new → HasRisen o.rack_old o.rack_new) → (k : SinkSeen) → o.sink_old ≡ k → o.sink_new ≡ k → {D : Type 0} (seen : D → DiskSeen) (back : HandedBack D) (s : Stop D)
    → IsUnopened back s → StopsEarly what.plan g.holds old new seen back → (back.why ≡ halt.Memory → AreUncounted (map seen back.disks.items) (option_map seen back.swap))
    → CaseOf g o (wrote_before o) (record (stop_end seen s) { status = st; fault = ft }) s.ending
stopped-early st ft g o what asked old new risen k before after seen back s u h none =
    early st ft g o (subst (λ (x : SinkSeen). Wrote o.sink_old x []) (before ∙ sym after) (wrote_nothing o.sink_old)) what asked old new risen seen back s u h none

-- a run for which nothing was attached, whose sink took nothing
pub stopped-asking : (st : ℕ) (ft : Option RunFault) (g : Given) (o : Outside) (k : SinkSeen) → o.sink_old ≡ k → o.sink_new ≡ k → {D : Type 0} (seen : D → DiskSeen) (s : Stop D) (how : Ending)
    → s.ending ≡ how → s.history.entries ≡ [] → s.history.faults ≡ [] → s.disks.items ≡ [] → s.swap ≡ None → AskStops g o.source_old o.source_new how
    → CaseOf g o (wrote_before o) (record (stop_end seen s) { status = st; fault = ft }) s.ending
stopped-asking st ft g o k before after seen s how is entries counts none last a =
    asked-stop st ft g o (subst (λ (x : SinkSeen). Wrote o.sink_old x []) (before ∙ sym after) (wrote_nothing o.sink_old)) s.history (map seen s.disks.items) (option_map seen s.swap)
    s.ending entries counts (ap (map seen) none) (ap (option_map seen) last) (subst (AskStops g o.source_old o.source_new) (sym is) a)

-- no disk is handed back
pub bare-back : {D : Type 0} (seen : D → DiskSeen) (s : Stop D) (attached : ℕ) → s.disks.items ≡ [] → s.swap ≡ None → attached ≡ attached + member_count (map seen s.disks.items) (option_map seen s.swap)
bare-back seen s attached none last = rw (none, last) (let z : member_count [] None ≡ 0 = refl in omega (arith, z))

-- a trace was answered
module _ (st : ℕ) (ft : Option RunFault) (g : Given) (o : Outside) (H : HistorySeen) (disks : List DiskSeen) (swap : Option DiskSeen)
    (entries : H.entries ≡ []) (counts : H.faults ≡ []) (none : disks ≡ []) (last : swap ≡ None) where
  abbrev bare : End
  bare = record { status = st; fault = ft; history = H; disks = disks; swap = swap }

  checked-stop : (a : TraceAnswer) (how : Ending) → WasChecked g a → TellsAnswer a o.sink_old o.sink_new how → CaseOf g o (wrote_before o) bare how
  checked-stop a (ending.Checked (ends.Told b)) w t = record {
    answer = subst (λ (x : TraceAnswer). WasChecked g x) (sym t.0) w;
    none = record { no_disk = none; no_swap = last };
    history = record { entries = entries; counts = counts };
    wrote = subst (λ (x : TraceAnswer). WroteAnswer o.sink_old o.sink_new x) (sym t.0) t.1;
  }
  checked-stop a (ending.Checked ends.Sink) w t = (
    a,
    record {
      answer = w;
      none = record { no_disk = none; no_swap = last };
      history = record { entries = entries; counts = counts };
      wrote = t;
    },
  )
  checked-stop a ending.Memory w t = inl (record {
    none = record { no_disk = none; no_swap = last };
    history = record { entries = entries; counts = counts };
    wrote = t;
  })
  checked-stop a ending.Whole w t = absurd t
  checked-stop a ending.Usage w t = absurd t
  checked-stop a (ending.NoScript f) w t = absurd t
  checked-stop a (ending.Refused r) w t = absurd t
  checked-stop a ending.NotRead w t = absurd t
  checked-stop a ending.OpeningSink w t = absurd t
  checked-stop a ending.Sink w t = absurd t
  checked-stop a (ending.Opening f) w t = absurd t
  checked-stop a (ending.Closing f) w t = absurd t
  checked-stop a (ending.Showing f) w t = absurd t
  checked-stop a (ending.Informed x) w t = absurd t

  -- or the program told of itself
  informed-stop : (q : Inquiry) (how : Ending) → WasInquired g q → TellsInquiry q o.sink_old o.sink_new how → CaseOf g o (wrote_before o) bare how
  informed-stop q (ending.Informed (inquired.Told p)) w t = rw t.0 (record {
    asked = w;
    none = record { no_disk = none; no_swap = last };
    history = record { entries = entries; counts = counts };
    wrote = t.1;
  })
  informed-stop q (ending.Informed (inquired.Sink p)) w t = rw t.0 (record {
    asked = w;
    none = record { no_disk = none; no_swap = last };
    history = record { entries = entries; counts = counts };
    wrote = t.1;
  })
  informed-stop q ending.Memory w t = absurd t
  informed-stop q ending.Whole w t = absurd t
  informed-stop q ending.Usage w t = absurd t
  informed-stop q (ending.NoScript f) w t = absurd t
  informed-stop q (ending.Refused r) w t = absurd t
  informed-stop q ending.NotRead w t = absurd t
  informed-stop q ending.OpeningSink w t = absurd t
  informed-stop q ending.Sink w t = absurd t
  informed-stop q (ending.Opening f) w t = absurd t
  informed-stop q (ending.Closing f) w t = absurd t
  informed-stop q (ending.Showing f) w t = absurd t
  informed-stop q (ending.Checked x) w t = absurd t

pub stopped-checking : (st : ℕ) (ft : Option RunFault) (g : Given) (o : Outside) (a : TraceAnswer) (k0 k1 : SinkSeen) → o.sink_old ≡ k0 → o.sink_new ≡ k1 → WasChecked g a
    → {D : Type 0} (seen : D → DiskSeen) (s : Stop D) (how : Ending) → s.ending ≡ how → s.history.entries ≡ [] → s.history.faults ≡ [] → s.disks.items ≡ [] → s.swap ≡ None
    → TellsAnswer a k0 k1 how → CaseOf g o (wrote_before o) (record (stop_end seen s) { status = st; fault = ft }) s.ending
stopped-checking st ft g o a k0 k1 before after w seen s how is entries counts none last t =
    let told : TellsAnswer a o.sink_old o.sink_new s.ending = rw (is, before, after) t in
    checked-stop st ft g o s.history (map seen s.disks.items) (option_map seen s.swap) entries counts (ap (map seen) none) (ap (option_map seen) last) a s.ending w told

pub stopped-informing : (st : ℕ) (ft : Option RunFault) (g : Given) (o : Outside) (q : Inquiry) (k0 k1 : SinkSeen) → o.sink_old ≡ k0 → o.sink_new ≡ k1 → WasInquired g q
    → {D : Type 0} (seen : D → DiskSeen) (s : Stop D) (how : Ending) → s.ending ≡ how → s.history.entries ≡ [] → s.history.faults ≡ [] → s.disks.items ≡ [] → s.swap ≡ None
    → TellsInquiry q k0 k1 how → CaseOf g o (wrote_before o) (record (stop_end seen s) { status = st; fault = ft }) s.ending
stopped-informing st ft g o q k0 k1 before after w seen s how is entries counts none last t =
    let told : TellsInquiry q o.sink_old o.sink_new s.ending = rw (is, before, after) t in
    informed-stop st ft g o s.history (map seen s.disks.items) (option_map seen s.swap) entries counts (ap (map seen) none) (ap (option_map seen) last) q s.ending w told

-- counts that rose rose for the outside
pub risen-outside : (old new : ℕ) (o : Outside) → o.rack_old ≡ old → o.rack_new ≡ new → HasRisen old new → HasRisen o.rack_old o.rack_new
risen-outside old new o before after h = subst (λ (n : ℕ). HasRisen n o.rack_new) (sym before) (subst (HasRisen old) (sym after) h)

-- a count that never rose
pub never-risen : {P : Type 0} → HasRisen 0 0 → P
never-risen risen = absurd (omega (arith, risen))
