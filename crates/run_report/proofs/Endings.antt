-- How a run ends whose files were closed.
use Rattle.page_store.proofs.FrameLaws.{unset as no-make}
use Rattle.std.proofs.Common.{◌≡◌, ◌∙◌, ℕ, ◌≤◌, List, ◌++◌, length, true, false, ap, refl, sym, subst, inl, inr, arith, append-nil}
use Rattle.std.specs.Prelude.{Bool, Option, Some, None, is_some, IfErr, OnOk, Ok, Err, Result}
use Rattle.std.proofs.lemmas.Option.{slice_get_past}
use Rattle.std.proofs.lemmas.Bool.{false≢true}
use Rattle.volume_files.specs.vm_types.declared.call.Entry.{Entry}
use Rattle.volume_files.specs.block_device.DiskSeen.{DiskSeen}
use Rattle.volume_files.specs.block_device.StreamSeen.{SinkSeen}
use Rattle.volume_files.specs.block_device.declared.disk_fault.DiskFault.{DiskFault}
use Rattle.volume_files.specs.vnode_files.declared.vnode.FileInfo.{FileInfo}
use Rattle.volume_files.specs.vm_script.PlanSeen.{PlanSeen}
use Rattle.run_endings.specs.declared.ending.Ending.{Ending}
use Rattle.run_endings.specs.declared.ending.Ending.TheVariants as ending
use Rattle.command_line.specs.declared.options.Options.{Options}
use Rattle.volume_files.specs.stored_files.declared.showing.Heading.TheVariants.{Report}
use Rattle.volume_files.specs.stored_files.declared.showing.ShowStop.{ShowStop}
use Rattle.volume_files.specs.stored_files.declared.showing.ShowStop.TheVariants as show
use Rattle.run_report.specs.ReportEnds.{CloseEnds, LacksTable, MiddleStops, ShowEnds, TablesLeft, showing_stop}
use Rattle.volume_files.specs.stored_files.Texts.{Wrote, WroteFront, WrotePart}
use Rattle.run_report.specs.AskedTexts.{files_or_none, middle_text}
use Rattle.volume_files.specs.stored_files.Closed.{SayTables}
use Rattle.volume_files.specs.stored_files.Uncut.{counts_of}
use Rattle.volume_files.specs.stored_files.declared.closing.TableStop.{TableStop}
use Rattle.volume_files.specs.stored_files.declared.closing.TableStop.TheVariants as table
use Rattle.volume_files.specs.stored_files.Written.{disk_fault_counts, AreFilesBytes, IsShowStop, IsTableStop, WriteTables, WroteTablesAt}
use Rattle.volume_files.specs.Handed.{kinds_of}
use Rattle.volume_files.proofs.DiskCounts.{kinds-read, kinds-written}
use Rattle.volume_files.proofs.stored_files.WrittenTexts.{risen_since, wrote_then, front_more, front_then, part_more, part_then}

module _ (o : Options) (plan : PlanSeen) (H : List Entry) (infos : List FileInfo) (k0 k1 : SinkSeen) (old new : List (ℕ × DiskSeen)) where
  -- the text before the files wasn't written
  pub middle-stopped : (bytes : ℕ → List ℕ) → AreFilesBytes infos old bytes → (how : Ending) → MiddleStops (middle_text o plan H) k0 k1 how → ShowEnds o plan H infos k0 k1 old new how
  middle-stopped bytes are ending.Memory m = (bytes, are, front_more k0 k1 (middle_text o plan H) (files_or_none o.make infos bytes) m)
  middle-stopped bytes are ending.Sink m = (m.0, (bytes, are, part_more k0 k1 (middle_text o plan H) (files_or_none o.make infos bytes) m.1))
  middle-stopped bytes are ending.Whole m = absurd m
  middle-stopped bytes are ending.Usage m = absurd m
  middle-stopped bytes are (ending.NoScript f) m = absurd m
  middle-stopped bytes are (ending.Refused r) m = absurd m
  middle-stopped bytes are ending.NotRead m = absurd m
  middle-stopped bytes are ending.OpeningSink m = absurd m
  middle-stopped bytes are (ending.Opening f) m = absurd m
  middle-stopped bytes are (ending.Closing f) m = absurd m
  middle-stopped bytes are (ending.Showing f) m = absurd m
  middle-stopped bytes are (ending.Checked t) m = absurd m
  middle-stopped bytes are (ending.Informed t) m = absurd m

-- a generated script shows no file
pub without-files : (make : Option ℕ) (k0 k1 : SinkSeen) (text : List ℕ) (infos : List FileInfo) (bytes : ℕ → List ℕ) → is_some make ≡ true → Wrote k0 k1 text
    → Wrote k0 k1 (text ++ files_or_none make infos bytes)
without-files None k0 k1 text infos bytes some w = absurd (false≢true some)
without-files (Some n) k0 k1 text infos bytes some w = subst (Wrote k0 k1) (sym (append-nil text)) w

module _ (o : Options) (plan : PlanSeen) (H : List Entry) (infos : List FileInfo) (bytes : ℕ → List ℕ) (k0 k1 k2 : SinkSeen) (old new : List (ℕ × DiskSeen)) where
  -- the files weren't shown to their end
  pub files-stopped : AreFilesBytes infos old bytes → is_some o.make ≡ false → k0.faults ≤ k1.faults → Wrote k0 k1 (middle_text o plan H)
      → (stop : ShowStop DiskFault) → IsShowStop Report infos bytes k1 k2 old new disk_fault_counts stop → ShowEnds o plan H infos k0 k2 old new (showing_stop stop)
  files-stopped are none later wrote show.Memory s = (
    bytes,
    are,
    front_then k0 k1 k2 (middle_text o plan H) (files_or_none o.make infos bytes) wrote
        (subst (λ (make : Option ℕ). WroteFront k1 k2 (files_or_none make infos bytes)) (sym (no-make o.make none)) s),
  )
  files-stopped are none later wrote show.Sink s = (
    risen_since k0.faults k1.faults k2.faults later s.0,
    (
      bytes,
      are,
      part_then k0 k1 k2 (middle_text o plan H) (files_or_none o.make infos bytes) wrote
          (subst (λ (make : Option ℕ). WrotePart k1 k2 (files_or_none make infos bytes)) (sym (no-make o.make none)) s.1),
    ),
  )
  files-stopped are none later wrote (show.Fault f) s =
      (s.0, (bytes, s.1.0, s.1.1, are, s.1.2, no-make o.make none, wrote_then k0 k1 k2 (middle_text o plan H) _ wrote s.1.3))

-- no table was written
pub no-tables : (infos : List FileInfo) (disks : List (ℕ × DiskSeen)) → WroteTablesAt infos 0 disks disks
no-tables infos disks = record { before = λ i d low at. absurd (omega (arith, low)); behind = λ i low. refl; uncounted = refl }

-- tables were written up to some disk, whether all were or not
pub tables-to : (infos : List FileInfo) (old new : List (ℕ × DiskSeen)) → WriteTables old new → (r : Result (Unit {0}) TableStop) → OnOk r (SayTables new infos) → OnOk r (counts_of new ≡ counts_of old) → IfErr r (IsTableStop infos old new)
    → TablesLeft infos old new
tables-to infos old new w (Ok done) say none stop = inl (
  length new,
  record {
    before = λ i d low at. say i d at;
    behind = λ i past. slice_get_past new i (omega (arith, past)) ∙ sym (slice_get_past old i (let count = w.count in omega (arith, past, count)));
    uncounted = none;
  },
)
tables-to infos old new w (Err table.Memory) say none stop = inl stop
tables-to infos old new w (Err (table.Fault f)) say none stop = inr (f, stop.0, stop.1)

-- not all lines were made
pub lacks-closed : (whole : Bool) (fault : Option DiskFault) (o : Options) (plan : PlanSeen) (H : List Entry) (infos : List FileInfo) (k0 k1 : SinkSeen) (old new : List (ℕ × DiskSeen)) (how : Ending)
    → whole ≡ false → (is_some fault ≡ true → new ≡ old) → LacksTable infos k0 k1 old new how → CloseEnds whole fault o plan H infos k0 k1 old new how
lacks-closed whole fault o plan H infos k0 k1 old new how is same h = subst (λ (b : Bool). CloseEnds b fault o plan H infos k0 k1 old new how) (sym is) (by fault same)
  where
    by : (f : Option DiskFault) → (is_some f ≡ true → new ≡ old) → CloseEnds false f o plan H infos k0 k1 old new how
    by None same = h
    by (Some f) same = (same refl, h)

-- each disk has its kind
pub close-kinds : (whole : Bool) (fault : Option DiskFault) (o : Options) (plan : PlanSeen) (H : List Entry) (infos : List FileInfo) (k0 k1 : SinkSeen) (old new : List (ℕ × DiskSeen)) (how : Ending)
    → CloseEnds whole fault o plan H infos k0 k1 old new how → kinds_of new ≡ kinds_of old
close-kinds false (Some f) o plan H infos k0 k1 old new how e = ap kinds_of e.0
close-kinds false None o plan H infos k0 k1 old new how e = kinds-written old new e.writes
close-kinds true (Some f) o plan H infos k0 k1 old new how e = ap kinds_of e.0
close-kinds true None o plan H infos k0 k1 old new how e = elim e [
  | inl shown ↦ kinds-read shown.mid new shown.reads ∙ kinds-written old shown.mid shown.writes
  | inr stopped ↦ elim stopped [ inl fails ↦ kinds-written old new fails.writes | inr lacks ↦ kinds-written old new lacks.writes ]
]
