-- How a run ended whose processes ran.
use Rattle.std.proofs.Common.{◌≡◌, ℕ, ◌≤◌, ◌<◌, ◌++◌, true, false, List, [], refl, sym, ap, ◌∙◌, subst, arith, inl, inr}
use Rattle.std.specs.Prelude.{◌⊎◌, All, Bool, IsTrue, Option, Some, None, slice_get, slice_index_or, IfSome}
use Rattle.volume_files.specs.block_device.DiskSeen.{DiskSeen}
use Rattle.volume_files.specs.block_device.StreamSeen.{SinkSeen}
use Rattle.volume_files.specs.block_device.declared.disk_fault.DiskFault.{DiskFault}
use Rattle.volume_files.specs.vnode_files.Files.{FilesSeen}
use Rattle.volume_files.specs.vnode_files.declared.vnode.FileInfo.{FileInfo}
use Rattle.volume_files.specs.vm_report.Faults.{disk_fault_text}
use Rattle.volume_files.specs.vm_script.PlanSeen.{PlanSeen}
use Rattle.volume_files.specs.vm_script.Told.{Told, ToldFront}
use Rattle.volume_files.specs.vm_types.declared.call.Entry.{Entry}
use Rattle.printed_traces.specs.Printed.{HasToldCounts}
use Rattle.vm_core.specs.vm_world.State.{KernelState}
use Rattle.run_endings.specs.declared.ending.Ending.{Ending}
use Rattle.run_endings.specs.declared.ending.Ending.TheVariants as ending
use Rattle.run_endings.specs.declared.fault.RunFault.{RunFault}
use Rattle.run_input.specs.Asked.{Given, Asked}
use Rattle.volume_files.specs.Attached.{AttachedSeen, bare_disks}
use Rattle.volume_files.specs.stored_files.Closed.{SayTables, SaysTable}
use Rattle.run_opening.specs.Ready.{IsReady}
use Rattle.run_report.specs.ReportEnds.{CloseEnds, CloseFails, ShowEnds, LacksTable, TablesLeft}
use Rattle.run_outcome.specs.Ended.{HasLateCause}
use Rattle.volume_files.specs.Opened.{OpenedFile, infos_of, opening_flat}
use Rattle.run_kernel.specs.Played.{IsStarted, KernelLeaves, LeftSeen, IsClosingFault}
use Rattle.volume_files.specs.stored_files.Written.{infos_made, AreFilesBytes, AreOnlyRead, FaultCounts, HaveDisks, IsCountedSince, KeepsBlocks, OnlyReads, WriteTables, WroteTablesTo, disk_fault_counts, disk_sizes}
use Rattle.run_outcome.specs.Run.{CaseOf, Course, Outside, WasShown, Lacks, RunsThrough, WroteNoTable, WroteTablesAlone, WroteTablesBelow, middle_of, opening_of, opening_part, plan_opened, wrote_before}
use Rattle.volume_files.specs.stored_files.Texts.{Wrote, WroteAndFront, WroteAndPart, WroteFront, WroteOn, WrotePart}
use Rattle.run_report.specs.AskedTexts.{middle_text, trace_opening}
use Rattle.volume_files.proofs.DiskLists.{at-map, mate, have-written, writes-refl}
use Rattle.volume_files.proofs.stored_files.WrittenTexts.{appended_nothing, risen_since, wrote_then}
use Rattle.run_outcome.proofs.Sinks.{front_behind, on_behind, part_behind, still_wrote}
use Rattle.run_opening.proofs.Courses.{all-tables, ended, begun, closes, closed-bytes, late-cause, no-table, numbers-new, sizes-same, some-tables, tables-below}

-- disks that are only read after their tables were written
blocks-read : (d e f : DiskSeen) → KeepsBlocks d e → OnlyReads e f → KeepsBlocks d f
blocks-read d e f k r = record {
  size = r.size ∙ k.size;
  kind = r.kind ∙ k.kind;
  faults = let low = k.faults in let high = r.faults in omega (arith, low, high);
  untold = λ is. r.content ∙ k.untold is;
  told = λ blocks is. let now = k.told blocks is in (now.0, r.content ∙ now.1, now.2, now.3);
}

writes-then : (old mid new : List (ℕ × DiskSeen)) → WriteTables old mid → AreOnlyRead mid new → WriteTables old new
writes-then old mid new w r = record {
  count = r.count ∙ w.count;
  numbers = r.numbers ∙ w.numbers;
  each = λ i d f di fi. let m = mate old mid w.numbers i d di in blocks-read d.1 m.0.1 f.1 (w.each i d m.0 di m.1) (r.each i m.0 f m.1 fi);
}

tables-read : (mid new : List (ℕ × DiskSeen)) (infos : List FileInfo) → AreOnlyRead mid new → SayTables mid infos → SayTables new infos
tables-read mid new infos r t i f fi =
    let m = mate new mid (sym r.numbers) i f fi in let same = r.each i m.0 f m.1 fi in
    subst (λ content. IfSome content (λ blocks. SaysTable f.0 f.1.size infos (slice_index_or blocks 0 []))) (sym same.content)
    (subst (λ size. IfSome m.0.1.content (λ blocks. SaysTable f.0 size infos (slice_index_or blocks 0 []))) (sym same.size)
    (subst (λ n. IfSome m.0.1.content (λ blocks. SaysTable n m.0.1.size infos (slice_index_or blocks 0 []))) m.2 (t i m.0 m.1)))

bytes-read : (mid new : List (ℕ × DiskSeen)) (infos : List FileInfo) (bytes : ℕ → List ℕ) → AreOnlyRead mid new → AreFilesBytes infos mid bytes → AreFilesBytes infos new bytes
bytes-read mid new infos bytes r are = record {
  lengths = are.lengths;
  told = λ i k f info fi at own. let m = mate new mid (sym r.numbers) i f fi in
      subst (λ content. IfSome content (λ blocks. Rattle.volume_files.specs.stored_files.Closed.stored_bytes blocks info ≡ bytes k)) (sym (r.each i m.0 f m.1 fi).content)
      (are.told i k m.0 info m.1 at (own ∙ sym m.2));
}

since-then : (old mid new : List (ℕ × DiskSeen)) (f : FaultCounts) → WriteTables old mid → IsCountedSince mid new f → IsCountedSince old new f
since-then old mid new f w c =
    let m = mate mid old (sym w.numbers) c.i c.was c.there in
    let low = (w.each c.i m.0 c.was m.1 c.there).faults in let high = c.fault.since in
    record {
      i = c.i;
      was = m.0;
      is = c.is;
      there = m.1;
      now = c.now;
      same = c.same ∙ sym m.2;
      fault = record { number = c.fault.number; risen = c.fault.risen; since = omega (arith, low, high); last = c.fault.last };
    }

module _ (st : ℕ) (ft : Option RunFault) (g : Given) (o : Outside) (what : Asked) (files : List OpenedFile) (bytes : ℕ → List ℕ) (a : AttachedSeen) (made : FilesSeen) (plan : PlanSeen) (k1 : SinkSeen)
    (ready : IsReady g o.sink_old k1 what files bytes a made plan) (s : KernelState) (l : LeftSeen)
    (started : IsStarted plan (opening_flat plan (disk_sizes a.disks) files) a.disks a.swap made s)
    (left : KernelLeaves (opening_flat plan (disk_sizes a.disks) files) s l)
    (low : (i : ℕ) (d : ℕ × DiskSeen) → slice_get l.disks i ≡ Some d → d.0 < 8) (later : o.sink_old.faults ≤ k1.faults) (counts : All (λ (e : Entry). HasToldCounts e.reply) l.history.entries) where
  abbrev pub infos : List FileInfo
  infos = infos_made l.files

  abbrev pub course : (ℕ → List ℕ) → Course
  course shown = record { what = what; files = files; bytes = bytes; infos = infos; shown = shown }

  module _ (new : List (ℕ × DiskSeen)) (w : WriteTables l.disks new) where
    abbrev e : Rattle.run_outcome.specs.Ended.End
    e = ended st ft g what files bytes a made plan o.sink_old k1 ready s l started left new w

    have : HaveDisks l.files new
    have = have-written l.files l.disks new w left.have

    abbrev opening : List ℕ
    opening = opening_part what files (bare_disks new) bytes

    first : Wrote o.sink_old k1 (opening_part what files (bare_disks new) bytes)
    first = subst (λ z. Wrote o.sink_old k1 (trace_opening what.options what.plan z (infos_of files) bytes))
        (sizes-same st ft g what files bytes a made plan o.sink_old k1 ready s l started left new w) ready.wrote

    abbrev middle : List ℕ
    middle = middle_text what.options (plan_opened what files) l.history.entries

    -- a text behind the middle, and that behind the opening part
    middle-same : (rest : List ℕ) → middle_text what.options plan l.history.entries ++ rest ≡ middle ++ rest
    middle-same rest = ap (λ (p : PlanSeen). middle_text what.options p l.history.entries ++ rest) ready.numbered

    behind : (rest : List ℕ) → Wrote k1 o.sink_new (middle_text what.options plan l.history.entries ++ rest) → Wrote o.sink_old o.sink_new (opening ++ (middle ++ rest))
    behind rest wrote = wrote_then o.sink_old k1 o.sink_new opening (middle ++ rest) first (subst (Wrote k1 o.sink_new) (middle-same rest) wrote)

    behind-front : (rest : List ℕ) → WroteFront k1 o.sink_new (middle_text what.options plan l.history.entries ++ rest) → WroteAndFront o.sink_old o.sink_new opening (middle ++ rest)
    behind-front rest wrote = front_behind o.sink_old k1 o.sink_new opening (middle ++ rest) first (subst (WroteFront k1 o.sink_new) (middle-same rest) wrote)

    behind-part : (rest : List ℕ) → WrotePart k1 o.sink_new (middle_text what.options plan l.history.entries ++ rest) → WroteAndPart o.sink_old o.sink_new opening (middle ++ rest)
    behind-part rest wrote = part_behind o.sink_old k1 o.sink_new opening (middle ++ rest) first (subst (WrotePart k1 o.sink_new) (middle-same rest) wrote)

    behind-on : (rest : List ℕ) → WroteOn k1 o.sink_new [] (middle_text what.options plan l.history.entries ++ rest) → WroteOn o.sink_old o.sink_new opening (middle ++ rest)
    behind-on rest wrote = on_behind o.sink_old k1 o.sink_new opening (middle ++ rest) later first (subst (WroteOn k1 o.sink_new []) (middle-same rest) wrote)

    through : Told plan l.history.entries → (shown : ℕ → List ℕ) → RunsThrough g (course shown) e
    through told shown = record {
      begun = begun st ft g what files bytes a made plan o.sink_old k1 ready s l started left new w counts;
      told = subst (λ (p : PlanSeen). Told p l.history.entries) ready.numbered told;
    }

    is-shown : Told plan l.history.entries → l.fault ≡ None → SayTables new infos → (shown : ℕ → List ℕ) → AreFilesBytes infos new shown → WasShown g (course shown) e
    is-shown told none tables shown are = record {
      runs = through told shown;
      closed = closes st ft g what files bytes a made plan o.sink_old k1 ready s l started left new w none tables;
      shown = closed-bytes st ft g what files bytes a made plan o.sink_old k1 ready s l started left new w none have shown are;
    }

    -- the disks have the files, and the tables were written below one of them, and nothing else; or one failed, as a page was written or its table
    abbrev IsLeft : Type 0
    IsLeft = ((n : ℕ) × WroteTablesAlone g what files infos n e) ⊎ ((f : DiskFault) × HasLateCause what.plan l.history (bare_disks new) l.swap f
        × (WroteNoTable g what e ⊎ WroteTablesBelow g what files infos f.disk e))

    -- nothing was written behind the opening part
    lacking : ToldFront plan l.history.entries → IsLeft → Wrote k1 o.sink_new [] → Lacks g o e
    lacking told kept wrote = inr (inr (inr (record {
      course = course (λ k. []);
      begun = begun st ft g what files bytes a made plan o.sink_old k1 ready s l started left new w counts;
      told = subst (λ (p : PlanSeen). ToldFront p l.history.entries) ready.numbered told;
      left = kept;
      wrote = inl (still_wrote o.sink_old k1 o.sink_new opening first (wrote ∙ sym (appended_nothing k1.written)));
    })))

  -- the cause of a fault in closing
  fault-cause : (f : DiskFault) (new : List (ℕ × DiskSeen)) (w : WriteTables l.disks new) (i : ℕ) (disk : DiskSeen) → slice_get new i ≡ Some (f.disk, disk) → f.disk < 8 → f.after ≡ disk.faults
      → ((count : ℕ) × (slice_index_or l.history.faults f.disk None ≡ Some count) × (count ≤ f.before)) → HasLateCause what.plan l.history (bare_disks new) l.swap f
  fault-cause f new w i disk at small last since =
      late-cause st ft g what files bytes a made plan o.sink_old k1 ready s l started left new w f i disk small (have new w) at last since

  -- a fault in closing
  close-failed : (f : DiskFault) (new : List (ℕ × DiskSeen)) (w : WriteTables l.disks new) (i : ℕ) (disk : DiskSeen) → slice_get new i ≡ Some (f.disk, disk) → f.disk < 8 → f.after ≡ disk.faults
      → ((count : ℕ) × (slice_index_or l.history.faults f.disk None ≡ Some count) × (count ≤ f.before)) → Told plan l.history.entries → ToldFront plan l.history.entries
      → IsLeft new w → WroteNoTable g what (e new w) ⊎ WroteTablesBelow g what files infos f.disk (e new w)
      → (how : Ending) → CloseFails what.options plan l.history.entries f k1 o.sink_new how → CaseOf g o (wrote_before o) (e new w) how
  close-failed f new w i disk at small last since told front kept tables ending.Memory c = lacking new w front kept c
  close-failed f new w i disk at small last since told front kept tables (ending.Closing h) c = record {
    course = course (λ k. []);
    runs = through new w told (λ k. []);
    cause = fault-cause h new w i disk
        (at ∙ ap (λ (x : DiskFault). Some (x.disk, disk)) (sym c.0)) (subst (λ (x : DiskFault). x.disk < 8) (sym c.0) small) (subst (λ (x : DiskFault). x.after ≡ disk.faults) (sym c.0) last)
        (subst (λ (x : DiskFault). (count : ℕ) × (slice_index_or l.history.faults x.disk None ≡ Some count) × (count ≤ x.before)) (sym c.0) since);
    tables = subst (λ (x : DiskFault). WroteNoTable g what (e new w) ⊎ WroteTablesBelow g what files infos x.disk (e new w)) (sym c.0) tables;
    wrote = subst (λ (x : DiskFault). WroteOn o.sink_old o.sink_new (opening_of (course (λ k. [])) (e new w))
        (middle_of (course (λ k. [])) (e new w) ++ disk_fault_text x.disk x.before x.after)) (sym c.0)
        (behind-on new w _ c.1);
  }
  close-failed f new w i disk at small last since told front kept tables ending.Whole c = absurd c
  close-failed f new w i disk at small last since told front kept tables ending.Usage c = absurd c
  close-failed f new w i disk at small last since told front kept tables (ending.NoScript x) c = absurd c
  close-failed f new w i disk at small last since told front kept tables (ending.Refused x) c = absurd c
  close-failed f new w i disk at small last since told front kept tables ending.NotRead c = absurd c
  close-failed f new w i disk at small last since told front kept tables ending.OpeningSink c = absurd c
  close-failed f new w i disk at small last since told front kept tables ending.Sink c = absurd c
  close-failed f new w i disk at small last since told front kept tables (ending.Opening x) c = absurd c
  close-failed f new w i disk at small last since told front kept tables (ending.Showing x) c = absurd c
  close-failed f new w i disk at small last since told front kept tables (ending.Checked t) c = absurd c
  close-failed f new w i disk at small last since told front kept tables (ending.Informed t) c = absurd c

  -- the disk of a fault since the processes ran
  fault-low : (f : DiskFault) (new : List (ℕ × DiskSeen)) (c : IsCountedSince l.disks new (disk_fault_counts f)) → f.disk < 8
  fault-low f new c = subst (λ (n : ℕ). n < 8) (sym (c.fault.number ∙ c.same)) (low c.i c.was c.there)

  fault-at : (f : DiskFault) (new : List (ℕ × DiskSeen)) (c : IsCountedSince l.disks new (disk_fault_counts f)) → slice_get new c.i ≡ Some (f.disk, c.is.1)
  fault-at f new c = c.now ∙ ap (λ (n : ℕ). Some (n, c.is.1)) (sym c.fault.number)

  -- the count that the history tells of a disk
  since-closed : (f : DiskFault) (new : List (ℕ × DiskSeen)) → IsCountedSince l.disks new (disk_fault_counts f)
      → (count : ℕ) × (slice_index_or l.history.faults f.disk None ≡ Some count) × (count ≤ f.before)
  since-closed f new c =
      let count = left.counts c.i c.was c.there in let le = count.2 in let high = c.fault.since in
      (count.0, ap (λ (n : ℕ). slice_index_or l.history.faults n None) (c.fault.number ∙ c.same) ∙ count.1, omega (arith, le, high))

  -- the table of a disk wasn't written
  table-failed : (f : DiskFault) (new : List (ℕ × DiskSeen)) (w : WriteTables l.disks new) → l.fault ≡ None → (c : IsCountedSince l.disks new (disk_fault_counts f)) → WroteTablesTo infos c.i l.disks new
      → WroteTablesBelow g what files infos f.disk (e new w)
  table-failed f new w none c to =
      tables-below st ft g what files bytes a made plan o.sink_old k1 ready s l started left new w none c.i f.disk
      (ap (λ (ns : List ℕ). slice_get ns c.i) (sym (numbers-new st ft g what files bytes a made plan o.sink_old k1 ready s l started left new w))
      ∙ at-map (λ (d : ℕ × DiskSeen). d.0) new c.i (f.disk, c.is.1) (fault-at f new c)) to

  table-left : (f : DiskFault) (new : List (ℕ × DiskSeen)) (w : WriteTables l.disks new) → l.fault ≡ None → (c : IsCountedSince l.disks new (disk_fault_counts f)) → WroteTablesTo infos c.i l.disks new → IsLeft new w
  table-left f new w none c to =
      inr (f, fault-cause f new w c.i c.is.1 (fault-at f new c) (fault-low f new c) c.fault.last (since-closed f new c), inr (table-failed f new w none c to))

  -- the tables that were written where memory lacked
  is-left : (new : List (ℕ × DiskSeen)) (w : WriteTables l.disks new) → l.fault ≡ None → TablesLeft infos l.disks new → IsLeft new w
  is-left new w none (inl to) = inl (some-tables st ft g what files bytes a made plan o.sink_old k1 ready s l started left new w none to.0 to.1)
  is-left new w none (inr to) = table-left to.0 new w none to.1 to.2

  shows : Told plan l.history.entries → ToldFront plan l.history.entries → l.fault ≡ None
      → (mid new : List (ℕ × DiskSeen)) (w : WriteTables l.disks mid) (r : AreOnlyRead mid new) → SayTables mid infos
      → (how : Ending) → ShowEnds what.options plan l.history.entries infos k1 o.sink_new mid new how → CaseOf g o (wrote_before o) (e new (writes-then l.disks mid new w r)) how
  shows told front none mid new w r tables ending.Whole h = record {
    course = course h.0;
    shown = is-shown new (writes-then l.disks mid new w r) told none (tables-read mid new infos r tables) h.0 (bytes-read mid new infos h.0 r h.1);
    wrote = behind new (writes-then l.disks mid new w r) _ h.2;
  }
  shows told front none mid new w r tables ending.Sink h = record {
    course = course h.1.0;
    shown = is-shown new (writes-then l.disks mid new w r) told none (tables-read mid new infos r tables) h.1.0 (bytes-read mid new infos h.1.0 r h.1.1);
    cause = risen_since o.sink_old.faults k1.faults o.sink_new.faults later h.0;
    wrote = behind-part new (writes-then l.disks mid new w r) _ h.1.2;
  }
  shows told front none mid new w r tables (ending.Showing f) h =
      let c = since-then l.disks mid new (disk_fault_counts f) w h.0 in
      record {
        course = course h.1.0;
        file = h.1.1;
        page = h.1.2;
        shown = is-shown new (writes-then l.disks mid new w r) told none (tables-read mid new infos r tables) h.1.0 (bytes-read mid new infos h.1.0 r h.1.3);
        cause = late-cause st ft g what files bytes a made plan o.sink_old k1 ready s l started left new (writes-then l.disks mid new w r) f c.i c.is.1
            (fault-low f new c) (have new (writes-then l.disks mid new w r)) (fault-at f new c) c.fault.last (since-closed f new c);
        place = h.1.4;
        none = h.1.5;
        wrote = behind new (writes-then l.disks mid new w r) _ h.1.6;
      }
  shows told front none mid new w r tables ending.Memory h = inr (inr (inr (record {
    course = course h.0;
    begun = begun st ft g what files bytes a made plan o.sink_old k1 ready s l started left new (writes-then l.disks mid new w r) counts;
    told = subst (λ (p : PlanSeen). ToldFront p l.history.entries) ready.numbered front;
    left = inl (8, all-tables st ft g what files bytes a made plan o.sink_old k1 ready s l started left new (writes-then l.disks mid new w r) none (tables-read mid new infos r tables));
    wrote = inr (
      is-shown new (writes-then l.disks mid new w r) told none (tables-read mid new infos r tables) h.0
          (bytes-read mid new infos h.0 r h.1),
      behind-front new (writes-then l.disks mid new w r) _ h.2,
    );
  })))
  shows told front none mid new w r tables (ending.Closing f) h = absurd h
  shows told front none mid new w r tables ending.Usage h = absurd h
  shows told front none mid new w r tables (ending.NoScript x) h = absurd h
  shows told front none mid new w r tables (ending.Refused x) h = absurd h
  shows told front none mid new w r tables ending.NotRead h = absurd h
  shows told front none mid new w r tables ending.OpeningSink h = absurd h
  shows told front none mid new w r tables (ending.Opening x) h = absurd h
  shows told front none mid new w r tables (ending.Checked t) h = absurd h
  shows told front none mid new w r tables (ending.Informed t) h = absurd h

  -- memory lacked
  lacked : (new : List (ℕ × DiskSeen)) → ToldFront plan l.history.entries → (how : Ending) → (c : LacksTable infos k1 o.sink_new l.disks new how)
      → IsLeft new c.writes → CaseOf g o (wrote_before o) (e new c.writes) how
  lacked new front how c kept = subst (λ (x : Ending). CaseOf g o (wrote_before o) (e new c.writes) x) (sym c.memory) (lacking new c.writes front kept c.wrote)

  -- the fault in which the kernel was closed, where its disks are as it left them
  module _ (f : DiskFault) (is : l.fault ≡ Some f) (new : List (ℕ × DiskSeen)) (same : new ≡ l.disks) where
    closing-fault : IsClosingFault l f
    closing-fault = subst (λ (q : Option DiskFault). IfSome q (IsClosingFault l)) is left.fault

    closing-at : slice_get new closing-fault.there.0 ≡ Some (f.disk, closing-fault.disk.1)
    closing-at = ap (λ (d : List (ℕ × DiskSeen)). slice_get d closing-fault.there.0) same ∙ closing-fault.there.1 ∙ ap (λ (n : ℕ). Some (n, closing-fault.disk.1)) (sym closing-fault.fault.number)

    closing-low : f.disk < 8
    closing-low = subst (λ (n : ℕ). n < 8) (sym closing-fault.fault.number) (low closing-fault.there.0 closing-fault.disk closing-fault.there.1)

    closing-since : (count : ℕ) × (slice_index_or l.history.faults f.disk None ≡ Some count) × (count ≤ f.before)
    closing-since = (closing-fault.count, closing-fault.told, closing-fault.fault.since)

    closing-table : (w : WriteTables l.disks new) → WroteNoTable g what (e new w)
    closing-table w = no-table st ft g what files bytes a made plan o.sink_old k1 ready s l started left new w same

    closing-left : (w : WriteTables l.disks new) → IsLeft new w
    closing-left w = inr (f, fault-cause f new w closing-fault.there.0 closing-fault.disk.1 closing-at closing-low closing-fault.fault.last closing-since, inl (closing-table w))

  -- the end of a run whose processes ran, whichever it is
  pub close-case : (whole : Bool) → (IsTrue whole → Told plan l.history.entries) → ToldFront plan l.history.entries → (fault : Option DiskFault)
      → l.fault ≡ fault → (new : List (ℕ × DiskSeen)) (how : Ending)
      → CloseEnds whole fault what.options plan l.history.entries infos k1 o.sink_new l.disks new how
      → CaseOf g o (wrote_before o) (record { status = st; fault = ft; history = l.history; disks = bare_disks new; swap = l.swap }) how
  close-case false told front (Some f) is new how c = lacked new front how c.1 (closing-left f is new c.0 c.1.writes)
  close-case false told front None is new how c = lacked new front how c (is-left new c.writes is c.tables)
  close-case true told front (Some f) is new how c =
      let x = closing-fault f is new c.0 in
      let w = subst (WriteTables l.disks) (sym c.0) (writes-refl l.disks) in
      close-failed f new w x.there.0 x.disk.1 (closing-at f is new c.0) (closing-low f is new c.0) x.fault.last (closing-since f is new c.0) (told refl) front (closing-left f is new c.0 w) (inl (closing-table f is new c.0 w)) how c.1
  close-case true told front None is new how (inl c) = shows (told refl) front is c.mid new c.writes c.reads c.tables how c.ends
  close-case true told front None is new how (inr (inl c)) =
      close-failed c.fault new c.writes c.counted.i c.counted.is.1 (fault-at c.fault new c.counted) (fault-low c.fault new c.counted) c.counted.fault.last
      (since-closed c.fault new c.counted) (told refl) front (table-left c.fault new c.writes is c.counted c.tables) (inr (table-failed c.fault new c.writes is c.counted c.tables)) how c.ends
  close-case true told front None is new how (inr (inr c)) = lacked new front how c (is-left new c.writes is c.tables)
