use Rattle.std.proofs.Common.{rules, ◌∙◌, ℕ, List, ap, map, subst, sym}
use Rattle.std.specs.Prelude.{Err}
use Rattle.volume_files.specs.block_device.DiskSeen.{DiskSeen}
use Rattle.volume_files.specs.block_device.declared.numbered.NumberedDisk.{NumberedDisk}
use Rattle.volume_files.specs.Attached.{attached_seen, bare_disks}
use Rattle.volume_files.specs.stored_files.Written.{numbered_seen}
use Rattle.volume_files.specs.Handed.{AreUncounted}
use Rattle.volume_files.specs.stored_files.Uncut.{counts_of}
use Rattle.volume_files.proofs.Unfailing.{zero-still}
use Rattle.run_opening.proofs.Unopened.{unless-opening}
use Rattle.run_opening.specs.Ready.{TraceStops}
use Rattle.volume_files.specs.Opened.{opened_bytes_at, infos_of}
use Rattle.volume_files.specs.stored_files.Texts.{Wrote}
use Rattle.volume_files.specs.stored_files.Written.{infos_made}
use Rattle.volume_files.specs.stored_files.Written.{AreFilesBytes, TraceShows, disk_sizes}
use Rattle.volume_files.proofs.stored_files.WrittenTexts.{wrote_nothing}
use Rattle.run_opening.proofs.Traced.{no-trace, own-bytes, read-bytes, traced-part, traced-whole, written-back}
use Rattle.run_opening.proofs.ready.traced.Goals as goal

pub returns-then-not-options-clause-shows : goal.returns-then-not-options-clause-shows
returns-then-not-options-clause-shows g c = λ holds files p.
    let a = attached_seen g.D.Disk.seen c.args.placed.now.attached in
    let k = g.K.Sink.seen c.args.out.now in (
      opened_bytes_at files,
      own-bytes c.args.plan.now holds files a c.args.placed.now.files p,
      subst (Wrote k k) (sym (no-trace c.args.options.now c.args.plan.now (disk_sizes a.disks) (infos_of files) (opened_bytes_at files) c.if-not-options.true)) (wrote_nothing k),
    )

pub returns-in-Ok-clause-shows : goal.returns-in-Ok-clause-shows
returns-in-Ok-clause-shows g c = λ holds files p.
    let a = attached_seen g.D.Disk.seen c.args.placed.now.attached in
    let s = rw c.as_mut_slice-disks.ensures.value at c.in-Ok.ensures.shows in (
      s.0,
      read-bytes c.args.plan.now holds files a c.args.placed.now.files p s.0 s.1,
      traced-whole c.args.plan.now holds files a c.args.placed.now.files p c.args.options.now c.if-not-options.false s.0 (g.K.Sink.seen c.args.out.now)
          (g.K.Sink.seen c.trace_opening.new.out) s.2,
    )

pub returns-in-Err-clause-shows : goal.returns-in-Err-clause-shows
returns-in-Err-clause-shows g c = λ holds files p.
    let a = attached_seen g.D.Disk.seen c.args.placed.now.attached in
    let s = c.in-Err.ensures.shows in
    let was = ap (map (numbered_seen g.D.Disk.seen)) c.as_mut_slice-disks.ensures.value in
    let infos = infos_made c.args.placed.now.files in
    let k0 = g.K.Sink.seen c.args.out.now in
    let k1 = g.K.Sink.seen c.trace_opening.new.out in
    let new = map (numbered_seen g.D.Disk.seen) c.trace_opening.new.disks in (
      s.0,
      read-bytes c.args.plan.now holds files a c.args.placed.now.files p s.0 (subst (λ (l : List (ℕ × DiskSeen)). AreFilesBytes infos l s.0) was s.1),
      subst (λ (l : List (NumberedDisk g.row.D.Denot)). TraceStops c.args.options.now c.args.plan.now files s.0 k0 k1 a.disks (map (numbered_seen g.D.Disk.seen) l) c.opening_stop.result)
          (written-back c.args.placed.now.attached.disks.len c.trace_opening.new.disks c.args.placed.now.attached.disks.items (search rules) (search rules))
          (subst (TraceStops c.args.options.now c.args.plan.now files s.0 k0 k1 a.disks new) (sym c.opening_stop.ensures)
          (traced-part c.args.plan.now holds files a c.args.placed.now.files p c.args.options.now c.if-not-options.false s.0 k0 k1 new c.in-Err.stop
          (subst (λ (l : List (ℕ × DiskSeen)). TraceShows c.args.plan.now infos s.0 k0 k1 l new (Err c.in-Err.stop)) was s.2))),
    )

pub returns-in-Ok-clause-failures : goal.returns-in-Ok-clause-failures
returns-in-Ok-clause-failures g c = λ none.
    let f = numbered_seen g.D.Disk.seen in
    let old = c.args.placed.now.attached.disks.items in
    let new = c.trace_opening.new.disks in
    let swap = (attached_seen g.D.Disk.seen c.args.placed.now.attached).swap in
    let same = c.in-Ok.ensures.failures ∙ ap (λ (ds : List (NumberedDisk g.row.D.Denot)). counts_of (map f ds)) c.as_mut_slice-disks.ensures.value in
    subst (λ (l : List (NumberedDisk g.row.D.Denot)). AreUncounted (bare_disks (map f l)) swap)
    (written-back c.args.placed.now.attached.disks.len new old (search rules) (search rules))
    (record { each = zero-still (map f old) (map f new) same none.each; last = none.last })

pub returns-in-Err-clause-failures : goal.returns-in-Err-clause-failures
returns-in-Err-clause-failures g c =
    let f = numbered_seen g.D.Disk.seen in
    let old = c.args.placed.now.attached.disks.items in
    let new = c.trace_opening.new.disks in
    let swap = (attached_seen g.D.Disk.seen c.args.placed.now.attached).swap in
    let was = ap (λ (ds : List (NumberedDisk g.row.D.Denot)). counts_of (map f ds)) c.as_mut_slice-disks.ensures.value in
    unless-opening c.in-Err.stop c.opening_stop.result c.opening_stop.ensures
    (λ same none. subst (λ (l : List (NumberedDisk g.row.D.Denot)). AreUncounted (bare_disks (map f l)) swap)
    (written-back c.args.placed.now.attached.disks.len new old (search rules) (search rules))
    (record { each = zero-still (map f old) (map f new) (same ∙ was) none.each; last = none.last })) c.in-Err.ensures.failures

pub returns-in-Err-clause-steady : goal.returns-in-Err-clause-steady
returns-in-Err-clause-steady g c = unless-opening c.in-Err.stop c.opening_stop.result c.opening_stop.ensures (λ same. same) c.in-Err.ensures.steady
