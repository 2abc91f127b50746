-- A file that is shown page by page.
use Rattle.std.proofs.Common.{◌≡◌, ℕ, ◌+◌, ◌*◌, ◌<◌, ◌≤◌, List, ◌++◌, length, refl, sym, ap, ◌∙◌, subst, arith}
use Rattle.std.specs.Prelude.{Option, Some, IfSome, Ok, Err}
use Rattle.vm_report.specs.vm_types.Pages.{pages_in}
use Rattle.vm_report.specs.flat_model.Words.{with_bytes}
use Rattle.block_device.specs.DiskSeen.{DiskSeen, HasBlocks}
use Rattle.block_device.specs.StreamSeen.{SinkSeen}
use Rattle.volume_format.specs.vnode_files.declared.vnode.FileInfo.{FileInfo}
use Rattle.volume_format.specs.vnode_files.Files.{FilesSeen}
use Rattle.vm_report.specs.Report.{file_lines}
use Rattle.stored_files.specs.declared.showing.ShowStop.{ShowStop}
use Rattle.stored_files.specs.declared.showing.ShowStop.TheVariants.{Memory, Sink, Fault}
use Rattle.stored_files.specs.Closed.{stored_bytes}
use Rattle.stored_files.specs.Texts.{Wrote, WroteFront, WrotePart}
use Rattle.stored_files.specs.Written.{FaultCounts, HasLastFault}
use Rattle.stored_files.specs.Showing.{LiesOn, LooksAt, shown_info, page_piece, AreFileBytes, ArePageBytes, IsUnread, IsPageShown, LinesShown, LinesSoFar, lines_before}
use Rattle.stored_files.proofs.FilePieces.{some_bytes, with_piece}
use Rattle.stored_files.proofs.ShownLines.{lines_from, lines_whole, lines_kept, lines_more}
use Rattle.stored_files.proofs.WrittenTexts.{wrote_nothing, wrote_then, part_then, front_more, part_more, wrote_front, risen_since}

pub looks_same : (d : ℕ × DiskSeen) → LooksAt d d
looks_same d = record { number = refl; reads = record { content = refl; size = refl; kind = refl; faults = omega arith } }

pub looks_then : (d0 d1 d2 : ℕ × DiskSeen) → LooksAt d0 d1 → LooksAt d1 d2 → LooksAt d0 d2
looks_then d0 d1 d2 first second = record {
  number = second.number ∙ first.number;
  reads = record {
    content = second.reads.content ∙ first.reads.content;
    size = second.reads.size ∙ first.reads.size;
    kind = second.reads.kind ∙ first.reads.kind;
    faults = omega (arith, first.reads.faults, second.reads.faults);
  };
}

pub lies_still : (files : FilesSeen) (file : ℕ) (d0 d1 : ℕ × DiskSeen) → LiesOn files file d0 → LooksAt d0 d1 → LiesOn files file d1
lies_still files file d0 d1 lies looks = record {
  lie = lies.lie;
  there = lies.there;
  number = looks.number ∙ lies.number;
  size = lies.size ∙ ap (λ (n : ℕ). Some n) (sym looks.reads.size);
}

pub lines_begin : (files : FilesSeen) (file : ℕ) (d : ℕ × DiskSeen) (k : SinkSeen) → LiesOn files file d → HasBlocks d.1.content d.1.size → LinesSoFar (shown_info files file) 0 k k d d
lines_begin files file d k lies blocks =
    let some = some_bytes files file d lies blocks in
    record { bytes = some.0; are = some.1; wrote = wrote_nothing k; looks = looks_same d; later = omega arith }

module _ (info : FileInfo) (page : ℕ) (k0 k1 k2 : SinkSeen) (d0 d1 d2 : ℕ × DiskSeen) (low : page < pages_in info.length) (so : LinesSoFar info page k0 k1 d0 d1) where
  -- the bytes with those of the page
  next : (piece : List ℕ) → ArePageBytes d1.1 info page piece → AreFileBytes d0.1 info (with_bytes so.bytes (4096 * page) piece)
  next piece one = with_piece d0.1 info page so.bytes piece low so.are (record {
    count = one.count;
    told = subst (λ (o : Option (List (List ℕ))). IfSome o (λ bs. page_piece (stored_bytes bs info) page ≡ piece)) so.looks.reads.content one.told;
  })

  below : page < pages_in (length so.bytes)
  below = omega (arith, low, so.are.count)

  kept : (piece : List ℕ) → ArePageBytes d1.1 info page piece → lines_before (with_bytes so.bytes (4096 * page) piece) page ≡ lines_before so.bytes page
  kept piece one = lines_kept so.bytes piece page below (omega (arith, one.count, so.are.count))

  more : (piece : List ℕ) → ArePageBytes d1.1 info page piece → lines_before (with_bytes so.bytes (4096 * page) piece) (page + 1) ≡ lines_before so.bytes page ++ file_lines (4096 * page) piece
  more piece one = lines_more so.bytes piece page below (omega (arith, one.count, so.are.count))

  pub lines_step : (piece : List ℕ) → ArePageBytes d1.1 info page piece → Wrote k1 k2 (file_lines (4096 * page) piece) → LooksAt d1 d2 → k1.faults ≤ k2.faults → LinesSoFar info (page + 1) k0 k2 d0 d2
  lines_step piece one wrote looks later = record {
    bytes = with_bytes so.bytes (4096 * page) piece;
    are = next piece one;
    wrote = subst (λ (t : List ℕ). Wrote k0 k2 t) (sym (more piece one)) (wrote_then k0 k1 k2 (lines_before so.bytes page) (file_lines (4096 * page) piece) so.wrote wrote);
    looks = looks_then d0 d1 d2 so.looks looks;
    later = omega (arith, so.later, later);
  }

  front : WroteFront k0 k1 (file_lines 0 so.bytes)
  front =
      let all = lines_from so.bytes page in
      subst (λ (t : List ℕ). WroteFront k0 k1 t) (sym all.1) (front_more k0 k1 (lines_before so.bytes page) all.0 (wrote_front k0 k1 (lines_before so.bytes page) so.wrote))

  part : (piece : List ℕ) → ArePageBytes d1.1 info page piece → WrotePart k1 k2 (file_lines (4096 * page) piece) → WrotePart k0 k2 (file_lines 0 (with_bytes so.bytes (4096 * page) piece))
  part piece one wrote =
      let now = with_bytes so.bytes (4096 * page) piece in
      let all = lines_from now (page + 1) in
      subst (λ (t : List ℕ). WrotePart k0 k2 t) (sym all.1)
      (part_more k0 k2 (lines_before now (page + 1)) all.0
      (subst (λ (t : List ℕ). WrotePart k0 k2 t) (sym (more piece one)) (part_then k0 k1 k2 (lines_before so.bytes page) (file_lines (4096 * page) piece) so.wrote wrote)))

  last_fault : {F : Type 0} (counts : F → FaultCounts) (f : F) → IsUnread counts d1 d2 f → LooksAt d1 d2 → HasLastFault d0.1.faults d2 (counts f)
  last_fault counts f unread looks =
      let number : (counts f).number ≡ d1.0 = ap (λ (x : FaultCounts). x.number) unread.0 in
      let before : (counts f).before ≡ d1.1.faults = ap (λ (x : FaultCounts). x.before) unread.0 in
      let after : (counts f).after ≡ d2.1.faults = ap (λ (x : FaultCounts). x.after) unread.0 in
      record {
        number = number ∙ sym looks.number;
        risen = omega (arith, before, after, unread.1);
        since = omega (arith, before, so.looks.reads.faults);
        last = after;
      }

  pub lines_stop : {F : Type 0} (counts : F → FaultCounts) (stop : ShowStop F) → IsPageShown info page k1 k2 d1 d2 counts (Err stop) → LooksAt d1 d2 → LinesShown info k0 k2 d0 d2 counts (Err stop)
  lines_stop counts Memory shown looks = record { bytes = so.bytes; are = so.are; shown = subst (λ (k : SinkSeen). WroteFront k0 k (file_lines 0 so.bytes)) (sym shown) front }
  lines_stop counts Sink shown looks = record {
    bytes = with_bytes so.bytes (4096 * page) shown.0;
    are = next shown.0 shown.1;
    shown = (risen_since k0.faults k1.faults k2.faults so.later shown.2, part shown.0 shown.1 shown.3);
  }
  lines_stop counts (Fault f) shown looks = record {
    bytes = so.bytes;
    are = so.are;
    shown = (last_fault counts f shown.1 looks, (page, below, subst (λ (k : SinkSeen). Wrote k0 k (lines_before so.bytes page)) (sym shown.0) so.wrote));
  }

pub lines_done : (info : FileInfo) (page : ℕ) (k0 k1 : SinkSeen) (d0 d1 : ℕ × DiskSeen) → LinesSoFar info page k0 k1 d0 d1 → pages_in info.length ≤ page
    → {F : Type 0} (counts : F → FaultCounts) → LinesShown info k0 k1 d0 d1 counts (Ok tt)
lines_done info page k0 k1 d0 d1 so past counts = record {
  bytes = so.bytes;
  are = so.are;
  shown = subst (λ (t : List ℕ). Wrote k0 k1 t) (lines_whole so.bytes page (omega (arith, past, so.are.count))) so.wrote;
}
