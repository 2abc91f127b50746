use Rattle.std.proofs.Common.{◌∙◌, [], ◌∷◌, ap, arith, sym}
use Rattle.std.proofs.lemmas.List.{length-append}
use Rattle.std.proofs.lemmas.List.Elements.{All-append, All-cons, All-nil}
use Rattle.volume_files.specs.volume_disks.Singles.{single_seen}
use Rattle.run_outcome.specs.MemberRooms.{IsSeenByParts, numbered}
use Rattle.run_outcome.proofs.MemberLists.{parts-more, parts_of}
use Rattle.run_outcome.proofs.members.put_volumes.Goals as goal

pub loop-volume-preserved : goal.loop-volume-preserved
loop-volume-preserved g c =
    let inv = c.loop-volume.invariant in
    let front = c.loop-volume.yielded in
    let v = c.in-Some.volume in
    let long = length-append front (v ∷ []) in
    record {
      items = c.put_parts.ensures.items (parts_of front) inv.items ∙ ap (numbered c.args.numbers.now) (sym (parts-more front v));
      seen = All-append (IsSeenByParts (single_seen g.D.Disk.seen)) front (v ∷ []) inv.seen (All-cons (IsSeenByParts (single_seen g.D.Disk.seen)) v [] c.put_parts.ensures.seen (All-nil (IsSeenByParts (single_seen g.D.Disk.seen))));
      most = omega (arith, inv.most, c.put_parts.ensures.most, long);
      room = c.put_parts.ensures.room ∙ inv.room;
    }
