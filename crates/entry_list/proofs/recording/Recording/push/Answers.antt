use Rattle.std.proofs.Common.{◌≡◌, ◌∙◌, ◌<◌, ◌+◌, List, ap, length, subst, sym, arith}
use Rattle.std.proofs.lemmas.List.{length_push}
use Rattle.std.proofs.lemmas.List.Elements.{All-push}
use Rattle.entry_list.specs.Recorded.{RecordingSeen}
use Rattle.entry_list.specs.Rows.{AreRowsWithin, IsRowWithin}
use Rattle.entry_list.specs.declared.row.Row.{Row}
use Rattle.entry_list.proofs.RowLaws.{rows_count}
use Rattle.entry_list.proofs.recording.Recording.push.Goals as goal

pub invariant_of-self : goal.invariant_of-self
invariant_of-self c =
    let s = c.self.inside in
    let inv = c.self.invariant in
    let whole = length s.whole.items in
    let reads = length s.reads.items in
    let more : length c.push_reserved.new.self.items ≡ length s.rows.items + 1 = ap (λ (rows : List Row). length rows) c.push_reserved.ensures.items ∙ length_push s.rows.items c.in-Some.row in
    let room : length s.rows.items < s.room =
    let count = rows_count s.whole.items s.reads.items s.rows.items in
    let seen = ap (λ (r : RecordingSeen). length r.entries) c.self.view_is in
    let same = ap (λ (r : RecordingSeen). r.room) c.self.view_is in
    let few = c.requires in
    omega (arith, count, seen, same, few) in
    record {
      within =
          subst (AreRowsWithin whole reads) (sym c.push_reserved.ensures.items)
          (All-push (IsRowWithin whole reads) s.rows.items c.in-Some.row inv.within (c.in-Some.ensures.within whole reads));
      fewer = let fewer = inv.fewer in omega (arith, fewer, more);
      inside = omega (arith, room, more);
      row_room = let old = inv.row_room in let kept = c.push_reserved.ensures.capacity in omega (arith, old, kept);
      whole_room = inv.whole_room;
      read_room = inv.read_room;
      few = inv.few;
    }
