use Rattle.std.proofs.Common.{◌∙◌, List, ap, length, length-set, subst, sym, take, take_all}
use Rattle.volume_files.specs.vm_script.declared.plan.PlanLine.{PlanLine}
use Rattle.volume_files.specs.vm_script.Counts.{entry_count, parts}
use Rattle.std.specs.Prelude.{◌≤◌, ◌+◌, ◌-◌, slice_index, sum_by}
use Rattle.run_kernel.proofs.EntryRooms.{HaveRooms, item-owned, room-fits, rooms-more, rooms-all, total-more}
use Rattle.run_kernel.proofs.entry_rooms.entry_rooms.Goals as goal

pub add_line-requires-clause-first : goal.add_line-requires-clause-first
add_line-requires-clause-first c =
    (item-owned c.args.plan.now c.lines-lines.result.now c.loop-line.rooms.items c.loop-line.line-index c.line-item.result c.requires.nests
    c.lines-lines.ensures c.loop-line.invariant.count c.loop-line-test.true c.line-item.is).0

pub add_line-requires-clause-last : goal.add_line-requires-clause-last
add_line-requires-clause-last c =
    (item-owned c.args.plan.now c.lines-lines.result.now c.loop-line.rooms.items c.loop-line.line-index c.line-item.result c.requires.nests
    c.lines-lines.ensures c.loop-line.invariant.count c.loop-line-test.true c.line-item.is).1

pub add_line-requires-clause-fits : goal.add_line-requires-clause-fits
add_line-requires-clause-fits c =
    room-fits c.lines-lines.result.now c.loop-line.rooms.items c.loop-line.line-index c.line-item.result c.loop-line-test.true (sym c.line-item.is)
    (item-owned c.args.plan.now c.lines-lines.result.now c.loop-line.rooms.items c.loop-line.line-index c.line-item.result c.requires.nests
    c.lines-lines.ensures c.loop-line.invariant.count c.loop-line-test.true c.line-item.is)
    c.loop-line.invariant.rooms (subst (λ (l : List PlanLine). entry_count l ≤ 1048576) (sym c.lines-lines.ensures) c.requires.few)

pub loop-line-preserved : goal.loop-line-preserved
loop-line-preserved c =
    let l = c.line-item.result in
    let rooms = c.loop-line.rooms.items in
    record {
      count = ap length c.add_line.ensures ∙ length-set rooms (l.process - 1) (slice_index rooms (l.process - 1) + parts l.act) ∙ c.loop-line.invariant.count;
      rooms = subst (HaveRooms (take (c.loop-line.line-index + 1) c.lines-lines.result.now)) (sym c.add_line.ensures)
          (rooms-more c.lines-lines.result.now rooms c.loop-line.line-index l c.loop-line-test.true (sym c.line-item.is)
          (item-owned c.args.plan.now c.lines-lines.result.now rooms c.loop-line.line-index l c.requires.nests c.lines-lines.ensures
          c.loop-line.invariant.count c.loop-line-test.true c.line-item.is) c.loop-line.invariant.rooms);
      total = ap (sum_by (λ n. n)) c.add_line.ensures
          ∙ total-more c.lines-lines.result.now rooms c.loop-line.line-index l c.loop-line-test.true (sym c.line-item.is)
          (item-owned c.args.plan.now c.lines-lines.result.now rooms c.loop-line.line-index l c.requires.nests c.lines-lines.ensures
          c.loop-line.invariant.count c.loop-line-test.true c.line-item.is) c.loop-line.invariant.total;
    }

pub returns-clause-rooms : goal.returns-clause-rooms
returns-clause-rooms c =
    let all = take_all c.loop-line.line-index c.lines-lines.result.now c.loop-line-test.false ∙ c.lines-lines.ensures in
    rooms-all c.args.plan.now c.loop-line.rooms.items c.requires.nests c.loop-line.invariant.count (subst (λ (l : List PlanLine). HaveRooms l c.loop-line.rooms.items) all c.loop-line.invariant.rooms)
    (c.loop-line.invariant.total ∙ ap entry_count all) c.requires.few
