use Rattle.std.proofs.Common.{◌≡◌, true, false, sym, ap, ◌∙◌, subst}
use Rattle.page_store.specs.Seen.{StoreSeen}
use Rattle.page_store.specs.Waits.{IsVictim}
use Rattle.vm_world.specs.hat_layer.Pool.{bits_of}
use Rattle.seg_ops.proofs.RoomMade.{lists-gathered}
use Rattle.seg_ops.proofs.UsedPages.{gathered-victim}
use Rattle.seg_ops.proofs.rooms.is_unused_victim.Goals as goal

pub returns-clause-can : goal.returns-clause-can
returns-clause-can g c = λ t. record {
  other = c.is_other.ensures c.if-not-is_other.false;
  victim = subst (λ (s : StoreSeen). IsVictim s c.args.frame) (sym c.was_used.ensures.store) (gathered-victim c.args.world.now.store c.args.frame (bits_of c.args.frame c.args.world.now.hat.places) (c.is_victim.ensures.0 c.if-not-is_victim.false));
  unwritten = c.was_used.ensures.unwritten;
}

pub returns-clause-lists : goal.returns-clause-lists
returns-clause-lists g c = lists-gathered c.args.world.now.store c.was_used.new.world.store c.args.frame _ c.was_used.ensures.store
