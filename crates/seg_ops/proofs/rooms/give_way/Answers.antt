use Rattle.std.proofs.Common.{◌≡◌, Some, None, sym, ap, ◌∙◌, inl, inr}
use Rattle.page_store.specs.Seen.{StoreSeen}
use Rattle.page_store.proofs.QueryLemmas.{residence-home, some-within}
use Rattle.seg_ops.proofs.Evictions.{no-room}
use Rattle.seg_ops.proofs.RoomMade.{room-same}
use Rattle.seg_ops.proofs.rooms.give_way.Goals as goal

pub bits-modified-requires : goal.bits-modified-requires
bits-modified-requires g c = some-within c.args.world.now.store.frames c.args.frame c.requires.victim.here

pub unreachable-requires : goal.unreachable-requires
unreachable-requires g c = no-room c.args.world.now.store c.requires.none c.args.frame (inl (c.requires.fits.1.frames.sound.spare c.args.frame c.requires.victim.here (sym c.in_default.ensures.held)))

pub returns-then-not-modified-clause-listed : goal.returns-then-not-modified-clause-listed
returns-then-not-modified-clause-listed g c =
    let e = c.move_hand.ensures ∙ c.evict.ensures.store in
    (ap (λ (s : StoreSeen). s.free) e, inr (c.args.frame, ap (λ (s : StoreSeen). s.cached) e))
