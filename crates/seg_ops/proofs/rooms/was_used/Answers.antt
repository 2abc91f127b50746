use Rattle.std.proofs.Common.{◌≡◌, length, ◌∙◌, arith}
use Rattle.vm_world.specs.hat_layer.Pool.{bits_of}
use Rattle.seg_ops.proofs.UsedPages.{gathered-use}
use Rattle.seg_ops.proofs.rooms.was_used.Goals as goal

pub returns-clause-used : goal.returns-clause-used
returns-clause-used g c =
    let s = c.args.world.now.store in
    let lt = c.requires.frame in
    let rows = c.requires.fits.1.frames.sound.rows in
    c.bits-referenced.ensures.referenced ∙ gathered-use s c.sync.new.world.store c.args.frame (bits_of c.args.frame c.args.world.now.hat.places) (omega (arith, lt, rows)) c.sync.ensures.store
