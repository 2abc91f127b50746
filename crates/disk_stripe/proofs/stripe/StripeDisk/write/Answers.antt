use Rattle.disk_stripe.specs.StripeLook.{stripe_disks}
use Rattle.disk_stripe.proofs.StripeLemmas.{one_writes}
use Rattle.disk_stripe.proofs.stripe.StripeDisk.write.Goals as goal

pub returns-clause-writes : goal.returns-clause-writes
returns-clause-writes g c =
    let s = c.args.self.now in
    let law = g.met.D.Disk.has_blocks in
    one_writes g.D.Disk.seen (stripe_disks s) (stripe_disks c.write_one.new.self) c.args.block c.args.from.now c.write_one.result (law s.a) (law s.b) s.equal c.requires.block c.write_one.ensures
