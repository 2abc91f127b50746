use Rattle.disk_stripe.specs.StripeLook.{stripe_disks}
use Rattle.disk_stripe.proofs.StripeLemmas.{one_reads}
use Rattle.disk_stripe.proofs.stripe.StripeDisk.read.Goals as goal

pub returns-clause-reads : goal.returns-clause-reads
returns-clause-reads g c =
    let s = c.args.self.now in
    let law = g.met.D.Disk.has_blocks in
    one_reads g.D.Disk.seen (stripe_disks s) (stripe_disks c.read_one.new.self) c.args.block c.read_one.new.into c.read_one.result (law s.a) (law s.b) s.equal c.requires.block c.read_one.ensures
