use Rattle.joined_disk.proofs.joined.JoinedDiskPairing.pair.Goals as goal

pub new-requires-clause-small : goal.new-requires-clause-small
new-requires-clause-small g c = (c.requires c.in-Some.b c.in-Some.is).1 c.if-not-mirror.true
