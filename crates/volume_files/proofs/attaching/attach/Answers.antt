use Rattle.volume_files.proofs.LawLemmas.{disks-right, joins-right}
use Rattle.volume_files.proofs.attaching.attach.Goals as goal

pub attach_within-requires-clause-right : goal.attach_within-requires-clause-right
attach_within-requires-clause-right g c = λ κs lives. disks-right c.args.plan.now c.requires

pub attach_within-requires-clause-joins : goal.attach_within-requires-clause-joins
attach_within-requires-clause-joins g c = λ κs lives. joins-right c.args.plan.now c.requires
