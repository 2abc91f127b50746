use Rattle.seg_ops.proofs.Pending.{bit-with, below-with}
use Rattle.seg_ops.proofs.tails.with_file.Goals as goal

pub returns-clause-bits : goal.returns-clause-bits
returns-clause-bits c = λ f. bit-with c.args.files c.args.file f c.requires

pub returns-clause-below : goal.returns-clause-below
returns-clause-below c = λ n lt below. below-with c.args.files c.args.file n c.requires lt below
