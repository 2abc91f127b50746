use Rattle.std.proofs.Common.{◌-◌, ◌∙◌, true, refl, length-set}
use Rattle.vm_core.proofs.Forked.{born-noted, born-stays, starts-noted, starts-stay}
use Rattle.vm_core.proofs.forks.note_birth.Goals as goal

pub returns-in-Done : goal.returns-in-Done
returns-in-Done c = record {
  born = born-noted c.args.born.now.items c.args.child c.args.reply.now c.in-Done.is c.requires.first c.requires.marks;
  syncs = c.set.ensures ∙ starts-noted c.args.syncs.now c.args.child c.args.reply.now c.in-Done.is;
  marks = length-set c.args.born.now.items (c.args.child - 1) true;
}

pub returns-in_default : goal.returns-in_default
returns-in_default c = record {
  born = born-stays c.args.born.now.items c.args.child c.args.reply.now c.in_default.not-Done;
  syncs = starts-stay c.args.syncs.now c.args.child c.args.reply.now c.in_default.not-Done;
  marks = refl;
}
