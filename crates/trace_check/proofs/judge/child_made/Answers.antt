use Rattle.trace_check.proofs.Judged.{no_birth_by_call, no_birth_by_reply, birth_of}
use Rattle.trace_check.proofs.judge.child_made.Goals as goal

pub returns-in_default : goal.returns-in_default
returns-in_default c = λ p. no_birth_by_call p c.args.entry.now c.in_default.not-Fork

pub returns-in_default-reply : goal.returns-in_default-reply
returns-in_default-reply c = λ p. no_birth_by_reply p c.args.entry.now (λ is. c.in_default-reply.not-Done is)

pub returns : goal.returns
returns c = λ p. birth_of p c.in-Fork.child c.args.entry.now c.in-Fork.is c.in-Done.is
