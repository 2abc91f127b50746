use Rattle.trace_check.proofs.checking.took.Goals as goal

pub take-requires-clause-form : goal.take-requires-clause-form
take-requires-clause-form c = c.requires.may.call
