use Rattle.trace_text.proofs.EntriesAgain.{one_entry}
use Rattle.trace_text.proofs.trace_laws.one_entry_law.Goals as goal

pub returns : goal.returns
returns c = one_entry
