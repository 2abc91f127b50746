use Rattle.trace_text.proofs.FirstBad.{none_read, read_more, bad_next, bad_entry, bad_rest, whole_read}
use Rattle.trace_text.proofs.trace_laws.reading_law.Goals as goal

pub returns : goal.returns
returns c = record { none = none_read; more = read_more; bad = bad_next; no_entry = bad_entry; too_long = bad_rest; whole = whole_read }
