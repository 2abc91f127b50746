use Rattle.std.proofs.Common.{◌≡◌, refl}
use borrow.Author.Rules.{rules}
use Rattle.page_store.proofs.flight.Flight.perform.Goals as goal

pub returns-clause-performed : goal.returns-clause-performed
returns-clause-performed g c = record {
  seat = search rules;
  origin = search rules;
  number = search rules;
  size = search rules;
  kind = search rules;
  direction = search rules;
  name = search rules;
  block = search rules;
  valid = search rules;
  frame = search rules;
  kept = search rules;
  written = search rules;
  read = search rules;
  unchanged = search rules;
  before = search rules;
  later = search rules;
  risen = search rules;
  within = search rules;
  valid_within = search rules;
  whole = g.met.D.Disk.has_blocks c.if-self.self-inside.disk;
  bytes = search rules;
}
