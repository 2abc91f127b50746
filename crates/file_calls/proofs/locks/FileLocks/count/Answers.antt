use Rattle.std.proofs.Common.{ℕ, List, Option, length, ap}
use Rattle.file_calls.proofs.locks.FileLocks.count.Goals as goal

pub returns-clause-same : goal.returns-clause-same
returns-clause-same c = ap (λ (l : List (Option ℕ)). length l) c.self.view_is
