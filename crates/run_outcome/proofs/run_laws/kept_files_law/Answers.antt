use Rattle.run_outcome.proofs.run_laws.kept_files_law.Goals as goal

pub returns : goal.returns
returns c = λ g o e whole tell. record { course = whole.course; tables = whole.shown.closed.tables; stored = whole.shown.closed.left.stored tell }
