-- How far a transfer is, as the code keeps it. Inside: no public clause cites this.
use Rattle.page_store.specs.Flight.{Progress, fresh, done, failed}
use Rattle.page_store.specs.declared.flight.Stage.{Stage}
use Rattle.page_store.specs.declared.flight.Stage.TheVariants as at

-- how far a transfer is that stands at this stage
abbrev pub outcome_at : Stage → Progress
outcome_at at.Fresh = fresh
outcome_at at.Done = done
outcome_at at.Failed = failed
