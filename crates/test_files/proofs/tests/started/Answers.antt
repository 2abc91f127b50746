use Rattle.test_acts.proofs.TrialLemmas.{trial-starts}
use Rattle.test_files.proofs.tests.started.Goals as goal

pub new-requires : goal.new-requires
new-requires c = let s = c.in_ok-opened.ensures in trial-starts c.in_ok-opened.field-0 _ 3 s.fits s.opening.history s.seated
