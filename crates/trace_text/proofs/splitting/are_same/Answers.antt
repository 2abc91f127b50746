use Rattle.std.proofs.lemmas.Bool.Decides.{Decides-eqb}
use Rattle.std.proofs.lemmas.Slice.Eq.{slice_eq-Decides}
use Rattle.trace_text.proofs.splitting.are_same.Goals as goal

pub returns : goal.returns
returns c = let both = slice_eq-Decides Decides-eqb _ _ _ c.eq.ensures in (both.0, both.1)
