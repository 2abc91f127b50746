use Rattle.flat_state.proofs.state.FlatParts.+act_cleared.Given as goal

-- fewer bits are left each time
abbrev pub decreases-act_cleared : goal.decreases-act_cleared
decreases-act_cleared l = l.mask
