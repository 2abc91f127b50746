use Rattle.std.proofs.Common.{◌∙◌, sym, arith}
use Rattle.entry_list.specs.Rows.{entry_seen}
use Rattle.entry_list.proofs.SliceLaws.{slice_first}
use Rattle.entry_list.proofs.slice.EntrySlice.split_first.Goals as goal

pub returns : goal.returns
returns c =
    let s = c.self.inside in
    let some = c.if-self-eq0.false in
    sym c.self.view_is ∙ slice_first s.entries.now s.first s.count (entry_seen c.at-first.result) c.self.invariant.within (omega (arith, some)) c.at-first.ensures
