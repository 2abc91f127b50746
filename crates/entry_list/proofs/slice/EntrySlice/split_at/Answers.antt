use Rattle.std.proofs.Common.{◌∙◌, List, ap, drop, length, sym, arith}
use Rattle.entry_list.specs.vm_types.declared.call.Entry.{Entry}
use Rattle.entry_list.proofs.SliceLaws.{slice_behind, slice_count}
use Rattle.entry_list.proofs.slice.EntrySlice.split_at.Goals as goal

pub returns-clause-back : goal.returns-clause-back
returns-clause-back c =
    let s = c.self.inside in
    let seen = ap (λ (es : List Entry). length es) c.self.view_is in
    let size = slice_count s.entries.now s.first s.count c.self.invariant.within in
    let few = c.requires in
    sym (slice_behind s.entries.now s.first s.count c.args.count (omega (arith, seen, size, few))) ∙ ap (λ (es : List Entry). drop c.args.count es) c.self.view_is
