use Rattle.std.proofs.Common.{◌≡◌, ◌∙◌, ap, false}
use Rattle.std.specs.Ordering.{nat_cmp}
use Rattle.std.specs.FinMap as finite
use Rattle.std.specs.FinSet as set
use Rattle.std.proofs.lemmas.Result.{on_ok_weaker, on_err_weaker}
use Rattle.flat_state.specs.Cells.{processes_in}
use Rattle.flat_model.specs.Flat.{Flat, Space}
use Rattle.flat_state.specs.FlatState.{flat_of, with_process}
use Rattle.flat_state.proofs.Trees.{keys_insert, keys_back}
use Rattle.flat_state.proofs.state.FlatParts.be_born.Goals as goal

pub returns-then-is_err-clause-err : goal.returns-then-is_err-clause-err
returns-then-is_err-clause-err c =
    let s = c.self.inside in
    let new : set.contains (processes_in s.born) c.args.process ≡ false = ap (λ (F : Flat). set.contains F.born c.args.process) c.self.view_is ∙ c.requires in
    let back = keys_back s.born.entries c.insert.new.self.entries c.remove.new.self.entries c.args.process tt new c.in_ok-insert.ensures.updates.0 c.remove.ensures.updates.0 in
    on_err_weaker c.insert-inserted.result
    (λ same. ap (λ (m : finite.FinMap nat_cmp Space). record (flat_of s) { spaces = m; born = processes_in c.remove.new.self }) same
    ∙ ap (λ (b : set.FinSet nat_cmp). record (flat_of s) { born = b }) back ∙ c.self.view_is)
    c.insert-inserted.ensures.err

pub returns-else-is_err-clause-ok : goal.returns-else-is_err-clause-ok
returns-else-is_err-clause-ok c =
    let s = c.self.inside in
    let more = keys_insert s.born.entries c.insert.new.self.entries c.args.process tt c.in_ok-insert.ensures.updates.0 in
    on_ok_weaker c.insert-inserted.result
    (λ put. ap (λ (m : finite.FinMap nat_cmp Space). record (flat_of s) { spaces = m; born = processes_in c.insert.new.self }) put
    ∙ ap (λ (b : set.FinSet nat_cmp). record (flat_of s) { spaces = finite.insert s.spaces c.args.process c.args.cells; born = b }) more
    ∙ ap (λ (F : Flat). with_process F c.args.process c.args.cells) c.self.view_is)
    c.insert-inserted.ensures.ok
