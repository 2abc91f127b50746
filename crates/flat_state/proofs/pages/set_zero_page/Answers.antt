use Rattle.flat_model.proofs.vnode_files.SeenLemmas.{none-from as none_from_test}
use Rattle.std.proofs.Common.{rules, ◌∙◌, ap, sym, []}
use Rattle.std.specs.Prelude.{is_some, unwrap_or, slice_set}
use Rattle.std.proofs.lemmas.Result.{on_ok_weaker, on_err_weaker}
use Rattle.std.specs.Ordering.{nat_cmp}
use Rattle.std.specs.Map.{lookup}
use Rattle.std.specs.BTreeMap.{is_at}
use Rattle.std.specs.FinMap as finite
use Rattle.flat_state.specs.Cells.{zeros_in}
use Rattle.flat_state.proofs.Maps.{get_at, insert_at, insert_same}
use Rattle.flat_state.proofs.pages.set_zero_page.Goals as goal

pub returns-then-not-contains_key-clause-ok : goal.returns-then-not-contains_key-clause-ok
returns-then-not-contains_key-clause-ok c =
    let old = c.args.zeros.now in
    let none = get_at old.entries c.args.zero ∙ none_from_test (lookup (is_at (nat_cmp c.args.zero)) old.entries) (search rules) in
    insert_at old.entries c.insert.new.self.entries c.args.zero c.new.result c.in_ok-insert.ensures.updates.0
    ∙ ap (finite.insert (zeros_in old) c.args.zero) (c.new.ensures ∙ sym (ap (λ o. slice_set (unwrap_or o []) c.args.index c.args.page) none))

pub returns-in_default-clause-ok : goal.returns-in_default-clause-ok
returns-in_default-clause-ok c = absurd (let has = c.contains_key.ensures in let none = ap is_some c.in_default.ensures.value in let is = c.if-not-contains_key.false in cc)

pub returns-clause-ok : goal.returns-clause-ok
returns-clause-ok c =
    let old = c.args.zeros.now in
    let new = c.set.new.self in
    let updates = (c.get_mut.follows.holds new).3 (sym (ap is_some c.in-Some.ensures.value)) in
    let found = get_at old.entries c.args.zero ∙ sym c.in-Some.ensures.value in
    on_ok_weaker c.set.result (λ put.
    insert_at old.entries (c.get_mut.follows.lender new).entries c.args.zero new updates.0
    ∙ ap (finite.insert (zeros_in old) c.args.zero) (put ∙ ap (λ o. slice_set (unwrap_or o []) c.args.index c.args.page) (sym found))) c.set.ensures.ok

pub returns-clause-err : goal.returns-clause-err
returns-clause-err c =
    let old = c.args.zeros.now in
    let new = c.set.new.self in
    let updates = (c.get_mut.follows.holds new).3 (sym (ap is_some c.in-Some.ensures.value)) in
    on_err_weaker c.set.result (λ same.
    insert_at old.entries (c.get_mut.follows.lender new).entries c.args.zero new updates.0
    ∙ ap (finite.insert (zeros_in old) c.args.zero) same
    ∙ insert_same (zeros_in old) c.args.zero c.in-Some.pages.now (get_at old.entries c.args.zero ∙ sym c.in-Some.ensures.value)) c.set.ensures.err
