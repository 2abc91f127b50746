use Rattle.std.proofs.Common.{◌∙◌, ap, sym, None}
use Rattle.seg_vn.proofs.SpacesFrom.{found-some, found-none, parts_in, taken-space, none-taken}
use Rattle.seg_vn.proofs.spaces.Spaces.remove.Goals as goal

pub returns-in_err-get_mut-clause-taken : goal.returns-in_err-get_mut-clause-taken
returns-in_err-get_mut-clause-taken c = rw c.from_residual.ensures (sym (found-none c.args.self.now c.self.inside.list.items c.args.process c.self.view_is c.in_err-get_mut.ensures.item.3))

pub returns-in_err-get_mut-clause-spaces : goal.returns-in_err-get_mut-clause-spaces
returns-in_err-get_mut-clause-spaces c = none-taken c.args.self.now c.self.inside.list.items c.args.process c.self.view_is c.in_err-get_mut.ensures.item.3

pub returns-clause-taken : goal.returns-clause-taken
returns-clause-taken c = ap parts_in c.take.ensures.value
    ∙ sym (found-some c.args.self.now c.self.inside.list.items c.args.process c.in_ok-get_mut.field-0.now c.self.view_is (c.in_ok-get_mut.ensures.item.3.1 None))

pub returns-clause-spaces : goal.returns-clause-spaces
returns-clause-spaces c = rw c.take.ensures.after (taken-space c.args.self.now c.self.inside.list.items c.args.process c.self.view_is c.in_ok-get_mut.ensures.item.3.0)
