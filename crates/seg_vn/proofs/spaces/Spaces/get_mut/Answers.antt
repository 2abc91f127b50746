use Rattle.std.proofs.Common.{◌∙◌, ap, sym, None, inr}
use Rattle.seg_vn.proofs.SpacesFrom.{found-some, found-none, copied-parts-mut, parts_in, lent-space}
use Rattle.seg_vn.proofs.spaces.Spaces.get_mut.Goals as goal

pub returns-in_err-self-inside : goal.returns-in_err-self-inside
returns-in_err-self-inside c =
    rw c.from_residual.ensures (
      ap inr c.self.view_is,
      record {
        writes_back = tt;
        found = sym (found-none c.args.self.now c.self.inside.list.items c.args.process c.self.view_is c.in_err-self-inside.ensures.item.3);
      },
    )

pub returns : goal.returns
returns c =
    let item = c.in_ok-self-inside.ensures.item.3 in (
      lent-space _ c.self.inside.list.items c.args.process c.in_ok-self-inside.field-0.now c.args.self.now c.self.view_is item.0 (item.1 None),
      record {
        writes_back = tt;
        found = copied-parts-mut c.as_mut.result ∙ ap parts_in c.as_mut.ensures.value
            ∙ sym (found-some c.args.self.now c.self.inside.list.items c.args.process c.in_ok-self-inside.field-0.now c.self.view_is (item.1 None));
      },
    )
