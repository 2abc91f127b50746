use Rattle.std.proofs.Common.{◌∙◌, ap}
use Rattle.std.specs.FinMap as finite
use Rattle.seg_vn.specs.Spaces.{SpacesSeen}
use Rattle.seg_vn.proofs.SpacesFrom.{put-space, place-there}
use Rattle.seg_vn.proofs.spaces.Spaces.insert.Goals as goal

pub returns-clause-spaces : goal.returns-clause-spaces
returns-clause-spaces c =
    put-space c.self.inside.list.items c.args.process c.args.space (place-there c.args.self.now c.self.inside.list.items c.args.process c.self.view_is c.requires.first c.requires.last)
    ∙ ap (λ (s : SpacesSeen). finite.insert s.spaces c.args.process c.args.space.parts) c.self.view_is
