use Rattle.std.proofs.Common.{◌≡◌, false, refl, ap}
use Rattle.page_store.specs.page_lock.Rows.{row_at, with_use}
use Rattle.page_store.specs.Seen.{StoreSeen}
use Rattle.page_store.specs.Steps.{with_row}
use Rattle.vm_world.specs.World.{world_seen}
use Rattle.seg_ops.proofs.UsedPages.{clear-keeps, clear-modifies}
use Rattle.seg_ops.proofs.rooms.forget_use.Given.{Over}
use Rattle.seg_ops.proofs.rooms.forget_use.Goals.{After-set_used}
use Rattle.seg_ops.proofs.rooms.forget_use.Goals as goal

-- the page's row is the one that was, without the bit of use
stored : (g : Over) (c : After-set_used g) → c.set_used.new.self ≡ with_row c.args.world.now.store c.args.frame (with_use (row_at c.args.world.now.store.rows c.args.frame) false)
stored g c = c.set_used.ensures.new

pub returns-clause-makes : goal.returns-clause-makes
returns-clause-makes g c =
    let is = stored g (goal.at.returns-clause-makes g c).After-set_used in
    let w = world_seen c.args.world.now in
    let laws = c.set_used.ensures.laws in
    record {
      rest = refl;
      stay = laws.residence;
      names = ap (λ (s : StoreSeen). s.names) is;
      frames = ap (λ (s : StoreSeen). s.frames) is;
      modified = clear-modifies w c.set_used.new.self c.args.frame false is laws.residence;
      keeps = λ spaces fits. clear-keeps w spaces c.set_used.new.self c.args.frame false fits is laws;
    }

pub returns-clause-lists : goal.returns-clause-lists
returns-clause-lists g c =
    let is = stored g (goal.at.returns-clause-lists g c).After-set_used in
    (ap (λ (s : StoreSeen). s.free) is, ap (λ (s : StoreSeen). s.cached) is)
