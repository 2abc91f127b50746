use Rattle.std.proofs.Common.{[], sym, subst}
use Rattle.sysv_shm.specs.Shm.{IsShm}
use Rattle.sysv_shm.proofs.Questions.{nothing-asked}
use Rattle.sysv_shm.proofs.shm.Shm.new.Goals as goal

pub invariant_of-result : goal.invariant_of-result
invariant_of-result g c =
    let look = g.M.ShmMaker.look in
    let starts = g.M.ShmMaker.starts in
    let maker = c.args.maker in
    subst (λ lines. IsShm look starts maker c.none.result c.new.result.items lines)
    (sym c.in-Ok.ensures.items)
    (subst (λ entries. IsShm look starts maker c.none.result entries c.args.lines.now)
    (sym c.new.ensures.items)
    (subst (λ slots. IsShm look starts maker slots [] c.args.lines.now) (sym c.none.ensures)
    (nothing-asked look starts maker c.args.lines.now c.requires.unused c.requires.room
    c.requires.apart)))
