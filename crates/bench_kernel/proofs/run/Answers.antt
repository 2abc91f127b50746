use Rattle.std.proofs.Common.{◌≡◌, ◌++◌, List, length, map, take, drop, None, sym, ap, subst, arith, take_at}
use Rattle.std.specs.Prelude.{All}
use Rattle.kernel_lock.specs.Seats.{HasAll}
use Rattle.vm_kernel.specs.Callers.{CallerSeen, IsCallerOf, caller_part}
use Rattle.test_threads.proofs.Trials.{still-fits}
use Rattle.bench_kernel.proofs.Rows.{all-of, all-free, has-all}
use Rattle.bench_kernel.proofs.run.Given.{Over}
use Rattle.bench_kernel.proofs.run.Goals.{After-use_pages}
use Rattle.bench_kernel.proofs.run.Goals as goal

-- the row as it comes back
back : (g : Over) (c : After-use_pages g) → take c.in_ok-kernel.row.len (c.use_pages.new.row ++ drop (length c.use_pages.new.row) c.in_ok-kernel.row.items) ≡ c.use_pages.new.row
back g c =
    take_at c.use_pages.new.row _ c.in_ok-kernel.row.len
    (let ok = c.in_ok-kernel.row.ok.0 in let same = c.use_pages.auto.row in let value = ap (λ (l : List CallerSeen). length l) c.as_mut_slice.ensures.value in omega (arith, ok, same, value))

pub close-requires-clause-callers : goal.close-requires-clause-callers
close-requires-clause-callers g c =
    let k = c.in_ok-kernel.kernel in
    subst (λ (row : List CallerSeen). All (λ (it : CallerSeen). IsCallerOf k it) row) (sym (back g (goal.at.close-requires-clause-callers g c).After-use_pages))
    (all-of k 0 c.use_pages.new.row c.use_pages.ensures)

pub close-requires-clause-all : goal.close-requires-clause-all
close-requires-clause-all g c =
    let k = c.in_ok-kernel.kernel in
    subst (λ (row : List CallerSeen). HasAll k.seats (map caller_part row)) (sym (back g (goal.at.close-requires-clause-all g c).After-use_pages))
    (has-all k 0 c.use_pages.new.row c.use_pages.ensures)

pub finish-finished-requires : goal.finish-finished-requires
finish-finished-requires g c =
    let k = c.in_ok-kernel.kernel in
    still-fits k.opening c.close.result k.seats (c.close.ensures.still
    (subst (λ (row : List CallerSeen). All (λ (it : CallerSeen). it.seat.note ≡ None) row) (sym (back g (goal.at.finish-finished-requires g c).After-use_pages))
    (all-free k 0 c.use_pages.new.row c.use_pages.ensures)))
