use Rattle.std.proofs.Common.{length, arith}
use Rattle.swap_slots.proofs.BitLemmas.{full_below, flags_below_lowest}
use Rattle.swap_slots.proofs.bits.first_free.Goals as goal

pub returns-in_err-i-clause-none : goal.returns-in_err-i-clause-none
returns-in_err-i-clause-none c =
    rw c.from_residual.ensures
    (full_below c.args.words.now c.args.full.now (length c.args.words.now) c.requires.summary (omega arith)
    (λ w lt. c.in_err-i.ensures.none w (omega (arith, c.requires.summary.covered))))

pub returns-then-i-words-clause-none : goal.returns-then-i-words-clause-none
returns-then-i-words-clause-none c =
    full_below c.args.words.now c.args.full.now (length c.args.words.now) c.requires.summary (omega arith)
    (λ w lt. c.in_ok-i.ensures.first w (omega arith))

pub returns-clause-first : goal.returns-clause-first
returns-clause-first c =
    flags_below_lowest c.args.words.now c.in_ok-i.i c.lowest_clear.result c.lowest_clear.ensures.within c.lowest_clear.ensures.first
    (full_below c.args.words.now c.args.full.now c.in_ok-i.i c.requires.summary (omega arith) c.in_ok-i.ensures.first)
