use Rattle.std.proofs.Common.{◌∙◌, true, refl, sym, arith}
use Rattle.std.proofs.lemmas.Bool.{eq-eqb, ne_eqb}
use Rattle.swap_slots.proofs.BitLemmas.{summary_kept, marked_here, marked_elsewhere, not_full_flag}
use Rattle.swap_slots.proofs.bits.take.Goals as goal

pub returns-then-words-place-clause-summary : goal.returns-then-words-place-clause-summary
returns-then-words-place-clause-summary c =
    summary_kept c.args.words.now c.set_bit.new.words c.args.full.now c.set_bit-then-words-place.new.words c.args.place true c.requires.summary c.set_bit.ensures
    (eq-eqb _ _ c.if-words-place.true ∙ sym (marked_here _ _ _ true c.set_bit-then-words-place.ensures))
    c.set_bit-then-words-place.ensures.lengths
    (marked_elsewhere _ _ _ true c.set_bit-then-words-place.ensures)

pub returns-else-words-place-clause-summary : goal.returns-else-words-place-clause-summary
returns-else-words-place-clause-summary c =
    summary_kept c.args.words.now c.set_bit.new.words c.args.full.now c.args.full.now c.args.place true c.requires.summary c.set_bit.ensures
    (ne_eqb _ _ c.if-words-place.false ∙ sym (c.requires.summary.marks _ (omega (arith, c.requires.within)) ∙ not_full_flag c.args.words.now c.args.place c.requires.clear))
    refl
    (λ k _. refl)
