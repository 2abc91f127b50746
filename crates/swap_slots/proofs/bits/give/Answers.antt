use Rattle.std.proofs.Common.{false, sym, ◌∙◌}
use Rattle.swap_slots.proofs.BitLemmas.{summary_kept, marked_here, marked_elsewhere, not_full_flag}
use Rattle.swap_slots.proofs.bits.give.Goals as goal

pub returns-clause-summary : goal.returns-clause-summary
returns-clause-summary c =
    summary_kept c.args.words.now c.clear_bit.new.words c.args.full.now c.clear_bit-2.new.words c.args.place false c.requires.summary c.clear_bit.ensures
    (not_full_flag c.clear_bit.new.words c.args.place (marked_here _ _ _ false c.clear_bit.ensures) ∙ sym (marked_here _ _ _ false c.clear_bit-2.ensures))
    c.clear_bit-2.ensures.lengths
    (marked_elsewhere _ _ _ false c.clear_bit-2.ensures)
