use Rattle.vm_report.proofs.LeftSections.{piece_less}
use Rattle.vm_report.proofs.pieces.process_sections.Goals as goal

-- Each piece leaves fewer.
pub loop-more-smaller : goal.loop-more-smaller
loop-more-smaller c = piece_less c.loop-more.more c.in_ok-more.more c.push_next.new.self.pieces c.loop-more.left.pieces c.loop-more-test.true c.in_ok-more.ensures.pieces
