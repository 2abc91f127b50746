use Rattle.vm_kernel.specs.Notes.{note_of_held}
use Rattle.vm_kernel.proofs.hits.missed_at.Goals as goal

pub returns-clause-leaves : goal.returns-clause-leaves
returns-clause-leaves g c = (c.access_and_leave-answer.result, note_of_held c.access_and_leave-answer.new.sent, c.quick_of.ensures, c.access_and_leave-answer.ensures.leaves, c.perform.ensures)
