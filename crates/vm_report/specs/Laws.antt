-- What a line of a block prints of a history that tells the block. Public clauses cite this.
use Rattle.std.specs.Prelude.{◌≡◌, List, ◌∷◌, [], ◌++◌}
use Rattle.vm_script.specs.vm_types.declared.call.Entry.{Entry}
use Rattle.vm_script.specs.declared.plan.PlanLine.{PlanLine}
use Rattle.vm_script.specs.Told.{Spell}
use Rattle.vm_report.specs.Report.{line_text, lines_text}

-- The first of these entries are those that spell the line, and it prints their result; the lines behind it print those
-- of the entries behind.
pub record PrintsOwn (l : PlanLine) (lines : List PlanLine) (es : List Entry) : Type 0 where
  pub own : List Entry
  pub rest : List Entry
  pub is : es ≡ own ++ rest
  pub spelled : Spell (l ∷ []) own
  pub more : Spell lines rest
  pub text : lines_text (l ∷ lines) es ≡ line_text l own ++ lines_text lines rest
