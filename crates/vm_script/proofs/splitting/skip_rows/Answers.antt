use Rattle.std.proofs.Common.{rules, tests, arith, ◌≡◌, ◌∙◌, ap, true, take}
use Rattle.std.specs.List.{list_all}
use Rattle.vm_script.specs.Lines.{is_graphic}
use Rattle.vm_script.specs.Cursor.{after_graphic}
use Rattle.vm_script.proofs.Cursors.{graphic_row}
use Rattle.vm_script.proofs.splitting.skip_rows.Goals as goal

pub loop-left-preserved : goal.loop-left-preserved
loop-left-preserved c =
    let front = c.split_at.ensures.front in
    let says = c.are_graphic.ensures in
    let passed = c.if-not-are_graphic.false in
    let all : list_all is_graphic (take 32 c.loop-left.left.now) ≡ true = grind (rules, tests, front, says, passed) in
    ap after_graphic c.split_at.ensures.back ∙ (graphic_row 32 c.loop-left.left.now all ∙ c.loop-left.invariant)
