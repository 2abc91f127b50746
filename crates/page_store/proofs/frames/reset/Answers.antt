use Rattle.std.proofs.Common.{◌≡◌, false, List, ◌∙◌, ap, set}
use Rattle.std.proofs.lemmas.List.{get_or-set_same, set-set}
use Rattle.page_lock.specs.Rows.{row_at, clear_row, with_bits}
use Rattle.page_lock.specs.declared.Row.{Row}
use Rattle.page_store.specs.Steps.{fresh_row}
use Rattle.page_store.proofs.frames.reset.Goals as goal

pub returns : goal.returns
returns c =
    let row : row_at c.clear.new.self c.args.frame ≡ clear_row =
    ap (λ (rows : List Row). row_at rows c.args.frame) c.clear.ensures ∙ get_or-set_same c.args.locks.now c.args.frame clear_row clear_row c.requires in
    c.set_bits.ensures
    ∙ ap (λ (r : Row). set c.clear.new.self c.args.frame (with_bits r false c.args.modified)) row
    ∙ ap (λ (rows : List Row). set rows c.args.frame (fresh_row c.args.modified)) c.clear.ensures
    ∙ set-set c.args.locks.now c.args.frame clear_row (fresh_row c.args.modified)
