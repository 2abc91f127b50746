use Rattle.std.proofs.Common.{◌≡◌, List, Some, ◌∙◌, ap, set}
use Rattle.std.proofs.lemmas.List.{get_or-set_same, set-set}
use Rattle.page_lock.specs.Rows.{row_at, clear_row}
use Rattle.page_lock.specs.declared.Row.{Row}
use Rattle.page_store.specs.Steps.{held_row}
use Rattle.page_store.proofs.frames.reserve.Goals as goal

pub returns : goal.returns
returns c =
    let row : row_at c.clear.new.self c.args.frame ≡ clear_row =
    ap (λ (rows : List Row). row_at rows c.args.frame) c.clear.ensures ∙ get_or-set_same c.args.locks.now c.args.frame clear_row clear_row c.requires in
    c.lock.ensures
    ∙ ap (λ (r : Row). set c.clear.new.self c.args.frame (record r { holder = Some c.args.seat })) row
    ∙ ap (λ (rows : List Row). set rows c.args.frame (held_row clear_row c.args.seat)) c.clear.ensures
    ∙ set-set c.args.locks.now c.args.frame clear_row (held_row clear_row c.args.seat)
