use Rattle.std.specs.Prelude.{◌+◌, not}
use Rattle.std.specs.List.{list_any}
use Rattle.std.proofs.Common.{ap, ◌∙◌, sym, inl, inr}
use Rattle.std.proofs.lemmas.Bool.{cases_Bool, lt-leb}
use Rattle.volume_format.specs.Place.{is_in_way}
use Rattle.volume_files.proofs.ClearLemmas.{clear-run, blocked-run, past-run}
use Rattle.volume_files.proofs.free_places.is_free_run.Goals as goal

pub returns-then-end-blocks : goal.returns-then-end-blocks
returns-then-end-blocks c =
    let extents = c.args.extents.now in
    elim (cases_Bool (list_any (is_in_way c.args.start (c.args.start + c.args.pages)) extents)) [
      | inl some ↦ ap not (c.is_any_in_way.ensures ∙ some) ∙ sym (blocked-run c.args.blocks extents c.args.pages c.args.start some)
      | inr none ↦ ap not (c.is_any_in_way.ensures ∙ none) ∙ sym (clear-run c.args.blocks extents c.args.pages c.args.start c.if-end-blocks.true none)
    ]

pub returns-else-end-blocks : goal.returns-else-end-blocks
returns-else-end-blocks c =
    lt-leb (c.args.start + c.args.pages) c.args.blocks c.if-end-blocks.false
    ∙ sym (past-run c.args.blocks c.args.extents.now c.args.pages c.args.start c.requires c.if-end-blocks.false)
