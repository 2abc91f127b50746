use Rattle.std.proofs.Common.{◌≡◌, ◌+◌, List, ◌++◌, Option, drop, ap, sym, ◌∙◌}
use Rattle.std.specs.List.{find}
use Rattle.std.specs.Option.{option_or}
use Rattle.std.proofs.lemmas.List.{at_drop_more, get_or_read}
use Rattle.std.proofs.lemmas.List.Folds.{find-append}
use Rattle.vnode_files.specs.declared.extent.Extent.{Extent}
use Rattle.vnode_files.specs.declared.vnode.FileInfo.{FileInfo}
use Rattle.volume_format.specs.Table.{all_extents, no_entry}
use Rattle.volume_format.specs.Place.{is_in_way}
use Rattle.volume_format.proofs.table.extent_in_way.Goals as goal
use Rattle.volume_format.proofs.table.extent_in_way.Goals.{After-first_in_way}

-- What is found from this file on: in this file, else in the rest.
from-here : (c : After-first_in_way) → find (is_in_way c.args.start c.args.end) (all_extents c.args.entries.now)
    ≡ option_or c.first_in_way.result (find (is_in_way c.args.start c.args.end) (all_extents (drop (c.loop-entry.entry-index + 1) c.args.entries.now)))
from-here c =
    let p = is_in_way c.args.start c.args.end in
    let entries = c.args.entries.now in
    let i = c.loop-entry.entry-index in
    let rest = all_extents (drop (i + 1) entries) in
    c.loop-entry.invariant
    ∙ at_drop_more (λ (es : List FileInfo). find p (all_extents es)) entries i no_entry c.loop-entry-test.true
    ∙ ap (λ (e : FileInfo). find p (e.extents ++ rest)) (sym (get_or_read entries i c.entry-item.result c.loop-entry-test.true c.entry-item.is no_entry))
    ∙ find-append p c.entry-item.result.extents rest
    ∙ ap (λ (o : Option Extent). option_or o (find p rest)) (sym (c.first_in_way.ensures ∙ ap (find p) c.list.ensures))

pub returns-in-Some : goal.returns-in-Some
returns-in-Some c =
    let d = (goal.at.returns-in-Some c).After-first_in_way in
    sym (from-here d ∙ ap (λ (o : Option Extent). option_or o (find (is_in_way c.args.start c.args.end) (all_extents (drop (c.loop-entry.entry-index + 1) c.args.entries.now)))) c.in-Some.is)

pub loop-entry-preserved : goal.loop-entry-preserved
loop-entry-preserved c =
    let d = (goal.at.loop-entry-preserved c).After-first_in_way in
    from-here d ∙ ap (λ (o : Option Extent). option_or o (find (is_in_way c.args.start c.args.end) (all_extents (drop (c.loop-entry.entry-index + 1) c.args.entries.now)))) c.in_default.is
