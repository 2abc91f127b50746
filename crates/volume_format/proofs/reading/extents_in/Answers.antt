use Rattle.std.proofs.Common.{◌≡◌, ◌+◌, ◌-◌, ◌∷◌, ◌++◌, [], ap, sym, ◌∙◌, arith, map}
use Rattle.std.specs.List.{range_with_len}
use Rattle.std.proofs.lemmas.List.FromFn.{map-range_with_len_more}
use Rattle.volume_format.specs.Layout.{table_extent, first_extent, extents_number}
use Rattle.volume_format.proofs.reading.extents_in.Goals as goal

pub loop-j-preserved : goal.loop-j-preserved
loop-j-preserved c =
    let at = first_extent c.args.block.now c.args.i in
    let te = table_extent c.args.block.now in
    let i = c.loop-j.invariant in
    let one : c.loop-j.j + 1 - c.entry_number-first.result ≡ (c.loop-j.j - c.entry_number-first.result) + 1 = omega arith in
    record {
      first = i.first;
      end = i.end;
      items =
          c.in_ok-push.ensures.items
          ∙ ap (λ e. c.loop-j.extents.items ++ e ∷ []) c.table_extent.ensures
          ∙ ap (λ es. es ++ te c.loop-j.j ∷ []) i.items
          ∙ sym (map-range_with_len_more te at (c.loop-j.j - c.entry_number-first.result) c.loop-j.j (omega arith))
          ∙ ap (λ n. map te (range_with_len at n)) (sym one);
    }

pub returns : goal.returns
returns c =
    let i = c.loop-j.invariant in
    let all : c.loop-j.j - c.entry_number-first.result ≡ extents_number c.args.block.now c.args.i = omega arith in
    rw (← all, ← i.items, ← c.deref.ensures.value) c.new.ensures
