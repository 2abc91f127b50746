use Rattle.std.proofs.Common.{◌≡◌, ◌∷◌, ◌++◌, [], ℕ, List, ap, sym, subst, ◌∙◌, arith, map}
use Rattle.std.specs.List.{range_with_len}
use Rattle.std.proofs.lemmas.List.FromFn.{map-range_with_len_more}
use Rattle.vnode_files.specs.declared.vnode.FileInfo.{FileInfo}
use Rattle.volume_format.specs.Layout.{file_in, file_count}
use Rattle.volume_format.specs.Table.{HasRoom}
use Rattle.volume_format.proofs.PassedLemmas.{tests-passed, passed-named, passed-room}
use Rattle.volume_format.proofs.reading.table_in.Goals as goal

pub file_in-requires-clause-there : goal.file_in-requires-clause-there
file_in-requires-clause-there c =
    let p = tests-passed c.args.block.now c.args.blocks c.requires.passed in
    omega (arith, p.header.count, c.loop-i.invariant.count)

pub file_in-requires-clause-name : goal.file_in-requires-clause-name
file_in-requires-clause-name c =
    passed-named c.args.block.now c.args.blocks c.loop-i.i (tests-passed c.args.block.now c.args.blocks c.requires.passed) (omega arith)

pub file_in-requires-clause-within : goal.file_in-requires-clause-within
file_in-requires-clause-within c = λ ne.
    let files = (tests-passed c.args.block.now c.args.blocks c.requires.passed).second ne in
    let e = files.each c.loop-i.i (omega arith) in
    omega (arith, e.next.within, files.few)

pub loop-i-preserved : goal.loop-i-preserved
loop-i-preserved c =
    let f = file_in c.args.block.now in
    record {
      count = c.loop-i.invariant.count;
      items =
          c.in_ok-push.ensures.items
          ∙ ap (λ (e : FileInfo). c.loop-i.entries.items ++ e ∷ []) c.in_ok-entry.ensures
          ∙ ap (λ (es : List FileInfo). es ++ f c.loop-i.i ∷ []) c.loop-i.invariant.items
          ∙ sym (map-range_with_len_more f 0 c.loop-i.i c.loop-i.i (omega arith));
    }

pub from_entries-requires : goal.from_entries-requires
from_entries-requires c =
    let all : c.loop-i.i ≡ file_count c.args.block.now = omega arith in
    subst HasRoom (sym (c.loop-i.invariant.items ∙ ap (λ (n : ℕ). map (file_in c.args.block.now) (range_with_len 0 n)) all))
    (passed-room c.args.block.now c.args.blocks (tests-passed c.args.block.now c.args.blocks c.requires.passed))
