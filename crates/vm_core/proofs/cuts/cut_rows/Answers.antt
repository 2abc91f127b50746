use Rattle.std.proofs.Common.{◌≡◌, ℕ, suc, ◌+◌, ◌<◌, ◌≤◌, List, [], ◌∷◌, ◌++◌, length, take, sym, ap, ◌∙◌, arith}
use Rattle.std.specs.Prelude.{slice_index}
use Rattle.std.proofs.Math.Seq.{take-suc}
use Rattle.std.proofs.lemmas.List.{length-take-le}
use Rattle.disk_marks.specs.Marks.{MarksSeen}
use Rattle.disk_marks.specs.Changes.{marks_taken, marks_unpushed}
use Rattle.mark_laws.specs.Cuts.{rows_cut}
use Rattle.fault_entry.specs.vnode_files.Files.{vnode_at}
use Rattle.fault_entry.specs.vnode_files.Layout.{disk_of_file, block_of_page}
use Rattle.fault_entry.specs.vnode_files.Vnode.{page_blocks}
use Rattle.fault_entry.specs.vnode_files.declared.vnode.FileInfo.{FileInfo}
use Rattle.fault_entry.proofs.vnode_files.BlockLemmas.{length-page_blocks}
use Rattle.vm_core.proofs.CutRows.{cut-more-kept, cut-more-taken}
use Rattle.vm_core.proofs.cuts.cut_rows.Goals.{then-page-kept, else-page-kept}
use Rattle.vm_core.proofs.cuts.cut_rows.Goals as goal

-- one block more of the file's
more : (xs : List ℕ) (page : ℕ) → page < length xs → take (page + 1) xs ≡ take page xs ++ (slice_index xs page ∷ [])
more xs page lt = let one : page + 1 ≡ suc page = omega arith in ap (λ (k : ℕ). take k xs) one ∙ take-suc xs page 0 lt

pub loop-page-preserved : goal.loop-page-preserved
loop-page-preserved c =
    let files = c.args.files.now in
    let disk = disk_of_file files c.args.file in
    let block = block_of_page files c.args.file c.loop-page.page in
    let blocks = page_blocks (vnode_at files c.args.file).info.extents in
    let xs = take c.loop-page.page blocks in
    let low : c.loop-page.page < length blocks =
    (let test = c.loop-page-test.true in let pages = c.requires.pages in let count = length-page_blocks (vnode_at files c.args.file).info.extents in omega (arith, test, pages, count)) in
    let long : length xs ≡ c.loop-page.page = length-take-le c.loop-page.page blocks (omega (arith, low)) in
    let again = ap (λ (bs : List ℕ). rows_cut disk c.args.kept c.args.entries bs c.args.marks.now) (sym (more blocks c.loop-page.page low)) in
    record {
      cut = elim c.if-page-kept.branch [
        | then-page-kept w ↦
            w.marks-is ∙ w.forget_zeros.ensures
            ∙ ap (λ (i : FileInfo). marks_unpushed c.loop-page.marks i.disk c.block-block.result) c.info.ensures.info
            ∙ ap (λ (b : ℕ). marks_unpushed c.loop-page.marks disk b) c.block-block.ensures
            ∙ ap (λ (m : MarksSeen). marks_unpushed m disk block) c.loop-page.invariant.cut
            ∙ sym (cut-more-kept disk c.args.kept c.args.entries block xs c.args.marks.now (let kept = w.if-page-kept.true in omega (arith, kept, long)))
            ∙ again
        | else-page-kept w ↦
            w.marks-is ∙ w.take_away.ensures
            ∙ ap (λ (i : FileInfo). marks_taken c.loop-page.marks i.disk c.block-block.result c.args.entries) c.info.ensures.info
            ∙ ap (λ (b : ℕ). marks_taken c.loop-page.marks disk b c.args.entries) c.block-block.ensures
            ∙ ap (λ (m : MarksSeen). marks_taken m disk block c.args.entries) c.loop-page.invariant.cut
            ∙ sym (cut-more-taken disk c.args.kept c.args.entries block xs c.args.marks.now (let past = w.if-page-kept.false in omega (arith, past, long)))
            ∙ again
      ];
    }
