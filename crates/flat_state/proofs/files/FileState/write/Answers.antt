use Rattle.std.proofs.Common.{◌≡◌, ℕ, ◌+◌, ◌-◌, ◌++◌, List, length, replicate, map, sym, ap, subst, ◌∙◌, arith}
use Rattle.std.specs.Prelude.{All}
use Rattle.flat_model.specs.Words.{Page, IsPage, pages_in, zero_page}
use Rattle.flat_state.specs.Cells.{flat_file}
use Rattle.flat_model.specs.Parts.{longer_file, pages_with_bytes}
use Rattle.flat_model.proofs.FileBytes.{longer}
use Rattle.flat_state.proofs.FilePages.{longer-file-pages, part-of_pages, longer-kept, length-items, items_of}
use Rattle.flat_model.proofs.WellFormed.{IsFile-longer_file}
use Rattle.flat_state.proofs.files.FileState.write.Goals as goal
use Rattle.flat_state.proofs.files.FileState.write.Goals.{In_ok-lengthen}

-- the pages once they are enough
long : (c : In_ok-lengthen) → map items_of c.lengthen.new.pages.items ≡ (longer_file (c.args.offset + c.len.result) (flat_file c.args.self.now)).pages
long c = let old = flat_file c.args.self.now in let n = c.args.offset + c.len.result in
    c.in_ok-lengthen.ensures.ok ∙ ap (λ (k : ℕ). pages_with_bytes (old.pages ++ replicate (pages_in n - k) zero_page) old.len (replicate (n - old.len) 0)) (sym (length-items c.args.self.now.pages.items)) ∙ sym (longer-file-pages n old)

pub put-requires-clause-whole : goal.put-requires-clause-whole
put-requires-clause-whole c = subst (All IsPage) (sym (long (goal.at.put-requires-clause-whole c).In_ok-lengthen)) (IsFile-longer_file (c.args.offset + c.len.result) (flat_file c.args.self.now) c.requires.whole).pages

pub put-requires-clause-inside : goal.put-requires-clause-inside
put-requires-clause-inside c =
    let old = flat_file c.args.self.now in
    let n = c.args.offset + c.len.result in
    let count = (longer n old c.requires.whole).1.count in
    let same = ap length (long (goal.at.put-requires-clause-inside c).In_ok-lengthen) in
    let size = length-items c.lengthen.new.pages.items in
    let line = ap length c.bytes.ensures.bytes in
    omega (arith, c.len.ensures.len)

pub returns-clause-ok : goal.returns-clause-ok
returns-clause-ok c =
    let old = flat_file c.args.self.now in
    let n = c.args.offset + c.len.result in
    let pages : map items_of c.put.new.pages.items ≡ pages_with_bytes (longer_file n old).pages c.args.offset c.args.line.now =
    c.put.ensures ∙ ap (λ (bytes : List ℕ). pages_with_bytes (map items_of c.lengthen.new.pages.items) c.args.offset bytes) c.bytes.ensures.bytes ∙ ap (λ (ps : List Page). pages_with_bytes ps c.args.offset c.args.line.now) (long (goal.at.returns-clause-ok c).In_ok-lengthen) in
    part-of_pages n c.args.offset c.args.line.now (record old { extents = c.args.extents.items }) c.max-self.result (map items_of c.put.new.pages.items) (omega (arith, c.len.ensures.len)) c.max-self.ensures (pages ∙ longer-kept n c.args.extents.items old c.args.offset c.args.line.now)
