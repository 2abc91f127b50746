use Rattle.std.proofs.Common.{◌≡◌, ◌%◌, ◌≤◌, ℕ, sym, ap, ◌∙◌, subst, arith, List}
use Rattle.seg_ops.proofs.StillSteps.{memory_of}
use Rattle.seg_map.specs.Served.{ServesBytes}
use Rattle.seg_ops.specs.vm_types.declared.call.Call.TheVariants.{Read}
use Rattle.std.proofs.lemmas.Result.{err_from_is_err_and}
use Rattle.std.specs.Prelude.{IsTrue, take, drop, Ok}
use Rattle.seg_ops.specs.page_store.Value.{value}
use Rattle.seg_ops.specs.vnode_files.declared.vnode.FileInfo.{FileInfo}
use Rattle.seg_ops.specs.vnode_files.Files.{vnode_at}
use Rattle.seg_ops.specs.flat_model.Words.{page}
use Rattle.seg_ops.specs.vm_world.FileCalls.{read_count}
use Rattle.seg_ops.specs.vm_world.World.{World, world_seen, file_name, page_exists}
use Rattle.seg_ops.proofs.flat_model.Lines.{line-in_page}
use Rattle.seg_ops.proofs.vm_world.PageNames.{file-apart}
use Rattle.seg_map.proofs.ReadParts.{below-exists, read-there, read-waits, reads-line, reads-nothing}
use Rattle.seg_map.proofs.parts.read_line.Given.{Over}
use Rattle.seg_map.proofs.parts.read_line.Goals.{After-part_count-count}
use Rattle.seg_map.proofs.parts.read_line.Goals as goal

-- the file is there
pub info-requires : goal.info-requires
info-requires g c = read-there c.args.world.now.files c.args.file c.args.offset c.args.asked c.requires.served

-- how many bytes there are to read
count-is : (g : Over) (c : After-part_count-count g) → c.part_count-count.result ≡ read_count (vnode_at c.args.world.now.files c.args.file).info.length c.args.offset c.args.asked
count-is g c = c.part_count-count.ensures.count ∙ ap (λ (i : FileInfo). read_count i.length c.args.offset c.args.asked) c.info.ensures.info

-- the page of some exists
exists : (g : Over) (c : After-part_count-count g) → 1 ≤ c.part_count-count.result → IsTrue (page_exists c.args.world.now.files c.args.world.now.anon (file_name c.args.file (page c.args.offset)))
exists g c some =
    let w = world_seen c.args.world.now in
    let far = file-apart w.files c.args.file c.requires.fits.1.files (read-there w.files c.args.file c.args.offset c.args.asked c.requires.served) in
    let e = count-is g c in
    below-exists w c.args.file (page c.args.offset) far (omega (arith, some, e))

pub bring_page-requires-clause-exists : goal.bring_page-requires-clause-exists
bring_page-requires-clause-exists g c = exists g (goal.at.bring_page-requires-clause-exists g c).After-part_count-count (let ne = c.if-count-eq0.false in omega (arith, ne))

pub line_of-requires-clause-home : goal.line_of-requires-clause-home
line_of-requires-clause-home g c = (file_name c.args.file (page c.args.offset), c.in_ok-frame.ensures.brings.1)

pub line_of-requires-clause-within : goal.line_of-requires-clause-within
line_of-requires-clause-within g c = line-in_page c.args.offset c.part_count-count.result c.part_count-count.ensures.inside

pub returns-then-count-eq0-clause-serves : goal.returns-then-count-eq0-clause-serves
returns-then-count-eq0-clause-serves g c = λ spaces p fits.
    let w = world_seen c.args.world.now in
    subst (λ (line : List ℕ). ServesBytes (memory_of w spaces) (memory_of w spaces) c.args.world.now.pending c.args.world.now.pending p (Read c.args.file c.args.offset c.args.asked) (Ok line)) (sym c.new.ensures)
    (reads-nothing w spaces c.args.world.now.pending p c.args.file c.args.offset c.args.asked fits (read-there w.files c.args.file c.args.offset c.args.asked c.requires.served) c.requires.served
    (sym (count-is g (goal.at.returns-then-count-eq0-clause-serves g c).After-part_count-count) ∙ c.if-count-eq0.true))

pub returns-in_err-frame-clause-serves : goal.returns-in_err-frame-clause-serves
returns-in_err-frame-clause-serves g c = λ spaces p fits.
    let w = world_seen c.args.world.now in
    let e = count-is g (goal.at.returns-in_err-frame-clause-serves g c).After-part_count-count in
    let wanted = read-waits w spaces c.args.world.now.pending p c.args.file c.args.offset c.args.asked fits (read-there w.files c.args.file c.args.offset c.args.asked c.requires.served) c.requires.served
    (world_seen c.bring_page.new.world) c.bring_page.new.world.pending c.in_err-frame.field-0.0 (c.in_err-frame.ensures.brings spaces fits) (ap (λ v. v.files) c.bring_page.ensures.rest)
    (let ne = c.if-count-eq0.false in omega (arith, ne, e)) in
    let is = err_from_is_err_and c.from_residual.result c.from_residual.ensures.1 in
    rw (is.1, is.2) wanted

pub returns-clause-serves : goal.returns-clause-serves
returns-clause-serves g c = λ spaces p fits.
    let d = (goal.at.returns-clause-serves g c).After-part_count-count in
    let w = world_seen c.args.world.now in
    let new = world_seen c.bring_page.new.world in
    let same = ap world_seen c.bring_page.ensures.rest in
    let some : 1 ≤ c.part_count-count.result = let ne = c.if-count-eq0.false in omega (arith, ne) in
    reads-line w spaces c.args.world.now.pending p c.args.file c.args.offset c.args.asked fits (read-there w.files c.args.file c.args.offset c.args.asked c.requires.served) c.requires.served
    new c.bring_page.new.world.pending c.line_of.result (c.in_ok-frame.ensures.brings.0 spaces fits) (ap (λ v. v.files) c.bring_page.ensures.rest)
    (λ notes table. c.line_of.ensures (file_name c.args.file (page c.args.offset)) c.in_ok-frame.ensures.brings.1 notes table ∙ ap (λ (k : ℕ). take k (drop (c.args.offset % 4096) (value new.store notes table (file_name c.args.file (page c.args.offset))))) (count-is g d))
    (subst (λ (v : World). IsTrue (page_exists v.files v.anon (file_name c.args.file (page c.args.offset)))) (sym same) (exists g d some))
