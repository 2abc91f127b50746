use Rattle.std.proofs.Common.{◌≡◌, ◌+◌, ◌<◌, ℕ, length, None, Ok, sym, ap, ◌∙◌, subst, arith}
use Rattle.std.proofs.lemmas.Result.{err_from_is_err_and}
use Rattle.seg_ops.specs.vm_types.declared.call.Call.TheVariants.{Write}
use Rattle.seg_ops.specs.vm_types.declared.call.Reply.TheVariants as reply
use Rattle.seg_ops.specs.vnode_files.Files.{FilesSeen}
use Rattle.seg_ops.specs.flat_model.Words.{page}
use Rattle.seg_ops.specs.vm_world.FileCalls.{room_refusal}
use Rattle.seg_ops.specs.vm_world.World.{world_seen, file_name}
use Rattle.seg_ops.proofs.vm_world.FileCalls.{file_calls_law}
use Rattle.seg_ops.proofs.vm_world.PageNames.{file-apart}
use Rattle.seg_ops.proofs.StillSteps.{memory_of}
use Rattle.seg_map.specs.Served.{ServesReply}
use Rattle.seg_map.proofs.ReadParts.{below-exists}
use Rattle.seg_map.proofs.WriteParts.{write-waits, writes-within}
use Rattle.seg_map.proofs.written.write_within.Goals as goal

there : (files : FilesSeen) (f end : ℕ) → room_refusal files f end ≡ None → f < length files.files
there files f end served = (file_calls_law.room files f end served).there

pub bring_page-requires-clause-exists : goal.bring_page-requires-clause-exists
bring_page-requires-clause-exists g c =
    let w = world_seen c.args.world.now in
    let lt = there w.files c.args.file (c.args.offset + length c.args.line.now) c.requires.served in
    let le = c.requires.within in
    let some = c.requires.line.some in
    below-exists w c.args.file (page c.args.offset) (file-apart w.files c.args.file c.requires.fits.1.files lt) (omega (arith, le, some))

pub take_if_listed-requires-clause-home : goal.take_if_listed-requires-clause-home
take_if_listed-requires-clause-home g c = c.in_ok-frame.ensures.brings.1

pub take_if_listed-requires-clause-fits : goal.take_if_listed-requires-clause-fits
take_if_listed-requires-clause-fits g c = (c.requires.fits.0, (c.in_ok-frame.ensures.brings.0 c.requires.fits.0 c.requires.fits.1).first.step.memory)

pub put_line-requires-clause-file : goal.put_line-requires-clause-file
put_line-requires-clause-file g c =
    subst (λ (s : FilesSeen). c.args.file < length s.files) (sym (ap (λ v. v.files) c.take_if_listed.ensures.rest ∙ ap (λ v. v.files) c.bring_page.ensures.rest)) (there c.args.world.now.files c.args.file (c.args.offset + length c.args.line.now) c.requires.served)

pub put_line-requires-clause-home : goal.put_line-requires-clause-home
put_line-requires-clause-home g c = c.take_if_listed.ensures.stay (file_name c.args.file (page c.args.offset)) ∙ c.in_ok-frame.ensures.brings.1

pub put_line-requires-clause-fits : goal.put_line-requires-clause-fits
put_line-requires-clause-fits g c = (c.requires.fits.0, (c.take_if_listed.ensures.keeps c.requires.fits.0 (c.in_ok-frame.ensures.brings.0 c.requires.fits.0 c.requires.fits.1).first.step.memory).memory)

pub returns-in_err-frame-clause-serves : goal.returns-in_err-frame-clause-serves
returns-in_err-frame-clause-serves g c = λ spaces p rest fits.
    let w = world_seen c.args.world.now in
    let le = c.requires.within in
    let wanted = write-waits w spaces c.args.world.now.pending p c.args.file c.args.offset rest c.args.line.now fits c.requires.line c.requires.served (world_seen c.bring_page.new.world) c.bring_page.new.world.pending
    c.in_err-frame.field-0.0 (c.in_err-frame.ensures.brings spaces fits) (ap (λ v. v.files) c.bring_page.ensures.rest) (λ n gap. absurd (let more = gap.longer in omega (arith, more, le))) in
    let is = err_from_is_err_and c.from_residual.result c.from_residual.ensures.1 in
    rw (is.1, is.2) wanted

pub returns-clause-serves : goal.returns-clause-serves
returns-clause-serves g c = λ spaces p rest fits.
    let w = world_seen c.args.world.now in
    let new = world_seen c.put_line.new.world in
    let b = c.in_ok-frame.ensures.brings.0 spaces fits in
    let keeps = c.take_if_listed.ensures.keeps spaces b.first.step.memory in
    subst (λ (k : ℕ). ServesReply reply.Done (memory_of w spaces) (memory_of new spaces) c.args.world.now.pending k p (Write c.args.file c.args.offset c.args.line.now rest) (Ok tt)) (sym (ap (λ v. v.pending) c.put_line.ensures.rest ∙ ap (λ v. v.pending) c.take_if_listed.ensures.rest))
    (writes-within w spaces c.args.world.now.pending p c.args.file c.args.offset rest c.args.line.now fits c.requires.line c.requires.served (world_seen c.bring_page.new.world) (world_seen c.take_if_listed.new.world) new c.bring_page.new.world.pending b
    c.requires.within keeps c.take_if_listed.ensures.names c.take_if_listed.ensures.modified (ap (λ v. v.files) c.take_if_listed.ensures.rest ∙ ap (λ v. v.files) c.bring_page.ensures.rest)
    (c.put_line.ensures.puts spaces keeps.memory) c.put_line.ensures.names c.put_line.ensures.modified)
