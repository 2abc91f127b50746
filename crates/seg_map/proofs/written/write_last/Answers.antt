use Rattle.std.proofs.Common.{◌≡◌, ◌+◌, ◌<◌, ◌≤◌, ℕ, List, length, Some, Ok, sym, ap, ◌∙◌, subst, arith, inl}
use Rattle.std.proofs.lemmas.Result.{err_from_is_err_and}
use Rattle.std.specs.Prelude.{IsSome}
use Rattle.seg_ops.specs.vm_types.declared.call.Call.TheVariants.{Write}
use Rattle.seg_ops.specs.vm_types.declared.call.Reply.TheVariants as reply
use Rattle.seg_ops.specs.vnode_files.declared.extent.Extent.{Extent}
use Rattle.seg_ops.specs.vnode_files.Files.{FilesSeen, vnode_at, growth_of}
use Rattle.seg_ops.specs.flat_model.Parts.{longer_file}
use Rattle.seg_ops.specs.flat_model.Words.{page, pages_in}
use Rattle.seg_ops.proofs.vnode_files.GrowLemmas.{some_of}
use Rattle.seg_ops.specs.vm_world.Serving.{ModifiesOnly}
use Rattle.seg_ops.specs.vm_world.Wants.{IsGapPage}
use Rattle.seg_ops.specs.vm_world.World.{world_seen, file_name}
use Rattle.seg_ops.proofs.vm_world.PageNames.{file-apart}
use Rattle.seg_ops.proofs.Composed.{keeps-same}
use Rattle.seg_ops.proofs.StillSteps.{memory_of}
use Rattle.seg_map.specs.Longer.{GrowsInto, IsHomeUnlisted}
use Rattle.seg_map.specs.Served.{ServesReply}
use Rattle.seg_map.proofs.ReadParts.{below-exists}
use Rattle.seg_map.proofs.WriteParts.{gap-own, served-as, write-waits, writes-last}
use Rattle.seg_map.proofs.Waits.{gap-as}
use Rattle.seg_ops.specs.vm_world.MemoryFits.{MemoryFits}
use Rattle.seg_ops.specs.vm_world.Segments.{Spaces}
use Rattle.seg_ops.proofs.vm_world.FileCalls.{file_calls_law}
use Rattle.seg_ops.proofs.SparedPages.{same-listed as listed-was}
use Rattle.seg_map.proofs.written.write_last.Given.{Over}
use Rattle.seg_map.proofs.written.write_last.Goals.{After-take_if_listed}
use Rattle.seg_map.proofs.written.write_last.Goals as goal

-- no file changes as its page comes home
files-stay : (g : Over) (c : After-take_if_listed g) → c.take_if_listed.new.world.files ≡ c.args.world.now.files
files-stay g c = ap (λ v. v.files) c.take_if_listed.ensures.rest ∙ ap (λ v. v.files) c.bring_page.ensures.rest

-- the page is home then, on no list
at-home : (g : Over) (c : After-take_if_listed g) → IsHomeUnlisted (world_seen c.take_if_listed.new.world) (file_name c.args.file (page c.args.offset))
at-home g c =
    (c.in_ok-frame.frame, c.take_if_listed.ensures.stay (file_name c.args.file (page c.args.offset)) ∙ c.in_ok-frame.ensures.brings.1, c.take_if_listed.ensures.unlisted)

still-fits : (g : Over) (c : After-take_if_listed g) → (spaces : Spaces) → MemoryFits (memory_of (world_seen c.args.world.now) spaces) → MemoryFits (memory_of (world_seen c.take_if_listed.new.world) spaces)
still-fits g c spaces fits = (c.take_if_listed.ensures.keeps spaces (c.in_ok-frame.ensures.brings.0 spaces fits).first.step.memory).memory

pub bring_page-requires-clause-exists : goal.bring_page-requires-clause-exists
bring_page-requires-clause-exists g c =
    let w = world_seen c.args.world.now in
    below-exists w c.args.file (page c.args.offset) (file-apart w.files c.args.file c.requires.fits.1.files (file_calls_law.room w.files c.args.file c.args.end c.requires.served).there) c.requires.below

pub take_if_listed-requires-clause-home : goal.take_if_listed-requires-clause-home
take_if_listed-requires-clause-home g c = c.in_ok-frame.ensures.brings.1

pub take_if_listed-requires-clause-fits : goal.take_if_listed-requires-clause-fits
take_if_listed-requires-clause-fits g c = (c.requires.fits.0, (c.in_ok-frame.ensures.brings.0 c.requires.fits.0 c.requires.fits.1).first.step.memory)

pub make_longer-requires-clause-file : goal.make_longer-requires-clause-file
make_longer-requires-clause-file g c =
    subst (λ (s : FilesSeen). c.args.file < length s.files) (sym (files-stay g (goal.at.make_longer-requires-clause-file g c).After-take_if_listed)) (file_calls_law.room c.args.world.now.files c.args.file c.args.end c.requires.served).there

pub make_longer-requires-clause-longer : goal.make_longer-requires-clause-longer
make_longer-requires-clause-longer g c =
    subst (λ (s : FilesSeen). (vnode_at s c.args.file).info.length ≤ c.args.end) (sym (files-stay g (goal.at.make_longer-requires-clause-longer g c).After-take_if_listed)) (let lt = c.requires.longer in omega (arith, lt))

pub make_longer-requires-clause-room : goal.make_longer-requires-clause-room
make_longer-requires-clause-room g c =
    subst (λ (s : FilesSeen). IsSome (growth_of s c.args.file (pages_in c.args.end))) (sym (files-stay g (goal.at.make_longer-requires-clause-room g c).After-take_if_listed)) (file_calls_law.room c.args.world.now.files c.args.file c.args.end c.requires.served).room

pub make_longer-requires-clause-last : goal.make_longer-requires-clause-last
make_longer-requires-clause-last g c = λ name gap.
    let d = (goal.at.make_longer-requires-clause-last g c).After-take_if_listed in
    let w = world_seen c.args.world.now in
    let mid = world_seen c.take_if_listed.new.world in
    let was = gap-as mid w c.args.file c.args.end name (sym (files-stay g d)) gap in
    inl (subst (IsHomeUnlisted mid) (sym (gap-own w c.requires.fits.0 c.args.world.now.pending 0 c.args.file c.args.offset 0 c.args.line.now c.requires.fits.1 c.requires.line
    (served-as w.files c.args.file c.args.end (c.args.offset + length c.args.line.now) c.requires.end c.requires.served) c.requires.below name
    (subst (λ (n : ℕ). IsGapPage w c.args.file n name) c.requires.end was))) (at-home g d))

pub make_longer-requires-clause-fits : goal.make_longer-requires-clause-fits
make_longer-requires-clause-fits g c = (c.requires.fits.0, still-fits g (goal.at.make_longer-requires-clause-fits g c).After-take_if_listed c.requires.fits.0 c.requires.fits.1)

-- the growth that is had
growth : (g : Over) (c : After-take_if_listed g) → (extents : List Extent) × (growth_of c.take_if_listed.new.world.files c.args.file (pages_in c.args.end) ≡ Some extents)
growth g c =
    some_of (growth_of c.take_if_listed.new.world.files c.args.file (pages_in c.args.end))
    (subst (λ (s : FilesSeen). IsSome (growth_of s c.args.file (pages_in c.args.end))) (sym (files-stay g c)) (file_calls_law.room c.args.world.now.files c.args.file c.args.end c.requires.served).room)

pub put_line-requires-clause-file : goal.put_line-requires-clause-file
put_line-requires-clause-file g c =
    let d = (goal.at.put_line-requires-clause-file g c).After-take_if_listed in
    let e = growth g d in
    let sets = c.make_longer.ensures.sets e.0 e.1 in
    let count = sets.count in let lt = sets.there in omega (arith, count, lt)

pub put_line-requires-clause-home : goal.put_line-requires-clause-home
put_line-requires-clause-home g c =
    let name = file_name c.args.file (page c.args.offset) in
    c.make_longer.ensures.stay name ∙ c.take_if_listed.ensures.stay name ∙ c.in_ok-frame.ensures.brings.1

pub put_line-requires-clause-unlisted : goal.put_line-requires-clause-unlisted
put_line-requires-clause-unlisted g c = λ l. c.take_if_listed.ensures.unlisted (listed-was c.take_if_listed.new.world.store c.make_longer.new.world.store c.in_ok-frame.frame c.make_longer.ensures.lists l)

pub put_line-requires-clause-fits : goal.put_line-requires-clause-fits
put_line-requires-clause-fits g c =
    let d = (goal.at.put_line-requires-clause-fits g c).After-take_if_listed in
    let e = growth g d in
    (c.requires.fits.0, (c.make_longer.ensures.longer c.requires.fits.0 (still-fits g d c.requires.fits.0 c.requires.fits.1) e.0 e.1).memory)

pub returns-in_err-frame-clause-serves : goal.returns-in_err-frame-clause-serves
returns-in_err-frame-clause-serves g c = λ spaces p rest fits.
    let w = world_seen c.args.world.now in
    let served = served-as w.files c.args.file c.args.end (c.args.offset + length c.args.line.now) c.requires.end c.requires.served in
    let wanted = write-waits w spaces c.args.world.now.pending p c.args.file c.args.offset rest c.args.line.now fits c.requires.line served (world_seen c.bring_page.new.world) c.bring_page.new.world.pending
    c.in_err-frame.field-0.0 (c.in_err-frame.ensures.brings spaces fits) (ap (λ v. v.files) c.bring_page.ensures.rest)
    (gap-own w spaces c.args.world.now.pending p c.args.file c.args.offset rest c.args.line.now fits c.requires.line served c.requires.below) in
    let is = err_from_is_err_and c.from_residual.result c.from_residual.ensures.1 in
    rw (is.1, is.2) wanted

pub returns-clause-serves : goal.returns-clause-serves
returns-clause-serves g c = λ spaces p rest fits.
    let d = (goal.at.returns-clause-serves g c).After-take_if_listed in
    let w = world_seen c.args.world.now in
    let mid = world_seen c.take_if_listed.new.world in
    let long = world_seen c.make_longer.new.world in
    let new = world_seen c.put_line.new.world in
    let n = c.args.offset + length c.args.line.now in
    let b = c.in_ok-frame.ensures.brings.0 spaces fits in
    let keeps = c.take_if_listed.ensures.keeps spaces b.first.step.memory in
    let served = served-as w.files c.args.file c.args.end n c.requires.end c.requires.served in
    let e = growth g d in
    let sets = c.make_longer.ensures.sets e.0 e.1 in
    let grows : GrowsInto (memory_of mid spaces) (memory_of long spaces) c.args.file n (longer_file n) =
    subst (λ (k : ℕ). GrowsInto (memory_of mid spaces) (memory_of long spaces) c.args.file k (longer_file k)) c.requires.end (c.make_longer.ensures.longer spaces keeps.memory) in
    let gap : ModifiesOnly (IsGapPage mid c.args.file n) mid long = subst (λ (k : ℕ). ModifiesOnly (IsGapPage mid c.args.file k) mid long) c.requires.end c.make_longer.ensures.modified in
    subst (λ (k : ℕ). ServesReply reply.Done (memory_of w spaces) (memory_of new spaces) c.args.world.now.pending k p (Write c.args.file c.args.offset c.args.line.now rest) (Ok tt))
    (sym (ap (λ v. v.pending) c.put_line.ensures.rest ∙ ap (λ v. v.pending) c.make_longer.ensures.rest ∙ ap (λ v. v.pending) c.take_if_listed.ensures.rest))
    (writes-last w spaces c.args.world.now.pending p c.args.file c.args.offset rest c.args.line.now fits c.requires.line served (world_seen c.bring_page.new.world) mid long new c.bring_page.new.world.pending b
    keeps c.take_if_listed.ensures.names c.take_if_listed.ensures.modified (files-stay g d) grows c.make_longer.ensures.names gap (let count = sets.count in let lt = sets.there in omega (arith, count, lt))
    (keeps-same long spaces) (c.put_line.ensures.puts spaces (c.make_longer.ensures.longer spaces keeps.memory e.0 e.1).memory) c.put_line.ensures.names c.put_line.ensures.modified)
