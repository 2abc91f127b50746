use Rattle.std.specs.Prelude.{IsSome}
use Rattle.seg_ops.specs.core_arena.Bytes.{bytes_at}
use Rattle.std.proofs.Common.{◌≡◌, ◌+◌, ℕ, length, None, sym, ap, ◌∙◌, subst, Option, List, ◌<◌}
use Rattle.std.proofs.lemmas.Result.{err_from_is_err_and}
use Rattle.seg_ops.specs.vm_types.declared.call.Call.TheVariants.{Write}
use Rattle.seg_ops.specs.vm_types.declared.call.Reply.TheVariants as reply
use Rattle.seg_ops.specs.vnode_files.Files.{FilesSeen, vnode_at}
use Rattle.seg_ops.specs.vm_world.FileCalls.{room_refusal}
use Rattle.seg_ops.specs.vm_world.MemoryFits.{MemoryFits}
use Rattle.seg_ops.specs.vm_world.Segments.{Spaces}
use Rattle.seg_ops.specs.vm_world.Words.{memory}
use Rattle.seg_ops.specs.vm_world.World.{world_seen}
use Rattle.seg_ops.proofs.StillSteps.{memory_of}
use Rattle.seg_map.specs.Served.{ServesWant, ServesReply}
use Rattle.seg_map.proofs.WriteParts.{last-waits, served-as, serves-later}
use Rattle.seg_ops.specs.vm_world.Wants.{GrowthWants}
use Rattle.seg_map.proofs.written.write_past.Given.{Over}
use Rattle.seg_map.proofs.written.write_past.Goals.{After-ready_last}
use Rattle.seg_map.proofs.written.write_past.Goals as goal

files-stay : (g : Over) (c : After-ready_last g) → c.ready_last.new.world.files ≡ c.args.world.now.files
files-stay g c = ap (λ v. v.files) c.ready_last.ensures.makes.rest

served-still : (g : Over) (c : After-ready_last g) → room_refusal c.ready_last.new.world.files c.args.file c.args.end ≡ None
served-still g c = ap (λ (s : FilesSeen). room_refusal s c.args.file c.args.end) (files-stay g c) ∙ c.requires.served

fits-still : (g : Over) (c : After-ready_last g) (spaces : Spaces) → MemoryFits (memory_of (world_seen c.args.world.now) spaces) → MemoryFits (memory_of (world_seen c.ready_last.new.world) spaces)
fits-still g c spaces fits = (c.ready_last.ensures.makes.keeps spaces fits).memory

pub returns-in_err-ready_last-clause-serves : goal.returns-in_err-ready_last-clause-serves
returns-in_err-ready_last-clause-serves g c = λ spaces p rest fits.
    let w = world_seen c.args.world.now in
    let new = world_seen c.ready_last.new.world in
    let n = c.args.offset + length c.args.line.now in
    let makes = c.ready_last.ensures.makes in
    let held = c.in_err-ready_last.ensures.fetches in
    let wanted = last-waits w spaces c.args.world.now.pending p c.args.file c.args.offset rest c.args.line.now fits c.requires.line (served-as w.files c.args.file c.args.end n c.requires.end c.requires.served) new held.0 c.in_err-ready_last.field-0.0
    (makes.keeps spaces fits) makes.modified (ap (λ v. v.files) makes.rest) (ap (λ v. v.anon) makes.rest) makes.names (subst (λ (k : ℕ). GrowthWants w c.args.file k held.0) c.requires.end held.1) held.2 (held.3 spaces fits) in
    let is = err_from_is_err_and c.from_residual.result c.from_residual.ensures.1 in
    rw (is.1, is.2) (subst (λ (k : ℕ). ServesWant (memory_of w spaces) (memory_of new spaces) c.args.world.now.pending k p (Write c.args.file c.args.offset c.args.line.now rest) c.in_err-ready_last.field-0.0) (sym (ap (λ v. v.pending) makes.rest)) wanted)

pub write_last-requires-clause-served : goal.write_last-requires-clause-served
write_last-requires-clause-served g c = served-still g (goal.at.write_last-requires-clause-served g c).After-ready_last

pub write_last-requires-clause-longer : goal.write_last-requires-clause-longer
write_last-requires-clause-longer g c =
    subst (λ (s : FilesSeen). (vnode_at s c.args.file).info.length < c.args.end) (sym (files-stay g (goal.at.write_last-requires-clause-longer g c).After-ready_last)) c.requires.longer

pub write_last-requires-clause-home : goal.write_last-requires-clause-home
write_last-requires-clause-home g c = let h = c.requires.home 0 in (h.0, subst (λ (fs : List (Option (List ℕ))). IsSome (bytes_at fs h.0)) (sym c.ready_last.ensures.makes.frames) h.2)

pub write_last-requires-clause-fits : goal.write_last-requires-clause-fits
write_last-requires-clause-fits g c = (c.requires.fits.0, fits-still g (goal.at.write_last-requires-clause-fits g c).After-ready_last c.requires.fits.0 c.requires.fits.1)

pub write_last-requires-clause-noted : goal.write_last-requires-clause-noted
write_last-requires-clause-noted g c = (c.requires.noted.0, (c.ready_last.ensures.makes.keeps c.requires.fits.0 c.requires.fits.1).notes c.requires.noted.0 tt c.requires.noted.1)

pub write_new-requires-clause-served : goal.write_new-requires-clause-served
write_new-requires-clause-served g c = served-still g (goal.at.write_new-requires-clause-served g c).After-ready_last

pub write_new-requires-clause-home : goal.write_new-requires-clause-home
write_new-requires-clause-home g c = λ beside. let h = c.requires.home beside in (h.0, h.1, subst (λ (fs : List (Option (List ℕ))). IsSome (bytes_at fs h.0)) (sym c.ready_last.ensures.makes.frames) h.2)

pub write_new-requires-clause-fits : goal.write_new-requires-clause-fits
write_new-requires-clause-fits g c = (c.requires.fits.0, fits-still g (goal.at.write_new-requires-clause-fits g c).After-ready_last c.requires.fits.0 c.requires.fits.1)

pub write_new-requires-clause-noted : goal.write_new-requires-clause-noted
write_new-requires-clause-noted g c = (c.requires.noted.0, (c.ready_last.ensures.makes.keeps c.requires.fits.0 c.requires.fits.1).notes c.requires.noted.0 tt c.requires.noted.1)

pub returns-then-page-pages-clause-serves : goal.returns-then-page-pages-clause-serves
returns-then-page-pages-clause-serves g c = λ spaces p rest fits.
    let w = world_seen c.args.world.now in
    let mid = world_seen c.ready_last.new.world in
    let new = world_seen c.write_last.new.world in
    let n = c.args.offset + length c.args.line.now in
    let makes = c.ready_last.ensures.makes in
    let keeps = makes.keeps spaces fits in
    serves-later w spaces c.args.world.now.pending p c.args.file c.args.offset rest c.args.line.now fits c.requires.line (served-as w.files c.args.file c.args.end n c.requires.end c.requires.served) mid new c.write_last.new.world.pending c.write_last.result
    keeps makes.names (ap (λ v. v.files) makes.rest) makes.stay makes.modified
    (subst (λ (k : ℕ). ServesReply reply.Done (memory_of mid spaces) (memory_of new spaces) k c.write_last.new.world.pending p (Write c.args.file c.args.offset c.args.line.now rest) c.write_last.result) (ap (λ v. v.pending) makes.rest)
    (c.write_last.ensures.serves spaces p rest keeps.memory))

pub returns-clause-serves : goal.returns-clause-serves
returns-clause-serves g c = λ spaces p rest fits.
    let w = world_seen c.args.world.now in
    let mid = world_seen c.ready_last.new.world in
    let new = world_seen c.write_new.new.world in
    let n = c.args.offset + length c.args.line.now in
    let makes = c.ready_last.ensures.makes in
    let keeps = makes.keeps spaces fits in
    serves-later w spaces c.args.world.now.pending p c.args.file c.args.offset rest c.args.line.now fits c.requires.line (served-as w.files c.args.file c.args.end n c.requires.end c.requires.served) mid new c.write_new.new.world.pending c.write_new.result
    keeps makes.names (ap (λ v. v.files) makes.rest) makes.stay makes.modified
    (subst (λ (k : ℕ). ServesReply reply.Done (memory_of mid spaces) (memory_of new spaces) k c.write_new.new.world.pending p (Write c.args.file c.args.offset c.args.line.now rest) c.write_new.result) (ap (λ v. v.pending) makes.rest)
    (c.write_new.ensures.serves spaces p rest keeps.memory))

pub ready_last-requires-clause-home : goal.ready_last-requires-clause-home
ready_last-requires-clause-home g c = let h = c.requires.home 0 in (h.0, h.2)
