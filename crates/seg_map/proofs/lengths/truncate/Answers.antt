use Rattle.std.proofs.Common.{◌≤◌, ℕ, length, Ok, refl, sym, ap, ◌∙◌, ◌⊎◌, inl, inr, subst, arith}
use Rattle.std.proofs.lemmas.Result.{err_from_is_err_and}
use Rattle.seg_ops.specs.vm_types.declared.call.Call.TheVariants.{Truncate}
use Rattle.seg_ops.specs.vm_types.declared.call.Reply.TheVariants as reply
use Rattle.seg_ops.specs.flat_model.Words.{page}
use Rattle.seg_ops.specs.vnode_files.declared.vnode.FileInfo.{FileInfo}
use Rattle.seg_ops.specs.vnode_files.Files.{FilesSeen, vnode_at}
use Rattle.seg_ops.specs.vm_world.Wants.{IsCutPage, IsGapPage}
use Rattle.seg_ops.specs.vm_world.World.{world_seen}
use Rattle.seg_ops.proofs.Composed.{keeps-same}
use Rattle.seg_ops.proofs.NewlyModified.{only-as}
use Rattle.seg_ops.proofs.StillSteps.{memory_of}
use Rattle.seg_map.specs.Served.{ServesReply, ServesWant}
use Rattle.seg_map.proofs.Cuts.{cut_law}
use Rattle.seg_map.proofs.Truncates.{done, fetches, tail-moves}
use Rattle.seg_map.proofs.Waits.{gap-as}
use Rattle.seg_map.proofs.lengths.truncate.Goals as goal

pub make_longer-requires-clause-fits : goal.make_longer-requires-clause-fits
make_longer-requires-clause-fits g c = (c.requires.fits.0, (c.ready_last.ensures.makes.keeps c.requires.fits.0 c.requires.fits.1).memory)

pub returns-in-Some-clause-serves : goal.returns-in-Some-clause-serves
returns-in-Some-clause-serves g c = λ spaces p fits.
    let w = world_seen c.args.world.now in
    let e = ap (λ (i : FileInfo). i.length) c.info.ensures.info in
    let held = c.in-Some.ensures in
    tail-moves w spaces c.args.world.now.pending p c.args.file c.args.end fits c.requires.served c.in-Some.seat (let lt = c.if-end-info.true in omega (arith, lt, e)) held.0 held.1

-- shorter, at once
pub returns-then-end-info-clause-serves : goal.returns-then-end-info-clause-serves
returns-then-end-info-clause-serves g c = λ spaces p fits.
    let w = world_seen c.args.world.now in
    subst (λ (k : ℕ). ServesReply reply.Done (memory_of w spaces) (memory_of (world_seen c.make_shorter.new.world) spaces) c.args.world.now.pending k p (Truncate c.args.file c.args.end) (Ok tt)) (sym (ap (λ v. v.pending) c.make_shorter.ensures.rest))
    (done w spaces c.args.world.now.pending p c.args.file c.args.end fits c.requires.served w (world_seen c.make_shorter.new.world) (keeps-same w spaces fits) (record { modified = λ name frame home m. (home, m); rewritten = λ name frame home m. (home, m) }) refl
    (λ extents grown. c.make_shorter.ensures.shorter spaces fits extents grown)
    (only-as (IsCutPage w c.args.file c.args.end) (λ name. IsGapPage w c.args.file c.args.end name ⊎ IsCutPage w c.args.file c.args.end name) w (world_seen c.make_shorter.new.world) (λ name cut. inr cut) c.make_shorter.ensures.modified))

-- the old last page first
pub returns-in_err-ready_last-clause-serves : goal.returns-in_err-ready_last-clause-serves
returns-in_err-ready_last-clause-serves g c = λ spaces p fits.
    let w = world_seen c.args.world.now in
    let new = world_seen c.ready_last.new.world in
    let makes = c.ready_last.ensures.makes in
    let held = c.in_err-ready_last.ensures.fetches in
    let wanted = fetches w spaces c.args.world.now.pending p c.args.file c.args.end fits c.requires.served new held.0 (makes.keeps spaces fits) makes.modified (ap (λ v. v.files) makes.rest) (ap (λ v. v.anon) makes.rest) makes.names held.1
    c.in_err-ready_last.field-0.0 held.2 (held.3 spaces fits) in
    let is = err_from_is_err_and c.from_residual.result c.from_residual.ensures.1 in
    rw (is.1, is.2) (subst (λ (k : ℕ). ServesWant (memory_of w spaces) (memory_of new spaces) c.args.world.now.pending k p (Truncate c.args.file c.args.end) c.in_err-ready_last.field-0.0) (sym (ap (λ v. v.pending) makes.rest)) wanted)

-- longer, or as long
pub returns-clause-serves : goal.returns-clause-serves
returns-clause-serves g c = λ spaces p fits.
    let w = world_seen c.args.world.now in
    let u = world_seen c.ready_last.new.world in
    let new = world_seen c.make_longer.new.world in
    let makes = c.ready_last.ensures.makes in
    let files = ap (λ v. v.files) makes.rest in
    let e = ap (λ (i : FileInfo). i.length) c.info.ensures.info in
    let le : (vnode_at u.files c.args.file).info.length ≤ c.args.end = subst (λ (s : FilesSeen). (vnode_at s c.args.file).info.length ≤ c.args.end) (sym files) (let ge = c.if-end-info.false in omega (arith, ge, e)) in
    let keeps = makes.keeps spaces fits in
    subst (λ (k : ℕ). ServesReply reply.Done (memory_of w spaces) (memory_of new spaces) c.args.world.now.pending k p (Truncate c.args.file c.args.end) (Ok tt)) (sym (ap (λ v. v.pending) c.make_longer.ensures.rest ∙ ap (λ v. v.pending) makes.rest))
    (done w spaces c.args.world.now.pending p c.args.file c.args.end fits c.requires.served u new keeps makes.modified files
    (λ extents grown. cut_law.longer c.args.file c.args.end extents (memory_of u spaces) (memory_of new spaces) le (c.make_longer.ensures.longer spaces keeps.memory extents grown))
    (only-as (IsGapPage u c.args.file c.args.end) (λ name. IsGapPage w c.args.file c.args.end name ⊎ IsCutPage w c.args.file c.args.end name) u new
    (λ name gap. inl (gap-as u w c.args.file c.args.end name (sym files) gap)) c.make_longer.ensures.modified))
