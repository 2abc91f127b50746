use Rattle.std.proofs.Common.{ℕ, sym, ap, subst}
use Rattle.std.proofs.lemmas.Result.{err_from_is_err_and}
use Rattle.std.specs.Prelude.{Ok}
use Rattle.seg_ops.specs.vm_world.World.{world_seen}
use Rattle.seg_ops.specs.declared.plans.Fault.TheVariants as fault
use Rattle.seg_ops.proofs.StillSteps.{memory_of}
use Rattle.seg_ops.specs.Faults.{ServesFault}
use Rattle.seg_vn.proofs.FaultSteps.{may-show, page-loaded, page-waits}
use Rattle.seg_vn.proofs.faults.fault_page.Goals as goal

pub load_frame-requires-clause-fits : goal.load_frame-requires-clause-fits
load_frame-requires-clause-fits g c = (c.requires.fits.0, (c.in_ok-frame.ensures.brings.0 c.requires.fits.0 c.requires.fits.1).first.step.memory)

pub returns-clause-serves : goal.returns-clause-serves
returns-clause-serves g c = λ spaces x write fits place.
    let old = world_seen c.args.world.now in
    let mid = world_seen c.bring_page.new.world in
    let new = world_seen c.load_frame.new.world in
    let maps = ap (λ v. v.maps) c.bring_page.ensures.rest in
    let anon = ap (λ v. v.anon) c.bring_page.ensures.rest in
    let files = ap (λ v. v.files) c.bring_page.ensures.rest in
    let brings = c.in_ok-frame.ensures.brings.0 spaces fits in
    let may = may-show old mid spaces c.args.space c.args.page x write c.args.writable c.args.world.now.pending c.bring_page.new.world.pending c.args.name fits place maps anon files in
    subst (λ (k : ℕ). ServesFault (memory_of old spaces) (memory_of new spaces) c.args.world.now.pending k c.args.space c.args.page x write (Ok fault.Loaded)) (sym (ap (λ v. v.pending) c.load_frame.ensures.rest))
    (page-loaded old mid spaces c.args.space c.args.page x write c.args.writable c.args.world.now.pending c.bring_page.new.world.pending c.args.name fits place maps anon files new c.in_ok-frame.frame
    brings (c.load_frame.ensures.keeps spaces brings.first.step.memory may) c.load_frame.ensures.names c.load_frame.ensures.modified (ap (λ v. v.maps) c.load_frame.ensures.rest) (ap (λ v. v.anon) c.load_frame.ensures.rest) c.load_frame.ensures.loaded)

pub returns-in_err-frame-clause-serves : goal.returns-in_err-frame-clause-serves
returns-in_err-frame-clause-serves g c = λ spaces x write fits place.
    let wanted = page-waits (world_seen c.args.world.now) (world_seen c.bring_page.new.world) spaces c.args.space c.args.page x write c.args.writable c.args.world.now.pending c.bring_page.new.world.pending c.args.name fits place
    (ap (λ v. v.maps) c.bring_page.ensures.rest) (ap (λ v. v.anon) c.bring_page.ensures.rest) (ap (λ v. v.files) c.bring_page.ensures.rest) c.in_err-frame.field-0.0 (c.in_err-frame.ensures.brings spaces fits) in
    let is = err_from_is_err_and c.from_residual.result c.from_residual.ensures.1 in
    rw (is.1, is.2) wanted
