use Rattle.std.proofs.Common.{◌≡◌, ◌-◌, ◌%◌, ℕ, List, sym, ap, ◌∙◌, subst}
use Rattle.std.specs.Prelude.{replicate}
use Rattle.seg_ops.specs.page_store.Seen.{residence}
use Rattle.seg_ops.specs.flat_model.Words.{page}
use Rattle.seg_ops.specs.vm_world.FileSteps.{ChangesFile}
use Rattle.seg_ops.specs.vm_world.Wants.{IsCutPage}
use Rattle.seg_ops.specs.vm_world.Words.{KeepsPages}
use Rattle.seg_ops.specs.vm_world.World.{World, world_seen, file_name}
use Rattle.seg_ops.proofs.NewlyModified.{none-then, only-as, only-same}
use Rattle.seg_ops.proofs.StillSteps.{memory_of}
use Rattle.seg_map.specs.Ends.{IsReadyPage}
use Rattle.seg_map.specs.Puts.{with_bytes_in}
use Rattle.seg_map.specs.Shorter.{MayShorten}
use Rattle.seg_map.proofs.Shortens.{none-shortens, not-held, put-shortens}
use Rattle.seg_map.proofs.shorter.put_tail.Given.{Over}
use Rattle.seg_map.proofs.shorter.put_tail.Goals.{After-put_zeros}
use Rattle.seg_map.proofs.shorter.put_tail.Goals as goal

pub returns-then-tail-eq0-clause-may : goal.returns-then-tail-eq0-clause-may
returns-then-tail-eq0-clause-may g c = λ spaces fits.
    none-shortens (world_seen c.args.world.now) spaces c.args.file c.args.end fits c.requires.file c.requires.shorter c.requires.none (λ name cut. absurd (cut.tail c.if-tail-eq0.true))

pub returns-in_default-clause-may : goal.returns-in_default-clause-may
returns-in_default-clause-may g c = λ spaces fits.
    let w = world_seen c.args.world.now in
    let name = file_name c.args.file (page c.args.end) in
    none-shortens w spaces c.args.file c.args.end fits c.requires.file c.requires.shorter c.requires.none
    (λ m cut. not-held w.store m fits.frames.sound (λ frame home. c.in_default.not-Home frame (c.resident.ensures.residence ∙ ap (residence w.store) (sym cut.last) ∙ home)) (c.requires.still m cut))

-- the world as the page is on no list, and as the zeros are put
mid : (g : Over) (c : After-put_zeros g) → world_seen c.take_back.new.world ≡ record (world_seen c.args.world.now) { store = c.take_back.new.world.store }
mid g c = ap world_seen c.take_back.ensures.rest

new : (g : Over) (c : After-put_zeros g) → world_seen c.put_zeros.new.world ≡ record (world_seen c.args.world.now) { store = c.put_zeros.new.world.store }
new g c = ap world_seen c.put_zeros.ensures.rest ∙ ap (λ v. record (world_seen v) { store = c.put_zeros.new.world.store }) c.take_back.ensures.rest

pub returns-in-Home-clause-may : goal.returns-in-Home-clause-may
returns-in-Home-clause-may g c = λ spaces fits.
    let d = (goal.at.returns-in-Home-clause-may g c).After-put_zeros in
    let w = world_seen c.args.world.now in
    let m = c.take_back.new.world.store in
    let s = c.put_zeros.new.world.store in
    let name = file_name c.args.file (page c.args.end) in
    let zeros : List ℕ = replicate (4096 - c.args.end % 4096) 0 in
    let fits' = (c.take_back.ensures.keeps spaces fits).memory in
    subst (λ (v : World). MayShorten (memory_of w spaces) (memory_of v spaces) c.args.file c.args.end) (sym (new g d))
    (put-shortens w spaces c.args.file c.args.end fits c.requires.file c.requires.shorter m s c.in-Home.frame c.requires.none
    (subst (λ (v : World). KeepsPages w v spaces) (mid g d) (c.take_back.ensures.keeps spaces fits)) c.take_back.ensures.names
    (c.take_back.ensures.stay name ∙ sym c.in-Home.ensures.residence) c.put_zeros.ensures.store (subst (λ (v : World). IsReadyPage v name) (new g d) c.put_zeros.ensures.ready)
    (subst (λ (v : World). ChangesFile c.args.file (memory_of (record w { store = m }) spaces) (memory_of v spaces) (with_bytes_in (page c.args.end) (c.args.end % 4096) zeros)) (new g d)
    (subst (λ (u : World). ChangesFile c.args.file (memory_of u spaces) (memory_of (world_seen c.put_zeros.new.world) spaces) (with_bytes_in (page c.args.end) (c.args.end % 4096) zeros)) (mid g d) (c.put_zeros.ensures.puts spaces fits'))))

pub returns-then-tail-eq0-clause-modified : goal.returns-then-tail-eq0-clause-modified
returns-then-tail-eq0-clause-modified g c = only-same (IsCutPage (world_seen c.args.world.now) c.args.file c.args.end) (world_seen c.args.world.now)

pub returns-in_default-clause-modified : goal.returns-in_default-clause-modified
returns-in_default-clause-modified g c = only-same (IsCutPage (world_seen c.args.world.now) c.args.file c.args.end) (world_seen c.args.world.now)

pub returns-in-Home-clause-modified : goal.returns-in-Home-clause-modified
returns-in-Home-clause-modified g c =
    let w = world_seen c.args.world.now in
    let name = file_name c.args.file (page c.args.end) in
    none-then (IsCutPage w c.args.file c.args.end) w (world_seen c.take_back.new.world) (world_seen c.put_zeros.new.world) c.take_back.ensures.modified
    (only-as (λ n. n ≡ name) (IsCutPage w c.args.file c.args.end) (world_seen c.take_back.new.world) (world_seen c.put_zeros.new.world)
    (λ n is. record { shorter = c.requires.shorter; tail = c.if-tail-eq0.false; last = is }) c.put_zeros.ensures.modified)

pub put_zeros-requires-clause-fits : goal.put_zeros-requires-clause-fits
put_zeros-requires-clause-fits g c = (c.requires.fits.0, (c.take_back.ensures.keeps c.requires.fits.0 c.requires.fits.1).memory)
