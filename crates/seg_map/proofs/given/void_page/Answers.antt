use Rattle.std.proofs.Common.{◌≡◌, ap, sym, ◌∙◌, subst}
use Rattle.seg_ops.specs.page_store.Laws.{Aborts}
use Rattle.seg_ops.specs.page_store.Seen.{StoreSeen}
use Rattle.seg_ops.specs.page_store.Steps.{after_abort}
use Rattle.seg_ops.specs.vnode_files.Files.{FilesSeen}
use Rattle.seg_ops.specs.vm_world.FileSteps.{ChangesFile}
use Rattle.seg_ops.specs.vm_world.Serving.{ModifiesNone}
use Rattle.seg_ops.specs.vm_world.World.{World, world_seen, file_name}
use Rattle.seg_ops.proofs.GivenUp.{gives-up}
use Rattle.seg_ops.proofs.StillSteps.{memory_of}
use Rattle.seg_map.specs.Voids.{VoidsPage, files_voided, with_page_void}
use Rattle.seg_map.proofs.Voids.{void-changes, void-modifies, voided, blank-inside}
use Rattle.seg_map.proofs.given.void_page.Given.{Over}
use Rattle.seg_map.proofs.given.void_page.Goals.{After-set_blank}
use Rattle.seg_map.proofs.given.void_page.Goals as goal

same-store : (g : Over) (c : After-set_blank g) → c.unload_page.new.world.store ≡ c.args.world.now.store
same-store g c = ap (λ x. x.store) c.unload_page.ensures.rest

same-files : (g : Over) (c : After-set_blank g) → c.unload_page.new.world.files ≡ c.args.world.now.files
same-files g c = ap (λ x. x.files) c.unload_page.ensures.rest

aborts : (g : Over) (c : After-set_blank g) → Aborts c.args.world.now.store c.abort.new.self (file_name c.args.file c.args.page)
aborts g c = subst (λ (s : StoreSeen). Aborts s c.abort.new.self (file_name c.args.file c.args.page)) (same-store g c) c.abort.ensures.laws

store-is : (g : Over) (c : After-set_blank g) → c.abort.new.self ≡ after_abort c.args.world.now.store (file_name c.args.file c.args.page)
store-is g c = c.abort.ensures.new ∙ ap (λ (s : StoreSeen). after_abort s (file_name c.args.file c.args.page)) (same-store g c)

files-are : (g : Over) (c : After-set_blank g) → c.set_blank.new.self ≡ files_voided c.args.world.now.files c.args.file c.args.page
files-are g c = c.set_blank.ensures.new ∙ ap (λ (f : FilesSeen). files_voided f c.args.file c.args.page) (same-files g c)

pub returns-clause-voids : goal.returns-clause-voids
returns-clause-voids g c = λ spaces fits.
    let w = world_seen c.args.world.now in
    let v : World = record w { store = c.abort.new.self; hat = c.unload_page.new.world.hat; files = c.set_blank.new.self } in
    let same = ap (λ x. record (world_seen x) { store = c.abort.new.self; files = c.set_blank.new.self }) c.unload_page.ensures.rest in
    let voids : VoidsPage w.files c.set_blank.new.self c.args.file c.args.page = subst (λ (f : FilesSeen). VoidsPage w.files f c.args.file c.args.page) (sym (files-are g c)) (voided w.files c.args.file c.args.page c.requires.file fits.files.each (blank-inside w spaces c.args.file c.args.page fits c.requires.file c.requires.exists)) in
    subst (λ (x : World). ChangesFile c.args.file (memory_of w spaces) (memory_of x spaces) (with_page_void c.args.page)) (sym same)
    (void-changes w spaces c.abort.new.self c.unload_page.new.world.hat c.set_blank.new.self c.args.file c.args.page fits c.requires.file c.requires.exists
    (gives-up w.store c.abort.new.self (file_name c.args.file c.args.page) fits.frames.sound (store-is g c) (aborts g c)) c.unload_page.ensures.drops voids)

pub returns-clause-modified : goal.returns-clause-modified
returns-clause-modified g c =
    let w = world_seen c.args.world.now in
    let name = file_name c.args.file c.args.page in
    let same = ap (λ x. record (world_seen x) { store = c.abort.new.self; files = c.set_blank.new.self }) c.unload_page.ensures.rest in
    subst (λ (x : World). ModifiesNone w x) (sym same)
    (void-modifies w c.abort.new.self c.unload_page.new.world.hat c.set_blank.new.self name (gives-up w.store c.abort.new.self name c.requires.fits.1.frames.sound (store-is g c) (aborts g c)) c.unload_page.ensures.drops)
