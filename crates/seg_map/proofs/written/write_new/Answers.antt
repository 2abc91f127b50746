use Rattle.std.proofs.Common.{◌≡◌, ◌+◌, ◌<◌, ◌≤◌, ◌==◌, ℕ, List, length, Option, Ok, sym, ap, ◌∙◌, subst, arith}
use Rattle.std.proofs.lemmas.Bool.{eqb-true}
use Rattle.std.specs.Prelude.{IsTrue, IsSome, is_some, IfSome}
use Rattle.seg_ops.specs.page_hash.Names.{is_name}
use Rattle.seg_ops.specs.page_hash.declared.PageName.{PageName}
use Rattle.seg_ops.specs.page_store.Seen.{IsListedFrame, residence}
use Rattle.seg_ops.specs.page_store.Steps.{next_name}
use Rattle.seg_ops.specs.page_store.declared.residence.Residence.TheVariants.{Home}
use Rattle.seg_ops.specs.vm_types.declared.call.Call.TheVariants.{Write}
use Rattle.seg_ops.specs.vm_types.declared.call.Reply.TheVariants as reply
use Rattle.seg_ops.specs.vnode_files.declared.extent.Extent.{Extent}
use Rattle.seg_ops.specs.vnode_files.Files.{FilesSeen, vnode_at}
use Rattle.seg_ops.specs.flat_model.Parts.{longer_file}
use Rattle.seg_ops.specs.flat_model.Words.{page, pages_in}
use Rattle.seg_ops.specs.vm_world.MemoryFits.{MemoryFits}
use Rattle.seg_ops.specs.vm_world.Segments.{Spaces}
use Rattle.seg_ops.specs.vm_world.Serving.{ModifiesOnly}
use Rattle.seg_ops.specs.vm_world.StateSteps.{PendsTails}
use Rattle.seg_ops.specs.vm_world.Wants.{IsGapPage}
use Rattle.seg_ops.specs.vm_world.World.{world_seen, file_name}
use Rattle.seg_ops.specs.vm_world.WorldSteps.{WorldStep, stays}
use Rattle.seg_ops.proofs.Disks.{dirty-exists}
use Rattle.seg_ops.proofs.NewlyModified.{none-of}
use Rattle.seg_ops.proofs.StillSteps.{memory_of}
use Rattle.seg_ops.proofs.vm_world.FileCalls.{file_calls_law}
use Rattle.seg_map.specs.Longer.{GrowsInto, IsHomeUnlisted, IsLastReady}
use Rattle.seg_map.specs.Served.{ServesReply, ServesWant}
use Rattle.seg_map.proofs.ReadParts.{below-exists}
use Rattle.seg_map.proofs.Readies.{unpushed-is}
use Rattle.seg_map.proofs.WriteParts.{frame-waits, pends-on, served-as, writes-new}
use Rattle.seg_map.proofs.NewPages.{IsLonger, absent-old, grows-there, last-freed, longer-is, taken}
use Rattle.seg_map.proofs.written.write_new.Given.{Over}
use Rattle.seg_map.proofs.written.write_new.Goals.{After-make_room_behind, After-free_next, After-make_longer, After-fill_page}
use Rattle.seg_map.proofs.written.write_new.Goals as goal

-- memory fits as room is made, as the next frame is freed, and as the file is longer
fits-room : (g : Over) (c : After-make_room_behind g) (spaces : Spaces) → MemoryFits (memory_of (world_seen c.args.world.now) spaces) → MemoryFits (memory_of (world_seen c.make_room_behind.new.world) spaces)
fits-room g c spaces fits = (c.make_room_behind.ensures.makes.keeps spaces fits).memory

fits-freed : (g : Over) (c : After-free_next g) (spaces : Spaces) → MemoryFits (memory_of (world_seen c.args.world.now) spaces) → MemoryFits (memory_of (world_seen c.free_next.new.world) spaces)
fits-freed g c spaces fits = (c.free_next.ensures.pages spaces (c.make_room_behind.ensures.makes.keeps spaces fits).memory).memory

files-freed : (g : Over) (c : After-free_next g) → c.free_next.new.world.files ≡ c.args.world.now.files
files-freed g c = ap (λ v. v.files) c.free_next.ensures.rest ∙ ap (λ v. v.files) c.make_room_behind.ensures.makes.rest

longer : (g : Over) (c : After-make_longer g) → IsLonger (world_seen c.make_room_behind.new.world) (world_seen c.free_next.new.world) (world_seen c.make_longer.new.world) c.args.file c.args.offset c.args.end
longer g c =
    longer-is (world_seen c.args.world.now) (world_seen c.make_room_behind.new.world) (world_seen c.free_next.new.world) (world_seen c.make_longer.new.world) c.requires.fits.0 c.args.file c.args.offset c.args.end (length c.args.line.now)
    c.requires.fits.1 c.requires.served c.requires.past c.requires.end c.requires.line.some (ap (λ v. v.files) c.free_next.ensures.rest ∙ ap (λ v. v.files) c.make_room_behind.ensures.makes.rest)
    c.make_room_behind.ensures.makes.stay c.free_next.ensures.absent c.make_longer.ensures.stay c.make_longer.ensures.lists c.make_longer.ensures.names c.free_next.ensures.same c.free_next.ensures.free c.make_longer.ensures.sets

fits-long : (g : Over) (c : After-make_longer g) (spaces : Spaces) → MemoryFits (memory_of (world_seen c.args.world.now) spaces) → MemoryFits (memory_of (world_seen c.make_longer.new.world) spaces)
fits-long g c spaces fits =
    let l = longer g c in
    (c.make_longer.ensures.longer spaces (c.free_next.ensures.pages spaces (c.make_room_behind.ensures.makes.keeps spaces fits).memory).memory l.extents l.grown).memory

pub make_room_behind-requires-clause-file : goal.make_room_behind-requires-clause-file
make_room_behind-requires-clause-file g c = (file_calls_law.room c.args.world.now.files c.args.file c.args.end c.requires.served).there

pub ask-requires-clause-fits : goal.ask-requires-clause-fits
ask-requires-clause-fits g c = (c.requires.fits.0, (c.make_room_behind.ensures.makes.keeps c.requires.fits.0 c.requires.fits.1).memory)

pub ask-requires-clause-exists : goal.ask-requires-clause-exists
ask-requires-clause-exists g c =
    dirty-exists (world_seen c.make_room_behind.new.world) c.requires.fits.0 c.in-Some.victim (c.make_room_behind.ensures.makes.keeps c.requires.fits.0 c.requires.fits.1).memory c.in-Some.ensures.room.1

pub free_next-requires : goal.free_next-requires
free_next-requires g c = record { fits = (c.requires.fits.0, (c.make_room_behind.ensures.makes.keeps c.requires.fits.0 c.requires.fits.1).memory) }

pub make_longer-requires-clause-file : goal.make_longer-requires-clause-file
make_longer-requires-clause-file g c =
    subst (λ (s : FilesSeen). c.args.file < length s.files) (sym (files-freed g (goal.at.make_longer-requires-clause-file g c).After-free_next)) (file_calls_law.room c.args.world.now.files c.args.file c.args.end c.requires.served).there

pub make_longer-requires-clause-longer : goal.make_longer-requires-clause-longer
make_longer-requires-clause-longer g c =
    let past = c.requires.past in let end = c.requires.end in
    subst (λ (s : FilesSeen). (vnode_at s c.args.file).info.length ≤ c.args.end) (sym (files-freed g (goal.at.make_longer-requires-clause-longer g c).After-free_next)) (omega (arith, past, end))

pub make_longer-requires-clause-room : goal.make_longer-requires-clause-room
make_longer-requires-clause-room g c =
    let e = grows-there c.args.world.now.files c.free_next.new.world.files c.args.file c.args.end (files-freed g (goal.at.make_longer-requires-clause-room g c).After-free_next) c.requires.served in
    ap (λ (o : Option (List Extent)). is_some o) e.1

pub make_longer-requires-clause-last : goal.make_longer-requires-clause-last
make_longer-requires-clause-last g c =
    let at = goal.at.make_longer-requires-clause-last g c in
    let makes = c.make_room_behind.ensures.makes in
    let rest = c.free_next.ensures.rest in
    last-freed (world_seen c.args.world.now) (world_seen c.make_room_behind.new.world) (world_seen c.free_next.new.world) c.args.file c.args.end c.requires.fits.0 (fits-room g at.After-make_room_behind c.requires.fits.0 c.requires.fits.1)
    (fits-freed g at.After-free_next c.requires.fits.0 c.requires.fits.1) (ap (λ v. v.files) makes.rest) (ap (λ v. v.anon) makes.rest) (ap (λ v. v.files) rest) (ap (λ v. v.anon) rest) makes.stay c.make_room_behind.ensures.unlisted
    c.free_next.ensures.homes c.free_next.ensures.lists c.free_next.ensures.absent c.requires.last

pub make_longer-requires-clause-fits : goal.make_longer-requires-clause-fits
make_longer-requires-clause-fits g c = (c.requires.fits.0, fits-freed g (goal.at.make_longer-requires-clause-fits g c).After-free_next c.requires.fits.0 c.requires.fits.1)

pub fill_page-requires-clause-exists : goal.fill_page-requires-clause-exists
fill_page-requires-clause-exists g c =
    let l = longer g (goal.at.fill_page-requires-clause-exists g c).After-make_longer in
    below-exists (world_seen c.make_longer.new.world) c.args.file (page c.args.offset) l.far (subst (λ (n : ℕ). page c.args.offset < pages_in n) (sym l.sets.length_is) l.below)

pub fill_page-requires-clause-blank : goal.fill_page-requires-clause-blank
fill_page-requires-clause-blank g c =
    let at = goal.at.fill_page-requires-clause-blank g c in
    let l = longer g at.After-make_longer in
    unpushed-is (world_seen c.make_longer.new.world) c.args.file (page c.args.offset) l.far
    ∙ l.sets.new_blanks (page c.args.offset) (subst (λ (s : FilesSeen). pages_in (vnode_at s c.args.file).info.length ≤ page c.args.offset) (sym (files-freed g at.After-free_next)) c.requires.past) l.below

pub fill_page-requires-clause-absent : goal.fill_page-requires-clause-absent
fill_page-requires-clause-absent g c = (longer g (goal.at.fill_page-requires-clause-absent g c).After-make_longer).absent

pub fill_page-requires-clause-available : goal.fill_page-requires-clause-available
fill_page-requires-clause-available g c =
    subst (λ (o : Option ℕ). IsSome o) (sym (longer g (goal.at.fill_page-requires-clause-available g c).After-make_longer).next) c.in_default.ensures.room

pub fill_page-requires-clause-fits : goal.fill_page-requires-clause-fits
fill_page-requires-clause-fits g c = (c.requires.fits.0, fits-long g (goal.at.fill_page-requires-clause-fits g c).After-make_longer c.requires.fits.0 c.requires.fits.1)

pub put_line-requires-clause-file : goal.put_line-requires-clause-file
put_line-requires-clause-file g c =
    subst (λ (s : FilesSeen). c.args.file < length s.files) (sym (ap (λ v. v.files) c.fill_page.ensures.rest)) (longer g (goal.at.put_line-requires-clause-file g c).After-make_longer).there

-- the page is home then in a frame on no list
at-home : (g : Over) (c : After-fill_page g) → IsHomeUnlisted (world_seen c.fill_page.new.world) (file_name c.args.file (page c.args.offset))
at-home g c =
    let l = longer g (goal.at.After-fill_page g c).After-make_longer in
    let t = taken (world_seen c.make_room_behind.new.world) (world_seen c.make_longer.new.world) (world_seen c.fill_page.new.world) (file_name c.args.file (page c.args.offset)) l.next c.in_default.ensures.room c.fill_page.ensures.home
    c.fill_page.ensures.unlisted in
    (t.0, t.2, t.3)

pub put_line-requires-clause-unlisted : goal.put_line-requires-clause-unlisted
put_line-requires-clause-unlisted g c =
    let h = at-home g (goal.at.put_line-requires-clause-unlisted g c).After-fill_page in
    subst (λ (k : ℕ). ¬ IsListedFrame c.fill_page.new.world.store k) (let z : Home h.0 ≡ Home c.in-Home.frame = sym h.1 ∙ sym c.in-Home.ensures.residence in cc) h.2

pub put_line-requires-clause-fits : goal.put_line-requires-clause-fits
put_line-requires-clause-fits g c =
    (c.requires.fits.0, (c.fill_page.ensures.pages c.requires.fits.0 (fits-long g (goal.at.put_line-requires-clause-fits g c).After-make_longer c.requires.fits.0 c.requires.fits.1)).memory)

pub returns-in-Some-clause-serves : goal.returns-in-Some-clause-serves
returns-in-Some-clause-serves g c = λ spaces p rest fits.
    let w = world_seen c.args.world.now in
    let new = world_seen c.make_room_behind.new.world in
    let n = c.args.offset + length c.args.line.now in
    let makes = c.make_room_behind.ensures.makes in
    let room = c.in-Some.ensures.room in
    subst (λ (k : ℕ). ServesWant (memory_of w spaces) (memory_of new spaces) c.args.world.now.pending k p (Write c.args.file c.args.offset c.args.line.now rest) c.ask.result) (sym (ap (λ v. v.pending) makes.rest))
    (frame-waits w spaces c.args.world.now.pending p c.args.file c.args.offset rest c.args.line.now fits c.requires.line (served-as w.files c.args.file c.args.end n c.requires.end c.requires.served)
    new c.in-Some.victim c.ask.result (makes.keeps spaces fits) makes.modified (ap (λ v. v.files) makes.rest) makes.stay (absent-old w spaces c.args.file (page c.args.offset) c.args.end fits c.requires.served c.requires.past) (subst (IsLastReady w c.args.file) c.requires.end c.requires.last)
    (λ m frame gap home l. c.make_room_behind.ensures.unlisted frame (ap (residence w.store) (sym gap.last) ∙ home) l) room.0 room.1 c.ask.ensures)

pub returns-clause-serves : goal.returns-clause-serves
returns-clause-serves g c = λ spaces p rest fits.
    let at = goal.at.returns-clause-serves g c in
    let w = world_seen c.args.world.now in
    let room = world_seen c.make_room_behind.new.world in
    let freed = world_seen c.free_next.new.world in
    let long = world_seen c.make_longer.new.world in
    let filled = world_seen c.fill_page.new.world in
    let new = world_seen c.put_line.new.world in
    let name = file_name c.args.file (page c.args.offset) in
    let n = c.args.offset + length c.args.line.now in
    let l = longer g at.After-make_longer in
    let makes = c.make_room_behind.ensures.makes in
    let keeps = makes.keeps spaces fits in
    let freed-fits = fits-freed g at.After-free_next spaces fits in
    let long-fits = fits-long g at.After-make_longer spaces fits in
    let more = c.fill_page.new.world.pending in
    let grows : GrowsInto (memory_of freed spaces) (memory_of long spaces) c.args.file n (longer_file n) =
    subst (λ (k : ℕ). GrowsInto (memory_of freed spaces) (memory_of long spaces) c.args.file k (longer_file k)) c.requires.end (c.make_longer.ensures.longer spaces freed-fits) in
    let gap : ModifiesOnly (IsGapPage freed c.args.file n) freed long = subst (λ (k : ℕ). ModifiesOnly (IsGapPage freed c.args.file k) freed long) c.requires.end c.make_longer.ensures.modified in
    let second : PendsTails long (is_name (next_name long.store)) c.free_next.new.world.pending more =
    subst (λ (k : ℕ). PendsTails long (is_name (next_name long.store)) k more) (ap (λ v. v.pending) c.make_longer.ensures.rest) c.fill_page.ensures.taken.tails in
    let first : PendsTails room (is_name (next_name room.store)) c.args.world.now.pending c.free_next.new.world.pending =
    subst (λ (k : ℕ). PendsTails room (is_name (next_name room.store)) k c.free_next.new.world.pending) (ap (λ v. v.pending) makes.rest) c.free_next.ensures.taken.tails in
    let count : length long.files.files ≡ length room.files.files = l.sets.count ∙ ap (λ v. length v.files.files) c.free_next.ensures.rest in
    let t = taken room long filled name l.next c.in_default.ensures.room c.fill_page.ensures.home c.fill_page.ensures.unlisted in
    subst (λ (k : ℕ). ServesReply reply.Done (memory_of w spaces) (memory_of new spaces) c.args.world.now.pending k p (Write c.args.file c.args.offset c.args.line.now rest) (Ok tt)) (sym (ap (λ v. v.pending) c.put_line.ensures.rest))
    (writes-new w spaces c.args.world.now.pending p c.args.file c.args.offset rest c.args.line.now fits c.requires.line (served-as w.files c.args.file c.args.end n c.requires.end c.requires.served) room freed long filled new more
    keeps makes.names makes.modified (ap (λ v. v.files) makes.rest) (makes.stay name ∙ absent-old w spaces c.args.file (page c.args.offset) c.args.end fits c.requires.served c.requires.past)
    (c.free_next.ensures.pages spaces keeps.memory) (pends-on room long (is_name (next_name room.store)) c.args.world.now.pending c.free_next.new.world.pending more first second l.free count) c.free_next.ensures.taken.lost
    c.free_next.ensures.modified (ap (λ v. v.files) c.free_next.ensures.rest) grows gap l.there
    (λ m. subst (λ (o : Option PageName). WorldStep long filled spaces stays (is_name o)) l.free (c.fill_page.ensures.pages spaces m))
    (none-of (λ other. (other ≡ name) × IsTrue (c.args.file == 64)) long filled (λ other is. l.far (eqb-true c.args.file 64 is.1)) c.fill_page.ensures.modified)
    (c.put_line.ensures.puts spaces (c.fill_page.ensures.pages spaces long-fits).memory) c.put_line.ensures.modified
    (subst (λ (o : Option ℕ). IfSome o (λ (frame : ℕ). residence new.store name ≡ Home frame)) (sym t.1) (c.put_line.ensures.stay name ∙ t.2)))
