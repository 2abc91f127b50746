use Rattle.std.proofs.Common.{◌≡◌, ◌≢◌, ◌-◌, ◌%◌, ℕ, List, refl, sym, ap, ◌∙◌, subst, arith, inr}
use Rattle.std.specs.Prelude.{replicate}
use Rattle.seg_ops.specs.page_store.Seen.{residence}
use Rattle.seg_ops.specs.vnode_files.declared.vnode.FileInfo.{FileInfo}
use Rattle.seg_ops.specs.vnode_files.Files.{vnode_at}
use Rattle.seg_ops.specs.flat_model.Words.{page}
use Rattle.seg_ops.specs.vm_world.FileSteps.{ChangesFile}
use Rattle.seg_ops.specs.vm_world.Wants.{IsGapPage}
use Rattle.seg_ops.specs.vm_world.World.{World, world_seen, file_name}
use Rattle.seg_ops.proofs.NewlyModified.{only-as, only-same}
use Rattle.seg_ops.proofs.StillSteps.{memory_of}
use Rattle.seg_map.specs.Ends.{IsReadyPage}
use Rattle.seg_map.specs.Longer.{MayLengthen}
use Rattle.seg_map.specs.Puts.{with_bytes_in}
use Rattle.seg_map.specs.Wholes.{gap_zeros}
use Rattle.seg_map.proofs.Lengthens.{gap-absent, gap-unlisted, none-lengthens, put-lengthens}
use Rattle.seg_map.proofs.longer.put_gap.Given.{Over}
use Rattle.seg_map.proofs.longer.put_gap.Goals.{After-info}
use Rattle.seg_map.proofs.longer.put_gap.Goals as goal

-- the file's length
len-is : (g : Over) (c : After-info g) → c.info.result.now.length ≡ (vnode_at c.args.world.now.files c.args.file).info.length
len-is g c = ap (λ (i : FileInfo). i.length) c.info.ensures.info

pub returns-then-end-length-clause-may : goal.returns-then-end-length-clause-may
returns-then-end-length-clause-may g c = λ spaces fits.
    let w = world_seen c.args.world.now in
    none-lengthens w spaces c.args.file c.args.end fits c.requires.file c.requires.longer (λ name gap. absurd (let more = gap.longer in let e = len-is g (goal.at.returns-then-end-length-clause-may g c).After-info in let same = c.if-end-length.true in omega (arith, more, e, same)))

pub returns-then-tail-eq0-clause-may : goal.returns-then-tail-eq0-clause-may
returns-then-tail-eq0-clause-may g c = λ spaces fits.
    let w = world_seen c.args.world.now in
    none-lengthens w spaces c.args.file c.args.end fits c.requires.file c.requires.longer (λ name gap. absurd (gap.tail (let e = len-is g (goal.at.returns-then-tail-eq0-clause-may g c).After-info in ap (λ (l : ℕ). l % 4096) (sym e) ∙ c.if-tail-eq0.true)))

pub put_zeros-requires-clause-unlisted : goal.put_zeros-requires-clause-unlisted
put_zeros-requires-clause-unlisted g c =
    let w = world_seen c.args.world.now in
    let e = len-is g (goal.at.put_zeros-requires-clause-unlisted g c).After-info in
    let tail : (vnode_at w.files c.args.file).info.length % 4096 ≢ 0 = subst (λ (l : ℕ). l % 4096 ≢ 0) e c.if-tail-eq0.false in
    gap-unlisted w c.args.file c.args.end (file_name c.args.file (page c.info.result.now.length)) c.in-Home.frame c.requires.last
    (record { longer = (let le = c.requires.longer in let ne = c.if-end-length.false in omega (arith, le, ne, e)); tail = tail; last = ap (λ (l : ℕ). file_name c.args.file (page l)) e })
    (sym c.in-Home.ensures.residence)

pub returns-in-Home-clause-may : goal.returns-in-Home-clause-may
returns-in-Home-clause-may g c = λ spaces fits.
    let w = world_seen c.args.world.now in
    let v = world_seen c.put_zeros.new.world in
    let s = c.put_zeros.new.world.store in
    let f = c.args.file in
    let n = c.args.end in
    let l = c.info.result.now.length in
    let e = len-is g (goal.at.returns-in-Home-clause-may g c).After-info in
    let new : v ≡ record w { store = s } = ap world_seen c.put_zeros.ensures.rest in
    let zeros : replicate (c.min-to.result - l % 4096) 0 ≡ gap_zeros l n = ap (λ (b : ℕ). replicate (b - l % 4096) 0) (let e = c.min-to.ensures in omega (arith, e)) in
    let put : ChangesFile f (memory_of w spaces) (memory_of v spaces) (with_bytes_in (page l) (l % 4096) (gap_zeros l n)) =
    subst (λ (z : List ℕ). ChangesFile f (memory_of w spaces) (memory_of v spaces) (with_bytes_in (page l) (l % 4096) z)) zeros (c.put_zeros.ensures.puts spaces fits) in
    subst (λ (x : World). MayLengthen (memory_of w spaces) (memory_of x spaces) f n) (sym new)
    (put-lengthens w spaces f n fits c.requires.file c.requires.longer s (ap (λ x. x.names) c.put_zeros.ensures.store)
    (subst (λ (k : ℕ). IsReadyPage (record w { store = s }) (file_name f (page k))) e (subst (λ (x : World). IsReadyPage x (file_name f (page l))) new c.put_zeros.ensures.ready))
    (subst (λ (k : ℕ). ChangesFile f (memory_of w spaces) (memory_of (record w { store = s }) spaces) (with_bytes_in (page k) (k % 4096) (gap_zeros k n))) e
    (subst (λ (x : World). ChangesFile f (memory_of w spaces) (memory_of x spaces) (with_bytes_in (page l) (l % 4096) (gap_zeros l n))) new put)))

pub returns-then-end-length-clause-modified : goal.returns-then-end-length-clause-modified
returns-then-end-length-clause-modified g c = only-same (IsGapPage (world_seen c.args.world.now) c.args.file c.args.end) (world_seen c.args.world.now)

pub returns-then-tail-eq0-clause-modified : goal.returns-then-tail-eq0-clause-modified
returns-then-tail-eq0-clause-modified g c = only-same (IsGapPage (world_seen c.args.world.now) c.args.file c.args.end) (world_seen c.args.world.now)

pub returns-in-Home-clause-modified : goal.returns-in-Home-clause-modified
returns-in-Home-clause-modified g c =
    let w = world_seen c.args.world.now in
    let e = len-is g (goal.at.returns-in-Home-clause-modified g c).After-info in
    only-as (λ m. m ≡ file_name c.args.file (page c.info.result.now.length)) (IsGapPage w c.args.file c.args.end) w (world_seen c.put_zeros.new.world)
    (λ m is. record { longer = (let le = c.requires.longer in let ne = c.if-end-length.false in omega (arith, le, ne, e)); tail = subst (λ (l : ℕ). l % 4096 ≢ 0) e c.if-tail-eq0.false; last = is ∙ ap (λ (l : ℕ). file_name c.args.file (page l)) e })
    c.put_zeros.ensures.modified

pub returns-in_default : goal.returns-in_default
returns-in_default g c =
    let w = world_seen c.args.world.now in
    let e = len-is g (goal.at.returns-in_default g c).After-info in
    record {
      may = λ spaces fits. none-lengthens w spaces c.args.file c.args.end fits c.requires.file c.requires.longer
          (gap-absent w c.args.file c.args.end c.requires.last (λ gap frame home. c.in_default.not-Home frame (c.resident.ensures.residence ∙ ap (λ (l : ℕ). residence w.store (file_name c.args.file (page l))) e ∙ home)));
      rest = refl;
      stay = λ name. refl;
      names = refl;
      lists = (refl, refl);
      modified = only-same _ w;
    }
