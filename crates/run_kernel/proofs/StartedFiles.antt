-- The files of a run lie on its disks as a kernel asks for them.
use Rattle.std.proofs.Common.{◌≡◌, ℕ, ◌<◌, ◌≤◌, List, [], ◌∷◌, length, Option, refl, sym, ap, ◌∙◌, subst, arith}
use Rattle.std.specs.Prelude.{IsSome, slice_index_or}
use Rattle.std.specs.FinMap as finite
use Rattle.std.specs.Ordering.{nat_cmp}
use Rattle.std.specs.List.{AllByRecursion}
use Rattle.std.proofs.lemmas.List.{length-map, get_or-map}
use Rattle.std.proofs.lemmas.List.Elements.{recursion_from_All}
use Rattle.std.proofs.lemmas.Option.{slice_get-get_or}
use Rattle.volume_files.specs.block_device.DiskSeen.{DiskSeen}
use Rattle.volume_files.specs.block_device.declared.rack.Spec.{Spec}
use Rattle.volume_files.specs.vnode_files.declared.extent.Extent.{Extent}
use Rattle.volume_files.specs.vnode_files.declared.vnode.FileInfo.{FileInfo}
use Rattle.volume_files.specs.vnode_files.Files.{FilesSeen, vnode_at}
use Rattle.volume_files.specs.vnode_files.Grow.{page_count}
use Rattle.volume_files.specs.vnode_files.Vnode.{VnodeSeen, fresh_vnode, no_vnode}
use Rattle.volume_files.specs.volume_format.Table.{no_entry}
use Rattle.vm_core.specs.Setup.{FilesOnDisks}
use Rattle.volume_files.specs.vm_script.PlanSeen.{PlanSeen}
use Rattle.volume_files.specs.Attached.{AttachedSeen, ArePlaced}
use Rattle.volume_files.specs.Opened.{OpenedFile, infos_of, setup_volumes}
use Rattle.volume_files.specs.Placing.{HasOpened}
use Rattle.volume_files.specs.stored_files.Written.{disk_sizes}
use Rattle.volume_files.proofs.DiskLists.{at-map}
use Rattle.volume_files.proofs.AllPlaced.{no_opened, set-disk}
use Rattle.printed_traces.proofs.FilesTold.{few-blocks}
use Rattle.volume_files.proofs.FileLineLemmas.{length-made}
use Rattle.volume_files.proofs.PlacedLemmas.{at_index}

-- each file has an extent
pages_some : (es : List Extent) → 1 ≤ page_count es → 1 ≤ length es
pages_some [] some = absurd (omega (arith, some))
pages_some (e ∷ es) some = omega arith

some-extents : (made : FilesSeen) (after : List OpenedFile) → HasOpened made after → AllByRecursion (λ (f : OpenedFile). 1 ≤ page_count f.info.extents) after
    → (file : ℕ) → file < length made.files → 1 ≤ length (vnode_at made file).info.extents
some-extents made after has kept file below =
    let infos = infos_of after in
    let count : length made.files ≡ length after = length-made made after has in
    let inside : file < length after = omega (arith, below, count) in
    let within : file < length infos = omega (arith, inside, length-map after (λ (f : OpenedFile). f.info)) in
    let same : (vnode_at made file).info ≡ (slice_index_or after file no_opened).info =
    ap (λ (v : VnodeSeen). v.info) (ap (λ (vs : List VnodeSeen). slice_index_or vs file no_vnode) has ∙ get_or-map fresh_vnode infos file no_entry no_vnode within)
    ∙ get_or-map (λ (f : OpenedFile). f.info) after file no_opened no_entry inside in
    subst (λ (i : FileInfo). 1 ≤ length i.extents) (sym same)
    (pages_some (slice_index_or after file no_opened).info.extents (at_index (λ (f : OpenedFile). 1 ≤ page_count f.info.extents) after file no_opened kept inside))

pub files-lie : (plan : PlanSeen) (holds : Spec → Option (List (List ℕ))) (files : List OpenedFile) (a : AttachedSeen) (made : FilesSeen) → ArePlaced plan holds files a made
    → FilesOnDisks made a.disks
files-lie plan holds files a made p = record {
  set = λ file below.
      let v = vnode_at made file in
      let t = p.have.there file v (slice_get-get_or made.files file no_vnode below) in
      subst (λ (o : Option ℕ). IsSome o) (sym (p.have.sizes t.0 (v.info.disk, t.1) t.2)) refl;
  there = λ n b is.
      let r = set-disk a.disks n b (ap (λ (t : finite.FinMap nat_cmp ℕ). finite.get t n) (sym p.sizes) ∙ is) in
      record { place = r.0; disk = r.1; there = r.2; size = r.3 };
  all = λ place number disk at. subst (λ (o : Option ℕ). IsSome o) (sym (p.have.sizes place (number, disk) at)) refl;
  small = λ n b is.
      let r = set-disk a.disks n b (ap (λ (t : finite.FinMap nat_cmp ℕ). finite.get t n) (sym p.sizes) ∙ is) in
      let few = few-blocks holds (setup_volumes plan.setup) (disk_sizes a.disks) p.given.tables p.given.read r.0 (n, r.1.size) (at-map (λ (d : ℕ × DiskSeen). (d.0, d.1.size)) a.disks r.0 (n, r.1) r.2) in
      omega (arith, few, r.3);
  lie = p.well.on_disks;
  apart = p.well.apart;
  few = p.well.few;
  some = some-extents made files p.fresh (recursion_from_All (λ (f : OpenedFile). 1 ≤ page_count f.info.extents) files p.kept);
}
