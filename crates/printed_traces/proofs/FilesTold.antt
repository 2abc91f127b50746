-- The files of a run, and its disks, may be told in a trace.
use Rattle.std.proofs.Common.{◌≡◌, ℕ, zero, suc, ◌+◌, ◌^◌, ◌≤◌, true, List, [], ◌∷◌, length, map, codes, Option, Some, refl, ap, subst, ◌∙◌, arith}
use Rattle.std.specs.Prelude.{All, Contains, IsTrue, slice_get, unwrap_or}
use Rattle.std.specs.List.{list_all}
use Rattle.std.specs.FinMap as finite
use Rattle.std.proofs.lemmas.Bool.{false_from_ne_true, le-leb, not_from_false}
use Rattle.std.proofs.lemmas.List.{length-map}
use Rattle.std.proofs.lemmas.List.Elements.{All-map}
use Rattle.std.proofs.lemmas.Option.{get_or_from_slice_get, slice_get_within}
use Rattle.std.proofs.lemmas.Slice.Eq.{bytes_eq-Decides}
use Rattle.volume_files.specs.block_device.DiskSeen.{DiskSeen}
use Rattle.volume_files.specs.block_device.declared.rack.Spec.{Spec}
use Rattle.volume_files.specs.volume_disks.declared.volume_spec.VolumeSpec.{VolumeSpec}
use Rattle.volume_files.specs.flat_model.Flat.{IsFile}
use Rattle.volume_files.specs.vnode_files.Files.{FilesSeen, vnode_at}
use Rattle.volume_files.specs.vnode_files.Grow.{page_count}
use Rattle.volume_files.specs.vnode_files.Layout.{LieOnDisk}
use Rattle.volume_files.specs.vnode_files.Vnode.{IsSoundVnode, VnodeSeen, fresh_vnode, no_vnode}
use Rattle.volume_files.specs.vnode_files.declared.extent.Extent.{Extent}
use Rattle.volume_files.specs.vnode_files.declared.vnode.FileInfo.{FileInfo}
use Rattle.volume_files.specs.volume_format.Rules.{is_table_name_byte}
use Rattle.volume_files.specs.volume_format.Table.{TableSeen, no_entry}
use Rattle.volume_files.specs.volume_format.Volume.{IsVolumeName}
use Rattle.volume_files.specs.vm_types.WellFormed.{IsNumber}
use Rattle.volume_files.specs.vm_script.Fields.{is_file_name, is_name_letter, is_word}
use Rattle.volume_files.specs.vm_script.PlanSeen.{PlanSeen}
use Rattle.volume_files.specs.Attached.{ArePlaced, AttachedSeen, HasItsBytes}
use Rattle.volume_files.specs.Opened.{AreTablesRead, OpenedFile, infos_of, opened_flat_file, volume_specs}
use Rattle.volume_files.specs.stored_files.Written.{disk_sizes}
use Rattle.volume_files.proofs.DiskLists.{at-map, to-all}
use Rattle.volume_files.proofs.flat_model.Bytes.{All-slice_get}
use Rattle.volume_files.proofs.flat_model.Opened.{IsFile-at_opening}
use Rattle.volume_files.proofs.vnode_files.LayoutLaws.{file_layout_law}
use Rattle.trace_text.specs.TraceForm.{IsTracedFile}
use Rattle.trace_text.specs.TraceLines.{AreTwoNumbers}
use Rattle.printed_traces.specs.Printed.{told_file}

-- a name of a volume is one of a script
letters-told : (name : List ℕ) → list_all is_table_name_byte name ≡ true → list_all is_name_letter name ≡ true
unfolding is_table_name_byte
letters-told name h = h

name-told : (name : List ℕ) → IsVolumeName name → IsTrue (is_file_name name)
name-told name is =
    let some = le-leb 1 (length name) is.some in
    let short = le-leb (length name) 16 is.short in
    let other = not_from_false (is_word name (codes "zero"))
    (false_from_ne_true (is_word name (codes "zero")) (λ (same : is_word name (codes "zero") ≡ true). is.other ((bytes_eq-Decides name (codes "zero")).0 same))) in
    rw (some, short, letters-told name is.bytes, other) refl

-- no disk has more blocks than a table may say
pub few-blocks : (holds : Spec → Option (List (List ℕ))) (specs : List VolumeSpec) (disks : List (ℕ × ℕ)) (tables : List TableSeen) → AreTablesRead holds specs disks tables
    → (i : ℕ) (d : ℕ × ℕ) → slice_get disks i ≡ Some d → d.1 ≤ 16384
few-blocks holds [] [] tables read i d at = absurd (cc at)
few-blocks holds [] (x ∷ disks) tables read i d at = absurd read
few-blocks holds (s ∷ specs) [] tables read i d at = absurd read
few-blocks holds (s ∷ specs) (x ∷ disks) [] read i d at = absurd read
few-blocks holds (s ∷ specs) (x ∷ disks) (t ∷ tables) read zero d at = let same : x ≡ d = cc at in subst (λ (y : ℕ × ℕ). y.1 ≤ 16384) same read.0.few
few-blocks holds (s ∷ specs) (x ∷ disks) (t ∷ tables) read (suc i) d at = few-blocks holds specs disks tables read.1 i d at

-- what is listed is contained
contained : {X : Type 0} (xs : List X) (i : ℕ) (x : X) → slice_get xs i ≡ Some x → Contains xs x
contained xs i x at = (i, slice_get_within xs i x at, get_or_from_slice_get xs i x x at)

module _ (plan : PlanSeen) (holds : Spec → Option (List (List ℕ))) (files : List OpenedFile) (a : AttachedSeen) (made : FilesSeen) (placed : ArePlaced plan holds files a made) where
  abbrev sizes : List (ℕ × ℕ)
  sizes = disk_sizes a.disks

  few-at : (i : ℕ) (d : ℕ × DiskSeen) → slice_get a.disks i ≡ Some d → d.1.size ≤ 16384
  few-at i d at = few-blocks holds (volume_specs plan) sizes placed.given.tables placed.given.read i (d.0, d.1.size) (at-map (λ (x : ℕ × DiskSeen). (x.0, x.1.size)) a.disks i d at)

  pub blocks-told : All (λ (d : ℕ × ℕ). IsNumber d.1) sizes
  blocks-told = to-all (λ (d : ℕ × ℕ). IsNumber d.1) sizes (λ i d at.
      let few = few-blocks holds (volume_specs plan) sizes placed.given.tables placed.given.read i d at in omega (arith, few))

  -- a file that was opened is one of those that are placed
  vnode-of : (i : ℕ) (f : OpenedFile) → slice_get files i ≡ Some f → slice_get made.files i ≡ Some (fresh_vnode f.info)
  vnode-of i f at = ap (λ (l : List VnodeSeen). slice_get l i) placed.fresh ∙ at-map fresh_vnode (infos_of files) i f.info (at-map (λ (x : OpenedFile). x.info) files i f at)

  extent-told : (blocks : ℕ) (v : VnodeSeen) → IsSoundVnode v → LieOnDisk blocks v.info.extents → (j : ℕ) (e : Extent) → slice_get v.info.extents j ≡ Some e → AreTwoNumbers (e.start, e.pages)
  extent-told blocks v sound lie j e at =
      let end = All-slice_get (λ (x : Extent). x.start + x.pages ≤ 2 ^ 32) v.info.extents j e sound.blocks at in
      let some = All-slice_get (λ (x : Extent). 1 ≤ x.pages) v.info.extents j e lie.some at in
      let past = (All-slice_get (λ (x : Extent). (1 ≤ x.start) × (x.start + x.pages ≤ blocks)) v.info.extents j e lie.within at).0 in
      (omega (arith, end, some), omega (arith, end, past))

  length-told : (i : ℕ) (v : VnodeSeen) (blocks : ℕ) → slice_get made.files i ≡ Some v → finite.get made.disks v.info.disk ≡ Some blocks → blocks ≤ 16384 → IsNumber v.info.length
  length-told i v blocks at size few =
      let lt = slice_get_within made.files i v at in
      let same : vnode_at made i ≡ v = get_or_from_slice_get made.files i v no_vnode at in
      let most = subst (λ (w : VnodeSeen). page_count w.info.extents ≤ unwrap_or (finite.get made.disks w.info.disk) 0) same (file_layout_law.pages made placed.well.apart placed.well.on_disks i lt) in
      let held : unwrap_or (finite.get made.disks v.info.disk) 0 ≡ blocks = ap (λ (o : Option ℕ). unwrap_or o 0) size in
      let within = (All-slice_get IsSoundVnode made.files i v placed.well.sound at).within in
      omega (arith, most, held, few, within)

  file-told : (i : ℕ) (f : OpenedFile) → slice_get files i ≡ Some f → IsTracedFile sizes (told_file f)
  file-told i f at =
      let v = vnode-of i f at in
      let there = placed.have.there i (fresh_vnode f.info) v in
      let disk : ℕ × DiskSeen = (f.info.disk, there.1) in
      let size = placed.have.sizes there.0 disk there.2 in
      let infos-at = at-map (λ (x : OpenedFile). x.info) files i f at in
      let named = placed.names.names i (slice_get_within (infos_of files) i f.info infos-at) in
      let own = All-slice_get HasItsBytes files i f placed.own at in
      let sound = All-slice_get IsSoundVnode made.files i (fresh_vnode f.info) placed.well.sound v in
      let lie = All-slice_get (λ (w : VnodeSeen). LieOnDisk (unwrap_or (finite.get made.disks w.info.disk) 0) w.info.extents) made.files i (fresh_vnode f.info) placed.well.on_disks v in
      let few = length-told i (fresh_vnode f.info) there.1.size v size (few-at there.0 disk there.2) in
      let count = own.count in
      record {
        name = name-told f.info.name (subst (λ (x : FileInfo). IsVolumeName x.name) (get_or_from_slice_get (infos_of files) i f.info no_entry infos-at) named);
        disk = contained (map (λ (d : ℕ × ℕ). d.0) sizes) there.0 f.info.disk
            (at-map (λ (d : ℕ × ℕ). d.0) sizes there.0 (disk.0, disk.1.size) (at-map (λ (d : ℕ × DiskSeen). (d.0, d.1.size)) a.disks there.0 disk there.2));
        extents = All-map AreTwoNumbers (λ (e : Extent). (e.start, e.pages)) f.info.extents
            (to-all (λ (e : Extent). AreTwoNumbers (e.start, e.pages)) f.info.extents (extent-told (unwrap_or (finite.get made.disks f.info.disk) 0) (fresh_vnode f.info) sound lie));
        len = omega (arith, few, count);
        bytes = own.bytes;
      }

  pub files-told : All (IsTracedFile sizes) (map told_file files)
  files-told = All-map (IsTracedFile sizes) told_file files (to-all (λ (f : OpenedFile). IsTracedFile sizes (told_file f)) files file-told)

  pub few-files : length files ≤ 64
  few-files =
      let most = placed.well.few_files in
      let count = ap length placed.fresh ∙ length-map (infos_of files) fresh_vnode ∙ length-map files (λ (f : OpenedFile). f.info) in
      omega (arith, most, count)

  -- and as they are opened they are files of flat memory
  pub flat-files : All IsFile (map opened_flat_file files)
  flat-files = All-map IsFile opened_flat_file files (to-all (λ (f : OpenedFile). IsFile (opened_flat_file f)) files (λ i f at.
      let own = All-slice_get HasItsBytes files i f placed.own at in
      IsFile-at_opening f.info.length f.info.disk f.info.extents f.info.writable f.bytes own.count own.bytes))
