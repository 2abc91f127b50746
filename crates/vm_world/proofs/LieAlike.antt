-- Files that have the same records on the same disks lie alike.
use Rattle.std.proofs.Common.{◌≡◌, ℕ, ◌<◌, ◌==◌, Bool, true, false, cond, List, [], ◌∷◌, length, map, refl, sym, ap, ◌∙◌, subst}
use Rattle.std.specs.Prelude.{◌≤◌, filter, slice_index_or}
use Rattle.std.specs.List.{flat_map}
use Rattle.std.proofs.lemmas.List.{length-map, get_or-map}
use Rattle.std.proofs.lemmas.List.Folds.{flat_map-map}
use Rattle.flat_model.specs.vnode_files.declared.extent.Extent.{Extent}
use Rattle.flat_model.specs.vnode_files.declared.vnode.FileInfo.{FileInfo}
use Rattle.flat_model.specs.vnode_files.Files.{FilesSeen, block_count, extents_on}
use Rattle.flat_model.specs.vnode_files.Layout.{NoneMeet, LieOnDisk, KeepsLayout}
use Rattle.flat_model.specs.vnode_files.Vnode.{VnodeSeen}

abbrev info_of : VnodeSeen → FileInfo
info_of v = v.info

-- the records of the files on a disk
filter-infos : (disk : ℕ) (vs : List VnodeSeen) → filter (λ (i : FileInfo). i.disk == disk) (map info_of vs) ≡ map info_of (filter (λ (v : VnodeSeen). v.info.disk == disk) vs)
filter-infos disk [] = refl
filter-infos disk (v ∷ vs) = by_test (v.info.disk == disk) (filter-infos disk vs)
  where
    by_test : (b : Bool) → filter (λ (i : FileInfo). i.disk == disk) (map info_of vs) ≡ map info_of (filter (λ (w : VnodeSeen). w.info.disk == disk) vs)
        → cond b (v.info ∷ filter (λ (i : FileInfo). i.disk == disk) (map info_of vs)) (filter (λ (i : FileInfo). i.disk == disk) (map info_of vs))
        ≡ map info_of (cond b (v ∷ filter (λ (w : VnodeSeen). w.info.disk == disk) vs) (filter (λ (w : VnodeSeen). w.info.disk == disk) vs))
    by_test true rest = ap (λ (l : List FileInfo). v.info ∷ l) rest
    by_test false rest = rest

extents-by : (disk : ℕ) (vs : List VnodeSeen) → extents_on disk vs ≡ flat_map (λ (i : FileInfo). i.extents) (filter (λ (i : FileInfo). i.disk == disk) (map info_of vs))
extents-by disk vs =
    sym (flat_map-map (λ (i : FileInfo). i.extents) info_of (filter (λ (v : VnodeSeen). v.info.disk == disk) vs))
    ∙ ap (λ (is : List FileInfo). flat_map (λ (i : FileInfo). i.extents) is) (sym (filter-infos disk vs))

pub lie-alike : (old new : FilesSeen) → new.disks ≡ old.disks → map (λ (v : VnodeSeen). v.info) new.files ≡ map (λ (v : VnodeSeen). v.info) old.files → KeepsLayout old new
lie-alike old new disks infos =
    let on : (disk : ℕ) → extents_on disk old.files ≡ extents_on disk new.files = λ disk.
    extents-by disk old.files ∙ ap (λ (is : List FileInfo). flat_map (λ (i : FileInfo). i.extents) (filter (λ (i : FileInfo). i.disk == disk) is)) (sym infos) ∙ sym (extents-by disk new.files) in
    let count : length new.files ≡ length old.files = sym (length-map new.files info_of) ∙ ap length infos ∙ length-map old.files info_of in
    record {
      on_disks = λ lie k d low.
          let lt : k < length old.files = subst (λ (n : ℕ). k < n) count low in
          let info : (slice_index_or old.files k d).info ≡ (slice_index_or new.files k d).info =
          sym (get_or-map info_of old.files k d d.info lt) ∙ ap (λ (is : List FileInfo). slice_index_or is k d.info) (sym infos) ∙ get_or-map info_of new.files k d d.info low in
          subst (λ (m : _). LieOnDisk (block_count m (slice_index_or new.files k d).info.disk) (slice_index_or new.files k d).info.extents) (sym disks)
          (subst (λ (i : FileInfo). LieOnDisk (block_count old.disks i.disk) i.extents) info (lie k d lt));
      none_meet = λ apart disk. subst NoneMeet (on disk) (apart disk);
      few = λ few disk. subst (λ (es : List Extent). length es ≤ 252) (on disk) (few disk);
    }
