-- The files that disks have as they are attached.
use Rattle.std.specs.Prelude.{ℕ, false, ◌≡◌, List, [], ◌∷◌, ◌++◌, map, Option, Some, None}
use Rattle.std.specs.Prelude.{IsSome, is_some, Result, Ok}
use Rattle.std.specs.List.{AllByRecursion}
use Rattle.std.proofs.Common.{◌+◌, ap, ◌∙◌, sym, refl, arith}
use Rattle.std.proofs.lemmas.Bool.{both_ways}
use Rattle.std.proofs.lemmas.List.{map-append}
use Rattle.block_device.specs.DiskSeen.{DiskSeen}
use Rattle.block_device.specs.declared.rack.Spec.{Spec}
use Rattle.volume_format.specs.vnode_files.declared.vnode.FileInfo.{FileInfo}
use Rattle.volume_format.specs.Table.{TableSeen}
use Rattle.volume_files.specs.declared.stops.Refusal.{Refusal}
use Rattle.volume_disks.specs.declared.volume_spec.VolumeSpec.{VolumeSpec}
use Rattle.volume_files.specs.Attached.{IsMounted, AreMounted, bare_disks}
use Rattle.volume_files.specs.Opened.{OpenedFile, mounted_file, mounted_files, with_mounted, infos_of, mounted_infos}
use Rattle.stored_files.specs.Closed.{info_on, stored_bytes}
use Rattle.volume_files.specs.Opened.{volume_blocks, volume_number, volume_table}
use Rattle.volume_files.proofs.HeldVolumes.{held_told, told_volume}
use Rattle.volume_files.specs.Placing.{found_file, found_files, content_bytes}

-- the records of the files
infos-one : (d : ℕ × DiskSeen) (es : List FileInfo) → infos_of (map (found_file d) es) ≡ map (info_on d.0) es
infos-one d [] = refl
infos-one d (e ∷ es) = λ i. info_on d.0 e ∷ infos-one d es i

pub infos-found : (ds : List (ℕ × DiskSeen)) (ts : List TableSeen) → infos_of (found_files ds ts) ≡ mounted_infos (map (λ (d : ℕ × DiskSeen). d.0) ds) ts
infos-found [] ts = refl
infos-found (d ∷ ds) [] = refl
infos-found (d ∷ ds) (t ∷ ts) =
    map-append (λ (f : OpenedFile). f.info) (map (found_file d) t.entries) (found_files ds ts)
    ∙ ap (λ (xs : List FileInfo). xs ++ infos_of (found_files ds ts)) (infos-one d t.entries)
    ∙ ap (λ (xs : List FileInfo). map (info_on d.0) t.entries ++ xs) (infos-found ds ts)

-- What one disk gives.
abbrev OneGives : (Spec → Option (List (List ℕ))) → VolumeSpec → ℕ × DiskSeen → TableSeen → Type 0
OneGives holds s d t =
    (u : TableSeen) × (volume_table holds s ≡ Ok u) × (map (mounted_file (volume_number s, volume_blocks holds s)) u.entries ≡ map (found_file d) t.entries)

same_files : (n : ℕ) (d : ℕ × DiskSeen) (blocks : List (List ℕ)) → d.0 ≡ n → d.1.content ≡ Some blocks → (es : List FileInfo) → map (mounted_file (n, blocks)) es ≡ map (found_file d) es
same_files n d blocks number told [] = refl
same_files n d blocks number told (e ∷ es) =
    let info : info_on n e ≡ info_on d.0 e = ap (λ k. info_on k e) (sym number) in
    let bytes : stored_bytes blocks e ≡ content_bytes d.1.content e = ap (λ (o : Option (List (List ℕ))). content_bytes o e) (sym told) in
    let rest = same_files n d blocks number told es in
    λ i. record { info = info i; bytes = bytes i } ∷ rest i

one_told : (holds : Spec → Option (List (List ℕ))) (s : VolumeSpec) (d : ℕ × DiskSeen) (t : TableSeen) (blocks : List (List ℕ)) → IsMounted holds s d t → d.1.content ≡ Some blocks → OneGives holds s d t
one_told holds s d t blocks m told =
    let held = held_told s holds d.1 blocks m.attached told in (
      t,
      told_volume s holds d.1 (Ok t) m.attached (ap is_some told) m.read,
      ap (λ (bs : List (List ℕ)). map (mounted_file (volume_number s, bs)) t.entries) held ∙ same_files (volume_number s) d blocks m.number told t.entries,
    )

one_gives : (holds : Spec → Option (List (List ℕ))) (s : VolumeSpec) (d : ℕ × DiskSeen) (t : TableSeen) → IsMounted holds s d t → IsSome d.1.content → OneGives holds s d t
one_gives holds s d t m tells =
    elim d.1.content as (λ (o : Option (List (List ℕ))). d.1.content ≡ o → OneGives holds s d t) [
      | None ↦ λ none. absurd (both_ways false refl (ap is_some (sym none) ∙ tells))
      | Some blocks ↦ λ told. one_told holds s d t blocks m told
    ] refl

-- the files of volumes that tell are those that were found
pub mounted-found : (holds : Spec → Option (List (List ℕ))) (specs : List VolumeSpec) (ds : List (ℕ × DiskSeen)) (ts : List TableSeen) → AreMounted holds specs ds ts
    → AllByRecursion (λ (d : DiskSeen). IsSome d.content) (bare_disks ds) → mounted_files holds specs ≡ Ok (found_files ds ts)
mounted-found holds [] [] [] m told = refl
mounted-found holds [] [] (t ∷ ts) m told = absurd m
mounted-found holds [] (d ∷ ds) ts m told = absurd m
mounted-found holds (s ∷ specs) [] ts m told = absurd m
mounted-found holds (s ∷ specs) (d ∷ ds) [] m told = absurd m
mounted-found holds (s ∷ specs) (d ∷ ds) (t ∷ ts) m told =
    let one = one_gives holds s d t m.0 told.0 in
    let disk : ℕ × List (List ℕ) = (volume_number s, volume_blocks holds s) in
    ap (λ (r : Result TableSeen Refusal). with_mounted disk r (mounted_files holds specs)) one.1
    ∙ ap (λ (r : Result (List OpenedFile) Refusal). with_mounted disk (Ok one.0) r) (mounted-found holds specs ds ts m.1 told.1)
    ∙ ap (λ (fs : List OpenedFile). Ok (fs ++ found_files ds ts)) one.2
