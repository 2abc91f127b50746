-- What a volume is as it was attached.
use Rattle.std.proofs.Common.{◌≡◌, ℕ, ◌+◌, ◌<◌, Bool, true, false, List, [], length, replicate, Option, Some, None, refl, sym, ap, ◌∙◌, subst, arith}
use Rattle.std.proofs.Common.{get_or}
use Rattle.std.specs.Prelude.{option_map}
use Rattle.std.proofs.lemmas.List.{get_or-replicate, get_or_default, length-replicate, same_lists}
use Rattle.std.proofs.lemmas.List.FromFn.{get_or-map-range_with_len}
use Rattle.block_device.specs.DiskSeen.{DiskSeen, HasBlocks}
use Rattle.block_device.specs.Joins.{content_of_both, count_sum}
use Rattle.block_device.specs.RackSeen.{IsAttached, spec_number}
use Rattle.block_device.specs.declared.numbered.NumberedDisk.{NumberedDisk}
use Rattle.block_device.specs.declared.rack.Spec.{Spec}
use Rattle.joined_disk.specs.JoinedSeen.{StandsFor, joined_seen}
use Rattle.joined_disk.specs.declared.joined.JoinedDisk.{JoinedDisk}
use Rattle.joined_disk.specs.declared.joined.JoinedDisk.TheVariants as made
use Rattle.joined_disk.specs.disk_mirror.MirrorBlocks.{length-mirror_blocks, mirror_block-fresh}
use Rattle.joined_disk.specs.disk_mirror.MirrorSeen.{mirror_block, mirror_blocks, mirror_disk, mirror_seen}
use Rattle.joined_disk.specs.disk_stripe.StripeSeen.{stripe_seen, stripe_seen_by}
use Rattle.volume_disks.specs.Volumes.{IsDiskFor, IsVolume, is_mirror, size_fault, sized, spec_count}
use Rattle.volume_disks.specs.declared.volume_spec.VolumeSpec.{VolumeSpec}
use Rattle.volume_disks.specs.declared.volume_spec.VolumeSpec.TheVariants.{Plain, Joined}
use Rattle.volume_files.specs.Opened.{AreJoined, HasVolumeBlocks, IsVolumeAttached}
use Rattle.volume_files.proofs.HeldVolumes.{same-sizes}

-- a disk that stands for one is seen as that one
pub one_seen : {D : Type 0} {disk : _} (seen : D → DiskSeen) (a : D) (mirror : Bool) (d : JoinedDisk D disk) → StandsFor seen a None mirror d → joined_seen seen d ≡ seen a
one_seen seen a mirror (made.Plain x) stands = ap seen stands
one_seen seen a mirror (made.Striped s) stands = absurd stands
one_seen seen a mirror (made.Mirrored m) stands = absurd stands

-- a stripe is seen as that of its two disks
stripe_of : {D : Type 0} {disk : _} (seen : D → DiskSeen) (a b : D) (d : JoinedDisk D disk) → StandsFor seen a (Some b) false d → joined_seen seen d ≡ stripe_seen (seen a) (seen b)
stripe_of seen a b (made.Striped s) stands = ap (stripe_seen_by seen) stands
stripe_of seen a b (made.Plain x) stands = absurd stands
stripe_of seen a b (made.Mirrored m) stands = absurd stands

-- a mirror that is new is seen by the blocks of its first disk
mirror_of : {D : Type 0} {disk : _} (seen : D → DiskSeen) (a b : D) (d : JoinedDisk D disk) → StandsFor seen a (Some b) true d
    → joined_seen seen d ≡ mirror_disk (replicate (seen a).size true) (seen a) (seen b)
mirror_of seen a b (made.Mirrored m) stands = ap (mirror_seen seen) stands
mirror_of seen a b (made.Plain x) stands = absurd stands
mirror_of seen a b (made.Striped s) stands = absurd stands

-- The blocks of a mirror that is new are those of its first disk.
mirror-first : (xs ys : List (List ℕ)) (n : ℕ) → length xs ≡ n → mirror_blocks (replicate n true) xs ys ≡ xs
mirror-first xs ys n long =
    let marks : length (replicate n true) ≡ n = length-replicate n true in
    let count = length-mirror_blocks (replicate n true) xs ys in
    same_lists (mirror_blocks (replicate n true) xs ys) xs (count ∙ (marks ∙ sym long)) (λ k d inside. at k d (omega (arith, inside, count, marks)))
  where
    at : (k : ℕ) (d : List ℕ) → k < n → get_or (mirror_blocks (replicate n true) xs ys) k d ≡ get_or xs k d
    at k d lt =
        let marks : length (replicate n true) ≡ n = length-replicate n true in
        let within : k < length (replicate n true) = omega (arith, lt, marks) in
        get_or-map-range_with_len (mirror_block (replicate n true) xs ys) 0 (length (replicate n true)) k k d within (omega arith)
        ∙ (mirror_block-fresh (replicate n true) xs ys k (get_or-replicate n k true false lt) ∙ get_or_default xs k [] d (omega (arith, lt, long)))

mirror-content : (a b : Option (List (List ℕ))) (n : ℕ) → HasBlocks a n → content_of_both (mirror_blocks (replicate n true)) a b ≡ content_of_both (λ blocks others. blocks) a b
mirror-content None b n whole = refl
mirror-content (Some xs) None n whole = refl
mirror-content (Some xs) (Some ys) n whole = ap (λ (bs : List (List ℕ)). Some bs) (mirror-first xs ys n whole.0)

-- Two disks that were joined.
fit_so : (first second : ℕ) (a b : ℕ × ℕ) → a.0 ≡ first → b.0 ≡ second → size_fault a b ≡ None → size_fault (first, a.1) (second, b.1) ≡ None
fit_so first second a b one two fit = ap (λ (n : ℕ). size_fault (n, a.1) (second, b.1)) (sym one) ∙ (ap (λ (n : ℕ). size_fault a (n, b.1)) (sym two) ∙ fit)

joined_attached : {D : Type 0} {disk : _} (seen : D → DiskSeen) (has : (d : D) → HasBlocks (seen d).content (seen d).size) (holds : Spec → Option (List (List ℕ))) (first second : Spec) (mirror : Bool)
    (a b : NumberedDisk D) (d : JoinedDisk D disk) → IsDiskFor seen holds first a → IsDiskFor seen holds second b → size_fault (sized seen a) (sized seen b) ≡ None
    → StandsFor seen a.disk (Some b.disk) mirror d → AreJoined holds first second mirror (joined_seen seen d)
joined_attached seen has holds first second false a b d one two fit stands =
    let is = stripe_of seen a.disk b.disk d stands in
    let serves = fit_so (spec_number first) (spec_number second) (sized seen a) (sized seen b) one.number two.number fit in
    let same = same-sizes (spec_number first) (spec_number second) (seen a.disk).size (seen b.disk).size serves in
    record {
      a = seen a.disk;
      b = seen b.disk;
      one = one.attached;
      two = two.attached;
      one_whole = has a.disk;
      two_whole = has b.disk;
      fit = serves;
      size = ap (λ (x : DiskSeen). x.size) is ∙ ap (λ (n : ℕ). (seen a.disk).size + n) (sym same);
      content = ap (λ (x : DiskSeen). x.content) is;
    }
joined_attached seen has holds first second true a b d one two fit stands =
    let is = mirror_of seen a.disk b.disk d stands in
    record {
      a = seen a.disk;
      b = seen b.disk;
      one = one.attached;
      two = two.attached;
      one_whole = has a.disk;
      two_whole = has b.disk;
      fit = fit_so (spec_number first) (spec_number second) (sized seen a) (sized seen b) one.number two.number fit;
      size = ap (λ (x : DiskSeen). x.size) is;
      content = ap (λ (x : DiskSeen). x.content) is ∙ mirror-content (seen a.disk).content (seen b.disk).content (seen a.disk).size (has a.disk);
    }

-- A VOLUME THAT WAS ATTACHED, as it is seen: by its spec; it counts each of its disks, and no fault.
plain_stands : {D : Type 0} {disk : _} (seen : D → DiskSeen) (holds : Spec → Option (List (List ℕ))) (s : Spec) (volume : NumberedDisk (JoinedDisk D disk)) (w : IsVolume seen (StandsFor seen) holds (Plain s) volume)
    → joined_seen seen volume.disk ≡ seen w.first.disk
plain_stands {D} seen holds s volume w =
    one_seen seen w.first.disk false volume.disk (subst (λ (o : Option (NumberedDisk D)). StandsFor seen w.first.disk (option_map (λ (d : NumberedDisk D). d.disk) o) false volume.disk) w.two w.stands)

both_stand : {D : Type 0} {disk : _} (seen : D → DiskSeen) (holds : Spec → Option (List (List ℕ))) (first second : Spec) (mirror : Bool) (volume : NumberedDisk (JoinedDisk D disk))
    (w : IsVolume seen (StandsFor seen) holds (Joined first second mirror) volume) → StandsFor seen w.first.disk (Some w.two.0.disk) mirror volume.disk
both_stand {D} seen holds first second mirror volume w =
    subst (λ (o : Option (NumberedDisk D)). StandsFor seen w.first.disk (option_map (λ (d : NumberedDisk D). d.disk) o) mirror volume.disk) w.two.1 w.stands

volume_blocks : {D : Type 0} {disk : _} (seen : D → DiskSeen) (has : (d : D) → HasBlocks (seen d).content (seen d).size) (holds : Spec → Option (List (List ℕ))) (v : VolumeSpec) (volume : NumberedDisk (JoinedDisk D disk))
    → IsVolume seen (StandsFor seen) holds v volume → HasVolumeBlocks holds v (joined_seen seen volume.disk)
volume_blocks seen has holds (Plain s) volume w = subst (λ (x : DiskSeen). IsAttached s (holds s) x) (sym (plain_stands seen holds s volume w)) w.one.attached
volume_blocks seen has holds (Joined first second mirror) volume w =
    joined_attached seen has holds first second mirror w.first w.two.0 volume.disk w.one w.two.2 w.two.3 (both_stand seen holds first second mirror volume w)

pub volume_members : {D : Type 0} {disk : _} (seen : D → DiskSeen) (holds : Spec → Option (List (List ℕ))) (v : VolumeSpec) (volume : NumberedDisk (JoinedDisk D disk))
    → IsVolume seen (StandsFor seen) holds v volume → (joined_seen seen volume.disk).kind.members ≡ spec_count v
volume_members seen holds (Plain s) volume w = ap (λ (x : DiskSeen). x.kind.members) (plain_stands seen holds s volume w) ∙ w.one.single
volume_members {D} {disk} seen holds (Joined first second mirror) volume w = at mirror (both_stand seen holds first second mirror volume w)
  where
    at : (m : Bool) → StandsFor seen w.first.disk (Some w.two.0.disk) m volume.disk → (joined_seen seen volume.disk).kind.members ≡ 2
    at false stands = ap (λ (x : DiskSeen). x.kind.members) (stripe_of seen w.first.disk w.two.0.disk volume.disk stands) ∙ (let a = w.one.single in let b = w.two.2.single in omega (arith, a, b))
    at true stands = ap (λ (x : DiskSeen). x.kind.members) (mirror_of seen w.first.disk w.two.0.disk volume.disk stands) ∙ (let a = w.one.single in let b = w.two.2.single in omega (arith, a, b))

volume_mirror : {D : Type 0} {disk : _} (seen : D → DiskSeen) (holds : Spec → Option (List (List ℕ))) (v : VolumeSpec) (volume : NumberedDisk (JoinedDisk D disk))
    → IsVolume seen (StandsFor seen) holds v volume → (joined_seen seen volume.disk).kind.mirror ≡ is_mirror v
volume_mirror seen holds (Plain s) volume w = ap (λ (x : DiskSeen). x.kind.mirror) (plain_stands seen holds s volume w) ∙ w.one.once
volume_mirror {D} {disk} seen holds (Joined first second mirror) volume w = at mirror (both_stand seen holds first second mirror volume w)
  where
    at : (m : Bool) → StandsFor seen w.first.disk (Some w.two.0.disk) m volume.disk → (joined_seen seen volume.disk).kind.mirror ≡ m
    at false stands = ap (λ (x : DiskSeen). x.kind.mirror) (stripe_of seen w.first.disk w.two.0.disk volume.disk stands)
    at true stands = ap (λ (x : DiskSeen). x.kind.mirror) (mirror_of seen w.first.disk w.two.0.disk volume.disk stands)

pub volume_attached : {D : Type 0} {disk : _} (seen : D → DiskSeen) (has : (d : D) → HasBlocks (seen d).content (seen d).size) (holds : Spec → Option (List (List ℕ))) (v : VolumeSpec) (volume : NumberedDisk (JoinedDisk D disk))
    → IsVolume seen (StandsFor seen) holds v volume → IsVolumeAttached holds v (joined_seen seen volume.disk)
volume_attached seen has holds v volume w = (volume_blocks seen has holds v volume w, λ i. (volume_members seen holds v volume w i, volume_mirror seen holds v volume w i))

none_both : (a b : ℕ) → a ≡ 0 → b ≡ 0 → count_sum a b ≡ 0
none_both a b one two = ap (λ (n : ℕ). count_sum n b) one ∙ ap (λ (n : ℕ). count_sum 0 n) two

pub volume_unfailed : {D : Type 0} {disk : _} (seen : D → DiskSeen) (holds : Spec → Option (List (List ℕ))) (v : VolumeSpec) (volume : NumberedDisk (JoinedDisk D disk))
    → IsVolume seen (StandsFor seen) holds v volume → (joined_seen seen volume.disk).faults ≡ 0
volume_unfailed seen holds (Plain s) volume w = ap (λ (x : DiskSeen). x.faults) (plain_stands seen holds s volume w) ∙ w.one.unfailed
volume_unfailed {D} {disk} seen holds (Joined first second mirror) volume w = at mirror (both_stand seen holds first second mirror volume w)
  where
    none : count_sum (seen w.first.disk).faults (seen w.two.0.disk).faults ≡ 0
    none = none_both (seen w.first.disk).faults (seen w.two.0.disk).faults w.one.unfailed w.two.2.unfailed

    at : (m : Bool) → StandsFor seen w.first.disk (Some w.two.0.disk) m volume.disk → (joined_seen seen volume.disk).faults ≡ 0
    at false stands = ap (λ (x : DiskSeen). x.faults) (stripe_of seen w.first.disk w.two.0.disk volume.disk stands) ∙ none
    at true stands = ap (λ (x : DiskSeen). x.faults) (mirror_of seen w.first.disk w.two.0.disk volume.disk stands) ∙ none
