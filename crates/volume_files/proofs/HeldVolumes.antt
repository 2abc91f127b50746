-- What is held for the disks of a volume, and what the volume has.
use Rattle.std.proofs.Common.{◌≡◌, ℕ, Bool, true, false, List, [], length, Option, Some, None, Result, refl, sym, ap, ◌∙◌, subst, arith}
use Rattle.std.specs.Prelude.{IfSome, IsSome, is_some, replicate, unwrap_or, option_and_then, ◌==◌, if◌then◌else◌}
use Rattle.std.proofs.lemmas.Bool.{both_ways, eqb-true}
use Rattle.std.proofs.lemmas.List.{length-replicate}
use Rattle.block_device.specs.DiskSeen.{DiskSeen, HasBlocks}
use Rattle.block_device.specs.Joins.{content_of_both}
use Rattle.block_device.specs.RackSeen.{IsAttached, spec_number}
use Rattle.block_device.specs.declared.rack.Spec.{Spec}
use Rattle.block_device.specs.declared.rack.Spec.TheVariants as spec
use Rattle.joined_disk.specs.disk_stripe.StripeSeen.{stripe_blocks}
use Rattle.volume_disks.specs.Volumes.{is_volume_size, size_fault}
use Rattle.volume_disks.specs.declared.stops.VolumeStop.TheVariants as stop
use Rattle.joined_disk.specs.disk_stripe.StripeBlocks.{length-stripe_blocks}
use Rattle.volume_disks.specs.declared.volume_spec.VolumeSpec.{VolumeSpec}
use Rattle.volume_disks.specs.declared.volume_spec.VolumeSpec.TheVariants.{Plain, Joined}
use Rattle.volume_format.specs.Table.{TableSeen}
use Rattle.volume_files.specs.declared.stops.Refusal.{Refusal}
use Rattle.volume_files.specs.Mounting.{Holds}
use Rattle.volume_files.specs.Opened.{AreJoined, IsVolumeAttached, blocks_held, content_held, volume_content, held_size, joined_content, sizes_refused, size_refusal, table_on, told_table}
use Rattle.volume_files.specs.Opened.{unless_refused, volume_blocks, volume_number, volume_table}

-- The rack tells what it holds for the disk of a spec, where that is by path; or for each disk of a volume.
abbrev pub TellsSpec : Holds → Spec → Type 0
TellsSpec holds (spec.Blank number blocks) = Unit {0}
TellsSpec holds (spec.Path number path) = IsSome (holds (spec.Path number path))

abbrev pub TellsDisks : Holds → VolumeSpec → Type 0
TellsDisks holds (Plain s) = TellsSpec holds s
TellsDisks holds (Joined first second mirror) = TellsSpec holds first × TellsSpec holds second

-- What a disk that tells holds is what the rack held for its spec.
pub spec_held : (s : Spec) (holds : Holds) (d : DiskSeen) (blocks : List (List ℕ)) → IsAttached s (holds s) d → d.content ≡ Some blocks → blocks_held holds s ≡ blocks
spec_held (spec.Blank number n) holds d blocks a e = sym (subst (λ c. IfSome c (λ content. content ≡ blocks_held holds (spec.Blank number n))) e a.1)
spec_held (spec.Path number path) holds d blocks a e = ap (λ o. unwrap_or o []) (sym a ∙ e)

-- where both tell
both-told : (make : List (List ℕ) → List (List ℕ) → List (List ℕ)) (a b : Option (List (List ℕ))) (blocks : List (List ℕ)) → content_of_both make a b ≡ Some blocks
    → (xs : List (List ℕ)) × (ys : List (List ℕ)) × (a ≡ Some xs) × (b ≡ Some ys) × (make xs ys ≡ blocks)
both-told make None b blocks e = absurd (cc e)
both-told make (Some xs) None blocks e = absurd (cc e)
both-told make (Some xs) (Some ys) blocks e = (xs, ys, refl, refl, cc e)

-- as long as its disk, where the rack tells or the disk does
pub spec_long : (s : Spec) (holds : Holds) (d : DiskSeen) → IsAttached s (holds s) d → TellsSpec holds s → HasBlocks d.content d.size → length (blocks_held holds s) ≡ d.size
spec_long (spec.Blank number n) holds d attached tells has = length-replicate n (replicate 4096 0) ∙ sym attached.0
spec_long (spec.Path number path) holds d attached tells has =
    elim (holds (spec.Path number path)) as (λ (o : Option (List (List ℕ))). d.content ≡ o → is_some o ≡ true → length (unwrap_or o []) ≡ d.size) [
      | None ↦ λ same some. absurd (both_ways false refl some)
      | Some blocks ↦ λ same some. (subst (λ (o : Option (List (List ℕ))). HasBlocks o d.size) same has).0
    ] attached tells

-- where a disk tells, so does the rack
pub spec_tells : (s : Spec) (holds : Holds) (d : DiskSeen) → IsAttached s (holds s) d → IsSome d.content → TellsSpec holds s
spec_tells (spec.Blank number n) holds d attached some = tt
spec_tells (spec.Path number path) holds d attached some = ap is_some (sym attached) ∙ some

module _ (holds : Holds) (first second : Spec) (mirror : Bool) (d : DiskSeen) (j : AreJoined holds first second mirror d) where
  -- the sizes serve as they are held
  pub joined-fit : TellsSpec holds first → TellsSpec holds second → sizes_refused holds (Joined first second mirror) ≡ None
  joined-fit one two =
      let a = spec_long first holds j.a j.one one j.one_whole in
      let b = spec_long second holds j.b j.two two j.two_whole in
      ap (option_and_then size_refusal) (ap (λ (n : ℕ). size_fault (spec_number first, n) (held_size holds second)) a ∙ ap (λ (n : ℕ). size_fault (spec_number first, j.a.size) (spec_number second, n)) b ∙ j.fit)

  pub joined-tells : IsSome d.content → TellsSpec holds first × TellsSpec holds second
  joined-tells some = by_content d.content refl some
    where
      by_mirror : (m : Bool) (blocks : List (List ℕ)) → joined_content m j.a.content j.b.content ≡ Some blocks → TellsSpec holds first × TellsSpec holds second
      by_mirror false blocks e =
          let t = both-told stripe_blocks j.a.content j.b.content blocks e in
          (spec_tells first holds j.a j.one (ap is_some t.2), spec_tells second holds j.b j.two (ap is_some t.3))
      by_mirror true blocks e =
          let t = both-told (λ xs ys. xs) j.a.content j.b.content blocks e in
          (spec_tells first holds j.a j.one (ap is_some t.2), spec_tells second holds j.b j.two (ap is_some t.3))

      by_content : (o : Option (List (List ℕ))) → d.content ≡ o → IsSome o → TellsSpec holds first × TellsSpec holds second
      by_content None e some = absurd (both_ways false refl some)
      by_content (Some blocks) e some = by_mirror mirror blocks (sym j.content ∙ e)

  pub joined-held : (blocks : List (List ℕ)) → d.content ≡ Some blocks → volume_blocks holds (Joined first second mirror) ≡ blocks
  joined-held blocks e = by_mirror mirror (sym j.content ∙ e)
    where
      by_mirror : (m : Bool) → joined_content m j.a.content j.b.content ≡ Some blocks → volume_blocks holds (Joined first second m) ≡ blocks
      by_mirror false e =
          let t = both-told stripe_blocks j.a.content j.b.content blocks e in
          ap (λ (xs : List (List ℕ)). stripe_blocks xs (blocks_held holds second)) (spec_held first holds j.a t.0 j.one t.2)
          ∙ ap (stripe_blocks t.0) (spec_held second holds j.b t.1 j.two t.3) ∙ t.4
      by_mirror true e =
          let t = both-told (λ xs ys. xs) j.a.content j.b.content blocks e in
          spec_held first holds j.a t.0 j.one t.2 ∙ t.4

-- THE SAME OF ANY VOLUME
pub held_told : (s : VolumeSpec) (holds : Holds) (d : DiskSeen) (blocks : List (List ℕ)) → IsVolumeAttached holds s d → d.content ≡ Some blocks → volume_blocks holds s ≡ blocks
held_told (Plain s) holds d blocks a e = spec_held s holds d blocks a.0 e
held_told (Joined first second mirror) holds d blocks a e = joined-held holds first second mirror d a.0 blocks e

pub volume_tells : (s : VolumeSpec) (holds : Holds) (d : DiskSeen) → IsVolumeAttached holds s d → IsSome d.content → TellsDisks holds s
volume_tells (Plain s) holds d a some = spec_tells s holds d a.0 some
volume_tells (Joined first second mirror) holds d a some = joined-tells holds first second mirror d a.0 some

pub volume_fit : (s : VolumeSpec) (holds : Holds) (d : DiskSeen) → IsVolumeAttached holds s d → TellsDisks holds s → sizes_refused holds s ≡ None
volume_fit (Plain s) holds d a tells = refl
volume_fit (Joined first second mirror) holds d a tells = joined-fit holds first second mirror d a.0 tells.0 tells.1

-- what block 0 of a volume that tells says, the rack says
pub told_volume : (s : VolumeSpec) (holds : Holds) (d : DiskSeen) (r : Result TableSeen ℕ) → IsVolumeAttached holds s d → IsSome d.content → IfSome d.content (λ blocks. table_on blocks ≡ r)
    → volume_table holds s ≡ told_table (volume_number s) r
told_volume s holds d r a some h = at d.content refl some h
  where
    at : (o : Option (List (List ℕ))) → d.content ≡ o → IsSome o → IfSome o (λ blocks. table_on blocks ≡ r) → volume_table holds s ≡ told_table (volume_number s) r
    at None e some h = absurd (both_ways false refl some)
    at (Some blocks) e some h =
        ap (λ (o : Option Refusal). unless_refused o (told_table (volume_number s) (table_on (volume_blocks holds s)))) (volume_fit s holds d a (volume_tells s holds d a (ap is_some e ∙ some)))
        ∙ ap (λ (bs : List (List ℕ)). told_table (volume_number s) (table_on bs)) (held_told s holds d blocks a e) ∙ ap (told_table (volume_number s)) h

-- a volume as it is held is as long as it is
pub same-sizes : (first second : ℕ) (x y : ℕ) → size_fault (first, x) (second, y) ≡ None → x ≡ y
same-sizes first second x y e = by_first (is_volume_size x) (is_volume_size y) (x == y) refl e
  where
    by_first : (b c t : Bool) → (x == y) ≡ t → (if b then (if c then (if t then None else Some stop.Unequal) else Some (stop.Size second)) else Some (stop.Size first)) ≡ None → x ≡ y
    by_first true true true is e = eqb-true x y is
    by_first true true false is e = absurd (cc e)
    by_first true false t is e = absurd (cc e)
    by_first false c t is e = absurd (cc e)

pub held_length : (s : VolumeSpec) (holds : Holds) (d : DiskSeen) → IsVolumeAttached holds s d → TellsDisks holds s → HasBlocks d.content d.size → length (volume_blocks holds s) ≡ d.size
held_length (Plain s) holds d a tells has = spec_long s holds d a.0 tells has
held_length (Joined first second false) holds d a tells has =
    let j = a.0 in
    let one = spec_long first holds j.a j.one tells.0 j.one_whole in
    let two = spec_long second holds j.b j.two tells.1 j.two_whole in
    let same = same-sizes (spec_number first) (spec_number second) j.a.size j.b.size j.fit in
    let size = j.size in
    length-stripe_blocks (blocks_held holds first) (blocks_held holds second) ∙ omega (arith, one, two, same, size)
held_length (Joined first second true) holds d a tells has = let j = a.0 in spec_long first holds j.a j.one tells.0 j.one_whole ∙ sym j.size

-- what the rack tells of a volume, the volume tells
spec-told : (s : Spec) (holds : Holds) (d : DiskSeen) (blocks : List (List ℕ)) → IsAttached s (holds s) d → content_held holds s ≡ Some blocks → d.content ≡ Some blocks
spec-told (spec.Blank number n) holds d blocks a e = absurd (cc e)
spec-told (spec.Path number path) holds d blocks a e = a ∙ e

pub volume_told : (s : VolumeSpec) (holds : Holds) (d : DiskSeen) (blocks : List (List ℕ)) → IsVolumeAttached holds s d → volume_content holds s ≡ Some blocks → d.content ≡ Some blocks
volume_told (Plain s) holds d blocks a e = spec-told s holds d blocks a.0 e
volume_told (Joined first second mirror) holds d blocks a e = a.0.content ∙ by_mirror mirror e
  where
    both : (make : List (List ℕ) → List (List ℕ) → List (List ℕ)) → content_of_both make (content_held holds first) (content_held holds second) ≡ Some blocks → content_of_both make a.0.a.content a.0.b.content ≡ Some blocks
    both make e =
        let t = both-told make (content_held holds first) (content_held holds second) blocks e in
        ap (λ (o : Option (List (List ℕ))). content_of_both make o a.0.b.content) (spec-told first holds a.0.a t.0 a.0.one t.2)
        ∙ ap (content_of_both make (Some t.0)) (spec-told second holds a.0.b t.1 a.0.two t.3) ∙ ap (λ (bs : List (List ℕ)). Some bs) t.4

    by_mirror : (m : Bool) → joined_content m (content_held holds first) (content_held holds second) ≡ Some blocks → joined_content m a.0.a.content a.0.b.content ≡ Some blocks
    by_mirror false e = both stripe_blocks e
    by_mirror true e = both (λ xs ys. xs) e
