-- What mounting a volume does: its disks are attached, and its table is read.
use Rattle.std.proofs.Common.{◌≡◌, ℕ, ◌+◌, Bool, false, List, [], ◌∷◌, ◌++◌, map, Option, Some, None, refl, sym, ap, ◌∙◌, subst, arith, append-nil, append_assoc, inl, inr, replicate}
use Rattle.std.specs.Prelude.{IfSome, IsSomeAnd, MatchOption, option_and_then}
use Rattle.std.specs.Option.{option_to_list}
use Rattle.std.proofs.lemmas.Bool.{false≢true}
use Rattle.std.proofs.lemmas.List.{map-append}
use Rattle.std.proofs.lemmas.List.Elements.{All-append, All-cons, All-nil}
use Rattle.std.proofs.lemmas.List.Sums.{sum_by-append}
use Rattle.block_device.specs.DiskSeen.{DiskKind, DiskSeen, HasBlocks, failures_told}
use Rattle.block_device.specs.Opening.{IsRackFault}
use Rattle.block_device.specs.RackSeen.{IsAttached, RackSeen, spec_number}
use Rattle.block_device.specs.declared.numbered.NumberedDisk.{NumberedDisk}
use Rattle.block_device.specs.declared.rack.Spec.{Spec}
use Rattle.block_device.specs.declared.rack.Spec.TheVariants as spec
use Rattle.block_device.specs.declared.unopened.AttachFault.TheVariants as fault
use Rattle.joined_disk.specs.JoinedSeen.{StandsFor, joined_seen}
use Rattle.joined_disk.specs.declared.joined.JoinedDisk.{JoinedDisk}
use Rattle.volume_disks.specs.Volumes.{IsDiskFor, StopsVolume, VolumeCause, attached_count, second_spec}
use Rattle.volume_disks.specs.declared.stops.Unattached.{Unattached}
use Rattle.volume_disks.specs.declared.stops.VolumeStop.{VolumeStop}
use Rattle.volume_disks.specs.declared.stops.VolumeStop.TheVariants as stop
use Rattle.volume_disks.specs.declared.volume_spec.VolumeSpec.{VolumeSpec}
use Rattle.volume_disks.specs.declared.volume_spec.VolumeSpec.TheVariants.{Plain, Joined}
use Rattle.volume_format.specs.Table.{TableSeen}
use Rattle.volume_files.specs.declared.stops.OpenStop.{OpenStop}
use Rattle.volume_files.specs.Attached.{bare_disks}
use Rattle.stored_files.specs.Written.{numbered_seen}
use Rattle.volume_files.specs.Handed.{members_of}
use Rattle.volume_files.specs.Mounting.{HaltsSpec, Holds, IsGiven, MountsOne, SaysTableRead, UnreadCause, unmounted_as}
use Rattle.volume_files.specs.Opened.{HasVolumeBlocks, IsVolumeAttached, size_refusal, volume_number}
use Rattle.volume_files.specs.Unfailed.{NoneCounted, UnlessRack}
use Rattle.stored_files.specs.Written.{OnlyReads}
use Rattle.volume_files.proofs.Unfailing.{none-told, rack-failed}
use Rattle.volume_files.proofs.VolumeSeen.{one_seen}

-- A disk of a volume that wasn't attached whole, if it was attached, by itself.
abbrev pub alone_seen : {D : Type 0} → (D → DiskSeen) → Option (NumberedDisk D) → List (ℕ × DiskSeen)
alone_seen seen disk = map (numbered_seen seen) (option_to_list disk)

pub alone_is : {D : Type 0} {disk : _} (seen : D → DiskSeen) (a : NumberedDisk D) (volume : NumberedDisk (JoinedDisk D disk)) → StandsFor seen a.disk None false volume.disk → volume.number ≡ a.number
    → numbered_seen (joined_seen seen) volume ≡ numbered_seen seen a
alone_is seen a volume stands number = let same = one_seen seen a.disk false volume.disk stands in λ i. (number i, same i)

pub pushed_as : {X : Type 0} (f : X → ℕ × DiskSeen) (xs ys : List X) (x : X) (d : ℕ × DiskSeen) → ys ≡ xs ++ x ∷ [] → f x ≡ d → map f ys ≡ map f xs ++ d ∷ []
pushed_as f xs ys x d is same = ap (map f) is ∙ (map-append f xs (x ∷ []) ∙ ap (λ (y : ℕ × DiskSeen). map f xs ++ y ∷ []) same)

-- ---- the volume wasn't attached whole

module _ {D : Type 0} (seen : D → DiskSeen) (has : (d : D) → HasBlocks (seen d).content (seen d).size) (old new : RackSeen) (front : List (ℕ × DiskSeen)) where
  given_one : (s : Spec) (d : NumberedDisk D) → IsDiskFor seen old.holds s d → IsGiven old.holds (Plain s) (numbered_seen seen d)
  given_one s d one = record { number = one.number; attached = (one.attached, λ i. (one.single i, one.once i)) }

  none_more : (front ++ []) ++ [] ≡ front
  none_more = append-nil (front ++ []) ∙ append-nil front

  plain_halts : (s : Spec) (first second : Option (NumberedDisk D)) (why : VolumeStop) → IfSome first (IsDiskFor seen old.holds s) → second ≡ None → VolumeCause seen old new (Plain s) first second why
      → HaltsSpec old.holds (Plain s) old.faults new.faults front ((front ++ alone_seen seen first) ++ alone_seen seen second) (unmounted_as why)
  plain_halts s first (Some d) why one two c = absurd (let z : ◌≡◌ {A = Option (NumberedDisk D)} (Some d) None = two in cc)
  plain_halts s None None (stop.Failed f) one two c = inl (record { same = none_more; cause = c })
  plain_halts s None None stop.Memory one two c = inl (record { same = none_more; cause = tt })
  plain_halts s None None (stop.Size n) one two c = absurd c
  plain_halts s None None stop.Unequal one two c = absurd c
  plain_halts s (Some d) None (stop.Failed f) one two c = absurd c
  plain_halts s (Some d) None stop.Memory one two c = absurd (false≢true c.1)
  plain_halts s (Some d) None (stop.Size n) one two c = absurd c
  plain_halts s (Some d) None stop.Unequal one two c = absurd c

  module _ (s t : Spec) (mirror : Bool) where
    joined_halts : (first second : Option (NumberedDisk D)) (why : VolumeStop) → IfSome first (IsDiskFor seen old.holds s) → IfSome second (IsDiskFor seen old.holds t)
        → VolumeCause seen old new (Joined s t mirror) first second why
        → HaltsSpec old.holds (Joined s t mirror) old.faults new.faults front ((front ++ alone_seen seen first) ++ alone_seen seen second) (unmounted_as why)
    joined_halts None (Some b) why one two c = absurd c
    joined_halts None None (stop.Failed f) one two c = inl (record { same = none_more; cause = c })
    joined_halts None None stop.Memory one two c = inl (record { same = none_more; cause = tt })
    joined_halts None None (stop.Size n) one two c = absurd c
    joined_halts None None stop.Unequal one two c = absurd c
    joined_halts (Some a) None (stop.Failed f) one two c = inr (inr (inl (record {
      first = s;
      second = t;
      mirror = mirror;
      joined = refl;
      disk = numbered_seen seen a;
      given = given_one s a one;
      behind = append-nil (front ++ numbered_seen seen a ∷ []);
      cause = c;
    })))
    joined_halts (Some a) None stop.Memory one two c = inr (inr (inl (record {
      first = s;
      second = t;
      mirror = mirror;
      joined = refl;
      disk = numbered_seen seen a;
      given = given_one s a one;
      behind = append-nil (front ++ numbered_seen seen a ∷ []);
      cause = tt;
    })))
    joined_halts (Some a) None (stop.Size n) one two c = absurd c
    joined_halts (Some a) None stop.Unequal one two c = absurd c
    joined_halts (Some a) (Some b) (stop.Failed f) one two c = absurd c
    joined_halts (Some a) (Some b) stop.Memory one two c = inr (inr (inr (record {
      first = s;
      second = t;
      mirror = mirror;
      joined = refl;
      a = numbered_seen seen a;
      b = numbered_seen seen b;
      one = given_one s a one;
      two = given_one t b two;
      one_whole = has a.disk;
      two_whole = has b.disk;
      behind = append_assoc front (numbered_seen seen a ∷ []) (numbered_seen seen b ∷ []);
      cause = c.1;
    })))
    joined_halts (Some a) (Some b) (stop.Size n) one two c = inr (inr (inr (record {
      first = s;
      second = t;
      mirror = mirror;
      joined = refl;
      a = numbered_seen seen a;
      b = numbered_seen seen b;
      one = given_one s a one;
      two = given_one t b two;
      one_whole = has a.disk;
      two_whole = has b.disk;
      behind = append_assoc front (numbered_seen seen a ∷ []) (numbered_seen seen b ∷ []);
      cause = ap (option_and_then size_refusal) c.1;
    })))
    joined_halts (Some a) (Some b) stop.Unequal one two c = inr (inr (inr (record {
      first = s;
      second = t;
      mirror = mirror;
      joined = refl;
      a = numbered_seen seen a;
      b = numbered_seen seen b;
      one = given_one s a one;
      two = given_one t b two;
      one_whole = has a.disk;
      two_whole = has b.disk;
      behind = append_assoc front (numbered_seen seen a ∷ []) (numbered_seen seen b ∷ []);
      cause = ap (option_and_then size_refusal) c.1;
    })))

  pub volume_halts : (v : VolumeSpec) (u : Unattached D) (mid disks : List (ℕ × DiskSeen)) (how : OpenStop) → StopsVolume seen old new v u → mid ≡ front ++ alone_seen seen u.first → disks ≡ mid ++ alone_seen seen u.second
      → how ≡ unmounted_as u.why → HaltsSpec old.holds v old.faults new.faults front disks how
  volume_halts v u mid disks how h one two why =
      let all : disks ≡ (front ++ alone_seen seen u.first) ++ alone_seen seen u.second = two ∙ ap (λ (ds : List (ℕ × DiskSeen)). ds ++ alone_seen seen u.second) one in
      subst (λ (x : OpenStop). HaltsSpec old.holds v old.faults new.faults front disks x) (sym why)
      (subst (λ (ds : List (ℕ × DiskSeen)). HaltsSpec old.holds v old.faults new.faults front ds (unmounted_as u.why)) (sym all) (at v h))
    where
      at : (x : VolumeSpec) → StopsVolume seen old new x u → HaltsSpec old.holds x old.faults new.faults front ((front ++ alone_seen seen u.first) ++ alone_seen seen u.second) (unmounted_as u.why)
      at (Plain s) h = plain_halts s u.first u.second u.why h.one h.two h.cause
      at (Joined s t mirror) h = joined_halts s t mirror u.first u.second u.why h.one h.two h.cause

-- nobody counted a fault, unless the rack failed
stop_still : {D : Type 0} (seen : D → DiskSeen) (old new : RackSeen) (v : VolumeSpec) (first second : Option (NumberedDisk D)) (why : VolumeStop) → VolumeCause seen old new v first second why
    → UnlessRack (unmounted_as why) (new.faults ≡ old.faults)
stop_still seen old new v None (Some b) (stop.Failed f) c = absurd c
stop_still seen old new v None None (stop.Failed f) c = rack-failed (new.faults ≡ old.faults) f c.1
stop_still seen old new v (Some a) None (stop.Failed f) c = rack-failed (new.faults ≡ old.faults) f (some_fault (second_spec v) c)
  where
    some_fault : (o : Option Spec) → IsSomeAnd o (λ s. IsRackFault old new (spec_number s) (fault.Failed f)) → f.counts ≡ None
    some_fault None c = absurd c
    some_fault (Some s) c = c.1
stop_still seen old new v (Some a) (Some b) (stop.Failed f) c = absurd c
stop_still seen old new v None (Some b) stop.Memory c = absurd c
stop_still seen old new v None None stop.Memory c = c
stop_still seen old new v (Some a) None stop.Memory c = c.0
stop_still seen old new v (Some a) (Some b) stop.Memory c = c.0
stop_still seen old new v None (Some b) (stop.Size n) c = absurd c
stop_still seen old new v None None (stop.Size n) c = absurd c
stop_still seen old new v (Some a) None (stop.Size n) c = absurd c
stop_still seen old new v (Some a) (Some b) (stop.Size n) c = c.0
stop_still seen old new v None (Some b) stop.Unequal c = absurd c
stop_still seen old new v None None stop.Unequal c = absurd c
stop_still seen old new v (Some a) None stop.Unequal c = absurd c
stop_still seen old new v (Some a) (Some b) stop.Unequal c = c.0

pub volume_still : {D : Type 0} (seen : D → DiskSeen) (old new : RackSeen) (v : VolumeSpec) (u : Unattached D) (how : OpenStop) → StopsVolume seen old new v u → how ≡ unmounted_as u.why
    → UnlessRack how (new.faults ≡ old.faults)
volume_still seen old new v u how h why = subst (λ (x : OpenStop). UnlessRack x (new.faults ≡ old.faults)) (sym why) (stop_still seen old new v u.first u.second u.why h.cause)

-- Each of its disks is one disk, which counted no fault.
abbrev IsFresh : {D : Type 0} → (D → DiskSeen) → NumberedDisk D → Type 0
IsFresh seen d = ((seen d.disk).kind.members ≡ 1) × ((seen d.disk).faults ≡ 0)

first_fresh : {D : Type 0} (seen : D → DiskSeen) (holds : Holds) (s : Spec) (o : Option (NumberedDisk D)) → IfSome o (IsDiskFor seen holds s) → IfSome o (IsFresh seen)
first_fresh seen holds s None h = tt
first_fresh seen holds s (Some d) h = (h.single, h.unfailed)

second_fresh : {D : Type 0} (seen : D → DiskSeen) (holds : Holds) (v : VolumeSpec) (o : Option (NumberedDisk D)) → MatchOption (second_spec v) (o ≡ None) (λ s. IfSome o (IsDiskFor seen holds s))
    → IfSome o (IsFresh seen)
second_fresh {D} seen holds (Plain s) o h = subst (λ (x : Option (NumberedDisk D)). IfSome x (IsFresh seen)) (sym h) tt
second_fresh seen holds (Joined s t mirror) o h = first_fresh seen holds t o h

members_alone : {D : Type 0} (seen : D → DiskSeen) (xs : List (ℕ × DiskSeen)) (o : Option (NumberedDisk D)) → IfSome o (IsFresh seen)
    → members_of (bare_disks (xs ++ alone_seen seen o)) ≡ members_of (bare_disks xs) + attached_count o
members_alone seen xs None one =
    let same : members_of (bare_disks xs) ≡ members_of (bare_disks xs) + 0 = omega arith in
    ap (λ (ys : List (ℕ × DiskSeen)). members_of (bare_disks ys)) (append-nil xs) ∙ same
members_alone seen xs (Some d) one =
    let more = ap members_of (map-append (λ (x : ℕ × DiskSeen). x.1) xs (numbered_seen seen d ∷ [])) ∙ sum_by-append (λ (x : DiskSeen). x.kind.members) (bare_disks xs) (seen d.disk ∷ []) in
    let count = one.0 in
    more ∙ (let sum : members_of (bare_disks xs) + members_of (seen d.disk ∷ []) ≡ members_of (bare_disks xs) + 1 = omega (arith, count) in sum)

pub members_back : {D : Type 0} (seen : D → DiskSeen) (old new : RackSeen) (v : VolumeSpec) (u : Unattached D) (front mid disks : List (ℕ × DiskSeen)) → StopsVolume seen old new v u
    → mid ≡ front ++ alone_seen seen u.first → disks ≡ mid ++ alone_seen seen u.second → new.attached ≡ old.attached + (attached_count u.first + attached_count u.second)
    → new.attached + members_of (bare_disks front) ≡ old.attached + members_of (bare_disks disks)
members_back seen old new v u front mid disks h one two counted =
    let first = ap (λ (ds : List (ℕ × DiskSeen)). members_of (bare_disks ds)) one ∙ members_alone seen front u.first (first_fresh seen old.holds _ u.first h.one) in
    let second = ap (λ (ds : List (ℕ × DiskSeen)). members_of (bare_disks ds)) two ∙ members_alone seen mid u.second (second_fresh seen old.holds v u.second h.two) in
    omega (arith, first, second, counted)

none_alone : {D : Type 0} (seen : D → DiskSeen) (xs : List (ℕ × DiskSeen)) (o : Option (NumberedDisk D)) → IfSome o (IsFresh seen) → NoneCounted xs → NoneCounted (xs ++ alone_seen seen o)
none_alone seen xs None fresh none = All-append (λ (d : ℕ × DiskSeen). failures_told d.1 ≡ 0) xs [] none (All-nil (λ (d : ℕ × DiskSeen). failures_told d.1 ≡ 0))
none_alone seen xs (Some d) fresh none =
    All-append (λ (d : ℕ × DiskSeen). failures_told d.1 ≡ 0) xs (numbered_seen seen d ∷ []) none
    (All-cons (λ (d : ℕ × DiskSeen). failures_told d.1 ≡ 0) (numbered_seen seen d) [] (none-told (seen d.disk) fresh.1) (All-nil (λ (d : ℕ × DiskSeen). failures_told d.1 ≡ 0)))

pub none_back : {D : Type 0} (seen : D → DiskSeen) (old new : RackSeen) (v : VolumeSpec) (u : Unattached D) (front mid disks : List (ℕ × DiskSeen)) → StopsVolume seen old new v u
    → mid ≡ front ++ alone_seen seen u.first → disks ≡ mid ++ alone_seen seen u.second → NoneCounted front → NoneCounted disks
none_back seen old new v u front mid disks h one two none =
    let first = subst (λ (ds : List (ℕ × DiskSeen)). NoneCounted ds) (sym one) (none_alone seen front u.first (first_fresh seen old.holds _ u.first h.one) none) in
    subst (λ (ds : List (ℕ × DiskSeen)). NoneCounted ds) (sym two) (none_alone seen mid u.second (second_fresh seen old.holds v u.second h.two) first)

-- ---- the volume was attached, and its block 0 was asked for

attached_still : (s : Spec) (h : Option (List (List ℕ))) (d e : DiskSeen) → e.content ≡ d.content → e.size ≡ d.size → IsAttached s h d → IsAttached s h e
attached_still (spec.Blank number blocks) h d e content size a =
    (size ∙ a.0, subst (λ (o : Option (List (List ℕ))). IfSome o (λ (c : List (List ℕ)). c ≡ replicate blocks (replicate 4096 0))) (sym content) a.1)
attached_still (spec.Path number path) h d e content size a = content ∙ a

blocks_read : (holds : Holds) (v : VolumeSpec) (d e : DiskSeen) → OnlyReads d e → HasVolumeBlocks holds v d → HasVolumeBlocks holds v e
blocks_read holds (Plain s) d e r a = attached_still s (holds s) d e r.content r.size a
blocks_read holds (Joined first second mirror) d e r j = record {
  a = j.a;
  b = j.b;
  one = j.one;
  two = j.two;
  one_whole = j.one_whole;
  two_whole = j.two_whole;
  fit = j.fit;
  size = r.size ∙ j.size;
  content = r.content ∙ j.content;
}

volume_read : (holds : Holds) (v : VolumeSpec) (d e : DiskSeen) → OnlyReads d e → IsVolumeAttached holds v d → IsVolumeAttached holds v e
volume_read holds v d e r a = (blocks_read holds v d e r a.0, ap (λ (k : DiskKind). (k.members, k.mirror)) r.kind ∙ a.1)

module _ (holds : Holds) (v : VolumeSpec) (front disks : List (ℕ × DiskSeen)) (d : DiskSeen) (e : ℕ × DiskSeen) (given : IsVolumeAttached holds v d) (reads : OnlyReads d e.1) (number : e.0 ≡ volume_number v)
    (behind : disks ≡ front ++ e ∷ []) where
  pub mounts_one : (t : TableSeen) (tables_old tables_new : List TableSeen) → SaysTableRead e.1 t → tables_new ≡ tables_old ++ t ∷ [] → MountsOne holds v front disks tables_old tables_new
  mounts_one t tables_old tables_new says tables = record {
    disk = e;
    table = t;
    mounted = record {
      number = number;
      attached = volume_read holds v d e.1 reads given;
      some = says.some;
      few = says.few;
      blocks = says.blocks;
      volume = says.volume;
      read = says.read;
    };
    disks = behind;
    tables = tables;
  }

  pub halts_unread : (n : ℕ) (old new : ℕ) (how : OpenStop) → e.0 ≡ n → UnreadCause (n, e.1) how → HaltsSpec holds v old new front disks how
  halts_unread n old new how same cause = inr (inl (record {
    disk = e;
    given = record { number = number; attached = volume_read holds v d e.1 reads given };
    behind = behind;
    cause = subst (λ (m : ℕ). UnreadCause (m, e.1) how) (sym same) cause;
  }))
