-- The disks that volumes stand for, as lists.
use Rattle.std.proofs.Common.{◌≡◌, ◌≢◌, Bool, true, false, ℕ, zero, suc, ◌+◌, ◌<◌, ◌≤◌, List, [], ◌∷◌, ◌++◌, length, map, Option, Some, None, refl, sym, ap, ◌∙◌, subst, arith}
use Rattle.std.specs.Prelude.{◌==◌, All, IfSome, option_map, slice_index_or, zip}
use Rattle.std.specs.List.{AllByRecursion, IsDistinct, flat_map}
use Rattle.std.specs.List.Sorted.{IsNonDecreasingBy, IsPermutation, IsStrictlyIncreasing}
use Rattle.std.specs.Option.{option_to_list}
use Rattle.std.proofs.lemmas.Bool.{eq-eqb, false≢true}
use Rattle.std.proofs.lemmas.Grind.{flat_map-append}
use Rattle.std.proofs.lemmas.List.{append-nil, append_assoc, get_or-map, length-append, length-map, map-append}
use Rattle.std.proofs.lemmas.List.Elements.{All-head, All-tail}
use Rattle.std.proofs.lemmas.List.Sorted.{IsPermutation-map}
use Rattle.std.proofs.lemmas.List.Sums.{sum_by-cons}
use Rattle.std.proofs.lemmas.Map.Keys.{IsDistinct-IsPermutation}
use Rattle.std.proofs.lemmas.Option.{get_or_from_slice_get, same_Some, slice_get_within}
use Rattle.volume_files.specs.block_device.DiskSeen.{DiskSeen}
use Rattle.volume_files.specs.joined_disk.JoinedSeen.{IsBoth, IsSeenBy, joined_parts, joined_seen}
use Rattle.volume_files.specs.joined_disk.declared.joined.JoinedDisk.{JoinedDisk}
use Rattle.volume_files.specs.volume_disks.Singles.{as_single, single_seen}
use Rattle.volume_files.specs.volume_disks.declared.single.Single.{Single}
use Rattle.volume_files.specs.Handed.{members_of}
use Rattle.vm_core.proofs.vm_world.ForkEvents.{same-test}
use Rattle.volume_files.proofs.DiskLists.{in-map}
use Rattle.run_outcome.specs.MemberRooms.{IsSeenByParts, volume_parts, numbered}
use Rattle.run_outcome.specs.Members.{AreSeenBy, RiseBy, all_disks, both_disks}

-- ---- disks under numbers

numbered-more : {D : Type 0} (ns : List ℕ) (xs : List D) (d : D) → numbered ns (xs ++ d ∷ []) ≡ numbered ns xs ++ (slice_index_or ns (length xs) 8, d) ∷ []
numbered-more [] [] d = refl
numbered-more (n ∷ ns) [] d = refl
numbered-more [] (x ∷ xs) d = ap (λ l. (8, x) ∷ l) (numbered-more [] xs d)
numbered-more (n ∷ ns) (x ∷ xs) d = ap (λ l. (n, x) ∷ l) (numbered-more ns xs d)

numbered-length : {D : Type 0} (ns : List ℕ) (xs : List D) → length (numbered ns xs) ≡ length xs
numbered-length ns [] = refl
numbered-length [] (x ∷ xs) = ap suc (numbered-length [] xs)
numbered-length (n ∷ ns) (x ∷ xs) = ap suc (numbered-length ns xs)

-- one more disk at the end
pub numbered-put : {D : Type 0} (ns : List ℕ) (xs : List D) (d : D) (old new : List (ℕ × D)) → old ≡ numbered ns xs → new ≡ old ++ (slice_index_or ns (length old) 8, d) ∷ []
    → new ≡ numbered ns (xs ++ d ∷ [])
numbered-put {D} ns xs d old new before is =
    is ∙ ap (λ (l : List (ℕ × D)). l ++ (slice_index_or ns (length l) 8, d) ∷ []) before
    ∙ ap (λ (n : ℕ). numbered ns xs ++ (slice_index_or ns n 8, d) ∷ []) (numbered-length ns xs) ∙ sym (numbered-more ns xs d)

-- and two
pub numbered-two : {D : Type 0} (ns : List ℕ) (xs : List D) (d e : D) (old mid new : List (ℕ × D)) → old ≡ numbered ns xs → mid ≡ old ++ (slice_index_or ns (length old) 8, d) ∷ []
    → new ≡ mid ++ (slice_index_or ns (length mid) 8, e) ∷ [] → new ≡ numbered ns (xs ++ d ∷ e ∷ [])
numbered-two ns xs d e old mid new before one two =
    numbered-put ns (xs ++ d ∷ []) e mid new (numbered-put ns xs d old mid before one) two ∙ ap (numbered ns) (append_assoc xs (d ∷ []) (e ∷ []))

numbered-bare : {D : Type 0} (ns : List ℕ) (xs : List D) → map (λ (d : ℕ × D). d.1) (numbered ns xs) ≡ xs
numbered-bare ns [] = refl
numbered-bare [] (x ∷ xs) = ap (λ l. x ∷ l) (numbered-bare [] xs)
numbered-bare (n ∷ ns) (x ∷ xs) = ap (λ l. x ∷ l) (numbered-bare ns xs)

numbered-zip : {D : Type 0} (ns : List ℕ) (xs : List D) → length xs ≤ length ns → numbered ns xs ≡ zip ns xs
numbered-zip [] [] few = refl
numbered-zip (n ∷ ns) [] few = refl
numbered-zip [] (x ∷ xs) few = absurd (omega (arith, few))
numbered-zip (n ∷ ns) (x ∷ xs) few = ap (λ l. (n, x) ∷ l) (numbered-zip ns xs (omega (arith, few)))

-- ---- numbers that differ and don't fall rise

abbrev number_of : ℕ × DiskSeen → ℕ
number_of d = d.0

first-differs : {X : Type 0} (n : ℕ) (ns : List ℕ) (xs : List X) → AllByRecursion (λ y. (n == y) ≡ false) ns → AllByRecursion (λ y. (n == y) ≡ false) (map (λ (d : ℕ × X). d.0) (zip ns xs))
first-differs n [] xs all = tt
first-differs n (m ∷ ns) [] all = tt
first-differs n (m ∷ ns) (x ∷ xs) all = (all.0, first-differs n ns xs all.1)

firsts-differ : (ns : List ℕ) (xs : List DiskSeen) → IsDistinct (λ (a b : ℕ). a == b) ns → IsDistinct (λ (a b : ℕ). a == b) (map number_of (zip ns xs))
unfolding IsDistinct
firsts-differ [] xs d = tt
firsts-differ (n ∷ ns) [] d = tt
firsts-differ (n ∷ ns) (x ∷ xs) d = (first-differs n ns xs d.0, firsts-differ ns xs d.1)

rising-firsts : (xs : List (ℕ × DiskSeen)) → IsNonDecreasingBy number_of xs → IsNonDecreasingBy (λ (n : ℕ). n) (map number_of xs)
rising-firsts [] rises i j d le lt = absurd (omega (arith, lt))
rising-firsts (x ∷ xs) rises i j d le lt =
    let long = length-map (x ∷ xs) number_of in
    let inside : j < length (x ∷ xs) = omega (arith, lt, long) in
    let before : i < length (x ∷ xs) = omega (arith, le, inside) in
    rw (get_or-map number_of (x ∷ xs) i x d before, get_or-map number_of (x ∷ xs) j x d inside) (rises i j x le inside)

neighbours-differ : (xs : List ℕ) (k : ℕ) → IsDistinct (λ (a b : ℕ). a == b) xs → suc k < length xs → slice_index_or xs k 0 ≢ slice_index_or xs (suc k) 0
unfolding IsDistinct
neighbours-differ [] k d lt = absurd (omega (arith, lt))
neighbours-differ (x ∷ []) k d lt = absurd (omega (arith, lt))
neighbours-differ (x ∷ y ∷ xs) zero d lt = λ same. false≢true (sym d.0.0 ∙ eq-eqb x y same)
neighbours-differ (x ∷ y ∷ xs) (suc k) d lt = neighbours-differ (y ∷ xs) k d.1 (omega (arith, lt))

strict : (xs : List ℕ) → IsDistinct (λ (a b : ℕ). a == b) xs → IsNonDecreasingBy (λ (n : ℕ). n) xs → IsStrictlyIncreasing xs
strict xs d rises k lt =
    let next : k + 1 ≡ suc k = omega arith in
    let le = rises k (k + 1) 0 (omega arith) lt in
    let ne = subst (λ (m : ℕ). slice_index_or xs k 0 ≢ slice_index_or xs m 0) (sym next) (neighbours-differ xs k d (omega (arith, lt))) in
    omega (arith, le, ne)

module _ {D : Type 0} (seen : D → DiskSeen) where
  abbrev pair_seen : ℕ × D → ℕ × DiskSeen
  pair_seen d = (d.0, seen d.1)

  numbered-seen : (ns : List ℕ) (xs : List D) → map pair_seen (numbered ns xs) ≡ numbered ns (map seen xs)
  numbered-seen ns [] = refl
  numbered-seen [] (x ∷ xs) = ap (λ l. (8, seen x) ∷ l) (numbered-seen [] xs)
  numbered-seen (n ∷ ns) (x ∷ xs) = ap (λ l. (n, seen x) ∷ l) (numbered-seen ns xs)

  bare-seen : (xs : List (ℕ × D)) → map seen (map (λ (d : ℕ × D). d.1) xs) ≡ map (λ (d : ℕ × DiskSeen). d.1) (map pair_seen xs)
  bare-seen [] = refl
  bare-seen (x ∷ xs) = ap (λ l. seen x.1 ∷ l) (bare-seen xs)

  rising-seen : (xs : List (ℕ × D)) → IsNonDecreasingBy (λ (d : ℕ × D). d.0) xs → IsNonDecreasingBy (λ (d : ℕ × DiskSeen). d.0) (map pair_seen xs)
  rising-seen [] rises i j d le lt = absurd (omega (arith, lt))
  rising-seen (x ∷ xs) rises i j d le lt =
      let long = length-map (x ∷ xs) pair_seen in
      let inside : j < length (x ∷ xs) = omega (arith, lt, long) in
      let before : i < length (x ∷ xs) = omega (arith, le, inside) in
      rw (get_or-map pair_seen (x ∷ xs) i x d before, get_or-map pair_seen (x ∷ xs) j x d inside) (rises i j x le inside)

  -- disks that were sorted by their numbers, which differ
  pub rise-by : (ns : List ℕ) (xs : List D) (sorted : List (ℕ × D)) → IsDistinct (λ (a b : ℕ). a == b) ns → length xs ≤ length ns → IsPermutation (numbered ns xs) sorted → IsNonDecreasingBy (λ (d : ℕ × D). d.0) sorted
      → RiseBy ns (map seen xs) (map seen (map (λ (d : ℕ × D). d.1) sorted))
  rise-by ns xs sorted differ few moved rises =
      let long = length-map xs seen in
      let enough : length (map seen xs) ≤ length ns = omega (arith, few, long) in record {
        few = enough;
        order = map pair_seen sorted;
        same = same enough;
        rising = strict (map number_of (map pair_seen sorted))
            (IsDistinct-IsPermutation (λ (a b : ℕ). a == b) same-test (map number_of (zip ns (map seen xs))) (map number_of (map pair_seen sorted))
            (IsPermutation-map number_of (zip ns (map seen xs)) (map pair_seen sorted) (same enough)) (firsts-differ ns (map seen xs) differ))
            (rising-firsts (map pair_seen sorted) (rising-seen sorted rises));
        bare = bare-seen sorted;
      }
    where
      same : length (map seen xs) ≤ length ns → IsPermutation (zip ns (map seen xs)) (map pair_seen sorted)
      same enough = subst (λ (l : List (ℕ × DiskSeen)). IsPermutation l (map pair_seen sorted)) (numbered-seen ns xs ∙ numbered-zip ns (map seen xs) enough)
          (IsPermutation-map pair_seen (numbered ns xs) sorted moved)

  pub all-back : (ns : List ℕ) (xs : List D) (sorted : List (ℕ × D)) → IsPermutation (numbered ns xs) sorted
      → IsPermutation (map seen xs) (map seen (map (λ (d : ℕ × D). d.1) sorted))
  all-back ns xs sorted moved =
      subst (λ (l : List D). IsPermutation (map seen l) (map seen (map (λ (d : ℕ × D). d.1) sorted))) (numbered-bare ns xs)
      (IsPermutation-map seen (map (λ (d : ℕ × D). d.1) (numbered ns xs)) (map (λ (d : ℕ × D). d.1) sorted)
      (IsPermutation-map (λ (d : ℕ × D). d.1) (numbered ns xs) sorted moved))

-- ---- the disks of volumes

module _ {D : Type 0} {disk : _} where
  -- the disks of volumes, one behind the other
  abbrev pub parts_of : List (JoinedDisk (Single D) disk) → List D
  parts_of volumes = flat_map (λ v. both_disks (volume_parts v)) volumes

  -- one more volume
  pub parts-more : (volumes : List (JoinedDisk (Single D) disk)) (v : JoinedDisk (Single D) disk) → parts_of (volumes ++ v ∷ []) ≡ parts_of volumes ++ both_disks (volume_parts v)
  parts-more volumes v = flat_map-append (λ w. both_disks (volume_parts w)) volumes (v ∷ []) ∙ ap (λ l. parts_of volumes ++ l) (append-nil (both_disks (volume_parts v)))

module _ {D : Type 0} {disk : _} (v : JoinedDisk (Single D) disk) where
  -- by what its parts are
  pub parts-two : (a b : Single D) → joined_parts v ≡ (a, Some b) → both_disks (volume_parts v) ≡ a.disk ∷ b.disk ∷ []
  parts-two a b is = ap (λ (p : Single D × Option (Single D)). p.0.disk ∷ option_to_list (option_map (λ (s : Single D). s.disk) p.1)) is

  pub parts-one : (a : Single D) → joined_parts v ≡ (a, None) → both_disks (volume_parts v) ≡ a.disk ∷ []
  parts-one a is = ap (λ (p : Single D × Option (Single D)). p.0.disk ∷ option_to_list (option_map (λ (s : Single D). s.disk) p.1)) is

-- how many disks a volume is, by how it is seen
pub count-seen : (a : DiskSeen) (b : Option DiskSeen) (v : DiskSeen) → IsSeenBy (as_single a) (option_map as_single b) v → v.kind.members ≡ length (both_disks (a, b))
count-seen a None v is = ap (λ (d : DiskSeen). d.kind.members) is
count-seen a (Some b) v is = both v.kind.mirror is.1
  where
    both : (mirror : Bool) → IsBoth mirror (as_single a) (as_single b) v → v.kind.members ≡ 2
    both true mirror = ap (λ (d : DiskSeen). d.kind.members) mirror.seen
    both false stripe = ap (λ (d : DiskSeen). d.kind.members) stripe

module _ {D : Type 0} (seen : D → DiskSeen) where
  option-seen : (o : Option D) → map seen (option_to_list o) ≡ option_to_list (option_map seen o)
  option-seen None = refl
  option-seen (Some d) = refl

  second-single : (o : Option (Single D)) → option_map (single_seen seen) o ≡ option_map as_single (option_map seen (option_map (λ (s : Single D). s.disk) o))
  second-single None = refl
  second-single (Some s) = refl

module _ {D : Type 0} {disk : _} (seen : D → DiskSeen) where
  -- what is seen of a volume's disks
  abbrev pub parts_seen : JoinedDisk (Single D) disk → DiskSeen × Option DiskSeen
  parts_seen v = (seen (volume_parts v).0, option_map seen (volume_parts v).1)

  -- all disks of volumes
  pub all-seen : (volumes : List (JoinedDisk (Single D) disk)) → map seen (parts_of volumes) ≡ all_disks (map parts_seen volumes)
  all-seen [] = refl
  all-seen (v ∷ volumes) =
      map-append seen (both_disks (volume_parts v)) (parts_of volumes)
      ∙ (ap (λ l. (seen (volume_parts v).0 ∷ l) ++ map seen (parts_of volumes)) (option-seen seen (volume_parts v).1)
      ∙ ap (λ l. both_disks (parts_seen v) ++ l) (all-seen volumes))

  by-parts : (v : JoinedDisk (Single D) disk) → IsSeenByParts (single_seen seen) v → IsSeenBy (as_single (parts_seen v).0) (option_map as_single (parts_seen v).1) (joined_seen (single_seen seen) v)
  by-parts v is = subst (λ (o : Option DiskSeen). IsSeenBy (as_single (parts_seen v).0) o (joined_seen (single_seen seen) v)) (second-single seen (joined_parts v).1) is

  pub volumes-seen : (volumes : List (JoinedDisk (Single D) disk)) → All (IsSeenByParts (single_seen seen)) volumes → AreSeenBy (map parts_seen volumes) (map (joined_seen (single_seen seen)) volumes)
  volumes-seen volumes all = record {
    count = length-map volumes parts_seen ∙ sym (length-map volumes (joined_seen (single_seen seen)));
    each = λ i p v at is.
        let a = in-map parts_seen volumes i p at in
        let b = in-map (joined_seen (single_seen seen)) volumes i v is in
        let same : b.0 ≡ a.0 = same_Some b.0 a.0 (sym b.1 ∙ a.1) in
        let here : slice_index_or volumes i a.0 ≡ a.0 = get_or_from_slice_get volumes i a.0 a.0 a.1 in
        let by : IsSeenByParts (single_seen seen) a.0 = subst (IsSeenByParts (single_seen seen)) here (all i a.0 (slice_get_within volumes i a.0 a.1)) in
        rw (sym a.2, sym b.2, same) (by-parts a.0 by);
  }

  -- they are as many as the volumes count
  pub as-many : (volumes : List (JoinedDisk (Single D) disk)) → All (IsSeenByParts (single_seen seen)) volumes → members_of (map (joined_seen (single_seen seen)) volumes) ≡ length (parts_of volumes)
  as-many [] all = refl
  as-many (v ∷ volumes) all =
      let rest = as-many volumes (All-tail (IsSeenByParts (single_seen seen)) v volumes all) in
      let head = count-seen (parts_seen v).0 (parts_seen v).1 (joined_seen (single_seen seen) v) (by-parts v (All-head (IsSeenByParts (single_seen seen)) v volumes all)) in
      let one = both-many v in
      let more = sum_by-cons (λ (d : DiskSeen). d.kind.members) (joined_seen (single_seen seen) v) (map (joined_seen (single_seen seen)) volumes) in
      let long = length-append (both_disks (volume_parts v)) (parts_of volumes) in
      omega (arith, rest, head, one, more, long)
    where
      both-many : (v : JoinedDisk (Single D) disk) → length (both_disks (parts_seen v)) ≡ length (both_disks (volume_parts v))
      both-many v = by (volume_parts v).1
        where
          by : (o : Option D) → suc (length (option_to_list (option_map seen o))) ≡ suc (length (option_to_list o))
          by None = refl
          by (Some d) = refl

  -- the swap disk, which is one
  pub swap-seen : (swap : Option (JoinedDisk (Single D) disk)) → IfSome swap (IsSeenByParts (single_seen seen)) → IfSome (option_map (joined_seen (single_seen seen)) swap) (λ d. d.kind.members ≡ 1)
      → option_map (joined_seen (single_seen seen)) swap ≡ option_map as_single (option_map seen (option_map (λ v. (volume_parts v).0) swap))
  swap-seen None is one = refl
  swap-seen (Some v) is one = by (parts_seen v).1 (by-parts v is)
    where
      by : (o : Option DiskSeen) → IsSeenBy (as_single (parts_seen v).0) (option_map as_single o) (joined_seen (single_seen seen) v)
          → ◌≡◌ {A = Option DiskSeen} (Some (joined_seen (single_seen seen) v)) (Some (as_single (parts_seen v).0))
      by None is = ap (λ (d : DiskSeen). Some d) is
      by (Some b) is =
          let two = count-seen (parts_seen v).0 (Some b) (joined_seen (single_seen seen) v) is in
          absurd (omega (arith, two, one))
