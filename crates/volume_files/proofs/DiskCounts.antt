-- How many disks there are, those that a disk stands for counted each.
use Rattle.std.specs.Prelude.{ℕ, ◌≡◌, ◌+◌, Bool, List, [], ◌∷◌, ◌++◌, length, map, slice_get, Option, Some, option_map}
use Rattle.std.proofs.Common.{ap, sym, ◌∙◌, refl, suc, arith}
use Rattle.std.proofs.lemmas.List.Sums.{sum_by-cons}
use Rattle.block_device.specs.DiskSeen.{DiskKind, DiskSeen}
use Rattle.block_device.specs.declared.numbered.NumberedDisk.{NumberedDisk}
use Rattle.block_device.specs.declared.rack.Spec.{Spec}
use Rattle.volume_disks.specs.declared.volume_spec.VolumeSpec.{VolumeSpec}
use Rattle.volume_format.specs.Table.{TableSeen}
use Rattle.volume_files.specs.Attached.{AreMounted, bare_disks}
use Rattle.stored_files.specs.Written.{numbered_seen}
use Rattle.volume_files.specs.Opened.{disk_kind, spec_kind}
use Rattle.volume_files.specs.Handed.{kinds_of, member_count, members_of, swap_members}
use Rattle.volume_files.specs.Placing.{RemainThere}
use Rattle.stored_files.specs.Written.{AreOnlyRead, WriteTables}
use Rattle.volume_files.proofs.HandLemmas.{SameDisks, same-disks}
use Rattle.volume_files.proofs.Unfailing.{bare-handed, swap-handed}

-- disks and a swap disk that are the same
pub count-as : {A B : Type 0} (f : A → List DiskSeen) (g : B → Option DiskSeen) (a b : A) (v w : B) → a ≡ b → v ≡ w → member_count (f a) (g v) ≡ member_count (f b) (g w)
count-as f g a b v w one other =
    let disks = ap (λ x. members_of (f x)) one in
    let swap = ap (λ x. swap_members (g x)) other in
    omega (arith, disks, swap)

members-more : (d : DiskSeen) (ds : List DiskSeen) → members_of (d ∷ ds) ≡ d.kind.members + members_of ds
members-more d ds = sum_by-cons (λ (x : DiskSeen). x.kind.members) d ds

-- disks of the same kinds are as many
pub members-kinds : (ds es : List (ℕ × DiskSeen)) → kinds_of ds ≡ kinds_of es → members_of (bare_disks ds) ≡ members_of (bare_disks es)
members-kinds [] [] same = refl
members-kinds [] (e ∷ es) same = absurd (let z : ◌≡◌ {A = List DiskKind} [] (e.1.kind ∷ kinds_of es) = same in cc)
members-kinds (d ∷ ds) [] same = absurd (let z : ◌≡◌ {A = List DiskKind} (d.1.kind ∷ kinds_of ds) [] = same in cc)
members-kinds (d ∷ ds) (e ∷ es) same =
    let z : ◌≡◌ {A = List DiskKind} (d.1.kind ∷ kinds_of ds) (e.1.kind ∷ kinds_of es) = same in
    let first : d.1.kind ≡ e.1.kind = cc in
    let rest : kinds_of ds ≡ kinds_of es = cc in
    members-more d.1 (bare_disks ds) ∙ ap (λ (k : DiskKind). k.members + members_of (bare_disks ds)) first
    ∙ ap (λ (n : ℕ). e.1.kind.members + n) (members-kinds ds es rest) ∙ sym (members-more e.1 (bare_disks es))

-- lists that agree place by place
pub same-maps : {A B X : Type 0} (f : A → X) (g : B → X) (xs : List A) (ys : List B) → length xs ≡ length ys
    → ((i : ℕ) (x : A) (y : B) → slice_get xs i ≡ Some x → slice_get ys i ≡ Some y → f x ≡ g y) → map f xs ≡ map g ys
same-maps f g [] [] long same = refl
same-maps f g [] (y ∷ ys) long same = absurd (omega (arith, long))
same-maps f g (x ∷ xs) [] long same = absurd (omega (arith, long))
same-maps {A} {B} {X} f g (x ∷ xs) (y ∷ ys) long same =
    ap (λ (z : X). z ∷ map f xs) (same 0 x y refl refl) ∙ ap (λ (zs : List X). g y ∷ zs) (same-maps f g xs ys (omega (arith, long)) (λ i a b p q. same (suc i) a b p q))

abbrev kind_of : ℕ × DiskSeen → DiskKind
kind_of d = d.1.kind

pub kinds-written : (old new : List (ℕ × DiskSeen)) → WriteTables old new → kinds_of new ≡ kinds_of old
kinds-written old new w = same-maps kind_of kind_of new old w.count (λ i e d now was. (w.each i d e was now).kind)

pub kinds-read : (old new : List (ℕ × DiskSeen)) → AreOnlyRead old new → kinds_of new ≡ kinds_of old
kinds-read old new r = same-maps kind_of kind_of new old r.count (λ i e d now was. (r.each i d e was now).kind)

-- what is told of each of them by its kind
kinds-told : (ds : List (ℕ × DiskSeen)) → map disk_kind (bare_disks ds) ≡ map (λ (k : DiskKind). (k.members, k.mirror)) (kinds_of ds)
kinds-told [] = refl
kinds-told (d ∷ ds) = ap (λ l. disk_kind d.1 ∷ l) (kinds-told ds)

pub kinds-still : (ds es : List (ℕ × DiskSeen)) → kinds_of ds ≡ kinds_of es → map disk_kind (bare_disks ds) ≡ map disk_kind (bare_disks es)
kinds-still ds es same = kinds-told ds ∙ (ap (map (λ (k : DiskKind). (k.members, k.mirror))) same ∙ sym (kinds-told es))

pub kinds-mounted : (holds : Spec → Option (List (List ℕ))) (specs : List VolumeSpec) (ds : List (ℕ × DiskSeen)) (ts : List TableSeen) → AreMounted holds specs ds ts
    → map disk_kind (bare_disks ds) ≡ map spec_kind specs
kinds-mounted holds [] [] [] m = refl
kinds-mounted holds [] [] (t ∷ ts) m = absurd m
kinds-mounted holds [] (d ∷ ds) ts m = absurd m
kinds-mounted holds (s ∷ specs) [] ts m = absurd m
kinds-mounted holds (s ∷ specs) (d ∷ ds) [] m = absurd m
kinds-mounted holds (s ∷ specs) (d ∷ ds) (t ∷ ts) m =
    ap (λ (k : ℕ × Bool). k ∷ map disk_kind (bare_disks ds)) m.0.attached.1 ∙ ap (λ l. spec_kind s ∷ l) (kinds-mounted holds specs ds ts m.1)

-- disks on which files were written
module _ {D : Type 0} (seen : D → DiskSeen) where
  pub kinds-same : (ds es : List (NumberedDisk D)) → SameDisks seen ds es → kinds_of (map (numbered_seen seen) es) ≡ kinds_of (map (numbered_seen seen) ds)
  kinds-same [] [] r = refl
  kinds-same [] (e ∷ es) r = absurd r
  kinds-same (d ∷ ds) [] r = absurd r
  kinds-same (d ∷ ds) (e ∷ es) r = let rest = kinds-same ds es r.1 in λ i. r.0.kind i ∷ rest i

  pub members-remain : (ds es : List (NumberedDisk D)) → RemainThere seen ds es → members_of (bare_disks (map (numbered_seen seen) es)) ≡ members_of (bare_disks (map (numbered_seen seen) ds))
  members-remain ds es remain = members-kinds (map (numbered_seen seen) es) (map (numbered_seen seen) ds) (kinds-same ds es (same-disks seen ds es remain))

  -- one disk more behind the others
  members-behind : (ds : List (NumberedDisk D)) (d : NumberedDisk D) → members_of (bare_disks (map (numbered_seen seen) (ds ++ d ∷ []))) ≡ members_of (bare_disks (map (numbered_seen seen) ds)) + (seen d.disk).kind.members
  members-behind [] d = omega arith
  members-behind (x ∷ ds) d =
      let more = members-behind ds d in
      let all = members-more (seen x.disk) (bare_disks (map (numbered_seen seen) (ds ++ d ∷ []))) in
      let front = members-more (seen x.disk) (bare_disks (map (numbered_seen seen) ds)) in
      omega (arith, more, all, front)

  pub members-attached : (ds es : List (NumberedDisk D)) (d : NumberedDisk D) (count old new : ℕ) → es ≡ ds ++ d ∷ [] → (seen d.disk).kind.members ≡ count → new ≡ old + count
      → new + members_of (bare_disks (map (numbered_seen seen) ds)) ≡ old + members_of (bare_disks (map (numbered_seen seen) es))
  members-attached ds es d count old new is many counted =
      let all = ap (λ (xs : List (NumberedDisk D)). members_of (bare_disks (map (numbered_seen seen) xs))) is ∙ members-behind ds d in
      omega (arith, all, many, counted)

  -- disks as they are handed back
  pub count-handed : (xs : List (NumberedDisk D)) (w : Option (NumberedDisk D)) (ys : List D) (v : Option D) → ys ≡ map (λ (d : NumberedDisk D). d.disk) xs
      → v ≡ option_map (λ (d : NumberedDisk D). d.disk) w
      → member_count (map seen ys) (option_map seen v) ≡ member_count (bare_disks (map (numbered_seen seen) xs)) (option_map (λ (d : NumberedDisk D). seen d.disk) w)
  count-handed xs w ys v disks swap =
      let all = ap members_of (ap (map seen) disks ∙ bare-handed seen xs) in
      let last = ap swap_members (ap (option_map seen) swap ∙ swap-handed seen w) in
      omega (arith, all, last)

  -- disks that were only read
  pub count-read : (xs ys : List (NumberedDisk D)) (w v : Option (NumberedDisk D)) → AreOnlyRead (map (numbered_seen seen) xs) (map (numbered_seen seen) ys) → v ≡ w
      → member_count (bare_disks (map (numbered_seen seen) ys)) (option_map (λ (d : NumberedDisk D). seen d.disk) v)
      ≡ member_count (bare_disks (map (numbered_seen seen) xs)) (option_map (λ (d : NumberedDisk D). seen d.disk) w)
  count-read xs ys w v read same =
      let disks = members-kinds (map (numbered_seen seen) ys) (map (numbered_seen seen) xs) (kinds-read (map (numbered_seen seen) xs) (map (numbered_seen seen) ys) read) in
      let swap = ap (λ (x : Option (NumberedDisk D)). swap_members (option_map (λ (d : NumberedDisk D). seen d.disk) x)) same in
      omega (arith, disks, swap)
