-- The disks of a plan: their numbers, what is handed back of them, and the files as they are opened.
use Rattle.vm_report.proofs.vm_script.Places.{some_none as none-or-some}
use Rattle.volume_files.proofs.HeldVolumes.{held_length as held-length, volume_tells}
use Rattle.volume_files.proofs.MountDisks.{spec_size}
use Rattle.volume_files.proofs.MountSpecs.{volume_is}
use Rattle.std.specs.Prelude.{ℕ, zero, suc, ◌≡◌, ◌≢◌, ◌<◌, ◌≤◌, ◌+◌, ◌==◌, List, [], ◌∷◌, length, map, zip, filter_map, slice_get}
use Rattle.std.specs.Prelude.{slice_index_or, unwrap_or, IsSome, Option, Some, None, option_map, Result, Ok}
use Rattle.std.specs.List.{AllByRecursion, cons_option, range_with_len}
use Rattle.std.specs.Map.{lookup}
use Rattle.std.specs.Ordering.{nat_cmp}
use Rattle.std.specs.FinMap as finite
use Rattle.std.specs.Cmp.{nat_cmp_total, unsigned_tied}
use Rattle.std.proofs.Common.{ap, ◌∙◌, sym, subst, refl, arith, inl, inr, cond}
use Rattle.std.proofs.lemmas.Bool.{cases_eq, eq-eqb, ne_eqb}
use Rattle.block_device.specs.DiskSeen.{DiskSeen}
use Rattle.volume_disks.specs.declared.volume_spec.VolumeSpec.{VolumeSpec}
use Rattle.volume_disks.specs.declared.volume_spec.VolumeSpec.TheVariants.{Plain, Joined}
use Rattle.block_device.specs.declared.numbered.NumberedDisk.{NumberedDisk}
use Rattle.block_device.specs.declared.rack.Spec.{Spec}
use Rattle.block_device.specs.declared.rack.Spec.TheVariants as spec
use Rattle.volume_format.specs.vnode_files.Files.{block_count}
use Rattle.volume_format.specs.Table.{TableSeen}
use Rattle.vm_report.specs.vm_script.declared.plan.SetupLine.{SetupLine}
use Rattle.vm_report.specs.vm_script.PlanSeen.{PlanSeen}
use Rattle.volume_files.specs.declared.stops.Refusal.{Refusal}
use Rattle.volume_files.specs.Attached.{AreMounted, bare_disks}
use Rattle.stored_files.specs.Written.{numbered_seen}
use Rattle.volume_files.specs.Handed.{HaveSpecSizes, HasSpecSize, volume_numbers}
use Rattle.volume_files.specs.Opened.{IsVolumeAttached, OpenedFile, setup_volumes, size_held, mounted_files, if_few, volume_blocks, volume_number, volume_numbered, volumes_held}
use Rattle.volume_files.specs.Opened.{with_line_files, opened_files}
use Rattle.volume_files.specs.Placing.{Distinct, RemainsThere, RemainThere, found_files, attached_numbers}
use Rattle.volume_files.proofs.FoundLemmas.{AllBlocks}
use Rattle.volume_files.proofs.OpenLemmas.{mounted-found}

pub same_Some : {A : Type 0} (x y : A) → Some x ≡ Some y → x ≡ y
same_Some x y is = cc

-- the numbers of a plan's disks rise
abbrev Numbers : List SetupLine → ℕ → ℕ → List ℕ
Numbers setup a k = map volume_number (filter_map (volume_numbered setup) (range_with_len a k))

weaker : (a b : ℕ) (ns : List ℕ) → AllByRecursion (λ m. (a + 1 ≤ m) × (m < b)) ns → AllByRecursion (λ m. (a ≤ m) × (m < b)) ns × AllByRecursion (λ m. a ≢ m) ns
weaker a b [] all = (tt, tt)
weaker a b (n ∷ ns) all =
    let rest = weaker a b ns all.1 in
    let low = all.0.0 in
    (((omega (arith, low), all.0.1), rest.0), ((λ e. omega (arith, low, e)), rest.1))

numbers-rise : (setup : List SetupLine) (a k b : ℕ) → a + k ≡ b → AllByRecursion (λ m. (a ≤ m) × (m < b)) (Numbers setup a k) × Distinct (Numbers setup a k)
numbers-rise setup a zero b is = (tt, tt)
numbers-rise setup a (suc k) b is =
    let rest = numbers-rise setup (a + 1) k b (omega (arith, is)) in
    let w = weaker a b (Numbers setup (a + 1) k) rest.0 in
    elim (volume_numbered setup a) as (λ (o : Option VolumeSpec). volume_numbered setup a ≡ o → AllByRecursion (λ m. (a ≤ m) × (m < b))
    (map volume_number (cons_option o (filter_map (volume_numbered setup) (range_with_len (a + 1) k))))
    × Distinct (map volume_number (cons_option o (filter_map (volume_numbered setup) (range_with_len (a + 1) k))))) [
      | None ↦ λ none. (w.0, rest.1)
      | Some s ↦ λ some.
          let number : volume_number s ≡ a = volume_is setup a s some in
          (((omega (arith, number), omega (arith, number, is)), w.0), (subst (λ n. AllByRecursion (λ m. n ≢ m) (Numbers setup (a + 1) k)) (sym number) w.1, rest.1))
    ] refl

pub plan-numbers : (plan : PlanSeen) → AllByRecursion (λ m. (0 ≤ m) × (m < 8)) (volume_numbers plan) × Distinct (volume_numbers plan)
plan-numbers plan = numbers-rise plan.setup 0 8 8 refl

pub mounted-numbers : (holds : Spec → Option (List (List ℕ))) (specs : List VolumeSpec) (ds : List (ℕ × DiskSeen)) (ts : List TableSeen) → AreMounted holds specs ds ts
    → map (λ (d : ℕ × DiskSeen). d.0) ds ≡ map volume_number specs
mounted-numbers holds [] [] [] m = refl
mounted-numbers holds [] [] (t ∷ ts) m = absurd m
mounted-numbers holds [] (d ∷ ds) ts m = absurd m
mounted-numbers holds (s ∷ specs) [] ts m = absurd m
mounted-numbers holds (s ∷ specs) (d ∷ ds) [] m = absurd m
mounted-numbers holds (s ∷ specs) (d ∷ ds) (t ∷ ts) m =
    let rest = mounted-numbers holds specs ds ts m.1 in
    λ i. m.0.number i ∷ rest i

-- Disks one by one: each has its number and size, and no fewer faults.
abbrev pub SameDisks : {D : Type 0} → (D → DiskSeen) → List (NumberedDisk D) → List (NumberedDisk D) → Type 0
SameDisks seen [] [] = Unit {0}
SameDisks seen [] (e ∷ es) = ⊥
SameDisks seen (d ∷ ds) [] = ⊥
SameDisks seen (d ∷ ds) (e ∷ es) = RemainsThere seen d e × SameDisks seen ds es

pub same-disks : {D : Type 0} (seen : D → DiskSeen) (ds es : List (NumberedDisk D)) → RemainThere seen ds es → SameDisks seen ds es
same-disks seen [] [] r = tt
same-disks seen [] (e ∷ es) r = absurd (omega (arith, r.count))
same-disks seen (d ∷ ds) [] r = absurd (omega (arith, r.count))
same-disks seen (d ∷ ds) (e ∷ es) r =
    (r.each 0 d (omega arith), same-disks seen ds es (record { count = omega (arith, r.count); each = λ i x below. r.each (suc i) x (omega (arith, below)) }))

pub same-numbers : {D : Type 0} (seen : D → DiskSeen) (ds es : List (NumberedDisk D)) → SameDisks seen ds es → attached_numbers es ≡ attached_numbers ds
same-numbers seen [] [] r = refl
same-numbers seen [] (e ∷ es) r = absurd r
same-numbers seen (d ∷ ds) [] r = absurd r
same-numbers seen (d ∷ ds) (e ∷ es) r = let rest = same-numbers seen ds es r.1 in λ i. r.0.number i ∷ rest i

-- the sizes of the volumes
spec-size : (s : VolumeSpec) (holds : Spec → Option (List (List ℕ))) (d e : DiskSeen) → IsVolumeAttached holds s d → e.size ≡ d.size → HasSpecSize s e
spec-size (Plain (spec.Blank number n)) holds d e attached same = same ∙ attached.0.0
spec-size (Plain (spec.Path number path)) holds d e attached same = tt
spec-size (Joined (spec.Blank number n) second mirror) holds d e attached same = same ∙ spec_size (Joined (spec.Blank number n) second mirror) holds d attached
spec-size (Joined (spec.Path number path) second mirror) holds d e attached same = tt

pub spec-sizes : {D : Type 0} (seen : D → DiskSeen) (holds : Spec → Option (List (List ℕ))) (specs : List VolumeSpec) (ds es : List (NumberedDisk D)) (ts : List TableSeen)
    → AreMounted holds specs (map (numbered_seen seen) ds) ts → SameDisks seen ds es → HaveSpecSizes specs (bare_disks (map (numbered_seen seen) es))
spec-sizes seen holds [] [] [] [] m r = (refl, λ i s d none some. absurd (none-or-some s none))
spec-sizes seen holds [] [] (e ∷ es) ts m r = absurd r
spec-sizes seen holds [] [] [] (t ∷ ts) m r = absurd m
spec-sizes seen holds [] (d ∷ ds) es ts m r = absurd m
spec-sizes seen holds (s ∷ specs) [] es ts m r = absurd m
spec-sizes seen holds (s ∷ specs) (d ∷ ds) es [] m r = absurd m
spec-sizes seen holds (s ∷ specs) (d ∷ ds) [] (t ∷ ts) m r = absurd r
spec-sizes seen holds (s ∷ specs) (d ∷ ds) (e ∷ es) (t ∷ ts) m r =
    let rest = spec-sizes seen holds specs ds es ts m.1 r.1 in
    (ap suc rest.0, each rest.1)
  where
    each : ((i : ℕ) (q : VolumeSpec) (x : DiskSeen) → slice_get specs i ≡ Some q → slice_get (bare_disks (map (numbered_seen seen) es)) i ≡ Some x → HasSpecSize q x)
        → (i : ℕ) (q : VolumeSpec) (x : DiskSeen) → slice_get (s ∷ specs) i ≡ Some q → slice_get (bare_disks (map (numbered_seen seen) (e ∷ es))) i ≡ Some x → HasSpecSize q x
    each more zero q x is at =
        subst (λ (z : VolumeSpec). HasSpecSize z x) (same_Some s q is) (subst (λ (y : DiskSeen). HasSpecSize s y) (same_Some (seen e.disk) x at)
        (spec-size s holds (seen d.disk) (seen e.disk) m.0.attached r.0.size))
    each more (suc i) q x is at = more i q x is at

-- the disk of a number, among those that are handed back
pub lookup-at : (ns : List ℕ) (ds : List DiskSeen) (i : ℕ) (d : DiskSeen) → Distinct ns → length ds ≡ length ns → i < length ns
    → lookup (λ m. m == slice_index_or ns i 0) (zip ns ds) ≡ Some (slice_index_or ds i d)
lookup-at [] ds i d distinct count below = absurd (omega (arith, below))
lookup-at (n ∷ ns) [] i d distinct count below = absurd (omega (arith, count))
lookup-at (n ∷ ns) (x ∷ ds) zero d distinct count below = ap (λ t. cond t (Some x) (lookup (λ m. m == n) (zip ns ds))) (eq-eqb n n refl)
lookup-at (n ∷ ns) (x ∷ ds) (suc i) d distinct count below =
    let inside : i < length ns = omega (arith, below) in
    let other : n ≢ slice_index_or ns i 0 = apart ns i distinct.0 inside in
    ap (λ t. cond t (Some x) (lookup (λ m. m == slice_index_or ns i 0) (zip ns ds))) (ne_eqb n (slice_index_or ns i 0) other) ∙ lookup-at ns ds i d distinct.1 (omega (arith, count)) inside
  where
    apart : (ms : List ℕ) (j : ℕ) → AllByRecursion (λ m. n ≢ m) ms → j < length ms → n ≢ slice_index_or ms j 0
    apart [] j ne less e = omega (arith, less)
    apart (m ∷ ms) zero ne less e = ne.0 e
    apart (m ∷ ms) (suc j) ne less e = apart ms j ne.1 (omega (arith, less)) e

-- the sizes of the volumes as the plan is opened
pub sizes-held : (holds : Spec → Option (List (List ℕ))) (specs : List VolumeSpec) (ds : List (ℕ × DiskSeen)) (ts : List TableSeen) → AreMounted holds specs ds ts
    → AllByRecursion (λ (d : DiskSeen). IsSome d.content) (bare_disks ds) → AllBlocks ds
    → (n : ℕ) → size_held (volumes_held holds specs) n ≡ block_count (finite.from_entries (map (λ (d : ℕ × DiskSeen). (d.0, d.1.size)) ds)) n
sizes-held holds [] [] [] m tells has n = sym (ap (λ (o : Option ℕ). unwrap_or o 0) (finite.get-empty nat_cmp n))
sizes-held holds [] [] (t ∷ ts) m tells has n = absurd m
sizes-held holds [] (d ∷ ds) ts m tells has n = absurd m
sizes-held holds (s ∷ specs) [] ts m tells has n = absurd m
sizes-held holds (s ∷ specs) (d ∷ ds) [] m tells has n = absurd m
sizes-held holds (s ∷ specs) (d ∷ ds) (t ∷ ts) m tells has n =
    let rest : finite.FinMap nat_cmp ℕ = finite.from_entries (map (λ (e : ℕ × DiskSeen). (e.0, e.1.size)) ds) in
    let more = lookup (λ k. k == n) (volumes_held holds specs) in
    let here = volume_blocks holds s in
    let left : finite.get (finite.insert rest d.0 d.1.size) n ≡ cond (n == d.0) (Some d.1.size) (finite.get rest n) =
    finite.get-insert nat_cmp_total rest d.0 d.1.size n ∙ ap (λ b. cond b (Some d.1.size) (finite.get rest n)) (unsigned_tied n d.0) in
    elim (cases_eq (volume_number s) n) [
      | inl e ↦
          let same : n ≡ d.0 = sym e ∙ sym m.0.number in
          ap (λ t. unwrap_or (option_map length (cond t (Some here) more)) 0) (eq-eqb (volume_number s) n e)
          ∙ held-length s holds d.1 m.0.attached (volume_tells s holds d.1 m.0.attached tells.0) has.0
          ∙ sym (ap (λ (o : Option ℕ). unwrap_or o 0) (left ∙ ap (λ b. cond b (Some d.1.size) (finite.get rest n)) (eq-eqb n d.0 same)))
      | inr ne ↦
          let other : n ≡ d.0 → ⊥ = λ e. ne (sym (e ∙ m.0.number)) in
          ap (λ t. unwrap_or (option_map length (cond t (Some here) more)) 0) (ne_eqb (volume_number s) n ne)
          ∙ sizes-held holds specs ds ts m.1 tells.1 has.1 n
          ∙ sym (ap (λ (o : Option ℕ). unwrap_or o 0) (left ∙ ap (λ b. cond b (Some d.1.size) (finite.get rest n)) (ne_eqb n d.0 other)))
    ]

-- THE FILES AS THEY ARE OPENED are those that were found, and then those of the lines
pub opened-is : (holds : Spec → Option (List (List ℕ))) (plan : PlanSeen) (ds : List (ℕ × DiskSeen)) (ts : List TableSeen) → AreMounted holds (setup_volumes plan.setup) ds ts
    → AllByRecursion (λ (d : DiskSeen). IsSome d.content) (bare_disks ds) → AllBlocks ds
    → opened_files plan holds ≡ with_line_files (block_count (finite.from_entries (map (λ (d : ℕ × DiskSeen). (d.0, d.1.size)) ds))) (if_few (Ok (found_files ds ts))) plan.setup
opened-is holds plan ds ts m tells has =
    let sizes : size_held (volumes_held holds (setup_volumes plan.setup)) ≡ block_count (finite.from_entries (map (λ (d : ℕ × DiskSeen). (d.0, d.1.size)) ds)) =
    λ i n. sizes-held holds (setup_volumes plan.setup) ds ts m tells has n i in
    ap (λ (f : ℕ → ℕ). with_line_files f (if_few (mounted_files holds (setup_volumes plan.setup))) plan.setup) sizes
    ∙ ap (λ (r : Result (List OpenedFile) Refusal). with_line_files (block_count (finite.from_entries (map (λ (d : ℕ × DiskSeen). (d.0, d.1.size)) ds))) (if_few r) plan.setup)
    (mounted-found holds (setup_volumes plan.setup) ds ts m tells)
