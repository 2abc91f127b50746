-- The files that a plan comes to, over disks that tell or not; and disks that are as the rack gave them.
use Rattle.std.proofs.Common.{◌≡◌, ℕ, zero, suc, ◌==◌, List, [], ◌∷◌, map, Option, None, Some, Result, Ok, refl, sym, ap, ◌∙◌, subst, inl, inr, cond}
use Rattle.std.specs.Prelude.{IfSome, unwrap_or, zip}
use Rattle.std.specs.Map.{lookup}
use Rattle.std.specs.Ordering.{nat_cmp}
use Rattle.std.specs.FinMap as finite
use Rattle.std.specs.Cmp.{nat_cmp_total, unsigned_tied}
use Rattle.std.proofs.lemmas.Bool.{cases_eq, eq-eqb, ne_eqb}
use Rattle.std.proofs.lemmas.Option.{none-some, same_Some}
use Rattle.block_device.specs.DiskSeen.{DiskSeen}
use Rattle.block_device.specs.declared.numbered.NumberedDisk.{NumberedDisk}
use Rattle.volume_disks.specs.declared.volume_spec.VolumeSpec.{VolumeSpec}
use Rattle.volume_format.specs.vnode_files.Files.{block_count}
use Rattle.volume_format.specs.Table.{TableSeen}
use Rattle.vm_report.specs.vm_script.PlanSeen.{PlanSeen}
use Rattle.volume_files.specs.declared.stops.Refusal.{Refusal}
use Rattle.volume_files.specs.Attached.{AreMounted, IsMounted, bare_disks}
use Rattle.stored_files.specs.Written.{numbered_seen}
use Rattle.volume_files.specs.Handed.{AreAsGiven, volume_numbers, sizes_of}
use Rattle.volume_files.specs.Mounting.{Holds}
use Rattle.volume_files.specs.Opened.{AreTablesRead, ComesTo, IsTableRead, OpenedFile, IsVolumeAttached, RackSays, setup_volumes, volume_content, if_few, mounted_infos, size_among, table_on, with_line_files}
use Rattle.volume_files.specs.Placing.{RemainsThere, found_files, placing_read, sizes_by_number}
use Rattle.volume_files.proofs.DiskLists.{zip-back}
use Rattle.volume_files.proofs.HandLemmas.{SameDisks}
use Rattle.volume_files.proofs.HeldVolumes.{volume_told}
use Rattle.volume_files.proofs.MountDisks.{AreGiven}
use Rattle.volume_files.proofs.OpenLemmas.{infos-found}

-- the number of a disk with its size
abbrev pub sized : ℕ × DiskSeen → ℕ × ℕ
sized d = (d.0, d.1.size)

-- how many blocks a disk has, by a map and by a list
pub size-counted : (xs : List (ℕ × ℕ)) (n : ℕ) → block_count (finite.from_entries xs) n ≡ size_among xs n
size-counted [] n = ap (λ (o : Option ℕ). unwrap_or o 0) (finite.get-empty nat_cmp n)
size-counted (x ∷ xs) n =
    let rest : finite.FinMap nat_cmp ℕ = finite.from_entries xs in
    let here : finite.get (finite.insert rest x.0 x.1) n ≡ cond (n == x.0) (Some x.1) (finite.get rest n) =
    finite.get-insert nat_cmp_total rest x.0 x.1 n ∙ ap (λ b. cond b (Some x.1) (finite.get rest n)) (unsigned_tied n x.0) in
    elim (cases_eq x.0 n) [
      | inl e ↦
          ap (λ (o : Option ℕ). unwrap_or o 0) (here ∙ ap (λ b. cond b (Some x.1) (finite.get rest n)) (eq-eqb n x.0 (sym e)))
          ∙ sym (ap (λ b. unwrap_or (cond b (Some x.1) (lookup (λ m. m == n) xs)) 0) (eq-eqb x.0 n e))
      | inr ne ↦
          ap (λ (o : Option ℕ). unwrap_or o 0) (here ∙ ap (λ b. cond b (Some x.1) (finite.get rest n)) (ne_eqb n x.0 (λ e. ne (sym e))))
          ∙ size-counted xs n
          ∙ sym (ap (λ b. unwrap_or (cond b (Some x.1) (lookup (λ m. m == n) xs)) 0) (ne_eqb x.0 n ne))
    ]

-- the tables that were read
rack-says : (holds : Holds) (s : VolumeSpec) (d : DiskSeen) (t : TableSeen) → IsVolumeAttached holds s d → IfSome d.content (λ blocks. table_on blocks ≡ Ok t) → RackSays holds s t
rack-says holds s d t a h = at (volume_content holds s) refl
  where
    at : (o : Option (List (List ℕ))) → volume_content holds s ≡ o → IfSome o (λ blocks. table_on blocks ≡ Ok t)
    at None e = tt
    at (Some blocks) e = subst (λ (o : Option (List (List ℕ))). IfSome o (λ bs. table_on bs ≡ Ok t)) (volume_told s holds d blocks a e) h

table-read : (holds : Holds) (s : VolumeSpec) (d : ℕ × DiskSeen) (t : TableSeen) (e : ℕ × ℕ) → e ≡ sized d → IsMounted holds s d t → IsTableRead holds s e t
table-read holds s d t e same m = subst (λ (x : ℕ × ℕ). IsTableRead holds s x t) (sym same)
    (record { number = m.number; some = m.some; few = m.few; blocks = m.blocks; volume = m.volume; told = rack-says holds s d.1 t m.attached m.read })

same-sized : {D : Type 0} (seen : D → DiskSeen) (d e : NumberedDisk D) → RemainsThere seen d e → sized (numbered_seen seen e) ≡ sized (numbered_seen seen d)
same-sized seen d e r = λ i. (r.number i, r.size i)

module _ {D : Type 0} (seen : D → DiskSeen) where
  pub tables-read : (holds : Holds) (specs : List VolumeSpec) (ds es : List (NumberedDisk D)) (ts : List TableSeen) → AreMounted holds specs (map (numbered_seen seen) ds) ts → SameDisks seen ds es
      → AreTablesRead holds specs (map sized (map (numbered_seen seen) es)) ts
  tables-read holds [] [] [] [] m r = tt
  tables-read holds [] [] [] (t ∷ ts) m r = absurd m
  tables-read holds [] [] (e ∷ es) ts m r = absurd r
  tables-read holds [] (d ∷ ds) es ts m r = absurd m
  tables-read holds (s ∷ specs) [] es ts m r = absurd m
  tables-read holds (s ∷ specs) (d ∷ ds) es [] m r = absurd m
  tables-read holds (s ∷ specs) (d ∷ ds) [] (t ∷ ts) m r = absurd r
  tables-read holds (s ∷ specs) (d ∷ ds) (e ∷ es) (t ∷ ts) m r =
      (table-read holds s (numbered_seen seen d) t (sized (numbered_seen seen e)) (same-sized seen d e r.0) m.0, tables-read holds specs ds es ts m.1 r.1)

  pub numbers-kept : (ds es : List (NumberedDisk D)) → SameDisks seen ds es
      → map (λ (d : ℕ × DiskSeen). d.0) (map (numbered_seen seen) ds) ≡ map (λ (d : ℕ × ℕ). d.0) (map sized (map (numbered_seen seen) es))
  numbers-kept [] [] r = refl
  numbers-kept [] (e ∷ es) r = absurd r
  numbers-kept (d ∷ ds) [] r = absurd r
  numbers-kept (d ∷ ds) (e ∷ es) r = let rest = numbers-kept ds es r.1 in let same = sym r.0.number in λ i. same i ∷ rest i

  pub sizes-kept : (ds es : List (NumberedDisk D)) → SameDisks seen ds es → sizes_by_number seen ds ≡ map sized (map (numbered_seen seen) es)
  sizes-kept [] [] r = refl
  sizes-kept [] (e ∷ es) r = absurd r
  sizes-kept (d ∷ ds) [] r = absurd r
  sizes-kept (d ∷ ds) (e ∷ es) r = let rest = sizes-kept ds es r.1 in let number = sym r.0.number in let size = sym r.0.size in λ i. (number i, size i) ∷ rest i

  -- what placing comes to is what the plan comes to over these disks
  abbrev pub comes-to : (plan : PlanSeen) (holds : Holds) (old new : List (NumberedDisk D)) (ts : List TableSeen) (r : Result (List OpenedFile) Refusal)
      → AreMounted holds (setup_volumes plan.setup) (map (numbered_seen seen) old) ts → SameDisks seen old new → placing_read seen old ts plan.setup ≡ r
      → ComesTo plan holds (map sized (map (numbered_seen seen) new)) r
  comes-to plan holds old new ts r m same read =
      let found = found_files (map (numbered_seen seen) old) ts in
      let xs = sizes_by_number seen old in
      let counted : size_among xs ≡ block_count (finite.from_entries xs) = λ i n. sym (size-counted xs n) i in
      let by-list : with_line_files (size_among xs) (if_few (Ok found)) plan.setup ≡ r = ap (λ (f : ℕ → ℕ). with_line_files f (if_few (Ok found)) plan.setup) counted ∙ read in
      record {
        tables = ts;
        found = found;
        read = tables-read holds (setup_volumes plan.setup) old new ts m same;
        mounted = infos-found (map (numbered_seen seen) old) ts ∙ ap (λ (ns : List ℕ). mounted_infos ns ts) (numbers-kept old new same);
        lines = subst (λ (ys : List (ℕ × ℕ)). with_line_files (size_among ys) (if_few (Ok found)) plan.setup ≡ r) (sizes-kept old new same) by-list;
      }

-- the same by other words for the sizes
abbrev pub comes-sizes : (plan : PlanSeen) (holds : Holds) (xs ys : List (ℕ × ℕ)) (r : Result (List OpenedFile) Refusal) → xs ≡ ys → ComesTo plan holds xs r → ComesTo plan holds ys r
comes-sizes plan holds xs ys r is c = record {
  tables = c.tables;
  found = c.found;
  read = subst (λ (zs : List (ℕ × ℕ)). AreTablesRead holds (setup_volumes plan.setup) zs c.tables) is c.read;
  mounted = c.mounted ∙ ap (λ (zs : List (ℕ × ℕ)). mounted_infos (map (λ (z : ℕ × ℕ). z.0) zs) c.tables) is;
  lines = subst (λ (zs : List (ℕ × ℕ)). with_line_files (size_among zs) (if_few (Ok c.found)) plan.setup ≡ r) is c.lines;
}

-- the sizes of disks that are handed back
pub sizes-handed : (plan : PlanSeen) (disks : List (ℕ × DiskSeen)) → map (λ (d : ℕ × DiskSeen). d.0) disks ≡ volume_numbers plan → map sized disks ≡ sizes_of plan (bare_disks disks)
sizes-handed plan disks same = ap (map sized) (sym (ap (λ (ns : List ℕ). zip ns (bare_disks disks)) (sym same) ∙ zip-back disks))

-- disks as the rack gave them
pub as-given : (holds : Holds) (specs : List VolumeSpec) (disks : List (ℕ × DiskSeen)) → AreGiven holds specs disks → AreAsGiven holds specs (bare_disks disks)
as-given holds [] [] h i s d si di = absurd (none-some d di)
as-given holds [] (y ∷ disks) h i s d si di = absurd h
as-given holds (x ∷ specs) [] h i s d si di = absurd h
as-given holds (x ∷ specs) (y ∷ disks) h zero s d si di =
    subst (λ (z : VolumeSpec). IsVolumeAttached holds z d) (same_Some x s si) (subst (λ (z : DiskSeen). IsVolumeAttached holds x z) (same_Some y.1 d di) h.0.attached)
as-given holds (x ∷ specs) (y ∷ disks) h (suc i) s d si di = as-given holds specs disks h.1 i s d si di
