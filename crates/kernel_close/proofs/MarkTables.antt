-- Marks whose rows are changed each by its block, and disks that are found by their numbers.
use Rattle.std.proofs.Common.{◌≡◌, ◌≢◌, ◌⊎◌, ℕ, zero, suc, ◌<◌, ◌≤◌, ◌+◌, Bool, cond, List, [], ◌∷◌, length, Option, Some, None, refl, sym, ap, ◌∙◌, inl, inr, arith}
use Rattle.std.specs.Prelude.{slice_index_or}
use Rattle.std.proofs.lemmas.Bool.{cases_eq, cases_lt, eq-eqb, ne_eqb}
use Rattle.seg_ops.specs.block_device.DiskSeen.{DiskSeen}
use Rattle.mark_laws.specs.disk_marks.declared.marks.MarkRow.{MarkRow}
use Rattle.mark_laws.specs.disk_marks.Marks.{MarksSeen, HasRow, mark_row, unused_row}
use Rattle.kernel_close.specs.Finish.{disk_at}
use Rattle.kernel_close.specs.LeftMarks.{disk_by_number}

-- BLOCKS are the same, or they aren't
first-same : (x y : ℕ) (xs ys : List ℕ) → x ∷ xs ≡ y ∷ ys → x ≡ y
first-same x y xs ys e = cc

rest-same : (x y : ℕ) (xs ys : List ℕ) → x ∷ xs ≡ y ∷ ys → xs ≡ ys
rest-same x y xs ys e = cc

pub same-or-not : (a b : List ℕ) → (a ≡ b) ⊎ (a ≢ b)
same-or-not [] [] = inl refl
same-or-not [] (y ∷ ys) = inr (λ e. absurd (let z : [] ≡ y ∷ ys = e in cc))
same-or-not (x ∷ xs) [] = inr (λ e. absurd (let z : x ∷ xs ≡ [] = e in cc))
same-or-not (x ∷ xs) (y ∷ ys) = elim (cases_eq x y) [
  | inl is ↦ elim (same-or-not xs ys) [
    | inl same ↦ inl (λ i. is i ∷ same i)
    | inr far ↦ inr (λ e. far (rest-same x y xs ys e))
  ]
  | inr ne ↦ inr (λ e. ne (first-same x y xs ys e))
]

-- ROWS that are changed, each by its block
abbrev rows-by : (ℕ → MarkRow → MarkRow) → ℕ → List MarkRow → List MarkRow
rows-by f k [] = []
rows-by f k (row ∷ rows) = f k row ∷ rows-by f (suc k) rows

abbrev disks-by : (ℕ → ℕ → MarkRow → MarkRow) → ℕ → List (List MarkRow) → List (List MarkRow)
disks-by f k [] = []
disks-by f k (rows ∷ more) = rows-by (f k) 0 rows ∷ disks-by f (suc k) more

length-rows : (f : ℕ → MarkRow → MarkRow) (k : ℕ) (rows : List MarkRow) → length (rows-by f k rows) ≡ length rows
length-rows f k [] = refl
length-rows f k (row ∷ rows) = ap suc (length-rows f (suc k) rows)

length-disks : (f : ℕ → ℕ → MarkRow → MarkRow) (k : ℕ) (disks : List (List MarkRow)) → length (disks-by f k disks) ≡ length disks
length-disks f k [] = refl
length-disks f k (rows ∷ more) = ap suc (length-disks f (suc k) more)

row-by : (f : ℕ → MarkRow → MarkRow) (k : ℕ) (rows : List MarkRow) (b : ℕ) → b < length rows → slice_index_or (rows-by f k rows) b unused_row ≡ f (k + b) (slice_index_or rows b unused_row)
row-by f k [] b lt = absurd (omega (arith, lt))
row-by f k (row ∷ rows) zero lt = let z : k ≡ k + 0 = omega arith in ap (λ (j : ℕ). f j row) z
row-by f k (row ∷ rows) (suc b) lt = row-by f (suc k) rows b (omega (arith, lt)) ∙ (let z : suc k + b ≡ k + suc b = omega arith in ap (λ (j : ℕ). f j (slice_index_or rows b unused_row)) z)

disk-by : (f : ℕ → ℕ → MarkRow → MarkRow) (k : ℕ) (disks : List (List MarkRow)) (d : ℕ) → d < length disks → slice_index_or (disks-by f k disks) d [] ≡ rows-by (f (k + d)) 0 (slice_index_or disks d [])
disk-by f k [] d lt = absurd (omega (arith, lt))
disk-by f k (rows ∷ more) zero lt = let z : k ≡ k + 0 = omega arith in ap (λ (j : ℕ). rows-by (f j) 0 rows) z
disk-by f k (rows ∷ more) (suc d) lt = disk-by f (suc k) more d (omega (arith, lt)) ∙ (let z : suc k + d ≡ k + suc d = omega arith in ap (λ (j : ℕ). rows-by (f j) 0 (slice_index_or more d [])) z)

past-end : {A : Type 0} (xs : List A) (i : ℕ) (d : A) → length xs ≤ i → slice_index_or xs i d ≡ d
past-end [] i d out = refl
past-end (x ∷ xs) zero d out = absurd (omega (arith, out))
past-end (x ∷ xs) (suc i) d out = past-end xs i d (omega (arith, out))

-- The marks with such rows.
abbrev pub marks_by_block : (ℕ → ℕ → MarkRow → MarkRow) → MarksSeen → MarksSeen
marks_by_block f m = record m { rows = disks-by f 0 m.rows }

module _ (f : ℕ → ℕ → MarkRow → MarkRow) (m : MarksSeen) (d b : ℕ) where
  rows-there : d < length m.rows → slice_index_or (disks-by f 0 m.rows) d [] ≡ rows-by (f d) 0 (slice_index_or m.rows d [])
  rows-there lt = disk-by f 0 m.rows d lt ∙ (let z : 0 + d ≡ d = omega arith in ap (λ (j : ℕ). rows-by (f j) 0 (slice_index_or m.rows d [])) z)

  pub row-kept : HasRow m d b → HasRow (marks_by_block f m) d b
  row-kept has = (
    let long = length-disks f 0 m.rows in let lt = has.0 in omega (arith, long, lt),
    let long = ap (λ (rows : List MarkRow). length rows) (rows-there has.0) ∙ length-rows (f d) 0 (slice_index_or m.rows d []) in let lt = has.1 in omega (arith, long, lt),
  )

  pub row-changed : HasRow m d b → mark_row (marks_by_block f m) d b ≡ f d b (mark_row m d b)
  row-changed has = ap (λ (rows : List MarkRow). slice_index_or rows b unused_row) (rows-there has.0) ∙ row-by (f d) 0 (slice_index_or m.rows d []) b has.1
      ∙ (let z : 0 + b ≡ b = omega arith in ap (λ (j : ℕ). f d j (mark_row m d b)) z)

  -- a block that has no row has none then
  pub row-either : HasRow m d b ⊎ ((mark_row m d b ≡ unused_row) × (mark_row (marks_by_block f m) d b ≡ unused_row))
  row-either = elim (cases_lt d (length m.rows)) [
    | inl lt ↦ elim (cases_lt b (length (slice_index_or m.rows d []))) [
      | inl has ↦ inl (lt, has)
      | inr out ↦ inr (
        past-end (slice_index_or m.rows d []) b unused_row out,
        ap (λ (rows : List MarkRow). slice_index_or rows b unused_row) (rows-there lt)
            ∙ past-end (rows-by (f d) 0 (slice_index_or m.rows d [])) b unused_row (let long = length-rows (f d) 0 (slice_index_or m.rows d []) in omega (arith, long, out)),
      )
    ]
    | inr out ↦ inr (
      ap (λ (rows : List MarkRow). slice_index_or rows b unused_row) (past-end m.rows d [] out),
      ap (λ (rows : List MarkRow). slice_index_or rows b unused_row) (past-end (disks-by f 0 m.rows) d [] (let long = length-disks f 0 m.rows in omega (arith, long, out))),
    )
  ]

-- DISKS BY THEIR NUMBERS
found-first : (disk : ℕ × DiskSeen) (more : List (ℕ × DiskSeen)) (number : ℕ) → disk.0 ≡ number → disk_by_number (disk ∷ more) number ≡ Some disk.1
found-first disk more number is = ap (λ (b : Bool). cond b (Some disk.1) (disk_by_number more number)) (eq-eqb disk.0 number is)

found-later : (disk : ℕ × DiskSeen) (more : List (ℕ × DiskSeen)) (number : ℕ) → disk.0 ≢ number → disk_by_number (disk ∷ more) number ≡ disk_by_number more number
found-later disk more number ne = ap (λ (b : Bool). cond b (Some disk.1) (disk_by_number more number)) (ne_eqb disk.0 number ne)

-- a disk that is listed is found
pub found-some : (disks : List (ℕ × DiskSeen)) (i number : ℕ) → i < length disks → (disk_at disks i).0 ≡ number → disk_by_number disks number ≢ None
found-some [] i number lt is none = omega (arith, lt)
found-some (disk ∷ more) zero number lt is none = absurd (let z : ◌≡◌ {A = Option DiskSeen} (Some disk.1) None = sym (found-first disk more number is) ∙ none in cc)
found-some (disk ∷ more) (suc i) number lt is none = elim (cases_eq disk.0 number) [
  | inl here ↦ absurd (let z : ◌≡◌ {A = Option DiskSeen} (Some disk.1) None = sym (found-first disk more number here) ∙ none in cc)
  | inr ne ↦ found-some more i number (omega (arith, lt)) is (sym (found-later disk more number ne) ∙ none)
]

-- Both lists have a disk of the number, in one place.
pub record AreFound (O N : List (ℕ × DiskSeen)) (n : ℕ) : Type 0 where
  pub place : ℕ
  pub within : place < length O
  pub number : (disk_at O place).0 ≡ n
  pub old : disk_by_number O n ≡ Some (disk_at O place).1
  pub new : disk_by_number N n ≡ Some (disk_at N place).1

pub found-both : (old new : List (ℕ × DiskSeen)) → length new ≡ length old → ((i : ℕ) → i < length old → (disk_at new i).0 ≡ (disk_at old i).0) → (number : ℕ)
    → AreFound old new number ⊎ ((disk_by_number old number ≡ None) × (disk_by_number new number ≡ None))
found-both [] [] long same number = inr (refl, refl)
found-both [] (n ∷ ns) long same number = absurd (omega (arith, long))
found-both (o ∷ os) [] long same number = absurd (omega (arith, long))
found-both (o ∷ os) (n ∷ ns) long same number = elim (cases_eq o.0 number) [
  | inl is ↦ inl (record {
    place = 0;
    within = omega arith;
    number = is;
    old = found-first o os number is;
    new = found-first n ns number (same 0 (omega arith) ∙ is);
  })
  | inr ne ↦
      let further : n.0 ≢ number = λ is. ne (sym (same 0 (omega arith)) ∙ is) in
      elim (found-both os ns (omega (arith, long)) (λ i lt. same (suc i) (omega (arith, lt))) number) [
        | inl found ↦ inl (record {
          place = suc found.place;
          within = let lt = found.within in omega (arith, lt);
          number = found.number;
          old = found-later o os number ne ∙ found.old;
          new = found-later n ns number further ∙ found.new;
        })
        | inr none ↦ inr (found-later o os number ne ∙ none.0, found-later n ns number further ∙ none.1)
      ]
]
