-- Whether a block of a disk is that of a page of a file.
use Rattle.std.proofs.Common.{◌≡◌, ◌⊎◌, ℕ, zero, suc, ◌<◌, length, inl, inr, subst, arith}
use Rattle.std.proofs.lemmas.Bool.{cases_eq}
use Rattle.seg_ops.specs.vnode_files.Files.{FilesSeen, vnode_at}
use Rattle.seg_ops.specs.vnode_files.Layout.{disk_of_file, block_of_page}
use Rattle.seg_ops.specs.flat_model.Words.{pages_in}
use Rattle.kernel_close.specs.Finish.{IsPageBlock}

-- one of the first n, or none
one-below : (n : ℕ) (P : ℕ → Type 0) → ((k : ℕ) → P k ⊎ (¬ P k)) → ((k : ℕ) × (k < n) × P k) ⊎ ((k : ℕ) → k < n → ¬ P k)
one-below zero P decides = inr (λ k lt is. omega (arith, lt))
one-below (suc n) P decides = elim (decides n) [
  | inl is ↦ inl (n, omega arith, is)
  | inr out ↦ elim (one-below n P decides) [
    | inl one ↦ inl (let lt = one.1 in (one.0, omega (arith, lt), one.2))
    | inr none ↦ inr (λ k lt is. elim (cases_eq k n) [ inl same ↦ out (subst P same is) | inr ne ↦ none k (omega (arith, lt, ne)) is ])
  ]
]

module _ (files : FilesSeen) (disk block : ℕ) where
  abbrev HasIt : ℕ → Type 0
  HasIt f = (disk_of_file files f ≡ disk) × ((page : ℕ) × (page < pages_in (vnode_at files f).info.length) × (block_of_page files f page ≡ block))

  has-or-not : (f : ℕ) → HasIt f ⊎ (¬ HasIt f)
  has-or-not f = elim (cases_eq (disk_of_file files f) disk) [
    | inr ne ↦ inr (λ has. ne has.0)
    | inl on ↦ elim (one-below (pages_in (vnode_at files f).info.length) (λ page. block_of_page files f page ≡ block) (λ page. cases_eq (block_of_page files f page) block)) [
      | inl one ↦ inl (on, one)
      | inr none ↦ inr (λ has. none has.1.0 has.1.1 has.1.2)
    ]
  ]

  pub paged-or-not : IsPageBlock files disk block ⊎ (¬ IsPageBlock files disk block)
  paged-or-not = elim (one-below (length files.files) HasIt has-or-not) [
    | inl one ↦ inl (record {
      name = record { object = one.0; page = one.2.1.0 };
      page = record { file = one.1; below = one.2.1.1 };
      on_disk = one.2.0;
      in_block = one.2.1.2;
    })
    | inr none ↦ inr (λ p. none p.name.object p.page.file (p.on_disk, (p.name.page, p.page.below, p.in_block)))
  ]
