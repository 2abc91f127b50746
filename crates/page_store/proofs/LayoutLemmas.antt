-- The table of files and slots is apart.
use Rattle.std.proofs.Common.{◌≡◌, ℕ, ◌+◌, ◌<◌, ◌≤◌, Bool, true, cond, ◌⊎◌, inl, inr, List, sym, ◌∙◌, ap, arith, length}
use Rattle.std.specs.Prelude.{slice_get, Option, Some, None, option_map, option_and_then, unwrap_or, if◌then◌else◌}
use Rattle.std.proofs.lemmas.Option.{slice_get_cases, slice_get_past as none_past}
use Rattle.std.proofs.lemmas.Bool.{cases_Bool}
use Rattle.std.proofs.lemmas.Bool.Decides.{nat_tests}
use Rattle.page_hash.specs.declared.PageName.{PageName}
use Rattle.page_hash.proofs.NameLaws.{same_fields}
use Rattle.page_store.specs.declared.place.Place.{Place}
use Rattle.page_store.specs.Layout.{FileBlocks, KeepsPage, AreDisjoint, page_place, slot_place, own_place, file_page_place, is_slot, table_of, TableOfFiles, LayoutLaw}

slot_of_test : (slots : ℕ) (n : PageName) → is_slot slots n ≡ true → n.object ≡ 64
slot_of_test slots n h = grind (arith, nat_tests)

-- A place of a name: that of a page which a file keeps, that of a slot, or its own.
abbrev PlaceCases : List FileBlocks → (PageName → Bool) → PageName → Place → Type 0
PlaceCases files blank n place =
    ((file : FileBlocks) × (block : ℕ) × KeepsPage files n file block × (place ≡ page_place file n.page (blank n) block))
    ⊎ (((n.object ≡ 64) × (place ≡ slot_place n.page (blank n))) ⊎ (place ≡ own_place n))

module _ (files : List FileBlocks) (slots : ℕ) (blank : PageName → Bool) where
  abbrev other : PageName → Place
  other n = if is_slot slots n then slot_place n.page (blank n) else own_place n

  slot_cases : (n : PageName) → file_page_place files n (blank n) ≡ None → PlaceCases files blank n (table_of files slots blank n)
  slot_cases n none =
      let at : table_of files slots blank n ≡ other n = ap (λ (o : Option Place). unwrap_or o (other n)) none in
      elim (cases_Bool (is_slot slots n)) [
        | inl t ↦ inr (inl (slot_of_test slots n t, at ∙ ap (λ (b : Bool). cond b (slot_place n.page (blank n)) (own_place n)) t))
        | inr f ↦ inr (inr (at ∙ ap (λ (b : Bool). cond b (slot_place n.page (blank n)) (own_place n)) f))
      ]

  page_in : (n : PageName) (file : FileBlocks) → slice_get files n.object ≡ Some file
      → file_page_place files n (blank n) ≡ option_map (page_place file n.page (blank n)) (slice_get file.blocks n.page)
  page_in n file h = ap (λ (o : Option FileBlocks). option_and_then (λ f. option_map (page_place f n.page (blank n)) (slice_get f.blocks n.page)) o) h

  pub kept-place : (n : PageName) (file : FileBlocks) (block : ℕ) → KeepsPage files n file block → table_of files slots blank n ≡ page_place file n.page (blank n) block
  kept-place n file block k =
      ap (λ (o : Option Place). unwrap_or o (other n)) (page_in n file k.number ∙ ap (λ (o : Option ℕ). option_map (page_place file n.page (blank n)) o) k.place)

  pub place-cases : (n : PageName) → PlaceCases files blank n (table_of files slots blank n)
  place-cases n = elim ((slice_get_cases files n.object).1) [
    | inl (file, inside, at, same) ↦ elim ((slice_get_cases file.blocks n.page).1) [
      | inl (block, within, here, equal) ↦
          let k : KeepsPage files n file block = record { number = at; place = here } in inl (file, block, k, kept-place n file block k)
      | inr (past, none) ↦ slot_cases n (page_in n file at ∙ ap (λ (o : Option ℕ). option_map (page_place file n.page (blank n)) o) none)
    ]
    | inr (past, none) ↦
        slot_cases n (ap (λ (o : Option FileBlocks). option_and_then (λ f. option_map (page_place f n.page (blank n)) (slice_get f.blocks n.page)) o) none)
  ]

  -- two places on one disk, in one block, are those of one name
  meet : AreDisjoint files → (m n : PageName) (p q : Place) → PlaceCases files blank m p → PlaceCases files blank n q → p.disk ≡ q.disk → p.block ≡ q.block → m ≡ n
  meet d m n p q (inl (f, b, k, same)) (inl (g, c, l, equal)) disk block =
      let on : f.disk ≡ g.disk = sym (ap (λ (x : Place). x.disk) same) ∙ disk ∙ ap (λ (x : Place). x.disk) equal in
      let at : b ≡ c = sym (ap (λ (x : Place). x.block) same) ∙ block ∙ ap (λ (x : Place). x.block) equal in
      d.apart m n f g c (record { number = k.number; place = k.place ∙ ap (λ (x : ℕ). Some x) at }) l on
  meet d m n p q (inl (f, b, k, same)) (inr (inl (swap, equal))) disk block =
      let on : f.disk ≡ 8 = sym (ap (λ (x : Place). x.disk) same) ∙ disk ∙ ap (λ (x : Place). x.disk) equal in absurd (omega (arith, on, d.disks m f b k))
  meet d m n p q (inl (f, b, k, same)) (inr (inr equal)) disk block =
      let on : f.disk ≡ n.object + 9 = sym (ap (λ (x : Place). x.disk) same) ∙ disk ∙ ap (λ (x : Place). x.disk) equal in absurd (omega (arith, on, d.disks m f b k))
  meet d m n p q (inr (inl (swap, same))) (inl (g, c, l, equal)) disk block =
      let on : 8 ≡ g.disk = sym (ap (λ (x : Place). x.disk) same) ∙ disk ∙ ap (λ (x : Place). x.disk) equal in absurd (omega (arith, on, d.disks n g c l))
  meet d m n p q (inr (inl (swap, same))) (inr (inl (too, equal))) disk block =
      same_fields m n (swap ∙ sym too) (sym (ap (λ (x : Place). x.block) same) ∙ block ∙ ap (λ (x : Place). x.block) equal)
  meet d m n p q (inr (inl (swap, same))) (inr (inr equal)) disk block =
      let on : 8 ≡ n.object + 9 = sym (ap (λ (x : Place). x.disk) same) ∙ disk ∙ ap (λ (x : Place). x.disk) equal in absurd (omega (arith, on))
  meet d m n p q (inr (inr same)) (inl (g, c, l, equal)) disk block =
      let on : m.object + 9 ≡ g.disk = sym (ap (λ (x : Place). x.disk) same) ∙ disk ∙ ap (λ (x : Place). x.disk) equal in absurd (omega (arith, on, d.disks n g c l))
  meet d m n p q (inr (inr same)) (inr (inl (too, equal))) disk block =
      let on : m.object + 9 ≡ 8 = sym (ap (λ (x : Place). x.disk) same) ∙ disk ∙ ap (λ (x : Place). x.disk) equal in absurd (omega (arith, on))
  meet d m n p q (inr (inr same)) (inr (inr equal)) disk block =
      let on : m.object + 9 ≡ n.object + 9 = sym (ap (λ (x : Place). x.disk) same) ∙ disk ∙ ap (λ (x : Place). x.disk) equal in
      let object : m.object ≡ n.object = omega (arith, on) in
      same_fields m n object (sym (ap (λ (x : Place). x.block) same) ∙ block ∙ ap (λ (x : Place). x.block) equal)

  slot-place : length files ≤ 64 → (slot : ℕ) → slot < slots
      → table_of files slots blank (record { object = 64; page = slot }) ≡ slot_place slot (blank (record { object = 64; page = slot }))
  slot-place few slot low =
      let n : PageName = record { object = 64; page = slot } in
      let none : slice_get files 64 ≡ None = none_past files 64 few in
      let here : is_slot slots n ≡ true = grind (arith, nat_tests, low) in
      ap (λ (o : Option Place). unwrap_or o (other n)) (ap (λ (o : Option FileBlocks). option_and_then (λ f. option_map (page_place f slot (blank n)) (slice_get f.blocks slot)) o) none)
      ∙ ap (λ (b : Bool). cond b (slot_place slot (blank n)) (own_place n)) here

  pub table-of-files : TableOfFiles files slots blank
  table-of-files = record {
    page = kept-place;
    slot = slot-place;
    apart = λ d m n disk block. meet d m n (table_of files slots blank m) (table_of files slots blank n) (place-cases m) (place-cases n) disk block;
  }

pub layout_law : LayoutLaw
layout_law = record { table = λ files slots blank. table-of-files files slots blank }
