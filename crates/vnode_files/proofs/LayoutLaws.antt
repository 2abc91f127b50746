-- What a layout says of pages, and which calls keep it.
use Rattle.std.specs.Prelude.{ℕ, zero, suc, ◌≡◌, ◌≢◌, ◌<◌, ◌≤◌, ◌+◌, ◌-◌, ◌==◌, ◌||◌, Bool, true, false, List, [], ◌∷◌, ◌++◌, length, map, replicate, count_by}
use Rattle.std.specs.Prelude.{sum_by, slice_index_or, slice_set, remove, Option, Some, None, All, unwrap_or}
use Rattle.std.specs.List.{list_any}
use Rattle.std.specs.FinMap as finmap
use Rattle.std.proofs.Common.{ap, ◌∙◌, sym, arith, refl, cond, subst, inl, inr, eqb, length-append}
use Rattle.std.proofs.lemmas.Bool.{cases_eq, eq-eqb, ne_eqb}
use Rattle.std.proofs.lemmas.Cmp.{nat_cmp_total}
use Rattle.std.proofs.lemmas.List.{append-nil, get_or-set_same, get_or_default}
use Rattle.std.proofs.lemmas.List.Elements.{All-head, All-tail, All-push, All-set}
use Rattle.std.proofs.lemmas.List.Folds.{list_any_at}
use Rattle.std.proofs.lemmas.Map.Keys.{IsDistinct-from_apart}
use Rattle.std.proofs.lemmas.Map.Steps.{length-le_from_distinct_below}
use Rattle.std.proofs.lemmas.List.Sums.{sum_by-cons, get_or-le-sum_by}
use Rattle.vnode_files.specs.declared.extent.Extent.{Extent}
use Rattle.vnode_files.specs.declared.vnode.FileInfo.{FileInfo}
use Rattle.vnode_files.specs.Grow.{has_block, is_free, extent_end, page_count}
use Rattle.vnode_files.specs.Vnode.{VnodeSeen, no_vnode, page_blocks, block_at, with_extents, fresh_vnode}
use Rattle.vnode_files.specs.Files.{FilesSeen, vnode_at, with_vnode, with_next_file, with_disk, with_growth, growth_of, block_count, extents_on}
use Rattle.vnode_files.specs.Step.{own_extents, other_extents, its_blocks}
use Rattle.vnode_files.specs.Layout.{NoneMeet, LieOnDisk, LieOnDisks, NoFilesMeet, KeepsLayout, HasPlaceBeside, HaveOwnBlocks, HaveBlocksOnDisk, HaveFewPages, FileLayoutLaw}
use Rattle.vnode_files.specs.Layout.{GrowthGives, GrowsFile, disk_of_file, block_of_page}
use Rattle.vnode_files.proofs.BlockLemmas.{any-page_blocks, length-page_blocks, has_block-bounds}
use Rattle.vnode_files.proofs.FilesLemmas.{key-other}
use Rattle.vnode_files.proofs.ListLemmas.{extents_on-append, extents_on-one, extents_on-other, any-others, is_free-same}
use Rattle.vnode_files.proofs.LayoutLemmas.{count-some, once, count-page_blocks, count-append, part_of, sum-extents_on, sum-set, sum-remove}
use Rattle.vnode_files.proofs.GrowthLaws.{growth_law}

-- two terms of a sum
two_terms : {X : Type 0} (f : X → ℕ) (xs : List X) (i j : ℕ) (d : X) → i < length xs → j < length xs → i ≢ j → f (slice_index_or xs i d) + f (slice_index_or xs j d) ≤ sum_by f xs
two_terms f [] i j d h k other = absurd (omega arith)
two_terms f (x ∷ xs) zero zero d h k other = absurd (other refl)
two_terms f (x ∷ xs) zero (suc j) d h k other = let more = get_or-le-sum_by f xs j d (omega arith) in omega (arith, sum_by-cons f x xs)
two_terms f (x ∷ xs) (suc i) zero d h k other = let more = get_or-le-sum_by f xs i d (omega arith) in omega (arith, sum_by-cons f x xs)
two_terms f (x ∷ xs) (suc i) (suc j) d h k other =
    let more = two_terms f xs i j d (omega arith) (omega arith) (λ e. other (ap suc e)) in omega (arith, sum_by-cons f x xs)

-- how many of a file's extents have a block
abbrev count_in : ℕ → ℕ → VnodeSeen → ℕ
count_in disk b v = part_of (count_by (has_block b)) disk v

-- the block of a page is counted in its file
counted : (v : VnodeSeen) (disk i b : ℕ) → (v.info.disk == disk) ≡ true → i < length (page_blocks v.info.extents) → b ≡ block_at v.info.extents i → 1 ≤ count_in disk b v
counted v disk i b on h at =
    let here : count_in disk b v ≡ count_by (eqb b) (page_blocks v.info.extents) =
    ap (λ (t : Bool). cond t (count_by (has_block b) v.info.extents) 0) on ∙ sym (count-page_blocks b v.info.extents) in
    let one = count-some (eqb b) (page_blocks v.info.extents) i 0 h (eq-eqb b (block_at v.info.extents i) at) in
    omega arith

pub own_blocks : (s : FilesSeen) → NoFilesMeet s → HaveOwnBlocks s
own_blocks s apart f g i j fs gs disks is js same =
    let b = block_of_page s f i in
    let disk = disk_of_file s f in
    let v = vnode_at s f in
    let w = vnode_at s g in
    let all : sum_by (count_in disk b) s.files ≤ 1 = subst (λ (n : ℕ). n ≤ 1) (sum-extents_on (count_by (has_block b)) refl (count-append (has_block b)) disk s.files) (apart disk b) in
    let low : i < length (page_blocks v.info.extents) = omega (arith, length-page_blocks v.info.extents) in
    let high : j < length (page_blocks w.info.extents) = omega (arith, length-page_blocks w.info.extents) in
    elim (cases_eq f g) [
      | inl e ↦
          let here : count_in disk b v ≡ count_by (eqb b) (page_blocks v.info.extents) =
          ap (λ (t : Bool). cond t (count_by (has_block b) v.info.extents) 0) (eq-eqb disk disk refl) ∙ sym (count-page_blocks b v.info.extents) in
          let one = get_or-le-sum_by (count_in disk b) s.files f no_vnode fs in
          let again : w ≡ v = ap (vnode_at s) (sym e) in
          let within : j < length (page_blocks v.info.extents) = subst (λ (x : VnodeSeen). j < length (page_blocks x.info.extents)) again high in
          let at : b ≡ block_at v.info.extents j = same ∙ ap (λ (x : VnodeSeen). block_at x.info.extents j) again in
          (e, once b (page_blocks v.info.extents) i j 0 (omega arith) low within (eq-eqb b (block_at v.info.extents i) refl) (eq-eqb b (block_at v.info.extents j) at))
      | inr other ↦
          let first = counted v disk i b (eq-eqb disk disk refl) low refl in
          let second = counted w disk j b (eq-eqb (disk_of_file s g) disk (sym disks)) high same in
          let both = two_terms (count_in disk b) s.files f g no_vnode fs gs other in
          absurd (omega arith)
    ]

-- a block of extents that lie on a disk
within : (blocks b : ℕ) (xs : List Extent) → All (λ e. (1 ≤ e.start) × (extent_end e ≤ blocks)) xs → list_any (has_block b) xs ≡ true → (1 ≤ b) × (b < blocks)
within blocks b [] all has = cc
within blocks b (e ∷ es) all has =
    let first = All-head (λ (x : Extent). (1 ≤ x.start) × (extent_end x ≤ blocks)) e es all in
    elim (has_block b e) as (λ t. has_block b e ≡ t → (1 ≤ b) × (b < blocks)) [
      | true ↦ λ is. let at = has_block-bounds b e is in (omega (arith, at.0, first.0), omega (arith, at.1, first.1))
      | false ↦ λ is. within blocks b es (All-tail (λ (x : Extent). (1 ≤ x.start) × (extent_end x ≤ blocks)) e es all) (sym (ap (λ (t : Bool). t || list_any (has_block b) es) is) ∙ has)
    ] refl

pub blocks_on_disk : (s : FilesSeen) → LieOnDisks s → HaveBlocksOnDisk s
blocks_on_disk s lie f i fs is =
    let own = (vnode_at s f).info.extents in
    let b = block_of_page s f i in
    let low : i < length (page_blocks own) = omega (arith, length-page_blocks own) in
    let has : list_any (has_block b) own ≡ true = sym (any-page_blocks b own) ∙ list_any_at (eqb b) (page_blocks own) i 0 low (eq-eqb b b refl) in
    within (block_count s.disks (disk_of_file s f)) b own (lie f no_vnode fs).within has

-- the blocks of a file's pages differ and are below those of its disk
few_pages : (s : FilesSeen) → NoFilesMeet s → LieOnDisks s → HaveFewPages s
few_pages s apart lie f fs =
    let own = (vnode_at s f).info.extents in
    let xs = page_blocks own in
    let n = length-page_blocks own in
    let blocks = block_count s.disks (disk_of_file s f) in
    let most : length xs ≤ blocks = length-le_from_distinct_below xs blocks
    (IsDistinct-from_apart eqb xs (λ i j d lower high. ne_eqb (slice_index_or xs i d) (slice_index_or xs j d) (λ e.
    let same : block_at own i ≡ block_at own j = get_or_default xs i 0 d (omega (arith, lower, high)) ∙ e ∙ get_or_default xs j d 0 high in
    let one = own_blocks s apart f f i j fs fs refl (omega (arith, n, lower, high)) (omega (arith, n, high)) same in
    let k = one.1 in
    omega (arith, k, lower))))
    (λ b has. (within blocks b own (lie f no_vnode fs).within (sym (any-page_blocks b own) ∙ has)).1) in
    omega (arith, most, n)

pub file_layout_law : FileLayoutLaw
file_layout_law = record { own = own_blocks; on_disks = blocks_on_disk; pages = few_pages }

one_file : (disk : ℕ) (v w : VnodeSeen) → v.info.disk ≡ w.info.disk → v.info.extents ≡ w.info.extents → extents_on disk (v ∷ []) ≡ extents_on disk (w ∷ [])
one_file disk v w at same = elim (cases_eq w.info.disk disk) [
  | inl is ↦ extents_on-one disk v (eq-eqb v.info.disk disk (at ∙ is)) ∙ same ∙ sym (extents_on-one disk w (eq-eqb w.info.disk disk is))
  | inr not ↦ extents_on-other disk v (ne_eqb v.info.disk disk (λ e. not (sym at ∙ e))) ∙ sym (extents_on-other disk w (ne_eqb w.info.disk disk not))
]

-- a file in the place of another that has the same extents on the same disk
extents_on-set : (disk : ℕ) (xs : List VnodeSeen) (i : ℕ) (v d : VnodeSeen) → i < length xs → v.info.disk ≡ (slice_index_or xs i d).info.disk → v.info.extents ≡ (slice_index_or xs i d).info.extents
    → extents_on disk (slice_set xs i v) ≡ extents_on disk xs
extents_on-set disk [] i v d h at same = absurd (omega arith)
extents_on-set disk (x ∷ xs) zero v d h at same =
    extents_on-append disk (v ∷ []) xs
    ∙ ap (λ (es : List Extent). es ++ extents_on disk xs) (one_file disk v x at same)
    ∙ sym (extents_on-append disk (x ∷ []) xs)
extents_on-set disk (x ∷ xs) (suc i) v d h at same =
    extents_on-append disk (x ∷ []) (slice_set xs i v)
    ∙ ap (λ (es : List Extent). extents_on disk (x ∷ []) ++ es) (extents_on-set disk xs i v d (omega arith) at same)
    ∙ sym (extents_on-append disk (x ∷ []) xs)

pub keeps-same : (s : FilesSeen) (file : ℕ) (v : VnodeSeen) → file < length s.files → v.info.disk ≡ (vnode_at s file).info.disk
    → v.info.extents ≡ (vnode_at s file).info.extents → KeepsLayout s (with_vnode s file v)
keeps-same s file v h at same =
    let files : (disk : ℕ) → extents_on disk (slice_set s.files file v) ≡ extents_on disk s.files = λ disk. extents_on-set disk s.files file v no_vnode h at same in
    record {
      on_disks = λ lie. All-set (λ w. LieOnDisk (block_count s.disks w.info.disk) w.info.extents) s.files file v
          (subst (λ (n : ℕ). LieOnDisk (block_count s.disks n) v.info.extents) (sym at)
          (subst (λ (es : List Extent). LieOnDisk (block_count s.disks (vnode_at s file).info.disk) es) (sym same) (lie file no_vnode h))) lie;
      none_meet = λ apart disk. subst NoneMeet (sym (files disk)) (apart disk);
      few = λ few disk. subst (λ (es : List Extent). length es ≤ 252) (sym (files disk)) (few disk);
    }

pub keeps-self : (s t : FilesSeen) → t ≡ s → KeepsLayout s t
keeps-self s t same = subst (KeepsLayout s) (sym same) (record { on_disks = λ lie. lie; none_meet = λ apart. apart; few = λ few. few })

-- a disk more, on which no file lies
pub keeps-disk : (s : FilesSeen) (disk blocks : ℕ) → All (λ (v : VnodeSeen). v.info.disk ≢ disk) s.files → KeepsLayout s (with_disk s disk blocks)
keeps-disk s disk blocks none = record {
  on_disks = λ lie i d h.
      let number = (slice_index_or s.files i d).info.disk in
      let kept : finmap.get (finmap.insert s.disks disk blocks) number ≡ finmap.get s.disks number =
      finmap.get-insert nat_cmp_total s.disks disk blocks number
      ∙ ap (λ (b : Bool). cond b (Some blocks) (finmap.get s.disks number)) (key-other disk number (λ e. none i d h (sym e))) in
      subst (λ (o : Option ℕ). LieOnDisk (unwrap_or o 0) (slice_index_or s.files i d).info.extents) (sym kept) (lie i d h);
  none_meet = λ apart. apart;
  few = λ few. few;
}

-- a file more
extents_on-next : (disk : ℕ) (xs : List VnodeSeen) (v : VnodeSeen) (P : List Extent → Type 0) → P (extents_on disk xs)
    → P (extents_on v.info.disk xs ++ v.info.extents) → P (extents_on disk (xs ++ v ∷ []))
extents_on-next disk xs v P others both =
    elim (cases_eq v.info.disk disk) [
      | inl same ↦
          let e : extents_on v.info.disk (xs ++ v ∷ []) ≡ extents_on v.info.disk xs ++ v.info.extents =
          extents_on-append v.info.disk xs (v ∷ []) ∙ ap (λ (es : List Extent). extents_on v.info.disk xs ++ es) (extents_on-one v.info.disk v (eq-eqb v.info.disk v.info.disk refl)) in
          subst (λ (n : ℕ). P (extents_on n (xs ++ v ∷ []))) same (subst P (sym e) both)
      | inr other ↦
          let e : extents_on disk (xs ++ v ∷ []) ≡ extents_on disk xs =
          extents_on-append disk xs (v ∷ []) ∙ ap (λ (es : List Extent). extents_on disk xs ++ es) (extents_on-other disk v (ne_eqb v.info.disk disk other)) ∙ append-nil (extents_on disk xs) in
          subst P (sym e) others
    ]

pub keeps-next : (s : FilesSeen) (info : FileInfo) → HasPlaceBeside s info → KeepsLayout s (with_next_file s (fresh_vnode info))
keeps-next s info place =
    let v = fresh_vnode info in
    record {
      on_disks = λ lie. All-push (λ w. LieOnDisk (block_count s.disks w.info.disk) w.info.extents) s.files v lie place.on_disk;
      none_meet = λ apart disk. extents_on-next disk s.files v NoneMeet (apart disk) place.none_meet;
      few = λ few disk. extents_on-next disk s.files v (λ es. length es ≤ 252) (few disk) (omega (arith, place.few, length-append (extents_on info.disk s.files) info.extents));
    }

-- a file that has grown
module _ (s : FilesSeen) (file pages : ℕ) (next : List Extent) (h : file < length s.files) (is : growth_of s file pages ≡ Some next) where
  given : GrowthGives (its_blocks s file) (other_extents s file) (own_extents s file) pages next
  given = growth_law (its_blocks s file) (other_extents s file) (own_extents s file) pages next is

  there : vnode_at (with_growth s file (Some next)) file ≡ with_extents (vnode_at s file) next
  there = get_or-set_same s.files file (with_extents (vnode_at s file) next) no_vnode h

  pub grows : GrowsFile s (with_growth s file (Some next)) file pages
  grows =
      let v = vnode_at s file in
      let disk = v.info.disk in
      let used : (b : ℕ) → is_free (its_blocks s file) (extents_on disk s.files) b ≡ is_free (its_blocks s file) (other_extents s file ++ own_extents s file) b =
      λ b. is_free-same (its_blocks s file) (extents_on disk s.files) (other_extents s file ++ own_extents s file) b (any-others disk s.files file no_vnode h (eq-eqb disk disk refl) (has_block b)) in
      let many : page_count next - page_count v.info.extents ≡ pages - page_count v.info.extents = omega (arith, given.count) in
      record {
        takes = record {
          added = given.takes.added;
          places = ap (λ (w : VnodeSeen). page_blocks w.info.extents) there ∙ given.takes.places;
          kept = λ page low. ap (λ (w : VnodeSeen). block_at w.info.extents page) there ∙ given.takes.kept page low;
          free = λ i d within. used (slice_index_or given.takes.added i d) ∙ given.takes.free i d within;
          differ = given.takes.differ;
          new_starts = given.takes.new_starts;
          starts = ap (λ (w : VnodeSeen). map (λ (e : Extent). e.start) w.info.extents) there ∙ given.takes.starts;
        };
        count = ap (λ (w : VnodeSeen). page_count w.info.extents) there ∙ given.count;
        blanks = ap (λ (w : VnodeSeen). w.blanks) there ∙ ap (λ n. v.blanks ++ replicate n true) many;
      }

  -- what adds up over the extents of a disk
  module _ (m : List Extent → ℕ) (none : m [] ≡ 0) (append : (xs ys : List Extent) → m (xs ++ ys) ≡ m xs + m ys) (disk most : ℕ)
      (keeps : m (other_extents s file ++ own_extents s file) ≤ most → m (other_extents s file ++ next) ≤ most) where
    stays : m (extents_on disk s.files) ≤ most → m (extents_on disk (slice_set s.files file (with_extents (vnode_at s file) next))) ≤ most
    stays few =
        let v = vnode_at s file in
        let w = with_extents v next in
        let set = sum-set m none append disk s.files file w no_vnode h in
        let rest = sum-remove m none append disk s.files file w no_vnode h in
        elim (cases_eq disk v.info.disk) [
          | inl same ↦
              let on : (v.info.disk == disk) ≡ true = eq-eqb v.info.disk disk (sym same) in
              let old : part_of m disk v ≡ m v.info.extents = ap (λ (t : Bool). cond t (m v.info.extents) 0) on in
              let new : part_of m disk w ≡ m next = ap (λ (t : Bool). cond t (m next) 0) on in
              let others : m (extents_on disk (remove s.files file)) ≡ m (other_extents s file) = ap (λ (n : ℕ). m (extents_on n (remove s.files file))) same in
              let was : m (other_extents s file ++ own_extents s file) ≤ most = omega (arith, append (other_extents s file) (own_extents s file)) in
              let now = keeps was in
              omega (arith, append (other_extents s file) next)
          | inr other ↦
              let off : (v.info.disk == disk) ≡ false = ne_eqb v.info.disk disk (λ e. other (sym e)) in
              let old : part_of m disk v ≡ 0 = ap (λ (t : Bool). cond t (m v.info.extents) 0) off in
              let new : part_of m disk w ≡ 0 = ap (λ (t : Bool). cond t (m next) 0) off in
              omega arith
        ]

-- a file's extents and those of the other files of its disk
pub none_meet-others : (s : FilesSeen) (file : ℕ) → file < length s.files → NoFilesMeet s → NoneMeet (other_extents s file ++ own_extents s file)
none_meet-others s file h apart b =
    let v = vnode_at s file in
    let rest = sum-remove (count_by (has_block b)) refl (count-append (has_block b)) v.info.disk s.files file v no_vnode h in
    let mine : part_of (count_by (has_block b)) v.info.disk v ≡ count_by (has_block b) v.info.extents = ap
    (λ (t : Bool). cond t (count_by (has_block b) v.info.extents) 0) (eq-eqb v.info.disk v.info.disk refl) in
    let few = apart v.info.disk b in
    omega (arith, count-append (has_block b) (other_extents s file) v.info.extents)

keeps-grown : (s : FilesSeen) (file pages : ℕ) (next : List Extent) → file < length s.files → growth_of s file pages ≡ Some next → KeepsLayout s (with_growth s file (Some next))
keeps-grown s file pages next h is =
    let v = vnode_at s file in
    let g = given s file pages next h is in
    let others = other_extents s file in
    let own = own_extents s file in
    let meets : NoneMeet (others ++ own) → NoneMeet (others ++ next) = g.none_meet in
    record {
      on_disks = λ lie. All-set (λ w. LieOnDisk (block_count s.disks w.info.disk) w.info.extents) s.files file (with_extents v next) (g.on_disk (lie file no_vnode h)) lie;
      none_meet = λ apart disk b. stays s file pages next h is (count_by (has_block b)) refl (count-append (has_block b)) disk 1 (λ _. meets (none_meet-others s file h apart) b) (apart disk b);
      few = λ few disk. stays s file pages next h is length refl length-append disk 252
          (λ own_few. let most = g.few (omega (arith, own_few, length-append others own)) in omega (arith, length-append others next)) (few disk);
    }

pub keeps-growth : (s : FilesSeen) (file pages : ℕ) (o : Option (List Extent)) → file < length s.files → growth_of s file pages ≡ o → KeepsLayout s (with_growth s file o)
keeps-growth s file pages None h is = keeps-self s s refl
keeps-growth s file pages (Some next) h is = keeps-grown s file pages next h is
