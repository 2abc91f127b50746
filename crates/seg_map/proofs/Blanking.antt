-- A FILE GETS ANOTHER END on the records: it grows, its new pages become blank one after another, and it has its length.
use Rattle.std.proofs.Common.{◌≡◌, ◌≢◌, ℕ, suc, ◌+◌, ◌-◌, ◌<◌, ◌≤◌, List, [], ◌∷◌, ◌++◌, length, map, Some, refl, sym, ap, ◌∙◌, inl, inr, subst, arith, zero, true, false, slice_index_or, slice_set, get_or-set_same}
use Rattle.std.specs.Prelude.{replicate, remove}
use Rattle.std.proofs.lemmas.Bool.{cases_eq}
use Rattle.std.proofs.lemmas.List.{get_or-set_other, length-set, length-map, length-append}
use Rattle.seg_ops.specs.vnode_files.declared.extent.Extent.{Extent}
use Rattle.seg_ops.specs.vnode_files.declared.vnode.FileInfo.{FileInfo}
use Rattle.seg_ops.specs.vnode_files.Files.{FilesSeen, vnode_at, with_vnode, with_growth, growth_of, extents_on, block_count}
use Rattle.seg_ops.specs.vnode_files.Grow.{page_count}
use Rattle.seg_ops.specs.vnode_files.Layout.{KeepsLayout, GrowthGives}
use Rattle.seg_ops.specs.vnode_files.Vnode.{VnodeSeen, IsSoundVnode, no_vnode, is_blank, with_blank, with_length, with_extents}
use Rattle.seg_ops.specs.flat_model.Words.{pages_in}
use Rattle.seg_map.specs.Blanks.{BlanksUpTo}
use Rattle.seg_map.specs.Ends.{SetsEnd}

layout-then : (a b c : FilesSeen) → KeepsLayout a b → KeepsLayout b c → KeepsLayout a c
layout-then a b c x y = record { on_disks = λ h. y.on_disks (x.on_disks h); none_meet = λ h. y.none_meet (x.none_meet h); few = λ h. y.few (x.few h) }

here-set : (s : FilesSeen) (f : ℕ) (v : VnodeSeen) → f < length s.files → vnode_at (with_vnode s f v) f ≡ v
here-set s f v lt = get_or-set_same s.files f v no_vnode lt

else-set : (s : FilesSeen) (f k : ℕ) (v : VnodeSeen) → k ≢ f → vnode_at (with_vnode s f v) k ≡ vnode_at s k
else-set s f k v ne = get_or-set_other s.files f k v no_vnode ne

got-append : {A : Type 0} (xs ys : List A) (i : ℕ) (d : A) → i < length xs → slice_index_or (xs ++ ys) i d ≡ slice_index_or xs i d
got-append [] ys i d lt = absurd (omega (arith, lt))
got-append (x ∷ xs) ys zero d lt = refl
got-append (x ∷ xs) ys (suc i) d lt = got-append xs ys i d (omega (arith, lt))

-- IT GREW.
pub grown-first : (old new : FilesSeen) (f pages from : ℕ) (extents : List Extent) → f < length old.files → IsSoundVnode (vnode_at old f) → growth_of old f pages ≡ Some extents → new ≡ with_growth old f (growth_of old f pages) → IsSoundVnode (vnode_at new f) → KeepsLayout old new → from ≤ page_count (vnode_at old f).info.extents → BlanksUpTo old new f extents from from
grown-first old new f pages from extents lt was grown step sound layout le =
    let is : new ≡ with_vnode old f (with_extents (vnode_at old f) extents) = step ∙ ap (with_growth old f) grown in
    let at : vnode_at new f ≡ with_extents (vnode_at old f) extents = ap (λ (s : FilesSeen). vnode_at s f) is ∙ here-set old f (with_extents (vnode_at old f) extents) lt in
    record {
      disks = ap (λ (s : FilesSeen). s.disks) is;
      count = ap (λ (s : FilesSeen). length s.files) is ∙ length-set old.files f (with_extents (vnode_at old f) extents);
      others = λ k ne. ap (λ (s : FilesSeen). vnode_at s k) is ∙ else-set old f k (with_extents (vnode_at old f) extents) ne;
      info = ap (λ (v : VnodeSeen). v.info) at;
      bits = sound.bits ∙ ap (λ (v : VnodeSeen). page_count v.info.extents) at;
      below = λ i low. ap (λ (v : VnodeSeen). is_blank v i) at ∙ got-append (vnode_at old f).blanks (replicate (page_count extents - page_count (vnode_at old f).info.extents) true) i false (let b = was.bits in omega (arith, b, low, le));
      blank = λ i low high. absurd (omega (arith, low, high));
      layout = layout;
    }

-- ONE MORE IS BLANK.
pub blank-more : (old now new : FilesSeen) (f page from : ℕ) (extents : List Extent) → f < length now.files → BlanksUpTo old now f extents from page → from ≤ page → page < page_count extents → new ≡ with_vnode now f (with_blank (vnode_at now f) page true) → KeepsLayout now new → BlanksUpTo old new f extents from (page + 1)
blank-more old now new f page from extents lt b le inside step layout =
    let v = with_blank (vnode_at now f) page true in
    let at : vnode_at new f ≡ v = ap (λ (s : FilesSeen). vnode_at s f) step ∙ here-set now f v lt in
    record {
      disks = ap (λ (s : FilesSeen). s.disks) step ∙ b.disks;
      count = ap (λ (s : FilesSeen). length s.files) step ∙ length-set now.files f v ∙ b.count;
      others = λ k ne. ap (λ (s : FilesSeen). vnode_at s k) step ∙ else-set now f k v ne ∙ b.others k ne;
      info = ap (λ (x : VnodeSeen). x.info) at ∙ b.info;
      bits = ap (λ (x : VnodeSeen). length x.blanks) at ∙ length-set (vnode_at now f).blanks page true ∙ b.bits;
      below = λ i low. ap (λ (x : VnodeSeen). is_blank x i) at ∙ get_or-set_other (vnode_at now f).blanks page i true false (λ e. omega (arith, e, low, le)) ∙ b.below i low;
      blank = λ i low high. ap (λ (x : VnodeSeen). is_blank x i) at ∙ elim (cases_eq i page) [
        | inl e ↦ ap (λ (k : ℕ). slice_index_or (slice_set (vnode_at now f).blanks page true) k false) e ∙ get_or-set_same (vnode_at now f).blanks page true false (let n = b.bits in omega (arith, n, inside))
        | inr ne ↦ get_or-set_other (vnode_at now f).blanks page i true false ne ∙ b.blank i low (omega (arith, high, ne))
      ];
      layout = layout-then old now new b.layout layout;
    }

-- AND IT HAS ITS LENGTH.
pub end-set : (old now new : FilesSeen) (f n : ℕ) (extents : List Extent) → f < length old.files → BlanksUpTo old now f extents (pages_in (vnode_at old f).info.length) (pages_in n)
    → GrowthGives (block_count old.disks (vnode_at old f).info.disk) (extents_on (vnode_at old f).info.disk (remove old.files f)) (vnode_at old f).info.extents (pages_in n) extents
    → 1 ≤ length (vnode_at old f).info.extents → IsSoundVnode (vnode_at new f) → new ≡ with_vnode now f (with_length (vnode_at now f) n) → KeepsLayout now new → SetsEnd old new f n extents
end-set old now new f n extents lt b gives some sound step layout =
    let v = with_length (vnode_at now f) n in
    let lt' : f < length now.files = subst (λ (c : ℕ). f < c) (sym b.count) lt in
    let at : vnode_at new f ≡ v = ap (λ (s : FilesSeen). vnode_at s f) step ∙ here-set now f v lt' in
    let info : (vnode_at new f).info ≡ record (vnode_at old f).info { extents = extents; length = n } = ap (λ (x : VnodeSeen). x.info) at ∙ ap (λ (i : FileInfo). record i { length = n }) b.info in
    record {
      there = lt;
      disks = ap (λ (s : FilesSeen). s.disks) step ∙ b.disks;
      count = ap (λ (s : FilesSeen). length s.files) step ∙ length-set now.files f v ∙ b.count;
      others = λ k ne. ap (λ (s : FilesSeen). vnode_at s k) step ∙ else-set now f k v ne ∙ b.others k ne;
      mode = ap (λ (i : FileInfo). record { name = i.name; disk = i.disk; writable = i.writable }) info;
      length_is = ap (λ (i : FileInfo). i.length) info;
      extents_are = ap (λ (i : FileInfo). i.extents) info;
      sound = sound;
      layout = layout-then old now new b.layout layout;
      more = let c = gives.count in omega (arith, c);
      blocks = λ i low. gives.takes.kept i low;
      some = let a : length (map (λ (e : Extent). e.start) extents) ≡ length (map (λ (e : Extent). e.start) (vnode_at old f).info.extents ++ gives.takes.new_starts) = ap length gives.takes.starts in
          let x = length-map extents (λ (e : Extent). e.start) in let y = length-map (vnode_at old f).info.extents (λ (e : Extent). e.start) in let z = length-append (map (λ (e : Extent). e.start) (vnode_at old f).info.extents) gives.takes.new_starts in
          omega (arith, a, x, y, z, some);
      old_blanks = λ i low below. ap (λ (x : VnodeSeen). is_blank x i) at ∙ b.below i low;
      new_blanks = λ i low below. ap (λ (x : VnodeSeen). is_blank x i) at ∙ b.blank i low below;
    }

-- as far as it is asked
pub as-far : (old new : FilesSeen) (f : ℕ) (extents : List Extent) (from from' to to' : ℕ) → from ≡ from' → to' ≤ to → BlanksUpTo old new f extents from to → BlanksUpTo old new f extents from' to'
as-far old new f extents from from' to to' e le b = record {
  disks = b.disks;
  count = b.count;
  others = b.others;
  info = b.info;
  bits = b.bits;
  below = λ i low. b.below i (omega (arith, low, e));
  blank = λ i low high. b.blank i (omega (arith, low, e)) (omega (arith, high, le));
  layout = b.layout;
}
