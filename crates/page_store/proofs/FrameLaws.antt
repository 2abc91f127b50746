-- What a frame's name, row and bytes say of each other, and numbers in sets.
use Rattle.std.proofs.Common.{◌≡◌, ◌≢◌, ℕ, zero, suc, ◌<◌, Bool, true, false, ◌⊎◌, inl, inr, List, [], ◌∷◌, Option, Some, None, refl, sym, ◌∙◌, ap, subst, arith, length, IsSome, is_some}
use Rattle.std.specs.Prelude.{◌&&◌, ◌||◌, ◌==◌, is_none}
use Rattle.std.proofs.lemmas.Bool.{cases_Bool, or_left, or_parts, or_right}
use Rattle.std.proofs.lemmas.Bool.Decides.{nat_tests}
use Rattle.core_arena.specs.Bytes.{bytes_at}
use Rattle.page_hash.specs.Names.{name_at}
use Rattle.page_hash.specs.declared.PageName.{PageName}
use Rattle.page_lock.specs.Rows.{row_at, clear_row}
use Rattle.page_lock.specs.declared.Row.{Row}
use Rattle.page_store.specs.Moves.{is_only}
use Rattle.page_store.specs.Seen.{StoreSeen, IsSoundStore, FrameAgrees, IsListedFrame, own_frame}
use Rattle.page_store.proofs.QueryLemmas.{held-within, some-within}

-- numbers that are this one, or not
pub eq-same : (k : ℕ) → (k == k) ≡ true
eq-same k = grind (arith, nat_tests)

pub eq-far : (k f : ℕ) → k ≢ f → (k == f) ≡ false
eq-far k f ne = grind (arith, nat_tests)

pub eq-is : (k f : ℕ) → (k == f) ≡ true → k ≡ f
eq-is k f h = grind (arith, nat_tests)

pub eq-not : (k f : ℕ) → (k == f) ≡ false → k ≢ f
eq-not k f h q = let z : true ≡ false = sym (eq-same f) ∙ ap (λ (j : ℕ). j == f) (sym q) ∙ h in cc

pub false-left : (a b : Bool) → (a || b) ≡ false → a ≡ false
false-left false b h = refl
false-left true b h = h

pub false-right : (a b : Bool) → (a || b) ≡ false → b ≡ false
false-right false b h = h
false-right true b h = absurd (let z : true ≡ false = h in cc)

-- there is something, or nothing
pub some-or-none : {X : Type 0} (o : Option X) → (o ≡ None) ⊎ ((x : X) × (o ≡ Some x))
some-or-none None = inl refl
some-or-none (Some x) = inr (x, refl)

pub none-is : {X : Type 0} (o : Option X) → is_none o ≡ true → o ≡ None
none-is None h = refl
none-is (Some x) h = cc

pub some-not : {X : Type 0} (o : Option X) → IsSome o → o ≡ None → ⊥
some-not {X = X} o h e = let z : true ≡ false = sym h ∙ ap (λ (x : Option X). is_some x) e in cc

pub home_held : (b : Option (List ℕ)) (h : Option ℕ) → is_none b ≡ is_some h → IsSome b → h ≡ None
home_held (Some b) None a t = refl
home_held (Some b) (Some s) a t = let z : false ≡ true = a in cc
home_held None h a t = let z : false ≡ true = t in cc

held_away : (b : Option (List ℕ)) (h : Option ℕ) (t : ℕ) → is_none b ≡ is_some h → h ≡ Some t → b ≡ None
held_away None h t a e = refl
held_away (Some b) h t a e = let z : false ≡ true = a ∙ ap (λ (o : Option ℕ). is_some o) e in cc

away_held : (b : Option (List ℕ)) (h : Option ℕ) → is_none b ≡ is_some h → b ≡ None → IsSome h
away_held b h a e = sym a ∙ ap (λ (o : Option (List ℕ)). is_none o) e

free_unlinked : (h : Option ℕ) (n : Option PageName) (gone : Bool) (o : Option ℕ) → (is_some h && is_none n) ≡ (gone || is_some o) → h ≡ None → (gone ≡ false) × (o ≡ None)
free_unlinked h n false None u e = (refl, refl)
free_unlinked h n false (Some x) u e = let z : false ≡ true = sym (ap (λ (y : Option ℕ). is_some y && is_none n) e) ∙ u in absurd (cc)
free_unlinked h n true o u e = let z : false ≡ true = sym (ap (λ (y : Option ℕ). is_some y && is_none n) e) ∙ u in absurd (cc)

named_so : (a : Bool) (n : Option PageName) (name : PageName) → n ≡ Some name → (a && is_none n) ≡ false
named_so true n name e = ap (λ (y : Option PageName). is_none y) e
named_so false n name e = refl

pub unset : (o : Option ℕ) → is_some o ≡ false → o ≡ None
unset None h = refl
unset (Some x) h = let z : true ≡ false = h in absurd (cc)

unnamed_so : (h : Option ℕ) (n : Option PageName) (gone : Bool) (o : Option ℕ) → (is_some h && is_none n) ≡ (gone || is_some o) → (gone || is_some o) ≡ true → (IsSome h) × (n ≡ None)
unnamed_so (Some t) None gone o u e = (refl, refl)
unnamed_so (Some t) (Some n) gone o u e = let z : false ≡ true = u ∙ e in absurd (cc)
unnamed_so None n gone o u e = let z : false ≡ true = u ∙ e in absurd (cc)

module _ (b : Option (List ℕ)) (n : Option PageName) (row : Row) (is : FrameAgrees b n row) where
  -- the frame is home: nobody holds it, and it has no page that is gone, and none that it is a snapshot of
  pub home-unheld : IsSome b → row.holder ≡ None
  home-unheld t = home_held b row.holder is.away t

  pub home-ungone : IsSome b → row.gone ≡ false
  home-ungone t = (free_unlinked row.holder n row.gone row.source is.unnamed (home-unheld t)).0

  pub home-unsourced : IsSome b → row.source ≡ None
  home-unsourced t = (free_unlinked row.holder n row.gone row.source is.unnamed (home-unheld t)).1

  -- so has one that holds a name
  named_links : (name : PageName) → n ≡ Some name → (row.gone || is_some row.source) ≡ false
  named_links name e = sym is.unnamed ∙ named_so (is_some row.holder) n name e

  pub named-ungone : (name : PageName) → n ≡ Some name → row.gone ≡ false
  named-ungone name e = (or_parts row.gone (is_some row.source) (named_links name e)).0

  pub named-unsourced : (name : PageName) → n ≡ Some name → row.source ≡ None
  named-unsourced name e = unset row.source (or_parts row.gone (is_some row.source) (named_links name e)).1

  pub held-away : (t : ℕ) → row.holder ≡ Some t → b ≡ None
  held-away t e = held_away b row.holder t is.away e

  pub away-held : b ≡ None → IsSome row.holder
  away-held e = away_held b row.holder is.away e

  -- a snapshot, and a page that is gone, are held without a name
  pub sourced-unnamed : (own : ℕ) → row.source ≡ Some own → (IsSome row.holder) × (n ≡ None)
  sourced-unnamed own e = unnamed_so row.holder n row.gone row.source is.unnamed (or_right row.gone (is_some row.source) (ap (λ (o : Option ℕ). is_some o) e))

  pub gone-unnamed : row.gone ≡ true → (IsSome row.holder) × (n ≡ None)
  gone-unnamed e = unnamed_so row.holder n row.gone row.source is.unnamed (or_left row.gone (is_some row.source) e)

-- a frame with a snapshot or a source is one of the frames
linked_within : (rows : List Row) (k : ℕ) → (row_at rows k ≡ clear_row → ⊥) → k < length rows
linked_within [] k h = absurd (h refl)
linked_within (r ∷ more) zero h = omega arith
linked_within (r ∷ more) (suc k) h = let l = linked_within more k h in omega arith

pub source-within : (rows : List Row) (k own : ℕ) → (row_at rows k).source ≡ Some own → k < length rows
source-within rows k own e = linked_within rows k (λ q. let z : None ≡ Some own = ap (λ (r : Row). r.source) (sym q) ∙ e in cc)

pub snapshot-within : (rows : List Row) (k copy : ℕ) → (row_at rows k).snapshot ≡ Some copy → k < length rows
snapshot-within rows k copy e = linked_within rows k (λ q. let z : None ≡ Some copy = ap (λ (r : Row). r.snapshot) (sym q) ∙ e in cc)

module _ (s : StoreSeen) (sound : IsSoundStore s) where
  -- a frame's own facts, by number
  pub agrees-at : (k : ℕ) → k < length s.rows → FrameAgrees (bytes_at s.frames k) (name_at s.names k) (row_at s.rows k)
  agrees-at k lt = sound.each k (let a = sound.rows in omega arith)

  -- a frame that is home with no snapshot away, or on a list, has no links
  pub home-source : (k : ℕ) → IsSome (bytes_at s.frames k) → (row_at s.rows k).source ≡ None
  home-source k t = home-unsourced (bytes_at s.frames k) (name_at s.names k) (row_at s.rows k) (sound.each k (some-within s.frames k t)) t

  pub listed-snapshot : (k : ℕ) → IsListedFrame s k → (row_at s.rows k).snapshot ≡ None
  listed-snapshot k l = elim (some-or-none (row_at s.rows k).snapshot) [
    | inl e ↦ e
    | inr x ↦ absurd (sound.paired.unlisted k x.0 x.1 l)
  ]

  pub away-snapshot : (k : ℕ) → bytes_at s.frames k ≡ None → (row_at s.rows k).snapshot ≡ None
  away-snapshot k e = elim (some-or-none (row_at s.rows k).snapshot) [
    | inl n ↦ n
    | inr x ↦ absurd (some-not (bytes_at s.frames k) (sound.paired.home k x.0 x.1) e)
  ]

  -- a snapshot is held, without a name, and away
  pub copy-held : (own copy : ℕ) → (row_at s.rows copy).source ≡ Some own → IsSome (row_at s.rows copy).holder × (name_at s.names copy ≡ None)
  copy-held own copy e = sourced-unnamed (bytes_at s.frames copy) (name_at s.names copy) (row_at s.rows copy) (agrees-at copy (source-within s.rows copy own e)) own e

  pub copy-away : (own copy : ℕ) → (row_at s.rows copy).source ≡ Some own → bytes_at s.frames copy ≡ None
  copy-away own copy e =
      let lt = source-within s.rows copy own e in
      elim (some-or-none (row_at s.rows copy).holder) [
        | inl n ↦ absurd (some-not (row_at s.rows copy).holder (copy-held own copy e).0 n)
        | inr t ↦ held-away (bytes_at s.frames copy) (name_at s.names copy) (row_at s.rows copy) (agrees-at copy lt) t.0 t.1
      ]

  pub copy-apart : (own copy : ℕ) → (row_at s.rows copy).source ≡ Some own → own ≢ copy
  copy-apart own copy e q =
      some-not (bytes_at s.frames own) (sound.paired.home own copy (sound.paired.snapshot own copy e))
      (ap (λ (k : ℕ). bytes_at s.frames k) q ∙ copy-away own copy e)
