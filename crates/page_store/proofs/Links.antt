-- A page and its snapshot are paired, and part.
use Rattle.std.proofs.Common.{◌≡◌, ◌≢◌, ℕ, ◌<◌, Bool, true, false, ◌⊎◌, inl, inr, List, Option, Some, None, IsSome, refl, sym, ◌∙◌, ap, subst, arith, length, set, is_some}
use Rattle.std.specs.Prelude.{◌&&◌, ◌||◌, ◌==◌, is_none}
use Rattle.std.proofs.lemmas.List.{get_or-set_same, get_or-set_other}
use Rattle.std.proofs.Math.ListN.{length-set}
use Rattle.std.proofs.lemmas.Bool.{cases_eq}
use Rattle.core_arena.specs.Bytes.{bytes_at}
use Rattle.page_hash.specs.Names.{name_at}
use Rattle.page_hash.specs.declared.PageName.{PageName}
use Rattle.page_lock.specs.Rows.{row_at, clear_row}
use Rattle.page_lock.specs.declared.Row.{Row}
use Rattle.page_store.specs.Moves.{is_only, family, family_of}
use Rattle.page_store.specs.Parts.{rows_parted, rows_without, rows_forsaken, rows_settled}
use Rattle.page_store.specs.Seen.{StoreSeen, IsSoundStore, FrameAgrees, ArePaired}
use Rattle.page_store.specs.Steps.{with_pair_parted, without_snapshot}
use Rattle.page_store.proofs.Agree.{SameOut, same-out}
use Rattle.page_store.proofs.Elsewhere.{Elsewhere, SoundAt, SoundParts, sound-elsewhere, same-elsewhere}
use Rattle.page_store.proofs.FrameLaws.{some-or-none, eq-same, eq-is, eq-far, eq-not, false-left, false-right, agrees-at, home-source, away-snapshot, copy-held}
use Rattle.page_store.proofs.FrameLaws.{copy-away, copy-apart, snapshot-within, source-within}

-- this frame or that one
abbrev pub either : ℕ → ℕ → ℕ → Bool
either f g k = (k == f) || (k == g)

pub cases-either : (k f g : ℕ) → (k ≡ f) ⊎ ((k ≡ g) ⊎ ((k ≢ f) × (k ≢ g)))
cases-either k f g = elim (cases_eq k f) [
  | inl e ↦ inl e
  | inr ne ↦ elim (cases_eq k g) [ inl e ↦ inr (inl e) | inr far ↦ inr (inr (ne, far)) ]
]

pub either-is : (f g k : ℕ) → either f g k ≡ true → (k ≡ f) ⊎ (k ≡ g)
either-is f g k t = elim (cases-either k f g) [
  | inl e ↦ inl e
  | inr r ↦ elim r [
    | inl e ↦ inr e
    | inr far ↦ elim (some_true (k == f) (k == g) t) [ inl x ↦ absurd (far.0 (eq-is k f x)) | inr y ↦ absurd (far.1 (eq-is k g y)) ]
  ]
]
  where
    some_true : (a b : Bool) → (a || b) ≡ true → (a ≡ true) ⊎ (b ≡ true)
    some_true true b h = inl refl
    some_true false b h = inr h

pub either-not : (f g k : ℕ) → either f g k ≡ false → (k ≢ f) × (k ≢ g)
either-not f g k h = (eq-not k f (false-left (k == f) (k == g) h), eq-not k g (false-right (k == f) (k == g) h))

-- what a family has
pub family-own : (s : StoreSeen) (own k : ℕ) → family s own k ≡ false → k ≢ own
family-own s own k h e = let z : true ≡ false = sym (eq-same own) ∙ ap (λ (j : ℕ). j == own) (sym e)
    ∙ false-left (k == own) (is_only (row_at s.rows own).snapshot k || is_only (row_at s.rows own).source k) h in cc

pub family-copy : (s : StoreSeen) (own copy k : ℕ) → (row_at s.rows own).snapshot ≡ Some copy → family s own k ≡ false → (k == copy) ≡ false
family-copy s own copy k e h =
    ap (λ (o : Option ℕ). is_only o k) (sym e)
    ∙ false-left (is_only (row_at s.rows own).snapshot k) (is_only (row_at s.rows own).source k)
    (false-right (k == own) (is_only (row_at s.rows own).snapshot k || is_only (row_at s.rows own).source k) h)

pub family-source : (s : StoreSeen) (own f k : ℕ) → (row_at s.rows f).source ≡ Some own → family s f k ≡ false → k ≢ own
family-source s own f k e h =
    eq-not k own (ap (λ (o : Option ℕ). is_only o k) (sym e)
    ∙ false-right (is_only (row_at s.rows f).snapshot k) (is_only (row_at s.rows f).source k) (false-right (k == f) (is_only (row_at s.rows f).snapshot k || is_only (row_at s.rows f).source k) h))

pub family-of-own : (s : StoreSeen) (o : Option ℕ) (own k : ℕ) → o ≡ Some own → family_of s o k ≡ false → family s own k ≡ false
family-of-own s o own k e h = subst (λ (x : Option ℕ). family_of s x k ≡ false) e h

-- two rows that change
module _ (rows : List Row) (own copy : ℕ) (o c : Row) (apart : own ≢ copy) (own_in : own < length rows) (copy_in : copy < length rows) where
  pub two-own : row_at (set (set rows copy c) own o) own ≡ o
  two-own = get_or-set_same (set rows copy c) own o clear_row (let l = length-set rows copy c in omega (arith, l))

  pub two-copy : row_at (set (set rows copy c) own o) copy ≡ c
  two-copy = get_or-set_other (set rows copy c) own copy o clear_row (λ q. apart (sym q)) ∙ get_or-set_same rows copy c clear_row copy_in

  pub two-else : (k : ℕ) → k ≢ own → k ≢ copy → row_at (set (set rows copy c) own o) k ≡ row_at rows k
  two-else k ne far = get_or-set_other (set rows copy c) own k o clear_row ne ∙ get_or-set_other rows copy k c clear_row far

  pub two-length : length (set (set rows copy c) own o) ≡ length rows
  two-length = length-set (set rows copy c) own o ∙ length-set rows copy c

-- a page and its snapshot part
module _ (s : StoreSeen) (own copy : ℕ) (modified : Bool) (sound : IsSoundStore s) (source : (row_at s.rows copy).source ≡ Some own) where
  pub parted-apart : own ≢ copy
  parted-apart = copy-apart s sound own copy source

  snapshot_is : (row_at s.rows own).snapshot ≡ Some copy
  snapshot_is = sound.paired.snapshot own copy source

  pub parted-own : own < length s.rows
  parted-own = snapshot-within s.rows own copy snapshot_is

  pub parted-copy : copy < length s.rows
  parted-copy = source-within s.rows copy own source

  at_own : row_at (rows_parted s.rows own copy modified) own ≡ record (row_at s.rows own) { snapshot = None; modified = modified }
  at_own = two-own s.rows own copy (record (row_at s.rows own) { snapshot = None; modified = modified })
      (record (row_at s.rows copy) { source = None; gone = true }) parted-apart parted-own parted-copy

  at_copy : row_at (rows_parted s.rows own copy modified) copy ≡ record (row_at s.rows copy) { source = None; gone = true }
  at_copy = two-copy s.rows own copy (record (row_at s.rows own) { snapshot = None; modified = modified })
      (record (row_at s.rows copy) { source = None; gone = true }) parted-apart parted-own parted-copy

  at_else : (k : ℕ) → k ≢ own → k ≢ copy → row_at (rows_parted s.rows own copy modified) k ≡ row_at s.rows k
  at_else k ne far = two-else s.rows own copy (record (row_at s.rows own) { snapshot = None; modified = modified })
      (record (row_at s.rows copy) { source = None; gone = true }) parted-apart parted-own parted-copy k ne far

  pub parted-own-row : row_at (rows_parted s.rows own copy modified) own ≡ record (row_at s.rows own) { snapshot = None; modified = modified }
  parted-own-row = at_own

  pub parted-copy-row : row_at (rows_parted s.rows own copy modified) copy ≡ record (row_at s.rows copy) { source = None; gone = true }
  parted-copy-row = at_copy

  pub same-parted : (k : ℕ) → SameOut (row_at s.rows k) (row_at (rows_parted s.rows own copy modified) k)
  same-parted k = elim (cases-either k own copy) [
    | inl e ↦ subst (λ (j : ℕ). SameOut (row_at s.rows j) (row_at (rows_parted s.rows own copy modified) j)) (sym e)
        (subst (λ (r : Row). SameOut (row_at s.rows own) r) (sym at_own) (record { holder = refl; page = inl (refl, refl) }))
    | inr r ↦ elim r [
      | inl e ↦ subst (λ (j : ℕ). SameOut (row_at s.rows j) (row_at (rows_parted s.rows own copy modified) j)) (sym e)
          (subst (λ (r : Row). SameOut (row_at s.rows copy) r) (sym at_copy) (record { holder = refl; page = inr (refl, refl) }))
      | inr far ↦ subst (λ (r : Row). SameOut (row_at s.rows k) r) (sym (at_else k far.0 far.1)) (same-out (row_at s.rows k))
    ]
  ]

  pub elsewhere-parted : Elsewhere s (with_pair_parted s own copy modified) (either own copy)
  elsewhere-parted = record {
    frames = refl;
    bytes = λ k h. refl;
    names = λ k h. refl;
    rows = λ k h. at_else k (either-not own copy k h).0 (either-not own copy k h).1;
    free = λ k h. (λ z. z, λ z. z);
    cached = λ k h. (λ z. z, λ z. z);
  }

  -- a frame with a snapshot then is none of the two, and had it before
  still_paired : (k x : ℕ) → (row_at (rows_parted s.rows own copy modified) k).snapshot ≡ Some x → (k ≢ own) × (k ≢ copy) × ((row_at s.rows k).snapshot ≡ Some x)
  still_paired k x h = elim (cases-either k own copy) [
    | inl e ↦ absurd (let z : None ≡ Some x = sym (ap (λ (r : Row). r.snapshot) at_own) ∙ ap (λ (j : ℕ). (row_at (rows_parted s.rows own copy modified) j).snapshot) (sym e) ∙ h in cc)
    | inr r ↦ elim r [
      | inl e ↦
          let a : (row_at s.rows copy).snapshot ≡ Some x = sym (ap (λ (r : Row). r.snapshot) at_copy) ∙ ap (λ (j : ℕ). (row_at (rows_parted s.rows own copy modified) j).snapshot) (sym e) ∙ h in
          absurd (let z : None ≡ Some x = sym (away-snapshot s sound copy (copy-away s sound own copy source)) ∙ a in cc)
      | inr far ↦ (far.0, far.1, ap (λ (r : Row). r.snapshot) (sym (at_else k far.0 far.1)) ∙ h)
    ]
  ]

  -- so is a snapshot that is left
  still_copy : (k x : ℕ) → (row_at (rows_parted s.rows own copy modified) k).source ≡ Some x → (k ≢ copy) × ((row_at s.rows k).source ≡ Some x)
  still_copy k x h = elim (cases-either k own copy) [
    | inl e ↦ (
      (λ q. parted-apart (sym e ∙ q)),
      ap (λ (j : ℕ). (row_at s.rows j).source) e ∙ sym (ap (λ (r : Row). r.source) at_own)
          ∙ ap (λ (j : ℕ). (row_at (rows_parted s.rows own copy modified) j).source) (sym e) ∙ h,
    )
    | inr r ↦ elim r [
      | inl e ↦ absurd (let z : None ≡ Some x = sym (ap (λ (r : Row). r.source) at_copy) ∙ ap (λ (j : ℕ). (row_at (rows_parted s.rows own copy modified) j).source) (sym e) ∙ h in cc)
      | inr far ↦ (far.1, ap (λ (r : Row). r.source) (sym (at_else k far.0 far.1)) ∙ h)
    ]
  ]

  source_after : (k x : ℕ) → k ≢ copy → (row_at s.rows k).source ≡ Some x → (row_at (rows_parted s.rows own copy modified) k).source ≡ Some x
  source_after k x far h = elim (cases_eq k own) [
    | inl e ↦ ap (λ (j : ℕ). (row_at (rows_parted s.rows own copy modified) j).source) e ∙ ap (λ (r : Row). r.source) at_own ∙ ap (λ (j : ℕ). (row_at s.rows j).source) (sym e) ∙ h
    | inr ne ↦ ap (λ (r : Row). r.source) (at_else k ne far) ∙ h
  ]

  paired_parted : ArePaired (with_pair_parted s own copy modified)
  paired_parted = record {
    source = λ k x h.
        let p = still_paired k x h in
        let src : (row_at s.rows x).source ≡ Some k = sound.paired.source k x p.2 in
        source_after x k (λ (q : x ≡ copy). let z : Some own ≡ Some k = sym source ∙ ap (λ (j : ℕ). (row_at s.rows j).source) (sym q) ∙ src in p.0 (cc)) src;
    snapshot = λ k x h.
        let p = still_copy x k h in
        let snap : (row_at s.rows k).snapshot ≡ Some x = sound.paired.snapshot k x p.1 in
        let not_own : k ≢ own = λ (q : k ≡ own). let z : Some copy ≡ Some x = sym snapshot_is ∙ ap (λ (j : ℕ). (row_at s.rows j).snapshot) (sym q) ∙ snap in p.0 (cc) in
        let not_copy : k ≢ copy = λ (q : k ≡ copy). let z : None ≡ Some x = sym (away-snapshot s sound copy (copy-away s sound own copy source))
        ∙ ap (λ (j : ℕ). (row_at s.rows j).snapshot) (sym q) ∙ snap in cc in
        ap (λ (r : Row). r.snapshot) (at_else k not_own not_copy) ∙ snap;
    home = λ k x h. sound.paired.home k x (still_paired k x h).2;
    named = λ k x h. sound.paired.named k x (still_paired k x h).2;
    unlisted = λ k x h. sound.paired.unlisted k x (still_paired k x h).2;
  }

  agrees_own : FrameAgrees (bytes_at s.frames own) (name_at s.names own) (record (row_at s.rows own) { snapshot = None; modified = modified })
  agrees_own = let was = agrees-at s sound own parted-own in record { size = was.size; away = was.away; unnamed = was.unnamed; torn = was.torn }

  agrees_copy : FrameAgrees (bytes_at s.frames copy) (name_at s.names copy) (record (row_at s.rows copy) { source = None; gone = true })
  agrees_copy =
      let was = agrees-at s sound copy parted-copy in
      let h = copy-held s sound own copy source in
      record {
        size = was.size;
        away = was.away;
        unnamed = ap (λ (b : Bool). b && is_none (name_at s.names copy)) h.0 ∙ ap (λ (n : Option PageName). is_none n) h.1;
        torn = λ g. refl;
      }

  pub sound-parted : IsSoundStore (with_pair_parted s own copy modified)
  sound-parted = sound-elsewhere s (with_pair_parted s own copy modified) (either own copy) elsewhere-parted sound
      (record {
        names = refl;
        rows = two-length s.rows own copy (record (row_at s.rows own) { snapshot = None; modified = modified })
            (record (row_at s.rows copy) { source = None; gone = true }) parted-apart parted-own parted-copy;
        clock = refl;
        bays = refl;
        order = sound.order;
        distinct = sound.distinct;
        lists = sound.lists;
        paired = paired_parted;
        whole = sound.whole;
      })
      (λ k t. elim (either-is own copy k t) [
        | inl e ↦ subst (λ (j : ℕ). SoundAt (with_pair_parted s own copy modified) j) (sym e) (record {
          agrees = subst (λ (r : Row). FrameAgrees (bytes_at s.frames own) (name_at s.names own) r) (sym at_own) agrees_own;
          listed = sound.listed own;
          unnamed = sound.unnamed own;
          spare = sound.spare own;
        })
        | inr e ↦ subst (λ (j : ℕ). SoundAt (with_pair_parted s own copy modified) j) (sym e) (record {
          agrees = subst (λ (r : Row). FrameAgrees (bytes_at s.frames copy) (name_at s.names copy) r) (sym at_copy) agrees_copy;
          listed = sound.listed copy;
          unnamed = sound.unnamed copy;
          spare = sound.spare copy;
        })
      ])
