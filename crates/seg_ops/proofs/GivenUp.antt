-- A PAGE IS GIVEN UP, wherever it is: what becomes of its frame, of the frame of its snapshot, and of every other frame.
use Rattle.std.proofs.Common.{◌≡◌, ◌≢◌, ℕ, ◌<◌, ◌==◌, ◌||◌, Bool, true, false, List, length, Option, Some, None, refl, sym, ap, ◌∙◌, ◌⊎◌, inl, inr, subst, slice_set, get_or-set_same, arith}
use Rattle.std.specs.Prelude.{IsSome, is_some, unwrap_or}
use Rattle.std.proofs.lemmas.Bool.{cases_eq, cases_Bool, eqb-true}
use Rattle.std.proofs.lemmas.Bool.Decides.{eqb_tells}
use Rattle.std.proofs.lemmas.List.{get_or-set_other}
use Rattle.page_store.specs.core_arena.Bytes.{bytes_at}
use Rattle.page_store.specs.page_hash.Names.{name_at, find}
use Rattle.page_store.specs.page_hash.declared.PageName.{PageName}
use Rattle.page_store.proofs.page_hash.NameLaws.{find-at, find-none}
use Rattle.page_store.specs.page_lock.Rows.{row_at, clear_row}
use Rattle.page_store.specs.page_lock.declared.Row.{Row}
use Rattle.page_store.specs.Laws.{Aborts}
use Rattle.page_store.specs.Moves.{is_only, family, family_of}
use Rattle.page_store.specs.Parts.{rows_without}
use Rattle.page_store.specs.Seen.{StoreSeen, IsSoundStore, own_frame}
use Rattle.page_store.specs.Steps.{after_abort, at_frame, with_page_given_up, without_snapshot}
use Rattle.page_store.proofs.AbortLemmas.{forsakes}
use Rattle.page_store.proofs.FrameLaws.{some-or-none, source-within, away-snapshot, held-away, named-unsourced, sourced-unnamed}
use Rattle.page_store.proofs.Links.{parted-copy-row}
use Rattle.page_store.proofs.QueryLemmas.{found-within}
use Rattle.vm_world.specs.World.{core_of}
use Rattle.seg_ops.proofs.Fills.{Elsewhere}

-- The frame of the page, or of its snapshot: it holds no name; where it is away its page is gone, and where it is home it isn't modified.
pub record IsGivenUp (s new : StoreSeen) (n : PageName) (k : ℕ) : Type 0 where
  pub own : name_at s.names (own_frame s k) ≡ Some n
  pub only_one : (m : PageName) → name_at s.names k ≡ Some m → m ≡ n
  pub unnamed : name_at new.names k ≡ None
  pub keeps : (row_at s.rows k).keeps ≡ 0 → (row_at new.rows k).keeps ≡ 0
  pub away : bytes_at s.frames k ≡ None → (row_at new.rows k).gone ≡ true
  pub home : IsSome (bytes_at s.frames k) → (row_at new.rows k).modified ≡ false

pub record GivesUp (s new : StoreSeen) (n : PageName) : Type 0 where
  pub laws : Aborts s new n
  pub mine : (k : ℕ) → name_at s.names (own_frame s k) ≡ Some n → IsGivenUp s new n k
  pub core : core_of new ≡ core_of s
  pub bytes : (k : ℕ) → bytes_at new.frames k ≡ bytes_at s.frames k
  pub each : (k : ℕ) → IsGivenUp s new n k ⊎ Elsewhere s new k

else_where : (s new : StoreSeen) (n : PageName) (k : ℕ) → Aborts s new n → family_of s (find s.names n) k ≡ false → Elsewhere s new k
else_where s new n k laws out = record {
  bytes = laws.touches.bytes k out;
  name = laws.touches.names k out;
  row = laws.touches.rows k out;
  listed = λ l. elim l [ inl h ↦ inl ((laws.touches.free k out).0 h) | inr h ↦ inr ((laws.touches.cached k out).0 h) ];
}

some-is : {X : Type 0} (o : Option X) (x : X) → o ≡ Some x → IsSome o
some-is o x e = ap (λ a. is_some a) e

module _ (s new : StoreSeen) (n : PageName) (frame : ℕ) (sound : IsSoundStore s) (found : find s.names n ≡ Some frame) (step : new ≡ with_page_given_up (without_snapshot s frame) frame (bytes_at s.frames frame)) where
  named : name_at s.names frame ≡ Some n
  named = find-at s.names n frame found

  within : frame < length s.frames
  within = found-within s n frame sound found

  unsourced : (row_at s.rows frame).source ≡ None
  unsourced = named-unsourced (bytes_at s.frames frame) (name_at s.names frame) (row_at s.rows frame) (sound.each frame within) n named

  names_are : new.names ≡ slice_set s.names frame None
  names_are = ap (λ (x : StoreSeen). x.names) step ∙ by_bytes (bytes_at s.frames frame)
    where
      by_bytes : (b : Option (List ℕ)) → (with_page_given_up (without_snapshot s frame) frame b).names ≡ slice_set s.names frame None
      by_bytes None = refl
      by_bytes (Some b) = refl

  frames_are : new.frames ≡ s.frames
  frames_are = ap (λ (x : StoreSeen). x.frames) step ∙ by_bytes (bytes_at s.frames frame)
    where
      by_bytes : (b : Option (List ℕ)) → (with_page_given_up (without_snapshot s frame) frame b).frames ≡ s.frames
      by_bytes None = refl
      by_bytes (Some b) = refl

  core_is : core_of new ≡ core_of s
  core_is = ap core_of step ∙ by_bytes (bytes_at s.frames frame)
    where
      by_bytes : (b : Option (List ℕ)) → core_of (with_page_given_up (without_snapshot s frame) frame b) ≡ core_of s
      by_bytes None = refl
      by_bytes (Some b) = refl

  -- the rows of the frame of a page that is home, and of one that is away
  home-row : (b : List ℕ) → bytes_at s.frames frame ≡ Some b → row_at new.rows frame ≡ clear_row
  home-row b there =
      ap (λ (x : StoreSeen). row_at x.rows frame) (step ∙ ap (with_page_given_up (without_snapshot s frame) frame) there)
      ∙ get_or-set_same (without_snapshot s frame).rows frame clear_row clear_row (let e = (forsakes s frame sound).length in let r = sound.rows in let lt = within in omega (arith, e, r, lt))

  away-row : bytes_at s.frames frame ≡ None → row_at new.rows frame ≡ record (row_at s.rows frame) { gone = true }
  away-row out =
      ap (λ (x : StoreSeen). row_at x.rows frame) (step ∙ ap (with_page_given_up (without_snapshot s frame) frame) out)
      ∙ get_or-set_same (without_snapshot s frame).rows frame (record (row_at (without_snapshot s frame).rows frame) { gone = true }) clear_row (let e = (forsakes s frame sound).length in let r = sound.rows in let lt = within in omega (arith, e, r, lt))
      ∙ ap (λ (o : Option ℕ). record (row_at (rows_without o s.rows frame) frame) { gone = true }) (away-snapshot s sound frame out)

  own-given : IsGivenUp s new n frame
  own-given = record {
    own = ap (λ (o : Option ℕ). name_at s.names (unwrap_or o frame)) unsourced ∙ named;
    only_one = λ m h. let z : Some m ≡ Some n = sym h ∙ named in cc;
    unnamed = ap (λ names. name_at names frame) names_are ∙ get_or-set_same s.names frame None None (let r = sound.names in let lt = within in omega (arith, r, lt));
    keeps = λ z. by_keeps z (some-or-none (bytes_at s.frames frame));
    away = λ out. ap (λ (r : Row). r.gone) (away-row out);
    home = λ there. by_home there (some-or-none (bytes_at s.frames frame));
  }
    where
      by_keeps : (row_at s.rows frame).keeps ≡ 0 → (bytes_at s.frames frame ≡ None) ⊎ ((b : List ℕ) × (bytes_at s.frames frame ≡ Some b)) → (row_at new.rows frame).keeps ≡ 0
      by_keeps z (inl out) = ap (λ (r : Row). r.keeps) (away-row out) ∙ z
      by_keeps z (inr b) = ap (λ (r : Row). r.keeps) (home-row b.0 b.1)

      by_home : IsSome (bytes_at s.frames frame) → (bytes_at s.frames frame ≡ None) ⊎ ((b : List ℕ) × (bytes_at s.frames frame ≡ Some b)) → (row_at new.rows frame).modified ≡ false
      by_home there (inl out) = absurd (let z : true ≡ false = sym there ∙ ap (λ (o : Option (List ℕ)). is_some o) out in cc)
      by_home there (inr b) = ap (λ (r : Row). r.modified) (home-row b.0 b.1)

  -- the snapshot
  copy-given : (copy : ℕ) → (row_at s.rows frame).snapshot ≡ Some copy → IsGivenUp s new n copy
  copy-given copy pair =
      let source = sound.paired.source frame copy pair in
      let apart : copy ≢ frame = λ e. let z : Some frame ≡ None = sym source ∙ ap (λ (k : ℕ). (row_at s.rows k).source) e ∙ unsourced in cc in
      let lt : copy < length s.frames = let r = sound.rows in let w = source-within s.rows copy frame source in omega (arith, r, w) in
      let bare = sourced-unnamed (bytes_at s.frames copy) (name_at s.names copy) (row_at s.rows copy) (sound.each copy lt) frame source in
      let row : row_at new.rows copy ≡ record (row_at s.rows copy) { source = None; gone = true } = row_is copy pair source apart (some-or-none (bytes_at s.frames frame)) in
      record {
        own = ap (λ (o : Option ℕ). name_at s.names (unwrap_or o copy)) source ∙ named;
        only_one = λ m h. absurd (let z : Some m ≡ None = sym h ∙ bare.1 in cc);
        unnamed = ap (λ names. name_at names copy) names_are ∙ get_or-set_other s.names frame copy None None apart ∙ bare.1;
        keeps = λ z. ap (λ (r : Row). r.keeps) row ∙ z;
        away = λ out. ap (λ (r : Row). r.gone) row;
        home = λ there. absurd (let out = held_out copy lt bare.0 in let z : true ≡ false = sym there ∙ ap (λ (o : Option (List ℕ)). is_some o) out in cc);
      }
    where
      held_out : (copy : ℕ) → copy < length s.frames → IsSome (row_at s.rows copy).holder → bytes_at s.frames copy ≡ None
      held_out copy lt held = elim (some-or-none (row_at s.rows copy).holder) [
        | inl none ↦ absurd (let z : true ≡ false = sym held ∙ ap (λ (o : Option ℕ). is_some o) none in cc)
        | inr t ↦ held-away (bytes_at s.frames copy) (name_at s.names copy) (row_at s.rows copy) (sound.each copy lt) t.0 t.1
      ]

      row_is : (copy : ℕ) → (row_at s.rows frame).snapshot ≡ Some copy → (row_at s.rows copy).source ≡ Some frame → copy ≢ frame → (bytes_at s.frames frame ≡ None) ⊎ ((b : List ℕ) × (bytes_at s.frames frame ≡ Some b))
          → row_at new.rows copy ≡ record (row_at s.rows copy) { source = None; gone = true }
      row_is copy pair source apart (inl out) = absurd (let z : Some copy ≡ None = sym pair ∙ away-snapshot s sound frame out in cc)
      row_is copy pair source apart (inr b) =
          ap (λ (x : StoreSeen). row_at x.rows copy) (step ∙ ap (with_page_given_up (without_snapshot s frame) frame) b.1)
          ∙ get_or-set_other (without_snapshot s frame).rows frame copy clear_row clear_row apart
          ∙ ap (λ (o : Option ℕ). row_at (rows_without o s.rows frame) copy) pair
          ∙ parted-copy-row s frame copy (row_at s.rows frame).modified sound source

  each-frame : (k : ℕ) → Aborts s new n → IsGivenUp s new n k ⊎ Elsewhere s new k
  each-frame k laws = elim (cases_Bool (family s frame k)) [
    | inr out ↦ inr (else_where s new n k laws (ap (λ (o : Option ℕ). family_of s o k) found ∙ out))
    | inl in_it ↦ elim (cases_eq k frame) [
      | inl e ↦ inl (subst (λ (j : ℕ). IsGivenUp s new n j) (sym e) own-given)
      | inr ne ↦
          let linked : (is_only (row_at s.rows frame).snapshot k || is_only (row_at s.rows frame).source k) ≡ true = elim (eqb_tells k frame) [ inl same ↦ absurd (ne same.1) | inr far ↦ sym (ap (λ (b : Bool). b || (is_only (row_at s.rows frame).snapshot k || is_only (row_at s.rows frame).source k)) far.0) ∙ in_it ] in
          let shot : (is_only (row_at s.rows frame).snapshot k || false) ≡ true = sym (ap (λ (o : Option ℕ). is_only (row_at s.rows frame).snapshot k || is_only o k) unsourced) ∙ linked in
          inl (by_shot k (row_at s.rows frame).snapshot refl shot)
    ]
  ]
    where
      by_shot : (k : ℕ) (o : Option ℕ) → (row_at s.rows frame).snapshot ≡ o → (is_only o k || false) ≡ true → IsGivenUp s new n k
      by_shot k None e h = absurd (let z : false ≡ true = h in cc)
      by_shot k (Some copy) e h = subst (λ (j : ℕ). IsGivenUp s new n j) (sym (eqb-true k copy (left (k == copy) h))) (copy-given copy e)
        where
          left : (b : Bool) → (b || false) ≡ true → b ≡ true
          left true h = refl
          left false h = h

  mine-given : (k : ℕ) → name_at s.names (own_frame s k) ≡ Some n → IsGivenUp s new n k
  mine-given k h = by_source (row_at s.rows k).source refl h
    where
      by_source : (o : Option ℕ) → (row_at s.rows k).source ≡ o → name_at s.names (unwrap_or o k) ≡ Some n → IsGivenUp s new n k
      by_source None e h = subst (λ (j : ℕ). IsGivenUp s new n j) (sound.distinct frame k n named h) own-given
      by_source (Some own) e h = copy-given k (sound.paired.snapshot frame k (e ∙ ap (λ (j : ℕ). Some j) (sound.distinct own frame n h named)))

pub gives-up : (s new : StoreSeen) (n : PageName) → IsSoundStore s → new ≡ after_abort s n → Aborts s new n → GivesUp s new n
gives-up s new n sound step laws = by_frame (find s.names n) refl
  where
    by_frame : (o : Option ℕ) → find s.names n ≡ o → GivesUp s new n
    by_frame None e =
        let same : new ≡ s = step ∙ ap (λ (o : Option ℕ). at_frame o s (λ frame. with_page_given_up (without_snapshot s frame) frame (bytes_at s.frames frame))) e in
        record {
          laws = laws;
          mine = λ k h. absurd (find-none s.names n (own_frame s k) e h);
          core = ap core_of same;
          bytes = λ k. ap (λ (x : StoreSeen). bytes_at x.frames k) same;
          each = λ k. inr (else_where s new n k laws (ap (λ (o : Option ℕ). family_of s o k) e));
        }
    by_frame (Some frame) e =
        let done = step ∙ ap (λ (o : Option ℕ). at_frame o s (λ frame. with_page_given_up (without_snapshot s frame) frame (bytes_at s.frames frame))) e in
        record {
          laws = laws;
          mine = mine-given s new n frame sound e done;
          core = core_is s new n frame sound e done;
          bytes = λ k. ap (λ frames. bytes_at frames k) (frames_are s new n frame sound e done);
          each = λ k. each-frame s new n frame sound e done k laws;
        }
