-- A name is given up.
use Rattle.std.proofs.Common.{◌≡◌, ◌≢◌, ℕ, ◌<◌, Bool, true, false, cond, inl, inr, List, [], ◌∷◌, ◌++◌, Option, Some, None, IsSome, refl, sym, ◌∙◌, ap, subst, arith, length, set, is_some}
use Rattle.std.specs.Prelude.{◌&&◌, ◌||◌, ◌==◌, ◌↔◌, is_none, Contains}
use Rattle.std.proofs.lemmas.Bool.{cases_eq, or_from as or-both}
use Rattle.std.proofs.lemmas.List.{get_or-set_same, get_or-set_other}
use Rattle.std.proofs.Math.ListN.{length-set}
use Rattle.std.proofs.lemmas.List.Elements.{Contains-append_left, Contains-push, Contains-push_cases}
use Rattle.core_arena.specs.Bytes.{bytes_at}
use Rattle.core_arena.specs.Seen.{CoreSeen}
use Rattle.page_clock.specs.Seen.{ClockSeen}
use Rattle.page_hash.specs.Names.{find, name_at, AreDistinct}
use Rattle.page_hash.specs.declared.PageName.{PageName}
use Rattle.page_hash.proofs.NameLaws.{find-at, find-emptied, emptied-distinct}
use Rattle.page_lists.specs.ListsSeen.{ListsSeen, AreApart, without_frame}
use Rattle.page_lists.proofs.ListLemmas.{once-more, Contains-from_without_frame, Contains-without_frame, once-without_frame}
use Rattle.page_lock.specs.Rows.{row_at, clear_row}
use Rattle.page_lock.specs.declared.Row.{Row}
use Rattle.page_store.specs.Bays.{BaySeen}
use Rattle.page_store.specs.StoreFits.{StoreFits}
use Rattle.page_store.specs.Laws.{Aborts, SameFlights}
use Rattle.page_store.specs.Moves.{KeepsOtherValues, KeepsValues, Touches, is_only, family, family_of}
use Rattle.page_store.specs.Notes.{Notes}
use Rattle.page_store.specs.Parts.{rows_without, rows_forsaken}
use Rattle.page_store.specs.Seen.{StoreSeen, IsSoundStore, FrameAgrees, IsListedFrame, store_of, own_frame, residence, residence_in}
use Rattle.page_store.specs.Steps.{with_page_given_up, without_snapshot, with_pair_parted}
use Rattle.page_store.specs.Table.{PlaceTable}
use Rattle.page_store.specs.Value.{value, tells}
use Rattle.page_store.specs.declared.residence.Residence.TheVariants.{Absent}
use Rattle.page_store.proofs.Agree.{SameOut, same-out, same-row, Calm, own-far, clean-calm, alike-calm, fits-calm, backing_value-calm, outside-calm, outside-then}
use Rattle.page_store.proofs.Elsewhere.{Elsewhere, OneFrame, SoundAt, one-elsewhere, same-elsewhere, elsewhere-then, only-none, sound-one, touches, touches-one, paired-one, value-elsewhere}
use Rattle.page_store.proofs.FrameLaws.{some-or-none, some-not, eq-same, eq-is, eq-far, false-left, false-right, agrees-at, home-unheld, home-ungone}
use Rattle.page_store.proofs.FrameLaws.{home-source, away-snapshot, away-held, named-unsourced}
use Rattle.page_store.proofs.Links.{either, family-own, family-copy, sound-parted, same-parted, elsewhere-parted, parted-own, parted-own-row}
use Rattle.page_store.proofs.QueryLemmas.{IsIn, bytes-within, found-within}
use Rattle.page_store.proofs.RowSteps.{residence-rows, values-rows, calm-rows}

-- what is known of a store whose page of a frame lost its snapshot
pub record Forsakes (s new : StoreSeen) (own : ℕ) : Type 0 where
  pub sound : IsSoundStore new
  pub rows : (k : ℕ) → SameOut (row_at s.rows k) (row_at new.rows k)
  pub single : (row_at new.rows own).snapshot ≡ None
  pub modified : (row_at new.rows own).modified ≡ (row_at s.rows own).modified
  pub elsewhere : Elsewhere s new (family s own)
  pub values : (notes : Notes) (table : PlaceTable) → StoreFits s notes table → KeepsValues s notes new notes table
  pub length : length new.rows ≡ length s.rows

forsakes_so : (s : StoreSeen) (own : ℕ) (o : Option ℕ) → IsSoundStore s → (row_at s.rows own).snapshot ≡ o → Forsakes s (record s { rows = rows_without o s.rows own }) own
forsakes_so s own None sound e = record {
  sound = sound;
  rows = λ k. same-out (row_at s.rows k);
  single = e;
  modified = refl;
  elsewhere = same-elsewhere s (family s own);
  values = λ notes table fits. record { fits = fits; alike = λ number. refl; values = λ n t. refl };
  length = refl;
}
forsakes_so s own (Some copy) sound e =
    let source : (row_at s.rows copy).source ≡ Some own = sound.paired.source own copy e in
    record {
      sound = sound-parted s own copy (row_at s.rows own).modified sound source;
      rows = same-parted s own copy (row_at s.rows own).modified sound source;
      single = ap (λ (r : Row). r.snapshot) (parted-own-row s own copy (row_at s.rows own).modified sound source);
      modified = ap (λ (r : Row). r.modified) (parted-own-row s own copy (row_at s.rows own).modified sound source);
      elsewhere = elsewhere-then s (with_pair_parted s own copy (row_at s.rows own).modified) (with_pair_parted s own copy (row_at s.rows own).modified)
          (either own copy) (either own copy) (family s own)
          (λ k h. (
            or-both (k == own) (k == copy) (eq-far k own (family-own s own k h)) (family-copy s own copy k e h),
            or-both (k == own) (k == copy)
                (eq-far k own (family-own s own k h)) (family-copy s own copy k e h),
          ))
          (elsewhere-parted s own copy (row_at s.rows own).modified sound source) (same-elsewhere (with_pair_parted s own copy (row_at s.rows own).modified) (either own copy));
      values = λ notes table fits. values-rows s (rows_without (Some copy) s.rows own) s.free s.cached s.clock
          (same-parted s own copy (row_at s.rows own).modified sound source) notes table fits fits.each_cached;
      length = length-set (set s.rows copy (record (row_at s.rows copy) { source = None; gone = true })) own (record (row_at s.rows own) { snapshot = None; modified = (row_at s.rows own).modified })
          ∙ length-set s.rows copy (record (row_at s.rows copy) { source = None; gone = true });
    }

pub forsakes : (s : StoreSeen) (own : ℕ) → IsSoundStore s → Forsakes s (without_snapshot s own) own
forsakes s own sound = forsakes_so s own (row_at s.rows own).snapshot sound refl

pub forsaken-unheld : (s : StoreSeen) (page : PageName) (own : ℕ) → IsSoundStore s → IsIn s page own → (row_at (without_snapshot s own).rows own).holder ≡ None
forsaken-unheld s page own sound i =
    home-unheld (bytes_at s.frames own) (name_at s.names own) (row_at (without_snapshot s own).rows own)
    ((forsakes s own sound).sound.each own (bytes-within s.frames own i.bytes i.there)) (subst (λ (b : Option (List ℕ)). IsSome b) (sym i.there) refl)

-- a page that has no snapshot away is given up
module _ (s : StoreSeen) (page : PageName) (f : ℕ) (sound : IsSoundStore s) (found : find s.names page ≡ Some f) (single : (row_at s.rows f).snapshot ≡ None) where
  within : f < length s.frames
  within = found-within s page f sound found

  in_names : f < length s.names
  in_names = let a = within in let b = sound.names in omega arith

  in_rows : f < length s.rows
  in_rows = let a = within in let b = sound.rows in omega arith

  held : name_at s.names f ≡ Some page
  held = find-at s.names page f found

  unsourced : (row_at s.rows f).source ≡ None
  unsourced = named-unsourced (bytes_at s.frames f) (name_at s.names f) (row_at s.rows f) (sound.each f within) page held

  distinct_after : AreDistinct (set s.names f None)
  distinct_after = emptied-distinct s.names f in_names sound.distinct

  unnamed_after : name_at (set s.names f None) f ≡ None
  unnamed_after = get_or-set_same s.names f None None in_names

  names_given : (b : Option (List ℕ)) → (with_page_given_up s f b).names ≡ set s.names f None
  names_given None = refl
  names_given (Some bytes) = refl

  distinct_given : (b : Option (List ℕ)) → AreDistinct (with_page_given_up s f b).names
  distinct_given b = subst AreDistinct (sym (names_given b)) distinct_after

  none_after : (b : Option (List ℕ)) → name_at (with_page_given_up s f b).names f ≡ None
  none_after b = ap (λ (l : List (Option PageName)). name_at l f) (names_given b) ∙ unnamed_after

  not_free : Contains s.free f → ⊥
  not_free h = let z : None ≡ Some page = sym (sound.unnamed f h) ∙ held in cc

  gone_row : row_at (set s.rows f (record (row_at s.rows f) { gone = true })) f ≡ record (row_at s.rows f) { gone = true }
  gone_row = get_or-set_same s.rows f (record (row_at s.rows f) { gone = true }) clear_row in_rows

  free_row : row_at (set s.rows f clear_row) f ≡ clear_row
  free_row = get_or-set_same s.rows f clear_row clear_row in_rows

  one_given : (b : Option (List ℕ)) → OneFrame s (with_page_given_up s f b) f
  one_given None = record {
    frames = refl;
    bytes = λ k ne. refl;
    names = λ k ne. get_or-set_other s.names f k None None ne;
    rows = λ k ne. get_or-set_other s.rows f k (record (row_at s.rows f) { gone = true }) clear_row ne;
    free = λ k ne. (λ h. h, λ h. h);
    cached = λ k ne. (λ h. h, λ h. h);
  }
  one_given (Some bytes) = record {
    frames = refl;
    bytes = λ k ne. refl;
    names = λ k ne. get_or-set_other s.names f k None None ne;
    rows = λ k ne. get_or-set_other s.rows f k clear_row clear_row ne;
    free = λ k ne. (λ h. elim (Contains-push_cases s.free f k h) [ inl a ↦ a | inr b ↦ absurd (ne (sym b)) ], λ h. Contains-append_left s.free (f ∷ []) k h);
    cached = λ k ne. (λ h. (Contains-from_without_frame s.cached f k h).0, λ h. Contains-without_frame s.cached f k h ne);
  }

  lists_given : AreApart (record { frames = length s.frames; free = s.free ++ f ∷ []; cached = without_frame s.cached f })
  lists_given = record {
    once_free = once-more s.free f sound.lists.once_free not_free;
    once_cached = once-without_frame s.cached f sound.lists.once_cached;
    one_list = λ k a b. elim (Contains-push_cases s.free f k a) [
      | inl h ↦ sound.lists.one_list k h (Contains-from_without_frame s.cached f k b).0
      | inr e ↦ (Contains-from_without_frame s.cached f k b).1 (sym e)
    ];
    below_free = λ k a. elim (Contains-push_cases s.free f k a) [ inl h ↦ sound.lists.below_free k h | inr e ↦ subst (λ (j : ℕ). j < length s.frames) e within ];
    below_cached = λ k b. sound.lists.below_cached k (Contains-from_without_frame s.cached f k b).0;
  }

  agrees_gone : bytes_at s.frames f ≡ None → FrameAgrees (bytes_at s.frames f) None (record (row_at s.rows f) { gone = true })
  agrees_gone e =
      let was = sound.each f within in
      record {
        size = was.size;
        away = was.away;
        unnamed = ap (λ (x : Bool). x && true) (away-held (bytes_at s.frames f) (name_at s.names f) (row_at s.rows f) was e);
        torn = λ g. unsourced;
      }

  agrees_free : (bytes : List ℕ) → bytes_at s.frames f ≡ Some bytes → FrameAgrees (bytes_at s.frames f) None clear_row
  agrees_free bytes e = record { size = (sound.each f within).size; away = ap (λ (b : Option (List ℕ)). is_none b) e; unnamed = refl; torn = λ g. refl }

  sound_given : (b : Option (List ℕ)) → bytes_at s.frames f ≡ b → IsSoundStore (with_page_given_up s f b)
  sound_given None e = sound-one s (with_page_given_up s f None) f (one_given None) sound
      (record {
        names = length-set s.names f None;
        rows = length-set s.rows f (record (row_at s.rows f) { gone = true });
        clock = refl;
        bays = refl;
        order = sound.order;
        distinct = distinct_after;
        lists = sound.lists;
        paired = paired-one s (with_page_given_up s f None) f (one_given None) sound.paired single unsourced (ap (λ (r : Row). r.snapshot) gone_row ∙ single)
            (ap (λ (r : Row). r.source) gone_row ∙ unsourced);
        whole = sound.whole;
      })
      (record {
        agrees = subst (λ (n : Option PageName). FrameAgrees (bytes_at s.frames f) n (row_at (set s.rows f (record (row_at s.rows f) { gone = true })) f)) (sym unnamed_after)
            (subst (λ (r : Row). FrameAgrees (bytes_at s.frames f) None r) (sym gone_row) (agrees_gone e));
        listed = sound.listed f;
        unnamed = λ h. unnamed_after;
        spare = λ there n. absurd (some-not (bytes_at s.frames f) there e);
      })
  sound_given (Some bytes) e = sound-one s (with_page_given_up s f (Some bytes)) f (one_given (Some bytes)) sound
      (record {
        names = length-set s.names f None;
        rows = length-set s.rows f clear_row;
        clock = refl;
        bays = refl;
        order = sound.order;
        distinct = distinct_after;
        lists = lists_given;
        paired = paired-one s (with_page_given_up s f (Some bytes)) f (one_given (Some bytes)) sound.paired single unsourced
            (ap (λ (r : Row). r.snapshot) free_row) (ap (λ (r : Row). r.source) free_row);
        whole = sound.whole;
      })
      (record {
        agrees = subst (λ (n : Option PageName). FrameAgrees (bytes_at s.frames f) n (row_at (set s.rows f clear_row) f)) (sym unnamed_after)
            (subst (λ (r : Row). FrameAgrees (bytes_at s.frames f) None r) (sym free_row) (agrees_free bytes e));
        listed = λ l. subst (λ (b : Option (List ℕ)). IsSome b) (sym e) refl;
        unnamed = λ h. unnamed_after;
        spare = λ there n. Contains-push s.free f;
      })

  no_after : (b : Option (List ℕ)) (n : PageName) → name_at (with_page_given_up s f b).names f ≡ Some n → ⊥
  no_after b n h = let z : None ≡ Some n = sym (none_after b) ∙ h in cc

  no_before : (n : PageName) → n ≢ page → name_at s.names f ≡ Some n → ⊥
  no_before n ne h = let z : Some page ≡ Some n = sym held ∙ h in ne (let w : page ≡ n = cc in sym w)

  row_given : (b : Option (List ℕ)) → bytes_at s.frames f ≡ b → SameOut (row_at s.rows f) (row_at (with_page_given_up s f b).rows f)
  row_given None e = subst (λ (r : Row). SameOut (row_at s.rows f) r) (sym gone_row) (record { holder = refl; page = inr (refl, unsourced) })
  row_given (Some bytes) e =
      let there : IsSome (bytes_at s.frames f) = subst (λ (b : Option (List ℕ)). IsSome b) (sym e) refl in
      let was = sound.each f within in
      subst (λ (r : Row). SameOut (row_at s.rows f) r) (sym free_row)
      (record {
        holder = sym (home-unheld (bytes_at s.frames f) (name_at s.names f) (row_at s.rows f) was there);
        page = inl
            (sym (home-ungone (bytes_at s.frames f) (name_at s.names f) (row_at s.rows f) was there), sym unsourced);
      })

  frames_given : (b : Option (List ℕ)) → (with_page_given_up s f b).frames ≡ s.frames
  frames_given None = refl
  frames_given (Some bytes) = refl

  bays_given : (b : Option (List ℕ)) → (with_page_given_up s f b).bays ≡ s.bays
  bays_given None = refl
  bays_given (Some bytes) = refl

  origin_given : (b : Option (List ℕ)) → (with_page_given_up s f b).origin ≡ s.origin
  origin_given None = refl
  origin_given (Some bytes) = refl

  gone_given : (b : Option (List ℕ)) → bytes_at s.frames f ≡ b → bytes_at s.frames f ≡ None → (row_at (with_page_given_up s f b).rows f).gone ≡ true
  gone_given None e h = ap (λ (r : Row). r.gone) gone_row
  gone_given (Some bytes) e h = absurd (let z : None ≡ Some bytes = sym h ∙ e in cc)

  own_not : (k : ℕ) → k ≢ f → own_frame s k ≢ f
  own_not k ne = own-far s k f sound ne single

  calm_given : (b : Option (List ℕ)) → bytes_at s.frames f ≡ b → Calm s (with_page_given_up s f b)
  calm_given b e = record {
    origin = origin_given b;
    bays = bays_given b;
    rows = λ k. elim (cases_eq k f) [
      | inl q ↦ subst (λ (j : ℕ). SameOut (row_at s.rows j) (row_at (with_page_given_up s f b).rows j)) (sym q) (row_given b e)
      | inr ne ↦ same-row (row_at s.rows k) (row_at (with_page_given_up s f b).rows k) ((one_given b).rows k ne)
    ];
    away = λ k h. ap (λ (l : List (Option (List ℕ))). bytes_at l k) (frames_given b) ∙ h;
    names = λ k h g. elim (cases_eq k f) [
      | inl q ↦ absurd (let z : true ≡ false = sym (gone_given b e (ap (bytes_at s.frames) (sym q) ∙ h)) ∙ ap (λ (j : ℕ). (row_at (with_page_given_up s f b).rows j).gone) (sym q) ∙ g in cc)
      | inr ne ↦ (one_given b).names (own_frame s k) (own_not k ne)
    ];
  }

  -- the laws of a page that is given up
  pub others-given : (b : Option (List ℕ)) → bytes_at s.frames f ≡ b → (notes : Notes) (table : PlaceTable) → StoreFits s notes table
      → KeepsOtherValues s notes (with_page_given_up s f b) notes table page
  others-given b e notes table fits = record {
    fits = fits-calm s (with_page_given_up s f b) notes table (calm_given b e)
        (λ k n h m.
        let far : k ≢ f = λ (q : k ≡ f). no_after b n (ap (name_at (with_page_given_up s f b).names) (sym q) ∙ m) in
        clean-calm s (with_page_given_up s f b) notes table (calm_given b e) k n
        (fits.each_cached k n (((one_given b).cached k far).0 h) (sym ((one_given b).names k far) ∙ m)) ((one_given b).bytes k far)) fits;
    alike = alike-calm s (with_page_given_up s f b) notes table (calm_given b e);
    values = λ n ne t. value-elsewhere s (with_page_given_up s f b) (is_only (Some f)) (distinct_given b) (one-elsewhere s (with_page_given_up s f b) f (one_given b)) notes notes table n
        (only-none s.names f n (no_before n ne)) (only-none (with_page_given_up s f b).names f n (no_after b n))
        (backing_value-calm s (with_page_given_up s f b) notes table (calm_given b e) (table n)) (λ g t far h. refl);
  }

  pub outside-given : (b : Option (List ℕ)) → bytes_at s.frames f ≡ b → SameFlights s (with_page_given_up s f b)
  outside-given b e = outside-calm s (with_page_given_up s f b) (calm_given b e) sound

  pub sound-given : (b : Option (List ℕ)) → bytes_at s.frames f ≡ b → IsSoundStore (with_page_given_up s f b)
  sound-given b e = sound_given b e

  pub one-given : (b : Option (List ℕ)) → OneFrame s (with_page_given_up s f b) f
  one-given b = one_given b

  pub distinct-given : (b : Option (List ℕ)) → AreDistinct (with_page_given_up s f b).names
  distinct-given b = distinct_given b

  pub stay-given : (b : Option (List ℕ)) (n : PageName) → n ≢ page → residence (with_page_given_up s f b) n ≡ residence s n
  stay-given b n ne = (touches-one s (with_page_given_up s f b) f (distinct_given b) (one_given b)).residence n (only-none s.names f n (no_before n ne))
      (only-none (with_page_given_up s f b).names f n (no_after b n))

  pub absent-given : (b : Option (List ℕ)) → residence (with_page_given_up s f b) page ≡ Absent
  absent-given b = ap (λ (o : Option ℕ). residence_in o (with_page_given_up s f b)) (ap (λ (l : List (Option PageName)). find l page) (names_given b) ∙ find-emptied s.names page f sound.distinct held)

-- first its snapshot is gone, then the page is given up
pub aborts-frame : (s : StoreSeen) (page : PageName) (f : ℕ) → IsSoundStore s → find s.names page ≡ Some f → Aborts s (with_page_given_up (without_snapshot s f) f (bytes_at s.frames f)) page
aborts-frame s page f sound found =
    let mid = forsakes s f sound in
    let b : Option (List ℕ) = bytes_at s.frames f in
    record {
      sound = sound-given (without_snapshot s f) page f mid.sound found mid.single b refl;
      touches = subst (λ (o : Option ℕ). Touches s (with_page_given_up (without_snapshot s f) f b) (family_of s o)) (sym found)
          (touches s (with_page_given_up (without_snapshot s f) f b) (family s f) (distinct-given (without_snapshot s f) page f mid.sound found mid.single b)
          (elsewhere-then s (without_snapshot s f) (with_page_given_up (without_snapshot s f) f b) (family s f) (is_only (Some f)) (family s f)
          (λ k h. (h, eq-far k f (family-own s f k h))) mid.elsewhere
          (one-elsewhere (without_snapshot s f) (with_page_given_up (without_snapshot s f) f b) f (one-given (without_snapshot s f) page f mid.sound found mid.single b))));
      outside = outside-then s (without_snapshot s f) (with_page_given_up (without_snapshot s f) f b)
          (outside-calm s (without_snapshot s f) (calm-rows s (without_snapshot s f).rows s.free s.cached s.clock mid.rows) sound)
          (outside-given (without_snapshot s f) page f mid.sound found mid.single b refl);
      absent = absent-given (without_snapshot s f) page f mid.sound found mid.single b;
      stay = λ n ne. stay-given (without_snapshot s f) page f mid.sound found mid.single b n ne ∙ residence-rows s (without_snapshot s f).rows s.free s.cached s.clock mid.rows n;
      others = λ notes table fits.
          let first = mid.values notes table fits in
          let second = others-given (without_snapshot s f) page f mid.sound found mid.single b refl notes table first.fits in
          record { fits = second.fits; alike = λ number. second.alike number ∙ first.alike number; values = λ n ne t. second.values n ne (first.alike (table n).disk ∙ t) ∙ first.values n t };
    }

-- a name that no frame holds
pub aborts-none : (s : StoreSeen) (page : PageName) → IsSoundStore s → find s.names page ≡ None → Aborts s s page
aborts-none s page sound absent = record {
  sound = sound;
  touches = touches s s (family_of s (find s.names page)) sound.distinct (same-elsewhere s (family_of s (find s.names page)));
  outside = record { bays = refl; flights = λ f is. is };
  absent = ap (λ (o : Option ℕ). residence_in o s) absent;
  stay = λ n ne. refl;
  others = λ notes table fits. record { fits = fits; alike = λ number. refl; values = λ n ne t. refl };
}

-- what the parts make of the store
made_so : (core : CoreSeen) (names : List (Option PageName)) (lists : ListsSeen) (rows : List Row) (clock : ClockSeen) (bays : List BaySeen) (order : List ℕ) (f : ℕ) (b : Option (List ℕ))
    → store_of core (set names f None) (cond (is_some b) (record lists { cached = without_frame lists.cached f; free = lists.free ++ f ∷ [] }) lists)
    (cond (is_some b) (set rows f clear_row) (set rows f (record (row_at rows f) { gone = true }))) clock bays order ≡ with_page_given_up (store_of core names lists rows clock bays order) f b
made_so core names lists rows clock bays order f None = refl
made_so core names lists rows clock bays order f (Some bytes) = refl

pub made-given : (core : CoreSeen) (names names' : List (Option PageName)) (lists lists' : ListsSeen) (rows mid rows' : List Row) (clock : ClockSeen) (bays : List BaySeen) (order : List ℕ) (f : ℕ)
    → names' ≡ set names f None → mid ≡ rows_forsaken rows f
    → lists' ≡ cond (is_some (bytes_at core.frames f)) (record lists { cached = without_frame lists.cached f; free = lists.free ++ f ∷ [] }) lists
    → rows' ≡ cond (is_some (bytes_at core.frames f)) (set mid f clear_row) (set mid f (record (row_at mid f) { gone = true }))
    → store_of core names' lists' rows' clock bays order ≡ with_page_given_up (without_snapshot (store_of core names lists rows clock bays order) f) f (bytes_at core.frames f)
made-given core names names' lists lists' rows mid rows' clock bays order f a m b c =
    ap (λ (l : List (Option PageName)). store_of core l lists' rows' clock bays order) a
    ∙ ap (λ (l : ListsSeen). store_of core (set names f None) l rows' clock bays order) b
    ∙ ap (λ (r : List Row). store_of core (set names f None) (cond (is_some (bytes_at core.frames f))
    (record lists { cached = without_frame lists.cached f; free = lists.free ++ f ∷ [] }) lists) r clock bays order) c
    ∙ made_so core names lists mid clock bays order f (bytes_at core.frames f)
    ∙ ap (λ (r : List Row). with_page_given_up (store_of core names lists r clock bays order) f (bytes_at core.frames f)) m

frames_so : (lists : ListsSeen) (f : ℕ) (b : Bool) → (cond b (record lists { cached = without_frame lists.cached f; free = lists.free ++ f ∷ [] }) lists).frames ≡ lists.frames
frames_so lists f true = refl
frames_so lists f false = refl

pub frames-given : (lists lists' : ListsSeen) (f : ℕ) (b : Bool) → lists' ≡ cond b
    (record lists { cached = without_frame lists.cached f; free = lists.free ++ f ∷ [] }) lists → lists'.frames ≡ lists.frames
frames-given lists lists' f b e = ap (λ (l : ListsSeen). l.frames) e ∙ frames_so lists f b
