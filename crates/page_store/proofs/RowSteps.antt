-- Rows, lists and the clock change; no page moves.
use Rattle.std.proofs.Common.{◌≡◌, ◌≢◌, ℕ, ◌<◌, Bool, true, false, ◌⊎◌, inl, inr, List, [], ◌∷◌, ◌++◌, Option, Some, None, IsSome, refl, sym, ◌∙◌, ap, subst, arith, length, set, is_some}
use Rattle.std.specs.Prelude.{◌+◌, ◌%◌, ◌&&◌, ◌||◌, ◌==◌, cond, is_none, Contains}
use Rattle.std.proofs.lemmas.List.{get_or-set_same, get_or-set_other}
use Rattle.std.proofs.Math.ListN.{length-set}
use Rattle.std.proofs.lemmas.Bool.{cases_eq}
use Rattle.std.proofs.lemmas.List.Elements.{Contains-append_left, Contains-push_cases}
use Rattle.core_arena.specs.Bytes.{bytes_at}
use Rattle.page_clock.specs.Clock.{next_clock}
use Rattle.page_clock.specs.Seen.{ClockSeen}
use Rattle.page_hash.specs.Names.{find, name_at}
use Rattle.page_hash.specs.declared.PageName.{PageName}
use Rattle.page_hash.proofs.NameLaws.{find-at}
use Rattle.page_lists.specs.ListsSeen.{AreApart, without_frame}
use Rattle.page_lists.proofs.ListLemmas.{once-more, Contains-from_without_frame, Contains-without_frame, once-without_frame}
use Rattle.page_lock.specs.Rows.{row_at, clear_row}
use Rattle.page_lock.specs.declared.Row.{Row}
use Rattle.page_store.specs.StoreFits.{StoreFits, IsClean}
use Rattle.page_store.specs.Laws.{StaysInPlace, Releases, SameResidence}
use Rattle.page_store.specs.Moves.{KeepsValues, Touches, is_only}
use Rattle.page_store.specs.Notes.{Notes}
use Rattle.page_store.specs.Seen.{StoreSeen, IsSoundStore, FrameAgrees, ArePaired, IsListedFrame, residence_in, residence_of}
use Rattle.page_store.specs.Steps.{with_row, with_pair_parted, without_snapshot}
use Rattle.page_store.specs.Table.{PlaceTable}
use Rattle.page_store.specs.Value.{value_in, backing_value, note_of_holder, frame_value}
use Rattle.page_store.specs.declared.place.Place.{Place}
use Rattle.page_store.proofs.Agree.{SameOut, same-out, Calm, clean-calm, fits-calm, outside-calm}
use Rattle.page_store.proofs.Elsewhere.{Elsewhere, OneFrame, SoundAt, SoundParts, one-elsewhere, same-elsewhere, sound-one, sound-elsewhere, touches, touches-one, paired-links}
use Rattle.page_store.proofs.FrameLaws.{some-or-none, eq-is, false-left, false-right, eq-not, agrees-at, home-source, away-snapshot, listed-snapshot, copy-held}
use Rattle.page_store.proofs.FrameLaws.{copy-away, copy-apart, home-unheld, snapshot-within, source-within}
use Rattle.page_store.proofs.QueryLemmas.{some-within}

-- the store with other rows, lists and another clock
abbrev pub rows_after : StoreSeen → List Row → List ℕ → List ℕ → ClockSeen → StoreSeen
rows_after s rows free cached clock = record s { rows = rows; free = free; cached = cached; clock = clock }

module _ (s : StoreSeen) (rows : List Row) (free cached : List ℕ) (clock : ClockSeen) (same : (k : ℕ) → SameOut (row_at s.rows k) (row_at rows k)) where
  residence_at : (o : Option ℕ) → residence_in o (rows_after s rows free cached clock) ≡ residence_in o s
  residence_at None = refl
  residence_at (Some g) = ap (λ (h : Option ℕ). residence_of (bytes_at s.frames g) h g) (same g).holder

  -- every page is where it was
  pub residence-rows : SameResidence s (rows_after s rows free cached clock)
  residence-rows n = residence_at (find s.names n)

  pub value-rows : (o : Option ℕ) (notes : Notes) (place : Place) → value_in o (rows_after s rows free cached clock) notes place ≡ value_in o s notes place
  value-rows None notes place = refl
  value-rows (Some g) notes place = ap (λ (h : Option ℕ). frame_value (bytes_at s.frames g) (note_of_holder h notes) (backing_value s notes place)) (same g).holder

  pub calm-rows : Calm s (rows_after s rows free cached clock)
  calm-rows = record { origin = refl; bays = refl; rows = same; away = λ k h. h; names = λ k h g. refl }

  -- every name keeps its value, where the pages on the cache list are clean
  pub values-rows : (notes : Notes) (table : PlaceTable) → StoreFits s notes table → ((k : ℕ) (n : PageName) → Contains cached k → name_at s.names k ≡ Some n → IsClean s notes table k n)
      → KeepsValues s notes (rows_after s rows free cached clock) notes table
  values-rows notes table fits clean = record {
    fits = fits-calm s (rows_after s rows free cached clock) notes table calm-rows
        (λ k n h e. clean-calm s (rows_after s rows free cached clock) notes table calm-rows k n (clean k n h e) refl) fits;
    alike = λ number. refl;
    values = λ n t. value-rows (find s.names n) notes (table n);
  }

-- a field of a row that changes alone, and that keeps the field
set_field : {X : Type 0} (field : Row → X) (rows : List Row) (f : ℕ) (row : Row) → f < length rows → field row ≡ field (row_at rows f) → (k : ℕ)
    → field (row_at (set rows f row) k) ≡ field (row_at rows k)
set_field field rows f row lt e k = elim (cases_eq k f) [
  | inl q ↦ subst (λ (j : ℕ). field (row_at (set rows f row) j) ≡ field (row_at rows j)) (sym q) (ap field (get_or-set_same rows f row clear_row lt) ∙ e)
  | inr ne ↦ ap field (get_or-set_other rows f k row clear_row ne)
]

-- a frame agrees with a row that has the same holder, and the same page
agrees_row : (b : Option (List ℕ)) (n : Option PageName) (old new : Row) → FrameAgrees b n old → new.holder ≡ old.holder → new.gone ≡ old.gone → new.source ≡ old.source → FrameAgrees b n new
agrees_row b n old new was holder gone source = record {
  size = was.size;
  away = was.away ∙ ap (λ (h : Option ℕ). is_some h) (sym holder);
  unnamed = ap (λ (h : Option ℕ). is_some h && is_none n) holder ∙ was.unnamed ∙ ap (λ (g : Bool). g || is_some old.source) (sym gone) ∙ ap (λ (o : Option ℕ). new.gone || is_some o) (sym source);
  torn = λ g. source ∙ was.torn (sym gone ∙ g);
}

-- one row changes, but for its holder, its page and its snapshot
module _ (s : StoreSeen) (f : ℕ) (row : Row) (sound : IsSoundStore s) (lt : f < length s.frames) (holder : row.holder ≡ (row_at s.rows f).holder)
    (gone : row.gone ≡ (row_at s.rows f).gone) (source : row.source ≡ (row_at s.rows f).source) (snapshot : row.snapshot ≡ (row_at s.rows f).snapshot) where
  in_rows : f < length s.rows
  in_rows = let a = sound.rows in omega arith

  one_row : OneFrame s (with_row s f row) f
  one_row = record {
    frames = refl;
    bytes = λ k ne. refl;
    names = λ k ne. refl;
    rows = λ k ne. get_or-set_other s.rows f k row clear_row ne;
    free = λ k ne. (λ h. h, λ h. h);
    cached = λ k ne. (λ h. h, λ h. h);
  }

  same_row : (k : ℕ) → SameOut (row_at s.rows k) (row_at (set s.rows f row) k)
  same_row k = record {
    holder = set_field (λ (r : Row). r.holder) s.rows f row in_rows holder k;
    page = inl (set_field (λ (r : Row). r.gone) s.rows f row in_rows gone k, set_field (λ (r : Row). r.source) s.rows f row in_rows source k);
  }

  sound_row : IsSoundStore (with_row s f row)
  sound_row = sound-one s (with_row s f row) f one_row sound
      (record {
        names = refl;
        rows = length-set s.rows f row;
        clock = refl;
        bays = refl;
        order = sound.order;
        distinct = sound.distinct;
        lists = sound.lists;
        paired = paired-links s (with_row s f row) sound.paired (set_field (λ (r : Row). r.snapshot) s.rows f row in_rows snapshot) (set_field (λ (r : Row). r.source) s.rows f row in_rows source)
            (λ own copy h. (sound.paired.home own copy h, sound.paired.named own copy h, sound.paired.unlisted own copy h));
        whole = sound.whole;
      })
      (record {
        agrees = subst (λ (r : Row). FrameAgrees (bytes_at s.frames f) (name_at s.names f) r) (sym (get_or-set_same s.rows f row clear_row in_rows))
            (agrees_row (bytes_at s.frames f) (name_at s.names f) (row_at s.rows f) row (sound.each f lt) holder gone source);
        listed = sound.listed f;
        unnamed = sound.unnamed f;
        spare = sound.spare f;
      })

  pub stays-row : StaysInPlace s (with_row s f row) (is_only (Some f))
  stays-row = record {
    sound = sound_row;
    touches = touches-one s (with_row s f row) f sound.distinct one_row;
    residence = residence-rows s (set s.rows f row) s.free s.cached s.clock same_row;
    outside = outside-calm s (with_row s f row) (calm-rows s (set s.rows f row) s.free s.cached s.clock same_row) sound;
    values = λ notes table fits. values-rows s (set s.rows f row) s.free s.cached s.clock same_row notes table fits fits.each_cached;
  }

stepped_by : (c : ClockSeen) (b : Bool) → (cond b (record c { front = (c.front + 1) % c.frames; back_next = false }) (record c { back_next = true })).frames ≡ c.frames
stepped_by c true = refl
stepped_by c false = refl

pub next_clock-frames : (c : ClockSeen) → (next_clock c).frames ≡ c.frames
next_clock-frames c = stepped_by c c.back_next

-- the clock alone changes
pub stays-clock : (s : StoreSeen) (clock : ClockSeen) → IsSoundStore s → clock.frames ≡ s.clock.frames → StaysInPlace s (record s { clock = clock }) (is_only None)
stays-clock s clock sound frames = record {
  sound = sound-elsewhere s (record s { clock = clock }) (is_only None) elsewhere_clock sound
      (record { names = refl; rows = refl; clock = frames; bays = refl; order = sound.order; distinct = sound.distinct; lists = sound.lists; paired = paired_clock; whole = sound.whole })
      (λ k t. absurd (let z : false ≡ true = t in cc));
  touches = touches s (record s { clock = clock }) (is_only None) sound.distinct elsewhere_clock;
  residence = residence-rows s s.rows s.free s.cached clock (λ k. same-out (row_at s.rows k));
  outside = outside-calm s (record s { clock = clock }) (calm-rows s s.rows s.free s.cached clock (λ k. same-out (row_at s.rows k))) sound;
  values = λ notes table fits. values-rows s s.rows s.free s.cached clock (λ k. same-out (row_at s.rows k)) notes table fits fits.each_cached;
}
  where
    elsewhere_clock : Elsewhere s (record s { clock = clock }) (is_only None)
    elsewhere_clock = record { frames = refl; bytes = λ k h. refl; names = λ k h. refl; rows = λ k h. refl; free = λ k h. (λ z. z, λ z. z); cached = λ k h. (λ z. z, λ z. z) }

    paired_clock : ArePaired (record s { clock = clock })
    paired_clock = paired-links s (record s { clock = clock }) sound.paired (λ k. refl) (λ k. refl)
        (λ own copy h. (sound.paired.home own copy h, sound.paired.named own copy h, sound.paired.unlisted own copy h))

-- nothing changes
pub stays-still : (s : StoreSeen) (touched : ℕ → Bool) → IsSoundStore s → StaysInPlace s s touched
stays-still s touched sound = record {
  sound = sound;
  touches = touches s s touched sound.distinct (same-elsewhere s touched);
  residence = λ n. refl;
  outside = record { bays = refl; flights = λ f is. is };
  values = λ notes table fits. record { fits = fits; alike = λ number. refl; values = λ n t. refl };
}

-- a frame goes on the cache list
module _ (s : StoreSeen) (f : ℕ) (sound : IsSoundStore s) (lt : f < length s.frames) (unlisted : IsListedFrame s f → ⊥)
    (unlocked : (row_at s.rows f).holder ≡ None) (unsent : (row_at s.rows f).snapshot ≡ None) where
  there : IsSome (bytes_at s.frames f)
  there = home_so (bytes_at s.frames f) ((sound.each f lt).away ∙ ap (λ (h : Option ℕ). is_some h) unlocked)
    where
      home_so : (b : Option (List ℕ)) → is_none b ≡ false → IsSome b
      home_so (Some b) e = refl
      home_so None e = let z : true ≡ false = e in absurd (cc)

  one_cached : OneFrame s (record s { cached = s.cached ++ f ∷ [] }) f
  one_cached = record {
    frames = refl;
    bytes = λ k ne. refl;
    names = λ k ne. refl;
    rows = λ k ne. refl;
    free = λ k ne. (λ h. h, λ h. h);
    cached = λ k ne. (λ h. elim (Contains-push_cases s.cached f k h) [ inl a ↦ a | inr e ↦ absurd (ne (sym e)) ], λ h. Contains-append_left s.cached (f ∷ []) k h);
  }

  lists_cached : AreApart (record { frames = length s.frames; free = s.free; cached = s.cached ++ f ∷ [] })
  lists_cached = record {
    once_free = sound.lists.once_free;
    once_cached = once-more s.cached f sound.lists.once_cached (λ h. unlisted (inr h));
    one_list = λ k a b. elim (Contains-push_cases s.cached f k b) [ inl c ↦ sound.lists.one_list k a c | inr e ↦ unlisted (inl (subst (λ (j : ℕ). Contains s.free j) (sym e) a)) ];
    below_free = sound.lists.below_free;
    below_cached = λ k b. elim (Contains-push_cases s.cached f k b) [ inl c ↦ sound.lists.below_cached k c | inr e ↦ subst (λ (j : ℕ). j < length s.frames) e lt ];
  }

  paired_cached : ArePaired (record s { cached = s.cached ++ f ∷ [] })
  paired_cached = paired-links s (record s { cached = s.cached ++ f ∷ [] }) sound.paired (λ k. refl) (λ k. refl)
      (λ own copy h. (
        sound.paired.home own copy h,
        sound.paired.named own copy h,
        λ l. elim l [
          | inl a ↦ sound.paired.unlisted own copy h (inl a)
          | inr b ↦ elim (Contains-push_cases s.cached f own b) [
            | inl c ↦ sound.paired.unlisted own copy h (inr c)
            | inr e ↦ let z : None ≡ Some copy = sym unsent ∙ ap (λ (j : ℕ). (row_at s.rows j).snapshot) e ∙ h in cc
          ]
        ],
      ))

  pub releases-frame : Releases s (record s { cached = s.cached ++ f ∷ [] }) f
  releases-frame = record {
    sound = sound-one s (record s { cached = s.cached ++ f ∷ [] }) f one_cached sound
        (record { names = refl; rows = refl; clock = refl; bays = refl; order = sound.order; distinct = sound.distinct; lists = lists_cached; paired = paired_cached; whole = sound.whole })
        (record { agrees = sound.each f lt; listed = λ l. there; unnamed = sound.unnamed f; spare = sound.spare f });
    touches = touches-one s (record s { cached = s.cached ++ f ∷ [] }) f sound.distinct one_cached;
    residence = residence-rows s s.rows s.free (s.cached ++ f ∷ []) s.clock (λ k. same-out (row_at s.rows k));
    outside = outside-calm s (record s { cached = s.cached ++ f ∷ [] }) (calm-rows s s.rows s.free (s.cached ++ f ∷ []) s.clock (λ k. same-out (row_at s.rows k))) sound;
    values = λ notes table fits clean. values-rows s s.rows s.free (s.cached ++ f ∷ []) s.clock (λ k. same-out (row_at s.rows k)) notes table fits
        (λ k n h e. elim (Contains-push_cases s.cached f k h) [
          | inl a ↦ fits.each_cached k n a e
          | inr q ↦ subst (λ (j : ℕ). IsClean s notes table j n) q (clean n (subst (λ (j : ℕ). name_at s.names j ≡ Some n) (sym q) e))
        ]);
  }

-- a frame comes off the cache list
module _ (s : StoreSeen) (f : ℕ) (sound : IsSoundStore s) (lt : f < length s.frames) where
  one_reclaimed : OneFrame s (record s { cached = without_frame s.cached f }) f
  one_reclaimed = record {
    frames = refl;
    bytes = λ k ne. refl;
    names = λ k ne. refl;
    rows = λ k ne. refl;
    free = λ k ne. (λ h. h, λ h. h);
    cached = λ k ne. (λ h. (Contains-from_without_frame s.cached f k h).0, λ h. Contains-without_frame s.cached f k h ne);
  }

  lists_reclaimed : AreApart (record { frames = length s.frames; free = s.free; cached = without_frame s.cached f })
  lists_reclaimed = record {
    once_free = sound.lists.once_free;
    once_cached = once-without_frame s.cached f sound.lists.once_cached;
    one_list = λ k a b. sound.lists.one_list k a (Contains-from_without_frame s.cached f k b).0;
    below_free = sound.lists.below_free;
    below_cached = λ k b. sound.lists.below_cached k (Contains-from_without_frame s.cached f k b).0;
  }

  listed_before : (k : ℕ) → IsListedFrame (record s { cached = without_frame s.cached f }) k → IsListedFrame s k
  listed_before k l = elim l [ inl a ↦ inl a | inr b ↦ inr (Contains-from_without_frame s.cached f k b).0 ]

  -- a frame that holds a name is on no list then
  pub unlisted-reclaimed : (n : PageName) → find s.names n ≡ Some f → IsListedFrame (record s { cached = without_frame s.cached f }) f → ⊥
  unlisted-reclaimed n found l = elim l [
    | inl a ↦ let z : None ≡ Some n = sym (sound.unnamed f a) ∙ find-at s.names n f found in cc
    | inr b ↦ (Contains-from_without_frame s.cached f f b).1 refl
  ]

  pub stays-reclaimed : StaysInPlace s (record s { cached = without_frame s.cached f }) (is_only (Some f))
  stays-reclaimed = record {
    sound = sound-one s (record s { cached = without_frame s.cached f }) f one_reclaimed sound
        (record {
          names = refl;
          rows = refl;
          clock = refl;
          bays = refl;
          order = sound.order;
          distinct = sound.distinct;
          lists = lists_reclaimed;
          paired = paired-links s (record s { cached = without_frame s.cached f }) sound.paired (λ k. refl) (λ k. refl)
              (λ own copy h. (sound.paired.home own copy h, sound.paired.named own copy h, λ l. sound.paired.unlisted own copy h (listed_before own l)));
          whole = sound.whole;
        })
        (record { agrees = sound.each f lt; listed = λ l. sound.listed f (listed_before f l); unnamed = sound.unnamed f; spare = sound.spare f });
    touches = touches-one s (record s { cached = without_frame s.cached f }) f sound.distinct one_reclaimed;
    residence = residence-rows s s.rows s.free (without_frame s.cached f) s.clock (λ k. same-out (row_at s.rows k));
    outside = outside-calm s (record s { cached = without_frame s.cached f }) (calm-rows s s.rows s.free (without_frame s.cached f) s.clock (λ k. same-out (row_at s.rows k))) sound;
    values = λ notes table fits. values-rows s s.rows s.free (without_frame s.cached f) s.clock (λ k. same-out (row_at s.rows k)) notes table fits
        (λ k n h e. fits.each_cached k n (Contains-from_without_frame s.cached f k h).0 e);
  }
