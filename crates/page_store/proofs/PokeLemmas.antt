-- A piece written over a page that is home.
use Rattle.std.proofs.Common.{◌≡◌, ◌≢◌, ℕ, ◌+◌, ◌<◌, ◌≤◌, Bool, true, false, inl, inr, List, [], Option, Some, None, IsSome, refl, sym, ◌∙◌, ap, subst, arith, length, set, is_some}
use Rattle.std.specs.Prelude.{unwrap_or, cond, is_none, ◌&&◌, Contains}
use Rattle.std.proofs.lemmas.Bool.{cases_eq}
use Rattle.std.proofs.lemmas.Grind.{common_steps}
use Rattle.std.proofs.lemmas.List.{get_or-set_same, get_or-set_other}
use Rattle.std.proofs.Math.ListN.{length-set}
use Rattle.core_arena.specs.Bytes.{bytes_at, bytes_with_piece}
use Rattle.page_hash.specs.Names.{find, name_at}
use Rattle.page_hash.specs.declared.PageName.{PageName}
use Rattle.page_hash.proofs.NameLaws.{find-at}
use Rattle.page_lists.specs.ListsSeen.{AreApart}
use Rattle.page_lock.specs.Rows.{row_at, clear_row, with_bits}
use Rattle.page_lock.specs.declared.Row.{Row}
use Rattle.page_store.specs.StoreFits.{StoreFits, IsClean}
use Rattle.page_store.specs.Laws.{Pokes}
use Rattle.page_store.specs.Moves.{KeepsOtherValues, Touches, is_only}
use Rattle.page_store.specs.Notes.{Notes}
use Rattle.page_store.specs.Seen.{StoreSeen, IsSoundStore, FrameAgrees, IsListedFrame, residence, residence_in, residence_of}
use Rattle.page_store.specs.Steps.{with_piece}
use Rattle.page_store.specs.Table.{PlaceTable}
use Rattle.page_store.specs.Value.{value}
use Rattle.page_store.proofs.Agree.{SameOut, same-out, same-row, Calm, clean-calm, fits-calm, outside-calm}
use Rattle.page_store.proofs.Elsewhere.{OneFrame, one-elsewhere, only-none, sound-one, touches-one, paired-links, value-elsewhere}
use Rattle.page_store.proofs.FrameLaws.{some-not}
use Rattle.page_store.proofs.QueryLemmas.{IsIn, bytes-within}

-- the rows once a frame was marked, or not
abbrev marked : List Row → ℕ → Bool → List Row
marked rows frame mark = cond mark (set rows frame (with_bits (row_at rows frame) (row_at rows frame).referenced true)) rows

marked_other : (rows : List Row) (frame k : ℕ) (mark : Bool) → k ≢ frame → row_at (marked rows frame mark) k ≡ row_at rows k
marked_other rows frame k true ne = get_or-set_other rows frame k (with_bits (row_at rows frame) (row_at rows frame).referenced true) clear_row ne
marked_other rows frame k false ne = refl

marked_field : {X : Type 0} (field : Row → X) → ((r : Row) → field (with_bits r r.referenced true) ≡ field r) → (rows : List Row) (frame : ℕ) (mark : Bool)
    → frame < length rows → field (row_at (marked rows frame mark) frame) ≡ field (row_at rows frame)
marked_field field keeps rows frame true lt = ap field (get_or-set_same rows frame (with_bits (row_at rows frame) (row_at rows frame).referenced true) clear_row lt) ∙ keeps (row_at rows frame)
marked_field field keeps rows frame false lt = refl

marked_length : (rows : List Row) (frame : ℕ) (mark : Bool) → length (marked rows frame mark) ≡ length rows
marked_length rows frame true = length-set rows frame (with_bits (row_at rows frame) (row_at rows frame).referenced true)
marked_length rows frame false = refl

-- the bytes of the frame then
abbrev piece_over : StoreSeen → ℕ → ℕ → List ℕ → List ℕ
piece_over s frame at from = bytes_with_piece (unwrap_or (bytes_at s.frames frame) []) at from

spliced_length : (bytes : List ℕ) (at : ℕ) (from : List ℕ) → length bytes ≡ 4096 → at + length from ≤ 4096 → length (bytes_with_piece bytes at from) ≡ 4096
spliced_length bytes at from size small = grind (arith, common_steps)

module _ (s : StoreSeen) (page : PageName) (frame at : ℕ) (from : List ℕ) (mark : Bool) (sound : IsSoundStore s) (is : IsIn s page frame)
    (unlisted : IsListedFrame s frame → ⊥) (small : at + length from ≤ 4096) where
  frame_within : frame < length s.frames
  frame_within = bytes-within s.frames frame is.bytes is.there

  row_within : frame < length s.rows
  row_within = let a = frame_within in let b = sound.rows in omega arith

  there_now : bytes_at (set s.frames frame (Some (piece_over s frame at from))) frame ≡ Some (piece_over s frame at from)
  there_now = get_or-set_same s.frames frame (Some (piece_over s frame at from)) None frame_within

  one_poked : OneFrame s (with_piece s frame at from mark) frame
  one_poked = record {
    frames = length-set s.frames frame (Some (piece_over s frame at from));
    bytes = λ k ne. get_or-set_other s.frames frame k (Some (piece_over s frame at from)) None ne;
    names = λ k ne. refl;
    rows = λ k ne. marked_other s.rows frame k mark ne;
    free = λ k ne. (λ h. h, λ h. h);
    cached = λ k ne. (λ h. h, λ h. h);
  }

  -- each field of a row but the modified bits is as it was
  field_same : {X : Type 0} (field : Row → X) → ((r : Row) → field (with_bits r r.referenced true) ≡ field r) → (k : ℕ) → field (row_at (marked s.rows frame mark) k) ≡ field (row_at s.rows k)
  field_same field keeps k = elim (cases_eq k frame) [
    | inl e ↦ subst (λ (j : ℕ). field (row_at (marked s.rows frame mark) j) ≡ field (row_at s.rows j)) (sym e) (marked_field field keeps s.rows frame mark row_within)
    | inr ne ↦ ap field (marked_other s.rows frame k mark ne)
  ]

  size_now : length (piece_over s frame at from) ≡ 4096
  size_now = ap (λ (b : Option (List ℕ)). length (bytes_with_piece (unwrap_or b []) at from)) is.there ∙ spliced_length is.bytes at from ((sound.each frame frame_within).size is.bytes is.there) small

  same_home : is_none (bytes_at (set s.frames frame (Some (piece_over s frame at from))) frame) ≡ is_none (bytes_at s.frames frame)
  same_home = ap (λ (b : Option (List ℕ)). is_none b) there_now ∙ sym (ap (λ (b : Option (List ℕ)). is_none b) is.there)

  agrees_poked : FrameAgrees (bytes_at (set s.frames frame (Some (piece_over s frame at from))) frame) (name_at s.names frame) (row_at (marked s.rows frame mark) frame)
  agrees_poked =
      let was = sound.each frame frame_within in
      let holder = field_same (λ (r : Row). r.holder) (λ r. refl) frame in
      let gone = field_same (λ (r : Row). r.gone) (λ r. refl) frame in
      let source = field_same (λ (r : Row). r.source) (λ r. refl) frame in
      record {
        size = λ b h. let q : (piece_over s frame at from) ≡ b = let z : Some (piece_over s frame at from) ≡ Some b = sym there_now ∙ h in cc in ap (λ (l : List ℕ). length l) (sym q) ∙ size_now;
        away = same_home ∙ was.away ∙ sym (ap (λ (h : Option ℕ). is_some h) holder);
        unnamed = rw (holder, gone, source) was.unnamed;
        torn = λ g. source ∙ was.torn (sym gone ∙ g);
      }

  some_now : (k : ℕ) → IsSome (bytes_at s.frames k) → IsSome (bytes_at (set s.frames frame (Some (piece_over s frame at from))) k)
  some_now k h = elim (cases_eq k frame) [
    | inl e ↦ subst (λ (j : ℕ). IsSome (bytes_at (set s.frames frame (Some (piece_over s frame at from))) j)) (sym e) (subst (λ (b : Option (List ℕ)). IsSome b) (sym there_now) refl)
    | inr ne ↦ subst (λ (b : Option (List ℕ)). IsSome b) (sym (get_or-set_other s.frames frame k (Some (piece_over s frame at from)) None ne)) h
  ]

  sound_poked : IsSoundStore (with_piece s frame at from mark)
  sound_poked = sound-one s (with_piece s frame at from mark) frame one_poked sound
      (record {
        names = refl;
        rows = marked_length s.rows frame mark;
        clock = refl;
        bays = refl;
        order = sound.order;
        distinct = sound.distinct;
        lists = subst (λ (n : ℕ). AreApart (record { frames = n; free = s.free; cached = s.cached })) (sym (length-set s.frames frame (Some (piece_over s frame at from)))) sound.lists;
        paired = paired-links s (with_piece s frame at from mark) sound.paired (field_same (λ (r : Row). r.snapshot) (λ r. refl)) (field_same (λ (r : Row). r.source) (λ r. refl))
            (λ own copy h. (some_now own (sound.paired.home own copy h), sound.paired.named own copy h, sound.paired.unlisted own copy h));
        whole = sound.whole;
      })
      (record {
        agrees = agrees_poked;
        listed = λ l. absurd (unlisted l);
        unnamed = sound.unnamed frame;
        spare = λ t n. absurd (let z : None ≡ Some page = sym n ∙ find-at s.names page frame is.found in cc);
      })

  residence_at : (o : Option ℕ) → residence_in o (with_piece s frame at from mark) ≡ residence_in o s
  residence_at None = refl
  residence_at (Some g) = elim (cases_eq g frame) [
    | inl e ↦ subst (λ (j : ℕ). residence_in (Some j) (with_piece s frame at from mark) ≡ residence_in (Some j) s) (sym e) (rw (there_now, is.there) refl)
    | inr ne ↦ rw (get_or-set_other s.frames frame g (Some (piece_over s frame at from)) None ne, marked_other s.rows frame g mark ne) refl
  ]

  same_poked : (k : ℕ) → SameOut (row_at s.rows k) (row_at (marked s.rows frame mark) k)
  same_poked k = record {
    holder = field_same (λ (r : Row). r.holder) (λ r. refl) k;
    page = inl (field_same (λ (r : Row). r.gone) (λ r. refl) k, field_same (λ (r : Row). r.source) (λ r. refl) k);
  }

  away_far : (k : ℕ) → bytes_at s.frames k ≡ None → k ≢ frame
  away_far k h e = let z : Some is.bytes ≡ None = sym is.there ∙ ap (bytes_at s.frames) (sym e) ∙ h in cc

  calm_poked : Calm s (with_piece s frame at from mark)
  calm_poked = record {
    origin = refl;
    bays = refl;
    rows = same_poked;
    away = λ k h. get_or-set_other s.frames frame k (Some (piece_over s frame at from)) None (away_far k h) ∙ h;
    names = λ k h g. refl;
  }

  others_poked : (notes : Notes) (table : PlaceTable) (m : PageName) → m ≢ page → value (with_piece s frame at from mark) notes table m ≡ value s notes table m
  others_poked notes table m ne =
      let no : name_at s.names frame ≡ Some m → ⊥ = λ (h : name_at s.names frame ≡ Some m). let b : Some page ≡ Some m = sym
      (find-at s.names page frame is.found) ∙ h in ne (let w : page ≡ m = cc in sym w) in
      value-elsewhere s (with_piece s frame at from mark) (is_only (Some frame)) sound.distinct (one-elsewhere s (with_piece s frame at from mark) frame one_poked) notes notes table m
      (only-none s.names frame m no) (only-none s.names frame m no) refl (λ g t far h. refl)

  pub pokes-frame : Pokes s (with_piece s frame at from mark) page at from
  pokes-frame = record {
    sound = sound_poked;
    touches = subst (λ (o : Option ℕ). Touches s (with_piece s frame at from mark) (is_only o)) (sym is.found) (touches-one s (with_piece s frame at from mark) frame sound.distinct one_poked);
    residence = λ n. residence_at (find s.names n);
    outside = outside-calm s (with_piece s frame at from mark) calm_poked sound;
    value = λ notes table. rw (is.found, there_now, is.there) refl;
    others = λ notes table fits. record {
      fits = fits-calm s (with_piece s frame at from mark) notes table calm_poked
          (λ k n h e.
          let far : k ≢ frame = λ (q : k ≡ frame). unlisted (inr (subst (λ (j : ℕ). Contains s.cached j) q h)) in
          clean-calm s (with_piece s frame at from mark) notes table calm_poked k n (fits.each_cached k n h e) (get_or-set_other s.frames frame k (Some (piece_over s frame at from)) None far)) fits;
      alike = λ number. refl;
      values = λ m ne t. others_poked notes table m ne;
    };
  }
