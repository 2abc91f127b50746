-- A frame is taken for a name that gets new bytes.
use Rattle.std.proofs.Common.{◌≡◌, ◌≢◌, ℕ, ◌<◌, Bool, true, false, inl, inr, List, Option, Some, None, IsTrue, IsSome, refl, sym, ◌∙◌, ap, subst, arith, length, set, is_some}
use Rattle.std.specs.Prelude.{◌≤◌, [], is_none, cond, option_map, unwrap_or, IfSome, Contains}
use Rattle.std.proofs.lemmas.Bool.{cases_Bool, cases_eq}
use Rattle.std.proofs.lemmas.List.{get_or-set_same, get_or-set_other}
use Rattle.std.proofs.Math.ListN.{length-set}
use Rattle.core_arena.specs.Bytes.{bytes_at}
use Rattle.page_hash.specs.Names.{find, name_at, is_name, AreDistinct}
use Rattle.page_hash.specs.declared.PageName.{PageName}
use Rattle.page_hash.proofs.NameLaws.{find-at, find-some, find-none, find-absent, find-entered, entered-distinct, is_name-true, is_name-same}
use Rattle.page_lists.specs.ListsSeen.{AreApart}
use Rattle.page_lock.specs.Rows.{row_at, clear_row}
use Rattle.page_lock.specs.declared.Row.{Row}
use Rattle.page_store.specs.Bytes.{clip}
use Rattle.page_store.specs.StoreFits.{StoreFits}
use Rattle.page_store.specs.Laws.{FillsPage}
use Rattle.page_store.specs.Moves.{FillsFrame, Touches, after_taking, is_only}
use Rattle.page_store.specs.Notes.{Notes}
use Rattle.page_store.specs.Seen.{StoreSeen, IsSoundStore, FrameAgrees, IsListedFrame, own_frame, residence, residence_in}
use Rattle.page_store.specs.Steps.{next_frame, next_name, name_in, home_bytes, front_bytes, with_frame_filled, fresh_row, rest_free, rest_cached}
use Rattle.page_store.specs.Table.{PlaceTable}
use Rattle.page_store.specs.Value.{value, backing_value, tells}
use Rattle.page_store.specs.declared.residence.Residence.TheVariants.{Home, Absent}
use Rattle.page_store.proofs.Agree.{SameOut, same-row, Calm, own-far, clean-calm, fits-calm, outside-calm}
use Rattle.page_store.proofs.Clips.{length-clip, clip-whole}
use Rattle.page_store.proofs.Elsewhere.{OneFrame, SoundAt, one-elsewhere, only-none, sound-one, touches-one, paired-one, value-elsewhere, touches}
use Rattle.page_store.proofs.FrameLaws.{home-unheld, home-ungone, home-source, listed-snapshot, some-not, agrees-at}
use Rattle.page_store.proofs.QueryLemmas.{IsIn, home-is, bytes-within, some-within}
use Rattle.page_store.proofs.TakeLemmas.{first-listed, rest-free, rest-cached, gone-free, gone-cached, rest-apart}

-- a page at home: its value
pub home-value : (s : StoreSeen) (page : PageName) (frame : ℕ) (is : IsIn s page frame) (notes : Notes) (table : PlaceTable) → value s notes table page ≡ is.bytes
home-value s page frame is notes table = rw (is.found, is.there) refl

-- the front of a frame that is home: what it is, its size, and where it is all of the frame
clipped_some : (o : Option (List ℕ)) (valid : ℕ) → IsSome o → option_map (clip valid) o ≡ Some (clip valid (unwrap_or o []))
clipped_some (Some bytes) valid h = refl
clipped_some None valid h = absurd (let z : false ≡ true = h in cc)

pub front-is : (s : StoreSeen) (frame valid : ℕ) → IsSome (bytes_at s.frames frame) → option_map (clip valid) (bytes_at s.frames frame) ≡ Some (front_bytes s.frames frame valid)
front-is s frame valid home = clipped_some (bytes_at s.frames frame) valid home

home_size : (s : StoreSeen) (frame : ℕ) (o : Option (List ℕ)) → bytes_at s.frames frame ≡ o → IsSoundStore s → IsSome o → length (unwrap_or o []) ≡ 4096
home_size s frame (Some bytes) e sound h = (sound.each frame (bytes-within s.frames frame bytes e)).size bytes e
home_size s frame None e sound h = absurd (let z : false ≡ true = h in cc)

pub front-size : (s : StoreSeen) (frame valid : ℕ) → IsSoundStore s → IsSome (bytes_at s.frames frame) → valid ≤ 4096 → length (front_bytes s.frames frame valid) ≡ 4096
front-size s frame valid sound home low = length-clip valid (home_bytes s (Some frame)) low (home_size s frame (bytes_at s.frames frame) refl sound home)

pub front-whole : (s : StoreSeen) (frame : ℕ) → IsSoundStore s → IsSome (bytes_at s.frames frame) → front_bytes s.frames frame 4096 ≡ home_bytes s (Some frame)
front-whole s frame sound home = clip-whole (home_bytes s (Some frame)) (home_size s frame (bytes_at s.frames frame) refl sound home)

-- what is known of the frame that is taken next
module _ (s : StoreSeen) (frame : ℕ) (sound : IsSoundStore s) (next : next_frame s ≡ Some frame) where
  pub taken-home : IsSome (bytes_at s.frames frame)
  taken-home = sound.listed frame (first-listed s.free s.cached frame next)

  pub taken-within : frame < length s.frames
  taken-within = some-within s.frames frame taken-home

  pub taken-name : frame < length s.names
  taken-name = let a = taken-within in let b = sound.names in omega arith

  pub taken-row : frame < length s.rows
  taken-row = let a = taken-within in let b = sound.rows in omega arith

  pub taken-snapshot : (row_at s.rows frame).snapshot ≡ None
  taken-snapshot = listed-snapshot s sound frame (first-listed s.free s.cached frame next)

  pub taken-source : (row_at s.rows frame).source ≡ None
  taken-source = home-source s sound frame taken-home

  pub taken-holder : (row_at s.rows frame).holder ≡ None
  taken-holder = home-unheld (bytes_at s.frames frame) (name_at s.names frame) (row_at s.rows frame) (sound.each frame taken-within) taken-home

  pub taken-ungone : (row_at s.rows frame).gone ≡ false
  taken-ungone = home-ungone (bytes_at s.frames frame) (name_at s.names frame) (row_at s.rows frame) (sound.each frame taken-within) taken-home

  pub taken-free : Contains (rest_free s.free) frame → ⊥
  taken-free = gone-free s.free s.cached frame next sound.lists.once_free

  pub taken-cached : Contains (rest_cached s.free s.cached) frame → ⊥
  taken-cached = gone-cached s.free s.cached frame next sound.lists.once_cached sound.lists.one_list

  pub taken-away : (k : ℕ) → bytes_at s.frames k ≡ None → k ≢ frame
  taken-away k h q = some-not (bytes_at s.frames frame) taken-home (ap (bytes_at s.frames) (sym q) ∙ h)

  pub next-is : next_name s ≡ name_at s.names frame
  next-is = ap (λ (o : Option ℕ). name_in s.names o) next

  -- a name that the frame had is in no frame once it has another, or none
  pub taken-lost : (held : Option PageName) (n : PageName) → (held ≡ Some n → ⊥) → name_at s.names frame ≡ Some n → find (set s.names frame held) n ≡ None
  taken-lost held n ne h = find-absent (set s.names frame held) n (λ k m.
      let q : k ≡ frame = elim (cases_eq k frame) [
        | inl e ↦ e
        | inr far ↦ sound.distinct k frame n (sym (get_or-set_other s.names frame k held None far) ∙ m) h
      ] in
      ne (sym (get_or-set_same s.names frame held None taken-name) ∙ ap (name_at (set s.names frame held)) (sym q) ∙ m))

  -- the value of the name that the frame had is what is stored, cut
  pub taken-value : (notes : Notes) (table : PlaceTable) (n : PageName) → StoreFits s notes table → name_at s.names frame ≡ Some n
      → IsTrue (tells s notes (table n).disk) → backing_value s notes (table n) ≡ clip (table n).valid (value s notes table n)
  taken-value notes table n fits h t = by_bytes (bytes_at s.frames frame) refl
    where
      found : find s.names n ≡ Some frame
      found = find-some s.names n frame sound.distinct h

      was_cached : Contains s.cached frame
      was_cached = elim (first-listed s.free s.cached frame next) [
        | inl f ↦ absurd (let z : None ≡ Some n = sym (sound.unnamed frame f) ∙ h in cc)
        | inr c ↦ c
      ]

      by_bytes : (o : Option (List ℕ)) → bytes_at s.frames frame ≡ o → backing_value s notes (table n) ≡ clip (table n).valid (value s notes table n)
      by_bytes None e = absurd (some-not (bytes_at s.frames frame) taken-home e)
      by_bytes (Some b) e =
          let v : value s notes table n ≡ b = rw (found, e) refl in
          sym (ap (λ (l : List ℕ). clip (table n).valid l) v ∙ (fits.each_cached frame n was_cached h).same t b e)

  -- what the next name tells of a name
  pub next-other : (n : PageName) → (name_at s.names frame ≡ Some n → ⊥) → is_name (next_name s) n ≡ false
  next-other n before = elim (cases_Bool (is_name (next_name s) n)) [
    | inl y ↦ absurd (before (sym next-is ∙ is_name-true (next_name s) n y))
    | inr w ↦ w
  ]

  pub next-own : (n : PageName) → name_at s.names frame ≡ Some n → is_name (next_name s) n ≡ true
  next-own n h = ap (λ (o : Option PageName). is_name o n) (next-is ∙ h) ∙ is_name-same n

pub next-within : (s : StoreSeen) (o : Option ℕ) → IsSoundStore s → o ≡ next_frame s → IfSome o (λ (f : ℕ). f < length s.frames)
next-within s None sound e = tt
next-within s (Some f) sound e = taken-within s f sound (sym e)

module _ (s : StoreSeen) (frame : ℕ) (page : PageName) (bytes : List ℕ) (modified : Bool) (sound : IsSoundStore s) (next : next_frame s ≡ Some frame)
    (absent : find s.names page ≡ None) (size : length bytes ≡ 4096) where
  bytes_there : bytes_at (set s.frames frame (Some bytes)) frame ≡ Some bytes
  bytes_there = get_or-set_same s.frames frame (Some bytes) None (taken-within s frame sound next)

  name_there : name_at (set s.names frame (Some page)) frame ≡ Some page
  name_there = get_or-set_same s.names frame (Some page) None (taken-name s frame sound next)

  row_there : row_at (set s.rows frame (fresh_row modified)) frame ≡ fresh_row modified
  row_there = get_or-set_same s.rows frame (fresh_row modified) clear_row (taken-row s frame sound next)

  distinct_after : AreDistinct (set s.names frame (Some page))
  distinct_after = entered-distinct s.names page frame (taken-name s frame sound next) sound.distinct absent

  found_after : find (set s.names frame (Some page)) page ≡ Some frame
  found_after = find-entered s.names page frame (taken-name s frame sound next) sound.distinct absent

  one_filled : OneFrame s (with_frame_filled s frame page bytes modified) frame
  one_filled = record {
    frames = length-set s.frames frame (Some bytes);
    bytes = λ k ne. get_or-set_other s.frames frame k (Some bytes) None ne;
    names = λ k ne. get_or-set_other s.names frame k (Some page) None ne;
    rows = λ k ne. get_or-set_other s.rows frame k (fresh_row modified) clear_row ne;
    free = rest-free s.free s.cached frame next;
    cached = rest-cached s.free s.cached frame next;
  }

  frame_filled : FrameAgrees (Some bytes) (Some page) (fresh_row modified)
  frame_filled = record {
    size = λ b h. let q : bytes ≡ b = cc in ap (λ (l : List ℕ). length l) (sym q) ∙ size;
    away = refl;
    unnamed = refl;
    torn = λ g. refl;
  }

  sound_filled : IsSoundStore (with_frame_filled s frame page bytes modified)
  sound_filled = sound-one s (with_frame_filled s frame page bytes modified) frame one_filled sound
      (record {
        names = length-set s.names frame (Some page);
        rows = length-set s.rows frame (fresh_row modified);
        clock = refl;
        bays = refl;
        order = sound.order;
        distinct = distinct_after;
        lists = subst (λ (n : ℕ). AreApart (record { frames = n; free = rest_free s.free; cached = rest_cached s.free s.cached }))
            (sym (length-set s.frames frame (Some bytes))) (rest-apart (length s.frames) s.free s.cached sound.lists);
        paired = paired-one s (with_frame_filled s frame page bytes modified) frame one_filled sound.paired (taken-snapshot s frame sound next) (taken-source s frame sound next)
            (ap (λ (r : Row). r.snapshot) row_there) (ap (λ (r : Row). r.source) row_there);
        whole = sound.whole;
      })
      (record {
        agrees = subst (λ (b : Option (List ℕ)). FrameAgrees b (name_at (set s.names frame (Some page)) frame) (row_at (set s.rows frame (fresh_row modified)) frame)) (sym bytes_there)
            (subst (λ (n : Option PageName). FrameAgrees (Some bytes) n (row_at (set s.rows frame (fresh_row modified)) frame)) (sym name_there)
            (subst (λ (r : Row). FrameAgrees (Some bytes) (Some page) r) (sym row_there) frame_filled));
        listed = λ l. subst (λ (b : Option (List ℕ)). IsSome b) (sym bytes_there) refl;
        unnamed = λ h. absurd (taken-free s frame sound next h);
        spare = λ b n. absurd (let z : Some page ≡ None = sym name_there ∙ n in cc);
      })

  not_before : (n : PageName) → next_name s ≢ Some n → name_at s.names frame ≡ Some n → ⊥
  not_before n ne h = ne (next-is s frame sound next ∙ h)

  not_after : (n : PageName) → n ≢ page → name_at (set s.names frame (Some page)) frame ≡ Some n → ⊥
  not_after n ne h = let z : Some page ≡ Some n = sym name_there ∙ h in ne (let w : page ≡ n = cc in sym w)

  absent_far : (n : PageName) → name_at s.names frame ≡ Some n → n ≢ page
  absent_far n h q = find-none s.names page frame absent (h ∙ ap (λ (m : PageName). Some m) q)

  calm_filled : Calm s (with_frame_filled s frame page bytes modified)
  calm_filled = record {
    origin = refl;
    bays = refl;
    rows = λ k. elim (cases_eq k frame) [
      | inl e ↦ subst (λ (j : ℕ). SameOut (row_at s.rows j) (row_at (set s.rows frame (fresh_row modified)) j)) (sym e)
          (subst (λ (r : Row). SameOut (row_at s.rows frame) r) (sym row_there)
          (record { holder = sym (taken-holder s frame sound next); page = inl (sym (taken-ungone s frame sound next), sym (taken-source s frame sound next)) }))
      | inr ne ↦ same-row (row_at s.rows k) (row_at (set s.rows frame (fresh_row modified)) k) (one_filled.rows k ne)
    ];
    away = λ k h. one_filled.bytes k (taken-away s frame sound next k h) ∙ h;
    names = λ k h g. one_filled.names (own_frame s k) (own-far s k frame sound (taken-away s frame sound next k h) (taken-snapshot s frame sound next));
  }

  other_filled : (notes : Notes) (table : PlaceTable) (n : PageName) → StoreFits s notes table → n ≢ page → IsTrue (tells s notes (table n).disk)
      → value (with_frame_filled s frame page bytes modified) notes table n ≡ after_taking (next_name s) n (table n) (value s notes table n)
  other_filled notes table n fits ne t = elim (cases_Bool (is_name (name_at s.names frame) n)) [
    | inl own ↦
        let h : name_at s.names frame ≡ Some n = is_name-true (name_at s.names frame) n own in
        rw (
          taken-lost s frame sound next (Some page) n (λ q. let z : Some page ≡ Some n = q in ne
              (let w : page ≡ n = cc in sym w)) h,
          next-own s frame sound next n h,
        ) (taken-value s frame sound next notes table n fits h t)
    | inr other ↦
        let before : name_at s.names frame ≡ Some n → ⊥ = λ (h : name_at s.names frame ≡ Some n). let z : true ≡ false = sym (is_name-same n)
        ∙ sym (ap (λ (o : Option PageName). is_name o n) h) ∙ other in cc in
        value-elsewhere s (with_frame_filled s frame page bytes modified) (is_only (Some frame)) distinct_after
        (one-elsewhere s (with_frame_filled s frame page bytes modified) frame one_filled) notes notes table n
        (only-none s.names frame n before) (only-none (set s.names frame (Some page)) frame n (not_after n ne)) refl (λ g t far h. refl)
        ∙ sym (ap (λ (b : Bool). cond b (clip (table n).valid (value s notes table n)) (value s notes table n)) (next-other s frame sound next n before))
  ]

  pub fills-frame : (given : Notes → PlaceTable → List ℕ) → ((notes : Notes) (table : PlaceTable) → given notes table ≡ bytes)
      → FillsPage s (with_frame_filled s frame page bytes modified) page modified given
  fills-frame given is = record {
    sound = sound_filled;
    touches = subst (λ (o : Option ℕ). Touches s (with_frame_filled s frame page bytes modified) (is_only o)) (sym next)
        (touches-one s (with_frame_filled s frame page bytes modified) frame distinct_after one_filled);
    home = subst (λ (o : Option ℕ). IfSome o (λ (f : ℕ). residence (with_frame_filled s frame page bytes modified) page ≡ Home f)) (sym next) (rw (found_after, bytes_there) refl);
    unlisted = subst (λ (o : Option ℕ). IfSome o (λ (f : ℕ). ¬ IsListedFrame (with_frame_filled s frame page bytes modified) f)) (sym next)
        (λ l. elim l [ inl a ↦ taken-free s frame sound next a | inr b ↦ taken-cached s frame sound next b ]);
    row = subst (λ (o : Option ℕ). IfSome o (λ (f : ℕ). row_at (set s.rows frame (fresh_row modified)) f ≡ fresh_row modified)) (sym next) row_there;
    outside = outside-calm s (with_frame_filled s frame page bytes modified) calm_filled sound;
    lost = λ n h.
        let was : name_at s.names frame ≡ Some n = sym (next-is s frame sound next) ∙ h in
        ap (λ (o : Option ℕ). residence_in o (with_frame_filled s frame page bytes modified))
        (taken-lost s frame sound next (Some page) n (λ q. let z : Some page ≡ Some n = q in absent_far n was (let w : page ≡ n = cc in sym w)) was);
    stay = λ n ne other.
        (touches-one s (with_frame_filled s frame page bytes modified) frame distinct_after one_filled).residence n
        (only-none s.names frame n (not_before n other)) (only-none (set s.names frame (Some page)) frame n (not_after n ne));
    values = λ notes table fits. record {
      fits = fits-calm s (with_frame_filled s frame page bytes modified) notes table calm_filled
          (λ k n h e.
          let far : k ≢ frame = λ (q : k ≡ frame). taken-cached s frame sound next (subst (λ (j : ℕ). Contains (rest_cached s.free s.cached) j) q h) in
          clean-calm s (with_frame_filled s frame page bytes modified) notes table calm_filled k n
          (fits.each_cached k n ((one_filled.cached k far).0 h) (sym (one_filled.names k far) ∙ e)) (one_filled.bytes k far)) fits;
      alike = λ number. refl;
      filled = rw (found_after, bytes_there) (sym (is notes table));
      others = λ n ne t. other_filled notes table n fits ne t;
    };
  }

-- the same bytes, told in other words
pub fills-as : (old new : StoreSeen) (name : PageName) (modified : Bool) (given told : Notes → PlaceTable → List ℕ) → ((notes : Notes) (table : PlaceTable) → given notes table ≡ told notes table)
    → FillsPage old new name modified given → FillsPage old new name modified told
fills-as old new name modified given told is laws = record {
  sound = laws.sound;
  touches = laws.touches;
  home = laws.home;
  unlisted = laws.unlisted;
  row = laws.row;
  outside = laws.outside;
  lost = laws.lost;
  stay = laws.stay;
  values = λ notes table fits. subst (λ (bytes : List ℕ). FillsFrame old notes new notes table name bytes) (is notes table) (laws.values notes table fits);
}

-- a page that is home, in a frame on no list, stays when a frame is taken for another name
pub fills-far : (old new : StoreSeen) (name : PageName) (modified : Bool) (given : Notes → PlaceTable → List ℕ) (from : PageName) (k : ℕ)
    → FillsPage old new name modified given → IsSoundStore old → residence old name ≡ Absent → residence old from ≡ Home k → (IsListedFrame old k → ⊥)
    → residence new from ≡ residence old from
fills-far old new name modified given from k laws sound absent home_k unlisted =
    let is = home-is old from k home_k in
    laws.stay from (λ q. let z : Home k ≡ Absent = sym home_k ∙ ap (residence old) q ∙ absent in cc) (by_next (next_frame old) refl (find-at old.names from k is.found))
  where
    by_next : (o : Option ℕ) → next_frame old ≡ o → name_at old.names k ≡ Some from → next_name old ≢ Some from
    by_next None next held h = let z : None ≡ Some from = sym (ap (λ (o : Option ℕ). name_in old.names o) next) ∙ h in cc
    by_next (Some frame) next held h =
        let same : k ≡ frame = sound.distinct k frame from held (sym (next-is old frame sound next) ∙ h) in
        unlisted (subst (λ (j : ℕ). IsListedFrame old j) (sym same) (first-listed old.free old.cached frame next))
