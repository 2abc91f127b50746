-- Stores that agree outside a set of frames.
use Rattle.std.proofs.Common.{◌≡◌, ◌≢◌, ℕ, ◌<◌, Bool, true, false, inl, inr, List, Option, Some, None, refl, sym, ◌∙◌, ap, subst, length, IsSome, is_some}
use Rattle.std.specs.Prelude.{◌↔◌, ◌==◌, ◌^◌, Contains}
use Rattle.std.proofs.lemmas.Bool.{cases_eq, cases_Bool}
use Rattle.block_device.specs.DiskSeen.{DiskSeen, HasBlocks}
use Rattle.core_arena.specs.Bytes.{bytes_at}
use Rattle.page_hash.specs.Names.{find, name_at, AreDistinct}
use Rattle.page_hash.specs.declared.PageName.{PageName}
use Rattle.page_hash.proofs.NameLaws.{find-at, find-same}
use Rattle.page_lists.specs.ListsSeen.{AreApart}
use Rattle.page_lock.specs.Rows.{row_at}
use Rattle.page_lock.specs.declared.Row.{Row}
use Rattle.page_store.specs.Bays.{home, bay_at}
use Rattle.page_store.specs.Moves.{Touches, is_only}
use Rattle.page_store.specs.Notes.{Note, Notes}
use Rattle.page_store.specs.Seen.{StoreSeen, IsSoundStore, IsOrder, FrameAgrees, ArePaired, IsListedFrame, lists_seen, residence_in, residence_of}
use Rattle.page_store.specs.Table.{PlaceTable}
use Rattle.page_store.specs.Value.{value, value_in, backing_value, note_of_holder, frame_value}
use Rattle.page_store.specs.declared.place.Place.{Place}
use Rattle.page_store.proofs.FrameLaws.{eq-not, eq-is}

-- every frame outside the set is as it was
pub record Elsewhere (old new : StoreSeen) (touched : ℕ → Bool) : Type 0 where
  pub frames : length new.frames ≡ length old.frames
  pub bytes : (k : ℕ) → touched k ≡ false → bytes_at new.frames k ≡ bytes_at old.frames k
  pub names : (k : ℕ) → touched k ≡ false → name_at new.names k ≡ name_at old.names k
  pub rows : (k : ℕ) → touched k ≡ false → row_at new.rows k ≡ row_at old.rows k
  pub free : (k : ℕ) → touched k ≡ false → Contains new.free k ↔ Contains old.free k
  pub cached : (k : ℕ) → touched k ≡ false → Contains new.cached k ↔ Contains old.cached k

-- every frame but one is as it was
pub record OneFrame (old new : StoreSeen) (f : ℕ) : Type 0 where
  pub frames : length new.frames ≡ length old.frames
  pub bytes : (k : ℕ) → k ≢ f → bytes_at new.frames k ≡ bytes_at old.frames k
  pub names : (k : ℕ) → k ≢ f → name_at new.names k ≡ name_at old.names k
  pub rows : (k : ℕ) → k ≢ f → row_at new.rows k ≡ row_at old.rows k
  pub free : (k : ℕ) → k ≢ f → Contains new.free k ↔ Contains old.free k
  pub cached : (k : ℕ) → k ≢ f → Contains new.cached k ↔ Contains old.cached k

pub one-elsewhere : (old new : StoreSeen) (f : ℕ) → OneFrame old new f → Elsewhere old new (is_only (Some f))
one-elsewhere old new f e = record {
  frames = e.frames;
  bytes = λ k h. e.bytes k (eq-not k f h);
  names = λ k h. e.names k (eq-not k f h);
  rows = λ k h. e.rows k (eq-not k f h);
  free = λ k h. e.free k (eq-not k f h);
  cached = λ k h. e.cached k (eq-not k f h);
}

-- the same of a larger set
pub one-within : (old new : StoreSeen) (f : ℕ) (touched : ℕ → Bool) → OneFrame old new f → ((k : ℕ) → touched k ≡ false → k ≢ f) → Elsewhere old new touched
one-within old new f touched e far = record {
  frames = e.frames;
  bytes = λ k h. e.bytes k (far k h);
  names = λ k h. e.names k (far k h);
  rows = λ k h. e.rows k (far k h);
  free = λ k h. e.free k (far k h);
  cached = λ k h. e.cached k (far k h);
}

pub of-touches : (old new : StoreSeen) (touched : ℕ → Bool) → Touches old new touched → Elsewhere old new touched
of-touches old new touched t = record { frames = t.frames; bytes = t.bytes; names = t.names; rows = t.rows; free = t.free; cached = t.cached }

-- one after the other
pub elsewhere-then : (a b c : StoreSeen) (first second both : ℕ → Bool) → ((k : ℕ) → both k ≡ false → (first k ≡ false) × (second k ≡ false))
    → Elsewhere a b first → Elsewhere b c second → Elsewhere a c both
elsewhere-then a b c first second both apart x y = record {
  frames = y.frames ∙ x.frames;
  bytes = λ k h. y.bytes k (apart k h).1 ∙ x.bytes k (apart k h).0;
  names = λ k h. y.names k (apart k h).1 ∙ x.names k (apart k h).0;
  rows = λ k h. y.rows k (apart k h).1 ∙ x.rows k (apart k h).0;
  free = λ k h. (λ z. (x.free k (apart k h).0).0 ((y.free k (apart k h).1).0 z), λ z. (y.free k (apart k h).1).1 ((x.free k (apart k h).0).1 z));
  cached = λ k h. (λ z. (x.cached k (apart k h).0).0 ((y.cached k (apart k h).1).0 z), λ z. (y.cached k (apart k h).1).1 ((x.cached k (apart k h).0).1 z));
}

pub same-elsewhere : (a : StoreSeen) (touched : ℕ → Bool) → Elsewhere a a touched
same-elsewhere a touched = record {
  frames = refl;
  bytes = λ k h. refl;
  names = λ k h. refl;
  rows = λ k h. refl;
  free = λ k h. (λ z. z, λ z. z);
  cached = λ k h. (λ z. z, λ z. z);
}

untouched : (names : List (Option PageName)) (touched : ℕ → Bool) (k : ℕ) (n : PageName) → ((j : ℕ) → touched j ≡ true → name_at names j ≡ Some n → ⊥) → name_at names k ≡ Some n → touched k ≡ false
untouched names touched k n differs h = elim (cases_Bool (touched k)) [
  | inl t ↦ absurd (differs k t h)
  | inr f ↦ f
]

-- only one frame is in the set of one
pub only-none : (names : List (Option PageName)) (f : ℕ) (n : PageName) → (name_at names f ≡ Some n → ⊥) → (j : ℕ) → is_only (Some f) j ≡ true → name_at names j ≡ Some n → ⊥
only-none names f n differs j t h = differs (subst (λ (k : ℕ). name_at names k ≡ Some n) (eq-is j f t) h)

module _ (old new : StoreSeen) (touched : ℕ → Bool) (distinct' : AreDistinct new.names) (e : Elsewhere old new touched) where
  -- a name that these frames hold neither before nor after is found where it was
  pub found-same : (n : PageName) → ((j : ℕ) → touched j ≡ true → name_at old.names j ≡ Some n → ⊥)
      → ((j : ℕ) → touched j ≡ true → name_at new.names j ≡ Some n → ⊥) → find new.names n ≡ find old.names n
  found-same n before after = find-same old.names new.names n distinct'
      (λ k h. e.names k (untouched old.names touched k n before h) ∙ h)
      (λ k h. sym (e.names k (untouched new.names touched k n after h)) ∙ h)

  residence_at : (n : PageName) (o : Option ℕ) → find old.names n ≡ o → ((j : ℕ) → touched j ≡ true → name_at old.names j ≡ Some n → ⊥) → residence_in o new ≡ residence_in o old
  residence_at n None h before = refl
  residence_at n (Some g) h before =
      let far : touched g ≡ false = untouched old.names touched g n before (find-at old.names n g h) in
      ap (λ (b : Option (List ℕ)). residence_of b (row_at new.rows g).holder g) (e.bytes g far) ∙ ap (λ (r : Row). residence_of (bytes_at old.frames g) r.holder g) (e.rows g far)

  pub touches : Touches old new touched
  touches = record {
    frames = e.frames;
    bytes = e.bytes;
    names = e.names;
    rows = e.rows;
    free = e.free;
    cached = e.cached;
    residence = λ n before after. ap (λ (o : Option ℕ). residence_in o new) (found-same n before after) ∙ residence_at n (find old.names n) refl before;
  }

  holder_note : (before after : Notes) (h : Option ℕ) → ((t : ℕ) → h ≡ Some t → after t ≡ before t) → note_of_holder h after ≡ note_of_holder h before
  holder_note before after None notes = refl
  holder_note before after (Some t) notes = notes t refl

  -- a frame outside the set has for a name the value that it had
  pub value_in-same : (before after : Notes) (place : Place) (g : ℕ) → touched g ≡ false → backing_value new after place ≡ backing_value old before place
      → ((t : ℕ) → (row_at old.rows g).holder ≡ Some t → after t ≡ before t) → value_in (Some g) new after place ≡ value_in (Some g) old before place
  value_in-same before after place g far same notes =
      ap (λ (b : Option (List ℕ)). frame_value b (note_of_holder (row_at new.rows g).holder after) (backing_value new after place)) (e.bytes g far)
      ∙ ap (λ (r : Row). frame_value (bytes_at old.frames g) (note_of_holder r.holder after) (backing_value new after place)) (e.rows g far)
      ∙ ap (λ (x : List ℕ). frame_value (bytes_at old.frames g) (note_of_holder (row_at old.rows g).holder after) x) same
      ∙ ap (λ (x : Option Note). frame_value (bytes_at old.frames g) x (backing_value old before place)) (holder_note before after (row_at old.rows g).holder notes)

  value_found : (before after : Notes) (place : Place) (n : PageName) (o : Option ℕ) → find old.names n ≡ o → ((j : ℕ) → touched j ≡ true → name_at old.names j ≡ Some n → ⊥)
      → backing_value new after place ≡ backing_value old before place → ((g t : ℕ) → touched g ≡ false → (row_at old.rows g).holder ≡ Some t → after t ≡ before t)
      → value_in o new after place ≡ value_in o old before place
  value_found before after place n None h differs same notes = same
  value_found before after place n (Some g) h differs same notes =
      let far = untouched old.names touched g n differs (find-at old.names n g h) in
      value_in-same before after place g far same (λ t held. notes g t far held)

  -- a name that these frames hold neither before nor after keeps its value
  pub value-elsewhere : (before after : Notes) (table : PlaceTable) (n : PageName) → ((j : ℕ) → touched j ≡ true → name_at old.names j ≡ Some n → ⊥)
      → ((j : ℕ) → touched j ≡ true → name_at new.names j ≡ Some n → ⊥)
      → backing_value new after (table n) ≡ backing_value old before (table n) → ((g t : ℕ) → touched g ≡ false → (row_at old.rows g).holder ≡ Some t → after t ≡ before t)
      → value new after table n ≡ value old before table n
  value-elsewhere before after table n was now same notes =
      ap (λ (o : Option ℕ). value_in o new after (table n)) (found-same n was now) ∙ value_found before after (table n) n (find old.names n) refl was same notes

-- what holds of one frame of a sound store
pub record SoundAt (s : StoreSeen) (k : ℕ) : Type 0 where
  pub agrees : FrameAgrees (bytes_at s.frames k) (name_at s.names k) (row_at s.rows k)
  pub listed : IsListedFrame s k → IsSome (bytes_at s.frames k)
  pub unnamed : Contains s.free k → name_at s.names k ≡ None
  pub spare : IsSome (bytes_at s.frames k) → name_at s.names k ≡ None → Contains s.free k

-- what holds of the parts of a store beside its frames
pub record SoundParts (old new : StoreSeen) : Type 0 where
  pub names : length new.names ≡ length old.names
  pub rows : length new.rows ≡ length old.rows
  pub clock : new.clock.frames ≡ old.clock.frames
  pub bays : length new.bays ≡ length old.bays
  pub order : IsOrder new.bays new.order
  pub distinct : AreDistinct new.names
  pub lists : AreApart (lists_seen new)
  pub paired : ArePaired new
  pub whole : (number : ℕ) (d : DiskSeen) → bay_at new.bays number ≡ home d → HasBlocks d.content d.size

-- what holds of every store still holds
pub sound-elsewhere : (old new : StoreSeen) (touched : ℕ → Bool) → Elsewhere old new touched → IsSoundStore old → SoundParts old new → ((k : ℕ) → touched k ≡ true → SoundAt new k) → IsSoundStore new
sound-elsewhere old new touched e sound parts here = record {
  few = subst (λ (n : ℕ). n < 2 ^ 32) (sym e.frames) sound.few;
  names = parts.names ∙ sound.names ∙ sym e.frames;
  rows = parts.rows ∙ sound.rows ∙ sym e.frames;
  hands = parts.clock ∙ sound.hands ∙ sym e.frames;
  bays = parts.bays ∙ sound.bays;
  order = parts.order;
  distinct = parts.distinct;
  lists = parts.lists;
  paired = parts.paired;
  whole = parts.whole;
  each = λ k lt. elim (cases_Bool (touched k)) [
    | inl t ↦ (here k t).agrees
    | inr far ↦
        subst (λ (b : Option (List ℕ)). FrameAgrees b (name_at new.names k) (row_at new.rows k)) (sym (e.bytes k far))
        (subst (λ (n : Option PageName). FrameAgrees (bytes_at old.frames k) n (row_at new.rows k)) (sym (e.names k far))
        (subst (λ (r : Row). FrameAgrees (bytes_at old.frames k) (name_at old.names k) r) (sym (e.rows k far))
        (sound.each k (subst (λ (n : ℕ). k < n) e.frames lt))))
  ];
  listed = λ k l. elim (cases_Bool (touched k)) [
    | inl t ↦ (here k t).listed l
    | inr far ↦ subst (λ (b : Option (List ℕ)). IsSome b) (sym (e.bytes k far)) (sound.listed k (elim l [ inl a ↦ inl ((e.free k far).0 a) | inr c ↦ inr ((e.cached k far).0 c) ]))
  ];
  unnamed = λ k l. elim (cases_Bool (touched k)) [
    | inl t ↦ (here k t).unnamed l
    | inr far ↦ e.names k far ∙ sound.unnamed k ((e.free k far).0 l)
  ];
  spare = λ k b n. elim (cases_Bool (touched k)) [
    | inl t ↦ (here k t).spare b n
    | inr far ↦ (e.free k far).1 (sound.spare k (subst (λ (o : Option (List ℕ)). IsSome o) (e.bytes k far) b) (sym (e.names k far) ∙ n))
  ];
}

-- the same where one frame changes
pub sound-one : (old new : StoreSeen) (f : ℕ) → OneFrame old new f → IsSoundStore old → SoundParts old new → SoundAt new f → IsSoundStore new
sound-one old new f e sound parts here =
    sound-elsewhere old new (is_only (Some f)) (one-elsewhere old new f e) sound parts (λ k t. subst (λ (j : ℕ). SoundAt new j) (sym (eq-is k f t)) here)

pub touches-one : (old new : StoreSeen) (f : ℕ) → AreDistinct new.names → OneFrame old new f → Touches old new (is_only (Some f))
touches-one old new f distinct e = touches old new (is_only (Some f)) distinct (one-elsewhere old new f e)

-- pages and snapshots stay paired where each frame has the links that it had, and those that have a snapshot stay
pub paired-links : (old new : StoreSeen) → ArePaired old → ((k : ℕ) → (row_at new.rows k).snapshot ≡ (row_at old.rows k).snapshot) → ((k : ℕ) → (row_at new.rows k).source ≡ (row_at old.rows k).source)
    → ((own copy : ℕ) → (row_at old.rows own).snapshot ≡ Some copy → (IsSome (bytes_at new.frames own)) × (IsSome (name_at new.names own)) × (IsListedFrame new own → ⊥)) → ArePaired new
paired-links old new was snapshot source stays = record {
  source = λ own copy h. source copy ∙ was.source own copy (sym (snapshot own) ∙ h);
  snapshot = λ own copy h. snapshot own ∙ was.snapshot own copy (sym (source copy) ∙ h);
  home = λ own copy h. (stays own copy (sym (snapshot own) ∙ h)).0;
  named = λ own copy h. (stays own copy (sym (snapshot own) ∙ h)).1;
  unlisted = λ own copy h. (stays own copy (sym (snapshot own) ∙ h)).2;
}

-- the same where one frame changes that has no links, before and after
pub paired-one : (old new : StoreSeen) (f : ℕ) → OneFrame old new f → ArePaired old → (row_at old.rows f).snapshot ≡ None → (row_at old.rows f).source ≡ None
    → (row_at new.rows f).snapshot ≡ None → (row_at new.rows f).source ≡ None → ArePaired new
paired-one old new f e was a b c d = paired-links old new was
    (λ k. elim (cases_eq k f) [
      | inl q ↦ subst (λ (j : ℕ). (row_at new.rows j).snapshot ≡ (row_at old.rows j).snapshot) (sym q) (c ∙ sym a)
      | inr ne ↦ ap (λ (r : Row). r.snapshot) (e.rows k ne)
    ])
    (λ k. elim (cases_eq k f) [
      | inl q ↦ subst (λ (j : ℕ). (row_at new.rows j).source ≡ (row_at old.rows j).source) (sym q) (d ∙ sym b)
      | inr ne ↦ ap (λ (r : Row). r.source) (e.rows k ne)
    ])
    (λ own copy h.
    let far : own ≢ f = λ (q : own ≡ f). let z : None ≡ Some copy = sym a ∙ subst (λ (j : ℕ). (row_at old.rows j).snapshot ≡ Some copy) q h in cc in (
      (subst (λ (o : Option (List ℕ)). IsSome o) (sym (e.bytes own far)) (was.home own copy h)),
      (subst (λ (o : Option PageName). IsSome o) (sym (e.names own far)) (was.named own copy h)),
      λ l. was.unlisted own copy h (elim l [ inl x ↦ inl ((e.free own far).0 x) | inr y ↦ inr ((e.cached own far).0 y) ]),
    ))
