-- What a contract sees of the pool of translations. Public clauses cite this.
use Rattle.std.specs.Prelude.{◌≡◌, ℕ, ◌+◌, ◌==◌, ◌&&◌, ◌||◌, not, Bool, true, false, IsTrue, List, Option, Some, None, if◌then◌else◌, map, find, length}
use Rattle.std.specs.Prelude.{option_map, option_and_then, is_some, slice_index_or}
use Rattle.std.specs.List.{list_any, list_all}
use Rattle.hat_layer.specs.declared.translation.Translation.{Translation}
use Rattle.hat_layer.specs.declared.translation.Dropped.{Dropped}

-- the places of the pool, the place that is stolen next, and the number of frames
pub record HatSeen : Type 0 where
  pub places : List (Option Translation)
  pub hand : ℕ
  pub frames : ℕ

-- a translation is that of this page of this space
abbrev pub is_of : ℕ → ℕ → Translation → Bool
is_of space page t = (t.space == space) && (t.page == page)

-- a place holds the translation of this page of this space
abbrev pub holds : ℕ → ℕ → Option Translation → Bool
holds space page None = false
holds space page (Some t) = is_of space page t

-- the map from (space, page): its translation
abbrev pub translation_at : List (Option Translation) → ℕ → ℕ → Option Translation
translation_at places space page = option_and_then (λ o. o) (find (λ o. holds space page o) places)

-- the frame that a place leads to
abbrev pub frame_of : Option Translation → Option ℕ
frame_of None = None
frame_of (Some t) = Some t.frame

-- a place leads to this frame
abbrev pub leads : ℕ → Option Translation → Bool
leads frame None = false
leads frame (Some t) = t.frame == frame

-- what is told of a translation that is dropped
abbrev pub told_of : Translation → Dropped
told_of t = record { space = t.space; page = t.page; frame = t.frame; referenced = t.referenced; modified = t.modified }

-- a translation as it is loaded: with clear bits
abbrev pub fresh_translation : ℕ → ℕ → ℕ → Bool → Translation
fresh_translation space page frame writable = record { space = space; page = page; frame = frame; writable = writable; referenced = false; modified = false }

-- a translation lets an access: each load, and a store where it is writable
abbrev pub lets_access : Bool → Translation → Bool
lets_access write t = t.writable || not write

-- the frame that an access goes to, where there is a translation that lets it
abbrev pub frame_let : Bool → Option Translation → Option ℕ
frame_let write None = None
frame_let write (Some t) = if lets_access write t then Some t.frame else None

-- the frame that an access to a page of a space goes to, where its translation lets it
abbrev pub frame_for : List (Option Translation) → ℕ → ℕ → Bool → Option ℕ
frame_for places space page write = frame_let write (translation_at places space page)

-- a translation after an access
abbrev pub after_access : Bool → Translation → Translation
after_access write t = record { space = t.space; page = t.page; frame = t.frame; writable = t.writable; referenced = true; modified = t.modified || write }

-- a translation that lets no store; its bits stay
abbrev pub without_write : Translation → Translation
without_write t = record { space = t.space; page = t.page; frame = t.frame; writable = false; referenced = t.referenced; modified = t.modified }

-- a translation that is neither referenced nor modified
abbrev pub with_clear_bits : Translation → Translation
with_clear_bits t = record { space = t.space; page = t.page; frame = t.frame; writable = t.writable; referenced = false; modified = false }

-- the entry of one page changed, and any other as it was
abbrev pub change_page : ℕ → ℕ → (Translation → Translation) → Option Translation → Option Translation
change_page space page change o = if holds space page o then option_map change o else o

-- the entry of one page dropped, and any other as it was
abbrev pub drop_page : ℕ → ℕ → Option Translation → Option Translation
drop_page space page o = if holds space page o then None else o

-- an entry that leads to a frame changed, and any other as it was
abbrev pub change_lead : ℕ → (Translation → Translation) → Option Translation → Option Translation
change_lead frame change o = if leads frame o then option_map change o else o

-- an entry that leads to a frame dropped, and any other as it was
abbrev pub drop_lead : ℕ → Option Translation → Option Translation
drop_lead frame o = if leads frame o then None else o

-- the places with the translation of one page changed
abbrev pub change_at : ℕ → ℕ → (Translation → Translation) → List (Option Translation) → List (Option Translation)
change_at space page change places = map (λ o. change_page space page change o) places

-- the places with the translation of one page dropped
abbrev pub drop_at : ℕ → ℕ → List (Option Translation) → List (Option Translation)
drop_at space page places = map (λ o. drop_page space page o) places

-- the places with all translations of a frame changed
abbrev pub change_frame : ℕ → (Translation → Translation) → List (Option Translation) → List (Option Translation)
change_frame frame change places = map (λ o. change_lead frame change o) places

-- the places with all translations of a frame dropped
abbrev pub drop_frame : ℕ → List (Option Translation) → List (Option Translation)
drop_frame frame places = map (λ o. drop_lead frame o) places

-- a place leads to the frame, and its translation has this bit
abbrev pub has_bit : (Translation → Bool) → ℕ → Option Translation → Bool
has_bit bit frame None = false
has_bit bit frame (Some t) = (t.frame == frame) && bit t

-- whether one of the frame's translations was referenced, modified
abbrev pub bits_of : ℕ → List (Option Translation) → Bool × Bool
bits_of frame places = (list_any (has_bit (λ t. t.referenced) frame) places, list_any (has_bit (λ t. t.modified) frame) places)

-- each place holds a translation
abbrev pub is_full : List (Option Translation) → Bool
is_full places = list_all (λ o. is_some o) places

-- the translation that gives way to a load: that of the same page, else in a full pool the one that the hand is at
abbrev pub dropped_by_load : HatSeen → ℕ → ℕ → Option Translation
dropped_by_load pool space page =
    if is_some (translation_at pool.places space page) then translation_at pool.places space page
    else if is_full pool.places then slice_index_or pool.places pool.hand None
    else None

-- the hand moves on where a full pool steals, from the last place to place 0
abbrev pub hand_after : HatSeen → ℕ → ℕ → ℕ
hand_after pool space page =
    if is_some (translation_at pool.places space page) then pool.hand
    else if is_full pool.places then (if pool.hand + 1 == length pool.places then 0 else pool.hand + 1)
    else pool.hand

-- no page of a space has two translations
abbrev pub IsSingleValued : List (Option Translation) → Type 0
IsSingleValued places = (i j space page : ℕ) → holds space page (slice_index_or places i None) ≡ true → holds space page (slice_index_or places j None) ≡ true → i ≡ j

-- some page's translation leads to the frame and has this bit
pub record SomeHas (bit : Translation → Bool) (places : List (Option Translation)) (frame : ℕ) : Type 0 where
  pub space : ℕ
  pub page : ℕ
  pub entry : Translation
  pub there : translation_at places space page ≡ Some entry
  pub leads_there : entry.frame ≡ frame
  pub set : bit entry ≡ true

-- an access was noted: the page's translation leads to the frame, lets the access, was used, and was written where it writes
pub record IsNoted (places : List (Option Translation)) (space page frame : ℕ) (write : Bool) : Type 0 where
  pub entry : Translation
  pub there : translation_at places space page ≡ Some entry
  pub leads_there : entry.frame ≡ frame
  pub lets : lets_access write entry ≡ true
  pub referenced : entry.referenced ≡ true
  pub modified : IsTrue write → IsTrue entry.modified
