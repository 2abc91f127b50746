-- What a store tells.
use Rattle.std.proofs.Common.{◌≡◌, ◌≢◌, ℕ, ◌<◌, ◌≤◌, true, false, ◌⊎◌, inl, inr, List, [], ◌∷◌, Option, Some, None, zero, suc, refl, sym, ◌∙◌, ap, subst, arith, length, IsSome, is_some}
use Rattle.std.specs.Prelude.{is_none, IfSome}
use Rattle.std.proofs.lemmas.Bool.{cases_lt}
use Rattle.core_arena.specs.Bytes.{bytes_at}
use Rattle.page_hash.specs.Names.{find, name_at, AreDistinct}
use Rattle.page_hash.specs.declared.PageName.{PageName}
use Rattle.page_hash.proofs.NameLaws.{find-at, find-some}
use Rattle.page_lock.specs.Rows.{row_at}
use Rattle.page_lock.specs.declared.Row.{Row}
use Rattle.page_store.specs.Notes.{Notes}
use Rattle.page_store.specs.Seen.{StoreSeen, IsSoundStore, residence, residence_in, residence_of}
use Rattle.page_store.specs.Table.{PlaceTable}
use Rattle.page_store.specs.Value.{value}
use Rattle.page_lists.specs.ListsSeen.{first_listed}
use Rattle.page_store.specs.Waits.{IsVictim}
use Rattle.page_store.specs.declared.residence.Residence.TheVariants.{Home, Absent}

pub named-within : (names : List (Option PageName)) (k : ℕ) (n : PageName) → name_at names k ≡ Some n → k < length names
named-within [] k n h = cc
named-within (b ∷ more) zero n h = omega arith
named-within (b ∷ more) (suc k) n h = let r = named-within more k n h in omega arith

pub bytes-within : (frames : List (Option (List ℕ))) (k : ℕ) (bytes : List ℕ) → bytes_at frames k ≡ Some bytes → k < length frames
bytes-within [] k bytes h = cc
bytes-within (b ∷ more) zero bytes h = omega arith
bytes-within (b ∷ more) (suc k) bytes h = let r = bytes-within more k bytes h in omega arith

pub some-within : (frames : List (Option (List ℕ))) (k : ℕ) → IsSome (bytes_at frames k) → k < length frames
some-within [] k h = let z : false ≡ true = h in cc
some-within (b ∷ more) zero h = omega arith
some-within (b ∷ more) (suc k) h = let r = some-within more k h in omega arith

pub held-within : (rows : List Row) (k t : ℕ) → (row_at rows k).holder ≡ Some t → k < length rows
held-within [] k t h = cc
held-within (b ∷ more) zero t h = omega arith
held-within (b ∷ more) (suc k) t h = let r = held-within more k t h in omega arith

-- a frame that is found is one of the frames
pub found-within : (s : StoreSeen) (n : PageName) (k : ℕ) → IsSoundStore s → find s.names n ≡ Some k → k < length s.frames
found-within s n k sound h = let a = named-within s.names k n (find-at s.names n k h) in let b = sound.names in omega arith

pub found-row : (s : StoreSeen) (n : PageName) (k : ℕ) → IsSoundStore s → find s.names n ≡ Some k → k < length s.rows
found-row s n k sound h = let a = found-within s n k sound h in let b = sound.rows in omega arith

-- a page that is home is in a frame, with its bytes
pub record IsIn (s : StoreSeen) (page : PageName) (frame : ℕ) : Type 0 where
  pub found : find s.names page ≡ Some frame
  pub bytes : List ℕ
  pub there : bytes_at s.frames frame ≡ Some bytes

in_frame : (s : StoreSeen) (page : PageName) (frame g : ℕ) (b : Option (List ℕ)) (h : Option ℕ) → find s.names page ≡ Some g → bytes_at s.frames g ≡ b
    → residence_of b h g ≡ Home frame → IsIn s page frame
in_frame s page frame g (Some bytes) h e f r = let q : g ≡ frame = cc in record { found = e ∙ ap (λ (k : ℕ). Some k) q; bytes = bytes; there = subst (λ (k : ℕ). bytes_at s.frames k ≡ Some bytes) q f }
in_frame s page frame g None None e f r = absurd (cc)
in_frame s page frame g None (Some t) e f r = absurd (cc)

home_at : (s : StoreSeen) (page : PageName) (frame : ℕ) (o : Option ℕ) → find s.names page ≡ o → residence_in o s ≡ Home frame → IsIn s page frame
home_at s page frame None e r = absurd (cc)
home_at s page frame (Some g) e r = in_frame s page frame g (bytes_at s.frames g) (row_at s.rows g).holder e refl r

pub home-is : (s : StoreSeen) (page : PageName) (frame : ℕ) → residence s page ≡ Home frame → IsIn s page frame
home-is s page frame r = home_at s page frame (find s.names page) refl r

-- the same, where the frame was found
pub is-in : (s : StoreSeen) (page : PageName) (frame g : ℕ) → residence s page ≡ Home g → find s.names page ≡ Some frame → IsIn s page frame
is-in s page frame g r e =
    let i = home-is s page g r in
    let q : g ≡ frame = let z : Some g ≡ Some frame = sym i.found ∙ e in cc in
    subst (λ (k : ℕ). IsIn s page k) q i

pub same-frame : (s : StoreSeen) (page : PageName) (frame g : ℕ) → residence s page ≡ Home g → find s.names page ≡ Some frame → g ≡ frame
same-frame s page frame g r e = let i = home-is s page g r in let z : Some g ≡ Some frame = sym i.found ∙ e in cc

-- its bytes are there, its frame has a row, and its value is these bytes
pub home-some : (s : StoreSeen) (page : PageName) (frame : ℕ) → residence s page ≡ Home frame → IsSome (bytes_at s.frames frame)
home-some s page frame r = subst (λ (b : Option (List ℕ)). IsSome b) (sym (home-is s page frame r).there) refl

pub home-row : (s : StoreSeen) (page : PageName) (frame : ℕ) → IsSoundStore s → residence s page ≡ Home frame → frame < length s.rows
home-row s page frame sound r = found-row s page frame sound (home-is s page frame r).found

pub value-home : (s : StoreSeen) (notes : Notes) (table : PlaceTable) (page : PageName) (frame : ℕ) (bytes : List ℕ) → residence s page ≡ Home frame
    → bytes_at s.frames frame ≡ Some bytes → bytes ≡ value s notes table page
value-home s notes table page frame bytes r there = rw ((home-is s page frame r).found, there) refl

some_home : (b : Option (List ℕ)) (h : Option ℕ) (frame : ℕ) → IsSome b → residence_of b h frame ≡ Home frame
some_home (Some bytes) h frame there = refl
some_home None h frame there = let z : false ≡ true = there in cc

-- a page that is absent has no frame
absent_in : (s : StoreSeen) (k : ℕ) (b : Option (List ℕ)) (h : Option ℕ) → is_none b ≡ is_some h → residence_of b h k ≡ Absent → ⊥
absent_in s k (Some bytes) h w r = cc
absent_in s k None (Some t) w r = cc
absent_in s k None None w r = let z : true ≡ false = w in cc

absent_at : (s : StoreSeen) (page : PageName) (o : Option ℕ) → IsSoundStore s → find s.names page ≡ o → residence_in o s ≡ Absent → find s.names page ≡ None
absent_at s page None sound e r = e
absent_at s page (Some k) sound e r = absurd (absent_in s k (bytes_at s.frames k) (row_at s.rows k).holder (sound.each k (found-within s page k sound e)).away r)

pub absent-is : (s : StoreSeen) (page : PageName) → IsSoundStore s → residence s page ≡ Absent → find s.names page ≡ None
absent-is s page sound r = absent_at s page (find s.names page) sound refl r

-- a page whose frame is home is there
pub residence-home : (s : StoreSeen) (page : PageName) (frame : ℕ) → AreDistinct s.names → name_at s.names frame ≡ Some page → IsSome (bytes_at s.frames frame) → residence s page ≡ Home frame
residence-home s page frame distinct h there = rw (find-some s.names page frame distinct h) (some_home (bytes_at s.frames frame) (row_at s.rows frame).holder frame there)
