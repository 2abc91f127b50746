-- The pages that a core keeps, where they lie, and what is seen of them; with the names that the answers cite.
use Rattle.std.proofs.Math.Seq.{take-append_seam}
use Rattle.std.proofs.lemmas.List.{map-append, replicate-append-replicate, drop_at}
use denote.RawPtr.{block_ptr, null_ptr}
use Rattle.core_arena.specs.Ownership.{VecBytes}
pub use Rattle.std.proofs.Common.{◌≡◌, ℕ, ◌+◌, ◌-◌, ◌*◌, ◌^◌, ◌<◌, List, Option, Some, None, zero, suc, false, true}
pub use Rattle.std.proofs.Common.{[], ◌∷◌, ◌++◌, arith, sym, ◌∙◌, ap, subst, refl, slice_index_or, slice_set, length}
pub use Rattle.std.proofs.Common.{replicate, IsSome, is_some, length-append, length-set, take, drop}
pub use Rattle.std.proofs.lemmas.List.{length-replicate, length-map, map-set}
pub use Rattle.std.specs.Option.{option_map}
pub use denote.RawPtr.{Ptr, InBlock, ◌+ₚ◌}
pub use Rattle.core_arena.specs.Bytes.{bytes_at, zeros, all_bytes, slice_after_write}
pub use Rattle.core_arena.specs.Origin.{origin_of}
pub use Rattle.core_arena.specs.Pages.{pages_seen, IsSoundCore}
pub use Rattle.core_arena.specs.Rows.{IsPageAt, AreInPlace, InRow, row_bytes}
pub use Rattle.core_arena.specs.Seen.{CoreSeen, FrameSeen}
pub use Rattle.core_arena.specs.declared.region.Stretch.{Stretch}

abbrev Place : Type 0
Place = Option Stretch

abbrev pub bytes_of : Place → Option (List ℕ)
bytes_of = option_map (λ (page : Stretch). page.bytes)

-- addresses
pub placed-on : (p : Ptr) (n : ℕ) → InBlock p → InBlock (p +ₚ n)
placed-on (block_ptr b o) n h = h
placed-on null_ptr n h = h

pub moved-none : (p : Ptr) → p +ₚ 0 * 4096 ≡ p
moved-none (block_ptr b o) = let e : o + 0 * 4096 ≡ o = omega arith in ap (λ (k : ℕ). block_ptr b k) e
moved-none null_ptr = refl

pub moved-twice : (p : Ptr) (n m k : ℕ) → n + m ≡ k → (p +ₚ n) +ₚ m ≡ p +ₚ k
moved-twice (block_ptr b o) n m k e = let f : o + n + m ≡ o + k = omega (arith, e) in ap (λ (i : ℕ). block_ptr b i) f
moved-twice null_ptr n m k e = refl

moved-on : (p : Ptr) (i : ℕ) → (p +ₚ 4096) +ₚ i * 4096 ≡ p +ₚ suc i * 4096
moved-on p i = moved-twice p 4096 (i * 4096) (suc i * 4096) (omega arith)

-- a frame that is home has a place, and its page lies there
found : (p : Ptr) (pages : List Place) (i : ℕ) (page : Stretch) (d : Place) → AreInPlace p pages → IsSome (bytes_at (pages_seen pages) i) → slice_index_or pages i d ≡ Some page
    → (i < length pages) × IsPageAt (p +ₚ i * 4096) (Some page) × (bytes_at (pages_seen pages) i ≡ Some page.bytes)
found p [] i page d are home e = let z : false ≡ true = home in absurd (cc)
found p (x ∷ more) zero page d are home e = (omega arith, subst (λ (q : Ptr). IsPageAt q (Some page)) (sym (moved-none p)) (subst (IsPageAt p) e are.0), ap bytes_of e)
found p (x ∷ more) (suc i) page d are home e =
    let r = found (p +ₚ 4096) more i page d are.1 home e in
    (let lt = r.0 in omega (arith, lt), subst (λ (q : Ptr). IsPageAt q (Some page)) (moved-on p i) r.1, r.2)

-- one more page of zeros
pub zeros-more : (pages : List Place) (n : ℕ) (page : Stretch) → pages_seen pages ≡ replicate n (Some zeros) → page.bytes ≡ zeros
    → pages_seen (pages ++ Some page ∷ []) ≡ replicate (n + 1) (Some zeros)
zeros-more pages n page so_far zero_page =
    map-append bytes_of pages (Some page ∷ [])
    ∙ ap (λ (seen : List (Option (List ℕ))). seen ++ Some page.bytes ∷ []) so_far
    ∙ ap (λ (bytes : List ℕ). replicate n (Some zeros) ++ Some bytes ∷ []) zero_page
    ∙ replicate-append-replicate n 1 (Some zeros)

-- pages in their places: one changed, added at the end, taken off there
pub in_place-set : (p : Ptr) (pages : List Place) (i : ℕ) (place : Place) → AreInPlace p pages → IsPageAt (p +ₚ i * 4096) place → AreInPlace p (slice_set pages i place)
in_place-set p [] i place are at = tt
in_place-set p (x ∷ more) zero place are at = (subst (λ (q : Ptr). IsPageAt q place) (moved-none p) at, are.1)
in_place-set p (x ∷ more) (suc i) place are at = (are.0, in_place-set (p +ₚ 4096) more i place are.1 (subst (λ (q : Ptr). IsPageAt q place) (sym (moved-on p i)) at))

pub in_place-push : (p : Ptr) (pages : List Place) (place : Place) → AreInPlace p pages → IsPageAt (p +ₚ length pages * 4096) place → AreInPlace p (pages ++ place ∷ [])
in_place-push p [] place are at = (subst (λ (q : Ptr). IsPageAt q place) (moved-none p) at, tt)
in_place-push p (x ∷ more) place are at = (are.0, in_place-push (p +ₚ 4096) more place are.1 (subst (λ (q : Ptr). IsPageAt q place) (sym (moved-on p (length more))) at))

pub in_place-pop : (p : Ptr) (pages : List Place) (place : Place) → AreInPlace p (pages ++ place ∷ []) → AreInPlace p pages × IsPageAt (p +ₚ length pages * 4096) place
in_place-pop p [] place are = (tt, subst (λ (q : Ptr). IsPageAt q place) (sym (moved-none p)) are.0)
in_place-pop p (x ∷ more) place are =
    let rest = in_place-pop (p +ₚ 4096) more place are.1 in
    ((are.0, rest.0), subst (λ (q : Ptr). IsPageAt q place) (moved-on p (length more)) rest.1)

-- all pages are there
still-none : (page : List ℕ) (rest : Option (List ℕ)) → is_some rest ≡ false → is_some (option_map (λ (l : List ℕ). page ++ l) rest) ≡ false
still-none page None h = refl
still-none page (Some l) h = h

rest-home : (page : List ℕ) (rest : Option (List ℕ)) → IsSome (option_map (λ (l : List ℕ). page ++ l) rest) → IsSome rest
rest-home page None h = h
rest-home page (Some l) h = refl

pub all-home : (p : Ptr) (pages : List Place) → AreInPlace p pages → IsSome (all_bytes (pages_seen pages))
    → InRow p pages × (all_bytes (pages_seen pages) ≡ Some (row_bytes pages)) × (length (row_bytes pages) ≡ length pages * 4096)
all-home p [] are home = (tt, refl, refl)
all-home p (None ∷ more) are home = let z : false ≡ true = home in absurd (cc)
all-home p (Some page ∷ more) are home =
    let rest = all-home (p +ₚ 4096) more are.1 (rest-home page.bytes (all_bytes (pages_seen more)) home) in
    let size = rest.2 in
    ((are.0.0, are.0.1, rest.0), ap (option_map (λ (l : List ℕ). page.bytes ++ l)) rest.1, omega (arith, length-append page.bytes (row_bytes more), are.0.1, size))

pub all-there : (pages : List Place) → ((i : ℕ) → i < length pages → is_some (slice_index_or pages i None) ≡ true) → all_bytes (pages_seen pages) ≡ Some (row_bytes pages)
all-there [] home = refl
all-there (None ∷ more) home = let z : false ≡ true = home 0 (omega arith) in absurd (cc)
all-there (Some page ∷ more) home = ap (option_map (λ (l : List ℕ). page.bytes ++ l)) (all-there more (λ i lt. home (suc i) (omega arith)))

-- one page isn't there
pub none-away : (pages : List Place) (i : ℕ) → i < length pages → is_some (slice_index_or pages i None) ≡ false → is_some (all_bytes (pages_seen pages)) ≡ false
none-away [] i lt e = absurd (omega arith)
none-away (None ∷ more) i lt e = refl
none-away (Some page ∷ more) zero lt e = let z : true ≡ false = e in absurd (cc)
none-away (Some page ∷ more) (suc i) lt e = still-none page.bytes (all_bytes (pages_seen more)) (none-away more i (omega arith) e)

-- a core's page that is home
pub record IsHomePage (base : Ptr) (frames : ℕ) (pages : List Place) (i : ℕ) (page : Stretch) : Type 0 where
  pub within : i < frames
  pub at : page.at ≡ base +ₚ i * 4096
  pub size : length page.bytes ≡ 4096
  pub placed : InBlock base
  pub seen : bytes_at (pages_seen pages) i ≡ Some page.bytes

pub home-page : (base : Ptr) (frames : ℕ) (pages : List Place) (rest : Option VecBytes) (i : ℕ) (page : Stretch) (d : Place)
    → IsSoundCore base frames pages rest → IsSome (bytes_at (pages_seen pages) i) → slice_index_or pages i d ≡ Some page → IsHomePage base frames pages i page
home-page base frames pages rest i page d sound home is =
    let f = found base pages i page d sound.in_place home is in
    let within : i < frames = subst (λ (n : ℕ). i < n) sound.places f.0 in
    record { within = within; at = f.1.0; size = f.1.1; placed = sound.placed (omega (arith, within)); seen = f.2 }

-- a core with a place changed
pub sound-set : (base : Ptr) (frames : ℕ) (pages : List Place) (rest : Option VecBytes) (i : ℕ) (place : Place)
    → IsSoundCore base frames pages rest → IsPageAt (base +ₚ i * 4096) place → IsSoundCore base frames (slice_set pages i place) rest
sound-set base frames pages rest i place sound at = record {
  places = length-set pages i place ∙ sound.places;
  in_place = in_place-set base pages i place sound.in_place at;
  placed = sound.placed;
  shell = sound.shell;
}

-- what is seen once the bytes of a page were lent and written
pub seen-overwritten : (pages : List Place) (i : ℕ) (page : Stretch) (w : List ℕ) → bytes_at (pages_seen pages) i ≡ Some page.bytes
    → pages_seen (slice_set pages i (Some (record { at = page.at; bytes = slice_after_write page.bytes w }))) ≡ slice_set (pages_seen pages) i
    (option_map (λ (bytes : List ℕ). slice_after_write bytes w) (bytes_at (pages_seen pages) i))
seen-overwritten pages i page w at =
    map-set bytes_of pages i (Some (record { at = page.at; bytes = slice_after_write page.bytes w }))
    ∙ ap (λ (o : Option (List ℕ)). slice_set (pages_seen pages) i (option_map (λ (bytes : List ℕ). slice_after_write bytes w) o)) (sym at)

-- the last page is taken off
pub record IsTakenOff (p : Ptr) (old new : List Place) (page : Stretch) : Type 0 where
  pub rest : AreInPlace p new
  pub at : page.at ≡ p +ₚ length new * 4096
  pub size : length page.bytes ≡ 4096
  pub many : length old ≡ length new + 1
  pub behind : p +ₚ length old * 4096 ≡ page.at +ₚ length page.bytes

pub taken-off : (p : Ptr) (old new : List Place) (place : Place) (page : Stretch) → AreInPlace p old → old ≡ new ++ place ∷ [] → place ≡ Some page → IsTakenOff p old new page
taken-off p old new place page are items is =
    let parts = in_place-pop p new place (subst (AreInPlace p) items are) in
    let here = subst (IsPageAt (p +ₚ length new * 4096)) is parts.1 in
    let many : length old ≡ length new + 1 = ap length items ∙ length-append new (place ∷ []) in
    record {
      rest = parts.0;
      at = here.0;
      size = here.1;
      many = many;
      behind =
          sym (moved-twice p (length new * 4096) 4096 (length old * 4096) (omega (arith, many)))
          ∙ ap (λ (q : Ptr). q +ₚ 4096) (sym here.0) ∙ ap (λ (n : ℕ). page.at +ₚ n) (sym here.1);
    }

-- a page of zeros is cut off
pub zeros-cut : (k frames : ℕ) (bytes : List ℕ) → k < frames → bytes ≡ replicate ((frames - k) * 4096) 0
    → (take 4096 bytes ≡ zeros) × (drop 4096 bytes ≡ replicate ((frames - (k + 1)) * 4096) 0)
zeros-cut k frames bytes lt e =
    let left = (frames - (k + 1)) * 4096 in
    let count : (frames - k) * 4096 ≡ 4096 + left = omega arith in
    let both : bytes ≡ zeros ++ replicate left 0 = e ∙ ap (λ (n : ℕ). replicate n 0) count ∙ sym (replicate-append-replicate {A = ℕ} 4096 left 0) in
    let size : length zeros ≡ 4096 = length-replicate {A = ℕ} 4096 0 in (
      ap (take 4096) both ∙ ap (λ (n : ℕ). take n (zeros ++ replicate left 0)) (sym size) ∙ take-append_seam zeros (replicate left 0),
      ap (drop 4096) both ∙ drop_at zeros (replicate left 0) 4096 size,
    )
