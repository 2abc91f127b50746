-- A file stays sound, and beside its page ends, as it takes a block or is cut back.
use Rattle.std.specs.Prelude.{ℕ, zero, suc, ◌≡◌, ◌<◌, ◌≤◌, ◌+◌, ◌-◌, ◌^◌, true, List, [], ◌∷◌, ◌++◌, length, take, replicate, slice_index_or, slice_set, Option, Some, None, All, IsSomeAnd}
use Rattle.std.specs.List.{last_or}
use Rattle.std.proofs.Common.{ap, ◌∙◌, sym, arith, refl, subst, length-append, zero-add}
use Rattle.std.proofs.lemmas.List.Elements.{All-cons, All-head, All-tail, All-push}
use Rattle.vnode_files.specs.declared.extent.Extent.{Extent}
use Rattle.vnode_files.specs.Grow.{extent_end, page_count, with_longer_last}
use Rattle.vnode_files.specs.Vnode.{VnodeSeen, IsSoundVnode, with_extents}
use Rattle.vnode_files.specs.declared.vnode.Savepoint.{Savepoint}
use Rattle.vnode_files.specs.Room.{HasPageEnds, page_ends, cut_extents, cut_vnode}
use Rattle.vnode_files.proofs.ExtentLemmas.{longer, page_count-longer, page_count-append, page_count-cons, page_ends-longer, page_ends-append, page_ends-cut}

pub All-longer : (P : Extent → Type 0) (xs : List Extent) → All P xs → ((e : Extent) → last_or None xs ≡ Some e → P (longer e)) → All P (with_longer_last xs)
All-longer P [] all h = all
All-longer P (e ∷ []) all h = All-cons P (longer e) [] (h e refl) (λ k d lt. absurd (omega arith))
All-longer P (e ∷ f ∷ es) all h = All-cons P e (with_longer_last (f ∷ es)) (All-head P e (f ∷ es) all) (All-longer P (f ∷ es) (All-tail P e (f ∷ es) all) h)

-- one page more, and it is blank
abbrev pub with_page : VnodeSeen → List Extent → VnodeSeen
with_page v extents = record { info = record v.info { extents = extents }; blanks = v.blanks ++ true ∷ [] }

pub with_extents-page : (v : VnodeSeen) (extents : List Extent) → page_count extents ≡ page_count v.info.extents + 1 → with_extents v extents ≡ with_page v extents
with_extents-page v extents h =
    let one : page_count extents - page_count v.info.extents ≡ 1 = omega arith in
    ap (λ n. let w : VnodeSeen = record { info = record v.info { extents = extents }; blanks = v.blanks ++ replicate n true } in w) one

sound-page : (v : VnodeSeen) (extents : List Extent) → IsSoundVnode v → page_count extents ≡ page_count v.info.extents + 1 → page_count v.info.extents + 1 < 2 ^ 32
    → All (λ e. extent_end e ≤ 2 ^ 32) extents → IsSoundVnode (with_page v extents)
sound-page v extents h more few blocks = record {
  bits = length-append v.blanks (true ∷ []) ∙ omega (arith, h.bits);
  pages = omega arith;
  blocks = blocks;
  within = omega (arith, h.within);
}

pub HasPageEnds-longer : (v : VnodeSeen) (ends : List ℕ) (capacity k : ℕ) → HasPageEnds v ends capacity → suc k ≡ length v.info.extents
    → IsSomeAnd (last_or None v.info.extents) (λ e. extent_end e < 2 ^ 32) → page_count v.info.extents + 1 < 2 ^ 32
    → HasPageEnds (with_page v (with_longer_last v.info.extents)) (slice_set ends k (slice_index_or ends k 0 + 1)) capacity
HasPageEnds-longer v ends capacity k h at last few =
    let xs = v.info.extents in
    let more : page_count (with_longer_last xs) ≡ page_count xs + 1 = page_count-longer xs (omega arith) in
    let grows : (e : Extent) → last_or None xs ≡ Some e → extent_end (longer e) ≤ 2 ^ 32 =
    λ e is. let low : extent_end e < 2 ^ 32 = subst (λ (o : Option Extent). IsSomeAnd o (λ e. extent_end e < 2 ^ 32)) is last in omega arith in
    record {
      sound = sound-page v (with_longer_last xs) h.sound more few (All-longer (λ e. extent_end e ≤ 2 ^ 32) xs h.sound.blocks grows);
      indexed = ap (λ (ns : List ℕ). slice_set ns k (slice_index_or ns k 0 + 1)) h.indexed ∙ page_ends-longer 0 xs k at;
      room = h.room;
    }

pub HasPageEnds-pushed : (v : VnodeSeen) (ends : List ℕ) (capacity block : ℕ) → HasPageEnds v ends capacity → block < 2 ^ 32 → page_count v.info.extents + 1 < 2 ^ 32
    → HasPageEnds (with_page v (v.info.extents ++ record { start = block; pages = 1 } ∷ [])) (ends ++ (page_count v.info.extents + 1) ∷ []) capacity
HasPageEnds-pushed v ends capacity block h low few =
    let xs = v.info.extents in
    let e : Extent = record { start = block; pages = 1 } in
    let more : page_count (xs ++ e ∷ []) ≡ page_count xs + 1 = page_count-append xs (e ∷ []) ∙ omega (arith, page_count-cons e []) in
    let one : page_ends 0 xs ++ (page_count xs + 1) ∷ [] ≡ page_ends 0 xs ++ page_ends (0 + page_count xs) (e ∷ []) =
    ap (λ n. page_ends 0 xs ++ (n + 1) ∷ []) (sym (zero-add (page_count xs))) in
    record {
      sound = sound-page v (xs ++ e ∷ []) h.sound more few (All-push (λ e. extent_end e ≤ 2 ^ 32) xs e h.sound.blocks (omega arith));
      indexed = ap (λ (ns : List ℕ). ns ++ (page_count xs + 1) ∷ []) h.indexed ∙ one ∙ sym (page_ends-append 0 xs (e ∷ []));
      room = h.room;
    }

pub some_last : (xs : List Extent) (P : Extent → Type 0) → IsSomeAnd (last_or None xs) P → 0 < length xs
some_last [] P h = absurd h
some_last (e ∷ es) P h = omega arith

cut_page_ends : (xs : List Extent) (n last pages : ℕ) → n ≤ length xs → pages ≡ page_count (cut_extents xs n last)
    → slice_set (take n (page_ends 0 xs)) (n - 1) pages ≡ page_ends 0 (cut_extents xs n last)
cut_page_ends xs zero last pages h e = refl
cut_page_ends xs (suc k) last pages h e =
    let none : Extent = record { start = 0; pages = 0 } in
    let P : ℕ → Type 0 = λ j. pages ≡ page_count (slice_set (take (suc k) xs) j (record (slice_index_or xs j none) { pages = last })) in
    let Q : ℕ → Type 0 = λ j. slice_set (take (suc k) (page_ends 0 xs)) j pages ≡ page_ends 0 (slice_set (take (suc k) xs) j (record (slice_index_or xs j none) { pages = last })) in
    let same : suc k - 1 ≡ k = omega arith in
    subst Q (sym same) (page_ends-cut 0 xs k last pages none (omega arith)
    (subst P same e ∙ sym (zero-add (page_count (slice_set (take (suc k) xs) k (record (slice_index_or xs k none) { pages = last }))))))

pub HasPageEnds-cut : (v : VnodeSeen) (ends : List ℕ) (capacity : ℕ) (to : Savepoint) → HasPageEnds v ends capacity → to.extents ≤ length v.info.extents
    → to.pages ≡ page_count (cut_vnode v to).info.extents → IsSoundVnode (cut_vnode v to)
    → HasPageEnds (cut_vnode v to) (slice_set (take to.extents ends) (to.extents - 1) to.pages) capacity
HasPageEnds-cut v ends capacity to h within pages sound = record {
  sound = sound;
  indexed = ap (λ (ns : List ℕ). slice_set (take to.extents ns) (to.extents - 1) to.pages) h.indexed ∙ cut_page_ends v.info.extents to.extents to.last to.pages within pages;
  room = h.room;
}
