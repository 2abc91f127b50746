-- Two queues without a common frame.
use Rattle.std.proofs.Common.{◌≡◌, ℕ, ◌+◌, ◌<◌, inl, inr, List, [], ◌∷◌, ◌++◌, suc, refl, sym, ◌∙◌, ap, subst, arith, Contains}
use Rattle.std.specs.List.{range_with_len}
use Rattle.std.proofs.lemmas.List.Elements.{Contains-push_cases}
use Rattle.page_lists.specs.ListsSeen.{ListsSeen, IsListed, without_frame}
use Rattle.page_lists.specs.Lists.{lists_of, AreSoundLists}
use Rattle.page_lists.specs.Ring.{QueueSeen, IsQueue}
use Rattle.page_lists.proofs.ListLemmas.{Contains-none, Contains-rest, Contains-from_without_frame, without_frame-absent, Contains-from_range, once-range, range-more}

sound_lists : {free cached : QueueSeen} → IsQueue free → IsQueue cached → cached.frames ≡ free.frames → ((g : ℕ) → Contains free.order g → ¬ Contains cached.order g) → AreSoundLists free cached
sound_lists f c same one = record {
  free = f;
  cached = c;
  frames = same;
  apart = record { once_free = f.once; once_cached = c.once; one_list = one; below_free = f.below; below_cached = λ g h. subst (λ (n : ℕ). g < n) same (c.below g h) };
}

-- a frame of neither queue comes to one
pub lists-freed : {free cached new : QueueSeen} {now : ListsSeen} {frame : ℕ} → AreSoundLists free cached → lists_of free cached ≡ now → ¬ IsListed now frame
    → new ≡ record { frames = free.frames; order = free.order ++ frame ∷ [] } → IsQueue new → AreSoundLists new cached
lists-freed {free} {cached} {frame = frame} l seen absent e q = sound_lists q l.cached (l.frames ∙ sym (ap (λ (x : QueueSeen). x.frames) e))
    (λ g h i. elim (Contains-push_cases free.order frame g (subst (λ (x : QueueSeen). Contains x.order g) e h)) [
      | inl a ↦ l.apart.one_list g a i
      | inr b ↦ absent (inr (subst (λ (s : ListsSeen). Contains s.cached frame) seen (subst (λ (k : ℕ). Contains cached.order k) (sym b) i)))
    ])

pub lists-cached : {free cached new : QueueSeen} {now : ListsSeen} {frame : ℕ} → AreSoundLists free cached → lists_of free cached ≡ now → ¬ IsListed now frame
    → new ≡ record { frames = cached.frames; order = cached.order ++ frame ∷ [] } → IsQueue new → AreSoundLists free new
lists-cached {free} {cached} {frame = frame} l seen absent e q = sound_lists l.free q (ap (λ (x : QueueSeen). x.frames) e ∙ l.frames)
    (λ g h i. elim (Contains-push_cases cached.order frame g (subst (λ (x : QueueSeen). Contains x.order g) e i)) [
      | inl a ↦ l.apart.one_list g h a
      | inr b ↦ absent (inl (subst (λ (s : ListsSeen). Contains s.free frame) seen (subst (λ (k : ℕ). Contains free.order k) (sym b) h)))
    ])

-- a frame goes from one
pub lists-reclaimed : {free cached new : QueueSeen} (frame : ℕ) → AreSoundLists free cached
    → new ≡ record { frames = cached.frames; order = without_frame cached.order frame } → IsQueue new → AreSoundLists free new
lists-reclaimed {cached = cached} frame l e q = sound_lists l.free q (ap (λ (x : QueueSeen). x.frames) e ∙ l.frames)
    (λ g h i. l.apart.one_list g h (Contains-from_without_frame cached.order frame g (subst (λ (x : QueueSeen). Contains x.order g) e i)).0)

pub lists-free_taken : {free cached new : QueueSeen} {frame : ℕ} → AreSoundLists free cached → free ≡ record { frames = new.frames; order = frame ∷ new.order } → IsQueue new → AreSoundLists new cached
lists-free_taken {new = new} {frame} l e q = sound_lists q l.cached (l.frames ∙ ap (λ (x : QueueSeen). x.frames) e)
    (λ g h i. l.apart.one_list g (subst (λ (x : QueueSeen). Contains x.order g) (sym e) (Contains-rest frame g new.order h)) i)

-- with no free frame
pub lists-cached_taken : {free cached same new : QueueSeen} {frame : ℕ} → AreSoundLists free cached → same ≡ free
    → cached ≡ record { frames = new.frames; order = frame ∷ new.order } → IsQueue new → AreSoundLists same new
lists-cached_taken {new = new} {frame} l still e q = subst (λ (x : QueueSeen). AreSoundLists x new) (sym still) (sound_lists l.free q (sym (ap (λ (x : QueueSeen). x.frames) e) ∙ l.frames)
    (λ g h i. l.apart.one_list g h (subst (λ (x : QueueSeen). Contains x.order g) (sym e) (Contains-rest frame g new.order i))))

-- all free
pub lists-new : (free cached : QueueSeen) (frames : ℕ) → free ≡ record { frames = frames; order = range_with_len 0 frames }
    → cached ≡ record { frames = frames; order = [] } → AreSoundLists free cached
lists-new free cached frames ef ec =
    subst (λ (x : QueueSeen). AreSoundLists x cached) (sym ef) (subst (λ (x : QueueSeen). AreSoundLists (record { frames = frames; order = range_with_len 0 frames }) x) (sym ec)
    (sound_lists (record { once = once-range 0 frames; below = λ g h. let r = Contains-from_range 0 frames g h in let u : g < 0 + frames = r.1 in omega arith })
    (record { once = tt; below = λ g h. absurd (Contains-none g h) }) refl (λ g h i. Contains-none g i)))

-- a frame that isn't cached is not taken off
pub none-reclaimed : {free cached new : QueueSeen} {now : ListsSeen} {frame : ℕ} → lists_of free cached ≡ now
    → new ≡ record { frames = cached.frames; order = without_frame cached.order frame } → (Contains now.cached frame → ⊥) → lists_of free new ≡ now
none-reclaimed {free} {cached} {new} {now} {frame} seen e absent =
    let o : new.order ≡ cached.order = ap (λ (x : QueueSeen). x.order) e
    ∙ without_frame-absent cached.order frame (λ h. absent (subst (λ (l : List ℕ). Contains l frame) (ap (λ (s : ListsSeen). s.cached) seen) h)) in
    ap (λ (l : List ℕ). record { frames = free.frames; free = free.order; cached = l }) o ∙ seen

-- the frames from 0 to one, as a queue
pub range-ends : (free : QueueSeen) (frames frame : ℕ) → free ≡ record { frames = frames; order = range_with_len 0 frame } → Contains free.order frame → ⊥
range-ends free frames frame e h =
    let r = Contains-from_range 0 frame frame (subst (λ (l : List ℕ). Contains l frame) (ap (λ (q : QueueSeen). q.order) e) h) in
    let u : frame < 0 + frame = r.1 in
    omega arith

range_grows : (n : ℕ) → range_with_len 0 (n + 1) ≡ range_with_len 0 n ++ n ∷ []
range_grows n =
    let one : n + 1 ≡ suc n = omega arith in
    let same : 0 + n ≡ n = omega arith in
    ap (λ (k : ℕ). range_with_len 0 k) one ∙ range-more 0 n ∙ ap (λ (k : ℕ). range_with_len 0 n ++ k ∷ []) same

pub range-pushed : (free new : QueueSeen) (frames frame : ℕ) → free ≡ record { frames = frames; order = range_with_len 0 frame }
    → new ≡ record { frames = free.frames; order = free.order ++ frame ∷ [] } → new ≡ record { frames = frames; order = range_with_len 0 (frame + 1) }
range-pushed free new frames frame e p =
    let grown : range_with_len 0 (frame + 1) ≡ range_with_len 0 frame ++ frame ∷ [] = range_grows frame in
    p ∙ ap (λ (q : QueueSeen). record { frames = q.frames; order = q.order ++ frame ∷ [] }) e ∙ ap (λ (l : List ℕ). record { frames = frames; order = l }) (sym grown)
