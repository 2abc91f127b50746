-- What a queue's links and marks say, as frames come and go.
use Rattle.std.proofs.Common.{◌≡◌, ◌≢◌, ℕ, ◌<◌, ◌↔◌, inl, inr, Bool, true, false, Option, Some, None, List, [], ◌∷◌, ◌++◌, length, zero, suc, refl, sym, ◌∙◌}
use Rattle.std.proofs.Common.{ap, subst, arith, get_or, set, replicate, Contains}
use Rattle.std.proofs.lemmas.List.{get_or-set_same, get_or-set_other, get_or_default, length-replicate}
use Rattle.std.proofs.lemmas.List.Elements.{Contains-append_left, Contains-push, Contains-push_cases}
use Rattle.std.proofs.Math.ListN.{length-set}
use Rattle.std.proofs.lemmas.Bool.{cases_eq}
use Rattle.page_lists.specs.ListsSeen.{without_frame}
use Rattle.page_lists.specs.Ring.{follow, walk, IsSoundQueue, IsQueue, QueueSeen, queue_of}
use Rattle.page_lists.proofs.ListLemmas.{Contains-none, Contains-first, once-more, Contains-from_without_frame, Contains-without_frame, without_frame-absent, once-without_frame, once-short}
use Rattle.page_lists.proofs.ChainLemmas.{chain-appended, chain-removed, walk-chain, last-in, forth-in, back-in, chain-first}

follow_other : (end : Option ℕ) (links : List (Option ℕ)) (frame : ℕ) (to q : Option ℕ) → q ≢ Some frame → follow end (set links frame to) q ≡ follow end links q
follow_other end links frame to None ne = refl
follow_other end links frame to (Some g) ne = get_or-set_other links frame g to None (λ (e : g ≡ frame). ne (ap (λ (k : ℕ). Some k) e))

-- the ends don't matter to a step from a frame
end_other : (end other : Option ℕ) (links : List (Option ℕ)) (q : Option ℕ) → q ≢ None → follow end links q ≡ follow other links q
end_other end other links None ne = absurd (ne refl)
end_other end other links (Some g) ne = refl

-- a walk gives the frames of the ring
pub ring-walk : (first last : Option ℕ) (next previous : List (Option ℕ)) (listed : List Bool) (xs : List ℕ) → IsSoundQueue first last next previous listed xs → walk next (length next) first ≡ xs
ring-walk first last next previous listed xs ring = walk-chain first next (follow last previous) None xs (length next) ring.chain (once-short (length next) xs ring.once ring.below)

-- what is seen of a queue that holds a list
seen_as : (f g : ℕ) (a b : List ℕ) → f ≡ g → a ≡ b → ◌≡◌ {A = QueueSeen} (record { frames = f; order = a }) (record { frames = g; order = b })
seen_as f g a b e h = ap (λ (k : ℕ). record { frames = k; order = a }) e ∙ ap (λ (l : List ℕ). record { frames = g; order = l }) h

-- a queue whose links hold a list is seen as that list
pub record Holds (first last : Option ℕ) (next previous : List (Option ℕ)) (listed : List Bool) (frames : ℕ) (xs : List ℕ) : Type 0 where
  pub ring : IsSoundQueue first last next previous listed (queue_of first next).order
  pub seen : queue_of first next ≡ record { frames = frames; order = xs }
  pub queue : IsQueue (queue_of first next)

pub ring-holds : (first last : Option ℕ) (next previous : List (Option ℕ)) (listed : List Bool) (frames : ℕ) (xs : List ℕ)
    → IsSoundQueue first last next previous listed xs → length next ≡ frames → Holds first last next previous listed frames xs
ring-holds first last next previous listed frames xs ring n =
    let w = ring-walk first last next previous listed xs ring in
    record {
      ring = subst (λ (l : List ℕ). IsSoundQueue first last next previous listed l) (sym w) ring;
      seen = seen_as (length next) frames (walk next (length next) first) xs n w;
      queue = subst (λ (l : List ℕ). IsQueue (record { frames = length next; order = l })) (sym w) (record { once = ring.once; below = ring.below });
    }

walk_none : (next : List (Option ℕ)) (n : ℕ) → walk next n None ≡ []
walk_none next zero = refl
walk_none next (suc n) = refl

all_same : {X : Type 0} (n k : ℕ) (d : X) → get_or (replicate n d) k d ≡ d
all_same zero k d = refl
all_same (suc n) zero d = refl
all_same (suc n) (suc k) d = all_same n k d

-- no frame yet
pub ring-none : (next previous : List (Option ℕ)) (listed : List Bool) (frames : ℕ) → next ≡ replicate frames None → previous ≡ replicate frames None
    → listed ≡ replicate frames false → IsSoundQueue None None next previous listed []
ring-none next previous listed frames en ep el =
    let n : length next ≡ frames = ap (λ (l : List (Option ℕ)). length l) en ∙ length-replicate frames None in
    let p : length previous ≡ frames = ap (λ (l : List (Option ℕ)). length l) ep ∙ length-replicate frames None in
    let m : length listed ≡ frames = ap (λ (l : List Bool). length l) el ∙ length-replicate frames false in
    record {
      previous_length = omega arith;
      listed_length = omega arith;
      chain = (refl, refl);
      once = tt;
      below = λ f h. absurd (Contains-none f h);
      marked = λ f. ((λ h. let z : false ≡ true = sym (ap (λ (l : List Bool). get_or l f false) el ∙ all_same frames f false) ∙ h in cc), (λ h. absurd (Contains-none f h)));
    }

module _ {first last : Option ℕ} {next previous : List (Option ℕ)} {listed : List Bool} {xs : List ℕ} (ring : IsSoundQueue first last next previous listed xs) (frame : ℕ) where
  -- the links of a frame of the ring lead within it
  pub before-in : (g : ℕ) → Contains xs frame → get_or previous frame None ≡ Some g → g < length next
  before-in g h e = elim (back-in (follow first next) (follow last previous) None xs frame g ring.chain h e) [ inl z ↦ cc | inr i ↦ ring.below g i ]

  pub after-in : (g : ℕ) → Contains xs frame → get_or next frame None ≡ Some g → g < length next
  after-in g h e = ring.below g (forth-in (follow first next) (follow last previous) None xs frame g ring.chain h e)

  pub end-in : (g : ℕ) → last ≡ Some g → Contains xs g
  end-in g e = elim (last-in (follow first next) (follow last previous) None xs g ring.chain e) [ inl z ↦ cc | inr i ↦ i ]

  pub first-of : first ≡ Some frame → xs ≡ frame ∷ without_frame xs frame
  first-of e = chain-first (follow first next) (follow last previous) xs frame ring.chain ring.once e

  -- a frame comes to the end
  pub ring-appended : (first_new : Option ℕ) (next_new : List (Option ℕ)) → frame < length next → (Contains xs frame → ⊥) →
      follow first_new next_new last ≡ Some frame → ((q : Option ℕ) → q ≢ last → follow first_new next_new q ≡ follow first next q) → length next_new ≡ length next →
      IsSoundQueue first_new (Some frame) (set next_new frame None) (set previous frame last) (set listed frame true) (xs ++ frame ∷ [])
  ring-appended first_new next_new lt absent into kept lengths =
      let n : length (set next_new frame None) ≡ length next = length-set next_new frame None ∙ lengths in
      let p : length (set previous frame last) ≡ length next = length-set previous frame last ∙ ring.previous_length in
      let m : length (set listed frame true) ≡ length next = length-set listed frame true ∙ ring.listed_length in
      let in_new : frame < length next_new = omega arith in
      let in_previous : frame < length previous = let a = ring.previous_length in omega arith in
      let in_listed : frame < length listed = let a = ring.listed_length in omega arith in
      let last_not : last ≢ Some frame = λ (e : last ≡ Some frame). absent (end-in frame e) in
      record {
        previous_length = p ∙ sym n;
        listed_length = m ∙ sym n;
        chain = chain-appended (follow first next) (follow last previous) (follow first_new (set next_new frame None))
            (follow (Some frame) (set previous frame last)) None xs frame ring.chain absent (λ z. cc)
            (get_or-set_same next_new frame None None in_new)
            (follow_other first_new next_new frame None last last_not ∙ into)
            (λ q ne apart. follow_other first_new next_new frame None q apart ∙ kept q ne)
            (get_or-set_same previous frame last None in_previous)
            refl
            (λ q ne apart. follow_other (Some frame) previous frame last q apart ∙ end_other (Some frame) last previous q ne);
        once = once-more xs frame ring.once absent;
        below = λ g h. subst (λ (k : ℕ). g < k) (sym n) (elim (Contains-push_cases xs frame g h) [ inl i ↦ ring.below g i | inr e ↦ subst (λ (k : ℕ). k < length next) e lt ]);
        marked = λ g. elim (cases_eq g frame) [
          | inl e ↦ (
            (λ h. subst (λ (k : ℕ). Contains (xs ++ frame ∷ []) k) (sym e) (Contains-push xs frame)),
            (λ h. subst (λ (k : ℕ). get_or (set listed frame true) k false ≡ true) (sym e) (get_or-set_same listed frame true false in_listed)),
          )
          | inr ne ↦
              let same : get_or (set listed frame true) g false ≡ get_or listed g false = get_or-set_other listed frame g true false ne in (
                (λ h. Contains-append_left xs (frame ∷ []) g ((ring.marked g).0 (sym same ∙ h))),
                (λ h. elim (Contains-push_cases xs frame g h) [ inl i ↦ same ∙ (ring.marked g).1 i | inr e ↦ absurd (ne (sym e)) ]),
              )
        ];
      }

  -- a frame goes out
  pub ring-removed : (first_new last_new : Option ℕ) (next_new previous_new : List (Option ℕ)) → Contains xs frame →
      follow first_new next_new (get_or previous frame None) ≡ get_or next frame None → ((q : Option ℕ) → q ≢ get_or previous frame None → follow first_new next_new q ≡ follow first next q) →
      follow last_new previous_new (get_or next frame None) ≡ get_or previous frame None → ((q : Option ℕ) → q ≢ get_or next frame None → follow last_new previous_new q ≡ follow last previous q) →
      length next_new ≡ length next → length previous_new ≡ length previous →
      IsSoundQueue first_new last_new next_new previous_new (set listed frame false) (without_frame xs frame)
  ring-removed first_new last_new next_new previous_new h into kept before still n p =
      let m : length (set listed frame false) ≡ length next = length-set listed frame false ∙ ring.listed_length in
      let in_listed : frame < length listed = let a = ring.listed_length in let b = ring.below frame h in omega arith in
      record {
        previous_length = p ∙ ring.previous_length ∙ sym n;
        listed_length = m ∙ sym n;
        chain = chain-removed (follow first next) (follow last previous) (follow first_new next_new)
            (follow last_new previous_new) None xs frame ring.chain ring.once h (λ g i z. cc) into kept before still;
        once = once-without_frame xs frame ring.once;
        below = λ g i. subst (λ (k : ℕ). g < k) (sym n) (let r = Contains-from_without_frame xs frame g i in ring.below g r.0);
        marked = λ g. elim (cases_eq g frame) [
          | inl e ↦
              let off : get_or (set listed frame false) g false ≡ false = subst (λ (k : ℕ). get_or (set listed frame false) k false ≡ false) (sym e)
              (get_or-set_same listed frame false false in_listed) in
              ((λ t. let z : false ≡ true = sym off ∙ t in cc), (λ i. let r = Contains-from_without_frame xs frame g i in absurd (r.1 e)))
          | inr ne ↦
              let same : get_or (set listed frame false) g false ≡ get_or listed g false = get_or-set_other listed frame g false false ne in
              ((λ t. Contains-without_frame xs frame g ((ring.marked g).0 (sym same ∙ t)) ne), (λ i. let r = Contains-from_without_frame xs frame g i in same ∙ (ring.marked g).1 r.0))
        ];
      }

-- a frame of a queue, and the frames before and after it
pub record Linked (next previous : List (Option ℕ)) (now : QueueSeen) (frame : ℕ) (before after : Option ℕ) : Type 0 where
  pub has : Contains now.order frame
  pub before_is : before ≡ get_or previous frame None
  pub after_is : after ≡ get_or next frame None

-- a queue, as it is seen
module _ {first last : Option ℕ} {next previous : List (Option ℕ)} {listed : List Bool} {now : QueueSeen}
    (sound : IsSoundQueue first last next previous listed (queue_of first next).order) (seen : queue_of first next ≡ now) where
  frames_seen : length next ≡ now.frames
  frames_seen = ap (λ (q : QueueSeen). q.frames) seen

  ring_seen : IsSoundQueue first last next previous listed now.order
  ring_seen = subst (λ (q : QueueSeen). IsSoundQueue first last next previous listed q.order) seen sound

  pub queue-seen : IsQueue now
  queue-seen = subst (λ (q : QueueSeen). IsQueue q) seen (record { once = sound.once; below = sound.below })

  -- with a frame at its end
  pub pushed : (frame : ℕ) (first_new : Option ℕ) (next_new : List (Option ℕ)) → frame < now.frames → (Contains now.order frame → ⊥) →
      follow first_new next_new last ≡ Some frame → ((q : Option ℕ) → q ≢ last → follow first_new next_new q ≡ follow first next q) → length next_new ≡ length next →
      Holds first_new (Some frame) (set next_new frame None) (set previous frame last) (set listed frame true) now.frames (now.order ++ frame ∷ [])
  pushed frame first_new next_new lt absent into kept lengths =
      let n = frames_seen in
      ring-holds first_new (Some frame) (set next_new frame None) (set previous frame last) (set listed frame true) now.frames (now.order ++ frame ∷ [])
      (ring-appended ring_seen frame first_new next_new (omega arith) absent into kept lengths)
      (length-set next_new frame None ∙ lengths ∙ n)

  -- with a frame taken off
  pub taken_off : {frame : ℕ} {before after : Option ℕ} (first_new last_new : Option ℕ) (next_new previous_new : List (Option ℕ)) → Linked next previous now frame before after →
      follow first_new next_new before ≡ after → ((q : Option ℕ) → q ≢ before → follow first_new next_new q ≡ follow first next q) →
      follow last_new previous_new after ≡ before → ((q : Option ℕ) → q ≢ after → follow last_new previous_new q ≡ follow last previous q) →
      length next_new ≡ length next → length previous_new ≡ length previous →
      Holds first_new last_new next_new previous_new (set listed frame false) now.frames (without_frame now.order frame)
  taken_off {frame} first_new last_new next_new previous_new l into kept back still n p =
      ring-holds first_new last_new next_new previous_new (set listed frame false) now.frames (without_frame now.order frame)
      (ring-removed ring_seen frame first_new last_new next_new previous_new l.has
      (ap (λ (q : Option ℕ). follow first_new next_new q) (sym l.before_is) ∙ into ∙ l.after_is) (λ q ne. kept q (λ e. ne (e ∙ l.before_is)))
      (ap (λ (q : Option ℕ). follow last_new previous_new q) (sym l.after_is) ∙ back ∙ l.before_is) (λ q ne. still q (λ e. ne (e ∙ l.after_is)))
      n p)
      (n ∙ frames_seen)

  -- what a mark says
  pub marked : {frame : ℕ} {mark : Bool} → frame < now.frames → mark ≡ get_or listed frame mark → (mark ≡ true) ↔ Contains now.order frame
  marked {frame} {mark} lt e =
      let n = frames_seen in
      let in_listed : frame < length listed = let a = sound.listed_length in omega arith in
      let m : mark ≡ get_or listed frame false = e ∙ get_or_default listed frame mark false in_listed in
      ((λ t. (ring_seen.marked frame).0 (sym m ∙ t)), (λ h. m ∙ (ring_seen.marked frame).1 h))

  pub linked : {frame : ℕ} {mark : Bool} {before after : Option ℕ} → frame < now.frames → mark ≡ get_or listed frame mark → mark ≡ true
      → before ≡ get_or previous frame before → after ≡ get_or next frame after → Linked next previous now frame before after
  linked {frame} {mark} {before} {after} lt e t b a =
      let n = frames_seen in
      let p = sound.previous_length in
      record {
        has = (marked lt e).0 t;
        before_is = b ∙ get_or_default previous frame before None (omega arith);
        after_is = a ∙ get_or_default next frame after None (omega arith);
      }

  -- its links lead to frames
  pub before-within : {frame : ℕ} {before after : Option ℕ} → Linked next previous now frame before after → (g : ℕ) → before ≡ Some g → g < length next
  before-within {frame} l g e = before-in ring_seen frame g l.has (sym l.before_is ∙ e)

  pub after-within : {frame : ℕ} {before after : Option ℕ} → Linked next previous now frame before after → (g : ℕ) → after ≡ Some g → g < length previous
  after-within {frame} l g e = subst (λ (n : ℕ). g < n) (sym sound.previous_length) (after-in ring_seen frame g l.has (sym l.after_is ∙ e))

  -- the first frame
  pub first-ahead : (frame : ℕ) → first ≡ Some frame → now.order ≡ frame ∷ without_frame now.order frame
  first-ahead frame e = first-of ring_seen frame e

  pub first-within : (frame : ℕ) → first ≡ Some frame → frame < now.frames
  first-within frame e = queue-seen.below frame (subst (λ (l : List ℕ). Contains l frame) (sym (first-ahead frame e)) (Contains-first frame frame (without_frame now.order frame) refl))

  -- no first frame
  pub no-first : first ≡ None → now.order ≡ []
  no-first e = sym (ap (λ (q : QueueSeen). q.order) seen) ∙ ap (λ (o : Option ℕ). walk next (length next) o) e ∙ walk_none next (length next)

-- a frame that isn't there is no less
pub none-off : (now : QueueSeen) (frame : ℕ) → (Contains now.order frame → ⊥) → now ≡ record { frames = now.frames; order = without_frame now.order frame }
none-off now frame absent = seen_as now.frames now.frames now.order (without_frame now.order frame) refl (sym (without_frame-absent now.order frame absent))

pub first-off : (now new : QueueSeen) (frame f : ℕ) → now.order ≡ frame ∷ without_frame now.order frame
    → new ≡ record { frames = now.frames; order = without_frame now.order frame } → frame ≡ f → now ≡ record { frames = new.frames; order = f ∷ new.order }
first-off now new frame f ahead e q =
    seen_as now.frames new.frames now.order (f ∷ new.order) (sym (ap (λ (x : QueueSeen). x.frames) e))
    (ahead ∙ ap (λ (k : ℕ). k ∷ without_frame now.order frame) q ∙ ap (λ (l : List ℕ). f ∷ l) (sym (ap (λ (x : QueueSeen). x.order) e)))
