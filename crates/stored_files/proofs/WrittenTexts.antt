-- What a sink took, one text after another.
use Rattle.block_device.proofs.StreamLemmas.{text_with_more-text_with_more as appended_more}
use Rattle.std.proofs.Common.{◌≡◌, ℕ, ◌+◌, ◌≤◌, List, [], ◌++◌, length, take, refl, sym, ap, ◌∙◌, arith, inl, inr}
use Rattle.std.specs.Prelude.{Option, Some, None}
use Rattle.std.proofs.Math.Seq.{take-append-add}
use Rattle.std.proofs.lemmas.Bool.{cases_lt}
use Rattle.std.proofs.lemmas.List.{take_all, take-append-le, length-append, append-nil}
use Rattle.block_device.specs.Counts.{HasRisen}
use Rattle.block_device.specs.StreamSeen.{SinkSeen, text_with_more}
use Rattle.stored_files.specs.Texts.{Wrote, WroteFront, WrotePart}

pub appended_nothing : (o : Option (List ℕ)) → o ≡ text_with_more o []
appended_nothing None = refl
appended_nothing (Some w) = ap (λ (x : List ℕ). Some x) (sym (append-nil w))

-- the sink is as it was
pub wrote_nothing : (k : SinkSeen) → Wrote k k []
wrote_nothing k = appended_nothing k.written

-- a text behind another
pub wrote_then : (k0 k1 k2 : SinkSeen) (a b : List ℕ) → Wrote k0 k1 a → Wrote k1 k2 b → Wrote k0 k2 (a ++ b)
wrote_then k0 k1 k2 a b first second = second ∙ ap (λ (o : Option (List ℕ)). text_with_more o b) first ∙ appended_more k0.written a b

pub front_then : (k0 k1 k2 : SinkSeen) (a b : List ℕ) → Wrote k0 k1 a → WroteFront k1 k2 b → WroteFront k0 k2 (a ++ b)
front_then k0 k1 k2 a b first second = (length a + second.0, wrote_then k0 k1 k2 a (take second.0 b) first second.1 ∙ ap (text_with_more k0.written) (sym (take-append-add a b second.0)))

pub part_then : (k0 k1 k2 : SinkSeen) (a b : List ℕ) → Wrote k0 k1 a → WrotePart k1 k2 b → WrotePart k0 k2 (a ++ b)
part_then k0 k1 k2 a b first second =
    (length a + second.0, omega (arith, second.1, length-append a b), wrote_then k0 k1 k2 a (take second.0 b) first second.2 ∙ ap (text_with_more k0.written) (sym (take-append-add a b second.0)))

-- a front of a text is one of a longer text
pub front_more : (k0 k1 : SinkSeen) (a b : List ℕ) → WroteFront k0 k1 a → WroteFront k0 k1 (a ++ b)
front_more k0 k1 a b front = elim (cases_lt front.0 (length a)) [
  | inl inside ↦ (front.0, front.1 ∙ ap (text_with_more k0.written) (sym (take-append-le front.0 a b (omega (arith, inside)))))
  | inr past ↦ (length a, front.1 ∙ ap (text_with_more k0.written) (take_all front.0 a past ∙ sym (take_all (length a) a (omega arith)) ∙ sym (take-append-le (length a) a b (omega arith))))
]

pub part_more : (k0 k1 : SinkSeen) (a b : List ℕ) → WrotePart k0 k1 a → WrotePart k0 k1 (a ++ b)
part_more k0 k1 a b part = (part.0, omega (arith, part.1, length-append a b), part.2 ∙ ap (text_with_more k0.written) (sym (take-append-le part.0 a b (omega (arith, part.1)))))

pub wrote_front : (k0 k1 : SinkSeen) (a : List ℕ) → Wrote k0 k1 a → WroteFront k0 k1 a
wrote_front k0 k1 a wrote = (length a, wrote ∙ ap (text_with_more k0.written) (sym (take_all (length a) a (omega arith))))

pub nothing_front : (k : SinkSeen) (a : List ℕ) → WroteFront k k a
nothing_front k a = front_more k k [] a (wrote_front k k [] (wrote_nothing k))

pub risen_since : (a b c : ℕ) → a ≤ b → HasRisen b c → HasRisen a c
risen_since a b c le risen = omega (arith, le, risen)
