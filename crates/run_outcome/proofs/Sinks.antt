-- What a sink took, one piece after another.
use Rattle.std.proofs.Common.{◌≡◌, ℕ, ◌≤◌, List, [], ◌++◌, length, take, sym, ap, ◌∙◌, arith, inl, inr}
use Rattle.std.proofs.lemmas.List.{take_all, take-append-le}
use Rattle.volume_files.specs.block_device.StreamSeen.{SinkSeen, text_with_more}
use Rattle.volume_files.specs.stored_files.Texts.{Wrote, WroteAndFront, WroteAndPart, WroteFront, WroteOn, WrotePart}
use Rattle.volume_files.proofs.stored_files.WrittenTexts.{risen_since, wrote_then}

-- a text behind another
pub front_behind : (k0 k1 k2 : SinkSeen) (a b : List ℕ) → Wrote k0 k1 a → WroteFront k1 k2 b → WroteAndFront k0 k2 a b
front_behind k0 k1 k2 a b first second = (second.0, wrote_then k0 k1 k2 a (take second.0 b) first second.1)

pub part_behind : (k0 k1 k2 : SinkSeen) (a b : List ℕ) → Wrote k0 k1 a → WrotePart k1 k2 b → WroteAndPart k0 k2 a b
part_behind k0 k1 k2 a b first second = (second.0, second.1, wrote_then k0 k1 k2 a (take second.0 b) first second.2)

-- a text that goes on
pub goes_on : (k0 k1 : SinkSeen) (a b c : List ℕ) → Wrote k0 k1 (a ++ b) → WroteAndFront k0 k1 a (b ++ c)
goes_on k0 k1 a b c wrote = (
  length b,
  wrote ∙ ap (λ (t : List ℕ). text_with_more k0.written (a ++ t)) (sym (take-append-le (length b) b c (omega arith) ∙ take_all (length b) b (omega arith))),
)

pub on_behind : (k0 k1 k2 : SinkSeen) (a b : List ℕ) → k0.faults ≤ k1.faults → Wrote k0 k1 a → WroteOn k1 k2 [] b → WroteOn k0 k2 a b
on_behind k0 k1 k2 a b later first taken = elim taken [
  | inl all ↦ inl (wrote_then k0 k1 k2 a b first all)
  | inr part ↦ inr (risen_since k0.faults k1.faults k2.faults later part.0, front_behind k0 k1 k2 a b first part.1)
]

-- nothing more was written
pub still_front : (k0 k1 k2 : SinkSeen) (a b : List ℕ) → WroteAndFront k0 k1 a b → k2.written ≡ k1.written → WroteAndFront k0 k2 a b
still_front k0 k1 k2 a b front same = (front.0, same ∙ front.1)

pub still_part : (k0 k1 k2 : SinkSeen) (a b : List ℕ) → WroteAndPart k0 k1 a b → k2.written ≡ k1.written → WroteAndPart k0 k2 a b
still_part k0 k1 k2 a b part same = (part.0, part.1, same ∙ part.2)

pub still_wrote : (k0 k1 k2 : SinkSeen) (a : List ℕ) → Wrote k0 k1 a → k2.written ≡ k1.written → Wrote k0 k2 a
still_wrote k0 k1 k2 a wrote same = same ∙ wrote
