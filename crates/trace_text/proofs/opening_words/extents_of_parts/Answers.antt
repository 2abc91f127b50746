use Rattle.std.proofs.Common.{◌≡◌, ◌∙◌, ◌-◌, ℕ, List, [], Some, length, map, take, drop, get_or, ap, sym, arith, Bor}
use Rattle.trace_text.specs.OpeningReading.{extent_in, extents_of_parts}
use Rattle.trace_text.proofs.Extents.{with_read, more_read, read_all}
use Rattle.trace_text.proofs.opening_words.extents_of_parts.Goals as goal

pub loop-left-preserved : goal.loop-left-preserved
loop-left-preserved c =
    let left = c.loop-left.left.now in
    let none : Bor (List ℕ) = record { ref_ptr = (0, 0); now = [] } in
    let is : extent_in (get_or left 0 none).now ≡ Some c.in-Some.extent = sym c.in_ok-extent.ensures ∙ c.in-Some.is in
    ap (λ (xs : List (ℕ × ℕ)). with_read xs (extents_of_parts (map (λ (w : Bor (List ℕ)). w.now) (take (length left - 1) (drop 1 left))))) c.in_ok-push.ensures.items
    ∙ more_read (λ (w : Bor (List ℕ)). w.now) left none c.loop-left.extents.items c.in-Some.extent
    (extents_of_parts (map (λ (w : Bor (List ℕ)). w.now) c.args.parts.now)) c.in-len1-up.len_at_least is c.loop-left.invariant

pub returns : goal.returns
returns c =
    read_all (λ (w : Bor (List ℕ)). w.now) c.loop-left.left.now c.loop-left.extents.items
    (extents_of_parts (map (λ (w : Bor (List ℕ)). w.now) c.args.parts.now)) c.in_default.len_below c.loop-left.invariant
