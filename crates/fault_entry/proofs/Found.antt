-- The segment that a space has at a page.
use Rattle.seg_vn.proofs.flat_model.Histories.{io_aside as both-left}
use Rattle.std.proofs.Common.{◌≡◌, ℕ, ◌+◌, ◌-◌, ◌≤◌, Bool, cond, List, [], ◌∷◌, Some, None, sym, ap, ◌∙◌, inl, inr, subst}
use Rattle.std.specs.Prelude.{option_map, option_and_then, nat_lt, nat_le}
use Rattle.std.specs.FinMap as finite
use Rattle.std.proofs.lemmas.Bool.{cases_Bool, leb-true}
use Rattle.seg_vn.specs.addr_space.Space.{Part, part, part_at, has}
use Rattle.seg_vn.specs.addr_space.Space as parts
use Rattle.seg_vn.specs.vm_world.declared.segment.Segment.{Segment}
use Rattle.seg_vn.specs.vm_world.Segments.{Spaces, spot_at}
use Rattle.seg_vn.proofs.vm_world.FlatWhole.{some-inj}

pub spot-found : (spaces : Spaces) (p q first pages : ℕ) (seg : Segment) (ps : List (Part Segment)) → finite.get spaces p ≡ Some ps → part_at ps q ≡ Some (part first pages seg) → spot_at spaces p q ≡ Some (seg, q - first)
spot-found spaces p q first pages seg ps e found = ap (option_and_then (λ (xs : List (Part Segment)). parts.piece_at xs q)) e ∙ ap (option_map (λ (r : Part Segment). (r.piece, q - r.first))) found

pub spot-none : (spaces : Spaces) (p q : ℕ) (ps : List (Part Segment)) → finite.get spaces p ≡ Some ps → part_at ps q ≡ None → spot_at spaces p q ≡ None
spot-none spaces p q ps e none = ap (option_and_then (λ (xs : List (Part Segment)). parts.piece_at xs q)) e ∙ ap (option_map (λ (r : Part Segment). (r.piece, q - r.first))) none

pub found-low : (ps : List (Part Segment)) (q : ℕ) (r : Part Segment) → part_at ps q ≡ Some r → r.first ≤ q
found-low [] q r h = absurd (cc)
found-low (x ∷ xs) q r h = elim (cases_Bool (has x q)) [
  | inl here ↦
      let same : x ≡ r = some-inj x r (sym (ap (λ (b : Bool). cond b (Some x) (part_at xs q)) here) ∙ h) in
      subst (λ (y : Part Segment). y.first ≤ q) same (leb-true x.first q (both-left (nat_le x.first q) (nat_lt q (x.first + x.pages)) here))
  | inr more ↦ found-low xs q r (sym (ap (λ (b : Bool). cond b (Some x) (part_at xs q)) more) ∙ h)
]
