-- What a Protect changes, and when its tests pass.
use Rattle.std.proofs.Common.{◌≡◌, ℕ, Bool, true, false, Option, Some, None, Result, Ok, Err, refl, sym, ap, subst, ◌∙◌}
use Rattle.std.specs.Prelude.{◌↔◌, IsSome, IsSomeAnd, IsOk, IsTrue, is_some, option_map, option_and_then}
use Rattle.std.specs.Option.{option_map_or}
use Rattle.std.specs.FinMap as map
use Rattle.vm_types.specs.declared.prot.Prot.{Prot}
use Rattle.vm_types.specs.declared.call.Errno.{Errno}
use Rattle.vm_types.specs.declared.call.Errno.TheVariants as errno
use Rattle.vm_types.specs.declared.call.Reply.TheVariants as reply
use Rattle.vm_types.specs.Pages.{is_range}
use Rattle.vm_types.specs.Prot.{is_within}
use Rattle.flat_model.specs.Words.{page, pages_in}
use Rattle.flat_model.specs.Flat.{Cell, Flat, cell_at}
use Rattle.flat_model.specs.Refusals.{◌>>◌, check, or_refused, done_effect}
use Rattle.flat_model.specs.Access.{with_space}
use Rattle.flat_model.specs.Space.{with_prot, with_prots}
use Rattle.flat_model.specs.Mapping.{cells_of, are_mapped, may_have, valid_range, protect}
use Rattle.flat_model.specs.ProtectLaws.{ProtectsRange, EachPage, Protects}
use Rattle.flat_model.proofs.Ranges.{get-insert_here, get-insert_apart, get-with_prots, all_pages-at, at-all_pages}
use Rattle.flat_model.proofs.Mappings.{get-cells_of}
use Rattle.flat_model.proofs.Forks.{done_after}

checks_pass : {E : Type 0} (a b : Bool) (e f : E) → IsOk (check a e >> check b f) ↔ ((a ≡ true) × (b ≡ true))
checks_pass true true e f = (λ is. (refl, refl), λ both. refl)
checks_pass true false e f = (λ is. absurd cc, λ both. absurd (let no_b = both.1 in cc))
checks_pass false b e f = (λ is. absurd cc, λ both. absurd (let no_a = both.0 in cc))

spoken_by : (F : Flat) (p a len : ℕ) → IsOk (valid_range F p a len) ↔ ((is_range a len ≡ true) × (are_mapped (cells_of F p) (page a) (pages_in len) ≡ true))
unfolding valid_range
spoken_by F p a len = checks_pass (is_range a len) (are_mapped (cells_of F p) (page a) (pages_in len)) errno.Invalid errno.NotMapped

pub valid_range-is : (F : Flat) (p a len : ℕ) → IsOk (valid_range F p a len) ↔ (IsTrue (is_range a len) × EachPage a len (λ q. IsSome (cell_at F p q)))
valid_range-is F p a len = (
  λ is. let both = (spoken_by F p a len).0 is in (both.0, λ q low high. ap is_some (get-cells_of F p q) ∙ all_pages-at (λ x. is_some (map.get (cells_of F p) x)) (page a) (pages_in len) q both.1 low high),
  λ is. (spoken_by F p a len).1 (is.0, at-all_pages (λ x. is_some (map.get (cells_of F p) x)) (page a) (pages_in len) (λ q low high. ap is_some (sym (get-cells_of F p q)) ∙ is.1 q low high)),
)

then_ok : {E : Type 0} (r : Result (Unit {0}) E) (b : Bool) (e : E) (x : Unit {0}) → (r >> check b e) ≡ Ok x → IsOk r × (b ≡ true)
then_ok (Ok y) true e x is = (refl, refl)
then_ok (Ok y) false e x is = absurd cc
then_ok (Err f) b e x is = absurd cc

done_both : (F : Flat) (acts : Unit {0} → Flat) (r : Result (Unit {0}) Errno) (b : Bool) (e : Errno) → IsOk r → b ≡ true → (or_refused F (λ x. done_effect (acts x)) (r >> check b e)).reply ≡ reply.Done
done_both F acts (Ok x) true e is passed = refl
done_both F acts (Ok x) false e is passed = absurd cc
done_both F acts (Err f) b e is passed = absurd cc

within : (o : Option Cell) (prot : Prot) → is_some o ≡ true → option_map_or (λ c. is_within prot c.max) o true ≡ true → IsSomeAnd o (λ c. IsTrue (is_within prot c.max))
within None prot some is = absurd cc
within (Some c) prot some is = is

within_some : (o : Option Cell) (prot : Prot) → IsSomeAnd o (λ c. IsTrue (is_within prot c.max)) → (is_some o ≡ true) × (option_map_or (λ c. is_within prot c.max) o true ≡ true)
within_some None prot is = absurd is
within_some (Some c) prot is = (refl, is)

pub protect-done : (F : Flat) (p a len : ℕ) (prot : Prot) → ((protect F p a len prot).reply ≡ reply.Done) ↔ (IsTrue (is_range a len) × EachPage a len (λ q. IsSomeAnd (cell_at F p q) (λ c. IsTrue (is_within prot c.max))))
protect-done F p a len prot =
    let G = with_space F p (with_prots (cells_of F p) (page a) (pages_in len) prot) in
    let allowed = may_have (cells_of F p) (page a) (pages_in len) prot in
    let test = λ (q : ℕ). option_map_or (λ c. is_within prot c.max) (map.get (cells_of F p) q) true in (
      λ is.
          let r = done_after F (λ _. G) (valid_range F p a len >> check allowed errno.Access) is in
          let both = then_ok (valid_range F p a len) allowed errno.Access r.0 r.1 in
          let cells = (valid_range-is F p a len).0 both.0 in
          (cells.0, λ q low high. within (cell_at F p q) prot (cells.1 q low high) (ap (λ (o : Option Cell). option_map_or (λ c. is_within prot c.max) o true) (get-cells_of F p q) ∙ all_pages-at test (page a) (pages_in len) q both.1 low high)),
      λ is. done_both F (λ _. G) (valid_range F p a len) allowed errno.Access
          ((valid_range-is F p a len).1 (is.0, λ q low high. (within_some (cell_at F p q) prot (is.1 q low high)).0))
          (at-all_pages test (page a) (pages_in len) (λ q low high. ap (λ (o : Option Cell). option_map_or (λ c. is_within prot c.max) o true) (sym (get-cells_of F p q)) ∙ (within_some (cell_at F p q) prot (is.1 q low high)).1)),
    )

protects_range : (F : Flat) (p first n : ℕ) (prot : Prot) → ProtectsRange F p first n prot (with_space F p (with_prots (cells_of F p) first n prot))
protects_range F p first n prot = record {
  cells = λ q. ap (option_and_then (λ space. map.get space q)) (get-insert_here F.spaces p (with_prots (cells_of F p) first n prot)) ∙ get-with_prots (cells_of F p) first n prot q ∙ ap (option_map (with_prot first n prot q)) (sym (get-cells_of F p q));
  others = λ x apart. get-insert_apart F.spaces p (with_prots (cells_of F p) first n prot) x apart;
  slots = refl;
  disks = refl;
  files = refl;
  zeros = refl;
  born = refl;
}

pub protect-changes : (F : Flat) (p a len : ℕ) (prot : Prot) → (protect F p a len prot).reply ≡ reply.Done → ProtectsRange F p (page a) (pages_in len) prot (protect F p a len prot).after
protect-changes F p a len prot is =
    let G = with_space F p (with_prots (cells_of F p) (page a) (pages_in len) prot) in
    let r = done_after F (λ _. G) (valid_range F p a len >> check (may_have (cells_of F p) (page a) (pages_in len) prot) errno.Access) is in
    subst (λ (H : Flat). ProtectsRange F p (page a) (pages_in len) prot H) (sym r.2) (protects_range F p (page a) (pages_in len) prot)

pub protects_law : Protects
protects_law = record { spoken = valid_range-is; allowed = protect-done; changes = protect-changes }
