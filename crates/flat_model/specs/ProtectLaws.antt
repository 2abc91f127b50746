-- What a Protect changes, and when its tests pass. Public clauses cite this.
use Rattle.std.specs.Prelude.{ℕ, ◌≡◌, ◌≤◌, ◌<◌, ◌+◌, ◌↔◌, IsSome, IsSomeAnd, IsOk, IsTrue, option_map}
use Rattle.vm_types.specs.declared.prot.Prot.{Prot}
use Rattle.vm_types.specs.declared.call.Reply.TheVariants.{Done}
use Rattle.vm_types.specs.Pages.{is_range}
use Rattle.vm_types.specs.Prot.{is_within}
use Rattle.flat_model.specs.Words.{page, pages_in}
use Rattle.flat_model.specs.Flat.{Flat, space_of, cell_at}
use Rattle.flat_model.specs.Space.{with_prot}
use Rattle.flat_model.specs.Mapping.{valid_range, protect}

-- The cells of p at n pages have the protection in G, and G is F in all else.
pub record ProtectsRange (F : Flat) (p first n : ℕ) (prot : Prot) (G : Flat) : Type 0 where
  pub cells : (q : ℕ) → cell_at G p q ≡ option_map (with_prot first n prot q) (cell_at F p q)
  pub others : (x : ℕ) → (x ≡ p → ⊥) → space_of G x ≡ space_of F x
  pub slots : G.slots ≡ F.slots
  pub disks : G.disks ≡ F.disks
  pub files : G.files ≡ F.files
  pub zeros : G.zeros ≡ F.zeros
  pub born : G.born ≡ F.born

-- Each page of a range.
abbrev pub EachPage : ℕ → ℕ → (ℕ → Type 0) → Type 0
EachPage a len P = (q : ℕ) → page a ≤ q → q < page a + pages_in len → P q

-- A Protect and a Sync may speak of a range exactly where it is valid and each page of it has a cell. A Protect is done exactly where, besides, each of these cells may have the protection; then it gives it to them, and changes nothing else.
pub record Protects : Type 0 where
  pub spoken : (F : Flat) (p a len : ℕ) → IsOk (valid_range F p a len) ↔ (IsTrue (is_range a len) × EachPage a len (λ q. IsSome (cell_at F p q)))
  pub allowed : (F : Flat) (p a len : ℕ) (prot : Prot) → ((protect F p a len prot).reply ≡ Done) ↔ (IsTrue (is_range a len) × EachPage a len (λ q. IsSomeAnd (cell_at F p q) (λ c. IsTrue (is_within prot c.max))))
  pub changes : (F : Flat) (p a len : ℕ) (prot : Prot) → (protect F p a len prot).reply ≡ Done → ProtectsRange F p (page a) (pages_in len) prot (protect F p a len prot).after
