-- A `&` to a stretch shows each of its bytes: it is made where one to a byte is. Assumes `Logic`.
use Rattle.std.proofs.Common.{ℕ, ◌+◌, List, [], ◌∷◌, refl}
use seplogic.Ra.Ura.{Ura}
use base.Fraction.{full_share}
use base.Fml.{Lft, Incl, Incl-refl, ftrue}
use mir.Syntax.{w8}
use types.Logic.{Logic}
use denote.Builtin.{u8}
use denote.Memory.{part_at, shared_of}
use denote.Param.Laws.{Laws, of_field}
use denote.Param.Shared.{copy_shared}
use denote.Plain.{uint_row_laws}
use denote.RawPtr.{Ptr, block_ptr, null_ptr, block_of, count_of}
use denote.RawPtr.Bytes.{bytes}
use denote.Shares.{Shares-less}
use denote.Slice.{elements_shared, elements_shr_laws}
use denote.Struct.Field.{u8-field}
use denote.Struct.Laws.{u8-laws, u8-copy}
use denote.Struct.Lending.{of_Lends, Lends, Lends-both, Lends-nothing, Lends-false}
use Rattle.core_arena.specs.Ownership.{stretch_owns, stretch_lent}
use Rattle.core_arena.specs.contracts.region.Stretch as C
use Rattle.core_arena.proofs.region.Stretch.TheLaw.Statement.{statement}

byte_laws : Laws u8
byte_laws = of_field u8-field u8-laws refl (copy_shared u8-field u8-copy)

module _ {M : Type 1} {𝓤 : Ura M} (𝓛 : Logic 𝓤) (l : Lft) (inc : Incl l []) where
  Lends-bytes : (xs : List ℕ) (b o : ℕ) → Lends 𝓛 (bytes full_share xs b o) (elements_shared u8 xs b o) l
  Lends-bytes [] b o = Lends-nothing 𝓛 ftrue l
  Lends-bytes (x ∷ xs) b o =
      Lends-both 𝓛 (part_at u8 full_share x b o) (bytes full_share xs b (o + 1)) (shared_of u8 x b o) (elements_shared u8 xs b (o + 1)) l
      (λ κ ts. Shares-less 𝓛 u8 [] l inc (byte_laws.shares 𝓛) x κ ts b o) (Lends-bytes xs b (o + 1))

  Lends-stretch : (p : Ptr) (xs : List ℕ) → Lends 𝓛 (stretch_owns p xs) (stretch_lent p xs) l
  Lends-stretch (block_ptr b o) xs = Lends-bytes xs b o
  Lends-stretch null_ptr xs = Lends-false 𝓛 (stretch_lent null_ptr xs) l

pub shares : statement
shares =
    of_Lends C.struct C.the_codes C.the_heap C.the_lent (λ d p. elements_shr_laws u8 (uint_row_laws w8) d.bytes (block_of d.at) (count_of d.at)) tt
    (λ M 𝓤 𝓛 d p. Lends-stretch 𝓛 _ (Incl-refl _) d.at d.bytes)
