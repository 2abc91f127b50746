-- Translations that may write, as rights to write are taken.
use Rattle.std.proofs.Common.{ℕ, List, Option, sym, ◌∙◌, inl, inr}
use Rattle.std.proofs.lemmas.Bool.{cases_Bool}
use Rattle.seg_ops.specs.hat_layer.declared.translation.Translation.{Translation}
use Rattle.seg_ops.specs.Writers.{HasNoWriter, WritersStay}

-- a page without a writer has none later
pub no-writer-then : (old new : List (Option Translation)) (space page : ℕ) → HasNoWriter old space page → WritersStay old new → HasNoWriter new space page
no-writer-then old new space page none stay place t there a b = elim (cases_Bool t.writable) [
  | inr not ↦ not
  | inl writes ↦
      let w = stay place t there writes in
      sym w.writable ∙ none w.place w.was w.there (w.space ∙ a) (w.page ∙ b)
]

pub writers-then : (u v w : List (Option Translation)) → WritersStay u v → WritersStay v w → WritersStay u w
writers-then u v w first second place t there writes =
    let b = second place t there writes in
    let a = first b.place b.was b.there (b.writable ∙ writes) in
    record { place = a.place; was = a.was; there = a.there; space = a.space ∙ b.space; page = a.page ∙ b.page; writable = a.writable ∙ b.writable }
