-- What a look at the state tells of the replay.
use Rattle.std.proofs.Common.{◌≡◌, ℕ, zero, suc, ◌≤◌, ◌==◌, Bool, true, false, cond, List, [], ◌∷◌}
use Rattle.std.proofs.Common.{length, Option, Some, None, refl, sym, ap, subst, ◌∙◌, arith}
use Rattle.std.proofs.lemmas.Bool.{eq-eqb, eqb-true}
use Rattle.std.proofs.lemmas.Option.{same_Some}
use Rattle.std.specs.List.{AllByRecursion}
use Rattle.std.specs.Option.{option_map_or}
use Rattle.std.specs.Prelude.{option_map, slice_get, IsTrue}
use Rattle.vm_core.specs.vm_types.declared.call.Call.{Call}
use Rattle.vm_core.specs.vm_types.declared.call.Call.TheVariants.{Load, Store, Map, Unmap, Protect}
use Rattle.vm_core.specs.vm_types.declared.call.Call.TheVariants.{Sync, Read, Write, Truncate, Fork}
use Rattle.vm_core.specs.vm_types.declared.call.Call.TheVariants.{Exit}
use Rattle.vm_core.specs.vm_types.declared.call.Entry.{Entry}
use Rattle.vm_core.specs.flat_model.Births.{is_fork_of}
use Rattle.vm_core.specs.flat_model.Told.{entries_of}
use Rattle.vm_core.specs.vm_world.HistoryFits.{RoomsFit}
use Rattle.vm_core.specs.vm_types.declared.call.Object.{Object}
use Rattle.vm_core.specs.flat_model.Flat.{Cell, Flat, cell_at}
use Rattle.vm_core.specs.flat_model.History.{replay}
use Rattle.vm_core.specs.flat_model.Shapes.{SameShape, without_bytes, blank_cell}
use Rattle.vm_core.specs.page_store.Notes.{Notes}
use Rattle.vm_core.specs.vm_world.Events.{FollowsHistory}
use Rattle.vm_core.specs.vm_world.FlatMemory.{flat_memory}
use Rattle.vm_core.specs.vm_world.Opening.{no_seats}
use Rattle.vm_core.specs.vm_world.State.{KernelState, Sent, notes_of, is_top, process_parent}
use Rattle.vm_core.proofs.vm_world.flat_model.Shapes.{cell-blank}
use Rattle.vm_kernel.specs.Objects.{object_told, NoneForks}
use Rattle.vm_kernel.specs.Since.{IsSinceOpening}

blank-told : (o : Option Cell) → object_told (option_map blank_cell o) ≡ object_told o
blank-told None = refl
blank-told (Some c) = refl

-- in flat memories of one shape it is the same
pub shape-told : (F G : Flat) (p q : ℕ) → SameShape F G → object_told (cell_at F p q)
    ≡ object_told (cell_at G p q)
shape-told F G p q same =
    sym (blank-told (cell_at F p q)) ∙ ap object_told (sym (cell-blank F p q))
    ∙ ap (λ (K : Flat). object_told (cell_at K p q)) same ∙ ap object_told (cell-blank G p q)
    ∙ blank-told (cell_at G p q)

pub look-told : (opening s : KernelState) (notes : List (Option Sent)) (p q : ℕ)
    (o : Option (Object × ℕ)) → IsSinceOpening opening s notes
    → ((ns : Notes) → o ≡ object_told (cell_at (flat_memory s.memory s.born ns) p q))
    → (F : Flat) → FollowsHistory F opening → o ≡ object_told (cell_at (replay F s.history) p q)
look-told opening s notes p q o since told F follows =
    told (notes_of no_seats)
    ∙ shape-told (flat_memory s.memory s.born (notes_of no_seats)) (replay F s.history) p q
    ((since.follows F follows).shape (notes_of no_seats))

-- an entry of a history is one of its process
one-entry : (p : ℕ) (H : List Entry) (k : ℕ) (e : Entry) → slice_get H k ≡ Some e → e.process ≡ p
    → 1 ≤ length (entries_of H p)
one-entry p [] k e at is = absurd (cc (at))
one-entry p (d ∷ H) zero e at is =
    let here : (d.process == p) ≡ true =
    eq-eqb d.process p (ap (λ (x : Entry). x.process) (same_Some d e at) ∙ is) in
    subst (λ (b : Bool). 1 ≤ length (cond b (d ∷ entries_of H p) (entries_of H p))) (sym here)
    (omega arith)
one-entry p (d ∷ H) (suc k) e at is = by_test (d.process == p) (one-entry p H k e at is)
  where
    by_test : (b : Bool) → 1 ≤ length (entries_of H p)
        → 1 ≤ length (cond b (d ∷ entries_of H p) (entries_of H p))
    by_test true some = omega (arith, some)
    by_test false some = some

-- what holds of each entry by its place holds of all
each-entry : (P : Entry → Type 0) (H : List Entry)
    → ((k : ℕ) (e : Entry) → slice_get H k ≡ Some e → P e) → AllByRecursion P H
each-entry P [] all = tt
each-entry P (d ∷ H) all = (all 0 d refl, each-entry P H (λ k e at. all (suc k) e at))

module _ (H : List Entry) (parents entries : List ℕ) (rooms : RoomsFit H parents entries) (p : ℕ)
    (top : IsTrue (is_top parents p)) where
  by_parent : (o : Option ℕ) (q : ℕ) → o ≡ Some q
      → IsTrue (option_map_or (λ (parent : ℕ). parent == 0) o false) → q ≡ 0
  by_parent o q is held =
      eqb-true q 0 (subst (λ (x : Option ℕ).
      IsTrue (option_map_or (λ (parent : ℕ). parent == 0) x false)) is held)

  not-forked : (k : ℕ) (e : Entry) → slice_get H k ≡ Some e → is_fork_of p e.call ≡ false
  not-forked k e at = by_call e.call refl
    where
      by_child : (child : ℕ) → e.call ≡ Fork child → (b : Bool) → (child == p) ≡ b → b ≡ false
      by_child child is false test = refl
      by_child child is true test =
          let same = eqb-true child p test in
          let parent : process_parent parents p ≡ Some e.process =
          subst (λ (q : ℕ). process_parent parents q ≡ Some e.process) same
          (rooms.forks k child e at is) in
          let nobody = by_parent (process_parent parents p) e.process parent top in
          let some = one-entry 0 H k e at nobody in
          let none = rooms.made 0 in
          absurd (omega (arith, some, none))

      by_call : (call : Call) → e.call ≡ call → is_fork_of p call ≡ false
      by_call (Fork child) is = by_child child is (child == p) refl
      by_call (Load a n) is = refl
      by_call (Store a n v) is = refl
      by_call (Map place len prot kind object offset) is = refl
      by_call (Unmap a len) is = refl
      by_call (Protect a len prot) is = refl
      by_call (Sync a len) is = refl
      by_call (Read file offset len) is = refl
      by_call (Write file offset line rest) is = refl
      by_call (Truncate file len) is = refl
      by_call Exit is = refl

  -- NOBODY FORKS WHO HAS NO PARENT
  pub none-forks : NoneForks p H
  none-forks = each-entry (λ (e : Entry). is_fork_of p e.call ≡ false) H not-forked
