-- What a Fork leaves.
use Rattle.std.proofs.Common.{◌≡◌, ℕ, true, false, Option, Some, None, Result, Ok, Err, refl, sym, ap, subst, ◌∙◌}
use Rattle.std.specs.Prelude.{option_and_then, unwrap_or, IsSome, IsFalse, nat_le, ◌+◌}
use Rattle.std.specs.FinMap as map
use Rattle.std.specs.FinSet as set
use Rattle.vm_types.specs.declared.call.Errno.{Errno}
use Rattle.vm_types.specs.declared.call.Errno.TheVariants as errno
use Rattle.vm_types.specs.declared.call.Reply.TheVariants as reply
use Rattle.flat_model.specs.Words.{page}
use Rattle.flat_model.specs.Flat.{Flat, Space, IsFlat, space_of, private_cells, reserved}
use Rattle.flat_model.specs.Refusals.{check, or_refused, done_effect}
use Rattle.flat_model.specs.Mapping.{cells_of}
use Rattle.flat_model.specs.Processes.{fork, with_child}
use Rattle.flat_model.specs.StoreLaws.{ForkCopies, ForkThenStore}
use Rattle.flat_model.proofs.Ranges.{get-insert_here, get-insert_apart}
use Rattle.flat_model.proofs.Stores.{load-alike, load-private_store, shown-same_objects}

-- a call that was done left what it leaves
pub done_after : {A : Type 0} (F : Flat) (acts : A → Flat) (r : Result A Errno) → (or_refused F (λ x. done_effect (acts x)) r).reply ≡ reply.Done → (x : A) × (r ≡ Ok x) × ((or_refused F (λ x. done_effect (acts x)) r).after ≡ acts x)
done_after F acts (Ok x) is = (x, refl, refl)
done_after F acts (Err e) is = absurd cc

was_some : (o : Option Space) → IsSome o → Some (unwrap_or o map.empty) ≡ o
was_some None is = absurd cc
was_some (Some space) is = refl

-- who is alive isn't an unborn child
pub unborn_apart : (F : Flat) (p child : ℕ) → IsFlat F → IsSome (space_of F p) → IsFalse (set.contains F.born child) → p ≡ child → ⊥
unborn_apart F p child flat alive unborn same =
    let born : set.contains F.born child ≡ true = ap (set.contains F.born) (sym same) ∙ flat.born p alive in
    absurd (let both : true ≡ false = sym born ∙ unborn in cc)

forked_copies : (F : Flat) (p child : ℕ) → IsSome (space_of F p) → (p ≡ child → ⊥) → ForkCopies F p child (with_child F p child)
forked_copies F p child alive apart =
    let G = with_child F p child in
    let cells : space_of G child ≡ space_of F p = get-insert_here F.spaces child (cells_of F p) ∙ was_some (space_of F p) alive in
    let parent : space_of G p ≡ space_of F p = get-insert_apart F.spaces child (cells_of F p) p apart in
    record {
      cells = cells;
      parent = parent;
      others = λ x other. get-insert_apart F.spaces child (cells_of F p) x other;
      pages = λ c. shown-same_objects F G c refl refl;
      loads = λ b m. load-alike F G p child b m (ap (option_and_then (λ space. map.get space (page b))) cells) (λ d found. shown-same_objects F G d refl refl);
      child_unseen = λ a b n m v c at private. load-private_store G child p a b n m v c at private apart;
      parent_unseen = λ a b n m v c at private. load-private_store G p child a b n m v c at private (λ is. apart (sym is));
    }

pub fork_copies : (F : Flat) (p child : ℕ) → IsFlat F → IsSome (space_of F p) → IsFalse (set.contains F.born child) → (fork F p child).reply ≡ reply.Done → ForkCopies F p child (fork F p child).after
fork_copies F p child flat alive unborn is =
    let r = done_after F (λ _. with_child F p child) (check (nat_le (reserved F + private_cells (cells_of F p)) F.slots) errno.NoSwap) is in
    subst (λ (G : Flat). ForkCopies F p child G) (sym r.2) (forked_copies F p child alive (unborn_apart F p child flat alive unborn))

pub fork_law : ForkThenStore
fork_law = record { copies = fork_copies }
