-- How long the memory of a segment lives, and what it reserves.
use Rattle.std.proofs.Common.{◌≡◌, ℕ, ◌+◌, Bool, true, false, List, [], ◌∷◌, length, Option, Some}
use Rattle.std.proofs.Common.{None, Result, Ok, Err, refl, sym, ap, subst, ◌∙◌, add-zero}
use Rattle.std.proofs.Common.{true≢false}
use Rattle.std.specs.Prelude.{◌==◌, is_some, nat_le, IsSome, IsSomeAnd, IsTrue, option_and_then}
use Rattle.std.specs.FinMap as map
use Rattle.std.specs.List.{AllByRecursion}
use Rattle.std.proofs.lemmas.Bool.{eqb-true, eqb-false}
use Rattle.flat_model.specs.vm_types.declared.call.Call.{Call}
use Rattle.flat_model.specs.vm_types.declared.call.Call.TheVariants.{Fork, Exit}
use Rattle.flat_model.specs.vm_types.declared.call.Entry.{Entry}
use Rattle.flat_model.specs.vm_types.declared.call.Errno.TheVariants as errno
use Rattle.flat_model.specs.vm_types.declared.call.Object.{Object}
use Rattle.flat_model.specs.vm_types.declared.call.Object.TheVariants as object
use Rattle.flat_model.specs.vm_types.declared.call.Place.{Place}
use Rattle.flat_model.specs.vm_types.declared.call.Reply.{Reply}
use Rattle.flat_model.specs.vm_types.declared.call.Reply.TheVariants as reply
use Rattle.flat_model.specs.vm_types.declared.prot.Prot.{Prot}
use Rattle.flat_model.specs.vm_types.Pages.{pages_in}
use Rattle.flat_model.specs.Words.{Page}
use Rattle.flat_model.specs.Flat.{Cell, Flat, Space, space_of, cell_at, zero_of, is_named, reserved}
use Rattle.flat_model.specs.Flat.{private_cells}
use Rattle.flat_model.specs.Births.{AreBorn}
use Rattle.flat_model.specs.FrameLaws.{LeavesCell, MapsSame}
use Rattle.flat_model.specs.History.{replay, Steps}
use Rattle.flat_model.specs.Mapping.{Request, cells_of, map_result, without_pages, with_mapping}
use Rattle.flat_model.specs.ReachedLaws.{IsReached}
use Rattle.flat_model.specs.Refusals.{◌>>◌, check, or_refused, done_effect}
use Rattle.flat_model.specs.Processes.{with_child, without_process}
use Rattle.flat_model.specs.ReserveLaws.{zero_pages_back}
use Rattle.flat_model.specs.Step.{IsStep, IsDue, step, after_act, effect, tails_cleared, is_bit_set}
use Rattle.flat_model.proofs.vnode_files.SeenLemmas.{none-from}
use Rattle.flat_model.proofs.Frames.{StepFrame-step, there, the_one}
use Rattle.flat_model.proofs.Lives.{AreBorn-step}
use Rattle.flat_model.proofs.Mappings.{get-cells_of}
use Rattle.flat_model.proofs.Named.{named_zeros-to_cell}
use Rattle.flat_model.proofs.Ranges.{get-insert_here, get-remove_apart, get-remove_here}
use Rattle.flat_model.proofs.Reached.{IsReached-step}
use Rattle.flat_model.proofs.ReserveKept.{reservation_law}
use Rattle.shm_model.specs.Keys.{ShmSegment}
use Rattle.shm_model.specs.Lives.{attach_request, SegmentLives}
use Rattle.shm_model.proofs.Tied.{same_entry}

same-zero : (c d : Cell) → d.object ≡ c.object → zero_of d ≡ zero_of c
same-zero c d same = ap (λ (o : Object).
    elim o [ object.Zero y ↦ Some y | object.File f ↦ None | object.NewZero ↦ None ]) same

outlives : (F : Flat) (H : List Entry) (p q z : ℕ) (c : Cell) (pages : List Page) → AreBorn F
    → Steps F H → cell_at F p q ≡ Some c → zero_of c ≡ Some z → map.get F.zeros z ≡ Some pages
    → AllByRecursion (λ (e : Entry). LeavesCell e p q) H
    → IsSomeAnd (cell_at (replay F H) p q) (λ d. d.object ≡ c.object)
    × IsSomeAnd (map.get (replay F H).zeros z) (λ new. length new ≡ length pages)
outlives F [] p q z c pages born steps here names has leaves = (
  there (cell_at F p q) c (λ d. d.object ≡ c.object) here refl,
  there (map.get F.zeros z) pages
      (λ new. length new ≡ length pages) has refl,
)
outlives F (e ∷ H) p q z c pages born steps here names has leaves =
    let frame = StepFrame-step F e born steps.0 in
    let d = the_one (cell_at (step F e) p q) (MapsSame c) (frame.cells p q c here leaves.0) in
    let more = the_one (map.get (step F e).zeros z) (λ new. length new ≡ length pages)
    (frame.zeros p q z c pages here leaves.0 names has) in
    let rest = outlives (step F e) H p q z d.0 more.0 (AreBorn-step F e born steps.0) steps.1 d.1
    (same-zero c d.0 d.2.object ∙ names) more.1 leaves.1 in
    let cell = the_one (cell_at (replay (step F e) H) p q) (λ x. x.object ≡ d.0.object) rest.0 in
    let object_pages = the_one (map.get (replay (step F e) H).zeros z)
    (λ new. length new ≡ length more.0) rest.1 in (
      there (cell_at (replay (step F e) H) p q) cell.0 (λ x. x.object ≡ c.object) cell.1
          (cell.2 ∙ d.2.object),
      there (map.get (replay (step F e) H).zeros z) object_pages.0
          (λ new. length new ≡ length pages) object_pages.1 (object_pages.2 ∙ more.2),
    )

forked : (F : Flat) (e : Entry) (child q : ℕ) → IsStep F e → e.call ≡ Fork child → e.reply
    ≡ reply.Done → cell_at (step F e) child q ≡ cell_at F e.process q
forked F e child q stepped call done =
    let e_is = same_entry e e.process (Fork child) reply.Done refl call done in
    subst (λ (y : Entry). cell_at (step F y) child q ≡ cell_at F e.process q) (sym e_is)
    (by_check (nat_le (reserved G + private_cells (cells_of G e.process)) G.slots)
    (subst (λ (y : Entry). IsStep F y) e_is stepped).due)
  where
    G : Flat
    G = tails_cleared F (is_bit_set e.cleared)

    by_check : (b : Bool) → (or_refused G (λ _. done_effect (with_child G e.process child))
        (check b errno.NoSwap)).reply ≡ reply.Done
        → cell_at (or_refused G (λ _. done_effect (with_child G e.process child))
        (check b errno.NoSwap)).after child q ≡ cell_at F e.process q
    by_check true due = ap (option_and_then (λ (s : Space). map.get s q))
        (get-insert_here G.spaces child (cells_of G e.process)) ∙ sym (get-cells_of G e.process q)
    by_check false due = absurd cc

-- a cell that an Exit leaves is another process's, and was there before
left-by-exit : (F : Flat) (p cleared : ℕ) (r : Reply)
    → IsStep F record { process = p; call = Exit; reply = r; cleared = cleared }
    → (x q : ℕ) (c : Cell)
    → cell_at (step F record { process = p; call = Exit; reply = r; cleared = cleared }) x q
    ≡ Some c → (x ≡ p → ⊥) × (cell_at F x q ≡ Some c)
left-by-exit F p cleared r stepped x q c is = by_reply r stepped.due is
  where
    G : Flat
    G = tails_cleared F (is_bit_set cleared)

    gone-from : (b : Bool) → (x == p) ≡ b → cell_at (without_process G p) x q ≡ Some c → (x ≡ p → ⊥)
        × (cell_at F x q ≡ Some c)
    gone-from true same here =
        let one = eqb-true x p same in
        let none : cell_at (without_process G p) x q ≡ None =
        subst (λ y. cell_at (without_process G p) y q ≡ None) (sym one)
        (ap (option_and_then (λ (s : Space). map.get s q)) (get-remove_here G.spaces p)) in
        let never : None ≡ Some c = sym none ∙ here in absurd cc
    gone-from false other here =
        let apart = eqb-false x p other in (
          apart,
          ap (option_and_then (λ (s : Space). map.get s q))
              (sym (get-remove_apart G.spaces p x apart)) ∙ here,
        )

    by_reply : (s : Reply) → IsDue G
        record { process = p; call = Exit; reply = s; cleared = cleared }
        → cell_at (after_act G record { process = p; call = Exit; reply = s; cleared = cleared }) x
        q ≡ Some c → (x ≡ p → ⊥) × (cell_at F x q ≡ Some c)
    by_reply (reply.Io disk before after) due here = absurd due
    by_reply reply.Done due here = gone-from (x == p) refl here
    by_reply (reply.Word v) due here = gone-from (x == p) refl here
    by_reply (reply.Mapped a) due here = gone-from (x == p) refl here
    by_reply (reply.Bytes line) due here = gone-from (x == p) refl here
    by_reply (reply.Synced from) due here = gone-from (x == p) refl here
    by_reply (reply.Signal g) due here = gone-from (x == p) refl here
    by_reply (reply.Refused g) due here = gone-from (x == p) refl here

gone : (F : Flat) (e : Entry) (z : ℕ) → IsReached F → IsStep F e → e.call ≡ Exit
    → ((p q : ℕ) (c : Cell) → (p ≡ e.process → ⊥) → cell_at F p q ≡ Some c → zero_of c ≡ Some z → ⊥)
    → map.get (step F e).zeros z ≡ None
gone F e z reached stepped call others =
    let after = IsReached-step F e reached stepped in
    none-from (map.get (step F e).zeros z) (after.zeros z ∙ by_name (is_named (step F e) z) refl)
  where
    by_name : (b : Bool) → is_named (step F e) z ≡ b → b ≡ false
    by_name false is = refl
    by_name true is =
        let m = named_zeros-to_cell (step F e) z is in
        let e_is = same_entry e e.process Exit e.reply refl call refl in
        let left = left-by-exit F e.process e.cleared e.reply
        (subst (λ (y : Entry). IsStep F y) e_is stepped) m.process m.page m.cell
        (subst (λ (y : Entry). cell_at (step F y) m.process m.page ≡ Some m.cell) e_is
        m.stands) in
        absurd (others m.process m.page m.cell left.0 left.1 m.names)

once : (F G : Flat) (p first : ℕ) (place : Place) (prot : Prot) (seg : ShmSegment)
    → IsSome (space_of F p) → map_result F p (attach_request place prot seg) ≡ Ok (first, G)
    → IsTrue (is_named (without_pages F p first (pages_in seg.len)) seg.object) → reserved G
    ≡ reserved (without_pages F p first (pages_in seg.len))
once F G p first place prot seg alive is named =
    let r = attach_request place prot seg in
    let U = without_pages F p first (pages_in seg.len) in
    let placed = reservation_law.has_place F p r first G is in
    let back : zero_pages_back F U (object.Zero seg.object) ≡ 0 =
    rw (named, zero_pages_back) refl in
    ap reserved placed.1 ∙ reservation_law.shared_map F p r first alive placed.0 refl
    (λ same. absurd cc) ∙ ap (λ n. reserved U + n) back ∙ add-zero (reserved U)

pub segment_lives : SegmentLives
segment_lives = record { outlives = outlives; forked = forked; gone = gone; once = once }
