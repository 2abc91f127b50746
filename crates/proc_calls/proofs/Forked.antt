-- A Fork: what is due to it, and what its copies come to.
use Rattle.std.proofs.Common.{◌≡◌, ◌≢◌, ℕ, ◌+◌, ◌<◌, ◌≤◌, Bool, true, false, List, [], ◌++◌, length, Option, Some, None, sym, ap, ◌∙◌, inl, inr, subst, arith}
use Rattle.std.specs.Prelude.{◌↔◌, IsTrue, count_by, is_some, nat_le, replicate, slice_index, sum_by, unwrap_or}
use Rattle.std.specs.FinMap as finite
use Rattle.std.specs.FinSet as set
use Rattle.std.specs.Ordering.{nat_cmp}
use Rattle.std.proofs.lemmas.Bool.{cases_lt, le-leb, lt-leb}
use Rattle.std.proofs.lemmas.List.Elements.{All-weaker}
use Rattle.seg_vn.specs.addr_space.Space.{Part, part_at}
use Rattle.seg_vn.specs.anon_map.Maps.{Map}
use Rattle.seg_vn.specs.page_store.Notes.{Notes}
use Rattle.seg_vn.specs.vm_types.declared.call.Call.TheVariants.{Fork}
use Rattle.seg_vn.specs.vm_types.declared.call.Errno.TheVariants.{NoSwap}
use Rattle.seg_vn.specs.vm_types.declared.call.Reply.TheVariants.{Refused}
use Rattle.seg_vn.specs.flat_model.Flat.{Flat, Space, private_cells, reserved}
use Rattle.seg_vn.specs.flat_model.Mapping.{cells_of}
use Rattle.seg_vn.specs.flat_model.Processes.{with_child}
use Rattle.seg_vn.specs.flat_model.Refusals.{Effect, check, done_effect, or_refused}
use Rattle.seg_vn.specs.flat_model.Step.{effect}
use Rattle.seg_vn.specs.flat_model.Shapes.{without_bytes}
use Rattle.seg_vn.proofs.flat_model.Ranges.{get-insert_here}
use Rattle.seg_vn.specs.vm_world.CountsFit.{is_number, slots_for_part}
use Rattle.seg_vn.specs.vm_world.FlatMemory.{Memory, flat_memory}
use Rattle.seg_vn.specs.vm_world.ForkSteps.{BearsProcess, with_cells_copied, with_empty_process}
use Rattle.seg_vn.specs.vm_world.MemoryFits.{MemoryFits}
use Rattle.seg_vn.specs.vm_world.Pages.{contents_of}
use Rattle.seg_vn.specs.vm_world.SegmentSteps.{ChangesSegments}
use Rattle.seg_vn.specs.vm_world.World.{World}
use Rattle.seg_vn.specs.vm_world.ZeroObjects.{KnowsZeros}
use Rattle.seg_vn.specs.vm_world.declared.segment.Segment.{Segment}
use Rattle.seg_vn.proofs.vm_world.ComingProcesses.{process-fits, zeros-now}
use Rattle.seg_vn.proofs.vm_world.ForkEvents.{fork_rule}
use Rattle.seg_vn.proofs.vm_world.KeptMaps.{same-holders, same-places, same-there}
use Rattle.seg_vn.proofs.vm_world.KnownZeros.{known-same}
use Rattle.seg_vn.proofs.vm_world.MoreNumbers.{past-none}
use Rattle.seg_vn.proofs.vm_world.Reserves.{private-parts, reserved-memory}
use Rattle.seg_vn.proofs.vm_world.SegmentCells.{segment_cells}
use Rattle.seg_vn.proofs.vm_world.SegmentSteps.{segment_rule}
use Rattle.seg_vn.proofs.vm_world.Shapes.{copied-respects}
use Rattle.seg_vn.specs.Clears.{ChangesSpace}
use Rattle.proc_calls.specs.Forks.{BearsChild, CountsForked}
use Rattle.proc_calls.specs.Pieces.{AreFewHolders, HasFewHolders, IsForking}
use Rattle.proc_calls.proofs.PiecesCopied.{held-same, owned_in}

-- WHAT IS DUE is told by what is reserved
module _ (m : Memory) (p child : ℕ) (parts : List (Part Segment)) (fits : MemoryFits m) (here : finite.get m.spaces p ≡ Some parts) where
  total : (born : set.FinSet nat_cmp) (notes : Notes) → reserved (flat_memory m born notes) + private_cells (cells_of (flat_memory m born notes) p) ≡ m.world.anon.reserved + sum_by slots_for_part parts
  total born notes =
      let mine : private_cells (cells_of (flat_memory m born notes) p) ≡ sum_by slots_for_part parts =
      ap (λ (s : Space). private_cells s) (segment_cells.cells m p parts born notes fits here) ∙ private-parts (contents_of m.world notes).place parts (fits.segments.ordered p parts here) in
      (λ i. reserved-memory m born notes fits i + mine i)

  abbrev outcome : Flat → Bool → Effect
  outcome F b = or_refused F (λ _. done_effect (with_child F p child)) (check b NoSwap)

  pub refusal-due : length m.world.anon.counts < m.world.anon.reserved + sum_by slots_for_part parts → (born : set.FinSet nat_cmp) (notes : Notes) → (effect (flat_memory m born notes) p (Fork child)).reply ≡ Refused NoSwap
  refusal-due lt born notes =
      let F : Flat = flat_memory m born notes in
      ap (λ (b : Bool). (outcome F b).reply) (ap (λ (n : ℕ). nat_le n (length m.world.anon.counts)) (total born notes) ∙ lt-leb (m.world.anon.reserved + sum_by slots_for_part parts) (length m.world.anon.counts) lt)

  pub done-due : m.world.anon.reserved + sum_by slots_for_part parts ≤ length m.world.anon.counts → (born : set.FinSet nat_cmp) (notes : Notes) → effect (flat_memory m born notes) p (Fork child) ≡ done_effect (with_child (flat_memory m born notes) p child)
  done-due le born notes =
      let F : Flat = flat_memory m born notes in
      ap (outcome F) (ap (λ (n : ℕ). nat_le n (length m.world.anon.counts)) (total born notes) ∙ le-leb (m.world.anon.reserved + sum_by slots_for_part parts) (length m.world.anon.counts) le)

  -- A CHILD IS BORN by the entry
  pub bears-child : (n : Memory) → m.world.anon.reserved + sum_by slots_for_part parts ≤ length m.world.anon.counts → BearsProcess child m n (λ F. with_child F p child) → BearsChild m n p child
  bears-child n le b cleared = record {
    absent = b.absent;
    here = b.here;
    machine = b.machine;
    others = b.others;
    memory = b.memory;
    notes = λ notes nf. b.notes notes nf;
    tells = λ notes nf. b.tells notes nf;
    flat = λ born notes nf tell whole.
        let due = done-due le born notes in
        (ap (λ (x : Effect). x.reply) due, b.flat born notes nf tell whole ∙ sym (ap (λ (x : Effect). x.after) due));
    shaped = λ born notes. b.shaped born notes ∙ sym (ap (λ (x : Effect). without_bytes x.after) (done-due le born notes));
  }

-- FROM THE START, with numbers that were made free, TO THE BIRTH
module _ (m : Memory) (w : World) (zeros : List (Option ℕ)) (p child more : ℕ) (parts : List (Part Segment)) (fits : MemoryFits m) (known : KnowsZeros zeros m.spaces) (here : finite.get m.spaces p ≡ Some parts) (absent : finite.get m.spaces child ≡ None)
    (is : w ≡ record m.world { maps = m.world.maps ++ replicate more None }) where
  apart : p ≢ child
  apart e = let z : None ≡ Some parts = sym absent ∙ ap (finite.get m.spaces) (sym e) ∙ here in cc

  abbrev empty : Memory
  empty = with_empty_process m child

  numbers : ChangesSegments child empty (record { world = w; spaces = finite.insert m.spaces child [] }) (λ F. F)
  numbers = subst (λ (v : World). ChangesSegments child empty (record { world = v; spaces = finite.insert m.spaces child [] }) (λ F. F)) (sym is) (segment_rule.numbers empty child more (process-fits m child fits absent))

  pub forking : (kids : List (Part Segment)) → kids ≡ [] → IsForking w zeros m.spaces p child parts kids
  forking kids none = subst (IsForking w zeros m.spaces p child parts) (sym none) (record {
    apart = apart;
    here = here;
    memory = numbers.memory;
    known = known-same zeros m.spaces (finite.insert m.spaces child []) (zeros-now m child fits absent) known;
  })

  pub forked : (kids final : List (Part Segment)) (n : World) (list : List (Option ℕ)) (end : ℕ) → kids ≡ [] → ((q : ℕ) → end ≤ q → part_at parts q ≡ None)
      → ChangesSpace child (record { world = w; spaces = finite.insert m.spaces child kids }) (record { world = n; spaces = finite.insert m.spaces child final }) list (λ F. with_cells_copied F p child 0 end)
      → BearsProcess child m (record { world = n; spaces = finite.insert m.spaces child final }) (λ F. with_child F p child)
  forked kids final n list end none past copies =
      let start : Memory = record { world = w; spaces = finite.insert m.spaces child [] } in
      let last : Memory = record { world = n; spaces = finite.insert m.spaces child final } in
      let changes = subst (λ (ks : List (Part Segment)). ChangesSegments child (record { world = w; spaces = finite.insert m.spaces child ks }) last (λ F. with_cells_copied F p child 0 end)) none copies.changes in
      fork_rule.forked m last p child parts end fits here absent past (ap is_some (get-insert_here m.spaces child final))
      (segment_rule.joined child empty start last (λ F. F) (λ F. with_cells_copied F p child 0 end) (copied-respects p child 0 end) numbers changes)

-- COUNTS are the same with more numbers
owned-same : (maps : List (Option Map)) (more slot : ℕ) (ps : List (Part Segment)) → owned_in (maps ++ replicate more None) ps slot ≡ owned_in maps ps slot
owned-same maps more slot ps = ap (λ (f : Part Segment → ℕ). sum_by f ps)
    (λ i x. count_by (is_number slot) (held-same maps (maps ++ replicate more None) x.piece.own (λ n own. same-places maps (maps ++ replicate more None) n (past-none maps more n)) i))

pub counted-first : (m : Memory) (w : World) (more p : ℕ) (now : List ℕ) (parts : List (Part Segment)) → finite.get m.spaces p ≡ Some parts → w ≡ record m.world { maps = m.world.maps ++ replicate more None } → CountsForked (record { world = w; spaces = m.spaces }) now p → CountsForked m now p
counted-first m w more p now parts here is counted =
    let c = subst (λ (v : World). CountsForked (record { world = v; spaces = m.spaces }) now p) is counted in
    record {
      slots = c.slots;
      counts = λ slot. c.counts slot ∙ ap (λ (n : ℕ). slice_index m.world.anon.counts slot + n) (owned-same m.world.maps more slot (unwrap_or (finite.get m.spaces p) []));
    }

pub few-numbers : (maps : List (Option Map)) (more a b : ℕ) (ps : List (Part Segment)) → a ≡ b → AreFewHolders maps a ps → AreFewHolders (maps ++ replicate more None) b ps
few-numbers maps more a b ps same few = All-weaker (HasFewHolders maps a) (HasFewHolders (maps ++ replicate more None) b) (λ x has n is.
    let put : List (Option Map) = maps ++ replicate more None in
    let h = has n is in
    let e = past-none maps more n in
    let holders = same-holders maps put n e in
    let lt = h.1 in
    (same-there maps put n e h.0, omega (arith, holders, lt, same))) ps few

pub no-lack : (b : Bool) (n k : ℕ) → (IsTrue b ↔ (n < k)) → b ≡ false → k ≤ n
no-lack b n k tells not = elim (cases_lt n k) [ inl lt ↦ absurd (let z : false ≡ true = sym not ∙ tells.1 lt in cc) | inr le ↦ le ]
