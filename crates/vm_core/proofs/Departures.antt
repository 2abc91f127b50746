-- A flight leaves the state.
use Rattle.std.proofs.Common.{◌≡◌, ◌==◌, ◌&&◌, ℕ, Bool, true, false, cond, not, List, [], length, Option, Some, None, refl, sym, ap, ◌∙◌, inl, inr, subst, arith}
use Rattle.std.specs.Prelude.{IsSome, unwrap_or}
use Rattle.std.specs.Option.{option_map_or}
use Rattle.std.proofs.lemmas.Bool.Decides.{eqb_tells}
use Rattle.disk_marks.specs.Changes.{marks_begun}
use Rattle.fault_entry.specs.flat_model.Flat.{Flat}
use Rattle.fault_entry.specs.page_hash.declared.PageName.{PageName}
use Rattle.fault_entry.specs.page_store.Bays.{home, out}
use Rattle.fault_entry.specs.page_store.Flight.{FlightSeen, note_of}
use Rattle.fault_entry.specs.page_store.Steps.{home_bytes, next_frame}
use Rattle.fault_entry.specs.page_store.Transfers.{is_push}
use Rattle.fault_entry.specs.page_store.declared.plan.Plan.{Plan}
use Rattle.fault_entry.specs.page_store.declared.plan.Plan.TheVariants as plan
use Rattle.fault_entry.specs.vm_world.Events.{IsEvent}
use Rattle.fault_entry.specs.vm_world.FlatMemory.{Memory}
use Rattle.fault_entry.specs.seg_ops.Flights.{BeginsFor}
use Rattle.fault_entry.specs.vm_world.Marks.{MarksSeen}
use Rattle.fault_entry.specs.vm_world.MarksOf.{MaySend, marks_left}
use Rattle.fault_entry.specs.vm_world.Segments.{Spaces}
use Rattle.fault_entry.specs.vm_world.State.{KernelState, KeptPlan, Seats, Caller}
use Rattle.fault_entry.specs.vm_world.StateFits.{StateFits}
use Rattle.fault_entry.specs.vm_world.StateSteps.{PendsTails, after_step}
use Rattle.fault_entry.specs.vm_world.Wants.{MayPlan}
use Rattle.fault_entry.specs.vm_world.World.{World, world_table}
use Rattle.fault_entry.specs.vm_world.WorldSteps.{WorldStep, leaves}
use Rattle.fault_entry.specs.vm_world.ZeroObjects.{KnowsZeros}
use Rattle.fault_entry.proofs.page_store.QueryLemmas.{home-is}
use Rattle.fault_entry.proofs.seg_ops.Fills.{held-by}
use Rattle.fault_entry.proofs.vm_world.StateSteps.{state_rule}
use Rattle.vm_core.specs.Flights.{CanLeave, IsKeptFor, sent_with}
use Rattle.vm_core.specs.Marks.{marks_departed}
use Rattle.vm_core.specs.State.{IsSoundKernel}
use Rattle.vm_core.proofs.Landings.{disks-kept}

can-leave : (m : Memory) (of : Option Caller) (p : Plan) → MayPlan m of p → (is_push p ≡ false → IsSome (next_frame m.world.store)) → CanLeave m.world p
can-leave m (Some of) (plan.Read name) may frame = (may.1, frame refl)
can-leave m (Some of) (plan.Push name) may frame = may.0
can-leave m None (plan.Read name) may frame = absurd may
can-leave m None (plan.Push name) may frame = may

-- A KEPT PLAN can run.
pub kept-leaves : (opening : Flat) (s : KernelState) (seats : Seats) (seat : ℕ) (p : Plan) (kept : KeptPlan) → StateFits opening s seats → IsKeptFor s seat p kept → CanLeave s.memory.world p
kept-leaves opening s seats seat p kept fit k =
    let f = fit.plans.plan kept k.is in
    subst (λ (x : Plan). CanLeave s.memory.world x) k.same (can-leave s.memory kept.of kept.plan f.may f.frame)

-- WHAT IS KEPT after a flight left.
pub kept-left : (old new : World) (zeros after : List (Option ℕ)) (spaces : Spaces) (entries : List ℕ) (seats seat : ℕ) (f : FlightSeen) (cut : PageName → Bool) → IsSoundKernel old.store zeros spaces entries seats → after ≡ zeros → WorldStep old new spaces (leaves seat (note_of f)) cut → IsSoundKernel new.store after spaces entries seats
kept-left old new zeros after spaces entries seats seat f cut k same step =
    let disks = disks-kept old.store new.store f.number (home f.disk) (out seat) step.bays.0 refl refl step.bays.1 in
    let frames = step.frames in
    let was = k.frames in
    record { frames = omega (arith, disks, frames, was); known = subst (λ (l : List (Option ℕ)). KnowsZeros l spaces) (sym same) k.known; seated = k.seated }

-- WHAT IT SENDS. The push of a file's page has what the page's frame has, and goes to the page's place.
pub may-send : (w : World) (seat : ℕ) (p : Plan) (f : FlightSeen) → CanLeave w p → BeginsFor w seat p f → MaySend w (note_of f)
may-send w seat (plan.Read name) f can b = inr (λ pushes. let z : true ≡ false = sym pushes.writes ∙ b.begins.writes in cc)
may-send w seat (plan.Push name) f dirty b = elim (eqb_tells name.object 64) [
  | inl slot ↦ inr (λ pushes. pushes.far (ap (λ (n : PageName). n.object) b.begins.name ∙ slot.1))
  | inr file ↦
      let i = home-is w.store name dirty.frame dirty.home in
      let bytes : f.bytes ≡ i.bytes = b.bytes ∙ ap (home_bytes w.store) i.found ∙ ap (λ (o : Option (List ℕ)). unwrap_or o []) i.there in
      inl (record {
        pushes = record { writes = b.begins.writes; far = λ e. file.1 (sym (ap (λ (n : PageName). n.object) b.begins.name) ∙ e) };
        frame = dirty.frame;
        holds = held-by w.store name dirty.frame dirty.home ∙ ap (λ (n : PageName). Some n) (sym b.begins.name);
        bytes = i.there ∙ ap (λ (l : List ℕ). Some l) (sym bytes);
        disk = ap (λ (n : PageName). (world_table w n).disk) b.begins.name ∙ sym b.begins.number;
        block = ap (λ (n : PageName). (world_table w n).block) b.begins.name ∙ sym b.begins.block;
        valid = ap (λ (n : PageName). (world_table w n).valid) b.begins.name ∙ sym b.begins.valid;
      })
]

-- The marks are as what leaves makes them.
left-departed : (m : MarksSeen) (seat : ℕ) (f : FlightSeen) (entries : ℕ) → marks_left m seat (note_of f) entries ≡ marks_departed m seat f entries
left-departed m seat f entries = by_test (f.writes && not (f.name.object == 64))
  where
    by_test : (b : Bool) → cond b (marks_begun m seat f.name.object f.name.page entries) m
        ≡ option_map_or (λ (page : PageName × ℕ). marks_begun m seat page.0.object page.0.page entries) (cond b (Some (f.name, f.block)) None) m
    by_test true = refl
    by_test false = refl

-- THE EVENT.
pub leaving : (s t : KernelState) (new : World) (cut : PageName → Bool) (pending seat : ℕ) (p : Plan) (kept : KeptPlan) (f : FlightSeen) → WorldStep s.memory.world new s.memory.spaces (leaves seat (note_of f)) cut → PendsTails s.memory.world cut s.pending pending → IsKeptFor s seat p kept
    → CanLeave s.memory.world p → BeginsFor s.memory.world seat p f → t ≡ record (after_step s new pending) { marks = marks_departed s.marks seat f (length s.history) } → IsEvent seat s None t (Some (sent_with kept f))
leaving s t new cut pending seat p kept f step pends k can begins is =
    subst (λ (x : KernelState). IsEvent seat s None x (Some (sent_with kept f)))
    (ap (λ (m : MarksSeen). record (after_step s new pending) { marks = m }) (left-departed s.marks seat f (length s.history)) ∙ sym is)
    (state_rule.begins s new cut pending seat (sent_with kept f) kept step pends k.is k.mine refl (may-send s.memory.world seat p f can begins))
