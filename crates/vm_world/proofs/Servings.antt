-- A call that is served is an event.
use Rattle.std.proofs.Common.{◌≡◌, ◌≢◌, ◌<◌, ℕ, suc, true, false, cond, List, length, map, Option, Some, None, refl, sym, ap, ◌∙◌, subst}
use Rattle.std.specs.Prelude.{IsSome, is_some, nat_lt, slice_index_or}
use Rattle.flat_model.specs.vm_types.declared.call.Call.{Call}
use Rattle.flat_model.specs.vm_types.declared.call.Call.TheVariants.{Fork, Sync, Truncate}
use Rattle.flat_model.specs.vm_types.declared.call.Reply.{Reply}
use Rattle.flat_model.specs.vm_types.declared.call.Reply.TheVariants.{Done, Synced}
use Rattle.page_store.specs.declared.plan.Hold.{Hold}
use Rattle.page_store.specs.declared.plan.Hold.TheVariants as hold
use Rattle.page_store.specs.declared.plan.Plan.{Plan}
use Rattle.flat_model.specs.Flat.{Flat}
use Rattle.vm_world.specs.declared.sync_start.SyncStart.{SyncStart}
use Rattle.vm_world.specs.CallSteps.{StaysAlive}
use Rattle.vm_world.specs.EntryLaws.{LocksAfter, StartsAfter}
use Rattle.vm_world.specs.Events.{IsEvent, CanTry, MayBear}
use Rattle.vm_world.specs.FlatMemory.{Memory}
use Rattle.vm_world.specs.Plans.{CanRunPlan, MayMeetFault, refusal_in}
use Rattle.vm_world.specs.Serving.{ServesDone, ServesNeed, ServesBusy}
use Rattle.vm_world.specs.ServingLaws.{done_entry, MayAnswer, IsOfAnother, after_wait, after_need, ServingLaw}
use Rattle.vm_world.specs.State.{KernelState, Caller, Seats, Sent, with_sent}
use Rattle.vm_world.specs.StateFits.{StateFits}
use Rattle.vm_world.specs.StateSteps.{after_step}
use Rattle.vm_world.specs.Wants.{MayHold, HoldsUp, seat_in}
use Rattle.vm_world.specs.World.{World}
use Rattle.vm_world.specs.CallSteps.{MarksAfterReply, with_entry_marked}
use Rattle.vm_world.specs.Marks.{MarksSeen}
use Rattle.vm_world.specs.StateEntries.{marks_answered}
use Rattle.vm_world.specs.WorldSteps.{KeepsTables}
use Rattle.mark_laws.specs.Cuts.{marks_shortened}
use Rattle.flat_model.specs.vnode_files.declared.vnode.FileInfo.{FileInfo}
use Rattle.flat_model.specs.vnode_files.Files.{FilesSeen, vnode_at}
use Rattle.flat_model.specs.vnode_files.Vnode.{VnodeSeen, no_vnode}
use Rattle.vm_world.proofs.FrameRule.{info-at}
use Rattle.vm_world.proofs.CallSteps.{rule-done}
use Rattle.vm_world.proofs.FlatWhole.{some-inj}
use Rattle.vm_world.proofs.Shapes.{refusal-kept}
use Rattle.vm_world.proofs.StateSteps.{rule-calm, rule-plans, this-seat}
use Rattle.vm_world.proofs.Told.{event-then, moving-sent, disk-sent}

-- a child is one that may be made, also after a step of the world
bears-then : (s : KernelState) (w : World) (pending p : ℕ) (call : Call) → MayBear s p call → MayBear (after_step s w pending) p call
bears-then s w pending p (Fork child) bears = bears
bears-then s w pending p call bears = search

same-memory : (old new : Memory) → new.spaces ≡ old.spaces → record old { world = new.world } ≡ new
same-memory old new spaces = λ i. record { world = new.world; spaces = sym spaces i }

-- a step of the world changes nothing of what an entry does to the marks
answered-same : (F G : FilesSeen) → map (λ (v : VnodeSeen). v.info) G.files ≡ map (λ (v : VnodeSeen). v.info) F.files → (call : Call) (reply : Reply) (entries : ℕ) (m : MarksSeen) → marks_answered F call reply entries m ≡ marks_answered G call reply entries m
answered-same F G infos (Truncate f len) Done entries m =
    let same : (vnode_at F f).info ≡ (vnode_at G f).info = info-at F.files f ∙ ap (λ (is : List FileInfo). slice_index_or is f no_vnode.info) (sym infos) ∙ sym (info-at G.files f) in
    ap (λ (info : FileInfo). cond (nat_lt len info.length) (marks_shortened m f info.disk info.extents info.length len entries) m) same
answered-same F G infos (Truncate f len) reply entries m = refl
answered-same F G infos call reply entries m = refl

marks-then : (old mid new : Memory) → KeepsTables old.world mid.world → (p : ℕ) (call : Call) (reply : Reply) (entries : ℕ) (m n : MarksSeen) → MarksAfterReply old new p call reply entries m n → MarksAfterReply mid new p call reply entries m n
marks-then old mid new tables p (Sync addr len) (Synced b) entries m n after = after
marks-then old mid new tables p call reply entries m n after = after ∙ answered-same old.world.files mid.world.files tables.infos call reply (suc entries) m

-- DONE: frames are taken, and then the call is done.
serves-done : (s : KernelState) (new : Memory) (seat p more : ℕ) (call : Call) (reply : Reply) (calls : List (Option ℕ)) (syncs : List (Option SyncStart)) (n : MarksSeen) → CanTry s seat p call → ServesDone s.memory new s.pending more p call reply → StaysAlive new p call → MayAnswer s seat p call reply
    → LocksAfter (done_entry p call reply more) s.calls calls → StartsAfter (done_entry p call reply more) s.syncs syncs → length syncs ≡ length s.syncs
    → MarksAfterReply s.memory new p call reply (length s.history) s.marks n
    → IsEvent seat s None (with_entry_marked (record s { memory = new }) (done_entry p call reply more) calls syncs n) None
serves-done s new seat p more call reply calls syncs n try serves stays may locks starts count after =
    let mid : KernelState = after_step s serves.mid more in
    event-then seat s mid (with_entry_marked (record mid { memory = new }) (done_entry p call reply more) calls syncs n) None None None
    (rule-calm s serves.mid serves.first.cut more seat None serves.first.step serves.first.pends)
    (rule-done mid new seat (done_entry p call reply more) calls syncs n (serves.acts more)
    (marks-then s.memory mid.memory new serves.first.step.tables p call reply (length s.history) s.marks n after) serves.clean stays (record {
      try = record { own = try.own; alive = try.alive; room = try.room; follows = try.follows; bears = bears-then s serves.mid more p call try.bears };
      cleared = refl;
      formed = may.formed;
      plain = may.plain;
      done = may.own;
      sync = may.sync;
      file = may.file;
      refusal = refusal-kept s.memory.world serves.mid s.memory.spaces p call (refusal_in reply) serves.first.step.tables serves.refusal;
    }) locks starts count)

-- A TRANSFER is needed first.
serves-need : (s : KernelState) (new : Memory) (seat p more : ℕ) (call : Call) (plan : Plan) → CanTry s seat p call → seat < length s.syncs → ServesNeed s.memory new s.pending more p call plan → IsEvent seat s None (after_need s new more seat p call plan) None
serves-need s new seat p more call plan try seated serves =
    let same = same-memory s.memory new serves.spaces in
    subst (λ (m : Memory). IsEvent seat s None (after_need s m more seat p call plan) None) same
    (rule-plans s new.world serves.first.cut more (record { seat = seat; plan = plan; of = Some (p, call) }) serves.first.step serves.first.pends (subst (λ (m : Memory). CanRunPlan m (Some (p, call)) plan) (sym same) serves.runs) seated
    (λ of is. subst (λ (c : Caller). CanTry s seat c.0 c.1 × MayMeetFault (record s.memory { world = new.world }) c.0 c.1) (some-inj (p, call) of is) (try, subst (λ (m : Memory). MayMeetFault m p call) (sym same) serves.fault)))

-- THE CALL HAS TO WAIT.
serves-busy : (s : KernelState) (new : Memory) (seat p more : ℕ) (call : Call) (hold : Hold) → ServesBusy s.memory new s.pending more s.calls p call hold → IsEvent seat s None (after_wait s new more) None
serves-busy s new seat p more call hold serves =
    subst (λ (m : Memory). IsEvent seat s None (after_wait s m more) None) (same-memory s.memory new serves.spaces) (rule-calm s new.world serves.first.cut more seat None serves.first.step serves.first.pends)

no-sent : (o : Option Sent) → o ≡ None → IsSome o → ⊥
no-sent o none is = let z : false ≡ true = sym (ap is_some none) ∙ is in cc

-- a seat that is waited for has something outside, or the file's lock
another-seat : (opening : Flat) (s : KernelState) (seats : Seats) (seat p : ℕ) (call : Call) (h : Hold) → StateFits opening s seats → seats seat ≡ None → HoldsUp s.memory s.calls p call h → IsOfAnother seat h → seat_in h ≢ seat
another-seat opening s seats seat p call (hold.File t) fit idle cause far = far
another-seat opening s seats seat p call (hold.Page t) fit idle cause far = λ same. no-sent (seats seat) idle (subst (λ (k : ℕ). IsSome (seats k)) same (moving-sent opening s seats _ t fit cause.2))
another-seat opening s seats seat p call (hold.Disk t) fit idle cause far = λ same. no-sent (seats seat) idle (subst (λ (k : ℕ). IsSome (seats k)) same (disk-sent opening s seats _ t fit cause.2))

serves-another : (opening : Flat) (s : KernelState) (seats : Seats) (new : Memory) (seat p more : ℕ) (call : Call) (hold : Hold) → StateFits opening s seats → seats seat ≡ None → CanTry s seat p call → ServesBusy s.memory new s.pending more s.calls p call hold → IsOfAnother seat hold
    → MayHold new s.calls p call hold
serves-another opening s seats new seat p more call hold fit idle try serves far =
    let later : StateFits opening (after_wait s new more) (with_sent seats seat None) = (serves-busy s new seat p more call hold serves).fits opening seats idle fit in
    record {
      other = λ same. another-seat opening (after_wait s new more) (with_sent seats seat None) seat p call hold later (this-seat seats seat None) serves.holds far (same ∙ try.own);
      cause = serves.holds;
    }

pub serving_law : ServingLaw
serving_law = record { done = serves-done; need = serves-need; busy = serves-busy; another = serves-another }
