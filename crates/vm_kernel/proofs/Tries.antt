-- Tries of the lock, one after another.
use Rattle.std.proofs.Common.{◌≡◌, ℕ, zero, suc, Option, Some, None, Result, Ok, Err, refl, sym, ◌∙◌, subst, inl, inr}
use Rattle.kernel_lock.specs.Seats.{after_enter, after_refusal}
use Rattle.vm_core.specs.fault_entry.Accesses.{IsAccess}
use Rattle.vm_core.specs.fault_entry.declared.answers.Answer.{Answer}
use Rattle.vm_core.specs.fault_entry.declared.answers.Answer.TheVariants as answer
use Rattle.vm_core.specs.vm_types.declared.call.Call.{Call}
use Rattle.vm_core.specs.vm_types.declared.call.Call.TheVariants.{Load, Store, Map, Unmap, Protect, Sync, Read, Write, Truncate, Fork, Exit}
use Rattle.vm_core.specs.vm_types.declared.call.Reply.{Reply}
use Rattle.vm_core.specs.vm_types.declared.call.Reply.TheVariants as reply
use Rattle.vm_core.specs.vm_world.State.{KernelState, Sent}
use Rattle.vm_kernel.specs.Callers.{KernelSeen, SeatSeen, CallerSeen}
use Rattle.vm_kernel.specs.Steps.{tried_of}
use Rattle.vm_kernel.specs.Tells.{TellsTry, files_of}
use Rattle.vm_kernel.specs.Tries.{MayFind, TriesInside, AreTriesFor, IsTryFor, IsAllFor, IsAllTo}
use Rattle.vm_kernel.specs.Turns.{caller_at, turn_of_try}
use Rattle.vm_kernel.specs.Visits.{LeavesTelling, LeavesTry, LeavesEnd}
use Rattle.vm_kernel.specs.declared.turn.Turn.{Turn}
use Rattle.vm_kernel.specs.declared.steps.Tried.{Tried}
use Rattle.vm_kernel.specs.declared.steps.Tried.TheVariants as tried

-- it is of no file
access-files : (call : Call) (reply : Reply) → IsAccess call → files_of call reply ≡ 0
access-files (Load a n) reply is = refl
access-files (Store a n v) reply is = refl
access-files (Map place len prot kind object offset) reply is = absurd is
access-files (Unmap a len) reply is = absurd is
access-files (Protect a len prot) reply is = absurd is
access-files (Sync a len) reply is = absurd is
access-files (Read file offset len) reply is = absurd is
access-files (Write file offset line rest) reply is = absurd is
access-files (Truncate file len) reply is = absurd is
access-files (Fork child) reply is = absurd is
access-files Exit reply is = absurd is

module _ (k : KernelSeen) (p : ℕ) (call : Call) where
  pub one-try : (v w : SeatSeen) → IsTryFor k p call v w → (n : ℕ) × AreTriesFor k p call n v w
  one-try v w t = (1, (v, refl, t))

  pub tries-both : (n m : ℕ) (u v w : SeatSeen) → AreTriesFor k p call n u v → AreTriesFor k p call m v w → (j : ℕ) × AreTriesFor k p call j u w
  tries-both n zero u v w first last = (n, subst (AreTriesFor k p call n u) (sym last) first)
  tries-both n (suc m) u v w first (x, then', last) = let r = tries-both n m u v x first then' in (suc r.0, (x, r.1, last))

  -- a visit that tried the call
  inside-so : (E : Type 0) (changes files : ℕ) (v b w : SeatSeen) (s : KernelState) (note : Option Sent) (r : Result Tried E) → b ≡ after_enter v s → LeavesTelling changes files b s p call w note r
      → LeavesTelling changes files (after_enter v s) s p call w note r
  inside-so E changes files v b w s note r is leaves = subst (λ (x : SeatSeen). LeavesTelling changes files x s p call w note r) is leaves

  pub tried-inside : (E : Type 0) (changes files : ℕ) (v b w : SeatSeen) (s : KernelState) (note : Option Sent) (t : Tried) → MayFind k v s → b ≡ after_enter v s → TellsTry {E = E} call (Ok t) changes files
      → LeavesTelling {E = E} changes files b s p call w note (Ok t) → IsTryFor k p call v w
  tried-inside E n m v b w s note (tried.Done r) finds is tells leaves =
      inr (inl (tried.Done r, record { found = s; finds = finds; note = note; changes = n; files = m; tells = tells; leaves = inside-so E n m v b w s note (Ok (tried.Done r)) is leaves }))
  tried-inside E n m v b w s note tried.Out finds is tells leaves =
      inr (inl (tried.Out, record { found = s; finds = finds; note = note; changes = n; files = m; tells = tells; leaves = inside-so E n m v b w s note (Ok tried.Out) is leaves }))
  tried-inside E n m v b w s note (tried.Busy h) finds is tells leaves =
      inr (inl (tried.Busy h, record { found = s; finds = finds; note = note; changes = n; files = m; tells = tells; leaves = inside-so E n m v b w s note (Ok (tried.Busy h)) is leaves }))

  -- of a load or a store nobody has to be told
  pub access-tells : (a : Answer) → IsAccess call → TellsTry {E = Unit {0}} call (Ok (tried_of a)) 0 0
  access-tells (answer.Word w) is = (sym (access-files call (reply.Word w) is), inr (is, refl))
  access-tells answer.Stored is = (sym (access-files call reply.Done is), inr (is, refl))
  access-tells (answer.Signal s) is = (sym (access-files call (reply.Signal s) is), inr (is, refl))
  access-tells (answer.Need plan) is = (refl, inl refl)
  access-tells (answer.Busy h) is = (refl, inl refl)

  pub first-all : {E : Type 0} (v b w : SeatSeen) (s : KernelState) (note : Option Sent) (r : Result Tried E) (x : Result (Option Turn) E) → MayFind k v s → b ≡ after_enter v s → LeavesTry b s p call w note r
      → x ≡ turn_of_try r → IsAllTo k (caller_at v p) call (caller_at w p) x
  first-all {E} v b w s note (Ok (tried.Done r)) x finds is leaves e =
      subst (IsAllTo k (caller_at v p) call (caller_at w p)) (sym e) (one-try v w (tried-inside E _ _ v b w s note (tried.Done r) finds is (refl, inl refl) leaves))
  first-all {E} v b w s note (Ok tried.Out) x finds is leaves e =
      subst (IsAllTo k (caller_at v p) call (caller_at w p)) (sym e) (one-try v w (tried-inside E _ _ v b w s note tried.Out finds is (refl, inl refl) leaves))
  first-all {E} v b w s note (Ok (tried.Busy h)) x finds is leaves e =
      subst (IsAllTo k (caller_at v p) call (caller_at w p)) (sym e) (one-try v w (tried-inside E _ _ v b w s note (tried.Busy h) finds is (refl, inl refl) leaves))
  first-all {E} v b w s note (Err f) x finds is leaves e =
      subst (IsAllTo k (caller_at v p) call (caller_at w p)) (sym e)
      (v, 0, refl, record { found = s; finds = finds; note = note; changes = 1; files = 0; tells = (refl, inl refl); leaves = inside-so E 1 0 v b w s note (Err f) is leaves })

  -- a visit that ended a transfer for it
  pub ended-inside : (v b w : SeatSeen) (s : KernelState) (note : Sent) (reply : Option Reply) → MayFind k v s → b ≡ after_enter v s → v.note ≡ Some note → note.of ≡ Some (p, call) → LeavesEnd b s note w reply → IsTryFor k p call v w
  ended-inside v b w s note reply finds is noted of leaves =
      inr (inr (record {
        found = s;
        finds = finds;
        note = note;
        noted = noted;
        of = of;
        reply = reply;
        leaves = subst (λ (x : SeatSeen). LeavesEnd x s note w reply) is leaves;
      }))

-- OF CALLERS
module _ (k : KernelSeen) (c m d : CallerSeen) (call : Call) (same : m.process ≡ c.process) (first : IsAllFor k c call m) where
  pub all-both : IsAllFor k m call d → IsAllFor k c call d
  all-both then' =
      let last = subst (λ (p : ℕ). (n : ℕ) × AreTriesFor k p call n m.seat d.seat) same then' in
      tries-both k c.process call first.0 last.0 c.seat m.seat d.seat first.1 last.1

  pub all-since : {A E : Type 0} (r : Result A E) → IsAllTo k m call d r → IsAllTo k c call d r
  all-since (Ok x) then' = all-both then'
  all-since (Err e) (x, n, tries, lacks) =
      let last = tries-both k c.process call first.0 n c.seat m.seat x first.1 (subst (λ (p : ℕ). AreTriesFor k p call n m.seat x) same tries) in
      (x, last.0, last.1, subst (λ (p : ℕ). TriesInside k p call x d.seat (Err tt)) same lacks)
