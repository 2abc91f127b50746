-- A call that takes several turns.
use Rattle.std.proofs.Common.{◌≡◌, ℕ, ◌+◌, Bool, true, false, List, ◌++◌, refl, ap, sym, ◌∙◌, subst, arith, append_assoc, le_refl}
use Rattle.std.specs.Prelude.{IfOk, IsTrue, OnErr, Result, Ok, Err, ◌||◌}
use Rattle.std.specs.List.{list_any}
use Rattle.std.proofs.lemmas.List.Folds.{list_any-append}
use mathlib.Core.List.{IsPrefix}
use Rattle.kernel_lock.proofs.Begun.{prefix_more, prefix_self}
use Rattle.vm_core.specs.flat_model.Births.{is_birth}
use Rattle.vm_core.specs.vm_types.declared.call.Call.{Call}
use Rattle.vm_core.specs.vm_types.declared.call.Entry.{Entry}
use Rattle.vm_core.specs.vm_types.declared.call.Reply.{Reply}
use Rattle.vm_core.specs.vm_world.SeatLaws.{IsKnownAlive, MayComeNext}
use Rattle.vm_core.proofs.vm_world.SeatRules.{seat_law}
use Rattle.vm_kernel.specs.Callers.{KernelSeen, CallerSeen, ShowsOwn}
use Rattle.vm_kernel.specs.Turns.{MayCall, CallerGoesOn, IsQuick, IsTurn, IsCallDone, LacksMemory, IsForCall, caller_at, reply_of}
use Rattle.vm_kernel.specs.declared.turn.Quick.{Quick}
use Rattle.vm_kernel.specs.declared.turn.Quick.TheVariants as quick
use Rattle.vm_kernel.specs.declared.turn.Turn.{Turn}
use Rattle.vm_kernel.proofs.Visited.{turn-later, done-later, refused-later}

pub goes-not : (c : CallerSeen) → ShowsOwn c → CallerGoesOn c c
goes-not c own = record { process = refl; number = refl; seen = prefix_self c.seat.seen; own = own; refused = le_refl c.seat.refused; leaves = le_refl c.seat.leaves; emptied = le_refl c.seat.emptied; told = le_refl (c.seat.told + c.seat.emptied); told_files = le_refl c.seat.told_files }

pub goes-both : (c m d : CallerSeen) → CallerGoesOn c m → CallerGoesOn m d → CallerGoesOn c d
goes-both c m d a b = record {
  process = b.process ∙ a.process;
  number = b.number ∙ a.number;
  seen = subst (IsPrefix c.seat.seen) b.seen.1 (prefix_more c.seat.seen m.seat.seen b.seen.0 a.seen);
  own = b.own;
  refused = let x = a.refused in let y = b.refused in omega (arith, x, y);
  leaves = let x = a.leaves in let y = b.leaves in omega (arith, x, y);
  emptied = let x = a.emptied in let y = b.emptied in omega (arith, x, y);
  told = let x = a.told in let y = b.told in omega (arith, x, y);
  told_files = let x = a.told_files in let y = b.told_files in omega (arith, x, y);
}

pub may-still : (k : KernelSeen) (c m : CallerSeen) (call : Call) → MayCall k c call → CallerGoesOn c m → m.seat.own ≡ c.seat.own → IsForCall c.process call m.seat.note → MayCall k m call
may-still k c m call may goes own hand = record {
  formed = may.formed;
  alive =
      subst (λ (q : ℕ). IsKnownAlive k.opening.parents m.seat.seen m.seat.own q) (sym goes.process)
      (subst (λ (es : List Entry). IsKnownAlive k.opening.parents m.seat.seen es c.process) (sym own)
      (subst (λ (w : List Entry). IsKnownAlive k.opening.parents w c.seat.own c.process) goes.seen.1 (seat_law.longer k.opening.parents c.seat.seen goes.seen.0 c.seat.own c.process may.alive)));
  next =
      subst (λ (q : ℕ). MayComeNext k.opening.parents k.opening.entries m.seat.own q call) (sym goes.process)
      (subst (λ (es : List Entry). MayComeNext k.opening.parents k.opening.entries es c.process call) (sym own) may.next);
  hand = subst (λ (q : ℕ). IsForCall q call m.seat.note) (sym goes.process) hand;
}

-- A try that is done.
pub quick-done : (c : CallerSeen) (call : Call) (d : CallerSeen) (q : Quick) → (q ≡ quick.Later → ⊥) → IsQuick c call d q → IsCallDone c call d (reply_of q)
quick-done c call d (quick.Word w) done is = is
quick-done c call d quick.Stored done is = is
quick-done c call d (quick.Signal s) done is = is
quick-done c call d quick.Later done is = absurd (done refl)

-- A call that has no entry yet.
pub record Unanswered (c : CallerSeen) (call : Call) (d : CallerSeen) : Type 0 where
  pub goes : CallerGoesOn c d
  pub own : d.seat.own ≡ c.seat.own
  pub hand : IsForCall c.process call d.seat.note

pub unanswered-on : (c m d : CallerSeen) (call : Call) → Unanswered c call m → CallerGoesOn m d → d.seat.own ≡ m.seat.own → IsForCall m.process call d.seat.note → Unanswered c call d
unanswered-on c m d call u goes own hand = record {
  goes = goes-both c m d u.goes goes;
  own = own ∙ u.own;
  hand = subst (λ (q : ℕ). IsForCall q call d.seat.note) u.goes.process hand;
}

module _ (c m d : CallerSeen) (call : Call) (first : CallerGoesOn c m) (then' : CallerGoesOn m d) (own : m.seat.own ≡ c.seat.own) where
  -- by the process that they share
  at-mid : m ≡ caller_at m.seat c.process
  at-mid = ap (caller_at m.seat) first.process

  at-last : d ≡ caller_at d.seat c.process
  at-last = ap (caller_at d.seat) (then'.process ∙ first.process)

  goes-mid : CallerGoesOn c (caller_at m.seat c.process)
  goes-mid = subst (CallerGoesOn c) at-mid first

  pub turn-since : (turn : Turn) → IsTurn m call d turn → IsTurn c call d turn
  turn-since turn has =
      subst (λ (x : CallerSeen). IsTurn c call x turn) (sym at-last)
      (turn-later c.seat m.seat d.seat c.process call goes-mid turn own (subst (λ (x : CallerSeen). IsTurn x call (caller_at d.seat c.process) turn) at-mid (subst (λ (x : CallerSeen). IsTurn m call x turn) at-last has)))

  pub done-since : (r : Reply) → IsCallDone m call d r → IsCallDone c call d r
  done-since r has =
      subst (λ (x : CallerSeen). IsCallDone c call x r) (sym at-last)
      (done-later c.seat m.seat d.seat c.process call goes-mid r own (subst (λ (x : CallerSeen). IsCallDone x call (caller_at d.seat c.process) r) at-mid (subst (λ (x : CallerSeen). IsCallDone m call x r) at-last has)))

  pub refused-since : LacksMemory m call d → LacksMemory c call d
  refused-since has =
      subst (λ (x : CallerSeen). LacksMemory c call x) (sym at-last)
      (refused-later c.seat m.seat d.seat c.process call goes-mid own (subst (λ (x : CallerSeen). LacksMemory x call (caller_at d.seat c.process)) at-mid (subst (λ (x : CallerSeen). LacksMemory m call x) at-last has)))

  -- of a call to its end
  pub call-done-since : {E : Type 0} (r : Result Reply E) → IfOk r (λ (x : Reply). IsCallDone m call d x) → IfOk r (λ (x : Reply). IsCallDone c call d x)
  call-done-since (Ok x) has = done-since x has
  call-done-since (Err e) has = has

  pub call-lacks-since : {E : Type 0} (r : Result Reply E) → OnErr r (LacksMemory m call d) → OnErr r (LacksMemory c call d)
  call-lacks-since (Ok x) has = has
  call-lacks-since (Err e) has = refused-since has
