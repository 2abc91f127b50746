use Rattle.std.proofs.Common.{◌≡◌, refl, ap, sym, ◌∙◌, subst}
use Rattle.std.proofs.lemmas.Result.{err_from_is_err_and}
use Rattle.vm_kernel.specs.Tries.{IsAllFor, IsAllTo}
use Rattle.vm_kernel.specs.Turns.{IsQuick, HasComeTo, IsCallDone, reply_of}
use Rattle.vm_kernel.proofs.Calling.{Unanswered, done-since, goes-both, goes-not, may-still, quick-done, unanswered-on}
use Rattle.vm_kernel.proofs.Tries.{all-both, all-since}
use Rattle.vm_kernel.proofs.kernel.VmKernel.call_by_turns.Given.{Over}
use Rattle.vm_kernel.proofs.kernel.VmKernel.call_by_turns.Goals as goal
use Rattle.vm_kernel.proofs.kernel.VmKernel.call_by_turns.Goals.{In-Later}

pub loop-init : goal.loop-init
loop-init g c = (c.requires.caller, goes-not c.args.caller.now c.own_law.ensures.own, refl, c.requires.may.hand, refl, (0, refl))

pub access-requires-clause-may : goal.access-requires-clause-may
access-requires-clause-may g c = may-still c.args.self.now c.args.caller.now c.loop.caller c.args.call.now c.requires.may c.loop.invariant.1 c.loop.invariant.2 c.loop.invariant.3

pub returns-in_default : goal.returns-in_default
returns-in_default g c = record {
  caller = c.access.ensures.caller;
  goes = goes-both c.args.caller.now c.loop.caller c.access.new.caller c.loop.invariant.1 c.access.ensures.goes;
  done =
      done-since c.args.caller.now c.loop.caller c.access.new.caller c.args.call.now c.loop.invariant.1 c.access.ensures.goes c.loop.invariant.2 c.reply_of.result
      (subst (IsCallDone c.loop.caller c.args.call.now c.access.new.caller) (sym c.reply_of.ensures)
      (quick-done c.loop.caller c.args.call.now c.access.new.caller c.access.result c.in_default.not-Later c.access.ensures.quick));
  err = tt;
  all = all-both c.args.self.now c.args.caller.now c.loop.caller c.access.new.caller c.args.call.now c.loop.invariant.1.process c.loop.invariant.5 c.access.ensures.all;
}

-- behind a try that has no reply
again : (g : Over) (c : In-Later g) → Unanswered c.args.caller.now c.args.call.now c.access.new.caller
again g c =
    let later = subst (IsQuick c.loop.caller c.args.call.now c.access.new.caller) c.in-Later.is c.access.ensures.quick in
    unanswered-on c.args.caller.now c.loop.caller c.access.new.caller c.args.call.now (record { goes = c.loop.invariant.1; own = c.loop.invariant.2; hand = c.loop.invariant.3 })
    c.access.ensures.goes later.0 later.1

-- all tries behind such a try
so-far : (g : Over) (c : In-Later g) → IsAllFor c.args.self.now c.args.caller.now c.args.call.now c.access.new.caller
so-far g c =
    all-both c.args.self.now c.args.caller.now c.loop.caller c.access.new.caller c.args.call.now c.loop.invariant.1.process c.loop.invariant.5 c.access.ensures.all

pub go_on-requires-clause-may : goal.go_on-requires-clause-may
go_on-requires-clause-may g c =
    let u = again g (goal.at.go_on-requires-clause-may g c).In-Later in
    may-still c.args.self.now c.args.caller.now c.access.new.caller c.args.call.now c.requires.may u.goes u.own u.hand

pub returns-in-Some-reply-clause-goes : goal.returns-in-Some-reply-clause-goes
returns-in-Some-reply-clause-goes g c =
    goes-both c.args.caller.now c.access.new.caller c.go_on.new.caller (again g (goal.at.returns-in-Some-reply-clause-goes g c).In-Later).goes c.go_on.ensures.goes

pub returns-in-Some-reply-clause-done : goal.returns-in-Some-reply-clause-done
returns-in-Some-reply-clause-done g c =
    let u = again g (goal.at.returns-in-Some-reply-clause-done g c).In-Later in
    done-since c.args.caller.now c.access.new.caller c.go_on.new.caller c.args.call.now u.goes c.go_on.ensures.goes u.own c.in-Some-reply.reply
    (subst (HasComeTo c.access.new.caller c.args.call.now c.go_on.new.caller) c.in-Some-reply.is c.in_ok-go_on.ensures.turn)

pub returns-in-Some-reply-clause-all : goal.returns-in-Some-reply-clause-all
returns-in-Some-reply-clause-all g c =
    let at = (goal.at.returns-in-Some-reply-clause-all g c).In-Later in
    all-both c.args.self.now c.args.caller.now c.access.new.caller c.go_on.new.caller c.args.call.now (again g at).goes.process (so-far g at)
    (subst (IsAllTo c.args.self.now c.access.new.caller c.args.call.now c.go_on.new.caller) c.in_ok-go_on.was c.go_on.ensures.all)

pub returns-in_err-go_on-clause-goes : goal.returns-in_err-go_on-clause-goes
returns-in_err-go_on-clause-goes g c =
    goes-both c.args.caller.now c.access.new.caller c.go_on.new.caller (again g (goal.at.returns-in_err-go_on-clause-goes g c).In-Later).goes c.go_on.ensures.goes

pub returns-in_err-go_on-clause-all : goal.returns-in_err-go_on-clause-all
returns-in_err-go_on-clause-all g c =
    let is = err_from_is_err_and c.from_residual.result c.from_residual.ensures.1 in
    let at = (goal.at.returns-in_err-go_on-clause-all g c).In-Later in
    rw is.1
    (subst (IsAllTo c.args.self.now c.args.caller.now c.args.call.now c.go_on.new.caller) c.in_err-go_on.was
    (all-since c.args.self.now c.args.caller.now c.access.new.caller c.go_on.new.caller c.args.call.now (again g at).goes.process (so-far g at) c.go_on.result c.go_on.ensures.all))

pub loop-preserved : goal.loop-preserved
loop-preserved g c =
    let at = (goal.at.loop-preserved g c).In-Later in
    let u = again g at in
    let turn = subst (HasComeTo c.access.new.caller c.args.call.now c.go_on.new.caller) c.in-None-reply.is c.in_ok-go_on.ensures.turn in
    let n = unanswered-on c.args.caller.now c.access.new.caller c.go_on.new.caller c.args.call.now u c.go_on.ensures.goes turn.0 turn.1 in (
      c.go_on.ensures.caller,
      n.goes,
      n.own,
      n.hand,
      c.in-None-reply.is,
      all-both c.args.self.now c.args.caller.now c.access.new.caller c.go_on.new.caller c.args.call.now u.goes.process (so-far g at)
          (subst (IsAllTo c.args.self.now c.access.new.caller c.args.call.now c.go_on.new.caller) c.in_ok-go_on.was c.go_on.ensures.all),
    )
