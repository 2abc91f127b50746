-- The test of a birth.
use Rattle.std.proofs.Common.{◌≡◌, ℕ, Bool, true, false, refl, ap}
use Rattle.std.specs.Prelude.{◌↔◌, IsTrue, if◌then◌else◌}
use Rattle.std.proofs.lemmas.Bool.{eqb-true, eq-eqb}
use Rattle.vm_types.specs.declared.call.Call.{Call}
use Rattle.vm_types.specs.declared.call.Call.TheVariants.{Fork}
use Rattle.vm_types.specs.declared.call.Reply.{Reply}
use Rattle.vm_types.specs.declared.call.Reply.TheVariants.{Done}
use Rattle.vm_types.specs.declared.call.Entry.{Entry}
use Rattle.flat_model.specs.History.{IsBirth}
use Rattle.flat_model.specs.Births.{is_done, is_fork_of, is_birth}

done_is : (r : Reply) → is_done r ≡ true → r ≡ Done
done_is Done is = refl
done_is r is = absurd cc

fork_is : (p : ℕ) (c : Call) → is_fork_of p c ≡ true → c ≡ Fork p
fork_is p (Fork child) is = ap (λ k. Fork k) (eqb-true child p is)
fork_is p c is = absurd cc

both_of : (a b : Bool) → (if a then b else false) ≡ true → (a ≡ true) × (b ≡ true)
both_of true b is = (refl, is)
both_of false b is = absurd cc

birth_of : (p : ℕ) (c : Call) (r : Reply) → c ≡ Fork p → r ≡ Done → (if is_done r then is_fork_of p c else false) ≡ true
birth_of p c r call reply = rw (call, reply) (eq-eqb p p refl)

pub is_birth-is : (p : ℕ) (e : Entry) → IsTrue (is_birth p e) ↔ IsBirth p e
is_birth-is p e = (λ is. let both = both_of (is_done e.reply) (is_fork_of p e.call) is in (fork_is p e.call both.1, done_is e.reply both.0), λ is. birth_of p e.call e.reply is.0 is.1)
