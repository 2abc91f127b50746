-- Tests in their order, and what a call does: the reply that is due, and flat memory after it. Public clauses cite this.
use Rattle.std.specs.Prelude.{Bool, Result, Ok, Err, if◌then◌else◌}
use Rattle.vm_types.specs.declared.call.Signal.{Signal}
use Rattle.vm_types.specs.declared.call.Errno.{Errno}
use Rattle.vm_types.specs.declared.call.Reply.{Reply}
use Rattle.vm_types.specs.declared.call.Reply.TheVariants as reply
use Rattle.flat_model.specs.Flat.{Flat}

-- A test, and then another of what the first gave; where the first refuses, its refusal stands.
infixl 10 ◌>>=◌
abbrev pub ◌>>=◌ : {A B E : Type 0} → Result A E → (A → Result B E) → Result B E
(Ok x) >>= f = f x
(Err e) >>= f = Err e

-- One test after another, the second without what the first gave: the first refusal stands.
infixl 10 ◌>>◌
abbrev pub ◌>>◌ : {A B E : Type 0} → Result A E → Result B E → Result B E
r >> s = r >>= λ _. s

-- A test that has to hold, and the refusal where it doesn't.
abbrev pub check : {E : Type 0} → Bool → E → Result (Unit {0}) E
check b e = if b then Ok tt else Err e

-- What a call does.
pub record Effect : Type 0 where
  pub reply : Reply
  pub after : Flat

-- A signal is the reply and changes nothing.
abbrev pub or_signal : {A : Type 0} → Flat → (A → Effect) → Result A Signal → Effect
or_signal F acts (Ok x) = acts x
or_signal F acts (Err s) = record { reply = reply.Signal s; after = F }

-- A refusal is the reply and changes nothing.
abbrev pub or_refused : {A : Type 0} → Flat → (A → Effect) → Result A Errno → Effect
or_refused F acts (Ok x) = acts x
or_refused F acts (Err e) = record { reply = reply.Refused e; after = F }

-- The call is done, and this is flat memory then.
abbrev pub done_effect : Flat → Effect
done_effect G = record { reply = reply.Done; after = G }
