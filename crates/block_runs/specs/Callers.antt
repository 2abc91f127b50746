-- A caller between the calls of its process, and what a call makes of it. Public clauses cite this.
use Rattle.std.specs.Prelude.{ℕ, suc, ◌≡◌, ◌≤◌, ◌++◌, List, [], ◌∷◌, None}
use mathlib.Core.List.{IsPrefix}
use Rattle.vm_script.specs.vm_types.declared.call.Call.{Call}
use Rattle.vm_script.specs.vm_types.declared.call.Reply.{Reply}
use Rattle.vm_script.specs.vm_types.declared.call.Entry.{Entry}
use Rattle.vm_script.specs.flat_model.Told.{entries_of}
use Rattle.vm_kernel.specs.Callers.{KernelSeen, CallerSeen, IsCallerOf}
use Rattle.vm_kernel.specs.Tries.{AreMoves}
use Rattle.vm_kernel.specs.Turns.{MovesHands}

-- Each process's parent, and its most entries, by the set-up.
abbrev pub tree : KernelSeen → List ℕ
tree k = k.opening.parents

-- The most entries of each process, by the set-up.
abbrev pub rooms : KernelSeen → List ℕ
rooms k = k.opening.entries

-- A CALLER BETWEEN CALLS: it is one of this kernel's, for the process of its seat, and has nothing in hand; and what it has seen has of its process just the
-- entries that it made.
pub record IsCaller (k : KernelSeen) (c : CallerSeen) : Type 0 where
  pub of : IsCallerOf k c
  pub named : c.process ≡ suc c.seat.number
  pub free : c.seat.note ≡ None
  pub own : entries_of c.seat.seen c.process ≡ c.seat.own

-- The caller has seen no less, and made these entries meanwhile.
pub record SeesMore (v w : CallerSeen) (es : List Entry) : Type 0 where
  pub process : w.process ≡ v.process
  pub begun : IsPrefix v.seat.seen w.seat.seen
  pub own : entries_of w.seat.seen v.process ≡ entries_of v.seat.seen v.process ++ es

-- The caller made one entry, with this call and reply.
pub record HasMade (v w : CallerSeen) (call : Call) (reply : Reply) : Type 0 where
  pub entry : Entry
  pub is_call : entry.call ≡ call
  pub is_reply : entry.reply ≡ reply
  pub more : SeesMore v w (entry ∷ [])

-- A caller that moves the clock, between its turns: one of this kernel's, with nothing in hand.
pub record IsClock (k : KernelSeen) (c : CallerSeen) : Type 0 where
  pub of : IsCallerOf k c
  pub free : c.seat.note ≡ None

-- It is one still, with the same number, and made so many moves of a hand, each with the push that it asked for.
pub record TurnsClock (k : KernelSeen) (c : CallerSeen) (turns : ℕ) (d : CallerSeen) : Type 0 where
  pub clock : IsClock k d
  pub number : d.seat.number ≡ c.seat.number
  pub left : (pushes : ℕ) × (pushes ≤ turns) × MovesHands c turns pushes d
  pub moves : AreMoves k turns c.seat d.seat
