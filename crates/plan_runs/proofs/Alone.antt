-- The kernel of one block, as its one caller sees it: the parts of a call, and the lines.
use Rattle.std.proofs.Common.{◌≡◌, ◌⊎◌, ℕ, ◌+◌, ◌++◌, ◌≤◌, ◌==◌, List, [], ◌∷◌, drop, length, Some, None, refl, sym, ap, ◌∙◌, inl, inr, subst, arith, append-nil}
use Rattle.std.proofs.lemmas.List.Elements.{All-append, All-cons, All-nil, filter-append}
use mathlib.Core.List.{IsPrefix}
use Rattle.volume_files.specs.vm_types.declared.call.Call.{Call}
use Rattle.volume_files.specs.vm_types.declared.call.Entry.{Entry}
use Rattle.volume_files.specs.vm_types.declared.call.Reply.{Reply}
use Rattle.volume_files.specs.vm_types.Parts.{next_part, part_bytes, HasRest}
use Rattle.volume_files.specs.vm_types.WellFormed.{IsWellFormed}
use Rattle.volume_files.specs.flat_model.Told.{entries_of}
use Rattle.volume_files.specs.vm_script.declared.plan.PlanLine.{PlanLine}
use Rattle.volume_files.specs.vm_script.Counts.{parts}
use Rattle.volume_files.specs.vm_script.Told.{Spell}
use Rattle.vm_core.specs.Calls.{TakesMemory}
use Rattle.vm_core.specs.vm_world.Events.{IsEvent}
use Rattle.vm_core.specs.vm_world.SeatLaws.{IsKnownAlive}
use Rattle.vm_core.specs.vm_world.State.{KernelState, Fixed, room_of}
use Rattle.vm_core.proofs.vm_world.Told.{event_law}
use Rattle.vm_kernel.specs.Callers.{CallerSeen}
use Rattle.vm_kernel.specs.Turns.{MayCall}
use Rattle.block_runs.specs.Callers.{IsCaller, HasMade}
use Rattle.block_runs.specs.Conditions.{MayMakeLine}
use Rattle.block_runs.specs.Lines.{IsCallLine, LineTakesMemory, own_of}
use Rattle.block_runs.specs.Parts.{MakesParts, MayMakeParts}
use Rattle.block_runs.specs.Rows.{Agree, IsOnWay, MakesLine, StopsForMemory}
use Rattle.block_runs.proofs.Goings.{may_make}
use Rattle.block_runs.proofs.Lists.{prefix_refl}
use Rattle.block_runs.proofs.NextLines.{is_own}
use Rattle.block_runs.proofs.Parting.{PartsMade, part_may, parts_end, parts_next, parts_start}
use Rattle.block_runs.proofs.Runs.{runs_nothing}
use Rattle.block_runs.proofs.Stretching.{GoesOn, at_line, go_line, go_start}
use Rattle.plan_runs.specs.Lines.{AreOfOne, HasOneMore, alone_caller, alone_kernel}
use Rattle.plan_runs.proofs.GoingOn.{may-now}
use Rattle.plan_runs.proofs.ToldLines.{of-one}
use Rattle.plan_runs.proofs.Trips.{then-too}

pub alone-is : (s : KernelState) (H : List Entry) → IsCaller (alone_kernel s) (alone_caller s H)
alone-is s H = record { of = (refl, refl, refl); named = refl; free = refl; own = refl }

-- AN ENTRY MORE
pub alone-made : (s t u : KernelState) (call : Call) (reply : Reply) → HasOneMore t u 1 call reply → HasMade (alone_caller s t.history) (alone_caller s u.history) call reply
alone-made s t u call reply more =
    let e : Entry = record { process = 1; call = call; reply = reply; cleared = more.0 } in
    record {
      entry = e;
      is_call = refl;
      is_reply = refl;
      more = record {
        process = refl;
        begun = (e ∷ [], sym more.1);
        own = ap (λ (es : List Entry). entries_of es 1) more.1 ∙ filter-append (λ (x : Entry). x.process == 1) t.history (e ∷ []);
      };
    }

pub of-one-more : (t u : KernelState) (call : Call) (reply : Reply) → AreOfOne t.history → HasOneMore t u 1 call reply → AreOfOne u.history
of-one-more t u call reply alone more =
    let e : Entry = record { process = 1; call = call; reply = reply; cleared = more.0 } in
    subst AreOfOne (sym more.1) (All-append (λ (x : Entry). x.process ≡ 1) t.history (e ∷ []) alone (All-cons (λ (x : Entry). x.process ≡ 1) e [] refl (All-nil (λ (x : Entry). x.process ≡ 1))))

-- THE PARTS OF A CALL so far, from one state to another: this one may be made.
pub record AloneParts (s t : KernelState) (c0 : Call) (b0 : List ℕ) (c : Call) (b : List ℕ) : Type 0 where
  pub event : IsEvent 0 s None t None
  pub alone : AreOfOne t.history
  pub parts : PartsMade (alone_kernel s) (alone_caller s s.history) (alone_caller s t.history) c0 b0 c b

pub alone-start : (s : KernelState) (c : Call) (b : List ℕ) → AreOfOne s.history → MayMakeParts (alone_kernel s) (alone_caller s s.history) c b → AloneParts s s c b c b
alone-start s c b alone may = record {
  event = event_law.rests 0 s None;
  alone = alone;
  parts = parts_start (alone_kernel s) (alone_caller s s.history) c b (alone-is s s.history) may;
}

pub alone-may : (s t : KernelState) (c0 : Call) (b0 : List ℕ) (c : Call) (b : List ℕ) → AloneParts s t c0 b0 c b → MayCall (alone_kernel t) (alone_caller t t.history) c
alone-may s t c0 b0 c b made =
    may-now s t t.history c made.event refl (part_may (alone_kernel s) (alone_caller s s.history) (alone_caller s t.history) c0 b0 c b made.parts)

module _ (s t u : KernelState) (c0 : Call) (b0 : List ℕ) (c : Call) (b : List ℕ) (made : AloneParts s t c0 b0 c b) (event : IsEvent 0 t None u None) where
  pub alone-next : (r : Reply) (next : Call) (left : List ℕ) → HasOneMore t u 1 c r → next_part c r b ≡ Some next → left ≡ drop (length (part_bytes next)) b → IsWellFormed next
      → HasRest next (drop (length (part_bytes next)) b) → AloneParts s u c0 b0 next left
  alone-next r next left more is left-is formed still = record {
    event = then-too s t u made.event event;
    alone = of-one-more t u c r made.alone more;
    parts = subst (PartsMade (alone_kernel s) (alone_caller s s.history) (alone_caller s u.history) c0 b0 next) (sym left-is)
        (parts_next (alone_kernel s) (alone_caller s s.history) (alone_caller s t.history) (alone_caller s u.history) c0 b0 c b r next made.parts (alone-made s t u c r more) is (alone-is s u.history) formed still);
  }

  pub alone-end : (r : Reply) → HasOneMore t u 1 c r → next_part c r b ≡ None → MakesParts (alone_caller s s.history) (alone_caller s u.history) c0 b0
  alone-end r more is = parts_end (alone_kernel s) (alone_caller s s.history) (alone_caller s t.history) (alone_caller s u.history) c0 b0 c b r made.parts (alone-made s t u c r more) is

  -- memory lacked: at the first part
  pub alone-lacked : AreOfOne s.history → u.history ≡ t.history → TakesMemory c → u.history ≡ s.history
  alone-lacked was same takes = elim made.parts.part [
    | inl none ↦
        same
        ∙ (sym (of-one t.history made.alone)
        ∙ (made.parts.more.own
        ∙ (ap (λ (es : List Entry). entries_of s.history 1 ++ es) none
        ∙ (append-nil (entries_of s.history 1) ∙ of-one s.history was))))
    | inr never ↦ absurd (never takes)
  ]

-- A LINE that may be made, and was, by what the caller has seen, whichever state the kernel began with
pub line-now : (s t : KernelState) (H : List Entry) (l : PlanLine) → IsEvent 0 s None t None → MayMakeLine (alone_kernel s) (alone_caller s H) l → MayMakeLine (alone_kernel t) (alone_caller t H) l
line-now s t H l event may =
    let parents : t.parents ≡ s.parents = ap (λ (f : Fixed). f.parents) event.fixed in
    let entries : t.entries ≡ s.entries = ap (λ (f : Fixed). f.entries) event.fixed in
    record {
      fit = may.fit;
      alive = subst (λ (ps : List ℕ). IsKnownAlive ps H (entries_of H 1) 1) (sym parents) may.alive;
      room = subst (λ (es : List ℕ). length (entries_of H 1) + parts l.act ≤ room_of es 1) (sym entries) may.room;
      ends = may.ends;
    }

line-then : (s t : KernelState) (H K : List Entry) (l : PlanLine) → MakesLine (alone_caller t H) (alone_caller t K) l → MakesLine (alone_caller s H) (alone_caller s K) l
line-then s t H K l made = record {
  es = made.es;
  more = record { process = refl; begun = made.more.begun; own = made.more.own };
  own = made.own;
  bears = made.bears;
}

-- THE LINES so far, from one state to another: these are left.
pub record AloneLines (s t : KernelState) (lines left : List PlanLine) : Type 0 where
  pub event : IsEvent 0 s None t None
  pub alone : AreOfOne t.history
  pub goes : GoesOn (alone_kernel s) (alone_caller s []) (alone_caller s t.history) lines left [] 2 2

no-lines : (s : KernelState) → GoesOn (alone_kernel s) (alone_caller s []) (alone_caller s []) [] [] [] 2 2
no-lines s = record {
  passed = [];
  whole = refl;
  caller = alone-is s [];
  fit = record { room = λ q. omega arith; acts = tt };
  may = tt;
  process = refl;
  begun = prefix_refl [];
  ran = [];
  idle = [];
  cut = refl;
  count = omega arith;
  below = omega arith;
  stands = inl (refl, omega arith);
  shorter = omega arith;
  others = λ q from. refl;
  did = λ seen agree. record { made = []; front = refl; runs = runs_nothing seen 1 [] };
}

pub lines-start : (s : KernelState) (lines : List PlanLine) → s.history ≡ [] → (lines ≡ []) ⊎ IsOnWay (alone_kernel s) lines (alone_caller s []) [] 2 → AloneLines s s lines lines
lines-start s lines none ready = record {
  event = event_law.rests 0 s None;
  alone = subst AreOfOne (sym none) (All-nil (λ (e : Entry). e.process ≡ 1));
  goes = subst (λ (H : List Entry). GoesOn (alone_kernel s) (alone_caller s []) (alone_caller s H) lines lines [] 2 2) (sym none) (elim ready [
    | inl is ↦ subst (λ (ls : List PlanLine). GoesOn (alone_kernel s) (alone_caller s []) (alone_caller s []) ls ls [] 2 2) (sym is) (no-lines s)
    | inr way ↦ go_start (alone_kernel s) (alone_caller s []) lines [] 2 way
  ]);
}

pub line-may : (s t : KernelState) (lines left behind : List PlanLine) (l : PlanLine) → left ≡ l ∷ behind → AloneLines s t lines left → MayMakeLine (alone_kernel t) (alone_caller t t.history) l
line-may s t lines left behind l is so-far =
    let g = so-far.goes in
    line-now s t t.history l so-far.event
    (may_make (alone_kernel s) (alone_caller s t.history) 2 l left behind is (at_line s.parents 1 2 2 left behind l g.stands is).own g.fit g.may)

pub lines-more : (s t u : KernelState) (lines left behind : List PlanLine) (l : PlanLine) → left ≡ l ∷ behind → AloneLines s t lines left → IsCallLine l.act → IsEvent 0 t None u None → AreOfOne u.history
    → MakesLine (alone_caller t t.history) (alone_caller t u.history) l → AloneLines s u lines behind
lines-more s t u lines left behind l is so-far line event alone made = record {
  event = then-too s t u so-far.event event;
  alone = alone;
  goes = go_line (alone_kernel s) (alone_caller s []) (alone_caller s t.history) (alone_caller s u.history) lines left behind l [] 2 2 so-far.goes is line
      (line-then s t t.history u.history l made) (alone-is s u.history);
}

-- WHAT WAS MADE: a front of the lines, those that aren't left.
record AloneMade (lines left : List PlanLine) (H : List Entry) : Type 0 where
  made : List PlanLine
  front : made ++ own_of 1 left ≡ own_of 1 lines
  own : Spell made (entries_of H 1)

none-ran : (ran idle : List CallerSeen) → [] ≡ ran ++ idle → ran ≡ []
none-ran [] idle is = refl
none-ran (v ∷ ran) idle is = absurd (cc is)

alone-front : (s t : KernelState) (lines left : List PlanLine) → AloneLines s t lines left → AloneMade lines left t.history
alone-front s t lines left so-far =
    let g = so-far.goes in
    let seen : ℕ → List Entry = λ p. [] in
    let went = g.did seen (subst (Agree seen) (sym (none-ran g.ran g.idle g.cut)) tt) in
    record {
      made = went.made;
      front = went.front;
      own = subst (Spell went.made) (sym went.runs.grown) went.runs.own;
    }

pub lines-front : (s t : KernelState) (lines left : List PlanLine) (H : List Entry) → AloneLines s t lines left → H ≡ t.history → (made : List PlanLine) × IsPrefix made (own_of 1 lines) × Spell made (entries_of H 1)
lines-front s t lines left H so-far same =
    let m = alone-front s t lines left so-far in
    (m.made, (own_of 1 left, m.front), subst (λ (K : List Entry). Spell m.made (entries_of K 1)) (sym same) m.own)

pub lines-all : (s t : KernelState) (lines left : List PlanLine) → AloneLines s t lines left → left ≡ [] → Spell (own_of 1 lines) (entries_of t.history 1)
lines-all s t lines left so-far none =
    let m = alone-front s t lines left so-far in
    let whole : m.made ≡ own_of 1 lines = sym (append-nil m.made) ∙ (ap (λ (ls : List PlanLine). m.made ++ own_of 1 ls) (sym none) ∙ m.front) in
    subst (λ (ls : List PlanLine). Spell ls (entries_of t.history 1)) whole m.own

pub lines-stopped : (s t : KernelState) (lines left behind : List PlanLine) (l : PlanLine) (H : List Entry) → left ≡ l ∷ behind → AloneLines s t lines left → H ≡ t.history → LineTakesMemory l.act → StopsForMemory (own_of 1 lines) (entries_of H 1)
lines-stopped s t lines left behind l H is so-far same takes =
    let m = alone-front s t lines left so-far in
    let own = (at_line s.parents 1 2 2 left behind l so-far.goes.stands is).own in
    record {
      made = m.made;
      line = l;
      left = own_of 1 behind;
      whole = ap (λ (ls : List PlanLine). m.made ++ ls) (sym (is_own 1 l behind own)) ∙ (ap (λ (ls : List PlanLine). m.made ++ own_of 1 ls) (sym is) ∙ m.front);
      spelled = subst (λ (K : List Entry). Spell m.made (entries_of K 1)) (sym same) m.own;
      takes = takes;
    }
