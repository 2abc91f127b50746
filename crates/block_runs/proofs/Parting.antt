-- A call goes on from part to part.
use Rattle.std.proofs.Common.{◌≡◌, ℕ, ◌+◌, ◌-◌, ◌≤◌, ◌<◌, ◌||◌, ◌==◌, Bool, true, false, List, [], ◌∷◌, ◌++◌, length, Option, Some, None, refl, sym, ap, ◌∙◌, subst, cond, append_assoc, append-nil, arith, ◌⊎◌, inl, inr, eq-eqb, length-drop}
use Rattle.std.specs.Prelude.{IsFalse, IsTrue, MatchOption, drop, min, take}
use Rattle.std.specs.List.{list_any, AllByRecursion}
use Rattle.std.proofs.lemmas.Bool.{false≢true}
use Rattle.std.proofs.lemmas.List.{length-take}
use Rattle.std.proofs.lemmas.List.Folds.{list_any-append}
use Rattle.vm_script.specs.vm_types.declared.call.Call.{Call}
use Rattle.vm_script.specs.vm_types.declared.call.Call.TheVariants as call
use Rattle.vm_script.specs.vm_types.declared.call.Reply.{Reply}
use Rattle.vm_script.specs.vm_types.declared.call.Entry.{Entry}
use Rattle.vm_script.specs.vm_types.Pages.{line_rest}
use Rattle.vm_script.specs.vm_types.Parts.{next_part, is_part, part_bytes, first_write, HasRest}
use Rattle.vm_script.specs.vm_types.WellFormed.{IsWellFormed}
use Rattle.vm_script.specs.flat_model.Births.{is_birth}
use Rattle.vm_script.specs.flat_model.OpenLaws.{last_entry, FollowsOn, MayFollow}
use Rattle.vm_script.specs.flat_model.Told.{entries_of, Spells}
use Rattle.vm_script.specs.declared.plan.PlanAct.TheVariants as act
use Rattle.vm_script.specs.Counts.{call_parts, line_count}
use Rattle.vm_script.proofs.Tellings.{prefix_trans}
use Rattle.vm_script.proofs.flat_model.Opens.{last_entry-push}
use Rattle.vm_core.specs.Calls.{TakesMemory}
use Rattle.vm_core.specs.vm_world.HistoryFits.{is_exit, is_exit_of, has_left}
use Rattle.vm_core.specs.vm_world.SeatLaws.{IsKnownAlive, IsNewChild, MayComeNext}
use Rattle.vm_core.specs.vm_world.ServingLaws.{done_entry}
use Rattle.vm_core.specs.vm_world.State.{is_top, room_of}
use Rattle.vm_core.proofs.vm_world.SeatRules.{seat_law}
use Rattle.vm_kernel.specs.Callers.{KernelSeen, CallerSeen}
use Rattle.vm_kernel.specs.Turns.{MayCall, IsForCall}
use Rattle.block_runs.specs.Callers.{tree, rooms, IsCaller, SeesMore, HasMade}
use Rattle.block_runs.specs.Lines.{IsCallLine}
use Rattle.block_runs.specs.Parts.{FillsLine, MakesParts, MayMakeParts}
use Rattle.block_runs.proofs.KernelCalls.{follows_any}
use Rattle.block_runs.proofs.Counting.{count_one, count_step, none_some, read_next, write_next}
use Rattle.block_runs.proofs.Lists.{prefix_refl, each_back}
use Rattle.block_runs.proofs.Lasts.{own_each}
use Rattle.block_runs.proofs.Runs.{bears_none, no_next}
use Rattle.block_runs.proofs.Spelled.{entry_stays}

-- ENTRIES THAT A CALLER MADE, one behind the other
sees_same : (v : CallerSeen) → SeesMore v v []
sees_same v = record { process = refl; begun = prefix_refl v.seat.seen; own = sym (append-nil (entries_of v.seat.seen v.process)) }

sees_then : (u v w : CallerSeen) (es fs : List Entry) → SeesMore u v es → SeesMore v w fs → SeesMore u w (es ++ fs)
sees_then u v w es fs a b = record {
  process = b.process ∙ a.process;
  begun = prefix_trans u.seat.seen v.seat.seen w.seat.seen a.begun b.begun;
  own = subst (λ q. entries_of w.seat.seen q ≡ entries_of v.seat.seen q ++ fs) a.process b.own ∙ (ap (λ xs. xs ++ fs) a.own ∙ append_assoc (entries_of u.seat.seen u.process) es fs);
}

-- THE NEXT PART is of a line, fills its own, and leaves one entry fewer
pub record GoesOnWith (c next : Call) : Type 0 where
  pub part : is_part next ≡ true
  pub fills : FillsLine next
  pub less : 1 + call_parts next ≤ call_parts c
  pub stays : IsFalse (is_exit c)
  pub takes : TakesMemory next → ⊥

pub fills_first : (file offset : ℕ) (bytes : List ℕ) → FillsLine (first_write file offset bytes)
fills_first file offset bytes = by_rest (split (length bytes) (line_rest offset))
  where
    split : (a b : ℕ) → (a ≤ b) ⊎ (b < a)
    split a b = grind arith

    by_rest : (length bytes ≤ line_rest offset) ⊎ (line_rest offset < length bytes) → FillsLine (first_write file offset bytes)
    by_rest (inl few) = inl (let taken = length-take (line_rest offset) bytes in omega (arith, taken, few))
    by_rest (inr many) = inr (let taken = length-take (line_rest offset) bytes in omega (arith, taken, many))

pub count_first : (file offset : ℕ) (bytes : List ℕ) → call_parts (first_write file offset bytes) ≡ line_count offset (length bytes)
count_first file offset bytes = ap (line_count offset) (let taken = length-take (line_rest offset) bytes in omega (arith, taken))

read_goes : (file offset len : ℕ) (r : Reply) (b : List ℕ) (next : Call) → next_part (call.Read file offset len) r b ≡ Some next → GoesOnWith (call.Read file offset len) next
read_goes file offset len r b next is =
    let n = read_next file offset len r b next is in
    subst (GoesOnWith (call.Read file offset len)) (sym n.is) (record { part = refl; fills = tt; less = count_step offset len n.k n.low n.reach n.less; stays = refl; takes = λ t. t })

write_goes : (file offset : ℕ) (line : List ℕ) (rest : ℕ) (r : Reply) (b : List ℕ) (next : Call) → length b ≡ rest → FillsLine (call.Write file offset line rest) → next_part (call.Write file offset line rest) r b ≡ Some next → GoesOnWith (call.Write file offset line rest) next
write_goes file offset line rest r b next still fills is =
    let n = write_next file offset line rest r b next is in
    let some = n.some in
    let filled : length line ≡ line_rest offset = (elim fills [ inl none ↦ absurd (let z : rest ≡ 0 = none in omega (arith, z, some)) | inr full ↦ full ]) in
    let count : call_parts (first_write file (offset + length line) b) ≡ line_count (offset + length line) (length b) = count_first file (offset + length line) b in
    let step : 1 + line_count (offset + length line) (length line + rest - length line) ≤ line_count offset (length line + rest) = count_step offset (length line + rest) (length line) n.low (omega (arith, filled)) (omega (arith, some)) in
    let same : line_count (offset + length line) (length b) ≡ line_count (offset + length line) (length line + rest - length line) = ap (line_count (offset + length line)) (omega (arith, still)) in
    subst (GoesOnWith (call.Write file offset line rest)) (sym n.is) (record { part = refl; fills = fills_first file (offset + length line) b; less = omega (arith, count, step, same); stays = refl; takes = λ t. t })

pub goes_on : (c : Call) (r : Reply) (b : List ℕ) (next : Call) → HasRest c b → FillsLine c → next_part c r b ≡ Some next → GoesOnWith c next
goes_on (call.Read file offset len) r b next still fills is = read_goes file offset len r b next is
goes_on (call.Write file offset line rest) r b next still fills is = write_goes file offset line rest r b next still fills is
goes_on (call.Load a n) r b next still fills is = absurd (none_some next (sym (no_next (call.Load a n) r b refl) ∙ is))
goes_on (call.Store a n v) r b next still fills is = absurd (none_some next (sym (no_next (call.Store a n v) r b refl) ∙ is))
goes_on (call.Map at len prot kind object offset) r b next still fills is = absurd (none_some next (sym (no_next (call.Map at len prot kind object offset) r b refl) ∙ is))
goes_on (call.Unmap a len) r b next still fills is = absurd (none_some next (sym (no_next (call.Unmap a len) r b refl) ∙ is))
goes_on (call.Protect a len prot) r b next still fills is = absurd (none_some next (sym (no_next (call.Protect a len prot) r b refl) ∙ is))
goes_on (call.Sync a len) r b next still fills is = absurd (none_some next (sym (no_next (call.Sync a len) r b refl) ∙ is))
goes_on (call.Truncate file len) r b next still fills is = absurd (none_some next (sym (no_next (call.Truncate file len) r b refl) ∙ is))
goes_on (call.Fork child) r b next still fills is = absurd (none_some next (sym (no_next (call.Fork child) r b refl) ∙ is))
goes_on call.Exit r b next still fills is = absurd (none_some next (sym (no_next call.Exit r b refl) ∙ is))

part_line : (c : Call) → is_part c ≡ true → IsCallLine (act.Call c)
part_line (call.Fork child) is = absurd (false≢true is)
part_line (call.Load a n) is = tt
part_line (call.Store a n v) is = tt
part_line (call.Map at len prot kind object offset) is = tt
part_line (call.Unmap a len) is = tt
part_line (call.Protect a len prot) is = tt
part_line (call.Sync a len) is = tt
part_line (call.Read file offset len) is = tt
part_line (call.Write file offset bytes left) is = tt
part_line (call.Truncate file len) is = tt
part_line call.Exit is = tt

-- each call is at least one entry
pub some_parts : (c : Call) → IsWellFormed c → 1 ≤ call_parts c
some_parts (call.Read file offset len) formed = count_one offset len formed.1 formed.3
some_parts (call.Write file offset line rest) formed = let some = formed.2.some in count_one offset (length line + rest) formed.1 (omega (arith, some))
some_parts (call.Load a n) formed = omega arith
some_parts (call.Store a n v) formed = omega arith
some_parts (call.Map at len prot kind object offset) formed = omega arith
some_parts (call.Unmap a len) formed = omega arith
some_parts (call.Protect a len prot) formed = omega arith
some_parts (call.Sync a len) formed = omega arith
some_parts (call.Truncate file len) formed = omega arith
some_parts (call.Fork child) formed = omega arith
some_parts call.Exit formed = omega arith

-- no line but a fork bears a child
new_child : (parents : List ℕ) (own : List Entry) (p : ℕ) (c : Call) → IsCallLine (act.Call c) → IsNewChild parents own p c
new_child parents own p (call.Load a n) line = tt
new_child parents own p (call.Store a n v) line = tt
new_child parents own p (call.Map at len prot kind object offset) line = tt
new_child parents own p (call.Unmap a len) line = tt
new_child parents own p (call.Protect a len prot) line = tt
new_child parents own p (call.Sync a len) line = tt
new_child parents own p (call.Read file offset len) line = tt
new_child parents own p (call.Write file offset bytes more) line = tt
new_child parents own p (call.Truncate file len) line = tt
new_child parents own p (call.Fork child) line = absurd line
new_child parents own p call.Exit line = tt

-- A CALL HAS COME SO FAR: its parts before this one are made, and this one may be made.
pub record PartsMade (k : KernelSeen) (v0 v : CallerSeen) (c0 : Call) (b0 : List ℕ) (c : Call) (b : List ℕ) : Type 0 where
  pub es : List Entry
  pub more : SeesMore v0 v es
  pub on : (rest : List Entry) → Spells c b rest → Spells c0 b0 (es ++ rest)
  pub bears : (d : ℕ) → list_any (is_birth d) es ≡ false
  pub caller : IsCaller k v
  pub formed : IsWellFormed c
  pub still : HasRest c b
  pub fills : FillsLine c
  pub line : IsCallLine (act.Call c)
  pub part : (es ≡ []) ⊎ (TakesMemory c → ⊥)
  pub takes : TakesMemory c → TakesMemory c0
  pub alive : IsKnownAlive (tree k) v.seat.seen (entries_of v.seat.seen v.process) v.process
  pub room : length (entries_of v.seat.seen v.process) + call_parts c ≤ room_of (rooms k) v.process
  pub follows : (reply : Reply) (cleared : ℕ) → MayFollow (entries_of v.seat.seen v.process) (done_entry v.process c reply cleared)

pub parts_start : (k : KernelSeen) (v : CallerSeen) (c : Call) (b : List ℕ) → IsCaller k v → MayMakeParts k v c b → PartsMade k v v c b c b
parts_start k v c b caller may = record {
  es = [];
  more = sees_same v;
  on = λ rest s. s;
  bears = λ d. refl;
  caller = caller;
  formed = may.formed;
  still = may.rest;
  fills = may.fills;
  line = may.line;
  part = inl refl;
  takes = λ t. t;
  alive = may.alive;
  room = may.room;
  follows = λ reply cleared. follows_any v.process (entries_of v.seat.seen v.process) (done_entry v.process c reply cleared) refl may.ends;
}

-- it may be made
pub part_may : (k : KernelSeen) (v0 v : CallerSeen) (c0 : Call) (b0 : List ℕ) (c : Call) (b : List ℕ) → PartsMade k v0 v c0 b0 c b → MayCall k v c
part_may k v0 v c0 b0 c b made = record {
  formed = made.formed;
  alive = subst (λ own. IsKnownAlive (tree k) v.seat.seen own v.process) made.caller.own made.alive;
  next = subst (λ own. MayComeNext (tree k) (rooms k) own v.process c) made.caller.own (record {
    room = let some = some_parts c made.formed in let room = made.room in omega (arith, some, room);
    follows = made.follows;
    bears = new_child (tree k) (entries_of v.seat.seen v.process) v.process c made.line;
  });
  hand = subst (IsForCall v.process c) (sym made.caller.free) tt;
}

-- it was made, and another comes
module _ (k : KernelSeen) (v0 v w : CallerSeen) (c0 : Call) (b0 : List ℕ) (c : Call) (b : List ℕ) (r : Reply) (next : Call) (made : PartsMade k v0 v c0 b0 c b) (one : HasMade v w c r) (is : next_part c r b ≡ Some next) where
  abbrev e : Entry
  e = one.entry

  goes : GoesOnWith c next
  goes = goes_on c r b next made.still made.fills is

  own-w : entries_of w.seat.seen w.process ≡ entries_of v.seat.seen v.process ++ e ∷ []
  own-w = ap (entries_of w.seat.seen) one.more.process ∙ one.more.own

  alive-w : IsKnownAlive (tree k) w.seat.seen (entries_of w.seat.seen w.process) w.process
  alive-w = record {
    born = subst (λ (q : ℕ). IsTrue (is_top (tree k) q || list_any (is_birth q) w.seat.seen)) (sym one.more.process)
        (subst (λ (S : List Entry). IsTrue (is_top (tree k) v.process || list_any (is_birth v.process) S)) one.more.begun.1
        (seat_law.longer (tree k) v.seat.seen one.more.begun.0 (entries_of v.seat.seen v.process) v.process made.alive).born);
    here = subst (λ (q : ℕ). IsFalse (has_left q (entries_of w.seat.seen w.process))) (sym one.more.process)
        (subst (λ (own : List Entry). IsFalse (has_left v.process own)) (sym own-w)
        (list_any-append (is_exit_of v.process) (entries_of v.seat.seen v.process) (e ∷ []) ∙ (ap (λ z. z || has_left v.process (e ∷ [])) made.alive.here ∙ ap (λ z. z || false) (entry_stays v.process e c one.is_call goes.stays))));
  }

  count-w : length (entries_of w.seat.seen w.process) ≡ length (entries_of v.seat.seen v.process) + 1
  count-w = ap length own-w ∙ length-push (entries_of v.seat.seen v.process) e
    where
      length-push : (xs : List Entry) (x : Entry) → length (xs ++ x ∷ []) ≡ length xs + 1
      length-push [] x = refl
      length-push (y ∷ xs) x = let ih = length-push xs x in omega (arith, ih)

  last-w : (reply : Reply) (cleared : ℕ) → MayFollow (entries_of w.seat.seen w.process) (done_entry w.process next reply cleared)
  last-w reply cleared = subst (λ (own : List Entry). MayFollow own (done_entry w.process next reply cleared)) (sym own-w)
      (subst (λ (o : Option Entry). MatchOption o (Unit {0}) (λ d. FollowsOn d (done_entry w.process next reply cleared))) (sym (last_entry-push (entries_of v.seat.seen v.process) e w.process))
      (by_own (e.process == w.process) (eq-eqb e.process w.process own-e)))
    where
      own-e : e.process ≡ w.process
      own-e =
          (each_back (λ (x : Entry). x.process ≡ v.process) (entries_of v.seat.seen v.process) (e ∷ []) (subst (AllByRecursion (λ (x : Entry). x.process ≡ v.process)) one.more.own (own_each v.process w.seat.seen))).0
          ∙ sym one.more.process

      on-e : FollowsOn e (done_entry w.process next reply cleared)
      on-e = inr (b, ap (λ x. next_part x e.reply b) one.is_call ∙ ap (λ x. next_part c x b) one.is_reply ∙ is)

      by_own : (z : Bool) → z ≡ true → MatchOption (cond z (Some e) (last_entry w.process (entries_of v.seat.seen v.process))) (Unit {0}) (λ d. FollowsOn d (done_entry w.process next reply cleared))
      by_own true mine = on-e
      by_own false mine = absurd (false≢true mine)

  pub parts_next : IsCaller k w → IsWellFormed next → HasRest next (drop (length (part_bytes next)) b) → PartsMade k v0 w c0 b0 next (drop (length (part_bytes next)) b)
  parts_next caller formed still = record {
    es = made.es ++ e ∷ [];
    more = sees_then v0 v w made.es (e ∷ []) made.more one.more;
    on = λ rest s. subst (Spells c0 b0) (sym (append_assoc made.es (e ∷ []) rest))
        (made.on (e ∷ rest) (one.is_call, subst (λ o. MatchOption o (rest ≡ []) (λ n. Spells n (drop (length (part_bytes n)) b) rest)) (sym (ap (λ z. next_part c z b) one.is_reply ∙ is)) s));
    bears = λ d. list_any-append (is_birth d) made.es (e ∷ []) ∙ (ap (λ z. z || list_any (is_birth d) (e ∷ [])) (made.bears d) ∙ bears_none d e c one.is_call made.line);
    caller = caller;
    formed = formed;
    still = still;
    fills = goes.fills;
    line = part_line next goes.part;
    part = inr goes.takes;
    takes = λ t. absurd (goes.takes t);
    alive = alive-w;
    room = subst (λ (q : ℕ). length (entries_of w.seat.seen w.process) + call_parts next ≤ room_of (rooms k) q) (sym one.more.process) (let less = goes.less in let room = made.room in let count = count-w in omega (arith, less, room, count));
    follows = last-w;
  }

-- it was the last
pub parts_end : (k : KernelSeen) (v0 v w : CallerSeen) (c0 : Call) (b0 : List ℕ) (c : Call) (b : List ℕ) (r : Reply) → PartsMade k v0 v c0 b0 c b → HasMade v w c r → next_part c r b ≡ None → MakesParts v0 w c0 b0
parts_end k v0 v w c0 b0 c b r made one is =
    let e = one.entry in
    record {
      es = made.es ++ e ∷ [];
      more = sees_then v0 v w made.es (e ∷ []) made.more one.more;
      own = made.on (e ∷ []) (one.is_call, subst (λ o. MatchOption o (◌≡◌ {A = List Entry} [] []) (λ n. Spells n (drop (length (part_bytes n)) b) [])) (sym (ap (λ z. next_part c z b) one.is_reply ∙ is)) refl);
      bears = λ d. list_any-append (is_birth d) made.es (e ∷ []) ∙ (ap (λ z. z || list_any (is_birth d) (e ∷ [])) (made.bears d) ∙ bears_none d e c one.is_call made.line);
    }

-- memory lacked: at the first part
pub parts_err : (k : KernelSeen) (v0 v w : CallerSeen) (c0 : Call) (b0 : List ℕ) (c : Call) (b : List ℕ) → PartsMade k v0 v c0 b0 c b → SeesMore v w [] → TakesMemory c → SeesMore v0 w []
parts_err k v0 v w c0 b0 c b made more takes = elim made.part [
  | inl none ↦ subst (SeesMore v0 w) (ap (λ xs. xs ++ []) none) (sees_then v0 v w made.es [] made.more more)
  | inr never ↦ absurd (never takes)
]
