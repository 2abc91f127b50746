-- What the entries that spell a line are.
use Rattle.std.proofs.Common.{◌≡◌, ℕ, suc, ◌+◌, ◌==◌, ◌≤◌, ◌||◌, Bool, true, false, List, [], ◌∷◌, ◌++◌, length, Option, Some, None, refl, sym, ap, ◌∙◌, subst, cond, eq-eqb, append-nil, arith}
use Rattle.std.specs.Prelude.{MatchOption, IsFalse, drop}
use Rattle.std.specs.List.{list_any}
use Rattle.std.proofs.lemmas.List.{length-take}
use Rattle.vm_script.specs.vm_types.declared.call.Call.{Call}
use Rattle.vm_script.specs.vm_types.declared.call.Call.TheVariants as call
use Rattle.vm_script.specs.vm_types.declared.call.Reply.{Reply}
use Rattle.vm_script.specs.vm_types.declared.call.Reply.TheVariants as reply
use Rattle.vm_script.specs.vm_types.declared.call.Entry.{Entry}
use Rattle.vm_script.specs.vm_types.Pages.{line_rest}
use Rattle.vm_script.specs.vm_types.Parts.{next_part, part_bytes, first_write, is_past_numbers, HasRest}
use Rattle.vm_script.specs.vm_types.WellFormed.{IsWellFormed}
use Rattle.vm_script.specs.flat_model.Births.{is_birth}
use Rattle.vm_script.specs.flat_model.Told.{SpelledLine, Spells, SpellsAll, entries_of}
use Rattle.vm_script.specs.declared.plan.PlanAct.{PlanAct}
use Rattle.vm_script.specs.declared.plan.PlanAct.TheVariants as act
use Rattle.vm_script.specs.Counts.{call_parts, parts}
use Rattle.vm_script.specs.Told.{calls_of}
use Rattle.vm_core.specs.vm_world.HistoryFits.{is_exit, is_exit_of, has_left}
use Rattle.block_runs.specs.Conditions.{IsFitAct, EndsLast}
use Rattle.block_runs.specs.Lines.{IsCallLine, is_end}
use Rattle.block_runs.proofs.Counting.{few_reads, few_writes, count_one, read_next, write_next, none_some}
use Rattle.block_runs.proofs.Goings.{AreMade}
use Rattle.block_runs.proofs.Lasts.{ends_last}
use Rattle.block_runs.proofs.NextLines.{inner_end}
use Rattle.block_runs.proofs.Runs.{no_next, fork_alone}

-- a next part is no Exit
next_stays : (c : Call) (r : Reply) (b : List ℕ) (n : Call) → next_part c r b ≡ Some n → IsFalse (is_exit n)
next_stays (call.Read file offset len) r b n is = ap is_exit (read_next file offset len r b n is).is
next_stays (call.Write file offset line rest) r b n is = ap is_exit (write_next file offset line rest r b n is).is
next_stays (call.Load a k) r b n is = absurd (none_some n (sym (no_next (call.Load a k) r b refl) ∙ is))
next_stays (call.Store a k v) r b n is = absurd (none_some n (sym (no_next (call.Store a k v) r b refl) ∙ is))
next_stays (call.Map at len prot kind object offset) r b n is = absurd (none_some n (sym (no_next (call.Map at len prot kind object offset) r b refl) ∙ is))
next_stays (call.Unmap a len) r b n is = absurd (none_some n (sym (no_next (call.Unmap a len) r b refl) ∙ is))
next_stays (call.Protect a len prot) r b n is = absurd (none_some n (sym (no_next (call.Protect a len prot) r b refl) ∙ is))
next_stays (call.Sync a len) r b n is = absurd (none_some n (sym (no_next (call.Sync a len) r b refl) ∙ is))
next_stays (call.Truncate file len) r b n is = absurd (none_some n (sym (no_next (call.Truncate file len) r b refl) ∙ is))
next_stays (call.Fork child) r b n is = absurd (none_some n (sym (no_next (call.Fork child) r b refl) ∙ is))
next_stays call.Exit r b n is = absurd (none_some n (sym (no_next call.Exit r b refl) ∙ is))

pub entry_stays : (p : ℕ) (e : Entry) (c : Call) → e.call ≡ c → IsFalse (is_exit c) → IsFalse (is_exit_of p e)
entry_stays p e c is stays = by_own (e.process == p)
  where
    by_own : (b : Bool) → cond b (is_exit e.call) false ≡ false
    by_own true = ap is_exit is ∙ stays
    by_own false = refl

-- entries that spell a call that is no Exit have none
spelled_stays : (p : ℕ) (c : Call) (b : List ℕ) (es : List Entry) → IsFalse (is_exit c) → Spells c b es → IsFalse (has_left p es)
spelled_stays p c b [] stays spells = absurd spells
spelled_stays p c b (e ∷ es) stays spells =
    ap (λ z. z || has_left p es) (entry_stays p e c spells.0 stays)
    ∙ by_next (λ n is s. spelled_stays p n (drop (length (part_bytes n)) b) es (next_stays c e.reply b n is) s) (next_part c e.reply b) refl spells.1
  where
    by_next : ((n : Call) → next_part c e.reply b ≡ Some n → Spells n (drop (length (part_bytes n)) b) es → has_left p es ≡ false) → (o : Option Call) → next_part c e.reply b ≡ o
        → MatchOption o (es ≡ []) (λ n. Spells n (drop (length (part_bytes n)) b) es) → has_left p es ≡ false
    by_next again None is none = ap (has_left p) none
    by_next again (Some n) is more = again n is more

-- a write with all its bytes has no next part
whole_write : (file offset : ℕ) (line : List ℕ) (rest : ℕ) (r : Reply) (b : List ℕ) → rest ≡ 0 → next_part (call.Write file offset line rest) r b ≡ None
unfolding next_part
whole_write file offset line rest reply.Done b none = ap (λ z. cond z None (cond (is_past_numbers (offset + length line)) None (Some (first_write file (offset + length line) b)))) (eq-eqb rest 0 none)
whole_write file offset line rest (reply.Bytes l) b none = refl
whole_write file offset line rest (reply.Word n) b none = refl
whole_write file offset line rest (reply.Mapped n) b none = refl
whole_write file offset line rest (reply.Synced n) b none = refl
whole_write file offset line rest (reply.Signal s) b none = refl
whole_write file offset line rest (reply.Refused e) b none = refl
whole_write file offset line rest (reply.Io d before after) b none = refl

-- one entry spells a call that has no next part
one_entry : (c : Call) (b : List ℕ) (es : List Entry) → ((r : Reply) → next_part c r b ≡ None) → Spells c b es → length es ≡ 1
one_entry c b [] none spells = absurd spells
one_entry c b (e ∷ es) none spells = ap (λ (xs : List Entry). suc (length xs)) (subst (λ o. MatchOption o (es ≡ []) (λ n. Spells n (drop (length (part_bytes n)) b) es)) (none e.reply) spells.1)

-- a call's entries are no more than its parts
call_few : (c : Call) (es : List Entry) → IsWellFormed c → HasRest c [] → Spells c [] es → length es ≤ call_parts c
call_few (call.Read file offset len) es formed rest spells = few_reads file offset len [] es formed.1 formed.3 spells
call_few (call.Write file offset line left) es formed rest spells =
    let one = one_entry (call.Write file offset line left) [] es (λ r. whole_write file offset line left r [] (sym rest)) spells in
    let some = formed.2.some in
    let count = count_one offset (length line + left) formed.1 (omega (arith, some)) in
    omega (arith, one, count)
call_few (call.Load a n) es formed rest spells = let one = one_entry (call.Load a n) [] es (λ r. no_next (call.Load a n) r [] refl) spells in omega (arith, one)
call_few (call.Store a n v) es formed rest spells = let one = one_entry (call.Store a n v) [] es (λ r. no_next (call.Store a n v) r [] refl) spells in omega (arith, one)
call_few (call.Map at len prot kind object offset) es formed rest spells =
    let one = one_entry (call.Map at len prot kind object offset) [] es (λ r. no_next (call.Map at len prot kind object offset) r [] refl) spells in omega (arith, one)
call_few (call.Unmap a len) es formed rest spells = let one = one_entry (call.Unmap a len) [] es (λ r. no_next (call.Unmap a len) r [] refl) spells in omega (arith, one)
call_few (call.Protect a len prot) es formed rest spells = let one = one_entry (call.Protect a len prot) [] es (λ r. no_next (call.Protect a len prot) r [] refl) spells in omega (arith, one)
call_few (call.Sync a len) es formed rest spells = let one = one_entry (call.Sync a len) [] es (λ r. no_next (call.Sync a len) r [] refl) spells in omega (arith, one)
call_few (call.Truncate file len) es formed rest spells = let one = one_entry (call.Truncate file len) [] es (λ r. no_next (call.Truncate file len) r [] refl) spells in omega (arith, one)
call_few (call.Fork child) es formed rest spells = let one = one_entry (call.Fork child) [] es (λ r. no_next (call.Fork child) r [] refl) spells in omega (arith, one)
call_few call.Exit es formed rest spells = let one = one_entry call.Exit [] es (λ r. no_next call.Exit r [] refl) spells in omega (arith, one)

-- the entries of one line are those of its call
alone : (s : SpelledLine) (es : List Entry) → SpellsAll (s ∷ []) es → Spells s.call s.bytes es
alone s es spells = subst (Spells s.call s.bytes) (sym (spells.2 ∙ (ap (λ r. spells.0 ++ r) spells.4 ∙ append-nil spells.0))) spells.3

inner_stays : (c : Call) → is_end (act.Call c) ≡ false → IsFalse (is_exit c)
inner_stays (call.Read file offset len) is = refl
inner_stays (call.Write file offset line rest) is = refl
inner_stays (call.Load a k) is = refl
inner_stays (call.Store a k v) is = refl
inner_stays (call.Map at len prot kind object offset) is = refl
inner_stays (call.Unmap a len) is = refl
inner_stays (call.Protect a len prot) is = refl
inner_stays (call.Sync a len) is = refl
inner_stays (call.Truncate file len) is = refl
inner_stays (call.Fork child) is = refl
inner_stays call.Exit is = is

module _ (p next : ℕ) (S T es : List Entry) (grown : entries_of T p ≡ entries_of S p ++ es) (bears : (c : ℕ) → next ≤ c → IsFalse (list_any (is_birth c) es)) where
  call_made : (a : PlanAct) (c : Call) (b : List ℕ) → length es ≤ parts a → IsFalse (is_exit c) → Spells c b es → AreMade p next (entries_of S p) es a
  call_made a c b few stays spells = record { few = few; bears = bears; stays = spelled_stays p c b es stays spells; ends = ends_last p S T c b es grown spells }

  -- of a line that isn't the block's end
  pub line_made : (a : PlanAct) → IsCallLine a → IsFitAct a → is_end a ≡ false → SpellsAll (calls_of a ++ []) es → AreMade p next (entries_of S p) es a
  line_made (act.Call c) line fit inner spells =
      let s = alone (record { call = c; bytes = [] }) es spells in
      call_made (act.Call c) c [] (call_few c es fit.0.formed fit.0.rest s) (inner_stays c inner) s
  line_made (act.Named name c) line fit inner spells =
      let s = alone (record { call = c; bytes = [] }) es spells in
      call_made (act.Named name c) c [] (call_few c es fit.0.formed fit.0.rest s) (inner_stays c (inner_end (act.Call c) fit.1)) s
  line_made (act.Write name file offset bytes) line fit inner spells =
      let first : Call = first_write file offset bytes in
      let s = alone (record { call = first; bytes = drop (length (part_bytes first)) bytes }) es spells in
      let some = fit.0.formed.2.some in
      let taken = length-take (line_rest offset) bytes in
      call_made (act.Write name file offset bytes) first (drop (length (part_bytes first)) bytes) (few_writes file offset bytes es fit.0.formed.1 (omega (arith, some, taken)) s) refl s
  line_made act.Wait line fit inner spells = absurd line

-- of a fork
pub fork_made : (p after n : ℕ) (S T : List Entry) (e : Entry) (a : PlanAct) → a ≡ act.Call (call.Fork n) → e.call ≡ call.Fork n → entries_of T p ≡ entries_of S p ++ e ∷ []
    → ((c : ℕ) → after ≤ c → IsFalse (list_any (is_birth c) (e ∷ []))) → AreMade p after (entries_of S p) (e ∷ []) a
fork_made p after n S T e a is same grown bears = record {
  few = let one : parts a ≡ 1 = ap parts is in omega (arith, one);
  bears = bears;
  stays = ap (λ z. z || false) (entry_stays p e (call.Fork n) same refl);
  ends = ends_last p S T (call.Fork n) [] (e ∷ []) grown (fork_alone n e same);
}

-- of a wait, which makes none
pub wait_made : (p next : ℕ) (S : List Entry) (a : PlanAct) → EndsLast p (entries_of S p) → AreMade p next (entries_of S p) [] a
wait_made p next S a ends = record {
  few = omega arith;
  bears = λ c from. refl;
  stays = refl;
  ends = subst (EndsLast p) (sym (append-nil (entries_of S p))) ends;
}
