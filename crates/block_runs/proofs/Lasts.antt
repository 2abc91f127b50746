-- The last entry that spells a call ends it.
use Rattle.std.proofs.Common.{◌≡◌, ℕ, ◌==◌, ◌+◌, Bool, true, false, List, [], ◌∷◌, ◌++◌, length, Option, Some, None, refl, sym, ap, ◌∙◌, subst, cond, eq-eqb, ⊎_elim}
use Rattle.std.specs.Prelude.{MatchOption, drop, fold, is_none}
use Rattle.std.specs.List.{AllByRecursion}
use Rattle.std.proofs.lemmas.Bool.{cases_Bool, eqb-true}
use Rattle.vm_script.specs.vm_types.declared.call.Call.{Call}
use Rattle.vm_script.specs.vm_types.declared.call.Call.TheVariants as call
use Rattle.vm_script.specs.vm_types.declared.call.Reply.{Reply}
use Rattle.vm_script.specs.vm_types.declared.call.Reply.TheVariants as reply
use Rattle.vm_script.specs.vm_types.declared.call.Entry.{Entry}
use Rattle.vm_script.specs.vm_types.Parts.{next_part, part_bytes, ends_call, first_write, is_past_numbers}
use Rattle.vm_script.specs.flat_model.Told.{entries_of, Spells}
use Rattle.vm_script.specs.flat_model.OpenLaws.{last_entry}
use Rattle.block_runs.specs.Conditions.{EndsLast}
use Rattle.block_runs.proofs.Lists.{each_back}

two_none : (x y : Bool) (n m : Call) → cond x None (cond y None (Some n)) ≡ None → cond x None (cond y None (Some m)) ≡ None
two_none true y n m is = refl
two_none false true n m is = refl
two_none false false n m is = absurd (cc is)

-- whether there is a next part doesn't hang on the bytes that are still to come
none_any : (c : Call) (r : Reply) (b d : List ℕ) → next_part c r b ≡ None → next_part c r d ≡ None
unfolding next_part
none_any (call.Write file offset line rest) reply.Done b d is = two_none (rest == 0) (is_past_numbers (offset + length line)) (first_write file (offset + length line) b) (first_write file (offset + length line) d) is
none_any (call.Write file offset line rest) (reply.Bytes l) b d is = refl
none_any (call.Write file offset line rest) (reply.Word n) b d is = refl
none_any (call.Write file offset line rest) (reply.Mapped n) b d is = refl
none_any (call.Write file offset line rest) (reply.Synced n) b d is = refl
none_any (call.Write file offset line rest) (reply.Signal s) b d is = refl
none_any (call.Write file offset line rest) (reply.Refused e) b d is = refl
none_any (call.Write file offset line rest) (reply.Io k before after) b d is = refl
none_any (call.Read file offset len) (reply.Bytes l) b d is = is
none_any (call.Read file offset len) reply.Done b d is = refl
none_any (call.Read file offset len) (reply.Word n) b d is = refl
none_any (call.Read file offset len) (reply.Mapped n) b d is = refl
none_any (call.Read file offset len) (reply.Synced n) b d is = refl
none_any (call.Read file offset len) (reply.Signal s) b d is = refl
none_any (call.Read file offset len) (reply.Refused e) b d is = refl
none_any (call.Read file offset len) (reply.Io k before after) b d is = refl
none_any (call.Load a n) r b d is = refl
none_any (call.Store a n v) r b d is = refl
none_any (call.Map at len prot kind object offset) r b d is = refl
none_any (call.Unmap a len) r b d is = refl
none_any (call.Protect a len prot) r b d is = refl
none_any (call.Sync a len) r b d is = refl
none_any (call.Truncate file len) r b d is = refl
none_any (call.Fork child) r b d is = refl
none_any call.Exit r b d is = refl

abbrev later : ℕ → Option Entry → Entry → Option Entry
later p last e = cond (e.process == p) (Some e) last

record LastEnds (o : Option Entry) : Type 0 where
  last : Entry
  is : o ≡ Some last
  ends : ends_call last.call last.reply ≡ true

last_spelled : (p : ℕ) (c : Call) (b : List ℕ) (es : List Entry) (o : Option Entry) → Spells c b es → AllByRecursion (λ (e : Entry). e.process ≡ p) es → LastEnds (fold (later p) o es)
last_spelled p c b [] o spells own = absurd spells
last_spelled p c b (e ∷ es) o spells own = by_next (λ next s. last_spelled p next (drop (length (part_bytes next)) b) es (later p o e) s own.1) (next_part c e.reply b) refl spells.1
  where
    here : later p o e ≡ Some e
    here = ap (λ z. cond z (Some e) o) (eq-eqb e.process p own.0)

    by_next : ((next : Call) → Spells next (drop (length (part_bytes next)) b) es → LastEnds (fold (later p) (later p o e) es)) → (n : Option Call) → next_part c e.reply b ≡ n
        → MatchOption n (es ≡ []) (λ next. Spells next (drop (length (part_bytes next)) b) es) → LastEnds (fold (later p) (later p o e) es)
    by_next again None is none = subst (λ xs. LastEnds (fold (later p) (later p o e) xs)) (sym none) (record {
      last = e;
      is = here;
      ends = ap is_none (ap (λ k. next_part k e.reply []) spells.0 ∙ none_any c e.reply b [] is);
    })
    by_next again (Some next) is more = again next more

fold_append : (p : ℕ) (o : Option Entry) (xs es : List Entry) → fold (later p) o (xs ++ es) ≡ fold (later p) (fold (later p) o xs) es
fold_append p o [] es = refl
fold_append p o (x ∷ xs) es = fold_append p (later p o x) xs es

pub own_each : (p : ℕ) (H : List Entry) → AllByRecursion (λ (e : Entry). e.process ≡ p) (entries_of H p)
own_each p [] = tt
own_each p (e ∷ H) =
    ⊎_elim
    (λ mine. subst (λ b. AllByRecursion (λ (x : Entry). x.process ≡ p) (cond b (e ∷ entries_of H p) (entries_of H p))) (sym mine) (eqb-true e.process p mine, own_each p H))
    (λ else. subst (λ b. AllByRecursion (λ (x : Entry). x.process ≡ p) (cond b (e ∷ entries_of H p) (entries_of H p))) (sym else) (own_each p H))
    (cases_Bool (e.process == p))

-- behind a call that was made to its end, the last call is at its end
pub ends_last : (p : ℕ) (S T : List Entry) (c : Call) (b : List ℕ) (es : List Entry) → entries_of T p ≡ entries_of S p ++ es → Spells c b es → EndsLast p (entries_of S p ++ es)
ends_last p S T c b es grown spells =
    let own = each_back (λ (e : Entry). e.process ≡ p) (entries_of S p) es (subst (AllByRecursion (λ (e : Entry). e.process ≡ p)) grown (own_each p T)) in
    let last = last_spelled p c b es (last_entry p (entries_of S p)) spells own in
    subst (λ o. MatchOption o (Unit {0}) (λ d. ends_call d.call d.reply ≡ true)) (sym (fold_append p None (entries_of S p) es ∙ last.is)) last.ends
