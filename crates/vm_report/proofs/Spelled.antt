-- Where the entries of a block spell its lines, each line's call has just the entries that spell it.
use Rattle.std.proofs.Common.{◌≡◌, ℕ, suc, ◌+◌, ◌==◌, Bool, true, false, List, [], ◌∷◌, ◌++◌, length, take, drop, Option, Some, None, refl, sym, ap, ap₂, ◌∙◌, subst, cond, append-nil}
use Rattle.std.specs.Prelude.{MatchOption, is_none}
use Rattle.std.specs.List.{flat_map}
use Rattle.std.proofs.lemmas.Bool.{false≢true}
use Rattle.std.proofs.lemmas.List.{take_at, drop_at}
use Rattle.vm_script.specs.vm_types.declared.call.Call.{Call}
use Rattle.vm_script.specs.vm_types.declared.call.Call.TheVariants as call
use Rattle.vm_script.specs.vm_types.declared.call.Entry.{Entry}
use Rattle.vm_script.specs.vm_types.declared.call.Reply.{Reply}
use Rattle.vm_script.specs.vm_types.declared.call.Reply.TheVariants as reply
use Rattle.vm_script.specs.vm_types.Parts.{next_part, ends_call, part_bytes, is_past_numbers, first_write}
use Rattle.vm_script.specs.flat_model.Told.{SpelledLine, Spells, SpellsAll}
use Rattle.vm_script.specs.declared.plan.PlanAct.{PlanAct}
use Rattle.vm_script.specs.declared.plan.PlanAct.TheVariants as act
use Rattle.vm_script.specs.declared.plan.PlanLine.{PlanLine}
use Rattle.vm_script.specs.Told.{calls_of, Spell}
use Rattle.vm_report.specs.Report.{call_length, entries_made, is_wait, line_text, own_text, lines_text}
use Rattle.vm_report.specs.Laws.{PrintsOwn}

none_of : (a b : Bool) (x y : Call) → is_none (cond a None (cond b None (Some x))) ≡ is_none (cond a None (cond b None (Some y)))
none_of true b x y = refl
none_of false true x y = refl
none_of false false x y = refl

-- whether a part ends its call doesn't depend on the bytes still to come
ends_any : (c : Call) (r : Reply) (bytes : List ℕ) → is_none (next_part c r bytes) ≡ is_none (next_part c r [])
unfolding next_part
ends_any (call.Read file offset len) reply.Done bytes = refl
ends_any (call.Read file offset len) (reply.Word v) bytes = refl
ends_any (call.Read file offset len) (reply.Mapped a) bytes = refl
ends_any (call.Read file offset len) (reply.Bytes line) bytes = refl
ends_any (call.Read file offset len) (reply.Synced from) bytes = refl
ends_any (call.Read file offset len) (reply.Signal s) bytes = refl
ends_any (call.Read file offset len) (reply.Refused e) bytes = refl
ends_any (call.Read file offset len) (reply.Io disk before after) bytes = refl
ends_any (call.Write file offset line rest) reply.Done bytes =
    none_of (rest == 0) (is_past_numbers (offset + length line)) (first_write file (offset + length line) bytes) (first_write file (offset + length line) [])
ends_any (call.Write file offset line rest) (reply.Word v) bytes = refl
ends_any (call.Write file offset line rest) (reply.Mapped a) bytes = refl
ends_any (call.Write file offset line rest) (reply.Bytes got) bytes = refl
ends_any (call.Write file offset line rest) (reply.Synced from) bytes = refl
ends_any (call.Write file offset line rest) (reply.Signal s) bytes = refl
ends_any (call.Write file offset line rest) (reply.Refused e) bytes = refl
ends_any (call.Write file offset line rest) (reply.Io disk before after) bytes = refl
ends_any (call.Load a n) r bytes = refl
ends_any (call.Store a n v) r bytes = refl
ends_any (call.Map at len prot kind object offset) r bytes = refl
ends_any (call.Unmap a len) r bytes = refl
ends_any (call.Protect a len prot) r bytes = refl
ends_any (call.Sync a len) r bytes = refl
ends_any (call.Truncate file len) r bytes = refl
ends_any (call.Fork child) r bytes = refl
ends_any call.Exit r bytes = refl

ends_is : (c d : Call) (r : Reply) (bytes : List ℕ) (o : Option Call) → d ≡ c → next_part c r bytes ≡ o → ends_call d r ≡ is_none o
ends_is c d r bytes o same is = ap (λ x. ends_call x r) same ∙ (sym (ends_any c r bytes) ∙ ap is_none is)

one_part : (c : Call) (bytes : List ℕ) (e : Entry) (es rest : List Entry) (o : Option Call) → e.call ≡ c → next_part c e.reply bytes ≡ o
    → ((next : Call) → Spells next (drop (length (part_bytes next)) bytes) es → call_length (es ++ rest) ≡ length es)
    → MatchOption o (es ≡ []) (λ next. Spells next (drop (length (part_bytes next)) bytes) es) → call_length (e ∷ es ++ rest) ≡ suc (length es)
one_part c bytes e es rest None same is ih last =
    ap (λ b. cond b 1 (suc (call_length (es ++ rest)))) (ends_is c e.call e.reply bytes None same is) ∙ sym (ap (λ xs. suc (length xs)) last)
one_part c bytes e es rest (Some next) same is ih more =
    ap (λ b. cond b 1 (suc (call_length (es ++ rest)))) (ends_is c e.call e.reply bytes (Some next) same is) ∙ ap suc (ih next more)

pub spells_length : (c : Call) (bytes : List ℕ) (front rest : List Entry) → Spells c bytes front → call_length (front ++ rest) ≡ length front
spells_length c bytes [] rest s = absurd s
spells_length c bytes (e ∷ es) rest s =
    one_part c bytes e es rest (next_part c e.reply bytes) s.0 refl (λ next more. spells_length next (drop (length (part_bytes next)) bytes) es rest more) s.1

one_call : (a : PlanAct) → is_wait a ≡ false → (s : SpelledLine) × (calls_of a ≡ s ∷ [])
one_call (act.Call c) own = (_, refl)
one_call (act.Named name c) own = (_, refl)
one_call (act.Write name file offset bytes) own = (_, refl)
one_call act.Wait own = absurd (false≢true (sym own))

no_wait : (a : PlanAct) → (a ≡ act.Wait → ⊥) → is_wait a ≡ false
no_wait (act.Call c) not = refl
no_wait (act.Named name c) not = refl
no_wait (act.Write name file offset bytes) not = refl
no_wait act.Wait not = absurd (not refl)

by_parts : (l : PlanLine) (lines : List PlanLine) (es : List Entry) (s : SpelledLine) → is_wait l.act ≡ false → calls_of l.act ≡ s ∷ []
    → SpellsAll (s ∷ flat_map (λ x. calls_of x.act) lines) es → PrintsOwn l lines es
by_parts l lines es s own calls (front, rest, is, one, more) =
    let many : entries_made l es ≡ length front = ap (λ b. cond b 0 (call_length es)) own ∙ (ap call_length is ∙ spells_length s.call s.bytes front rest one) in
    let taken : take (entries_made l es) es ≡ front = ap₂ take many is ∙ take_at front rest (length front) refl in
    let left : drop (entries_made l es) es ≡ rest = ap₂ drop many is ∙ drop_at front rest (length front) refl in
    record {
      own = front;
      rest = rest;
      is = is;
      spelled = subst (λ cs. SpellsAll (cs ++ []) front) (sym calls) (front, [], sym (append-nil front), one, refl);
      more = more;
      text = ap₂ (λ mine others. own_text l mine ++ lines_text lines others) taken left ∙ ap (λ b. cond b [] (line_text l front) ++ lines_text lines rest) own;
    }

pub prints_own : (l : PlanLine) (lines : List PlanLine) (es : List Entry) → (l.act ≡ act.Wait → ⊥) → Spell (l ∷ lines) es → PrintsOwn l lines es
prints_own l lines es not spelled =
    let own = no_wait l.act not in
    let one = one_call l.act own in
    by_parts l lines es one.0 own one.1 (subst (λ calls. SpellsAll (calls ++ flat_map (λ x. calls_of x.act) lines) es) one.1 spelled)
