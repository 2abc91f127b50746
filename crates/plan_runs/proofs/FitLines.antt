-- The lines of a plan that a script spells may be made, and their parts are well formed.
use Rattle.std.proofs.Common.{◌≡◌, ℕ, ◌+◌, ◌≤◌, ◌<◌, ◌^◌, List, [], ◌∷◌, length, Option, Some, None, refl, sym, ◌∙◌, subst, arith, length-drop, lit<}
use Rattle.std.specs.Prelude.{All, drop, take, MatchOption}
use Rattle.std.specs.List.{AllByRecursion}
use Rattle.std.proofs.Math.Nat.{mod-lt}
use Rattle.std.proofs.lemmas.List.{length-take}
use Rattle.std.proofs.lemmas.List.Elements.{All-nil, All-cons, All-head, All-tail, All-take, All-drop}
use Rattle.volume_files.specs.vm_types.declared.call.Call.{Call}
use Rattle.volume_files.specs.vm_types.declared.call.Call.TheVariants as call
use Rattle.volume_files.specs.vm_types.declared.call.Object.TheVariants as object
use Rattle.volume_files.specs.vm_types.declared.call.Entry.{Entry}
use Rattle.volume_files.specs.vm_types.declared.call.Reply.{Reply}
use Rattle.volume_files.specs.vm_types.Pages.{line_rest}
use Rattle.volume_files.specs.vm_types.Parts.{HasRest, first_write, next_part, part_bytes}
use Rattle.volume_files.specs.vm_types.WellFormed.{IsNumber, IsWellFormed}
use Rattle.volume_files.specs.vm_types.Words.{IsByte}
use Rattle.volume_files.specs.flat_model.Told.{Spells}
use Rattle.volume_files.specs.vm_script.declared.plan.PlanAct.{PlanAct}
use Rattle.volume_files.specs.vm_script.declared.plan.PlanAct.TheVariants as act
use Rattle.volume_files.specs.vm_script.declared.plan.PlanLine.{PlanLine}
use Rattle.volume_files.specs.vm_script.Blocks.{IsInner}
use Rattle.volume_files.specs.vm_script.Sound.{IsOfNamedFile, IsOfNoFile, IsSoundAct}
use Rattle.block_runs.specs.Conditions.{IsFitAct}
use Rattle.block_runs.proofs.Counting.{none_some, read_next, write_next}
use Rattle.block_runs.proofs.Runs.{no_next}

-- A LINE'S CALL has no bytes that are still to come, where it is no write
pub no-rest : (c : Call) → IsOfNoFile c → HasRest c []
no-rest (call.Load a n) is = tt
no-rest (call.Store a n v) is = tt
no-rest (call.Map place len prot kind o offset) is = tt
no-rest (call.Unmap a len) is = tt
no-rest (call.Protect a len prot) is = tt
no-rest (call.Sync a len) is = tt
no-rest (call.Read file offset len) is = absurd is
no-rest (call.Write file offset line rest) is = absurd is
no-rest (call.Truncate file len) is = absurd is
no-rest (call.Fork child) is = tt
no-rest call.Exit is = tt

pub named-rest : (c : Call) → IsOfNamedFile c → HasRest c [] × IsInner (act.Call c)
named-rest (call.Map place len prot kind (object.File file) offset) is = (tt, tt)
named-rest (call.Map place len prot kind object.NewZero offset) is = absurd is
named-rest (call.Map place len prot kind (object.Zero zero) offset) is = absurd is
named-rest (call.Read file offset len) is = (tt, tt)
named-rest (call.Truncate file len) is = (tt, tt)
named-rest (call.Load a n) is = absurd is
named-rest (call.Store a n v) is = absurd is
named-rest (call.Unmap a len) is = absurd is
named-rest (call.Protect a len prot) is = absurd is
named-rest (call.Sync a len) is = absurd is
named-rest (call.Write file offset line rest) is = absurd is
named-rest (call.Fork child) is = absurd is
named-rest call.Exit is = absurd is

-- the first part of a write
pub first-formed : (file offset : ℕ) (bytes : List ℕ) → IsNumber file → IsNumber offset → 1 ≤ length bytes → length bytes < 2 ^ 32 → All IsByte bytes
    → IsWellFormed (first_write file offset bytes) × HasRest (first_write file offset bytes) (drop (length (part_bytes (first_write file offset bytes))) bytes)
first-formed file offset bytes is-file is-offset some few each =
    let taken = length-take (line_rest offset) bytes in
    let low = mod-lt offset {m = 64} (lit< tt) in (
      (
        is-file,
        is-offset,
        record {
          some = omega (arith, taken, low, some);
          inside = omega (arith, taken);
          each = All-take IsByte (line_rest offset) bytes each;
        },
        omega (arith, few),
      ),
      length-drop (length (take (line_rest offset) bytes)) bytes,
    )

-- THE LINES may be made
fit-act : (a : PlanAct) → IsSoundAct a → IsFitAct a
fit-act (act.Call c) sound = (record { formed = sound.0; rest = no-rest c sound.1 }, sound.1)
fit-act (act.Named name c) sound = let named = named-rest c sound.1 in (record { formed = sound.0; rest = named.0 }, named.1)
fit-act (act.Write name file offset bytes) sound =
    let some = sound.2.0 in
    let most = sound.2.1 in
    let first = first-formed file offset bytes sound.0 sound.1 some (omega (arith, most)) sound.2.2 in
    (record { formed = first.0; rest = first.1 }, omega (arith, most))
fit-act act.Wait sound = tt

pub fit-all : (lines : List PlanLine) → All (λ (l : PlanLine). IsSoundAct l.act) lines → AllByRecursion (λ (l : PlanLine). IsFitAct l.act) lines
fit-all [] sound = tt
fit-all (l ∷ lines) sound = (fit-act l.act (All-head (λ (k : PlanLine). IsSoundAct k.act) l lines sound), fit-all lines (All-tail (λ (k : PlanLine). IsSoundAct k.act) l lines sound))

-- THE NEXT PART of a call that is well formed is so too, and has its bytes
next-formed : (c : Call) (r : Reply) (bytes : List ℕ) (next : Call) → IsWellFormed c → HasRest c bytes → All IsByte bytes → next_part c r bytes ≡ Some next
    → IsWellFormed next × HasRest next (drop (length (part_bytes next)) bytes)
next-formed (call.Read file offset len) r bytes next formed rest each is =
    let n = read_next file offset len r bytes next is in
    let few = formed.2 in
    let less = n.less in
    subst (λ (c : Call). IsWellFormed c × HasRest c (drop (length (part_bytes c)) bytes)) (sym n.is) ((formed.0, n.low, omega (arith, few), omega (arith, less)), tt)
next-formed (call.Write file offset line left) r bytes next formed rest each is =
    let n = write_next file offset line left r bytes next is in
    let few = formed.3 in
    let some = n.some in
    subst (λ (c : Call). IsWellFormed c × HasRest c (drop (length (part_bytes c)) bytes)) (sym n.is)
    (first-formed file (offset + length line) bytes formed.0 n.low (omega (arith, some, rest)) (omega (arith, few, rest)) each)
next-formed (call.Load a n) r bytes next formed rest each is = absurd (none_some next (sym (no_next (call.Load a n) r bytes refl) ∙ is))
next-formed (call.Store a n v) r bytes next formed rest each is = absurd (none_some next (sym (no_next (call.Store a n v) r bytes refl) ∙ is))
next-formed (call.Map at len prot kind o offset) r bytes next formed rest each is = absurd (none_some next (sym (no_next (call.Map at len prot kind o offset) r bytes refl) ∙ is))
next-formed (call.Unmap a len) r bytes next formed rest each is = absurd (none_some next (sym (no_next (call.Unmap a len) r bytes refl) ∙ is))
next-formed (call.Protect a len prot) r bytes next formed rest each is = absurd (none_some next (sym (no_next (call.Protect a len prot) r bytes refl) ∙ is))
next-formed (call.Sync a len) r bytes next formed rest each is = absurd (none_some next (sym (no_next (call.Sync a len) r bytes refl) ∙ is))
next-formed (call.Truncate file len) r bytes next formed rest each is = absurd (none_some next (sym (no_next (call.Truncate file len) r bytes refl) ∙ is))
next-formed (call.Fork child) r bytes next formed rest each is = absurd (none_some next (sym (no_next (call.Fork child) r bytes refl) ∙ is))
next-formed call.Exit r bytes next formed rest each is = absurd (none_some next (sym (no_next call.Exit r bytes refl) ∙ is))

-- ITS ENTRIES, however many its parts
pub spelled-formed : (c : Call) (bytes : List ℕ) (es : List Entry) → IsWellFormed c → HasRest c bytes → All IsByte bytes → Spells c bytes es → All (λ (e : Entry). IsWellFormed e.call) es
spelled-formed c bytes [] formed rest each spells = absurd spells
spelled-formed c bytes (e ∷ es) formed rest each spells =
    All-cons (λ (x : Entry). IsWellFormed x.call) e es (subst IsWellFormed (sym spells.0) formed)
    (by_next (λ n is s. let next = next-formed c e.reply bytes n formed rest each is in spelled-formed n (drop (length (part_bytes n)) bytes) es next.0 next.1 (All-drop IsByte (length (part_bytes n)) bytes each) s)
    (next_part c e.reply bytes) refl spells.1)
  where
    by_next : ((n : Call) → next_part c e.reply bytes ≡ Some n → Spells n (drop (length (part_bytes n)) bytes) es → All (λ (x : Entry). IsWellFormed x.call) es) → (o : Option Call) → next_part c e.reply bytes ≡ o
        → MatchOption o (es ≡ []) (λ n. Spells n (drop (length (part_bytes n)) bytes) es) → All (λ (x : Entry). IsWellFormed x.call) es
    by_next again None is none = subst (All (λ (x : Entry). IsWellFormed x.call)) (sym none) (All-nil (λ (x : Entry). IsWellFormed x.call))
    by_next again (Some n) is more = again n is more
