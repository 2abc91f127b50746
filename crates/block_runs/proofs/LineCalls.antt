-- The calls of lines.
use Rattle.std.proofs.Common.{◌≡◌, ◌≢◌, ℕ, ◌+◌, ◌≤◌, ◌<◌, ◌^◌, ◌∙◌, List, [], ◌∷◌, ◌++◌, length, refl, sym, ap, subst, inl, arith, append-nil, ◌⊎◌, inr, None}
use Rattle.std.specs.Prelude.{drop, Result, Ok, Err, OnErr, OnOk}
use Rattle.std.proofs.lemmas.List.{length-take}
use Rattle.vm_script.specs.vm_types.declared.call.Call.{Call}
use Rattle.vm_script.specs.vm_types.declared.call.Call.TheVariants as call
use Rattle.vm_script.specs.vm_types.declared.call.Entry.{Entry}
use Rattle.vm_script.specs.vm_types.declared.call.Reply.{Reply}
use Rattle.vm_script.specs.vm_types.Pages.{line_rest}
use Rattle.vm_script.specs.vm_types.Parts.{first_write, part_bytes, part_file, HasRest}
use Rattle.vm_script.specs.flat_model.Told.{SpelledLine, SpellsAll, entries_of}
use Rattle.vm_script.specs.Blocks.{IsInner}
use Rattle.vm_script.specs.Counts.{parts, call_parts}
use Rattle.vm_script.specs.Sound.{IsOfNoFile}
use Rattle.vm_script.specs.Told.{calls_of}
use Rattle.vm_script.specs.declared.plan.PlanAct.{PlanAct}
use Rattle.vm_script.specs.declared.plan.PlanAct.TheVariants as act
use Rattle.vm_script.specs.declared.plan.PlanLine.{PlanLine}
use Rattle.vm_kernel.specs.Callers.{KernelSeen, CallerSeen}
use Rattle.vm_kernel.specs.Turns.{MayCall}
use Rattle.block_runs.specs.Callers.{rooms, IsCaller, HasMade}
use Rattle.block_runs.specs.Conditions.{IsFitCall, IsFitAct, MayMakeLine}
use Rattle.block_runs.specs.Lines.{IsCallLine, NamesFile}
use Rattle.block_runs.specs.Parts.{FillsLine, MakesParts, MayMakeParts}
use Rattle.block_runs.specs.Rows.{MakesLine}
use Rattle.block_runs.proofs.Parting.{PartsMade, count_first, fills_first, parts_start, part_may, parts_end}
use Rattle.block_runs.proofs.Runs.{no_next}

-- The call of a line, with its bytes that are still to come, is fit, and no fork; and it makes no more entries than the line may.
pub record OneCall (a : PlanAct) (s : SpelledLine) : Type 0 where
  pub is : calls_of a ≡ s ∷ []
  pub fit : IsFitCall s
  pub fills : FillsLine s.call
  pub line : IsCallLine (act.Call s.call)
  pub few : call_parts s.call ≤ parts a

inner_line : (c : Call) → IsInner (act.Call c) → IsCallLine (act.Call c)
inner_line (call.Load a n) inner = tt
inner_line (call.Store a n v) inner = tt
inner_line (call.Map at len prot kind object offset) inner = tt
inner_line (call.Unmap a len) inner = tt
inner_line (call.Protect a len prot) inner = tt
inner_line (call.Sync a len) inner = tt
inner_line (call.Read file offset len) inner = tt
inner_line (call.Write file offset bytes more) inner = tt
inner_line (call.Truncate file len) inner = tt
inner_line (call.Fork child) inner = absurd inner
inner_line call.Exit inner = absurd inner

-- a call with no bytes to come
fills_none : (c : Call) → HasRest c [] → FillsLine c
fills_none (call.Write file offset line rest) none = inl (sym none)
fills_none (call.Read file offset len) none = tt
fills_none (call.Load a n) none = tt
fills_none (call.Store a n v) none = tt
fills_none (call.Map at len prot kind object offset) none = tt
fills_none (call.Unmap a len) none = tt
fills_none (call.Protect a len prot) none = tt
fills_none (call.Sync a len) none = tt
fills_none (call.Truncate file len) none = tt
fills_none (call.Fork child) none = tt
fills_none call.Exit none = tt

plain_call : (c : Call) → IsCallLine (act.Call c) → IsFitAct (act.Call c) → OneCall (act.Call c) (record { call = c; bytes = [] })
plain_call c line fit = record { is = refl; fit = fit.0; fills = fills_none c fit.0.rest; line = line; few = omega arith }

named_call : (name : List ℕ) (c : Call) → IsFitAct (act.Named name c) → OneCall (act.Named name c) (record { call = c; bytes = [] })
named_call name c fit = record { is = refl; fit = fit.0; fills = fills_none c fit.0.rest; line = inner_line c fit.1; few = omega arith }

written_call : (name : List ℕ) (file offset : ℕ) (bytes : List ℕ) → IsFitAct (act.Write name file offset bytes)
    → OneCall (act.Write name file offset bytes) (record { call = first_write file offset bytes; bytes = drop (length (part_bytes (first_write file offset bytes))) bytes })
written_call name file offset bytes fit = record { is = refl; fit = fit.0; fills = fills_first file offset bytes; line = tt; few = let count = count_first file offset bytes in omega (arith, count) }

pub one_call : (a : PlanAct) (c : Call) → (a ≡ act.Call c) ⊎ ((name : List ℕ) × (a ≡ act.Named name c)) → IsCallLine a → IsFitAct a → OneCall a (record { call = c; bytes = [] })
one_call a c (inl is) line fit = subst (λ (x : PlanAct). OneCall x (record { call = c; bytes = [] })) (sym is) (plain_call c (subst IsCallLine is line) (subst IsFitAct is fit))
one_call a c (inr is) line fit = subst (λ (x : PlanAct). OneCall x (record { call = c; bytes = [] })) (sym is.1) (named_call is.0 c (subst IsFitAct is.1 fit))

one_write : (a : PlanAct) (name : List ℕ) (file offset : ℕ) (bytes : List ℕ) → a ≡ act.Write name file offset bytes → IsFitAct a
    → OneCall a (record { call = first_write file offset bytes; bytes = drop (length (part_bytes (first_write file offset bytes))) bytes })
one_write a name file offset bytes is fit =
    subst (λ (x : PlanAct). OneCall x (record { call = first_write file offset bytes; bytes = drop (length (part_bytes (first_write file offset bytes))) bytes })) (sym is) (written_call name file offset bytes (subst IsFitAct is fit))

-- the same of a write that was cut into its first part and the bytes behind it
pub one_cut : (a : PlanAct) (name : List ℕ) (file offset : ℕ) (bytes whole : List ℕ) (c : Call) (b : List ℕ) → a ≡ act.Write name file offset bytes → IsFitAct a → whole ≡ bytes
    → c ≡ first_write file offset whole → b ≡ drop (length (part_bytes (first_write file offset whole))) whole → OneCall a (record { call = c; bytes = b })
one_cut a name file offset bytes whole c b is fit same first behind =
    subst (λ (x : Call). OneCall a (record { call = x; bytes = b })) (sym (first ∙ ap (first_write file offset) same))
    (subst (λ (x : List ℕ). OneCall a (record { call = first_write file offset bytes; bytes = x })) (sym (behind ∙ ap (λ (xs : List ℕ). drop (length (part_bytes (first_write file offset xs))) xs) same))
    (one_write a name file offset bytes is fit))

pub write_sized : (a : PlanAct) (name : List ℕ) (file offset : ℕ) (bytes whole : List ℕ) → a ≡ act.Write name file offset bytes → IsFitAct a → whole ≡ bytes → (1 ≤ length whole) × (length whole < 2 ^ 32)
write_sized a name file offset bytes whole is fit same =
    let here = subst IsFitAct is fit in
    let first = here.0.formed.2.some in
    let taken = length-take (line_rest offset) bytes in
    subst (λ (xs : List ℕ). (1 ≤ length xs) × (length xs < 2 ^ 32)) (sym same) (omega (arith, taken, first), here.1)

-- a line that names no file makes one entry
no_part : (c : Call) → IsOfNoFile c → part_file c ≡ None
no_part (call.Load a n) none = refl
no_part (call.Store a n v) none = refl
no_part (call.Map at len prot kind object offset) none = refl
no_part (call.Unmap a len) none = refl
no_part (call.Protect a len prot) none = refl
no_part (call.Sync a len) none = refl
no_part (call.Read file offset len) none = absurd none
no_part (call.Write file offset line rest) none = absurd none
no_part (call.Truncate file len) none = absurd none
no_part (call.Fork child) none = refl
no_part call.Exit none = refl

-- What a line makes that makes its call's parts, where memory doesn't lack.
pub ok_made : {A E : Type 0} (P Q : Type 0) (r : Result A E) → (P → Q) → OnOk r P → OnOk r Q
ok_made P Q (Ok a) f h = f h
ok_made P Q (Err e) f h = h

-- And where memory lacks.
pub err_kept : {A E : Type 0} (P Q : Type 0) (r : Result A E) → (P → Q) → OnErr r P → OnErr r Q
err_kept P Q (Ok a) f h = h
err_kept P Q (Err e) f h = f h

module _ (kernel : KernelSeen) (v : CallerSeen) (l : PlanLine) (s : SpelledLine) (one : OneCall l.act s) where
  pub line_may : MayMakeLine kernel v l → MayMakeParts kernel v s.call s.bytes
  line_may may = record {
    formed = one.fit.formed;
    rest = one.fit.rest;
    fills = one.fills;
    line = one.line;
    alive = may.alive;
    room = let few = one.few in let room = may.room in omega (arith, few, room);
    ends = may.ends;
  }

  pub line_made : (w : CallerSeen) → MakesParts v w s.call s.bytes → MakesLine v w l
  line_made w made = record {
    es = made.es;
    more = made.more;
    own = subst (λ (ss : List SpelledLine). SpellsAll (ss ++ []) made.es) (sym one.is) (made.es, [], sym (append-nil made.es), made.own, refl);
    bears = made.bears;
  }

-- a line that names no file
module _ (kernel : KernelSeen) (v : CallerSeen) (l : PlanLine) (c : Call) (is : l.act ≡ act.Call c) (line : IsCallLine l.act) (caller : IsCaller kernel v) (may : MayMakeLine kernel v l) where
  alone : OneCall l.act (record { call = c; bytes = [] })
  alone = one_call l.act c (inl is) line may.fit

  starts : PartsMade kernel v v c [] c []
  starts = parts_start kernel v c [] caller (line_may kernel v l (record { call = c; bytes = [] }) alone may)

  pub plain_may : MayCall kernel v c
  plain_may = part_may kernel v v c [] c [] starts

  pub plain_made : (w : CallerSeen) (r : Reply) → HasMade v w c r → MakesLine v w l
  plain_made w r made =
      line_made kernel v l (record { call = c; bytes = [] }) alone w
      (parts_end kernel v v w c [] c [] r starts made (no_next c r [] (no_part c (subst IsFitAct is may.fit).1)))

-- A line that makes calls, and isn't one call by itself, names a file.
pub names_file : (a : PlanAct) → IsCallLine a → ((call : Call) → a ≢ act.Call call) → NamesFile a
names_file (act.Call call) line other = other call refl
names_file act.Wait line other = line
names_file a line other = tt
