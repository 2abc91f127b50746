-- A plan that may be played may be played with the numbers of its files.
use Rattle.std.specs.Prelude.{ℕ, ◌≡◌, ◌<◌, ◌+◌, ◌^◌, nat_le, ◌&&◌, Bool, true, false, List, [], ◌∷◌, length, map, if◌then◌else◌}
use Rattle.std.specs.List.{list_all}
use Rattle.std.proofs.Common.{◌∙◌, ap, refl, sym, subst, arith}
use Rattle.std.proofs.lemmas.List.{map-append, length-map}
use Rattle.std.proofs.lemmas.List.Elements.{All-map, All-weaker}
use Rattle.volume_files.specs.vm_types.declared.call.Call.{Call}
use Rattle.volume_files.specs.vm_types.declared.call.Call.TheVariants as call
use Rattle.volume_files.specs.vm_types.declared.call.Object.TheVariants as object
use Rattle.volume_files.specs.vm_types.WellFormed.{IsWellFormed}
use Rattle.volume_files.specs.vm_script.declared.plan.PlanAct.{PlanAct}
use Rattle.volume_files.specs.vm_script.declared.plan.PlanAct.TheVariants as act
use Rattle.volume_files.specs.vm_script.declared.plan.PlanLine.{PlanLine}
use Rattle.volume_files.specs.vm_script.Blocks.{IsInner, IsProcessBlock, ends, goes_on, forks, AreProcessBlocks, over, block}
use Rattle.volume_files.specs.vm_script.Fields.{is_word}
use Rattle.volume_files.specs.vm_script.FileNames.{place_from, call_with_file, act_with_file, line_with_file, with_files}
use Rattle.volume_files.specs.vm_script.PlanSeen.{PlanSeen}
use Rattle.volume_files.specs.vm_script.Sound.{IsSoundAct, IsOfNamedFile}
use Rattle.run_input.specs.Alone.{is_alone, is_plain_act}
use Rattle.run_input.specs.Reading.{IsPlayable}

-- the blocks nest as before
inner-named : (names : List (List ℕ)) (a : PlanAct) → IsInner a → IsInner (act_with_file names a)
inner-named names (act.Call c) h = h
inner-named names (act.Named name c) h = tt
inner-named names (act.Write name file offset bytes) h = tt
inner-named names act.Wait h = tt

block-named : (names : List (List ℕ)) (parents : List ℕ) {p n m : ℕ} {lines : List PlanLine} → IsProcessBlock parents p n lines m → IsProcessBlock parents p n (map (line_with_file names) lines) m
block-named names parents (ends p n line) = ends p n line
block-named names parents (goes_on p n m line a lines inner rest) =
    goes_on p n m line (act_with_file names a) (map (line_with_file names) lines) (inner-named names a inner) (block-named names parents rest)
block-named names parents (forks p n k m line child lines parent own rest) =
    subst (λ (ls : List PlanLine). IsProcessBlock parents p n (record { line = line; process = p; act = act.Call (call.Fork n) } ∷ ls) m) (sym (map-append (line_with_file names) child lines))
    (forks p n k m line (map (line_with_file names) child) (map (line_with_file names) lines) parent (block-named names parents own) (block-named names parents rest))

blocks-named : (names : List (List ℕ)) (parents : List ℕ) {n m : ℕ} {lines : List PlanLine} → AreProcessBlocks parents n lines m → AreProcessBlocks parents n (map (line_with_file names) lines) m
blocks-named names parents (over n) = over n
blocks-named names parents (block n k m lines rest parent own more) =
    subst (λ (ls : List PlanLine). AreProcessBlocks parents n ls m) (sym (map-append (line_with_file names) lines rest))
    (block n k m (map (line_with_file names) lines) (map (line_with_file names) rest) parent (block-named names parents own) (blocks-named names parents more))

-- the number of a file is a number
place-below : (i : ℕ) (names : List (List ℕ)) (name : List ℕ) (old : ℕ) → i + length names < 2 ^ 32 → old < 2 ^ 32 → place_from i names name old < 2 ^ 32
place-below i [] name old few is = is
place-below i (first ∷ names) name old few is =
    elim (is_word first name) as (λ (t : Bool). (if t then i else place_from (i + 1) names name old) < 2 ^ 32) [
      | true ↦ omega (arith, few)
      | false ↦ place-below (i + 1) names name old (omega (arith, few)) is
    ]

formed-named : (names : List (List ℕ)) → length names < 2 ^ 32 → (name : List ℕ) (c : Call) → IsWellFormed c → IsWellFormed (call_with_file names name c)
formed-named names few name (call.Load a n) h = h
formed-named names few name (call.Store a n v) h = h
formed-named names few name (call.Map at len prot kind (object.File f) offset) h = (h.0, h.1, h.2, place-below 0 names name f (omega (arith, few)) h.3, h.4)
formed-named names few name (call.Map at len prot kind object.NewZero offset) h = h
formed-named names few name (call.Map at len prot kind (object.Zero z) offset) h = h
formed-named names few name (call.Unmap a len) h = h
formed-named names few name (call.Protect a len prot) h = h
formed-named names few name (call.Sync a len) h = h
formed-named names few name (call.Read file offset len) h = (place-below 0 names name file (omega (arith, few)) h.0, h.1, h.2, h.3)
formed-named names few name (call.Write file offset bytes rest) h = h
formed-named names few name (call.Truncate file len) h = (place-below 0 names name file (omega (arith, few)) h.0, h.1)
formed-named names few name (call.Fork child) h = h
formed-named names few name call.Exit h = h

-- a call stays one of a named file
file-named : (names : List (List ℕ)) (name : List ℕ) (c : Call) → IsOfNamedFile c → IsOfNamedFile (call_with_file names name c)
file-named names name (call.Load a n) h = absurd h
file-named names name (call.Store a n v) h = absurd h
file-named names name (call.Map at len prot kind (object.File f) offset) h = tt
file-named names name (call.Map at len prot kind object.NewZero offset) h = absurd h
file-named names name (call.Map at len prot kind (object.Zero z) offset) h = absurd h
file-named names name (call.Unmap a len) h = absurd h
file-named names name (call.Protect a len prot) h = absurd h
file-named names name (call.Sync a len) h = absurd h
file-named names name (call.Read file offset len) h = tt
file-named names name (call.Write file offset bytes rest) h = absurd h
file-named names name (call.Truncate file len) h = tt
file-named names name (call.Fork child) h = absurd h
file-named names name call.Exit h = absurd h

sound-act : (names : List (List ℕ)) → length names < 2 ^ 32 → (a : PlanAct) → IsSoundAct a → IsSoundAct (act_with_file names a)
sound-act names few (act.Call c) h = h
sound-act names few (act.Named name c) h = (formed-named names few name c h.0, file-named names name c h.1)
sound-act names few (act.Write name file offset bytes) h = (place-below 0 names name file (omega (arith, few)) h.0, h.1, h.2)
sound-act names few act.Wait h = h

-- a plan that may be played may be played with the numbers of its files
pub playable-named : (names : List (List ℕ)) (plan : PlanSeen) → length names < 2 ^ 32 → IsPlayable plan → IsPlayable (with_files names plan)
playable-named names plan few p = record {
  sound = record {
    nests = blocks-named names plan.parents p.sound.nests;
    acts = All-map (λ (l : PlanLine). IsSoundAct l.act) (line_with_file names) plan.lines
        (All-weaker (λ (l : PlanLine). IsSoundAct l.act) (λ (l : PlanLine). IsSoundAct (act_with_file names l.act)) (λ l h. sound-act names few l.act h) plan.lines p.sound.acts);
    few_lines = omega (arith, p.sound.few_lines, length-map plan.lines (line_with_file names));
    few_blocks = p.sound.few_blocks;
  };
}

-- a plan that needs no thread needs none with the numbers of its files
plain-named : (names : List (List ℕ)) (a : PlanAct) → is_plain_act (act_with_file names a) ≡ is_plain_act a
plain-named names (act.Call c) = refl
plain-named names (act.Named name c) = refl
plain-named names (act.Write name file offset bytes) = refl
plain-named names act.Wait = refl

lines-named : (names : List (List ℕ)) (lines : List PlanLine) → list_all (λ (l : PlanLine). is_plain_act l.act) (map (line_with_file names) lines) ≡ list_all (λ (l : PlanLine). is_plain_act l.act) lines
lines-named names [] = refl
lines-named names (l ∷ lines) =
    ap (λ (b : Bool). b && list_all (λ (k : PlanLine). is_plain_act k.act) (map (line_with_file names) lines)) (plain-named names l.act)
    ∙ ap (λ (b : Bool). is_plain_act l.act && b) (lines-named names lines)

pub alone-named : (names : List (List ℕ)) (plan : PlanSeen) → is_alone (with_files names plan) ≡ is_alone plan
alone-named names plan = ap (λ (b : Bool). nat_le (length plan.parents) 1 && b) (lines-named names plan.lines)
