-- A plan with the numbers of its files keeps what holds of plans.
use Rattle.std.specs.Prelude.{ℕ, ◌≡◌, ◌+◌, not, nat_lt, List, [], ◌∷◌, length, map, Some, None, if◌then◌else◌}
use Rattle.std.specs.List.{list_any}
use Rattle.std.proofs.Common.{ap, ◌∙◌, sym, refl}
use Rattle.std.proofs.lemmas.List.Sums.{sum_by-cons}
use Rattle.vm_report.specs.vm_types.declared.call.Call.{Call}
use Rattle.vm_report.specs.vm_types.declared.call.Call.TheVariants as call
use Rattle.vm_report.specs.vm_types.declared.call.Object.TheVariants as object
use Rattle.vm_report.specs.vm_script.declared.plan.PlanAct.{PlanAct}
use Rattle.vm_report.specs.vm_script.declared.plan.PlanAct.TheVariants as act
use Rattle.vm_report.specs.vm_script.declared.plan.PlanLine.{PlanLine}
use Rattle.vm_report.specs.vm_script.Counts.{parts, call_parts, entry_count}
use Rattle.vm_report.specs.vm_script.FileNames.{call_with_file, act_with_file, line_with_file, with_files}
use Rattle.vm_report.specs.vm_script.PlanSeen.{PlanSeen}
use Rattle.vm_report.specs.vm_script.Rules.{broken_rule, has_wrong_frames, amounts_of, is_from_to, has_wrong_disk, lacks_disk, is_wrong_file, broken_join}

-- a call keeps its parts
call-parts : (names : List (List ℕ)) (name : List ℕ) (c : Call) → call_parts (call_with_file names name c) ≡ call_parts c
call-parts names name (call.Load a n) = refl
call-parts names name (call.Store a n v) = refl
call-parts names name (call.Map at len prot kind (object.File f) offset) = refl
call-parts names name (call.Map at len prot kind object.NewZero offset) = refl
call-parts names name (call.Map at len prot kind (object.Zero z) offset) = refl
call-parts names name (call.Unmap a len) = refl
call-parts names name (call.Protect a len prot) = refl
call-parts names name (call.Sync a len) = refl
call-parts names name (call.Read file offset len) = refl
call-parts names name (call.Write file offset bytes rest) = refl
call-parts names name (call.Truncate file len) = refl
call-parts names name (call.Fork child) = refl
call-parts names name call.Exit = refl

act-parts : (names : List (List ℕ)) (a : PlanAct) → parts (act_with_file names a) ≡ parts a
act-parts names (act.Call c) = refl
act-parts names (act.Named name c) = call-parts names name c
act-parts names (act.Write name file offset bytes) = refl
act-parts names act.Wait = refl

pub count-named : (names : List (List ℕ)) (lines : List PlanLine) → entry_count (map (line_with_file names) lines) ≡ entry_count lines
count-named names [] = refl
count-named names (l ∷ lines) =
    sum_by-cons (λ (k : PlanLine). parts k.act) (line_with_file names l) (map (line_with_file names) lines)
    ∙ ap (λ n. n + entry_count (map (line_with_file names) lines)) (act-parts names l.act)
    ∙ ap (λ n. parts l.act + n) (count-named names lines)
    ∙ sym (sum_by-cons (λ (k : PlanLine). parts k.act) l lines)

-- the rules look at the set-up, the processes, and the number of entries
pub rules-named : (names : List (List ℕ)) (plan : PlanSeen) → broken_rule plan ≡ None → broken_rule (with_files names plan) ≡ None
rules-named names plan kept =
    ap (λ n.
    if has_wrong_frames plan.setup then Some 1
    else if nat_lt 65536 (amounts_of plan.setup).slots then Some 2
    else if not (is_from_to 8 65536 (amounts_of plan.setup).translations) then Some 3
    else if has_wrong_disk plan.setup then Some 4
    else if list_any (λ l. lacks_disk plan.setup l.act) plan.setup then Some 5
    else if list_any (λ l. is_wrong_file l.act) plan.setup then Some 6
    else if nat_lt 64 (length plan.parents) then Some 7
    else if nat_lt 1048576 n then Some 8
    else broken_join plan.setup) (count-named names plan.lines) ∙ kept
