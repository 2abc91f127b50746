-- Scripts that need no thread. Public clauses cite this.
use Rattle.std.specs.Prelude.{nat_le, ◌&&◌, ◌==◌, Bool, true, false, length}
use Rattle.std.specs.List.{list_all}
use Rattle.volume_files.specs.vm_types.declared.call.Call.TheVariants as call
use Rattle.volume_files.specs.vm_script.declared.plan.PlanAct.{PlanAct}
use Rattle.volume_files.specs.vm_script.declared.plan.PlanAct.TheVariants as act
use Rattle.volume_files.specs.vm_script.PlanSeen.{PlanSeen}
use Rattle.run_input.specs.Asked.{Asked}

-- Whether a line neither forks nor waits.
abbrev pub is_plain_act : PlanAct → Bool
is_plain_act (act.Call (call.Fork child)) = false
is_plain_act act.Wait = false
is_plain_act a = true

-- Whether a plan has one block at most, which neither forks nor waits.
abbrev pub is_alone : PlanSeen → Bool
is_alone plan = nat_le (length plan.parents) 1 && list_all (λ l. is_plain_act l.act) plan.lines

-- Whether what was asked needs no thread: a plan of one block that neither forks nor waits, without
-- a turn of the pageout daemon.
abbrev pub needs_no_thread : Asked → Bool
needs_no_thread what = (what.options.pageout == 0) && is_alone what.plan
