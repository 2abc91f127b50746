-- Which disks are given, by their numbers. Inside: no public clause cites this.
use Rattle.std.specs.Prelude.{Bool, false, not, ◌||◌, List, nat_lt, slice_index_or}
use Rattle.vm_script.specs.declared.plan.SetupAct.{SetupAct}
use Rattle.vm_script.specs.declared.plan.SetupAct.TheVariants as given

-- The line is a file's, and its disk isn't among those given.
abbrev pub lacks_given_disk : List Bool → SetupAct → Bool
lacks_given_disk disks (given.File name writable disk pages bytes) = nat_lt 7 disk || not (slice_index_or disks disk false)
lacks_given_disk disks a = false
