-- The numbers and names of faults, as a report prints them. Public clauses cite this.
use Rattle.std.specs.Prelude.{ℕ, List, codes}
use Rattle.flat_model.specs.vm_types.Names.{errno_number, errno_name}
use Rattle.shm_model.specs.declared.acts.ShmFault.{ShmFault}
use Rattle.shm_model.specs.declared.acts.ShmFault.TheVariants.{NoKey, Exists, BadLength}
use Rattle.shm_model.specs.declared.acts.ShmFault.TheVariants.{NotAttached, Kernel}

-- Faults of keys are numbered behind the kernel's errors; a refusal of the kernel keeps its number.
abbrev pub fault_number : ShmFault → ℕ
fault_number NoKey = 10
fault_number Exists = 11
fault_number BadLength = 12
fault_number NotAttached = 13
fault_number (Kernel errno) = errno_number errno

-- The name of a fault.
abbrev pub fault_name : ShmFault → List ℕ
fault_name NoKey = codes "NoKey"
fault_name Exists = codes "Exists"
fault_name BadLength = codes "BadLength"
fault_name NotAttached = codes "NotAttached"
fault_name (Kernel errno) = errno_name errno
