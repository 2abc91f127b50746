-- What an access is allowed by. Inside: no public clause cites this.
use Rattle.std.specs.Prelude.{Bool}
use Rattle.flat_model.specs.vm_types.declared.prot.Prot.{Prot}
use Rattle.flat_model.specs.vm_types.Prot.{can_read, can_write}
use Rattle.flat_state.specs.declared.state.Access.{Access}
use Rattle.flat_state.specs.declared.state.Access.TheVariants as access

-- A load wants READ, and a store WRITE.
abbrev pub is_allowed_by : Access → Prot → Bool
is_allowed_by access.Load prot = can_read prot
is_allowed_by access.Store prot = can_write prot
