-- The numbers and names of errors, and the texts of signals, as a report prints them. Public clauses cite this.
use Rattle.std.specs.Prelude.{ℕ, List, codes}
use Rattle.vm_types.specs.declared.call.Errno.{Errno}
use Rattle.vm_types.specs.declared.call.Errno.TheVariants.{Invalid, Access, NoSwap, NoRoom, TooLarge, NotMapped, ReadOnly, TooBig, NoObject}
use Rattle.vm_types.specs.declared.call.Signal.{Signal}
use Rattle.vm_types.specs.declared.call.Signal.TheVariants as signal

-- Errors are numbered from 1 in this order.
abbrev pub errno_number : Errno → ℕ
errno_number Invalid = 1
errno_number Access = 2
errno_number NoSwap = 3
errno_number NoRoom = 4
errno_number TooLarge = 5
errno_number NotMapped = 6
errno_number ReadOnly = 7
errno_number TooBig = 8
errno_number NoObject = 9

-- An error is printed by its name.
abbrev pub errno_name : Errno → List ℕ
errno_name Invalid = codes "Invalid"
errno_name Access = codes "Access"
errno_name NoSwap = codes "NoSwap"
errno_name NoRoom = codes "NoRoom"
errno_name TooLarge = codes "TooLarge"
errno_name NotMapped = codes "NotMapped"
errno_name ReadOnly = codes "ReadOnly"
errno_name TooBig = codes "TooBig"
errno_name NoObject = codes "NoObject"

-- An address without a mapping and one that its protection forbids are segmentation faults; a word that isn't
-- aligned and an address past the object's end are bus errors.
abbrev pub signal_text : Signal → List ℕ
signal_text signal.NoMap = codes "SEGV nomap"
signal_text signal.Prot = codes "SEGV prot"
signal_text signal.Align = codes "BUS align"
signal_text signal.Past = codes "BUS past"
