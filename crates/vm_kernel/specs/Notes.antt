-- What a seat has outside the lock. Public clauses cite this.
use Rattle.std.specs.Prelude.{◌≡◌, false, [], Option, Some, None}
use Rattle.vm_core.specs.page_store.block_device.DiskSeen.{one_disk}
use Rattle.vm_core.specs.page_store.Flight.{note_of, fresh}
use Rattle.vm_core.specs.Flights.{IsBack}
use Rattle.vm_core.specs.vm_world.State.{Sent, Caller}
use Rattle.vm_core.specs.vm_world.World.{file_name}
use Rattle.vm_kernel.specs.declared.sent.SentFlight.{SentFlight}

-- What a seat has outside that has this.
abbrev pub note_of_held : {D : Type 0} → Option (SentFlight D) → Option Sent
note_of_held None = None
note_of_held (Some x) = Some record { note = note_of x.flight; of = x.of }

-- A note that no seat has.
abbrev pub no_sent : Sent
no_sent = record {
  note = record {
    seat = 0;
    origin = 0;
    number = 0;
    disk = record { content = None; size = 0; kind = one_disk; faults = 0; calls = 0 };
    writes = false;
    name = file_name 0 0;
    block = 0;
    valid = 0;
    frame = 0;
    bytes = [];
  };
  of = None;
}

-- The transfer of a flight that just began isn't made yet.
abbrev pub IsUnperformed : {D : Type 0} → SentFlight D → Type 0
IsUnperformed x = x.flight.outcome ≡ fresh

-- The flight that is held, if one is, waits for its transfer.
abbrev pub AreUnperformed : {D : Type 0} → Option (SentFlight D) → Type 0
AreUnperformed None = Unit {0}
AreUnperformed (Some x) = IsUnperformed x

-- A flight is for this process and call, or for none.
abbrev pub IsSentFor : {D : Type 0} → SentFlight D → Option Caller → Type 0
IsSentFor x of = of ≡ x.of

-- What a caller has in hand is what its seat's note says: nothing, or the flight of the note, whose transfer was made.
abbrev pub InHand : {D : Type 0} → Option (SentFlight D) → Option Sent → Type 0
InHand None None = Unit {0}
InHand None (Some note) = ⊥
InHand (Some x) None = ⊥
InHand (Some x) (Some note) = IsBack note x.flight x.of
