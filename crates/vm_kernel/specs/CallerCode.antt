-- Callers and kernels as data, so that models may have them as values. Inside: no public clause cites this.
use Rattle.std.specs.Prelude.{ℕ, Bool, List, Option, refl}
use Rattle.std.specs.Coded.{Coded, code_by, coded×, coded_ℕ, coded_bool, coded_list, coded_option}
use Rattle.atomic_table.specs.Seated.{TableId, table_id_coded}
use Rattle.vm_core.specs.StateCode.{state_code}
use Rattle.vm_core.specs.vm_types.declared.call.Entry.{Entry}
use Rattle.vm_core.specs.vm_types.contracts.call.Entry as entry
use Rattle.vm_kernel.specs.contracts.sent.SeatNote as note
use Rattle.vm_core.specs.vm_world.State.{KernelState, Sent}
use Rattle.vm_kernel.specs.Callers.{KernelSeen, SeatSeen, CallerSeen}

-- A kernel's lock as data: its table, how many seats it has, and its opening.
abbrev pub kernel_code : Coded KernelSeen
kernel_code =
    code_by (TableId × (ℕ × KernelState)) (coded× table_id_coded (coded× coded_ℕ state_code))
    (λ l. (l.lock, (l.seats, l.opening))) (λ p. record { lock = p.0; seats = p.1.0; opening = p.1.1 }) (λ _. refl)

-- Which seat it is, and where.
abbrev pub SeatPlace : Type 0
SeatPlace = TableId × (Option KernelState × (ℕ × (ℕ × (Bool × Option KernelState))))

-- Where a seat is, as data.
abbrev pub seat_place_code : Coded SeatPlace
seat_place_code = coded× table_id_coded (coded× (coded_option state_code) (coded× coded_ℕ (coded× coded_ℕ (coded× coded_bool (coded_option state_code)))))

-- What it has and saw, and its counts.
abbrev pub SeatKnown : Type 0
SeatKnown = Option Sent × (List Entry × (List Entry × (ℕ × (Option ℕ × (ℕ × (ℕ × (ℕ × (ℕ × Option Sent))))))))

-- What a seat has and saw, and its counts, as data.
abbrev pub seat_known_code : Coded SeatKnown
seat_known_code =
    coded× (coded_option note.the_row.coded) (coded× (coded_list entry.the_row.coded) (coded× (coded_list entry.the_row.coded) (coded× coded_ℕ (coded× (coded_option coded_ℕ) (coded× coded_ℕ (coded× coded_ℕ (coded× coded_ℕ (coded× coded_ℕ (coded_option note.the_row.coded)))))))))

-- A seat as data.
abbrev pub seat_code : Coded SeatSeen
seat_code =
    code_by (SeatPlace × SeatKnown) (coded× seat_place_code seat_known_code)
    (λ v. ((v.lock, (v.opening, (v.seats, (v.number, (v.inside, v.state))))), (v.note, (v.own, (v.seen, (v.refused, (v.refused_by, (v.leaves, (v.told, (v.told_files, (v.emptied, v.last_emptied)))))))))))
    (λ p. record {
      lock = p.0.0;
      opening = p.0.1.0;
      seats = p.0.1.1.0;
      number = p.0.1.1.1.0;
      inside = p.0.1.1.1.1.0;
      state = p.0.1.1.1.1.1;
      note = p.1.0;
      own = p.1.1.0;
      seen = p.1.1.1.0;
      refused = p.1.1.1.1.0;
      refused_by = p.1.1.1.1.1.0;
      leaves = p.1.1.1.1.1.1.0;
      told = p.1.1.1.1.1.1.1.0;
      told_files = p.1.1.1.1.1.1.1.1.0;
      emptied = p.1.1.1.1.1.1.1.1.1.0;
      last_emptied = p.1.1.1.1.1.1.1.1.1.1;
    }) (λ _. refl)

-- A caller as data: its seat and its process.
abbrev pub caller_code : Coded CallerSeen
caller_code = code_by (SeatSeen × ℕ) (coded× seat_code coded_ℕ) (λ c. (c.seat, c.process)) (λ p. record { seat = p.0; process = p.1 }) (λ _. refl)
