-- The failures that the marks of a state name, as disks leave and come back.
use Rattle.std.proofs.Common.{◌≡◌, ◌≢◌, ℕ, ◌==◌, Bool, true, false, cond, List, length, Option, Some, None, refl, sym, ap, ◌∙◌, inl, inr, subst, arith}
use Rattle.std.specs.Prelude.{slice_set, option_map, ◌&&◌, not}
use Rattle.std.proofs.lemmas.Bool.{cases_eq}
use Rattle.std.proofs.lemmas.List.{get_or-set_same, get_or-set_other}
use Rattle.flat_model.specs.Flat.{Flat}
use Rattle.page_store.specs.block_device.Counts.{HasRisen}
use Rattle.page_store.specs.block_device.DiskSeen.{DiskSeen}
use Rattle.page_store.specs.page_hash.declared.PageName.{PageName}
use Rattle.page_store.specs.Bays.{BaySeen, missing, home, out, bay_at}
use Rattle.page_store.specs.Flight.{FlightSeen, Progress, fresh, done, failed}
use Rattle.page_store.specs.Notes.{Note, Notes, with_note}
use Rattle.mark_laws.specs.disk_marks.Marks.{MarksSeen}
use Rattle.mark_laws.specs.MarksFit.{FailuresFit}
use Rattle.mark_laws.specs.MarkLaws.{marks_by}
use Rattle.mark_laws.specs.FailureLaws.{CountOn}
use Rattle.page_store.proofs.TransferLemmas.{with_note-same, with_note-other, home-within}
use Rattle.mark_laws.proofs.Failing.{failures_rule}
use Rattle.vm_world.specs.DiskPlaces.{faults_in, seen_of_note}
use Rattle.vm_world.specs.State.{KernelState, Seats, Sent, notes_of, with_sent}
use Rattle.vm_world.specs.StateSteps.{after_step, ComesBack}
use Rattle.vm_world.specs.World.{World}
use Rattle.vm_world.specs.WorldSteps.{WorldStep, leaves, returns}
use Rattle.vm_world.proofs.FlatWhole.{some-inj}
use Rattle.vm_world.specs.MarksOf.{FailuresOf, marks_ended}
use Rattle.vm_world.specs.StateMarks.{PagesFit, StateFailuresLaw}
use Rattle.vm_world.proofs.Moving.{notes-leave, notes-return}

module _ (opening : Flat) (s : KernelState) (new : World) (cut : PageName → Bool) (pending seat : ℕ) (seats : Seats) (sent : Sent) (m : MarksSeen) (fit : PagesFit opening s seats) (fails : FailuresOf s seats m) where
  abbrev bays : List BaySeen
  bays = s.memory.world.store.bays

  abbrev notes : Notes
  notes = notes_of seats

  abbrev was : ℕ → Option ℕ
  was disk = faults_in (bay_at bays disk) notes

  -- A DISK LEAVES: its note has its count.
  module _ (idle : seats seat ≡ None) (step : WorldStep s.memory.world new s.memory.spaces (leaves seat sent.note) cut) where
    no-note : notes_of seats seat ≡ None
    no-note = ap (option_map (λ (x : Sent). x.note)) idle

    beside : (k : ℕ) (b : BaySeen) → bay_at bays k ≡ b → faults_in b (with_note notes seat (Some sent.note)) ≡ faults_in b notes
    beside k missing e = refl
    beside k (home d) e = refl
    beside k (out t) e = ap (seen_of_note (λ (d : DiskSeen). d.faults)) (with_note-other notes seat t (Some sent.note) (λ same.
        let there = fit.notes.stored.each_bay k t e in absurd (let z : ◌≡◌ {A = Option Note} None (Some there.0) = sym no-note ∙ ap notes (sym same) ∙ there.1 in cc)))

    same-counts : (disk : ℕ) → faults_in (bay_at new.store.bays disk) (with_note notes seat (Some sent.note)) ≡ faults_in (bay_at bays disk) notes
    same-counts disk = ap (λ (b : List BaySeen). faults_in (bay_at b disk) (with_note notes seat (Some sent.note))) step.bays.1 ∙ elim (cases_eq disk sent.note.number) [
      | inl e ↦
          subst (λ (k : ℕ). faults_in (bay_at (slice_set bays sent.note.number (out seat)) k) (with_note notes seat (Some sent.note)) ≡ faults_in (bay_at bays k) notes) (sym e)
          (ap (λ (b : BaySeen). faults_in b (with_note notes seat (Some sent.note))) (get_or-set_same bays sent.note.number (out seat) missing (home-within bays sent.note.number sent.note.disk step.bays.0))
          ∙ ap (seen_of_note (λ (d : DiskSeen). d.faults)) (with_note-same notes seat (Some sent.note)) ∙ sym (ap (λ (b : BaySeen). faults_in b notes) step.bays.0))
      | inr ne ↦ ap (λ (b : BaySeen). faults_in b (with_note notes seat (Some sent.note))) (get_or-set_other bays sent.note.number disk (out seat) missing ne) ∙ beside disk (bay_at bays disk) refl
    ]

    pub failures-leave : FailuresOf (after_step s new pending) (with_sent seats seat (Some sent)) m
    failures-leave = subst (λ (n : Notes). FailuresFit (λ disk. faults_in (bay_at new.store.bays disk) n) m) (sym (notes-leave seats seat sent))
        (failures_rule.keep was (λ disk. faults_in (bay_at new.store.bays disk) (with_note notes seat (Some sent.note))) m (λ disk count is. (count, same-counts disk ∙ is, omega arith)) fails)

  -- A DISK COMES BACK: its count didn't fall, and rose where the transfer failed.
  module _ (f : FlightSeen) (is_sent : seats seat ≡ Some sent) (step : WorldStep s.memory.world new s.memory.spaces (returns seat sent.note) cut) (back : ComesBack sent.note f new) where
    noted : notes_of seats seat ≡ Some sent.note
    noted = ap (option_map (λ (x : Sent). x.note)) is_sent

    one : (k : ℕ) → bay_at bays k ≡ out seat → k ≡ sent.note.number
    one k at =
        let b = fit.notes.stored.each_bay k seat at in
        let same : b.0 ≡ sent.note = some-inj b.0 sent.note (sym b.1 ∙ noted) in
        sym b.2 ∙ ap (λ (n : Note). n.number) same

    abbrev now : ℕ → Option ℕ
    now disk = faults_in (bay_at new.store.bays disk) (with_note notes seat None)

    pub here : now sent.note.number ≡ Some f.disk.faults
    here = ap (λ (b : BaySeen). faults_in b (with_note notes seat None)) back.disk

    beside-back : (k : ℕ) (b : BaySeen) → k ≢ sent.note.number → bay_at bays k ≡ b → faults_in b (with_note notes seat None) ≡ faults_in b notes
    beside-back k missing ne e = refl
    beside-back k (home d) ne e = refl
    beside-back k (out t) ne e = ap (seen_of_note (λ (d : DiskSeen). d.faults)) (with_note-other notes seat t None (λ same. ne (one k (e ∙ ap out same))))

    pub elsewhere : (disk : ℕ) → disk ≢ sent.note.number → now disk ≡ was disk
    elsewhere disk ne = ap (λ (b : List BaySeen). faults_in (bay_at b disk) (with_note notes seat None)) step.bays.1.1
        ∙ ap (λ (b : BaySeen). faults_in b (with_note notes seat None)) (get_or-set_other bays sent.note.number disk (home step.bays.1.0) missing ne) ∙ beside-back disk (bay_at bays disk) ne refl

    pub counts-on : CountOn was now
    counts-on disk count is = elim (cases_eq disk sent.note.number) [
      | inl e ↦
          let old : count ≡ sent.note.disk.faults =
          some-inj count sent.note.disk.faults (sym is ∙ ap was e ∙ ap (λ (b : BaySeen). faults_in b notes) step.bays.0 ∙ ap (seen_of_note (λ (d : DiskSeen). d.faults)) noted) in
          let later = back.performed.later in
          (f.disk.faults, ap now e ∙ here, omega (arith, old, later))
      | inr ne ↦ (count, elsewhere disk ne ∙ is, omega arith)
    ]

    kept : FailuresFit now m
    kept = failures_rule.keep was now m counts-on fails

    by_outcome : (o : Progress) → f.outcome ≡ o → FailuresFit now (marks_by m seat sent.note (length s.history) f o)
    by_outcome fresh e = kept
    by_outcome done e = failures_rule.written now m seat sent.note.number sent.note.block kept
    by_outcome failed e =
        let later = back.performed.later in
        let before = back.performed.before in
        let risen = back.performed.risen e in
        failures_rule.spoiled now m seat sent.note.number sent.note.block (length s.history) f.before f.disk.faults kept
        (subst (λ (n : ℕ). HasRisen n f.disk.faults) (sym before) risen) (omega (arith, later, before)) back.most here

    by_write : (a b : Bool) → FailuresFit now (cond (a && not b) (marks_by m seat sent.note (length s.history) f f.outcome) m)
    by_write false b = kept
    by_write true true = kept
    by_write true false = by_outcome f.outcome refl

    pub failures-end : FailuresOf (after_step s new pending) (with_sent seats seat None) (marks_ended m seat sent.note (length s.history) f)
    failures-end = subst (λ (n : Notes). FailuresFit (λ disk. faults_in (bay_at new.store.bays disk) n) (marks_ended m seat sent.note (length s.history) f)) (sym (notes-return seats seat))
        (by_write sent.note.writes (sent.note.name.object == 64))

pub state_failures_rule : StateFailuresLaw
state_failures_rule = record {
  leaves = λ opening s new cut pending seat seats sent m fit fails idle step. failures-leave opening s new cut pending seat seats sent m fit fails idle step;
  ends = λ opening s new cut pending seat seats sent f m fit fails is step back. failures-end opening s new cut pending seat seats sent m fit fails f is step back;
}
