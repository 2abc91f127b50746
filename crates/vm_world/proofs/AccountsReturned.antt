-- Blocks are accounted for as a transfer comes back.
use Rattle.std.proofs.Common.{◌≡◌, ◌≢◌, ℕ, ◌<◌, ◌==◌, Bool, true, false, cond, List, [], length, Option, Some, None, refl, sym, ap, ◌∙◌, inl, inr, subst}
use Rattle.std.specs.Prelude.{option_map, ◌&&◌, not}
use Rattle.std.proofs.lemmas.Bool.{cases_eq}
use Rattle.std.proofs.lemmas.Bool.Decides.{eqb_tells}
use Rattle.std.proofs.lemmas.List.{append-nil}
use Rattle.flat_model.specs.Flat.{Flat}
use Rattle.page_store.specs.block_device.DiskSeen.{DiskSeen}
use Rattle.page_store.specs.page_hash.declared.PageName.{PageName}
use Rattle.page_store.specs.Bays.{BaySeen, bay_at, block_of}
use Rattle.page_store.specs.Flight.{FlightSeen}
use Rattle.page_store.specs.Notes.{Notes, with_note}
use Rattle.page_store.specs.Value.{content_in_bay}
use Rattle.mark_laws.specs.AccountLaws.{Moment, AccountsFor}
use Rattle.mark_laws.specs.MarkLaws.{marks_by}
use Rattle.mark_laws.specs.MarksFit.{DiskContents, PushesFile}
use Rattle.mark_laws.proofs.Accounts.{accounts_rule}
use Rattle.vm_world.specs.DiskPlaces.{faults_in, seen_of_note}
use Rattle.vm_world.specs.Events.{AccountsForBlocks, moment_of}
use Rattle.vm_world.specs.Marks.{MarksSeen}
use Rattle.vm_world.specs.MarksOf.{MarksOf, FailuresOf}
use Rattle.vm_world.specs.State.{KernelState, Seats, Sent, notes_of, with_sent}
use Rattle.vm_world.specs.StateMarks.{PagesFit}
use Rattle.vm_world.specs.StateSteps.{after_return, ComesBack}
use Rattle.vm_world.specs.World.{World, AllTell}
use Rattle.vm_world.specs.WorldSteps.{WorldStep, returns}
use Rattle.vm_world.proofs.Failed as failed
use Rattle.vm_world.proofs.Moving as moving
use Rattle.vm_world.proofs.PageNames.{not-slot}

module _ (opening : Flat) (s : KernelState) (new : World) (cut : PageName → Bool) (pending seat : ℕ) (seats : Seats) (sent : Sent) (f : FlightSeen) (fit : PagesFit opening s seats) (marks : MarksOf opening s seats s.marks) (is_sent : seats seat ≡ Some sent)
    (step : WorldStep s.memory.world new s.memory.spaces (returns seat sent.note) cut) (back : ComesBack sent.note f new) where
  abbrev was : DiskContents
  was k = content_in_bay (bay_at s.memory.world.store.bays k) (notes_of seats)

  abbrev now : DiskContents
  now k = content_in_bay (bay_at new.store.bays k) (with_note (notes_of seats) seat None)

  abbrev had : ℕ → Option ℕ
  had k = faults_in (bay_at s.memory.world.store.bays k) (notes_of seats)

  abbrev has : ℕ → Option ℕ
  has k = faults_in (bay_at new.store.bays k) (with_note (notes_of seats) seat None)

  abbrev later : MarksSeen → Moment
  later m = record { history = s.history; contents = now; faults = has; marks = m }

  noted : notes_of seats seat ≡ Some sent.note
  noted = ap (option_map (λ (x : Sent). x.note)) is_sent

  here : now sent.note.number ≡ f.disk.content
  here = moving.here opening s new cut pending seat seats sent s.marks fit marks f is_sent step back

  there : was sent.note.number ≡ sent.note.disk.content
  there = moving.there opening s new cut pending seat seats sent s.marks fit marks f is_sent step back

  elsewhere : (k : ℕ) → k ≢ sent.note.number → now k ≡ was k
  elsewhere = moving.elsewhere opening s new cut pending seat seats sent s.marks fit marks f is_sent step back

  -- a transfer that writes no page of a file leaves each block of a disk of files
  blocks-same : ¬ PushesFile sent.note → (disk block : ℕ) → disk < 8 → block_of (now disk) block ≡ block_of (was disk) block
  blocks-same none disk block low = elim (cases_eq disk sent.note.number) [
    | inl e ↦ subst (λ (k : ℕ). block_of (now k) block ≡ block_of (was k) block) (sym e)
        (ap (λ (c : Option (List (List ℕ))). block_of c block) here
        ∙ moving.other-block opening s new cut pending seat seats sent s.marks fit marks f is_sent step back block (λ writes at. elim (cases_eq sent.note.name.object 64) [
          | inl slot ↦ moving.swap-far opening s new cut pending seat seats sent s.marks fit marks f is_sent step back slot disk low e
          | inr far ↦ none (record { writes = writes; far = far })
        ])
        ∙ sym (ap (λ (c : Option (List (List ℕ))). block_of c block) there))
    | inr ne ↦ ap (λ (c : Option (List (List ℕ))). block_of c block) (elsewhere disk ne)
  ]

  module _ (fails : FailuresOf s seats s.marks) (tell : AllTell s.memory.world (notes_of seats)) where
    aside : ¬ PushesFile sent.note → AccountsFor opening (moment_of s (notes_of seats)) (later s.marks)
    aside none = accounts_rule.still opening (moment_of s (notes_of seats)) (later s.marks) [] (sym (append-nil s.history)) (blocks-same none)
        (failed.counts-on opening s new cut pending seat seats sent s.marks fit fails f is_sent step back) (λ disk block at. at)

    pushed : PushesFile sent.note → AccountsFor opening (moment_of s (notes_of seats)) (later (marks_by s.marks seat sent.note (length s.history) f f.outcome))
    pushed pushes = accounts_rule.ends opening s.history was now had has (notes_of seats) s.marks seat sent.note f (marks tell) noted pushes (record {
      performed = back.performed;
      was = there;
      is = here;
      others = elsewhere;
      had = ap (λ (b : BaySeen). faults_in b (notes_of seats)) step.bays.0 ∙ ap (seen_of_note (λ (d : DiskSeen). d.faults)) noted;
      has = failed.here opening s new cut pending seat seats sent s.marks fit fails f is_sent step back;
      counts = failed.elsewhere opening s new cut pending seat seats sent s.marks fit fails f is_sent step back;
    })

    by-write : (a b : Bool) → sent.note.writes ≡ a → (sent.note.name.object == 64) ≡ b
        → AccountsFor opening (moment_of s (notes_of seats)) (later (cond (a && not b) (marks_by s.marks seat sent.note (length s.history) f f.outcome) s.marks))
    by-write false b x y = aside (λ p. let z : false ≡ true = sym x ∙ p.writes in cc)
    by-write true true x y = aside (λ p. let z : false ≡ true = sym (not-slot sent.note.name.object p.far) ∙ y in cc)
    by-write true false x y = pushed (record { writes = x; far = λ e. let z : false ≡ true = sym y ∙ slot-is sent.note.name.object e in cc })
      where
        slot-is : (o : ℕ) → o ≡ 64 → (o == 64) ≡ true
        slot-is o e = elim (eqb_tells o 64) [ inl same ↦ same.0 | inr ne ↦ absurd (ne.1 e) ]

  pub accounts-return : FailuresOf s seats s.marks → AccountsForBlocks opening s (notes_of seats) (after_return s new pending seat sent.note f) (notes_of (with_sent seats seat None))
  accounts-return fails = subst (λ (n : Notes). AccountsForBlocks opening s (notes_of seats) (after_return s new pending seat sent.note f) n) (sym (moving.notes-return seats seat))
      (λ tell. let old = (step.tells (notes_of seats) noted fit.notes).1 tell in (old, by-write fails old sent.note.writes (sent.note.name.object == 64) refl refl))
