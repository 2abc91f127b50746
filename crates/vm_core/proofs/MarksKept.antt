-- How marks change, and that an answer changes none.
use Rattle.std.proofs.Common.{◌≡◌, ◌≢◌, ℕ, length, Option, Some, None, refl, sym, ap, ◌∙◌}
use Rattle.std.specs.Option.{option_map_or}
use Rattle.fault_entry.specs.page_hash.declared.PageName.{PageName}
use Rattle.fault_entry.specs.page_store.Flight.{FlightSeen, Progress, fresh, done, failed, file_push_of}
use Rattle.fault_entry.specs.seg_vn.declared.attempt.Attempt.{Attempt}
use Rattle.fault_entry.specs.seg_vn.declared.attempt.Attempt.TheVariants.{Done, Need, Busy}
use Rattle.fault_entry.specs.vm_types.declared.call.Call.{Call}
use Rattle.fault_entry.specs.vm_world.State.{KernelState}
use Rattle.fault_entry.specs.vm_world.Marks.{MarksSeen}
use Rattle.disk_marks.specs.Changes.{marks_begun, marks_written, marks_spoiled}
use Rattle.vm_core.specs.Calls.{after_answer}
use Rattle.vm_core.specs.Marks.{marks_departed, marks_after_push, marks_landed}

pub answered-marks : (s : KernelState) (seat p : ℕ) (call : Call) (a : Attempt) → (after_answer s seat p call a).marks ≡ s.marks
answered-marks s seat p call (Done reply) = refl
answered-marks s seat p call (Need plan) = refl
answered-marks s seat p call (Busy h) = refl

-- What a flight leaves of the marks as it comes back: of no push of a file's page; and of one that failed, and of one that went well.
pub landed-none : (m : MarksSeen) (seat : ℕ) (f : FlightSeen) (entries : ℕ) → file_push_of f ≡ None → marks_landed m seat f entries ≡ m
landed-none m seat f entries none = ap (λ (o : Option (PageName × ℕ)). option_map_or (λ (page : PageName × ℕ). marks_after_push m seat f page.1 entries f.outcome) o m) none

pub landed-failed : (m : MarksSeen) (seat : ℕ) (f : FlightSeen) (entries : ℕ) (page : PageName × ℕ) → file_push_of f ≡ Some page → f.outcome ≡ failed
    → marks_landed m seat f entries ≡ marks_spoiled m seat f.number page.1 entries f.before f.disk.faults
landed-failed m seat f entries page is bad =
    ap (λ (o : Option (PageName × ℕ)). option_map_or (λ (p : PageName × ℕ). marks_after_push m seat f p.1 entries f.outcome) o m) is
    ∙ ap (marks_after_push m seat f page.1 entries) bad

pub landed-done : (m : MarksSeen) (seat : ℕ) (f : FlightSeen) (entries : ℕ) (page : PageName × ℕ) → file_push_of f ≡ Some page → f.outcome ≢ failed → f.outcome ≢ fresh
    → marks_landed m seat f entries ≡ marks_written m seat f.number page.1
landed-done m seat f entries page is good made =
    ap (λ (o : Option (PageName × ℕ)). option_map_or (λ (p : PageName × ℕ). marks_after_push m seat f p.1 entries f.outcome) o m) is ∙ by_outcome f.outcome refl
  where
    by_outcome : (o : Progress) → f.outcome ≡ o → marks_after_push m seat f page.1 entries o ≡ marks_written m seat f.number page.1
    by_outcome fresh e = absurd (made e)
    by_outcome done e = refl
    by_outcome failed e = absurd (good e)

-- A push that begins.
pub departed : (m : MarksSeen) (seat : ℕ) (f : FlightSeen) (entries : ℕ) (page : PageName × ℕ) → file_push_of f ≡ Some page → marks_departed m seat f entries ≡ marks_begun m seat page.0.object page.0.page entries
departed m seat f entries page is = ap (λ (o : Option (PageName × ℕ)). option_map_or (λ (p : PageName × ℕ). marks_begun m seat p.0.object p.0.page entries) o m) is

pub departed-none : (m : MarksSeen) (seat : ℕ) (f : FlightSeen) (entries : ℕ) → file_push_of f ≡ None → marks_departed m seat f entries ≡ m
departed-none m seat f entries none = ap (λ (o : Option (PageName × ℕ)). option_map_or (λ (p : PageName × ℕ). marks_begun m seat p.0.object p.0.page entries) o m) none

-- THE STATE as the push of a file's page begins, and as it ends, failed or went well.
module _ (v s : KernelState) (same : v ≡ s) (m : MarksSeen) (n seat : ℕ) (count : n ≡ length v.history) (f : FlightSeen) (page : PageName × ℕ) (is : file_push_of f ≡ Some page) where
  pub push-begun : m ≡ marks_begun v.marks seat page.0.object page.0.page n → record v { marks = m } ≡ record s { marks = marks_departed s.marks seat f (length s.history) }
  push-begun left =
      ap (λ (x : MarksSeen). record v { marks = x }) (left ∙ ap (marks_begun v.marks seat page.0.object page.0.page) count ∙ sym (departed v.marks seat f (length v.history) page is))
      ∙ ap (λ (x : KernelState). record x { marks = marks_departed x.marks seat f (length x.history) }) same

  pub push-failed : (disk before after : ℕ) → disk ≡ f.number → before ≡ f.before → after ≡ f.disk.faults → f.outcome ≡ failed → m ≡ marks_spoiled v.marks seat disk page.1 n before after
      → record v { marks = m } ≡ record s { marks = marks_landed s.marks seat f (length s.history) }
  push-failed disk before after at_disk at_before at_after bad left =
      ap (λ (x : MarksSeen). record v { marks = x }) (left
      ∙ (λ i. marks_spoiled v.marks seat (at_disk i) page.1 (count i) (at_before i) (at_after i))
      ∙ sym (landed-failed v.marks seat f (length v.history) page is bad))
      ∙ ap (λ (x : KernelState). record x { marks = marks_landed x.marks seat f (length x.history) }) same

pub push-ended : (v s : KernelState) → v ≡ s → (m : MarksSeen) (seat : ℕ) (f : FlightSeen) (page : PageName × ℕ) → file_push_of f ≡ Some page → (disk : ℕ) → disk ≡ f.number → f.outcome ≢ failed → f.outcome ≢ fresh → m ≡ marks_written v.marks seat disk page.1
    → record v { marks = m } ≡ record s { marks = marks_landed s.marks seat f (length s.history) }
push-ended v s same m seat f page is disk at_disk good made left =
    ap (λ (x : MarksSeen). record v { marks = x }) (left ∙ ap (λ (k : ℕ). marks_written v.marks seat k page.1) at_disk ∙ sym (landed-done v.marks seat f (length v.history) page is good made))
    ∙ ap (λ (x : KernelState). record x { marks = marks_landed x.marks seat f (length x.history) }) same

-- Any other transfer leaves them.
pub push-none : (v s : KernelState) → v ≡ s → (seat : ℕ) (f : FlightSeen) → file_push_of f ≡ None → (v ≡ record s { marks = marks_departed s.marks seat f (length s.history) }) × (v ≡ record s { marks = marks_landed s.marks seat f (length s.history) })
push-none v s same seat f none = (
  same ∙ ap (λ (x : MarksSeen). record s { marks = x }) (sym (departed-none s.marks seat f (length s.history) none)),
  same ∙ ap (λ (x : MarksSeen). record s { marks = x }) (sym (landed-none s.marks seat f (length s.history) none)),
)
