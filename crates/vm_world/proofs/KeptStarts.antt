-- WHERE A SYNC BEGAN is kept.
use Rattle.std.proofs.Common.{◌≡◌, ℕ, suc, true, false, ◌<◌, List, [], length, append-nil, Option, Some, None, refl, sym, ap, ◌∙◌, inl, inr, subst, arith, slice_index_or, slice_set, get_or-set_same, get_or-set_other, length-set}
use Rattle.std.specs.Prelude.{Bool, ◌==◌, ◌&&◌, if◌then◌else◌, is_none, is_some, IsSome}
use Rattle.std.proofs.lemmas.Bool.{cases_Bool, cases_eq}
use Rattle.page_store.specs.core_arena.Bytes.{bytes_at}
use Rattle.page_store.specs.page_hash.Names.{find, name_at}
use Rattle.page_store.specs.page_hash.declared.PageName.{PageName}
use Rattle.page_store.proofs.page_hash.NameLaws.{find-some}
use Rattle.page_store.specs.page_lock.Rows.{row_at}
use Rattle.page_store.specs.Notes.{Note, Notes}
use Rattle.page_store.specs.Seen.{StoreSeen, IsGone, own_frame, residence, residence_in, residence_of}
use Rattle.page_store.specs.declared.residence.Residence.TheVariants.{Home}
use Rattle.page_store.proofs.QueryLemmas.{found-within}
use Rattle.vm_world.specs.FlatMemory.{Memory}
use Rattle.vm_world.specs.MemoryFits.{MemoryFits}
use Rattle.vm_world.specs.NotesFit.{NotesFit}
use Rattle.flat_model.specs.vm_types.declared.call.Entry.{Entry}
use Rattle.flat_model.specs.Flat.{Flat}
use Rattle.flat_model.specs.History.{IsStart}
use Rattle.vm_world.specs.Events.{IsEvent}
use Rattle.vm_world.specs.State.{KernelState, Seats, Sent, fixed_of}
use Rattle.vm_world.specs.StateFits.{StateFits}
use Rattle.vm_world.specs.SyncSteps.{StartRule, start_kept, start_of, with_call_begun}
use Rattle.vm_world.specs.declared.sync_start.SyncStart.{SyncStart}
use Rattle.vm_world.specs.Wants.{IsCleanPage}
use Rattle.vm_world.proofs.Told.{event_law}
use Rattle.flat_model.specs.vm_types.declared.call.Call.{Call}
use Rattle.flat_model.specs.vm_types.declared.call.Call.TheVariants as call
use Rattle.vm_world.proofs.StateSteps.{no-entries, same-seats, disks-still, accounts-still}

starts-now : (H : List Entry) (p : ℕ) → IsStart H (length H) p (length H)
starts-now H p = (omega arith, λ j d lt at of. lt)

-- the start of a seat, where one is kept of the range, and else now
start-is : (H : List Entry) (p addr bytes : ℕ) (o : Option SyncStart) → ((b : SyncStart) → o ≡ Some b → IsStart H (length H) p b.from) → IsStart H (length H) p (start_kept o addr bytes (length H))
start-is H p addr bytes None kept = starts-now H p
start-is H p addr bytes (Some b) kept = by_range (b.addr == addr && b.length == bytes)
  where
    by_range : (same : Bool) → IsStart H (length H) p (if same then b.from else length H)
    by_range true = kept b refl
    by_range false = starts-now H p

began : (opening : Flat) (s : KernelState) (seats : Seats) (seat : ℕ) (c : Call) → StateFits opening s seats → IsStart s.history (length s.history) (suc seat) (start_of s seat c)
began opening s seats seat (call.Sync a len) fit = start-is s.history (suc seat) a len (slice_index_or s.syncs seat None) (fit.calls.starts seat)
began opening s seats seat c fit = starts-now s.history (suc seat)

-- of a Sync of this range
module _ (a len : ℕ) where
  abbrev start_now : KernelState → ℕ → SyncStart
  start_now s seat = record { from = start_of s seat (call.Sync a len); addr = a; length = len }

  abbrev with_start : KernelState → ℕ → KernelState
  with_start s seat = record s { syncs = slice_set s.syncs seat (Some (start_now s seat)) }

  keeps-start : (s : KernelState) (seat : ℕ) (sent : Option Sent) → seat < length s.syncs → IsEvent seat s sent (with_start s seat) sent
  keeps-start s seat sent lt = record {
    fits = λ opening seats is fit. subst (λ (x : Seats). StateFits opening (with_start s seat) x) (sym (same-seats seats seat sent is)) (record {
      memory = fit.memory;
      notes = fit.notes;
      replays = fit.replays;
      faults = fit.faults;
      calls = record {
        ends = fit.calls.ends;
        files = fit.calls.files;
        starts = λ t b has. elim (cases_eq t seat) [
          | inl same ↦
              let is : start_now s seat ≡ b = let z : Some (start_now s seat) ≡ Some b = sym (get_or-set_same s.syncs seat (Some (start_now s seat)) None lt) ∙ ap (λ (k : ℕ). slice_index_or (with_start s seat).syncs k None) (sym same) ∙ has in cc in
              subst (λ (k : ℕ). IsStart s.history (length s.history) (suc k) b.from) (sym same) (subst (λ (x : SyncStart). IsStart s.history (length s.history) (suc seat) x.from) is (began opening s seats seat (call.Sync a len) fit))
          | inr ne ↦ fit.calls.starts t b (sym (get_or-set_other s.syncs seat t (Some (start_now s seat)) None ne) ∙ has)
        ];
      };
      rooms = fit.rooms;
      births = fit.births;
      plans = record {
        plan = λ kept at.
            let f = fit.plans.plan kept at in
            record { may = f.may; ready = f.ready; frame = f.frame; seated = subst (λ (n : ℕ). kept.seat < n) (sym (length-set s.syncs seat (Some (start_now s seat)))) f.seated; idle = f.idle };
        planned = fit.plans.planned;
        sent = fit.plans.sent;
      };
      marks = fit.marks;
      failures = fit.failures;
      pushes = fit.pushes ∙ sym (length-set s.syncs seat (Some (start_now s seat)));
    });
    fixed = λ i. record {
      core = (fixed_of s).core;
      frames = (fixed_of s).frames;
      slots = (fixed_of s).slots;
      disks = (fixed_of s).disks;
      files = (fixed_of s).files;
      seats = length-set s.syncs seat (Some (start_now s seat)) i;
      parents = s.parents;
      entries = s.entries;
    };
    disks = λ opening seats is fit. disks-still s (with_start s seat) seat sent refl seats is;
    grown = no-entries s.history seat;
    follows = λ opening was. record { shape = was.shape; refusals = was.refusals };
    accounts = λ opening seats is fit. accounts-still opening s (with_start s seat) seat sent [] (sym (append-nil s.history)) (λ disk block is. is) refl seats is (λ tell. tell);
  }

-- A CALL HAS BEGUN.
begins-call : (s : KernelState) (seat : ℕ) (sent : Option Sent) (c : Call) → seat < length s.syncs → IsEvent seat s sent (with_call_begun s seat c) sent
begins-call s seat sent (call.Sync a len) lt = keeps-start a len s seat sent lt
begins-call s seat sent c lt = event_law.rests seat s sent

-- NO FLIGHT WRITES A CLEAN PAGE: one that is written is home, and modified then; or it is moving; or it is gone.
module _ (m : Memory) (notes : Notes) (name : PageName) (fits : MemoryFits m) (nf : NotesFit m.world notes) (clean : IsCleanPage m.world name) (seat : ℕ) (note : Note) (at : notes seat ≡ Some note) (writes : note.writes ≡ true) (named : note.name ≡ name)
    (not : (row_at m.world.store.rows note.frame).gone ≡ false) where
  abbrev s : StoreSeen
  s = m.world.store

  abbrev own : ℕ
  own = own_frame s note.frame

  held : name_at s.names own ≡ Some name
  held = (nf.stored.each_note seat note at).out.page not ∙ ap (λ (n : PageName). Some n) named

  found : find s.names name ≡ Some own
  found = find-some s.names name own fits.frames.sound.distinct held

  away : is_none (bytes_at s.frames own) ≡ is_some (row_at s.rows own).holder
  away = (fits.frames.sound.each own (found-within s name own fits.frames.sound found)).away

  none-moves : (h : Option ℕ) → (row_at s.rows own).holder ≡ h → bytes_at s.frames own ≡ None → ⊥
  none-moves (Some t) e b = clean.still t (ap (λ (o : Option ℕ). residence_in o s) found ∙ (λ i. residence_of (b i) (e i) own))
  none-moves None e b = let z : true ≡ false = sym (ap is_none b) ∙ away ∙ ap is_some e in cc

  none-home : (o : Option (List ℕ)) → bytes_at s.frames own ≡ o → ⊥
  none-home None b = none-moves (row_at s.rows own).holder refl b
  none-home (Some bytes) b =
      let home : residence s name ≡ Home own = ap (λ (o : Option ℕ). residence_in o s) found ∙ ap (λ (o : Option (List ℕ)). residence_of o (row_at s.rows own).holder own) b in
      elim (nf.clean own name held (subst (λ (o : Option (List ℕ)). IsSome o) (sym b) refl)) [
        | inl modified ↦ clean.unmodified own home modified
        | inr c ↦ let gone : IsGone s note.frame = (c.unwritten seat note at writes named).0 in let z : false ≡ true = sym not ∙ gone in cc
      ]

clean-unwritten : (m : Memory) (notes : Notes) (name : PageName) → MemoryFits m → NotesFit m.world notes → IsCleanPage m.world name → (seat : ℕ) (note : Note) → notes seat ≡ Some note → note.writes ≡ true → note.name ≡ name → IsGone m.world.store note.frame
clean-unwritten m notes name fits nf clean seat note at writes named = elim (cases_Bool (row_at m.world.store.rows note.frame).gone) [
  | inl gone ↦ gone
  | inr not ↦ absurd (none-home m notes name fits nf clean seat note at writes named not (bytes_at m.world.store.frames (own_frame m.world.store note.frame)) refl)
]

pub start_rule : StartRule
start_rule = record { begins = begins-call; began = began; unwritten = clean-unwritten }
