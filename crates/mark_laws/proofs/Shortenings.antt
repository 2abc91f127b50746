-- Which entries make files shorter.
use Rattle.std.proofs.Common.{◌≡◌, ◌≢◌, ℕ, ◌≤◌, true, false, Option, Some, Result, Ok, Err, refl, sym, ap, subst, ◌∙◌, ◌⊎◌, inl, inr, arith}
use Rattle.std.specs.Prelude.{option_map, slice_get}
use Rattle.std.proofs.lemmas.Bool.{cases_Bool, eqb-true}
use Rattle.flat_model.specs.vm_types.declared.call.Call.{Call}
use Rattle.flat_model.specs.vm_types.declared.call.Call.TheVariants.{Load, Store, Map, Unmap, Protect, Sync, Read, Write, Truncate, Fork, Exit}
use Rattle.flat_model.specs.vm_types.declared.call.Entry.{Entry}
use Rattle.flat_model.specs.vm_types.declared.call.Errno.{Errno}
use Rattle.flat_model.specs.vm_types.declared.call.Reply.{Reply}
use Rattle.flat_model.specs.vm_types.declared.call.Reply.TheVariants as reply
use Rattle.flat_model.specs.Flat.{File, Flat}
use Rattle.flat_model.specs.Parts.{file_of_length, room_for, with_file_at}
use Rattle.flat_model.specs.Refusals.{or_refused, done_effect}
use Rattle.flat_model.specs.Step.{IsDue, IsStep, after_act, is_bit_set, step, tails_cleared, without_start}
use Rattle.flat_model.proofs.Bytes.{slice_get-slice_set}
use Rattle.flat_model.proofs.FileBytes.{file_bytes_law}
use Rattle.flat_model.proofs.Rooms.{has_room}
use Rattle.mark_laws.specs.Cuts.{CutsFile}
use Rattle.mark_laws.specs.CutLaws.{IsShortening, CutsLaw}
use Rattle.mark_laws.specs.FileLaws.{is_cut_of}
use Rattle.mark_laws.proofs.Along.{some-and}
use Rattle.mark_laws.proofs.FilesStay.{files_stay_rule, Size, size_of, sizes-at, cleared}

start-done : (r : Reply) → without_start r ≡ reply.Done → r ≡ reply.Done
start-done (reply.Io disk before after) e = e
start-done (reply.Word w) e = e
start-done reply.Done e = e
start-done (reply.Mapped a) e = e
start-done (reply.Synced b) e = absurd (let z : reply.Synced 0 ≡ reply.Done = e in cc)
start-done (reply.Bytes line) e = e
start-done (reply.Signal s) e = e
start-done (reply.Refused n) e = e

-- what a Truncate whose reply is due does: nothing; or it is done, and the file has that length
abbrev Truncates : Flat → ℕ → ℕ → Reply → Flat → Type 0
Truncates F f len r G = ((G ≡ F) × (r ≢ reply.Done)) ⊎ ((r ≡ reply.Done) × (x : File) × (room_for F f len ≡ Ok x) × (G ≡ with_file_at F f (file_of_length len x)))

truncates : (F : Flat) (p f len mask : ℕ) (r : Reply) → IsDue F (record { process = p; call = Truncate f len; reply = r; cleared = mask })
    → Truncates F f len r (after_act F (record { process = p; call = Truncate f len; reply = r; cleared = mask }))
truncates F p f len mask r due = by_reply r due
  where
    by_room : (r : Reply) (o : Result File Errno) → room_for F f len ≡ o → (or_refused F (λ x. done_effect (with_file_at F f (file_of_length len x))) o).reply ≡ without_start r → Truncates F f len r (or_refused F (λ x. done_effect (with_file_at F f (file_of_length len x))) o).after
    by_room r (Ok x) e due = inr (start-done r (sym due), x, e, refl)
    by_room r (Err n) e due = inl (refl, λ d. let z : reply.Refused n ≡ reply.Done = due ∙ ap without_start d in cc)

    by_reply : (r : Reply) → IsDue F (record { process = p; call = Truncate f len; reply = r; cleared = mask })
        → Truncates F f len r (after_act F (record { process = p; call = Truncate f len; reply = r; cleared = mask }))
    by_reply (reply.Io disk before after) due = inl (refl, λ d. let z : reply.Io disk before after ≡ reply.Done = d in cc)
    by_reply (reply.Word w) due = by_room (reply.Word w) (room_for F f len) refl due
    by_reply reply.Done due = by_room reply.Done (room_for F f len) refl due
    by_reply (reply.Mapped a) due = by_room (reply.Mapped a) (room_for F f len) refl due
    by_reply (reply.Synced b) due = by_room (reply.Synced b) (room_for F f len) refl due
    by_reply (reply.Bytes line) due = by_room (reply.Bytes line) (room_for F f len) refl due
    by_reply (reply.Signal s) due = by_room (reply.Signal s) (room_for F f len) refl due
    by_reply (reply.Refused n) due = by_room (reply.Refused n) (room_for F f len) refl due

-- a call that cuts a file is a Truncate of it
cut-call : (f : ℕ) (call : Call) → is_cut_of f call ≡ true → (len : ℕ) × (call ≡ Truncate f len)
cut-call f (Load a n) is = absurd (let z : false ≡ true = is in cc)
cut-call f (Store a n v) is = absurd (let z : false ≡ true = is in cc)
cut-call f (Map place len prot kind object offset) is = absurd (let z : false ≡ true = is in cc)
cut-call f (Unmap a len) is = absurd (let z : false ≡ true = is in cc)
cut-call f (Protect a len prot) is = absurd (let z : false ≡ true = is in cc)
cut-call f (Sync a len) is = absurd (let z : false ≡ true = is in cc)
cut-call f (Read file offset len) is = absurd (let z : false ≡ true = is in cc)
cut-call f (Write file offset line rest) is = absurd (let z : false ≡ true = is in cc)
cut-call f (Truncate file len) is = (len, ap (λ (k : ℕ). Truncate k len) (eqb-true file f is))
cut-call f (Fork child) is = absurd (let z : false ≡ true = is in cc)
cut-call f Exit is = absurd (let z : false ≡ true = is in cc)

module _ (F : Flat) (e : Entry) where
  abbrev tails : Flat
  tails = tails_cleared F (is_bit_set e.cleared)

  -- AN ENTRY THAT CUTS A FILE is a Truncate of it
  pub cuts-by : (c : CutsFile F e) → (len : ℕ) × (e.call ≡ Truncate c.f len)
  cuts-by c = cut-call c.f e.call (elim (cases_Bool (is_cut_of c.f e.call)) [
    | inl y ↦ y
    | inr n ↦
        let g = some-and (slice_get (step F e).files c.f) (λ (x : File). c.old.len ≤ x.len) ((files_stay_rule.files F e).longer c.f c.old c.was n) in
        let same : g.0 ≡ c.new = (let z : ◌≡◌ {A = Option File} (Some g.0) (Some c.new) = sym g.1 ∙ c.now in cc) in
        let le = g.2 in
        let len : g.0.len ≡ c.new.len = ap (λ (x : File). x.len) same in
        let less = c.less in
        absurd (omega (arith, le, len, less))
  ])

  module _ (is : IsStep F e) where
    acts : (f len : ℕ) → e.call ≡ Truncate f len → Truncates tails f len e.reply (step F e)
    acts f len call = subst (λ (c : Call). Truncates tails f len e.reply (after_act tails (record e { call = c }))) (sym call)
        (truncates tails e.process f len e.cleared e.reply (subst (λ (c : Call). IsDue tails (record e { call = c })) call is.due))

    -- what a file is that has a length then
    new-there : (f len : ℕ) (x : File) → room_for tails f len ≡ Ok x → step F e ≡ with_file_at tails f (file_of_length len x) → slice_get (step F e).files f ≡ Some (file_of_length len x)
    new-there f len x room after =
        let r = has_room tails f len x room in
        ap (λ (G : Flat). slice_get G.files f) after ∙ slice_get-slice_set tails.files f r.old (file_of_length len x) r.found

    pub shortens : (f : ℕ) (old : File) (len : ℕ) → IsShortening F e f old len → (c : CutsFile F e) × (c.f ≡ f) × (c.old ≡ old) × (c.new.len ≡ len)
    shortens f old len s = elim (acts f len s.call) [
      | inl kept ↦ absurd (kept.1 s.done)
      | inr a ↦
          let size = file_bytes_law.new_length a.1 len in (
            record {
              f = f;
              old = old;
              new = file_of_length len a.1;
              was = s.was;
              now = new-there f len a.1 a.2 a.3;
              less = let less = s.less in omega (arith, less, size);
            },
            refl,
            refl,
            size,
          )
    ]

    pub only-so : (c : CutsFile F e) → IsShortening F e c.f c.old c.new.len
    only-so c =
        let by = cuts-by c in
        elim (acts c.f by.0 by.1) [
          | inl kept ↦
              let now : slice_get tails.files c.f ≡ Some c.new = sym (ap (λ (G : Flat). slice_get G.files c.f) kept.0) ∙ c.now in
              let same : ◌≡◌ {A = Option Size} (Some (size_of c.new)) (Some (size_of c.old)) =
              sym (ap (option_map size_of) now) ∙ sizes-at F.files tails.files c.f (cleared F e) ∙ ap (option_map size_of) c.was in
              let size : size_of c.new ≡ size_of c.old = cc in
              let len : c.new.len ≡ c.old.len = ap (λ (s : Size). s.len) size in
              let less = c.less in
              absurd (omega (arith, len, less))
          | inr a ↦
              let same : file_of_length by.0 a.1 ≡ c.new = (let z : ◌≡◌ {A = Option File} (Some (file_of_length by.0 a.1)) (Some c.new) = sym (new-there c.f by.0 a.1 a.2 a.3) ∙ c.now in cc) in
              let len : by.0 ≡ c.new.len = sym (file_bytes_law.new_length a.1 by.0) ∙ ap (λ (x : File). x.len) same in
              record { call = by.1 ∙ ap (Truncate c.f) len; done = a.0; was = c.was; less = c.less }
        ]

pub cuts_rule : CutsLaw
cuts_rule = record {
  cuts = λ F e f old len is s. shortens F e is f old len s;
  only = λ F e is c. only-so F e is c;
}
