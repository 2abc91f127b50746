-- A TRANSFER THAT A CALL NEEDS, from the try to the end, where nobody else has anything outside: the call is done then, for a failure; or there is one modified
-- page fewer, or one page fewer that the call may want and that isn't home, or is blank.
use Rattle.std.proofs.Common.{◌≡◌, ◌≢◌, ℕ, suc, ◌+◌, ◌-◌, ◌<◌, ◌≤◌, ◌==◌, Bool, true, false, [], ◌∷◌, length, map, Option, Some, None, refl, sym, ap, ◌∙◌, ◌⊎◌, inl, inr, subst, arith}
use Rattle.std.specs.Prelude.{IsFalse, IsSome, is_some, not, slice_index_or, if◌then◌else◌}
use Rattle.std.proofs.lemmas.Bool.{cases_eq}
use Rattle.fault_entry.specs.core_arena.Bytes.{bytes_at}
use Rattle.fault_entry.specs.hat_layer.Pool.{bits_of}
use Rattle.fault_entry.specs.hat_layer.declared.translation.Translation.{Translation}
use Rattle.fault_entry.specs.page_hash.Names.{AreDistinct, find, name_at}
use Rattle.fault_entry.specs.page_hash.declared.PageName.{PageName}
use Rattle.fault_entry.specs.page_lock.Rows.{row_at}
use Rattle.fault_entry.specs.page_lock.declared.Row.{Row}
use Rattle.fault_entry.specs.page_store.Flight.{FlightSeen, IsPerformed, IsRead, IsWritten, Progress, done, failed, fresh, note_of}
use Rattle.fault_entry.specs.page_store.Seen.{IsListedFrame, IsSoundStore, StoreSeen, residence, residence_in, residence_of}
use Rattle.fault_entry.specs.page_store.Steps.{at_frame, next_frame, next_name, name_in}
use Rattle.fault_entry.specs.page_store.Transfers.{EndsTransfer}
use Rattle.fault_entry.specs.page_store.Waits.{plan_page}
use Rattle.fault_entry.specs.page_store.declared.plan.Plan.{Plan}
use Rattle.fault_entry.specs.page_store.declared.plan.Plan.TheVariants as way
use Rattle.fault_entry.specs.page_store.declared.residence.Residence.TheVariants.{Absent, Home}
use Rattle.fault_entry.proofs.page_hash.NameLaws.{find-at}
use Rattle.fault_entry.proofs.page_store.QueryLemmas.{home-is, home-some, residence-home}
use Rattle.fault_entry.specs.seg_ops.Flights.{store_synced}
use Rattle.fault_entry.specs.seg_ops.Marks.{files_pushed, slots_pushed}
use Rattle.fault_entry.specs.seg_ops.Steps.{with_bits_gathered}
use Rattle.fault_entry.proofs.seg_ops.Disks.{dirty-exists}
use Rattle.fault_entry.proofs.seg_ops.Fills.{next-listed}
use Rattle.fault_entry.proofs.seg_ops.Gathers.{row-gathered}
use Rattle.fault_entry.proofs.seg_ops.Marks.{Marks, cases-name}
use Rattle.fault_entry.proofs.seg_ops.Pushed.{marks-pushed}
use Rattle.fault_entry.specs.vm_types.declared.call.Call.{Call}
use Rattle.fault_entry.specs.vm_types.declared.call.Call.TheVariants.{Load, Store, Map, Unmap, Protect, Sync, Read, Write, Truncate, Fork, Exit}
use Rattle.fault_entry.specs.vnode_files.Files.{FilesSeen, vnode_at}
use Rattle.fault_entry.specs.vnode_files.Vnode.{VnodeSeen, is_blank}
use Rattle.fault_entry.specs.flat_model.Flat.{Flat}
use Rattle.fault_entry.specs.vm_world.FlatMemory.{Memory}
use Rattle.fault_entry.specs.vm_world.MemoryFits.{MemoryFits}
use Rattle.fault_entry.specs.vm_world.Opening.{no_seats}
use Rattle.fault_entry.specs.vm_world.SeatLaws.{IsAtRest}
use Rattle.fault_entry.specs.vm_world.Serving.{ModifiesNone}
use Rattle.fault_entry.specs.vm_world.State.{Caller, KernelState}
use Rattle.fault_entry.specs.vm_world.StateFits.{StateFits}
use Rattle.fault_entry.specs.vm_world.Wants.{IsDirtyPage, MayPlan, MayReadIn, WantsClean, WantsFrame, WantsHome}
use Rattle.fault_entry.specs.vm_world.World.{World, is_unpushed}
use Rattle.fault_entry.proofs.vm_world.SeatRules.{seat_law}
use Rattle.fault_entry.proofs.vm_world.PageNames.{file-apart}
use Rattle.fault_entry.proofs.page_store.FrameLaws.{eq-far as is-other}
use Rattle.fault_entry.proofs.page_store.TransferLemmas.{is-or-not}
use Rattle.vm_core.specs.Calls.{IsNeeded}
use Rattle.vm_core.specs.Flights.{KeepsButPushed}
use Rattle.vm_core.specs.SeatSteps.{ReturnsFlight, SendsFlight}
use Rattle.lane_driver.proofs.Counts.{AtMost, at-most-below, at-most-falls, at-most-fewer, at-most-some}
use Rattle.lane_driver.proofs.Falls.{IsDirtyFrame, dirty-below, push-falls, push-home, read-home, read-keeps}
use Rattle.lane_driver.proofs.Securing.{Firm, IsHome, IsKept, MissesFirm, MissesTail, SameGround, Tail, WantsSome, firm-same, firm-wanted, ground-back, one-firm, one-tail, some-wanted, tail-file, tail-same, tail-wanted, wanted-one}

-- a transfer that was made went well, or failed
made : (f g : FlightSeen) → IsPerformed (note_of f) g → (g.outcome ≡ done) ⊎ (g.outcome ≡ failed)
made f g p = by_progress g.outcome refl
  where
    by_way : (b : Bool) → f.writes ≡ b → g.outcome ≡ fresh → ⊥
    by_way true is new = subst (IsWritten (note_of f) g) new (p.written is)
    by_way false is new = subst (IsRead (note_of f) g) new (p.read is)

    by_progress : (o : Progress) → g.outcome ≡ o → (g.outcome ≡ done) ⊎ (g.outcome ≡ failed)
    by_progress fresh is = absurd (by_way f.writes refl is)
    by_progress done is = inl is
    by_progress failed is = inr is

-- a frame that is modified after a step that makes no page so was modified before
dirty-before : (u w : World) → ModifiesNone u w → IsSoundStore w.store → AreDistinct u.store.names → (k : ℕ) → IsDirtyFrame w k → IsDirtyFrame u k
dirty-before u w none sound apart k d = by_name (name_at w.store.names k) refl
  where
    by_name : (o : Option PageName) → name_at w.store.names k ≡ o → IsDirtyFrame u k
    by_name None is = absurd (let z : false ≡ true = sym (ap is_some is) ∙ d.named in cc)
    by_name (Some n) is =
        let was = none.modified n k (residence-home w.store n k sound.distinct is d.home) d.modified in
        record { named = ap is_some (find-at u.store.names n k (home-is u.store n k was.0).found); home = home-some u.store n k was.0; modified = was.1 }

-- the bits of a page's translations, once gathered, move no page
residence-synced : (s : StoreSeen) (own : ℕ) (told : Bool × Bool) (n : PageName) → residence (with_bits_gathered s own told) n ≡ residence s n
residence-synced s own told n = by_frame (find s.names n)
  where
    holder : (k : ℕ) → (row_at (with_bits_gathered s own told).rows k).holder ≡ (row_at s.rows k).holder
    holder k = elim (row-gathered s own told k) [ inl e ↦ ap (λ (r : Row). r.holder) e | inr e ↦ ap (λ (r : Row). r.holder) e.1 ]

    by_frame : (o : Option ℕ) → residence_in o (with_bits_gathered s own told) ≡ residence_in o s
    by_frame None = refl
    by_frame (Some k) = ap (λ (h : Option ℕ). residence_of (bytes_at s.frames k) h k) (holder k)

-- WHAT A TRANSFER'S BEGIN LEAVES of the tables: a page that isn't blank stays so
record BeginKeeps (old new : World) : Type 0 where
  maps : new.maps ≡ old.maps
  infos : map (λ (v : VnodeSeen). v.info) new.files.files ≡ map (λ (v : VnodeSeen). v.info) old.files.files
  pushed : (n : PageName) → IsFalse (is_unpushed old.files old.anon n) → IsFalse (is_unpushed new.files new.anon n)

begin-keeps : (m : Memory) (new : World) (of : Caller) (plan : Plan) → MemoryFits m → MayPlan m (Some of) plan → KeepsButPushed m.world new plan → BeginKeeps m.world new
begin-keeps m new of (way.Read name) fits may keeps = record {
  maps = keeps.maps;
  infos = ap (λ (fs : FilesSeen). map (λ (v : VnodeSeen). v.info) fs.files) keeps.files;
  pushed = λ n h. (λ j. is_unpushed (keeps.files j) (keeps.anon j) n) ∙ h;
}
begin-keeps m new of (way.Push name) fits may keeps =
    let marks : Marks m.world (files_pushed m.world.files name) (slots_pushed m.world.anon name) name = marks-pushed m.world m.spaces name fits (dirty-exists m.world m.spaces name fits may.0) in
    record {
      maps = keeps.maps;
      infos = ap (λ (fs : FilesSeen). map (λ (v : VnodeSeen). v.info) fs.files) keeps.files ∙ marks.infos;
      pushed = λ n h. (λ j. is_unpushed (keeps.files j) (keeps.anon j) n) ∙ elim (cases-name name n) [
        | inl e ↦ ap (is_unpushed (files_pushed m.world.files name) (slots_pushed m.world.anon name)) e ∙ marks.marked
        | inr other ↦ marks.others n other ∙ h
      ];
    }

-- a file's page is blank by the files alone
blank-by-files : (u w : World) (n : PageName) → n.object ≢ 64 → w.files ≡ u.files → is_unpushed w.files w.anon n ≡ is_unpushed u.files u.anon n
blank-by-files u w n file files =
    let far = is-other n.object 64 file in
    ap (λ (b : Bool). if b then not (slice_index_or w.anon.swapped n.page false) else is_blank (vnode_at w.files n.object) n.page) far
    ∙ ap (λ (fs : FilesSeen). is_blank (vnode_at fs n.object) n.page) files
    ∙ sym (ap (λ (b : Bool). if b then not (slice_index_or u.anon.swapped n.page false) else is_blank (vnode_at u.files n.object) n.page) far)

-- only a Sync wants pages clean, and it wants none home
clean-none : (m o : Memory) (p : ℕ) (call : Call) (name n : PageName) → WantsClean m p call name → ¬ (Firm o p call n ⊎ Tail o call n)
clean-none m o p (Sync a len) name n clean (inl c) = c
clean-none m o p (Sync a len) name n clean (inr c) = c
clean-none m o p (Load a k) name n clean c = clean
clean-none m o p (Store a k v) name n clean c = clean
clean-none m o p (Read file offset len) name n clean c = clean
clean-none m o p (Write file offset line rest) name n clean c = clean
clean-none m o p (Truncate file end) name n clean c = clean
clean-none m o p (Map place len prot kind object offset) name n clean c = clean
clean-none m o p (Unmap a len) name n clean c = clean
clean-none m o p (Protect a len prot) name n clean c = clean
clean-none m o p (Fork child) name n clean c = clean
clean-none m o p Exit name n clean c = clean

-- HOW MUCH IS STILL TO COME of a call: the modified pages, and the pages that it may want and that aren't home, or blank
pub record Comes (m : Memory) (p : ℕ) (call : Call) (most : ℕ) : Type 0 where
  pub dirty : ℕ
  pub firm : ℕ
  pub tail : ℕ
  pub are_dirty : AtMost dirty (IsDirtyFrame m.world)
  pub are_firm : AtMost firm (MissesFirm m p call)
  pub are_tail : AtMost tail (MissesTail m call)
  pub low : dirty + firm + tail ≤ most

-- a call that begins
pub new-comes : (frames : ℕ) (m : Memory) (p : ℕ) (call : Call) → length m.world.store.frames ≡ frames → Comes m p call (frames + 2)
new-comes frames m p call count = record {
  dirty = frames;
  firm = 1;
  tail = 1;
  are_dirty = at-most-below frames (IsDirtyFrame m.world) (λ k d. let lt = dirty-below m.world k d in omega (arith, lt, count));
  are_firm = one-firm m p call;
  are_tail = one-tail m call;
  low = omega arith;
}

-- A TRY THAT NEEDS A TRANSFER, where nobody has anything outside
module _ (opening : Flat) (s m : KernelState) (seat : ℕ) (call : Call) (plan : Plan) (fits : StateFits opening m no_seats) (before : IsSoundStore s.memory.world.store)
    (needs : IsNeeded s m seat (seat + 1) call plan) where
  at-rest : IsAtRest m.memory.world.store
  at-rest = seat_law.still opening m no_seats fits (λ k. refl)

  sound : IsSoundStore m.memory.world.store
  sound = fits.memory.frames.sound

  tried-ground : SameGround s.memory m.memory
  tried-ground = record { spaces = needs.began.spaces; maps = needs.began.takes.step.tables.maps; infos = needs.began.takes.step.tables.infos }

  dirty-tried : (k : ℕ) → IsDirtyFrame m.memory.world k → IsDirtyFrame s.memory.world k
  dirty-tried k d = dirty-before s.memory.world m.memory.world needs.began.modified sound before.distinct k d

  -- a firm page that was home is where it was, on neither list
  firm-tried : (n : PageName) → WantsSome m.memory (seat + 1) call → Firm s.memory (seat + 1) call n → (x : IsHome s.memory n) → (residence m.memory.world.store n ≡ Home x.0) × (¬ IsListedFrame m.memory.world.store x.0)
  firm-tried n some c x =
      needs.wanted n x.0 (firm-wanted m.memory (seat + 1) call n at-rest some (firm-same m.memory s.memory (seat + 1) call n (ground-back s.memory m.memory tried-ground) c)) x.1

  -- .. and so is a write's old last page that was home and not blank, which isn't blank then
  tail-tried : (n : PageName) → WantsSome m.memory (seat + 1) call → Tail s.memory call n → (x : IsKept s.memory n)
      → (residence m.memory.world.store n ≡ Home x.home.0) × (¬ IsListedFrame m.memory.world.store x.home.0) × IsFalse (is_unpushed m.memory.world.files m.memory.world.anon n)
  tail-tried n some c x =
      let now = tail-same m.memory s.memory call n (ground-back s.memory m.memory tried-ground) c in
      let file = tail-file m.memory (seat + 1) call n some now in
      let pushed : IsFalse (is_unpushed m.memory.world.files m.memory.world.anon n) =
      blank-by-files s.memory.world m.memory.world n (file-apart m.memory.world.files n.object fits.memory.files file.1) (needs.files n.object file.0) ∙ x.pushed in
      let stays = needs.wanted n x.home.0 (tail-wanted m.memory (seat + 1) call n some now pushed) x.home.1 in
      (stays.0, stays.1, pushed)

  -- a page that is read in wasn't home
  read-away : (name : PageName) → WantsHome m.memory (seat + 1) call name → find m.memory.world.store.names name ≡ None → ¬ IsHome s.memory name
  read-away name wants absent x =
      let z : Absent ≡ Home x.0 = sym (ap (λ (o : Option ℕ). residence_in o m.memory.world.store) absent) ∙ (needs.wanted name x.0 wants x.1).0 in cc

  -- .. and was firm, or a write's old last one
  read-one-of : (name : PageName) → WantsHome m.memory (seat + 1) call name → find m.memory.world.store.names name ≡ None → MissesFirm s.memory (seat + 1) call name ⊎ MissesTail s.memory call name
  read-one-of name wants absent = elim (wanted-one m.memory (seat + 1) call name at-rest wants) [
    | inl firm ↦ inl (record { wanted = firm-same s.memory m.memory (seat + 1) call name tried-ground firm; away = read-away name wants absent })
    | inr tail ↦ inr (record { wanted = tail-same s.memory m.memory call name tried-ground tail; away = λ x. read-away name wants absent x.home })
  ]

  -- a page that is pushed was modified
  push-dirty : (name : PageName) → IsDirtyPage m.memory.world name → (own : ℕ) × (residence m.memory.world.store name ≡ Home own) × IsDirtyFrame m.memory.world own
  push-dirty name d =
      let w = m.memory.world in (
        d.frame,
        d.home,
        record {
          named = ap is_some (find-at w.store.names name d.frame (home-is w.store name d.frame d.home).found);
          home = home-some w.store name d.frame d.home;
          modified = d.modified;
        },
      )

  may-read : (name : PageName) → plan ≡ way.Read name → WantsHome m.memory (seat + 1) call name × MayReadIn m.memory.world name
  may-read name is = subst (MayPlan m.memory (Some (seat + 1, call))) is needs.may

  may-push : (name : PageName) → plan ≡ way.Push name → IsDirtyPage m.memory.world name × (WantsClean m.memory (seat + 1) call name ⊎ (WantsFrame m.memory (seat + 1) call × (next_frame m.memory.world.store ≡ None)))
  may-push name is = subst (MayPlan m.memory (Some (seat + 1, call))) is needs.may

  -- SOMETHING WAS LEFT to come.
  pub need-some : (most : ℕ) → Comes s.memory (seat + 1) call most → 1 ≤ most
  need-some most comes = by_plan plan refl
    where
      by_plan : (x : Plan) → plan ≡ x → 1 ≤ most
      by_plan (way.Read name) is = let low = comes.low in elim (read-one-of name (may-read name is).0 (may-read name is).1.absent) [
        | inl firm ↦ (let some = at-most-some comes.firm (MissesFirm s.memory (seat + 1) call) name comes.are_firm firm in omega (arith, some, low))
        | inr tail ↦ (let some = at-most-some comes.tail (MissesTail s.memory call) name comes.are_tail tail in omega (arith, some, low))
      ]
      by_plan (way.Push name) is =
          let low = comes.low in
          let own = push-dirty name (may-push name is).0 in
          let some = at-most-some comes.dirty (IsDirtyFrame s.memory.world) own.0 comes.are_dirty (dirty-tried own.0 own.2) in omega (arith, some, low)

  -- THE TRANSFER goes out, and comes back.
  module _ (t u : KernelState) (f : FlightSeen) (sends : SendsFlight m t seat plan f) (comes : ReturnsFlight t u (note_of f)) where
    abbrev back : FlightSeen
    back = comes.back

    same-name : back.name ≡ plan_page plan
    same-name = comes.performed.name ∙ sends.flight.begins.name

    ends : EndsTransfer t.memory.world.store u.memory.world.store (record back { frame = f.frame })
    ends = subst (EndsTransfer t.memory.world.store u.memory.world.store) (λ j. record back { frame = comes.performed.frame j }) comes.ends

    hat : u.memory.world.hat ≡ t.memory.world.hat
    hat = ap (λ (w : World). w.hat) comes.world

    keeps : BeginKeeps m.memory.world t.memory.world
    keeps = begin-keeps m.memory t.memory.world (seat + 1, call) plan fits.memory needs.may sends.tables

    pushed-then : (n : PageName) → IsFalse (is_unpushed m.memory.world.files m.memory.world.anon n) → IsFalse (is_unpushed u.memory.world.files u.memory.world.anon n)
    pushed-then n h = ap (λ (w : World). is_unpushed w.files w.anon n) comes.world ∙ keeps.pushed n h

    ground : SameGround s.memory u.memory
    ground = record {
      spaces = comes.spaces ∙ ap (λ (x : KernelState). x.memory.spaces) sends.rest ∙ tried-ground.spaces;
      maps = ap (λ (w : World). w.maps) comes.world ∙ keeps.maps ∙ tried-ground.maps;
      infos = ap (λ (w : World). map (λ (v : VnodeSeen). v.info) w.files.files) comes.world ∙ keeps.infos ∙ tried-ground.infos;
    }

    -- a page that stays home as the transfer goes out and comes back, beside its own
    stays-home : (n : PageName) (k : ℕ) → n ≢ plan_page plan → residence t.memory.world.store n ≡ Home k → residence u.memory.world.store n ≡ Home k
    stays-home n k ne home = ends.stay n (λ none is. ne (is ∙ same-name)) ∙ home

    -- what is still missing then was so before, where firm pages stay home
    firm-before : ((n : PageName) → Firm s.memory (seat + 1) call n → IsHome s.memory n → IsHome u.memory n) → (n : PageName) → MissesFirm u.memory (seat + 1) call n → MissesFirm s.memory (seat + 1) call n
    firm-before stay n missing =
        let c = firm-same s.memory u.memory (seat + 1) call n ground missing.wanted in
        record { wanted = c; away = λ x. missing.away (stay n c x) }

    tail-before : ((n : PageName) → Tail s.memory call n → IsKept s.memory n → IsKept u.memory n) → (n : PageName) → MissesTail u.memory call n → MissesTail s.memory call n
    tail-before stay n missing =
        let c = tail-same s.memory u.memory call n ground missing.wanted in
        record { wanted = c; away = λ x. missing.away (stay n c x) }

    -- ONE LESS, after a transfer that went well
    abbrev Falls : ℕ → Type 0
    Falls most = (less : ℕ) × Comes u.memory (seat + 1) call less × (suc less ≤ most)

    module _ (name : PageName) (is : plan ≡ way.Read name) (went : back.outcome ≡ done) where
      read-may : WantsHome m.memory (seat + 1) call name × MayReadIn m.memory.world name
      read-may = may-read name is

      read-sent : SendsFlight m t seat (way.Read name) f
      read-sent = subst (λ (y : Plan). SendsFlight m t seat y f) is sends

      taken : next_frame m.memory.world.store ≡ Some f.frame
      taken = read-sent.flight.frame

      unloaded : (place : ℕ) (y : Translation) → slice_index_or m.memory.world.hat.places place None ≡ Some y → y.frame ≢ f.frame
      unloaded place y there e = (fits.memory.translations place y there).unlisted (subst (IsListedFrame m.memory.world.store) (sym e) (next-listed m.memory.world.store f.frame taken))

      now-home : residence u.memory.world.store name ≡ Home f.frame
      now-home = ap (residence u.memory.world.store) (sym (same-name ∙ ap plan_page is))
          ∙ read-home m.memory.world t.memory.world u.memory.world name f back read-sent.store taken read-sent.flight.begins.writes read-sent.places unloaded ends went hat

      read-dirty : (k : ℕ) → IsDirtyFrame u.memory.world k → IsDirtyFrame s.memory.world k
      read-dirty k h = dirty-tried k (read-keeps m.memory.world t.memory.world u.memory.world name f back read-sent.store taken read-sent.flight.begins.writes read-sent.places unloaded ends went hat k h)

      -- a page that was home as the read began, on neither list, is home, and is another
      read-stays : (k : PageName) (y : ℕ) → residence m.memory.world.store k ≡ Home y → ¬ IsListedFrame m.memory.world.store y → residence u.memory.world.store k ≡ Home y
      read-stays k y home unlisted =
          let w = m.memory.world in
          let other : k ≢ name = λ e. let z : Absent ≡ Home y = sym (ap (λ (o : Option ℕ). residence_in o w.store) read-may.1.absent) ∙ ap (residence w.store) (sym e) ∙ home in cc in
          let unlost : next_name w.store ≢ Some k = λ lost.
          let held : name_at w.store.names f.frame ≡ Some k = sym (ap (name_in w.store.names) taken) ∙ lost in
          let same : f.frame ≡ y = sound.distinct f.frame y k held (find-at w.store.names k y (home-is w.store k y home).found) in
          unlisted (subst (IsListedFrame w.store) same (next-listed w.store f.frame taken)) in
          stays-home k y (λ e. other (e ∙ ap plan_page is)) (read-sent.store.stay k other unlost ∙ home)

      read-firm : (k : PageName) → Firm s.memory (seat + 1) call k → IsHome s.memory k → IsHome u.memory k
      read-firm k c y = let now = firm-tried k (inl (name, read-may.0)) c y in (y.0, read-stays k y.0 now.0 now.1)

      read-tail : (k : PageName) → Tail s.memory call k → IsKept s.memory k → IsKept u.memory k
      read-tail k c y = let now = tail-tried k (inl (name, read-may.0)) c y in record { home = (y.home.0, read-stays k y.home.0 now.0 now.1); pushed = pushed-then k now.2 }

      -- the page that was read is home, and isn't blank
      now-kept : IsKept u.memory name
      now-kept = record { home = (f.frame, now-home); pushed = pushed-then name read-may.1.pushed }

      read-falls : (most : ℕ) → Comes s.memory (seat + 1) call most → Falls most
      read-falls most left = let low = left.low in elim (read-one-of name read-may.0 read-may.1.absent) [
        | inl firm ↦
            let some = at-most-some left.firm (MissesFirm s.memory (seat + 1) call) name left.are_firm firm in (
              left.dirty + (left.firm - 1) + left.tail,
              record {
                dirty = left.dirty;
                firm = left.firm - 1;
                tail = left.tail;
                are_dirty = at-most-fewer left.dirty (IsDirtyFrame s.memory.world) (IsDirtyFrame u.memory.world) left.are_dirty read-dirty;
                are_firm = at-most-falls is-or-not left.firm (MissesFirm s.memory (seat + 1) call) (MissesFirm u.memory (seat + 1) call) name left.are_firm firm
                    (λ n h. (firm-before read-firm n h, λ e. h.away (subst (IsHome u.memory) (sym e) now-kept.home)));
                are_tail = at-most-fewer left.tail (MissesTail s.memory call) (MissesTail u.memory call) left.are_tail (tail-before read-tail);
                low = omega arith;
              },
              omega (arith, some, low),
            )
        | inr tail ↦
            let some = at-most-some left.tail (MissesTail s.memory call) name left.are_tail tail in (
              left.dirty + left.firm + (left.tail - 1),
              record {
                dirty = left.dirty;
                firm = left.firm;
                tail = left.tail - 1;
                are_dirty = at-most-fewer left.dirty (IsDirtyFrame s.memory.world) (IsDirtyFrame u.memory.world) left.are_dirty read-dirty;
                are_firm = at-most-fewer left.firm (MissesFirm s.memory (seat + 1) call) (MissesFirm u.memory (seat + 1) call) left.are_firm (firm-before read-firm);
                are_tail = at-most-falls is-or-not left.tail (MissesTail s.memory call) (MissesTail u.memory call) name left.are_tail tail
                    (λ n h. (tail-before read-tail n h, λ e. h.away (subst (IsKept u.memory) (sym e) now-kept)));
                low = omega arith;
              },
              omega (arith, some, low),
            )
      ]

    module _ (name : PageName) (is : plan ≡ way.Push name) (went : back.outcome ≡ done) where
      push-may : IsDirtyPage m.memory.world name × (WantsClean m.memory (seat + 1) call name ⊎ (WantsFrame m.memory (seat + 1) call × (next_frame m.memory.world.store ≡ None)))
      push-may = may-push name is

      push-sent : SendsFlight m t seat (way.Push name) f
      push-sent = subst (λ (y : Plan). SendsFlight m t seat y f) is sends

      own : (k : ℕ) × (residence m.memory.world.store name ≡ Home k) × IsDirtyFrame m.memory.world k
      own = push-dirty name push-may.0

      found : find m.memory.world.store.names name ≡ Some own.0
      found = (home-is m.memory.world.store name own.0 own.1).found

      here : IsSome (bytes_at m.memory.world.store.frames own.0)
      here = home-some m.memory.world.store name own.0 own.1

      own-home : residence u.memory.world.store name ≡ Home own.0
      own-home = ap (residence u.memory.world.store) (sym (same-name ∙ ap plan_page is))
          ∙ push-home m.memory.world t.memory.world u.memory.world name own.0 f back sound at-rest.home found here push-sent.store push-sent.flight.frame push-sent.places ends went hat

      dirty-falls : (k : ℕ) → IsDirtyFrame u.memory.world k → IsDirtyFrame s.memory.world k × (k ≢ own.0)
      dirty-falls k h =
          let was = push-falls m.memory.world t.memory.world u.memory.world name own.0 f back sound at-rest.home found here push-sent.store push-sent.flight.frame push-sent.places ends went hat k h in
          (dirty-tried k was.0, was.1)

      synced : store_synced m.memory.world name ≡ with_bits_gathered m.memory.world.store own.0 (bits_of own.0 m.memory.world.hat.places)
      synced = ap (λ (o : Option ℕ). at_frame o m.memory.world.store (λ frame. with_bits_gathered m.memory.world.store frame (bits_of frame m.memory.world.hat.places))) found

      -- a page that was home as the push began is home, where no frame could be taken
      push-stays : next_frame m.memory.world.store ≡ None → (k : PageName) (y : ℕ) → residence m.memory.world.store k ≡ Home y → IsHome u.memory k
      push-stays none k y home = elim (cases-name name k) [
        | inl e ↦ (own.0, ap (residence u.memory.world.store) e ∙ own-home)
        | inr other ↦
            let w = m.memory.world in
            let unlost : next_name (store_synced w name) ≢ Some k = λ lost.
            let z : ◌≡◌ {A = Option PageName} None (Some k) = sym (ap (λ (st : StoreSeen). next_name st) synced ∙ ap (name_in w.store.names) none) ∙ lost in cc in (
              y,
              stays-home k y (λ e. other (e ∙ ap plan_page is))
                  (push-sent.store.stay k other unlost ∙ ap (λ (st : StoreSeen). residence st k) synced ∙ residence-synced w.store own.0 (bits_of own.0 w.hat.places) k ∙ home),
            )
      ]

      push-firm : (k : PageName) → Firm s.memory (seat + 1) call k → IsHome s.memory k → IsHome u.memory k
      push-firm k c y = elim push-may.1 [
        | inl clean ↦ absurd (clean-none m.memory s.memory (seat + 1) call name k clean (inl c))
        | inr full ↦ push-stays full.1 k y.0 (firm-tried k (some-wanted m.memory (seat + 1) call full.0) c y).0
      ]

      push-tail : (k : PageName) → Tail s.memory call k → IsKept s.memory k → IsKept u.memory k
      push-tail k c y = elim push-may.1 [
        | inl clean ↦ absurd (clean-none m.memory s.memory (seat + 1) call name k clean (inr c))
        | inr full ↦
            let now = tail-tried k (some-wanted m.memory (seat + 1) call full.0) c y in
            record { home = push-stays full.1 k y.home.0 now.0; pushed = pushed-then k now.2 }
      ]

      push-one : (most : ℕ) → Comes s.memory (seat + 1) call most → Falls most
      push-one most left =
          let low = left.low in
          let some = at-most-some left.dirty (IsDirtyFrame s.memory.world) own.0 left.are_dirty (dirty-tried own.0 own.2) in (
            left.dirty - 1 + left.firm + left.tail,
            record {
              dirty = left.dirty - 1;
              firm = left.firm;
              tail = left.tail;
              are_dirty = at-most-falls cases_eq left.dirty (IsDirtyFrame s.memory.world) (IsDirtyFrame u.memory.world) own.0 left.are_dirty (dirty-tried own.0 own.2) dirty-falls;
              are_firm = at-most-fewer left.firm (MissesFirm s.memory (seat + 1) call) (MissesFirm u.memory (seat + 1) call) left.are_firm (firm-before push-firm);
              are_tail = at-most-fewer left.tail (MissesTail s.memory call) (MissesTail u.memory call) left.are_tail (tail-before push-tail);
              low = omega arith;
            },
            omega (arith, some, low),
          )

    -- THE TRANSFER FAILED, or there is less to come.
    pub round-falls : (most : ℕ) → Comes s.memory (seat + 1) call most → (back.outcome ≡ failed) ⊎ Falls most
    round-falls most left = elim (made f back comes.performed) [
      | inl went ↦ inr (by_plan plan refl went)
      | inr lost ↦ inl lost
    ]
      where
        by_plan : (x : Plan) → plan ≡ x → back.outcome ≡ done → Falls most
        by_plan (way.Read name) is went = read-falls name is went most left
        by_plan (way.Push name) is went = push-one name is went most left
