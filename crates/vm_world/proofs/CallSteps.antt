-- A call that is done is an event, and changes of memory one after another are a change.
use Rattle.std.proofs.Common.{◌≡◌, ◌≢◌, ℕ, zero, suc, ◌<◌, Bool, true, false, cond, List, [], ◌∷◌, ◌++◌, length, Option, Some, None, refl, sym, ap, ◌∙◌, inl, inr, subst, arith}
use Rattle.std.specs.Prelude.{IsSome, IsTrue, IsFalse, ◌||◌, nat_lt, take, if◌then◌else◌}
use Rattle.std.specs.Ordering.{nat_cmp}
use Rattle.std.specs.FinMap as finite
use Rattle.std.specs.FinSet as set
use Rattle.std.proofs.lemmas.Bool.{cases_eq}
use Rattle.std.proofs.lemmas.Bool.Decides.{eqb_tells}
use Rattle.std.proofs.lemmas.List.Elements.{All-nil, All-cons}
use Rattle.flat_model.specs.vm_types.declared.call.Call.{Call}
use Rattle.flat_model.specs.vm_types.declared.call.Call.TheVariants.{Fork, Sync, Truncate}
use Rattle.flat_model.specs.vm_types.declared.call.Entry.{Entry}
use Rattle.flat_model.specs.vm_types.declared.call.Reply.{Reply}
use Rattle.flat_model.specs.vm_types.declared.call.Reply.TheVariants as reply
use Rattle.flat_model.specs.vm_types.declared.call.Reply.TheVariants.{Io, Synced}
use Rattle.addr_space.specs.Space.{Part}
use Rattle.page_store.specs.Bays.{BaySeen}
use Rattle.page_store.specs.Notes.{Notes}
use Rattle.flat_model.specs.Births.{is_birth, is_fork_of, is_done}
use Rattle.flat_model.specs.CountLaws.{IsNextCount}
use Rattle.flat_model.specs.OpenLaws.{MayFollow}
use Rattle.flat_model.specs.Flat.{Flat, IsFlat, space_of}
use Rattle.flat_model.specs.History.{replay, IsSyncStart, IsStart, is_io}
use Rattle.flat_model.specs.Shapes.{RespectsShape}
use Rattle.flat_model.specs.Step.{is_bit_set, after_act, IsDue, IsUnborn}
use Rattle.flat_model.specs.Told.{entries_of}
use Rattle.flat_model.proofs.WellFormed.{IsFlat-tails_cleared}
use Rattle.vm_world.specs.declared.sync_start.SyncStart.{SyncStart}
use Rattle.vm_world.specs.NotesFit.{NotesFit}
use Rattle.vm_world.specs.World.{World, AllTell, is_unpushed, world_table}
use Rattle.vm_world.specs.Marks.{MarksSeen}
use Rattle.vm_world.specs.MarksOf.{MarksOf, FailuresOf}
use Rattle.vm_world.specs.StateEntries.{MakesEntry, marks_answered}
use Rattle.vm_world.specs.StateMarks.{PagesFit, marks_risen}
use Rattle.vm_world.specs.StateSyncs.{AreWantedClean, MayAllRise, marks_all_risen}
use Rattle.mark_laws.specs.Cuts.{rows_cut, marks_shortened}
use Rattle.mark_laws.specs.disk_marks.Changes.{marks_emptied, marks_raised, push_cut, push_dropped}
use Rattle.page_store.specs.page_hash.declared.PageName.{PageName}
use Rattle.std.proofs.lemmas.List.{length-map}
use Rattle.flat_model.specs.vm_types.Pages.{pages_in}
use Rattle.flat_model.specs.vnode_files.Files.{FilesSeen, vnode_at}
use Rattle.flat_model.specs.vnode_files.Vnode.{page_blocks}
use Rattle.mark_laws.proofs.Cutting.{cut-pushes}
use Rattle.vm_world.proofs.Answered.{state_entries_rule}
use Rattle.vm_world.proofs.Synced.{state_sync_rule}
use Rattle.vm_world.proofs.SyncReplies.{no-sync, sync-acts}
use Rattle.vm_world.proofs.WantedPages.{wanted-rises}
use Rattle.vm_world.specs.Wants.{WantsClean}
use Rattle.vm_world.specs.FlatMemory.{Memory, flat_memory, shape_of}
use Rattle.vm_world.specs.Pages.{contents_of}
use Rattle.vm_world.specs.Segments.{Segment, Spaces}
use Rattle.vm_world.specs.HistoryFits.{HistoryFits, FaultsFit, has_left, is_exit}
use Rattle.vm_world.specs.Events.{IsEvent}
use Rattle.vm_world.specs.EntryLaws.{LocksAfter, StartsAfter}
use Rattle.vm_world.specs.CallSteps.{ActsOnPages, ActsOnMemory, ChangesMemory, StaysAlive, MayEnter, RaisesPages, MarksAfterReply, IsCleanThen, with_entry_marked, CallRule}
use Rattle.vm_world.specs.State.{KernelState, Seats, Sent, KeptPlan, notes_of, seat_of, room_of}
use Rattle.vm_world.specs.StateFits.{StateFits}
use Rattle.vm_world.proofs.Callers.{caller-kept, caller-longer}
use Rattle.vm_world.proofs.Changes.{machine-kept, changes-then}
use Rattle.vm_world.proofs.Entries.{entry-history, entry-faults, entry-calls, entry-rooms, entry-births, entry-part, not-left}
use Rattle.vm_world.proofs.MayFails.{alive-flat}
use Rattle.vm_world.proofs.Shapes.{follows-entry, tables-shape}
use Rattle.vm_world.proofs.StateSteps.{same-seats, disks-still, accounts-still, pages-fit, marks-stay, failures-stay}
use Rattle.vm_world.proofs.BlockAccounts.{tells-replied}

-- a call that is no Fork makes no process
unborn : (F : Flat) (call : Call) → ((child : ℕ) → call ≢ Fork child) → IsUnborn F call
unborn F (Fork child) plain = absurd (plain child refl)
unborn F call plain = search

no-fork : (q : ℕ) (call : Call) → ((child : ℕ) → call ≢ Fork child) → is_fork_of q call ≡ false
no-fork q (Fork child) plain = absurd (plain child refl)
no-fork q call plain = search

no-birth : (q : ℕ) (e : Entry) → ((child : ℕ) → e.call ≢ Fork child) → is_birth q e ≡ false
no-birth q e plain = by_done (is_done e.reply) (no-fork q e.call plain)
  where
    by_done : (b : Bool) → is_fork_of q e.call ≡ false → (if b then is_fork_of q e.call else false) ≡ false
    by_done true is = is
    by_done false is = refl

pub or-false : (a b : Bool) → b ≡ false → a ≡ (a || b)
or-false true b is = refl
or-false false b is = sym is

starts-at : (H : List Entry) (k : ℕ) (e : Entry) → ((b : ℕ) → e.reply ≡ Synced b → IsStart H k e.process b) → IsSyncStart H k e
starts-at H k e starts = by_reply e.reply refl
  where
    by_reply : (r : Reply) → e.reply ≡ r → IsSyncStart H k (record e { reply = r })
    by_reply (reply.Synced b) is = starts b is
    by_reply (reply.Io d b a) is = tt
    by_reply reply.Done is = tt
    by_reply (reply.Word n) is = tt
    by_reply (reply.Mapped n) is = tt
    by_reply (reply.Bytes l) is = tt
    by_reply (reply.Signal x) is = tt
    by_reply (reply.Refused x) is = tt

no-count : (H : List Entry) (e : Entry) → is_io e.reply ≡ false → IsNextCount H e
no-count H e plain = by_reply e.reply plain
  where
    by_reply : (r : Reply) → is_io r ≡ false → IsNextCount H (record e { reply = r })
    by_reply (reply.Io d b a) is = absurd (cc)
    by_reply (reply.Synced b) is = tt
    by_reply reply.Done is = tt
    by_reply (reply.Word n) is = tt
    by_reply (reply.Mapped n) is = tt
    by_reply (reply.Bytes l) is = tt
    by_reply (reply.Signal x) is = tt
    by_reply (reply.Refused x) is = tt

not-io : (r : Reply) (d b a : ℕ) → is_io r ≡ false → r ≡ Io d b a → ⊥
not-io r d b a plain is = let z : false ≡ true = sym plain ∙ ap is_io is in cc

pub process-is : (p seat : ℕ) (n : ℕ) (entries : List ℕ) → seat_of p ≡ seat → n < room_of entries p → p ≡ suc seat
process-is zero seat n entries own room = absurd (omega (arith, room))
process-is (suc q) seat n entries own room = ap suc own

-- ON PAGES ALONE.
rule-pages : (old new : World) (spaces : Spaces) (e : Entry) → ActsOnPages old new spaces e → ActsOnMemory (record { world = old; spaces = spaces }) (record { world = new; spaces = spaces }) e
rule-pages old new spaces e act = record {
  machine = machine-kept old new act.core act.frames act.tables act.bays;
  others = λ q far. refl;
  memory = act.memory;
  notes = act.notes;
  tells = act.tells;
  flat = act.acts;
  shaped = λ born notes. tables-shape old new spaces born notes notes act.tables ∙ sym (act.shaped born notes);
}

-- ONE CHANGE AFTER ANOTHER.
rule-joined : (p : ℕ) (u v w : Memory) (first second : Flat → Flat)
    → ((born : set.FinSet nat_cmp) (notes : Notes) → NotesFit u.world notes → AllTell u.world notes → IsFlat (flat_memory u born notes) → IsFlat (first (flat_memory u born notes)))
    → RespectsShape second → ChangesMemory p u v first → ChangesMemory p v w second → ChangesMemory p u w (λ F. second (first F))
rule-joined p u v w first second whole respects =
    changes-then p u v w first second (λ F G. G ≡ first F) (λ F G. G ≡ second F) (λ F G. G ≡ second (first F)) respects (λ born notes nf tell is x. subst IsFlat (sym x) (whole born notes nf tell is)) (λ F G H x y. y ∙ ap second x)

-- DONE.
-- as many pushes are kept, or none, as there were
answered-pushes : (files : FilesSeen) (call : Call) (reply : Reply) (entries : ℕ) (m : MarksSeen) → length (marks_answered files call reply entries m).pushes ≡ length m.pushes
answered-pushes files (Truncate f len) reply.Done entries m = by_test (nat_lt len (vnode_at files f).info.length)
  where
    by_test : (b : Bool) → length (cond b (marks_shortened m f (vnode_at files f).info.disk (vnode_at files f).info.extents (vnode_at files f).info.length len entries) m).pushes ≡ length m.pushes
    by_test true = length-map (rows_cut (vnode_at files f).info.disk (pages_in len) entries (take (pages_in (vnode_at files f).info.length) (page_blocks (vnode_at files f).info.extents)) m).pushes (push_cut f (pages_in len))
        ∙ ap length (cut-pushes (vnode_at files f).info.disk (pages_in len) entries (take (pages_in (vnode_at files f).info.length) (page_blocks (vnode_at files f).info.extents)) m)
    by_test false = refl
answered-pushes files (Truncate f len) reply entries m = refl
answered-pushes files call reply entries m = refl

-- and so it is as marks rise
risen-pushes : (w : World) (names : List PageName) (m : MarksSeen) (entries : ℕ) → length (marks_all_risen w m names entries).pushes ≡ length m.pushes
risen-pushes w [] m entries = refl
risen-pushes w (name ∷ names) m entries = risen-pushes w names (marks_risen w m name entries) entries ∙ by_blank (is_unpushed w.files w.anon name)
  where
    by_blank : (b : Bool) → length (cond b (marks_emptied m (world_table w name).disk (world_table w name).block name.object name.page entries) (marks_raised m (world_table w name).disk (world_table w name).block entries)).pushes ≡ length m.pushes
    by_blank true = length-map m.pushes (push_dropped name.object name.page)
    by_blank false = refl

-- WHAT AN ENTRY DOES TO THE MARKS keeps them true.
module _ (s : KernelState) (new : Memory) (seat : ℕ) (e : Entry) (calls : List (Option ℕ)) (syncs : List (Option SyncStart)) (n : MarksSeen) (act : ActsOnMemory s.memory new e)
    (after : MarksAfterReply s.memory new e.process e.call e.reply (length s.history) s.marks n) (clean : IsCleanThen new e) (may : MayEnter s seat e) where
  abbrev made : KernelState
  made = with_entry_marked (record s { memory = new }) e calls syncs n

  module _ (opening : Flat) (seats : Seats) (fit : StateFits opening s seats) (replays : AllTell new.world (notes_of seats) → HistoryFits opening (s.history ++ e ∷ []) 0 (flat_memory new s.born (notes_of seats)))
      (acts : AllTell new.world (notes_of seats) → IsDue (flat_memory s.memory s.born (notes_of seats)) e × (flat_memory new s.born (notes_of seats) ≡ after_act (flat_memory s.memory s.born (notes_of seats)) e)) where
    abbrev Told : Type 0
    Told = MarksOf opening made seats n × FailuresOf made seats n × (length n.pushes ≡ length s.marks.pushes)

    back : AllTell new.world (notes_of seats) → AllTell s.memory.world (notes_of seats)
    back = (act.tells (notes_of seats) fit.notes).1

    -- an answer that is no Sync's
    plain : (c : Call) (r : Reply) → e.call ≡ c → e.reply ≡ r → (AllTell new.world (notes_of seats) → (b : ℕ) → e.reply ≢ Synced b)
        → n ≡ marks_answered s.memory.world.files c r (suc (length s.history)) s.marks → Told
    plain c r c_is r_is other same =
        let makes : MakesEntry opening s e made seats = record { history = refl; bays = act.machine.bays; tells = back; legal = λ tell. (replays tell).legal } in
        let at : marks_answered s.memory.world.files e.call e.reply (suc (length s.history)) s.marks ≡ n =
        ap (λ (x : Call). marks_answered s.memory.world.files x e.reply (suc (length s.history)) s.marks) c_is
        ∙ ap (λ (x : Reply). marks_answered s.memory.world.files c x (suc (length s.history)) s.marks) r_is ∙ sym same in (
          λ tell. subst (MarksOf opening made seats) at (state_entries_rule.answers opening s made e seats s.marks (pages-fit opening s seats fit) fit.marks makes (other tell)) tell,
          subst (FailuresOf made seats) at (state_entries_rule.failures opening s made e seats s.marks fit.failures makes),
          ap (λ (m : MarksSeen). length m.pushes) same ∙ answered-pushes s.memory.world.files c r (suc (length s.history)) s.marks,
        )

    -- a Sync that is done: memory may be another one, but flat memory is what it was
    synced : (addr len b : ℕ) → e.call ≡ Sync addr len → e.reply ≡ Synced b → RaisesPages new e.process (Sync addr len) (length s.history) s.marks n → Told
    synced addr len b c_is r_is raises = (
      subst (MarksOf opening made seats) (sym raises.rose)
          (state_sync_rule.answers opening (record s { memory = new }) made e seats s.marks b raises.names mid-fit (marks-stay opening s (record s { memory = new }) seats refl act.machine.bays back s.marks fit.marks)
          (record { history = refl; bays = refl; tells = λ tell. tell; legal = λ tell. (replays tell).legal }) r_is (may.sync b r_is).0 rise wanted),
      subst (FailuresOf made seats) (sym raises.rose)
          (state_sync_rule.failures (record s { memory = new }) seats s.marks raises.names (length s.history) (failures-stay s (record s { memory = new }) seats act.machine.bays s.marks fit.failures)),
      ap (λ (m : MarksSeen). length m.pushes) raises.rose ∙ risen-pushes new.world raises.names s.marks (length s.history),
    )
      where
        still : AllTell new.world (notes_of seats) → flat_memory new s.born (notes_of seats) ≡ flat_memory s.memory s.born (notes_of seats)
        still tell = (acts tell).1 ∙ sync-acts (flat_memory s.memory s.born (notes_of seats)) e addr len b c_is r_is

        mid-fit : PagesFit opening (record s { memory = new }) seats
        mid-fit = record {
          memory = act.memory;
          notes = act.notes (notes_of seats) fit.notes;
          replays = λ tell. subst (λ (F : Flat). HistoryFits opening s.history s.pending F) (sym (still tell)) (fit.replays (back tell));
        }

        rise : MayAllRise new.world raises.names
        rise i name at = let w = raises.each i name at in
            wanted-rises new e.process (Sync addr len) name w (clean b name r_is (subst (λ (c : Call). WantsClean new e.process c name) (sym c_is) w))

        wanted : AreWantedClean new e.process e.call raises.names
        wanted name w = raises.all name (subst (λ (c : Call). WantsClean new e.process c name) c_is w)

    marked : Told
    marked = by_call e.call refl after
      where
        by_reply : (addr len : ℕ) (r : Reply) → e.call ≡ Sync addr len → e.reply ≡ r → MarksAfterReply s.memory new e.process (Sync addr len) r (length s.history) s.marks n → Told
        by_reply addr len (Synced b) c_is r_is raises = synced addr len b c_is r_is raises
        by_reply addr len r c_is r_is same = plain (Sync addr len) r c_is r_is (λ tell b answer. let z : r ≡ Synced b = sym r_is ∙ answer in cc) same

        by_call : (c : Call) → e.call ≡ c → MarksAfterReply s.memory new e.process c e.reply (length s.history) s.marks n → Told
        by_call (Sync addr len) c_is told = by_reply addr len e.reply c_is refl told
        by_call c c_is same = plain c e.reply c_is refl (λ tell b answer. no-sync (flat_memory s.memory s.born (notes_of seats)) e c b c_is tt answer (acts tell).0) same

pub rule-done : (s : KernelState) (new : Memory) (seat : ℕ) (e : Entry) (calls : List (Option ℕ)) (syncs : List (Option SyncStart)) (n : MarksSeen) → ActsOnMemory s.memory new e
    → MarksAfterReply s.memory new e.process e.call e.reply (length s.history) s.marks n → IsCleanThen new e → StaysAlive new e.process e.call → MayEnter s seat e → LocksAfter e s.calls calls → StartsAfter e s.syncs syncs → length syncs ≡ length s.syncs
    → IsEvent seat s None (with_entry_marked (record s { memory = new }) e calls syncs n) None
rule-done s new seat e calls syncs n act after clean keeps may locks starts count = record {
  fits = λ opening seats is fit. subst (λ (x : Seats). StateFits opening (with_entry_marked (record s { memory = new }) e calls syncs n) x) (sym (same-seats seats seat None is)) (state opening seats is fit);
  fixed = λ i. record {
    core = act.machine.core i;
    frames = act.machine.frames i;
    slots = act.machine.slots i;
    disks = act.machine.disks i;
    files = act.machine.modes i;
    seats = count i;
    parents = s.parents;
    entries = s.entries;
  };
  disks = λ opening seats is fit. disks-still s (with_entry_marked (record s { memory = new }) e calls syncs n) seat None act.machine.bays seats is;
  grown = (e ∷ [], refl, All-cons (λ (x : Entry). seat_of x.process ≡ seat) e [] may.try.own (All-nil (λ (x : Entry). seat_of x.process ≡ seat)));
  follows = λ opening was. follows-entry opening s (with_entry_marked (record s { memory = new }) e calls syncs n) e refl (λ notes. act.shaped s.born notes) (λ own. may.refusal) was;
  accounts = λ opening seats is fit. accounts-still opening s (with_entry_marked (record s { memory = new }) e calls syncs n) seat None (e ∷ []) refl
      (tells-replied s.memory new e.process e.call e.reply (length s.history) s.marks n after) act.machine.bays seats is (λ tell. (act.tells (notes_of seats) fit.notes).1 tell);
}
  where
    -- who is alive was born: the process itself was, and no other came
    alive-born : ((q : ℕ) → IsSome (finite.get s.memory.spaces q) → IsTrue (set.contains s.born q)) → (q : ℕ) → IsSome (finite.get new.spaces q) → IsTrue (set.contains s.born q)
    alive-born born q is = elim (cases_eq q e.process) [
      | inl own ↦ born q (subst (λ (k : ℕ). IsSome (finite.get s.memory.spaces k)) (sym own) may.try.alive)
      | inr other ↦ born q (subst (λ (o : Option (List (Part Segment))). IsSome o) (act.others q other) is)
    ]

    -- and who was born stays alive
    stays-alive : ((q : ℕ) → IsTrue (set.contains s.born q) → IsFalse (has_left q s.history) → IsSome (finite.get s.memory.spaces q)) → (q : ℕ) → IsTrue (set.contains s.born q) → IsFalse (has_left q (s.history ++ e ∷ [])) → IsSome (finite.get new.spaces q)
    stays-alive stays q born left =
        let before = not-left q s.history e left in
        elim (eqb_tells e.process q) [
          | inl own ↦ subst (λ (k : ℕ). IsSome (finite.get new.spaces k)) own.1 (keeps (sym (ap (λ (b : Bool). if b then is_exit e.call else false) own.0) ∙ before.1))
          | inr other ↦ subst (λ (o : Option (List (Part Segment))). IsSome o) (sym (act.others q (λ same. other.1 (sym same)))) (stays q born before.0)
        ]

    -- another seat's process is another
    far : (k q : ℕ) → seat_of q ≡ k → k ≢ seat → q ≢ e.process
    far k q own ne same = ne (sym own ∙ ap seat_of same ∙ may.try.own)

    state : (opening : Flat) (seats : Seats) → seats seat ≡ None → StateFits opening s seats → StateFits opening (with_entry_marked (record s { memory = new }) e calls syncs n) seats
    state opening seats is fit =
        let follows : MayFollow s.history e = may.try.follows e.reply e.cleared in
        let now : Flat = flat_memory s.memory s.born (notes_of seats) in
        let whole : AllTell new.world (notes_of seats) → IsFlat now = λ tell.
        let h = fit.replays ((act.tells (notes_of seats) fit.notes).1 tell) in
        subst IsFlat (sym h.shows) (IsFlat-tails_cleared (replay opening s.history) (is_bit_set s.pending) h.whole) in
        let acts : (tell : AllTell new.world (notes_of seats)) → IsDue now e × (flat_memory new s.born (notes_of seats) ≡ after_act now e) = λ tell.
        act.flat s.born (notes_of seats) fit.notes ((act.tells (notes_of seats) fit.notes).1 tell) (whole tell) in
        let replays : AllTell new.world (notes_of seats) → HistoryFits opening (s.history ++ e ∷ []) 0 (flat_memory new s.born (notes_of seats)) = λ tell.
        let old = (act.tells (notes_of seats) fit.notes).1 tell in
        let h = fit.replays old in
        let alive : IsSome (space_of now e.process) = (alive-flat (shape_of s.memory) s.born (contents_of s.memory.world (notes_of seats)) e.process).1 may.try.alive in
        subst (λ (F : Flat). HistoryFits opening (s.history ++ e ∷ []) 0 F) (sym (acts tell).1)
        (entry-history opening s.history s.pending now e h may.cleared may.formed alive (unborn now e.call may.plain) (acts tell).0
        (starts-at s.history (length s.history) e may.sync)
        (entry-part s.history s.calls s.syncs s.parents s.entries e seat fit.calls fit.rooms h.legal.parts (process-is e.process seat (length (entries_of s.history e.process)) s.entries may.try.own may.try.room) may.file)) in
        let told = marked s new seat e calls syncs n act after clean may opening seats fit replays acts in
        record {
          memory = act.memory;
          notes = act.notes (notes_of seats) fit.notes;
          replays = replays;
          faults = entry-faults s.history new.world.store.bays (notes_of seats) e (subst (λ (b : List BaySeen). FaultsFit s.history b (notes_of seats)) (sym act.machine.bays) fit.faults) (no-count s.history e may.done) (λ d b a io. absurd (not-io e.reply d b a may.done io));
          calls = entry-calls s.history s.calls s.syncs calls syncs e fit.calls follows locks starts;
          rooms = entry-rooms s.history s.parents s.entries e fit.rooms may.try.room (λ child fork. absurd (may.plain child fork));
          births = entry-births s.history s.parents s.memory.spaces new.spaces s.born s.born e fit.births (λ q. or-false (set.contains s.born q) (is_birth q e) (no-birth q e may.plain)) (alive-born fit.births.alive) (stays-alive fit.births.stays);
          plans = record {
            plan = λ kept at. absurd (let z : ◌≡◌ {A = Option KeptPlan} None (Some kept) = at in cc);
            planned = λ kept of at _. absurd (let z : ◌≡◌ {A = Option KeptPlan} None (Some kept) = at in cc);
            sent = λ k sent of at for_call.
                let caller = fit.plans.sent k sent of at for_call in
                let other : k ≢ seat = λ same. absurd (let z : ◌≡◌ {A = Option Sent} None (Some sent) = sym is ∙ ap seats (sym same) ∙ at in cc) in
                caller-longer (flat_memory new s.born (notes_of seats)) s.history s.entries e seat k of may.try.own other
                (caller-kept s.memory new s.born s.born (notes_of seats) (notes_of seats) s.history s.entries k of (act.others of.0 (far k of.0 caller.own other)) act.machine.modes caller);
          };
          marks = told.0;
          failures = told.1;
          pushes = told.2 ∙ fit.pushes ∙ sym count;
        }

pub call_rule : CallRule
call_rule = record { pages = rule-pages; joined = rule-joined; done = rule-done }
