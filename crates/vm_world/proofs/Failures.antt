-- The entry of a device error.
use Rattle.std.proofs.Common.{◌≡◌, ◌≢◌, ℕ, zero, suc, ◌<◌, ◌≤◌, ◌==◌, Bool, true, false, cond, List, [], ◌∷◌, ◌++◌, length, Option, Some, None, refl, sym, ap, ◌∙◌, ◌⊎◌, inl, inr, subst, arith}
use Rattle.std.specs.Prelude.{fold, option_map, slice_get, IsSomeAnd, IsTrue, MatchOption, ◌||◌, if◌then◌else◌}
use Rattle.std.specs.FinSet as set
use Rattle.std.proofs.lemmas.Bool.{cases_eq}
use Rattle.std.proofs.lemmas.Bool.Decides.{eqb_tells}
use Rattle.std.proofs.lemmas.List.Elements.{All-nil, All-cons}
use Rattle.page_store.specs.block_device.Counts.{HasRisen}
use Rattle.flat_model.specs.vm_types.declared.call.Call.{Call}
use Rattle.flat_model.specs.vm_types.declared.call.Call.TheVariants.{Fork, Truncate}
use Rattle.flat_model.specs.vm_types.declared.call.Entry.{Entry}
use Rattle.flat_model.specs.vm_types.declared.call.Reply.{Reply}
use Rattle.flat_model.specs.vm_types.declared.call.Reply.TheVariants as reply
use Rattle.flat_model.specs.vm_types.declared.call.Reply.TheVariants.{Io, Synced}
use Rattle.flat_model.specs.vm_types.Parts.{is_part}
use Rattle.page_store.specs.page_hash.declared.PageName.{PageName}
use Rattle.page_store.specs.Bays.{bay_at}
use Rattle.page_store.specs.Flight.{FlightSeen, failed}
use Rattle.flat_model.specs.CountLaws.{count_after, last_count}
use Rattle.flat_model.specs.Counted.{top_count, IsCountedRise}
use Rattle.flat_model.specs.Flat.{Flat, IsFlat}
use Rattle.flat_model.specs.History.{replay}
use Rattle.flat_model.specs.OpenLaws.{MayFollow, FollowsOn, IsOpenPart, last_entry}
use Rattle.flat_model.specs.Step.{is_bit_set, IsUnborn, MayFail}
use Rattle.flat_model.specs.Told.{entries_of}
use Rattle.flat_model.proofs.WellFormed.{IsFlat-tails_cleared}
use Rattle.vm_world.specs.declared.sync_start.SyncStart.{SyncStart}
use Rattle.vm_world.specs.World.{World, AllTell}
use Rattle.vm_world.specs.HistoryFits.{HistoryFits}
use Rattle.vm_world.specs.Marks.{MarksSeen}
use Rattle.vm_world.specs.MarksOf.{MarksOf}
use Rattle.vm_world.specs.StateEntries.{MakesEntry, marks_answered}
use Rattle.flat_model.specs.vnode_files.Files.{FilesSeen}
use Rattle.vm_world.proofs.Answered.{state_entries_rule}
use Rattle.vm_world.specs.FlatMemory.{flat_memory}
use Rattle.vm_world.specs.DiskPlaces.{HasCounted, faults_in, seen_of_note}
use Rattle.vm_world.specs.EntryLaws.{LocksAfter, StartsAfter, MayUseFile}
use Rattle.vm_world.specs.Events.{IsEvent, moment_of}
use Rattle.vm_world.specs.Failures.{io_entry, with_entry_made, FailureRule}
use Rattle.vm_world.specs.State.{KernelState, Seats, Sent, KeptPlan, notes_of, with_sent, fixed_of, seat_of, room_of}
use Rattle.vm_world.specs.StateFits.{StateFits, CallerFits}
use Rattle.vm_world.specs.StateSteps.{after_return, PendsTails, ComesBack}
use Rattle.vm_world.specs.WorldSteps.{returns, WorldStep}
use Rattle.vm_world.proofs.Entries.{entry-step, entry-faults, entry-calls, entry-rooms, entry-births, entry-part, not-left}
use Rattle.vm_world.proofs.Shapes.{follows-entry}
use Rattle.vm_world.proofs.Callers.{caller-longer}
use Rattle.vm_world.proofs.FlatWhole.{some-inj}
use Rattle.vm_world.proofs.NextParts.{follows-part}
use Rattle.vm_world.proofs.StateSteps.{rule-ends, caller-step, pages-fit, this-seat}
use Rattle.mark_laws.proofs.Accounts.{accounts_rule}

-- no device error of a disk names more than a bound that holds of each
last-below : (disk c last : ℕ) (H : List Entry) → ((k : ℕ) (e : Entry) (before after : ℕ) → slice_get H k ≡ Some e → e.reply ≡ Io disk before after → after ≤ c) → last ≤ c → fold (count_after disk) last H ≤ c
last-below disk c last [] each low = low
last-below disk c last (e ∷ H) each low = last-below disk c (count_after disk last e) H (λ k d before after at is. each (suc k) d before after at is) (by_reply e.reply refl)
  where
    by_reply : (r : Reply) → e.reply ≡ r → elim r [ reply.Io d before after ↦ (if d == disk then after else last) | x ↦ last ] ≤ c
    by_reply (reply.Io d before after) is = elim (eqb_tells d disk) [
      | inl y ↦ subst (λ (b : Bool). cond b after last ≤ c) (sym y.0) (each 0 e before after refl (is ∙ ap (λ (k : ℕ). Io k before after) y.1))
      | inr n ↦ subst (λ (b : Bool). cond b after last ≤ c) (sym n.0) low
    ]
    by_reply reply.Done is = low
    by_reply (reply.Word n) is = low
    by_reply (reply.Mapped n) is = low
    by_reply (reply.Bytes l) is = low
    by_reply (reply.Synced n) is = low
    by_reply (reply.Signal x) is = low
    by_reply (reply.Refused x) is = low

rise : (before after : ℕ) → HasRisen before after → before ≤ top_count → after ≤ top_count → IsCountedRise before after
rise before after risen low high = split (below before)
  where
    below : (n : ℕ) → (n < top_count) ⊎ (top_count ≤ n)
    below n = grind arith

    split : (before < top_count) ⊎ (top_count ≤ before) → IsCountedRise before after
    split (inl lt) = inl (omega (arith, risen, lt))
    split (inr le) = inr (omega (arith, low, le), omega (arith, risen, le, high))

no-fork : (F : Flat) (p : ℕ) (call : Call) → MayFail F p call → IsUnborn F call
no-fork F p (Fork child) may = absurd may
no-fork F p call may = search

not-fork : (F : Flat) (p child : ℕ) (call : Call) → MayFail F p call → call ≢ Fork child
not-fork F p child call may is = subst (λ (c : Call). MayFail F p c) is may

-- a device error changes no mark
io-answered : (files : FilesSeen) (call : Call) (disk before after entries : ℕ) (m : MarksSeen) → marks_answered files call (Io disk before after) entries m ≡ m
io-answered files (Truncate f len) disk before after entries m = refl
io-answered files call disk before after entries m = refl

-- THE ENTRY of a device error, in a state whose flight has come back.
io-fits : (opening : Flat) (s : KernelState) (seats : Seats) (seat p : ℕ) (call : Call) (disk before after : ℕ) (calls : List (Option ℕ)) (syncs : List (Option SyncStart)) → StateFits opening s seats → seats seat ≡ None → seat_of p ≡ seat
    → CallerFits (flat_memory s.memory s.born (notes_of seats)) s.history s.entries seat (p, call) → IsCountedRise before after → last_count disk s.history ≤ before
    → HasCounted s.memory.world.store.bays (notes_of seats) disk after
    → LocksAfter (io_entry p call disk before after s.pending) s.calls calls → StartsAfter (io_entry p call disk before after s.pending) s.syncs syncs
    → length syncs ≡ length s.syncs
    → StateFits opening (with_entry_made s (io_entry p call disk before after s.pending) calls syncs) seats
io-fits opening s seats seat p call disk before after calls syncs fit idle own caller risen low reached locks starts count =
    let now : Flat = flat_memory s.memory s.born (notes_of seats) in
    let follows : MayFollow s.history (io_entry p call disk before after s.pending) = caller.follows (Io disk before after) s.pending in
    let made : AllTell s.memory.world (notes_of seats) → HistoryFits opening (s.history ++ io_entry p call disk before after s.pending ∷ []) 0 now = λ tell.
    let h = fit.replays tell in
    entry-step opening s.history s.pending now (io_entry p call disk before after s.pending) h refl (λ _. subst IsFlat (sym h.shows) (IsFlat-tails_cleared (replay opening s.history) (is_bit_set s.pending) h.whole)) caller.alive (no-fork now p call caller.fails) caller.fails tt
    (entry-part s.history s.calls s.syncs s.parents s.entries (io_entry p call disk before after s.pending) seat fit.calls fit.rooms h.legal.parts (process-is p seat own caller.room) (may-use follows)) in
    let makes : MakesEntry opening s (io_entry p call disk before after s.pending) (with_entry_made s (io_entry p call disk before after s.pending) calls syncs) seats = record {
      history = refl;
      bays = refl;
      tells = λ tell. tell;
      legal = λ tell. (made tell).legal;
    } in
    record {
      memory = fit.memory;
      notes = fit.notes;
      replays = made;
      faults = entry-faults s.history s.memory.world.store.bays (notes_of seats) (io_entry p call disk before after s.pending) fit.faults (risen, low)
          (λ d b a is.
          let same : Io disk before after ≡ Io d b a = is in
          let at : disk ≡ d = io-disk disk before after d b a same in
          let value : after ≡ a = io-after disk before after d b a same in
          subst (λ (x : ℕ). HasCounted s.memory.world.store.bays (notes_of seats) d x) value (subst (λ (x : ℕ). HasCounted s.memory.world.store.bays (notes_of seats) x after) at reached));
      calls = entry-calls s.history s.calls s.syncs calls syncs (io_entry p call disk before after s.pending) fit.calls follows locks starts;
      rooms = entry-rooms s.history s.parents s.entries (io_entry p call disk before after s.pending) fit.rooms caller.room (λ child is. absurd (not-fork now p child call caller.fails is));
      births = entry-births s.history s.parents s.memory.spaces s.memory.spaces s.born s.born (io_entry p call disk before after s.pending) fit.births (λ q. or-false (set.contains s.born q)) fit.births.alive
          (λ q born left. fit.births.stays q born (not-left q s.history (io_entry p call disk before after s.pending) left).0);
      plans = record {
        plan = λ kept is. absurd (let z : ◌≡◌ {A = Option KeptPlan} None (Some kept) = is in cc);
        planned = λ kept of is _. absurd (let z : ◌≡◌ {A = Option KeptPlan} None (Some kept) = is in cc);
        sent = λ k sent of is for_call. caller-longer now s.history s.entries (io_entry p call disk before after s.pending) seat k of own
            (λ same. absurd (let z : ◌≡◌ {A = Option Sent} None (Some sent) = sym idle ∙ ap seats (sym same) ∙ is in cc)) (fit.plans.sent k sent of is for_call);
      };
      marks = subst (MarksOf opening (with_entry_made s (io_entry p call disk before after s.pending) calls syncs) seats) (io-answered s.memory.world.files call disk before after (suc (length s.history)) s.marks)
          (state_entries_rule.answers opening s (with_entry_made s (io_entry p call disk before after s.pending) calls syncs) (io_entry p call disk before after s.pending) seats s.marks (pages-fit opening s seats fit) fit.marks makes (λ b is. let z : Io disk before after ≡ Synced b = is in cc));
      failures = fit.failures;
      pushes = fit.pushes ∙ sym count;
    }
  where
    or-false : (b : Bool) → b ≡ (b || false)
    or-false true = refl
    or-false false = refl

    io-disk : (x a b y c d : ℕ) → Io x a b ≡ Io y c d → x ≡ y
    io-disk x a b y c d is = cc

    io-after : (x a b y c d : ℕ) → Io x a b ≡ Io y c d → b ≡ d
    io-after x a b y c d is = cc

    process-is : (p seat : ℕ) → seat_of p ≡ seat → length (entries_of s.history p) < room_of s.entries p → p ≡ suc seat
    process-is zero seat own room = absurd (omega (arith, room))
    process-is (suc q) seat own room = ap suc own

    may-use : MayFollow s.history (io_entry p call disk before after s.pending) → MayUseFile (io_entry p call disk before after s.pending) seat s.calls
    may-use follows f t file lock = elim (cases_eq t seat) [
      | inr ne ↦ inr (ne, refl)
      | inl same ↦
          let p_is : p ≡ suc seat = process-is p seat own caller.room in
          let opened : IsSomeAnd (last_entry p s.history) (IsOpenPart f) = subst (λ (q : ℕ). IsSomeAnd (last_entry q s.history) (IsOpenPart f)) (ap suc same ∙ sym p_is) ((fit.calls.files f t).0 lock) in
          inl (same, by_last (last_entry p s.history) opened follows)
    ]
      where
        by_last : (o : Option Entry) → IsSomeAnd o (IsOpenPart f) → MatchOption o (Unit {0}) (λ d. FollowsOn d (io_entry p call disk before after s.pending)) → IsTrue (is_part call)
        by_last None is next = absurd is
        by_last (Some d) is next = follows-part f d (io_entry p call disk before after s.pending) is next

-- A FLIGHT THAT FAILED COMES BACK.
rule-fails : (s : KernelState) (new : World) (cut : PageName → Bool) (pending seat p : ℕ) (call : Call) (sent : Sent) (f : FlightSeen) (calls : List (Option ℕ)) (syncs : List (Option SyncStart)) → WorldStep s.memory.world new s.memory.spaces (returns seat sent.note) cut → PendsTails s.memory.world cut s.pending pending
    → sent.of ≡ Some (p, call) → seat_of p ≡ seat → ComesBack sent.note f new → f.outcome ≡ failed
    → LocksAfter (io_entry p call f.number f.before f.disk.faults pending) s.calls calls → StartsAfter (io_entry p call f.number f.before f.disk.faults pending) s.syncs syncs → length syncs ≡ length s.syncs
    → IsEvent seat s (Some sent) (with_entry_made (after_return s new pending seat sent.note f) (io_entry p call f.number f.before f.disk.faults pending) calls syncs) None
rule-fails s new cut pending seat p call sent f calls syncs step tails for_call own comes did locks starts count =
    let event = rule-ends s new cut pending seat sent f step tails comes in
    let number = comes.performed.number in
    let before = comes.performed.before in
    record {
      fits = λ opening seats is fit.
          let noted : notes_of seats seat ≡ Some sent.note = ap (option_map (λ (x : Sent). x.note)) is in
          let old_count : faults_in (bay_at s.memory.world.store.bays sent.note.number) (notes_of seats) ≡ Some sent.note.disk.faults = ap (λ b. faults_in b (notes_of seats)) step.bays.0 ∙ ap (seen_of_note (λ disk. disk.faults)) noted in
          let most = fit.faults.most sent.note.number sent.note.disk.faults old_count in
          io-fits opening (after_return s new pending seat sent.note f) (with_sent seats seat None) seat p call f.number f.before f.disk.faults calls syncs (event.fits opening seats is fit) (this-seat seats seat None) own
          (caller-step s new (returns seat sent.note) cut pending step tails (notes_of seats) (notes_of (with_sent seats seat None)) seat (p, call) (fit.plans.sent seat sent (p, call) is for_call))
          (subst (λ (n : ℕ). IsCountedRise n f.disk.faults) (sym before) (rise sent.note.disk.faults f.disk.faults (comes.performed.risen did) most comes.most))
          (subst (λ (k : ℕ). last_count k s.history ≤ f.before) (sym number) (subst (λ (n : ℕ). last_count sent.note.number s.history ≤ n) (sym before)
          (last-below sent.note.number sent.note.disk.faults 0 s.history (λ k x b a at io.
          let r = fit.faults.reached k x sent.note.number b a at io in
          let enough = r.enough in
          let same : r.count ≡ sent.note.disk.faults = some-inj r.count sent.note.disk.faults (sym r.there ∙ old_count) in
          omega (arith, enough, same)) (omega arith))))
          (subst (λ (k : ℕ). HasCounted new.store.bays (notes_of (with_sent seats seat None)) k f.disk.faults) (sym number)
          (record { count = f.disk.faults; there = ap (λ b. faults_in b (notes_of (with_sent seats seat None))) comes.disk; enough = omega arith }))
          locks starts count;
      fixed = ap (λ (n : ℕ). record (fixed_of (after_return s new pending seat sent.note f)) { seats = n }) count ∙ event.fixed;
      disks = event.disks;
      grown = (io_entry p call f.number f.before f.disk.faults pending ∷ [], refl, All-cons (λ (x : Entry). seat_of x.process ≡ seat) (io_entry p call f.number f.before f.disk.faults pending) [] own (All-nil (λ (x : Entry). seat_of x.process ≡ seat)));
      follows = λ opening was. follows-entry opening (after_return s new pending seat sent.note f) (with_entry_made (after_return s new pending seat sent.note f) (io_entry p call f.number f.before f.disk.faults pending) calls syncs) (io_entry p call f.number f.before f.disk.faults pending) refl
          (λ notes. refl) (λ own. absurd (let z : true ≡ false = own in cc)) (event.follows opening was);
      accounts = λ opening seats is fit tell.
          let ended = event.accounts opening seats is fit tell in
          let back = moment_of (after_return s new pending seat sent.note f) (notes_of (with_sent seats seat None)) in
          let told = moment_of (with_entry_made (after_return s new pending seat sent.note f) (io_entry p call f.number f.before f.disk.faults pending) calls syncs) (notes_of (with_sent seats seat None)) in (
            ended.0,
            λ first up. accounts_rule.and_then opening first back told (ended.1 first up)
                (accounts_rule.still opening back told (io_entry p call f.number f.before f.disk.faults pending ∷ []) refl (λ disk block low. refl) (λ disk count at. (count, at, omega arith)) (λ disk block at. at)),
          );
    }

pub failure_rule : FailureRule
failure_rule = record { fails = rule-fails }
