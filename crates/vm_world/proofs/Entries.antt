-- The history with an entry more.
use Rattle.std.proofs.Common.{◌≡◌, ℕ, zero, suc, ◌+◌, ◌<◌, ◌≤◌, ◌==◌, ◌^◌, Bool, true, false, cond, List, [], ◌∷◌, ◌++◌, length, Option, Some, None, refl, sym, ap, ◌∙◌, inl, inr, subst, arith}
use Rattle.std.specs.Prelude.{◌↔◌, ◌||◌, ◌&&◌, not, fold, MatchBool, MatchOption, IsSome, IsSomeAnd, IsTrue, IsFalse, slice_index_or, if◌then◌else◌}
use Rattle.std.specs.List.{list_any}
use Rattle.std.specs.Ordering.{nat_cmp}
use Rattle.std.specs.FinMap as finite
use Rattle.std.specs.FinSet as set
use Rattle.std.proofs.lemmas.Bool.{cases_Bool, eqb-true, or_parts as or-none}
use Rattle.std.proofs.lemmas.Bool.Decides.{eqb_tells}
use Rattle.std.proofs.lemmas.List.{length-append}
use Rattle.flat_model.specs.vm_types.declared.call.Call.{Call}
use Rattle.flat_model.specs.vm_types.declared.call.Call.TheVariants.{Fork}
use Rattle.flat_model.specs.vm_types.declared.call.Entry.{Entry}
use Rattle.flat_model.specs.vm_types.declared.call.Reply.TheVariants.{Io}
use Rattle.flat_model.specs.vm_types.Parts.{file_of_call, is_part}
use Rattle.flat_model.specs.vm_types.WellFormed.{IsWellFormed}
use Rattle.page_store.specs.Bays.{BaySeen}
use Rattle.page_store.specs.Notes.{Notes}
use Rattle.flat_model.specs.Births.{is_birth}
use Rattle.flat_model.specs.CountLaws.{IsNextCount}
use Rattle.flat_model.specs.Flat.{Flat, File, IsFlat, space_of}
use Rattle.flat_model.specs.History.{replay, KeepsParts, IsSyncStart, IsNextOwn, is_of_file, is_aside}
use Rattle.flat_model.specs.HistoryLaws.{IsNextPart, open_call}
use Rattle.flat_model.specs.OpenLaws.{MayFollow, IsOpenPart, last_entry}
use Rattle.flat_model.specs.Step.{is_bit_set, tails_cleared, files_cleared, after_act, IsDue, IsUnborn, IsStep}
use Rattle.flat_model.specs.SyncLaws.{first_start}
use Rattle.flat_model.specs.Told.{entries_of}
use Rattle.flat_model.proofs.ClearedTails.{cleared_tails_law}
use Rattle.flat_model.proofs.Counts.{counted_histories_law}
use Rattle.flat_model.proofs.Histories.{one_more_law, slice_get-cases}
use Rattle.flat_model.proofs.Opens.{open_calls_law}
use Rattle.flat_model.proofs.Replays.{joined_histories_law}
use Rattle.flat_model.proofs.Starts.{sync_starts_law}
use Rattle.flat_model.proofs.WellFormed.{stays_flat_law}
use Rattle.vm_world.specs.declared.sync_start.SyncStart.{SyncStart}
use Rattle.vm_world.specs.DiskPlaces.{HasCounted}
use Rattle.vm_world.specs.HistoryFits.{HistoryFits, FaultsFit, CallsFit, RoomsFit, BirthsFit, has_left, is_exit_of}
use Rattle.vm_world.specs.Segments.{Spaces}
use Rattle.vm_world.specs.State.{process_parent, room_of, is_top}
use Rattle.vm_world.specs.EntryLaws.{LocksAfter, StartsAfter, MayUseFile, EntryLaw}
use Rattle.vm_world.proofs.Openings.{none-pending, above-zero}

pub length-cleared : (test : ℕ → Bool) (fs : List File) → length (files_cleared test fs) ≡ length fs
length-cleared test [] = refl
length-cleared test (f ∷ fs) = ap suc (length-cleared (λ i. test (suc i)) fs)

-- THE ENTRY, beside flat memory.
pub entry-step : (opening : Flat) (H : List Entry) (pending : ℕ) (now : Flat) (e : Entry) → HistoryFits opening H pending now → e.cleared ≡ pending → (IsStep (replay opening H) e → IsFlat (after_act now e)) → IsSome (space_of now e.process) → IsUnborn now e.call → IsDue now e
    → IsSyncStart H (length H) e → IsNextPart H e → HistoryFits opening (H ++ e ∷ []) 0 (after_act now e)
entry-step opening H pending now e fit cleared good alive unborn due sync part =
    let F : Flat = replay opening H in
    let is : now ≡ tails_cleared F (is_bit_set e.cleared) = fit.shows ∙ ap (λ (n : ℕ). tails_cleared F (is_bit_set n)) (sym cleared) in
    let bits = fit.bits in
    let is_step : IsStep F e = record {
      files = omega (arith, bits, cleared);
      alive = subst (λ (G : Flat). IsSome (space_of G e.process)) is alive;
      unborn = subst (λ (born : set.FinSet nat_cmp). IsUnborn (record F { born = born }) e.call) (ap (λ (G : Flat). G.born) is) (unborn-by now e.call unborn);
      due = subst (λ (G : Flat). IsDue G e) is due;
    } in
    let moved : after_act now e ≡ replay opening (H ++ e ∷ []) = ap (λ (G : Flat). after_act G e) is ∙ sym (one_more_law.replayed opening H e) in
    record {
      legal = (one_more_law.legal opening H e).1 (fit.legal, record { step = is_step; sync = sync; part = part });
      whole = subst IsFlat moved (good is_step);
      shows = moved ∙ sym (none-pending (replay opening (H ++ e ∷ [])));
      bits = above-zero (length (replay opening (H ++ e ∷ [])).files);
    }
  where
    unborn-by : (G : Flat) (call : Call) → IsUnborn G call → IsUnborn (record (replay opening H) { born = G.born }) call
    unborn-by G call u = unborn-call call u
      where
        unborn-call : (call : Call) → IsUnborn G call → IsUnborn (record (replay opening H) { born = G.born }) call
        unborn-call (Fork child) u = u
        unborn-call call u = search

pub entry-history : (opening : Flat) (H : List Entry) (pending : ℕ) (now : Flat) (e : Entry) → HistoryFits opening H pending now → e.cleared ≡ pending → IsWellFormed e.call → IsSome (space_of now e.process) → IsUnborn now e.call → IsDue now e
    → IsSyncStart H (length H) e → IsNextPart H e → HistoryFits opening (H ++ e ∷ []) 0 (after_act now e)
entry-history opening H pending now e fit cleared formed alive unborn due sync part =
    let is : now ≡ tails_cleared (replay opening H) (is_bit_set e.cleared) = fit.shows ∙ ap (λ (n : ℕ). tails_cleared (replay opening H) (is_bit_set n)) (sym cleared) in
    entry-step opening H pending now e fit cleared (λ st. subst (λ (G : Flat). IsFlat (after_act G e)) (sym is) (stays_flat_law.after_step (replay opening H) e fit.whole formed st)) alive unborn due sync part

-- more tails, while no entry is made
pub entry-tails : (opening : Flat) (H : List Entry) (pending more : ℕ) (now : Flat) (lost : ℕ → Bool) → HistoryFits opening H pending now → ((f : ℕ) → f < length now.files → is_bit_set more f ≡ (is_bit_set pending f || lost f)) → more < 2 ^ length now.files
    → HistoryFits opening H more (tails_cleared now lost)
entry-tails opening H pending more now lost fit bits below =
    let F : Flat = replay opening H in
    let count : length now.files ≡ length F.files = ap (λ (G : Flat). length G.files) fit.shows ∙ length-cleared (is_bit_set pending) F.files in
    record {
      legal = fit.legal;
      whole = fit.whole;
      shows = ap (λ (G : Flat). tails_cleared G lost) fit.shows ∙ cleared_tails_law.twice F (is_bit_set pending) lost fit.whole.files
          ∙ cleared_tails_law.alike F (λ f. is_bit_set pending f || lost f) (is_bit_set more) (λ f lt. sym (bits f (omega (arith, lt, count))));
      bits = subst (λ (n : ℕ). more < 2 ^ n) count below;
    }

pub entry-faults : (H : List Entry) (bays : List BaySeen) (notes : Notes) (e : Entry) → FaultsFit H bays notes → IsNextCount H e → ((disk before after : ℕ) → e.reply ≡ Io disk before after → HasCounted bays notes disk after)
    → FaultsFit (H ++ e ∷ []) bays notes
entry-faults H bays notes e fit next reached = record {
  counted = (counted_histories_law.one_more H e).1 (fit.counted, next);
  reached = λ k d disk before after at is. elim (slice_get-cases H e d k at) [
    | inl old ↦ fit.reached k d disk before after old.1 is
    | inr new ↦ reached disk before after (ap (λ (x : Entry). x.reply) new.1 ∙ is)
  ];
  most = fit.most;
}

by-last : (b : Bool) (e : Entry) (o : Option Entry) (P : Entry → Type 0) (Q : Type 0) → Q ↔ IsSomeAnd o P → MatchBool b (P e) Q ↔ IsSomeAnd (if b then Some e else o) P
by-last true e o P Q same = ((λ x. x), (λ x. x))
by-last false e o P Q same = same

pub entry-calls : (H : List Entry) (calls : List (Option ℕ)) (syncs : List (Option SyncStart)) (calls' : List (Option ℕ)) (syncs' : List (Option SyncStart)) (e : Entry) → CallsFit H calls syncs → MayFollow H e → LocksAfter e calls calls' → StartsAfter e syncs syncs' → CallsFit (H ++ e ∷ []) calls' syncs'
entry-calls H calls syncs calls' syncs' e fit follows locks starts = record {
  ends = (open_calls_law.one_more H e).1 (fit.ends, follows);
  files = λ f seat.
      let here = by-last (e.process == suc seat) e (last_entry (suc seat) H) (IsOpenPart f) (slice_index_or calls f None ≡ Some seat) (fit.files f seat) in
      let last = open_calls_law.last H e (suc seat) in (
        (λ is. subst (λ (o : Option Entry). IsSomeAnd o (IsOpenPart f)) (sym last) (here.0 ((locks f seat).0 is))),
        (λ is. (locks f seat).1 (here.1 (subst (λ (o : Option Entry). IsSomeAnd o (IsOpenPart f)) last is))),
      );
  starts = λ seat b is.
      let old = starts seat b is in
      let between = (sync_starts_law.between H (suc seat) b.from).0 (fit.starts seat b old.1) in
      let same : first_start (suc seat) (H ++ e ∷ []) ≡ first_start (suc seat) H = sync_starts_law.pushed H e (suc seat) ∙ ap (λ (t : Bool). cond t (length H + 1) (first_start (suc seat) H)) old.0 in
      let more = length-append H (e ∷ []) in
      let low = between.0 in
      let high = between.1 in
      (sync_starts_law.between (H ++ e ∷ []) (suc seat) b.from).1 (omega (arith, same, low), omega (arith, more, high));
}

-- who has no entry has no last one
last-from : (p : ℕ) (H : List Entry) (o : Option Entry) → length (entries_of H p) ≤ 0 → fold (λ last d. if d.process == p then Some d else last) o H ≡ o
last-from p [] o none = refl
last-from p (d ∷ H) o none = elim (cases_Bool (d.process == p)) [
  | inl here ↦ absurd (let e : length (entries_of (d ∷ H) p) ≡ suc (length (entries_of H p)) = ap (λ (b : Bool). length (cond b (d ∷ entries_of H p) (entries_of H p))) here in omega (arith, e, none))
  | inr other ↦
      let e : length (entries_of (d ∷ H) p) ≡ length (entries_of H p) = ap (λ (b : Bool). length (cond b (d ∷ entries_of H p) (entries_of H p))) other in
      ap (λ (b : Bool). fold (λ last x. if x.process == p then Some x else last) (cond b (Some d) o) H) other ∙ last-from p H o (omega (arith, e, none))
]

no-last : (H : List Entry) (p : ℕ) → length (entries_of H p) ≤ 0 → last_entry p H ≡ None
no-last H p none = last-from p H None none

pub entry-rooms : (H : List Entry) (parents entries : List ℕ) (e : Entry) → RoomsFit H parents entries → length (entries_of H e.process) < room_of entries e.process → ((child : ℕ) → e.call ≡ Fork child → process_parent parents child ≡ Some e.process) → RoomsFit (H ++ e ∷ []) parents entries
entry-rooms H parents entries e fit room forks = record {
  made = λ p.
      let joined = ap (λ (es : List Entry). length es) (joined_histories_law.entries H (e ∷ []) p) in
      let both = length-append (entries_of H p) (entries_of (e ∷ []) p) in
      let old = fit.made p in
      elim (cases_Bool (e.process == p)) [
        | inl here ↦
            let one : length (entries_of (e ∷ []) p) ≡ 1 = ap (λ (b : Bool). length (cond b (e ∷ []) [])) here in
            let same : e.process ≡ p = eqb-true e.process p here in
            let low : length (entries_of H p) < room_of entries p = subst (λ (q : ℕ). length (entries_of H q) < room_of entries q) same room in
            omega (arith, joined, both, one, low)
        | inr other ↦ let none : length (entries_of (e ∷ []) p) ≡ 0 = ap (λ (b : Bool). length (cond b (e ∷ []) [])) other in omega (arith, joined, both, none, old)
      ];
  forks = λ k child d at is. elim (slice_get-cases H e d k at) [
    | inl old ↦ fit.forks k child d old.1 is
    | inr new ↦ subst (λ (x : Entry). process_parent parents child ≡ Some x.process) new.1 (forks child (ap (λ (x : Entry). x.call) new.1 ∙ is))
  ];
}

or-assoc : (a b c : Bool) → (a || (b || c)) ≡ ((a || b) || c)
or-assoc true b c = refl
or-assoc false b c = refl

any-pushed : (t : Entry → Bool) (H : List Entry) (e : Entry) → list_any t (H ++ e ∷ []) ≡ (list_any t H || t e)
any-pushed t [] e = or-false (t e)
  where
    or-false : (b : Bool) → (b || false) ≡ b
    or-false true = refl
    or-false false = refl
any-pushed t (d ∷ H) e = ap (λ (b : Bool). t d || b) (any-pushed t H e) ∙ or-assoc (t d) (list_any t H) (t e)

-- who didn't leave hadn't left before, and didn't with the last entry
pub not-left : (p : ℕ) (H : List Entry) (e : Entry) → IsFalse (has_left p (H ++ e ∷ [])) → IsFalse (has_left p H) × IsFalse (is_exit_of p e)
not-left p H e is = or-none (has_left p H) (is_exit_of p e) (sym (any-pushed (is_exit_of p) H e) ∙ is)

pub entry-births : (H : List Entry) (parents : List ℕ) (spaces spaces' : Spaces) (born born' : set.FinSet nat_cmp) (e : Entry) → BirthsFit H parents spaces born → ((p : ℕ) → set.contains born' p ≡ (set.contains born p || is_birth p e))
    → ((p : ℕ) → IsSome (finite.get spaces' p) → IsTrue (set.contains born' p)) → ((p : ℕ) → IsTrue (set.contains born' p) → IsFalse (has_left p (H ++ e ∷ [])) → IsSome (finite.get spaces' p)) → BirthsFit (H ++ e ∷ []) parents spaces' born'
entry-births H parents spaces spaces' born born' e fit lived alive stays = record {
  lived = λ p. lived p ∙ ap (λ (b : Bool). b || is_birth p e) (fit.lived p) ∙ sym (or-assoc (is_top parents p) (list_any (is_birth p) H) (is_birth p e)) ∙ ap (λ (b : Bool). is_top parents p || b) (sym (any-pushed (is_birth p) H e));
  alive = alive;
  stays = stays;
}

pub entry-part : (H : List Entry) (calls : List (Option ℕ)) (syncs : List (Option SyncStart)) (parents entries : List ℕ) (e : Entry) (seat : ℕ) → CallsFit H calls syncs → RoomsFit H parents entries → KeepsParts H → e.process ≡ suc seat → MayUseFile e seat calls → IsNextPart H e
entry-part H calls syncs parents entries e seat fit rooms parts own may = by_file (file_of_call e.call) refl
  where
    by_lock : (f s : ℕ) → file_of_call e.call ≡ Some f → slice_index_or calls f None ≡ Some s → IsNextOwn f (suc s) (e ∷ [])
    by_lock f s file lock = elim (may f s file lock) [
      | inl mine ↦ by_test (is_of_file f e && not (is_aside (suc s) e)) (own ∙ ap suc (sym mine.0)) mine.1
      | inr aside ↦
          let apart : (e.process == suc s) ≡ false = elim (eqb_tells e.process (suc s)) [ inl y ↦ absurd (aside.0 (let a = y.1 in omega (arith, a, own))) | inr n ↦ n.0 ] in
          let is : is_aside (suc s) e ≡ true = ap (λ (b : Bool). b && not (e.process == suc s)) aside.1 ∙ ap (λ (b : Bool). not b) apart in
          subst (λ (b : Bool). MatchBool (is_of_file f e && not b) ((e.process ≡ suc s) × IsTrue (is_part e.call)) (Unit {0})) (sym is) (past (is_of_file f e))
    ]
      where
        by_test : (b : Bool) → e.process ≡ suc s → IsTrue (is_part e.call) → MatchBool b ((e.process ≡ suc s) × IsTrue (is_part e.call)) (Unit {0})
        by_test true a p = (a, p)
        by_test false a p = tt

        past : (b : Bool) → MatchBool (b && false) ((e.process ≡ suc s) × IsTrue (is_part e.call)) (Unit {0})
        past true = tt
        past false = tt

    by_open : (f p : ℕ) → file_of_call e.call ≡ Some f → open_call f H ≡ Some p → IsNextOwn f p (e ∷ [])
    by_open f zero file opened =
        let last = (open_calls_law.by_last H f 0 parts fit.ends).0 opened in
        absurd (subst (λ (o : Option Entry). IsSomeAnd o (IsOpenPart f)) (no-last H 0 (rooms.made 0)) last)
    by_open f (suc s) file opened = by_lock f s file ((fit.files f s).1 ((open_calls_law.by_last H f (suc s) parts fit.ends).0 opened))

    by_holder : (f : ℕ) (o : Option ℕ) → file_of_call e.call ≡ Some f → open_call f H ≡ o → MatchOption o (Unit {0}) (λ p. IsNextOwn f p (e ∷ []))
    by_holder f None file opened = tt
    by_holder f (Some p) file opened = by_open f p file opened

    by_file : (o : Option ℕ) → file_of_call e.call ≡ o → MatchOption o (Unit {0}) (λ f. MatchOption (open_call f H) (Unit {0}) (λ p. IsNextOwn f p (e ∷ [])))
    by_file None is = tt
    by_file (Some f) is = by_holder f (open_call f H) is refl

pub entry_law : EntryLaw
entry_law = record { history = entry-history; tails = entry-tails; faults = entry-faults; calls = entry-calls; part = entry-part; rooms = entry-rooms; births = entry-births }
