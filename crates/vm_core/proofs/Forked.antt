-- A Fork becomes an event, with its entry; and the child has its place.
use Rattle.std.proofs.Common.{◌≡◌, ◌≢◌, ℕ, zero, suc, ◌+◌, ◌-◌, ◌<◌, ◌≤◌, ◌==◌, ◌||◌, Bool, true, false, List, [], ◌∷◌, length, Option, Some, None, refl, sym, ap, ◌∙◌, inl, inr, subst, arith, get_or-set_same, get_or-set_other, length-set}
use Rattle.std.specs.Prelude.{IsSome, nat_le, slice_get, slice_index, slice_index_or, slice_set}
use Rattle.std.specs.List.{list_any}
use Rattle.std.specs.Ordering.{nat_cmp}
use Rattle.std.specs.Cmp.{nat_cmp_total, unsigned_tied}
use Rattle.std.specs.FinMap as finite
use Rattle.std.specs.FinSet as set
use Rattle.std.proofs.lemmas.Bool.{cases_eq, ne_eqb}
use Rattle.std.proofs.lemmas.Bool.Decides.{nat_tests}
use Rattle.fault_entry.specs.page_store.Notes.{Notes}
use Rattle.fault_entry.specs.page_store.Seen.{StoreSeen}
use Rattle.fault_entry.specs.vm_types.WellFormed.{IsWellFormed}
use Rattle.fault_entry.specs.vm_types.declared.call.Call.{Call}
use Rattle.fault_entry.specs.vm_types.declared.call.Call.TheVariants.{Fork}
use Rattle.fault_entry.specs.vm_types.declared.call.Entry.{Entry}
use Rattle.fault_entry.specs.vm_types.declared.call.Errno.TheVariants.{NoSwap}
use Rattle.fault_entry.specs.vm_types.declared.call.Reply.{Reply}
use Rattle.fault_entry.specs.vm_types.declared.call.Reply.TheVariants as reply
use Rattle.fault_entry.specs.flat_model.Flat.{Flat, private_cells, reserved}
use Rattle.fault_entry.specs.flat_model.Mapping.{cells_of}
use Rattle.fault_entry.specs.flat_model.Refusals.{check, done_effect, or_refused}
use Rattle.fault_entry.specs.flat_model.Shapes.{without_bytes}
use Rattle.fault_entry.specs.flat_model.Step.{effect}
use Rattle.fault_entry.specs.flat_model.Processes.{with_child}
use Rattle.fault_entry.specs.flat_model.Told.{entries_of}
use Rattle.fault_entry.specs.vm_world.CallSteps.{ActsOnMemory}
use Rattle.fault_entry.specs.vm_world.EntryLaws.{LocksAfter, StartsAfter}
use Rattle.fault_entry.specs.vm_world.Events.{IsEvent, CanTry, MayBear}
use Rattle.fault_entry.specs.vm_world.Failures.{with_entry_made}
use Rattle.fault_entry.specs.vm_world.FlatMemory.{Memory, flat_memory}
use Rattle.fault_entry.specs.vm_world.ForkSteps.{MayFork}
use Rattle.fault_entry.specs.vm_world.Plans.{refusal_in}
use Rattle.fault_entry.specs.vm_world.Segments.{Spaces}
use Rattle.fault_entry.specs.vm_world.Serving.{ModifiesNone}
use Rattle.fault_entry.specs.vm_world.State.{KernelState, Seats, process_parent, room_of}
use Rattle.fault_entry.specs.vm_world.StateFits.{StateFits}
use Rattle.fault_entry.specs.vm_world.ZeroObjects.{KnowsZeros}
use Rattle.fault_entry.proofs.vm_world.ForkEvents.{fork_rule, same-test}
use Rattle.fault_entry.proofs.seg_ops.Composed.{keeps-same}
use Rattle.fault_entry.specs.seg_vn.Serves.{IsPlainReply}
use Rattle.fault_entry.specs.seg_vn.declared.attempt.Attempt.{Attempt}
use Rattle.fault_entry.specs.seg_vn.declared.attempt.Attempt.TheVariants.{Done}
use Rattle.fault_entry.proofs.home_pages.Replacements.{none-replaced}
use Rattle.fault_entry.proofs.home_pages.Takes.{takes-none}
use Rattle.proc_calls.specs.Forks.{DoesFork, IsCountedFork, IsForked, RefusesFork, fork_entry}
use Rattle.fault_entry.specs.vm_world.declared.sync_start.SyncStart.{SyncStart}
use Rattle.vm_core.specs.Calls.{AnswersCall, IsDone, SlotsAfterCall, after_answer}
use Rattle.vm_core.specs.Fits.{FitsAt}
use Rattle.vm_core.specs.Forks.{after_fork, born_after, starts_after}
use Rattle.vm_core.specs.State.{born_of, marked_processes, EachHasPlaces, IsSoundKernel}
use Rattle.vm_core.proofs.Tops.{any-below}
use Rattle.vm_core.proofs.OwnFiles.{locks-same}
use Rattle.vm_core.proofs.Served.{kept-moved, plain-own, seat-is, starts-dropped}

-- WHO WAS EVER ALIVE, with one mark more
abbrev is_marked : ℕ → List Bool → ℕ → Bool
is_marked k marks q = list_any (λ (y : ℕ). y == q) (marked_processes k marks)

once : (a b : Bool) → (a || b) ≡ (a || (a || b))
once true b = refl
once false b = refl

turned : (a b c : Bool) → (a || (b || c)) ≡ (b || (a || c))
turned true true c = refl
turned true false c = refl
turned false b c = refl

marked-more : (marks : List Bool) (k j q : ℕ) → j < length marks → is_marked k (slice_set marks j true) q ≡ (((k + j) == q) || is_marked k marks q)
marked-more [] k j q lt = absurd (omega (arith, lt))
marked-more (true ∷ marks) k zero q lt = subst (λ (n : ℕ). ((k == q) || is_marked (suc k) marks q) ≡ ((n == q) || ((k == q) || is_marked (suc k) marks q))) (let e : k ≡ k + 0 = omega arith in e) (once (k == q) (is_marked (suc k) marks q))
marked-more (false ∷ marks) k zero q lt = subst (λ (n : ℕ). ((k == q) || is_marked (suc k) marks q) ≡ ((n == q) || is_marked (suc k) marks q)) (let e : k ≡ k + 0 = omega arith in e) refl
marked-more (true ∷ marks) k (suc j) q lt =
    let further = marked-more marks (suc k) j q (omega (arith, lt)) in
    subst (λ (n : ℕ). ((k == q) || is_marked (suc k) (slice_set marks j true) q) ≡ ((n == q) || ((k == q) || is_marked (suc k) marks q))) (let e : suc k + j ≡ k + suc j = omega arith in e)
    (ap (λ (b : Bool). (k == q) || b) further ∙ turned (k == q) ((suc k + j) == q) (is_marked (suc k) marks q))
marked-more (false ∷ marks) k (suc j) q lt =
    let further = marked-more marks (suc k) j q (omega (arith, lt)) in
    subst (λ (n : ℕ). is_marked (suc k) (slice_set marks j true) q ≡ ((n == q) || is_marked (suc k) marks q)) (let e : suc k + j ≡ k + suc j = omega arith in e) further

pub born-marked : (marks : List Bool) (child : ℕ) → 1 ≤ child → child ≤ length marks → born_of (slice_set marks (child - 1) true) ≡ set.insert (born_of marks) child
born-marked marks child first last =
    let place : 1 + (child - 1) ≡ child = omega (arith, first) in
    set.same_set nat_cmp_total finite.nat_cmp-IsAntisymmetric (born_of (slice_set marks (child - 1) true)) (set.insert (born_of marks) child) (λ q.
    set.contains-from_list_nat (marked_processes 1 (slice_set marks (child - 1) true)) q
    ∙ marked-more marks 1 (child - 1) q (omega (arith, first, last))
    ∙ ap (λ (n : ℕ). (n == q) || is_marked 1 marks q) place
    ∙ ap (λ (b : Bool). b || is_marked 1 marks q) (same-test child q)
    ∙ ap (λ (b : Bool). (q == child) || b) (sym (set.contains-from_list_nat (marked_processes 1 marks) q))
    ∙ ap (λ (b : Bool). b || set.contains (born_of marks) q) (sym (unsigned_tied q child))
    ∙ sym (set.contains-insert nat_cmp_total (born_of marks) child q))

-- who has a mark
marked-at : (marks : List Bool) (k j : ℕ) → is_marked k marks (k + j) ≡ slice_index_or marks j false
marked-at [] k j = refl
marked-at (true ∷ marks) k zero = ap (λ (b : Bool). b || is_marked (suc k) marks (k + 0)) (let e : (k == (k + 0)) ≡ true = grind (arith, nat_tests) in e)
marked-at (false ∷ marks) k zero = any-below marks (suc k) (k + 0) (omega arith)
marked-at (true ∷ marks) k (suc j) = ap (λ (b : Bool). b || is_marked (suc k) marks (k + suc j)) (let e : (k == (k + suc j)) ≡ false = grind (arith, nat_tests) in e)
    ∙ subst (λ (n : ℕ). is_marked (suc k) marks n ≡ slice_index_or marks j false) (let e : suc k + j ≡ k + suc j = omega arith in e) (marked-at marks (suc k) j)
marked-at (false ∷ marks) k (suc j) = subst (λ (n : ℕ). is_marked (suc k) marks n ≡ slice_index_or marks j false) (let e : suc k + j ≡ k + suc j = omega arith in e) (marked-at marks (suc k) j)

pub born-at : (marks : List Bool) (k : ℕ) → set.contains (born_of marks) (suc k) ≡ slice_index_or marks k false
born-at marks k = set.contains-from_list_nat (marked_processes 1 marks) (suc k) ∙ subst (λ (n : ℕ). is_marked 1 marks n ≡ slice_index_or marks k false) (let e : 1 + k ≡ suc k = omega arith in e) (marked-at marks 1 k)

pub born-none : (marks : List Bool) → set.contains (born_of marks) 0 ≡ false
born-none marks = set.contains-from_list_nat (marked_processes 1 marks) 0 ∙ any-below marks 1 0 (omega arith)

-- A CHILD is one of the processes, and isn't alive before its birth
pub child-is : (parents : List ℕ) (child p : ℕ) → process_parent parents child ≡ Some p → (1 ≤ child) × (child ≤ length parents)
child-is parents zero p is = absurd (let z : ◌≡◌ {A = Option ℕ} None (Some p) = is in cc)
child-is parents (suc k) p is = (omega arith, below parents k is)
  where
    below : (xs : List ℕ) (k : ℕ) → slice_get xs k ≡ Some p → suc k ≤ length xs
    below [] k is = absurd (let z : ◌≡◌ {A = Option ℕ} None (Some p) = is in cc)
    below (x ∷ xs) zero is = omega arith
    below (x ∷ xs) (suc k) is = let lt = below xs k is in omega (arith, lt)

none-of : {A : Type 0} (o : Option A) → (IsSome o → ⊥) → o ≡ None
none-of None never = refl
none-of (Some x) never = absurd (never refl)

pub child-absent : (opening : Flat) (s : KernelState) (seats : Seats) (p child : ℕ) → StateFits opening s seats → MayBear s p (Fork child) → finite.get s.memory.spaces child ≡ None
child-absent opening s seats p child fit may = none-of (finite.get s.memory.spaces child) (λ here. let z : false ≡ true = sym may.1 ∙ fit.births.alive child here in cc)

-- THE STARTS OF SYNCS: that of the process is dropped, and the child's
starts-born : (syncs : List (Option SyncStart)) (p child cleared : ℕ) → 1 ≤ p → p ≤ length syncs → 1 ≤ child → child ≤ length syncs
    → StartsAfter (fork_entry p child reply.Done cleared) syncs (slice_set (slice_set syncs (child - 1) None) (p - 1) None)
starts-born syncs p child cleared first last born placed t b has =
    let mid : List (Option SyncStart) = slice_set syncs (child - 1) None in
    let count : length mid ≡ length syncs = length-set syncs (child - 1) None in
    elim (cases_eq t (p - 1)) [
      | inl same ↦ absurd (let z : ◌≡◌ {A = Option SyncStart} None (Some b) = sym (ap (λ (k : ℕ). slice_index_or (slice_set mid (p - 1) None) k None) same ∙ get_or-set_same mid (p - 1) None None (omega (arith, first, last, count))) ∙ has in cc)
      | inr ne ↦
          let kept = sym (get_or-set_other mid (p - 1) t None None ne) ∙ has in
          elim (cases_eq t (child - 1)) [
            | inl same ↦ absurd (let z : ◌≡◌ {A = Option SyncStart} None (Some b) = sym (ap (λ (k : ℕ). slice_index_or mid k None) same ∙ get_or-set_same syncs (child - 1) None None (omega (arith, born, placed))) ∙ kept in cc)
            | inr far ↦
                let mine : (p == suc t) ≡ false = ne_eqb p (suc t) (λ e. ne (omega (arith, e))) in
                let its : (child == suc t) ≡ false = ne_eqb child (suc t) (λ e. far (omega (arith, e))) in
                (ap (λ (x : Bool). x || (child == suc t)) mine ∙ its, sym (get_or-set_other syncs (child - 1) t None None far) ∙ kept)
          ]
    ]

-- A FORK THAT IS REFUSED changes nothing in flat memory
refused-same : (F : Flat) (p child : ℕ) → (effect F p (Fork child)).reply ≡ reply.Refused NoSwap → F ≡ (effect F p (Fork child)).after
refused-same F p child = by_test (nat_le (reserved F + private_cells (cells_of F p)) F.slots)
  where
    by_test : (b : Bool) → (or_refused F (λ _. done_effect (with_child F p child)) (check b NoSwap)).reply ≡ reply.Refused NoSwap → F ≡ (or_refused F (λ _. done_effect (with_child F p child)) (check b NoSwap)).after
    by_test true is = absurd (let z : reply.Done ≡ reply.Refused NoSwap = is in cc)
    by_test false is = refl

-- WHAT A FORK THAT WAS ANSWERED COMES TO
pub record ForkTold (s t : KernelState) (seat p : ℕ) (call : Call) (a : Attempt) : Type 0 where
  pub answers : AnswersCall s t seat p call a
  pub slots : SlotsAfterCall s.memory t.memory.world p call a
  pub event : IsEvent seat s None t None

module _ (s : KernelState) (m : Memory) (seat p child : ℕ) (fits : FitsAt s seat None) (try : CanTry s seat p (Fork child)) (formed : IsWellFormed (Fork child)) (modified : ModifiesNone s.memory.world m.world) (placed : child ≤ length s.syncs) (seated : seat < length s.syncs) where
  p-is : p ≡ suc seat
  p-is = seat-is s seat p (Fork child) try

  abbrev entry : Reply → Entry
  entry r = fork_entry p child r s.pending

  may : (r : Reply) → ((b : set.FinSet nat_cmp) (notes : Notes) → (effect (flat_memory s.memory b notes) p (Fork child)).reply ≡ r) → MayFork s seat child (entry r)
  may r due = record { fork = refl; try = try; cleared = refl; formed = formed; refusal = λ b notes. ap refusal_in (due b notes) }

  locks : (r : Reply) → LocksAfter (entry r) s.calls s.calls
  locks r = locks-same s.history s.calls s.syncs seat p s.pending (Fork child) r fits.2.calls p-is (try.follows r s.pending) refl

  abbrev made : (born : set.FinSet nat_cmp) (r : Reply) (syncs : List (Option SyncStart)) → KernelState
  made born r syncs = with_entry_made (record s { memory = m; born = born }) (entry r) s.calls syncs

  is-done : (born : set.FinSet nat_cmp) (r : Reply) (syncs : List (Option SyncStart)) → IsPlainReply r → ((b : set.FinSet nat_cmp) (notes : Notes) → (effect (flat_memory s.memory b notes) p (Fork child)).reply ≡ r) → StartsAfter (entry r) s.syncs syncs
      → m.world.store.bays ≡ s.memory.world.store.bays → IsDone s (made born r syncs) p (Fork child) r
  is-done born r syncs plain due starts bays = record {
    mid = s.memory.world;
    cleared = s.pending;
    adds = record { history = refl; pending = refl; locks = locks r; starts = starts };
    no_error = (plain-own s p (Fork child) r plain).0;
    refusal = λ b notes. ap refusal_in (due b notes);
    start = (plain-own s p (Fork child) r plain).1;
    clean = λ from name is wants. absurd (subst IsPlainReply is plain);
    takes = takes-none s.memory.world s.memory.world s.memory.spaces s.pending (keeps-same s.memory.world s.memory.spaces fits.2.memory);
    replaced = none-replaced s.memory.world m.world;
    modified = record { modified = λ name frame home is. inr (modified.modified name frame home is); rewritten = λ name frame home is. inr (modified.rewritten name frame home is) };
    bays = bays;
    plan = refl;
  }

  forks-done : DoesFork s.memory m p child → IsCountedFork s.memory m.world.anon.counts p reply.Done → ForkTold s (after_answer (after_fork s m child reply.Done) seat p (Fork child) (Done reply.Done)) seat p (Fork child) (Done reply.Done)
  forks-done does counted =
      let syncs : List (Option SyncStart) = slice_set (slice_set s.syncs (child - 1) None) (p - 1) None in
      let number = child-is s.parents child p try.bears.0 in
      let own = p-is in
      let starts = starts-born s.syncs p child s.pending (omega (arith, own)) (omega (arith, own, seated)) number.0 placed in
      let bears = does.bears s.pending in
      record {
        answers = is-done (set.insert s.born child) reply.Done syncs tt does.due starts bears.machine.bays;
        slots = counted.counts;
        event = fork_rule.done s m seat child (entry reply.Done) s.calls syncs (may reply.Done does.due) refl bears (locks reply.Done) starts (length-set (slice_set s.syncs (child - 1) None) (p - 1) None ∙ length-set s.syncs (child - 1) None);
      }

  same-acts : ((b : set.FinSet nat_cmp) (notes : Notes) → (effect (flat_memory s.memory b notes) p (Fork child)).reply ≡ reply.Refused NoSwap) → ActsOnMemory s.memory s.memory (entry (reply.Refused NoSwap))
  same-acts due = record {
    machine = record { core = refl; frames = refl; slots = refl; disks = refl; modes = refl; bays = refl };
    others = λ q ne. refl;
    memory = fits.2.memory;
    notes = λ notes nf. nf;
    tells = λ notes nf. ((λ h. h), (λ h. h));
    flat = λ b notes nf tell whole. (due b notes, refused-same (flat_memory s.memory b notes) p child (due b notes));
    shaped = λ b notes. ap without_bytes (refused-same (flat_memory s.memory b notes) p child (due b notes));
  }

  forks-refused : RefusesFork s.memory m p child → m.world.anon.counts ≡ s.memory.world.anon.counts
      → ForkTold s (after_answer (after_fork s m child (reply.Refused NoSwap)) seat p (Fork child) (Done (reply.Refused NoSwap))) seat p (Fork child) (Done (reply.Refused NoSwap))
  forks-refused refuses counted =
      let syncs : List (Option SyncStart) = slice_set s.syncs (p - 1) None in
      let own = p-is in
      let place : p - 1 ≡ seat = omega (arith, own) in
      let starts : StartsAfter (entry (reply.Refused NoSwap)) s.syncs syncs = subst (λ (k : ℕ). StartsAfter (entry (reply.Refused NoSwap)) s.syncs (slice_set s.syncs k None)) (sym place) (starts-dropped s.syncs seat (entry (reply.Refused NoSwap)) own seated (λ q. refl)) in
      record {
        answers = is-done s.born (reply.Refused NoSwap) syncs tt refuses.due starts (ap (λ (n : Memory). n.world.store.bays) refuses.same);
        slots = λ slot. ap (λ (counts : List ℕ). slice_index counts slot) counted;
        event = fork_rule.refused s m seat child (entry (reply.Refused NoSwap)) NoSwap s.calls syncs (may (reply.Refused NoSwap) refuses.due) refl
            (subst (λ (n : Memory). ActsOnMemory s.memory n (entry (reply.Refused NoSwap))) (sym refuses.same) (same-acts refuses.due))
            (λ _. subst (λ (n : Memory). IsSome (finite.get n.spaces p)) (sym refuses.same) try.alive) (locks (reply.Refused NoSwap)) starts (length-set s.syncs (p - 1) None);
      }

  forks : (r : Reply) → IsForked s.memory m p child r → IsCountedFork s.memory m.world.anon.counts p r → ForkTold s (after_answer (after_fork s m child r) seat p (Fork child) (Done r)) seat p (Fork child) (Done r)
  forks reply.Done is counted = forks-done is counted
  forks (reply.Refused NoSwap) is counted = forks-refused is counted
  forks r is counted = absurd is

-- A reply to a Fork moves neither the history nor the entries, and leaves the seats as many
pub record StaysByFork (s t : KernelState) : Type 0 where
  pub history : t.history ≡ s.history
  pub entries : t.entries ≡ s.entries
  pub seats : length t.syncs ≡ length s.syncs

pub count-starts : (syncs : List (Option SyncStart)) (child : ℕ) (r : Reply) → length (starts_after syncs child r) ≡ length syncs
count-starts syncs child reply.Done = length-set syncs (child - 1) None
count-starts syncs child r = refl

pub stays-by : (s : KernelState) (m : Memory) (child : ℕ) (r : Reply) → StaysByFork s (after_fork s m child r)
stays-by s m child r = record { history = refl; entries = refl; seats = count-starts s.syncs child r }

pub room-kept : (s t : KernelState) (p : ℕ) → StaysByFork s t → length (entries_of s.history p) < room_of s.entries p → length (entries_of t.history p) < room_of t.entries p
room-kept s t p stays room =
    subst (λ (H : List Entry). length (entries_of H p) < room_of t.entries p) (sym stays.history) (subst (λ (entries : List ℕ). length (entries_of s.history p) < room_of entries p) (sym stays.entries) room)

-- THE FORK IS ANSWERED, and concluded
pub fork-told : (s mid t : KernelState) (seat p child : ℕ) (call : Call) (a : Attempt) (r : Reply) → call ≡ Fork child → FitsAt s seat None → CanTry s seat p call → IsWellFormed call → a ≡ Done r → mid ≡ after_fork s mid.memory child r → t ≡ after_answer mid seat p call a
    → IsForked s.memory mid.memory p child r → IsCountedFork s.memory mid.memory.world.anon.counts p r → ModifiesNone s.memory.world mid.memory.world → child ≤ length s.syncs → seat < length mid.syncs → ForkTold s t seat p call a
fork-told s mid t seat p child call a r is fits try formed done rest new forked counted modified placed seated =
    let lt : seat < length s.syncs = let count = (stays-by s mid.memory child r).seats in let mine = ap (λ (x : KernelState). length x.syncs) rest in omega (arith, seated, count, mine) in
    let told = forks s mid.memory seat p child fits (subst (CanTry s seat p) is try) (subst IsWellFormed is formed) modified placed lt r forked counted in
    subst (λ (x : KernelState). ForkTold s x seat p call a) (sym new)
    (subst (λ (x : KernelState). ForkTold s (after_answer x seat p call a) seat p call a) (sym rest)
    (subst (λ (b : Attempt). ForkTold s (after_answer (after_fork s mid.memory child r) seat p call b) seat p call b) (sym done)
    (subst (λ (c : Call). ForkTold s (after_answer (after_fork s mid.memory child r) seat p c (Done r)) seat p c (Done r)) (sym is) told)))

-- WHAT A REPLY LEAVES where the marks and starts are kept
pub born-noted : (marks : List Bool) (child : ℕ) (r : Reply) → r ≡ reply.Done → 1 ≤ child → child ≤ length marks → born_of (slice_set marks (child - 1) true) ≡ born_after (born_of marks) child r
born-noted marks child r is first last = born-marked marks child first last ∙ ap (born_after (born_of marks) child) (sym is)

pub starts-noted : (syncs : List (Option SyncStart)) (child : ℕ) (r : Reply) → r ≡ reply.Done → slice_set syncs (child - 1) None ≡ starts_after syncs child r
starts-noted syncs child r is = ap (starts_after syncs child) (sym is)

pub born-stays : (marks : List Bool) (child : ℕ) (r : Reply) → r ≢ reply.Done → born_of marks ≡ born_after (born_of marks) child r
born-stays marks child reply.Done other = absurd (other refl)
born-stays marks child r other = refl

pub starts-stay : (syncs : List (Option SyncStart)) (child : ℕ) (r : Reply) → r ≢ reply.Done → syncs ≡ starts_after syncs child r
starts-stay syncs child reply.Done other = absurd (other refl)
starts-stay syncs child r other = refl

-- THE CHILD'S PLACES
pub record ChildPlaces (child processes marks seats : ℕ) : Type 0 where
  pub first : 1 ≤ child
  pub space : child ≤ processes
  pub mark : child ≤ marks
  pub seat : child ≤ seats

pub child-places : (parents : List ℕ) (processes marks seats child p : ℕ) → EachHasPlaces parents processes marks seats → process_parent parents child ≡ Some p → ChildPlaces child processes marks seats
child-places parents processes marks seats child p places is =
    let number = child-is parents child p is in
    let last = number.1 in
    let spaces = places.spaces in
    let all = places.marks in
    let each = places.seats in
    record { first = number.0; space = omega (arith, last, spaces); mark = omega (arith, last, all); seat = omega (arith, last, each) }

-- WHAT IS KEPT after a Fork
abbrev KeepsAll : StoreSeen → List (Option ℕ) → Spaces → List ℕ → List ℕ → ℕ → ℕ → ℕ → Type 0
KeepsAll store zeros spaces entries parents processes marks seats = IsSoundKernel store zeros spaces entries seats × EachHasPlaces parents processes marks seats

pub kept-forked : (old new : Memory) (zeros after : List (Option ℕ)) (entries parents : List ℕ) (processes marks seats : ℕ) (processes' marks' seats' : ℕ) → KeepsAll old.world.store zeros old.spaces entries parents processes marks seats → KnowsZeros after new.spaces → new.world.store ≡ old.world.store
    → processes' ≡ processes → marks' ≡ marks → seats' ≡ seats → KeepsAll new.world.store after new.spaces entries parents processes' marks' seats'
kept-forked old new zeros after entries parents processes marks seats processes' marks' seats' k known store all marked seated =
    let places = k.1 in
    let a = places.spaces in
    let b = places.marks in
    let c = places.seats in (
      subst (IsSoundKernel new.world.store after new.spaces entries) (sym seated)
          (kept-moved old new zeros after entries seats k.0 known (ap (λ (s : StoreSeen). s.bays) store) (ap (λ (s : StoreSeen). length s.frames) store)),
      record { spaces = omega (arith, a, all); marks = omega (arith, b, marked); seats = omega (arith, c, seated) },
    )

pub forked-as : (s t : KernelState) (m : Memory) (child pending : ℕ) (r : Reply) (born : set.FinSet nat_cmp) (syncs : List (Option SyncStart)) → s ≡ t → born ≡ born_after s.born child r → pending ≡ s.pending → syncs ≡ starts_after s.syncs child r
    → record s { memory = m; born = born; pending = pending; syncs = syncs } ≡ after_fork t m child r
forked-as s t m child pending r born syncs same marked tails starts =
    (λ i. record s { memory = m; born = marked i; pending = tails i; syncs = starts i }) ∙ ap (λ (x : KernelState). after_fork x m child r) same
