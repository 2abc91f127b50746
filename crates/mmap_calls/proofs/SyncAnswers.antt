-- A Sync that is answered: refused, done, or made to wait.
use Rattle.std.proofs.Common.{◌≡◌, ◌≢◌, ℕ, ◌+◌, ◌<◌, ◌≤◌, Bool, true, false, List, Option, Some, None, refl, sym, ap, ◌∙◌, inr, subst, arith}
use Rattle.std.specs.Prelude.{Result, Ok, Err, IfOk, is_ok}
use Rattle.std.specs.FinMap as finite
use Rattle.std.specs.FinSet as set
use Rattle.std.specs.Ordering.{nat_cmp}
use Rattle.std.proofs.lemmas.Bool.Decides.{nat_tests}
use Rattle.seg_vn.specs.addr_space.Space.{Part}
use Rattle.seg_vn.specs.page_hash.declared.PageName.{PageName}
use Rattle.seg_vn.specs.page_store.Notes.{Notes}
use Rattle.seg_vn.specs.page_store.Transfers.{is_push}
use Rattle.seg_vn.specs.page_store.Waits.{Waits, plan_page}
use Rattle.seg_vn.specs.page_store.declared.plan.Hold.{Hold}
use Rattle.seg_vn.specs.page_store.declared.plan.Plan.{Plan}
use Rattle.seg_vn.specs.vm_types.declared.call.Call.{Call}
use Rattle.seg_vn.specs.vm_types.declared.call.Call.TheVariants.{Sync}
use Rattle.seg_vn.specs.vm_types.declared.call.Errno.{Errno}
use Rattle.seg_vn.specs.vm_types.declared.call.Errno.TheVariants as errno
use Rattle.seg_vn.specs.vm_types.declared.call.Reply.{Reply}
use Rattle.seg_vn.specs.vm_types.declared.call.Reply.TheVariants as reply
use Rattle.seg_vn.specs.flat_model.Flat.{Flat}
use Rattle.seg_vn.specs.flat_model.Mapping.{are_mapped, cells_of, is_range, valid_range}
use Rattle.seg_vn.specs.flat_model.Refusals.{◌>>◌, Effect, check, or_refused}
use Rattle.seg_vn.specs.flat_model.Space.{is_in_range}
use Rattle.seg_vn.specs.flat_model.Step.{IsDue, after_act, effect}
use Rattle.seg_vn.specs.flat_model.Words.{page, pages_in}
use Rattle.seg_vn.specs.flat_model.Shapes.{without_bytes}
use Rattle.seg_vn.specs.vm_world.FlatMemory.{flat_memory}
use Rattle.seg_vn.specs.vm_world.Plans.{IsRefusal, refusal_in}
use Rattle.seg_vn.specs.vm_world.Segments.{Spaces, Spot, spot_at}
use Rattle.seg_vn.specs.vm_world.Serving.{ModifiesNone, ServesBusy, ServesDone, ServesNeed}
use Rattle.seg_vn.specs.vm_world.Wants.{IsCleanPage, WantsClean}
use Rattle.seg_vn.specs.vm_world.Words.{KeepsPages}
use Rattle.seg_vn.specs.vm_world.World.{World, world_table}
use Rattle.seg_vn.specs.vm_world.declared.segment.Segment.{Segment}
use Rattle.seg_vn.specs.vm_world.declared.wants.Wants.{Wants}
use Rattle.seg_vn.specs.vm_world.declared.wants.Wants.TheVariants.{Transfer, Seat}
use Rattle.seg_vn.proofs.seg_ops.StillSteps.{memory_of}
use Rattle.seg_vn.specs.CleanPlaces.{SharesFilePage}
use Rattle.seg_vn.specs.Serves.{Serves}
use Rattle.seg_vn.specs.declared.attempt.Attempt.{Attempt}
use Rattle.seg_vn.proofs.home_pages.Replacements.{none-replaced}
use Rattle.seg_vn.proofs.home_pages.Takes.{takes-none}
use Rattle.mmap_calls.specs.Calls.{ChangesMappings, IsDoneAtOnce, IsMappingAnswer, IsMappingCall, IsSyncAnswer, attempt_wanting}
use Rattle.mmap_calls.specs.Protections.{AreMapped}
use Rattle.mmap_calls.specs.SyncRanges.{AreClean, WantsFirstAt}
use Rattle.mmap_calls.proofs.RangeProtections.{mapped-false, mapped-true}

-- what is said of a range, by its two tests
abbrev tested : Bool → Bool → Result (Unit {0}) Errno
tested range mapped = check range errno.Invalid >> check mapped errno.NotMapped

by-tests : (F : Flat) (p a len : ℕ) (b c : Bool) → is_range a len ≡ b → are_mapped (cells_of F p) (page a) (pages_in len) ≡ c → valid_range F p a len ≡ tested b c
unfolding valid_range
by-tests F p a len b c range mapped = λ i. tested (range i) (mapped i)

-- what a Sync does then
abbrev synced : Flat → Result (Unit {0}) Errno → Effect
synced F r = or_refused F (λ _. record { reply = reply.Synced 0; after = F }) r

effect-by : (F : Flat) (p a len : ℕ) (r : Result (Unit {0}) Errno) → valid_range F p a len ≡ r → effect F p (Sync a len) ≡ synced F r
effect-by F p a len r is = ap (synced F) is

-- A STEP THAT KEEPS ALL PAGES, and makes none modified
module _ (old new : World) (spaces : Spaces) (pending p a len : ℕ) (keeps : KeepsPages old new spaces) (none : ModifiesNone old new) where
  -- it is done with a reply that is due, and changes nothing
  done-same : (r : Reply) → ((cleared : ℕ) (born : set.FinSet nat_cmp) (notes : Notes) → IsDue (flat_memory (memory_of new spaces) born notes) (record { process = p; call = Sync a len; reply = r; cleared = cleared })
      × (flat_memory (memory_of new spaces) born notes ≡ after_act (flat_memory (memory_of new spaces) born notes) (record { process = p; call = Sync a len; reply = r; cleared = cleared })))
      → IsRefusal (memory_of old spaces) p (Sync a len) (refusal_in r) → ((from : ℕ) (name : PageName) → r ≡ reply.Synced from → WantsClean (memory_of new spaces) p (Sync a len) name → IsCleanPage new name)
      → ServesDone (memory_of old spaces) (memory_of new spaces) pending pending p (Sync a len) r
  done-same r acts refusal clean = record {
    mid = new;
    first = takes-none old new spaces pending keeps;
    acts = λ cleared. record {
      machine = record { core = refl; frames = refl; slots = refl; disks = refl; modes = refl; bays = refl };
      others = λ q far. refl;
      memory = keeps.memory;
      notes = λ notes fits. fits;
      tells = λ notes fits. ((λ tell. tell), (λ tell. tell));
      flat = λ born notes fits tell whole. acts cleared born notes;
      shaped = λ born notes. ap without_bytes (acts cleared born notes).1;
    };
    replaced = none-replaced old new;
    refusal = refusal;
    modified = record { modified = λ name frame home is. inr (none.modified name frame home is); rewritten = λ name frame home is. inr (none.rewritten name frame home is) };
    clean = clean;
  }

  -- REFUSED
  pub refused-sync : (e : Errno) → ((w : World) (born : set.FinSet nat_cmp) (notes : Notes) → valid_range (flat_memory (memory_of w spaces) born notes) p a len ≡ Err e) → ServesDone (memory_of old spaces) (memory_of new spaces) pending pending p (Sync a len) (reply.Refused e)
  refused-sync e refused =
      let is = λ (w : World) (born : set.FinSet nat_cmp) (notes : Notes). effect-by (flat_memory (memory_of w spaces) born notes) p a len (Err e) (refused w born notes) in
      done-same (reply.Refused e)
      (λ cleared born notes. (ap (λ (x : Effect). x.reply) (is new born notes), sym (ap (λ (x : Effect). x.after) (is new born notes))))
      (λ born notes. ap (λ (x : Effect). refusal_in x.reply) (is old born notes))
      (λ from name is. absurd (let z : reply.Refused e ≡ reply.Synced from = is in cc))

  -- NOT REFUSED: what a page of the range shows of a file is wanted clean
  module _ (valid : (w : World) (born : set.FinSet nat_cmp) (notes : Notes) → valid_range (flat_memory (memory_of w spaces) born notes) p a len ≡ Ok tt) where
    effect-is : (w : World) (born : set.FinSet nat_cmp) (notes : Notes) → effect (flat_memory (memory_of w spaces) born notes) p (Sync a len) ≡ record { reply = reply.Synced 0; after = flat_memory (memory_of w spaces) born notes }
    effect-is w born notes = effect-by (flat_memory (memory_of w spaces) born notes) p a len (Ok tt) (valid w born notes)

    plain : IsRefusal (memory_of old spaces) p (Sync a len) None
    plain born notes = ap (λ (x : Effect). refusal_in x.reply) (effect-is old born notes)

    wanted : (q : ℕ) (x : Spot) (name : PageName) → page a ≤ q → q < page a + pages_in len → spot_at spaces p q ≡ Some x → SharesFilePage new x name → WantsClean (memory_of new spaces) p (Sync a len) name
    wanted q x name low high here shows = (q, x, (let r : is_in_range (page a) (pages_in len) q ≡ true = grind (arith, nat_tests) in r), record { here = here; some = shows.some }, shows.shared, shows.is, shows.file)

    -- DONE
    pub done-sync : (from : ℕ) → AreClean (memory_of new spaces) p (page a) (page a + pages_in len) → ServesDone (memory_of old spaces) (memory_of new spaces) pending pending p (Sync a len) (reply.Synced from)
    done-sync from clean = done-same (reply.Synced from)
        (λ cleared born notes. (ap (λ (x : Effect). x.reply) (effect-is new born notes), sym (ap (λ (x : Effect). x.after) (effect-is new born notes)))) plain
        (λ began name is wants. clean wants.0 wants.1 name (low-of wants.0 wants.2) (high-of wants.0 wants.2) wants.3.here (record { shared = wants.4; some = wants.3.some; is = wants.5; file = wants.6 }))
      where
        low-of : (q : ℕ) → is_in_range (page a) (pages_in len) q ≡ true → page a ≤ q
        low-of q is = grind (arith, nat_tests)

        high-of : (q : ℕ) → is_in_range (page a) (pages_in len) q ≡ true → q < page a + pages_in len
        high-of q is = grind (arith, nat_tests)

    -- MADE TO WAIT: a push is needed, or somebody is waited for
    pub needs-sync : (push : Plan) (q : ℕ) → page a ≤ q → q < page a + pages_in len → WantsFirstAt (memory_of new spaces) p q (Transfer push) → ServesNeed (memory_of old spaces) (memory_of new spaces) pending pending p (Sync a len) push
    needs-sync push q low high first =
        let need = first.wants.first in
        record {
          first = takes-none old new spaces pending keeps;
          replaced = none-replaced old new;
          spaces = refl;
          runs = record {
            may = need.may (p, Sync a len) (wanted q first.spot first.wants.name low high first.here first.wants.shows);
            ready = subst (λ (k : Plan). Waits new.store (plan_page k) (world_table new (plan_page k)).disk None) (sym need.is) need.ready;
            frame = λ read. absurd (let z : true ≡ false = sym (ap is_push need.is) ∙ read in cc);
          };
          fault = λ born notes. ap is_ok (valid new born notes);
          refusal = plain;
          wanted = λ name frame never. absurd never;
          files = λ f is. absurd (let z : ◌≡◌ {A = Option ℕ} None (Some f) = is in cc);
          modified = none;
        }

    pub waits-sync : (calls : List (Option ℕ)) (hold : Hold) (q : ℕ) → page a ≤ q → q < page a + pages_in len → WantsFirstAt (memory_of new spaces) p q (Seat hold) → ServesBusy (memory_of old spaces) (memory_of new spaces) pending pending calls p (Sync a len) hold
    waits-sync calls hold q low high first = record {
      first = takes-none old new spaces pending keeps;
      replaced = none-replaced old new;
      spaces = refl;
      holds = first.wants.first calls (p, Sync a len) (wanted q first.spot first.wants.name low high first.here first.wants.shows);
      refusal = λ no_file. plain;
      modified = none;
    }

    pub first-sync : (calls : List (Option ℕ)) (want : Wants) (q : ℕ) → page a ≤ q → q < page a + pages_in len → WantsFirstAt (memory_of new spaces) p q want → Serves (memory_of old spaces) (memory_of new spaces) pending pending calls p (Sync a len) (attempt_wanting want)
    first-sync calls (Transfer push) q low high first = needs-sync push q low high first
    first-sync calls (Seat hold) q low high first = waits-sync calls hold q low high first

-- WHICH IT IS, by the parts of the process
module _ (spaces : Spaces) (p a len : ℕ) (parts : List (Part Segment)) (here : finite.get spaces p ≡ Some parts) where
  pub range-invalid : is_range a len ≡ false → (w : World) (born : set.FinSet nat_cmp) (notes : Notes) → valid_range (flat_memory (memory_of w spaces) born notes) p a len ≡ Err errno.Invalid
  range-invalid not w born notes = by-tests (flat_memory (memory_of w spaces) born notes) p a len false _ not refl

  pub range-unmapped : is_range a len ≡ true → (AreMapped parts (page a) (page a + pages_in len) → ⊥) → (w : World) (born : set.FinSet nat_cmp) (notes : Notes) → valid_range (flat_memory (memory_of w spaces) born notes) p a len ≡ Err errno.NotMapped
  range-unmapped range not w born notes = by-tests (flat_memory (memory_of w spaces) born notes) p a len true false range (mapped-false (memory_of w spaces) p parts here born notes (page a) (pages_in len) not)

  pub range-valid : is_range a len ≡ true → AreMapped parts (page a) (page a + pages_in len) → (w : World) (born : set.FinSet nat_cmp) (notes : Notes) → valid_range (flat_memory (memory_of w spaces) born notes) p a len ≡ Ok tt
  range-valid range all w born notes = by-tests (flat_memory (memory_of w spaces) born notes) p a len true true range (mapped-true (memory_of w spaces) p parts here born notes (page a) (pages_in len) all)

pub wanting-answer : (from : ℕ) (want : Wants) → IsSyncAnswer from (attempt_wanting want)
wanting-answer from (Transfer push) = tt
wanting-answer from (Seat hold) = tt

-- THE OTHER mapping calls change mappings, and are done at once
pub no-sync : (call : Call) → IsMappingCall call → ((a len : ℕ) → call ≢ Sync a len) → ChangesMappings call
no-sync (Sync a len) is not = absurd (not a len refl)
no-sync call is not = is

pub at-once-answer : {E : Type 0} (call : Call) (from : ℕ) (r : Result Attempt E) → ((a len : ℕ) → call ≢ Sync a len) → IfOk r IsDoneAtOnce → IfOk r (IsMappingAnswer call from)
at-once-answer call from (Err e) not h = h
at-once-answer (Sync a len) from (Ok attempt) not h = absurd (not a len refl)
at-once-answer call from (Ok attempt) not h = h
