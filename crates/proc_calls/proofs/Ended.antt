-- A process whose space is empty goes.
use Rattle.seg_vn.proofs.flat_model.Frames.{or_nothing as or-false}
use Rattle.std.proofs.Common.{◌≡◌, ℕ, ◌+◌, ◌-◌, ◌≤◌, Bool, true, false, cond, List, [], ◌∷◌, Option, Some, None, refl, sym, ap, ◌∙◌, inl, inr, subst, arith}
use Rattle.std.specs.Prelude.{All, nat_le, nat_lt, ◌||◌}
use Rattle.std.specs.FinMap as finite
use Rattle.std.proofs.lemmas.Bool.{cases_lt, and_from, le-leb, lt-ltb}
use Rattle.std.proofs.lemmas.List.Elements.{All-nil, All-cons}
use Rattle.seg_vn.specs.addr_space.Space.{Part, piece_at, IsInOrder}
use Rattle.seg_vn.proofs.addr_space.PartLemmas.{none-below, at-here, has-in}
use Rattle.seg_vn.proofs.addr_space.PageLaws.{shows}
use Rattle.seg_vn.specs.flat_model.Mapping.{without_pages}
use Rattle.seg_vn.specs.flat_model.Processes.{without_process}
use Rattle.seg_vn.specs.flat_model.Space.{is_in_range}
use Rattle.seg_vn.specs.flat_model.Step.{is_bit_set}
use Rattle.seg_vn.proofs.flat_model.Ranges.{get-insert_here}
use Rattle.seg_vn.specs.vm_types.declared.call.Call.{Call}
use Rattle.seg_vn.specs.vm_types.declared.call.Call.TheVariants.{Load, Store, Map, Unmap, Protect, Sync, Read, Write, Truncate, Fork, Exit}
use Rattle.seg_vn.specs.vm_types.declared.call.Reply.TheVariants.{Done}
use Rattle.seg_vn.specs.vm_world.FlatMemory.{Memory, flat_memory}
use Rattle.seg_vn.specs.vm_world.MemoryFits.{MemoryFits}
use Rattle.seg_vn.specs.vm_world.Segments.{Spot, Spaces}
use Rattle.seg_vn.specs.vm_world.Serving.{ModifiesNone, TakesFrames, ServesDone}
use Rattle.seg_vn.specs.vm_world.SegmentSteps.{ChangesSegments}
use Rattle.seg_vn.specs.vm_world.SpaceSteps.{without_space}
use Rattle.seg_vn.specs.vm_world.World.{World}
use Rattle.seg_vn.specs.vm_world.declared.segment.Segment.{Segment}
use Rattle.seg_vn.proofs.vm_world.KnownZeros.{known-left}
use Rattle.seg_vn.proofs.vm_world.SegmentSteps.{segment_rule}
use Rattle.seg_vn.proofs.vm_world.Spots.{spot-in}
use Rattle.seg_vn.proofs.vm_world.Unnamed.{process-after-pages}
use Rattle.seg_vn.proofs.vm_world.Shapes.{process-respects}
use Rattle.seg_vn.proofs.seg_ops.Composed.{keeps-same}
use Rattle.proc_calls.specs.Ends.{IsServedExit}
use Rattle.seg_vn.specs.Clears.{ChangesSpace, SpaceFits, StartsAt}

-- each part begins behind page 0
each-behind : (low : ℕ) (parts : List (Part Segment)) → 1 ≤ low → IsInOrder low parts → All (λ (p : Part Segment). 1 ≤ p.first) parts
each-behind low [] some order = All-nil (λ (p : Part Segment). 1 ≤ p.first)
each-behind low (p ∷ ps) some order =
    let behind = order.0.behind in
    All-cons (λ (p : Part Segment). 1 ≤ p.first) p ps (omega (arith, some, behind)) (each-behind (p.first + p.pages) ps (omega (arith, some, behind)) order.1)

-- no part goes across the begin of the first page, nor across the end
pub starts-first : (parts : List (Part Segment)) → IsInOrder 1 parts → StartsAt parts 1
starts-first parts order x is =
    let s = spot-in (λ (p : Part Segment). 1 ≤ p.first) 1 parts 1 x (omega arith) order (each-behind 1 parts (omega arith) order) is in
    let place = s.place in
    let first = s.fits in
    omega (arith, place, first)

pub starts-end : (parts : List (Part Segment)) → IsInOrder 1 parts → StartsAt parts 0x80000
starts-end parts order x is =
    let s = spot-in (λ (p : Part Segment). Unit {0}) 1 parts 0x80000 x (omega arith) order (λ j d lt. tt) is in
    absurd (let high = s.user.1 in omega (arith, high))

-- THE END: what is left of a cleared space is nothing, and the process goes
all-none : (old new : List (Part Segment)) → IsInOrder 1 old → ((q : ℕ) → piece_at new q ≡ cond (is_in_range 1 (0x80000 - 1) q) None (piece_at old q)) → (q : ℕ) → piece_at new q ≡ None
all-none old new order pages q = pages q ∙ elim (cases_lt q 1) [
  | inl low ↦ ap (λ (o : Option Spot). cond (is_in_range 1 (0x80000 - 1) q) None o) (shows old q None (none-below 1 old q order low)) ∙ either (is_in_range 1 (0x80000 - 1) q)
  | inr from ↦ elim (cases_lt q 0x80000) [
    | inl below ↦ ap (λ (b : Bool). cond b None (piece_at old q)) (and_from (nat_le 1 q) (nat_lt q (1 + (0x80000 - 1))) (le-leb 1 q from) (lt-ltb q (1 + (0x80000 - 1)) (omega (arith, below))))
    | inr past ↦ ap (λ (o : Option Spot). cond (is_in_range 1 (0x80000 - 1) q) None o) (beyond (piece_at old q) refl past) ∙ either (is_in_range 1 (0x80000 - 1) q)
  ]
]
  where
    either : (b : Bool) → cond {A = Option Spot} b None None ≡ None
    either true = refl
    either false = refl

    beyond : (o : Option Spot) → piece_at old q ≡ o → 0x80000 ≤ q → o ≡ None
    beyond None e past = refl
    beyond (Some x) e past = absurd (let high = (spot-in (λ (p : Part Segment). Unit {0}) 1 old q x (omega arith) order (λ j d lt. tt) e).user.1 in omega (arith, high, past))

-- parts that have no page are none
no-part : (parts : List (Part Segment)) → IsInOrder 1 parts → ((q : ℕ) → piece_at parts q ≡ None) → parts ≡ []
no-part [] order none = refl
no-part (p ∷ ps) order none =
    let some = order.0.some in
    let here = at-here p ps p.first (has-in p p.first (omega arith) (omega (arith, some))) in
    let y : Spot = (p.piece, p.first - p.first) in
    absurd (let z : Some y ≡ None = sym (shows (p ∷ ps) p.first (Some p) here) ∙ none p.first in cc)

pub ended : (old new : World) (zeros after : List (Option ℕ)) (spaces : Spaces) (p : ℕ) (parts left : List (Part Segment)) → SpaceFits old zeros spaces p parts
    → ChangesSpace p (record { world = old; spaces = spaces }) (record { world = new; spaces = finite.insert spaces p left }) after (λ F. without_pages F p 1 (0x80000 - 1))
    → ((q : ℕ) → piece_at left q ≡ cond (is_in_range 1 (0x80000 - 1) q) None (piece_at parts q))
    → ChangesSpace p (record { world = old; spaces = spaces }) (record { world = new; spaces = finite.remove (finite.insert spaces p left) p }) after (λ F. without_process F p)
ended old new zeros after spaces p parts left fits done pages =
    let m : Memory = record { world = old; spaces = spaces } in
    let n : Memory = record { world = new; spaces = finite.insert spaces p left } in
    let here = get-insert_here spaces p left in
    let none = all-none parts left (fits.memory.segments.ordered p parts fits.here) pages in
    let empty = here ∙ ap (λ (ps : List (Part Segment)). Some ps) (no-part left (done.changes.memory.segments.ordered p left here) none) in
    record {
      changes = segment_rule.same p m (without_space n p) (λ F. without_process (without_pages F p 1 (0x80000 - 1)) p) (λ F. without_process F p)
          (λ born notes. process-after-pages (flat_memory m born notes) p 1 (0x80000 - 1))
          (segment_rule.joined p m n (without_space n p) (λ F. without_pages F p 1 (0x80000 - 1)) (λ F. without_process F p) (process-respects p) done.changes (segment_rule.leave n p done.changes.memory empty));
      known = known-left n p after done.changes.memory empty done.known;
    }

-- no frame is taken
abbrev takes-none : (m : Memory) (pending : ℕ) → MemoryFits m → TakesFrames m m.world pending pending
takes-none m pending fits = record {
  cut = λ name. false;
  step = keeps-same m.world m.spaces fits;
  pends = record { bits = λ f lt. or-false (is_bit_set pending f); below = λ lt. lt };
  took = λ name is. absurd (let z : false ≡ true = is in cc);
}

-- THE CALL IS DONE.
pub exit-serves : (old new : Memory) (pending p : ℕ) → MemoryFits old → ChangesSegments p old new (λ F. without_process F p) → ModifiesNone old.world new.world → ServesDone old new pending pending p Exit Done
exit-serves old new pending p fits done modified = record {
  mid = old.world;
  first = takes-none old pending fits;
  acts = λ cleared. record {
    machine = done.machine;
    others = done.others;
    memory = done.memory;
    notes = done.notes;
    tells = done.tells;
    flat = λ born notes nf tell whole. (refl, (done.flat born notes nf tell whole).0);
    shaped = done.shaped;
  };
  replaced = λ name is. absurd (let z : false ≡ true = is in cc);
  refusal = λ born notes. refl;
  modified = record { modified = λ name frame home is. inr (modified.modified name frame home is); rewritten = λ name frame home is. inr (modified.rewritten name frame home is) };
  clean = λ from name is wants. absurd wants;
}

-- an Exit alone is served
pub only-exit : (call : Call) → IsServedExit call → (call ≡ Exit → ⊥) → ⊥
only-exit Exit served other = other refl
only-exit (Load a n) served other = served
only-exit (Store a n v) served other = served
only-exit (Map place len prot kind object offset) served other = served
only-exit (Unmap a len) served other = served
only-exit (Protect a len prot) served other = served
only-exit (Sync a len) served other = served
only-exit (Read file offset len) served other = served
only-exit (Write file offset line rest) served other = served
only-exit (Truncate file len) served other = served
only-exit (Fork child) served other = served

pub call-serves : (old new : Memory) (zeros : List (Option ℕ)) (pending more p : ℕ) (call : Call) → call ≡ Exit → more ≡ pending → MemoryFits old → ChangesSpace p old new zeros (λ F. without_process F p) → ModifiesNone old.world new.world → ServesDone old new pending more p call Done
call-serves old new zeros pending more p call is same fits done modified =
    subst (λ (n : ℕ). ServesDone old new pending n p call Done) (sym same) (subst (λ (x : Call). ServesDone old new pending pending p x Done) (sym is) (exit-serves old new pending p fits done.changes modified))
