-- Calls that are done at once, with a plain reply.
use Rattle.seg_vn.proofs.flat_model.Frames.{or_nothing as or-false}
use Rattle.std.proofs.Common.{◌≡◌, ℕ, true, false, List, Option, refl, sym, ap, ◌∙◌, inr, subst}
use Rattle.std.specs.FinMap as finite
use Rattle.std.specs.FinSet as set
use Rattle.std.specs.Ordering.{nat_cmp}
use Rattle.seg_vn.specs.addr_space.Space.{Part}
use Rattle.seg_vn.specs.page_store.Notes.{Notes}
use Rattle.seg_vn.specs.vm_types.declared.call.Call.{Call}
use Rattle.seg_vn.specs.vm_types.declared.call.Errno.{Errno}
use Rattle.seg_vn.specs.vm_types.declared.call.Reply.{Reply}
use Rattle.seg_vn.specs.vm_types.declared.call.Reply.TheVariants as reply
use Rattle.seg_vn.specs.flat_model.Flat.{Flat}
use Rattle.seg_vn.specs.flat_model.Refusals.{Effect}
use Rattle.seg_vn.specs.flat_model.Step.{effect, is_bit_set, IsDue, after_act}
use Rattle.seg_vn.specs.flat_model.Shapes.{without_bytes}
use Rattle.seg_vn.specs.vm_world.FlatMemory.{Memory, flat_memory}
use Rattle.seg_vn.specs.vm_world.MemoryFits.{MemoryFits}
use Rattle.seg_vn.specs.vm_world.Plans.{refusal_in}
use Rattle.seg_vn.specs.vm_world.Serving.{ModifiesNone, TakesFrames, ServesDone}
use Rattle.seg_vn.specs.vm_world.declared.segment.Segment.{Segment}
use Rattle.seg_vn.proofs.vm_world.SegmentSteps.{segment_rule}
use Rattle.seg_vn.proofs.seg_ops.Composed.{keeps-same}
use Rattle.seg_vn.proofs.seg_ops.Modified.{modifies-same}
use Rattle.seg_vn.proofs.seg_ops.NewlyModified.{only-of}
use Rattle.seg_vn.specs.Clears.{ChangesSpace, SpaceFits}
use Rattle.seg_vn.specs.Serves.{IsPlainReply}
use Rattle.mmap_calls.specs.Answers.{AnswersAtOnce}
use Rattle.mmap_calls.proofs.CutPlaces.{same-space}

-- what is due of a plain reply
acts : (F G : Flat) (p : ℕ) (call : Call) (r : Reply) (cleared : ℕ) → IsPlainReply r → (effect F p call).reply ≡ r → G ≡ (effect F p call).after
    → IsDue F (record { process = p; call = call; reply = r; cleared = cleared }) × (G ≡ after_act F (record { process = p; call = call; reply = r; cleared = cleared }))
acts F G p call (reply.Io disk before after) cleared own due after_is = absurd own
acts F G p call (reply.Synced from) cleared own due after_is = absurd own
acts F G p call reply.Done cleared own due after_is = (due, after_is)
acts F G p call (reply.Word n) cleared own due after_is = (due, after_is)
acts F G p call (reply.Mapped n) cleared own due after_is = (due, after_is)
acts F G p call (reply.Bytes l) cleared own due after_is = (due, after_is)
acts F G p call (reply.Signal x) cleared own due after_is = (due, after_is)
acts F G p call (reply.Refused x) cleared own due after_is = (due, after_is)

-- and what it leaves
plain-after : (F : Flat) (p : ℕ) (call : Call) (r : Reply) (cleared : ℕ) → IsPlainReply r → (effect F p call).after ≡ after_act F (record { process = p; call = call; reply = r; cleared = cleared })
plain-after F p call (reply.Io disk before after) cleared own = absurd own
plain-after F p call (reply.Synced from) cleared own = absurd own
plain-after F p call r cleared own = refl

-- no frame is taken
abbrev takes-none : (m : Memory) (pending : ℕ) → MemoryFits m → TakesFrames m m.world pending pending
takes-none m pending fits = record {
  cut = λ name. false;
  step = keeps-same m.world m.spaces fits;
  pends = record { bits = λ f lt. or-false (is_bit_set pending f); below = λ lt. lt };
  took = λ name is. absurd (let z : false ≡ true = is in cc);
}

-- THE CALL IS SERVED.
pub at-once-serves : (old new : Memory) (pending more p : ℕ) (call : Call) (r : Reply) → more ≡ pending → MemoryFits old → AnswersAtOnce p old new call r → ServesDone old new pending more p call r
at-once-serves old new pending more p call r same fits done =
    subst (λ (n : ℕ). ServesDone old new pending n p call r) (sym same) (record {
      mid = old.world;
      first = takes-none old pending fits;
      acts = λ cleared. record {
        machine = done.changes.machine;
        others = done.changes.others;
        memory = done.changes.memory;
        notes = done.changes.notes;
        tells = done.changes.tells;
        flat = λ born notes nf tell whole.
            acts (flat_memory old born notes) (flat_memory new born notes) p call r cleared done.plain (done.due born notes) (done.changes.flat born notes nf tell whole).0;
        shaped = λ born notes. done.changes.shaped born notes ∙ ap without_bytes (plain-after (flat_memory old born notes) p call r cleared done.plain);
      };
      replaced = λ name is. absurd (let z : false ≡ true = is in cc);
      refusal = λ born notes. ap refusal_in (done.due born notes);
      modified = only-of _ old.world new.world done.modified;
      clean = λ from name is wants. absurd (subst IsPlainReply is done.plain);
    })

-- A CALL THAT IS REFUSED, and one that is done, told by what is due.
pub refused-at-once : (m : Memory) (p : ℕ) (parts : List (Part Segment)) (zeros : List (Option ℕ)) (call : Call) (e : Errno) → SpaceFits m.world zeros m.spaces p parts
    → ((born : set.FinSet nat_cmp) (notes : Notes) → effect (flat_memory m born notes) p call ≡ record { reply = reply.Refused e; after = flat_memory m born notes }) → AnswersAtOnce p m (record { world = m.world; spaces = finite.insert m.spaces p parts }) call (reply.Refused e)
refused-at-once m p parts zeros call e fits due = record {
  changes = segment_rule.same p m (record { world = m.world; spaces = finite.insert m.spaces p parts }) (λ F. F) (λ F. (effect F p call).after) (λ born notes. sym (ap (λ (x : Effect). x.after) (due born notes))) (same-space m.world zeros m.spaces p parts fits).changes;
  plain = tt;
  due = λ born notes. ap (λ (x : Effect). x.reply) (due born notes);
  modified = modifies-same m.world;
}

pub done-at-once : (m new : Memory) (p : ℕ) (call : Call) (f : Flat → Flat) (zeros : List (Option ℕ)) → ((born : set.FinSet nat_cmp) (notes : Notes) → effect (flat_memory m born notes) p call ≡ record { reply = reply.Done; after = f (flat_memory m born notes) })
    → ChangesSpace p m new zeros f → ModifiesNone m.world new.world → AnswersAtOnce p m new call reply.Done
done-at-once m new p call f zeros due done modified = record {
  changes = segment_rule.same p m new f (λ F. (effect F p call).after) (λ born notes. sym (ap (λ (x : Effect). x.after) (due born notes))) done.changes;
  plain = tt;
  due = λ born notes. ap (λ (x : Effect). x.reply) (due born notes);
  modified = modified;
}
