-- A call that is done after memory changed, so that it does the same as if it hadn't.
use Rattle.std.proofs.Common.{◌≡◌, ℕ, ◌%◌, ◌==◌, true, Option, Some, None, refl, sym, ap, ◌∙◌, subst}
use Rattle.std.specs.Option.{option_map_or}
use Rattle.std.specs.FinSet as set
use Rattle.std.specs.Ordering.{nat_cmp}
use Rattle.seg_vn.specs.vm_types.declared.call.Entry.{Entry}
use Rattle.seg_vn.specs.vm_types.declared.call.Call.TheVariants as call
use Rattle.seg_vn.specs.vm_types.declared.call.Reply.TheVariants as reply
use Rattle.seg_vn.specs.vm_types.Prot.{can_write}
use Rattle.seg_vn.specs.page_store.Notes.{Notes}
use Rattle.seg_vn.specs.flat_model.Access.{store}
use Rattle.seg_vn.specs.flat_model.Flat.{Cell, Flat, IsFlat, cell_at, shown}
use Rattle.seg_vn.specs.flat_model.Refusals.{Effect}
use Rattle.seg_vn.specs.flat_model.Shapes.{without_bytes}
use Rattle.seg_vn.specs.flat_model.Step.{IsDue, after_act}
use Rattle.seg_vn.proofs.flat_model.ShapeSteps.{act-same}
use Rattle.seg_vn.specs.flat_model.Words.{Page, page}
use Rattle.seg_vn.proofs.flat_model.Stores.{met_is}
use Rattle.seg_vn.specs.vm_world.CallSteps.{ActsOnMemory, ChangesMemory}
use Rattle.seg_vn.specs.vm_world.FlatMemory.{Memory, flat_memory}
use Rattle.seg_vn.specs.vm_world.NotesFit.{NotesFit}
use Rattle.seg_vn.specs.vm_world.World.{AllTell}
use Rattle.seg_vn.specs.seg_ops.OwnPages.{with_own_shown, with_shown}
use Rattle.seg_vn.proofs.seg_ops.OwnShown.{own_shown_law}

-- The entry does the same after this function: it is due where it is then, and leaves what it does then.
pub record DoesSame (f : Flat → Flat) (e : Entry) (F : Flat) : Type 0 where
  pub due : IsDue (f F) e → IsDue F e
  pub after : after_act (f F) e ≡ after_act F e

-- A CALL IS DONE after a change of memory after which it does what it would have done before.
pub acts-after : (u v w : Memory) (e : Entry) (f : Flat → Flat) → ((born : set.FinSet nat_cmp) (notes : Notes) → NotesFit u.world notes → AllTell u.world notes → IsFlat (flat_memory u born notes) → IsFlat (f (flat_memory u born notes)))
    → ((born : set.FinSet nat_cmp) (notes : Notes) → DoesSame f e (flat_memory u born notes)) → ChangesMemory e.process u v f → ActsOnMemory v w e → ActsOnMemory u w e
acts-after u v w e f whole same a b = record {
  machine = record {
    core = b.machine.core ∙ a.machine.core;
    frames = b.machine.frames ∙ a.machine.frames;
    slots = b.machine.slots ∙ a.machine.slots;
    disks = b.machine.disks ∙ a.machine.disks;
    modes = b.machine.modes ∙ a.machine.modes;
    bays = b.machine.bays ∙ a.machine.bays;
  };
  others = λ q far. b.others q far ∙ a.others q far;
  memory = b.memory;
  notes = λ notes nf. b.notes notes (a.notes notes nf);
  tells = λ notes nf. let one = a.tells notes nf in let two = b.tells notes (a.notes notes nf) in ((λ tell. two.0 (one.0 tell)), (λ tell. one.1 (two.1 tell)));
  flat = λ born notes nf tell is.
      let mid : flat_memory v born notes ≡ f (flat_memory u born notes) = a.flat born notes nf tell is in
      let act = b.flat born notes (a.notes notes nf) ((a.tells notes nf).0 tell) (subst IsFlat (sym mid) (whole born notes nf tell is)) in
      let s = same born notes in
      (s.due (subst (λ (F : Flat). IsDue F e) mid act.0), act.1 ∙ ap (λ (F : Flat). after_act F e) mid ∙ s.after);
  shaped = λ born notes. b.shaped born notes ∙ act-same e (flat_memory v born notes) (f (flat_memory u born notes)) (a.shaped born notes) ∙ ap without_bytes (same born notes).after;
}

-- A STORE does the same once a private cell has the page that it shows as its own, whatever that is.
pub store-own : (F : Flat) (p a n v : ℕ) (c : Cell) → (a % n == 0) ≡ true → cell_at F p (page a) ≡ Some c → can_write c.prot ≡ true → store (with_own_shown F p (page a)) p a n v ≡ store F p a n v
store-own F p a n v c even at allowed = by_shown (shown F c) refl
  where
    by_shown : (o : Option Page) → shown F c ≡ o → store (with_own_shown F p (page a)) p a n v ≡ store F p a n v
    by_shown None none =
        let still : with_own_shown F p (page a) ≡ F = ap (λ (o : Option Cell). option_map_or (λ d. with_shown F p (page a) d (shown F d)) o F) at ∙ ap (with_shown F p (page a) c) none in
        ap (λ (G : Flat). store G p a n v) still
    by_shown (Some new) is = own_shown_law.stores F p a n v c new (met_is F p can_write a n c new (record { aligned = even; cell = at; allowed = allowed; shows = is }))

pub store-same : (F : Flat) (p a n v cleared : ℕ) (c : Cell) → (a % n == 0) ≡ true → cell_at F p (page a) ≡ Some c → can_write c.prot ≡ true
    → DoesSame (λ G. with_own_shown G p (page a)) (record { process = p; call = call.Store a n v; reply = reply.Done; cleared = cleared }) F
store-same F p a n v cleared c even at allowed =
    let same = store-own F p a n v c even at allowed in
    record { due = λ due. sym (ap (λ (e : Effect). e.reply) same) ∙ due; after = ap (λ (e : Effect). e.after) same }
