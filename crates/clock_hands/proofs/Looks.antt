-- The back hand, and the steps of the hands as steps of the world.
use Rattle.seg_ops.proofs.Fills.{held-by as held-name}
use Rattle.std.proofs.Common.{◌≡◌, ◌≢◌, ℕ, ◌<◌, Bool, true, false, cond, List, [], ◌∷◌, ◌++◌, length, Option, Some, None, refl, sym, ap, ◌∙◌, inl, inr, subst}
use Rattle.std.specs.Prelude.{◌↔◌, ◌⊎◌, is_none, is_some, slice_index_or, IsSome, IfSome}
use Rattle.std.proofs.lemmas.Bool.{eq-eqb, eqb-true}
use Rattle.seg_ops.specs.block_device.DiskSeen.{DiskSeen}
use Rattle.seg_ops.specs.core_arena.Bytes.{bytes_at}
use Rattle.seg_ops.specs.hat_layer.Pool.{frame_of, leads, drop_lead, drop_frame}
use Rattle.seg_ops.specs.hat_layer.declared.translation.Translation.{Translation}
use Rattle.seg_ops.specs.page_clock.Clock.{next_clock}
use Rattle.seg_ops.specs.page_hash.Names.{find}
use Rattle.seg_ops.specs.page_hash.declared.PageName.{PageName}
use Rattle.seg_ops.specs.page_lock.Rows.{row_at}
use Rattle.seg_ops.specs.page_lock.declared.Row.{Row}
use Rattle.seg_ops.specs.page_store.Bays.{BaySeen, home, out, bay_at}
use Rattle.seg_ops.specs.page_store.Laws.{StaysInPlace}
use Rattle.seg_ops.specs.page_store.Moves.{is_only}
use Rattle.seg_ops.specs.page_store.Seen.{StoreSeen, IsSoundStore, IsListedFrame, residence, residence_in, residence_of}
use Rattle.seg_ops.specs.page_store.Table.{PlaceTable}
use Rattle.seg_ops.specs.page_store.Waits.{Waits, holder_of, holder_in}
use Rattle.seg_ops.specs.page_store.declared.plan.Hold.{Hold}
use Rattle.seg_ops.specs.page_store.declared.plan.Hold.TheVariants as hold
use Rattle.seg_ops.specs.page_store.declared.plan.Plan.{Plan}
use Rattle.seg_ops.specs.page_store.declared.plan.Plan.TheVariants as plan
use Rattle.seg_ops.specs.page_store.declared.residence.Residence.TheVariants.{Home}
use Rattle.seg_ops.specs.Plans.{IsAsked}
use Rattle.seg_ops.specs.vm_world.Words.{KeepsPages}
use Rattle.seg_ops.specs.vm_world.declared.wants.Wants.{Wants}
use Rattle.seg_ops.specs.vm_world.declared.wants.Wants.TheVariants.{Transfer, Seat}
use Rattle.seg_ops.proofs.Places.{index-map}
use Rattle.seg_ops.proofs.StillSteps.{with_tables, memory_of, same-row, step-keeps, translation-kept}
use Rattle.seg_ops.specs.vm_world.MemoryFits.{MemoryFits}
use Rattle.seg_ops.specs.vm_world.Plans.{CanRunPlan}
use Rattle.seg_ops.specs.vm_world.Segments.{Spaces}
use Rattle.seg_ops.specs.vm_world.TranslationsFit.{IsModified}
use Rattle.seg_ops.specs.vm_world.World.{World, world_table, core_of}
use Rattle.clock_hands.specs.Clock.{IsReferenced, IsToPush, IsPushOf, SameButBits, KeepsButBits, TouchesFrame, BackLooks, GathersUse, plan_in}
use Rattle.clock_hands.proofs.Uses.{touches-none, touches-then}

-- A frame on a list has no modified page.
listed-clean : (w : World) (spaces : Spaces) (frame : ℕ) → MemoryFits (memory_of w spaces) → IsListedFrame w.store frame → IsModified w.store w.hat.places frame → ⊥
listed-clean w spaces frame fits listed m = elim m [
  | inl set ↦ (let z : true ≡ false = sym set ∙ fits.frames.unmodified frame listed in cc)
  | inr x ↦ (fits.translations x.place x.translation x.there).unlisted (subst (λ (k : ℕ). IsListedFrame w.store k) (sym x.leads) listed)
]

-- THE PAGE IS LOCKED, or on a list: nothing is done.
pub looks-away : (w : World) (spaces : Spaces) (frame : ℕ) → MemoryFits (memory_of w spaces) → ((row_at w.store.rows frame).holder ≢ None) ⊎ IsListedFrame w.store frame → BackLooks w w frame None
looks-away w spaces frame fits why = record {
  touches = touches-none w frame;
  released = λ u. absurd (elim why [ inl locked ↦ locked u.unlocked | inr listed ↦ u.unlisted listed ]);
  left = λ n. record { cached = refl; modified = ((λ m. m), (λ m. m)); referenced = ((λ m. m), (λ m. m)); loaded = λ place some. some };
  push = λ p. ((λ e. absurd (let z : ◌≡◌ {A = Option Plan} None (Some p) = e in cc)), (λ q. absurd (never p q)));
}
  where
    never : (p : Plan) → IsPushOf w frame p → ⊥
    never (plan.Push name) q = elim why [ inl locked ↦ locked q.unlocked | inr listed ↦ listed-clean w spaces frame fits listed q.modified ]
    never (plan.Read name) q = q

not-referenced : (w u : World) (frame : ℕ) → GathersUse w u frame → (row_at u.store.rows frame).referenced ≡ false → IsReferenced w.store w.hat.places frame → ⊥
not-referenced w u frame g clear r = elim (g.referenced.1 r) [
  | inl set ↦ (let z : true ≡ false = sym set ∙ clear in cc)
  | inr x ↦ (let z : true ≡ false = sym x.referenced ∙ (g.clear x.place x.translation x.there x.leads).0 in cc)
]

not-written : (w u : World) (frame : ℕ) → GathersUse w u frame → (row_at u.store.rows frame).modified ≡ false → IsModified w.store w.hat.places frame → ⊥
not-written w u frame g clear m = elim (g.modified.1 m) [
  | inl set ↦ (let z : true ≡ false = sym set ∙ clear in cc)
  | inr x ↦ (let z : true ≡ false = sym x.modified ∙ (g.clear x.place x.translation x.there x.leads).1 in cc)
]

-- a frame that nobody holds is home
home-by : (b : Option (List ℕ)) (h : Option ℕ) → is_none b ≡ is_some h → h ≡ None → IsSome b
home-by (Some x) h away none = refl
home-by None None away none = absurd (let z : true ≡ false = away in cc)
home-by None (Some s) away none = absurd (let z : ◌≡◌ {A = Option ℕ} (Some s) None = none in cc)

pub is-home : (s : StoreSeen) (frame : ℕ) → IsSoundStore s → frame < length s.frames → (row_at s.rows frame).holder ≡ None → IsSome (bytes_at s.frames frame)
is-home s frame sound lt free = home-by (bytes_at s.frames frame) (row_at s.rows frame).holder (sound.each frame lt).away free

-- one place after the frame's translations were dropped
drop-keeps : (o : Option Translation) (b : Bool) → KeepsButBits o (cond b None o)
drop-keeps None true = tt
drop-keeps None false = tt
drop-keeps (Some t) true = tt
drop-keeps (Some t) false = (refl, refl, refl, refl)

drop-other : (frame : ℕ) (o : Option Translation) (b : Bool) → leads frame o ≡ b → frame_of o ≢ Some frame → cond b None o ≡ o
drop-other frame None true e ne = refl
drop-other frame o false e ne = refl
drop-other frame (Some t) true e ne = absurd (ne (ap (λ (k : ℕ). Some k) (eqb-true t.frame frame e)))

drop-none : (frame : ℕ) (o : Option Translation) (b : Bool) → leads frame o ≡ b → frame_of (cond b None o) ≢ Some frame
drop-none frame o true e h = let z : ◌≡◌ {A = Option ℕ} None (Some frame) = h in cc
drop-none frame None false e h = let z : ◌≡◌ {A = Option ℕ} None (Some frame) = h in cc
drop-none frame (Some t) false e h = let to : t.frame ≡ frame = (let z : ◌≡◌ {A = Option ℕ} (Some t.frame) (Some frame) = h in cc) in let z : true ≡ false = sym (eq-eqb t.frame frame to) ∙ e in cc

-- THE PAGE IS UNUSED: it is released.
pub looks-unused : (w u v : World) (spaces : Spaces) (frame : ℕ) → MemoryFits (memory_of w spaces) → frame < length w.store.frames → GathersUse w u frame → ¬ IsListedFrame w.store frame → (row_at w.store.rows frame).holder ≡ None
    → (row_at u.store.rows frame).referenced ≡ false → (row_at u.store.rows frame).modified ≡ false → v.store ≡ record u.store { cached = u.store.cached ++ frame ∷ [] } → v.hat.places ≡ drop_frame frame u.hat.places
    → v ≡ record u { store = v.store; hat = v.hat } → BackLooks w v frame None
looks-unused w u v spaces frame fits lt g unlisted free idle clean store places rest =
    let at : (place : ℕ) → slice_index_or v.hat.places place None ≡ drop_lead frame (slice_index_or u.hat.places place None) = λ place. ap (λ (ps : List (Option Translation)). slice_index_or ps place None) places ∙ index-map (drop_lead frame) u.hat.places place refl in
    let row : (k : ℕ) → row_at v.store.rows k ≡ row_at u.store.rows k = λ k. ap (λ (s : StoreSeen). row_at s.rows k) store in
    let step : TouchesFrame u v frame = record {
      store = subst (λ (s : StoreSeen). s ≡ record u.store { rows = s.rows; cached = s.cached }) (sym store) refl;
      row = subst (λ (r : Row). SameButBits (row_at u.store.rows frame) r) (sym (row frame)) (record { holder = refl; keeps = refl; gone = refl; snapshot = refl; source = refl });
      rewritten = (
        (λ m. elim m [
          | inl r ↦ inl (sym (ap (λ (x : Row). x.rewritten) (row frame)) ∙ r)
          | inr x ↦ absurd (drop-none frame (slice_index_or u.hat.places x.place None) (leads frame (slice_index_or u.hat.places x.place None)) refl (ap frame_of (sym (at x.place) ∙ x.there) ∙ ap (λ (k : ℕ). Some k) x.leads))
        ]),
        (λ m. elim m [
          | inl r ↦ inl (ap (λ (x : Row). x.rewritten) (row frame) ∙ r)
          | inr x ↦ absurd (let z : true ≡ false = sym x.modified ∙ (g.clear x.place x.translation x.there x.leads).1 in cc)
        ]),
      );
      others = λ k ne. row k;
      places = λ place. subst (λ (o : Option Translation). KeepsButBits (slice_index_or u.hat.places place None) o) (sym (at place)) (drop-keeps (slice_index_or u.hat.places place None) (leads frame (slice_index_or u.hat.places place None)));
      leads = λ place ne. at place ∙ drop-other frame (slice_index_or u.hat.places place None) (leads frame (slice_index_or u.hat.places place None)) refl ne;
      tables = rest;
    } in
    record {
      touches = touches-then w u v frame g.touches step;
      released = λ x. record {
        cached = ap (λ (s : StoreSeen). s.cached) store ∙ ap (λ (c : List ℕ). c ++ frame ∷ []) g.cached;
        unloaded = λ place e. drop-none frame (slice_index_or u.hat.places place None) (leads frame (slice_index_or u.hat.places place None)) refl (sym (ap frame_of (at place)) ∙ e);
      };
      left = λ n. absurd (n (record {
        home = is-home w.store frame fits.frames.sound lt free;
        unlisted = unlisted;
        unlocked = free;
        unkept = fits.frames.unkept frame;
        unreferenced = not-referenced w u frame g idle;
        unmodified = not-written w u frame g clean;
      }));
      push = λ p. ((λ e. absurd (let z : ◌≡◌ {A = Option Plan} None (Some p) = e in cc)), (λ q. absurd (never p q)));
    }
  where
    never : (p : Plan) → IsPushOf w frame p → ⊥
    never (plan.Push name) q = not-written w u frame g clean q.modified
    never (plan.Read name) q = q

pub home-again : (s : StoreSeen) (n : PageName) (frame : ℕ) → find s.names n ≡ Some frame → IsSome (bytes_at s.frames frame) → residence s n ≡ Home frame
home-again s n frame found there = ap (λ (o : Option ℕ). residence_in o s) found ∙ by_bytes (bytes_at s.frames frame) there
  where
    by_bytes : (b : Option (List ℕ)) → IsSome b → residence_of b (row_at s.rows frame).holder frame ≡ Home frame
    by_bytes (Some x) h = refl
    by_bytes None h = absurd (let z : false ≡ true = h in cc)

-- THE PAGE IS TO BE PUSHED, where its disk is home.
pub looks-modified : (w u : World) (spaces : Spaces) (frame : ℕ) (name : PageName) (asked : Wants) → MemoryFits (memory_of w spaces) → frame < length w.store.frames → GathersUse w u frame → (row_at w.store.rows frame).holder ≡ None
    → (row_at u.store.rows frame).referenced ≡ false → (row_at u.store.rows frame).modified ≡ true → find w.store.names name ≡ Some frame → world_table u ≡ world_table w → u.store.bays ≡ w.store.bays → u.store.names ≡ w.store.names
    → IsAsked u (plan.Push name) asked → BackLooks w u frame (plan_in asked)
looks-modified w u spaces frame name asked fits lt g free idle dirty found table bays names is = record {
  touches = g.touches;
  released = λ x. absurd (x.unmodified (g.modified.0 (inl dirty)));
  left = λ n. record { cached = g.cached; modified = g.modified; referenced = g.referenced; loaded = g.loaded };
  push = by_wants asked is;
}
  where
    here : residence w.store name ≡ Home frame
    here = home-again w.store name frame found (is-home w.store frame fits.frames.sound lt free)

    only-name : (n : PageName) → residence w.store n ≡ Home frame → n ≡ name
    only-name n at = let z : ◌≡◌ {A = Option PageName} (Some n) (Some name) = sym (held-name w.store n frame at) ∙ held-name w.store name frame here in cc

    to-push : ((d : DiskSeen) × (bay_at u.store.bays (world_table u name).disk ≡ home d)) → IsToPush w frame name
    to-push d = record {
      holds = here;
      unlocked = free;
      unreferenced = not-referenced w u frame g idle;
      modified = g.modified.0 (inl dirty);
      disk = (d.0, ap (λ (b : List BaySeen). bay_at b (world_table w name).disk) (sym bays) ∙ ap (λ (t : PlaceTable). bay_at u.store.bays (t name).disk) (sym table) ∙ d.1);
    }

    unheld : holder_of u.store name ≡ None
    unheld = ap (λ (o : Option ℕ). holder_in o u.store) (ap (λ (ns : List (Option PageName)). find ns name) names ∙ found) ∙ g.touches.row.holder ∙ free

    refused : (h : Hold) → Waits u.store name (world_table u name).disk (Some h) → (d : DiskSeen) → bay_at w.store.bays (world_table w name).disk ≡ home d → ⊥
    refused (hold.Page t) waits d at = let z : ◌≡◌ {A = Option ℕ} None (Some t) = sym unheld ∙ waits in cc
    refused (hold.Disk t) waits d at = let z : home d ≡ out t = sym at ∙ ap (λ (b : List BaySeen). bay_at b (world_table w name).disk) (sym bays) ∙ ap (λ (x : PlaceTable). bay_at u.store.bays (x name).disk) (sym table) ∙ waits in cc
    refused (hold.File t) waits d at = waits

    none : (p : Plan) → ((d : DiskSeen) → bay_at w.store.bays (world_table w name).disk ≡ home d → ⊥) → IsPushOf w frame p → ⊥
    none (plan.Push n) no_disk q = no_disk q.disk.0 (ap (λ (x : PageName). bay_at w.store.bays (world_table w x).disk) (sym (only-name n q.holds)) ∙ q.disk.1)
    none (plan.Read n) no_disk q = q

    some : (q p : Plan) → q ≡ plan.Push name → ((d : DiskSeen) × (bay_at u.store.bays (world_table u name).disk ≡ home d)) → (Some q ≡ Some p) ↔ IsPushOf w frame p
    some q (plan.Push n) e d = (
      (λ h. subst (λ (x : PageName). IsToPush w frame x) (let z : ◌≡◌ {A = Option Plan} (Some (plan.Push name)) (Some (plan.Push n)) = ap (λ (x : Plan). Some x) (sym e) ∙ h in cc) (to-push d)),
      (λ x. ap (λ (y : Plan). Some y) (e ∙ ap plan.Push (sym (only-name n x.holds)))),
    )
    some q (plan.Read n) e d = ((λ h. absurd (let z : ◌≡◌ {A = Option Plan} (Some (plan.Push name)) (Some (plan.Read n)) = ap (λ (x : Plan). Some x) (sym e) ∙ h in cc)), (λ x. absurd x))

    by_wants : (a : Wants) → IsAsked u (plan.Push name) a → (p : Plan) → (plan_in a ≡ Some p) ↔ IsPushOf w frame p
    by_wants (Transfer q) h p = some q p h.0 h.1.0
    by_wants (Seat x) h p = ((λ e. absurd (let z : ◌≡◌ {A = Option Plan} None (Some p) = e in cc)), (λ q. absurd (none p (refused x h) q)))

-- what is answered can run
pub looks-runs : (u : World) (spaces : Spaces) (frame : ℕ) (name : PageName) (asked : Wants) → residence u.store name ≡ Home frame → (row_at u.store.rows frame).modified ≡ true → IsAsked u (plan.Push name) asked
    → IfSome (plan_in asked) (CanRunPlan (memory_of u spaces) None)
looks-runs u spaces frame name (Transfer q) here dirty h = subst (λ (p : Plan). CanRunPlan (memory_of u spaces) None p) (sym h.0) (record {
  may = record { frame = frame; home = here; modified = inl dirty };
  ready = h.1;
  frame = λ e. absurd (let z : true ≡ false = e in cc);
})
looks-runs u spaces frame name (Seat x) here dirty h = tt

-- STEPS OF THE WORLD. The hands move on.
pub hand-keeps : (w : World) (spaces : Spaces) (new : StoreSeen) → MemoryFits (memory_of w spaces) → new ≡ record w.store { clock = next_clock w.store.clock } → StaysInPlace w.store new (is_only None) → KeepsPages w (with_tables w new w.hat) spaces
hand-keeps w spaces new f is laws =
    step-keeps w spaces new w.hat f (record {
      sound = laws.sound;
      core = ap core_of is;
      frames = ap (λ (s : StoreSeen). length s.frames) is;
      names = ap (λ (s : StoreSeen). s.names) is;
      bays = ap (λ (s : StoreSeen). s.bays) is;
      rows = λ k. same-row (row_at w.store.rows k) (row_at new.rows k) (ap (λ (s : StoreSeen). row_at s.rows k) is);
      unmodified = λ k l. ap (λ (s : StoreSeen). (row_at s.rows k).modified) is ∙ f.frames.unmodified k (subst (λ (s : StoreSeen). IsListedFrame s k) is l);
      residence = laws.residence;
      modified = λ k m. elim m [ inl r ↦ inl (ap (λ (s : StoreSeen). (row_at s.rows k).modified) is ∙ r) | inr x ↦ inr x ];
      written = λ k x. inr x;
      bytes = λ k. inl (ap (λ (s : StoreSeen). bytes_at s.frames k) is);
    }) refl f.pool.single
    (λ place t at. translation-kept w.store new w.anon w.maps spaces t laws.residence (λ l. subst (λ (s : StoreSeen). IsListedFrame s t.frame) is l) (f.translations place t at))
    (λ notes nf. laws.values notes (world_table w) nf.stored)
