-- WHAT A TRANSFER THAT WENT WELL leaves of the modified pages, where all frames were home before it began: a push one fewer, a read none more.
use Rattle.std.proofs.Common.{◌≡◌, ◌≢◌, ℕ, zero, suc, ◌<◌, ◌==◌, Bool, true, false, List, [], ◌∷◌, length, Option, Some, None, refl, sym, ap, ◌∙◌, ◌⊎◌, inl, inr, subst, arith}
use Rattle.std.specs.Option.{option_or}
use Rattle.std.specs.Prelude.{is_some, is_none, slice_index_or, unwrap_or, IsSome, ◌||◌, ◌&&◌}
use Rattle.std.proofs.lemmas.Bool.{cases_eq}
use Rattle.std.proofs.lemmas.Bool.Decides.{eqb_tells}
use Rattle.fault_entry.specs.core_arena.Bytes.{bytes_at}
use Rattle.fault_entry.specs.hat_layer.Pool.{HatSeen, bits_of, change_frame, change_lead, drop_frame, leads, with_clear_bits}
use Rattle.fault_entry.specs.hat_layer.declared.translation.Translation.{Translation}
use Rattle.fault_entry.specs.page_hash.Names.{find, name_at}
use Rattle.fault_entry.specs.page_hash.declared.PageName.{PageName}
use Rattle.fault_entry.specs.page_lock.Rows.{row_at}
use Rattle.fault_entry.specs.page_lock.declared.Row.{Row}
use Rattle.fault_entry.specs.page_store.Flight.{FlightSeen, done}
use Rattle.fault_entry.specs.page_store.Moves.{family, family_of, is_only}
use Rattle.fault_entry.specs.page_store.Seen.{StoreSeen, IsSoundStore, own_frame, residence}
use Rattle.fault_entry.specs.page_store.Steps.{at_frame, next_frame}
use Rattle.fault_entry.specs.page_store.Transfers.{BeginsTransfer, EndsTransfer, frame_out, is_touched_by}
use Rattle.fault_entry.specs.page_store.declared.plan.Plan.TheVariants.{Push, Read}
use Rattle.fault_entry.specs.page_store.declared.residence.Residence.TheVariants.{Home}
use Rattle.fault_entry.specs.seg_ops.Flights.{places_pushed, store_synced}
use Rattle.fault_entry.specs.seg_ops.Steps.{with_bits_gathered}
use Rattle.fault_entry.proofs.seg_ops.Gathers.{row-gathered}
use Rattle.fault_entry.proofs.seg_ops.Places.{changed-from, each-drop_frame, index-map}
use Rattle.fault_entry.proofs.seg_ops.Syncs.{sync-unwritten}
use Rattle.fault_entry.specs.vm_world.TranslationsFit.{HasWritten, IsModified}
use Rattle.fault_entry.specs.vm_world.World.{World}
use Rattle.fault_entry.proofs.page_store.QueryLemmas.{some-within}

-- a frame has a page, at home, that is modified
pub record IsDirtyFrame (w : World) (frame : ℕ) : Type 0 where
  pub named : IsSome (name_at w.store.names frame)
  pub home : IsSome (bytes_at w.store.frames frame)
  pub modified : IsModified w.store w.hat.places frame

pub dirty-below : (w : World) (k : ℕ) → IsDirtyFrame w k → k < length w.store.frames
dirty-below w k d = some-within w.store.frames k d.home

-- a row past the last one has no source, no snapshot and no holder
row-within : (rows : List Row) (k : ℕ) (P : Row → Bool) → P (row_at [] 0) ≡ false → P (row_at rows k) ≡ true → k < length rows
row-within [] k P none is = absurd (let z : false ≡ true = sym none ∙ is in cc)
row-within (r ∷ rows) zero P none is = omega arith
row-within (r ∷ rows) (suc k) P none is = let more = row-within rows k P none is in omega (arith, more)

-- what isn't this frame isn't the only one
not-only : (o : Option ℕ) (k : ℕ) → ((x : ℕ) → o ≡ Some x → k ≢ x) → is_only o k ≡ false
not-only None k far = refl
not-only (Some x) k far = elim (eqb_tells k x) [ inl y ↦ absurd (far x refl y.1) | inr n ↦ n.0 ]

not-family : (s : StoreSeen) (frame k : ℕ) → k ≢ frame → ((x : ℕ) → (row_at s.rows frame).snapshot ≡ Some x → k ≢ x) → ((x : ℕ) → (row_at s.rows frame).source ≡ Some x → k ≢ x) → family s frame k ≡ false
not-family s frame k far copy source = three (k == frame) (is_only (row_at s.rows frame).snapshot k) (is_only (row_at s.rows frame).source k)
    (elim (eqb_tells k frame) [ inl y ↦ absurd (far y.1) | inr n ↦ n.0 ]) (not-only (row_at s.rows frame).snapshot k copy) (not-only (row_at s.rows frame).source k source)
  where
    three : (a b c : Bool) → a ≡ false → b ≡ false → c ≡ false → (a || (b || c)) ≡ false
    three a b c x y z = ap (λ (p : Bool). p || (b || c)) x ∙ ap (λ (p : Bool). p || c) y ∙ z

-- a frame that a seat holds, or that has a source, is away
module _ (s : StoreSeen) (sound : IsSoundStore s) (k : ℕ) where
  held-away : is_some (row_at s.rows k).holder ≡ true → is_some (bytes_at s.frames k) ≡ false
  held-away held = by_bytes (bytes_at s.frames k) (sound.each k (let lt = row-within s.rows k (λ (r : Row). is_some r.holder) refl held in let n = sound.rows in omega (arith, lt, n))).away
    where
      by_bytes : (b : Option (List ℕ)) → is_none b ≡ is_some (row_at s.rows k).holder → is_some b ≡ false
      by_bytes None e = refl
      by_bytes (Some b) e = absurd (let z : false ≡ true = e ∙ held in cc)

  copy-away : is_some (row_at s.rows k).source ≡ true → is_some (bytes_at s.frames k) ≡ false
  copy-away source =
      let a = sound.each k (let lt = row-within s.rows k (λ (r : Row). is_some r.source) refl source in let n = sound.rows in omega (arith, lt, n)) in
      by_parts (bytes_at s.frames k) (is_some (row_at s.rows k).holder) (is_none (name_at s.names k)) (row_at s.rows k).gone (is_some (row_at s.rows k).source) a.away a.unnamed source
    where
      by_parts : (b : Option (List ℕ)) (holder none gone source : Bool) → is_none b ≡ holder → (holder && none) ≡ (gone || source) → source ≡ true → is_some b ≡ false
      by_parts None holder none gone source away unnamed src = refl
      by_parts (Some b) true none gone source away unnamed src = absurd (let z : false ≡ true = away in cc)
      by_parts (Some b) false none true source away unnamed src = absurd (let z : false ≡ true = unnamed in cc)
      by_parts (Some b) false none false true away unnamed src = absurd (let z : false ≡ true = unnamed in cc)
      by_parts (Some b) false none false false away unnamed src = absurd (let z : false ≡ true = src in cc)

-- THE TRANSLATIONS that say that a frame was written, once those of one frame were cleared or dropped: as before, but none of that frame
wrote-cleared : (places : List (Option Translation)) (frame k : ℕ) → HasWritten (change_frame frame with_clear_bits places) k → HasWritten places k × (k ≢ frame)
wrote-cleared places frame k w =
    let from = changed-from (leads frame (slice_index_or places w.place None)) with_clear_bits (slice_index_or places w.place None) w.translation (sym (index-map (change_lead frame with_clear_bits) places w.place refl) ∙ w.there) in (
      elim from.2 [
        | inl e ↦ record { place = w.place; translation = w.translation; there = from.1 ∙ ap (λ (t : Translation). Some t) (sym e); leads = w.leads; modified = w.modified }
        | inr e ↦ absurd (let z : true ≡ false = sym w.modified ∙ ap (λ (t : Translation). t.modified) e in cc)
      ],
      λ e. let z : true ≡ false = sym w.modified ∙ sync-unwritten places frame w.place w.translation w.there (w.leads ∙ e) in cc,
    )

wrote-dropped : (places : List (Option Translation)) (frame k : ℕ) → HasWritten (drop_frame frame places) k → HasWritten places k × (k ≢ frame)
wrote-dropped places frame k w =
    let each = each-drop_frame (λ (t : Translation). (p : ℕ) × (slice_index_or places p None ≡ Some t)) frame places (λ p t there. (p, there)) w.place w.translation w.there in
    (record { place = each.0.0; translation = w.translation; there = each.0.1; leads = w.leads; modified = w.modified }, λ e. each.1 (w.leads ∙ e))

wrote-pushed : (next : Option ℕ) (places : List (Option Translation)) (own k : ℕ) → HasWritten (places_pushed next (Some own) places) k → HasWritten places k × (k ≢ own)
wrote-pushed None places own k w = wrote-dropped places own k w
wrote-pushed (Some copy) places own k w = wrote-cleared places own k w

-- A PUSH of the page in its own frame: its flight as it went out and as it came back
module _ (w t u : World) (name : PageName) (own : ℕ) (f g : FlightSeen)
    (sound : IsSoundStore w.store) (rest : (k : ℕ) → k < length w.store.frames → IsSome (bytes_at w.store.frames k))
    (holds : find w.store.names name ≡ Some own) (here : IsSome (bytes_at w.store.frames own))
    (begins : BeginsTransfer (store_synced w name) t.store (Push name) name f) (out : frame_out (Push name) w.store ≡ Some f.frame)
    (places : t.hat.places ≡ places_pushed (next_frame w.store) (find w.store.names name) w.hat.places)
    (ends : EndsTransfer t.store u.store (record g { frame = f.frame })) (went : g.outcome ≡ done) (hat : u.hat ≡ t.hat) where
  abbrev synced : StoreSeen
  synced = with_bits_gathered w.store own (bits_of own w.hat.places)

  began : BeginsTransfer synced t.store (Push name) name f
  began = subst (λ (s : StoreSeen). BeginsTransfer s t.store (Push name) name f) (ap (λ (o : Option ℕ). at_frame o w.store (λ frame. with_bits_gathered w.store frame (bits_of frame w.hat.places))) holds) begins

  -- the flight's frame is the page's own, or has a snapshot of it
  mine : own_frame t.store f.frame ≡ own
  mine = began.own own holds

  away : is_some (bytes_at t.store.frames f.frame) ≡ false
  away = held-away t.store began.sound f.frame (ap is_some began.out.out.holder)

  -- the page's own frame has no snapshot, and is none
  own-free : (k : ℕ) → (row_at w.store.rows own).snapshot ≢ Some k
  own-free k is =
      let src = sound.paired.source own k is in
      let lt = row-within w.store.rows k (λ (r : Row). is_some r.source) refl (ap is_some src) in
      let n = sound.rows in
      (let h : is_some (bytes_at w.store.frames k) ≡ true = rest k (omega (arith, lt, n)) in let no : is_some (bytes_at w.store.frames k) ≡ false = copy-away w.store sound k (ap is_some src) in let z : true ≡ false = sym h ∙ no in cc)

  own-none : (k : ℕ) → (row_at w.store.rows own).source ≢ Some k
  own-none k is = (let h : is_some (bytes_at w.store.frames own) ≡ true = here in let n : is_some (bytes_at w.store.frames own) ≡ false = copy-away w.store sound own (ap is_some is) in let z : true ≡ false = sym h ∙ n in cc)

  -- the gathered bits change neither
  pairs-own : ((row_at synced.rows own).snapshot ≡ (row_at w.store.rows own).snapshot) × ((row_at synced.rows own).source ≡ (row_at w.store.rows own).source)
  pairs-own = elim (row-gathered w.store own (bits_of own w.hat.places) own) [
    | inl e ↦ (ap (λ (r : Row). r.snapshot) e, ap (λ (r : Row). r.source) e)
    | inr e ↦ (ap (λ (r : Row). r.snapshot) e.1, ap (λ (r : Row). r.source) e.1)
  ]

  -- A FRAME that is neither the page's own nor the flight's is as it was.
  same-end : (k : ℕ) → k ≢ own → k ≢ f.frame → family t.store f.frame k ≡ false
  same-end k ne far = not-family t.store f.frame k far
      (λ x is e. (let h : is_some (bytes_at t.store.frames f.frame) ≡ true = began.sound.paired.home f.frame x is in let n : is_some (bytes_at t.store.frames f.frame) ≡ false = away in let z : true ≡ false = sym h ∙ n in cc))
      (λ x is e. ne (e ∙ ap (λ (o : Option ℕ). unwrap_or o f.frame) (sym is) ∙ mine))

  next-out : (x : ℕ) → next_frame w.store ≡ Some x → x ≡ f.frame
  next-out x is = inj x f.frame (sym (ap (λ (o : Option ℕ). option_or o (find w.store.names name)) is) ∙ out)
    where
      inj : (a b : ℕ) → ◌≡◌ {A = Option ℕ} (Some a) (Some b) → a ≡ b
      inj a b e = cc

  same-begin : (k : ℕ) → k ≢ own → k ≢ f.frame → is_touched_by (Push name) synced k ≡ false
  same-begin k ne far = two (is_only (next_frame w.store) k) (family_of synced (find w.store.names name) k)
      (not-only (next_frame w.store) k (λ x is e. far (e ∙ next-out x is)))
      (ap (λ (o : Option ℕ). family_of synced o k) holds ∙ not-family synced own k ne (λ x is _. own-free x (sym pairs-own.0 ∙ is)) (λ x is _. own-none x (sym pairs-own.1 ∙ is)))
    where
      two : (a b : Bool) → a ≡ false → b ≡ false → (a || b) ≡ false
      two a b x y = ap (λ (p : Bool). p || b) x ∙ y

  row-same : (k : ℕ) → k ≢ own → k ≢ f.frame → row_at u.store.rows k ≡ row_at w.store.rows k
  row-same k ne far = ends.touches.rows k (same-end k ne far) ∙ began.touches.rows k (same-begin k ne far) ∙ elim (row-gathered w.store own (bits_of own w.hat.places) k) [ inl e ↦ e | inr e ↦ absurd (ne e.0) ]

  wrote : (k : ℕ) → HasWritten u.hat.places k → HasWritten w.hat.places k × (k ≢ own)
  wrote k x = wrote-pushed (next_frame w.store) w.hat.places own k
      (subst (λ (ps : List (Option Translation)). HasWritten ps k) (ap (λ (h : HatSeen). h.places) hat ∙ places ∙ ap (λ (o : Option ℕ). places_pushed (next_frame w.store) o w.hat.places) holds) x)

  -- the page's own frame is clean then
  own-clean : ¬ IsModified u.store u.hat.places own
  own-clean (inl bit) =
      let b = (ends.success began.ungone went).bit in
      let z : false ≡ true = sym (sym (ap (λ (k : ℕ). (row_at u.store.rows k).modified) mine) ∙ b ∙ began.unwritten) ∙ bit in cc
  own-clean (inr x) = (wrote own x).1 refl

  -- a snapshot's frame is free then
  copy-free : f.frame ≢ own → ¬ IsSome (name_at u.store.names f.frame)
  copy-free ne some =
      let z : name_at u.store.names f.frame ≡ None = ends.sound.unnamed f.frame (ends.free (inr (inl (by_source (row_at t.store.rows f.frame).source refl)))) in
      let y : false ≡ true = sym (ap is_some z) ∙ some in cc
    where
      by_source : (o : Option ℕ) → (row_at t.store.rows f.frame).source ≡ o → is_some o ≡ true
      by_source None e = absurd (ne (sym (ap (λ (p : Option ℕ). unwrap_or p f.frame) e) ∙ mine))
      by_source (Some x) e = refl

  -- WHAT IS MODIFIED THEN was so before, and the pushed page isn't any more.
  pub push-falls : (k : ℕ) → IsDirtyFrame u k → IsDirtyFrame w k × (k ≢ own)
  push-falls k d = elim (cases_eq k own) [
    | inl e ↦ absurd (own-clean (subst (IsModified u.store u.hat.places) e d.modified))
    | inr ne ↦ elim (cases_eq k f.frame) [
      | inl e ↦ absurd (copy-free (λ same. ne (e ∙ same)) (subst (λ (j : ℕ). IsSome (name_at u.store.names j)) e d.named))
      | inr far ↦ (
        record {
          named = subst IsSome (ends.touches.names k (same-end k ne far) ∙ began.touches.names k (same-begin k ne far)) d.named;
          home = subst IsSome (ends.touches.bytes k (same-end k ne far) ∙ began.touches.bytes k (same-begin k ne far)) d.home;
          modified = elim d.modified [
            | inl bit ↦ inl (ap (λ (r : Row). r.modified) (sym (row-same k ne far)) ∙ bit)
            | inr x ↦ inr (wrote k x).0
          ];
        },
        ne,
      )
    ]
  ]

  -- .. and it is home
  pub push-home : residence u.store g.name ≡ Home own
  push-home = (ends.success began.ungone went).home ∙ ap (λ (j : ℕ). Home j) mine

-- A READ
module _ (w t u : World) (name : PageName) (f g : FlightSeen)
    (begins : BeginsTransfer w.store t.store (Read name) name f) (out : next_frame w.store ≡ Some f.frame) (reads : f.writes ≡ false)
    (places : t.hat.places ≡ w.hat.places) (unloaded : (place : ℕ) (x : Translation) → slice_index_or w.hat.places place None ≡ Some x → x.frame ≢ f.frame)
    (ends : EndsTransfer t.store u.store (record g { frame = f.frame })) (went : g.outcome ≡ done) (hat : u.hat ≡ t.hat) where
  no-source : (row_at t.store.rows f.frame).source ≡ None
  no-source = begins.out.out.read reads

  read-away : is_some (bytes_at t.store.frames f.frame) ≡ false
  read-away = held-away t.store begins.sound f.frame (ap is_some begins.out.out.holder)

  same-places : u.hat.places ≡ w.hat.places
  same-places = ap (λ (h : HatSeen). h.places) hat ∙ places

  taken-clean : ¬ IsModified u.store u.hat.places f.frame
  taken-clean (inl bit) =
      let b = (ends.success begins.ungone went).bit in
      let own : own_frame t.store f.frame ≡ f.frame = ap (λ (o : Option ℕ). unwrap_or o f.frame) no-source in
      let z : false ≡ true = sym (sym (ap (λ (j : ℕ). (row_at u.store.rows j).modified) own) ∙ b ∙ begins.unwritten) ∙ bit in cc
  taken-clean (inr x) = unloaded x.place x.translation (subst (λ (ps : List (Option Translation)). slice_index_or ps x.place None ≡ Some x.translation) same-places x.there) x.leads

  -- WHAT IS MODIFIED THEN was so before.
  pub read-keeps : (k : ℕ) → IsDirtyFrame u k → IsDirtyFrame w k
  read-keeps k d = elim (cases_eq k f.frame) [
    | inl e ↦ absurd (taken-clean (subst (IsModified u.store u.hat.places) e d.modified))
    | inr far ↦
        let x : family t.store f.frame k ≡ false = not-family t.store f.frame k far
        (λ c is _. (let h : is_some (bytes_at t.store.frames f.frame) ≡ true = begins.sound.paired.home f.frame c is in let n : is_some (bytes_at t.store.frames f.frame) ≡ false = read-away in let z : true ≡ false = sym h ∙ n in cc))
        (λ c is _. let z : ◌≡◌ {A = Option ℕ} None (Some c) = sym no-source ∙ is in cc) in
        let y : is_touched_by (Read name) w.store k ≡ false = not-only (next_frame w.store) k (λ c is e. far (e ∙ inj c f.frame (sym is ∙ out))) in
        let r : row_at u.store.rows k ≡ row_at w.store.rows k = ends.touches.rows k x ∙ begins.touches.rows k y in
        record {
          named = subst IsSome (ends.touches.names k x ∙ begins.touches.names k y) d.named;
          home = subst IsSome (ends.touches.bytes k x ∙ begins.touches.bytes k y) d.home;
          modified = elim d.modified [
            | inl bit ↦ inl (ap (λ (b : Row). b.modified) (sym r) ∙ bit)
            | inr h ↦ inr (subst (λ (ps : List (Option Translation)). HasWritten ps k) same-places h)
          ];
        }
  ]
    where
      inj : (a b : ℕ) → ◌≡◌ {A = Option ℕ} (Some a) (Some b) → a ≡ b
      inj a b e = cc

  -- .. and the page is home
  pub read-home : residence u.store g.name ≡ Home f.frame
  read-home = (ends.success begins.ungone went).home ∙ ap (λ (j : ℕ). Home j) (ap (λ (o : Option ℕ). unwrap_or o f.frame) no-source)
