-- Words of the pages that places show: what loads and stores answer, and what they leave of flat memory.
use Rattle.std.proofs.Common.{◌≡◌, ◌≢◌, ℕ, ◌%◌, Bool, true, false, cond, [], Some, Result, Ok, Err, refl, sym, ap, ◌∙◌, ◌⊎◌, inl, inr, subst}
use Rattle.std.specs.Prelude.{IsTrue, ◌||◌, not, option_map, if◌then◌else◌}
use Rattle.std.specs.FinSet as set
use Rattle.std.specs.Ordering.{nat_cmp}
use Rattle.std.proofs.lemmas.Bool.{cases_Bool, eq-eqb}
use Rattle.seg_vn.specs.vm_types.declared.call.Call.TheVariants as call
use Rattle.seg_vn.specs.vm_types.declared.call.Reply.TheVariants as reply
use Rattle.seg_vn.specs.vm_types.declared.call.Signal.{Signal}
use Rattle.seg_vn.specs.vm_types.Prot.{can_read, can_write}
use Rattle.seg_vn.specs.hat_layer.Pool.{translation_at}
use Rattle.seg_vn.specs.hat_layer.declared.translation.Translation.{Translation}
use Rattle.seg_vn.specs.page_hash.Names.{is_name}
use Rattle.seg_vn.specs.page_hash.declared.PageName.{PageName}
use Rattle.seg_vn.specs.page_store.Notes.{Notes}
use Rattle.seg_vn.specs.page_store.Value.{value}
use Rattle.seg_vn.specs.flat_model.Words.{Page, page, word_at, word_put}
use Rattle.seg_vn.specs.flat_model.Flat.{Cell, Flat}
use Rattle.seg_vn.specs.flat_model.Access.{access_target, load, store, with_page_stored}
use Rattle.seg_vn.specs.flat_model.Refusals.{Effect, done_effect, or_signal}
use Rattle.seg_vn.specs.flat_model.Shapes.{without_bytes}
use Rattle.seg_vn.proofs.flat_model.Stores.{met_is}
use Rattle.seg_vn.specs.vm_world.CallSteps.{ActsOnPages}
use Rattle.seg_vn.specs.vm_world.FlatMemory.{flat_memory, flat_shaped, shape_of, cell_of}
use Rattle.seg_vn.specs.vm_world.MemoryFits.{MemoryFits}
use Rattle.seg_vn.specs.vm_world.Pages.{contents_of, contents_by, page_value}
use Rattle.seg_vn.specs.vm_world.Segments.{Spot, Spaces, spot_at, shown_name}
use Rattle.seg_vn.specs.vm_world.TranslationsFit.{MayWriteInPlace}
use Rattle.seg_vn.specs.vm_world.Wants.{shows_page}
use Rattle.seg_vn.specs.vm_world.World.{World, world_table, is_page_name}
use Rattle.seg_vn.proofs.vm_world.FlatWhole.{some-inj}
use Rattle.seg_vn.proofs.vm_world.FrameRule.{shape-same, name-same}
use Rattle.seg_vn.proofs.vm_world.Maps.{cell-at}
use Rattle.seg_vn.proofs.vm_world.Shapes.{maps-alike}
use Rattle.seg_vn.proofs.page_hash.NameLaws.{is_name-same, is_name-true}
use Rattle.seg_vn.specs.seg_ops.Steps.{ShowsName, ReadsWord, PutsWord, WritesWord}
use Rattle.seg_vn.proofs.seg_ops.Hits.{hits}
use Rattle.seg_vn.proofs.seg_ops.Places.{stands-at}
use Rattle.seg_vn.proofs.seg_ops.StillSteps.{memory_of}
use Rattle.seg_vn.proofs.PlacesShown.{page-there, shown-page}
use Rattle.fault_entry.specs.Reaching.{may_access, ReachesPage}
use Rattle.fault_entry.proofs.FlatPuts.{flat-stored}

-- A SIGNAL is the reply, and flat memory is as it was.
load-signal : (F : Flat) (p a n : ℕ) (s : Signal) → access_target F p can_read a n ≡ Err s → load F p a n ≡ record { reply = reply.Signal s; after = F }
load-signal F p a n s is = rw is refl

store-signal : (F : Flat) (p a n v : ℕ) (s : Signal) → access_target F p can_write a n ≡ Err s → store F p a n v ≡ record { reply = reply.Signal s; after = F }
store-signal F p a n v s is = rw is refl

pub load-signals : (w : World) (spaces : Spaces) (p a n cleared : ℕ) (s : Signal) → MemoryFits (memory_of w spaces)
    → ((born : set.FinSet nat_cmp) (notes : Notes) → access_target (flat_memory (memory_of w spaces) born notes) p can_read a n ≡ Err s)
    → ActsOnPages w w spaces (record { process = p; call = call.Load a n; reply = reply.Signal s; cleared = cleared })
load-signals w spaces p a n cleared s f target = record {
  tables = record { maps = refl; counts = refl; reserved = refl; disks = refl; infos = refl };
  core = refl;
  frames = refl;
  bays = refl;
  memory = f;
  notes = λ notes nf. nf;
  tells = λ notes nf. ((λ tell. tell), (λ tell. tell));
  acts = λ born notes nf tell whole.
      let o = load-signal (flat_memory (memory_of w spaces) born notes) p a n s (target born notes) in
      (ap (λ (e : Effect). e.reply) o, sym (ap (λ (e : Effect). e.after) o));
  shaped = λ born notes. ap (λ (e : Effect). without_bytes e.after) (load-signal (flat_memory (memory_of w spaces) born notes) p a n s (target born notes));
}

pub store-signals : (w : World) (spaces : Spaces) (p a n v cleared : ℕ) (s : Signal) → MemoryFits (memory_of w spaces)
    → ((born : set.FinSet nat_cmp) (notes : Notes) → access_target (flat_memory (memory_of w spaces) born notes) p can_write a n ≡ Err s)
    → ActsOnPages w w spaces (record { process = p; call = call.Store a n v; reply = reply.Signal s; cleared = cleared })
store-signals w spaces p a n v cleared s f target = record {
  tables = record { maps = refl; counts = refl; reserved = refl; disks = refl; infos = refl };
  core = refl;
  frames = refl;
  bays = refl;
  memory = f;
  notes = λ notes nf. nf;
  tells = λ notes nf. ((λ tell. tell), (λ tell. tell));
  acts = λ born notes nf tell whole.
      let o = store-signal (flat_memory (memory_of w spaces) born notes) p a n v s (target born notes) in
      (ap (λ (e : Effect). e.reply) o, sym (ap (λ (e : Effect). e.after) o));
  shaped = λ born notes. ap (λ (e : Effect). without_bytes e.after) (store-signal (flat_memory (memory_of w spaces) born notes) p a n v s (target born notes));
}

-- a page that has a translation is written in place where that is writable
may-write : (w : World) (spaces : Spaces) (p q : ℕ) (x : Spot) (t : Translation) → MemoryFits (memory_of w spaces) → spot_at spaces p q ≡ Some x → translation_at w.hat.places p q ≡ Some t → t.writable ≡ true → MayWriteInPlace w.anon w.maps x
may-write w spaces p q x t f here is writable =
    let s = stands-at w.hat.places p q t is in
    let l = f.translations s.place t s.there in
    let same : spot_at spaces t.space t.page ≡ spot_at spaces p q = λ i. spot_at spaces (s.space_is i) (s.page_is i) in
    subst (MayWriteInPlace w.anon w.maps) (some-inj l.spot x (sym l.here ∙ same ∙ here)) (l.writable writable)

writable-by : (b write : Bool) → (b || not write) ≡ true → write ≡ true → b ≡ true
writable-by true write lets is = refl
writable-by false true lets is = absurd (let z : false ≡ true = lets in cc)
writable-by false false lets is = is

module _ (w : World) (spaces : Spaces) (p a n frame : ℕ) (write : Bool) (f : MemoryFits (memory_of w spaces)) (r : ReachesPage (memory_of w spaces) p a n frame write) where
  abbrev x : Spot
  x = r.spot

  -- THE PAGE that the access goes to.
  abbrev pub name : PageName
  name = (hits w spaces p (page a) r.noted.entry f r.noted.there).name

  pub place-shows : shown_name w.maps x ≡ Some name
  place-shows =
      let h = hits w spaces p (page a) r.noted.entry f r.noted.there in
      ap (shown_name w.maps) (some-inj x h.shows.spot (sym r.here ∙ h.shows.here)) ∙ h.shows.shows

  pub place-there : IsTrue (shows_page w x)
  place-there =
      let h = hits w spaces p (page a) r.noted.entry f r.noted.there in
      page-there w spaces p (page a) x f r.here name place-shows (f.frames.exist r.noted.entry.frame name h.held)

  pub place-writable : write ≡ true → MayWriteInPlace w.anon w.maps x
  place-writable is = may-write w spaces p (page a) x r.noted.entry f r.here r.noted.there (writable-by r.noted.entry.writable write r.noted.lets is)

  met-name : (m : PageName) → ShowsName w spaces p (page a) m → m ≡ name
  met-name m shows = some-inj m name (sym shows.shows ∙ ap (shown_name w.maps) (some-inj shows.spot x (sym shows.here ∙ r.here)) ∙ place-shows)

  -- THE PAGE that is met in flat memory.
  meets : (born : set.FinSet nat_cmp) (notes : Notes) → access_target (flat_memory (memory_of w spaces) born notes) p (may_access write) a n ≡ Ok (cell_of (contents_of w notes).place x, page_value w notes name)
  meets born notes = met_is (flat_memory (memory_of w spaces) born notes) p (may_access write) a n (cell_of (contents_of w notes).place x) (page_value w notes name) (record {
    aligned = eq-eqb (a % n) 0 r.aligned;
    cell = cell-at (contents_of w notes).place spaces p (page a) ∙ ap (option_map (cell_of (contents_of w notes).place)) r.here;
    allowed = r.allowed;
    shows = shown-page w spaces p (page a) x f r.here born notes name place-shows place-there;
  })

-- A LOAD changes nothing, whatever it meets.
load-still : (F : Flat) (p a n : ℕ) → (load F p a n).after ≡ F
load-still F p a n = by_target (access_target F p can_read a n)
  where
    by_target : (o : Result (Cell × Page) Signal) → (or_signal F (λ m. record { reply = reply.Word (word_at m.1 a n); after = F }) o).after ≡ F
    by_target (Ok m) = refl
    by_target (Err s) = refl

-- THE VALUES of names, one of which has these bytes
abbrev with_value : (PageName → Page) → PageName → Page → PageName → Page
with_value values n bytes m = if is_name (Some n) m then bytes else values m

value-else : (values : PageName → Page) (n m : PageName) (bytes : Page) → m ≢ n → with_value values n bytes m ≡ values m
value-else values n m bytes ne = by_test (cases_Bool (is_name (Some n) m))
  where
    by_test : (is_name (Some n) m ≡ true) ⊎ (is_name (Some n) m ≡ false) → with_value values n bytes m ≡ values m
    by_test (inl t) = absurd (ne (sym (some-inj n m (is_name-true (Some n) m t))))
    by_test (inr f) = ap (λ (b : Bool). cond b bytes (values m)) f

-- A LOAD is done.
pub load-acts : (w : World) (spaces : Spaces) (p a n frame word cleared : ℕ) → MemoryFits (memory_of w spaces) → ReachesPage (memory_of w spaces) p a n frame false → ReadsWord w spaces p a n word
    → ActsOnPages w w spaces (record { process = p; call = call.Load a n; reply = reply.Word word; cleared = cleared })
load-acts w spaces p a n frame word cleared f r reads = record {
  tables = record { maps = refl; counts = refl; reserved = refl; disks = refl; infos = refl };
  core = refl;
  frames = refl;
  bays = refl;
  memory = f;
  notes = λ notes nf. nf;
  tells = λ notes nf. ((λ tell. tell), (λ tell. tell));
  acts = λ born notes nf tell whole.
      let F : Flat = flat_memory (memory_of w spaces) born notes in
      let page_name : PageName = name w spaces p a n frame false f r in
      let met : access_target F p can_read a n ≡ Ok (cell_of (contents_of w notes).place r.spot, page_value w notes page_name) = meets w spaces p a n frame false f r born notes in
      let loaded : load F p a n ≡ record { reply = reply.Word (word_at (page_value w notes page_name) a n); after = F } = rw met refl in
      let read : word ≡ word_at (page_value w notes page_name) a n = reads.2 notes ∙ ap (λ (m : PageName). word_at (page_value w notes m) a n) (met-name w spaces p a n frame false f r reads.0 reads.1) in (
        ap (λ (e : Effect). e.reply) loaded ∙ ap (λ (k : ℕ). reply.Word k) (sym read),
        sym (ap (λ (e : Effect). e.after) loaded),
      );
  shaped = λ born notes. ap without_bytes (load-still (flat_memory (memory_of w spaces) born notes) p a n);
}

-- A STORE is done.
pub store-acts : (w new : World) (spaces : Spaces) (p a n frame v cleared : ℕ) → MemoryFits (memory_of w spaces) → ReachesPage (memory_of w spaces) p a n frame true → WritesWord w new spaces p a n v
    → ActsOnPages w new spaces (record { process = p; call = call.Store a n v; reply = reply.Done; cleared = cleared })
store-acts w new spaces p a n frame v cleared f r puts_word =
    let page_name : PageName = name w spaces p a n frame true f r in
    let puts : PutsWord w new spaces a n v page_name = subst (λ (m : PageName). PutsWord w new spaces a n v m) (met-name w spaces p a n frame true f r puts_word.0 puts_word.1) puts_word.2 in
    record {
      tables = puts.tables;
      core = puts.core;
      frames = puts.frames;
      bays = puts.bays;
      memory = puts.memory;
      notes = puts.notes;
      tells = puts.tells;
      acts = λ born notes nf tell whole.
          let F : Flat = flat_memory (memory_of w spaces) born notes in
          let cell : Cell = cell_of (contents_of w notes).place r.spot in
          let bytes : Page = word_put (page_value w notes page_name) a n v in
          let met : access_target F p can_write a n ≡ Ok (cell, page_value w notes page_name) = meets w spaces p a n frame true f r born notes in
          let others : (m : PageName) → m ≢ page_name → page_value new notes m ≡ page_value w notes m = λ m ne. elim (cases_Bool (is_page_name w.files w.anon m)) [
            | inl real ↦ puts.others notes m nf tell ne real
            | inr none ↦ ap (λ (b : Bool). cond b (value new.store notes (world_table new) m) []) (name-same w new m puts.tables ∙ none) ∙ sym (ap (λ (b : Bool). cond b (value w.store notes (world_table w) m) []) none)
          ] in
          let shaped : flat_memory (memory_of new spaces) born notes ≡ flat_shaped (shape_of (memory_of w spaces)) born (contents_by (page_value new notes) w.maps) =
          λ i. flat_shaped (shape-same w new spaces puts.tables i) born (contents_by (page_value new notes) (puts.tables.maps i)) in
          let stored : store F p a n v ≡ done_effect (with_page_stored F p (page a) cell bytes) = rw met refl in (
            ap (λ (e : Effect). e.reply) stored,
            shaped ∙ flat-stored w spaces born notes p (page a) r.spot page_name bytes (page_value new notes) f r.here (place-shows w spaces p a n frame true f r) (place-writable w spaces p a n frame true f r refl) (puts.written notes) others
                ∙ sym (ap (λ (e : Effect). e.after) stored),
          );
      shaped = λ born notes.
          let F : Flat = flat_memory (memory_of w spaces) born notes in
          let cell : Cell = cell_of (contents_of w notes).place r.spot in
          let bytes : Page = word_put (page_value w notes page_name) a n v in
          let values : PageName → Page = with_value (page_value w notes) page_name bytes in
          let met : access_target F p can_write a n ≡ Ok (cell, page_value w notes page_name) = meets w spaces p a n frame true f r born notes in
          let stored : store F p a n v ≡ done_effect (with_page_stored F p (page a) cell bytes) = rw met refl in
          let is : flat_shaped (shape_of (memory_of w spaces)) born (contents_by values w.maps) ≡ with_page_stored F p (page a) cell bytes =
          flat-stored w spaces born notes p (page a) r.spot page_name bytes values f r.here (place-shows w spaces p a n frame true f r) (place-writable w spaces p a n frame true f r refl)
          (ap (λ (b : Bool). cond b bytes (page_value w notes page_name)) (is_name-same page_name)) (λ m ne. value-else (page_value w notes) page_name m bytes ne) in
          ap (λ (e : Effect). without_bytes e.after) stored ∙ ap without_bytes (sym is) ∙ maps-alike (shape_of (memory_of w spaces)) born values (page_value w notes) w.maps;
    }
