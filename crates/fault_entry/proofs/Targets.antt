-- What an access reaches in flat memory: the signals in their order, and the page.
use Rattle.std.proofs.Common.{◌≡◌, ℕ, ◌%◌, ◌==◌, Bool, true, false, Option, Some, None, Ok, Err, refl, ap, ◌∙◌}
use Rattle.std.specs.Prelude.{IsFalse, IsTrue, IsSome, option_map, ok_or}
use Rattle.std.specs.FinSet as set
use Rattle.std.specs.Ordering.{nat_cmp}
use Rattle.std.proofs.lemmas.Bool.{eq-eqb, ne_eqb}
use Rattle.seg_vn.specs.vm_types.declared.prot.Prot.{Prot}
use Rattle.seg_vn.specs.vm_types.declared.call.Signal.TheVariants as signal
use Rattle.seg_vn.specs.page_store.Notes.{Notes}
use Rattle.seg_vn.specs.flat_model.Words.{Page, page}
use Rattle.seg_vn.specs.flat_model.Flat.{Cell, Flat, cell_at, shown}
use Rattle.seg_vn.specs.flat_model.Access.{access_target}
use Rattle.seg_vn.specs.flat_model.Refusals.{◌>>=◌}
use Rattle.seg_vn.specs.flat_model.Step.{IsPastAtMost}
use Rattle.seg_vn.specs.vm_world.FlatMemory.{flat_memory, cell_of}
use Rattle.seg_vn.specs.vm_world.MemoryFits.{MemoryFits}
use Rattle.seg_vn.specs.vm_world.Pages.{contents_of}
use Rattle.seg_vn.specs.vm_world.Segments.{Spot, Spaces, spot_at}
use Rattle.seg_vn.specs.vm_world.World.{World}
use Rattle.seg_vn.proofs.seg_ops.StillSteps.{memory_of}
use Rattle.seg_vn.specs.vm_world.Wants.{shows_page}
use Rattle.seg_vn.proofs.vm_world.Maps.{cell-at}
use Rattle.seg_vn.proofs.PlacesShown.{shown-past}
use Rattle.seg_vn.proofs.ShownSome.{shown-some}
use Rattle.fault_entry.specs.Reaching.{error_in}

target-unaligned : (F : Flat) (p : ℕ) (may : Prot → Bool) (a n : ℕ) → (a % n == 0) ≡ false → access_target F p may a n ≡ Err signal.Align
unfolding access_target
target-unaligned F p may a n odd = rw odd refl

target-unmapped : (F : Flat) (p : ℕ) (may : Prot → Bool) (a n : ℕ) → (a % n == 0) ≡ true → cell_at F p (page a) ≡ None → access_target F p may a n ≡ Err signal.NoMap
unfolding access_target
target-unmapped F p may a n even none = rw (even, none) refl

target-refused : (F : Flat) (p : ℕ) (may : Prot → Bool) (a n : ℕ) (c : Cell) → (a % n == 0) ≡ true → cell_at F p (page a) ≡ Some c → may c.prot ≡ false → access_target F p may a n ≡ Err signal.Prot
unfolding access_target
target-refused F p may a n c even some refused = rw (even, some, refused) refl

target-past : (F : Flat) (p : ℕ) (may : Prot → Bool) (a n : ℕ) (c : Cell) → (a % n == 0) ≡ true → cell_at F p (page a) ≡ Some c → may c.prot ≡ true → shown F c ≡ None → access_target F p may a n ≡ Err signal.Past
unfolding access_target
target-past F p may a n c even some allowed none = rw (even, some, allowed, none) refl

past-at-most : (o : Option Page) (c : Cell) → IsPastAtMost {A = Cell × Page} (ok_or o signal.Past >>= λ bytes. Ok (c, bytes))
past-at-most None c = tt
past-at-most (Some bytes) c = tt

target-may : (F : Flat) (p : ℕ) (may : Prot → Bool) (a n : ℕ) (c : Cell) → (a % n == 0) ≡ true → cell_at F p (page a) ≡ Some c → may c.prot ≡ true → IsPastAtMost (access_target F p may a n)
unfolding access_target
target-may F p may a n c even some allowed = rw (even, some, allowed) (past-at-most (shown F c) c)

met : (o : Option Page) (c : Cell) → IsSome o → error_in {A = Cell × Page} (ok_or o signal.Past >>= λ bytes. Ok (c, bytes)) ≡ None
met None c is = absurd (let z : false ≡ true = is in cc)
met (Some bytes) c is = refl

target-met : (F : Flat) (p : ℕ) (may : Prot → Bool) (a n : ℕ) (c : Cell) → (a % n == 0) ≡ true → cell_at F p (page a) ≡ Some c → may c.prot ≡ true → IsSome (shown F c) → error_in (access_target F p may a n) ≡ None
unfolding access_target
target-met F p may a n c even some allowed shows = rw (even, some, allowed) (met (shown F c) c shows)

-- THE SAME at a page of a process.
module _ (w : World) (spaces : Spaces) (born : set.FinSet nat_cmp) (notes : Notes) (p a n : ℕ) (may : Prot → Bool) where
  pub unaligned : ¬ (a % n ≡ 0) → access_target (flat_memory (memory_of w spaces) born notes) p may a n ≡ Err signal.Align
  unaligned odd = target-unaligned (flat_memory (memory_of w spaces) born notes) p may a n (ne_eqb (a % n) 0 odd)

  pub unmapped : a % n ≡ 0 → spot_at spaces p (page a) ≡ None → access_target (flat_memory (memory_of w spaces) born notes) p may a n ≡ Err signal.NoMap
  unmapped even none = target-unmapped (flat_memory (memory_of w spaces) born notes) p may a n (eq-eqb (a % n) 0 even)
      (cell-at (contents_of w notes).place spaces p (page a) ∙ ap (option_map (cell_of (contents_of w notes).place)) none)

  pub there : (x : Spot) → spot_at spaces p (page a) ≡ Some x → cell_at (flat_memory (memory_of w spaces) born notes) p (page a) ≡ Some (cell_of (contents_of w notes).place x)
  there x here = cell-at (contents_of w notes).place spaces p (page a) ∙ ap (option_map (cell_of (contents_of w notes).place)) here

  pub refused : (x : Spot) → a % n ≡ 0 → spot_at spaces p (page a) ≡ Some x → may x.0.prot ≡ false → access_target (flat_memory (memory_of w spaces) born notes) p may a n ≡ Err signal.Prot
  refused x even here no_access = target-refused (flat_memory (memory_of w spaces) born notes) p may a n (cell_of (contents_of w notes).place x) (eq-eqb (a % n) 0 even) (there x here) no_access

  pub past : (x : Spot) → a % n ≡ 0 → MemoryFits (memory_of w spaces) → spot_at spaces p (page a) ≡ Some x → may x.0.prot ≡ true → IsFalse (shows_page w x)
      → access_target (flat_memory (memory_of w spaces) born notes) p may a n ≡ Err signal.Past
  past x even f here allowed beyond = target-past (flat_memory (memory_of w spaces) born notes) p may a n (cell_of (contents_of w notes).place x) (eq-eqb (a % n) 0 even) (there x here) allowed
      (shown-past w spaces p (page a) x f here born notes beyond)

  pub may-reach : (x : Spot) → a % n ≡ 0 → spot_at spaces p (page a) ≡ Some x → may x.0.prot ≡ true → IsPastAtMost (access_target (flat_memory (memory_of w spaces) born notes) p may a n)
  may-reach x even here allowed = target-may (flat_memory (memory_of w spaces) born notes) p may a n (cell_of (contents_of w notes).place x) (eq-eqb (a % n) 0 even) (there x here) allowed

  -- NO SIGNAL IS DUE where the page isn't past the end.
  pub none-due : (x : Spot) → a % n ≡ 0 → MemoryFits (memory_of w spaces) → spot_at spaces p (page a) ≡ Some x → may x.0.prot ≡ true → IsTrue (shows_page w x)
      → error_in (access_target (flat_memory (memory_of w spaces) born notes) p may a n) ≡ None
  none-due x even f here allowed there_is = target-met (flat_memory (memory_of w spaces) born notes) p may a n (cell_of (contents_of w notes).place x) (eq-eqb (a % n) 0 even) (there x here) allowed
      (shown-some w spaces p (page a) x f here born notes there_is)
