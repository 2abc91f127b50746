-- THE BIT OF USE OF A PAGE is set or cleared: it stays where it is and what it is.
use Rattle.std.proofs.Common.{◌≡◌, ℕ, ◌<◌, Bool, length, Some, refl, sym, ap, ◌∙◌, ◌⊎◌, inl, inr, subst, arith, get_or-set_same}
use Rattle.std.specs.Prelude.{◌||◌}
use Rattle.std.proofs.lemmas.List.{length-set}
use Rattle.page_store.specs.core_arena.Bytes.{bytes_at}
use Rattle.page_store.specs.page_lock.Rows.{row_at, clear_row, with_bits_added, with_use}
use Rattle.page_store.specs.page_lock.declared.Row.{Row}
use Rattle.page_store.specs.Laws.{SameResidence, StaysInPlace}
use Rattle.page_store.specs.Moves.{is_only}
use Rattle.page_store.specs.Seen.{StoreSeen, IsListedFrame}
use Rattle.page_store.specs.Steps.{with_row}
use Rattle.page_store.specs.Waits.{IsVictim}
use Rattle.vm_world.specs.MemoryFits.{MemoryFits}
use Rattle.vm_world.specs.Segments.{Spaces}
use Rattle.vm_world.specs.Serving.{ModifiesNone, SaysNone}
use Rattle.vm_world.specs.Words.{KeepsPages}
use Rattle.vm_world.specs.World.{World, core_of, world_table}
use Rattle.seg_ops.specs.Steps.{with_bits_gathered}
use Rattle.seg_ops.proofs.Modified.{is_modified, is_rewritten, says}
use Rattle.seg_ops.proofs.Places.{index-set}
use Rattle.seg_ops.proofs.StillSteps.{KeepsRow, with_tables, memory_of, same-row, step-keeps, translation-kept}

-- The reference bit of a row is set or cleared.
pub clear-keeps : (w : World) (spaces : Spaces) (new : StoreSeen) (frame : ℕ) (used : Bool) → MemoryFits (memory_of w spaces) → new ≡ with_row w.store frame (with_use (row_at w.store.rows frame) used) → StaysInPlace w.store new (is_only (Some frame))
    → KeepsPages w (with_tables w new w.hat) spaces
clear-keeps w spaces new frame used f is laws =
    let cleared : ℕ → Row = λ k. with_use (row_at w.store.rows k) used in
    let row : (k : ℕ) → (row_at new.rows k ≡ row_at w.store.rows k) ⊎ (row_at new.rows k ≡ cleared k) = λ k. elim (index-set w.store.rows frame (cleared frame) k clear_row) [
      | inl e ↦ inl (ap (λ (s : StoreSeen). row_at s.rows k) is ∙ e)
      | inr e ↦ inr (ap (λ (s : StoreSeen). row_at s.rows k) is ∙ e.1 ∙ ap cleared (sym e.0))
    ] in
    let same : (k : ℕ) → (row_at new.rows k).modified ≡ (row_at w.store.rows k).modified = λ k. elim (row k) [ inl e ↦ ap (λ (r : Row). r.modified) e | inr e ↦ ap (λ (r : Row). r.modified) e ] in
    step-keeps w spaces new w.hat f (record {
      sound = laws.sound;
      core = ap core_of is;
      frames = ap (λ (s : StoreSeen). length s.frames) is;
      names = ap (λ (s : StoreSeen). s.names) is;
      bays = ap (λ (s : StoreSeen). s.bays) is;
      rows = λ k. elim (row k) [
        | inl e ↦ same-row (row_at w.store.rows k) (row_at new.rows k) e
        | inr e ↦ subst (λ (r : Row). KeepsRow (row_at w.store.rows k) r) (sym e) (record { keeps = refl; gone = refl; source = refl; rewritten = λ h. h })
      ];
      unmodified = λ k l. same k ∙ f.frames.unmodified k (subst (λ (s : StoreSeen). IsListedFrame s k) is l);
      residence = laws.residence;
      modified = λ k m. elim m [ inl r ↦ inl (same k ∙ r) | inr x ↦ inr x ];
      written = λ k x. inr x;
      bytes = λ k. inl (ap (λ (s : StoreSeen). bytes_at s.frames k) is);
    }) refl f.pool.single
    (λ place t at. translation-kept w.store new w.anon w.maps spaces t laws.residence (λ l. subst (λ (s : StoreSeen). IsListedFrame s t.frame) is l) (f.translations place t at))
    (λ notes nf. laws.values notes (world_table w) nf.stored)

pub clear-modifies : (w : World) (new : StoreSeen) (frame : ℕ) (used : Bool) → new ≡ with_row w.store frame (with_use (row_at w.store.rows frame) used) → SameResidence w.store new → ModifiesNone w (with_tables w new w.hat)
clear-modifies w new frame used is stay = record { modified = clear-says is_modified (λ row. refl); rewritten = clear-says is_rewritten (λ row. refl) }
  where
    clear-says : (bit : Row → Bool) → ((row : Row) → bit (with_use row used) ≡ bit row) → SaysNone (says bit) w (with_tables w new w.hat)
    clear-says bit same = λ name k home m. (
      sym (stay name) ∙ home,
      elim m [
        | inl r ↦ inl (elim (index-set w.store.rows frame (with_use (row_at w.store.rows frame) used) k clear_row) [
          | inl e ↦ sym (ap (λ (s : StoreSeen). bit (row_at s.rows k)) is ∙ ap bit e) ∙ r
          | inr e ↦ ap (λ (j : ℕ). bit (row_at w.store.rows j)) e.0 ∙ sym (ap (λ (s : StoreSeen). bit (row_at s.rows k)) is ∙ ap bit e.1 ∙ same (row_at w.store.rows frame)) ∙ r
        ])
        | inr x ↦ inr x
      ],
    )

-- WHAT WAS USED is in the row once the bits are gathered
pub gathered-use : (s mid : StoreSeen) (frame : ℕ) (told : Bool × Bool) → frame < length s.rows → mid ≡ with_bits_gathered s frame told → (row_at mid.rows frame).referenced ≡ ((row_at s.rows frame).referenced || told.0)
gathered-use s mid frame told lt is =
    let row : Row = with_bits_added (row_at s.rows frame) told.0 told.1 in
    ap (λ (t : StoreSeen). (row_at t.rows frame).referenced) is ∙ ap (λ (r : Row). r.referenced) (get_or-set_same s.rows frame row clear_row lt)

-- and what was written
pub gathered-written : (s mid : StoreSeen) (frame : ℕ) (told : Bool × Bool) → frame < length s.rows → mid ≡ with_bits_gathered s frame told → (row_at mid.rows frame).modified ≡ ((row_at s.rows frame).modified || told.1)
gathered-written s mid frame told lt is =
    let row : Row = with_bits_added (row_at s.rows frame) told.0 told.1 in
    ap (λ (t : StoreSeen). (row_at t.rows frame).modified) is ∙ ap (λ (r : Row). r.modified) (get_or-set_same s.rows frame row clear_row lt)

-- a page that can give way still can once its bits are gathered
pub gathered-victim : (s : StoreSeen) (frame : ℕ) (told : Bool × Bool) → IsVictim s frame → IsVictim (with_bits_gathered s frame told) frame
gathered-victim s frame told v =
    let row : Row = with_bits_added (row_at s.rows frame) told.0 told.1 in
    let own = index-set s.rows frame row frame clear_row in
    record {
      here = v.here;
      unlisted = v.unlisted;
      unlocked = elim own [ inl e ↦ ap (λ (r : Row). r.holder) e ∙ v.unlocked | inr e ↦ ap (λ (r : Row). r.holder) e.1 ∙ v.unlocked ];
      unkept = elim own [ inl e ↦ ap (λ (r : Row). r.keeps) e ∙ v.unkept | inr e ↦ ap (λ (r : Row). r.keeps) e.1 ∙ v.unkept ];
    }
