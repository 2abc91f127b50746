-- Pages whose frames are taken for other pages.
use Rattle.std.proofs.Common.{◌≡◌, ◌≢◌, ℕ, Bool, true, false, List, Option, Some, None, refl, sym, ap, ◌∙◌, subst}
use Rattle.std.specs.Prelude.{IfSome, IsSome, IsTrue, ◌||◌}
use Rattle.seg_ops.specs.page_hash.Names.{find, is_name, name_at}
use Rattle.seg_ops.specs.page_hash.declared.PageName.{PageName}
use Rattle.seg_ops.proofs.page_hash.NameLaws.{find-some, is_name-true}
use Rattle.seg_ops.specs.page_store.Seen.{StoreSeen, IsListedFrame, residence}
use Rattle.seg_ops.specs.page_store.Steps.{next_frame, next_name, name_in}
use Rattle.seg_ops.specs.page_store.declared.residence.Residence.TheVariants.{Home, Absent}
use Rattle.seg_ops.proofs.page_store.QueryLemmas.{absent-is}
use Rattle.seg_ops.specs.anon_slots.Slots.{AnonSlotsSeen, count_at, is_used}
use Rattle.seg_ops.specs.vm_world.MemoryFits.{MemoryFits}
use Rattle.seg_ops.specs.vm_world.Segments.{Spaces}
use Rattle.seg_ops.specs.vm_world.Serving.{AreReplaced}
use Rattle.seg_ops.specs.vm_world.World.{World, page_exists, slot_name}
use Rattle.seg_ops.proofs.Fills.{held-by}
use Rattle.seg_ops.proofs.StillSteps.{memory_of}
use Rattle.home_pages.proofs.Takes.{or-false}

-- no page was cut
pub none-replaced : (old new : World) → AreReplaced old new (λ name. false)
none-replaced old new name cut = absurd (let z : false ≡ true = cut in cc)

-- a step that moves no name comes after
pub replaced-then : (old mid new : World) (cut : PageName → Bool) → new.store.names ≡ mid.store.names → AreReplaced old mid cut → AreReplaced old new cut
replaced-then old mid new cut names are name is =
    let r = are name is in
    record { frame = r.frame; other = r.other; held = r.held; taken = ap (λ (ns : List (Option PageName)). name_at ns r.frame) names ∙ r.taken; differs = r.differs }

-- a cut of none beside
pub replaced-beside : (old new : World) (cut : PageName → Bool) → AreReplaced old new cut → AreReplaced old new (λ name. cut name || false)
replaced-beside old new cut are name is = are name (sym (or-false (cut name)) ∙ is)

-- THE FRAME THAT IS TAKEN NEXT, and the name that it holds.
pub next-held : (s : StoreSeen) (name : PageName) → next_name s ≡ Some name → (frame : ℕ) × (next_frame s ≡ Some frame) × (name_at s.names frame ≡ Some name)
next-held s name is = by_frame (next_frame s) refl is
  where
    by_frame : (o : Option ℕ) → next_frame s ≡ o → name_in s.names o ≡ Some name → (frame : ℕ) × (next_frame s ≡ Some frame) × (name_at s.names frame ≡ Some name)
    by_frame None e held = absurd (let z : ◌≡◌ {A = Option PageName} None (Some name) = held in cc)
    by_frame (Some frame) e held = (frame, e, held)

pub cut-frame : (s : StoreSeen) (name : PageName) → is_name (next_name s) name ≡ true → (frame : ℕ) × (next_frame s ≡ Some frame) × (name_at s.names frame ≡ Some name)
cut-frame s name cut = next-held s name (is_name-true (next_name s) name cut)

-- A PAGE THAT WAS ABSENT is home there.
pub replaced-fill : (old mid new : World) (spaces : Spaces) (name : PageName) → MemoryFits (memory_of mid spaces) → mid.store.names ≡ old.store.names → residence mid.store name ≡ Absent
    → IfSome (next_frame mid.store) (λ (frame : ℕ). residence new.store name ≡ Home frame) → AreReplaced old new (is_name (next_name mid.store))
replaced-fill old mid new spaces name fits names absent home lost cut =
    let h = cut-frame mid.store lost cut in
    record {
      frame = h.0;
      other = name;
      held = ap (λ (ns : List (Option PageName)). name_at ns h.0) (sym names) ∙ h.2;
      taken = held-by new.store name h.0 (subst (λ (o : Option ℕ). IfSome o (λ (frame : ℕ). residence new.store name ≡ Home frame)) h.1 home);
      differs = λ same.
          let found = find-some mid.store.names name h.0 fits.frames.sound.distinct (h.2 ∙ ap (λ (n : PageName). Some n) (sym same)) in
          let z : ◌≡◌ {A = Option ℕ} None (Some h.0) = sym (absent-is mid.store name fits.frames.sound absent) ∙ found in cc;
    }

-- A SLOT THAT NO PLACE HELD has its page there.
pub replaced-slot : (old room freed made new : World) (spaces : Spaces) (s : ℕ) (cut : PageName → Bool) → MemoryFits (memory_of room spaces) → room.store.names ≡ old.store.names → freed.anon ≡ room.anon → count_at freed.anon s ≡ 0
    → ((name : PageName) → IsTrue (cut name) → (frame : ℕ) × (next_frame freed.store ≡ Some frame) × (name_at room.store.names frame ≡ Some name))
    → IfSome (next_frame freed.store) (λ (frame : ℕ). (residence made.store (slot_name s) ≡ Home frame) × (¬ IsListedFrame made.store frame)) → new.store.names ≡ made.store.names → AreReplaced old new cut
replaced-slot old room freed made new spaces s cut fits names anon free next home same name is =
    let h = next name is in
    let there = subst (λ (o : Option ℕ). IfSome o (λ (frame : ℕ). (residence made.store (slot_name s) ≡ Home frame) × (¬ IsListedFrame made.store frame))) h.1 home in
    record {
      frame = h.0;
      other = slot_name s;
      held = ap (λ (ns : List (Option PageName)). name_at ns h.0) (sym names) ∙ h.2;
      taken = ap (λ (ns : List (Option PageName)). name_at ns h.0) same ∙ held-by made.store (slot_name s) h.0 there.0;
      differs = λ is_same.
          let used : is_used (count_at room.anon s) ≡ true = subst (λ (n : PageName). IsTrue (page_exists room.files room.anon n)) (sym is_same) (fits.frames.exist h.0 name h.2) in
          let none : is_used (count_at room.anon s) ≡ false = ap is_used (ap (λ (a : AnonSlotsSeen). count_at a s) (sym anon) ∙ free) in
          let z : false ≡ true = sym none ∙ used in cc;
    }
