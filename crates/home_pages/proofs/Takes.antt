-- Steps that take frames for other pages, one after another.
use Rattle.std.proofs.Common.{◌≡◌, ℕ, ◌<◌, ◌-◌, ◌^◌, Bool, true, false, List, Option, Some, None, length, refl, sym, ap, ◌∙◌, subst}
use Rattle.std.specs.Prelude.{IfSome, ◌||◌}
use Rattle.seg_ops.specs.page_hash.Names.{is_name, name_at}
use Rattle.seg_ops.specs.page_hash.declared.PageName.{PageName}
use Rattle.seg_ops.proofs.page_hash.NameLaws.{is_name-true}
use Rattle.seg_ops.specs.page_store.Steps.{next_name}
use Rattle.seg_ops.specs.vnode_files.Files.{FilesSeen, vnode_at}
use Rattle.seg_ops.specs.flat_model.Step.{is_bit_set}
use Rattle.seg_ops.specs.flat_model.Words.{pages_in}
use Rattle.seg_ops.specs.vm_world.FlatMemory.{Memory}
use Rattle.seg_ops.specs.vm_world.MemoryFits.{MemoryFits}
use Rattle.seg_ops.specs.vm_world.Segments.{Spaces}
use Rattle.seg_ops.specs.vm_world.Serving.{TakesFrames, LosesFrame}
use Rattle.seg_ops.specs.vm_world.StateSteps.{PendsTails}
use Rattle.seg_ops.specs.vm_world.World.{World, file_name}
use Rattle.seg_ops.specs.vm_world.WorldSteps.{WorldStep, stays, tails_lost}
use Rattle.seg_ops.proofs.vm_world.FrameRule.{frame_law}
use Rattle.seg_ops.specs.vm_world.Words.{KeepsPages}
use Rattle.seg_ops.proofs.StillSteps.{memory_of}

pub or-false : (b : Bool) → (b || false) ≡ b
or-false true = refl
or-false false = refl

-- NO FRAME is taken.
abbrev pub takes-none : (old new : World) (spaces : Spaces) (pending : ℕ) → KeepsPages old new spaces → TakesFrames (memory_of old spaces) new pending pending
takes-none old new spaces pending keeps = record {
  cut = λ name. false;
  step = keeps;
  pends = record { bits = λ f lt. sym (or-false (is_bit_set pending f)); below = λ below. below };
  took = λ name cut. absurd (let z : false ≡ true = cut in cc);
}

-- the same, with other numbers for the tails that are pending
abbrev pub takes-as : (old : Memory) (new : World) (a b c d : ℕ) → b ≡ a → d ≡ c → TakesFrames old new a c → TakesFrames old new b d
takes-as old new a b c d first last t = record {
  cut = t.cut;
  step = t.step;
  pends = subst (λ (k : ℕ). PendsTails old.world t.cut k d) (sym first) (subst (λ (k : ℕ). PendsTails old.world t.cut a k) (sym last) t.pends);
  took = t.took;
}

-- the tails that are pending, by the files' lengths alone
pub pends-files : (u v : World) (cut : PageName → Bool) (pending more : ℕ) → v.files ≡ u.files → PendsTails v cut pending more → PendsTails u cut pending more
pends-files u v cut pending more files t = record {
  bits = λ f lt. subst (λ (fs : FilesSeen). is_bit_set more f ≡ (is_bit_set pending f || cut (file_name f (pages_in (vnode_at fs f).info.length - 1)))) files (t.bits f (subst (λ (fs : FilesSeen). f < length fs.files) (sym files) lt));
  below = λ low. subst (λ (fs : FilesSeen). more < 2 ^ length fs.files) files (t.below (subst (λ (fs : FilesSeen). pending < 2 ^ length fs.files) (sym files) low));
}

-- FRAMES ARE TAKEN after a step that keeps all pages, names and files.
abbrev pub takes-later : (old mid new : World) (spaces : Spaces) (pending more : ℕ) → MemoryFits (memory_of old spaces) → KeepsPages old mid spaces → mid.store.names ≡ old.store.names → mid.files ≡ old.files
    → TakesFrames (memory_of mid spaces) new pending more → TakesFrames (memory_of old spaces) new pending more
takes-later old mid new spaces pending more f first names files t = record {
  cut = t.cut;
  step = frame_law.later old mid new spaces stays t.cut f first t.step;
  pends = pends-files old mid t.cut pending more files t.pends;
  took = λ name cut. let l = t.took name cut in record { frame = l.frame; held = ap (λ (ns : List (Option PageName)). name_at ns l.frame) (sym names) ∙ l.held; taken = l.taken };
}

-- FRAMES ARE TAKEN before a step that keeps all pages and names.
abbrev pub takes-then : (old mid new : World) (spaces : Spaces) (pending more : ℕ) → MemoryFits (memory_of old spaces) → TakesFrames (memory_of old spaces) mid pending more → KeepsPages mid new spaces → new.store.names ≡ mid.store.names
    → TakesFrames (memory_of old spaces) new pending more
takes-then old mid new spaces pending more f t second names = record {
  cut = λ name. t.cut name || false;
  step = frame_law.joined old mid new spaces stays t.cut (λ name. false) f t.step second;
  pends = record { bits = λ f lt. t.pends.bits f lt ∙ ap (λ (b : Bool). is_bit_set pending f || b) (sym (or-false (tails_lost old t.cut f))); below = t.pends.below };
  took = λ name cut.
      let l = t.took name (sym (or-false (t.cut name)) ∙ cut) in
      record { frame = l.frame; held = l.held; taken = λ is. l.taken (ap (λ (ns : List (Option PageName)). name_at ns l.frame) (sym names) ∙ is) };
}

pub lost-name : (old new : World) (o : Option PageName) (name : PageName) → IfSome o (λ (n : PageName). LosesFrame old new n) → is_name o name ≡ true → LosesFrame old new name
lost-name old new None name took is = absurd (let z : false ≡ true = is in cc)
lost-name old new (Some n) name took is = subst (LosesFrame old new) (let z : Some n ≡ Some name = is_name-true (Some n) name is in cc) took

-- THE NEXT FRAME is taken.
abbrev pub takes-next : (old new : World) (spaces : Spaces) (pending more : ℕ) → WorldStep old new spaces stays (is_name (next_name old.store)) → PendsTails old (is_name (next_name old.store)) pending more
    → IfSome (next_name old.store) (λ (n : PageName). LosesFrame old new n) → TakesFrames (memory_of old spaces) new pending more
takes-next old new spaces pending more step pends took = record {
  cut = is_name (next_name old.store);
  step = step;
  pends = pends;
  took = λ name cut. lost-name old new (next_name old.store) name took cut;
}

-- the same, to a world that is the same
abbrev pub takes-there : (old : Memory) (mid new : World) (pending more : ℕ) → new ≡ mid → TakesFrames old mid pending more → TakesFrames old new pending more
takes-there old mid new pending more same t = record {
  cut = t.cut;
  step = subst (λ (w : World). WorldStep old.world w old.spaces stays t.cut) (sym same) t.step;
  pends = t.pends;
  took = λ name is. subst (λ (w : World). LosesFrame old.world w name) (sym same) (t.took name is);
}
