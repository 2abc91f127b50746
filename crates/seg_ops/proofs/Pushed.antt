-- A slot that is marked, and a page of a file that stops being blank: nothing else changes.
use Rattle.vm_world.proofs.page_hash.NameLaws.{same_fields as one-name}
use Rattle.std.proofs.Common.{◌≡◌, ◌≢◌, ℕ, zero, suc, ◌<◌, ◌==◌, Bool, true, false, cond, List, [], ◌∷◌, map, length, refl, sym, ap, ◌∙◌, inl, inr, subst, slice_index_or, slice_set, length-set, get_or-set_same}
use Rattle.std.specs.Prelude.{IsTrue, not}
use Rattle.std.proofs.lemmas.Bool.{eq-eqb}
use Rattle.std.proofs.lemmas.Bool.Decides.{eqb_tells}
use Rattle.page_store.specs.page_hash.declared.PageName.{PageName}
use Rattle.vm_world.specs.anon_slots.Slots.{AnonSlotsSeen}
use Rattle.vm_world.specs.vnode_files.declared.vnode.FileInfo.{FileInfo}
use Rattle.vm_world.specs.vnode_files.Files.{FilesSeen, vnode_at, with_vnode}
use Rattle.vm_world.specs.vnode_files.Vnode.{VnodeSeen, no_vnode, with_blank, is_blank}
use Rattle.vm_world.specs.vnode_files.Grow.{page_count}
use Rattle.vm_world.specs.FramesFit.{FilesFit}
use Rattle.vm_world.specs.MemoryFits.{MemoryFits}
use Rattle.vm_world.specs.Segments.{Spaces}
use Rattle.vm_world.specs.World.{World, page_exists}
use Rattle.vm_world.proofs.FrameRule.{exists-page}
use Rattle.vm_world.proofs.PageNames.{page-cases, not-slot}
use Rattle.seg_ops.specs.Marks.{files_pushed, slots_pushed}
use Rattle.seg_ops.proofs.Marks.{Marks}
use Rattle.seg_ops.proofs.Places.{index-set}
use Rattle.seg_ops.proofs.StillSteps.{memory_of}

abbrev pub slot-marked : AnonSlotsSeen → ℕ → AnonSlotsSeen
slot-marked anon slot = record anon { swapped = slice_set anon.swapped slot true }

abbrev pub file-marked : FilesSeen → ℕ → ℕ → FilesSeen
file-marked files f page = with_vnode files f (with_blank (vnode_at files f) page false)

set-other : (bits : List Bool) (i j : ℕ) (b : Bool) → j ≢ i → slice_index_or (slice_set bits i b) j false ≡ slice_index_or bits j false
set-other bits i j b ne = elim (index-set bits i b j false) [ inl same ↦ same | inr at ↦ absurd (ne at.0) ]

pub cleared : (bits : List Bool) (i : ℕ) → slice_index_or (slice_set bits i false) i false ≡ false
cleared [] i = refl
cleared (b ∷ bs) zero = refl
cleared (b ∷ bs) (suc i) = cleared bs i

-- a slot's page
slot-marks : (w : World) (name : PageName) → name.object ≡ 64 → name.page < length w.anon.swapped → Marks w w.files (slot-marked w.anon name.page) name
slot-marks w name slot below = record {
  disks = refl;
  infos = refl;
  bits = λ f. refl;
  counts = refl;
  reserved = refl;
  swapped = length-set w.anon.swapped name.page true;
  marked = ap (λ (b : Bool). cond b (not (slice_index_or (slice_set w.anon.swapped name.page true) name.page false)) (is_blank (vnode_at w.files name.object) name.page)) (eq-eqb name.object 64 slot)
      ∙ ap not (get_or-set_same w.anon.swapped name.page true false below);
  others = λ n ne. elim (eqb_tells n.object 64) [
    | inl is ↦ ap (λ (b : Bool). cond (n.object == 64) (not b) (is_blank (vnode_at w.files n.object) n.page)) (set-other w.anon.swapped name.page n.page true (λ same. ne (one-name n name (is.1 ∙ sym slot) same)))
    | inr file ↦ ap (λ (b : Bool). cond b (not (slice_index_or (slice_set w.anon.swapped name.page true) n.page false)) (is_blank (vnode_at w.files n.object) n.page)) file.0
        ∙ sym (ap (λ (b : Bool). cond b (not (slice_index_or w.anon.swapped n.page false)) (is_blank (vnode_at w.files n.object) n.page)) file.0)
  ];
}

pub infos-set : (vs : List VnodeSeen) (f page : ℕ) → map (λ (v : VnodeSeen). v.info) (slice_set vs f (with_blank (slice_index_or vs f no_vnode) page false)) ≡ map (λ (v : VnodeSeen). v.info) vs
infos-set [] f page = refl
infos-set (v ∷ vs) zero page = refl
infos-set (v ∷ vs) (suc f) page = ap (λ (more : List FileInfo). v.info ∷ more) (infos-set vs f page)

-- a page of a file
file-marks : (w : World) (name : PageName) → (name.object == 64) ≡ false → name.object < length w.files.files → Marks w (file-marked w.files name.object name.page) w.anon name
file-marks w name file lt = record {
  disks = refl;
  infos = infos-set w.files.files name.object name.page;
  bits = λ f. elim (index-set w.files.files name.object (with_blank (vnode_at w.files name.object) name.page false) f no_vnode) [
    | inl same ↦ ap (λ (v : VnodeSeen). length v.blanks) same
    | inr at ↦ ap (λ (v : VnodeSeen). length v.blanks) at.1 ∙ length-set (vnode_at w.files name.object).blanks name.page false ∙ ap (λ (x : ℕ). length (vnode_at w.files x).blanks) (sym at.0)
  ];
  counts = refl;
  reserved = refl;
  swapped = refl;
  marked = ap (λ (b : Bool). cond b (not (slice_index_or w.anon.swapped name.page false)) (is_blank (vnode_at (file-marked w.files name.object name.page) name.object) name.page)) file
      ∙ ap (λ (v : VnodeSeen). is_blank v name.page) (get_or-set_same w.files.files name.object (with_blank (vnode_at w.files name.object) name.page false) no_vnode lt)
      ∙ cleared (vnode_at w.files name.object).blanks name.page;
  others = λ n ne. ap (λ (b : Bool). cond (n.object == 64) (not (slice_index_or w.anon.swapped n.page false)) b)
      (elim (index-set w.files.files name.object (with_blank (vnode_at w.files name.object) name.page false) n.object no_vnode) [
        | inl same ↦ ap (λ (v : VnodeSeen). is_blank v n.page) same
        | inr at ↦ ap (λ (v : VnodeSeen). is_blank v n.page) at.1 ∙ set-other (vnode_at w.files name.object).blanks name.page n.page false (λ same. ne (one-name n name at.0 same))
            ∙ ap (λ (x : ℕ). is_blank (vnode_at w.files x) n.page) (sym at.0)
      ]);
}

-- A PAGE THAT EXISTS is one of the slots, or one that its file keeps.
pub slot-within : (w : World) (name : PageName) → FilesFit w.files → IsTrue (page_exists w.files w.anon name) → name.object ≡ 64 → name.page < length w.anon.counts
slot-within w name f exists slot = elim (page-cases w.files w.anon name (exists-page w name f exists)) [ inl s ↦ s.1 | inr x ↦ absurd (x.0 slot) ]

pub file-within : (w : World) (name : PageName) → FilesFit w.files → IsTrue (page_exists w.files w.anon name) → name.object ≢ 64
    → (name.object < length w.files.files) × (name.page < page_count (vnode_at w.files name.object).info.extents)
file-within w name f exists file = elim (page-cases w.files w.anon name (exists-page w name f exists)) [ inl s ↦ absurd (file s.0) | inr x ↦ (x.1, x.2) ]

-- WHAT IS MARKED, of a page that exists.
pub marks-slot : (w : World) (spaces : Spaces) (name : PageName) → MemoryFits (memory_of w spaces) → IsTrue (page_exists w.files w.anon name) → name.object ≡ 64 → Marks w w.files (slot-marked w.anon name.page) name
marks-slot w spaces name f exists slot = slot-marks w name slot (subst (λ (n : ℕ). name.page < n) (sym f.counts.sound.lengths) (slot-within w name f.files exists slot))

pub marks-file : (w : World) (spaces : Spaces) (name : PageName) → MemoryFits (memory_of w spaces) → IsTrue (page_exists w.files w.anon name) → name.object ≢ 64 → Marks w (file-marked w.files name.object name.page) w.anon name
marks-file w spaces name f exists file = file-marks w name (not-slot name.object file) (file-within w name f.files exists file).0

pub marks-pushed : (w : World) (spaces : Spaces) (name : PageName) → MemoryFits (memory_of w spaces) → IsTrue (page_exists w.files w.anon name) → Marks w (files_pushed w.files name) (slots_pushed w.anon name) name
marks-pushed w spaces name f exists = elim (eqb_tells name.object 64) [
  | inl slot ↦ subst (λ (b : Bool). Marks w (cond b w.files (file-marked w.files name.object name.page)) (cond b (slot-marked w.anon name.page) w.anon) name) (sym slot.0) (marks-slot w spaces name f exists slot.1)
  | inr file ↦ subst (λ (b : Bool). Marks w (cond b w.files (file-marked w.files name.object name.page)) (cond b (slot-marked w.anon name.page) w.anon) name) (sym file.0) (marks-file w spaces name f exists file.1)
]
