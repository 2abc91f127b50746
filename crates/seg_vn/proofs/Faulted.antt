-- What faults at places of shared mappings of files come to.
use Rattle.std.proofs.Common.{◌≡◌, ℕ, Some, None, sym, ap, ◌∙◌, subst}
use Rattle.seg_ops.specs.page_hash.declared.PageName.{PageName}
use Rattle.seg_ops.specs.page_store.declared.residence.Residence.{Residence}
use Rattle.seg_ops.specs.page_store.declared.residence.Residence.TheVariants.{Home, Absent}
use Rattle.seg_ops.specs.vm_types.declared.call.Call.{Call}
use Rattle.seg_ops.specs.vm_types.declared.call.Call.TheVariants.{Load, Store, Map, Unmap, Protect, Sync, Read, Write, Truncate, Fork, Exit}
use Rattle.seg_ops.specs.flat_model.Words.{page}
use Rattle.seg_ops.specs.vm_world.FlatMemory.{Memory}
use Rattle.seg_ops.specs.vm_world.Segments.{Spot, spot_at, shown_name}
use Rattle.seg_ops.specs.vm_world.Wants.{WantsHome, ShowsPage, accessed_page}
use Rattle.seg_ops.proofs.vm_world.FlatWhole.{some-inj}

-- AN ACCESS of a page wants home the page that is shown there, and no other.
pub access-wants : (m : Memory) (p q : ℕ) (x : Spot) (call : Call) (name : PageName) → accessed_page call ≡ Some q → ShowsPage m p q x → shown_name m.world.maps x ≡ Some name → WantsHome m p call name
access-wants m p q x (Load a n) name acc there shows = let e : page a ≡ q = some-inj (page a) q acc in (x, subst (λ (k : ℕ). ShowsPage m p k x) (sym e) there, shows)
access-wants m p q x (Store a n v) name acc there shows = let e : page a ≡ q = some-inj (page a) q acc in (x, subst (λ (k : ℕ). ShowsPage m p k x) (sym e) there, shows)
access-wants m p q x (Map place len prot kind object offset) name acc there shows = absurd (let z : None ≡ Some q = acc in cc)
access-wants m p q x (Unmap a len) name acc there shows = absurd (let z : None ≡ Some q = acc in cc)
access-wants m p q x (Protect a len prot) name acc there shows = absurd (let z : None ≡ Some q = acc in cc)
access-wants m p q x (Sync a len) name acc there shows = absurd (let z : None ≡ Some q = acc in cc)
access-wants m p q x (Read file offset len) name acc there shows = absurd (let z : None ≡ Some q = acc in cc)
access-wants m p q x (Write file offset line rest) name acc there shows = absurd (let z : None ≡ Some q = acc in cc)
access-wants m p q x (Truncate file len) name acc there shows = absurd (let z : None ≡ Some q = acc in cc)
access-wants m p q x (Fork child) name acc there shows = absurd (let z : None ≡ Some q = acc in cc)
access-wants m p q x Exit name acc there shows = absurd (let z : None ≡ Some q = acc in cc)

met-name : (m : Memory) (p q k : ℕ) (x y : Spot) (name other : PageName) → k ≡ q → spot_at m.spaces p q ≡ Some x → shown_name m.world.maps x ≡ Some name → spot_at m.spaces p k ≡ Some y → shown_name m.world.maps y ≡ Some other → other ≡ name
met-name m p q k x y name other same here shows there its =
    let e : y ≡ x = some-inj y x (sym there ∙ ap (spot_at m.spaces p) same ∙ here) in
    some-inj other name (sym its ∙ ap (shown_name m.world.maps) e ∙ shows)

pub wanted-name : (m : Memory) (p q : ℕ) (x : Spot) (call : Call) (name other : PageName) → accessed_page call ≡ Some q → spot_at m.spaces p q ≡ Some x → shown_name m.world.maps x ≡ Some name → WantsHome m p call other → other ≡ name
wanted-name m p q x (Load a n) name other acc here shows wants = met-name m p q (page a) x wants.0 name other (some-inj (page a) q acc) here shows wants.1.here wants.2
wanted-name m p q x (Store a n v) name other acc here shows wants = met-name m p q (page a) x wants.0 name other (some-inj (page a) q acc) here shows wants.1.here wants.2
wanted-name m p q x (Map place len prot kind object offset) name other acc here shows wants = absurd (let z : None ≡ Some q = acc in cc)
wanted-name m p q x (Unmap a len) name other acc here shows wants = absurd (let z : None ≡ Some q = acc in cc)
wanted-name m p q x (Protect a len prot) name other acc here shows wants = absurd (let z : None ≡ Some q = acc in cc)
wanted-name m p q x (Sync a len) name other acc here shows wants = absurd (let z : None ≡ Some q = acc in cc)
wanted-name m p q x (Read file offset len) name other acc here shows wants = absurd (let z : None ≡ Some q = acc in cc)
wanted-name m p q x (Write file offset line rest) name other acc here shows wants = absurd (let z : None ≡ Some q = acc in cc)
wanted-name m p q x (Truncate file len) name other acc here shows wants = absurd (let z : None ≡ Some q = acc in cc)
wanted-name m p q x (Fork child) name other acc here shows wants = absurd (let z : None ≡ Some q = acc in cc)
wanted-name m p q x Exit name other acc here shows wants = absurd (let z : None ≡ Some q = acc in cc)

pub absent-home : (r : Residence) (frame : ℕ) → r ≡ Absent → r ≡ Home frame → ⊥
absent-home r frame absent home = let z : Absent ≡ Home frame = sym absent ∙ home in cc
