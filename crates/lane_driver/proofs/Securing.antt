-- THE PAGES THAT A CALL MAY WANT HOME, by what stays while the call lasts: those that it wants whenever it needs a transfer, and a write's old last page, which it
-- wants only where that isn't blank or a frame holds it, so that it keeps it home once it isn't blank.
use Rattle.std.proofs.Common.{◌≤◌, ◌%◌, ◌≡◌, ◌≢◌, ℕ, ◌+◌, ◌-◌, ◌<◌, ◌==◌, List, [], ◌∷◌, length, map, Option, Some, None, refl, sym, ap, ◌∙◌, ◌⊎◌, inl, inr, subst, arith}
use Rattle.std.specs.Prelude.{IsFalse, min, slice_index_or}
use Rattle.std.proofs.Math.ListN.{get_or-map}
use Rattle.fault_entry.specs.core_arena.Bytes.{bytes_at}
use Rattle.fault_entry.specs.page_hash.Names.{find}
use Rattle.fault_entry.specs.page_hash.declared.PageName.{PageName}
use Rattle.fault_entry.specs.page_lock.Rows.{row_at}
use Rattle.fault_entry.specs.page_store.Seen.{StoreSeen, residence, residence_in, residence_of}
use Rattle.fault_entry.specs.page_store.declared.residence.Residence.TheVariants.{Absent, Home, Moving}
use Rattle.fault_entry.specs.flat_model.Words.{page}
use Rattle.fault_entry.specs.vm_types.Parts.{file_of_call}
use Rattle.fault_entry.specs.vm_types.declared.call.Call.{Call}
use Rattle.fault_entry.specs.vm_types.declared.call.Call.TheVariants.{Load, Store, Map, Unmap, Protect, Sync, Read, Write, Truncate, Fork, Exit}
use Rattle.fault_entry.specs.vnode_files.Files.{vnode_at}
use Rattle.fault_entry.specs.vnode_files.Vnode.{VnodeSeen, no_vnode}
use Rattle.fault_entry.specs.vnode_files.declared.vnode.FileInfo.{FileInfo}
use Rattle.fault_entry.specs.vm_world.FlatMemory.{Memory}
use Rattle.fault_entry.specs.vm_world.Segments.{Spaces, Spot, shown_name, spot_at}
use Rattle.fault_entry.specs.vm_world.SeatLaws.{IsAtRest}
use Rattle.fault_entry.specs.vm_world.Wants.{AccessWants, IsGapPage, MakesSlotFor, PartWants, ShowsPage, WantsFrame, WantsHome, accessed_page}
use Rattle.fault_entry.specs.vm_world.World.{file_name, is_unpushed}
use Rattle.lane_driver.proofs.Counts.{Among, AtMost}

-- the page that an address of a process shows
abbrev pub ShownAt : Memory → ℕ → ℕ → PageName → Type 0
ShownAt m p q name = (x : Spot) × (spot_at m.spaces p q ≡ Some x) × (shown_name m.world.maps x ≡ Some name)

abbrev pub file_length : Memory → ℕ → ℕ
file_length m file = (vnode_at m.world.files file).info.length

-- the page that a call wants home whenever it needs a transfer
abbrev pub Firm : Memory → ℕ → Call → PageName → Type 0
Firm m p (Load a n) name = ShownAt m p (page a) name
Firm m p (Store a n v) name = ShownAt m p (page a) name
Firm m p (Read file offset len) name = PartWants file offset (min len (file_length m file - offset)) name
Firm m p (Write file offset line rest) name = PartWants file offset (length line) name
Firm m p (Truncate file end) name = IsGapPage m.world file end name
Firm m p call name = ⊥

-- the old last page of a write that makes its file longer
abbrev pub Tail : Memory → Call → PageName → Type 0
Tail m (Write file offset line rest) name = IsGapPage m.world file (offset + length line) name
Tail m call name = ⊥

abbrev pub IsHome : Memory → PageName → Type 0
IsHome m name = (frame : ℕ) × (residence m.world.store name ≡ Home frame)

-- WHAT IS STILL TO COME of a call: pages that aren't home, or blank
pub record MissesFirm (m : Memory) (p : ℕ) (call : Call) (name : PageName) : Type 0 where
  pub wanted : Firm m p call name
  pub away : ¬ IsHome m name

-- a page that is home and isn't blank
pub record IsKept (m : Memory) (name : PageName) : Type 0 where
  pub home : IsHome m name
  pub pushed : IsFalse (is_unpushed m.world.files m.world.anon name)

pub record MissesTail (m : Memory) (call : Call) (name : PageName) : Type 0 where
  pub wanted : Tail m call name
  pub away : ¬ IsKept m name

-- the call wants a page home, or a frame for a slot
abbrev pub WantsSome : Memory → ℕ → Call → Type 0
WantsSome m p call = ((name : PageName) × WantsHome m p call name) ⊎ ((q : ℕ) × (x : Spot) × (accessed_page call ≡ Some q) × ShowsPage m p q x × MakesSlotFor m.world x call)

pub some-wanted : (m : Memory) (p : ℕ) (call : Call) → WantsFrame m p call → WantsSome m p call
some-wanted m p call (inl w) = inl (w.0, w.1)
some-wanted m p call (inr w) = inr w

same-spot : (x y : Spot) → ◌≡◌ {A = Option Spot} (Some x) (Some y) → x ≡ y
same-spot x y e = cc

-- a place that an access meets shows its page
access-wants : (m : Memory) (p q : ℕ) (name : PageName) (x y : Spot) → spot_at m.spaces p q ≡ Some x → shown_name m.world.maps x ≡ Some name → ShowsPage m p q y → AccessWants m p q name
access-wants m p q name x y here shows meets = (y, meets, ap (shown_name m.world.maps) (same-spot y x (sym meets.here ∙ here)) ∙ shows)

-- at rest no page is moving
never-moving : (s : StoreSeen) → IsAtRest s → (name : PageName) (seat : ℕ) → residence s name ≢ Moving seat
never-moving s rest name seat is = by_frame (find s.names name) is
  where
    by_parts : (b : Option (List ℕ)) (h : Option ℕ) (k : ℕ) → h ≡ None → residence_of b h k ≡ Moving seat → ⊥
    by_parts (Some b) h k none is = let z : Home k ≡ Moving seat = is in cc
    by_parts None None k none is = let z : Absent ≡ Moving seat = is in cc
    by_parts None (Some t) k none is = let z : ◌≡◌ {A = Option ℕ} (Some t) None = none in cc

    by_frame : (o : Option ℕ) → residence_in o s ≡ Moving seat → ⊥
    by_frame None is = let z : Absent ≡ Moving seat = is in cc
    by_frame (Some k) is = by_parts (bytes_at s.frames k) (row_at s.rows k).holder k (rest.unlocked k) is

-- A FIRM PAGE is wanted by a call that wants some page, or a frame
pub firm-wanted : (m : Memory) (p : ℕ) (call : Call) (name : PageName) → IsAtRest m.world.store → WantsSome m p call → Firm m p call name → WantsHome m p call name
firm-wanted m p (Load a n) name rest (inl w) c = access-wants m p (page a) name c.0 w.1.0 c.1 c.2 w.1.1
firm-wanted m p (Load a n) name rest (inr w) c = access-wants m p (page a) name c.0 w.1 c.1 c.2 (subst (λ (q : ℕ). ShowsPage m p q w.1) (let e : ◌≡◌ {A = Option ℕ} (Some (page a)) (Some w.0) = w.2 in let same : w.0 ≡ page a = cc in same) w.3)
firm-wanted m p (Store a n v) name rest (inl w) c = access-wants m p (page a) name c.0 w.1.0 c.1 c.2 w.1.1
firm-wanted m p (Store a n v) name rest (inr w) c = access-wants m p (page a) name c.0 w.1 c.1 c.2 (subst (λ (q : ℕ). ShowsPage m p q w.1) (let e : ◌≡◌ {A = Option ℕ} (Some (page a)) (Some w.0) = w.2 in let same : w.0 ≡ page a = cc in same) w.3)
firm-wanted m p (Read file offset len) name rest w c = c
firm-wanted m p (Write file offset line more) name rest (inl w) c = (w.1.0, inl c)
firm-wanted m p (Write file offset line more) name rest (inr w) c = absurd (let z : ◌≡◌ {A = Option ℕ} None (Some w.0) = w.2 in cc)
firm-wanted m p (Truncate file end) name rest (inl (n, (room, inl growth))) c = subst (λ (x : PageName). WantsHome m p (Truncate file end) x) (growth.gap.last ∙ sym c.last) (room, inl growth)
firm-wanted m p (Truncate file end) name rest (inl (n, (room, inr cut))) c = absurd (never-moving m.world.store rest n cut.away.0 cut.away.1)
firm-wanted m p (Truncate file end) name rest (inr w) c = absurd (let z : ◌≡◌ {A = Option ℕ} None (Some w.0) = w.2 in cc)
firm-wanted m p (Map place len prot kind object offset) name rest w c = absurd c
firm-wanted m p (Unmap a len) name rest w c = absurd c
firm-wanted m p (Protect a len prot) name rest w c = absurd c
firm-wanted m p (Sync a len) name rest w c = absurd c
firm-wanted m p (Fork child) name rest w c = absurd c
firm-wanted m p Exit name rest w c = absurd c

-- .. and so is a write's old last one that isn't blank
pub tail-wanted : (m : Memory) (p : ℕ) (call : Call) (name : PageName) → WantsSome m p call → Tail m call name → IsFalse (is_unpushed m.world.files m.world.anon name) → WantsHome m p call name
tail-wanted m p (Write file offset line more) name (inl w) c pushed = (w.1.0, inr (record { gap = c; held = inl pushed }))
tail-wanted m p (Write file offset line more) name (inr w) c pushed = absurd (let z : ◌≡◌ {A = Option ℕ} None (Some w.0) = w.2 in cc)
tail-wanted m p (Load a n) name w c pushed = absurd c
tail-wanted m p (Store a n v) name w c pushed = absurd c
tail-wanted m p (Read file offset len) name w c pushed = absurd c
tail-wanted m p (Truncate file end) name w c pushed = absurd c
tail-wanted m p (Map place len prot kind object offset) name w c pushed = absurd c
tail-wanted m p (Unmap a len) name w c pushed = absurd c
tail-wanted m p (Protect a len prot) name w c pushed = absurd c
tail-wanted m p (Sync a len) name w c pushed = absurd c
tail-wanted m p (Fork child) name w c pushed = absurd c
tail-wanted m p Exit name w c pushed = absurd c

-- A PAGE THAT IS WANTED is firm, or a write's old last one
pub wanted-one : (m : Memory) (p : ℕ) (call : Call) (name : PageName) → IsAtRest m.world.store → WantsHome m p call name → Firm m p call name ⊎ Tail m call name
wanted-one m p (Load a n) name rest w = inl (w.0, w.1.here, w.2)
wanted-one m p (Store a n v) name rest w = inl (w.0, w.1.here, w.2)
wanted-one m p (Read file offset len) name rest w = inl w
wanted-one m p (Write file offset line more) name rest (room, inl part) = inl part
wanted-one m p (Write file offset line more) name rest (room, inr growth) = inr growth.gap
wanted-one m p (Truncate file end) name rest (room, inl growth) = inl growth.gap
wanted-one m p (Truncate file end) name rest (room, inr cut) = absurd (never-moving m.world.store rest name cut.away.0 cut.away.1)
wanted-one m p (Map place len prot kind object offset) name rest w = absurd w
wanted-one m p (Unmap a len) name rest w = absurd w
wanted-one m p (Protect a len prot) name rest w = absurd w
wanted-one m p (Sync a len) name rest w = absurd w
wanted-one m p (Fork child) name rest w = absurd w
wanted-one m p Exit name rest w = absurd w

-- a write's old last page is that of the call's file, which is one where the call wants something
abbrev pub TailFile : Memory → Call → PageName → Type 0
TailFile m call name = (file_of_call call ≡ Some name.object) × (name.object < length m.world.files.files)

pub tail-file : (m : Memory) (p : ℕ) (call : Call) (name : PageName) → WantsSome m p call → Tail m call name → TailFile m call name
tail-file m p (Write file offset line more) name (inl w) c = subst (TailFile m (Write file offset line more)) (sym c.last) (refl, w.1.0.there)
tail-file m p (Write file offset line more) name (inr w) c = absurd (let z : ◌≡◌ {A = Option ℕ} None (Some w.0) = w.2 in cc)
tail-file m p (Load a n) name w c = absurd c
tail-file m p (Store a n v) name w c = absurd c
tail-file m p (Read file offset len) name w c = absurd c
tail-file m p (Truncate file end) name w c = absurd c
tail-file m p (Map place len prot kind object offset) name w c = absurd c
tail-file m p (Unmap a len) name w c = absurd c
tail-file m p (Protect a len prot) name w c = absurd c
tail-file m p (Sync a len) name w c = absurd c
tail-file m p (Fork child) name w c = absurd c
tail-file m p Exit name w c = absurd c

-- WHAT THE CANDIDATES HANG ON: the spaces, the maps, and the files' records
pub record SameGround (m n : Memory) : Type 0 where
  pub spaces : n.spaces ≡ m.spaces
  pub maps : n.world.maps ≡ m.world.maps
  pub infos : map (λ (v : VnodeSeen). v.info) n.world.files.files ≡ map (λ (v : VnodeSeen). v.info) m.world.files.files

same-info : (m n : Memory) (file : ℕ) → SameGround m n → (vnode_at n.world.files file).info ≡ (vnode_at m.world.files file).info
same-info m n file same =
    sym (get_or-map (λ (v : VnodeSeen). v.info) n.world.files.files file no_vnode)
    ∙ ap (λ (is : List FileInfo). slice_index_or is file no_vnode.info) same.infos
    ∙ get_or-map (λ (v : VnodeSeen). v.info) m.world.files.files file no_vnode

shown-as : (m n : Memory) (p q : ℕ) (name : PageName) → SameGround m n → ShownAt n p q name → ShownAt m p q name
shown-as m n p q name same c = (c.0, ap (λ (s : Spaces). spot_at s p q) (sym same.spaces) ∙ c.1, ap (λ ms. shown_name ms c.0) (sym same.maps) ∙ c.2)

gap-same : (m n : Memory) (file end : ℕ) (name : PageName) → SameGround m n → IsGapPage n.world file end name → IsGapPage m.world file end name
gap-same m n file end name same gap =
    let length : file_length n file ≡ file_length m file = ap (λ (i : FileInfo). i.length) (same-info m n file same) in
    record {
      longer = subst (λ (l : ℕ). l < end) length gap.longer;
      tail = λ none. gap.tail (ap (λ (l : ℕ). l % 4096) length ∙ none);
      last = gap.last ∙ ap (λ (l : ℕ). file_name file (page l)) length;
    }

pub firm-same : (m n : Memory) (p : ℕ) (call : Call) (name : PageName) → SameGround m n → Firm n p call name → Firm m p call name
firm-same m n p (Load a k) name same c = shown-as m n p (page a) name same c
firm-same m n p (Store a k v) name same c = shown-as m n p (page a) name same c
firm-same m n p (Read file offset len) name same c = subst (λ (i : FileInfo). PartWants file offset (min len (i.length - offset)) name) (same-info m n file same) c
firm-same m n p (Write file offset line rest) name same c = c
firm-same m n p (Truncate file end) name same c = gap-same m n file end name same c
firm-same m n p (Map place len prot kind object offset) name same c = absurd c
firm-same m n p (Unmap a len) name same c = absurd c
firm-same m n p (Protect a len prot) name same c = absurd c
firm-same m n p (Sync a len) name same c = absurd c
firm-same m n p (Fork child) name same c = absurd c
firm-same m n p Exit name same c = absurd c

pub tail-same : (m n : Memory) (call : Call) (name : PageName) → SameGround m n → Tail n call name → Tail m call name
tail-same m n (Write file offset line rest) name same c = gap-same m n file (offset + length line) name same c
tail-same m n (Load a k) name same c = absurd c
tail-same m n (Store a k v) name same c = absurd c
tail-same m n (Read file offset len) name same c = absurd c
tail-same m n (Truncate file end) name same c = absurd c
tail-same m n (Map place len prot kind object offset) name same c = absurd c
tail-same m n (Unmap a len) name same c = absurd c
tail-same m n (Protect a len prot) name same c = absurd c
tail-same m n (Sync a len) name same c = absurd c
tail-same m n (Fork child) name same c = absurd c
tail-same m n Exit name same c = absurd c

pub ground-back : (m n : Memory) → SameGround m n → SameGround n m
ground-back m n same = record { spaces = sym same.spaces; maps = sym same.maps; infos = sym same.infos }

-- THERE IS ONE of either kind at most
abbrev by_name : Option PageName → List PageName
by_name None = []
by_name (Some name) = name ∷ []

abbrev by_spot : Memory → Option Spot → List PageName
by_spot m None = []
by_spot m (Some x) = by_name (shown_name m.world.maps x)

abbrev firm_pages : Memory → ℕ → Call → List PageName
firm_pages m p (Load a n) = by_spot m (spot_at m.spaces p (page a))
firm_pages m p (Store a n v) = by_spot m (spot_at m.spaces p (page a))
firm_pages m p (Read file offset len) = file_name file (page offset) ∷ []
firm_pages m p (Write file offset line rest) = file_name file (page offset) ∷ []
firm_pages m p (Truncate file end) = file_name file (page (file_length m file)) ∷ []
firm_pages m p call = []

few-named : (o : Option PageName) → length (by_name o) ≤ 1
few-named None = omega arith
few-named (Some name) = omega arith

few-shown : (m : Memory) (o : Option Spot) → length (by_spot m o) ≤ 1
few-shown m None = omega arith
few-shown m (Some x) = few-named (shown_name m.world.maps x)

few-firm : (m : Memory) (p : ℕ) (call : Call) → length (firm_pages m p call) ≤ 1
few-firm m p (Load a n) = few-shown m (spot_at m.spaces p (page a))
few-firm m p (Store a n v) = few-shown m (spot_at m.spaces p (page a))
few-firm m p (Read file offset len) = omega arith
few-firm m p (Write file offset line rest) = omega arith
few-firm m p (Truncate file end) = omega arith
few-firm m p (Map place len prot kind object offset) = omega arith
few-firm m p (Unmap a len) = omega arith
few-firm m p (Protect a len prot) = omega arith
few-firm m p (Sync a len) = omega arith
few-firm m p (Fork child) = omega arith
few-firm m p Exit = omega arith

among-shown : (m : Memory) (p q : ℕ) (name : PageName) → ShownAt m p q name → Among (by_spot m (spot_at m.spaces p q)) name
among-shown m p q name c = subst (λ (o : Option Spot). Among (by_spot m o) name) (sym c.1) (subst (λ (o : Option PageName). Among (by_name o) name) (sym c.2) (inl refl))

among-firm : (m : Memory) (p : ℕ) (call : Call) (name : PageName) → Firm m p call name → Among (firm_pages m p call) name
among-firm m p (Load a n) name c = among-shown m p (page a) name c
among-firm m p (Store a n v) name c = among-shown m p (page a) name c
among-firm m p (Read file offset len) name c = inl (sym c.1)
among-firm m p (Write file offset line rest) name c = inl (sym c.1)
among-firm m p (Truncate file end) name c = inl (sym c.last)
among-firm m p (Map place len prot kind object offset) name c = absurd c
among-firm m p (Unmap a len) name c = absurd c
among-firm m p (Protect a len prot) name c = absurd c
among-firm m p (Sync a len) name c = absurd c
among-firm m p (Fork child) name c = absurd c
among-firm m p Exit name c = absurd c

pub one-firm : (m : Memory) (p : ℕ) (call : Call) → AtMost 1 (MissesFirm m p call)
one-firm m p call = record { list = firm_pages m p call; few = few-firm m p call; all = λ name missing. among-firm m p call name missing.wanted }

abbrev tail_page : Memory → Call → PageName
tail_page m (Write file offset line rest) = file_name file (page (file_length m file))
tail_page m call = file_name 0 0

is-tail : (m : Memory) (call : Call) (name : PageName) → Tail m call name → tail_page m call ≡ name
is-tail m (Write file offset line rest) name c = sym c.last
is-tail m (Load a n) name c = absurd c
is-tail m (Store a n v) name c = absurd c
is-tail m (Read file offset len) name c = absurd c
is-tail m (Truncate file end) name c = absurd c
is-tail m (Map place len prot kind object offset) name c = absurd c
is-tail m (Unmap a len) name c = absurd c
is-tail m (Protect a len prot) name c = absurd c
is-tail m (Sync a len) name c = absurd c
is-tail m (Fork child) name c = absurd c
is-tail m Exit name c = absurd c

pub one-tail : (m : Memory) (call : Call) → AtMost 1 (MissesTail m call)
one-tail m call = record { list = tail_page m call ∷ []; few = omega arith; all = λ name missing. inl (is-tail m call name missing.wanted) }
