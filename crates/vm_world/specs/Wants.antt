-- What a call wants, and the plans and holds that may be answered to it. Public clauses cite this.
use Rattle.std.specs.Prelude.{◌≡◌, ◌≢◌, ◌⊎◌, ◌<◌, ◌≤◌, ◌+◌, ◌-◌, ◌%◌, ◌||◌, ℕ, Bool, true, false, List, Option, Some, None, length, IsSome, IsTrue, IsFalse, is_some, min, nat_lt, slice_index_or}
use Rattle.std.specs.Option.{option_map_or}
use Rattle.flat_model.specs.vm_types.declared.call.Call.{Call}
use Rattle.flat_model.specs.vm_types.declared.call.Call.TheVariants.{Load, Store, Sync, Read, Write, Truncate}
use Rattle.flat_model.specs.vm_types.declared.call.Kind.TheVariants.{Shared, Private}
use Rattle.flat_model.specs.vm_types.declared.call.Object.{Object}
use Rattle.flat_model.specs.vm_types.declared.call.Object.TheVariants as object
use Rattle.flat_model.specs.vm_types.Parts.{file_of_call}
use Rattle.page_store.specs.page_hash.Names.{find}
use Rattle.page_store.specs.page_hash.declared.PageName.{PageName}
use Rattle.page_store.specs.Bays.{out, bay_at}
use Rattle.page_store.specs.Seen.{residence}
use Rattle.page_store.specs.Steps.{next_frame}
use Rattle.page_store.specs.Waits.{plan_page}
use Rattle.page_store.specs.declared.plan.Hold.{Hold}
use Rattle.page_store.specs.declared.plan.Hold.TheVariants as hold
use Rattle.page_store.specs.declared.plan.Plan.{Plan}
use Rattle.page_store.specs.declared.plan.Plan.TheVariants as plan
use Rattle.page_store.specs.declared.residence.Residence.TheVariants.{Home, Moving}
use Rattle.anon_slots.specs.Slots.{count_at}
use Rattle.anon_map.specs.Maps.{places_of}
use Rattle.flat_model.specs.vnode_files.Files.{FilesSeen, vnode_at, growth_of}
use Rattle.flat_model.specs.Words.{page, pages_in, page_size}
use Rattle.flat_model.specs.Space.{is_in_range}
use Rattle.vm_world.specs.FlatMemory.{Memory}
use Rattle.vm_world.specs.Segments.{Spot, spot_at, own_slot, shown_name}
use Rattle.vm_world.specs.State.{Caller, seat_of}
use Rattle.vm_world.specs.TranslationsFit.{IsModified}
use Rattle.vm_world.specs.World.{World, world_table, file_name, is_unpushed, page_exists}

-- An object has a page at an index: a file below its length, a zero object below the length of its map, new zero memory everywhere.
abbrev pub object_has : World → Option ℕ → ℕ → Object → Bool
object_has w shown index (object.File f) = nat_lt index (pages_in (vnode_at w.files f).info.length)
object_has w shown index (object.Zero z) = option_map_or (λ number. nat_lt index (length (places_of w.maps number))) shown false
object_has w shown index object.NewZero = true

-- A place isn't past the end: it has a slot of its own, or its object has the page.
abbrev pub shows_page : World → Spot → Bool
shows_page w x = is_some (own_slot w.maps x) || object_has w x.0.shown (x.0.index + x.1) x.0.object

-- The page of a process is mapped and not past the end.
pub record ShowsPage (m : Memory) (p q : ℕ) (x : Spot) : Type 0 where
  pub here : spot_at m.spaces p q ≡ Some x
  pub some : IsTrue (shows_page m.world x)

-- An access wants home the page that it meets.
abbrev pub AccessWants : Memory → ℕ → ℕ → PageName → Type 0
AccessWants m p q name = (x : Spot) × ShowsPage m p q x × (shown_name m.world.maps x ≡ Some name)

-- A part that moves so many bytes wants home the page of the file that has them.
abbrev pub PartWants : ℕ → ℕ → ℕ → PageName → Type 0
PartWants file offset count name = (1 ≤ count) × (name ≡ file_name file (page offset))

-- The file is there, may be written, and can have so many bytes.
pub record HasRoomFor (files : FilesSeen) (file end : ℕ) : Type 0 where
  pub there : file < length files.files
  pub writable : (vnode_at files file).info.writable ≡ true
  pub room : IsSome (growth_of files file (pages_in end))

-- The old last page of a file that gets longer, where it has a tail.
pub record IsGapPage (w : World) (file end : ℕ) (name : PageName) : Type 0 where
  pub longer : (vnode_at w.files file).info.length < end
  pub tail : (vnode_at w.files file).info.length % page_size ≢ 0
  pub last : name ≡ file_name file (page (vnode_at w.files file).info.length)

-- The new last page of a file that gets shorter, where it gets a tail.
pub record IsCutPage (w : World) (file end : ℕ) (name : PageName) : Type 0 where
  pub shorter : end < (vnode_at w.files file).info.length
  pub tail : end % page_size ≢ 0
  pub last : name ≡ file_name file (page end)

-- A call that makes a file longer wants home the old last page, where that has a tail, and where it isn't blank or a frame holds it.
pub record GrowthWants (w : World) (file end : ℕ) (name : PageName) : Type 0 where
  pub gap : IsGapPage w file end name
  pub held : IsFalse (is_unpushed w.files w.anon name) ⊎ IsSome (find w.store.names name)

-- A call that makes a file shorter wants home the new last page, where it gets a tail, and where it is moving.
pub record CutWants (w : World) (file end : ℕ) (name : PageName) : Type 0 where
  pub cut : IsCutPage w file end name
  pub away : (seat : ℕ) × (residence w.store name ≡ Moving seat)

-- The pages that a call wants home.
abbrev pub WantsHome : Memory → ℕ → Call → PageName → Type 0
WantsHome m p (Load a n) name = AccessWants m p (page a) name
WantsHome m p (Store a n v) name = AccessWants m p (page a) name
WantsHome m p (Read file offset len) name = PartWants file offset (min len ((vnode_at m.world.files file).info.length - offset)) name
WantsHome m p (Write file offset line rest) name =
    HasRoomFor m.world.files file (offset + length line) × (PartWants file offset (length line) name ⊎ GrowthWants m.world file (offset + length line) name)
WantsHome m p (Truncate file end) name = HasRoomFor m.world.files file end × (GrowthWants m.world file end name ⊎ CutWants m.world file end name)
WantsHome m p call name = ⊥

-- The pages that a call wants clean: those of files that a shared segment shows in a Sync's range.
abbrev pub WantsClean : Memory → ℕ → Call → PageName → Type 0
WantsClean m p (Sync a len) name =
    (q : ℕ) × (x : Spot) × (is_in_range (page a) (pages_in len) q ≡ true) × ShowsPage m p q x × (x.0.kind ≡ Shared) × (shown_name m.world.maps x ≡ Some name) × (name.object ≢ 64)
WantsClean m p call name = ⊥

-- An access makes a slot for a page of zeros that has none yet; a store does so too for a private page that isn't its own alone.
abbrev pub MakesSlotFor : World → Spot → Call → Type 0
MakesSlotFor w x (Load a n) = shown_name w.maps x ≡ None
MakesSlotFor w x (Store a n v) =
    (shown_name w.maps x ≡ None) ⊎ ((x.0.kind ≡ Private) × ((slot : ℕ) → own_slot w.maps x ≡ Some slot → count_at w.anon slot ≢ 1))
MakesSlotFor w x call = ⊥

-- The page of the address that a call accesses.
abbrev pub accessed_page : Call → Option ℕ
accessed_page (Load a n) = Some (page a)
accessed_page (Store a n v) = Some (page a)
accessed_page call = None

-- A call wants a frame for a page that it wants home and no frame holds, or for a slot that it makes.
abbrev pub WantsFrame : Memory → ℕ → Call → Type 0
WantsFrame m p call =
    ((name : PageName) × WantsHome m p call name × (find m.world.store.names name ≡ None))
    ⊎ ((q : ℕ) × (x : Spot) × (accessed_page call ≡ Some q) × ShowsPage m p q x × MakesSlotFor m.world x call)

-- The page is home, and modified.
pub record IsDirtyPage (w : World) (name : PageName) : Type 0 where
  pub frame : ℕ
  pub home : residence w.store name ≡ Home frame
  pub modified : IsModified w.store w.hat.places frame

-- The page is clean: it isn't modified where it is home, and isn't moving.
pub record IsCleanPage (w : World) (name : PageName) : Type 0 where
  pub unmodified : (frame : ℕ) → residence w.store name ≡ Home frame → ¬ IsModified w.store w.hat.places frame
  pub still : (seat : ℕ) → residence w.store name ≢ Moving seat

-- A page that is read in: it exists, no frame holds it, and it isn't blank.
pub record MayReadIn (w : World) (name : PageName) : Type 0 where
  pub exists : IsTrue (page_exists w.files w.anon name)
  pub absent : find w.store.names name ≡ None
  pub pushed : IsFalse (is_unpushed w.files w.anon name)

-- The plans that may be answered to a call, or to the clock: to read in a page that the call wants home; to push a modified page that the call wants
-- clean, or any, where the call wants a frame and none can be taken, or for the clock.
abbrev pub MayPlan : Memory → Option Caller → Plan → Type 0
MayPlan m (Some of) (plan.Read name) = WantsHome m of.0 of.1 name × MayReadIn m.world name
MayPlan m (Some of) (plan.Push name) = IsDirtyPage m.world name × (WantsClean m of.0 of.1 name ⊎ (WantsFrame m of.0 of.1 × (next_frame m.world.store ≡ None)))
MayPlan m None (plan.Read name) = ⊥
MayPlan m None (plan.Push name) = IsDirtyPage m.world name

-- The seat that a hold names.
abbrev pub seat_in : Hold → ℕ
seat_in h = elim h [ hold.Page t ↦ t | hold.Disk t ↦ t | hold.File t ↦ t ]

-- Why a call has to wait: a page that it wants is moving with the seat; or a plan that may be answered has its disk out with it; or the seat has a call
-- of the call's file between two parts.
abbrev pub HoldsUp : Memory → List (Option ℕ) → ℕ → Call → Hold → Type 0
HoldsUp m calls p call (hold.Page t) = (name : PageName) × (WantsHome m p call name ⊎ WantsClean m p call name) × (residence m.world.store name ≡ Moving t)
HoldsUp m calls p call (hold.Disk t) = (plan : Plan) × MayPlan m (Some (p, call)) plan × (bay_at m.world.store.bays (world_table m.world (plan_page plan)).disk ≡ out t)
HoldsUp m calls p call (hold.File t) = (f : ℕ) × (file_of_call call ≡ Some f) × (slice_index_or calls f None ≡ Some t)

-- What a call may wait for: a seat other than its own, which holds it up.
pub record MayHold (m : Memory) (calls : List (Option ℕ)) (p : ℕ) (call : Call) (h : Hold) : Type 0 where
  pub other : seat_in h ≢ seat_of p
  pub cause : HoldsUp m calls p call h
