-- Flights that go out. Public clauses cite this.
use Rattle.std.specs.Prelude.{◌≡◌, ◌≢◌, ℕ, List, Option, Some, None, IsSome, IsFalse, slice_index_or}
use Rattle.page_store.specs.page_hash.Names.{find}
use Rattle.page_store.specs.page_hash.declared.PageName.{PageName}
use Rattle.page_store.specs.Bays.{bay_at}
use Rattle.page_store.specs.Flight.{FlightSeen, Begins}
use Rattle.page_store.specs.Seen.{StoreSeen}
use Rattle.page_store.specs.Steps.{at_frame, home_bytes, next_frame}
use Rattle.page_store.specs.Transfers.{is_push, frame_out, frame_shown}
use Rattle.page_store.specs.Waits.{Waits, plan_page}
use Rattle.page_store.specs.declared.plan.Plan.{Plan}
use Rattle.page_store.specs.declared.plan.Plan.TheVariants.{Read, Push}
use Rattle.vm_world.specs.hat_layer.Pool.{bits_of, change_frame, drop_frame, with_clear_bits}
use Rattle.vm_world.specs.hat_layer.declared.translation.Translation.{Translation}
use Rattle.vm_world.specs.Wants.{IsDirtyPage, MayReadIn}
use Rattle.vm_world.specs.World.{World, world_table, is_unpushed}
use Rattle.seg_ops.specs.Steps.{with_bits_gathered}

-- A page can be read in that no frame has, where a frame can be taken; and a page can be pushed that is home and modified, and counts as pushed.
abbrev pub CanSend : World → Plan → Type 0
CanSend w (Read name) = MayReadIn w name × IsSome (next_frame w.store)
CanSend w (Push name) = IsDirtyPage w name × IsFalse (is_unpushed w.files w.anon name)

-- The disk of a page is home, and nobody holds the page.
abbrev pub IsPageReady : World → PageName → Type 0
IsPageReady w name = Waits w.store name (world_table w name).disk None

-- No translation leads to the frame.
abbrev pub IsUnloaded : List (Option Translation) → ℕ → Type 0
IsUnloaded places frame = (place : ℕ) (t : Translation) → slice_index_or places place None ≡ Some t → t.frame ≢ frame

-- The flight that a plan begins for a seat: between the page and its place, with its disk, and with the frame and the bytes that the store sends.
pub record BeginsFor (w : World) (seat : ℕ) (plan : Plan) (f : FlightSeen) : Type 0 where
  pub begins : Begins f seat (world_table w (plan_page plan)).disk (bay_at w.store.bays (world_table w (plan_page plan)).disk) (is_push plan) (plan_page plan)
      (world_table w (plan_page plan)).block (world_table w (plan_page plan)).valid w.store.origin
  pub frame : frame_out plan w.store ≡ Some f.frame
  pub bytes : f.bytes ≡ home_bytes w.store (frame_shown plan w.store)

-- The store once the bits of a page's translations are in the page.
abbrev pub store_synced : World → PageName → StoreSeen
store_synced w name = at_frame (find w.store.names name) w.store (λ frame. with_bits_gathered w.store frame (bits_of frame w.hat.places))

-- The translations as the page in a frame is pushed: where a snapshot is taken they stay, with clear bits; where the frame itself goes out, they are gone.
abbrev pub places_pushed : Option ℕ → Option ℕ → List (Option Translation) → List (Option Translation)
places_pushed next None places = places
places_pushed None (Some frame) places = drop_frame frame places
places_pushed (Some copy) (Some frame) places = change_frame frame with_clear_bits places
