-- THE LOOP over an order: lanes that went on so far may go on, turn by turn.
use Rattle.std.proofs.Common.{add-one, ◌≡◌, ◌≢◌, ℕ, suc, ◌+◌, ◌<◌, ◌≤◌, List, [], ◌∷◌, ◌++◌, length, take, Option, Some, refl, sym, ap, ◌∙◌, inl, inr, subst, arith}
use Rattle.std.specs.Prelude.{slice_get, slice_set}
use Rattle.std.proofs.lemmas.List.{length-set, set-get_or, take_all}
use Rattle.std.proofs.Math.ListN.{get_or}
use Rattle.std.proofs.lemmas.Option.{slice_get-get_or, get_or_from_slice_get}
use Rattle.fault_entry.specs.flat_model.Flat.{Flat}
use Rattle.fault_entry.specs.vm_world.State.{Fixed, KernelState, Seats}
use Rattle.fault_entry.specs.vm_world.StateFits.{StateFits}
use Rattle.vm_core.specs.Fits.{FitsAt}
use Rattle.lane_driver.specs.Drives.{Drives, DrivesFront, StepsLane}
use Rattle.lane_driver.specs.Lanes.{LaneSeen, HaveOwnSeats, MayMakeCalls, lane_sent, with_lanes}
use Rattle.lane_driver.specs.LaneTurns.{NextTakesMemory, TakesLaneTurn}
use Rattle.lane_driver.proofs.Adds.{turn-adds}
use Rattle.lane_driver.proofs.Driven.{drives-fits, drives-more, step-own, take-next}
use Rattle.lane_driver.proofs.MayGo.{may-beside}
use Rattle.lane_driver.proofs.OwnSeats.{at-lane, now-at}

-- each lane may go on
abbrev pub AllMay : KernelState → List LaneSeen → Type 0
AllMay s lanes = (k : ℕ) (lane : LaneSeen) → slice_get lanes k ≡ Some lane → MayMakeCalls s lane

-- the lanes took their turns in this order, and may go on
pub record HaveGone (order : List ℕ) (s t : KernelState) (lanes new : List LaneSeen) : Type 0 where
  pub drives : Drives order s t lanes new
  pub own : HaveOwnSeats new
  pub count : length new ≡ length lanes
  pub may : AllMay t new

pub gone-none : (s : KernelState) (lanes : List LaneSeen) → HaveOwnSeats lanes → AllMay s lanes → HaveGone [] s s lanes lanes
gone-none s lanes own may = record { drives = (refl, refl); own = own; count = refl; may = may }

module _ (order : List ℕ) (i n : ℕ) (s u : KernelState) (lanes mid : List LaneSeen) (gone : HaveGone (take i order) s u lanes mid) (at : slice_get order i ≡ Some n) (lane : LaneSeen) (there : slice_get mid n ≡ Some lane) where
  -- the state fits with what the lane has
  pub gone-fits : (opening : Flat) × (seats : Seats) × StateFits opening s (with_lanes seats lanes) → HaveOwnSeats lanes → FitsAt u lane.seat (lane_sent lane)
  gone-fits (opening, seats, fits) own =
      (opening, with_lanes seats mid, drives-fits (take i order) s u lanes mid opening seats gone.drives own fits, at-lane seats mid n lane gone.own there)

  module _ (t : KernelState) (after : LaneSeen) (turn : TakesLaneTurn u t lane after) (may : MayMakeCalls t after) where
    step : StepsLane n u t mid (slice_set mid n after)
    step = record { lane = lane; after = after; there = there; turn = turn; set = refl }

    each : AllMay t (slice_set mid n after)
    each k one now = elim (now-at mid n lane after there k one now) [
      | inl y ↦ subst (MayMakeCalls t) (sym y.1) may
      | inr x ↦ may-beside u t lane after one (turn-adds u t lane after turn) (λ e. x.0 (gone.own k n one lane x.1 there e))
          (ap (λ (f : Fixed). f.parents) turn.event.fixed) (ap (λ (f : Fixed). f.entries) turn.event.fixed) (gone.may k one x.1)
    ]

    -- ONE TURN MORE
    pub gone-more : HaveGone (take (i + 1) order) s t lanes (slice_set mid n after)
    gone-more = record {
      drives = subst (λ (k : ℕ). Drives (take k order) s t lanes (slice_set mid n after)) (sym (add-one i))
          (subst (λ (ns : List ℕ). Drives ns s t lanes (slice_set mid n after)) (sym (take-next order i n at)) (drives-more (take i order) n s u t lanes mid (slice_set mid n after) gone.drives step));
      own = step-own n u t mid (slice_set mid n after) step gone.own;
      count = length-set mid n after ∙ gone.count;
      may = each;
    }

  -- a turn that wasn't taken, for want of memory
  pub gone-same : (t : KernelState) (after : LaneSeen) → t ≡ u → after ≡ lane → HaveGone (take i order) s t lanes (slice_set mid n after)
  gone-same t after state same =
      let kept : slice_set mid n after ≡ mid = ap (slice_set mid n) (same ∙ sym (get_or_from_slice_get mid n lane lane there)) ∙ set-get_or mid n lane in
      subst (λ (ls : List LaneSeen). HaveGone (take i order) s t lanes ls) (sym kept) (subst (λ (x : KernelState). HaveGone (take i order) s x lanes mid) (sym state) gone)

  pub gone-front : (t : KernelState) (after : LaneSeen) → t ≡ u → after ≡ lane → NextTakesMemory lane → DrivesFront order s t lanes (slice_set mid n after)
  gone-front t after state same takes =
      let kept : slice_set mid n after ≡ mid = ap (slice_set mid n) (same ∙ sym (get_or_from_slice_get mid n lane lane there)) ∙ set-get_or mid n lane in
      subst (λ (ls : List LaneSeen). DrivesFront order s t lanes ls) (sym kept)
      (record { turns = i; number = n; at = at; drives = subst (λ (x : KernelState). Drives (take i order) s x lanes mid) (sym state) gone.drives; lane = lane; there = there; takes = takes })

-- a number of the order is a lane's
pub within : (order : List ℕ) (i n m : ℕ) → ((k number : ℕ) → slice_get order k ≡ Some number → number < m) → n ≡ m → i < length order → get_or order i 0 < n
within order i n m numbers same lt = let low = numbers i (get_or order i 0) (slice_get-get_or order i 0 lt) in omega (arith, low, same)

-- ALL TURNS
pub gone-all : (order : List ℕ) (i : ℕ) (s t : KernelState) (lanes new : List LaneSeen) → length order ≤ i → HaveGone (take i order) s t lanes new → Drives order s t lanes new
gone-all order i s t lanes new past gone = subst (λ (ns : List ℕ). Drives ns s t lanes new) (take_all i order past) gone.drives
