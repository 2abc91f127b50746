use Rattle.std.proofs.Common.{Option, subst}
use Rattle.std.specs.Prelude.{option_map}
use Rattle.fault_entry.specs.page_store.Flight.{FlightSeen}
use Rattle.vm_core.specs.Fits.{FitsAt}
use Rattle.lane_driver.specs.Lanes.{sent_for}
use Rattle.lane_driver.proofs.turn.turn.Goals as goal

pub land-requires-clause-fits : goal.land-requires-clause-fits
land-requires-clause-fits g c = subst (λ (f : Option FlightSeen). FitsAt c.args.state.now c.args.seat (option_map (sent_for c.args.seat c.args.call.now) f)) c.in-Some.is c.requires.fits

pub try_next-requires-clause-fits : goal.try_next-requires-clause-fits
try_next-requires-clause-fits g c = subst (λ (f : Option FlightSeen). FitsAt c.args.state.now c.args.seat (option_map (sent_for c.args.seat c.args.call.now) f)) c.in-None.is c.requires.fits
