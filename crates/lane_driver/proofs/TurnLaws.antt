-- THE LAWS of orders of turns.
use Rattle.lane_driver.specs.DriveLaws.{DriveLaw}
use Rattle.lane_driver.proofs.Driven.{drives-fits, drives-made}
use Rattle.lane_driver.proofs.Ends.{alone-ends}

pub drive_law : DriveLaw
drive_law = record { fits = drives-fits; made = drives-made; alone = alone-ends }
