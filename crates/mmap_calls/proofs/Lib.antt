pub mod PartsFrom
pub mod Counted
pub mod Holders
pub mod Owns
pub mod Walked
pub mod ZerosGone
pub mod MapResults
pub mod RoomAfter
pub mod AtOnce
pub mod CutPlaces
pub mod GapMaps
pub mod RangeProtections
pub mod Replaced
pub mod CleanRanges
mod SyncAnswers
