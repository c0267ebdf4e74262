-- What the proofs of orbit share, and the laws and theorems that a reader cites (`pub`).
mod Searches
pub mod PlaceLaws
pub mod WindowStarts
pub mod Models
pub mod Tolerances
mod Offsets
pub mod FirstRange
mod Ranges
mod Collected
mod Shifts
mod Means
mod Trials
mod Updates
mod Middles
pub mod FirstLeast
pub mod ListOfShifts
pub mod Demand3
pub mod MixedSeconds
pub mod GivenInstant
mod Finish
mod Centre
