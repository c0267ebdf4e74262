-- What the proofs of samples share, and the laws that the crates above cite (`pub`). Assumes nothing.
pub mod Gaps
mod Slopes
mod Answers
pub mod FirstSlope
mod Starts
pub mod Seconds
pub mod OwnSeconds
pub mod Recordings
mod SumsOfSeconds
mod Places
mod RunsOfSeconds
mod Areas
mod Filling
mod Picking
mod Limits
mod Parting
mod Ordering
