-- What the proofs of sp3 share, and the laws of what is read (`pub`). Assumes nothing.
mod Cursor
mod Values
mod Said
mod Areas
mod Faults
mod Walk
mod Beginnings
mod Answered
pub mod LineLaws
pub mod Laws
