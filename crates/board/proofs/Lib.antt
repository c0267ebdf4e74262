-- The laws of the board, and what its functions' proofs share.
pub mod Order
pub mod Laws
mod Places
mod Survivors
mod Counts
mod TakenOut
mod Refusals
mod Answers
mod Tallies
