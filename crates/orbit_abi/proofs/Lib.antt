-- What the proofs of orbit_abi share, and that 0 says answered (`Answered`). Assumes nothing.
mod Tens
mod Told
pub mod Answered
