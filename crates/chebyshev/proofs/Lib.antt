-- What the proofs of chebyshev share, and the laws that the crates above cite (`pub`).
pub mod Sums
pub mod IdealInverse
mod Scaled
mod Rows
pub mod Columns
pub mod Pivots
