-- What the proofs of checks share, and the laws that the crates above cite (`pub`).
pub mod Lists
pub mod Anys
mod Orders
pub mod First
pub mod Finite
pub mod Checked
