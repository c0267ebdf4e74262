-- What the proofs of decimal share, and the laws that the crates above cite (`pub`).
pub mod Bytes
pub mod Bounds
pub mod Pointed
pub mod Grammar
