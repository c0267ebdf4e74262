-- The laws about what every crate says, and about whole numbers, which the crates above cite.
pub mod Filled
pub mod Made
pub mod Search
pub mod Outcomes
pub mod Sums
pub mod Parts
pub mod Integers
pub mod Dropped
pub mod Those
pub mod Tests
