-- Numbers in columns, read.
pub mod Reading
pub mod Shown
pub mod Cases
