-- Checks 1 to 7 of document 01 and 16 of document 02, their limits, which entry makes which; what holds of what passed them, and of lent areas.
pub mod Limits
pub mod Checks
pub mod Entries
pub mod Checked
pub mod Areas
