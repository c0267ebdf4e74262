-- Orbit files in SP3-c: a file's lines, what is looked at in them, which records are kept, and what the entry answers.
pub mod Lines
pub mod Header
pub mod Columns
pub mod Records
pub mod Entries
pub mod Rules
pub mod Walks
pub mod Cases
pub mod Written
