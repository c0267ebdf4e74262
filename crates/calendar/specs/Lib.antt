-- The Gregorian calendar: which dates and times are real, and the instant of each.
pub mod Gregorian
pub mod Instants
pub mod Cases
pub mod Formulas
