-- What the proofs of calendar share. Assumes nothing.
mod Tests
mod Reals
mod Years
mod Months
mod DayNumbers
mod Moments
