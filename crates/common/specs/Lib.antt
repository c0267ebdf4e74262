-- What the definitions of every crate say: what an answer is, the refusals by their numbers, lists by their index and those of a list that are such,
-- sums, spans of time, texts as bytes, the search for the first of the best, whole numbers that are the same, and the doubles by name with their
-- rounded arithmetic.
pub mod Outcome
pub mod Refusals
pub mod Lists
pub mod Search
pub mod Numbers
pub mod Integers
pub mod Rounded
pub mod Sums
pub mod Time
pub mod Text
