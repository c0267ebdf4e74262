-- The definitions of samples: means, slopes and slant range; then what only inner functions need.
pub mod Means
pub mod Approach
pub mod Slant
pub mod Sums
pub mod Runs
pub mod Sorting
pub mod Written
