-- The definitions of chebyshev: what each entry's answer is.
pub mod Recurrence
pub mod Inverse
pub mod Ideal
pub mod Coefficients
pub mod Steps
