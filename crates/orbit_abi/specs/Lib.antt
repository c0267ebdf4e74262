-- What the areas that C lends hold before and after a call. Assumes nothing.
pub mod Areas
pub mod Models
