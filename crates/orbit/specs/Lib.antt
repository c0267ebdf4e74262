-- The definitions of orbit: the place of an instant, window and model, propagation, closest approach, residuals, fit, pass, and what demand 3 says;
-- for inner functions, bounds and what a fit's search holds; and cases by computation.
pub mod Place
pub mod Window
pub mod Propagation
pub mod Closest
pub mod Residuals
pub mod Fit
pub mod Passes
pub mod Bounds
pub mod Fitting
pub mod Demand3
pub mod Cases
