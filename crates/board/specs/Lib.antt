-- The fleet board: which entries supersede which, its refusals and its clock offset, what its laws say.
pub mod Superseding
pub mod Board
pub mod Rules
pub mod Cases
