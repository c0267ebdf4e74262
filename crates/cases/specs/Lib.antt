-- The case table of document 01, its lines marked P.
pub mod Table
