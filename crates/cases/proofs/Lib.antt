-- The theorem that the definitions meet the case table.
pub mod Table
