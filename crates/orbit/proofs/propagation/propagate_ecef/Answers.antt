-- No check failed, so the table is one that passed. Assumes nothing.
use Rattle.checks.proofs.Checked.{propagation_table}
use borrow.Author.Rules.{rules}
use Rattle.orbit.proofs.propagation.propagate_ecef.Goals as goal

pub invariant_of-table : goal.invariant_of-table
invariant_of-table c = let a = c.args in record { checked = propagation_table a.instants.now a.positions.now a.instant.0 a.tolerance (search rules) }
