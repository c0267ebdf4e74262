-- No check failed, so the table and the instant are such as passed. Assumes nothing.
use Rattle.checks.proofs.Checked.{closest_table, closest_near}
use borrow.Author.Rules.{rules}
use Rattle.orbit.proofs.closest.find_pca_time.Goals as goal

pub invariant_of-table : goal.invariant_of-table
invariant_of-table c = let a = c.args in record { checked = closest_table a.instants.now a.positions.now a.observer a.instant.0 a.tolerance (search rules) }

pub invariant_of-closest : goal.invariant_of-closest
invariant_of-closest c = let a = c.args in record { near = closest_near a.instants.now a.positions.now a.observer a.instant.0 a.tolerance (search rules) }
