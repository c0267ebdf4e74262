-- Where none of the checks fails, the entries are not too many.
use Rattle.std.proofs.Common.{sym}
use Rattle.board.proofs.Refusals.{passed_checks}
use Rattle.board.proofs.fleet.fleet_board.Goals as goal

pub mean_of_survivors-requires : goal.mean_of_survivors-requires
mean_of_survivors-requires c = (passed_checks c.args.entries.now (sym c.in_ok-refuse_board.ensures)).1
