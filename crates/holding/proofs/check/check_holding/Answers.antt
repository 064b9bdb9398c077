-- `holding::check::check_holding` meets its contract.
use Rattle.holding.proofs.ReadLaws.{check_sound, check_unsound}
use Rattle.holding.proofs.check.check_holding.Goals as goal

pub returns-in_err-map_err : goal.returns-in_err-map_err
returns-in_err-map_err c = check_unsound _ _ _ _ _ _ c.read_holding.ensures c.map_err.ensures.cases _ c.in_err-map_err.was _ c.from_residual.ensures.1

pub returns : goal.returns
returns c = (check_sound _ _ _ _ _ _ c.read_holding.ensures c.map_err.ensures.cases _ c.in_ok-map_err.was, tt)
