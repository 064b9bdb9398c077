-- `loader::fill::fill_holding` meets its contract.
use Rattle.loader.proofs.FillLaws.{filling}
use Rattle.loader.proofs.fill.fill_holding.Goals as goal

pub returns : goal.returns
returns c = search filling
