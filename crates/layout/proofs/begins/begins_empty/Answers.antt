-- `layout::begins::begins_empty` meets its contract.
use Rattle.layout.proofs.BeginsLaws.{emptied}
use Rattle.layout.proofs.begins.begins_empty.Goals as goal

pub returns-else-is_textual : goal.returns-else-is_textual
returns-else-is_textual c = search emptied
