-- `layout::begins::sound_together` meets its contract.
use Rattle.layout.proofs.BeginsLaws.{parts}
use Rattle.layout.proofs.begins.sound_together.Goals as goal

pub returns : goal.returns
returns c = search parts
