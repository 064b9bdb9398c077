-- `writer::changes::letter` meets its contract.
use Rattle.meaning.specs.Records.{letter}
use Rattle.base.specs.Lists.{bytes}
use Rattle.writer.proofs.changes.letter.Goals as goal

pub returns-in-Insert : goal.returns-in-Insert
unfolding letter bytes
returns-in-Insert c = cc

pub returns-in-Update : goal.returns-in-Update
unfolding letter bytes
returns-in-Update c = cc

pub returns-in-Delete : goal.returns-in-Delete
unfolding letter bytes
returns-in-Delete c = cc
