-- `entries::key::against_at` meets its contract.
use Rattle.entries.proofs.EntryLaws.{atorder}
use Rattle.entries.proofs.key.against_at.Goals as goal

pub returns-then-key-number : goal.returns-then-key-number
returns-then-key-number c = search atorder

pub returns-then-key-first : goal.returns-then-key-first
returns-then-key-first c = search atorder

pub returns : goal.returns
returns c = search atorder
