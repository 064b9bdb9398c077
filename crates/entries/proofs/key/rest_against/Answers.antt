-- `entries::key::rest_against` meets its contract.
use Rattle.entries.proofs.EntryLaws.{restorder}
use Rattle.entries.proofs.key.rest_against.Goals as goal

pub returns-then-key-second : goal.returns-then-key-second
returns-then-key-second c = search restorder

pub returns : goal.returns
returns c = search restorder
