-- `text::fields::identifier_end` meets its contract.
use Rattle.std.proofs.Common.{nat_eq, rules, tests}
use Rattle.std.proofs.lemmas.Iterator.{YieldsList-from_slice}
use Rattle.std.proofs.lemmas.Iterator.Search.{position_from_yields_List}
use Rattle.text.proofs.FieldLaws.{identifier_position}
use Rattle.text.proofs.fields.identifier_end.Goals as goal

pub returns : goal.returns
returns c =
    identifier_position c.args.line.now c.position.result c.unwrap_or.result
    (position_from_yields_List (λ y. nat_eq y 44) _ _ c.position.result c.position.ensures.ran (YieldsList-from_slice c.args.line.now cc) (λ x b q k. search (rules, tests)))
    c.unwrap_or.ensures
