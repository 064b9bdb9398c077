-- `program::print_load` meets its contract.
use borrow.Author.Rules.{rules}
use Rattle.program.proofs.PrintLaws.{print_count, print_done, printed_as}
use Rattle.program.proofs.print_load.Goals as goal

pub returns : goal.returns
returns c =
    let o = printed_as _ _ _ _ _ _ c.load.ensures c.from-answer.ensures in
    (print_count _ _ _ _ _ o c.bare_length-size.result c.bare_length-size.ensures.1 _ c.put_numbers-at.ensures.0 _ c.bytes.ensures.0, search rules, print_done _ _ _ _ _ o c.bare_length-size.result c.bare_length-size.ensures.1 _ c.put_numbers-at.ensures.0 _ _ _ c.put_numbers-at.ensures.2 c.bytes.ensures.1)
