-- `program::print` meets its contract.
use mathlib.Core.Path.{sym, ap, ◌∙◌}
use Rattle.std.specs.Prelude.{◌≡◌}
use Rattle.meaning.specs.Table.{scottish}
use Rattle.meaning.specs.Codes.{input_unusable}
use Rattle.meaning.specs.Answers.{alone, refused_with}
use Rattle.meaning.specs.Program.{print_numbers, program}
use Rattle.program.specs.Cut.{first_18, second_18}
use Rattle.program.specs.Outcome.{bytes_of, read_of}
use Rattle.program.proofs.PrintLaws.{both_usable, usable_some, print_all}
use Rattle.program.proofs.print.Goals as goal
use Rattle.program.proofs.print.Goals.{then-is_unusable-via-then-is_unusable, then-is_unusable-via-else-is_unusable+then-is_unusable-2}

pub returns-then-is_unusable-clause-outcome : goal.returns-then-is_unusable-clause-outcome
returns-then-is_unusable-clause-outcome c =
    let e : print_numbers (refused_with (alone input_unusable)) ≡ program scottish (read_of c.args.holding) (read_of c.args.change) = elim c.then-is_unusable.branch [
      | then-is_unusable-via-then-is_unusable w ↦ first_18 _ _ (sym w.if-is_unusable.true ∙ c.is_unusable.ensures)
      | then-is_unusable-via-else-is_unusable+then-is_unusable-2 w ↦ second_18 _ _ (sym w.if-is_unusable-2.true ∙ w.is_unusable-else-is_unusable.ensures)
    ] in
    print_all _ _ _ _ _ e c.print_unusable.ensures.0 c.print_unusable.ensures.2

pub unwrap-requires : goal.unwrap-requires
unwrap-requires c = usable_some _ (sym c.if-is_unusable.false ∙ c.is_unusable.ensures)

pub unwrap-requires-2 : goal.unwrap-requires-2
unwrap-requires-2 c = usable_some _ (sym c.if-is_unusable-2.false ∙ c.is_unusable-else-is_unusable.ensures)

pub returns-clause-outcome : goal.returns-clause-outcome
returns-clause-outcome c =
    let a : bytes_of c.args.holding ≡ c.unwrap.result.now = ap bytes_of c.unwrap.ensures in
    let b : bytes_of c.args.change ≡ c.unwrap-2.result.now = ap bytes_of c.unwrap-2.ensures in
    print_all _ _ _ _ _ (rw (← a, ← b) (both_usable _ _ _ _ (sym c.if-is_unusable.false ∙ c.is_unusable.ensures) (sym c.if-is_unusable-2.false ∙ c.is_unusable-else-is_unusable.ensures))) c.print_load.ensures.0 c.print_load.ensures.2
