-- `Reader`'s `next` meets its contract.
use Rattle.std.proofs.Common.{arith, ap, length}
use Rattle.reader.proofs.ReaderLaws.{left_none, left_first}
use Rattle.reader.proofs.ReaderIterator.next.Goals as goal

pub returns-then-self-clause-steps : goal.returns-then-self-clause-steps
returns-then-self-clause-steps c = let none = left_none c.args.self.now.file.now c.args.self.now.at c.if-self.true in (none, none)

pub returns-clause-steps : goal.returns-clause-steps
returns-clause-steps c = left_first _ _ _ _ _ c.if-self.false c.line-line.ensures.bytes c.advance.ensures.0 c.advance.ensures.1

pub returns-clause-goes : goal.returns-clause-goes
returns-clause-goes c =
    let first = left_first _ _ _ _ _ c.if-self.false c.line-line.ensures.bytes c.advance.ensures.0 c.advance.ensures.1 in
    record { on = λ f. (tt, tt, omega (arith, ap length first)); keeps = tt; rests = λ f. tt }
