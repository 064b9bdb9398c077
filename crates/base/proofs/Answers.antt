-- How a function that answers by tests meets a definition made of the same tests, in the same order: `search tests` at each need.
use borrow.Author.Rules.{rules}
use borrow.Author.Tests.{not-true, not-false, lt-ltb, le-ltb, le-leb, lt-leb, eq-eqb, ne_eqb}

pub ruleset tests = (rules, not-true, not-false, lt-ltb, le-ltb, le-leb, lt-leb, eq-eqb, ne_eqb)
