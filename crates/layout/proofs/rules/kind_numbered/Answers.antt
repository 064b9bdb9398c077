-- `layout::rules::kind_numbered` meets its contract.
use borrow.Author.Tests.{ne_eqb}
use Rattle.meaning.specs.Kinds.{kinds, ident, numbered_among}
use Rattle.base.specs.Lists.{bytes}
use Rattle.theory.specs.Decimal.{value, value_f}
use Rattle.layout.proofs.rules.kind_numbered.Goals as goal

pub returns-in-10 : goal.returns-in-10
unfolding numbered_among kinds ident bytes value value_f
returns-in-10 c = rw c.in-10.is

pub returns-in-11 : goal.returns-in-11
unfolding numbered_among kinds ident bytes value value_f
returns-in-11 c = rw c.in-11.is

pub returns-in-12 : goal.returns-in-12
unfolding numbered_among kinds ident bytes value value_f
returns-in-12 c = rw c.in-12.is

pub returns-in-21 : goal.returns-in-21
unfolding numbered_among kinds ident bytes value value_f
returns-in-21 c = rw c.in-21.is

pub returns-in-23 : goal.returns-in-23
unfolding numbered_among kinds ident bytes value value_f
returns-in-23 c = rw c.in-23.is

pub returns-in-24 : goal.returns-in-24
unfolding numbered_among kinds ident bytes value value_f
returns-in-24 c = rw c.in-24.is

pub returns-in-29 : goal.returns-in-29
unfolding numbered_among kinds ident bytes value value_f
returns-in-29 c = rw c.in-29.is

pub returns-in-99 : goal.returns-in-99
unfolding numbered_among kinds ident bytes value value_f
returns-in-99 c = rw c.in-99.is

pub returns-in_default : goal.returns-in_default
unfolding numbered_among kinds ident bytes value value_f
returns-in_default c = let r = c.in_default.in_default-own.rest in simp (ne_eqb _ _ r.1, ne_eqb _ _ r.0.1, ne_eqb _ _ r.0.0.1, ne_eqb _ _ r.0.0.0.1, ne_eqb _ _ r.0.0.0.0.1, ne_eqb _ _ r.0.0.0.0.0.1, ne_eqb _ _ r.0.0.0.0.0.0.1, ne_eqb _ _ r.0.0.0.0.0.0.0.1)
