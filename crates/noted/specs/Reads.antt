-- What is read at a place of a line whose fields' ends are noted. Places count from 1, and the content begins with field 4.
use Rattle.std.specs.Prelude.{List, [], ℕ, ◌+◌, ◌-◌, eqb, ltb, get_or, take}
use Rattle.base.specs.Lists.{pick}
use Rattle.theory.specs.Decimal.{value}
use Rattle.meaning.specs.Lines.{fields_of}
use Rattle.keys.specs.Numbers.{digits_in}

-- the number of a field by its first byte: a text begins with a quote
unfoldable pub number_read : List ℕ → ℕ
number_read f = pick (eqb (get_or f 0 0) 34) (value (digits_in f)) (value (take 16 f))

-- the number of the field at a place of a line; a place before the content has none, which is 0
unfoldable pub number_placed : List ℕ → ℕ → ℕ
number_placed t p = pick (ltb p 4) 0 (number_read (get_or (fields_of t) (p - 1) []))

-- where the field at a place starts, by the ends of fields; 1 where there is none, or where it has no bytes
unfoldable pub start_placed : List ℕ → ℕ → ℕ
start_placed a p = pick (ltb p 4) 1 (pick (eqb (get_or a (p - 2) 0 + 1) (get_or a (p - 1) 0)) 1 (get_or a (p - 2) 0 + 1))
