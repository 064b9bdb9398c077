-- The numbers of a content's fields by their places in the line, which count from 1: the content begins with field 4.
use Rattle.std.specs.Prelude.{Bool, true, List, [], ℕ, ◌-◌, ltb, get_or}
use Rattle.base.specs.Lists.{pick}
use Rattle.meaning.specs.Lines.{fields_of}
use Rattle.meaning.specs.Forms.{is_empty}
use Rattle.meaning.specs.Kinds.{Kind}
use Rattle.layout.specs.Rows.{row_of}
use Rattle.keys.specs.Numbers.{number_of}

-- the field of a content at a place; one that is not there has no bytes
unfoldable pub field_at : List ℕ → ℕ → List ℕ
field_at c p = get_or (fields_of c) (p - 4) []

-- the number of the field at a place; a place before the content has none, which is 0
unfoldable pub number_at : Kind → List ℕ → ℕ → ℕ
number_at k c p = pick (ltb p 4) 0 (number_of (row_of k (p - 1)).0 (field_at c p))

-- the field at a place refers to nothing: it is empty, or there is none
unfoldable pub empty_at : Kind → List ℕ → ℕ → Bool
empty_at k c p = pick (ltb p 4) true (is_empty (row_of k (p - 1)).0 (field_at c p))
