-- What stands in a line after some of its fields, the field that stands first there, and what it refers to.
use Rattle.std.specs.Prelude.{Bool, false, ◌&&◌, List, [], ◌∷◌, ℕ, zero, suc, ◌+◌, ◌-◌, eqb, leb, ltb, length, get_or, take}
use Rattle.std.proofs.Math.Option.{Option, none, some}
use Rattle.base.specs.Lists.{pick}
use Rattle.meaning.specs.Lines.{after_field}
use Rattle.meaning.specs.Forms.{Form, is_empty}
use Rattle.meaning.specs.Kinds.{Kind}
use Rattle.text.specs.Places.{field_len}
use Rattle.layout.specs.Rows.{laid_out}
use Rattle.keys.specs.Numbers.{number_of}
use Rattle.keys.specs.Places.{number_at}

-- what stands after n fields
unfoldable pub after_fields : ℕ → List ℕ → List ℕ
after_fields zero t = t
after_fields (suc n) t = after_fields n (after_field false t)

-- the first field, with its quotes
unfoldable pub first_field : List ℕ → List ℕ
first_field t = take (field_len false t) t

-- the line at an offset begins with two bytes before a comma
unfoldable pub paired : List ℕ → ℕ → Bool
paired s at = leb 3 (length s - at) && (ltb 44 (get_or s at 0) && (ltb 44 (get_or s (at + 1) 0) && eqb (get_or s (at + 2) 0) 44))

-- and one between quotes before another follows, as in a held line
unfoldable pub lettered : List ℕ → ℕ → Bool
lettered s at = leb 7 (length s - at) && (eqb (get_or s (at + 3) 0) 34 && (ltb 44 (get_or s (at + 4) 0) && (eqb (get_or s (at + 5) 0) 34 && eqb (get_or s (at + 6) 0) 44)))

-- the second and third numbers of the key of a kind's content
unfoldable pub rest_numbers : Kind → List ℕ → List ℕ
rest_numbers k c = number_at k c (get_or (laid_out k).key 1 0) ∷ number_at k c (get_or (laid_out k).key 2 0) ∷ []

-- the key of a kind's number that a field refers to; an empty one refers to nothing
unfoldable pub by_field : Form → List ℕ → ℕ → Option (List ℕ)
by_field m f to = pick (is_empty m f) none (some (to ∷ number_of m f ∷ 0 ∷ 0 ∷ []))
