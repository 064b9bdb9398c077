-- The tables can fail: a field with one wrong place is found.
use Rattle.std.specs.Prelude.{◌≡◌, refl, List, [], ◌∷◌, ℕ}
use Rattle.meaning.specs.Forms.{Form, number}
use Rattle.meaning.specs.Computes.{computed}
use Rattle.field_places.specs.Places.{misses}

-- no bytes: 1 where a number must be filled and 0 where it may be empty, where the row says which places are wanted
unfoldable pub empty : ℕ → ℕ → Form × List ℕ × List ℕ
empty must may = (number 4, [], must ∷ may ∷ [])

-- of four such rows, the two that want another place are named
pub control : misses 0 (empty 1 0 ∷ empty 2 0 ∷ empty 1 0 ∷ empty 1 1 ∷ []) ≡ 1 ∷ 3 ∷ []
unfolding computed misses empty
control = refl
