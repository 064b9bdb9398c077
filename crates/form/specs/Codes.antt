-- One byte of a few, bare or in quotes.
use Rattle.std.specs.Prelude.{Bool, false, ◌||◌, List, [], ◌∷◌, ℕ, eqb}
use Rattle.meaning.specs.Forms.{quoted}

-- the byte is one of the codes
unfoldable pub among : ℕ → List ℕ → Bool
among b [] = false
among b (c ∷ cs) = eqb b c || among b cs

-- each code within its quotes
unfoldable pub in_quotes : List ℕ → List (List ℕ)
in_quotes [] = []
in_quotes (c ∷ cs) = quoted (c ∷ []) ∷ in_quotes cs
