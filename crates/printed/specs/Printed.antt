-- The words in which the code says what is printed of an answer and an output.
use Rattle.std.specs.Prelude.{List, [], ◌∷◌, ◌++◌, ℕ, zero, suc, ◌+◌, ◌*◌, length}
use Rattle.theory.specs.Decimal.{dec}
use Rattle.meaning.specs.Answers.{alone, number_list, refused_with}

-- the most bytes of an answer's numbers: none has more than 20 digits, and after each stands a comma, after the last CR LF
abbrev pub most_of_numbers : ℕ
most_of_numbers = 1 + 21 * length (number_list (refused_with (alone 0)))

-- a number, and what stands after it
unfoldable pub number_then : ℕ → List ℕ → List ℕ
number_then n mark = dec n ++ mark

-- three numbers with commas, and what stands after them
unfoldable pub three_then : ℕ → ℕ → ℕ → List ℕ → List ℕ
three_then a b c mark = number_then a (44 ∷ []) ++ (number_then b (44 ∷ []) ++ number_then c mark)

-- a byte in front of what is left of those after it: a zero stays only where something is left
unfoldable pub on_bare : ℕ → List ℕ → List ℕ
on_bare zero [] = []
on_bare zero (y ∷ ys) = 0 ∷ (y ∷ ys)
on_bare (suc x) ys = suc x ∷ ys

-- what stands before the zeros at the end
unfoldable pub bare : List ℕ → List ℕ
bare [] = []
bare (x ∷ xs) = on_bare x (bare xs)
