-- A number summed over records, and a number or a test of a record that may be absent.
use Rattle.std.specs.Prelude.{Bool, true, List, [], ◌∷◌, ℕ, ◌+◌}
use Rattle.std.proofs.Math.Option.{Option, none, some}

-- the numbers of all elements, added up
abbrev pub sum : {A : Type 0} → (A → ℕ) → List A → ℕ
sum w [] = 0
sum w (x ∷ xs) = w x + sum w xs

-- the number of an element, and 0 where there is none
abbrev pub sum? : {A : Type 0} → (A → ℕ) → Option A → ℕ
sum? w none = 0
sum? w (some x) = w x

-- the test holds of an element, or there is none
abbrev pub all? : {A : Type 0} → (A → Bool) → Option A → Bool
all? p none = true
all? p (some x) = p x
