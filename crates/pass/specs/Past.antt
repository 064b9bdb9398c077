-- What is known of a field that was passed.
use Rattle.std.specs.Prelude.{◌≡◌, Bool, true, List, ℕ, ◌≤◌, ◌<◌, Option, IfSome, length}
use Rattle.words.specs.Words.{upto}

-- a field was seen from `at` up to r, and a byte stands there; test says what was tested of it
pub record Seen (test : List ℕ → Bool) (s : List ℕ) (at r : ℕ) : Type 0 where
  pub forward : at ≤ r
  pub inside : r < length s
  pub holds : test (upto s at r) ≡ true

-- if an end was found, a field was seen up to it
abbrev pub Past : (List ℕ → Bool) → List ℕ → ℕ → Option ℕ → Type 0
Past test s at r = IfSome r (λ e. Seen test s at e)
