-- Paper 02, request 01: what the place of a field is, said of any test of a field.
use Rattle.std.specs.Prelude.{◌≡◌, Bool, not, List, ◌++◌, ℕ, ◌+◌, ◌-◌, ◌≤◌, T, length, take}

-- where a field that is not sound stops
pub record Stops (sound : List ℕ → Bool) (f : List ℕ) (p : ℕ) : Type 0 where
  -- places are counted from 1
  pub from1 : 1 ≤ p
  -- the last of them is one past the end, of a field that stops too soon
  pub at_most : p ≤ length f + 1
  -- some rest makes the bytes before the place a sound field
  pub before : (r : List ℕ) × T (sound (take (p - 1) f ++ r))
  -- with the byte at the place, where there is one, no rest does
  pub here : p ≤ length f → (r : List ℕ) → T (sound (take p f ++ r)) → ⊥

-- p is the place of the field f
pub record Placed (sound : List ℕ → Bool) (f : List ℕ) (p : ℕ) : Type 0 where
  -- a sound field has none, which is written 0
  pub none : T (sound f) → p ≡ 0
  -- any other field stops there
  pub some : T (not (sound f)) → Stops sound f p
