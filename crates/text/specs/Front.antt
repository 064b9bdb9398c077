-- What a writer leaves in what it was lent.
use Rattle.std.specs.Prelude.{List, ◌++◌, ℕ, length, drop}

-- w in the front, and the rest as it was
unfoldable pub in_front : List ℕ → List ℕ → List ℕ
in_front w old = w ++ drop (length w) old
