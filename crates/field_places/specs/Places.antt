-- How a place is tested: what the definition gives of a single field against what the reference gave.
use Rattle.std.specs.Prelude.{true, false, List, [], ◌∷◌, ℕ, suc}
use Rattle.base.specs.Lists.{pick, same}
use Rattle.meaning.specs.Forms.{Form, by_characters}
use Rattle.meaning.specs.Place.{place_as}

-- the numbers of the fields whose places do not agree: where a field must be filled, and where it may be empty
unfoldable pub misses : ℕ → List (Form × List ℕ × List ℕ) → List ℕ
misses n [] = []
misses n (c ∷ cs) =
    pick (same (place_as by_characters c.0 true c.1 ∷ place_as by_characters c.0 false c.1 ∷ []) c.2) (misses (suc n) cs) (n ∷ misses (suc n) cs)
