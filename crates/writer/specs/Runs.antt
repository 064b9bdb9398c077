-- Lines one after another: the undo's body, by the entries that a run of steps leaves.
use Rattle.std.specs.Prelude.{List, ℕ}
use Rattle.meaning.specs.Records.{change_texts, joined}
use Rattle.places.specs.Changes.{steps_back}

-- the lines of the first n steps taken back, numbered from 1
unfoldable pub back_texts : List ℕ → List ℕ → List ℕ → List ℕ → ℕ → List ℕ
back_texts h f steps before n = joined (change_texts 1 (steps_back h f steps before n))
