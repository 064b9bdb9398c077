-- What a look-up asks of the records in force: that they are sound and in the order of their keys, each with its tag beside it.
use Rattle.std.specs.Prelude.{◌≡◌, List, ℕ, ◌≤◌, T, length, take}
use Rattle.base.specs.Lists.{all}
use Rattle.theory.specs.Store.{Asc}
use Rattle.meaning.specs.Table.{scottish}
use Rattle.meaning.specs.Records.{keyed}
use Rattle.laws.specs.Body.{fine}
use Rattle.entries.specs.Tags.{tag_of}
use Rattle.places.specs.Places.{says}
use Rattle.places.specs.Counts.{by_key}

-- the first n entries say sound records in the order of their keys, and the first n tags are those of their keys
pub record Ordered (h f a g : List ℕ) (n : ℕ) : Type 0 where
  pub within : n ≤ length a
  pub asc : Asc (keyed scottish) (says h f a n)
  pub fines : T (all (fine scottish) (says h f a n))
  pub tagged : take n g ≡ by_key tag_of (says h f a n)
