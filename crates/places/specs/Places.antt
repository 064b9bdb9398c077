-- The records in force as an array of places, each of which is an entry.
use Rattle.std.specs.Prelude.{Bool, true, ◌&&◌, List, ◌∷◌, ◌++◌, map, ℕ, ◌+◌, ◌-◌, take, drop}
use Rattle.std.proofs.Math.Option.{Option, none, some}
use Rattle.theory.specs.Refs.{apart, has}
use Rattle.meaning.specs.Records.{Rec}
use Rattle.keys.specs.Numbers.{numbered}
use Rattle.entries.specs.Entries.{record_of}

-- the records that the first n entries say
unfoldable pub says : List ℕ → List ℕ → List ℕ → ℕ → List Rec
says h f a n = map (record_of h f) (take n a)

-- the array once the elements from i up to n have made room for v
unfoldable pub opened : {A : Type 0} → List A → ℕ → ℕ → A → List A
opened a n i v = take i a ++ (v ∷ (take (n - i) (drop i a) ++ drop (n + 1) a))

-- the array once the elements after i and below n have closed up
unfoldable pub closed : {A : Type 0} → List A → ℕ → ℕ → List A
closed a n i = take i a ++ (take (n - (i + 1)) (drop (i + 1) a) ++ drop (n - 1) a)

-- what a record with the key `own` refers to by one row is met: nothing, or the key of a record of st that is not its own
unfoldable pub met_by : List Rec → List ℕ → Option (List ℕ) → Bool
met_by st own none = true
met_by st own (some k) = apart numbered k own && has numbered st k
