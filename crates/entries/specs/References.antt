-- What a record refers to, as code answers it.
use Rattle.std.specs.Prelude as std
use Rattle.std.specs.Prelude.{◌≡◌, List, [], ◌∷◌, ℕ}
use Rattle.theory.specs.Store.{cons?}
use Rattle.meaning.specs.Records.{Rec}
use Rattle.keys.specs.declared.Key.{Key}
use Rattle.keys.specs.Numbers.{key_list, key_numbers, ref_numbers, referred_as}
use Rattle.entries.specs.declared.references.Named.{Named}

-- the keys that several rows of the table refer to, one after another
abbrev pub keys_as : List (std.Option Key) → List (List ℕ)
keys_as [] = []
keys_as (o ∷ os) = cons? (referred_as o) (keys_as os)

-- the keys that a record refers to
abbrev pub refs_as : Named → List (List ℕ)
refs_as r = keys_as r.to

-- a record's own key, and those that it refers to
pub record RefersAs (x : Rec) (r : Named) : Type 0 where
  pub own : key_list r.own ≡ key_numbers x
  pub refs : refs_as r ≡ ref_numbers x
