-- References: every key that a record refers to is that of another record in the state.
use Rattle.std.specs.Prelude.{Bool, not, ◌&&◌, List}
use Rattle.base.specs.Lists.{all, some?}
use Rattle.theory.specs.Tri.{is_eq}
use Rattle.theory.specs.Keyed.{Keyed}
use Rattle.theory.specs.Store.{get}

module _ (K : Keyed) where
  open K use {Key, Rec, cmp}

  -- two keys are not equal
  unfoldable pub apart : Key → Key → Bool
  apart j k = not (is_eq (cmp j k))

  -- a record stands at the key
  unfoldable pub has : List Rec → Key → Bool
  has st k = some? (get K k st)

module _ (K : Keyed) (refs : K.Rec → List K.Key) where
  open K use {Key, Rec, key}

  -- every key that the record refers to is in the state, and is not its own
  unfoldable pub meets : List Rec → Rec → Bool
  meets st r = all (λ k. apart K k (key r) && has K st k) (refs r)

  -- every reference of every record in the state is met
  unfoldable pub met : List Rec → Bool
  met st = all (meets st) st

  -- the record does not refer to the key
  unfoldable pub clear : Key → Rec → Bool
  clear k r = all (λ j. apart K j k) (refs r)
