-- Where in a state a key stands, as code that scans or searches sees it.
use Rattle.std.specs.Prelude.{Bool, ℕ, suc}
use Rattle.std.proofs.Math.Option.{Option, none, some}
use mathlib.Core.List.{List, [], ◌∷◌}
use Rattle.theory.specs.Tri.{Tri, lt, eq, gt, is_gt}
use Rattle.theory.specs.Keyed.{Keyed}

-- how many records stand at a key: one or none
abbrev pub hit : {A : Type 0} → Option A → ℕ
hit none = 0
hit (some x) = 1

module _ (K : Keyed) where
  open K use {Key, Rec, cmp, key}

  -- the record stands before the key
  unfoldable pub ahead : Key → Rec → Bool
  ahead k x = is_gt (cmp k (key x))

  -- the count, once the key is compared with the first record's: none, or one more than in the rest
  unfoldable pub ranks : Tri → ℕ → ℕ
  ranks lt n = 0
  ranks eq n = 0
  ranks gt n = suc n

  -- how many records stand before the key
  unfoldable pub rank : Key → List Rec → ℕ
  unfolding ranks
  rank k [] = 0
  rank k (x ∷ xs) = ranks (cmp k (key x)) (rank k xs)
