-- The three answers of a comparison.
use Rattle.std.specs.Prelude.{Bool, true, false}

-- the first is less, both are equal, or the first is greater
pub data Tri : Type 0 where
  lt eq gt : Tri

-- the answer with the two sides exchanged
abbrev pub flip : Tri → Tri
flip lt = gt
flip eq = eq
flip gt = lt

-- both are equal
abbrev pub is_eq : Tri → Bool
is_eq lt = false
is_eq eq = true
is_eq gt = false

-- the first is less
abbrev pub is_lt : Tri → Bool
is_lt lt = true
is_lt eq = false
is_lt gt = false

-- the first is greater
abbrev pub is_gt : Tri → Bool
is_gt lt = false
is_gt eq = false
is_gt gt = true
