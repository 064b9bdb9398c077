-- The order of two, as code answers it.
use Rattle.std.specs.declared.cmp.Ordering.{Ordering}
use Rattle.std.specs.declared.cmp.Ordering.TheVariants.{Less, Equal, Greater}
use Rattle.theory.specs.Tri.{Tri, lt, eq, gt}

-- what an answer says
abbrev pub tri_of : Ordering → Tri
tri_of Less = lt
tri_of Equal = eq
tri_of Greater = gt
