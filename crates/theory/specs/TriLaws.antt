-- Laws of the three answers: a test that holds names the answer.
use Rattle.std.specs.Prelude.{◌≡◌, refl, T}
use Rattle.theory.specs.Tri.{Tri, lt, eq, gt, is_lt, is_gt}

-- where the test of less holds the answer is less
pub is_lt_lem : (c : Tri) → T (is_lt c) → c ≡ lt
is_lt_lem lt t = refl
is_lt_lem eq t = absurd t
is_lt_lem gt t = absurd t

-- where the test of greater holds the answer is greater
pub is_gt_lem : (c : Tri) → T (is_gt c) → c ≡ gt
is_gt_lem lt t = absurd t
is_gt_lem eq t = absurd t
is_gt_lem gt t = refl
