-- The laws by which what std answers of two numbers, two texts and two runs of bytes is what the meaning says.
use Rattle.std.specs.Prelude.{◌≡◌, refl, List, [], ◌∷◌, ℕ, ◌<◌}
use Rattle.std.specs.declared.cmp.Ordering.{Ordering}
use Rattle.std.specs.declared.cmp.Ordering.TheVariants.{Less, Equal, Greater}
use Rattle.std.specs.Ordering.{nat_cmp, ordering_then, MatchOrdering}
use Rattle.std.specs.Cmp.Lexicographic.{slice_cmp}
use Rattle.std.proofs.Common.{sym, ◌∙◌, ap₂}
use Rattle.std.proofs.lemmas.Cmp.{ranked}
use Rattle.theory.specs.Tri.{lt, eq, gt}
use Rattle.theory.specs.Lex.{cmp_n, and_then, lex}
use Rattle.theory.specs.LexLaws.{is_cmp_n}
use Rattle.text.specs.Order.{tri_of}

-- an answer that holds of two numbers is the meaning's
tri_ranked : (x y : ℕ) (r : Ordering) → MatchOrdering r (x < y) (x ≡ y) (y < x) → tri_of r ≡ cmp_n x y
tri_ranked x y Less h = sym (is_cmp_n x y lt h)
tri_ranked x y Equal h = sym (is_cmp_n x y eq h)
tri_ranked x y Greater h = sym (is_cmp_n x y gt h)

-- two numbers
pub tri_cmp : (x y : ℕ) → tri_of (nat_cmp x y) ≡ cmp_n x y
tri_cmp x y = tri_ranked x y (nat_cmp x y) (ranked x y (nat_cmp x y) refl)

-- the first answer of two
tri_then : (a b : Ordering) → tri_of (ordering_then a b) ≡ and_then (tri_of a) (tri_of b)
unfolding and_then
tri_then Less b = refl
tri_then Equal b = refl
tri_then Greater b = refl

-- two texts
pub tri_slice_cmp : (a b : List ℕ) → tri_of (slice_cmp nat_cmp a b) ≡ lex a b
unfolding lex
tri_slice_cmp [] [] = refl
tri_slice_cmp [] (y ∷ b) = refl
tri_slice_cmp (x ∷ a) [] = refl
tri_slice_cmp (x ∷ a) (y ∷ b) = tri_then (nat_cmp x y) (slice_cmp nat_cmp a b) ∙ ap₂ and_then (tri_cmp x y) (tri_slice_cmp a b)
