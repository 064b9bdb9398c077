-- Laws of the order of numbers and of lists of numbers: what its answers mean, and that both are total orders.
use Rattle.std.specs.Prelude.{◌≡◌, refl, List, [], ◌∷◌, ℕ, zero, suc}
use Rattle.std.proofs.Common.{sym, ap₂, arith}
use Prim.Native.Nat.compare
use Rattle.theory.specs.Tri.{Tri, lt, eq, gt, flip}
use Rattle.theory.specs.Lex.{cmp_n, Is, and_then, lex}
use Rattle.theory.specs.Keyed.{Order}

-- ---- numbers

is_suc : (c : Tri) (m n : ℕ) → Is c m n → Is c (suc m) (suc n)
is_suc lt m n h = omega arith
is_suc eq m n h = omega arith
is_suc gt m n h = omega arith

-- the answer holds of the two numbers
pub cmp_n_is : (m n : ℕ) → Is (cmp_n m n) m n
unfolding cmp_n
cmp_n_is zero zero = refl
cmp_n_is zero (suc n) = rw (compare.zero-suc n) (omega arith)
cmp_n_is (suc m) zero = rw (compare.suc-zero m) (omega arith)
cmp_n_is (suc m) (suc n) = rw (compare.suc-suc m n) (is_suc (cmp_n m n) m n (cmp_n_is m n))

-- an answer that holds of the two numbers is the one that is given
pub is_cmp_n : (m n : ℕ) (c : Tri) → Is c m n → cmp_n m n ≡ c
is_cmp_n m n c h = go (cmp_n m n) c (cmp_n_is m n) h
  where
    go : (a b : Tri) → Is a m n → Is b m n → a ≡ b
    go lt lt p q = refl
    go lt eq p q = absurd (omega arith)
    go lt gt p q = absurd (omega arith)
    go eq lt p q = absurd (omega arith)
    go eq eq p q = refl
    go eq gt p q = absurd (omega arith)
    go gt lt p q = absurd (omega arith)
    go gt eq p q = absurd (omega arith)
    go gt gt p q = refl

is_flip : (c : Tri) (m n : ℕ) → Is c m n → Is (flip c) n m
is_flip lt m n h = h
is_flip eq m n h = sym h
is_flip gt m n h = h

cmp_n_turn : (a b : ℕ) → cmp_n b a ≡ flip (cmp_n a b)
cmp_n_turn a b = is_cmp_n b a (flip (cmp_n a b)) (is_flip (cmp_n a b) a b (cmp_n_is a b))

-- ---- lists

lex_same : (a : List ℕ) → lex a a ≡ eq
unfolding lex
lex_same [] = refl
lex_same (x ∷ xs) = rw (is_cmp_n x x eq refl) (lex_same xs)

lex_equal : (a b : List ℕ) → lex a b ≡ eq → a ≡ b
unfolding lex
lex_equal [] [] e = refl
lex_equal [] (y ∷ ys) e = cc
lex_equal (x ∷ xs) [] e = cc
lex_equal (x ∷ xs) (y ∷ ys) e = go (cmp_n x y) (cmp_n_is x y) e (λ e. lex_equal xs ys e)
  where
    go : (c : Tri) → Is c x y → and_then c (lex xs ys) ≡ eq → (lex xs ys ≡ eq → xs ≡ ys) → x ∷ xs ≡ y ∷ ys
    go lt h e ih = cc
    go eq h e ih = ap₂ (λ p q. p ∷ q) h (ih e)
    go gt h e ih = cc

flip_then : (c r : Tri) → and_then (flip c) (flip r) ≡ flip (and_then c r)
unfolding and_then
flip_then lt r = refl
flip_then eq r = refl
flip_then gt r = refl

lex_turn : (a b : List ℕ) → lex b a ≡ flip (lex a b)
unfolding lex
lex_turn [] [] = refl
lex_turn [] (y ∷ ys) = refl
lex_turn (x ∷ xs) [] = refl
lex_turn (x ∷ xs) (y ∷ ys) = rw (cmp_n_turn x y, lex_turn xs ys) (flip_then (cmp_n x y) (lex xs ys))

lex_chain : (a b c : List ℕ) → lex a b ≡ lt → lex b c ≡ lt → lex a c ≡ lt
unfolding lex
lex_chain [] [] c p q = cc
lex_chain [] (y ∷ ys) [] p q = cc
lex_chain [] (y ∷ ys) (z ∷ zs) p q = refl
lex_chain (x ∷ xs) [] c p q = cc
lex_chain (x ∷ xs) (y ∷ ys) [] p q = cc
lex_chain (x ∷ xs) (y ∷ ys) (z ∷ zs) p q = go (cmp_n x y) (cmp_n y z) (cmp_n_is x y) (cmp_n_is y z) p q (λ p q. lex_chain xs ys zs p q)
  where
    go : (c d : Tri) → Is c x y → Is d y z → and_then c (lex xs ys) ≡ lt → and_then d (lex ys zs) ≡ lt
        → (lex xs ys ≡ lt → lex ys zs ≡ lt → lex xs zs ≡ lt) → and_then (cmp_n x z) (lex xs zs) ≡ lt
    go lt lt h k p q ih = rw (is_cmp_n x z lt (omega arith))
    go lt eq h k p q ih = rw (is_cmp_n x z lt (omega arith))
    go lt gt h k p q ih = cc
    go eq lt h k p q ih = rw (is_cmp_n x z lt (omega arith))
    go eq eq h k p q ih = rw (is_cmp_n x z eq (omega arith)) (ih p q)
    go eq gt h k p q ih = cc
    go gt d h k p q ih = cc

-- the order of lists is a total order
pub lex_order : Order (List ℕ) lex
lex_order = record { same = lex_same; equal = lex_equal; turn = lex_turn; chain = lex_chain }
