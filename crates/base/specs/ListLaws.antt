-- Laws of lists: a test of every element, runs of bytes that are the same, and zeros.
use Rattle.std.specs.Prelude.{◌≡◌, refl, Bool, List, [], ◌∷◌, ◌++◌, ℕ, zero, suc, T, eqb, length, take, drop}
use Rattle.std.proofs.Common.{ap, ap₂, eqb→eq}
use Rattle.std.proofs.Math.Dec.{eqb_refl}
use Rattle.base.specs.Lists.{all, same, zeros}
use Rattle.base.specs.Tests.{and_in, and_l, and_r, bools}

-- ---- a test of every element

-- what follows from p for each element follows for all
pub all_map : {A : Type 0} (p q : A → Bool) → ((a : A) → T (p a) → T (q a)) → (l : List A) → T (all p l) → T (all q l)
all_map p q f [] t = tt
all_map p q f (x ∷ xs) t = and_in (q x) (all q xs) (f x (and_l (p x) (all p xs) t)) (all_map p q f xs (and_r (p x) (all p xs) t))

-- the same from two tests together
pub all_both : {A : Type 0} (p q r : A → Bool) → ((a : A) → T (p a) → T (q a) → T (r a)) → (l : List A) → T (all p l) → T (all q l) → T (all r l)
all_both p q r f [] s t = tt
all_both p q r f (x ∷ xs) s t =
    and_in (r x) (all r xs) (f x (and_l (p x) (all p xs) s) (and_l (q x) (all q xs) t))
    (all_both p q r f xs (and_r (p x) (all p xs) s) (and_r (q x) (all q xs) t))

-- tests that are equal at each element are equal over the list
pub all_cong : {A : Type 0} (p q : A → Bool) → ((a : A) → p a ≡ q a) → (l : List A) → all p l ≡ all q l
all_cong p q f [] = refl
all_cong p q f (x ∷ xs) = rw (f x, all_cong p q f xs)

-- one element more at the end
pub all_snoc : {A : Type 0} (p : A → Bool) (l : List A) (a : A) → T (all p l) → T (p a) → T (all p (l ++ (a ∷ [])))
all_snoc p [] a s t = search bools
all_snoc p (x ∷ l) a s t = and_in (p x) (all p (l ++ (a ∷ []))) (and_l (p x) (all p l) s) (all_snoc p l a (and_r (p x) (all p l) s) t)

-- two lists one after another
pub all_append : {A : Type 0} (p : A → Bool) (l m : List A) → T (all p l) → T (all p m) → T (all p (l ++ m))
all_append p [] m s t = t
all_append p (x ∷ l) m s t = and_in (p x) (all p (l ++ m)) (and_l (p x) (all p l) s) (all_append p l m (and_r (p x) (all p l) s) t)

-- and each of the two
pub append_all : {A : Type 0} (p : A → Bool) (l m : List A) → T (all p (l ++ m)) → T (all p l) × T (all p m)
append_all p [] m t = (tt, t)
append_all p (x ∷ l) m t = let h = append_all p l m (and_r (p x) (all p (l ++ m)) t) in (and_in (p x) (all p l) (and_l (p x) (all p (l ++ m)) t) h.0, h.1)

-- what is left after n elements
pub all_drop : {A : Type 0} (p : A → Bool) (n : ℕ) (l : List A) → T (all p l) → T (all p (drop n l))
all_drop p zero l t = t
all_drop p (suc n) [] t = tt
all_drop p (suc n) (x ∷ l) t = all_drop p n l (and_r (p x) (all p l) t)

-- and these n
pub all_take : {A : Type 0} (p : A → Bool) (n : ℕ) (l : List A) → T (all p l) → T (all p (take n l))
all_take p zero l t = tt
all_take p (suc n) [] t = tt
all_take p (suc n) (x ∷ l) t = and_in (p x) (all p (take n l)) (and_l (p x) (all p l) t) (all_take p n l (and_r (p x) (all p l) t))

-- ---- runs of bytes

-- a run is the same as itself
pub same_refl : (a : List ℕ) → T (same a a)
unfolding same
same_refl [] = tt
same_refl (x ∷ a) = and_in (eqb x x) (same a a) (eqb_refl x) (same_refl a)

-- runs that are the same are equal
pub same_eq : (a b : List ℕ) → T (same a b) → a ≡ b
unfolding same
same_eq [] [] t = refl
same_eq [] (y ∷ b) t = absurd t
same_eq (x ∷ a) [] t = absurd t
same_eq (x ∷ a) (y ∷ b) t = ap₂ (λ u v. u ∷ v) (eqb→eq x y (and_l (eqb x y) (same a b) t)) (same_eq a b (and_r (eqb x y) (same a b) t))

-- ---- zeros

-- so many zeros are so many
pub length_zeros : (n : ℕ) → length (zeros n) ≡ n
unfolding zeros
length_zeros zero = refl
length_zeros (suc n) = ap suc (length_zeros n)
