-- The laws of a tidy field: what follows it is cut, counted and noted as if it stood alone.
use mathlib.Core.Path.{◌≡◌, refl, ◌∙◌}
use mathlib.Core.Bool.{Bool, true, false, not, ◌&&◌}
use mathlib.Core.List.{List, [], ◌∷◌, ◌++◌}
use Prim.Native.Nat.{ℕ, suc, ◌+◌}
use native.Mathlib.Nat.{add-zero}
use native.Mathlib.Omega.{arith}
use lib.Dec.{T}
use lib.ListN.{length}
use Rattle.base.specs.Lists.{all}
use Rattle.base.specs.Tests.{and_in, and_l, and_r, T_true, T_false}
use Rattle.meaning.specs.Lines.{is_sep, turned, plain, add_byte, fields_from, quote_after}
use Rattle.text.specs.Places.{ends_from, plain_len}
use Rattle.pass.specs.Tidy.{tidy}

-- bytes in front of the first of some fields
unfoldable pub in_first : List ℕ → List (List ℕ) → List (List ℕ)
in_first [] fs = fs
in_first (x ∷ f) fs = add_byte false x (in_first f fs)

-- in front of an empty field they are that field
pub first_alone : (f : List ℕ) (fs : List (List ℕ)) → in_first f ([] ∷ fs) ≡ f ∷ fs
unfolding in_first add_byte
first_alone [] fs = refl
first_alone (x ∷ f) fs = rw (first_alone f fs)

-- ---- the first byte

-- it is no separator
here : (q : Bool) (x : ℕ) (f : List ℕ) → T (tidy q (x ∷ f)) → is_sep q x ≡ false
unfolding tidy
here q x f h = T_false (is_sep q x) (and_l (not (is_sep q x)) (plain x) (and_l (not (is_sep q x) && plain x) (tidy (turned q x) f) h))

-- it is plain
flat : (q : Bool) (x : ℕ) (f : List ℕ) → T (tidy q (x ∷ f)) → T (plain x)
unfolding tidy
flat q x f h = and_r (not (is_sep q x)) (plain x) (and_l (not (is_sep q x) && plain x) (tidy (turned q x) f) h)

-- and what is left is tidy
on : (q : Bool) (x : ℕ) (f : List ℕ) → T (tidy q (x ∷ f)) → T (tidy (turned q x) f)
unfolding tidy
on q x f h = and_r (not (is_sep q x) && plain x) (tidy (turned q x) f) h

-- ---- what follows a tidy field

-- its bytes stand in the first field
pub tidy_fields : (q : Bool) (f t : List ℕ) → T (tidy q f) → fields_from q (f ++ t) ≡ in_first f (fields_from false t)
unfolding tidy fields_from in_first
tidy_fields true [] t h = absurd h
tidy_fields false [] t h = refl
tidy_fields q (x ∷ f) t h = rw (here q x f h, tidy_fields (turned q x) f t (on q x f h))

-- quoting is shut
pub tidy_quotes : (q : Bool) (f t : List ℕ) → T (tidy q f) → quote_after q (f ++ t) ≡ quote_after false t
unfolding tidy quote_after
tidy_quotes true [] t h = absurd h
tidy_quotes false [] t h = refl
tidy_quotes q (x ∷ f) t h = tidy_quotes (turned q x) f t (on q x f h)

-- no field ends in it
pub tidy_ends : (q : Bool) (i : ℕ) (f t : List ℕ) → T (tidy q f) → ends_from q i (f ++ t) ≡ ends_from false (i + length f) t
unfolding tidy ends_from
tidy_ends true i [] t h = absurd h
tidy_ends false i [] t h = rw (add-zero i)
tidy_ends q i (x ∷ f) t h =
    let n : suc i + length f ≡ i + suc (length f) = omega arith in
    rw (here q x f h, tidy_ends (turned q x) (suc i) f t (on q x f h), n)

-- each of its bytes is plain
pub tidy_plain : (q : Bool) (f : List ℕ) → T (tidy q f) → T (all plain f)
tidy_plain q [] h = tt
tidy_plain q (x ∷ f) h = and_in (plain x) (all plain f) (flat q x f h) (tidy_plain (turned q x) f (on q x f h))

-- ---- a field that a comma follows, and one that nothing does

-- it is the first of the fields
pub before_comma : (f t : List ℕ) → T (tidy false f) → fields_from false (f ++ (44 ∷ t)) ≡ f ∷ fields_from false t
unfolding fields_from is_sep turned add_byte
before_comma f t h = tidy_fields false f (44 ∷ t) h ∙ first_alone f (fields_from false t)

-- it is the only one
pub at_last : (f : List ℕ) → T (tidy false f) → fields_from false (f ++ []) ≡ f ∷ []
unfolding fields_from
at_last f h = tidy_fields false f [] h ∙ first_alone f []

-- ---- plain bytes are passed by, and a CR isn't

pub plain_past : (p r : List ℕ) → T (all plain p) → plain_len (p ++ r) ≡ length p + plain_len r
unfolding plain_len
plain_past [] r h = omega arith
plain_past (x ∷ p) r h = rw (T_true (plain x) (and_l (plain x) (all plain p) h)) (omega (arith, plain_past p r (and_r (plain x) (all plain p) h)))

pub plain_before : (p r : List ℕ) → T (all plain p) → plain_len (p ++ (13 ∷ r)) ≡ length p
plain_before p r h = plain_past p (13 ∷ r) h ∙ (unfold plain_len plain in add-zero (length p))
