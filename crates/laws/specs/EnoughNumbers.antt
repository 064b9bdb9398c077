-- Paper 02, request 01: whatever begins a number, with a point or without, goes on with the end of a sample.
use Rattle.std.specs.Prelude.{◌≡◌, refl, Bool, true, false, not, ◌&&◌, ◌⊎◌, List, [], ◌∷◌, ◌++◌, ℕ, zero, suc, ◌+◌, ◌-◌, ◌*◌, ◌≤◌, T, leb, eqb, length, drop, replicate}
use Rattle.std.proofs.Common.{ap, inl, inr, append-nil, append_assoc, arith, leb→le, le→leb, eqb→eq, length-append, length-drop}
use Rattle.std.proofs.Math.Decide.{dec_le}
use Rattle.std.proofs.lemmas.List.{length-replicate}
use Rattle.std.proofs.Math.Facts.{yes_eqb}
use Rattle.base.specs.Lists.{all, pick, up_to, past, bytes}
use Rattle.base.specs.Tests.{and_in, and_l, and_r, T_false}
use Rattle.base.specs.ListLaws.{all_append, append_all, all_drop}
use Rattle.theory.specs.Decimal.{value, value_f}
use Rattle.meaning.specs.Forms.{number, at_least1, decimal, is_digit, is_number, is_digits, unsigned, is_decimal}
use Rattle.meaning.specs.Place.{begins, samples}
use Rattle.laws.specs.PlaceLaws.{begins_first, begins_now, begins_carry, Enough}

-- ---- lists

-- no bytes are none
pub no_bytes : (r : List ℕ) → length r ≡ 0 → r ≡ []
no_bytes [] h = refl
no_bytes (x ∷ r) h = absurd (omega arith)

-- and of one that passes it, so many times
all_replicate : (t : ℕ → Bool) (n x : ℕ) → T (t x) → T (all t (replicate n x))
all_replicate t zero x u = tt
all_replicate t (suc n) x u = and_in (t x) (all t (replicate n x)) u (all_replicate t n x u)

-- ---- N w

-- one digit or more, at most w, are a number
number_in : (w : ℕ) (f : List ℕ) → 1 ≤ length f → length f ≤ w → T (all is_digit f) → T (is_number w f)
unfolding is_number
number_in w f l h d = and_in (leb 1 (length f)) _ (le→leb 1 (length f) l) (and_in (leb (length f) w) (all is_digit f) (le→leb (length f) w h) d)

-- and a number is such digits
record Number (w : ℕ) (f : List ℕ) : Type 0 where
  low : 1 ≤ length f
  high : length f ≤ w
  each : T (all is_digit f)

number_out : (w : ℕ) (f : List ℕ) → T (is_number w f) → Number w f
unfolding is_number
number_out w f t =
    let u = and_r (leb 1 (length f)) (leb (length f) w && all is_digit f) t in
    record {
      low = leb→le 1 (length f) (and_l (leb 1 (length f)) (leb (length f) w && all is_digit f) t);
      high = leb→le (length f) w (and_l (leb (length f) w) (all is_digit f) u);
      each = and_r (leb (length f) w) (all is_digit f) u;
    }

-- the first of a number's digits are a number
number_front : (w : ℕ) (x : ℕ) (q r : List ℕ) → T (is_number w ((x ∷ q) ++ r)) → T (is_number w (x ∷ q))
number_front w x q r t =
    let n = number_out w ((x ∷ q) ++ r) t in
    number_in w (x ∷ q) (omega arith) (omega (arith, n.high, length-append (x ∷ q) r)) (append_all is_digit (x ∷ q) r n.each).0

-- no bytes go on with a 1; digits are a number already
pub enough_number : (w : ℕ) → Enough (is_number w) (samples (number w))
unfolding samples bytes is_digit
enough_number w [] r t = let n = number_out w r t in begins_first (is_number w) [] (bytes "1") [] 0 (number_in w (49 ∷ []) (omega arith) (omega (arith, n.low, n.high)) tt)
enough_number w (x ∷ q) r t = begins_now (is_number w) (x ∷ q) (bytes "1") [] (number_front w x q r t)

-- ---- N w, at least 1

-- digits that end in 1 are worth 1 or more
ends_1 : (a : ℕ) (p : List ℕ) → 1 ≤ value_f a (p ++ (49 ∷ []))
unfolding value_f
ends_1 a [] = omega arith
ends_1 a (x ∷ p) = ends_1 (a * 10 + (x - 48)) p

-- a number of at least 1
unfoldable pub at_least : ℕ → List ℕ → Bool
at_least w f = is_number w f && leb 1 (value f)

-- digits with room for one more go on with a 1
ends_in_1 : (w : ℕ) (p : List ℕ) → T (all is_digit p) → suc (length p) ≤ w → T (at_least w (p ++ (49 ∷ [])))
unfolding at_least is_digit value
ends_in_1 w p d h =
    and_in (is_number w (p ++ (49 ∷ []))) (leb 1 (value (p ++ (49 ∷ []))))
    (number_in w (p ++ (49 ∷ [])) (omega (arith, length-append p (49 ∷ []))) (omega (arith, length-append p (49 ∷ []))) (all_append is_digit p (49 ∷ []) d tt))
    (le→leb 1 (value (p ++ (49 ∷ []))) (ends_1 0 p))

-- where there is room, digits go on with a 1; where there is none, nothing follows
pub enough_at_least : (w : ℕ) → Enough (at_least w) (samples (at_least1 w))
unfolding samples bytes at_least
enough_at_least w p r t = elim (dec_le (suc (length p)) w) [ yes h ↦ more h | no h ↦ full h ]
  where
    n : Number w (p ++ r)
    n = number_out w (p ++ r) (and_l (is_number w (p ++ r)) (leb 1 (value (p ++ r))) t)

    more : suc (length p) ≤ w → T (begins (at_least w) (bytes "1" ∷ []) p)
    more h = begins_first (at_least w) p (bytes "1") [] 0 (ends_in_1 w p (append_all is_digit p r n.each).0 h)

    full : (suc (length p) ≤ w → ⊥) → T (begins (at_least w) (bytes "1" ∷ []) p)
    full h =
        let z : r ≡ [] = no_bytes r (omega (arith, n.high, length-append p r)) in
        begins_now (at_least w) p (bytes "1") [] (rw (z, append-nil) at t)

-- ---- N w.d

-- d digits
pub digits_in_lem : (d : ℕ) (f : List ℕ) → length f ≡ d → T (all is_digit f) → T (is_digits d f)
unfolding is_digits
digits_in_lem d f h t = and_in (eqb (length f) d) (all is_digit f) (yes_eqb h) t

-- they are d bytes
pub digits_length : (d : ℕ) (f : List ℕ) → T (is_digits d f) → length f ≡ d
unfolding is_digits
digits_length d f t = eqb→eq (length f) d (and_l (eqb (length f) d) (all is_digit f) t)

-- and each is a digit
pub digits_each : (d : ℕ) (f : List ℕ) → T (is_digits d f) → T (all is_digit f)
unfolding is_digits
digits_each d f t = and_r (eqb (length f) d) (all is_digit f) t

-- a byte that is no point
clear : ℕ → Bool
clear x = not (eqb x 46)

-- bytes with no point stand before the first point
up_to_clear : (q r : List ℕ) → T (all clear q) → up_to 46 (q ++ r) ≡ q ++ up_to 46 r
unfolding up_to clear
up_to_clear [] r t = refl
up_to_clear (x ∷ q) r t =
    rw (T_false (eqb x 46) (and_l (clear x) (all clear q) t), up_to_clear q r (and_r (clear x) (all clear q) t))

-- and none of them after it
past_clear : (q r : List ℕ) → T (all clear q) → past 46 (q ++ r) ≡ past 46 r
unfolding past clear
past_clear [] r t = refl
past_clear (x ∷ q) r t = rw (T_false (eqb x 46) (and_l (clear x) (all clear q) t), past_clear q r (and_r (clear x) (all clear q) t))

-- there is a point: what stands before the first, and what after it
Pointed : List ℕ → Type 0
Pointed q = (a : List ℕ) × (b : List ℕ) × (q ≡ a ++ (46 ∷ b)) × T (all clear a)

-- there is none, or there is
point_view : (q : List ℕ) → T (all clear q) ⊎ Pointed q
unfolding clear Pointed
point_view [] = inl tt
point_view (x ∷ q) = go (eqb x 46) refl (point_view q)
  where
    go : (b : Bool) → eqb x 46 ≡ b → T (all clear q) ⊎ Pointed q → T (clear x && all clear q) ⊎ Pointed (x ∷ q)
    go true e v = inr ([], q, ap (λ y. y ∷ q) (eqb→eq x 46 (rw e tt)), tt)
    go false e (inl t) = inl (and_in (clear x) (all clear q) (rw e tt) t)
    go false e (inr v) = inr (x ∷ v.0, v.1, ap (λ l. x ∷ l) v.2, and_in (clear x) (all clear v.0) (rw e tt) v.3)

-- a number with a point and no minus
pointed : ℕ → ℕ → List ℕ → Bool
pointed w d g = is_number w (up_to 46 g) && is_digits d (past 46 g)

-- a number, a point, so many digits
pointed_in : (w d : ℕ) (a b : List ℕ) → T (all clear a) → T (is_number w a) → T (is_digits d b) → T (pointed w d (a ++ (46 ∷ b)))
unfolding pointed up_to past
pointed_in w d a b c n t = rw (up_to_clear a (46 ∷ b) c, past_clear a (46 ∷ b) c, append-nil a) (and_in (is_number w a) (is_digits d b) n t)

-- noughts are digits
pub noughts : (d : ℕ) → T (is_digits d (replicate d 48))
unfolding is_digit
noughts d = digits_in_lem d (replicate d 48) (length-replicate d 48) (all_replicate is_digit d 48 tt)

-- one nought is a number
nought : (w : ℕ) → 1 ≤ w → T (is_number w (48 ∷ []))
unfolding is_digit
nought w h = number_in w (48 ∷ []) (omega arith) h tt

-- a whole number with its point and some of the digits goes on with noughts
point_more : (w d : ℕ) (a b r : List ℕ) → T (all clear a) → T (pointed w d (a ++ (46 ∷ (b ++ r)))) → T (pointed w d (a ++ (46 ∷ (b ++ drop (length b) (replicate d 48)))))
unfolding pointed up_to past is_digit
point_more w d a b r c t =
    let u : T (is_number w a && is_digits d (b ++ r)) = rw (up_to_clear a (46 ∷ (b ++ r)) c, past_clear a (46 ∷ (b ++ r)) c, append-nil a) at t in
    let z = and_r (is_number w a) (is_digits d (b ++ r)) u in
    let e : List ℕ = drop (length b) (replicate d 48) in
    pointed_in w d a (b ++ e) c (and_l (is_number w a) (is_digits d (b ++ r)) u)
    (digits_in_lem d (b ++ e) (omega (arith, digits_length d (b ++ r) z, length-append b r, length-append b e, length-drop {A = ℕ} (length b) (replicate d 48), length-replicate {A = ℕ} d 48))
    (all_append is_digit b e (append_all is_digit b r (digits_each d (b ++ r) z)).0 (all_drop is_digit (length b) (replicate d 48) (all_replicate is_digit d 48 tt))))

-- the sample
abbrev point_sample : ℕ → List ℕ
point_sample d = 48 ∷ 46 ∷ replicate d 48

-- no bytes go on with 0.00, a whole number with .00, and past the point as many noughts as are left
enough_pointed : (w d : ℕ) → Enough (pointed w d) (samples (decimal w d))
unfolding samples bytes pointed Pointed clear
enough_pointed w d q r t = go q (point_view q) t
  where
    go : (q : List ℕ) → T (all clear q) ⊎ Pointed q → T (pointed w d (q ++ r)) → T (begins (pointed w d) (point_sample d ∷ []) q)
    go [] (inl c) t =
        let n = number_out w (up_to 46 r) (and_l (is_number w (up_to 46 r)) (is_digits d (past 46 r)) t) in
        begins_first (pointed w d) [] (point_sample d) [] 0 (pointed_in w d (48 ∷ []) (replicate d 48) tt (nought w (omega (arith, n.low, n.high))) (noughts d))
    go (x ∷ q) (inl c) t =
        let u : T (is_number w ((x ∷ q) ++ up_to 46 r) && is_digits d (past 46 ((x ∷ q) ++ r))) = rw (up_to_clear (x ∷ q) r c) at t in
        begins_first (pointed w d) (x ∷ q) (point_sample d) [] 1
        (pointed_in w d (x ∷ q) (replicate d 48) c (number_front w x q (up_to 46 r) (and_l (is_number w ((x ∷ q) ++ up_to 46 r)) (is_digits d (past 46 ((x ∷ q) ++ r))) u)) (noughts d))
    go q (inr v) t =
        let e : List ℕ = drop (length v.1) (replicate d 48) in
        begins_first (pointed w d) q (point_sample d) [] (suc (suc (length v.1)))
        (rw (v.2, append_assoc v.0 (46 ∷ v.1) e) (point_more w d v.0 v.1 r v.3 (rw (v.2, append_assoc v.0 (46 ∷ v.1) r) at t)))

-- with a minus in front, or without
pub enough_decimal : (w d : ℕ) → Enough (is_decimal w d) (samples (decimal w d))
unfolding samples bytes is_decimal unsigned pointed clear
enough_decimal w d [] r t = first r t
  where
    first : (g : List ℕ) → T (pointed w d (unsigned g)) → T (begins (is_decimal w d) (point_sample d ∷ []) [])
    first g u =
        let n = number_out w (up_to 46 (unsigned g)) (and_l (is_number w (up_to 46 (unsigned g))) (is_digits d (past 46 (unsigned g))) u) in
        begins_first (is_decimal w d) [] (point_sample d) [] 0 (pointed_in w d (48 ∷ []) (replicate d 48) tt (nought w (omega (arith, n.low, n.high))) (noughts d))
enough_decimal w d (x ∷ q) r t = go (eqb x 45) refl t
  where
    go : (b : Bool) → eqb x 45 ≡ b → T (pointed w d (pick b (q ++ r) (x ∷ (q ++ r)))) → T (begins (is_decimal w d) (point_sample d ∷ []) (x ∷ q))
    go true e u = begins_carry (pointed w d) (is_decimal w d) q (x ∷ q) (λ g v. rw e v) (point_sample d ∷ []) (enough_pointed w d q r u)
    go false e u = begins_carry (pointed w d) (is_decimal w d) (x ∷ q) (x ∷ q) (λ g v. rw e v) (point_sample d ∷ []) (enough_pointed w d (x ∷ q) r u)
