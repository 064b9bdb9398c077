-- The laws of a date read as one number.
use mathlib.Core.Path.{◌≡◌, refl, sym, ap, ap₂, subst, ◌∙◌}
use mathlib.Core.Bool.{Bool, true, false, not, ◌&&◌, ◌||◌}
use mathlib.Core.List.{List, [], ◌∷◌}
use Prim.Native.Nat.{ℕ, ◌+◌, ◌-◌, ◌*◌, ◌/◌, ◌%◌, ◌≤◌, ◌<◌}
use native.Mathlib.Omega.{arith}
use borrow.Author.Tests.{le-leb, eq-eqb}
use lib.Bits.{bit_xor, xor_block}
use lib.Dec.{T, leb, eqb, eqb→eq, leb→le, ltb→lt}
use lib.ListN.{length, get_or, take, drop}
use lib.Seq.{take_all}
use Rattle.base.specs.Lists.{pick, all, same, part}
use Rattle.base.specs.Tests.{and_in, and_l, and_r, or_not}
use Rattle.theory.specs.Decimal.{value, value_f}
use Rattle.meaning.specs.Forms.{is_digit, is_digits, is_leap, days_in, is_day, is_date}
use Rattle.words.specs.Words.{word, is_byte, rep, marks, Century}
use Rattle.words.proofs.LaneLaws.{marks_lane, below, below_one, next, eight, eight_at}

-- ---- bytes as a pattern of digits and minuses asks

-- what may stand in a place
data Place : Type 0 where
  digit minus : Place

-- the byte that it is told from
abbrev like : Place → ℕ
like digit = 48
like minus = 45

-- what brings another byte over 127
abbrev over : Place → ℕ
over digit = 118
over minus = 127

-- a byte may stand there
abbrev fits : Place → ℕ → Bool
fits digit b = is_digit b
fits minus b = eqb b 45

-- what it is worth there
abbrev worth : Place → ℕ → ℕ
worth digit b = b - 48
worth minus b = 0

-- a byte with no mark may stand there, and the `xor` is what it is worth
abbrev told : Place → ℕ → Bool
told p b = not (eqb (marks 1 b (like p) (over p)) 0) || (fits p b && eqb (bit_xor b (like p)) (worth p b))

-- each byte, tried
tried : (p : Place) → T (below (told p) 256)
unfolding rep marks is_digit below
tried digit = tt
tried minus = tt

-- so of one
quiet : (p : Place) (b : ℕ) → b < 256 → marks 1 b (like p) (over p) ≡ 0 → T (fits p b) × (bit_xor b (like p) ≡ worth p b)
quiet p b h e =
    let t =
    or_not (eqb (marks 1 b (like p) (over p)) 0) (fits p b && eqb (bit_xor b (like p)) (worth p b)) (below_one (told p) 256 b (tried p) h)
    (subst T (sym (eq-eqb (marks 1 b (like p) (over p)) 0 e)) tt)
    in
    (and_l (fits p b) _ t, eqb→eq (bit_xor b (like p)) (worth p b) (and_r (fits p b) _ t))

-- a number with a byte for each place
unfoldable each : (Place → ℕ) → List Place → ℕ
each f [] = 0
each f (p ∷ ps) = each f ps * 256 + f p

-- a byte may stand in each place
unfoldable fitting : List Place → List ℕ → Bool
fitting [] bs = true
fitting (p ∷ ps) [] = false
fitting (p ∷ ps) (b ∷ bs) = fits p b && fitting ps bs

-- what they are worth, a byte for each
unfoldable worths : List Place → List ℕ → ℕ
worths [] bs = 0
worths (p ∷ ps) [] = 0
worths (p ∷ ps) (b ∷ bs) = worths ps bs * 256 + worth p b

-- the numbers of a place are bytes
like_byte : (p : Place) → like p < 256
like_byte digit = omega arith
like_byte minus = omega arith

-- with 127 too
over_byte : (p : Place) → 127 + over p < 256
over_byte digit = omega arith
over_byte minus = omega arith

-- bytes with no mark may stand there, and the `xor` is what they are worth
quiets :
    (ps : List Place) (bs : List ℕ) → length bs ≡ length ps → T (all is_byte bs)
    → marks (length ps) (word bs) (each like ps) (each over ps) ≡ 0
    → T (fitting ps bs) × (bit_xor (word bs) (each like ps) ≡ worths ps bs)
unfolding word each fitting worths
quiets [] [] l t e = (tt, refl)
quiets [] (b ∷ bs) l t e = absurd (omega arith)
quiets (p ∷ ps) [] l t e = absurd (omega arith)
quiets (p ∷ ps) (b ∷ bs) l t e =
    let h = ltb→lt b 256 (and_l (is_byte b) (all is_byte bs) t) in
    let f : marks (length ps) (word bs) (each like ps) (each over ps) * 256 + marks 1 b (like p) (over p) ≡ 0 =
    sym (marks_lane (length ps) (word bs) (each like ps) (each over ps) b (like p) (over p) h (like_byte p) (over_byte p))
    ∙ e
    in
    let one = quiet p b h (omega arith) in
    let rest = quiets ps bs (omega arith) (and_r (is_byte b) (all is_byte bs) t) (omega arith) in
    let xors = xor_block 8 (word bs) (each like ps) b (like p) h (like_byte p) ∙ ap₂ (λ u v. u * 256 + v) rest.1 one.1 in
    (and_in (fits p b) (fitting ps bs) one.0 rest.0, xors)

-- ---- the day that six digits name, two by two as bytes of ten times the digits and the digits moved by one byte

-- the digits of YY-MM-DD, each in its byte
abbrev spread : ℕ → ℕ → ℕ → ℕ → ℕ → ℕ → ℕ
spread y0 y1 m0 m1 d0 d1 = y0 + y1 * 0x100 + m0 * 0x1000000 + m1 * 0x100000000 + d0 * 0x1000000000000 + d1 * 0x100000000000000

-- two digits that stand together, as a byte
abbrev pairs : ℕ → ℕ
pairs x = x * 10 + x / 256

-- a day as such bytes
abbrev day_of : ℕ → ℕ → Bool
day_of g x = is_day (g * 100 + pairs x % 256) (pairs x / 0x1000000 % 256) (pairs x / 0x1000000000000 % 256)

-- the fourth byte of a number
byte_3 : (h m l : ℕ) → l < 0x1000000 → m < 256 → (h * 0x100000000 + m * 0x1000000 + l) / 0x1000000 % 256 ≡ m
byte_3 h m l p q =
    let a : (h * 0x100000000 + m * 0x1000000 + l) / 0x1000000 ≡ h * 256 + m = omega arith in
    rw a (omega arith)

-- the seventh
byte_6 : (h m l : ℕ) → l < 0x1000000000000 → m < 256 → (h * 0x100000000000000 + m * 0x1000000000000 + l) / 0x1000000000000 % 256 ≡ m
byte_6 h m l p q =
    let a : (h * 0x100000000000000 + m * 0x1000000000000 + l) / 0x1000000000000 ≡ h * 256 + m = omega arith in
    rw a (omega arith)

-- the lowest
byte_0 : (h m : ℕ) → m < 256 → (h * 256 + m) % 256 ≡ m
byte_0 h m q = omega arith

module _ (y0 y1 m0 m1 d0 d1 : ℕ) (small : (y0 ≤ 9) × (y1 ≤ 9) × (m0 ≤ 9) × (m1 ≤ 9) × (d0 ≤ 9) × (d1 ≤ 9)) where
  -- the digits moved by one byte
  moved : spread y0 y1 m0 m1 d0 d1 / 256 ≡ y1 + m0 * 0x10000 + m1 * 0x1000000 + d0 * 0x10000000000 + d1 * 0x1000000000000
  moved = omega arith

  -- so each two that stand together are a byte, and no byte is over
  lanes :
      pairs (spread y0 y1 m0 m1 d0 d1)
      ≡ y0 * 10 + y1 + y1 * 10 * 0x100 + m0 * 0x10000 + (m0 * 10 + m1) * 0x1000000 + m1 * 10 * 0x100000000 + d0 * 0x10000000000
      + (d0 * 10 + d1) * 0x1000000000000 + d1 * 10 * 0x100000000000000
  lanes = rw moved (omega arith)

  years : pairs (spread y0 y1 m0 m1 d0 d1) % 256 ≡ y0 * 10 + y1
  years =
      let rest = m1 * 10 + d0 * 0x100 + (d0 * 10 + d1) * 0x10000 + d1 * 10 * 0x1000000 in
      let high = y1 * 10 + m0 * 0x100 + (m0 * 10 + m1) * 0x10000 + rest * 0x1000000 in
      let sum : pairs (spread y0 y1 m0 m1 d0 d1) ≡ high * 256 + (y0 * 10 + y1) = lanes ∙ omega arith in
      rw sum (byte_0 high (y0 * 10 + y1) (omega arith))

  months : pairs (spread y0 y1 m0 m1 d0 d1) / 0x1000000 % 256 ≡ m0 * 10 + m1
  months =
      let high = m1 * 10 + d0 * 0x100 + (d0 * 10 + d1) * 0x10000 + d1 * 10 * 0x1000000 in
      let low = y0 * 10 + y1 + y1 * 10 * 0x100 + m0 * 0x10000 in
      let sum : pairs (spread y0 y1 m0 m1 d0 d1) ≡ high * 0x100000000 + (m0 * 10 + m1) * 0x1000000 + low = lanes ∙ omega arith in
      rw sum (byte_3 high (m0 * 10 + m1) low (omega arith) (omega arith))

  days : pairs (spread y0 y1 m0 m1 d0 d1) / 0x1000000000000 % 256 ≡ d0 * 10 + d1
  days =
      let high = d1 * 10 in
      let low = y0 * 10 + y1 + y1 * 10 * 0x100 + m0 * 0x10000 + (m0 * 10 + m1) * 0x1000000 + m1 * 10 * 0x100000000 + d0 * 0x10000000000 in
      let all = spread y0 y1 m0 m1 d0 d1 in
      let sum : pairs all ≡ high * 0x100000000000000 + (d0 * 10 + d1) * 0x1000000000000 + low = lanes ∙ omega arith in
      rw sum (byte_6 high (d0 * 10 + d1) low (omega arith) (omega arith))

  day_of_lem : (g : ℕ) → day_of g (spread y0 y1 m0 m1 d0 d1) ≡ is_day (g * 100 + (y0 * 10 + y1)) (m0 * 10 + m1) (d0 * 10 + d1)
  day_of_lem g = rw (years, months, days)

-- ---- a real day

-- every month has 28 days
days_low : (y m : ℕ) → 28 ≤ days_in y m
unfolding days_in
days_low y m = go (eqb m 2) (is_leap y) (eqb m 4 || (eqb m 6 || (eqb m 9 || eqb m 11)))
  where
    go : (a b c : Bool) → 28 ≤ pick a (pick b 29 28) (pick c 30 31)
    go true true c = omega arith
    go true false c = omega arith
    go false b true = omega arith
    go false b false = omega arith

-- so an early day is real
pub real_early : (y m d : ℕ) → 1583 ≤ y → 1 ≤ m → m ≤ 12 → 1 ≤ d → d ≤ 28 → is_day y m d ≡ true
unfolding is_day
real_early y m d h k l n o =
    let e : d ≤ days_in y m = omega (arith, days_low y m) in
    rw (le-leb 1583 y h, le-leb 1 m k, le-leb m 12 l, le-leb 1 d n, le-leb d (days_in y m) e)

-- ---- eight bytes YY-MM-DD

-- the pattern
abbrev yymmdd : List Place
yymmdd = digit ∷ digit ∷ minus ∷ digit ∷ digit ∷ minus ∷ digit ∷ digit ∷ []

-- the digits of such bytes, each in its byte
abbrev digits_of : ℕ → ℕ
digits_of w = bit_xor w 0x30302D30302D3030

-- bytes with no mark
abbrev Quiet : List ℕ → Type 0
Quiet bs = T (all is_byte bs) × (marks 8 (word bs) 0x30302D30302D3030 0x76767F76767F7676 ≡ 0)

-- the first of tests that hold, and the others
both : (a b : Bool) → T (a && b) → (a ≡ true) × T b
both true b t = (refl, t)
both false b t = absurd t

-- a digit is worth 9 or less
digit_small : (b : ℕ) → is_digit b ≡ true → b - 48 ≤ 9
unfolding is_digit
digit_small b e =
    let t : T (leb 48 b && leb b 57) = subst T (sym e) tt in
    let l = leb→le b 57 (and_r (leb 48 b) (leb b 57) t) in
    omega arith

-- a byte between 48 and 57 is a digit
range_digit : (b : ℕ) → (48 ≤ b) × (b ≤ 57) → is_digit b ≡ true
unfolding is_digit
range_digit b r = rw (le-leb 48 b r.0, le-leb b 57 r.1)

-- the value of two digits
two : (a b : ℕ) → value (a ∷ b ∷ []) ≡ (a - 48) * 10 + (b - 48)
unfolding value value_f
two a b = omega arith

-- four digits are worth a hundred of the first two, and the others
four : (a b c d : ℕ) → value (a ∷ b ∷ c ∷ d ∷ []) ≡ ((a - 48) * 10 + (b - 48)) * 100 + ((c - 48) * 10 + (d - 48))
unfolding value value_f
four a b c d = omega arith

module _ (b0 b1 b2 b3 b4 b5 b6 b7 : ℕ) (t : Quiet (b0 ∷ b1 ∷ b2 ∷ b3 ∷ b4 ∷ b5 ∷ b6 ∷ b7 ∷ [])) where
  -- each is as the pattern asks
  spelled :
      (is_digit b0 ≡ true) × (is_digit b1 ≡ true) × (eqb b2 45 ≡ true) × (is_digit b3 ≡ true) × (is_digit b4 ≡ true) × (eqb b5 45 ≡ true)
      × (is_digit b6 ≡ true) × (is_digit b7 ≡ true)
  unfolding each fitting
  spelled =
      let h0 = both (is_digit b0) _ (quiets yymmdd (b0 ∷ b1 ∷ b2 ∷ b3 ∷ b4 ∷ b5 ∷ b6 ∷ b7 ∷ []) refl t.0 t.1).0 in
      let h1 = both (is_digit b1) _ h0.1 in
      let h2 = both (eqb b2 45) _ h1.1 in
      let h3 = both (is_digit b3) _ h2.1 in
      let h4 = both (is_digit b4) _ h3.1 in
      let h5 = both (eqb b5 45) _ h4.1 in
      let h6 = both (is_digit b6) _ h5.1 in
      let h7 = both (is_digit b7) true h6.1 in
      (h0.0, h1.0, h2.0, h3.0, h4.0, h5.0, h6.0, h7.0)

  -- so the `xor` is the six digits
  spread_is :
      digits_of (word (b0 ∷ b1 ∷ b2 ∷ b3 ∷ b4 ∷ b5 ∷ b6 ∷ b7 ∷ [])) ≡ spread (b0 - 48) (b1 - 48) (b3 - 48) (b4 - 48) (b6 - 48) (b7 - 48)
  unfolding each worths
  spread_is = (quiets yymmdd (b0 ∷ b1 ∷ b2 ∷ b3 ∷ b4 ∷ b5 ∷ b6 ∷ b7 ∷ []) refl t.0 t.1).1 ∙ omega arith

  -- each 9 or less
  smalls : (b0 - 48 ≤ 9) × (b1 - 48 ≤ 9) × (b3 - 48 ≤ 9) × (b4 - 48 ≤ 9) × (b6 - 48 ≤ 9) × (b7 - 48 ≤ 9)
  smalls = (
    digit_small b0 spelled.0,
    digit_small b1 spelled.1,
    digit_small b3 spelled.3,
    digit_small b4 spelled.4,
    digit_small b6 spelled.6,
    digit_small b7 spelled.7,
  )

  -- and the whole small
  few : digits_of (word (b0 ∷ b1 ∷ b2 ∷ b3 ∷ b4 ∷ b5 ∷ b6 ∷ b7 ∷ [])) ≤ 0x0909090909090909
  few = rw spread_is (let r = smalls in omega arith)

  -- with its century, a real day is a date
  dated :
      (a b g : ℕ) → Century a b g → day_of g (digits_of (word (b0 ∷ b1 ∷ b2 ∷ b3 ∷ b4 ∷ b5 ∷ b6 ∷ b7 ∷ []))) ≡ true
      → is_date (a ∷ b ∷ b0 ∷ b1 ∷ b2 ∷ b3 ∷ b4 ∷ b5 ∷ b6 ∷ b7 ∷ []) ≡ true
  unfolding is_date is_digits part same
  dated a b g c day =
      let d = spelled in
      rw (range_digit a c.first, range_digit b c.second, d.0, d.1, d.2, d.3, d.4, d.5, d.6, d.7) real
    where
      real : is_day (value (a ∷ b ∷ b0 ∷ b1 ∷ [])) (value (b3 ∷ b4 ∷ [])) (value (b6 ∷ b7 ∷ [])) ≡ true
      real =
          rw (four a b b0 b1, two b3 b4, two b6 b7, ← c.worth)
          (sym (day_of_lem (b0 - 48) (b1 - 48) (b3 - 48) (b4 - 48) (b6 - 48) (b7 - 48) smalls g) ∙ ap (day_of g) (sym spread_is) ∙ day)

-- what holds of any eight holds of a list of eight
by_eight :
    (P : List ℕ → Type 0) → ((b0 b1 b2 b3 b4 b5 b6 b7 : ℕ) → P (b0 ∷ b1 ∷ b2 ∷ b3 ∷ b4 ∷ b5 ∷ b6 ∷ b7 ∷ []))
    → (bs : List ℕ) → length bs ≡ 8 → P bs
by_eight P f bs n =
    let e = sym (eight_at bs 0 (omega arith)) ∙ take_all 8 bs (omega arith) in
    subst P e (f (get_or bs 0 0) (get_or bs 1 0) (get_or bs 2 0) (get_or bs 3 0) (get_or bs 4 0) (get_or bs 5 0) (get_or bs 6 0) (get_or bs 7 0))

-- ---- the ten bytes of a slice

module _
    (s : List ℕ) (at w m : ℕ) (h : at + 10 ≤ length s) (e : w ≡ word (take 8 (drop (at + 2) s)))
    (t : T (all is_byte (take 8 (drop (at + 2) s))))
    (q : m ≡ marks 8 w 0x30302D30302D3030 0x76767F76767F7676) (z : m ≡ 0)
  where
    -- the last eight have no mark
    still : Quiet (take 8 (drop (at + 2) s))
    still = (t, ap (λ x. marks 8 x 0x30302D30302D3030 0x76767F76767F7676) (sym e) ∙ sym q ∙ z)

    -- they are eight
    eight_still : length (take 8 (drop (at + 2) s)) ≡ 8
    eight_still = eight s (at + 2) (omega arith)

    -- what was read is small
    pub small_at : digits_of w ≤ 0x0909090909090909
    small_at = rw e (by_eight (λ l. Quiet l → digits_of (word l) ≤ 0x0909090909090909) few (take 8 (drop (at + 2) s)) eight_still still)

    -- a real day is a date
    pub dated_at :
        (g : ℕ) → Century (get_or s at 0) (get_or s (at + 1) 0) g → day_of g (digits_of w) ≡ true → is_date (take 10 (drop at s)) ≡ true
    dated_at g c day =
        ap is_date whole
        ∙ by_eight (λ l. Quiet l → day_of g (digits_of (word l)) ≡ true → is_date (get_or s at 0 ∷ get_or s (at + 1) 0 ∷ l) ≡ true)
        (λ b0 b1 b2 b3 b4 b5 b6 b7 u. dated b0 b1 b2 b3 b4 b5 b6 b7 u (get_or s at 0) (get_or s (at + 1) 0) g c)
        (take 8 (drop (at + 2) s)) eight_still still (subst (λ x. day_of g (digits_of x) ≡ true) e day)
      where
        whole : take 10 (drop at s) ≡ get_or s at 0 ∷ get_or s (at + 1) 0 ∷ take 8 (drop (at + 2) s)
        whole = next s at (at + 1) 9 refl (omega arith) ∙ ap (λ l. get_or s at 0 ∷ l) (next s (at + 1) (at + 2) 8 (omega arith) (omega arith))
