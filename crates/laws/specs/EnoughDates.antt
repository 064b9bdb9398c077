-- Paper 02, request 01: whatever begins a date or a time goes on with the end of a sample.
use Rattle.std.specs.Prelude.{◌≡◌, refl, Bool, true, false, ◌&&◌, ◌||◌, List, [], ◌∷◌, ◌++◌, ℕ, zero, suc, ◌≤◌, T, leb, eqb, length, take, drop, get_or}
use Rattle.std.proofs.Common.{sym, ap, arith, leb→le, le→leb, eqb→eq, length-append}
use Rattle.std.proofs.Math.Decide.{dec_le}
use Rattle.std.proofs.Math.Seq.{take-append_seam}
use Rattle.base.specs.Lists.{all, pick, same, part, bytes}
use Rattle.base.specs.Tests.{and_in, and_l, and_r}
use Rattle.base.specs.ListLaws.{all_append, append_all}
use Rattle.theory.specs.Decimal.{value}
use Rattle.meaning.specs.Forms.{date, time, is_digit, is_digits, is_leap, days_in, is_day, is_date, is_time}
use Rattle.meaning.specs.Place.{begins, samples}
use Rattle.laws.specs.Digits.{digit_low, digit_high}
use Rattle.laws.specs.PlaceLaws.{begins_first, begins_now, begins_later, Enough}
use Rattle.laws.specs.EnoughNumbers.{no_bytes, digits_in_lem, digits_length}

-- ---- a field of a fixed length

-- so many bytes of a field, one by one
unfoldable pub spell : ℕ → List ℕ → List ℕ
spell zero f = []
spell (suc n) f = get_or f 0 0 ∷ spell n (drop 1 f)

-- of a field that has so many, they are the field
pub spelled : (n : ℕ) (f : List ℕ) → length f ≡ n → spell n f ≡ f
unfolding spell
spelled zero f h = sym (no_bytes f h)
spelled (suc n) [] h = absurd (omega arith)
spelled (suc n) (x ∷ f) h = ap (λ l. x ∷ l) (spelled n f (omega arith))

-- where every sound field is k bytes, it is enough to look at the first n of k bytes spelled out
enough_long :
    (sound : List ℕ → Bool) (ss : List (List ℕ)) (k : ℕ) → ((f : List ℕ) → T (sound f) → length f ≡ k)
    → ((n : ℕ) (f : List ℕ) → n ≤ k → T (sound (spell k f)) → T (begins sound ss (take n (spell k f)))) → Enough sound ss
enough_long sound ss k l g p r t =
    let e = spelled k (p ++ r) (l (p ++ r) t) in
    let u : T (begins sound ss (take (length p) (spell k (p ++ r)))) = g (length p) (p ++ r) (omega (arith, l (p ++ r) t, length-append p r)) (rw e t) in
    rw (e, take-append_seam p r) at u

-- a byte that is a digit
record Digit (x : ℕ) : Type 0 where
  low : 48 ≤ x
  high : x ≤ 57

digit_in : (x : ℕ) → Digit x → T (is_digit x)
unfolding is_digit
digit_in x d = and_in (leb 48 x) (leb x 57) (le→leb 48 x d.low) (le→leb x 57 d.high)

digit_out : (x : ℕ) → T (is_digit x) → Digit x
digit_out x t = record { low = digit_low x t; high = digit_high x t }

-- two digits
two_in : (a b : ℕ) → Digit a → Digit b → T (is_digits 2 (a ∷ b ∷ []))
two_in a b x y = digits_in_lem 2 (a ∷ b ∷ []) refl (and_in (is_digit a) (is_digit b && true) (digit_in a x) (and_in (is_digit b) true (digit_in b y) tt))

two_out : (a b : ℕ) → T (all is_digit (a ∷ b ∷ [])) → Digit a × Digit b
two_out a b t = (digit_out a (and_l (is_digit a) (is_digit b && true) t), digit_out b (and_l (is_digit b) true (and_r (is_digit a) (is_digit b && true) t)))

-- ---- HHMMSS

-- the six digits of a time, each with its range
record Clock (a b c d e g : ℕ) : Type 0 where
  da : Digit a
  db : Digit b
  dc : Digit c
  dd : Digit d
  de : Digit e
  dg : Digit g
  hour : value (a ∷ b ∷ []) ≤ 23
  minute : value (c ∷ d ∷ []) ≤ 59
  second : value (e ∷ g ∷ []) ≤ 59

time_in : (a b c d e g : ℕ) → Clock a b c d e g → T (is_time (a ∷ b ∷ c ∷ d ∷ e ∷ g ∷ []))
unfolding is_time part is_digits
time_in a b c d e g k =
    and_in (all is_digit (a ∷ b ∷ c ∷ d ∷ e ∷ g ∷ [])) _
    (all_append is_digit (a ∷ b ∷ []) (c ∷ d ∷ e ∷ g ∷ []) (two_in a b k.da k.db)
    (all_append is_digit (c ∷ d ∷ []) (e ∷ g ∷ []) (two_in c d k.dc k.dd) (two_in e g k.de k.dg)))
    (and_in (leb (value (a ∷ b ∷ [])) 23) _ (le→leb (value (a ∷ b ∷ [])) 23 k.hour)
    (and_in (leb (value (c ∷ d ∷ [])) 59) _ (le→leb (value (c ∷ d ∷ [])) 59 k.minute) (le→leb (value (e ∷ g ∷ [])) 59 k.second)))

time_out : (a b c d e g : ℕ) → T (is_time (a ∷ b ∷ c ∷ d ∷ e ∷ g ∷ [])) → Clock a b c d e g
unfolding is_time part is_digits
time_out a b c d e g t =
    let h = leb (value (a ∷ b ∷ [])) 23 in
    let m = leb (value (c ∷ d ∷ [])) 59 in
    let s = leb (value (e ∷ g ∷ [])) 59 in
    let ds = and_l (all is_digit (a ∷ b ∷ c ∷ d ∷ e ∷ g ∷ [])) (h && (m && s)) t in
    let u = and_r (all is_digit (a ∷ b ∷ c ∷ d ∷ e ∷ g ∷ [])) (h && (m && s)) t in
    let x = append_all is_digit (a ∷ b ∷ []) (c ∷ d ∷ e ∷ g ∷ []) ds in
    let y = append_all is_digit (c ∷ d ∷ []) (e ∷ g ∷ []) x.1 in
    let i = two_out a b x.0 in
    let j = two_out c d y.0 in
    let l = two_out e g y.1 in
    record {
      da = i.0;
      db = i.1;
      dc = j.0;
      dd = j.1;
      de = l.0;
      dg = l.1;
      hour = leb→le (value (a ∷ b ∷ [])) 23 (and_l h (m && s) u);
      minute = leb→le (value (c ∷ d ∷ [])) 59 (and_l m s (and_r h (m && s) u));
      second = leb→le (value (e ∷ g ∷ [])) 59 (and_r m s (and_r h (m && s) u));
    }

time_length : (f : List ℕ) → T (is_time f) → length f ≡ 6
unfolding is_time
time_length f t = digits_length 6 f (and_l (is_digits 6 f) (leb (value (part f 0 2)) 23 && (leb (value (part f 2 4)) 59 && leb (value (part f 4 6)) 59)) t)

-- after the first n of them, noughts may follow
time_fill : (n a b c d e g : ℕ) → n ≤ 6 → Clock a b c d e g → T (is_time (take n (a ∷ b ∷ c ∷ d ∷ e ∷ g ∷ []) ++ drop n (bytes "000000")))
unfolding bytes value
time_fill zero a b c d e g h k = time_in 48 48 48 48 48 48 (omega arith)
time_fill (suc zero) a b c d e g h k = time_in a 48 48 48 48 48 (omega arith)
time_fill (suc (suc zero)) a b c d e g h k = time_in a b 48 48 48 48 (omega arith)
time_fill (suc (suc (suc zero))) a b c d e g h k = time_in a b c 48 48 48 (omega arith)
time_fill (suc (suc (suc (suc zero)))) a b c d e g h k = time_in a b c d 48 48 (omega arith)
time_fill (suc (suc (suc (suc (suc zero))))) a b c d e g h k = time_in a b c d e 48 (omega arith)
time_fill (suc (suc (suc (suc (suc (suc zero)))))) a b c d e g h k = time_in a b c d e g k
time_fill (suc (suc (suc (suc (suc (suc (suc n))))))) a b c d e g h k = absurd (omega arith)

-- so a time's sample is enough
pub enough_time : Enough is_time (samples time)
unfolding samples spell
enough_time =
    enough_long is_time (bytes "000000" ∷ []) 6 time_length
    (λ n f h t. begins_first is_time (take n (spell 6 f)) (bytes "000000") [] n (time_fill n _ _ _ _ _ _ h (time_out _ _ _ _ _ _ t)))

-- ---- CCYY-MM-DD

-- a day of the calendar
record Day (y m d : ℕ) : Type 0 where
  since : 1583 ≤ y
  low : 1 ≤ m
  high : m ≤ 12
  first : 1 ≤ d
  last : d ≤ days_in y m

day_in : (y m d : ℕ) → Day y m d → T (is_day y m d)
unfolding is_day
day_in y m d q =
    and_in (leb 1583 y) _ (le→leb 1583 y q.since)
    (and_in (leb 1 m) _ (le→leb 1 m q.low)
    (and_in (leb m 12) _ (le→leb m 12 q.high)
    (and_in (leb 1 d) _ (le→leb 1 d q.first) (le→leb d (days_in y m) q.last))))

day_out : (y m d : ℕ) → T (is_day y m d) → Day y m d
unfolding is_day
day_out y m d t =
    let e = leb d (days_in y m) in
    let u = and_r (leb 1583 y) (leb 1 m && (leb m 12 && (leb 1 d && e))) t in
    let v = and_r (leb 1 m) (leb m 12 && (leb 1 d && e)) u in
    let w = and_r (leb m 12) (leb 1 d && e) v in
    record {
      since = leb→le 1583 y (and_l (leb 1583 y) (leb 1 m && (leb m 12 && (leb 1 d && e))) t);
      low = leb→le 1 m (and_l (leb 1 m) (leb m 12 && (leb 1 d && e)) u);
      high = leb→le m 12 (and_l (leb m 12) (leb 1 d && e) v);
      first = leb→le 1 d (and_l (leb 1 d) e w);
      last = leb→le d (days_in y m) (and_r (leb 1 d) e w);
    }

-- the eight digits of a date
record Calendar (a b c d h i k l : ℕ) : Type 0 where
  da : Digit a
  db : Digit b
  dc : Digit c
  dd : Digit d
  dh : Digit h
  di : Digit i
  dk : Digit k
  dl : Digit l
  day : Day (value (a ∷ b ∷ c ∷ d ∷ [])) (value (h ∷ i ∷ [])) (value (k ∷ l ∷ []))

-- a date spelled out
abbrev date_of : ℕ → ℕ → ℕ → ℕ → ℕ → ℕ → ℕ → ℕ → List ℕ
date_of a b c d h i k l = a ∷ b ∷ c ∷ d ∷ 45 ∷ h ∷ i ∷ 45 ∷ k ∷ l ∷ []

-- no month is shorter than 28 days
days_least : (y m : ℕ) → 28 ≤ days_in y m
unfolding days_in
days_least y m = go (eqb m 2) (is_leap y) (eqb m 4 || (eqb m 6 || (eqb m 9 || eqb m 11)))
  where
    go : (a b c : Bool) → 28 ≤ pick a (pick b 29 28) (pick c 30 31)
    go true true c = omega arith
    go true false c = omega arith
    go false b true = omega arith
    go false b false = omega arith

four_in : (a b c d : ℕ) → Digit a → Digit b → Digit c → Digit d → T (is_digits 4 (a ∷ b ∷ c ∷ d ∷ []))
unfolding is_digits
four_in a b c d x y z u = all_append is_digit (a ∷ b ∷ []) (c ∷ d ∷ []) (two_in a b x y) (two_in c d z u)

date_in : (a b c d h i k l : ℕ) → Calendar a b c d h i k l → T (is_date (date_of a b c d h i k l))
unfolding is_date part same
date_in a b c d h i k l q =
    and_in (is_digits 4 (a ∷ b ∷ c ∷ d ∷ []) && (is_digits 2 (h ∷ i ∷ []) && is_digits 2 (k ∷ l ∷ []))) _
    (and_in (is_digits 4 (a ∷ b ∷ c ∷ d ∷ [])) _ (four_in a b c d q.da q.db q.dc q.dd)
    (and_in (is_digits 2 (h ∷ i ∷ [])) (is_digits 2 (k ∷ l ∷ [])) (two_in h i q.dh q.di) (two_in k l q.dk q.dl)))
    (day_in (value (a ∷ b ∷ c ∷ d ∷ [])) (value (h ∷ i ∷ [])) (value (k ∷ l ∷ [])) q.day)

-- ten bytes that are a date: their two dashes, and the digits
record Dated (a b c d x h i y k l : ℕ) : Type 0 where
  dash : x ≡ 45
  dash' : y ≡ 45
  digits : Calendar a b c d h i k l

date_out : (a b c d x h i y k l : ℕ) → T (is_date (a ∷ b ∷ c ∷ d ∷ x ∷ h ∷ i ∷ y ∷ k ∷ l ∷ [])) → Dated a b c d x h i y k l
unfolding is_date part same is_digits
date_out a b c d x h i y k l t =
    let year = all is_digit (a ∷ b ∷ c ∷ d ∷ []) in
    let month = all is_digit (h ∷ i ∷ []) in
    let day = all is_digit (k ∷ l ∷ []) in
    let p = eqb x 45 && true in
    let q = eqb y 45 && true in
    let whole = is_day (value (a ∷ b ∷ c ∷ d ∷ [])) (value (h ∷ i ∷ [])) (value (k ∷ l ∷ [])) in
    let s = and_l (year && (p && (month && (q && day)))) whole t in
    let o = day_out (value (a ∷ b ∷ c ∷ d ∷ [])) (value (h ∷ i ∷ [])) (value (k ∷ l ∷ [])) (and_r (year && (p && (month && (q && day)))) whole t) in
    let s1 = and_r year (p && (month && (q && day))) s in
    let s2 = and_r p (month && (q && day)) s1 in
    let s3 = and_r month (q && day) s2 in
    let ys = append_all is_digit (a ∷ b ∷ []) (c ∷ d ∷ []) (and_l year (p && (month && (q && day))) s) in
    let y1 = two_out a b ys.0 in
    let y2 = two_out c d ys.1 in
    let m = two_out h i (and_l month (q && day) s2) in
    let e = two_out k l (and_r q day s3) in
    record {
      dash = eqb→eq x 45 (and_l (eqb x 45) true (and_l p (month && (q && day)) s1));
      dash' = eqb→eq y 45 (and_l (eqb y 45) true (and_l q day s3));
      digits = record {
        da = y1.0;
        db = y1.1;
        dc = y2.0;
        dd = y2.1;
        dh = m.0;
        di = m.1;
        dk = e.0;
        dl = e.1;
        day = o;
      };
    }

date_length : (f : List ℕ) → T (is_date f) → length f ≡ 10
unfolding is_date
date_length f t = eqb→eq (length f) 10 (and_l (eqb (length f) 10) _ t)

-- after the first n bytes of a date, the rest of 9999-11-11 may follow; but after a day's digit 3, that of 9999-11-30
date_fill : (n a b c d h i k l : ℕ) → n ≤ 10 → Calendar a b c d h i k l → T (begins is_date (bytes "9999-11-11" ∷ bytes "9999-11-30" ∷ []) (take n (date_of a b c d h i k l)))
unfolding bytes value
date_fill n a b c d h i k l m q = go n m
  where
    s : List ℕ
    s = bytes "9999-11-11"

    ss : List (List ℕ)
    ss = bytes "9999-11-30" ∷ []

    f : List ℕ
    f = date_of a b c d h i k l

    least : (y m : List ℕ) → 28 ≤ days_in (value y) (value m)
    least y m = days_least (value y) (value m)

    nov : List ℕ
    nov = 49 ∷ 49 ∷ []

    go : (n : ℕ) → n ≤ 10 → T (begins is_date (s ∷ ss) (take n f))
    go zero m = begins_first is_date (take 0 f) s ss 0 (date_in 57 57 57 57 49 49 49 49 (omega (arith, least (57 ∷ 57 ∷ 57 ∷ 57 ∷ []) nov)))
    go (suc zero) m = begins_first is_date (take 1 f) s ss 1 (date_in a 57 57 57 49 49 49 49 (omega (arith, least (a ∷ 57 ∷ 57 ∷ 57 ∷ []) nov)))
    go (suc (suc zero)) m = begins_first is_date (take 2 f) s ss 2 (date_in a b 57 57 49 49 49 49 (omega (arith, least (a ∷ b ∷ 57 ∷ 57 ∷ []) nov)))
    go (suc (suc (suc zero))) m = begins_first is_date (take 3 f) s ss 3 (date_in a b c 57 49 49 49 49 (omega (arith, least (a ∷ b ∷ c ∷ 57 ∷ []) nov)))
    go (suc (suc (suc (suc zero)))) m = begins_first is_date (take 4 f) s ss 4 (date_in a b c d 49 49 49 49 (omega (arith, least (a ∷ b ∷ c ∷ d ∷ []) nov)))
    go (suc (suc (suc (suc (suc zero))))) m = begins_first is_date (take 5 f) s ss 5 (date_in a b c d 49 49 49 49 (omega (arith, least (a ∷ b ∷ c ∷ d ∷ []) nov)))
    go (suc (suc (suc (suc (suc (suc zero)))))) m = begins_first is_date (take 6 f) s ss 6 (date_in a b c d h 49 49 49 (omega (arith, least (a ∷ b ∷ c ∷ d ∷ []) (h ∷ 49 ∷ []))))
    go (suc (suc (suc (suc (suc (suc (suc zero))))))) m = begins_first is_date (take 7 f) s ss 7 (date_in a b c d h i 49 49 (omega (arith, least (a ∷ b ∷ c ∷ d ∷ []) (h ∷ i ∷ []))))
    go (suc (suc (suc (suc (suc (suc (suc (suc zero)))))))) m = begins_first is_date (take 8 f) s ss 8 (date_in a b c d h i 49 49 (omega (arith, least (a ∷ b ∷ c ∷ d ∷ []) (h ∷ i ∷ []))))
    go (suc (suc (suc (suc (suc (suc (suc (suc (suc zero))))))))) m =
        elim (dec_le k 50) [
          | yes u ↦ begins_first is_date (take 9 f) s ss 9 (date_in a b c d h i k 49 (omega (arith, least (a ∷ b ∷ c ∷ d ∷ []) (h ∷ i ∷ []))))
          | no u ↦ begins_later is_date (take 9 f) s ss (begins_first is_date (take 9 f) (bytes "9999-11-30") [] 9 (date_in a b c d h i k 48 (omega (arith, q.day.last))))
        ]
    go (suc (suc (suc (suc (suc (suc (suc (suc (suc (suc zero)))))))))) m = begins_now is_date f s ss (date_in a b c d h i k l q)
    go (suc (suc (suc (suc (suc (suc (suc (suc (suc (suc (suc n))))))))))) m = absurd (omega arith)

-- so a date's two samples are enough
pub enough_date : Enough is_date (samples date)
unfolding samples spell
enough_date =
    enough_long is_date (bytes "9999-11-11" ∷ bytes "9999-11-30" ∷ []) 10 date_length
    (λ n f h t. let o = date_out _ _ _ _ _ _ _ _ _ _ t in rw (o.dash, o.dash') (date_fill n _ _ _ _ _ _ _ _ h o.digits))
