-- The laws of eight bytes as one number: an operation on the number is that operation on each byte apart.
use mathlib.Core.Path.{◌≡◌, refl, sym, ap, subst, ◌∙◌}
use mathlib.Core.Bool.{Bool, true, false, ◌&&◌}
use mathlib.Core.List.{List, [], ◌∷◌}
use Prim.Native.Nat.{ℕ, zero, suc, ◌+◌, ◌*◌, ◌/◌, ◌%◌, ◌≤◌, ◌<◌}
use native.Mathlib.Omega.{arith}
use native.Mathlib.Decide.{dec_le}
use lib.Bits.{bit_and, bit_or, bit_xor, and_block, or_block, xor_block, and_le_r, or_lt, xor_lt}
use mir.Syntax.{w64}
use lib.Count.{count_trailing_zeros, trailing_of_zero}
use lib.Dec.{T, eqb, eqb→eq, ltb→lt, lt→ltb}
use lib.ListN.{length, get_or, take, drop, length-drop}
use lib.Seq.{length-take-le}
use Rattle.std.specs.Int.{from_le_bytes}
use Rattle.base.specs.Lists.{pick, all}
use Rattle.base.specs.ListLaws.{all_take, all_drop}
use Rattle.base.specs.Tests.{and_in, and_l, and_r}
use Rattle.base.proofs.Walk.{at_cons}
use Rattle.meaning.specs.Forms.{is_digit, is_text_byte}
use Rattle.form.specs.Characters.{is_ascii_text}
use Rattle.words.specs.Words.{word, is_byte, run, rep, lows, marks, ascii_marks}

-- ---- one lane

-- a sum with no byte over
sums : (x y u v : ℕ) → x * 256 + u + (y * 256 + v) ≡ (x + y) * 256 + (u + v)
sums x y u v = omega arith

-- the marks of the lowest byte and of the rest
pub marks_lane :
    (n w like over b p r : ℕ) → b < 256 → p < 256 → 127 + r < 256
    → marks (suc n) (w * 256 + b) (like * 256 + p) (over * 256 + r) ≡ marks n w like over * 256 + marks 1 b p r
unfolding marks rep
marks_lane n w like over b p r hb hp hr =
    rw (
      xor_block 8 w like b p hb hp,
      and_block 8 (bit_xor w like) (rep n 127) (bit_xor b p) 127 hx (omega arith),
      sums (lows n (bit_xor w like)) over (bit_and (bit_xor b p) 127) r,
      or_block 8 (lows n (bit_xor w like) + over) (bit_xor w like) (bit_and (bit_xor b p) 127 + r) (bit_xor b p) hs hx,
    )
    (and_block 8 (bit_or (lows n (bit_xor w like) + over) (bit_xor w like)) (rep n 128)
    (bit_or (bit_and (bit_xor b p) 127 + r) (bit_xor b p)) 128 (or_lt 8 _ _ hs hx) (omega arith))
  where
    hx : bit_xor b p < 256
    hx = xor_lt 8 b p hb hp

    hs : bit_and (bit_xor b p) 127 + r < 256
    hs = omega (arith, and_le_r (bit_xor b p) 127)

-- the same for a text's bytes of ASCII
ascii_lane : (n w b : ℕ) → b < 256 → ascii_marks (suc n) (w * 256 + b) ≡ ascii_marks n w * 256 + ascii_marks 1 b
unfolding ascii_marks rep
ascii_lane n w b hb =
    rw (
      and_block 8 w (rep n 127) b 127 hb (omega arith),
      xor_block 8 (lows n w) (rep n 2) (bit_and b 127) 2 hy (omega arith),
      sums (bit_xor (lows n w) (rep n 2)) (rep n 95) (bit_xor (bit_and b 127) 2) 95,
      xor_block 8 (bit_xor (lows n w) (rep n 2) + rep n 95) (rep n 255) (bit_xor (bit_and b 127) 2 + 95) 255 hz (omega arith),
      sums (lows n w) (rep n 1) (bit_and b 127) 1,
      or_block 8 (bit_xor (bit_xor (lows n w) (rep n 2) + rep n 95) (rep n 255)) (lows n w + rep n 1)
          (bit_xor (bit_xor (bit_and b 127) 2 + 95) 255) (bit_and b 127 + 1) hv hu,
      or_block 8 (bit_or (bit_xor (bit_xor (lows n w) (rep n 2) + rep n 95) (rep n 255)) (lows n w + rep n 1)) w
          (bit_or (bit_xor (bit_xor (bit_and b 127) 2 + 95) 255) (bit_and b 127 + 1)) b ho hb,
    )
    (and_block 8 (bit_or (bit_or (bit_xor (bit_xor (lows n w) (rep n 2) + rep n 95) (rep n 255)) (lows n w + rep n 1)) w) (rep n 128)
    (bit_or (bit_or (bit_xor (bit_xor (bit_and b 127) 2 + 95) 255) (bit_and b 127 + 1)) b) 128 (or_lt 8 _ _ ho hb) (omega arith))
  where
    hy : bit_and b 127 < 256
    hy = omega (arith, and_le_r b 127)

    hz : bit_xor (bit_and b 127) 2 + 95 < 256
    hz = omega (arith, xor_lt 7 (bit_and b 127) 2 (omega (arith, and_le_r b 127)) (omega arith))

    hv : bit_xor (bit_xor (bit_and b 127) 2 + 95) 255 < 256
    hv = xor_lt 8 (bit_xor (bit_and b 127) 2 + 95) 255 hz (omega arith)

    hu : bit_and b 127 + 1 < 256
    hu = omega (arith, and_le_r b 127)

    ho : bit_or (bit_xor (bit_xor (bit_and b 127) 2 + 95) 255) (bit_and b 127 + 1) < 256
    ho = or_lt 8 (bit_xor (bit_xor (bit_and b 127) 2 + 95) 255) (bit_and b 127 + 1) hv hu

-- ---- each byte, tried

-- the test holds of each number below n
unfoldable pub below : (ℕ → Bool) → ℕ → Bool
below p zero = true
below p (suc n) = p n && below p n

-- so it holds of one
pub below_one : (p : ℕ → Bool) (n b : ℕ) → T (below p n) → b < n → T (p b)
unfolding below
below_one p zero b t h = absurd (omega arith)
below_one p (suc n) b t h = go (dec_le n b) (λ k. below_one p n b (and_r (p n) (below p n) t) k)
  where
    go : Dec (n ≤ b) → (b < n → T (p b)) → T (p b)
    go (yes k) rest = let e : n ≡ b = omega arith in subst (λ x. T (p x)) e (and_l (p n) (below p n) t)
    go (no k) rest = rest (omega arith)

-- a byte is marked unless it is a digit
mark_digit : (b : ℕ) → b < 256 → marks 1 b 48 118 ≡ pick (is_digit b) 0 128
unfolding marks rep is_digit below
mark_digit b h =
    eqb→eq (marks 1 b 48 118) (pick (is_digit b) 0 128) (below_one (λ x. eqb (marks 1 x 48 118) (pick (is_digit x) 0 128)) 256 b tt h)

-- a byte is marked unless it is a text's and ASCII
mark_ascii : (b : ℕ) → b < 256 → ascii_marks 1 b ≡ pick (is_ascii_text b) 0 128
unfolding ascii_marks rep is_ascii_text is_text_byte below
mark_ascii b h =
    eqb→eq (ascii_marks 1 b) (pick (is_ascii_text b) 0 128) (below_one (λ x. eqb (ascii_marks 1 x) (pick (is_ascii_text x) 0 128)) 256 b tt h)

-- ---- the zeros below the lowest mark

-- an even number has one more than its half
even : (k n h : ℕ) → n ≡ h * 2 → count_trailing_zeros (suc k) n ≡ suc (count_trailing_zeros k h)
unfolding count_trailing_zeros
even k n h e =
    let a : n % 2 ≡ 0 = omega arith in
    let b : n / 2 ≡ h = omega arith in
    rw (a, b)

-- an odd number has none
odd : (k n h : ℕ) → n ≡ h * 2 + 1 → count_trailing_zeros (suc k) n ≡ 0
unfolding count_trailing_zeros
odd k n h e = let a : n % 2 ≡ 1 = omega arith in rw a

-- so many more
unfoldable later : ℕ → ℕ → ℕ
later zero k = k
later (suc j) k = suc (later j k)

-- doubled so many times
unfoldable doubled : ℕ → ℕ → ℕ
doubled zero n = n
doubled (suc j) n = doubled j n * 2

-- doubling adds one each time
evens : (j k n : ℕ) → count_trailing_zeros (later j k) (doubled j n) ≡ later j (count_trailing_zeros k n)
unfolding later doubled
evens zero k n = refl
evens (suc j) k n = even (later j k) (doubled j n * 2) (doubled j n) refl ∙ ap suc (evens j k n)

-- a byte that is not marked adds eight
skip : (k m : ℕ) → count_trailing_zeros (later 8 k) (m * 256 + 0) ≡ later 8 (count_trailing_zeros k m)
unfolding doubled
skip k m =
    let e : m * 256 + 0 ≡ doubled 8 m = omega arith in
    ap (count_trailing_zeros (later 8 k)) e ∙ evens 8 k m

-- below a mark stand seven
stop : (k m : ℕ) → count_trailing_zeros (later 8 k) (m * 256 + 128) ≡ 7
unfolding later doubled
stop k m =
    let e : m * 256 + 128 ≡ doubled 7 (m * 2 + 1) = omega arith in
    ap (count_trailing_zeros (later 8 k)) e ∙ evens 7 (suc k) (m * 2 + 1) ∙ ap (later 7) (odd k (m * 2 + 1) m refl)

-- the binary digits of so many bytes
unfoldable bits : List ℕ → ℕ
bits [] = 0
bits (b ∷ r) = later 8 (bits r)

-- eight a byte
bits_many : (bs : List ℕ) → bits bs ≡ length bs * 8
unfolding bits later
bits_many [] = refl
bits_many (b ∷ r) = omega (arith, bits_many r)

-- ---- how many stand before the first that is marked, whatever is marked

module _
    (p : ℕ → Bool) (marking : List ℕ → ℕ)
    (lane : (b : ℕ) (r : List ℕ) → b < 256 → marking (b ∷ r) ≡ marking r * 256 + pick (p b) 0 128)
  where
    run_marks : (bs : List ℕ) → T (all is_byte bs) → count_trailing_zeros (bits bs) (marking bs) / 8 ≡ run p bs
    unfolding run bits later count_trailing_zeros
    run_marks [] t = refl
    run_marks (b ∷ r) t =
        rw (lane b r (ltb→lt b 256 (and_l (is_byte b) (all is_byte r) t))) (go (p b) (run_marks r (and_r (is_byte b) (all is_byte r) t)))
      where
        go :
            (x : Bool) → count_trailing_zeros (bits r) (marking r) / 8 ≡ run p r
            → count_trailing_zeros (bits (b ∷ r)) (marking r * 256 + pick x 0 128) / 8 ≡ pick x (suc (run p r)) 0
        go true e = ap (λ z. z / 8) (skip (bits r) (marking r)) ∙ omega arith
        go false e = ap (λ z. z / 8) (stop (bits r) (marking r))

    -- of eight bytes
    marks_eight : (bs : List ℕ) (m : ℕ) → length bs ≡ 8 → T (all is_byte bs) → m ≡ marking bs → count_trailing_zeros 64 m / 8 ≡ run p bs
    marks_eight bs m l t e =
        let many : bits bs ≡ 64 = omega (arith, bits_many bs) in
        ap (λ x. count_trailing_zeros 64 x / 8) e ∙ ap (λ k. count_trailing_zeros k (marking bs) / 8) (sym many) ∙ run_marks bs t

-- ---- digits

-- the marks of bytes that are no digits
unfoldable digit_marked : List ℕ → ℕ
digit_marked bs = marks (length bs) (word bs) (rep (length bs) 48) (rep (length bs) 118)

-- byte by byte
digit_lanes : (b : ℕ) (r : List ℕ) → b < 256 → digit_marked (b ∷ r) ≡ digit_marked r * 256 + pick (is_digit b) 0 128
unfolding digit_marked rep word
digit_lanes b r h =
    marks_lane (length r) (word r) (rep (length r) 48) (rep (length r) 118) b 48 118 h (omega arith) (omega arith)
    ∙ ap (λ x. digit_marked r * 256 + x) (mark_digit b h)

-- of eight bytes
pub digits_eight :
    (bs : List ℕ) (w m : ℕ) → length bs ≡ 8 → T (all is_byte bs) → w ≡ word bs → m ≡ marks 8 w 0x3030303030303030 0x7676767676767676
    → count_trailing_zeros 64 m / 8 ≡ run is_digit bs
unfolding digit_marked rep
digits_eight bs w m l t e f = marks_eight is_digit digit_marked digit_lanes bs m l t (f ∙ rw (e, l))

-- ---- a text's bytes of ASCII

-- the marks of bytes that are none of them
unfoldable ascii_marked : List ℕ → ℕ
ascii_marked bs = ascii_marks (length bs) (word bs)

-- byte by byte
ascii_lanes : (b : ℕ) (r : List ℕ) → b < 256 → ascii_marked (b ∷ r) ≡ ascii_marked r * 256 + pick (is_ascii_text b) 0 128
unfolding ascii_marked word
ascii_lanes b r h = ascii_lane (length r) (word r) b h ∙ ap (λ x. ascii_marked r * 256 + x) (mark_ascii b h)

-- of eight bytes
pub ascii_eight :
    (bs : List ℕ) (w m : ℕ) → length bs ≡ 8 → T (all is_byte bs) → w ≡ word bs → m ≡ ascii_marks 8 w
    → count_trailing_zeros 64 m / 8 ≡ run is_ascii_text bs
unfolding ascii_marked
ascii_eight bs w m l t e f = marks_eight is_ascii_text ascii_marked ascii_lanes bs m l t (f ∙ rw (e, l))

-- ---- the lowest mark

-- no mark at all
pub mark_none : (m : ℕ) → m ≡ 0 → 8 ≡ count_trailing_zeros 64 m / 8
mark_none m e = rw (e, trailing_of_zero 64)

-- ---- the functions

-- eight bytes of a slice
pub eight : (s : List ℕ) (at : ℕ) → at + 8 ≤ length s → length (take 8 (drop at s)) ≡ 8
eight s at h = length-take-le 8 (drop at s) (omega (arith, length-drop at s))

-- one more
pub next : (s : List ℕ) (a b k : ℕ) → b ≡ a + 1 → a < length s → take (suc k) (drop a s) ≡ get_or s a 0 ∷ take k (drop b s)
next s a b k e h = rw (e, at_cons s a h)

-- n bytes from k past i on
unfoldable cells : ℕ → List ℕ → ℕ → ℕ → List ℕ
cells zero s i k = []
cells (suc n) s i k = get_or s (i + k) 0 ∷ cells n s i (k + 1)

-- one by one
cells_at : (n : ℕ) (s : List ℕ) (i k : ℕ) → i + k + n ≤ length s → take n (drop (i + k) s) ≡ cells n s i k
unfolding cells
cells_at zero s i k h = refl
cells_at (suc n) s i k h =
    next s (i + k) (i + (k + 1)) n (omega arith) (omega arith) ∙ ap (λ l. get_or s (i + k) 0 ∷ l) (cells_at n s i (k + 1) (omega arith))

-- the eight, one by one
pub eight_at :
    (s : List ℕ) (i : ℕ) → i + 8 ≤ length s
    → take 8 (drop i s)
    ≡ get_or s i 0 ∷ get_or s (i + 1) 0 ∷ get_or s (i + 2) 0 ∷ get_or s (i + 3) 0 ∷ get_or s (i + 4) 0
    ∷ get_or s (i + 5) 0 ∷ get_or s (i + 6) 0 ∷ get_or s (i + 7) 0 ∷ []
unfolding cells
eight_at s i h = next s i (i + 1) 7 refl (omega arith) ∙ ap (λ l. get_or s i 0 ∷ l) (cells_at 7 s i 1 (omega arith))

-- what a slice holds is bytes
bytes_all : (s : List ℕ) → ((k : ℕ) → get_or s k 0 < 256) → T (all is_byte s)
bytes_all [] b = tt
bytes_all (x ∷ s) b = and_in (is_byte x) (all is_byte s) (lt→ltb x 256 (b 0)) (bytes_all s (λ k. b (suc k)))

-- what is read of eight of them, the first the lowest
pub word_eight :
    (s : List ℕ) (i r : ℕ) → i + 8 ≤ length s → ((k : ℕ) → get_or s k 0 < 256)
    → r ≡ from_le_bytes w64
    (get_or s i 0 ∷ get_or s (i + 1) 0 ∷ get_or s (i + 2) 0 ∷ get_or s (i + 3) 0 ∷ get_or s (i + 4) 0
    ∷ get_or s (i + 5) 0 ∷ get_or s (i + 6) 0 ∷ get_or s (i + 7) 0 ∷ [])
    → (r ≡ word (take 8 (drop i s))) × T (all is_byte (take 8 (drop i s)))
unfolding word
word_eight s i r l b e = (rw (eight_at s i l) (e ∙ omega arith), all_take is_byte 8 (drop i s) (all_drop is_byte i s (bytes_all s b)))
