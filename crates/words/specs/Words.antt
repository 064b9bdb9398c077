-- Eight bytes as one number, and a mark in each byte that is not as asked.
use Rattle.std.specs.Prelude.{◌≡◌, Bool, List, [], ◌∷◌, ℕ, zero, suc, ◌+◌, ◌-◌, ◌*◌, ◌≤◌, ltb, take, drop}
use Rattle.std.specs.Int.Bits.{bit_and, bit_or, bit_xor}
use Rattle.base.specs.Lists.{pick}

-- the bytes from `at` up to e
abbrev pub upto : List ℕ → ℕ → ℕ → List ℕ
upto s at e = take (e - at) (drop at s)

-- the number whose digits to the base 256 these are, the first the lowest
unfoldable pub word : List ℕ → ℕ
word [] = 0
word (b ∷ r) = word r * 256 + b

-- a byte
abbrev pub is_byte : ℕ → Bool
is_byte b = ltb b 256

-- how many in front pass the test
unfoldable pub run : (ℕ → Bool) → List ℕ → ℕ
run p [] = 0
run p (x ∷ r) = pick (p x) (suc (run p r)) 0

-- the byte k, n times
unfoldable pub rep : ℕ → ℕ → ℕ
rep zero k = 0
rep (suc n) k = rep n k * 256 + k

-- n bytes without the highest bit of each
abbrev pub lows : ℕ → ℕ → ℕ
lows n w = bit_and w (rep n 127)

-- the marks of n bytes: 128 in each byte of w whose `xor` with the byte of `like` is above 127 less the byte of `over`, else 0
unfoldable pub marks : ℕ → ℕ → ℕ → ℕ → ℕ
marks n w like over = bit_and (bit_or (lows n (bit_xor w like) + over) (bit_xor w like)) (rep n 128)

-- the marks of n bytes: 128 in each byte of w that is below 32, 34 or above 126, else 0
unfoldable pub ascii_marks : ℕ → ℕ → ℕ
ascii_marks n w = bit_and (bit_or (bit_or (bit_xor (bit_xor (lows n w) (rep n 2) + rep n 95) (rep n 255)) (lows n w + rep n 1)) w) (rep n 128)

-- h is the value of two digits, 16 or more
pub record Century (a b h : ℕ) : Type 0 where
  pub first : (48 ≤ a) × (a ≤ 57)
  pub second : (48 ≤ b) × (b ≤ 57)
  pub worth : h ≡ (a - 48) * 10 + (b - 48)
  pub late : 16 ≤ h
