-- Paper 02, request 02: the characters of well-formed UTF-8, as RFC 3629 defines it.
use Rattle.std.specs.Prelude.{Bool, true, false, ◌&&◌, ◌||◌, List, [], ◌∷◌, ℕ, zero, suc, leb}
use Rattle.base.specs.Lists.{pick}

infixr 70 ◌to◌
-- the bytes from one to another, both included
pub data Range : Type 0 where
  ◌to◌ : ℕ → ℕ → Range

-- a byte is in a range
unfoldable pub is_in : Range → ℕ → Bool
is_in (a to b) x = leb a x && leb x b

-- UTF8-tail
abbrev pub tail : Range
tail = 0x80 to 0xBF

-- RFC 3629, section 4, 'Syntax of UTF-8 Byte Sequences': UTF8-1, UTF8-2, the four rows of UTF8-3 and the three of UTF8-4
unfoldable pub characters : List (List Range)
characters =
    (0x00 to 0x7F ∷ [])
    ∷ (0xC2 to 0xDF ∷ tail ∷ [])
    ∷ (0xE0 to 0xE0 ∷ 0xA0 to 0xBF ∷ tail ∷ [])
    ∷ (0xE1 to 0xEC ∷ tail ∷ tail ∷ [])
    ∷ (0xED to 0xED ∷ 0x80 to 0x9F ∷ tail ∷ [])
    ∷ (0xEE to 0xEF ∷ tail ∷ tail ∷ [])
    ∷ (0xF0 to 0xF0 ∷ 0x90 to 0xBF ∷ tail ∷ tail ∷ [])
    ∷ (0xF1 to 0xF3 ∷ tail ∷ tail ∷ tail ∷ [])
    ∷ (0xF4 to 0xF4 ∷ 0x80 to 0x8F ∷ tail ∷ tail ∷ [])
    ∷ []

-- a byte begins one of the rows
unfoldable pub starts : List (List Range) → ℕ → Bool
starts [] x = false
starts ([] ∷ rows) x = starts rows x
starts ((r ∷ rs) ∷ rows) x = is_in r x || starts rows x

-- what follows it in that row
unfoldable pub follows : List (List Range) → ℕ → List Range
follows [] x = []
follows ([] ∷ rows) x = follows rows x
follows ((r ∷ rs) ∷ rows) x = pick (is_in r x) rs (follows rows x)

-- after what the character before still wants, bytes are at most w whole characters
unfoldable pub at_most : ℕ → List Range → List ℕ → Bool
at_most w [] [] = true
at_most w (r ∷ rs) [] = false
at_most w (r ∷ rs) (x ∷ t) = is_in r x && at_most w rs t
at_most zero [] (x ∷ t) = false
at_most (suc w) [] (x ∷ t) = starts characters x && at_most w (follows characters x) t
