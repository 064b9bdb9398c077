-- The character that stands in front of bytes.
use Rattle.std.specs.Prelude.{Bool, true, false, ◌&&◌, List, [], ◌∷◌, ℕ, suc, ltb, length, Option, Some, None}
use Rattle.base.specs.Lists.{pick}
use Rattle.meaning.specs.Characters.{Range, is_in, characters, starts, follows}
use Rattle.meaning.specs.Forms.{is_text_byte}

-- a byte that may stand in a text and is ASCII, a character by itself
unfoldable pub is_ascii_text : ℕ → Bool
is_ascii_text x = is_text_byte x && ltb x 0x7F

-- a byte is in the first of the ranges
unfoldable pub in_first : List Range → ℕ → Bool
in_first [] x = false
in_first (r ∷ rs) x = is_in r x

-- bytes begin with one in each of the ranges
unfoldable pub in_each : List Range → List ℕ → Bool
in_each [] t = true
in_each (r ∷ rs) [] = false
in_each (r ∷ rs) (x ∷ t) = is_in r x && in_each rs t

-- how many bytes the first character of a text has; `None` where the bytes begin with none
unfoldable pub character_length : List ℕ → Option ℕ
character_length [] = None
character_length (x ∷ t) = pick (is_text_byte x && (starts characters x && in_each (follows characters x) t)) (Some (suc (length (follows characters x)))) None
