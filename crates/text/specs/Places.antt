-- Where lines and fields stand in the bytes that were lent: the offsets that a walk goes by. Laws of proofs/ tie each to the meaning.
use Rattle.std.specs.Prelude.{Bool, false, ◌&&◌, List, [], ◌∷◌, ℕ, suc, ◌+◌, ◌-◌, ◌≤◌, ◌<◌, ◌≡◌, eqb, ltb, length, get_or, take, drop}
use Rattle.base.specs.Lists.{pick}
use Rattle.meaning.specs.Lines.{plain, is_sep, turned, fields_of, odd_quotes}
use Rattle.meaning.specs.Enquiries.{fields_spanned}

-- a CR LF stands at the front
abbrev pub ends_here : List ℕ → Bool
ends_here [] = false
ends_here (x ∷ []) = false
ends_here (x ∷ (y ∷ r)) = eqb x 13 && eqb y 10

-- how many bytes stand before the first CR LF, or in all where there is none
unfoldable pub line_len : List ℕ → ℕ
line_len [] = 0
line_len (x ∷ r) = pick (ends_here (x ∷ r)) 0 (suc (line_len r))

-- where the line that starts at `at` ends
abbrev pub line_end : List ℕ → ℕ → ℕ
line_end s at = at + line_len (drop at s)

-- how many bytes stand before the first CR or LF, or in all where there is none
unfoldable pub plain_len : List ℕ → ℕ
plain_len [] = 0
plain_len (x ∷ r) = pick (plain x) (suc (plain_len r)) 0

-- where the first CR or LF at or after `at` stands
abbrev pub plain_end : List ℕ → ℕ → ℕ
plain_end s at = at + plain_len (drop at s)

-- how many fields a line has; 0 where its quotes are odd, since every line has a field
unfoldable pub field_count : List ℕ → ℕ
field_count t = pick (odd_quotes t) 0 (length (fields_of t))

-- how many bytes stand before the next separator, where quoting is q
unfoldable pub field_len : Bool → List ℕ → ℕ
field_len q [] = 0
field_len q (x ∷ r) = pick (is_sep q x) 0 (suc (field_len (turned q x) r))

-- where the field that starts at `at` ends
abbrev pub field_end : List ℕ → ℕ → ℕ
field_end t at = at + field_len false (drop at t)

-- where the fields of what is left of a line end, where quoting is q and it starts at i
unfoldable pub ends_from : Bool → ℕ → List ℕ → List ℕ
ends_from q i [] = i ∷ []
ends_from q i (x ∷ r) = pick (is_sep q x) (i ∷ ends_from (turned q x) (suc i) r) (ends_from (turned q x) (suc i) r)

-- where the fields of a line end, from the first
unfoldable pub field_ends : List ℕ → List ℕ
field_ends t = ends_from false 0 t

-- an array notes where the fields of a line end, as far as it reaches
pub record Notes (t a : List ℕ) : Type 0 where
  pub ends : (k : ℕ) → k < length (fields_of t) → k < length a → get_or a k 0 ≡ get_or (field_ends t) k 0

-- where field k starts, or the line's end where it has no such field
unfoldable pub field_start : List ℕ → ℕ → ℕ
field_start t k = pick (ltb k (length (fields_of t))) (fields_spanned (take k (fields_of t))) (length t)

-- r is where field k starts, and the field stands from there up to its end
pub record FieldAt (t : List ℕ) (k r : ℕ) : Type 0 where
  pub starts : r ≡ field_start t k
  pub within : r ≤ length t
  pub stands : take (field_end t r - r) (drop r t) ≡ get_or (fields_of t) k []
