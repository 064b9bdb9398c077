-- The code's table says what the meaning's table says: its numbers are the meaning's rows, encoded; one computed test, and what follows at each row.
use mathlib.Core.Path.{◌≡◌, refl, sym, ◌∙◌}
use mathlib.Core.List.{List, map}
use Prim.Native.Nat.{ℕ, ◌+◌, ◌*◌, ◌≤◌, ◌<◌}
use native.Mathlib.Omega.{arith}
use lib.Dec.{leb, leb→le}
use lib.ListN.{length, get_or, get_or-map}
use mir.Syntax.{w64}
use mir.Val.{Fits}
use Rattle.base.specs.Lists.{pick}
use Rattle.meaning.specs.Forms.{Form, number, at_least1, decimal, date, time, text, change_type, xref_type, file_type, key_text}
use Rattle.meaning.specs.Kinds.{Kind, kinds}
use Rattle.meaning.specs.Table.{fields}
use Rattle.laws.specs.Kinds.{every, alike}
use Rattle.layout.specs.Rows.{Row, bare, no_row, row_of, decoded, form_decoded, filled_decoded}

-- the number that says a form
unfoldable pub form_encoded : Form → ℕ
form_encoded (number w) = 16 * w
form_encoded (at_least1 w) = 1 + 16 * w
form_encoded (decimal w d) = 2 + 16 * w + 4096 * d
form_encoded date = 3
form_encoded time = 4
form_encoded (text w) = 5 + 16 * w
form_encoded change_type = 6
form_encoded xref_type = 7
form_encoded file_type = 8
form_encoded (key_text c) = 9 + 16 * c

-- a row as a number
unfoldable pub encoded : Row → ℕ
encoded r = form_encoded r.0 + pick r.1 65536 0

-- the numbers of a kind's fields
unfoldable pub codes : Kind → List ℕ
codes k = map encoded (map bare (fields k))

-- decoded they are the fields again, of every kind
pub rows_right : (k : Kind) → map decoded (codes k) ≡ map bare (fields k)
unfolding kinds codes encoded form_encoded fields form_decoded filled_decoded
rows_right k = alike (λ k. map decoded (codes k)) (λ k. map bare (fields k)) refl k

-- no row stands for no field
pub no_row_lem : decoded 0 ≡ no_row
unfolding form_decoded filled_decoded
no_row_lem = refl

-- no kind has more than 28 fields
pub few_fields : (k : Kind) → length (fields k) ≤ 28
unfolding kinds fields
few_fields k = leb→le (length (fields k)) 28 (every (λ k. leb (length (fields k)) 28) tt k)

-- an enum of the code, and the kind that is meant by each of its cases
module _ {Named : Type 0} (meant : Named → Kind) (kind : Named) (k : ℕ) where
  -- a row's offset fits
  pub row_fits_lem : k < length (fields (meant kind)) → Fits w64 (k * 4)
  row_fits_lem h = omega (arith, few_fields (meant kind))

  module _ (kind' : Named) (e : kind ≡ kind') where
    -- in the arm of a kind, a field's number is below the table's length
    pub row_in : (n : ℕ) → k < length (fields (meant kind)) → n ≡ length (fields (meant kind')) → k < n
    row_in n h q = rw q (rw e at h)

    -- in the arm of a kind, what is read is the kind's row
    pub row_is : (l : List ℕ) → l ≡ codes (meant kind') → decoded (get_or l k 0) ≡ row_of (meant kind) k
    unfolding row_of
    row_is l q = rw (q, e) (sym (get_or-map decoded (codes (meant kind')) k 0) ∙ rw (rows_right (meant kind'), no_row_lem))
