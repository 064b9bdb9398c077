-- How long a sound field can be.
use Rattle.std.specs.Prelude.{ℕ, ◌+◌, ◌*◌}
use Rattle.meaning.specs.Forms.{Form, number, at_least1, decimal, date, time, text, change_type, xref_type, file_type, key_text}

-- the most bytes of a sound field of a form
unfoldable pub longest : Form → ℕ
longest (number w) = w
longest (at_least1 w) = w
longest (decimal w d) = 2 + w + d
longest date = 10
longest time = 6
longest (text w) = 2 + 4 * w
longest change_type = 3
longest xref_type = 1
longest file_type = 3
longest (key_text letter) = 16

-- the most of any form that a row of the table can say: two quotes and 255 characters of four bytes
abbrev pub most_of_any : ℕ
most_of_any = 1022
