-- One field of a line, as code answers it.
use Rattle.std.specs.Prelude.{◌≡◌, true, false, not, ◌&&◌, List, [], ℕ, ◌-◌, ◌≤◌, leb, length, get_or, take, Option, Some, None}
use Rattle.meaning.specs.Lines.{fields_of, odd_quotes}
use Rattle.meaning.specs.Enquiries.{fields_spanned}
use Rattle.enquiries.specs.declared.lines.Span.{Span}

-- field n of a line of even quotes, counted from 1, stands there
pub record FieldSpan (t : List ℕ) (n : ℕ) (s : Span) : Type 0 where
  pub exists : (not (odd_quotes t) && (leb 1 n && leb n (length (fields_of t)))) ≡ true
  pub starts : s.start ≡ fields_spanned (take (n - 1) (fields_of t))
  pub size : s.end - s.start ≡ length (get_or (fields_of t) (n - 1) [])
  pub from : s.start ≤ s.end
  pub within : s.end ≤ length t

-- field n of a line, counted from 1: where it stands, if there is one in a line of even quotes
abbrev pub FieldIs : List ℕ → ℕ → Option Span → Type 0
FieldIs t n (Some s) = FieldSpan t n s
FieldIs t n None = (not (odd_quotes t) && (leb 1 n && leb n (length (fields_of t)))) ≡ false
