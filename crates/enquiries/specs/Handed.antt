-- What an enquiry hands back, by the meaning's answer.
use Rattle.std.specs.Prelude.{◌≡◌, true, false, ◌&&◌, List, [], ℕ, ◌-◌, ◌≤◌, leb, length, get_or, take, drop, Option, Some, None}
use Rattle.std.specs.Borrow.{Bor}
use Rattle.meaning.specs.Lines.{lines_of}
use Rattle.meaning.specs.Enquiries.{Slice, first, second, Found, spanned}
use Rattle.answers.specs.Meant.{three_list}
use Rattle.text.specs.Parts.{StandsIn}
use Rattle.enquiries.specs.declared.lines.Span.{Span}

-- the numbers that were answered, and the part r of the slice s
pub record Handed (f : Found) (s r : Bor (List ℕ)) (answer : List ℕ) : Type 0 where
  pub numbers : answer ≡ three_list f.answer
  pub part : StandsIn r s f.start f.size

-- the one that is meant, of the two that were lent
abbrev pub lent_as : {A : Type 0} → Slice → A → A → A
lent_as first s t = s
lent_as second s t = t

-- the same where the part r stands in either of two slices
abbrev pub HandedOf : Found → Bor (List ℕ) → Bor (List ℕ) → Bor (List ℕ) → List ℕ → Type 0
HandedOf f s t r answer = Handed f (lent_as f.slice s t) r answer

-- line n of some bytes, counted from 1, stands there
pub record LineSpan (b : List ℕ) (n : ℕ) (s : Span) : Type 0 where
  pub exists : (leb 1 n && leb n (length (lines_of b))) ≡ true
  pub starts : s.start ≡ spanned (take (n - 1) (lines_of b))
  pub text : take (s.end - s.start) (drop s.start b) ≡ (get_or (lines_of b) (n - 1) (record { text = []; ended = false })).text
  pub from : s.start ≤ s.end
  pub within : s.end ≤ length b

-- line n of some bytes, counted from 1: where it stands, if there is one
abbrev pub LineIs : List ℕ → ℕ → Option Span → Type 0
LineIs b n (Some s) = LineSpan b n s
LineIs b n None = (leb 1 n && leb n (length (lines_of b))) ≡ false
