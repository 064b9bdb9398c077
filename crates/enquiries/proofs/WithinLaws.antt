-- A part lies within what was lent.
use mathlib.Core.Path.{◌≡◌, subst}
use mathlib.Core.Bool.{Bool, true, false}
use mathlib.Core.List.{List, [], ◌∷◌, ◌++◌}
use Prim.Native.Nat.{ℕ, zero, suc, ◌+◌, ◌≤◌}
use native.Mathlib.Omega.{arith}
use lib.ListN.{length, get_or, take, length-append}
use Rattle.base.specs.Lists.{pick}
use Rattle.meaning.specs.Lines.{Line, lines_of}
use Rattle.meaning.specs.Enquiries.{Slice, first, second, Found, refusal, spanned}
use Rattle.laws.specs.LinesAndFields.{unlines, lines_join}
use Rattle.meaning.specs.Answers.{Refusal}
use Rattle.enquiries.specs.Handed.{lent_as}
use Rattle.enquiries.proofs.LineSeekLaws.{no_line}

-- a part ends where its slice does, or before
abbrev pub Within : Found → List ℕ → List ℕ → Type 0
Within f a b = f.start + f.size ≤ length (lent_as f.slice a b)

-- an empty part
pub nothing : (r : Refusal) (a b : List ℕ) → Within (refusal r) a b
unfolding refusal
nothing r a b = omega arith

-- ---- a line

-- what stands before a line's end is no longer than all lines
line_fits : (ls : List Line) (i : ℕ) → spanned (take i ls) + length (get_or ls i no_line).text ≤ length (unlines ls)
unfolding spanned unlines
line_fits [] zero = omega arith
line_fits [] (suc i) = omega arith
line_fits (l ∷ ls) zero = simp length-append (omega arith)
line_fits (l ∷ ls) (suc i) = go l.ended (line_fits ls i)
  where
    go : (e : Bool) → spanned (take i ls) + length (get_or ls i no_line).text ≤ length (unlines ls)
        → length l.text + (pick e 2 0 + spanned (take i ls)) + length (get_or ls i no_line).text ≤ length (l.text ++ (pick e (13 ∷ 10 ∷ []) [] ++ unlines ls))
    go true h = simp length-append (omega (arith, h))
    go false h = simp length-append (omega (arith, h))

-- so it is within their bytes
pub line_within : (b : List ℕ) (i : ℕ) → spanned (take i (lines_of b)) + length (get_or (lines_of b) i no_line).text ≤ length b
line_within b i = subst (λ (x : List ℕ). spanned (take i (lines_of b)) + length (get_or (lines_of b) i no_line).text ≤ length x) (lines_join b) (line_fits (lines_of b) i)

-- ---- a finding

-- a part of either of the same
pub either : (a : List ℕ) (f g : Found) → g ≡ f → Within f a a → g.start + g.size ≤ length a
either a f g e w = rw e (side f.slice w)
  where
    side : (z : Slice) → f.start + f.size ≤ length (lent_as z a a) → f.start + f.size ≤ length a
    side first h = h
    side second h = h
