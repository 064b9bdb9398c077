-- The field that is handed back lies within the bytes.
use mathlib.Core.Path.{◌≡◌, refl, ap}
use mathlib.Core.Bool.{Bool, true, false, ◌&&◌}
use mathlib.Core.List.{List, [], ◌∷◌}
use Prim.Native.Nat.{ℕ, zero, suc, ◌+◌, ◌-◌, ◌≤◌, ◌<◌}
use native.Mathlib.Omega.{arith}
use borrow.Author.Rules.{rules}
use borrow.Author.Tests.{leb-true}
use lib.Dec.{leb}
use lib.ListN.{length, get_or, take, length-append}
use Rattle.base.specs.Lists.{pick}
use Rattle.meaning.specs.Lines.{lines_of, fields_of, odd_quotes}
use Rattle.meaning.specs.Enquiries.{Found, first, refusal, spanned, fields_spanned, field_part, field_in, field_of}
use Rattle.meaning.specs.Answers.{no_fault, alone}
use Rattle.laws.specs.LinesAndFields.{commas, fields_commas}
use Rattle.meaning.specs.Codes.{no_such_part}
use Rattle.enquiries.proofs.LineSeekLaws.{no_line}
use Rattle.enquiries.proofs.WithinLaws.{Within, nothing, line_within, either}

-- what stands before a field's end is no longer than the line
fields_fit : (fs : List (List ℕ)) (j : ℕ) → j < length fs → fields_spanned (take j fs) + length (get_or fs j []) ≤ length (commas fs)
unfolding fields_spanned commas
fields_fit [] j h = absurd (omega arith)
fields_fit (f ∷ []) zero h = omega arith
fields_fit (f ∷ []) (suc j) h = absurd (omega arith)
fields_fit (f ∷ (g ∷ fs)) zero h = simp length-append (omega arith)
fields_fit (f ∷ (g ∷ fs)) (suc j) h = simp length-append (omega (arith, fields_fit (g ∷ fs) j (omega arith)))

field_within : (a b : List ℕ) (l f : ℕ) → Within (field_of a l f) a b
unfolding field_of field_in field_part fields_of
field_within a b l f = line (leb 1 l && leb l (length (lines_of a)))
  where
    at : ℕ
    at = spanned (take (l - 1) (lines_of a))

    t : List ℕ
    t = (get_or (lines_of a) (l - 1) no_line).text

    inside : leb 1 f ≡ true → leb f (length (fields_of t)) ≡ true → at + fields_spanned (take (f - 1) (fields_of t)) + length (get_or (fields_of t) (f - 1) []) ≤ length a
    inside u v = omega (arith, line_within a (l - 1), fields_fit (fields_of t) (f - 1) (omega (arith, leb-true 1 f u, leb-true f (length (fields_of t)) v)), ap length (fields_commas false t).0)

    field : (x y : Bool) → leb 1 f ≡ x → leb f (length (fields_of t)) ≡ y
        → Within (pick (x && y) (record { answer = no_fault; slice = first; start = at + fields_spanned (take (f - 1) (fields_of t)); size = length (get_or (fields_of t) (f - 1) []) }) (refusal (alone no_such_part))) a b
    field true true u v = inside u v
    field true false u v = nothing (alone no_such_part) a b
    field false y u v = nothing (alone no_such_part) a b

    quotes : (o : Bool) → Within (pick o (refusal (alone no_such_part)) (field_part at (fields_of t) f)) a b
    quotes true = nothing (alone no_such_part) a b
    quotes false = field (leb 1 f) (leb f (length (fields_of t))) refl refl

    line : (c : Bool) → Within (pick c (field_in at t f) (refusal (alone no_such_part))) a b
    line true = quotes (odd_quotes t)
    line false = nothing (alone no_such_part) a b

-- a field
pub field_fits : (a : List ℕ) (l f : ℕ) (g : Found) → g ≡ field_of a l f → g.start + g.size ≤ length a
field_fits a l f g e = either a (field_of a l f) g e (field_within a a l f)

pub ruleset handing = (rules, field_fits)
