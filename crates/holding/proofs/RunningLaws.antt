-- The laws of PRO_ORDER in a line that was passed: a number by its digits, and digits with no zero in front by their value.
use mathlib.Core.Path.{◌≡◌, refl, sym, ◌∙◌}
use mathlib.Core.Bool.{Bool, true, false, ◌&&◌}
use mathlib.Core.Option.{none}
use mathlib.Core.List.{List, [], ◌∷◌, map}
use Prim.Native.Nat.{ℕ, ◌<◌}
use borrow.Author.Rules.{rules}
use borrow.Author.Tests.{eqb-true}
use lib.Dec.{T, eqb, ltb, leb, ltb→lt}
use lib.ListN.{length, get_or}
use Rattle.base.specs.Lists.{all, same}
use Rattle.base.specs.Tests.{and_l, and_r}
use Rattle.base.specs.ListLaws.{same_refl}
use Rattle.theory.specs.Decimal.{dec, value}
use Rattle.meaning.specs.Forms.{Form, number, at_least1, decimal, date, time, text, change_type, xref_type, file_type, key_text, is_digit, is_number, has_form, is_textual, is_empty, sound_as}
use Rattle.meaning.specs.Lines.{fields_of}
use Rattle.meaning.specs.Kinds.{Kind, kinds, role}
use Rattle.meaning.specs.Table.{fields, scottish}
use Rattle.meaning.specs.Holding.{is_held}
use Rattle.laws.specs.Kinds.{every}
use Rattle.laws.specs.Digits.{dec_value}
use Rattle.layout.specs.Rows.{bare, row_of}
use Rattle.layout.specs.Check.{lowest_bad}
use Rattle.layout.proofs.CheckLaws.{low_sound}

-- a test that is not passed says nothing
pub no_pass : (b : Bool) → false ≡ true → b ≡ true
no_pass b e = cc

-- ---- digits by their value

-- digits with no zero in front are that number where their value is
pub running : (f : List ℕ) (n v : ℕ) → T (all is_digit f) → (length f ≡ 0 → ⊥) → (get_or f 0 0 ≡ 48 → ⊥) → v ≡ value f → eqb v n ≡ true → same f (dec n) ≡ true
running f n v t m z p q =
    let e : n ≡ value f = sym (eqb-true v n q) ∙ p in
    rw (e, dec_value f t m z) (is_true (same f f) (same_refl f))
  where
    is_true : (b : Bool) → T b → b ≡ true
    is_true true t = refl
    is_true false t = absurd t

-- ---- the digits of PRO_ORDER

-- a number's form
abbrev digital : Form → Bool
digital (number w) = true
digital (at_least1 w) = false
digital (decimal w d) = false
digital date = false
digital time = false
digital (text w) = false
digital change_type = false
digital xref_type = false
digital file_type = false
digital (key_text c) = false

-- a sound field of that form is digits, or empty
digital_all : (m : Form) (b : Bool) (f : List ℕ) → T (digital m) → T (sound_as scottish.text_rule m b f) → T (all is_digit f)
unfolding sound_as is_empty is_textual same has_form is_number
digital_all (number w) b [] n s = tt
digital_all (number w) b (x ∷ f) n s = and_r (leb (length (x ∷ f)) w) (all is_digit (x ∷ f)) (and_r (leb 1 (length (x ∷ f))) (leb (length (x ∷ f)) w && all is_digit (x ∷ f)) s)
digital_all (at_least1 w) b f n s = absurd n
digital_all (decimal w d) b f n s = absurd n
digital_all date b f n s = absurd n
digital_all time b f n s = absurd n
digital_all (text w) b f n s = absurd n
digital_all change_type b f n s = absurd n
digital_all xref_type b f n s = absurd n
digital_all file_type b f n s = absurd n
digital_all (key_text c) b f n s = absurd n

-- the third field of a held kind is such a one
abbrev numbered : Bool → Kind → Bool
numbered true k = ltb 2 (length (map bare (fields k))) && digital (row_of k 2).0
numbered false k = true

third : (k : Kind) → T (numbered (is_held (role k)) k)
unfolding kinds role fields is_held row_of
third k = every (λ k. numbered (is_held (role k)) k) tt k

-- so PRO_ORDER of a held line is digits
pub order_digits :
    (k : Kind) (t f : List ℕ) (b : Bool) → b ≡ is_held (role k) → b ≡ true → none ≡ lowest_bad 1 (map bare (fields k)) (fields_of t) → 2 < length (fields_of t) → f ≡ get_or (fields_of t) 2 []
    → T (all is_digit f)
unfolding row_of
order_digits k t f b p y z g e =
    let h : T (numbered true k) = rw (sym p ∙ y) at (third k) in
    let l = ltb→lt 2 (length (map bare (fields k))) (and_l (ltb 2 (length (map bare (fields k)))) _ h) in
    rw e (digital_all (row_of k 2).0 (row_of k 2).1 (get_or (fields_of t) 2 []) (and_r (ltb 2 (length (map bare (fields k)))) _ h) (low_sound 1 (map bare (fields k)) (fields_of t) 2 z l g))

pub ruleset runs = (rules, running)
