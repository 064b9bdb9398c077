-- How the loops over a number meet its forms: digits worth 1 or more, and the point.
use mathlib.Core.Path.{◌≡◌, refl, sym, ap, ◌∙◌}
use mathlib.Core.Bool.{true, false, and-true, true≢false}
use lib.Pointwise.{pointwise}
use mathlib.Core.List.{List, [], ◌∷◌}
use Prim.Native.Nat.{ℕ, ◌+◌, ◌-◌, ◌*◌, ◌≤◌, ◌<◌}
use native.Mathlib.Numerals.{add-one}
use native.Mathlib.Omega.{arith}
use borrow.Author.Tests.{le-leb}
use native.Mathlib.Decide.{dec_le}
use borrow.Author.Tests.{lt-ltb, le-ltb}
use lib.Dec.{leb, ltb, eqb}
use lib.ListN.{length, take, drop, length-drop}
use lib.Seq.{take_all}
use Rattle.std.specs.List.{list_any}
use Rattle.base.specs.Lists.{up_to, past}
use Rattle.base.proofs.Walk.{at_end_lem}
use Rattle.base.proofs.StdLists.{up_to_length, up_to_take, past_drop}
use Rattle.std.specs.Prelude.{Option, Some, None, unwrap_or, slice_range, ◌⊎◌}
use Rattle.std.proofs.Common.{inl, inr}
use Rattle.std.specs.Option.{MatchOption}
use denote.Ref.{Bor}
use Rattle.theory.specs.Decimal.{value, value_f}
use Rattle.meaning.specs.Forms.{unsigned}

-- ---- digits worth 1 or more

-- more digits never make a value less
grows : (a : ℕ) (l : List ℕ) → a ≤ value_f a l
unfolding value_f
grows a [] = omega arith
grows a (x ∷ l) = omega (arith, grows (a * 10 + (x - 48)) l)

-- a byte up to 0 is worth nothing
nothing : (x : ℕ) (l : List ℕ) → x ≤ 48 → value_f 0 (x ∷ l) ≡ value_f 0 l
unfolding value_f
nothing x l h = let z : 0 * 10 + (x - 48) ≡ 0 = omega arith in ap (λ (a : ℕ). value_f a l) z

-- one above it is worth 1 or more
something : (x : ℕ) (l : List ℕ) → 48 < x → leb 1 (value_f 0 (x ∷ l)) ≡ true
unfolding value_f
something x l h = le-leb 1 (value_f (0 * 10 + (x - 48)) l) (omega (arith, grows (0 * 10 + (x - 48)) l))

-- so they are worth 1 or more just where one is above 0
pub worth_any : (f : List ℕ) → list_any (ltb 48) f ≡ leb 1 (value f)
unfolding value value_f
worth_any f = go f
  where
    go : (l : List ℕ) → list_any (ltb 48) l ≡ leb 1 (value_f 0 l)
    go [] = refl
    go (x ∷ l) =
        elim (dec_le x 48) [
          | yes h ↦ rw (le-ltb 48 x h, nothing x l h) (go l)
          | no h ↦ rw (lt-ltb 48 x (omega arith), something x l (omega arith))
        ]

-- ---- what stands before the first point and after it

module _ (g : List ℕ) (p : ℕ) (e : p ≡ length (up_to 46 g)) where
  -- as many bytes as stand before the first point are those bytes
  pub before : take p g ≡ up_to 46 g
  before = rw (e, up_to_length 46 g) (sym (up_to_take 46 g))

  -- what is left one byte after those
  rest : drop (p + 1) g ≡ past 46 g
  rest = rw (add-one, e, up_to_length 46 g) (sym (past_drop 46 g))

  -- is what stands past the point, nothing where there is none
  pub after :
      (o : Option (Bor (List ℕ))) (none r : Bor (List ℕ))
      → MatchOption o ((length g < p + 1) ⊎ (length g < length g)) (λ x. (p + 1 ≤ length g) × (length g ≤ length g) × (x.now ≡ slice_range g (p + 1) (length g)) × (length x.now + (p + 1) ≡ length g))
      → none.now ≡ [] → r ≡ unwrap_or o none → r.now ≡ past 46 g
  after None none r m n q = ap (λ (x : Bor (List ℕ)). x.now) q ∙ n ∙ sym (sym rest ∙ at_end_lem g (p + 1) (past_end m))
    where
      past_end : (length g < p + 1) ⊎ (length g < length g) → length g ≤ p + 1
      past_end (inl h) = omega arith
      past_end (inr h) = absurd (omega arith)
  after (Some x) none r m n q = ap (λ (x : Bor (List ℕ)). x.now) q ∙ m.2 ∙ take_all (length g - (p + 1)) (drop (p + 1) g) (simp length-drop (omega arith)) ∙ rest

-- ---- the minus

-- a field without the minus that it may begin with
pub unsigned_told :
    (f : List ℕ) (o : Option (Bor (List ℕ))) (whole r : Bor (List ℕ))
    → MatchOption o (pointwise eqb (take 1 f) (45 ∷ []) ≡ false) (λ x. (pointwise eqb (take 1 f) (45 ∷ []) ≡ true) × (x.now ≡ drop 1 f) × (length x.now + 1 ≡ length f))
    → whole.now ≡ f → r ≡ unwrap_or o whole → r.now ≡ unsigned f
unfolding unsigned
unsigned_told [] None whole r m n q = ap (λ (x : Bor (List ℕ)). x.now) q ∙ n
unsigned_told (y ∷ f) None whole r m n q = ap (λ (x : Bor (List ℕ)). x.now) q ∙ n ∙ rw (sym (and-true (eqb y 45)) ∙ m)
unsigned_told [] (Some x) whole r m n q = absurd (true≢false (sym m.0))
unsigned_told (y ∷ f) (Some x) whole r m n q = ap (λ (x : Bor (List ℕ)). x.now) q ∙ m.1 ∙ rw (sym (and-true (eqb y 45)) ∙ m.0)
