-- The laws of the walk to a field.
use mathlib.Core.Path.{◌≡◌, refl, ap, ◌∙◌, sym}
use mathlib.Core.Bool.{false}
use mathlib.Core.List.{List, [], ◌∷◌}
use Prim.Native.Nat.{ℕ, zero, suc, ◌+◌, ◌-◌, ◌≤◌, ◌<◌}
use native.Mathlib.Nat.{zero-add, add-zero}
use native.Mathlib.Omega.{arith}
use borrow.Author.Tests.{lt-ltb, le-ltb}
use borrow.Author.Rules.{rules}
use lib.Dec.{ltb, leb-suc-suc}
use lib.ListN.{length, get_or, drop, take, length-take, length-drop}
use Rattle.base.specs.Lists.{pick}
use lib.Seq.{take_all}
use Rattle.base.proofs.Walk.{at_end_lem}
use Rattle.meaning.specs.Lines.{fields_from, fields_of}
use Rattle.meaning.specs.Enquiries.{fields_spanned}
use Rattle.text.specs.Places.{field_len, field_end, field_start, FieldAt}
use Rattle.text.proofs.FieldLaws.{fields_at}

-- where it starts, by what is left from `at` on
abbrev pub start_at : List ℕ → ℕ → ℕ → ℕ
start_at t at left =
    pick (ltb left (length (fields_from false (drop at t)))) (at + fields_spanned (take left (fields_from false (drop at t)))) (length t)

-- the field that is to be found, by what is left from `at` on
abbrev pub field_from : List ℕ → ℕ → ℕ → List ℕ
field_from t at left = get_or (fields_from false (drop at t)) left []

-- the walk stands at a place from which the field is still to be found
pub record Seeking (t : List ℕ) (k at left : ℕ) : Type 0 where
  pub starts : start_at t at left ≡ field_start t k
  pub stands : field_from t at left ≡ get_or (fields_of t) k []
  pub within : at ≤ length t

-- it begins at the line's start, where no field is passed
pub seek_start : (t : List ℕ) (k : ℕ) → Seeking t k 0 (k - 0)
unfolding field_start fields_of
seek_start t k = let all : k - 0 ≡ k = omega arith in rw all (record { starts = rw zero-add; stands = refl; within = omega arith })

-- the length of a field
field_length : (t : List ℕ) (at e : ℕ) → e ≡ field_end t at → e ≤ length t → length (take (field_len false (drop at t)) (drop at t)) ≡ e - at
field_length t at e p l = simp (length-take, length-drop) (omega arith)

-- a field that a separator ends is passed
turn : (t : List ℕ) (k at left e : ℕ) → Seeking t k at left → 0 < left → e ≡ field_end t at → (e ≡ length t → ⊥) → at ≤ e → e ≤ length t → Seeking t k (e + 1) (left - 1)
unfolding fields_spanned
turn t k at zero e s h p ne ae le = absurd (omega arith)
turn t k at (suc m) e s h p ne ae le = record { starts = begins; stands = rw (less, next) (rw split at s.stands); within = omega arith }
  where
    n : ℕ
    n = field_len false (drop at t)

    less : suc m - 1 ≡ m
    less = omega arith

    next : e + 1 ≡ at + suc n
    next = omega arith

    split : fields_from false (drop at t) ≡ take n (drop at t) ∷ fields_from false (drop (at + suc n) t)
    split = fields_at t at ∙ rw (lt-ltb n (length t - at) (omega arith))

    begins : start_at t (e + 1) (suc m - 1) ≡ field_start t k
    begins =
        rw (less, next)
        (ap (λ (x : ℕ). pick (ltb m (length (fields_from false (drop (at + suc n) t)))) x (length t)) (omega (arith, field_length t at e p le))
        ∙ (rw (split, leb-suc-suc (suc m) (length (fields_from false (drop (at + suc n) t)))) at s.starts))

-- one more of n
pub seek_turn : (t : List ℕ) (k at n e : ℕ) → Seeking t k at (k - n) → n < k → e ≡ field_end t at → (e ≡ length t → ⊥) → at ≤ e → e ≤ length t → Seeking t k (e + 1) (k - (n + 1))
seek_turn t k at n e s h p ne ae le = let one : k - (n + 1) ≡ (k - n) - 1 = omega arith in rw one (turn t k at (k - n) e s (omega arith) p ne ae le)

-- past the last field there is none
none : (t : List ℕ) (k at left e : ℕ) → Seeking t k at left → 0 < left → e ≡ field_end t at → e ≡ length t → FieldAt t k e
none t k at zero e s h p q = absurd (omega arith)
none t k at (suc m) e s h p q = record {
  starts = q ∙ (rw (only, le-ltb (suc m) 1 (omega arith)) at s.starts);
  within = omega arith;
  stands = rw (at_end_lem t e (omega arith), take_all {A = ℕ} (e + field_len false [] - e) [] (omega arith)) (rw only at s.stands);
}
  where
    n : ℕ
    n = field_len false (drop at t)

    only : fields_from false (drop at t) ≡ take n (drop at t) ∷ []
    only = fields_at t at ∙ rw (le-ltb n (length t - at) (omega arith))

pub seek_none : (t : List ℕ) (k at n e : ℕ) → Seeking t k at (k - n) → n < k → e ≡ field_end t at → e ≡ length t → FieldAt t k e
seek_none t k at n e s h p q = none t k at (k - n) e s (omega arith) p q

-- here it is
here : (t : List ℕ) (k at left : ℕ) → Seeking t k at left → left ≤ 0 → FieldAt t k at
unfolding fields_spanned
here t k at zero s h = record {
  starts = sym (add-zero at) ∙ (rw (fields_at t at, lt-ltb 0 (suc (length more)) (omega arith)) at s.starts);
  within = s.within;
  stands = rw size (rw (fields_at t at) at s.stands);
}
  where
    n : ℕ
    n = field_len false (drop at t)

    more : List (List ℕ)
    more = pick (ltb n (length t - at)) (fields_from false (drop (at + suc n) t)) []

    size : field_end t at - at ≡ n
    size = omega arith
here t k at (suc m) s h = absurd (omega arith)

pub seek_here : (t : List ℕ) (k at n : ℕ) → Seeking t k at (k - n) → k ≤ n → FieldAt t k at
seek_here t k at n s h = here t k at (k - n) s (omega arith)

pub ruleset seek = (rules, seek_start, seek_turn, seek_none, seek_here)
