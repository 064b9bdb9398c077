-- Req 06: a month's last day by arithmetic is the calendar's.
use mathlib.Core.Path.{◌≡◌, refl, sym, ◌∙◌}
use mathlib.Core.Bool.{Bool, true, false}
use mathlib.Core.List.{List, [], ◌∷◌, map, head-eq_of_cons-eq, tail-eq_of_cons-eq}
use Prim.Native.Nat.{ℕ, zero, suc, ◌+◌, ◌/◌, ◌%◌, ◌≤◌}
use native.Mathlib.Omega.{arith}
use borrow.Author.Tests.{eqb-true, eqb-false, ne_eqb}
use lib.Dec.{eqb}
use Rattle.base.specs.Lists.{pick}
use Rattle.meaning.specs.Forms.{is_leap, days_in}

-- months of 31 and of 30 days take turns, and from August on the other way round
abbrev by_turns : ℕ → ℕ
by_turns m = 30 + (m + m / 8) % 2

-- a month's last day by arithmetic
last_day : ℕ → ℕ → ℕ
last_day y m = pick (eqb m 2) (pick (is_leap y) 29 28) (by_turns m)

-- the numbers from n down to 1
down_from : ℕ → List ℕ
down_from zero = []
down_from (suc n) = suc n ∷ down_from n

-- it is the calendar's, in every year and for each of the twelve months
the_calendar : (y : ℕ) → map (last_day y) (down_from 12) ≡ map (days_in y) (down_from 12)
unfolding last_day days_in down_from
the_calendar y = refl

-- what two rules say alike of n down to 1 they say alike of each
alike : (f g : ℕ → ℕ) (n m : ℕ) → map f (down_from n) ≡ map g (down_from n) → 1 ≤ m → m ≤ n → f m ≡ g m
unfolding down_from
alike f g zero m e l h = absurd (omega arith)
alike f g (suc n) m e l h = go (eqb m (suc n)) refl (alike f g n m (tail-eq_of_cons-eq e) l)
  where
    go : (b : Bool) → eqb m (suc n) ≡ b → (m ≤ n → f m ≡ g m) → f m ≡ g m
    go true q below = rw (eqb-true m (suc n) q) (head-eq_of_cons-eq e)
    go false q below = below (omega (arith, eqb-false m (suc n) q))

-- so it is for any one of them
last_day_lem : (y m : ℕ) → 1 ≤ m → m ≤ 12 → last_day y m ≡ days_in y m
last_day_lem y m = alike (last_day y) (days_in y) 12 m (the_calendar y)

-- any month but February
pub by_turns_lem : (y m : ℕ) → 1 ≤ m → m ≤ 12 → (m ≡ 2 → ⊥) → by_turns m ≡ days_in y m
unfolding last_day
by_turns_lem y m l h n = sym (rw (ne_eqb m 2 n)) ∙ last_day_lem y m l h
