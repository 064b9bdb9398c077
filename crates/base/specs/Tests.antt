-- Laws of tests: what follows from a test that holds, and which tests are equal.
use Rattle.std.specs.Prelude.{◌≡◌, refl, Bool, true, false, not, ◌&&◌, ◌||◌, T}
use Rattle.std.proofs.Common.{subst}
use Rattle.std.proofs.Math.Option.{Option, none, some}
use Rattle.base.specs.Lists.{ask, some?}

-- both tests hold where each does
pub and_in : (a b : Bool) → T a → T b → T (a && b)
and_in true b s t = t
and_in false b s t = absurd s

-- the first of two that hold
pub and_l : (a b : Bool) → T (a && b) → T a
and_l true b t = tt
and_l false b t = absurd t

-- the second of two that hold
pub and_r : (a b : Bool) → T (a && b) → T b
and_r true b t = t
and_r false b t = absurd t

pub ruleset bools = (and_in, and_l, and_r)

-- one of two holds where the first does
pub or_l : (a b : Bool) → T a → T (a || b)
or_l true b t = tt
or_l false b t = absurd t

-- or where the second does
pub or_r : (a b : Bool) → T b → T (a || b)
or_r true b t = tt
or_r false b t = t

-- what follows from each follows from one of two that holds
pub or_out : (a b c : Bool) → (T a → T c) → (T b → T c) → T (a || b) → T c
or_out true b c f g t = f tt
or_out false b c f g t = g t

-- the second holds wherever the first does
pub or_not : (a b : Bool) → T (not a || b) → T a → T b
or_not true b h t = h
or_not false b h t = absurd t

-- two tests that imply one another are equal
pub same_test : (a b : Bool) → (T a → T b) → (T b → T a) → a ≡ b
same_test true true f g = refl
same_test true false f g = absurd (f tt)
same_test false true f g = absurd (g tt)
same_test false false f g = refl

-- a second test counts only where the first holds
pub and_cong : (a b c : Bool) → (T a → b ≡ c) → (a && b) ≡ (a && c)
and_cong true b c f = f tt
and_cong false b c f = refl

-- a test that holds is true
pub T_true : (b : Bool) → T b → b ≡ true
T_true true t = refl
T_true false t = absurd t

-- a test whose opposite holds is false
pub T_false : (b : Bool) → T (not b) → b ≡ false
T_false true t = absurd t
T_false false t = refl

-- a value is not the lack of one
pub some≢none : {A : Type 0} {a : A} → some a ≡ none → ⊥
some≢none e = subst (λ o. T (some? o)) e tt

-- ---- questions in order

-- where the test holds, the rest is asked
pub ask_ok : {A : Type 0} (b : Bool) (f : A) (rest : Option A) → T b → ask b f rest ≡ rest
unfolding ask
ask_ok true f rest t = refl
ask_ok false f rest t = absurd t

-- no fault: the test holds, and the rest finds none
pub ok_ask : {A : Type 0} (b : Bool) (f : A) (rest : Option A) → ask b f rest ≡ none → T b × (rest ≡ none)
unfolding ask
ok_ask true f rest e = (tt, e)
ok_ask false f rest e = absurd (some≢none e)
