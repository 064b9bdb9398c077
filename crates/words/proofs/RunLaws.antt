-- The laws of a run of bytes of one class: the bytes up to the lowest mark are of the class.
use mathlib.Core.Path.{◌≡◌, subst}
use mathlib.Core.Bool.{Bool, true, false, ◌&&◌}
use mathlib.Core.List.{List, [], ◌∷◌}
use Prim.Native.Nat.{ℕ, zero, suc, ◌+◌, ◌-◌, ◌*◌, ◌/◌, ◌≤◌}
use native.Mathlib.Omega.{arith}
use borrow.Author.Rules.{rules}
use lib.Count.{count_trailing_zeros}
use lib.Dec.{T}
use lib.ListN.{take, drop}
use lib.Seq.{take-add, drop-drop}
use Rattle.base.specs.Lists.{pick, all}
use Rattle.base.specs.ListLaws.{all_append}
use Rattle.words.specs.Words.{run, upto}
use Rattle.words.proofs.LaneLaws.{mark_none}

-- those of a run pass the test, as many of them as are asked for
run_all : (p : ℕ → Bool) (k n : ℕ) (l : List ℕ) → n ≤ run p (take k l) → T (all p (take n l))
unfolding run
run_all p k zero l h = tt
run_all p k (suc n) [] h = tt
run_all p zero (suc n) (x ∷ l) h = absurd (omega arith)
run_all p (suc k) (suc n) (x ∷ l) h = go (p x) (λ q. run_all p k n l q) h
  where
    go : (b : Bool) → (n ≤ run p (take k l) → T (all p (take n l))) → suc n ≤ pick b (suc (run p (take k l))) 0 → T (b && all p (take n l))
    go true f q = f (omega arith)
    go false f q = absurd (omega arith)

-- at the start none is passed
pub run_none : (p : ℕ → Bool) (s : List ℕ) (at : ℕ) → T (all p (upto s at at))
run_none p s at = let z : at - at ≡ 0 = omega arith in rw z tt

module _
    (p : ℕ → Bool) (s : List ℕ) (at i m : ℕ) (h : at ≤ i) (t : T (all p (upto s at i)))
    (q : count_trailing_zeros 64 m / 8 ≡ run p (take 8 (drop i s)))
  where
    -- so many more
    more : (n : ℕ) → n ≤ run p (take 8 (drop i s)) → T (all p (upto s at (i + n)))
    more n k =
        let e : i + n - at ≡ i - at + n = omega arith in
        let f : at + (i - at) ≡ i = omega arith in
        rw (e, take-add (i - at) n (drop at s), drop-drop (i - at) at s, f)
        (all_append p (upto s at i) (take n (drop i s)) t (run_all p 8 n (drop i s) k))

    -- no mark: eight more
    pub run_eight : m ≡ 0 → T (all p (upto s at (i + 8)))
    run_eight z = more 8 (omega (arith, q, mark_none m z))

    -- a mark: the last few
    pub run_last : (n : ℕ) → n ≡ count_trailing_zeros 64 m / 8 → T (all p (upto s at (i + n)))
    run_last n k = more n (omega arith)

-- ---- word by word

-- k words are passed: with no mark in the next, one more
pub run_turn :
    (p : ℕ → Bool) (s : List ℕ) (at k m : ℕ) → T (all p (upto s at (at + 8 * k))) → count_trailing_zeros 64 m / 8 ≡ run p (take 8 (drop (at + 8 * k) s))
    → m ≡ 0 → T (all p (upto s at (at + 8 * (k + 1))))
run_turn p s at k m t q z =
    let e : at + 8 * k + 8 ≡ at + 8 * (k + 1) = omega arith in
    subst (λ x. T (all p (upto s at x))) e (run_eight p s at (at + 8 * k) m (omega arith) t q z)

pub ruleset running = (rules, run_none, run_eight, run_last)
