-- The laws of lines: by which the loops go, and how offsets stand to the lines that the meaning says.
use mathlib.Core.Path.{◌≡◌, refl, ap, ◌∙◌, sym}
use mathlib.Core.Bool.{Bool, true, false, not, ◌&&◌}
use mathlib.Core.List.{List, [], ◌∷◌}
use Prim.Native.Nat.{ℕ, suc, ◌+◌, ◌-◌, ◌≤◌, ◌<◌}
use native.Mathlib.Nat.{suc-add, add-zero}
use native.Mathlib.Omega.{arith}
use borrow.Author.Tests.{not-true, not-false, eq-eqb, ne_eqb, lt-ltb}
use borrow.Author.Rules.{rules}
use lib.Dec.{eqb, ltb, leb-suc-suc}
use lib.ListN.{length, get_or, drop, take, length-drop}
use lib.Seq.{drop-drop}
use Rattle.base.specs.Lists.{all, pick}
use Rattle.base.proofs.Walk.{at_cons, at_end_lem}
use Rattle.meaning.specs.Lines.{Line, grow, lines_of, plain, ends_well}
use Rattle.text.proofs.TailLaws.{tail, tail_below, tail_or, tail_end}
use Rattle.text.specs.Places.{ends_here, line_len, line_end, plain_len, plain_end}

-- ---- the walk of a line, i bytes on

-- a CR LF ends it
pub line_stop : (s : List ℕ) (i x : ℕ) (b : Bool) → line_end s i ≡ x → b ≡ ends_here (drop i s) → b ≡ true → i ≡ x
unfolding line_len
line_stop s i x b e q t = omega (arith, go (drop i s) (sym q ∙ t))
  where
    go : (l : List ℕ) → ends_here l ≡ true → line_len l ≡ 0
    go [] e = refl
    go (x ∷ r) e = rw e

-- any other byte is passed
pub line_turn : (s : List ℕ) (i x : ℕ) (b : Bool) → line_end s i ≡ x → i < length s → b ≡ ends_here (drop i s) → b ≡ false → line_end s (i + 1) ≡ x
unfolding line_len
line_turn s i x b e h q t = omega (arith, step)
  where
    step : line_len (drop i s) ≡ suc (line_len (drop (i + 1) s))
    step = rw (at_cons s i h) (rw (rw (at_cons s i h) at (sym q ∙ t)))

-- and so is a byte that is no CR
pub line_other : (s : List ℕ) (i x : ℕ) → line_end s i ≡ x → i < length s → (get_or s i 0 ≡ 13 → ⊥) → line_end s (i + 1) ≡ x
line_other s i x e h b = line_turn s i x false e h (sym (rw (at_cons s i h) (go (drop (i + 1) s)))) refl
  where
    go : (r : List ℕ) → ends_here (get_or s i 0 ∷ r) ≡ false
    go [] = refl
    go (y ∷ r) = rw (ne_eqb (get_or s i 0) 13 b)

-- so do the bytes' end
pub line_done : (s : List ℕ) (i x : ℕ) → line_end s i ≡ x → length s ≤ i → i ≤ length s → length s ≡ x
unfolding line_len
line_done s i x e h k = omega (arith, step)
  where
    step : line_len (drop i s) ≡ 0
    step = rw (at_end_lem s i h)

-- the same walk over the tail from `at` on
module _ (s : List ℕ) (at i : ℕ) (e : line_end s (at + i) ≡ line_end s at) where
  pub line_found : (b : Bool) → i < length (tail s at) → b ≡ ends_here (drop (at + i) s) → b ≡ true → (at + i ≡ line_end s at) × (at ≤ at + i) × (at + i ≤ length s)
  line_found b h q t = (line_stop s (at + i) _ b e q t, omega arith, omega (arith, tail_below s at i h))

  pub line_on : (b : Bool) → i < length (tail s at) → b ≡ ends_here (drop (at + i) s) → b ≡ false → line_end s (at + (i + 1)) ≡ line_end s at
  line_on b h q t = let n : at + (i + 1) ≡ at + i + 1 = omega arith in rw n (line_turn s (at + i) _ b e (tail_below s at i h) q t)

  pub line_on_other : i < length (tail s at) → (get_or (tail s at) i 0 ≡ 13 → ⊥) → line_end s (at + (i + 1)) ≡ line_end s at
  line_on_other h f = let n : at + (i + 1) ≡ at + i + 1 = omega arith in rw n (line_other s (at + i) _ e (tail_below s at i h) (λ z. f (tail_or s at i ∙ z)))

  pub line_none : at ≤ length s → length (tail s at) ≤ i → i ≤ length (tail s at) → length s ≡ line_end s at
  line_none h k l = let n = tail_end s at i h k l in line_done s (at + i) _ e (omega arith) (omega arith)

pub ruleset line = (rules, line_found, line_on, line_on_other, line_none)

-- ---- the lines of the meaning

-- a line is no longer than the bytes
pub line_len_le : (s : List ℕ) → line_len s ≤ length s
unfolding line_len
line_len_le [] = search rules
line_len_le (x ∷ r) = go (ends_here (x ∷ r)) (line_len_le r)
  where
    go : (b : Bool) → line_len r ≤ length r → pick b 0 (suc (line_len r)) ≤ suc (length r)
    go true h = omega arith
    go false h = omega arith

-- the first of the lines
abbrev pub first_line : List ℕ → Line
first_line s = record { text = take (line_len s) s; ended = ltb (line_len s) (length s) }

-- the first line, and what the others are the lines of
pub lines_next : (s : List ℕ) → 0 < length s → lines_of s ≡ first_line s ∷ lines_of (drop (line_len s + 2) s)
unfolding line_len lines_of grow
lines_next [] h = absurd (omega arith)
lines_next (x ∷ []) h = refl
lines_next (x ∷ (y ∷ r)) h = go (ends_here (x ∷ (y ∷ r))) (lines_next (y ∷ r) (omega arith))
  where
    n : ℕ
    n = line_len (y ∷ r)

    go :
        (b : Bool) →
        lines_of (y ∷ r) ≡ first_line (y ∷ r) ∷ lines_of (drop (n + 2) (y ∷ r)) →
        pick b (record { text = []; ended = true } ∷ lines_of r) (grow x (lines_of (y ∷ r)))
        ≡ record { text = take (pick b 0 (suc n)) (x ∷ (y ∷ r)); ended = ltb (pick b 0 (suc n)) (suc (suc (length r))) }
        ∷ lines_of (drop (pick b 0 (suc n) + 2) (x ∷ (y ∷ r)))
    go true e = rw (lt-ltb 0 (suc (suc (length r))) (omega arith))
    go false e = rw (e, suc-add n 2, leb-suc-suc (suc n) (suc (length r)))

-- the same at an offset
pub lines_at :
    (s : List ℕ) (at : ℕ) → at < length s
    → lines_of (drop at s)
    ≡ record { text = take (line_len (drop at s)) (drop at s); ended = ltb (line_len (drop at s)) (length (drop at s)) }
    ∷ lines_of (drop (at + (line_len (drop at s) + 2)) s)
lines_at s at h = lines_next (drop at s) (simp length-drop (omega arith)) ∙ rw (drop-drop (line_len (drop at s) + 2) at s)

-- past the end there are none
pub lines_end : (s : List ℕ) (at : ℕ) → length s ≤ at → lines_of (drop at s) ≡ []
unfolding lines_of
lines_end s at h = rw (at_end_lem s at h)

-- ---- the walk over bytes that are neither CR nor LF, i bytes on

-- a CR or LF ends it
pub plain_stop : (s : List ℕ) (i x : ℕ) (b : Bool) → plain_end s i ≡ x → i < length s → b ≡ plain (get_or s i 0) → b ≡ false → i ≡ x
unfolding plain_len
plain_stop s i x b e h q t = sym (add-zero i) ∙ (rw (at_cons s i h, sym q ∙ t) at e)

-- another byte is passed
pub plain_turn : (s : List ℕ) (i x : ℕ) (b : Bool) → plain_end s i ≡ x → i < length s → b ≡ plain (get_or s i 0) → b ≡ true → plain_end s (i + 1) ≡ x
unfolding plain_len
plain_turn s i x b e h q t = omega (arith, rw (at_cons s i h, sym q ∙ t) at e)

-- so do the bytes' end
pub plain_done : (s : List ℕ) (i x : ℕ) → plain_end s i ≡ x → length s ≤ i → i ≤ length s → length s ≡ x
unfolding plain_len
plain_done s i x e h k = omega (arith, rw (at_end_lem s i h) at e)

-- the same walk over the tail from `at` on
module _ (s : List ℕ) (at i : ℕ) (e : plain_end s (at + i) ≡ plain_end s at) where
  pub plain_found : (b : Bool) → i < length (tail s at) → b ≡ plain (get_or (tail s at) i 0) → b ≡ false → (at + i ≡ plain_end s at) × (at ≤ at + i) × (at + i ≤ length s)
  plain_found b h q t = let l = tail_below s at i h in (plain_stop s (at + i) _ b e l (q ∙ ap plain (tail_or s at i)) t, omega arith, omega arith)

  pub plain_on : (b : Bool) → i < length (tail s at) → b ≡ plain (get_or (tail s at) i 0) → b ≡ true → plain_end s (at + (i + 1)) ≡ plain_end s at
  plain_on b h q t = let n : at + (i + 1) ≡ at + i + 1 = omega arith in rw n (plain_turn s (at + i) _ b e (tail_below s at i h) (q ∙ ap plain (tail_or s at i)) t)

  pub plain_none : at ≤ length s → length (tail s at) ≤ i → i ≤ length (tail s at) → length s ≡ plain_end s at
  plain_none h k l = let n = tail_end s at i h k l in plain_done s (at + i) _ e (omega arith) (omega arith)

pub ruleset plains = (rules, not-true, not-false, plain_found, plain_on, plain_none)

-- ---- a line that ends well is one that its first CR or LF ends

-- no CR LF begins with a plain byte
plain_here : (x : ℕ) (r : List ℕ) → plain x ≡ true → ends_here (x ∷ r) ≡ false
unfolding plain
plain_here x [] p = refl
plain_here x (y ∷ r) p = go (eqb x 13) p
  where
    go : (b : Bool) → (not b && not (eqb x 10)) ≡ true → (b && eqb y 10) ≡ false
    go true q = let z : ◌≡◌ {A = Bool} false true = q in cc
    go false q = refl

-- the first line ends well where a CR LF is the first CR or LF
plain_ends : (s : List ℕ) → ends_well (first_line s) ≡ ends_here (drop (plain_len s) s)
unfolding line_len plain_len ends_well
plain_ends [] = refl
plain_ends (x ∷ r) = go (plain x) refl (ends_here (x ∷ r)) refl (plain_ends r)
  where
    go : (b : Bool) → plain x ≡ b → (c : Bool) → ends_here (x ∷ r) ≡ c → ends_well (first_line r) ≡ ends_here (drop (plain_len r) r) →
        (ltb (pick c 0 (suc (line_len r))) (suc (length r)) && all plain (take (pick c 0 (suc (line_len r))) (x ∷ r))) ≡ ends_here (drop (pick b (suc (plain_len r)) 0) (x ∷ r))
    go true p true q e = let z : ◌≡◌ {A = Bool} true false = sym q ∙ plain_here x r p in cc
    go true p false q e = rw (p, leb-suc-suc (suc (line_len r)) (length r)) e
    go false p true q e = rw (q, lt-ltb 0 (suc (length r)) (omega arith))
    go false p false q e = rw (q, p) (none (ltb (suc (line_len r)) (suc (length r))))
      where
        none : (b : Bool) → (b && false) ≡ false
        none true = refl
        none false = refl

-- and then it ends there
plain_length : (s : List ℕ) → ends_here (drop (plain_len s) s) ≡ true → line_len s ≡ plain_len s
unfolding line_len plain_len
plain_length [] h = refl
plain_length (x ∷ r) h = go (plain x) refl h (plain_length r)
  where
    go : (b : Bool) → plain x ≡ b → ends_here (drop (pick b (suc (plain_len r)) 0) (x ∷ r)) ≡ true → (ends_here (drop (plain_len r) r) ≡ true → line_len r ≡ plain_len r) →
        pick (ends_here (x ∷ r)) 0 (suc (line_len r)) ≡ pick b (suc (plain_len r)) 0
    go true p q e = rw (plain_here x r p, e q)
    go false p q e = rw q

-- the byte after the plain ones, at an offset
plain_at : (s : List ℕ) (at e : ℕ) → e ≡ plain_end s at → drop (plain_len (drop at s)) (drop at s) ≡ drop e s
plain_at s at e q = drop-drop (plain_len (drop at s)) at s ∙ rw q

-- the line at an offset ends well where the first CR or LF after it is a CR LF
pub ends_well_at : (s : List ℕ) (at e : ℕ) → e ≡ plain_end s at → ends_well (first_line (drop at s)) ≡ ends_here (drop e s)
ends_well_at s at e q = plain_ends (drop at s) ∙ ap ends_here (plain_at s at e q)

-- and then it ends there
pub ends_there : (s : List ℕ) (at e : ℕ) → e ≡ plain_end s at → ends_here (drop e s) ≡ true → line_len (drop at s) ≡ e - at
ends_there s at e q h = plain_length (drop at s) (ap ends_here (plain_at s at e q) ∙ h) ∙ omega arith
