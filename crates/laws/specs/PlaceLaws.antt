-- Paper 02, request 01: the place of the definition is the place that is asked for, over any test of a field and samples that are enough; and no other number is.
use Rattle.std.specs.Prelude.{◌≡◌, Bool, ◌||◌, take, drop}
use Rattle.std.proofs.Math.Path.{refl}
use Rattle.std.proofs.Common.{sym, ◌∙◌, take-append-drop, take-take}
use Rattle.std.proofs.Math.Bool.{true, false}
use mathlib.Core.List.{List, [], ◌∷◌, ◌++◌, append-nil, append_assoc, map}
use Prim.Native.Nat.{ℕ, zero, suc, ◌+◌, ◌-◌, ◌≤◌, ◌<◌}
use Rattle.std.proofs.Math.Decide.{dec_le}
use native.Mathlib.Omega.{arith}
use Rattle.std.proofs.Math.Dec.{T}
use Rattle.std.proofs.Math.ListN.{length}
use Rattle.std.proofs.Math.Seq.{drop-length, drop-append_seam}
use Rattle.base.specs.Lists.{pick}
use Rattle.base.specs.Tests.{or_l, or_r, or_out, T_true}
use Rattle.meaning.specs.Forms.{quoted}
use Rattle.meaning.specs.Place.{goes_on, begins, reach, place}
use Rattle.laws.specs.Placed.{Stops, Placed}

-- whatever follows from each of two tests follows where one of them holds (or-out says it of tests alone)
either : {X : Type 0} (a b : Bool) → (T a → X) → (T b → X) → T (a || b) → X
either true b f g t = f tt
either false b f g t = g t

-- ---- what begins a sound field

module _ (sound : List ℕ → Bool) where
  -- an end of the sample goes on
  goes_drop : (p s : List ℕ) (n : ℕ) → T (sound (p ++ drop n s)) → T (goes_on sound p s)
  unfolding goes_on
  goes_drop p [] zero t = rw append-nil at t
  goes_drop p [] (suc n) t = rw append-nil at t
  goes_drop p (x ∷ s) zero t = or_l (sound (p ++ (x ∷ s))) (goes_on sound p s) t
  goes_drop p (x ∷ s) (suc n) t = or_r (sound (p ++ (x ∷ s))) (goes_on sound p s) (goes_drop p s n t)

  -- what goes on has a rest
  goes_rest : (p s : List ℕ) → T (goes_on sound p s) → (r : List ℕ) × T (sound (p ++ r))
  unfolding goes_on
  goes_rest p [] t = ([], rw append-nil t)
  goes_rest p (x ∷ s) t = either (sound (p ++ (x ∷ s))) (goes_on sound p s) (λ u. (x ∷ s, u)) (goes_rest p s) t

  -- the end of a first sample goes on
  pub begins_first : (p s : List ℕ) (ss : List (List ℕ)) (n : ℕ) → T (sound (p ++ drop n s)) → T (begins sound (s ∷ ss) p)
  unfolding begins
  begins_first p s ss n t = or_l (goes_on sound p s) (begins sound ss p) (goes_drop p s n t)

  -- the bytes begin the sample itself, and it is sound
  pub begins_sample : (p r s : List ℕ) (ss : List (List ℕ)) → p ++ r ≡ s → T (sound (p ++ r)) → T (begins sound (s ∷ ss) p)
  begins_sample p r s ss e t = begins_first p s ss (length p) (rw (sym e, drop-append_seam p r) t)

  -- nothing more is needed
  pub begins_now : (p s : List ℕ) (ss : List (List ℕ)) → T (sound p) → T (begins sound (s ∷ ss) p)
  begins_now p s ss t = begins_first p s ss (length s) (rw (drop-length, append-nil) t)

  -- or the end of a later one does
  pub begins_later : (p s : List ℕ) (ss : List (List ℕ)) → T (begins sound ss p) → T (begins sound (s ∷ ss) p)
  unfolding begins
  begins_later p s ss t = or_r (goes_on sound p s) (begins sound ss p) t

  -- what begins a sound field has a rest that makes it sound
  pub begins_rest : (p : List ℕ) (ss : List (List ℕ)) → T (begins sound ss p) → (r : List ℕ) × T (sound (p ++ r))
  unfolding begins
  begins_rest p [] t = absurd t
  begins_rest p (s ∷ ss) t = either (goes_on sound p s) (begins sound ss p) (goes_rest p s) (begins_rest p ss) t

-- what goes on after q for one test goes on after p for another
pub begins_carry :
    (a b : List ℕ → Bool) (q p : List ℕ) → ((e : List ℕ) → T (a (q ++ e)) → T (b (p ++ e))) → (ss : List (List ℕ)) → T (begins a ss q) → T (begins b ss p)
unfolding begins goes_on
begins_carry a b q p w [] t = absurd t
begins_carry a b q p w (s ∷ ss) t =
    or_out (goes_on a q s) (begins a ss q) (begins b (s ∷ ss) p) (λ u. or_l (goes_on b p s) (begins b ss p) (goes s u))
    (λ u. or_r (goes_on b p s) (begins b ss p) (begins_carry a b q p w ss u)) t
  where
    goes : (s : List ℕ) → T (goes_on a q s) → T (goes_on b p s)
    goes [] u = rw append-nil at (w [] (rw append-nil u))
    goes (x ∷ s) u =
        or_out (a (q ++ (x ∷ s))) (goes_on a q s) (goes_on b p (x ∷ s)) (λ v. or_l (b (p ++ (x ∷ s))) (goes_on b p s) (w (x ∷ s) v))
        (λ v. or_r (b (p ++ (x ∷ s))) (goes_on b p s) (goes s v)) u

-- what goes on after q for one test goes on after p, and then with a quote, for another
pub begins_quoted :
    (a b : List ℕ → Bool) (q p : List ℕ) → ((e : List ℕ) → T (a (q ++ e)) → T (b (p ++ (e ++ (34 ∷ []))))) → (ss : List (List ℕ))
    → T (begins a ss q) → T (begins b (map quoted ss) p)
unfolding begins goes_on
begins_quoted a b q p w [] t = absurd t
begins_quoted a b q p w (s ∷ ss) t =
    or_out (goes_on a q s) (begins a ss q) (begins b (map quoted (s ∷ ss)) p)
    (λ u. or_l (goes_on b p (quoted s)) (begins b (map quoted ss) p) (or_r (b (p ++ quoted s)) (goes_on b p (s ++ (34 ∷ []))) (goes s u)))
    (λ u. or_r (goes_on b p (quoted s)) (begins b (map quoted ss) p) (begins_quoted a b q p w ss u)) t
  where
    goes : (s : List ℕ) → T (goes_on a q s) → T (goes_on b p (s ++ (34 ∷ [])))
    goes [] u = goes_drop b p (34 ∷ []) 0 (w [] (rw append-nil u))
    goes (x ∷ s) u =
        let more = b (p ++ (x ∷ (s ++ (34 ∷ [])))) in
        let less = goes_on b p (s ++ (34 ∷ [])) in
        or_out (a (q ++ (x ∷ s))) (goes_on a q s) (more || less) (λ v. or_l more less (w (x ∷ s) v)) (λ v. or_r more less (goes s v)) u

-- the samples are enough for p: where some rest makes it sound, it goes on with the end of one of them
abbrev pub EnoughAt : (List ℕ → Bool) → List (List ℕ) → List ℕ → Type 0
EnoughAt sound ss p = (r : List ℕ) → T (sound (p ++ r)) → T (begins sound ss p)

-- they are enough: whatever begins a sound field goes on with the end of one of them
abbrev pub Enough : (List ℕ → Bool) → List (List ℕ) → Type 0
Enough sound ss = (p : List ℕ) → EnoughAt sound ss p

-- ---- how far the bytes go on

-- n of the bytes f go on after p: with them p still begins a sound field, with one more it does not
record Goes (begun : List ℕ → Bool) (p f : List ℕ) (n : ℕ) : Type 0 where
  at_most : n ≤ length f
  still : T (begun p) → T (begun (p ++ take n f))
  no_more : n < length f → T (begun (p ++ take (suc n) f)) → ⊥

-- as many as `reach` says
goes : (begun : List ℕ → Bool) (p f : List ℕ) → Goes begun p f (reach begun p f)
unfolding reach
goes begun p [] = record { at_most = omega arith; still = λ t. rw append-nil t; no_more = λ h. absurd (omega arith) }
goes begun p (x ∷ f) = go (begun (p ++ (x ∷ []))) refl (reach begun (p ++ (x ∷ [])) f) (goes begun (p ++ (x ∷ [])) f)
  where
    next : (u : List ℕ) → (p ++ (x ∷ [])) ++ u ≡ p ++ (x ∷ u)
    next u = append_assoc p (x ∷ []) u

    go : (b : Bool) → begun (p ++ (x ∷ [])) ≡ b → (n : ℕ) → Goes begun (p ++ (x ∷ [])) f n → Goes begun p (x ∷ f) (pick b (suc n) 0)
    go true e n g = record {
      at_most = omega (arith, g.at_most);
      still = λ t. rw (next (take n f)) at (g.still (rw e tt));
      no_more = λ h t. g.no_more (omega arith) (rw (next (take (suc n) f)) t);
    }
    go false e n g = record {
      at_most = omega arith;
      still = λ t. rw append-nil t;
      no_more = λ h t. absurd (rw e at t);
    }

-- ---- what the place is, over any samples

module _ (sound : List ℕ → Bool) (ss : List (List ℕ)) where
  -- a sound field has none
  pub place_none : (f : List ℕ) → T (sound f) → place sound ss f ≡ 0
  unfolding place
  place_none f t = rw (T_true (sound f) t)

  -- a field that has none is sound
  pub none_place : (f : List ℕ) → place sound ss f ≡ 0 → T (sound f)
  unfolding place
  none_place f = go (sound f)
    where
      go : (b : Bool) → pick b 0 (suc (reach (begins sound ss) [] f)) ≡ 0 → T b
      go true e = tt
      go false e = absurd (omega (arith, e))

  -- it is at most one past the end
  pub place_most : (f : List ℕ) → place sound ss f ≤ length f + 1
  unfolding place
  place_most f = go (sound f)
    where
      go : (b : Bool) → pick b 0 (suc (reach (begins sound ss) [] f)) ≤ length f + 1
      go true = omega arith
      go false = omega (arith, (goes (begins sound ss) [] f).at_most)

-- ---- what it is, where the samples are enough

module _ (sound : List ℕ → Bool) (ss : List (List ℕ)) (enough : Enough sound ss) where
  -- where there is a sound field at all, it is what the request says
  pub place_is : T (begins sound ss []) → (f : List ℕ) → Placed sound f (place sound ss f)
  unfolding place
  place_is able f = go (sound f) refl
    where
      n : ℕ
      n = reach (begins sound ss) [] f

      g : Goes (begins sound ss) [] f n
      g = goes (begins sound ss) [] f

      go : (b : Bool) → sound f ≡ b → Placed sound f (pick b 0 (suc n))
      go true e = record { none = λ t. refl; some = λ t. absurd (rw e at t) }
      go false e = record {
        none = λ t. absurd (rw e at t);
        some = λ t. record {
          from1 = omega arith;
          at_most = omega (arith, g.at_most);
          before = let z : suc n - 1 ≡ n = omega arith in rw z (begins_rest sound (take n f) ss (g.still able));
          here = λ h r u. g.no_more (omega arith) (enough (take (suc n) f) r u);
        };
      }

-- ---- and nothing else is

-- a rest after more bytes is a rest after fewer
shorter : (sound : List ℕ → Bool) (f : List ℕ) (p n : ℕ) (r : List ℕ) → p ≤ n → T (sound (take n f ++ r)) → (s : List ℕ) × T (sound (take p f ++ s))
shorter sound f p n r h t = (drop p (take n f) ++ r, rw (← append_assoc (take p f) (drop p (take n f)) r, whole) t)
  where
    whole : take p f ++ drop p (take n f) ≡ take n f
    whole = rw (← take-take p n f h) (take-append-drop p (take n f))

-- no place is before another
not_before : (sound : List ℕ → Bool) (f : List ℕ) (p q : ℕ) → Stops sound f p → Stops sound f q → p < q → ⊥
not_before sound f p q a b h =
    let s = shorter sound f p (q - 1) b.before.0 (omega arith) b.before.1 in
    a.here (omega (arith, b.at_most)) s.0 s.1

-- two numbers that are the place of a field are equal
pub placed_once : (sound : List ℕ → Bool) (f : List ℕ) (p q : ℕ) → Placed sound f p → Placed sound f q → p ≡ q
placed_once sound f p q a b = go (sound f) refl
  where
    same : Stops sound f p → Stops sound f q → p ≡ q
    same u v =
        elim (dec_le p q) [
          | yes h ↦ elim (dec_le q p) [ yes k ↦ omega arith | no k ↦ absurd (not_before sound f p q u v (omega arith)) ]
          | no h ↦ absurd (not_before sound f q p v u (omega arith))
        ]

    go : (c : Bool) → sound f ≡ c → p ≡ q
    go true e = a.none (rw e tt) ∙ sym (b.none (rw e tt))
    go false e = same (a.some (rw e tt)) (b.some (rw e tt))
