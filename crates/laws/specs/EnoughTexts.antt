-- Paper 02, request 01: whatever begins a text, or one of a list of values, goes on with the end of a sample.
use Rattle.std.specs.Prelude.{◌≡◌, Bool, not, ◌&&◌, ◌⊎◌, ℕ, T, eqb, length, drop, get_or}
use Rattle.std.proofs.Math.Path.{refl}
use Rattle.std.proofs.Common.{sym, ap, ap₂, inl, inr, arith, length-append}
use Rattle.std.proofs.Math.Bool.{false, and-false}
use mathlib.Core.List.{List, [], ◌∷◌, ◌++◌, append-nil, append_assoc, map}
use Rattle.base.specs.Lists.{same, bytes}
use Rattle.base.specs.Tests.{and_in, and_l, and_r, or_r, or_out}
use Rattle.base.specs.ListLaws.{same_eq}
use Rattle.meaning.specs.Forms.{text, quoted, inside, TextRule, is_text, one_of}
use Rattle.meaning.specs.Place.{begins, sample_characters, samples}
use Rattle.laws.specs.PlaceLaws.{begins_first, begins_sample, begins_now, begins_later, begins_quoted, EnoughAt, Enough}
use Rattle.laws.specs.EnoughNumbers.{no_bytes}
use Rattle.laws.specs.ContentLaws.{text_in_lem, text_quoted, text_content, Ruled}

-- ---- one of a list of values

-- each value is sound and a sample
enough_among : (sound : List ℕ → Bool) (vs : List (List ℕ)) → ((f : List ℕ) → T (one_of vs f) → T (sound f)) → (p r : List ℕ) → T (one_of vs (p ++ r)) → T (begins sound vs p)
unfolding one_of
enough_among sound [] w p r t = absurd t
enough_among sound (v ∷ vs) w p r t =
    or_out (same (p ++ r) v) (one_of vs (p ++ r)) (begins sound (v ∷ vs) p)
    (λ u. begins_sample sound p r v vs (same_eq (p ++ r) v u) (w (p ++ r) t))
    (λ u. begins_later sound p v vs (enough_among sound vs (λ f k. w f (or_r (same f v) (one_of vs f) k)) p r u)) t

-- so the values are enough
pub enough_one : (vs : List (List ℕ)) → Enough (one_of vs) vs
enough_one vs p r t = enough_among (one_of vs) vs (λ f u. u) p r t

-- ---- T w

-- bytes that begin what ends in x are all of it, or begin what stands before x
cut : (q r t : List ℕ) (x : ℕ) → q ++ r ≡ t ++ (x ∷ []) → (r ≡ []) ⊎ ((u : List ℕ) × (t ≡ q ++ u))
cut [] r t x e = inr (t, refl)
cut (y ∷ q) r [] x e = inl (no_bytes r (omega (arith, ap length e, length-append q r)))
cut (y ∷ q) r (z ∷ t) x e = go (cut q r t x (ap (λ l. drop 1 l) e))
  where
    go : (r ≡ []) ⊎ ((u : List ℕ) × (t ≡ q ++ u)) → (r ≡ []) ⊎ ((u : List ℕ) × (z ∷ t ≡ y ∷ (q ++ u)))
    go (inl h) = inl h
    go (inr v) = inr (v.0, ap₂ (λ a l. a ∷ l) (sym (ap (λ l. get_or l 0 0) e)) v.1)

module _ (rule : TextRule) where
  -- a text, and what stands between its quotes
  record Text (w : ℕ) (f : List ℕ) : Type 0 where
    within : List ℕ
    is : f ≡ quoted within
    sound : T (rule w within)

  text_out : (w : ℕ) (f : List ℕ) → T (is_text rule w f) → Text w f
  text_out w f t = record { within = inside f; is = text_quoted rule w f t; sound = text_content rule w f t }

  -- a filled text
  unfoldable pub filled_text : ℕ → List ℕ → Bool
  filled_text w f = is_text rule w f && not (same f (34 ∷ 34 ∷ []))

  -- something in quotes is one
  filled_in_lem : (w x : ℕ) (u : List ℕ) → T (rule w (x ∷ u)) → T (filled_text w (quoted (x ∷ u)))
  unfolding filled_text same
  filled_in_lem w x u c = and_in (is_text rule w (quoted (x ∷ u))) _ (text_in_lem rule w (x ∷ u) c) (rw (more u, and-false (eqb x 34)) tt)
    where
      more : (u : List ℕ) → same (u ++ (34 ∷ [])) [] ≡ false
      more [] = refl
      more (y ∷ u) = refl

  module _ (ruled : Ruled rule) where
    -- between its quotes is something, so a letter may stand there
    filled_one : (w : ℕ) (f u : List ℕ) → f ≡ quoted u → T (rule w u) → T (filled_text w f) → T (rule w (97 ∷ []))
    unfolding filled_text same
    filled_one w f [] e c t = absurd (and_r (is_text rule w (34 ∷ 34 ∷ [])) (not (same (34 ∷ 34 ∷ []) (34 ∷ 34 ∷ []))) (rw e at t))
    filled_one w f (x ∷ u) e c t = ruled.one w x u c

    -- no bytes go on with "a", a quote with a", and a quote and more with what goes on between the quotes, and then the closing quote
    pub text_at :
        (w : ℕ) (ls : List (List ℕ)) (p : List ℕ) → EnoughAt (rule w) (bytes "a" ∷ ls) (drop 1 p)
        → EnoughAt (filled_text w) (map quoted (bytes "a" ∷ ls)) p
    unfolding bytes filled_text
    text_at w ls p goes r t = go p goes o.is t (cut' p o.is)
      where
        o : Text w (p ++ r)
        o = text_out w (p ++ r) (and_l (is_text rule w (p ++ r)) (not (same (p ++ r) (34 ∷ 34 ∷ []))) t)

        s : List ℕ
        s = 34 ∷ 97 ∷ 34 ∷ []

        ss : List (List ℕ)
        ss = map quoted ls

        u : List ℕ
        u = o.within

        Cut : List ℕ → Type 0
        Cut q = (r ≡ []) ⊎ ((v : List ℕ) × (u ≡ q ++ v))

        one : T (rule w (97 ∷ []))
        one = filled_one w (p ++ r) u o.is o.sound t

        cut' : (p : List ℕ) → p ++ r ≡ quoted u → Cut (drop 1 p)
        cut' [] e = inr (u, refl)
        cut' (y ∷ q) e = cut q r u 34 (ap (λ l. drop 1 l) e)

        after : (x : ℕ) (q h : List ℕ) → T (rule w ((x ∷ q) ++ h)) → T (filled_text w (34 ∷ ((x ∷ q) ++ (h ++ (34 ∷ [])))))
        after x q h c = rw (← append_assoc (x ∷ q) h (34 ∷ [])) (filled_in_lem w x (q ++ h) c)

        go :
            (p : List ℕ) → EnoughAt (rule w) (bytes "a" ∷ ls) (drop 1 p) → p ++ r ≡ quoted u → T (filled_text w (p ++ r)) → Cut (drop 1 p)
            → T (begins (filled_text w) (s ∷ ss) p)
        go [] g e t v = begins_first (filled_text w) [] s ss 0 (filled_in_lem w 97 [] one)
        go (y ∷ q) g e t (inl h) = begins_now (filled_text w) (y ∷ q) s ss (rw (h, append-nil q) at t)
        go (y ∷ []) g e t (inr v) = begins_first (filled_text w) (y ∷ []) s ss 1 (rw (ap (λ l. get_or l 0 0) e) (filled_in_lem w 97 [] one))
        go (y ∷ (x ∷ q)) g e t (inr v) =
            rw (ap (λ l. get_or l 0 0) e)
            (begins_quoted (rule w) (filled_text w) (x ∷ q) (34 ∷ (x ∷ q)) (after x q) (bytes "a" ∷ ls) (g v.0 (rw v.1 at o.sound)))

    -- so the samples are enough
    pub enough_text : (w : ℕ) → Enough (filled_text w) (samples (text w))
    unfolding samples sample_characters
    enough_text w p = text_at w _ p (ruled.goes w (drop 1 p))
